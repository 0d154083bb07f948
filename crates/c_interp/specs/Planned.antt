-- Which tasks are planned with those of places.
use Rattle.c_tasks.specs.declared.task.Task.{Task}
use Rattle.c_tasks.specs.declared.task.Task.TheVariants as task
use Rattle.c_tasks.specs.Plans.{IsOfCall}

-- a task of a place, of a pointer or of an object, or one of a call or an end
abbrev pub IsAtPlace : Task → Type 0
IsAtPlace (task.Place p finish) = Unit {0}
IsAtPlace (task.Store line t p) = Unit {0}
IsAtPlace (task.Rewrite line t p at) = Unit {0}
IsAtPlace (task.Combine line t p op u) = Unit {0}
IsAtPlace (task.Increment line t p op before at) = Unit {0}
IsAtPlace (task.Move line n is_element swapped) = Unit {0}
IsAtPlace (task.Land line n is_element swapped) = Unit {0}
IsAtPlace (task.Advance line p n before at) = Unit {0}
IsAtPlace (task.Arrive line p n before at) = Unit {0}
IsAtPlace (task.Try line zeroed) = Unit {0}
IsAtPlace (task.DrawWords words size line) = Unit {0}
IsAtPlace (task.Make line) = Unit {0}
IsAtPlace t = IsOfCall t
