-- Which tasks may ask for an action, so that an answer comes to them.
use Rattle.core_tree.specs.Trees.{Expression, read, assign, update, step, sum, pointer_update, pointer_step, allocate, allocate_zeroed, release, exit, abort}
use Rattle.c_tasks.specs.declared.task.Task.{Task}
use Rattle.c_tasks.specs.declared.task.Task.TheVariants as task

-- an expression whose operands are evaluated
abbrev pub IsAsking : Expression → Type 0
IsAsking (read t p) = Unit {0}
IsAsking (assign line t p e) = Unit {0}
IsAsking (update line t p op u e) = Unit {0}
IsAsking (step line t p op before) = Unit {0}
IsAsking (sum line a e n swapped) = Unit {0}
IsAsking (pointer_update line p n e) = Unit {0}
IsAsking (pointer_step line p n before) = Unit {0}
IsAsking (allocate line e) = Unit {0}
IsAsking (allocate_zeroed line a b) = Unit {0}
IsAsking (release line e) = Unit {0}
IsAsking (exit line e) = Unit {0}
IsAsking (abort line) = Unit {0}
IsAsking _ = ⊥

-- of those the ones over pointers and objects
abbrev pub IsOfPointers : Expression → Type 0
IsOfPointers (sum line a e n swapped) = Unit {0}
IsOfPointers (pointer_update line p n e) = Unit {0}
IsOfPointers (pointer_step line p n before) = Unit {0}
IsOfPointers (allocate line e) = Unit {0}
IsOfPointers (allocate_zeroed line a b) = Unit {0}
IsOfPointers (release line e) = Unit {0}
IsOfPointers (exit line e) = Unit {0}
IsOfPointers (abort line) = Unit {0}
IsOfPointers _ = ⊥

-- and over objects alone
abbrev pub IsOfObjects : Expression → Type 0
IsOfObjects (allocate line e) = Unit {0}
IsOfObjects (allocate_zeroed line a b) = Unit {0}
IsOfObjects (release line e) = Unit {0}
IsOfObjects (exit line e) = Unit {0}
IsOfObjects (abort line) = Unit {0}
IsOfObjects _ = ⊥

-- a task whose answer makes no block of bytes
abbrev pub IsAskingTask : Task → Type 0
IsAskingTask (task.Expression e finish) = Unit {0}
IsAskingTask (task.Place p finish) = Unit {0}
IsAskingTask (task.Store line t p) = Unit {0}
IsAskingTask (task.Rewrite line t p at) = Unit {0}
IsAskingTask (task.Move line n is_element swapped) = Unit {0}
IsAskingTask (task.Advance line p n before at) = Unit {0}
IsAskingTask (task.Make line) = Unit {0}
IsAskingTask (task.Settle line v) = Unit {0}
IsAskingTask (task.Initialize line v t) = Unit {0}
IsAskingTask (task.InitializeStructure line v) = Unit {0}
IsAskingTask (task.Die line v) = Unit {0}
IsAskingTask (task.Fill words line v offset) = Unit {0}
IsAskingTask (task.End line x) = Unit {0}
IsAskingTask _ = ⊥

-- or one that does
abbrev pub MayAsk : Task → Type 0
MayAsk (task.Structure a complete) = Unit {0}
MayAsk (task.DrawWords words size line) = Unit {0}
MayAsk t = IsAskingTask t
