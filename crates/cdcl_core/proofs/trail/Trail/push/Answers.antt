use Rattle.std.proofs.Common.{◌≡◌, ◌<◌, ℕ, None, length, subst}
use Rattle.cdcl_core.specs.Steps.{Course, known_value, AreFresh}
use Rattle.cdcl_core.specs.Marks.{course_of, IsMarked}
use Rattle.cdcl_core.specs.declared.trail.Trail.TheInside.{Inside}
use Rattle.cdcl_core.proofs.Courses.{room}
use Rattle.cdcl_core.proofs.trail.Trail.push.Goals as goal

has_room : (t : Inside) (x : Course) (v : ℕ) → IsMarked t → course_of t ≡ x → v < x.variables → known_value x.steps v ≡ None → length x.steps < x.variables
has_room t x v marked is within open_ = room x.variables x.steps v (subst (λ (y : Course). AreFresh y.variables y.steps) is marked.fresh) within open_

pub returns-in_err-push-clause-room : goal.returns-in_err-push-clause-room
returns-in_err-push-clause-room c = has_room _ _ _ c.self.invariant c.self.view_is c.requires.within c.requires.open_

pub returns-clause-room : goal.returns-clause-room
returns-clause-room c = has_room _ _ _ c.self.invariant c.self.view_is c.requires.within c.requires.open_
