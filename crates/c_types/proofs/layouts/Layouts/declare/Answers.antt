use Rattle.c_types.proofs.Kept.{declared_kept}
use Rattle.c_types.proofs.layouts.Layouts.declare.Goals as goal

pub invariant_of-self-2 : goal.invariant_of-self-2
invariant_of-self-2 c = rw c.in_ok-push.ensures.items (declared_kept c.self.inside.declared.items c.self.inside.completed.items c.args.kind c.self.invariant)
