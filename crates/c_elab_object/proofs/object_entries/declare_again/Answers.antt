use Rattle.c_elab_object.proofs.Again.{object_again}
use Rattle.c_elab_object.proofs.object_entries.declare_again.Goals as goal

pub returns-then-settled : goal.returns-then-settled
returns-then-settled c = object_again _ _ _ _ _ _ c.object.ensures c.is_settled-settled.ensures c.if-settled.true
