use Rattle.std.proofs.Common.{sym, ◌∙◌}
use Rattle.c_types.specs.Types.{view as type_view}
use Rattle.c_elab_base.proofs.Deriving.{incomplete_size}
use Rattle.c_elab_flow.proofs.files.known_bytes.Goals as goal

pub returns-else-is_complete : goal.returns-else-is_complete
returns-else-is_complete c = sym (incomplete_size c.args.layouts.now.done (type_view c.args.type_.now) (sym c.is_complete.ensures ∙ c.if-is_complete.false))
