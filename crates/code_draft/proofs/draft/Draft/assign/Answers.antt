use Rattle.std.proofs.Common.{refl}
use Rattle.code_draft.proofs.Drafting.{lowers_assign}
use Rattle.code_draft.proofs.draft.Draft.assign.Goals as goal

pub returns : goal.returns
returns c = λ old mid p e h k. lowers_assign old mid c.args.self.now _ p c.args.way e c.args.x _ c.args.line c.args.type_ h k c.in_ok-store.ensures refl
