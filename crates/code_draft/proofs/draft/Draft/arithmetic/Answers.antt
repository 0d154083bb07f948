use Rattle.code_draft.proofs.Drafting.{ok_both, lowers_arithmetic}
use Rattle.code_draft.proofs.draft.Draft.arithmetic.Goals as goal

pub returns : goal.returns
returns c = λ old mid a b h k. ok_both _ _ _ _ c.set.ensures.code c.set.ensures.value (λ z n v. lowers_arithmetic old mid c.args.self.now _ a b c.args.x c.args.y z h k c.args.line c.args.operator c.next.result c.next.ensures n v)
