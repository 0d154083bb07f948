use Rattle.code_draft.proofs.Drafting.{ok_both}
use Rattle.code_draft.proofs.DraftingPointers.{lowers_relation}
use Rattle.code_draft.proofs.draft.Draft.relation.Goals as goal

pub returns : goal.returns
returns c = λ old mid a b h k. ok_both _ _ _ _ c.order.ensures.code c.order.ensures.value (λ z n v. lowers_relation old mid c.args.self.now _ a b c.args.x c.args.y z c.args.line h k c.args.operator n v)
