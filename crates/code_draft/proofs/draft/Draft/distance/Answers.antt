use Rattle.code_draft.proofs.Drafting.{ok_both}
use Rattle.code_draft.proofs.DraftingPointers.{lowers_distance}
use Rattle.code_draft.proofs.draft.Draft.distance.Goals as goal

pub returns : goal.returns
returns c = λ old mid a b h k. ok_both _ _ _ _ c.difference.ensures.code c.difference.ensures.value (λ z n v. lowers_distance old mid c.args.self.now _ a b c.args.x c.args.y z c.args.line h k c.args.step n v)
