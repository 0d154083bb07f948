use Rattle.code_draft.proofs.Drafting.{ok_both}
use Rattle.code_draft.proofs.DraftingPointers.{lowers_release}
use Rattle.code_draft.proofs.draft.Draft.release.Goals as goal

pub returns : goal.returns
returns c = λ old e h. ok_both _ _ _ _ c.free_code.ensures.code c.free_code.ensures.value (λ y n v. lowers_release old c.args.self.now _ e c.args.x y c.args.line h n v)
