use Rattle.code_draft.proofs.Drafting.{ok_both}
use Rattle.code_draft.proofs.DraftingPointers.{lowers_exit}
use Rattle.code_draft.proofs.draft.Draft.exit.Goals as goal

pub returns : goal.returns
returns c = λ old e h. ok_both _ _ _ _ c.end.ensures.code c.end.ensures.value (λ y n v. lowers_exit old c.args.self.now _ e c.args._status y c.args.line h n v)
