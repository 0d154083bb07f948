use Rattle.code_draft.proofs.Drafting.{ok_both}
use Rattle.code_draft.proofs.DraftingPointers.{leads_member}
use Rattle.code_draft.proofs.draft.Draft.member_pointer.Goals as goal

pub returns : goal.returns
returns c = λ old x h. ok_both _ _ _ _ c.offset.ensures.code c.offset.ensures.value (λ r n v. leads_member old c.args.self.now _ x c.args.place c.args.line c.args.offset r h n v)
