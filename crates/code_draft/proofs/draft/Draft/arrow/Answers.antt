use Rattle.code_draft.proofs.Drafting.{ok_both}
use Rattle.code_draft.proofs.DraftingPointers.{leads_arrow}
use Rattle.code_draft.proofs.draft.Draft.arrow.Goals as goal

pub returns : goal.returns
returns c = λ old e h. ok_both _ _ _ _ c.offset.ensures.code c.offset.ensures.value (λ r n v. leads_arrow old c.args.self.now _ e c.args.x c.args.line c.args.offset r h n v)
