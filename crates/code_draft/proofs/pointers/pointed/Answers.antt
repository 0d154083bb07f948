use Rattle.code_draft.proofs.DraftingPointers.{leads_pointed}
use Rattle.code_draft.proofs.pointers.pointed.Goals as goal

pub returns : goal.returns
returns c = λ old new line e h. leads_pointed old new line e c.args.x h
