use Rattle.code_draft.proofs.Drafting.{ok_both, lowers_read}
use Rattle.code_draft.proofs.draft.Draft.read.Goals as goal

pub returns : goal.returns
returns c = λ old x is_line h. ok_both _ _ _ _ c.load.ensures.code c.load.ensures.value (λ y n v. lowers_read old c.args.self.now _ x c.args.way y c.args.line c.args.type_ is_line h n v)
