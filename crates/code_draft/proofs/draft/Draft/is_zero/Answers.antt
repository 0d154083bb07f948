use Rattle.code_draft.proofs.Drafting.{ok_both, lowers_is_zero}
use Rattle.code_draft.proofs.draft.Draft.is_zero.Goals as goal

pub returns : goal.returns
returns c = λ old e h. ok_both _ _ _ _ c.set.ensures.code c.set.ensures.value (λ y n v. lowers_is_zero old c.args.self.now _ e c.args.x y h c.args.line c.next.result c.next.ensures n v)
