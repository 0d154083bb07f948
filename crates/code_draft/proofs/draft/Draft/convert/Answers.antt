use Rattle.code_draft.proofs.Drafting.{ok_both, lowers_convert}
use Rattle.code_draft.proofs.draft.Draft.convert.Goals as goal

pub returns : goal.returns
returns c = λ old e h. ok_both _ _ _ _ c.set.ensures.code c.set.ensures.value (λ y n v. lowers_convert old c.args.self.now _ e c.args.x y h c.args.to c.next.result c.next.ensures n v)
