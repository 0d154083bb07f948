use Rattle.std.proofs.lemmas.Result.{IfOk-weaker}
use Rattle.code_draft.proofs.Drafting.{lowers_assertion}
use Rattle.code_draft.proofs.draft.Draft.assertion.Goals as goal

pub returns : goal.returns
returns c = λ old e h. IfOk-weaker _ _ _ (λ y k. lowers_assertion old c.args.self.now _ e c.args.x y h c.push.new.self c.args.line c.in_ok-push.ensures k) c.constant.ensures
