use Rattle.std.proofs.lemmas.Result.{IfOk-weaker}
use Rattle.code_draft.proofs.Drafting.{lowers_discard}
use Rattle.code_draft.proofs.draft.Draft.discard.Goals as goal

pub returns : goal.returns
returns c = λ old e h. IfOk-weaker _ _ _ (λ y k. lowers_discard old c.args.self.now c.constant.new.self e c.args._x y c.args.line h k) c.constant.ensures
