use Rattle.std.proofs.Common.{refl}
use Rattle.code_draft.proofs.Drafting.{lowers_comma}
use Rattle.code_draft.proofs.expressions.comma.Goals as goal

pub returns : goal.returns
returns c = λ old mid new a b x h k. lowers_comma old mid new new a b x c.args.y _ h k c.args.line refl refl
