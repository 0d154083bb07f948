use Rattle.std.proofs.Common.{refl}
use Rattle.code_draft.proofs.Drafting.{lowers_update}
use Rattle.code_draft.proofs.draft.Draft.update.Goals as goal

pub returns : goal.returns
returns c = λ old mid p e is_at h k.
    lowers_update old mid c.args.self.now _ p c.args.way e c.args.y _ c.args.at c.args.line c.in_ok-updated.updated.new c.args.type_ c.args.operator c.args.by is_at h k
    (λ i. (c.in_ok-updated.ensures.registers i).new) c.in_ok-updated.ensures.code refl
