use Rattle.code_draft.proofs.Drafting.{ok_both, lowers_step}
use Rattle.code_draft.proofs.draft.Draft.step.Goals as goal

pub returns : goal.returns
returns c = λ old p is_at h. ok_both _ _ _ _ c.set.ensures.code c.set.ensures.value (λ z n v.
    lowers_step old c.args.self.now c.constant.new.self c.update_by.new.self _ p c.args.way c.in_ok-one.one z c.in_ok-updated.updated c.step_value.result c.next.result c.args.at c.args.line c.args.type_ c.args.operator c.args.before
    c.promote-promoted.result c.step_operation.result is_at h
    c.promote-promoted.ensures c.step_operation.ensures
    c.in_ok-one.ensures c.in_ok-updated.ensures.code c.in_ok-updated.ensures.registers c.next.ensures c.step_value.ensures n v)
