use Rattle.std.proofs.Common.{◌≡◌, ℤ, w64, to_z, of_z, ap, ◌∙◌}
use Rattle.std.proofs.lemmas.Int.{to_z-of_z}
use Rattle.code_draft.specs.Drafts.{next, added, moved_code}
use Rattle.code_draft.proofs.Drafting.{ok_both}
use Rattle.code_draft.proofs.DraftingPointers.{three_words, lowers_pointer_step}
use Rattle.code_draft.proofs.draft.Draft.pointer_step.Goals as goal

pub returns : goal.returns
returns c = λ old p is_at h. ok_both _ _ _ _ c.set.ensures.code c.set.ensures.value (λ z n v.
    (let d = c.constant.new.self in
    let x = c.in_ok-one.one in
    let passed : to_z w64 (of_z w64 c.args.step) ≡ c.args.step = to_z-of_z w64 c.args.step c.ranges.step in
    lowers_pointer_step old c.args.self.now d c.move_at.new.self _ p c.args.way x z c.args.at c.args.line c.step_value.result c.next.result c.args.step c.args.before c.in_ok-updated.updated
    is_at h c.in_ok-one.ensures
    (c.in_ok-updated.ensures.code ∙ ap (λ (s : ℤ). added d (moved_code d.frame c.args.at c.args.line c.args.way.access c.args.way.pointer s x.register x.type_ (next d)) three_words) passed)
    c.in_ok-updated.ensures.registers c.next.ensures c.step_value.ensures n v))
