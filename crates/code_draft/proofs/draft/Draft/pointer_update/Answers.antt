use Rattle.std.proofs.Common.{◌≡◌, ℤ, w64, to_z, of_z, ap, ◌∙◌}
use Rattle.std.proofs.lemmas.Int.{to_z-of_z}
use Rattle.code_draft.specs.Drafts.{next, added, moved_code}
use Rattle.code_draft.proofs.DraftingPointers.{three_words, lowers_pointer_update}
use Rattle.code_draft.proofs.draft.Draft.pointer_update.Goals as goal

pub returns : goal.returns
returns c = λ old mid p e is_at h k.
    (let d = c.args.self.now in
    let x = c.args.index in
    let passed : to_z w64 (of_z w64 c.args.step) ≡ c.args.step = to_z-of_z w64 c.args.step c.ranges.step in
    lowers_pointer_update old mid d c.move_at.new.self p c.args.way e x _ c.args.at c.args.line c.args.step c.in_ok-updated.updated is_at h k
    (c.in_ok-updated.ensures.code ∙ ap (λ (s : ℤ). added d (moved_code d.frame c.args.at c.args.line c.args.way.access c.args.way.pointer s x.register x.type_ (next d)) three_words) passed)
    c.in_ok-updated.ensures.registers c.pointer_in.ensures)
