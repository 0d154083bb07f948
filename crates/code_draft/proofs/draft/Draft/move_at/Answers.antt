use Rattle.std.proofs.Common.{◌≡◌, ℤ, false, w64, to_z, of_z, refl, ap, ◌∙◌}
use Rattle.std.proofs.lemmas.Int.{to_z-of_z}
use Rattle.lowered_code.specs.Lowering.{move_code}
use Rattle.code_draft.specs.Drafts.{next, added}
use Rattle.code_draft.proofs.DraftingPointers.{two_words, moved_adds, moved_registers}
use Rattle.code_draft.proofs.draft.Draft.move_at.Goals as goal

pub returns-clause-code : goal.returns-clause-code
returns-clause-code c =
    let x = c.args.index in
    let passed : to_z w64 (of_z w64 c.args.step) ≡ c.args.step = to_z-of_z w64 c.args.step c.ranges.step in
    moved_adds c.args.self.now c.load.new.self c.move_by.new.self c.store.new.self c.args.way c.in_ok-pointer.pointer x c.args.at c.args.line c.in_ok-moved.moved c.args.step
    c.in_ok-pointer.ensures.code c.in_ok-pointer.ensures.value
    (c.in_ok-moved.ensures.code ∙ ap (λ (s : ℤ). added c.load.new.self (move_code c.load.new.self.frame false c.args.line c.in_ok-pointer.pointer.register x.register x.type_ s (next c.load.new.self)) two_words) passed)
    c.in_ok-moved.ensures.value c.in_ok-store.ensures

pub returns-clause-registers : goal.returns-clause-registers
returns-clause-registers c =
    moved_registers c.args.self.now c.load.new.self c.args.way c.in_ok-pointer.pointer c.args.at c.in_ok-moved.moved _ c.in_ok-pointer.ensures.code c.in_ok-pointer.ensures.value c.in_ok-moved.ensures.value refl
