use Rattle.std.proofs.Common.{◌≡◌, ◌<◌, ◌≤◌, ℕ, length, take, true, arith, sym, subst, ◌∙◌}
use Rattle.std.proofs.lemmas.Bool.{eq-eqb, ne_eqb}
use Rattle.c_lexer.specs.Forms.{is_number}
use Rattle.c_lexer.proofs.Ends.{number_begins, number_begins_point, number_more, number_ends}
use Rattle.c_lexer.proofs.piece.number_end.Goals as goal
use Rattle.c_lexer.proofs.piece.number_end.Goals.{then-text-eq46, else-text-eq46}

pub loop-end-init : goal.loop-end-init
loop-end-init c =
    let text = c.args.text.now in
    let Holds = λ (n : ℕ). (0 < n) × (n ≤ length text) × (is_number (take n text) ≡ true) in
    elim c.if-text-eq46.branch [
      | then-text-eq46 w ↦
          let p = number_begins_point text c.requires (eq-eqb _ _ w.if-text-eq46.true) in
          subst Holds (sym w.end-is) (omega arith, p.0, p.1)
      | else-text-eq46 w ↦
          let p = number_begins text c.requires (ne_eqb _ _ w.if-text-eq46.false) in
          subst Holds (sym w.end-is) (omega arith, p.0, p.1)
    ]

pub loop-end-preserved : goal.loop-end-preserved
loop-end-preserved c =
    let i = c.loop-end.invariant in
    (omega arith, omega arith, number_more c.args.text.now c.loop-end.end i.0 (omega arith) i.2 (sym c.in_number.ensures ∙ c.if-in_number.true))

pub returns-else-in_number : goal.returns-else-in_number
returns-else-in_number c =
    let i = c.loop-end.invariant in
    number_ends c.args.text.now c.loop-end.end i.0 c.loop-end-test.true i.2 (sym c.in_number.ensures ∙ c.if-in_number.false)
