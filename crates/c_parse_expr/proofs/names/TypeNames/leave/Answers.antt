use Rattle.std.proofs.Common.{◌≡◌, ◌≤◌, ◌<◌, ◌-◌, ◌+◌, ℕ, length, drop, ap, ◌∙◌, arith}
use Rattle.std.proofs.lemmas.List.{length-drop, drop-drop}
use Rattle.c_tree.specs.Names.{Scope}
use Rattle.c_parse_expr.proofs.names.TypeNames.leave.Goals as goal

-- one declaration more is taken back
one_more : (start now next : Scope) → now ≡ drop (length start - length now) start → next ≡ drop 1 now → 0 < length now → length now ≤ length start
    → (next ≡ drop (length start - length next) start) × (length next + 1 ≡ length now)
one_more start now next kept gone some fewer =
    let long = ap (λ (s : Scope). length s) gone ∙ length-drop 1 now in
    let count : length start - length now + 1 ≡ length start - length next = omega arith in
    (gone ∙ ap (λ (s : Scope). drop 1 s) kept ∙ drop-drop 1 (length start - length now) start ∙ ap (λ (k : ℕ). drop k start) count, omega arith)

pub loop-self-preserved : goal.loop-self-preserved
loop-self-preserved c =
    let step = one_more c.args.self.now c.loop-self.self c.forget.new.self c.loop-self.invariant.kept c.forget.ensures (omega arith) c.loop-self.invariant.fewer in
    record { kept = step.0; mark = omega (arith, step.1); fewer = omega (arith, step.1) }
