use Rattle.std.proofs.Common.{◌≡◌, ◌≤◌, ◌<◌, ◌-◌, ◌+◌, ℕ, length, drop, sym, ap, ◌∙◌, arith}
use Rattle.std.proofs.lemmas.List.{length-drop, drop-drop}
use Rattle.c_scope.specs.Scopes.{Environment, Scoped}
use Rattle.c_scope.proofs.scope.Scope.leave.Goals as goal

-- one declaration more is taken back
one_more : (start now next : Scoped) → now ≡ record start { bindings = drop (length start.bindings - length now.bindings) start.bindings }
    → next ≡ record now { bindings = drop 1 now.bindings } → 0 < length now.bindings → length now.bindings ≤ length start.bindings
    → (next ≡ record start { bindings = drop (length start.bindings - length next.bindings) start.bindings }) × (length next.bindings + 1 ≡ length now.bindings)
one_more start now next kept gone some fewer =
    let long = ap (λ (s : Scoped). length s.bindings) gone ∙ length-drop 1 now.bindings in
    let count : length start.bindings - length now.bindings + 1 ≡ length start.bindings - length next.bindings = omega arith in
    let left : next.bindings ≡ drop (length start.bindings - length next.bindings) start.bindings =
    ap (λ (s : Scoped). s.bindings) gone ∙ ap (λ (s : Scoped). drop 1 s.bindings) kept
    ∙ drop-drop 1 (length start.bindings - length now.bindings) start.bindings ∙ ap (λ (k : ℕ). drop k start.bindings) count in
    let others : next ≡ record now { bindings = next.bindings } = gone ∙ ap (λ (env : Environment). record now { bindings = env }) (sym (ap (λ (s : Scoped). s.bindings) gone)) in
    let same : record now { bindings = next.bindings } ≡ record start { bindings = next.bindings } = ap (λ (s : Scoped). record s { bindings = next.bindings }) kept in
    (others ∙ same ∙ ap (λ (env : Environment). record start { bindings = env }) left, omega arith)

pub loop-self-preserved : goal.loop-self-preserved
loop-self-preserved c =
    let step = one_more c.args.self.now c.loop-self.self c.forget.new.self c.loop-self.invariant.kept c.forget.ensures (omega arith) c.loop-self.invariant.fewer in
    record { kept = step.0; outer = omega (arith, step.1); fewer = omega (arith, step.1) }
