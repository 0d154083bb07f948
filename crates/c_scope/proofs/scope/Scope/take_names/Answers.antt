use Rattle.std.proofs.Common.{◌≡◌, ◌≤◌, ◌<◌, ◌-◌, ◌+◌, ◌++◌, ◌∷◌, [], List, ℕ, length, map, take, drop, sym, ap, ap₂, ◌∙◌, arith}
use Rattle.std.proofs.lemmas.List.{length-drop, drop-drop, map-append}
use Rattle.std.specs.Prelude.{Vec}
use Rattle.std.specs.Global.{Global}
use Rattle.c_scope.specs.declared.meaning.Meaning.{Meaning}
use Rattle.c_scope.specs.Scopes.{Environment, Scoped, binding}
use Rattle.c_scope.proofs.Bindings.{take_further}
use Rattle.c_scope.proofs.scope.Scope.take_names.Goals as goal

-- one declaration more is taken back
one_more : (start now next : Scoped) → now ≡ record start { bindings = drop (length start.bindings - length now.bindings) start.bindings }
    → next ≡ record now { bindings = drop 1 now.bindings } → 0 < length now.bindings → length now.bindings ≤ length start.bindings
    → (next ≡ record start { bindings = drop (length start.bindings - length next.bindings) start.bindings }) × (length next.bindings + 1 ≡ length now.bindings)
one_more start now next kept gone some fewer =
    let long = ap (λ (s : Scoped). length s.bindings) gone ∙ length-drop 1 now.bindings in
    let count : length start.bindings - length now.bindings + 1 ≡ length start.bindings - length next.bindings = omega arith in
    let left : next.bindings ≡ drop (length start.bindings - length next.bindings) start.bindings =
    ap (λ (s : Scoped). s.bindings) gone ∙ ap (λ (s : Scoped). drop 1 s.bindings) kept
    ∙ drop-drop 1 (length start.bindings - length now.bindings) start.bindings ∙ ap (λ (k : ℕ). drop k start.bindings) count in
    let others : next ≡ record now { bindings = next.bindings } = gone ∙ ap (λ (env : Environment). record now { bindings = env }) (sym (ap (λ (s : Scoped). s.bindings) gone)) in
    let same : record now { bindings = next.bindings } ≡ record start { bindings = next.bindings } = ap (λ (s : Scoped). record s { bindings = next.bindings }) kept in
    (others ∙ same ∙ ap (λ (env : Environment). record start { bindings = env }) left, omega arith)

abbrev Names : Type 0
Names = List (Vec ℕ Global × Meaning)

abbrev bound : Names → Environment
bound names = map (λ b. binding b.0.items b.1) names

more_taken : (start now : Scoped) (names after : Names) (b : Vec ℕ Global × Meaning) (k : ℕ) → now ≡ record start { bindings = drop k start.bindings } → after ≡ names ++ b ∷ []
    → bound names ≡ take k start.bindings → take 1 now.bindings ≡ binding b.0.items b.1 ∷ [] → bound after ≡ take (k + 1) start.bindings
more_taken start now names after b k kept more taken first =
    ap bound more ∙ map-append (λ (x : Vec ℕ Global × Meaning). binding x.0.items x.1) names (b ∷ [])
    ∙ ap₂ (λ (xs ys : Environment). xs ++ ys) taken (sym first ∙ ap (λ (s : Scoped). take 1 s.bindings) kept) ∙ sym (take_further start.bindings k)

pub names-preserved : goal.names-preserved
names-preserved c =
    let start = c.args.self.now in
    let now = c.names.self in
    let step = one_more start now c.forget.new.self c.names.invariant.kept c.forget.ensures (omega arith) c.names.invariant.fewer in
    let count : length start.bindings - length now.bindings + 1 ≡ length start.bindings - length c.forget.new.self.bindings = omega (arith, step.1) in
    record {
      kept = step.0;
      outer = omega (arith, step.1);
      fewer = omega (arith, step.1);
      taken = more_taken start now c.names.names.items c.push.new.self.items c.in_ok-innermost.field-0 (length start.bindings - length now.bindings) c.names.invariant.kept c.in_ok-push.ensures.items c.names.invariant.taken c.in_ok-innermost.ensures
          ∙ ap (λ (k : ℕ). take k start.bindings) count;
    }
