-- That the values of all variables are a model where each clause is watched.
use Rattle.std.proofs.Common.{◌≡◌, ℕ, ◌<◌, inl, inr, Bool, true, not, List, [], ◌∷◌, length, Option, Some, None, refl, ap, ◌∙◌, subst}
use Rattle.std.specs.Prelude.{IsSome, option_map, if◌then◌else◌, Contains}
use Rattle.std.proofs.lemmas.Bool.{and_from}
use Rattle.sat_form.specs.Satisfaction.{Literal, Form, clause_value, Satisfies, assignment_of, IsWithin, AreWithin}
use Rattle.sat_form.specs.Databases.{added_clauses}
use Rattle.sat_form.proofs.Truth.{Satisfies-front}
use Rattle.sat_form.proofs.Within.{AreWithin-at}
use Rattle.sat_form.proofs.Databases.{Contains-head, Contains-tail}
use Rattle.sat_form.proofs.Propagation.{clause_value-at}
use Rattle.cdcl_core.specs.declared.search.Search.{Search}
use Rattle.cdcl_core.specs.Steps.{known_value, known_truth}
use Rattle.cdcl_core.specs.Answers.{IsReady, IsPropagated}
use Rattle.cdcl_core.proofs.Listed.{IsWithin-contains}
use Rattle.cdcl_core.proofs.Settling.{IsSettled-watched}

Satisfies-each : (a : ℕ → Bool) (cs : List (List Literal)) → ((c : List Literal) → Contains cs c → clause_value a c ≡ true) → Satisfies a cs
Satisfies-each a [] each = refl
Satisfies-each a (c ∷ cs) each = and_from _ _ (each c (Contains-head c cs)) (Satisfies-each a cs (λ d at. each d (Contains-tail c d cs at)))

true_of : (o : Option Bool) (n x : Bool) → option_map (λ b. if n then not b else b) o ≡ Some true → ((b : Bool) → o ≡ Some b → x ≡ b) → (if n then not x else x) ≡ true
true_of None n x told same = cc
true_of (Some b) n x told same =
    let given : (if n then not b else b) ≡ true = cc in
    ap (λ y. if n then not y else y) (same b refl) ∙ given

not_none : (o : Option Bool) (n : Bool) → IsSome o → option_map (λ b. if n then not b else b) o ≡ None → ⊥
not_none None n some none = cc
not_none (Some b) n some none = cc

clause-within : (n : ℕ) (cs : List (List Literal)) (c : List Literal) (l : Literal) → AreWithin n cs → Contains cs c → Contains c l → l.variable < n
clause-within n cs c l within at stands = IsWithin-contains n c l (subst (IsWithin n) at.2 (AreWithin-at n cs at.0 c within at.1)) stands

-- the model of a search in which each variable has a value
pub IsAnswer-sat :
    (form : Form) (n : ℕ) (s : Search) (values : List Bool) → IsReady form n s → IsPropagated s →
    ((v : ℕ) → v < s.trail.variables → IsSome (known_value s.trail.steps v)) → length values ≡ s.trail.variables →
    ((v : ℕ) (b : Bool) → v < s.trail.variables → known_value s.trail.steps v ≡ Some b → assignment_of values v ≡ b) →
    (length values ≡ form.variables) × Satisfies (assignment_of values) form.clauses
IsAnswer-sat form n s values ready done full long given =
    let cs : List (List Literal) = s.clauses in
    let a : ℕ → Bool = assignment_of values in
    let holds : (c : List Literal) (l : Literal) → Contains cs c → Contains c l → known_truth s.trail.steps l ≡ Some true → clause_value a c ≡ true =
    λ c l at stands told.
    clause_value-at a c l stands (true_of (known_value s.trail.steps l.variable) l.negated (a l.variable) told
    (λ b is. given l.variable b (clause-within s.trail.variables cs c l ready.kept.held.within at stands) is)) in
    let each : (c : List Literal) → Contains cs c → clause_value a c ≡ true =
    λ c at.
    elim (IsSettled-watched cs s.watches.pairs.items s.trail.steps ready.kept.held.listed.count done.watched c at) [
      | inl rest ↦ holds c rest.0 at rest.1 rest.2
      | inr rest ↦
          absurd (not_none (known_value s.trail.steps rest.0.variable) rest.0.negated
          (full rest.0.variable (clause-within s.trail.variables cs c rest.0 ready.kept.held.within at rest.3)) rest.4)
    ] in (
      long ∙ ready.variables,
      Satisfies-front a form.clauses (added_clauses s.log) (subst (Satisfies a) ready.logged.numbered (Satisfies-each a cs each)),
    )
