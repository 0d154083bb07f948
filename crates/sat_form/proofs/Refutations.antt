-- A form that a log refutes has no model.
use Rattle.std.proofs.Common.{◌≡◌, ℕ, suc, Bool, true, false, List, [], ◌∷◌, ◌++◌, refl, sym, ap, ◌∙◌, subst, append_assoc, append-nil}
use Rattle.std.specs.Prelude.{if◌then◌else◌}
use Rattle.std.specs.List.{list_all}
use Rattle.std.proofs.lemmas.Bool.{true≢false, and_parts, and_from}
use Rattle.sat_form.specs.Satisfaction.{Literal, clause_value, Satisfies}
use Rattle.sat_form.specs.Databases.{added_clauses, deleted_numbers, numbered_clauses, is_among, clauses_without, database}
use Rattle.sat_form.specs.Refutation.{IsJustified, IsDerivation, EndsEmpty, AddsEmpty, IsRefutation}
use Rattle.sat_form.specs.declared.logs.Entry.{Entry}
use Rattle.sat_form.specs.declared.logs.Entry.TheVariants.{Added, Deleted}
use Rattle.sat_form.proofs.Truth.{Satisfies-push, clause_value-last}
use Rattle.sat_form.proofs.Databases.{added_clauses-append}
use Rattle.sat_form.proofs.Propagation.{Follows-sound}

-- fewer clauses
Satisfies-clauses_without : (a : ℕ → Bool) (gone : List ℕ) (k : ℕ) (cs : List (List Literal)) → Satisfies a cs → Satisfies a (clauses_without gone k cs)
Satisfies-clauses_without a gone k [] all = refl
Satisfies-clauses_without a gone k (c ∷ cs) all =
    let parts = and_parts (clause_value a c) (list_all (clause_value a) cs) all in
    let rest : Satisfies a (clauses_without gone (suc k) cs) = Satisfies-clauses_without a gone (suc k) cs parts.1 in
    elim (is_among gone k) as (λ b. Satisfies a (if b then clauses_without gone (suc k) cs else c ∷ clauses_without gone (suc k) cs)) [
      | true ↦ rest
      | false ↦ and_from _ _ parts.0 rest
    ]

pub numbered_clauses-added :
    (form : List (List Literal)) (before : List Entry) (c : List Literal) (hs : List ℕ) → numbered_clauses form (before ++ Added c hs ∷ []) ≡ numbered_clauses form before ++ c ∷ []
numbered_clauses-added form before c hs = ap (λ cs. form ++ cs) (added_clauses-append before (Added c hs ∷ [])) ∙ sym (append_assoc form (added_clauses before) (c ∷ []))

pub numbered_clauses-deleted : (form : List (List Literal)) (before : List Entry) (n : ℕ) → numbered_clauses form (before ++ Deleted n ∷ []) ≡ numbered_clauses form before
numbered_clauses-deleted form before n = ap (λ cs. form ++ cs) (added_clauses-append before (Deleted n ∷ []) ∙ append-nil (added_clauses before))

-- one entry more
satisfied_step :
    (a : ℕ → Bool) (form : List (List Literal)) (before : List Entry) (e : Entry) → Satisfies a (numbered_clauses form before) → IsJustified form before e →
    Satisfies a (numbered_clauses form (before ++ e ∷ []))
satisfied_step a form before (Added c hs) all justified =
    let db : Satisfies a (database form before) = Satisfies-clauses_without a (deleted_numbers before) 0 (numbered_clauses form before) all in
    subst (Satisfies a) (sym (numbered_clauses-added form before c hs))
    (Satisfies-push a (numbered_clauses form before) c all (Follows-sound a (database form before) c db justified))
satisfied_step a form before (Deleted n) all justified = subst (Satisfies a) (sym (numbered_clauses-deleted form before n)) all

satisfied_all :
    (a : ℕ → Bool) (form : List (List Literal)) (before rest : List Entry) → IsDerivation form (before ++ rest) → Satisfies a (numbered_clauses form before) →
    Satisfies a (numbered_clauses form (before ++ rest))
satisfied_all a form before [] derives all = subst (λ (es : List Entry). Satisfies a (numbered_clauses form es)) (sym (append-nil before)) all
satisfied_all a form before (e ∷ es) derives all =
    let same : (before ++ e ∷ []) ++ es ≡ before ++ e ∷ es = append_assoc before (e ∷ []) es in
    subst (λ (xs : List Entry). Satisfies a (numbered_clauses form xs)) same
    (satisfied_all a form (before ++ e ∷ []) es (subst (IsDerivation form) (sym same) derives)
    (satisfied_step a form before e all (derives before e es refl)))

-- each model of the form satisfies what a derivation adds
pub Satisfies-derived : (a : ℕ → Bool) (form : List (List Literal)) (log : List Entry) → IsDerivation form log → Satisfies a form → Satisfies a (numbered_clauses form log)
Satisfies-derived a form log derives all = satisfied_all a form [] log derives (subst (Satisfies a) (sym (append-nil form)) all)

empty_last : (a : ℕ → Bool) (form : List (List Literal)) (before : List Entry) (e : Entry) → AddsEmpty e → Satisfies a (numbered_clauses form (before ++ e ∷ [])) → ⊥
empty_last a form before (Added c hs) adds all =
    true≢false (sym (clause_value-last a (numbered_clauses form before) c (subst (Satisfies a) (numbered_clauses-added form before c hs) all)) ∙ ap (clause_value a) adds)
empty_last a form before (Deleted n) adds all = adds

pub no_model-refuted : (form : List (List Literal)) (log : List Entry) → IsRefutation form log → (a : ℕ → Bool) → Satisfies a form → ⊥
no_model-refuted form log refutes a all =
    let ends : EndsEmpty log = refutes.ends in
    empty_last a form ends.0 ends.1 ends.3 (subst (λ (es : List Entry). Satisfies a (numbered_clauses form es)) ends.2 (Satisfies-derived a form log refutes.derives all))
