-- Entry by entry through a log.
use Rattle.std.proofs.Common.{◌≡◌, ℕ, ◌+◌, ◌<◌, ◌≤◌, inl, inr, List, [], ◌∷◌, ◌++◌, length, take, drop, get_or, refl, sym, ap, ◌∙◌, subst, arith, append_assoc}
use Rattle.std.proofs.Math.ListN.{length-append}
use Rattle.std.proofs.Math.Seq.{take-append_seam}
use Rattle.std.proofs.lemmas.Bool.{cases_eq}
use Rattle.std.proofs.lemmas.List.{take-append-drop, get_or_default}
use Rattle.sat_form.specs.Satisfaction.{Literal}
use Rattle.sat_form.specs.Databases.{added_clauses}
use Rattle.sat_form.specs.Refutation.{IsJustified, IsDerivation}
use Rattle.sat_form.specs.declared.logs.Entry.{Entry}
use Rattle.sat_form.specs.declared.logs.Entry.TheVariants.{Added, Deleted}
use Rattle.sat_form.proofs.Databases.{added_clauses-append}
use Rattle.refutation_check.proofs.Visiting.{take-read}

-- the clauses that are added before the next entry
added_next : (es : List Entry) (k : ℕ) (e : Entry) → k < length es → e ≡ get_or es k e → added_clauses (take (k + 1) es) ≡ added_clauses (take k es) ++ added_clauses (e ∷ [])
added_next es k e within read = ap added_clauses (sym (take-read es k e within read)) ∙ added_clauses-append (take k es) (e ∷ [])

pub length-added_next :
    (es : List Entry) (k m : ℕ) (e : Entry) (c : List Literal) (hs : List ℕ) → k < length es → e ≡ get_or es k e → e ≡ Added c hs → m ≡ length (added_clauses (take k es)) →
    m + 1 ≡ length (added_clauses (take (k + 1) es))
length-added_next es k m e c hs within read is len =
    sym (ap length (added_next es k e within read ∙ ap (λ (x : Entry). added_clauses (take k es) ++ added_clauses (x ∷ [])) is)
    ∙ length-append (added_clauses (take k es)) (c ∷ []) ∙ ap (λ n. n + 1) (sym len))

pub length-deleted_next :
    (es : List Entry) (k m n : ℕ) (e : Entry) → k < length es → e ≡ get_or es k e → e ≡ Deleted n → m ≡ length (added_clauses (take k es)) →
    m ≡ length (added_clauses (take (k + 1) es))
length-deleted_next es k m n e within read is len =
    len ∙ sym (ap length (added_next es k e within read ∙ ap (λ (x : Entry). added_clauses (take k es) ++ added_clauses (x ∷ [])) is)
    ∙ length-append (added_clauses (take k es)) [] ∙ omega arith)

-- the entries up to a place
pub justified_next :
    (form : List (List Literal)) (log : List Entry) (n : ℕ) (e : Entry) → n < length log → e ≡ get_or log n e → ((k : ℕ) (d : Entry) → k < n → IsJustified form (take k log) (get_or log k d)) →
    IsJustified form (take n log) e → (k : ℕ) (d : Entry) → k < n + 1 → IsJustified form (take k log) (get_or log k d)
justified_next form log n e within read before here k d below =
    elim (cases_eq k n) [
      | inl same ↦ subst (λ i. IsJustified form (take i log) (get_or log i d)) (sym same)
          (subst (IsJustified form (take n log)) (read ∙ get_or_default log n e d within) here)
      | inr other ↦ before k d (omega arith)
    ]

split_at : (log : List Entry) (n : ℕ) (e : Entry) → n < length log → e ≡ get_or log n e → log ≡ take n log ++ e ∷ drop (n + 1) log
split_at log n e within read =
    sym (take-append-drop (n + 1) log) ∙ ap (λ (xs : List Entry). xs ++ drop (n + 1) log) (sym (take-read log n e within read)) ∙ append_assoc (take n log) (e ∷ []) (drop (n + 1) log)

pub IsDerivation-at : (form : List (List Literal)) (log : List Entry) (n : ℕ) (e : Entry) → n < length log → e ≡ get_or log n e → IsDerivation form log → IsJustified form (take n log) e
IsDerivation-at form log n e within read derives = derives (take n log) e (drop (n + 1) log) (split_at log n e within read)

get_or-seam : (before : List Entry) (e : Entry) (after : List Entry) → get_or (before ++ e ∷ after) (length before) e ≡ e
get_or-seam [] e after = refl
get_or-seam (x ∷ before) e after = get_or-seam before e after

pub IsDerivation-all :
    (form : List (List Literal)) (log : List Entry) (n : ℕ) → length log ≤ n → ((k : ℕ) (d : Entry) → k < n → IsJustified form (take k log) (get_or log k d)) → IsDerivation form log
IsDerivation-all form log n all justified before e after is =
    let len : length log ≡ length before + length (e ∷ after) = ap length is ∙ length-append before (e ∷ after) in
    let here : IsJustified form (take (length before) log) (get_or log (length before) e) = justified (length before) e (omega arith) in
    let moved : IsJustified form (take (length before) (before ++ e ∷ after)) (get_or (before ++ e ∷ after) (length before) e) =
    subst (λ (xs : List Entry). IsJustified form (take (length before) xs) (get_or xs (length before) e)) is here in
    subst (IsJustified form before) (get_or-seam before e after)
    (subst (λ (xs : List Entry). IsJustified form xs (get_or (before ++ e ∷ after) (length before) e)) (take-append_seam before (e ∷ after)) moved)
