-- How a number finds its clause at a moment of a log.
use Rattle.std.proofs.Common.{◌≡◌, ℕ, zero, suc, ◌-◌, ◌<◌, ◌≤◌, true, false, List, [], ◌∷◌, length, take, drop, sym, ap, ◌∙◌, subst, arith}
use Rattle.std.specs.Prelude.{Option, Some, None, slice_get, if◌then◌else◌}
use Rattle.std.specs.List.{position_from}
use Rattle.std.proofs.lemmas.Option.{slice_get_past}
use Rattle.std.proofs.Math.ListN.{length-append}
use Rattle.std.proofs.lemmas.List.{length-take}
use Rattle.sat_form.specs.Satisfaction.{Literal, IsWithin, AreWithin}
use Rattle.sat_form.specs.Databases.{added_clauses, deleted_numbers, numbered_clauses, is_among, live_clause, is_deletion_of, AreEntriesWithin}
use Rattle.sat_form.specs.declared.logs.Entry.{Entry}
use Rattle.sat_form.specs.declared.logs.Entry.TheVariants.{Added, Deleted}
use Rattle.sat_form.proofs.Within.{AreWithin-append}
use Rattle.sat_form.proofs.Databases.{is_below, is_among-deleted, added_clauses-take, slice_get-front, slice_get-back}

-- whether a number is deleted before, by the place of its first deletion
pub is_among-at : (es : List Entry) (p n : ℕ) (o : Option ℕ) → o ≡ position_from (is_deletion_of n) 0 es → is_below p o ≡ is_among (deleted_numbers (take p es)) n
is_among-at es p n o is =
    ap (is_below p) is ∙ ap (λ m. is_below m (position_from (is_deletion_of n) 0 es)) (omega arith) ∙ sym (is_among-deleted n 0 p es)

-- a clause of the form, one that was added, and a number past both
pub live_clause-form :
    (form : List (List Literal)) (es : List Entry) (n : ℕ) → is_among (deleted_numbers es) n ≡ false → n < length form → live_clause form es n ≡ slice_get form n
live_clause-form form es n kept within =
    ap (λ b. if b then None else slice_get (numbered_clauses form es) n) kept ∙ slice_get-front form (added_clauses es) n within

pub live_clause-added :
    (form : List (List Literal)) (es : List Entry) (p n : ℕ) → is_among (deleted_numbers (take p es)) n ≡ false → length form ≤ n →
    n - length form < length (added_clauses (take p es)) → live_clause form (take p es) n ≡ slice_get (added_clauses es) (n - length form)
live_clause-added form es p n kept past within =
    ap (λ b. if b then None else slice_get (numbered_clauses form (take p es)) n) kept ∙ slice_get-back form (added_clauses (take p es)) n past
    ∙ sym (ap (λ cs. slice_get cs (n - length form)) (added_clauses-take p es) ∙ slice_get-front (added_clauses (take p es)) (added_clauses (drop p es)) (n - length form) within)

pub live_clause-past :
    (form : List (List Literal)) (es : List Entry) (n : ℕ) → is_among (deleted_numbers es) n ≡ false → length form ≤ n →
    length (added_clauses es) ≤ n - length form → live_clause form es n ≡ None
live_clause-past form es n kept past beyond =
    ap (λ b. if b then None else slice_get (numbered_clauses form es) n) kept
    ∙ slice_get_past (numbered_clauses form es) n (omega (arith, length-append form (added_clauses es)))

pub live_clause-gone : (form : List (List Literal)) (es : List Entry) (n : ℕ) → is_among (deleted_numbers es) n ≡ true → live_clause form es n ≡ None
live_clause-gone form es n gone = ap (λ b. if b then None else slice_get (numbered_clauses form es) n) gone

-- no more clauses are added than there are entries
length-added_clauses : (es : List Entry) → length (added_clauses es) ≤ length es
length-added_clauses [] = omega arith
length-added_clauses (Added c hs ∷ es) = omega (arith, length-added_clauses es)
length-added_clauses (Deleted n ∷ es) = omega (arith, length-added_clauses es)

pub length-added_before : (p : ℕ) (es : List Entry) → length (added_clauses (take p es)) ≤ p
length-added_before p es = omega (arith, length-added_clauses (take p es), length-take p es)

-- the clauses of the form and of the log have variables below v, and so does a live one
within_at : (v n : ℕ) (cs : List (List Literal)) (c : List Literal) → AreWithin v cs → slice_get cs n ≡ Some c → IsWithin v c
within_at v n [] c within at = absurd (cc)
within_at v zero (d ∷ cs) c within at = let same : d ≡ c = cc in subst (IsWithin v) same within.0
within_at v (suc n) (d ∷ cs) c within at = within_at v n cs c within.1 at

within_added : (v p : ℕ) (es : List Entry) → AreEntriesWithin v es → AreWithin v (added_clauses (take p es))
within_added v zero es within = tt
within_added v (suc p) [] within = tt
within_added v (suc p) (Added c hs ∷ es) within = (within.0, within_added v p es within.1)
within_added v (suc p) (Deleted n ∷ es) within = within_added v p es within.1

pub IsWithin-live :
    (v p n : ℕ) (form : List (List Literal)) (es : List Entry) (c : List Literal) → AreWithin v form → AreEntriesWithin v es → live_clause form (take p es) n ≡ Some c → IsWithin v c
IsWithin-live v p n form es c within entries at =
    elim (is_among (deleted_numbers (take p es)) n) as (λ b. (if b then None else slice_get (numbered_clauses form (take p es)) n) ≡ Some c → IsWithin v c) [
      | true ↦ λ none. absurd (cc)
      | false ↦ λ found. within_at v n (numbered_clauses form (take p es)) c (AreWithin-append v form (added_clauses (take p es)) within (within_added v p es entries)) found
    ] at
