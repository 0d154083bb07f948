-- Lists without the elements that are marked.
use Rattle.std.proofs.Common.{◌≡◌, ℕ, zero, suc, ◌+◌, ◌<◌, ◌≤◌, inl, inr, Bool, true, false, List, [], ◌∷◌, ◌++◌, length, take, drop, Some, get_or, set, refl, sym, ap, ◌∙◌, subst, arith}
use Rattle.std.specs.Prelude.{slice_get}
use Rattle.std.specs.List.{swap}
use Rattle.std.proofs.lemmas.Bool.{cases_lt, true≢false}
use Rattle.std.proofs.lemmas.Option.{slice_get_within, get_or_from_slice_get}
use Rattle.std.proofs.lemmas.List.{length-set, take-set, take-set-le, take_more_set, take_all}
use Rattle.std.proofs.lemmas.List.Edits.{length-swap, swap_is}
use Rattle.cdcl_core.specs.Stores.{unmarked}
use Rattle.cdcl_core.proofs.Places.{some_same, slice_get-set_other}

-- ---- without those that are marked

pub unmarked_keep : {A : Type 0} (marks : List Bool) (xs : List A) (p : ℕ) (x : A) → p < length marks → slice_get xs p ≡ Some x → get_or marks p false ≡ false →
    unmarked (take (suc p) marks) (take (suc p) xs) ≡ unmarked (take p marks) (take p xs) ++ x ∷ []
unmarked_keep [] xs p x within here off = absurd (omega (arith, within))
unmarked_keep (m ∷ ms) [] p x within here off = absurd (omega (arith, slice_get_within [] p x here))
unmarked_keep (true ∷ ms) (y ∷ ys) zero x within here off = absurd (true≢false off)
unmarked_keep (false ∷ ms) (y ∷ ys) zero x within here off = ap (λ z. z ∷ []) (some_same y x here)
unmarked_keep (true ∷ ms) (y ∷ ys) (suc p) x within here off = unmarked_keep ms ys p x (omega (arith, within)) here off
unmarked_keep (false ∷ ms) (y ∷ ys) (suc p) x within here off = ap (λ zs. y ∷ zs) (unmarked_keep ms ys p x (omega (arith, within)) here off)

pub unmarked_skip : {A : Type 0} (marks : List Bool) (xs : List A) (p : ℕ) → get_or marks p false ≡ true →
    unmarked (take (suc p) marks) (take (suc p) xs) ≡ unmarked (take p marks) (take p xs)
unmarked_skip [] xs p on = absurd (true≢false (sym on))
unmarked_skip (m ∷ ms) [] zero on = refl
unmarked_skip (m ∷ ms) [] (suc p) on = refl
unmarked_skip (true ∷ ms) (y ∷ ys) zero on = refl
unmarked_skip (false ∷ ms) (y ∷ ys) zero on = absurd (true≢false (sym on))
unmarked_skip (true ∷ ms) (y ∷ ys) (suc p) on = unmarked_skip ms ys p on
unmarked_skip (false ∷ ms) (y ∷ ys) (suc p) on = ap (λ zs. y ∷ zs) (unmarked_skip ms ys p on)

pub unmarked_all : {A : Type 0} (marks : List Bool) (xs : List A) (p : ℕ) → length marks ≤ p → length xs ≤ p → unmarked (take p marks) (take p xs) ≡ unmarked marks xs
unmarked_all marks xs p past past_too = λ i. unmarked (take_all p marks past i) (take_all p xs past_too i)

pub unmarked_append : {A : Type 0} (marks : List Bool) (xs ys : List A) → unmarked marks (xs ++ ys) ≡ unmarked (take (length xs) marks) xs ++ unmarked (drop (length xs) marks) ys
unmarked_append marks [] ys = refl
unmarked_append [] (x ∷ xs) ys = refl
unmarked_append (true ∷ marks) (x ∷ xs) ys = unmarked_append marks xs ys
unmarked_append (false ∷ marks) (x ∷ xs) ys = ap (λ zs. x ∷ zs) (unmarked_append marks xs ys)

-- ---- items moved to the front

pub at_place : {A : Type 0} (xs : List A) (p : ℕ) → p < length xs → (x : A) × (slice_get xs p ≡ Some x)
at_place [] p within = absurd (omega (arith, within))
at_place (x ∷ xs) zero within = (x, refl)
at_place (x ∷ xs) (suc p) within = at_place xs p (omega (arith, within))

pub record IsCompact {A : Type 0} (marks : List Bool) (old now : List A) (kept place : ℕ) : Type 0 where
  pub count : length now ≡ length old
  pub within : kept ≤ place
  pub left : take kept now ≡ unmarked (take place marks) (take place old)
  pub rest : (k : ℕ) → place ≤ k → slice_get now k ≡ slice_get old k

swapped : {A : Type 0} (xs : List A) (i j : ℕ) (x : A) → i ≤ j → slice_get xs j ≡ Some x → set (set xs i x) j (get_or xs i x) ≡ swap xs i j
swapped xs i j x before here =
    ap (λ y. set (set xs i y) j (get_or xs i x)) (sym (get_or_from_slice_get xs j x x here))
    ∙ swap_is xs i j x (omega (arith, before, slice_get_within xs j x here)) (slice_get_within xs j x here)

taken : {A : Type 0} (xs : List A) (i j : ℕ) (x : A) → i ≤ j → slice_get xs j ≡ Some x → take (i + 1) (set (set xs i x) j (get_or xs i x)) ≡ take i xs ++ x ∷ []
taken xs i j x before here =
    let within : j < length xs = slice_get_within xs j x here in
    elim (cases_lt i j) [
      | inl less ↦ take-set-le (i + 1) (set xs i x) j (get_or xs i x) (omega (arith, less)) ∙ take_more_set xs i x (omega (arith, before, within))
      | inr more ↦
          let same : j ≡ i = omega (arith, before, more) in
          let there : slice_get xs i ≡ Some x = ap (slice_get xs) (sym same) ∙ here in
          ap (λ k. take (i + 1) (set (set xs i x) k (get_or xs i x))) same
          ∙ take_more_set (set xs i x) i (get_or xs i x) (subst (λ n. i < n) (sym (length-set xs i x)) (slice_get_within xs i x there))
          ∙ (λ k. take-set xs i x k ++ get_or_from_slice_get xs i x x there k ∷ [])
    ]

module _ {A : Type 0} (marks : List Bool) (old now : List A) (kept place : ℕ) (is : IsCompact marks old now kept place) where
  pub compact_keep : length marks ≡ length old → place < length old → get_or marks place false ≡ false → IsCompact marks old (swap now kept place) (kept + 1) (place + 1)
  compact_keep same within off =
      let x : A = (at_place old place within).0 in
      let here : slice_get old place ≡ Some x = (at_place old place within).1 in
      let one : suc place ≡ place + 1 = omega arith in
      let there : slice_get now place ≡ Some x = is.rest place (omega arith) ∙ here in
      let moved : set (set now kept x) place (get_or now kept x) ≡ swap now kept place = swapped now kept place x is.within there in
      record {
        count = length-swap now kept place ∙ is.count;
        within = omega (arith, is.within);
        left = ap (take (kept + 1)) (sym moved) ∙ taken now kept place x is.within there ∙ ap (λ zs. zs ++ x ∷ []) is.left
            ∙ sym (unmarked_keep marks old place x (omega (arith, same, within)) here off) ∙ ap (λ n. unmarked (take n marks) (take n old)) one;
        rest = λ k past. ap (λ zs. slice_get zs k) (sym moved)
            ∙ slice_get-set_other (set now kept x) place k (get_or now kept x) (λ e. omega (arith, past, e))
            ∙ slice_get-set_other now kept k x (λ e. omega (arith, past, is.within, e))
            ∙ is.rest k (omega (arith, past));
      }

  pub compact_skip : get_or marks place false ≡ true → IsCompact marks old now kept (place + 1)
  compact_skip on = record {
    count = is.count;
    within = omega (arith, is.within);
    left = is.left ∙ sym (unmarked_skip marks old place on) ∙ (let one : suc place ≡ place + 1 = omega arith in ap (λ n. unmarked (take n marks) (take n old)) one);
    rest = λ k past. is.rest k (omega (arith, past));
  }

  pub compact_end : length marks ≡ length old → length old ≤ place → take kept now ≡ unmarked marks old
  compact_end same past = is.left ∙ unmarked_all marks old place (omega (arith, same, past)) past

pub compacted : {A : Type 0} (marks : List Bool) (old now new : List A) (kept count place : ℕ) → new ≡ now → count ≡ kept → IsCompact marks old now kept place → IsCompact marks old new count place
compacted marks old now new kept count place a b is = subst (λ xs. IsCompact marks old xs count place) (sym a) (subst (λ k. IsCompact marks old now k place) (sym b) is)
