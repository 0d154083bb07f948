-- The arguments of a call, by one more in front.
use Rattle.std.proofs.Common.{◌≡◌, ℕ, zero, suc, ◌+◌, ◌-◌, ◌<◌, ◌≤◌, List, [], ◌∷◌, drop, length, refl, sym, ap, ◌∙◌, arith}
use Rattle.std.specs.Prelude.{min, slice_index}
use Rattle.goto_prog.specs.declared.code.Operation.TheVariants as operations
use Rattle.goto_prog.specs.declared.code.Instruction.{Instruction}
use Rattle.goto_unwind.specs.Unrolled.{at, argument_code}

drop_at : (xs : List ℕ) (n : ℕ) → n < length xs → drop n xs ≡ slice_index xs n ∷ drop (suc n) xs
drop_at [] n within = absurd (omega (arith, within))
drop_at (x ∷ xs) zero within = refl
drop_at (x ∷ xs) (suc n) within = drop_at xs n (omega (arith, within))

module _ (line f : ℕ) where
  abbrev copy : (into from size c : ℕ) → Instruction
  copy into from size c = at line f (operations.CopyBytes into 0 from 0 (min size c))

  pub argument_more : (arguments sizes : List ℕ) (from into n k j : ℕ) → k ≡ suc j → k ≤ n → j < length arguments → j < length sizes
      → argument_code line f (drop j arguments) (from + j) (n - j) (drop j sizes) (into + j)
      ≡ copy (into + j) (from + j) (slice_index sizes j) (slice_index arguments j) ∷ argument_code line f (drop k arguments) (from + k) (n - k) (drop k sizes) (into + k)
  argument_more arguments sizes from into n k j is few one other =
      let front = copy (into + j) (from + j) (slice_index sizes j) (slice_index arguments j) in
      let count : n - j ≡ suc (n - suc j) = omega (arith, is, few) in
      (λ i. argument_code line f (drop_at arguments j one i) (from + j) (count i) (drop_at sizes j other i) (into + j))
      ∙ (λ i. front ∷ argument_code line f (drop (suc j) arguments) (by_one from j i) (n - suc j) (drop (suc j) sizes) (by_one into j i))
      ∙ ap (λ m. front ∷ argument_code line f (drop m arguments) (from + m) (n - m) (drop m sizes) (into + m)) (sym is)
    where
      by_one : (a b : ℕ) → a + b + 1 ≡ a + suc b
      by_one a b = omega arith

  pub argument_none : (arguments sizes : List ℕ) (from into n : ℕ) → argument_code line f (drop n arguments) (from + n) (n - n) (drop n sizes) (into + n) ≡ []
  argument_none arguments sizes from into n = ap (λ m. argument_code line f (drop n arguments) (from + n) m (drop n sizes) (into + n)) (by_itself n)
    where
      by_itself : (a : ℕ) → a - a ≡ 0
      by_itself a = omega arith

  counted : (arguments : List ℕ) (from n k : ℕ) (sizes : List ℕ) (into : ℕ) → n ≡ k → argument_code line f arguments from n sizes into ≡ argument_code line f arguments from k sizes into
  counted arguments from n k sizes into same = ap (λ m. argument_code line f arguments from m sizes into) same

  without : (a b : ℕ) → min (min 0 a) b ≡ 0
  without a b = omega arith

  without_sizes : (a b : ℕ) → min (min (suc a) 0) b ≡ 0
  without_sizes a b = omega arith

  without_arguments : (a b : ℕ) → min (min (suc a) (suc b)) 0 ≡ 0
  without_arguments a b = omega arith

  with_more : (a b c : ℕ) → min (min (suc a) (suc b)) (suc c) ≡ suc (min (min a b) c)
  with_more a b c = omega arith

  few : (arguments : List ℕ) (from count : ℕ) (sizes : List ℕ) (into : ℕ) → argument_code line f arguments from (min (min count (length sizes)) (length arguments)) sizes into ≡ argument_code line f arguments from count sizes into
  few arguments from zero sizes into = counted arguments from (min (min 0 (length sizes)) (length arguments)) 0 sizes into (without (length sizes) (length arguments))
  few arguments from (suc count) [] into = counted arguments from (min (min (suc count) 0) (length arguments)) 0 [] into (without_sizes count (length arguments))
  few [] from (suc count) (size ∷ sizes) into = counted [] from (min (min (suc count) (suc (length sizes))) 0) 0 (size ∷ sizes) into (without_arguments count (length sizes))
  few (c ∷ arguments) from (suc count) (size ∷ sizes) into =
      let k = min (min count (length sizes)) (length arguments) in
      counted (c ∷ arguments) from (min (min (suc count) (suc (length sizes))) (suc (length arguments))) (suc k) (size ∷ sizes) into (with_more count (length sizes) (length arguments))
      ∙ ap (λ (code : List Instruction). copy into from size c ∷ code) (few arguments (from + 1) count sizes (into + 1))

  pub argument_all : (arguments sizes : List ℕ) (from into count n : ℕ) → n ≡ min (min count (length sizes)) (length arguments)
      → argument_code line f (drop 0 arguments) (from + 0) (n - 0) (drop 0 sizes) (into + 0) ≡ argument_code line f arguments from count sizes into
  argument_all arguments sizes from into count n is =
      (λ i. argument_code line f arguments (none from i) (all n i) sizes (none into i)) ∙ counted arguments from n (min (min count (length sizes)) (length arguments)) sizes into is ∙ few arguments from count sizes into
    where
      none : (a : ℕ) → a + 0 ≡ a
      none a = omega arith

      all : (a : ℕ) → a - 0 ≡ a
      all a = omega arith
