-- So many places one behind the other, what stands at them, and a node over them.
use Rattle.std.proofs.Common.{◌≡◌, ℕ, zero, suc, ◌+◌, ◌-◌, ◌^◌, ◌<◌, ◌≤◌, ◌==◌, nat_le, Bool, true, false, ◌&&◌, ◌||◌, List, [], ◌∷◌, ◌++◌, length, get_or, map, take, drop, refl, sym, ap, subst, ◌∙◌, arith, eq-eqb}
use Rattle.std.specs.List.{list_all, list_any, AllByRecursion}
use Rattle.std.specs.Cmp.Derive.{both_true}
use Rattle.std.proofs.Math.Seq.{drop-cons}
use Rattle.std.proofs.lemmas.List.{take-map, drop-map, length-map}
use Rattle.std.proofs.lemmas.Bool.{le-leb, leb-true}
use Rattle.std.proofs.lemmas.Bool.Decides.{Decides-eqb}
use Rattle.words.specs.BitVector.{BitVector, word}
use Rattle.words.specs.Operators.{low_bits, logical_shift}
use Rattle.word_dag.specs.declared.nodes.Id.{Id}
use Rattle.word_dag.specs.declared.nodes.Node.{Node}
use Rattle.word_dag.specs.declared.nodes.Node.TheVariants.{Quantify}
use Rattle.word_dag.specs.declared.nodes.Quantifier.{Quantifier}
use Rattle.word_dag.specs.Meaning.{bit_value, holds, places, at_places, quantified, node_value}
use Rattle.word_dag.specs.Fitting.{are_bits, fits}

-- ---- the places

pub places_below : (first count n : ℕ) → first + count ≤ n → AllByRecursion (λ j. j < n) (places first count)
places_below first zero n h = tt
places_below first (suc count) n h = (omega arith, places_below (suc first) count n (omega arith))

pub places_push : (first count : ℕ) → places first (suc count) ≡ places first count ++ (first + count) ∷ []
places_push first zero = let e : first ≡ first + 0 = omega arith in λ k. e k ∷ []
places_push first (suc count) =
    let e : suc first + count ≡ first + suc count = omega arith in
    (λ k. first ∷ places_push (suc first) count k) ∙ (λ k. first ∷ (places (suc first) count ++ e k ∷ []))

pub places_more : (first count : ℕ) → places first (count + 1) ≡ places first count ++ (first + count) ∷ []
places_more first count = let e : count + 1 ≡ suc count = omega arith in (λ k. places first (e k)) ∙ places_push first count

-- what is so at each of the places
pub each_place : (P : ℕ → Type 0) (first count i : ℕ) → i < count → AllByRecursion P (places first count) → P (first + i)
each_place P first zero i l h = absurd (omega arith)
each_place P first (suc count) zero l h = subst P (omega arith) h.0
each_place P first (suc count) (suc i) l h = subst P (omega arith) (each_place P (suc first) count i (omega arith) h.1)

-- ---- what stands at places

pub at_consecutive : (xs : List ℕ) (first count : ℕ) → first + count ≤ length xs → at_places xs (places first count) ≡ take count (drop first xs)
at_consecutive xs first zero h = refl
at_consecutive xs first (suc count) h =
    (λ k. get_or xs first 0 ∷ at_consecutive xs (suc first) count (omega arith) k)
    ∙ ap (λ (ys : List ℕ). take (suc count) ys) (sym (drop-cons xs first 0 (omega arith)))

pub at_same : (xs ys js : List ℕ) → AllByRecursion (λ j. get_or ys j 0 ≡ get_or xs j 0) js → at_places ys js ≡ at_places xs js
at_same xs ys [] h = refl
at_same xs ys (j ∷ js) h = λ k. h.0 k ∷ at_same xs ys js h.1 k

pub at_agree : (n : ℕ) (xs ys js : List ℕ) → ((i : ℕ) → i < n → get_or ys i 0 ≡ get_or xs i 0) → AllByRecursion (λ j. j < n) js → at_places ys js ≡ at_places xs js
at_agree n xs ys [] same h = refl
at_agree n xs ys (j ∷ js) same h = λ k. same j h.0 k ∷ at_agree n xs ys js same h.1 k

-- ---- the test of widths

both_are : (a b : Bool) → (a && b) ≡ true → (a ≡ true) × (b ≡ true)
both_are true b h = (refl, h)
both_are false b h = cc

pub all_ones : (ws js : List ℕ) → AllByRecursion (λ j. get_or ws j 0 ≡ 1) js → list_all (λ j. get_or ws j 0 == 1) js ≡ true
all_ones ws [] h = refl
all_ones ws (j ∷ js) h = both_true (eq-eqb (get_or ws j 0) 1 h.0) (all_ones ws js h.1)

pub ones_all : (ws js : List ℕ) → list_all (λ j. get_or ws j 0 == 1) js ≡ true → AllByRecursion (λ j. get_or ws j 0 ≡ 1) js
ones_all ws [] h = tt
ones_all ws (j ∷ js) h =
    let p = both_are (get_or ws j 0 == 1) (list_all (λ j. get_or ws j 0 == 1) js) h in
    ((Decides-eqb (get_or ws j 0) 1).0 p.0, ones_all ws js p.1)

pub record Bits (ws : List ℕ) (first count : ℕ) : Type 0 where
  pub within : first + count ≤ length ws
  pub ones : AllByRecursion (λ j. get_or ws j 0 ≡ 1) (places first count)

pub bits : (ws : List ℕ) (first count : ℕ) → are_bits ws first count ≡ true → Bits ws first count
bits ws first count h =
    let p = both_are (nat_le (first + count) (length ws)) (list_all (λ j. get_or ws j 0 == 1) (places first count)) h in
    record { within = leb-true (first + count) (length ws) p.0; ones = ones_all ws (places first count) p.1 }

pub bits_from : (ws : List ℕ) (first count : ℕ) → first + count ≤ length ws → AllByRecursion (λ j. get_or ws j 0 ≡ 1) (places first count) → are_bits ws first count ≡ true
bits_from ws first count h ones = both_true (le-leb (first + count) (length ws) h) (all_ones ws (places first count) ones)

pub ones_read : (ws us js : List ℕ) → AllByRecursion (λ j. get_or us j 0 ≡ get_or ws j 0) js → list_all (λ j. get_or us j 0 == 1) js ≡ list_all (λ j. get_or ws j 0 == 1) js
ones_read ws us [] h = refl
ones_read ws us (j ∷ js) h = λ k. (h.0 k == 1) && ones_read ws us js h.1 k

-- the widths from a place on, as they are tested
ones_at : (ws js : List ℕ) → list_all (λ w. w == 1) (at_places ws js) ≡ list_all (λ j. get_or ws j 0 == 1) js
ones_at ws [] = refl
ones_at ws (j ∷ js) = ap (λ b. (get_or ws j 0 == 1) && b) (ones_at ws js)

pub ones_between : (ws : List ℕ) (first count : ℕ) → first + count ≤ length ws → list_all (λ w. w == 1) (take count (drop first ws)) ≡ list_all (λ j. get_or ws j 0 == 1) (places first count)
ones_between ws first count h = ap (λ (us : List ℕ). list_all (λ w. w == 1) us) (sym (at_consecutive ws first count h)) ∙ ones_at ws (places first count)

-- ---- words

pub all_words : (ws : List BitVector) → list_all (λ (w : BitVector). holds w.bits) ws ≡ list_all holds (map (λ (w : BitVector). w.bits) ws)
all_words [] = refl
all_words (w ∷ ws) = ap (λ b. holds w.bits && b) (all_words ws)

pub any_words : (ws : List BitVector) → list_any (λ (w : BitVector). holds w.bits) ws ≡ list_any holds (map (λ (w : BitVector). w.bits) ws)
any_words [] = refl
any_words (w ∷ ws) = ap (λ b. holds w.bits || b) (any_words ws)

-- the numbers of the words from a place on
pub words_between : (ws : List BitVector) (first count : ℕ) → first + count ≤ length (map (λ (w : BitVector). w.bits) ws) → map (λ (w : BitVector). w.bits) (take count (drop first ws)) ≡ at_places (map (λ (w : BitVector). w.bits) ws) (places first count)
words_between ws first count h =
    sym (take-map (λ (w : BitVector). w.bits) count (drop first ws))
    ∙ ap (λ (xs : List ℕ). take count xs) (sym (drop-map (λ (w : BitVector). w.bits) first ws))
    ∙ sym (at_consecutive (map (λ (w : BitVector). w.bits) ws) first count h)

-- ---- the lowest bit of a truth value

pub only_bit : (a : ℕ) → a < 2 ^ 1 → low_bits 1 (logical_shift a 0) ≡ a
unfolding low_bits logical_shift
only_bit zero h = refl
only_bit (suc zero) h = refl
only_bit (suc (suc a)) h = absurd (omega arith)

-- ---- what the code finds

pub bits_tested : (us ws : List ℕ) (first count : ℕ) (r : Bool) → us ≡ ws → first + count ≤ length us → r ≡ list_all (λ w. w == 1) (take (first + count - first) (drop first us)) → r ≡ are_bits ws first count
bits_tested us ws first count r same h is =
    let l : first + count ≤ length ws = omega (arith, ap length same, h) in
    let n : first + count - first ≡ count = omega arith in
    is ∙ (λ k. list_all (λ w. w == 1) (take (n k) (drop first (same k)))) ∙ ones_between ws first count l
    ∙ (λ k. sym (le-leb (first + count) (length ws) l) k && list_all (λ j. get_or ws j 0 == 1) (places first count))

pub words_tested : (v : ℕ → ℕ) (ws : List BitVector) (n : Node) (q : Quantifier) (first : Id) (count : ℕ) (r : Bool) (b : BitVector) → n ≡ Quantify q first count → fits (map (λ (w : BitVector). w.width) ws) n ≡ true
    → r ≡ quantified q (map (λ (w : BitVector). w.bits) (take (first.index + count - first.index) (drop first.index ws))) → b ≡ word 1 (bit_value r) → b.bits ≡ node_value v (map (λ (w : BitVector). w.width) ws) (map (λ (w : BitVector). w.bits) ws) n
words_tested v ws n q first count r b which fit is made =
    let h = (bits (map (λ (w : BitVector). w.width) ws) first.index count (subst (λ (m : Node). fits (map (λ (w : BitVector). w.width) ws) m ≡ true) which fit)).within in
    let l : first.index + count ≤ length (map (λ (w : BitVector). w.bits) ws) = omega (arith, h, length-map ws (λ (w : BitVector). w.width), length-map ws (λ (w : BitVector). w.bits)) in
    let m : first.index + count - first.index ≡ count = omega arith in
    ap (λ (w : BitVector). w.bits) made
    ∙ (λ k. bit_value (is k))
    ∙ (λ k. bit_value (quantified q (map (λ (w : BitVector). w.bits) (take (m k) (drop first.index ws)))))
    ∙ (λ k. bit_value (quantified q (words_between ws first.index count l k)))
    ∙ ap (node_value v (map (λ (w : BitVector). w.width) ws) (map (λ (w : BitVector). w.bits) ws)) (sym which)
