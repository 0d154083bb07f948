-- The number of bytes at a place, and the choice among places.
use Rattle.std.proofs.Common.{◌≡◌, ℕ, zero, suc, ◌+◌, ◌-◌, ◌*◌, ◌<◌, ◌≤◌, Bool, true, false, List, [], ◌∷◌, ◌++◌, length, take, drop, get_or, map, inl, inr, refl, sym, ap, subst, ◌∙◌, arith, nat_lt}
use Rattle.std.specs.Prelude.{◌==◌, ◌&&◌, ◌||◌, All, slice_index, if◌then◌else◌}
use Rattle.std.specs.Int.{byte_worth}
use Rattle.std.proofs.lemmas.Bool.{cases_lt}
use Rattle.std.proofs.lemmas.List.{get_or-take, get_or_past, take-map, drop-map, drop_all, length-map, length-take-le, length-drop, take_more, take_all}
use Rattle.word_dag.specs.declared.nodes.Id.{Id}
use Rattle.word_dag.specs.declared.nodes.Node.{Node}
use Rattle.word_dag.specs.declared.nodes.Node.TheVariants.{ZeroExtend}
use Rattle.word_dag.specs.Meaning.{width, value, holds}
use Rattle.word_dag.specs.Growth.{Within, Extends, Makes}
use Rattle.word_dag.proofs.Truth.{holds_bit}
use Rattle.word_dag.proofs.Grown.{extends_itself, extends_more, map_stays}
use Rattle.value_nodes.specs.Values.{IsWord, IsValue, AreBytes}
use Rattle.value_nodes.specs.Bytes.{sum_of_bytes}
use Rattle.value_nodes.proofs.Made.{word_stays}
use Rattle.byte_ops.specs.declared.places.PlaceTest.{PlaceTest}
use Rattle.byte_ops.specs.Bytes.{selected}
use Rattle.byte_ops.specs.declared.places.TestedOffset.{TestedOffset}
use Rattle.byte_ops.specs.Tests.{IsPlaceTest, is_tested, IsTestedOffset}
use Rattle.byte_ops.proofs.Tested.{same_numbers, second_true, not_below, below_is, tested_push, tested_below, tests_stay}

-- ---- sums of bytes

-- what the first bytes say doesn't hang on those behind them
pub sum_first : (xs : List ℕ) (n k : ℕ) → k ≤ n → sum_of_bytes (take n xs) k ≡ sum_of_bytes xs k
sum_first xs n zero h = refl
sum_first xs n (suc k) h =
    let rest = sum_first xs n k (omega (arith, h)) in
    let here = get_or-take n xs k 0 (omega (arith, h)) in
    λ i. rest i + byte_worth k (here i)

no_worth : (k : ℕ) → byte_worth k 0 ≡ 0
no_worth zero = refl
no_worth (suc k) = omega arith

-- bytes past the end are 0
pub sum_past : (xs : List ℕ) (n : ℕ) → length xs ≤ n → sum_of_bytes xs n ≡ sum_of_bytes xs (length xs)
sum_past xs n h = by_rest (n - length xs) n (omega (arith, h))
  where
    by_rest : (k n : ℕ) → n ≡ k + length xs → sum_of_bytes xs n ≡ sum_of_bytes xs (length xs)
    by_rest zero n is = ap (sum_of_bytes xs) (is ∙ (let plain : 0 + length xs ≡ length xs = omega arith in plain))
    by_rest (suc k) n is =
        ap (sum_of_bytes xs) (let next : n ≡ suc (k + length xs) = omega (arith, is) in next)
        ∙ (let none : byte_worth (k + length xs) (slice_index xs (k + length xs)) ≡ 0 = ap (byte_worth (k + length xs)) (get_or_past xs (k + length xs) 0 (omega arith)) ∙ no_worth (k + length xs) in
        let plain : sum_of_bytes xs (k + length xs) + 0 ≡ sum_of_bytes xs (k + length xs) = omega arith in ap (λ m. sum_of_bytes xs (k + length xs) + m) none ∙ plain)
        ∙ by_rest k (k + length xs) refl

pub selected_past : (xs : List ℕ) (offset n : ℕ) → length xs ≤ offset → selected xs offset n ≡ 0
selected_past xs offset n h = ap (λ ys. sum_of_bytes ys n) (drop_all offset xs h) ∙ sum_past [] n (omega arith)

-- ---- the bytes at a place

module _ (d : List Node) (block section : List Id) (at k count : ℕ) (is : section ≡ take k (drop at block)) (same : k ≡ count) (within : at + count ≤ length block) where
  pub section_long : length section ≡ count
  section_long = ap length is ∙ length-take-le k (drop at block) (omega (arith, within, same, length-drop at block)) ∙ same

  section_sum : (v : ℕ → ℕ) → sum_of_bytes (map (value v d) section) (length section) ≡ sum_of_bytes (drop at (map (value v d) block)) count
  section_sum v =
      let xs = drop at (map (value v d) block) in
      let cut : map (value v d) section ≡ take k xs = ap (map (value v d)) is ∙ sym (take-map (value v d) k (drop at block)) ∙ ap (take k) (sym (drop-map (value v d) at block)) in
      (λ i. sum_of_bytes (cut i) (section_long i)) ∙ sum_first xs k count (omega (arith, same))

  pub number_plain : (e : List Node) (word : Id) (n : ℕ) → count ≡ n → IsValue e word (8 * length section) (λ v. sum_of_bytes (map (value v d) section) (length section)) → IsValue e word (8 * n) (λ v. selected (map (value v d) block) at n)
  number_plain e word n all made = record {
    there = made.there;
    width_is = made.width_is ∙ ap (λ m. 8 * m) (section_long ∙ all);
    value_is = λ v. made.value_is v ∙ section_sum v ∙ ap (sum_of_bytes (drop at (map (value v d) block))) all;
  }

  pub number_wide : (e f : List Node) (word i : Id) (n w : ℕ) → w ≡ 8 * n → count ≤ n → length block ≤ at + count → IsValue e word (8 * length section) (λ v. sum_of_bytes (map (value v d) section) (length section)) → Makes e f (ZeroExtend word w) i
      → IsValue f i (8 * n) (λ v. selected (map (value v d) block) at n)
  number_wide e f word i n w wide few end made m = record {
    there = m.there;
    width_is = m.width_is ∙ wide;
    value_is = λ v.
        let xs = drop at (map (value v d) block) in
        let long : length xs ≡ count = omega (arith, length-drop at (map (value v d) block), length-map block (value v d), within, end) in
        m.value_is v ∙ made.value_is v ∙ section_sum v ∙ sym (sum_past xs n (omega (arith, long, few)) ∙ ap (sum_of_bytes xs) long);
  }

-- ---- one place

-- no place at or behind the limit
pub other_made : (d : List Node) (offset other : Id) (t : PlaceTest) (limit w : ℕ) (f : (ℕ → ℕ) → ℕ) → limit ≤ t.at → IsWord d other w → IsValue d other w (λ v. if nat_lt t.at limit && (value v d offset == t.at) then f v else value v d other)
other_made d offset other t limit w f past word = record {
  there = word.there;
  width_is = word.width_is;
  value_is = λ v. sym (λ i. if not_below t.at limit past i && (value v d offset == t.at) then f v else value v d other);
}

pub place_made : (d e f : List Node) (offset here other i : Id) (t : PlaceTest) (limit w : ℕ) (s : (ℕ → ℕ) → ℕ) → t.at < limit → Extends d e → IsPlaceTest d offset t → IsWord d other w → IsValue e here w s
    → IsValue f i (width e here) (λ v. if holds (value v e t.test) then value v e here else value v e other) → IsValue f i w (λ v. if nat_lt t.at limit && (value v d offset == t.at) then s v else value v d other)
place_made d e f offset here other i t limit w s less x test word number made = record {
  there = made.there;
  width_is = made.width_is ∙ number.width_is;
  value_is = λ v.
      let truth : holds (value v e t.test) ≡ (value v d offset == t.at) = ap holds (x.value_stays v t.test test.there ∙ test.value_is v) ∙ holds_bit (value v d offset == t.at) in
      let first = number.value_is v in
      let second = x.value_stays v other word.there in
      made.value_is v ∙ (λ j. if truth j then first j else second j) ∙ sym (λ j. if below_is t.at limit less j && (value v d offset == t.at) then s v else value v d other);
}

-- ---- among places

pub record Choosing (d e : List Node) (block : List Id) (offset : Id) (tests : List PlaceTest) (k limit n : ℕ) (other word : Id) : Type 0 where
  pub extends : Extends d e
  pub made : IsValue e word (8 * n) (λ v. if is_tested limit (take k tests) (value v d offset) then selected (map (value v d) block) (value v d offset) n else value v d other)

pub choosing_none : (d : List Node) (block : List Id) (offset : Id) (tests : List PlaceTest) (limit n : ℕ) (other word : Id) → word ≡ other → IsWord d other (8 * n) → Choosing d d block offset tests 0 limit n other word
choosing_none d block offset tests limit n other word same is = record {
  extends = extends_itself d;
  made = subst (λ w. IsValue d w (8 * n) (λ v. value v d other)) (sym same) (record { there = is.there; width_is = is.width_is; value_is = λ v. refl });
}

pick : (t a : Bool) (here there other : ℕ) → (a ≡ true → here ≡ there) → (if a then here else (if t then there else other)) ≡ (if t || a then there else other)
pick true true here there other same = same refl
pick true false here there other same = refl
pick false true here there other same = same refl
pick false false here there other same = refl

pub bytes_within : (d : List Node) (ids : List Id) → AreBytes d ids → All (Within d) ids
bytes_within d ids all = λ k i l. (all k i l).there

pub bytes_stay : (d e : List Node) (ids : List Id) → Extends d e → AreBytes d ids → AreBytes e ids
bytes_stay d e ids x all = λ k i l. word_stays d e (get_or ids k i) 8 x (all k i l)

pub choosing_more : (d e f : List Node) (block : List Id) (offset : Id) (tests : List PlaceTest) (k limit n : ℕ) (other word next : Id) (t : PlaceTest) → AreBytes d block → IsWord d offset 32 → IsWord d other (8 * n) → k < length tests → t ≡ get_or tests k t
    → Choosing d e block offset tests k limit n other word → Extends e f → IsValue f next (8 * n) (λ v. if nat_lt t.at limit && (value v e offset == t.at) then selected (map (value v e) block) t.at n else value v e word)
    → Choosing d f block offset tests (k + 1) limit n other next
choosing_more d e f block offset tests k limit n other word next t bytes place is l at old x made = record {
  extends = extends_more d e f old.extends x;
  made = record {
    there = made.there;
    width_is = made.width_is;
    value_is = λ v.
        let p = value v d offset in
        let xs = map (value v d) block in
        let a = nat_lt t.at limit && (p == t.at) in
        let moved = old.extends.value_stays v offset place.there in
        let blocks = map_stays v d e block old.extends (bytes_within d block bytes) in
        let taken : take (k + 1) tests ≡ take k tests ++ t ∷ [] = take_more tests k t l ∙ ap (λ s. take k tests ++ s ∷ []) (sym at) in
        let together : is_tested limit (take (k + 1) tests) p ≡ (is_tested limit (take k tests) p || a) = ap (λ ts. is_tested limit ts p) taken ∙ tested_push limit (take k tests) t p in
        made.value_is v
        ∙ (λ j. if nat_lt t.at limit && (moved j == t.at) then selected (blocks j) t.at n else old.made.value_is v j)
        ∙ pick (is_tested limit (take k tests) p) a (selected xs t.at n) (selected xs p n) (value v d other) (λ h. ap (λ m. selected xs m n) (sym (same_numbers p t.at (second_true (nat_lt t.at limit) (p == t.at) h))))
        ∙ sym (λ j. if together j then selected xs p n else value v d other);
  };
}

pub choosing_whole : (d e : List Node) (block : List Id) (offset : Id) (tests : List PlaceTest) (k limit n : ℕ) (other word : Id) → length tests ≤ k → Choosing d e block offset tests k limit n other word
    → IsValue e word (8 * n) (λ v. if is_tested limit tests (value v d offset) then selected (map (value v d) block) (value v d offset) n else value v d other)
choosing_whole d e block offset tests k limit n other word end c = record {
  there = c.made.there;
  width_is = c.made.width_is;
  value_is = λ v. c.made.value_is v ∙ (λ j. if is_tested limit (take_all k tests end j) (value v d offset) then selected (map (value v d) block) (value v d offset) n else value v d other);
}

-- ---- the whole

-- an offset that is no tested place lies past the block
pub selected_whole : (b : Bool) (xs : List ℕ) (offset n other : ℕ) → (offset < length xs → b ≡ true) → other ≡ 0 → (if b then selected xs offset n else other) ≡ selected xs offset n
selected_whole true xs offset n other all none = refl
selected_whole false xs offset n other all none = elim (cases_lt offset (length xs)) [ inl before ↦ absurd (clash (all before)) | inr after ↦ none ∙ sym (selected_past xs offset n after) ]
  where
    clash : false ≡ true → ⊥
    clash h = cc

-- where the first of the tested places is taken without its test
pub selected_first : (b : Bool) (here there : ℕ) → (b ≡ false → here ≡ there) → (if b then there else here) ≡ there
selected_first true here there same = refl
selected_first false here there same = same refl

-- the first of the tests
pub first_place : (limit : ℕ) (t : PlaceTest) (rest ts : List PlaceTest) (x : ℕ) → ts ≡ t ∷ rest → is_tested limit ts x ≡ true → is_tested limit rest x ≡ false → x ≡ t.at
first_place limit t rest ts x is all none = same_numbers x t.at (second_true (nat_lt t.at limit) (x == t.at) (left_of (nat_lt t.at limit && (x == t.at)) (is_tested limit rest x) (sym (ap (λ us. is_tested limit us x) is) ∙ all) none))
  where
    left_of : (a b : Bool) → (a || b) ≡ true → b ≡ false → a ≡ true
    left_of true b h none = refl
    left_of false b h none = cc

pub not_both : (b : Bool) → b ≡ true → b ≡ false → ⊥
not_both b h l = cc

pub select_made : (d e f g : List Node) (block : List Id) (offset : Id) (o : TestedOffset) (tests : List PlaceTest) (none id : Id) (limit n : ℕ) → Extends d e → Extends e f → AreBytes d block → IsWord d offset 32 → IsTestedOffset e o → o.offset ≡ offset → o.size ≡ length block
    → tests ≡ o.tests.items → limit ≡ length block → ((v : ℕ → ℕ) → value v f none ≡ 0)
    → IsValue g id (8 * n) (λ v. if is_tested limit tests (value v f offset) then selected (map (value v f) block) (value v f offset) n else value v f none)
    → IsValue g id (8 * n) (λ v. selected (map (value v d) block) (value v d offset) n)
select_made d e f g block offset o tests none id limit n x y bytes word all offset_is size_is tests_is limit_is zero_is made =
    let z = extends_more d e f x y in
    record {
      there = made.there;
      width_is = made.width_is;
      value_is = λ v.
          let p = value v d offset in
          let xs = map (value v d) block in
          let moved = z.value_stays v offset word.there in
          let blocks = map_stays v d f block z (bytes_within d block bytes) in
          let at_e : value v e o.offset ≡ p = ap (value v e) offset_is ∙ x.value_stays v offset word.there in
          let tested : p < length xs → is_tested limit tests p ≡ true =
          λ less. (λ i. is_tested ((limit_is ∙ sym size_is) i) (tests_is i) (sym at_e i)) ∙ all.whole v (omega (arith, at_e, less, size_is, length-map block (value v d))) in
          made.value_is v
          ∙ (λ i. if is_tested limit tests (moved i) then selected (blocks i) (moved i) n else value v f none)
          ∙ selected_whole (is_tested limit tests p) xs p n (value v f none) tested (zero_is v);
    }

pub within_tests : (d e : List Node) (o : TestedOffset) (tests rest : List PlaceTest) → Extends d e → IsTestedOffset d o → tests ≡ o.tests.items → (All (IsPlaceTest d o.offset) tests → All (IsPlaceTest d o.offset) rest) → All (IsPlaceTest e o.offset) rest
within_tests d e o tests rest x all tests_is kept = tests_stay d e o.offset rest x all.offset.there (kept (subst (All (IsPlaceTest d o.offset)) (sym tests_is) all.each))

pub within_made : (d e f : List Node) (block : List Id) (o : TestedOffset) (tests rest : List PlaceTest) (word id : Id) (limit n : ℕ) → Extends d e → AreBytes d block → IsTestedOffset d o → tests ≡ o.tests.items → limit ≡ length block + 1 - n → length block < o.size + n
    → ((v : ℕ → ℕ) (x : ℕ) → is_tested limit tests x ≡ true → is_tested limit rest x ≡ false → value v e word ≡ selected (map (value v d) block) x n)
    → IsValue f id (8 * n) (λ v. if is_tested limit rest (value v e o.offset) then selected (map (value v e) block) (value v e o.offset) n else value v e word)
    → (v : ℕ → ℕ) → value v d o.offset + n ≤ length block → value v f id ≡ selected (map (value v d) block) (value v d o.offset) n
within_made d e f block o tests rest word id limit n x bytes all tests_is limit_is large first made v within =
    let p = value v d o.offset in
    let xs = map (value v d) block in
    let moved = x.value_stays v o.offset all.offset.there in
    let blocks = map_stays v d e block x (bytes_within d block bytes) in
    let tested : is_tested o.size tests p ≡ true = ap (λ ts. is_tested o.size ts p) tests_is ∙ all.whole v (omega (arith, large, within)) in
    let here : is_tested limit tests p ≡ true = tested_below o.size limit tests p tested (omega (arith, limit_is, within)) in
    made.value_is v
    ∙ (λ i. if is_tested limit rest (moved i) then selected (blocks i) (moved i) n else value v e word)
    ∙ selected_first (is_tested limit rest p) (value v e word) (selected xs p n) (first v p here)
