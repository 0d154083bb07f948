-- The bytes of words as nodes.
use Rattle.std.proofs.Common.{◌≡◌, ◌<◌, ◌≤◌, ◌+◌, ◌-◌, ◌*◌, ◌/◌, ◌%◌, ◌^◌, ℕ, zero, suc, true, false, List, [], ◌∷◌, ◌++◌, length, take, drop, get_or, map, inl, inr, refl, sym, ◌∙◌, ap, subst, arith, add-one}
use Rattle.std.specs.Prelude.{slice_index}
use Rattle.std.specs.Int.{byte_at, byte_worth, bytes_low_first, sum_through, from_le_bytes}
use Rattle.std.proofs.lemmas.List.{map_push, get_or-map, get_or-take, take-map, drop-map, length-take-le, length-drop}
use Rattle.std.proofs.lemmas.List.Elements.{All-push, All-take, All-drop}
use Rattle.c_types.specs.declared.integers.IntegerType.{IntegerType}
use Rattle.c_types.specs.declared.integers.IntegerType.TheVariants as types
use Rattle.c_types.specs.Integers.{width as type_width, bytes as object_bytes, same_integer}
use Rattle.core_tree.specs.Operations.{truth_bits, is_true}
use Rattle.c_values.specs.Variables.{storage, low_bytes, number_at}
use Rattle.std.proofs.Math.Nat.{pow-suc}
use Rattle.words.proofs.Powers.{pow_split}
use Rattle.words.specs.Operators.{low_bits, logical_shift}
use Rattle.word_dag.specs.declared.nodes.Id.{Id}
use Rattle.word_dag.specs.declared.nodes.Node.{Node}
use Rattle.word_dag.specs.declared.nodes.Node.TheVariants.{Join, Cut}
use Rattle.words.proofs.Widths.{low_bits_same}
use Rattle.std.proofs.Math.Nat.{div-div-eq-div-mul}
use Rattle.std.proofs.lemmas.Nat.{mod-pow-add, pow-add}
use Rattle.std.proofs.lemmas.Bool.{cases_lt}
use Rattle.std.proofs.lemmas.Bool.Decides.{nat_tests}
use Rattle.std.specs.Prelude.{◌==◌}
use Rattle.word_dag.specs.Fitting.{is_ordered}
use Rattle.word_dag.proofs.Order.{value_is_final}
use Rattle.word_dag.specs.Meaning.{width, widths, value, values, node_value, joined}
use Rattle.word_dag.specs.Growth.{Within, Extends, Makes}
use Rattle.word_dag.proofs.Grown.{extends_itself, extends_more, map_stays}
use Rattle.value_nodes.specs.Values.{IsWord, IsValue, AreBytes}
use Rattle.value_nodes.specs.Bytes.{AreBytesOf, AreCuts, sum_of_bytes}
use Rattle.value_nodes.proofs.Made.{word_stays, word_below}
use Rattle.value_nodes.proofs.Conversions.{to_bool, to_other, bool_width, unshifted}

-- ---- numbers

power_of_256 : (p : ℕ) → 256 ^ p ≡ 2 ^ (8 * p)
power_of_256 zero = refl
power_of_256 (suc p) =
    let less : 8 * suc p - 8 ≡ 8 * p = omega arith in
    pow-suc 256 p ∙ ap (λ n. n * 256) (power_of_256 p) ∙ ap (λ n. 2 ^ n * 256) (sym less) ∙ sym (pow_split 8 (8 * suc p) (omega arith))

byte_is : (p x : ℕ) → low_bits 8 (logical_shift x (8 * p)) ≡ byte_at p x
unfolding low_bits logical_shift
byte_is zero x = let whole : x / 1 ≡ x = omega arith in ap (λ n. n % 256) whole
byte_is (suc p) x = ap (λ n. x / n % 256) (sym (power_of_256 (suc p)))

worth : (p b : ℕ) → b * 2 ^ (8 * p) ≡ byte_worth p b
worth zero b = omega arith
worth (suc p) b = ap (λ n. b * n) (sym (power_of_256 (suc p)))

one_more_byte : (i k n : ℕ) → bytes_low_first i (suc k) n ≡ bytes_low_first i k n ++ byte_at (i + k) n ∷ []
one_more_byte i zero n = let same : i ≡ i + 0 = omega arith in ap (λ j. byte_at j n ∷ []) same
one_more_byte i (suc k) n =
    let same : suc i + k ≡ i + suc k = omega arith in
    ap (λ bs. byte_at i n ∷ bs) (one_more_byte (suc i) k n ∙ ap (λ j. bytes_low_first (suc i) k n ++ byte_at j n ∷ []) same)

-- the first bytes of more
take_bytes : (i k n x : ℕ) → k ≤ n → take k (bytes_low_first i n x) ≡ bytes_low_first i k x
take_bytes i zero n x h = refl
take_bytes i (suc k) zero x h = absurd (omega (arith, h))
take_bytes i (suc k) (suc n) x h = ap (λ bs. byte_at i x ∷ bs) (take_bytes (suc i) k n x (omega (arith, h)))

-- ---- a byte of a word

pub made_byte : (d e : List Node) (a i : Id) (low place : ℕ) → low ≡ 8 * place → Makes d e (Cut a low 8) i → IsValue e i 8 (λ v. byte_at place (value v d a))
made_byte d e a i low place same m =
    record { there = m.there; width_is = m.width_is; value_is = λ v. m.value_is v ∙ (λ k. low_bits 8 (logical_shift (value v d a) (same k))) ∙ byte_is place (value v d a) }

-- ---- all bytes of a word

pub record Storing (d e : List Node) (ids : List Id) (a : Id) (k : ℕ) : Type 0 where
  pub extends : Extends d e
  pub bytes : AreBytesOf e ids (λ v. bytes_low_first 0 k (value v d a))

pub storing_none : (d : List Node) (ids : List Id) (a : Id) → ids ≡ [] → Storing d d ids a 0
storing_none d ids a none =
    record {
      extends = extends_itself d;
      bytes = record { words = subst (AreBytes d) (sym none) (λ k i l. absurd (omega arith)); values_are = λ v. ap (map (value v d)) none };
    }

bytes_stay : (d e : List Node) (ids : List Id) → Extends d e → AreBytes d ids → AreBytes e ids
bytes_stay d e ids x all = λ k i l. word_stays d e (get_or ids k i) 8 x (all k i l)

pub storing_more : (d e f : List Node) (ids more : List Id) (a i : Id) (k : ℕ) → Within d a → Storing d e ids a k → Extends e f → IsValue f i 8 (λ v. byte_at k (value v e a)) → more ≡ ids ++ i ∷ []
    → Storing d f more a (k + 1)
storing_more d e f ids more a i k there s x made is =
    record {
      extends = extends_more d e f s.extends x;
      bytes = record {
        words = subst (AreBytes f) (sym is) (All-push (λ j. IsWord f j 8) ids i (bytes_stay e f ids x s.bytes.words) (record { there = made.there; width_is = made.width_is }));
        values_are = λ v.
            let same : value v e a ≡ value v d a = s.extends.value_stays v a there in
            ap (map (value v f)) is
            ∙ map_push (value v f) ids i
            ∙ (λ j. map_stays v e f ids x (λ k i l. (s.bytes.words k i l).there) j ++ made.value_is v j ∷ [])
            ∙ (λ j. s.bytes.values_are v j ++ byte_at k (same j) ∷ [])
            ∙ sym (one_more_byte 0 k (value v d a) ∙ (let first : 0 + k ≡ k = omega arith in ap (λ j. bytes_low_first 0 k (value v d a) ++ byte_at j (value v d a) ∷ []) first))
            ∙ ap (λ j. bytes_low_first 0 j (value v d a)) (sym (add-one k));
      };
    }

pub stored_all : (d e : List Node) (ids : List Id) (a : Id) (k n w : ℕ) → k ≡ n → 8 * n ≤ w → w ≤ 64 → Storing d e ids a k → AreBytesOf e ids (λ v. low_bytes n (value v d a))
stored_all d e ids a k n w done h l s = record {
  words = s.bytes.words;
  values_are = λ v. s.bytes.values_are v ∙ ap (λ i. bytes_low_first 0 i (value v d a)) done ∙ sym (take_bytes 0 n 8 (value v d a) (omega (arith, h, l)));
}

-- ---- a word of bytes

pub record Joining (d e : List Node) (bytes : List Id) (word : Id) (k : ℕ) : Type 0 where
  pub extends : Extends d e
  pub made : IsValue e word (8 * k) (λ v. sum_of_bytes (map (value v d) bytes) k)

byte_there : (d : List Node) (bytes : List Id) (i : Id) (k : ℕ) → AreBytes d bytes → k < length bytes → i ≡ get_or bytes k i → IsWord d i 8
byte_there d bytes i k all l is = subst (λ j. IsWord d j 8) (sym is) (all k i l)

byte_value : (v : ℕ → ℕ) (d : List Node) (bytes : List Id) (i : Id) (k : ℕ) → k < length bytes → i ≡ get_or bytes k i → value v d i ≡ slice_index (map (value v d) bytes) k
byte_value v d bytes i k l is = ap (value v d) is ∙ sym (get_or-map (value v d) bytes k i 0 l)

pub joining_first : (d : List Node) (bytes : List Id) (word : Id) → AreBytes d bytes → 1 ≤ length bytes → word ≡ get_or bytes 0 word → Joining d d bytes word 1
joining_first d bytes word all some is =
    let first = byte_there d bytes word 0 all (omega arith) is in
    record {
      extends = extends_itself d;
      made = record { there = first.there; width_is = first.width_is; value_is = λ v. byte_value v d bytes word 0 (omega arith) is ∙ (let plain : slice_index (map (value v d) bytes) 0 ≡ 0 + slice_index (map (value v d) bytes) 0 = omega arith in plain) };
    }

pub joining_fits : (d e : List Node) (bytes : List Id) (word i : Id) (k : ℕ) → AreBytes d bytes → Joining d e bytes word k → k < length bytes → length bytes ≤ 8 → i ≡ get_or bytes k i
    → Within e i × Within e word × (width e i + width e word ≤ 64)
joining_fits d e bytes word i k all j l few is =
    let high = word_stays d e i 8 j.extends (byte_there d bytes i k all l is) in
    (high.there, j.made.there, omega (arith, high.width_is, j.made.width_is))

pub joining_more : (d e f : List Node) (bytes : List Id) (word i next : Id) (k : ℕ) → AreBytes d bytes → Joining d e bytes word k → k < length bytes → i ≡ get_or bytes k i → Extends e f → Makes e f (Join i word) next
    → Joining d f bytes next (k + 1)
joining_more d e f bytes word i next k all j l is x m =
    let byte = byte_there d bytes i k all l is in
    let high = word_stays d e i 8 j.extends byte in
    record {
      extends = extends_more d e f j.extends x;
      made = record {
        there = m.there;
        width_is = m.width_is ∙ (let wide : width e i + width e word ≡ 8 * (k + 1) = omega (arith, high.width_is, j.made.width_is) in wide);
        value_is = λ v.
            let xs = map (value v d) bytes in
            let same : value v e i ≡ slice_index xs k = j.extends.value_stays v i byte.there ∙ byte_value v d bytes i k l is in
            m.value_is v
            ∙ (λ n. joined (j.made.width_is n) (same n) (j.made.value_is v n))
            ∙ ap (λ n. n + sum_of_bytes xs k) (worth k (slice_index xs k))
            ∙ (let turned : byte_worth k (slice_index xs k) + sum_of_bytes xs k ≡ sum_of_bytes xs k + byte_worth k (slice_index xs k) = omega arith in turned)
            ∙ ap (sum_of_bytes xs) (sym (add-one k));
      };
    }

-- ---- a read of a block

bytes_through : (xs : List ℕ) (k : ℕ) → sum_of_bytes xs (suc k) ≡ sum_through (λ i. byte_worth i (slice_index xs i)) k
bytes_through xs zero = let plain : 0 + slice_index xs 0 ≡ slice_index xs 0 = omega arith in plain
bytes_through xs (suc k) = ap (λ n. n + byte_worth (suc k) (slice_index xs (suc k))) (bytes_through xs k)

bytes_are : (t : IntegerType) (xs : List ℕ) → sum_of_bytes xs (object_bytes t) ≡ from_le_bytes (storage t) xs
bytes_are types.Bool xs = bytes_through xs 0
bytes_are types.Char xs = bytes_through xs 0
bytes_are types.SignedChar xs = bytes_through xs 0
bytes_are types.UnsignedChar xs = bytes_through xs 0
bytes_are types.Short xs = bytes_through xs 1
bytes_are types.UnsignedShort xs = bytes_through xs 1
bytes_are types.Int xs = bytes_through xs 3
bytes_are types.UnsignedInt xs = bytes_through xs 3
bytes_are types.Long xs = bytes_through xs 7
bytes_are types.UnsignedLong xs = bytes_through xs 7
bytes_are types.LongLong xs = bytes_through xs 7
bytes_are types.UnsignedLongLong xs = bytes_through xs 7

width_of_bytes : (t : IntegerType) → 8 * object_bytes t ≡ type_width t
width_of_bytes types.Bool = refl
width_of_bytes types.Char = refl
width_of_bytes types.SignedChar = refl
width_of_bytes types.UnsignedChar = refl
width_of_bytes types.Short = refl
width_of_bytes types.UnsignedShort = refl
width_of_bytes types.Int = refl
width_of_bytes types.UnsignedInt = refl
width_of_bytes types.Long = refl
width_of_bytes types.UnsignedLong = refl
width_of_bytes types.LongLong = refl
width_of_bytes types.UnsignedLongLong = refl

-- what the first bytes say doesn't hang on those behind them
first_bytes : (xs : List ℕ) (n k : ℕ) → k ≤ n → sum_of_bytes (take n xs) k ≡ sum_of_bytes xs k
first_bytes xs n zero h = refl
first_bytes xs n (suc k) h =
    let rest = first_bytes xs n k (omega (arith, h)) in
    let here = get_or-take n xs k 0 (omega (arith, h)) in
    λ i. rest i + byte_worth k (here i)

pub section_bytes : (d : List Node) (block section : List Id) (offset n : ℕ) → section ≡ take n (drop offset block) → AreBytes d block → AreBytes d section
section_bytes d block section offset n is all =
    subst (AreBytes d) (sym is) (All-take (λ i. IsWord d i 8) n (drop offset block) (All-drop (λ i. IsWord d i 8) offset block all))

pub section_length : (block section : List Id) (offset n : ℕ) → section ≡ take n (drop offset block) → offset + n ≤ length block → length section ≡ n
section_length block section offset n is h = ap length is ∙ length-take-le n (drop offset block) (omega (arith, h, length-drop offset block))

module _ (d e : List Node) (t : IntegerType) (block section : List Id) (word : Id) (offset n : ℕ)
    (made : IsValue e word (8 * length section) (λ v. sum_of_bytes (map (value v d) section) (length section))) (is : section ≡ take n (drop offset block)) (size : n ≡ object_bytes t) (h : offset + object_bytes t ≤ length block) where
  long : length section ≡ object_bytes t
  long = section_length block section offset n is (omega (arith, h, size)) ∙ size

  -- the word that the bytes of an object are
  word_value : (v : ℕ → ℕ) → value v e word ≡ from_le_bytes (storage t) (drop offset (map (value v d) block))
  word_value v =
      let xs = drop offset (map (value v d) block) in
      let same : map (value v d) section ≡ take n xs = ap (map (value v d)) is ∙ sym (take-map (value v d) n (drop offset block)) ∙ ap (take n) (sym (drop-map (value v d) offset block)) in
      made.value_is v ∙ (λ i. sum_of_bytes (same i) (long i)) ∙ first_bytes xs n (object_bytes t) (omega (arith, size)) ∙ bytes_are t xs

  pub loaded_plain : same_integer t types.Bool ≡ false → IsValue e word (type_width t) (λ v. number_at t offset (map (value v d) block))
  loaded_plain other = record {
    there = made.there;
    width_is = made.width_is ∙ ap (λ k. 8 * k) long ∙ width_of_bytes t;
    value_is = λ v. word_value v ∙ to_other (same_integer t types.Bool) _ _ other;
  }

  pub loaded_truth : (f : List Node) (i : Id) → same_integer t types.Bool ≡ true → IsValue f i 8 (λ v. truth_bits (is_true (value v e word))) → IsValue f i (type_width t) (λ v. number_at t offset (map (value v d) block))
  loaded_truth f i bool truth = record {
    there = truth.there;
    width_is = truth.width_is ∙ bool_width t bool;
    value_is = λ v. truth.value_is v ∙ ap (λ x. truth_bits (is_true x)) (word_value v) ∙ to_bool (same_integer t types.Bool) _ _ bool;
  }

-- ---- bytes that were cut out of one word

same_numbers : (m n : ℕ) → (m == n) ≡ true → m ≡ n
same_numbers m n h = grind (arith, nat_tests)

pub cut_value : (v : ℕ → ℕ) (d : List Node) (i a word : Id) (n : Node) (bit w low : ℕ) → is_ordered d ≡ true → Within d i → n ≡ get_or d i.index n → n ≡ Cut a bit w → a.index ≡ word.index → bit ≡ low → (w == 8) ≡ true
    → value v d i ≡ low_bits 8 (logical_shift (value v d word) low)
cut_value v d i a word n bit w low ordered there at is one two three =
    value_is_final v d i.index n ordered there
    ∙ ap (node_value v (widths d) (values v d)) (sym at ∙ is)
    ∙ (let wide = same_numbers w 8 three in λ k. low_bits (wide k) (logical_shift (get_or (values v d) (one k) 0) (two k)))

-- the first k bytes are so many bits of the word
cuts_number : (x low : ℕ) (xs : List ℕ) (k : ℕ) → ((i : ℕ) → i < k → slice_index xs i ≡ low_bits 8 (logical_shift x (low + 8 * i))) → sum_of_bytes xs k ≡ low_bits (8 * k) (logical_shift x low)
unfolding low_bits logical_shift
cuts_number x low xs zero each = let none : 0 ≡ x / 2 ^ low % 1 = omega arith in none
cuts_number x low xs (suc k) each =
    let y = x / 2 ^ low in
    let rest = cuts_number x low xs k (λ i l. each i (omega (arith, l))) in
    let shifted : x / 2 ^ (low + 8 * k) ≡ y / 2 ^ (8 * k) = ap (λ n. x / n) (pow-add 2 low (8 * k)) ∙ sym (div-div-eq-div-mul x (2 ^ low) (2 ^ (8 * k))) in
    let here : slice_index xs k ≡ y / 2 ^ (8 * k) % 2 ^ 8 = each k (omega arith) ∙ ap (λ n. n % 2 ^ 8) shifted in
    let turned : y % 2 ^ (8 * k) + byte_worth k (slice_index xs k) ≡ y / 2 ^ (8 * k) % 2 ^ 8 * 2 ^ (8 * k) + y % 2 ^ (8 * k) = omega (arith, sym (worth k (slice_index xs k)) ∙ ap (λ n. n * 2 ^ (8 * k)) here) in
    let all : 8 + 8 * k ≡ 8 * suc k = omega arith in
    ap (λ n. n + byte_worth k (slice_index xs k)) rest ∙ turned ∙ sym (mod-pow-add y 8 (8 * k)) ∙ ap (λ n. y % 2 ^ n) all

pub cuts_made : (d e : List Node) (word i : Id) (low : ℕ) (ids : List Id) → AreCuts d word low ids (length ids) → IsValue e i (8 * length ids) (λ v. low_bits (8 * length ids) (logical_shift (value v d word) low))
    → IsValue e i (8 * length ids) (λ v. sum_of_bytes (map (value v d) ids) (length ids))
cuts_made d e word i low ids cuts made =
    record { there = made.there; width_is = made.width_is; value_is = λ v. made.value_is v ∙ sym (cuts_number (value v d word) low (map (value v d) ids) (length ids) (cuts.each v)) }

pub whole_word : (d : List Node) (word : Id) (low w n : ℕ) → is_ordered d ≡ true → Within d word → n ≡ width d word → w ≡ n → low + w ≤ width d word → IsValue d word w (λ v. low_bits w (logical_shift (value v d word) low))
whole_word d word low w n ordered there n_is same within =
    let wide : w ≡ width d word = same ∙ n_is in
    let none : low ≡ 0 = omega (arith, wide, within) in
    record {
      there = there;
      width_is = sym wide;
      value_is = λ v. sym (ap (λ k. low_bits w (logical_shift (value v d word) k)) none ∙ ap (low_bits w) (unshifted (value v d word)) ∙ low_bits_same w (value v d word) (word_below v d word w ordered (record { there = there; width_is = sym wide })));
    }

pub cuts_none : (d : List Node) (word : Id) (low n : ℕ) (ids : List Id) → word.index < length d → low + 8 * n ≤ width d word → AreCuts d word low ids 0
cuts_none d word low n ids there fits = record { there = there; fits = omega (arith, fits); each = λ v i l. absurd (omega (arith, l)) }

pub cuts_more : (d : List Node) (word i : Id) (low k n : ℕ) (ids : List Id) → low + 8 * n ≤ width d word → n ≡ length ids → k < length ids → i ≡ get_or ids k i → ((v : ℕ → ℕ) → value v d i ≡ low_bits 8 (logical_shift (value v d word) (low + 8 * k)))
    → AreCuts d word low ids k → AreCuts d word low ids (k + 1)
cuts_more d word i low k n ids fits n_is lt is byte cuts = record {
  there = cuts.there;
  fits = omega (arith, fits, n_is, lt);
  each = λ v j l.
      elim (cases_lt j k) [
        | inl before ↦ cuts.each v j before
        | inr after ↦ (let here : j ≡ k = omega (arith, after, l) in
            subst (λ m. slice_index (map (value v d) ids) m ≡ low_bits 8 (logical_shift (value v d word) (low + 8 * m))) (sym here) (sym (byte_value v d ids i k lt is) ∙ byte v))
      ];
}
