-- The bytes that accesses find and leave, made one by one.
use Rattle.std.proofs.Common.{◌≡◌, ℕ, zero, suc, ◌+◌, ◌-◌, ◌*◌, ◌/◌, ◌^◌, ◌<◌, ◌≤◌, Bool, true, false, cond, List, [], ◌∷◌, ◌++◌, length, map, take, drop, get_or, Option, Some, None, Ok, refl, sym, ap, subst, ◌∙◌, arith, nat_lt, append_assoc, append-nil}
use Rattle.std.specs.Prelude.{All, ◌==◌, ◌&&◌, min, if◌then◌else◌}
use Rattle.std.proofs.Math.Seq.{drop-cons}
use Rattle.std.proofs.lemmas.List.{map_push, length-map, length-append, get_or-map, drop_all, drop-drop, length-drop, length-take-le, take-map, drop-map}
use Rattle.std.proofs.lemmas.List.Elements.{All-push, All-nil, All-weaker, All-take, All-drop}
use Rattle.std.specs.Ordering.{nat_cmp}
use Rattle.std.specs.Cmp.{unsigned_tied}
use Rattle.std.specs.BTreeMap.{is_at}
use Rattle.words.specs.declared.check.Class.{Class}
use Rattle.actions.specs.ByteList.{are_bytes}
use Rattle.actions.proofs.ByteLists.{are_bytes-take, are_bytes-drop}
use Rattle.actions.specs.Pointer.{object_of, offset_of}
use Rattle.actions.specs.Objects.{Objects, bytes_at, with_bytes, unless_broken}
use Rattle.c_values.specs.Variables.{pointer_to, word_count}
use Rattle.word_dag.specs.declared.nodes.Id.{Id}
use Rattle.word_dag.specs.declared.nodes.Node.{Node}
use Rattle.word_dag.specs.Meaning.{width, value, holds, bit_value}
use Rattle.word_dag.specs.Fitting.{is_ordered}
use Rattle.word_dag.specs.Growth.{Within, Extends}
use Rattle.word_dag.proofs.Grown.{extends_itself, extends_more, within_stays, all_within_stays, map_stays, map_widths_stay}
use Rattle.value_nodes.specs.Values.{IsWord, IsValue, IsTest, AreBytes}
use Rattle.value_nodes.specs.Bytes.{sum_of_bytes}
use Rattle.value_nodes.proofs.Made.{word_stays, word_below}
use Rattle.event_forms.specs.Runs.{bytes_of_words, word_widths}
use Rattle.event_forms.specs.Forms.{AreWords}
use Rattle.event_forms.proofs.ReadWords.{bytes_left, words_length}
use Rattle.event_forms.specs.Accesses.{same_bytes}
use Rattle.mem_seq.specs.Memories.{Written, put_from, value_or, byte_of, bytes_by, AreWith, AreIn}
use Rattle.mem_seq.proofs.Written.{put_same, put_words, are_in_stay, value_or_stays, bytes_seen, if_true, is_less, pointer_is, stands_put, stands_by}
use Rattle.mem_seq.proofs.WordTests.{more_words}
use Rattle.event_forms.proofs.QuietRuns.{values_bytes}
use Rattle.mem_seq.proofs.Building.{test_is}

push_front : (xs : List ℕ) (x : ℕ) (ys : List ℕ) → (xs ++ x ∷ []) ++ ys ≡ xs ++ (x ∷ ys)
push_front xs x ys = append_assoc xs (x ∷ []) ys

pub bytes_stay : (d e : List Node) (ids : List Id) → Extends d e → AreBytes d ids → AreBytes e ids
bytes_stay d e ids x all = All-weaker (λ (i : Id). IsWord d i 8) (λ (i : Id). IsWord e i 8) (λ i h. word_stays d e i 8 x h) ids all

pub bytes_there : (d : List Node) (ids : List Id) → AreBytes d ids → All (Within d) ids
bytes_there d ids all = All-weaker (λ (i : Id). IsWord d i 8) (Within d) (λ i h. h.there) ids all

pub bytes_push : (d e : List Node) (ids more : List Id) (i : Id) → Extends d e → AreBytes d ids → IsWord e i 8 → more ≡ ids ++ i ∷ [] → AreBytes e more
bytes_push d e ids more i x all word is = subst (AreBytes e) (sym is) (All-push (λ (k : Id). IsWord e k 8) ids i (bytes_stay d e ids x all) word)

pub size_push : (ids more : List Id) (i : Id) (k : ℕ) → length ids ≡ k → more ≡ ids ++ i ∷ [] → length more ≡ k + 1
size_push ids more i k size is = omega (arith, ap length is, length-append ids (i ∷ []), size)

pub values_push : (v : ℕ → ℕ) (d e : List Node) (ids more : List Id) (i : Id) (n : ℕ) (rest : List ℕ) → Extends d e → AreBytes d ids → more ≡ ids ++ i ∷ [] → value v e i ≡ n → map (value v e) more ++ rest ≡ map (value v d) ids ++ (n ∷ rest)
values_push v d e ids more i n rest x all is value_is =
    let stay = map_stays v d e ids x (bytes_there d ids all) in
    ap (λ (ks : List Id). map (value v e) ks ++ rest) is ∙ ap (λ ws. ws ++ rest) (map_push (value v e) ids i) ∙ push_front (map (value v e) ids) (value v e i) rest ∙ (λ k. stay k ++ (value_is k ∷ rest))

pub one_on : {X : Type 0} (xs : List X) (k : ℕ) → drop (k + 1) xs ≡ drop (suc k) xs
one_on xs k = let same : k + 1 ≡ suc k = omega arith in ap (λ n. drop n xs) same

-- ---- a choice of bytes

-- the first k of them are made
pub record Choosing (d e : List Node) (test : Id) (first second ids : List Id) (k : ℕ) : Type 0 where
  pub extends : Extends d e
  pub all : AreBytes e ids
  pub size : length ids ≡ k
  pub values : (v : ℕ → ℕ) → map (value v e) ids ++ (if holds (value v d test) then drop k (map (value v d) first) else drop k (map (value v d) second))
      ≡ (if holds (value v d test) then map (value v d) first else map (value v d) second)

pub choosing_none : (d : List Node) (test : Id) (first second ids : List Id) → ids ≡ [] → Choosing d d test first second ids 0
choosing_none d test first second ids none = record {
  extends = extends_itself d;
  all = subst (AreBytes d) (sym none) (All-nil (λ (i : Id). IsWord d i 8));
  size = ap length none;
  values = λ v. ap (λ (is : List Id). map (value v d) is ++ (if holds (value v d test) then map (value v d) first else map (value v d) second)) none;
}

chosen_rest : (b : Bool) (xs ys : List ℕ) (k : ℕ) → k < length xs → length xs ≡ length ys
    → ((if b then get_or xs k 0 else get_or ys k 0) ∷ (if b then drop (k + 1) xs else drop (k + 1) ys)) ≡ (if b then drop k xs else drop k ys)
chosen_rest true xs ys k lt same = ap (λ zs. get_or xs k 0 ∷ zs) (one_on xs k) ∙ sym (drop-cons xs k 0 lt)
chosen_rest false xs ys k lt same = ap (λ zs. get_or ys k 0 ∷ zs) (one_on ys k) ∙ sym (drop-cons ys k 0 (omega (arith, lt, same)))

pub choosing_more : (d e f : List Node) (test : Id) (first second ids more : List Id) (i : Id) (k : ℕ) (z y : Id) → IsWord d test 1 → AreBytes d first → AreBytes d second → length first ≡ length second → Choosing d e test first second ids k → k < length first → Extends e f
    → IsValue f i (width e (get_or first k z)) (λ v. if holds (value v e test) then value v e (get_or first k z) else value v e (get_or second k y)) → more ≡ ids ++ i ∷ [] → Choosing d f test first second more (k + 1)
choosing_more d e f test first second ids more i k z y bit one two same c lt x made is =
    let a = get_or first k z in
    let b = get_or second k y in
    let other : k < length second = omega (arith, lt, same) in
    let wide : width e a ≡ 8 = c.extends.width_stays a (one k z lt).there ∙ (one k z lt).width_is in
    record {
      extends = extends_more d e f c.extends x;
      all = bytes_push e f ids more i x c.all (record { there = made.there; width_is = made.width_is ∙ wide }) is;
      size = size_push ids more i k c.size is;
      values = λ v.
          let xs = map (value v d) first in
          let ys = map (value v d) second in
          let g = c.extends.value_stays v test bit.there in
          let p : value v e a ≡ get_or xs k 0 = c.extends.value_stays v a (one k z lt).there ∙ sym (get_or-map (value v d) first k z 0 lt) in
          let q : value v e b ≡ get_or ys k 0 = c.extends.value_stays v b (two k y other).there ∙ sym (get_or-map (value v d) second k y 0 other) in
          let t = holds (value v d test) in
          values_push v e f ids more i (if t then get_or xs k 0 else get_or ys k 0) (if t then drop (k + 1) xs else drop (k + 1) ys) x c.all is (made.value_is v ∙ (λ j. if holds (g j) then p j else q j))
          ∙ ap (λ zs. map (value v e) ids ++ zs) (chosen_rest t xs ys k (omega (arith, lt, length-map first (value v d))) (length-map first (value v d) ∙ same ∙ sym (length-map second (value v d)))) ∙ c.values v;
    }

none_by : (b : Bool) (xs ys : List ℕ) (k : ℕ) → length xs ≤ k → length ys ≤ k → (if b then drop k xs else drop k ys) ≡ []
none_by true xs ys k one two = drop_all k xs one
none_by false xs ys k one two = drop_all k ys two

pub choosing_values : (d e : List Node) (test : Id) (first second ids : List Id) (k : ℕ) → length first ≤ k → length first ≡ length second → Choosing d e test first second ids k
    → (v : ℕ → ℕ) → map (value v e) ids ≡ (if holds (value v d test) then map (value v d) first else map (value v d) second)
choosing_values d e test first second ids k done same c v =
    let xs = map (value v d) first in
    let ys = map (value v d) second in
    sym (append-nil (map (value v e) ids)) ∙ ap (λ zs. map (value v e) ids ++ zs) (sym (none_by (holds (value v d test)) xs ys k (omega (arith, done, length-map first (value v d))) (omega (arith, done, same, length-map second (value v d))))) ∙ c.values v

pub pair_word : (d e : List Node) (first second : List Id) (k : ℕ) (z y : Id) → Extends d e → AreBytes d first → AreBytes d second → length first ≡ length second → k < length first → IsWord e (get_or second k y) (width e (get_or first k z))
pair_word d e first second k z y x one two same lt =
    let a = one k z lt in
    let b = two k y (omega (arith, lt, same)) in
    record { there = within_stays d e (get_or second k y) x b.there; width_is = x.width_stays (get_or second k y) b.there ∙ b.width_is ∙ sym (x.width_stays (get_or first k z) a.there ∙ a.width_is) }

-- ---- the bytes that an access finds

pub record Finding (d e : List Node) (written : Written) (p : ℕ) (first : List ℕ) (ids : List Id) (k : ℕ) : Type 0 where
  pub extends : Extends d e
  pub all : AreBytes e ids
  pub size : length ids ≡ k
  pub values : (v : ℕ → ℕ) → map (value v e) ids ++ bytes_by (byte_of v d written (object_of p)) (offset_of p + k) (drop k first) ≡ bytes_by (byte_of v d written (object_of p)) (offset_of p) first

pub finding_none : (d : List Node) (written : Written) (p : ℕ) (first : List ℕ) (ids : List Id) → ids ≡ [] → Finding d d written p first ids 0
finding_none d written p first ids none =
    let plain : offset_of p + 0 ≡ offset_of p = omega arith in
    record {
      extends = extends_itself d;
      all = subst (AreBytes d) (sym none) (All-nil (λ (i : Id). IsWord d i 8));
      size = ap length none;
      values = λ v. (λ i. map (value v d) (none i) ++ bytes_by (byte_of v d written (object_of p)) (plain i) first);
    }

place_of : (p k : ℕ) → pointer_to (object_of p) (offset_of p + k) ≡ p + k
place_of p k = omega (arith, pointer_is p)

pub finding_more : (d e f : List Node) (written : Written) (p : ℕ) (first : List ℕ) (ids more : List Id) (i : Id) (k z : ℕ) → AreIn d written → offset_of p + length first ≤ 2 ^ 32 → Finding d e written p first ids k → k < length first → Extends e f
    → IsValue f i 8 (λ v. value_or v e (written (p + k)) (get_or first k z)) → more ≡ ids ++ i ∷ [] → Finding d f written p first more (k + 1)
finding_more d e f written p first ids more i k z within inside c lt x made is =
    record {
      extends = extends_more d e f c.extends x;
      all = bytes_push e f ids more i x c.all (record { there = made.there; width_is = made.width_is }) is;
      size = size_push ids more i k c.size is;
      values = λ v.
          let g = byte_of v d written (object_of p) in
          let b = get_or first k z in
          let next : offset_of p + (k + 1) ≡ suc (offset_of p + k) = omega arith in
          let here : value v f i ≡ g (offset_of p + k) b =
          made.value_is v ∙ value_or_stays v d e (written (p + k)) b c.extends (within (p + k)) ∙ ap (λ q. value_or v d (written q) b) (sym (place_of p k))
          ∙ sym (if_true (nat_lt (offset_of p + k) (2 ^ 32)) (value_or v d (written (pointer_to (object_of p) (offset_of p + k))) b) b (is_less (offset_of p + k) (2 ^ 32) (omega (arith, inside, lt)))) in
          (λ j. map (value v f) more ++ bytes_by g (next j) (one_on first k j))
          ∙ values_push v e f ids more i (g (offset_of p + k) b) (bytes_by g (suc (offset_of p + k)) (drop (suc k) first)) x c.all is here
          ∙ ap (λ bs. map (value v e) ids ++ bytes_by g (offset_of p + k) bs) (sym (drop-cons first k z lt)) ∙ c.values v;
    }

pub finding_values : (v : ℕ → ℕ) (d e : List Node) (written : Written) (p count : ℕ) (first : List ℕ) (ids : List Id) (k : ℕ) (store objects : Objects) → length first ≤ k → Finding d e written p first ids k → AreWith v d written store objects → bytes_at store p count ≡ first
    → map (value v e) ids ≡ bytes_at objects p count
finding_values v d e written p count first ids k store objects done c stands is =
    let g = byte_of v d written (object_of p) in
    sym (append-nil (map (value v e) ids)) ∙ ap (λ bs. map (value v e) ids ++ bytes_by g (offset_of p + k) bs) (sym (drop_all k first done)) ∙ c.values v
    ∙ ap (bytes_by g (offset_of p)) (sym is) ∙ sym (bytes_seen v d written store objects stands p count)

-- ---- nodes that are put

pub putting_more : (p k : ℕ) (bytes : List Id) (z : Id) (old now start : Written) → k < length bytes → ((q : ℕ) → now q ≡ (if p + k == q then Some (get_or bytes k z) else old q))
    → ((q : ℕ) → put_from (p + k) (drop k bytes) old q ≡ put_from p bytes start q) → (q : ℕ) → put_from (p + (k + 1)) (drop (k + 1) bytes) now q ≡ put_from p bytes start q
putting_more p k bytes z old now start lt is so q =
    let next : p + (k + 1) ≡ suc (p + k) = omega arith in
    (λ i. put_from (next i) (one_on bytes k i) now q)
    ∙ put_same (suc (p + k)) (drop (suc k) bytes) now (λ r. if p + k == r then Some (get_or bytes k z) else old r) is q
    ∙ ap (λ (ids : List Id). put_from (p + k) ids old q) (sym (drop-cons bytes k z lt)) ∙ so q

pub putting_all : (p k : ℕ) (bytes : List Id) (now start : Written) → length bytes ≤ k → ((q : ℕ) → put_from (p + k) (drop k bytes) now q ≡ put_from p bytes start q) → (q : ℕ) → now q ≡ put_from p bytes start q
putting_all p k bytes now start done so q = ap (λ (ids : List Id). put_from (p + k) ids now q) (sym (drop_all k bytes done)) ∙ so q

-- ---- words compared with bytes

own_test : (d : List Node) (i : Id) (f : (ℕ → ℕ) → Bool) → IsTest d i f → IsTest d i (λ v. holds (value v d i))
own_test d i f made = record { there = made.there; width_is = made.width_is; value_is = λ v. made.value_is v ∙ ap bit_value (sym (test_is d i f made v)) }

pub record Testing (d e : List Node) (words bytes : List Id) (all : Id) (k at : ℕ) : Type 0 where
  pub extends : Extends d e
  pub bit : IsTest e all (λ v. holds (value v e all))
  pub within : at ≤ length bytes
  pub left : length bytes - at ≡ length bytes - 8 * k
  pub same : (v : ℕ → ℕ) → (holds (value v e all) && same_bytes (bytes_of_words (length bytes - at) (drop k (map (value v d) words))) (drop at (map (value v d) bytes)))
      ≡ same_bytes (bytes_of_words (length bytes) (map (value v d) words)) (map (value v d) bytes)

true_first : (b t : Bool) → t ≡ true → (t && b) ≡ b
true_first b true h = refl
true_first b false h = absurd (let wrong : false ≡ true = h in cc)

pub testing_none : (d e : List Node) (words bytes : List Id) (all : Id) → Extends d e → Within e all → width e all ≡ 1 → ((v : ℕ → ℕ) → value v e all ≡ 1) → Testing d e words bytes all 0 0
testing_none d e words bytes all x there wide is =
    let none : length bytes - 0 ≡ length bytes = omega arith in
    record {
      extends = x;
      bit = record { there = there; width_is = wide; value_is = λ v. is v ∙ ap (λ n. bit_value (holds n)) (sym (is v)) };
      within = omega arith;
      left = omega arith;
      same = λ v. true_first _ (holds (value v e all)) (ap holds (is v)) ∙ ap (λ n. same_bytes (bytes_of_words n (map (value v d) words)) (map (value v d) bytes)) none;
    }

pub widths_at : (n left k z : ℕ) → k < n → get_or (word_widths n left) k z ≡ 8 * min 8 (left - 8 * k)
widths_at zero left k z lt = absurd (omega (arith, lt))
widths_at (suc n) left zero z lt = let all : left ≡ left - 8 * 0 = omega arith in ap (λ m. 8 * min 8 m) all
widths_at (suc n) left (suc k) z lt =
    let same : left - 8 - 8 * k ≡ left - 8 * suc k = omega arith in
    widths_at n (left - 8) k z (omega (arith, lt)) ∙ ap (λ m. 8 * min 8 m) same

-- the word that is looked at, and how many bytes are left for it
module _ (d e : List Node) (words bytes : List Id) (all : Id) (k at : ℕ) (given : AreWords d (length bytes) words) (t : Testing d e words bytes all k at) (lt : k < length words) where
  few : k < word_count (length bytes)
  few = omega (arith, lt, words_length d (length bytes) words given)

  pub some_left : 1 ≤ length bytes - at
  some_left = bytes_left (length bytes) k (length bytes - at) t.left few

  own_word : (size : ℕ) (z : Id) → size ≡ min 8 (length bytes - at) → IsWord d (get_or words k z) (8 * size)
  own_word size z is = record {
    there = given.there k z lt;
    width_is = sym (get_or-map (width d) words k z 0 lt) ∙ ap (λ (ws : List ℕ). get_or ws k 0) given.widths ∙ widths_at (word_count (length bytes)) (length bytes) k 0 few ∙ ap (λ m. 8 * min 8 m) (sym t.left) ∙ ap (λ m. 8 * m) (sym is);
  }

  pub looked_word : (f : List Node) (size : ℕ) (z : Id) → Extends e f → size ≡ min 8 (length bytes - at) → IsWord f (get_or words k z) (8 * size)
  looked_word f size z x is = word_stays d f (get_or words k z) (8 * size) (extends_more d e f t.extends x) (own_word size z is)

  pub slice_bytes : (slice : List Id) (size : ℕ) → AreBytes d bytes → slice ≡ take size (drop at bytes) → AreBytes e slice
  slice_bytes slice size are is = bytes_stay d e slice t.extends (subst (AreBytes d) (sym is) (All-take (λ (i : Id). IsWord d i 8) size (drop at bytes) (All-drop (λ (i : Id). IsWord d i 8) at bytes are)))

  pub slice_size : (slice : List Id) (size : ℕ) → slice ≡ take size (drop at bytes) → size ≡ min 8 (length bytes - at) → length slice ≡ size
  slice_size slice size is size_is = ap length is ∙ length-take-le size (drop at bytes) (omega (arith, size_is, length-drop at bytes))

  pub slice_some : (n size : ℕ) → n ≡ size → size ≡ min 8 (length bytes - at) → 1 ≤ length (take n (drop at bytes))
  slice_some n size same is =
      let long = slice_size (take n (drop at bytes)) size (ap (λ m. take m (drop at bytes)) same) is in
      omega (arith, long, some_left, is)

  pub testing_more : (e1 e2 f : List Node) (slice : List Id) (held same next : Id) (size to : ℕ) (z : Id) → is_ordered d ≡ true → AreBytes d bytes → slice ≡ take size (drop at bytes) → size ≡ min 8 (length bytes - at) → Extends e e1 → Extends e1 e2 → Extends e2 f
      → IsValue e1 held (8 * length slice) (λ v. sum_of_bytes (map (value v e) slice) (length slice)) → IsTest e2 same (λ v. value v e1 (get_or words k z) == value v e1 held) → IsTest f next (λ v. holds (value v e2 all) && holds (value v e2 same)) → to ≡ at + size
      → Testing d f words bytes next (k + 1) to
  testing_more e1 e2 f slice held same next size to z ordered are slice_is size_is x1 x2 x3 held_made same_made made to_is =
      let word = get_or words k z in
      let own = own_word size z size_is in
      let less : size ≤ length bytes - at = omega (arith, size_is) in
      record {
        extends = extends_more d e f t.extends (extends_more e e1 f x1 (extends_more e1 e2 f x2 x3));
        bit = own_test f next _ made;
        within = omega (arith, to_is, less, t.within);
        left = omega (arith, to_is, size_is, t.left, t.within);
        same = λ v.
            let ws = map (value v d) words in
            let bs = map (value v d) bytes in
            let left = length bytes - at in
            let x = get_or ws k 0 in
            let ys = take size (drop at bs) in
            let y1 = extends_more d e e1 t.extends x1 in
            let word_is : value v e1 word ≡ x = y1.value_stays v word own.there ∙ sym (get_or-map (value v d) words k z 0 lt) in
            let slice_d : All (Within d) slice = subst (All (Within d)) (sym slice_is) (All-take (Within d) size (drop at bytes) (All-drop (Within d) at bytes (bytes_there d bytes are))) in
            let slice_values : map (value v e) slice ≡ ys = map_stays v d e slice t.extends slice_d ∙ ap (map (value v d)) slice_is ∙ sym (take-map (value v d) size (drop at bytes)) ∙ ap (take size) (sym (drop-map (value v d) at bytes)) in
            let long : length slice ≡ length ys = sym (length-map slice (value v e)) ∙ ap length slice_values in
            let held_is : value v e1 held ≡ sum_of_bytes ys (length ys) = held_made.value_is v ∙ (λ i. sum_of_bytes (slice_values i) (long i)) in
            let all_is : holds (value v e2 all) ≡ holds (value v e all) = ap holds ((extends_more e e1 e2 x1 x2).value_stays v all t.bit.there) in
            let same_is : holds (value v e2 same) ≡ (x == sum_of_bytes ys (length ys)) = test_is e2 same _ same_made v ∙ (λ i. word_is i == held_is i) in
            let here : holds (value v f next) ≡ (holds (value v e all) && (x == sum_of_bytes ys (length ys))) = test_is f next _ made v ∙ (λ i. all_is i && same_is i) in
            let rest : length bytes - to ≡ left - size = omega (arith, to_is) in
            let behind : drop to bs ≡ drop size (drop at bs) = ap (λ n. drop n bs) to_is ∙ sym (drop-drop size at bs) in
            let some : k < length ws = omega (arith, lt, length-map words (value v d)) in
            let small : x < 2 ^ (8 * size) = subst (λ n. n < 2 ^ (8 * size)) (sym (get_or-map (value v d) words k z 0 lt)) (word_below v d word (8 * size) ordered own) in
            let are_ys : are_bytes ys ≡ true = are_bytes-take size (drop at bs) (are_bytes-drop at bs (values_bytes v d bytes ordered are)) in
            (λ i. here i && same_bytes (bytes_of_words (rest i) (one_on ws k i)) (behind i))
            ∙ more_words (holds (value v e all)) size left x (drop (suc k) ws) (drop at bs) size_is (length-drop at bs ∙ ap (λ n. n - at) (length-map bytes (value v d))) small are_ys
            ∙ ap (λ us. holds (value v e all) && same_bytes (bytes_of_words left us) (drop at bs)) (sym (drop-cons ws k 0 some)) ∙ t.same v;
      }

and_true : (a b : Bool) → b ≡ true → (a && b) ≡ a
and_true true b h = h
and_true false b h = refl

words_done : (n k : ℕ) → word_count n ≤ k → n - 8 * k ≡ 0
words_done n k h = (let le : (n + 7) / 8 ≤ k = h in omega (arith, le))

pub testing_done : (d e : List Node) (words bytes : List Id) (all : Id) (k at : ℕ) → AreWords d (length bytes) words → Testing d e words bytes all k at → length words ≤ k
    → IsTest e all (λ v. same_bytes (bytes_of_words (length bytes) (map (value v d) words)) (map (value v d) bytes))
testing_done d e words bytes all k at given t done =
    let none : length bytes - at ≡ 0 = t.left ∙ words_done (length bytes) k (omega (arith, done, words_length d (length bytes) words given)) in
    let result : (v : ℕ → ℕ) → holds (value v e all) ≡ same_bytes (bytes_of_words (length bytes) (map (value v d) words)) (map (value v d) bytes) =
    λ v. let no_words : drop k (map (value v d) words) ≡ [] = drop_all k (map (value v d) words) (omega (arith, done, length-map words (value v d))) in
    let no_bytes : drop at (map (value v d) bytes) ≡ [] = drop_all at (map (value v d) bytes) (omega (arith, none, t.within, length-map bytes (value v d))) in
    sym (and_true (holds (value v e all)) _ (λ i. same_bytes (bytes_of_words (length bytes - at) (no_words i)) (no_bytes i))) ∙ t.same v in
    record { there = t.bit.there; width_is = t.bit.width_is; value_is = λ v. t.bit.value_is v ∙ ap bit_value (result v) }

-- ---- methods of a memory

cond_is : {X : Type 0} (b : Bool) (x y : X) → cond b x y ≡ (if b then x else y)
cond_is true x y = refl
cond_is false x y = refl

pub inserted : (k : ℕ) (x : Id) (now old : Written) → ((q : ℕ) → now q ≡ cond (is_at (nat_cmp k) q) (Some x) (old q)) → (q : ℕ) → now q ≡ (if k == q then Some x else old q)
inserted k x now old is q = is q ∙ ap (λ b. cond b (Some x) (old q)) (unsigned_tied k q) ∙ cond_is (k == q) (Some x) (old q)

pub read_gives : (c : Option Class) (xs bytes : List ℕ) → c ≡ None → unless_broken c xs ≡ Ok bytes → xs ≡ bytes
read_gives None xs bytes none is = (let same : Ok xs ≡ Ok bytes = is in cc)
read_gives (Some class) xs bytes none is = absurd (let wrong : Some class ≡ None = none in cc)

module _ (d d1 e : List Node) (f g : Written) (p : ℕ) (bytes nodes : List Id) (x : Extends d d1) (y : Extends d1 e) (within : AreIn d f) (nodes_are : nodes ≡ bytes) (is : (q : ℕ) → g q ≡ put_from p nodes f q) where
  all_put : put_from p bytes f ≡ g
  all_put = λ i q. (ap (λ (ids : List Id). put_from p ids f q) (sym nodes_are) ∙ sym (is q)) i

  pub written_within : AreBytes e bytes → AreIn e g
  written_within all = subst (AreIn e) all_put (put_words e p bytes f all (are_in_stay d e f (extends_more d d1 e x y) within))

  pub written_stands : (v : ℕ → ℕ) (store now objects : Objects) (guard : Id) (n : ℕ) (new old held : List Id) → now ≡ store → IsWord d guard 1 → AreBytes d new → offset_of p + length new ≤ 2 ^ 32 → n ≡ length new → length bytes ≡ length new → length (bytes_at store p n) ≡ n → AreWith v d f store objects
      → held ≡ old → map (value v d1) old ≡ bytes_at objects p n → map (value v e) bytes ≡ (if holds (value v d1 guard) then map (value v d1) new else map (value v d1) held)
      → AreWith v e g now (if holds (value v d guard) then with_bytes objects p (map (value v d) new) else objects)
  written_stands v store now objects guard n new old held now_is bit all inside n_is size found stands held_is olds chosen =
      let z = extends_more d d1 e x y in
      let same : n ≡ length bytes = n_is ∙ sym size in
      let put = stands_put v d e f store objects p bytes z within (omega (arith, inside, size)) stands (ap (λ k. length (bytes_at store p k)) (sym same) ∙ found ∙ same) in
      let a = x.value_stays v guard bit.there in
      let b = map_stays v d d1 new x (bytes_there d new all) in
      let news : map (value v e) bytes ≡ (if holds (value v d guard) then map (value v d) new else map (value v d1) old) = chosen ∙ (λ i. if holds (a i) then b i else map (value v d1) (held_is i)) in
      let long : length (map (value v e) bytes) ≡ n = length-map bytes (value v e) ∙ sym same in
      subst (λ (s : Objects). AreWith v e g s (if holds (value v d guard) then with_bytes objects p (map (value v d) new) else objects)) (sym now_is)
      (stands_by v e g store objects p n (holds (value v d guard)) (map (value v e) bytes) (map (value v d) new) (map (value v d1) old) news long olds (subst (λ (h : Written). AreWith v e h store (with_bytes objects p (map (value v e) bytes))) all_put put))

pub words_in_stay : (d e : List Node) (count n : ℕ) (words : List Id) → Extends d e → AreWords d count words → n ≡ count → AreWords e n words
words_in_stay d e count n words x h same = subst (λ k. AreWords e k words) (sym same) (record { there = all_within_stays d e words x h.there; widths = map_widths_stay d e words x h.there ∙ h.widths })

pub given_made : (v : ℕ → ℕ) (d d1 e : List Node) (count : ℕ) (words held nodes : List Id) (test : Id) (bytes : List ℕ) → Extends d d1 → AreWords d count words → nodes ≡ held → length held ≡ count → map (value v d1) held ≡ bytes
    → IsTest e test (λ u. same_bytes (bytes_of_words (length nodes) (map (value u d1) words)) (map (value u d1) nodes)) → holds (value v e test) ≡ same_bytes (bytes_of_words count (map (value v d) words)) bytes
given_made v d d1 e count words held nodes test bytes x given nodes_are size values made =
    let stay = map_stays v d d1 words x given.there in
    let long : length nodes ≡ count = ap length nodes_are ∙ size in
    let all : map (value v d1) nodes ≡ bytes = ap (map (value v d1)) nodes_are ∙ values in
    test_is e test _ made v ∙ (λ i. same_bytes (bytes_of_words (long i) (stay i)) (all i))
