-- The words that reads find, made one by one.
use Rattle.std.proofs.Common.{◌≡◌, ◌<◌, ◌≤◌, ◌+◌, ◌-◌, ◌*◌, ℕ, zero, suc, Bool, true, false, List, [], ◌∷◌, ◌++◌, length, map, take, drop, get_or, Some, refl, sym, ap, subst, ◌∙◌, arith, append_assoc, append-nil}
use Rattle.std.specs.Prelude.{All, min, ◌==◌, slice_index, if◌then◌else◌}
use Rattle.std.proofs.lemmas.Bool.Decides.{nat_tests}
use Rattle.std.specs.Int.{byte_worth}
use Rattle.std.proofs.Math.Seq.{drop-cons}
use Rattle.std.proofs.lemmas.List.{map_push, length-map, length-append, get_or-map, get_or-take, drop_all, drop-drop, length-drop, length-take-le, take-map, drop-map}
use Rattle.std.proofs.lemmas.List.Elements.{All-push, All-nil, All-take, All-drop}
use Rattle.actions.specs.StoredObject.{StoredObject}
use Rattle.actions.specs.Objects.{bytes_in}
use Rattle.c_values.specs.Variables.{low_bytes, word_count}
use Rattle.word_dag.specs.declared.nodes.Id.{Id}
use Rattle.word_dag.specs.declared.nodes.Node.{Node}
use Rattle.word_dag.specs.Meaning.{width, value, holds}
use Rattle.word_dag.specs.Fitting.{is_ordered}
use Rattle.word_dag.specs.Growth.{Within, Extends}
use Rattle.word_dag.proofs.Grown.{extends_itself, extends_more, within_stays, all_within_stays, map_stays, map_widths_stay}
use Rattle.rewritten_nodes.specs.Same.{IsSide}
use Rattle.value_nodes.specs.Values.{IsWord, IsValue, AreBytes}
use Rattle.value_nodes.specs.Bytes.{sum_of_bytes}
use Rattle.byte_ops.specs.Bytes.{selected}
use Rattle.byte_ops.specs.Tests.{IsTestedOffset}
use Rattle.byte_ops.specs.declared.places.TestedOffset.{TestedOffset}
use Rattle.byte_ops.proofs.Writing.{bytes_back, bytes_small}
use Rattle.object_memory.specs.declared.places.Place.{Place}
use Rattle.object_memory.specs.declared.places.Hit.{Hit}
use Rattle.object_memory.specs.Places.{place_object, PlaceIn}
use Rattle.object_memory.specs.Hits.{HitIn, truly}
use Rattle.object_memory.specs.Questions.{objects_of, no_object, Reads, HasSize}
use Rattle.object_memory.specs.Words.{bytes_of_words, word_widths, AreWords}
use Rattle.object_memory.proofs.Pointed.{bytes_stay, bytes_there, object_stays}
use Rattle.object_memory.proofs.Broken.{hit_place}

push_front : {X : Type 0} (xs : List X) (x : X) (ys : List X) → (xs ++ x ∷ []) ++ ys ≡ xs ++ (x ∷ ys)
push_front xs x ys = append_assoc xs (x ∷ []) ys

bytes_push : (d e : List Node) (ids more : List Id) (i : Id) → Extends d e → AreBytes d ids → IsWord e i 8 → more ≡ ids ++ i ∷ [] → AreBytes e more
bytes_push d e ids more i x all word is = subst (AreBytes e) (sym is) (All-push (λ (k : Id). IsWord e k 8) ids i (bytes_stay d e ids x all) word)

size_push : (ids more : List Id) (i : Id) (k : ℕ) → length ids ≡ k → more ≡ ids ++ i ∷ [] → length more ≡ k + 1
size_push ids more i k size is = omega (arith, ap length is, length-append ids (i ∷ []), size)

values_push : (v : ℕ → ℕ) (d e : List Node) (ids more : List Id) (i : Id) (n : ℕ) (rest : List ℕ) → Extends d e → All (Within d) ids → more ≡ ids ++ i ∷ [] → value v e i ≡ n → map (value v e) more ++ rest ≡ map (value v d) ids ++ (n ∷ rest)
values_push v d e ids more i n rest x all is value_is =
    let stay = map_stays v d e ids x all in
    ap (λ (ks : List Id). map (value v e) ks ++ rest) is ∙ ap (λ ws. ws ++ rest) (map_push (value v e) ids i) ∙ push_front (map (value v e) ids) (value v e i) rest ∙ (λ k. stay k ++ (value_is k ∷ rest))

widths_push : (d e : List Node) (ids more : List Id) (i : Id) (n : ℕ) (rest : List ℕ) → Extends d e → All (Within d) ids → more ≡ ids ++ i ∷ [] → width e i ≡ n → map (width e) more ++ rest ≡ map (width d) ids ++ (n ∷ rest)
widths_push d e ids more i n rest x all is width_is =
    let stay = map_widths_stay d e ids x all in
    ap (λ (ks : List Id). map (width e) ks ++ rest) is ∙ ap (λ ws. ws ++ rest) (map_push (width e) ids i) ∙ push_front (map (width e) ids) (width e i) rest ∙ (λ k. stay k ++ (width_is k ∷ rest))

one_on : {X : Type 0} (xs : List X) (k : ℕ) → drop (k + 1) xs ≡ drop (suc k) xs
one_on xs k = let same : k + 1 ≡ suc k = omega arith in ap (λ n. drop n xs) same

-- ---- choices that a guard decides

pub record Deciding (d : List Node) (guard : Id) (ids sides : List Id) (n : ℕ) : Type 0 where
  pub bytes : AreBytes d sides
  pub size : length sides ≡ n
  pub values : (v : ℕ → ℕ) → holds (value v d guard) ≡ true → map (value v d) sides ++ drop n (map (value v d) ids) ≡ map (value v d) ids

pub deciding_none : (d : List Node) (guard : Id) (ids sides : List Id) → sides ≡ [] → Deciding d guard ids sides 0
deciding_none d guard ids sides none = record {
  bytes = subst (AreBytes d) (sym none) (All-nil (λ (i : Id). IsWord d i 8));
  size = ap length none;
  values = λ v is. ap (λ (ks : List Id). map (value v d) ks ++ map (value v d) ids) none;
}

pub deciding_more : (d : List Node) (guard : Id) (ids sides more : List Id) (i z : Id) (n : ℕ) → AreBytes d ids → Deciding d guard ids sides n → n < length ids → IsSide d guard (get_or ids n z) true i → more ≡ sides ++ i ∷ [] → Deciding d guard ids more (n + 1)
deciding_more d guard ids sides more i z n all c lt side is =
    let one : IsWord d (get_or ids n z) 8 = all n z lt in
    record {
      bytes = bytes_push d d sides more i (extends_itself d) c.bytes (record { there = side.there; width_is = side.width_is ∙ one.width_is }) is;
      size = size_push sides more i n c.size is;
      values = λ v guard_is.
          let xs = map (value v d) ids in
          let here : value v d i ≡ get_or xs n 0 = side.value_is v guard_is ∙ sym (get_or-map (value v d) ids n z 0 lt) in
          values_push v d d sides more i (get_or xs n 0) (drop (n + 1) xs) (extends_itself d) (bytes_there d sides c.bytes) is here
          ∙ ap (λ zs. map (value v d) sides ++ zs) (ap (λ zs. get_or xs n 0 ∷ zs) (one_on xs n) ∙ sym (drop-cons xs n 0 (omega (arith, lt, length-map ids (value v d))))) ∙ c.values v guard_is;
    }

pub deciding_values : (d : List Node) (guard : Id) (ids sides : List Id) (n : ℕ) → length ids ≤ n → Deciding d guard ids sides n → (v : ℕ → ℕ) → holds (value v d guard) ≡ true → map (value v d) sides ≡ map (value v d) ids
deciding_values d guard ids sides n done c v is =
    sym (append-nil (map (value v d) sides)) ∙ ap (λ zs. map (value v d) sides ++ zs) (sym (drop_all n (map (value v d) ids) (omega (arith, done, length-map ids (value v d))))) ∙ c.values v is

-- ---- choices

pub record Choosing (d e : List Node) (test : Id) (first second ids : List Id) (k : ℕ) : Type 0 where
  pub extends : Extends d e
  pub there : All (Within e) ids
  pub widths : map (width e) ids ++ drop k (map (width d) first) ≡ map (width d) first
  pub values : (v : ℕ → ℕ) → map (value v e) ids ++ (if holds (value v d test) then drop k (map (value v d) first) else drop k (map (value v d) second))
      ≡ (if holds (value v d test) then map (value v d) first else map (value v d) second)

pub choosing_none : (d : List Node) (test : Id) (first second ids : List Id) → ids ≡ [] → Choosing d d test first second ids 0
choosing_none d test first second ids none = record {
  extends = extends_itself d;
  there = subst (All (Within d)) (sym none) (All-nil (Within d));
  widths = ap (λ (is : List Id). map (width d) is ++ map (width d) first) none;
  values = λ v. ap (λ (is : List Id). map (value v d) is ++ (if holds (value v d test) then map (value v d) first else map (value v d) second)) none;
}

pub same_long : (d : List Node) (first second : List Id) → map (width d) second ≡ map (width d) first → length second ≡ length first
same_long d first second same = sym (length-map second (width d)) ∙ ap length same ∙ length-map first (width d)

same_width : (d : List Node) (first second : List Id) (k : ℕ) (z y : Id) → map (width d) second ≡ map (width d) first → k < length first → width d (get_or second k y) ≡ width d (get_or first k z)
same_width d first second k z y same lt =
    sym (get_or-map (width d) second k y 0 (omega (arith, lt, same_long d first second same))) ∙ ap (λ ws. get_or ws k 0) same ∙ get_or-map (width d) first k z 0 lt

pub pair_word : (d e : List Node) (first second : List Id) (k : ℕ) (z y : Id) → Extends d e → All (Within d) first → All (Within d) second → map (width d) second ≡ map (width d) first → k < length first → IsWord e (get_or second k y) (width e (get_or first k z))
pair_word d e first second k z y x one two same lt =
    let b = two k y (omega (arith, lt, same_long d first second same)) in
    record { there = within_stays d e (get_or second k y) x b; width_is = x.width_stays (get_or second k y) b ∙ same_width d first second k z y same lt ∙ sym (x.width_stays (get_or first k z) (one k z lt)) }

chosen_rest : (b : Bool) (xs ys : List ℕ) (k : ℕ) → k < length xs → length xs ≡ length ys
    → ((if b then get_or xs k 0 else get_or ys k 0) ∷ (if b then drop (k + 1) xs else drop (k + 1) ys)) ≡ (if b then drop k xs else drop k ys)
chosen_rest true xs ys k lt same = ap (λ zs. get_or xs k 0 ∷ zs) (one_on xs k) ∙ sym (drop-cons xs k 0 lt)
chosen_rest false xs ys k lt same = ap (λ zs. get_or ys k 0 ∷ zs) (one_on ys k) ∙ sym (drop-cons ys k 0 (omega (arith, lt, same)))

pub choosing_more : (d e f : List Node) (test : Id) (first second ids more : List Id) (i : Id) (k : ℕ) (z y : Id) → IsWord d test 1 → All (Within d) first → All (Within d) second → map (width d) second ≡ map (width d) first → Choosing d e test first second ids k → k < length first → Extends e f
    → IsValue f i (width e (get_or first k z)) (λ v. if holds (value v e test) then value v e (get_or first k z) else value v e (get_or second k y)) → more ≡ ids ++ i ∷ [] → Choosing d f test first second more (k + 1)
choosing_more d e f test first second ids more i k z y bit one two same c lt x made is =
    let a = get_or first k z in
    let b = get_or second k y in
    let long = same_long d first second same in
    let other : k < length second = omega (arith, lt, long) in
    let wide : width e a ≡ width d a = c.extends.width_stays a (one k z lt) in
    record {
      extends = extends_more d e f c.extends x;
      there = subst (All (Within f)) (sym is) (All-push (Within f) ids i (all_within_stays e f ids x c.there) made.there);
      widths = widths_push e f ids more i (get_or (map (width d) first) k 0) (drop (k + 1) (map (width d) first)) x c.there is (made.width_is ∙ wide ∙ sym (get_or-map (width d) first k z 0 lt))
          ∙ ap (λ zs. map (width e) ids ++ zs) (ap (λ zs. get_or (map (width d) first) k 0 ∷ zs) (one_on (map (width d) first) k) ∙ sym (drop-cons (map (width d) first) k 0 (omega (arith, lt, length-map first (width d))))) ∙ c.widths;
      values = λ v.
          let xs = map (value v d) first in
          let ys = map (value v d) second in
          let g = c.extends.value_stays v test bit.there in
          let p : value v e a ≡ get_or xs k 0 = c.extends.value_stays v a (one k z lt) ∙ sym (get_or-map (value v d) first k z 0 lt) in
          let q : value v e b ≡ get_or ys k 0 = c.extends.value_stays v b (two k y other) ∙ sym (get_or-map (value v d) second k y 0 other) in
          let t = holds (value v d test) in
          values_push v e f ids more i (if t then get_or xs k 0 else get_or ys k 0) (if t then drop (k + 1) xs else drop (k + 1) ys) x c.there is (made.value_is v ∙ (λ j. if holds (g j) then p j else q j))
          ∙ ap (λ zs. map (value v e) ids ++ zs) (chosen_rest t xs ys k (omega (arith, lt, length-map first (value v d))) (length-map first (value v d) ∙ sym long ∙ sym (length-map second (value v d)))) ∙ c.values v;
    }

none_by : (b : Bool) (xs ys : List ℕ) (k : ℕ) → length xs ≤ k → length ys ≤ k → (if b then drop k xs else drop k ys) ≡ []
none_by true xs ys k one two = drop_all k xs one
none_by false xs ys k one two = drop_all k ys two

pub choosing_values : (d e : List Node) (test : Id) (first second ids : List Id) (k : ℕ) → length first ≤ k → map (width d) second ≡ map (width d) first → Choosing d e test first second ids k
    → (v : ℕ → ℕ) → map (value v e) ids ≡ (if holds (value v d test) then map (value v d) first else map (value v d) second)
choosing_values d e test first second ids k done same c v =
    let xs = map (value v d) first in
    let ys = map (value v d) second in
    let long = same_long d first second same in
    sym (append-nil (map (value v e) ids)) ∙ ap (λ zs. map (value v e) ids ++ zs) (sym (none_by (holds (value v d test)) xs ys k (omega (arith, done, length-map first (value v d))) (omega (arith, done, long, length-map second (value v d))))) ∙ c.values v

pub choosing_widths : (d e : List Node) (test : Id) (first second ids : List Id) (k : ℕ) → length first ≤ k → Choosing d e test first second ids k → map (width e) ids ≡ map (width d) first
choosing_widths d e test first second ids k done c =
    sym (append-nil (map (width e) ids)) ∙ ap (λ zs. map (width e) ids ++ zs) (sym (drop_all k (map (width d) first) (omega (arith, done, length-map first (width d))))) ∙ c.widths

-- ---- words

fewer_words : (left : ℕ) → 1 ≤ left → word_count left ≡ suc (word_count (left - 8))
fewer_words left h = omega (arith, h)

widths_step : (left : ℕ) → 1 ≤ left → word_widths (word_count left) left ≡ (8 * min 8 left) ∷ word_widths (word_count (left - 8)) (left - 8)
widths_step left h = ap (λ k. word_widths k left) (fewer_words left h)

pub record Making (d e : List Node) (count : ℕ) (words : List Id) (at : ℕ) : Type 0 where
  pub extends : Extends d e
  pub within : at ≤ count
  pub there : All (Within e) words
  pub widths : map (width e) words ++ word_widths (word_count (count - at)) (count - at) ≡ word_widths (word_count count) count

pub making_none : (d : List Node) (count : ℕ) (words : List Id) → words ≡ [] → Making d d count words 0
making_none d count words none =
    let plain : count - 0 ≡ count = omega arith in
    record {
      extends = extends_itself d;
      within = omega arith;
      there = subst (All (Within d)) (sym none) (All-nil (Within d));
      widths = (λ i. map (width d) (none i) ++ word_widths (word_count (plain i)) (plain i));
    }

pub making_more : (d e f : List Node) (count : ℕ) (words more : List Id) (word : Id) (at size next : ℕ) → Making d e count words at → at < count → size ≡ min (count - at) 8 → next ≡ at + size → Extends e f → IsWord f word (8 * size) → more ≡ words ++ word ∷ [] → Making d f count more next
making_more d e f count words more word at size next m lt size_is next_is x made is =
    let left = count - at in
    let fit : size ≡ min 8 left = omega (arith, size_is) in
    let rest : count - next ≡ left - 8 = omega (arith, size_is, next_is) in
    record {
      extends = extends_more d e f m.extends x;
      within = omega (arith, size_is, next_is, lt);
      there = subst (All (Within f)) (sym is) (All-push (Within f) words word (all_within_stays e f words x m.there) made.there);
      widths = widths_push e f words more word (8 * size) (word_widths (word_count (count - next)) (count - next)) x m.there is made.width_is
          ∙ ap (λ zs. map (width e) words ++ zs) ((λ i. (8 * fit i) ∷ word_widths (word_count (rest i)) (rest i)) ∙ sym (widths_step left (omega (arith, lt)))) ∙ m.widths;
    }

pub making_all : (d e : List Node) (count : ℕ) (words : List Id) (at : ℕ) → count ≤ at → Making d e count words at → AreWords e count words
making_all d e count words at done m =
    let none : count - at ≡ 0 = omega (arith, done) in
    record { there = m.there; widths = sym (append-nil (map (width e) words)) ∙ ap (λ k. map (width e) words ++ word_widths (word_count k) k) (sym none) ∙ m.widths }

pub words_stay : (d e : List Node) (count : ℕ) (words : List Id) → Extends d e → AreWords d count words → AreWords e count words
words_stay d e count words x a = record { there = all_within_stays d e words x a.there; widths = map_widths_stay d e words x a.there ∙ a.widths }

-- ---- words of a block

none_taken : (X : Type 0) (n : ℕ) → take {A = X} n [] ≡ []
none_taken X zero = refl
none_taken X (suc n) = refl

pub more_taken : {X : Type 0} (a b : ℕ) (xs : List X) → take a xs ++ take b (drop a xs) ≡ take (a + b) xs
more_taken zero b xs = let plain : b ≡ 0 + b = omega arith in ap (λ n. take n xs) plain
more_taken {X = X} (suc a) b [] = none_taken X b ∙ sym (none_taken X (suc a + b))
more_taken (suc a) b (x ∷ xs) = let next : suc (a + b) ≡ suc a + b = omega arith in ap (λ ys. x ∷ ys) (more_taken a b xs) ∙ ap (λ n. take n (x ∷ xs)) next

sum_taken : (xs : List ℕ) (n k : ℕ) → k ≤ n → sum_of_bytes xs k ≡ sum_of_bytes (take n xs) k
sum_taken xs n zero h = refl
sum_taken xs n (suc k) h =
    let here : slice_index xs k ≡ slice_index (take n xs) k = sym (get_or-take n xs k 0 (omega (arith, h))) in
    let rest = sum_taken xs n k (omega (arith, h)) in
    λ i. rest i + byte_worth k (here i)

part_back : (v : ℕ → ℕ) (d : List Node) (block : List Id) (off at n : ℕ) → is_ordered d ≡ true → AreBytes d block → n ≤ 8 → off + at + n ≤ length block
    → low_bytes n (sum_of_bytes (drop off (drop at (map (value v d) block))) n) ≡ take n (drop at (drop off (map (value v d) block)))
part_back v d block off at n ordered all few room =
    let f = value v d in
    let whole = drop off (drop at (map f block)) in
    let part = take n (drop off (drop at block)) in
    let parts : take n whole ≡ map f part = ap (λ xs. take n (drop off xs)) (drop-map f at block) ∙ ap (take n) (drop-map f off (drop at block)) ∙ take-map f n (drop off (drop at block)) in
    let enough : n ≤ length (drop off (drop at block)) = omega (arith, room, length-drop off (drop at block), length-drop at block) in
    let long : length (map f part) ≡ n = length-map part f ∙ length-take-le n (drop off (drop at block)) enough in
    let bytes = All-take (λ (i : Id). IsWord d i 8) n (drop off (drop at block)) (All-drop (λ (i : Id). IsWord d i 8) off (drop at block) (All-drop (λ (i : Id). IsWord d i 8) at block all)) in
    let order : at + off ≡ off + at = omega arith in
    ap (low_bytes n) (sum_taken whole n n (omega arith) ∙ ap (λ xs. sum_of_bytes xs n) parts) ∙ bytes_back (map f part) n long few (bytes_small v d part ordered bytes)
    ∙ sym parts ∙ ap (take n) (drop-drop off at (map f block) ∙ ap (λ k. drop k (map f block)) order ∙ sym (drop-drop at off (map f block)))

pub record Wording (d e : List Node) (block : List Id) (offset : Id) (count : ℕ) (words : List Id) (at : ℕ) : Type 0 where
  pub making : Making d e count words at
  pub values : (v : ℕ → ℕ) → value v d offset + count ≤ length block → (rest : List ℕ)
      → bytes_of_words count (map (value v e) words ++ rest) ≡ take at (drop (value v d offset) (map (value v d) block)) ++ bytes_of_words (count - at) rest

pub wording_none : (d : List Node) (block : List Id) (offset : Id) (count : ℕ) (words : List Id) → words ≡ [] → Wording d d block offset count words 0
wording_none d block offset count words none =
    let plain : count ≡ count - 0 = omega arith in
    record {
      making = making_none d count words none;
      values = λ v inside rest. (λ i. bytes_of_words (plain i) (map (value v d) (none i) ++ rest));
    }

pub wording_more : (d e f : List Node) (block part : List Id) (o : TestedOffset) (count : ℕ) (words more : List Id) (word : Id) (at size next : ℕ) → is_ordered d ≡ true → AreBytes d block → IsTestedOffset d o → count ≤ length block → Wording d e block o.offset count words at → at < count → size ≡ min (count - at) 8 → next ≡ at + size
    → part ≡ drop at block → Extends e f → IsWord f word (8 * size)
    → ((v : ℕ → ℕ) → value v e o.offset + size ≤ length part → value v f word ≡ selected (map (value v e) part) (value v e o.offset) size) → more ≡ words ++ word ∷ [] → Wording d f block o.offset count more next
wording_more d e f block part o count words more word at size next ordered all tested small w lt size_is next_is part_is x made value_is is =
    let m = w.making in
    let left = count - at in
    let fit : size ≡ min 8 left = omega (arith, size_is) in
    let rest_is : count - next ≡ left - 8 = omega (arith, size_is, next_is) in
    record {
      making = making_more d e f count words more word at size next m lt size_is next_is x made is;
      values = λ v inside rest.
          let off = value v d o.offset in
          let same_off : value v e o.offset ≡ off = m.extends.value_stays v o.offset tested.offset.there in
          let xs = drop off (map (value v d) block) in
          let long : length part ≡ length block - at = ap length part_is ∙ length-drop at block in
          let part_values : map (value v e) part ≡ drop at (map (value v d) block) = ap (map (value v e)) part_is ∙ sym (drop-map (value v e) at block) ∙ ap (drop at) (map_stays v d e block m.extends (bytes_there d block all)) in
          let here : value v f word ≡ sum_of_bytes (drop off (drop at (map (value v d) block))) size = value_is v (omega (arith, same_off, inside, long, size_is, lt, small)) ∙ (λ i. sum_of_bytes (drop (same_off i) (part_values i)) size) in
          let bytes : low_bytes (min 8 left) (value v f word) ≡ take size (drop at xs) = (λ i. low_bytes (sym fit i) (here i)) ∙ part_back v d block off at size ordered all (omega (arith, size_is)) (omega (arith, inside, size_is, lt)) in
          ap (bytes_of_words count) (values_push v e f words more word (value v f word) rest x m.there is refl) ∙ w.values v inside (value v f word ∷ rest)
          ∙ ap (λ ys. take at xs ++ (ys ++ bytes_of_words (left - 8) rest)) bytes ∙ sym (append_assoc (take at xs) (take size (drop at xs)) (bytes_of_words (left - 8) rest))
          ∙ ap (λ ys. ys ++ bytes_of_words (left - 8) rest) (more_taken at size xs) ∙ (λ i. take (sym next_is i) xs ++ bytes_of_words (sym rest_is i) rest);
    }

pub wording_values : (d e : List Node) (block : List Id) (offset : Id) (count : ℕ) (words : List Id) (at : ℕ) → count ≤ at → Wording d e block offset count words at
    → (v : ℕ → ℕ) → value v d offset + count ≤ length block → bytes_of_words count (map (value v e) words) ≡ take count (drop (value v d offset) (map (value v d) block))
wording_values d e block offset count words at done w v inside =
    let xs = drop (value v d offset) (map (value v d) block) in
    let end : at ≡ count = omega (arith, done, w.making.within) in
    ap (bytes_of_words count) (sym (append-nil (map (value v e) words))) ∙ w.values v inside [] ∙ append-nil (take at xs) ∙ ap (λ n. take n xs) end

-- ---- words of a place

taken_within : (count off size : ℕ) (xs : List ℕ) → off + count ≤ size → take count (drop off (take size xs)) ≡ take count (drop off xs)
taken_within count off zero xs h =
    let none : count ≡ 0 = omega (arith, h) in
    ap (λ n. take n (drop off (take zero xs))) none ∙ ap (λ n. take n (drop off xs)) (sym none)
taken_within count off (suc size) [] h = refl
taken_within zero zero (suc size) (x ∷ xs) h = refl
taken_within (suc count) zero (suc size) (x ∷ xs) h = ap (λ ys. x ∷ ys) (taken_within count zero size xs (omega (arith, h)))
taken_within count (suc off) (suc size) (x ∷ xs) h = taken_within count off size xs (omega (arith, h))

pub place_found : (d e f : List Node) (guard : Id) (p : Place) (offset : Id) (count : ℕ) (block words : List Id) (read : TestedOffset) → PlaceIn d p → IsWord d guard 1 → IsWord d offset 32 → Extends d e → AreBytes d block → length block ≡ length p.bytes.items
    → ((v : ℕ → ℕ) → holds (value v d guard) ≡ true → map (value v d) block ≡ map (value v d) p.bytes.items) → read.offset ≡ offset
    → ((v : ℕ → ℕ) → value v e read.offset + count ≤ length block → bytes_of_words count (map (value v f) words) ≡ take count (drop (value v e read.offset) (map (value v e) block)))
    → (v : ℕ → ℕ) → holds (value v d guard) ≡ true → value v d offset + count ≤ value v d p.size → bytes_of_words count (map (value v f) words) ≡ bytes_in (value v d offset) count (Some (place_object v d p))
place_found d e f guard p offset count block words read place guard_in offset_in x bytes long decided read_is values v guard_is inside =
    let size = value v d p.size in
    let off = value v d offset in
    let off_is : value v e read.offset ≡ off = ap (value v e) read_is ∙ x.value_stays v offset offset_in.there in
    let block_is : map (value v e) block ≡ map (value v d) p.bytes.items = map_stays v d e block x (bytes_there d block bytes) ∙ decided v guard_is in
    values v (omega (arith, off_is, inside, place.whole v, long)) ∙ (λ i. take count (drop (off_is i) (block_is i))) ∙ sym (taken_within count off size (map (value v d) p.bytes.items) inside)

pub too_long : (d : List Node) (p : Place) (offset : Id) (count : ℕ) → PlaceIn d p → length p.bytes.items < count → {X : Type 0} (v : ℕ → ℕ) → value v d offset + count ≤ value v d p.size → X
too_long d p offset count place long v inside = absurd (omega (arith, long, inside, place.whole v))

-- ---- of the place that is hit

pub record Finding (d e : List Node) (guard : Id) (ps : List Place) (hits : List Hit) (count : ℕ) (words : List Id) (left : ℕ) : Type 0 where
  pub extends : Extends d e
  pub within : left < length hits
  pub worded : AreWords e count words
  pub values : (v : ℕ → ℕ) → holds (value v d guard) ≡ true → Reads v d (objects_of v d ps) (truly v d (drop left hits)) count (bytes_of_words count (map (value v e) words))

abbrev pub PlaceGives : List Node → List Node → Id → Place → Id → ℕ → List Id → Type 0
PlaceGives d e guard p offset count words = (v : ℕ → ℕ) → holds (value v d guard) ≡ true → value v d offset + count ≤ value v d p.size → bytes_of_words count (map (value v e) words) ≡ bytes_in (value v d offset) count (Some (place_object v d p))

reads_here : (v : ℕ → ℕ) (d : List Node) (ps : List Place) (hits : List Hit) (hit z : Hit) (p q : Place) (count left : ℕ) (bytes : List ℕ) → left < length hits → hit ≡ get_or hits left z → hit.place < length ps → p ≡ get_or ps hit.place q
    → (b : Bool) → holds (value v d hit.test) ≡ b
    → (b ≡ true → value v d hit.offset + count ≤ value v d p.size → bytes ≡ bytes_in (value v d hit.offset) count (Some (place_object v d p)))
    → (b ≡ false → Reads v d (objects_of v d ps) (truly v d (drop (suc left) hits)) count bytes) → Reads v d (objects_of v d ps) (truly v d (drop left hits)) count bytes
reads_here v d ps hits hit z p q count left bytes lt hit_is place_in place_is b test here later =
    let objects = objects_of v d ps in
    let object = hit_place v d ps hit.place p q place_in place_is in
    let whole : truly v d (drop left hits) ≡ (if b then hit ∷ truly v d (drop (suc left) hits) else truly v d (drop (suc left) hits)) =
    ap (truly v d) (drop-cons hits left z lt ∙ ap (λ (h : Hit). h ∷ drop (suc left) hits) (sym hit_is)) ∙ ap (λ c. if c then hit ∷ truly v d (drop (suc left) hits) else truly v d (drop (suc left) hits)) test in
    subst (λ (hs : List Hit). Reads v d objects hs count bytes) (sym whole) (by b object here later)
  where
    by : (c : Bool) → get_or (objects_of v d ps) hit.place no_object ≡ place_object v d p
        → (c ≡ true → value v d hit.offset + count ≤ value v d p.size → bytes ≡ bytes_in (value v d hit.offset) count (Some (place_object v d p)))
        → (c ≡ false → Reads v d (objects_of v d ps) (truly v d (drop (suc left) hits)) count bytes)
        → Reads v d (objects_of v d ps) (if c then hit ∷ truly v d (drop (suc left) hits) else truly v d (drop (suc left) hits)) count bytes
    by true object one two = λ inside. one refl (subst (λ (o : StoredObject). value v d hit.offset + count ≤ o.size) object inside) ∙ ap (λ (o : StoredObject). bytes_in (value v d hit.offset) count (Some o)) (sym object)
    by false object one two = two refl

pub finding_first : (d e : List Node) (guard : Id) (ps : List Place) (hits : List Hit) (z : Hit) (p q : Place) (count : ℕ) (words : List Id) (left : ℕ) → All (HitIn d (length ps)) hits → suc left ≡ length hits → p ≡ get_or ps (get_or hits left z).place q → Extends d e → AreWords e count words
    → PlaceGives d e guard p (get_or hits left z).offset count words → Finding d e guard ps hits count words left
finding_first d e guard ps hits z p q count words left within last place_is x all given =
    let lt : left < length hits = omega (arith, last) in
    let hit = get_or hits left z in
    record {
      extends = x;
      within = lt;
      worded = all;
      values = λ v guard_is.
          let bytes = bytes_of_words count (map (value v e) words) in
          reads_here v d ps hits hit z p q count left bytes lt refl (within left z lt).place place_is (holds (value v d hit.test)) refl (λ t inside. given v guard_is inside)
          (λ f. subst (λ (hs : List Hit). Reads v d (objects_of v d ps) (truly v d hs) count bytes) (sym (drop_all (suc left) hits (omega (arith, last)))) tt);
    }

pub finding_more : (d e f g : List Node) (guard : Id) (ps : List Place) (hits : List Hit) (z : Hit) (p q : Place) (count : ℕ) (words here chosen : List Id) (left less : ℕ) → All (PlaceIn d) ps → All (HitIn d (length ps)) hits → IsWord d guard 1 → Finding d e guard ps hits count words left → 0 < left → less ≡ left - 1
    → p ≡ get_or ps (get_or hits less z).place q → Extends e f → Extends f g → AreWords f count here → PlaceGives e f guard p (get_or hits less z).offset count here
    → All (Within g) chosen → map (width g) chosen ≡ map (width f) here → ((v : ℕ → ℕ) → map (value v g) chosen ≡ (if holds (value v f (get_or hits less z).test) then map (value v f) here else map (value v f) words)) → Finding d g guard ps hits count chosen less
finding_more d e f g guard ps hits z p q count words here chosen left less places within guard_in w positive less_is place_is x1 x2 here_in given there widths values =
    let lt : less < length hits = omega (arith, w.within, positive, less_is) in
    let hit = get_or hits less z in
    let hit_in = within less z lt in
    let place_in : PlaceIn d p = subst (PlaceIn d) (sym place_is) (places hit.place q hit_in.place) in
    let next_is : suc less ≡ left = omega (arith, positive, less_is) in
    record {
      extends = extends_more d e g w.extends (extends_more e f g x1 x2);
      within = lt;
      worded = record { there = there; widths = widths ∙ here_in.widths };
      values = λ v guard_is.
          let bytes = bytes_of_words count (map (value v g) chosen) in
          let test : holds (value v f hit.test) ≡ holds (value v d hit.test) = ap holds ((extends_more d e f w.extends x1).value_stays v hit.test hit_in.test.there) in
          let off : value v e hit.offset ≡ value v d hit.offset = w.extends.value_stays v hit.offset hit_in.offset.there in
          let object : place_object v e p ≡ place_object v d p = object_stays v d e p w.extends place_in in
          let guard_e : holds (value v e guard) ≡ true = ap holds (w.extends.value_stays v guard guard_in.there) ∙ guard_is in
          let size : value v e p.size ≡ value v d p.size = w.extends.value_stays v p.size place_in.size.there in
          let words_same : map (value v f) words ≡ map (value v e) words = map_stays v e f words x1 w.worded.there in
          reads_here v d ps hits hit z p q count less bytes lt refl hit_in.place place_is (holds (value v d hit.test)) refl
          (λ t inside. ap (bytes_of_words count) (values v ∙ ap (λ b. if b then map (value v f) here else map (value v f) words) (test ∙ t)) ∙ given v guard_e (omega (arith, off, size, inside)) ∙ (λ i. bytes_in (off i) count (Some (object i))))
          (λ u. subst (λ (xs : List ℕ). Reads v d (objects_of v d ps) (truly v d (drop (suc less) hits)) count (bytes_of_words count xs)) (sym (values v ∙ ap (λ b. if b then map (value v f) here else map (value v f) words) (test ∙ u) ∙ words_same))
          (subst (λ k. Reads v d (objects_of v d ps) (truly v d (drop k hits)) count (bytes_of_words count (map (value v e) words))) (sym next_is) (w.values v guard_is)));
    }

pub finding_all : (d e : List Node) (guard : Id) (ps : List Place) (hits : List Hit) (count : ℕ) (words : List Id) (left : ℕ) → left ≤ 0 → Finding d e guard ps hits count words left
    → (v : ℕ → ℕ) → holds (value v d guard) ≡ true → Reads v d (objects_of v d ps) (truly v d hits) count (bytes_of_words count (map (value v e) words))
finding_all d e guard ps hits count words left none w v guard_is =
    let zero_is : left ≡ 0 = omega (arith, none) in
    subst (λ k. Reads v d (objects_of v d ps) (truly v d (drop k hits)) count (bytes_of_words count (map (value v e) words))) zero_is (w.values v guard_is)

pub nothing_read : (v : ℕ → ℕ) (d : List Node) (objects : List StoredObject) (hits : List Hit) (count : ℕ) (bytes : List ℕ) → length hits ≡ 0 → Reads v d objects (truly v d hits) count bytes
nothing_read v d objects [] count bytes none = tt
nothing_read v d objects (h ∷ hits) count bytes none = absurd (omega (arith, none))

-- ---- the size of the place that is hit

pub record Sizing (d e : List Node) (ps : List Place) (hits : List Hit) (size : Id) (left : ℕ) : Type 0 where
  pub extends : Extends d e
  pub within : left < length hits
  pub word : IsWord e size 32
  pub values : (v : ℕ → ℕ) → HasSize (objects_of v d ps) (truly v d (drop left hits)) (value v e size)

size_here : (v : ℕ → ℕ) (d : List Node) (ps : List Place) (hits : List Hit) (z : Hit) (p q : Place) (left size : ℕ) → left < length hits → (get_or hits left z).place < length ps → p ≡ get_or ps (get_or hits left z).place q
    → (b : Bool) → holds (value v d (get_or hits left z).test) ≡ b → (b ≡ true → size ≡ value v d p.size) → (b ≡ false → HasSize (objects_of v d ps) (truly v d (drop (suc left) hits)) size) → HasSize (objects_of v d ps) (truly v d (drop left hits)) size
size_here v d ps hits z p q left size lt place_in place_is b test here later =
    let hit = get_or hits left z in
    let object = hit_place v d ps hit.place p q place_in place_is in
    let whole : truly v d (drop left hits) ≡ (if b then hit ∷ truly v d (drop (suc left) hits) else truly v d (drop (suc left) hits)) =
    ap (truly v d) (drop-cons hits left z lt) ∙ ap (λ c. if c then hit ∷ truly v d (drop (suc left) hits) else truly v d (drop (suc left) hits)) test in
    subst (λ (hs : List Hit). HasSize (objects_of v d ps) hs size) (sym whole) (by b object here later)
  where
    by : (c : Bool) → get_or (objects_of v d ps) (get_or hits left z).place no_object ≡ place_object v d p → (c ≡ true → size ≡ value v d p.size) → (c ≡ false → HasSize (objects_of v d ps) (truly v d (drop (suc left) hits)) size)
        → HasSize (objects_of v d ps) (if c then get_or hits left z ∷ truly v d (drop (suc left) hits) else truly v d (drop (suc left) hits)) size
    by true object one two = one refl ∙ ap (λ (o : StoredObject). o.size) (sym object)
    by false object one two = two refl

pub sizing_first : (d : List Node) (ps : List Place) (hits : List Hit) (z : Hit) (p q : Place) (left : ℕ) → All (PlaceIn d) ps → All (HitIn d (length ps)) hits → suc left ≡ length hits → p ≡ get_or ps (get_or hits left z).place q → Sizing d d ps hits p.size left
sizing_first d ps hits z p q left places within last place_is =
    let lt : left < length hits = omega (arith, last) in
    let hit = get_or hits left z in
    let place_in : PlaceIn d p = subst (PlaceIn d) (sym place_is) (places hit.place q (within left z lt).place) in
    record {
      extends = extends_itself d;
      within = lt;
      word = place_in.size;
      values = λ v. size_here v d ps hits z p q left (value v d p.size) lt (within left z lt).place place_is (holds (value v d hit.test)) refl (λ t. refl)
          (λ f. subst (λ (hs : List Hit). HasSize (objects_of v d ps) (truly v d hs) (value v d p.size)) (sym (drop_all (suc left) hits (omega (arith, last)))) tt);
    }

pub sizing_more : (d e f : List Node) (ps : List Place) (hits : List Hit) (z : Hit) (p q : Place) (size next : Id) (left less : ℕ) → All (PlaceIn d) ps → All (HitIn d (length ps)) hits → Sizing d e ps hits size left → 0 < left → less ≡ left - 1 → p ≡ get_or ps (get_or hits less z).place q → Extends e f
    → IsValue f next (width e p.size) (λ v. if holds (value v e (get_or hits less z).test) then value v e p.size else value v e size) → Sizing d f ps hits next less
sizing_more d e f ps hits z p q size next left less places within s positive less_is place_is x made =
    let lt : less < length hits = omega (arith, s.within, positive, less_is) in
    let hit = get_or hits less z in
    let hit_in = within less z lt in
    let place_in : PlaceIn d p = subst (PlaceIn d) (sym place_is) (places hit.place q hit_in.place) in
    let next_is : left ≡ suc less = omega (arith, positive, less_is) in
    record {
      extends = extends_more d e f s.extends x;
      within = lt;
      word = record { there = made.there; width_is = made.width_is ∙ s.extends.width_stays p.size place_in.size.there ∙ place_in.size.width_is };
      values = λ v.
          let test : holds (value v e hit.test) ≡ holds (value v d hit.test) = ap holds (s.extends.value_stays v hit.test hit_in.test.there) in
          size_here v d ps hits z p q less (value v f next) lt hit_in.place place_is (holds (value v d hit.test)) refl
          (λ t. made.value_is v ∙ ap (λ b. if b then value v e p.size else value v e size) (test ∙ t) ∙ s.extends.value_stays v p.size place_in.size.there)
          (λ u. subst (λ n. HasSize (objects_of v d ps) (truly v d (drop (suc less) hits)) n) (sym (made.value_is v ∙ ap (λ b. if b then value v e p.size else value v e size) (test ∙ u)))
          (subst (λ k. HasSize (objects_of v d ps) (truly v d (drop k hits)) (value v e size)) next_is (s.values v)));
    }

pub sizing_all : (d e : List Node) (guard : Id) (ps : List Place) (hits : List Hit) (size seen : Id) (left : ℕ) → left ≤ 0 → Sizing d e ps hits size left → IsWord d guard 1 → IsSide e guard size true seen → (v : ℕ → ℕ) → holds (value v d guard) ≡ true → HasSize (objects_of v d ps) (truly v d hits) (value v e seen)
sizing_all d e guard ps hits size seen left none s word side v guard_is =
    let zero_is : left ≡ 0 = omega (arith, none) in
    subst (λ n. HasSize (objects_of v d ps) (truly v d hits) n) (sym (side.value_is v (ap holds (s.extends.value_stays v guard word.there) ∙ guard_is)))
    (subst (λ k. HasSize (objects_of v d ps) (truly v d (drop k hits)) (value v e size)) zero_is (s.values v))

pub no_size : (objects : List StoredObject) (v : ℕ → ℕ) (d : List Node) (hits : List Hit) (size : ℕ) → length hits ≡ 0 → HasSize objects (truly v d hits) size
no_size objects v d [] size none = tt
no_size objects v d (h ∷ hits) size none = absurd (omega (arith, none))

pub last_of : (n : ℕ) → false ≡ (n == 0) → suc (n - 1) ≡ n
last_of n h = grind (arith, nat_tests)

pub empty_of : (n : ℕ) → true ≡ (n == 0) → n ≡ 0
empty_of n h = grind (arith, nat_tests)

pub words_alike : (e f : List Node) (count : ℕ) (words here first second : List Id) → Extends e f → AreWords e count words → AreWords f count here → first ≡ here → second ≡ words → map (width f) second ≡ map (width f) first
words_alike e f count words here first second x old new first_is second_is = ap (map (width f)) second_is ∙ map_widths_stay e f words x old.there ∙ old.widths ∙ sym new.widths ∙ ap (map (width f)) (sym first_is)

pub both_lists : (b : Bool) (xs zs ys ws : List ℕ) → xs ≡ zs → ys ≡ ws → (if b then xs else ys) ≡ (if b then zs else ws)
both_lists b xs zs ys ws first second = λ i. if b then first i else second i
