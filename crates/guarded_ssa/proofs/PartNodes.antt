-- Nodes of bytes in parts: what is taken of a block, what is put into one, and the first bytes of one in front of those of another.
use Rattle.std.proofs.Common.{◌≡◌, ℕ, zero, suc, ◌+◌, ◌-◌, ◌*◌, ◌<◌, ◌≤◌, true, List, [], ◌∷◌, ◌++◌, length, map, take, drop, get_or, inl, inr, refl, sym, ap, subst, ◌∙◌, arith, nat_lt}
use Rattle.std.specs.Prelude.{min, slice_index, if◌then◌else◌}
use Rattle.std.specs.Int.{byte_worth}
use Rattle.std.proofs.lemmas.Bool.{cases_lt}
use Rattle.std.proofs.lemmas.List.{drop-map, take-map, get_or-map, get_or-take, get_or-drop, get_or_past, length-append, length-drop, length-map, length-take-le, map-append, map_push, take_all, take_more}
use Rattle.std.proofs.lemmas.List.Elements.{All-append, All-drop, All-nil, All-push, All-take}
use Rattle.c_values.specs.Variables.{low_bytes, zeros}
use Rattle.word_dag.specs.declared.nodes.Id.{Id}
use Rattle.word_dag.specs.declared.nodes.Node.{Node}
use Rattle.word_dag.specs.Fitting.{is_ordered}
use Rattle.word_dag.specs.Growth.{Within, Extends}
use Rattle.word_dag.specs.Meaning.{width, value, bit_value, holds}
use Rattle.word_dag.proofs.Grown.{extends_itself, extends_more, map_stays}
use Rattle.word_dag.proofs.Truth.{holds_bit}
use Rattle.value_nodes.specs.Values.{IsWord, IsValue, IsTest, AreBytes}
use Rattle.value_nodes.specs.Bytes.{AreBytesOf, sum_of_bytes}
use Rattle.byte_ops.specs.Bytes.{selected, updated}
use Rattle.byte_ops.proofs.Numbers.{sum_first, bytes_within, bytes_stay}
use Rattle.byte_ops.proofs.Writing.{bytes_back, bytes_small}
use Rattle.goto_prog.specs.Meaning.{taken_at, put_within}
use Rattle.guarded_ssa.proofs.PartLists.{drop_least, take_least_length, taken_in_two, taken_size, within_is_updated, no_bytes_put, put_in_two, first_or_rest, first_rest_size}

-- ---- a word that is taken

padded_index : (xs : List ℕ) (k i : ℕ) → slice_index (xs ++ zeros k) i ≡ slice_index xs i
padded_index [] zero i = refl
padded_index [] (suc k) zero = refl
padded_index [] (suc k) (suc i) = padded_index [] k i
padded_index (x ∷ xs) k zero = refl
padded_index (x ∷ xs) k (suc i) = padded_index xs k i

padded_sum : (xs : List ℕ) (k n : ℕ) → sum_of_bytes (xs ++ zeros k) n ≡ sum_of_bytes xs n
padded_sum xs k zero = refl
padded_sum xs k (suc n) = let rest = padded_sum xs k n in let here = padded_index xs k n in λ i. rest i + byte_worth n (here i)

taken_small : (n offset : ℕ) (block : List ℕ) → ((i : ℕ) → slice_index block i < 256) → (i : ℕ) → slice_index (taken_at n offset block) i < 256
taken_small n offset block small i = elim (cases_lt i n) [
  | inl less ↦ subst (λ b. b < 256) (sym (get_or-take n (drop offset block ++ zeros n) i 0 less ∙ padded_index (drop offset block) n i ∙ get_or-drop offset block i 0)) (small (offset + i))
  | inr past ↦ subst (λ b. b < 256) (sym (get_or_past (taken_at n offset block) i 0 (omega (arith, past, taken_size n offset block)))) (let none : 0 < 256 = omega arith in none)
]

selected_taken : (n offset : ℕ) (block : List ℕ) → n ≤ 8 → ((i : ℕ) → slice_index block i < 256) → low_bytes n (selected block offset n) ≡ taken_at n offset block
selected_taken n offset block few small =
    let ys = drop offset block in
    let number : sum_of_bytes ys n ≡ sum_of_bytes (taken_at n offset block) n = sym (sum_first (ys ++ zeros n) n n (omega arith) ∙ padded_sum ys n n) in
    ap (low_bytes n) number ∙ bytes_back (taken_at n offset block) n (taken_size n offset block) few (taken_small n offset block small)

pub word_taken : (d e f : List Node) (block ids : List Id) (offset word : Id) (n : ℕ) → is_ordered d ≡ true → AreBytes d block → n ≤ 8 → IsValue e word (8 * n) (λ v. selected (map (value v d) block) (value v d offset) n)
    → AreBytesOf f ids (λ v. low_bytes n (value v e word)) → AreBytesOf f ids (λ v. taken_at n (value v d offset) (map (value v d) block))
word_taken d e f block ids offset word n ordered all few w made = record {
  words = made.words;
  values_are = λ v. made.values_are v ∙ ap (low_bytes n) (w.value_is v) ∙ selected_taken n (value v d offset) (map (value v d) block) few (bytes_small v d block ordered all);
}

-- ---- what is taken, part after part

-- the bytes up to a place are taken
pub record Taking (d e : List Node) (block bytes : List Id) (offset : Id) (at count : ℕ) : Type 0 where
  pub extends : Extends d e
  pub all : AreBytes e bytes
  pub size : length bytes ≡ at
  pub few : at ≤ count
  pub values : (v : ℕ → ℕ) → map (value v e) bytes ≡ taken_at at (value v d offset) (map (value v d) block)

pub taking_none : (d : List Node) (block bytes : List Id) (offset : Id) (count : ℕ) → bytes ≡ [] → Taking d d block bytes offset 0 count
taking_none d block bytes offset count none = record {
  extends = extends_itself d;
  all = subst (AreBytes d) (sym none) (All-nil (λ (i : Id). IsWord d i 8));
  size = ap length none;
  few = omega arith;
  values = λ v. ap (map (value v d)) none;
}

-- the rest of a block
rest_values : (v : ℕ → ℕ) (d e : List Node) (block part : List Id) (at : ℕ) → Extends d e → AreBytes d block → part ≡ drop (min at (length block)) block → map (value v e) part ≡ drop at (map (value v d) block)
rest_values v d e block part at x all is =
    ap (map (value v e)) (is ∙ drop_least at block) ∙ map_stays v d e (drop at block) x (bytes_within d (drop at block) (All-drop (λ (i : Id). IsWord d i 8) at block all)) ∙ sym (drop-map (value v d) at block)

pub rest_bytes : (d e : List Node) (block part : List Id) (at : ℕ) → Extends d e → AreBytes d block → part ≡ drop at block → AreBytes e part
rest_bytes d e block part at x all is = subst (AreBytes e) (sym is) (bytes_stay d e (drop at block) x (All-drop (λ (i : Id). IsWord d i 8) at block all))

same_size : (f : List Node) (new : List Id) (count : ℕ) (bytes : (ℕ → ℕ) → List ℕ) → AreBytesOf f new bytes → ((v : ℕ → ℕ) → length (bytes v) ≡ count) → length new ≡ count
same_size f new count bytes made size = let v0 : ℕ → ℕ = λ n. 0 in sym (length-map new (value v0 f)) ∙ ap length (made.values_are v0) ∙ size v0

pub taking_more : (d e f : List Node) (block part bytes new more : List Id) (offset : Id) (at size count next : ℕ) → AreBytes d block → Within d offset → Taking d e block bytes offset at count → part ≡ drop (min at (length block)) block → Extends e f
    → AreBytesOf f new (λ v. taken_at size (value v e offset) (map (value v e) part)) → more ≡ bytes ++ new → next ≡ at + size → size ≤ count - at → Taking d f block more offset next count
taking_more d e f block part bytes new more offset at size count next all there t part_is x made is next_is less =
    let old : AreBytes f bytes = bytes_stay e f bytes x t.all in
    let long : length new ≡ size = same_size f new size (λ v. taken_at size (value v e offset) (map (value v e) part)) made (λ v. taken_size size (value v e offset) (map (value v e) part)) in
    record {
      extends = extends_more d e f t.extends x;
      all = subst (AreBytes f) (sym is) (All-append (λ (i : Id). IsWord f i 8) bytes new old made.words);
      size = omega (arith, ap length is, length-append bytes new, t.size, long, next_is);
      few = omega (arith, next_is, less, t.few);
      values = λ v.
          let p = value v d offset in
          let xs = map (value v d) block in
          let first : map (value v f) bytes ≡ taken_at at p xs = map_stays v e f bytes x (bytes_within e bytes t.all) ∙ t.values v in
          let offset_is : value v e offset ≡ p = t.extends.value_stays v offset there in
          let part_values : map (value v e) part ≡ drop at xs = rest_values v d e block part at t.extends all part_is in
          let second : map (value v f) new ≡ taken_at size p (drop at xs) = made.values_are v ∙ (λ i. taken_at size (offset_is i) (part_values i)) in
          ap (map (value v f)) is ∙ map-append (value v f) bytes new ∙ (λ i. first i ++ second i) ∙ sym (taken_in_two at size p xs) ∙ ap (λ n. taken_at n p xs) (sym next_is);
    }

module _ (d e : List Node) (block bytes : List Id) (offset : Id) (at count : ℕ) (t : Taking d e block bytes offset at count) (done : count ≤ at) where
  whole : at ≡ count
  whole = omega (arith, done, t.few)

  pub taking_bytes : AreBytesOf e bytes (λ v. taken_at count (value v d offset) (map (value v d) block))
  taking_bytes = record { words = t.all; values_are = λ v. t.values v ∙ ap (λ n. taken_at n (value v d offset) (map (value v d) block)) whole }

  pub taking_size : length bytes ≡ count
  taking_size = t.size ∙ whole

-- ---- what is put, part after part

-- the bytes up to a place are put
pub record Placing (d e : List Node) (block new bytes : List Id) (offset : Id) (at : ℕ) : Type 0 where
  pub extends : Extends d e
  pub all : AreBytes e bytes
  pub size : length bytes ≡ length block
  pub few : at ≤ length new
  pub values : (v : ℕ → ℕ) → map (value v e) bytes ≡ updated (value v d offset) (take at (map (value v d) new)) (map (value v d) block)

pub placing_none : (d : List Node) (block new bytes : List Id) (offset : Id) → AreBytes d block → bytes ≡ block → Placing d d block new bytes offset 0
placing_none d block new bytes offset all same = record {
  extends = extends_itself d;
  all = subst (AreBytes d) (sym same) all;
  size = ap length same;
  few = omega arith;
  values = λ v. ap (map (value v d)) same ∙ sym (no_bytes_put (value v d offset) (map (value v d) block));
}

pub placing_more : (d e f : List Node) (block new bytes part rest back more : List Id) (offset : Id) (at size start next : ℕ) → AreBytes d new → Within d offset → Placing d e block new bytes offset at → start ≡ min at (length bytes)
    → part ≡ take size (drop at new) → size ≤ length new - at → back ≡ drop start bytes → Extends e f → AreBytes f rest
    → ((v : ℕ → ℕ) → map (value v f) rest ≡ updated (value v e offset) (map (value v e) part) (map (value v e) back)) → length rest ≡ length back → more ≡ take start bytes ++ rest → next ≡ at + size → Placing d f block new more offset next
placing_more d e f block new bytes part rest back more offset at size start next all there p start_is part_is less back_is x rest_all made long is next_is =
    let old : AreBytes f bytes = bytes_stay e f bytes x p.all in
    let front : take start bytes ≡ take at bytes = ap (λ n. take n bytes) start_is ∙ take_least_length at bytes in
    let behind : back ≡ drop at bytes = back_is ∙ ap (λ n. drop n bytes) start_is ∙ drop_least at bytes in
    let within : at + size ≤ length new = omega (arith, less, p.few) in
    record {
      extends = extends_more d e f p.extends x;
      all = subst (AreBytes f) (sym is) (All-append (λ (i : Id). IsWord f i 8) (take start bytes) rest (All-take (λ (i : Id). IsWord f i 8) start bytes old) rest_all);
      size =
          let short : start ≤ length bytes = omega (arith, start_is) in
          omega (arith, ap length is, length-append (take start bytes) rest, length-take-le start bytes short, long, ap length back_is, length-drop start bytes, p.size, short);
      few = omega (arith, next_is, within);
      values = λ v.
          let q = value v d offset in
          let xs = map (value v d) block in
          let ys = map (value v d) new in
          let zs = updated q (take at ys) xs in
          let offset_is : value v e offset ≡ q = p.extends.value_stays v offset there in
          let now : map (value v e) bytes ≡ zs = p.values v in
          let first : map (value v f) (take start bytes) ≡ take at zs =
          ap (map (value v f)) front ∙ sym (take-map (value v f) at bytes) ∙ ap (take at) (map_stays v e f bytes x (bytes_within e bytes p.all) ∙ now) in
          let part_values : map (value v e) part ≡ take size (drop at ys) =
          ap (map (value v e)) part_is ∙ sym (take-map (value v e) size (drop at new)) ∙ ap (take size) (sym (drop-map (value v e) at new) ∙ ap (drop at) (map_stays v d e new p.extends (bytes_within d new all))) in
          let back_values : map (value v e) back ≡ drop at zs = ap (map (value v e)) behind ∙ sym (drop-map (value v e) at bytes) ∙ ap (drop at) now in
          let second : map (value v f) rest ≡ updated q (take size (drop at ys)) (drop at zs) = made v ∙ (λ i. updated (offset_is i) (part_values i) (back_values i)) in
          ap (map (value v f)) is ∙ map-append (value v f) (take start bytes) rest ∙ (λ i. first i ++ second i)
          ∙ put_in_two q at size ys xs (omega (arith, within, length-map new (value v d))) ∙ ap (λ n. updated q (take n ys) xs) (sym next_is);
    }

pub placing_bytes : (d e : List Node) (block new bytes : List Id) (offset : Id) (at : ℕ) → Placing d e block new bytes offset at → length new ≤ at → AreBytesOf e bytes (λ v. put_within (value v d offset) (map (value v d) new) (map (value v d) block))
placing_bytes d e block new bytes offset at p done = record {
  words = p.all;
  values_are = λ v.
      let ys = map (value v d) new in
      p.values v ∙ ap (λ zs. updated (value v d offset) zs (map (value v d) block)) (take_all at ys (omega (arith, done, length-map new (value v d)))) ∙ sym (within_is_updated (value v d offset) ys (map (value v d) block));
}

-- ---- the first bytes of one list, and the rest of another

-- so many bytes are chosen
pub record Fronting (d e : List Node) (count : Id) (new old bytes : List Id) (place : ℕ) : Type 0 where
  pub extends : Extends d e
  pub all : AreBytes e bytes
  pub size : length bytes ≡ place
  pub values : (v : ℕ → ℕ) → map (value v e) bytes ≡ take place (take (value v d count) (map (value v d) new) ++ drop (value v d count) (map (value v d) old))

pub fronting_none : (d : List Node) (count : Id) (new old bytes : List Id) → bytes ≡ [] → Fronting d d count new old bytes 0
fronting_none d count new old bytes none = record {
  extends = extends_itself d;
  all = subst (AreBytes d) (sym none) (All-nil (λ (i : Id). IsWord d i 8));
  size = ap length none;
  values = λ v. ap (map (value v d)) none;
}

pub fronting_more : (d e f g : List Node) (count test id a b : Id) (new old bytes more : List Id) (place next : ℕ) (z : Id) → AreBytes d new → AreBytes d old → length new ≡ length old → Within d count → Fronting d e count new old bytes place → place < length old
    → a ≡ get_or new place z → b ≡ get_or old place z → Extends e f → Extends f g → IsTest f test (λ v. nat_lt place (value v e count)) → IsValue g id (width f a) (λ v. if holds (value v f test) then value v f a else value v f b)
    → more ≡ bytes ++ id ∷ [] → next ≡ suc place → Fronting d g count new old more next
fronting_more d e f g count test id a b new old bytes more place next z new_all old_all same there h less a_is b_is x y t made is next_is =
    let to_f = extends_more d e f h.extends x in
    let a_word : IsWord d a 8 = subst (λ (i : Id). IsWord d i 8) (sym a_is) (new_all place z (omega (arith, same, less))) in
    let b_word : IsWord d b 8 = subst (λ (i : Id). IsWord d i 8) (sym b_is) (old_all place z less) in
    let wide : width f a ≡ 8 = to_f.width_stays a a_word.there ∙ a_word.width_is in
    let to_g = extends_more e f g x y in
    record {
      extends = extends_more d e g h.extends to_g;
      all = subst (AreBytes g) (sym is) (All-push (λ (i : Id). IsWord g i 8) bytes id (bytes_stay e g bytes to_g h.all) (record { there = made.there; width_is = made.width_is ∙ wide }));
      size = omega (arith, ap length is, length-append bytes (id ∷ []), h.size, next_is);
      values = λ v.
          let n = value v d count in
          let xs = map (value v d) new in
          let ys = map (value v d) old in
          let zs = take n xs ++ drop n ys in
          let count_is : value v e count ≡ n = h.extends.value_stays v count there in
          let truth : holds (value v f test) ≡ nat_lt place n = ap holds (t.value_is v) ∙ holds_bit (nat_lt place (value v e count)) ∙ ap (nat_lt place) count_is in
          let a_value : value v f a ≡ get_or xs place 0 = to_f.value_stays v a a_word.there ∙ ap (value v d) a_is ∙ sym (get_or-map (value v d) new place z 0 (omega (arith, same, less))) in
          let b_value : value v f b ≡ get_or ys place 0 = to_f.value_stays v b b_word.there ∙ ap (value v d) b_is ∙ sym (get_or-map (value v d) old place z 0 less) in
          let long : length xs ≡ length ys = length-map new (value v d) ∙ same ∙ sym (length-map old (value v d)) in
          let short : place < length ys = omega (arith, less, length-map old (value v d)) in
          let here : value v g id ≡ get_or zs place 0 = made.value_is v ∙ (λ i. if truth i then a_value i else b_value i) ∙ sym (first_or_rest n place xs ys long short) in
          let front : map (value v g) bytes ≡ take place zs = map_stays v e g bytes to_g (bytes_within e bytes h.all) ∙ h.values v in
          let one : place + 1 ≡ next = omega (arith, next_is) in
          ap (map (value v g)) is ∙ map_push (value v g) bytes id ∙ (λ i. front i ++ here i ∷ []) ∙ sym (take_more zs place 0 (omega (arith, short, first_rest_size n xs ys long))) ∙ ap (λ m. take m zs) one;
    }

pub fronting_bytes : (d e : List Node) (count : Id) (new old bytes : List Id) (place : ℕ) → length new ≡ length old → Fronting d e count new old bytes place → length old ≤ place
    → AreBytesOf e bytes (λ v. take (value v d count) (map (value v d) new) ++ drop (value v d count) (map (value v d) old))
fronting_bytes d e count new old bytes place same h done = record {
  words = h.all;
  values_are = λ v.
      let n = value v d count in
      let xs = map (value v d) new in
      let ys = map (value v d) old in
      h.values v ∙ take_all place (take n xs ++ drop n ys) (omega (arith, done, first_rest_size n xs ys (length-map new (value v d) ∙ same ∙ sym (length-map old (value v d))), length-map old (value v d)));
}

-- whether a place is below a number
pub among_first : (d e f : List Node) (at count id : Id) (place bits : ℕ) → Extends d e → IsWord d count 64 → bits ≡ place → IsValue e at 64 (λ v. bits) → IsTest f id (λ v. nat_lt (value v e at) (value v e count)) → IsTest f id (λ v. nat_lt place (value v d count))
among_first d e f at count id place bits x word bits_is number made = record {
  there = made.there;
  width_is = made.width_is;
  value_is = λ v.
      let a = number.value_is v ∙ bits_is in
      let b = x.value_stays v count word.there in
      made.value_is v ∙ (λ i. bit_value (nat_lt (a i) (b i)));
}

-- ---- how many there are

pub constant_most : (d : List Node) (count : Id) (bits most result : ℕ) → ((v : ℕ → ℕ) → value v d count ≡ bits) → result ≡ bits → bits < most → (v : ℕ → ℕ) → min (value v d count) result ≡ min (value v d count) most
constant_most d count bits most result is result_is less v = omega (arith, is v, result_is, less)
