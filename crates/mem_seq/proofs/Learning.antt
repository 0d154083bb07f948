-- Events over the nodes that stand for theirs, and what a read makes known.
use Rattle.std.proofs.Common.{◌≡◌, ℕ, suc, ◌+◌, ◌-◌, ◌*◌, ◌^◌, ◌<◌, ◌≤◌, Bool, true, false, ◌&&◌, List, [], ◌∷◌, ◌++◌, length, map, take, drop, get_or, refl, sym, ap, subst, ◌∙◌, arith, append-nil}
use Rattle.std.specs.Prelude.{All, ◌==◌, min, if◌then◌else◌}
use Rattle.std.proofs.Math.Seq.{drop-cons}
use Rattle.std.proofs.lemmas.List.{length-map, get_or-map, drop_all, drop-drop, length-drop, length-take-le, take-map, drop-map}
use Rattle.std.proofs.lemmas.List.Elements.{All-nil, All-take, All-drop}
use Rattle.words.specs.declared.check.Class.{Class}
use Rattle.words.specs.Operators.{low_bits}
use Rattle.actions.specs.ByteList.{are_bytes}
use Rattle.actions.proofs.ByteLists.{are_bytes-take, are_bytes-drop}
use Rattle.actions.specs.Objects.{Objects, bytes_at}
use Rattle.actions.specs.declared.action.Action.TheVariants as actions
use Rattle.actions.specs.declared.action.Answer.TheVariants as answers
use Rattle.actions.specs.declared.action.Next.TheVariants.{Blocked, Broken}
use Rattle.c_values.specs.Variables.{word_count}
use Rattle.word_dag.specs.declared.nodes.Id.{Id}
use Rattle.word_dag.specs.declared.nodes.Node.{Node}
use Rattle.word_dag.specs.declared.nodes.Node.TheVariants.{Variable}
use Rattle.word_dag.specs.Meaning.{width, value, values, widths, node_width, node_value, holds}
use Rattle.word_dag.specs.Fitting.{is_ordered}
use Rattle.word_dag.specs.Growth.{Within, Extends}
use Rattle.word_dag.proofs.Grown.{extends_itself, extends_more, map_stays}
use Rattle.word_dag.proofs.Order.{width_is_final, value_is_final}
use Rattle.value_nodes.specs.Values.{IsWord, IsValue, AreBytes}
use Rattle.value_nodes.specs.Bytes.{sum_of_bytes}
use Rattle.value_nodes.proofs.Made.{word_stays, word_below}
use Rattle.rewritten_nodes.specs.declared.known.Known.{Known}
use Rattle.rewritten_nodes.specs.Images.{KnownIn, Agrees}
use Rattle.rewritten_nodes.specs.Same.{IsSide}
use Rattle.rewritten_nodes.proofs.Standing.{agrees_stays}
use Rattle.event_forms.specs.declared.forms.Event.{Event}
use Rattle.event_forms.specs.declared.forms.EventKind.{EventKind}
use Rattle.event_forms.specs.declared.forms.EventKind.TheVariants as kinds
use Rattle.event_forms.specs.Arrivals.{Seen, asked, stopped}
use Rattle.event_forms.specs.Runs.{bytes_of_words}
use Rattle.event_forms.specs.Forms.{AreWords, IsBit, KindIn, EventIn, IsFixed, IsStaticKind, kind_seen, event_seen}
use Rattle.event_forms.proofs.ReadWords.{bytes_left, words_length}
use Rattle.actions.specs.declared.action.Action.TheVariants as actions
use Rattle.actions.specs.declared.action.Answer.TheVariants as answers
use Rattle.event_forms.specs.Accesses.{same_bytes, is_given}
use Rattle.event_forms.proofs.Accesses.{read_holds}
use Rattle.mem_seq.specs.Goals.{gives}
use Rattle.event_forms.proofs.Stores.{left_true, right_true}
use Rattle.mem_seq.proofs.WordTests.{equal_is, more_words}
use Rattle.event_forms.proofs.Stays.{kind_seen_stays}
use Rattle.event_forms.proofs.QuietRuns.{values_bytes}
use Rattle.mem_seq.proofs.Held.{bytes_stay, bytes_there, bytes_push, size_push, values_push, one_on, widths_at, words_in_stay}

-- ---- bytes

-- the nodes that stand for the first n of them
pub record Imaging (d e : List Node) (k m : Known) (ids images : List Id) (n : ℕ) : Type 0 where
  pub extends : Extends d e
  pub known : KnownIn e m
  pub bytes : AreBytes e images
  pub agrees : (v : ℕ → ℕ) → Agrees v d k → Agrees v e m
  pub values : (v : ℕ → ℕ) → Agrees v d k → map (value v e) images ++ drop n (map (value v d) ids) ≡ map (value v d) ids

pub imaging_none : (d : List Node) (k : Known) (ids images : List Id) → KnownIn d k → images ≡ [] → Imaging d d k k ids images 0
imaging_none d k ids images known none = record {
  extends = extends_itself d;
  known = known;
  bytes = subst (AreBytes d) (sym none) (All-nil (λ (i : Id). IsWord d i 8));
  agrees = λ v h. h;
  values = λ v h. ap (λ (is : List Id). map (value v d) is ++ map (value v d) ids) none;
}

pub imaging_more : (d e f : List Node) (k m n : Known) (ids images more : List Id) (i z : Id) (j : ℕ) → AreBytes d ids → Imaging d e k m ids images j → j < length ids → Extends e f → KnownIn f n → Within f i → width f i ≡ width e (get_or ids j z)
    → ((v : ℕ → ℕ) → Agrees v e m → value v f i ≡ value v e (get_or ids j z)) → ((v : ℕ → ℕ) → Agrees v e m → Agrees v f n) → more ≡ images ++ i ∷ [] → Imaging d f k n ids more (j + 1)
imaging_more d e f k m n ids images more i z j all c lt x known there wide value_is agrees is =
    let a = get_or ids j z in
    let one : IsWord d a 8 = all j z lt in
    record {
      extends = extends_more d e f c.extends x;
      known = known;
      bytes = bytes_push e f images more i x c.bytes (record { there = there; width_is = wide ∙ c.extends.width_stays a one.there ∙ one.width_is }) is;
      agrees = λ v h. agrees v (c.agrees v h);
      values = λ v h.
          let xs = map (value v d) ids in
          let here : value v f i ≡ get_or xs j 0 = value_is v (c.agrees v h) ∙ c.extends.value_stays v a one.there ∙ sym (get_or-map (value v d) ids j z 0 lt) in
          values_push v e f images more i (get_or xs j 0) (drop (j + 1) xs) x c.bytes is here
          ∙ ap (λ zs. map (value v e) images ++ zs) (ap (λ zs. get_or xs j 0 ∷ zs) (one_on xs j) ∙ sym (drop-cons xs j 0 (omega (arith, lt, length-map ids (value v d))))) ∙ c.values v h;
    }

pub imaging_values : (d e : List Node) (k m : Known) (ids images : List Id) (n : ℕ) → length ids ≤ n → Imaging d e k m ids images n → (v : ℕ → ℕ) → Agrees v d k → map (value v e) images ≡ map (value v d) ids
imaging_values d e k m ids images n done c v h =
    sym (append-nil (map (value v e) images)) ∙ ap (λ zs. map (value v e) images ++ zs) (sym (drop_all n (map (value v d) ids) (omega (arith, done, length-map ids (value v d))))) ∙ c.values v h

-- the sides of the first n of them where a guard is true
pub record Deciding (d : List Node) (guard : Id) (ids sides : List Id) (n : ℕ) : Type 0 where
  pub bytes : AreBytes d sides
  pub size : length sides ≡ n
  pub values : (v : ℕ → ℕ) → holds (value v d guard) ≡ true → map (value v d) sides ++ drop n (map (value v d) ids) ≡ map (value v d) ids

pub deciding_none : (d : List Node) (guard : Id) (ids sides : List Id) → sides ≡ [] → Deciding d guard ids sides 0
deciding_none d guard ids sides none = record {
  bytes = subst (AreBytes d) (sym none) (All-nil (λ (i : Id). IsWord d i 8));
  size = ap length none;
  values = λ v is. ap (λ (ks : List Id). map (value v d) ks ++ map (value v d) ids) none;
}

pub deciding_more : (d : List Node) (guard : Id) (ids sides more : List Id) (i z : Id) (n : ℕ) → AreBytes d ids → Deciding d guard ids sides n → n < length ids → IsSide d guard (get_or ids n z) true i → more ≡ sides ++ i ∷ [] → Deciding d guard ids more (n + 1)
deciding_more d guard ids sides more i z n all c lt side is =
    let a = get_or ids n z in
    let one : IsWord d a 8 = all n z lt in
    record {
      bytes = bytes_push d d sides more i (extends_itself d) c.bytes (record { there = side.there; width_is = side.width_is ∙ one.width_is }) is;
      size = size_push sides more i n c.size is;
      values = λ v guard_is.
          let xs = map (value v d) ids in
          let here : value v d i ≡ get_or xs n 0 = side.value_is v guard_is ∙ sym (get_or-map (value v d) ids n z 0 lt) in
          values_push v d d sides more i (get_or xs n 0) (drop (n + 1) xs) (extends_itself d) c.bytes is here
          ∙ ap (λ zs. map (value v d) sides ++ zs) (ap (λ zs. get_or xs n 0 ∷ zs) (one_on xs n) ∙ sym (drop-cons xs n 0 (omega (arith, lt, length-map ids (value v d))))) ∙ c.values v guard_is;
    }

pub deciding_values : (d : List Node) (guard : Id) (ids sides : List Id) (n : ℕ) → length ids ≤ n → Deciding d guard ids sides n → (v : ℕ → ℕ) → holds (value v d guard) ≡ true → map (value v d) sides ≡ map (value v d) ids
deciding_values d guard ids sides n done c v is =
    sym (append-nil (map (value v d) sides)) ∙ ap (λ zs. map (value v d) sides ++ zs) (sym (drop_all n (map (value v d) ids) (omega (arith, done, length-map ids (value v d))))) ∙ c.values v is

-- ---- kinds and events

module _ (v : ℕ → ℕ) (d e : List Node) (line f : ℕ) (k : EventKind) where
  pub same_write : (pointer : Id) (bytes images : List Id) (first : Bool) → k ≡ kinds.Write pointer bytes first → value v e pointer ≡ value v d pointer → map (value v e) images ≡ map (value v d) bytes → kind_seen v e line f (kinds.Write pointer images first) ≡ kind_seen v d line f k
  same_write pointer bytes images first is place same =
      (λ i. asked (actions.Write (place i) (same i) first) line f answers.Done ∷ []) ∙ ap (kind_seen v d line f) (sym is)

  pub same_check : (class : Class) (failing i : Id) → k ≡ kinds.Check class failing → value v e i ≡ value v d failing → kind_seen v e line f (kinds.Check class i) ≡ kind_seen v d line f k
  same_check class failing i is same = (λ j. if holds (same j) then stopped (Broken class line f) ∷ [] else []) ∙ ap (kind_seen v d line f) (sym is)

  pub same_assume : (failing i : Id) → k ≡ kinds.Assume failing → value v e i ≡ value v d failing → kind_seen v e line f (kinds.Assume i) ≡ kind_seen v d line f k
  same_assume failing i is same = (λ j. if holds (same j) then stopped Blocked ∷ [] else []) ∙ ap (kind_seen v d line f) (sym is)

  pub same_kind : (j : EventKind) → e ≡ d → j ≡ k → kind_seen v e line f j ≡ kind_seen v d line f k
  same_kind j graphs is = λ i. kind_seen v (graphs i) line f (is i)

pub bit_of : (d e : List Node) (failing i : Id) → IsBit d failing → Within e i → width e i ≡ width d failing → IsBit e i
bit_of d e failing i bit there wide = record { there = there; width_is = wide ∙ bit.width_is }

pub check_bit : (d : List Node) (k : EventKind) (class : Class) (failing : Id) → k ≡ kinds.Check class failing → KindIn d k → IsBit d failing
check_bit d k class failing is there = subst (KindIn d) is there

pub assume_bit : (d : List Node) (k : EventKind) (failing : Id) → k ≡ kinds.Assume failing → KindIn d k → IsBit d failing
assume_bit d k failing is there = subst (KindIn d) is there

pub write_bytes : (d : List Node) (k : EventKind) (pointer : Id) (bytes ids : List Id) (first : Bool) → k ≡ kinds.Write pointer bytes first → ids ≡ bytes → KindIn d k → AreBytes d ids
write_bytes d k pointer bytes ids first is same there = subst (AreBytes d) (sym same) (let own : KindIn d (kinds.Write pointer bytes first) = subst (KindIn d) is there in own.1)

pub write_pointer : (d : List Node) (k : EventKind) (pointer : Id) (bytes : List Id) (first : Bool) → k ≡ kinds.Write pointer bytes first → KindIn d k → IsWord d pointer 64
write_pointer d k pointer bytes first is there = let own : KindIn d (kinds.Write pointer bytes first) = subst (KindIn d) is there in own.0

pub written_pointer : (d : List Node) (k : EventKind) (pointer : Id) (bytes : List Id) (first : Bool) → k ≡ kinds.Write pointer bytes first → IsStaticKind d k → IsFixed d pointer
written_pointer d k pointer bytes first is static = let own : IsStaticKind d (kinds.Write pointer bytes first) = subst (IsStaticKind d) is static in own.0

pub read_pointer : (d : List Node) (k : EventKind) (pointer : Id) (count : ℕ) (answer : List Id) → k ≡ kinds.Read pointer count answer → IsStaticKind d k → IsFixed d pointer
read_pointer d k pointer count answer is static = subst (IsStaticKind d) is static

pub same_event : (v : ℕ → ℕ) (d d1 e : List Node) (ev : Event) (guard : Id) (kind : EventKind) → Extends d d1 → Extends d1 e → EventIn d ev → Within d1 guard → value v d1 guard ≡ value v d ev.guard → kind_seen v e ev.line ev.function kind ≡ kind_seen v d1 ev.line ev.function ev.kind
    → event_seen v e (record { guard = guard; line = ev.line; function = ev.function; kind = kind }) ≡ event_seen v d ev
same_event v d d1 e ev guard kind x y within there guard_is kind_is =
    let g : value v e guard ≡ value v d ev.guard = y.value_stays v guard there ∙ guard_is in
    let k : kind_seen v e ev.line ev.function kind ≡ kind_seen v d ev.line ev.function ev.kind = kind_is ∙ kind_seen_stays d d1 x v ev.line ev.function ev.kind within.kind in
    λ i. if holds (g i) then k i else []

pub event_made : (d d1 e : List Node) (ev : Event) (guard : Id) (kind : EventKind) → Extends d1 e → EventIn d ev → Within d1 guard → width d1 guard ≡ width d ev.guard → KindIn e kind → EventIn e (record { guard = guard; line = ev.line; function = ev.function; kind = kind })
event_made d d1 e ev guard kind y within there wide kind_in =
    record { guard = record { there = omega (arith, there, y.longer); width_is = y.width_stays guard there ∙ wide ∙ within.guard.width_is }; kind = kind_in }

-- ---- a word that a read gives

choice_by : (b : Bool) (x y : ℕ) → (b ≡ true → y ≡ x) → (if b then x else y) ≡ y
choice_by true x y h = sym (h refl)
choice_by false x y h = refl

-- the node of the variable that a word is
pub word_learned : (d e : List Node) (guard word held id : Id) (n : Node) (x w : ℕ) → is_ordered d ≡ true → Within d word → n ≡ get_or d word.index n → n ≡ Variable x w → IsWord d held (width d word)
    → IsValue e id (width d held) (λ v. if holds (value v d guard) then value v d held else value v d word) → (v : ℕ → ℕ) → (holds (value v d guard) ≡ true → value v d word ≡ value v d held) → value v e id ≡ low_bits (width e id) (v x)
word_learned d e guard word held id n x w ordered there at is held_word made v given =
    let wide : width d word ≡ w = width_is_final d word.index n ordered there ∙ ap (node_width (widths d)) (sym at ∙ is) in
    let here : value v d word ≡ low_bits w (v x) = value_is_final v d word.index n ordered there ∙ ap (node_value v (widths d) (values v d)) (sym at ∙ is) in
    made.value_is v ∙ choice_by (holds (value v d guard)) (value v d held) (value v d word) given ∙ here ∙ ap (λ u. low_bits u (v x)) (sym (made.width_is ∙ held_word.width_is ∙ wide))

-- ---- all words

abbrev pub are_given : (ℕ → ℕ) → List Node → List Id → List Id → Bool
are_given v d words bytes = same_bytes (bytes_of_words (length bytes) (map (value v d) words)) (map (value v d) bytes)

pub record Learning (d e : List Node) (k m : Known) (guard : Id) (words bytes : List Id) (n at : ℕ) : Type 0 where
  pub extends : Extends d e
  pub known : KnownIn e m
  pub within : at ≤ length bytes
  pub left : length bytes - at ≡ length bytes - 8 * n
  pub rest : (v : ℕ → ℕ) → are_given v d words bytes ≡ true → same_bytes (bytes_of_words (length bytes - at) (drop n (map (value v d) words))) (drop at (map (value v d) bytes)) ≡ true
  pub agrees : (v : ℕ → ℕ) → (holds (value v d guard) ≡ true → are_given v d words bytes ≡ true) → Agrees v d k → Agrees v e m

pub learning_none : (d : List Node) (k : Known) (guard : Id) (words bytes : List Id) → KnownIn d k → Learning d d k k guard words bytes 0 0
learning_none d k guard words bytes known =
    let none : length bytes - 0 ≡ length bytes = omega arith in
    record {
      extends = extends_itself d;
      known = known;
      within = omega arith;
      left = omega arith;
      rest = λ v h. ap (λ n. same_bytes (bytes_of_words n (map (value v d) words)) (map (value v d) bytes)) none ∙ h;
      agrees = λ v given h. h;
    }

-- the word that is looked at, and how many bytes are left for it
module _ (d e : List Node) (k m : Known) (guard : Id) (words bytes : List Id) (n at : ℕ) (given : AreWords d (length bytes) words) (t : Learning d e k m guard words bytes n at) (lt : n < length words) where
  few : n < word_count (length bytes)
  few = omega (arith, lt, words_length d (length bytes) words given)

  pub some_left : 1 ≤ length bytes - at
  some_left = bytes_left (length bytes) n (length bytes - at) t.left few

  own_word : (size : ℕ) (z : Id) → size ≡ min 8 (length bytes - at) → IsWord d (get_or words n z) (8 * size)
  own_word size z is = record {
    there = given.there n z lt;
    width_is = sym (get_or-map (width d) words n z 0 lt) ∙ ap (λ (ws : List ℕ). get_or ws n 0) given.widths ∙ widths_at (word_count (length bytes)) (length bytes) n 0 few ∙ ap (λ i. 8 * min 8 i) (sym t.left) ∙ ap (λ i. 8 * i) (sym is);
  }

  pub slice_bytes : (slice : List Id) (size : ℕ) → AreBytes d bytes → slice ≡ take size (drop at bytes) → AreBytes e slice
  slice_bytes slice size are is = bytes_stay d e slice t.extends (subst (AreBytes d) (sym is) (All-take (λ (i : Id). IsWord d i 8) size (drop at bytes) (All-drop (λ (i : Id). IsWord d i 8) at bytes are)))

  pub slice_size : (slice : List Id) (size : ℕ) → slice ≡ take size (drop at bytes) → size ≡ min 8 (length bytes - at) → length slice ≡ size
  slice_size slice size is size_is = ap length is ∙ length-take-le size (drop at bytes) (omega (arith, size_is, length-drop at bytes))

  pub slice_some : (i size : ℕ) → i ≡ size → size ≡ min 8 (length bytes - at) → 1 ≤ length (take i (drop at bytes))
  slice_some i size same is =
      let long = slice_size (take i (drop at bytes)) size (ap (λ j. take j (drop at bytes)) same) is in
      omega (arith, long, some_left, is)

  module _ (e1 : List Node) (slice : List Id) (held : Id) (size : ℕ) (z : Id) (are : AreBytes d bytes) (slice_is : slice ≡ take size (drop at bytes)) (size_is : size ≡ min 8 (length bytes - at)) (x1 : Extends e e1)
      (held_made : IsValue e1 held (8 * length slice) (λ v. sum_of_bytes (map (value v e) slice) (length slice))) where
    pub word_in : Within e1 (get_or words n z)
    word_in = omega (arith, (own_word size z size_is).there, t.extends.longer, x1.longer)

    pub held_word : IsWord e1 held (width e1 (get_or words n z))
    held_word = record {
      there = held_made.there;
      width_is = held_made.width_is ∙ ap (λ j. 8 * j) (slice_size slice size slice_is size_is) ∙ sym (word_stays d e1 (get_or words n z) (8 * size) (extends_more d e e1 t.extends x1) (own_word size z size_is)).width_is;
    }

    pub guard_stays : IsWord d guard 1 → IsWord e1 guard 1
    guard_stays bit = word_stays d e1 guard 1 (extends_more d e e1 t.extends x1) bit

    pub learning_more : (f : List Node) (o : Known) (to : ℕ) → is_ordered d ≡ true → IsWord d guard 1 → Extends e1 f → KnownIn f o
        → ((v : ℕ → ℕ) → (holds (value v e1 guard) ≡ true → value v e1 (get_or words n z) ≡ value v e1 held) → Agrees v e1 m → Agrees v f o) → to ≡ at + size → Learning d f k o guard words bytes (n + 1) to
    learning_more f o to ordered bit x2 known learns to_is =
        let word = get_or words n z in
        let own = own_word size z size_is in
        let less : size ≤ length bytes - at = omega (arith, size_is) in
        let y1 = extends_more d e e1 t.extends x1 in
        let left = length bytes - at in
        let both : (v : ℕ → ℕ) → are_given v d words bytes ≡ true
        → (((get_or (map (value v d) words) n 0 == sum_of_bytes (take size (drop at (map (value v d) bytes))) (length (take size (drop at (map (value v d) bytes)))))
        && same_bytes (bytes_of_words (left - size) (drop (suc n) (map (value v d) words))) (drop size (drop at (map (value v d) bytes)))) ≡ true) =
        λ v h.
        let ws = map (value v d) words in
        let bs = map (value v d) bytes in
        let some : n < length ws = omega (arith, lt, length-map words (value v d)) in
        let small : get_or ws n 0 < 2 ^ (8 * size) = subst (λ i. i < 2 ^ (8 * size)) (sym (get_or-map (value v d) words n z 0 lt)) (word_below v d word (8 * size) ordered own) in
        let are_ys : are_bytes (take size (drop at bs)) ≡ true = are_bytes-take size (drop at bs) (are_bytes-drop at bs (values_bytes v d bytes ordered are)) in
        more_words true size left (get_or ws n 0) (drop (suc n) ws) (drop at bs) size_is (length-drop at bs ∙ ap (λ i. i - at) (length-map bytes (value v d))) small are_ys
        ∙ ap (λ us. same_bytes (bytes_of_words left us) (drop at bs)) (sym (drop-cons ws n 0 some)) ∙ t.rest v h in
        record {
          extends = extends_more d e f t.extends (extends_more e e1 f x1 x2);
          known = known;
          within = omega (arith, to_is, less, t.within);
          left = omega (arith, to_is, size_is, t.left, t.within);
          rest = λ v h.
              let ws = map (value v d) words in
              let bs = map (value v d) bytes in
              let count : length bytes - to ≡ left - size = omega (arith, to_is) in
              let behind : drop to bs ≡ drop size (drop at bs) = ap (λ i. drop i bs) to_is ∙ sym (drop-drop size at bs) in
              (λ i. same_bytes (bytes_of_words (count i) (one_on ws n i)) (behind i)) ∙ right_true (get_or ws n 0 == sum_of_bytes (take size (drop at bs)) (length (take size (drop at bs)))) _ (both v h);
          agrees = λ v all h. learns v (λ is.
              let ws = map (value v d) words in
              let bs = map (value v d) bytes in
              let ys = take size (drop at bs) in
              let guard_is : holds (value v d guard) ≡ true = ap holds (sym (y1.value_stays v guard bit.there)) ∙ is in
              let word_is : value v e1 word ≡ get_or ws n 0 = y1.value_stays v word own.there ∙ sym (get_or-map (value v d) words n z 0 lt) in
              let slice_d : All (Within d) slice = subst (All (Within d)) (sym slice_is) (All-take (Within d) size (drop at bytes) (All-drop (Within d) at bytes (bytes_there d bytes are))) in
              let slice_values : map (value v e) slice ≡ ys = map_stays v d e slice t.extends slice_d ∙ ap (map (value v d)) slice_is ∙ sym (take-map (value v d) size (drop at bytes)) ∙ ap (take size) (sym (drop-map (value v d) at bytes)) in
              let long : length slice ≡ length ys = sym (length-map slice (value v e)) ∙ ap length slice_values in
              let held_is : value v e1 held ≡ sum_of_bytes ys (length ys) = held_made.value_is v ∙ (λ i. sum_of_bytes (slice_values i) (long i)) in
              word_is ∙ equal_is (get_or ws n 0) (sum_of_bytes ys (length ys)) (left_true (get_or ws n 0 == sum_of_bytes ys (length ys)) _ (both v (all guard_is))) ∙ sym held_is) (agrees_stays v e e1 m x1 t.known (t.agrees v all h));
        }

-- ---- a read

if_is : (b : Bool) (objects : Objects) (told : List Seen) → b ≡ true → gives objects (if b then told else []) ≡ true → gives objects told ≡ true
if_is true objects told h g = g
if_is false objects told h g = absurd (let wrong : false ≡ true = h in cc)

pub read_learned : (v : ℕ → ℕ) (d d1 : List Node) (ev : Event) (pointer : Id) (count p : ℕ) (answer words held nodes : List Id) (objects : Objects) → Extends d d1 → EventIn d ev → ev.kind ≡ kinds.Read pointer count answer → value v d pointer ≡ p
    → words ≡ answer → nodes ≡ held → length held ≡ count → map (value v d1) held ≡ bytes_at objects p count → gives objects (event_seen v d ev) ≡ true → holds (value v d1 ev.guard) ≡ true → are_given v d1 words nodes ≡ true
read_learned v d d1 ev pointer count p answer words held nodes objects x within is p_is words_are nodes_are size held_is told guard_is =
    let own : KindIn d (kinds.Read pointer count answer) = subst (KindIn d) is within.kind in
    let there : AreWords d count answer = own.1 in
    let here : holds (value v d ev.guard) ≡ true = ap holds (sym (x.value_stays v ev.guard within.guard.there)) ∙ guard_is in
    let tells : gives objects (kind_seen v d ev.line ev.function ev.kind) ≡ true = if_is (holds (value v d ev.guard)) objects (kind_seen v d ev.line ev.function ev.kind) here told in
    let q = value v d pointer in
    let bs = bytes_of_words count (map (value v d) answer) in
    let reads : (is_given objects (actions.Read q count) (answers.Bytes bs) && true) ≡ true = ap (λ (j : EventKind). gives objects (kind_seen v d ev.line ev.function j)) (sym is) ∙ tells in
    let long : length nodes ≡ count = ap length nodes_are ∙ size in
    let words_is : map (value v d1) words ≡ map (value v d) answer = ap (map (value v d1)) words_are ∙ map_stays v d d1 answer x there.there in
    let bytes_is : map (value v d1) nodes ≡ bytes_at objects q count = ap (map (value v d1)) nodes_are ∙ held_is ∙ ap (λ r. bytes_at objects r count) (sym p_is) in
    (λ i. same_bytes (bytes_of_words (long i) (words_is i)) (bytes_is i)) ∙ read_holds objects q count bs (left_true (is_given objects (actions.Read q count) (answers.Bytes bs)) true reads)

pub read_words : (d d1 : List Node) (k : EventKind) (pointer : Id) (count : ℕ) (answer words held nodes : List Id) → Extends d d1 → KindIn d k → k ≡ kinds.Read pointer count answer → words ≡ answer → nodes ≡ held → length held ≡ count → AreWords d1 (length nodes) words
read_words d d1 k pointer count answer words held nodes x within is words_are nodes_are size =
    let own : KindIn d (kinds.Read pointer count answer) = subst (KindIn d) is within in
    let there : AreWords d count answer = own.1 in
    subst (λ (ids : List Id). AreWords d1 (length nodes) ids) (sym words_are) (words_in_stay d d1 count (length nodes) answer x there (ap length nodes_are ∙ size))
