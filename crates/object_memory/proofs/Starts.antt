-- Places that are made.
use Rattle.std.proofs.Common.{◌≡◌, ◌<◌, ◌≤◌, ◌+◌, ◌*◌, ◌%◌, ◌^◌, ℕ, suc, Bool, true, false, List, [], ◌∷◌, ◌++◌, length, map, take, drop, get_or, Some, None, Result, Ok, Err, refl, sym, ap, subst, ◌∙◌, arith, append_assoc, append-nil}
use Rattle.std.specs.Prelude.{All, min, nat_lt, is_some, ◌==◌, if◌then◌else◌}
use Rattle.std.proofs.Math.Seq.{drop-cons}
use Rattle.std.proofs.lemmas.Bool.Decides.{nat_tests}
use Rattle.std.proofs.lemmas.List.{map_push, length-map, length-append, drop_all, take_all, take_more}
use Rattle.std.proofs.lemmas.List.Elements.{All-push, All-nil}
use Rattle.words.specs.Operators.{word_sum}
use Rattle.actions.specs.Pointer.{object_of, offset_of}
use Rattle.actions.specs.StoredObject.{StoredObject, stored}
use Rattle.actions.specs.States.{state_of}
use Rattle.actions.specs.States as states
use Rattle.actions.specs.Access.{break_at, look, size_in}
use Rattle.actions.specs.Objects.{Objects, object_at, state_at, break_in, read, bytes_at, bytes_in, unless_broken}
use Rattle.words.specs.declared.check.Class.{Class}
use Rattle.words.specs.declared.check.Class.TheVariants as class
use Rattle.word_dag.specs.declared.nodes.Id.{Id}
use Rattle.word_dag.specs.declared.nodes.Node.{Node}
use Rattle.word_dag.specs.declared.nodes.Node.TheVariants.{Constant, Binary, ZeroExtend, Compare}
use Rattle.word_dag.specs.declared.nodes.BinaryOperator.TheVariants.{Add}
use Rattle.word_dag.specs.declared.nodes.Comparison.TheVariants.{UnsignedLess}
use Rattle.word_dag.specs.Meaning.{width, value, holds, bit_value}
use Rattle.word_dag.specs.Fitting.{is_ordered}
use Rattle.word_dag.specs.Growth.{Extends, Makes}
use Rattle.word_dag.proofs.Grown.{extends_itself, extends_more, within_stays, map_stays}
use Rattle.value_nodes.specs.Values.{IsWord, IsValue, IsTest, AreBytes}
use Rattle.value_nodes.proofs.Made.{word_stays, word_below}
use Rattle.object_memory.specs.declared.places.Place.{Place}
use Rattle.object_memory.specs.Spots.{IsFirst, AreFirst}
use Rattle.object_memory.specs.Places.{spot_of, spots, PlaceIn}
use Rattle.object_memory.proofs.Spotted.{first_spots, numbered_at}
use Rattle.object_memory.proofs.Pointed.{bytes_stay, bytes_there, spots_stay, places_stay, test_is}

-- ---- sums and comparisons

rest_small : (n m : ℕ) → n < m → n % m ≡ n
rest_small n m h = Rattle.std.proofs.Math.Nat.mod-eq_of_lt h

sum_small : (w a b : ℕ) → a + b < 2 ^ w → word_sum w a b ≡ a + b
unfolding word_sum
sum_small w a b h = rest_small (a + b) (2 ^ w) h

pub sum_made : (d d1 d2 e : List Node) (offset start distance id : Id) (count : ℕ) → is_ordered d ≡ true → IsWord d offset 32 → count < 2 ^ 32 → Extends d1 d2 → Makes d d1 (ZeroExtend offset 34) start → Makes d1 d2 (Constant count 34) distance → Makes d2 e (Binary Add start distance) id
    → IsValue e id 34 (λ v. value v d offset + count)
sum_made d d1 d2 e offset start distance id count ordered word small x first second sum =
    let wide : width d2 start ≡ 34 = x.width_stays start first.there ∙ first.width_is in
    record {
      there = sum.there;
      width_is = sum.width_is ∙ wide;
      value_is = λ v.
          let a : value v d2 start ≡ value v d offset = x.value_stays v start first.there ∙ first.value_is v in
          let below : value v d offset < 2 ^ 32 = word_below v d offset 32 ordered word in
          sum.value_is v ∙ (λ i. word_sum (wide i) (a i) (second.value_is v i)) ∙ sum_small 34 (value v d offset) count (omega (arith, below, small));
    }

pub less_made : (d d1 d2 e : List Node) (size end wide id : Id) (f : (ℕ → ℕ) → ℕ) → Extends d d1 → Extends d1 d2 → IsWord d size 32 → IsValue d1 end 34 f → Makes d1 d2 (ZeroExtend size 34) wide → Makes d2 e (Compare UnsignedLess wide end) id → IsTest e id (λ v. nat_lt (value v d size) (f v))
less_made d d1 d2 e size end wide id f x1 x2 word made first test = record {
  there = test.there;
  width_is = test.width_is;
  value_is = λ v.
      let a : value v d2 wide ≡ value v d size = first.value_is v ∙ x1.value_stays v size word.there in
      let b : value v d2 end ≡ f v = x2.value_stays v end made.there ∙ made.value_is v in
      test.value_is v ∙ (λ i. bit_value (nat_lt (a i) (b i)));
}

less_is : (m n : ℕ) → m < n → nat_lt m n ≡ true
less_is m n h = grind (arith, nat_tests)

is_less : (m n : ℕ) → nat_lt m n ≡ true → m < n
is_less m n h = grind (arith, nat_tests)

not_less : (m n : ℕ) → nat_lt m n ≡ false → n ≤ m
not_less m n h = grind (arith, nat_tests)

pub outside_always : (d e : List Node) (offset size id : Id) (count : ℕ) → is_ordered d ≡ true → IsWord d size 32 → 2 ^ 32 ≤ count → IsTest e id (λ v. true) → IsTest e id (λ v. nat_lt (value v d size) (value v d offset + count))
outside_always d e offset size id count ordered word large made = record {
  there = made.there;
  width_is = made.width_is;
  value_is = λ v.
      let below : value v d size < 2 ^ 32 = word_below v d size 32 ordered word in
      made.value_is v ∙ ap bit_value (sym (less_is (value v d size) (value v d offset + count) (omega (arith, below, large))));
}

pub outside_constant : (d e : List Node) (offset size id : Id) (count bits : ℕ) → ((v : ℕ → ℕ) → value v d size ≡ bits) → IsTest e id (λ v. nat_lt bits (value v d offset + count)) → IsTest e id (λ v. nat_lt (value v d size) (value v d offset + count))
outside_constant d e offset size id count bits is made = record { there = made.there; width_is = made.width_is; value_is = λ v. made.value_is v ∙ ap (λ n. bit_value (nat_lt n (value v d offset + count))) (sym (is v)) }

pub constant_below : (d : List Node) (size : Id) (bits : ℕ) → is_ordered d ≡ true → IsWord d size 32 → ((v : ℕ → ℕ) → value v d size ≡ bits) → bits < 2 ^ 32
constant_below d size bits ordered word is =
    let v : ℕ → ℕ = λ n. 0 in
    let below : value v d size < 2 ^ 32 = word_below v d size 32 ordered word in
    subst (λ n. n < 2 ^ 32) (is v) below

pub next_made : (d d1 e : List Node) (count one id : Id) (v : ℕ → ℕ) → Extends d d1 → IsWord d count 32 → Makes d d1 (Constant 1 32) one → Makes d1 e (Binary Add count one) id → value v d count + 1 < 2 ^ 32 → value v e id ≡ value v d count + 1
next_made d d1 e count one id v x word first sum small =
    let wide : width d1 count ≡ 32 = x.width_stays count word.there ∙ word.width_is in
    sum.value_is v ∙ (λ i. word_sum (wide i) (x.value_stays v count word.there i) (first.value_is v i)) ∙ sum_small 32 (value v d count) 1 small

lesser_by : (size count : ℕ) (b : Bool) → nat_lt size count ≡ b → count < 2 ^ 32 → (if b then offset_of size else count) ≡ min size count
lesser_by size count true h small = let less = is_less size count h in let low : offset_of size ≡ size = omega (arith, less, small) in low ∙ (let least : size ≡ min size count = omega (arith, less) in least)
lesser_by size count false h small = let more = not_less size count h in let least : count ≡ min size count = omega (arith, more) in least

pub lesser_made : (d d1 d2 d3 e : List Node) (size less low high id : Id) (count : ℕ) → Extends d d1 → Extends d1 d2 → Extends d2 d3 → IsWord d size 64 → count < 2 ^ 32 → IsTest d1 less (λ v. nat_lt (value v d size) count) → IsValue d2 low 32 (λ v. offset_of (value v d1 size)) → Makes d2 d3 (Constant count 32) high
    → IsValue e id (width d3 low) (λ v. if holds (value v d3 less) then value v d3 low else value v d3 high) → IsValue e id 32 (λ v. min (value v d size) count)
lesser_made d d1 d2 d3 e size less low high id count x1 x2 x3 word small test made first choice = record {
  there = choice.there;
  width_is = choice.width_is ∙ x3.width_stays low made.there ∙ made.width_is;
  value_is = λ v.
      let t : holds (value v d3 less) ≡ nat_lt (value v d size) count = ap holds (x3.value_stays v less (within_stays d1 d2 less x2 test.there) ∙ x2.value_stays v less test.there) ∙ test_is d1 less (λ u. nat_lt (value u d size) count) test v in
      let a : value v d3 low ≡ offset_of (value v d size) = x3.value_stays v low made.there ∙ made.value_is v ∙ ap offset_of (x1.value_stays v size word.there) in
      choice.value_is v ∙ (λ i. if t i then a i else first.value_is v i) ∙ lesser_by (value v d size) count (nat_lt (value v d size) count) refl small;
}

-- ---- constants

pub record Constants (d e : List Node) (bytes : List ℕ) (ids : List Id) (k : ℕ) : Type 0 where
  pub extends : Extends d e
  pub all : AreBytes e ids
  pub values : (v : ℕ → ℕ) → map (value v e) ids ++ drop k bytes ≡ bytes

pub constants_none : (d : List Node) (bytes : List ℕ) (ids : List Id) → ids ≡ [] → Constants d d bytes ids 0
constants_none d bytes ids none = record {
  extends = extends_itself d;
  all = subst (AreBytes d) (sym none) (All-nil (λ (i : Id). IsWord d i 8));
  values = λ v. ap (λ (is : List Id). map (value v d) is ++ bytes) none;
}

pub constants_more : (d e f : List Node) (bytes : List ℕ) (ids more : List Id) (i : Id) (k z : ℕ) → Constants d e bytes ids k → k < length bytes → Extends e f → Makes e f (Constant (get_or bytes k z) 8) i → more ≡ ids ++ i ∷ [] → Constants d f bytes more (k + 1)
constants_more d e f bytes ids more i k z c lt x made is = record {
  extends = extends_more d e f c.extends x;
  all = subst (AreBytes f) (sym is) (All-push (λ (j : Id). IsWord f j 8) ids i (bytes_stay e f ids x c.all) (record { there = made.there; width_is = made.width_is }));
  values = λ v.
      let next : k + 1 ≡ suc k = omega arith in
      ap (λ (js : List Id). map (value v f) js ++ drop (k + 1) bytes) is ∙ ap (λ ws. ws ++ drop (k + 1) bytes) (map_push (value v f) ids i) ∙ append_assoc (map (value v f) ids) (value v f i ∷ []) (drop (k + 1) bytes)
      ∙ (λ j. map_stays v e f ids x (bytes_there e ids c.all) j ++ (made.value_is v j ∷ drop (next j) bytes)) ∙ ap (λ ys. map (value v e) ids ++ ys) (sym (drop-cons bytes k z lt)) ∙ c.values v;
}

pub constants_all : (d e : List Node) (bytes : List ℕ) (ids : List Id) (k : ℕ) → length bytes ≤ k → Constants d e bytes ids k → (v : ℕ → ℕ) → map (value v e) ids ≡ bytes
constants_all d e bytes ids k done c v = sym (append-nil (map (value v e) ids)) ∙ ap (λ ys. map (value v e) ids ++ ys) (sym (drop_all k bytes done)) ∙ c.values v

-- ---- a place at the start

pub first_within : (d1 d2 d3 e : List Node) (r : Place) (bytes : List ℕ) → Extends d1 d2 → Extends d2 d3 → Extends d3 e → AreBytes d1 r.bytes.items → ((v : ℕ → ℕ) → map (value v d1) r.bytes.items ≡ bytes) → length bytes < 2 ^ 32 → IsTest d2 r.born (λ v. true) → r.live ≡ r.born
    → IsWord d3 r.number 32 → IsValue e r.size 32 (λ v. length bytes) → PlaceIn e r
first_within d1 d2 d3 e r bytes x1 x2 x3 all values short born live number size =
    let count : length r.bytes.items ≡ length bytes = sym (length-map r.bytes.items (value (λ n. 0) d1)) ∙ ap length (values (λ n. 0)) in
    let x = extends_more d1 d2 e x1 (extends_more d2 d3 e x2 x3) in
    let sure : IsWord e r.born 1 = word_stays d2 e r.born 1 (extends_more d2 d3 e x2 x3) (record { there = born.there; width_is = born.width_is }) in
    record {
      born = sure;
      number = word_stays d3 e r.number 32 x3 number;
      size = record { there = size.there; width_is = size.width_is };
      live = subst (λ i. IsWord e i 1) (sym live) sure;
      bytes = bytes_stay d1 e r.bytes.items x all;
      short = omega (arith, count, short);
      whole = λ v. omega (arith, size.value_is v, count);
    }

pub first_spot : (d1 d2 d3 e : List Node) (r : Place) (bytes : List ℕ) (number : ℕ) (readonly : Bool) → Extends d1 d2 → Extends d2 d3 → Extends d3 e → AreBytes d1 r.bytes.items → ((v : ℕ → ℕ) → map (value v d1) r.bytes.items ≡ bytes) → IsTest d2 r.born (λ v. true) → r.live ≡ r.born
    → IsValue d3 r.number 32 (λ v. number) → IsValue e r.size 32 (λ v. length bytes) → r.readonly ≡ readonly → r.heap ≡ false
    → (v : ℕ → ℕ) → spot_of v e r ≡ Some (record { number = number; object = stored (length bytes) [] true readonly false bytes })
first_spot d1 d2 d3 e r bytes number readonly x1 x2 x3 all values born live numbered size is_readonly is_heap v =
    let x23 = extends_more d2 d3 e x2 x3 in
    let sure : holds (value v e r.born) ≡ true = ap holds (x23.value_stays v r.born born.there ∙ born.value_is v) in
    let lives : holds (value v e r.live) ≡ true = ap (λ i. holds (value v e i)) live ∙ sure in
    let number_is : value v e r.number ≡ number = x3.value_stays v r.number numbered.there ∙ numbered.value_is v in
    let bytes_is : map (value v e) r.bytes.items ≡ bytes = map_stays v d1 e r.bytes.items (extends_more d1 d2 e x1 x23) (bytes_there d1 r.bytes.items all) ∙ values v in
    (λ i. if sure i then Some (record { number = number_is i; object = stored (size.value_is v i) [] (lives i) (is_readonly i) (is_heap i) (take (size.value_is v i) (bytes_is i)) }) else None)
    ∙ ap (λ (bs : List ℕ). Some (record { number = number; object = stored (length bytes) [] true readonly false bs })) (take_all (length bytes) bytes (omega arith))

-- ---- the places at the start, one by one

pub record Starting (d e : List Node) (objects : Objects) (ps : List Place) (at : ℕ) : Type 0 where
  pub extends : Extends d e
  pub places : All (PlaceIn e) ps
  pub size : length ps ≡ at
  pub same : AreFirst objects → (v : ℕ → ℕ) → spots v e ps ≡ first_spots (take at objects)

pub starting_none : (d : List Node) (objects : Objects) (ps : List Place) → ps ≡ [] → Starting d d objects ps 0
starting_none d objects ps none = record {
  extends = extends_itself d;
  places = subst (All (PlaceIn d)) (sym none) (All-nil (PlaceIn d));
  size = ap length none;
  same = λ first v. ap (spots v d) none;
}

pub starting_more : (d e f : List Node) (objects : Objects) (ps qs : List Place) (r : Place) (at number : ℕ) → Starting d e objects ps at → at < length objects → number ≡ at + 1 → Extends e f → PlaceIn f r
    → ((o : StoredObject) → 1 ≤ number → object_at objects number ≡ Some o → IsFirst o → (v : ℕ → ℕ) → spot_of v f r ≡ Some (record { number = number; object = o })) → qs ≡ ps ++ r ∷ [] → Starting d f objects qs (at + 1)
starting_more d e f objects ps qs r at number s lt number_is x within spot is = record {
  extends = extends_more d e f s.extends x;
  places = subst (All (PlaceIn f)) (sym is) (All-push (PlaceIn f) ps r (places_stay e f ps x s.places) within);
  size = omega (arith, ap length is, length-append ps (r ∷ []), s.size);
  same = λ first v.
      let z : ℕ × StoredObject = (0, stored 0 [] false false false []) in
      let entry = get_or objects at z in
      let same_entry : entry ≡ get_or objects at entry = Rattle.std.proofs.lemmas.List.get_or_default objects at z entry lt in
      let known = numbered_at 1 objects at entry first.numbers lt same_entry in
      let order : 1 + at ≡ number = omega (arith, number_is) in
      let found : object_at objects number ≡ Some entry.1 = ap (object_at objects) (sym order) ∙ known.1 in
      let here : spot_of v f r ≡ Some (record { number = entry.0; object = entry.1 }) =
      spot entry.1 (omega (arith, number_is)) found (first.each at z lt) v ∙ ap (λ n. Some (record { number = n; object = entry.1 })) (sym (known.0 ∙ order)) in
      ap (spots v f) is ∙ map_push (spot_of v f) ps r ∙ (λ i. (spots_stay v e f ps x s.places ∙ s.same first v) i ++ (here i ∷ []))
      ∙ sym (map_push (λ (k : ℕ × StoredObject). Some (record { number = k.0; object = k.1 })) (take at objects) entry) ∙ ap first_spots (sym (take_more objects at z lt));
}

-- ---- what is read of the store at the start

pub record StartReads (objects : Objects) (p : ℕ) (o : StoredObject) : Type 0 where
  pub looks : look p (state_at objects (object_of p)) ≡ Ok o.size
  pub reads : read objects p o.size ≡ Ok o.bytes
  pub writes : is_some (break_in objects true p 0) ≡ o.readonly

not_less_itself : (n : ℕ) → nat_lt n (0 + n) ≡ false
not_less_itself n = grind (arith, nat_tests)

not_below : (n : ℕ) → nat_lt n (0 + 0) ≡ false
not_below n = grind (arith, nat_tests)

positive_not : (n : ℕ) → 1 ≤ n → (n == 0) ≡ false
positive_not n h = grind (arith, nat_tests)

readonly_by : (b : Bool) → is_some (if b then Some class.Readonly else None) ≡ b
readonly_by true = refl
readonly_by false = refl

pub start_reads : (objects : Objects) (number p : ℕ) (o : StoredObject) → p ≡ number * 4294967296 → 1 ≤ number → object_at objects number ≡ Some o → IsFirst o → StartReads objects p o
start_reads objects number p o p_is positive found first =
    let object : object_of p ≡ number = omega (arith, p_is) in
    let offset : offset_of p ≡ 0 = omega (arith, p_is) in
    let not_null : (object_of p == 0) ≡ false = ap (λ k. k == 0) object ∙ positive_not number positive in
    let state : state_at objects (object_of p) ≡ states.live o.size [] o.readonly false =
    ap (state_at objects) object ∙ ap state_of found ∙ ap (λ b. if b then states.live o.size o.cells o.readonly o.heap else states.dead) first.live ∙ (λ i. states.live o.size (first.cells i) o.readonly (first.heap i)) in
    let fine : break_in objects false p o.size ≡ None =
    (λ i. if not_null i then Some class.Null else break_at false (offset i) o.size (state i)) ∙ ap (λ b. if b then Some class.Bounds else None) (not_less_itself o.size) in
    let bytes : bytes_at objects p o.size ≡ o.bytes =
    (λ i. bytes_in (offset i) o.size (object_at objects (object i))) ∙ ap (bytes_in 0 o.size) found ∙ take_all o.size o.bytes (omega (arith, first.whole)) in
    record {
      looks = (λ i. if not_null i then Err class.Null else size_in (state i));
      reads = (λ i. unless_broken (fine i) (bytes i));
      writes = ap is_some ((λ i. if not_null i then Some class.Null else break_at true (offset i) 0 (state i)) ∙ ap (λ b. if b then Some class.Bounds else (if o.readonly then Some class.Readonly else None)) (not_below o.size)) ∙ readonly_by o.readonly;
    }

pub start_spot : (d : List Node) (objects : Objects) (r : Place) (number p size : ℕ) (readonly : Bool) (bytes : List ℕ) → p ≡ number * 4294967296 → ((n : ℕ) → look p (state_at objects (object_of p)) ≡ Ok n → size ≡ n) → readonly ≡ is_some (break_in objects true p 0) → read objects p size ≡ Ok bytes
    → ((v : ℕ → ℕ) → spot_of v d r ≡ Some (record { number = number; object = stored (length bytes) [] true readonly false bytes }))
    → (o : StoredObject) → 1 ≤ number → object_at objects number ≡ Some o → IsFirst o → (v : ℕ → ℕ) → spot_of v d r ≡ Some (record { number = number; object = o })
start_spot d objects r number p size readonly bytes p_is size_is readonly_is given spot o positive found first v =
    let s = start_reads objects number p o p_is positive found first in
    let same_size : size ≡ o.size = size_is o.size s.looks in
    let same_bytes : bytes ≡ o.bytes = same_ok bytes o.bytes (sym given ∙ ap (read objects p) same_size ∙ s.reads) in
    let count : length bytes ≡ o.size = ap length same_bytes ∙ first.whole in
    spot v ∙ (λ i. Some (record { number = number; object = stored (count i) (sym first.cells i) (sym first.live i) ((readonly_is ∙ s.writes) i) (sym first.heap i) (same_bytes i) }))
  where
    same_ok : (a b : List ℕ) → (let x : Result (List ℕ) Class = Ok a in x) ≡ Ok b → a ≡ b
    same_ok a b e = cc

pub start_broken : {X : Type 0} (objects : Objects) (number p size : ℕ) (k : Class) (o : StoredObject) → p ≡ number * 4294967296 → ((n : ℕ) → look p (state_at objects (object_of p)) ≡ Ok n → size ≡ n) → read objects p size ≡ Err k → 1 ≤ number → object_at objects number ≡ Some o → IsFirst o → X
start_broken objects number p size k o p_is size_is given positive found first =
    let s = start_reads objects number p o p_is positive found first in
    let same_size : size ≡ o.size = size_is o.size s.looks in
    absurd (wrong (sym given ∙ ap (read objects p) same_size ∙ s.reads))
  where
    wrong : (let x : Result (List ℕ) Class = Err k in x) ≡ Ok o.bytes → ⊥
    wrong e = cc
