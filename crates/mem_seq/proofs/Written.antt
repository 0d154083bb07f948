-- Bytes that are written in a store, as nodes.
use Rattle.std.proofs.Common.{◌≡◌, ℕ, zero, suc, ◌+◌, ◌^◌, ◌<◌, ◌≤◌, Bool, true, false, cond, List, [], ◌∷◌, ◌++◌, length, map, take, drop, get_or, Option, Some, None, ◌⊎◌, inl, inr, refl, sym, ap, subst, ◌∙◌, arith, nat_lt}
use Rattle.std.specs.Prelude.{◌==◌, IfSome, option_map, if◌then◌else◌}
use Rattle.std.specs.Ordering.{nat_cmp}
use Rattle.std.specs.Map.{lookup}
use Rattle.std.specs.BTreeMap.{is_at}
use Rattle.std.specs.Cmp.{unsigned_tied}
use Rattle.std.proofs.Math.Nat.{min-le_left}
use Rattle.std.proofs.lemmas.Bool.{cases_lt}
use Rattle.std.proofs.lemmas.Bool.Decides.{nat_tests}
use Rattle.std.proofs.lemmas.List.{length-map, length-take, get_or-map, take-append-drop, drop-drop}
use Rattle.std.proofs.lemmas.List.Elements.{All-head, All-tail}
use Rattle.std.proofs.lemmas.Map.Steps.{set_value_same}
use Rattle.std.proofs.lemmas.Nat.{div-add-mod'}
use Rattle.c_values.specs.Variables.{pointer_to}
use Rattle.actions.specs.ByteList.{put_at}
use Rattle.actions.specs.Pointer.{object_of, offset_of}
use Rattle.actions.specs.StoredObject.{StoredObject}
use Rattle.actions.specs.States.{state_of}
use Rattle.actions.specs.Access.{access_break}
use Rattle.actions.specs.Objects.{Objects, object_at, with_object, changed_to, with_bytes, with_bytes_at, bytes_in, bytes_at, break_in}
use Rattle.actions.proofs.Changes.{lookup-set_apart}
use Rattle.word_dag.specs.declared.nodes.Id.{Id}
use Rattle.word_dag.specs.declared.nodes.Node.{Node}
use Rattle.word_dag.specs.Meaning.{value}
use Rattle.word_dag.specs.Growth.{Extends}
use Rattle.value_nodes.specs.Values.{IsWord, AreBytes}
use Rattle.mem_seq.specs.Memories.{Written, put_from, value_or, byte_of, bytes_by, with_written, AreWith, AreIn}

-- ---- tests

pub if_true : {X : Type 0} (b : Bool) (x y : X) → b ≡ true → (if b then x else y) ≡ x
if_true true x y h = refl
if_true false x y h = absurd (let wrong : false ≡ true = h in cc)

pub if_false : {X : Type 0} (b : Bool) (x y : X) → b ≡ false → (if b then x else y) ≡ y
if_false true x y h = absurd (let wrong : true ≡ false = h in cc)
if_false false x y h = refl

is_equal : (m n : ℕ) → m ≡ n → (m == n) ≡ true
is_equal m n h = grind (arith, nat_tests)

is_other : (m n : ℕ) → m < n → (m == n) ≡ false
is_other m n h = grind (arith, nat_tests)

pub is_less : (m n : ℕ) → m < n → nat_lt m n ≡ true
is_less m n h = grind (arith, nat_tests)

less_is : (m n : ℕ) → nat_lt m n ≡ true → m < n
less_is m n h = grind (arith, nat_tests)

-- ---- nodes that are put

put_before : (p : ℕ) (ids : List Id) (f : Written) (q : ℕ) → q < p → put_from p ids f q ≡ f q
put_before p [] f q h = refl
put_before p (i ∷ ids) f q h = put_before (suc p) ids (λ r. if p == r then Some i else f r) q (omega (arith, h)) ∙ if_false (p == q) (Some i) (f q) (other p q h) where
  other : (p q : ℕ) → q < p → (p == q) ≡ false
  other p q h = grind (arith, nat_tests)

put_behind : (p : ℕ) (ids : List Id) (f : Written) (q : ℕ) → p + length ids ≤ q → put_from p ids f q ≡ f q
put_behind p [] f q h = refl
put_behind p (i ∷ ids) f q h = put_behind (suc p) ids (λ r. if p == r then Some i else f r) q (omega (arith, h)) ∙ if_false (p == q) (Some i) (f q) (is_other p q (omega (arith, h)))

put_in : (p : ℕ) (ids : List Id) (f : Written) (k : ℕ) (d : Id) → k < length ids → put_from p ids f (p + k) ≡ Some (get_or ids k d)
put_in p [] f k d h = absurd (omega (arith, h))
put_in p (i ∷ ids) f zero d h =
    put_before (suc p) ids (λ r. if p == r then Some i else f r) (p + 0) (omega arith) ∙ if_true (p == p + 0) (Some i) (f (p + 0)) (is_equal p (p + 0) (omega arith))
put_in p (i ∷ ids) f (suc k) d h =
    let same : p + suc k ≡ suc p + k = omega arith in
    ap (λ q. put_from (suc p) ids (λ r. if p == r then Some i else f r) q) same ∙ put_in (suc p) ids (λ r. if p == r then Some i else f r) k d (omega (arith, h))

pub put_same : (p : ℕ) (ids : List Id) (f g : Written) → ((q : ℕ) → f q ≡ g q) → (q : ℕ) → put_from p ids f q ≡ put_from p ids g q
put_same p [] f g same q = same q
put_same p (i ∷ ids) f g same q = put_same (suc p) ids (λ r. if p == r then Some i else f r) (λ r. if p == r then Some i else g r) (λ r. ap (λ o. if p == r then Some i else o) (same r)) q

-- ---- bytes by their places

length_by : (f : ℕ → ℕ → ℕ) (j : ℕ) (bs : List ℕ) → length (bytes_by f j bs) ≡ length bs
length_by f j [] = refl
length_by f j (b ∷ bs) = ap suc (length_by f (suc j) bs)

take_by : (f : ℕ → ℕ → ℕ) (j n : ℕ) (bs : List ℕ) → take n (bytes_by f j bs) ≡ bytes_by f j (take n bs)
take_by f j zero bs = refl
take_by f j (suc n) [] = refl
take_by f j (suc n) (b ∷ bs) = ap (λ ys. f j b ∷ ys) (take_by f (suc j) n bs)

drop_by : (f : ℕ → ℕ → ℕ) (j n : ℕ) (bs : List ℕ) → drop n (bytes_by f j bs) ≡ bytes_by f (j + n) (drop n bs)
drop_by f j zero bs = let same : j ≡ j + 0 = omega arith in ap (λ k. bytes_by f k bs) same
drop_by f j (suc n) [] = refl
drop_by f j (suc n) (b ∷ bs) =
    let same : suc j + n ≡ j + suc n = omega arith in drop_by f (suc j) n bs ∙ ap (λ k. bytes_by f k (drop n bs)) same

same_by : (f g : ℕ → ℕ → ℕ) (j : ℕ) (bs : List ℕ) → ((i b : ℕ) → j ≤ i → i < j + length bs → f i b ≡ g i b) → bytes_by f j bs ≡ bytes_by g j bs
same_by f g j [] same = refl
same_by f g j (b ∷ bs) same =
    let first = same j b (omega arith) (omega arith) in
    let rest = same_by f g (suc j) bs (λ i c low high. same i c (omega (arith, low)) (omega (arith, high))) in
    λ k. first k ∷ rest k

are_by : (f : ℕ → ℕ → ℕ) (j : ℕ) (bs xs : List ℕ) → length xs ≡ length bs → ((i b : ℕ) → i < length xs → f (j + i) b ≡ get_or xs i 0) → bytes_by f j bs ≡ xs
are_by f j [] [] size same = refl
are_by f j [] (x ∷ xs) size same = absurd (omega (arith, size))
are_by f j (b ∷ bs) [] size same = absurd (omega (arith, size))
are_by f j (b ∷ bs) (x ∷ xs) size same =
    let here : j + 0 ≡ j = omega arith in
    let first : f j b ≡ x = ap (λ k. f k b) (sym here) ∙ same 0 b (omega arith) in
    let rest = are_by f (suc j) bs xs (omega (arith, size)) (λ i c lt. let next : suc j + i ≡ j + suc i = omega arith in ap (λ k. f k c) next ∙ same (suc i) c (omega (arith, lt))) in
    λ k. first k ∷ rest k

take_few : (n : ℕ) (bs : List ℕ) → length (take n bs) ≤ n
take_few n bs = omega (arith, length-take n bs, min-le_left n (length bs))

three_parts : (at n : ℕ) (ys : List ℕ) → take at ys ++ (take n (drop at ys) ++ drop n (drop at ys)) ≡ ys
three_parts at n ys = ap (λ zs. take at ys ++ zs) (take-append-drop n (drop at ys)) ∙ take-append-drop at ys

-- bytes in the place of as many that are there
put_by : (f g : ℕ → ℕ → ℕ) (at : ℕ) (xs bs : List ℕ) → length (take (length xs) (drop at bs)) ≡ length xs → ((i b : ℕ) → i < at → g i b ≡ f i b) → ((i b : ℕ) → at + length xs ≤ i → g i b ≡ f i b) → ((i b : ℕ) → i < length xs → g (at + i) b ≡ get_or xs i 0)
    → bytes_by g 0 bs ≡ put_at at xs (bytes_by f 0 bs)
put_by f g at xs bs size before behind here =
    let n = length xs in
    let ys = bytes_by g 0 bs in
    let zs = bytes_by f 0 bs in
    let first : take at ys ≡ take at zs = take_by g 0 at bs ∙ same_by g f 0 (take at bs) (λ i b low high. before i b (omega (arith, high, take_few at bs))) ∙ sym (take_by f 0 at bs) in
    let middle : take n (drop at ys) ≡ xs =
    ap (take n) (drop_by g 0 at bs) ∙ take_by g (0 + at) n (drop at bs) ∙ are_by g (0 + at) (take n (drop at bs)) xs (sym size) (λ i b lt. let plain : 0 + at + i ≡ at + i = omega arith in ap (λ k. g k b) plain ∙ here i b lt) in
    let rest : drop n (drop at ys) ≡ drop (at + n) zs =
    drop-drop n at ys ∙ drop_by g 0 (at + n) bs ∙ same_by g f (0 + (at + n)) (drop (at + n) bs) (λ i b low high. behind i b (omega (arith, low))) ∙ sym (drop_by f 0 (at + n) bs) in
    sym (three_parts at n ys) ∙ (λ k. first k ++ (middle k ++ rest k))

-- bytes put where they are
put_itself : (at n : ℕ) (ys : List ℕ) → length (take n (drop at ys)) ≡ n → put_at at (take n (drop at ys)) ys ≡ ys
put_itself at n ys size =
    ap (λ k. take at ys ++ (take n (drop at ys) ++ drop (at + k) ys)) size ∙ ap (λ zs. take at ys ++ (take n (drop at ys) ++ zs)) (sym (drop-drop n at ys)) ∙ three_parts at n ys

-- ---- pointers

pub pointer_is : (p : ℕ) → p ≡ pointer_to (object_of p) (offset_of p)
pointer_is p = sym (div-add-mod' p (2 ^ 32))

pointer_below : (k o j at p : ℕ) → k < o → j < 2 ^ 32 → p ≡ pointer_to o at → pointer_to k j < p
pointer_below k o j at p h low is = omega (arith, h, low, is)

pointer_behind : (k o j at n p : ℕ) → o < k → at + n ≤ 2 ^ 32 → p ≡ pointer_to o at → p + n ≤ pointer_to k j
pointer_behind k o j at n p h inside is = omega (arith, h, inside, is)

-- ---- what bytes are under a valuation

pick : (t : Bool) (v : ℕ → ℕ) (d : List Node) (x y : Option Id) (b : ℕ) → (t ≡ true → x ≡ y) → (if t then value_or v d x b else b) ≡ (if t then value_or v d y b else b)
pick true v d x y b same = ap (λ o. value_or v d o b) (same refl)
pick false v d x y b same = refl

module _ (v : ℕ → ℕ) (d : List Node) (f : Written) (p : ℕ) (ids : List Id) (inside : offset_of p + length ids ≤ 2 ^ 32) where
  byte_before : (j b : ℕ) → j < offset_of p → byte_of v d (put_from p ids f) (object_of p) j b ≡ byte_of v d f (object_of p) j b
  byte_before j b h =
      pick (nat_lt j (2 ^ 32)) v d (put_from p ids f (pointer_to (object_of p) j)) (f (pointer_to (object_of p) j)) b (λ t. put_before p ids f (pointer_to (object_of p) j) (omega (arith, pointer_is p, h)))

  byte_behind : (j b : ℕ) → offset_of p + length ids ≤ j → byte_of v d (put_from p ids f) (object_of p) j b ≡ byte_of v d f (object_of p) j b
  byte_behind j b h =
      pick (nat_lt j (2 ^ 32)) v d (put_from p ids f (pointer_to (object_of p) j)) (f (pointer_to (object_of p) j)) b (λ t. put_behind p ids f (pointer_to (object_of p) j) (omega (arith, pointer_is p, h)))

  byte_in : (i b : ℕ) (z : Id) → i < length ids → byte_of v d (put_from p ids f) (object_of p) (offset_of p + i) b ≡ value v d (get_or ids i z)
  byte_in i b z h =
      let place : pointer_to (object_of p) (offset_of p + i) ≡ p + i = omega (arith, pointer_is p) in
      let q = pointer_to (object_of p) (offset_of p + i) in
      if_true (nat_lt (offset_of p + i) (2 ^ 32)) (value_or v d (put_from p ids f q) b) b (is_less (offset_of p + i) (2 ^ 32) (omega (arith, inside, h)))
      ∙ ap (λ o. value_or v d o b) (ap (put_from p ids f) place ∙ put_in p ids f i z h)

  byte_other : (k j b : ℕ) → (k ≡ object_of p → ⊥) → byte_of v d (put_from p ids f) k j b ≡ byte_of v d f k j b
  byte_other k j b other =
      pick (nat_lt j (2 ^ 32)) v d (put_from p ids f (pointer_to k j)) (f (pointer_to k j)) b (λ t.
      let low = less_is j (2 ^ 32) t in
      elim (cases_lt k (object_of p)) [
        | inl below ↦ put_before p ids f (pointer_to k j) (pointer_below k (object_of p) j (offset_of p) p below low (pointer_is p))
        | inr above ↦ (let more : object_of p < k = higher k (object_of p) above other in put_behind p ids f (pointer_to k j) (pointer_behind k (object_of p) j (offset_of p) (length ids) p more inside (pointer_is p)))
      ])
    where
      higher : (k o : ℕ) → o ≤ k → (k ≡ o → ⊥) → o < k
      higher k o above other = elim (cases_lt o k) [
        | inl more ↦ more
        | inr less ↦ absurd (other (let same : k ≡ o = omega (arith, above, less) in same))
      ]

-- ---- in a graph that has grown

some_stays : (d e : List Node) (o : Option Id) → Extends d e → IfSome o (λ (i : Id). IsWord d i 8) → IfSome o (λ (i : Id). IsWord e i 8)
some_stays d e None x h = tt
some_stays d e (Some i) x h = record { there = omega (arith, x.longer, h.there); width_is = x.width_stays i h.there ∙ h.width_is }

pub are_in_stay : (d e : List Node) (f : Written) → Extends d e → AreIn d f → AreIn e f
are_in_stay d e f x h = λ p. some_stays d e (f p) x (h p)

pub value_or_stays : (v : ℕ → ℕ) (d e : List Node) (o : Option Id) (b : ℕ) → Extends d e → IfSome o (λ (i : Id). IsWord d i 8) → value_or v e o b ≡ value_or v d o b
value_or_stays v d e None b x h = refl
value_or_stays v d e (Some i) b x h = x.value_stays v i h.there

byte_stays : (v : ℕ → ℕ) (d e : List Node) (f : Written) → Extends d e → AreIn d f → (k j b : ℕ) → byte_of v e f k j b ≡ byte_of v d f k j b
byte_stays v d e f x h k j b = ap (λ n. if nat_lt j (2 ^ 32) then n else b) (value_or_stays v d e (f (pointer_to k j)) b x (h (pointer_to k j)))

with_stays : (v : ℕ → ℕ) (d e : List Node) (f : Written) → Extends d e → AreIn d f → (k : ℕ) (o : StoredObject) → with_written v e f k o ≡ with_written v d f k o
with_stays v d e f x h k o = ap (λ (bs : List ℕ). record o { bytes = bs }) (same_by (byte_of v e f k) (byte_of v d f k) 0 o.bytes (λ i b low high. byte_stays v d e f x h k i b))

found_stays : (v : ℕ → ℕ) (d e : List Node) (f : Written) → Extends d e → AreIn d f → (k : ℕ) (o : Option StoredObject) → option_map (with_written v e f k) o ≡ option_map (with_written v d f k) o
found_stays v d e f x h k None = refl
found_stays v d e f x h k (Some o) = ap Some (with_stays v d e f x h k o)

pub stands_stay : (v : ℕ → ℕ) (d e : List Node) (f : Written) (store objects : Objects) → Extends d e → AreIn d f → AreWith v d f store objects → AreWith v e f store objects
stands_stay v d e f store objects x h stands = λ k. stands k ∙ sym (found_stays v d e f x h k (object_at store k))

-- ---- nodes that are put are words

some_by : (e : List Node) (b : Bool) (i : Id) (o : Option Id) → IsWord e i 8 → IfSome o (λ (k : Id). IsWord e k 8) → IfSome (if b then Some i else o) (λ (k : Id). IsWord e k 8)
some_by e true i o word h = word
some_by e false i o word h = h

pub put_words : (e : List Node) (p : ℕ) (ids : List Id) (f : Written) → AreBytes e ids → AreIn e f → AreIn e (put_from p ids f)
put_words e p [] f all h = h
put_words e p (i ∷ ids) f all h =
    put_words e (suc p) ids (λ r. if p == r then Some i else f r) (All-tail (λ (k : Id). IsWord e k 8) i ids all) (λ q. some_by e (p == q) i (f q) (All-head (λ (k : Id). IsWord e k 8) i ids all) (h q))

-- ---- nothing is written

none_by : (v : ℕ → ℕ) (d : List Node) (k j : ℕ) (bs : List ℕ) (f : Written) → ((q : ℕ) → f q ≡ None) → bytes_by (byte_of v d f k) j bs ≡ bs
none_by v d k j [] f none = refl
none_by v d k j (b ∷ bs) f none =
    let here : byte_of v d f k j b ≡ b = ap (λ o. if nat_lt j (2 ^ 32) then value_or v d o b else b) (none (pointer_to k j)) ∙ same (nat_lt j (2 ^ 32)) in
    λ i. here i ∷ none_by v d k (suc j) bs f none i
  where
    same : (t : Bool) → (if t then b else b) ≡ b
    same true = refl
    same false = refl

pub stands_none : (v : ℕ → ℕ) (d : List Node) (f : Written) (store : Objects) → ((q : ℕ) → f q ≡ None) → AreWith v d f store store
stands_none v d f store none = λ k. by k (object_at store k)
  where
    by : (k : ℕ) (o : Option StoredObject) → o ≡ option_map (with_written v d f k) o
    by k None = refl
    by k (Some o) = ap (λ (bs : List ℕ). Some (record o { bytes = bs })) (sym (none_by v d k 0 o.bytes f none))

-- ---- what an access sees

state_by : (v : ℕ → ℕ) (d : List Node) (f : Written) (k : ℕ) (o : Option StoredObject) → state_of (option_map (with_written v d f k) o) ≡ state_of o
state_by v d f k None = refl
state_by v d f k (Some o) = refl

pub break_same : (v : ℕ → ℕ) (d : List Node) (f : Written) (store objects : Objects) → AreWith v d f store objects → (writes : Bool) (p n : ℕ) → break_in objects writes p n ≡ break_in store writes p n
break_same v d f store objects stands writes p n =
    ap (access_break writes p n) (ap state_of (stands (object_of p)) ∙ state_by v d f (object_of p) (object_at store (object_of p)))

bytes_found : (v : ℕ → ℕ) (d : List Node) (f : Written) (k at n : ℕ) (o : Option StoredObject) → bytes_in at n (option_map (with_written v d f k) o) ≡ bytes_by (byte_of v d f k) at (bytes_in at n o)
bytes_found v d f k at n None = refl
bytes_found v d f k at n (Some o) = ap (take n) (drop_by (byte_of v d f k) 0 at o.bytes) ∙ take_by (byte_of v d f k) (0 + at) n (drop at o.bytes) ∙ ap (λ j. bytes_by (byte_of v d f k) j (take n (drop at o.bytes))) plain
  where
    plain : 0 + at ≡ at
    plain = omega arith

pub bytes_seen : (v : ℕ → ℕ) (d : List Node) (f : Written) (store objects : Objects) → AreWith v d f store objects → (p n : ℕ) → bytes_at objects p n ≡ bytes_by (byte_of v d f (object_of p)) (offset_of p) (bytes_at store p n)
bytes_seen v d f store objects stands p n = ap (bytes_in (offset_of p) n) (stands (object_of p)) ∙ bytes_found v d f (object_of p) (offset_of p) n (object_at store (object_of p))

-- ---- a write

itself : (k : ℕ) → is_at (nat_cmp k) k ≡ true
itself k = unsigned_tied k k ∙ is_equal k k refl

found_set : (k : ℕ) (objects : Objects) (o old : StoredObject) → object_at objects k ≡ Some old → object_at (with_object objects k o) k ≡ Some o
found_set k [] o old h = absurd (let none : None ≡ Some old = h in cc)
found_set k (e ∷ objects) o old h = by (is_at (nat_cmp k) e.0) refl h (found_set k objects o old)
  where
    by : (b : Bool) → is_at (nat_cmp k) e.0 ≡ b → cond b (Some e.1) (object_at objects k) ≡ Some old → (object_at objects k ≡ Some old → object_at (with_object objects k o) k ≡ Some o)
        → lookup (is_at (nat_cmp k)) (cond b ((e.0, o) ∷ objects) (e ∷ with_object objects k o)) ≡ Some o
    by true at found later = ap (λ b. cond b (Some o) (object_at objects k)) at
    by false at found later = ap (λ b. cond b (Some e.1) (object_at (with_object objects k o) k)) at ∙ later found

module _ (v : ℕ → ℕ) (d e : List Node) (f : Written) (store objects : Objects) (p : ℕ) (ids : List Id) (x : Extends d e) (within : AreIn d f) (inside : offset_of p + length ids ≤ 2 ^ 32) (stands : AreWith v d f store objects) where
  abbrev at : ℕ
  at = offset_of p

  abbrev own : ℕ
  own = object_of p

  abbrev after : Written
  after = put_from p ids f

  abbrev xs : List ℕ
  xs = map (value v e) ids

  others : (k : ℕ) → (k ≡ own → ⊥) → (o : Option StoredObject) → option_map (with_written v e after k) o ≡ option_map (with_written v d f k) o
  others k other None = refl
  others k other (Some o) = ap (λ (bs : List ℕ). Some (record o { bytes = bs }))
      (same_by (byte_of v e after k) (byte_of v d f k) 0 o.bytes (λ i b low high. byte_other v e f p ids inside k i b other ∙ byte_stays v d e f x within k i b))

  here : (o : StoredObject) → length (take (length ids) (drop at o.bytes)) ≡ length ids → with_written v e after own o ≡ with_bytes_at at xs (with_written v d f own o)
  here o size =
      let n : length xs ≡ length ids = length-map ids (value v e) in
      let z : Id = record { index = 0 } in
      ap (λ (bs : List ℕ). record o { bytes = bs })
      (put_by (byte_of v d f own) (byte_of v e after own) at xs o.bytes (ap (λ k. length (take k (drop at o.bytes))) n ∙ size ∙ sym n)
      (λ i b lt. byte_before v e f p ids inside i b lt ∙ byte_stays v d e f x within own i b)
      (λ i b le. byte_behind v e f p ids inside i b (omega (arith, le, n)) ∙ byte_stays v d e f x within own i b)
      (λ i b lt. byte_in v e f p ids inside i b z (omega (arith, lt, n)) ∙ sym (get_or-map (value v e) ids i z 0 (omega (arith, lt, n)))))

  own_or : (k : ℕ) → (b : Bool) → (k == own) ≡ b → (k ≡ own) ⊎ (k ≡ own → ⊥)
  own_or k true h = inl (equal_is k own h)
    where
      equal_is : (m n : ℕ) → (m == n) ≡ true → m ≡ n
      equal_is m n h = grind (arith, nat_tests)
  own_or k false h = inr (λ same. not_both (k == own) (is_equal k own same) h)
    where
      not_both : (b : Bool) → b ≡ true → b ≡ false → ⊥
      not_both true h g = cc
      not_both false h g = cc

  put_found : (found : Option StoredObject) → object_at store own ≡ found → length (bytes_in at (length ids) found) ≡ length ids → (k : ℕ) → object_at (changed_to objects own (with_bytes_at at xs) (option_map (with_written v d f own) found)) k ≡ option_map (with_written v e after k) (object_at store k)
  put_found None is size k =
      elim (own_or k (k == own) refl) [
        | inl same ↦ (let none : object_at store k ≡ None = ap (object_at store) same ∙ is in stands k ∙ ap (option_map (with_written v d f k)) none ∙ sym (ap (option_map (with_written v e after k)) none))
        | inr other ↦ stands k ∙ sym (others k other (object_at store k))
      ]
  put_found (Some o) is size k =
      let old = with_written v d f own o in
      let new = with_bytes_at at xs old in
      elim (own_or k (k == own) refl) [
        | inl same ↦ ap (object_at (with_object objects own new)) same ∙ found_set own objects new old (stands own ∙ ap (option_map (with_written v d f own)) is) ∙ ap Some (sym (here o size))
            ∙ ap (option_map (with_written v e after own)) (sym is) ∙ ap (λ j. option_map (with_written v e after j) (object_at store j)) (sym same)
        | inr other ↦ lookup-set_apart k own other objects new ∙ stands k ∙ sym (others k other (object_at store k))
      ]

  pub stands_put : length (bytes_at store p (length ids)) ≡ length ids → AreWith v e after store (with_bytes objects p xs)
  stands_put size = λ k. ap (λ o. object_at (changed_to objects own (with_bytes_at at xs) o) k) (stands own) ∙ put_found (object_at store own) refl size k

-- the bytes that are there, put where they are
pub put_unchanged : (objects : Objects) (p n : ℕ) → length (bytes_at objects p n) ≡ n → with_bytes objects p (bytes_at objects p n) ≡ objects
put_unchanged objects p n size = by (object_at objects (object_of p)) refl size
  where
    by : (o : Option StoredObject) → object_at objects (object_of p) ≡ o → length (bytes_in (offset_of p) n o) ≡ n → changed_to objects (object_of p) (with_bytes_at (offset_of p) (bytes_in (offset_of p) n o)) o ≡ objects
    by None is size = refl
    by (Some o) is size =
        ap (λ (bs : List ℕ). with_object objects (object_of p) (record o { bytes = bs })) (put_itself (offset_of p) n o.bytes size) ∙ set_value_same (is_at (nat_cmp (object_of p))) objects o is

-- where the guard is true the new bytes are there, else those that were
pub stands_by : (v : ℕ → ℕ) (e : List Node) (f : Written) (store objects : Objects) (p n : ℕ) (g : Bool) (written new old : List ℕ) → written ≡ (if g then new else old) → length written ≡ n → old ≡ bytes_at objects p n
    → AreWith v e f store (with_bytes objects p written) → AreWith v e f store (if g then with_bytes objects p new else objects)
stands_by v e f store objects p n true written new old is size same stands = subst (λ (ys : List ℕ). AreWith v e f store (with_bytes objects p ys)) is stands
stands_by v e f store objects p n false written new old is size same stands =
    let all : written ≡ bytes_at objects p n = is ∙ same in
    subst (AreWith v e f store) (ap (with_bytes objects p) all ∙ put_unchanged objects p n (ap length (sym all) ∙ size)) stands
