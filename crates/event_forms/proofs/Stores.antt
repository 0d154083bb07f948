-- What an access that breaks no check gives of a store, and what it leaves; stores of which each number is at most the count of their objects.
use Rattle.std.proofs.Common.{◌≡◌, ◌≤◌, ◌<◌, ◌+◌, ℕ, suc, Bool, true, false, cond, List, [], ◌∷◌, ◌++◌, length, take, drop, Option, Some, None, refl, sym, ap, ◌∙◌, subst, arith, true≢false, length-append, eqb}
use Rattle.std.specs.Prelude.{IfSome, not, nat_lt, ◌==◌, ◌&&◌, if◌then◌else◌}
use Rattle.std.specs.Ordering.{nat_cmp, is_eq}
use Rattle.std.specs.declared.cmp.Ordering.TheVariants.{Greater}
use Rattle.std.specs.BTreeMap.{is_at}
use Rattle.std.proofs.lemmas.List.{length-take-le, length-drop}
use Rattle.std.proofs.lemmas.List.Elements.{All-head, All-tail, All-cons, All-push}
use Rattle.std.proofs.lemmas.Map.{length-set_value}
use Rattle.std.proofs.lemmas.Bool.Decides.{nat_tests}
use Rattle.words.specs.declared.check.Class.{Class}
use Rattle.words.specs.declared.check.Class.TheVariants.{Null, InvalidPointer, Lifetime, Bounds}
use Rattle.actions.specs.ByteList.{are_bytes, put_at}
use Rattle.actions.proofs.ByteLists.{are_bytes-take, are_bytes-drop, are_bytes-part}
use Rattle.actions.specs.Pointer.{object_of, offset_of}
use Rattle.actions.specs.StoredObject.{StoredObject, as_live, as_dead}
use Rattle.actions.specs.States.{dead, live, state_of}
use Rattle.actions.specs.Access.{break_at}
use Rattle.actions.specs.Objects.{Objects, object_at, state_at, with_new, with_object, changed_to, changed_at, with_bytes, with_bytes_at, bytes_in, bytes_at, break_in, write_break, unless_changed, after_write}
use Rattle.actions.specs.declared.action.Action.TheVariants as actions
use Rattle.actions.specs.declared.action.Answer.TheVariants as answers
use Rattle.actions.specs.Behaviour.{has_shape, shape_of}
use Rattle.event_forms.specs.Accesses.{HoldsBytes, AreObjects, AreNumbered, AreFirst, same_bytes}

-- ---- tests

pub left_true : (a b : Bool) → (a && b) ≡ true → a ≡ true
left_true true b h = refl
left_true false b h = h

pub right_true : (a b : Bool) → (a && b) ≡ true → b ≡ true
right_true true b h = h
right_true false b h = absurd (true≢false (sym h))

number_itself : (n : ℕ) → (n == n) ≡ true
number_itself n = grind (arith, nat_tests)

number_same : (m n : ℕ) → (m == n) ≡ true → m ≡ n
number_same m n h = grind (arith, nat_tests)

number_is : (m n : ℕ) → m ≡ n → (m == n) ≡ true
number_is m n h = grind (arith, nat_tests)

at_most : (a b : ℕ) → nat_lt a b ≡ false → b ≤ a
at_most a b h = grind (arith, nat_tests)

pub same_itself : (bs : List ℕ) → same_bytes bs bs ≡ true
same_itself [] = refl
same_itself (b ∷ bs) = λ i. number_itself b i && same_itself bs i

pub bytes_same : (bs cs : List ℕ) → same_bytes bs cs ≡ true → bs ≡ cs
bytes_same [] [] h = refl
bytes_same [] (c ∷ cs) h = absurd (true≢false (sym h))
bytes_same (b ∷ bs) [] h = absurd (true≢false (sym h))
bytes_same (b ∷ bs) (c ∷ cs) h = λ i. number_same b c (left_true (b == c) (same_bytes bs cs) h) i ∷ bytes_same bs cs (right_true (b == c) (same_bytes bs cs) h) i

-- ---- objects of a store

found_by : (b : Bool) (o : StoredObject) (found : Option StoredObject) → HoldsBytes o → IfSome found HoldsBytes → IfSome (cond b (Some o) found) HoldsBytes
found_by true o found here later = here
found_by false o found here later = later

pub holds_at : (objects : Objects) (k : ℕ) → AreObjects objects → IfSome (object_at objects k) HoldsBytes
holds_at [] k all = tt
holds_at (e ∷ objects) k all =
    found_by (is_at (nat_cmp k) e.0) e.1 (object_at objects k) (All-head (λ (x : ℕ × StoredObject). HoldsBytes x.1) e objects all) (holds_at objects k (All-tail (λ (x : ℕ × StoredObject). HoldsBytes x.1) e objects all))

set_by : (b : Bool) (e : ℕ × StoredObject) (objects rest : Objects) (o : StoredObject) → HoldsBytes o → AreObjects (e ∷ objects) → AreObjects rest → AreObjects (cond b ((e.0, o) ∷ objects) (e ∷ rest))
set_by true e objects rest o holds all others = All-cons (λ (x : ℕ × StoredObject). HoldsBytes x.1) (e.0, o) objects holds (All-tail (λ (x : ℕ × StoredObject). HoldsBytes x.1) e objects all)
set_by false e objects rest o holds all others = All-cons (λ (x : ℕ × StoredObject). HoldsBytes x.1) e rest (All-head (λ (x : ℕ × StoredObject). HoldsBytes x.1) e objects all) others

set_holds : (objects : Objects) (k : ℕ) (o : StoredObject) → HoldsBytes o → AreObjects objects → AreObjects (with_object objects k o)
set_holds [] k o holds all = all
set_holds (e ∷ objects) k o holds all =
    set_by (is_at (nat_cmp k) e.0) e objects (with_object objects k o) o holds all (set_holds objects k o holds (All-tail (λ (x : ℕ × StoredObject). HoldsBytes x.1) e objects all))

-- ---- an access that breaks nothing lies in an object

pub record There (objects : Objects) (p n : ℕ) : Type 0 where
  pub object : StoredObject
  pub is : object_at objects (object_of p) ≡ Some object
  pub room : offset_of p + n ≤ object.size

by_bounds : (b : Bool) (size end : ℕ) (later : Option Class) → nat_lt size end ≡ b → (if b then Some Bounds else later) ≡ None → end ≤ size
by_bounds true size end later test h = absurd (let same : Some Bounds ≡ None = h in cc)
by_bounds false size end later test h = at_most size end test

by_life : (writes : Bool) (at n : ℕ) (o : StoredObject) (b : Bool) → break_at writes at n (if b then live o.size o.cells o.readonly o.heap else dead) ≡ None → at + n ≤ o.size
by_life writes at n o true h = by_bounds (nat_lt o.size (at + n)) o.size (at + n) _ refl h
by_life writes at n o false h = absurd (let same : Some Lifetime ≡ None = h in cc)

by_object : (objects : Objects) (writes : Bool) (p n : ℕ) (found : Option StoredObject) → object_at objects (object_of p) ≡ found → break_at writes (offset_of p) n (state_of found) ≡ None → There objects p n
by_object objects writes p n None is h = absurd (let same : Some InvalidPointer ≡ None = h in cc)
by_object objects writes p n (Some o) is h = record { object = o; is = is; room = by_life writes (offset_of p) n o o.live h }

by_null : (objects : Objects) (writes : Bool) (p n : ℕ) (b : Bool) → (if b then Some Null else break_at writes (offset_of p) n (state_at objects (object_of p))) ≡ None → There objects p n
by_null objects writes p n true h = absurd (let same : Some Null ≡ None = h in cc)
by_null objects writes p n false h = by_object objects writes p n (object_at objects (object_of p)) refl h

pub there : (objects : Objects) (writes : Bool) (p n : ℕ) → break_in objects writes p n ≡ None → There objects p n
there objects writes p n h = by_null objects writes p n (object_of p == 0) h

holds_there : (objects : Objects) (p n : ℕ) (t : There objects p n) → AreObjects objects → HoldsBytes t.object
holds_there objects p n t all = subst (λ (o : Option StoredObject). IfSome o HoldsBytes) t.is (holds_at objects (object_of p) all)

-- a read gives as many bytes as it asks for
pub bytes_fit : (objects : Objects) (p n : ℕ) → AreObjects objects → break_in objects false p n ≡ None → has_shape (shape_of (actions.Read p n)) (answers.Bytes (bytes_at objects p n)) ≡ true
bytes_fit objects p n all fine =
    let t = there objects false p n fine in
    let holds = holds_there objects p n t all in
    let given = take n (drop (offset_of p) t.object.bytes) in
    let same : bytes_at objects p n ≡ given = λ i. bytes_in (offset_of p) n (t.is i) in
    let long : length given ≡ n = length-take-le n (drop (offset_of p) t.object.bytes) (omega (arith, t.room, holds.whole, length-drop (offset_of p) t.object.bytes)) in
    (λ i. has_shape (shape_of (actions.Read p n)) (answers.Bytes (same i)))
    ∙ (λ i. number_is (length given) n long i && are_bytes-part (offset_of p) n t.object.bytes holds.bytes i)

-- ---- a write leaves objects

put_long : (at : ℕ) (new old : List ℕ) → at + length new ≤ length old → length (put_at at new old) ≡ length old
put_long at new old fits =
    let front = length-take-le at old (omega (arith, fits)) in
    omega (arith, fits, front, length-append new (drop (at + length new) old), length-append (take at old) (new ++ drop (at + length new) old), length-drop (at + length new) old)

bytes_append : (xs ys : List ℕ) → are_bytes xs ≡ true → are_bytes ys ≡ true → are_bytes (xs ++ ys) ≡ true
bytes_append [] ys first second = second
bytes_append (x ∷ xs) ys first second =
    λ i. left_true (nat_lt x 256) (are_bytes xs) first i && bytes_append xs ys (right_true (nat_lt x 256) (are_bytes xs) first) second i

put_holds : (o : StoredObject) (at : ℕ) (new : List ℕ) → at + length new ≤ o.size → are_bytes new ≡ true → HoldsBytes o → HoldsBytes (with_bytes_at at new o)
put_holds o at new room bytes holds = record {
  small = holds.small;
  whole = put_long at new o.bytes (omega (arith, room, holds.whole)) ∙ holds.whole;
  bytes = bytes_append (take at o.bytes) (new ++ drop (at + length new) o.bytes) (are_bytes-take at o.bytes holds.bytes) (bytes_append new (drop (at + length new) o.bytes) bytes (are_bytes-drop (at + length new) o.bytes holds.bytes));
}

by_break : (objects : Objects) (p : ℕ) (new : List ℕ) (first : Bool) (c : Option Class) → write_break objects p new first ≡ c → AreObjects objects → are_bytes new ≡ true → AreObjects (unless_changed c objects (with_bytes objects p new))
by_break objects p new first (Some class) is all bytes = all
by_break objects p new first None is all bytes =
    let t = there objects (not first) p (length new) is in
    let same : with_bytes objects p new ≡ with_object objects (object_of p) (with_bytes_at (offset_of p) new t.object) = λ i. changed_to objects (object_of p) (with_bytes_at (offset_of p) new) (t.is i) in
    subst AreObjects (sym same) (set_holds objects (object_of p) (with_bytes_at (offset_of p) new t.object) (put_holds t.object (offset_of p) new t.room bytes (holds_there objects p (length new) t all)) all)

pub write_leaves : (objects : Objects) (p : ℕ) (new : List ℕ) (first : Bool) → AreObjects objects → are_bytes new ≡ true → AreObjects (after_write objects p new first)
write_leaves objects p new first all bytes = by_break objects p new first (write_break objects p new first) refl all bytes

-- ---- an object is changed

pub dead_holds : (o : StoredObject) → HoldsBytes o → HoldsBytes (as_dead o)
dead_holds o holds = record { whole = holds.whole; small = holds.small; bytes = holds.bytes }

pub live_holds : (o : StoredObject) → HoldsBytes o → HoldsBytes (as_live o)
live_holds o holds = record { whole = holds.whole; small = holds.small; bytes = holds.bytes }

changed_holds : (objects : Objects) (k : ℕ) (f : StoredObject → StoredObject) (found : Option StoredObject) → object_at objects k ≡ found → ((o : StoredObject) → HoldsBytes o → HoldsBytes (f o)) → AreObjects objects → AreObjects (changed_to objects k f found)
changed_holds objects k f None is keeps all = all
changed_holds objects k f (Some o) is keeps all = set_holds objects k (f o) (keeps o (subst (λ (x : Option StoredObject). IfSome x HoldsBytes) is (holds_at objects k all))) all

changed_long : (objects : Objects) (k : ℕ) (f : StoredObject → StoredObject) (found : Option StoredObject) → length (changed_to objects k f found) ≡ length objects
changed_long objects k f None = refl
changed_long objects k f (Some o) = length-set_value (is_at (nat_cmp k)) objects (f o)

-- ---- no number is above n

abbrev pub Below : ℕ → Objects → Type 0
Below n [] = Unit {0}
Below n (e ∷ objects) = (e.0 ≤ n) × Below n objects

below_higher : (m n : ℕ) (objects : Objects) → m ≤ n → Below m objects → Below n objects
below_higher m n [] le h = tt
below_higher m n (e ∷ objects) le h = (let first = h.0 in omega (arith, le, first), below_higher m n objects le h.1)

below_set_by : (b : Bool) (n : ℕ) (e : ℕ × StoredObject) (objects rest : Objects) (o : StoredObject) → Below n (e ∷ objects) → Below n rest → Below n (cond b ((e.0, o) ∷ objects) (e ∷ rest))
below_set_by true n e objects rest o h later = h
below_set_by false n e objects rest o h later = (h.0, later)

below_set : (n k : ℕ) (objects : Objects) (o : StoredObject) → Below n objects → Below n (with_object objects k o)
below_set n k [] o h = tt
below_set n k (e ∷ objects) o h = below_set_by (is_at (nat_cmp k) e.0) n e objects (with_object objects k o) o h (below_set n k objects o h.1)

below_changed : (n k : ℕ) (objects : Objects) (f : StoredObject → StoredObject) (found : Option StoredObject) → Below n objects → Below n (changed_to objects k f found)
below_changed n k objects f None h = h
below_changed n k objects f (Some o) h = below_set n k objects (f o) h

above_is : (m n : ℕ) → n < m → nat_cmp m n ≡ Greater
above_is m n lt =
    let no : nat_lt m n ≡ false = grind (arith, nat_tests) in
    let other : eqb m n ≡ false = grind (arith, nat_tests) in
    rw (no, other) refl

-- a new number stands at the end
new_last : (n number : ℕ) (objects : Objects) (o : StoredObject) → Below n objects → n < number → with_new objects number o ≡ objects ++ (number, o) ∷ []
new_last n number [] o h lt = refl
new_last n number (e ∷ objects) o h lt =
    let first = h.0 in
    let less : e.0 < number = omega (arith, first, lt) in
    rw (above_is number e.0 less) (ap (λ (es : Objects). e ∷ es) (new_last n number objects o h.1 lt))

not_at : (m n : ℕ) → n < m → is_at (nat_cmp m) n ≡ false
not_at m n lt = ap is_eq (above_is m n lt)

-- and is that of no object before
pub new_absent : (n number : ℕ) (objects : Objects) → Below n objects → n < number → object_at objects number ≡ None
new_absent n number [] h lt = refl
new_absent n number (e ∷ objects) h lt =
    let first = h.0 in
    let less : e.0 < number = omega (arith, first, lt) in
    ap (λ b. cond b (Some e.1) (object_at objects number)) (not_at number e.0 less) ∙ new_absent n number objects h.1 lt

below_last : (n number : ℕ) (objects : Objects) (o : StoredObject) → Below n objects → number ≤ n → Below n (objects ++ (number, o) ∷ [])
below_last n number [] o h le = (le, tt)
below_last n number (e ∷ objects) o h le = (h.0, below_last n number objects o h.1 le)

-- ---- a store of which each number is at most the count of its objects

pub record IsStore (objects : Objects) : Type 0 where
  pub hold : AreObjects objects
  pub below : Below (length objects) objects

numbered_below : (k n : ℕ) (objects : Objects) → AreNumbered k objects → k + length objects ≤ suc n → Below n objects
numbered_below k n [] h le = tt
numbered_below k n (e ∷ objects) h le = (let first = h.0 in omega (arith, first, le), numbered_below (suc k) n objects h.1 (omega (arith, le)))

pub first_is_store : (objects : Objects) → AreFirst objects → IsStore objects
first_is_store objects first = record { hold = first.hold; below = numbered_below 1 (length objects) objects first.numbers (omega arith) }

pub changed_store : (objects : Objects) (k : ℕ) (f : StoredObject → StoredObject) → ((o : StoredObject) → HoldsBytes o → HoldsBytes (f o)) → IsStore objects → IsStore (changed_at objects k f)
changed_store objects k f keeps store =
    let found = object_at objects k in
    record {
      hold = changed_holds objects k f found refl keeps store.hold;
      below = subst (λ n. Below n (changed_to objects k f found)) (sym (changed_long objects k f found)) (below_changed (length objects) k objects f found store.below);
    }

pub changed_at_long : (objects : Objects) (k : ℕ) (f : StoredObject → StoredObject) → length (changed_at objects k f) ≡ length objects
changed_at_long objects k f = changed_long objects k f (object_at objects k)

module _ (objects : Objects) (o : StoredObject) (store : IsStore objects) where
  abbrev next : ℕ
  next = suc (length objects)

  added : with_new objects next o ≡ objects ++ (next, o) ∷ []
  added = new_last (length objects) next objects o store.below (omega arith)

  pub new_long : length (with_new objects next o) ≡ next
  new_long = ap length added ∙ length-append objects ((next, o) ∷ []) ∙ one_more (length objects)
    where
      one_more : (n : ℕ) → n + 1 ≡ suc n
      one_more n = omega arith

  pub new_store : HoldsBytes o → IsStore (with_new objects next o)
  new_store holds = record {
    hold = subst AreObjects (sym added) (All-push (λ (x : ℕ × StoredObject). HoldsBytes x.1) objects (next, o) store.hold holds);
    below = subst (λ n. Below n (with_new objects next o)) (sym new_long)
        (subst (Below next) (sym added) (below_last next next objects o (below_higher (length objects) next objects (omega arith) store.below) (omega arith)));
  }

  pub next_absent : object_at objects next ≡ None
  next_absent = new_absent (length objects) next objects store.below (omega arith)

-- a write, whatever it breaks
pub write_store : (objects : Objects) (p : ℕ) (new : List ℕ) (first : Bool) → are_bytes new ≡ true → IsStore objects → IsStore (after_write objects p new first)
write_store objects p new first bytes store = record { hold = write_leaves objects p new first store.hold bytes; below = by (write_break objects p new first) }
  where
    by : (c : Option Class) → Below (length (unless_changed c objects (with_bytes objects p new))) (unless_changed c objects (with_bytes objects p new))
    by None =
        let f = with_bytes_at (offset_of p) new in
        let found = object_at objects (object_of p) in
        subst (λ n. Below n (with_bytes objects p new)) (sym (changed_long objects (object_of p) f found)) (below_changed (length objects) (object_of p) objects f found store.below)
    by (Some class) = store.below

pub write_long : (objects : Objects) (p : ℕ) (new : List ℕ) (first : Bool) → length (after_write objects p new first) ≡ length objects
write_long objects p new first = by (write_break objects p new first)
  where
    by : (c : Option Class) → length (unless_changed c objects (with_bytes objects p new)) ≡ length objects
    by None = changed_at_long objects (object_of p) (with_bytes_at (offset_of p) new)
    by (Some class) = refl
