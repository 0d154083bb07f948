-- What places hold: the one that is born under a number, and what is left of the store when its object changes.
use Rattle.std.proofs.Common.{◌≡◌, ◌<◌, ◌≤◌, ◌+◌, ℕ, zero, suc, Bool, true, false, cond, [], ◌∷◌, ◌++◌, length, map, get_or, Option, Some, None, refl, sym, ap, subst, ◌∙◌, arith, true≢false}
use Rattle.std.specs.Prelude.{◌==◌, if◌then◌else◌}
use Rattle.std.proofs.lemmas.Bool.Decides.{nat_tests}
use Rattle.std.specs.declared.cmp.Ordering.{Ordering}
use Rattle.std.specs.declared.cmp.Ordering.TheVariants.{Less, Equal, Greater}
use Rattle.std.specs.Ordering.{nat_cmp, is_eq, match_ordering}
use Rattle.std.specs.Cmp.{unsigned_tied}
use Rattle.std.specs.Map.{lookup}
use Rattle.std.specs.BTreeMap.{is_at, insert_entry}
use Rattle.actions.proofs.Changes.{lookup-set_apart, lookup-insert_apart}
use Rattle.actions.specs.StoredObject.{StoredObject}
use Rattle.actions.specs.Objects.{Objects, object_at, with_new, with_object, changed_to, changed_at}
use Rattle.object_memory.specs.Spots.{Spot, Spots, held, Rising, AreObjectsOf, AreNumbered, change_at}

pub equal_is : (m n : ℕ) → (m == n) ≡ true → m ≡ n
equal_is m n h = grind (arith, nat_tests)

pub is_equal : (m n : ℕ) → m ≡ n → (m == n) ≡ true
is_equal m n h = grind (arith, nat_tests)

pub not_equal : (m n : ℕ) → (m ≡ n → ⊥) → (m == n) ≡ false
not_equal m n h = grind (arith, nat_tests)

pub if_equal : {X : Type 0} (m n : ℕ) (x y : X) → m ≡ n → (if m == n then x else y) ≡ x
if_equal m n x y h = ap (λ b. if b then x else y) (is_equal m n h)

pub if_apart : {X : Type 0} (m n : ℕ) (x y : X) → (m ≡ n → ⊥) → (if m == n then x else y) ≡ y
if_apart m n x y h = ap (λ b. if b then x else y) (not_equal m n h)

same_spot : (s t : Spot) → Some s ≡ Some t → s ≡ t
same_spot s t h = cc

no_spot : {X : Type 0} (s : Spot) → None ≡ Some s → X
no_spot s h = absurd (cc)

-- ---- numbers that rise

to_top : (low top : ℕ) (spots : Spots) → Rising low spots top → low ≤ top
to_top low top [] h = h
to_top low top (None ∷ spots) h = to_top low top spots h
to_top low top (Some s ∷ spots) h = omega (arith, h.0, to_top s.number top spots h.1)

above : (low top : ℕ) (spots : Spots) (i : ℕ) (s : Spot) → Rising low spots top → get_or spots i None ≡ Some s → low < s.number
above low top [] i s h at = no_spot s at
above low top (None ∷ spots) zero s h at = no_spot s at
above low top (None ∷ spots) (suc i) s h at = above low top spots i s h at
above low top (Some t ∷ spots) zero s h at = subst (λ (x : Spot). low < x.number) (same_spot t s at) h.0
above low top (Some t ∷ spots) (suc i) s h at = omega (arith, h.0, above t.number top spots i s h.1 at)

pub none_below : (low top : ℕ) (spots : Spots) (k : ℕ) → Rising low spots top → k ≤ low → held spots k ≡ None
none_below low top [] k h le = refl
none_below low top (None ∷ spots) k h le = none_below low top spots k h le
none_below low top (Some s ∷ spots) k h le =
    let less : k < s.number = omega (arith, h.0, le) in
    if_apart k s.number (Some s.object) (held spots k) (λ (e : k ≡ s.number). omega (arith, e, less)) ∙ none_below s.number top spots k h.1 (omega (arith, less))

none_above : (low top : ℕ) (spots : Spots) (k : ℕ) → Rising low spots top → top < k → held spots k ≡ None
none_above low top [] k h more = refl
none_above low top (None ∷ spots) k h more = none_above low top spots k h more
none_above low top (Some s ∷ spots) k h more =
    let under = to_top s.number top spots h.1 in
    if_apart k s.number (Some s.object) (held spots k) (λ (e : k ≡ s.number). omega (arith, e, more, under)) ∙ none_above s.number top spots k h.1 more

-- a place that is born is the one under its number
pub held_at : (low top : ℕ) (spots : Spots) (i : ℕ) (s : Spot) → Rising low spots top → get_or spots i None ≡ Some s → held spots s.number ≡ Some s.object
held_at low top [] i s h at = no_spot s at
held_at low top (None ∷ spots) zero s h at = no_spot s at
held_at low top (None ∷ spots) (suc i) s h at = held_at low top spots i s h at
held_at low top (Some t ∷ spots) zero s h at =
    let same = same_spot t s at in
    if_equal s.number t.number (Some t.object) (held spots s.number) (ap (λ (x : Spot). x.number) (sym same)) ∙ ap (λ (x : Spot). Some x.object) same
held_at low top (Some t ∷ spots) (suc i) s h at =
    let more = above t.number top spots i s h.1 at in
    if_apart s.number t.number (Some t.object) (held spots s.number) (λ (e : s.number ≡ t.number). omega (arith, e, more)) ∙ held_at t.number top spots i s h.1 at

-- ---- a change

once : {X : Type 0} (b : Bool) (x y z : X) → (if b then x else z) ≡ (if b then x else (if b then y else z))
once true x y z = refl
once false x y z = refl

swapped : {X : Type 0} (b c : Bool) (x y z : X) → (b ≡ true → c ≡ true → ⊥) → (if b then x else (if c then y else z)) ≡ (if c then y else (if b then x else z))
swapped true true x y z h = absurd (h refl refl)
swapped true false x y z h = refl
swapped false true x y z h = refl
swapped false false x y z h = refl

held_change : (f : StoredObject → StoredObject) (low top : ℕ) (spots : Spots) (i : ℕ) (s : Spot) → Rising low spots top → get_or spots i None ≡ Some s
    → (k : ℕ) → held (change_at i f spots) k ≡ (if k == s.number then Some (f s.object) else held spots k)
held_change f low top [] i s h at k = no_spot s at
held_change f low top (None ∷ spots) zero s h at k = no_spot s at
held_change f low top (None ∷ spots) (suc i) s h at k = held_change f low top spots i s h at k
held_change f low top (Some t ∷ spots) zero s h at k =
    once (k == t.number) (Some (f t.object)) (Some t.object) (held spots k)
    ∙ ap (λ (x : Spot). if k == x.number then Some (f x.object) else (if k == t.number then Some t.object else held spots k)) (same_spot t s at)
held_change f low top (Some t ∷ spots) (suc i) s h at k =
    let more = above t.number top spots i s h.1 at in
    ap (λ o. if k == t.number then Some t.object else o) (held_change f t.number top spots i s h.1 at k)
    ∙ swapped (k == t.number) (k == s.number) (Some t.object) (Some (f s.object)) (held spots k) (λ b c. apart (equal_is k t.number b) (equal_is k s.number c) more)
  where
    apart : (k ≡ t.number) → (k ≡ s.number) → t.number < s.number → ⊥
    apart a b more = omega (arith, a, b, more)

rising_change : (f : StoredObject → StoredObject) (low top : ℕ) (spots : Spots) (i : ℕ) → Rising low spots top → Rising low (change_at i f spots) top
rising_change f low top [] i h = h
rising_change f low top (None ∷ spots) zero h = h
rising_change f low top (None ∷ spots) (suc i) h = rising_change f low top spots i h
rising_change f low top (Some t ∷ spots) zero h = h
rising_change f low top (Some t ∷ spots) (suc i) h = (h.0, rising_change f t.number top spots i h.1)

itself : (k : ℕ) → is_at (nat_cmp k) k ≡ true
itself k = unsigned_tied k k ∙ is_equal k k refl

found_set : (k : ℕ) (objects : Objects) (o old : StoredObject) → object_at objects k ≡ Some old → object_at (with_object objects k o) k ≡ Some o
found_set k [] o old h = absurd (let none : None ≡ Some old = h in cc)
found_set k (e ∷ objects) o old h = by (is_at (nat_cmp k) e.0) refl h (found_set k objects o old)
  where
    by : (b : Bool) → is_at (nat_cmp k) e.0 ≡ b → cond b (Some e.1) (object_at objects k) ≡ Some old → (object_at objects k ≡ Some old → object_at (with_object objects k o) k ≡ Some o)
        → lookup (is_at (nat_cmp k)) (cond b ((e.0, o) ∷ objects) (e ∷ with_object objects k o)) ≡ Some o
    by true at found later = ap (λ b. cond b (Some o) (object_at objects k)) at
    by false at found later = ap (λ b. cond b (Some e.1) (object_at (with_object objects k o) k)) at ∙ later found

length_by : (b : Bool) (e : ℕ × StoredObject) (objects rest : Objects) (o : StoredObject) → length rest ≡ length objects → length (cond b ((e.0, o) ∷ objects) (e ∷ rest)) ≡ length (e ∷ objects)
length_by true e objects rest o h = refl
length_by false e objects rest o h = ap suc h

length_with : (k : ℕ) (objects : Objects) (o : StoredObject) → length (with_object objects k o) ≡ length objects
length_with k [] o = refl
length_with k (e ∷ objects) o = length_by (is_at (nat_cmp k) e.0) e objects (with_object objects k o) o (length_with k objects o)

pick_number : {X : Type 0} (k n : ℕ) (x y w : X) (z : ℕ → X) → (k ≡ n → x ≡ y) → ((k ≡ n → ⊥) → x ≡ w) → x ≡ (if k == n then y else w)
pick_number k n x y w z here there = by (k == n) refl
  where
    by : (b : Bool) → (k == n) ≡ b → x ≡ (if b then y else w)
    by true h = here (equal_is k n h)
    by false h = there (λ (e : k ≡ n). absurd (true≢false (sym (is_equal k n e) ∙ h)))

pub length_changed : (objects : Objects) (n : ℕ) (f : StoredObject → StoredObject) → length (changed_at objects n f) ≡ length objects
length_changed objects n f = by (object_at objects n)
  where
    by : (o : Option StoredObject) → length (changed_to objects n f o) ≡ length objects
    by None = refl
    by (Some o) = length_with n objects (f o)

-- the object of a place is changed
pub changed_objects : (f : StoredObject → StoredObject) (spots : Spots) (objects : Objects) (i : ℕ) (s : Spot) → AreObjectsOf spots objects → get_or spots i None ≡ Some s
    → AreObjectsOf (change_at i f spots) (changed_at objects s.number f)
changed_objects f spots objects i s are at =
    let n = s.number in
    let found : object_at objects n ≡ Some s.object = are.objects_are n ∙ held_at 0 (length objects) spots i s are.rises at in
    let is : changed_at objects n f ≡ with_object objects n (f s.object) = ap (changed_to objects n f) found in
    subst (AreObjectsOf (change_at i f spots)) (sym is) (record {
      objects_are = λ k.
          pick_number k n (object_at (with_object objects n (f s.object)) k) (Some (f s.object)) (held spots k) (λ m. None)
          (λ e. ap (object_at (with_object objects n (f s.object))) e ∙ found_set n objects (f s.object) s.object found)
          (λ apart. lookup-set_apart k n apart objects (f s.object) ∙ are.objects_are k)
          ∙ sym (held_change f 0 (length objects) spots i s are.rises at k);
      rises = subst (Rising 0 (change_at i f spots)) (sym (length_with n objects (f s.object))) (rising_change f 0 (length objects) spots i are.rises);
    })

-- no place has the number
pub unchanged_objects : (f : StoredObject → StoredObject) (spots : Spots) (objects : Objects) (n : ℕ) → AreObjectsOf spots objects → held spots n ≡ None → AreObjectsOf spots (changed_at objects n f)
unchanged_objects f spots objects n are none = subst (AreObjectsOf spots) (sym (ap (changed_to objects n f) (are.objects_are n ∙ none))) are

-- ---- a new place

held_push : (spots : Spots) (x : Option Spot) (k : ℕ) → held spots k ≡ None → held (spots ++ x ∷ []) k ≡ held (x ∷ []) k
held_push [] x k none = refl
held_push (None ∷ spots) x k none = held_push spots x k none
held_push (Some s ∷ spots) x k none = by (k == s.number) none (held_push spots x k)
  where
    by : (b : Bool) → (if b then Some s.object else held spots k) ≡ None → (held spots k ≡ None → held (spots ++ x ∷ []) k ≡ held (x ∷ []) k)
        → (if b then Some s.object else held (spots ++ x ∷ []) k) ≡ held (x ∷ []) k
    by true h later = absurd (let wrong : Some s.object ≡ None = h in cc)
    by false h later = later h

held_front : (spots : Spots) (x : Option Spot) (k : ℕ) → held (x ∷ []) k ≡ None → held (spots ++ x ∷ []) k ≡ held spots k
held_front [] x k none = none
held_front (None ∷ spots) x k none = held_front spots x k none
held_front (Some s ∷ spots) x k none = ap (λ o. if k == s.number then Some s.object else o) (held_front spots x k none)

rising_none : (low top : ℕ) (spots : Spots) → Rising low spots top → Rising low (spots ++ None ∷ []) top
rising_none low top [] h = h
rising_none low top (None ∷ spots) h = rising_none low top spots h
rising_none low top (Some s ∷ spots) h = (h.0, rising_none s.number top spots h.1)

rising_some : (low top : ℕ) (spots : Spots) (o : StoredObject) → Rising low spots top → Rising low (spots ++ Some (record { number = suc top; object = o }) ∷ []) (suc top)
rising_some low top [] o h = (let more : low < suc top = omega (arith, h) in more, let same : suc top ≤ suc top = omega arith in same)
rising_some low top (None ∷ spots) o h = rising_some low top spots o h
rising_some low top (Some s ∷ spots) o h = (h.0, rising_some s.number top spots o h.1)

pub unborn_objects : (spots : Spots) (objects : Objects) → AreObjectsOf spots objects → AreObjectsOf (spots ++ None ∷ []) objects
unborn_objects spots objects are = record {
  objects_are = λ k. are.objects_are k ∙ sym (held_front spots None k refl);
  rises = rising_none 0 (length objects) spots are.rises;
}

length_new : (k : ℕ) (objects : Objects) (o : StoredObject) → object_at objects k ≡ None → length (insert_entry nat_cmp objects k o) ≡ suc (length objects)
length_new k [] o none = refl
length_new k (e ∷ objects) o none = by (nat_cmp k e.0) none (length_new k objects o)
  where
    by : (r : Ordering) → cond (is_eq r) (Some e.1) (object_at objects k) ≡ None → (object_at objects k ≡ None → length (insert_entry nat_cmp objects k o) ≡ suc (length objects))
        → length (match_ordering r ((k, o) ∷ e ∷ objects) ((e.0, o) ∷ objects) (e ∷ insert_entry nat_cmp objects k o)) ≡ suc (length (e ∷ objects))
    by Less h later = refl
    by Equal h later = absurd (let wrong : Some e.1 ≡ None = h in cc)
    by Greater h later = ap suc (later h)

found_new : (k : ℕ) (objects : Objects) (o : StoredObject) → object_at objects k ≡ None → object_at (insert_entry nat_cmp objects k o) k ≡ Some o
found_new k [] o none = ap (λ b. cond b (Some o) None) (itself k)
found_new k (e ∷ objects) o none = by (nat_cmp k e.0) refl none (found_new k objects o)
  where
    by : (r : Ordering) → nat_cmp k e.0 ≡ r → cond (is_eq r) (Some e.1) (object_at objects k) ≡ None → (object_at objects k ≡ None → object_at (insert_entry nat_cmp objects k o) k ≡ Some o)
        → object_at (match_ordering r ((k, o) ∷ e ∷ objects) ((e.0, o) ∷ objects) (e ∷ insert_entry nat_cmp objects k o)) k ≡ Some o
    by Less is h later = ap (λ b. cond b (Some o) (object_at (e ∷ objects) k)) (itself k)
    by Equal is h later = absurd (let wrong : Some e.1 ≡ None = h in cc)
    by Greater is h later = ap (λ r. cond (is_eq r) (Some e.1) (object_at (insert_entry nat_cmp objects k o) k)) is ∙ later h

pub new_objects : (spots : Spots) (objects : Objects) (o : StoredObject) → AreObjectsOf spots objects
    → AreObjectsOf (spots ++ Some (record { number = suc (length objects); object = o }) ∷ []) (with_new objects (suc (length objects)) o)
new_objects spots objects o are =
    let n = suc (length objects) in
    let none = none_above 0 (length objects) spots n are.rises (omega arith) in
    let free : object_at objects n ≡ None = are.objects_are n ∙ none in
    let place = Some (record { number = n; object = o }) in
    record {
      objects_are = λ k.
          pick_number k n (object_at (with_new objects n o) k) (Some o) (held spots k) (λ m. None)
          (λ e. ap (object_at (with_new objects n o)) e ∙ found_new n objects o free)
          (λ apart. lookup-insert_apart k n apart objects o ∙ are.objects_are k)
          ∙ sym (pick_number k n (held (spots ++ place ∷ []) k) (Some o) (held spots k) (λ m. None)
          (λ e. held_push spots place k (ap (held spots) e ∙ none) ∙ if_equal k n (Some o) None e)
          (λ apart. held_front spots place k (if_apart k n (Some o) None apart)));
      rises = subst (Rising 0 (spots ++ place ∷ [])) (sym (length_new n objects o free)) (rising_some 0 (length objects) spots o are.rises);
    }

pub length_of_new : (spots : Spots) (objects : Objects) (o : StoredObject) → AreObjectsOf spots objects → length (with_new objects (suc (length objects)) o) ≡ suc (length objects)
length_of_new spots objects o are =
    let n = suc (length objects) in
    length_new n objects o (are.objects_are n ∙ none_above 0 (length objects) spots n are.rises (omega arith))

-- ---- the objects at the start

abbrev pub first_spots : Objects → Spots
first_spots objects = map (λ (e : ℕ × StoredObject). Some (record { number = e.0; object = e.1 })) objects

first_held : (objects : Objects) (k : ℕ) → object_at objects k ≡ held (first_spots objects) k
first_held [] k = refl
first_held (e ∷ objects) k = (λ i. cond (unsigned_tied k e.0 i) (Some e.1) (first_held objects k i))

first_rising : (low : ℕ) (objects : Objects) → AreNumbered (suc low) objects → Rising low (first_spots objects) (low + length objects)
first_rising low [] h = omega arith
first_rising low (e ∷ objects) h =
    let is : e.0 ≡ suc low = h.0 in
    let next : suc low + length objects ≡ low + suc (length objects) = omega arith in
    (omega (arith, is), subst (λ n. Rising n (first_spots objects) (low + suc (length objects))) (sym is) (subst (Rising (suc low) (first_spots objects)) next (first_rising (suc low) objects h.1)))

pub first_objects : (objects : Objects) → AreNumbered 1 objects → AreObjectsOf (first_spots objects) objects
first_objects objects h = record {
  objects_are = first_held objects;
  rises = (let plain : 0 + length objects ≡ length objects = omega arith in subst (Rising 0 (first_spots objects)) plain (first_rising 0 objects h));
}

pub numbered_at : (k : ℕ) (objects : Objects) (i : ℕ) (e : ℕ × StoredObject) → AreNumbered k objects → i < length objects → e ≡ get_or objects i e → (e.0 ≡ k + i) × (object_at objects (k + i) ≡ Some e.1)
numbered_at k [] i e h lt is = absurd (omega (arith, lt))
numbered_at k (x ∷ objects) zero e h lt is =
    let same : x.0 ≡ k + 0 = omega (arith, h.0) in (
      ap (λ (z : ℕ × StoredObject). z.0) is ∙ same,
      ap (λ b. cond b (Some x.1) (object_at objects (k + 0))) (unsigned_tied (k + 0) x.0 ∙ is_equal (k + 0) x.0 (sym same)) ∙ ap (λ (z : ℕ × StoredObject). Some z.1) (sym is),
    )
numbered_at k (x ∷ objects) (suc i) e h lt is =
    let next : suc k + i ≡ k + suc i = omega arith in
    let later = numbered_at (suc k) objects i e h.1 (omega (arith, lt)) is in
    let first : x.0 ≡ k = h.0 in (
      later.0 ∙ next,
      ap (λ b. cond b (Some x.1) (object_at objects (k + suc i))) (unsigned_tied (k + suc i) x.0 ∙ not_equal (k + suc i) x.0 (λ (e : k + suc i ≡ x.0). omega (arith, e, first))) ∙ ap (object_at objects) (sym next) ∙ later.1,
    )
