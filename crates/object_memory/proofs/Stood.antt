-- The objects that a memory stands for, behind what is done to it.
use Rattle.std.proofs.Common.{◌≡◌, ◌<◌, ◌≤◌, ◌+◌, ◌-◌, ◌^◌, ℕ, zero, suc, Bool, true, false, List, [], ◌∷◌, ◌++◌, length, map, take, get_or, Option, Some, None, Result, Ok, Err, refl, sym, ap, subst, ◌∙◌, arith, true≢false}
use Rattle.std.specs.Prelude.{All, min, nat_lt, ◌==◌, ◌&&◌, not, is_some, if◌then◌else◌}
use Rattle.std.proofs.lemmas.Bool.Decides.{nat_tests}
use Rattle.std.proofs.lemmas.List.{map_push, length-map, length-append, length-take, take_all}
use Rattle.std.proofs.lemmas.List.Elements.{All-push}
use Rattle.words.specs.declared.check.Class.{Class}
use Rattle.words.specs.declared.check.Class.TheVariants as class
use Rattle.actions.specs.ByteList.{are_bytes}
use Rattle.actions.specs.Pointer.{object_of, offset_of}
use Rattle.actions.specs.StoredObject.{StoredObject, stored, as_dead}
use Rattle.actions.specs.States.{ObjectState, state_of}
use Rattle.actions.specs.States as states
use Rattle.actions.specs.Access.{break_at, access_break, look, size_in, can_free}
use Rattle.actions.specs.Objects.{Objects, object_at, state_at, with_new, with_dead, with_bytes, with_bytes_at, changed_to, changed_at, bytes_in, bytes_at, break_in, write_break, unless_changed, after_write, free_break, after_free}
use Rattle.c_values.specs.MadeObjects.{made_of, held_bytes}
use Rattle.c_values.proofs.MadeObjects.{held_same}
use Rattle.word_dag.specs.declared.nodes.Id.{Id}
use Rattle.word_dag.specs.declared.nodes.Node.{Node}
use Rattle.word_dag.specs.Meaning.{value, holds}
use Rattle.word_dag.specs.Fitting.{is_ordered}
use Rattle.word_dag.specs.Growth.{Extends}
use Rattle.word_dag.proofs.Grown.{extends_more, map_stays}
use Rattle.value_nodes.specs.Values.{IsWord, IsValue, IsTest, AreBytes}
use Rattle.value_nodes.proofs.Made.{word_stays, word_below}
use Rattle.object_memory.specs.declared.places.Place.{Place}
use Rattle.object_memory.specs.declared.places.Hit.{Hit}
use Rattle.object_memory.specs.declared.memory.Memory.{Memory}
use Rattle.object_memory.specs.Spots.{Spot, Spots, Rising, AreObjectsOf, AreFirst, change_at}
use Rattle.object_memory.specs.Places.{place_object, spot_of, spots, PlaceIn, StandsFor, MemoryIn}
use Rattle.object_memory.specs.Hits.{HitIn, truly, IsFound, changed_by, put_by, dead_by, OneFits}
use Rattle.object_memory.specs.Questions.{objects_of, no_object, Reads, HasSize}
use Rattle.object_memory.proofs.Spotted.{equal_is, length_changed, changed_objects, unchanged_objects, unborn_objects, new_objects, none_below, first_spots, first_objects}
use Rattle.object_memory.proofs.Pointed.{bytes_stay, bytes_there, spots_stay, places_stay, found_stays, found_object, hit_object, test_is, clash}

pub are_objects : (v : ℕ → ℕ) (d : List Node) (m : Memory) (objects : Objects) → StandsFor v d m objects → AreObjectsOf (spots v d m.places.items) objects
are_objects v d m objects s = record { objects_are = s.objects_are; rises = s.rises }

pub stands_by : (v : ℕ → ℕ) (d : List Node) (m : Memory) (objects : Objects) → AreObjectsOf (spots v d m.places.items) objects → value v d m.count ≡ length objects → StandsFor v d m objects
stands_by v d m objects are count = record { objects_are = are.objects_are; rises = are.rises; count_is = count }

-- ---- where a pointer points to, in a graph that grows

pub record Located (v : ℕ → ℕ) (d : List Node) (ps : List Place) (hits : List Hit) (p : ℕ) (objects : Objects) : Type 0 where
  pub are : AreObjectsOf (spots v d ps) objects
  pub found : IsFound v d (spots v d ps) p (truly v d hits)

pub located : (v : ℕ → ℕ) (d e : List Node) (ps : List Place) (hits : List Hit) (p : ℕ) (objects : Objects) → Extends d e → All (PlaceIn d) ps → AreObjectsOf (spots v d ps) objects
    → ((top : ℕ) → Rising 0 (spots v d ps) top → IsFound v e (spots v d ps) p (truly v e hits)) → Located v e ps hits p objects
located v d e ps hits p objects x all are found =
    let same = spots_stay v d e ps x all in
    record {
      are = subst (λ (ss : Spots). AreObjectsOf ss objects) (sym same) are;
      found = subst (λ (ss : Spots). IsFound v e ss p (truly v e hits)) (sym same) (found (length objects) are.rises);
    }

pub located_stays : (v : ℕ → ℕ) (d e : List Node) (ps : List Place) (hits : List Hit) (p : ℕ) (objects : Objects) → Extends d e → All (PlaceIn d) ps → All (HitIn d (length ps)) hits → Located v d ps hits p objects → Located v e ps hits p objects
located_stays v d e ps hits p objects x all within l =
    let same = spots_stay v d e ps x all in
    record {
      are = subst (λ (ss : Spots). AreObjectsOf ss objects) (sym same) l.are;
      found = found_stays v d e (length ps) (spots v d ps) (spots v e ps) p p hits x within same refl l.found;
    }

-- ---- an access that breaks nothing

at_most : (a b : ℕ) → nat_lt a b ≡ false → b ≤ a
at_most a b h = grind (arith, nat_tests)

by_bounds : (b : Bool) (size end : ℕ) (later : Option Class) → nat_lt size end ≡ b → (if b then Some class.Bounds else later) ≡ None → end ≤ size
by_bounds true size end later test h = absurd (let same : Some class.Bounds ≡ None = h in cc)
by_bounds false size end later test h = at_most size end test

by_life : (writes : Bool) (at n : ℕ) (o : StoredObject) (b : Bool) → break_at writes at n (if b then states.live o.size o.cells o.readonly o.heap else states.dead) ≡ None → at + n ≤ o.size
by_life writes at n o true h = by_bounds (nat_lt o.size (at + n)) o.size (at + n) _ refl h
by_life writes at n o false h = absurd (let same : Some class.Lifetime ≡ None = h in cc)

not_null : (b : Bool) (x : Option Class) → (if b then Some class.Null else x) ≡ None → x ≡ None
not_null true x h = absurd (let same : Some class.Null ≡ None = h in cc)
not_null false x h = h

fits_object : (writes : Bool) (p n : ℕ) (o : StoredObject) → access_break writes p n (state_of (Some o)) ≡ None → offset_of p + n ≤ o.size
fits_object writes p n o h = by_life writes (offset_of p) n o o.live (not_null (object_of p == 0) (break_at writes (offset_of p) n (state_of (Some o))) h)

breaks_none : {X : Type 0} (writes : Bool) (p n : ℕ) → access_break writes p n (state_of None) ≡ None → X
breaks_none writes p n h = absurd (let same : Some class.InvalidPointer ≡ None = not_null (object_of p == 0) (Some class.InvalidPointer) h in cc)

break_state : (writes : Bool) (p n : ℕ) (objects : Objects) (o : Option StoredObject) → object_at objects (object_of p) ≡ o → break_in objects writes p n ≡ access_break writes p n (state_of o)
break_state writes p n objects o is = ap (λ (x : Option StoredObject). access_break writes p n (state_of x)) is

pub one_fits_by : (v : ℕ → ℕ) (d : List Node) (ps : List Place) (hs : List Hit) (p n : ℕ) (objects : Objects) (writes : Bool) → AreObjectsOf (spots v d ps) objects → IsFound v d (spots v d ps) p hs → break_in objects writes p n ≡ None → OneFits v d (spots v d ps) n hs
one_fits_by v d ps [] p n objects writes are found fine = tt
one_fits_by v d ps (h ∷ []) p n objects writes are found fine = λ s at.
    let same : found.spot ≡ s = some_same found.spot s (sym found.is ∙ at) in
    let object : object_at objects (object_of p) ≡ Some s.object =
    found_object v d ps objects p (h ∷ []) are found ∙ ap Some (Rattle.object_memory.proofs.Pointed.spot_object v d ps h.place found.spot found.is) ∙ ap (λ (x : Spot). Some x.object) same in
    let inside = fits_object writes p n s.object (sym (break_state writes p n objects (Some s.object) object) ∙ fine) in
    omega (arith, inside, found.offset)
  where
    some_same : (a b : Spot) → Some a ≡ Some b → a ≡ b
    some_same a b e = cc
one_fits_by v d ps (h ∷ g ∷ hs) p n objects writes are found fine = absurd found

-- ---- a read

pub read_found : (v : ℕ → ℕ) (d : List Node) (ps : List Place) (hs : List Hit) (p n : ℕ) (objects : Objects) (bytes : List ℕ) → AreObjectsOf (spots v d ps) objects → IsFound v d (spots v d ps) p hs → Reads v d (objects_of v d ps) hs n bytes → break_in objects false p n ≡ None → bytes ≡ bytes_at objects p n
read_found v d ps [] p n objects bytes are found reads fine = breaks_none false p n (sym (break_state false p n objects None (found_object v d ps objects p [] are found)) ∙ fine)
read_found v d ps (h ∷ []) p n objects bytes are found reads fine =
    let o = get_or (objects_of v d ps) h.place no_object in
    let object : object_at objects (object_of p) ≡ Some o = found_object v d ps objects p (h ∷ []) are found in
    let inside = fits_object false p n o (sym (break_state false p n objects (Some o) object) ∙ fine) in
    reads (omega (arith, inside, found.offset)) ∙ ap (λ at. bytes_in at n (Some o)) found.offset ∙ ap (bytes_in (offset_of p) n) (sym object)
read_found v d ps (h ∷ g ∷ hs) p n objects bytes are found reads fine = absurd found

-- ---- a look

look_object : (p size : ℕ) (o : StoredObject) → look p (state_of (Some o)) ≡ Ok size → o.size ≡ size
look_object p size o h = by (object_of p == 0) o.live h
  where
    by : (b live : Bool) → (if b then Err class.Null else size_in (if live then states.live o.size o.cells o.readonly o.heap else states.dead)) ≡ Ok size → o.size ≡ size
    by true live h = absurd (let wrong : Err class.Null ≡ Ok size = h in cc)
    by false true h = (let same : (let x : Result ℕ Class = Ok o.size in x) ≡ Ok size = h in cc)
    by false false h = absurd (let wrong : Err class.Lifetime ≡ Ok size = h in cc)

look_none : {X : Type 0} (p size : ℕ) → look p (state_of None) ≡ Ok size → X
look_none {X = X} p size h = by (object_of p == 0) h
  where
    by : (b : Bool) → (if b then Err class.Null else Err class.InvalidPointer) ≡ Ok size → X
    by true h = absurd (let wrong : Err class.Null ≡ Ok size = h in cc)
    by false h = absurd (let wrong : Err class.InvalidPointer ≡ Ok size = h in cc)

pub look_found : (v : ℕ → ℕ) (d : List Node) (ps : List Place) (hs : List Hit) (p size seen : ℕ) (objects : Objects) → AreObjectsOf (spots v d ps) objects → IsFound v d (spots v d ps) p hs → HasSize (objects_of v d ps) hs seen → look p (state_at objects (object_of p)) ≡ Ok size → seen ≡ size
look_found v d ps [] p size seen objects are found has is = look_none p size (sym (ap (λ (x : Option StoredObject). look p (state_of x)) (found_object v d ps objects p [] are found)) ∙ is)
look_found v d ps (h ∷ []) p size seen objects are found has is =
    has ∙ look_object p size (get_or (objects_of v d ps) h.place no_object) (sym (ap (λ (x : Option StoredObject). look p (state_of x)) (found_object v d ps objects p (h ∷ []) are found)) ∙ is)
look_found v d ps (h ∷ g ∷ hs) p size seen objects are found has is = absurd found

-- ---- a write

put_objects : (v : ℕ → ℕ) (d : List Node) (ss : Spots) (hs : List Hit) (p : ℕ) (xs : List ℕ) (objects : Objects) → AreObjectsOf ss objects → IsFound v d ss p hs → AreObjectsOf (changed_by (put_by v d xs) hs ss) (with_bytes objects p xs)
put_objects v d ss [] p xs objects are found = unchanged_objects (with_bytes_at (offset_of p) xs) ss objects (object_of p) are found
put_objects v d ss (h ∷ []) p xs objects are found =
    let new = changed_objects (put_by v d xs h) ss objects h.place found.spot are found.is in
    subst (AreObjectsOf (change_at h.place (put_by v d xs h) ss)) ((λ i. changed_at objects (found.number i) (with_bytes_at (found.offset i) xs))) new
put_objects v d ss (h ∷ g ∷ hs) p xs objects are found = absurd found

written_by : (v : ℕ → ℕ) (d : List Node) (ss now : Spots) (hs : List Hit) (p : ℕ) (xs : List ℕ) (first g fine : Bool) (c : Option Class) (objects : Objects) → AreObjectsOf ss objects → (g ≡ true → IsFound v d ss p hs) → fine ≡ (g && not (is_some c)) → (g ≡ true → c ≡ write_break objects p xs first)
    → now ≡ (if fine then changed_by (put_by v d xs) hs ss else ss) → AreObjectsOf now (if g then after_write objects p xs first else objects)
written_by v d ss now hs p xs first false fine c objects are found fine_is class_is is =
    subst (λ (s : Spots). AreObjectsOf s objects) (sym (is ∙ ap (λ b. if b then changed_by (put_by v d xs) hs ss else ss) fine_is)) are
written_by v d ss now hs p xs first true fine (Some k) objects are found fine_is class_is is =
    let unchanged : objects ≡ after_write objects p xs first = ap (λ (c : Option Class). unless_changed c objects (with_bytes objects p xs)) (class_is refl) in
    subst (AreObjectsOf now) unchanged (subst (λ (s : Spots). AreObjectsOf s objects) (sym (is ∙ ap (λ b. if b then changed_by (put_by v d xs) hs ss else ss) fine_is)) are)
written_by v d ss now hs p xs first true fine None objects are found fine_is class_is is =
    let changed : with_bytes objects p xs ≡ after_write objects p xs first = ap (λ (c : Option Class). unless_changed c objects (with_bytes objects p xs)) (class_is refl) in
    subst (AreObjectsOf now) changed (subst (λ (s : Spots). AreObjectsOf s (with_bytes objects p xs)) (sym (is ∙ ap (λ b. if b then changed_by (put_by v d xs) hs ss else ss) fine_is)) (put_objects v d ss hs p xs objects are (found refl)))

passed : (g : Bool) (c : Option Class) → (g && not (is_some c)) ≡ true → (g ≡ true) × (c ≡ None)
passed true None h = (refl, refl)
passed true (Some k) h = absurd (true≢false (sym h))
passed false c h = absurd (true≢false (sym h))

pub write_stands : (v : ℕ → ℕ) (d e : List Node) (ps qs : List Place) (hits : List Hit) (guard : Id) (bytes : List Id) (p : ℕ) (first g fine : Bool) (c : Option Class) (objects : Objects) → AreObjectsOf (spots v d ps) objects → (g ≡ true → Located v d ps hits p objects) → fine ≡ (g && not (is_some c))
    → (g ≡ true → c ≡ write_break objects p (map (value v d) bytes) first)
    → ((fine ≡ true → OneFits v d (spots v d ps) (length bytes) (truly v d hits)) → spots v e qs ≡ (if fine then changed_by (put_by v d (map (value v d) bytes)) (truly v d hits) (spots v d ps) else spots v d ps))
    → AreObjectsOf (spots v e qs) (if g then after_write objects p (map (value v d) bytes) first else objects)
write_stands v d e ps qs hits guard bytes p first g fine c objects are located fine_is class_is given =
    let xs = map (value v d) bytes in
    written_by v d (spots v d ps) (spots v e qs) (truly v d hits) p xs first g fine c objects are (λ yes. (located yes).found) fine_is class_is
    (given (λ yes.
    let both = passed g c (sym fine_is ∙ yes) in
    let here = located both.0 in
    let none : break_in objects (not first) p (length bytes) ≡ None = ap (break_in objects (not first) p) (sym (length-map bytes (value v d))) ∙ sym (class_is both.0) ∙ both.1 in
    one_fits_by v d ps (truly v d hits) p (length bytes) objects (not first) here.are here.found none))

-- ---- lifetimes

dead_objects : (v : ℕ → ℕ) (d : List Node) (ss : Spots) (hs : List Hit) (p : ℕ) (objects : Objects) → AreObjectsOf ss objects → IsFound v d ss p hs → AreObjectsOf (changed_by dead_by hs ss) (with_dead objects (object_of p))
dead_objects v d ss [] p objects are found = unchanged_objects as_dead ss objects (object_of p) are found
dead_objects v d ss (h ∷ []) p objects are found = subst (λ k. AreObjectsOf (change_at h.place as_dead ss) (with_dead objects k)) found.number (changed_objects as_dead ss objects h.place found.spot are found.is)
dead_objects v d ss (h ∷ g ∷ hs) p objects are found = absurd found

pub die_stands : (v : ℕ → ℕ) (d : List Node) (ss now : Spots) (hs : List Hit) (p : ℕ) (g : Bool) (objects : Objects) → AreObjectsOf ss objects → (g ≡ true → IsFound v d ss p hs) → now ≡ (if g then changed_by dead_by hs ss else ss) → AreObjectsOf now (if g then with_dead objects (object_of p) else objects)
die_stands v d ss now hs p true objects are found is = subst (λ (s : Spots). AreObjectsOf s (with_dead objects (object_of p))) (sym is) (dead_objects v d ss hs p objects are (found refl))
die_stands v d ss now hs p false objects are found is = subst (λ (s : Spots). AreObjectsOf s objects) (sym is) are

none_dies : (ss : Spots) (objects : Objects) (p : ℕ) → AreObjectsOf ss objects → (p == 0) ≡ true → with_dead objects (object_of p) ≡ objects
none_dies ss objects p are null =
    let zero_is : p ≡ 0 = equal_is p 0 null in
    let number : object_of p ≡ 0 = omega (arith, zero_is) in
    ap (with_dead objects) number ∙ ap (changed_to objects 0 as_dead) (are.objects_are 0 ∙ none_below 0 (length objects) ss 0 are.rises (omega arith))

freed_by : (v : ℕ → ℕ) (d : List Node) (ss now : Spots) (hs : List Hit) (p : ℕ) (fine null can : Bool) (objects : Objects) → AreObjectsOf ss objects → IsFound v d ss p hs → (null ≡ true → with_dead objects (object_of p) ≡ objects)
    → fine ≡ not (is_some (if null then None else (if can then None else Some class.Free))) → now ≡ (if fine then changed_by dead_by hs ss else ss) → AreObjectsOf now (if null then objects else (if can then with_dead objects (object_of p) else objects))
freed_by v d ss now hs p fine true can objects are found same fine_is is =
    subst (AreObjectsOf now) (same refl) (subst (λ (s : Spots). AreObjectsOf s (with_dead objects (object_of p))) (sym (is ∙ ap (λ b. if b then changed_by dead_by hs ss else ss) fine_is)) (dead_objects v d ss hs p objects are found))
freed_by v d ss now hs p fine false true objects are found same fine_is is = subst (λ (s : Spots). AreObjectsOf s (with_dead objects (object_of p))) (sym (is ∙ ap (λ b. if b then changed_by dead_by hs ss else ss) fine_is)) (dead_objects v d ss hs p objects are found)
freed_by v d ss now hs p fine false false objects are found same fine_is is = subst (λ (s : Spots). AreObjectsOf s objects) (sym (is ∙ ap (λ b. if b then changed_by dead_by hs ss else ss) fine_is)) are

pub free_stands : (v : ℕ → ℕ) (d : List Node) (ss now : Spots) (hs : List Hit) (p : ℕ) (g fine : Bool) (c : Option Class) (objects : Objects) → AreObjectsOf ss objects → (g ≡ true → IsFound v d ss p hs) → fine ≡ (g && not (is_some c)) → (g ≡ true → c ≡ free_break objects p)
    → now ≡ (if fine then changed_by dead_by hs ss else ss) → AreObjectsOf now (if g then after_free objects p else objects)
free_stands v d ss now hs p false fine c objects are found fine_is class_is is = subst (λ (s : Spots). AreObjectsOf s objects) (sym (is ∙ ap (λ b. if b then changed_by dead_by hs ss else ss) fine_is)) are
free_stands v d ss now hs p true fine c objects are found fine_is class_is is =
    freed_by v d ss now hs p fine (p == 0) (can_free p (state_at objects (object_of p))) objects are (found refl) (none_dies ss objects p are) (fine_is ∙ ap (λ (x : Option Class). not (is_some x)) (class_is refl)) is

-- ---- a new place

small_bytes : (v : ℕ → ℕ) (d : List Node) (ids : List Id) → is_ordered d ≡ true → AreBytes d ids → are_bytes (map (value v d) ids) ≡ true
small_bytes v d [] ordered all = refl
small_bytes v d (i ∷ ids) ordered all =
    let here : value v d i < 2 ^ 8 = word_below v d i 8 ordered (all 0 i (omega arith)) in
    both (nat_lt (value v d i) 256) (are_bytes (map (value v d) ids)) (less (value v d i) here) (small_bytes v d ids ordered (λ k j l. all (suc k) j (omega (arith, l))))
  where
    both : (a b : Bool) → a ≡ true → b ≡ true → (a && b) ≡ true
    both true b h l = l
    both false b h l = h

    less : (n : ℕ) → n < 2 ^ 8 → nat_lt n 256 ≡ true
    less n h = grind (arith, nat_tests)

taken_small : (n : ℕ) (xs : List ℕ) → are_bytes xs ≡ true → are_bytes (take n xs) ≡ true
taken_small n xs h = Rattle.actions.proofs.ByteLists.are_bytes-take n xs h

take_least : (size : ℕ) (xs : List ℕ) → take (min size (length xs)) xs ≡ take size xs
take_least zero [] = refl
take_least (suc size) [] = let none : min (suc size) 0 ≡ 0 = omega arith in ap (λ n. take {A = ℕ} n []) none
take_least zero (x ∷ xs) = let none : min 0 (suc (length xs)) ≡ 0 = omega arith in ap (λ n. take n (x ∷ xs)) none
take_least (suc size) (x ∷ xs) = let next : min (suc size) (suc (length xs)) ≡ suc (min size (length xs)) = omega arith in ap (λ n. take n (x ∷ xs)) next ∙ ap (λ ys. x ∷ ys) (take_least size xs)

pub made_object : (v : ℕ → ℕ) (d : List Node) (size : ℕ) (bytes : List Id) (readonly heap : Bool) → is_ordered d ≡ true → AreBytes d bytes → length bytes < 2 ^ 32
    → stored (min size (length bytes)) [] true readonly heap (take (min size (length bytes)) (map (value v d) bytes)) ≡ made_of readonly heap (take size (map (value v d) bytes))
made_object v d size bytes readonly heap ordered all short =
    let xs = map (value v d) bytes in
    let count = length-map bytes (value v d) in
    let few : length (take size xs) < 2 ^ 32 = omega (arith, length-take size xs, count, short) in
    let same : held_bytes (take size xs) ≡ take size xs = held_same (take size xs) few (taken_small size xs (small_bytes v d bytes ordered all)) in
    let least : min size (length bytes) ≡ length (take size xs) = omega (arith, length-take size xs, count) in
    let taken : take (min size (length bytes)) xs ≡ take size xs = ap (λ n. take (min size n) xs) (sym count) ∙ take_least size xs in
    (λ i. stored (least i) [] true readonly heap (taken i)) ∙ (λ i. stored (length (sym same i)) [] true readonly heap (sym same i))

alloc_by : (ss : Spots) (x : Option Spot) (n : ℕ) (o p : StoredObject) (g : Bool) (objects : Objects) → AreObjectsOf ss objects → x ≡ (if g then Some (record { number = n; object = o }) else None) → (g ≡ true → n ≡ suc (length objects)) → o ≡ p → AreObjectsOf (ss ++ x ∷ []) (if g then with_new objects (suc (length objects)) p else objects)
alloc_by ss x n o p true objects are is number same =
    subst (λ (y : Option Spot). AreObjectsOf (ss ++ y ∷ []) (with_new objects (suc (length objects)) p)) (sym (is ∙ (λ i. Some (record { number = number refl i; object = same i })))) (new_objects ss objects p are)
alloc_by ss x n o p false objects are is number same = subst (λ (y : Option Spot). AreObjectsOf (ss ++ y ∷ []) objects) (sym is) (unborn_objects ss objects are)

count_by : (g : Bool) (n m : ℕ) (objects : Objects) (o : StoredObject) (ss : Spots) → AreObjectsOf ss objects → (g ≡ true → n ≡ suc (length objects)) → m ≡ length objects → (if g then n else m) ≡ length (if g then with_new objects (suc (length objects)) o else objects)
count_by true n m objects o ss are number count = number refl ∙ sym (Rattle.object_memory.proofs.Spotted.length_of_new ss objects o are)
count_by false n m objects o ss are number count = count

pub alloc_stands : (v : ℕ → ℕ) (d e : List Node) (m n : Memory) (r : Place) (number : Id) (bytes : List Id) (size : ℕ) (readonly heap g : Bool) (objects : Objects) → is_ordered d ≡ true → MemoryIn d m → AreBytes d bytes → length bytes < 2 ^ 32 → Extends d e → StandsFor v d m objects → n.places.items ≡ m.places.items ++ r ∷ []
    → holds (value v e r.born) ≡ g → value v e r.number ≡ value v d m.count + 1 → value v e r.size ≡ min size (length bytes) → value v e r.live ≡ 1 → r.readonly ≡ readonly → r.heap ≡ heap → r.bytes.items ≡ bytes → value v e n.count ≡ (if g then value v d m.count + 1 else value v d m.count)
    → StandsFor v e n (if g then with_new objects (suc (length objects)) (made_of readonly heap (take size (map (value v d) bytes))) else objects)
alloc_stands v d e m n r number bytes size readonly heap g objects ordered within all short x s pushed born number_is size_is live readonly_is heap_is bytes_is count_is =
    let are = are_objects v d m objects s in
    let new = made_of readonly heap (take size (map (value v d) bytes)) in
    let next : value v d m.count + 1 ≡ suc (length objects) = omega (arith, s.count_is) in
    let block : map (value v e) r.bytes.items ≡ map (value v d) bytes = ap (map (value v e)) bytes_is ∙ map_stays v d e bytes x (bytes_there d bytes all) in
    let lives : holds (value v e r.live) ≡ true = ap holds live in
    let object : place_object v e r ≡ new = (λ i. stored (size_is i) [] (lives i) (readonly_is i) (heap_is i) (take (size_is i) (block i))) ∙ made_object v d size bytes readonly heap ordered all short in
    let spot : spot_of v e r ≡ (if g then Some (record { number = value v e r.number; object = place_object v e r }) else None) = ap (λ b. if b then Some (record { number = value v e r.number; object = place_object v e r }) else None) born in
    let places : spots v e n.places.items ≡ spots v d m.places.items ++ spot_of v e r ∷ [] = ap (spots v e) pushed ∙ map_push (spot_of v e) m.places.items r ∙ ap (λ (ss : Spots). ss ++ spot_of v e r ∷ []) (spots_stay v d e m.places.items x within.places) in
    stands_by v e n (if g then with_new objects (suc (length objects)) new else objects)
    (subst (λ (ss : Spots). AreObjectsOf ss (if g then with_new objects (suc (length objects)) new else objects)) (sym places) (alloc_by (spots v d m.places.items) (spot_of v e r) (value v e r.number) (place_object v e r) new g objects are spot (λ yes. number_is ∙ next) object))
    (count_is ∙ count_by g (value v d m.count + 1) (value v d m.count) objects new (spots v d m.places.items) are (λ yes. next) s.count_is)

-- ---- at the start

pub first_stands : (v : ℕ → ℕ) (d : List Node) (m : Memory) (objects : Objects) (at : ℕ) → length objects ≤ at → AreFirst objects → spots v d m.places.items ≡ first_spots (take at objects) → value v d m.count ≡ length objects → StandsFor v d m objects
first_stands v d m objects at done first same count =
    stands_by v d m objects (subst (λ (ss : Spots). AreObjectsOf ss objects) (sym (same ∙ ap first_spots (take_all at objects done))) (first_objects objects first.numbers)) count

-- ---- in the graphs of a call

pub places_in : (d : List Node) (m : Memory) (ps : List Place) → MemoryIn d m → ps ≡ m.places.items → All (PlaceIn d) ps
places_in d m ps within is = subst (All (PlaceIn d)) (sym is) within.places

pub hits_in : (d : List Node) (n : ℕ) (hits found : List Hit) → hits ≡ found → All (HitIn d n) found → All (HitIn d n) hits
hits_in d n hits found is all = subst (All (HitIn d n)) (sym is) all

-- where a pointer points to, behind the search for it
pub located_in : (v : ℕ → ℕ) (d e : List Node) (m : Memory) (ps : List Place) (hits found : List Hit) (pointer : Id) (objects : Objects) → MemoryIn d m → ps ≡ m.places.items → hits ≡ found → Extends d e → IsWord d pointer 64 → StandsFor v d m objects
    → ((u : ℕ → ℕ) (top : ℕ) → Rising 0 (spots u d ps) top → IsFound u e (spots u d ps) (value u d pointer) (truly u e found)) → Located v e ps hits (value v e pointer) objects
located_in v d e m ps hits found pointer objects within is hits_is x word stands given =
    let are : AreObjectsOf (spots v d ps) objects = subst (λ (qs : List Place). AreObjectsOf (spots v d qs) objects) (sym is) (are_objects v d m objects stands) in
    let p_is : value v e pointer ≡ value v d pointer = x.value_stays v pointer word.there in
    subst (λ k. Located v e ps hits k objects) (sym p_is) (subst (λ (hs : List Hit). Located v e ps hs (value v d pointer) objects) (sym hits_is) (located v d e ps found (value v d pointer) objects x (places_in d m ps within is) are (given v)))

-- ---- a memory whose places changed

pub memory_within : (d e : List Node) (m n : Memory) → MemoryIn d m → Extends d e → All (PlaceIn e) n.places.items → length n.places.items ≡ length m.places.items → n.count ≡ m.count → MemoryIn e n
memory_within d e m n within x places long count = record {
  places = places;
  count = subst (λ i. IsWord e i 32) (sym count) (word_stays d e m.count 32 x within.count);
  few = omega (arith, long, within.few);
  counted = λ v. let same : value v e n.count ≡ value v d m.count = ap (value v e) count ∙ x.value_stays v m.count within.count.there in omega (arith, same, long, within.counted v);
}

length_unless : (c : Option Class) (objects changed : Objects) → length changed ≡ length objects → length (unless_changed c objects changed) ≡ length objects
length_unless None objects changed same = same
length_unless (Some k) objects changed same = refl

length_if : (g : Bool) (objects changed : Objects) → length changed ≡ length objects → length (if g then changed else objects) ≡ length objects
length_if true objects changed same = same
length_if false objects changed same = refl

length_if_not : (g : Bool) (objects changed : Objects) → length changed ≡ length objects → length (if g then objects else changed) ≡ length objects
length_if_not true objects changed same = refl
length_if_not false objects changed same = same

pub length_written : (g first : Bool) (objects : Objects) (p : ℕ) (xs : List ℕ) → length (if g then after_write objects p xs first else objects) ≡ length objects
length_written g first objects p xs = length_if g objects (after_write objects p xs first) (length_unless (write_break objects p xs first) objects (with_bytes objects p xs) (length_changed objects (object_of p) (with_bytes_at (offset_of p) xs)))

pub length_dead : (g : Bool) (objects : Objects) (k : ℕ) → length (if g then with_dead objects k else objects) ≡ length objects
length_dead g objects k = length_if g objects (with_dead objects k) (length_changed objects k as_dead)

pub length_freed : (g : Bool) (objects : Objects) (p : ℕ) → length (if g then after_free objects p else objects) ≡ length objects
length_freed g objects p =
    length_if g objects (after_free objects p) (length_if_not (p == 0) objects (if can_free p (state_at objects (object_of p)) then with_dead objects (object_of p) else objects)
    (length_if (can_free p (state_at objects (object_of p))) objects (with_dead objects (object_of p)) (length_changed objects (object_of p) as_dead)))

-- behind a change that makes no object
pub still_stands : (v : ℕ → ℕ) (d e : List Node) (m n : Memory) (objects now : Objects) → MemoryIn d m → Extends d e → StandsFor v d m objects → n.count ≡ m.count → AreObjectsOf (spots v e n.places.items) now → length now ≡ length objects → StandsFor v e n now
still_stands v d e m n objects now within x stands count are same = stands_by v e n now are (ap (value v e) count ∙ x.value_stays v m.count within.count.there ∙ stands.count_is ∙ sym same)

-- where a pointer points to, in the memory's own places
pub located_here : (v : ℕ → ℕ) (d e : List Node) (m : Memory) (ps : List Place) (hits found : List Hit) (pointer : Id) (objects : Objects) → MemoryIn d m → ps ≡ m.places.items → hits ≡ found → Extends d e → IsWord d pointer 64 → StandsFor v d m objects
    → ((u : ℕ → ℕ) (top : ℕ) → Rising 0 (spots u d ps) top → IsFound u e (spots u d ps) (value u d pointer) (truly u e found)) → Located v e m.places.items hits (value v d pointer) objects
located_here v d e m ps hits found pointer objects within is hits_is x word stands given =
    let p_is : value v e pointer ≡ value v d pointer = x.value_stays v pointer word.there in
    subst (λ k. Located v e m.places.items hits k objects) p_is (subst (λ (qs : List Place). Located v e qs hits (value v e pointer) objects) is (located_in v d e m ps hits found pointer objects within is hits_is x word stands given))

pub same_choice : {X : Type 0} (a b : Bool) (x y : X) → a ≡ b → (if a then x else y) ≡ (if b then x else y)
same_choice a b x y same = ap (λ c. if c then x else y) same

-- ---- a place that is made

pub made_within : (d d1 d2 d3 e : List Node) (r : Place) (f : (ℕ → ℕ) → ℕ) (bytes : List Id) → Extends d d1 → Extends d1 d2 → Extends d2 d3 → Extends d3 e → IsWord d r.born 1 → IsWord d1 r.number 32 → IsValue d2 r.size 32 (λ v. min (f v) (length bytes)) → IsTest d3 r.live (λ v. true) → AreBytes d bytes → r.bytes.items ≡ bytes → length bytes < 2 ^ 32 → PlaceIn e r
made_within d d1 d2 d3 e r f bytes x1 x2 x3 x4 born number size live all is short =
    let x34 = extends_more d2 d3 e x3 x4 in
    let x24 = extends_more d1 d2 e x2 x34 in
    let x14 = extends_more d d1 e x1 x24 in
    record {
      born = word_stays d e r.born 1 x14 born;
      number = word_stays d1 e r.number 32 x24 number;
      size = word_stays d2 e r.size 32 x34 (record { there = size.there; width_is = size.width_is });
      live = word_stays d3 e r.live 1 x4 (record { there = live.there; width_is = live.width_is });
      bytes = subst (AreBytes e) (sym is) (bytes_stay d e bytes x14 all);
      short = omega (arith, ap length is, short);
      whole = λ v.
          let most : value v e r.size ≡ min (f v) (length bytes) = x34.value_stays v r.size size.there ∙ size.value_is v in
          let long : length r.bytes.items ≡ length bytes = ap length is in
          omega (arith, most, long);
    }

next_counted : (d d1 e : List Node) (count number now guard : Id) (v : ℕ → ℕ) (b : Bool) (n : ℕ) → value v e now ≡ (if b then n else value v d count) → n ≡ value v d count + 1 → value v e now ≤ value v d count + 1
next_counted d d1 e count number now guard v true n is next = omega (arith, is, next)
next_counted d d1 e count number now guard v false n is next = omega (arith, is)

pub made_count : (d d1 d3 e : List Node) (m : Memory) (number now guard : Id) → MemoryIn d m → Extends d d1 → Extends d1 d3 → IsWord d guard 1 → IsWord d1 number 32 → ((v : ℕ → ℕ) → value v d m.count + 1 < 2 ^ 32 → value v d1 number ≡ value v d m.count + 1)
    → ((v : ℕ → ℕ) → value v e now ≡ (if holds (value v d3 guard) then value v d3 number else value v d3 m.count)) → length m.places.items < 2 ^ 32 - 1
    → (v : ℕ → ℕ) → value v e now ≡ (if holds (value v d guard) then value v d m.count + 1 else value v d m.count)
made_count d d1 d3 e m number now guard within x1 x3 guard_in number_in next given few v =
    let x = extends_more d d1 d3 x1 x3 in
    let g = ap holds (x.value_stays v guard guard_in.there) in
    let n : value v d3 number ≡ value v d m.count + 1 = x3.value_stays v number number_in.there ∙ next v (omega (arith, few, within.counted v)) in
    given v ∙ (λ i. if g i then n i else x.value_stays v m.count within.count.there i)

pub alloc_within : (d e : List Node) (m n : Memory) (r : Place) (guard : Id) → MemoryIn d m → Extends d e → PlaceIn e r → n.places.items ≡ m.places.items ++ r ∷ [] → length m.places.items < 2 ^ 32 - 1 → IsWord e n.count 32
    → ((v : ℕ → ℕ) → value v e n.count ≡ (if holds (value v d guard) then value v d m.count + 1 else value v d m.count)) → MemoryIn e n
alloc_within d e m n r guard within x place pushed few word counted = record {
  places = subst (All (PlaceIn e)) (sym pushed) (All-push (PlaceIn e) m.places.items r (places_stay d e m.places.items x within.places) place);
  count = word;
  few = omega (arith, ap length pushed, length-append m.places.items (r ∷ []), few);
  counted = λ v. by v (holds (value v d guard)) (counted v);
}
  where
    by : (v : ℕ → ℕ) (b : Bool) → value v e n.count ≡ (if b then value v d m.count + 1 else value v d m.count) → value v e n.count ≤ length n.places.items
    by v true is = omega (arith, is, within.counted v, ap length pushed, length-append m.places.items (r ∷ []))
    by v false is = omega (arith, is, within.counted v, ap length pushed, length-append m.places.items (r ∷ []))

pub first_within_memory : (d e : List Node) (m : Memory) (ps : List Place) → Extends d e → All (PlaceIn d) ps → length ps < 2 ^ 32 → IsWord e m.count 32 → ((v : ℕ → ℕ) → value v e m.count ≡ length ps) → m.places.items ≡ ps → MemoryIn e m
first_within_memory d e m ps x all few word count is = record {
  places = subst (All (PlaceIn e)) (sym is) (places_stay d e ps x all);
  count = word;
  few = omega (arith, ap length is, few);
  counted = λ v. omega (arith, count v, ap length is);
}
