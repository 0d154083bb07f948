-- What writes and the ends of lifetimes leave of places.
use Rattle.std.proofs.Common.{◌≡◌, ◌<◌, ◌≤◌, ◌+◌, ◌-◌, ◌*◌, ℕ, zero, suc, Bool, true, false, List, [], ◌∷◌, ◌++◌, length, map, take, drop, set, get_or, Option, Some, None, refl, sym, ap, subst, ◌∙◌, arith, append_assoc, append-nil, inl, inr}
use Rattle.std.specs.Prelude.{All, min, ◌&&◌, ◌⊎◌, if◌then◌else◌}
use Rattle.std.proofs.Math.Seq.{drop-cons}
use Rattle.std.proofs.lemmas.List.{length-map, length-append, drop_all, take_all, drop-drop, length-drop, length-take-le, take-map, drop-map, map-append, take-append-le, drop-append-le, take-append-drop, map-set}
use Rattle.std.proofs.lemmas.List.Elements.{All-nil, All-take, All-drop, All-append, All-head, All-tail, All-cons, All-set}
use Rattle.actions.specs.ByteList.{put_at}
use Rattle.actions.specs.StoredObject.{StoredObject, stored, as_dead}
use Rattle.actions.specs.Objects.{with_bytes_at}
use Rattle.word_dag.specs.declared.nodes.Id.{Id}
use Rattle.word_dag.specs.declared.nodes.Node.{Node}
use Rattle.word_dag.specs.Meaning.{width, value, holds}
use Rattle.word_dag.specs.Growth.{Within, Extends}
use Rattle.word_dag.proofs.Grown.{extends_itself, extends_more, map_stays}
use Rattle.value_nodes.specs.Values.{IsWord, IsTest, AreBytes}
use Rattle.value_nodes.proofs.Made.{word_stays}
use Rattle.byte_ops.specs.Bytes.{updated}
use Rattle.byte_ops.specs.declared.places.TestedOffset.{TestedOffset}
use Rattle.byte_ops.proofs.Writing.{updated_parts}
use Rattle.object_memory.specs.declared.places.Place.{Place}
use Rattle.object_memory.specs.declared.places.Hit.{Hit}
use Rattle.object_memory.specs.Spots.{Spot, Spots, changed_spot, change_at}
use Rattle.object_memory.specs.Places.{spot_of, spots, PlaceIn, with_live}
use Rattle.object_memory.specs.Hits.{HitIn, truly, changed_by, put_by, dead_by, OneFits}
use Rattle.object_memory.proofs.Pointed.{bytes_stay, bytes_there, object_stays, spots_stay, places_stay, place_stays, test_is, left_true, right_true, clash, own}
use Rattle.object_memory.proofs.ReadWords.{more_taken}

-- ---- bytes that are put

pub put_long : (at : ℕ) (new old : List ℕ) → at + length new ≤ length old → length (put_at at new old) ≡ length old
put_long at new old fits =
    let front = length-take-le at old (omega (arith, fits)) in
    omega (arith, fits, front, length-append new (drop (at + length new) old), length-append (take at old) (new ++ drop (at + length new) old), length-drop (at + length new) old)

updated_put : (at : ℕ) (new old : List ℕ) → at + length new ≤ length old → updated at new old ≡ put_at at new old
updated_put at new old fits =
    let all : length new ≤ length new = omega arith in
    updated_parts at (length new) new old (omega (arith, fits)) all fits (inl all) ∙ ap (λ ys. take at old ++ (ys ++ drop (at + length new) old)) (take_all (length new) new all)

-- put behind a place
put_behind : (off at : ℕ) (new old : List ℕ) → off + at + length new ≤ length old → take at old ++ put_at off new (drop at old) ≡ put_at (off + at) new old
put_behind off at new old fits =
    let order : at + off ≡ off + at = omega arith in
    let rest : at + (off + length new) ≡ off + at + length new = omega arith in
    sym (append_assoc (take at old) (take off (drop at old)) (new ++ drop (off + length new) (drop at old)))
    ∙ (λ i. (more_taken at off old ∙ ap (λ n. take n old) order) i ++ (new ++ (drop-drop (off + length new) at old ∙ ap (λ n. drop n old) rest) i))

take_front : (xs ys : List ℕ) → take (length xs) (xs ++ ys) ≡ xs
take_front [] ys = refl
take_front (x ∷ xs) ys = ap (λ zs. x ∷ zs) (take_front xs ys)

drop_front : (xs ys : List ℕ) → drop (length xs) (xs ++ ys) ≡ ys
drop_front [] ys = refl
drop_front (x ∷ xs) ys = drop_front xs ys

put_twice : (off at : ℕ) (ys zs old : List ℕ) → length ys ≡ at → off + at + length zs ≤ length old → put_at (off + at) zs (put_at off ys old) ≡ put_at off (ys ++ zs) old
put_twice off at ys zs old size fits =
    let front = take off old ++ ys in
    let rest = drop (off + length ys) old in
    let whole : put_at off ys old ≡ front ++ rest = sym (append_assoc (take off old) ys rest) in
    let long : length front ≡ off + at = omega (arith, length-append (take off old) ys, length-take-le off old (omega (arith, fits)), size) in
    let first : take (off + at) (front ++ rest) ≡ front = ap (λ n. take n (front ++ rest)) (sym long) ∙ take_front front rest in
    let end : off + length ys + length zs ≡ off + length (ys ++ zs) = omega (arith, length-append ys zs) in
    let last : drop (off + at + length zs) (front ++ rest) ≡ drop (off + length (ys ++ zs)) old =
    sym (drop-drop (length zs) (off + at) (front ++ rest)) ∙ ap (drop (length zs)) (ap (λ n. drop n (front ++ rest)) (sym long) ∙ drop_front front rest) ∙ drop-drop (length zs) (off + length ys) old ∙ ap (λ n. drop n old) end in
    ap (put_at (off + at) zs) whole ∙ (λ i. first i ++ (zs ++ last i)) ∙ append_assoc (take off old) ys (zs ++ drop (off + length (ys ++ zs)) old)
    ∙ ap (λ xs. take off old ++ xs) (sym (append_assoc ys zs (drop (off + length (ys ++ zs)) old)))

put_nothing : (off : ℕ) (old : List ℕ) → off ≤ length old → put_at off [] old ≡ old
put_nothing off old h = let plain : off + 0 ≡ off = omega arith in ap (λ n. take off old ++ drop n old) plain ∙ take-append-drop off old

put_first : (off : ℕ) (new front rest : List ℕ) → off + length new ≤ length front → put_at off new (front ++ rest) ≡ put_at off new front ++ rest
put_first off new front rest fits =
    (λ i. take-append-le off front rest (omega (arith, fits)) i ++ (new ++ drop-append-le (off + length new) front rest fits i))
    ∙ ap (λ xs. take off front ++ xs) (sym (append_assoc new (drop (off + length new) front) rest)) ∙ sym (append_assoc (take off front) (new ++ drop (off + length new) front) rest)

-- of the first bytes
pub put_taken : (off size : ℕ) (new old : List ℕ) → off + length new ≤ size → size ≤ length old → take size (put_at off new old) ≡ put_at off new (take size old)
put_taken off size new old fits enough =
    let front = take size old in
    let long : length front ≡ size = length-take-le size old enough in
    let same : put_at off new old ≡ put_at off new front ++ drop size old = ap (put_at off new) (sym (take-append-drop size old)) ∙ put_first off new front (drop size old) (omega (arith, long, fits)) in
    let kept : length (put_at off new front) ≡ size = put_long off new front (omega (arith, long, fits)) ∙ long in
    ap (take size) same ∙ ap (λ n. take n (put_at off new front ++ drop size old)) (sym kept) ∙ take_front (put_at off new front) (drop size old)

-- ---- a part of a block

pub part_bytes : (d e : List Node) (old new part : List Id) (at : ℕ) → Extends d e → AreBytes d old → AreBytes e part → new ≡ take at old ++ part → AreBytes e new
part_bytes d e old new part at x all more is = subst (AreBytes e) (sym is) (All-append (λ (i : Id). IsWord e i 8) (take at old) part (All-take (λ (i : Id). IsWord e i 8) at old (bytes_stay d e old x all)) more)

pub part_long : (old new part : List Id) (at : ℕ) → at ≤ length old → length part ≡ length old - at → new ≡ take at old ++ part → length new ≡ length old
part_long old new part at h long is = omega (arith, ap length is, length-append (take at old) part, length-take-le at old h, long, h)

pub part_values : (d e : List Node) (old new part rest bytes : List Id) (o : TestedOffset) (at : ℕ) → Extends d e → AreBytes d old → at + length bytes ≤ length old → rest ≡ drop at old
    → ((v : ℕ → ℕ) → value v d o.offset + length bytes ≤ length rest → map (value v e) part ≡ updated (value v d o.offset) (map (value v d) bytes) (map (value v d) rest)) → new ≡ take at old ++ part
    → (v : ℕ → ℕ) → value v d o.offset + at + length bytes ≤ length old → map (value v e) new ≡ put_at (value v d o.offset + at) (map (value v d) bytes) (map (value v d) old)
part_values d e old new part rest bytes o at x all fits rest_is given is v inside =
    let off = value v d o.offset in
    let f = value v d in
    let long : length rest ≡ length old - at = ap length rest_is ∙ length-drop at old in
    let count = length-map bytes f in
    let whole = length-map old f in
    let room : off + length (map f bytes) ≤ length (drop at (map f old)) = omega (arith, count, whole, length-drop at (map f old), inside) in
    let rests : map f rest ≡ drop at (map f old) = ap (map f) rest_is ∙ sym (drop-map f at old) in
    ap (map (value v e)) is ∙ map-append (value v e) (take at old) part
    ∙ (λ i. map_stays v d e (take at old) x (bytes_there d (take at old) (All-take (λ (k : Id). IsWord d k 8) at old all)) i ++ given v (omega (arith, long, inside)) i)
    ∙ (λ i. sym (take-map f at old) i ++ updated off (map f bytes) (rests i))
    ∙ ap (λ ys. take at (map f old) ++ ys) (updated_put off (map f bytes) (drop at (map f old)) room)
    ∙ put_behind off at (map f bytes) (map f old) (omega (arith, count, whole, inside))

-- ---- a block that is written part by part

pub record Putting (d e : List Node) (block bytes : List Id) (offset : Id) (new : List Id) (at : ℕ) : Type 0 where
  pub extends : Extends d e
  pub within : at ≤ length bytes
  pub bytes_in : AreBytes e new
  pub long : length new ≡ length block
  pub values : (v : ℕ → ℕ) → value v d offset + length bytes ≤ length block → map (value v e) new ≡ put_at (value v d offset) (take at (map (value v d) bytes)) (map (value v d) block)

pub putting_none : (d : List Node) (block bytes : List Id) (offset : Id) → AreBytes d block → Putting d d block bytes offset block 0
putting_none d block bytes offset all = record {
  extends = extends_itself d;
  within = omega arith;
  bytes_in = all;
  long = refl;
  values = λ v inside. sym (put_nothing (value v d offset) (map (value v d) block) (omega (arith, inside, length-map block (value v d))));
}

pub putting_more : (d e f : List Node) (block bytes part : List Id) (offset : Id) (o : TestedOffset) (new next : List Id) (at size end : ℕ) → AreBytes d bytes → Within d offset → o.offset ≡ offset → Putting d e block bytes offset new at → at < length bytes → size ≡ min (length bytes - at) 8 → end ≡ at + size → part ≡ take size (drop at bytes)
    → Extends e f → AreBytes f next → length next ≡ length new
    → ((v : ℕ → ℕ) → value v e o.offset + at + length part ≤ length new → map (value v f) next ≡ put_at (value v e o.offset + at) (map (value v e) part) (map (value v e) new)) → Putting d f block bytes offset next end
putting_more d e f block bytes part offset o new next at size end all word offset_is p lt size_is end_is part_is x more long given =
    let size_part : length part ≡ size = ap length part_is ∙ length-take-le size (drop at bytes) (omega (arith, length-drop at bytes, size_is, lt)) in
    record {
      extends = extends_more d e f p.extends x;
      within = omega (arith, end_is, size_is, lt);
      bytes_in = more;
      long = long ∙ p.long;
      values = λ v inside.
          let f0 = value v d in
          let off = f0 offset in
          let xs = map f0 bytes in
          let off_is : value v e o.offset ≡ off = ap (value v e) offset_is ∙ p.extends.value_stays v offset word in
          let news : map (value v e) part ≡ take size (drop at xs) =
          map_stays v d e part p.extends (bytes_there d part (subst (AreBytes d) (sym part_is) (All-take (λ (i : Id). IsWord d i 8) size (drop at bytes) (All-drop (λ (i : Id). IsWord d i 8) at bytes all))))
          ∙ ap (map f0) part_is ∙ sym (ap (take size) (drop-map f0 at bytes) ∙ take-map f0 size (drop at bytes)) in
          let whole = length-map block f0 in
          let many = length-map bytes f0 in
          let first : length (take at xs) ≡ at = length-take-le at xs (omega (arith, many, lt)) in
          let second : length (take size (drop at xs)) ≡ size = length-take-le size (drop at xs) (omega (arith, length-drop at xs, many, size_is, lt)) in
          given v (omega (arith, off_is, size_part, inside, p.long, size_is, lt)) ∙ (λ i. put_at (off_is i + at) (news i) (p.values v inside i))
          ∙ put_twice off at (take at xs) (take size (drop at xs)) (map f0 block) first (omega (arith, second, whole, inside, size_is, lt))
          ∙ ap (λ ys. put_at off ys (map f0 block)) (more_taken at size xs ∙ ap (λ n. take n xs) (sym end_is));
    }

pub putting_all : (d e : List Node) (block bytes : List Id) (offset : Id) (new : List Id) (at : ℕ) → length bytes ≤ at → Putting d e block bytes offset new at
    → (v : ℕ → ℕ) → value v d offset + length bytes ≤ length block → map (value v e) new ≡ put_at (value v d offset) (map (value v d) bytes) (map (value v d) block)
putting_all d e block bytes offset new at done p v inside =
    let xs = map (value v d) bytes in
    p.values v inside ∙ ap (λ ys. put_at (value v d offset) ys (map (value v d) block)) (take_all at xs (omega (arith, done, length-map bytes (value v d))))

pub written_values : (d e f : List Node) (block bytes old new : List Id) (offset : Id) (o : TestedOffset) → AreBytes d block → AreBytes d bytes → IsWord d offset 32 → Extends d e → old ≡ block → o.offset ≡ offset
    → ((v : ℕ → ℕ) → value v e o.offset + length bytes ≤ length old → map (value v f) new ≡ put_at (value v e o.offset) (map (value v e) bytes) (map (value v e) old))
    → (v : ℕ → ℕ) → value v d offset + length bytes ≤ length block → map (value v f) new ≡ put_at (value v d offset) (map (value v d) bytes) (map (value v d) block)
written_values d e f block bytes old new offset o all bytes_in word x old_is offset_is given v inside =
    let off : value v e o.offset ≡ value v d offset = ap (value v e) offset_is ∙ x.value_stays v offset word.there in
    let news = map_stays v d e bytes x (bytes_there d bytes bytes_in) in
    let olds = ap (map (value v e)) old_is ∙ map_stays v d e block x (bytes_there d block all) in
    given v (omega (arith, off, inside, ap length old_is)) ∙ (λ i. put_at (off i) (news i) (olds i))

pub never_inside : {X : Type 0} (off count size : ℕ) → size < count → off + count ≤ size → X
never_inside off count size more inside = absurd (omega (arith, more, inside))

-- ---- a place with another block

pub record Reblocked (p r : Place) : Type 0 where
  pub born : r.born ≡ p.born
  pub number : r.number ≡ p.number
  pub size : r.size ≡ p.size
  pub live : r.live ≡ p.live
  pub readonly : r.readonly ≡ p.readonly
  pub heap : r.heap ≡ p.heap

pub block_within : (d e : List Node) (p r : Place) → Reblocked p r → Extends d e → PlaceIn d p → AreBytes e r.bytes.items → length r.bytes.items ≡ length p.bytes.items → PlaceIn e r
block_within d e p r same x h all long = record {
  born = subst (λ i. IsWord e i 1) (sym same.born) (word_stays d e p.born 1 x h.born);
  number = subst (λ i. IsWord e i 32) (sym same.number) (word_stays d e p.number 32 x h.number);
  size = subst (λ i. IsWord e i 32) (sym same.size) (word_stays d e p.size 32 x h.size);
  live = subst (λ i. IsWord e i 1) (sym same.live) (word_stays d e p.live 1 x h.live);
  bytes = all;
  short = omega (arith, long, h.short);
  whole = λ v. let size : value v e r.size ≡ value v d p.size = ap (value v e) same.size ∙ x.value_stays v p.size h.size.there in omega (arith, size, long, h.whole v);
}

module _ (v : ℕ → ℕ) (d e : List Node) (p r : Place) (same : Reblocked p r) (x : Extends d e) (h : PlaceIn d p) where
  reblocked_spot : (bytes : List ℕ) → take (value v d p.size) (map (value v e) r.bytes.items) ≡ bytes
      → spot_of v e r ≡ (if holds (value v d p.born) then Some (record { number = value v d p.number; object = stored (value v d p.size) [] (holds (value v d p.live)) p.readonly p.heap bytes }) else None)
  reblocked_spot bytes is =
      let born : value v e r.born ≡ value v d p.born = ap (value v e) same.born ∙ x.value_stays v p.born h.born.there in
      let number : value v e r.number ≡ value v d p.number = ap (value v e) same.number ∙ x.value_stays v p.number h.number.there in
      let size : value v e r.size ≡ value v d p.size = ap (value v e) same.size ∙ x.value_stays v p.size h.size.there in
      let live : value v e r.live ≡ value v d p.live = ap (value v e) same.live ∙ x.value_stays v p.live h.live.there in
      (λ i. if holds (born i) then Some (record { number = number i; object = stored (size i) [] (holds (live i)) (same.readonly i) (same.heap i) (take (size i) (map (value v e) r.bytes.items)) }) else None)
      ∙ ap (λ bs. if holds (value v d p.born) then Some (record { number = value v d p.number; object = stored (value v d p.size) [] (holds (value v d p.live)) p.readonly p.heap bs }) else None) is

  unborn_spot : holds (value v d p.born) ≡ false → spot_of v e r ≡ None
  unborn_spot none = reblocked_spot (take (value v d p.size) (map (value v e) r.bytes.items)) refl ∙ ap (λ b. if b then Some (record { number = value v d p.number; object = stored (value v d p.size) [] (holds (value v d p.live)) p.readonly p.heap (take (value v d p.size) (map (value v e) r.bytes.items)) }) else None) none

  pub block_spot : (off : ℕ) (xs : List ℕ) (t : Bool) → (t ≡ true → holds (value v d p.born) ≡ true → off + length xs ≤ value v d p.size)
      → (t ≡ true → off + length xs ≤ length p.bytes.items → map (value v e) r.bytes.items ≡ put_at off xs (map (value v d) p.bytes.items))
      → (t ≡ false → (holds (value v d p.born) ≡ false) ⊎ (map (value v e) r.bytes.items ≡ map (value v d) p.bytes.items))
      → spot_of v e r ≡ (if t then changed_spot (with_bytes_at off xs) (spot_of v d p) else spot_of v d p)
  block_spot off xs false fits put kept = elim (kept refl) [
    | inl none ↦ unborn_spot none ∙ sym (ap (λ b. if b then Some (own v d p) else None) none)
    | inr old ↦ reblocked_spot (take (value v d p.size) (map (value v d) p.bytes.items)) (ap (take (value v d p.size)) old)
  ]
  block_spot off xs true fits put kept = by (holds (value v d p.born)) refl
    where
      by : (b : Bool) → holds (value v d p.born) ≡ b → spot_of v e r ≡ changed_spot (with_bytes_at off xs) (spot_of v d p)
      by false none = unborn_spot none ∙ sym (ap (λ c. changed_spot (with_bytes_at off xs) (if c then Some (own v d p) else None)) none)
      by true born =
          let inside = fits refl born in
          let many = length-map p.bytes.items (value v d) in
          let new : take (value v d p.size) (map (value v e) r.bytes.items) ≡ put_at off xs (take (value v d p.size) (map (value v d) p.bytes.items)) =
          ap (take (value v d p.size)) (put refl (omega (arith, inside, h.whole v))) ∙ put_taken off (value v d p.size) xs (map (value v d) p.bytes.items) inside (omega (arith, many, h.whole v)) in
          reblocked_spot (put_at off xs (take (value v d p.size) (map (value v d) p.bytes.items))) new
          ∙ ap (λ b. if b then Some (record { number = value v d p.number; object = stored (value v d p.size) [] (holds (value v d p.live)) p.readonly p.heap (put_at off xs (take (value v d p.size) (map (value v d) p.bytes.items))) }) else None) born
          ∙ sym (ap (λ c. changed_spot (with_bytes_at off xs) (if c then Some (own v d p) else None)) born)

pub own_guard : (d : List Node) (born test : Id) → born.index ≡ test.index → (v : ℕ → ℕ) → holds (value v d test) ≡ false → holds (value v d born) ≡ false
own_guard d born test same v h = (let is : born ≡ test = λ i. record { index = same i } in ap (λ (k : Id). holds (value v d k)) is) ∙ h

module _ (d e f : List Node) (test : Id) (new given block ids : List Id) (x : Extends d e) (word : IsWord d test 1) (all : AreBytes d block) (given_is : given ≡ new)
    (values : (v : ℕ → ℕ) → map (value v f) ids ≡ (if holds (value v e test) then map (value v e) given else map (value v e) block)) where
  test_now : (v : ℕ → ℕ) → holds (value v e test) ≡ holds (value v d test)
  test_now v = ap holds (x.value_stays v test word.there)

  pub chosen_new : (v : ℕ → ℕ) → holds (value v d test) ≡ true → map (value v f) ids ≡ map (value v e) new
  chosen_new v h = values v ∙ ap (λ b. if b then map (value v e) given else map (value v e) block) (test_now v ∙ h) ∙ ap (map (value v e)) given_is

  pub chosen_old : (v : ℕ → ℕ) → holds (value v d test) ≡ false → map (value v f) ids ≡ map (value v d) block
  chosen_old v h = values v ∙ ap (λ b. if b then map (value v e) given else map (value v e) block) (test_now v ∙ h) ∙ map_stays v d e block x (bytes_there d block all)

pub put_spot : (d e : List Node) (p r : Place) (test offset : Id) (bytes block : List Id) → Reblocked p r → Extends d e → PlaceIn d p → block ≡ p.bytes.items
    → ((v : ℕ → ℕ) → holds (value v d test) ≡ true → value v d offset + length bytes ≤ length block → map (value v e) r.bytes.items ≡ put_at (value v d offset) (map (value v d) bytes) (map (value v d) block))
    → ((v : ℕ → ℕ) → holds (value v d test) ≡ false → (holds (value v d p.born) ≡ false) ⊎ (map (value v e) r.bytes.items ≡ map (value v d) block))
    → (v : ℕ → ℕ) → (holds (value v d test) ≡ true → holds (value v d p.born) ≡ true → value v d offset + length bytes ≤ value v d p.size)
    → spot_of v e r ≡ (if holds (value v d test) then changed_spot (with_bytes_at (value v d offset) (map (value v d) bytes)) (spot_of v d p) else spot_of v d p)
put_spot d e p r test offset bytes block same x h block_is put kept v fits =
    let xs = map (value v d) bytes in
    let many = length-map bytes (value v d) in
    block_spot v d e p r same x h (value v d offset) xs (holds (value v d test)) (λ yes alive. omega (arith, many, fits yes alive))
    (λ yes inside. put v yes (omega (arith, many, inside, ap length block_is)) ∙ ap (λ (ks : List Id). put_at (value v d offset) xs (map (value v d) ks)) block_is)
    (λ no. elim (kept v no) [ inl none ↦ inl none | inr old ↦ inr (old ∙ ap (map (value v d)) block_is) ])

-- ---- nodes of 8 bits

pub bytes_widths : (d : List Node) (ids : List Id) → AreBytes d ids → map (width d) ids ≡ Rattle.std.proofs.Common.replicate (length ids) 8
bytes_widths d [] all = refl
bytes_widths d (i ∷ ids) all = λ j. (All-head (λ (k : Id). IsWord d k 8) i ids all).width_is j ∷ bytes_widths d ids (All-tail (λ (k : Id). IsWord d k 8) i ids all) j

pub bytes_alike : (d : List Node) (xs ys : List Id) → AreBytes d xs → AreBytes d ys → length xs ≡ length ys → map (width d) ys ≡ map (width d) xs
bytes_alike d xs ys first second same = bytes_widths d ys second ∙ ap (λ n. Rattle.std.proofs.Common.replicate n 8) (sym same) ∙ sym (bytes_widths d xs first)

pub are_bytes_by : (e : List Node) (ids : List Id) (n : ℕ) → All (Within e) ids → map (width e) ids ≡ Rattle.std.proofs.Common.replicate n 8 → AreBytes e ids
are_bytes_by e [] n there is = All-nil (λ (k : Id). IsWord e k 8)
are_bytes_by e (i ∷ ids) zero there is = absurd (let wrong : width e i ∷ map (width e) ids ≡ [] = is in cc)
are_bytes_by e (i ∷ ids) (suc n) there is =
    let first : width e i ≡ 8 = cc in
    let rest : map (width e) ids ≡ Rattle.std.proofs.Common.replicate n 8 = cc in
    All-cons (λ (k : Id). IsWord e k 8) i ids (record { there = All-head (Within e) i ids there; width_is = first }) (are_bytes_by e ids n (All-tail (Within e) i ids there) rest)

pub long_by : (d e : List Node) (xs ys : List Id) → map (width e) ys ≡ map (width d) xs → length ys ≡ length xs
long_by d e xs ys same = sym (length-map ys (width e)) ∙ ap length same ∙ length-map xs (width d)

-- ---- one place of many

pub set_changed : (ss : Spots) (i : ℕ) (s : Option Spot) (f : StoredObject → StoredObject) (b : Bool) → i < length ss → s ≡ (if b then changed_spot f (get_or ss i None) else get_or ss i None) → set ss i s ≡ (if b then change_at i f ss else ss)
set_changed [] i s f b lt is = absurd (omega (arith, lt))
set_changed (t ∷ ss) zero s f true lt is = ap (λ (x : Option Spot). x ∷ ss) is
set_changed (t ∷ ss) zero s f false lt is = ap (λ (x : Option Spot). x ∷ ss) is
set_changed (t ∷ ss) (suc i) s f true lt is = ap (λ (xs : Spots). t ∷ xs) (set_changed ss i s f true (omega (arith, lt)) is)
set_changed (t ∷ ss) (suc i) s f false lt is = ap (λ (xs : Spots). t ∷ xs) (set_changed ss i s f false (omega (arith, lt)) is)

pub spot_at : (v : ℕ → ℕ) (d : List Node) (ps : List Place) (i : ℕ) (p z : Place) → i < length ps → p ≡ get_or ps i z → get_or (spots v d ps) i None ≡ spot_of v d p
spot_at v d [] i p z lt is = absurd (omega (arith, lt))
spot_at v d (q ∷ ps) zero p z lt is = ap (spot_of v d) (sym is)
spot_at v d (q ∷ ps) (suc i) p z lt is = spot_at v d ps i p z (omega (arith, lt)) is

changed_one : (v : ℕ → ℕ) (d : List Node) (f : Hit → StoredObject → StoredObject) (hit : Hit) (ss : Spots) (g t : Bool) → holds (value v d hit.test) ≡ t → (if g && t then change_at hit.place (f hit) ss else ss) ≡ (if g then changed_by f (truly v d (hit ∷ [])) ss else ss)
changed_one v d f hit ss true true is = ap (λ b. changed_by f (if b then hit ∷ [] else []) ss) (sym is)
changed_one v d f hit ss true false is = ap (λ b. changed_by f (if b then hit ∷ [] else []) ss) (sym is)
changed_one v d f hit ss false t is = refl

one_fits : (v : ℕ → ℕ) (d : List Node) (ps : List Place) (count : ℕ) (hit : Hit) (p z : Place) → hit.place < length ps → p ≡ get_or ps hit.place z → OneFits v d (spots v d ps) count (truly v d (hit ∷ [])) → holds (value v d hit.test) ≡ true → holds (value v d p.born) ≡ true → value v d hit.offset + count ≤ value v d p.size
one_fits v d ps count hit p z lt is fits test born =
    let one : truly v d (hit ∷ []) ≡ hit ∷ [] = ap (λ b. if b then hit ∷ [] else []) test in
    subst (OneFits v d (spots v d ps) count) one fits (own v d p) (spot_at v d ps hit.place p z lt is ∙ ap (λ b. if b then Some (own v d p) else None) born)

pub written_place : (d e f : List Node) (ps qs : List Place) (hit : Hit) (guard test : Id) (bytes : List Id) (p r z : Place) → All (PlaceIn d) ps → HitIn d (length ps) hit → IsWord d guard 1 → AreBytes d bytes → p ≡ get_or ps hit.place z → Extends d e → IsTest e test (λ v. holds (value v d guard) && holds (value v d hit.test)) → Extends e f
    → ((v : ℕ → ℕ) → (holds (value v e test) ≡ true → holds (value v e p.born) ≡ true → value v e hit.offset + length bytes ≤ value v e p.size)
    → spot_of v f r ≡ (if holds (value v e test) then changed_spot (with_bytes_at (value v e hit.offset) (map (value v e) bytes)) (spot_of v e p) else spot_of v e p)) → qs ≡ set ps hit.place r
    → (v : ℕ → ℕ) → (holds (value v d guard) ≡ true → OneFits v d (spots v d ps) (length bytes) (truly v d (hit ∷ [])))
    → spots v f qs ≡ (if holds (value v d guard) then changed_by (put_by v d (map (value v d) bytes)) (truly v d (hit ∷ [])) (spots v d ps) else spots v d ps)
written_place d e f ps qs hit guard test bytes p r z all hit_in guard_in bytes_in is x1 made x2 given set_is v fits =
    let place_in : PlaceIn d p = subst (PlaceIn d) (sym is) (all hit.place z hit_in.place) in
    let g = holds (value v d guard) in
    let t = holds (value v d hit.test) in
    let test_v : holds (value v e test) ≡ (g && t) = test_is e test (λ u. holds (value u d guard) && holds (value u d hit.test)) made v in
    let off : value v e hit.offset ≡ value v d hit.offset = x1.value_stays v hit.offset hit_in.offset.there in
    let news : map (value v e) bytes ≡ map (value v d) bytes = map_stays v d e bytes x1 (bytes_there d bytes bytes_in) in
    let born : value v e p.born ≡ value v d p.born = x1.value_stays v p.born place_in.born.there in
    let size : value v e p.size ≡ value v d p.size = x1.value_stays v p.size place_in.size.there in
    let spot : spot_of v e p ≡ get_or (spots v d ps) hit.place None = Rattle.object_memory.proofs.Pointed.spot_stays v d e p x1 place_in ∙ sym (spot_at v d ps hit.place p z hit_in.place is) in
    let here = given v (λ yes alive.
    let both : (g && t) ≡ true = sym test_v ∙ yes in
    omega (arith, off, size, one_fits v d ps (length bytes) hit p z hit_in.place is (fits (left_true g t both)) (right_true g t both) (ap holds (sym born) ∙ alive))) in
    let same : spot_of v f r ≡ (if g && t then changed_spot (with_bytes_at (value v d hit.offset) (map (value v d) bytes)) (get_or (spots v d ps) hit.place None) else get_or (spots v d ps) hit.place None) =
    here ∙ (λ i. if test_v i then changed_spot (with_bytes_at (off i) (news i)) (spot i) else spot i) in
    ap (spots v f) set_is ∙ map-set (spot_of v f) ps hit.place r ∙ ap (λ (ss : Spots). set ss hit.place (spot_of v f r)) (spots_stay v d f ps (extends_more d e f x1 x2) all)
    ∙ set_changed (spots v d ps) hit.place (spot_of v f r) (put_by v d (map (value v d) bytes) hit) (g && t) (omega (arith, hit_in.place, length-map ps (spot_of v d))) same
    ∙ changed_one v d (put_by v d (map (value v d) bytes)) hit (spots v d ps) g t refl

pub set_within : (d e : List Node) (ps qs : List Place) (i : ℕ) (r : Place) → Extends d e → All (PlaceIn d) ps → PlaceIn e r → qs ≡ set ps i r → All (PlaceIn e) qs
set_within d e ps qs i r x all here is = subst (All (PlaceIn e)) (sym is) (All-set (PlaceIn e) ps i r here (places_stay d e ps x all))

-- ---- all places that are hit

step_by : (F : Hit → StoredObject → StoredObject) (hit : Hit) (rest : List Hit) (ss now : Spots) (g t : Bool) → now ≡ (if g then changed_by F (if t then hit ∷ [] else []) ss else ss)
    → (if g then changed_by F rest now else now) ≡ (if g then changed_by F (if t then hit ∷ rest else rest) ss else ss)
step_by F hit rest ss now true true is = ap (changed_by F rest) is
step_by F hit rest ss now true false is = ap (changed_by F rest) is
step_by F hit rest ss now false t is = is

put_moved : (v : ℕ → ℕ) (d e : List Node) (xs ys : List ℕ) (hit : Hit) (ss : Spots) (b c : Bool) → b ≡ c → xs ≡ ys → value v e hit.offset ≡ value v d hit.offset → changed_by (put_by v e xs) (if b then hit ∷ [] else []) ss ≡ changed_by (put_by v d ys) (if c then hit ∷ [] else []) ss
put_moved v d e xs ys hit ss b true same bytes off = ap (λ a. changed_by (put_by v e xs) (if a then hit ∷ [] else []) ss) same ∙ (λ i. change_at hit.place (with_bytes_at (off i) (bytes i)) ss)
put_moved v d e xs ys hit ss b false same bytes off = ap (λ a. changed_by (put_by v e xs) (if a then hit ∷ [] else []) ss) same

fits_first : (v : ℕ → ℕ) (d : List Node) (ss : Spots) (n : ℕ) (hit : Hit) (rest : List Hit) (t : Bool) → OneFits v d ss n (if t then hit ∷ rest else rest) → OneFits v d ss n (if t then hit ∷ [] else [])
fits_first v d ss n hit [] true fits = fits
fits_first v d ss n hit (h ∷ rest) true fits = absurd fits
fits_first v d ss n hit rest false fits = tt

fits_rest : (v : ℕ → ℕ) (d : List Node) (F : Hit → StoredObject → StoredObject) (ss now : Spots) (n : ℕ) (hit : Hit) (rest : List Hit) (t : Bool) → now ≡ changed_by F (if t then hit ∷ [] else []) ss → OneFits v d ss n (if t then hit ∷ rest else rest) → OneFits v d now n rest
fits_rest v d F ss now n hit [] true is fits = tt
fits_rest v d F ss now n hit (h ∷ rest) true is fits = absurd fits
fits_rest v d F ss now n hit rest false is fits = subst (λ (s : Spots). OneFits v d s n rest) (sym is) fits

fits_moved : (v : ℕ → ℕ) (d e : List Node) (ss : Spots) (n : ℕ) (hit : Hit) (b c : Bool) → b ≡ c → value v e hit.offset ≡ value v d hit.offset → OneFits v d ss n (if c then hit ∷ [] else []) → OneFits v e ss n (if b then hit ∷ [] else [])
fits_moved v d e ss n hit b true same off fits = subst (λ a. OneFits v e ss n (if a then hit ∷ [] else [])) (sym same) (λ s at. subst (λ m. m + n ≤ s.object.size) (sym off) (fits s at))
fits_moved v d e ss n hit b false same off fits = subst (λ a. OneFits v e ss n (if a then hit ∷ [] else [])) (sym same) tt

pub record Changing (d e : List Node) (start : List Place) (hits : List Hit) (guard : Id) (bytes : List Id) (ps : List Place) (k : ℕ) : Type 0 where
  pub extends : Extends d e
  pub places : All (PlaceIn e) ps
  pub size : length ps ≡ length start
  pub fits : (v : ℕ → ℕ) → (holds (value v d guard) ≡ true → OneFits v d (spots v d start) (length bytes) (truly v d hits)) → holds (value v d guard) ≡ true → OneFits v d (spots v e ps) (length bytes) (truly v d (drop k hits))
  pub same : (v : ℕ → ℕ) → (holds (value v d guard) ≡ true → OneFits v d (spots v d start) (length bytes) (truly v d hits))
      → (if holds (value v d guard) then changed_by (put_by v d (map (value v d) bytes)) (truly v d (drop k hits)) (spots v e ps) else spots v e ps) ≡ (if holds (value v d guard) then changed_by (put_by v d (map (value v d) bytes)) (truly v d hits) (spots v d start) else spots v d start)

pub changing_none : (d : List Node) (start : List Place) (hits : List Hit) (guard : Id) (bytes : List Id) → All (PlaceIn d) start → Changing d d start hits guard bytes start 0
changing_none d start hits guard bytes all = record {
  extends = extends_itself d;
  places = all;
  size = refl;
  fits = λ v given yes. given yes;
  same = λ v given. refl;
}

pub changing_more : (d e f : List Node) (start ps qs : List Place) (hits : List Hit) (guard : Id) (bytes : List Id) (z : Hit) (k : ℕ) → All (HitIn d (length start)) hits → IsWord d guard 1 → AreBytes d bytes → Changing d e start hits guard bytes ps k → k < length hits → Extends e f → All (PlaceIn f) qs → length qs ≡ length ps
    → ((v : ℕ → ℕ) → (holds (value v e guard) ≡ true → OneFits v e (spots v e ps) (length bytes) (truly v e (get_or hits k z ∷ [])))
    → spots v f qs ≡ (if holds (value v e guard) then changed_by (put_by v e (map (value v e) bytes)) (truly v e (get_or hits k z ∷ [])) (spots v e ps) else spots v e ps)) → Changing d f start hits guard bytes qs (k + 1)
changing_more d e f start ps qs hits guard bytes z k hits_in guard_in bytes_in c lt x all long given =
    let hit = get_or hits k z in
    let hit_in = hits_in k z lt in
    let next : k + 1 ≡ suc k = omega arith in
    let whole : (v : ℕ → ℕ) → truly v d (drop k hits) ≡ (if holds (value v d hit.test) then hit ∷ truly v d (drop (k + 1) hits) else truly v d (drop (k + 1) hits)) =
    λ v. ap (truly v d) (drop-cons hits k z lt) ∙ ap (λ n. if holds (value v d hit.test) then hit ∷ truly v d (drop n hits) else truly v d (drop n hits)) (sym next) in
    let test : (v : ℕ → ℕ) → holds (value v e hit.test) ≡ holds (value v d hit.test) = λ v. ap holds (c.extends.value_stays v hit.test hit_in.test.there) in
    let off : (v : ℕ → ℕ) → value v e hit.offset ≡ value v d hit.offset = λ v. c.extends.value_stays v hit.offset hit_in.offset.there in
    let guard_is : (v : ℕ → ℕ) → holds (value v e guard) ≡ holds (value v d guard) = λ v. ap holds (c.extends.value_stays v guard guard_in.there) in
    let news : (v : ℕ → ℕ) → map (value v e) bytes ≡ map (value v d) bytes = λ v. map_stays v d e bytes c.extends (bytes_there d bytes bytes_in) in
    let parts : (v : ℕ → ℕ) → (holds (value v d guard) ≡ true → OneFits v d (spots v d start) (length bytes) (truly v d hits)) → holds (value v d guard) ≡ true → OneFits v d (spots v e ps) (length bytes) (if holds (value v d hit.test) then hit ∷ truly v d (drop (k + 1) hits) else truly v d (drop (k + 1) hits)) =
    λ v fine yes. subst (OneFits v d (spots v e ps) (length bytes)) (whole v) (c.fits v fine yes) in
    let now : (v : ℕ → ℕ) → (holds (value v d guard) ≡ true → OneFits v d (spots v d start) (length bytes) (truly v d hits))
    → spots v f qs ≡ (if holds (value v d guard) then changed_by (put_by v d (map (value v d) bytes)) (if holds (value v d hit.test) then hit ∷ [] else []) (spots v e ps) else spots v e ps) =
    λ v fine.
    given v (λ yes. fits_moved v d e (spots v e ps) (length bytes) hit (holds (value v e hit.test)) (holds (value v d hit.test)) (test v) (off v) (fits_first v d (spots v e ps) (length bytes) hit (truly v d (drop (k + 1) hits)) (holds (value v d hit.test)) (parts v fine (sym (guard_is v) ∙ yes))))
    ∙ (λ i. if guard_is v i then put_moved v d e (map (value v e) bytes) (map (value v d) bytes) hit (spots v e ps) (holds (value v e hit.test)) (holds (value v d hit.test)) (test v) (news v) (off v) i else spots v e ps) in
    record {
      extends = extends_more d e f c.extends x;
      places = all;
      size = long ∙ c.size;
      fits = λ v fine yes.
          fits_rest v d (put_by v d (map (value v d) bytes)) (spots v e ps) (spots v f qs) (length bytes) hit (truly v d (drop (k + 1) hits)) (holds (value v d hit.test))
          (now v fine ∙ ap (λ b. if b then changed_by (put_by v d (map (value v d) bytes)) (if holds (value v d hit.test) then hit ∷ [] else []) (spots v e ps) else spots v e ps) yes) (parts v fine yes);
      same = λ v fine.
          step_by (put_by v d (map (value v d) bytes)) hit (truly v d (drop (k + 1) hits)) (spots v e ps) (spots v f qs) (holds (value v d guard)) (holds (value v d hit.test)) (now v fine)
          ∙ ap (λ (hs : List Hit). if holds (value v d guard) then changed_by (put_by v d (map (value v d) bytes)) hs (spots v e ps) else spots v e ps) (sym (whole v)) ∙ c.same v fine;
    }

pub changing_all : (d e : List Node) (start ps : List Place) (hits : List Hit) (guard : Id) (bytes : List Id) (k : ℕ) → length hits ≤ k → Changing d e start hits guard bytes ps k
    → (v : ℕ → ℕ) → (holds (value v d guard) ≡ true → OneFits v d (spots v d start) (length bytes) (truly v d hits))
    → spots v e ps ≡ (if holds (value v d guard) then changed_by (put_by v d (map (value v d) bytes)) (truly v d hits) (spots v d start) else spots v d start)
changing_all d e start ps hits guard bytes k done c v fine =
    both (holds (value v d guard)) ∙ ap (λ (hs : List Hit). if holds (value v d guard) then changed_by (put_by v d (map (value v d) bytes)) (truly v d hs) (spots v e ps) else spots v e ps) (sym (drop_all k hits done)) ∙ c.same v fine
  where
    both : (b : Bool) → spots v e ps ≡ (if b then spots v e ps else spots v e ps)
    both true = refl
    both false = refl

-- ---- lifetimes that end

live_spot : (v : ℕ → ℕ) (d e : List Node) (p : Place) (live : Id) (t : Bool) → Extends d e → PlaceIn d p → holds (value v e live) ≡ (if t then false else holds (value v d p.live)) → spot_of v e (record p { live = live }) ≡ (if t then changed_spot as_dead (spot_of v d p) else spot_of v d p)
live_spot v d e p live t x h is =
    let born = x.value_stays v p.born h.born.there in
    let number = x.value_stays v p.number h.number.there in
    let size = x.value_stays v p.size h.size.there in
    let bytes = map_stays v d e p.bytes.items x (bytes_there d p.bytes.items h.bytes) in
    (λ i. if holds (born i) then Some (record { number = number i; object = stored (size i) [] (is i) p.readonly p.heap (take (size i) (bytes i)) }) else None) ∙ by t (holds (value v d p.born))
  where
    by : (c b : Bool) → (if b then Some (record { number = value v d p.number; object = stored (value v d p.size) [] (if c then false else holds (value v d p.live)) p.readonly p.heap (take (value v d p.size) (map (value v d) p.bytes.items)) }) else None)
        ≡ (if c then changed_spot as_dead (if b then Some (own v d p) else None) else (if b then Some (own v d p) else None))
    by true true = refl
    by true false = refl
    by false b = refl

live_spots : (v : ℕ → ℕ) (d e : List Node) (ps : List Place) (i : ℕ) (live : Id) (t : Bool) (z : Place) → Extends d e → All (PlaceIn d) ps → i < length ps → holds (value v e live) ≡ (if t then false else holds (value v d (get_or ps i z).live))
    → spots v e (with_live ps i live) ≡ (if t then change_at i as_dead (spots v d ps) else spots v d ps)
live_spots v d e [] i live t z x all lt is = absurd (omega (arith, lt))
live_spots v d e (p ∷ ps) zero live t z x all lt is =
    (λ i. live_spot v d e p live t x (All-head (PlaceIn d) p ps all) is i ∷ spots_stay v d e ps x (All-tail (PlaceIn d) p ps all) i) ∙ by t
  where
    by : (b : Bool) → ((if b then changed_spot as_dead (spot_of v d p) else spot_of v d p) ∷ spots v d ps) ≡ (if b then changed_spot as_dead (spot_of v d p) ∷ spots v d ps else spot_of v d p ∷ spots v d ps)
    by true = refl
    by false = refl
live_spots v d e (p ∷ ps) (suc i) live t z x all lt is =
    (λ j. Rattle.object_memory.proofs.Pointed.spot_stays v d e p x (All-head (PlaceIn d) p ps all) j ∷ live_spots v d e ps i live t z x (All-tail (PlaceIn d) p ps all) (omega (arith, lt)) is j) ∙ by t
  where
    by : (b : Bool) → (spot_of v d p ∷ (if b then change_at i as_dead (spots v d ps) else spots v d ps)) ≡ (if b then spot_of v d p ∷ change_at i as_dead (spots v d ps) else spot_of v d p ∷ spots v d ps)
    by true = refl
    by false = refl

live_within : (e : List Node) (ps : List Place) (i : ℕ) (live : Id) → All (PlaceIn e) ps → IsWord e live 1 → All (PlaceIn e) (with_live ps i live)
live_within e [] i live all word = all
live_within e (p ∷ ps) zero live all word =
    let h = All-head (PlaceIn e) p ps all in
    All-cons (PlaceIn e) (record p { live = live }) ps (record { born = h.born; number = h.number; size = h.size; live = word; bytes = h.bytes; short = h.short; whole = h.whole }) (All-tail (PlaceIn e) p ps all)
live_within e (p ∷ ps) (suc i) live all word = All-cons (PlaceIn e) p (with_live ps i live) (All-head (PlaceIn e) p ps all) (live_within e ps i live (All-tail (PlaceIn e) p ps all) word)

pub live_long : (ps : List Place) (i : ℕ) (live : Id) → length (with_live ps i live) ≡ length ps
live_long [] i live = refl
live_long (p ∷ ps) zero live = refl
live_long (p ∷ ps) (suc i) live = ap suc (live_long ps i live)

pub live_set : (ps : List Place) (i : ℕ) (p : Place) (live : Id) → i < length ps → p ≡ get_or ps i p → set ps i (record p { live = live }) ≡ with_live ps i live
live_set [] i p live lt is = absurd (omega (arith, lt))
live_set (q ∷ ps) zero p live lt is = ap (λ (x : Place). record x { live = live } ∷ ps) is
live_set (q ∷ ps) (suc i) p live lt is = ap (λ (xs : List Place). q ∷ xs) (live_set ps i p live (omega (arith, lt)) is)

pub ended_within : (d e : List Node) (ps qs : List Place) (i : ℕ) (live : Id) → Extends d e → All (PlaceIn d) ps → IsWord e live 1 → qs ≡ with_live ps i live → All (PlaceIn e) qs
ended_within d e ps qs i live x all word is = subst (All (PlaceIn e)) (sym is) (live_within e ps i live (places_stay d e ps x all) word)

ended_life : (v : ℕ → ℕ) (e f : List Node) (ends ended old live : Id) (b : Bool) → holds (value v e ends) ≡ b → value v e ended ≡ 0 → value v f live ≡ (if holds (value v e ends) then value v e ended else value v e old) → holds (value v f live) ≡ (if b then false else holds (value v e old))
ended_life v e f ends ended old live true ends_is none is = ap holds (is ∙ ap (λ c. if c then value v e ended else value v e old) ends_is ∙ none)
ended_life v e f ends ended old live false ends_is none is = ap holds (is ∙ ap (λ c. if c then value v e ended else value v e old) ends_is)

pub ended_spots : (d d1 d2 e : List Node) (ps qs : List Place) (hit : Hit) (guard ends ended live : Id) (p z : Place) → All (PlaceIn d) ps → HitIn d (length ps) hit → p ≡ get_or ps hit.place z → Extends d d1 → Extends d1 d2 → Extends d2 e → IsTest d1 ends (λ v. holds (value v d guard) && holds (value v d hit.test))
    → IsTest d2 ended (λ v. false) → ((v : ℕ → ℕ) → value v e live ≡ (if holds (value v d2 ends) then value v d2 ended else value v d2 p.live)) → qs ≡ with_live ps hit.place live
    → (v : ℕ → ℕ) → spots v e qs ≡ (if holds (value v d guard) then changed_by dead_by (truly v d (hit ∷ [])) (spots v d ps) else spots v d ps)
ended_spots d d1 d2 e ps qs hit guard ends ended live p z all hit_in is x1 x2 x3 made none given qs_is v =
    let x12 = extends_more d d1 d2 x1 x2 in
    let place_in : PlaceIn d p = subst (PlaceIn d) (sym is) (all hit.place z hit_in.place) in
    let g = holds (value v d guard) in
    let t = holds (value v d hit.test) in
    let ends_is : holds (value v d2 ends) ≡ (g && t) = ap holds (x2.value_stays v ends made.there) ∙ test_is d1 ends (λ u. holds (value u d guard) && holds (value u d hit.test)) made v in
    let old : value v d2 p.live ≡ value v d (get_or ps hit.place z).live = x12.value_stays v p.live place_in.live.there ∙ ap (λ (q : Place). value v d q.live) is in
    let life : holds (value v e live) ≡ (if g && t then false else holds (value v d (get_or ps hit.place z).live)) =
    ended_life v d2 e ends ended p.live live (g && t) ends_is (none.value_is v) (given v) ∙ ap (λ n. if g && t then false else holds n) old in
    ap (spots v e) qs_is ∙ live_spots v d e ps hit.place live (g && t) z (extends_more d d2 e x12 x3) all hit_in.place life ∙ changed_one v d dead_by hit (spots v d ps) g t refl

pub record Ending (d e : List Node) (start : List Place) (hits : List Hit) (guard : Id) (ps : List Place) (k : ℕ) : Type 0 where
  pub extends : Extends d e
  pub places : All (PlaceIn e) ps
  pub size : length ps ≡ length start
  pub same : (v : ℕ → ℕ) → (if holds (value v d guard) then changed_by dead_by (truly v d (drop k hits)) (spots v e ps) else spots v e ps) ≡ (if holds (value v d guard) then changed_by dead_by (truly v d hits) (spots v d start) else spots v d start)

pub ending_none : (d : List Node) (start : List Place) (hits : List Hit) (guard : Id) → All (PlaceIn d) start → Ending d d start hits guard start 0
ending_none d start hits guard all = record { extends = extends_itself d; places = all; size = refl; same = λ v. refl }

pub ending_more : (d e f : List Node) (start ps qs : List Place) (hits : List Hit) (guard : Id) (z : Hit) (k : ℕ) → All (HitIn d (length start)) hits → IsWord d guard 1 → Ending d e start hits guard ps k → k < length hits → Extends e f → All (PlaceIn f) qs → length qs ≡ length ps
    → ((v : ℕ → ℕ) → spots v f qs ≡ (if holds (value v e guard) then changed_by dead_by (truly v e (get_or hits k z ∷ [])) (spots v e ps) else spots v e ps)) → Ending d f start hits guard qs (k + 1)
ending_more d e f start ps qs hits guard z k hits_in guard_in c lt x all long given =
    let hit = get_or hits k z in
    let hit_in = hits_in k z lt in
    let next : k + 1 ≡ suc k = omega arith in
    record {
      extends = extends_more d e f c.extends x;
      places = all;
      size = long ∙ c.size;
      same = λ v.
          let test : holds (value v e hit.test) ≡ holds (value v d hit.test) = ap holds (c.extends.value_stays v hit.test hit_in.test.there) in
          let guard_is : holds (value v e guard) ≡ holds (value v d guard) = ap holds (c.extends.value_stays v guard guard_in.there) in
          let whole : truly v d (drop k hits) ≡ (if holds (value v d hit.test) then hit ∷ truly v d (drop (k + 1) hits) else truly v d (drop (k + 1) hits)) =
          ap (truly v d) (drop-cons hits k z lt) ∙ ap (λ n. if holds (value v d hit.test) then hit ∷ truly v d (drop n hits) else truly v d (drop n hits)) (sym next) in
          step_by dead_by hit (truly v d (drop (k + 1) hits)) (spots v e ps) (spots v f qs) (holds (value v d guard)) (holds (value v d hit.test))
          (given v ∙ (λ i. if guard_is i then changed_by dead_by (if test i then hit ∷ [] else []) (spots v e ps) else spots v e ps))
          ∙ ap (λ (hs : List Hit). if holds (value v d guard) then changed_by dead_by hs (spots v e ps) else spots v e ps) (sym whole) ∙ c.same v;
    }

pub ending_all : (d e : List Node) (start ps : List Place) (hits : List Hit) (guard : Id) (k : ℕ) → length hits ≤ k → Ending d e start hits guard ps k
    → (v : ℕ → ℕ) → spots v e ps ≡ (if holds (value v d guard) then changed_by dead_by (truly v d hits) (spots v d start) else spots v d start)
ending_all d e start ps hits guard k done c v =
    both (holds (value v d guard)) ∙ ap (λ (hs : List Hit). if holds (value v d guard) then changed_by dead_by (truly v d hs) (spots v e ps) else spots v e ps) (sym (drop_all k hits done)) ∙ c.same v
  where
    both : (b : Bool) → spots v e ps ≡ (if b then spots v e ps else spots v e ps)
    both true = refl
    both false = refl
