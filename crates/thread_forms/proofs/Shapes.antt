-- An answer that comes for values of their kinds has the shape that its action asks for.
use Rattle.std.proofs.Common.{◌≡◌, ◌<◌, ◌≤◌, ◌+◌, ◌^◌, ℕ, zero, suc, Bool, true, false, ◌&&◌, cond, List, [], ◌∷◌, take, drop, length, slice_get, Option, Some, None, Ok, Err, inl, inr, refl, sym, ap, subst, arith, nat_eq, nat_lt}
use Rattle.std.specs.Prelude.{◌==◌}
use Rattle.std.proofs.lemmas.Bool.{lt-ltb, ltb-false, eq-eqb}
use Rattle.words.specs.declared.check.Class.{Class}
use Rattle.words.specs.declared.check.Class.TheVariants as class
use Rattle.actions.specs.declared.action.Action.{Action}
use Rattle.actions.specs.declared.action.Action.TheVariants.{Read, Write, Look, Draw, Alloc, Die, Free, SectionBegin, SectionEnd, Lock, Unlock, MutexInit, MutexDestroy, Create, Join, End, Exit}
use Rattle.actions.specs.declared.action.Answer.{Answer}
use Rattle.actions.specs.declared.action.Answer.TheVariants as answer
use Rattle.actions.specs.declared.action.Next.{Next}
use Rattle.actions.specs.declared.action.Next.TheVariants.{Act, Ended, Blocked, Broken}
use Rattle.actions.specs.declared.cells.Cell.{Cell}
use Rattle.actions.specs.declared.thread_state.ThreadState.{ThreadState}
use Rattle.actions.specs.declared.thread_state.ThreadState.TheVariants as thread_state
use Rattle.actions.specs.ByteList.{are_bytes}
use Rattle.actions.specs.Behaviour.{shape_of, has_shape, accepts}
use Rattle.actions.specs.Pointer.{object_of, offset_of}
use Rattle.actions.specs.StoredObject.{StoredObject}
use Rattle.actions.specs.States.{ObjectState, absent, dead, live}
use Rattle.actions.specs.Access.{access_break, is_mixed, look, size_in}
use Rattle.actions.specs.Objects.{object_at, state_at, bytes_in, bytes_at}
use Rattle.actions.specs.Memory.{Memory, thread_at, Change, keeps}
use Rattle.actions.specs.Memory.{object as location_object, cell as location_cell, thread as location_thread}
use Rattle.actions.specs.Row.{Row, comes, sees_bytes, sees_thread, Outcome, breaks, moves, outcome_in, unless, Reads}
use Rattle.actions.specs.ThreadRows.{joined}
use Rattle.actions.specs.Table.{row}
use Rattle.weave.specs.Place.{Place, object, byte, thread, is_object, is_thread, byte_in, value_at, ReadsPlace}
use Rattle.weave.specs.Step.{row_by}
use Rattle.thread_forms.proofs.Values.{IsValue, MovesWith, comes_with, both_true}

-- ---- bytes

abbrev pub IsThere : Option ℕ → Type 0
IsThere None = ⊥
IsThere (Some b) = b < 256

abbrev ArePart : ℕ → List ℕ → Type 0
ArePart n bs = (length bs ≡ n) × (are_bytes bs ≡ true)

more : (n b : ℕ) (bs : List ℕ) → b < 256 → ArePart n bs → ArePart (suc n) (b ∷ bs)
more n b bs l h = (ap suc h.0, both_true (nat_lt b 256) (are_bytes bs) (lt-ltb b 256 l) h.1)

first_part : (n : ℕ) (xs : List ℕ) → ((i : ℕ) → i < n → IsThere (slice_get xs i)) → ArePart n (take n xs)
first_part zero xs h = (refl, refl)
first_part (suc n) [] h = absurd (h zero (omega arith))
first_part (suc n) (x ∷ xs) h = more n x (take n xs) (h zero (omega arith)) (first_part n xs (λ i l. h (suc i) (omega arith)))

part : (at n : ℕ) (xs : List ℕ) → ((i : ℕ) → at ≤ i → i < at + n → IsThere (slice_get xs i)) → ArePart n (take n (drop at xs))
part zero n xs h = first_part n xs (λ i l. h i (omega arith) (omega arith))
part (suc at) zero xs h = (refl, refl)
part (suc at) (suc n) [] h = absurd (h (suc at) (omega arith) (omega arith))
part (suc at) (suc n) (x ∷ xs) h = part at (suc n) xs (λ i a b. h (suc i) (omega arith) (omega arith))

part_in : (at n : ℕ) (o : Option StoredObject) → ((i : ℕ) → at ≤ i → i < at + n → IsThere (byte_in i o)) → ArePart n (bytes_in at n o)
part_in at zero None h = (refl, refl)
part_in at (suc n) None h = absurd (h at (omega arith) (omega arith))
part_in at n (Some o) h = part at n o.bytes h

-- ---- an access that breaks nothing is to a live object, within its size

pub record IsLive (s : ObjectState) (end : ℕ) : Type 0 where
  pub size : ℕ
  pub cells : List Cell
  pub readonly : Bool
  pub heap : Bool
  pub is : s ≡ live size cells readonly heap
  pub within : end ≤ size

by_size : (size : ℕ) (cells : List Cell) (readonly heap : Bool) (at n : ℕ) (b : Bool) → nat_lt size (at + n) ≡ b
    → cond b (Some class.Bounds) (cond (false && readonly) (Some class.Readonly) (cond (is_mixed cells at n) (Some class.MixedSize) None)) ≡ None → IsLive (live size cells readonly heap) (at + n)
by_size size cells readonly heap at n true e h = absurd (cc h)
by_size size cells readonly heap at n false e h = record { size = size; cells = cells; readonly = readonly; heap = heap; is = refl; within = ltb-false size (at + n) e }

by_null : (s : ObjectState) (p n : ℕ) (b : Bool) → cond b (Some class.Null) (Rattle.actions.specs.Access.break_at false (offset_of p) n s) ≡ None → IsLive s (offset_of p + n)
by_null s p n true h = absurd (cc h)
by_null absent p n false h = absurd (cc h)
by_null dead p n false h = absurd (cc h)
by_null (live size cells readonly heap) p n false h = by_size size cells readonly heap (offset_of p) n (nat_lt size (offset_of p + n)) refl h

read_live : (s : ObjectState) (p n : ℕ) → access_break false p n s ≡ None → IsLive s (offset_of p + n)
read_live s p n h = by_null s p n (object_of p == 0) h

-- ---- the shape of an answer

abbrev Fitting : Action → Outcome → Type 0
Fitting action (moves a change) = has_shape (shape_of action) a ≡ true
Fitting action _ = Unit {0}

-- the part of a step that its thread's record gives is a word of its bits, or a number below 2 ^ 32
abbrev pub OwnIsSmall : Next → ℕ → Type 0
OwnIsSmall (Act (Draw n) line function) own = own < 2 ^ n
OwnIsSmall (Act (Alloc o) line function) own = own < 2 ^ 32
OwnIsSmall (Act (Create f v) line function) own = own < 2 ^ 32
OwnIsSmall _ own = Unit {0}

module _ (t own : ℕ) (m : Memory) where
  -- what a row reads are values of their kinds, and the bytes of a live object that it reads are there
  pub record IsSound (row : Row) : Type 0 where
    pub value : (p : Place) → ReadsPlace m row p → IsValue (value_at m p)
    pub there : (k i size : ℕ) (cells : List Cell) (readonly heap : Bool) → ReadsPlace m row (object k) → ReadsPlace m row (byte k i) → state_at m.objects k ≡ live size cells readonly heap → i < size
        → IsThere (byte_in i (object_at m.objects k))

  reads_cell : (p n : ℕ) → access_break false p n (state_at m.objects (object_of p)) ≡ None → Reads m (row t own (Read p n)) (location_cell (object_of p) (offset_of p) n)
  reads_cell p n e =
      inr (subst (λ (o : Option Class). Reads m (unless o (sees_bytes p n (λ bytes. comes (moves (answer.Bytes bytes) keeps)))) (location_cell (object_of p) (offset_of p) n)) (sym e) (inl refl))

  read_fits : (p n : ℕ) → IsSound (row t own (Read p n)) → access_break false p n (state_at m.objects (object_of p)) ≡ None → has_shape (shape_of (Read p n)) (answer.Bytes (bytes_at m.objects p n)) ≡ true
  read_fits p n s e =
      let here : IsLive (state_at m.objects (object_of p)) (offset_of p + n) = read_live (state_at m.objects (object_of p)) p n e in
      let all : ArePart n (bytes_at m.objects p n) =
      part_in (offset_of p) n (object_at m.objects (object_of p)) (λ i a b.
      s.there (object_of p) i here.size here.cells here.readonly here.heap (location_object (object_of p), inl refl, refl) (location_cell (object_of p) (offset_of p) n, reads_cell p n e, (refl, a, b)) here.is
      (let w : offset_of p + n ≤ here.size = here.within in omega (arith, w))) in
      both_true (length (bytes_at m.objects p n) == n) (are_bytes (bytes_at m.objects p n)) (eq-eqb (length (bytes_at m.objects p n)) n all.0) all.1

  size_by : (p size : ℕ) (s : ObjectState) (b : Bool) → cond b (Err class.Null) (size_in s) ≡ Ok size → IsValue (is_object s) → nat_lt size (2 ^ 32) ≡ true
  size_by p size s true e h = absurd (cc e)
  size_by p size absent false e h = absurd (cc e)
  size_by p size dead false e h = absurd (cc e)
  size_by p size (live n cells readonly heap) false e h = lt-ltb size (2 ^ 32) (subst (λ (x : ℕ). x < 2 ^ 32) (cc e) h)

  look_fits : (p : ℕ) (subscript : Bool) (size : ℕ) → IsSound (row t own (Look p subscript)) → look p (state_at m.objects (object_of p)) ≡ Ok size → nat_lt size (2 ^ 32) ≡ true
  look_fits p subscript size s e = size_by p size (state_at m.objects (object_of p)) (object_of p == 0) e (s.value (object (object_of p)) (location_object (object_of p), inl refl, refl))

  join_fits : (k v : ℕ) → IsSound (row t own (Join k)) → nat_eq k t ≡ false → thread_at m.threads k ≡ Some (thread_state.Ended v) → nat_lt v (2 ^ 64) ≡ true
  join_fits k v s a e =
      let reads : Reads m (row t own (Join k)) (location_thread k) =
      subst (λ (b : Bool). Reads m (cond b (comes (breaks class.Join)) (sees_thread k (λ state. comes (joined state)))) (location_thread k)) (sym a) (inl refl) in
      lt-ltb v (2 ^ 64) (subst (λ (o : Option ThreadState). IsValue (is_thread o)) e (s.value (thread k) (location_thread k, reads, refl)))

  moves_with : (action : Action) (line function : ℕ) → OwnIsSmall (Act action line function) own → IsSound (row t own action) → MovesWith (Fitting action) (λ c. tt) tt t own m action
  moves_with (Read p n) line function o s = read_fits p n s
  moves_with (Write p bytes first) line function o s = refl
  moves_with (Look p subscript) line function o s = λ size e. look_fits p subscript size s e
  moves_with (Draw n) line function o s = both_true (nat_eq n n) (nat_lt own (2 ^ n)) (eq-eqb n n refl) (lt-ltb own (2 ^ n) o)
  moves_with (Alloc x) line function o s = lt-ltb own (2 ^ 32) o
  moves_with (Die k) line function o s = (refl, refl)
  moves_with (Free p) line function o s = (refl, refl)
  moves_with SectionBegin line function o s = refl
  moves_with SectionEnd line function o s = refl
  moves_with (Lock p) line function o s = λ cell. refl
  moves_with (Unlock p) line function o s = λ cell. refl
  moves_with (MutexInit p) line function o s = λ cell. refl
  moves_with (MutexDestroy p) line function o s = λ cell. refl
  moves_with (Create f v) line function o s = lt-ltb own (2 ^ 32) o
  moves_with (Join k) line function o s = λ a v e. join_fits k v s a e
  moves_with (End v) line function o s = refl
  moves_with Exit line function o s = refl

  pub step_fits : (next : Next) → OwnIsSmall next own → IsSound (row_by t own next) → (a : Answer) (change : Change) → outcome_in m (row_by t own next) ≡ moves a change → accepts next a ≡ true
  step_fits (Act action line function) o s a change e = subst (Fitting action) e (comes_with (Fitting action) (λ c. tt) tt t own m action (moves_with action line function o s))
  step_fits (Ended v) o s a change e = absurd (cc e)
  step_fits Blocked o s a change e = absurd (cc e)
  step_fits (Broken c line function) o s a change e = absurd (cc e)
