-- What an event writes, and so what stands at a place, is a value of its kind.
use Rattle.std.proofs.Common.{◌≡◌, ◌<◌, ◌^◌, ℕ, zero, suc, Bool, true, false, not, ◌&&◌, cond, List, [], ◌∷◌, length, slice_get, Option, Some, None, Result, Ok, Err, refl, sym, ap, subst, ◌∙◌, arith, nat_eq, nat_lt, nat_le, true≢false}
use Rattle.std.specs.Prelude.{◌==◌, ◌-◌, ◌+◌}
use Rattle.std.specs.Int.{w32, byte_at, to_le_bytes}
use Rattle.std.proofs.lemmas.Bool.{ltb-true, lt-ltb}
use Rattle.words.specs.declared.check.Class.{Class}
use Rattle.words.specs.declared.check.Class.TheVariants as class
use Rattle.words.specs.BitVector.{word}
use Rattle.actions.specs.declared.action.Action.{Action}
use Rattle.actions.specs.declared.action.Action.TheVariants.{Read, Write, Look, Draw, Alloc, Die, Free, SectionBegin, SectionEnd, Lock, Unlock, MutexInit, MutexDestroy, Create, Join, End, Exit}
use Rattle.actions.specs.declared.action.Answer.TheVariants as answer
use Rattle.actions.specs.declared.action.Next.{Next}
use Rattle.actions.specs.declared.action.Next.TheVariants.{Act, Ended, Blocked, Broken}
use Rattle.actions.specs.declared.thread_state.ThreadState.{ThreadState}
use Rattle.actions.specs.declared.thread_state.ThreadState.TheVariants as thread_state
use Rattle.actions.specs.ByteList.{are_bytes, mutex_number}
use Rattle.actions.specs.Pointer.{object_of, offset_of}
use Rattle.actions.specs.StoredObject.{StoredObject, as_live}
use Rattle.actions.specs.States.{dead, live, state_of, is_absent}
use Rattle.actions.specs.Access.{access_break, look, can_free}
use Rattle.actions.specs.Objects.{state_at, bytes_at}
use Rattle.actions.specs.Memory.{Memory, thread_at, Change, keeps, adds, kills, puts, starts, ends}
use Rattle.actions.specs.Row.{Row, comes, sees_bytes, sees_object, sees_thread, Outcome, breaks, waits, moves, outcome_in, unless}
use Rattle.actions.specs.AccessRows.{looked}
use Rattle.actions.specs.MutexRows.{set_mutex, held_by, destroyed}
use Rattle.actions.specs.ThreadRows.{joined}
use Rattle.actions.specs.Table.{row}
use Rattle.weave.specs.Place.{Place, object, byte, thread, Value, is_object, is_byte, is_thread, written}
use Rattle.weave.specs.Step.{row_by, change_by}
use Rattle.weave.specs.Family.{IsWhole, MakesWhole}
use Rattle.thread_forms.specs.Bounds.{IsTyped, HandsOver}

abbrev pub IsValue : Value → Type 0
IsValue (is_object (live size cells readonly heap)) = size < 2 ^ 32
IsValue (is_byte (Some b)) = b < 256
IsValue (is_thread (Some (thread_state.Ended v))) = v < 2 ^ 64
IsValue _ = Unit {0}

abbrev pub HasValues : Change → Type 0
HasValues (adds n o) = IsTyped o × IsWhole o
HasValues (puts p bytes) = are_bytes bytes ≡ true
HasValues (ends n v) = v < 2 ^ 64
HasValues _ = Unit {0}

pub front : (a b : Bool) → (a && b) ≡ true → a ≡ true
front true b e = refl
front false b e = absurd (true≢false (sym e))

pub back : (a b : Bool) → (a && b) ≡ true → b ≡ true
back true b e = e
back false b e = absurd (true≢false (sym e))

pub both_true : (a b : Bool) → a ≡ true → b ≡ true → (a && b) ≡ true
both_true a b e f = ap (λ (x : Bool). x && b) e ∙ f

-- ---- what a row comes to has a property, if each of its moves has

module _ (P : Outcome → Type 0) (broken : (c : Class) → P (breaks c)) (waiting : P waits) (t own : ℕ) (m : Memory) where
  abbrev pub MovesWith : Action → Type 0
  MovesWith (Read p n) = access_break false p n (state_at m.objects (object_of p)) ≡ None → P (moves (answer.Bytes (bytes_at m.objects p n)) keeps)
  MovesWith (Write p bytes first) = P (moves answer.Done (puts p bytes))
  MovesWith (Look p subscript) = (size : ℕ) → look p (state_at m.objects (object_of p)) ≡ Ok size → P (moves (answer.Size size) keeps)
  MovesWith (Draw n) = P (moves (answer.Word (word n own)) keeps)
  MovesWith (Alloc o) = P (moves (answer.Number own) (adds own (as_live o)))
  MovesWith (Die k) = P (moves answer.Done keeps) × P (moves answer.Done (kills k))
  MovesWith (Free p) = P (moves answer.Done keeps) × P (moves answer.Done (kills (object_of p)))
  MovesWith SectionBegin = P (moves answer.Done keeps)
  MovesWith SectionEnd = P (moves answer.Done keeps)
  MovesWith (Lock p) = (cell : ℕ) → P (set_mutex p cell)
  MovesWith (Unlock p) = (cell : ℕ) → P (set_mutex p cell)
  MovesWith (MutexInit p) = (cell : ℕ) → P (set_mutex p cell)
  MovesWith (MutexDestroy p) = (cell : ℕ) → P (set_mutex p cell)
  MovesWith (Create f v) = P (moves (answer.Number own) (starts own f v))
  MovesWith (Join k) = nat_eq k t ≡ false → (v : ℕ) → thread_at m.threads k ≡ Some (thread_state.Ended v) → P (moves (answer.Value v) keeps)
  MovesWith (End v) = P (moves answer.Done (ends t v))
  MovesWith Exit = P (moves answer.Done keeps)

  unless_by : (o : Option Class) (r : Row) → (o ≡ None → P (outcome_in m r)) → P (outcome_in m (unless o r))
  unless_by None r h = h refl
  unless_by (Some c) r h = broken c

  looked_by : (subscript : Bool) (r : Result ℕ Class) → ((size : ℕ) → r ≡ Ok size → P (moves (answer.Size size) keeps)) → P (looked subscript r)
  looked_by subscript (Ok size) h = h size refl
  looked_by subscript (Err c) h = broken (cond subscript c class.Pointer)

  joined_by : (o : Option ThreadState) → ((v : ℕ) → o ≡ Some (thread_state.Ended v) → P (moves (answer.Value v) keeps)) → P (joined o)
  joined_by None h = broken class.Join
  joined_by (Some thread_state.Running) h = waiting
  joined_by (Some (thread_state.Ended v)) h = h v refl

  join_by : (k : ℕ) (b : Bool) → (b ≡ false → (v : ℕ) → thread_at m.threads k ≡ Some (thread_state.Ended v) → P (moves (answer.Value v) keeps))
      → P (outcome_in m (cond b (comes (breaks class.Join)) (sees_thread k (λ state. comes (joined state)))))
  join_by k true h = broken class.Join
  join_by k false h = joined_by (thread_at m.threads k) (h refl)

  die_by : (k : ℕ) (b : Bool) → P (moves answer.Done keeps) × P (moves answer.Done (kills k)) → P (moves answer.Done (cond b keeps (kills k)))
  die_by k true h = h.0
  die_by k false h = h.1

  either : (b : Bool) (x y : Outcome) → P x → P y → P (cond b x y)
  either true x y h k = h
  either false x y h k = k

  free_by : (p : ℕ) (b : Bool) → P (moves answer.Done keeps) × P (moves answer.Done (kills (object_of p)))
      → P (outcome_in m (cond b (comes (moves answer.Done keeps)) (sees_object (object_of p) (λ state. comes (cond (can_free p state) (moves answer.Done (kills (object_of p))) (breaks class.Free))))))
  free_by p true h = h.0
  free_by p false h = either (can_free p (state_at m.objects (object_of p))) (moves answer.Done (kills (object_of p))) (breaks class.Free) h.1 (broken class.Free)

  mutex_by : (p : ℕ) (decide : ℕ → Outcome) → ((n : ℕ) → P (decide n))
      → P (outcome_in m (unless (access_break true p 4 (state_at m.objects (object_of p))) (sees_bytes p 4 (λ bytes. comes (decide (mutex_number bytes))))))
  mutex_by p decide h = unless_by (access_break true p 4 (state_at m.objects (object_of p))) (sees_bytes p 4 (λ bytes. comes (decide (mutex_number bytes)))) (λ e. h (mutex_number (bytes_at m.objects p 4)))

  pub comes_with : (action : Action) → MovesWith action → P (outcome_in m (row t own action))
  comes_with (Read p n) h = unless_by (access_break false p n (state_at m.objects (object_of p))) (sees_bytes p n (λ bytes. comes (moves (answer.Bytes bytes) keeps))) h
  comes_with (Write p bytes first) h = unless_by (access_break (not first) p (length bytes) (state_at m.objects (object_of p))) (comes (moves answer.Done (puts p bytes))) (λ e. h)
  comes_with (Look p subscript) h = looked_by subscript (look p (state_at m.objects (object_of p))) h
  comes_with (Draw n) h = h
  comes_with (Alloc o) h = h
  comes_with (Die k) h = die_by k (is_absent (state_at m.objects k)) h
  comes_with (Free p) h = free_by p (p == 0) h
  comes_with SectionBegin h = h
  comes_with SectionEnd h = h
  comes_with (Lock p) h = mutex_by p (λ cell. cond (cell == 0) (set_mutex p (held_by t)) (cond (cell == destroyed) (breaks class.Mutex) waits))
      (λ n. either (n == 0) (set_mutex p (held_by t)) (cond (n == destroyed) (breaks class.Mutex) waits) (h (held_by t)) (either (n == destroyed) (breaks class.Mutex) waits (broken class.Mutex) waiting))
  comes_with (Unlock p) h = mutex_by p (λ cell. cond (cell == held_by t) (set_mutex p 0) (breaks class.Mutex))
      (λ n. either (n == held_by t) (set_mutex p 0) (breaks class.Mutex) (h 0) (broken class.Mutex))
  comes_with (MutexInit p) h = unless_by (access_break true p 4 (state_at m.objects (object_of p))) (comes (set_mutex p 0)) (λ e. h 0)
  comes_with (MutexDestroy p) h = mutex_by p (λ cell. cond (cell == 0) (set_mutex p destroyed) (breaks class.Mutex))
      (λ n. either (n == 0) (set_mutex p destroyed) (breaks class.Mutex) (h destroyed) (broken class.Mutex))
  comes_with (Create f v) h = h
  comes_with (Join k) h = join_by k (nat_eq k t) h
  comes_with (End v) h = h
  comes_with Exit h = h

-- ---- what a step writes

low_byte : (i n : ℕ) → byte_at i n < 256
low_byte zero n = omega arith
low_byte (suc i) n = omega arith

mutex_bytes : (cell : ℕ) → are_bytes (to_le_bytes w32 cell) ≡ true
mutex_bytes cell =
    both_true (nat_lt (byte_at 0 cell) 256) (nat_lt (byte_at 1 cell) 256 && (nat_lt (byte_at 2 cell) 256 && (nat_lt (byte_at 3 cell) 256 && true))) (lt-ltb (byte_at 0 cell) 256 (low_byte 0 cell))
    (both_true (nat_lt (byte_at 1 cell) 256) (nat_lt (byte_at 2 cell) 256 && (nat_lt (byte_at 3 cell) 256 && true)) (lt-ltb (byte_at 1 cell) 256 (low_byte 1 cell))
    (both_true (nat_lt (byte_at 2 cell) 256) (nat_lt (byte_at 3 cell) 256 && true) (lt-ltb (byte_at 2 cell) 256 (low_byte 2 cell))
    (both_true (nat_lt (byte_at 3 cell) 256) true (lt-ltb (byte_at 3 cell) 256 (low_byte 3 cell)) refl)))

module _ (t own : ℕ) (m : Memory) where
  abbrev Writes : Outcome → Type 0
  Writes o = HasValues (change_by o)

  moves_with : (action : Action) (line function : ℕ) → HandsOver (Act action line function) → MakesWhole (Act action line function) → MovesWith Writes (λ c. tt) tt t own m action
  moves_with (Read p n) line function h w = λ e. tt
  moves_with (Write p bytes first) line function h w = h
  moves_with (Look p subscript) line function h w = λ size e. tt
  moves_with (Draw n) line function h w = tt
  moves_with (Alloc o) line function h w = (h, w)
  moves_with (Die k) line function h w = (tt, tt)
  moves_with (Free p) line function h w = (tt, tt)
  moves_with SectionBegin line function h w = tt
  moves_with SectionEnd line function h w = tt
  moves_with (Lock p) line function h w = λ cell. mutex_bytes cell
  moves_with (Unlock p) line function h w = λ cell. mutex_bytes cell
  moves_with (MutexInit p) line function h w = λ cell. mutex_bytes cell
  moves_with (MutexDestroy p) line function h w = λ cell. mutex_bytes cell
  moves_with (Create f v) line function h w = tt
  moves_with (Join k) line function h w = λ a v e. tt
  moves_with (End v) line function h w = h
  moves_with Exit line function h w = tt

  pub writes_values : (next : Next) → HandsOver next → MakesWhole next → HasValues (change_by (outcome_in m (row_by t own next)))
  writes_values (Act action line function) h w = comes_with Writes (λ c. tt) tt t own m action (moves_with action line function h w)
  writes_values (Ended v) h w = tt
  writes_values Blocked h w = tt
  writes_values (Broken c line function) h w = tt

-- ---- what is written at a place

pub get_byte : (bs : List ℕ) (i : ℕ) → are_bytes bs ≡ true → IsValue (is_byte (slice_get bs i))
get_byte [] i e = tt
get_byte (b ∷ bs) zero e = ltb-true b 256 (front (nat_lt b 256) (are_bytes bs) e)
get_byte (b ∷ bs) (suc i) e = get_byte bs i (back (nat_lt b 256) (are_bytes bs) e)

state_by : (o : StoredObject) (b : Bool) → IsTyped o → IsValue (is_object (cond b (live o.size o.cells o.readonly o.heap) dead))
state_by o true h = h.0
state_by o false h = tt

pub object_value : (o : Option StoredObject) → ((x : StoredObject) → o ≡ Some x → IsTyped x) → IsValue (is_object (state_of o))
object_value None h = tt
object_value (Some o) h = state_by o o.live (h o refl)

only_by : (b : Bool) (x v : Value) → cond b (Some x) None ≡ Some v → IsValue x → IsValue v
only_by true x v e h = subst IsValue (cc e) h
only_by false x v e h = absurd (cc e)

put_by : (a b : Bool) (x v : Value) → cond a (cond b (Some x) None) None ≡ Some v → IsValue x → IsValue v
put_by true b x v e h = only_by b x v e h
put_by false b x v e h = absurd (cc e)

pub written_value : (change : Change) (p : Place) (v : Value) → HasValues change → written change p ≡ Some v → IsValue v
written_value (adds n o) (object k) v h e = only_by (nat_eq k n) (is_object (state_of (Some o))) v e (state_by o o.live h.0)
written_value (adds n o) (byte k i) v h e = only_by (nat_eq k n) (is_byte (slice_get o.bytes i)) v e (get_byte o.bytes i h.0.1)
written_value (adds n o) (thread k) v h e = absurd (cc e)
written_value (kills n) (object k) v h e = only_by (nat_eq k n) (is_object dead) v e tt
written_value (kills n) (byte k i) v h e = absurd (cc e)
written_value (kills n) (thread k) v h e = absurd (cc e)
written_value (puts p bytes) (object k) v h e = absurd (cc e)
written_value (puts p bytes) (byte k i) v h e =
    put_by (nat_eq k (object_of p)) (nat_le (offset_of p) i && nat_lt i (offset_of p + length bytes)) (is_byte (slice_get bytes (i - offset_of p))) v e (get_byte bytes (i - offset_of p) h)
written_value (puts p bytes) (thread k) v h e = absurd (cc e)
written_value (starts n f u) (object k) v h e = absurd (cc e)
written_value (starts n f u) (byte k i) v h e = absurd (cc e)
written_value (starts n f u) (thread k) v h e = only_by (nat_eq k n) (is_thread (Some thread_state.Running)) v e tt
written_value (ends n u) (object k) v h e = absurd (cc e)
written_value (ends n u) (byte k i) v h e = absurd (cc e)
written_value (ends n u) (thread k) v h e = only_by (nat_eq k n) (is_thread (Some (thread_state.Ended u))) v e h
written_value keeps (object k) v h e = absurd (cc e)
written_value keeps (byte k i) v h e = absurd (cc e)
written_value keeps (thread k) v h e = absurd (cc e)
