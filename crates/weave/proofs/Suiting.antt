-- What a row changes is a change that its memory takes.
use Rattle.std.proofs.Common.{◌≡◌, ◌≤◌, ◌+◌, ℕ, Bool, true, false, not, cond, length, Option, Some, None, refl, sym, ap, subst, ◌∙◌, arith, nat_eq, nat_lt, IfSome, Ok, Err, true≢false}
use Rattle.std.specs.Prelude.{Result, ◌==◌, ◌&&◌}
use Rattle.std.proofs.lemmas.Bool.{ltb-false}
use Rattle.words.specs.declared.check.Class.{Class}
use Rattle.words.specs.declared.check.Class.TheVariants.{Null, InvalidPointer, Lifetime, Bounds, Readonly, MixedSize, Mutex}
use Rattle.words.specs.declared.check.Class.TheVariants as class
use Rattle.actions.specs.declared.action.Action.{Action}
use Rattle.actions.specs.declared.action.Action.TheVariants.{Read, Write, Look, Draw, Alloc, Die, Free, SectionBegin, SectionEnd, Lock, Unlock, MutexInit, MutexDestroy, Create, Join, End, Exit}
use Rattle.actions.specs.declared.action.Answer.TheVariants as answer
use Rattle.actions.specs.declared.action.Next.{Next}
use Rattle.actions.specs.declared.action.Next.TheVariants.{Act, Ended, Blocked, Broken}
use Rattle.actions.specs.declared.thread_state.ThreadState.{ThreadState}
use Rattle.actions.specs.declared.thread_state.ThreadState.TheVariants as thread_state
use Rattle.actions.specs.ByteList.{mutex_number}
use Rattle.actions.specs.Pointer.{object_of, offset_of}
use Rattle.actions.specs.StoredObject.{StoredObject}
use Rattle.actions.specs.States.{dead, live, state_of, is_absent}
use Rattle.actions.specs.Access.{access_break, break_at, is_mixed, look, can_free}
use Rattle.actions.specs.Objects.{object_at, state_at, bytes_at}
use Rattle.actions.specs.Memory.{Memory, thread_at, keeps, kills, puts}
use Rattle.actions.specs.Row.{Row, comes, sees_bytes, sees_object, sees_thread, Outcome, breaks, waits, moves, outcome_in, unless}
use Rattle.actions.specs.AccessRows.{looked}
use Rattle.actions.specs.MutexRows.{set_mutex, held_by, destroyed}
use Rattle.actions.specs.ThreadRows.{joined}
use Rattle.actions.specs.Table.{row}
use Rattle.weave.specs.Step.{row_by, change_by}
use Rattle.weave.specs.Family.{IsWhole, MakesWhole, AreWhole}
use Rattle.weave.proofs.Changing.{Fits, HasRoom}

-- an access that breaks nothing is to an object that is there, within its size
record IsWithin (o : Option StoredObject) (end : ℕ) : Type 0 where
  stored : StoredObject
  there : o ≡ Some stored
  within : end ≤ stored.size

by_size : (x : StoredObject) (writes : Bool) (at n : ℕ) (b : Bool) → nat_lt x.size (at + n) ≡ b
    → cond b (Some Bounds) (cond (writes && x.readonly) (Some Readonly) (cond (is_mixed x.cells at n) (Some MixedSize) None)) ≡ None → IsWithin (Some x) (at + n)
by_size x writes at n true e h = absurd (cc h)
by_size x writes at n false e h = record { stored = x; there = refl; within = ltb-false x.size (at + n) e }

by_life : (x : StoredObject) (writes : Bool) (at n : ℕ) (b : Bool) → break_at writes at n (cond b (live x.size x.cells x.readonly x.heap) dead) ≡ None → IsWithin (Some x) (at + n)
by_life x writes at n true h = by_size x writes at n (nat_lt x.size (at + n)) refl h
by_life x writes at n false h = absurd (cc h)

by_object : (o : Option StoredObject) (writes : Bool) (at n : ℕ) → break_at writes at n (state_of o) ≡ None → IsWithin o (at + n)
by_object None writes at n h = absurd (cc h)
by_object (Some x) writes at n h = by_life x writes at n x.live h

by_null : (o : Option StoredObject) (writes : Bool) (at n : ℕ) (b : Bool) → cond b (Some Null) (break_at writes at n (state_of o)) ≡ None → IsWithin o (at + n)
by_null o writes at n true h = absurd (cc h)
by_null o writes at n false h = by_object o writes at n h

module _ (m : Memory) (whole : AreWhole m.objects) where
  roomy : (k end : ℕ) → IsWithin (object_at m.objects k) end → HasRoom m.objects k end
  roomy k end h =
      let sound : IsWhole h.stored = subst (λ (o : Option StoredObject). IfSome o IsWhole) h.there (whole k) in
      record { stored = h.stored; there = h.there; room = subst (λ (n : ℕ). end ≤ n) (sym sound) h.within }

  accessible : (writes : Bool) (p n : ℕ) → access_break writes p n (state_at m.objects (object_of p)) ≡ None → HasRoom m.objects (object_of p) (offset_of p + n)
  accessible writes p n h = roomy (object_of p) (offset_of p + n) (by_null (object_at m.objects (object_of p)) writes (offset_of p) n (object_of p == 0) h)

  abbrev FitsOf : Row → Type 0
  FitsOf r = Fits m (change_by (outcome_in m r))

  unless_by : (o : Option Class) (r : Row) → (o ≡ None → FitsOf r) → FitsOf (unless o r)
  unless_by None r h = h refl
  unless_by (Some c) r h = tt

  looked_by : (subscript : Bool) (r : Result ℕ Class) → Fits m (change_by (looked subscript r))
  looked_by subscript (Ok size) = tt
  looked_by subscript (Err c) = tt

  joined_by : (o : Option ThreadState) → Fits m (change_by (joined o))
  joined_by None = tt
  joined_by (Some thread_state.Running) = tt
  joined_by (Some (thread_state.Ended v)) = tt

  join_by : (k : ℕ) (b : Bool) → FitsOf (cond b (comes (breaks class.Join)) (sees_thread k (λ state. comes (joined state))))
  join_by k true = tt
  join_by k false = joined_by (thread_at m.threads k)

  present_by : (k : ℕ) (o : Option StoredObject) → object_at m.objects k ≡ o → (o ≡ None → ⊥) → HasRoom m.objects k 0
  present_by k None e h = absurd (h refl)
  present_by k (Some x) e h = record { stored = x; there = e; room = omega arith }

  die_by : (k : ℕ) (o : Option StoredObject) → object_at m.objects k ≡ o → (b : Bool) → is_absent (state_of o) ≡ b → Fits m (cond b keeps (kills k))
  die_by k o e true h = tt
  die_by k o e false h = present_by k o e (λ f. true≢false (sym (ap (λ (x : Option StoredObject). is_absent (state_of x)) f) ∙ h))

  killed_by : (p : ℕ) (o : Option StoredObject) → object_at m.objects (object_of p) ≡ o → (b : Bool) → can_free p (state_of o) ≡ b
      → Fits m (change_by (cond b (moves answer.Done (kills (object_of p))) (breaks class.Free)))
  killed_by p o e true h = present_by (object_of p) o e (λ f. true≢false (sym h ∙ ap (λ (x : Option StoredObject). can_free p (state_of x)) f ∙ never (nat_eq (offset_of p) 0)))
    where
      never : (b : Bool) → (b && false) ≡ false
      never true = refl
      never false = refl
  killed_by p o e false h = tt

  free_by : (p : ℕ) (b : Bool) → FitsOf (cond b (comes (moves answer.Done keeps)) (sees_object (object_of p) (λ state. comes (cond (can_free p state) (moves answer.Done (kills (object_of p))) (breaks class.Free)))))
  free_by p true = tt
  free_by p false = killed_by p (object_at m.objects (object_of p)) refl (can_free p (state_at m.objects (object_of p))) refl

  set_by : (p cell : ℕ) → access_break true p 4 (state_at m.objects (object_of p)) ≡ None → Fits m (change_by (set_mutex p cell))
  set_by p cell h = accessible true p 4 h

  either : (b : Bool) (x y : Outcome) → Fits m (change_by x) → Fits m (change_by y) → Fits m (change_by (cond b x y))
  either true x y h k = h
  either false x y h k = k

  module _ (p : ℕ) where
    mutex_by : (decide : ℕ → Outcome) → ((access_break true p 4 (state_at m.objects (object_of p)) ≡ None) → (n : ℕ) → Fits m (change_by (decide n)))
        → FitsOf (unless (access_break true p 4 (state_at m.objects (object_of p))) (sees_bytes p 4 (λ bytes. comes (decide (mutex_number bytes)))))
    mutex_by decide h = unless_by (access_break true p 4 (state_at m.objects (object_of p))) (sees_bytes p 4 (λ bytes. comes (decide (mutex_number bytes)))) (λ e. h e (mutex_number (bytes_at m.objects p 4)))

  module _ (t own : ℕ) (line function : ℕ) (running : (s : ThreadState) × (thread_at m.threads t ≡ Some s)) where
    fits_row : (action : Action) → MakesWhole (Act action line function) → FitsOf (row t own action)
    fits_row (Read p n) w = unless_by (access_break false p n (state_at m.objects (object_of p))) (sees_bytes p n (λ bytes. comes (moves (answer.Bytes bytes) keeps))) (λ e. tt)
    fits_row (Write p bytes first) w =
        unless_by (access_break (not first) p (length bytes) (state_at m.objects (object_of p))) (comes (moves answer.Done (puts p bytes))) (accessible (not first) p (length bytes))
    fits_row (Look p subscript) w = looked_by subscript (look p (state_at m.objects (object_of p)))
    fits_row (Draw n) w = tt
    fits_row (Alloc o) w = w
    fits_row (Die number) w = die_by number (object_at m.objects number) refl (is_absent (state_at m.objects number)) refl
    fits_row (Free p) w = free_by p (p == 0)
    fits_row SectionBegin w = tt
    fits_row SectionEnd w = tt
    fits_row (Lock p) w = mutex_by p (λ cell. cond (cell == 0) (set_mutex p (held_by t)) (cond (cell == destroyed) (breaks Mutex) waits))
        (λ e n. either (n == 0) (set_mutex p (held_by t)) (cond (n == destroyed) (breaks Mutex) waits) (set_by p (held_by t) e) (either (n == destroyed) (breaks Mutex) waits tt tt))
    fits_row (Unlock p) w = mutex_by p (λ cell. cond (cell == held_by t) (set_mutex p 0) (breaks Mutex))
        (λ e n. either (n == held_by t) (set_mutex p 0) (breaks Mutex) (set_by p 0 e) tt)
    fits_row (MutexInit p) w = unless_by (access_break true p 4 (state_at m.objects (object_of p))) (comes (set_mutex p 0)) (set_by p 0)
    fits_row (MutexDestroy p) w = mutex_by p (λ cell. cond (cell == 0) (set_mutex p destroyed) (breaks Mutex))
        (λ e n. either (n == 0) (set_mutex p destroyed) (breaks Mutex) (set_by p destroyed e) tt)
    fits_row (Create f v) w = tt
    fits_row (Join k) w = join_by k (k == t)
    fits_row (End v) w = running
    fits_row Exit w = tt

-- what a thread's step changes is a change that its memory takes
pub fits_step : (m : Memory) (t own : ℕ) (next : Next) → AreWhole m.objects → (s : ThreadState) × (thread_at m.threads t ≡ Some s) → MakesWhole next → Fits m (change_by (outcome_in m (row_by t own next)))
fits_step m t own (Act action line function) whole running w = fits_row m whole t own line function running action w
fits_step m t own (Ended v) whole running w = tt
fits_step m t own Blocked whole running w = tt
fits_step m t own (Broken c line function) whole running w = tt
