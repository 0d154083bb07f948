-- Only a Create starts a thread, and only an End ends one.
use Rattle.std.proofs.Common.{◌≡◌, ℕ, Bool, true, false, not, cond, length, Option, Some, None, Result, Ok, Err, refl, subst}
use Rattle.std.specs.Prelude.{◌==◌}
use Rattle.words.specs.declared.check.Class.{Class}
use Rattle.words.specs.declared.check.Class.TheVariants as class
use Rattle.actions.specs.declared.action.Action.{Action}
use Rattle.actions.specs.declared.action.Action.TheVariants.{Read, Write, Look, Draw, Alloc, Die, Free, SectionBegin, SectionEnd, Lock, Unlock, MutexInit, MutexDestroy, Create, Join, End, Exit}
use Rattle.actions.specs.declared.action.Answer.{Answer}
use Rattle.actions.specs.declared.action.Answer.TheVariants as answer
use Rattle.actions.specs.declared.action.Next.{Next}
use Rattle.actions.specs.declared.action.Next.TheVariants.{Act, Ended, Blocked, Broken}
use Rattle.actions.specs.declared.thread_state.ThreadState.{ThreadState}
use Rattle.actions.specs.declared.thread_state.ThreadState.TheVariants as thread_state
use Rattle.actions.specs.ByteList.{mutex_number}
use Rattle.actions.specs.Pointer.{object_of}
use Rattle.actions.specs.States.{is_absent}
use Rattle.actions.specs.Access.{access_break, look, can_free}
use Rattle.actions.specs.Objects.{state_at, bytes_at}
use Rattle.actions.specs.Memory.{Memory, thread_at, keeps, kills, puts, starts, ends}
use Rattle.actions.specs.Row.{Row, comes, sees_bytes, sees_object, sees_thread, Outcome, breaks, waits, moves, outcome_in, unless}
use Rattle.actions.specs.AccessRows.{looked}
use Rattle.actions.specs.MutexRows.{set_mutex, held_by, destroyed}
use Rattle.actions.specs.ThreadRows.{joined}
use Rattle.actions.specs.Table.{row}
use Rattle.weave.specs.Step.{row_by}

-- what an action's outcome says of threads
abbrev pub Touches : ℕ → ℕ → Action → Outcome → Type 0
Touches t own action (moves a (starts n f v)) = (action ≡ Create f v) × (n ≡ own)
Touches t own action (moves a (ends n v)) = (action ≡ End v) × (n ≡ t) × (a ≡ answer.Done)
Touches t own action _ = Unit {0}

module _ (t own : ℕ) (action : Action) (m : Memory) where
  abbrev Calm : Outcome → Type 0
  Calm o = Touches t own action o

  unless_by : (o : Option Class) (r : Row) → Calm (outcome_in m r) → Calm (outcome_in m (unless o r))
  unless_by None r h = h
  unless_by (Some c) r h = tt

  looked_by : (subscript : Bool) (r : Result ℕ Class) → Calm (looked subscript r)
  looked_by subscript (Ok size) = tt
  looked_by subscript (Err c) = tt

  joined_by : (o : Option ThreadState) → Calm (joined o)
  joined_by None = tt
  joined_by (Some thread_state.Running) = tt
  joined_by (Some (thread_state.Ended v)) = tt

  join_by : (k : ℕ) (b : Bool) → Calm (outcome_in m (cond b (comes (breaks class.Join)) (sees_thread k (λ state. comes (joined state)))))
  join_by k true = tt
  join_by k false = joined_by (thread_at m.threads k)

  die_by : (k : ℕ) (b : Bool) → Calm (moves answer.Done (cond b keeps (kills k)))
  die_by k true = tt
  die_by k false = tt

  either : (b : Bool) (x y : Outcome) → Calm x → Calm y → Calm (cond b x y)
  either true x y h k = h
  either false x y h k = k

  free_by : (p : ℕ) (b : Bool) → Calm (outcome_in m (cond b (comes (moves answer.Done keeps)) (sees_object (object_of p) (λ state. comes (cond (can_free p state) (moves answer.Done (kills (object_of p))) (breaks class.Free))))))
  free_by p true = tt
  free_by p false = either (can_free p (state_at m.objects (object_of p))) (moves answer.Done (kills (object_of p))) (breaks class.Free) tt tt

  mutex_by : (p : ℕ) (decide : ℕ → Outcome) → ((n : ℕ) → Calm (decide n))
      → Calm (outcome_in m (unless (access_break true p 4 (state_at m.objects (object_of p))) (sees_bytes p 4 (λ bytes. comes (decide (mutex_number bytes))))))
  mutex_by p decide h = unless_by (access_break true p 4 (state_at m.objects (object_of p))) (sees_bytes p 4 (λ bytes. comes (decide (mutex_number bytes)))) (h (mutex_number (bytes_at m.objects p 4)))

pub touches_row : (t own : ℕ) (m : Memory) (action : Action) → Touches t own action (outcome_in m (row t own action))
touches_row t own m (Read p n) = unless_by t own (Read p n) m (access_break false p n (state_at m.objects (object_of p))) (sees_bytes p n (λ bytes. comes (moves (answer.Bytes bytes) keeps))) tt
touches_row t own m (Write p bytes first) =
    unless_by t own (Write p bytes first) m (access_break (not first) p (length bytes) (state_at m.objects (object_of p))) (comes (moves answer.Done (puts p bytes))) tt
touches_row t own m (Look p subscript) = looked_by t own (Look p subscript) m subscript (look p (state_at m.objects (object_of p)))
touches_row t own m (Draw n) = tt
touches_row t own m (Alloc o) = tt
touches_row t own m (Die number) = die_by t own (Die number) m number (is_absent (state_at m.objects number))
touches_row t own m (Free p) = free_by t own (Free p) m p (p == 0)
touches_row t own m SectionBegin = tt
touches_row t own m SectionEnd = tt
touches_row t own m (Lock p) = mutex_by t own (Lock p) m p (λ cell. cond (cell == 0) (set_mutex p (held_by t)) (cond (cell == destroyed) (breaks class.Mutex) waits))
    (λ n. either t own (Lock p) m (n == 0) (set_mutex p (held_by t)) (cond (n == destroyed) (breaks class.Mutex) waits) tt (either t own (Lock p) m (n == destroyed) (breaks class.Mutex) waits tt tt))
touches_row t own m (Unlock p) = mutex_by t own (Unlock p) m p (λ cell. cond (cell == held_by t) (set_mutex p 0) (breaks class.Mutex))
    (λ n. either t own (Unlock p) m (n == held_by t) (set_mutex p 0) (breaks class.Mutex) tt tt)
touches_row t own m (MutexInit p) = unless_by t own (MutexInit p) m (access_break true p 4 (state_at m.objects (object_of p))) (comes (set_mutex p 0)) tt
touches_row t own m (MutexDestroy p) = mutex_by t own (MutexDestroy p) m p (λ cell. cond (cell == 0) (set_mutex p destroyed) (breaks class.Mutex))
    (λ n. either t own (MutexDestroy p) m (n == 0) (set_mutex p destroyed) (breaks class.Mutex) tt tt)
touches_row t own m (Create f v) = (refl, refl)
touches_row t own m (Join k) = join_by t own (Join k) m k (k == t)
touches_row t own m (End v) = (refl, refl, refl)
touches_row t own m Exit = tt

-- a step that starts thread k is a Create with k for its own part
pub record IsCreating (t own : ℕ) (n : Next) (k f v : ℕ) : Type 0 where
  pub line : ℕ
  pub function : ℕ
  pub create : n ≡ Act (Create f v) line function
  pub number : k ≡ own

pub creating : (t own : ℕ) (m : Memory) (n : Next) (a : Answer) (k f v : ℕ) → outcome_in m (row_by t own n) ≡ moves a (starts k f v) → IsCreating t own n k f v
creating t own m (Act action line function) a k f v e =
    let h : (action ≡ Create f v) × (k ≡ own) = subst (λ (o : Outcome). Touches t own action o) e (touches_row t own m action) in
    record { line = line; function = function; create = λ i. Act (h.0 i) line function; number = h.1 }
creating t own m (Ended w) a k f v e = absurd (cc e)
creating t own m Blocked a k f v e = absurd (cc e)
creating t own m (Broken c line function) a k f v e = absurd (cc e)

-- a step that ends a thread is its own End
pub record IsEnding (t : ℕ) (n : Next) (a : Answer) (k v : ℕ) : Type 0 where
  pub line : ℕ
  pub function : ℕ
  pub end : n ≡ Act (End v) line function
  pub itself : k ≡ t
  pub done : a ≡ answer.Done

pub ending : (t own : ℕ) (m : Memory) (n : Next) (a : Answer) (k v : ℕ) → outcome_in m (row_by t own n) ≡ moves a (ends k v) → IsEnding t n a k v
ending t own m (Act action line function) a k v e =
    let h : (action ≡ End v) × (k ≡ t) × (a ≡ answer.Done) = subst (λ (o : Outcome). Touches t own action o) e (touches_row t own m action) in
    record { line = line; function = function; end = λ i. Act (h.0 i) line function; itself = h.1; done = h.2 }
ending t own m (Ended w) a k v e = absurd (cc e)
ending t own m Blocked a k v e = absurd (cc e)
ending t own m (Broken c line function) a k v e = absurd (cc e)
