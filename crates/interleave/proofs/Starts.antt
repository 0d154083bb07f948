-- Only a Create starts a thread.
use Rattle.std.proofs.Common.{◌≡◌, ℕ, Bool, true, false, cond, List, length, Option, Some, None, Result, Ok, Err, refl}
use Rattle.std.specs.Prelude.{◌==◌, not}
use Rattle.words.specs.declared.check.Class.{Class}
use Rattle.words.specs.declared.check.Class.TheVariants as class
use Rattle.actions.specs.declared.action.Answer.TheVariants as answer
use Rattle.actions.specs.Pointer.{object_of}
use Rattle.actions.specs.ByteList.{mutex_number}
use Rattle.actions.specs.declared.action.Action.{Action}
use Rattle.actions.specs.declared.action.Action.TheVariants.{Read, Write, Look, Draw, Alloc, Die, Free, SectionBegin, SectionEnd, Lock, Unlock, MutexInit, MutexDestroy, Create, Join, End, Exit}
use Rattle.actions.specs.declared.thread_state.ThreadState.{ThreadState}
use Rattle.actions.specs.declared.thread_state.ThreadState.TheVariants.{Running, Ended}
use Rattle.actions.specs.States.{ObjectState, is_absent}
use Rattle.actions.specs.Access.{access_break, can_free, look}
use Rattle.actions.specs.Memory.{Memory, Change, keeps, adds, kills, puts, starts, ends}
use Rattle.actions.specs.Row.{Row, comes, sees_object, sees_bytes, sees_thread, Outcome, breaks, waits, moves, outcome_in, unless}
use Rattle.actions.specs.AccessRows.{accessed, looked}
use Rattle.actions.specs.MutexRows.{with_mutex, destroyed, held_by, set_mutex}
use Rattle.actions.specs.ThreadRows.{joined}
use Rattle.actions.specs.Table.{row}

-- an outcome that starts no thread
abbrev pub ChangeStartsNone : Change → Type 0
ChangeStartsNone (starts number f v) = ⊥
ChangeStartsNone _ = Unit {0}

abbrev pub StartsNone : Outcome → Type 0
StartsNone (moves a change) = ChangeStartsNone change
StartsNone _ = Unit {0}

abbrev RowStartsNone : Row → Type 0
RowStartsNone (comes o) = StartsNone o
RowStartsNone (sees_object n next) = (s : ObjectState) → RowStartsNone (next s)
RowStartsNone (sees_bytes p n next) = (s : List ℕ) → RowStartsNone (next s)
RowStartsNone (sees_thread n next) = (s : Option ThreadState) → RowStartsNone (next s)

starts_none : (m : Memory) (r : Row) → RowStartsNone r → StartsNone (outcome_in m r)
starts_none m (comes o) h = h
starts_none m (sees_object n next) h = starts_none m (next _) (h _)
starts_none m (sees_bytes p n next) h = starts_none m (next _) (h _)
starts_none m (sees_thread n next) h = starts_none m (next _) (h _)

by_break : (o : Option Class) (r : Row) → RowStartsNone r → RowStartsNone (unless o r)
by_break None r h = h
by_break (Some c) r h = tt

by_choice : (b : Bool) (x y : Outcome) → StartsNone x → StartsNone y → StartsNone (cond b x y)
by_choice true x y h k = h
by_choice false x y h k = k

by_kept : (b : Bool) (number : ℕ) → ChangeStartsNone (cond b keeps (kills number))
by_kept true number = tt
by_kept false number = tt

by_row : (b : Bool) (x y : Row) → RowStartsNone x → RowStartsNone y → RowStartsNone (cond b x y)
by_row true x y h k = h
by_row false x y h k = k

by_look : (subscript : Bool) (r : Result ℕ Class) → StartsNone (looked subscript r)
by_look subscript (Ok size) = tt
by_look subscript (Err c) = tt

by_join : (s : Option ThreadState) → StartsNone (joined s)
by_join None = tt
by_join (Some Running) = tt
by_join (Some (Ended v)) = tt

by_access : (writes : Bool) (p n : ℕ) (r : Row) → RowStartsNone r → RowStartsNone (accessed writes p n r)
by_access writes p n r h = λ state. by_break (access_break writes p n state) r h

by_mutex : (p : ℕ) (decide : ℕ → Outcome) → ((k : ℕ) → StartsNone (decide k)) → RowStartsNone (with_mutex p decide)
by_mutex p decide h = by_access true p 4 (sees_bytes p 4 (λ bytes. comes (decide (mutex_number bytes)))) (λ bytes. h (mutex_number bytes))

-- what starts a thread is a Create with its function and value
abbrev ChangeCreates : Action → Change → Type 0
ChangeCreates action (starts number f v) = action ≡ Create f v
ChangeCreates action _ = Unit {0}

abbrev pub OnlyCreates : Action → Outcome → Type 0
OnlyCreates action (moves a change) = ChangeCreates action change
OnlyCreates action _ = Unit {0}

by_change : (action : Action) (change : Change) → ChangeStartsNone change → ChangeCreates action change
by_change action (starts number f v) h = absurd h
by_change action keeps h = tt
by_change action (adds n o) h = tt
by_change action (kills n) h = tt
by_change action (puts p bs) h = tt
by_change action (ends n v) h = tt

weaker : (action : Action) (o : Outcome) → StartsNone o → OnlyCreates action o
weaker action (breaks c) h = tt
weaker action waits h = tt
weaker action (moves a change) h = by_change action change h

none : (m : Memory) (action : Action) (r : Row) → RowStartsNone r → OnlyCreates action (outcome_in m r)
none m action r h = weaker action (outcome_in m r) (starts_none m r h)

pub only_creates : (m : Memory) (t own : ℕ) (action : Action) → OnlyCreates action (outcome_in m (row t own action))
only_creates m t own (Read p n) = none m (Read p n) (row t own (Read p n)) (by_access false p n (sees_bytes p n (λ bytes. comes (moves (answer.Bytes bytes) keeps))) (λ bytes. tt))
only_creates m t own (Write p bytes first) = none m (Write p bytes first) (row t own (Write p bytes first)) (by_access (not first) p (length bytes) (comes (moves answer.Done (puts p bytes))) tt)
only_creates m t own (Look p subscript) = none m (Look p subscript) (row t own (Look p subscript)) (λ state. by_look subscript (look p state))
only_creates m t own (Draw n) = tt
only_creates m t own (Alloc o) = tt
only_creates m t own (Die number) = none m (Die number) (row t own (Die number)) (λ state. by_kept (is_absent state) number)
only_creates m t own (Free p) =
    none m (Free p) (row t own (Free p))
    (by_row (p == 0) (comes (moves answer.Done keeps)) (sees_object (object_of p) (λ state. comes (cond (can_free p state) (moves answer.Done (kills (object_of p))) (breaks class.Free)))) tt
    (λ state. by_choice (can_free p state) (moves answer.Done (kills (object_of p))) (breaks class.Free) tt tt))
only_creates m t own SectionBegin = tt
only_creates m t own SectionEnd = tt
only_creates m t own (Lock p) =
    none m (Lock p) (row t own (Lock p))
    (by_mutex p (λ cell. cond (cell == 0) (set_mutex p (held_by t)) (cond (cell == destroyed) (breaks class.Mutex) waits))
    (λ cell. by_choice (cell == 0) (set_mutex p (held_by t)) (cond (cell == destroyed) (breaks class.Mutex) waits) tt (by_choice (cell == destroyed) (breaks class.Mutex) waits tt tt)))
only_creates m t own (Unlock p) =
    none m (Unlock p) (row t own (Unlock p))
    (by_mutex p (λ cell. cond (cell == held_by t) (set_mutex p 0) (breaks class.Mutex)) (λ cell. by_choice (cell == held_by t) (set_mutex p 0) (breaks class.Mutex) tt tt))
only_creates m t own (MutexInit p) = none m (MutexInit p) (row t own (MutexInit p)) (by_access true p 4 (comes (set_mutex p 0)) tt)
only_creates m t own (MutexDestroy p) =
    none m (MutexDestroy p) (row t own (MutexDestroy p))
    (by_mutex p (λ cell. cond (cell == 0) (set_mutex p destroyed) (breaks class.Mutex)) (λ cell. by_choice (cell == 0) (set_mutex p destroyed) (breaks class.Mutex) tt tt))
only_creates m t own (Create f v) = refl
only_creates m t own (Join k) =
    none m (Join k) (row t own (Join k)) (by_row (k == t) (comes (breaks class.Join)) (sees_thread k (λ state. comes (joined state))) tt (λ state. by_join state))
only_creates m t own (End v) = tt
only_creates m t own Exit = tt
