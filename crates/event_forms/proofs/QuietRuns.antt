-- Runs of actions of which the only thread of a file never waits: those that forms tell.
use Rattle.std.proofs.Common.{◌≡◌, ◌<◌, ◌≤◌, ◌+◌, ◌^◌, ℕ, zero, suc, Bool, true, false, List, [], ◌∷◌, ◌++◌, length, map, take, refl, sym, subst, arith}
use Rattle.std.specs.Prelude.{nat_lt, ◌&&◌, min, if◌then◌else◌}
use Rattle.std.proofs.lemmas.List.Elements.{All-head, All-tail}
use Rattle.std.proofs.lemmas.Bool.Decides.{nat_tests}
use Rattle.word_dag.specs.declared.nodes.Id.{Id}
use Rattle.word_dag.specs.declared.nodes.Node.{Node}
use Rattle.word_dag.specs.Meaning.{value, holds}
use Rattle.word_dag.specs.Fitting.{is_ordered}
use Rattle.value_nodes.specs.Values.{IsWord, AreBytes}
use Rattle.value_nodes.proofs.Made.{word_below}
use Rattle.actions.specs.ByteList.{are_bytes}
use Rattle.actions.specs.Objects.{Objects}
use Rattle.actions.specs.StoredObject.{StoredObject}
use Rattle.actions.specs.Pointer.{object_of}
use Rattle.actions.specs.declared.action.Action.{Action}
use Rattle.actions.specs.declared.action.Action.TheVariants as actions
use Rattle.actions.specs.declared.action.Answer.{Answer}
use Rattle.actions.specs.declared.action.Next.{Next}
use Rattle.actions.specs.declared.action.Next.TheVariants.{Act, Ended, Blocked, Broken}
use Rattle.actions.specs.Behaviour.{Behaviour, after, accepts, word_64}
use Rattle.actions.specs.LocalRun.{Exchange, IsLocalRun}
use Rattle.c_values.specs.Variables.{word_count}
use Rattle.c_values.specs.MadeObjects.{made_of}
use Rattle.c_values.proofs.MadeObjects.{made_can_be}
use Rattle.event_forms.specs.declared.forms.Event.{Event}
use Rattle.event_forms.specs.declared.forms.EventKind.{EventKind}
use Rattle.event_forms.specs.declared.forms.EventKind.TheVariants as kinds
use Rattle.event_forms.specs.Runs.{Run, stops, asks}
use Rattle.event_forms.specs.Arrivals.{Seen, stopped, read}
use Rattle.event_forms.specs.Forms.{draws_seen, kind_seen, seen, run_read, Begins, IsForm, EventIn, KindIn, FormIn}
use Rattle.event_forms.specs.Accesses.{HoldsBytes}
use Rattle.event_forms.proofs.Quiet.{IsQuietAction, more}

-- ---- what is next

abbrev pub IsQuiet : Next → Type 0
IsQuiet (Act action line f) = IsQuietAction action
IsQuiet (Ended w) = Unit {0}
IsQuiet Blocked = Unit {0}
IsQuiet (Broken class line f) = Unit {0}

abbrev pub IsEnd : Next → Type 0
IsEnd (Act action line f) = ⊥
IsEnd (Ended w) = Unit {0}
IsEnd Blocked = Unit {0}
IsEnd (Broken class line f) = Unit {0}

quiet_end : (end : Next) → IsEnd end → IsQuiet end
quiet_end (Act action line f) is = absurd is
quiet_end (Ended w) is = tt
quiet_end Blocked is = tt
quiet_end (Broken class line f) is = tt

-- behind an exit nothing is done
abbrev pub OnlyQuiet : Run → Type 0
OnlyQuiet (stops end) = IsEnd end
OnlyQuiet (asks action line f a rest) = IsQuietAction action × (action ≡ actions.Exit → rest ≡ stops (Ended (word_64 0))) × OnlyQuiet rest

abbrev pub AreEnds : Run → Type 0
AreEnds (stops end) = IsEnd end
AreEnds (asks action line f a rest) = AreEnds rest

pub quiet_ends : (r : Run) → OnlyQuiet r → AreEnds r
quiet_ends (stops end) only = only
quiet_ends (asks action line f a rest) only = quiet_ends rest only.2

-- ---- how many objects are made

abbrev pub made_next : Next → ℕ
made_next (Act action line f) = more action 0
made_next (Ended w) = 0
made_next Blocked = 0
made_next (Broken class line f) = 0

-- in exchanges and what is next
abbrev pub made_by : List Exchange → Next → ℕ
made_by [] next = made_next next
made_by (x ∷ xs) next = more x.action (made_by xs next)

-- in a run
abbrev pub made_in : Run → ℕ
made_in (stops end) = 0
made_in (asks action line f a rest) = more action (made_in rest)

more_higher : (action : Action) (m n : ℕ) → m ≤ n → more action m ≤ more action n
more_higher (actions.Alloc o) m n le = omega (arith, le)
more_higher _ m n le = le

pub more_moves : (action : Action) (m n : ℕ) → more action m + n ≡ m + more action n
more_moves (actions.Alloc o) m n = omega arith
more_moves _ m n = refl

-- ---- what events tell

byte_is : (n : ℕ) → n < 2 ^ 8 → nat_lt n 256 ≡ true
byte_is n h = grind (arith, nat_tests)

pub values_bytes : (v : ℕ → ℕ) (d : List Node) (ids : List Id) → is_ordered d ≡ true → AreBytes d ids → are_bytes (map (value v d) ids) ≡ true
values_bytes v d [] ordered words = refl
values_bytes v d (i ∷ ids) ordered words =
    let first = byte_is (value v d i) (word_below v d i 8 ordered (All-head (λ (k : Id). IsWord d k 8) i ids words)) in
    λ k. first k && values_bytes v d ids ordered (All-tail (λ (k : Id). IsWord d k 8) i ids words) k

abbrev pub ended : Run
ended = stops (Ended (word_64 0))

pub made_holds : (readonly heap : Bool) (bs : List ℕ) → HoldsBytes (made_of readonly heap bs)
made_holds readonly heap bs = let can = made_can_be readonly heap bs in record { whole = can.object.whole; small = can.small; bytes = can.bytes }

-- of what is told later too; an event makes one object at most
record Tells (r later : Run) : Type 0 where
  only : OnlyQuiet r
  few : made_in r ≤ suc (made_in later)

same_few : (n : ℕ) → n ≤ suc n
same_few n = omega arith

itself : (n : ℕ) → n ≤ n
itself n = omega arith

abbrev told_with : List Seen → List Seen → Run
told_with first more = read (first ++ more) ended

record Draws (words more : List Seen) : Type 0 where
  only : OnlyQuiet (told_with words more)
  few : made_in (told_with words more) ≤ made_in (read more ended)

draws_tell : (line f k size offset : ℕ) (ws : List ℕ) (later : List Seen) → OnlyQuiet (read later ended) → Draws (draws_seen line f k size offset ws) later
draws_tell line f zero size offset ws later only = record { only = only; few = itself (made_in (read later ended)) }
draws_tell line f (suc k) size offset [] later only = record { only = only; few = itself (made_in (read later ended)) }
draws_tell line f (suc k) size offset (w ∷ ws) later only =
    let rest = draws_tell line f k size (offset + 8) ws later only in
    record { only = (tt, (λ same. absurd (not_exit same)), rest.only); few = rest.few }
  where
    not_exit : {n : ℕ} → actions.Draw n ≡ actions.Exit → ⊥
    not_exit same = cc

module _ (v : ℕ → ℕ) (d : List Node) (ordered : is_ordered d ≡ true) where
  stop_or : (b : Bool) (end : Next) → IsEnd end → (later : List Seen) → OnlyQuiet (read later ended) → Tells (told_with (if b then stopped end ∷ [] else []) later) (read later ended)
  stop_or true end is later only = record { only = is; few = omega arith }
  stop_or false end is later only = record { only = only; few = same_few (made_in (read later ended)) }

  quiet_kind : (line f : ℕ) (k : EventKind) (later : List Seen) → KindIn d k → OnlyQuiet (read later ended) → Tells (told_with (kind_seen v d line f k) later) (read later ended)
  quiet_kind line f (kinds.Draw bits answer) later there only = record { only = (tt, (λ same. absurd (let wrong : actions.Draw bits ≡ actions.Exit = same in cc)), only); few = same_few (made_in (read later ended)) }
  quiet_kind line f (kinds.Fill count most words) later there only =
      let size = min (value v d count) most in
      let told = draws_tell line f (word_count size) size 0 (map (value v d) words) later only in
      let few = told.few in
      record { only = told.only; few = omega (arith, few) }
  quiet_kind line f (kinds.Read pointer count answer) later there only =
      record { only = (tt, (λ same. absurd (let wrong : actions.Read (value v d pointer) count ≡ actions.Exit = same in cc)), only); few = same_few (made_in (read later ended)) }
  quiet_kind line f (kinds.Write pointer bytes first) later there only =
      record { only = (values_bytes v d bytes ordered there.1, (λ same. absurd (let wrong : actions.Write (value v d pointer) (map (value v d) bytes) first ≡ actions.Exit = same in cc)), only); few = same_few (made_in (read later ended)) }
  quiet_kind line f (kinds.Look pointer subscript answer) later there only =
      record { only = (tt, (λ same. absurd (let wrong : actions.Look (value v d pointer) subscript ≡ actions.Exit = same in cc)), only); few = same_few (made_in (read later ended)) }
  quiet_kind line f (kinds.Alloc size bytes readonly heap answer) later there only =
      let o : StoredObject = made_of readonly heap (take (value v d size) (map (value v d) bytes)) in
      record { only = (made_holds readonly heap (take (value v d size) (map (value v d) bytes)), (λ same. absurd (let wrong : actions.Alloc o ≡ actions.Exit = same in cc)), only); few = itself (suc (made_in (read later ended))) }
  quiet_kind line f (kinds.Die pointer) later there only =
      let k = object_of (value v d pointer) in
      record { only = (tt, (λ same. absurd (let wrong : actions.Die k ≡ actions.Exit = same in cc)), only); few = same_few (made_in (read later ended)) }
  quiet_kind line f (kinds.Free pointer) later there only =
      record { only = (tt, (λ same. absurd (let wrong : actions.Free (value v d pointer) ≡ actions.Exit = same in cc)), only); few = same_few (made_in (read later ended)) }
  quiet_kind line f kinds.Exit later there only = record { only = (tt, (λ same. refl), tt); few = omega arith }
  quiet_kind line f (kinds.Check class failing) later there only = stop_or (holds (value v d failing)) (Broken class line f) tt later only
  quiet_kind line f (kinds.Assume failing) later there only = stop_or (holds (value v d failing)) Blocked tt later only

  quiet_event : (b : Bool) (line f : ℕ) (k : EventKind) (later : List Seen) → KindIn d k → OnlyQuiet (read later ended) → Tells (told_with (if b then kind_seen v d line f k else []) later) (read later ended)
  quiet_event true line f k later there only = quiet_kind line f k later there only
  quiet_event false line f k later there only = record { only = only; few = same_few (made_in (read later ended)) }

  -- the run of a valuation, which makes as many objects as there are events at most
  pub record ReadQuiet (es : List Event) : Type 0 where
    pub only : OnlyQuiet (run_read v d es)
    pub few : made_in (run_read v d es) ≤ length es

  pub read_quiet : (es : List Event) → FormIn d es → ReadQuiet es
  read_quiet [] there = record { only = tt; few = omega arith }
  read_quiet (e ∷ es) there =
      let later = read_quiet es (All-tail (EventIn d) e es there) in
      let told = quiet_event (holds (value v d e.guard)) e.line e.function e.kind (seen v d es) (All-head (EventIn d) e es there).kind later.only in
      let few = told.few in
      let rest = later.few in
      record { only = told.only; few = omega (arith, few, rest) }

-- ---- and local runs

record IsFew (r : Run) (xs : List Exchange) (next : Next) : Type 0 where
  quiet : IsQuiet next
  few : made_by xs next ≤ made_in r

begins_few : (r : Run) → OnlyQuiet r → (xs : List Exchange) (next : Next) → Begins xs next r → IsFew r xs next
begins_few (stops end) only [] next begins = subst (λ (n : Next). IsFew (stops end) [] n) begins (record { quiet = quiet_end end only; few = none end only })
  where
    none : (end : Next) → IsEnd end → made_next end ≤ 0
    none (Act action line f) is = absurd is
    none (Ended w) is = omega arith
    none Blocked is = omega arith
    none (Broken class line f) is = omega arith
begins_few (stops end) only (x ∷ xs) next begins = absurd begins
begins_few (asks action line f a rest) only [] next begins =
    subst (λ (n : Next). IsFew (asks action line f a rest) [] n) begins (record { quiet = only.0; few = more_higher action 0 (made_in rest) (omega arith) })
begins_few (asks action line f a rest) only (x ∷ xs) next begins =
    let later = begins_few rest only.2 xs next begins.4 in
    record { quiet = later.quiet; few = subst (λ (y : Action). more y (made_by xs next) ≤ more action (made_in rest)) (sym begins.0) (more_higher action (made_by xs next) (made_in rest) later.few) }

-- each local run from here on is of such actions, and the objects that it makes beside those of the store have numbers
pub record Quiets (objects : Objects) (b : Behaviour) : Type 0 where
  pub quiet : (xs : List Exchange) (next : Next) → IsLocalRun b xs next → IsQuiet next
  pub room : (xs : List Exchange) (next : Next) → IsLocalRun b xs next → length objects + made_by xs next < 2 ^ 32

pub form_quiet : (objects : Objects) (b : Behaviour) (d : List Node) (es : List Event) → is_ordered d ≡ true → FormIn d es → length objects + length es < 2 ^ 32 → IsForm b d es → Quiets objects b
form_quiet objects b d es ordered there room form =
    let is : (xs : List Exchange) (next : Next) → IsLocalRun b xs next → (v : ℕ → ℕ) × IsFew (run_read v d es) xs next =
    λ xs next local. let h = form.has xs next local in (h.0, begins_few (run_read h.0 d es) (read_quiet h.0 d ordered es there).only xs next h.1) in
    record {
      quiet = λ xs next local. (is xs next local).1.quiet;
      room = λ xs next local.
          let h = is xs next local in
          let all = (read_quiet h.0 d ordered es there).few in
          let own = h.1.few in
          omega (arith, all, own, room);
    }

-- behind an action
pub quiets_behind : (objects later : Objects) (b : Behaviour) (action : Action) (line f : ℕ) (a : Answer) → b [] ≡ Act action line f → accepts (b []) a ≡ true → length later ≡ more action (length objects) → Quiets objects b → Quiets later (after b a)
quiets_behind objects later b action line f a is ok long q =
    let x : Exchange = record { action = action; line = line; function = f; answer = a } in
    record {
      quiet = λ xs next local. q.quiet (x ∷ xs) next (is, ok, local);
      room = λ xs next local.
          let all = q.room (x ∷ xs) next (is, ok, local) in
          let moved = more_moves action (length objects) (made_by xs next) in
          omega (arith, all, long, moved);
    }
