-- Forms of many threads: for main and for each place where a thread is created a list of guarded events, over variables that a valuation gives numbers.
use Rattle.std.specs.Prelude.{◌≡◌, ◌<◌, ◌≤◌, ℕ, zero, suc, Bool, true, false, List, [], ◌∷◌, Option, Some, None}
use Rattle.actions.specs.declared.action.Action.TheVariants.{Create}
use Rattle.actions.specs.declared.action.Answer.{Answer}
use Rattle.actions.specs.declared.action.Answer.TheVariants as answer
use Rattle.actions.specs.declared.action.Next.{Next}
use Rattle.actions.specs.declared.action.Next.TheVariants.{Act, Ended, Blocked}
use Rattle.actions.specs.Behaviour.{Behaviour, after, Thread}
use Rattle.actions.specs.LocalRun.{Exchange, IsLocalRun}
use Rattle.weave.specs.Candidate.{In}

abbrev pub Valuation : Type 0
Valuation = ℕ → ℕ

-- what an event tells under a valuation, where its guard is true: a check that passes tells nothing, an action tells itself and the answer that the valuation has for it, and a check or assumption that fails tells how the thread stops
pub data Told : Type 0 where
  passes : Told
  asks : (next : Next) (answer : Answer) → Told
  stops : (next : Next) → Told

pub record Event : Type 0 where
  pub guard : Valuation → Bool
  pub told : Valuation → Told

-- a name carries its event
pub record Name : Type 0 where
  pub form : ℕ
  pub place : ℕ
  pub event : Event

-- form 0 is main's, form i + 1 that of the i-th place where a thread is created, with the event that creates it. The variables of form i are those from low i on, below low (i + 1).
pub record Forms : Type 0 where
  pub many : ℕ
  pub events : ℕ → List Event
  pub creator : ℕ → Name
  pub low : ℕ → ℕ

abbrev pub named : ℕ → ℕ → List Event → List Name
named i n [] = []
named i n (e ∷ es) = record { form = i; place = n; event = e } ∷ named i (suc n) es

abbrev pub names : Forms → ℕ → List Name
names F i = named i 0 (F.events i)

abbrev pub number_told : Told → ℕ
number_told (asks next (answer.Number n)) = n
number_told _ = 0

abbrev pub begun : Thread → Told → Behaviour
begun t (asks (Act (Create f v) line function) a) = t.program.behaves f v
begun t _ = λ answers. Blocked

-- the thread number of a form, and what its thread does: both are told by the Create
abbrev pub number : Forms → Valuation → ℕ → ℕ
number F v zero = 0
number F v (suc i) = number_told ((F.creator i).event.told v)

abbrev pub begins : Forms → Thread → Valuation → ℕ → Behaviour
begins F t v zero = t.behaves
begins F t v (suc i) = begun t ((F.creator i).event.told v)

abbrev pub goes_by : Bool → Told → Behaviour → (Behaviour → Type 0) → Type 0
goes_by false told b rest = rest b
goes_by true passes b rest = rest b
goes_by true (asks next a) b rest = (b [] ≡ next) × rest (after b a)
goes_by true (stops next) b rest = b [] ≡ next

-- it goes on no more
abbrev pub IsStopped : Next → Type 0
IsStopped (Ended w) = Unit {0}
IsStopped Blocked = Unit {0}
IsStopped _ = ⊥

-- the thread does what the events tell, and nothing behind them
abbrev pub Goes : Valuation → Behaviour → List Event → Type 0
Goes v b [] = IsStopped (b [])
Goes v b (e ∷ es) = goes_by (e.guard v) (e.told v) b (λ c. Goes v c es)

-- an event that is an action is a Create where a form names it as its creator, under every valuation
abbrev pub IsCreating : Told → Type 0
IsCreating (asks (Act (Create f v) line function) (answer.Number n)) = Unit {0}
IsCreating _ = ⊥

abbrev pub is_create : Told → Bool
is_create (asks (Act (Create f v) line function) a) = true
is_create _ = false

-- ---- what the events tell one after another; nothing where a guard is false

abbrev pub heard_if : Bool → Told → Option Told
heard_if true d = Some d
heard_if false d = None

abbrev pub heard_at : Valuation → Event → Option Told
heard_at v e = heard_if (e.guard v) (e.told v)

abbrev pub heard : Valuation → List Event → List (Option Told)
heard v [] = []
heard v (e ∷ es) = heard_at v e ∷ heard v es

-- no action
abbrev pub IsStop : Next → Type 0
IsStop (Act action line function) = ⊥
IsStop _ = Unit {0}

abbrev pub begins_by : Told → List Exchange → Next → (List Exchange → Type 0) → Type 0
begins_by passes run next rest = rest run
begins_by (asks n a) [] next rest = n ≡ next
begins_by (asks n a) (x ∷ run) next rest = (n ≡ Act x.action x.line x.function) × (a ≡ x.answer) × rest run
begins_by (stops n) [] next rest = (n ≡ next) × IsStop n
begins_by (stops n) (x ∷ run) next rest = ⊥

abbrev pub ends_with : List Exchange → Next → Type 0
ends_with [] next = IsStopped next
ends_with (x ∷ run) next = ⊥

-- what is told begins with these exchanges, and then this is next; behind all that is told the thread goes on no more
abbrev pub Begins : List Exchange → Next → List (Option Told) → Type 0
Begins run next [] = ends_with run next
Begins run next (None ∷ told) = Begins run next told
Begins run next (Some d ∷ told) = begins_by d run next (λ rest. Begins rest next told)

-- ---- blocks of variables

-- the same numbers for all variables below n
abbrev pub SameBelow : ℕ → Valuation → Valuation → Type 0
SameBelow n v w = (x : ℕ) → x < n → v x ≡ w x

abbrev pub SameEvent : Valuation → Valuation → Event → Type 0
SameEvent v w e = (e.guard v ≡ e.guard w) × (e.told v ≡ e.told w)

-- the forms of a thread and of those that it creates. Under each valuation each form tells what its thread does (gives), and each local run of the thread is told by a valuation that differs from a given one only from the form's own block of variables on (has). A form's events know no variable behind its block (alone), and blocks rise. Each creator is a Create of an earlier form (earlier, placed, creating), each Create is the creator of one form (whole, once).
pub record AreForms (t : Thread) (F : Forms) : Type 0 where
  pub some : 0 < F.many
  pub gives : (v : Valuation) (i : ℕ) → i < F.many → Goes v (begins F t v i) (F.events i)
  pub has : (v : Valuation) (i : ℕ) → i < F.many → (run : List Exchange) (next : Next) → IsLocalRun (begins F t v i) run next
      → (w : Valuation) × SameBelow (F.low i) v w × Begins run next (heard w (F.events i))
  pub alone : (i : ℕ) → i < F.many → (v w : Valuation) → SameBelow (F.low (suc i)) v w → (x : Name) → In x (names F i) → SameEvent v w x.event
  pub rises : (i : ℕ) → F.low i ≤ F.low (suc i)
  pub earlier : (i : ℕ) → (F.creator i).form ≤ i
  pub placed : (i : ℕ) → suc i < F.many → In (F.creator i) (names F (F.creator i).form)
  pub creating : (i : ℕ) → suc i < F.many → (v : Valuation) → IsCreating ((F.creator i).event.told v)
  pub once : (i j : ℕ) → suc i < F.many → suc j < F.many → F.creator i ≡ F.creator j → i ≡ j
  pub whole : (v : Valuation) (x : Name) → x.form < F.many → In x (names F x.form) → is_create (x.event.told v) ≡ true → (i : ℕ) × (suc i < F.many) × (F.creator i ≡ x)
