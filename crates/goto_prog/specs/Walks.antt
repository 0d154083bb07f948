-- A thread that walks through code of functions: the activations that are open, and what it does.
use Rattle.std.specs.Prelude.{◌≡◌, ◌<◌, ℕ, zero, suc, ◌+◌, ◌==◌, Bool, true, ◌&&◌, nat_lt, List, [], ◌∷◌, length, Option, Some, None, slice_get, slice_index, slice_set, if◌then◌else◌}
use Rattle.std.specs.List.{list_all}
use Rattle.c_types.specs.declared.integers.IntegerType.TheVariants as types
use Rattle.core_tree.specs.Ranges.{Limits}
use Rattle.actions.specs.declared.action.Next.{Next}
use Rattle.actions.specs.declared.action.Next.TheVariants.{Ended}
use Rattle.actions.specs.Behaviour.{Behaviour, Thread, word_64}
use Rattle.goto_prog.specs.declared.nodes.Procedure.{Procedure}
use Rattle.goto_prog.specs.declared.activation.Received.{Received}
use Rattle.goto_prog.specs.declared.activation.Received.TheVariants as receiveds
use Rattle.goto_prog.specs.declared.walker.Status.{Status}
use Rattle.goto_prog.specs.declared.walker.Status.TheVariants as statuses
use Rattle.goto_prog.specs.Meaning.{Given, received}
use Rattle.goto_prog.specs.Threads.{Calls, acting, final}
use Rattle.goto_prog.specs.Fitting.{is_register}
use Rattle.goto_prog.specs.Running.{is_act}
use Rattle.goto_prog.specs.Nodes.{Routine, view_procedures, routines_fit}
use Rattle.goto_prog.specs.Structured.{Bounded, activation, opened, leaves, leaves_with, bounded_program}
use Rattle.goto_prog.specs.Walking.{Activation, does, does_on, does_from, place_weight, nodes_weights, first_of, StopsOn}

-- an activation that waits for what a call hands over: the function that it called, how many activations of that might be opened before, and where the bytes are put
pub record Waiting : Type 0 where
  pub activation : Activation
  pub function : ℕ
  pub count : ℕ
  pub into : ℕ
  pub returned : ℕ

abbrev pub is_waiting : Waiting → Bool
is_waiting w = nat_lt w.into (length w.activation.working.sizes) && is_register w.activation.working.types w.returned types.Int

-- a thread: how many activations of each function may still be opened, the activation that runs, and those that wait, the innermost first; and the function that it called first, with its line
pub record Walk : Type 0 where
  pub strict : Bool
  pub functions : List Procedure
  pub limits : Limits
  pub first : Bool
  pub number : ℕ
  pub line : ℕ
  pub status : Status
  pub left : List ℕ
  pub top : Activation
  pub below : List Waiting

abbrev pub bounded : Walk → Bounded
bounded w = record { strict = w.strict; functions = view_procedures w.functions; limits = w.limits }

pub record IsWalk (w : Walk) : Type 0 where
  pub fits : routines_fit (view_procedures w.functions) ≡ true

-- ---- what it does

abbrev pub total : List ℕ → ℕ
total [] = 0
total (n ∷ ns) = n + total ns

-- calls, where so many activations may still be opened
abbrev pub calls_with : Bounded → List ℕ → Calls
calls_with b left = activation b (suc (total left)) left

-- as many activations may be opened as before a call
abbrev pub closed : List ℕ → Waiting → List ℕ
closed left w = slice_set left w.function w.count

-- what becomes of what the activation on top hands over
abbrev pub hands_to : Bounded → (Given → Behaviour) → List ℕ → List Waiting → Given → Behaviour
hands_to b ends left [] given = ends given
hands_to b ends left (w ∷ ws) given =
    let now = closed left w in
    does_from b (acting (calls_with b now) (hands_to b ends now ws)) w.activation.place (received w.activation.working.memory w.into w.returned given)

abbrev pub ends_of : Walk → Given → Behaviour
ends_of w = leaves w.first w.number w.line

-- what it does where so many words of the instruction of the activation on top have been drawn
abbrev pub top_on : Walk → (words : ℕ) → Behaviour
top_on w words = does_on (bounded w) (calls_with (bounded w) w.left) (hands_to (bounded w) (ends_of w) w.left w.below) words w.top

abbrev pub does_by : Status → Walk → Behaviour
does_by statuses.Running w = does (bounded w) (calls_with (bounded w) w.left) (hands_to (bounded w) (ends_of w) w.left w.below) w.top
does_by (statuses.Drawing words) w = top_on w words
does_by (statuses.Leaving v) w = leaves_with w.first w.number w.line v
does_by (statuses.Over v) w = final (Ended (word_64 v))

-- how it stands when the activation on top has taken an answer
abbrev pub status_behind : Received → Status
status_behind receiveds.GoesOn = statuses.Running
status_behind (receiveds.Draws words) = statuses.Drawing words
status_behind receiveds.Ends = statuses.Over 0

abbrev pub walks : Walk → Behaviour
walks w = does_by w.status w

abbrev pub thread_of : Walk → Thread
thread_of w = record { behaves = walks w; program = bounded_program (bounded w) }

-- ---- how many steps are left at most

abbrev pub entry_weight : Bounded → (ℕ → ℕ) → Option Routine → ℕ
entry_weight b w None = 0
entry_weight b w (Some p) = first_of b w (nodes_weights b w p.nodes (1 ∷ []))

abbrev pub call_weight : Bounded → (fuel : ℕ) (left : List ℕ) → ℕ → ℕ
call_weight b zero left f = 0
call_weight b (suc fuel) left f = if slice_index left f == 0 then 0 else entry_weight b (call_weight b fuel (opened left f)) (slice_get b.functions f)

abbrev pub calls_weight : Bounded → List ℕ → ℕ → ℕ
calls_weight b left f = call_weight b (suc (total left)) left f

abbrev pub waiting_weight : Bounded → List ℕ → List Waiting → ℕ
waiting_weight b left [] = 0
waiting_weight b left (w ∷ ws) = let now = closed left w in place_weight b (calls_weight b now) w.activation.place + waiting_weight b now ws

abbrev pub weight_by : Status → Walk → ℕ
weight_by statuses.Running w = place_weight (bounded w) (calls_weight (bounded w) w.left) w.top.place + waiting_weight (bounded w) w.left w.below
weight_by (statuses.Drawing words) w = suc (place_weight (bounded w) (calls_weight (bounded w) w.left) w.top.place + waiting_weight (bounded w) w.left w.below)
weight_by (statuses.Leaving v) w = 0
weight_by (statuses.Over v) w = 0

abbrev pub weight : Walk → ℕ
weight w = weight_by w.status w

-- ---- steps

-- it stops at what is next; at an action the activation on top does
abbrev pub IsHalted : Status → Walk → Next → Type 0
IsHalted statuses.Running w next = is_act next ≡ true → StopsOn (bounded w) 0 w.top next
IsHalted (statuses.Drawing words) w next = is_act next ≡ true → StopsOn (bounded w) words w.top next
IsHalted (statuses.Leaving v) w next = Unit {0}
IsHalted (statuses.Over v) w next = Unit {0}

abbrev pub Steps : Walk → Walk → Option Next → Type 0
Steps old new None = (thread_of new ≡ thread_of old) × (weight new < weight old)
Steps old new (Some next) = (new ≡ old) × (next ≡ walks old []) × IsHalted old.status old next

-- the activation that waits innermost, and the others
abbrev pub Pops : Walk → Walk → Option Waiting → Type 0
Pops old new None = (old.below ≡ []) × (new ≡ old)
Pops old new (Some v) = (old.below ≡ v ∷ new.below) × (new ≡ record old { below = new.below })
