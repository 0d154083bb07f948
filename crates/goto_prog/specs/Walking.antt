-- Where code of functions stands, and what it does from there.
use Rattle.std.specs.Prelude.{◌≡◌, ◌<◌, ◌≤◌, option_map, ℕ, zero, suc, ◌+◌, ◌-◌, Bool, true, false, ◌&&◌, nat_le, nat_lt, List, [], ◌∷◌, length, Option, Some, None}
use Rattle.c_types.specs.declared.integers.IntegerType.{IntegerType}
use Rattle.c_types.specs.declared.integers.IntegerType.TheVariants as types
use Rattle.actions.specs.declared.action.Answer.{Answer}
use Rattle.actions.specs.declared.action.Next.{Next}
use Rattle.actions.specs.declared.action.Next.TheVariants.{Ended, Blocked}
use Rattle.actions.specs.Behaviour.{Behaviour, after, word_64}
use Rattle.goto_prog.specs.declared.nodes.Node.{Node}
use Rattle.goto_prog.specs.declared.nodes.Procedure.{Procedure}
use Rattle.goto_prog.specs.declared.nodes.Node.TheVariants as nodes
use Rattle.goto_prog.specs.declared.code.Instruction.{Instruction}
use Rattle.goto_prog.specs.declared.code.Operation.{Operation}
use Rattle.goto_prog.specs.declared.code.Operation.TheVariants as operations
use Rattle.goto_prog.specs.declared.activation.Received.{Received}
use Rattle.goto_prog.specs.declared.activation.Received.TheVariants as receiveds
use Rattle.goto_prog.specs.Meaning.{Memory, Given, Reading, at, operates_on, arguments_of, received}
use Rattle.goto_prog.specs.Threads.{Calls, acting, final}
use Rattle.goto_prog.specs.Fitting.{is_register}
use Rattle.goto_prog.specs.Frames.{Working}
use Rattle.goto_prog.specs.Running.{acts, is_act}
use Rattle.goto_prog.specs.Nodes.{view_procedure, Nodes, done, plain, repeats, nodes_of, node_count, nodes_fit}
use Rattle.goto_prog.specs.Structured.{entry_memory, Bounded, resolved, resolved_in, rounds, round_count, tests, nodes_before}

-- a loop that code stands in: its line and function, how many rounds more it may have, its nodes, and the nodes behind it
pub record LoopLevel : Type 0 where
  pub line : ℕ
  pub function : ℕ
  pub left : ℕ
  pub body : List Node
  pub behind : List Node

-- the nodes that are left, and the loops around them, the innermost first
pub record Cursor : Type 0 where
  pub nodes : List Node
  pub levels : List LoopLevel

-- the next place; behind the last of all comes none
abbrev pub place_behind : List Node → List LoopLevel → Cursor
place_behind (n ∷ nodes) levels = record { nodes = nodes; levels = levels }
place_behind [] (l ∷ levels) = record { nodes = l.behind; levels = levels }
place_behind [] [] = record { nodes = []; levels = [] }

abbrev pub next_place : Cursor → Cursor
next_place p = place_behind p.nodes p.levels

abbrev pub first_level : List LoopLevel → Option LoopLevel
first_level [] = None
first_level (l ∷ levels) = Some l

abbrev pub nodes_behind : List Node → List Node
nodes_behind [] = []
nodes_behind (n ∷ nodes) = nodes

-- the first place of another round of the innermost loop
abbrev pub round_of : Cursor → List LoopLevel → Cursor
round_of p [] = p
round_of p (l ∷ levels) = record { nodes = l.body; levels = record l { left = l.left - 1 } ∷ levels }

abbrev pub next_round : Cursor → Cursor
next_round p = round_of p p.levels

-- the end of a round of a loop that is next, which may have so many more
abbrev pub into_loop : (line function left : ℕ) → List Node → Cursor → Cursor
into_loop line f left body p = record { nodes = []; levels = record { line = line; function = f; left = left; body = body; behind = nodes_behind p.nodes } ∷ p.levels }

-- the place behind so many others
abbrev pub landed : ℕ → Cursor → Cursor
landed zero p = p
landed (suc n) p = landed n (next_place p)

-- how many places are behind the nodes that are left
abbrev pub place_count : List LoopLevel → ℕ
place_count [] = 0
place_count (l ∷ levels) = node_count (nodes_of l.behind) + place_count levels + 1

-- how many places are behind a place, the end of the function among them
abbrev pub place_total : Cursor → ℕ
place_total p = node_count (nodes_of p.nodes) + place_count p.levels

abbrev pub levels_fit : List IntegerType → List ℕ → List LoopLevel → Bool
levels_fit registers blocks [] = true
levels_fit registers blocks (l ∷ levels) =
    nodes_fit registers blocks (place_count (l ∷ levels)) (nodes_of l.body) && nodes_fit registers blocks (place_count levels) (nodes_of l.behind) && levels_fit registers blocks levels

abbrev pub place_fits : List IntegerType → List ℕ → Cursor → Bool
place_fits registers blocks p = nodes_fit registers blocks (place_count p.levels) (nodes_of p.nodes) && levels_fit registers blocks p.levels

-- ---- what is done

module _ (b : Bounded) (o : Reading Behaviour) where
  -- the meanings of the places behind the nodes that are left
  abbrev pub levels_behind : List LoopLevel → List (Memory → Behaviour)
  levels_behind [] = (λ last. o.hand None) ∷ []
  levels_behind (l ∷ levels) =
      let behind = nodes_before b o (nodes_of l.behind) (levels_behind levels) in
      rounds b.limits.assertions l.line l.function (λ again. at o (nodes_before b o (nodes_of l.body) (again ∷ behind)) 0) l.left ∷ behind

  abbrev pub places_from : Cursor → List (Memory → Behaviour)
  places_from p = nodes_before b o (nodes_of p.nodes) (levels_behind p.levels)

  -- what code does from a place
  abbrev pub does_from : Cursor → Memory → Behaviour
  does_from p m = at o (places_from p) 0 m

-- ---- how many steps are left at most, by what a call of each function takes

module _ (b : Bounded) (w : ℕ → ℕ) where
  abbrev pub step_weight : Operation → ℕ → ℕ
  step_weight (operations.Call f first count into r) later = suc (w f + later)
  step_weight _ later = suc later

  abbrev pub first_of : List ℕ → ℕ
  first_of [] = 0
  first_of (x ∷ xs) = x

  abbrev pub round_weight : (ℕ → ℕ) → ℕ → ℕ → ℕ
  round_weight round behind zero = suc behind
  round_weight round behind (suc n) = suc (round (round_weight round behind n))

  abbrev pub nodes_weights : Nodes → (later : List ℕ) → List ℕ
  nodes_weights done later = later
  nodes_weights (plain i rest) later = let behind = nodes_weights rest later in step_weight (resolved b.limits i.operation) (first_of behind) ∷ behind
  nodes_weights (repeats line f n rotated body rest) later =
      let behind = nodes_weights rest later in
      suc (round_weight (λ again. first_of (nodes_weights body (again ∷ behind))) (first_of behind) (round_count rotated (tests b f n))) ∷ behind

  abbrev pub levels_weights : List LoopLevel → List ℕ
  levels_weights [] = 1 ∷ []
  levels_weights (l ∷ levels) =
      let behind = nodes_weights (nodes_of l.behind) (levels_weights levels) in
      round_weight (λ again. first_of (nodes_weights (nodes_of l.body) (again ∷ behind))) (first_of behind) l.left ∷ behind

  abbrev pub place_weight : Cursor → ℕ
  place_weight p = first_of (nodes_weights (nodes_of p.nodes) (levels_weights p.levels))

-- ---- activations

-- a function that runs: where it stands, and its registers and blocks
pub record Activation : Type 0 where
  pub place : Cursor
  pub working : Working

abbrev pub IsActivation : Activation → Type 0
IsActivation a = place_fits a.working.types a.working.sizes a.place ≡ true

abbrev pub does : Bounded → Calls → (Given → Behaviour) → Activation → Behaviour
does b calls hands a = does_from b (acting calls hands) a.place a.working.memory

-- the instruction that is next, if one is
abbrev pub instruction_at : List Node → Option Instruction
instruction_at [] = None
instruction_at (nodes.Plain i ∷ rest) = Some i
instruction_at (_ ∷ rest) = None

-- it as the bounds have it
abbrev pub next_instruction : Bounded → List Node → Option Instruction
next_instruction b ns = option_map (resolved_in b) (instruction_at ns)

-- what it does by this instruction and behind it, if there is one, where so many words of it have been drawn
abbrev pub does_by_instruction : Bounded → Calls → (Given → Behaviour) → (words : ℕ) → Activation → Option Instruction → Behaviour
does_by_instruction b calls hands words a None = does b calls hands a
does_by_instruction b calls hands words a (Some i) = operates_on (acting calls hands) words b.strict 0 i.line i.function i.operation (places_from b (acting calls hands) (next_place a.place)) a.working.memory

-- what it does where so many words of the instruction that is next have been drawn
abbrev pub does_on : Bounded → Calls → (Given → Behaviour) → (words : ℕ) → Activation → Behaviour
does_on b calls hands zero a = does b calls hands a
does_on b calls hands (suc k) a = does_by_instruction b calls hands (suc k) a (next_instruction b a.place.nodes)

-- so where no call does anything and nothing becomes of what it hands over
abbrev pub lone_on : Bounded → (words : ℕ) → Activation → Behaviour
lone_on b words a = does_on b (λ caller f line arguments follows. final Blocked) (λ given. final Blocked) words a

-- a function at its start with these arguments
abbrev pub entry : Procedure → List (List ℕ) → Activation
entry p arguments = record {
  place = record { nodes = p.nodes.items; levels = [] };
  working = record { types = p.registers.items; sizes = p.blocks.items; memory = entry_memory (view_procedure p) arguments };
}

-- it goes on as the same
pub record GoesOn (b : Bounded) (old new : Activation) : Type 0 where
  pub same : (calls : Calls) (hands : Given → Behaviour) → does b calls hands new ≡ does b calls hands old
  pub falls : (w : ℕ → ℕ) → place_weight b w new.place < place_weight b w old.place

-- this is next, and nothing has changed
pub record Stops (b : Bounded) (old new : Activation) (next : Next) : Type 0 where
  pub unchanged : new ≡ old
  pub next_is : (calls : Calls) (hands : Given → Behaviour) → next ≡ does b calls hands old []
  pub acting : is_act next ≡ true → acts 0 (next_instruction b old.place.nodes) old.working.memory ≡ true

-- this is next where so many words have been drawn
pub record StopsOn (b : Bounded) (words : ℕ) (a : Activation) (next : Next) : Type 0 where
  pub next_is : (calls : Calls) (hands : Given → Behaviour) → next ≡ does_on b calls hands words a []
  pub acting : is_act next ≡ true → acts words (next_instruction b a.place.nodes) a.working.memory ≡ true

-- it goes on behind the instruction of which so many words have been drawn
pub record GoesOnWith (b : Bounded) (words : ℕ) (old new : Activation) : Type 0 where
  pub same : (calls : Calls) (hands : Given → Behaviour) → does b calls hands new ≡ does_on b calls hands words old
  pub falls : (w : ℕ → ℕ) → place_weight b w new.place ≤ place_weight b w old.place

-- one or the other, where so many words of the instruction that is next have been drawn
abbrev pub StepsOn : Bounded → (words : ℕ) → (old new : Activation) → Option Next → Type 0
StepsOn b words old new None = GoesOnWith b words old new
StepsOn b words old new (Some next) = (new ≡ old) × StopsOn b words old next

-- behind the instruction that is next
abbrev pub stepped_over : Activation → Activation
stepped_over a = record a { place = landed 0 (next_place a.place) }

-- it calls a function, and goes on behind the call with what that hands over
pub record CallsFunction (b : Bounded) (a : Activation) (i : Instruction) (f first count into returned : ℕ) : Type 0 where
  pub into_there : nat_lt into (length a.working.sizes) ≡ true
  pub arguments_there : nat_le (first + count) (length a.working.sizes) ≡ true
  pub returned_there : is_register a.working.types returned types.Int ≡ true
  pub same : (calls : Calls) (hands : Given → Behaviour) → does b calls hands a
      ≡ calls i.function f i.line (arguments_of a.working.memory.blocks first count) (λ given. does_from b (acting calls hands) (stepped_over a).place (received a.working.memory into returned given))
  pub falls : (w : ℕ → ℕ) → w f + place_weight b w (stepped_over a).place < place_weight b w a.place

-- it ends and hands this over
pub record HandsOver (b : Bounded) (a : Activation) (given : Given) : Type 0 where
  pub same : (calls : Calls) (hands : Given → Behaviour) → does b calls hands a ≡ hands given
  pub falls : (w : ℕ → ℕ) → 0 < place_weight b w a.place

-- it has taken an answer and goes on, or this has ended the process, or so many words of its instruction have been drawn
abbrev pub IsReceived : Bounded → (words : ℕ) → (old new : Activation) → Answer → Received → Type 0
IsReceived b words old new a receiveds.GoesOn = (calls : Calls) (hands : Given → Behaviour) → does b calls hands new ≡ after (does_on b calls hands words old) a
IsReceived b words old new a receiveds.Ends = (calls : Calls) (hands : Given → Behaviour) → final (Ended (word_64 0)) ≡ after (does_on b calls hands words old) a
IsReceived b words old new a (receiveds.Draws more) = (calls : Calls) (hands : Given → Behaviour) → does_on b calls hands more new ≡ after (does_on b calls hands words old) a
