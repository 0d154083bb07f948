-- Unrolled code while it is made, from its end to its front.
use Rattle.std.specs.Prelude.{ℕ, zero, suc, ◌+◌, ◌*◌, ◌-◌, ◌==◌, ◌≡◌, false, List, [], ◌∷◌, ◌++◌, take, drop, length, Option, Some, None, option_map, replicate, reverse, slice_get, slice_index, slice_set, if◌then◌else◌}
use Rattle.words.specs.declared.check.Class.TheVariants.{Unwind, Recursion}
use Rattle.core_tree.specs.Ranges.{Limits}
use Rattle.goto_prog.specs.declared.code.Operation.{Operation}
use Rattle.goto_prog.specs.declared.code.Operation.TheVariants as operations
use Rattle.goto_prog.specs.declared.code.Instruction.{Instruction}
use Rattle.goto_prog.specs.Kinds.{with_kind}
use Rattle.goto_prog.specs.Nodes.{Nodes, done, plain, repeats, Routine, nodes_of, view_procedure, view_procedures}
use Rattle.goto_prog.specs.Structured.{Bounded, resolved, tests, round_count, opened}
use Rattle.goto_prog.specs.Walks.{total}
use Rattle.goto_unwind.specs.declared.level.Handing as code_handing
use Rattle.goto_unwind.specs.declared.level.Site as code_site
use Rattle.goto_unwind.specs.declared.level.Level as code_level
use Rattle.goto_unwind.specs.declared.unroller.Unroller as code_unroller
use Rattle.goto_prog.specs.declared.nodes.Kind.{Kind}
use Rattle.goto_prog.specs.declared.nodes.Kind.TheVariants as kinds
use Rattle.goto_unwind.specs.declared.level.Turn.{Turn}
use Rattle.goto_unwind.specs.declared.level.Turn.TheVariants as turns
use Rattle.goto_unwind.specs.Program.{first_site}
use Rattle.goto_unwind.specs.Unrolled.{Space, first_space, Handing, Site, Piece, Inline, piece, at, jump, renumbered, passed_code, hand_code, argument_code, nodes_code, with_frame, inline_at}

-- ---- levels as the code has them

abbrev pub handing_of : code_handing.Handing → Handing
handing_of h = record { block = h.block; size = h.size; register = h.register }

abbrev pub site_of : code_site.Site → Site
site_of s = record { routine = view_procedure s.procedure.now; register = s.register; block = s.block; hands = option_map handing_of s.hands; back = s.back }

-- the nodes that are being put in front of code: those of a function or of a loop, of which these are still to come; how many places of theirs have marks, and how many others behind them in the same activation; the sizes of the caller's blocks from the first argument on
pub record Level : Type 0 where
  pub site : Site
  pub nodes : Nodes
  pub ahead : Nodes
  pub marked : ℕ
  pub outer : ℕ
  pub turn : Turn
  pub arguments : List ℕ

abbrev pub level_of : code_level.Level → Level
level_of l = record { site = site_of l.site; nodes = nodes_of l.nodes.now; ahead = nodes_of l.ahead.now; marked = l.marked; outer = l.outer; turn = l.turn; arguments = l.arguments.now }

-- the innermost first
abbrev pub levels_of : List code_level.Level → List Level
levels_of [] = []
levels_of (l ∷ levels) = levels_of levels ++ level_of l ∷ []

-- ---- the whole

-- the functions under bounds; how many activations of each may still be opened, what is being put in front, the innermost first, the marks, the last first, and the code with its registers and blocks
pub record Making : Type 0 where
  pub functions : List Routine
  pub limits : Limits
  pub left : List ℕ
  pub levels : List Level
  pub marks : List ℕ
  pub code : List Instruction
  pub space : Space

abbrev pub making : code_unroller.Unroller → Making
making u = record {
  functions = view_procedures u.procedures.now;
  limits = u.bounds.now;
  left = u.left.items;
  levels = levels_of u.levels.items;
  marks = reverse u.marks.items;
  code = reverse u.code.items;
  space = record { registers = u.registers.items; blocks = u.blocks.items };
}

abbrev pub bounded : Making → Bounded
bounded m = record { strict = false; functions = m.functions; limits = m.limits }

-- ---- steps

-- code in front, as a place
abbrev pub placed : List Instruction → Making → Making
placed front m = record m { marks = length (front ++ m.code) ∷ m.marks; code = front ++ m.code }

-- a level, of which these nodes are still to come when one is in front
abbrev pub taken : Level → Nodes → Level
taken l rest = record l { ahead = rest; marked = l.marked + 1 }

abbrev pub with_level : Level → Making → Making
with_level l m = record m { levels = l ∷ m.levels }

-- the marks of the places behind a node of a level
abbrev pub own_marks : Level → (marks : List ℕ) → List ℕ
own_marks l marks = take (l.marked + l.outer) marks

-- the code of an instruction that calls no function, in front of code, where the places behind it have these marks; what asks for bounds is what these make of it
abbrev pub front_of : Limits → Site → (line function : ℕ) → Operation → (marks : List ℕ) → List Instruction → List Instruction
front_of limits site line f (operations.Skip n) marks rest = at line f (operations.Skip (jump rest (slice_index marks n))) ∷ []
front_of limits site line f (operations.SkipIfZero a n) marks rest = at line f (operations.SkipIfZero (site.register + a) (jump rest (slice_index marks n))) ∷ []
front_of limits site line f (operations.Return v) marks rest = hand_code site line f v ++ at line f (operations.Skip (jump rest site.back)) ∷ []
front_of limits site line f o marks rest = at line f (renumbered site.register site.block (resolved limits o)) ∷ []

abbrev pub function_site : Site → Space → (into register back : ℕ) → Routine → Site
function_site caller space into register back p = record {
  routine = p;
  register = length space.registers;
  block = length space.blocks;
  hands = Some (record { block = caller.block + into; size = slice_index caller.routine.blocks into; register = caller.register + register });
  back = back;
}

-- a function that is called by a node of a level
abbrev pub function_level : Level → (line function callee first count into register : ℕ) → Routine → Making → Level
function_level l line f g first count into r p m = record {
  site = function_site l.site m.space into r (length m.code) p;
  nodes = p.nodes;
  ahead = p.nodes;
  marked = 1;
  outer = 0;
  turn = turns.Body line f (l.site.block + first) count g (slice_index m.left g);
  arguments = drop first l.site.routine.blocks;
}

abbrev pub opens : Level → Nodes → (line function callee first count into register : ℕ) → Routine → Making → Making
opens l rest line f g first count into r p m =
    let body = function_level l line f g first count into r p m in
    let code = hand_code body.site p.line 0 None ++ m.code in
    record m { left = opened m.left g; levels = body ∷ taken l rest ∷ m.levels; marks = length code ∷ m.marks; code = code; space = with_frame m.space p }

abbrev pub calls_by : Option Routine → Level → Nodes → (line function callee first count into register : ℕ) → Making → Making
calls_by None l rest line f g first count into r m = placed (at line f (operations.Assume 0) ∷ []) (with_level (taken l rest) m)
calls_by (Some p) l rest line f g first count into r m = opens l rest line f g first count into r p m

abbrev pub calls : Level → Nodes → (line function callee first count into register : ℕ) → Making → Making
calls l rest line f g first count into r m =
    if slice_index m.left g == 0 then placed (passed_code m.limits.assertions Recursion line f ∷ []) (with_level (taken l rest) m)
    else calls_by (slice_get m.functions g) l rest line f g first count into r m

abbrev pub does : Level → Nodes → (line function : ℕ) → Operation → Making → Making
does l rest line f (operations.Call g first count into r) m = calls l rest line f g first count into r m
does l rest line f o m = placed (front_of m.limits l.site line f o (own_marks l m.marks) m.code) (with_level (taken l rest) m)

-- a loop at a node of a level: its bound, in front of which its rounds are to come
abbrev pub loops : Level → Nodes → (line function : ℕ) → (count : ℕ) → Nodes → Making → Making
loops l rest line f count body m = record m {
  levels = record { site = l.site; nodes = body; ahead = done; marked = 0; outer = l.marked + l.outer; turn = turns.Rounds count; arguments = [] } ∷ taken l rest ∷ m.levels;
  code = passed_code m.limits.assertions Unwind line f ∷ m.code;
}

abbrev pub puts : Kind → Level → Nodes → Making → Making
puts (kinds.Plain i) l rest m = does l rest i.line i.function i.operation m
puts (kinds.Loop line f n rotated body) l rest m = loops l rest line f (round_count rotated (tests (bounded m) f n)) (nodes_of body.now) m

-- another round of a loop, of which so many more are to come
abbrev pub again : Level → (count : ℕ) → Making → Making
again l count m = record m {
  levels = record l { ahead = l.nodes; marked = 1; turn = turns.Rounds count } ∷ m.levels;
  marks = length m.code ∷ drop l.marked m.marks;
}

-- the end of a function or a loop, as a place of the level around it
abbrev pub closes : Turn → Level → Making → Making
closes (turns.Rounds zero) l m = record m { marks = length m.code ∷ drop l.marked m.marks }
closes (turns.Rounds (suc n)) l m = again l n m
closes (turns.Body line f from count g k) l m =
    let code = argument_code line f l.arguments from count l.site.routine.blocks l.site.block ++ m.code in
    record m { left = slice_set m.left g k; marks = length code ∷ drop l.marked m.marks; code = code }

-- the level of the function that thread 0 calls
abbrev pub first_level : Routine → Level
first_level p = record { site = first_site p; nodes = p.nodes; ahead = p.nodes; marked = 1; outer = 0; turn = turns.Rounds 0; arguments = [] }

-- before its code, behind which stands the end of the process
abbrev pub starting : List Routine → Limits → (number : ℕ) → Routine → Making
starting functions limits number p =
    let code = at p.line number operations.Exit ∷ [] in
    record {
      functions = functions;
      limits = limits;
      left = slice_set (replicate (length functions) limits.unwind) number (limits.unwind - 1);
      levels = first_level p ∷ [];
      marks = length code ∷ [];
      code = code;
      space = with_frame first_space p;
    }

abbrev pub Pops : Making → Making → Option Level → Type 0
Pops old new None = (old.levels ≡ []) × (new ≡ old)
Pops old new (Some l) = (old.levels ≡ l ∷ new.levels) × (new ≡ record old { levels = new.levels })

-- ---- what it comes to

-- nodes behind others
abbrev pub followed : Nodes → Nodes → Nodes
followed done more = more
followed (plain i rest) more = plain i (followed rest more)
followed (repeats line f n rotated body rest) more = repeats line f n rotated body (followed rest more)

-- a node by what it is
abbrev pub inline_of : Bounded → (left : List ℕ) → Inline
inline_of b left = inline_at b (suc (total left)) left

-- so many rounds in front of code
abbrev pub more_rounds : ((again : ℕ) → List Instruction → Space → Piece) → ℕ → List Instruction → Space → Piece
more_rounds round zero code space = piece code [] space
more_rounds round (suc n) code space = let now = round (length code) code space in more_rounds round n now.code now.space

-- the code where a level ends, and how many activations may then be opened
pub record Ended : Type 0 where
  pub left : List ℕ
  pub code : List Instruction
  pub space : Space

abbrev pub ended : List ℕ → List Instruction → Space → Ended
ended left code space = record { left = left; code = code; space = space }

module _ (b : Bounded) where
  -- nodes of a level in front of code
  abbrev pub level_code : (left : List ℕ) → Site → Nodes → (marks : List ℕ) → List Instruction → Space → Piece
  level_code left site nodes marks code space = nodes_code b (inline_of b left) site nodes marks code space

  abbrev pub turn_ends : Turn → (left : List ℕ) → Site → Nodes → (arguments : List ℕ) → (marks : List ℕ) → Piece → Ended
  turn_ends (turns.Rounds n) left site nodes arguments marks now =
      let all = more_rounds (λ again code space. level_code left site nodes (again ∷ marks) code space) n now.code now.space in
      ended left all.code all.space
  turn_ends (turns.Body line f from count g k) left site nodes arguments marks now =
      ended (slice_set left g k) (argument_code line f arguments from count site.routine.blocks site.block ++ now.code) now.space

  -- the whole code, where these levels are still to be put in front
  abbrev pub finish : (left : List ℕ) → List Level → (marks : List ℕ) → List Instruction → Space → Ended
  finish left [] marks code space = ended left code space
  finish left (l ∷ below) marks code space =
      let e = turn_ends l.turn left l.site l.nodes l.arguments (take l.outer (drop l.marked marks)) (level_code left l.site l.ahead (own_marks l marks) code space) in
      finish e.left below (length e.code ∷ drop l.marked marks) e.code e.space

abbrev pub outcome : Making → Ended
outcome m = finish (bounded m) m.left m.levels m.marks m.code m.space

-- ---- in how many steps

-- of a node, by what a call of each function takes
abbrev pub operation_weight : (ℕ → ℕ) → Operation → ℕ
operation_weight calls (operations.Call g first count into r) = 1 + calls g
operation_weight calls _ = 1

module _ (b : Bounded) (calls : ℕ → ℕ) where
  abbrev pub nodes_weight : Nodes → ℕ
  nodes_weight done = 0
  nodes_weight (plain i rest) = operation_weight calls i.operation + nodes_weight rest
  nodes_weight (repeats line f n rotated body rest) = (2 + round_count rotated (tests b f n) * (1 + nodes_weight body)) + nodes_weight rest

  abbrev pub turn_weight : Turn → Nodes → ℕ
  turn_weight (turns.Rounds n) nodes = n * (1 + nodes_weight nodes)
  turn_weight (turns.Body line f from count g k) nodes = 0

  abbrev pub level_weight : Level → ℕ
  level_weight l = 1 + (nodes_weight l.ahead + turn_weight l.turn l.nodes)

  abbrev pub routine_weight : Option Routine → ℕ
  routine_weight None = 0
  routine_weight (Some p) = 1 + nodes_weight p.nodes

-- of a call of each function, where so many activations may still be opened
abbrev pub call_weight : Bounded → (fuel : ℕ) (left : List ℕ) → ℕ → ℕ
call_weight b zero left g = 0
call_weight b (suc fuel) left g = if slice_index left g == 0 then 0 else routine_weight b (call_weight b fuel (opened left g)) (slice_get b.functions g)

abbrev pub calls_weight : Bounded → (left : List ℕ) → ℕ → ℕ
calls_weight b left = call_weight b (suc (total left)) left

abbrev pub left_after : Turn → (left : List ℕ) → List ℕ
left_after (turns.Rounds n) left = left
left_after (turns.Body line f from count g k) left = slice_set left g k

abbrev pub levels_weight : Bounded → (left : List ℕ) → List Level → ℕ
levels_weight b left [] = 0
levels_weight b left (l ∷ below) = level_weight b (calls_weight b left) l + levels_weight b (left_after l.turn left) below

abbrev pub weight : Making → ℕ
weight m = levels_weight (bounded m) m.left m.levels
