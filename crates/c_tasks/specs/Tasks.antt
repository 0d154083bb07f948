-- The tasks of the code as items, and what a plan has to do with a move.
use Rattle.std.specs.Prelude.{◌≡◌, ℕ, ◌+◌, ◌-◌, ◌==◌, pos, Bool, true, false, if◌then◌else◌, ◌≤◌, ◌++◌, length, drop, List, [], ◌∷◌, Option, Some, None, slice_get, slice_index}
use Rattle.actions.specs.declared.action.Action.{Action}
use Rattle.actions.specs.declared.action.Action.TheVariants as actions
use Rattle.actions.specs.declared.action.Answer.{Answer}
use Rattle.actions.specs.declared.action.Next.{Next}
use Rattle.actions.specs.declared.action.Next.TheVariants.{Act, Ended, Blocked, Broken}
use Rattle.actions.specs.Behaviour.{shape_of, has_shape, word_64}
use Rattle.c_types.specs.declared.integers.IntegerType.TheVariants.{UnsignedLong}
use Rattle.c_types.specs.Integers.{bytes}
use Rattle.core_tree.specs.Operations.{step_operation}
use Rattle.core_tree.specs.Typed.{is_within}
use Rattle.core_tree.specs.declared.statement.CoreItem.{CoreItem}
use Rattle.core_tree.specs.Trees as trees
use Rattle.core_tree.specs.Trees.{Place, pointed, arrow, member, element, subscript, Expression, read, convert, sign, is_zero, arithmetic, compare, logical, choice, assign, update, step, comma, assertion, assumption, part, discard, discard_structure, sum, distance, relation, pointer_update, pointer_step, allocate, allocate_zeroed, release, exit, abort, Structure, copy, choose, put, follow, section, Statement, if_then, if_else, Items, no_argument, Procedure, TypedFile, view, view_place, view_structure, view_statement, items_of, with_item, parts_of, arguments_of}
use Rattle.c_tasks.specs.declared.task.Task.{Task}
use Rattle.c_tasks.specs.declared.task.Task.TheVariants as task
use Rattle.c_tasks.specs.declared.task.Part.{Part}
use Rattle.c_tasks.specs.declared.task.Part.TheVariants as phase
use Rattle.c_tasks.specs.declared.task.Wanted as coded
use Rattle.c_tasks.specs.declared.task.Wanted.TheVariants as wanted
use Rattle.c_tasks.specs.declared.task.Handed as handed
use Rattle.c_tasks.specs.declared.task.Handed.TheVariants as hand
use Rattle.c_tasks.specs.declared.task.Stage.{Stage}
use Rattle.c_tasks.specs.declared.task.Stage.TheVariants as stage
use Rattle.c_tasks.specs.declared.task.Cut.{Cut}
use Rattle.c_tasks.specs.declared.task.Cut.TheVariants as cut
use Rattle.c_tasks.specs.declared.task.Call.{Call}
use Rattle.c_tasks.specs.declared.task.Caller.{Caller}
use Rattle.c_tasks.specs.declared.task.Tasks.{Tasks}
use Rattle.c_tasks.specs.declared.task.Taken.{Taken}
use Rattle.c_tasks.specs.declared.task.Taken.TheVariants as taken
use Rattle.c_tasks.specs.declared.task.Written.{Written}
use Rattle.c_tasks.specs.declared.task.Written.TheVariants as writes
use Rattle.c_tasks.specs.declared.task.Stacked.{Stacked}
use Rattle.c_tasks.specs.declared.task.Stacked.TheVariants as stacks
use Rattle.c_tasks.specs.declared.task.Change.{Change}
use Rattle.c_tasks.specs.declared.task.Plan.{Plan}
use Rattle.c_tasks.specs.declared.task.Plan.TheVariants as plan
use Rattle.c_tasks.specs.declared.task.Request.{Request}
use Rattle.c_tasks.specs.declared.task.Request.TheVariants as request
use Rattle.c_tasks.specs.declared.task.Halt.{Halt}
use Rattle.c_tasks.specs.declared.task.Halt.TheVariants as halt
use Rattle.c_values.specs.Variables.{Variables, low_bytes, put_at, put_bytes, block_of, cleared, first_variables}
use Rattle.c_values.specs.Numbers.{TypedNumber}
use Rattle.c_values.specs.MadeObjects.{made_of}
use Rattle.c_meaning.specs.Meaning.{Running, readonly_of, sizes_of as sizes_in, body_of, variables_of, total, opened}
use Rattle.c_tasks.specs.Items.{top, rest, top_bytes, rest_bytes, second_bytes, Active, active, back, Wanted, wants_number, wants_structure, wants_end, Handed, by_nothing, by_number, by_structure, Way, by_break, by_continue, by_jump, by_return, blocks_on, Loop, loop_of, Item, evaluates, converts, signs, negates, operates, compares, decides_on, tests, chooses, retypes, drops, passes, asserts, assumes, locates, reaches, elements, loads, stores, rewrites, updates, combines, steps, increments, looks, lands, shifts, paces, advances, arrives, measures, orders, claims, tries, admits, draws, makes, releases, quits, evaluates_structure, picks, discards, discards_structure, chooses_structure, copies, stores_structure, passes_structure, cuts, lists, places_number, places_structure, runs, branches, divides, enters, goes_on, ends_block, leaves, fills, settles, initial, initial_structure, dies, enters_parameters, ends_parameters, leaves_parameters, gathers, adds_number, resumes, goes_out, gets, turns, retests, repeats, loops, selects, switches, strays, ending, ended, State, state}
use Rattle.c_tasks.specs.Fits.{sizes_of, rest_sizes, has_top}
use Rattle.c_tasks.specs.Steps.{Move, silent, asks, breaks, blocks, ends, behind_label, out_of}

-- what comes behind the operands of an expression
abbrev pub finish_of : Expression → Item
finish_of (read t p) = loads t p
finish_of (convert to e) = converts to
finish_of (sign line op e) = signs line op
finish_of (is_zero line e) = negates
finish_of (arithmetic line op a b) = operates line op
finish_of (compare line op a b) = compares op
finish_of (logical line op a b) = decides_on op b
finish_of (choice line test a b) = chooses a b
finish_of (assign line t p e) = stores line t p
finish_of (update line t p op u e) = updates line t p op u
finish_of (step line t p op before) = steps line t p (step_operation op) before
finish_of (comma line a b) = passes b
finish_of (assertion line e) = asserts line
finish_of (assumption line e) = assumes
finish_of (part line t offset a) = picks t offset
finish_of (discard line e) = discards
finish_of (discard_structure a) = discards_structure
finish_of (sum line a e n swapped) = looks line n false swapped
finish_of (distance line a b n) = measures line n
finish_of (relation line op a b) = orders line op
finish_of (pointer_update line p n e) = shifts line p n
finish_of (pointer_step line p n before) = paces line p n before
finish_of (allocate line e) = claims line false
finish_of (allocate_zeroed line a b) = claims line true
finish_of (release line e) = releases line
finish_of (exit line e) = quits line
finish_of (abort line) = quits line
finish_of _ = drops

-- what comes behind the parts of a place
abbrev pub place_finish : Place → Item
place_finish (pointed line e) = retypes UnsignedLong
place_finish (arrow line e offset) = reaches offset
place_finish (member line x offset) = reaches offset
place_finish (element line x e size whole swapped) = elements line size whole swapped
place_finish (subscript line a e size swapped) = looks line (pos size) true swapped
place_finish _ = drops

-- what comes behind the first part of a structure value
abbrev pub completion_of : Structure → Item
completion_of (copy p size) = copies p size
completion_of (choose line test a b) = chooses_structure a b
completion_of (put line p a) = stores_structure line p
completion_of (follow line e a) = passes_structure a
completion_of (section line offset size a) = cuts offset size
completion_of _ = drops

-- what comes behind the test or the value of a statement
abbrev pub end_of : Statement → Item
end_of (if_then line test s) = branches s
end_of (if_else line test s t) = divides s t
end_of (trees.returns line e) = goes_out (by_return by_number)
end_of (trees.returns_structure line a) = goes_out (by_return by_structure)
end_of (trees.switch line e items) = selects items
end_of _ = drops

-- the parts of a loop; `do` has no last part
abbrev pub loop_in : Statement → Loop
loop_in (trees.for_loop line n start test last s) = loop_of line test last s
loop_in (trees.do_loop line n s test) = loop_of line (Some test) None s
loop_in s = loop_of 0 None None s

-- an expression is to be evaluated, or finished
abbrev pub expression_item : Expression → Bool → Item
expression_item e finish = if finish then finish_of e else evaluates e

-- a place is to be evaluated, or finished
abbrev pub place_item : Place → Bool → Item
place_item p finish = if finish then place_finish p else locates p

-- a structure value is to be evaluated, or completed
abbrev pub structure_item : Structure → Bool → Item
structure_item a complete = if complete then completion_of a else evaluates_structure a

-- a statement at a stage
abbrev pub statement_item : Statement → Stage → Item
statement_item s stage.Run = runs s
statement_item s stage.End = end_of s
statement_item s (stage.Turn n) = turns n (loop_in s)
statement_item s (stage.Retest n) = retests n (loop_in s)
statement_item s (stage.Repeat n) = repeats n (loop_in s)
statement_item s (stage.Body n) = loops n (loop_in s)

abbrev pub want_of : coded.Wanted → Wanted
want_of (wanted.Number line used t) = wants_number line used t
want_of (wanted.Structure line used size) = wants_structure line used size
want_of (wanted.End line) = wants_end line

abbrev pub how_of : handed.Handed → Handed
how_of hand.Nothing = by_nothing
how_of hand.Number = by_number
how_of hand.Structure = by_structure

abbrev pub way_of : Cut → Way
way_of cut.Break = by_break
way_of cut.Continue = by_continue
way_of (cut.Jump n) = by_jump n
way_of (cut.Return how) = by_return (how_of how)

-- the variables of items are to be made, or these are to be run, or the block ends, or is left
abbrev pub items_item : Items → Part → Item
items_item items phase.Entry = enters items
items_item items phase.Body = goes_on items
items_item items phase.End = ends_block items
items_item items phase.Exit = leaves items

abbrev pub item_of : Task → Item
item_of (task.Expression e finish) = expression_item (view e.now) finish
item_of (task.Place p finish) = place_item (view_place p.now) finish
item_of (task.Store line t p) = stores line t (view_place p.now)
item_of (task.Rewrite line t p at) = rewrites line t (view_place p.now) at
item_of (task.Combine line t p op u) = combines line t (view_place p.now) op u
item_of (task.Increment line t p op before at) = increments line t (view_place p.now) op before at
item_of (task.Move line n is_element swapped) = looks line n is_element swapped
item_of (task.Land line n is_element swapped) = lands line n is_element swapped
item_of (task.Advance line p n before at) = advances line (view_place p.now) n before at
item_of (task.Arrive line p n before at) = arrives line (view_place p.now) n before at
item_of (task.Try line zeroed) = tries line zeroed
item_of (task.Admit line zeroed) = admits line zeroed
item_of (task.DrawWords words size line) = draws words size line
item_of (task.Make line) = makes line
item_of task.Drop = drops
item_of (task.Structure a complete) = structure_item (view_structure a.now) complete
item_of (task.List parts from) = lists (parts_of (drop from parts.now.items))
item_of (task.PlaceNumber offset t) = places_number offset t
item_of (task.PlaceStructure offset) = places_structure offset
item_of task.Test = tests
item_of (task.Retype t) = retypes t
item_of (task.Statement s stage) = statement_item (view_statement s.now) stage
item_of (task.Items items from phase) = items_item (items_of (drop from items.now.items)) phase
item_of (task.Switched items) = switches (items_of items.now.items)
item_of (task.Settle line v) = settles line v
item_of (task.Initialize line v t) = initial line v t
item_of (task.InitializeStructure line v) = initial_structure line v
item_of (task.Die line v) = dies line v
item_of (task.EnterParameters v end) = enters_parameters (end - v) v
item_of (task.EndParameters count) = ends_parameters count
item_of (task.LeaveParameters v end) = leaves_parameters (end - v) v
item_of (task.Fill words line v offset) = fills words line v offset
item_of (task.Begin f line) = gathers (wants_end line) f 0 no_argument
item_of (task.Gather want f args from) = gathers (want_of want) f from (arguments_of (drop from args.now.items))
item_of (task.Add want f t args next) = adds_number (want_of want) f (next - 1) t (arguments_of (drop (next - 1 + 1) args.now.items))
item_of (task.Resume want caller saved) = resumes (want_of want) caller saved.items
item_of (task.Out way) = goes_out (way_of way)
item_of (task.Get want how) = gets (want_of want) (how_of how)
item_of task.Stray = strays
item_of (task.End line x) = ending line x
item_of (task.Ended x) = ended x

-- a list of the code has its first item last
abbrev pub items_in : List Task → List Item
items_in [] = []
items_in (t ∷ ts) = items_in ts ++ item_of t ∷ []

-- the items behind the first
abbrev pub behind : List Item → List Item
behind [] = []
behind (i ∷ is) = is

abbrev pub values_in : List TypedNumber → List TypedNumber
values_in [] = []
values_in (x ∷ xs) = values_in xs ++ x ∷ []

abbrev pub structures_in : List (List ℕ) → List (List ℕ)
structures_in [] = []
structures_in (b ∷ bs) = structures_in bs ++ b ∷ []

abbrev pub with_task : Option Task → List Item → List Item
with_task None is = is
with_task (Some t) is = item_of t ∷ is

abbrev pub with_tasks : Tasks → List Item → List Item
with_tasks ts is = with_task ts.first (with_task ts.second (with_task ts.third is))

abbrev pub without : Taken → List TypedNumber → List TypedNumber
without taken.None xs = xs
without taken.One xs = rest xs
without taken.Two xs = rest (rest xs)
without taken.Three xs = rest (rest (rest xs))

abbrev pub with_put : Option TypedNumber → List TypedNumber → List TypedNumber
with_put None xs = xs
with_put (Some x) xs = x ∷ xs

abbrev pub with_stacked : Stacked → List (List ℕ) → List (List ℕ)
with_stacked stacks.Kept bs = bs
with_stacked (stacks.Pushed b) bs = b ∷ bs
with_stacked stacks.Taken bs = rest_bytes bs
with_stacked (stacks.Replaced b) bs = b ∷ rest_bytes bs
with_stacked (stacks.Bits offset count bits) bs = put_at offset (low_bytes count bits) (top_bytes bs) ∷ rest_bytes bs
with_stacked (stacks.Joined offset) bs = put_at offset (top_bytes bs) (second_bytes bs) ∷ rest_bytes (rest_bytes bs)

abbrev pub with_written : Written → List (List ℕ) → Variables → Variables
with_written writes.Nothing bs vs = vs
with_written (writes.Bits v offset count bits) bs vs = put_bytes vs v offset (low_bytes count bits)
with_written (writes.Zeros v size) bs vs = cleared vs v size
with_written (writes.Top v offset) bs vs = put_bytes vs v offset (top_bytes bs)

-- the bytes that are put into a structure value lie in it
abbrev pub StacksWithin : List (List ℕ) → Stacked → Type 0
StacksWithin bs (stacks.Bits offset count bits) = (has_top (sizes_of bs) ≡ true) × (offset + count ≤ length (top_bytes bs)) × (count ≤ 8)
StacksWithin bs (stacks.Joined offset) = (has_top (rest_sizes (sizes_of bs)) ≡ true) × (offset + length (top_bytes bs) ≤ length (second_bytes bs))
StacksWithin bs _ = Unit {0}

-- the bytes that are written lie in the variables, which have these sizes
abbrev pub LiesWithin : List ℕ → List (List ℕ) → Written → Type 0
LiesWithin sizes bs writes.Nothing = Unit {0}
LiesWithin sizes bs (writes.Bits v offset count bits) = (is_within sizes v offset count ≡ true) × (count ≤ 8)
LiesWithin sizes bs (writes.Zeros v size) = size ≡ slice_index sizes v
LiesWithin sizes bs (writes.Top v offset) = (has_top (sizes_of bs) ≡ true) × (is_within sizes v offset (length (top_bytes bs)) ≡ true)

-- what a change writes lies where it belongs
abbrev pub ChangesWithin : List ℕ → List (List ℕ) → Change → Type 0
ChangesWithin sizes bs c = StacksWithin bs c.stacked × LiesWithin sizes bs c.written

-- the state after a change, where these items stand behind the first
abbrev pub changed : Change → List Item → Active → List TypedNumber → List (List ℕ) → Variables → State
changed c is r xs bs vs = state (with_tasks c.tasks is) r (with_put c.put (without c.taken xs)) (with_stacked c.stacked bs) (with_written c.written bs vs)

-- the variables of a function at its start, of these sizes: so many structure values on top, and behind them bytes that are 0
abbrev pub frame_on : ℕ → List (List ℕ) → List ℕ → Variables
frame_on count bs sizes = let args = blocks_on count bs in args ++ first_variables (drop (length args) sizes)

-- the state at the start of a function's body
abbrev pub called : TypedFile → Call → Statement → List Item → Active → List TypedNumber → List (List ℕ) → Variables → State
called file c s is r xs bs vs =
    let count = length (blocks_on c.count bs) in
    state (enters_parameters count 0 ∷ runs s ∷ ends_parameters count ∷ resumes (want_of c.want) r.function vs ∷ is) (active c.function (opened r.left c.function)) xs (drop c.count bs) (frame_on c.count bs (sizes_in (variables_of (slice_get file.functions c.function))))

-- what is asked for in a function, with these numbers, structure values and variables
abbrev pub action_of : Running → List TypedNumber → List (List ℕ) → Variables → Request → Action
action_of running xs bs vs (request.Draw n) = actions.Draw n
action_of running xs bs vs (request.Read p n) = actions.Read p n
action_of running xs bs vs (request.WriteNumber p t first) = actions.Write p (low_bytes (bytes t) (top xs).bits) first
action_of running xs bs vs (request.WriteStructure p first) = actions.Write p (top_bytes bs) first
action_of running xs bs vs (request.Look p is_element) = actions.Look p is_element
action_of running xs bs vs (request.Place v) = actions.Alloc (made_of (readonly_of running v) false (block_of vs v))
action_of running xs bs vs request.Allocate = actions.Alloc (made_of false true (top_bytes bs))
action_of running xs bs vs (request.Die n) = actions.Die n
action_of running xs bs vs (request.Free p) = actions.Free p
action_of running xs bs vs (request.End x) = actions.End x
action_of running xs bs vs request.Exit = actions.Exit

-- this action comes next, at this line
abbrev pub IsAsked : Move → Action → ℕ → Type 0
IsAsked (asks action line follows) asked l = (action ≡ asked) × (line ≡ l)
IsAsked _ asked l = ⊥

-- this is the move, which is no silent step
abbrev pub IsHalt : Running → List TypedNumber → List (List ℕ) → Variables → Move → Halt → Type 0
IsHalt running xs bs vs m (halt.Asks q l) = IsAsked m (action_of running xs bs vs q) l
IsHalt running xs bs vs m (halt.Breaks class line) = m ≡ breaks class line
IsHalt running xs bs vs m halt.Blocks = m ≡ blocks
IsHalt running xs bs vs m (halt.Ends v) = m ≡ ends v

-- the plan is the move, where these are the items
abbrev pub IsPlan : TypedFile → Running → List Item → Active → List TypedNumber → List (List ℕ) → Variables → Move → Plan → Type 0
IsPlan file running is r xs bs vs m (plan.Goes c) = m ≡ silent (changed c (behind is) r xs bs vs)
IsPlan file running is r xs bs vs m (plan.Cuts c) = m ≡ silent (out_of (way_of c) is r xs bs vs)
IsPlan file running is r xs bs vs m (plan.Calls c) =
    (s : Statement) × (body_of (slice_get file.functions c.function) ≡ Some s) × ((slice_index r.left c.function == 0) ≡ false) × (m ≡ silent (called file c s (behind is) r xs bs vs))
IsPlan file running is r xs bs vs m (plan.Halts h) = IsHalt running xs bs vs m h

-- what a plan writes lies where it belongs
abbrev pub WritesWithin : List ℕ → List (List ℕ) → Plan → Type 0
WritesWithin sizes bs (plan.Goes c) = ChangesWithin sizes bs c
WritesWithin sizes bs (plan.Cuts c) = Unit {0}
WritesWithin sizes bs (plan.Calls c) = Unit {0}
WritesWithin sizes bs (plan.Halts h) = Unit {0}

-- what is next at a halt
abbrev pub next_by : Running → List TypedNumber → List (List ℕ) → Variables → Halt → Next
next_by running xs bs vs (halt.Asks q l) = Act (action_of running xs bs vs q) l running.function
next_by running xs bs vs (halt.Breaks class line) = Broken class line running.function
next_by running xs bs vs halt.Blocks = Blocked
next_by running xs bs vs (halt.Ends v) = Ended (word_64 v)

-- the change that the answer to an action makes
abbrev pub Answers : List Item → Active → List TypedNumber → List (List ℕ) → Variables → Move → Answer → Change → Type 0
Answers is r xs bs vs (asks action line follows) a c = follows a ≡ changed c is r xs bs vs
Answers is r xs bs vs _ a c = Unit {0}

-- that change is planned, and what it writes lies where it belongs
abbrev pub IsAnswered : List ℕ → List Item → Active → List TypedNumber → List (List ℕ) → Variables → Move → Answer → Change → Type 0
IsAnswered sizes is r xs bs vs m a c = Answers is r xs bs vs m a c × ChangesWithin sizes bs c

-- an action comes next, and the answer has its shape
abbrev pub Accepts : Move → Answer → Type 0
Accepts (asks action line follows) a = has_shape (shape_of action) a ≡ true
Accepts _ a = ⊥

-- how many activations are open
abbrev pub open_in : List Item → ℕ
open_in [] = 0
open_in (resumes want caller saved ∷ is) = 1 + open_in is
open_in (_ ∷ is) = open_in is

-- how many are open or may be opened
abbrev pub activations : State → ℕ
activations s = let r = s.active in total r.left + open_in s.items

-- a function is called
abbrev pub IsCall : TypedFile → Call → Active → Move → List Item → List TypedNumber → List (List ℕ) → Variables → Type 0
IsCall file c r m is xs bs vs =
    (s : Statement) × (body_of (slice_get file.functions c.function) ≡ Some s) × ((slice_index r.left c.function == 0) ≡ false) × (m ≡ silent (called file c s (behind is) r xs bs vs))

-- where a way out of statements before these items leads: the items there, and the caller, where that runs again
abbrev pub IsOut : Cut → List Item → List Item → Option Caller → Type 0
IsOut c old new None = (r : Active) (xs : List TypedNumber) (bs : List (List ℕ)) (vs : Variables) → out_of (way_of c) old r xs bs vs ≡ state new r xs bs vs
IsOut c old new (Some caller) = (r : Active) (xs : List TypedNumber) (bs : List (List ℕ)) (vs : Variables) → out_of (way_of c) old r xs bs vs ≡ state new (back caller.function r) xs bs caller.variables.items

-- whether an item is the label with this number
abbrev pub IsLabelItem : CoreItem → ℕ → Bool → Type 0
IsLabelItem i n b = (more : Items) → behind_label n (with_item i more) ≡ (if b then Some more else behind_label n more)

-- behind which item it stands, of the items from one on
abbrev pub IsBehind : List CoreItem → (from : ℕ) → ℕ → Option ℕ → Type 0
IsBehind items from n (Some place) = behind_label n (items_of (drop from items)) ≡ Some (items_of (drop place items))
IsBehind items from n None = behind_label n (items_of (drop from items)) ≡ None
