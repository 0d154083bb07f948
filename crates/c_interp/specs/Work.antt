-- How many silent steps may be left: a number that each of them makes less. A loop counts each of its rounds, and a call all that its function may do. Where a block ends counts one more than the deaths of its objects, so that a way out of it is shorter behind them.
use Rattle.std.specs.Prelude.{ℕ, zero, suc, ◌+◌, ◌*◌, ◌-◌, ◌==◌, Bool, List, [], ◌∷◌, Option, Some, None, slice_get, slice_index, if◌then◌else◌}
use Rattle.core_tree.specs.Trees as trees
use Rattle.core_tree.specs.Trees.{Place, variable_at, object_at, literal_at, pointed, arrow, member, element, subscript, Expression, constant, read, convert, sign, is_zero, arithmetic, compare, logical, choice, assign, update, step, comma, assertion, assumption, draw, part, discard, discard_structure, call, function_name, size_of_value, size_of_structure, address, sum, distance, relation, pointer_update, pointer_step, allocate, allocate_zeroed, release, exit, abort, Structure, copy, choose, put, follow, section, list, string, give, Parts, no_part, number_part, structure_part, Arguments, no_argument, number_argument, structure_argument, Statement, block, if_then, if_else, evaluate, Items, done, declares, initializes, initializes_structure, does, label, case_at, default_at, Procedure}
use Rattle.c_meaning.specs.Meaning.{Code, body_of, total, opened}
use Rattle.c_tasks.specs.Items.{Active, back, Loop, Item, evaluates, decides_on, chooses, locates, updates, combines, steps, increments, shifts, paces, arrives, claims, tries, admits, draws, passes, evaluates_structure, chooses_structure, passes_structure, lists, runs, branches, divides, enters, goes_on, ends_block, leaves, enters_parameters, ends_parameters, leaves_parameters, gathers, adds_number, resumes, gets, turns, retests, repeats, loops, selects, switches, State}

-- the tests of the loops of the function that runs, and the work of a call of a function
module _ (tests call_work : ℕ → ℕ) where
  abbrev mutual
    pub place_work : Place → ℕ
    place_work (variable_at line v offset) = 1
    place_work (object_at line k offset) = 1
    place_work (literal_at line k) = 1
    place_work (pointed line e) = work e + 2
    place_work (arrow line e offset) = work e + 2
    place_work (member line p offset) = place_work p + 2
    place_work (element line p e size whole swapped) = place_work p + work e + 2
    place_work (subscript line a e size swapped) = work a + work e + 2

    pub work : Expression → ℕ
    work (constant line t bits) = 1
    work (read t p) = place_work p + 2
    work (convert to e) = work e + 2
    work (sign line op e) = work e + 2
    work (is_zero line e) = work e + 2
    work (arithmetic line op a b) = work a + work b + 2
    work (compare line op a b) = work a + work b + 2
    work (logical line op a b) = work a + work b + 3
    work (choice line test a b) = work test + work a + work b + 4
    work (assign line t p e) = place_work p + work e + 2
    work (update line t p op u e) = place_work p + work e + 4
    work (step line t p op before) = place_work p + 5
    work (comma line a b) = work a + work b + 2
    work (assertion line e) = work e + 2
    work (assumption line e) = work e + 2
    work (draw line t) = 1
    work (part line t offset a) = structure_work a + 2
    work (discard line e) = work e + 2
    work (discard_structure a) = structure_work a + 2
    work (call line f used t args) = arguments_work args + call_work f + 2
    work (function_name line) = 1
    work (size_of_value line bits e) = 1
    work (size_of_structure line bits a) = 1
    work (address line p) = place_work p + 1
    work (sum line a e n swapped) = work a + work e + 2
    work (distance line a b n) = work a + work b + 2
    work (relation line op a b) = work a + work b + 2
    work (pointer_update line p n e) = place_work p + work e + 4
    work (pointer_step line p n before) = place_work p + 3
    work (allocate line e) = work e + 5
    work (allocate_zeroed line a b) = work a + work b + 5
    work (release line e) = work e + 2
    work (exit line e) = work e + 2
    work (abort line) = 2

    pub structure_work : Structure → ℕ
    structure_work (copy p size) = place_work p + 2
    structure_work (choose line test a b) = work test + structure_work a + structure_work b + 3
    structure_work (put line p a) = place_work p + structure_work a + 2
    structure_work (follow line e a) = work e + structure_work a + 2
    structure_work (section line offset size a) = structure_work a + 2
    structure_work (list line size parts) = parts_work parts + 1
    structure_work (string line size bytes) = 1
    structure_work (give line f used size args) = arguments_work args + call_work f + 2

    pub parts_work : Parts → ℕ
    parts_work no_part = 1
    parts_work (number_part offset e more) = work e + parts_work more + 2
    parts_work (structure_part offset a more) = structure_work a + parts_work more + 2

    -- each argument is a parameter too, which may become an object and die
    pub arguments_work : Arguments → ℕ
    arguments_work no_argument = 0
    arguments_work (number_argument e more) = work e + arguments_work more + 6
    arguments_work (structure_argument a more) = structure_work a + arguments_work more + 5

  abbrev pub entry_work : Items → ℕ
  entry_work done = 1
  entry_work (declares line v more) = entry_work more + 3
  entry_work (initializes line v is_drawn e more) = entry_work more + 3
  entry_work (initializes_structure line v is_drawn a more) = entry_work more + 3
  entry_work (does s more) = entry_work more + 1
  entry_work (label n more) = entry_work more + 1
  entry_work (case_at line t bits more) = entry_work more + 1
  entry_work (default_at line more) = entry_work more + 1

  -- the deaths of the objects of a block, or of so many parameters
  abbrev pub leave_work : Items → ℕ
  leave_work done = 1
  leave_work (declares line v more) = leave_work more + 2
  leave_work (initializes line v is_drawn e more) = leave_work more + 2
  leave_work (initializes_structure line v is_drawn a more) = leave_work more + 2
  leave_work (does s more) = leave_work more + 1
  leave_work (label n more) = leave_work more + 1
  leave_work (case_at line t bits more) = leave_work more + 1
  leave_work (default_at line more) = leave_work more + 1

  abbrev pub parameters_work : ℕ → ℕ
  parameters_work count = 2 * count + 1

  -- a part of a loop that may be missing
  abbrev pub part_work : Option Expression → ℕ
  part_work None = 0
  part_work (Some e) = work e + 1

  -- so many rounds of a loop, each of which takes so much
  abbrev pub rounds_work : (round : ℕ) → ℕ → ℕ
  rounds_work round zero = 1
  rounds_work round (suc n) = round + rounds_work round n

  -- a loop before its test
  abbrev pub retests_work : (test last : Option Expression) → (body : ℕ) → ℕ → ℕ
  retests_work test last body n = part_work test + rounds_work (body + part_work last + part_work test + 5) n + 2

  abbrev mutual
    pub statement_work : Statement → ℕ
    statement_work (block items) = entry_work items + items_work items + leave_work items + 2
    statement_work (if_then line test s) = work test + statement_work s + 2
    statement_work (if_else line test s t) = work test + statement_work s + statement_work t + 2
    statement_work (evaluate e) = work e + 2
    statement_work (trees.returns line e) = work e + 2
    statement_work (trees.returns_structure line a) = structure_work a + 2
    statement_work (trees.returns_nothing line) = 2
    statement_work (trees.for_loop line n start test last s) = part_work start + retests_work test last (statement_work s) (tests n - 1) + 1
    statement_work (trees.do_loop line n s test) = rounds_work (statement_work s + part_work None + part_work (Some test) + 5) (tests n) + 1
    statement_work (trees.switch line e items) = work e + entry_work items + items_work items + leave_work items + 3
    statement_work (trees.breaks line) = 2
    statement_work (trees.continues line) = 2
    statement_work (trees.jumps line n) = 2
    statement_work (trees.stray line s) = statement_work s + 1

    pub items_work : Items → ℕ
    items_work done = 1
    items_work (declares line v more) = items_work more + 1
    items_work (initializes line v is_drawn e more) = work e + items_work more + 2
    items_work (initializes_structure line v is_drawn a more) = structure_work a + items_work more + 2
    items_work (does s more) = statement_work s + items_work more + 1
    items_work (label n more) = items_work more + 1
    items_work (case_at line t bits more) = items_work more + 1
    items_work (default_at line more) = items_work more + 1

  -- a loop before its next round
  abbrev pub turns_work : Loop → ℕ → ℕ
  turns_work loop n = rounds_work (statement_work loop.body + part_work loop.last + part_work loop.test + 5) n

  abbrev pub item_work : Item → ℕ
  item_work (evaluates e) = work e
  item_work (decides_on op b) = work b + 2
  item_work (locates p) = place_work p
  item_work (updates line t p op u) = 3
  item_work (combines line t p op u) = 2
  item_work (steps line t p op before) = 4
  item_work (increments line t p op before at) = 3
  item_work (shifts line p n) = 3
  item_work (paces line p n before) = 2
  item_work (arrives line p n before at) = 3
  item_work (claims line zeroed) = 4
  item_work (tries line zeroed) = 4
  item_work (admits line zeroed) = 3
  item_work (draws words size line) = 2
  item_work (passes b) = work b + 1
  item_work (chooses a b) = work a + work b + 3
  item_work (evaluates_structure a) = structure_work a
  item_work (chooses_structure a b) = structure_work a + structure_work b + 2
  item_work (passes_structure a) = structure_work a + 1
  item_work (lists parts) = parts_work parts
  item_work (runs s) = statement_work s
  item_work (branches s) = statement_work s + 1
  item_work (divides s t) = statement_work s + statement_work t + 1
  item_work (enters items) = entry_work items
  item_work (goes_on items) = items_work items
  item_work (ends_block items) = leave_work items + 1
  item_work (leaves items) = leave_work items
  item_work (enters_parameters count v) = parameters_work count
  item_work (ends_parameters count) = parameters_work count + 1
  item_work (leaves_parameters count v) = parameters_work count
  item_work (gathers want f count args) = arguments_work args + 4 * count + call_work f + 1
  item_work (adds_number want f count t args) = arguments_work args + 4 * count + call_work f + 6
  item_work (gets want how) = 2
  item_work (turns n loop) = turns_work loop n
  item_work (retests n loop) = part_work loop.test + turns_work loop n + 2
  item_work (repeats n loop) = turns_work loop n + 1
  item_work (loops n loop) = part_work loop.last + part_work loop.test + turns_work loop n + 3
  item_work (selects items) = entry_work items + items_work items + leave_work items + 2
  item_work (switches items) = leave_work items + 1
  item_work _ = 1

-- the body of a function, and the ends of its activation
abbrev pub body_work : (tests call_work : ℕ → ℕ) → Option Statement → ℕ
body_work tests call_work None = 0
body_work tests call_work (Some s) = statement_work tests call_work s + 6

-- a call of a function, where so many activations of each function may still be opened
abbrev pub activation_work : Code → (fuel : ℕ) (left : List ℕ) → (function : ℕ) → ℕ
activation_work code zero left f = 0
activation_work code (suc fuel) left f =
    if slice_index left f == 0 then 0 else body_work (code.tests f) (activation_work code fuel (opened left f)) (body_of (slice_get code.functions f))

module _ (code : Code) where
  abbrev pub call_work_of : Active → ℕ → ℕ
  call_work_of r = activation_work code (suc (total r.left)) r.left

  abbrev pub total_work : List Item → Active → ℕ
  total_work [] r = 0
  total_work (resumes want caller saved ∷ is) r = 3 + total_work is (back caller r)
  total_work (i ∷ is) r = item_work (code.tests r.function) (call_work_of r) i + total_work is r

  abbrev pub weight : State → ℕ
  weight s = total_work s.items s.active
