-- The small steps: what a thread does next in a state.
use Rattle.std.specs.Prelude.{ℕ, zero, suc, Bool, true, false, ◌+◌, ◌-◌, ◌*◌, ℤ, pos, ◌==◌, ◌&&◌, not, nat_le, List, [], ◌∷◌, ◌++◌, length, take, drop, slice_get, slice_index, Option, Some, None, if◌then◌else◌}
use Rattle.words.specs.declared.check.Class.{Class}
use Rattle.words.specs.declared.check.Class.TheVariants.{Assertion, Return, Unwind, Recursion, Bounds, Pointer, MallocLimit}
use Rattle.c_types.specs.declared.integers.IntegerType.{IntegerType}
use Rattle.c_types.specs.declared.integers.IntegerType.TheVariants.{Int, Long, UnsignedLong}
use Rattle.c_types.specs.Integers.{bytes, promoted}
use Rattle.core_tree.specs.declared.operators.ArithmeticOperator.{ArithmeticOperator}
use Rattle.core_tree.specs.Trees as trees
use Rattle.core_tree.specs.Trees.{Place, variable_at, object_at, literal_at, pointed, arrow, member, element, subscript, Expression, constant, read, convert, sign, is_zero, arithmetic, compare, logical, choice, assign, update, step, comma, assertion, assumption, draw, part, discard, discard_structure, call, function_name, size_of_value, size_of_structure, address, sum, distance, relation, pointer_update, pointer_step, allocate, allocate_zeroed, release, exit, abort, Structure, copy, choose, put, follow, section, list, string, give, Parts, no_part, number_part, structure_part, Arguments, no_argument, number_argument, structure_argument, Statement, block, if_then, if_else, evaluate, Items, done, declares, initializes, initializes_structure, does, label, case_at, default_at, Procedure}
use Rattle.core_tree.specs.Operations.{is_true, truth_bits, converted, drawn_width, arithmetic_check, arithmetic_value, sign_check, sign_value, step_operation, compared}
use Rattle.actions.specs.declared.action.Action.{Action}
use Rattle.actions.specs.declared.action.Action.TheVariants.{Read, Write, Look, Draw, Alloc, Die, Free, End, Exit}
use Rattle.actions.specs.declared.action.Answer.{Answer}
use Rattle.actions.specs.Pointer.{object_of, offset_of}
use Rattle.c_values.specs.Pointers.{pointer_at, further, in_range, offset_by, elements_between}
use Rattle.c_values.specs.Variables.{Variables, low_bytes, put_at, zeros, number_of, number_at, pointer_to, word_count, drawn_count, block_of, put_bytes, cleared, write_variable, first_variables}
use Rattle.c_meaning.specs.Meaning.{Given, nothing, number, structure, value_of, Code, integer_of, number_type, decides, drawn, bytes_in, number_in, size_in, place_line, has_case, has_default, size_of, readonly_of, home_of, held_pointer, variable_of, in_variable, range_class, sizes_of, body_of, variables_of, opened}
use Rattle.c_values.specs.Numbers.{TypedNumber, typed}
use Rattle.c_values.specs.MadeObjects.{made_of}
use Rattle.c_tasks.specs.Items.{top, rest, second, top_bytes, rest_bytes, second_bytes, Active, active, back, running_of, Wanted, wants_number, wants_structure, wants_end, line_of, by_nothing, by_number, by_structure, Way, by_break, by_continue, by_jump, by_return, given_by, values_under, structures_under, blocks_on, Loop, loop_of, Item, evaluates, converts, signs, negates, operates, compares, decides_on, tests, chooses, retypes, drops, passes, asserts, assumes, locates, reaches, elements, loads, stores, rewrites, updates, combines, steps, increments, looks, lands, shifts, paces, advances, arrives, measures, orders, claims, tries, admits, draws, makes, releases, quits, evaluates_structure, picks, discards, discards_structure, chooses_structure, copies, stores_structure, passes_structure, cuts, lists, places_number, places_structure, runs, branches, divides, enters, goes_on, ends_block, leaves, fills, settles, initial, initial_structure, dies, enters_parameters, ends_parameters, leaves_parameters, gathers, adds_number, resumes, goes_out, gets, turns, retests, repeats, loops, selects, switches, strays, ending, ended, State, state, base, index_number}

-- a silent step to another state; an action with the state after each answer; or the thread breaks a check, is blocked or has ended with a value
pub data Move : Type 0 where
  silent : (next : State) → Move
  asks : (action : Action) (line : ℕ) (follows : Answer → State) → Move
  breaks : (class : Class) (line : ℕ) → Move
  blocks : Move
  ends : (v : ℕ) → Move

-- ---- where a thread goes on elsewhere: items are cut back

-- the items behind a label, where it is one of them
abbrev pub behind_label : ℕ → Items → Option Items
behind_label n done = None
behind_label n (declares line v more) = behind_label n more
behind_label n (initializes line v is_drawn e more) = behind_label n more
behind_label n (initializes_structure line v is_drawn a more) = behind_label n more
behind_label n (does s more) = behind_label n more
behind_label n (label m more) = if m == n then Some more else behind_label n more
behind_label n (case_at line t bits more) = behind_label n more
behind_label n (default_at line more) = behind_label n more

-- the items behind the case with these bits
abbrev pub behind_case : ℕ → Items → Items
behind_case x done = done
behind_case x (declares line v more) = behind_case x more
behind_case x (initializes line v is_drawn e more) = behind_case x more
behind_case x (initializes_structure line v is_drawn a more) = behind_case x more
behind_case x (does s more) = behind_case x more
behind_case x (label m more) = behind_case x more
behind_case x (case_at line t bits more) = if bits == x then more else behind_case x more
behind_case x (default_at line more) = behind_case x more

-- the items behind `default`
abbrev pub behind_default : Items → Items
behind_default done = done
behind_default (declares line v more) = behind_default more
behind_default (initializes line v is_drawn e more) = behind_default more
behind_default (initializes_structure line v is_drawn a more) = behind_default more
behind_default (does s more) = behind_default more
behind_default (label m more) = behind_default more
behind_default (case_at line t bits more) = behind_default more
behind_default (default_at line more) = more

-- the items of a switch whose value has these bits, before others
abbrev pub selected_items : Items → ℕ → List Item → List Item
selected_items items x is =
    if has_case items x then enters items ∷ goes_on (behind_case x items) ∷ switches items ∷ is
    else (if has_default items then enters items ∷ goes_on (behind_default items) ∷ switches items ∷ is else is)

-- a part of a loop that may be missing, whose value isn't used, before other items
abbrev pub part_items : Option Expression → List Item → List Item
part_items None is = is
part_items (Some e) is = evaluates e ∷ drops ∷ is

-- behind a label that stands among the items, or further out
abbrev pub jumped : Option Items → (further : State) → (Items → State) → State
jumped None further behind = further
jumped (Some items) further behind = behind items

-- where a statement before these items leads out: up to the next end of a block, whose objects die first, or to where the way leads
abbrev pub out_of : Way → List Item → Active → List TypedNumber → List (List ℕ) → Variables → State
out_of way [] r xs bs vs = state [] r xs bs vs
out_of way (ends_block items ∷ is) r xs bs vs = state (leaves items ∷ goes_out way ∷ is) r xs bs vs
out_of way (ends_parameters count ∷ is) r xs bs vs = state (leaves_parameters count 0 ∷ goes_out way ∷ is) r xs bs vs
out_of by_break (switches items ∷ is) r xs bs vs = state (leaves items ∷ is) r xs bs vs
out_of way (switches items ∷ is) r xs bs vs = state (leaves items ∷ goes_out way ∷ is) r xs bs vs
out_of by_break (loops n loop ∷ is) r xs bs vs = state is r xs bs vs
out_of by_continue (loops n loop ∷ is) r xs bs vs = state (loops n loop ∷ is) r xs bs vs
out_of (by_jump m) (goes_on items ∷ is) r xs bs vs = jumped (behind_label m items) (out_of (by_jump m) is r xs bs vs) (λ more. state (goes_on more ∷ is) r xs bs vs)
out_of (by_return how) (resumes want caller saved ∷ is) r xs bs vs = state (gets want how ∷ is) (back caller r) xs bs saved
out_of way (resumes want caller saved ∷ is) r xs bs vs = state (strays ∷ []) r xs bs vs
out_of way (_ ∷ is) r xs bs vs = out_of way is r xs bs vs

module _ (code : Code) (first limited : Bool) where
  abbrev pub unless_stopped : Option Class → ℕ → State → Move
  unless_stopped None line next = silent next
  unless_stopped (Some class) line next = breaks class line

  -- a bound is passed
  abbrev pub stops : Class → ℕ → Move
  stops class line = if code.assertions then breaks class line else blocks

  -- ---- places

  -- so many bytes where a place is: within a variable without an address, else where a pointer points
  abbrev pub move_bytes : Option ℕ → (at count line : ℕ) → Active → Variables → (List ℕ → State) → Move
  move_bytes (Some v) at count line r vs next =
      if nat_le (offset_of at + count) (size_of (running_of code r) v) then silent (next (take count (drop (offset_of at) (block_of vs v)))) else breaks Bounds line
  move_bytes None at count line r vs next = asks (Read at count) line (λ a. next (bytes_in a))

  -- these bytes take the place of as many there
  abbrev pub move_put : Option ℕ → (at : ℕ) → List ℕ → (line : ℕ) → Active → Variables → (Variables → State) → Move
  move_put (Some v) at new line r vs next =
      if nat_le (offset_of at + length new) (size_of (running_of code r) v) then silent (next (put_bytes vs v (offset_of at) new)) else breaks Bounds line
  move_put None at new line r vs next = asks (Write at new false) line (λ a. next vs)

  abbrev pub move_read : IntegerType → Place → (at : ℕ) → Active → Variables → (ℕ → State) → Move
  move_read t p at r vs next = move_bytes (variable_of (running_of code r) p) at (bytes t) (place_line p) r vs (λ found. next (number_of t found))

  abbrev pub move_write : IntegerType → Place → (at line bits : ℕ) → Active → Variables → (Variables → State) → Move
  move_write t p at line bits r vs next = move_put (variable_of (running_of code r) p) at (low_bytes (bytes t) bits) line r vs next

  -- an operation at type u on a place's number of type t, and y of type w: the place is to take the result
  abbrev pub move_combined : IntegerType → ArithmeticOperator → (u w : IntegerType) → (old y line : ℕ) → (ℕ → State) → Move
  move_combined t op u w old y line next =
      let x = converted t u old in unless_stopped (arithmetic_check op u w x y) line (next (converted u t (arithmetic_value op u x y)))

  -- the pointer so many steps further on, where its object has so many bytes
  abbrev pub move_pointer : (is_element : Bool) → (p size : ℕ) → (index stride : ℤ) → (line : ℕ) → (ℕ → State) → Move
  move_pointer is_element p size index stride line next =
      let offset = offset_by (offset_of p) index stride in
      if in_range offset size then silent (next (pointer_at p offset)) else breaks (range_class is_element) line

  abbrev pub move_place : Place → List Item → Active → List TypedNumber → List (List ℕ) → Variables → Move
  move_place (variable_at line v offset) is r xs bs vs = silent (state is r (typed UnsignedLong (in_variable (running_of code r) (home_of (running_of code r) v) vs offset) ∷ xs) bs vs)
  move_place (object_at line k offset) is r xs bs vs = silent (state is r (typed UnsignedLong (pointer_to k offset) ∷ xs) bs vs)
  move_place (literal_at line k) is r xs bs vs = silent (state is r (typed UnsignedLong (pointer_to (code.literals + k) 0) ∷ xs) bs vs)
  move_place (pointed line e) is r xs bs vs = silent (state (evaluates e ∷ retypes UnsignedLong ∷ is) r xs bs vs)
  move_place (arrow line e offset) is r xs bs vs = silent (state (evaluates e ∷ reaches offset ∷ is) r xs bs vs)
  move_place (member line x offset) is r xs bs vs = silent (state (locates x ∷ reaches offset ∷ is) r xs bs vs)
  move_place (element line x e size whole false) is r xs bs vs = silent (state (locates x ∷ evaluates e ∷ elements line size whole false ∷ is) r xs bs vs)
  move_place (element line x e size whole true) is r xs bs vs = silent (state (evaluates e ∷ locates x ∷ elements line size whole true ∷ is) r xs bs vs)
  move_place (subscript line a e size false) is r xs bs vs = silent (state (evaluates a ∷ evaluates e ∷ looks line (pos size) true false ∷ is) r xs bs vs)
  move_place (subscript line a e size true) is r xs bs vs = silent (state (evaluates e ∷ evaluates a ∷ looks line (pos size) true true ∷ is) r xs bs vs)

  abbrev pub move_expression : Expression → List Item → Active → List TypedNumber → List (List ℕ) → Variables → Move
  move_expression (constant line t bits) is r xs bs vs = silent (state is r (typed t bits ∷ xs) bs vs)
  move_expression (read t p) is r xs bs vs = silent (state (locates p ∷ loads t p ∷ is) r xs bs vs)
  move_expression (convert to e) is r xs bs vs = silent (state (evaluates e ∷ converts to ∷ is) r xs bs vs)
  move_expression (sign line op e) is r xs bs vs = silent (state (evaluates e ∷ signs line op ∷ is) r xs bs vs)
  move_expression (is_zero line e) is r xs bs vs = silent (state (evaluates e ∷ negates ∷ is) r xs bs vs)
  move_expression (arithmetic line op a b) is r xs bs vs = silent (state (evaluates a ∷ evaluates b ∷ operates line op ∷ is) r xs bs vs)
  move_expression (compare line op a b) is r xs bs vs = silent (state (evaluates a ∷ evaluates b ∷ compares op ∷ is) r xs bs vs)
  move_expression (logical line op a b) is r xs bs vs = silent (state (evaluates a ∷ decides_on op b ∷ is) r xs bs vs)
  move_expression (choice line test a b) is r xs bs vs = silent (state (evaluates test ∷ chooses a b ∷ is) r xs bs vs)
  move_expression (assign line t p e) is r xs bs vs = silent (state (locates p ∷ evaluates e ∷ stores line t p ∷ is) r xs bs vs)
  move_expression (update line t p op u e) is r xs bs vs = silent (state (locates p ∷ evaluates e ∷ updates line t p op u ∷ is) r xs bs vs)
  move_expression (step line t p op before) is r xs bs vs = silent (state (locates p ∷ steps line t p (step_operation op) before ∷ is) r xs bs vs)
  move_expression (comma line a b) is r xs bs vs = silent (state (evaluates a ∷ passes b ∷ is) r xs bs vs)
  move_expression (assertion line e) is r xs bs vs = silent (state (evaluates e ∷ asserts line ∷ is) r xs bs vs)
  move_expression (assumption line e) is r xs bs vs = silent (state (evaluates e ∷ assumes ∷ is) r xs bs vs)
  move_expression (draw line t) is r xs bs vs = asks (Draw (drawn_width t)) line (λ a. state is r (typed t (drawn a) ∷ xs) bs vs)
  move_expression (part line t offset a) is r xs bs vs = silent (state (evaluates_structure a ∷ picks t offset ∷ is) r xs bs vs)
  move_expression (discard line e) is r xs bs vs = silent (state (evaluates e ∷ discards ∷ is) r xs bs vs)
  move_expression (discard_structure a) is r xs bs vs = silent (state (evaluates_structure a ∷ discards_structure ∷ is) r xs bs vs)
  move_expression (call line f used t args) is r xs bs vs = silent (state (gathers (wants_number line used (integer_of t)) f 0 args ∷ is) r xs bs vs)
  move_expression (function_name line) is r xs bs vs = silent (state is r (typed Int 0 ∷ xs) bs vs)
  move_expression (size_of_value line bits e) is r xs bs vs = silent (state is r (typed UnsignedLong bits ∷ xs) bs vs)
  move_expression (size_of_structure line bits a) is r xs bs vs = silent (state is r (typed UnsignedLong bits ∷ xs) bs vs)
  move_expression (address line p) is r xs bs vs = silent (state (locates p ∷ is) r xs bs vs)
  move_expression (sum line a e n false) is r xs bs vs = silent (state (evaluates a ∷ evaluates e ∷ looks line n false false ∷ is) r xs bs vs)
  move_expression (sum line a e n true) is r xs bs vs = silent (state (evaluates e ∷ evaluates a ∷ looks line n false true ∷ is) r xs bs vs)
  move_expression (distance line a b n) is r xs bs vs = silent (state (evaluates a ∷ evaluates b ∷ measures line n ∷ is) r xs bs vs)
  move_expression (relation line op a b) is r xs bs vs = silent (state (evaluates a ∷ evaluates b ∷ orders line op ∷ is) r xs bs vs)
  move_expression (pointer_update line p n e) is r xs bs vs = silent (state (locates p ∷ evaluates e ∷ shifts line p n ∷ is) r xs bs vs)
  move_expression (pointer_step line p n before) is r xs bs vs = silent (state (locates p ∷ paces line p n before ∷ is) r xs bs vs)
  move_expression (allocate line e) is r xs bs vs = silent (state (evaluates e ∷ claims line false ∷ is) r xs bs vs)
  move_expression (allocate_zeroed line a b) is r xs bs vs = silent (state (evaluates a ∷ evaluates b ∷ claims line true ∷ is) r xs bs vs)
  move_expression (release line e) is r xs bs vs = silent (state (evaluates e ∷ releases line ∷ is) r xs bs vs)
  move_expression (exit line e) is r xs bs vs = silent (state (evaluates e ∷ quits line ∷ is) r xs bs vs)
  move_expression (abort line) is r xs bs vs = silent (state (quits line ∷ is) r xs bs vs)

  abbrev pub move_structure : Structure → List Item → Active → List TypedNumber → List (List ℕ) → Variables → Move
  move_structure (copy p size) is r xs bs vs = silent (state (locates p ∷ copies p size ∷ is) r xs bs vs)
  move_structure (choose line test a b) is r xs bs vs = silent (state (evaluates test ∷ chooses_structure a b ∷ is) r xs bs vs)
  move_structure (put line p a) is r xs bs vs = silent (state (locates p ∷ evaluates_structure a ∷ stores_structure line p ∷ is) r xs bs vs)
  move_structure (follow line e a) is r xs bs vs = silent (state (evaluates e ∷ passes_structure a ∷ is) r xs bs vs)
  move_structure (section line offset size a) is r xs bs vs = silent (state (evaluates_structure a ∷ cuts offset size ∷ is) r xs bs vs)
  move_structure (list line size parts) is r xs bs vs = silent (state (lists parts ∷ is) r xs (zeros size ∷ bs) vs)
  move_structure (string line size text) is r xs bs vs = silent (state is r xs (put_at 0 text (zeros size) ∷ bs) vs)
  move_structure (give line f used size args) is r xs bs vs = silent (state (gathers (wants_structure line used size) f 0 args ∷ is) r xs bs vs)

  abbrev pub move_parts : Parts → List Item → Active → List TypedNumber → List (List ℕ) → Variables → Move
  move_parts no_part is r xs bs vs = silent (state is r xs (top_bytes bs ∷ rest_bytes bs) vs)
  move_parts (number_part offset e more) is r xs bs vs = silent (state (evaluates e ∷ places_number offset (number_type e) ∷ lists more ∷ is) r xs bs vs)
  move_parts (structure_part offset a more) is r xs bs vs = silent (state (evaluates_structure a ∷ places_structure offset ∷ lists more ∷ is) r xs bs vs)

  abbrev pub move_statement : Statement → List Item → Active → List TypedNumber → List (List ℕ) → Variables → Move
  move_statement (block items) is r xs bs vs = silent (state (enters items ∷ goes_on items ∷ ends_block items ∷ is) r xs bs vs)
  move_statement (if_then line test s) is r xs bs vs = silent (state (evaluates test ∷ branches s ∷ is) r xs bs vs)
  move_statement (if_else line test s t) is r xs bs vs = silent (state (evaluates test ∷ divides s t ∷ is) r xs bs vs)
  move_statement (evaluate e) is r xs bs vs = silent (state (evaluates e ∷ drops ∷ is) r xs bs vs)
  move_statement (trees.returns line e) is r xs bs vs = silent (state (evaluates e ∷ goes_out (by_return by_number) ∷ is) r xs bs vs)
  move_statement (trees.returns_structure line a) is r xs bs vs = silent (state (evaluates_structure a ∷ goes_out (by_return by_structure) ∷ is) r xs bs vs)
  move_statement (trees.returns_nothing line) is r xs bs vs = silent (state (goes_out (by_return by_nothing) ∷ is) r xs bs vs)
  move_statement (trees.for_loop line n start test last s) is r xs bs vs =
      silent (state (part_items start (retests (code.tests r.function n - 1) (loop_of line test last s) ∷ is)) r xs bs vs)
  move_statement (trees.do_loop line n s test) is r xs bs vs = silent (state (turns (code.tests r.function n) (loop_of line (Some test) None s) ∷ is) r xs bs vs)
  move_statement (trees.switch line e items) is r xs bs vs = silent (state (evaluates e ∷ selects items ∷ is) r xs bs vs)
  move_statement (trees.breaks line) is r xs bs vs = silent (state (goes_out by_break ∷ is) r xs bs vs)
  move_statement (trees.continues line) is r xs bs vs = silent (state (goes_out by_continue ∷ is) r xs bs vs)
  move_statement (trees.jumps line n) is r xs bs vs = silent (state (goes_out (by_jump n) ∷ is) r xs bs vs)
  move_statement (trees.stray line s) is r xs bs vs = silent (state (runs s ∷ is) r xs bs vs)

  -- ---- loops

  -- a loop's next round, where one is left
  abbrev pub move_turn : ℕ → Loop → List Item → Active → List TypedNumber → List (List ℕ) → Variables → Move
  move_turn zero loop is r xs bs vs = if limited then stops Unwind loop.line else silent (state (runs loop.body ∷ loops 0 loop ∷ is) r xs bs vs)
  move_turn (suc n) loop is r xs bs vs = silent (state (runs loop.body ∷ loops n loop ∷ is) r xs bs vs)

  abbrev pub move_test : Option Expression → ℕ → Loop → List Item → Active → List TypedNumber → List (List ℕ) → Variables → Move
  move_test None n loop is r xs bs vs = silent (state (turns n loop ∷ is) r xs bs vs)
  move_test (Some e) n loop is r xs bs vs = silent (state (evaluates e ∷ repeats n loop ∷ is) r xs bs vs)

  -- ---- calls

  -- the body of a function that is called, with these arguments: its parameters become objects where they have an address, and die behind it
  abbrev pub move_body : Wanted → ℕ → List (List ℕ) → List ℕ → Option Statement → List Item → Active → List TypedNumber → List (List ℕ) → Variables → Move
  move_body want f args sizes None is r xs bs vs = breaks Assertion (line_of want)
  move_body want f args sizes (Some s) is r xs bs vs =
      silent (state (enters_parameters (length args) 0 ∷ runs s ∷ ends_parameters (length args) ∷ resumes want r.function vs ∷ is) (active f (opened r.left f)) xs bs (args ++ first_variables (drop (length args) sizes)))

  abbrev pub move_call : Wanted → ℕ → List (List ℕ) → List Item → Active → List TypedNumber → List (List ℕ) → Variables → Move
  move_call want f args is r xs bs vs =
      if limited && slice_index r.left f == 0 then stops Recursion (line_of want) else move_body want f args (sizes_of (variables_of (slice_get code.functions f))) (body_of (slice_get code.functions f)) is r xs bs vs

  -- the next argument, or the call where there is none
  abbrev pub move_arguments : Wanted → ℕ → ℕ → Arguments → List Item → Active → List TypedNumber → List (List ℕ) → Variables → Move
  move_arguments want f count no_argument is r xs bs vs = move_call want f (blocks_on count bs) is r xs (drop count bs) vs
  move_arguments want f count (number_argument e more) is r xs bs vs = silent (state (evaluates e ∷ adds_number want f count (number_type e) more ∷ is) r xs bs vs)
  move_arguments want f count (structure_argument a more) is r xs bs vs = silent (state (evaluates_structure a ∷ gathers want f (suc count) more ∷ is) r xs bs vs)

  -- what a call has given
  abbrev pub move_given : Wanted → Given → List Item → Active → List TypedNumber → List (List ℕ) → Variables → Move
  move_given (wants_number line used t) nothing is r xs bs vs = if used then breaks Return line else silent (state is r (typed t 0 ∷ xs) bs vs)
  move_given (wants_number line used t) (number x) is r xs bs vs = silent (state is r (typed t (number_of t (low_bytes (bytes t) x)) ∷ xs) bs vs)
  move_given (wants_number line used t) (structure value) is r xs bs vs = silent (state is r (typed t 0 ∷ xs) bs vs)
  move_given (wants_structure line used size) nothing is r xs bs vs = if used then breaks Return line else silent (state is r xs (zeros size ∷ bs) vs)
  move_given (wants_structure line used size) (number x) is r xs bs vs = silent (state is r xs (zeros size ∷ bs) vs)
  move_given (wants_structure line used size) (structure value) is r xs bs vs = silent (state is r xs (value ∷ bs) vs)
  move_given (wants_end line) given is r xs bs vs = silent (state (ending line (value_of given) ∷ is) r xs bs vs)

  -- the next of the words that are drawn of a variable
  abbrev pub move_fill : (words line v offset : ℕ) → List Item → Active → List TypedNumber → List (List ℕ) → Variables → Move
  move_fill zero line v offset is r xs bs vs = silent (state is r xs bs vs)
  move_fill (suc k) line v offset is r xs bs vs =
      let count = drawn_count (size_of (running_of code r) v) offset in
      asks (Draw (8 * count)) line (λ a. state (fills k line v (offset + 8) ∷ is) r xs bs (put_bytes vs v offset (low_bytes count (drawn a))))

  -- a variable is to be drawn, or its bytes are 0; then it becomes an object where it has an address
  abbrev pub makes_variable : Bool → ℕ → ℕ → Items → List Item → Active → List TypedNumber → List (List ℕ) → Variables → Move
  makes_variable true line v more is r xs bs vs = silent (state (fills (word_count (size_of (running_of code r) v)) line v 0 ∷ settles line v ∷ enters more ∷ is) r xs bs vs)
  makes_variable false line v more is r xs bs vs = silent (state (settles line v ∷ enters more ∷ is) r xs bs (cleared vs v (size_of (running_of code r) v)))

  abbrev pub move_entry : Items → List Item → Active → List TypedNumber → List (List ℕ) → Variables → Move
  move_entry done is r xs bs vs = silent (state is r xs bs vs)
  move_entry (declares line v more) is r xs bs vs = makes_variable true line v more is r xs bs vs
  move_entry (initializes line v is_drawn e more) is r xs bs vs = makes_variable is_drawn line v more is r xs bs vs
  move_entry (initializes_structure line v is_drawn a more) is r xs bs vs = makes_variable is_drawn line v more is r xs bs vs
  move_entry (does s more) is r xs bs vs = silent (state (enters more ∷ is) r xs bs vs)
  move_entry (label n more) is r xs bs vs = silent (state (enters more ∷ is) r xs bs vs)
  move_entry (case_at line t bits more) is r xs bs vs = silent (state (enters more ∷ is) r xs bs vs)
  move_entry (default_at line more) is r xs bs vs = silent (state (enters more ∷ is) r xs bs vs)

  -- the object of a variable is made, or written first, or dies, where the variable has an address
  abbrev pub move_settle : Option ℕ → (line v : ℕ) → List Item → Active → List TypedNumber → List (List ℕ) → Variables → Move
  move_settle None line v is r xs bs vs = silent (state is r xs bs vs)
  move_settle (Some h) line v is r xs bs vs =
      asks (Alloc (made_of (readonly_of (running_of code r) v) false (block_of vs v))) line (λ a. state is r xs bs (write_variable vs h 0 UnsignedLong (pointer_to (number_in a) 0)))

  abbrev pub move_initial : Option ℕ → (v : ℕ) → List ℕ → (line : ℕ) → Active → Variables → (Variables → State) → Move
  move_initial None v new line r vs next = silent (next (put_bytes vs v 0 new))
  move_initial (Some h) v new line r vs next = asks (Write (held_pointer (running_of code r) vs h) new true) line (λ a. next vs)

  abbrev pub move_death : Option ℕ → (line : ℕ) → List Item → Active → List TypedNumber → List (List ℕ) → Variables → Move
  move_death None line is r xs bs vs = silent (state is r xs bs vs)
  move_death (Some h) line is r xs bs vs = asks (Die (object_of (held_pointer (running_of code r) vs h))) line (λ a. state is r xs bs vs)

  abbrev pub move_end : Items → List Item → Active → List TypedNumber → List (List ℕ) → Variables → Move
  move_end done is r xs bs vs = silent (state is r xs bs vs)
  move_end (declares line v more) is r xs bs vs = silent (state (leaves more ∷ dies line v ∷ is) r xs bs vs)
  move_end (initializes line v is_drawn e more) is r xs bs vs = silent (state (leaves more ∷ dies line v ∷ is) r xs bs vs)
  move_end (initializes_structure line v is_drawn a more) is r xs bs vs = silent (state (leaves more ∷ dies line v ∷ is) r xs bs vs)
  move_end (does s more) is r xs bs vs = silent (state (leaves more ∷ is) r xs bs vs)
  move_end (label n more) is r xs bs vs = silent (state (leaves more ∷ is) r xs bs vs)
  move_end (case_at line t bits more) is r xs bs vs = silent (state (leaves more ∷ is) r xs bs vs)
  move_end (default_at line more) is r xs bs vs = silent (state (leaves more ∷ is) r xs bs vs)

  abbrev pub move_parameters : (count v : ℕ) → List Item → Active → List TypedNumber → List (List ℕ) → Variables → Move
  move_parameters zero v is r xs bs vs = silent (state is r xs bs vs)
  move_parameters (suc count) v is r xs bs vs = let running = running_of code r in silent (state (settles running.line v ∷ enters_parameters count (suc v) ∷ is) r xs bs vs)

  abbrev pub move_last : (count v : ℕ) → List Item → Active → List TypedNumber → List (List ℕ) → Variables → Move
  move_last zero v is r xs bs vs = silent (state is r xs bs vs)
  move_last (suc count) v is r xs bs vs = let running = running_of code r in silent (state (leaves_parameters count (suc v) ∷ dies running.line v ∷ is) r xs bs vs)

  -- ---- objects that are allocated

  -- where an allocation may fail one bit is drawn
  abbrev pub move_claim : (line : ℕ) (zeroed : Bool) → List Item → Active → List TypedNumber → List (List ℕ) → Variables → Move
  move_claim line zeroed is r xs bs vs =
      if code.malloc_may_fail then asks (Draw 1) line (λ a. state (tries line zeroed ∷ is) r (typed Int (drawn a) ∷ xs) bs vs) else silent (state (admits line zeroed ∷ is) r xs bs vs)

  -- the operands of an allocation are taken
  abbrev pub without_sizes : Bool → List TypedNumber → List TypedNumber
  without_sizes false xs = rest xs
  without_sizes true xs = rest (rest xs)

  abbrev pub move_try : (line : ℕ) (zeroed : Bool) → List Item → Active → List TypedNumber → List (List ℕ) → Variables → Move
  move_try line zeroed is r xs bs vs =
      silent (if is_true (top xs).bits then state is r (typed UnsignedLong 0 ∷ without_sizes zeroed (rest xs)) bs vs else state (admits line zeroed ∷ is) r (rest xs) bs vs)

  abbrev pub move_admission : (line : ℕ) (zeroed : Bool) → List Item → Active → List TypedNumber → List (List ℕ) → Variables → Move
  move_admission line false is r xs bs vs =
      if nat_le (top xs).bits code.malloc_limit then silent (state (draws (word_count (top xs).bits) (top xs).bits line ∷ is) r xs ([] ∷ bs) vs) else breaks MallocLimit line
  move_admission line true is r xs bs vs =
      let size = (second xs).bits * (top xs).bits in
      if nat_le size code.malloc_limit then silent (state (makes line ∷ is) r (typed UnsignedLong size ∷ rest (rest xs)) (zeros size ∷ bs) vs) else breaks MallocLimit line

  -- the next word, behind the bytes so far
  abbrev pub move_draw : (words size line : ℕ) → List Item → Active → List TypedNumber → List (List ℕ) → Variables → Move
  move_draw zero size line is r xs bs vs = silent (state (makes line ∷ is) r xs bs vs)
  move_draw (suc k) size line is r xs bs vs =
      let count = drawn_count size (length (top_bytes bs)) in
      asks (Draw (8 * count)) line (λ a. state (draws k size line ∷ is) r xs ((top_bytes bs ++ low_bytes count (drawn a)) ∷ rest_bytes bs) vs)

  abbrev pub move_items : Items → List Item → Active → List TypedNumber → List (List ℕ) → Variables → Move
  move_items done is r xs bs vs = silent (state is r xs bs vs)
  move_items (declares line v more) is r xs bs vs = silent (state (goes_on more ∷ is) r xs bs vs)
  move_items (initializes line v is_drawn e more) is r xs bs vs = silent (state (evaluates e ∷ initial line v (number_type e) ∷ goes_on more ∷ is) r xs bs vs)
  move_items (initializes_structure line v is_drawn a more) is r xs bs vs = silent (state (evaluates_structure a ∷ initial_structure line v ∷ goes_on more ∷ is) r xs bs vs)
  move_items (does s more) is r xs bs vs = silent (state (runs s ∷ goes_on more ∷ is) r xs bs vs)
  move_items (label n more) is r xs bs vs = silent (state (goes_on more ∷ is) r xs bs vs)
  move_items (case_at line t bits more) is r xs bs vs = silent (state (goes_on more ∷ is) r xs bs vs)
  move_items (default_at line more) is r xs bs vs = silent (state (goes_on more ∷ is) r xs bs vs)

  abbrev pub move_item : Item → List Item → Active → List TypedNumber → List (List ℕ) → Variables → Move
  move_item (evaluates e) is r xs bs vs = move_expression e is r xs bs vs
  move_item (converts to) is r xs bs vs = silent (state is r (typed to (converted (top xs).type to (top xs).bits) ∷ rest xs) bs vs)
  move_item (signs line op) is r xs bs vs =
      unless_stopped (sign_check op (top xs).type (top xs).bits) line (state is r (typed (top xs).type (sign_value op (top xs).type (top xs).bits) ∷ rest xs) bs vs)
  move_item negates is r xs bs vs = silent (state is r (typed Int (truth_bits (not (is_true (top xs).bits))) ∷ rest xs) bs vs)
  move_item (operates line op) is r xs bs vs =
      unless_stopped (arithmetic_check op (second xs).type (top xs).type (second xs).bits (top xs).bits) line
      (state is r (typed (second xs).type (arithmetic_value op (second xs).type (second xs).bits (top xs).bits) ∷ rest (rest xs)) bs vs)
  move_item (compares op) is r xs bs vs = silent (state is r (typed Int (truth_bits (compared op (second xs).type (second xs).bits (top xs).bits)) ∷ rest (rest xs)) bs vs)
  move_item (decides_on op b) is r xs bs vs =
      silent (if decides op (top xs).bits then state is r (typed Int (truth_bits (is_true (top xs).bits)) ∷ rest xs) bs vs else state (evaluates b ∷ tests ∷ is) r (rest xs) bs vs)
  move_item tests is r xs bs vs = silent (state is r (typed Int (truth_bits (is_true (top xs).bits)) ∷ rest xs) bs vs)
  move_item (chooses a b) is r xs bs vs = silent (state (evaluates (if is_true (top xs).bits then a else b) ∷ retypes (number_type a) ∷ is) r (rest xs) bs vs)
  move_item (retypes t) is r xs bs vs = silent (state is r (typed t (top xs).bits ∷ rest xs) bs vs)
  move_item (locates p) is r xs bs vs = move_place p is r xs bs vs
  move_item (reaches offset) is r xs bs vs = silent (state is r (typed UnsignedLong (further (top xs).bits offset) ∷ rest xs) bs vs)
  move_item (elements line size whole swapped) is r xs bs vs =
      move_pointer true (base swapped xs).bits whole (index_number swapped xs) (pos size) line (λ at. state is r (typed UnsignedLong at ∷ rest (rest xs)) bs vs)
  move_item (loads t p) is r xs bs vs = move_read t p (top xs).bits r vs (λ x. state is r (typed t x ∷ rest xs) bs vs)
  move_item (stores line t p) is r xs bs vs = move_write t p (second xs).bits line (top xs).bits r vs (λ now. state is r (typed t (top xs).bits ∷ rest (rest xs)) bs now)
  move_item (rewrites line t p at) is r xs bs vs = move_write t p at line (top xs).bits r vs (λ now. state is r (typed t (top xs).bits ∷ rest xs) bs now)
  move_item (updates line t p op u) is r xs bs vs = move_read t p (second xs).bits r vs (λ old. state (combines line t p op u ∷ is) r (typed t old ∷ xs) bs vs)
  move_item (combines line t p op u) is r xs bs vs =
      move_combined t op u (second xs).type (top xs).bits (second xs).bits line (λ new. state (stores line t p ∷ is) r (typed t new ∷ rest (rest xs)) bs vs)
  move_item (steps line t p op before) is r xs bs vs = move_read t p (top xs).bits r vs (λ old. state (increments line t p op before (top xs).bits ∷ is) r (typed t old ∷ rest xs) bs vs)
  move_item (increments line t p op before at) is r xs bs vs =
      move_combined t op (promoted t) (promoted t) (top xs).bits 1 line (λ new. state (rewrites line t p at ∷ (if before then is else drops ∷ is)) r (typed t new ∷ (if before then rest xs else xs)) bs vs)
  move_item (looks line n is_element swapped) is r xs bs vs =
      asks (Look (base swapped xs).bits is_element) line (λ a. state (lands line n is_element swapped ∷ is) r (typed UnsignedLong (size_in a) ∷ xs) bs vs)
  move_item (lands line n is_element swapped) is r xs bs vs =
      move_pointer is_element (base swapped (rest xs)).bits (top xs).bits (index_number swapped (rest xs)) n line (λ q. state is r (typed UnsignedLong q ∷ rest (rest (rest xs))) bs vs)
  move_item (shifts line p n) is r xs bs vs =
      move_read UnsignedLong p (second xs).bits r vs (λ old. state (looks line n false true ∷ stores line UnsignedLong p ∷ is) r (typed UnsignedLong old ∷ xs) bs vs)
  move_item (paces line p n before) is r xs bs vs =
      move_read UnsignedLong p (top xs).bits r vs (λ old. state (advances line p n before (top xs).bits ∷ is) r (typed UnsignedLong old ∷ rest xs) bs vs)
  move_item (advances line p n before at) is r xs bs vs =
      asks (Look (top xs).bits false) line (λ a. state (arrives line p n before at ∷ is) r (typed UnsignedLong (size_in a) ∷ xs) bs vs)
  move_item (arrives line p n before at) is r xs bs vs =
      move_pointer false (second xs).bits (top xs).bits (pos 1) n line (λ q. state (rewrites line UnsignedLong p at ∷ (if before then is else drops ∷ is)) r (typed UnsignedLong q ∷ (if before then rest (rest xs) else rest xs)) bs vs)
  move_item (measures line n) is r xs bs vs =
      unless_stopped (if object_of (second xs).bits == object_of (top xs).bits then None else Some Pointer) line
      (state is r (typed Long (elements_between (second xs).bits (top xs).bits n) ∷ rest (rest xs)) bs vs)
  move_item (orders line op) is r xs bs vs =
      unless_stopped (if object_of (second xs).bits == object_of (top xs).bits then None else Some Pointer) line
      (state is r (typed Int (truth_bits (compared op UnsignedLong (offset_of (second xs).bits) (offset_of (top xs).bits))) ∷ rest (rest xs)) bs vs)
  move_item (claims line zeroed) is r xs bs vs = move_claim line zeroed is r xs bs vs
  move_item (tries line zeroed) is r xs bs vs = move_try line zeroed is r xs bs vs
  move_item (admits line zeroed) is r xs bs vs = move_admission line zeroed is r xs bs vs
  move_item (draws words size line) is r xs bs vs = move_draw words size line is r xs bs vs
  move_item (makes line) is r xs bs vs =
      asks (Alloc (made_of false true (top_bytes bs))) line (λ a. state is r (typed UnsignedLong (pointer_to (number_in a) 0) ∷ rest xs) (rest_bytes bs) vs)
  move_item (releases line) is r xs bs vs =
      let next = state is r (typed Int 0 ∷ rest xs) bs vs in if (top xs).bits == 0 then silent next else asks (Free (top xs).bits) line (λ a. next)
  move_item (quits line) is r xs bs vs = asks Exit line (λ a. state (ended 0 ∷ is) r xs bs vs)
  move_item drops is r xs bs vs = silent (state is r (rest xs) bs vs)
  move_item (passes b) is r xs bs vs = silent (state (evaluates b ∷ is) r (rest xs) bs vs)
  move_item (asserts line) is r xs bs vs = unless_stopped (if is_true (top xs).bits then None else Some Assertion) line (state is r (typed Int 0 ∷ rest xs) bs vs)
  move_item assumes is r xs bs vs = if is_true (top xs).bits then silent (state is r (typed Int 0 ∷ rest xs) bs vs) else blocks
  move_item (evaluates_structure a) is r xs bs vs = move_structure a is r xs bs vs
  move_item (picks t offset) is r xs bs vs = silent (state is r (typed t (number_at t offset (top_bytes bs)) ∷ xs) (rest_bytes bs) vs)
  move_item discards is r xs bs vs = silent (state is r (typed Int 0 ∷ rest xs) bs vs)
  move_item discards_structure is r xs bs vs = silent (state is r (typed Int 0 ∷ xs) (rest_bytes bs) vs)
  move_item (chooses_structure a b) is r xs bs vs = silent (state (evaluates_structure (if is_true (top xs).bits then a else b) ∷ is) r (rest xs) bs vs)
  move_item (copies p size) is r xs bs vs =
      move_bytes (variable_of (running_of code r) p) (top xs).bits size (place_line p) r vs (λ value. state is r (rest xs) (value ∷ bs) vs)
  move_item (stores_structure line p) is r xs bs vs =
      move_put (variable_of (running_of code r) p) (top xs).bits (top_bytes bs) line r vs (λ now. state is r (rest xs) bs now)
  move_item (passes_structure a) is r xs bs vs = silent (state (evaluates_structure a ∷ is) r (rest xs) bs vs)
  move_item (cuts offset size) is r xs bs vs = silent (state is r xs (take size (drop offset (top_bytes bs)) ∷ rest_bytes bs) vs)
  move_item (lists parts) is r xs bs vs = move_parts parts is r xs bs vs
  move_item (places_number offset t) is r xs bs vs = silent (state is r (rest xs) (put_at offset (low_bytes (bytes t) (top xs).bits) (top_bytes bs) ∷ rest_bytes bs) vs)
  move_item (places_structure offset) is r xs bs vs = silent (state is r xs (put_at offset (top_bytes bs) (second_bytes bs) ∷ rest_bytes (rest_bytes bs)) vs)
  move_item (runs s) is r xs bs vs = move_statement s is r xs bs vs
  move_item (branches s) is r xs bs vs = silent (state (if is_true (top xs).bits then runs s ∷ is else is) r (rest xs) bs vs)
  move_item (divides s t) is r xs bs vs = silent (state (runs (if is_true (top xs).bits then s else t) ∷ is) r (rest xs) bs vs)
  move_item (enters items) is r xs bs vs = move_entry items is r xs bs vs
  move_item (goes_on items) is r xs bs vs = move_items items is r xs bs vs
  move_item (ends_block items) is r xs bs vs = silent (state (leaves items ∷ is) r xs bs vs)
  move_item (leaves items) is r xs bs vs = move_end items is r xs bs vs
  move_item (fills words line v offset) is r xs bs vs = move_fill words line v offset is r xs bs vs
  move_item (settles line v) is r xs bs vs = move_settle (home_of (running_of code r) v) line v is r xs bs vs
  move_item (initial line v t) is r xs bs vs =
      move_initial (home_of (running_of code r) v) v (low_bytes (bytes t) (top xs).bits) line r vs (λ now. state is r (rest xs) bs now)
  move_item (initial_structure line v) is r xs bs vs = move_initial (home_of (running_of code r) v) v (top_bytes bs) line r vs (λ now. state is r xs (rest_bytes bs) now)
  move_item (dies line v) is r xs bs vs = move_death (home_of (running_of code r) v) line is r xs bs vs
  move_item (enters_parameters count v) is r xs bs vs = move_parameters count v is r xs bs vs
  move_item (ends_parameters count) is r xs bs vs = silent (state (leaves_parameters count 0 ∷ is) r xs bs vs)
  move_item (leaves_parameters count v) is r xs bs vs = move_last count v is r xs bs vs
  move_item (gathers want f count args) is r xs bs vs = move_arguments want f count args is r xs bs vs
  move_item (adds_number want f count t args) is r xs bs vs = silent (state (gathers want f (suc count) args ∷ is) r (rest xs) (low_bytes (bytes t) (top xs).bits ∷ bs) vs)
  move_item (resumes want caller saved) is r xs bs vs = silent (state (gets want by_nothing ∷ is) (back caller r) xs bs saved)
  move_item (goes_out way) is r xs bs vs = silent (out_of way is r xs bs vs)
  move_item (gets want how) is r xs bs vs = move_given want (given_by how xs bs) is r (values_under how xs) (structures_under how bs) vs
  move_item (turns n loop) is r xs bs vs = move_turn n loop is r xs bs vs
  move_item (retests n loop) is r xs bs vs = move_test loop.test n loop is r xs bs vs
  move_item (repeats n loop) is r xs bs vs = silent (state (if is_true (top xs).bits then turns n loop ∷ is else is) r (rest xs) bs vs)
  move_item (loops n loop) is r xs bs vs = silent (state (part_items loop.last (retests n loop ∷ is)) r xs bs vs)
  move_item (selects items) is r xs bs vs = silent (state (selected_items items (top xs).bits is) r (rest xs) bs vs)
  move_item (switches items) is r xs bs vs = silent (state (leaves items ∷ is) r xs bs vs)
  move_item strays is r xs bs vs = let running = running_of code r in breaks Assertion running.line
  move_item (ending line x) is r xs bs vs = asks (if first then Exit else End x) line (λ a. state (ended x ∷ is) r xs bs vs)
  move_item (ended x) is r xs bs vs = ends (if first then 0 else x)

  abbrev pub move_from : List Item → Active → List TypedNumber → List (List ℕ) → Variables → Move
  move_from [] r xs bs vs = blocks
  move_from (i ∷ is) r xs bs vs = move_item i is r xs bs vs

  abbrev pub move : State → Move
  move s = move_from s.items s.active s.values s.structures s.variables
