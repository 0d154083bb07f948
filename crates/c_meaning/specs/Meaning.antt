-- What a thread of the typed source does, by what follows each expression and statement (C11 5.1.2.3, 6.5, 6.8). Operands and arguments are evaluated from left to right.
use Rattle.std.specs.Prelude.{ℕ, zero, suc, ◌+◌, ◌*◌, ℤ, pos, ◌+ℤ◌, ◌-ℤ◌, ◌*ℤ◌, int_le, int_div, Bool, true, false, not, ◌&&◌, ◌||◌, List, [], ◌∷◌, take, drop, Option, Some, None, ◌-◌, ◌==◌, ◌++◌, length, map, nat_le, slice_index, slice_set, slice_get, if◌then◌else◌}
use Rattle.std.specs.Option.{option_and_then}
use Rattle.words.specs.declared.check.Class.{Class}
use Rattle.words.specs.Operators.{wrapped}
use Rattle.words.specs.declared.check.Class.TheVariants.{Assertion, Return, Unwind, Recursion, Bounds, Pointer, MallocLimit}
use Rattle.c_types.specs.declared.integers.IntegerType.{IntegerType}
use Rattle.c_types.specs.declared.integers.IntegerType.TheVariants.{Int, Long, UnsignedLong}
use Rattle.c_types.specs.declared.types.ValueType.{ValueType}
use Rattle.c_types.specs.declared.types.ValueType.TheVariants.{Void, Integer}
use Rattle.c_types.specs.Integers.{bytes, promoted}
use Rattle.core_tree.specs.declared.operators.ArithmeticOperator.{ArithmeticOperator}
use Rattle.core_tree.specs.declared.operators.LogicalOperator.{LogicalOperator}
use Rattle.core_tree.specs.declared.operators.LogicalOperator.TheVariants as logicals
use Rattle.core_tree.specs.declared.functions.Variable.{Variable}
use Rattle.core_tree.specs.Trees.{Place, variable_at, object_at, literal_at, pointed, arrow, member, element, subscript, Expression, constant, read, convert, sign, is_zero, arithmetic, compare, logical, choice, assign, update, step, comma, assertion, assumption, draw, part, discard, discard_structure, call, function_name, size_of_value, size_of_structure, address, sum, distance, relation, pointer_update, pointer_step, allocate, allocate_zeroed, release, exit, abort, Structure, copy, choose, put, follow, section, list, string, give, Parts, no_part, number_part, structure_part, Arguments, no_argument, number_argument, structure_argument, Statement, block, if_then, if_else, evaluate, returns, returns_structure, returns_nothing, for_loop, do_loop, switch, breaks, continues, jumps, stray, Items, done, declares, initializes, initializes_structure, does, label, case_at, default_at, Procedure}
use Rattle.core_tree.specs.Typed.{type_of}
use Rattle.core_tree.specs.Operations.{number as integer, is_true, truth_bits, converted, drawn_width, arithmetic_check, arithmetic_value, sign_check, sign_value, step_operation, compared}
use Rattle.actions.specs.declared.action.Action.{Action}
use Rattle.actions.specs.declared.action.Action.TheVariants.{Read, Write, Look, Draw, Alloc, Die, Free, Exit}
use Rattle.actions.specs.declared.action.Answer.{Answer}
use Rattle.actions.specs.declared.action.Answer.TheVariants as answer
use Rattle.actions.specs.declared.action.Next.{Next}
use Rattle.actions.specs.declared.action.Next.TheVariants.{Act, Ended, Blocked, Broken}
use Rattle.actions.specs.Behaviour.{Behaviour, shape_of, has_shape, word_64}
use Rattle.actions.specs.Pointer.{object_of, offset_of}
use Rattle.c_values.specs.Pointers.{pointer_at, further, in_range, offset_by, elements_between}
use Rattle.c_values.specs.Variables.{Variables, low_bytes, put_at, zeros, number_of, number_at, pointer_to, word_count, drawn_count, block_of, put_bytes, cleared, read_variable, write_variable, first_variables}
use Rattle.c_values.specs.MadeObjects.{made_of}

-- what a function hands over at its end: nothing, the bits of a number, or the bytes of a structure value
pub data Given : Type 0 where
  nothing : Given
  number : (bits : ℕ) → Given
  structure : (value : List ℕ) → Given

-- the value that a thread ends with; where its function hands no number over it is 0
abbrev pub value_of : Given → ℕ
value_of nothing = 0
value_of (number x) = x
value_of (structure value) = 0

-- what a thread runs: a function by its number, with the line of its name and its variables; how many times the test of each of its loops, by the loop's number, may be evaluated at an arrival, and whether passing a bound breaks a check; the number of the first string literal's object; the greatest size that may be allocated, and whether an allocation may fail
pub record Running : Type 0 where
  pub function : ℕ
  pub line : ℕ
  pub variables : List Variable
  pub tests : ℕ → ℕ
  pub assertions : Bool
  pub literals : ℕ
  pub malloc_limit : ℕ
  pub malloc_may_fail : Bool

-- where else than behind it a statement goes on: at `break`, at `continue`, at `return` with what it hands over, and at `goto` by the label's number (C11 6.8.6)
pub record Exits : Type 0 where
  pub breaks : Variables → Behaviour
  pub continues : Variables → Behaviour
  pub returns : Given → Variables → Behaviour
  pub labels : ℕ → Variables → Behaviour

-- the integer type of an expression; one of type void has no number, which is written 0
abbrev pub integer_of : ValueType → IntegerType
integer_of Void = Int
integer_of (Integer t) = t

abbrev pub number_type : Expression → IntegerType
number_type e = integer_of (type_of e)

-- the bits that a Draw gives
abbrev pub drawn : Answer → ℕ
drawn (answer.Word w) = w.bits
drawn _ = 0

-- the bytes that a Read gives
abbrev pub bytes_in : Answer → List ℕ
bytes_in (answer.Bytes bs) = bs
bytes_in _ = []

-- the number that an Alloc gives, and the size that a Look gives
abbrev pub number_in : Answer → ℕ
number_in (answer.Number n) = n
number_in _ = 0

abbrev pub size_in : Answer → ℕ
size_in (answer.Size n) = n
size_in _ = 0

-- the left operand alone decides (C11 6.5.13p4, 6.5.14p4)
abbrev pub decides : LogicalOperator → ℕ → Bool
decides logicals.And x = not (is_true x)
decides logicals.Or x = is_true x

-- nothing comes behind
abbrev pub final : Next → Behaviour
final n [] = n
final n (a ∷ answers) = Blocked

-- within a loop: `break` goes on behind it, `continue` at the end of the body
abbrev pub in_loop : Exits → (after end : Variables → Behaviour) → Exits
in_loop exits after end = record { breaks = after; continues = end; returns = exits.returns; labels = exits.labels }

-- within a switch: `break` goes on behind it
abbrev pub in_switch : Exits → (after : Variables → Behaviour) → Exits
in_switch exits after = record { breaks = after; continues = exits.continues; returns = exits.returns; labels = exits.labels }

abbrev pub with_labels : Exits → (ℕ → Variables → Behaviour) → Exits
with_labels exits labels = record { breaks = exits.breaks; continues = exits.continues; returns = exits.returns; labels = labels }

-- one of these items is a case with these bits
abbrev pub has_case : Items → ℕ → Bool
has_case done x = false
has_case (declares line v rest) x = has_case rest x
has_case (initializes line v is_drawn e rest) x = has_case rest x
has_case (initializes_structure line v is_drawn a rest) x = has_case rest x
has_case (does s rest) x = has_case rest x
has_case (label n rest) x = has_case rest x
has_case (case_at line t bits rest) x = bits == x || has_case rest x
has_case (default_at line rest) x = has_case rest x

abbrev pub has_default : Items → Bool
has_default done = false
has_default (declares line v rest) = has_default rest
has_default (initializes line v is_drawn e rest) = has_default rest
has_default (initializes_structure line v is_drawn a rest) = has_default rest
has_default (does s rest) = has_default rest
has_default (label n rest) = has_default rest
has_default (case_at line t bits rest) = has_default rest
has_default (default_at line rest) = true

-- out of a function leads only `return`: a `break`, `continue` or label that stands in no statement of its own breaks a check, and no file has one
abbrev pub in_function : (line function : ℕ) → (Given → Behaviour) → Exits
in_function line function follows = record {
  breaks = λ vs. final (Broken Assertion line function);
  continues = λ vs. final (Broken Assertion line function);
  returns = λ given vs. follows given;
  labels = λ n vs. final (Broken Assertion line function);
}

-- an action in a function, at a line, and what follows its answer
abbrev pub ask_in : (function : ℕ) → Action → (line : ℕ) → (Answer → Behaviour) → Behaviour
ask_in function action line follows [] = Act action line function
ask_in function action line follows (a ∷ answers) = if has_shape (shape_of action) a then follows a answers else Blocked

-- passing a bound breaks a check of this class, or blocks the thread for good
abbrev pub passed : Bool → Class → (line function : ℕ) → Behaviour
passed assertions class line function = if assertions then final (Broken class line function) else final Blocked

-- the line of a place's own token
abbrev pub place_line : Place → ℕ
place_line (variable_at line v offset) = line
place_line (object_at line k offset) = line
place_line (literal_at line k) = line
place_line (pointed line e) = line
place_line (arrow line e offset) = line
place_line (member line x offset) = line
place_line (element line x e size whole swapped) = line
place_line (subscript line a e size swapped) = line

abbrev pub size_in_list : Option Variable → ℕ
size_in_list None = 0
size_in_list (Some v) = v.size

abbrev pub is_readonly : Option Variable → Bool
is_readonly None = false
is_readonly (Some v) = v.readonly

abbrev pub sizes_of : List Variable → List ℕ
sizes_of variables = map (λ (v : Variable). v.size) variables

-- the class that a sum breaks, or an element's place
abbrev pub range_class : (is_element : Bool) → Class
range_class true = Bounds
range_class false = Pointer

-- so on each way out of it
abbrev pub leaving : (Variables → Behaviour → Behaviour) → Exits → Exits
leaving out exits = record {
  breaks = λ vs. out vs (exits.breaks vs);
  continues = λ vs. out vs (exits.continues vs);
  returns = λ given vs. out vs (exits.returns given vs);
  labels = λ n vs. out vs (exits.labels n vs);
}

module _ (running : Running) where
  abbrev pub ask : Action → ℕ → (Answer → Behaviour) → Behaviour
  ask action line follows = ask_in running.function action line follows

  -- a check breaks, or what follows
  abbrev pub unless_broken : Option Class → ℕ → Behaviour → Behaviour
  unless_broken None line follows = follows
  unless_broken (Some class) line follows = final (Broken class line running.function)

  -- an operation on a number of type t and one of type u (C11 6.5.5 to 6.5.12)
  abbrev pub operated : ArithmeticOperator → IntegerType → IntegerType → ℕ → ℕ → ℕ → (ℕ → Behaviour) → Behaviour
  operated op t u x y line follows = unless_broken (arithmetic_check op t u x y) line (follows (arithmetic_value op t x y))

  -- ---- places: where one is, is told by a number: an offset, where it lies within a variable without an address, else a pointer. Each access to an object with an address is one action, of all bytes at once

  abbrev pub size_of : ℕ → ℕ
  size_of v = size_in_list (slice_get running.variables v)

  abbrev pub readonly_of : ℕ → Bool
  readonly_of v = is_readonly (slice_get running.variables v)

  -- the variable that holds the address of a variable, if it has one
  abbrev pub home_of : ℕ → Option ℕ
  home_of v = option_and_then (λ (x : Variable). x.home) (slice_get running.variables v)

  -- the pointer that such a variable holds
  abbrev pub held_pointer : Variables → ℕ → ℕ
  held_pointer vs h = read_variable vs h 0 UnsignedLong

  -- the variable without an address within which a place lies; none where a pointer tells where it is
  abbrev pub own_variable : Option ℕ → ℕ → Option ℕ
  own_variable None v = Some v
  own_variable (Some h) v = None

  abbrev pub variable_of : Place → Option ℕ
  variable_of (variable_at line v offset) = own_variable (home_of v) v
  variable_of (object_at line k offset) = None
  variable_of (literal_at line k) = None
  variable_of (pointed line e) = None
  variable_of (arrow line e offset) = None
  variable_of (member line x offset) = variable_of x
  variable_of (element line x e size whole swapped) = variable_of x
  variable_of (subscript line a e size swapped) = None

  -- where an offset of a variable is
  abbrev pub in_variable : Option ℕ → Variables → (offset : ℕ) → ℕ
  in_variable None vs offset = offset
  in_variable (Some h) vs offset = further (held_pointer vs h) offset

  -- so many bytes of a variable from an offset on are there, or bounds are broken
  abbrev pub unless_outside : (v offset count line : ℕ) → Behaviour → Behaviour
  unless_outside v offset count line follows = if nat_le (offset + count) (size_of v) then follows else final (Broken Bounds line running.function)

  -- so many bytes where `at` tells then go to what follows
  abbrev pub reads : Option ℕ → (at count line : ℕ) → Variables → (List ℕ → Behaviour) → Behaviour
  reads (Some v) at count line vs follows = unless_outside v (offset_of at) count line (follows (take count (drop (offset_of at) (block_of vs v))))
  reads None at count line vs follows = ask (Read at count) line (λ a. follows (bytes_in a))

  -- these bytes take the place of as many there
  abbrev pub writes : Option ℕ → (at : ℕ) → List ℕ → (line : ℕ) → Variables → (Variables → Behaviour) → Behaviour
  writes (Some v) at new line vs follows = unless_outside v (offset_of at) (length new) line (follows (put_bytes vs v (offset_of at) new))
  writes None at new line vs follows = ask (Write at new false) line (λ a. follows vs)

  -- a number at a place, as an object of that type holds it, is read and written
  abbrev pub reads_number : IntegerType → Place → (at : ℕ) → Variables → (ℕ → Behaviour) → Behaviour
  reads_number t x at vs follows = reads (variable_of x) at (bytes t) (place_line x) vs (λ found. follows (number_of t found))

  abbrev pub writes_number : IntegerType → Place → (at line bits : ℕ) → Variables → (Variables → Behaviour) → Behaviour
  writes_number t x at line bits vs follows = writes (variable_of x) at (low_bytes (bytes t) bits) line vs follows

  -- an operation at type u on the number of type t that a place had, and y of type w; the place takes the result, which then goes to what follows
  abbrev pub combined : IntegerType → Place → (at : ℕ) → ArithmeticOperator → (u w : IntegerType) → (old y line : ℕ) → Variables → (ℕ → Variables → Behaviour) → Behaviour
  combined t x at op u w old y line vs follows =
      operated op u w (converted t u old) y line (λ z.
      let new = converted u t z in
      writes_number t x at line new vs (follows new))

  -- ---- sums of pointers (C11 6.5.6p8, p9): the object is looked at, and then the new offset has to be from 0 to its size

  -- the pointer so many steps further on, where the object has so many bytes
  abbrev pub lands : (is_element : Bool) → (p size : ℕ) → (index stride : ℤ) → (line : ℕ) → (ℕ → Behaviour) → Behaviour
  lands is_element p size index stride line follows =
      let offset = offset_by (offset_of p) index stride in
      if in_range offset size then follows (pointer_at p offset) else final (Broken (range_class is_element) line running.function)

  abbrev pub moves : (is_element : Bool) → (p : ℕ) → (index stride : ℤ) → (line : ℕ) → (ℕ → Behaviour) → Behaviour
  moves is_element p index stride line follows = ask (Look p is_element) line (λ a. lands is_element p (size_in a) index stride line follows)

  -- the element of an array within a named object, whose size is known
  abbrev pub steps_to : (at whole : ℕ) → (index stride : ℤ) → (line : ℕ) → (ℕ → Behaviour) → Behaviour
  steps_to at whole index stride line follows =
      let offset = offset_by (offset_of at) index stride in
      if in_range offset whole then follows (pointer_at at offset) else final (Broken Bounds line running.function)

  -- two pointers to one object, as far as their numbers tell
  abbrev pub unless_apart : (p q line : ℕ) → Behaviour → Behaviour
  unless_apart p q line follows = if object_of p == object_of q then follows else final (Broken Pointer line running.function)

  -- a call's value was not handed over: where it is used, a check breaks (C11 6.9.1p12)
  abbrev pub unless_used : Bool → (line : ℕ) → Behaviour → Behaviour
  unless_used used line follows = if used then final (Broken Return line running.function) else follows

  -- the number of a type that a call gives, as an object of that type holds it (C11 6.8.6.4p3); 0 where none is handed over and none is used
  abbrev pub received : Bool → (line : ℕ) → IntegerType → (ℕ → Behaviour) → Given → Behaviour
  received used line t follows nothing = unless_used used line (follows 0)
  received used line t follows (number x) = follows (number_of t (low_bytes (bytes t) x))
  received used line t follows (structure value) = follows 0

  -- the structure value that a call gives; bytes that are 0 where none is handed over and none is used
  abbrev pub received_structure : Bool → (size line : ℕ) → (List ℕ → Behaviour) → Given → Behaviour
  received_structure used size line follows nothing = unless_used used line (follows (zeros size))
  received_structure used size line follows (number x) = follows (zeros size)
  received_structure used size line follows (structure value) = follows value

  -- ---- variables

  -- so many words are drawn, from an offset of a variable on
  abbrev pub draws_words : (words line v offset : ℕ) → Variables → (Variables → Behaviour) → Behaviour
  draws_words zero line v offset vs follows = follows vs
  draws_words (suc k) line v offset vs follows =
      let count = drawn_count (size_of v) offset in
      ask (Draw (8 * count)) line (λ a. draws_words k line v (offset + 8) (put_bytes vs v offset (low_bytes count (drawn a))) follows)

  -- the first bytes of a variable without initializer are drawn
  abbrev pub draws : ℕ → ℕ → Variables → (Variables → Behaviour) → Behaviour
  draws line v vs follows = draws_words (word_count (size_of v)) line v 0 vs follows

  -- a variable with an address becomes an object with its first bytes, and its pointer is kept (C11 6.2.4p5)
  abbrev pub places : Option ℕ → (line v : ℕ) → Variables → (Variables → Behaviour) → Behaviour
  places None line v vs follows = follows vs
  places (Some h) line v vs follows =
      ask (Alloc (made_of (readonly_of v) false (block_of vs v))) line (λ a. follows (write_variable vs h 0 UnsignedLong (pointer_to (number_in a) 0)))

  -- its first bytes are drawn, or 0, and then it is placed
  abbrev pub makes : (is_drawn : Bool) → (line v : ℕ) → Variables → (Variables → Behaviour) → Behaviour
  makes true line v vs follows = draws line v vs (λ after. places (home_of v) line v after follows)
  makes false line v vs follows = places (home_of v) line v (cleared vs v (size_of v)) follows

  -- on entry to a block its own variables are made, in order; one that an initializer will write starts with bytes that are 0
  abbrev pub enter : Items → Variables → (Variables → Behaviour) → Behaviour
  enter done vs follows = follows vs
  enter (declares line v rest) vs follows = makes true line v vs (λ after. enter rest after follows)
  enter (initializes line v is_drawn e rest) vs follows = makes is_drawn line v vs (λ after. enter rest after follows)
  enter (initializes_structure line v is_drawn a rest) vs follows = makes is_drawn line v vs (λ after. enter rest after follows)
  enter (does s rest) vs follows = enter rest vs follows
  enter (label n rest) vs follows = enter rest vs follows
  enter (case_at line t bits rest) vs follows = enter rest vs follows
  enter (default_at line rest) vs follows = enter rest vs follows

  -- an initializer's bytes are the first ones that are written, so also where the object is const (C11 6.7.9)
  abbrev pub initial : Option ℕ → (v : ℕ) → List ℕ → (line : ℕ) → Variables → (Variables → Behaviour) → Behaviour
  initial None v new line vs follows = follows (put_bytes vs v 0 new)
  initial (Some h) v new line vs follows = ask (Write (held_pointer vs h) new true) line (λ a. follows vs)

  -- the object of a variable dies (C11 6.2.4p6)
  abbrev pub dies : Option ℕ → (line : ℕ) → Variables → Behaviour → Behaviour
  dies None line vs follows = follows
  dies (Some h) line vs follows = ask (Die (object_of (held_pointer vs h))) line (λ a. follows)

  -- on the way out of a block the objects of its variables die, the last one first
  abbrev pub leave : Items → Variables → Behaviour → Behaviour
  leave done vs follows = follows
  leave (declares line v rest) vs follows = leave rest vs (dies (home_of v) line vs follows)
  leave (initializes line v is_drawn e rest) vs follows = leave rest vs (dies (home_of v) line vs follows)
  leave (initializes_structure line v is_drawn a rest) vs follows = leave rest vs (dies (home_of v) line vs follows)
  leave (does s rest) vs follows = leave rest vs follows
  leave (label n rest) vs follows = leave rest vs follows
  leave (case_at line t bits rest) vs follows = leave rest vs follows
  leave (default_at line rest) vs follows = leave rest vs follows

  -- the parameters, of which these many are left from a number on, are placed, and die: a block around the body of the function, at the line of its name
  abbrev pub enter_parameters : (count v : ℕ) → Variables → (Variables → Behaviour) → Behaviour
  enter_parameters zero v vs follows = follows vs
  enter_parameters (suc count) v vs follows = places (home_of v) running.line v vs (λ after. enter_parameters count (suc v) after follows)

  abbrev pub leave_parameters : (count v : ℕ) → Variables → Behaviour → Behaviour
  leave_parameters zero v vs follows = follows
  leave_parameters (suc count) v vs follows = leave_parameters count (suc v) vs (dies (home_of v) running.line vs follows)

  -- ---- objects that are allocated (C11 7.22.3)

  -- so many bytes are drawn, in words, behind those so far
  abbrev pub draws_bytes : (words line size : ℕ) → List ℕ → (List ℕ → Behaviour) → Behaviour
  draws_bytes zero line size found follows = follows found
  draws_bytes (suc k) line size found follows =
      let count = drawn_count size (length found) in
      ask (Draw (8 * count)) line (λ a. draws_bytes k line size (found ++ low_bytes count (drawn a)) follows)

  -- an object with these bytes; its pointer goes to what follows
  abbrev pub allocates : (line : ℕ) → List ℕ → (ℕ → Behaviour) → Behaviour
  allocates line new follows = ask (Alloc (made_of false true new)) line (λ a. follows (pointer_to (number_in a) 0))

  -- a size above the limit breaks a check
  abbrev pub unless_large : (size line : ℕ) → Behaviour → Behaviour
  unless_large size line follows = if nat_le size running.malloc_limit then follows else final (Broken MallocLimit line running.function)

  -- where an allocation may fail one bit is drawn: 1 gives the null pointer, and nothing more is tested
  abbrev pub may_fail : (line : ℕ) → (fails goes_on : Behaviour) → Behaviour
  may_fail line fails goes_on = if running.malloc_may_fail then ask (Draw 1) line (λ a. if is_true (drawn a) then fails else goes_on) else goes_on

  -- an object of drawn bytes, and one of bytes that are 0, as large as the product is as a whole number
  abbrev pub grants : (size line : ℕ) → (ℕ → Behaviour) → Behaviour
  grants size line follows = unless_large size line (draws_bytes (word_count size) line size [] (λ found. allocates line found follows))

  abbrev pub grants_zeroed : (count size line : ℕ) → (ℕ → Behaviour) → Behaviour
  grants_zeroed count size line follows = unless_large (count * size) line (allocates line (zeros (count * size)) follows)

  abbrev pub mallocs : (size line : ℕ) → (ℕ → Behaviour) → Behaviour
  mallocs size line follows = may_fail line (follows 0) (grants size line follows)

  abbrev pub callocs : (count size line : ℕ) → (ℕ → Behaviour) → Behaviour
  callocs count size line follows = may_fail line (follows 0) (grants_zeroed count size line follows)

  -- the null pointer is freed without an action
  abbrev pub frees : (p line : ℕ) → Behaviour → Behaviour
  frees p line follows = if p == 0 then follows else ask (Free p) line (λ a. follows)

  -- the process ends
  abbrev pub ends_process : (line : ℕ) → Behaviour
  ends_process line = ask Exit line (λ a. final (Ended (word_64 0)))

  -- a loop of at most so many rounds: `round again` does one, and where the loop goes on, it goes on with `again`; a further round passes the loop's bound
  abbrev pub rounds : (line : ℕ) → ((Variables → Behaviour) → Variables → Behaviour) → ℕ → Variables → Behaviour
  rounds line round zero vs = passed running.assertions Unwind line running.function
  rounds line round (suc n) vs = round (rounds line round n) vs

  -- its variables at its start: the arguments, and bytes that are 0 for the others
  abbrev pub frame : List (List ℕ) → Variables
  frame blocks = blocks ++ first_variables (drop (length blocks) (sizes_of running.variables))

  -- `calls function line blocks` is what a call at that line of a function by its number does with these argument values, each as its bytes: what it hands over then goes to what follows
  module _ (calls : (function line : ℕ) → List (List ℕ) → (Given → Behaviour) → Behaviour) where
    abbrev mutual
      -- a place is evaluated, and where it is then goes to what follows; operands from left to right (C11 6.5.2.1, 6.5.2.3, 6.5.3.2)
      pub locate : Place → Variables → (ℕ → Variables → Behaviour) → Behaviour
      locate (variable_at line v offset) vs follows = follows (in_variable (home_of v) vs offset) vs
      locate (object_at line k offset) vs follows = follows (pointer_to k offset) vs
      locate (literal_at line k) vs follows = follows (pointer_to (running.literals + k) 0) vs
      locate (pointed line e) vs follows = eval e vs follows
      locate (arrow line e offset) vs follows = eval e vs (λ p. follows (further p offset))
      locate (member line x offset) vs follows = locate x vs (λ at. follows (further at offset))
      locate (element line x e size whole false) vs follows =
          locate x vs (λ at after. eval e after (λ i last. steps_to at whole (integer (number_type e) i) (pos size) line (λ found. follows found last)))
      locate (element line x e size whole true) vs follows =
          eval e vs (λ i after. locate x after (λ at last. steps_to at whole (integer (number_type e) i) (pos size) line (λ found. follows found last)))
      locate (subscript line a e size false) vs follows =
          eval a vs (λ p after. eval e after (λ i last. moves true p (integer (number_type e) i) (pos size) line (λ found. follows found last)))
      locate (subscript line a e size true) vs follows =
          eval e vs (λ i after. eval a after (λ p last. moves true p (integer (number_type e) i) (pos size) line (λ found. follows found last)))

      -- its value and the variables then go to what follows
      pub eval : Expression → Variables → (ℕ → Variables → Behaviour) → Behaviour
      eval (constant line t bits) vs follows = follows bits vs
      eval (read t x) vs follows = locate x vs (λ at after. reads_number t x at after (λ found. follows found after))
      eval (convert to e) vs follows = eval e vs (λ x. follows (converted (number_type e) to x))
      eval (sign line op e) vs follows = eval e vs (λ x after. unless_broken (sign_check op (number_type e) x) line (follows (sign_value op (number_type e) x) after))
      eval (is_zero line e) vs follows = eval e vs (λ x. follows (truth_bits (not (is_true x))))
      eval (arithmetic line op a b) vs follows = eval a vs (λ x after. eval b after (λ y last. operated op (number_type a) (number_type b) x y line (λ z. follows z last)))
      eval (compare line op a b) vs follows = eval a vs (λ x after. eval b after (λ y. follows (truth_bits (compared op (number_type a) x y))))
      eval (logical line op a b) vs follows =
          eval a vs (λ x after. if decides op x then follows (truth_bits (is_true x)) after else eval b after (λ y. follows (truth_bits (is_true y))))
      eval (choice line test a b) vs follows = eval test vs (λ x after. if is_true x then eval a after follows else eval b after follows)
      -- the place, the value, and the write (C11 6.5.16p3)
      eval (assign line t x e) vs follows = locate x vs (λ at after. eval e after (λ y last. writes_number t x at line y last (follows y)))
      -- the place, the value beside it, the place's number, the operation, and the write (C11 6.5.16.2)
      eval (update line t x op u e) vs follows =
          locate x vs (λ at after. eval e after (λ y last. reads_number t x at last (λ old. combined t x at op u (number_type e) old y line last follows)))
      -- an operation with 1 at the promoted type; the value is the new one, or behind its operand the old one (C11 6.5.2.4, 6.5.3.1)
      eval (step line t x op before) vs follows =
          locate x vs (λ at after. reads_number t x at after (λ old. combined t x at (step_operation op) (promoted t) (promoted t) old 1 line after (λ new. follows (if before then new else old))))
      eval (comma line a b) vs follows = eval a vs (λ x after. eval b after follows)
      eval (assertion line e) vs follows = eval e vs (λ x after. if is_true x then follows 0 after else final (Broken Assertion line running.function))
      eval (assumption line e) vs follows = eval e vs (λ x after. if is_true x then follows 0 after else final Blocked)
      eval (draw line t) vs follows = ask (Draw (drawn_width t)) line (λ a. follows (drawn a) vs)
      eval (part line t offset a) vs follows = eval_structure a vs (λ value. follows (number_at t offset value))
      eval (discard line e) vs follows = eval e vs (λ x. follows 0)
      eval (discard_structure a) vs follows = eval_structure a vs (λ value. follows 0)
      eval (call line f used t args) vs follows = eval_arguments args [] vs (λ blocks after. calls f line blocks (received used line (integer_of t) (λ x. follows x after)))
      eval (function_name line) vs follows = follows 0 vs
      -- the operand of `sizeof` isn't evaluated (C11 6.5.3.4p2)
      eval (size_of_value line bits e) vs follows = follows bits vs
      eval (size_of_structure line bits a) vs follows = follows bits vs
      -- the pointer to a place is no access to it
      eval (address line x) vs follows = locate x vs follows
      eval (sum line a e n false) vs follows = eval a vs (λ p after. eval e after (λ i last. moves false p (integer (number_type e) i) n line (λ q. follows q last)))
      eval (sum line a e n true) vs follows = eval e vs (λ i after. eval a after (λ p last. moves false p (integer (number_type e) i) n line (λ q. follows q last)))
      eval (distance line a b n) vs follows = eval a vs (λ p after. eval b after (λ q last. unless_apart p q line (follows (elements_between p q n) last)))
      eval (relation line op a b) vs follows = eval a vs (λ p after. eval b after (λ q last. unless_apart p q line (follows (truth_bits (compared op UnsignedLong (offset_of p) (offset_of q))) last)))
      -- so the sums that change the place of a pointer
      eval (pointer_update line x n e) vs follows =
          locate x vs (λ at after. eval e after (λ i last. reads_number UnsignedLong x at last (λ p. moves false p (integer (number_type e) i) n line (λ q. writes_number UnsignedLong x at line q last (follows q)))))
      eval (pointer_step line x n before) vs follows =
          locate x vs (λ at after. reads_number UnsignedLong x at after (λ p. moves false p (pos 1) n line (λ q. writes_number UnsignedLong x at line q after (follows (if before then q else p)))))
      eval (allocate line e) vs follows = eval e vs (λ n after. mallocs n line (λ p. follows p after))
      eval (allocate_zeroed line a b) vs follows = eval a vs (λ m after. eval b after (λ n last. callocs m n line (λ p. follows p last)))
      eval (release line e) vs follows = eval e vs (λ p after. frees p line (follows 0 after))
      eval (exit line e) vs follows = eval e vs (λ x after. ends_process line)
      eval (abort line) vs follows = ends_process line

      -- a structure value is its bytes
      pub eval_structure : Structure → Variables → (List ℕ → Variables → Behaviour) → Behaviour
      eval_structure (copy x size) vs follows = locate x vs (λ at after. reads (variable_of x) at size (place_line x) after (λ value. follows value after))
      eval_structure (choose line test a b) vs follows = eval test vs (λ x after. if is_true x then eval_structure a after follows else eval_structure b after follows)
      eval_structure (put line x a) vs follows = locate x vs (λ at after. eval_structure a after (λ value last. writes (variable_of x) at value line last (follows value)))
      eval_structure (follow line e a) vs follows = eval e vs (λ x after. eval_structure a after follows)
      eval_structure (section line offset size a) vs follows = eval_structure a vs (λ value. follows (take size (drop offset value)))
      eval_structure (list line size parts) vs follows = eval_parts parts (zeros size) vs follows
      eval_structure (string line size text) vs follows = follows (put_at 0 text (zeros size)) vs
      eval_structure (give line f used size args) vs follows =
          eval_arguments args [] vs (λ blocks after. calls f line blocks (received_structure used size line (λ value. follows value after)))

      -- the parts of an initializer's list from left to right, over the bytes so far (C11 6.7.9)
      pub eval_parts : Parts → List ℕ → Variables → (List ℕ → Variables → Behaviour) → Behaviour
      eval_parts no_part value vs follows = follows value vs
      eval_parts (number_part offset e rest) value vs follows = eval e vs (λ x after. eval_parts rest (put_at offset (low_bytes (bytes (number_type e)) x) value) after follows)
      eval_parts (structure_part offset a rest) value vs follows = eval_structure a vs (λ part after. eval_parts rest (put_at offset part value) after follows)

      -- the arguments of a call from left to right, each as its bytes, behind the blocks so far (C11 6.5.2.2p10)
      pub eval_arguments : Arguments → List (List ℕ) → Variables → (List (List ℕ) → Variables → Behaviour) → Behaviour
      eval_arguments no_argument blocks vs follows = follows blocks vs
      eval_arguments (number_argument e rest) blocks vs follows = eval e vs (λ x after. eval_arguments rest (blocks ++ low_bytes (bytes (number_type e)) x ∷ []) after follows)
      eval_arguments (structure_argument a rest) blocks vs follows = eval_structure a vs (λ value after. eval_arguments rest (blocks ++ value ∷ []) after follows)

    -- ---- statements

    -- a part of a `for` that may be missing; its value isn't used
    abbrev pub eval_part : Option Expression → Variables → (Variables → Behaviour) → Behaviour
    eval_part None vs follows = follows vs
    eval_part (Some e) vs follows = eval e vs (λ x. follows)

    -- the test of a loop: what follows where it is true, and where not; a missing one is true (C11 6.8.5.3p2)
    abbrev pub tested : Option Expression → Variables → (holds fails : Variables → Behaviour) → Behaviour
    tested None vs holds fails = holds vs
    tested (Some e) vs holds fails = eval e vs (λ x after. if is_true x then holds after else fails after)

    -- the end of a loop's body: the loop's last part, then its test
    abbrev pub at_end : (last test : Option Expression) → (again behind : Variables → Behaviour) → Variables → Behaviour
    at_end last test again behind vs = eval_part last vs (λ now. tested test now again behind)

    abbrev mutual
      -- a statement, what follows behind it, and where else it may go on (C11 6.8)
      pub exec : Statement → Exits → Variables → (Variables → Behaviour) → Behaviour
      exec (block items) exits vs follows = enter items vs (λ after. exec_items items (leaving (leave items) exits) after (λ last. leave items last (follows last)))
      exec (if_then line test s) exits vs follows = eval test vs (λ x after. if is_true x then exec s exits after follows else follows after)
      exec (if_else line test s t) exits vs follows = eval test vs (λ x after. if is_true x then exec s exits after follows else exec t exits after follows)
      exec (evaluate e) exits vs follows = eval e vs (λ x. follows)
      exec (returns line e) exits vs follows = eval e vs (λ x. exits.returns (number x))
      exec (returns_structure line a) exits vs follows = eval_structure a vs (λ value. exits.returns (structure value))
      exec (returns_nothing line) exits vs follows = exits.returns nothing vs
      exec (for_loop line n first test last s) exits vs follows =
          eval_part first vs (λ start.
          tested test start
          (rounds line (λ again now. exec s (in_loop exits follows (at_end last test again follows)) now (at_end last test again follows)) (running.tests n - 1))
          follows)
      exec (do_loop line n s test) exits vs follows =
          rounds line (λ again now. exec s (in_loop exits follows (at_end None (Some test) again follows)) now (at_end None (Some test) again follows)) (running.tests n) vs
      exec (switch line e items) exits vs follows =
          eval e vs (λ x after.
          let out : (Variables → Behaviour) = λ last. leave items last (follows last) in
          if has_case items x then enter items after (λ now. at_case items x (leaving (leave items) (in_switch exits follows)) now out)
          else (if has_default items then enter items after (λ now. at_default items (leaving (leave items) (in_switch exits follows)) now out) else follows after))
      exec (breaks line) exits vs follows = exits.breaks vs
      exec (continues line) exits vs follows = exits.continues vs
      exec (jumps line n) exits vs follows = exits.labels n vs
      exec (stray line s) exits vs follows = exec s exits vs follows

      -- the items of a block in order; a statement may go on at a label behind it
      pub exec_items : Items → Exits → Variables → (Variables → Behaviour) → Behaviour
      exec_items done exits vs follows = follows vs
      exec_items (declares line v rest) exits vs follows = exec_items rest exits vs follows
      exec_items (initializes line v is_drawn e rest) exits vs follows = eval e vs (λ x after. initial (home_of v) v (low_bytes (bytes (number_type e)) x) line after (λ now. exec_items rest exits now follows))
      exec_items (initializes_structure line v is_drawn a rest) exits vs follows = eval_structure a vs (λ value after. initial (home_of v) v value line after (λ now. exec_items rest exits now follows))
      exec_items (does s rest) exits vs follows = exec s (with_labels exits (λ n now. at_label rest n exits now follows)) vs (λ after. exec_items rest exits after follows)
      exec_items (label n rest) exits vs follows = exec_items rest exits vs follows
      exec_items (case_at line t bits rest) exits vs follows = exec_items rest exits vs follows
      exec_items (default_at line rest) exits vs follows = exec_items rest exits vs follows

      -- from behind the first of these items that is the label; where there is none, from where it stands further out
      pub at_label : Items → (n : ℕ) → Exits → Variables → (Variables → Behaviour) → Behaviour
      at_label done n exits vs follows = exits.labels n vs
      at_label (declares line v rest) n exits vs follows = at_label rest n exits vs follows
      at_label (initializes line v is_drawn e rest) n exits vs follows = at_label rest n exits vs follows
      at_label (initializes_structure line v is_drawn a rest) n exits vs follows = at_label rest n exits vs follows
      at_label (does s rest) n exits vs follows = at_label rest n exits vs follows
      at_label (label m rest) n exits vs follows = if m == n then exec_items rest exits vs follows else at_label rest n exits vs follows
      at_label (case_at line t bits rest) n exits vs follows = at_label rest n exits vs follows
      at_label (default_at line rest) n exits vs follows = at_label rest n exits vs follows

      -- from behind the case with these bits
      pub at_case : Items → (x : ℕ) → Exits → Variables → (Variables → Behaviour) → Behaviour
      at_case done x exits vs follows = follows vs
      at_case (declares line v rest) x exits vs follows = at_case rest x exits vs follows
      at_case (initializes line v is_drawn e rest) x exits vs follows = at_case rest x exits vs follows
      at_case (initializes_structure line v is_drawn a rest) x exits vs follows = at_case rest x exits vs follows
      at_case (does s rest) x exits vs follows = at_case rest x exits vs follows
      at_case (label n rest) x exits vs follows = at_case rest x exits vs follows
      at_case (case_at line t bits rest) x exits vs follows = if bits == x then exec_items rest exits vs follows else at_case rest x exits vs follows
      at_case (default_at line rest) x exits vs follows = at_case rest x exits vs follows

      -- from behind `default`
      pub at_default : Items → Exits → Variables → (Variables → Behaviour) → Behaviour
      at_default done exits vs follows = follows vs
      at_default (declares line v rest) exits vs follows = at_default rest exits vs follows
      at_default (initializes line v is_drawn e rest) exits vs follows = at_default rest exits vs follows
      at_default (initializes_structure line v is_drawn a rest) exits vs follows = at_default rest exits vs follows
      at_default (does s rest) exits vs follows = at_default rest exits vs follows
      at_default (label n rest) exits vs follows = at_default rest exits vs follows
      at_default (case_at line t bits rest) exits vs follows = at_default rest exits vs follows
      at_default (default_at line rest) exits vs follows = exec_items rest exits vs follows

    -- a function's body with these arguments; what it hands over at its end goes to what follows
    abbrev pub exec_body : Statement → List (List ℕ) → (Given → Behaviour) → Behaviour
    exec_body s blocks follows =
        let out = leave_parameters (length blocks) 0 in
        enter_parameters (length blocks) 0 (frame blocks) (λ vs.
        exec s (leaving out (in_function running.line running.function follows)) vs (λ last. out last (follows nothing)))

-- ---- calls

-- the functions of a file by their numbers, how many times the test of each of their loops may be evaluated at an arrival, by the numbers of function and loop, whether passing a bound breaks a check, the number of the first literal's object, the greatest size that may be allocated, and whether an allocation may fail
pub record Code : Type 0 where
  pub functions : List Procedure
  pub tests : (function loop : ℕ) → ℕ
  pub assertions : Bool
  pub literals : ℕ
  pub malloc_limit : ℕ
  pub malloc_may_fail : Bool

-- the body of a function, where it is there and defined
abbrev pub body_of : Option Procedure → Option Statement
body_of None = None
body_of (Some p) = p.body

abbrev pub variables_of : Option Procedure → List Variable
variables_of None = []
variables_of (Some p) = p.variables

abbrev pub line_of : Option Procedure → ℕ
line_of None = 0
line_of (Some p) = p.line

abbrev pub running_in : Code → ℕ → Running
running_in code f = record {
  function = f;
  line = line_of (slice_get code.functions f);
  variables = variables_of (slice_get code.functions f);
  tests = code.tests f;
  assertions = code.assertions;
  literals = code.literals;
  malloc_limit = code.malloc_limit;
  malloc_may_fail = code.malloc_may_fail;
}

-- a call of a function, with what the calls in it do; one that isn't there or has no body breaks a check at the call, and no file calls one
abbrev pub enters : Code → (caller line : ℕ) → ℕ → Option Statement → ((function line : ℕ) → List (List ℕ) → (Given → Behaviour) → Behaviour) → List (List ℕ) → (Given → Behaviour) → Behaviour
enters code caller line f None calls blocks follows = final (Broken Assertion line caller)
enters code caller line f (Some s) calls blocks follows = exec_body (running_in code f) calls s blocks follows

-- of all functions together
abbrev pub total : List ℕ → ℕ
total [] = 0
total (n ∷ ns) = n + total ns

-- one activation of a function fewer is left
abbrev pub opened : List ℕ → ℕ → List ℕ
opened left f = slice_set left f (slice_index left f - 1)

-- what calls in a function do, where so many activations of each function may still be opened: one more passes the bound, at the call. `fuel` is more than may be opened of all together
abbrev pub activation : Code → (fuel : ℕ) (left : List ℕ) (caller : ℕ) → (function line : ℕ) → List (List ℕ) → (Given → Behaviour) → Behaviour
activation code zero left caller f line blocks follows = passed code.assertions Recursion line caller
activation code (suc fuel) left caller f line blocks follows =
    if slice_index left f == 0 then passed code.assertions Recursion line caller
    else enters code caller line f (body_of (slice_get code.functions f)) (activation code fuel (opened left f) f) blocks follows
