-- A state of a thread: a list of work items, the first of which comes next, the numbers and the structure values that wait, in each list the last first, the variables of the function that runs, its number, and how many activations of each function may still be opened. What the thread does from there.
use Rattle.std.specs.Prelude.{ℕ, zero, suc, ◌+◌, ℤ, pos, Bool, true, false, not, List, [], ◌∷◌, ◌++◌, take, drop, Option, slice_set, slice_index, if◌then◌else◌}
use Rattle.words.specs.declared.check.Class.TheVariants.{Assertion}
use Rattle.c_types.specs.declared.integers.IntegerType.{IntegerType}
use Rattle.c_types.specs.declared.integers.IntegerType.TheVariants.{Int, Long, UnsignedLong}
use Rattle.c_types.specs.Integers.{bytes, promoted}
use Rattle.core_tree.specs.declared.operators.ArithmeticOperator.{ArithmeticOperator}
use Rattle.core_tree.specs.declared.operators.Comparison.{Comparison}
use Rattle.core_tree.specs.declared.operators.LogicalOperator.{LogicalOperator}
use Rattle.core_tree.specs.declared.operators.SignOperator.{SignOperator}
use Rattle.core_tree.specs.Trees.{Place, Expression, Structure, Parts, Arguments, Statement, Items}
use Rattle.core_tree.specs.Operations.{number as integer, is_true, truth_bits, converted, sign_check, sign_value, compared}
use Rattle.actions.specs.declared.action.Action.TheVariants.{End, Exit}
use Rattle.actions.specs.declared.action.Next.TheVariants.{Ended, Blocked, Broken}
use Rattle.actions.specs.Behaviour.{Behaviour, word_64}
use Rattle.actions.specs.Pointer.{offset_of}
use Rattle.c_values.specs.Pointers.{further, elements_between}
use Rattle.c_values.specs.Variables.{Variables, low_bytes, put_at, number_at}
use Rattle.c_values.specs.Numbers.{TypedNumber, typed}
use Rattle.c_meaning.specs.Meaning as meaning
use Rattle.c_meaning.specs.Meaning.{Given, nothing, number, structure, value_of, Running, Exits, Code, number_type, decides, final, in_loop, in_switch, with_labels, in_function, leaving, running_in, has_case, has_default, ask_in, unless_broken, operated, variable_of, place_line, home_of, reads, writes, reads_number, writes_number, combined, steps_to, unless_apart, received, received_structure, draws_words, enter, leave, enter_parameters, leave_parameters, draws_bytes, allocates, mallocs, callocs, grants, grants_zeroed, frees, ends_process, rounds, locate, eval, eval_structure, eval_parts, eval_arguments, tested, at_end, exec, exec_items, at_label, at_case, at_default, total, activation}
use Rattle.c_meaning.specs.Source as source

abbrev pub top : List TypedNumber → TypedNumber
top [] = typed Int 0
top (x ∷ xs) = x

abbrev pub rest : List TypedNumber → List TypedNumber
rest [] = []
rest (x ∷ xs) = xs

abbrev pub second : List TypedNumber → TypedNumber
second xs = top (rest xs)

abbrev pub third : List TypedNumber → TypedNumber
third xs = second (rest xs)

abbrev pub top_bytes : List (List ℕ) → List ℕ
top_bytes [] = []
top_bytes (b ∷ bs) = b

abbrev pub rest_bytes : List (List ℕ) → List (List ℕ)
rest_bytes [] = []
rest_bytes (b ∷ bs) = bs

abbrev pub second_bytes : List (List ℕ) → List ℕ
second_bytes bs = top_bytes (rest_bytes bs)

-- ---- functions that run

-- the function that runs, by its number, and how many more activations of each function may be opened
pub record Active : Type 0 where
  pub function : ℕ
  pub left : List ℕ

abbrev pub active : ℕ → List ℕ → Active
active f more = record { function = f; left = more }

-- an activation of the function is over
abbrev pub closed : List ℕ → ℕ → List ℕ
closed more f = slice_set more f (slice_index more f + 1)

-- the caller runs again
abbrev pub back : ℕ → Active → Active
back caller a = active caller (closed a.left a.function)

abbrev pub running_of : Code → Active → Running
running_of code a = running_in code a.function

-- what a call does
abbrev pub calls_of : Code → Active → (function line : ℕ) → List (List ℕ) → (Given → Behaviour) → Behaviour
calls_of code a = activation code (suc (total a.left)) a.left a.function

-- what a call is for: a number of a type or a structure value of a size, at this line, which may not be used; or it is the first of a thread, whose function's name stands on this line
pub data Wanted : Type 0 where
  wants_number : (line : ℕ) (used : Bool) (type : IntegerType) → Wanted
  wants_structure : (line : ℕ) (used : Bool) (size : ℕ) → Wanted
  wants_end : (line : ℕ) → Wanted

abbrev pub line_of : Wanted → ℕ
line_of (wants_number line used t) = line
line_of (wants_structure line used size) = line
line_of (wants_end line) = line

-- what a function hands over: nothing, the number on top, or the structure value on top
pub data Handed : Type 0 where
  by_nothing : Handed
  by_number : Handed
  by_structure : Handed

-- how a statement leads out of others: to behind the innermost loop or switch, to the end of the innermost loop's body, to a label, or out of the function
pub data Way : Type 0 where
  by_break : Way
  by_continue : Way
  by_jump : (label : ℕ) → Way
  by_return : (how : Handed) → Way

abbrev pub given_by : Handed → List TypedNumber → List (List ℕ) → Given
given_by by_nothing xs bs = nothing
given_by by_number xs bs = number (top xs).bits
given_by by_structure xs bs = structure (top_bytes bs)

abbrev pub values_under : Handed → List TypedNumber → List TypedNumber
values_under by_nothing xs = xs
values_under by_number xs = rest xs
values_under by_structure xs = xs

abbrev pub structures_under : Handed → List (List ℕ) → List (List ℕ)
structures_under by_nothing bs = bs
structures_under by_number bs = bs
structures_under by_structure bs = rest_bytes bs

-- so many blocks on top, the first one first
abbrev pub blocks_on : ℕ → List (List ℕ) → List (List ℕ)
blocks_on zero bs = []
blocks_on (suc n) [] = []
blocks_on (suc n) (b ∷ bs) = blocks_on n bs ++ b ∷ []

-- the parts of a loop
pub record Loop : Type 0 where
  pub line : ℕ
  pub test : Option Expression
  pub last : Option Expression
  pub body : Statement

abbrev pub loop_of : ℕ → Option Expression → Option Expression → Statement → Loop
loop_of line test last body = record { line = line; test = test; last = last; body = body }

-- an item says what is evaluated or run, or what is done with the values on top. Where a place is, is told by a number
pub data Item : Type 0 where
  evaluates : (e : Expression) → Item
  converts : (to : IntegerType) → Item
  signs : (line : ℕ) (op : SignOperator) → Item
  negates : Item
  operates : (line : ℕ) (op : ArithmeticOperator) → Item
  compares : (op : Comparison) → Item
  decides_on : (op : LogicalOperator) (right : Expression) → Item
  tests : Item
  chooses : (yes no : Expression) → Item
  retypes : (type : IntegerType) → Item
  drops : Item
  passes : (next : Expression) → Item
  asserts : (line : ℕ) → Item
  assumes : Item
  -- a place is evaluated; the place so many bytes further on, and that of the element of an array
  locates : (place : Place) → Item
  reaches : (offset : ℕ) → Item
  elements : (line size whole : ℕ) (swapped : Bool) → Item
  -- a place that was evaluated is read; it takes the number above it; and the same where the item says where it is
  loads : (type : IntegerType) (place : Place) → Item
  stores : (line : ℕ) (type : IntegerType) (place : Place) → Item
  rewrites : (line : ℕ) (type : IntegerType) (place : Place) (at : ℕ) → Item
  -- its number is read, for an operation with the number above it, or with 1; and the operation
  updates : (line : ℕ) (type : IntegerType) (place : Place) (op : ArithmeticOperator) (operand : IntegerType) → Item
  combines : (line : ℕ) (type : IntegerType) (place : Place) (op : ArithmeticOperator) (operand : IntegerType) → Item
  steps : (line : ℕ) (type : IntegerType) (place : Place) (op : ArithmeticOperator) (before : Bool) → Item
  increments : (line : ℕ) (type : IntegerType) (place : Place) (op : ArithmeticOperator) (before : Bool) (at : ℕ) → Item
  -- a pointer is moved by the index above it, or below: its object is looked at, and then its range is tested
  looks : (line : ℕ) (step : ℤ) (is_element swapped : Bool) → Item
  lands : (line : ℕ) (step : ℤ) (is_element swapped : Bool) → Item
  -- so the pointer at a place, by the index above it, and by 1
  shifts : (line : ℕ) (place : Place) (step : ℤ) → Item
  paces : (line : ℕ) (place : Place) (step : ℤ) (before : Bool) → Item
  advances : (line : ℕ) (place : Place) (step : ℤ) (before : Bool) (at : ℕ) → Item
  arrives : (line : ℕ) (place : Place) (step : ℤ) (before : Bool) (at : ℕ) → Item
  -- two pointers
  measures : (line step : ℕ) → Item
  orders : (line : ℕ) (op : Comparison) → Item
  -- an allocation: whether it fails, its size, the words that are drawn of so many bytes, and the object
  claims : (line : ℕ) (zeroed : Bool) → Item
  tries : (line : ℕ) (zeroed : Bool) → Item
  admits : (line : ℕ) (zeroed : Bool) → Item
  draws : (words size line : ℕ) → Item
  makes : (line : ℕ) → Item
  releases : (line : ℕ) → Item
  quits : (line : ℕ) → Item
  evaluates_structure : (a : Structure) → Item
  picks : (type : IntegerType) (offset : ℕ) → Item
  discards : Item
  discards_structure : Item
  chooses_structure : (yes no : Structure) → Item
  copies : (place : Place) (size : ℕ) → Item
  stores_structure : (line : ℕ) (place : Place) → Item
  passes_structure : (next : Structure) → Item
  cuts : (offset size : ℕ) → Item
  lists : (parts : Parts) → Item
  places_number : (offset : ℕ) (type : IntegerType) → Item
  places_structure : (offset : ℕ) → Item
  runs : (s : Statement) → Item
  branches : (yes : Statement) → Item
  divides : (yes no : Statement) → Item
  enters : (items : Items) → Item
  goes_on : (items : Items) → Item
  -- the end of a block; the objects of its variables die, of which those of these items are left; and what is done with a variable: its bytes are drawn, it becomes an object, an initializer writes it, its object dies
  ends_block : (items : Items) → Item
  leaves : (items : Items) → Item
  fills : (words line variable offset : ℕ) → Item
  settles : (line variable : ℕ) → Item
  initial : (line variable : ℕ) (type : IntegerType) → Item
  initial_structure : (line variable : ℕ) → Item
  dies : (line variable : ℕ) → Item
  -- so with the parameters of a function, of which so many are left from a number on
  enters_parameters : (count variable : ℕ) → Item
  ends_parameters : (count : ℕ) → Item
  leaves_parameters : (count variable : ℕ) → Item
  -- the arguments of a call are evaluated, where so many are; and the number on top becomes one
  gathers : (want : Wanted) (function count : ℕ) (arguments : Arguments) → Item
  adds_number : (want : Wanted) (function count : ℕ) (type : IntegerType) (arguments : Arguments) → Item
  -- the end of a function's body, with the caller and its variables
  resumes : (want : Wanted) (caller : ℕ) (saved : Variables) → Item
  -- a statement leads out; and the caller gets what a function hands over
  goes_out : (way : Way) → Item
  gets : (want : Wanted) (how : Handed) → Item
  -- a loop that may do so many more rounds: its next one; its test; what the test decides; and the end of its body
  turns : (rounds : ℕ) (loop : Loop) → Item
  retests : (rounds : ℕ) (loop : Loop) → Item
  repeats : (rounds : ℕ) (loop : Loop) → Item
  loops : (rounds : ℕ) (loop : Loop) → Item
  -- a switch goes on at a case; and its end, which is that of a block too
  selects : (items : Items) → Item
  switches : (items : Items) → Item
  -- a jump that leads nowhere
  strays : Item
  -- the end of a thread's first call, with the thread's value; and nothing comes behind
  ending : (line value : ℕ) → Item
  ended : (value : ℕ) → Item

pub record State : Type 0 where
  pub items : List Item
  pub values : List TypedNumber
  pub structures : List (List ℕ)
  pub variables : Variables
  pub active : Active

abbrev pub state : List Item → Active → List TypedNumber → List (List ℕ) → Variables → State
state items a values structures vs = record { items = items; values = values; structures = structures; variables = vs; active = a }

-- the pointer that is moved, and the index by which it is
abbrev pub base : (swapped : Bool) → List TypedNumber → TypedNumber
base false xs = second xs
base true xs = top xs

abbrev pub index : (swapped : Bool) → List TypedNumber → TypedNumber
index false xs = top xs
index true xs = second xs

abbrev pub index_number : (swapped : Bool) → List TypedNumber → ℤ
index_number swapped xs = integer (index swapped xs).type (index swapped xs).bits

-- nothing goes on elsewhere
abbrev pub nowhere : Exits
nowhere = record { breaks = λ vs. final Blocked; continues = λ vs. final Blocked; returns = λ given vs. final Blocked; labels = λ n vs. final Blocked }

module _ (code : Code) (first : Bool) where
  -- so many rounds of a loop that stands before these exits and what follows
  abbrev pub rounds_of : Active → Loop → Exits → (Variables → Behaviour) → ℕ → Variables → Behaviour
  rounds_of r loop exits follows n =
      rounds (running_of code r) loop.line (λ again now.
      exec (running_of code r) (calls_of code r) loop.body (in_loop exits follows (at_end (running_of code r) (calls_of code r) loop.last loop.test again follows)) now (at_end (running_of code r) (calls_of code r) loop.last loop.test again follows)) n

  -- the items of a switch, whose value is given
  abbrev pub selected : Active → Items → ℕ → Exits → Variables → (Variables → Behaviour) → Behaviour
  selected r items x exits vs follows =
      let out : (Variables → Behaviour) = λ last. leave (running_of code r) items last (follows last) in
      if has_case items x then enter (running_of code r) items vs (λ now. at_case (running_of code r) (calls_of code r) items x (leaving (leave (running_of code r) items) (in_switch exits follows)) now out)
      else (if has_default items then enter (running_of code r) items vs (λ now. at_default (running_of code r) (calls_of code r) items (leaving (leave (running_of code r) items) (in_switch exits follows)) now out) else follows vs)

  -- what follows where a call has given this, by the values and structure values that wait then
  abbrev pub receives : Wanted → Active → (List TypedNumber → List (List ℕ) → Behaviour) → List TypedNumber → List (List ℕ) → Given → Behaviour
  receives (wants_number line used t) r follows xs bs given = received (running_of code r) used line t (λ x. follows (typed t x ∷ xs) bs) given
  receives (wants_structure line used size) r follows xs bs given = received_structure (running_of code r) used size line (λ value. follows xs (value ∷ bs)) given
  receives (wants_end line) r follows xs bs given = source.leaves first r.function line given

  abbrev mutual
    -- what follows from these items, with these values and variables
    pub from : List Item → Active → List TypedNumber → List (List ℕ) → Variables → Behaviour
    from [] r xs bs vs = final Blocked
    from (evaluates e ∷ is) r xs bs vs = eval (running_of code r) (calls_of code r) e vs (λ x. from is r (typed (number_type e) x ∷ xs) bs)
    from (converts to ∷ is) r xs bs vs = from is r (typed to (converted (top xs).type to (top xs).bits) ∷ rest xs) bs vs
    from (signs line op ∷ is) r xs bs vs =
        unless_broken (running_of code r) (sign_check op (top xs).type (top xs).bits) line (from is r (typed (top xs).type (sign_value op (top xs).type (top xs).bits) ∷ rest xs) bs vs)
    from (negates ∷ is) r xs bs vs = from is r (typed Int (truth_bits (not (is_true (top xs).bits))) ∷ rest xs) bs vs
    from (operates line op ∷ is) r xs bs vs =
        operated (running_of code r) op (second xs).type (top xs).type (second xs).bits (top xs).bits line (λ z. from is r (typed (second xs).type z ∷ rest (rest xs)) bs vs)
    from (compares op ∷ is) r xs bs vs = from is r (typed Int (truth_bits (compared op (second xs).type (second xs).bits (top xs).bits)) ∷ rest (rest xs)) bs vs
    from (decides_on op b ∷ is) r xs bs vs =
        if decides op (top xs).bits then from is r (typed Int (truth_bits (is_true (top xs).bits)) ∷ rest xs) bs vs
        else eval (running_of code r) (calls_of code r) b vs (λ y. from is r (typed Int (truth_bits (is_true y)) ∷ rest xs) bs)
    from (tests ∷ is) r xs bs vs = from is r (typed Int (truth_bits (is_true (top xs).bits)) ∷ rest xs) bs vs
    from (chooses a b ∷ is) r xs bs vs =
        if is_true (top xs).bits then eval (running_of code r) (calls_of code r) a vs (λ x. from is r (typed (number_type a) x ∷ rest xs) bs)
        else eval (running_of code r) (calls_of code r) b vs (λ x. from is r (typed (number_type a) x ∷ rest xs) bs)
    from (retypes t ∷ is) r xs bs vs = from is r (typed t (top xs).bits ∷ rest xs) bs vs
    from (drops ∷ is) r xs bs vs = from is r (rest xs) bs vs
    from (passes b ∷ is) r xs bs vs = eval (running_of code r) (calls_of code r) b vs (λ x. from is r (typed (number_type b) x ∷ rest xs) bs)
    from (asserts line ∷ is) r xs bs vs = if is_true (top xs).bits then from is r (typed Int 0 ∷ rest xs) bs vs else final (Broken Assertion line r.function)
    from (assumes ∷ is) r xs bs vs = if is_true (top xs).bits then from is r (typed Int 0 ∷ rest xs) bs vs else final Blocked
    from (locates p ∷ is) r xs bs vs = locate (running_of code r) (calls_of code r) p vs (λ at. from is r (typed UnsignedLong at ∷ xs) bs)
    from (reaches offset ∷ is) r xs bs vs = from is r (typed UnsignedLong (further (top xs).bits offset) ∷ rest xs) bs vs
    from (elements line size whole swapped ∷ is) r xs bs vs =
        steps_to (running_of code r) (base swapped xs).bits whole (index_number swapped xs) (pos size) line (λ at. from is r (typed UnsignedLong at ∷ rest (rest xs)) bs vs)
    from (loads t p ∷ is) r xs bs vs = reads_number (running_of code r) t p (top xs).bits vs (λ x. from is r (typed t x ∷ rest xs) bs vs)
    from (stores line t p ∷ is) r xs bs vs = writes_number (running_of code r) t p (second xs).bits line (top xs).bits vs (from is r (typed t (top xs).bits ∷ rest (rest xs)) bs)
    from (rewrites line t p at ∷ is) r xs bs vs = writes_number (running_of code r) t p at line (top xs).bits vs (from is r (typed t (top xs).bits ∷ rest xs) bs)
    from (updates line t p op u ∷ is) r xs bs vs =
        reads_number (running_of code r) t p (second xs).bits vs (λ old. combined (running_of code r) t p (second xs).bits op u (top xs).type old (top xs).bits line vs (λ z. from is r (typed t z ∷ rest (rest xs)) bs))
    from (combines line t p op u ∷ is) r xs bs vs =
        combined (running_of code r) t p (third xs).bits op u (second xs).type (top xs).bits (second xs).bits line vs (λ z. from is r (typed t z ∷ rest (rest (rest xs))) bs)
    from (steps line t p op before ∷ is) r xs bs vs =
        reads_number (running_of code r) t p (top xs).bits vs (λ old. combined (running_of code r) t p (top xs).bits op (promoted t) (promoted t) old 1 line vs (λ z. from is r (typed t (if before then z else old) ∷ rest xs) bs))
    from (increments line t p op before at ∷ is) r xs bs vs =
        combined (running_of code r) t p at op (promoted t) (promoted t) (top xs).bits 1 line vs (λ z. from is r (if before then typed t z ∷ rest xs else xs) bs)
    from (looks line n is_element swapped ∷ is) r xs bs vs =
        meaning.moves (running_of code r) is_element (base swapped xs).bits (index_number swapped xs) n line (λ q. from is r (typed UnsignedLong q ∷ rest (rest xs)) bs vs)
    from (lands line n is_element swapped ∷ is) r xs bs vs =
        meaning.lands (running_of code r) is_element (base swapped (rest xs)).bits (top xs).bits (index_number swapped (rest xs)) n line (λ q. from is r (typed UnsignedLong q ∷ rest (rest (rest xs))) bs vs)
    from (shifts line p n ∷ is) r xs bs vs =
        reads_number (running_of code r) UnsignedLong p (second xs).bits vs (λ old. meaning.moves (running_of code r) false old (index_number false xs) n line (λ q. writes_number (running_of code r) UnsignedLong p (second xs).bits line q vs (from is r (typed UnsignedLong q ∷ rest (rest xs)) bs)))
    from (paces line p n before ∷ is) r xs bs vs =
        reads_number (running_of code r) UnsignedLong p (top xs).bits vs (λ old. meaning.moves (running_of code r) false old (pos 1) n line (λ q. writes_number (running_of code r) UnsignedLong p (top xs).bits line q vs (from is r (typed UnsignedLong (if before then q else old) ∷ rest xs) bs)))
    from (advances line p n before at ∷ is) r xs bs vs =
        meaning.moves (running_of code r) false (top xs).bits (pos 1) n line (λ q. writes_number (running_of code r) UnsignedLong p at line q vs (from is r (if before then typed UnsignedLong q ∷ rest xs else xs) bs))
    from (arrives line p n before at ∷ is) r xs bs vs =
        meaning.lands (running_of code r) false (second xs).bits (top xs).bits (pos 1) n line (λ q. writes_number (running_of code r) UnsignedLong p at line q vs (from is r (if before then typed UnsignedLong q ∷ rest (rest xs) else rest xs) bs))
    from (measures line n ∷ is) r xs bs vs =
        unless_apart (running_of code r) (second xs).bits (top xs).bits line (from is r (typed Long (elements_between (second xs).bits (top xs).bits n) ∷ rest (rest xs)) bs vs)
    from (orders line op ∷ is) r xs bs vs =
        unless_apart (running_of code r) (second xs).bits (top xs).bits line (from is r (typed Int (truth_bits (compared op UnsignedLong (offset_of (second xs).bits) (offset_of (top xs).bits))) ∷ rest (rest xs)) bs vs)
    from (claims line false ∷ is) r xs bs vs = mallocs (running_of code r) (top xs).bits line (λ p. from is r (typed UnsignedLong p ∷ rest xs) bs vs)
    from (claims line true ∷ is) r xs bs vs = callocs (running_of code r) (second xs).bits (top xs).bits line (λ p. from is r (typed UnsignedLong p ∷ rest (rest xs)) bs vs)
    from (tries line false ∷ is) r xs bs vs =
        if is_true (top xs).bits then from is r (typed UnsignedLong 0 ∷ rest (rest xs)) bs vs else grants (running_of code r) (second xs).bits line (λ p. from is r (typed UnsignedLong p ∷ rest (rest xs)) bs vs)
    from (tries line true ∷ is) r xs bs vs =
        if is_true (top xs).bits then from is r (typed UnsignedLong 0 ∷ rest (rest (rest xs))) bs vs else grants_zeroed (running_of code r) (third xs).bits (second xs).bits line (λ p. from is r (typed UnsignedLong p ∷ rest (rest (rest xs))) bs vs)
    from (admits line false ∷ is) r xs bs vs = grants (running_of code r) (top xs).bits line (λ p. from is r (typed UnsignedLong p ∷ rest xs) bs vs)
    from (admits line true ∷ is) r xs bs vs = grants_zeroed (running_of code r) (second xs).bits (top xs).bits line (λ p. from is r (typed UnsignedLong p ∷ rest (rest xs)) bs vs)
    from (draws words size line ∷ is) r xs bs vs =
        draws_bytes (running_of code r) words line size (top_bytes bs) (λ found. allocates (running_of code r) line found (λ p. from is r (typed UnsignedLong p ∷ rest xs) (rest_bytes bs) vs))
    from (makes line ∷ is) r xs bs vs = allocates (running_of code r) line (top_bytes bs) (λ p. from is r (typed UnsignedLong p ∷ rest xs) (rest_bytes bs) vs)
    from (releases line ∷ is) r xs bs vs = frees (running_of code r) (top xs).bits line (from is r (typed Int 0 ∷ rest xs) bs vs)
    from (quits line ∷ is) r xs bs vs = ends_process (running_of code r) line
    from (evaluates_structure a ∷ is) r xs bs vs = eval_structure (running_of code r) (calls_of code r) a vs (λ value. from is r xs (value ∷ bs))
    from (picks t offset ∷ is) r xs bs vs = from is r (typed t (number_at t offset (top_bytes bs)) ∷ xs) (rest_bytes bs) vs
    from (discards ∷ is) r xs bs vs = from is r (typed Int 0 ∷ rest xs) bs vs
    from (discards_structure ∷ is) r xs bs vs = from is r (typed Int 0 ∷ xs) (rest_bytes bs) vs
    from (chooses_structure a b ∷ is) r xs bs vs =
        if is_true (top xs).bits then eval_structure (running_of code r) (calls_of code r) a vs (λ value. from is r (rest xs) (value ∷ bs))
        else eval_structure (running_of code r) (calls_of code r) b vs (λ value. from is r (rest xs) (value ∷ bs))
    from (copies p size ∷ is) r xs bs vs = reads (running_of code r) (variable_of (running_of code r) p) (top xs).bits size (place_line p) vs (λ value. from is r (rest xs) (value ∷ bs) vs)
    from (stores_structure line p ∷ is) r xs bs vs = writes (running_of code r) (variable_of (running_of code r) p) (top xs).bits (top_bytes bs) line vs (from is r (rest xs) bs)
    from (passes_structure a ∷ is) r xs bs vs = eval_structure (running_of code r) (calls_of code r) a vs (λ value. from is r (rest xs) (value ∷ bs))
    from (cuts offset size ∷ is) r xs bs vs = from is r xs (take size (drop offset (top_bytes bs)) ∷ rest_bytes bs) vs
    from (lists parts ∷ is) r xs bs vs = eval_parts (running_of code r) (calls_of code r) parts (top_bytes bs) vs (λ value. from is r xs (value ∷ rest_bytes bs))
    from (places_number offset t ∷ is) r xs bs vs = from is r (rest xs) (put_at offset (low_bytes (bytes t) (top xs).bits) (top_bytes bs) ∷ rest_bytes bs) vs
    from (places_structure offset ∷ is) r xs bs vs = from is r xs (put_at offset (top_bytes bs) (second_bytes bs) ∷ rest_bytes (rest_bytes bs)) vs
    from (runs s ∷ is) r xs bs vs = exec (running_of code r) (calls_of code r) s (exits_of is r xs bs) vs (from is r xs bs)
    from (branches s ∷ is) r xs bs vs = if is_true (top xs).bits then exec (running_of code r) (calls_of code r) s (exits_of is r (rest xs) bs) vs (from is r (rest xs) bs) else from is r (rest xs) bs vs
    from (divides s t ∷ is) r xs bs vs = if is_true (top xs).bits then exec (running_of code r) (calls_of code r) s (exits_of is r (rest xs) bs) vs (from is r (rest xs) bs) else exec (running_of code r) (calls_of code r) t (exits_of is r (rest xs) bs) vs (from is r (rest xs) bs)
    from (enters items ∷ is) r xs bs vs = enter (running_of code r) items vs (from is r xs bs)
    from (goes_on items ∷ is) r xs bs vs = exec_items (running_of code r) (calls_of code r) items (exits_of is r xs bs) vs (from is r xs bs)
    from (ends_block items ∷ is) r xs bs vs = leave (running_of code r) items vs (from is r xs bs vs)
    from (leaves items ∷ is) r xs bs vs = leave (running_of code r) items vs (from is r xs bs vs)
    from (fills words line v offset ∷ is) r xs bs vs = draws_words (running_of code r) words line v offset vs (from is r xs bs)
    from (settles line v ∷ is) r xs bs vs = meaning.places (running_of code r) (home_of (running_of code r) v) line v vs (from is r xs bs)
    from (initial line v t ∷ is) r xs bs vs = meaning.initial (running_of code r) (home_of (running_of code r) v) v (low_bytes (bytes t) (top xs).bits) line vs (from is r (rest xs) bs)
    from (initial_structure line v ∷ is) r xs bs vs = meaning.initial (running_of code r) (home_of (running_of code r) v) v (top_bytes bs) line vs (from is r xs (rest_bytes bs))
    from (dies line v ∷ is) r xs bs vs = meaning.dies (running_of code r) (home_of (running_of code r) v) line vs (from is r xs bs vs)
    from (enters_parameters count v ∷ is) r xs bs vs = enter_parameters (running_of code r) count v vs (from is r xs bs)
    from (ends_parameters count ∷ is) r xs bs vs = leave_parameters (running_of code r) count 0 vs (from is r xs bs vs)
    from (leaves_parameters count v ∷ is) r xs bs vs = leave_parameters (running_of code r) count v vs (from is r xs bs vs)
    from (gathers want f count args ∷ is) r xs bs vs =
        eval_arguments (running_of code r) (calls_of code r) args (blocks_on count bs) vs (λ blocks after. calls_of code r f (line_of want) blocks (receives want r (λ ys cs. from is r ys cs after) xs (drop count bs)))
    from (adds_number want f count t args ∷ is) r xs bs vs =
        eval_arguments (running_of code r) (calls_of code r) args (blocks_on count bs ++ low_bytes (bytes t) (top xs).bits ∷ []) vs (λ blocks after. calls_of code r f (line_of want) blocks (receives want r (λ ys cs. from is r ys cs after) (rest xs) (drop count bs)))
    from (resumes want caller saved ∷ is) r xs bs vs = receives want (back caller r) (λ ys cs. from is (back caller r) ys cs saved) xs bs nothing
    from (goes_out by_break ∷ is) r xs bs vs = let out = exits_of is r xs bs in out.breaks vs
    from (goes_out by_continue ∷ is) r xs bs vs = let out = exits_of is r xs bs in out.continues vs
    from (goes_out (by_jump n) ∷ is) r xs bs vs = let out = exits_of is r xs bs in out.labels n vs
    from (goes_out (by_return how) ∷ is) r xs bs vs = let out = exits_of is r (values_under how xs) (structures_under how bs) in out.returns (given_by how xs bs) vs
    from (gets want how ∷ is) r xs bs vs = receives want r (λ ys cs. from is r ys cs vs) (values_under how xs) (structures_under how bs) (given_by how xs bs)
    from (turns n loop ∷ is) r xs bs vs = rounds_of r loop (exits_of is r xs bs) (from is r xs bs) n vs
    from (retests n loop ∷ is) r xs bs vs = tested (running_of code r) (calls_of code r) loop.test vs (rounds_of r loop (exits_of is r xs bs) (from is r xs bs) n) (from is r xs bs)
    from (repeats n loop ∷ is) r xs bs vs = if is_true (top xs).bits then rounds_of r loop (exits_of is r (rest xs) bs) (from is r (rest xs) bs) n vs else from is r (rest xs) bs vs
    from (loops n loop ∷ is) r xs bs vs = at_end (running_of code r) (calls_of code r) loop.last loop.test (rounds_of r loop (exits_of is r xs bs) (from is r xs bs) n) (from is r xs bs) vs
    from (selects items ∷ is) r xs bs vs = selected r items (top xs).bits (exits_of is r (rest xs) bs) vs (from is r (rest xs) bs)
    from (switches items ∷ is) r xs bs vs = leave (running_of code r) items vs (from is r xs bs vs)
    from (strays ∷ is) r xs bs vs = let running = running_of code r in final (Broken Assertion running.line running.function)
    from (ending line x ∷ is) r xs bs vs = ask_in r.function (if first then Exit else End x) line (λ a. final (Ended (word_64 (if first then 0 else x))))
    from (ended x ∷ is) r xs bs vs = final (Ended (word_64 (if first then 0 else x)))

    -- where else a statement before these items may go on
    pub exits_of : List Item → Active → List TypedNumber → List (List ℕ) → Exits
    exits_of [] r xs bs = nowhere
    exits_of (goes_on items ∷ is) r xs bs = with_labels (exits_of is r xs bs) (λ n now. at_label (running_of code r) (calls_of code r) items n (exits_of is r xs bs) now (from is r xs bs))
    exits_of (ends_block items ∷ is) r xs bs = leaving (leave (running_of code r) items) (exits_of is r xs bs)
    exits_of (ends_parameters count ∷ is) r xs bs = leaving (leave_parameters (running_of code r) count 0) (exits_of is r xs bs)
    exits_of (loops n loop ∷ is) r xs bs =
        in_loop (exits_of is r xs bs) (from is r xs bs) (at_end (running_of code r) (calls_of code r) loop.last loop.test (rounds_of r loop (exits_of is r xs bs) (from is r xs bs) n) (from is r xs bs))
    exits_of (switches items ∷ is) r xs bs = leaving (leave (running_of code r) items) (in_switch (exits_of is r xs bs) (from is r xs bs))
    exits_of (resumes want caller saved ∷ is) r xs bs = let running = running_of code r in in_function running.line running.function (receives want (back caller r) (λ ys cs. from is (back caller r) ys cs saved) xs bs)
    exits_of (_ ∷ is) r xs bs = exits_of is r xs bs

  abbrev pub behaves : State → Behaviour
  behaves s = from s.items s.active s.values s.structures s.variables
