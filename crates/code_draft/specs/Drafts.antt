-- The code of a function that grows, and what each tree adds to it at its end.
use Rattle.std.specs.Prelude.{◌≡◌, ℕ, ℤ, false, true, zero, suc, ◌+◌, ◌-◌, ◌==◌, List, [], ◌∷◌, ◌++◌, length, Option, Some, None, slice_set, if◌then◌else◌}
use Rattle.c_types.specs.declared.integers.IntegerType.{IntegerType}
use Rattle.c_types.specs.declared.integers.IntegerType.TheVariants.{UnsignedLong}
use Rattle.core_tree.specs.declared.operators.ArithmeticOperator.TheVariants as arithmetics
use Rattle.core_tree.specs.declared.operators.Comparison.{Comparison}
use Rattle.core_tree.specs.Trees.{Place, Expression, Structure, Parts, Arguments}
use Rattle.c_meaning.specs.Meaning.{number_type}
use Rattle.c_temporaries.specs.declared.accesses.Access.{Access}
use Rattle.c_temporaries.specs.Accesses.{access, is_evaluated}
use Rattle.c_temporaries.specs.Temporaries.{heap_bytes}
use Rattle.goto_prog.specs.declared.code.Operation.{Operation}
use Rattle.goto_prog.specs.declared.code.Operation.TheVariants.{Skip, SkipIfZero}
use Rattle.goto_prog.specs.declared.code.Operation.TheVariants as operations
use Rattle.goto_prog.specs.declared.code.Instruction.{Instruction}
use Rattle.code_draft.specs.declared.operand.Operand.{Operand}
use Rattle.code_draft.specs.declared.operand.Way.{Way}
use Rattle.code_draft.specs.declared.places.Mark.{Mark}
use Rattle.code_draft.specs.declared.places.Mark.TheVariants as marks
use Rattle.lowered_code.specs.Lowering.{Frame, deeper, deeper_by, place_top, top, argument_count, line_of, at_line, if_evaluated, read_code, write_code, move_code, place_code, death_code, code, structure_code, parts_code, text_code, arguments_code}
use Rattle.lowered_code.specs.Registers.{held_types, place_types, types, structure_types, parts_types, arguments_types}

-- where the code stands; the code of an expression so far, the types of the registers so far, and the labels that are known and the objects that live around it, the latest first
pub record Listed : Type 0 where
  pub frame : Frame
  pub instructions : List Instruction
  pub registers : List IntegerType
  pub marks : List Mark

-- the number of the next register
abbrev pub next : Listed → ℕ
next d = length d.registers

abbrev pub added : Listed → List Instruction → List IntegerType → Listed
added d xs ts = record d { instructions = d.instructions ++ xs; registers = d.registers ++ ts }

abbrev pub filled : Listed → ℕ → Instruction → Listed
filled d place i = record d { instructions = slice_set d.instructions place i }

-- a jump, where a register is 0 or in any case
abbrev pub jump : Option ℕ → ℕ → Operation
jump None count = Skip count
jump (Some r) count = SkipIfZero r count

-- the jump at a place goes behind the code that is there
abbrev pub landed : Listed → ℕ → ℕ → Option ℕ → Listed
landed d place line test = filled d place (at_line d.frame line (jump test (length d.instructions - (place + 1))))

-- ---- places

-- so reached, by this register where it is evaluated
abbrev pub way_by : Access → ℕ → Way
way_by a p = record { access = a; pointer = if is_evaluated a then p else 0 }

abbrev pub after_place : Listed → Place → Listed
after_place d x = added d (place_code d.frame x (next d)) (place_types d.frame.variables x)

-- where it is stands in its last register
abbrev pub after_way : Listed → Place → Listed
after_way d x = added d (if_evaluated (access d.frame.variables x) (place_code d.frame x (next d))) (held_types (access d.frame.variables x) (place_types d.frame.variables x))

-- its code is added, and this is the register that tells where it is
pub record Leads (old new : Listed) (x : Place) (p : ℕ) : Type 0 where
  pub code_is : new ≡ after_place old x
  pub register_is : p ≡ next old + place_top old.frame.variables x

-- so is its code where it is evaluated, and this is how it is reached
pub record Reaches (old new : Listed) (x : Place) (w : Way) : Type 0 where
  pub code_is : new ≡ after_way old x
  pub way_is : w ≡ way_by (access old.frame.variables x) (next old + place_top old.frame.variables x)

-- ---- expressions

-- the pointer at a place, moved by the index in the register i, and the result back into the place, which the register p tells: registers from n on
abbrev pub moved_code : Frame → (at line : ℕ) → Access → (p : ℕ) → (step : ℤ) → (i : ℕ) → IntegerType → (n : ℕ) → List Instruction
moved_code f at line way p step i t n =
    read_code f at n UnsignedLong way p ++ (move_code f false line n i t step (n + 1) ++ write_code f line UnsignedLong way p (n + 2))

-- an allocation in front of what grants it, so many instructions: the register b tells whether it fails, and then r is 0
abbrev pub asked_code : Frame → (line b r granted : ℕ) → List Instruction
asked_code f line b r granted =
    at_line f line (operations.MayFail b) ∷ at_line f line (SkipIfZero b 2) ∷ at_line f line (operations.Constant r 0) ∷ at_line f line (Skip granted) ∷ []

-- what grants it: bytes that are drawn, where the register `one` is set to 1
abbrev pub drawn_code : Frame → (line one size r : ℕ) → List Instruction
drawn_code f line one size r =
    at_line f line (operations.Constant one 1)
    ∷ at_line f line (operations.Limit size one)
    ∷ at_line f line (operations.Fill f.heap size)
    ∷ at_line f line (operations.Alloc r f.heap size false true)
    ∷ []

-- bytes that are 0, where the register `all` is set to how many they are
abbrev pub zeroed_code : Frame → (line count size all r : ℕ) → List Instruction
zeroed_code f line count size all r =
    at_line f line (operations.Limit count size)
    ∷ at_line f line (operations.Arithmetic all arithmetics.Multiply UnsignedLong UnsignedLong count size)
    ∷ at_line f line (operations.Clear f.heap heap_bytes)
    ∷ at_line f line (operations.Alloc r f.heap all false true)
    ∷ []

abbrev pub freed_code : Frame → (line p r : ℕ) → List Instruction
freed_code f line p r = at_line f line (SkipIfZero p 1) ∷ at_line f line (operations.Free p) ∷ at_line f line (operations.Constant r 0) ∷ []

-- two pointers into one object are subtracted, and compared
abbrev pub distance_code : Frame → (line p q step r : ℕ) → List Instruction
distance_code f line p q step r = at_line f line (operations.Same p q) ∷ at_line f line (operations.Distance r p q step) ∷ []

abbrev pub relation_code : Frame → (line : ℕ) → Comparison → (p q r : ℕ) → List Instruction
relation_code f line op p q r = at_line f line (operations.Same p q) ∷ at_line f line (operations.Relate r op p q) ∷ []

abbrev pub operand : ℕ → IntegerType → ℕ → Operand
operand r t line = record { register = r; type_ = t; line = line }

abbrev pub after : Listed → Expression → Listed
after d e = added d (code d.frame e (next d)) (types d.frame.variables e)

abbrev pub value_in : Listed → Expression → Operand
value_in d e = operand (next d + top d.frame.variables e) (number_type e) (line_of e)

-- its code is added, and this is where its value is
pub record Lowers (old new : Listed) (e : Expression) (x : Operand) : Type 0 where
  pub code_is : new ≡ after old e
  pub value_is : x ≡ value_in old e

-- ---- structure values, into a block from an offset on

abbrev pub after_structure : Listed → Structure → (into at : ℕ) → Listed
after_structure d a into to = added d (structure_code d.frame a (next d) into to) (structure_types d.frame.variables a)

-- into the first block that is free
abbrev pub after_temporary : Listed → Structure → Listed
after_temporary d a = added d (structure_code (deeper d.frame) a (next d) d.frame.free 0) (structure_types d.frame.variables a)

abbrev pub after_parts : Listed → ℕ → Parts → (into at : ℕ) → Listed
after_parts d line ps into to = added d (parts_code d.frame line ps (next d) into to) (parts_types d.frame.variables ps)

-- bytes of a string by the register r
abbrev pub after_text : Listed → ℕ → List ℕ → (r into at : ℕ) → Listed
after_text d line text r into to = added d (text_code d.frame line text r into to) []

-- the arguments of a call, the first into this block
abbrev pub after_arguments : Listed → Arguments → (block : ℕ) → Listed
after_arguments d args b = added d (arguments_code d.frame args (next d) b) (arguments_types d.frame.variables args)

-- into the first blocks that are free, while one more is in use
abbrev pub after_passed : Listed → Arguments → Listed
after_passed d args = added d (arguments_code (deeper_by (argument_count args + 1) d.frame) args (next d) d.frame.free) (arguments_types d.frame.variables args)

-- ---- in front of nodes

-- the code so far stands elsewhere
abbrev pub flushed : Listed → Listed
flushed d = record d { instructions = [] }

-- how many places lie behind a label's place, up to the end of the function
abbrev pub place_of : List Mark → ℕ → ℕ
place_of [] m = 2
place_of (marks.Label l place ∷ ms) m = if l == m then place else place_of ms m
place_of (marks.Alive line h ∷ ms) m = place_of ms m

-- what lets the latest objects die, so many of them, by the register r
abbrev pub deaths_of : Frame → List Mark → (count r : ℕ) → List Instruction
deaths_of f ms zero r = []
deaths_of f [] (suc count) r = []
deaths_of f (marks.Label l place ∷ ms) (suc count) r = deaths_of f ms (suc count) r
deaths_of f (marks.Alive line h ∷ ms) (suc count) r = death_code f line (Some h) r ++ deaths_of f ms count r

-- and all that live since a label is known
abbrev pub deaths_to : Frame → List Mark → (l r : ℕ) → List Instruction
deaths_to f [] m r = []
deaths_to f (marks.Label l place ∷ ms) m r = if l == m then [] else deaths_to f ms m r
deaths_to f (marks.Alive line h ∷ ms) m r = death_code f line (Some h) r ++ deaths_to f ms m r
