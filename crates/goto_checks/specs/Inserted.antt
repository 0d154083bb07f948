-- Code with an explicit check before each operation that may be undefined (C11 6.5).
use Rattle.std.specs.Prelude.{ℕ, zero, suc, ◌+◌, List, [], ◌∷◌, length, Option, Some, None, if◌then◌else◌}
use Rattle.c_types.specs.declared.integers.IntegerType.{IntegerType}
use Rattle.c_types.specs.Integers.{is_signed}
use Rattle.core_tree.specs.declared.operators.ArithmeticOperator.{ArithmeticOperator}
use Rattle.core_tree.specs.declared.operators.ArithmeticOperator.TheVariants as arithmetics
use Rattle.core_tree.specs.declared.operators.SignOperator.{SignOperator}
use Rattle.core_tree.specs.declared.operators.SignOperator.TheVariants as signs
use Rattle.goto_prog.specs.declared.code.Condition.{Condition}
use Rattle.goto_prog.specs.declared.code.Condition.TheVariants as checks
use Rattle.goto_prog.specs.declared.code.Operation.{Operation}
use Rattle.goto_prog.specs.declared.code.Operation.TheVariants as operations
use Rattle.goto_prog.specs.declared.code.Instruction.{Instruction}
use Rattle.goto_prog.specs.Nodes.{Nodes, done, plain, repeats, Routine}

-- a check, if there is one, and others
abbrev pub before : Option Condition → List Condition → List Condition
before None cs = cs
before (Some c) cs = c ∷ cs

-- a check that only signed types need
abbrev pub if_signed : IntegerType → Condition → List Condition
if_signed t c = if is_signed t then c ∷ [] else []

-- the checks of an operation, in the order in which they break: a divisor of 0 before a quotient out of range
abbrev pub arithmetic_checks : ArithmeticOperator → IntegerType → IntegerType → ℕ → ℕ → List Condition
arithmetic_checks arithmetics.Multiply t u a b = if_signed t (checks.Range arithmetics.Multiply t a b)
arithmetic_checks arithmetics.Divide t u a b = checks.Divisor b ∷ if_signed t (checks.Quotient t a b)
arithmetic_checks arithmetics.Remainder t u a b = checks.Divisor b ∷ if_signed t (checks.Quotient t a b)
arithmetic_checks arithmetics.Add t u a b = if_signed t (checks.Range arithmetics.Add t a b)
arithmetic_checks arithmetics.Subtract t u a b = if_signed t (checks.Range arithmetics.Subtract t a b)
arithmetic_checks arithmetics.ShiftLeft t u a b = (if is_signed t then checks.LeftShift t u a b else checks.Count t u b) ∷ []
arithmetic_checks arithmetics.ShiftRight t u a b = checks.Count t u b ∷ []
arithmetic_checks arithmetics.And t u a b = []
arithmetic_checks arithmetics.Xor t u a b = []
arithmetic_checks arithmetics.Or t u a b = []

abbrev pub sign_checks : SignOperator → IntegerType → ℕ → List Condition
sign_checks signs.Plus t a = []
sign_checks signs.Minus t a = if_signed t (checks.Negation t a)
sign_checks signs.Complement t a = []

abbrev pub checks_of : Operation → List Condition
checks_of (operations.Sign r op t a) = sign_checks op t a
checks_of (operations.Arithmetic r op t u a b) = arithmetic_checks op t u a b
checks_of (operations.Use a) = checks.Returned a ∷ []
checks_of (operations.Move r p i t n size class) = checks.Within p i t n size class ∷ []
checks_of (operations.Same p q) = checks.SameObject p q ∷ []
checks_of (operations.Take b to from p count whole) = checks.Inside p count whole ∷ []
checks_of (operations.Put b p from to count whole) = checks.Inside p count whole ∷ []
checks_of _ = []

-- a check as an instruction, at the line and in the function of another
abbrev pub check_at : Instruction → Condition → Instruction
check_at i c = record { line = i.line; function = i.function; operation = operations.Check c }

abbrev pub with_checks : Instruction → List Condition → Nodes → Nodes
with_checks i [] code = code
with_checks i (c ∷ cs) code = plain (check_at i c) (with_checks i cs code)

-- a jump over other code
abbrev pub with_count : Operation → ℕ → Operation
with_count (operations.Skip n) count = operations.Skip count
with_count (operations.SkipIfZero a n) count = operations.SkipIfZero a count
with_count o count = o

-- how many places a jump passes over
abbrev pub count_of : Operation → ℕ
count_of (operations.Skip n) = n
count_of (operations.SkipIfZero a n) = n
count_of _ = 0

-- how many places each place of nodes and each later one becomes; a loop is one
abbrev pub widths : Nodes → (later : List ℕ) → List ℕ
widths done later = later
widths (plain i rest) later = (length (checks_of i.operation) + 1) ∷ widths rest later
widths (repeats line f n rotated body rest) later = 1 ∷ widths rest later

-- how many the first n become
abbrev pub extent : ℕ → List ℕ → ℕ
extent zero ws = 0
extent (suc n) [] = 0
extent (suc n) (w ∷ ws) = w + extent n ws

-- a jump passes over the same code with its checks
abbrev pub jumping : Instruction → List ℕ → Instruction
jumping i ws = record i { operation = with_count i.operation (extent (count_of i.operation) ws) }

-- nodes with their checks, where the later places become so many each; behind the nodes of a loop comes its next round, which is one place
abbrev pub inserted : Nodes → (later : List ℕ) → Nodes
inserted done later = done
inserted (plain i rest) later = with_checks i (checks_of i.operation) (plain (jumping i (widths rest later)) (inserted rest later))
inserted (repeats line f n rotated body rest) later = repeats line f n rotated (inserted body (1 ∷ widths rest later)) (inserted rest later)

-- the code of a function with its checks; behind it comes its end, which is one place
abbrev pub with_inserted : Routine → Routine
with_inserted p = record p { nodes = inserted p.nodes (1 ∷ []) }

-- ---- checked code that is made from its end

abbrev pub total_of : List ℕ → ℕ
total_of [] = 0
total_of (x ∷ xs) = x

-- how many places of the checked code are from each place on, those of the first place first
abbrev pub sums : List ℕ → List ℕ
sums [] = 0 ∷ []
sums (w ∷ ws) = (w + total_of (sums ws)) ∷ sums ws
