-- The texts of the answers.
use Rattle.std.specs.Prelude.{◌≡◌, ◌≢◌, ℕ, ◌<◌, ◌≤◌, ◌^◌, Bool, true, ◌==◌, List, [], ◌∷◌, ◌++◌, length, Option, Some, None, All, if◌then◌else◌, codes}
use Rattle.std.specs.List.{flat_map}
use Rattle.std.specs.Fmt.{decimal}
use Rattle.std.specs.Str.{IsUtf8}
use Rattle.words.specs.declared.check.Class.{Class}
use Rattle.words.specs.declared.check.Class.TheVariants.{Assertion, Overflow, Division, Shift, Null, InvalidPointer, Lifetime, Bounds, Readonly, MixedSize, Pointer, Free, MallocLimit, Mutex, Join, Return, Unwind, Recursion}
use Rattle.report.specs.FileNames.{all_name_bytes}
use Rattle.report.specs.Identifiers.{is_identifier}
use Rattle.core_tree.specs.declared.refusal.Limit.{Limit}
use Rattle.core_tree.specs.declared.refusal.Limit.TheVariants.{FileBytes, Tokens, Places, Threads, Actions, Objects, ObjectBytes}

abbrev pub class_name : Class → List ℕ
class_name Assertion = codes "assertion"
class_name Overflow = codes "overflow"
class_name Division = codes "division"
class_name Shift = codes "shift"
class_name Null = codes "null"
class_name InvalidPointer = codes "invalid-pointer"
class_name Lifetime = codes "lifetime"
class_name Bounds = codes "bounds"
class_name Readonly = codes "readonly"
class_name MixedSize = codes "mixed-size"
class_name Pointer = codes "pointer"
class_name Free = codes "free"
class_name MallocLimit = codes "malloc-limit"
class_name Mutex = codes "mutex"
class_name Join = codes "join"
class_name Return = codes "return"
class_name Unwind = codes "unwind"
class_name Recursion = codes "recursion"

-- a line of a text: it ends with a newline
abbrev pub line_of : List ℕ → List ℕ
line_of bytes = bytes ++ 10 ∷ []

-- what the first lines of a verdict say: of a generated file the number of its threads and that of its bytes; the file, the
-- unwinding, and whether unwinding assertions are on
pub record Head : Type 0 where
  pub generated : Option (ℕ × ℕ)
  pub name : List ℕ
  pub unwind : ℕ
  pub assertions : Bool

abbrev pub generated_lines : Option (ℕ × ℕ) → List ℕ
generated_lines None = []
generated_lines (Some g) = codes "generated " ++ (decimal g.0 ++ (codes " bytes " ++ (decimal g.1 ++ 10 ∷ [])))

abbrev pub file_line : List ℕ → ℕ → List ℕ
file_line name unwind = codes "file " ++ (name ++ (codes " unwind " ++ (decimal unwind ++ 10 ∷ [])))

abbrev pub assertions_lines : Bool → List ℕ
assertions_lines assertions = if assertions then [] else line_of (codes "unwinding assertions off")

abbrev pub head_text : Head → List ℕ
head_text h = generated_lines h.generated ++ (file_line h.name h.unwind ++ assertions_lines h.assertions)

abbrev pub success_text : Head → List ℕ
success_text h = head_text h ++ line_of (codes "VERIFICATION SUCCESSFUL")

-- a failure: the broken check, with its function's name; the words of each thread that drew, by rising thread number;
-- and the schedule, as rows of a thread and its number of turns
pub record Failure : Type 0 where
  pub class : Class
  pub line : ℕ
  pub function : List ℕ
  pub thread : ℕ
  pub inputs : List (ℕ × List ℕ)
  pub rows : List (ℕ × ℕ)

abbrev pub check_line : Class → ℕ → List ℕ → ℕ → List ℕ
check_line class line function thread = codes "violated " ++ (class_name class ++ (codes " line " ++ (decimal line ++ (codes " function " ++ (function ++ (codes " thread " ++ (decimal thread ++ 10 ∷ [])))))))

abbrev pub violated_line : Failure → List ℕ
violated_line f = check_line f.class f.line f.function f.thread

abbrev pub spaced_words : List ℕ → List ℕ
spaced_words words = flat_map (λ w. 32 ∷ decimal w) words

abbrev pub inputs_line : ℕ × List ℕ → List ℕ
inputs_line entry = codes "inputs " ++ (decimal entry.0 ++ (58 ∷ (spaced_words entry.1 ++ 10 ∷ [])))

abbrev pub spaced_row : ℕ × ℕ → List ℕ
spaced_row row = 32 ∷ (decimal row.0 ++ (codes "x" ++ decimal row.1))

abbrev pub spaced_rows : List (ℕ × ℕ) → List ℕ
spaced_rows rows = flat_map spaced_row rows

abbrev pub schedule_line : List (ℕ × ℕ) → List ℕ
schedule_line rows = codes "schedule" ++ (spaced_rows rows ++ 10 ∷ [])

abbrev pub failure_text : Head → Failure → List ℕ
failure_text h f = head_text h ++ (violated_line f ++ (flat_map inputs_line f.inputs ++ (schedule_line f.rows ++ line_of (codes "VERIFICATION FAILED"))))

-- the name of a refusal, by its number
abbrev pub refusal_name : ℕ → List ℕ
refusal_name n = if n == 1 then codes "BadByte" else if n == 2 then codes "Unclosed" else if n == 3 then codes "BadConstant" else if n == 4 then codes "Foreign"
    else if n == 5 then codes "Directive" else if n == 6 then codes "Include" else if n == 7 then codes "Conditional" else if n == 10 then codes "Syntax" else if n == 11 then codes "Typing" else codes "Outside"

abbrev pub refusal_text : ℕ → ℕ → Option ℕ → List ℕ
refusal_text number line None = codes "refused " ++ (decimal number ++ (32 ∷ (refusal_name number ++ (codes " line " ++ (decimal line ++ 10 ∷ [])))))
refusal_text number line (Some rule) = codes "refused " ++ (decimal number ++ (32 ∷ (refusal_name number ++ (codes " line " ++ (decimal line ++ (codes " rule " ++ (decimal rule ++ 10 ∷ [])))))))

-- the name of a counted quantity, and the greatest that is accepted
abbrev pub limit_name : Limit → List ℕ
limit_name FileBytes = codes "file-bytes"
limit_name Tokens = codes "tokens"
limit_name Places = codes "places"
limit_name Threads = codes "threads"
limit_name Actions = codes "actions"
limit_name Objects = codes "objects"
limit_name ObjectBytes = codes "object-bytes"

abbrev pub limit_value : Limit → ℕ
limit_value FileBytes = 1048576
limit_value Tokens = 200000
limit_value Places = 2000000
limit_value Threads = 64
limit_value Actions = 4096
limit_value Objects = 8192
limit_value ObjectBytes = 65536

abbrev pub limit_text : Limit → List ℕ
limit_text limit = codes "limit " ++ (limit_name limit ++ (32 ∷ (decimal (limit_value limit) ++ 10 ∷ [])))

abbrev pub budget_text : ℕ → List ℕ
budget_text n = codes "budget " ++ (decimal n ++ 10 ∷ [])

-- ---- what a text is one of

-- A name that FILE may have: it isn't empty, it is a text, as each word of a command is, and it has no control character.
pub record IsFileName (name : List ℕ) : Type 0 where
  pub some : 0 < length name
  pub utf8 : IsUtf8 name
  pub shown : all_name_bytes name ≡ true

-- a generated file has the number of its threads in its name
abbrev pub IsGeneratedAs : List ℕ → Option (ℕ × ℕ) → Type 0
IsGeneratedAs name None = Unit {0}
IsGeneratedAs name (Some g) = (g.0 < 2 ^ 32) × (g.1 < 2 ^ 32) × (name ≡ codes "generated-" ++ decimal g.0)

pub record IsHead (h : Head) : Type 0 where
  pub name : IsFileName h.name
  pub least : 1 ≤ h.unwind
  pub unwind : h.unwind ≤ 1000
  pub generated : IsGeneratedAs h.name h.generated

-- the words of a thread that drew
pub record IsDrawn (entry : ℕ × List ℕ) : Type 0 where
  pub thread : entry.0 < 2 ^ 32
  pub some : 0 < length entry.1
  pub words : All (λ w. w < 2 ^ 64) entry.1

-- a row of a schedule
pub record IsRow (row : ℕ × ℕ) : Type 0 where
  pub thread : row.0 < 2 ^ 32
  pub some : 0 < row.1
  pub turns : row.1 < 2 ^ 64

-- each entry's thread is less than the next one's
abbrev pub AreRising : List (ℕ × List ℕ) → Type 0
AreRising [] = Unit {0}
AreRising (e ∷ []) = Unit {0}
AreRising (e ∷ f ∷ entries) = (e.0 < f.0) × AreRising (f ∷ entries)

-- neighbouring rows have different threads
abbrev pub AreMaximal : List (ℕ × ℕ) → Type 0
AreMaximal [] = Unit {0}
AreMaximal (r ∷ []) = Unit {0}
AreMaximal (r ∷ s ∷ rows) = (r.0 ≢ s.0) × AreMaximal (s ∷ rows)

-- a failure's parts are in their ranges; of its line no least value is asked
pub record HasRanges (f : Failure) : Type 0 where
  pub line : f.line < 2 ^ 32
  pub function : is_identifier f.function ≡ true
  pub thread : f.thread < 2 ^ 32
  pub drawn : All IsDrawn f.inputs
  pub rising : AreRising f.inputs
  pub rows : All IsRow f.rows
  pub some : 0 < length f.rows
  pub maximal : AreMaximal f.rows

-- the failures that texts tell of
pub record IsTold (f : Failure) : Type 0 where
  pub first : 1 ≤ f.line
  pub ranges : HasRanges f
