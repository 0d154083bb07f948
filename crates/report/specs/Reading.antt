-- What a text that is read back tells.
use Rattle.std.specs.Prelude.{◌≡◌, ◌<◌, ◌≤◌, ◌+◌, ℕ, Bool, true, not, ◌&&◌, ◌==◌, List, [], ◌∷◌, ◌++◌, length, take, All}
use Rattle.std.specs.List.{flat_map}
use Rattle.report.specs.Report.{Head, Failure, IsHead, IsTold, failure_text, line_of}
use Rattle.report.specs.declared.reading.TraceText.{TraceText}
use Rattle.report.specs.declared.reading.TraceError.{TraceError}
use Rattle.report.specs.declared.reading.TraceError.TheVariants as errors

-- ---- a failure text

-- the text is that of a failure, and what was read is what it tells
pub record IsReading (text : List ℕ) (t : TraceText) : Type 0 where
  pub head : Head
  pub failure : Failure
  pub is_head : IsHead head
  pub is_told : IsTold failure
  pub whole : text ≡ failure_text head failure
  pub name : t.name.bytes.items ≡ head.name
  pub unwind : t.unwind ≡ head.unwind
  pub assertions : t.assertions ≡ head.assertions
  pub class : t.class ≡ failure.class
  pub line : t.line ≡ failure.line
  pub function : t.function.bytes.items ≡ failure.function
  pub thread : t.thread ≡ failure.thread
  pub inputs : t.inputs ≡ failure.inputs
  pub schedule : t.schedule ≡ failure.rows

-- the text is that of a failure
pub record IsFailureText (text : List ℕ) : Type 0 where
  pub head : Head
  pub failure : Failure
  pub is_head : IsHead head
  pub is_told : IsTold failure
  pub whole : text ≡ failure_text head failure

-- ---- the line of a text that is none

-- none of the bytes is a newline
abbrev pub has_no_newline : List ℕ → Bool
has_no_newline [] = true
has_no_newline (c ∷ cs) = not (c == 10) && has_no_newline cs

-- The lines of a text: each ends with a newline. What stands behind the last newline is no line.
pub record HasLines (text : List ℕ) (lines : List (List ℕ)) : Type 0 where
  pub rest : List ℕ
  pub whole : text ≡ flat_map line_of lines ++ rest
  pub each : All (λ line. has_no_newline line ≡ true) lines
  pub last : has_no_newline rest ≡ true

-- a failure text begins with these lines
pub record CanBegin (lines : List (List ℕ)) : Type 0 where
  pub head : Head
  pub failure : Failure
  pub is_head : IsHead head
  pub is_told : IsTold failure
  pub more : List ℕ
  pub whole : failure_text head failure ≡ flat_map line_of lines ++ more

-- The first line such that no failure text begins with the lines up to it. Where there is no such line, the number after the
-- last line's. Lines are numbered from 1.
pub record IsBadLine (text : List ℕ) (line : ℕ) : Type 0 where
  pub lines : List (List ℕ)
  pub are_lines : HasLines text lines
  pub first : 1 ≤ line
  pub last : line ≤ length lines + 1
  pub before : (k : ℕ) → k < line → CanBegin (take k lines)
  pub here : line ≤ length lines → CanBegin (take line lines) → ⊥

-- why a text isn't read
abbrev pub IsFault : List ℕ → TraceError → Type 0
IsFault text (errors.BadTrace line) = (IsFailureText text → ⊥) × IsBadLine text line
IsFault text errors.Memory = Unit {0}
