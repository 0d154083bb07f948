-- The lines of a failure text.
use Rattle.std.specs.Prelude.{◌≡◌, ◌<◌, ◌≤◌, ◌^◌, ℕ, Bool, true, false, List, ◌++◌, length, Some, All, codes}
use Rattle.std.specs.BTreeMap.{insert_entry}
use Rattle.std.specs.Fmt.{decimal}
use Rattle.std.specs.Ordering.{nat_cmp}
use Rattle.words.specs.declared.check.Class.{Class}
use Rattle.report.specs.Identifiers.{is_identifier}
use Rattle.report.specs.Report.{generated_lines, file_line, assertions_lines, check_line, inputs_line, schedule_line, line_of, IsFileName, IsDrawn, IsRow, AreMaximal}
use Rattle.report.specs.declared.lines.Line.{Line as CodeLine}
use Rattle.report.specs.declared.lines.Line.TheVariants as lines
use Rattle.report.specs.declared.lines.Place.{Place}
use Rattle.report.specs.declared.lines.Place.TheVariants as places

pub data Line : Type 0 where
  generated : (threads bytes : ℕ) → Line
  file : (name : List ℕ) (unwind : ℕ) → Line
  off : Line
  violated : (class : Class) (line : ℕ) (function : List ℕ) (thread : ℕ) → Line
  inputs : (thread : ℕ) (words : List ℕ) → Line
  schedule : (rows : List (ℕ × ℕ)) → Line
  failed : Line

-- a line, with its newline
abbrev pub line_text : Line → List ℕ
line_text (generated threads bytes) = generated_lines (Some (threads, bytes))
line_text (file name unwind) = file_line name unwind
line_text off = assertions_lines false
line_text (violated class line function thread) = check_line class line function thread
line_text (inputs thread words) = inputs_line (thread, words)
line_text (schedule rows) = schedule_line rows
line_text failed = line_of (codes "VERIFICATION FAILED")

-- the values that a line has are in their ranges
abbrev pub IsLine : Line → Type 0
IsLine (generated threads bytes) = (threads < 2 ^ 32) × (bytes < 2 ^ 32)
IsLine (file name unwind) = IsFileName name × (1 ≤ unwind) × (unwind ≤ 1000)
IsLine off = Unit {0}
IsLine (violated class line function thread) = (1 ≤ line) × (line < 2 ^ 32) × (is_identifier function ≡ true) × (thread < 2 ^ 32)
IsLine (inputs thread words) = IsDrawn (thread, words)
IsLine (schedule rows) = All IsRow rows × (0 < length rows) × AreMaximal rows
IsLine failed = Unit {0}

-- this line may stand behind that one, or at the start
abbrev pub MayStand : Place → Line → Type 0
MayStand places.Start (generated threads bytes) = Unit {0}
MayStand places.Start (file name unwind) = Unit {0}
MayStand (places.Generated threads) (file name unwind) = name ≡ codes "generated-" ++ decimal threads
MayStand places.File off = Unit {0}
MayStand places.File (violated class line function thread) = Unit {0}
MayStand places.Off (violated class line function thread) = Unit {0}
MayStand places.Violated (inputs thread words) = Unit {0}
MayStand places.Violated (schedule rows) = Unit {0}
MayStand (places.Inputs last) (inputs thread words) = last < thread
MayStand (places.Inputs last) (schedule rows) = Unit {0}
MayStand places.Schedule failed = Unit {0}
MayStand place line = ⊥

-- the place behind a line
abbrev pub place_after : Line → Place
place_after (generated threads bytes) = places.Generated threads
place_after (file name unwind) = places.File
place_after off = places.Off
place_after (violated class line function thread) = places.Violated
place_after (inputs thread words) = places.Inputs thread
place_after (schedule rows) = places.Schedule
place_after failed = places.Failed

-- the line that the code has
abbrev pub told_line : CodeLine → Line
told_line (lines.Generated threads bytes) = generated threads bytes
told_line (lines.File name unwind) = file name.now unwind
told_line lines.Off = off
told_line (lines.Violated class line function thread) = violated class line function.now thread
told_line (lines.Inputs thread words) = inputs thread words.items
told_line (lines.Schedule rows) = schedule rows
told_line lines.Failed = failed

-- what the lines of a failure text tell
pub record Parts : Type 0 where
  pub name : List ℕ
  pub unwind : ℕ
  pub assertions : Bool
  pub class : Class
  pub line : ℕ
  pub function : List ℕ
  pub thread : ℕ
  pub inputs : List (ℕ × List ℕ)
  pub rows : List (ℕ × ℕ)

-- what is told with one more line
abbrev pub with_line : Parts → Line → Parts
with_line p (generated threads bytes) = p
with_line p (file name unwind) = record p { name = name; unwind = unwind }
with_line p off = record p { assertions = false }
with_line p (violated class line function thread) = record p { class = class; line = line; function = function; thread = thread }
with_line p (inputs thread words) = record p { inputs = insert_entry nat_cmp p.inputs thread words }
with_line p (schedule rows) = record p { rows = rows }
with_line p failed = p
