-- Classes of checks by their names.
use Rattle.std.specs.Prelude.{ℕ, List, Option, find}
use Rattle.std.specs.Str.{bytes_eq}
use Rattle.words.specs.declared.check.Class.{Class}
use Rattle.report.specs.Report.{class_name}
use Rattle.report.specs.declared.lines.TheConstants.{CLASSES}

-- the class with this name, by the program's table
abbrev pub class_of : List ℕ → Option Class
class_of name = find (λ class. bytes_eq (class_name class) name) CLASSES
