use Rattle.std.proofs.Common.{List, length, take}
use Rattle.sat_form.specs.Satisfaction.{Form, Literal}
use Rattle.sat_form.specs.Databases.{numbered_clauses}
use Rattle.cdcl_core.specs.Spare.{AreSpare, AreOffBelow}
use Rattle.cdcl_core.specs.SegmentEnds.{AreKept}
use Rattle.cdcl_core.specs.Stores.{unmarked}
use Rattle.cdcl_core.proofs.Ongoing.{Forgets}
use Rattle.cdcl_core.proofs.segments.delete.Given as goal

abbrev pub invariant-loop-place : goal.invariant-loop-place
invariant-loop-place l =
    (form : Form) (clauses : List (List Literal)) → AreSpare clauses l.spare → AreOffBelow (length form.clauses) l.spare → AreKept form clauses l.numbers l.fn.log →
    Forgets form clauses l.spare l.numbers (length (numbered_clauses form.clauses l.fn.log)) l.log (unmarked (take l.place l.spare) (take l.place clauses)) (unmarked (take l.place l.spare) (take l.place l.numbers)) l.place
