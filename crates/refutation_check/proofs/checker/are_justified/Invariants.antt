use Rattle.std.proofs.Common.{◌≡◌, ℕ, ◌<◌, length, take, get_or}
use Rattle.sat_form.specs.declared.logs.Entry.{Entry}
use Rattle.sat_form.specs.Databases.{added_clauses}
use Rattle.sat_form.specs.Refutation.{IsJustified}
use Rattle.refutation_check.proofs.checker.are_justified.Given as goal

abbrev pub invariant-loop-place : goal.invariant-loop-place
invariant-loop-place l = record {
  variables : l.set.variables ≡ l.fn.set.variables;
  added : l.added ≡ length (added_clauses (take l.place l.log));
  justified : (k : ℕ) (e : Entry) → k < l.place → IsJustified l.clauses (take k l.log) (get_or l.log k e);
}
