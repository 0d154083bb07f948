use Rattle.std.proofs.Common.{◌≡◌, length}
use Rattle.cdcl_core.specs.Spare.{AreSatisfied, AreOffBelow}
use Rattle.cdcl_core.proofs.search.Search.satisfied.Given as goal

abbrev pub invariant-loop-number : goal.invariant-loop-number
invariant-loop-number l = record {
  count : length l.marks.items ≡ l.number;
  true_ : AreSatisfied l.self.trail.steps l.self.clauses l.marks.items;
  stay : AreOffBelow l.first l.marks.items;
}
