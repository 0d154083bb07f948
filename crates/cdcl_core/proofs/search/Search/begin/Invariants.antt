use Rattle.std.proofs.Common.{◌≡◌, ℕ, ◌<◌, List, [], Some}
use Rattle.std.specs.Prelude.{slice_get}
use Rattle.sat_form.specs.Satisfaction.{Literal}
use Rattle.cdcl_core.specs.declared.watches.Pair.{Pair}
use Rattle.cdcl_core.specs.Going.{GoesOn}
use Rattle.cdcl_core.specs.Watched.{IsWatched, IsHeld}
use Rattle.cdcl_core.proofs.search.Search.begin.Given as goal

abbrev pub invariant-loop-number : goal.invariant-loop-number
invariant-loop-number l = record {
  same : l.self ≡ record l.fn.self { trail = l.self.trail };
  held : IsHeld l.fn.self.clauses l.self.trail l.fn.self.watches;
  on : GoesOn l.fn.self.trail l.self.trail;
  watched : (k : ℕ) (c : List Literal) (p : Pair) → k < l.number → slice_get l.fn.self.clauses k ≡ Some c → slice_get l.fn.self.watches.pairs.items k ≡ Some p → IsWatched [] l.self.trail.steps c p;
}
