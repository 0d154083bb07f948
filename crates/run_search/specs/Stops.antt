-- What the code's reasons for not going on say.
use Rattle.std.specs.Prelude.{◌≡◌, Some}
use Rattle.core_tree.specs.Trees.{TypedFile}
use Rattle.core_tree.specs.Ranges.{Limits}
use Rattle.core_tree.specs.declared.refusal.Limit.{Limit}
use Rattle.goto_unwind.specs.Counts.{passed}
use Rattle.run_search.specs.Answers.{Answer, limited, refused}
use Rattle.run_search.specs.declared.stop.Stop.{Stop}
use Rattle.run_search.specs.declared.stop.Stop.TheVariants as stops

-- the answer that a stop is, is one of these; want of memory may come at any moment
abbrev pub StopsWith : Stop → (Answer → Type 0) → Type 0
StopsWith (stops.Refused r) allowed = allowed (refused r)
StopsWith (stops.Limited l) allowed = allowed (limited l)
StopsWith stops.Memory allowed = Unit {0}

-- a count passes its limit
abbrev pub IsPassed : Limits → TypedFile → Answer → Type 0
IsPassed limits core answer = (limit : Limit) × (passed core limits ≡ Some limit) × (answer ≡ limited limit)
