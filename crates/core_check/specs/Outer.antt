-- What stands around a statement.
use Rattle.core_tree.specs.Standing.{Standing}
use Rattle.core_check.specs.declared.standing.Outer.{Outer}

abbrev pub standing_in : Outer → Standing
standing_in o = record { labels = o.labels; breaks = o.breaks; continues = o.continues; cases = o.cases }
