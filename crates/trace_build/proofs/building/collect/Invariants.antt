use Rattle.word_dag.specs.Meaning.{valuation_of}
use Rattle.trace_build.proofs.Walks.{Walking}
use Rattle.trace_build.proofs.building.collect.Given as goal

-- the store that is there is the one behind the events before
abbrev pub invariant-walking : goal.invariant-walking
invariant-walking l = Walking (valuation_of l.values.valuation.now) l.values.dag.now l.form l.walk l.event-index
