use Rattle.std.proofs.Common.{◌≡◌, ◌++◌, map, drop}
use Rattle.word_dag.specs.Meaning.{value, valuation_of}
use Rattle.trace_build.proofs.values.Values.bytes.Given as goal

abbrev pub invariant-loop-id : goal.invariant-loop-id
invariant-loop-id l = l.bytes.items ++ map (value (valuation_of l.self.valuation.now) l.self.dag.now) (drop l.id-index l.ids) ≡ map (value (valuation_of l.self.valuation.now) l.self.dag.now) l.ids
