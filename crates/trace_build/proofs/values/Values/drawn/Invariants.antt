use Rattle.std.proofs.Common.{◌≡◌, ◌-◌, ◌*◌, ◌++◌, map, drop}
use Rattle.c_values.specs.Variables.{word_count}
use Rattle.word_dag.specs.Meaning.{value, valuation_of}
use Rattle.trace_build.specs.Walking.{cut_words}
use Rattle.trace_build.proofs.values.Values.drawn.Given as goal

abbrev pub invariant-loop-i : goal.invariant-loop-i
invariant-loop-i l =
    l.words.items ++ cut_words (word_count l.size - l.i) l.size (8 * l.i) (drop l.i (map (value (valuation_of l.self.valuation.now) l.self.dag.now) l.ids))
    ≡ cut_words (word_count l.size) l.size 0 (map (value (valuation_of l.self.valuation.now) l.self.dag.now) l.ids)
