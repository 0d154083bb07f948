use Rattle.std.proofs.Common.{ap, ◌%◌, ◌∙◌}
use Rattle.word_dag.specs.Meaning.{valuation_of}
use Rattle.trace_build.proofs.NodeWords.{is_byte}
use Rattle.trace_build.proofs.values.Values.byte.Goals as goal

pub returns : goal.returns
returns c = ap (λ n. n % 256) c.bits.ensures ∙ is_byte (valuation_of c.args.self.valuation.now) c.args.self.dag.now c.args.id c.nodes.ensures.ordered c.requires
