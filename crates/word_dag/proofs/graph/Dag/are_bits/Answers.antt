use Rattle.std.proofs.Common.{ap, ◌∙◌, arith}
use Rattle.word_dag.specs.Meaning.{widths}
use Rattle.word_dag.proofs.Places.{bits_tested}
use Rattle.word_dag.proofs.graph.Dag.are_bits.Goals as goal

pub returns : goal.returns
returns c = bits_tested _ _ c.args.first c.args.count _ (c.deref.ensures.value ∙ c.self.invariant.1 ∙ ap widths c.self.view_is) (omega (arith, c.if-length-count.false, c.if-length-count-2.false, c.len-length.ensures, c.deref.ensures.len)) c.are_ones.ensures
