use Rattle.std.proofs.Common.{ap, sym, ◌∙◌}
use Rattle.words.specs.BitVector.{BitVector}
use Rattle.word_dag.proofs.Steps.{constant_read}
use Rattle.word_dag.proofs.graph.Dag.constant.Goals as goal

pub new-requires-clause-positive : goal.new-requires-clause-positive
new-requires-clause-positive c = (constant_read _ _ _ _ _ _ c.self.invariant.0 c.self.view_is c.requires c.index.ensures c.in-Constant.is).width_range.positive

pub new-requires-clause-at_most_64 : goal.new-requires-clause-at_most_64
new-requires-clause-at_most_64 c = (constant_read _ _ _ _ _ _ c.self.invariant.0 c.self.view_is c.requires c.index.ensures c.in-Constant.is).width_range.at_most_64

pub new-requires-clause-within : goal.new-requires-clause-within
new-requires-clause-within c = (constant_read _ _ _ _ _ _ c.self.invariant.0 c.self.view_is c.requires c.index.ensures c.in-Constant.is).within

pub returns-in-Constant-clause-width : goal.returns-in-Constant-clause-width
returns-in-Constant-clause-width c =
    ap (λ (w : BitVector). w.width) c.new.ensures.value
    ∙ sym (constant_read _ _ _ _ _ _ c.self.invariant.0 c.self.view_is c.requires c.index.ensures c.in-Constant.is).width_is

pub returns-in-Constant-clause-bits : goal.returns-in-Constant-clause-bits
returns-in-Constant-clause-bits c =
    λ v. (constant_read _ _ _ _ _ _ c.self.invariant.0 c.self.view_is c.requires c.index.ensures c.in-Constant.is).value_is v
    ∙ ap (λ (w : BitVector). w.bits) (sym c.new.ensures.value)
