use Rattle.std.proofs.Common.{ap, sym, ◌∙◌, w64, int_lt, pos}
use Rattle.std.proofs.lemmas.Int.{to_z-of_z}
use Rattle.value_nodes.proofs.Reaching.{same_way}
use Rattle.value_nodes.proofs.pointer_checks.turned.Goals as goal

pub returns-clause-made : goal.returns-clause-made
returns-clause-made c = same_way c.args.dag.now c.args.negative c.args.step c.nodes.ensures.ordered (ap (λ z. int_lt z (pos 0)) (sym (to_z-of_z w64 c.args.step c.ranges.step)) ∙ c.if-step-lt0.false) c.requires
