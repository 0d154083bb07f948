use Rattle.std.proofs.Common.{ap, ◌∙◌, arith}
use Rattle.c_tree.specs.declared.declaration.Parameter.{Parameter}
use Rattle.c_parse_parts.proofs.DeclaredNames.{with_parameter, parameters_more}
use Rattle.c_parse_parts.proofs.declared.declare_parameters.Goals as goal

pub loop-parameter-preserved : goal.loop-parameter-preserved
loop-parameter-preserved c =
    parameters_more c.args.names.now c.loop-parameter.names c.declare_parameter.new.names c.args.parameters.now c.loop-parameter.parameter-index c.parameter-item.result (omega arith) c.loop-parameter.invariant
    (c.in_ok-declare_parameter.ensures ∙ ap (λ (p : Parameter). with_parameter c.loop-parameter.names p) c.parameter-item.is)
