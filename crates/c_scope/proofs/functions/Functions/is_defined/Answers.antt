use Rattle.std.proofs.Common.{ap, ◌∙◌}
use Rattle.c_scope.specs.Scopes.{FunctionTable, is_defined}
use Rattle.c_scope.proofs.Links.{among_keys}
use Rattle.c_scope.proofs.functions.Functions.is_defined.Goals as goal

pub returns : goal.returns
returns c = c.contains.ensures ∙ among_keys c.self.inside.defined.keys c.args.name.now ∙ ap (λ (t : FunctionTable). is_defined t c.args.name.now) c.self.view_is
