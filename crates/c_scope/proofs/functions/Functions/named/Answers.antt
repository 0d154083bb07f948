use Rattle.std.proofs.Common.{ap, ◌∙◌}
use Rattle.c_scope.specs.Scopes.{FunctionTable, linked_to}
use Rattle.c_scope.proofs.Links.{linked_by}
use Rattle.c_scope.proofs.functions.Functions.named.Goals as goal

pub returns-in-Some : goal.returns-in-Some
returns-in-Some c =
    c.in-Some.ensures.value ∙ linked_by c.args.name.now c.self.inside.named.entries ∙ ap (λ (t : FunctionTable). linked_to t.named c.args.name.now) c.self.view_is

pub returns-in-None : goal.returns-in-None
returns-in-None c =
    c.in-None.ensures.value ∙ linked_by c.args.name.now c.self.inside.named.entries ∙ ap (λ (t : FunctionTable). linked_to t.named c.args.name.now) c.self.view_is
