use Rattle.std.proofs.Common.{ap, ◌∙◌}
use Rattle.c_scope.specs.Scopes.{Scoped, linked_to}
use Rattle.c_scope.proofs.Links.{linked_by}
use Rattle.c_scope.proofs.scope.Scope.linked.Goals as goal

pub returns-in-Some : goal.returns-in-Some
returns-in-Some c =
    c.in-Some.ensures.value ∙ linked_by c.args.name.now c.self.inside.linked.entries ∙ ap (λ (s : Scoped). linked_to s.linked c.args.name.now) c.self.view_is

pub returns-in-None : goal.returns-in-None
returns-in-None c =
    c.in-None.ensures.value ∙ linked_by c.args.name.now c.self.inside.linked.entries ∙ ap (λ (s : Scoped). linked_to s.linked c.args.name.now) c.self.view_is
