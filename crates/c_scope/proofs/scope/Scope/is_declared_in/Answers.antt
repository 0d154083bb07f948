use Rattle.std.proofs.Common.{ℕ, Option, sym, ap, ◌∙◌}
use Rattle.c_scope.proofs.Bindings.{is_from, declared_from}
use Rattle.c_scope.proofs.scope.Scope.is_declared_in.Goals as goal

pub returns-in-Some : goal.returns-in-Some
returns-in-Some c = ap (λ (o : Option ℕ). is_from c.args.outer o) c.in-Some.ensures.is ∙ sym (declared_from c.args.tags c.args.self.now.bindings c.args.name.now c.args.outer c.requires)

pub returns-in-None : goal.returns-in-None
returns-in-None c = ap (λ (o : Option ℕ). is_from c.args.outer o) c.in-None.ensures.is ∙ sym (declared_from c.args.tags c.args.self.now.bindings c.args.name.now c.args.outer c.requires)
