use Rattle.std.proofs.Common.{List, sym, subst}
use Rattle.c_pre.specs.declared.known.Node.{Node}
use Rattle.c_pre.specs.Known.{Forest}
use Rattle.c_pre.proofs.noting.link_for.Goals as goal

pub link_to-requires-clause-forest : goal.link_to-requires-clause-forest
link_to-requires-clause-forest c = subst (λ (xs : List Node). Forest xs) (sym c.deref-in-Some.ensures.value) c.requires.forest
