use Rattle.c_pre.proofs.Trees.{behind_self, jump_of_jump}
use Rattle.c_pre.proofs.noting.jump_from.Goals as goal

pub returns-then-saturating_sub : goal.returns-then-saturating_sub
returns-then-saturating_sub c =
    jump_of_jump c.args.nodes.now c.args.parent c.link_at-link.result c.link_at-near.result c.requires.forest c.requires.within c.link_at-link.ensures c.link_at-near.ensures

pub returns-else-saturating_sub : goal.returns-else-saturating_sub
returns-else-saturating_sub c = behind_self c.args.nodes.now c.args.parent
