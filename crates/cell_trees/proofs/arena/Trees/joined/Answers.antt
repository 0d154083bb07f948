use Rattle.std.proofs.Common.{ap, ◌++◌, ◌∷◌, [], ◌∙◌}
use Rattle.cell_trees.specs.Trees.{Arena}
use Rattle.cell_trees.proofs.Kept.{keeps_pushed}
use Rattle.cell_trees.proofs.arena.Trees.joined.Goals as goal

pub returns-clause-keeps : goal.returns-clause-keeps
returns-clause-keeps c =
    keeps_pushed c.args.self.now _ (record { lower = c.args.lower; upper = c.args.upper }) (ap (λ (t : Arena). t.depth) c.self.view_is)
    (c.in_ok-push.ensures.items ∙ ap (λ (t : Arena). t.forks ++ record { lower = c.args.lower; upper = c.args.upper } ∷ []) c.self.view_is)
