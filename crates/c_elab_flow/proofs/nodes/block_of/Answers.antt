use Rattle.std.proofs.Common.{Ok, sym, ap, ◌∙◌}
use Rattle.core_tree.specs.declared.statement.CoreStatement.{CoreStatement}
use Rattle.core_tree.specs.Trees.{view_statement}
use Rattle.core_tree.specs.Trees as cores
use Rattle.core_tree.proofs.Views.{view_block}
use Rattle.c_elab_flow.proofs.nodes.block_of.Goals as goal

pub returns : goal.returns
returns c = λ s.
    ap (λ (k : cores.Statement). Ok (k, s)) (sym (view_block c.args.items))
    ∙ ap (λ (b : CoreStatement). Ok (view_statement b, s)) (sym c.in_ok-new.ensures.ok)
