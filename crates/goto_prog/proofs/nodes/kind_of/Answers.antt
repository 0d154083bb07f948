use Rattle.std.proofs.Common.{ap, sym, ◌∙◌}
use Rattle.goto_prog.specs.declared.nodes.Node.{Node}
use Rattle.goto_prog.specs.Nodes.{repeats, with_node, nodes_of}
use Rattle.goto_prog.proofs.NodeViews.{view_loop}
use Rattle.goto_prog.proofs.nodes.kind_of.Goals as goal

pub returns-in-Loop : goal.returns-in-Loop
returns-in-Loop c =
    let l = c.in-Loop in
    λ rest. ap (λ (n : Node). with_node n rest) l.is ∙ view_loop l.line l.function l.number l.rotated l.nodes rest
    ∙ ap (λ ns. repeats l.line l.function l.number l.rotated (nodes_of ns) rest) (sym c.as_slice.ensures.value)
