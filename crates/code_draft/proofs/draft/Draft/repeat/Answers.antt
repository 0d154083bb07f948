use Rattle.std.proofs.Common.{ap, ◌∙◌}
use Rattle.std.specs.Prelude.{reverse}
use Rattle.goto_prog.specs.Nodes.{repeats, nodes_of}
use Rattle.goto_prog.proofs.NodeViews.{view_loop}
use Rattle.code_draft.specs.Drafts.{Listed}
use Rattle.code_draft.proofs.Making.{pushed}
use Rattle.code_draft.proofs.draft.Draft.repeat.Goals as goal

pub returns : goal.returns
returns c =
    let rest = nodes_of (reverse c.args.made.now.items) in
    let here = ap (λ (d : Listed). d.frame.function) c.self.view_is in
    ap (λ xs. nodes_of (reverse xs)) c.in_ok-push.ensures.items
    ∙ pushed c.args.made.now.items _
    ∙ view_loop c.args.line c.self.inside.function c.args.number c.args.rotated c.reverse.new.self rest
    ∙ (λ i. repeats c.args.line (here i) c.args.number c.args.rotated (nodes_of (c.reverse.ensures.items i)) rest)
