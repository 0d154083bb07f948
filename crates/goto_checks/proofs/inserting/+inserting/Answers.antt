use Rattle.std.proofs.Common.{◌≡◌, ℕ, ◌+◌, List, [], ◌∷◌, drop, length, sym, ap, ◌∙◌, arith}
use Rattle.std.specs.Prelude.{reverse}
use Rattle.goto_prog.specs.declared.nodes.Node.{Node}
use Rattle.goto_prog.specs.Nodes.{Nodes, repeats, with_node, nodes_of}
use Rattle.goto_prog.proofs.NodeViews.{view_loop}
use Rattle.goto_checks.specs.Inserted.{widths, sums, total_of, inserted}
use Rattle.goto_checks.proofs.Extents.{sums_behind}
use Rattle.goto_checks.proofs.Making.{pushed, node_length}
use Rattle.goto_checks.proofs.inserting.+inserting.Goals as goal

pub insert_node-returns-in_ok-push-in-Loop-2-clause-made : goal.insert_node-returns-in_ok-push-in-Loop-2-clause-made
insert_node-returns-in_ok-push-in-Loop-2-clause-made t c =
    let l = c.in-Loop in
    let inner = c.in_ok-inner-in-Loop.inner in
    λ rest ws are made.
    (let ts = widths rest ws in
    let next : c.push.new.self ≡ sums (1 ∷ ts) = c.in_ok-push-in-Loop.ensures ∙ ap (λ (xs : List ℕ). (1 + total_of xs) ∷ xs) are in
    let body : nodes_of inner.items ≡ inserted (nodes_of l.nodes.items) (1 ∷ ts) =
    c.in_ok-inner-in-Loop.ensures.made (1 ∷ ts) next ∙ ap (λ ns. inserted (nodes_of ns) (1 ∷ ts)) c.deref.ensures.value in
    ap (λ xs. nodes_of (reverse xs)) c.in_ok-push-in-Loop-2.ensures.items
    ∙ pushed c.args.made.now.items _
    ∙ view_loop l.line l.function l.number l.rotated inner (nodes_of (reverse c.args.made.now.items))
    ∙ (λ k. repeats l.line l.function l.number l.rotated (body k) (made k))
    ∙ sym (ap (λ (x : Nodes). inserted x ws) (ap (λ (n : Node). with_node n rest) l.is ∙ view_loop l.line l.function l.number l.rotated l.nodes rest)))

pub insert_nodes-returns-clause-same : goal.insert_nodes-returns-clause-same
insert_nodes-returns-clause-same t c =
    let ns = c.args.nodes.now in
    λ ws are.
    (let none : c.loop-place.place ≡ 0 = omega (arith, c.loop-place-test.false) in
    let so_far : c.loop-place.totals ≡ sums (widths (nodes_of ns) ws) = (c.loop-place.invariant ws are).1 ∙ ap (λ n. sums (widths (nodes_of (drop n ns)) ws)) none in
    c.leave.ensures
    ∙ ap (λ (xs : List ℕ). drop (length ns) xs) so_far
    ∙ ap (λ n. drop n (sums (widths (nodes_of ns) ws))) (sym (node_length ns))
    ∙ sums_behind (nodes_of ns) ws ∙ sym are)
