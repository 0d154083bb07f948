use Rattle.std.proofs.Common.{◌≡◌, ℕ, List, get_or, ap, ◌∙◌, arith}
use Rattle.word_dag.specs.declared.nodes.Node.{Node}
use Rattle.rewritten_nodes.specs.Images.{over}
use Rattle.rewritten_nodes.proofs.Fitted.{list_at}
use Rattle.rewritten_nodes.proofs.Standing.{next_fits, next_width, next_value, list_fits, list_width, list_value, variable_width, variable_value}
use Rattle.rewritten_nodes.proofs.known.Known.next.Goals as goal

read_at : (d : List Node) (n : Node) (i j : ℕ) → n ≡ get_or d i n → i ≡ j → n ≡ get_or d j n
read_at d n i j at is = at ∙ ap (λ k. get_or d k n) is

pub returns-in-Some-clause-width : goal.returns-in-Some-clause-width
returns-in-Some-clause-width c =
    variable_width c.args.dag.now c.args.self.now c.node-node.result c.nodes.ensures.ordered c.requires.within c.requires.more (read_at c.args.dag.now c.node-node.result _ _ c.node-node.ensures (omega (arith, c.len.ensures, c.args.self.now.ids.ok.0))) c.in-Some.known c.in-Variable.variable c.in-Variable.width c.in-Variable.is c.in-Some.ensures.width

pub returns-in-Some-clause-value : goal.returns-in-Some-clause-value
returns-in-Some-clause-value c =
    variable_value c.args.dag.now c.args.self.now c.node-node.result c.nodes.ensures.ordered c.requires.within c.requires.more (read_at c.args.dag.now c.node-node.result _ _ c.node-node.ensures (omega (arith, c.len.ensures, c.args.self.now.ids.ok.0))) c.in-Some.known c.in-Variable.variable c.in-Variable.width c.in-Variable.is c.in-Some.ensures.value

pub simplified-requires : goal.simplified-requires
simplified-requires c =
    next_fits c.args.dag.now c.args.self.now c.node-node.result c.nodes.ensures.ordered c.requires.within c.requires.more (read_at c.args.dag.now c.node-node.result _ _ c.node-node.ensures (omega (arith, c.len.ensures, c.args.self.now.ids.ok.0))) c.over-other.result (c.over-other.ensures ∙ ap (λ ids. over ids c.node-node.result) c.deref-2.ensures.value)

pub returns-clause-width : goal.returns-clause-width
returns-clause-width c =
    next_width c.args.dag.now c.args.self.now c.node-node.result c.nodes.ensures.ordered c.requires.within c.requires.more (read_at c.args.dag.now c.node-node.result _ _ c.node-node.ensures (omega (arith, c.len.ensures, c.args.self.now.ids.ok.0))) c.simplified.new.dag c.over-other.result c.in_ok-made-2.made (c.over-other.ensures ∙ ap (λ ids. over ids c.node-node.result) c.deref-2.ensures.value)
    c.in_ok-made-2.ensures.made

pub returns-clause-value : goal.returns-clause-value
returns-clause-value c =
    next_value c.args.dag.now c.args.self.now c.node-node.result c.nodes.ensures.ordered c.requires.within c.requires.more (read_at c.args.dag.now c.node-node.result _ _ c.node-node.ensures (omega (arith, c.len.ensures, c.args.self.now.ids.ok.0))) c.simplified.new.dag c.over-other.result c.in_ok-made-2.made (c.over-other.ensures ∙ ap (λ ids. over ids c.node-node.result) c.deref-2.ensures.value)
    c.in_ok-made-2.ensures.made

pub images-requires : goal.images-requires
images-requires c = list_at c.args.dag.now _ c.node-node.result c.in-Quantify.quantifier c.in-Quantify.first c.in-Quantify.count c.nodes.ensures.ordered c.requires.more (read_at c.args.dag.now c.node-node.result _ _ c.node-node.ensures (omega (arith, c.len.ensures, c.args.self.now.ids.ok.0))) c.in-Quantify.is

pub quantify-requires : goal.quantify-requires
quantify-requires c = list_fits c.args.dag.now c.args.self.now c.node-node.result c.nodes.ensures.ordered c.requires.within c.requires.more (read_at c.args.dag.now c.node-node.result _ _ c.node-node.ensures (omega (arith, c.len.ensures, c.args.self.now.ids.ok.0))) c.in-Quantify.quantifier c.in-Quantify.first c.in-Quantify.count c.deref.result.now c.in-Quantify.is (c.deref.ensures.value ∙ c.in_ok-images.ensures)

pub returns-in-Quantify : goal.returns-in-Quantify
returns-in-Quantify c = record {
  extends = c.quantify.ensures.extends;
  there = c.in_ok-made.ensures.made.there;
  width = list_width c.args.dag.now c.args.self.now c.node-node.result c.nodes.ensures.ordered c.requires.within c.requires.more (read_at c.args.dag.now c.node-node.result _ _ c.node-node.ensures (omega (arith, c.len.ensures, c.args.self.now.ids.ok.0))) c.in-Quantify.quantifier c.in-Quantify.first c.in-Quantify.count c.deref.result.now c.in-Quantify.is (c.deref.ensures.value ∙ c.in_ok-images.ensures) c.quantify.new.self c.in_ok-made.made c.in_ok-made.ensures.made;
  value = list_value c.args.dag.now c.args.self.now c.node-node.result c.nodes.ensures.ordered c.requires.within c.requires.more (read_at c.args.dag.now c.node-node.result _ _ c.node-node.ensures (omega (arith, c.len.ensures, c.args.self.now.ids.ok.0))) c.in-Quantify.quantifier c.in-Quantify.first c.in-Quantify.count c.deref.result.now c.in-Quantify.is (c.deref.ensures.value ∙ c.in_ok-images.ensures) c.quantify.new.self c.in_ok-made.made c.in_ok-made.ensures.made;
}
