use Rattle.std.proofs.Common.{◌∙◌, sym, arith}
use Rattle.value_nodes.proofs.Conversions.{made_narrower, made_signed, made_wider}
use Rattle.value_nodes.proofs.numbers.converted.Goals as goal

pub returns-then-width-clause-made : goal.returns-then-width-clause-made
returns-then-width-clause-made c =
    made_narrower c.args.dag.now _ c.args.a _ c.args.from c.args.to _ c.width-then-width.ensures.is c.nodes.ensures.ordered (sym c.is_bool.ensures ∙ c.if-is_bool.false) c.requires
    (omega arith) c.in_ok-id-2.ensures.made

pub returns-then-is_signed-clause-made : goal.returns-then-is_signed-clause-made
returns-then-is_signed-clause-made c =
    made_signed c.args.dag.now _ c.args.a _ c.args.from c.args.to _ c.width-then-is_signed.ensures.is (sym c.is_bool.ensures ∙ c.if-is_bool.false) (sym c.is_signed.ensures ∙ c.if-is_signed.true) c.requires
    c.in_ok-id-3.ensures.made

pub returns-clause-made : goal.returns-clause-made
returns-clause-made c =
    made_wider c.args.dag.now _ c.args.a _ c.args.from c.args.to _ c.width-3.ensures.is c.nodes.ensures.ordered (sym c.is_bool.ensures ∙ c.if-is_bool.false) (sym c.is_signed.ensures ∙ c.if-is_signed.false)
    (omega arith) c.requires c.in_ok-id-4.ensures.made
