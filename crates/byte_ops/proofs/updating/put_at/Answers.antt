use Rattle.std.proofs.Common.{◌≤◌, ◌+◌, ◌-◌, List, length, take, drop, map, refl, sym, ap, subst, ◌∙◌, arith}
use Rattle.std.proofs.lemmas.List.{length-take-le}
use Rattle.word_dag.specs.declared.nodes.Id.{Id}
use Rattle.word_dag.specs.Meaning.{value}
use Rattle.value_nodes.specs.Values.{AreBytes}
use Rattle.byte_ops.proofs.Writing.{placed_bytes, placed_values, ends_at}
use Rattle.byte_ops.proofs.updating.put_at.Goals as goal

pub returns-clause-block : goal.returns-clause-block
returns-clause-block c =
    placed_bytes c.args.dag.now c.chosen_bytes.new.dag c.args.block.now.items c.deref-2.result.now c.put_in.new.block.items c.args.test.at c.chosen_bytes.ensures.extends c.requires.block (subst (AreBytes c.chosen_bytes.new.dag) (sym c.deref-2.ensures.value) c.in_ok-new.ensures.bytes)
    c.put_in.ensures

pub returns-clause-values : goal.returns-clause-values
returns-clause-values c =
    let few : c.min-count.result ≤ length c.args.bytes.now = omega (arith, c.min-count.ensures) in
    let fits : c.args.test.at + c.min-count.result ≤ length c.args.block.now.items = omega (arith, c.min-count.ensures, c.if-test-limit.false, c.requires.limit) in
    placed_values c.args.dag.now c.chosen_bytes.new.dag c.args.block.now.items c.args.bytes.now _ _ c.deref-2.result.now c.put_in.new.block.items c.args.offset c.args.test c.args.limit (c.args.test.at + c.min-count.result - c.args.test.at) c.min-count.result c.chosen_bytes.ensures.extends c.requires.block
    c.requires.test c.if-test-limit.false c.requires.limit few fits (ends_at (length c.args.bytes.now) (length c.args.block.now.items) c.len.result c.args.test.at c.min-count.result (omega (arith, c.len.ensures)) c.min-count.ensures) refl (ap (λ (xs : List Id). take (c.args.test.at + c.min-count.result - c.args.test.at) (drop c.args.test.at xs)) c.deref.ensures.value) (omega arith)
    (ap length c.deref-2.ensures.value ∙ c.in_ok-new.ensures.same ∙ length-take-le c.min-count.result c.args.bytes.now few) c.put_in.ensures (λ v. ap (map (value v c.chosen_bytes.new.dag)) c.deref-2.ensures.value ∙ c.in_ok-new.ensures.values v)
