use Rattle.std.proofs.Common.{◌∙◌, ◌+◌, ◌-◌, ◌++◌, length, take, drop, ap, arith}
use Rattle.guarded_ssa.proofs.PartLists.{cut_all}
use Rattle.guarded_ssa.proofs.PartNodes.{placing_none, placing_more, placing_bytes}
use Rattle.guarded_ssa.proofs.parts.put.Goals as goal

pub parts-init : goal.parts-init
parts-init c = placing_none c.args.dag.now c.args.block.now c.args.new.now _ c.args.offset c.requires.block (c.in_ok-bytes.ensures.items_if_clones_equal (λ y h e. e))

pub parts-preserved : goal.parts-preserved
parts-preserved c =
    let bytes = c.parts.bytes.items in
    let at = c.parts.at in
    let size = c.min-size.result in
    let start = c.min-start.result in
    let now = c.deref.result.now in
    placing_more c.args.dag.now c.parts.dag c.update.new.dag c.args.block.now c.args.new.now bytes (take (at + size - at) (drop at c.args.new.now)) c.in_ok-rest.rest.items (take (length now - start) (drop start now)) c.replace_from.new.block.items c.args.offset at size start (at + size) c.requires.new c.requires.offset.there
    c.parts.invariant (omega (arith, c.min-start.ensures, c.len.ensures)) (ap (λ n. take n (drop at c.args.new.now)) (omega arith)) (omega (arith, c.min-size.ensures)) (cut_all start now ∙ ap (drop start) c.deref.ensures.value) c.update.ensures.extends c.in_ok-rest.ensures.bytes c.in_ok-rest.ensures.values c.in_ok-rest.ensures.length
    (c.replace_from.ensures ∙ ap (λ ids. take start bytes ++ ids) c.deref-in-parts.ensures.value) (omega arith)

pub returns-clause-made : goal.returns-clause-made
returns-clause-made c = placing_bytes c.args.dag.now c.parts.dag c.args.block.now c.args.new.now c.parts.bytes.items c.args.offset c.parts.at c.parts.invariant (omega (arith, c.parts-test.false))
