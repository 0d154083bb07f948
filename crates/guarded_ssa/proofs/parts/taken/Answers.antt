use Rattle.std.proofs.Common.{◌∙◌, ◌-◌, ◌++◌, length, take, drop, ap, refl, arith}
use Rattle.guarded_ssa.proofs.PartLists.{cut_all}
use Rattle.guarded_ssa.proofs.PartNodes.{taking_none, taking_more, taking_bytes, taking_size, rest_bytes}
use Rattle.guarded_ssa.proofs.parts.taken.Goals as goal

pub parts-init : goal.parts-init
parts-init c = taking_none c.args.dag.now c.args.block.now _ c.args.offset c.args.count c.in_ok-bytes.ensures.items

pub taken_word-requires-clause-block : goal.taken_word-requires-clause-block
taken_word-requires-clause-block c =
    let block = c.args.block.now in
    rest_bytes c.args.dag.now c.parts.dag block (take (length block - c.min.result) (drop c.min.result block)) c.min.result c.parts.invariant.extends c.requires.block (cut_all c.min.result block)

pub parts-preserved : goal.parts-preserved
parts-preserved c =
    let block = c.args.block.now in
    let start = c.min.result in
    taking_more c.args.dag.now c.parts.dag c.taken_word.new.dag block (take (length block - start) (drop start block)) c.parts.bytes.items c.in_ok-more.more.items _ c.args.offset c.parts.at _ c.args.count _ c.requires.block c.requires.offset.there c.parts.invariant
    (cut_all start block ∙ ap (λ n. drop n block) (omega (arith, c.min.ensures))) c.taken_word.ensures.extends c.in_ok-more.ensures.made (c.in_ok-extend_from_slice.ensures.items ∙ ap (λ ids. c.parts.bytes.items ++ ids) c.deref.ensures.value) refl (omega (arith, c.min-size.ensures))

pub returns-clause-made : goal.returns-clause-made
returns-clause-made c = taking_bytes c.args.dag.now c.parts.dag c.args.block.now c.parts.bytes.items c.args.offset c.parts.at c.args.count c.parts.invariant c.parts-test.false

pub returns-clause-size : goal.returns-clause-size
returns-clause-size c = taking_size c.args.dag.now c.parts.dag c.args.block.now c.parts.bytes.items c.args.offset c.parts.at c.args.count c.parts.invariant c.parts-test.false
