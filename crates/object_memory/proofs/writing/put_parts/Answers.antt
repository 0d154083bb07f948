use Rattle.std.proofs.Common.{◌≡◌, ◌+◌, ◌-◌, take, drop, ap, arith, refl}
use Rattle.object_memory.proofs.Puts.{putting_none, putting_more, putting_all}
use Rattle.object_memory.proofs.writing.put_parts.Goals as goal

pub writing-init : goal.writing-init
writing-init c = putting_none c.args.dag.now c.args.block.now.items c.args.bytes.now c.args.offset.now.offset c.requires.block

pub writing-preserved : goal.writing-preserved
writing-preserved c =
    let count : c.writing.at + c.min-size.result - c.writing.at ≡ c.min-size.result = omega arith in
    putting_more c.args.dag.now c.writing.dag c.put_part.new.dag c.args.block.now.items c.args.bytes.now _ c.args.offset.now.offset c.args.offset.now c.writing.block.items c.put_part.new.block.items c.writing.at c.min-size.result _ c.requires.bytes c.requires.offset.offset.there refl c.writing.invariant c.writing-test.true
    (omega (arith, c.min-size.ensures)) refl (ap (λ n. take n (drop c.writing.at c.args.bytes.now)) count) c.put_part.ensures.extends c.in_ok-put_part.ensures.block c.in_ok-put_part.ensures.length c.in_ok-put_part.ensures.values

pub returns-clause-values : goal.returns-clause-values
returns-clause-values c = putting_all c.args.dag.now c.writing.dag c.args.block.now.items c.args.bytes.now c.args.offset.now.offset c.writing.block.items c.writing.at (omega arith) c.writing.invariant
