use Rattle.std.proofs.Common.{arith}
use Rattle.value_nodes.proofs.Blocks.{storing_more, stored_all}
use Rattle.value_nodes.proofs.bytes.bytes_of_word.Goals as goal

pub loop-place-preserved : goal.loop-place-preserved
loop-place-preserved c =
    storing_more c.args.dag.now c.loop-place.dag _ c.loop-place.bytes.items _ c.args.a _ c.loop-place.place c.requires.word.there c.loop-place.invariant c.in_ok-id.ensures.extends c.in_ok-id.ensures.made
    c.in_ok-push.ensures.items

pub returns-clause-made : goal.returns-clause-made
returns-clause-made c =
    stored_all c.args.dag.now c.loop-place.dag c.loop-place.bytes.items c.args.a c.loop-place.place c.args.count c.args.width (omega (arith, c.loop-place-test.false, c.loop-place.auto.place-end)) c.requires.within c.requires.at_most_64
    c.loop-place.invariant
