use Rattle.std.proofs.Common.{arith}
use Rattle.object_memory.proofs.ReadWords.{choosing_more, choosing_values, choosing_widths, pair_word}
use Rattle.object_memory.proofs.reading.chosen_all.Goals as goal

pub chosen-requires-clause-b : goal.chosen-requires-clause-b
chosen-requires-clause-b c = pair_word c.args.dag.now c.loop-i.dag c.args.first.now c.args.second.now c.loop-i.i _ _ c.loop-i.invariant.extends c.requires.first c.requires.second c.requires.widths c.loop-i-test.true

pub loop-i-preserved : goal.loop-i-preserved
loop-i-preserved c =
    choosing_more c.args.dag.now c.loop-i.dag c.chosen.new.dag c.args.test c.args.first.now c.args.second.now c.loop-i.ids.items _ _ c.loop-i.i _ _ c.requires.test c.requires.first c.requires.second c.requires.widths c.loop-i.invariant c.loop-i-test.true c.chosen.ensures.extends c.in_ok-id.ensures.made
    c.in_ok-push.ensures.items

pub returns-clause-widths : goal.returns-clause-widths
returns-clause-widths c = choosing_widths c.args.dag.now c.loop-i.dag c.args.test c.args.first.now c.args.second.now c.loop-i.ids.items c.loop-i.i (omega arith) c.loop-i.invariant

pub returns-clause-values : goal.returns-clause-values
returns-clause-values c = choosing_values c.args.dag.now c.loop-i.dag c.args.test c.args.first.now c.args.second.now c.loop-i.ids.items c.loop-i.i (omega arith) c.requires.widths c.loop-i.invariant
