use Rattle.std.proofs.Common.{arith, refl}
use Rattle.object_memory.proofs.ReadWords.{making_none, making_more, making_all}
use Rattle.object_memory.proofs.reading.zero_words.Goals as goal

pub making-init : goal.making-init
making-init c = making_none c.args.dag.now c.args.count c.new-words.result.items c.new-words.ensures.items

pub making-preserved : goal.making-preserved
making-preserved c =
    making_more c.args.dag.now c.making.dag c.make.new.self c.args.count c.making.words.items c.push.new.self.items c.in_ok-word.word c.making.at c.min-size.result _ c.making.invariant c.making-test.true (omega (arith, c.min-size.ensures)) refl c.make.ensures.extends
    (record { there = c.in_ok-word.ensures.made.there; width_is = c.in_ok-word.ensures.made.width_is }) c.in_ok-push.ensures.items

pub returns-clause-words : goal.returns-clause-words
returns-clause-words c = making_all c.args.dag.now c.making.dag c.args.count c.making.words.items c.making.at (omega arith) c.making.invariant
