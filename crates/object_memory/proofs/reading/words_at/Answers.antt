use Rattle.std.proofs.Common.{◌-◌, length, drop, arith, refl}
use Rattle.std.proofs.lemmas.List.{take_all, length-drop}
use Rattle.object_memory.proofs.ReadWords.{wording_none, wording_more, wording_values, making_all}
use Rattle.object_memory.proofs.reading.words_at.Goals as goal

pub reading-init : goal.reading-init
reading-init c = wording_none c.args.dag.now c.args.block.now c.args.offset.now.offset c.args.count c.new-words.result.items c.new-words.ensures.items

pub reading-preserved : goal.reading-preserved
reading-preserved c =
    wording_more c.args.dag.now c.reading.dag c.select_within.new.dag c.args.block.now _ c.args.offset.now c.args.count c.reading.words.items c.push.new.self.items c.in_ok-word.word c.reading.at c.min-size.result _ c.nodes.ensures.ordered c.requires.block c.requires.offset c.requires.count c.reading.invariant
    c.reading-test.true (omega (arith, c.min-size.ensures)) refl (take_all (length c.args.block.now - c.reading.at) (drop c.reading.at c.args.block.now) (omega (arith, length-drop c.reading.at c.args.block.now))) c.select_within.ensures.extends c.in_ok-word.ensures.word c.in_ok-word.ensures.made c.in_ok-push.ensures.items

pub returns-clause-words : goal.returns-clause-words
returns-clause-words c = making_all c.args.dag.now c.reading.dag c.args.count c.reading.words.items c.reading.at (omega arith) c.reading.invariant.making

pub returns-clause-values : goal.returns-clause-values
returns-clause-values c = wording_values c.args.dag.now c.reading.dag c.args.block.now c.args.offset.now.offset c.args.count c.reading.words.items c.reading.at (omega arith) c.reading.invariant
