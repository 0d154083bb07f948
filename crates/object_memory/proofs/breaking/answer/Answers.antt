use Rattle.std.proofs.Common.{arith, refl}
use Rattle.object_memory.proofs.Broken.{asking_none, asking_more, asking_all}
use Rattle.object_memory.proofs.breaking.answer.Goals as goal

pub asking-init : goal.asking-init
asking-init c = asking_none c.args.dag.now c.constant_test.new.dag c.args.question c.args.places.now c.args.hits.now c.in_ok-id.id _ c.no_answer.result c.no_answer.ensures (omega arith) (omega arith) c.constant_test.ensures.extends c.in_ok-id.ensures.made

pub asking-preserved : goal.asking-preserved
asking-preserved c =
    asking_more c.args.dag.now c.asking.dag c.asked.new.dag c.chosen.new.dag c.args.question c.args.places.now c.args.hits.now _ _ c.index-places-hit.result c.index-places-hit.result c.in_ok-here.here c.asking.id c.in_ok-id-2.id c.asking.left _ c.requires.places c.requires.hits c.asking.invariant
    c.asking-test.true refl refl c.index-places-hit.is c.asked.ensures.extends c.chosen.ensures.extends c.in_ok-here.ensures.made c.in_ok-id-2.ensures.made

pub returns-clause-made : goal.returns-clause-made
returns-clause-made c = asking_all c.args.dag.now c.asking.dag c.args.question c.args.places.now c.args.hits.now c.asking.id c.asking.left (omega arith) c.asking.invariant
