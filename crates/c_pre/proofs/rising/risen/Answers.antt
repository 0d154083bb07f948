use Rattle.c_pre.proofs.Trees.{behind_more, behind_within}
use Rattle.c_pre.proofs.rising.risen.Goals as goal

pub nearer-at-requires-clause-within : goal.nearer-at-requires-clause-within
nearer-at-requires-clause-within c = (behind_within c.args.nodes.now c.args.node c.loop.at c.requires.forest c.requires.within c.loop.invariant.behind).0

pub loop-preserved : goal.loop-preserved
loop-preserved c = record {
  behind = behind_more c.args.nodes.now c.args.node c.loop.at c.nearer-at.result c.requires.forest c.requires.within c.loop.invariant.behind c.nearer-at.ensures.behind;
  high = λ few. c.nearer-at.ensures.high;
}
