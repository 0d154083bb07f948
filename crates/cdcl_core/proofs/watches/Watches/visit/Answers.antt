use Rattle.cdcl_core.proofs.Going.{GoesOn-refl}
use Rattle.cdcl_core.proofs.Watching.{AreVisited-start, AreVisited-end, IsFalsifiedAt-gone, room-falsified}
use Rattle.std.proofs.Common.{length, arith}
use Rattle.cdcl_core.proofs.watches.Watches.visit.Goals as goal

pub loop-at-init : goal.loop-at-init
loop-at-init c = (
  c.requires.held,
  GoesOn-refl c.args.trail.now,
  AreVisited-start c.args.trail.now.variables c.args.place c.args.literal c.args.clauses.now c.args.trail.now.steps c.args.self.now.pairs.items c.args.self.now.lists c.requires.held.listed
      c.requires.falsified c.requires.watched,
)

pub count-requires : goal.count-requires
count-requires c =
    room-falsified c.loop-at.trail.variables (length c.loop-at.self.lists) c.args.place c.loop-at.trail.steps c.args.literal c.loop-at.invariant.0.fresh
    (IsFalsifiedAt-gone c.args.place c.args.literal c.args.trail.now c.loop-at.trail c.loop-at.invariant.1 c.requires.falsified) c.loop-at.invariant.0.listed.room

pub look-requires-clause-falsified : goal.look-requires-clause-falsified
look-requires-clause-falsified c =
    IsFalsifiedAt-gone c.args.place c.args.literal c.args.trail.now c.loop-at.trail c.loop-at.invariant.1 c.requires.falsified

pub returns-clause-watched : goal.returns-clause-watched
returns-clause-watched c =
    AreVisited-end c.args.place c.loop-at.at c.args.clauses.now c.loop-at.trail.steps c.loop-at.self.pairs.items _ (omega (arith, c.loop-at-test.false, c.count.ensures)) c.loop-at.invariant.2
