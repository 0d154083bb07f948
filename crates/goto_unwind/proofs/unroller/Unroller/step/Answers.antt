use Rattle.goto_prog.specs.Nodes.{nodes_of}
use Rattle.goto_unwind.specs.Unroller.{making, level_of}
use Rattle.goto_unwind.proofs.Adding.{mapped}
use Rattle.goto_unwind.proofs.Unrolls.{put_same, close_same}
use Rattle.goto_unwind.proofs.Lighter.{put_lighter, close_lighter}
use Rattle.goto_unwind.proofs.unroller.Unroller.step.Goals as goal

pub returns-in-Some-clause-same : goal.returns-in-Some-clause-same
returns-in-Some-clause-same c =
    mapped c.node.result (put_same (making c.args.self.now) (making c.node.new.self) (level_of c.args.level.now) (nodes_of c.in-Some.rest.now) c.in-Some.kind c.in-Some.ensures) c.node.ensures

pub returns-in-Some-clause-lighter : goal.returns-in-Some-clause-lighter
returns-in-Some-clause-lighter c =
    mapped c.node.result (put_lighter (making c.args.self.now) (making c.node.new.self) (level_of c.args.level.now) (nodes_of c.in-Some.rest.now) c.in-Some.kind c.in-Some.ensures) c.node.ensures

pub returns-in-None-clause-same : goal.returns-in-None-clause-same
returns-in-None-clause-same c = mapped c.close.result (close_same (making c.args.self.now) (making c.close.new.self) (level_of c.args.level.now) c.in-None.ensures) c.close.ensures

pub returns-in-None-clause-lighter : goal.returns-in-None-clause-lighter
returns-in-None-clause-lighter c = mapped c.close.result (close_lighter (making c.args.self.now) (making c.close.new.self) (level_of c.args.level.now) c.in-None.ensures) c.close.ensures
