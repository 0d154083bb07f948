use Rattle.goto_prog.proofs.WalkerSteps.{draws_on_stop, draws_on_go}
use Rattle.goto_prog.proofs.walker.Walker.draw_on.Goals as goal

pub returns-in-Some : goal.returns-in-Some
returns-in-Some c =
    draws_on_stop c.args.self.now c.args.words c.draw_top.new.self c.draw_top.result c.in-Some.next c.requires.drawing c.draw_top.ensures.steps c.draw_top.ensures.others c.in-Some.is

pub returns-in-None : goal.returns-in-None
returns-in-None c =
    rw c.stand.ensures (draws_on_go c.args.self.now c.args.words c.draw_top.new.self c.draw_top.result c.requires.drawing c.draw_top.ensures.steps c.draw_top.ensures.others c.in-None.is)
