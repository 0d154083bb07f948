use Rattle.std.proofs.Common.{◌∙◌}
use Rattle.goto_unwind.specs.Unroller.{making, level_of}
use Rattle.goto_unwind.proofs.Starts.{popped_same, popped_lighter}
use Rattle.goto_unwind.proofs.unroller.Unroller.run.Goals as goal

pub levels-smaller : goal.levels-smaller
levels-smaller c =
    popped_lighter (making c.levels.self) (making c.pop.new.self) (making c.step.new.self) (level_of c.in-Some.level) c.in-Some.ensures.0 c.in-Some.ensures.1 c.in_ok-step.ensures.lighter

pub levels-preserved : goal.levels-preserved
levels-preserved c =
    popped_same (making c.levels.self) (making c.pop.new.self) (making c.step.new.self) (level_of c.in-Some.level) c.in-Some.ensures.0 c.in-Some.ensures.1 c.in_ok-step.ensures.same
    ∙ c.levels.invariant
