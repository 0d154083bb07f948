use Rattle.std.proofs.Common.{◌≡◌, subst}
use Rattle.actions.specs.Behaviour.{started}
use Rattle.goto_prog.specs.Running.{Flowing, flow_thread}
use Rattle.goto_prog.proofs.flow.Flow.started.Goals as goal

pub returns : goal.returns
returns c = λ v.
    subst (λ (f : Flowing). flow_thread (record { runner = c.in_ok-started.field-0; words = 0 }) ≡ started (flow_thread f) c.args.function v) c.self.view_is (c.in_ok-started.ensures v)
