use Rattle.std.proofs.Common.{◌≡◌, subst}
use Rattle.actions.specs.Behaviour.{started}
use Rattle.goto_prog.specs.Running.{Flowing, flow_thread}
use Rattle.goto_prog.proofs.machines.UnrolledThreadMachine.start.Goals as goal

pub returns : goal.returns
returns c =
    subst (λ (r : Flowing). flow_thread c.in_ok-started.field-0 ≡ started (flow_thread r) c.args.function c.args._v.bits) c.self.view_is (c.in_ok-started.ensures c.args._v.bits)
