use Rattle.std.proofs.Common.{◌≡◌, subst}
use Rattle.actions.specs.Behaviour.{started}
use Rattle.goto_prog.specs.Walks.{Walk, thread_of}
use Rattle.goto_prog.proofs.machines.PlainThreadMachine.start.Goals as goal

pub returns : goal.returns
returns c =
    subst (λ (r : Walk). thread_of c.in_ok-started.field-0 ≡ started (thread_of r) c.args.function c.args._v.bits) c.self.view_is (c.in_ok-started.ensures c.args._v.bits)
