use Rattle.std.proofs.Common.{sym, refl}
use Rattle.interleave.proofs.Settled.{numbers_none, numbers_to, numbers_from}
use Rattle.interleave.proofs.system.System.has_number.Goals as goal

pub returns-in-None : goal.returns-in-None
returns-in-None g c = ((λ yes. numbers_none g.M.Machine.thread c.args.self.now.runners.entries c.args.t c.args.self.now.shared.memory (sym c.in-None.ensures.value)), (λ has. refl))

pub returns-in-Some : goal.returns-in-Some
returns-in-Some g c = (
  (λ yes. numbers_to g.M.Machine.thread c.args.self.now.runners.entries c.args.t c.args.self.now.shared.memory c.in-Some.runner.now c.args.action.now (sym c.in-Some.ensures.value) c.requires (c.has_number.ensures.0 yes)),
  (λ has. c.has_number.ensures.1 (numbers_from g.M.Machine.thread c.args.self.now.runners.entries c.args.t c.args.self.now.shared.memory c.in-Some.runner.now c.args.action.now (sym c.in-Some.ensures.value) c.requires has)),
)
