use Rattle.std.proofs.Common.{sym, ap, ◌∙◌}
use Rattle.interleave.specs.View.{members_of}
use Rattle.interleave.proofs.Members.{accepts_here, told_none, told_some}
use Rattle.interleave.proofs.runner.tell.Goals as goal

pub tell-requires : goal.tell-requires
tell-requires g c = accepts_here g.M.Machine.thread c.args.runners.now.entries c.args.t c.args.answer.now c.in-Some.runner.now (sym c.in-Some.ensures.value) c.requires

pub returns-in-None : goal.returns-in-None
returns-in-None g c =
    ap (λ m. members_of g.M.Machine.thread m.entries) c.get_mut.follows.holds-at-none
    ∙ told_none g.M.Machine.thread c.args.runners.now.entries c.args.t c.args.answer.now c.args.counts (sym c.in-None.ensures.value)

pub returns-in_ok-tell-in-Some : goal.returns-in_ok-tell-in-Some
returns-in_ok-tell-in-Some g c =
    ap (members_of g.M.Machine.thread) (c.get_mut.follows.holds c.tell.new.self).0
    ∙ told_some g.M.Machine.thread c.args.runners.now.entries c.args.t c.args.answer.now c.args.counts c.in-Some.runner.now c.tell.new.self (sym c.in-Some.ensures.value) c.in_ok-tell-in-Some.ensures
