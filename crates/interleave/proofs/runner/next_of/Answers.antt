use Rattle.std.proofs.Common.{Some, sym, ap, ◌∙◌}
use Rattle.interleave.specs.View.{members_of}
use Rattle.interleave.proofs.Members.{next_none, next_some, set_same}
use Rattle.interleave.proofs.runner.next_of.Goals as goal

pub returns-in-None-clause-next : goal.returns-in-None-clause-next
returns-in-None-clause-next g c = sym (next_none g.M.Machine.thread c.args.runners.now.entries c.args.t (sym c.in-None.ensures.value))

pub returns-in_ok-next-in-Some-clause-same : goal.returns-in_ok-next-in-Some-clause-same
returns-in_ok-next-in-Some-clause-same g c =
    ap (members_of g.M.Machine.thread) (c.get_mut.follows.holds c.next.new.self).0
    ∙ set_same g.M.Machine.thread c.args.runners.now.entries c.args.t c.in-Some.runner.now c.next.new.self (sym c.in-Some.ensures.value) c.next.ensures.same

pub returns-in_ok-next-in-Some-clause-next : goal.returns-in_ok-next-in-Some-clause-next
returns-in_ok-next-in-Some-clause-next g c =
    ap (λ next. Some next) c.in_ok-next-in-Some.ensures.next
    ∙ sym (next_some g.M.Machine.thread c.args.runners.now.entries c.args.t c.in-Some.runner.now (sym c.in-Some.ensures.value))

pub returns-in_err-next-in-Some-clause-same : goal.returns-in_err-next-in-Some-clause-same
returns-in_err-next-in-Some-clause-same g c =
    ap (members_of g.M.Machine.thread) (c.get_mut.follows.holds c.next.new.self).0
    ∙ set_same g.M.Machine.thread c.args.runners.now.entries c.args.t c.in-Some.runner.now c.next.new.self (sym c.in-Some.ensures.value) c.next.ensures.same
