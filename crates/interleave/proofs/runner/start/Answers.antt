use Rattle.std.proofs.Common.{sym, ap, ◌∙◌}
use Rattle.std.specs.Prelude.{option_map}
use Rattle.interleave.specs.View.{members_of, member_of}
use Rattle.interleave.specs.World.{member_at}
use Rattle.interleave.proofs.Members.{started_seen}
use Rattle.interleave.proofs.runner.start.Goals as goal

pub returns-in_ok-insert-in-Some : goal.returns-in_ok-insert-in-Some
returns-in_ok-insert-in-Some g c =
    let members = members_of g.M.Machine.thread c.args.runners.now.entries in
    ap (members_of g.M.Machine.thread) c.in_ok-insert-in-Some.ensures.entries
    ∙ started_seen g.M.Machine.thread c.tell.new.runners.entries members c.args.t c.args.number c.args.function c.args.v c.args.counts c.in-Some.child (member_at members c.args.t)
    (sym (ap (option_map (member_of g.M.Machine.thread)) c.in-Some.is) ∙ c.in_ok-child_of.ensures) c.in_ok-tell-in-Some.ensures
