use Rattle.std.proofs.Common.{◌∙◌}
use Rattle.mem_seq.proofs.Building.{event_there, static_there}
use Rattle.mem_seq.proofs.Following.{following_none, following_more}
use Rattle.mem_seq.proofs.memory.notes.Goals as goal

pub follow-requires-clause-event : goal.follow-requires-clause-event
follow-requires-clause-event c = event_there c.args.dag.now c.loop-at.dag c.args.events.now c.loop-at.at c.index-events-at.result c.loop-at.invariant.following.extends c.requires.within c.loop-at-test.true c.index-events-at.is

pub follow-requires-clause-plain : goal.follow-requires-clause-plain
follow-requires-clause-plain c = static_there c.args.dag.now c.loop-at.dag c.args.events.now c.loop-at.at c.index-events-at.result c.loop-at.invariant.following.extends c.requires.plain c.loop-at-test.true c.index-events-at.is

pub loop-at-init : goal.loop-at-init
loop-at-init c = record {
  same = c.new-memory.ensures.store;
  following = following_none c.args.dag.now c.args.store.now c.args.events.now c.new-memory.result c.new-known.result c.in_ok-others.others.items c.in_ok-notes.notes.items (c.new-memory.ensures.within c.args.dag.now) (λ v. c.new-memory.ensures.start v c.args.dag.now) (c.new-known.ensures.within c.args.dag.now)
      (λ v. c.new-known.ensures.agrees v c.args.dag.now) c.in_ok-others.ensures.items c.in_ok-notes.ensures.items;
}

pub loop-at-preserved : goal.loop-at-preserved
loop-at-preserved c = record {
  same = c.follow.ensures.store ∙ c.loop-at.invariant.same;
  following = following_more c.args.dag.now c.loop-at.dag c.follow.new.dag c.args.store.now c.args.events.now c.loop-at.memory c.follow.new.memory c.loop-at.known c.follow.new.known c.loop-at.others.items _ c.loop-at.notes.items _ c.index-events-at.result _ _ c.loop-at.at c.requires.within
      c.loop-at.invariant.following c.loop-at-test.true c.index-events-at.is c.follow.ensures.extends c.in_ok-other.ensures.memory c.in_ok-other.ensures.known c.in_ok-other.ensures.event c.in_ok-other.ensures.plain c.in_ok-other.ensures.note_within c.in_ok-other.ensures.note c.in_ok-other.ensures.behind c.in_ok-other.ensures.same
      c.in_ok-other.ensures.agrees c.in_ok-push-2.ensures.items c.in_ok-push.ensures.items;
}
