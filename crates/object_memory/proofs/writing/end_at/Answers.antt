use Rattle.std.proofs.Common.{length, ap, ◌∙◌}
use Rattle.word_dag.proofs.Grown.{extends_more}
use Rattle.object_memory.proofs.Puts.{ended_spots, ended_within, live_long}
use Rattle.object_memory.proofs.writing.end_at.Goals as goal

pub returns-clause-within : goal.returns-clause-within
returns-clause-within c =
    ended_within c.args.dag.now c.chosen.new.dag c.args.places.now.items c.put_live.new.places.items c.args.hit.place c.in_ok-live.live (extends_more c.args.dag.now c.both.new.dag c.chosen.new.dag c.both.ensures.extends (extends_more c.both.new.dag c.constant_test.new.dag c.chosen.new.dag c.constant_test.ensures.extends c.chosen.ensures.extends))
    c.requires.places (record { there = c.in_ok-live.ensures.made.there; width_is = c.in_ok-live.ensures.made.width_is ∙ c.in_ok-ended.ensures.made.width_is }) c.put_live.ensures

pub returns-clause-spots : goal.returns-clause-spots
returns-clause-spots c =
    ended_spots c.args.dag.now c.both.new.dag c.constant_test.new.dag c.chosen.new.dag c.args.places.now.items c.put_live.new.places.items c.args.hit c.args.guard c.in_ok-ends.ends c.in_ok-ended.ended c.in_ok-live.live c.index.result.now c.index.result.now c.requires.places c.requires.hit c.index.ensures c.both.ensures.extends
    c.constant_test.ensures.extends c.chosen.ensures.extends c.in_ok-ends.ensures.made c.in_ok-ended.ensures.made (λ v. c.in_ok-live.ensures.made.value_is v) c.put_live.ensures

pub returns-clause-size : goal.returns-clause-size
returns-clause-size c = ap length c.put_live.ensures ∙ live_long c.args.places.now.items c.args.hit.place c.in_ok-live.live
