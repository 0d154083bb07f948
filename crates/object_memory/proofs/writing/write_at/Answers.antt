use Rattle.std.proofs.Common.{sym, subst}
use Rattle.word_dag.proofs.Grown.{extends_more}
use Rattle.object_memory.specs.Places.{PlaceIn}
use Rattle.object_memory.proofs.Pointed.{place_stays, bytes_stay}
use Rattle.object_memory.proofs.Puts.{written_place, set_within}
use Rattle.object_memory.proofs.writing.write_at.Goals as goal

pub with_written-requires-clause-place : goal.with_written-requires-clause-place
with_written-requires-clause-place c =
    place_stays c.args.dag.now c.both.new.dag c.index.result.now c.both.ensures.extends (subst (PlaceIn c.args.dag.now) (sym c.index.ensures) (c.requires.places c.args.hit.place c.index.result.now c.requires.hit.place))

pub with_written-requires-clause-bytes : goal.with_written-requires-clause-bytes
with_written-requires-clause-bytes c = bytes_stay c.args.dag.now c.both.new.dag c.args.bytes.now c.both.ensures.extends c.requires.bytes

pub returns-clause-within : goal.returns-clause-within
returns-clause-within c =
    set_within c.args.dag.now c.with_written.new.dag c.args.places.now.items c.put_place.new.places.items c.args.hit.place c.in_ok-place.place (extends_more c.args.dag.now c.both.new.dag c.with_written.new.dag c.both.ensures.extends c.with_written.ensures.extends) c.requires.places c.in_ok-place.ensures.within c.put_place.ensures

pub returns-clause-spots : goal.returns-clause-spots
returns-clause-spots c =
    written_place c.args.dag.now c.both.new.dag c.with_written.new.dag c.args.places.now.items c.put_place.new.places.items c.args.hit c.args.guard c.in_ok-test.test c.args.bytes.now c.index.result.now c.in_ok-place.place c.index.result.now c.requires.places c.requires.hit c.requires.guard c.requires.bytes
    c.index.ensures c.both.ensures.extends c.in_ok-test.ensures.made c.with_written.ensures.extends c.in_ok-place.ensures.spot c.put_place.ensures
