use Rattle.std.proofs.Common.{ap, sym, subst, refl, ◌∙◌, arith}
use Rattle.word_dag.specs.Meaning.{value}
use Rattle.word_dag.proofs.Grown.{extends_more, within_stays}
use Rattle.value_nodes.proofs.Made.{word_stays}
use Rattle.actions.specs.Pointer.{offset_of}
use Rattle.object_memory.specs.Spots.{Spots, Rising}
use Rattle.object_memory.specs.Hits.{IsFound, truly}
use Rattle.object_memory.proofs.Pointed.{places_stay, spots_stay, hitting_kept, hitting_found, alone_found, alone_within}
use Rattle.object_memory.proofs.finding.hits_of.Goals as goal

pub returns-in_err-test-clause-extends : goal.returns-in_err-test-clause-extends
returns-in_err-test-clause-extends c =
    extends_more c.args.dag.now c.object_of.new.dag c.place_test.new.dag c.object_of.ensures.extends (extends_more c.object_of.new.dag c.offset_of.new.dag c.place_test.new.dag c.offset_of.ensures.extends (extends_more c.offset_of.new.dag c.loop-at.dag c.place_test.new.dag c.loop-at.invariant.extends c.place_test.ensures.extends))

pub returns-in_err-one-clause-extends : goal.returns-in_err-one-clause-extends
returns-in_err-one-clause-extends c =
    extends_more c.args.dag.now c.object_of.new.dag c.place_test.new.dag c.object_of.ensures.extends (extends_more c.object_of.new.dag c.offset_of.new.dag c.place_test.new.dag c.offset_of.ensures.extends (extends_more c.offset_of.new.dag c.loop-at.dag c.place_test.new.dag c.loop-at.invariant.extends c.place_test.ensures.extends))

pub returns-in_err-keep-clause-extends : goal.returns-in_err-keep-clause-extends
returns-in_err-keep-clause-extends c =
    extends_more c.args.dag.now c.object_of.new.dag c.place_test.new.dag c.object_of.ensures.extends (extends_more c.object_of.new.dag c.offset_of.new.dag c.place_test.new.dag c.offset_of.ensures.extends (extends_more c.offset_of.new.dag c.loop-at.dag c.place_test.new.dag c.loop-at.invariant.extends c.place_test.ensures.extends))

pub returns-then-is_always-clause-extends : goal.returns-then-is_always-clause-extends
returns-then-is_always-clause-extends c =
    extends_more c.args.dag.now c.object_of.new.dag c.place_test.new.dag c.object_of.ensures.extends (extends_more c.object_of.new.dag c.offset_of.new.dag c.place_test.new.dag c.offset_of.ensures.extends (extends_more c.offset_of.new.dag c.loop-at.dag c.place_test.new.dag c.loop-at.invariant.extends c.place_test.ensures.extends))

pub returns-then-is_always-clause-within : goal.returns-then-is_always-clause-within
returns-then-is_always-clause-within c =
    alone_within c.offset_of.new.dag c.place_test.new.dag _ c.in_ok-object.object c.in_ok-offset.offset c.in_ok-test.test c.in_ok-one.one.items c.loop-at.at _ (extends_more c.offset_of.new.dag c.loop-at.dag c.place_test.new.dag c.loop-at.invariant.extends c.place_test.ensures.extends)
    (record { there = c.in_ok-offset.ensures.made.there; width_is = c.in_ok-offset.ensures.made.width_is }) c.in_ok-test.ensures.made c.loop-at-test.true c.in_ok-one.ensures

pub returns-then-is_always-clause-found : goal.returns-then-is_always-clause-found
returns-then-is_always-clause-found c = λ v top rises.
    let x = extends_more c.args.dag.now c.object_of.new.dag c.offset_of.new.dag c.object_of.ensures.extends c.offset_of.ensures.extends in
    alone_found v c.args.dag.now c.loop-at.dag c.place_test.new.dag c.args.places.now c.in_ok-object.object c.in_ok-offset.offset c.in_ok-test.test c.in_ok-one.one.items c.loop-at.at c.index-places-at.result c.index-places-at.result (value v c.args.dag.now c.args.p) c.requires.places
    (extends_more c.args.dag.now c.offset_of.new.dag c.loop-at.dag x c.loop-at.invariant.extends) c.place_test.ensures.extends c.loop-at-test.true c.index-places-at.is c.in_ok-test.ensures.made (c.if-is_always.ensures refl v)
    (c.loop-at.invariant.extends.value_stays v c.in_ok-object.object (within_stays c.object_of.new.dag c.offset_of.new.dag c.in_ok-object.object c.offset_of.ensures.extends c.in_ok-object.ensures.made.there) ∙ c.offset_of.ensures.extends.value_stays v c.in_ok-object.object c.in_ok-object.ensures.made.there ∙ c.in_ok-object.ensures.made.value_is v)
    (within_stays c.offset_of.new.dag c.loop-at.dag c.in_ok-offset.offset c.loop-at.invariant.extends c.in_ok-offset.ensures.made.there)
    (c.loop-at.invariant.extends.value_stays v c.in_ok-offset.offset c.in_ok-offset.ensures.made.there ∙ c.in_ok-offset.ensures.made.value_is v ∙ ap offset_of (c.object_of.ensures.extends.value_stays v c.args.p c.requires.pointer.there)) c.in_ok-one.ensures

pub loop-at-preserved : goal.loop-at-preserved
loop-at-preserved c =
    hitting_kept c.offset_of.new.dag c.loop-at.dag c.place_test.new.dag c.args.places.now c.in_ok-object.object c.in_ok-offset.offset c.in_ok-test.test c.loop-at.hits.items c.keep.new.hits.items c.loop-at.at c.index-places-at.result c.index-places-at.result
    (places_stay c.args.dag.now c.offset_of.new.dag c.args.places.now (extends_more c.args.dag.now c.object_of.new.dag c.offset_of.new.dag c.object_of.ensures.extends c.offset_of.ensures.extends) c.requires.places)
    (word_stays c.object_of.new.dag c.offset_of.new.dag c.in_ok-object.object 32 c.offset_of.ensures.extends (record { there = c.in_ok-object.ensures.made.there; width_is = c.in_ok-object.ensures.made.width_is }))
    (word_stays c.offset_of.new.dag c.loop-at.dag c.in_ok-offset.offset 32 c.loop-at.invariant.extends (record { there = c.in_ok-offset.ensures.made.there; width_is = c.in_ok-offset.ensures.made.width_is }))
    c.loop-at.invariant c.loop-at-test.true c.index-places-at.is c.place_test.ensures.extends c.in_ok-test.ensures.made c.in_ok-keep.ensures

pub returns-clause-found : goal.returns-clause-found
returns-clause-found c = λ v top rises.
    let x = extends_more c.args.dag.now c.object_of.new.dag c.offset_of.new.dag c.object_of.ensures.extends c.offset_of.ensures.extends in
    let same = spots_stay v c.args.dag.now c.offset_of.new.dag c.args.places.now x c.requires.places in
    let p = value v c.args.dag.now c.args.p in
    subst (λ (ss : Spots). IsFound v c.loop-at.dag ss p (truly v c.loop-at.dag c.loop-at.hits.items)) same
    (hitting_found c.offset_of.new.dag c.loop-at.dag c.args.places.now c.in_ok-object.object c.in_ok-offset.offset c.loop-at.hits.items c.loop-at.at c.loop-at.invariant (omega arith) v top p (subst (λ (ss : Spots). Rising 0 ss top) (sym same) rises)
    (c.offset_of.ensures.extends.value_stays v c.in_ok-object.object c.in_ok-object.ensures.made.there ∙ c.in_ok-object.ensures.made.value_is v) c.in_ok-offset.ensures.made.there
    (c.in_ok-offset.ensures.made.value_is v ∙ ap offset_of (c.object_of.ensures.extends.value_stays v c.args.p c.requires.pointer.there)))
