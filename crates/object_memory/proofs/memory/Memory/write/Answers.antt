use Rattle.std.proofs.Common.{List, map, length, ap, sym, subst, refl, ◌∙◌}
use Rattle.std.specs.Prelude.{All, not, is_some, ◌&&◌, if◌then◌else◌}
use Rattle.std.proofs.lemmas.List.{length-map}
use Rattle.actions.specs.Objects.{break_in, after_write}
use Rattle.word_dag.specs.Meaning.{value, holds}
use Rattle.word_dag.proofs.Grown.{extends_more, map_stays}
use Rattle.object_memory.specs.Failings.{FailingIn, first_class}
use Rattle.object_memory.specs.Hits.{HitIn}
use Rattle.object_memory.specs.Places.{spots}
use Rattle.object_memory.specs.Spots.{AreObjectsOf}
use Rattle.object_memory.proofs.Pointed.{places_stay, hits_stay, bytes_stay, bytes_there, test_is}
use Rattle.object_memory.proofs.Broken.{failings_stay, first_stays}
use Rattle.object_memory.proofs.Stood.{places_in, hits_in, located_in, located_here, located_stays, memory_within, still_stands, write_stands, length_written}
use Rattle.object_memory.proofs.memory.Memory.write.Goals as goal

pub hits_of-requires-clause-places : goal.hits_of-requires-clause-places
hits_of-requires-clause-places c = places_in c.args.dag.now c.args.self.now c.as_slice-places.result.now c.requires.within c.as_slice-places.ensures.value

pub access_breaks-requires-clause-places : goal.access_breaks-requires-clause-places
access_breaks-requires-clause-places c = places_stay c.args.dag.now c.hits_of.new.dag c.as_slice-places.result.now c.hits_of.ensures.extends (places_in c.args.dag.now c.args.self.now c.as_slice-places.result.now c.requires.within c.as_slice-places.ensures.value)

pub access_breaks-requires-clause-hits : goal.access_breaks-requires-clause-hits
access_breaks-requires-clause-hits c = hits_in c.hits_of.new.dag _ c.as_slice-hits.result.now c.in_ok-found.found.items c.as_slice-hits.ensures.value c.in_ok-found.ensures.within

pub passes-requires-clause-breaks : goal.passes-requires-clause-breaks
passes-requires-clause-breaks c = subst (All (FailingIn c.access_breaks.new.dag)) (sym c.as_slice.ensures.value) c.in_ok-breaks.ensures.within

pub write_all-requires-clause-places : goal.write_all-requires-clause-places
write_all-requires-clause-places c = places_stay c.args.dag.now c.passes.new.dag c.args.self.now.places.items (extends_more c.args.dag.now c.hits_of.new.dag c.passes.new.dag c.hits_of.ensures.extends (extends_more c.hits_of.new.dag c.access_breaks.new.dag c.passes.new.dag c.access_breaks.ensures.extends c.passes.ensures.extends)) c.requires.within.places

pub write_all-requires-clause-hits : goal.write_all-requires-clause-hits
write_all-requires-clause-hits c = hits_stay c.hits_of.new.dag c.passes.new.dag _ c.as_slice-hits.result.now (extends_more c.hits_of.new.dag c.access_breaks.new.dag c.passes.new.dag c.access_breaks.ensures.extends c.passes.ensures.extends) (hits_in c.hits_of.new.dag _ c.as_slice-hits.result.now c.in_ok-found.found.items c.as_slice-hits.ensures.value (subst (λ n. All (HitIn c.hits_of.new.dag n) c.in_ok-found.found.items) (ap length c.as_slice-places.ensures.value) c.in_ok-found.ensures.within))

pub write_all-requires-clause-bytes : goal.write_all-requires-clause-bytes
write_all-requires-clause-bytes c = bytes_stay c.args.dag.now c.passes.new.dag c.args.bytes.now (extends_more c.args.dag.now c.hits_of.new.dag c.passes.new.dag c.hits_of.ensures.extends (extends_more c.hits_of.new.dag c.access_breaks.new.dag c.passes.new.dag c.access_breaks.ensures.extends c.passes.ensures.extends)) c.requires.bytes

pub returns-clause-within : goal.returns-clause-within
returns-clause-within c = memory_within c.args.dag.now c.write_all.new.dag c.args.self.now _ c.requires.within (extends_more c.args.dag.now c.hits_of.new.dag c.write_all.new.dag c.hits_of.ensures.extends (extends_more c.hits_of.new.dag c.access_breaks.new.dag c.write_all.new.dag c.access_breaks.ensures.extends (extends_more c.access_breaks.new.dag c.passes.new.dag c.write_all.new.dag c.passes.ensures.extends c.write_all.ensures.extends))) c.in_ok-write_all.ensures.within c.write_all.ensures.size refl

pub returns-clause-breaks_within : goal.returns-clause-breaks_within
returns-clause-breaks_within c = failings_stay c.access_breaks.new.dag c.write_all.new.dag c.in_ok-breaks.breaks.items (extends_more c.access_breaks.new.dag c.passes.new.dag c.write_all.new.dag c.passes.ensures.extends c.write_all.ensures.extends) c.in_ok-breaks.ensures.within

pub returns-clause-breaks : goal.returns-clause-breaks
returns-clause-breaks c = λ v objects stands guard_is.
    let l = located_in v c.args.dag.now c.hits_of.new.dag c.args.self.now c.as_slice-places.result.now c.as_slice-hits.result.now c.in_ok-found.found.items c.args.p objects c.requires.within c.as_slice-places.ensures.value c.as_slice-hits.ensures.value c.hits_of.ensures.extends c.requires.pointer stands c.in_ok-found.ensures.found in
    let p_is = c.hits_of.ensures.extends.value_stays v c.args.p c.requires.pointer.there in
    first_stays v c.access_breaks.new.dag c.write_all.new.dag c.in_ok-breaks.breaks.items (extends_more c.access_breaks.new.dag c.passes.new.dag c.write_all.new.dag c.passes.ensures.extends c.write_all.ensures.extends) c.in_ok-breaks.ensures.within ∙ c.in_ok-breaks.ensures.first v objects l.are l.found
    ∙ (λ i. break_in objects (not c.args.first) (p_is i) (sym (length-map c.args.bytes.now (value v c.args.dag.now)) i))

pub returns-clause-stands : goal.returns-clause-stands
returns-clause-stands c = λ v objects stands.
    let l0 = located_in v c.args.dag.now c.hits_of.new.dag c.args.self.now c.as_slice-places.result.now c.as_slice-hits.result.now c.in_ok-found.found.items c.args.p objects c.requires.within c.as_slice-places.ensures.value c.as_slice-hits.ensures.value c.hits_of.ensures.extends c.requires.pointer stands c.in_ok-found.ensures.found in
    let l1 = located_here v c.args.dag.now c.hits_of.new.dag c.args.self.now c.as_slice-places.result.now c.as_slice-hits.result.now c.in_ok-found.found.items c.args.p objects c.requires.within c.as_slice-places.ensures.value c.as_slice-hits.ensures.value c.hits_of.ensures.extends c.requires.pointer stands c.in_ok-found.ensures.found in
    let l3 = located_stays v c.hits_of.new.dag c.passes.new.dag c.args.self.now.places.items c.as_slice-hits.result.now (value v c.args.dag.now c.args.p) objects (extends_more c.hits_of.new.dag c.access_breaks.new.dag c.passes.new.dag c.access_breaks.ensures.extends c.passes.ensures.extends) (places_stay c.args.dag.now c.hits_of.new.dag c.args.self.now.places.items c.hits_of.ensures.extends c.requires.within.places) (hits_in c.hits_of.new.dag _ c.as_slice-hits.result.now c.in_ok-found.found.items c.as_slice-hits.ensures.value (subst (λ n. All (HitIn c.hits_of.new.dag n) c.in_ok-found.found.items) (ap length c.as_slice-places.ensures.value) c.in_ok-found.ensures.within)) l1 in
    let p_is = c.hits_of.ensures.extends.value_stays v c.args.p c.requires.pointer.there in
    let g = holds (value v c.args.dag.now c.args.guard) in
    let news = map_stays v c.args.dag.now c.passes.new.dag c.args.bytes.now (extends_more c.args.dag.now c.hits_of.new.dag c.passes.new.dag c.hits_of.ensures.extends (extends_more c.hits_of.new.dag c.access_breaks.new.dag c.passes.new.dag c.access_breaks.ensures.extends c.passes.ensures.extends)) (bytes_there c.args.dag.now c.args.bytes.now c.requires.bytes) in
    let guard = ap holds ((extends_more c.args.dag.now c.hits_of.new.dag c.access_breaks.new.dag c.hits_of.ensures.extends c.access_breaks.ensures.extends).value_stays v c.args.guard c.requires.guard.there) in
    let fine = test_is c.passes.new.dag c.in_ok-fine.fine _ c.in_ok-fine.ensures.made v ∙ (λ i. guard i && not (is_some (first_class v c.access_breaks.new.dag (c.as_slice.ensures.value i)))) in
    let class = c.in_ok-breaks.ensures.first v objects l0.are l0.found ∙ (λ i. break_in objects (not c.args.first) (p_is i) (sym (length-map c.args.bytes.now (value v c.passes.new.dag)) i)) in
    let left = write_stands v c.passes.new.dag c.write_all.new.dag c.args.self.now.places.items c.write_all.new.places.items c.as_slice-hits.result.now c.args.guard c.args.bytes.now (value v c.args.dag.now c.args.p) c.args.first g (holds (value v c.passes.new.dag c.in_ok-fine.fine)) (first_class v c.access_breaks.new.dag c.in_ok-breaks.breaks.items)
    objects l3.are (λ yes. l3) fine (λ yes. class) (c.in_ok-write_all.ensures.spots v) in
    still_stands v c.args.dag.now c.write_all.new.dag c.args.self.now _ objects _ c.requires.within (extends_more c.args.dag.now c.hits_of.new.dag c.write_all.new.dag c.hits_of.ensures.extends (extends_more c.hits_of.new.dag c.access_breaks.new.dag c.write_all.new.dag c.access_breaks.ensures.extends (extends_more c.access_breaks.new.dag c.passes.new.dag c.write_all.new.dag c.passes.ensures.extends c.write_all.ensures.extends))) stands refl
    (subst (λ (bs : List _). AreObjectsOf (spots v c.write_all.new.dag c.write_all.new.places.items) (if g then after_write objects (value v c.args.dag.now c.args.p) bs c.args.first else objects)) news left)
    (length_written g c.args.first objects (value v c.args.dag.now c.args.p) (map (value v c.args.dag.now) c.args.bytes.now))
