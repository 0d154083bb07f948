use Rattle.std.proofs.Common.{length, ap, sym, subst, refl, ◌∙◌}
use Rattle.std.specs.Prelude.{All, not, is_some, ◌&&◌}
use Rattle.actions.specs.Objects.{free_break}
use Rattle.word_dag.specs.Meaning.{value, holds}
use Rattle.word_dag.proofs.Grown.{extends_more}
use Rattle.object_memory.specs.Failings.{FailingIn, first_class}
use Rattle.object_memory.specs.Hits.{HitIn, truly}
use Rattle.object_memory.specs.Places.{spots}
use Rattle.object_memory.proofs.Pointed.{places_stay, hits_stay, test_is}
use Rattle.object_memory.proofs.Broken.{failings_stay, first_stays}
use Rattle.object_memory.proofs.Stood.{places_in, hits_in, located_in, located_here, located_stays, memory_within, still_stands, free_stands, length_freed}
use Rattle.object_memory.proofs.memory.Memory.free.Goals as goal

pub hits_of-requires-clause-places : goal.hits_of-requires-clause-places
hits_of-requires-clause-places c = places_in c.args.dag.now c.args.self.now c.as_slice-places.result.now c.requires.within c.as_slice-places.ensures.value

pub free_breaks-requires-clause-places : goal.free_breaks-requires-clause-places
free_breaks-requires-clause-places c = places_stay c.args.dag.now c.hits_of.new.dag c.as_slice-places.result.now c.hits_of.ensures.extends (places_in c.args.dag.now c.args.self.now c.as_slice-places.result.now c.requires.within c.as_slice-places.ensures.value)

pub free_breaks-requires-clause-hits : goal.free_breaks-requires-clause-hits
free_breaks-requires-clause-hits c = hits_in c.hits_of.new.dag _ c.as_slice-hits.result.now c.in_ok-found.found.items c.as_slice-hits.ensures.value c.in_ok-found.ensures.within

pub passes-requires-clause-breaks : goal.passes-requires-clause-breaks
passes-requires-clause-breaks c = subst (All (FailingIn c.free_breaks.new.dag)) (sym c.as_slice.ensures.value) c.in_ok-breaks.ensures.within

pub end_all-requires-clause-places : goal.end_all-requires-clause-places
end_all-requires-clause-places c = places_stay c.args.dag.now c.passes.new.dag c.args.self.now.places.items (extends_more c.args.dag.now c.hits_of.new.dag c.passes.new.dag c.hits_of.ensures.extends (extends_more c.hits_of.new.dag c.free_breaks.new.dag c.passes.new.dag c.free_breaks.ensures.extends c.passes.ensures.extends)) c.requires.within.places

pub end_all-requires-clause-hits : goal.end_all-requires-clause-hits
end_all-requires-clause-hits c = hits_stay c.hits_of.new.dag c.passes.new.dag _ c.as_slice-hits.result.now (extends_more c.hits_of.new.dag c.free_breaks.new.dag c.passes.new.dag c.free_breaks.ensures.extends c.passes.ensures.extends) (hits_in c.hits_of.new.dag _ c.as_slice-hits.result.now c.in_ok-found.found.items c.as_slice-hits.ensures.value (subst (λ n. All (HitIn c.hits_of.new.dag n) c.in_ok-found.found.items) (ap length c.as_slice-places.ensures.value) c.in_ok-found.ensures.within))

pub returns-clause-within : goal.returns-clause-within
returns-clause-within c = memory_within c.args.dag.now c.end_all.new.dag c.args.self.now _ c.requires.within (extends_more c.args.dag.now c.hits_of.new.dag c.end_all.new.dag c.hits_of.ensures.extends (extends_more c.hits_of.new.dag c.free_breaks.new.dag c.end_all.new.dag c.free_breaks.ensures.extends (extends_more c.free_breaks.new.dag c.passes.new.dag c.end_all.new.dag c.passes.ensures.extends c.end_all.ensures.extends))) c.in_ok-end_all.ensures.within c.end_all.ensures.size refl

pub returns-clause-breaks_within : goal.returns-clause-breaks_within
returns-clause-breaks_within c = failings_stay c.free_breaks.new.dag c.end_all.new.dag c.in_ok-breaks.breaks.items (extends_more c.free_breaks.new.dag c.passes.new.dag c.end_all.new.dag c.passes.ensures.extends c.end_all.ensures.extends) c.in_ok-breaks.ensures.within

pub returns-clause-breaks : goal.returns-clause-breaks
returns-clause-breaks c = λ v objects stands guard_is.
    let l = located_in v c.args.dag.now c.hits_of.new.dag c.args.self.now c.as_slice-places.result.now c.as_slice-hits.result.now c.in_ok-found.found.items c.args.p objects c.requires.within c.as_slice-places.ensures.value c.as_slice-hits.ensures.value c.hits_of.ensures.extends c.requires.pointer stands c.in_ok-found.ensures.found in
    let p_is = c.hits_of.ensures.extends.value_stays v c.args.p c.requires.pointer.there in
    first_stays v c.free_breaks.new.dag c.end_all.new.dag c.in_ok-breaks.breaks.items (extends_more c.free_breaks.new.dag c.passes.new.dag c.end_all.new.dag c.passes.ensures.extends c.end_all.ensures.extends) c.in_ok-breaks.ensures.within ∙ c.in_ok-breaks.ensures.first v objects l.are l.found ∙ ap (free_break objects) p_is

pub returns-clause-stands : goal.returns-clause-stands
returns-clause-stands c = λ v objects stands.
    let l0 = located_in v c.args.dag.now c.hits_of.new.dag c.args.self.now c.as_slice-places.result.now c.as_slice-hits.result.now c.in_ok-found.found.items c.args.p objects c.requires.within c.as_slice-places.ensures.value c.as_slice-hits.ensures.value c.hits_of.ensures.extends c.requires.pointer stands c.in_ok-found.ensures.found in
    let l1 = located_here v c.args.dag.now c.hits_of.new.dag c.args.self.now c.as_slice-places.result.now c.as_slice-hits.result.now c.in_ok-found.found.items c.args.p objects c.requires.within c.as_slice-places.ensures.value c.as_slice-hits.ensures.value c.hits_of.ensures.extends c.requires.pointer stands c.in_ok-found.ensures.found in
    let l3 = located_stays v c.hits_of.new.dag c.passes.new.dag c.args.self.now.places.items c.as_slice-hits.result.now (value v c.args.dag.now c.args.p) objects (extends_more c.hits_of.new.dag c.free_breaks.new.dag c.passes.new.dag c.free_breaks.ensures.extends c.passes.ensures.extends) (places_stay c.args.dag.now c.hits_of.new.dag c.args.self.now.places.items c.hits_of.ensures.extends c.requires.within.places) (hits_in c.hits_of.new.dag _ c.as_slice-hits.result.now c.in_ok-found.found.items c.as_slice-hits.ensures.value (subst (λ n. All (HitIn c.hits_of.new.dag n) c.in_ok-found.found.items) (ap length c.as_slice-places.ensures.value) c.in_ok-found.ensures.within)) l1 in
    let p_is = c.hits_of.ensures.extends.value_stays v c.args.p c.requires.pointer.there in
    let g = holds (value v c.args.dag.now c.args.guard) in
    let guard = ap holds ((extends_more c.args.dag.now c.hits_of.new.dag c.free_breaks.new.dag c.hits_of.ensures.extends c.free_breaks.ensures.extends).value_stays v c.args.guard c.requires.guard.there) in
    let fine = test_is c.passes.new.dag c.in_ok-fine.fine _ c.in_ok-fine.ensures.made v ∙ (λ i. guard i && not (is_some (first_class v c.free_breaks.new.dag (c.as_slice.ensures.value i)))) in
    let class = c.in_ok-breaks.ensures.first v objects l0.are l0.found ∙ ap (free_break objects) p_is in
    still_stands v c.args.dag.now c.end_all.new.dag c.args.self.now _ objects _ c.requires.within (extends_more c.args.dag.now c.hits_of.new.dag c.end_all.new.dag c.hits_of.ensures.extends (extends_more c.hits_of.new.dag c.free_breaks.new.dag c.end_all.new.dag c.free_breaks.ensures.extends (extends_more c.free_breaks.new.dag c.passes.new.dag c.end_all.new.dag c.passes.ensures.extends c.end_all.ensures.extends))) stands refl
    (free_stands v c.passes.new.dag (spots v c.passes.new.dag c.args.self.now.places.items) (spots v c.end_all.new.dag c.end_all.new.places.items) (truly v c.passes.new.dag c.as_slice-hits.result.now) (value v c.args.dag.now c.args.p) g (holds (value v c.passes.new.dag c.in_ok-fine.fine)) (first_class v c.free_breaks.new.dag c.in_ok-breaks.breaks.items)
    objects l3.are (λ yes. l3.found) fine (λ yes. class) (c.in_ok-end_all.ensures.spots v))
    (length_freed g objects (value v c.args.dag.now c.args.p))
