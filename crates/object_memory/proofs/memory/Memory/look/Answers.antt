use Rattle.std.proofs.Common.{ap, ◌∙◌}
use Rattle.actions.specs.Pointer.{object_of}
use Rattle.actions.specs.Access.{look}
use Rattle.actions.specs.Objects.{state_at}
use Rattle.word_dag.specs.Meaning.{value, holds}
use Rattle.word_dag.proofs.Grown.{extends_more}
use Rattle.object_memory.specs.Failings.{look_class}
use Rattle.object_memory.specs.Hits.{truly}
use Rattle.object_memory.proofs.Pointed.{places_stay, hits_stay}
use Rattle.object_memory.proofs.Broken.{failings_stay, first_stays}
use Rattle.object_memory.proofs.Stood.{places_in, hits_in, located_in, located_stays, look_found}
use Rattle.object_memory.proofs.memory.Memory.look.Goals as goal

pub hits_of-requires-clause-places : goal.hits_of-requires-clause-places
hits_of-requires-clause-places c = places_in c.args.dag.now c.args.self.now c.as_slice-places.result.now c.requires.within c.as_slice-places.ensures.value

pub look_breaks-requires-clause-places : goal.look_breaks-requires-clause-places
look_breaks-requires-clause-places c = places_stay c.args.dag.now c.hits_of.new.dag c.as_slice-places.result.now c.hits_of.ensures.extends (places_in c.args.dag.now c.args.self.now c.as_slice-places.result.now c.requires.within c.as_slice-places.ensures.value)

pub look_breaks-requires-clause-hits : goal.look_breaks-requires-clause-hits
look_breaks-requires-clause-hits c = hits_in c.hits_of.new.dag _ c.as_slice-hits.result.now c.in_ok-found.found.items c.as_slice-hits.ensures.value c.in_ok-found.ensures.within

pub found_size-requires-clause-places : goal.found_size-requires-clause-places
found_size-requires-clause-places c = places_stay c.args.dag.now c.look_breaks.new.dag c.as_slice-places.result.now (extends_more c.args.dag.now c.hits_of.new.dag c.look_breaks.new.dag c.hits_of.ensures.extends c.look_breaks.ensures.extends) (places_in c.args.dag.now c.args.self.now c.as_slice-places.result.now c.requires.within c.as_slice-places.ensures.value)

pub found_size-requires-clause-hits : goal.found_size-requires-clause-hits
found_size-requires-clause-hits c = hits_stay c.hits_of.new.dag c.look_breaks.new.dag _ c.as_slice-hits.result.now c.look_breaks.ensures.extends (hits_in c.hits_of.new.dag _ c.as_slice-hits.result.now c.in_ok-found.found.items c.as_slice-hits.ensures.value c.in_ok-found.ensures.within)

pub returns-clause-breaks_within : goal.returns-clause-breaks_within
returns-clause-breaks_within c = failings_stay c.look_breaks.new.dag c.found_size.new.dag c.in_ok-breaks.breaks.items c.found_size.ensures.extends c.in_ok-breaks.ensures.within

pub returns-clause-breaks : goal.returns-clause-breaks
returns-clause-breaks c = λ v objects stands guard_is.
    let l = located_in v c.args.dag.now c.hits_of.new.dag c.args.self.now c.as_slice-places.result.now c.as_slice-hits.result.now c.in_ok-found.found.items c.args.p objects c.requires.within c.as_slice-places.ensures.value c.as_slice-hits.ensures.value c.hits_of.ensures.extends c.requires.pointer stands c.in_ok-found.ensures.found in
    let p_is = c.hits_of.ensures.extends.value_stays v c.args.p c.requires.pointer.there in
    first_stays v c.look_breaks.new.dag c.found_size.new.dag c.in_ok-breaks.breaks.items c.found_size.ensures.extends c.in_ok-breaks.ensures.within ∙ c.in_ok-breaks.ensures.first v objects l.are l.found ∙ ap (λ q. look_class c.args.subscript (look q (state_at objects (object_of q)))) p_is

pub returns-clause-size : goal.returns-clause-size
returns-clause-size c = λ v objects size stands guard_is is.
    let l = located_stays v c.hits_of.new.dag c.look_breaks.new.dag c.as_slice-places.result.now c.as_slice-hits.result.now (value v c.hits_of.new.dag c.args.p) objects c.look_breaks.ensures.extends (places_stay c.args.dag.now c.hits_of.new.dag c.as_slice-places.result.now c.hits_of.ensures.extends (places_in c.args.dag.now c.args.self.now c.as_slice-places.result.now c.requires.within c.as_slice-places.ensures.value)) (hits_in c.hits_of.new.dag _ c.as_slice-hits.result.now c.in_ok-found.found.items c.as_slice-hits.ensures.value c.in_ok-found.ensures.within) (located_in v c.args.dag.now c.hits_of.new.dag c.args.self.now c.as_slice-places.result.now c.as_slice-hits.result.now c.in_ok-found.found.items c.args.p objects c.requires.within c.as_slice-places.ensures.value c.as_slice-hits.ensures.value c.hits_of.ensures.extends c.requires.pointer stands c.in_ok-found.ensures.found) in
    let p_is = c.hits_of.ensures.extends.value_stays v c.args.p c.requires.pointer.there in
    look_found v c.look_breaks.new.dag c.as_slice-places.result.now (truly v c.look_breaks.new.dag c.as_slice-hits.result.now) (value v c.hits_of.new.dag c.args.p) size _ objects l.are l.found (c.in_ok-size.ensures.value v (ap holds ((extends_more c.args.dag.now c.hits_of.new.dag c.look_breaks.new.dag c.hits_of.ensures.extends c.look_breaks.ensures.extends).value_stays v c.args.guard c.requires.guard.there) ∙ guard_is))
    (ap (λ q. look q (state_at objects (object_of q))) p_is ∙ is)
