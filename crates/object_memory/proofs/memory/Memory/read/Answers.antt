use Rattle.std.proofs.Common.{false, ap, ◌∙◌}
use Rattle.actions.specs.Objects.{break_in, bytes_at}
use Rattle.word_dag.specs.Meaning.{value, holds}
use Rattle.word_dag.proofs.Grown.{extends_more}
use Rattle.object_memory.specs.Hits.{truly}
use Rattle.object_memory.proofs.Pointed.{places_stay, hits_stay}
use Rattle.object_memory.proofs.Broken.{failings_stay, first_stays}
use Rattle.object_memory.proofs.Stood.{places_in, hits_in, located_in, located_stays, read_found}
use Rattle.object_memory.proofs.memory.Memory.read.Goals as goal

pub hits_of-requires-clause-places : goal.hits_of-requires-clause-places
hits_of-requires-clause-places c = places_in c.args.dag.now c.args.self.now c.as_slice-places.result.now c.requires.within c.as_slice-places.ensures.value

pub access_breaks-requires-clause-places : goal.access_breaks-requires-clause-places
access_breaks-requires-clause-places c = places_stay c.args.dag.now c.hits_of.new.dag c.as_slice-places.result.now c.hits_of.ensures.extends (places_in c.args.dag.now c.args.self.now c.as_slice-places.result.now c.requires.within c.as_slice-places.ensures.value)

pub access_breaks-requires-clause-hits : goal.access_breaks-requires-clause-hits
access_breaks-requires-clause-hits c = hits_in c.hits_of.new.dag _ c.as_slice-hits.result.now c.in_ok-found.found.items c.as_slice-hits.ensures.value c.in_ok-found.ensures.within

pub found_words-requires-clause-places : goal.found_words-requires-clause-places
found_words-requires-clause-places c =
    places_stay c.args.dag.now c.access_breaks.new.dag c.as_slice-places.result.now (extends_more c.args.dag.now c.hits_of.new.dag c.access_breaks.new.dag c.hits_of.ensures.extends c.access_breaks.ensures.extends) (places_in c.args.dag.now c.args.self.now c.as_slice-places.result.now c.requires.within c.as_slice-places.ensures.value)

pub found_words-requires-clause-hits : goal.found_words-requires-clause-hits
found_words-requires-clause-hits c =
    hits_stay c.hits_of.new.dag c.access_breaks.new.dag _ c.as_slice-hits.result.now c.access_breaks.ensures.extends (hits_in c.hits_of.new.dag _ c.as_slice-hits.result.now c.in_ok-found.found.items c.as_slice-hits.ensures.value c.in_ok-found.ensures.within)

pub returns-clause-breaks_within : goal.returns-clause-breaks_within
returns-clause-breaks_within c = failings_stay c.access_breaks.new.dag c.found_words.new.dag c.in_ok-breaks.breaks.items c.found_words.ensures.extends c.in_ok-breaks.ensures.within

pub returns-clause-breaks : goal.returns-clause-breaks
returns-clause-breaks c = λ v objects stands guard_is.
    let l = located_in v c.args.dag.now c.hits_of.new.dag c.args.self.now c.as_slice-places.result.now c.as_slice-hits.result.now c.in_ok-found.found.items c.args.p objects c.requires.within c.as_slice-places.ensures.value c.as_slice-hits.ensures.value c.hits_of.ensures.extends c.requires.pointer stands
    c.in_ok-found.ensures.found in
    first_stays v c.access_breaks.new.dag c.found_words.new.dag c.in_ok-breaks.breaks.items c.found_words.ensures.extends c.in_ok-breaks.ensures.within ∙ c.in_ok-breaks.ensures.first v objects l.are l.found
    ∙ ap (λ q. break_in objects false q c.args.count) (c.hits_of.ensures.extends.value_stays v c.args.p c.requires.pointer.there)

pub returns-clause-words : goal.returns-clause-words
returns-clause-words c = λ v objects stands guard_is none.
    let places = places_stay c.args.dag.now c.hits_of.new.dag c.as_slice-places.result.now c.hits_of.ensures.extends (places_in c.args.dag.now c.args.self.now c.as_slice-places.result.now c.requires.within c.as_slice-places.ensures.value) in
    let within = hits_in c.hits_of.new.dag _ c.as_slice-hits.result.now c.in_ok-found.found.items c.as_slice-hits.ensures.value c.in_ok-found.ensures.within in
    let x = extends_more c.args.dag.now c.hits_of.new.dag c.access_breaks.new.dag c.hits_of.ensures.extends c.access_breaks.ensures.extends in
    let p_is = c.hits_of.ensures.extends.value_stays v c.args.p c.requires.pointer.there in
    let l =
    located_stays v c.hits_of.new.dag c.access_breaks.new.dag c.as_slice-places.result.now c.as_slice-hits.result.now (value v c.hits_of.new.dag c.args.p) objects c.access_breaks.ensures.extends places within
    (located_in v c.args.dag.now c.hits_of.new.dag c.args.self.now c.as_slice-places.result.now c.as_slice-hits.result.now c.in_ok-found.found.items c.args.p objects c.requires.within c.as_slice-places.ensures.value c.as_slice-hits.ensures.value c.hits_of.ensures.extends c.requires.pointer stands
    c.in_ok-found.ensures.found) in
    read_found v c.access_breaks.new.dag c.as_slice-places.result.now (truly v c.access_breaks.new.dag c.as_slice-hits.result.now) (value v c.hits_of.new.dag c.args.p) c.args.count objects _ l.are l.found
    (c.in_ok-words.ensures.values v (ap holds (x.value_stays v c.args.guard c.requires.guard.there) ∙ guard_is)) (ap (λ q. break_in objects false q c.args.count) p_is ∙ none) ∙ ap (λ q. bytes_at objects q c.args.count) p_is
