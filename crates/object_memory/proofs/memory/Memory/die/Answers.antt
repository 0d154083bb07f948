use Rattle.std.proofs.Common.{ap, subst, refl, length, ◌∙◌}
use Rattle.std.specs.Prelude.{All}
use Rattle.actions.specs.Pointer.{object_of}
use Rattle.word_dag.specs.Meaning.{value, holds}
use Rattle.word_dag.proofs.Grown.{extends_more}
use Rattle.object_memory.specs.Hits.{HitIn, truly}
use Rattle.object_memory.specs.Places.{spots}
use Rattle.object_memory.proofs.Pointed.{places_stay}
use Rattle.object_memory.proofs.Stood.{places_in, hits_in, located_here, memory_within, still_stands, die_stands, length_dead, same_choice}
use Rattle.object_memory.proofs.memory.Memory.die.Goals as goal

pub hits_of-requires-clause-places : goal.hits_of-requires-clause-places
hits_of-requires-clause-places c = places_in c.args.dag.now c.args.self.now c.as_slice.result.now c.requires.within c.as_slice.ensures.value

pub end_all-requires-clause-places : goal.end_all-requires-clause-places
end_all-requires-clause-places c = places_stay c.args.dag.now c.hits_of.new.dag c.args.self.now.places.items c.hits_of.ensures.extends c.requires.within.places

pub end_all-requires-clause-hits : goal.end_all-requires-clause-hits
end_all-requires-clause-hits c = hits_in c.hits_of.new.dag _ c.as_slice-2.result.now c.in_ok-found.found.items c.as_slice-2.ensures.value (subst (λ n. All (HitIn c.hits_of.new.dag n) c.in_ok-found.found.items) (ap length c.as_slice.ensures.value) c.in_ok-found.ensures.within)

pub returns-clause-within : goal.returns-clause-within
returns-clause-within c =
    memory_within c.args.dag.now c.end_all.new.dag c.args.self.now _ c.requires.within (extends_more c.args.dag.now c.hits_of.new.dag c.end_all.new.dag c.hits_of.ensures.extends c.end_all.ensures.extends) c.in_ok-end_all.ensures.within c.end_all.ensures.size refl

pub returns-clause-stands : goal.returns-clause-stands
returns-clause-stands c = λ v objects stands.
    let l = located_here v c.args.dag.now c.hits_of.new.dag c.args.self.now c.as_slice.result.now c.as_slice-2.result.now c.in_ok-found.found.items c.args.p objects c.requires.within c.as_slice.ensures.value c.as_slice-2.ensures.value c.hits_of.ensures.extends c.requires.pointer stands c.in_ok-found.ensures.found in
    let guard = ap holds (c.hits_of.ensures.extends.value_stays v c.args.guard c.requires.guard.there) in
    still_stands v c.args.dag.now c.end_all.new.dag c.args.self.now _ objects _ c.requires.within (extends_more c.args.dag.now c.hits_of.new.dag c.end_all.new.dag c.hits_of.ensures.extends c.end_all.ensures.extends) stands refl
    (die_stands v c.hits_of.new.dag (spots v c.hits_of.new.dag c.args.self.now.places.items) (spots v c.end_all.new.dag c.end_all.new.places.items) (truly v c.hits_of.new.dag c.as_slice-2.result.now) (value v c.args.dag.now c.args.p) (holds (value v c.args.dag.now c.args.guard)) objects l.are (λ yes. l.found)
    (c.in_ok-end_all.ensures.spots v ∙ same_choice _ _ _ _ guard))
    (length_dead (holds (value v c.args.dag.now c.args.guard)) objects (object_of (value v c.args.dag.now c.args.p)))
