use Rattle.std.proofs.Common.{arith, refl, ◌∙◌}
use Rattle.object_memory.proofs.Pointed.{spots_stay}
use Rattle.object_memory.proofs.Starts.{starting_more}
use Rattle.object_memory.proofs.Stood.{first_stands, first_within_memory}
use Rattle.object_memory.proofs.memory.Memory.first.Goals as goal

pub loop-at-preserved : goal.loop-at-preserved
loop-at-preserved c =
    starting_more c.args.dag.now c.loop-at.dag c.first_place.new.dag c.args.store.now c.loop-at.places.items c.push.new.self.items c.in_ok-place.place c.loop-at.at _ c.loop-at.invariant (omega arith) refl c.first_place.ensures.extends c.in_ok-place.ensures.within c.in_ok-place.ensures.spot c.in_ok-push.ensures.items

pub returns-clause-within : goal.returns-clause-within
returns-clause-within c =
    first_within_memory c.loop-at.dag c.make.new.self _ c.loop-at.places.items c.make.ensures.extends c.loop-at.invariant.places (omega (arith, c.loop-at.invariant.size)) (record { there = c.in_ok-count.ensures.made.there; width_is = c.in_ok-count.ensures.made.width_is }) (λ v. c.in_ok-count.ensures.made.value_is v ∙ omega (arith, c.loop-at.invariant.size)) refl

pub returns-clause-stands : goal.returns-clause-stands
returns-clause-stands c = λ first v.
    first_stands v c.make.new.self _ c.args.store.now c.loop-at.at (omega arith) first (spots_stay v c.loop-at.dag c.make.new.self c.loop-at.places.items c.make.ensures.extends c.loop-at.invariant.places ∙ c.loop-at.invariant.same first v) (c.in_ok-count.ensures.made.value_is v ∙ c.len-size.ensures)
