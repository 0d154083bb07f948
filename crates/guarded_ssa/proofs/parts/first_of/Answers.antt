use Rattle.std.proofs.Common.{arith}
use Rattle.std.proofs.lemmas.List.{get_or_default}
use Rattle.word_dag.specs.declared.nodes.Id.{Id}
use Rattle.guarded_ssa.proofs.PartNodes.{fronting_none, fronting_more, fronting_bytes}
use Rattle.guarded_ssa.proofs.parts.first_of.Goals as goal

pub loop-place-init : goal.loop-place-init
loop-place-init c = fronting_none c.args.dag.now c.args.count c.args.new.now c.args.old.now _ c.in_ok-bytes.ensures.items

pub returns-clause-made : goal.returns-clause-made
returns-clause-made c = fronting_bytes c.args.dag.now c.loop-place.dag c.args.count c.args.new.now c.args.old.now c.loop-place.bytes.items c.loop-place.place c.requires.same c.loop-place.invariant (omega arith)

pub loop-place-preserved : goal.loop-place-preserved
loop-place-preserved c =
    let z : Id = record { index = 0 } in
    let less = c.loop-place-test.true in
    fronting_more c.args.dag.now c.loop-place.dag c.is_among_first.new.dag c.chosen.new.dag c.args.count c.in_ok-test.test c.in_ok-id.id _ _ c.args.new.now c.args.old.now c.loop-place.bytes.items c.push.new.self.items c.loop-place.place _ z c.requires.new c.requires.old c.requires.same c.requires.count.there
    c.loop-place.invariant less (get_or_default c.args.new.now c.loop-place.place _ z (omega (arith, less, c.requires.same))) (get_or_default c.args.old.now c.loop-place.place _ z less) c.is_among_first.ensures.extends c.chosen.ensures.extends c.in_ok-test.ensures.made c.in_ok-id.ensures.made c.in_ok-push.ensures.items (omega arith)
