use Rattle.std.proofs.Common.{refl}
use Rattle.guarded_ssa.proofs.PartNodes.{among_first}
use Rattle.guarded_ssa.proofs.parts.is_among_first.Goals as goal

pub returns-clause-made : goal.returns-clause-made
returns-clause-made c =
    let n = c.in_ok-at.ensures.made in
    let m = c.in_ok-id.ensures.made in
    among_first c.args.dag.now c.make.new.self c.make-2.new.self c.in_ok-at.at c.args.count c.in_ok-id.id c.args.place _ c.make.ensures.extends c.requires.count refl (record { there = n.there; width_is = n.width_is; value_is = n.value_is })
    (record { there = m.there; width_is = m.width_is; value_is = m.value_is })
