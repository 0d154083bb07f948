use Rattle.std.proofs.Common.{refl, sym, subst}
use Rattle.guarded_ssa.specs.declared.slots.Slot.{Slot}
use Rattle.guarded_ssa.specs.inner.Registers.{TreeIn}
use Rattle.guarded_ssa.proofs.Stays.{slot_grows}
use Rattle.guarded_ssa.proofs.Merging.{merged_in, merged_alike}
use Rattle.guarded_ssa.proofs.slots.Slot.merged.Goals as goal

pub merged-requires : goal.merged-requires
merged-requires c =
    let one = slot_grows _ _ c.either.ensures.extends _ _ _ c.requires.first.within in
    let two = slot_grows _ _ c.either.ensures.extends _ _ _ c.requires.second in
    record {
      plan = c.requires.first.plan;
      zeros = one.zeros;
      test = one.guard;
      first = subst (λ ts. TreeIn c.either.new.dag c.args.trees.now ts c.args.first.root) (sym c.requires.first.plan.types) one.tree;
      second = subst (λ ts. TreeIn c.either.new.dag c.args.trees.now ts c.args.second.root) (sym c.requires.first.plan.types) two.tree;
    }

pub returns-clause-within : goal.returns-clause-within
returns-clause-within c =
    let t : Slot = record { guard = c.in_ok-guard.guard; zeros = c.args.first.zeros; root = c.in_ok-root.root } in
    merged_in c.args.dag.now c.either.new.dag c.merged.new.dag c.args.trees.now c.merged.new.trees c.args.plan.now.code.now c.args.first c.args.second t _ _ _ c.args.place c.either.ensures.extends c.merged.ensures.extends c.merged.ensures.keeps c.requires.first.plan.until c.requires.first.plan.owner
    c.requires.first.within c.requires.second c.in_ok-guard.ensures.made refl c.requires.first.plan.types c.in_ok-root.ensures.merged

pub returns-clause-alike : goal.returns-clause-alike
returns-clause-alike c =
    let t : Slot = record { guard = c.in_ok-guard.guard; zeros = c.args.first.zeros; root = c.in_ok-root.root } in
    merged_alike c.args.dag.now c.either.new.dag c.merged.new.dag c.args.trees.now c.merged.new.trees c.args.plan.now.code.now c.args.first c.args.second t _ _ _ c.args.place c.either.ensures.extends c.merged.ensures.extends c.merged.ensures.keeps c.requires.first.plan.until c.requires.first.plan.owner
    c.requires.first.within c.requires.second c.in_ok-guard.ensures.made refl c.requires.first.plan.types c.in_ok-root.ensures.merged
