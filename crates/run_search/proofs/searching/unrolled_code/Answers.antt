use Rattle.std.proofs.Common.{◌≡◌, ◌≤◌, true, sym, ◌∙◌, subst, arith}
use Rattle.core_tree.specs.Ranges.{is_unwinding}
use Rattle.core_tree.specs.Trees.{view_core}
use Rattle.event_forms.specs.Accesses.{AreFirst}
use Rattle.run_search.proofs.CountedObjects.{is_bound, no_more}
use Rattle.run_search.proofs.FirstStores.{storable}
use Rattle.run_search.proofs.StartsNone.{none_start}
use Rattle.run_search.proofs.searching.unrolled_code.Goals as goal

pub returns-in-Ok-clause-same : goal.returns-in-Ok-clause-same
returns-in-Ok-clause-same c =
    let none = none_start (view_core c.args.file.now) c.in_ok-lowered.lowered c.in_ok-checked.checked c.in_ok-lowered.ensures.code c.in_ok-checked.ensures.code in
    let limits = c.args.bounds.now in
    let few : limits.malloc_limit ≤ 4096 = omega (arith, c.malloc_limit-most.ensures.is, c.malloc_limit-most.ensures.at_most_4096) in
    (c.in-Ok.ensures.same none).behaves ∙ (c.in_ok-checked.ensures.same limits).behaves ∙ (c.in_ok-lowered.ensures.same limits few).behaves

pub returns-in-Ok-clause-store : goal.returns-in-Ok-clause-store
returns-in-Ok-clause-store c =
    c.in-Ok.ensures.store ∙ c.in_ok-checked.ensures.store ∙ c.in_ok-lowered.ensures.store (storable (view_core c.args.file.now) c.args.bounds.now c.in-Ok.ensures.within)

pub returns-in-Ok-clause-objects : goal.returns-in-Ok-clause-objects
returns-in-Ok-clause-objects c =
    let room = storable (view_core c.args.file.now) c.args.bounds.now c.in-Ok.ensures.within in
    subst AreFirst (sym (c.in-Ok.ensures.store ∙ c.in_ok-checked.ensures.store ∙ c.in_ok-lowered.ensures.store room)) (c.prove_objects.ensures room)

pub returns-in-Ok-clause-few : goal.returns-in-Ok-clause-few
returns-in-Ok-clause-few c =
    let core = view_core c.args.file.now in
    let limits = c.args.bounds.now in
    let unwinding : is_unwinding limits.unwind ≡ true = is_bound limits.unwind (omega (arith, c.unwind-unwind.ensures.is, c.unwind-unwind.ensures.positive)) (omega (arith, c.unwind-unwind.ensures.is, c.unwind-unwind.ensures.at_most_1000)) in
    let counted = c.lowered_code_counts_objects.ensures core limits unwinding c.set-set.ensures.in_range c.in_ok-lowered.lowered c.in_ok-lowered.ensures.code in
    let store = c.in_ok-checked.ensures.store ∙ c.in_ok-lowered.ensures.store (storable core limits c.in-Ok.ensures.within) in
    c.in-Ok.ensures.few (no_more core limits c.in_ok-lowered.lowered c.in_ok-checked.checked counted (c.in_ok-checked.ensures.allocations limits) store)
