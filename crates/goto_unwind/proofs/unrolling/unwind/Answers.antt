use Rattle.std.proofs.Common.{◌≡◌, ◌+◌, true, ◌≤◌, length, sym, subst, ◌∙◌, arith}
use Rattle.core_tree.specs.Trees.{view_core}
use Rattle.goto_prog.specs.Allocations.{code_allocations, allocations}
use Rattle.goto_prog.specs.Flat as flat
use Rattle.goto_prog.specs.Flat.{Flat}
use Rattle.goto_prog.specs.GotoThreads as structured
use Rattle.goto_prog.specs.Same.{DoSame}
use Rattle.goto_prog.specs.Static.{is_static_code}
use Rattle.goto_unwind.specs.LocalRuns.{allocates, count_on, MakesFew}
use Rattle.goto_unwind.specs.Program.{unrolled}
use Rattle.goto_unwind.proofs.Allocating.{unrolled_makes}
use Rattle.goto_unwind.proofs.LocalRuns.{makes_own, makes_few, few_objects}
use Rattle.goto_unwind.proofs.SameCode.{flat_none, unrolled_same}
use Rattle.goto_unwind.proofs.StaticCode.{unrolled_static}
use Rattle.goto_unwind.proofs.unrolling.unwind.Goals as goal

pub returns-clause-same : goal.returns-clause-same
returns-clause-same c none =
    let g = c.args.goto.now in
    let limits = c.args.bounds.now in
    let some : 1 ≤ limits.unwind = omega (arith, c.unwind-unwind.ensures.is, c.unwind-unwind.ensures.positive) in
    subst (λ (u : Flat). DoSame (flat.plain_thread u) (structured.plain_thread g limits)) (sym c.in_ok-unrolled.ensures)
    (unrolled_same g limits some c.procedures-procedures.ensures.fits c.main_number-main.ensures.within none)

pub returns-clause-plain : goal.returns-clause-plain
returns-clause-plain c static =
    subst (λ (u : Flat). is_static_code (flat.main_code u).instructions ≡ true) (sym c.in_ok-unrolled.ensures) (unrolled_static c.args.goto.now c.args.bounds.now static)

pub returns-clause-allocations : goal.returns-clause-allocations
returns-clause-allocations c =
    let g = c.args.goto.now in
    let limits = c.args.bounds.now in
    subst (λ (u : Flat). code_allocations (flat.main_code u).instructions ≡ allocations g limits) (sym c.in_ok-unrolled.ensures)
    (unrolled_makes g limits (omega (arith, c.unwind-unwind.ensures.is, c.unwind-unwind.ensures.positive)) c.main_number-main.ensures.within)

pub returns-clause-makes : goal.returns-clause-makes
returns-clause-makes c answers =
    let g = c.args.goto.now in
    let limits = c.args.bounds.now in
    let own = makes_own (unrolled g limits) answers in
    let all = unrolled_makes g limits (omega (arith, c.unwind-unwind.ensures.is, c.unwind-unwind.ensures.positive)) c.main_number-main.ensures.within in
    subst (λ (u : Flat). count_on allocates (flat.plain_thread u).behaves answers ≤ allocations g limits) (sym c.in_ok-unrolled.ensures) (omega (arith, own, all))

pub returns-clause-few : goal.returns-clause-few
returns-clause-few c few =
    let g = c.args.goto.now in
    let limits = c.args.bounds.now in
    let most = few_objects (view_core c.args.file.now) limits (length g.store + allocations g limits) few (sym c.in_ok-passed.ensures ∙ c.in_default.is) in
    let all = unrolled_makes g limits (omega (arith, c.unwind-unwind.ensures.is, c.unwind-unwind.ensures.positive)) c.main_number-main.ensures.within in
    subst (λ (u : Flat). MakesFew (length u.store) (flat.plain_thread u)) (sym c.in_ok-unrolled.ensures) (makes_few (unrolled g limits) (omega (arith, most, all)) (flat_none g limits))
