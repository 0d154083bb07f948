use Rattle.std.proofs.Common.{◌≡◌, ◌<◌, true, false, List, length, slice_get, ap, sym, ◌∙◌, subst, arith}
use Rattle.goto_prog.specs.declared.nodes.Procedure.{Procedure}
use Rattle.goto_prog.specs.Nodes.{view_procedure, view_procedures, routines_fit}
use Rattle.goto_prog.specs.CodeThread.{Listing}
use Rattle.goto_prog.specs.UnrolledCode.{is_flat_code}
use Rattle.goto_unwind.specs.Program.{first_listing}
use Rattle.goto_unwind.specs.Unroller.{making}
use Rattle.goto_unwind.proofs.Starts.{listing_is, all_fits, all_flat, some_there}
use Rattle.goto_unwind.proofs.unroller.unrolled_main.Goals as goal

pub returns-clause-is : goal.returns-clause-is
returns-clause-is c =
    let limits = c.args.bounds.now in
    let number = c.main_number-number.result in
    let procedures = c.procedures-procedures.result.now in
    let p = view_procedure c.in-Some.procedure.now in
    let positive : 0 < limits.unwind = omega (arith, c.unwind-unwind.ensures.is, c.unwind-unwind.ensures.positive) in
    c.finished.ensures
    ∙ listing_is (view_procedures procedures) limits number p positive (sym c.in-Some.ensures) (making c.in_ok-unroller-in-Some.unroller) (making c.run.new.self) c.in_ok-unroller-in-Some.ensures c.in_ok-run-in-Some.ensures.same c.in_ok-run-in-Some.ensures.none
    ∙ ap (λ (ps : List Procedure). first_listing (record { strict = false; functions = view_procedures ps; limits = limits }) number (slice_get (view_procedures ps) number)) c.procedures-procedures.ensures.is
    ∙ ap (λ n. first_listing (record { strict = false; functions = view_procedures c.args.goto.now.functions; limits = limits }) n (slice_get (view_procedures c.args.goto.now.functions) n)) c.main_number-number.ensures.is

pub finished-requires : goal.finished-requires
finished-requires c =
    let limits = c.args.bounds.now in
    let number = c.main_number-number.result in
    let procedures = c.procedures-procedures.result.now in
    let p = view_procedure c.in-Some.procedure.now in
    let positive : 0 < limits.unwind = omega (arith, c.unwind-unwind.ensures.is, c.unwind-unwind.ensures.positive) in
    all_fits (view_procedures procedures) limits number p positive (sym c.in-Some.ensures) (making c.in_ok-unroller-in-Some.unroller) (making c.run.new.self) c.in_ok-unroller-in-Some.ensures c.in_ok-run-in-Some.ensures.same c.in_ok-run-in-Some.ensures.none
    (subst (λ (ps : List Procedure). routines_fit (view_procedures ps) ≡ true) (sym c.procedures-procedures.ensures.is) c.procedures-procedures.ensures.fits)

pub unreachable-requires : goal.unreachable-requires
unreachable-requires c =
    some_there c.procedures-procedures.result.now c.main_number-number.result
    (subst (λ (ps : List Procedure). c.main_number-number.result < length ps) (sym c.procedures-procedures.ensures.is) (subst (λ n. n < length c.args.goto.now.functions) (sym c.main_number-number.ensures.is) c.main_number-number.ensures.within))
    c.in-None.ensures

pub returns-clause-flat : goal.returns-clause-flat
returns-clause-flat c =
    let limits = c.args.bounds.now in
    let number = c.main_number-number.result in
    let procedures = c.procedures-procedures.result.now in
    let p = view_procedure c.in-Some.procedure.now in
    let positive : 0 < limits.unwind = omega (arith, c.unwind-unwind.ensures.is, c.unwind-unwind.ensures.positive) in
    subst (λ (l : Listing). is_flat_code l ≡ true) (sym c.finished.ensures)
    (all_flat (view_procedures procedures) limits number p positive (sym c.in-Some.ensures) (making c.in_ok-unroller-in-Some.unroller) (making c.run.new.self) c.in_ok-unroller-in-Some.ensures c.in_ok-run-in-Some.ensures.same c.in_ok-run-in-Some.ensures.none
    (subst (λ (ps : List Procedure). routines_fit (view_procedures ps) ≡ true) (sym c.procedures-procedures.ensures.is) c.procedures-procedures.ensures.fits))
