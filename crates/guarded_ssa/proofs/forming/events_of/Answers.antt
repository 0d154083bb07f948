use Rattle.std.proofs.Common.{ap, sym, ◌∷◌, ◌<◌, List, subst, arith, length, Some, None, refl}
use Rattle.std.specs.Prelude.{replicate}
use Rattle.word_dag.proofs.Grown.{extends_more}
use Rattle.goto_prog.specs.declared.code.Instruction.{Instruction}
use Rattle.goto_prog.specs.declared.code.Operation.TheVariants as operations
use Rattle.goto_prog.specs.CodeThread.{first_memory}
use Rattle.event_forms.specs.Forms.{AreStatic}
use Rattle.event_forms.proofs.Stays.{none_static}
use Rattle.guarded_ssa.proofs.Visiting.{started, start_size, fits_in, visits_own, variables_own, variables_next, visited, visited_none, visited_all, static_in}
use Rattle.guarded_ssa.proofs.forming.events_of.Goals as goal

pub loop-place-init : goal.loop-place-init
loop-place-init c =
    let start = started c.in_ok-plan.plan.code.now c.args.code.now c.start.new.dag c.in_ok-pass.pass c.in_ok-plan.ensures.code c.in_ok-pass.ensures.within c.in_ok-pass.ensures.arrivals in
    record {
      extends = c.start.ensures.extends;
      few = omega arith;
      within = start.0;
      size = start_size c.start.new.dag c.in_ok-pass.pass.trees c.args.code.now c.in_ok-pass.pass.pending.items (first_memory c.args.code.now) (length c.args.code.now.instructions) start.1;
      static = λ static. subst (AreStatic c.start.new.dag) (sym c.in_ok-pass.ensures.events) (none_static c.start.new.dag);
      goes = visited_none c.args.code.now (λ v. Some (first_memory c.args.code.now) ∷ replicate (length c.args.code.now.instructions) None) c.start.new.dag c.in_ok-pass.pass c.in_ok-pass.ensures.events start.1;
    }

pub visit-requires-clause-fits : goal.visit-requires-clause-fits
visit-requires-clause-fits c = fits_in c.args.code.now _ _ _ _ c.in_ok-plan.ensures.code c.instructions-instructions.ensures.is c.instructions-instructions.ensures.fits c.loop-place-test.true

pub visit-requires-clause-variables : goal.visit-requires-clause-variables
visit-requires-clause-variables c =
    let z : Instruction = record { line = 0; function = 0; operation = operations.Constant 0 0 } in
    variables_own c.args.code.now c.in_ok-plan.plan.code.now c.blocks-in-loop-place.result.now c.instructions-instructions.result.now c.loop-place.place c.loop-place.variable c.variables_of.result _ z c.in_ok-plan.ensures.code c.blocks-in-loop-place.ensures c.variables_of.ensures refl (omega (arith, c.if-next-gt4294967296.false))

pub loop-place-preserved : goal.loop-place-preserved
loop-place-preserved c =
    let z : Instruction = record { line = 0; function = 0; operation = operations.Constant 0 0 } in
    let visits = visits_own c.in_ok-plan.plan.until.items c.args.code.now c.in_ok-plan.plan.code.now c.instructions-instructions.result.now c.loop-place.place c.loop-place.variable z c.loop-place.dag c.visit.new.dag c.loop-place.pass c.visit.new.self
    c.in_ok-plan.ensures.code c.instructions-instructions.ensures.is c.in_ok-visit.ensures.visits in
    record {
      extends = extends_more _ _ _ c.loop-place.invariant.extends c.visit.ensures.extends;
      few = omega (arith, c.if-next-gt4294967296.false);
      within = visits.within;
      size = omega (arith, visits.size, c.loop-place.invariant.size);
      static = λ static. visits.static (static_in c.args.code.now _ _ _ refl static (subst (λ (xs : List Instruction). c.loop-place.place < length xs) c.instructions-instructions.ensures.is c.loop-place-test.true)) (c.loop-place.invariant.static static);
      goes = visited c.in_ok-plan.plan.until.items c.args.code.now c.loop-place.place c.loop-place.variable _ z (λ v. Some (first_memory c.args.code.now) ∷ replicate (length c.args.code.now.instructions) None) c.loop-place.dag c.visit.new.dag c.loop-place.pass c.visit.new.self
          (subst (λ (xs : List Instruction). c.loop-place.place < length xs) c.instructions-instructions.ensures.is c.loop-place-test.true) (variables_next c.args.code.now c.blocks-in-loop-place.result.now c.instructions-instructions.result.now c.loop-place.place c.loop-place.variable c.variables_of.result _ z c.blocks-in-loop-place.ensures c.instructions-instructions.ensures.is c.variables_of.ensures refl) c.in_ok-plan.ensures.covers visits c.loop-place.invariant.goes;
    }

pub returns-clause-told : goal.returns-clause-told
returns-clause-told c =
    visited_all c.args.code.now c.loop-place.place c.loop-place.variable (λ v. Some (first_memory c.args.code.now) ∷ replicate (length c.args.code.now.instructions) None) c.loop-place.dag c.loop-place.pass (omega (arith, c.loop-place-test.false, ap length c.instructions-instructions.ensures.is)) c.loop-place.invariant.goes
