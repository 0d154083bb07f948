use Rattle.std.proofs.Common.{refl}
use Rattle.guarded_ssa.specs.declared.pass.Pass.{Pass}
use Rattle.guarded_ssa.proofs.Stays.{pass_moves}
use Rattle.guarded_ssa.proofs.Passing.{passes_calculated}
use Rattle.guarded_ssa.proofs.pass.Pass.calculate.Goals as goal

pub calculated-requires-clause-slot : goal.calculated-requires-clause-slot
calculated-requires-clause-slot c = record { plan = c.requires.reached.plan; within = c.requires.reached.slot }

pub arrive-requires : goal.arrive-requires
arrive-requires c =
    let grown : Pass = record { events = c.args.self.now.events; pending = c.args.self.now.pending; trees = c.calculated.new.trees } in
    record {
      plan = c.requires.reached.plan;
      room = c.requires.reached.room;
      within = pass_moves _ _ c.calculated.ensures.extends c.args.plan.now.code.now c.args.self.now grown c.calculated.ensures.keeps refl refl c.requires.reached.within;
      slot = c.in_ok-next.ensures.within;
    }

pub returns-clause-passes : goal.returns-clause-passes
returns-clause-passes c =
    let grown : Pass = record { events = c.args.self.now.events; pending = c.args.self.now.pending; trees = c.calculated.new.trees } in
    passes_calculated _ _ _ _ _ _ c.args.operation c.args.dag.now c.calculated.new.dag c.arrive.new.dag c.args.here.slot c.in_ok-next.next c.args.self.now grown _ c.calculated.ensures.extends c.requires.reached.within c.calculated.ensures.keeps refl refl c.arrive.ensures.extends c.requires.calculation c.in_ok-next.ensures.guarded
    c.in_ok-arrive.ensures.arrives
