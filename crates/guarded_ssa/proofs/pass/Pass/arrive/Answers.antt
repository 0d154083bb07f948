use Rattle.std.proofs.Common.{refl, arith, ◌+◌}
use Rattle.guarded_ssa.proofs.Arriving.{arrives_there, arrives_past, arrives_never}
use Rattle.guarded_ssa.proofs.pass.Pass.arrive.Goals as goal

pub met-requires-clause-slot : goal.met-requires-clause-slot
met-requires-clause-slot c = record { plan = c.requires.plan; within = c.requires.slot }

pub returns-then-n-len-clause-arrives : goal.returns-then-n-len-clause-arrives
returns-then-n-len-clause-arrives c = arrives_past _ c.args.plan.now.code.now c.args.here.place c.args.n c.args.here.slot c.args.dag.now c.args.self.now c.requires.within (omega (arith, c.args.self.now.pending.ok.0))

pub returns-then-is_never-clause-arrives : goal.returns-then-is_never-clause-arrives
returns-then-is_never-clause-arrives c = arrives_never _ c.args.plan.now.code.now c.args.here.place c.args.n c.args.here.slot c.args.dag.now c.args.self.now c.requires.within (c.if-is_never.ensures refl)

pub returns-clause-arrives : goal.returns-clause-arrives
returns-clause-arrives c =
    arrives_there _ c.args.plan.now.code.now c.args.here.place (c.args.here.place + 1 + c.args.n) c.args.n c.args.here.slot c.in_ok-met.met c.index-there.result.now _ c.args.dag.now c.met.new.dag c.args.self.now _ c.met.ensures.extends c.met.ensures.keeps c.requires.within c.in_ok-met.ensures.within
    (omega (arith, c.args.self.now.pending.ok.0)) refl c.index-there.ensures c.in_ok-met.ensures.alike refl refl
