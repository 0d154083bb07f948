use Rattle.std.proofs.Common.{length, ap, arith}
use Rattle.goto_prog.specs.CodeThread.{first_memory}
use Rattle.guarded_ssa.proofs.Arriving.{followed_arrivals}
use Rattle.guarded_ssa.proofs.pass.Pass.start.Goals as goal

pub start-requires : goal.start-requires
start-requires c = omega (arith, c.in_ok-trees.ensures, ap length c.requires.types)

pub returns-clause-arrivals : goal.returns-clause-arrivals
returns-clause-arrivals c = λ v. followed_arrivals v c.start.new.dag c.in_ok-trees.trees c.args.plan.now.code.now c.in_ok-slot.slot (first_memory c.args.plan.now.code.now) _ _ _ (c.in_ok-slot.ensures.guarded v) c.instructions.ensures.is c.in_ok-pending.ensures
