use Rattle.std.proofs.Common.{arith}
use Rattle.refutation_check.proofs.Lookups.{length-added_before}
use Rattle.refutation_check.proofs.moments.Moment.count.Goals as goal

pub overflow_add-result : goal.overflow_add-result
overflow_add-result c = omega (arith, length-added_before c.args.self.now.place c.args.self.now.log.now)
