use Rattle.std.proofs.Common.{◌<◌, ◌^◌, length, arith}
use Rattle.report.proofs.MaximalRows.{rows_fit}
use Rattle.report.proofs.failing.prove_rows.Goals as goal

pub returns : goal.returns
returns c =
    let few : length c.args.schedule.now < 2 ^ 64 = omega (arith, c.requires) in
    rows_fit c.args.schedule.now c.type_inv.schedule few
