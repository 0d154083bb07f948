use Rattle.std.proofs.Common.{◌<◌, length, arith}
use Rattle.guarded_ssa.proofs.Planned.{owner_read, needed_is}
use Rattle.guarded_ssa.proofs.registers.is_needed.Goals as goal

pub index-requires-2 : goal.index-requires-2
index-requires-2 c =
    let lt : c.args.cell < length c.args.plan.now.owner.items = omega (arith, c.if-cell-len.false, c.len.ensures, c.args.plan.now.owner.ok) in
    omega (arith, owner_read c.args.plan.now c.requires c.args.cell c.index.result.now lt c.index.ensures, c.args.plan.now.until.ok)

pub returns : goal.returns
returns c =
    let lt : c.args.cell < length c.args.plan.now.owner.items = omega (arith, c.if-cell-len.false, c.len.ensures, c.args.plan.now.owner.ok) in
    needed_is c.args.plan.now.until.items c.args.plan.now.owner.items c.args.place c.args.cell c.index.result.now c.index-2.result.now lt c.index.ensures (owner_read c.args.plan.now c.requires c.args.cell c.index.result.now lt c.index.ensures) c.index-2.ensures
