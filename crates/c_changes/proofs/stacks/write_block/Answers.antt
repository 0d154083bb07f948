use Rattle.std.proofs.Common.{◌≡◌, get_or, rules}
use Rattle.c_tasks.proofs.Sizes.{same_sizes}
use Rattle.c_changes.proofs.stacks.write_block.Goals as goal

pub returns-in-Some-clause-sizes : goal.returns-in-Some-clause-sizes
returns-in-Some-clause-sizes c =
    let here : get_or c.args.variables.now.items c.args.variable c.in-Some.block.now ≡ c.in-Some.block.now = search rules in
    same_sizes c.args.variables.now.items c.args.variable c.put_block.new.self c.in-Some.block.now here c.put_block.ensures.len
