use Rattle.std.proofs.Common.{◌≡◌, slice_index, rules, arith}
use Rattle.c_changes.proofs.OpenLeft.{one_of_total}
use Rattle.c_changes.proofs.activations.close_activation.Goals as goal

pub overflow_add-more : goal.overflow_add-more
overflow_add-more c =
    let here : slice_index c.args.left.now.items c.args.function ≡ c.in-Some.more.now = search rules in
    let h = one_of_total c.args.left.now.items c.args.function in
    omega (arith, here, h, c.requires)
