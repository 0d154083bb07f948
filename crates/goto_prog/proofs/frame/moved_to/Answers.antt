use Rattle.std.proofs.Common.{◌*◌, ◌%◌, ◌<◌, ◌^◌, w64, ap, subst, ◌∙◌}
use Rattle.std.proofs.lemmas.Int.{to_z-of_z}
use Rattle.words.specs.Operators.{wrapped}
use Rattle.c_types.specs.Integers.{width}
use Rattle.core_tree.specs.Operations.{number}
use Rattle.c_values.specs.Pointers.{further}
use Rattle.goto_prog.proofs.Distances.{number_fits, step_fits, moved_low}
use Rattle.goto_prog.proofs.frame.moved_to.Goals as goal

pub returns-clause-is : goal.returns-clause-is
returns-clause-is c =
    let t = c.args.index.type in
    let i = number t c.args.index.bits in
    let small = subst (λ n. n < 2 ^ width t) c.bits-bits.ensures.value c.bits-bits.ensures.within in
    let first = c.low_half.ensures in
    let second = c.low_step-factor.ensures ∙ ap (wrapped 32) (to_z-of_z w64 c.args.step c.ranges.step) in
    c.further.ensures
    ∙ ap (further c.args.at) (λ k. (first k * second k) % 2 ^ 32)
    ∙ moved_low c.args.at i c.args.step (number_fits t c.args.index.bits small) (step_fits c.args.step c.ranges.step)
