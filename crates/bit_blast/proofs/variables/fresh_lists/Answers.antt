use Rattle.std.proofs.Common.{ap, ◌∙◌, length, arith}
use Rattle.sat_form.specs.Satisfaction.{Literal}
use Rattle.std.specs.Prelude.{List}
use Rattle.bit_blast.proofs.Consecutive.{length-plain_literals, ListsTo-more}
use Rattle.bit_blast.proofs.variables.fresh_lists.Goals as goal

pub push-requires : goal.push-requires
push-requires c = omega (arith, ap (λ (ls : List Literal). length ls) c.in_ok-literals.ensures.literals ∙ length-plain_literals _ _, c.requires c.loop-width.width-index)

pub loop-width-preserved : goal.loop-width-preserved
loop-width-preserved c = ListsTo-more _ _ _ _ _ _ _ _ c.loop-width.invariant c.loop-width-test.true c.in_ok-literals.ensures.literals c.in_ok-literals.ensures.form c.in_ok-push.ensures.ok
