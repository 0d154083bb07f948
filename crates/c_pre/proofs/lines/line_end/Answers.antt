use Rattle.std.proofs.Common.{◌∙◌, arith}
use Rattle.c_pre.proofs.Splitting.{glued_init, glued_next}
use Rattle.c_pre.proofs.lines.line_end.Goals as goal

pub loop-end-init : goal.loop-end-init
loop-end-init c = record { some = omega arith; within = omega (arith, c.requires); glued = glued_init c.args.tokens.now c.requires }

pub loop-end-preserved : goal.loop-end-preserved
loop-end-preserved c = record {
  some = omega arith;
  within = omega (arith, c.loop-end-test.true);
  glued = c.loop-end.invariant.glued ∙ glued_next c.args.tokens.now c.loop-end.end _ c.loop-end-test.true c.if-tokens-end.false;
}
