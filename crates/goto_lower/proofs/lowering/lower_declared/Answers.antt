use Rattle.std.proofs.Common.{false}
use Rattle.goto_lower.proofs.lowering.lower_declared.Goals as goal

pub returns : goal.returns
returns c = λ literals i. record {
  name = c.in_ok-copy_name.ensures i;
  line = c.args.function.now.line;
  registers = c.in_ok-one_register.ensures i;
  blocks = c.new.ensures.items i;
  nodes = c.in_ok-breaking.ensures literals i;
  startable = false;
}
