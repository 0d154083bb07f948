use Rattle.std.proofs.Common.{arith}
use Rattle.std.proofs.lemmas.Grind.{common_steps}
use Rattle.c_pre.specs.Known.{findings_of}
use Rattle.c_pre.proofs.Keeping.{keeps_more}
use Rattle.c_pre.proofs.macros.define_all.Goals as goal

pub returns-then-not-branch-clause-keeps : goal.returns-then-not-branch-clause-keeps
returns-then-not-branch-clause-keeps c =
    keeps_more c.args.bytes.now c.args.macros.now.entries c.loop-row.macros.entries c.define.new.macros.entries (findings_of c.args.known.now) (findings_of c.loop-row.known) (findings_of c.define.new.known)
    c.loop-row.invariant.keeps c.in_ok-define.ensures.keeps

pub loop-row-preserved : goal.loop-row-preserved
loop-row-preserved c = record {
  defined = grind (arith, common_steps);
  keeps = keeps_more c.args.bytes.now c.args.macros.now.entries c.loop-row.macros.entries c.define.new.macros.entries (findings_of c.args.known.now) (findings_of c.loop-row.known) (findings_of c.define.new.known)
      c.loop-row.invariant.keeps c.in_ok-define.ensures.keeps;
}
