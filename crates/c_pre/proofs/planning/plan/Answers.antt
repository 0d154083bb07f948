use Rattle.c_pre.specs.Views.{macros_in}
use Rattle.c_pre.proofs.Told.{learns_more}
use Rattle.c_pre.proofs.planning.plan.Goals as goal

pub returns-clause-learns : goal.returns-clause-learns
returns-clause-learns c =
    learns_more c.args.bytes.now (macros_in c.args.macros.now.entries) c.args.known.now c.loop-last.known c.note_lasting.new.known c.loop-last.invariant c.in_ok-note_lasting.ensures.learns
