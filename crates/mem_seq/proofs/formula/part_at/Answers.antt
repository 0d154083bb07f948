use Rattle.std.proofs.Common.{subst}
use Rattle.mem_seq.specs.Notes.{IsNote}
use Rattle.word_dag.proofs.Grown.{extends_itself}
use Rattle.mem_seq.proofs.Building.{passes_part, breaks_part}
use Rattle.mem_seq.proofs.formula.part_at.Goals as goal

pub returns-in-Passes-clause-made : goal.returns-in-Passes-clause-made
returns-in-Passes-clause-made c = λ stores note.
    passes_part c.args.dag.now c.args.dag.now c.args.event.now stores (subst (IsNote stores c.args.dag.now c.args.event.now) c.in-Passes.is note)

pub returns-in-Breaks-clause-made : goal.returns-in-Breaks-clause-made
returns-in-Breaks-clause-made c = λ stores note.
    breaks_part c.args.dag.now c.args.dag.now c.args.event.now stores (extends_itself c.args.dag.now) c.requires.event (subst (IsNote stores c.args.dag.now c.args.event.now) c.in-Breaks.is note)
