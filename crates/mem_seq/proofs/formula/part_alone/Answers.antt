use Rattle.std.proofs.Common.{[]}
use Rattle.word_dag.proofs.Grown.{extends_itself}
use Rattle.mem_seq.proofs.Building.{passes_part, breaks_part}
use Rattle.mem_seq.proofs.Noted.{draw_note, broken_read_alone, broken_write_alone}
use Rattle.mem_seq.proofs.formula.part_alone.Goals as goal

pub returns-in-Draw-clause-made : goal.returns-in-Draw-clause-made
returns-in-Draw-clause-made c =
    passes_part c.args.dag.now c.args.dag.now c.args.event.now (λ v. []) (draw_note c.args.dag.now c.args.event.now (λ v. []) c.in-Draw.bits c.in-Draw.answer c.in-Draw.is)

pub returns-in-Read-clause-made : goal.returns-in-Read-clause-made
returns-in-Read-clause-made c = breaks_part c.args.dag.now c.args.dag.now c.args.event.now (λ v. []) (extends_itself c.args.dag.now) c.requires.event (broken_read_alone c.args.dag.now c.args.event.now _ _ _ c.in-Read.is)

pub returns-in-Write-clause-made : goal.returns-in-Write-clause-made
returns-in-Write-clause-made c = breaks_part c.args.dag.now c.args.dag.now c.args.event.now (λ v. []) (extends_itself c.args.dag.now) c.requires.event (broken_write_alone c.args.dag.now c.args.event.now _ _ _ c.in-Write.is c.requires.plain)
