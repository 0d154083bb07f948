use Rattle.std.proofs.Common.{◌∙◌}
use Rattle.object_memory.specs.Failings.{class_or, class_if}
use Rattle.object_memory.proofs.Pointed.{test_is}
use Rattle.object_memory.proofs.Broken.{failings_stay, first_stays}
use Rattle.object_memory.proofs.breaking.note_answer.Goals as goal

pub note-requires-clause-breaks : goal.note-requires-clause-breaks
note-requires-clause-breaks c = failings_stay c.args.dag.now c.answer.new.dag c.args.breaks.now.items c.answer.ensures.extends c.requires.breaks

pub returns-clause-first : goal.returns-clause-first
returns-clause-first c = λ v.
    c.in_ok-note.ensures.first v ∙ (λ i. class_or (first_stays v c.args.dag.now c.answer.new.dag c.args.breaks.now.items c.answer.ensures.extends c.requires.breaks i) (class_if (test_is c.answer.new.dag c.in_ok-test.test _ c.in_ok-test.ensures.made v i) c.args.class))
