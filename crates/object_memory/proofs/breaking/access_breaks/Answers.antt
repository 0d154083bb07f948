use Rattle.std.proofs.Common.{◌∙◌}
use Rattle.std.specs.Prelude.{if◌then◌else◌}
use Rattle.actions.specs.Pointer.{object_of}
use Rattle.actions.specs.Objects.{object_at}
use Rattle.words.specs.declared.check.Class.TheVariants as class
use Rattle.word_dag.specs.Meaning.{value}
use Rattle.word_dag.proofs.Grown.{extends_more}
use Rattle.object_memory.specs.declared.breaking.Question.TheVariants.{Outside, Constant}
use Rattle.object_memory.specs.Failings.{class_or, class_if}
use Rattle.object_memory.specs.Hits.{truly}
use Rattle.object_memory.proofs.Pointed.{places_stay, hits_stay}
use Rattle.object_memory.proofs.Broken.{told_access, answered_at, object_cells}
use Rattle.object_memory.proofs.breaking.access_breaks.Goals as goal

pub note_answer-requires-clause-places : goal.note_answer-requires-clause-places
note_answer-requires-clause-places c = places_stay c.args.dag.now c.look_breaks.new.dag c.args.places.now c.look_breaks.ensures.extends c.requires.places

pub note_answer-requires-clause-hits : goal.note_answer-requires-clause-hits
note_answer-requires-clause-hits c = hits_stay c.args.dag.now c.look_breaks.new.dag _ c.args.hits.now c.look_breaks.ensures.extends c.requires.hits

pub note_constant-requires-clause-places : goal.note_constant-requires-clause-places
note_constant-requires-clause-places c = places_stay c.args.dag.now c.note_answer.new.dag c.args.places.now (extends_more c.args.dag.now c.look_breaks.new.dag c.note_answer.new.dag c.look_breaks.ensures.extends c.note_answer.ensures.extends) c.requires.places

pub note_constant-requires-clause-hits : goal.note_constant-requires-clause-hits
note_constant-requires-clause-hits c = hits_stay c.args.dag.now c.note_answer.new.dag _ c.args.hits.now (extends_more c.args.dag.now c.look_breaks.new.dag c.note_answer.new.dag c.look_breaks.ensures.extends c.note_answer.ensures.extends) c.requires.hits

pub returns-clause-first : goal.returns-clause-first
returns-clause-first c = λ v objects are found.
    let x1 = c.look_breaks.ensures.extends in
    let x2 = extends_more c.args.dag.now c.look_breaks.new.dag c.note_answer.new.dag x1 c.note_answer.ensures.extends in
    let p = value v c.args.dag.now c.args.p in
    let outside = answered_at (Outside c.args.count) v c.args.dag.now c.look_breaks.new.dag c.args.places.now c.args.hits.now p objects x1 c.requires.places c.requires.hits are found in
    let constant = answered_at Constant v c.args.dag.now c.note_answer.new.dag c.args.places.now c.args.hits.now p objects x2 c.requires.places c.requires.hits are found in
    let bounds = c.in_ok-note_answer.ensures.first v ∙ (λ i. class_or (c.in_ok-breaks.ensures.first v objects are found i) (class_if (outside i) class.Bounds)) in
    c.in_ok-note_constant.ensures.first v ∙ (λ i. if c.args.writes then class_or (bounds i) (class_if (constant i) class.Readonly) else bounds i)
    ∙ told_access c.args.writes p c.args.count (object_at objects (object_of p)) (object_cells v c.args.dag.now c.args.places.now (truly v c.args.dag.now c.args.hits.now) p objects are found)
