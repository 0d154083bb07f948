use Rattle.word_dag.proofs.Grown.{extends_more}
use Rattle.mem_seq.proofs.Building.{formula_in, is_form_later, static_later}
use Rattle.mem_seq.proofs.Following.{test_of_others, formula_over, goal_over}
use Rattle.mem_seq.proofs.formula.sequential.Goals as goal

pub returns-clause-within : goal.returns-clause-within
returns-clause-within c = formula_in c.args.dag.now c.notes.new.dag c.goal.new.dag _ c.args.form.now _ c.in_ok-copied.ensures c.notes.ensures.extends c.goal.ensures.extends c.requires.within c.in_ok-goal.ensures.made

pub returns-clause-plain : goal.returns-clause-plain
returns-clause-plain c = static_later c.args.dag.now c.goal.new.dag _ c.args.form.now c.in_ok-copied.ensures (extends_more c.args.dag.now c.notes.new.dag c.goal.new.dag c.notes.ensures.extends c.goal.ensures.extends) c.requires.plain

pub returns-clause-form : goal.returns-clause-form
returns-clause-form c = λ t form.
    is_form_later c.args.dag.now c.notes.new.dag c.goal.new.dag _ c.args.form.now t c.in_ok-copied.ensures c.notes.ensures.extends c.goal.ensures.extends c.requires.within form

pub returns-clause-formula : goal.returns-clause-formula
returns-clause-formula c = λ t all form.
    formula_over c.args.dag.now c.goal.new.dag _ c.args.form.now t c.in_ok-copied.ensures c.nodes.ensures.ordered (extends_more c.args.dag.now c.notes.new.dag c.goal.new.dag c.notes.ensures.extends c.goal.ensures.extends) c.requires.within (c.has_room.ensures c.if-not-has_room.false)
    (test_of_others c.args.dag.now c.notes.new.dag c.goal.new.dag c.in_ok-goal.goal c.args.form.now _ _ _ _ _ c.store.ensures c.store-2.ensures c.deref.ensures.value c.events.ensures c.in_ok-noted.ensures.same c.in_ok-goal.ensures.made) all form

pub returns-clause-runs : goal.returns-clause-runs
returns-clause-runs c = λ t all form.
    goal_over c.args.dag.now c.goal.new.dag _ c.args.form.now t c.in_ok-copied.ensures c.nodes.ensures.ordered (extends_more c.args.dag.now c.notes.new.dag c.goal.new.dag c.notes.ensures.extends c.goal.ensures.extends) c.requires.within (c.has_room.ensures c.if-not-has_room.false)
    (test_of_others c.args.dag.now c.notes.new.dag c.goal.new.dag c.in_ok-goal.goal c.args.form.now _ _ _ _ _ c.store.ensures c.store-2.ensures c.deref.ensures.value c.events.ensures c.in_ok-noted.ensures.same c.in_ok-goal.ensures.made) all form
