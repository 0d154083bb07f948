use Rattle.std.proofs.Common.{ℕ, List, refl, sym, ap, subst}
use Rattle.std.specs.Prelude.{slice_index}
use Rattle.word_dag.proofs.Grown.{extends_more}
use Rattle.goto_prog.proofs.Registers.{test_below}
use Rattle.event_forms.specs.Forms.{AreWords}
use Rattle.guarded_ssa.specs.declared.pass.Pass.{Pass}
use Rattle.event_forms.proofs.Stays.{word_stays, words_stay}
use Rattle.guarded_ssa.proofs.Stays.{pass_moves, slot_grows}
use Rattle.guarded_ssa.proofs.Passing.{passes_filled, event_in}
use Rattle.guarded_ssa.proofs.pass.Pass.fill.Goals as goal

pub with_words_drawn-requires-clause-slot : goal.with_words_drawn-requires-clause-slot
with_words_drawn-requires-clause-slot c = record { plan = c.requires.reached.plan; within = slot_grows _ _ c.answer_words.ensures.extends _ _ _ c.requires.reached.slot }

pub tell_and_go-requires-clause-reached : goal.tell_and_go-requires-clause-reached
tell_and_go-requires-clause-reached c =
    let grown : Pass = record { events = c.args.self.now.events; pending = c.args.self.now.pending; trees = c.with_words_drawn.new.trees } in
    record {
      plan = c.requires.reached.plan;
      room = c.requires.reached.room;
      within = pass_moves _ _ (extends_more _ _ _ c.answer_words.ensures.extends c.with_words_drawn.ensures.extends) c.args.plan.now.code.now c.args.self.now grown c.with_words_drawn.ensures.keeps refl refl c.requires.reached.within;
      slot = c.in_ok-next.ensures.within;
    }

pub tell_and_go-requires-clause-event : goal.tell_and_go-requires-clause-event
tell_and_go-requires-clause-event c =
    let grown = extends_more _ _ _ c.answer_words.ensures.extends c.with_words_drawn.ensures.extends in
    event_in _ _ _ c.args.plan.now.code.now c.args.here.slot _ _ _ grown c.requires.reached.slot
    (word_stays _ _ grown _ 64 c.pointer-number.ensures.word, subst (AreWords c.with_words_drawn.new.dag c.at_most-most.result) (sym c.new.ensures) (words_stay _ _ c.with_words_drawn.ensures.extends c.at_most-most.result _ c.in_ok-words.ensures.words))

pub returns-clause-passes : goal.returns-clause-passes
returns-clause-passes c =
    let grown : Pass = record { events = c.args.self.now.events; pending = c.args.self.now.pending; trees = c.with_words_drawn.new.trees } in
    passes_filled _ _ _ _ _ _ c.args.block c.args.count c.at_most-most.result _ c.args.dag.now c.answer_words.new.dag c.with_words_drawn.new.dag c.tell_and_go.new.dag c.args.here.slot c.in_ok-next.next c.pointer-number.result c.new.result c.in_ok-words.words.items c.deref.result.now c.args.self.now grown _
    c.answer_words.ensures.extends c.with_words_drawn.ensures.extends c.requires.reached.within c.with_words_drawn.ensures.keeps refl refl c.requires.reached.slot c.pointer-number.ensures.word c.pointer-number.ensures.value (ap (λ (xs : List ℕ). slice_index xs c.args.block) c.blocks-2.ensures) c.at_most-most.ensures.few (test_below _ _ c.requires.block)
    c.at_most-most.ensures.same c.new.ensures c.deref.ensures.value c.in_ok-words.ensures.words c.in_ok-words.ensures.values c.in_ok-next.ensures.guarded c.in_ok-tell_and_go.ensures.tells

pub returns-in_err-tell_and_go-clause-extends : goal.returns-in_err-tell_and_go-clause-extends
returns-in_err-tell_and_go-clause-extends c = extends_more _ _ _ (extends_more _ _ _ c.answer_words.ensures.extends c.with_words_drawn.ensures.extends) c.tell_and_go.ensures.extends

pub returns-clause-extends : goal.returns-clause-extends
returns-clause-extends c = extends_more _ _ _ (extends_more _ _ _ c.answer_words.ensures.extends c.with_words_drawn.ensures.extends) c.tell_and_go.ensures.extends
