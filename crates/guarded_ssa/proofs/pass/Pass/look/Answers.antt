use Rattle.std.proofs.Common.{refl}
use Rattle.guarded_ssa.specs.declared.pass.Pass.{Pass}
use Rattle.word_dag.proofs.Grown.{extends_more}
use Rattle.event_forms.proofs.Stays.{word_stays}
use Rattle.guarded_ssa.proofs.Stays.{pass_moves, slot_grows}
use Rattle.guarded_ssa.proofs.Passing.{passes_look, event_in, drawn_word}
use Rattle.guarded_ssa.proofs.pass.Pass.look.Goals as goal

pub put-requires-clause-within : goal.put-requires-clause-within
put-requires-clause-within c = slot_grows _ _ (extends_more _ _ _ c.make.ensures.extends c.make-2.ensures.extends) _ _ _ c.requires.reached.slot

pub tell_and_go-requires-clause-reached : goal.tell_and_go-requires-clause-reached
tell_and_go-requires-clause-reached c =
    let grown : Pass = record { events = c.args.self.now.events; pending = c.args.self.now.pending; trees = c.put.new.trees } in
    record {
      plan = c.requires.reached.plan;
      room = c.requires.reached.room;
      within = pass_moves _ _ (extends_more _ _ _ c.make.ensures.extends c.make-2.ensures.extends) c.args.plan.now.code.now c.args.self.now grown c.put.ensures.keeps refl refl c.requires.reached.within;
      slot = c.in_ok-next.ensures.within;
    }

pub tell_and_go-requires-clause-event : goal.tell_and_go-requires-clause-event
tell_and_go-requires-clause-event c =
    event_in _ _ _ c.args.plan.now.code.now c.args.here.slot _ _ _ (extends_more _ _ _ c.make.ensures.extends c.make-2.ensures.extends) c.requires.reached.slot
    (word_stays _ _ (extends_more _ _ _ c.make.ensures.extends c.make-2.ensures.extends) _ 64 c.pointer-at.ensures.word, drawn_word _ _ _ _ _ _ c.make-2.ensures.extends c.in_ok-answer.ensures.made)

pub returns-clause-passes : goal.returns-clause-passes
returns-clause-passes c =
    let grown : Pass = record { events = c.args.self.now.events; pending = c.args.self.now.pending; trees = c.put.new.trees } in
    passes_look _ _ _ _ _ _ c.args.into c.args.pointer c.args.subscript c.args.dag.now c.make.new.self c.make-2.new.self c.tell_and_go.new.dag c.args.here.slot c.in_ok-next.next _ c.in_ok-answer.answer c.in_ok-size.size c.args.self.now grown _ c.make.ensures.extends c.make-2.ensures.extends
    c.requires.reached.within c.put.ensures.keeps refl refl c.requires.reached.slot c.pointer-at.ensures.word c.pointer-at.ensures.value c.in_ok-answer.ensures.made c.in_ok-size.ensures.made c.in_ok-next.ensures.guarded c.in_ok-tell_and_go.ensures.tells

pub returns-in_err-tell_and_go-clause-extends : goal.returns-in_err-tell_and_go-clause-extends
returns-in_err-tell_and_go-clause-extends c = extends_more _ _ _ (extends_more _ _ _ c.make.ensures.extends c.make-2.ensures.extends) c.tell_and_go.ensures.extends

pub returns-clause-extends : goal.returns-clause-extends
returns-clause-extends c = extends_more _ _ _ (extends_more _ _ _ c.make.ensures.extends c.make-2.ensures.extends) c.tell_and_go.ensures.extends
