use Rattle.std.proofs.Common.{refl, sym, ap}
use Rattle.actions.specs.declared.action.Action.TheVariants as actions
use Rattle.guarded_ssa.specs.declared.pass.Pass.{Pass}
use Rattle.word_dag.proofs.Grown.{extends_more}
use Rattle.event_forms.proofs.Stays.{word_stays, fixed_stays}
use Rattle.guarded_ssa.proofs.Stays.{pass_moves, slot_grows}
use Rattle.guarded_ssa.proofs.Passing.{passes_read, event_in, same_bytes_of}
use Rattle.guarded_ssa.proofs.pass.Pass.read_object.Goals as goal

pub written-requires-clause-slot : goal.written-requires-clause-slot
written-requires-clause-slot c = record { plan = c.requires.reached.plan; within = slot_grows _ _ (extends_more _ _ _ c.fixed_pointer.ensures.extends c.read_answer.ensures.extends) _ _ _ c.requires.reached.slot }

pub tell_and_go-requires-clause-reached : goal.tell_and_go-requires-clause-reached
tell_and_go-requires-clause-reached c =
    let grown : Pass = record { events = c.args.self.now.events; pending = c.args.self.now.pending; trees = c.written.new.trees } in
    record {
      plan = c.requires.reached.plan;
      room = c.requires.reached.room;
      within = pass_moves _ _ (extends_more _ _ _ c.fixed_pointer.ensures.extends c.read_answer.ensures.extends) c.args.plan.now.code.now c.args.self.now grown c.written.ensures.keeps refl refl c.requires.reached.within;
      slot = c.in_ok-next.ensures.within;
    }

pub tell_and_go-requires-clause-event : goal.tell_and_go-requires-clause-event
tell_and_go-requires-clause-event c =
    event_in _ _ _ c.args.plan.now.code.now c.args.here.slot _ _ _ (extends_more _ _ _ c.fixed_pointer.ensures.extends c.read_answer.ensures.extends) c.requires.reached.slot
    (word_stays _ _ c.read_answer.ensures.extends _ 64 (record { there = c.in_ok-pointer.ensures.made.there; width_is = c.in_ok-pointer.ensures.made.width_is }), c.in_ok-answer.ensures.words)

pub returns-clause-passes : goal.returns-clause-passes
returns-clause-passes c =
    let grown : Pass = record { events = c.args.self.now.events; pending = c.args.self.now.pending; trees = c.written.new.trees } in
    passes_read _ _ _ _ _ _ c.args.into.0 c.args.into.1 c.args.count _ c.args.dag.now c.fixed_pointer.new.dag c.read_answer.new.dag c.tell_and_go.new.dag c.args.here.slot c.in_ok-next.next _ _ _ c.args.self.now grown _ refl
    c.fixed_pointer.ensures.extends c.read_answer.ensures.extends c.requires.reached.within c.written.ensures.keeps refl refl c.requires.reached.slot (λ static. fixed_stays _ _ c.read_answer.ensures.extends _ c.in_ok-pointer.ensures.fixed) c.in_ok-pointer.ensures.made.there
    (λ v. ap (λ p. actions.Read p c.args.count) (sym (c.in_ok-pointer.ensures.made.value_is v))) (λ v m. refl) c.in_ok-answer.ensures.values (same_bytes_of _ _ _ _ c.deref.ensures.value c.in_ok-answer.ensures.made) c.in_ok-next.ensures.guarded c.in_ok-tell_and_go.ensures.tells
