use Rattle.std.proofs.Common.{refl, sym, ap, ◌∙◌, false}
use Rattle.actions.specs.declared.action.Action.TheVariants as actions
use Rattle.goto_prog.specs.Meaning.{Memory, bytes_of}
use Rattle.cell_trees.proofs.Kept.{keeps_itself}
use Rattle.guarded_ssa.specs.inner.Held.{held}
use Rattle.guarded_ssa.proofs.Stays.{pass_stays, slot_grows, held_stays}
use Rattle.guarded_ssa.proofs.Passing.{passes_write, event_in, same_bytes_of}
use Rattle.guarded_ssa.proofs.pass.Pass.write_object.Goals as goal

pub bytes-requires-clause-slot : goal.bytes-requires-clause-slot
bytes-requires-clause-slot c = record { plan = c.requires.reached.plan; within = slot_grows _ _ c.fixed_pointer.ensures.extends _ _ _ c.requires.reached.slot }

pub tell_and_go-requires-clause-reached : goal.tell_and_go-requires-clause-reached
tell_and_go-requires-clause-reached c = record {
  plan = c.requires.reached.plan;
  room = c.requires.reached.room;
  within = pass_stays _ _ c.fixed_pointer.ensures.extends _ _ c.requires.reached.within;
  slot = slot_grows _ _ c.fixed_pointer.ensures.extends _ _ _ c.requires.reached.slot;
}

pub tell_and_go-requires-clause-event : goal.tell_and_go-requires-clause-event
tell_and_go-requires-clause-event c =
    event_in _ _ _ c.args.plan.now.code.now c.args.here.slot _ _ _ c.fixed_pointer.ensures.extends c.requires.reached.slot
    (record { there = c.in_ok-pointer.ensures.made.there; width_is = c.in_ok-pointer.ensures.made.width_is }, (same_bytes_of _ _ _ _ c.new.ensures c.in_ok-bytes.ensures.made).words)

pub returns-clause-passes : goal.returns-clause-passes
returns-clause-passes c =
    passes_write _ _ _ _ _ _ c.args.from.0 c.args.from.1 c.args.count false _ c.args.dag.now c.fixed_pointer.new.dag c.tell_and_go.new.dag c.args.here.slot _ _ c.args.self.now _ refl c.fixed_pointer.ensures.extends c.requires.reached.within c.requires.reached.slot (λ static. (c.in_ok-pointer.ensures.fixed, refl))
    (λ v. ap (λ p. actions.Write p (bytes_of (held v c.args.dag.now c.args.self.now.trees c.args.plan.now.code.now c.args.here.slot).blocks c.args.from.0 c.args.from.1 c.args.count) false) (sym (c.in_ok-pointer.ensures.made.value_is v))) (λ v. refl) (λ v m. refl)
    (λ v. (same_bytes_of _ _ _ _ c.new.ensures c.in_ok-bytes.ensures.made).values_are v
    ∙ ap (λ (m : Memory). bytes_of m.blocks c.args.from.0 c.args.from.1 c.args.count) (held_stays _ _ c.fixed_pointer.ensures.extends c.args.self.now.trees c.args.self.now.trees (keeps_itself c.args.self.now.trees) v c.args.plan.now.code.now c.args.here.slot c.requires.reached.slot))
    c.in_ok-tell_and_go.ensures.tells
