use Rattle.std.proofs.Common.{ℕ, List, refl, sym, ap, ◌∙◌}
use Rattle.std.specs.Prelude.{min, slice_index}
use Rattle.word_dag.specs.Meaning.{value}
use Rattle.word_dag.proofs.Grown.{extends_more}
use Rattle.goto_prog.proofs.Registers.{test_below}
use Rattle.guarded_ssa.specs.declared.pass.Pass.{Pass}
use Rattle.guarded_ssa.proofs.Stays.{pass_moves, slot_grows}
use Rattle.guarded_ssa.proofs.Filling.{held_block}
use Rattle.guarded_ssa.proofs.Passing.{passes_alloc, same_bytes_of}
use Rattle.guarded_ssa.proofs.pass.Pass.alloc.Goals as goal

pub put-requires-clause-within : goal.put-requires-clause-within
put-requires-clause-within c = slot_grows _ _ (extends_more _ _ _ c.make.ensures.extends c.made_pointer.ensures.extends) _ _ _ c.requires.reached.slot

pub tell_and_go-requires-clause-reached : goal.tell_and_go-requires-clause-reached
tell_and_go-requires-clause-reached c =
    let grown : Pass = record { events = c.args.self.now.events; pending = c.args.self.now.pending; trees = c.put.new.trees } in
    record {
      plan = c.requires.reached.plan;
      room = c.requires.reached.room;
      within = pass_moves _ _ (extends_more _ _ _ c.make.ensures.extends c.made_pointer.ensures.extends) c.args.plan.now.code.now c.args.self.now grown c.put.ensures.keeps refl refl c.requires.reached.within;
      slot = c.in_ok-next.ensures.within;
    }

pub returns-clause-passes : goal.returns-clause-passes
returns-clause-passes c =
    let grown : Pass = record { events = c.args.self.now.events; pending = c.args.self.now.pending; trees = c.put.new.trees } in
    let bytes = same_bytes_of _ _ _ _ c.new.ensures c.in_ok-bytes.ensures.made in
    passes_alloc _ _ _ _ _ _ c.args.into c.args.from.0 c.args.from.1 c.args.kind.0 c.args.kind.1 c.args.dag.now c.make.new.self c.made_pointer.new.dag c.tell_and_go.new.dag c.args.here.slot c.in_ok-next.next c.pointer-size.result c.in_ok-answer.answer c.in_ok-pointer.pointer _ c.at_most-most.result c.args.self.now grown _
    c.make.ensures.extends c.made_pointer.ensures.extends c.requires.reached.within c.put.ensures.keeps refl refl c.requires.reached.slot c.pointer-size.ensures.word c.pointer-size.ensures.value bytes.words bytes.values_are
    (λ v. c.at_most-most.ensures.same v ∙ ap (min (value v c.args.dag.now c.pointer-size.result)) (ap (λ (xs : List ℕ). slice_index xs c.args.from.0) c.blocks-2.ensures ∙ sym (held_block v c.args.dag.now c.args.self.now.trees c.args.plan.now.code.now c.args.here.slot c.args.from.0 (test_below _ _ c.requires.block))))
    c.in_ok-answer.ensures.made c.in_ok-pointer.ensures.made c.in_ok-next.ensures.guarded c.in_ok-tell_and_go.ensures.tells

pub returns-in_err-tell_and_go-clause-extends : goal.returns-in_err-tell_and_go-clause-extends
returns-in_err-tell_and_go-clause-extends c = extends_more _ _ _ (extends_more _ _ _ c.make.ensures.extends c.made_pointer.ensures.extends) c.tell_and_go.ensures.extends

pub returns-clause-extends : goal.returns-clause-extends
returns-clause-extends c = extends_more _ _ _ (extends_more _ _ _ c.make.ensures.extends c.made_pointer.ensures.extends) c.tell_and_go.ensures.extends
