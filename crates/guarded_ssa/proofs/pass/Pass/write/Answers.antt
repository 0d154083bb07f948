use Rattle.std.proofs.Common.{refl, sym, ap}
use Rattle.std.proofs.lemmas.Bool.{false≢true}
use Rattle.actions.specs.declared.action.Action.TheVariants as actions
use Rattle.word_dag.proofs.Grown.{extends_itself}
use Rattle.goto_prog.specs.Meaning.{bytes_of}
use Rattle.guarded_ssa.specs.inner.Held.{held}
use Rattle.guarded_ssa.proofs.Passing.{passes_write, event_in, same_bytes_of}
use Rattle.guarded_ssa.proofs.pass.Pass.write.Goals as goal

pub bytes-requires-clause-slot : goal.bytes-requires-clause-slot
bytes-requires-clause-slot c = record { plan = c.requires.reached.plan; within = c.requires.reached.slot }

pub tell_and_go-requires-clause-event : goal.tell_and_go-requires-clause-event
tell_and_go-requires-clause-event c = event_in _ _ _ c.args.plan.now.code.now c.args.here.slot _ _ _ (extends_itself _) c.requires.reached.slot (c.pointer-at.ensures.word, (same_bytes_of _ _ _ _ c.new.ensures c.in_ok-bytes.ensures.made).words)

pub returns-clause-passes : goal.returns-clause-passes
returns-clause-passes c =
    passes_write _ _ _ _ _ _ c.args.from.0 c.args.from.1 c.args.count c.args.first _ c.args.dag.now c.args.dag.now c.tell_and_go.new.dag c.args.here.slot _ _ c.args.self.now _ refl (extends_itself _) c.requires.reached.within c.requires.reached.slot (λ static. absurd (false≢true static))
    (λ v. ap (λ p. actions.Write p (bytes_of (held v c.args.dag.now c.args.self.now.trees c.args.plan.now.code.now c.args.here.slot).blocks c.args.from.0 c.args.from.1 c.args.count) c.args.first) (sym (c.pointer-at.ensures.value v))) (λ v. refl) (λ v m. refl)
    (same_bytes_of _ _ _ _ c.new.ensures c.in_ok-bytes.ensures.made).values_are c.in_ok-tell_and_go.ensures.tells
