use Rattle.std.proofs.Common.{◌≡◌, true, [], ap, ◌∙◌, rules}
use Rattle.actions.specs.declared.action.Next.{Next}
use Rattle.actions.specs.Behaviour.{Thread, accepts, answered}
use Rattle.c_interp.specs.Halts.{halt_next}
use Rattle.c_interp.specs.View.{code_under, state_of, thread_of, Halts}
use Rattle.c_interp.proofs.Threads.{on_ok, on_err}
use Rattle.c_interp.proofs.thread.ThreadMachine.answer.Goals as goal

pub take-requires-clause-next : goal.take-requires-clause-next
unfolding thread_of
take-requires-clause-next c =
    let s = c.settle.new.self in
    let a = c.args.answer.now in
    let h : Halts s c.in-Ok.halt = search rules in
    let k : accepts ((thread_of s).behaves []) a ≡ true = ap (λ (t : Thread). accepts (t.behaves []) a) c.settle.ensures.same ∙ c.requires in
    ap (λ (n : Next). accepts n a) (halt_next (code_under s) s.first (state_of s) c.in-Ok.halt h) ∙ k

pub returns-in-Ok-clause-ok : goal.returns-in-Ok-clause-ok
returns-in-Ok-clause-ok c =
    let a = c.args.answer.now in
    let s = thread_of c.settle.new.self in
    let o = thread_of c.args.self.now in
    let u = thread_of c.take.new.self in
    on_ok c.take.result (u ≡ answered s a) (u ≡ answered o a) c.take.ensures.ok (λ h. h ∙ ap (λ (t : Thread). answered t a) c.settle.ensures.same)

pub returns-in-Ok-clause-err : goal.returns-in-Ok-clause-err
returns-in-Ok-clause-err c =
    let s = thread_of c.settle.new.self in
    let o = thread_of c.args.self.now in
    let u = thread_of c.take.new.self in
    on_err c.take.result (u ≡ s) (u ≡ o) c.take.ensures.err (λ h. h ∙ c.settle.ensures.same)
