use Rattle.std.proofs.Common.{◌≡◌, ap, ◌∙◌, rules}
use Rattle.actions.specs.Behaviour as actions
use Rattle.actions.specs.Behaviour.{answered}
use Rattle.c_tasks.specs.Tasks.{items_in, values_in, structures_in, behind, action_of, Accepts, Answers}
use Rattle.c_interp.specs.Halts.{asked_accepts, change_after}
use Rattle.c_interp.specs.View.{code_under, running_under, active_of, state_of, thread_of, next_move, after_change}
use Rattle.c_interp.proofs.Sound.{answer_fits, answer_held, answer_counted}
use Rattle.c_interp.proofs.Threads.{thread_answered, state_same, asks_same, accepts_same, with_err}
use Rattle.c_interp.proofs.thread.Thread.take_answer.Goals as goal

pub answered-requires : goal.answered-requires
unfolding thread_of
answered-requires c =
    let o = c.args.self.now in
    let m = c.make_room.new.self in
    let q = action_of (running_under o) (values_in o.numbers.items) (structures_in o.structures.items) o.variables.items c.args.request in
    let d = asks_same o m c.make_room.ensures.program c.make_room.ensures.state q c.args.line c.requires.asked in
    let a = accepts_same o m c.make_room.ensures.program c.make_room.ensures.state c.args.answer.now c.requires.accepts in
    asked_accepts (code_under m) m.first (state_of m) c.args.answer.now q c.args.line a d

pub apply-requires-clause-step : goal.apply-requires-clause-step
unfolding thread_of
apply-requires-clause-step c =
    let o = c.args.self.now in
    let m = c.make_room.new.self in
    let q = action_of (running_under o) (values_in o.numbers.items) (structures_in o.structures.items) o.variables.items c.args.request in
    let d = asks_same o m c.make_room.ensures.program c.make_room.ensures.state q c.args.line c.requires.asked in
    let a = accepts_same o m c.make_room.ensures.program c.make_room.ensures.state c.args.answer.now c.requires.accepts in
    let k : Accepts (next_move m) c.args.answer.now = asked_accepts (code_under m) m.first (state_of m) c.args.answer.now q c.args.line a d in
    let w : Answers (behind (items_in m.tasks.items)) (active_of m) (values_in m.numbers.items) (structures_in m.structures.items) m.variables.items (next_move m) c.args.answer.now c.in_ok-change.change = search rules in
    answer_fits m c.args.answer.now c.in_ok-change.change k w

pub apply-requires-clause-counted : goal.apply-requires-clause-counted
unfolding thread_of
apply-requires-clause-counted c =
    let o = c.args.self.now in
    let m = c.make_room.new.self in
    let q = action_of (running_under o) (values_in o.numbers.items) (structures_in o.structures.items) o.variables.items c.args.request in
    let d = asks_same o m c.make_room.ensures.program c.make_room.ensures.state q c.args.line c.requires.asked in
    let a = accepts_same o m c.make_room.ensures.program c.make_room.ensures.state c.args.answer.now c.requires.accepts in
    let k : Accepts (next_move m) c.args.answer.now = asked_accepts (code_under m) m.first (state_of m) c.args.answer.now q c.args.line a d in
    let w : Answers (behind (items_in m.tasks.items)) (active_of m) (values_in m.numbers.items) (structures_in m.structures.items) m.variables.items (next_move m) c.args.answer.now c.in_ok-change.change = search rules in
    answer_counted m c.args.answer.now c.in_ok-change.change k w

pub returns-clause-ok : goal.returns-clause-ok
unfolding thread_of
returns-clause-ok c =
    let o = c.args.self.now in
    let m = c.make_room.new.self in
    let u = c.apply.new.self in
    let x = c.in_ok-change.change in
    let q = action_of (running_under o) (values_in o.numbers.items) (structures_in o.structures.items) o.variables.items c.args.request in
    let d = asks_same o m c.make_room.ensures.program c.make_room.ensures.state q c.args.line c.requires.asked in
    let a = accepts_same o m c.make_room.ensures.program c.make_room.ensures.state c.args.answer.now c.requires.accepts in
    let w : Answers (behind (items_in m.tasks.items)) (active_of m) (values_in m.numbers.items) (structures_in m.structures.items) m.variables.items (next_move m) c.args.answer.now x = search rules in
    let b = change_after (code_under m) m.first (state_of m) c.args.answer.now x q c.args.line a d w in
    let first : thread_of u ≡ answered (thread_of m) c.args.answer.now = thread_answered m u (after_change m x) c.args.answer.now c.apply.ensures.program c.apply.ensures.state b in
    first ∙ ap (λ (t : actions.Thread). answered t c.args.answer.now) (state_same o m c.make_room.ensures.program c.make_room.ensures.state)

pub returns-in_err-make_room-clause-err : goal.returns-in_err-make_room-clause-err
returns-in_err-make_room-clause-err c = with_err c.from_residual.result _ (state_same c.args.self.now c.make_room.new.self c.make_room.ensures.program c.make_room.ensures.state)

pub returns-in_err-change-clause-err : goal.returns-in_err-change-clause-err
returns-in_err-change-clause-err c = with_err c.from_residual-in_err-change.result _ (state_same c.args.self.now c.make_room.new.self c.make_room.ensures.program c.make_room.ensures.state)

pub apply-requires-clause-held : goal.apply-requires-clause-held
unfolding thread_of
apply-requires-clause-held c =
    let o = c.args.self.now in
    let m = c.make_room.new.self in
    let q = action_of (running_under o) (values_in o.numbers.items) (structures_in o.structures.items) o.variables.items c.args.request in
    let d = asks_same o m c.make_room.ensures.program c.make_room.ensures.state q c.args.line c.requires.asked in
    let a = accepts_same o m c.make_room.ensures.program c.make_room.ensures.state c.args.answer.now c.requires.accepts in
    let k : Accepts (next_move m) c.args.answer.now = asked_accepts (code_under m) m.first (state_of m) c.args.answer.now q c.args.line a d in
    let w : Answers (behind (items_in m.tasks.items)) (active_of m) (values_in m.numbers.items) (structures_in m.structures.items) m.variables.items (next_move m) c.args.answer.now c.in_ok-change.change = search rules in
    answer_held m c.args.answer.now c.in_ok-change.change k w
