use Rattle.std.proofs.Common.{◌≡◌, refl, rules}
use Rattle.c_tasks.specs.Steps.{silent}
use Rattle.c_interp.specs.View.{state_of, next_move, after_change, after_cut}
use Rattle.c_interp.proofs.Sound.{sound_kept}
use Rattle.c_interp.proofs.Threads.{stepped_same, stepped_falls, state_same}
use Rattle.c_interp.proofs.thread.Thread.follow.Goals as goal

pub apply-requires-clause-step : goal.apply-requires-clause-step
apply-requires-clause-step c =
    let o = c.args.self.now in
    let t = after_change o c.in-Goes.change in
    let e : next_move o ≡ silent t = search rules in
    (sound_kept o t e).0

pub apply-requires-clause-counted : goal.apply-requires-clause-counted
apply-requires-clause-counted c =
    let o = c.args.self.now in
    let t = after_change o c.in-Goes.change in
    let e : next_move o ≡ silent t = search rules in
    (sound_kept o t e).2

pub returns-in-Goes-clause-same : goal.returns-in-Goes-clause-same
returns-in-Goes-clause-same c =
    let o = c.args.self.now in
    let t = after_change o c.in-Goes.change in
    let e : next_move o ≡ silent t = search rules in
    stepped_same o c.apply.new.self t c.apply.ensures.program c.apply.ensures.state e

pub returns-in-Goes-clause-step : goal.returns-in-Goes-clause-step
returns-in-Goes-clause-step c =
    let o = c.args.self.now in
    let t = after_change o c.in-Goes.change in
    let e : next_move o ≡ silent t = search rules in
    stepped_falls o c.apply.new.self t c.apply.ensures.program c.apply.ensures.state e

pub cut-requires-clause-sound : goal.cut-requires-clause-sound
cut-requires-clause-sound c =
    let o = c.args.self.now in
    let t = after_cut o c.in-Cuts.cut in
    let e : next_move o ≡ silent t = search rules in
    sound_kept o t e

pub returns-in-Cuts-clause-same : goal.returns-in-Cuts-clause-same
returns-in-Cuts-clause-same c =
    let o = c.args.self.now in
    let t = after_cut o c.in-Cuts.cut in
    let e : next_move o ≡ silent t = search rules in
    stepped_same o c.cut.new.self t c.cut.ensures.program c.cut.ensures.state e

pub returns-in-Cuts-clause-step : goal.returns-in-Cuts-clause-step
returns-in-Cuts-clause-step c =
    let o = c.args.self.now in
    let t = after_cut o c.in-Cuts.cut in
    let e : next_move o ≡ silent t = search rules in
    stepped_falls o c.cut.new.self t c.cut.ensures.program c.cut.ensures.state e

pub returns-in_ok-call-in-Calls-clause-same : goal.returns-in_ok-call-in-Calls-clause-same
returns-in_ok-call-in-Calls-clause-same c =
    let o = c.args.self.now in
    let t = state_of c.call.new.self in
    let e : next_move o ≡ silent t = search rules in
    stepped_same o c.call.new.self t c.call.ensures.program refl e

pub returns-in_ok-call-in-Calls-clause-step : goal.returns-in_ok-call-in-Calls-clause-step
returns-in_ok-call-in-Calls-clause-step c =
    let o = c.args.self.now in
    let t = state_of c.call.new.self in
    let e : next_move o ≡ silent t = search rules in
    stepped_falls o c.call.new.self t c.call.ensures.program refl e

pub returns-in_err-call-in-Calls-clause-same : goal.returns-in_err-call-in-Calls-clause-same
returns-in_err-call-in-Calls-clause-same c = state_same c.args.self.now c.call.new.self c.call.ensures.program c.in_err-call-in-Calls.ensures.err

pub apply-requires-clause-held : goal.apply-requires-clause-held
apply-requires-clause-held c =
    let o = c.args.self.now in
    let t = after_change o c.in-Goes.change in
    let e : next_move o ≡ silent t = search rules in
    (sound_kept o t e).3
