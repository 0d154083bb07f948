use Rattle.std.proofs.Common.{◌≡◌, sym, ap, ◌∙◌}
use Rattle.goto_prog.specs.declared.walker.Status.{Status}
use Rattle.goto_prog.specs.Walks.{Walk, thread_of, status_behind}
use Rattle.goto_prog.proofs.Stepping.{act_accepts}
use Rattle.goto_prog.proofs.WalkerSteps.{allowed_top, walk_received}
use Rattle.goto_prog.proofs.walker.Walker.receive_top.Goals as goal

pub top_takes-received-requires-clause-acting : goal.top_takes-received-requires-clause-acting
top_takes-received-requires-clause-acting c =
    let act = act_accepts c.args.next.now c.args.answer.now c.requires.allowed in
    (c.requires.halted act).acting act

pub top_takes-received-requires-clause-allowed : goal.top_takes-received-requires-clause-allowed
top_takes-received-requires-clause-allowed c =
    let act = act_accepts c.args.next.now c.args.answer.now c.requires.allowed in
    allowed_top c.args.self.now c.args.words c.args.next.now c.args.answer.now (c.requires.halted act) c.requires.allowed

pub returns : goal.returns
returns c =
    let w = c.args.self.now in
    let n = c.top_takes-received.new.self in
    let received = c.top_takes-received.result in
    ap thread_of (c.stand.ensures ∙ ap (λ (s : Status). record n { status = s }) c.status_behind.ensures)
    ∙ ap (λ (x : Walk). thread_of (record x { status = status_behind received })) c.top_takes-received.ensures.others
    ∙ walk_received w c.args.words c.requires.stands n.top c.args.answer.now received c.top_takes-received.ensures.received
