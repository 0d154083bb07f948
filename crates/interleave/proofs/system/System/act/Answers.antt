use Rattle.std.proofs.Common.{sym, subst, ◌∙◌, ℕ}
use Rattle.interleave.specs.declared.effect.Effect.{Effect}
use Rattle.interleave.specs.Own.{own_part}
use Rattle.interleave.specs.Effect.{OwnFits, EffectFits}
use Rattle.interleave.proofs.Settled.{has_number, number_fits, own_fits, turn_none, moved_to, started_to}
use Rattle.interleave.proofs.system.System.act.Goals as goal

pub returns-in_default : goal.returns-in_default
returns-in_default g c = turn_none g.M.Machine.thread c.args.self.now.runners.entries c.args.t c.args.self.now.shared c.args.words.now (sym c.in_default.ensures.value)

pub own_part-own-requires : goal.own_part-own-requires
own_part-own-requires g c =
    number_fits c.args.self.now.shared.memory c.args.t c.in-Some.runner.now.counts c.args.action
    (has_number g.M.Machine.thread c.args.self.now.runners.entries c.args.t c.in-Some.runner.now c.args.action c.args.line c.args.function (sym c.in-Some.ensures.value) c.requires.next c.args.self.now.shared.memory c.requires.numbers)

pub after-counts-requires : goal.after-counts-requires
after-counts-requires g c =
    number_fits c.args.self.now.shared.memory c.args.t c.in-Some.runner.now.counts c.args.action
    (has_number g.M.Machine.thread c.args.self.now.runners.entries c.args.t c.in-Some.runner.now c.args.action c.args.line c.args.function (sym c.in-Some.ensures.value) c.requires.next c.args.self.now.shared.memory c.requires.numbers)

pub act-requires : goal.act-requires
act-requires g c =
    let has = has_number g.M.Machine.thread c.args.self.now.runners.entries c.args.t c.in-Some.runner.now c.args.action c.args.line c.args.function (sym c.in-Some.ensures.value) c.requires.next c.args.self.now.shared.memory c.requires.numbers in
    subst (λ (own : ℕ). OwnFits c.args.self.now.shared.memory c.args.action own) (sym {b = own_part c.args.t c.args.words.now c.in-Some.runner.now.counts c.args.action} c.own_part-own.ensures)
    (own_fits c.args.self.now.shared.memory c.args.t c.args.words.now c.in-Some.runner.now.counts c.args.action has)

pub returns-in_ok-tell-in-Moves : goal.returns-in_ok-tell-in-Moves
returns-in_ok-tell-in-Moves g c =
    moved_to g.M.Machine.thread c.args.self.now.runners.entries c.args.t c.in-Some.runner.now c.args.action c.args.line c.args.function (sym c.in-Some.ensures.value) c.requires.next
    c.args.self.now.shared c.act.new.self c.args.words.now c.own_part-own.result c.after-counts.result _
    c.own_part-own.ensures c.after-counts.ensures c.in_ok-class.ensures.after c.in-Moves.answer (sym c.in-Moves.is ∙ c.in_ok-class.ensures.effect) c.in_ok-tell-in-Moves.ensures

pub returns-in_ok-start-in-Starts : goal.returns-in_ok-start-in-Starts
returns-in_ok-start-in-Starts g c =
    let fits = subst (λ (e : Effect). EffectFits c.args.action e) c.in-Starts.is c.in_ok-class.ensures.fits in
    started_to g.M.Machine.thread c.args.self.now.runners.entries c.args.t c.in-Some.runner.now c.args.action c.args.line c.args.function (sym c.in-Some.ensures.value) c.requires.next
    c.args.self.now.shared c.act.new.self c.args.words.now c.own_part-own.result c.after-counts.result _
    c.own_part-own.ensures c.after-counts.ensures c.in_ok-class.ensures.after c.in-Starts.number c.in-Starts.f c.in-Starts.v (sym c.in-Starts.is ∙ c.in_ok-class.ensures.effect) fits c.in_ok-start-in-Starts.ensures
