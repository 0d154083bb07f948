use Rattle.std.proofs.Common.{◌≡◌, ◌<◌, ◌∙◌, List, length, get_or, sym, ap, arith}
use Rattle.word_dag.specs.Meaning.{valuation_of}
use Rattle.event_forms.specs.declared.forms.Event.{Event}
use Rattle.trace_build.proofs.Walks.{walking_start, walking_next, walking_ends}
use Rattle.trace_build.proofs.building.collect.Goals as goal

pub walking-init : goal.walking-init
walking-init c = walking_start (valuation_of c.args.values.valuation.now) c.args.values.dag.now c.args.form.now _ c.requires.breaks (c.in_ok-walk.ensures.store ∙ c.store.ensures) c.in_ok-walk.ensures.words c.in_ok-walk.ensures.turns

pub returns-in-Some : goal.returns-in-Some
returns-in-Some c =
    let es = c.args.form.now.events in
    let i = c.walking.event-index in
    let ev = c.event-item.result in
    let same : c.events-event-items.result.now ≡ es = c.events-event-items.ensures in
    let there : i < length es = omega (arith, ap (λ (xs : List Event). length xs) same) in
    let here : ev ≡ get_or es i ev = c.event-item.is ∙ ap (λ (xs : List Event). get_or xs i ev) same in
    walking_ends (valuation_of c.args.values.valuation.now) c.args.values.dag.now c.args.form.now c.walking.walk c.step.new.self i ev c.in_ok-check.field-0 there here c.walking.invariant c.in_ok-check.ensures _ (sym c.in-Some.is)

pub walking-preserved : goal.walking-preserved
walking-preserved c =
    let es = c.args.form.now.events in
    let i = c.walking.event-index in
    let ev = c.event-item.result in
    let same : c.events-event-items.result.now ≡ es = c.events-event-items.ensures in
    let there : i < length es = omega (arith, ap (λ (xs : List Event). length xs) same) in
    let here : ev ≡ get_or es i ev = c.event-item.is ∙ ap (λ (xs : List Event). get_or xs i ev) same in
    walking_next (valuation_of c.args.values.valuation.now) c.args.values.dag.now c.args.form.now c.walking.walk c.step.new.self i ev c.in_ok-check.field-0 there here c.walking.invariant c.in_ok-check.ensures (sym c.in_default.is)
