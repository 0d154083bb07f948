use Rattle.std.proofs.Common.{◌∙◌, None, sym, subst}
use Rattle.std.specs.Prelude.{min}
use Rattle.word_dag.specs.Meaning.{valuation_of}
use Rattle.event_forms.specs.declared.forms.EventKind.{EventKind}
use Rattle.event_forms.specs.Forms.{kind_seen}
use Rattle.trace_build.specs.Walking.{Steps}
use Rattle.trace_build.proofs.Walks.{steps_fill, steps_accessed}
use Rattle.trace_build.proofs.walking.Walk.tell.Goals as goal

pub returns-in_ok-fill-in-Fill : goal.returns-in_ok-fill-in-Fill
returns-in_ok-fill-in-Fill c =
    let v = valuation_of c.args.values.valuation.now in
    let d = c.args.values.dag.now in
    let e = c.args.event.now in
    subst (λ (k : EventKind). Steps (kind_seen v d e.line e.function k) None c.args.self.now c.fill.new.self) (sym c.in-Fill.is)
    (steps_fill v d e.line e.function c.in-Fill.count c.in-Fill.most c.min-size.result c.in-Fill.words c.as_slice.result.now c.args.self.now c.fill.new.self (c.min-size.ensures ∙ (λ j. min (c.bits-in-Fill.ensures j) c.in-Fill.most)) c.as_slice.ensures c.fill.ensures.store c.in_ok-fill-in-Fill.ensures.words c.in_ok-fill-in-Fill.ensures.turns)

pub returns-in_ok-check-in-Read : goal.returns-in_ok-check-in-Read
returns-in_ok-check-in-Read c =
    let v = valuation_of c.args.values.valuation.now in
    let e = c.args.event.now in
    steps_accessed (kind_seen v c.args.values.dag.now e.line e.function e.kind) c.in_ok-broken-in-Read.broken c.in_ok-check-in-Read.check c.args.self.now c.access.new.self c.turn_at-in-Read.new.self e.line e.function (c.in_ok-broken-in-Read.ensures.accesses e.line e.function)
    c.in_ok-check-in-Read.ensures.check c.access.ensures.words c.access.ensures.turns c.turn_at-in-Read.ensures.store c.in_ok-check-in-Read.ensures.words c.in_ok-check-in-Read.ensures.turns
