use Rattle.std.proofs.Common.{◌∙◌, sym, ap, subst}
use Rattle.word_dag.specs.Meaning.{valuation_of}
use Rattle.actions.specs.declared.action.Action.TheVariants as actions
use Rattle.event_forms.specs.declared.forms.EventKind.{EventKind}
use Rattle.event_forms.specs.Forms.{kind_seen}
use Rattle.event_forms.specs.Accesses.{access_class}
use Rattle.trace_build.specs.Walking.{Accesses}
use Rattle.trace_build.proofs.Walks.{accesses_looked}
use Rattle.trace_build.proofs.walking.Walk.access.Goals as goal

pub returns-in-Look-clause-accesses : goal.returns-in-Look-clause-accesses
returns-in-Look-clause-accesses c = λ line f.
    let v = valuation_of c.args.values.valuation.now in
    let d = c.args.values.dag.now in
    let store = c.args.self.now.store in
    subst (λ (k : EventKind). Accesses line f (kind_seen v d line f k) store store c.look.result) (sym c.in-Look.is)
    (accesses_looked v d store line f c.in-Look.pointer c.in-Look.subscript c.in-Look.answer c.look.result (λ a. c.look.ensures a ∙ ap (λ p. access_class store (actions.Look p c.in-Look.subscript) a) c.bits.ensures))
