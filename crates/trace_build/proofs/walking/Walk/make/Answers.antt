use Rattle.std.proofs.Common.{◌≡◌, ◌∙◌, suc, length, map, take, ap, subst}
use Rattle.std.specs.Prelude.{OnOk}
use Rattle.word_dag.specs.Meaning.{value, valuation_of}
use Rattle.actions.specs.StoredObject.{StoredObject}
use Rattle.actions.specs.Objects.{with_new}
use Rattle.c_values.specs.MadeObjects.{made_of}
use Rattle.trace_build.proofs.Walks.{first_bytes}
use Rattle.trace_build.proofs.walking.Walk.make.Goals as goal

pub returns-clause-store : goal.returns-clause-store
returns-clause-store c =
    let g = value (valuation_of c.args.values.valuation.now) c.args.values.dag.now in
    let store = c.args.self.now.store in
    let same : c.in_ok-object.object ≡ made_of c.args.kind.0 c.args.kind.1 (take c.args.size (map g c.args.bytes.now)) =
    c.in_ok-object.ensures ∙ ap (made_of c.args.kind.0 c.args.kind.1) (c.new.ensures ∙ c.in_ok-held.ensures ∙ first_bytes g c.args.size c.min-count.result c.args.bytes.now c.min-count.ensures) in
    subst (λ (o : StoredObject). OnOk c.add.result (c.add.new.self.store ≡ with_new store (suc (length store)) o)) same c.add.ensures.store
