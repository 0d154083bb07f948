use Rattle.std.proofs.Common.{◌≡◌, Bool, List, [], ◌∷◌, ◌++◌, Option, Some, None, refl, sym, ap, ◌∙◌, subst, arith, append-nil}
use Rattle.std.specs.Prelude.{IsSome}
use Rattle.sat_form.specs.Satisfaction.{Literal}
use Rattle.cdcl_core.specs.declared.trail.Step.{Step}
use Rattle.cdcl_core.specs.Steps.{known_value}
use Rattle.cdcl_core.specs.Cuts.{TakesMarks}
use Rattle.cdcl_core.proofs.Taking.{TakesMarks-none, IsClauseOf-taken}
use Rattle.cdcl_core.proofs.analysis.take_clause.Goals as goal

pub loop-variable-init : goal.loop-variable-init
loop-variable-init c =
    let steps : List Step = c.args.trail.now.steps in
    let marked : List Bool = c.args.marked.now.items in record {
      takes = c.in_ok-take_false.ensures.takes marked (subst (λ (x : List Literal). TakesMarks steps marked marked x) (sym c.new-clause.ensures) (TakesMarks-none steps marked));
      more = ([], sym (append-nil c.take_false.new.clause));
      off = λ k below. absurd (omega (arith, below));
    }

some_value : (o : Option Bool) → IsSome o → (b : Bool) × (o ≡ Some b)
some_value None h = absurd (cc)
some_value (Some b) h = (b, refl)

pub returns-clause-clause : goal.returns-clause-clause
returns-clause-clause c =
    let steps : List Step = c.args.trail.now.steps in
    let b : (x : Bool) × (known_value steps c.args.first ≡ Some x) = some_value (known_value steps c.args.first) c.requires.known in
    let l : Literal = record { variable = c.args.first; negated = b.0 } in
    let one : c.take_false.new.clause ≡ l ∷ [] =
    c.in_ok-take_false.ensures.added b.0 c.requires.first b.1 ∙ ap (λ (x : List Literal). x ++ l ∷ []) c.new-clause.ensures in
    let back : List Literal = c.loop-variable.invariant.more.0 in
    let whole : c.loop-variable.clause ≡ l ∷ back = c.loop-variable.invariant.more.1 ∙ ap (λ (x : List Literal). x ++ back) one in
    IsClauseOf-taken steps c.args.marked.now.items c.loop-variable.marked.items c.args.touched.now c.args.first b.0 c.loop-variable.clause back c.requires.touched
    c.loop-variable.invariant.takes (λ k below on. c.loop-variable.invariant.off k (omega (arith, below, c.loop-variable-test.false)) on) whole
