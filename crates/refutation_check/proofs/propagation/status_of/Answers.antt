use Rattle.std.proofs.Common.{◌≡◌, ◌++◌, ◌∷◌, [], Bool, List, take, sym, ap, ◌∙◌, subst}
use Rattle.std.proofs.lemmas.Bool.{true≢false}
use Rattle.std.proofs.lemmas.List.{take_all}
use Rattle.std.specs.Prelude.{None}
use Rattle.sat_form.specs.Satisfaction.{Literal, inverse_of}
use Rattle.refutation_check.specs.Sets.{holds}
use Rattle.refutation_check.specs.Outcomes.{HasLast}
use Rattle.refutation_check.proofs.Visiting.{take-read, HasLast-false, HasLast-next}
use Rattle.refutation_check.proofs.propagation.status_of.Goals as goal
use Rattle.refutation_check.proofs.propagation.status_of.Goals.{then-not-contains+else-is_other, else-not-contains}

pub loop-literal-preserved : goal.loop-literal-preserved
loop-literal-preserved c =
    let items : List Literal = c.literals-literal-items.result.now in
    let front : List Literal = take c.loop-literal.literal-index items in
    let y : Literal = c.literal-item.result in
    let set : Literal → Bool = holds c.args.set.now in
    let longer = take-read items c.loop-literal.literal-index y c.loop-literal-test.true c.literal-item.is in
    let told : c.contains.result ≡ set (inverse_of y) = c.contains.ensures ∙ ap set c.inverse.ensures in
    let at : HasLast set (front ++ y ∷ []) c.if-not-contains.last =
    elim c.if-not-contains.branch [
      | then-not-contains+else-is_other w ↦ subst (HasLast set (front ++ y ∷ [])) (sym w.last-is)
          (HasLast-next set front y c.loop-literal.last c.loop-literal.invariant (sym told ∙ w.if-not-contains.true) (λ other. true≢false (sym (w.is_other.ensures.1 other) ∙ w.if-is_other.false)))
      | else-not-contains w ↦ subst (HasLast set (front ++ y ∷ [])) (sym w.last-is)
          (HasLast-false set front y c.loop-literal.last c.loop-literal.invariant (sym told ∙ w.if-not-contains.false))
    ] in
    subst (λ (x : List Literal). HasLast set x c.if-not-contains.last) longer at

pub returns-in-None : goal.returns-in-None
returns-in-None c =
    let set : Literal → Bool = holds c.args.set.now in
    let all : take c.loop-literal.literal-index c.literals-literal-items.result.now ≡ c.args.clause.now =
    take_all _ _ c.loop-literal-test.false ∙ c.literals-literal-items.ensures in
    let last : HasLast set (take c.loop-literal.literal-index c.literals-literal-items.result.now) c.loop-literal.last = c.loop-literal.invariant in
    subst (λ (x : List Literal). HasLast set x None) all (subst (HasLast set (take c.loop-literal.literal-index c.literals-literal-items.result.now)) c.in-None.is last)
