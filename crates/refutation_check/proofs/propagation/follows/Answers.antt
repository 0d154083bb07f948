use Rattle.std.proofs.Common.{◌≡◌, true, false, List, refl, sym, subst, ◌∙◌}
use Rattle.std.specs.Prelude.{Contains, IsTrue}
use Rattle.std.proofs.lemmas.Bool.{MatchBool-at_true, MatchBool-at_false}
use Rattle.sat_form.specs.Satisfaction.{Literal, inverse_of}
use Rattle.sat_form.specs.Propagation.{HasFalsified}
use Rattle.refutation_check.specs.Sets.{holds, Grows}
use Rattle.refutation_check.specs.Outcomes.{IsNegation}
use Rattle.refutation_check.specs.Moments.{database_at, IsMomentWithin}
use Rattle.refutation_check.proofs.Growing.{Grows-trans}
use Rattle.refutation_check.proofs.Following.{Follows-both, Follows-conflict, Follows-at_rest}
use Rattle.refutation_check.proofs.propagation.follows.Goals as goal

pub returns-then-assume_false-clause-answer : goal.returns-then-assume_false-clause-answer
returns-then-assume_false-clause-answer c =
    let both : (l : Literal) × Contains c.args.clause.now l × Contains c.args.clause.now (inverse_of l) = MatchBool-at_true _ _ c.if-assume_false.true c.assume_false.ensures.both in
    (λ _. Follows-both (database_at c.args.moment.now) c.args.clause.now both.0 both.1 both.2, λ _. refl)

pub follow-requires-clause-within : goal.follow-requires-clause-within
follow-requires-clause-within c =
    subst (λ n. IsMomentWithin n c.args.moment.now) (sym (c.assume_false.ensures.variables ∙ c.clear.ensures.variables)) c.requires.within

pub returns-then-follow-clause-answer : goal.returns-then-follow-clause-answer
returns-then-follow-clause-answer c =
    let negation : IsNegation c.args.clause.now (holds c.assume_false.new.set) = MatchBool-at_false _ _ c.if-assume_false.false c.assume_false.ensures.negation in
    let falsified : HasFalsified (database_at c.args.moment.now) (holds c.follow.new.set) = MatchBool-at_true _ _ c.if-follow.true c.follow.ensures.falsified in
    (λ _. Follows-conflict (database_at c.args.moment.now) c.args.clause.now c.assume_false.new.set c.follow.new.set negation c.follow.ensures.grows falsified, λ _. refl)

pub propagate-requires-clause-within : goal.propagate-requires-clause-within
propagate-requires-clause-within c =
    subst (λ n. IsMomentWithin n c.args.moment.now) (sym (c.follow.ensures.grows.variables ∙ c.assume_false.ensures.variables ∙ c.clear.ensures.variables)) c.requires.within

pub returns-clause-answer : goal.returns-clause-answer
returns-clause-answer c =
    let db : List (List Literal) = database_at c.args.moment.now in
    let negation : IsNegation c.args.clause.now (holds c.assume_false.new.set) = MatchBool-at_false _ _ c.if-assume_false.false c.assume_false.ensures.negation in
    let grows : Grows db c.assume_false.new.set c.propagate.new.set = Grows-trans db _ _ _ c.follow.ensures.grows c.propagate.ensures.grows in (
      λ yes_. Follows-conflict db c.args.clause.now c.assume_false.new.set c.propagate.new.set negation grows (MatchBool-at_true _ _ yes_ c.propagate.ensures.falsified),
      λ follows. elim c.propagate.result as (λ b. c.propagate.result ≡ b → IsTrue b) [
        | true ↦ λ _. refl
        | false ↦ λ is. absurd (Follows-at_rest db c.args.clause.now c.assume_false.new.set c.propagate.new.set negation grows (MatchBool-at_false _ _ is c.propagate.ensures.at_rest) follows)
      ] refl,
    )
