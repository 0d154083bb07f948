-- What a search for a conflict says of reverse unit propagation.
use Rattle.std.proofs.Common.{inl, inr, List, [], ◌∷◌, ◌++◌, sym, subst}
use Rattle.std.specs.Prelude.{Contains, IsTrue}
use Rattle.std.proofs.lemmas.List.Elements.{Contains-append_left, Contains-append_right, Contains-append_cases}
use Rattle.sat_form.specs.Satisfaction.{Literal, inverse_of}
use Rattle.sat_form.specs.Propagation.{IsFalsified, IsClosed, HasFalsified, negation_of, Follows}
use Rattle.sat_form.proofs.Databases.{Contains-one}
use Rattle.sat_form.proofs.Propagation.{IsClosed-front, IsClosed-back, IsClosed-append, IsFalsified-more, IsNegated, negation_of-has, negation_of-from, closed-negation, negation-closed, IsFalsified-one}
use Rattle.sat_form.proofs.Truth.{inverse_of-inverse_of}
use Rattle.refutation_check.specs.Sets.{Literals, holds, Grows}
use Rattle.refutation_check.specs.Outcomes.{IsAtRest, IsNegation}

-- a clause with a literal and its inverse
pub Follows-both : (db : List (List Literal)) (clause : List Literal) (l : Literal) → Contains clause l → Contains clause (inverse_of l) → Follows db clause
Follows-both db clause l plain inverse = λ set closed.
    let back : IsClosed (negation_of clause) set = IsClosed-back db (negation_of clause) set closed in
    let at : IsTrue (set l) = subst (λ (x : Literal). IsTrue (set x)) (inverse_of-inverse_of l) (closed-negation clause set back (inverse_of l) inverse) in (
      inverse_of l ∷ [],
      Contains-append_right db (negation_of clause) (inverse_of l ∷ []) (negation_of-has clause l plain),
      λ m there. subst (λ (x : Literal). IsTrue (set (inverse_of x))) (Contains-one (inverse_of l) m there)
          (subst (λ (x : Literal). IsTrue (set x)) (sym (inverse_of-inverse_of l)) at),
    )

-- a falsified clause, where the clause was taken as false
pub Follows-conflict :
    (db : List (List Literal)) (clause : List Literal) (start now : Literals) → IsNegation clause (holds start) → Grows db start now →
    HasFalsified db (holds now) → Follows db clause
Follows-conflict db clause start now negation grows conflict = λ set closed.
    let begun : (l : Literal) → IsTrue (holds start l) → IsTrue (set l) = λ l in_.
    subst (λ (x : Literal). IsTrue (set x)) (inverse_of-inverse_of l)
    (closed-negation clause set (IsClosed-back db (negation_of clause) set closed) (inverse_of l) (negation.only l in_)) in
    let within : (l : Literal) → IsTrue (holds now l) → IsTrue (set l) = grows.given set (IsClosed-front db (negation_of clause) set closed) begun in (
      conflict.0,
      Contains-append_left db (negation_of clause) conflict.0 conflict.1,
      IsFalsified-more (holds now) set conflict.0 within conflict.2,
    )

-- a database at rest, where the clause was taken as false
pub Follows-at_rest :
    (db : List (List Literal)) (clause : List Literal) (start now : Literals) → IsNegation clause (holds start) → Grows db start now →
    ((c : List Literal) → Contains db c → IsAtRest (holds now) c) → Follows db clause → ⊥
Follows-at_rest db clause start now negation grows rest follows =
    let closed : IsClosed (db ++ negation_of clause) (holds now) =
    IsClosed-append db (negation_of clause) (holds now) (λ c at. (rest c at).closed)
    (negation-closed clause (holds now) (λ l at. grows.kept (inverse_of l) (negation.all l at))) in
    let conflict : HasFalsified (db ++ negation_of clause) (holds now) = follows (holds now) closed in
    elim (Contains-append_cases db (negation_of clause) conflict.0 conflict.1) [
      | inl before ↦ (rest conflict.0 before).not_falsified conflict.2
      | inr negated ↦
          let found : IsNegated clause conflict.0 = negation_of-from clause conflict.0 negated in
          grows.consistent negation.consistent found.l
          (IsFalsified-one (holds now) found.l (subst (λ (x : List Literal). IsFalsified (holds now) x) found.is conflict.2))
          (grows.kept (inverse_of found.l) (negation.all found.l found.stands))
    ]
