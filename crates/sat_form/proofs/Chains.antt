-- Clauses that come to a conflict one after the other, so that a clause follows.
use Rattle.std.proofs.Common.{◌≡◌, ℕ, inl, inr, Bool, List, [], ◌∷◌, ◌++◌, map, refl, sym, ap, ◌∙◌, subst, arith}
use Rattle.std.specs.Prelude.{Option, Some, None, Contains, IsTrue, IsSome}
use Rattle.std.specs.List.{cons_option}
use Rattle.sat_form.specs.Satisfaction.{Literal, inverse_of}
use Rattle.sat_form.specs.Propagation.{IsClosed, HasFalsified, negation_of, Follows}
use Rattle.sat_form.specs.Databases.{database, live_clause}
use Rattle.sat_form.specs.Refutation.{IsJustified, IsDerivation}
use Rattle.sat_form.specs.Budget.{IsConflictBy, named_clauses, IsGiven, IsAllowed, AreAllowed}
use Rattle.sat_form.specs.declared.logs.Entry.{Entry}
use Rattle.sat_form.specs.declared.logs.Entry.TheVariants.{Added, Deleted}
use Rattle.sat_form.proofs.Databases.{Contains-head, Contains-tail, Contains-cons_cases, database-has}
use Rattle.sat_form.proofs.Propagation.{IsClosed-front, IsClosed-back, closed-negation}
use Rattle.sat_form.proofs.Units.{IsSomeIs, some_and}
use Rattle.std.proofs.lemmas.List.Elements.{Contains-append_left}

-- a closed set that has the literals held falsifies one of the clauses
falsified_by :
    (clauses : List (List Literal)) (set : Literal → Bool) (held : List Literal) (named : List (List Literal)) (given : List Literal) → IsClosed clauses set →
    ((c : List Literal) → Contains named c → Contains clauses c) → ((m : Literal) → Contains held m → IsTrue (set m)) → IsConflictBy held named given → HasFalsified clauses set
falsified_by clauses set held [] given closed within has conflict = absurd conflict
falsified_by clauses set held (c ∷ cs) [] closed within has conflict = (c, within c (Contains-head c cs), λ m at. has (inverse_of m) (conflict.1 m at))
falsified_by clauses set held (c ∷ cs) (l ∷ given) closed within has conflict =
    let here : IsTrue (set l) =
    closed c (within c (Contains-head c cs)) l (record { stands = conflict.0.stands; others = λ m at other. has (inverse_of m) (conflict.0.others m at other) }) in
    falsified_by clauses set (l ∷ held) cs given closed (λ d at. within d (Contains-tail c d cs at))
    (λ m at. elim (Contains-cons_cases l m held at) [ inl same ↦ subst (λ (x : Literal). IsTrue (set x)) same here | inr there ↦ has m there ]) conflict.1

-- the named clauses are in the database
named_one :
    (form : List (List Literal)) (before : List Entry) (n : ℕ) (c : List Literal) (o : Option (List Literal)) (rest : List (List Literal)) → live_clause form before n ≡ o →
    (Contains rest c → Contains (database form before) c) → Contains (cons_option o rest) c → Contains (database form before) c
named_one form before n c None rest is later at = later at
named_one form before n c (Some d) rest is later at =
    elim (Contains-cons_cases d c rest at) [ inl same ↦ database-has form before n c (is ∙ ap Some same) | inr there ↦ later there ]

named-within : (form : List (List Literal)) (before : List Entry) (hints : List ℕ) (c : List Literal) → Contains (named_clauses form before hints) c → Contains (database form before) c
named-within form before [] c at = absurd (omega (arith, at.1))
named-within form before (n ∷ ns) c at = named_one form before n c (live_clause form before n) (named_clauses form before ns) refl (named-within form before ns c) at

inverses-held : (clause : List Literal) (set : Literal → Bool) → ((l : Literal) → Contains clause l → IsTrue (set (inverse_of l))) → (m : Literal) → Contains (map inverse_of clause) m → IsTrue (set m)
inverses-held [] set has m at = absurd (omega (arith, at.1))
inverses-held (l ∷ ls) set has m at =
    elim (Contains-cons_cases (inverse_of l) m (map inverse_of ls) at) [
      | inl same ↦ subst (λ (x : Literal). IsTrue (set x)) same (has l (Contains-head l ls))
      | inr there ↦ inverses-held ls set (λ k inside. has k (Contains-tail l k ls inside)) m there
    ]

-- a clause whose named clauses come to a conflict follows
pub Follows-named :
    (form : List (List Literal)) (before : List Entry) (clause : List Literal) (hints : List ℕ) (given : List Literal) →
    IsConflictBy (map inverse_of clause) (named_clauses form before hints) given → Follows (database form before) clause
Follows-named form before clause hints given conflict = λ set closed.
    let db : List (List Literal) = database form before in
    let found : HasFalsified db set =
    falsified_by db set (map inverse_of clause) (named_clauses form before hints) given (IsClosed-front db (negation_of clause) set closed) (named-within form before hints)
    (inverses-held clause set (closed-negation clause set (IsClosed-back db (negation_of clause) set closed))) conflict in
    (found.0, Contains-append_left db (negation_of clause) found.0 found.1, found.2)

justified : (form : List (List Literal)) (before : List Entry) (e : Entry) → IsAllowed form before e → IsJustified form before e
justified form before (Added c hs) unit = Follows-named form before c hs unit.given unit.conflict
justified form before (Deleted n) allowed =
    let live : IsSomeIs (live_clause form before n) (IsGiven (database form (before ++ Deleted n ∷ []))) = some_and (live_clause form before n) (IsGiven (database form (before ++ Deleted n ∷ []))) allowed.1 in
    subst IsSome (sym live.is) refl

-- what a budget allows is a derivation
pub IsDerivation-allowed : (form : List (List Literal)) (log : List Entry) → AreAllowed form log → IsDerivation form log
IsDerivation-allowed form log allowed = λ before e after is. justified form before e (allowed before e after is)
