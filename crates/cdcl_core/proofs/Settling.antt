-- That watched clauses are at rest, and that there is no conflict where all are.
use Rattle.std.proofs.Common.{◌≡◌, ℕ, suc, ◌<◌, ◌≤◌, inl, inr, Bool, true, false, not, List, [], ◌∷◌, ◌++◌, length, get_or, take, refl, sym, ap, ◌∙◌, subst, arith}
use Rattle.std.specs.Prelude.{Option, Some, None, IsTrue, slice_get, option_map, if◌then◌else◌, nat_lt, Contains, IsSomeAnd}
use Rattle.std.proofs.lemmas.Bool.{true≢false, cases_Bool, cases_lt, ltb-true}
use Rattle.std.proofs.lemmas.List.{get_or_default, take-append-le, length-append}
use Rattle.std.proofs.Math.Seq.{take-length, get_or-append_seam}
use Rattle.std.proofs.Math.ListN.{get_or-append}
use Rattle.std.proofs.lemmas.Option.{slice_get-get_or}
use Rattle.std.proofs.lemmas.List.Elements.{Contains-append_left, Contains-append_right, Contains-append_cases}
use Rattle.sat_form.specs.Satisfaction.{Literal, inverse_of}
use Rattle.sat_form.specs.Propagation.{IsClosed, HasFalsified, Conflicts}
use Rattle.sat_form.proofs.Propagation.{literal_cases}
use Rattle.sat_form.proofs.Databases.{Contains-head, Contains-one}
use Rattle.cdcl_core.specs.declared.trail.Step.{Step}
use Rattle.cdcl_core.specs.declared.watches.Pair.{Pair}
use Rattle.cdcl_core.specs.Steps.{known_value, known_truth, oldest, decision_places, HasDecisionAt}
use Rattle.cdcl_core.specs.Settled.{IsAtRest, IsSettled, AreSettled, IsReason, AreJustified}
use Rattle.cdcl_core.specs.Learning.{IsLast}
use Rattle.cdcl_core.specs.Watched.{AreOpen, IsWatched, AreWatched, AreQuiet}
use Rattle.cdcl_core.proofs.Courses.{oldest-all, oldest-more}
use Rattle.cdcl_core.proofs.Places.{slice_get-at, slice_get-more, slice_get-both_cases}
use Rattle.cdcl_core.proofs.Watching.{place-decided, oldest-oldest, known_truth-push, known_truth-newest}

-- two literals that are not false
at_rest_open : (steps : List Step) (c : List Literal) (p : Pair) → AreOpen steps c p → IsAtRest steps c
at_rest_open steps c p open_ =
    elim (known_truth steps p.first) as (λ o. known_truth steps p.first ≡ o → IsAtRest steps c) [
      | Some b ↦ elim b as (λ b. known_truth steps p.first ≡ Some b → IsAtRest steps c) [
        | true ↦ λ is. inl (p.first, open_.first, is)
        | false ↦ λ is. absurd (open_.first_open is)
      ]
      | None ↦ λ first. elim (known_truth steps p.second) as (λ o. known_truth steps p.second ≡ o → IsAtRest steps c) [
        | Some b ↦ elim b as (λ b. known_truth steps p.second ≡ Some b → IsAtRest steps c) [
          | true ↦ λ is. inl (p.second, open_.second, is)
          | false ↦ λ is. absurd (open_.second_open is)
        ]
        | None ↦ λ second. inr (p.first, p.second, open_.apart, open_.first, first, open_.second, second)
      ] refl
    ] refl

pub IsSettled-watched : (cs : List (List Literal)) (pairs : List Pair) (steps : List Step) → length pairs ≡ length cs → AreWatched steps steps cs pairs → IsSettled cs steps
IsSettled-watched cs pairs steps count watched = λ c at.
    let l : Literal = record { variable = 0; negated = false } in
    let d : Pair = record { first = l; second = l; start = 0 } in
    let p : Pair = get_or pairs at.0 d in
    let found : slice_get cs at.0 ≡ Some c = slice_get-at cs at.0 c at.1 at.2 in
    elim (watched at.0 c p found (slice_get-get_or pairs at.0 d (omega (arith, at.1)))) [
      | inl true_ ↦ inl (true_.literal, true_.stands, true_.is)
      | inr open_ ↦ at_rest_open steps c p open_
    ]

-- places of decisions among older steps
pub place-older : (s : Step) (older : List Step) (d : ℕ) → Contains (decision_places older) d → Contains (decision_places (s ∷ older)) d
place-older s older d at =
    elim s.decision as (λ b. Contains (if b then decision_places older ++ length older ∷ [] else decision_places older) d) [
      | true ↦ Contains-append_left (decision_places older) (length older ∷ []) d at
      | false ↦ at
    ]

pub place-newest : (s : Step) (older : List Step) → s.decision ≡ true → Contains (decision_places (s ∷ older)) (length older)
place-newest s older decides =
    subst (λ b. Contains (if b then decision_places older ++ length older ∷ [] else decision_places older) (length older)) (sym decides)
    (Contains-append_right (decision_places older) (length older ∷ []) (length older) (Contains-head (length older) []))

pub AreSettled-quiet : (cs : List (List Literal)) (pairs : List Pair) (steps : List Step) → length pairs ≡ length cs → AreQuiet cs pairs steps → AreSettled cs steps
AreSettled-quiet cs pairs [] count quiet = tt
AreSettled-quiet cs pairs (s ∷ older) count quiet = (
  λ decides.
      let here : oldest (length older) (s ∷ older) ≡ older = oldest-more (length older) s older (omega arith) ∙ oldest-all (length older) older (omega arith) in
      IsSettled-watched cs pairs older count (subst (λ (x : List Step). AreWatched x x cs pairs) here (quiet (length older) (place-newest s older decides))),
  AreSettled-quiet cs pairs older count
      (λ d at.
      let within : d < length older = place-decided older d at in
      subst (λ (x : List Step). AreWatched x x cs pairs) (oldest-more d s older (omega (arith, within))) (quiet d (place-older s older d at))),
)

-- the literals that steps make true
abbrev told_true : Option Bool → Bool
told_true None = false
told_true (Some b) = b

abbrev true_set : List Step → Literal → Bool
true_set steps l = told_true (known_truth steps l)

told : (o : Option Bool) → told_true o ≡ true → o ≡ Some true
told None is = absurd (true≢false (sym is))
told (Some b) is = ap Some is

inverse_told : (o : Option Bool) (n : Bool) → option_map (λ x. if not n then not x else x) o ≡ Some true → option_map (λ x. if n then not x else x) o ≡ Some false
inverse_told None n is = cc
inverse_told (Some true) true is = refl
inverse_told (Some true) false is = cc
inverse_told (Some false) true is = cc
inverse_told (Some false) false is = refl

-- a literal whose inverse is true is false
false_told : (steps : List Step) (l : Literal) → IsTrue (true_set steps (inverse_of l)) → known_truth steps l ≡ Some false
false_told steps l is = inverse_told (known_value steps l.variable) l.negated (told (known_truth steps (inverse_of l)) is)

none_false : (steps : List Step) (l : Literal) → known_truth steps l ≡ None → known_truth steps l ≡ Some false → ⊥
none_false steps l none is = let both : None ≡ Some false = sym none ∙ is in cc

true_false : (steps : List Step) (l : Literal) → known_truth steps l ≡ Some true → known_truth steps l ≡ Some false → ⊥
true_false steps l true_ is = let both : Some true ≡ Some false = sym true_ ∙ is in cc

closed_settled : (cs : List (List Literal)) (steps : List Step) → IsSettled cs steps → IsClosed cs (true_set steps)
closed_settled cs steps settled = λ c at l gives.
    elim (settled c at) [
      | inl rest ↦ elim (literal_cases rest.0 l) [
        | inl same ↦ subst (λ (x : Literal). IsTrue (true_set steps x)) same (ap told_true rest.2)
        | inr other ↦ absurd (true_false steps rest.0 rest.2 (false_told steps rest.0 (gives.others rest.0 rest.1 other)))
      ]
      | inr rest ↦ elim (literal_cases rest.0 l) [
        | inl same ↦ absurd (none_false steps rest.1 rest.6 (false_told steps rest.1 (gives.others rest.1 rest.5 (λ e. rest.2 (same ∙ sym e)))))
        | inr other ↦ absurd (none_false steps rest.0 rest.4 (false_told steps rest.0 (gives.others rest.0 rest.3 other)))
      ]
    ]

pub no_conflict : (cs : List (List Literal)) (steps : List Step) → IsSettled cs steps → Conflicts cs → ⊥
no_conflict cs steps settled conflicts =
    let found : HasFalsified cs (true_set steps) = conflicts (true_set steps) (closed_settled cs steps settled) in
    elim (settled found.0 found.1) [
      | inl rest ↦ true_false steps rest.0 rest.2 (false_told steps rest.0 (found.2 rest.0 rest.1))
      | inr rest ↦ none_false steps rest.0 rest.4 (false_told steps rest.0 (found.2 rest.0 rest.3))
    ]

-- fewer steps
pub places-oldest : (k : ℕ) (steps : List Step) (d : ℕ) → Contains (decision_places (oldest k steps)) d → Contains (decision_places steps) d
places-oldest k [] d at = at
places-oldest k (s ∷ older) d at =
    elim (nat_lt (length older) k) as (λ t. Contains (decision_places (if t then s ∷ older else oldest k older)) d → Contains (decision_places (s ∷ older)) d) [
      | true ↦ λ at. at
      | false ↦ λ at. place-older s older d (places-oldest k older d at)
    ] at

pub length-oldest : (k : ℕ) (steps : List Step) → length (oldest k steps) ≤ k
length-oldest k [] = omega arith
length-oldest k (s ∷ older) =
    elim (cases_Bool (nat_lt (length older) k)) [
      | inl all ↦ subst (λ t. length (if t then s ∷ older else oldest k older) ≤ k) (sym all) (let less : length older < k = ltb-true (length older) k all in omega (arith, less))
      | inr some ↦ subst (λ t. length (if t then s ∷ older else oldest k older) ≤ k) (sym some) (length-oldest k older)
    ]

pub length-oldest_all : (k : ℕ) (steps : List Step) → k ≤ length steps → length (oldest k steps) ≡ k
length-oldest_all k [] within = omega arith
length-oldest_all k (s ∷ older) within =
    elim (cases_lt (length older) k) [
      | inl last ↦ ap length (oldest-all k (s ∷ older) (omega arith)) ∙ omega arith
      | inr before ↦ ap length (oldest-more k s older before) ∙ length-oldest_all k older before
    ]

pub AreQuiet-oldest : (cs : List (List Literal)) (pairs : List Pair) (k : ℕ) (steps : List Step) → AreQuiet cs pairs steps → AreQuiet cs pairs (oldest k steps)
AreQuiet-oldest cs pairs k steps quiet = λ d at.
    let less : d ≤ k = omega (arith, place-decided (oldest k steps) d at, length-oldest k steps) in
    subst (λ (x : List Step). AreWatched x x cs pairs) (sym (oldest-oldest d k steps less)) (quiet d (places-oldest k steps d at))

pub AreJustified-oldest : (cs : List (List Literal)) (k : ℕ) (steps : List Step) → AreJustified cs steps → AreJustified cs (oldest k steps)
AreJustified-oldest cs k [] are = are
AreJustified-oldest cs k (s ∷ older) are =
    elim (nat_lt (length older) k) as (λ t. AreJustified cs (if t then s ∷ older else oldest k older)) [ true ↦ are | false ↦ AreJustified-oldest cs k older are.1 ]

-- the step at a decision's place
decided_newest : (s : Step) (older : List Step) → s.decision ≡ true → HasDecisionAt (length older) (s ∷ older)
decided_newest s older decides =
    let here : oldest (length older) (s ∷ older) ≡ older = oldest-more (length older) s older (omega arith) ∙ oldest-all (length older) older (omega arith) in
    (s, decides, oldest-all (suc (length older)) (s ∷ older) (omega arith) ∙ (λ k. s ∷ sym here k))

decided_older : (s : Step) (older : List Step) (d : ℕ) → d < length older → HasDecisionAt d older → HasDecisionAt d (s ∷ older)
decided_older s older d within found =
    (found.0, found.1, oldest-more (suc d) s older (omega arith) ∙ found.2 ∙ (λ k. found.0 ∷ sym (oldest-more d s older (omega arith)) k))

pub decided : (steps : List Step) (d : ℕ) → Contains (decision_places steps) d → HasDecisionAt d steps
decided [] d at = absurd (omega (arith, at.1))
decided (s ∷ older) d at =
    elim s.decision as (λ b. s.decision ≡ b → Contains (if b then decision_places older ++ length older ∷ [] else decision_places older) d → HasDecisionAt d (s ∷ older)) [
      | true ↦ λ decides at. elim (Contains-append_cases (decision_places older) (length older ∷ []) d at) [
        | inl before ↦ decided_older s older d (place-decided older d before) (decided older d before)
        | inr last ↦ subst (λ k. HasDecisionAt k (s ∷ older)) (Contains-one (length older) d last) (decided_newest s older decides)
      ]
      | false ↦ λ _ at. decided_older s older d (place-decided older d at) (decided older d at)
    ] refl at

-- the decisions before one of them
pub places-cut : (steps : List Step) (i : ℕ) → i < length (decision_places steps) → decision_places (oldest (get_or (decision_places steps) i 0) steps) ≡ take i (decision_places steps)
places-cut [] i within = absurd (omega arith)
places-cut (s ∷ older) i within =
    let P : List ℕ = decision_places older in
    let before : i < length P → decision_places (oldest (get_or P i 0) (s ∷ older)) ≡ take i P =
    λ less.
    let below : get_or P i 0 < length older = place-decided older (get_or P i 0) (i, less, get_or_default P i (get_or P i 0) 0 less) in
    ap decision_places (oldest-more (get_or P i 0) s older (omega (arith, below))) ∙ places-cut older i less in
    elim s.decision as (λ b.
    i < length (if b then P ++ length older ∷ [] else P) →
    decision_places (oldest (get_or (if b then P ++ length older ∷ [] else P) i 0) (s ∷ older)) ≡ take i (if b then P ++ length older ∷ [] else P)) [
      | true ↦ λ within. elim (cases_lt i (length P)) [
        | inl less ↦
            ap (λ k. decision_places (oldest k (s ∷ older))) (get_or-append P (length older ∷ []) 0 i less)
            ∙ before less
            ∙ sym (take-append-le i P (length older ∷ []) (omega arith))
        | inr last ↦
            let end : i ≡ length P = omega (arith, length-append P (length older ∷ [])) in
            ap (λ k. decision_places (oldest k (s ∷ older))) (ap (λ k. get_or (P ++ length older ∷ []) k 0) end ∙ get_or-append_seam P (length older) [] 0)
            ∙ ap decision_places (oldest-more (length older) s older (omega arith) ∙ oldest-all (length older) older (omega arith))
            ∙ sym (take-length P)
            ∙ sym (take-append-le (length P) P (length older ∷ []) (omega arith))
            ∙ ap (λ k. take k (P ++ length older ∷ [])) (sym end)
      ]
      | false ↦ λ within. before within
    ] within

-- more clauses
IsReason-more : (cs : List (List Literal)) (c : List Literal) (steps : List Step) (l : Literal) (o : Option ℕ) → IsSomeAnd o (IsReason cs steps l) → IsSomeAnd o (IsReason (cs ++ c ∷ []) steps l)
IsReason-more cs c steps l None reason = reason
IsReason-more cs c steps l (Some k) reason =
    record { clause = reason.clause; found = slice_get-more cs (c ∷ []) k reason.clause reason.found; stands = reason.stands; others = reason.others }

pub AreJustified-more : (cs : List (List Literal)) (c : List Literal) (steps : List Step) → AreJustified cs steps → AreJustified (cs ++ c ∷ []) steps
AreJustified-more cs c [] are = are
AreJustified-more cs c (s ∷ older) are = (λ follows. IsReason-more cs c older s.literal s.reason (are.0 follows), AreJustified-more cs c older are.1)

AreWatched-more :
    (cs : List (List Literal)) (pairs : List Pair) (c : List Literal) (p : Pair) (older steps : List Step) → length pairs ≡ length cs →
    AreWatched older steps cs pairs → IsWatched older steps c p → AreWatched older steps (cs ++ c ∷ []) (pairs ++ p ∷ [])
AreWatched-more cs pairs c p older steps count are here = λ k d q clause pair.
    elim (slice_get-both_cases cs pairs c d p q k count clause pair) [
      | inl old ↦ are k d q old.0 old.1
      | inr new ↦ subst (λ x. IsWatched older steps x q) (sym new.1) (subst (λ (x : Pair). IsWatched older steps c x) (sym new.2) here)
    ]

pub AreQuiet-more :
    (cs : List (List Literal)) (pairs : List Pair) (c : List Literal) (p : Pair) (steps : List Step) → length pairs ≡ length cs → AreQuiet cs pairs steps →
    ((d : ℕ) → Contains (decision_places steps) d → AreOpen (oldest d steps) c p) → AreQuiet (cs ++ c ∷ []) (pairs ++ p ∷ []) steps
AreQuiet-more cs pairs c p steps count quiet open_ = λ d at.
    AreWatched-more cs pairs c p (oldest d steps) (oldest d steps) count (quiet d at) (inr (open_ d at))

-- one more step
pub AreWatched-push : (cs : List (List Literal)) (pairs : List Pair) (s : Step) (steps : List Step) → known_value steps s.literal.variable ≡ None → AreWatched steps steps cs pairs → AreWatched steps (s ∷ steps) cs pairs
AreWatched-push cs pairs s steps none are = λ k c p clause pair.
    elim (are k c p clause pair) [
      | inl true_ ↦ inl (record { literal = true_.literal; stands = true_.stands; is = known_truth-push s steps true_.literal true none true_.is })
      | inr open_ ↦ inr open_
    ]

-- .. that a new clause gives
pub AreWatched-asserted :
    (cs : List (List Literal)) (pairs : List Pair) (c : List Literal) (p : Pair) (s : Step) (steps : List Step) → length pairs ≡ length cs → known_value steps s.literal.variable ≡ None →
    Contains c s.literal → AreWatched steps steps cs pairs → AreWatched steps (s ∷ steps) (cs ++ c ∷ []) (pairs ++ p ∷ [])
AreWatched-asserted cs pairs c p s steps count none stands are =
    AreWatched-more cs pairs c p steps (s ∷ steps) count (AreWatched-push cs pairs s steps none are)
    (inl (record { literal = s.literal; stands = stands; is = known_truth-newest s steps s.literal refl }))

-- .. that is a decision
pub AreQuiet-decided :
    (cs : List (List Literal)) (pairs : List Pair) (s : Step) (steps : List Step) → s.decision ≡ true → AreQuiet cs pairs steps → AreWatched steps steps cs pairs → AreQuiet cs pairs (s ∷ steps)
AreQuiet-decided cs pairs s steps decides quiet are = λ d at.
    elim (Contains-append_cases (decision_places steps) (length steps ∷ []) d (subst (λ b. Contains (if b then decision_places steps ++ length steps ∷ [] else decision_places steps) d) decides at)) [
      | inl before ↦
          let within : d < length steps = place-decided steps d before in
          subst (λ (x : List Step). AreWatched x x cs pairs) (sym (oldest-more d s steps (omega (arith, within)))) (quiet d before)
      | inr last ↦
          let same : length steps ≡ d = Contains-one (length steps) d last in
          let here : oldest d (s ∷ steps) ≡ steps = oldest-more d s steps (omega (arith, same)) ∙ oldest-all d steps (omega (arith, same)) in
          subst (λ (x : List Step). AreWatched x x cs pairs) (sym here) are
    ]

-- the last decision is the newest
split_end : {X : Type 0} → (xs : List X) (x : X) (front : List X) (y : X) → xs ++ x ∷ [] ≡ front ++ y ∷ [] → x ≡ y
split_end [] x [] y is = cc
split_end [] x (z ∷ zs) y is = absurd (omega (arith, ap length is, length-append zs (y ∷ [])))
split_end (w ∷ ws) x [] y is = absurd (omega (arith, ap length is, length-append ws (x ∷ [])))
split_end (w ∷ ws) x (z ∷ zs) y is = let rest : ws ++ x ∷ [] ≡ zs ++ y ∷ [] = cc in split_end ws x zs y rest

pub at_most_last : (steps : List Step) (q d : ℕ) → IsLast (decision_places steps) q → Contains (decision_places steps) d → d ≤ q
at_most_last [] q d last at = absurd (omega (arith, at.1))
at_most_last (s ∷ older) q d last at =
    elim s.decision as (λ b. IsLast (if b then decision_places older ++ length older ∷ [] else decision_places older) q →
    Contains (if b then decision_places older ++ length older ∷ [] else decision_places older) d → d ≤ q) [
      | true ↦ λ last at.
          let newest : length older ≡ q = split_end (decision_places older) (length older) last.0 q last.1 in
          elim (Contains-append_cases (decision_places older) (length older ∷ []) d at) [
            | inl before ↦ omega (arith, place-decided older d before, newest)
            | inr end ↦ omega (arith, Contains-one (length older) d end, newest)
          ]
      | false ↦ λ last at. at_most_last older q d last at
    ] last at

pub last_stands : (numbers : List ℕ) (q : ℕ) → IsLast numbers q → Contains numbers q
last_stands numbers q last = subst (λ ns. Contains ns q) (sym last.1) (Contains-append_right last.0 (q ∷ []) q (Contains-head q []))
