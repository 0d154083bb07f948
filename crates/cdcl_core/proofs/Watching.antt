-- What is watched after steps that follow, and after a watch was moved.
use Rattle.std.proofs.Common.{◌≡◌, ◌≢◌, ℕ, suc, ◌+◌, ◌*◌, ◌<◌, ◌≤◌, ◌⊎◌, inl, inr, Bool, true, false, not, List, [], ◌∷◌, ◌++◌, length, set, refl, sym, ap, ◌∙◌, subst, arith}
use Rattle.std.specs.Prelude.{Option, Some, None, slice_get, option_map, nat_lt, nat_eq, if◌then◌else◌, Contains}
use Rattle.std.specs.List.{swap_remove}
use Rattle.std.proofs.lemmas.Bool.{cases_eq, cases_lt, cases_Bool, eqb-true, eq-eqb, ltb-false}
use Rattle.std.proofs.lemmas.Option.{slice_get_within}
use Rattle.std.proofs.lemmas.List.Elements.{Contains-append_cases}
use Rattle.sat_form.specs.Satisfaction.{Literal, inverse_of, index_of}
use Rattle.sat_form.proofs.Propagation.{literal_cases}
use Rattle.sat_form.proofs.Databases.{Contains-one}
use Rattle.cdcl_core.specs.declared.trail.Step.{Step}
use Rattle.cdcl_core.specs.declared.trail.Mark.{Mark}
use Rattle.cdcl_core.specs.declared.lists.Watch.{Watch}
use Rattle.cdcl_core.specs.declared.watches.Pair.{Pair}
use Rattle.cdcl_core.specs.Steps.{Course, known_value, known_truth, oldest, decision_places, AreFresh}
use Rattle.cdcl_core.specs.Marks.{mark_of}
use Rattle.cdcl_core.specs.Lists.{watches_of}
use Rattle.cdcl_core.specs.Watched.{IsNotFalse, HasTrue, AreOpen, IsWatched, AreWatched, AreQuiet, Waits, IsListed, AreListed, IsFalsifiedAt, AreVisited}
use Rattle.cdcl_core.specs.Going.{GoesOn}
use Rattle.cdcl_core.proofs.Courses.{value_before, known_value-oldest, known_value-mark_of, oldest-all, oldest-more}
use Rattle.cdcl_core.proofs.Places.{slice_get-one, slice_get-set_same, slice_get-set_other}
use Rattle.cdcl_core.proofs.Listed.{Waits-removed, index_of-below}

pub mapped_kept : (g : Bool → Bool) (o p : Option Bool) (b : Bool) → ((x : Bool) → o ≡ Some x → p ≡ Some x) → option_map g o ≡ Some b → option_map g p ≡ Some b
mapped_kept g None p b keeps is = cc
mapped_kept g (Some x) p b keeps is = ap (option_map g) (keeps x refl) ∙ is

value_before_kept : (k : ℕ) (m : Option Mark) (b : Bool) → value_before k m ≡ Some b → option_map (λ (x : Mark). x.value) m ≡ Some b
value_before_kept k None b is = cc
value_before_kept k (Some m) b is =
    elim (nat_lt m.place k) as (λ t. (if t then Some m.value else None) ≡ Some b → Some m.value ≡ Some b) [ true ↦ λ is. is | false ↦ λ is. cc ] is

-- what older steps tell stays
pub known_truth-older : (n k : ℕ) (steps : List Step) (l : Literal) (b : Bool) → AreFresh n steps → known_truth (oldest k steps) l ≡ Some b → known_truth steps l ≡ Some b
known_truth-older n k steps l b fresh =
    mapped_kept (λ x. if l.negated then not x else x) (known_value (oldest k steps) l.variable) (known_value steps l.variable) b
    (λ x is. known_value-mark_of steps l.variable ∙ value_before_kept k (mark_of steps l.variable) x (sym (known_value-oldest n k steps l.variable fresh) ∙ is))

pub IsNotFalse-older : (n k : ℕ) (steps : List Step) (l : Literal) → AreFresh n steps → IsNotFalse steps l → IsNotFalse (oldest k steps) l
IsNotFalse-older n k steps l fresh open_ is = open_ (known_truth-older n k steps l false fresh is)

pub AreFresh-oldest : (n k : ℕ) (steps : List Step) → AreFresh n steps → AreFresh n (oldest k steps)
AreFresh-oldest n k [] fresh = fresh
AreFresh-oldest n k (s ∷ older) fresh =
    elim (nat_lt (length older) k) as (λ t. AreFresh n (if t then s ∷ older else oldest k older)) [ true ↦ fresh | false ↦ AreFresh-oldest n k older fresh.2 ]

-- one more step
pub known_truth-push : (s : Step) (older : List Step) (l : Literal) (b : Bool) → known_value older s.literal.variable ≡ None → known_truth older l ≡ Some b → known_truth (s ∷ older) l ≡ Some b
known_truth-push s older l b none =
    mapped_kept (λ x. if l.negated then not x else x) (known_value older l.variable) (known_value (s ∷ older) l.variable) b
    (λ x is. elim (cases_Bool (nat_eq s.literal.variable l.variable)) [
      | inl here ↦ let same : known_value older l.variable ≡ None = ap (known_value older) (sym (eqb-true s.literal.variable l.variable here)) ∙ none in cc
      | inr there ↦ ap (λ t. if t then Some (not s.literal.negated) else known_value older l.variable) there ∙ is
    ])

-- a decision's place is one of the steps'
pub place-decided : (steps : List Step) (d : ℕ) → Contains (decision_places steps) d → d < length steps
place-decided [] d at = absurd (omega (arith, at.1))
place-decided (s ∷ older) d at =
    elim s.decision as (λ b. Contains (if b then decision_places older ++ length older ∷ [] else decision_places older) d → d < suc (length older)) [
      | true ↦ λ at. elim (Contains-append_cases (decision_places older) (length older ∷ []) d at) [
        | inl before ↦ let less : d < length older = place-decided older d before in omega (arith, less)
        | inr last ↦ let same : length older ≡ d = Contains-one (length older) d last in omega (arith, same)
      ]
      | false ↦ λ at. let less : d < length older = place-decided older d at in omega (arith, less)
    ] at

pub AreQuiet-gone : (cs : List (List Literal)) (pairs : List Pair) (old new : Course) → GoesOn old new → AreQuiet cs pairs old.steps → AreQuiet cs pairs new.steps
AreQuiet-gone cs pairs old new on quiet = λ d at.
    let before : Contains (decision_places old.steps) d = subst (λ ds. Contains ds d) on.places at in
    let within : d < length old.steps = place-decided old.steps d before in
    subst (λ (x : List Step). AreWatched x x cs pairs) (sym (on.oldest d (omega (arith, within)))) (quiet d before)

-- other watched literals, one of the old ones and another that is not false
pub record IsOther (c : List Literal) (p q : Pair) : Type 0 where
  pub first : Contains c q.first
  pub second : Contains c q.second
  pub apart : q.first ≢ q.second
  pub beside : (q.first ≡ p.first) ⊎ (q.first ≡ p.second)

AreOpen-moved : (older : List Step) (c : List Literal) (p q : Pair) → IsOther c p q → IsNotFalse older q.second → AreOpen older c p → AreOpen older c q
AreOpen-moved older c p q other open_ are =
    record {
      apart = other.apart;
      first = other.first;
      second = other.second;
      first_open = elim other.beside [ inl e ↦ subst (IsNotFalse older) (sym e) are.first_open | inr e ↦ subst (IsNotFalse older) (sym e) are.second_open ];
      second_open = open_;
    }

IsWatched-moved : (older steps : List Step) (c : List Literal) (p q : Pair) → IsOther c p q → IsNotFalse older q.second → IsWatched older steps c p → IsWatched older steps c q
IsWatched-moved older steps c p q other open_ watched =
    elim watched [ inl true_ ↦ inl true_ | inr are ↦ inr (AreOpen-moved older c p q other open_ are) ]

-- what holds of a clause and its watched literals, where those of one clause changed
changed :
    (P : ℕ → List Literal → Pair → Type 0) (cs : List (List Literal)) (pairs : List Pair) (number : ℕ) (c : List Literal) (q : Pair) → number < length pairs →
    slice_get cs number ≡ Some c → P number c q →
    ((k : ℕ) (d : List Literal) (p : Pair) → number ≢ k → slice_get cs k ≡ Some d → slice_get pairs k ≡ Some p → P k d p) →
    (k : ℕ) (d : List Literal) (p : Pair) → slice_get cs k ≡ Some d → slice_get (set pairs number q) k ≡ Some p → P k d p
changed P cs pairs number c q within found here elsewhere k d p clause pair =
    elim (cases_eq k number) [
      | inl same ↦
          let same_clause : c ≡ d = slice_get-one cs number c d found (ap (slice_get cs) (sym same) ∙ clause) in
          let same_pair : q ≡ p = slice_get-one (set pairs number q) number q p (slice_get-set_same pairs number q within) (ap (slice_get (set pairs number q)) (sym same) ∙ pair) in
          subst (λ i. P i d p) (sym same) (subst (λ y. P number y p) same_clause (subst (λ (y : Pair). P number c y) same_pair here))
      | inr other ↦ elsewhere k d p (λ e. other (sym e)) clause (sym (slice_get-set_other pairs number k q other) ∙ pair)
    ]

pub AreQuiet-moved :
    (n : ℕ) (cs : List (List Literal)) (pairs : List Pair) (steps : List Step) (number : ℕ) (c : List Literal) (p q : Pair) → AreFresh n steps →
    slice_get cs number ≡ Some c → slice_get pairs number ≡ Some p → IsOther c p q → IsNotFalse steps q.second → AreQuiet cs pairs steps → AreQuiet cs (set pairs number q) steps
AreQuiet-moved n cs pairs steps number c p q fresh found watched other open_ quiet = λ d at.
    changed (λ k e r. IsWatched (oldest d steps) (oldest d steps) e r) cs pairs number c q (slice_get_within pairs number p watched) found
    (IsWatched-moved (oldest d steps) (oldest d steps) c p q other (IsNotFalse-older n d steps q.second fresh open_) (quiet d at number c p found watched))
    (λ k e r _ clause pair. quiet d at k e r clause pair)

-- a step makes its literal's inverse false and no other literal
true_beside : (a b : Bool) → (a ≡ b → ⊥) → option_map (λ x. if a then not x else x) (Some (not (not b))) ≡ Some false → ⊥
true_beside true true other is = absurd (other refl)
true_beside true false other is = cc
true_beside false true other is = cc
true_beside false false other is = absurd (other refl)

not_false_next : (s : Step) (older : List Step) (l m : Literal) → s.literal ≡ inverse_of l → m ≢ l → IsNotFalse older m → IsNotFalse (s ∷ older) m
not_false_next s older l m inverse other open_ =
    let variable : s.literal.variable ≡ l.variable = ap (λ (x : Literal). x.variable) inverse in
    let negated : s.literal.negated ≡ not l.negated = ap (λ (x : Literal). x.negated) inverse in
    elim (cases_Bool (nat_eq s.literal.variable m.variable)) [
      | inl here ↦ λ is.
          let same : m.variable ≡ l.variable = sym (eqb-true s.literal.variable m.variable here) ∙ variable in
          let differs : m.negated ≢ l.negated = λ e. other (λ k. record { variable = same k; negated = e k }) in
          true_beside m.negated l.negated differs
          (ap (λ b. option_map (λ x. if m.negated then not x else x) (Some (not b))) (sym negated)
          ∙ sym (ap (λ t. option_map (λ x. if m.negated then not x else x) (if t then Some (not s.literal.negated) else known_value older m.variable)) here)
          ∙ is)
      | inr there ↦ λ is.
          open_ (sym (ap (λ t. option_map (λ x. if m.negated then not x else x) (if t then Some (not s.literal.negated) else known_value older m.variable)) there) ∙ is)
    ]

pub IsNotFalse-next : (place : ℕ) (steps : List Step) (l m : Literal) → IsFalsifiedAt place steps l → m ≢ l → IsNotFalse (oldest place steps) m → IsNotFalse (oldest (suc place) steps) m
IsNotFalse-next place steps l m falsified other open_ =
    subst (λ (x : List Step). IsNotFalse x m) (sym falsified.is) (not_false_next falsified.step (oldest place steps) l m falsified.inverse other open_)

pub place_falsified : (place : ℕ) (steps : List Step) (s : Step) → oldest (suc place) steps ≡ s ∷ oldest place steps → place < length steps
place_falsified place steps s is =
    elim (cases_lt place (length steps)) [
      | inl less ↦ less
      | inr past ↦
          let longer : length steps ≡ suc (length steps) =
          ap length (sym (oldest-all (suc place) steps (omega arith)) ∙ is ∙ (λ k. s ∷ oldest-all place steps past k)) in
          absurd (omega arith)
    ]

false_told : (b : Bool) → option_map (λ x. if b then not x else x) (Some (not (not b))) ≡ Some false
false_told true = refl
false_told false = refl

-- the literal that a step makes false
pub known_truth-falsified : (n place : ℕ) (steps : List Step) (l : Literal) → AreFresh n steps → IsFalsifiedAt place steps l → known_truth steps l ≡ Some false
known_truth-falsified n place steps l fresh falsified =
    let s : Step = falsified.step in
    let here : nat_eq s.literal.variable l.variable ≡ true = eq-eqb s.literal.variable l.variable (ap (λ (x : Literal). x.variable) falsified.inverse) in
    known_truth-older n (suc place) steps l false fresh
    (ap (λ (x : List Step). known_truth x l) falsified.is
    ∙ ap (λ t. option_map (λ x. if l.negated then not x else x) (if t then Some (not s.literal.negated) else known_value (oldest place steps) l.variable)) here
    ∙ ap (λ b. option_map (λ x. if l.negated then not x else x) (Some (not b))) (ap (λ (x : Literal). x.negated) falsified.inverse)
    ∙ false_told l.negated)

true_told : (b : Bool) → option_map (λ x. if b then not x else x) (Some (not b)) ≡ Some true
true_told true = refl
true_told false = refl

-- a step makes its literal true
pub known_truth-newest : (s : Step) (older : List Step) (l : Literal) → s.literal ≡ l → known_truth (s ∷ older) l ≡ Some true
known_truth-newest s older l is =
    let here : nat_eq s.literal.variable l.variable ≡ true = eq-eqb s.literal.variable l.variable (ap (λ (x : Literal). x.variable) is) in
    ap (λ t. option_map (λ x. if l.negated then not x else x) (if t then Some (not s.literal.negated) else known_value older l.variable)) here
    ∙ ap (λ b. option_map (λ x. if l.negated then not x else x) (Some (not b))) (ap (λ (x : Literal). x.negated) is)
    ∙ true_told l.negated

-- before the watches on a literal are looked at
pub AreVisited-start :
    (n place : ℕ) (l : Literal) (cs : List (List Literal)) (steps : List Step) (pairs : List Pair) (lists : List (List Watch)) → AreListed n cs pairs lists → IsFalsifiedAt place steps l →
    AreWatched (oldest place steps) steps cs pairs → AreVisited place 0 cs steps pairs (watches_of lists l)
AreVisited-start n place l cs steps pairs lists are falsified watched k c p clause pair =
    elim (watched k c p clause pair) [
      | inl true_ ↦ inl (inl true_)
      | inr open_ ↦
          let listed : IsListed lists k c p = are.listed k c p clause pair open_.apart in
          elim (literal_cases p.first l) [
            | inl first ↦ inr (inr open_, subst (λ (x : Literal). Waits 0 (watches_of lists x) k) first listed.first_waits)
            | inr first ↦ elim (literal_cases p.second l) [
              | inl second ↦ inr (inr open_, subst (λ (x : Literal). Waits 0 (watches_of lists x) k) second listed.second_waits)
              | inr second ↦
                  inl (inr (record {
                    apart = open_.apart;
                    first = open_.first;
                    second = open_.second;
                    first_open = IsNotFalse-next place steps l p.first falsified first open_.first_open;
                    second_open = IsNotFalse-next place steps l p.second falsified second open_.second_open;
                  }))
            ]
          ]
    ]

-- .. and when all were
pub AreVisited-end :
    (place at : ℕ) (cs : List (List Literal)) (steps : List Step) (pairs : List Pair) (watches : List Watch) → length watches ≤ at →
    AreVisited place at cs steps pairs watches → AreWatched (oldest (suc place) steps) steps cs pairs
AreVisited-end place at cs steps pairs watches all visited k c p clause pair =
    elim (visited k c p clause pair) [
      | inl watched ↦ watched
      | inr waiting ↦ absurd (let waits : Waits at watches k = waiting.1 in omega (arith, waits.after, slice_get_within watches waits.place waits.watch waits.is, all))
    ]

-- .. where the clause of the next one has a true literal
pub AreVisited-kept :
    (place at : ℕ) (cs : List (List Literal)) (steps : List Step) (pairs : List Pair) (watches : List Watch) (w : Watch) (c : List Literal) → slice_get watches at ≡ Some w →
    slice_get cs w.number ≡ Some c → HasTrue steps c → AreVisited place at cs steps pairs watches → AreVisited place (at + 1) cs steps pairs watches
AreVisited-kept place at cs steps pairs watches w c stands found true_ visited k d p clause pair =
    elim (visited k d p clause pair) [
      | inl watched ↦ inl watched
      | inr waiting ↦
          let waits : Waits at watches k = waiting.1 in
          elim (cases_eq waits.place at) [
            | inl here ↦
                let same : w ≡ waits.watch = slice_get-one watches at w waits.watch stands (ap (slice_get watches) (sym here) ∙ waits.is) in
                let number : w.number ≡ k = ap (λ (x : Watch). x.number) same ∙ waits.of in
                inl (inl (subst (HasTrue steps) (slice_get-one cs k c d (ap (slice_get cs) (sym number) ∙ found) clause) true_))
            | inr other ↦
                inr (waiting.0, record { place = waits.place; after = omega (arith, waits.after, other); watch = waits.watch; is = waits.is; of = waits.of })
          ]
    ]

pub HasTrue-gone : (old new : Course) (c : List Literal) → GoesOn old new → HasTrue old.steps c → HasTrue new.steps c
HasTrue-gone old new c on true_ = record { literal = true_.literal; stands = true_.stands; is = on.kept true_.literal true true_.is }

pub IsWatched-gone : (k : ℕ) (old new : Course) (c : List Literal) (p : Pair) → GoesOn old new → k ≤ length old.steps → IsWatched (oldest k old.steps) old.steps c p → IsWatched (oldest k new.steps) new.steps c p
IsWatched-gone k old new c p on within watched =
    elim watched [ inl true_ ↦ inl (HasTrue-gone old new c on true_) | inr open_ ↦ inr (subst (λ (x : List Step). AreOpen x c p) (sym (on.oldest k within)) open_) ]

-- .. after steps that follow
pub AreVisited-gone :
    (place at : ℕ) (cs : List (List Literal)) (pairs : List Pair) (watches : List Watch) (old new : Course) → GoesOn old new → place < length old.steps →
    AreVisited place at cs old.steps pairs watches → AreVisited place at cs new.steps pairs watches
AreVisited-gone place at cs pairs watches old new on within visited k c p clause pair =
    elim (visited k c p clause pair) [
      | inl watched ↦ inl (IsWatched-gone (suc place) old new c p on (omega arith) watched)
      | inr waiting ↦ inr (IsWatched-gone place old new c p on (omega arith) waiting.0, waiting.1)
    ]

-- .. where the clause's other watched literal and a new one are watched now
pub AreVisited-moved :
    (n place at : ℕ) (l : Literal) (cs : List (List Literal)) (steps : List Step) (pairs : List Pair) (watches : List Watch) (w x : Watch) (c : List Literal) (p q : Pair) →
    AreFresh n steps → IsFalsifiedAt place steps l → slice_get watches at ≡ Some w → slice_get cs w.number ≡ Some c → slice_get pairs w.number ≡ Some p → IsOther c p q → q.first ≢ l →
    IsNotFalse steps q.second → AreVisited place at cs steps pairs watches → AreVisited place at cs steps (set pairs w.number q) (swap_remove watches at x)
AreVisited-moved n place at l cs steps pairs watches w x c p q fresh falsified stands found watched other beside open_ visited =
    let next : List Step = oldest (suc place) steps in
    let here : IsWatched next steps c q =
    elim (visited w.number c p found watched) [
      | inl already ↦ IsWatched-moved next steps c p q other (IsNotFalse-older n (suc place) steps q.second fresh open_) already
      | inr waiting ↦ elim waiting.0 [
        | inl true_ ↦ inl true_
        | inr are ↦
            let before : AreOpen (oldest place steps) c q = AreOpen-moved (oldest place steps) c p q other (IsNotFalse-older n place steps q.second fresh open_) are in
            inr (record {
              apart = before.apart;
              first = before.first;
              second = before.second;
              first_open = IsNotFalse-next place steps l q.first falsified beside before.first_open;
              second_open = IsNotFalse-older n (suc place) steps q.second fresh open_;
            })
      ]
    ] in
    changed (λ k d r. IsWatched next steps d r ⊎ (IsWatched (oldest place steps) steps d r × Waits at (swap_remove watches at x) k)) cs pairs w.number c q
    (slice_get_within pairs w.number p watched) found (inl here)
    (λ k d r apart clause pair.
    elim (visited k d r clause pair) [
      | inl watched ↦ inl watched
      | inr waiting ↦ inr (waiting.0, Waits-removed watches at w x at k stands (omega arith) apart waiting.1)
    ])

open_from : (o : Option Bool) (n : Bool) → option_map (λ b. if n then not b else b) o ≡ None → o ≡ None
open_from None n none = refl
open_from (Some b) n none = cc

-- a literal without a truth is on a variable without a value
pub known_value-open : (steps : List Step) (l : Literal) → known_truth steps l ≡ None → known_value steps l.variable ≡ None
known_value-open steps l none = open_from (known_value steps l.variable) l.negated none

variable-oldest : (n place : ℕ) (steps : List Step) (s : Step) → AreFresh n steps → oldest (suc place) steps ≡ s ∷ oldest place steps → s.literal.variable < n
variable-oldest n place steps s fresh is =
    let some : AreFresh n (oldest (suc place) steps) = AreFresh-oldest n (suc place) steps fresh in
    (subst (AreFresh n) is some).0

-- a literal that a step makes false has a list
pub room-falsified : (n k place : ℕ) (steps : List Step) (l : Literal) → AreFresh n steps → IsFalsifiedAt place steps l → k ≡ 2 * n → index_of l < k
room-falsified n k place steps l fresh falsified is =
    index_of-below l n k (subst (λ v. v < n) (ap (λ (x : Literal). x.variable) falsified.inverse) (variable-oldest n place steps falsified.step fresh falsified.is)) is

-- .. after steps that follow
pub IsFalsifiedAt-gone : (place : ℕ) (l : Literal) (old new : Course) → GoesOn old new → IsFalsifiedAt place old.steps l → IsFalsifiedAt place new.steps l
IsFalsifiedAt-gone place l old new on falsified =
    let within : place < length old.steps = place_falsified place old.steps falsified.step falsified.is in
    record {
      step = falsified.step;
      is = on.oldest (suc place) (omega (arith, within)) ∙ falsified.is ∙ (λ k. falsified.step ∷ sym (on.oldest place (omega (arith, within))) k);
      inverse = falsified.inverse;
    }

-- the oldest of the oldest steps
pub oldest-oldest : (j k : ℕ) (steps : List Step) → j ≤ k → oldest j (oldest k steps) ≡ oldest j steps
oldest-oldest j k [] less = refl
oldest-oldest j k (s ∷ older) less =
    elim (cases_Bool (nat_lt (length older) k)) [
      | inl all ↦ ap (λ t. oldest j (if t then s ∷ older else oldest k older)) all
      | inr some ↦
          ap (λ t. oldest j (if t then s ∷ older else oldest k older)) some
          ∙ oldest-oldest j k older less
          ∙ sym (oldest-more j s older (omega (arith, ltb-false (length older) k some)))
    ]

pub known_truth-between :
    (n j k : ℕ) (steps : List Step) (l : Literal) (b : Bool) → AreFresh n steps → j ≤ k → known_truth (oldest j steps) l ≡ Some b → known_truth (oldest k steps) l ≡ Some b
known_truth-between n j k steps l b fresh less is =
    known_truth-older n j (oldest k steps) l b (AreFresh-oldest n k steps fresh) (ap (λ (x : List Step). known_truth x l) (oldest-oldest j k steps less) ∙ is)

pub oldest-none : (steps : List Step) → oldest 0 steps ≡ []
oldest-none [] = refl
oldest-none (s ∷ older) = oldest-more 0 s older (omega arith) ∙ oldest-none older

-- the clauses up to one more are watched
pub watched_more :
    (cs : List (List Literal)) (pairs : List Pair) (i : ℕ) (old new : Course) → GoesOn old new →
    ((k : ℕ) (c : List Literal) (p : Pair) → k < i → slice_get cs k ≡ Some c → slice_get pairs k ≡ Some p → IsWatched [] old.steps c p) →
    ((c : List Literal) (p : Pair) → slice_get cs i ≡ Some c → slice_get pairs i ≡ Some p → IsWatched [] new.steps c p) →
    (k : ℕ) (c : List Literal) (p : Pair) → k < i + 1 → slice_get cs k ≡ Some c → slice_get pairs k ≡ Some p → IsWatched [] new.steps c p
watched_more cs pairs i old new on before here k c p less clause pair =
    elim (cases_lt k i) [
      | inl earlier ↦ elim (before k c p earlier clause pair) [ inl true_ ↦ inl (HasTrue-gone old new c on true_) | inr open_ ↦ inr open_ ]
      | inr last ↦
          let same : k ≡ i = omega arith in
          here c p (ap (slice_get cs) (sym same) ∙ clause) (ap (slice_get pairs) (sym same) ∙ pair)
    ]

pub all_watched :
    (cs : List (List Literal)) (pairs : List Pair) (i k : ℕ) (steps : List Step) → k ≡ 0 → length cs ≤ i →
    ((k : ℕ) (c : List Literal) (p : Pair) → k < i → slice_get cs k ≡ Some c → slice_get pairs k ≡ Some p → IsWatched [] steps c p) → AreWatched (oldest k steps) steps cs pairs
all_watched cs pairs i k steps none all before =
    subst (λ (x : List Step). AreWatched x steps cs pairs) (sym (ap (λ j. oldest j steps) none ∙ oldest-none steps))
    (λ j c p clause pair. before j c p (omega (arith, slice_get_within cs j c clause, all)) clause pair)

-- two literals that differ are open where there are no steps
pub open_at_start : (n : ℕ) (cs : List (List Literal)) (pairs : List Pair) (lists : List (List Watch)) (k : ℕ) (c : List Literal) (p : Pair) → AreListed n cs pairs lists →
    slice_get cs k ≡ Some c → slice_get pairs k ≡ Some p → p.first ≢ p.second → AreOpen [] c p
open_at_start n cs pairs lists k c p are clause pair apart =
    let listed : IsListed lists k c p = are.listed k c p clause pair apart in
    record { apart = apart; first = listed.first; second = listed.second; first_open = λ is. cc; second_open = λ is. cc }
