-- Steps on different variables: how many there can be, and what they tell.
use Rattle.std.proofs.Common.{◌≡◌, ℕ, ◌-◌, ◌<◌, ◌≤◌, Bool, true, false, not, ◌||◌, List, [], ◌∷◌, length, get_or, set, length-set, get_or-set_same, get_or-set_other, map, reverse, Option, Some, None, refl, sym, ap, ◌∙◌, subst, inl, inr, zero, suc, eqb, arith}
use Rattle.std.specs.Prelude.{nat_eq, nat_lt, option_map, if◌then◌else◌}
use Rattle.std.specs.List.{list_any, IsDistinct, AllByRecursion}
use Rattle.std.proofs.lemmas.List.{get_or-reverse, length-reverse, length-map}
use Rattle.std.proofs.lemmas.Bool.{eqb-true, eqb-false, eq-eqb, ne_eqb, cases_Bool, cases_eq, lt-ltb, le-ltb, ltb-true}
use Rattle.std.proofs.lemmas.Map.Keys.{IsDistinct-cons}
use Rattle.std.proofs.lemmas.Map.Steps.{length-le_from_distinct_below}
use Rattle.cdcl_core.specs.declared.trail.Step.{Step}
use Rattle.cdcl_core.specs.declared.trail.Mark.{Mark}
use Rattle.cdcl_core.specs.Steps.{known_value, known_place, oldest, AreFresh}
use Rattle.cdcl_core.specs.Marks.{mark_of}

abbrev variable_of : Step → ℕ
variable_of s = s.literal.variable

-- a value at an older step, where the newest is on another variable
older_none : (t : Bool) (b : Bool) (o : Option Bool) → (if t then Some b else o) ≡ None → (t ≡ false) × (o ≡ None)
older_none true b o none = cc
older_none false b o none = (refl, none)

apart : (steps : List Step) (v : ℕ) → known_value steps v ≡ None → AllByRecursion (λ y. eqb v y ≡ false) (map variable_of steps)
apart [] v none = tt
apart (s ∷ older) v none =
    let both : (nat_eq s.literal.variable v ≡ false) × (known_value older v ≡ None) = older_none _ _ _ none in
    (ne_eqb v s.literal.variable (λ e. eqb-false s.literal.variable v both.0 (sym e)), apart older v both.1)

distinct : (n : ℕ) (steps : List Step) → AreFresh n steps → IsDistinct eqb (map variable_of steps)
unfolding IsDistinct
distinct n [] fresh = tt
distinct n (s ∷ older) fresh = IsDistinct-cons eqb _ _ (apart older s.literal.variable fresh.1) (distinct n older fresh.2)

below : (n : ℕ) (steps : List Step) → AreFresh n steps → (q : ℕ) → list_any (eqb q) (map variable_of steps) ≡ true → q < n
below n [] fresh q found = cc
below n (s ∷ older) fresh q found =
    elim (cases_Bool (eqb q s.literal.variable)) [
      | inl here ↦ subst (λ v. v < n) (sym (eqb-true q s.literal.variable here)) fresh.0
      | inr there ↦ below n older fresh.2 q (subst (λ t. (t || list_any (eqb q) (map variable_of older)) ≡ true) there found)
    ]

-- there are at most as many steps as variables
pub length-AreFresh : (n : ℕ) (steps : List Step) → AreFresh n steps → length steps ≤ n
length-AreFresh n steps fresh =
    subst (λ k. k ≤ n) (length-map steps variable_of)
    (length-le_from_distinct_below (map variable_of steps) n (distinct n steps fresh) (below n steps fresh))

-- .. and fewer where a variable has no step
pub room : (n : ℕ) (steps : List Step) (v : ℕ) → AreFresh n steps → v < n → known_value steps v ≡ None → length steps < n
room n steps v fresh within open_ =
    let one_more : List Step = record { literal = record { variable = v; negated = false }; decision = false; reason = None } ∷ steps in
    length-AreFresh n one_more (within, open_, fresh)

pub variable-below : (n : ℕ) (steps : List Step) (k : ℕ) (d : Step) → AreFresh n steps → k < length steps → (get_or steps k d).literal.variable < n
variable-below n [] k d fresh within = absurd (omega arith)
variable-below n (s ∷ older) zero d fresh within = fresh.0
variable-below n (s ∷ older) (suc k) d fresh within = variable-below n older k d fresh.2 (omega arith)

-- the same of the steps in order
pub variable-below_in_order : (n : ℕ) (steps : List Step) (k : ℕ) (d : Step) → AreFresh n (reverse steps) → k < length steps → (get_or steps k d).literal.variable < n
variable-below_in_order n steps k d fresh within =
    let same : get_or (reverse steps) (length steps - 1 - k) d ≡ get_or steps k d = get_or-reverse steps (length steps - 1 - k) d (omega arith) ∙ ap (λ i. get_or steps i d) (omega arith) in
    subst (λ (s : Step). s.literal.variable < n) same
    (variable-below n (reverse steps) (length steps - 1 - k) d fresh (rw length-reverse (omega arith)))

mark_of-none : (steps : List Step) (v : ℕ) → known_value steps v ≡ None → mark_of steps v ≡ None
mark_of-none [] v none = refl
mark_of-none (s ∷ older) v none =
    let both : (nat_eq s.literal.variable v ≡ false) × (known_value older v ≡ None) = older_none _ _ _ none in
    ap (λ t. if t then Some (record { value = not s.literal.negated; place = length older }) else mark_of older v) both.0
    ∙ mark_of-none older v both.1

-- a mark has the value that the steps give
pub known_value-mark_of : (steps : List Step) (v : ℕ) → known_value steps v ≡ option_map (λ (m : Mark). m.value) (mark_of steps v)
known_value-mark_of [] v = refl
known_value-mark_of (s ∷ older) v =
    elim (nat_eq s.literal.variable v) as (λ t.
    (if t then Some (not s.literal.negated) else known_value older v)
    ≡ option_map (λ (m : Mark). m.value) (if t then Some (record { value = not s.literal.negated; place = length older }) else mark_of older v)) [
      | true ↦ refl
      | false ↦ known_value-mark_of older v
    ]

-- a mark's place is one of the steps'
pub place-below : (steps : List Step) (v : ℕ) (m : Mark) → mark_of steps v ≡ Some m → m.place < length steps
place-below [] v m is = cc
place-below (s ∷ older) v m is =
    elim (nat_eq s.literal.variable v) as (λ t.
    (if t then Some (record { value = not s.literal.negated; place = length older }) else mark_of older v) ≡ Some m → m.place < suc (length older)) [
      | true ↦ λ is. let here : record { value = not s.literal.negated; place = length older } ≡ m = cc in
          subst (λ (x : Mark). x.place < suc (length older)) here (omega arith)
      | false ↦ λ is. let before : m.place < length older = place-below older v m is in omega (arith, before)
    ] is

-- what a mark says of its variable where only the oldest k steps count
abbrev pub value_before : ℕ → Option Mark → Option Bool
value_before k None = None
value_before k (Some m) = if nat_lt m.place k then Some m.value else None

oldest_none : (k : ℕ) (steps : List Step) (v : ℕ) → known_value steps v ≡ None → known_value (oldest k steps) v ≡ None
oldest_none k [] v none = refl
oldest_none k (s ∷ older) v none =
    let both : (nat_eq s.literal.variable v ≡ false) × (known_value older v ≡ None) = older_none _ _ _ none in
    elim (nat_lt (length older) k) as (λ t. known_value (if t then s ∷ older else oldest k older) v ≡ None) [
      | true ↦ none
      | false ↦ oldest_none k older v both.1
    ]

all_before : (k : ℕ) (o : Option Mark) → ((m : Mark) → o ≡ Some m → m.place < k) → value_before k o ≡ option_map (λ (m : Mark). m.value) o
all_before k None below = refl
all_before k (Some m) below = ap (λ t. if t then Some m.value else None) (lt-ltb m.place k (below m refl))

pub known_value-oldest : (n k : ℕ) (steps : List Step) (v : ℕ) → AreFresh n steps → known_value (oldest k steps) v ≡ value_before k (mark_of steps v)
known_value-oldest n k [] v fresh = refl
known_value-oldest n k (s ∷ older) v fresh =
    elim (cases_Bool (nat_lt (length older) k)) [
      | inl all ↦
          ap (λ t. known_value (if t then s ∷ older else oldest k older) v) all
          ∙ known_value-mark_of (s ∷ older) v
          ∙ sym (all_before k (mark_of (s ∷ older) v) (λ m is. let below : m.place < length (s ∷ older) = place-below (s ∷ older) v m is in omega (arith, below, ltb-true (length older) k all)))
      | inr some ↦
          ap (λ t. known_value (if t then s ∷ older else oldest k older) v) some
          ∙ elim (cases_Bool (nat_eq s.literal.variable v)) [
            | inl here ↦
                oldest_none k older v (subst (λ w. known_value older w ≡ None) (eqb-true s.literal.variable v here) fresh.1)
                ∙ sym (ap (λ t. if t then Some (not s.literal.negated) else None) some)
                ∙ ap (λ t. value_before k (if t then Some (record { value = not s.literal.negated; place = length older }) else mark_of older v)) (sym here)
            | inr there ↦
                known_value-oldest n k older v fresh.2
                ∙ ap (λ t. value_before k (if t then Some (record { value = not s.literal.negated; place = length older }) else mark_of older v)) (sym there)
          ]
    ]

pub oldest-all : (k : ℕ) (steps : List Step) → length steps ≤ k → oldest k steps ≡ steps
oldest-all k [] all = refl
oldest-all k (s ∷ older) all = ap (λ t. if t then s ∷ older else oldest k older) (lt-ltb (length older) k (omega arith))

pub oldest-more : (k : ℕ) (s : Step) (older : List Step) → k ≤ length older → oldest k (s ∷ older) ≡ oldest k older
oldest-more k s older more = ap (λ t. if t then s ∷ older else oldest k older) (le-ltb (length older) k more)

-- the step at a place is the newest of the oldest steps up to there
pub HasStepAt : (place : ℕ) (steps : List Step) (d : Step) → place < length steps → oldest (suc place) steps ≡ get_or steps (length steps - suc place) d ∷ oldest place steps
HasStepAt place [] d within = absurd (omega arith)
HasStepAt place (s ∷ older) d within =
    elim (cases_eq place (length older)) [
      | inl last ↦
          oldest-all (suc place) (s ∷ older) (omega arith)
          ∙ (λ k. s ∷ (sym (oldest-more place s older (omega arith) ∙ oldest-all place older (omega arith))) k)
          ∙ ap (λ i. get_or (s ∷ older) i d ∷ oldest place (s ∷ older)) (let none : 0 ≡ suc (length older) - suc place = omega arith in none)
      | inr before ↦
          oldest-more (suc place) s older (omega arith)
          ∙ HasStepAt place older d (omega arith)
          ∙ (λ k. get_or older (length older - suc place) d ∷ sym (oldest-more place s older (omega arith)) k)
          ∙ ap (λ i. get_or (s ∷ older) i d ∷ oldest place (s ∷ older)) (let more : suc (length older - suc place) ≡ suc (length older) - suc place = omega arith in more)
    ]

pub HasStepAt-in_order : (place : ℕ) (steps : List Step) (s : Step) → place < length steps → s ≡ get_or steps place s → oldest (suc place) (reverse steps) ≡ s ∷ oldest place (reverse steps)
HasStepAt-in_order place steps s within is =
    let inside : place < length (reverse steps) = rw length-reverse within in
    let same : get_or (reverse steps) (length (reverse steps) - suc place) s ≡ s =
    get_or-reverse steps (length (reverse steps) - suc place) s (omega (arith, length-reverse steps)) ∙ ap (λ i. get_or steps i s) (omega (arith, length-reverse steps)) ∙ sym is in
    HasStepAt place (reverse steps) s inside ∙ ap (λ (x : Step). x ∷ oldest place (reverse steps)) same

-- a mark has the place that the steps give
pub known_place-mark_of : (steps : List Step) (v : ℕ) → known_place steps v ≡ option_map (λ (m : Mark). m.place) (mark_of steps v)
known_place-mark_of [] v = refl
known_place-mark_of (s ∷ older) v =
    elim (nat_eq s.literal.variable v) as (λ t.
    (if t then Some (length older) else known_place older v)
    ≡ option_map (λ (m : Mark). m.place) (if t then Some (record { value = not s.literal.negated; place = length older }) else mark_of older v)) [
      | true ↦ refl
      | false ↦ known_place-mark_of older v
    ]

-- the marks of the steps without the newest
pub marks-popped :
    (marks : List (Option Mark)) (s : Step) (older : List Step) →
    ((v : ℕ) → v < length marks → get_or marks v None ≡ mark_of (s ∷ older) v) →
    AreFresh (length marks) (s ∷ older) →
    (v : ℕ) → v < length (set marks s.literal.variable None) → get_or (set marks s.literal.variable None) v None ≡ mark_of older v
marks-popped marks s older are fresh v within =
    let inside : v < length marks = subst (λ k. v < k) (length-set marks s.literal.variable None) within in
    elim (cases_eq v s.literal.variable) [
      | inl same ↦
          subst (λ w. get_or (set marks s.literal.variable None) w None ≡ mark_of older w) (sym same)
          (get_or-set_same marks s.literal.variable None None fresh.0 ∙ sym (mark_of-none older s.literal.variable fresh.1))
      | inr other ↦
          get_or-set_other marks s.literal.variable v None None other
          ∙ are v inside
          ∙ ap (λ t. if t then Some (record { value = not s.literal.negated; place = length older }) else mark_of older v) (ne_eqb s.literal.variable v (λ e. other (sym e)))
    ]

-- the values of the steps without the newest
pub values-popped :
    (n : ℕ) (values : List (Option Bool)) (s : Step) (older : List Step) → length values ≡ n →
    ((v : ℕ) → v < n → get_or values v None ≡ known_value (s ∷ older) v) →
    AreFresh n (s ∷ older) →
    (v : ℕ) → v < n → get_or (set values s.literal.variable None) v None ≡ known_value older v
values-popped n values s older count are fresh v within =
    elim (cases_eq v s.literal.variable) [
      | inl same ↦
          subst (λ w. get_or (set values s.literal.variable None) w None ≡ known_value older w) (sym same)
          (get_or-set_same values s.literal.variable None None (subst (λ k. s.literal.variable < k) (sym count) fresh.0) ∙ sym fresh.1)
      | inr other ↦
          get_or-set_other values s.literal.variable v None None other
          ∙ are v within
          ∙ ap (λ t. if t then Some (not s.literal.negated) else known_value older v) (ne_eqb s.literal.variable v (λ e. other (sym e)))
    ]

-- .. and with one more
pub values-pushed :
    (n : ℕ) (values : List (Option Bool)) (s : Step) (older : List Step) → length values ≡ n → s.literal.variable < n →
    ((v : ℕ) → v < n → get_or values v None ≡ known_value older v) →
    (v : ℕ) → v < n → get_or (set values s.literal.variable (Some (not s.literal.negated))) v None ≡ known_value (s ∷ older) v
values-pushed n values s older count inside are v within =
    elim (cases_eq v s.literal.variable) [
      | inl same ↦
          subst (λ w. get_or (set values s.literal.variable (Some (not s.literal.negated))) w None ≡ known_value (s ∷ older) w) (sym same)
          (get_or-set_same values s.literal.variable (Some (not s.literal.negated)) None (subst (λ k. s.literal.variable < k) (sym count) inside)
          ∙ sym (ap (λ t. if t then Some (not s.literal.negated) else known_value older s.literal.variable) (eq-eqb s.literal.variable s.literal.variable refl)))
      | inr other ↦
          get_or-set_other values s.literal.variable v (Some (not s.literal.negated)) None other
          ∙ are v within
          ∙ sym (ap (λ t. if t then Some (not s.literal.negated) else known_value older v) (ne_eqb s.literal.variable v (λ e. other (sym e))))
    ]
