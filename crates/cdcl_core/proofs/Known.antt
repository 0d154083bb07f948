-- Where the steps are that give values, and which values the older ones give.
use Rattle.std.proofs.Common.{◌≡◌, ℕ, suc, ◌<◌, ◌≤◌, ◌⊎◌, inl, inr, Bool, true, false, not, List, [], ◌∷◌, length, Option, Some, None, refl, sym, ap, ◌∙◌, subst, arith}
use Rattle.std.specs.Prelude.{nat_eq, nat_lt, option_map, if◌then◌else◌}
use Rattle.std.proofs.lemmas.Bool.{cases_Bool, cases_eq, cases_lt, eqb-true, eq-eqb, lt-ltb, le-ltb}
use Rattle.cdcl_core.specs.declared.trail.Step.{Step}
use Rattle.cdcl_core.specs.declared.trail.Mark.{Mark}
use Rattle.cdcl_core.specs.Steps.{known_value, known_place, oldest, AreFresh}
use Rattle.cdcl_core.specs.Marks.{mark_of}
use Rattle.cdcl_core.proofs.Courses.{known_value-mark_of, known_place-mark_of, known_value-oldest, value_before, place-below, oldest-all, oldest-more}

-- the mark of a variable with a value
pub record IsMarkOf (steps : List Step) (v place : ℕ) (value : Bool) : Type 0 where
  pub mark : Mark
  pub is : mark_of steps v ≡ Some mark
  pub at : mark.place ≡ place
  pub gives : mark.value ≡ value

mark_at : (steps : List Step) (v place : ℕ) (o : Option Mark) → mark_of steps v ≡ o → option_map (λ (m : Mark). m.place) o ≡ Some place → (value : Bool) × IsMarkOf steps v place value
mark_at steps v place None is found = absurd (cc)
mark_at steps v place (Some m) is found = (m.value, record { mark = m; is = is; at = cc; gives = refl })

mark_with : (steps : List Step) (v : ℕ) (b : Bool) (o : Option Mark) → mark_of steps v ≡ o → option_map (λ (m : Mark). m.value) o ≡ Some b → (place : ℕ) × IsMarkOf steps v place b
mark_with steps v b None is found = absurd (cc)
mark_with steps v b (Some m) is found = (m.place, record { mark = m; is = is; at = refl; gives = cc })

pub mark_from_place : (steps : List Step) (v place : ℕ) → known_place steps v ≡ Some place → (value : Bool) × IsMarkOf steps v place value
mark_from_place steps v place found = mark_at steps v place (mark_of steps v) refl (sym (known_place-mark_of steps v) ∙ found)

pub mark_from_value : (steps : List Step) (v : ℕ) (b : Bool) → known_value steps v ≡ Some b → (place : ℕ) × IsMarkOf steps v place b
mark_from_value steps v b found = mark_with steps v b (mark_of steps v) refl (sym (known_value-mark_of steps v) ∙ found)

value_of-mark : (steps : List Step) (v place : ℕ) (b : Bool) → IsMarkOf steps v place b → known_value steps v ≡ Some b
value_of-mark steps v place b m = known_value-mark_of steps v ∙ ap (option_map (λ (x : Mark). x.value)) m.is ∙ ap Some m.gives

place_of-mark : (steps : List Step) (v place : ℕ) (b : Bool) → IsMarkOf steps v place b → known_place steps v ≡ Some place
place_of-mark steps v place b m = known_place-mark_of steps v ∙ ap (option_map (λ (x : Mark). x.place)) m.is ∙ ap Some m.at

-- a variable with a place has a value, and one with a value a place
pub value_from_place : (steps : List Step) (v place : ℕ) → known_place steps v ≡ Some place → (b : Bool) × (known_value steps v ≡ Some b)
value_from_place steps v place found =
    let m : (b : Bool) × IsMarkOf steps v place b = mark_from_place steps v place found in
    (m.0, value_of-mark steps v place m.0 m.1)

pub place_from_value : (steps : List Step) (v : ℕ) (b : Bool) → known_value steps v ≡ Some b → (place : ℕ) × (known_place steps v ≡ Some place)
place_from_value steps v b found =
    let m : (place : ℕ) × IsMarkOf steps v place b = mark_from_value steps v b found in
    (m.0, place_of-mark steps v m.0 b m.1)

pub known_place-below : (steps : List Step) (v place : ℕ) → known_place steps v ≡ Some place → place < length steps
known_place-below steps v place found =
    let m : (b : Bool) × IsMarkOf steps v place b = mark_from_place steps v place found in
    subst (λ k. k < length steps) m.1.at (place-below steps v m.1.mark m.1.is)

-- the values that the oldest k steps give
pub value_before-place : (n k : ℕ) (steps : List Step) (v place : ℕ) → AreFresh n steps → known_place steps v ≡ Some place → place < k → known_value (oldest k steps) v ≡ known_value steps v
value_before-place n k steps v place fresh found before =
    let m : (b : Bool) × IsMarkOf steps v place b = mark_from_place steps v place found in
    let test : nat_lt m.1.mark.place k ≡ true = lt-ltb m.1.mark.place k (subst (λ x. x < k) (sym m.1.at) before) in
    known_value-oldest n k steps v fresh
    ∙ ap (value_before k) m.1.is
    ∙ ap (λ t. if t then Some m.1.mark.value else None) test
    ∙ ap Some m.1.gives
    ∙ sym (value_of-mark steps v place m.0 m.1)

pub no_value_before-place : (n k : ℕ) (steps : List Step) (v place : ℕ) → AreFresh n steps → known_place steps v ≡ Some place → k ≤ place → known_value (oldest k steps) v ≡ None
no_value_before-place n k steps v place fresh found later =
    let m : (b : Bool) × IsMarkOf steps v place b = mark_from_place steps v place found in
    let test : nat_lt m.1.mark.place k ≡ false = le-ltb m.1.mark.place k (subst (λ x. k ≤ x) (sym m.1.at) later) in
    known_value-oldest n k steps v fresh
    ∙ ap (value_before k) m.1.is
    ∙ ap (λ t. if t then Some m.1.mark.value else None) test

-- a variable that the oldest k steps give a value
pub record IsKnownBefore (k : ℕ) (steps : List Step) (v : ℕ) (b : Bool) : Type 0 where
  pub place : ℕ
  pub found : known_place steps v ≡ Some place
  pub before : place < k
  pub value : known_value steps v ≡ Some b

known_before-mark : (k : ℕ) (steps : List Step) (v : ℕ) (b : Bool) (o : Option Mark) → mark_of steps v ≡ o → value_before k o ≡ Some b → IsKnownBefore k steps v b
known_before-mark k steps v b None is told = absurd (cc)
known_before-mark k steps v b (Some m) is told =
    elim (cases_lt m.place k) [
      | inl below ↦
          let value : m.value ≡ b = let here : Some m.value ≡ Some b = sym (ap (λ t. if t then Some m.value else None) (lt-ltb m.place k below)) ∙ told in cc in
          record {
            place = m.place;
            found = place_of-mark steps v m.place b (record { mark = m; is = is; at = refl; gives = value });
            before = below;
            value = value_of-mark steps v m.place b (record { mark = m; is = is; at = refl; gives = value });
          }
      | inr above ↦ absurd (let none : None ≡ Some b = sym (ap (λ t. if t then Some m.value else None) (le-ltb m.place k above)) ∙ told in cc)
    ]

pub known_before : (n k : ℕ) (steps : List Step) (v : ℕ) (b : Bool) → AreFresh n steps → known_value (oldest k steps) v ≡ Some b → IsKnownBefore k steps v b
known_before n k steps v b fresh told = known_before-mark k steps v b (mark_of steps v) refl (sym (known_value-oldest n k steps v fresh) ∙ told)

oldest-none : (k : ℕ) (steps : List Step) (v : ℕ) → known_value steps v ≡ None → known_value (oldest k steps) v ≡ None
oldest-none k [] v none = refl
oldest-none k (s ∷ older) v none =
    elim (cases_Bool (nat_eq s.literal.variable v)) [
      | inl here ↦ absurd (let some : Some (not s.literal.negated) ≡ None = sym (ap (λ t. if t then Some (not s.literal.negated) else known_value older v) here) ∙ none in cc)
      | inr other ↦
          elim (nat_lt (length older) k) as (λ t. known_value (if t then s ∷ older else oldest k older) v ≡ None) [
            | true ↦ none
            | false ↦ oldest-none k older v (sym (ap (λ t. if t then Some (not s.literal.negated) else known_value older v) other) ∙ none)
          ]
    ]

pub AreFresh-oldest : (n k : ℕ) (steps : List Step) → AreFresh n steps → AreFresh n (oldest k steps)
AreFresh-oldest n k [] fresh = fresh
AreFresh-oldest n k (s ∷ older) fresh =
    elim (nat_lt (length older) k) as (λ t. AreFresh n (if t then s ∷ older else oldest k older)) [ true ↦ fresh | false ↦ AreFresh-oldest n k older fresh.2 ]

-- the step at a place
abbrev pub IsStepAt : ℕ → List Step → Step → Type 0
IsStepAt place steps s = oldest (suc place) steps ≡ s ∷ oldest place steps

value_here : (s : Step) (older : List Step) → known_value (s ∷ older) s.literal.variable ≡ Some (not s.literal.negated)
value_here s older = ap (λ t. if t then Some (not s.literal.negated) else known_value older s.literal.variable) (eq-eqb s.literal.variable s.literal.variable refl)

pub value_of-step : (n place : ℕ) (steps : List Step) (s : Step) → AreFresh n steps → IsStepAt place steps s → IsKnownBefore (suc place) steps s.literal.variable (not s.literal.negated)
value_of-step n place steps s fresh at =
    known_before n (suc place) steps s.literal.variable (not s.literal.negated) fresh (ap (λ (x : List Step). known_value x s.literal.variable) at ∙ value_here s (oldest place steps))

pub place_of-step : (n place : ℕ) (steps : List Step) (s : Step) → AreFresh n steps → IsStepAt place steps s → known_place steps s.literal.variable ≡ Some place
place_of-step n place steps s fresh at =
    let known : IsKnownBefore (suc place) steps s.literal.variable (not s.literal.negated) = value_of-step n place steps s fresh at in
    let fresh_here : AreFresh n (s ∷ oldest place steps) = subst (AreFresh n) at (AreFresh-oldest n (suc place) steps fresh) in
    elim (cases_eq known.place place) [
      | inl same ↦ known.found ∙ ap Some same
      | inr other ↦
          absurd (
          let before : known.place < place = omega (arith, known.before) in
          let told : known_value (oldest place steps) s.literal.variable ≡ Some (not s.literal.negated) =
          value_before-place n place steps s.literal.variable known.place fresh known.found before ∙ known.value in
          let none : known_value (oldest place steps) s.literal.variable ≡ None = fresh_here.1 in
          cc
          )
    ]

-- a variable with its value from a place is the variable of the step there
pub variable_at : (n place : ℕ) (steps : List Step) (s : Step) (v : ℕ) → AreFresh n steps → IsStepAt place steps s → known_place steps v ≡ Some place → v ≡ s.literal.variable
variable_at n place steps s v fresh at found =
    elim (cases_Bool (nat_eq s.literal.variable v)) [
      | inl same ↦ sym (eqb-true s.literal.variable v same)
      | inr other ↦
          absurd (
          let value : (b : Bool) × (known_value steps v ≡ Some b) = value_from_place steps v place found in
          let told : known_value (oldest (suc place) steps) v ≡ Some value.0 =
          value_before-place n (suc place) steps v place fresh found (omega arith) ∙ value.1 in
          let none : known_value (oldest place steps) v ≡ None = no_value_before-place n place steps v place fresh found (omega arith) in
          let step : known_value (s ∷ oldest place steps) v ≡ known_value (oldest place steps) v =
          ap (λ t. if t then Some (not s.literal.negated) else known_value (oldest place steps) v) other in
          let same : known_value (oldest (suc place) steps) v ≡ known_value (s ∷ oldest place steps) v = ap (λ (x : List Step). known_value x v) at in
          cc
          )
    ]

-- the step at a place of one more step
pub StepAt-cases : (place : ℕ) (t : Step) (older : List Step) (s : Step) → IsStepAt place (t ∷ older) s → ((place ≡ length older) × (t ≡ s)) ⊎ IsStepAt place older s
StepAt-cases place t older s at =
    elim (cases_lt (length older) place) [
      | inl past ↦
          absurd (
          let all : t ∷ older ≡ s ∷ (t ∷ older) =
          sym (oldest-all (suc place) (t ∷ older) (omega arith)) ∙ at ∙ (λ k. s ∷ oldest-all place (t ∷ older) (omega arith) k) in
          let long : length (t ∷ older) ≡ length (s ∷ (t ∷ older)) = ap length all in
          omega (arith, long)
          )
      | inr within ↦
          elim (cases_eq place (length older)) [
            | inl last ↦
                let all : t ∷ older ≡ s ∷ oldest place (t ∷ older) = sym (oldest-all (suc place) (t ∷ older) (omega arith)) ∙ at in
                inl (last, cc)
            | inr before ↦
                inr (
                sym (oldest-more (suc place) t older (omega arith))
                ∙ at
                ∙ (λ k. s ∷ oldest-more place t older within k)
                )
          ]
    ]

pub StepAt-below : (place : ℕ) (steps : List Step) (s : Step) → IsStepAt place steps s → place < length steps
StepAt-below place [] s at = absurd (cc)
StepAt-below place (t ∷ older) s at =
    elim (StepAt-cases place t older s at) [
      | inl last ↦ omega (arith, last.0)
      | inr before ↦ omega (arith, StepAt-below place older s before)
    ]
