-- The truth of literals and of their inverses under steps.
use Rattle.std.proofs.Common.{◌≡◌, ℕ, ◌<◌, ◌≤◌, Bool, true, false, not, List, Option, Some, None, refl, sym, ap, ◌∙◌}
use Rattle.std.specs.Prelude.{option_map, if◌then◌else◌}
use Rattle.std.proofs.lemmas.Bool.{true≢false}
use Rattle.sat_form.specs.Satisfaction.{Literal, inverse_of}
use Rattle.cdcl_core.specs.declared.trail.Step.{Step}
use Rattle.cdcl_core.specs.Steps.{known_value, known_place, known_truth, oldest, AreFresh}
use Rattle.cdcl_core.proofs.Known.{IsKnownBefore, place_from_value, value_before-place, no_value_before-place, known_before}

read : Bool → Option Bool → Option Bool
read negated o = option_map (λ b. if negated then not b else b) o

read-not : (negated : Bool) (o : Option Bool) (b : Bool) → read negated o ≡ Some b → read (not negated) o ≡ Some (not b)
unfolding read
read-not negated None b told = absurd (cc)
read-not true (Some true) b told = cc
read-not true (Some false) b told = cc
read-not false (Some true) b told = cc
read-not false (Some false) b told = cc

-- a literal's inverse has the other truth
pub truth-inverse_of : (steps : List Step) (l : Literal) (b : Bool) → known_truth steps l ≡ Some b → known_truth steps (inverse_of l) ≡ Some (not b)
unfolding read
truth-inverse_of steps l b told = read-not l.negated (known_value steps l.variable) b told

value_of : (negated : Bool) (o : Option Bool) (b : Bool) → read negated o ≡ Some b → (v : Bool) × (o ≡ Some v)
unfolding read
value_of negated None b told = absurd (cc)
value_of negated (Some v) b told = (v, refl)

pub value_from_truth : (steps : List Step) (l : Literal) (b : Bool) → known_truth steps l ≡ Some b → (v : Bool) × (known_value steps l.variable ≡ Some v)
unfolding read
value_from_truth steps l b told = value_of l.negated (known_value steps l.variable) b told

pub place_from_truth : (steps : List Step) (l : Literal) (b : Bool) → known_truth steps l ≡ Some b → (place : ℕ) × (known_place steps l.variable ≡ Some place)
place_from_truth steps l b told =
    let value : (v : Bool) × (known_value steps l.variable ≡ Some v) = value_from_truth steps l b told in
    place_from_value steps l.variable value.0 value.1

same_sign : (m n : Bool) (o : Option Bool) (b : Bool) → read m o ≡ Some b → read n o ≡ Some b → m ≡ n
unfolding read
same_sign m n None b x y = absurd (cc)
same_sign true true (Some v) b x y = refl
same_sign false false (Some v) b x y = refl
same_sign true false (Some true) b x y = absurd (true≢false (let e : Some true ≡ Some false = y ∙ sym x in cc))
same_sign true false (Some false) b x y = absurd (true≢false (let e : Some true ≡ Some false = x ∙ sym y in cc))
same_sign false true (Some true) b x y = absurd (true≢false (let e : Some true ≡ Some false = x ∙ sym y in cc))
same_sign false true (Some false) b x y = absurd (true≢false (let e : Some true ≡ Some false = y ∙ sym x in cc))

-- two literals on one variable with the same truth are one
pub same_from_truth : (steps : List Step) (l m : Literal) (b : Bool) → l.variable ≡ m.variable → known_truth steps l ≡ Some b → known_truth steps m ≡ Some b → l ≡ m
unfolding read
same_from_truth steps l m b same first second =
    let sign : l.negated ≡ m.negated =
    same_sign l.negated m.negated (known_value steps l.variable) b first (ap (λ v. read m.negated (known_value steps v)) same ∙ second) in
    λ k. record { variable = same k; negated = sign k }

-- what the oldest steps tell, they all tell; and the oldest tell what steps among them tell
pub truth-from_before : (n k : ℕ) (steps : List Step) (l : Literal) (b : Bool) → AreFresh n steps → known_truth (oldest k steps) l ≡ Some b → known_truth steps l ≡ Some b
unfolding read
truth-from_before n k steps l b fresh told =
    let value : (v : Bool) × (known_value (oldest k steps) l.variable ≡ Some v) = value_from_truth (oldest k steps) l b told in
    let known : IsKnownBefore k steps l.variable value.0 = known_before n k steps l.variable value.0 fresh value.1 in
    ap (read l.negated) (known.value ∙ sym value.1) ∙ told

pub place_before-truth : (n k : ℕ) (steps : List Step) (l : Literal) (b : Bool) → AreFresh n steps → known_truth (oldest k steps) l ≡ Some b → (place : ℕ) × (known_place steps l.variable ≡ Some place) × (place < k)
place_before-truth n k steps l b fresh told =
    let value : (v : Bool) × (known_value (oldest k steps) l.variable ≡ Some v) = value_from_truth (oldest k steps) l b told in
    let known : IsKnownBefore k steps l.variable value.0 = known_before n k steps l.variable value.0 fresh value.1 in
    (known.place, known.found, known.before)

pub truth_before-place : (n k : ℕ) (steps : List Step) (l : Literal) (place : ℕ) → AreFresh n steps → known_place steps l.variable ≡ Some place → place < k → known_truth (oldest k steps) l ≡ known_truth steps l
unfolding read
truth_before-place n k steps l place fresh found before = ap (read l.negated) (value_before-place n k steps l.variable place fresh found before)

pub no_truth_before-place : (n k : ℕ) (steps : List Step) (l : Literal) (place : ℕ) → AreFresh n steps → known_place steps l.variable ≡ Some place → k ≤ place → known_truth (oldest k steps) l ≡ None
unfolding read
no_truth_before-place n k steps l place fresh found later = ap (read l.negated) (no_value_before-place n k steps l.variable place fresh found later)

own : (negated : Bool) (o : Option Bool) → o ≡ Some (not negated) → read negated o ≡ Some true
unfolding read
own true o told = ap (read true) told
own false o told = ap (read false) told

pub truth-own : (steps : List Step) (l : Literal) → known_value steps l.variable ≡ Some (not l.negated) → known_truth steps l ≡ Some true
unfolding read
truth-own steps l told = own l.negated (known_value steps l.variable) told

wrong : (b : Bool) (o : Option Bool) → o ≡ Some b → read b o ≡ Some false
unfolding read
wrong true o told = ap (read true) told
wrong false o told = ap (read false) told

-- the literal with a variable's value as its sign is false
pub literal-not_value : (steps : List Step) (v : ℕ) (b : Bool) → known_value steps v ≡ Some b → let l : Literal = record { variable = v; negated = b } in known_truth steps l ≡ Some false
unfolding read
literal-not_value steps v b told = wrong b (known_value steps v) told
