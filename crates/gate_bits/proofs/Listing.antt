-- Lists of literals bit by bit.
use Rattle.std.proofs.Common.{◌≡◌, ℕ, ◌+◌, ◌*◌, Bool, true, false, ◌&&◌, List, [], ◌∷◌, ◌++◌, map, refl, sym, ap, ◌∙◌}
use Rattle.std.specs.Prelude.{if◌then◌else◌}
use Rattle.std.proofs.lemmas.List.{map-append, length-append}
use Rattle.sat_form.specs.Satisfaction.{Literal, Form, literal_value}
use Rattle.sat_form.specs.Numbers.{bit_value, number_of, value_of}
use Rattle.sat_form.proofs.Within.{IsWithin-weaker, IsWithin-push}
use Rattle.gate_bits.specs.Growth.{GrowsFreely}
use Rattle.gate_bits.specs.Truth.{IsTruth, AreTruths}
use Rattle.gate_bits.proofs.Growing.{front}

pub Truths_more : (f g : Form) (w : ℕ) (ls : List Literal) (l : Literal) (truths : (ℕ → Bool) → List Bool) (truth : (ℕ → Bool) → Bool) (goal : (ℕ → Bool) → List Bool) → AreTruths f w ls truths → GrowsFreely f g → IsTruth g l truth → ((x : ℕ → Bool) → goal x ≡ truths x ++ truth x ∷ []) → AreTruths g (w + 1) (ls ++ l ∷ []) goal
Truths_more f g w ls l truths truth goal so_far grows one is_goal = record {
  count = length-append ls (l ∷ []) ∙ ap (λ (n : ℕ). n + 1) so_far.count;
  within = IsWithin-push g.variables ls l (IsWithin-weaker f.variables g.variables ls grows.variables so_far.within) one.within;
  is = λ x all. map-append (literal_value x) ls (l ∷ []) ∙ (λ k. so_far.is x (front grows x all) k ++ one.is x all k ∷ []) ∙ sym (is_goal x);
}

pub choice_push : (t : Bool) (p q : List Bool) (y n : Bool) → (if t then (p ++ y ∷ []) else (q ++ n ∷ [])) ≡ (if t then p else q) ++ (if t then y else n) ∷ []
choice_push true p q y n = refl
choice_push false p q y n = refl

-- ---- a number or 0

all_kept : (x : ℕ → Bool) (k : Bool) (ls : List Literal) → k ≡ true → number_of (map (λ l. literal_value x l && k) ls) ≡ value_of ls x
all_kept x k [] is = refl
all_kept x k (l ∷ ls) is = λ j. bit_value (kept (literal_value x l) k is j) + 2 * all_kept x k ls is j
  where
    kept : (b c : Bool) → c ≡ true → (b && c) ≡ b
    kept true c e = e
    kept false c e = refl

none_kept : (x : ℕ → Bool) (k : Bool) (ls : List Literal) → k ≡ false → number_of (map (λ l. literal_value x l && k) ls) ≡ 0
none_kept x k [] is = refl
none_kept x k (l ∷ ls) is = λ j. bit_value (lost (literal_value x l) k is j) + 2 * none_kept x k ls is j
  where
    lost : (b c : Bool) → c ≡ false → (b && c) ≡ false
    lost true c e = e
    lost false c e = refl

pub masked_number : (x : ℕ → Bool) (k : Bool) (ls : List Literal) → number_of (map (λ l. literal_value x l && k) ls) ≡ (if k then value_of ls x else 0)
masked_number x true ls = all_kept x true ls refl
masked_number x false ls = none_kept x false ls refl
