-- The parameters that are left from one on up to another.
use Rattle.std.proofs.Common.{◌≡◌, ℕ, suc, ◌+◌, ◌-◌, ◌<◌, ◌≤◌, Bool, true, List, ◌∷◌, sym, ap, ◌∙◌, arith}
use Rattle.c_meaning.specs.Meaning.{Code}
use Rattle.c_values.specs.Variables.{Variables}
use Rattle.c_values.specs.Numbers.{TypedNumber}
use Rattle.c_tasks.specs.Items.{Active, running_of, Item, settles, dies, enters_parameters, leaves_parameters, state}
use Rattle.c_tasks.specs.Steps.{silent, move_parameters, move_last}

module _ (code : Code) (first : Bool) (is : List Item) (r : Active) (xs : List TypedNumber) (bs : List (List ℕ)) (vs : Variables) where
  pub entered : (from end line : ℕ) → from < end → line ≡ (running_of code r).line →
      move_parameters code first true (end - from) from is r xs bs vs ≡ silent (state (settles line from ∷ enters_parameters (end - (from + 1)) (from + 1) ∷ is) r xs bs vs)
  entered from end line h e =
      let left : end - from ≡ suc (end - (from + 1)) = omega arith in
      let next : from + 1 ≡ suc from = omega arith in
      ap (λ n. move_parameters code first true n from is r xs bs vs) left
      ∙ (λ i. silent (state (settles (sym e i) from ∷ enters_parameters (end - (from + 1)) (sym next i) ∷ is) r xs bs vs))

  pub all_entered : (from end : ℕ) → end ≤ from → move_parameters code first true (end - from) from is r xs bs vs ≡ silent (state is r xs bs vs)
  all_entered from end h = let none : end - from ≡ 0 = omega arith in ap (λ n. move_parameters code first true n from is r xs bs vs) none

  pub dying : (from end line : ℕ) → from < end → line ≡ (running_of code r).line →
      move_last code first true (end - from) from is r xs bs vs ≡ silent (state (leaves_parameters (end - (from + 1)) (from + 1) ∷ dies line from ∷ is) r xs bs vs)
  dying from end line h e =
      let left : end - from ≡ suc (end - (from + 1)) = omega arith in
      let next : from + 1 ≡ suc from = omega arith in
      ap (λ n. move_last code first true n from is r xs bs vs) left
      ∙ (λ i. silent (state (leaves_parameters (end - (from + 1)) (sym next i) ∷ dies (sym e i) from ∷ is) r xs bs vs))

  pub all_dead : (from end : ℕ) → end ≤ from → move_last code first true (end - from) from is r xs bs vs ≡ silent (state is r xs bs vs)
  all_dead from end h = let none : end - from ≡ 0 = omega arith in ap (λ n. move_last code first true n from is r xs bs vs) none

  pub first_of_all : (count : ℕ) → silent (state (leaves_parameters count 0 ∷ is) r xs bs vs) ≡ silent (state (leaves_parameters (count - 0) 0 ∷ is) r xs bs vs)
  first_of_all count = let same : count ≡ count - 0 = omega arith in ap (λ n. silent (state (leaves_parameters n 0 ∷ is) r xs bs vs)) same
