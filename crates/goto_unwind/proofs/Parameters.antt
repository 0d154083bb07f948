-- The variables of parameters, one by one.
use Rattle.std.proofs.Common.{◌≡◌, ◌<◌, ◌≤◌, ℕ, zero, suc, ◌+◌, List, [], ◌∷◌, drop, length, min, get_or, refl, sym, ap, ◌∙◌, arith}
use Rattle.core_tree.specs.declared.functions.Variable.{Variable}
use Rattle.core_tree.specs.declared.functions.PassedType.{PassedType}
use Rattle.goto_unwind.specs.Linear.{Linear, home_made, parameters_made}

made_here : (n : ℕ) (ps : List PassedType) (vs : List Variable) (d : Variable) (s : Linear) (k : ℕ) → k < length ps → k < length vs
    → parameters_made n (drop k ps) (drop k vs) s ≡ parameters_made n (drop (suc k) ps) (drop (suc k) vs) (home_made n (get_or vs k d).home s)
made_here n [] vs d s k there here = absurd (omega (arith, there))
made_here n (p ∷ ps) [] d s k there here = absurd (omega (arith, here))
made_here n (p ∷ ps) (x ∷ vs) d s zero there here = refl
made_here n (p ∷ ps) (x ∷ vs) d s (suc k) there here = made_here n ps vs d s k (omega (arith, there)) (omega (arith, here))

next_is : (k : ℕ) → k + 1 ≡ suc k
next_is k = omega arith

pub parameter_made : (n : ℕ) (ps : List PassedType) (vs : List Variable) (d : Variable) (s : Linear) (k : ℕ) → k < length ps → k < length vs
    → parameters_made n (drop (k + 1) ps) (drop (k + 1) vs) (home_made n (get_or vs k d).home s) ≡ parameters_made n (drop k ps) (drop k vs) s
parameter_made n ps vs d s k there here =
    ap (λ j. parameters_made n (drop j ps) (drop j vs) (home_made n (get_or vs k d).home s)) (next_is k) ∙ sym (made_here n ps vs d s k there here)

pub parameters_end : (n : ℕ) (ps : List PassedType) (vs : List Variable) (s : Linear) (k : ℕ) → min (length ps) (length vs) ≤ k → parameters_made n (drop k ps) (drop k vs) s ≡ s
parameters_end n [] vs s zero few = refl
parameters_end n [] vs s (suc k) few = refl
parameters_end n (p ∷ ps) [] s zero few = refl
parameters_end n (p ∷ ps) [] s (suc k) few = parameters_empty n (drop k ps) s
  where
    parameters_empty : (n : ℕ) (qs : List PassedType) (s : Linear) → parameters_made n qs [] s ≡ s
    parameters_empty n [] s = refl
    parameters_empty n (q ∷ qs) s = refl
parameters_end n (p ∷ ps) (x ∷ vs) s zero few = absurd (omega (arith, few))
parameters_end n (p ∷ ps) (x ∷ vs) s (suc k) few = parameters_end n ps vs s k (omega (arith, few))
