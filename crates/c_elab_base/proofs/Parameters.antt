-- How many parameters functions and function types have, from a number on.
use Rattle.std.proofs.Common.{◌≡◌, ◌≤◌, ◌+◌, ℕ, zero, suc, List, [], ◌∷◌, length, drop, Some, ap, arith}
use Rattle.std.specs.Prelude.{slice_get}
use Rattle.std.proofs.lemmas.Option.{same_Some}
use Rattle.c_scope.specs.Scopes.{FunctionType, Callable}
use Rattle.c_elab_base.specs.Declarators.{function_parameters, type_parameters}

pub function_at : (fs : List Callable) (k : ℕ) (f : Callable) → slice_get fs k ≡ Some f → function_parameters (drop k fs) ≡ length f.type.parameters + function_parameters (drop (suc k) fs)
function_at [] k f e = let none : ⊥ = cc in absurd none
function_at (x ∷ fs) zero f e = ap (λ (y : Callable). length y.type.parameters + function_parameters fs) (same_Some x f e)
function_at (x ∷ fs) (suc k) f e = function_at fs k f e

pub functions_behind : (fs : List Callable) (k : ℕ) → function_parameters (drop (suc k) fs) ≤ function_parameters (drop k fs)
functions_behind [] zero = omega arith
functions_behind [] (suc k) = omega arith
functions_behind (x ∷ fs) zero = omega arith
functions_behind (x ∷ fs) (suc k) = functions_behind fs k

pub type_at : (ts : List FunctionType) (k : ℕ) (t : FunctionType) → slice_get ts k ≡ Some t → type_parameters (drop k ts) ≡ length t.parameters + type_parameters (drop (suc k) ts)
type_at [] k t e = let none : ⊥ = cc in absurd none
type_at (x ∷ ts) zero t e = ap (λ (y : FunctionType). length y.parameters + type_parameters ts) (same_Some x t e)
type_at (x ∷ ts) (suc k) t e = type_at ts k t e

pub types_behind : (ts : List FunctionType) (k : ℕ) → type_parameters (drop (suc k) ts) ≤ type_parameters (drop k ts)
types_behind [] zero = omega arith
types_behind [] (suc k) = omega arith
types_behind (x ∷ ts) zero = omega arith
types_behind (x ∷ ts) (suc k) = types_behind ts k
