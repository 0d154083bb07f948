-- The variable that holds the address of another one is there.
use Rattle.std.proofs.Common.{◌≡◌, ℕ, zero, suc, Bool, true, List, [], ◌∷◌, refl}
use Rattle.std.specs.Prelude.{Option, slice_get}
use Rattle.std.specs.Option.{option_and_then}
use Rattle.std.specs.List.{list_all}
use Rattle.core_tree.specs.declared.functions.Variable.{Variable}
use Rattle.core_tree.specs.Typed.{homes_of}
use Rattle.c_tasks.specs.Fits.{holds_address}
use Rattle.c_meaning.proofs.Holding.{left_of, right_of}

-- where a test of each home tells it
pub home_there : (sizes : List ℕ) (test : Option ℕ → Bool) → ((home : Option ℕ) → test home ≡ true → holds_address sizes home ≡ true) → (vs : List Variable) (v : ℕ) → list_all test (homes_of vs) ≡ true →
    holds_address sizes (option_and_then (λ (x : Variable). x.home) (slice_get vs v)) ≡ true
home_there sizes test each [] v h = refl
home_there sizes test each (x ∷ vs) zero h = each x.home (left_of (test x.home) (list_all test (homes_of vs)) h)
home_there sizes test each (x ∷ vs) (suc v) h = home_there sizes test each vs v (right_of (test x.home) (list_all test (homes_of vs)) h)
