-- A function that is declared once more stays what it is.
use Rattle.std.proofs.Common.{◌≡◌, ℕ, Bool, false, List, Option, Some, None, refl, ap, ap₂, sym, ◌∙◌}
use Rattle.std.specs.Prelude.{slice_get}
use Rattle.c_tree.specs.Declarations.{Full}
use Rattle.c_scope.specs.Scopes.{Callable, FunctionType, Scoped}
use Rattle.c_elab_object.specs.Functions.{callable_again, changed_callable, declared_callable}
use Rattle.c_elab_object.proofs.Again.{set_own}

changed_own : (d : Full) (all : List Callable) (k : ℕ) (o : Option Callable) → slice_get all k ≡ o → changed_callable all k (callable_again d false) o ≡ all
changed_own d all k None e = refl
changed_own d all k (Some c) e = set_own all k c e

again : (s : Scoped) (d : Full) (f : FunctionType) (k : ℕ) → record s { functions = (declared_callable s.functions d f false (Some k)).1 } ≡ s
again s d f k =
    ap (λ (all : List Callable). record s { functions = record s.functions { all = all } }) (changed_own d s.functions.all k (slice_get s.functions.all k) refl)

pub declared_again : (s : Scoped) (d : Full) (f : FunctionType) (defines : Bool) (o : Option ℕ) (k : ℕ) → defines ≡ false → o ≡ Some k
    → s ≡ record s { functions = (declared_callable s.functions d f defines o).1 }
declared_again s d f defines o k h e =
    sym (ap (λ (p : Bool × Option ℕ). record s { functions = (declared_callable s.functions d f p.0 p.1).1 }) (ap₂ (λ (b : Bool) (x : Option ℕ). (b, x)) h e) ∙ again s d f k)
