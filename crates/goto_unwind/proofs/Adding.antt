-- What a tree adds, by the view of its list in memory.
use Rattle.std.proofs.Common.{◌≡◌, Result, Ok, Err, subst}
use Rattle.std.specs.Prelude.{OnOk, IfOk}

-- an equation of a success goes on to another
pub ok_same : {X E S : Type 0} (r : Result X E) (s a b : S) → a ≡ b → OnOk r (s ≡ a) → OnOk r (s ≡ b)
ok_same r s a b same is = subst (λ x. OnOk r (s ≡ x)) same is

pub number_same : {X E : Type 0} (r : Result X E) (a b : X) → a ≡ b → IfOk r (λ x. x ≡ a) → IfOk r (λ x. x ≡ b)
number_same r a b same is = subst (λ y. IfOk r (λ x. x ≡ y)) same is

-- what follows from what a success says
pub mapped : {X E A B : Type 0} (r : Result X E) → (A → B) → OnOk r A → OnOk r B
mapped (Ok x) follows says = follows says
mapped (Err e) follows says = tt
