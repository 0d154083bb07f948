-- What holds of a typing's value, where it gives one.
use Rattle.std.proofs.Common.{◌≡◌, ℕ, zero, suc, Bool, true, false, List, [], ◌∷◌, ◌++◌, Option, Some, None, Result, Ok, Err, refl, subst}
use Rattle.std.specs.Prelude.{slice_get, slice_set, if◌then◌else◌}
use Rattle.c_scope.specs.Faults.{◌>>=◌, required, on_line}

pub record Good {A E : Type 0} (Q : A → Type 0) (r : Result A E) : Type 0 where
  pub fine : (x : A) → r ≡ Ok x → Q x

ok_is : {A E : Type 0} (x y : A) (r : Result A E) → r ≡ Ok x → r ≡ Ok y → x ≡ y
ok_is x y r p q = cc

pub ok : {A E : Type 0} (Q : A → Type 0) (x : A) → Q x → Good {A = A} {E = E} Q (Ok x)
ok {A} {E} Q x h = record { fine = λ y same. subst Q (ok_is {A = A} {E = E} x y (Ok x) refl same) h }

pub fails : {A E : Type 0} (Q : A → Type 0) (e : E) → Good {A = A} {E = E} Q (Err e)
fails Q e = record { fine = λ y same. absurd (cc) }

pub bind : {A B E : Type 0} (Q : A → Type 0) (R : B → Type 0) (r : Result A E) (f : A → Result B E) → Good Q r → ((x : A) → Q x → Good R (f x)) → Good R (r >>= f)
bind Q R (Ok x) f good later = later x (good.fine x refl)
bind Q R (Err e) f good later = fails R e

pub pass : {A B E : Type 0} (R : B → Type 0) (r : Result A E) (f : A → Result B E) → ((x : A) → Good R (f x)) → Good R (r >>= f)
pass R (Ok x) f later = later x
pass R (Err e) f later = fails R e

pub on : {A : Type 0} (Q : A → Type 0) (line : ℕ) (r : Result A ℕ) → Good Q r → Good Q (on_line line r)
on Q line (Ok x) good = ok Q x (good.fine x refl)
on Q line (Err rule) good = fails Q _

abbrev pub Holds : {A : Type 0} → (A → Type 0) → Option A → Type 0
Holds Q None = Unit {0}
Holds Q (Some x) = Q x

pub needs : {A : Type 0} (Q : A → Type 0) (rule : ℕ) (o : Option A) → Holds Q o → Good Q (required rule o)
needs Q rule None h = fails Q rule
needs Q rule (Some x) h = ok Q x h

pub either : {A : Type 0} (Q : A → Type 0) (b : Bool) (x y : A) → Q x → Q y → Q (if b then x else y)
either Q true x y h g = h
either Q false x y h g = g

pub good_either : {A E : Type 0} (Q : A → Type 0) (b : Bool) (x y : Result A E) → Good Q x → Good Q y → Good Q (if b then x else y)
good_either Q true x y h g = h
good_either Q false x y h g = g

-- ---- lists

abbrev pub Each : {A : Type 0} → (A → Type 0) → List A → Type 0
Each Q [] = Unit {0}
Each Q (x ∷ xs) = Q x × Each Q xs

pub pushed : {A : Type 0} (Q : A → Type 0) (xs : List A) (x : A) → Each Q xs → Q x → Each Q (xs ++ x ∷ [])
pushed Q [] x all h = (h, tt)
pushed Q (y ∷ xs) x all h = (all.0, pushed Q xs x all.1 h)

pub replaced : {A : Type 0} (Q : A → Type 0) (xs : List A) (k : ℕ) (x : A) → Each Q xs → Q x → Each Q (slice_set xs k x)
replaced Q [] k x all h = tt
replaced Q (y ∷ xs) zero x all h = (h, all.1)
replaced Q (y ∷ xs) (suc k) x all h = (all.0, replaced Q xs k x all.1 h)

pub got : {A : Type 0} (Q : A → Type 0) (xs : List A) (k : ℕ) → Each Q xs → Holds Q (slice_get xs k)
got Q [] k all = tt
got Q (x ∷ xs) zero all = all.0
got Q (x ∷ xs) (suc k) all = got Q xs k all.1
