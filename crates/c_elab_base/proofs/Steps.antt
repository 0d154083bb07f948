-- What a fault and a loop say of typings that are made step by step.
use Rattle.std.proofs.Common.{◌≡◌, ◌<◌, ◌+◌, ℕ, List, ◌∷◌, length, get_or, drop, Result, Ok, Err, map, ap, sym, subst, ◌∙◌}
use Rattle.std.specs.Prelude.{OnOk}
use Rattle.std.proofs.lemmas.List.{drop_more}
use Rattle.c_scope.specs.declared.fault.TypingError.{TypingError}
use Rattle.c_scope.specs.declared.fault.TypingError.TheVariants as errors
use Rattle.c_scope.specs.Faults.{◌>>=◌, Fault, fault, Fails, Gives}

-- a fault of a part is one of the whole
pub fails_on : {Y Z : Type 0} (e : TypingError) (r : Result Y Fault) (s : Result Z Fault) → ((f : Fault) → r ≡ Err f → s ≡ Err f) → Fails e r → Fails e s
fails_on errors.Memory r s h g = tt
fails_on (errors.Typing line rule) r s h g = h (fault line rule) g

pub fails_bind : {Y Z : Type 0} (e : TypingError) (r : Result Y Fault) (f : Y → Result Z Fault) → Fails e r → Fails e (r >>= f)
fails_bind e r f h = fails_on e r (r >>= f) (λ g bad. ap (λ (x : Result _ Fault). x >>= f) bad) h

pub fails_along : {Y : Type 0} (e : TypingError) (r s : Result Y Fault) → r ≡ s → Fails e r → Fails e s
fails_along e r s p h = subst (Fails e) p h

-- what the exit of a `?` gives
pub gives_err : {X Y : Type 0} (view : X → Y) (r : Result X TypingError) (e f : TypingError) (whole : Result Y Fault) → r ≡ Err e → e ≡ f → Fails f whole → Gives view r whole
gives_err {X} view r e f whole p q h = subst (λ (x : Result X TypingError). Gives view x whole) (sym (p ∙ ap Err q)) h

pub no_promise : {A : Type 0} (r : Result A TypingError) (e : TypingError) (P : Type 0) → r ≡ Err e → OnOk r P
no_promise {A} r e P p = subst (λ (x : Result A TypingError). OnOk x P) (sym p) tt

-- a list from a place on
pub list_at : {A B : Type 0} (f : A → B) (ds : List A) (i : ℕ) (d : A) → i < length ds → d ≡ get_or ds i d → map f (drop i ds) ≡ f d ∷ map f (drop (i + 1) ds)
list_at f ds i d h e = ap (map f) (drop_more ds i d h) ∙ ap (λ x. f x ∷ map f (drop (i + 1) ds)) (sym e)

pub on_ok_more : {A E : Type 0} (r : Result A E) (P Q : Type 0) → (P → Q) → OnOk r P → OnOk r Q
on_ok_more (Ok x) P Q f h = f h
on_ok_more (Err e) P Q f h = tt
