-- The steps of carrying out lines.
use Rattle.std.proofs.Common.{◌≡◌, ◌≤◌, ◌+◌, ℕ, List, [], ◌∷◌, ◌++◌, length, Option, Some, None, refl, sym, ap, subst, ◌∙◌, inl, inr, arith}
use Rattle.std.proofs.lemmas.List.{append_assoc, append-nil, length-append}
use Rattle.c_token.specs.declared.token.Token.{Token}
use Rattle.c_pre.specs.declared.error.PreError.{PreError}
use Rattle.c_pre.specs.Carrying.{Setting, State, start, Effect, gives, leaves, stops, effect_of, GoesOn, Carries}
use Rattle.c_pre.specs.Views.{IsDone, IsStopped}

-- Whatever these lines give from a state on, all lines give that with these tokens in front.
abbrev pub Completes : Setting → List (List Token) → List (List Token) → State → List Token → Type 0
Completes setting all rest state given =
    (more : List Token) (stop : Option PreError) → Carries setting rest state (length given) more stop → Carries setting all start 0 (given ++ more) stop

pub completes_start : (setting : Setting) (all : List (List Token)) → Completes setting all all start []
completes_start setting all more stop h = h

done_goes : (setting : Setting) (state : State) (line : List Token) (e : Effect) (next : State) (old new : List Token) (Behind : State → ℕ → List Token → Option PreError → Type 0) →
    IsDone setting state line e next old new → length new ≤ 200000 → (more : List Token) (stop : Option PreError) → Behind next (length new) more stop →
    (given : List Token) × GoesOn setting state (length old) line e Behind given stop × (old ++ given ≡ new ++ more)
done_goes setting state line gives next old new Behind (same, (front, r, e)) few more stop h =
    let count : length new ≡ length old + length front = ap (λ (xs : List Token). length xs) e ∙ length-append old front in
    let behind = subst (λ (n : ℕ). Behind state n more stop) count (subst (λ (s : State). Behind s (length new) more stop) (sym same) h) in
    (front ++ more, (front, r, inr (omega (arith, few, count), (more, behind, refl))), sym (append_assoc old front more) ∙ ap (λ (xs : List Token). xs ++ more) (sym e))
done_goes setting state line (leaves left) next old new Behind (same, e) few more stop h =
    let behind = subst (λ (xs : List Token). Behind left (length xs) more stop) e (subst (λ (s : State). Behind s (length new) more stop) (sym same) h) in
    (more, behind, ap (λ (xs : List Token). xs ++ more) (sym e))
done_goes setting state line (stops error) next old new Behind none few more stop h = absurd none

pub completes_more : (setting : Setting) (all : List (List Token)) (line : List Token) (rest : List (List Token)) (state next : State) (old new : List Token) →
    IsDone setting state line (effect_of setting state line rest) next old new → length new ≤ 200000 →
    Completes setting all (line ∷ rest) state old → Completes setting all rest next new
completes_more setting all line rest state next old new d few h more stop k =
    let step = done_goes setting state line (effect_of setting state line rest) next old new (λ s n m t. Carries setting rest s n m t) d few more stop k in
    subst (λ (xs : List Token). Carries setting all start 0 xs stop) step.2 (h step.0 stop step.1)

pub completes_end : (setting : Setting) (all : List (List Token)) (state : State) (given : List Token) → Completes setting all [] state given → Carries setting all start 0 given None
completes_end setting all state given h = subst (λ (xs : List Token). Carries setting all start 0 xs None) (append-nil given) (h [] None (refl, refl))

stopped_goes : (setting : Setting) (state : State) (line : List Token) (e : Effect) (error : PreError) (old : List Token) (Behind : State → ℕ → List Token → Option PreError → Type 0) →
    IsStopped setting state line e error old → (given : List Token) × GoesOn setting state (length old) line e Behind given (Some error)
stopped_goes setting state line gives error old Behind (same, (front, r, many)) = (front, (front, r, inl (many, refl, ap Some same)))
stopped_goes setting state line (leaves left) error old Behind none = absurd none
stopped_goes setting state line (stops why) error old Behind same = ([], (refl, ap Some same))

pub completes_stop : (setting : Setting) (all : List (List Token)) (line : List Token) (rest : List (List Token)) (state : State) (error : PreError) (old : List Token) →
    IsStopped setting state line (effect_of setting state line rest) error old →
    Completes setting all (line ∷ rest) state old → (given : List Token) × Carries setting all start 0 given (Some error)
completes_stop setting all line rest state error old s h =
    let step = stopped_goes setting state line (effect_of setting state line rest) error old (λ n c m t. Carries setting rest n c m t) s in
    (old ++ step.0, h step.0 (Some error) step.1)
