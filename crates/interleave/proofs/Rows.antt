-- What the store's `free` gives is what the row of a Free comes to.
use Rattle.std.proofs.Common.{◌≡◌, ℕ, Bool, true, false, cond, Option, Some, None, Ok, Err, refl, ◌∙◌}
use Rattle.std.specs.Prelude.{◌==◌}
use Rattle.words.specs.declared.check.Class.{Class}
use Rattle.words.specs.declared.check.Class.TheVariants as class
use Rattle.actions.specs.declared.action.Answer.TheVariants as answer
use Rattle.actions.specs.Pointer.{object_of}
use Rattle.actions.specs.Access.{can_free}
use Rattle.actions.specs.Objects.{state_at, free_break, result_of}
use Rattle.actions.specs.ObjectRows.{free_row}
use Rattle.actions.specs.Memory.{Memory, keeps, kills}
use Rattle.actions.specs.Row.{comes, sees_object, moves, breaks, outcome_in}
use Rattle.interleave.specs.declared.effect.Effect.{Effect}
use Rattle.interleave.specs.declared.effect.Effect.TheVariants as effect
use Rattle.interleave.specs.Effect.{effect_of}

abbrev told : Option Class → Effect
told None = effect.Moves answer.Done
told (Some c) = effect.Breaks c

by_heap : (k : ℕ) (heap : Bool) → effect_of (cond heap (moves answer.Done (kills k)) (breaks class.Free)) ≡ told (cond heap None (Some class.Free))
by_heap k true = refl
by_heap k false = refl

by_null : (m : Memory) (p : ℕ) (null : Bool)
    → effect_of (outcome_in m (cond null (comes (moves answer.Done keeps)) (sees_object (object_of p) (λ state. comes (cond (can_free p state) (moves answer.Done (kills (object_of p))) (breaks class.Free))))))
    ≡ told (cond null None (cond (can_free p (state_at m.objects (object_of p))) None (Some class.Free)))
by_null m p true = refl
by_null m p false = by_heap (object_of p) (can_free p (state_at m.objects (object_of p)))

free_told : (m : Memory) (p : ℕ) → effect_of (outcome_in m (free_row p)) ≡ told (free_break m.objects p)
free_told m p = by_null m p (p == 0)

ok_told : (o : Option Class) → result_of o ≡ Ok tt → told o ≡ effect.Moves answer.Done
ok_told None h = refl
ok_told (Some c) h = cc

err_told : (o : Option Class) (c : Class) → result_of o ≡ Err c → told o ≡ effect.Breaks c
err_told None c h = cc
err_told (Some d) c h = cc

pub free_ok : (m : Memory) (p : ℕ) → result_of (free_break m.objects p) ≡ Ok tt → effect_of (outcome_in m (free_row p)) ≡ effect.Moves answer.Done
free_ok m p h = free_told m p ∙ ok_told (free_break m.objects p) h

pub free_err : (m : Memory) (p : ℕ) (c : Class) → result_of (free_break m.objects p) ≡ Err c → effect_of (outcome_in m (free_row p)) ≡ effect.Breaks c
free_err m p c h = free_told m p ∙ err_told (free_break m.objects p) c h
