-- An operand whose value is used is as well typed as before.
use Rattle.std.proofs.Common.{◌≡◌, ℕ, Bool, true, false, Result, Ok, Err, refl, sym, subst, ◌∙◌}
use Rattle.std.specs.Prelude.{not, ◌||◌, ◌&&◌, IfOk, if◌then◌else◌}
use Rattle.c_operands.specs.declared.operands.CoreOperand.{CoreOperand}
use Rattle.c_scope.specs.declared.fault.TypingError.{TypingError}
use Rattle.c_scope.specs.Scopes.{Scoped}
use Rattle.c_scope.specs.Faults.{Gives, Fault, on_line}
use Rattle.c_operands.specs.Operands.{Operand, value, object, structure, is_array, used, view_operand, is_typed_operand}

chosen : (b : Bool) (line rule : ℕ) (x y : Operand) → on_line line (if b then Err rule else Ok x) ≡ Ok y → y ≡ x
chosen true line rule x y e = let none : ⊥ = cc in absurd none
chosen false line rule x y e = cc

used_is : (measured wanted : Bool) (line : ℕ) (x y : Operand) → on_line line (used measured wanted x) ≡ Ok y → y ≡ x
used_is measured wanted line (value e constant) y given = cc
used_is measured wanted line (object at v offset t constant) y given = chosen ((not measured || wanted) && is_array t) line 7 (object at v offset t constant) y given
used_is measured wanted line (structure t a) y given = chosen ((not measured || wanted) && is_array t) line 9 (structure t a) y given

pub used_typed : (scope : Scoped) (measured wanted : Bool) (line : ℕ) (x : Operand) (r : Result CoreOperand TypingError) → is_typed_operand scope x ≡ true → Gives view_operand r (on_line line (used measured wanted x)) → IfOk r (λ c. is_typed_operand scope (view_operand c) ≡ true)
used_typed scope measured wanted line x (Ok c) h given = subst (λ (y : Operand). is_typed_operand scope y ≡ true) (sym (used_is measured wanted line x (view_operand c) given)) h
used_typed scope measured wanted line x (Err e) h given = tt
