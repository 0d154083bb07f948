-- Two typed operands, and what a node makes of them.
use Rattle.std.proofs.Common.{◌≡◌, ℕ, List, Result, Ok, Err, refl, ap, sym, ◌∙◌}
use Rattle.c_types.specs.Types.{Completed}
use Rattle.c_scope.specs.Faults.{◌>>=◌, Fault, on_line}
use Rattle.c_operands.specs.Operands.{Operand, OperandNode, comma_operand}
use Rattle.c_elab_expr.specs.Typing.{both, node_on_both, comma_of}

-- what is made of two
pub then_both : (f : Operand → Operand → Result Operand Fault) (r q : Result Operand Fault) → (both r q >>= λ p. f p.0 p.1) ≡ (r >>= λ x. q >>= λ y. f x y)
then_both f (Ok x) (Ok y) = refl
then_both f (Ok x) (Err g) = refl
then_both f (Err g) q = refl

pub both_fails : (line : ℕ) (node : Operand → Operand → OperandNode) (r q : Result Operand Fault) (f : Fault) → both r q ≡ Err f → node_on_both line node r q ≡ Err f
both_fails line node r q f e = sym (then_both (λ x y. on_line line (node x y)) r q) ∙ ap (λ (b : Result (Operand × Operand) Fault). b >>= λ p. on_line line (node p.0 p.1)) e

pub both_node : (line : ℕ) (node : Operand → Operand → OperandNode) (r q : Result Operand Fault) (x y : Operand) → both r q ≡ Ok (x, y) → node_on_both line node r q ≡ on_line line (node x y)
both_node line node r q x y e = sym (then_both (λ x y. on_line line (node x y)) r q) ∙ ap (λ (b : Result (Operand × Operand) Fault). b >>= λ p. on_line line (node p.0 p.1)) e

pub comma_fails : (done : List Completed) (line : ℕ) (r q : Result Operand Fault) (f : Fault) → both r q ≡ Err f → comma_of done line r q ≡ Err f
comma_fails done line r q f e = sym (then_both (λ x y. Ok (comma_operand done line x y)) r q) ∙ ap (λ (b : Result (Operand × Operand) Fault). b >>= λ p. Ok (comma_operand done line p.0 p.1)) e

pub both_comma : (done : List Completed) (line : ℕ) (r q : Result Operand Fault) (x y : Operand) → both r q ≡ Ok (x, y) → comma_of done line r q ≡ Ok (comma_operand done line x y)
both_comma done line r q x y e = sym (then_both (λ x y. Ok (comma_operand done line x y)) r q) ∙ ap (λ (b : Result (Operand × Operand) Fault). b >>= λ p. Ok (comma_operand done line p.0 p.1)) e
