-- Enumerators and their values (C11 6.7.2.2).
use Rattle.std.specs.Prelude.{ℕ, ◌+◌, ◌%◌, ◌^◌, ◌==◌, List, [], ◌∷◌, Option, Some, None, Result, Ok, Err, if◌then◌else◌}
use Rattle.words.specs.Operators.{fits_width}
use Rattle.c_tree.specs.Tree.{Tree}
use Rattle.c_tree.specs.Declarations.{Enumerated}
use Rattle.c_types.specs.declared.integers.IntegerType.TheVariants as types
use Rattle.core_tree.specs.Operations.{number, converted}
use Rattle.c_values.specs.Numbers.{TypedNumber}
use Rattle.c_scope.specs.declared.meaning.Meaning.{Meaning}
use Rattle.c_scope.specs.declared.meaning.Meaning.TheVariants.{Enumerator}
use Rattle.c_scope.specs.Scopes.{binding, Scoped}
use Rattle.c_scope.specs.Faults.{◌>>=◌, required, Fault, on_line}
use Rattle.c_operands.specs.Operands.{constant_in}
use Rattle.c_elab_expr.specs.Typing.{operand}
use Rattle.c_elab_base.specs.declared.regions.Region.{Region}
use Rattle.c_elab_base.specs.Regions.{earlier}

-- the bits of an int with the number, if there is one
abbrev pub int_bits : TypedNumber → Option ℕ
int_bits n = if fits_width 32 (number n.type n.bits) then Some (converted n.type types.Int n.bits) else None

abbrev pub given_bits : Option TypedNumber → Option ℕ
given_bits None = None
given_bits (Some n) = int_bits n

-- the first value is 0, each other one more than the one before
abbrev pub next_bits : Option ℕ → Option ℕ
next_bits None = Some 0
next_bits (Some bits) = if bits == 2147483647 then None else Some ((bits + 1) % 2 ^ 32)

-- the bits of an enumerator behind one with these, if it has a value: a given one is an integer constant expression, and an int has it
abbrev pub enumerator_value : Scoped → Option ℕ → Option Tree → Result (Option ℕ) Fault
enumerator_value s previous None = Ok (next_bits previous)
enumerator_value s previous (Some e) = do
  x ← operand s e
  Ok (given_bits (constant_in x))

-- rule 2: the scope has no such name yet; rule 13: there is a value
abbrev pub enumerator_node : Option Meaning → Option ℕ → Result ℕ ℕ
enumerator_node (Some m) value = Err 2
enumerator_node None value = required 13 value

abbrev pub with_enumerator : Scoped → List ℕ → ℕ → Scoped
with_enumerator s name bits = record s { bindings = binding name (Enumerator bits) ∷ s.bindings }

-- an enumerator behind one with these bits: it is declared behind its own value (C11 6.2.1p7)
abbrev pub typed_enumerator : Region → Scoped → Option ℕ → Enumerated → Result (ℕ × Scoped) Fault
typed_enumerator r s previous e = do
  value ← enumerator_value s previous e.value
  bits ← on_line e.line (enumerator_node (earlier r s e.name) value)
  Ok (bits, with_enumerator s e.name bits)

abbrev pub typed_enumerators : Region → Scoped → Option ℕ → List Enumerated → Result Scoped Fault
typed_enumerators r s previous [] = Ok s
typed_enumerators r s previous (e ∷ es) = do
  x ← typed_enumerator r s previous e
  typed_enumerators r x.1 (Some x.0) es
