-- Casts and sizes, whose type name is typed before the rest.
use Rattle.std.proofs.Common.{◌≡◌, ℕ, Bool, true, List, map, Result, Ok, Err, refl, ap}
use Rattle.c_tree.specs.Tree.{TypePart, Tree, Declared, cast, sizeof_type}
use Rattle.c_tree.specs.declared.expr.TypeName.{TypeName}
use Rattle.c_tree.specs.Tree.{view_type_part, view_declarator}
use Rattle.c_types.specs.Types.{CType}
use Rattle.c_scope.specs.Scopes.{Scoped}
use Rattle.c_scope.specs.Faults.{◌>>=◌, Fault, on_line}
use Rattle.c_operands.specs.Operands.{Operand, cast_operand}
use Rattle.c_elab_expr.specs.Typing.{type_name, node_on, size_of_named, is_wanted, typed, operand_in, lengths}

-- the type of a type name in memory
abbrev pub named_type : Scoped → Bool → TypeName → Result CType Fault
named_type s m n = type_name s (map view_type_part n.specifiers.items) (view_declarator n.declarator) (lengths s m (view_declarator n.declarator))

abbrev cast_of : Scoped → ℕ → Result CType Fault → (CType → Result Operand Fault) → Result Operand Fault
cast_of s line t x = t >>= λ u. x u >>= λ y. on_line line (cast_operand s.records.done line u y)

pub cast_name_fails : (s : Scoped) (m w : Bool) (line : ℕ) (parts : List TypePart) (d : Declared) (e : Tree) (f : Fault) → type_name s parts d (lengths s m d) ≡ Err f → typed s m w (cast line parts d e) ≡ Err f
cast_name_fails s m w line parts d e f h = ap (λ (r : Result CType Fault). cast_of s line r (λ u. operand_in s m (is_wanted u) e)) h

pub cast_typed : (s : Scoped) (m w : Bool) (line : ℕ) (parts : List TypePart) (d : Declared) (e : Tree) (t : CType) → type_name s parts d (lengths s m d) ≡ Ok t
    → typed s m w (cast line parts d e) ≡ node_on line (cast_operand s.records.done line t) (operand_in s m (is_wanted t) e)
cast_typed s m w line parts d e t h = ap (λ (r : Result CType Fault). cast_of s line r (λ u. operand_in s m (is_wanted u) e)) h

pub size_typed : (s : Scoped) (m w : Bool) (line : ℕ) (parts : List TypePart) (d : Declared) → typed s m w (sizeof_type line parts d) ≡ size_of_named line s.records.done (type_name s parts d (lengths s true d))
size_typed s m w line parts d = refl
