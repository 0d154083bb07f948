-- The line of a declarator with pointers before it.
use Rattle.std.proofs.Common.{◌≡◌, ◌≤◌, List, [], ◌∷◌, length, get_or, refl, arith}
use Rattle.c_tree.specs.declared.expr.PointerMark.{PointerMark}
use Rattle.c_tree.specs.Tree.{Declared, behind_pointers}
use Rattle.c_scope.specs.Types.{declared_line}

pub first_pointer : (ps : List PointerMark) (p : PointerMark) (d : Declared) → 1 ≤ length ps → (get_or ps 0 p).line ≡ declared_line (behind_pointers ps d)
first_pointer [] p d h = absurd (omega arith)
first_pointer (q ∷ ps) p d h = refl

pub no_pointer : (ps : List PointerMark) (d : Declared) → length ps ≡ 0 → declared_line d ≡ declared_line (behind_pointers ps d)
no_pointer [] d h = refl
no_pointer (q ∷ ps) d h = absurd (omega arith)
