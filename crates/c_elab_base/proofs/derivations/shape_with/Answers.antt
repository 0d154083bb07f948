use Rattle.std.proofs.Common.{◌≡◌, ◌+◌, ◌-◌, ℕ, drop, ◌∷◌, subst, sym, arith}
use Rattle.std.proofs.lemmas.Result.{err_from_is_err_and}
use Rattle.c_scope.specs.Faults.{Breaks}
use Rattle.c_elab_base.specs.Derivations.{derived, view_shape, view_derived, view_deriveds}
use Rattle.c_elab_base.proofs.Deriving.{node_err, shape_fails}
use Rattle.c_elab_base.proofs.derivations.shape_with.Goals as goal

pub returns-in_err-shape : goal.returns-in_err-shape
returns-in_err-shape c =
    let p = err_from_is_err_and c.from_residual.result c.from_residual.ensures.1 in
    let done = c.args.layouts.now.done in
    let k = c.args.constant in
    let base = view_shape c.args.base in
    let ds = c.args.suffixes.now in
    let left = c.loop-left.left in
    let within = c.loop-left.invariant.within in
    let d = c.index-suffixes-left.result in
    let e = c.in_err-shape.field-0.0 in
    let one : left - 1 + 1 ≡ left = omega arith in
    let bad = c.in_err-shape.ensures base (view_deriveds (drop left ds)) c.loop-left.invariant.made in
    node_err view_shape c.from_residual.result p.0 e (derived done k base (view_deriveds ds)) p.1 p.2
    (shape_fails done k base ds (left - 1) d e (omega arith) c.index-suffixes-left.is
    (subst (λ (n : ℕ). Breaks e (derived done k base (view_derived d ∷ view_deriveds (drop n ds)))) (sym one) bad))
