use Rattle.std.proofs.Common.{sym, subst}
use Rattle.c_tree.specs.declared.expr.PointerMark.{PointerMark}
use Rattle.c_scope.specs.declared.fault.TypingError.TheVariants as errors
use Rattle.c_elab_expr.specs.Typing.{RefusesFirst}
use Rattle.c_elab_expr.proofs.Parts.{first_refused}
use Rattle.c_elab_expr.proofs.typing.no_pointers.Goals as goal

pub returns-in-len1-up-clause-first : goal.returns-in-len1-up-clause-first
returns-in-len1-up-clause-first c =
    subst (λ (p : PointerMark). RefusesFirst (errors.Typing p.line 7) c.args.pointers.now) (sym c.first-item.is) (first_refused c.args.pointers.now c.first-item.result c.in-len1-up.len_at_least)
