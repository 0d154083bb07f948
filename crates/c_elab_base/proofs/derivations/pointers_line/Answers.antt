use Rattle.std.proofs.Common.{ap, ◌∙◌, arith}
use Rattle.c_tree.specs.declared.expr.PointerMark.{PointerMark}
use Rattle.c_elab_base.proofs.Pointed.{first_pointer, no_pointer}
use Rattle.c_elab_base.proofs.derivations.pointers_line.Goals as goal

pub returns-in-len1-up : goal.returns-in-len1-up
returns-in-len1-up c = λ d e. ap (λ (p : PointerMark). p.line) c.first-item.is ∙ first_pointer c.args.pointers.now c.first-item.result d c.in-len1-up.len_at_least

pub returns-in-empty : goal.returns-in-empty
returns-in-empty c = λ d e. e ∙ no_pointer c.args.pointers.now d (omega arith)
