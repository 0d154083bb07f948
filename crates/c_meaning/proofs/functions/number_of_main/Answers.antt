use Rattle.std.proofs.Common.{ap, sym, ◌∙◌, arith}
use Rattle.core_tree.specs.declared.functions.Function.{Function}
use Rattle.core_tree.specs.Trees.{view_function}
use Rattle.c_profile.specs.Rules.{is_main}
use Rattle.c_meaning.proofs.Mains.{main_here, main_later, main_nowhere}
use Rattle.c_meaning.proofs.functions.number_of_main.Goals as goal

pub returns-then-is_main : goal.returns-then-is_main
returns-then-is_main c =
    let named = ap (λ (f : Function). is_main (view_function f)) c.function-item.is in
    let here = main_here c.args.functions.now c.loop-function.function-index c.function-item.result (omega arith) (sym named ∙ sym c.is_main.ensures ∙ c.if-is_main.true) in
    omega (arith, here)

pub loop-function-preserved : goal.loop-function-preserved
loop-function-preserved c =
    let named = ap (λ (f : Function). is_main (view_function f)) c.function-item.is in
    let later = main_later c.args.functions.now c.loop-function.function-index c.function-item.result (omega arith) (sym named ∙ sym c.is_main.ensures ∙ c.if-is_main.false) in
    (omega arith, omega (arith, later))

pub returns : goal.returns
returns c =
    let all = main_nowhere c.args.functions.now c.loop-function.function-index (omega arith) in
    omega (arith, all)
