use Rattle.std.proofs.Common.{◌≡◌, None, Some, sym, ap, ◌∙◌}
use Rattle.std.specs.Prelude.{option_map}
use Rattle.core_tree.specs.Trees.{boxed_statement, view_statement, view_function}
use Rattle.goto_prog.specs.Nodes.{view_procedure}
use Rattle.lowered_code.specs.Lowered.{defined_code, undefined_code, function_code}
use Rattle.goto_lower.proofs.DraftingControl.{if_maps}
use Rattle.goto_lower.proofs.InTurn.{by_body}
use Rattle.goto_lower.proofs.lowering.lower_function.Goals as goal

pub returns-in-Some : goal.returns-in-Some
returns-in-Some c =
    let f = view_function c.args.function.now in
    let s = view_statement c.deref.result.now in
    let l = c.args.literals in
    let n = c.args.number in
    if_maps c.lower_defined.result (λ p. view_procedure p ≡ defined_code l n f s) (λ p. view_procedure p ≡ function_code l n f)
    (λ p. by_body l n f (Some s) (view_procedure p) (ap (option_map boxed_statement) c.in-Some.is ∙ sym (ap (λ b. Some (view_statement b)) c.deref.ensures)))
    c.lower_defined.ensures

pub returns-in-None : goal.returns-in-None
returns-in-None c =
    let f = view_function c.args.function.now in
    let l = c.args.literals in
    let n = c.args.number in
    if_maps c.lower_declared.result (λ p. view_procedure p ≡ undefined_code l n f) (λ p. view_procedure p ≡ function_code l n f)
    (λ p. by_body l n f None (view_procedure p) (ap (option_map boxed_statement) c.in-None.is))
    (c.lower_declared.ensures l)
