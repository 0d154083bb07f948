use Rattle.std.proofs.Common.{◌+◌, [], ◌∷◌, sym, ap, ◌∙◌}
use Rattle.std.specs.Prelude.{reverse, option_map}
use Rattle.core_tree.specs.Trees.{view, boxed}
use Rattle.goto_prog.specs.Nodes.{plain, nodes_of}
use Rattle.goto_prog.specs.declared.code.Operation.TheVariants as operations
use Rattle.lowered_code.specs.Lowering.{at_line, top, code, plains, test_code}
use Rattle.code_draft.specs.Drafts.{next}
use Rattle.code_draft.proofs.Drafting.{ok_maps}
use Rattle.goto_lower.proofs.Flushing.{plains_append}
use Rattle.goto_lower.proofs.statements.loop_test.Goals as goal

pub returns-in-Some-clause-code : goal.returns-in-Some-clause-code
returns-in-Some-clause-code c =
    let d = c.args.draft.now in
    let e = boxed c.in-Some.test in
    let rest = nodes_of (reverse c.args.made.now.items) in
    ok_maps c.lower_test.result _ _ (λ same. same
    ∙ ap (λ x. plains (code d.frame (view x) (next d)) (plain (at_line d.frame c.args.line (operations.SkipIfZero (next d + top d.frame.variables (view x)) 1)) rest)) c.deref.ensures
    ∙ sym (plains_append (code d.frame e (next d)) (at_line d.frame c.args.line (operations.SkipIfZero (next d + top d.frame.variables e) 1) ∷ []) rest)
    ∙ sym (ap (λ o. plains (test_code d.frame c.args.line (option_map boxed o) (next d)) rest) c.in-Some.is))
    c.lower_test.ensures.code
