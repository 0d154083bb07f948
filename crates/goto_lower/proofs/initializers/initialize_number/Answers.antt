use Rattle.std.proofs.Common.{◌+◌, ◌++◌, ◌∙◌}
use Rattle.std.specs.Prelude.{reverse}
use Rattle.core_tree.specs.Trees.{view}
use Rattle.c_meaning.specs.Meaning.{number_type}
use Rattle.goto_prog.specs.Nodes.{nodes_of}
use Rattle.c_temporaries.specs.Accesses.{home_in}
use Rattle.lowered_code.specs.Lowering.{top, code, initial_store}
use Rattle.lowered_code.specs.Registers.{types, initial_types}
use Rattle.code_draft.specs.Drafts.{next}
use Rattle.code_draft.proofs.Drafting.{ok_maps}
use Rattle.goto_lower.proofs.Flushing.{plains_append, flushed_draft, flushed_code}
use Rattle.goto_lower.proofs.DraftingJumps.{number_stored}
use Rattle.goto_lower.proofs.initializers.initialize_number.Goals as goal

pub returns-clause-draft : goal.returns-clause-draft
returns-clause-draft c =
    let d = c.args.draft.now in
    let f = d.frame in
    let e = view c.args.value.now in
    let x = c.args.variable in
    let n = next d in
    let m = top f.variables e in
    ok_maps c.flush.result _ _ (λ last.
    flushed_draft d c.store_first.new.draft c.flush.new.self (code f e n ++ initial_store f c.args.line x (home_in f.variables x) (number_type e) (n + m) (n + (m + 1))) (types f.variables e ++ initial_types f.variables x) c.requires
    (number_stored d c.expression.new.self c.store_first.new.draft e c.in_ok-value.value c.args.line x c.in_ok-value.ensures c.in_ok-store_first.ensures) last)
    c.flush.ensures.draft

pub returns-clause-code : goal.returns-clause-code
returns-clause-code c =
    let d = c.args.draft.now in
    let f = d.frame in
    let e = view c.args.value.now in
    let x = c.args.variable in
    let n = next d in
    let m = top f.variables e in
    let store = initial_store f c.args.line x (home_in f.variables x) (number_type e) (n + m) (n + (m + 1)) in
    let rest = nodes_of (reverse c.args.made.now.items) in
    ok_maps c.flush.result _ _ (λ put.
    flushed_code d c.store_first.new.draft (code f e n ++ store) (types f.variables e ++ initial_types f.variables x) rest (nodes_of (reverse c.flush.new.made.items)) c.requires
    (number_stored d c.expression.new.self c.store_first.new.draft e c.in_ok-value.value c.args.line x c.in_ok-value.ensures c.in_ok-store_first.ensures) put
    ∙ plains_append (code f e n) store rest)
    c.flush.ensures.code
