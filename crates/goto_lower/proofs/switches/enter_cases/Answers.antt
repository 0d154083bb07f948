use Rattle.std.proofs.Common.{◌+◌, ◌*◌, List, [], ◌∷◌, length, ap, sym, ◌∙◌}
use Rattle.std.specs.Prelude.{reverse}
use Rattle.core_tree.specs.Trees.{view, items_of}
use Rattle.c_meaning.specs.Meaning.{number_type}
use Rattle.goto_prog.specs.Nodes.{nodes_of}
use Rattle.goto_lower.specs.declared.exits.CasePlace.{CasePlace}
use Rattle.code_draft.specs.Drafts.{added}
use Rattle.goto_lower.specs.Statements.{jumps_to}
use Rattle.goto_lower.proofs.DraftingSwitches.{way_adds}
use Rattle.goto_lower.proofs.switches.enter_cases.Goals as goal

pub returns-clause-code : goal.returns-clause-code
returns-clause-code c =
    let body = nodes_of (reverse c.args.made.now.items) in
    let places = c.args.cases.now.places.items in
    let d3 = c.case_registers.new.draft in
    let same = c.deref.ensures.value in
    let t = number_type (view c.args.value.now) in
    (way_adds c.args.draft.now c.register.new.self c.register-2.new.self d3 c.enter.new.draft c.flush.new.self (items_of c.args.items.now) t c.args.base c.in_ok-before.before c.in_ok-value.value places
    body (nodes_of (reverse c.case_jumps.new.made.items)) (nodes_of (reverse c.flush.new.made.items))
    c.requires c.in_ok-before.ensures.code c.in_ok-before.ensures.number (c.in_ok-value.ensures.code ∙ ap (λ u. added c.register.new.self [] (u ∷ [])) c.number_type.ensures) c.in_ok-value.ensures.number c.in_ok-last.ensures.draft
    (λ first is. c.in_ok-case_jumps.ensures first (c.next.ensures ∙ is ∙ ap (λ (ps : List CasePlace). first + 5 * length ps) (sym same)) ∙ ap (λ (ps : List CasePlace). jumps_to d3.frame c.args.base c.in_ok-value.value first (reverse ps) body) same)
    c.in_ok-enter.ensures c.in_ok-flush.ensures.code c.in_ok-flush.ensures.draft).1
