use Rattle.std.proofs.Common.{rules, ◌≡◌, ℕ, ◌+◌, ◌-◌, ◌++◌, drop, Some, refl, ap, subst, sym, ◌∙◌, arith}
use Rattle.std.specs.Prelude.{reverse, option_map}
use Rattle.core_tree.specs.Trees.{Items, block, switch, stray, view, boxed, view_structure, view_statement, items_of}
use Rattle.core_tree.proofs.Views.{view_block}
use Rattle.c_profile.proofs.Switches.{view_switch}
use Rattle.c_meaning.specs.Meaning.{number_type}
use Rattle.goto_prog.specs.Nodes.{plain, nodes_of, node_count}
use Rattle.goto_prog.specs.declared.code.Operation.TheVariants as operations
use Rattle.lowered_code.specs.Lowering.{at_line, top, code, plains, to_place, test_code, initial_code, initial_store}
use Rattle.c_temporaries.specs.Accesses.{home_in}
use Rattle.lowered_code.specs.Registers.{types, structure_types, initial_types}
use Rattle.code_draft.specs.Drafts.{added, next}
use Rattle.goto_lower.specs.Statements.{Within, Inside, Drafted, typed}
use Rattle.code_draft.proofs.Drafting.{ok_maps}
use Rattle.code_draft.proofs.Making.{reversed_count}
use Rattle.goto_lower.proofs.Flushing.{flushed_draft, flushed_code}
use Rattle.goto_lower.proofs.DraftingItems.{inside_all, within_initializes, within_structure, within_does, within_label, within_case, within_default}
use Rattle.goto_lower.proofs.DraftingSwitches.{items_at}
use Rattle.goto_lower.proofs.DraftingControl.{ok_two, drafted_stray, drafted_same, drafted_block, drafted_if, drafted_if_else, drafted_do, drafted_for, drafted_switch}
use Rattle.goto_lower.proofs.statements.+statement.Goals as goal

pub block-returns : goal.block-returns
block-returns t c =
    ok_two c.flush.result _ _ _ (λ last put.
    drafted_block c.args.draft.now c.lower_inside.new.draft c.enter.new.draft c.flush.new.self c.args.exits (items_of c.args.items.now) c.in_ok-_cases._cases (nodes_of (reverse c.args.made.now.items)) _ _
    c.requires c.in_ok-_cases.ensures c.in_ok-enter.ensures put last)
    c.flush.ensures.draft c.flush.ensures.code

pub branches-returns : goal.branches-returns
branches-returns t c =
    let x = c.args.exits in
    let rest = nodes_of (reverse c.args.made.now.items) in
    let n1 = nodes_of (reverse c.lower_statement.new.made.items) in
    let n3 = nodes_of (reverse c.lower_statement-2.new.made.items) in
    let over : c.in_ok-over.over ≡ x.base + node_count rest = omega (arith, c.in_ok-over.ensures, c.len.ensures, reversed_count c.args.made.now.items) in
    let count : c.saturating_sub-count.result ≡ node_count n3 - node_count n1 =
    omega (arith, c.saturating_sub-count.ensures, c.len-2.ensures, c.len-before.ensures, reversed_count c.lower_statement.new.made.items, reversed_count c.lower_statement-2.new.made.items) in
    ok_two c.lower_test.result _ _ _ (λ draft put.
    drafted_if_else c.args.draft.now c.lower_statement.new.draft c.lower_statement-2.new.draft c.lower_test.new.draft x (view c.args.test.now) (view_statement c.args.yes.now) (view_statement c.args.no.now) c.args.line c.in_ok-over.over c.saturating_sub-count.result
    rest n1 (nodes_of (reverse c.jump_to.new.made.items)) n3 (nodes_of (reverse c.lower_test.new.made.items))
    over c.in_ok-lower_statement.ensures c.in_ok-jump_to.ensures c.in_ok-lower_statement-2.ensures count draft put)
    c.lower_test.ensures.draft c.lower_test.ensures.code

pub do_loop-returns : goal.do_loop-returns
do_loop-returns t c =
    let d = c.args.draft.now in
    let x = c.args.exits in
    let e = view c.args.test.now in
    let rest = nodes_of (reverse c.args.made.now.items) in
    let r1 = nodes_of (reverse c.lower_test.new.made.items) in
    let behind : c.in_ok-behind.behind ≡ x.base + node_count rest = omega (arith, c.in_ok-behind.ensures, c.len.ensures, reversed_count c.args.made.now.items) in
    let count : c.len-2.result ≡ node_count r1 = omega (arith, c.len-2.ensures, reversed_count c.lower_test.new.made.items) in
    ok_maps c.repeat.result _ _ (λ loops.
    drafted_do d c.lower_test.new.draft c.lower_statement.new.draft x c.in_ok-inner.inner e (view_statement c.args.body.now) c.args.line c.args.number c.in_ok-behind.behind c.len-2.result
    rest r1 (nodes_of (reverse c.lower_statement.new.made.items)) (nodes_of (reverse c.repeat.new.made.items))
    behind c.in_ok-lower_test.ensures.draft
    (c.in_ok-lower_test.ensures.code ∙ ap (λ xs. plains (code d.frame e (next d)) (plain (at_line d.frame c.args.line (operations.SkipIfZero (next d + top d.frame.variables e) 1)) (nodes_of (reverse xs)))) c.new-round.ensures.items)
    count c.in_ok-inner.ensures c.in_ok-lower_statement.ensures loops)
    c.repeat.ensures

pub for_loop-returns : goal.for_loop-returns
for_loop-returns t c =
    let d = c.args.draft.now in
    let x = c.args.exits in
    let first = option_map boxed c.args.first.now in
    let test = option_map boxed c.args.test.now in
    let last = option_map boxed c.args.last.now in
    let rest = nodes_of (reverse c.args.made.now.items) in
    let r2 = nodes_of (reverse c.evaluate_part.new.made.items) in
    let behind : c.in_ok-behind.behind ≡ x.base + node_count rest = omega (arith, c.in_ok-behind.ensures, c.len.ensures, reversed_count c.args.made.now.items) in
    let count : c.len-2.result ≡ node_count r2 = omega (arith, c.len-2.ensures, reversed_count c.evaluate_part.new.made.items) in
    ok_two c.evaluate_part-2.result _ _ _ (λ five begun.
    drafted_for d c.loop_test.new.draft c.evaluate_part.new.draft c.lower_statement.new.draft c.loop_test-2.new.draft c.evaluate_part-2.new.draft x c.in_ok-inner.inner first test last (view_statement c.args.body.now) c.args.line c.args.number c.in_ok-behind.behind c.len-2.result
    rest (nodes_of (reverse c.loop_test.new.made.items)) r2 (nodes_of (reverse c.lower_statement.new.made.items)) (nodes_of (reverse c.repeat.new.made.items)) (nodes_of (reverse c.loop_test-2.new.made.items)) (nodes_of (reverse c.evaluate_part-2.new.made.items))
    behind c.in_ok-loop_test.ensures.draft
    (c.in_ok-loop_test.ensures.code ∙ ap (λ xs. plains (test_code d.frame c.args.line test (next d)) (nodes_of (reverse xs))) c.new-round.ensures.items)
    c.in_ok-evaluate_part.ensures.draft c.in_ok-evaluate_part.ensures.code count c.in_ok-inner.ensures c.in_ok-lower_statement.ensures c.in_ok-repeat.ensures
    c.in_ok-loop_test-2.ensures.draft c.in_ok-loop_test-2.ensures.code five begun)
    c.evaluate_part-2.ensures.draft c.evaluate_part-2.ensures.code

pub lower_item-returns-in-Initialize : goal.lower_item-returns-in-Initialize
lower_item-returns-in-Initialize t c =
    let l = c.in-Initialize in
    let d = c.args.draft.now in
    let f = d.frame in
    let vs = f.variables in
    let n = next d in
    let rest = nodes_of (reverse c.args.made.now.items) in
    rw l.is (λ first behind others h. ok_two c.initialize_number.result _ _ _ (λ same put.
    within_initializes first behind c.args.exits others d rest c.args.cases.now h c.initialize_number.new.draft (nodes_of (reverse c.initialize_number.new.made.items)) l.line l.variable l.drawn (view l.value.value)
    (same ∙ ap (λ e. typed d (types vs (view e) ++ initial_types vs l.variable)) c.deref.ensures)
    (put ∙ ap (λ e. plains (code f (view e) n) (plains (initial_store f l.line l.variable (home_in vs l.variable) (number_type (view e)) (n + top vs (view e)) (n + (top vs (view e) + 1))) rest)) c.deref.ensures))
    c.initialize_number.ensures.draft c.initialize_number.ensures.code)

pub lower_item-returns-in_ok-initialize_structure-in-InitializeStructure : goal.lower_item-returns-in_ok-initialize_structure-in-InitializeStructure
lower_item-returns-in_ok-initialize_structure-in-InitializeStructure t c =
    let l = c.in-InitializeStructure in
    let d = c.args.draft.now in
    let vs = d.frame.variables in
    let a = view_structure l.value.value in
    let rest = nodes_of (reverse c.args.made.now.items) in
    let xs = initial_code d.frame l.line l.variable a (next d) in
    let ts = structure_types vs a ++ initial_types vs l.variable in
    let more = c.in_ok-initialize_structure-in-InitializeStructure.ensures
    ∙ ap (λ b. added d (initial_code d.frame l.line l.variable (view_structure b) (next d)) (structure_types vs (view_structure b) ++ initial_types vs l.variable)) c.deref-in-InitializeStructure.ensures in
    rw l.is (λ first behind others h. ok_two c.flush.result _ _ _ (λ last put.
    within_structure first behind c.args.exits others d rest c.args.cases.now h c.flush.new.self (nodes_of (reverse c.flush.new.made.items)) l.line l.variable l.drawn a
    (flushed_draft d c.initialize_structure.new.draft c.flush.new.self xs ts c.requires more last)
    (flushed_code d c.initialize_structure.new.draft xs ts rest (nodes_of (reverse c.flush.new.made.items)) c.requires more put))
    c.flush.ensures.draft c.flush.ensures.code)

pub lower_item-returns-in-Statement : goal.lower_item-returns-in-Statement
lower_item-returns-in-Statement t c =
    let l = c.in-Statement in
    rw l.is (λ first rest others h. ok_maps c.lower_statement.result _ _ (λ k.
    within_does first rest c.args.exits others c.args.draft.now (nodes_of (reverse c.args.made.now.items)) c.args.cases.now h c.lower_statement.new.draft (nodes_of (reverse c.lower_statement.new.made.items)) (view_statement l.statement.value)
    (subst (λ s. Drafted c.args.draft.now c.lower_statement.new.draft (nodes_of (reverse c.args.made.now.items)) (nodes_of (reverse c.lower_statement.new.made.items)) c.args.exits (view_statement s)) c.deref-in-Statement.ensures k))
    c.lower_statement.ensures)

pub lower_item-returns-in_ok-place-in-Label : goal.lower_item-returns-in_ok-place-in-Label
lower_item-returns-in_ok-place-in-Label t c =
    let rest = nodes_of (reverse c.args.made.now.items) in
    let place : c.in_ok-place-in-Label.place ≡ c.args.exits.base + node_count rest = omega (arith, c.in_ok-place-in-Label.ensures, c.len.ensures, reversed_count c.args.made.now.items) in
    rw c.in-Label.is (λ first behind others h. ok_maps c.know.result _ _ (λ same.
    within_label first behind c.args.exits others c.args.draft.now rest c.args.cases.now h c.know.new.self c.in-Label.label c.in_ok-place-in-Label.place place same)
    c.know.ensures)

pub lower_item-returns-in_ok-push-in-Case : goal.lower_item-returns-in_ok-push-in-Case
lower_item-returns-in_ok-push-in-Case t c =
    let l = c.in-Case in
    let rest = nodes_of (reverse c.args.made.now.items) in
    let place : c.in_ok-place-in-Case.place ≡ c.args.exits.base + node_count rest = omega (arith, c.in_ok-place-in-Case.ensures, c.len-in-Case.ensures, reversed_count c.args.made.now.items) in
    rw l.is (λ first behind others h.
    within_case first behind c.args.exits others c.args.draft.now rest c.args.cases.now h (record { places = c.push.new.self; otherwise = c.args.cases.now.otherwise }) l.line l.bits c.in_ok-place-in-Case.place l.type_ place c.in_ok-push-in-Case.ensures.items refl)

pub lower_item-returns-in_ok-place-in-Default : goal.lower_item-returns-in_ok-place-in-Default
lower_item-returns-in_ok-place-in-Default t c =
    let l = c.in-Default in
    let rest = nodes_of (reverse c.args.made.now.items) in
    let place : c.in_ok-place-in-Default.place ≡ c.args.exits.base + node_count rest = omega (arith, c.in_ok-place-in-Default.ensures, c.len-in-Default.ensures, reversed_count c.args.made.now.items) in
    rw l.is (λ first behind others h.
    within_default first behind c.args.exits others c.args.draft.now rest c.args.cases.now h (record { places = c.args.cases.now.places; otherwise = Some c.in_ok-place-in-Default.place }) l.line c.in_ok-place-in-Default.place place refl refl)

pub lower_inside-returns : goal.lower_inside-returns
lower_inside-returns t c =
    inside_all c.args.draft.now c.live_items.new.draft c.leave_before.new.draft c.lower_items.new.draft c.forget.new.self c.args.exits c.in_ok-inner.inner (items_of c.args.items.now)
    (nodes_of (reverse c.args.made.now.items)) (nodes_of (reverse c.leave_before.new.made.items)) (nodes_of (reverse c.lower_items.new.made.items)) c.in_ok-cases.cases c.known-known.result c.in_ok-count.count
    c.known-known.ensures c.in_ok-count.ensures.draft c.in_ok-count.ensures.count c.in_ok-leave_before.ensures.draft c.in_ok-leave_before.ensures.code c.in_ok-inner.ensures
    c.in_ok-cases.ensures.draft c.in_ok-cases.ensures.code c.in_ok-cases.ensures.cases c.in_ok-cases.ensures.otherwise c.forget.ensures

pub lower_statement-returns-in-Block : goal.lower_statement-returns-in-Block
lower_statement-returns-in-Block t c = drafted_same _ _ _ _ _ _ _ _ (ap (λ xs. block (items_of xs)) c.deref.ensures.value ∙ sym (ap view_statement c.in-Block.is ∙ view_block c.in-Block.items)) c.block.ensures

pub lower_statement-returns-in_ok-lower_statement-in-If : goal.lower_statement-returns-in_ok-lower_statement-in-If
lower_statement-returns-in_ok-lower_statement-in-If t c =
    let rest = nodes_of (reverse c.args.made.now.items) in
    let n1 = nodes_of (reverse c.lower_statement.new.made.items) in
    let count : c.saturating_sub-count.result ≡ node_count n1 - node_count rest =
    omega (arith, c.saturating_sub-count.ensures, c.len.ensures, c.len-before.ensures, reversed_count c.args.made.now.items, reversed_count c.lower_statement.new.made.items) in
    let h = ok_two c.lower_test.result _ _ _ (λ draft put.
    drafted_if c.args.draft.now c.lower_statement.new.draft c.lower_test.new.draft c.args.exits (view c.deref-in-If-2.result.now) (view_statement c.deref-in-If.result.now) c.in-If.line c.saturating_sub-count.result rest n1 (nodes_of (reverse c.lower_test.new.made.items))
    c.in_ok-lower_statement-in-If.ensures count draft put)
    c.lower_test.ensures.draft c.lower_test.ensures.code in
    search (rules, h)

pub lower_statement-returns-in-Switch : goal.lower_statement-returns-in-Switch
lower_statement-returns-in-Switch t c =
    let l = c.in-Switch in
    drafted_same _ _ _ _ _ _ _ _ ((λ i. switch l.line (view (c.deref-in-Switch.ensures i)) (items_of (c.deref-in-Switch-2.ensures.value i))) ∙ sym (ap view_statement l.is ∙ view_switch l.line l.value l.items)) c.switch.ensures

pub switch-returns : goal.switch-returns
switch-returns t c =
    let d = c.args.draft.now in
    let x = c.args.exits in
    let rest = nodes_of (reverse c.args.made.now.items) in
    let cases = c.in_ok-cases.cases in
    let f = c.lower_inside.new.draft.frame in
    let n1 = nodes_of (reverse c.lower_inside.new.made.items) in
    let count : c.len-count.result ≡ node_count rest = omega (arith, c.len-count.ensures, reversed_count c.args.made.now.items) in
    ok_two c.choose.result _ _ _ (λ last chosen.
    drafted_switch d c.lower_inside.new.draft c.enter_switch.new.draft c.choose.new.draft x (view c.args.value.now) (items_of c.args.items.now) cases c.args.line c.in_ok-behind.behind c.len-count.result c.in_ok-register.register
    rest n1 (nodes_of (reverse c.jump_to.new.made.items)) (nodes_of (reverse c.enter_switch.new.made.items)) (nodes_of (reverse c.choose.new.made.items))
    count c.in_ok-behind.ensures
    (subst (λ y. Inside d c.lower_inside.new.draft rest n1 y (items_of c.args.items.now) cases) c.within_switch-inner.ensures c.in_ok-cases.ensures)
    (c.in_ok-jump_to.ensures ∙ ap (λ p. to_place f c.args.line x.base p n1) c.unwrap_or.ensures)
    c.in_ok-register.ensures.draft c.in_ok-register.ensures.value c.in_ok-register.ensures.code last chosen)
    c.choose.ensures.draft c.choose.ensures.code

pub lower_items-loop-place-preserved : goal.lower_items-loop-place-preserved
lower_items-loop-place-preserved t c =
    let l = c.loop-place in
    let d = c.args.draft.now in
    let xs = c.args.items.now in
    let rest = nodes_of (reverse c.args.made.now.items) in
    let at : l.place ≡ (l.place - 1) + 1 = omega arith in
    let before = subst (λ (k : ℕ). Within d rest c.args.exits (items_of (drop k xs)) l.draft (nodes_of (reverse l.made.items)) l.cases) at l.invariant in
    subst (λ (is : Items). Within d rest c.args.exits is c.lower_item.new.draft (nodes_of (reverse c.lower_item.new.made.items)) c.lower_item.new.cases)
    (sym (items_at xs (l.place - 1) c.index-items-place.result (omega arith) c.index-items-place.is))
    (c.in_ok-lower_item.ensures d rest (items_of (drop ((l.place - 1) + 1) xs)) before)

pub lower_statement-returns-in-Stray : goal.lower_statement-returns-in-Stray
lower_statement-returns-in-Stray t c =
    let l = c.in-Stray in
    drafted_same _ _ _ _ _ _ _ _ ((λ i. stray l.line (view_statement (c.deref-in-Stray.ensures i))) ∙ sym (ap view_statement l.is))
    (drafted_stray c.lower_statement-in-Stray.result _ _ _ _ _ l.line (view_statement c.deref-in-Stray.result.now) c.lower_statement-in-Stray.ensures)
