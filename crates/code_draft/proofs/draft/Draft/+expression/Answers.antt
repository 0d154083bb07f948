use Rattle.std.proofs.Common.{rules, ◌≡◌, ℕ, ℤ, ◌+◌, false, true, w64, to_z, of_z, ap, subst, sym, ◌∙◌, arith}
use Rattle.std.proofs.lemmas.Int.{to_z-of_z, to_z_pos}
use Rattle.std.specs.Prelude.{pos}
use Rattle.std.proofs.lemmas.Result.{IfOk-weaker}
use Rattle.core_tree.specs.Trees.{call, view, view_place, Structure, view_structure, parts_of, arguments_of}
use Rattle.core_tree.specs.Typed.{size_of}
use Rattle.core_tree.proofs.Views.{view_list, view_call, view_give}
use Rattle.c_meaning.specs.Meaning.{place_line}
use Rattle.code_draft.specs.Drafts.{next, added, Lowers, after_structure, after_parts, after_text, after_arguments, after_passed}
use Rattle.lowered_code.specs.Lowering.{argument_count, move_code}
use Rattle.code_draft.proofs.Drafting.{ok_both, ok_maps, lowers_and, lowers_or, lowers_choice}
use Rattle.code_draft.proofs.DraftingPointers.{two_words, leads_element, leads_swapped_element, leads_subscript, leads_swapped_subscript, lowers_sum, lowers_swapped_sum}
use Rattle.code_draft.proofs.DraftingStructures.{lowers_discarded, lowers_member, number_adds, structure_adds, put_adds, follow_adds, list_adds, string_adds, choose_adds}
use Rattle.code_draft.proofs.DraftingCalls.{argument_length, number_argument_adds, structure_argument_adds, passed_adds, passed_of, lowers_call, lowers_same, give_adds}
use Rattle.code_draft.proofs.draft.Draft.+expression.Goals as goal

pub and-returns : goal.and-returns
and-returns t c = λ old a h.
    lowers_and old c.args.self.now c.reserve.new.self c.expression.new.self c.truth.new.self c.push.new.self c.land.new.self c.push-2.new.self a (view c.args.right.now) c.args.x c.in_ok-y.y c.in_ok-truth.truth c.in_ok-skip.skip c.args.line _
    h c.in_ok-skip.ensures.code c.in_ok-skip.ensures.place c.in_ok-y.ensures c.in_ok-truth.ensures.code c.in_ok-truth.ensures.value c.in_ok-push.ensures c.land.ensures c.in_ok-push-2.ensures

pub choice-returns : goal.choice-returns
choice-returns t c = λ old e h.
    lowers_choice old c.args.self.now c.reserve.new.self c.expression.new.self c.reserve-2.new.self c.reserve-3.new.self c.land.new.self c.expression-2.new.self c.set.new.self c.fill.new.self c.land-2.new.self
    e (view c.args.yes.now) (view c.args.no.now) c.args.test c.in_ok-x.x c.in_ok-y.y c.in_ok-result.result c.in_ok-skip.skip c.in_ok-copy.copy c.in_ok-over.over c.next-into.result c.args.line _ _ _
    h c.in_ok-skip.ensures.code c.in_ok-skip.ensures.place c.in_ok-x.ensures c.in_ok-copy.ensures.code c.in_ok-copy.ensures.place c.in_ok-over.ensures.code c.in_ok-over.ensures.place c.land.ensures
    c.in_ok-y.ensures c.next-into.ensures c.in_ok-result.ensures.code c.in_ok-result.ensures.value c.fill.ensures c.land-2.ensures

pub or-returns : goal.or-returns
or-returns t c = λ old a h.
    lowers_or old c.args.self.now c.push.new.self c.reserve.new.self c.reserve-2.new.self c.expression.new.self c.truth.new.self c.fill.new.self c.land.new.self a (view c.args.right.now) c.args.x c.in_ok-y.y c.in_ok-truth.truth c.in_ok-one.one c.in_ok-skip.skip c.args.line _ _
    h c.in_ok-push.ensures c.in_ok-one.ensures.code c.in_ok-one.ensures.place c.in_ok-skip.ensures.code c.in_ok-skip.ensures.place c.in_ok-y.ensures c.in_ok-truth.ensures.code c.in_ok-truth.ensures.value c.fill.ensures c.land.ensures

pub expression-returns-in_ok-y-in-Comma : goal.expression-returns-in_ok-y-in-Comma
expression-returns-in_ok-y-in-Comma t c =
    let h = c.comma.ensures c.args.self.now c.expression-in-Comma.new.self c.expression-in-Comma-2.new.self (view c.deref-in-Comma.result.now) (view c.deref-in-Comma-2.result.now) c.in_ok-_x-in-Comma._x c.in_ok-_x-in-Comma.ensures c.in_ok-y-in-Comma.ensures in
    search (rules, h)

pub discard_structure-returns : goal.discard_structure-returns
discard_structure-returns t c =
    IfOk-weaker _ _ _ (λ y k. lowers_discarded c.args.self.now c.temporary.new.self c.constant.new.self (view_structure c.args.value.now) y c.line_of_structure.result c.in_ok-_block.ensures.code c.line_of_structure.ensures k) c.constant.ensures

pub member-returns : goal.member-returns
member-returns t c =
    ok_both _ _ _ _ c.set.ensures.code c.set.ensures.value (λ x n v.
    lowers_member c.args.self.now c.temporary.new.self c.set.new.self (view_structure c.args.value.now) x c.next.result c.in_ok-block.block c.args.line c.args.offset c.args.type_ c.in_ok-block.ensures.code c.next.ensures c.in_ok-block.ensures.block n v)

pub list_part-returns-in_ok-x-in-Number : goal.list_part-returns-in_ok-x-in-Number
list_part-returns-in_ok-x-in-Number t c =
    rw c.in-Number.is (λ rest. ok_maps _ _ _ (λ same.
    number_adds c.args.into c.args.at c.args.self.now c.expression.new.self c.push.new.self (view c.in-Number.value.value) c.in_ok-x-in-Number.x c.args.line c.in-Number.offset c.in_ok-offset-in-Number.offset c.size.result rest
    (subst (λ e. Lowers c.args.self.now c.expression.new.self (view e) c.in_ok-x-in-Number.x) c.deref.ensures c.in_ok-x-in-Number.ensures) c.in_ok-offset-in-Number.ensures c.size.ensures.is same) c.push.ensures)

pub list_part-returns-in_ok-offset-in-Structure : goal.list_part-returns-in_ok-offset-in-Structure
list_part-returns-in_ok-offset-in-Structure t c =
    rw c.in-Structure.is (λ rest. ok_maps _ _ _ (λ same.
    structure_adds c.args.into c.args.at c.args.self.now c.structure.new.self (view_structure c.in-Structure.value.value) c.args.line c.in-Structure.offset c.in_ok-offset-in-Structure.offset rest c.in_ok-offset-in-Structure.ensures
    (same ∙ ap (λ a. after_structure c.args.self.now (view_structure a) c.args.into c.in_ok-offset-in-Structure.offset) c.deref-in-Structure.ensures)) c.structure.ensures)

pub structure-returns-in_ok-_left-in-Comma : goal.structure-returns-in_ok-_left-in-Comma
structure-returns-in_ok-_left-in-Comma t c =
    rw c.in-Comma.is (ok_maps _ _ _ (λ same.
    follow_adds c.args.into c.args.at c.args.self.now c.expression-in-Comma.new.self c.structure-in-Comma.new.self (view c.in-Comma.left.value) c.in_ok-_left-in-Comma._left (view_structure c.in-Comma.right.value) c.in-Comma.line
    (subst (λ e. Lowers c.args.self.now c.expression-in-Comma.new.self (view e) c.in_ok-_left-in-Comma._left) c.deref-in-Comma.ensures c.in_ok-_left-in-Comma.ensures)
    (same ∙ ap (λ a. after_structure c.expression-in-Comma.new.self (view_structure a) c.args.into c.args.at) c.deref-in-Comma-2.ensures))
    c.structure-in-Comma.ensures)

pub structure-returns-in_ok-clear-in-List : goal.structure-returns-in_ok-clear-in-List
structure-returns-in_ok-clear-in-List t c =
    let whole = ap view_structure c.in-List.is ∙ view_list c.in-List.line c.in-List.size c.in-List.parts in
    ok_maps _ _ _ (λ same.
    list_adds c.args.into c.args.at c.args.self.now c.clear.new.self c.parts.new.self (parts_of c.in-List.parts.items) c.in-List.line c.in-List.size c.in_ok-clear-in-List.ensures
    (same ∙ ap (λ xs. after_parts c.clear.new.self c.in-List.line (parts_of xs) c.args.into c.args.at) c.deref-in-List.ensures.value)
    ∙ ap (λ (a : Structure). after_structure c.args.self.now a c.args.into c.args.at) (sym whole))
    c.parts.ensures

pub structure-returns-in_ok-register-in-String : goal.structure-returns-in_ok-register-in-String
structure-returns-in_ok-register-in-String t c =
    rw c.in-String.is (ok_maps _ _ _ (λ same.
    string_adds c.args.into c.args.at c.args.self.now c.clear-in-String.new.self c.register.new.self c.text.new.self c.in-String.bytes.items c.in-String.line c.in-String.size c.in_ok-register-in-String.register
    c.in_ok-clear-in-String.ensures c.in_ok-register-in-String.ensures.code c.in_ok-register-in-String.ensures.number
    (same ∙ ap (λ xs. after_text c.register.new.self c.in-String.line xs c.in_ok-register-in-String.register c.args.into c.args.at) c.deref-in-String.ensures.value))
    c.text.ensures)

pub structure-returns-in_ok-structure-in-Choice-2 : goal.structure-returns-in_ok-structure-in-Choice-2
structure-returns-in_ok-structure-in-Choice-2 t c =
    let h = choose_adds c.args.into c.args.at c.args.self.now c.expression.new.self c.reserve.new.self c.structure.new.self c.reserve-in-Choice.new.self c.land.new.self c.structure-in-Choice.new.self c.land-in-Choice.new.self
    (view c.deref-in-Choice.result.now) (view_structure c.deref-in-Choice-2.result.now) (view_structure c.deref-in-Choice-3.result.now) c.in_ok-test-in-Choice.test c.in_ok-skip-in-Choice.skip c.in_ok-over-in-Choice.over c.in-Choice.line _ _
    c.in_ok-test-in-Choice.ensures c.in_ok-skip-in-Choice.ensures.code c.in_ok-skip-in-Choice.ensures.place c.in_ok-structure-in-Choice.ensures c.in_ok-over-in-Choice.ensures.code c.in_ok-over-in-Choice.ensures.place
    c.land.ensures c.in_ok-structure-in-Choice-2.ensures c.land-in-Choice.ensures in
    search (rules, h)

pub argument-returns-in_ok-x-in-Number : goal.argument-returns-in_ok-x-in-Number
argument-returns-in_ok-x-in-Number t c =
    rw c.in-Number.is (λ rest. ok_maps _ _ _ (λ same.
    number_argument_adds c.args.self.now c.expression.new.self c.push.new.self (view c.in-Number.value.value) c.in_ok-x-in-Number.x c.args.block c.size.result rest
    (subst (λ e. Lowers c.args.self.now c.expression.new.self (view e) c.in_ok-x-in-Number.x) c.deref.ensures c.in_ok-x-in-Number.ensures) c.size.ensures.is same) c.push.ensures)

pub argument-returns-in-Structure : goal.argument-returns-in-Structure
argument-returns-in-Structure t c =
    rw c.in-Structure.is (λ rest. ok_maps _ _ _ (λ same. structure_argument_adds c.args.self.now c.structure.new.self (view_structure c.in-Structure.value.value) c.args.block rest
    (same ∙ ap (λ a. after_structure c.args.self.now (view_structure a) c.args.block 0) c.deref-in-Structure.ensures)) c.structure.ensures)

pub call-returns : goal.call-returns
call-returns t c =
    ok_both _ _ _ _ c.taken.ensures.code c.taken.ensures.value (λ x n v.
    lowers_call c.args.self.now c.pass.new.self c.call_passed.new.self c.taken.new.self (arguments_of c.args.arguments.now) c.in_ok-passed.passed c.args.line c.args.function c.value_size.result c.args.used c.args.type_ x
    c.in_ok-passed.ensures.code c.in_ok-passed.ensures.blocks c.value_size.ensures c.in_ok-call_passed.ensures n v)

pub expression-returns-in-Call : goal.expression-returns-in-Call
expression-returns-in-Call t c =
    let l = c.in-Call in
    let whole = ap (λ xs. call l.line l.function l.used l.type_ (arguments_of xs)) c.deref-in-Call.ensures.value ∙ sym (ap view l.is ∙ view_call l.line l.function l.used l.type_ l.arguments) in
    lowers_same _ _ _ _ _ whole c.call.ensures

pub pass-returns-clause-code : goal.pass-returns-clause-code
pass-returns-clause-code t c =
    let d = c.args.self.now in
    let args = arguments_of c.args.arguments.now in
    let first = c.free-first.ensures in
    passed_adds d c.set_free.new.self c.arguments.new.self c.set_free-2.new.self args c.in_ok-more.field-0 c.set_free.ensures
    (omega (arith, c.in_ok-more.ensures, c.in_ok-into.ensures, first, argument_length c.args.arguments.now))
    (c.in_ok-arguments.ensures ∙ ap (λ b. after_arguments c.set_free.new.self args b) first)
    (c.set_free-2.ensures ∙ ap (λ (b : ℕ). record c.arguments.new.self { frame = record c.arguments.new.self.frame { free = b } }) first)

pub pass-returns-clause-blocks : goal.pass-returns-clause-blocks
pass-returns-clause-blocks t c =
    let count = sym (argument_length c.args.arguments.now) in
    let into : c.in_ok-into.into ≡ c.args.self.now.frame.free + argument_count (arguments_of c.args.arguments.now) = omega (arith, c.in_ok-into.ensures, c.free-first.ensures, count) in
    λ i. record { first = c.free-first.ensures i; count = count i; into = into i }

pub structure-returns-in_ok-call_passed-in-Call : goal.structure-returns-in_ok-call_passed-in-Call
structure-returns-in_ok-call_passed-in-Call t c =
    let d = c.args.self.now in
    let l = c.in-Call in
    let whole = ap view_structure l.is ∙ view_give l.line l.function l.used l.size l.arguments in
    ok_maps _ _ _ (λ same.
    give_adds c.args.into c.args.at d c.pass.new.self c.call_passed.new.self c.push-in-Call.new.self (arguments_of l.arguments.items) c.in_ok-passed-in-Call.passed l.line l.function l.size l.used
    (c.in_ok-passed-in-Call.ensures.code ∙ ap (λ xs. after_passed d (arguments_of xs)) c.deref-in-Call.ensures.value)
    (c.in_ok-passed-in-Call.ensures.blocks ∙ ap (λ xs. passed_of d (arguments_of xs)) c.deref-in-Call.ensures.value)
    c.in_ok-call_passed-in-Call.ensures same
    ∙ ap (λ (a : Structure). after_structure d a c.args.into c.args.at) (sym whole))
    c.push-in-Call.ensures

pub element-returns-in_ok-pointer : goal.element-returns-in_ok-pointer
element-returns-in_ok-pointer t c =
    ok_both _ _ _ _ c.move_within.ensures.code c.move_within.ensures.value (λ r n v.
    leads_swapped_element c.args.self.now c.expression.new.self c.place.new.self c.move_within.new.self (view_place c.args.place.now) (view c.args.index.now) c.in_ok-pointer.pointer c.in_ok-i.i c.args.line c.args.size c.args.whole r c.args.swapped
    c.if-swapped.true c.in_ok-i.ensures c.in_ok-pointer.ensures n v)

pub element-returns-in_ok-i-2 : goal.element-returns-in_ok-i-2
element-returns-in_ok-i-2 t c =
    ok_both _ _ _ _ c.move_within-else-swapped.ensures.code c.move_within-else-swapped.ensures.value (λ r n v.
    leads_element c.args.self.now c.place-else-swapped.new.self c.expression-else-swapped.new.self c.move_within-else-swapped.new.self (view_place c.args.place.now) (view c.args.index.now) c.in_ok-pointer-2.pointer c.in_ok-i-2.i c.args.line c.args.size c.args.whole r c.args.swapped
    c.if-swapped.false c.in_ok-pointer-2.ensures c.in_ok-i-2.ensures n v)

pub subscript-returns-in_ok-p : goal.subscript-returns-in_ok-p
subscript-returns-in_ok-p t c =
    let d = c.expression-then-swapped.new.self in
    let x = c.in_ok-p.p in
    let y = c.in_ok-i.i in
    let passed : to_z w64 c.args.size ≡ pos c.args.size = to_z_pos w64 c.args.size (omega (arith, c.ranges.size.fits)) in
    ok_both _ _ _ _ c.move_by.ensures.code c.move_by.ensures.value (λ r n v.
    leads_swapped_subscript c.args.self.now c.expression.new.self d c.move_by.new.self (view c.args.pointer.now) (view c.args.index.now) x y c.args.line c.args.size r c.args.swapped
    c.if-swapped.true c.in_ok-i.ensures c.in_ok-p.ensures
    (n ∙ ap (λ (s : ℤ). added d (move_code d.frame true c.args.line x.register y.register y.type_ s (next d)) two_words) passed) v)

pub subscript-returns-in_ok-i-2 : goal.subscript-returns-in_ok-i-2
subscript-returns-in_ok-i-2 t c =
    let d = c.expression-else-swapped-2.new.self in
    let x = c.in_ok-p-2.p in
    let y = c.in_ok-i-2.i in
    let passed : to_z w64 c.args.size ≡ pos c.args.size = to_z_pos w64 c.args.size (omega (arith, c.ranges.size.fits)) in
    ok_both _ _ _ _ c.move_by-else-swapped.ensures.code c.move_by-else-swapped.ensures.value (λ r n v.
    leads_subscript c.args.self.now c.expression-else-swapped.new.self d c.move_by-else-swapped.new.self (view c.args.pointer.now) (view c.args.index.now) x y c.args.line c.args.size r c.args.swapped
    c.if-swapped.false c.in_ok-p-2.ensures c.in_ok-i-2.ensures
    (n ∙ ap (λ (s : ℤ). added d (move_code d.frame true c.args.line x.register y.register y.type_ s (next d)) two_words) passed) v)

pub sum-returns-in_ok-p : goal.sum-returns-in_ok-p
sum-returns-in_ok-p t c =
    let d = c.expression-then-swapped.new.self in
    let x = c.in_ok-p.p in
    let y = c.in_ok-i.i in
    let passed : to_z w64 (of_z w64 c.args.step) ≡ c.args.step = to_z-of_z w64 c.args.step c.ranges.step in
    ok_both _ _ _ _ c.move_sum.ensures.code c.move_sum.ensures.value (λ z n v.
    lowers_swapped_sum c.args.self.now c.expression.new.self d c.move_sum.new.self (view c.args.pointer.now) (view c.args.index.now) x y z c.args.line c.args.step c.args.swapped
    c.if-swapped.true c.in_ok-i.ensures c.in_ok-p.ensures
    (n ∙ ap (λ (s : ℤ). added d (move_code d.frame false c.args.line x.register y.register y.type_ s (next d)) two_words) passed) v)

pub sum-returns-in_ok-i-2 : goal.sum-returns-in_ok-i-2
sum-returns-in_ok-i-2 t c =
    let d = c.expression-else-swapped-2.new.self in
    let x = c.in_ok-p-2.p in
    let y = c.in_ok-i-2.i in
    let passed : to_z w64 (of_z w64 c.args.step) ≡ c.args.step = to_z-of_z w64 c.args.step c.ranges.step in
    ok_both _ _ _ _ c.move_sum-else-swapped.ensures.code c.move_sum-else-swapped.ensures.value (λ z n v.
    lowers_sum c.args.self.now c.expression-else-swapped.new.self d c.move_sum-else-swapped.new.self (view c.args.pointer.now) (view c.args.index.now) x y z c.args.line c.args.step c.args.swapped
    c.if-swapped.false c.in_ok-p-2.ensures c.in_ok-i-2.ensures
    (n ∙ ap (λ (s : ℤ). added d (move_code d.frame false c.args.line x.register y.register y.type_ s (next d)) two_words) passed) v)

pub structure-returns-in_ok-structure-in-Assign : goal.structure-returns-in_ok-structure-in-Assign
structure-returns-in_ok-structure-in-Assign t c =
    let size = c.structure_size.ensures ∙ ap (λ a. size_of (view_structure a)) (c.deref-in-Assign-3.ensures ∙ sym c.deref-in-Assign-2.ensures) in
    let h = ok_maps _ _ _ (λ same. put_adds c.args.into c.args.at c.args.self.now c.reach.new.self c.structure-in-Assign.new.self c.put_bytes.new.self (view_place c.deref-in-Assign.result.now) c.in_ok-way-in-Assign.way (view_structure c.deref-in-Assign-2.result.now) c.in-Assign.line c.structure_size.result
    c.in_ok-way-in-Assign.ensures c.in_ok-structure-in-Assign.ensures size same) c.put_bytes.ensures in
    search (rules, h)

pub place-returns-in_ok-x-in-Pointed : goal.place-returns-in_ok-x-in-Pointed
place-returns-in_ok-x-in-Pointed t c =
    let h = c.pointed.ensures c.args.self.now c.expression.new.self c.in-Pointed.line (view c.deref.result.now) c.in_ok-x-in-Pointed.ensures in
    search (rules, h)

pub expression-returns-in_ok-x-in-PointerUpdate : goal.expression-returns-in_ok-x-in-PointerUpdate
expression-returns-in_ok-x-in-PointerUpdate t c =
    let at = c.line_of_place-at-in-PointerUpdate.ensures ∙ ap (λ p. place_line (view_place p)) (c.deref-in-PointerUpdate-3.ensures ∙ sym c.deref-in-PointerUpdate.ensures) in
    let h = c.pointer_update.ensures c.args.self.now c.reach-in-PointerUpdate.new.self (view_place c.deref-in-PointerUpdate.result.now) (view c.deref-in-PointerUpdate-2.result.now) at c.in_ok-way-in-PointerUpdate.ensures c.in_ok-x-in-PointerUpdate.ensures in
    search (rules, h)
