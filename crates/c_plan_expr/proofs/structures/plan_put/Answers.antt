use Rattle.std.proofs.Common.{◌≡◌, ◌+◌, true, false, nat_le, length, refl, sym, ap, subst, ◌∙◌}
use Rattle.core_tree.specs.Trees.{view_place}
use Rattle.core_tree.specs.Typed.{is_within}
use Rattle.actions.specs.declared.action.Action.TheVariants.{Write}
use Rattle.actions.specs.Pointer.{offset_of}
use Rattle.c_values.specs.Variables.{Variables, put_bytes}
use Rattle.c_meaning.specs.Meaning.{size_of, variable_of}
use Rattle.c_tasks.specs.declared.task.Plan.{Plan}
use Rattle.c_tasks.specs.Items.{top, rest, top_bytes, State, state, stores_structure}
use Rattle.c_tasks.specs.Fits.{sizes_of, top_size, variables_at}
use Rattle.c_tasks.specs.Steps.{Move, silent, move_put}
use Rattle.c_tasks.specs.Tasks.{IsAsked}
use Rattle.c_tasks.specs.Plans.{Plans, file_in, code_in, active_in, running_in, items_behind, values_on, structures_on}
use Rattle.c_tasks.proofs.FitParts.{structure_place, structure_there}
use Rattle.c_plan_expr.proofs.Accesses.{asked_put, outside_put, inside_put, bytes_lie}
use Rattle.c_plan_expr.proofs.structures.plan_put.Goals as goal

pub returns-in-None : goal.returns-in-None
returns-in-None c =
    let l = c.args.look.now in
    let p = view_place c.args.place.now in
    let new = top_bytes (structures_on l) in
    let next : Variables → State = λ now. state (items_behind l) (active_in l) (rest (values_on l)) (structures_on l) now in
    let at = (top (values_on l)).bits in
    let e = asked_put (code_in l) l.first (active_in l) l.variables.now (variable_of (running_in l) p) at new c.args.line next (sym c.in-None.ensures) in
    (subst (λ (m : Move). IsAsked m (Write c.top_bits-at.result new false) c.args.line) (sym e) (ap (λ a. Write a new false) (sym c.top_bits-at.ensures), refl), tt)

pub returns-else-is_within : goal.returns-else-is_within
returns-else-is_within c =
    let l = c.args.look.now in
    let p = view_place c.args.place.now in
    let v = c.in-Some.variable in
    let size = size_of (running_in l) v in
    let new = top_bytes (structures_on l) in
    let next : Variables → State = λ now. state (items_behind l) (active_in l) (rest (values_on l)) (structures_on l) now in
    let at = (top (values_on l)).bits in
    let w : nat_le (offset_of at + length new) size ≡ false =
    ap (λ a. nat_le (offset_of a + length new) size) (sym c.top_bits-at.ensures) ∙ ap (λ n. nat_le (offset_of c.top_bits-at.result + n) size) (sym c.size_of_top.ensures) ∙ sym c.is_within.ensures ∙ c.if-is_within.false in
    (outside_put (code_in l) l.first (active_in l) l.variables.now (variable_of (running_in l) p) v at new c.args.line next (sym c.in-Some.ensures) w, tt)

pub returns-then-is_within : goal.returns-then-is_within
returns-then-is_within c =
    let l = c.args.look.now in
    let p = view_place c.args.place.now in
    let v = c.in-Some.variable in
    let size = size_of (running_in l) v in
    let bs = structures_on l in
    let new = top_bytes bs in
    let vs = l.variables.now in
    let next : Variables → State = λ now. state (items_behind l) (active_in l) (rest (values_on l)) bs now in
    let at = (top (values_on l)).bits in
    let w : nat_le (offset_of at + length new) size ≡ true =
    ap (λ a. nat_le (offset_of a + length new) size) (sym c.top_bits-at.ensures) ∙ ap (λ n. nat_le (offset_of c.top_bits-at.result + n) size) (sym c.size_of_top.ensures) ∙ sym c.is_within.ensures ∙ c.if-is_within.true in
    let m = move_put (code_in l) l.first true (variable_of (running_in l) p) at new c.args.line (active_in l) vs next in
    let offset : c.offset_of.result ≡ offset_of at = c.offset_of.ensures ∙ ap offset_of c.top_bits-at.ensures in
    let moves : m ≡ silent (next (put_bytes vs v (offset_of at) new)) = inside_put (code_in l) l.first (active_in l) vs (variable_of (running_in l) p) v at new c.args.line next (sym c.in-Some.ensures) w in
    let placed : m ≡ silent (next (put_bytes vs v c.offset_of.result new)) = moves ∙ ap (λ o. silent (next (put_bytes vs v o new))) (sym offset) in
    let place = structure_place (file_in l) l.function (items_behind l) (values_on l) (sizes_of bs) c.args.line p c.requires in
    let there = structure_there (file_in l) l.function (items_behind l) (values_on l) (sizes_of bs) c.args.line p c.requires in
    let lies : is_within (variables_at (file_in l) l.function) v (offset_of at) (length new) ≡ true = bytes_lie l p (top_size (sizes_of bs)) v (offset_of at) (length new) place (sym c.in-Some.ensures) w in
    let here = ap (λ o. is_within (variables_at (file_in l) l.function) v o (length new)) offset ∙ lies in
    subst (λ (plan : Plan). Plans l (stores_structure c.args.line p) m plan) (sym c.plan_placed.ensures) (placed, (tt, (there, here)))
