use Rattle.std.proofs.Common.{◌≡◌, ℕ, ◌+◌, true, false, nat_le, List, ◌∷◌, take, drop, sym, ap, subst, ◌∙◌}
use Rattle.words.specs.declared.check.Class.TheVariants.{Bounds}
use Rattle.core_tree.specs.Trees.{view_place}
use Rattle.actions.specs.declared.action.Action.TheVariants.{Read}
use Rattle.actions.specs.Pointer.{offset_of}
use Rattle.c_values.specs.Variables.{block_of}
use Rattle.c_meaning.specs.Meaning.{place_line, size_of, variable_of}
use Rattle.std.proofs.lemmas.Result.{IfOk-weaker}
use Rattle.c_tasks.specs.declared.task.Plan.{Plan}
use Rattle.c_tasks.specs.Items.{top, rest, State, state, copies}
use Rattle.c_tasks.specs.Steps.{Move, silent, breaks, move_bytes}
use Rattle.c_tasks.specs.Tasks.{IsAsked}
use Rattle.c_tasks.specs.Plans.{Plans, code_in, active_in, running_in, items_behind, values_on, structures_on}
use Rattle.c_plan_expr.proofs.Accesses.{asked_bytes, outside_bytes, inside_bytes}
use Rattle.c_plan_expr.proofs.structures.plan_copy.Goals as goal

pub returns-in-None : goal.returns-in-None
returns-in-None c =
    let l = c.args.look.now in
    let n = c.args.size in
    let p = view_place c.args.place.now in
    let next : List ℕ → State = λ value. state (items_behind l) (active_in l) (rest (values_on l)) (value ∷ structures_on l) l.variables.now in
    let at = (top (values_on l)).bits in
    let e = asked_bytes (code_in l) l.first (active_in l) l.variables.now (variable_of (running_in l) p) at n (place_line p) next (sym c.in-None.ensures) in
    (subst (λ (m : Move). IsAsked m (Read c.top_bits-at.result n) c.line_of_place-line.result) (sym e) (ap (λ a. Read a n) (sym c.top_bits-at.ensures), sym c.line_of_place-line.ensures), tt)

pub returns-else-is_within : goal.returns-else-is_within
returns-else-is_within c =
    let l = c.args.look.now in
    let n = c.args.size in
    let p = view_place c.args.place.now in
    let v = c.in-Some.variable in
    let size = size_of (running_in l) v in
    let next : List ℕ → State = λ value. state (items_behind l) (active_in l) (rest (values_on l)) (value ∷ structures_on l) l.variables.now in
    let at = (top (values_on l)).bits in
    let w : nat_le (offset_of at + n) size ≡ false = ap (λ a. nat_le (offset_of a + n) size) (sym c.top_bits-at.ensures) ∙ sym c.is_within.ensures ∙ c.if-is_within.false in
    (outside_bytes (code_in l) l.first (active_in l) l.variables.now (variable_of (running_in l) p) v at n (place_line p) next (sym c.in-Some.ensures) w ∙ ap (breaks Bounds) (sym c.line_of_place-line.ensures), tt)

pub returns-then-is_within : goal.returns-then-is_within
returns-then-is_within c =
    let l = c.args.look.now in
    let n = c.args.size in
    let p = view_place c.args.place.now in
    let v = c.in-Some.variable in
    let size = size_of (running_in l) v in
    let vs = l.variables.now in
    let next : List ℕ → State = λ value. state (items_behind l) (active_in l) (rest (values_on l)) (value ∷ structures_on l) vs in
    let at = (top (values_on l)).bits in
    let w : nat_le (offset_of at + n) size ≡ true = ap (λ a. nat_le (offset_of a + n) size) (sym c.top_bits-at.ensures) ∙ sym c.is_within.ensures ∙ c.if-is_within.true in
    let m = move_bytes (code_in l) l.first true (variable_of (running_in l) p) at n (place_line p) (active_in l) vs next in
    let offset : c.offset_of.result ≡ offset_of at = c.offset_of.ensures ∙ ap offset_of c.top_bits-at.ensures in
    let moves : m ≡ silent (next (take n (drop (offset_of at) (block_of vs v)))) = inside_bytes (code_in l) l.first (active_in l) vs (variable_of (running_in l) p) v at n (place_line p) next (sym c.in-Some.ensures) w in
    let placed : m ≡ silent (next (take n (drop c.offset_of.result (block_of vs v)))) = moves ∙ ap (λ o. silent (next (take n (drop o (block_of vs v))))) (sym offset) in
    IfOk-weaker c.plan_copied.result _ (λ (plan : Plan). Plans l (copies p n) m plan) (λ plan e. subst (λ (plan : Plan). Plans l (copies p n) m plan) (sym e) (placed, (tt, tt))) c.plan_copied.ensures
