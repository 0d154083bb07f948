use Rattle.std.proofs.Common.{◌≡◌, ◌+◌, true, false, nat_le, ◌∷◌, length, refl, sym, ap, subst, ◌∙◌}
use Rattle.c_types.specs.Integers.{bytes}
use Rattle.core_tree.specs.Trees.{view_place}
use Rattle.core_tree.specs.Typed.{is_within}
use Rattle.actions.specs.declared.action.Action.TheVariants.{Write}
use Rattle.actions.specs.Pointer.{offset_of}
use Rattle.c_values.specs.Numbers.{typed}
use Rattle.c_values.specs.Variables.{Variables, low_bytes, put_bytes}
use Rattle.c_meaning.specs.Meaning.{size_of, variable_of}
use Rattle.c_tasks.specs.declared.task.Plan.{Plan}
use Rattle.c_tasks.specs.Items.{top, State, state}
use Rattle.c_tasks.specs.Fits.{variables_at}
use Rattle.c_tasks.specs.Steps.{Move, silent, move_write}
use Rattle.c_tasks.specs.Tasks.{IsAsked, without}
use Rattle.c_tasks.specs.Plans.{Plans, file_in, code_in, active_in, running_in, items_behind, values_on, structures_on}
use Rattle.c_tasks.proofs.Sizes.{number_bytes, few_bytes}
use Rattle.c_plan_expr.proofs.Accesses.{asked_put, outside_put, inside_put, bytes_lie}
use Rattle.c_plan_expr.proofs.places.plan_write.Goals as goal

pub returns-in-None : goal.returns-in-None
returns-in-None c = λ i.
    let l = c.args.look.now in
    let t = c.args.type_ in
    let p = view_place c.args.place.now in
    let x = (top (values_on l)).bits in
    let next : Variables → State = λ now. state (items_behind l) (active_in l) (typed t x ∷ without c.args.taken (values_on l)) (structures_on l) now in
    let e = asked_put (code_in l) l.first (active_in l) l.variables.now (variable_of (running_in l) p) c.args.at (low_bytes (bytes t) x) c.args.line next (sym c.in-None.ensures) in
    (subst (λ (m : Move). IsAsked m (Write c.args.at (low_bytes (bytes t) x) false) c.args.line) (sym e) (refl, refl), tt)

pub returns-else-is_within : goal.returns-else-is_within
returns-else-is_within c = λ i.
    let l = c.args.look.now in
    let t = c.args.type_ in
    let p = view_place c.args.place.now in
    let x = (top (values_on l)).bits in
    let v = c.in-Some.variable in
    let size = size_of (running_in l) v in
    let next : Variables → State = λ now. state (items_behind l) (active_in l) (typed t x ∷ without c.args.taken (values_on l)) (structures_on l) now in
    let w : nat_le (offset_of c.args.at + length (low_bytes (bytes t) x)) size ≡ false =
    ap (λ n. nat_le (offset_of c.args.at + n) size) (number_bytes t x ∙ sym c.size-count.ensures.is) ∙ sym c.is_within.ensures ∙ c.if-is_within.false in
    (outside_put (code_in l) l.first (active_in l) l.variables.now (variable_of (running_in l) p) v c.args.at (low_bytes (bytes t) x) c.args.line next (sym c.in-Some.ensures) w, tt)

pub returns-then-is_within : goal.returns-then-is_within
returns-then-is_within c = λ i.
    let l = c.args.look.now in
    let t = c.args.type_ in
    let p = view_place c.args.place.now in
    let x = (top (values_on l)).bits in
    let v = c.in-Some.variable in
    let size = size_of (running_in l) v in
    let vs = l.variables.now in
    let next : Variables → State = λ now. state (items_behind l) (active_in l) (typed t x ∷ without c.args.taken (values_on l)) (structures_on l) now in
    let here : nat_le (offset_of c.args.at + bytes t) size ≡ true = ap (λ n. nat_le (offset_of c.args.at + n) size) (sym c.size-count.ensures.is) ∙ sym c.is_within.ensures ∙ c.if-is_within.true in
    let w : nat_le (offset_of c.args.at + length (low_bytes (bytes t) x)) size ≡ true = ap (λ n. nat_le (offset_of c.args.at + n) size) (number_bytes t x) ∙ here in
    let m = move_write (code_in l) l.first true t p c.args.at c.args.line x (active_in l) vs next in
    let moves : m ≡ silent (next (put_bytes vs v (offset_of c.args.at) (low_bytes (bytes t) x))) =
    inside_put (code_in l) l.first (active_in l) vs (variable_of (running_in l) p) v c.args.at (low_bytes (bytes t) x) c.args.line next (sym c.in-Some.ensures) w in
    let placed : m ≡ silent (next (put_bytes vs v c.offset_of.result (low_bytes (bytes t) x))) = moves ∙ ap (λ o. silent (next (put_bytes vs v o (low_bytes (bytes t) x)))) (sym c.offset_of.ensures) in
    let lies : is_within (variables_at (file_in l) l.function) v (offset_of c.args.at) (bytes t) ≡ true = bytes_lie l p (bytes t) v (offset_of c.args.at) (bytes t) c.requires.within (sym c.in-Some.ensures) here in
    let there = ap (λ o. is_within (variables_at (file_in l) l.function) v o (bytes t)) c.offset_of.ensures ∙ lies in
    subst (λ (plan : Plan). Plans l i m plan) (sym c.plan_written.ensures) (placed, (tt, (there, few_bytes t)))
