use Rattle.std.proofs.Common.{◌≡◌, ℕ, ◌+◌, true, false, nat_le, List, ◌∷◌, take, drop, sym, ap, subst, ◌∙◌}
use Rattle.words.specs.declared.check.Class.TheVariants.{Bounds}
use Rattle.c_types.specs.Integers.{bytes}
use Rattle.core_tree.specs.Trees.{view_place}
use Rattle.actions.specs.declared.action.Action.TheVariants.{Read}
use Rattle.actions.specs.Pointer.{offset_of}
use Rattle.c_values.specs.Numbers.{TypedNumber, typed}
use Rattle.c_values.specs.Variables.{number_of, block_of}
use Rattle.c_meaning.specs.Meaning.{place_line, size_of, variable_of}
use Rattle.c_tasks.specs.Items.{State, state}
use Rattle.c_tasks.specs.Steps.{Move, silent, breaks}
use Rattle.c_tasks.specs.Tasks.{IsAsked, with_tasks, without}
use Rattle.c_tasks.specs.Plans.{code_in, active_in, running_in, items_behind, values_on, structures_on}
use Rattle.c_plan_expr.proofs.Accesses.{asked_bytes, outside_bytes, inside_bytes}
use Rattle.c_plan_expr.proofs.places.plan_read.Goals as goal

pub returns-in-None : goal.returns-in-None
returns-in-None c = λ i.
    let l = c.args.look.now in
    let t = c.args.type_ in
    let p = view_place c.args.place.now in
    let next : List ℕ → State = λ found. state (with_tasks c.args.tasks (items_behind l)) (active_in l) (typed t (number_of t found) ∷ without c.args.taken (values_on l)) (structures_on l) l.variables.now in
    let e = asked_bytes (code_in l) l.first (active_in l) l.variables.now (variable_of (running_in l) p) c.args.at (bytes t) (place_line p) next (sym c.in-None.ensures) in
    (subst (λ (m : Move). IsAsked m (Read c.args.at c.size-count.result) c.line_of_place-line.result) (sym e) (ap (Read c.args.at) (sym c.size-count.ensures.is), sym c.line_of_place-line.ensures), tt)

pub returns : goal.returns
returns c = λ i.
    let l = c.args.look.now in
    let t = c.args.type_ in
    let p = view_place c.args.place.now in
    let v = c.in-Some.variable in
    let size = size_of (running_in l) v in
    let next : List ℕ → State = λ found. state (with_tasks c.args.tasks (items_behind l)) (active_in l) (typed t (number_of t found) ∷ without c.args.taken (values_on l)) (structures_on l) l.variables.now in
    let w : nat_le (offset_of c.args.at + bytes t) size ≡ false = ap (λ n. nat_le (offset_of c.args.at + n) size) (sym c.size-count.ensures.is) ∙ sym c.is_within.ensures ∙ c.if-is_within.false in
    (outside_bytes (code_in l) l.first (active_in l) l.variables.now (variable_of (running_in l) p) v c.args.at (bytes t) (place_line p) next (sym c.in-Some.ensures) w ∙ ap (breaks Bounds) (sym c.line_of_place-line.ensures), tt)

pub returns-then-is_within : goal.returns-then-is_within
returns-then-is_within c = λ i.
    let l = c.args.look.now in
    let t = c.args.type_ in
    let p = view_place c.args.place.now in
    let v = c.in-Some.variable in
    let size = size_of (running_in l) v in
    let next : List ℕ → State = λ found. state (with_tasks c.args.tasks (items_behind l)) (active_in l) (typed t (number_of t found) ∷ without c.args.taken (values_on l)) (structures_on l) l.variables.now in
    let w : nat_le (offset_of c.args.at + bytes t) size ≡ true = ap (λ n. nat_le (offset_of c.args.at + n) size) (sym c.size-count.ensures.is) ∙ sym c.is_within.ensures ∙ c.if-is_within.true in
    let number : c.read_number.result ≡ typed t (number_of t (take (bytes t) (drop (offset_of c.args.at) (block_of l.variables.now v)))) =
    c.read_number.ensures ∙ ap (λ o. typed t (number_of t (take (bytes t) (drop o (block_of l.variables.now v))))) c.offset_of.ensures in (
      inside_bytes (code_in l) l.first (active_in l) l.variables.now (variable_of (running_in l) p) v c.args.at (bytes t) (place_line p) next (sym c.in-Some.ensures) w
          ∙ ap (λ (n : TypedNumber). silent (state (with_tasks c.args.tasks (items_behind l)) (active_in l) (n ∷ without c.args.taken (values_on l)) (structures_on l) l.variables.now)) (sym number),
      (tt, tt),
    )
