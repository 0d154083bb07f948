use Rattle.std.proofs.Common.{◌≡◌, true, ℕ, List, ◌∷◌, ◌++◌, [], ap, sym, subst, ◌∙◌}
use Rattle.std.specs.Prelude.{IfOk}
use Rattle.c_values.specs.Variables.{Variables}
use Rattle.c_values.specs.Numbers.{TypedNumber}
use Rattle.c_tasks.specs.Items.{active, running_of, Item, state}
use Rattle.c_tasks.specs.Steps.{move}
use Rattle.c_interp.specs.View.{file_of, code_under}
use Rattle.c_tasks.specs.Fits.{fits, variables_at, types_of, sizes_of}
use Rattle.c_tasks.specs.Tasks.{items_in, item_of, values_in, structures_in, IsPlan, WritesWithin}
use Rattle.c_tasks.proofs.Tops.{items_push}
use Rattle.c_interp.proofs.thread.Thread.plan.Goals as goal

pub plan_task-requires-clause-fits : goal.plan_task-requires-clause-fits
plan_task-requires-clause-fits c =
    let s = c.args.self.now in
    let b = c.in-Some.behind.now in
    let t = c.in-Some.task.now in
    let split : s.tasks.items ≡ b ++ t ∷ [] = sym c.as_slice.ensures.value ∙ c.in-Some.ensures.cases.0 in
    let e : items_in s.tasks.items ≡ item_of t ∷ items_in b = ap items_in split ∙ items_push b t in
    let P : List Item → Type 0 = λ is. fits (file_of s) is s.function (types_of (values_in s.numbers.items)) (sizes_of (structures_in s.structures.items)) ≡ true in
    let Q : List TypedNumber → Type 0 = λ xs. fits (file_of s) (item_of t ∷ items_in b) s.function (types_of (values_in xs)) (sizes_of (structures_in s.structures.items)) ≡ true in
    let R : List (List ℕ) → Type 0 = λ bs. fits (file_of s) (item_of t ∷ items_in b) s.function (types_of (values_in c.as_slice-in-Some-2.result.now)) (sizes_of (structures_in bs)) ≡ true in
    subst R (sym c.as_slice-in-Some-3.ensures.value) (subst Q (sym c.as_slice-in-Some-2.ensures.value) (subst P e s.typed))

pub returns-in-Some : goal.returns-in-Some
returns-in-Some c =
    let s = c.args.self.now in
    let b = c.in-Some.behind.now in
    let t = c.in-Some.task.now in
    let split : s.tasks.items ≡ b ++ t ∷ [] = sym c.as_slice.ensures.value ∙ c.in-Some.ensures.cases.0 in
    let e : items_in s.tasks.items ≡ item_of t ∷ items_in b = ap items_in split ∙ items_push b t in
    let P : List Item → List ℕ → List TypedNumber → List (List ℕ) → Variables → Type 0 =
    λ is left xs bs vs. IfOk c.plan_task.result (λ p. IsPlan (file_of s) (running_of (code_under s) (active s.function left)) is (active s.function left) (values_in xs) (structures_in bs) vs (move (code_under s) s.first true (state is (active s.function left) (values_in xs) (structures_in bs) vs)) p
    × WritesWithin (variables_at (file_of s) s.function) (structures_in bs) p) in
    let first : P (item_of t ∷ items_in b) c.as_slice-in-Some.result.now c.as_slice-in-Some-2.result.now c.as_slice-in-Some-3.result.now c.as_slice-in-Some-4.result.now = c.plan_task.ensures in
    let second = subst (P (item_of t ∷ items_in b) c.as_slice-in-Some.result.now c.as_slice-in-Some-2.result.now c.as_slice-in-Some-3.result.now) c.as_slice-in-Some-4.ensures.value first in
    let third = subst (λ bs. P (item_of t ∷ items_in b) c.as_slice-in-Some.result.now c.as_slice-in-Some-2.result.now bs s.variables.items) c.as_slice-in-Some-3.ensures.value second in
    let fourth = subst (λ xs. P (item_of t ∷ items_in b) c.as_slice-in-Some.result.now xs s.structures.items s.variables.items) c.as_slice-in-Some-2.ensures.value third in
    let fifth = subst (λ left. P (item_of t ∷ items_in b) left s.numbers.items s.structures.items s.variables.items) c.as_slice-in-Some.ensures.value fourth in
    subst (λ is. P is s.left.items s.numbers.items s.structures.items s.variables.items) (sym e) fifth
