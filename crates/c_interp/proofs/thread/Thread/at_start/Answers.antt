use Rattle.std.proofs.Common.{◌≡◌, ◌≤◌, ◌^◌, true, ℕ, List, [], ◌∷◌, slice_get, refl, ap, sym, subst, ◌∙◌, rules, arith}
use Rattle.core_tree.specs.Trees.{core_file, view_core, view_function, no_argument}
use Rattle.c_values.specs.Variables.{Variables, first_variables}
use Rattle.c_values.specs.Numbers.{TypedNumber}
use Rattle.c_meaning.specs.Meaning as meaning
use Rattle.c_meaning.specs.Meaning.{total, variables_of}
use Rattle.c_meaning.specs.Source.{first_left}
use Rattle.c_tasks.specs.Items.{active, state, Item, wants_end, gathers}
use Rattle.c_tasks.specs.Fits.{fits, types_of, sizes_of}
use Rattle.c_tasks.specs.Tasks.{items_in, values_in, structures_in, open_in}
use Rattle.c_interp.specs.SourceThread.{thread_in}
use Rattle.c_interp.specs.View.{thread_of}
use Rattle.c_interp.specs.Keeps.{holds_bytes}
use Rattle.c_interp.specs.inner.Blocks.{first_blocks, all_held}
use Rattle.c_interp.specs.inner.FirstStates.{start_fits, start_sized}
use Rattle.c_interp.proofs.thread.Thread.at_start.Goals as goal

pub invariant_of-result-clause-typed : goal.invariant_of-result-clause-typed
invariant_of-result-clause-typed c =
    let file = view_core (core_file c.args.functions.now c.args.objects.now c.args.literals.now c.args.pointers) in
    let f = c.args.function in
    let begin = gathers (wants_end c.args.body.now.line) f 0 no_argument in
    let items : items_in c.push.new.self.items ≡ begin ∷ [] = search rules in
    let numbers : c.new.result.items ≡ [] = search rules in
    let structures : c.new-2.result.items ≡ [] = search rules in
    let P : List Item → List TypedNumber → List (List ℕ) → Type 0 = λ is xs bs. fits file is f (types_of (values_in xs)) (sizes_of (structures_in bs)) ≡ true in
    let first : P (begin ∷ []) [] [] = start_fits file f (view_function c.args.body.now) c.requires.body c.args.body.now.line in
    subst (P (items_in c.push.new.self.items) c.new.result.items) (sym structures) (subst (λ xs. P (items_in c.push.new.self.items) xs []) (sym numbers) (subst (λ is. P is [] []) (sym items) first))

pub invariant_of-result-clause-sized : goal.invariant_of-result-clause-sized
invariant_of-result-clause-sized c =
    let file = view_core (core_file c.args.functions.now c.args.objects.now c.args.literals.now c.args.pointers) in
    let made : c.add_variables.new.blocks.items ≡ first_variables (meaning.sizes_of c.args.body.now.variables.items) = search rules in
    ap (λ (vs : Variables). sizes_of vs) made ∙ start_sized file c.args.function (view_function c.args.body.now) c.requires.body

pub invariant_of-result-clause-counted : goal.invariant_of-result-clause-counted
invariant_of-result-clause-counted c =
    let items : items_in c.push.new.self.items ≡ gathers (wants_end c.args.body.now.line) c.args.function 0 no_argument ∷ [] = search rules in
    let few : total c.in_ok-left.left.items ≤ 2 ^ 42 = search rules in
    omega (arith, few, ap open_in items)

pub returns : goal.returns
unfolding thread_of
returns c =
    let file = view_core (core_file c.args.functions.now c.args.objects.now c.args.literals.now c.args.pointers) in
    let f = c.args.function in
    let items : items_in c.push.new.self.items ≡ gathers (wants_end c.args.body.now.line) f 0 no_argument ∷ [] = search rules in
    let numbers : c.new.result.items ≡ [] = search rules in
    let structures : c.new-2.result.items ≡ [] = search rules in
    let made : c.add_variables.new.blocks.items ≡ first_variables (meaning.sizes_of (variables_of (slice_get file.functions f))) = search rules in
    let left : c.in_ok-left.left.items ≡ first_left file.functions c.args.bounds.now = search rules in
    λ i. thread_in file c.args.bounds.now c.args.startable c.args.first (state (items i) (active f (left i)) (values_in (numbers i)) (structures_in (structures i)) (made i))

pub invariant_of-result-clause-held : goal.invariant_of-result-clause-held
invariant_of-result-clause-held c =
    let begin = gathers (wants_end c.args.body.now.line) c.args.function 0 no_argument in
    let sizes = meaning.sizes_of c.args.body.now.variables.items in
    let items : items_in c.push.new.self.items ≡ begin ∷ [] = search rules in
    let structures : c.new-2.result.items ≡ [] = search rules in
    let made : c.add_variables.new.blocks.items ≡ first_variables sizes = search rules in
    let first : holds_bytes (begin ∷ []) [] (first_variables sizes) ≡ true = all_held (begin ∷ []) [] (first_variables sizes) refl (first_blocks sizes) refl in
    (λ i. holds_bytes (items i) (structures_in (structures i)) (made i)) ∙ first
