-- The largest of sizes, by one more.
use Rattle.std.proofs.Common.{◌≡◌, ℕ, ◌+◌, ◌<◌, ◌≤◌, List, drop, length, get_or, sym, ap, ◌∙◌, arith}
use Rattle.std.specs.Prelude.{max, min}
use Rattle.std.proofs.lemmas.List.{drop_more, drop_all}
use Rattle.core_tree.specs.declared.functions.Function.{Function}
use Rattle.core_tree.specs.declared.functions.Literal.{Literal}
use Rattle.core_tree.specs.declared.functions.StaticObject.{StaticObject}
use Rattle.core_tree.specs.declared.functions.Variable.{Variable}
use Rattle.core_tree.specs.Trees.{view_function, view_functions, view_statics, view_literals}
use Rattle.core_tree.specs.Typed.{sizes_of_variables, sizes_of_objects}
use Rattle.goto_unwind.specs.Counts.{largest, variable_bytes, sizes_of_literals}

larger : (most size rest all : ℕ) → max most (max size rest) ≡ all → max (max most size) rest ≡ all
larger most size rest all same = omega (arith, same)

pub variable_more : (vs : List Variable) (n : ℕ) (v : Variable) (most all : ℕ) → n < length vs → v ≡ get_or vs n v → max most (largest (sizes_of_variables (drop n vs))) ≡ all → max (max most v.size) (largest (sizes_of_variables (drop (n + 1) vs))) ≡ all
variable_more vs n v most all within found so_far =
    let rest = largest (sizes_of_variables (drop (n + 1) vs)) in
    let front : largest (sizes_of_variables (drop n vs)) ≡ max v.size rest =
    ap (λ xs. largest (sizes_of_variables xs)) (drop_more vs n v within)
    ∙ ap (λ (w : Variable). max w.size rest) (sym found) in
    larger most v.size rest all (sym (ap (λ x. max most x) front) ∙ so_far)

pub variables_whole : (vs : List Variable) (n most all : ℕ) → length vs ≤ n → max most (largest (sizes_of_variables (drop n vs))) ≡ all → most ≡ all
variables_whole vs n most all past so_far =
    let none : largest (sizes_of_variables (drop n vs)) ≡ 0 = ap (λ xs. largest (sizes_of_variables xs)) (drop_all n vs past) in
    omega (arith, none, so_far)

pub function_more : (fs : List Function) (n : ℕ) (f : Function) (most size all : ℕ) → n < length fs → f ≡ get_or fs n f → size ≡ largest (sizes_of_variables (view_function f).variables)
    → max most (variable_bytes (view_functions (drop n fs))) ≡ all → max (max most size) (variable_bytes (view_functions (drop (n + 1) fs))) ≡ all
function_more fs n f most size all within found is so_far =
    let rest = variable_bytes (view_functions (drop (n + 1) fs)) in
    let front : variable_bytes (view_functions (drop n fs)) ≡ max size rest =
    ap (λ xs. variable_bytes (view_functions xs)) (drop_more fs n f within)
    ∙ ap (λ (g : Function). max (largest (sizes_of_variables (view_function g).variables)) rest) (sym found)
    ∙ ap (λ x. max x rest) (sym is) in
    larger most size rest all (sym (ap (λ x. max most x) front) ∙ so_far)

pub functions_whole : (fs : List Function) (n most all : ℕ) → length fs ≤ n → max most (variable_bytes (view_functions (drop n fs))) ≡ all → most ≡ all
functions_whole fs n most all past so_far =
    let none : variable_bytes (view_functions (drop n fs)) ≡ 0 = ap (λ xs. variable_bytes (view_functions xs)) (drop_all n fs past) in
    omega (arith, none, so_far)

pub static_more : (os : List StaticObject) (n : ℕ) (o : StaticObject) (most all : ℕ) → n < length os → o ≡ get_or os n o
    → max most (largest (sizes_of_objects (view_statics (drop n os)))) ≡ all → max (max most o.size) (largest (sizes_of_objects (view_statics (drop (n + 1) os)))) ≡ all
static_more os n o most all within found so_far =
    let rest = largest (sizes_of_objects (view_statics (drop (n + 1) os))) in
    let front : largest (sizes_of_objects (view_statics (drop n os))) ≡ max o.size rest =
    ap (λ xs. largest (sizes_of_objects (view_statics xs))) (drop_more os n o within)
    ∙ ap (λ (p : StaticObject). max p.size rest) (sym found) in
    larger most o.size rest all (sym (ap (λ x. max most x) front) ∙ so_far)

pub statics_whole : (os : List StaticObject) (n most all : ℕ) → length os ≤ n → max most (largest (sizes_of_objects (view_statics (drop n os)))) ≡ all → most ≡ all
statics_whole os n most all past so_far =
    let none : largest (sizes_of_objects (view_statics (drop n os))) ≡ 0 = ap (λ xs. largest (sizes_of_objects (view_statics xs))) (drop_all n os past) in
    omega (arith, none, so_far)

-- of literals no more bytes count than one more than an object may have
larger_cut : (most size rest all text : ℕ) → text ≡ min size 65536 → min (max most (max (size + 1) rest)) 65537 ≡ all → min (max (max most (text + 1)) rest) 65537 ≡ all
larger_cut most size rest all text is same = omega (arith, is, same)

pub literal_more : (ls : List Literal) (n : ℕ) (l : Literal) (most text all : ℕ) → n < length ls → l ≡ get_or ls n l → text ≡ min (length l.bytes.items) 65536
    → min (max most (largest (sizes_of_literals (view_literals (drop n ls))))) 65537 ≡ all → min (max (max most (text + 1)) (largest (sizes_of_literals (view_literals (drop (n + 1) ls))))) 65537 ≡ all
literal_more ls n l most text all within found is so_far =
    let rest = largest (sizes_of_literals (view_literals (drop (n + 1) ls))) in
    let front : largest (sizes_of_literals (view_literals (drop n ls))) ≡ max (length l.bytes.items + 1) rest =
    ap (λ xs. largest (sizes_of_literals (view_literals xs))) (drop_more ls n l within)
    ∙ ap (λ (k : Literal). max (length k.bytes.items + 1) rest) (sym found) in
    larger_cut most (length l.bytes.items) rest all text is (sym (ap (λ x. min (max most x) 65537) front) ∙ so_far)

pub literals_whole : (ls : List Literal) (n most all : ℕ) → length ls ≤ n → most ≤ 65537 → min (max most (largest (sizes_of_literals (view_literals (drop n ls))))) 65537 ≡ all → most ≡ all
literals_whole ls n most all past few so_far =
    let none : largest (sizes_of_literals (view_literals (drop n ls))) ≡ 0 = ap (λ xs. largest (sizes_of_literals (view_literals xs))) (drop_all n ls past) in
    omega (arith, none, few, so_far)
