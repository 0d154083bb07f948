-- The codes of functions, one after the other.
use Rattle.std.proofs.Common.{◌≡◌, ℕ, ◌+◌, ◌<◌, ◌≤◌, List, [], ◌∷◌, ◌++◌, length, drop, get_or, Option, refl, sym, ap, ◌∙◌, append_assoc, append-nil, add-one}
use Rattle.std.proofs.lemmas.List.{drop_all}
use Rattle.std.proofs.Math.Seq.{drop-cons}
use Rattle.core_tree.specs.declared.functions.Function.{Function}
use Rattle.core_tree.specs.Trees.{Procedure, Statement, view_function, view_functions}
use Rattle.goto_prog.specs.declared.nodes.Procedure as nodes
use Rattle.goto_prog.specs.Nodes.{Routine, view_procedure, view_procedures}
use Rattle.lowered_code.specs.Lowered.{code_by, function_code, function_codes}

views_append : (ps qs : List nodes.Procedure) → view_procedures (ps ++ qs) ≡ view_procedures ps ++ view_procedures qs
views_append [] qs = refl
views_append (p ∷ ps) qs = ap (λ (rs : List Routine). view_procedure p ∷ rs) (views_append ps qs)

-- with a body, and without one
pub by_body : (literals n : ℕ) (f : Procedure) (body : Option Statement) (r : Routine) → f.body ≡ body → r ≡ code_by literals n f body → r ≡ function_code literals n f
by_body literals n f body r is same = same ∙ ap (λ b. code_by literals n f b) (sym is)

pub next_code : (literals : ℕ) (fs : List Function) (n : ℕ) (f : Function) (done more : List nodes.Procedure) (p : nodes.Procedure) (all : List Routine)
    → n < length fs → f ≡ get_or fs n f → view_procedure p ≡ function_code literals n (view_function f) → more ≡ done ++ p ∷ []
    → view_procedures done ++ function_codes literals n (view_functions (drop n fs)) ≡ all
    → view_procedures more ++ function_codes literals (n + 1) (view_functions (drop (n + 1) fs)) ≡ all
next_code literals fs n f done more p all lt is_f is_code is_more so_far =
    let rest = function_codes literals (n + 1) (view_functions (drop (n + 1) fs)) in
    let front : drop n fs ≡ f ∷ drop (n + 1) fs = drop-cons fs n f lt ∙ (λ i. sym is_f i ∷ drop (sym (add-one n) i) fs) in
    ap (λ ps. view_procedures ps ++ rest) is_more
    ∙ ap (λ rs. rs ++ rest) (views_append done (p ∷ []))
    ∙ append_assoc (view_procedures done) (view_procedure p ∷ []) rest
    ∙ (λ i. view_procedures done ++ is_code i ∷ rest)
    ∙ sym (λ i. view_procedures done ++ function_codes literals n (view_functions (front i)))
    ∙ so_far

pub no_codes : (literals : ℕ) (fs : List Function) (n : ℕ) (done : List nodes.Procedure) (all : List Routine) → length fs ≤ n → view_procedures done ++ function_codes literals n (view_functions (drop n fs)) ≡ all → view_procedures done ≡ all
no_codes literals fs n done all past so_far =
    let none : drop n fs ≡ [] = drop_all n fs past in
    sym (append-nil (view_procedures done)) ∙ sym (λ i. view_procedures done ++ function_codes literals n (view_functions (none i))) ∙ so_far
