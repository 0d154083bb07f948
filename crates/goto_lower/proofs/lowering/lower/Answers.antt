use Rattle.std.proofs.Common.{◌≡◌, ◌+◌, ◌<◌, ◌^◌, true, List, length, rules, ap, sym, subst, ◌∙◌, arith}
use Rattle.std.proofs.lemmas.List.{length-map}
use Rattle.core_tree.specs.declared.functions.Function.{Function}
use Rattle.core_tree.specs.declared.functions.Literal.{Literal}
use Rattle.core_tree.specs.Trees.{CoreFile, view_static, view_function, view_functions, view_core}
use Rattle.core_tree.specs.Typed.{are_typed, have_small}
use Rattle.actions.specs.Behaviour.{Thread}
use Rattle.c_meaning.specs.Source.{main_number, source_thread}
use Rattle.goto_prog.specs.Nodes.{Routine, view_procedure, view_procedures, routines_fit}
use Rattle.goto_prog.specs.Structured.{function_thread}
use Rattle.goto_prog.specs.GotoThreads.{GotoFile, strict_thread}
use Rattle.goto_prog.specs.Same.{DoSame}
use Rattle.goto_prog.specs.Static.{are_static}
use Rattle.lowered_code.specs.Lowered.{first_literal, function_codes}
use Rattle.lowered_code.proofs.SameThread.{main_below, codes_length, same_thread}
use Rattle.lowered_code.proofs.CodeFits.{codes_fit}
use Rattle.lowered_code.proofs.StaticCode.{codes_static}
use Rattle.goto_lower.proofs.lowering.lower.Goals as goal

pub overflow_cast-main : goal.overflow_cast-main
overflow_cast-main c =
    let file = c.args.file.now in
    let same = c.functions-functions.ensures.is ∙ ap (λ (f : CoreFile). f.functions) c.core-core.ensures.is in
    let main = c.number_of_main-main.ensures ∙ ap (λ (fs : List Function). main_number (view_functions fs)) same in
    let few : length file.functions < 2 ^ 31 = subst (λ (f : CoreFile). length f.functions < 2 ^ 31) c.core-core.ensures.is c.functions-functions.ensures.few in
    let below = main_below (view_core file) c.core-core.ensures.admitted in
    let long : length (view_functions file.functions) ≡ length file.functions = length-map file.functions view_function in
    let small : c.number_of_main-main.result < 2 ^ 32 = omega (arith, main, few, below, long) in
    search (rules, small)

pub new-requires : goal.new-requires
new-requires c =
    let file = c.args.file.now in
    let first = first_literal (view_core file) in
    let same = c.functions-functions.ensures.is ∙ ap (λ (f : CoreFile). f.functions) c.core-core.ensures.is in
    let main = c.number_of_main-main.ensures ∙ ap (λ (fs : List Function). main_number (view_functions fs)) same in
    let objects : length c.objects.result.now ≡ length file.objects = ap length (c.objects.ensures.is ∙ ap (λ (f : CoreFile). f.objects) c.core-core.ensures.is) in
    let literal : length c.objects.result.now + 1 ≡ first = omega (arith, objects, length-map file.objects view_static) in
    let codes = c.in_ok-procedures.ensures ∙ (λ i. function_codes (literal i) 0 (view_functions (same i))) in
    let below = main_below (view_core file) c.core-core.ensures.admitted in
    let made : length (view_procedures c.in_ok-procedures.procedures.items) ≡ length c.in_ok-procedures.procedures.items = length-map c.in_ok-procedures.procedures.items view_procedure in
    let typed : are_typed (view_core file) ≡ true = subst (λ (f : CoreFile). are_typed (view_core f) ≡ true) c.core-core.ensures.is c.functions-functions.ensures.typed in
    let small : have_small (view_core file).functions ≡ true = subst (λ (f : CoreFile). have_small (view_core f).functions ≡ true) c.core-core.ensures.is c.functions-functions.ensures.small in
    let objects_here : length file.objects < 2 ^ 31 = subst (λ (f : CoreFile). length f.objects < 2 ^ 31) c.core-core.ensures.is c.objects.ensures.few in
    let few_objects : length (view_core file).objects < 2 ^ 31 = omega (arith, objects_here, length-map file.objects view_static) in
    let literals_here : length file.literals < 2 ^ 31 = subst (λ (f : CoreFile). length f.literals < 2 ^ 31) c.core-core.ensures.is c.literals-literals.ensures.few in
    let few_literals : length (view_core file).literals < 2 ^ 31 = omega (arith, literals_here, length-map file.literals (λ (l : Literal). l.bytes.items)) in
    record {
      within = omega (arith, main, below, made, ap length codes, codes_length first 0 (view_functions file.functions));
      fits = subst (λ (rs : List Routine). routines_fit rs ≡ true) (sym codes) (codes_fit (view_core file) typed small few_objects few_literals);
    }

pub returns-clause-plain : goal.returns-clause-plain
returns-clause-plain c =
    let file = c.args.file.now in
    let same = c.functions-functions.ensures.is ∙ ap (λ (f : CoreFile). f.functions) c.core-core.ensures.is in
    let objects : length c.objects.result.now ≡ length file.objects = ap length (c.objects.ensures.is ∙ ap (λ (f : CoreFile). f.objects) c.core-core.ensures.is) in
    let literal : length c.objects.result.now + 1 ≡ first_literal (view_core file) = omega (arith, objects, length-map file.objects view_static) in
    let codes = ap (λ (g : GotoFile). view_procedures g.functions) c.new.ensures ∙ c.in_ok-procedures.ensures ∙ (λ i. function_codes (literal i) 0 (view_functions (same i))) in
    let typed : are_typed (view_core file) ≡ true = subst (λ (f : CoreFile). are_typed (view_core f) ≡ true) c.core-core.ensures.is c.functions-functions.ensures.typed in
    λ none. subst (λ (rs : List Routine). are_static rs ≡ true) (sym codes) (codes_static (view_core file) none typed)

pub returns-clause-same : goal.returns-clause-same
returns-clause-same c =
    let file = c.args.file.now in
    let same = c.functions-functions.ensures.is ∙ ap (λ (f : CoreFile). f.functions) c.core-core.ensures.is in
    let main = c.number_of_main-main.ensures ∙ ap (λ (fs : List Function). main_number (view_functions fs)) same in
    let objects : length c.objects.result.now ≡ length file.objects = ap length (c.objects.ensures.is ∙ ap (λ (f : CoreFile). f.objects) c.core-core.ensures.is) in
    let literal : length c.objects.result.now + 1 ≡ first_literal (view_core file) = omega (arith, objects, length-map file.objects view_static) in
    let codes = c.in_ok-procedures.ensures ∙ (λ i. function_codes (literal i) 0 (view_functions (same i))) in
    let typed : are_typed (view_core file) ≡ true = subst (λ (f : CoreFile). are_typed (view_core f) ≡ true) c.core-core.ensures.is c.functions-functions.ensures.typed in
    let small : have_small (view_core file).functions ≡ true = subst (λ (f : CoreFile). have_small (view_core f).functions ≡ true) c.core-core.ensures.is c.functions-functions.ensures.small in
    λ bounds few.
    (let thread : strict_thread c.new.result bounds ≡ function_thread (record { strict = true; functions = function_codes (first_literal (view_core file)) 0 (view_functions file.functions); limits = bounds }) true (main_number (view_functions file.functions)) =
    (λ i. strict_thread (c.new.ensures i) bounds) ∙ (λ i. function_thread (record { strict = true; functions = codes i; limits = bounds }) true (main i)) in
    subst (λ (t : Thread). DoSame t (source_thread (view_core file) bounds)) (sym thread) (same_thread (view_core file) c.core-core.ensures.admitted typed small bounds few))
