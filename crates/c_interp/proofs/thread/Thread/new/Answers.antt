use Rattle.std.proofs.Common.{◌≡◌, ◌<◌, true, ap, ◌∙◌, length, arith}
use Rattle.std.proofs.lemmas.List.{length-map}
use Rattle.core_tree.specs.Trees.{CoreFile, view_function, view_functions}
use Rattle.c_profile.specs.Rules.{has_main}
use Rattle.c_meaning.specs.Source.{main_number}
use Rattle.c_interp.proofs.Starts.{main_there}
use Rattle.c_interp.proofs.thread.Thread.new.Goals as goal

pub overflow_cast-number : goal.overflow_cast-number
overflow_cast-number c =
    let fs = c.functions-functions.result.now in
    let e = ap view_functions (c.functions-functions.ensures.is ∙ ap (λ (f : CoreFile). f.functions) c.core-core.ensures.is) in
    let h : has_main (view_functions fs) ≡ true = ap has_main e ∙ c.core-core.ensures.main in
    let m : main_number (view_functions fs) < length (view_functions fs) = main_there (view_functions fs) h in
    omega (arith, m, length-map fs view_function, c.number_of_main-number.ensures, ap length c.functions-functions.ensures.is, c.functions-functions.ensures.few)

pub at_function-requires-clause-there : goal.at_function-requires-clause-there
at_function-requires-clause-there c =
    let fs = c.functions-functions.result.now in
    let e = ap view_functions (c.functions-functions.ensures.is ∙ ap (λ (f : CoreFile). f.functions) c.core-core.ensures.is) in
    let h : has_main (view_functions fs) ≡ true = ap has_main e ∙ c.core-core.ensures.main in
    let m : main_number (view_functions fs) < length (view_functions fs) = main_there (view_functions fs) h in
    omega (arith, m, length-map fs view_function, c.number_of_main-number.ensures)
