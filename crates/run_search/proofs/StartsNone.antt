-- No thread is started in a function of lowered code, with or without its checks.
use Rattle.std.proofs.Common.{◌≡◌, ℕ, ◌+◌, true, List, [], ◌∷◌, map, Option, Some, None, refl, sym, ap, subst, ◌∙◌}
use Rattle.std.specs.Prelude.{◌&&◌, not}
use Rattle.core_tree.specs.Trees.{Statement, Procedure, TypedFile}
use Rattle.goto_prog.specs.Nodes.{Routine, view_procedures}
use Rattle.goto_prog.specs.GotoThreads.{GotoFile}
use Rattle.lowered_code.specs.Lowered.{LoweredFile, code_by, first_literal, function_codes, view_goto, lowered}
use Rattle.goto_checks.specs.Inserted.{with_inserted}
use Rattle.goto_unwind.specs.Program.{starts_none}

one_none : (literals n : ℕ) (f : Procedure) (body : Option Statement) → not (with_inserted (code_by literals n f body)).startable ≡ true
one_none literals n f None = refl
one_none literals n f (Some body) = refl

codes_none : (literals n : ℕ) (functions : List Procedure) → starts_none (map with_inserted (function_codes literals n functions)) ≡ true
codes_none literals n [] = refl
codes_none literals n (f ∷ functions) =
    let here = one_none literals n f f.body in
    let others = codes_none literals (n + 1) functions in
    λ k. here k && others k

pub none_start : (core : TypedFile) (before behind : GotoFile) → view_goto before ≡ lowered core → view_procedures behind.functions ≡ map with_inserted (view_procedures before.functions) → starts_none (view_procedures behind.functions) ≡ true
none_start core before behind code inserted =
    let codes : view_procedures before.functions ≡ function_codes (first_literal core) 0 core.functions = ap (λ (x : LoweredFile). x.functions) code in
    subst (λ (ps : List Routine). starts_none ps ≡ true) (sym (inserted ∙ ap (λ (ps : List Routine). map with_inserted ps) codes)) (codes_none (first_literal core) 0 core.functions)
