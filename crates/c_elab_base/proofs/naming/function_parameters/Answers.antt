use Rattle.std.proofs.Common.{◌≡◌, ◌+◌, ℕ, suc, List, Some, length, drop, ap, sym, ◌∙◌, arith}
use Rattle.std.specs.Prelude.{option_map, slice_get}
use Rattle.std.proofs.lemmas.List.{length-map}
use Rattle.c_types.specs.Types.{view}
use Rattle.c_scope.specs.Scopes.{Callable, view_callable}
use Rattle.c_elab_base.specs.Declarators.{function_parameters}
use Rattle.c_elab_base.proofs.Parameters.{function_at, functions_behind}
use Rattle.c_elab_base.proofs.naming.function_parameters.Goals as goal
use Rattle.c_elab_base.proofs.naming.function_parameters.Goals.{in-Some, in_default}

pub loop-number-preserved : goal.loop-number-preserved
loop-number-preserved c =
    let all : List Callable = c.args.functions.now.all in
    let k : ℕ = c.loop-number.number in
    let one : k + 1 ≡ suc k = omega arith in
    let next : function_parameters (drop (k + 1) all) ≡ function_parameters (drop (suc k) all) = ap (λ (n : ℕ). function_parameters (drop n all)) one in
    elim c.match-function.branch [
      | in-Some w ↦
          let there : slice_get all k ≡ Some (view_callable w.in-Some.callable.now) = sym c.function.ensures ∙ ap (option_map (λ f. view_callable f.now)) w.in-Some.is in
          let own : length (view_callable w.in-Some.callable.now).type.parameters ≡ length w.in-Some.callable.now.type_.parameters.items = length-map w.in-Some.callable.now.type_.parameters.items view in
          let counted : w.len-in-Some.result ≡ length w.in-Some.callable.now.type_.parameters.items = w.len-in-Some.ensures ∙ w.in-Some.callable.now.type_.parameters.ok.0 in
          omega (arith, next, function_at all k (view_callable w.in-Some.callable.now) there, own, counted, c.loop-number.invariant, w.saturating_add-count.ensures, w.count-is)
      | in_default w ↦ omega (arith, next, functions_behind all k, c.loop-number.invariant, w.count-is)
    ]
