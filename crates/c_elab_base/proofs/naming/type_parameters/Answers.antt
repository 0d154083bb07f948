use Rattle.std.proofs.Common.{◌≡◌, ◌+◌, ℕ, suc, List, Some, length, drop, ap, sym, ◌∙◌, arith}
use Rattle.std.specs.Prelude.{option_map, slice_get}
use Rattle.std.proofs.lemmas.List.{length-map}
use Rattle.c_types.specs.Types.{view}
use Rattle.c_scope.specs.Scopes.{FunctionType, view_function_type}
use Rattle.c_elab_base.specs.Declarators.{type_parameters}
use Rattle.c_elab_base.proofs.Parameters.{type_at, types_behind}
use Rattle.c_elab_base.proofs.naming.type_parameters.Goals as goal
use Rattle.c_elab_base.proofs.naming.type_parameters.Goals.{in-Some, in_default}

pub loop-number-preserved : goal.loop-number-preserved
loop-number-preserved c =
    let all : List FunctionType = c.args.functions.now.types in
    let k : ℕ = c.loop-number.number in
    let one : k + 1 ≡ suc k = omega arith in
    let next : type_parameters (drop (k + 1) all) ≡ type_parameters (drop (suc k) all) = ap (λ (n : ℕ). type_parameters (drop n all)) one in
    elim c.match-type_at.branch [
      | in-Some w ↦
          let there : slice_get all k ≡ Some (view_function_type w.in-Some.type_.now) = sym c.type_at.ensures ∙ ap (option_map (λ f. view_function_type f.now)) w.in-Some.is in
          let own : length (view_function_type w.in-Some.type_.now).parameters ≡ length w.in-Some.type_.now.parameters.items = length-map w.in-Some.type_.now.parameters.items view in
          let counted : w.len.result ≡ length w.in-Some.type_.now.parameters.items = w.len.ensures ∙ w.in-Some.type_.now.parameters.ok.0 in
          omega (arith, next, type_at all k (view_function_type w.in-Some.type_.now) there, own, counted, c.loop-number.invariant, w.saturating_add-count.ensures, w.count-is)
      | in_default w ↦ omega (arith, next, types_behind all k, c.loop-number.invariant, w.count-is)
    ]
