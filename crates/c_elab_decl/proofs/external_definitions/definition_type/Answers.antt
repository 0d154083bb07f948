use Rattle.std.proofs.Common.{◌≡◌, ℕ, List, true, Option, Result, Ok, sym, ap, subst, ◌∙◌}
use Rattle.c_tree.specs.Declarations.{view_full, name_of}
use Rattle.c_types.specs.Types.{Completed, Records}
use Rattle.c_scope.specs.declared.meaning.Meaning.{Meaning}
use Rattle.c_scope.specs.Scopes.{FunctionType, view_named, view_function_type}
use Rattle.c_scope.specs.Faults.{Fault, Gives, on_line}
use Rattle.c_elab_base.specs.Regions.{earlier}
use Rattle.c_elab_base.specs.Derivations.{Parameter, derivation, full_line, view_deriveds, view_derivation, view_parameters, view_made}
use Rattle.c_elab_object.specs.Functions.{function_node, definition_node}
use Rattle.c_elab_object.specs.DeclaratorLists.{in_file}
use Rattle.c_elab_flow.specs.Held.{parameters_in}
use Rattle.c_elab_decl.specs.Files.{made_by, definition_type}
use Rattle.c_elab_decl.proofs.Definitions.{node_behind}
use Rattle.c_elab_decl.proofs.external_definitions.definition_type.Goals.{in-Lengths, in-Callable}
use Rattle.c_elab_decl.proofs.external_definitions.definition_type.Goals as goal

pub returns : goal.returns
returns c = λ outer h.
    let s = c.args.scope.now in
    let base = view_named c.args.base.now in
    let d = view_full c.args.declarator.now in
    let ds = view_deriveds c.args.suffixes.now in
    let done = s.records.done in
    let ps = parameters_in c.args.own ds in
    let f = view_function_type c.in_ok-type_.type_ in
    let line = c.full_line-line.result in
    let name = c.name_of.result.now in
    let made = made_by (derivation s.functions done base ds) in
    let made_is : view_made c.match-branch-2.made ≡ made =
    elim c.match-branch-2.branch [
      | in-Lengths w ↦ ap view_made w.made-is ∙ ap made_by (sym (ap view_derivation w.in-Lengths.is) ∙ c.in_ok-made.ensures)
      | in-Callable w ↦ ap view_made w.made-is ∙ ap made_by (sym (ap view_derivation w.in-Callable.is) ∙ c.in_ok-made.ensures)
    ] in
    let node : ℕ → List ℕ → Option Meaning → Result FunctionType ℕ → Result FunctionType Fault = λ l n b m. on_line l (function_node s true n b m) in
    let e : node (full_line d) (name_of d) (earlier in_file outer (name_of d)) made ≡ Ok f =
    sym (ap (λ (l : ℕ). node l (name_of d) (earlier in_file outer (name_of d)) made) c.full_line-line.ensures)
    ∙ sym (ap (λ (n : List ℕ). node line n (earlier in_file outer (name_of d)) made) c.name_of.ensures)
    ∙ sym (ap (λ (b : Option Meaning). node line name b made) h)
    ∙ sym (ap (node line name c.args.before) made_is) ∙ c.in_ok-type_.ensures in
    let ending : ℕ → List Completed → List Parameter → Result FunctionType Fault = λ l rs qs. on_line l (definition_node rs qs f) in
    let whole = on_line (full_line d) (definition_type outer base d ds (record { parameters = ps; scope = s })) in
    let is : ending line c.layouts.result.now.done (view_parameters c.parameters_in.result.now) ≡ whole =
    ap (λ (l : ℕ). ending l c.layouts.result.now.done (view_parameters c.parameters_in.result.now)) c.full_line-line.ensures
    ∙ ap (λ (rs : Records). ending (full_line d) rs.done (view_parameters c.parameters_in.result.now)) c.layouts.ensures
    ∙ ap (ending (full_line d) done) c.parameters_in.ensures
    ∙ sym (node_behind (full_line d) (function_node s true (name_of d) (earlier in_file outer (name_of d)) made) (definition_node done ps) f e) in
    subst (λ (r : Result FunctionType Fault). Gives view_function_type c.definition_on.result r) is c.definition_on.ensures
