use Rattle.std.proofs.Common.{◌≡◌, ◌-◌, ℕ, length, List, map, take, drop, sym, ap, ap₂, ◌∙◌, arith}
use Rattle.std.proofs.lemmas.List.{take-map, length-map, length-take-le}
use Rattle.core_tree.specs.declared.functions.Variable.{Variable as CoreVariable}
use Rattle.c_scope.specs.declared.scope.QualifiedType.{QualifiedType}
use Rattle.c_scope.specs.Members.{view_tables}
use Rattle.c_scope.specs.Scopes.{Named, Scoped, view_named, view_object_entry, view_linked, view_flow, are_there, are_complete, variables_of}
use Rattle.c_scope.specs.Places.{environment}
use Rattle.c_scope.proofs.Variables.{take_complete, take_variables}
use Rattle.c_scope.proofs.scope.Scope.end_parameters.Goals as goal

pub invariant_of-self : goal.invariant_of-self
invariant_of-self c =
    let inside = c.self.inside in
    let n = c.args.variables in
    let old = inside.variables.items in
    let done = inside.layouts.done in
    let whole = c.self.view_is ∙ c.leave.ensures in
    let few : map view_named c.truncate-2.new.self.items ≡ take n (map view_named old) =
    ap (λ (vs : List QualifiedType). map view_named vs) c.truncate-2.ensures.items ∙ sym (take-map view_named n old) in
    let count = ap (λ (s : Scoped). length s.variables) whole in
    let within = c.requires.variables in
    let long : length (map view_named c.truncate-2.new.self.items) ≡ n = ap (λ (vs : List Named). length vs) few ∙ length-take-le n (map view_named old) (omega (arith, count, within)) in
    let there = ap (λ (s : Scoped). are_there n (length s.objects) (length s.types) (length s.records.declared) s.bindings) whole ∙ c.requires.there in (
      ap (λ (k : ℕ). are_there k (length (map view_object_entry inside.objects.items)) (length (map view_named inside.types.items)) (length inside.layouts.declared) (environment inside.bounds.items)) long ∙ there,
      c.self.invariant.1,
      c.self.invariant.2,
      c.truncate.ensures.items ∙ ap (λ (xs : List CoreVariable). take n xs) c.self.invariant.3 ∙ sym (take_variables done (map view_named old) n) ∙ ap (variables_of done) (sym few),
      c.self.invariant.4,
      ap (are_complete done) few ∙ take_complete done (map view_named old) n c.self.invariant.5,
      c.self.invariant.6,
    )

pub returns : goal.returns
returns c =
    let inside = c.self.inside in
    let n = c.args.variables in
    let old = inside.variables.items in
    let few : map view_named c.truncate-2.new.self.items ≡ take n (map view_named old) =
    ap (λ (vs : List QualifiedType). map view_named vs) c.truncate-2.ensures.items ∙ sym (take-map view_named n old) in
    let whole : Scoped = record { bindings = environment inside.bounds.items; types = map view_named inside.types.items; records = inside.layouts; members = view_tables inside.tables.items; variables = map view_named old; objects = map view_object_entry inside.objects.items; linked = map view_linked inside.linked.entries; functions = inside.functions; flow = view_flow inside.flow } in
    ap (λ (vs : List Named). record whole { variables = vs }) few
    ∙ ap (λ (s : Scoped). record s { variables = take n s.variables }) (c.self.view_is ∙ c.leave.ensures)
