use Rattle.std.proofs.Common.{◌≡◌, ◌∷◌, [], ◌++◌, List, ℕ, length, map, sym, ap, ap₂, ◌∙◌, arith}
use Rattle.std.proofs.lemmas.List.{length-append, map-append}
use Rattle.core_tree.specs.declared.functions.Variable.{Variable as CoreVariable}
use Rattle.c_scope.specs.declared.scope.QualifiedType.{QualifiedType}
use Rattle.c_scope.specs.Types.{type_size}
use Rattle.c_scope.specs.Scopes.{Named, Scoped, view_named, view_object_entry, are_complete, variable_by, variables_of}
use Rattle.c_scope.specs.Places.{environment}
use Rattle.c_scope.proofs.Variables.{are_there_wider, complete_sized, complete_more, variables_more}
use Rattle.c_scope.proofs.scope.Scope.add_variable.Goals as goal

pub invariant_of-self-2 : goal.invariant_of-self-2
invariant_of-self-2 c =
    let env = environment c.self.inside.bounds.items in
    let objects = length (map view_object_entry c.self.inside.objects.items) in
    let types = length (map view_named c.self.inside.types.items) in
    let records = length c.self.inside.layouts.declared in
    let done = c.self.inside.layouts.done in
    let old = c.self.inside.variables.items in
    let n = view_named c.args.named in
    let more : map view_named c.push.new.self.items ≡ map view_named old ++ n ∷ [] =
    ap (λ (ns : List QualifiedType). map view_named ns) c.in_ok-push.ensures.items ∙ map-append view_named old (c.args.named ∷ []) in
    let long = ap (λ (ns : List Named). length ns) more ∙ length-append (map view_named old) (n ∷ []) in
    let fits = complete_sized done n.type c.args.size (ap (λ (s : Scoped). type_size s.records.done n.type) c.self.view_is ∙ c.requires.sized) in
    let made = c.put_variable.ensures in (
      are_there_wider (length (map view_named old)) (length (map view_named c.push.new.self.items)) objects objects types types records records env (omega (arith, long)) (omega arith) (omega arith) (omega arith) c.self.invariant.0,
      c.self.invariant.1,
      c.self.invariant.2,
      made ∙ ap₂ (λ (xs : List CoreVariable) (x : ℕ). xs ++ variable_by x n.constant ∷ []) (c.in_ok-reserve.ensures.items ∙ c.self.invariant.3) fits.1
          ∙ sym (variables_more done (map view_named old) n) ∙ ap (variables_of done) (sym more),
      c.self.invariant.4,
      ap (are_complete done) more ∙ complete_more done (map view_named old) n c.self.invariant.5 fits.0,
      c.self.invariant.6,
    )
