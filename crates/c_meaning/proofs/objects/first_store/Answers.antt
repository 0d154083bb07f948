use Rattle.std.proofs.Common.{◌≡◌, ◌+◌, ◌<◌, ◌++◌, List, length, map, take, get_or, nat_le, true, ap, sym, ◌∙◌, [], ◌∷◌, arith, length-append}
use mathlib.Core.List.{append_assoc}
use Rattle.std.specs.List.{list_all}
use Rattle.core_tree.specs.declared.functions.StaticObject.{StaticObject}
use Rattle.core_tree.specs.declared.functions.Literal.{Literal}
use Rattle.core_tree.specs.Trees.{view_static, view_statics, view_literals, view_core}
use Rattle.core_tree.specs.Typed.{are_typed}
use Rattle.actions.specs.Objects.{Objects, object_at, with_new}
use Rattle.c_meaning.specs.Source.{first_object, literal_object, numbered, are_storable}
use Rattle.c_meaning.proofs.StaticObjects.{is_put, text_of, object_few, object_put, literal_short, few_objects, numbered_fresh, numbered_next, take_next, taken_length, all_length}
use Rattle.c_meaning.proofs.objects.first_store.Goals as goal

pub first_object-requires-clause-few : goal.first_object-requires-clause-few
first_object-requires-clause-few c =
    let file = c.core-core.result.now in
    let i = c.loop-object.object-index in
    let o = c.object-item.result in
    let there : c.objects-objects.result.now ≡ file.objects = c.objects-objects.ensures.is in
    let storable : are_storable (view_core file) ≡ true = ap (λ f. are_storable (view_core f)) c.core-core.ensures.is ∙ c.requires in
    ap (λ (o : StaticObject). nat_le (length o.bytes.items) o.size) (c.object-item.is ∙ ap (λ (os : List StaticObject). get_or os i o) there)
    ∙ object_few file c.objects-objects.ensures.typed storable i o (omega (arith, ap length there))

pub first_object-requires-clause-addresses : goal.first_object-requires-clause-addresses
first_object-requires-clause-addresses c =
    let file = c.core-core.result.now in
    let i = c.loop-object.object-index in
    let o = c.object-item.result in
    let there : c.objects-objects.result.now ≡ file.objects = c.objects-objects.ensures.is in
    let storable : are_storable (view_core file) ≡ true = ap (λ f. are_storable (view_core f)) c.core-core.ensures.is ∙ c.requires in
    ap (λ (o : StaticObject). list_all (is_put (length c.objects-objects.result.now + 1) o.size) o.addresses.items) (c.object-item.is ∙ ap (λ (os : List StaticObject). get_or os i o) there)
    ∙ ap (λ (os : List StaticObject). list_all (is_put (length os + 1) (get_or file.objects i o).size) (get_or file.objects i o).addresses.items) there
    ∙ object_put file c.objects-objects.ensures.typed storable i o (omega (arith, ap length there))

pub add-requires : goal.add-requires
add-requires c =
    let os = c.objects-objects.result.now in
    let i = c.loop-object.object-index in
    let is = c.loop-object.invariant in
    let made = map (first_object (length os + 1)) (view_statics (take i os)) in
    (λ j. object_at (is.1 j) (is.0 j + 1)) ∙ numbered_fresh 1 (i + 1) made (omega (arith, taken_length (first_object (length os + 1)) view_static os i (omega arith)))

pub loop-object-preserved : goal.loop-object-preserved
loop-object-preserved c =
    let os = c.objects-objects.result.now in
    let i = c.loop-object.object-index in
    let o = c.object-item.result in
    let is = c.loop-object.invariant in
    let f = first_object (length os + 1) in
    let made = map f (view_statics (take i os)) in
    let object : c.in_ok-first_object.field-0 ≡ f (view_static (get_or os i o)) = c.in_ok-first_object.ensures ∙ ap (λ (o : StaticObject). f (view_static o)) c.object-item.is in
    let added : c.add.new.self ≡ with_new c.loop-object.store (c.loop-object.number + 1) c.in_ok-first_object.field-0 = c.in_ok-add.ensures.ok in (
      ap (λ n. n + 1) is.0,
      added ∙ (λ j. with_new (is.1 j) (is.0 j + 1) (object j))
          ∙ numbered_next 1 (i + 1) made (f (view_static (get_or os i o))) (omega (arith, taken_length f view_static os i (omega arith)))
          ∙ ap (numbered 1) (sym (take_next f view_static os i o (omega arith))),
    )

pub literal_object-requires : goal.literal_object-requires
literal_object-requires c =
    let file = c.core-core.result.now in
    let i = c.loop-literal.literal-index in
    let l = c.literal-item.result in
    let there : c.literals-literals.result.now ≡ file.literals = c.literals-literals.ensures.is in
    let storable : are_storable (view_core file) ≡ true = ap (λ f. are_storable (view_core f)) c.core-core.ensures.is ∙ c.requires in
    let same : length c.literal-item.result.bytes.items ≡ length (text_of (get_or file.literals i l)) =
    ap (λ (l : Literal). length (text_of l)) (c.literal-item.is ∙ ap (λ (ls : List Literal). get_or ls i l) there) in
    omega (arith, same, literal_short file c.objects-objects.ensures.typed storable i l (omega (arith, ap length there)))

pub add-requires-in-loop-literal : goal.add-requires-in-loop-literal
add-requires-in-loop-literal c =
    let os = c.args.file.now.objects in
    let ls = c.literals-literals.result.now in
    let i = c.loop-literal.literal-index in
    let is = c.loop-literal.invariant in
    let f = first_object (length os + 1) in
    let objects = map f (view_statics os) in
    let made = map literal_object (view_literals (take i ls)) in
    (λ j. object_at (is.1 j) (is.0 j + 1))
    ∙ numbered_fresh 1 (length os + i + 1) (objects ++ made) (omega (arith, length-append objects made, all_length f view_static os, taken_length literal_object text_of ls i (omega arith)))

pub loop-literal-preserved : goal.loop-literal-preserved
loop-literal-preserved c =
    let os = c.args.file.now.objects in
    let ls = c.literals-literals.result.now in
    let i = c.loop-literal.literal-index in
    let l = c.literal-item.result in
    let is = c.loop-literal.invariant in
    let f = first_object (length os + 1) in
    let objects = map f (view_statics os) in
    let made = map literal_object (view_literals (take i ls)) in
    let object : c.in_ok-literal_object.field-0 ≡ literal_object (text_of (get_or ls i l)) = c.in_ok-literal_object.ensures ∙ ap (λ (l : Literal). literal_object (text_of l)) c.literal-item.is in
    let added : c.add-in-loop-literal.new.self ≡ with_new c.loop-literal.store (c.loop-literal.number + 1) c.in_ok-literal_object.field-0 = c.in_ok-add-2.ensures.ok in
    let next = literal_object (text_of (get_or ls i l)) in (
      omega (arith, is.0),
      added ∙ (λ j. with_new (is.1 j) (is.0 j + 1) (object j))
          ∙ numbered_next 1 (length os + i + 1) (objects ++ made) next (omega (arith, length-append objects made, all_length f view_static os, taken_length literal_object text_of ls i (omega arith)))
          ∙ ap (numbered 1) (append_assoc objects made (next ∷ []) ∙ ap (λ zs. objects ++ zs) (sym (take_next literal_object text_of ls i l (omega arith)))),
    )
