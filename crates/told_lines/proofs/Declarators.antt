-- The lines that specifiers and declarators leave in a scope, of its functions and its objects, are those of the file's tree.
use Rattle.std.proofs.Common.{ℕ, Bool, true, false, List, [], ◌∷◌, length, Option, Some, None, Result, Ok, Err, refl}
use Rattle.std.specs.Prelude.{◌-◌, ◌==◌, ◌&&◌, ◌||◌, not, is_some, slice_get, if◌then◌else◌}
use Rattle.c_tree.specs.declared.specifier.TagKind.{TagKind}
use Rattle.c_tree.specs.declared.specifier.TagKind.TheVariants as tag_kinds
use Rattle.c_tree.specs.Tree.{TypePart, qualified, word, tagged, typedef_name}
use Rattle.c_tree.specs.Declarations.{Enumerated, Part, type_part, storage, function, structure, enumeration, Parts, no_part, part, Members, no_member, members, Full, full_unnamed, full_named, full_inside, full_pointing, Fulls, no_full, full, FullSuffixes, full_end, full_bounded, full_open, full_empty, full_void, full_parameters, Parameters, no_parameter, parameter, Initial, Declarators, none_declared, declarator, name_of, parts_line}
use Rattle.c_types.specs.Types.{CType}
use Rattle.c_types.specs.Layouts.{is_completed, kind_at}
use Rattle.c_types.specs.declared.types.RecordKind.{RecordKind}
use Rattle.core_tree.specs.Trees.{Procedure, TypedFile}
use Rattle.core_tree.specs.Trees as cores
use Rattle.c_scope.specs.declared.meaning.Meaning.{Meaning}
use Rattle.c_scope.specs.declared.meaning.Meaning.TheVariants.{Record}
use Rattle.c_scope.specs.Members.{Field, field_types}
use Rattle.c_scope.specs.Scopes.{ObjectEntry, Named, FunctionType, Callable, Scoped, linked_to, object_at, tag_of}
use Rattle.c_scope.specs.Faults.{◌>>=◌, Fault, on_line}
use Rattle.c_scope.specs.Types.{array_of, specified_type}
use Rattle.c_elab_base.specs.declared.regions.Region.{Region}
use Rattle.c_elab_base.specs.declared.regions.Role.{Role}
use Rattle.c_elab_base.specs.declared.regions.Role.TheVariants as roles
use Rattle.c_elab_base.specs.Regions.{built_in_function, earlier, earlier_tag}
use Rattle.c_elab_base.specs.Derivations.{Derivation, lengths, callable, derivation, full_line}
use Rattle.c_elab_type.specs.Initializers.{number_value, structure_value, Value, no_initializer, initializer_of}
use Rattle.c_elab_type.specs.Enumerations.{enumerator_value, enumerator_node, typed_enumerator, typed_enumerators}
use Rattle.c_elab_base.specs.Tags.{kind_of, is_kind, new_tag, found_tag, forward_tag, Opened, open_tag, opened, reopened, closed_scope, closed, members_fit, enumeration_tag, enumeration_closed}
use Rattle.c_elab_base.specs.Declarators.{with_typedef, with_function_typedef, within_initializer, typedef_node, function_typedef_node, is_open, of_type, with_variable}
use Rattle.c_elab_type.specs.Declarators.{Typed, in_front, variable_type, declared_item}
use Rattle.c_elab_base.specs.Specifiers.{Fields, Parted, Passed, with_type_part, fields_within, fields_out, with_members, said_before, fields_behind, with_anonymous, has_untagged, is_none, is_anonymous, with_member, judged_parameter, ended, inner_region, are_several, parted, named_parts, lone_tag, with_lone}
use Rattle.c_elab_type.specs.Specifiers.{Specification, said_bound, typed_part, typed_parts, typed_members, typed_fields, typed_full, typed_suffixes, typed_parameters, typed_specifiers}
use Rattle.c_elab_object.specs.ObjectEntries.{changed_by, first_declared, changed_object, declared_object, initialized_object, object_entry_node, earlier_linked, linked_object, object_entry_type, stated_type, may_define, counted_by, element_of, declared_again}
use Rattle.c_elab_object.specs.Functions.{function_node, first_callable, callable_again, changed_callable, declared_callable, declared_or_built_in, typed_function}
use Rattle.c_elab_object.specs.DeclaratorLists.{typedef_by, typed_typedefs, object_by, typed_objects, variable_by, typed_variables, typed_others, typed_by, typed_declaration}
use Rattle.told_lines.specs.TypedLines.{InDeclared, InItems}
use Rattle.told_lines.specs.TreeLines.{InDeclarator, InDeclarators, InInitializer}
use Rattle.told_lines.proofs.Results.{Good, ok, fails, bind, pass, Holds, Each, pushed, replaced, got, either}
use Rattle.told_lines.proofs.Initializers.{InValue, initializer_good}

module _ (P : ℕ → Type 0) where
  -- ---- the functions and the objects of a scope

  abbrev pub InCallable : Callable → Type 0
  InCallable c = P c.line × InDeclared P c.ellipsis

  abbrev pub InEntry : ObjectEntry → Type 0
  InEntry o = P o.line

  abbrev pub Fine : Scoped → Type 0
  Fine s = Each InCallable s.functions.all × Each InEntry s.objects

  -- ---- specifiers

  enumerators_good : (r : Region) (s : Scoped) (previous : Option ℕ) (es : List Enumerated) → Fine s → Good Fine (typed_enumerators r s previous es)
  enumerators_good r s previous [] fine = ok _ _ fine
  enumerators_good r s previous (e ∷ es) fine =
      bind (λ (x : ℕ × Scoped). Fine x.1) Fine (typed_enumerator r s previous e) _ (pass _ (enumerator_value s previous e.value) _ (λ value. pass _ (on_line e.line (enumerator_node (earlier r s e.name) value)) _ (λ bits. ok _ _ fine)))
      (λ x h. enumerators_good r x.1 (Some x.0) es h)

  new_tag_fine : (s : Scoped) (kind : TagKind) (name : List ℕ) → Fine s → Fine (new_tag s kind name).1
  new_tag_fine s tag_kinds.Struct name fine = fine
  new_tag_fine s tag_kinds.Union name fine = fine
  new_tag_fine s tag_kinds.Enum name fine = fine

  found_tag_fine : (s : Scoped) (kind : TagKind) (name : List ℕ) (m : Option Meaning) → Fine s → Fine (found_tag s kind name m).1
  found_tag_fine s kind name None fine = new_tag_fine s kind name fine
  found_tag_fine s kind name (Some m) fine = fine

  forward_fine : (s : Scoped) (kind : TagKind) (name : List ℕ) (m : Option Meaning) → Fine s → Fine (forward_tag s kind name m)
  forward_fine s kind name None fine = new_tag_fine s kind name fine
  forward_fine s kind name (Some m) fine = fine

  opened_by : (b : Bool) (x y : Opened) → Fine x.scope → Fine y.scope → Fine (if b then x else y).scope
  opened_by true x y h g = h
  opened_by false x y h g = g

  open_tag_fine : (s : Scoped) (kind : RecordKind) (name : List ℕ) (m : Option Meaning) → Fine s → Fine (open_tag s kind name m).scope
  open_tag_fine s kind name None fine = fine
  open_tag_fine s kind name (Some (Record p)) fine = opened_by (is_kind (kind_at s.records p) kind) _ _ fine fine
  open_tag_fine s kind name (Some _) fine = fine

  opened_fine : (r : Region) (s : Scoped) (kind : RecordKind) (tag : Option (List ℕ)) → Fine s → Fine (opened r s kind tag).scope
  opened_fine r s kind None fine = fine
  opened_fine r s kind (Some name) fine = open_tag_fine s kind name (earlier_tag r s name) fine

  reopened_fine : (p : ℕ) (clash : Bool) (kind : RecordKind) (s : Scoped) → Fine s → Fine (reopened p clash kind s).scope
  reopened_fine p clash kind s fine = opened_by (is_completed s.records.done p) _ _ fine fine

  closed_scope_fine : (o : Opened) (fs : List Field) (fit : Result (Unit {0}) ℕ) → Fine o.scope → Fine (closed_scope o fs fit)
  closed_scope_fine o fs (Ok u) fine = fine
  closed_scope_fine o fs (Err rule) fine = fine

  closed_by : (b : Bool) (x y : Result Named ℕ × Scoped) → Fine x.1 → Fine y.1 → Fine (if b then x else y).1
  closed_by true x y h g = h
  closed_by false x y h g = g

  closed_fine : (o : Opened) (fs : List Field) → Fine o.scope → Fine (closed o fs).1
  closed_fine o fs fine = closed_by (is_completed o.scope.records.done o.place) _ _ fine (closed_scope_fine o fs (members_fit o.scope.records o.place (field_types fs)) fine)

  enumeration_fine : (r : Region) (s : Scoped) (tag : Option (List ℕ)) → Fine s → Fine (enumeration_closed r s tag).1
  enumeration_fine r s None fine = fine
  enumeration_fine r s (Some name) fine = by_meaning (earlier_tag r s name)
    where
      by_meaning : (m : Option Meaning) → Fine (enumeration_tag s name m).1
      by_meaning None = fine
      by_meaning (Some m) = fine

  type_part_fine : (p : Parted) (t : TypePart) → Fine p.scope → Fine (with_type_part p t).scope
  type_part_fine p (qualified line q) fine = fine
  type_part_fine p (word line w) fine = fine
  type_part_fine p (tagged line kind name) fine = found_tag_fine p.scope kind name (tag_of p.scope.bindings name) fine
  type_part_fine p (typedef_name line name) fine = fine

  fields_out_good : (anonymous : Bool) (names : List (List ℕ)) (fields : Result Fields Fault) → Good (λ f. Fine f.scope) fields → Good (λ f. Fine f.scope) (fields_out anonymous names fields)
  fields_out_good anonymous names (Ok f) good = ok _ _ (good.fine f refl)
  fields_out_good anonymous names (Err e) good = fails _ e

  members_good : (p : Parted) (o : Opened) (kind : RecordKind) (fields : Result Fields Fault) → Good (λ f. Fine f.scope) fields → Good (λ q. Fine q.scope) (with_members p o kind fields)
  members_good p o kind (Ok f) good = ok _ _ (closed_fine (reopened o.place o.clashes kind f.scope) f.fields (reopened_fine o.place o.clashes kind f.scope (good.fine f refl)))
  members_good p o kind (Err e) good = fails _ e

  anonymous_fine : (b : Bool) (n : Named) (f : Fields) → Fine f.scope → Fine (with_anonymous b n f).scope
  anonymous_fine true n f fine = fine
  anonymous_fine false n f fine = fine

  front_good : {A B : Type 0} (r : Result (A × Scoped) Fault) (f : A × Scoped → Result (B × Scoped) Fault) → Good (λ x. Fine x.1) r → ((x : A × Scoped) → Fine x.1 → Good (λ y. Fine y.1) (f x)) → Good (λ y. Fine y.1) (r >>= f)
  front_good r f good later = bind (λ x. Fine x.1) (λ y. Fine y.1) r f good later

  parameter_fine : (b : Bool) (s t : Scoped) → Fine s → Fine t → Fine (if b then s else t)
  parameter_fine true s t h g = h
  parameter_fine false s t h g = g

  mutual
    part_good : (r : Region) (alone : Bool) (p : Parted) (x : Part) → Fine p.scope → Good (λ q. Fine q.scope) (typed_part r alone p x)
    part_good r alone p (type_part t) fine = ok _ _ (type_part_fine p t fine)
    part_good r alone p (storage line class) fine = ok _ _ fine
    part_good r alone p (function line w) fine = ok _ _ fine
    part_good r alone p (structure line kind tag ms) fine =
        members_good p (opened r p.scope (kind_of kind) tag) (kind_of kind) _
        (fields_out_good (is_anonymous alone tag) p.names _ (member_declarations_good r (fields_within (is_anonymous alone tag) p.names (opened r p.scope (kind_of kind) tag).scope) ms (opened_fine r p.scope (kind_of kind) tag fine)))
    part_good r alone p (enumeration line tag es) fine =
        bind Fine (λ q. Fine q.scope) (typed_enumerators r p.scope None es) _ (enumerators_good r p.scope None es fine) (λ s h. ok _ _ (enumeration_fine r s tag h))

    pub parts_good : (r : Region) (alone : Bool) (p : Parted) (xs : Parts) → Fine p.scope → Good (λ q. Fine q.scope) (typed_parts r alone p xs)
    parts_good r alone p no_part fine = ok _ _ fine
    parts_good r alone p (part first rest) fine = bind (λ q. Fine q.scope) (λ q. Fine q.scope) (typed_part r alone p first) _ (part_good r alone p first fine) (λ q h. parts_good r alone q rest h)

    member_declarations_good : (r : Region) (f : Fields) (ms : Members) → Fine f.scope → Good (λ g. Fine g.scope) (typed_members r f ms)
    member_declarations_good r f no_member fine = ok _ _ fine
    member_declarations_good r f (members parts ds rest) fine =
        bind (λ q. Fine q.scope) (λ g. Fine g.scope) (typed_parts r (is_none ds) (said_before f) parts) _ (parts_good r (is_none ds) (said_before f) parts fine) (λ p h.
        pass (λ g. Fine g.scope) (on_line (parts_line parts) (specified_type p.specified)) _ (λ n.
        bind (λ g. Fine g.scope) (λ g. Fine g.scope) (typed_fields r n (fields_behind f parts ds p n) ds) _
        (fields_good r n (fields_behind f parts ds p n) ds (anonymous_fine (is_none ds && has_untagged parts) n (record { fields = f.fields; names = p.names; scope = p.scope }) h))
        (λ g k. member_declarations_good r g rest k)))

    fields_good : (r : Region) (base : Named) (f : Fields) (ds : Fulls) → Fine f.scope → Good (λ g. Fine g.scope) (typed_fields r base f ds)
    fields_good r base f no_full fine = ok _ _ fine
    fields_good r base f (full d ds) fine =
        bind (λ x. Fine x.1) (λ g. Fine g.scope) (typed_full f.scope d) _ (full_good f.scope d fine) (λ x h.
        bind (λ g. Fine g.scope) (λ g. Fine g.scope) (with_member base (record f { scope = x.1 }) d x.0) _ (pass (λ g. Fine g.scope) _ _ (λ t. ok _ _ h)) (λ g k. fields_good r base g ds k))

    pub full_good : (s : Scoped) (d : Full) → Fine s → Good (λ x. Fine x.1) (typed_full s d)
    full_good s (full_unnamed suffixes) fine = suffixes_good s suffixes fine
    full_good s (full_named line n suffixes) fine = suffixes_good s suffixes fine
    full_good s (full_inside line d suffixes) fine = front_good (typed_full s d) _ (full_good s d fine) (λ inner h. front_good (typed_suffixes inner.1 suffixes) _ (suffixes_good inner.1 suffixes h) (λ outer k. ok _ _ k))
    full_good s (full_pointing line qs d) fine = fails _ _

    suffixes_good : (s : Scoped) (x : FullSuffixes) → Fine s → Good (λ y. Fine y.1) (typed_suffixes s x)
    suffixes_good s full_end fine = ok _ _ fine
    suffixes_good s (full_bounded line e rest) fine = pass (λ y. Fine y.1) (said_bound s e) _ (λ n. front_good (typed_suffixes s rest) _ (suffixes_good s rest fine) (λ x h. ok _ _ h))
    suffixes_good s (full_open line rest) fine = front_good (typed_suffixes s rest) _ (suffixes_good s rest fine) (λ x h. ok _ _ h)
    suffixes_good s (full_empty line rest) fine = front_good (typed_suffixes s rest) _ (suffixes_good s rest fine) (λ x h. ok _ _ h)
    suffixes_good s (full_void line rest) fine = front_good (typed_suffixes s rest) _ (suffixes_good s rest fine) (λ x h. ok _ _ h)
    suffixes_good s (full_parameters line ps variadic rest) fine =
        bind (λ p. Fine p.scope) (λ y. Fine y.1) (typed_parameters (inner_region s) (are_several ps) (record { parameters = []; scope = s }) ps) _
        (parameters_good (inner_region s) (are_several ps) (record { parameters = []; scope = s }) ps fine)
        (λ p h. front_good (typed_suffixes (ended s p.scope) rest) _ (suffixes_good (ended s p.scope) rest h) (λ x k. ok _ _ k))

    pub parameters_good : (r : Region) (several : Bool) (p : Passed) (ps : Parameters) → Fine p.scope → Good (λ q. Fine q.scope) (typed_parameters r several p ps)
    parameters_good r several p no_parameter fine = ok _ _ fine
    parameters_good r several p (parameter parts d rest) fine =
        bind (λ x. Fine x.1) (λ q. Fine q.scope) (named_parts parts (typed_parts r false (parted [] p.scope) parts)) _
        (bind (λ q. Fine q.scope) (λ x. Fine x.1) (typed_parts r false (parted [] p.scope) parts) _ (parts_good r false (parted [] p.scope) parts fine) (λ q h. pass (λ x. Fine x.1) (on_line (parts_line parts) (specified_type q.specified)) _ (λ n. ok _ _ h)))
        (λ x h. bind (λ q. Fine q.scope) (λ q. Fine q.scope) (judged_parameter r several p parts x.0 d (typed_full x.1 d)) _
        (bind (λ y. Fine y.1) (λ q. Fine q.scope) (typed_full x.1 d) _ (full_good x.1 d h) (λ y k. pass (λ q. Fine q.scope) _ _ (λ t. ok _ _ (parameter_fine _ _ _ k k))))
        (λ q k. parameters_good r several q rest k))

  lone_fine : (r : Region) (s : Scoped) (tag : Option (TagKind × List ℕ)) → Fine s → Fine (with_lone r s tag)
  lone_fine r s None fine = fine
  lone_fine r s (Some tag) fine = forward_fine s tag.0 tag.1 (earlier_tag r s tag.1) fine

  pub specifiers_good : (r : Region) (s : Scoped) (parts : Parts) (ds : Declarators) → Fine s → Good (λ x. Fine x.scope) (typed_specifiers r s parts ds)
  specifiers_good r s parts ds fine =
      bind (λ q. Fine q.scope) (λ x. Fine x.scope) (typed_parts r false (record (parted [] s) { scope = with_lone r s (lone_tag parts ds) }) parts) _
      (parts_good r false (record (parted [] s) { scope = with_lone r s (lone_tag parts ds) }) parts (lone_fine r s (lone_tag parts ds) fine))
      (λ p h. pass (λ x. Fine x.scope) (on_line (parts_line parts) (specified_type p.specified)) _ (λ t. ok _ _ h))

  -- ---- declarators

  first_lined : (s : Scoped) (d : Full) (f : FunctionType) (whole : Bool) → InDeclarator P d → InCallable (first_callable s.functions d f whole)
  first_lined s d f whole p = (p.1, either (InDeclared P) f.ellipsis (Some (full_line d)) None p.0 tt)

  again_lined : (d : Full) (whole : Bool) (c : Callable) → InDeclarator P d → InCallable c → InCallable (callable_again d whole c)
  again_lined d true c p h = (p.1, h.1)
  again_lined d false c p h = h

  changed_lined : (d : Full) (whole : Bool) (all : List Callable) (k : ℕ) (o : Option Callable) → InDeclarator P d → Each InCallable all → Holds InCallable o → Each InCallable (changed_callable all k (callable_again d whole) o)
  changed_lined d whole all k None p h g = h
  changed_lined d whole all k (Some c) p h g = replaced InCallable all k (callable_again d whole c) h (again_lined d whole c p g)

  pub callable_lined : (s : Scoped) (d : Full) (f : FunctionType) (whole : Bool) (k : Option ℕ) → Fine s → InDeclarator P d → Each InCallable (declared_callable s.functions d f whole k).1.all
  callable_lined s d f whole None fine p = pushed InCallable s.functions.all (first_callable s.functions d f whole) fine.0 (first_lined s d f whole p)
  callable_lined s d f whole (Some k) fine p = changed_lined d whole s.functions.all k (slice_get s.functions.all k) p fine.0 (got InCallable s.functions.all k fine.0)

  function_fine : (s : Scoped) (d : Full) (f : FunctionType) (m : Option Meaning) → Fine s → InDeclarator P d → Fine (declared_or_built_in s d f m)
  function_fine s d f None fine p = (callable_lined s d f false (linked_to s.functions.named (name_of d)) fine p, fine.1)
  function_fine s d f (Some m) fine p = fine

  function_good : (r : Region) (s : Scoped) (d : Full) (i : Option Initial) (made : Result FunctionType ℕ) → Fine s → InDeclarator P d → Good Fine (typed_function r s d i made)
  function_good r s d i made fine p =
      pass Fine (on_line (full_line d) (function_node s false (name_of d) (earlier r s (name_of d)) made)) _ (λ f.
      pass Fine (no_initializer (full_line d) (declared_or_built_in s d f (built_in_function (name_of d))) i) _ (λ none.
      ok Fine (declared_or_built_in s d f (built_in_function (name_of d))) (function_fine s d f (built_in_function (name_of d)) fine p)))

  typedef_good : (r : Region) (s : Scoped) (base : Named) (d : Full) (i : Option Initial) (x : Derivation) → Fine s → Good Fine (typedef_by r s base d i x)
  typedef_good r s base d i (lengths ls) fine =
      pass Fine (on_line (full_line d) (typedef_node s.types base.constant (earlier r s (name_of d)) (array_of s.records.done base.type ls))) _ (λ n.
      pass Fine (no_initializer (full_line d) (with_typedef s (name_of d) n) i) _ (λ none. ok Fine (with_typedef s (name_of d) n) fine))
  typedef_good r s base d i (callable made) fine =
      pass Fine (on_line (full_line d) (function_typedef_node s (earlier r s (name_of d)) made)) _ (λ f.
      pass Fine (no_initializer (full_line d) (with_function_typedef s (name_of d) f) i) _ (λ none. ok Fine (with_function_typedef s (name_of d) f) fine))

  typedefs_good : (r : Region) (s : Scoped) (base : Named) (ds : Declarators) → Fine s → Good Fine (typed_typedefs r s base ds)
  typedefs_good r s base none_declared fine = ok _ _ fine
  typedefs_good r s base (declarator d i rest) fine =
      bind (λ x. Fine x.1) Fine (typed_full s d) _ (full_good s d fine) (λ x h.
      bind Fine Fine (typedef_by r x.1 base d i (derivation x.1.functions x.1.records.done base x.0)) _ (typedef_good r x.1 base d i (derivation x.1.functions x.1.records.done base x.0) h) (λ t k. typedefs_good r t base rest k))

  -- ---- objects

  by_lined : (objects : List ObjectEntry) (k : ℕ) (f : ObjectEntry → ObjectEntry) (o : Option ObjectEntry) → ((o : ObjectEntry) → InEntry o → InEntry (f o)) → Each InEntry objects → Holds InEntry o → Each InEntry (changed_by objects k f o)
  by_lined objects k f None keeps h g = h
  by_lined objects k f (Some o) keeps h g = replaced InEntry objects (k - 1) (f o) h (keeps o g)

  object_lined : (s : Scoped) (k : ℕ) → Fine s → Holds InEntry (object_at s k)
  object_lined s k fine = either (Holds InEntry) (k == 0) None (slice_get s.objects (k - 1)) tt (got InEntry s.objects (k - 1) fine.1)

  changed_fine : (s : Scoped) (k : ℕ) (f : ObjectEntry → ObjectEntry) → ((o : ObjectEntry) → InEntry o → InEntry (f o)) → Fine s → Fine (changed_object s k f)
  changed_fine s k f keeps fine = (fine.0, by_lined s.objects k f (object_at s k) keeps fine.1 (object_lined s k fine))

  declared_fine : (s : Scoped) (linkage constant : Bool) (name : List ℕ) (k : Option ℕ) (x : CType × Bool) (whole : Bool) (line : ℕ) → P line → Fine s → Fine (declared_object s linkage constant name k x whole line).1
  declared_fine s linkage constant name None x whole line p fine = (fine.0, pushed InEntry s.objects (first_declared constant x whole line) fine.1 p)
  declared_fine s linkage constant name (Some k) x whole line p fine = changed_fine s k (λ o. declared_again o x whole) (λ o h. h) fine

  initialized_fine : (t : Scoped) (k : ℕ) (v : Option Value) → Fine t → Fine (initialized_object t k v)
  initialized_fine t k None h = h
  initialized_fine t k (Some v) h = changed_fine t k _ (λ o g. g) h

  object_good : (r : Region) (is_extern : Bool) (s : Scoped) (base : Named) (d : Full) (i : Option Initial) (x : Derivation) → Fine s → InDeclarator P d → Good Fine (object_by r is_extern s base d i x)
  object_good r is_extern s base d i (lengths ls) fine p =
      pass Fine (on_line (full_line d) (object_entry_node s base.constant (earlier_linked r is_extern s (name_of d)) (linked_object r is_extern s (name_of d)) (object_entry_type s.records.done base.type is_extern i ls) (stated_type s.records.done base.type ls) i)) _ (λ x.
      pass Fine (may_define (full_line d) r is_extern i) _ (λ may.
      let within = declared_object s (r.is_file || is_extern) base.constant (name_of d) (linked_object r is_extern s (name_of d)) (counted_by (is_some i && is_open ls) x (element_of x.0)) (not is_extern || is_some i) (full_line d) in
      pass Fine (initializer_of true (full_line d) within.1 x.0 i) _ (λ v.
      ok Fine (initialized_object (changed_object within.1 within.0 (λ o. declared_again o x (not is_extern || is_some i))) within.0 v)
      (initialized_fine (changed_object within.1 within.0 (λ o. declared_again o x (not is_extern || is_some i))) within.0 v
      (changed_fine within.1 within.0 (λ o. declared_again o x (not is_extern || is_some i)) (λ o h. h)
      (declared_fine s (r.is_file || is_extern) base.constant (name_of d) (linked_object r is_extern s (name_of d)) (counted_by (is_some i && is_open ls) x (element_of x.0)) (not is_extern || is_some i) (full_line d) p.0 fine))))))
  object_good r is_extern s base d i (callable made) fine p = function_good r s d i made fine p

  objects_good : (r : Region) (is_extern : Bool) (s : Scoped) (base : Named) (ds : Declarators) → Fine s → InDeclarators P ds → Good Fine (typed_objects r is_extern s base ds)
  objects_good r is_extern s base none_declared fine lined = ok _ _ fine
  objects_good r is_extern s base (declarator d i rest) fine lined =
      bind (λ x. Fine x.1) Fine (typed_full s d) _ (full_good s d fine) (λ x h.
      bind Fine Fine (object_by r is_extern x.1 base d i (derivation x.1.functions x.1.records.done base x.0)) _ (object_good r is_extern x.1 base d i (derivation x.1.functions x.1.records.done base x.0) h lined.0)
      (λ t k. objects_good r is_extern t base rest k lined.2))

  pub others_good : (r : Region) (x : Specification) (role : Role) (ds : Declarators) → Fine x.scope → InDeclarators P ds → Good Fine (typed_others r x role ds)
  others_good r x roles.Typedef ds fine lined = typedefs_good r x.scope x.type ds fine
  others_good r x roles.Extern ds fine lined = objects_good r true x.scope x.type ds fine lined
  others_good r x roles.Static ds fine lined = objects_good r false x.scope x.type ds fine lined
  others_good r x roles.Automatic ds fine lined = objects_good r false x.scope x.type ds fine lined

  -- ---- variables, in front of what stands behind them

  abbrev pub FineItems : cores.Items × Scoped → Type 0
  FineItems y = InItems P y.0 × Fine y.1

  abbrev pub Behind : (Scoped → Typed) → Type 0
  Behind behind = (t : Scoped) → Fine t → Good FineItems (behind t)

  pub in_front_good : (item : cores.Items → cores.Items) (behind : Typed) → ((rest : cores.Items) → InItems P rest → InItems P (item rest)) → Good FineItems behind → Good FineItems (in_front item behind)
  in_front_good item behind leads good = bind FineItems FineItems behind _ good (λ y h. ok FineItems _ (leads y.0 h.0, h.1))

  item_lined : (line variable : ℕ) (passed : Bool) (v : Option Value) (rest : cores.Items) → P line → Holds (InValue P) v → InItems P rest → InItems P (declared_item line variable passed v rest)
  item_lined line variable passed None rest p h g = (p, g)
  item_lined line variable passed (Some (number_value x)) rest p h g = (p, h, g)
  item_lined line variable passed (Some (structure_value a)) rest p h g = (p, h, g)

  variable_good : (r : Region) (s : Scoped) (base : Named) (d : Full) (i : Option Initial) (passed : Bool) (x : Derivation) (behind : Scoped → Typed) → Fine s → InDeclarator P d → InInitializer P i → Behind behind → Good FineItems (variable_by r s base d i passed x behind)
  variable_good r s base d i passed (lengths ls) behind fine p q later =
      pass FineItems (variable_type r s base.type d i ls) _ (λ t.
      bind (Holds (InValue P)) FineItems (initializer_of false (full_line d) (within_initializer (is_open ls) s (name_of d) (of_type base t)) t i) _
      (initializer_good P false (full_line d) (within_initializer (is_open ls) s (name_of d) (of_type base t)) t i q) (λ x h.
      in_front_good (declared_item (full_line d) (length s.variables) passed x) (behind (with_variable s (name_of d) (of_type base t)))
      (λ rest g. item_lined (full_line d) (length s.variables) passed x rest p.0 h g) (later (with_variable s (name_of d) (of_type base t)) fine)))
  variable_good r s base d i passed (callable made) behind fine p q later = bind Fine FineItems (typed_function r s d i made) behind (function_good r s d i made fine p) later

  variables_good : (r : Region) (s : Scoped) (base : Named) (passed : Bool) (ds : Declarators) (behind : Scoped → Typed) → Fine s → InDeclarators P ds → Behind behind → Good FineItems (typed_variables r s base passed ds behind)
  variables_good r s base passed none_declared behind fine lined later = later s fine
  variables_good r s base passed (declarator d i rest) behind fine lined later =
      bind (λ x. Fine x.1) FineItems (typed_full s d) _ (full_good s d fine) (λ x h.
      variable_good r x.1 base d i passed (derivation x.1.functions x.1.records.done base x.0) _ h lined.0 lined.1 (λ t k. variables_good r t base passed rest behind k lined.2 later))

  by_good : (r : Region) (x : Specification) (role : Role) (passed : Bool) (ds : Declarators) (behind : Scoped → Typed) → Fine x.scope → InDeclarators P ds → Behind behind → Good FineItems (typed_by r x role passed ds behind)
  by_good r x roles.Typedef passed ds behind fine lined later = bind Fine FineItems (typed_others r x roles.Typedef ds) behind (others_good r x roles.Typedef ds fine lined) later
  by_good r x roles.Extern passed ds behind fine lined later = bind Fine FineItems (typed_others r x roles.Extern ds) behind (others_good r x roles.Extern ds fine lined) later
  by_good r x roles.Static passed ds behind fine lined later = bind Fine FineItems (typed_others r x roles.Static ds) behind (others_good r x roles.Static ds fine lined) later
  by_good r x roles.Automatic passed ds behind fine lined later = variables_good r x.scope x.type passed ds behind fine lined later

  pub declaration_good : (r : Region) (s : Scoped) (passed : Bool) (parts : Parts) (ds : Declarators) (behind : Scoped → Typed) → Fine s → InDeclarators P ds → Behind behind → Good FineItems (typed_declaration r s passed parts ds behind)
  declaration_good r s passed parts ds behind fine lined later =
      bind (λ x. Fine x.scope) FineItems (typed_specifiers r s parts ds) _ (specifiers_good r s parts ds fine) (λ x h. by_good r x x.role passed ds behind h lined later)
