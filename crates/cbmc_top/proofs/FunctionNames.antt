-- The names of a typed file's functions are names of its declarators.
use Rattle.std.proofs.Common.{◌≡◌, ℕ, zero, suc, ◌+◌, Bool, true, false, List, [], ◌∷◌, ◌++◌, length, map, Option, Some, None, option_map, Result, Ok, Err, refl, sym, ap, subst, ◌∙◌}
use Rattle.std.specs.Prelude.{◌&&◌, ◌||◌, not, is_some, slice_get, slice_set, if◌then◌else◌}
use Rattle.c_tree.specs.declared.specifier.TagKind.{TagKind}
use Rattle.c_tree.specs.declared.specifier.TagKind.TheVariants as tag_kinds
use Rattle.c_tree.specs.Tree.{Tree, TypePart, qualified, word, tagged, typedef_name}
use Rattle.c_tree.specs.Declarations.{Enumerated, Part, type_part, storage, function, structure, enumeration, Parts, no_part, part, Members, no_member, members, Full, full_unnamed, full_named, full_inside, full_pointing, Fulls, no_full, full, FullSuffixes, full_end, full_bounded, full_open, full_empty, full_void, full_parameters, Parameters, no_parameter, parameter, Initial, Declarators, none_declared, declarator, name_of, full_has_name, parts_line}
use Rattle.c_tree.specs.Statements.{Statement, block, if_then, if_else, evaluate, return_nothing, return_value, empty, while_loop, do_loop, for_loop, for_declared, switch_on, case_of, default_of, labelled, goto_label, break_off, continue_on, Items, done, declares, does, Externals, no_more, declared, defines}
use Rattle.c_types.specs.Types.{CType, Completed}
use Rattle.c_types.specs.Layouts.{is_completed, kind_at}
use Rattle.c_types.specs.declared.types.RecordKind.{RecordKind}
use Rattle.core_tree.specs.Trees.{Procedure, TypedFile}
use Rattle.core_tree.specs.Trees as cores
use Rattle.c_scope.specs.declared.meaning.Meaning.{Meaning}
use Rattle.c_scope.specs.declared.meaning.Meaning.TheVariants.{Record}
use Rattle.c_scope.specs.Members.{Field, field_types}
use Rattle.c_scope.specs.Scopes.{Named, FunctionType, FunctionTable, Callable, Scoped, first_scope, with_defined, linked_to, object_at, tag_of}
use Rattle.c_scope.specs.Faults.{◌>>=◌, Fault, on_line}
use Rattle.c_scope.specs.Types.{array_of, specified_type}
use Rattle.c_elab_expr.specs.Typing.{operand, operand_by, bound}
use Rattle.c_operands.specs.Operands.{Operand}
use Rattle.c_elab_base.specs.declared.regions.Region.{Region}
use Rattle.c_elab_base.specs.declared.regions.Role.{Role}
use Rattle.c_elab_base.specs.declared.regions.Role.TheVariants as roles
use Rattle.c_elab_base.specs.Regions.{built_in_function, earlier, earlier_tag}
use Rattle.c_elab_base.specs.Derivations.{Derived, Derivation, lengths, callable, derivation, full_line}
use Rattle.c_elab_type.specs.Initializers.{Value, no_initializer, initializer_of}
use Rattle.c_elab_type.specs.Enumerations.{enumerator_value, enumerator_node, with_enumerator, typed_enumerator, typed_enumerators}
use Rattle.c_elab_base.specs.Tags.{kind_of, is_kind, with_record, with_tagged, new_tag, found_tag, tag_named, forward_tag, Opened, new_record, open_tag, opened, reopened, closed_scope, completed, closed, members_fit, enumeration_tag, enumeration_closed}
use Rattle.c_elab_base.specs.Declarators.{with_typedef, with_function_typedef, within_initializer, typedef_node, function_typedef_node, is_open, of_type, with_variable}
use Rattle.c_elab_type.specs.Declarators.{Typed, typed_typedef, typed_function_typedef, typed_variable, in_front, variable_type, declared_item}
use Rattle.c_elab_base.specs.Specifiers.{Fields, Parted, Passed, with_named, with_type_part, fields_within, fields_out, with_members, said_before, fields_behind, with_anonymous, has_untagged, is_none, is_anonymous, with_member, with_field, judged_parameter, declared_parameter, ended, inner_region, are_several, parted, named_parts, counted_in_front, called_in_front, lone_tag, with_lone, role_of}
use Rattle.c_elab_type.specs.Specifiers.{Specification, typed_enumeration, said_bound, typed_part, typed_parts, typed_members, typed_fields, typed_full, typed_suffixes, typed_parameters, typed_specifiers}
use Rattle.c_elab_object.specs.ObjectEntries.{typed_object, with_object, changed_object, added_object, declared_object, initialized_object, object_entry_node, earlier_linked, linked_object, object_entry_type, stated_type, may_define, counted_by, element_of, declared_again}
use Rattle.c_elab_object.specs.Functions.{function_node, first_callable, callable_again, changed_callable, declared_callable, declared_function, declared_or_built_in, with_meaning, typed_function}
use Rattle.c_elab_object.specs.DeclaratorLists.{typedef_by, typed_typedefs, object_by, typed_objects, variable_by, typed_variables, typed_others, typed_by, typed_declaration, in_file, typed_outside}
use Rattle.c_elab_flow.specs.Jumps.{jumps_in, is_passed}
use Rattle.c_elab_flow.specs.Nodes.{Around, in_loop, in_switch, with_loop, with_label, with_switch, switch_type, part_ignored, part_tested, return_node, return_nothing_node, jump_node, test_node, switch_value, case_node, default_node, label_node}
use Rattle.c_elab_decl.specs.Statements.{TypedStatement, TypedFront, in_block, as_block, own_block, as_items, switch_of, typed_rest, typed_statement, typed_front, typed_items}
use Rattle.c_elab_flow.specs.Files.{one_function, own_parameters, Definition, procedure_of, with_body, with_bodies}
use Rattle.c_elab_decl.specs.Files.{own_suffixes, definition_type, within_body, typed_body_of, outside, own_number, typed_definition, typed_externals, with_definitions, elaborated}

module _ (P : List ℕ → Type 0) where
  -- ---- the names of a tree's declarators

  abbrev pub AreNamed : Declarators → Type 0
  AreNamed none_declared = Unit {0}
  AreNamed (declarator d i rest) = P (name_of d) × AreNamed rest

  abbrev mutual
    pub StatementNamed : Statement → Type 0
    StatementNamed (block line is) = ItemsNamed is
    StatementNamed (if_then line test s) = StatementNamed s
    StatementNamed (if_else line test s u) = StatementNamed s × StatementNamed u
    StatementNamed (evaluate e) = Unit {0}
    StatementNamed (return_nothing line) = Unit {0}
    StatementNamed (return_value line e) = Unit {0}
    StatementNamed (empty line) = Unit {0}
    StatementNamed (while_loop line test s) = StatementNamed s
    StatementNamed (do_loop line s test) = StatementNamed s
    StatementNamed (for_loop line first test last s) = StatementNamed s
    StatementNamed (for_declared line parts ds test last s) = AreNamed ds × StatementNamed s
    StatementNamed (switch_on line value s) = StatementNamed s
    StatementNamed (case_of line value s) = StatementNamed s
    StatementNamed (default_of line s) = StatementNamed s
    StatementNamed (labelled line n s) = StatementNamed s
    StatementNamed (goto_label line n) = Unit {0}
    StatementNamed (break_off line) = Unit {0}
    StatementNamed (continue_on line) = Unit {0}

    pub ItemsNamed : Items → Type 0
    ItemsNamed done = Unit {0}
    ItemsNamed (declares parts ds rest) = AreNamed ds × ItemsNamed rest
    ItemsNamed (does s rest) = StatementNamed s × ItemsNamed rest

  abbrev pub FileNamed : Externals → Type 0
  FileNamed no_more = Unit {0}
  FileNamed (declared parts ds rest) = AreNamed ds × FileNamed rest
  FileNamed (defines parts d body rest) = P (name_of d) × StatementNamed body × FileNamed rest

  -- ---- the functions of a scope

  abbrev AllNamed : List Callable → Type 0
  AllNamed [] = Unit {0}
  AllNamed (c ∷ cs) = P c.name × AllNamed cs

  abbrev Fine : Scoped → Type 0
  Fine s = AllNamed s.functions.all

  record Good {A : Type 0} (scope : A → Scoped) (r : Result A Fault) : Type 0 where
    fine : (x : A) → r ≡ Ok x → Fine (scope x)

  abbrev itself : Scoped → Scoped
  itself s = s

  ok_is : {A : Type 0} (x y : A) (r : Result A Fault) → r ≡ Ok x → r ≡ Ok y → x ≡ y
  ok_is x y r p q = cc

  ok : {A : Type 0} (scope : A → Scoped) (x : A) → Fine (scope x) → Good scope (Ok x)
  ok {A} scope x h = record { fine = λ y same. subst (λ (z : A). Fine (scope z)) (ok_is x y (Ok x) refl same) h }

  fails : {A : Type 0} (scope : A → Scoped) (f : Fault) → Good scope (Err f)
  fails scope f = record { fine = λ y same. absurd (cc) }

  bind : {A B : Type 0} (before : A → Scoped) (behind : B → Scoped) (r : Result A Fault) (f : A → Result B Fault) → Good before r → ((x : A) → Fine (before x) → Good behind (f x)) → Good behind (r >>= f)
  bind before behind (Ok x) f good later = later x (good.fine x refl)
  bind before behind (Err e) f good later = fails behind e

  pass : {A B : Type 0} (behind : B → Scoped) (r : Result A Fault) (f : A → Result B Fault) → ((x : A) → Good behind (f x)) → Good behind (r >>= f)
  pass behind (Ok x) f later = later x
  pass behind (Err e) f later = fails behind e

  either : (b : Bool) (x y : Scoped) → Fine x → Fine y → Fine (if b then x else y)
  either true x y h g = h
  either false x y h g = g

  pushed : (cs : List Callable) (c : Callable) → AllNamed cs → P c.name → AllNamed (cs ++ c ∷ [])
  pushed [] c all p = (p, tt)
  pushed (x ∷ cs) c all p = (all.0, pushed cs c all.1 p)

  replaced : (cs : List Callable) (k : ℕ) (c : Callable) → AllNamed cs → P c.name → AllNamed (slice_set cs k c)
  replaced [] k c all p = tt
  replaced (x ∷ cs) zero c all p = (p, all.1)
  replaced (x ∷ cs) (suc k) c all p = (all.0, replaced cs k c all.1 p)

  found : (cs : List Callable) (k : ℕ) (c : Callable) → slice_get cs k ≡ Some c → AllNamed cs → P c.name
  found [] k c h all = absurd (cc)
  found (x ∷ cs) zero c h all = let same : x ≡ c = cc in subst (λ (y : Callable). P y.name) same all.0
  found (x ∷ cs) (suc k) c h all = found cs k c h all.1

  -- ---- specifiers

  enumerators_good : (r : Region) (s : Scoped) (previous : Option ℕ) (es : List Enumerated) → Fine s → Good itself (typed_enumerators r s previous es)
  enumerators_good r s previous [] fine = ok _ _ fine
  enumerators_good r s previous (e ∷ es) fine =
      bind (λ (x : ℕ × Scoped). x.1) itself (typed_enumerator r s previous e) _ (pass _ (enumerator_value s previous e.value) _ (λ value. pass _ (on_line e.line (enumerator_node (earlier r s e.name) value)) _ (λ bits. ok _ _ fine)))
      (λ x h. enumerators_good r x.1 (Some x.0) es h)

  new_tag_fine : (s : Scoped) (kind : TagKind) (name : List ℕ) → Fine s → Fine (new_tag s kind name).1
  new_tag_fine s tag_kinds.Struct name fine = fine
  new_tag_fine s tag_kinds.Union name fine = fine
  new_tag_fine s tag_kinds.Enum name fine = fine

  found_tag_fine : (s : Scoped) (kind : TagKind) (name : List ℕ) (m : Option Meaning) → Fine s → Fine (found_tag s kind name m).1
  found_tag_fine s kind name None fine = new_tag_fine s kind name fine
  found_tag_fine s kind name (Some m) fine = fine

  forward_fine : (s : Scoped) (kind : TagKind) (name : List ℕ) (m : Option Meaning) → Fine s → Fine (forward_tag s kind name m)
  forward_fine s kind name None fine = new_tag_fine s kind name fine
  forward_fine s kind name (Some m) fine = fine

  opened_by : (b : Bool) (x y : Opened) → Fine x.scope → Fine y.scope → Fine (if b then x else y).scope
  opened_by true x y h g = h
  opened_by false x y h g = g

  open_tag_fine : (s : Scoped) (kind : RecordKind) (name : List ℕ) (m : Option Meaning) → Fine s → Fine (open_tag s kind name m).scope
  open_tag_fine s kind name None fine = fine
  open_tag_fine s kind name (Some (Record p)) fine = opened_by (is_kind (kind_at s.records p) kind) _ _ fine fine
  open_tag_fine s kind name (Some _) fine = fine

  opened_fine : (r : Region) (s : Scoped) (kind : RecordKind) (tag : Option (List ℕ)) → Fine s → Fine (opened r s kind tag).scope
  opened_fine r s kind None fine = fine
  opened_fine r s kind (Some name) fine = open_tag_fine s kind name (earlier_tag r s name) fine

  reopened_fine : (p : ℕ) (clash : Bool) (kind : RecordKind) (s : Scoped) → Fine s → Fine (reopened p clash kind s).scope
  reopened_fine p clash kind s fine = opened_by (is_completed s.records.done p) _ _ fine fine

  closed_scope_fine : (o : Opened) (fs : List Field) (fit : Result (Unit {0}) ℕ) → Fine o.scope → Fine (closed_scope o fs fit)
  closed_scope_fine o fs (Ok u) fine = fine
  closed_scope_fine o fs (Err rule) fine = fine

  closed_by : (b : Bool) (x y : Result Named ℕ × Scoped) → Fine x.1 → Fine y.1 → Fine (if b then x else y).1
  closed_by true x y h g = h
  closed_by false x y h g = g

  closed_fine : (o : Opened) (fs : List Field) → Fine o.scope → Fine (closed o fs).1
  closed_fine o fs fine = closed_by (is_completed o.scope.records.done o.place) _ _ fine (closed_scope_fine o fs (members_fit o.scope.records o.place (field_types fs)) fine)

  enumeration_fine : (r : Region) (s : Scoped) (tag : Option (List ℕ)) → Fine s → Fine (enumeration_closed r s tag).1
  enumeration_fine r s None fine = fine
  enumeration_fine r s (Some name) fine = by_meaning (earlier_tag r s name)
    where
      by_meaning : (m : Option Meaning) → Fine (enumeration_tag s name m).1
      by_meaning None = fine
      by_meaning (Some m) = fine

  type_part_fine : (p : Parted) (t : TypePart) → Fine p.scope → Fine (with_type_part p t).scope
  type_part_fine p (qualified line q) fine = fine
  type_part_fine p (word line w) fine = fine
  type_part_fine p (tagged line kind name) fine = found_tag_fine p.scope kind name (tag_of p.scope.bindings name) fine
  type_part_fine p (typedef_name line name) fine = fine

  fields_out_good : (anonymous : Bool) (names : List (List ℕ)) (fields : Result Fields Fault) → Good (λ f. f.scope) fields → Good (λ f. f.scope) (fields_out anonymous names fields)
  fields_out_good anonymous names (Ok f) good = ok _ _ (good.fine f refl)
  fields_out_good anonymous names (Err e) good = fails _ e

  members_good : (p : Parted) (o : Opened) (kind : RecordKind) (fields : Result Fields Fault) → Good (λ f. f.scope) fields → Good (λ q. q.scope) (with_members p o kind fields)
  members_good p o kind (Ok f) good = ok _ _ (closed_fine (reopened o.place o.clashes kind f.scope) f.fields (reopened_fine o.place o.clashes kind f.scope (good.fine f refl)))
  members_good p o kind (Err e) good = fails _ e

  anonymous_fine : (b : Bool) (n : Named) (f : Fields) → Fine f.scope → Fine (with_anonymous b n f).scope
  anonymous_fine true n f fine = fine
  anonymous_fine false n f fine = fine

  front_good : {A B : Type 0} (r : Result (A × Scoped) Fault) (f : A × Scoped → Result (B × Scoped) Fault) → Good (λ x. x.1) r → ((x : A × Scoped) → Fine x.1 → Good (λ y. y.1) (f x)) → Good (λ y. y.1) (r >>= f)
  front_good r f good later = bind (λ x. x.1) (λ y. y.1) r f good later

  parameter_fine : (b : Bool) (s t : Scoped) → Fine s → Fine t → Fine (if b then s else t)
  parameter_fine true s t h g = h
  parameter_fine false s t h g = g

  mutual
    part_good : (r : Region) (alone : Bool) (p : Parted) (x : Part) → Fine p.scope → Good (λ q. q.scope) (typed_part r alone p x)
    part_good r alone p (type_part t) fine = ok _ _ (type_part_fine p t fine)
    part_good r alone p (storage line class) fine = ok _ _ fine
    part_good r alone p (function line w) fine = ok _ _ fine
    part_good r alone p (structure line kind tag ms) fine =
        members_good p (opened r p.scope (kind_of kind) tag) (kind_of kind) _
        (fields_out_good (is_anonymous alone tag) p.names _ (member_declarations_good r (fields_within (is_anonymous alone tag) p.names (opened r p.scope (kind_of kind) tag).scope) ms (opened_fine r p.scope (kind_of kind) tag fine)))
    part_good r alone p (enumeration line tag es) fine =
        bind itself (λ q. q.scope) (typed_enumerators r p.scope None es) _ (enumerators_good r p.scope None es fine) (λ s h. ok _ _ (enumeration_fine r s tag h))

    parts_good : (r : Region) (alone : Bool) (p : Parted) (xs : Parts) → Fine p.scope → Good (λ q. q.scope) (typed_parts r alone p xs)
    parts_good r alone p no_part fine = ok _ _ fine
    parts_good r alone p (part first rest) fine = bind (λ q. q.scope) (λ q. q.scope) (typed_part r alone p first) _ (part_good r alone p first fine) (λ q h. parts_good r alone q rest h)

    member_declarations_good : (r : Region) (f : Fields) (ms : Members) → Fine f.scope → Good (λ g. g.scope) (typed_members r f ms)
    member_declarations_good r f no_member fine = ok _ _ fine
    member_declarations_good r f (members parts ds rest) fine =
        bind (λ q. q.scope) (λ g. g.scope) (typed_parts r (is_none ds) (said_before f) parts) _ (parts_good r (is_none ds) (said_before f) parts fine) (λ p h.
        pass (λ g. g.scope) (on_line (parts_line parts) (specified_type p.specified)) _ (λ n.
        bind (λ g. g.scope) (λ g. g.scope) (typed_fields r n (fields_behind f parts ds p n) ds) _
        (fields_good r n (fields_behind f parts ds p n) ds (anonymous_fine (is_none ds && has_untagged parts) n (record { fields = f.fields; names = p.names; scope = p.scope }) h))
        (λ g k. member_declarations_good r g rest k)))

    fields_good : (r : Region) (base : Named) (f : Fields) (ds : Fulls) → Fine f.scope → Good (λ g. g.scope) (typed_fields r base f ds)
    fields_good r base f no_full fine = ok _ _ fine
    fields_good r base f (full d ds) fine =
        bind (λ x. x.1) (λ g. g.scope) (typed_full f.scope d) _ (full_good f.scope d fine) (λ x h.
        bind (λ g. g.scope) (λ g. g.scope) (with_member base (record f { scope = x.1 }) d x.0) _ (pass (λ g. g.scope) _ _ (λ t. ok _ _ h)) (λ g k. fields_good r base g ds k))

    full_good : (s : Scoped) (d : Full) → Fine s → Good (λ x. x.1) (typed_full s d)
    full_good s (full_unnamed suffixes) fine = suffixes_good s suffixes fine
    full_good s (full_named line n suffixes) fine = suffixes_good s suffixes fine
    full_good s (full_inside line d suffixes) fine = front_good (typed_full s d) _ (full_good s d fine) (λ inner h. front_good (typed_suffixes inner.1 suffixes) _ (suffixes_good inner.1 suffixes h) (λ outer k. ok _ _ k))
    full_good s (full_pointing line qs d) fine = fails _ _

    suffixes_good : (s : Scoped) (x : FullSuffixes) → Fine s → Good (λ y. y.1) (typed_suffixes s x)
    suffixes_good s full_end fine = ok _ _ fine
    suffixes_good s (full_bounded line e rest) fine = pass (λ y. y.1) (said_bound s e) _ (λ n. front_good (typed_suffixes s rest) _ (suffixes_good s rest fine) (λ x h. ok _ _ h))
    suffixes_good s (full_open line rest) fine = front_good (typed_suffixes s rest) _ (suffixes_good s rest fine) (λ x h. ok _ _ h)
    suffixes_good s (full_empty line rest) fine = front_good (typed_suffixes s rest) _ (suffixes_good s rest fine) (λ x h. ok _ _ h)
    suffixes_good s (full_void line rest) fine = front_good (typed_suffixes s rest) _ (suffixes_good s rest fine) (λ x h. ok _ _ h)
    suffixes_good s (full_parameters line ps variadic rest) fine =
        bind (λ p. p.scope) (λ y. y.1) (typed_parameters (inner_region s) (are_several ps) (record { parameters = []; scope = s }) ps) _
        (parameters_good (inner_region s) (are_several ps) (record { parameters = []; scope = s }) ps fine)
        (λ p h. front_good (typed_suffixes (ended s p.scope) rest) _ (suffixes_good (ended s p.scope) rest h) (λ x k. ok _ _ k))

    parameters_good : (r : Region) (several : Bool) (p : Passed) (ps : Parameters) → Fine p.scope → Good (λ q. q.scope) (typed_parameters r several p ps)
    parameters_good r several p no_parameter fine = ok _ _ fine
    parameters_good r several p (parameter parts d rest) fine =
        bind (λ x. x.1) (λ q. q.scope) (named_parts parts (typed_parts r false (parted [] p.scope) parts)) _
        (bind (λ q. q.scope) (λ x. x.1) (typed_parts r false (parted [] p.scope) parts) _ (parts_good r false (parted [] p.scope) parts fine) (λ q h. pass (λ x. x.1) (on_line (parts_line parts) (specified_type q.specified)) _ (λ n. ok _ _ h)))
        (λ x h. bind (λ q. q.scope) (λ q. q.scope) (judged_parameter r several p parts x.0 d (typed_full x.1 d)) _
        (bind (λ y. y.1) (λ q. q.scope) (typed_full x.1 d) _ (full_good x.1 d h) (λ y k. pass (λ q. q.scope) _ _ (λ t. ok _ _ (parameter_fine _ _ _ k k))))
        (λ q k. parameters_good r several q rest k))

  lone_fine : (r : Region) (s : Scoped) (tag : Option (TagKind × List ℕ)) → Fine s → Fine (with_lone r s tag)
  lone_fine r s None fine = fine
  lone_fine r s (Some tag) fine = forward_fine s tag.0 tag.1 (earlier_tag r s tag.1) fine

  specifiers_good : (r : Region) (s : Scoped) (parts : Parts) (ds : Declarators) → Fine s → Good (λ x. x.scope) (typed_specifiers r s parts ds)
  specifiers_good r s parts ds fine =
      bind (λ q. q.scope) (λ x. x.scope) (typed_parts r false (record (parted [] s) { scope = with_lone r s (lone_tag parts ds) }) parts) _
      (parts_good r false (record (parted [] s) { scope = with_lone r s (lone_tag parts ds) }) parts (lone_fine r s (lone_tag parts ds) fine))
      (λ p h. pass (λ x. x.scope) (on_line (parts_line parts) (specified_type p.specified)) _ (λ t. ok _ _ h))

  -- ---- declarators

  callable_fine : (s : Scoped) (d : Full) (f : FunctionType) (whole : Bool) (k : Option ℕ) → Fine s → P (name_of d) → AllNamed (declared_callable s.functions d f whole k).1.all
  callable_fine s d f whole None fine p = pushed s.functions.all (first_callable s.functions d f whole) fine p
  callable_fine s d f whole (Some k) fine p = by_found (slice_get s.functions.all k) refl
    where
      again : (b : Bool) (c : Callable) → P c.name → P (if b then record c { line = (callable_again d true c).line; defined = true } else c).name
      again true c q = q
      again false c q = q

      by_found : (x : Option Callable) → slice_get s.functions.all k ≡ x → AllNamed (changed_callable s.functions.all k (callable_again d whole) x)
      by_found None h = fine
      by_found (Some c) h = replaced s.functions.all k (callable_again d whole c) fine (again whole c (found s.functions.all k c h fine))

  function_good : (r : Region) (s : Scoped) (d : Full) (i : Option Initial) (made : Result FunctionType ℕ) → Fine s → P (name_of d) → Good itself (typed_function r s d i made)
  function_good r s d i made fine p =
      pass itself (on_line (full_line d) (function_node s false (name_of d) (earlier r s (name_of d)) made)) _ (λ f.
      pass itself (no_initializer (full_line d) (declared_or_built_in s d f (built_in_function (name_of d))) i) _ (λ none.
      ok itself (declared_or_built_in s d f (built_in_function (name_of d))) (by_built_in f (built_in_function (name_of d)))))
    where
      by_built_in : (f : FunctionType) (m : Option Meaning) → Fine (declared_or_built_in s d f m)
      by_built_in f None = callable_fine s d f false (linked_to s.functions.named (name_of d)) fine p
      by_built_in f (Some m) = fine

  typedef_good : (r : Region) (s : Scoped) (base : Named) (d : Full) (i : Option Initial) (x : Derivation) → Fine s → Good itself (typedef_by r s base d i x)
  typedef_good r s base d i (lengths ls) fine =
      pass itself (on_line (full_line d) (typedef_node s.types base.constant (earlier r s (name_of d)) (array_of s.records.done base.type ls))) _ (λ n.
      pass itself (no_initializer (full_line d) (with_typedef s (name_of d) n) i) _ (λ none. ok itself (with_typedef s (name_of d) n) fine))
  typedef_good r s base d i (callable made) fine =
      pass itself (on_line (full_line d) (function_typedef_node s (earlier r s (name_of d)) made)) _ (λ f.
      pass itself (no_initializer (full_line d) (with_function_typedef s (name_of d) f) i) _ (λ none. ok itself (with_function_typedef s (name_of d) f) fine))

  typedefs_good : (r : Region) (s : Scoped) (base : Named) (ds : Declarators) → Fine s → Good itself (typed_typedefs r s base ds)
  typedefs_good r s base none_declared fine = ok _ _ fine
  typedefs_good r s base (declarator d i rest) fine =
      bind (λ x. x.1) itself (typed_full s d) _ (full_good s d fine) (λ x h.
      bind itself itself (typedef_by r x.1 base d i (derivation x.1.functions x.1.records.done base x.0)) _ (typedef_good r x.1 base d i (derivation x.1.functions x.1.records.done base x.0) h) (λ t k. typedefs_good r t base rest k))

  declared_fine : (s : Scoped) (linkage constant : Bool) (name : List ℕ) (k : Option ℕ) (x : CType × Bool) (whole : Bool) (line : ℕ) → Fine s → Fine (declared_object s linkage constant name k x whole line).1
  declared_fine s linkage constant name None x whole line fine = fine
  declared_fine s linkage constant name (Some k) x whole line fine = fine

  object_good : (r : Region) (is_extern : Bool) (s : Scoped) (base : Named) (d : Full) (i : Option Initial) (x : Derivation) → Fine s → P (name_of d) → Good itself (object_by r is_extern s base d i x)
  object_good r is_extern s base d i (lengths ls) fine p =
      pass itself (on_line (full_line d) (object_entry_node s base.constant (earlier_linked r is_extern s (name_of d)) (linked_object r is_extern s (name_of d)) (object_entry_type s.records.done base.type is_extern i ls) (stated_type s.records.done base.type ls) i)) _ (λ x.
      pass itself (may_define (full_line d) r is_extern i) _ (λ may.
      let within = declared_object s (r.is_file || is_extern) base.constant (name_of d) (linked_object r is_extern s (name_of d)) (counted_by (is_some i && is_open ls) x (element_of x.0)) (not is_extern || is_some i) (full_line d) in
      pass itself (initializer_of true (full_line d) within.1 x.0 i) _ (λ v.
      ok itself (initialized_object (changed_object within.1 within.0 (λ o. declared_again o x (not is_extern || is_some i))) within.0 v)
      (initialized_fine (changed_object within.1 within.0 (λ o. declared_again o x (not is_extern || is_some i))) within.0 v
      (declared_fine s (r.is_file || is_extern) base.constant (name_of d) (linked_object r is_extern s (name_of d)) (counted_by (is_some i && is_open ls) x (element_of x.0)) (not is_extern || is_some i) (full_line d) fine)))))
    where
      initialized_fine : (t : Scoped) (k : ℕ) (v : Option Value) → Fine t → Fine (initialized_object t k v)
      initialized_fine t k None h = h
      initialized_fine t k (Some v) h = h
  object_good r is_extern s base d i (callable made) fine p = function_good r s d i made fine p

  objects_good : (r : Region) (is_extern : Bool) (s : Scoped) (base : Named) (ds : Declarators) → Fine s → AreNamed ds → Good itself (typed_objects r is_extern s base ds)
  objects_good r is_extern s base none_declared fine named = ok _ _ fine
  objects_good r is_extern s base (declarator d i rest) fine named =
      bind (λ x. x.1) itself (typed_full s d) _ (full_good s d fine) (λ x h.
      bind itself itself (object_by r is_extern x.1 base d i (derivation x.1.functions x.1.records.done base x.0)) _ (object_good r is_extern x.1 base d i (derivation x.1.functions x.1.records.done base x.0) h named.0)
      (λ t k. objects_good r is_extern t base rest k named.1))

  others_good : (r : Region) (x : Specification) (role : Role) (ds : Declarators) → Fine x.scope → AreNamed ds → Good itself (typed_others r x role ds)
  others_good r x roles.Typedef ds fine named = typedefs_good r x.scope x.type ds fine
  others_good r x roles.Extern ds fine named = objects_good r true x.scope x.type ds fine named
  others_good r x roles.Static ds fine named = objects_good r false x.scope x.type ds fine named
  others_good r x roles.Automatic ds fine named = objects_good r false x.scope x.type ds fine named

  abbrev Behind : (Scoped → Typed) → Type 0
  Behind behind = (t : Scoped) → Fine t → Good (λ y. y.1) (behind t)

  in_front_good : (item : cores.Items → cores.Items) (behind : Typed) → Good (λ y. y.1) behind → Good (λ y. y.1) (in_front item behind)
  in_front_good item (Ok y) good = ok _ _ (good.fine y refl)
  in_front_good item (Err e) good = fails _ e

  variable_good : (r : Region) (s : Scoped) (base : Named) (d : Full) (i : Option Initial) (passed : Bool) (x : Derivation) (behind : Scoped → Typed) → Fine s → P (name_of d) → Behind behind → Good (λ y. y.1) (variable_by r s base d i passed x behind)
  variable_good r s base d i passed (lengths ls) behind fine p later =
      pass (λ y. y.1) (variable_type r s base.type d i ls) _ (λ t.
      pass (λ y. y.1) (initializer_of false (full_line d) (within_initializer (is_open ls) s (name_of d) (of_type base t)) t i) _ (λ x.
      in_front_good (declared_item (full_line d) (length s.variables) passed x) (behind (with_variable s (name_of d) (of_type base t))) (later (with_variable s (name_of d) (of_type base t)) fine)))
  variable_good r s base d i passed (callable made) behind fine p later = bind itself (λ y. y.1) (typed_function r s d i made) behind (function_good r s d i made fine p) later

  variables_good : (r : Region) (s : Scoped) (base : Named) (passed : Bool) (ds : Declarators) (behind : Scoped → Typed) → Fine s → AreNamed ds → Behind behind → Good (λ y. y.1) (typed_variables r s base passed ds behind)
  variables_good r s base passed none_declared behind fine named later = later s fine
  variables_good r s base passed (declarator d i rest) behind fine named later =
      bind (λ x. x.1) (λ y. y.1) (typed_full s d) _ (full_good s d fine) (λ x h.
      variable_good r x.1 base d i passed (derivation x.1.functions x.1.records.done base x.0) _ h named.0 (λ t k. variables_good r t base passed rest behind k named.1 later))

  by_good : (r : Region) (x : Specification) (role : Role) (passed : Bool) (ds : Declarators) (behind : Scoped → Typed) → Fine x.scope → AreNamed ds → Behind behind → Good (λ y. y.1) (typed_by r x role passed ds behind)
  by_good r x roles.Typedef passed ds behind fine named later = bind itself (λ y. y.1) (typed_others r x roles.Typedef ds) behind (others_good r x roles.Typedef ds fine named) later
  by_good r x roles.Extern passed ds behind fine named later = bind itself (λ y. y.1) (typed_others r x roles.Extern ds) behind (others_good r x roles.Extern ds fine named) later
  by_good r x roles.Static passed ds behind fine named later = bind itself (λ y. y.1) (typed_others r x roles.Static ds) behind (others_good r x roles.Static ds fine named) later
  by_good r x roles.Automatic passed ds behind fine named later = variables_good r x.scope x.type passed ds behind fine named later

  declaration_good : (r : Region) (s : Scoped) (passed : Bool) (parts : Parts) (ds : Declarators) (behind : Scoped → Typed) → Fine s → AreNamed ds → Behind behind → Good (λ y. y.1) (typed_declaration r s passed parts ds behind)
  declaration_good r s passed parts ds behind fine named later =
      bind (λ x. x.scope) (λ y. y.1) (typed_specifiers r s parts ds) _ (specifiers_good r s parts ds fine) (λ x h. by_good r x x.role passed ds behind h named later)

  -- ---- statements

  block_good : (outer : Scoped) (items : Typed) → Good (λ y. y.1) items → Good (λ y. y.1) (as_block outer items)
  block_good outer (Ok y) good = ok _ _ (good.fine y refl)
  block_good outer (Err e) good = fails _ e

  own_good : (outer : Scoped) (items : Typed) → Good (λ y. y.1) items → Good (λ y. y.1) (own_block outer items)
  own_good outer (Ok y) good = ok _ _ (good.fine y refl)
  own_good outer (Err e) good = fails _ e

  items_as_good : (body : TypedStatement) → Good (λ y. y.1) body → Good (λ y. y.1) (as_items body)
  items_as_good (Ok y) good = ok _ _ (good.fine y refl)
  items_as_good (Err e) good = fails _ e

  switch_good : (s : Scoped) (line : ℕ) (x : Operand) (items : Typed) → Good (λ y. y.1) items → Good (λ y. y.1) (switch_of s line x items)
  switch_good s line x items good = bind (λ y. y.1) (λ y. y.1) items _ good (λ y h. pass (λ z. z.1) _ _ (λ v. ok _ _ h))

  rest_good : (line loop : ℕ) (first : Option cores.Expression) (s : Scoped) (test last : Option Tree) (body : TypedStatement) → Good (λ y. y.1) body → Good (λ y. y.1) (typed_rest line loop first s test last body)
  rest_good line loop first s test last body good =
      pass (λ y. y.1) (part_tested s test) _ (λ x. pass (λ y. y.1) (part_ignored s last) _ (λ c. bind (λ y. y.1) (λ y. y.1) body _ good (λ y h. pass (λ z. z.1) _ _ (λ e. ok _ _ h))))

  jump_choice : (b : Bool) (x : TypedStatement) (f : Fault) → Good (λ y. y.1) x → Good (λ y. y.1) (if b then x else Err f)
  jump_choice true x f good = good
  jump_choice false x f good = fails _ f

  mutual
    statement_good : (a : Around) (s : Scoped) (x : Statement) → Fine s → StatementNamed x → Good (λ y. y.1) (typed_statement a s x)
    statement_good a s (block line is) fine named = block_good s _ (items_good a false (length s.bindings) [] s is fine named)
    statement_good a s (if_then line test one) fine named =
        pass (λ y. y.1) (operand s test) _ (λ x. bind (λ y. y.1) (λ y. y.1) (typed_statement a s one) _ (statement_good a s one fine named) (λ y h. pass (λ z. z.1) _ _ (λ e. ok _ _ h)))
    statement_good a s (if_else line test one other) fine named =
        pass (λ y. y.1) (operand s test) _ (λ x. bind (λ y. y.1) (λ y. y.1) (typed_statement a s one) _ (statement_good a s one fine named.0) (λ y h.
        bind (λ z. z.1) (λ z. z.1) (typed_statement a y.1 other) _ (statement_good a y.1 other h named.1) (λ z k. pass (λ w. w.1) _ _ (λ e. ok _ _ k))))
    statement_good a s (evaluate e) fine named = pass (λ y. y.1) (operand_by s false e) _ (λ x. ok _ _ fine)
    statement_good a s (return_nothing line) fine named = pass (λ y. y.1) (on_line line (return_nothing_node line s.flow.gives)) _ (λ c. ok _ _ fine)
    statement_good a s (return_value line e) fine named = pass (λ y. y.1) (operand s e) _ (λ x. pass (λ y. y.1) (on_line line (return_node s.records.done line s.flow.gives x)) _ (λ c. ok _ _ fine))
    statement_good a s (empty line) fine named = ok _ _ fine
    statement_good a s (while_loop line test body) fine named =
        pass (λ y. y.1) (operand s test) _ (λ x. bind (λ y. y.1) (λ y. y.1) (typed_statement (in_loop a) (with_loop s) body) _ (statement_good (in_loop a) (with_loop s) body fine named) (λ y h. pass (λ z. z.1) _ _ (λ e. ok _ _ h)))
    statement_good a s (do_loop line body test) fine named =
        bind (λ y. y.1) (λ y. y.1) (typed_statement (in_loop a) (with_loop s) body) _ (statement_good (in_loop a) (with_loop s) body fine named) (λ y h. pass (λ z. z.1) (operand y.1 test) _ (λ x. pass (λ z. z.1) _ _ (λ e. ok _ _ h)))
    statement_good a s (for_loop line first test last body) fine named =
        pass (λ y. y.1) (part_ignored s first) _ (λ b. rest_good line s.flow.loops b (with_loop s) test last _ (statement_good (in_loop a) (with_loop s) body fine named))
    statement_good a s (for_declared line parts ds test last body) fine named =
        block_good s _ (declaration_good (in_block (length s.bindings)) s false parts ds _ fine named.0 (λ t h. items_as_good _ (rest_good line t.flow.loops None (with_loop t) test last _ (statement_good (in_loop a) (with_loop t) body h named.1))))
    statement_good a s (switch_on line e (block at is)) fine named =
        pass (λ y. y.1) (operand s e) _ (λ x. switch_good s line x _ (own_good s _ (items_good (in_switch a) true (length s.bindings) [] (with_switch s (switch_type x)) is fine named)))
    statement_good a s (switch_on line e body) fine named = pass (λ y. y.1) (operand s e) _ (λ x. switch_good s line x _ (items_as_good _ (statement_good (in_switch a) (with_switch s (switch_type x)) body fine named)))
    statement_good a s (case_of line e body) fine named =
        pass (λ y. y.1) (operand s e) _ (λ x. bind (λ y. y.1) (λ y. y.1) (typed_statement a s body) _ (statement_good a s body fine named) (λ y h. pass (λ z. z.1) _ _ (λ c. ok _ _ h)))
    statement_good a s (default_of line body) fine named = bind (λ y. y.1) (λ y. y.1) (typed_statement a s body) _ (statement_good a s body fine named) (λ y h. pass (λ z. z.1) _ _ (λ c. ok _ _ h))
    statement_good a s (labelled line n body) fine named = bind (λ y. y.1) (λ y. y.1) (typed_statement a (with_label s) body) _ (statement_good a (with_label s) body fine named) (λ y h. pass (λ z. z.1) _ _ (λ new. ok _ _ h))
    statement_good a s (goto_label line n) fine named = pass (λ y. y.1) (on_line line (jump_node line a.labels n)) _ (λ c. ok _ _ fine)
    statement_good a s (break_off line) fine named = jump_choice a.breaks (Ok (cores.breaks line, s)) _ (ok _ _ fine)
    statement_good a s (continue_on line) fine named = jump_choice a.continues (Ok (cores.continues line, s)) _ (ok _ _ fine)

    front_of_good : (a : Around) (switched : Bool) (s : Scoped) (x : Statement) (elsewhere : TypedStatement) → Fine s → StatementNamed x → Good (λ y. y.1) elsewhere → Good (λ y. y.1) (typed_front a switched s x elsewhere)
    front_of_good a switched s (labelled line n body) elsewhere fine named good =
        bind (λ y. y.1) (λ y. y.1) (typed_front a switched (with_label s) body (typed_statement a (with_label s) body)) _
        (front_of_good a switched (with_label s) body (typed_statement a (with_label s) body) fine named (statement_good a (with_label s) body fine named)) (λ y h. pass (λ z. z.1) _ _ (λ new. ok _ _ h))
    front_of_good a true s (case_of line e body) elsewhere fine named good =
        pass (λ y. y.1) (operand s e) _ (λ x. bind (λ y. y.1) (λ y. y.1) (typed_front a true s body (typed_statement a s body)) _
        (front_of_good a true s body (typed_statement a s body) fine named (statement_good a s body fine named)) (λ y h. pass (λ z. z.1) _ _ (λ c. ok _ _ h)))
    front_of_good a true s (default_of line body) elsewhere fine named good =
        bind (λ y. y.1) (λ y. y.1) (typed_front a true s body (typed_statement a s body)) _ (front_of_good a true s body (typed_statement a s body) fine named (statement_good a s body fine named)) (λ y h. pass (λ z. z.1) _ _ (λ c. ok _ _ h))
    front_of_good a switched s _ elsewhere fine named good = bind (λ y. y.1) (λ y. y.1) elsewhere _ good (λ y h. ok _ _ h)

    items_good : (a : Around) (switched : Bool) (outer : ℕ) (jumped : List (List ℕ)) (s : Scoped) (is : Items) → Fine s → ItemsNamed is → Good (λ y. y.1) (typed_items a switched outer jumped s is)
    items_good a switched outer jumped s done fine named = ok _ _ fine
    items_good a switched outer jumped s (declares parts ds rest) fine named =
        declaration_good (in_block outer) s (is_passed switched jumped rest) parts ds _ fine named.0 (λ t h. items_good a switched outer jumped t rest h named.1)
    items_good a switched outer jumped s (does first rest) fine named =
        bind (λ y. y.1) (λ y. y.1) (typed_front a switched s first (typed_statement a s first)) _ (front_of_good a switched s first (typed_statement a s first) fine named.0 (statement_good a s first fine named.0))
        (λ x h. in_front_good x.0 _ (items_good a switched outer (jumped ++ jumps_in first) x.1 rest h named.1))

  -- ---- files

  own_suffixes_good : (s : Scoped) (d : Full) (own : Option (Parameters × Bool)) → Fine s → Good (λ x. x.1.scope) (own_suffixes s d own)
  own_suffixes_good s d None fine = bind (λ x. x.1) (λ x. x.1.scope) (typed_full s d) _ (full_good s d fine) (λ x h. ok _ _ h)
  own_suffixes_good s d (Some own) fine =
      bind (λ p. p.scope) (λ x. x.1.scope) (typed_parameters (inner_region s) (are_several own.0) (record { parameters = []; scope = s }) own.0) _
      (parameters_good (inner_region s) (are_several own.0) (record { parameters = []; scope = s }) own.0 fine) (λ p h. ok _ _ h)

  body_good : (outer : ℕ) (s : Scoped) (body : Statement) → Fine s → StatementNamed body → Good (λ y. y.1) (typed_body_of outer s body)
  body_good outer s (block line is) fine named = bind (λ y. y.1) (λ y. y.1) (typed_items _ false outer [] s is) _ (items_good _ false outer [] s is fine named) (λ x h. ok _ _ h)
  body_good outer s _ fine named = ok _ _ fine

  definition_good : (s : Scoped) (parts : Parts) (d : Full) (body : Statement) → Fine s → P (name_of d) → StatementNamed body → Good (λ y. y.1) (typed_definition s parts d body)
  definition_good s parts d body fine p named =
      bind (λ x. x.1) (λ y. y.1) (named_parts parts (typed_parts in_file false (parted [] s) parts)) _
      (bind (λ q. q.scope) (λ x. x.1) (typed_parts in_file false (parted [] s) parts) _ (parts_good in_file false (parted [] s) parts fine) (λ q h. pass (λ x. x.1) (on_line (parts_line parts) (specified_type q.specified)) _ (λ n. ok _ _ h)))
      (λ x h. bind (λ y. y.1.scope) (λ y. y.1) (own_suffixes x.1 d (own_parameters d)) _ (own_suffixes_good x.1 d (own_parameters d) h) (λ q k.
      pass (λ y. y.1) (on_line (full_line d) (definition_type x.1 x.0 d q.0 q.1)) _ (λ f.
      bind (λ y. y.1) (λ y. y.1) (typed_body_of (length x.1.bindings + 1) (within_body x.1 q.1.scope d f) body) _
      (body_good (length x.1.bindings + 1) (within_body x.1 q.1.scope d f) body (callable_fine q.1.scope d f true (linked_to q.1.scope.functions.named (name_of d)) k p) named) (λ y l. ok _ _ l))))

  externals_good : (s : Scoped) (file : Externals) → Fine s → FileNamed file → Good (λ y. y.1) (typed_externals s file)
  externals_good s no_more fine named = ok _ _ fine
  externals_good s (declared parts ds rest) fine named =
      bind itself (λ y. y.1) (typed_outside s parts ds) _
      (bind (λ x. x.scope) itself (typed_specifiers in_file s parts ds) _ (specifiers_good in_file s parts ds fine) (λ x h. others_good in_file x x.role ds h named.0))
      (λ t h. externals_good t rest h named.1)
  externals_good s (defines parts d body rest) fine named =
      bind (λ x. x.1) (λ y. y.1) (typed_definition s parts d body) _ (definition_good s parts d body fine named.0 named.1) (λ x h. bind (λ y. y.1) (λ y. y.1) (typed_externals x.1 rest) _ (externals_good x.1 rest h named.2) (λ y k. ok _ _ k))

  definitions_fine : (s : Scoped) (file : Externals) → Fine s → Fine (with_definitions s file)
  definitions_fine s no_more fine = fine
  definitions_fine s (declared parts ds rest) fine = definitions_fine s rest fine
  definitions_fine s (defines parts d body rest) fine = definitions_fine (record s { functions = with_defined s.functions (name_of d) }) rest fine

  abbrev ProceduresNamed : List Procedure → Type 0
  ProceduresNamed [] = Unit {0}
  ProceduresNamed (f ∷ fs) = P f.name × ProceduresNamed fs

  procedures_named : (done_ : List Completed) (cs : List Callable) → AllNamed cs → ProceduresNamed (map (procedure_of done_) cs)
  procedures_named done_ [] all = tt
  procedures_named done_ (c ∷ cs) all = (all.0, procedures_named done_ cs all.1)

  set_named : (fs : List Procedure) (k : ℕ) (f : Procedure) → ProceduresNamed fs → P f.name → ProceduresNamed (slice_set fs k f)
  set_named [] k f all p = tt
  set_named (x ∷ fs) zero f all p = (p, all.1)
  set_named (x ∷ fs) (suc k) f all p = (all.0, set_named fs k f all.1 p)

  found_named : (fs : List Procedure) (k : ℕ) (f : Procedure) → slice_get fs k ≡ Some f → ProceduresNamed fs → P f.name
  found_named [] k f h all = absurd (cc)
  found_named (x ∷ fs) zero f h all = let same : x ≡ f = cc in subst (λ (y : Procedure). P y.name) same all.0
  found_named (x ∷ fs) (suc k) f h all = found_named fs k f h all.1

  bodies_named : (fs : List Procedure) (ds : List Definition) → ProceduresNamed fs → ProceduresNamed (with_bodies fs ds)
  bodies_named fs [] all = all
  bodies_named fs (d ∷ ds) all = bodies_named _ ds (by_found (slice_get fs d.number) refl)
    where
      by_found : (x : Option Procedure) → slice_get fs d.number ≡ x → ProceduresNamed (with_body fs d x)
      by_found None h = all
      by_found (Some f) h = set_named fs d.number _ all (found_named fs d.number f h all)

  abbrev GoodFile : Result TypedFile Fault → Type 0
  GoodFile (Ok core) = ProceduresNamed core.functions
  GoodFile (Err e) = Unit {0}

  file_good : (r : Result (List Definition × Scoped) Fault) (f : List Definition × Scoped → Result TypedFile Fault) → Good (λ y. y.1) r → ((x : List Definition × Scoped) → Fine x.1 → GoodFile (f x)) → GoodFile (r >>= f)
  file_good (Ok x) f good later = later x (good.fine x refl)
  file_good (Err e) f good later = tt

  -- the functions of a typed file have names of its declarators
  pub functions_named : (file : Externals) (core : TypedFile) → elaborated file ≡ Ok core → FileNamed file → (k : ℕ) (f : Procedure) → slice_get core.functions k ≡ Some f → P f.name
  functions_named file core typed named k f there =
      let start = with_definitions first_scope file in
      let good : GoodFile (elaborated file) =
      file_good (typed_externals start file) _ (externals_good start file (definitions_fine first_scope file tt) named) (λ x h. bodies_named _ x.0 (procedures_named x.1.records.done x.1.functions.all h)) in
      found_named core.functions k f there (subst GoodFile typed good)
