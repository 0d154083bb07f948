-- What elaborating a file gives is well typed.
use Rattle.std.proofs.Common.{◌≡◌, ◌+◌, ◌-◌, ℕ, zero, suc, Bool, true, false, List, [], ◌∷◌, ◌++◌, length, map, take, Option, Some, None, Result, Ok, Err, refl, ap, ap₂, sym, subst, ◌∙◌, arith, eq-eqb, eqb-true}
use Rattle.std.specs.Prelude.{◌==◌, ◌&&◌, ◌||◌, not, is_some, slice_get, slice_set, if◌then◌else◌}
use Rattle.std.specs.List.{list_all}
use Rattle.std.specs.Str.{bytes_eq}
use Rattle.std.proofs.lemmas.List.{append-nil, length-append}
use Rattle.std.proofs.lemmas.Option.{same_Some}
use Rattle.std.proofs.lemmas.Slice.Eq.{bytes_eq-Decides}
use Rattle.c_tree.specs.Declarations.{Parts, Parameters, Full, Declarators, name_of}
use Rattle.c_tree.specs.Statements.{Statement, block, Externals, no_more, declared, defines}
use Rattle.c_types.specs.Integers.{bytes}
use Rattle.c_types.specs.Types.{CType, Completed}
use Rattle.c_types.specs.Types as ctypes
use Rattle.c_types.specs.Layouts.{is_complete, size_of}
use Rattle.c_types.specs.Layouts as layouts
use Rattle.core_tree.specs.declared.functions.Variable.{Variable}
use Rattle.core_tree.specs.Trees.{Procedure, Static, TypedFile}
use Rattle.core_tree.specs.Trees as cores
use Rattle.core_tree.specs.Typed.{Sizes, Signature, sizes_of_variables, homes_of, is_home, are_small, have_small, is_typed_statement, is_static, sizes_of_objects, signature, passed_size, have_parameters, is_typed_body, is_typed_function, are_typed}
use Rattle.core_tree.specs.declared.functions.PassedType.{PassedType}
use Rattle.c_scope.specs.declared.meaning.Meaning.{Meaning}
use Rattle.c_scope.specs.declared.meaning.Meaning.TheVariants.{Function}
use Rattle.c_scope.specs.declared.fault.TypingError.{TypingError}
use Rattle.c_scope.specs.Scopes.{Environment, binding, Named, Linked, FunctionType, Callable, FunctionTable, ObjectEntry, Scoped, is_there, are_there, first_scope, with_defined, variables_of, variables_in, sizes, sizes_of, object_entry_size, passed_as, given_by, linked_to}
use Rattle.c_scope.specs.Faults.{◌>>=◌, Fault, Gives, on_line}
use Rattle.c_operands.specs.Operands.{given_size}
use Rattle.std.specs.Prelude.{OnOk}
use Rattle.c_scope.proofs.Variables.{both, and, are_there_wider, complete_sized}
use Rattle.c_elab_expr.proofs.WellTyped.{Holds, bind, given, refused, on_same_line}
use Rattle.c_elab_base.specs.Regions.{built_in_function, earlier}
use Rattle.c_elab_base.specs.Derivations.{Parameter, Derived, called, Shape, object, function as function_shaped, shape_of, is_array, has_void, parameter_types, function_of, derived, Derivation, lengths, callable, function_made, derivation_by, derivation, full_line, have_names}
use Rattle.c_scope.specs.Functions.{same_ctype, same_flag, same_types, same_function}
use Rattle.c_scope.proofs.Compared.{one_ctype}
use Rattle.c_elab_base.specs.Specifiers.{Passed, are_several, inner_region, parted, named_parts}
use Rattle.c_elab_type.specs.Specifiers.{typed_parts, typed_full, typed_parameters, typed_specifiers}
use Rattle.c_elab_object.specs.Functions.{is_function_again, function_again, is_own_function, is_own_built_in, is_built_in_type, function_node, first_callable, callable_again, changed_callable, declared_callable, definition_node}
use Rattle.c_elab_object.specs.Functions as functions
use Rattle.c_elab_object.specs.DeclaratorLists.{typed_others, in_file, typed_outside}
use Rattle.c_elab_flow.specs.Jumps.{labels_in}
use Rattle.c_elab_flow.specs.Nodes.{Around}
use Rattle.c_elab_decl.specs.Statements.{typed_items}
use Rattle.c_elab_flow.specs.Files.{own_parameters, Definition, procedure_of, with_body, with_bodies, static_of}
use Rattle.c_elab_decl.specs.Files.{made_by, own_suffixes, definition_type, within_body, own_number, typed_body_of, outside, typed_definition, typed_externals, with_definitions, elaborated}
use Rattle.c_elab_base.proofs.Signatures.{Signed, signed_trans, Later, is_given, given_by_kept, complete_kept, all_passed_kept, own_sizes, all_signed, type_open}
use Rattle.c_elab_base.proofs.Growing.{take_front, Under, under_refl, under_trans, Wider, There, Follows, follows_refl, Settles, settles_trans}
use Rattle.c_elab_type.proofs.Settling.{weaken, Takes, DerivationFine, PassedDone, SuffixesDone, are_fine, full_settles, parts_settle, named_settles, parameters_done, derivation_fine, specifiers_settle}
use Rattle.c_elab_object.proofs.Redeclaring.{declared_callable_settles}
use Rattle.c_elab_object.proofs.SettlingDeclared.{others_settle}
use Rattle.c_elab_decl.proofs.WellTyped.{ItemsDone, items_done}

-- ---- types that are one

same_types_are : (ts us : List CType) → same_types ts us ≡ true → ts ≡ us
same_types_are [] [] h = refl
same_types_are [] (u ∷ us) h = let none : ⊥ = cc in absurd none
same_types_are (t ∷ ts) [] h = let none : ⊥ = cc in absurd none
same_types_are (t ∷ ts) (u ∷ us) h =
    let parts = both (same_ctype t u) (same_types ts us) h in ap₂ (λ (x : CType) (xs : List CType). x ∷ xs) (one_ctype t u parts.0) (same_types_are ts us parts.1)

-- types of one function: what it gives and takes
pub record SameType (f g : FunctionType) : Type 0 where
  pub gives : f.gives.type ≡ g.gives.type
  pub parameters : f.parameters ≡ g.parameters

same_refl : (f : FunctionType) → SameType f f
same_refl f = record { gives = refl; parameters = refl }

same_function_is : (f g : FunctionType) → same_function f g ≡ true → SameType f g
same_function_is f g h =
    let a = both (same_flag f.gives.constant g.gives.constant && same_ctype f.gives.type g.gives.type && same_flag f.ellipsis g.ellipsis) (same_types f.parameters g.parameters) h in
    let b = both (same_flag f.gives.constant g.gives.constant && same_ctype f.gives.type g.gives.type) (same_flag f.ellipsis g.ellipsis) a.0 in
    let c = both (same_flag f.gives.constant g.gives.constant) (same_ctype f.gives.type g.gives.type) b.0 in
    record { gives = one_ctype f.gives.type g.gives.type c.1; parameters = same_types_are f.parameters g.parameters a.1 }

-- ---- what goes on from one external declaration to the next

pub record Onward (s t : Scoped) : Type 0 where
  pub objects : Under (own_sizes s).objects (own_sizes t).objects
  pub functions : Signed (own_sizes s).functions (own_sizes t).functions
  pub all : (k : ℕ) (c : Callable) → slice_get s.functions.all k ≡ Some c → (d : Callable) × (slice_get t.functions.all k ≡ Some d) × (d.type ≡ c.type)
  pub later : Later s.records.done t.records.done

pub onward_trans : (s t u : Scoped) → Onward s t → Onward t u → Onward s u
onward_trans s t u f g = record {
  objects = under_trans (own_sizes s).objects (own_sizes t).objects (own_sizes u).objects f.objects g.objects;
  functions = signed_trans (own_sizes s).functions (own_sizes t).functions (own_sizes u).functions f.functions g.functions;
  all = λ k c e. let x = f.all k c e in let y = g.all k x.0 x.1 in (y.0, y.1, y.2 ∙ x.2);
  later = record { keeps = λ t h. let x = f.later.keeps t h in let y = g.later.keeps t x.0 in (y.0, y.1 ∙ x.1) };
}

pub onward_from : (s t : Scoped) → Follows s t → There s → Onward s t
onward_from s t f there = let wide = f.sizes there in record { objects = wide.objects; functions = wide.functions; all = f.calls.all; later = f.calls.later }

-- ---- a definition

-- a definition is one of a function that is there, whose parameters are its first variables
pub record DefinitionDone (s : Scoped) (x : Definition) : Type 0 where
  pub function : Callable
  pub is : slice_get s.functions.all x.number ≡ Some function
  pub given : is_given s.records.done function.type.gives.type ≡ true
  pub takes : layouts.are_complete s.records.done function.type.parameters ≡ true
  pub have : have_parameters (sizes_of_variables x.variables) (map (passed_as s.records.done) function.type.parameters) ≡ true
  pub homeless : (zs : Sizes) → list_all (is_home zs) (homes_of x.variables) ≡ true
  pub small : are_small x.variables ≡ true
  pub good : (zs : Sizes) → zs.variables ≡ sizes_of_variables x.variables → Under (own_sizes s).objects zs.objects → Signed (own_sizes s).functions zs.functions → zs.gives ≡ given_by s.records.done function.type.gives.type
      → is_typed_statement zs x.body ≡ true

given_stays : {older newer : List Completed} → Later older newer → (t : CType) → is_given older t ≡ true → is_given newer t ≡ true
given_stays later ctypes.void h = refl
given_stays later (ctypes.integer t) h = refl
given_stays later (ctypes.aggregate p) h = (later.keeps (ctypes.aggregate p) h).0
given_stays later (ctypes.array e n) h = (later.keeps (ctypes.array e n) h).0
given_stays later (ctypes.pointer t c) h = refl
given_stays later (ctypes.function f) h = h

pub definition_later : (s t : Scoped) (x : Definition) → Onward s t → DefinitionDone s x → DefinitionDone t x
definition_later s t x f d =
    let now = f.all x.number d.function d.is in
    let same : now.0.type ≡ d.function.type = now.2 in
    record {
      function = now.0;
      is = now.1;
      given = ap (λ (y : FunctionType). is_given t.records.done y.gives.type) same ∙ given_stays f.later d.function.type.gives.type d.given;
      takes = ap (λ (y : FunctionType). layouts.are_complete t.records.done y.parameters) same ∙ complete_kept f.later d.function.type.parameters d.takes;
      have = ap (λ (y : FunctionType). have_parameters (sizes_of_variables x.variables) (map (passed_as t.records.done) y.parameters)) same
          ∙ ap (have_parameters (sizes_of_variables x.variables)) (all_passed_kept f.later d.function.type.parameters d.takes) ∙ d.have;
      homeless = d.homeless;
      small = d.small;
      good = λ zs variables objects functions gives.
          d.good zs variables (under_trans (own_sizes s).objects (own_sizes t).objects zs.objects f.objects objects)
          (signed_trans (own_sizes s).functions (own_sizes t).functions zs.functions f.functions functions)
          (gives ∙ ap (λ (y : FunctionType). given_by t.records.done y.gives.type) same ∙ given_by_kept f.later d.function.type.gives.type d.given);
    }

abbrev pub AllDone : Scoped → List Definition → Type 0
AllDone s [] = Unit {0}
AllDone s (x ∷ xs) = DefinitionDone s x × AllDone s xs

pub all_later : (s t : Scoped) (xs : List Definition) → Onward s t → AllDone s xs → AllDone t xs
all_later s t [] f h = tt
all_later s t (x ∷ xs) f h = (definition_later s t x f h.0, all_later s t xs f h.1)

-- ---- the parameters of a definition

-- the parameters are those of its one suffix, or there are none
abbrev pub Own : List Derived → Passed → Type 0
Own ds p = (ellipsis : Bool) → ds ≡ called p.parameters ellipsis ∷ []

pub record OwnDone (s : Scoped) (x : List Derived × Passed) : Type 0 where
  pub follows : Follows s x.1.scope
  pub fine : There s → are_fine x.1.scope.records.done x.0 ≡ true
  pub variables : s.variables ≡ [] → have_names x.1.parameters ≡ true → has_void x.1.parameters ≡ false → x.1.scope.variables ≡ map (λ (q : Parameter). q.type) x.1.parameters
  pub own : (f : FunctionType) (table : FunctionTable) (done : List Completed) (base : Named) → made_by (derivation table done base x.0) ≡ Ok f → length x.1.parameters ≡ length f.parameters
      → (f.parameters ≡ parameter_types x.1.parameters) × (has_void x.1.parameters ≡ false)

-- a function type by its one suffix
called_is : (done : List Completed) (constant : Bool) (base : Shape) (ps : List Parameter) (ellipsis : Bool) (f : FunctionType) → function_made (derived done constant base (called ps ellipsis ∷ [])) ≡ Ok f
    → (f.parameters ≡ parameter_types ps) × (has_void ps ≡ false)
called_is done constant (function_shaped g) ps ellipsis f e = let none : ⊥ = cc in absurd none
called_is done constant (object t) ps ellipsis f e = by (is_array t) (has_void ps) refl e where
  by : (a b : Bool) → has_void ps ≡ b → function_made (if a || b then Err 6 else Ok (function_shaped (function_of constant ps ellipsis t))) ≡ Ok f → (f.parameters ≡ parameter_types ps) × (has_void ps ≡ false)
  by true b v h = let none : ⊥ = cc in absurd none
  by false true v h = let none : ⊥ = cc in absurd none
  by false false v h = let same : function_of constant ps ellipsis t ≡ f = cc in (ap (λ (g : FunctionType). g.parameters) (sym same), v)

one_called : (table : FunctionTable) (done : List Completed) (base : Named) (ps : List Parameter) (ellipsis : Bool) (f : FunctionType)
    → made_by (derivation table done base (called ps ellipsis ∷ [])) ≡ Ok f → (f.parameters ≡ parameter_types ps) × (has_void ps ≡ false)
one_called table done base ps ellipsis f e = by (shape_of table base.type) e where
  by : (x : Shape) → made_by (derivation_by done base.constant x (called ps ellipsis ∷ []) None) ≡ Ok f → (f.parameters ≡ parameter_types ps) × (has_void ps ≡ false)
  by (object t) h = called_is done base.constant (object t) ps ellipsis f h
  by (function_shaped g) h = called_is done base.constant (function_shaped g) ps ellipsis f h

none_left : (ts : List CType) → 0 ≡ length ts → ts ≡ []
none_left [] h = refl
none_left (t ∷ ts) h = let none : ⊥ = omega (arith, h) in absurd none

pub own_done : (s : Scoped) (d : Full) (o : Option (Parameters × Bool)) → Holds (OwnDone s) (own_suffixes s d o)
own_done s d None =
    bind (SuffixesDone s) (OwnDone s) (typed_full s d) _ (full_settles s d) (λ x f.
    given (OwnDone s) (x.0, record { parameters = []; scope = x.1 }) (record {
      follows = f.settles.follows;
      fine = f.fine;
      variables = λ bare names voids. f.settles.same ∙ bare;
      own = λ g table done base e long. (none_left g.parameters long, refl);
    }))
own_done s d (Some own) =
    let first : Passed = record { parameters = []; scope = s } in
    bind (PassedDone first) (OwnDone s) (typed_parameters (inner_region s) (are_several own.0) first own.0) _ (parameters_done (inner_region s) (are_several own.0) first own.0) (λ p f.
    given (OwnDone s) (called p.parameters own.1 ∷ [], p) (record {
      follows = f.follows;
      fine = λ there. and _ true (f.given there refl) refl;
      variables = λ bare names voids. f.variables [] (λ n v. bare) names voids;
      own = λ g table done base e long. one_called table done base p.parameters own.1 g e;
    }))

-- ---- the type of a definition

pub record TypeDone (s : Scoped) (name : List ℕ) (ps : List Parameter) (done : List Completed) (made : Result FunctionType ℕ) (f : FunctionType) : Type 0 where
  pub from : made ≡ Ok f
  pub linked : (k : ℕ) → linked_to s.functions.named name ≡ Some k → (c : Callable) × (slice_get s.functions.all k ≡ Some c) × SameType f c.type
  pub names : have_names ps ≡ true
  pub long : length ps ≡ length f.parameters
  pub given : is_given done f.gives.type ≡ true

-- what a definition is judged by
record NodeDone (s : Scoped) (name : List ℕ) (made : Result FunctionType ℕ) (f : FunctionType) : Type 0 where
  from : made ≡ Ok f
  linked : (k : ℕ) → linked_to s.functions.named name ≡ Some k → (c : Callable) × (slice_get s.functions.all k ≡ Some c) × SameType f c.type

again_done : (s : Scoped) (name : List ℕ) (f : FunctionType) → Holds (NodeDone s name (Ok f)) (function_again s true (linked_to s.functions.named name) f)
again_done s name f = by (linked_to s.functions.named name) refl where
  known : (k : ℕ) (o : Option Callable) → linked_to s.functions.named name ≡ Some k → slice_get s.functions.all k ≡ o → Holds {E = ℕ} (NodeDone s name (Ok f)) (if is_function_again f true o then Ok f else Err 2)
  known k None e is = refused (NodeDone s name (Ok f)) 2
  known k (Some c) e is = one (same_function f c.type) (not (true && c.defined)) refl where
    one : (a b : Bool) → same_function f c.type ≡ a → Holds {E = ℕ} (NodeDone s name (Ok f)) (if a && b then Ok f else Err 2)
    one true true same =
        given (NodeDone s name (Ok f)) f (record {
          from = refl;
          linked = λ l here. let is_k : k ≡ l = cc in (c, ap (slice_get s.functions.all) (sym is_k) ∙ is, same_function_is f c.type same);
        })
    one true false same = refused (NodeDone s name (Ok f)) 2
    one false b same = refused (NodeDone s name (Ok f)) 2

  by : (k : Option ℕ) → linked_to s.functions.named name ≡ k → Holds (NodeDone s name (Ok f)) (function_again s true k f)
  by None e = given (NodeDone s name (Ok f)) f (record { from = refl; linked = λ l here. let none : ⊥ = cc in absurd none })
  by (Some k) e = known k (slice_get s.functions.all k) e refl

node_done : (s : Scoped) (name : List ℕ) (before : Option Meaning) (made : Result FunctionType ℕ) → Holds (NodeDone s name made) (function_node s true name before made)
node_done s name before (Err rule) = by (is_some before || is_some (linked_to s.linked name) || is_some (linked_to s.functions.named name) || is_some (built_in_function name)) where
  by : (b : Bool) → Holds {E = ℕ} (NodeDone s name (Err rule)) (if b then Err 2 else Err rule)
  by true = refused (NodeDone s name (Err rule)) 2
  by false = refused (NodeDone s name (Err rule)) rule
node_done s name before (Ok f) =
    by (is_some (linked_to s.linked name)) (is_some (built_in_function name) || is_own_function (linked_to s.functions.named name) before) where
      none_built_in : (a : Bool) → Holds {E = ℕ} (NodeDone s name (Ok f)) (if a && false then Ok f else Err 2)
      none_built_in true = refused (NodeDone s name (Ok f)) 2
      none_built_in false = refused (NodeDone s name (Ok f)) 2

      own : (o : Option Meaning) → Holds (NodeDone s name (Ok f)) (functions.function_made s true o (linked_to s.functions.named name) before f)
      own None = again_done s name f
      own (Some m) = none_built_in (is_own_built_in before && is_built_in_type m f)

      by : (a b : Bool) → Holds {E = ℕ} (NodeDone s name (Ok f)) (if a then Err 2 else (if b then functions.function_made s true (built_in_function name) (linked_to s.functions.named name) before f else Err 2))
      by true b = refused (NodeDone s name (Ok f)) 2
      by false true = own (built_in_function name)
      by false false = refused (NodeDone s name (Ok f)) 2

size_given : (done : List Completed) (t : CType) → Holds (λ (n : ℕ). is_given done t ≡ true) (given_size done t)
size_given done ctypes.void = λ n e. refl
size_given done (ctypes.integer t) = λ n e. refl
size_given done (ctypes.aggregate p) = λ n e. (complete_sized done (ctypes.aggregate p) n e).0
size_given done (ctypes.array e k) = λ n h. (complete_sized done (ctypes.array e k) n h).0
size_given done (ctypes.pointer t c) = λ n e. refl
size_given done (ctypes.function f) = λ n h. (complete_sized done (ctypes.function f) n h).0

pub type_done : (outer : Scoped) (base : Named) (d : Full) (ds : List Derived) (p : Passed)
    → Holds (TypeDone p.scope (name_of d) p.parameters p.scope.records.done (made_by (derivation p.scope.functions p.scope.records.done base ds))) (definition_type outer base d ds p)
type_done outer base d ds p =
    let s = record p.scope { bindings = outer.bindings } in
    let done = p.scope.records.done in
    let made = made_by (derivation p.scope.functions done base ds) in
    let Q = TypeDone p.scope (name_of d) p.parameters done made in
    bind (NodeDone s (name_of d) made) Q (function_node s true (name_of d) (earlier in_file outer (name_of d)) made) _ (node_done s (name_of d) (earlier in_file outer (name_of d)) made) (λ f n.
    bind (λ (size : ℕ). is_given done f.gives.type ≡ true) Q (given_size done f.gives.type) _ (size_given done f.gives.type) (λ size g.
    by f n g (have_names p.parameters) (length p.parameters == length f.parameters) refl refl)) where
      made_here : Result FunctionType ℕ
      made_here = made_by (derivation p.scope.functions p.scope.records.done base ds)

      by : (f : FunctionType) → NodeDone (record p.scope { bindings = outer.bindings }) (name_of d) made_here f → is_given p.scope.records.done f.gives.type ≡ true → (a b : Bool) → have_names p.parameters ≡ a
          → (length p.parameters == length f.parameters) ≡ b → Holds {E = ℕ} (TypeDone p.scope (name_of d) p.parameters p.scope.records.done made_here) (if a && b then Ok f else Err 6)
      by f n g true true names long =
          given (TypeDone p.scope (name_of d) p.parameters p.scope.records.done made_here) f
          (record { from = n.from; linked = n.linked; names = names; long = eqb-true (length p.parameters) (length f.parameters) long; given = g })
      by f n g true false names long = refused (TypeDone p.scope (name_of d) p.parameters p.scope.records.done made_here) 6
      by f n g false b names long = refused (TypeDone p.scope (name_of d) p.parameters p.scope.records.done made_here) 6

-- ---- the function that is defined

pub record Declared (name : List ℕ) (f : FunctionType) (x : ℕ × FunctionTable) : Type 0 where
  pub number : linked_to x.1.named name ≡ Some x.0
  pub function : Callable
  pub is : slice_get x.1.all x.0 ≡ Some function
  pub same : SameType f function.type

own_bytes : (name : List ℕ) → bytes_eq name name ≡ true
own_bytes name = (bytes_eq-Decides name name).1 refl

linked_last : (ls : List Linked) (name : List ℕ) (k : ℕ) → linked_to ls name ≡ None → linked_to (ls ++ record { name = name; object = k } ∷ []) name ≡ Some k
linked_last [] name k e = ap (λ (b : Bool). if b then Some k else None) (own_bytes name)
linked_last (l ∷ ls) name k e = by (λ h. linked_last ls name k h) (bytes_eq name l.name) e where
  by : (linked_to ls name ≡ None → linked_to (ls ++ record { name = name; object = k } ∷ []) name ≡ Some k) → (b : Bool)
      → (if b then Some l.object else linked_to ls name) ≡ None → (if b then Some l.object else linked_to (ls ++ record { name = name; object = k } ∷ []) name) ≡ Some k
  by rest true h = let none : ⊥ = cc in absurd none
  by rest false h = rest h

get_last : (all : List Callable) (c : Callable) → slice_get (all ++ c ∷ []) (length all) ≡ Some c
get_last [] c = refl
get_last (x ∷ all) c = get_last all c

get_set : (all : List Callable) (k : ℕ) (c d : Callable) → slice_get all k ≡ Some c → slice_get (slice_set all k d) k ≡ Some d
get_set [] k c d e = let none : ⊥ = cc in absurd none
get_set (x ∷ all) zero c d e = refl
get_set (x ∷ all) (suc k) c d e = get_set all k c d e

again_same : (d : Full) (c : Callable) (f : FunctionType) → SameType f c.type → SameType f (callable_again d true c).type
again_same d c f h = h

pub declared_done : (s : Scoped) (d : Full) (f : FunctionType) → ((k : ℕ) → linked_to s.functions.named (name_of d) ≡ Some k → (c : Callable) × (slice_get s.functions.all k ≡ Some c) × SameType f c.type)
    → Declared (name_of d) f (declared_callable s.functions d f true (linked_to s.functions.named (name_of d)))
declared_done s d f h = by (linked_to s.functions.named (name_of d)) refl where
  by : (o : Option ℕ) → linked_to s.functions.named (name_of d) ≡ o → Declared (name_of d) f (declared_callable s.functions d f true o)
  by None e = record {
    number = linked_last s.functions.named (name_of d) (length s.functions.all) e;
    function = first_callable s.functions d f true;
    is = get_last s.functions.all (first_callable s.functions d f true);
    same = same_refl f;
  }
  by (Some k) e =
      let known = h k e in
      record {
        number = e;
        function = callable_again d true known.0;
        is = ap (λ (o : Option Callable). slice_get (changed_callable s.functions.all k (callable_again d true) o) k) known.1 ∙ get_set s.functions.all k known.0 (callable_again d true known.0) known.1;
        same = again_same d known.0 f known.2;
      }

-- ---- the scope of a body

pub within_names : (outer inner : Environment) (more : Environment) → inner ≡ more ++ outer → take (length inner - length outer) inner ≡ more
within_names outer inner more e =
    let long = length-append more outer in
    let count : length (more ++ outer) - length outer ≡ length more = omega (arith, long) in
    ap (λ (env : Environment). take (length env - length outer) env) e ∙ ap (λ (k : ℕ). take k (more ++ outer)) count ∙ take_front more outer

there_front : (v o t r : ℕ) (xs ys : Environment) → are_there v o t r (xs ++ ys) ≡ true → (are_there v o t r xs ≡ true) × (are_there v o t r ys ≡ true)
there_front v o t r [] ys h = (refl, h)
there_front v o t r (x ∷ xs) ys h =
    let parts = both (is_there v o t r x.meaning) (are_there v o t r (xs ++ ys)) h in
    let rest = there_front v o t r xs ys parts.1 in
    (and (is_there v o t r x.meaning) (are_there v o t r xs) parts.0 rest.0, rest.1)

there_both : (v o t r : ℕ) (xs ys : Environment) → are_there v o t r xs ≡ true → are_there v o t r ys ≡ true → are_there v o t r (xs ++ ys) ≡ true
there_both v o t r [] ys h g = g
there_both v o t r (x ∷ xs) ys h g =
    let parts = both (is_there v o t r x.meaning) (are_there v o t r xs) h in and (is_there v o t r x.meaning) (are_there v o t r (xs ++ ys)) parts.0 (there_both v o t r xs ys parts.1 g)

module _ (outer s : Scoped) (d : Full) (f : FunctionType) (follows : Follows outer s) (there : There s) (takes : Takes s.records.done f) (fits : is_given s.records.done f.gives.type ≡ true) where
  settled : Settles s (record s { functions = (declared_callable s.functions d f true (linked_to s.functions.named (name_of d))).1 })
  settled = declared_callable_settles (There s) s d f true (linked_to s.functions.named (name_of d)) (λ h. h) (λ h. takes)

  body_there : There (within_body outer s d f)
  body_there =
      let now = settled.follows.there there in
      let v = length s.variables in
      let o = length s.objects in
      let t = length s.types in
      let r = length s.records.declared in
      let more = follows.names.0 in
      let k = (declared_callable s.functions d f true (linked_to s.functions.named (name_of d))).0 in
      let parts = there_front v o t r more outer.bindings (ap (are_there v o t r) (sym follows.names.1) ∙ there.known) in
      record {
        known = ap (λ (env : Environment). are_there v o t r (env ++ binding (name_of d) (Function k) ∷ outer.bindings)) (within_names outer.bindings s.bindings more follows.names.1)
            ∙ there_both v o t r more (binding (name_of d) (Function k) ∷ outer.bindings) parts.0 parts.1;
        few = now.few;
        complete = now.complete;
        small = now.small;
        built = now.built;
        calls = record { callables = now.calls.callables; types = now.calls.types; gives = fits };
      }

  body_onward : Onward s (within_body outer s d f)
  body_onward =
      let wide = settled.follows.sizes there in
      record { objects = wide.objects; functions = wide.functions; all = settled.follows.calls.all; later = settled.follows.calls.later }

-- ---- a body

pub record BodyDone (s : Scoped) (y : cores.Statement × Scoped) : Type 0 where
  pub follows : Follows s y.1
  pub good : There s → (zs : Sizes) → Wider (own_sizes y.1) zs → is_typed_statement zs y.0 ≡ true

nothing_done : (s : Scoped) → BodyDone s (cores.block cores.done, s)
nothing_done s = record { follows = follows_refl s; good = λ there zs g. refl }

pub body_done : (outer : ℕ) (s : Scoped) (x : Statement) → Holds (BodyDone s) (typed_body_of outer s x)
body_done outer s (block line is) =
    let a : Around = record { labels = labels_in (block line is); breaks = false; continues = false } in
    bind (ItemsDone s) (BodyDone s) (typed_items a false outer [] s is) _ (items_done a false outer [] s is) (λ y d.
    given (BodyDone s) (cores.block y.0, y.1) (record { follows = d.follows; good = d.good }))
body_done outer s _ = given (BodyDone s) (cores.block cores.done, s) (nothing_done s)

-- ---- variables of parameters

passed_bytes : (done : List Completed) (t : CType) → (size_of done t == passed_size (passed_as done t)) ≡ true
passed_bytes done ctypes.void = refl
passed_bytes done (ctypes.integer t) = eq-eqb (bytes t) (bytes t) refl
passed_bytes done (ctypes.aggregate p) = eq-eqb (size_of done (ctypes.aggregate p)) (size_of done (ctypes.aggregate p)) refl
passed_bytes done (ctypes.array e n) = eq-eqb (size_of done (ctypes.array e n)) (size_of done (ctypes.array e n)) refl
passed_bytes done (ctypes.pointer t c) = refl
passed_bytes done (ctypes.function f) = refl

have_first : (done : List Completed) (ps : List Parameter) (more : List ℕ) → have_parameters (sizes_of done (map (λ (q : Parameter). q.type) ps) ++ more) (map (passed_as done) (parameter_types ps)) ≡ true
have_first done [] [] = refl
have_first done [] (n ∷ more) = refl
have_first done (p ∷ ps) more = and _ _ (passed_bytes done p.type.type) (have_first done ps more)

-- none of them has an address
no_homes : (zs : Sizes) (done : List Completed) (ns : List Named) → list_all (is_home zs) (homes_of (variables_of done ns)) ≡ true
no_homes zs done [] = refl
no_homes zs done (n ∷ ns) = no_homes zs done ns

-- ---- definitions

pub record DefinedDone (s : Scoped) (x : Definition × Scoped) : Type 0 where
  pub onward : Onward s x.1
  pub there : There x.1
  pub bare : x.1.variables ≡ []
  pub good : DefinitionDone x.1 x.0

module _ (outer : Scoped) (d : Full) (ds : List Derived) (p : Passed) (base : Named) (f : FunctionType) (bare : outer.variables ≡ []) (own : OwnDone outer (ds, p)) (there : There outer)
    (t : TypeDone p.scope (name_of d) p.parameters p.scope.records.done (made_by (derivation p.scope.functions p.scope.records.done base ds)) f) where
  inner : There p.scope
  inner = own.follows.there there

  made_by_fine : (x : Derivation) → DerivationFine p.scope.records.done x → made_by x ≡ Ok f → Takes p.scope.records.done f
  made_by_fine (lengths ls) h e = let none : ⊥ = cc in absurd none
  made_by_fine (callable made) h e = h f e

  takes : Takes p.scope.records.done f
  takes = made_by_fine (derivation p.scope.functions p.scope.records.done base ds) (derivation_fine p.scope.functions p.scope.records.done base ds inner.calls.types (own.fine there)) t.from

  here : Scoped
  here = within_body outer p.scope d f

  here_there : There (within_body outer p.scope d f)
  here_there = body_there outer p.scope d f own.follows inner takes t.given

  types_are : (f.parameters ≡ parameter_types p.parameters) × (has_void p.parameters ≡ false)
  types_are = own.own f p.scope.functions p.scope.records.done base t.from t.long

  variables_are : p.scope.variables ≡ map (λ (q : Parameter). q.type) p.parameters
  variables_are = own.variables bare t.names types_are.1

  pub defined_done : (labels : ℕ) (y : cores.Statement × Scoped) → BodyDone (within_body outer p.scope d f) y
      → DefinedDone outer (record { number = own_number (linked_to y.1.functions.named (name_of d)); variables = variables_in y.1; labels = labels; body = y.0 }, outside outer y.1 (name_of d))
  defined_done labels y b =
      let now = b.follows.there here_there in
      let s = p.scope in
      let x = declared_callable s.functions d f true (linked_to s.functions.named (name_of d)) in
      let made : Declared (name_of d) f x = declared_done s d f t.linked in
      let z = outside outer y.1 (name_of d) in
      let last = b.follows.calls.all x.0 made.function made.is in
      let number : own_number (linked_to y.1.functions.named (name_of d)) ≡ x.0 = ap own_number (b.follows.calls.named (name_of d) x.0 made.number) in
      let gives : last.0.type.gives.type ≡ f.gives.type = ap (λ (g : FunctionType). g.gives.type) last.2 ∙ sym made.same.gives in
      let takes_same : last.0.type.parameters ≡ f.parameters = ap (λ (g : FunctionType). g.parameters) last.2 ∙ sym made.same.parameters in
      let later = b.follows.calls.later in
      let done = y.1.records.done in
      let there_z : There z = record {
        known = are_there_wider 0 0 (length outer.objects) (length y.1.objects) (length outer.types) (length y.1.types) (length outer.records.declared) (length y.1.records.declared) outer.bindings
            (omega arith) (omega (arith, own.follows.objects, b.follows.objects)) (omega (arith, own.follows.types, b.follows.types)) (omega (arith, own.follows.records, b.follows.records))
            (ap (λ (n : ℕ). are_there n (length outer.objects) (length outer.types) (length outer.records.declared) outer.bindings) (sym (ap (λ (vs : List Named). length vs) bare)) ∙ there.known);
        few = now.few;
        complete = refl;
        small = refl;
        built = now.built;
        calls = record { callables = now.calls.callables; types = now.calls.types; gives = refl };
      } in
      let first = onward_from outer s own.follows there in
      let second = body_onward outer s d f own.follows inner takes t.given in
      let third = onward_from (within_body outer s d f) y.1 b.follows here_there in
      let whole = onward_trans outer s y.1 first (onward_trans s (within_body outer s d f) y.1 second third) in
      let wide = b.follows.sizes here_there in
      record {
        onward = record { objects = whole.objects; functions = whole.functions; all = whole.all; later = whole.later };
        there = there_z;
        bare = refl;
        good = record {
          function = last.0;
          is = ap (slice_get y.1.functions.all) number ∙ last.1;
          given = ap (is_given done) gives ∙ given_stays later f.gives.type t.given;
          takes = ap (layouts.are_complete done) takes_same ∙ complete_kept later f.parameters takes;
          have = ap (λ (ts : List CType). have_parameters (sizes y.1) (map (passed_as done) ts)) takes_same
              ∙ ap (have_parameters (sizes y.1)) (all_passed_kept later f.parameters takes)
              ∙ ap₂ (λ (vs : List ℕ) (ts : List CType). have_parameters vs (map (passed_as s.records.done) ts))
              (wide.variables.1 ∙ ap (λ (ns : List Named). sizes_of s.records.done ns ++ wide.variables.0) variables_are) types_are.0
              ∙ have_first s.records.done p.parameters wide.variables.0;
          homeless = λ zs. no_homes zs done y.1.variables;
          small = now.small;
          good = λ zs variables objects signed given_back.
              b.good here_there zs (record {
                no_pointers = refl;
                variables = ([], variables ∙ sym (append-nil (sizes y.1)));
                objects = objects;
                functions = signed;
                gives = given_back ∙ ap (given_by done) (gives ∙ sym b.follows.calls.gives);
              });
        };
      }

pub definition_done : (s : Scoped) (parts : Parts) (d : Full) (body : Statement) → s.variables ≡ [] → There s → Holds (DefinedDone s) (typed_definition s parts d body)
definition_done s parts d body bare there =
    let specifiers = typed_parts in_file false (parted [] s) parts in
    bind (λ x. Settles s x.1) (DefinedDone s) (named_parts parts specifiers) _ (named_settles s parts specifiers (parts_settle in_file false (parted [] s) parts)) (λ x f.
    let none = f.same ∙ bare in
    let here = f.follows.there there in
    bind (OwnDone x.1) (DefinedDone s) (own_suffixes x.1 d (own_parameters d)) _ (own_done x.1 d (own_parameters d)) (λ p own.
    let made = made_by (derivation p.1.scope.functions p.1.scope.records.done x.0 p.0) in
    bind (TypeDone p.1.scope (name_of d) p.1.parameters p.1.scope.records.done made) (DefinedDone s) (on_line (full_line d) (definition_type x.1 x.0 d p.0 p.1)) _
    (on_same_line (TypeDone p.1.scope (name_of d) p.1.parameters p.1.scope.records.done made) (full_line d) (definition_type x.1 x.0 d p.0 p.1) (type_done x.1 x.0 d p.0 p.1)) (λ g t.
    bind (BodyDone (within_body x.1 p.1.scope d g)) (DefinedDone s) (typed_body_of (length x.1.bindings + 1) (within_body x.1 p.1.scope d g) body) _
    (body_done (length x.1.bindings + 1) (within_body x.1 p.1.scope d g) body) (λ y b.
    let done = defined_done x.1 d p.0 p.1 x.0 g none own here t (length (labels_in body)) y b in
    given (DefinedDone s) _ (record {
      onward = onward_trans s x.1 (outside x.1 y.1 (name_of d)) (onward_from s x.1 f.follows there) done.onward;
      there = done.there;
      bare = done.bare;
      good = done.good;
    })))))

-- ---- files

pub outside_settles : (s : Scoped) (parts : Parts) (ds : Declarators) → Holds (Settles s) (typed_outside s parts ds)
outside_settles s parts ds =
    bind (λ x. Settles s x.scope) (Settles s) (typed_specifiers in_file s parts ds) _ (specifiers_settle in_file s parts ds) (λ x f.
    weaken (Settles x.scope) (Settles s) (typed_others in_file x x.role ds) (others_settle in_file x x.role ds) (λ t g. settles_trans s x.scope t f g))

record FileDone (s : Scoped) (x : List Definition × Scoped) : Type 0 where
  onward : Onward s x.1
  good : AllDone x.1 x.0

externals_done : (s : Scoped) (ds : Externals) → s.variables ≡ [] → There s → Holds (FileDone s) (typed_externals s ds)
externals_done s no_more bare there = given (FileDone s) ([], s) (record { onward = onward_from s s (follows_refl s) there; good = tt })
externals_done s (declared parts ds rest) bare there =
    bind (Settles s) (FileDone s) (typed_outside s parts ds) _ (outside_settles s parts ds) (λ t f.
    weaken (FileDone t) (FileDone s) (typed_externals t rest) (externals_done t rest (f.same ∙ bare) (f.follows.there there)) (λ x d. record {
      onward = onward_trans s t x.1 (onward_from s t f.follows there) d.onward;
      good = d.good;
    }))
externals_done s (defines parts d body rest) bare there =
    bind (DefinedDone s) (FileDone s) (typed_definition s parts d body) _ (definition_done s parts d body bare there) (λ x f.
    bind (FileDone x.1) (FileDone s) (typed_externals x.1 rest) _ (externals_done x.1 rest f.bare f.there) (λ y e.
    given (FileDone s) (x.0 ∷ y.0, y.1) (record {
      onward = onward_trans s x.1 y.1 f.onward e.onward;
      good = (definition_later x.1 y.1 x.0 e.onward f.good, e.good);
    })))

there_first : There first_scope
there_first = record { known = refl; few = omega arith; complete = refl; small = refl; built = (refl, refl, refl, tt); calls = record { callables = refl; types = refl; gives = refl } }

noted_there : (s : Scoped) (ds : Externals) → There s → There (with_definitions s ds)
noted_there s no_more h = h
noted_there s (declared parts ds rest) h = noted_there s rest h
noted_there s (defines parts d body rest) h =
    noted_there (record s { functions = with_defined s.functions (name_of d) }) rest (record {
      known = h.known;
      few = h.few;
      complete = h.complete;
      small = h.small;
      built = h.built;
      calls = record { callables = h.calls.callables; types = h.calls.types; gives = h.calls.gives };
    })

pub noted_empty : (s : Scoped) (ds : Externals) → (with_definitions s ds).variables ≡ s.variables
noted_empty s no_more = refl
noted_empty s (declared parts ds rest) = noted_empty s rest
noted_empty s (defines parts d body rest) = noted_empty (record s { functions = with_defined s.functions (name_of d) }) rest

-- ---- bodies are given to functions

-- what functions name, where no form has a pointer
abbrev sizes_among : List ℕ → List Signature → List Variable → Option PassedType → Sizes
sizes_among objects functions variables gives = record {
  variables = sizes_of_variables variables;
  homes = homes_of variables;
  objects = objects;
  literals = 0;
  functions = functions;
  gives = gives;
  pointers = false;
}

-- a function is well typed among these
abbrev is_typed_among : List ℕ → List Signature → Procedure → Bool
is_typed_among objects functions f =
    (have_parameters (sizes_of_variables f.variables) f.parameters || not (is_some f.body)) && list_all (is_home (sizes_among objects functions f.variables f.gives)) (homes_of f.variables)
    && is_typed_body (sizes_among objects functions f.variables f.gives) f.body

abbrev are_typed_among : List ℕ → List Signature → List Procedure → Bool
are_typed_among objects functions fs = list_all (is_typed_among objects functions) fs

same_signatures : (fs : List Procedure) (k : ℕ) (f : Procedure) (variables : List Variable) (labels : ℕ) (body : Option cores.Statement) → slice_get fs k ≡ Some f
    → map signature (slice_set fs k (record f { variables = variables; labels = labels; body = body })) ≡ map signature fs
same_signatures [] k f variables labels body e = refl
same_signatures (g ∷ fs) zero f variables labels body e = ap (λ (x : Procedure). signature x ∷ map signature fs) (sym (same_Some g f e))
same_signatures (g ∷ fs) (suc k) f variables labels body e = ap (λ (xs : List Signature). signature g ∷ xs) (same_signatures fs k f variables labels body e)

body_signatures : (fs : List Procedure) (x : Definition) (o : Option Procedure) → slice_get fs x.number ≡ o → map signature (with_body fs x o) ≡ map signature fs
body_signatures fs x None e = refl
body_signatures fs x (Some f) e = same_signatures fs x.number f x.variables x.labels (Some x.body) e

pub bodies_signatures : (fs : List Procedure) (xs : List Definition) → map signature (with_bodies fs xs) ≡ map signature fs
bodies_signatures fs [] = refl
bodies_signatures fs (x ∷ xs) = bodies_signatures (with_body fs x (slice_get fs x.number)) xs ∙ body_signatures fs x (slice_get fs x.number) refl

typed_set : (objects : List ℕ) (functions : List Signature) (fs : List Procedure) (k : ℕ) (f : Procedure) → are_typed_among objects functions fs ≡ true → is_typed_among objects functions f ≡ true
    → are_typed_among objects functions (slice_set fs k f) ≡ true
typed_set objects functions [] k f h g = refl
typed_set objects functions (x ∷ fs) zero f h g = let parts = both (is_typed_among objects functions x) (are_typed_among objects functions fs) h in and (is_typed_among objects functions f) (are_typed_among objects functions fs) g parts.1
typed_set objects functions (x ∷ fs) (suc k) f h g =
    let parts = both (is_typed_among objects functions x) (are_typed_among objects functions fs) h in
    and (is_typed_among objects functions x) (are_typed_among objects functions (slice_set fs k f)) parts.0 (typed_set objects functions fs k f parts.1 g)

get_map : {A B : Type 0} (f : A → B) (xs : List A) (k : ℕ) (x : A) → slice_get xs k ≡ Some x → slice_get (map f xs) k ≡ Some (f x)
get_map f [] k x e = let none : ⊥ = cc in absurd none
get_map f (y ∷ xs) zero x e = ap (λ z. Some (f z)) (same_Some y x e)
get_map f (y ∷ xs) (suc k) x e = get_map f xs k x e

abbrev plain_signed : List Completed → List Callable → List Signature
plain_signed done all = map signature (map (procedure_of done) all)

signed_open : (done : List Completed) (all : List Callable) → Signed (all_signed done all) (plain_signed done all)
signed_open done [] = tt
signed_open done (c ∷ all) = (type_open done c.type, signed_open done all)

or_true : (b : Bool) → (b || true) ≡ true
or_true true = refl
or_true false = refl

bodies_left : (done : List Completed) (objects : List ℕ) (functions : List Signature) (all : List Callable) → are_typed_among objects functions (map (procedure_of done) all) ≡ true
bodies_left done objects functions [] = refl
bodies_left done objects functions (c ∷ all) = and _ _ (and _ _ (and _ _ (or_true _) refl) refl) (bodies_left done objects functions all)

module _ (s : Scoped) (objects : List ℕ) (under : Under (own_sizes s).objects objects) where
  signs : List Signature
  signs = plain_signed s.records.done s.functions.all

  one_body : (fs : List Procedure) (x : Definition) (o : Option Procedure) → slice_get fs x.number ≡ o → map signature fs ≡ plain_signed s.records.done s.functions.all → DefinitionDone s x
      → are_typed_among objects (plain_signed s.records.done s.functions.all) fs ≡ true → are_typed_among objects (plain_signed s.records.done s.functions.all) (with_body fs x o) ≡ true
  one_body fs x None e same d h = h
  one_body fs x (Some f) e same d h =
      let done = s.records.done in
      let sign : Some (signature f) ≡ Some (signature (procedure_of done d.function)) =
      sym (get_map signature fs x.number f e) ∙ ap (λ (gs : List Signature). slice_get gs x.number) same ∙ get_map signature (map (procedure_of done) s.functions.all) x.number (procedure_of done d.function) (get_map (procedure_of done) s.functions.all x.number d.function d.is) in
      let is : signature f ≡ signature (procedure_of done d.function) = same_Some (signature f) (signature (procedure_of done d.function)) sign in
      let parameters : f.parameters ≡ map (passed_as done) d.function.type.parameters = ap (λ (g : Signature). g.parameters) is in
      let gives : f.gives ≡ given_by done d.function.type.gives.type = ap (λ (g : Signature). g.gives) is in
      let have : have_parameters (sizes_of_variables x.variables) f.parameters ≡ true = ap (have_parameters (sizes_of_variables x.variables)) parameters ∙ d.have in
      let zs : Sizes = sizes_among objects (plain_signed done s.functions.all) x.variables f.gives in
      typed_set objects (plain_signed done s.functions.all) fs x.number (record f { variables = x.variables; labels = x.labels; body = Some x.body }) h
      (and _ _ (and _ _ (ap (λ (b : Bool). b || false) have) (d.homeless zs)) (d.good zs refl under (signed_open done s.functions.all) gives))

  all_bodies : (fs : List Procedure) (xs : List Definition) → map signature fs ≡ plain_signed s.records.done s.functions.all → AllDone s xs
      → are_typed_among objects (plain_signed s.records.done s.functions.all) fs ≡ true → are_typed_among objects (plain_signed s.records.done s.functions.all) (with_bodies fs xs) ≡ true
  all_bodies fs [] same d h = h
  all_bodies fs (x ∷ xs) same d h =
      let now = with_body fs x (slice_get fs x.number) in
      all_bodies now xs (body_signatures fs x (slice_get fs x.number) refl ∙ same) d.1 (one_body fs x (slice_get fs x.number) refl same d.0 h)

-- a function's variables are as small as those of its body
called_small : (done : List Completed) (all : List Callable) → have_small (map (procedure_of done) all) ≡ true
called_small done [] = refl
called_small done (c ∷ all) = called_small done all

small_set : (fs : List Procedure) (k : ℕ) (f : Procedure) → are_small f.variables ≡ true → have_small fs ≡ true → have_small (slice_set fs k f) ≡ true
small_set [] k f h g = refl
small_set (x ∷ fs) zero f h g = and (are_small f.variables) (have_small fs) h (both (are_small x.variables) (have_small fs) g).1
small_set (x ∷ fs) (suc k) f h g = let parts = both (are_small x.variables) (have_small fs) g in and (are_small x.variables) (have_small (slice_set fs k f)) parts.0 (small_set fs k f h parts.1)

small_body : (fs : List Procedure) (x : Definition) (o : Option Procedure) → are_small x.variables ≡ true → have_small fs ≡ true → have_small (with_body fs x o) ≡ true
small_body fs x None h g = g
small_body fs x (Some f) h g = small_set fs x.number (record f { variables = x.variables; labels = x.labels; body = Some x.body }) h g

small_bodies : (s : Scoped) (fs : List Procedure) (xs : List Definition) → AllDone s xs → have_small fs ≡ true → have_small (with_bodies fs xs) ≡ true
small_bodies s fs [] d g = g
small_bodies s fs (x ∷ xs) d g = small_bodies s (with_body fs x (slice_get fs x.number)) xs d.1 (small_body fs x (slice_get fs x.number) d.0.small g)

static_sizes : (older : List Completed) (objects : List ObjectEntry) → sizes_of_objects (map (static_of older) objects) ≡ map (object_entry_size older) objects
static_sizes older [] = refl
static_sizes older (o ∷ objects) = ap (λ (ns : List ℕ). object_entry_size older o ∷ ns) (static_sizes older objects)

-- the functions of a file without literals, as they are among its objects and functions
typed_in : (functions : List Procedure) (objects : List Static) (fs : List Procedure)
    → are_typed_among (sizes_of_objects objects) (map signature functions) fs ≡ list_all (is_typed_function (record { functions = functions; objects = objects; literals = []; pointers = false })) fs
typed_in functions objects [] = refl
typed_in functions objects (f ∷ fs) = ap (λ (b : Bool). is_typed_function (record { functions = functions; objects = objects; literals = []; pointers = false }) f && b) (typed_in functions objects fs)

-- objects that hold no address are the same among others
statics_among : (n m : ℕ) (older : List Completed) (objects : List ObjectEntry) → list_all (is_static n m) (map (static_of older) objects) ≡ list_all (is_static 0 0) (map (static_of older) objects)
statics_among n m older [] = refl
statics_among n m older (o ∷ objects) = ap (λ (b : Bool). is_static 0 0 (static_of older o) && b) (statics_among n m older objects)

functions_typed : (ds : Externals) (xs : List Definition) (s : Scoped) (objects : List Static) → typed_externals (with_definitions first_scope ds) ds ≡ Ok (xs, s) → objects ≡ map (static_of s.records.done) s.objects
    → let file : TypedFile = record { functions = with_bodies (map (procedure_of s.records.done) s.functions.all) xs; objects = objects; literals = []; pointers = false } in list_all (is_typed_function file) file.functions ≡ true
functions_typed ds xs s objects e is =
    let done = s.records.done in
    let fs = map (procedure_of done) s.functions.all in
    let d = externals_done (with_definitions first_scope ds) ds (noted_empty first_scope ds) (noted_there first_scope ds there_first) (xs, s) e in
    let sizes_are : map (object_entry_size done) s.objects ≡ sizes_of_objects objects = sym (ap sizes_of_objects is ∙ static_sizes done s.objects) in
    let under : Under (own_sizes s).objects (sizes_of_objects objects) = subst (Under (own_sizes s).objects) sizes_are (under_refl (own_sizes s).objects) in
    sym (typed_in (with_bodies fs xs) objects (with_bodies fs xs))
    ∙ ap (λ (signs : List Signature). are_typed_among (sizes_of_objects objects) signs (with_bodies fs xs)) (bodies_signatures fs xs)
    ∙ all_bodies s (sizes_of_objects objects) under fs xs refl d.good (bodies_left done (sizes_of_objects objects) (map signature fs) s.functions.all)

-- what code knows of these

pub nothing_outside : (r : Result (Unit {0}) TypingError) (s t : Scoped) (parts : Parts) (ds : Declarators) → s.variables ≡ [] → Gives (λ u. t) r (typed_outside s parts ds) → OnOk r (t.variables ≡ [])
nothing_outside (Ok u) s t parts ds bare g = (outside_settles s parts ds t g).same ∙ bare
nothing_outside (Err e) s t parts ds bare g = tt

-- a file of these functions and objects is well typed
pub file_typed : (ds : Externals) (xs : List Definition) (s : Scoped) (fs : List Procedure) (objects : List Static) → typed_externals (with_definitions first_scope ds) ds ≡ Ok (xs, s)
    → fs ≡ with_bodies (map (procedure_of s.records.done) s.functions.all) xs → objects ≡ map (static_of s.records.done) s.objects → list_all (is_static 0 0) objects ≡ true
    → are_typed (record { functions = fs; objects = objects; literals = []; pointers = false }) ≡ true
file_typed ds xs s fs objects e functions is fit =
    let among : list_all (is_static (length objects) 0) objects ≡ true =
    ap (list_all (is_static (length objects) 0)) is ∙ statics_among (length objects) 0 s.records.done s.objects ∙ ap (list_all (is_static 0 0)) (sym is) ∙ fit in
    subst (λ (gs : List Procedure). are_typed (record { functions = gs; objects = objects; literals = []; pointers = false }) ≡ true) (sym functions) (and _ _ among (functions_typed ds xs s objects e is))

-- and its variables are small
pub file_small : (ds : Externals) (xs : List Definition) (s : Scoped) (fs : List Procedure) → typed_externals (with_definitions first_scope ds) ds ≡ Ok (xs, s)
    → fs ≡ with_bodies (map (procedure_of s.records.done) s.functions.all) xs → have_small fs ≡ true
file_small ds xs s fs e functions =
    let d = externals_done (with_definitions first_scope ds) ds (noted_empty first_scope ds) (noted_there first_scope ds there_first) (xs, s) e in
    subst (λ (gs : List Procedure). have_small gs ≡ true) (sym functions)
    (small_bodies s (map (procedure_of s.records.done) s.functions.all) xs d.good (called_small s.records.done s.functions.all))

pub file_given : (ds : Externals) (xs : List Definition) (s : Scoped) (fs : List Procedure) (objects : List Static) → typed_externals (with_definitions first_scope ds) ds ≡ Ok (xs, s)
    → fs ≡ with_bodies (map (procedure_of s.records.done) s.functions.all) xs → objects ≡ map (static_of s.records.done) s.objects → elaborated ds ≡ Ok (record { functions = fs; objects = objects; literals = []; pointers = false })
file_given ds xs s fs objects e functions is =
    ap (λ (r : Result (List Definition × Scoped) Fault). r >>= λ x. Ok (record { functions = with_bodies (map (procedure_of x.1.records.done) x.1.functions.all) x.0; objects = map (static_of x.1.records.done) x.1.objects; literals = []; pointers = false })) e
    ∙ ap₂ (λ (gs : List Procedure) (os : List Static). Ok (record { functions = gs; objects = os; literals = []; pointers = false })) (sym functions) (sym is)
