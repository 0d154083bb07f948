-- Specifiers and parameters leave a scope that goes on from the one before, without more variables.
use Rattle.std.proofs.Common.{◌≡◌, ℕ, Bool, true, false, List, [], ◌∷◌, ◌++◌, length, map, Option, Some, None, Result, Ok, Err, refl, ap, sym, subst, ◌∙◌, arith}
use Rattle.std.specs.Prelude.{◌&&◌, ◌||◌, not, is_some, if◌then◌else◌}
use Rattle.std.specs.List.{list_all}
use Rattle.std.proofs.lemmas.List.{append_assoc, append-nil, length-append, map-append}
use Rattle.c_tree.specs.declared.specifier.TagKind.{TagKind}
use Rattle.c_tree.specs.declared.specifier.TagKind.TheVariants as tag_kinds
use Rattle.c_tree.specs.Tree.{TypePart, qualified, word, tagged, typedef_name}
use Rattle.c_tree.specs.Declarations.{Enumerated, Part, type_part, storage, function, structure, enumeration, Parts, no_part, part, Members, no_member, members, Full, full_unnamed, full_named, full_inside, full_pointing, Fulls, no_full, full, FullSuffixes, full_end, full_bounded, full_open, full_empty, full_void, full_parameters, Parameters, no_parameter, parameter, Declarators, name_of, full_has_name, parts_line}
use Rattle.c_types.specs.declared.types.RecordKind.{RecordKind}
use Rattle.c_types.specs.declared.types.RecordKind.TheVariants.{Struct, Union}
use Rattle.c_types.specs.Types.{CType, Completed, Records}
use Rattle.c_types.specs.Types as ctypes
use Rattle.c_types.specs.Layouts.{is_completed, is_complete, is_sized, size_of, are_complete, fits, kind_at}
use Rattle.c_scope.specs.declared.meaning.Meaning.{Meaning}
use Rattle.c_scope.specs.declared.meaning.Meaning.TheVariants.{Enumerator, Record, Enumeration}
use Rattle.c_scope.specs.Members.{Field, field_types}
use Rattle.c_scope.specs.Scopes.{Named, FunctionType, FunctionTable, Scoped, tag_of, function_number}
use Rattle.c_scope.specs.Faults.{◌>>=◌, Fault, on_line}
use Rattle.c_scope.specs.Types.{nothing_specified, specified_type, one_array, array_of, element_type}
use Rattle.c_scope.proofs.Variables.{both, and}
use Rattle.c_elab_expr.proofs.WellTyped.{Holds, bind, given, refused, on_same_line}
use Rattle.c_elab_base.specs.declared.regions.Region.{Region}
use Rattle.c_elab_base.specs.Regions.{earlier, earlier_tag}
use Rattle.c_elab_base.specs.Derivations.{Parameter, Derived, counted, called, Shape, object, function as function_shaped, shape_by, shape_of, type_numbered, array_shape, is_void, is_array, has_void, parameter_types, function_of, function_shape, derived, Derivation, lengths, callable, function_in, function_made, plain_lengths, derivation_by, derivation, parameter_line, is_named_so, have_names}
use Rattle.c_elab_type.specs.Enumerations.{enumerator_value, enumerator_node, typed_enumerator, typed_enumerators}
use Rattle.c_elab_base.specs.Declarators.{with_variable, sized_type, complete_type}
use Rattle.c_elab_base.specs.Tags.{kind_of, is_kind, with_record, with_tagged, new_tag, found_tag, forward_tag, Opened, new_record, open_tag, opened, reopened, fitting, members_fit, already, completed, closed, closed_scope, enumeration_tag, enumeration_closed}
use Rattle.c_elab_base.specs.Specifiers.{Fields, member_type, with_member, is_none, has_untagged, with_anonymous, is_anonymous, Parted, with_type_part, fields_within, fields_out, with_members, said_before, fields_behind, Derivations, Passed, plain_parameter, array_parameter, parameter_made, parameter_node, declared_parameter, with_parameter, judged_parameter, are_several, ended, inner_region, parted, named_parts, counted_in_front, called_in_front, lone_tag, with_lone}
use Rattle.c_elab_type.specs.Specifiers.{typed_enumeration, said_bound, typed_part, typed_parts, typed_members, typed_fields, typed_full, typed_suffixes, typed_parameters, typed_specifiers}
use Rattle.c_elab_base.proofs.Signatures.{Later, is_given, given_kept, are_complete_types, type_parameters_at}
use Rattle.c_elab_base.proofs.Growing.{There, Follows, follows_refl, follows_trans, Settles, settles_refl, settles_trans, binding_settles, record_settles, completed_settles, variable_follows, last, ended_settles}

pub trivially : {A E : Type 0} (r : Result A E) → Holds (λ (x : A). Unit {0}) r
trivially r x e = tt

pub weaken : {A E : Type 0} (P Q : A → Type 0) (r : Result A E) → Holds P r → ((x : A) → P x → Q x) → Holds Q r
weaken P Q r h g = λ x e. g x (h x e)

-- ---- enumerators

enumerator_settles : (r : Region) (s : Scoped) (previous : Option ℕ) (e : Enumerated) → Holds (λ x. Settles s x.1) (typed_enumerator r s previous e)
enumerator_settles r s previous e =
    bind (λ (v : Option ℕ). Unit {0}) (λ x. Settles s x.1) (enumerator_value s previous e.value) _ (trivially _) (λ value _.
    bind (λ (b : ℕ). Unit {0}) (λ x. Settles s x.1) (on_line e.line (enumerator_node (earlier r s e.name) value)) _ (trivially _) (λ bits _.
    given (λ x. Settles s x.1) _ (binding_settles s e.name (Enumerator bits) refl)))

pub enumerators_settle : (r : Region) (s : Scoped) (previous : Option ℕ) (es : List Enumerated) → Holds (Settles s) (typed_enumerators r s previous es)
enumerators_settle r s previous [] = given (Settles s) s (settles_refl s)
enumerators_settle r s previous (e ∷ es) =
    bind (λ x. Settles s x.1) (Settles s) (typed_enumerator r s previous e) _ (enumerator_settles r s previous e) (λ x f.
    weaken (Settles x.1) (Settles s) (typed_enumerators r x.1 (Some x.0) es) (enumerators_settle r x.1 (Some x.0) es) (λ t g. settles_trans s x.1 t f g))

-- ---- tags

pub tagged_settles : (s : Scoped) (kind : RecordKind) (name : List ℕ) → Settles s (with_tagged s kind name)
tagged_settles s kind name =
    let t = with_record s kind in
    let long = length-append s.records.declared (kind ∷ []) in
    settles_trans s t (with_tagged s kind name) (record_settles s kind)
    (binding_settles t name (Record (length s.records.declared)) (last (length s.records.declared) (length (s.records.declared ++ kind ∷ [])) (omega (arith, long))))

pub new_tag_settles : (s : Scoped) (kind : TagKind) (name : List ℕ) → Settles s (new_tag s kind name).1
new_tag_settles s tag_kinds.Struct name = tagged_settles s Struct name
new_tag_settles s tag_kinds.Union name = tagged_settles s Union name
new_tag_settles s tag_kinds.Enum name = settles_refl s

found_tag_settles : (s : Scoped) (kind : TagKind) (name : List ℕ) (o : Option Meaning) → Settles s (found_tag s kind name o).1
found_tag_settles s kind name None = new_tag_settles s kind name
found_tag_settles s kind name (Some m) = settles_refl s

forward_settles : (s : Scoped) (kind : TagKind) (name : List ℕ) (o : Option Meaning) → Settles s (forward_tag s kind name o)
forward_settles s kind name None = new_tag_settles s kind name
forward_settles s kind name (Some m) = settles_refl s

pub lone_settles : (r : Region) (s : Scoped) (o : Option (TagKind × List ℕ)) → Settles s (with_lone r s o)
lone_settles r s None = settles_refl s
lone_settles r s (Some tag) = forward_settles s tag.0 tag.1 (earlier_tag r s tag.1)

same_kind_settles : (s : Scoped) (kind : RecordKind) (p : ℕ) (b : Bool) → Settles s (if b then record { place = p; clashes = false; scope = s } else new_record true s kind).scope
same_kind_settles s kind p true = settles_refl s
same_kind_settles s kind p false = record_settles s kind

open_settles : (s : Scoped) (kind : RecordKind) (name : List ℕ) (o : Option Meaning) → Settles s (open_tag s kind name o).scope
open_settles s kind name None = tagged_settles s kind name
open_settles s kind name (Some (Record p)) = same_kind_settles s kind p (is_kind (kind_at s.records p) kind)
open_settles s kind name (Some _) = record_settles s kind

pub opened_settles : (r : Region) (s : Scoped) (kind : RecordKind) (tag : Option (List ℕ)) → Settles s (opened r s kind tag).scope
opened_settles r s kind None = record_settles s kind
opened_settles r s kind (Some name) = open_settles s kind name (earlier_tag r s name)

pub reopened_settles : (p : ℕ) (clash : Bool) (kind : RecordKind) (s : Scoped) → Settles s (reopened p clash kind s).scope
reopened_settles p clash kind s = by (is_completed s.records.done p) where
  by : (b : Bool) → Settles s (if b then new_record true s kind else record { place = p; clashes = clash; scope = s }).scope
  by true = record_settles s kind
  by false = settles_refl s

-- members that fit are complete, and not too large
fit_by : (rs : Records) (p : ℕ) (ms : List CType) (b c : Bool) → are_complete rs.done ms ≡ b → fits rs.done (kind_at rs p) ms ≡ c → (u : Unit {0})
    → (if b then (if c then fitting else Err 4) else Err 3) ≡ Ok u → (are_complete rs.done ms ≡ true) × (fits rs.done (kind_at rs p) ms ≡ true)
fit_by rs p ms true true e f u h = (e, f)
fit_by rs p ms true false e f u h = let none : ⊥ = cc in absurd none
fit_by rs p ms false c e f u h = let none : ⊥ = cc in absurd none

fit_is : (rs : Records) (p : ℕ) (ms : List CType) (u : Unit {0}) → members_fit rs p ms ≡ Ok u → (are_complete rs.done ms ≡ true) × (fits rs.done (kind_at rs p) ms ≡ true)
fit_is rs p [] u h = let none : ⊥ = cc in absurd none
fit_is rs p (m ∷ ms) u h = fit_by rs p (m ∷ ms) (are_complete rs.done (m ∷ ms)) (fits rs.done (kind_at rs p) (m ∷ ms)) refl refl u h

closed_scope_settles : (o : Opened) (fs : List Field) (fit : Result (Unit {0}) ℕ) → is_completed o.scope.records.done o.place ≡ false → members_fit o.scope.records o.place (field_types fs) ≡ fit
    → Settles o.scope (closed_scope o fs fit)
closed_scope_settles o fs (Ok u) before e =
    let fine = fit_is o.scope.records o.place (field_types fs) u e in
    completed_settles o.scope o.place (kind_at o.scope.records o.place) (field_types fs) _ before fine.0 fine.1
closed_scope_settles o fs (Err rule) before e = settles_refl o.scope

closed_by : (o : Opened) (fs : List Field) (b : Bool) → is_completed o.scope.records.done o.place ≡ b → Settles o.scope (if b then already o else completed o fs).1
closed_by o fs true e = settles_refl o.scope
closed_by o fs false e = closed_scope_settles o fs (members_fit o.scope.records o.place (field_types fs)) e refl

pub closed_settles : (o : Opened) (fs : List Field) → Settles o.scope (closed o fs).1
closed_settles o fs = closed_by o fs (is_completed o.scope.records.done o.place) refl

enumeration_tag_settles : (s : Scoped) (name : List ℕ) (o : Option Meaning) → Settles s (enumeration_tag s name o).1
enumeration_tag_settles s name None = binding_settles s name Enumeration refl
enumeration_tag_settles s name (Some m) = settles_refl s

pub enumeration_settles : (r : Region) (s : Scoped) (tag : Option (List ℕ)) → Settles s (enumeration_closed r s tag).1
enumeration_settles r s None = settles_refl s
enumeration_settles r s (Some name) = enumeration_tag_settles s name (earlier_tag r s name)

-- ---- what suffixes make of types

abbrev pub given_parameters : List Completed → List Parameter → Bool
given_parameters done ps = list_all (λ (p : Parameter). is_given done p.type.type) ps

-- parameters have types that are void or complete
abbrev pub are_fine : List Completed → List Derived → Bool
are_fine done [] = true
are_fine done (counted n ∷ ds) = are_fine done ds
are_fine done (called ps ellipsis ∷ ds) = given_parameters done ps && are_fine done ds

parameters_kept : {older newer : List Completed} → Later older newer → (ps : List Parameter) → given_parameters older ps ≡ true → given_parameters newer ps ≡ true
parameters_kept later [] h = refl
parameters_kept {older} {newer} later (p ∷ ps) h =
    let parts = both (is_given older p.type.type) (given_parameters older ps) h in
    and (is_given newer p.type.type) (given_parameters newer ps) (given_kept later p.type.type parts.0) (parameters_kept later ps parts.1)

fine_kept : {older newer : List Completed} → Later older newer → (ds : List Derived) → are_fine older ds ≡ true → are_fine newer ds ≡ true
fine_kept later [] h = refl
fine_kept later (counted n ∷ ds) h = fine_kept later ds h
fine_kept {older} {newer} later (called ps ellipsis ∷ ds) h =
    let parts = both (given_parameters older ps) (are_fine older ds) h in and (given_parameters newer ps) (are_fine newer ds) (parameters_kept later ps parts.0) (fine_kept later ds parts.1)

fine_behind : (done : List Completed) (ds es : List Derived) → are_fine done ds ≡ true → are_fine done es ≡ true → are_fine done (ds ++ es) ≡ true
fine_behind done [] es h g = g
fine_behind done (counted n ∷ ds) es h g = fine_behind done ds es h g
fine_behind done (called ps ellipsis ∷ ds) es h g =
    let parts = both (given_parameters done ps) (are_fine done ds) h in and (given_parameters done ps) (are_fine done (ds ++ es)) parts.0 (fine_behind done ds es parts.1 g)

given_complete : (done : List Completed) (t : CType) → is_given done t ≡ true → is_void t ≡ false → is_complete done t ≡ true
given_complete done ctypes.void h v = let none : ⊥ = cc in absurd none
given_complete done (ctypes.integer t) h v = refl
given_complete done (ctypes.aggregate p) h v = h
given_complete done (ctypes.array e n) h v = h
given_complete done (ctypes.pointer t c) h v = refl
given_complete done (ctypes.function f) h v = let none : ⊥ = cc in absurd none

neither : (a b : Bool) → (a || b) ≡ false → (a ≡ false) × (b ≡ false)
neither true b h = let none : ⊥ = cc in absurd none
neither false b h = (refl, h)

pub parameters_complete : (done : List Completed) (ps : List Parameter) → given_parameters done ps ≡ true → has_void ps ≡ false → are_complete done (parameter_types ps) ≡ true
parameters_complete done [] h v = refl
parameters_complete done (p ∷ ps) h v =
    let parts = both (is_given done p.type.type) (given_parameters done ps) h in
    let voids = neither (is_void p.type.type) (has_void ps) v in
    and (is_complete done p.type.type) (are_complete done (parameter_types ps)) (given_complete done p.type.type parts.0 voids.0) (parameters_complete done ps parts.1 voids.1)

-- a function takes objects
abbrev pub Takes : List Completed → FunctionType → Type 0
Takes done f = are_complete done f.parameters ≡ true

abbrev ShapeFine : List Completed → Shape → Type 0
ShapeFine done (object t) = Unit {0}
ShapeFine done (function_shaped f) = Takes done f

array_fine : (done : List Completed) (n : Option ℕ) (x : Shape) → Holds (ShapeFine done) (array_shape done n x)
array_fine done n (object t) = bind (λ (u : CType). Unit {0}) (ShapeFine done) (one_array done t n) _ (trivially _) (λ u _. given (ShapeFine done) (object u) tt)
array_fine done n (function_shaped f) = refused (ShapeFine done) 3

function_fine : (done : List Completed) (constant : Bool) (ps : List Parameter) (ellipsis : Bool) (x : Shape) → given_parameters done ps ≡ true → Holds (ShapeFine done) (function_shape constant ps ellipsis x)
function_fine done constant ps ellipsis (function_shaped f) h = refused (ShapeFine done) 6
function_fine done constant ps ellipsis (object t) h = by (is_array t) (has_void ps) refl where
  by : (a b : Bool) → has_void ps ≡ b → Holds {E = ℕ} (ShapeFine done) (if a || b then Err 6 else Ok (function_shaped (function_of constant ps ellipsis t)))
  by true b e = refused (ShapeFine done) 6
  by false true e = refused (ShapeFine done) 6
  by false false e = given (ShapeFine done) (function_shaped (function_of constant ps ellipsis t)) (parameters_complete done ps h e)

derived_fine : (done : List Completed) (constant : Bool) (base : Shape) (ds : List Derived) → ShapeFine done base → are_fine done ds ≡ true → Holds (ShapeFine done) (derived done constant base ds)
derived_fine done constant base [] h g = given (ShapeFine done) base h
derived_fine done constant base (counted n ∷ ds) h g =
    bind (ShapeFine done) (ShapeFine done) (derived done constant base ds) _ (derived_fine done constant base ds h g) (λ x _. array_fine done n x)
derived_fine done constant base (called ps ellipsis ∷ ds) h g =
    let parts = both (given_parameters done ps) (are_fine done ds) g in
    bind (ShapeFine done) (ShapeFine done) (derived done constant base ds) _ (derived_fine done constant base ds h parts.1) (λ x _. function_fine done constant ps ellipsis x parts.0)

base_fine : (table : FunctionTable) (done : List Completed) (t : CType) → are_complete_types done table.types ≡ true → ShapeFine done (shape_of table t)
base_fine table done t h = by (type_numbered table (function_number t)) refl where
  numbered : (o : Option ℕ) (f : FunctionType) → type_numbered table o ≡ Some f → Takes done f
  numbered None f e = let none : ⊥ = cc in absurd none
  numbered (Some n) f e = type_parameters_at done table.types n f h e

  by : (o : Option FunctionType) → type_numbered table (function_number t) ≡ o → ShapeFine done (shape_by t o)
  by None e = tt
  by (Some f) e = numbered (function_number t) f e

-- what a declarator says of a function
abbrev pub DerivationFine : List Completed → Derivation → Type 0
DerivationFine done (lengths ls) = Unit {0}
DerivationFine done (callable made) = Holds (Takes done) made

in_fine : (done : List Completed) (x : Shape) → ShapeFine done x → Holds (Takes done) (function_in x)
in_fine done (object t) h = refused (Takes done) 3
in_fine done (function_shaped f) h = given (Takes done) f h

made_fine : (done : List Completed) (made : Result Shape ℕ) → Holds (ShapeFine done) made → Holds (Takes done) (function_made made)
made_fine done made h = bind (ShapeFine done) (Takes done) made function_in h (λ x fine. in_fine done x fine)

pub derivation_fine : (table : FunctionTable) (done : List Completed) (base : Named) (ds : List Derived) → are_complete_types done table.types ≡ true → are_fine done ds ≡ true
    → DerivationFine done (derivation table done base ds)
derivation_fine table done base ds h g = by (shape_of table base.type) (plain_lengths ds) (base_fine table done base.type h) where
  by : (x : Shape) (o : Option (List (Option ℕ))) → ShapeFine done x → DerivationFine done (derivation_by done base.constant x ds o)
  by (object t) (Some ns) fine = tt
  by (object t) None fine = made_fine done _ (derived_fine done base.constant (object t) ds fine g)
  by (function_shaped f) o fine = made_fine done _ (derived_fine done base.constant (function_shaped f) ds fine g)

-- ---- parameters

-- variables behind those before, one of each parameter, as long as each has a name and none is void
abbrev pub Stands : List Named → Passed → Type 0
Stands before p = have_names p.parameters ≡ true → has_void p.parameters ≡ false → p.scope.variables ≡ before ++ map (λ (x : Parameter). x.type) p.parameters

pub record PassedDone (p q : Passed) : Type 0 where
  pub follows : Follows p.scope q.scope
  pub given : There p.scope → given_parameters p.scope.records.done p.parameters ≡ true → given_parameters q.scope.records.done q.parameters ≡ true
  pub variables : (before : List Named) → Stands before p → Stands before q
  pub more : (ns : List Named) × (q.scope.variables ≡ p.scope.variables ++ ns)

passed_refl : (p : Passed) → PassedDone p p
passed_refl p = record { follows = follows_refl p.scope; given = λ there h. h; variables = λ before h. h; more = ([], sym (append-nil p.scope.variables)) }

passed_trans : (p q r : Passed) → PassedDone p q → PassedDone q r → PassedDone p r
passed_trans p q r f g = record {
  follows = follows_trans p.scope q.scope r.scope f.follows g.follows;
  given = λ there h. g.given (f.follows.there there) (f.given there h);
  variables = λ before h. g.variables before (f.variables before h);
  more = (f.more.0 ++ g.more.0, g.more.1 ∙ ap (λ (vs : List Named). vs ++ g.more.0) f.more.1 ∙ append_assoc p.scope.variables f.more.0 g.more.0);
}

-- suffixes leave a scope with the same variables
pub record SuffixesDone (s : Scoped) (x : List Derived × Scoped) : Type 0 where
  pub settles : Settles s x.1
  pub fine : There s → are_fine x.1.records.done x.0 ≡ true

-- void, or a type that an object may have
abbrev Passable : List Completed → CType → Type 0
Passable done t = (is_given done t ≡ true) × (is_sized done t ≡ true)

complete_given : (done : List Completed) (t : CType) → is_complete done t ≡ true → is_given done t ≡ true
complete_given done ctypes.void h = refl
complete_given done (ctypes.integer u) h = refl
complete_given done (ctypes.aggregate p) h = h
complete_given done (ctypes.array e n) h = h
complete_given done (ctypes.pointer t c) h = refl
complete_given done (ctypes.function f) h = h

sized_passable : (done : List Completed) (t : CType) → Holds (Passable done) (sized_type done t)
sized_passable done t = by (is_complete done t) (is_sized done t) refl refl where
  by : (b c : Bool) → is_complete done t ≡ b → is_sized done t ≡ c → Holds {E = ℕ} (Passable done) ((if b then (if c then Ok (size_of done t) else Err 4) else Err 3) >>= λ size. Ok t)
  by true true e f = given (Passable done) t (complete_given done t e, f)
  by true false e f = refused (Passable done) 4
  by false c e f = refused (Passable done) 3

plain_given : (done : List Completed) (several : Bool) (t : CType) → Holds (Passable done) (plain_parameter done several t)
plain_given done several ctypes.void = by several where
  by : (b : Bool) → Holds {E = ℕ} (Passable done) (if b then Ok ctypes.void else sized_type done ctypes.void)
  by true = given (Passable done) ctypes.void (refl, refl)
  by false = sized_passable done ctypes.void
plain_given done several (ctypes.integer t) = sized_passable done (ctypes.integer t)
plain_given done several (ctypes.aggregate p) = sized_passable done (ctypes.aggregate p)
plain_given done several (ctypes.array e n) = sized_passable done (ctypes.array e n)
plain_given done several (ctypes.pointer t c) = sized_passable done (ctypes.pointer t c)
plain_given done several (ctypes.function f) = sized_passable done (ctypes.function f)

array_given : (done : List Completed) (base : CType) (ls : List (Option ℕ)) → Holds (Passable done) (array_parameter done base ls)
array_given done base [] = refused _ 7
array_given done base (None ∷ ns) =
    bind (λ (t : CType). Unit {0}) (Passable done) (element_type done base ns) _ (trivially _) (λ t _. bind (λ (u : CType). Unit {0}) (Passable done) (complete_type done t) _ (trivially _) (λ u _. refused _ 7))
array_given done base (Some n ∷ ns) = bind (λ (t : CType). Unit {0}) (Passable done) (array_of done base (Some n ∷ ns)) _ (trivially _) (λ t _. refused _ 7)

made_given : (done : List Completed) (several : Bool) (base : CType) (x : Derivation) → Holds (Passable done) (parameter_made done several base x)
made_given done several base (lengths []) = plain_given done several base
made_given done several base (lengths (n ∷ ns)) = array_given done base (n ∷ ns)
made_given done several base (callable (Ok f)) = refused _ 7
made_given done several base (callable (Err rule)) = refused _ rule

node_given : (done : List Completed) (b : Bool) (made : Result CType ℕ) → Holds (Passable done) made → Holds (Passable done) (parameter_node b made)
node_given done true made h = refused _ 2
node_given done false made h = h

declared_follows : (named : Bool) (s : Scoped) (name : List ℕ) (n : Named) → Passable s.records.done n.type → Follows s (declared_parameter named s name n)
declared_follows false s name n h = follows_refl s
declared_follows true s name n h = by (is_void n.type) refl where
  by : (b : Bool) → is_void n.type ≡ b → Follows s (if not b then with_variable s name n else s)
  by true e = follows_refl s
  by false e = variable_follows s name n (given_complete s.records.done n.type h.0 e) h.1

-- a declarator whose name isn't empty has one
named_so : (d : Full) → is_named_so (name_of d) ≡ true → full_has_name d ≡ true
named_so (full_unnamed suffixes) h = let none : ⊥ = cc in absurd none
named_so (full_named line n suffixes) h = refl
named_so (full_inside line d suffixes) h = named_so d h
named_so (full_pointing line qs d) h = named_so d h

names_last : (ps : List Parameter) (p : Parameter) → have_names (ps ++ p ∷ []) ≡ true → (have_names ps ≡ true) × (is_named_so p.name ≡ true)
names_last [] p h = (refl, (both (is_named_so p.name) true h).0)
names_last (x ∷ ps) p h =
    let parts = both (is_named_so x.name) (have_names (ps ++ p ∷ [])) h in
    let rest = names_last ps p parts.1 in
    (and (is_named_so x.name) (have_names ps) parts.0 rest.0, rest.1)

voids_last : (ps : List Parameter) (p : Parameter) → has_void (ps ++ p ∷ []) ≡ false → (has_void ps ≡ false) × (is_void p.type.type ≡ false)
voids_last [] p h = (refl, (neither (is_void p.type.type) false h).0)
voids_last (x ∷ ps) p h =
    let parts = neither (is_void x.type.type) (has_void (ps ++ p ∷ [])) h in
    let rest = voids_last ps p parts.1 in
    (rw (parts.0, rest.0) refl, rest.1)

given_last : (done : List Completed) (ps : List Parameter) (p : Parameter) → given_parameters done ps ≡ true → is_given done p.type.type ≡ true → given_parameters done (ps ++ p ∷ []) ≡ true
given_last done [] p h e = and (is_given done p.type.type) true e refl
given_last done (x ∷ ps) p h e =
    let parts = both (is_given done x.type.type) (given_parameters done ps) h in and (is_given done x.type.type) (given_parameters done (ps ++ p ∷ [])) parts.0 (given_last done ps p parts.1 e)

declared_same : (named : Bool) (s : Scoped) (name : List ℕ) (n : Named) → (declared_parameter named s name n).records ≡ s.records
declared_same named s name n = by (named && not (is_void n.type)) where
  by : (b : Bool) → (if b then with_variable s name n else s).records ≡ s.records
  by true = refl
  by false = refl

declared_last : (named : Bool) (s : Scoped) (name : List ℕ) (n : Named) → named ≡ true → is_void n.type ≡ false → (declared_parameter named s name n).variables ≡ s.variables ++ n ∷ []
declared_last named s name n h v = rw (h, v) refl

declared_more : (named : Bool) (s : Scoped) (name : List ℕ) (n : Named) → (ns : List Named) × ((declared_parameter named s name n).variables ≡ s.variables ++ ns)
declared_more named s name n = by (named && not (is_void n.type)) where
  by : (b : Bool) → (ns : List Named) × ((if b then with_variable s name n else s).variables ≡ s.variables ++ ns)
  by true = (n ∷ [], refl)
  by false = ([], sym (append-nil s.variables))

parameter_done : (several : Bool) (p : Passed) (d : Full) (n : Named) (t : Scoped) → Settles p.scope t → Passable t.records.done n.type
    → PassedDone p (with_parameter p (name_of d) n (declared_parameter (full_has_name d) t (name_of d) n))
parameter_done several p d n t f h =
    let u = declared_parameter (full_has_name d) t (name_of d) n in
    let new : Parameter = record { name = name_of d; type = n } in
    record {
      follows = follows_trans p.scope t u f.follows (declared_follows (full_has_name d) t (name_of d) n h);
      given = λ there g. subst (λ (rs : Records). given_parameters rs.done (p.parameters ++ new ∷ []) ≡ true) (sym (declared_same (full_has_name d) t (name_of d) n))
          (given_last t.records.done p.parameters new (parameters_kept f.follows.calls.later p.parameters g) h.0);
      variables = λ before stands names voids.
          let a = names_last p.parameters new names in
          let b = voids_last p.parameters new voids in
          declared_last (full_has_name d) t (name_of d) n (named_so d a.1) b.1
          ∙ ap (λ (vs : List Named). vs ++ n ∷ []) (f.same ∙ stands a.0 b.0)
          ∙ append_assoc before (map (λ (x : Parameter). x.type) p.parameters) (n ∷ [])
          ∙ ap (λ (vs : List Named). before ++ vs) (sym (map-append (λ (x : Parameter). x.type) p.parameters (new ∷ [])));
      more =
          let one = declared_more (full_has_name d) t (name_of d) n in
          (one.0, one.1 ∙ ap (λ (vs : List Named). vs ++ one.0) f.same);
    }

judged_done : (r : Region) (several : Bool) (p : Passed) (parts : Parts) (base : Named) (d : Full) (suffixes : Derivations) (t : Scoped) → Settles p.scope t → Holds (SuffixesDone t) suffixes
    → Holds (PassedDone p) (judged_parameter r several p parts base d suffixes)
judged_done r several p parts base d suffixes t f h =
    bind (SuffixesDone t) (PassedDone p) suffixes _ h (λ x g.
    let node = parameter_node (full_has_name d && is_some (earlier r x.1 (name_of d))) (parameter_made x.1.records.done several base.type (derivation x.1.functions x.1.records.done base x.0)) in
    bind (Passable x.1.records.done) (PassedDone p) (on_line (parameter_line parts d) node) _
    (on_same_line (Passable x.1.records.done) (parameter_line parts d) node
    (node_given x.1.records.done (full_has_name d && is_some (earlier r x.1 (name_of d))) (parameter_made x.1.records.done several base.type (derivation x.1.functions x.1.records.done base x.0))
    (made_given x.1.records.done several base.type (derivation x.1.functions x.1.records.done base x.0)))) (λ u k.
    given (PassedDone p) _ (parameter_done several p d (record { type = u; constant = base.constant }) x.1 (settles_trans p.scope t x.1 f g.settles) k)))

-- ---- suffixes

counted_done : (s : Scoped) (n : Option ℕ) (rest : Derivations) → Holds (SuffixesDone s) rest → Holds (SuffixesDone s) (counted_in_front n rest)
counted_done s n rest h = bind (SuffixesDone s) (SuffixesDone s) rest _ h (λ x f. given (SuffixesDone s) (counted n ∷ x.0, x.1) (record { settles = f.settles; fine = f.fine }))

called_done : (s t : Scoped) (ps : List Parameter) (ellipsis : Bool) (rest : Derivations) → Settles s t → (There s → given_parameters t.records.done ps ≡ true) → Holds (SuffixesDone t) rest
    → Holds (SuffixesDone s) (called_in_front ps ellipsis rest)
called_done s t ps ellipsis rest f g h =
    bind (SuffixesDone t) (SuffixesDone s) rest _ h (λ x k.
    given (SuffixesDone s) (called ps ellipsis ∷ x.0, x.1) (record {
      settles = settles_trans s t x.1 f k.settles;
      fine = λ there. and _ _ (parameters_kept k.settles.follows.calls.later ps (g there)) (k.fine (f.follows.there there));
    }))

-- ---- members and specifiers

pub member_keeps : (base : Named) (f : Fields) (d : Full) (ds : List Derived) → Holds (λ g. g.scope ≡ f.scope) (with_member base f d ds)
member_keeps base f d ds =
    bind (λ (t : CType). Unit {0}) (λ g. g.scope ≡ f.scope) (member_type base f.names f.scope d ds) _ (trivially _) (λ t _. given (λ g. g.scope ≡ f.scope) _ refl)

anonymous_keeps : (b : Bool) (n : Named) (f : Fields) → (with_anonymous b n f).scope ≡ f.scope
anonymous_keeps true n f = refl
anonymous_keeps false n f = refl

pub type_part_settles : (p : Parted) (t : TypePart) → Settles p.scope (with_type_part p t).scope
type_part_settles p (qualified line q) = settles_refl p.scope
type_part_settles p (word line w) = settles_refl p.scope
type_part_settles p (tagged line kind name) = found_tag_settles p.scope kind name (tag_of p.scope.bindings name)
type_part_settles p (typedef_name line name) = settles_refl p.scope

enumeration_part_settles : (r : Region) (p : Parted) (tag : Option (List ℕ)) (es : List Enumerated) → Holds (λ q. Settles p.scope q.scope) (typed_enumeration r p tag es)
enumeration_part_settles r p tag es =
    bind (Settles p.scope) (λ q. Settles p.scope q.scope) (typed_enumerators r p.scope None es) _ (enumerators_settle r p.scope None es) (λ s f.
    given (λ q. Settles p.scope q.scope) _ (settles_trans p.scope s (enumeration_closed r s tag).1 f (enumeration_settles r s tag)))

members_settle_by : (p : Parted) (o : Opened) (kind : RecordKind) (fields : Result Fields Fault) → Settles p.scope o.scope → Holds (λ g. Settles o.scope g.scope) fields
    → Holds (λ q. Settles p.scope q.scope) (with_members p o kind fields)
members_settle_by p o kind fields f h =
    bind (λ g. Settles o.scope g.scope) (λ q. Settles p.scope q.scope) fields _ h (λ g more.
    let again = reopened o.place o.clashes kind g.scope in
    given (λ q. Settles p.scope q.scope) _ (settles_trans p.scope o.scope (closed again g.fields).1 f
    (settles_trans o.scope g.scope (closed again g.fields).1 more
    (settles_trans g.scope again.scope (closed again g.fields).1 (reopened_settles o.place o.clashes kind g.scope) (closed_settles again g.fields)))))

out_settles : (anonymous : Bool) (names : List (List ℕ)) (s : Scoped) (fields : Result Fields Fault) → Holds (λ g. Settles s g.scope) fields → Holds (λ g. Settles s g.scope) (fields_out anonymous names fields)
out_settles anonymous names s fields h = bind (λ g. Settles s g.scope) (λ g. Settles s g.scope) fields _ h (λ g f. given (λ x. Settles s x.scope) _ f)

field_settles : (base : Named) (f : Fields) (d : Full) (suffixes : Derivations) → Holds (SuffixesDone f.scope) suffixes
    → Holds (λ g. Settles f.scope g.scope) (suffixes >>= λ x. with_member base (record f { scope = x.1 }) d x.0)
field_settles base f d suffixes h =
    bind (SuffixesDone f.scope) (λ g. Settles f.scope g.scope) suffixes _ h (λ x k.
    weaken (λ g. g.scope ≡ x.1) (λ g. Settles f.scope g.scope) (with_member base (record f { scope = x.1 }) d x.0) (member_keeps base (record f { scope = x.1 }) d x.0) (λ g same.
    subst (Settles f.scope) (sym same) k.settles))

pub named_settles : (s : Scoped) (parts : Parts) (specifiers : Result Parted Fault) → Holds (λ p. Settles s p.scope) specifiers → Holds (λ x. Settles s x.1) (named_parts parts specifiers)
named_settles s parts specifiers h =
    bind (λ p. Settles s p.scope) (λ x. Settles s x.1) specifiers _ h (λ p f.
    bind (λ (n : Named). Unit {0}) (λ x. Settles s x.1) (on_line (parts_line parts) (specified_type p.specified)) _ (trivially _) (λ n _. given (λ x. Settles s x.1) (n, p.scope) f))

mutual
  pub part_settles : (r : Region) (alone : Bool) (p : Parted) (x : Part) → Holds (λ q. Settles p.scope q.scope) (typed_part r alone p x)
  part_settles r alone p (type_part t) = given (λ q. Settles p.scope q.scope) _ (type_part_settles p t)
  part_settles r alone p (storage line class) = given (λ q. Settles p.scope q.scope) _ (settles_refl p.scope)
  part_settles r alone p (function line w) = given (λ q. Settles p.scope q.scope) _ (settles_refl p.scope)
  part_settles r alone p (structure line kind tag ms) =
      let o = opened r p.scope (kind_of kind) tag in
      let f = fields_within (is_anonymous alone tag) p.names o.scope in
      members_settle_by p o (kind_of kind) (fields_out (is_anonymous alone tag) p.names (typed_members r f ms)) (opened_settles r p.scope (kind_of kind) tag)
      (out_settles (is_anonymous alone tag) p.names o.scope (typed_members r f ms) (members_settle r f ms))
  part_settles r alone p (enumeration line tag es) = enumeration_part_settles r p tag es

  pub parts_settle : (r : Region) (alone : Bool) (p : Parted) (xs : Parts) → Holds (λ q. Settles p.scope q.scope) (typed_parts r alone p xs)
  parts_settle r alone p no_part = given (λ q. Settles p.scope q.scope) p (settles_refl p.scope)
  parts_settle r alone p (part first rest) =
      bind (λ q. Settles p.scope q.scope) (λ q. Settles p.scope q.scope) (typed_part r alone p first) _ (part_settles r alone p first) (λ q f.
      weaken (λ x. Settles q.scope x.scope) (λ x. Settles p.scope x.scope) (typed_parts r alone q rest) (parts_settle r alone q rest) (λ x g. settles_trans p.scope q.scope x.scope f g))

  pub members_settle : (r : Region) (f : Fields) (ms : Members) → Holds (λ g. Settles f.scope g.scope) (typed_members r f ms)
  members_settle r f no_member = given (λ g. Settles f.scope g.scope) f (settles_refl f.scope)
  members_settle r f (members parts ds rest) =
      bind (λ p. Settles f.scope p.scope) (λ g. Settles f.scope g.scope) (typed_parts r (is_none ds) (said_before f) parts) _ (parts_settle r (is_none ds) (said_before f) parts) (λ p more.
      bind (λ (n : Named). Unit {0}) (λ g. Settles f.scope g.scope) (on_line (parts_line parts) (specified_type p.specified)) _ (trivially _) (λ n _.
      let before = fields_behind f parts ds p n in
      let now : Settles f.scope before.scope = subst (Settles f.scope) (sym (anonymous_keeps (is_none ds && has_untagged parts) n (record { fields = f.fields; names = p.names; scope = p.scope }))) more in
      bind (λ g. Settles before.scope g.scope) (λ g. Settles f.scope g.scope) (typed_fields r n before ds) _ (fields_settle r n before ds) (λ g h.
      weaken (λ x. Settles g.scope x.scope) (λ x. Settles f.scope x.scope) (typed_members r g rest) (members_settle r g rest) (λ x k.
      settles_trans f.scope before.scope x.scope now (settles_trans before.scope g.scope x.scope h k)))))

  pub fields_settle : (r : Region) (base : Named) (f : Fields) (ds : Fulls) → Holds (λ g. Settles f.scope g.scope) (typed_fields r base f ds)
  fields_settle r base f no_full = given (λ g. Settles f.scope g.scope) f (settles_refl f.scope)
  fields_settle r base f (full d ds) =
      bind (SuffixesDone f.scope) (λ g. Settles f.scope g.scope) (typed_full f.scope d) _ (full_settles f.scope d) (λ x k.
      bind (λ g. g.scope ≡ x.1) (λ g. Settles f.scope g.scope) (with_member base (record f { scope = x.1 }) d x.0) _ (member_keeps base (record f { scope = x.1 }) d x.0) (λ g same.
      weaken (λ h. Settles g.scope h.scope) (λ h. Settles f.scope h.scope) (typed_fields r base g ds) (fields_settle r base g ds) (λ h more.
      settles_trans f.scope g.scope h.scope (subst (Settles f.scope) (sym same) k.settles) more)))

  pub full_settles : (s : Scoped) (d : Full) → Holds (SuffixesDone s) (typed_full s d)
  full_settles s (full_unnamed suffixes) = suffixes_settle s suffixes
  full_settles s (full_named line n suffixes) = suffixes_settle s suffixes
  full_settles s (full_inside line d suffixes) =
      bind (SuffixesDone s) (SuffixesDone s) (typed_full s d) _ (full_settles s d) (λ inner f.
      bind (SuffixesDone inner.1) (SuffixesDone s) (typed_suffixes inner.1 suffixes) _ (suffixes_settle inner.1 suffixes) (λ outer g.
      given (SuffixesDone s) (inner.0 ++ outer.0, outer.1) (record {
        settles = settles_trans s inner.1 outer.1 f.settles g.settles;
        fine = λ there. fine_behind outer.1.records.done inner.0 outer.0 (fine_kept g.settles.follows.calls.later inner.0 (f.fine there)) (g.fine (f.settles.follows.there there));
      })))
  full_settles s (full_pointing line qs d) = refused (SuffixesDone s) _

  pub suffixes_settle : (s : Scoped) (x : FullSuffixes) → Holds (SuffixesDone s) (typed_suffixes s x)
  suffixes_settle s full_end = given (SuffixesDone s) ([], s) (record { settles = settles_refl s; fine = λ there. refl })
  suffixes_settle s (full_bounded line e rest) =
      bind (λ (n : ℕ). Unit {0}) (SuffixesDone s) (said_bound s e) _ (trivially _) (λ n _. counted_done s (Some n) (typed_suffixes s rest) (suffixes_settle s rest))
  suffixes_settle s (full_open line rest) = counted_done s None (typed_suffixes s rest) (suffixes_settle s rest)
  suffixes_settle s (full_empty line rest) = called_done s s [] false (typed_suffixes s rest) (settles_refl s) (λ there. refl) (suffixes_settle s rest)
  suffixes_settle s (full_void line rest) = called_done s s [] false (typed_suffixes s rest) (settles_refl s) (λ there. refl) (suffixes_settle s rest)
  suffixes_settle s (full_parameters line ps variadic rest) =
      let first : Passed = record { parameters = []; scope = s } in
      bind (PassedDone first) (SuffixesDone s) (typed_parameters (inner_region s) (are_several ps) first ps) _ (parameters_done (inner_region s) (are_several ps) first ps) (λ p f.
      called_done s (ended s p.scope) p.parameters variadic (typed_suffixes (ended s p.scope) rest) (ended_settles s p.scope f.follows) (λ there. f.given there refl) (suffixes_settle (ended s p.scope) rest))

  pub parameters_done : (r : Region) (several : Bool) (p : Passed) (ps : Parameters) → Holds (PassedDone p) (typed_parameters r several p ps)
  parameters_done r several p no_parameter = given (PassedDone p) p (passed_refl p)
  parameters_done r several p (parameter parts d rest) =
      bind (λ x. Settles p.scope x.1) (PassedDone p) (named_parts parts (typed_parts r false (parted [] p.scope) parts)) _
      (named_settles p.scope parts (typed_parts r false (parted [] p.scope) parts) (parts_settle r false (parted [] p.scope) parts)) (λ x f.
      bind (PassedDone p) (PassedDone p) (judged_parameter r several p parts x.0 d (typed_full x.1 d)) _ (judged_done r several p parts x.0 d (typed_full x.1 d) x.1 f (full_settles x.1 d)) (λ q g.
      weaken (PassedDone q) (PassedDone p) (typed_parameters r several q rest) (parameters_done r several q rest) (λ x h. passed_trans p q x g h)))

pub specifiers_settle : (r : Region) (s : Scoped) (parts : Parts) (ds : Declarators) → Holds (λ x. Settles s x.scope) (typed_specifiers r s parts ds)
specifiers_settle r s parts ds =
    let t = with_lone r s (lone_tag parts ds) in
    let p : Parted = record { specified = nothing_specified; names = []; scope = t } in
    bind (λ q. Settles t q.scope) (λ x. Settles s x.scope) (typed_parts r false p parts) _ (parts_settle r false p parts) (λ q f.
    bind (λ (n : Named). Unit {0}) (λ x. Settles s x.scope) (on_line (parts_line parts) (specified_type q.specified)) _ (trivially _) (λ n _.
    given (λ x. Settles s x.scope) _ (settles_trans s t q.scope (lone_settles r s (lone_tag parts ds)) f)))
