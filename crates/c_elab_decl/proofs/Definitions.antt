-- The steps that type a definition, one behind the other.
use Rattle.std.proofs.Common.{◌≡◌, ◌≤◌, ◌+◌, ◌-◌, ℕ, true, false, List, [], ◌∷◌, ◌++◌, length, take, drop, map, None, Ok, Err, Result, ap, ap₂, sym, ◌∙◌, arith}
use Rattle.std.proofs.lemmas.List.{append_assoc, length-append}
use Rattle.c_tree.specs.Declarations.{Parts, Declarators, Full, name_of}
use Rattle.c_tree.specs.Statements.{Statement, Externals, declared}
use Rattle.c_types.specs.Types.{CType}
use Rattle.core_tree.specs.declared.functions.Variable.{Variable}
use Rattle.core_tree.specs.Trees as cores
use Rattle.c_scope.specs.declared.meaning.Meaning.TheVariants.{Function}
use Rattle.c_scope.specs.Scopes.{Environment, Binding, binding, Named, FunctionType, FunctionTable, Scoped, are_there, are_known, no_flow, first_scope, variables_in, linked_to}
use Rattle.c_scope.specs.Faults.{◌>>=◌, Fault, Gives, on_line}
use Rattle.c_scope.specs.declared.fault.TypingError.{TypingError}
use Rattle.c_scope.proofs.Variables.{are_there_wider}
use Rattle.c_elab_expr.proofs.WellTyped.{on_same_line}
use Rattle.c_elab_base.specs.Derivations.{Derived, full_line, derivation}
use Rattle.c_elab_base.specs.Specifiers.{Passed, parted, named_parts}
use Rattle.c_elab_type.specs.Specifiers.{typed_parts}
use Rattle.c_elab_object.specs.Functions.{declared_callable}
use Rattle.c_elab_object.specs.DeclaratorLists.{in_file, typed_outside}
use Rattle.c_elab_flow.specs.Jumps.{labels_in}
use Rattle.c_elab_flow.specs.Files.{own_parameters, Definition, with_bodies, procedure_of, static_of}
use Rattle.c_elab_decl.specs.Files.{made_by, own_suffixes, definition_type, names_within, within_body, own_number, typed_body_of, outside, typed_definition, typed_externals, with_definitions, elaborated}
use Rattle.c_elab_flow.specs.declared.files.Definition.{Definition as CodeDefinition}
use Rattle.c_elab_flow.specs.Held.{view_definitions}
use Rattle.c_elab_decl.specs.DefinitionSteps.{DefinitionStep, definitions_first}
use Rattle.c_elab_base.proofs.Steps.{fails_on}
use Rattle.c_elab_base.proofs.Growing.{Inner, kept}
use Rattle.c_elab_type.proofs.Settling.{named_settles, parts_settle}
use Rattle.c_elab_decl.proofs.StatementFronts.{outside_more, outside_fails}
use Rattle.c_elab_decl.proofs.Bodies.{OwnDone, own_done, TypeDone, type_done, BodyDone, body_done, declared_done}

-- a rule on the same line, behind another
pub node_behind : (line : ℕ) (r : Result FunctionType ℕ) (g : FunctionType → Result FunctionType ℕ) (f : FunctionType) → on_line line r ≡ Ok f → on_line line (r >>= g) ≡ on_line line (g f)
node_behind line (Ok x) g f e = let same : x ≡ f = cc in ap (λ (y : FunctionType). on_line line (g y)) same
node_behind line (Err rule) g f e = let none : ⊥ = cc in absurd none

-- a fault of what stands in a file is the file's
pub file_fails : (ds : Externals) (f : Fault) → typed_externals (with_definitions first_scope ds) ds ≡ Err f → elaborated ds ≡ Err f
file_fails ds f e =
    ap (λ (r : Result (List Definition × Scoped) Fault). r >>= λ x. Ok (record { functions = with_bodies (map (procedure_of x.1.records.done) x.1.functions.all) x.0; objects = map (static_of x.1.records.done) x.1.objects; literals = []; pointers = false })) e

-- a declaration in a file
pub outside_step : (r : Result (Unit {0}) TypingError) (s t : Scoped) (parts : Parts) (ds : Declarators) (rest : Externals) (before : List CodeDefinition) → Gives (λ (u : Unit {0}). t) r (typed_outside s parts ds)
    → DefinitionStep r before before (typed_externals s (declared parts ds rest)) (typed_externals t rest)
outside_step (Ok u) s t parts ds rest before h = ap (definitions_first (view_definitions before)) (outside_more s t parts ds rest h)
outside_step (Err e) s t parts ds rest before h = fails_on e (typed_outside s parts ds) (typed_externals s (declared parts ds rest)) (λ f bad. outside_fails s parts ds rest f bad) h

module _ (s : Scoped) (parts : Parts) (d : Full) (body : Statement) where
  abbrev at_body : Scoped → Result (cores.Statement × Scoped) Fault → Result (Definition × Scoped) Fault
  at_body outer r = r >>= λ y. Ok (record { number = own_number (linked_to y.1.functions.named (name_of d)); variables = variables_in y.1; labels = length (labels_in body); body = y.0 }, outside outer y.1 (name_of d))

  abbrev at_type : Scoped → Passed → Result FunctionType Fault → Result (Definition × Scoped) Fault
  at_type outer p r = r >>= λ f. at_body outer (typed_body_of (length outer.bindings + 1) (within_body outer p.scope d f) body)

  abbrev at_own : Named × Scoped → Result (List Derived × Passed) Fault → Result (Definition × Scoped) Fault
  at_own x r = r >>= λ p. at_type x.1 p.1 (on_line (full_line d) (definition_type x.1 x.0 d p.0 p.1))

  abbrev at_parts : Result (Named × Scoped) Fault → Result (Definition × Scoped) Fault
  at_parts r = r >>= λ x. at_own x (own_suffixes x.1 d (own_parameters d))

  abbrev named_before : Result (Named × Scoped) Fault
  named_before = named_parts parts (typed_parts in_file false (parted [] s) parts)

  pub bare_before : (outer : Scoped) (base : Named) → named_before ≡ Ok (base, outer) → s.variables ≡ [] → outer.variables ≡ []
  bare_before outer base e bare = (named_settles s parts (typed_parts in_file false (parted [] s) parts) (parts_settle in_file false (parted [] s) parts) (base, outer) e).same ∙ bare

  pub parts_fail : (f : Fault) → named_before ≡ Err f → typed_definition s parts d body ≡ Err f
  parts_fail f e = ap at_parts e

  pub own_fail : (outer : Scoped) (base : Named) (f : Fault) → named_before ≡ Ok (base, outer) → own_suffixes outer d (own_parameters d) ≡ Err f → typed_definition s parts d body ≡ Err f
  own_fail outer base f e1 e = ap at_parts e1 ∙ ap (at_own (base, outer)) e

  pub type_fail : (outer : Scoped) (base : Named) (ds : List Derived) (p : Passed) (f : Fault) → named_before ≡ Ok (base, outer) → own_suffixes outer d (own_parameters d) ≡ Ok (ds, p)
      → on_line (full_line d) (definition_type outer base d ds p) ≡ Err f → typed_definition s parts d body ≡ Err f
  type_fail outer base ds p f e1 e2 e = ap at_parts e1 ∙ ap (at_own (base, outer)) e2 ∙ ap (at_type outer p) e

  module _ (outer : Scoped) (base : Named) (ds : List Derived) (p : Passed) (f : FunctionType) (e1 : named_before ≡ Ok (base, outer)) (e2 : own_suffixes outer d (own_parameters d) ≡ Ok (ds, p))
      (e3 : on_line (full_line d) (definition_type outer base d ds p) ≡ Ok f) where
    abbrev own_callable : ℕ × FunctionTable
    own_callable = declared_callable p.scope.functions d f true (linked_to p.scope.functions.named (name_of d))

    abbrev own_scope : Scoped
    own_scope = within_body outer p.scope d f

    own : OwnDone outer (ds, p)
    own = own_done outer d (own_parameters d) (ds, p) e2

    typed_so : TypeDone p.scope (name_of d) p.parameters p.scope.records.done (made_by (derivation p.scope.functions p.scope.records.done base ds)) f
    typed_so =
        on_same_line (TypeDone p.scope (name_of d) p.parameters p.scope.records.done (made_by (derivation p.scope.functions p.scope.records.done base ds))) (full_line d) (definition_type outer base d ds p) (type_done outer base d ds p) f e3

    pub outer_within : length outer.bindings ≤ length p.scope.bindings
    outer_within = let long = ap (λ (env : Environment). length env) own.follows.names.1 ∙ length-append own.follows.names.0 outer.bindings in omega (arith, long)

    -- the scope of the body
    pub scope_is : (a b c : Scoped) (n k : ℕ) (name : List ℕ) (gives : CType) → k ≡ own_callable.0 → a ≡ record p.scope { functions = own_callable.1 } → n ≡ length outer.bindings → name ≡ name_of d → gives ≡ f.gives.type
        → b ≡ record a { bindings = take (length a.bindings - n) a.bindings ++ binding name (Function k) ∷ drop (length a.bindings - n) a.bindings }
        → c ≡ record b { flow = record { gives = gives; loops = 0; labels = 0; switch = None } } → c ≡ within_body outer p.scope d f
    scope_is a b c n k name gives k_is a_is at named is below begun =
        let ps = p.scope.bindings in
        let left = kept outer.bindings ps own.follows.names in
        begun ∙ ap₂ (λ (x : Scoped) (t : CType). record x { flow = record { gives = t; loops = 0; labels = 0; switch = None } }) below is
        ∙ ap₂ (λ (x : Scoped) (m : ℕ). record x {
          bindings = take (length x.bindings - m) x.bindings ++ binding name (Function k) ∷ drop (length x.bindings - m) x.bindings;
          flow = record { gives = f.gives.type; loops = 0; labels = 0; switch = None };
        }) a_is at
        ∙ ap₂ (λ (m : List ℕ) (l : ℕ). record p.scope {
          bindings = take (length ps - length outer.bindings) ps ++ binding m (Function l) ∷ drop (length ps - length outer.bindings) ps;
          functions = own_callable.1;
          flow = record { gives = f.gives.type; loops = 0; labels = 0; switch = None };
        }) named k_is
        ∙ ap (λ (env : Environment). record p.scope {
          bindings = take (length ps - length outer.bindings) ps ++ binding (name_of d) (Function own_callable.0) ∷ env;
          functions = own_callable.1;
          flow = record { gives = f.gives.type; loops = 0; labels = 0; switch = None };
        }) left

    pub body_within : (c : Scoped) (n : ℕ) → c ≡ within_body outer p.scope d f → n ≡ length outer.bindings → n + 1 ≤ length c.bindings
    body_within c n is at =
        let front = names_within outer p.scope in
        let long = ap (λ (x : Scoped). length x.bindings) is ∙ length-append front (binding (name_of d) (Function own_callable.0) ∷ outer.bindings) in
        omega (arith, long, at)

    pub body_fails : (c : Scoped) (n : ℕ) (b : Fault) → c ≡ within_body outer p.scope d f → n ≡ length outer.bindings → typed_body_of (n + 1) c body ≡ Err b → typed_definition s parts d body ≡ Err b
    body_fails c n b is at e =
        ap at_parts e1 ∙ ap (at_own (base, outer)) e2 ∙ ap (at_type outer p) e3
        ∙ ap (at_body outer) (sym (ap₂ (λ (m : ℕ) (x : Scoped). typed_body_of (m + 1) x body) at is) ∙ e)

    module _ (c y : Scoped) (n : ℕ) (x : cores.Statement) (is : c ≡ within_body outer p.scope d f) (at : n ≡ length outer.bindings) (good : typed_body_of (n + 1) c body ≡ Ok (x, y)) where
      whole : typed_body_of (length outer.bindings + 1) (within_body outer p.scope d f) body ≡ Ok (x, y)
      whole = sym (ap₂ (λ (m : ℕ) (z : Scoped). typed_body_of (m + 1) z body) at is) ∙ good

      done : BodyDone (within_body outer p.scope d f) (x, y)
      done = body_done (length outer.bindings + 1) (within_body outer p.scope d f) body (x, y) whole

      abbrev own_name : Binding
      own_name = binding (name_of d) (Function own_callable.0)

      -- the function's name and those outside are left
      names_behind : drop (length y.bindings - (n + 1)) y.bindings ≡ binding (name_of d) (Function (declared_callable p.scope.functions d f true (linked_to p.scope.functions.named (name_of d))).0) ∷ outer.bindings
      names_behind =
          let front = names_within outer p.scope in
          let inner : Inner (own_name ∷ outer.bindings) y.bindings =
          (done.follows.names.0 ++ front, done.follows.names.1 ∙ sym (append_assoc done.follows.names.0 front (own_name ∷ outer.bindings))) in
          let count : n + 1 ≡ length (own_name ∷ outer.bindings) = omega (arith, at) in
          ap (λ (m : ℕ). drop (length y.bindings - m) y.bindings) count ∙ kept (own_name ∷ outer.bindings) y.bindings inner

      number_is : own_number (linked_to y.functions.named (name_of d)) ≡ (declared_callable p.scope.functions d f true (linked_to p.scope.functions.named (name_of d))).0
      number_is =
          let made = declared_done p.scope d f typed_so.linked in
          ap own_number (done.follows.calls.named (name_of d) own_callable.0 made.number)

      pub names_there : (e g : Scoped) → outer.variables ≡ [] → are_known outer ≡ true → e ≡ record y { bindings = drop (length y.bindings - (n + 1)) y.bindings } → g ≡ record e { flow = no_flow }
          → are_there 0 (length g.objects) (length g.types) (length g.records.declared) g.bindings ≡ true
      names_there e g bare known left ended =
          let objects = own.follows.objects in
          let types = own.follows.types in
          let records = own.follows.records in
          let more_objects = done.follows.objects in
          let more_types = done.follows.types in
          let more_records = done.follows.records in
          ap (λ (z : Scoped). are_there 0 (length z.objects) (length z.types) (length z.records.declared) z.bindings) (ended ∙ ap (λ (z : Scoped). record z { flow = no_flow }) left)
          ∙ ap (are_there 0 (length y.objects) (length y.types) (length y.records.declared)) names_behind
          ∙ are_there_wider 0 0 (length outer.objects) (length y.objects) (length outer.types) (length y.types) (length outer.records.declared) (length y.records.declared) outer.bindings
          (omega arith) (omega (arith, objects, more_objects)) (omega (arith, types, more_types)) (omega (arith, records, more_records))
          (ap (λ (m : ℕ). are_there m (length outer.objects) (length outer.types) (length outer.records.declared) outer.bindings) (sym (ap (λ (vs : List Named). length vs) bare)) ∙ known)

      pub defined_so : (e g h : Scoped) (k : ℕ) (vs : List Variable) (l : ℕ) → k ≡ own_callable.0 → e ≡ record y { bindings = drop (length y.bindings - (n + 1)) y.bindings } → g ≡ record e { flow = no_flow } → h ≡ record g { variables = [] } → vs ≡ variables_in g → l ≡ length (labels_in body)
          → typed_definition s parts d body ≡ Ok (record { number = k; variables = vs; labels = l; body = x }, h)
      defined_so e g h k vs l number left ended taken said counted =
          let g_is : g ≡ record y { bindings = own_name ∷ outer.bindings; flow = no_flow } =
          ended ∙ ap (λ (z : Scoped). record z { flow = no_flow }) left ∙ ap (λ (env : Environment). record y { bindings = env; flow = no_flow }) names_behind in
          let h_is : h ≡ outside outer y (name_of d) =
          taken ∙ ap (λ (z : Scoped). record z { variables = [] }) g_is
          ∙ ap (λ (l : ℕ). record y { bindings = binding (name_of d) (Function l) ∷ outer.bindings; variables = []; flow = no_flow }) (sym number_is) in
          let vs_are : vs ≡ variables_in y = said ∙ ap variables_in g_is in
          let k_is : k ≡ own_number (linked_to y.functions.named (name_of d)) = number ∙ sym number_is in
          ap at_parts e1 ∙ ap (at_own (base, outer)) e2 ∙ ap (at_type outer p) e3 ∙ ap (at_body outer) whole
          ∙ ap₂ (λ (m : ℕ) (ws : List Variable). Ok (record { number = m; variables = ws; labels = length (labels_in body); body = x }, outside outer y (name_of d))) (sym k_is) (sym vs_are)
          ∙ ap₂ (λ (j : ℕ) (z : Scoped). Ok (record { number = k; variables = vs; labels = j; body = x }, z)) (sym counted) (sym h_is)
