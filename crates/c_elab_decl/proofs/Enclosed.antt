-- `break`, `continue` and cases stand in their statements.
use Rattle.std.proofs.Common.{Bool, Err, List, None, Ok, Option, Result, Some, [], ap, false, length, map, refl, subst, suc, sym, true, zero, ℕ, ◌++◌, ◌+◌, ◌∙◌, ◌∷◌, ◌≡◌, arith}
use Rattle.std.specs.Prelude.{if◌then◌else◌, is_some, nat_lt, option_map, slice_get, slice_set, ◌==◌}
use Rattle.std.specs.Str.{bytes_eq}
use Rattle.std.proofs.lemmas.Bool.Decides.{nat_tests}
use borrow.Author.Tests.{lt-ltb, ltb-true}
use Rattle.c_tree.specs.Tree.{Tree}
use Rattle.c_tree.specs.Declarations.{Declarators, Full, Initial, Parts, declarator, name_of, none_declared}
use Rattle.c_tree.specs.Statements.{Externals, Items, Statement, block, break_off, case_of, continue_on, declared, declares, default_of, defines, do_loop, does, done, empty, evaluate, for_declared, for_loop, goto_label, if_else, if_then, labelled, no_more, return_nothing, return_value, switch_on, while_loop}
use Rattle.c_types.specs.declared.integers.IntegerType.{IntegerType}
use Rattle.c_types.specs.Types.{CType, Completed}
use Rattle.c_types.specs.Types as ctypes
use Rattle.core_tree.specs.Trees.{Expression, Procedure, Static, Structure}
use Rattle.core_tree.specs.Trees as cores
use Rattle.c_scope.specs.Scopes.{Callable, Cases, FunctionType, Named, Scoped, first_scope}
use Rattle.c_scope.specs.Faults.{required, ◌>>=◌, Fault, fault, on_line}
use Rattle.c_operands.specs.Operands.{Operand, dropped, number, record_value}
use Rattle.c_elab_expr.specs.Typing.{operand, operand_by}
use Rattle.c_scope.proofs.Variables.{and, both}
use Rattle.c_elab_expr.proofs.WellTyped.{Holds, bind, given, on_same_line, refused}
use Rattle.c_elab_base.specs.declared.regions.Region.{Region}
use Rattle.c_elab_base.specs.declared.regions.Role.{Role}
use Rattle.c_elab_base.specs.declared.regions.Role.TheVariants as roles
use Rattle.c_elab_base.specs.Derivations.{Derivation, Derived, callable, derivation, full_line, lengths}
use Rattle.c_elab_type.specs.Initializers.{Value, initializer_of, number_value, structure_value}
use Rattle.c_elab_base.specs.Declarators.{is_open, of_type, with_variable, within_initializer}
use Rattle.c_elab_type.specs.Declarators.{Typed, declared_item, in_front, typed_variable, variable_type}
use Rattle.c_elab_base.specs.Specifiers.{Passed, named_parts, parted}
use Rattle.c_elab_type.specs.Specifiers.{Specification, typed_full, typed_parts, typed_specifiers}
use Rattle.c_elab_object.specs.Functions.{typed_function}
use Rattle.c_elab_object.specs.DeclaratorLists.{typed_by, typed_declaration, typed_others, typed_variables, variable_by, in_file, typed_outside}
use Rattle.c_elab_flow.specs.Jumps.{is_passed, jumps_in, label_number, labels_in}
use Rattle.c_elab_flow.specs.Nodes.{Around, is_number, case_node, default_node, in_loop, in_switch, jump_node, label_node, part_ignored, part_tested, return_node, return_nothing_node, switch_type, switch_value, test_node, with_cases, with_label, with_loop, with_switch}
use Rattle.c_elab_decl.specs.Statements.{TypedFront, TypedStatement, as_block, as_items, in_block, own_block, switch_ended, switch_of, typed_front, typed_items, typed_rest, typed_statement}
use Rattle.c_elab_flow.specs.Files.{Definition, own_parameters, procedure_of, with_bodies, with_body}
use Rattle.c_elab_decl.specs.Files.{definition_type, own_suffixes, typed_body_of, typed_definition, typed_externals, with_definitions, within_body}
use Rattle.c_elab_base.proofs.Signatures.{switched}
use Rattle.c_elab_base.proofs.Growing.{Settles, SettlesIf, There, settles_both, variable_follows}
use Rattle.c_elab_type.proofs.Settling.{DerivationFine, SuffixesDone, full_settles, specifiers_settle, trivially}
use Rattle.c_elab_object.proofs.SettlingDeclared.{function_settled, others_settle, suffixes_fine}
use Rattle.c_elab_decl.proofs.Objects.{IsObject}
use Rattle.core_tree.specs.Standing.{Standing, are_standing, stand, stands, stands_body, stands_file}
use Rattle.core_tree.specs.Standing as places
use Rattle.c_elab_decl.proofs.Initialized.{fine}
use Rattle.c_elab_decl.proofs.WellTyped.{CaseDone, DefaultDone, FrontDone, StatementDone, case_done, default_done, front_done, statement_done, type_object}

-- what stands around a statement in this scope
abbrev pub around : Around → Scoped → Standing
around a s = record { labels = length a.labels; breaks = a.breaks; continues = a.continues; cases = is_some (switched s.flow) }

abbrev StatementStands : Standing → cores.Statement × Scoped → Type 0
StatementStands p y = stands p y.0 ≡ true

abbrev ItemsStand : Standing → cores.Items × Scoped → Type 0
ItemsStand p y = are_standing p y.0 ≡ true

abbrev FrontStands : Standing → (cores.Items → cores.Items) × Scoped → Type 0
FrontStands p y = (rest : cores.Items) → are_standing p rest ≡ true → are_standing p (y.0 rest) ≡ true

also : {A E : Type 0} (P Q : A → Type 0) (r : Result A E) → Holds P r → Holds Q r → Holds (λ x. P x × Q x) r
also P Q r h k = λ x e. (h x e, k x e)

same_around : (a : Around) (s t : Scoped) → switched t.flow ≡ switched s.flow → around a t ≡ around a s
same_around a s t e = ap (λ (o : Option IntegerType). record { labels = length a.labels; breaks = a.breaks; continues = a.continues; cases = is_some o }) e

-- a statement and items behind a scope with the same switch
moved_statement : (a : Around) (s t : Scoped) (r : TypedStatement) → switched t.flow ≡ switched s.flow → Holds (StatementStands (around a t)) r → Holds (StatementStands (around a s)) r
moved_statement a s t r e h = subst (λ (p : Standing). Holds (StatementStands p) r) (same_around a s t e) h

moved_items : (a : Around) (s t : Scoped) (r : Typed) → switched t.flow ≡ switched s.flow → Holds (ItemsStand (around a t)) r → Holds (ItemsStand (around a s)) r
moved_items a s t r e h = subst (λ (p : Standing). Holds (ItemsStand p) r) (same_around a s t e) h

-- ---- declarations

declared_stands : (p : Standing) (line v : ℕ) (drawn : Bool) (o : Option Value) (rest : cores.Items) → are_standing p rest ≡ true → are_standing p (declared_item line v drawn o rest) ≡ true
declared_stands p line v drawn None rest h = h
declared_stands p line v drawn (Some (number_value e)) rest h = h
declared_stands p line v drawn (Some (structure_value a)) rest h = h

-- items stand wherever the scope has the same switch as this one
abbrev StandBehind : Standing → Scoped → (Scoped → Typed) → Type 0
StandBehind p s behind = (t : Scoped) → switched t.flow ≡ switched s.flow → Holds (ItemsStand p) (behind t)

front_stands : (p : Standing) (f : cores.Items → cores.Items) (r : Typed) → ((rest : cores.Items) → are_standing p rest ≡ true → are_standing p (f rest) ≡ true) → Holds (ItemsStand p) r → Holds (ItemsStand p) (in_front f r)
front_stands p f r good h = bind (ItemsStand p) (ItemsStand p) r _ h (λ y d. given (ItemsStand p) (f y.0, y.1) (good y.0 d))

variable_stands : (p : Standing) (r : Region) (s : Scoped) (base : Named) (d : Full) (i : Option Initial) (ls : List (Option ℕ)) (passed : Bool) (behind : Scoped → Typed) → StandBehind p s behind
    → Holds (ItemsStand p) (typed_variable r s base d i ls passed behind)
variable_stands p r s base d i ls passed behind h =
    bind (IsObject s.records.done) (ItemsStand p) (variable_type r s base.type d i ls) _ (type_object r s base.type d i ls) (λ t o.
    let n = of_type base t in
    let f = variable_follows s (name_of d) n o.complete o.sized in
    bind (λ (v : Option Value). Unit {0}) (ItemsStand p) (initializer_of false (full_line d) (within_initializer (is_open ls) s (name_of d) n) t i) _ (trivially _) (λ v _.
    front_stands p (declared_item (full_line d) (length s.variables) passed v) (behind (with_variable s (name_of d) n)) (declared_stands p (full_line d) (length s.variables) passed v)
    (h (with_variable s (name_of d) n) f.calls.switch)))

variable_by_stands : (p : Standing) (r : Region) (s : Scoped) (base : Named) (d : Full) (i : Option Initial) (passed : Bool) (x : List Derived × Scoped) (made : Derivation) (behind : Scoped → Typed) → SuffixesDone s x
    → (There s → DerivationFine x.1.records.done made) → StandBehind p s behind → Holds (ItemsStand p) (variable_by r x.1 base d i passed made behind)
variable_by_stands p r s base d i passed x (lengths ls) behind f fine h =
    variable_stands p r x.1 base d i ls passed behind (λ t e. h t (e ∙ f.settles.follows.calls.switch))
variable_by_stands p r s base d i passed x (callable made) behind f fine h =
    bind (SettlesIf (There s) x.1) (ItemsStand p) (typed_function r x.1 d i made) behind (function_settled (There s) r x.1 f.settles.follows.there d i made fine) (λ t g.
    h t (settles_both (There s) s x.1 t f.settles g).follows.calls.switch)

variables_stand : (p : Standing) (r : Region) (s : Scoped) (base : Named) (passed : Bool) (ds : Declarators) (behind : Scoped → Typed) → StandBehind p s behind → Holds (ItemsStand p) (typed_variables r s base passed ds behind)
variables_stand p r s base passed none_declared behind h = h s refl
variables_stand p r s base passed (declarator d i rest) behind h =
    bind (SuffixesDone s) (ItemsStand p) (typed_full s d) _ (full_settles s d) (λ x f.
    variable_by_stands p r s base d i passed x (derivation x.1.functions x.1.records.done base x.0) (λ t. typed_variables r t base passed rest behind) f (suffixes_fine s base x f)
    (λ t e. variables_stand p r t base passed rest behind (λ u g. h u (g ∙ e))))

others_stand : (p : Standing) (r : Region) (x : Specification) (role : Role) (ds : Declarators) (behind : Scoped → Typed) → StandBehind p x.scope behind → Holds (ItemsStand p) (typed_others r x role ds >>= behind)
others_stand p r x role ds behind h =
    bind (Settles x.scope) (ItemsStand p) (typed_others r x role ds) behind (others_settle r x role ds) (λ t f. h t f.follows.calls.switch)

by_stands : (p : Standing) (r : Region) (x : Specification) (role : Role) (passed : Bool) (ds : Declarators) (behind : Scoped → Typed) → StandBehind p x.scope behind → Holds (ItemsStand p) (typed_by r x role passed ds behind)
by_stands p r x roles.Typedef passed ds behind h = others_stand p r x roles.Typedef ds behind h
by_stands p r x roles.Extern passed ds behind h = others_stand p r x roles.Extern ds behind h
by_stands p r x roles.Static passed ds behind h = others_stand p r x roles.Static ds behind h
by_stands p r x roles.Automatic passed ds behind h = variables_stand p r x.scope x.type passed ds behind h

declaration_stands : (p : Standing) (r : Region) (s : Scoped) (passed : Bool) (parts : Parts) (ds : Declarators) (behind : Scoped → Typed) → StandBehind p s behind → Holds (ItemsStand p) (typed_declaration r s passed parts ds behind)
declaration_stands p r s passed parts ds behind h =
    bind (λ x. Settles s x.scope) (ItemsStand p) (typed_specifiers r s parts ds) _ (specifiers_settle r s parts ds) (λ x f.
    by_stands p r x x.role passed ds behind (λ t e. h t (e ∙ f.follows.calls.switch)))

-- ---- statements

block_stands : (p : Standing) (s : Scoped) (r : Typed) → Holds (ItemsStand p) r → Holds (StatementStands p) (as_block s r)
block_stands p s r h = bind (ItemsStand p) (StatementStands p) r _ h (λ y d. given (StatementStands p) (cores.block y.0, record y.1 { bindings = s.bindings }) d)

alone_stands : (p : Standing) (r : TypedStatement) → Holds (StatementStands p) r → Holds (ItemsStand p) (as_items r)
alone_stands p r h = bind (StatementStands p) (ItemsStand p) r _ h (λ y d. given (ItemsStand p) (cores.does y.0 cores.done, y.1) (and _ _ d refl))

own_stands : (p : Standing) (s : Scoped) (r : Typed) → Holds (ItemsStand p) r → Holds (ItemsStand p) (own_block s r)
own_stands p s r h = bind (ItemsStand p) (ItemsStand p) r _ h (λ y d. given (ItemsStand p) (y.0, record y.1 { bindings = s.bindings }) d)

-- a statement of expressions alone
plain_stands : (p : Standing) (s : Scoped) (r : Result cores.Statement Fault) → Holds (λ c. stands p c ≡ true) r → Holds (StatementStands p) (r >>= λ c. Ok (c, s))
plain_stands p s r h = bind (λ c. stands p c ≡ true) (StatementStands p) r _ h (λ c d. given (StatementStands p) (c, s) d)

nothing_stands : (p : Standing) (line : ℕ) (t : CType) → Holds (λ c. stands p c ≡ true) (return_nothing_node line t)
nothing_stands p line ctypes.void = given (λ c. stands p c ≡ true) _ refl
nothing_stands p line (ctypes.integer t) = refused (λ c. stands p c ≡ true) _
nothing_stands p line (ctypes.aggregate q) = refused (λ c. stands p c ≡ true) _
nothing_stands p line (ctypes.array element n) = refused (λ c. stands p c ≡ true) _
nothing_stands p line (ctypes.pointer t c) = refused (λ c. stands p c ≡ true) _
nothing_stands p line (ctypes.function f) = refused (λ c. stands p c ≡ true) _

return_stands : (p : Standing) (older : List Completed) (line : ℕ) (t : CType) (x : Operand) → Holds (λ c. stands p c ≡ true) (return_node older line t x)
return_stands p older line ctypes.void x = refused (λ c. stands p c ≡ true) _
return_stands p older line (ctypes.integer t) x = bind (λ (e : Expression). Unit {0}) (λ c. stands p c ≡ true) (number 8 x) _ (trivially _) (λ e _. given (λ c. stands p c ≡ true) _ refl)
return_stands p older line (ctypes.aggregate q) x =
    bind (λ (a : Structure). Unit {0}) (λ c. stands p c ≡ true) (required 8 (record_value older (ctypes.aggregate q) x)) _ (trivially _) (λ a _. given (λ c. stands p c ≡ true) _ refl)
return_stands p older line (ctypes.array element n) x = refused (λ c. stands p c ≡ true) _
return_stands p older line (ctypes.pointer t c) x = refused (λ c. stands p c ≡ true) _
return_stands p older line (ctypes.function f) x = refused (λ c. stands p c ≡ true) _

-- the number of a name's first label is below how many there are
below_first : (n k : ℕ) → Some 0 ≡ Some k → nat_lt k (suc n) ≡ true
below_first n k h = let same : 0 ≡ k = cc in ap (λ (j : ℕ). nat_lt j (suc n)) (sym same) ∙ lt-ltb 0 (suc n) (omega arith)

below_later : (n k : ℕ) (o : Option ℕ) → ((j : ℕ) → o ≡ Some j → nat_lt j n ≡ true) → option_map suc o ≡ Some k → nat_lt k (suc n) ≡ true
below_later n k None below h = let none : ⊥ = cc in absurd none
below_later n k (Some j) below h =
    let same : suc j ≡ k = cc in
    let less = ltb-true j n (below j refl) in
    ap (λ (i : ℕ). nat_lt i (suc n)) (sym same) ∙ lt-ltb (suc j) (suc n) (omega (arith, less))

below_by : (n k : ℕ) (o : Option ℕ) → ((j : ℕ) → o ≡ Some j → nat_lt j n ≡ true) → (b : Bool) → (if b then Some 0 else option_map suc o) ≡ Some k → nat_lt k (suc n) ≡ true
below_by n k o below true h = below_first n k h
below_by n k o below false h = below_later n k o below h

number_below : (labels : List (List ℕ)) (name : List ℕ) (k : ℕ) → label_number labels name ≡ Some k → nat_lt k (length labels) ≡ true
number_below [] name k e = let none : ⊥ = cc in absurd none
number_below (n ∷ ns) name k e = below_by (length ns) k (label_number ns name) (λ j f. number_below ns name j f) (bytes_eq name n) e

found : (rule : ℕ) (o : Option ℕ) → Holds (λ k. o ≡ Some k) (required rule o)
found rule None = refused (λ k. None ≡ Some k) rule
found rule (Some k) = given (λ j. Some k ≡ Some j) k refl

jump_stands : (p : Standing) (line : ℕ) (labels : List (List ℕ)) (name : List ℕ) → p.labels ≡ length labels → Holds (λ c. stands p c ≡ true) (jump_node line labels name)
jump_stands p line labels name same =
    bind (λ k. label_number labels name ≡ Some k) (λ c. stands p c ≡ true) (required 15 (label_number labels name)) _ (found 15 (label_number labels name)) (λ k e.
    given (λ c. stands p c ≡ true) (cores.jumps line k) (ap (nat_lt k) same ∙ number_below labels name k e))

-- a label has its own number
label_stands : (line : ℕ) (labels : List (List ℕ)) (name : List ℕ) (n : ℕ) → Holds (λ (u : Unit {0}). nat_lt n (length labels) ≡ true) (on_line line (label_node labels name n))
label_stands line labels name n = on_same_line (λ (u : Unit {0}). nat_lt n (length labels) ≡ true) line (label_node labels name n) (by (label_number labels name) refl)
  where
    equal : (a b : ℕ) → (a == b) ≡ true → a ≡ b
    equal a b h = grind (arith, nat_tests)

    test : (k : ℕ) → label_number labels name ≡ Some k → (b : Bool) → (k == n) ≡ b → Holds {E = ℕ} (λ (u : Unit {0}). nat_lt n (length labels) ≡ true) (if b then Ok tt else Err 15)
    test k e true h = given (λ (u : Unit {0}). nat_lt n (length labels) ≡ true) tt (ap (λ (j : ℕ). nat_lt j (length labels)) (sym (equal k n h)) ∙ number_below labels name k e)
    test k e false h = refused (λ (u : Unit {0}). nat_lt n (length labels) ≡ true) 15

    by : (o : Option ℕ) → label_number labels name ≡ o → Holds {E = ℕ} (λ (u : Unit {0}). nat_lt n (length labels) ≡ true) (if is_number o n then Ok tt else Err 15)
    by None e = refused (λ (u : Unit {0}). nat_lt n (length labels) ≡ true) 15
    by (Some k) e = test k e (k == n) refl

leaving : (p : Standing) (s : Scoped) (line : ℕ) (b : Bool) (c : cores.Statement) → (b ≡ true → stands p c ≡ true) → Holds {E = Fault} (StatementStands p) (if b then Ok (c, s) else Err (fault line 14))
leaving p s line true c good = given (StatementStands p) (c, s) (good refl)
leaving p s line false c good = refused (StatementStands p) _

rest_stands : (p : Standing) (s : Scoped) (line loop : ℕ) (first : Option Expression) (test last : Option Tree) (body : TypedStatement) → Holds (StatementStands (places.in_loop p)) body → Holds (StatementStands p) (typed_rest line loop first s test last body)
rest_stands p s line loop first test last body h =
    bind (λ (x : Option Operand). Unit {0}) (StatementStands p) (part_tested s test) _ (trivially _) (λ x _.
    bind (λ (c : Option Expression). Unit {0}) (StatementStands p) (part_ignored s last) _ (trivially _) (λ c _.
    bind (StatementStands (places.in_loop p)) (StatementStands p) body _ h (λ y d.
    bind (λ (e : Option Expression). Unit {0}) (StatementStands p) (on_line line (test_node x)) _ (trivially _) (λ e _. given (StatementStands p) (cores.for_loop line loop first e c y.0, y.1) d))))

switch_stands : (p : Standing) (s : Scoped) (line : ℕ) (x : Operand) (r : Typed) → Holds (ItemsStand (places.in_switch p)) r → Holds (StatementStands p) (switch_of s line x r)
switch_stands p s line x r h =
    bind (ItemsStand (places.in_switch p)) (StatementStands p) r _ h (λ y d.
    bind (λ (v : Expression). Unit {0}) (StatementStands p) (on_line line (switch_value x)) _ (trivially _) (λ v _. given (StatementStands p) (cores.switch line v y.0, switch_ended s y.1) d))

-- a case has a switch
has_switch : (s t : Scoped) (c : IntegerType) → switched t.flow ≡ switched s.flow → switched t.flow ≡ Some c → is_some (switched s.flow) ≡ true
has_switch s t c e f = ap is_some (sym e ∙ f)

-- ---- what stands in a list

front_alone_stands : (p : Standing) (r : TypedStatement) → Holds (StatementStands p) r → Holds (FrontStands p) (r >>= λ y. Ok (cores.does y.0, y.1))
front_alone_stands p r h = bind (StatementStands p) (FrontStands p) r _ h (λ y d. given (FrontStands p) (cores.does y.0, y.1) (λ rest g. and _ _ d g))

front_label_stands : (p : Standing) (a : Around) (s : Scoped) (line : ℕ) (n : List ℕ) (r : TypedFront) → p.labels ≡ length a.labels → Holds (FrontStands p) r
    → Holds (FrontStands p) (r >>= λ y. on_line line (label_node a.labels n s.flow.labels) >>= λ new. Ok ((λ rest. cores.label s.flow.labels (y.0 rest)), y.1))
front_label_stands p a s line n r same h =
    bind (FrontStands p) (FrontStands p) r _ h (λ y d.
    bind (λ (u : Unit {0}). nat_lt s.flow.labels (length a.labels) ≡ true) (FrontStands p) (on_line line (label_node a.labels n s.flow.labels)) _ (label_stands line a.labels n s.flow.labels) (λ u e.
    given (FrontStands p) _ (λ rest g. and _ _ (ap (nat_lt s.flow.labels) same ∙ e) (d rest g))))

front_case_stands : (a : Around) (s : Scoped) (line : ℕ) (x : Operand) (r : TypedFront) → Holds (FrontDone s) r → Holds (FrontStands (around a s)) r
    → Holds (FrontStands (around a s)) (r >>= λ y. on_line line (case_node y.1.flow.switch x) >>= λ c. Ok ((λ rest. cores.case_at line c.0.0 c.0.1 (y.0 rest)), with_cases y.1 c.1))
front_case_stands a s line x r f h =
    let p = around a s in
    bind (λ y. FrontDone s y × FrontStands p y) (FrontStands p) r _ (also (FrontDone s) (FrontStands p) r f h) (λ y d.
    bind (CaseDone y.1.flow.switch) (FrontStands p) (on_line line (case_node y.1.flow.switch x)) _ (case_done line y.1.flow.switch x) (λ c k.
    given (FrontStands p) _ (λ rest g. and _ _ (has_switch s y.1 c.0.0 d.0.follows.calls.switch k.type) (d.1 rest g))))

front_default_stands : (a : Around) (s : Scoped) (line : ℕ) (r : TypedFront) → Holds (FrontDone s) r → Holds (FrontStands (around a s)) r
    → Holds (FrontStands (around a s)) (r >>= λ y. on_line line (default_node y.1.flow.switch) >>= λ c. Ok ((λ rest. cores.default_at line (y.0 rest)), with_cases y.1 c))
front_default_stands a s line r f h =
    let p = around a s in
    bind (λ y. FrontDone s y × FrontStands p y) (FrontStands p) r _ (also (FrontDone s) (FrontStands p) r f h) (λ y d.
    bind (DefaultDone y.1.flow.switch) (FrontStands p) (on_line line (default_node y.1.flow.switch)) _ (default_done line y.1.flow.switch) (λ c k.
    given (FrontStands p) _ (λ rest g. and _ _ (has_switch s y.1 c.type d.0.follows.calls.switch k) (d.1 rest g))))

mutual
  pub statement_stands : (a : Around) (s : Scoped) (x : Statement) → Holds (StatementStands (around a s)) (typed_statement a s x)
  statement_stands a s (block line items) = block_stands (around a s) s (typed_items a false (length s.bindings) [] s items) (items_stand a false (length s.bindings) [] s items)
  statement_stands a s (if_then line test one) =
      let p = around a s in
      bind (λ (x : Operand). Unit {0}) (StatementStands p) (operand s test) _ (trivially _) (λ x _.
      bind (StatementStands p) (StatementStands p) (typed_statement a s one) _ (statement_stands a s one) (λ y d.
      bind (λ (e : Expression). Unit {0}) (StatementStands p) (on_line line (number 17 x)) _ (trivially _) (λ e _. given (StatementStands p) (cores.if_then line e y.0, y.1) d)))
  statement_stands a s (if_else line test one other) =
      let p = around a s in
      let r = typed_statement a s one in
      bind (λ (x : Operand). Unit {0}) (StatementStands p) (operand s test) _ (trivially _) (λ x _.
      bind (λ y. StatementDone s y × StatementStands p y) (StatementStands p) r _ (also (StatementDone s) (StatementStands p) r (statement_done a s one) (statement_stands a s one)) (λ y d.
      bind (StatementStands p) (StatementStands p) (typed_statement a y.1 other) _
      (moved_statement a s y.1 (typed_statement a y.1 other) d.0.follows.calls.switch (statement_stands a y.1 other)) (λ z e.
      bind (λ (t : Expression). Unit {0}) (StatementStands p) (on_line line (number 17 x)) _ (trivially _) (λ t _. given (StatementStands p) (cores.if_else line t y.0 z.0, z.1) (and _ _ d.1 e)))))
  statement_stands a s (evaluate e) =
      bind (λ (x : Operand). Unit {0}) (StatementStands (around a s)) (operand_by s false e) _ (trivially _) (λ x _. given (StatementStands (around a s)) (cores.evaluate (dropped s.records.done x), s) refl)
  statement_stands a s (return_nothing line) =
      plain_stands (around a s) s (on_line line (return_nothing_node line s.flow.gives))
      (on_same_line (λ c. stands (around a s) c ≡ true) line (return_nothing_node line s.flow.gives) (nothing_stands (around a s) line s.flow.gives))
  statement_stands a s (return_value line e) =
      bind (λ (x : Operand). Unit {0}) (StatementStands (around a s)) (operand s e) _ (trivially _) (λ x _.
      plain_stands (around a s) s (on_line line (return_node s.records.done line s.flow.gives x))
      (on_same_line (λ c. stands (around a s) c ≡ true) line (return_node s.records.done line s.flow.gives x) (return_stands (around a s) s.records.done line s.flow.gives x)))
  statement_stands a s (empty line) = given (StatementStands (around a s)) (cores.block cores.done, s) refl
  statement_stands a s (while_loop line test body) =
      let p = around a s in
      bind (λ (x : Operand). Unit {0}) (StatementStands p) (operand s test) _ (trivially _) (λ x _.
      bind (StatementStands (places.in_loop p)) (StatementStands p) (typed_statement (in_loop a) (with_loop s) body) _ (statement_stands (in_loop a) (with_loop s) body) (λ y d.
      bind (λ (e : Expression). Unit {0}) (StatementStands p) (on_line line (number 17 x)) _ (trivially _) (λ e _. given (StatementStands p) (cores.for_loop line s.flow.loops None (Some e) None y.0, y.1) d)))
  statement_stands a s (do_loop line body test) =
      let p = around a s in
      bind (StatementStands (places.in_loop p)) (StatementStands p) (typed_statement (in_loop a) (with_loop s) body) _ (statement_stands (in_loop a) (with_loop s) body) (λ y d.
      bind (λ (x : Operand). Unit {0}) (StatementStands p) (operand y.1 test) _ (trivially _) (λ x _.
      bind (λ (e : Expression). Unit {0}) (StatementStands p) (on_line line (number 17 x)) _ (trivially _) (λ e _. given (StatementStands p) (cores.do_loop line s.flow.loops y.0 e, y.1) d)))
  statement_stands a s (for_loop line first test last body) =
      let p = around a s in
      let t = with_loop s in
      bind (λ (b : Option Expression). Unit {0}) (StatementStands p) (part_ignored s first) _ (trivially _) (λ b _.
      rest_stands p t line s.flow.loops b test last (typed_statement (in_loop a) t body) (statement_stands (in_loop a) t body))
  statement_stands a s (for_declared line parts ds test last body) =
      let p = around a s in
      block_stands p s _ (declaration_stands p (in_block (length s.bindings)) s false parts ds _ (λ t e.
      let u = with_loop t in
      alone_stands p (typed_rest line t.flow.loops None u test last (typed_statement (in_loop a) u body))
      (rest_stands p u line t.flow.loops None test last (typed_statement (in_loop a) u body)
      (moved_statement (in_loop a) s t (typed_statement (in_loop a) u body) e (statement_stands (in_loop a) u body)))))
  statement_stands a s (switch_on line e (block at is)) =
      let p = around a s in
      bind (λ (x : Operand). Unit {0}) (StatementStands p) (operand s e) _ (trivially _) (λ x _.
      let t = with_switch s (switch_type x) in
      let r = typed_items (in_switch a) true (length s.bindings) [] t is in
      switch_stands p s line x (own_block s r) (own_stands (places.in_switch p) s r (items_stand (in_switch a) true (length s.bindings) [] t is)))
  statement_stands a s (switch_on line e body) =
      let p = around a s in
      bind (λ (x : Operand). Unit {0}) (StatementStands p) (operand s e) _ (trivially _) (λ x _.
      let t = with_switch s (switch_type x) in
      let r = typed_statement (in_switch a) t body in
      switch_stands p s line x (as_items r) (alone_stands (places.in_switch p) r (statement_stands (in_switch a) t body)))
  statement_stands a s (case_of line e body) =
      let p = around a s in
      let r = typed_statement a s body in
      bind (λ (x : Operand). Unit {0}) (StatementStands p) (operand s e) _ (trivially _) (λ x _.
      bind (λ y. StatementDone s y × StatementStands p y) (StatementStands p) r _ (also (StatementDone s) (StatementStands p) r (statement_done a s body) (statement_stands a s body)) (λ y d.
      bind (CaseDone y.1.flow.switch) (StatementStands p) (on_line line (case_node y.1.flow.switch x)) _ (case_done line y.1.flow.switch x) (λ c k.
      given (StatementStands p) (cores.stray line y.0, with_cases y.1 c.1) (and _ _ (has_switch s y.1 c.0.0 d.0.follows.calls.switch k.type) d.1))))
  statement_stands a s (default_of line body) =
      let p = around a s in
      let r = typed_statement a s body in
      bind (λ y. StatementDone s y × StatementStands p y) (StatementStands p) r _ (also (StatementDone s) (StatementStands p) r (statement_done a s body) (statement_stands a s body)) (λ y d.
      bind (DefaultDone y.1.flow.switch) (StatementStands p) (on_line line (default_node y.1.flow.switch)) _ (default_done line y.1.flow.switch) (λ c k.
      given (StatementStands p) (cores.stray line y.0, with_cases y.1 c) (and _ _ (has_switch s y.1 c.type d.0.follows.calls.switch k) d.1)))
  statement_stands a s (labelled line n body) =
      let p = around a s in
      bind (StatementStands p) (StatementStands p) (typed_statement a (with_label s) body) _ (statement_stands a (with_label s) body) (λ y d.
      bind (λ (u : Unit {0}). Unit {0}) (StatementStands p) (on_line line (label_node a.labels n s.flow.labels)) _ (trivially _) (λ u _. given (StatementStands p) y d))
  statement_stands a s (goto_label line n) =
      plain_stands (around a s) s (on_line line (jump_node line a.labels n)) (on_same_line (λ c. stands (around a s) c ≡ true) line (jump_node line a.labels n) (jump_stands (around a s) line a.labels n refl))
  statement_stands a s (break_off line) = leaving (around a s) s line a.breaks (cores.breaks line) (λ e. e)
  statement_stands a s (continue_on line) = leaving (around a s) s line a.continues (cores.continues line) (λ e. e)

  front_stand : (a : Around) (switches : Bool) (s : Scoped) (x : Statement) (elsewhere : TypedStatement) → Holds (StatementStands (around a s)) elsewhere → Holds (FrontStands (around a s)) (typed_front a switches s x elsewhere)
  front_stand a true s (labelled line n body) elsewhere h =
      let t = with_label s in
      front_label_stands (around a s) a s line n (typed_front a true t body (typed_statement a t body)) refl (front_stand a true t body (typed_statement a t body) (statement_stands a t body))
  front_stand a false s (labelled line n body) elsewhere h =
      let t = with_label s in
      front_label_stands (around a s) a s line n (typed_front a false t body (typed_statement a t body)) refl (front_stand a false t body (typed_statement a t body) (statement_stands a t body))
  front_stand a true s (case_of line e body) elsewhere h =
      let r = typed_statement a s body in
      bind (λ (x : Operand). Unit {0}) (FrontStands (around a s)) (operand s e) _ (trivially _) (λ x _.
      front_case_stands a s line x (typed_front a true s body r) (front_done a true s body r (statement_done a s body)) (front_stand a true s body r (statement_stands a s body)))
  front_stand a true s (default_of line body) elsewhere h =
      let r = typed_statement a s body in
      front_default_stands a s line (typed_front a true s body r) (front_done a true s body r (statement_done a s body)) (front_stand a true s body r (statement_stands a s body))
  front_stand a true s x elsewhere h = front_alone_stands (around a s) elsewhere h
  front_stand a false s x elsewhere h = front_alone_stands (around a s) elsewhere h

  pub items_stand : (a : Around) (switches : Bool) (outer : ℕ) (jumped : List (List ℕ)) (s : Scoped) (x : Items) → Holds (ItemsStand (around a s)) (typed_items a switches outer jumped s x)
  items_stand a switches outer jumped s done = given (ItemsStand (around a s)) (cores.done, s) refl
  items_stand a switches outer jumped s (declares parts ds rest) =
      declaration_stands (around a s) (in_block outer) s (is_passed switches jumped rest) parts ds (λ t. typed_items a switches outer jumped t rest)
      (λ t e. moved_items a s t (typed_items a switches outer jumped t rest) e (items_stand a switches outer jumped t rest))
  items_stand a switches outer jumped s (does first rest) =
      let p = around a s in
      let r = typed_statement a s first in
      let front = typed_front a switches s first r in
      bind (λ x. FrontDone s x × FrontStands p x) (ItemsStand p) front _
      (also (FrontDone s) (FrontStands p) front (front_done a switches s first r (statement_done a s first)) (front_stand a switches s first r (statement_stands a s first))) (λ x d.
      let more = typed_items a switches outer (jumped ++ jumps_in first) x.1 rest in
      front_stands p x.0 more d.1 (moved_items a s x.1 more d.0.follows.calls.switch (items_stand a switches outer (jumped ++ jumps_in first) x.1 rest)))

-- ---- files

body_stands : (outer : ℕ) (s : Scoped) (x : Statement) → s.flow.switch ≡ None → Holds (StatementStands (places.alone (length (labels_in x)))) (typed_body_of outer s x)
body_stands outer s (block line is) none =
    let a : Around = record { labels = labels_in (block line is); breaks = false; continues = false } in
    let p = places.alone (length (labels_in (block line is))) in
    bind (ItemsStand (around a s)) (StatementStands p) (typed_items a false outer [] s is) _ (items_stand a false outer [] s is) (λ y d.
    given (StatementStands p) (cores.block y.0, y.1)
    (subst (λ (q : Standing). are_standing q y.0 ≡ true) (ap (λ (o : Option Cases). record { labels = length (labels_in (block line is)); breaks = false; continues = false; cases = is_some (option_map (λ (c : Cases). c.type) o) }) none) d))
body_stands outer s x none = given (StatementStands (places.alone (length (labels_in x)))) (cores.block cores.done, s) refl

abbrev DefinitionStands : Definition → Type 0
DefinitionStands x = stands (places.alone x.labels) x.body ≡ true

definition_stands : (s : Scoped) (parts : Parts) (d : Full) (body : Statement) → Holds (λ x. DefinitionStands x.0) (typed_definition s parts d body)
definition_stands s parts d body =
    let P : Definition × Scoped → Type 0 = λ x. DefinitionStands x.0 in
    bind (λ (x : Named × Scoped). Unit {0}) P (named_parts parts (typed_parts in_file false (parted [] s) parts)) _ (trivially _) (λ x _.
    bind (λ (p : List Derived × Passed). Unit {0}) P (own_suffixes x.1 d (own_parameters d)) _ (trivially _) (λ p _.
    bind (λ (g : FunctionType). Unit {0}) P (on_line (full_line d) (definition_type x.1 x.0 d p.0 p.1)) _ (trivially _) (λ g _.
    bind (StatementStands (places.alone (length (labels_in body)))) P (typed_body_of (length x.1.bindings + 1) (within_body x.1 p.1.scope d g) body) _
    (body_stands (length x.1.bindings + 1) (within_body x.1 p.1.scope d g) body refl) (λ y b. given P _ b))))

abbrev AllStand : List Definition → Type 0
AllStand [] = Unit {0}
AllStand (x ∷ xs) = DefinitionStands x × AllStand xs

externals_stand : (s : Scoped) (ds : Externals) → Holds (λ x. AllStand x.0) (typed_externals s ds)
externals_stand s no_more = given (λ (x : List Definition × Scoped). AllStand x.0) ([], s) tt
externals_stand s (declared parts ds rest) =
    bind (λ (t : Scoped). Unit {0}) (λ (x : List Definition × Scoped). AllStand x.0) (typed_outside s parts ds) _ (trivially _) (λ t _. externals_stand t rest)
externals_stand s (defines parts d body rest) =
    let P : List Definition × Scoped → Type 0 = λ x. AllStand x.0 in
    bind (λ x. DefinitionStands x.0) P (typed_definition s parts d body) _ (definition_stands s parts d body) (λ x f.
    bind P P (typed_externals x.1 rest) _ (externals_stand x.1 rest) (λ y e. given P (x.0 ∷ y.0, y.1) (f, e)))

called_stand : (older : List Completed) (all : List Callable) → stand (map (procedure_of older) all) ≡ true
called_stand older [] = refl
called_stand older (c ∷ cs) = called_stand older cs

set_stands : (fs : List Procedure) (k : ℕ) (f : Procedure) → stands_body f.labels f.body ≡ true → stand fs ≡ true → stand (slice_set fs k f) ≡ true
set_stands [] k f h g = refl
set_stands (x ∷ fs) zero f h g = and (stands_body f.labels f.body) (stand fs) h (both (stands_body x.labels x.body) (stand fs) g).1
set_stands (x ∷ fs) (suc k) f h g = and (stands_body x.labels x.body) (stand (slice_set fs k f)) (both (stands_body x.labels x.body) (stand fs) g).0 (set_stands fs k f h (both (stands_body x.labels x.body) (stand fs) g).1)

body_kept : (fs : List Procedure) (x : Definition) (o : Option Procedure) → DefinitionStands x → stand fs ≡ true → stand (with_body fs x o) ≡ true
body_kept fs x None d h = h
body_kept fs x (Some f) d h = set_stands fs x.number (record f { variables = x.variables; labels = x.labels; body = Some x.body }) d h

bodies_stand : (fs : List Procedure) (xs : List Definition) → AllStand xs → stand fs ≡ true → stand (with_bodies fs xs) ≡ true
bodies_stand fs [] d h = h
bodies_stand fs (x ∷ xs) d h = bodies_stand (with_body fs x (slice_get fs x.number)) xs d.1 (body_kept fs x (slice_get fs x.number) d.0 h)

-- each statement of a file's functions stands where it may
pub file_stands : (ds : Externals) (xs : List Definition) (s : Scoped) (fs : List Procedure) (objects : List Static) → typed_externals (with_definitions first_scope ds) ds ≡ Ok (xs, s)
    → fs ≡ with_bodies (map (procedure_of s.records.done) s.functions.all) xs → stands_file (record { functions = fs; objects = objects; literals = []; pointers = false }) ≡ true
file_stands ds xs s fs objects e functions =
    subst (λ (gs : List Procedure). stand gs ≡ true) (sym functions)
    (bodies_stand (map (procedure_of s.records.done) s.functions.all) xs (externals_stand (with_definitions first_scope ds) ds (xs, s) e) (called_stand s.records.done s.functions.all))
