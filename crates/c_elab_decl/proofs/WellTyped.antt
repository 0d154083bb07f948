-- What elaborating statements gives is well typed.
use Rattle.std.proofs.Common.{◌≡◌, ◌≤◌, ◌<◌, ◌^◌, ℕ, Bool, true, false, List, [], ◌∷◌, ◌++◌, length, Option, Some, None, Result, Ok, Err, refl, ap, sym, ◌∙◌, arith, eq-eqb}
use Rattle.std.specs.Prelude.{◌==◌, nat_lt, slice_index, option_map, if◌then◌else◌}
use borrow.Author.Tests.{lt-ltb}
use Rattle.words.proofs.Ranges.{wrapped_below}
use Rattle.c_tree.specs.Tree.{Tree}
use Rattle.c_tree.specs.Declarations.{Initial, Full, Parts, Declarators, none_declared, declarator, name_of}
use Rattle.c_tree.specs.Statements.{Statement, block, if_then, if_else, evaluate, return_nothing, return_value, empty, while_loop, do_loop, for_loop, for_declared, switch_on, case_of, default_of, labelled, goto_label, break_off, continue_on, Items, done, declares, does}
use Rattle.c_types.specs.declared.integers.IntegerType.{IntegerType}
use Rattle.c_types.specs.declared.integers.IntegerType.TheVariants as types
use Rattle.c_types.specs.declared.types.ValueType.{ValueType}
use Rattle.c_types.specs.declared.types.ValueType.TheVariants.{Void, Integer}
use Rattle.c_types.specs.Integers.{width, bytes, same_integer, same_type, promoted}
use Rattle.c_types.specs.Types.{CType, Completed, Records}
use Rattle.c_types.specs.Types as ctypes
use Rattle.c_types.specs.Layouts.{is_complete, is_sized, size_of}
use Rattle.core_tree.specs.declared.functions.PassedType.{PassedType}
use Rattle.core_tree.specs.declared.functions.PassedType.TheVariants as passed
use Rattle.core_tree.specs.Operations.{converted, number as number_of, is_true, truth_bits}
use Rattle.core_tree.specs.Trees.{Expression, Structure}
use Rattle.core_tree.specs.Trees as cores
use Rattle.core_tree.specs.Typed.{type_of, Sizes, is_integer, is_promoted, fills, is_typed, is_structure, same_given, given_as, is_typed_part, is_test, are_cases, is_typed_statement, are_typed_items}
use Rattle.core_tree.specs.Typed as typings
use Rattle.c_values.specs.Numbers.{TypedNumber}
use Rattle.c_scope.specs.declared.meaning.Meaning.{Meaning}
use Rattle.c_scope.specs.declared.meaning.Meaning.TheVariants.{Incomplete}
use Rattle.c_operands.specs.declared.operands.Home.TheVariants as homes
use Rattle.c_scope.specs.Scopes.{Named, Flow, Cases, Scoped, sizes, given_by}
use Rattle.c_scope.specs.Faults.{◌>>=◌, required, Fault, fault, on_line}
use Rattle.c_operands.specs.Nodes.{as_type}
use Rattle.c_operands.specs.Operands.{Operand, value, object, structure, number, record_value, dropped, constant_in}
use Rattle.c_scope.specs.Types.{array_of}
use Rattle.c_elab_expr.specs.Typing.{operand, operand_by}
use Rattle.c_scope.proofs.Variables.{both, and}
use Rattle.c_elab_expr.proofs.Types.{same_integer_refl, same_type_refl, promoted_is, type_as, typed_as}
use Rattle.c_elab_expr.proofs.WellTyped.{Holds, bind, given, refused, on_same_line}
use Rattle.c_elab_base.specs.declared.regions.Region.{Region}
use Rattle.c_elab_base.specs.declared.regions.Role.{Role}
use Rattle.c_elab_base.specs.declared.regions.Role.TheVariants as roles
use Rattle.c_elab_base.specs.Regions.{earlier}
use Rattle.c_elab_base.specs.Derivations.{Derived, Derivation, lengths, callable, derivation, full_line}
use Rattle.c_elab_type.specs.Initializers.{Value, number_value, structure_value, initializer_of}
use Rattle.c_elab_base.specs.Declarators.{is_open, sized_type, variable_node, of_type, within_initializer, with_variable}
use Rattle.c_elab_type.specs.Declarators.{Typed, in_front, declared_item, given_lengths, variable_type, typed_variable}
use Rattle.c_elab_type.specs.Specifiers.{Specification, typed_full, typed_specifiers}
use Rattle.c_elab_object.specs.Functions.{typed_function}
use Rattle.c_elab_object.specs.DeclaratorLists.{variable_by, typed_variables, typed_others, typed_by, typed_declaration}
use Rattle.c_elab_flow.specs.Jumps.{label_number, jumps_in, is_passed}
use Rattle.c_elab_flow.specs.Nodes.{Around, in_loop, in_switch, with_loop, with_label, with_switch, part_ignored, part_tested, test_node, return_node, return_nothing_node, promoted_type, switch_type, switch_value, has_value, case_in, case_of_switch, case_node, default_node, with_cases, label_node, jump_node}
use Rattle.c_elab_decl.specs.Statements.{in_block, switch_ended, TypedStatement, TypedFront, as_block, own_block, as_items, switch_of, typed_rest, typed_statement, typed_front, typed_items}
use Rattle.c_elab_base.proofs.Signatures.{own_sizes, switched, is_given}
use Rattle.c_elab_base.proofs.Growing.{grows_refl, Wider, wider_refl, wider_trans, inner_refl, typed_grows, structure_grows, There, Follows, follows_refl, follows_trans, SettlesIf, Settles, settles_both, there_behind, binding_settles, new_variable, variable_follows}
use Rattle.c_elab_type.proofs.Settling.{trivially, DerivationFine, SuffixesDone, full_settles, specifiers_settle}
use Rattle.c_elab_object.proofs.SettlingDeclared.{suffixes_fine, function_settled, others_settle}
use Rattle.c_elab_decl.proofs.Objects.{IsObject}
use Rattle.c_elab_decl.proofs.Initialized.{FineOperand, fine, FineNumber, number_fine, FineStructure, record_fine, FineOption, option_fine}

-- ---- what is done behind statements and items

pub record StatementDone (s : Scoped) (y : cores.Statement × Scoped) : Type 0 where
  pub names : y.1.bindings ≡ s.bindings
  pub follows : Follows s y.1
  pub good : There s → (zs : Sizes) → Wider (own_sizes y.1) zs → is_typed_statement zs y.0 ≡ true

pub record ItemsDone (s : Scoped) (y : cores.Items × Scoped) : Type 0 where
  pub follows : Follows s y.1
  pub good : There s → (zs : Sizes) → Wider (own_sizes y.1) zs → are_typed_items zs y.0 ≡ true
  pub cases : (t : IntegerType) → switched s.flow ≡ Some t → are_cases (Integer t) y.0 ≡ true

-- the same of what stands in a list instead of a statement, whatever stands behind it
pub record FrontDone (s : Scoped) (y : (cores.Items → cores.Items) × Scoped) : Type 0 where
  pub names : y.1.bindings ≡ s.bindings
  pub follows : Follows s y.1
  pub good : There s → (zs : Sizes) (rest : cores.Items) → Wider (own_sizes y.1) zs → are_typed_items zs rest ≡ true → are_typed_items zs (y.0 rest) ≡ true
  pub cases : (t : IntegerType) → switched s.flow ≡ Some t → (rest : cores.Items) → are_cases (Integer t) rest ≡ true → are_cases (Integer t) (y.0 rest) ≡ true

-- what holds under a premise
pub under : {A E H : Type 0} (P : A → Type 0) (r : Result A E) → (H → Holds P r) → Holds (λ x. H → P x) r
under P r h = λ x e premise. h premise x e

pub fine_if : (s : Scoped) (w : Bool) (e : Tree) → Holds (λ x. There s → FineOperand s x) (operand_by s w e)
fine_if s w e = under (FineOperand s) (operand_by s w e) (fine s w e)

pub number_if : (s : Scoped) (line rule : ℕ) (x : Operand) → (There s → FineOperand s x) → Holds (λ e. There s → FineNumber s e) (on_line line (number rule x))
number_if s line rule x h = under (FineNumber s) (on_line line (number rule x)) (λ there. on_same_line (FineNumber s) line (number rule x) (number_fine s rule x (h there)))

-- an operand whose value isn't used
dropped_fine : (s : Scoped) (x : Operand) → FineOperand s x → is_typed (own_sizes s) (dropped s.records.done x) ≡ true
dropped_fine s (value e k) h = h
dropped_fine s (object line (homes.Variable v) offset t k) h = h
dropped_fine s (object line (homes.Object n) offset t k) h = h
dropped_fine s (structure t a) h = (both (is_structure (own_sizes s) a) (typings.size_of a == size_of s.records.done t) h).0

-- ---- variables

-- a variable's type is one that an object may have
sized_object : (older : List Completed) (t : CType) → Holds (IsObject older) (sized_type older t)
sized_object older t = by (is_complete older t) (is_sized older t) refl refl where
  by : (b c : Bool) → is_complete older t ≡ b → is_sized older t ≡ c → Holds {E = ℕ} (IsObject older) ((if b then (if c then Ok (size_of older t) else Err 4) else Err 3) >>= λ size. Ok t)
  by true true e f = given (IsObject older) t (record { complete = e; sized = f })
  by true false e f = refused (IsObject older) 4
  by false c e f = refused (IsObject older) 3

node_object : (older : List Completed) (o : Option Meaning) (made : Result CType ℕ) → Holds (IsObject older) (variable_node older o made)
node_object older (Some m) made = refused (IsObject older) 2
node_object older None made = bind (λ (t : CType). Unit {0}) (IsObject older) made (sized_type older) (trivially made) (λ t _. sized_object older t)

pub type_object : (r : Region) (s : Scoped) (base : CType) (d : Full) (i : Option Initial) (ls : List (Option ℕ)) → Holds (IsObject s.records.done) (variable_type r s base d i ls)
type_object r s base d i ls =
    let made = array_of s.records.done base (given_lengths i ls) in
    let node = variable_node s.records.done (earlier r s (name_of d)) made in
    on_same_line (IsObject s.records.done) (full_line d) node (node_object s.records.done (earlier r s (name_of d)) made)

-- the scope within an initializer, which the one behind it goes on from, but for its names
record Within (s t : Scoped) : Type 0 where
  there : There s
  same : s.records ≡ t.records
  sizes : Wider (own_sizes s) (own_sizes t)

within_done : (counted : Bool) (s : Scoped) (name : List ℕ) (n : Named) → There s → IsObject s.records.done n.type → Within (within_initializer counted s name n) (with_variable s name n)
within_done false s name n there o = record { there = (variable_follows s name n o.complete o.sized).there there; same = refl; sizes = wider_refl (own_sizes (with_variable s name n)) refl }
within_done true s name n there o = record {
  there = (binding_settles s name Incomplete refl).follows.there there;
  same = refl;
  sizes = (variable_follows s name n o.complete o.sized).sizes there;
}

within_object : (counted : Bool) (s : Scoped) (name : List ℕ) (n : Named) → IsObject s.records.done n.type → IsObject (within_initializer counted s name n).records.done n.type
within_object false s name n o = o
within_object true s name n o = o

-- an item in front of good ones
item_good : (s w : Scoped) (name : List ℕ) (n : Named) (line : ℕ) (drawn : Bool) (o : Option Value) (zs : Sizes) (rest : cores.Items) → Within w (with_variable s name n)
    → Wider (own_sizes (with_variable s name n)) zs → FineOption w n.type o → are_typed_items zs rest ≡ true
    → are_typed_items zs (declared_item line (length s.variables) drawn o rest) ≡ true
item_good s w name n line drawn None zs rest inner g h good = and _ _ (new_variable s name n zs.variables g.variables).0 good
item_good s w name n line drawn (Some (number_value x)) zs rest inner g h good =
    let vs = zs.variables in
    let there = new_variable s name n vs g.variables in
    let grows = wider_trans (own_sizes w) (own_sizes (with_variable s name n)) zs inner.sizes g in
    let size : bytes h.scalar ≡ slice_index vs (length s.variables) = ap (size_of s.records.done) (sym h.is) ∙ sym there.1 in
    let filled : fills vs (length s.variables) (type_of x) ≡ true = ap (fills vs (length s.variables)) h.type ∙ and _ _ there.0 (eq-eqb (bytes h.scalar) (slice_index vs (length s.variables)) size) in
    and _ _ (and _ _ filled (typed_grows (own_sizes w) zs x grows h.good)) good
item_good s w name n line drawn (Some (structure_value a)) zs rest inner g h good =
    let vs = zs.variables in
    let there = new_variable s name n vs g.variables in
    let grows = wider_trans (own_sizes w) (own_sizes (with_variable s name n)) zs inner.sizes g in
    let size : typings.size_of a ≡ slice_index vs (length s.variables) = h.size ∙ ap (λ (r : Records). size_of r.done n.type) inner.same ∙ sym there.1 in
    and _ _ (and _ _ (and _ _ there.0 (eq-eqb (typings.size_of a) (slice_index vs (length s.variables)) size)) (structure_grows (own_sizes w) zs a grows h.good)) good

item_cases : (t : ValueType) (line v : ℕ) (drawn : Bool) (o : Option Value) (rest : cores.Items) → are_cases t rest ≡ true → are_cases t (declared_item line v drawn o rest) ≡ true
item_cases t line v drawn None rest h = h
item_cases t line v drawn (Some (number_value x)) rest h = h
item_cases t line v drawn (Some (structure_value a)) rest h = h

-- items with one in front of them
front_items : (s t : Scoped) (f : cores.Items → cores.Items) (r : Typed) → Follows s t
    → (There s → (zs : Sizes) (rest : cores.Items) → Wider (own_sizes t) zs → are_typed_items zs rest ≡ true → are_typed_items zs (f rest) ≡ true)
    → ((u : IntegerType) → switched s.flow ≡ Some u → (rest : cores.Items) → are_cases (Integer u) rest ≡ true → are_cases (Integer u) (f rest) ≡ true)
    → Holds (ItemsDone t) r → Holds (ItemsDone s) (in_front f r)
front_items s t f r follows good cases h =
    bind (ItemsDone t) (ItemsDone s) r _ h (λ y d. given (ItemsDone s) (f y.0, y.1) (record {
      follows = follows_trans s t y.1 follows d.follows;
      good = λ there zs g.
          let here = follows.there there in
          good there zs y.0 (wider_trans (own_sizes t) (own_sizes y.1) zs (d.follows.sizes here) g) (d.good here zs g);
      cases = λ u e. cases u e y.0 (d.cases u (follows.calls.switch ∙ e));
    }))

-- items behind a scope that goes on from another
behind_done : (s t : Scoped) (r : Typed) → Follows s t → Holds (ItemsDone t) r → Holds (ItemsDone s) r
behind_done s t r follows h = λ y e. let d = h y e in record {
  follows = follows_trans s t y.1 follows d.follows;
  good = λ there zs g. d.good (follows.there there) zs g;
  cases = λ u same. d.cases u (follows.calls.switch ∙ same);
}

variable_done : (r : Region) (s : Scoped) (base : Named) (d : Full) (i : Option Initial) (ls : List (Option ℕ)) (passed : Bool) (behind : Scoped → Typed) → ((t : Scoped) → Holds (ItemsDone t) (behind t))
    → Holds (ItemsDone s) (typed_variable r s base d i ls passed behind)
variable_done r s base d i ls passed behind h =
    bind (IsObject s.records.done) (ItemsDone s) (variable_type r s base.type d i ls) _ (type_object r s base.type d i ls) (λ t o.
    let n = of_type base t in
    let w = within_initializer (is_open ls) s (name_of d) n in
    let u = with_variable s (name_of d) n in
    let f = variable_follows s (name_of d) n o.complete o.sized in
    bind (λ v. There s → FineOption w t v) (ItemsDone s) (initializer_of false (full_line d) w t i) _
    (under (FineOption w t) (initializer_of false (full_line d) w t i) (λ there.
    option_fine false (full_line d) w t i (within_done (is_open ls) s (name_of d) n there o).there (within_object (is_open ls) s (name_of d) n o))) (λ v good.
    front_items s u (declared_item (full_line d) (length s.variables) passed v) (behind u) f
    (λ there zs rest g typed. item_good s w (name_of d) n (full_line d) passed v zs rest (within_done (is_open ls) s (name_of d) n there o) g (good there) typed)
    (λ x e rest fits. item_cases (Integer x) (full_line d) (length s.variables) passed v rest fits) (h u)))

variable_by_done : (r : Region) (s : Scoped) (base : Named) (d : Full) (i : Option Initial) (passed : Bool) (x : List Derived × Scoped) (made : Derivation) (behind : Scoped → Typed) → SuffixesDone s x
    → (There s → DerivationFine x.1.records.done made) → ((t : Scoped) → Holds (ItemsDone t) (behind t)) → Holds (ItemsDone s) (variable_by r x.1 base d i passed made behind)
variable_by_done r s base d i passed x (lengths ls) behind f fine h =
    behind_done s x.1 (typed_variable r x.1 base d i ls passed behind) f.settles.follows (variable_done r x.1 base d i ls passed behind h)
variable_by_done r s base d i passed x (callable made) behind f fine h =
    bind (SettlesIf (There s) x.1) (ItemsDone s) (typed_function r x.1 d i made) behind (function_settled (There s) r x.1 f.settles.follows.there d i made fine) (λ t g.
    behind_done s t (behind t) (settles_both (There s) s x.1 t f.settles g).follows (h t))

variables_done : (r : Region) (s : Scoped) (base : Named) (passed : Bool) (ds : Declarators) (behind : Scoped → Typed) → ((t : Scoped) → Holds (ItemsDone t) (behind t))
    → Holds (ItemsDone s) (typed_variables r s base passed ds behind)
variables_done r s base passed none_declared behind h = h s
variables_done r s base passed (declarator d i rest) behind h =
    bind (SuffixesDone s) (ItemsDone s) (typed_full s d) _ (full_settles s d) (λ x f.
    variable_by_done r s base d i passed x (derivation x.1.functions x.1.records.done base x.0) (λ t. typed_variables r t base passed rest behind) f (suffixes_fine s base x f)
    (λ t. variables_done r t base passed rest behind h))

-- ---- declarations

others_done : (r : Region) (x : Specification) (role : Role) (ds : Declarators) (behind : Scoped → Typed) → ((t : Scoped) → Holds (ItemsDone t) (behind t))
    → Holds (ItemsDone x.scope) (typed_others r x role ds >>= behind)
others_done r x role ds behind h =
    bind (Settles x.scope) (ItemsDone x.scope) (typed_others r x role ds) behind (others_settle r x role ds) (λ t f. behind_done x.scope t (behind t) f.follows (h t))

by_done : (r : Region) (x : Specification) (role : Role) (passed : Bool) (ds : Declarators) (behind : Scoped → Typed) → ((t : Scoped) → Holds (ItemsDone t) (behind t))
    → Holds (ItemsDone x.scope) (typed_by r x role passed ds behind)
by_done r x roles.Typedef passed ds behind h = others_done r x roles.Typedef ds behind h
by_done r x roles.Extern passed ds behind h = others_done r x roles.Extern ds behind h
by_done r x roles.Static passed ds behind h = others_done r x roles.Static ds behind h
by_done r x roles.Automatic passed ds behind h = variables_done r x.scope x.type passed ds behind h

pub declaration_done : (r : Region) (s : Scoped) (passed : Bool) (parts : Parts) (ds : Declarators) (behind : Scoped → Typed) → ((t : Scoped) → Holds (ItemsDone t) (behind t))
    → Holds (ItemsDone s) (typed_declaration r s passed parts ds behind)
declaration_done r s passed parts ds behind h =
    bind (λ x. Settles s x.scope) (ItemsDone s) (typed_specifiers r s parts ds) _ (specifiers_settle r s parts ds) (λ x f.
    behind_done s x.scope (typed_by r x x.role passed ds behind) f.follows (by_done r x x.role passed ds behind h))

-- ---- how far a function is typed

pub flow_there : (s : Scoped) (f : Flow) → f.gives ≡ s.flow.gives → There s → There (record s { flow = f })
flow_there s f same g = record {
  known = g.known;
  few = g.few;
  complete = g.complete;
  small = g.small;
  built = g.built;
  calls = record { callables = g.calls.callables; types = g.calls.types; gives = ap (is_given s.records.done) same ∙ g.calls.gives };
}

-- what is typed of the function goes on
flow_follows : (s : Scoped) (f : Flow) → f.gives ≡ s.flow.gives → switched f ≡ switched s.flow → Follows s (record s { flow = f })
flow_follows s f gives switch = record {
  names = inner_refl s.bindings;
  variables = omega arith;
  objects = omega arith;
  sizes = λ g. record {
    no_pointers = refl;
    variables = grows_refl (sizes s);
    objects = (wider_refl (own_sizes s) refl).objects;
    functions = (wider_refl (own_sizes s) refl).functions;
    gives = ap (given_by s.records.done) gives;
  };
  types = omega arith;
  records = omega arith;
  calls = record { named = λ name k e. e; all = λ k c e. (c, e, refl); gives = gives; switch = switch; later = (follows_refl s).calls.later };
  there = λ g. flow_there s f gives g;
}

loop_follows : (s : Scoped) → Follows s (with_loop s)
loop_follows s = flow_follows s (with_loop s).flow refl refl

label_follows : (s : Scoped) → Follows s (with_label s)
label_follows s = flow_follows s (with_label s).flow refl refl

-- a statement behind a scope with the same names
statement_behind : (s t : Scoped) (r : TypedStatement) → Follows s t → t.bindings ≡ s.bindings → Holds (StatementDone t) r → Holds (StatementDone s) r
statement_behind s t r follows names h = λ y e. let d = h y e in record {
  names = d.names ∙ names;
  follows = follows_trans s t y.1 follows d.follows;
  good = λ there zs g. d.good (follows.there there) zs g;
}

-- behind a block its names are left
left_follows : (s t : Scoped) → Follows s t → Follows s (record t { bindings = s.bindings })
left_follows s t f = record {
  names = inner_refl s.bindings;
  variables = f.variables;
  objects = f.objects;
  sizes = f.sizes;
  types = f.types;
  records = f.records;
  calls = f.calls;
  there = λ h. there_behind s t f h;
}

block_done : (s : Scoped) (r : Typed) → Holds (ItemsDone s) r → Holds (StatementDone s) (as_block s r)
block_done s r h =
    bind (ItemsDone s) (StatementDone s) r _ h (λ y d.
    given (StatementDone s) (cores.block y.0, record y.1 { bindings = s.bindings }) (record { names = refl; follows = left_follows s y.1 d.follows; good = d.good }))

-- a statement alone, as the items of a list
alone_done : (s : Scoped) (r : TypedStatement) → Holds (StatementDone s) r → Holds (ItemsDone s) (as_items r)
alone_done s r h =
    bind (StatementDone s) (ItemsDone s) r _ h (λ y d.
    given (ItemsDone s) (cores.does y.0 cores.done, y.1) (record { follows = d.follows; good = λ there zs g. and _ _ (d.good there zs g) refl; cases = λ t e. refl }))

own_done : (s : Scoped) (r : Typed) → Holds (ItemsDone s) r → Holds (ItemsDone s) (own_block s r)
own_done s r h =
    bind (ItemsDone s) (ItemsDone s) r _ h (λ y d.
    given (ItemsDone s) (y.0, record y.1 { bindings = s.bindings }) (record { follows = left_follows s y.1 d.follows; good = d.good; cases = d.cases }))

-- ---- parts of loops

part_done : (s : Scoped) (o : Option Tree) → Holds (λ x. There s → is_typed_part (own_sizes s) x ≡ true) (part_ignored s o)
part_done s None = given (λ x. There s → is_typed_part (own_sizes s) x ≡ true) None (λ there. refl)
part_done s (Some e) =
    bind (λ x. There s → FineOperand s x) (λ x. There s → is_typed_part (own_sizes s) x ≡ true) (operand_by s false e) _ (fine_if s false e) (λ x good.
    given (λ y. There s → is_typed_part (own_sizes s) y ≡ true) (Some (dropped s.records.done x)) (λ there. dropped_fine s x (good there)))

abbrev FineTest : Scoped → Option Operand → Type 0
FineTest s None = Unit {0}
FineTest s (Some x) = There s → FineOperand s x

tested_done : (s : Scoped) (o : Option Tree) → Holds (FineTest s) (part_tested s o)
tested_done s None = given (FineTest s) None tt
tested_done s (Some e) = bind (λ x. There s → FineOperand s x) (FineTest s) (operand s e) _ (fine_if s true e) (λ x good. given (FineTest s) (Some x) good)

test_done : (s : Scoped) (line : ℕ) (o : Option Operand) → FineTest s o → Holds (λ x. There s → is_test (own_sizes s) x ≡ true) (on_line line (test_node o))
test_done s line None h = given (λ x. There s → is_test (own_sizes s) x ≡ true) None (λ there. refl)
test_done s line (Some x) h =
    on_same_line (λ y. There s → is_test (own_sizes s) y ≡ true) line (test_node (Some x))
    (bind (λ e. There s → FineNumber s e) (λ y. There s → is_test (own_sizes s) y ≡ true) (number 17 x) _ (under (FineNumber s) (number 17 x) (λ there. number_fine s 17 x (h there))) (λ e n.
    given (λ y. There s → is_test (own_sizes s) y ≡ true) (Some e) (λ there. let k = n there in and _ _ (ap is_integer k.is) k.good)))

part_grows : (few many : Sizes) (o : Option Expression) → Wider few many → is_typed_part few o ≡ true → is_typed_part many o ≡ true
part_grows few many None g h = refl
part_grows few many (Some e) g h = typed_grows few many e g h

test_grows : (few many : Sizes) (o : Option Expression) → Wider few many → is_test few o ≡ true → is_test many o ≡ true
test_grows few many None g h = refl
test_grows few many (Some e) g h = let parts = both (is_integer (type_of e)) (is_typed few e) h in and _ _ parts.0 (typed_grows few many e g parts.1)

rest_done : (s : Scoped) (line loop : ℕ) (first : Option Expression) (test last : Option Tree) (body : TypedStatement) → (There s → is_typed_part (own_sizes s) first ≡ true) → Holds (StatementDone s) body
    → Holds (StatementDone s) (typed_rest line loop first s test last body)
rest_done s line loop first test last body begun h =
    bind (FineTest s) (StatementDone s) (part_tested s test) _ (tested_done s test) (λ x tested.
    bind (λ c. There s → is_typed_part (own_sizes s) c ≡ true) (StatementDone s) (part_ignored s last) _ (part_done s last) (λ c ended.
    bind (StatementDone s) (StatementDone s) body _ h (λ y d.
    bind (λ e. There s → is_test (own_sizes s) e ≡ true) (StatementDone s) (on_line line (test_node x)) _ (test_done s line x tested) (λ e fits.
    given (StatementDone s) (cores.for_loop line loop first e c y.0, y.1) (record {
      names = d.names;
      follows = d.follows;
      good = λ there zs g.
          let wide = wider_trans (own_sizes s) (own_sizes y.1) zs (d.follows.sizes there) g in
          and _ _ (and _ _ (and _ _ (part_grows (own_sizes s) zs first wide (begun there)) (test_grows (own_sizes s) zs e wide (fits there))) (part_grows (own_sizes s) zs c wide (ended there))) (d.good there zs g);
    })))))

-- ---- what return hands over

-- a statement in this scope, which what it gives says
abbrev Returns : Scoped → cores.Statement → Type 0
Returns s c = There s → (zs : Sizes) → Wider (own_sizes s) zs → is_typed_statement zs c ≡ true

gives_here : (s : Scoped) (zs : Sizes) (t : CType) → s.flow.gives ≡ t → Wider (own_sizes s) zs → zs.gives ≡ given_by s.records.done t
gives_here s zs t e g = g.gives ∙ ap (given_by s.records.done) e

return_done : (s : Scoped) (line : ℕ) (t : CType) (x : Operand) → s.flow.gives ≡ t → (There s → FineOperand s x) → Holds (Returns s) (return_node s.records.done line t x)
return_done s line ctypes.void x e h = refused (Returns s) 16
return_done s line (ctypes.integer t) x e h =
    bind (λ y. There s → FineNumber s y) (Returns s) (number 8 x) _ (under (FineNumber s) (number 8 x) (λ there. number_fine s 8 x (h there))) (λ y n.
    given (Returns s) (cores.returns line (as_type t y)) (λ there zs g.
    let k = n there in
    let is = type_as t y in
    let given_back : same_given zs.gives (given_as (type_of (as_type t y))) ≡ true =
    ap (λ (u : ValueType). same_given zs.gives (given_as u)) is ∙ ap (λ (p : Option PassedType). same_given p (Some (passed.Integer t))) (gives_here s zs (ctypes.integer t) e g) ∙ same_integer_refl t in
    and _ _ (and _ _ (ap is_integer is) given_back) (typed_as zs t k.type y k.is (typed_grows (own_sizes s) zs y g k.good))))
return_done s line (ctypes.aggregate p) x e h =
    let size = size_of s.records.done (ctypes.aggregate p) in
    bind (λ a. There s → FineStructure s size a) (Returns s) (required 8 (record_value s.records.done (ctypes.aggregate p) x)) _
    (under (FineStructure s size) (required 8 (record_value s.records.done (ctypes.aggregate p) x)) (λ there. record_fine s 8 p x (h there))) (λ a n.
    given (Returns s) (cores.returns_structure line a) (λ there zs g.
    let k = n there in
    let given_back : same_given zs.gives (Some (passed.Structure (typings.size_of a))) ≡ true =
    ap (λ (o : Option PassedType). same_given o (Some (passed.Structure (typings.size_of a)))) (gives_here s zs (ctypes.aggregate p) e g) ∙ eq-eqb size (typings.size_of a) (sym k.size) in
    and _ _ given_back (structure_grows (own_sizes s) zs a g k.good)))
return_done s line (ctypes.array element n) x e h = refused (Returns s) 8
return_done s line (ctypes.pointer t c) x e h = refused (Returns s) 8
return_done s line (ctypes.function f) x e h = refused (Returns s) 8

nothing_done : (s : Scoped) (line : ℕ) (t : CType) → s.flow.gives ≡ t → Holds (Returns s) (return_nothing_node line t)
nothing_done s line ctypes.void e = given (Returns s) (cores.returns_nothing line) (λ there zs g. ap (λ (o : Option PassedType). same_given o None) (gives_here s zs ctypes.void e g))
nothing_done s line (ctypes.integer t) e = refused (Returns s) 16
nothing_done s line (ctypes.aggregate p) e = refused (Returns s) 16
nothing_done s line (ctypes.array element n) e = refused (Returns s) 16
nothing_done s line (ctypes.pointer t c) e = refused (Returns s) 16
nothing_done s line (ctypes.function f) e = refused (Returns s) 16

-- a statement that declares nothing
plain_done : (s : Scoped) (r : Result cores.Statement Fault) → Holds (Returns s) r → Holds (StatementDone s) (r >>= λ c. Ok (c, s))
plain_done s r h = bind (Returns s) (StatementDone s) r _ h (λ c good. given (StatementDone s) (c, s) (record { names = refl; follows = follows_refl s; good = good }))

-- ---- switches

promoted_twice : (t : IntegerType) → is_promoted (Integer (promoted t)) ≡ true
promoted_twice t = promoted_is t

switch_promoted : (x : Operand) → is_promoted (Integer (switch_type x)) ≡ true
switch_promoted (value e constant) = by (type_of e) where
  by : (t : ValueType) → is_promoted (Integer (promoted_type t)) ≡ true
  by Void = refl
  by (Integer t) = promoted_twice t
switch_promoted (object line v offset t constant) = refl
switch_promoted (structure t a) = refl

-- a value of the switch's type
pub record FineValue (s : Scoped) (t : IntegerType) (e : Expression) : Type 0 where
  pub is : type_of e ≡ Integer t
  pub good : There s → is_typed (own_sizes s) e ≡ true

value_done : (s : Scoped) (line : ℕ) (x : Operand) → (There s → FineOperand s x) → Holds (FineValue s (switch_type x)) (on_line line (switch_value x))
value_done s line x h =
    on_same_line (FineValue s (switch_type x)) line (switch_value x)
    (bind (λ e. There s → FineNumber s e) (FineValue s (switch_type x)) (number 17 x) _ (under (FineNumber s) (number 17 x) (λ there. number_fine s 17 x (h there))) (λ e n.
    given (FineValue s (switch_type x)) (as_type (switch_type x) e) (record {
      is = type_as (switch_type x) e;
      good = λ there. let k = n there in typed_as (own_sizes s) (switch_type x) k.type e k.is k.good;
    })))

-- within a switch
switch_there : (s : Scoped) (t : IntegerType) → There s → There (with_switch s t)
switch_there s t g = flow_there s (with_switch s t).flow refl g

ended_follows : (s u : Scoped) (t : IntegerType) → Follows (with_switch s t) u → Follows s (switch_ended s u)
ended_follows s u t f = record {
  names = f.names;
  variables = f.variables;
  objects = f.objects;
  sizes = λ g.
      let wide = f.sizes (switch_there s t g) in
      record { no_pointers = refl; variables = wide.variables; objects = wide.objects; functions = wide.functions; gives = wide.gives };
  types = f.types;
  records = f.records;
  calls = record { named = f.calls.named; all = f.calls.all; gives = f.calls.gives; switch = refl; later = f.calls.later };
  there = λ g. flow_there u (switch_ended s u).flow refl (f.there (switch_there s t g));
}

switch_done : (s : Scoped) (line : ℕ) (x : Operand) (r : Typed) → (There s → FineOperand s x) → Holds (λ y. y.1.bindings ≡ s.bindings) r → Holds (ItemsDone (with_switch s (switch_type x))) r
    → Holds (StatementDone s) (switch_of s line x r)
switch_done s line x r good names h =
    let t = switch_type x in
    let both_hold : Holds (λ y. (y.1.bindings ≡ s.bindings) × ItemsDone (with_switch s t) y) r = λ y e. (names y e, h y e) in
    bind (λ y. (y.1.bindings ≡ s.bindings) × ItemsDone (with_switch s t) y) (StatementDone s) r _ both_hold (λ y d.
    bind (FineValue s t) (StatementDone s) (on_line line (switch_value x)) _ (value_done s line x good) (λ v n.
    given (StatementDone s) (cores.switch line v y.0, switch_ended s y.1) (record {
      names = d.0;
      follows = ended_follows s y.1 t d.1.follows;
      good = λ there zs g.
          let inner = switch_there s t there in
          let behind : Wider (own_sizes y.1) zs = record { no_pointers = refl; variables = g.variables; objects = g.objects; functions = g.functions; gives = g.gives } in
          let wide = d.1.follows.sizes inner in
          let here : Wider (own_sizes s) (own_sizes y.1) = record { no_pointers = refl; variables = wide.variables; objects = wide.objects; functions = wide.functions; gives = wide.gives } in
          and _ _ (and _ _ (and _ _ (ap is_promoted n.is ∙ switch_promoted x) (typed_grows (own_sizes s) zs v (wider_trans (own_sizes s) (own_sizes y.1) zs here behind) (n.good there)))
          (ap (λ (u : ValueType). are_cases u y.0) n.is ∙ d.1.cases t refl)) (d.1.good inner zs behind);
    })))

-- ---- cases

converted_fits : (from to : IntegerType) (bits : ℕ) → converted from to bits < 2 ^ width to
converted_fits from to bits = by (same_integer to types.Bool) where
  low : (b : Bool) → truth_bits b < 2 ^ width to
  low b = one b (wide to) where
    wide : (t : IntegerType) → 2 ≤ 2 ^ width t
    wide types.Bool = omega arith
    wide types.Char = omega arith
    wide types.SignedChar = omega arith
    wide types.UnsignedChar = omega arith
    wide types.Short = omega arith
    wide types.UnsignedShort = omega arith
    wide types.Int = omega arith
    wide types.UnsignedInt = omega arith
    wide types.Long = omega arith
    wide types.UnsignedLong = omega arith
    wide types.LongLong = omega arith
    wide types.UnsignedLongLong = omega arith

    one : (c : Bool) → 2 ≤ 2 ^ width to → truth_bits c < 2 ^ width to
    one true h = omega (arith, h)
    one false h = omega (arith, h)

  by : (c : Bool) → (if c then truth_bits (is_true bits) else Rattle.words.specs.Operators.wrapped (width to) (number_of from bits)) < 2 ^ width to
  by true = low (is_true bits)
  by false = wrapped_below (width to) (number_of from bits)

-- a case is of the switch's type
pub record CaseDone (switch : Option Cases) (x : (IntegerType × ℕ) × Cases) : Type 0 where
  pub type : option_map (λ (c : Cases). c.type) switch ≡ Some x.0.0
  pub same : x.1.type ≡ x.0.0
  pub low : nat_lt x.0.1 (2 ^ width x.0.0) ≡ true

case_in_done : (c : Cases) (n : TypedNumber) → Holds (CaseDone (Some c)) (case_in c n)
case_in_done c n = by (has_value c.values (converted n.type c.type n.bits)) where
  by : (b : Bool) → Holds {E = ℕ} (CaseDone (Some c)) (if b then Err 14 else Ok ((c.type, converted n.type c.type n.bits), record c { values = c.values ++ converted n.type c.type n.bits ∷ [] }))
  by true = refused (CaseDone (Some c)) 14
  by false = given (CaseDone (Some c)) _ (record { type = refl; same = refl; low = lt-ltb _ _ (converted_fits n.type c.type n.bits) })

switch_case_done : (switch : Option Cases) (n : TypedNumber) → Holds (CaseDone switch) (case_of_switch switch n)
switch_case_done None n = refused (CaseDone None) 14
switch_case_done (Some c) n = case_in_done c n

pub case_done : (line : ℕ) (switch : Option Cases) (x : Operand) → Holds (CaseDone switch) (on_line line (case_node switch x))
case_done line switch x =
    on_same_line (CaseDone switch) line (case_node switch x) (bind (λ (n : TypedNumber). Unit {0}) (CaseDone switch) (required 13 (constant_in x)) _ (trivially _) (λ n _. switch_case_done switch n))

-- a default leaves the type
abbrev pub DefaultDone : Option Cases → Cases → Type 0
DefaultDone switch x = option_map (λ (c : Cases). c.type) switch ≡ Some x.type

pub default_done : (line : ℕ) (switch : Option Cases) → Holds (DefaultDone switch) (on_line line (default_node switch))
default_done line None = on_same_line (DefaultDone None) line (default_node None) (refused (DefaultDone None) 14)
default_done line (Some c) = on_same_line (DefaultDone (Some c)) line (default_node (Some c)) (by c.has_default) where
  by : (b : Bool) → Holds {E = ℕ} (DefaultDone (Some c)) (if b then Err 14 else Ok (record c { has_default = true }))
  by true = refused (DefaultDone (Some c)) 14
  by false = given (DefaultDone (Some c)) _ refl

cases_follow : (s : Scoped) (c : Cases) → Some c.type ≡ switched s.flow → Follows s (with_cases s c)
cases_follow s c e = flow_follows s (with_cases s c).flow refl e

-- cases behind a scope that goes on from another
strays : (s : Scoped) (line : ℕ) (y : cores.Statement × Scoped) (c : Cases) → StatementDone s y → Some c.type ≡ switched y.1.flow → StatementDone s (cores.stray line y.0, with_cases y.1 c)
strays s line y c d e = record {
  names = d.names;
  follows = follows_trans s y.1 (with_cases y.1 c) d.follows (cases_follow y.1 c e);
  good = λ there zs g. d.good there zs (record { no_pointers = refl; variables = g.variables; objects = g.objects; functions = g.functions; gives = g.gives });
}

jump_done : (s : Scoped) (line : ℕ) (labels : List (List ℕ)) (name : List ℕ) → Holds (Returns s) (on_line line (jump_node line labels name))
jump_done s line labels name =
    on_same_line (Returns s) line (jump_node line labels name)
    (bind (λ (k : ℕ). Unit {0}) (Returns s) (required 15 (label_number labels name)) _ (trivially _) (λ k _. given (Returns s) (cores.jumps line k) (λ there zs g. refl)))

jumping : (s : Scoped) (line : ℕ) (b : Bool) (c : cores.Statement) → ((zs : Sizes) → is_typed_statement zs c ≡ true) → Holds {E = Fault} (StatementDone s) (if b then Ok (c, s) else Err (fault line 14))
jumping s line true c good = given (StatementDone s) (c, s) (record { names = refl; follows = follows_refl s; good = λ there zs g. good zs })
jumping s line false c good = refused (StatementDone s) _

-- ---- what stands in a list

front_alone : (s : Scoped) (r : TypedStatement) → Holds (StatementDone s) r → Holds (FrontDone s) (r >>= λ y. Ok (cores.does y.0, y.1))
front_alone s r h =
    bind (StatementDone s) (FrontDone s) r _ h (λ y d.
    given (FrontDone s) (cores.does y.0, y.1) (record { names = d.names; follows = d.follows; good = λ there zs rest g typed. and _ _ (d.good there zs g) typed; cases = λ t e rest fits. fits }))

front_label : (a : Around) (s : Scoped) (line : ℕ) (n : List ℕ) (r : TypedFront) → Holds (FrontDone (with_label s)) r
    → Holds (FrontDone s) (r >>= λ y. on_line line (label_node a.labels n s.flow.labels) >>= λ new. Ok ((λ rest. cores.label s.flow.labels (y.0 rest)), y.1))
front_label a s line n r h =
    bind (FrontDone (with_label s)) (FrontDone s) r _ h (λ y d.
    bind (λ (u : Unit {0}). Unit {0}) (FrontDone s) (on_line line (label_node a.labels n s.flow.labels)) _ (trivially _) (λ u _.
    given (FrontDone s) _ (record {
      names = d.names;
      follows = follows_trans s (with_label s) y.1 (label_follows s) d.follows;
      good = λ there zs rest g typed. d.good ((label_follows s).there there) zs rest g typed;
      cases = λ t e rest fits. d.cases t e rest fits;
    })))

front_case : (s : Scoped) (line : ℕ) (x : Operand) (r : TypedFront) → Holds (FrontDone s) r
    → Holds (FrontDone s) (r >>= λ y. on_line line (case_node y.1.flow.switch x) >>= λ c. Ok ((λ rest. cores.case_at line c.0.0 c.0.1 (y.0 rest)), with_cases y.1 c.1))
front_case s line x r h =
    bind (FrontDone s) (FrontDone s) r _ h (λ y d.
    bind (CaseDone y.1.flow.switch) (FrontDone s) (on_line line (case_node y.1.flow.switch x)) _ (case_done line y.1.flow.switch x) (λ c k.
    given (FrontDone s) _ (record {
      names = d.names;
      follows = follows_trans s y.1 (with_cases y.1 c.1) d.follows (cases_follow y.1 c.1 (ap Some k.same ∙ sym k.type));
      good = λ there zs rest g typed. and _ _ k.low (d.good there zs rest (record { no_pointers = refl; variables = g.variables; objects = g.objects; functions = g.functions; gives = g.gives }) typed);
      cases = λ t e rest fits.
          let one : Some t ≡ Some c.0.0 = sym (d.follows.calls.switch ∙ e) ∙ k.type in
          let is : t ≡ c.0.0 = cc in
          and _ _ (ap (same_type (Integer t)) (ap Integer (sym is)) ∙ same_type_refl (Integer t)) (d.cases t e rest fits);
    })))

front_default : (s : Scoped) (line : ℕ) (r : TypedFront) → Holds (FrontDone s) r
    → Holds (FrontDone s) (r >>= λ y. on_line line (default_node y.1.flow.switch) >>= λ c. Ok ((λ rest. cores.default_at line (y.0 rest)), with_cases y.1 c))
front_default s line r h =
    bind (FrontDone s) (FrontDone s) r _ h (λ y d.
    bind (DefaultDone y.1.flow.switch) (FrontDone s) (on_line line (default_node y.1.flow.switch)) _ (default_done line y.1.flow.switch) (λ c k.
    given (FrontDone s) _ (record {
      names = d.names;
      follows = follows_trans s y.1 (with_cases y.1 c) d.follows (cases_follow y.1 c (sym k));
      good = λ there zs rest g typed. d.good there zs rest (record { no_pointers = refl; variables = g.variables; objects = g.objects; functions = g.functions; gives = g.gives }) typed;
      cases = λ t e rest fits. d.cases t e rest fits;
    })))

names_left : (s : Scoped) (r : Typed) → Holds (λ y. y.1.bindings ≡ s.bindings) (own_block s r)
names_left s r = bind (λ (y : cores.Items × Scoped). Unit {0}) (λ y. y.1.bindings ≡ s.bindings) r _ (trivially r) (λ y _. given (λ y. y.1.bindings ≡ s.bindings) (y.0, record y.1 { bindings = s.bindings }) refl)

names_kept : (s : Scoped) (r : TypedStatement) → Holds (StatementDone s) r → Holds (λ y. y.1.bindings ≡ s.bindings) (as_items r)
names_kept s r h = bind (StatementDone s) (λ y. y.1.bindings ≡ s.bindings) r _ h (λ y d. given (λ y. y.1.bindings ≡ s.bindings) (cores.does y.0 cores.done, y.1) d.names)

mutual
  pub statement_done : (a : Around) (s : Scoped) (x : Statement) → Holds (StatementDone s) (typed_statement a s x)
  statement_done a s (block line items) = block_done s (typed_items a false (length s.bindings) [] s items) (items_done a false (length s.bindings) [] s items)
  statement_done a s (if_then line test one) =
      bind (λ x. There s → FineOperand s x) (StatementDone s) (operand s test) _ (fine_if s true test) (λ x good.
      bind (StatementDone s) (StatementDone s) (typed_statement a s one) _ (statement_done a s one) (λ y d.
      bind (λ e. There s → FineNumber s e) (StatementDone s) (on_line line (number 17 x)) _ (number_if s line 17 x good) (λ e n.
      given (StatementDone s) (cores.if_then line e y.0, y.1) (record {
        names = d.names;
        follows = d.follows;
        good = λ there zs g.
            let k = n there in
            and _ _ (and _ _ (ap is_integer k.is) (typed_grows (own_sizes s) zs e (wider_trans (own_sizes s) (own_sizes y.1) zs (d.follows.sizes there) g) k.good)) (d.good there zs g);
      }))))
  statement_done a s (if_else line test one other) =
      bind (λ x. There s → FineOperand s x) (StatementDone s) (operand s test) _ (fine_if s true test) (λ x good.
      bind (StatementDone s) (StatementDone s) (typed_statement a s one) _ (statement_done a s one) (λ y d.
      bind (StatementDone y.1) (StatementDone s) (typed_statement a y.1 other) _ (statement_done a y.1 other) (λ z e.
      bind (λ t. There s → FineNumber s t) (StatementDone s) (on_line line (number 17 x)) _ (number_if s line 17 x good) (λ t n.
      let follows = follows_trans s y.1 z.1 d.follows e.follows in
      given (StatementDone s) (cores.if_else line t y.0 z.0, z.1) (record {
        names = e.names ∙ d.names;
        follows = follows;
        good = λ there zs g.
            let k = n there in
            let here = d.follows.there there in
            and _ _ (and _ _ (and _ _ (ap is_integer k.is) (typed_grows (own_sizes s) zs t (wider_trans (own_sizes s) (own_sizes z.1) zs (follows.sizes there) g) k.good))
            (d.good there zs (wider_trans (own_sizes y.1) (own_sizes z.1) zs (e.follows.sizes here) g))) (e.good here zs g);
      })))))
  statement_done a s (evaluate e) =
      bind (λ x. There s → FineOperand s x) (StatementDone s) (operand_by s false e) _ (fine_if s false e) (λ x good.
      given (StatementDone s) (cores.evaluate (dropped s.records.done x), s) (record {
        names = refl;
        follows = follows_refl s;
        good = λ there zs g. typed_grows (own_sizes s) zs (dropped s.records.done x) g (dropped_fine s x (good there));
      }))
  statement_done a s (return_nothing line) =
      plain_done s (on_line line (return_nothing_node line s.flow.gives)) (on_same_line (Returns s) line (return_nothing_node line s.flow.gives) (nothing_done s line s.flow.gives refl))
  statement_done a s (return_value line e) =
      bind (λ x. There s → FineOperand s x) (StatementDone s) (operand s e) _ (fine_if s true e) (λ x good.
      plain_done s (on_line line (return_node s.records.done line s.flow.gives x))
      (on_same_line (Returns s) line (return_node s.records.done line s.flow.gives x) (return_done s line s.flow.gives x refl good)))
  statement_done a s (empty line) = given (StatementDone s) (cores.block cores.done, s) (record { names = refl; follows = follows_refl s; good = λ there zs g. refl })
  statement_done a s (while_loop line test body) =
      bind (λ x. There s → FineOperand s x) (StatementDone s) (operand s test) _ (fine_if s true test) (λ x good.
      bind (StatementDone s) (StatementDone s) (typed_statement (in_loop a) (with_loop s) body) _
      (statement_behind s (with_loop s) (typed_statement (in_loop a) (with_loop s) body) (loop_follows s) refl (statement_done (in_loop a) (with_loop s) body)) (λ y d.
      bind (λ e. There s → FineNumber s e) (StatementDone s) (on_line line (number 17 x)) _ (number_if s line 17 x good) (λ e n.
      given (StatementDone s) (cores.for_loop line s.flow.loops None (Some e) None y.0, y.1) (record {
        names = d.names;
        follows = d.follows;
        good = λ there zs g.
            let k = n there in
            let wide = wider_trans (own_sizes s) (own_sizes y.1) zs (d.follows.sizes there) g in
            and _ _ (and _ _ (and _ _ refl (and _ _ (ap is_integer k.is) (typed_grows (own_sizes s) zs e wide k.good))) refl) (d.good there zs g);
      }))))
  statement_done a s (do_loop line body test) =
      bind (StatementDone s) (StatementDone s) (typed_statement (in_loop a) (with_loop s) body) _
      (statement_behind s (with_loop s) (typed_statement (in_loop a) (with_loop s) body) (loop_follows s) refl (statement_done (in_loop a) (with_loop s) body)) (λ y d.
      bind (λ x. There y.1 → FineOperand y.1 x) (StatementDone s) (operand y.1 test) _ (fine_if y.1 true test) (λ x good.
      bind (λ e. There y.1 → FineNumber y.1 e) (StatementDone s) (on_line line (number 17 x)) _ (number_if y.1 line 17 x good) (λ e n.
      given (StatementDone s) (cores.do_loop line s.flow.loops y.0 e, y.1) (record {
        names = d.names;
        follows = d.follows;
        good = λ there zs g. let k = n (d.follows.there there) in and _ _ (and _ _ (d.good there zs g) (ap is_integer k.is)) (typed_grows (own_sizes y.1) zs e g k.good);
      }))))
  statement_done a s (for_loop line first test last body) =
      bind (λ b. There s → is_typed_part (own_sizes s) b ≡ true) (StatementDone s) (part_ignored s first) _ (part_done s first) (λ b good.
      let t = with_loop s in
      statement_behind s t (typed_rest line s.flow.loops b t test last (typed_statement (in_loop a) t body)) (loop_follows s) refl
      (rest_done t line s.flow.loops b test last (typed_statement (in_loop a) t body) (λ there. good (flow_there t s.flow refl there)) (statement_done (in_loop a) t body)))
  statement_done a s (for_declared line parts ds test last body) =
      block_done s _ (declaration_done (in_block (length s.bindings)) s false parts ds _ (λ t.
      let u = with_loop t in
      behind_done t u (as_items (typed_rest line t.flow.loops None u test last (typed_statement (in_loop a) u body))) (loop_follows t)
      (alone_done u (typed_rest line t.flow.loops None u test last (typed_statement (in_loop a) u body))
      (rest_done u line t.flow.loops None test last (typed_statement (in_loop a) u body) (λ there. refl) (statement_done (in_loop a) u body)))))
  statement_done a s (switch_on line e (block at is)) =
      bind (λ x. There s → FineOperand s x) (StatementDone s) (operand s e) _ (fine_if s true e) (λ x good.
      let t = with_switch s (switch_type x) in
      let r = typed_items (in_switch a) true (length s.bindings) [] t is in
      switch_done s line x (own_block s r) good (names_left s r) (own_done t r (items_done (in_switch a) true (length s.bindings) [] t is)))
  statement_done a s (switch_on line e body) =
      bind (λ x. There s → FineOperand s x) (StatementDone s) (operand s e) _ (fine_if s true e) (λ x good.
      let t = with_switch s (switch_type x) in
      let r = typed_statement (in_switch a) t body in
      let h = statement_done (in_switch a) t body in
      switch_done s line x (as_items r) good (names_kept t r h) (alone_done t r h))
  statement_done a s (case_of line e body) =
      bind (λ (x : Operand). Unit {0}) (StatementDone s) (operand s e) _ (trivially _) (λ x _.
      bind (StatementDone s) (StatementDone s) (typed_statement a s body) _ (statement_done a s body) (λ y d.
      bind (CaseDone y.1.flow.switch) (StatementDone s) (on_line line (case_node y.1.flow.switch x)) _ (case_done line y.1.flow.switch x) (λ c k.
      given (StatementDone s) (cores.stray line y.0, with_cases y.1 c.1) (strays s line y c.1 d (ap Some k.same ∙ sym k.type)))))
  statement_done a s (default_of line body) =
      bind (StatementDone s) (StatementDone s) (typed_statement a s body) _ (statement_done a s body) (λ y d.
      bind (DefaultDone y.1.flow.switch) (StatementDone s) (on_line line (default_node y.1.flow.switch)) _ (default_done line y.1.flow.switch) (λ c k.
      given (StatementDone s) (cores.stray line y.0, with_cases y.1 c) (strays s line y c d (sym k))))
  statement_done a s (labelled line n body) =
      bind (StatementDone s) (StatementDone s) (typed_statement a (with_label s) body) _
      (statement_behind s (with_label s) (typed_statement a (with_label s) body) (label_follows s) refl (statement_done a (with_label s) body)) (λ y d.
      bind (λ (u : Unit {0}). Unit {0}) (StatementDone s) (on_line line (label_node a.labels n s.flow.labels)) _ (trivially _) (λ u _. given (StatementDone s) y d))
  statement_done a s (goto_label line n) = plain_done s (on_line line (jump_node line a.labels n)) (jump_done s line a.labels n)
  statement_done a s (break_off line) = jumping s line a.breaks (cores.breaks line) (λ zs. refl)
  statement_done a s (continue_on line) = jumping s line a.continues (cores.continues line) (λ zs. refl)

  pub front_done : (a : Around) (switches : Bool) (s : Scoped) (x : Statement) (elsewhere : TypedStatement) → Holds (StatementDone s) elsewhere → Holds (FrontDone s) (typed_front a switches s x elsewhere)
  front_done a true s (labelled line n body) elsewhere h =
      front_label a s line n (typed_front a true (with_label s) body (typed_statement a (with_label s) body))
      (front_done a true (with_label s) body (typed_statement a (with_label s) body) (statement_done a (with_label s) body))
  front_done a false s (labelled line n body) elsewhere h =
      front_label a s line n (typed_front a false (with_label s) body (typed_statement a (with_label s) body))
      (front_done a false (with_label s) body (typed_statement a (with_label s) body) (statement_done a (with_label s) body))
  front_done a true s (case_of line e body) elsewhere h =
      bind (λ (x : Operand). Unit {0}) (FrontDone s) (operand s e) _ (trivially _) (λ x _.
      front_case s line x (typed_front a true s body (typed_statement a s body)) (front_done a true s body (typed_statement a s body) (statement_done a s body)))
  front_done a true s (default_of line body) elsewhere h =
      front_default s line (typed_front a true s body (typed_statement a s body)) (front_done a true s body (typed_statement a s body) (statement_done a s body))
  front_done a true s x elsewhere h = front_alone s elsewhere h
  front_done a false s x elsewhere h = front_alone s elsewhere h

  pub items_done : (a : Around) (switches : Bool) (outer : ℕ) (jumped : List (List ℕ)) (s : Scoped) (x : Items) → Holds (ItemsDone s) (typed_items a switches outer jumped s x)
  items_done a switches outer jumped s done = given (ItemsDone s) (cores.done, s) (record { follows = follows_refl s; good = λ there zs g. refl; cases = λ t e. refl })
  items_done a switches outer jumped s (declares parts ds rest) =
      declaration_done (in_block outer) s (is_passed switches jumped rest) parts ds (λ t. typed_items a switches outer jumped t rest) (λ t. items_done a switches outer jumped t rest)
  items_done a switches outer jumped s (does first rest) =
      bind (FrontDone s) (ItemsDone s) (typed_front a switches s first (typed_statement a s first)) _ (front_done a switches s first (typed_statement a s first) (statement_done a s first)) (λ x d.
      front_items s x.1 x.0 (typed_items a switches outer (jumped ++ jumps_in first) x.1 rest) d.follows d.good d.cases (items_done a switches outer (jumped ++ jumps_in first) x.1 rest))

-- what stands behind the declaration of a loop
pub for_done : (a : Around) (line : ℕ) (test last : Option Tree) (body : Statement) (t : Scoped)
    → Holds (ItemsDone t) (as_items (typed_rest line t.flow.loops None (with_loop t) test last (typed_statement (in_loop a) (with_loop t) body)))
for_done a line test last body t =
    let u = with_loop t in
    behind_done t u (as_items (typed_rest line t.flow.loops None u test last (typed_statement (in_loop a) u body))) (loop_follows t)
    (alone_done u (typed_rest line t.flow.loops None u test last (typed_statement (in_loop a) u body))
    (rest_done u line t.flow.loops None test last (typed_statement (in_loop a) u body) (λ there. refl) (statement_done (in_loop a) u body)))
