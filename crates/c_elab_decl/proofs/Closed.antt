-- Typing is the same where functions that can't be called are other ones: each call asks for what it gives to be complete.
use Rattle.std.proofs.Common.{◌≡◌, ℕ, zero, suc, Bool, true, false, List, [], ◌∷◌, map, Option, Some, None, Result, Ok, Err, refl, ap, sym, subst, ◌∙◌}
use Rattle.std.specs.Prelude.{slice_get, option_map}
use Rattle.c_tree.specs.Tree.{TypePart, qualified, word, tagged, typedef_name, Tree, Trees, Declared, Suffixes, unnamed, named, inside, pointing, no_suffix, bounded, unbounded, constant, character, strings, name, parens, unary, cast, sizeof_expr, sizeof_type, step, member, binary, choice, assign, comma, call, address, dereference, arrow, subscript, none, more, first_line}
use Rattle.c_types.specs.declared.integers.IntegerType.{IntegerType}
use Rattle.c_types.specs.Types.{CType, Completed}
use Rattle.c_types.specs.Types as ctypes
use Rattle.c_scope.specs.declared.meaning.Meaning.{Meaning}
use Rattle.c_scope.specs.declared.meaning.Meaning.TheVariants.{Variable, Object, Incomplete, Assert, Assume, Draw, BuiltIn, Function, Typedef, Enumerator, Record, Enumeration}
use Rattle.c_scope.specs.Scopes.{FunctionType, Callable, Scoped, meaning_of}
use Rattle.c_scope.specs.Faults.{◌>>=◌, Fault, on_line}
use Rattle.c_scope.specs.Types.{Said, nothing_specified, with_part, with_parts, specified_type, array_of, declared_line, parts_line}
use Rattle.c_elab_expr.specs.Strings.{strings_of}
use Rattle.c_operands.specs.Operands.{Operand, value, object, structure, OperandNode, used, function_node, name_node, member_node, assign_operand, arguments_in, extra_arguments, given_size, given_operand, behind_extra, function_call, drawn_or_called, callable_call, call_node}
use Rattle.c_elab_expr.specs.Typing.{bare_line, used_on, callee, is_used, called, is_wanted, type_name, operand_size, bound, typed, typed_arguments, lengths, suffix_lengths, operand_by}
use Rattle.c_elab_base.proofs.Signatures.{is_given, closed_gives, closed_type, closed, closed_scope}

-- what the one gives, the other gives too
abbrev pub Keeps : {A E : Type 0} → Result A E → Result A E → Type 0
Keeps {A} r q = (x : A) → r ≡ Ok x → q ≡ Ok x

keep_bind : {A B E : Type 0} (r q : Result A E) (f g : A → Result B E) → Keeps r q → ((x : A) → Keeps (f x) (g x)) → Keeps (r >>= f) (q >>= g)
keep_bind {A} {B} {E} (Ok x) q f g h k = λ y e. ap (λ (z : Result A E). z >>= g) (h x refl) ∙ k x y e
keep_bind (Err e) q f g h k = λ y same. let none : ⊥ = cc in absurd none

keep_same : {A E : Type 0} (r : Result A E) → Keeps r r
keep_same r = λ x e. e

keep_equal : {A E : Type 0} (r q : Result A E) → r ≡ q → Keeps r q
keep_equal r q h = λ x e. sym h ∙ e

keep_line : {A : Type 0} (line : ℕ) (r q : Result A ℕ) → Keeps r q → Keeps (on_line line r) (on_line line q)
keep_line {A} line (Ok y) q h = λ x e. ap (on_line line) (h y refl) ∙ e
keep_line line (Err rule) q h = λ x e. let none : ⊥ = cc in absurd none

keep_err : {A E : Type 0} (e : E) (q : Result A E) → Keeps (Err e) q
keep_err e q = λ x same. let none : ⊥ = cc in absurd none

-- ---- calls

not_given : (done : List Completed) (t : CType) → is_given done t ≡ false → given_size done t ≡ Err 3
not_given done ctypes.void h = let none : ⊥ = cc in absurd none
not_given done (ctypes.integer t) h = let none : ⊥ = cc in absurd none
not_given done (ctypes.aggregate p) h = rw h refl
not_given done (ctypes.array e n) h = rw h refl
not_given done (ctypes.pointer t c) h = let none : ⊥ = cc in absurd none
not_given done (ctypes.function f) h = refl

abbrev behind_size : List Completed → (line f : ℕ) → Bool → FunctionType → List Operand → Result ℕ ℕ → OperandNode
behind_size done line f wanted t xs r = do
  size ← r
  args ← arguments_in done t.parameters xs
  es ← extra_arguments t.ellipsis args.1
  Ok (behind_extra done line es (given_operand done line f wanted t.gives.type args.0))

keep_refused : {A E : Type 0} (e : E) (r q : Result A E) → r ≡ Err e → Keeps r q
keep_refused {A} e r q is = subst (λ (z : Result A _). Keeps z q) (sym is) (keep_err e q)

call_keeps : (done : List Completed) (line f : ℕ) (wanted : Bool) (t : FunctionType) (xs : List Operand) → Keeps (function_call done line f wanted t xs) (function_call done line f wanted (closed_type done t) xs)
call_keeps done line f wanted t xs = by (is_given done t.gives.type) refl where
  by : (b : Bool) → is_given done t.gives.type ≡ b
      → Keeps (function_call done line f wanted t xs) (function_call done line f wanted (record t { gives = record t.gives { type = closed_gives b t.gives.type } }) xs)
  by true e = keep_same (function_call done line f wanted t xs)
  by false e = keep_refused 3 (function_call done line f wanted t xs) _ (ap (behind_size done line f wanted t xs) (not_given done t.gives.type e))

drawn_keeps : (done : List Completed) (line f : ℕ) (wanted : Bool) (o : Option IntegerType) (t : FunctionType) (xs : List Operand)
    → Keeps (drawn_or_called done line f wanted o t xs) (drawn_or_called done line f wanted o (closed_type done t) xs)
drawn_keeps done line f wanted None t xs = call_keeps done line f wanted t xs
drawn_keeps done line f wanted (Some u) t xs = keep_same _

callable_keeps : (done : List Completed) (line f : ℕ) (wanted : Bool) (o : Option Callable) (xs : List Operand)
    → Keeps (callable_call done line f wanted o xs) (callable_call done line f wanted (option_map (closed done) o) xs)
callable_keeps done line f wanted None xs = keep_same _
callable_keeps done line f wanted (Some c) xs = drawn_keeps done line f wanted c.draws c.type xs

get_closed : (done : List Completed) (all : List Callable) (k : ℕ) → slice_get (map (closed done) all) k ≡ option_map (closed done) (slice_get all k)
get_closed done [] k = refl
get_closed done (c ∷ all) zero = refl
get_closed done (c ∷ all) (suc k) = get_closed done all k

module _ (s : Scoped) where
  node_keeps : (line : ℕ) (wanted : Bool) (m : Meaning) (xs : List Operand) → Keeps (call_node s line wanted m xs) (call_node (closed_scope s) line wanted m xs)
  node_keeps line wanted (Variable v) xs = keep_same _
  node_keeps line wanted (Object k) xs = keep_same _
  node_keeps line wanted Incomplete xs = keep_same _
  node_keeps line wanted Assert xs = keep_same _
  node_keeps line wanted Assume xs = keep_same _
  node_keeps line wanted (Draw t) xs = keep_same _
  node_keeps line wanted (BuiltIn b) xs = keep_same _
  node_keeps line wanted (Function f) xs =
      subst (λ (o : Option Callable). Keeps (call_node s line wanted (Function f) xs) (callable_call s.records.done line f wanted o xs)) (sym (get_closed s.records.done s.functions.all f))
      (callable_keeps s.records.done line f wanted (slice_get s.functions.all f) xs)
  node_keeps line wanted (Typedef n) xs = keep_same _
  node_keeps line wanted (Enumerator bits) xs = keep_same _
  node_keeps line wanted (Record p) xs = keep_same _
  node_keeps line wanted Enumeration xs = keep_same _

  called_keeps : (wanted : Bool) (m : Option (ℕ × Meaning)) (xs : List Operand) → Keeps (called s wanted m xs) (called (closed_scope s) wanted m xs)
  called_keeps wanted None xs = keep_same _
  called_keeps wanted (Some m) xs = node_keeps m.0 wanted m.1 xs

  -- ---- names

  function_keeps : (line f : ℕ) (o : Option Callable) → Keeps (function_node line f o) (function_node line f (option_map (closed s.records.done) o))
  function_keeps line f None = keep_same _
  function_keeps line f (Some c) = keep_same _

  name_keeps : (line : ℕ) (m : Option Meaning) → Keeps (name_node s line m) (name_node (closed_scope s) line m)
  name_keeps line None = keep_same _
  name_keeps line (Some (Variable v)) = keep_same _
  name_keeps line (Some (Object k)) = keep_same _
  name_keeps line (Some Incomplete) = keep_same _
  name_keeps line (Some Assert) = keep_same _
  name_keeps line (Some Assume) = keep_same _
  name_keeps line (Some (Draw t)) = keep_same _
  name_keeps line (Some (BuiltIn b)) = keep_same _
  name_keeps line (Some (Function f)) =
      subst (λ (o : Option Callable). Keeps (name_node s line (Some (Function f))) (function_node line f o)) (sym (get_closed s.records.done s.functions.all f)) (function_keeps line f (slice_get s.functions.all f))
  name_keeps line (Some (Typedef n)) = keep_same _
  name_keeps line (Some (Enumerator bits)) = keep_same _
  name_keeps line (Some (Record p)) = keep_same _
  name_keeps line (Some Enumeration) = keep_same _

  -- ---- parts of expressions

  part_same : (said : Said) (p : TypePart) → with_part (closed_scope s) said p ≡ with_part s said p
  part_same said (qualified line q) = refl
  part_same said (word line w) = refl
  part_same said (tagged line kind n) = refl
  part_same said (typedef_name line n) = refl

  parts_same : (said : Said) (ps : List TypePart) → with_parts (closed_scope s) said ps ≡ with_parts s said ps
  parts_same said [] = refl
  parts_same said (p ∷ ps) = parts_same (with_part (closed_scope s) said p) ps ∙ ap (λ (x : Said). with_parts s x ps) (part_same said p)

  member_keeps : (line : ℕ) (x : Operand) (n : List ℕ) → Keeps (member_node s line x n) (member_node (closed_scope s) line x n)
  member_keeps line (value e k) n = keep_same _
  member_keeps line (object at v offset t k) n = keep_same _
  member_keeps line (structure t a) n = keep_same _

  assign_keeps : (line : ℕ) (op : Option _) (x y : Operand) → Keeps (assign_operand s line op x y) (assign_operand (closed_scope s) line op x y)
  assign_keeps line op (value e k) y = keep_same _
  assign_keeps line None (object at v offset t k) y = keep_same _
  assign_keeps line None (structure t a) y = keep_same _
  assign_keeps line (Some op) (object at v offset t k) y = keep_same _
  assign_keeps line (Some op) (structure t a) y = keep_same _

  type_name_keeps : (ps : List TypePart) (d : Declared) (r q : Result (List (Option ℕ)) Fault) → Keeps r q → Keeps (type_name s ps d r) (type_name (closed_scope s) ps d q)
  type_name_keeps ps d r q h =
      keep_bind (on_line (parts_line ps) (specified_type (with_parts s nothing_specified ps))) (on_line (parts_line ps) (specified_type (with_parts (closed_scope s) nothing_specified ps))) _ _
      (keep_equal _ _ (ap (λ (x : Said). on_line (parts_line ps) (specified_type x)) (sym (parts_same nothing_specified ps)))) (λ t.
      keep_bind r q _ _ h (λ ns. keep_same (on_line (declared_line d) (array_of s.records.done t.type ns))))

  used_keeps : (m w : Bool) (line : ℕ) (r q : Result Operand Fault) → Keeps r q → Keeps (used_on m w line r) (used_on m w line q)
  used_keeps m w line r q h = keep_bind r q _ _ h (λ x. keep_same (on_line line (used m w x)))

  size_keeps : (line : ℕ) (o : Option (List (List ℕ))) (r q : Result Operand Fault) → Keeps r q → Keeps (operand_size line s.records.done o r) (operand_size line s.records.done o q)
  size_keeps line (Some parts) r q h = keep_same _
  size_keeps line None r q h = keep_bind r q _ _ h (λ x. keep_same _)

  bound_keeps : (line : ℕ) (r q : Result Operand Fault) → Keeps r q → Keeps (bound line r) (bound line q)
  bound_keeps line r q h = keep_bind r q _ _ h (λ x. keep_same _)

  callee_keeps : (f : Tree) (r q : Result Operand Fault) → Keeps r q → Keeps (callee s f r) (callee (closed_scope s) f q)
  callee_keeps (name line n) r q h = keep_same _
  callee_keeps (parens line e) r q h = callee_keeps e r q h
  callee_keeps _ r q h = keep_bind r q _ _ h (λ x. keep_same _)

  mutual
    typed_keeps : (m w : Bool) (t : Tree) → Keeps (typed s m w t) (typed (closed_scope s) m w t)
    typed_keeps m w (constant line c) = keep_same _
    typed_keeps m w (character line bits) = keep_same _
    typed_keeps m w (strings line parts) = keep_same _
    typed_keeps m w (name line n) = keep_line line _ _ (name_keeps line (meaning_of s.bindings n))
    typed_keeps m w (parens line e) = typed_keeps m w e
    typed_keeps m w (unary line op e) = keep_bind _ _ _ _ (used_keeps m true (bare_line e) (typed s m true e) (typed (closed_scope s) m true e) (typed_keeps m true e)) (λ x. keep_same _)
    typed_keeps m w (address line e) = keep_same _
    typed_keeps m w (dereference line e) = keep_same _
    typed_keeps m w (cast line parts d e) =
        keep_bind _ _ _ _ (type_name_keeps parts d (lengths s m d) (lengths (closed_scope s) m d) (lengths_keep m d)) (λ t.
        keep_bind _ _ _ _ (used_keeps m (is_wanted t) (bare_line e) (typed s m (is_wanted t) e) (typed (closed_scope s) m (is_wanted t) e) (typed_keeps m (is_wanted t) e)) (λ x. keep_same _))
    typed_keeps m w (sizeof_expr line e) = size_keeps line (strings_of e) (typed s true true e) (typed (closed_scope s) true true e) (typed_keeps true true e)
    typed_keeps m w (sizeof_type line parts d) =
        keep_bind _ _ _ _ (type_name_keeps parts d (lengths s true d) (lengths (closed_scope s) true d) (lengths_keep true d)) (λ t. keep_same _)
    typed_keeps m w (step line op e) = keep_bind _ _ _ _ (used_keeps m true (bare_line e) (typed s m true e) (typed (closed_scope s) m true e) (typed_keeps m true e)) (λ x. keep_same _)
    typed_keeps m w (member line e n) =
        keep_bind _ _ _ _ (used_keeps m true (bare_line e) (typed s m true e) (typed (closed_scope s) m true e) (typed_keeps m true e)) (λ x. keep_line (first_line e) _ _ (member_keeps line x n))
    typed_keeps m w (arrow line e n) = keep_same _
    typed_keeps m w (subscript line a b) = keep_same _
    typed_keeps m w (binary line op a b) =
        keep_bind _ _ _ _ (used_keeps m true (bare_line a) (typed s m true a) (typed (closed_scope s) m true a) (typed_keeps m true a)) (λ x.
        keep_bind _ _ _ _ (used_keeps m true (bare_line b) (typed s m true b) (typed (closed_scope s) m true b) (typed_keeps m true b)) (λ y. keep_same _))
    typed_keeps m w (choice line test a b) =
        keep_bind _ _ _ _ (used_keeps m true (bare_line test) (typed s m true test) (typed (closed_scope s) m true test) (typed_keeps m true test)) (λ x.
        keep_bind _ _ _ _ (used_keeps m w (bare_line a) (typed s m w a) (typed (closed_scope s) m w a) (typed_keeps m w a)) (λ y.
        keep_bind _ _ _ _ (used_keeps m w (bare_line b) (typed s m w b) (typed (closed_scope s) m w b) (typed_keeps m w b)) (λ z. keep_same _)))
    typed_keeps m w (assign line op a b) =
        keep_bind _ _ _ _ (used_keeps m true (bare_line a) (typed s m true a) (typed (closed_scope s) m true a) (typed_keeps m true a)) (λ x.
        keep_bind _ _ _ _ (used_keeps m true (bare_line b) (typed s m true b) (typed (closed_scope s) m true b) (typed_keeps m true b)) (λ y. keep_line (first_line a) _ _ (assign_keeps line op x y)))
    typed_keeps m w (comma line a b) =
        keep_bind _ _ _ _ (used_keeps m false (bare_line a) (typed s m false a) (typed (closed_scope s) m false a) (typed_keeps m false a)) (λ x.
        keep_bind _ _ _ _ (used_keeps m w (bare_line b) (typed s m w b) (typed (closed_scope s) m w b) (typed_keeps m w b)) (λ y. keep_same _))
    typed_keeps m w (call f args) =
        keep_bind _ _ _ _ (callee_keeps f _ _ (used_keeps m true (bare_line f) (typed s m true f) (typed (closed_scope s) m true f) (typed_keeps m true f))) (λ meaning.
        keep_bind _ _ _ _ (arguments_keep m args) (λ xs. keep_line (first_line f) _ _ (called_keeps (is_used f w) meaning xs)))

    arguments_keep : (m : Bool) (ts : Trees) → Keeps (typed_arguments s m ts) (typed_arguments (closed_scope s) m ts)
    arguments_keep m none = keep_same _
    arguments_keep m (more first rest) =
        keep_bind _ _ _ _ (used_keeps m true (bare_line first) (typed s m true first) (typed (closed_scope s) m true first) (typed_keeps m true first)) (λ x.
        keep_bind _ _ _ _ (arguments_keep m rest) (λ xs. keep_same _))

    lengths_keep : (m : Bool) (d : Declared) → Keeps (lengths s m d) (lengths (closed_scope s) m d)
    lengths_keep m (unnamed suffixes) = suffixes_keep m suffixes
    lengths_keep m (named line n suffixes) = suffixes_keep m suffixes
    lengths_keep m (inside line d suffixes) = keep_bind _ _ _ _ (lengths_keep m d) (λ inner. keep_bind _ _ _ _ (suffixes_keep m suffixes) (λ outer. keep_same _))
    lengths_keep m (pointing line qs d) = keep_same _

    suffixes_keep : (m : Bool) (x : Suffixes) → Keeps (suffix_lengths s m x) (suffix_lengths (closed_scope s) m x)
    suffixes_keep m no_suffix = keep_same _
    suffixes_keep m (bounded line e rest) =
        keep_bind _ _ _ _ (bound_keeps (first_line e) _ _ (used_keeps m true (bare_line e) (typed s m true e) (typed (closed_scope s) m true e) (typed_keeps m true e))) (λ n.
        keep_bind _ _ _ _ (suffixes_keep m rest) (λ ns. keep_same _))
    suffixes_keep m (unbounded line rest) = keep_bind _ _ _ _ (suffixes_keep m rest) (λ ns. keep_same _)

  pub operand_keeps : (w : Bool) (e : Tree) → Keeps (operand_by s w e) (operand_by (closed_scope s) w e)
  operand_keeps w e = used_keeps false w (bare_line e) (typed s false w e) (typed (closed_scope s) false w e) (typed_keeps false w e)
