-- How far a function is typed is of no matter to an expression.
use Rattle.std.proofs.Common.{◌≡◌, Bool, true, false, Result, Ok, Err, refl, ap, ◌∙◌}
use Rattle.c_tree.specs.Tree.{Tree, Trees, Declared, Suffixes, unnamed, named, inside, pointing, no_suffix, bounded, unbounded, constant, character, strings, name, parens, unary, cast, sizeof_expr, sizeof_type, step, member, binary, choice, assign, comma, call, address, dereference, arrow, subscript, none, more}
use Rattle.c_scope.specs.Scopes.{Flow, Scoped}
use Rattle.c_scope.specs.Faults.{◌>>=◌, Fault, on_line}
use Rattle.c_operands.specs.Operands.{Operand, cast_operand}
use Rattle.c_elab_expr.specs.Typing.{bare_line, used_on, type_name, is_wanted, typed, typed_arguments, lengths, suffix_lengths, operand_by}

bind_same : {A B : Type 0} (r q : Result A Fault) (g h : A → Result B Fault) → r ≡ q → ((x : A) → g x ≡ h x) → (r >>= g) ≡ (q >>= h)
bind_same {A} {B} r q g h e same = ap (λ (x : Result A Fault). x >>= g) e ∙ by q where
  by : (x : Result A Fault) → (x >>= g) ≡ (x >>= h)
  by (Ok x) = same x
  by (Err f) = refl

mutual
  typed_flow : (s : Scoped) (f : Flow) (m w : Bool) (e : Tree) → typed (record s { flow = f }) m w e ≡ typed s m w e
  typed_flow s f m w (constant line c) = refl
  typed_flow s f m w (character line bits) = refl
  typed_flow s f m w (strings line parts) = refl
  typed_flow s f m w (name line n) = refl
  typed_flow s f m w (parens line e) = typed_flow s f m w e
  typed_flow s f m w (unary line op e) = rw (typed_flow s f m true e) refl
  typed_flow s f m w (address line e) = refl
  typed_flow s f m w (dereference line e) = refl
  typed_flow s f m w (cast line ps d e) =
      bind_same (type_name (record s { flow = f }) ps d (lengths (record s { flow = f }) m d)) (type_name s ps d (lengths s m d)) _ _ (ap (type_name s ps d) (lengths_flow s f m d)) (λ t.
      ap (λ (r : Result Operand Fault). used_on m (is_wanted t) (bare_line e) r >>= λ x. on_line line (cast_operand s.records.done line t x)) (typed_flow s f m (is_wanted t) e))
  typed_flow s f m w (sizeof_expr line e) = rw (typed_flow s f true true e) refl
  typed_flow s f m w (sizeof_type line ps d) = rw (lengths_flow s f true d) refl
  typed_flow s f m w (step line op e) = rw (typed_flow s f m true e) refl
  typed_flow s f m w (member line e n) = rw (typed_flow s f m true e) refl
  typed_flow s f m w (arrow line e n) = refl
  typed_flow s f m w (subscript line a b) = refl
  typed_flow s f m w (binary line op a b) = rw (typed_flow s f m true a, typed_flow s f m true b) refl
  typed_flow s f m w (choice line test a b) = rw (typed_flow s f m true test, typed_flow s f m w a, typed_flow s f m w b) refl
  typed_flow s f m w (assign line op a b) = rw (typed_flow s f m true a, typed_flow s f m true b) refl
  typed_flow s f m w (comma line a b) = rw (typed_flow s f m false a, typed_flow s f m w b) refl
  typed_flow s f m w (call e es) = rw (typed_flow s f m true e, arguments_flow s f m es) refl

  arguments_flow : (s : Scoped) (f : Flow) (m : Bool) (es : Trees) → typed_arguments (record s { flow = f }) m es ≡ typed_arguments s m es
  arguments_flow s f m none = refl
  arguments_flow s f m (more first rest) = rw (typed_flow s f m true first, arguments_flow s f m rest) refl

  lengths_flow : (s : Scoped) (f : Flow) (m : Bool) (d : Declared) → lengths (record s { flow = f }) m d ≡ lengths s m d
  lengths_flow s f m (unnamed suffixes) = suffixes_flow s f m suffixes
  lengths_flow s f m (named line n suffixes) = suffixes_flow s f m suffixes
  lengths_flow s f m (inside line d suffixes) = rw (lengths_flow s f m d, suffixes_flow s f m suffixes) refl
  lengths_flow s f m (pointing line qs d) = refl

  suffixes_flow : (s : Scoped) (f : Flow) (m : Bool) (x : Suffixes) → suffix_lengths (record s { flow = f }) m x ≡ suffix_lengths s m x
  suffixes_flow s f m no_suffix = refl
  suffixes_flow s f m (bounded line e rest) = rw (typed_flow s f m true e, suffixes_flow s f m rest) refl
  suffixes_flow s f m (unbounded line rest) = rw (suffixes_flow s f m rest) refl

pub operand_flow : (s : Scoped) (f : Flow) (w : Bool) (e : Tree) → operand_by (record s { flow = f }) w e ≡ operand_by s w e
operand_flow s f w e = ap (used_on false w (bare_line e)) (typed_flow s f false w e)
