-- The typed operand of an expression, or the first broken rule: parts come before the node, from left to right, so it is the node
-- whose last token comes first among those that break a rule and whose parts are all typed (C11 6.5).
use Rattle.std.specs.Prelude.{◌≡◌, ℕ, ◌+◌, ◌++◌, ◌&&◌, Bool, true, false, not, codes, List, [], ◌∷◌, Option, Some, None, Result, Ok, Err}
use Rattle.std.specs.Str.{bytes_eq}
use Rattle.c_tree.specs.Tree.{TypePart, Tree, Trees, Declared, Suffixes, unnamed, named, inside, no_suffix, bounded, unbounded, constant, character, strings, name, parens, unary, cast, sizeof_expr, sizeof_type, step, member, binary, choice, assign, comma, call, none, more, first_line, address, dereference, arrow, subscript, pointing}
use Rattle.c_scope.specs.declared.meaning.Meaning.{Meaning}
use Rattle.c_scope.specs.declared.fault.TypingError.{TypingError}
use Rattle.c_scope.specs.declared.fault.TypingError.TheVariants as errors
use Rattle.c_types.specs.Types.{CType, Completed}
use Rattle.c_types.specs.Types as ctypes
use Rattle.c_scope.specs.Scopes.{Scoped, meaning_of}
use Rattle.c_scope.specs.Types.{nothing_specified, with_parts, specified_type, parts_line, declared_line, array_of, type_size}
use Rattle.c_operands.specs.Constants.{stated_length}
use Rattle.c_elab_expr.specs.Strings.{strings_of, strings_length}
use Rattle.c_scope.specs.Faults.{◌>>=◌, required, Fault, fault, on_line, Fails}
use Rattle.c_operands.specs.Nodes.{constant_node, character_node, size_node}
use Rattle.c_operands.specs.Operands.{Operand, value, OperandNode, used, name_node, member_node, operand_bytes, sized_operand, constant_in, cast_operand, unary_operand, postfix_operand, binary_operand, choice_operand, assign_operand, comma_operand, call_node}
use Rattle.c_tree.specs.declared.expr.PointerMark.{PointerMark}

-- the line of an expression's first token without the parentheses around it
abbrev pub bare_line : Tree → ℕ
bare_line (parens line e) = bare_line e
bare_line e = first_line e

-- what an expression that begins on this line is where its value is wanted or not, within the operand of a `sizeof` or not
abbrev pub used_on : (measured wanted : Bool) → ℕ → Result Operand Fault → Result Operand Fault
used_on measured wanted line typing = typing >>= λ x. on_line line (used measured wanted x)

-- what a node on this line makes of a typed operand
abbrev pub node_on : ℕ → (Operand → OperandNode) → Result Operand Fault → Result Operand Fault
node_on line node typing = typing >>= λ x. on_line line (node x)

-- two typed operands, the left one first
abbrev pub both : Result Operand Fault → Result Operand Fault → Result (Operand × Operand) Fault
both left right = left >>= λ x. right >>= λ y. Ok (x, y)

-- what a node on this line makes of them
abbrev pub node_on_both : ℕ → (Operand → Operand → OperandNode) → Result Operand Fault → Result Operand Fault → Result Operand Fault
node_on_both line node left right = left >>= λ x. right >>= λ y. on_line line (node x y)

-- what a comma makes of them
abbrev pub comma_of : List Completed → ℕ → Result Operand Fault → Result Operand Fault → Result Operand Fault
comma_of done line left right = left >>= λ x. right >>= λ y. Ok (comma_operand done line x y)

abbrev pub no_function : Result Operand Fault → Result (Option (ℕ × Meaning)) Fault
no_function typing = typing >>= λ x. Ok None

-- What a callee means, with the line of its name, also in parentheses: any other tree is typed, and is no function.
abbrev pub callee : Scoped → Tree → Result Operand Fault → Result (Option (ℕ × Meaning)) Fault
callee s (name line n) typed_callee = on_line line (required 1 (meaning_of s.bindings n)) >>= λ m. Ok (Some (line, m))
callee s (parens line e) typed_callee = callee s e typed_callee
callee s _ typed_callee = no_function typed_callee

-- the callee is the name `main`, also in parentheses
abbrev pub is_main : Tree → Bool
is_main (name line n) = bytes_eq n (codes "main")
is_main (parens line e) = is_main e
is_main _ = false

-- Whether a call uses what the function hands over: where the value is wanted, but for `main`, whose end gives 0 (C11 5.1.2.2.3).
abbrev pub is_used : Tree → Bool → Bool
is_used f wanted = wanted && not (is_main f)

abbrev pub called : Scoped → Bool → Option (ℕ × Meaning) → List Operand → OperandNode
called s wanted None arguments = Err 10
called s wanted (Some m) arguments = call_node s m.0 wanted m.1 arguments

-- what a call of a callee makes of typed arguments
abbrev pub call_of : Scoped → Tree → Bool → Option (ℕ × Meaning) → Result (List Operand) Fault → Result Operand Fault
call_of s f wanted m typing = typing >>= λ xs. on_line (first_line f) (called s (is_used f wanted) m xs)

-- a cast to void doesn't use the value
abbrev pub is_wanted : CType → Bool
is_wanted ctypes.void = false
is_wanted (ctypes.integer t) = true
is_wanted (ctypes.aggregate p) = true
is_wanted (ctypes.array element n) = true
is_wanted (ctypes.pointer t c) = true
is_wanted (ctypes.function f) = true

-- The type of a type name, whose specifiers are a node and whose declarator, with these typed bounds, is the next.
abbrev pub type_name : Scoped → List TypePart → Declared → Result (List (Option ℕ)) Fault → Result CType Fault
type_name s parts d bounds = do
  t ← on_line (parts_line parts) (specified_type (with_parts s nothing_specified parts))
  ns ← bounds
  on_line (declared_line d) (array_of s.records.done t.type ns)

abbrev pub sized : ℕ → ℕ → Operand
sized line n = value (size_node line n) false

-- the size of a type
abbrev pub size_of_named : ℕ → List Completed → Result CType Fault → Result Operand Fault
size_of_named line done typing = typing >>= λ t. on_line line (type_size done t) >>= λ n. Ok (sized line n)

-- The size of a string counts the zero behind it. Another operand has a typing, and stays in the tree, but isn't evaluated.
abbrev pub operand_size : ℕ → List Completed → Option (List (List ℕ)) → Result Operand Fault → Result Operand Fault
operand_size line done (Some parts) typed_operand = Ok (sized line (strings_length parts + 1))
operand_size line done None typed_operand = do
  x ← typed_operand
  n ← on_line line (operand_bytes done x)
  Ok (sized_operand done line n x)

-- rule 13: a bound is an integer constant expression, and says how many elements
abbrev pub bound : ℕ → Result Operand Fault → Result ℕ Fault
bound line typed_bound = do
  x ← typed_bound
  n ← on_line line (required 13 (constant_in x))
  Ok (stated_length n)

abbrev mutual
  -- an expression, also as the operand of `sizeof`, or within that operand, whose value is wanted or not
  pub typed : Scoped → (measured wanted : Bool) → Tree → Result Operand Fault
  typed s m w (constant line c) = Ok (value (constant_node line c) false)
  typed s m w (character line bits) = Ok (value (character_node line bits) false)
  typed s m w (strings line parts) = Err (fault line 7)
  typed s m w (name line n) = on_line line (name_node s line (meaning_of s.bindings n))
  typed s m w (parens line e) = typed s m w e
  typed s m w (unary line op e) = do
    x ← used_on m true (bare_line e) (typed s m true e)
    on_line line (unary_operand line op x)
  typed s m w (address line e) = Err (fault line 7)
  typed s m w (dereference line e) = Err (fault line 7)
  typed s m w (cast line parts d e) = do
    t ← type_name s parts d (lengths s m d)
    x ← used_on m (is_wanted t) (bare_line e) (typed s m (is_wanted t) e)
    on_line line (cast_operand s.records.done line t x)
  typed s m w (sizeof_expr line e) = operand_size line s.records.done (strings_of e) (typed s true true e)
  typed s m w (sizeof_type line parts d) = do
    t ← type_name s parts d (lengths s true d)
    n ← on_line line (type_size s.records.done t)
    Ok (sized line n)
  typed s m w (step line op e) = do
    x ← used_on m true (bare_line e) (typed s m true e)
    on_line (first_line e) (postfix_operand line op x)
  typed s m w (member line e n) = do
    x ← used_on m true (bare_line e) (typed s m true e)
    on_line (first_line e) (member_node s line x n)
  typed s m w (arrow line e n) = Err (fault line 7)
  typed s m w (subscript line a b) = Err (fault line 7)
  typed s m w (binary line op a b) = do
    x ← used_on m true (bare_line a) (typed s m true a)
    y ← used_on m true (bare_line b) (typed s m true b)
    on_line (first_line a) (binary_operand line op x y)
  typed s m w (choice line test a b) = do
    x ← used_on m true (bare_line test) (typed s m true test)
    y ← used_on m w (bare_line a) (typed s m w a)
    z ← used_on m w (bare_line b) (typed s m w b)
    on_line (first_line test) (choice_operand s.records.done line x y z)
  typed s m w (assign line op a b) = do
    x ← used_on m true (bare_line a) (typed s m true a)
    y ← used_on m true (bare_line b) (typed s m true b)
    on_line (first_line a) (assign_operand s line op x y)
  typed s m w (comma line a b) = do
    x ← used_on m false (bare_line a) (typed s m false a)
    y ← used_on m w (bare_line b) (typed s m w b)
    Ok (comma_operand s.records.done line x y)
  typed s m w (call f arguments) = do
    meaning ← callee s f (used_on m true (bare_line f) (typed s m true f))
    xs ← typed_arguments s m arguments
    on_line (first_line f) (called s (is_used f w) meaning xs)

  pub typed_arguments : Scoped → Bool → Trees → Result (List Operand) Fault
  typed_arguments s m none = Ok []
  typed_arguments s m (more first rest) = do
    x ← used_on m true (bare_line first) (typed s m true first)
    xs ← typed_arguments s m rest
    Ok (x ∷ xs)

  -- The lengths of a declarator's arrays, the outermost first, of which `[]` has none: a declarator in parentheses before the
  -- suffixes behind it.
  pub lengths : Scoped → Bool → Declared → Result (List (Option ℕ)) Fault
  lengths s m (unnamed suffixes) = suffix_lengths s m suffixes
  lengths s m (named line n suffixes) = suffix_lengths s m suffixes
  lengths s m (inside line d suffixes) = do
    inner ← lengths s m d
    outer ← suffix_lengths s m suffixes
    Ok (inner ++ outer)
  lengths s m (pointing line qs d) = Err (fault line 7)

  pub suffix_lengths : Scoped → Bool → Suffixes → Result (List (Option ℕ)) Fault
  suffix_lengths s m no_suffix = Ok []
  suffix_lengths s m (bounded line e rest) = do
    n ← bound (first_line e) (used_on m true (bare_line e) (typed s m true e))
    ns ← suffix_lengths s m rest
    Ok (Some n ∷ ns)
  suffix_lengths s m (unbounded line rest) = do
    ns ← suffix_lengths s m rest
    Ok (None ∷ ns)

-- an expression that isn't itself the operand of a `sizeof`
abbrev pub operand_in : Scoped → (measured wanted : Bool) → Tree → Result Operand Fault
operand_in s m w e = used_on m w (bare_line e) (typed s m w e)

-- one that doesn't stand within such an operand, whose value is wanted or not
abbrev pub operand_by : Scoped → Bool → Tree → Result Operand Fault
operand_by s w e = operand_in s false w e

abbrev pub operand : Scoped → Tree → Result Operand Fault
operand s e = operand_by s true e

-- lengths behind others
abbrev pub behind : List (Option ℕ) → Result (List (Option ℕ)) Fault → Result (List (Option ℕ)) Fault
behind before typing = typing >>= λ ns. Ok (before ++ ns)

-- with the lengths found before and those found by now
abbrev pub Adds : Result (Unit {0}) TypingError → List (Option ℕ) → List (Option ℕ) → Result (List (Option ℕ)) Fault → Type 0
Adds (Ok u) before now typing = behind before typing ≡ Ok now
Adds (Err e) before now typing = Fails e typing

-- rule 7: the first of pointers is refused, on its line
abbrev pub RefusesFirst : TypingError → List PointerMark → Type 0
RefusesFirst e [] = ⊥
RefusesFirst e (p ∷ ps) = e ≡ errors.Typing p.line 7
