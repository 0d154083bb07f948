-- What a suffix can't go on with.
use Rattle.std.proofs.Common.{◌≡◌, ◌≤◌, ◌<◌, ◌+◌, ℕ, Bool, true, false, ◌&&◌, ◌||◌, refl, ap, arith}
use Rattle.std.specs.Prelude.{nat_le}
use Rattle.std.proofs.lemmas.Bool.{lt-leb}
use Rattle.c_tree.specs.declared.expr.BinaryOp.{BinaryOp}
use Rattle.c_tree.specs.declared.expr.BinaryOp.TheVariants as binaries
use Rattle.c_tree.specs.declared.expr.UnaryOp.{UnaryOp}
use Rattle.c_tree.specs.declared.expr.UnaryOp.TheVariants as unaries
use Rattle.c_tree.specs.Tree.{Tree, Declared, unnamed, named, inside, pointing, no_suffix, bounded, unbounded, constant, character, strings, name, parens, unary, address, dereference, cast, sizeof_expr, sizeof_type, step, member, arrow, subscript, binary, choice, assign, comma, call, depth, declared_depth}
use Rattle.c_tree.specs.Names.{Scope}
use Rattle.c_tree.specs.Tables.{strength_of, operand_level, level_of}
use Rattle.c_tree.specs.Spelling.{IsWell, is_empty}
use Rattle.c_parse_expr.specs.declared.table.Suffix.{Suffix}
use Rattle.c_parse_expr.specs.declared.table.Suffix.TheVariants as suffixes
use Rattle.c_parse_expr.specs.Tables.{strength_behind, least_left}
use Rattle.c_parse_expr.specs.Reading.{goes_on}
use Rattle.c_parse_expr.specs.Standing.{is_another, goes_on_inside}

pub at_least_four : (op : BinaryOp) → 4 ≤ strength_of op
at_least_four binaries.LogicalOr = omega arith
at_least_four binaries.LogicalAnd = omega arith
at_least_four binaries.Or = omega arith
at_least_four binaries.Xor = omega arith
at_least_four binaries.And = omega arith
at_least_four binaries.Equal = omega arith
at_least_four binaries.NotEqual = omega arith
at_least_four binaries.Less = omega arith
at_least_four binaries.Greater = omega arith
at_least_four binaries.LessEqual = omega arith
at_least_four binaries.GreaterEqual = omega arith
at_least_four binaries.ShiftLeft = omega arith
at_least_four binaries.ShiftRight = omega arith
at_least_four binaries.Add = omega arith
at_least_four binaries.Subtract = omega arith
at_least_four binaries.Multiply = omega arith
at_least_four binaries.Divide = omega arith
at_least_four binaries.Remainder = omega arith

pub at_most_thirteen : (op : BinaryOp) → strength_of op ≤ 13
at_most_thirteen binaries.LogicalOr = omega arith
at_most_thirteen binaries.LogicalAnd = omega arith
at_most_thirteen binaries.Or = omega arith
at_most_thirteen binaries.Xor = omega arith
at_most_thirteen binaries.And = omega arith
at_most_thirteen binaries.Equal = omega arith
at_most_thirteen binaries.NotEqual = omega arith
at_most_thirteen binaries.Less = omega arith
at_most_thirteen binaries.Greater = omega arith
at_most_thirteen binaries.LessEqual = omega arith
at_most_thirteen binaries.GreaterEqual = omega arith
at_most_thirteen binaries.ShiftLeft = omega arith
at_most_thirteen binaries.ShiftRight = omega arith
at_most_thirteen binaries.Add = omega arith
at_most_thirteen binaries.Subtract = omega arith
at_most_thirteen binaries.Multiply = omega arith
at_most_thirteen binaries.Divide = omega arith
at_most_thirteen binaries.Remainder = omega arith

pub operand_low : (op : UnaryOp) → operand_level op ≤ 15
operand_low unaries.Increment = omega arith
operand_low unaries.Decrement = omega arith
operand_low unaries.Plus = omega arith
operand_low unaries.Minus = omega arith
operand_low unaries.Complement = omega arith
operand_low unaries.Not = omega arith

pub operand_high : (op : UnaryOp) → 14 ≤ operand_level op
operand_high unaries.Increment = omega arith
operand_high unaries.Decrement = omega arith
operand_high unaries.Plus = omega arith
operand_high unaries.Minus = omega arith
operand_high unaries.Complement = omega arith
operand_high unaries.Not = omega arith

-- a suffix makes no node of a higher level than its left operand
strength_below : (s : Suffix) → strength_behind s ≤ least_left s
strength_below (suffixes.Operator op) = omega arith
strength_below (suffixes.Becomes op) = omega arith
strength_below suffixes.Choice = omega arith
strength_below suffixes.Then = omega arith
strength_below (suffixes.Step op) = omega arith
strength_below suffixes.Arguments = omega arith
strength_below suffixes.Member = omega arith
strength_below suffixes.Another = omega arith

behind_three : (s : Suffix) → least_left s ≤ 3 → strength_behind s < 2
behind_three (suffixes.Operator op) h = let f = at_least_four op in omega arith
behind_three (suffixes.Becomes op) h = omega arith
behind_three suffixes.Choice h = omega arith
behind_three suffixes.Then h = omega arith
behind_three (suffixes.Step op) h = omega arith
behind_three suffixes.Arguments h = omega arith
behind_three suffixes.Member h = omega arith
behind_three suffixes.Another h = omega arith

behind_fifteen : (s : Suffix) → strength_behind s < 16 → strength_behind s < 14
behind_fifteen (suffixes.Operator op) h = let f = at_most_thirteen op in omega arith
behind_fifteen (suffixes.Becomes op) h = omega arith
behind_fifteen suffixes.Choice h = omega arith
behind_fifteen suffixes.Then h = omega arith
behind_fifteen (suffixes.Step op) h = omega arith
behind_fifteen suffixes.Arguments h = omega arith
behind_fifteen suffixes.Member h = omega arith
behind_fifteen suffixes.Another h = omega arith

pub and_false : (a b : Bool) → a ≡ false → (a && b) ≡ false
and_false a b e = ap (λ (x : Bool). x && b) e

pub or_false : (a b : Bool) → a ≡ false → b ≡ false → (a || b) ≡ false
or_false true b e f = cc
or_false false b e f = f

pub goes_not : (k l : ℕ) (s : Suffix) → strength_behind s < k → goes_on k l s ≡ false
goes_not k l s h = and_false (nat_le k (strength_behind s)) (nat_le (least_left s) l) (lt-leb k (strength_behind s) h)

not_another : (s : Suffix) → strength_behind s < 17 → is_another s ≡ false
not_another (suffixes.Operator op) h = refl
not_another (suffixes.Becomes op) h = refl
not_another suffixes.Choice h = refl
not_another suffixes.Then h = refl
not_another (suffixes.Step op) h = refl
not_another suffixes.Arguments h = refl
not_another suffixes.Member h = refl
not_another suffixes.Another h = absurd (omega arith)

-- a suffix of a level below a tree's goes on with nothing within it
pub low : (names : Scope) (t : Tree) (s : Suffix) → strength_behind s < level_of t → strength_behind s < 16 → IsWell names t → goes_on_inside t s ≡ false
low names (constant line c) s h q w = refl
low names (character line c) s h q w = refl
low names (strings line parts) s h q w = not_another s (omega arith)
low names (name line n) s h q w = refl
low names (parens line e) s h q w = refl
low names (unary line op e) s h q w =
    let f = behind_fifteen s q in
    let g = operand_high op in
    or_false (goes_on (operand_level op) (level_of e) s) (goes_on_inside e s) (goes_not (operand_level op) (level_of e) s (omega arith)) (low names e s (omega (arith, w.0)) q w.1)
low names (address line e) s h q w = absurd w
low names (dereference line e) s h q w = absurd w
low names (cast line parts d e) s h q w =
    or_false (goes_on 14 (level_of e) s) (goes_on_inside e s) (goes_not 14 (level_of e) s h) (low names e s (omega (arith, w.3)) q w.4)
low names (sizeof_expr line e) s h q w =
    let f = behind_fifteen s q in
    or_false (goes_on 15 (level_of e) s) (goes_on_inside e s) (goes_not 15 (level_of e) s (omega arith)) (low names e s (omega (arith, w.0)) q w.1)
low names (sizeof_type line parts d) s h q w = refl
low names (step line op e) s h q w = refl
low names (member line e n) s h q w = refl
low names (arrow line e n) s h q w = refl
low names (subscript line a b) s h q w = refl
low names (binary line op a b) s h q w =
    or_false (goes_on (strength_of op + 1) (level_of b) s) (goes_on_inside b s) (goes_not (strength_of op + 1) (level_of b) s (omega arith)) (low names b s (omega (arith, w.1)) q w.3)
low names (choice line a b c) s h q w =
    or_false (goes_on 3 (level_of c) s) (goes_on_inside c s) (goes_not 3 (level_of c) s (omega arith)) (low names c s (omega (arith, w.2)) q w.5)
low names (assign line op a b) s h q w =
    or_false (goes_on 2 (level_of b) s) (goes_on_inside b s) (goes_not 2 (level_of b) s (omega arith)) (low names b s (omega (arith, w.1)) q w.3)
low names (comma line a b) s h q w =
    or_false (goes_on 2 (level_of b) s) (goes_on_inside b s) (goes_not 2 (level_of b) s (omega arith)) (low names b s (omega (arith, w.1)) q w.3)
low names (call f args) s h q w = refl

behind_fourteen : (s : Suffix) → least_left s ≤ 14 → strength_behind s < 14
behind_fourteen (suffixes.Operator op) h = let f = at_most_thirteen op in omega arith
behind_fourteen (suffixes.Becomes op) h = omega arith
behind_fourteen suffixes.Choice h = omega arith
behind_fourteen suffixes.Then h = omega arith
behind_fourteen (suffixes.Step op) h = omega arith
behind_fourteen suffixes.Arguments h = omega arith
behind_fourteen suffixes.Member h = omega arith
behind_fourteen suffixes.Another h = omega arith

below_nineteen : (s : Suffix) → least_left s ≤ 17 → strength_behind s < 17
below_nineteen (suffixes.Operator op) h = let f = at_most_thirteen op in omega arith
below_nineteen (suffixes.Becomes op) h = omega arith
below_nineteen suffixes.Choice h = omega arith
below_nineteen suffixes.Then h = omega arith
below_nineteen (suffixes.Step op) h = omega arith
below_nineteen suffixes.Arguments h = omega arith
below_nineteen suffixes.Member h = omega arith
below_nineteen suffixes.Another h = absurd (omega arith)

-- a suffix goes on with nothing within its left operand
pub quiet : (names : Scope) (t : Tree) (s : Suffix) → least_left s ≤ level_of t → IsWell names t → goes_on_inside t s ≡ false
quiet names (constant line c) s h w = refl
quiet names (character line c) s h w = refl
quiet names (strings line parts) s h w = not_another s (below_nineteen s h)
quiet names (name line n) s h w = refl
quiet names (parens line e) s h w = refl
quiet names (unary line op e) s h w =
    let f = behind_fifteen s (let b = strength_below s in omega arith) in
    let g = operand_high op in
    or_false (goes_on (operand_level op) (level_of e) s) (goes_on_inside e s) (goes_not (operand_level op) (level_of e) s (omega arith)) (low names e s (omega (arith, w.0)) (omega arith) w.1)
quiet names (address line e) s h w = absurd w
quiet names (dereference line e) s h w = absurd w
quiet names (cast line parts d e) s h w =
    let f = behind_fourteen s h in
    or_false (goes_on 14 (level_of e) s) (goes_on_inside e s) (goes_not 14 (level_of e) s f) (low names e s (omega (arith, w.3)) (omega arith) w.4)
quiet names (sizeof_expr line e) s h w =
    let f = behind_fifteen s (let b = strength_below s in omega arith) in
    or_false (goes_on 15 (level_of e) s) (goes_on_inside e s) (goes_not 15 (level_of e) s (omega arith)) (low names e s (omega (arith, w.0)) (omega arith) w.1)
quiet names (sizeof_type line parts d) s h w = refl
quiet names (step line op e) s h w = refl
quiet names (member line e n) s h w = refl
quiet names (arrow line e n) s h w = refl
quiet names (subscript line a b) s h w = refl
quiet names (binary line op a b) s h w =
    let f = strength_below s in
    let g = at_most_thirteen op in
    or_false (goes_on (strength_of op + 1) (level_of b) s) (goes_on_inside b s) (goes_not (strength_of op + 1) (level_of b) s (omega arith)) (low names b s (omega (arith, w.1)) (omega arith) w.3)
quiet names (choice line a b c) s h w =
    let f = behind_three s h in
    or_false (goes_on 3 (level_of c) s) (goes_on_inside c s) (goes_not 3 (level_of c) s (omega arith)) (low names c s (omega (arith, w.2)) (omega arith) w.5)
quiet names (assign line op a b) s h w =
    let f = behind_three s (omega arith) in
    or_false (goes_on 2 (level_of b) s) (goes_on_inside b s) (goes_not 2 (level_of b) s (omega arith)) (low names b s (omega (arith, w.1)) (omega arith) w.3)
quiet names (comma line a b) s h w =
    let f = behind_three s (omega arith) in
    or_false (goes_on 2 (level_of b) s) (goes_on_inside b s) (goes_not 2 (level_of b) s (omega arith)) (low names b s (omega (arith, w.1)) (omega arith) w.3)
quiet names (call f args) s h w = refl

-- a tree has a level at least
pub has_depth : (t : Tree) → 1 ≤ depth t
has_depth (constant line c) = omega arith
has_depth (character line c) = omega arith
has_depth (strings line parts) = omega arith
has_depth (name line n) = omega arith
has_depth (parens line e) = omega arith
has_depth (unary line op e) = omega arith
has_depth (address line e) = omega arith
has_depth (dereference line e) = omega arith
has_depth (cast line parts d e) = omega arith
has_depth (sizeof_expr line e) = omega arith
has_depth (sizeof_type line parts d) = omega arith
has_depth (step line op e) = omega arith
has_depth (member line e n) = omega arith
has_depth (arrow line e n) = omega arith
has_depth (subscript line a b) = omega arith
has_depth (binary line op a b) = omega arith
has_depth (choice line a b c) = omega arith
has_depth (assign line op a b) = omega arith
has_depth (comma line a b) = omega arith
has_depth (call f args) = omega arith

-- the empty declarator alone has no level
pub deep_declared : (d : Declared) → is_empty d ≡ false → 0 < declared_depth d
deep_declared (unnamed no_suffix) e = absurd cc
deep_declared (unnamed (bounded line e rest)) f = omega arith
deep_declared (unnamed (unbounded line rest)) f = omega arith
deep_declared (named line n suffixes) e = omega arith
deep_declared (inside line d suffixes) e = omega arith
deep_declared (pointing line qs d) e = omega arith

pub full_declared : (d : Declared) → 0 < declared_depth d → is_empty d ≡ false
full_declared (unnamed no_suffix) h = absurd (omega arith)
full_declared (unnamed (bounded line e rest)) h = refl
full_declared (unnamed (unbounded line rest)) h = refl
full_declared (named line n suffixes) h = refl
full_declared (inside line d suffixes) h = refl
full_declared (pointing line qs d) h = refl
