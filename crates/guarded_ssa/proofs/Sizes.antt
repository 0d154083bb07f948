-- The blocks of a memory keep their sizes.
use Rattle.std.proofs.Common.{◌≡◌, ℕ, Bool, true, List, [], map, length, sym, ap, ◌∙◌, arith}
use Rattle.std.specs.Prelude.{◌==◌, ◌&&◌, slice_index, slice_set}
use Rattle.std.proofs.Math.ListN.{get_or-map}
use Rattle.std.proofs.lemmas.Bool.{false≢true}
use Rattle.std.proofs.lemmas.Bool.Decides.{nat_tests}
use Rattle.actions.specs.ByteList.{are_bytes}
use Rattle.actions.specs.declared.action.Answer.{Answer}
use Rattle.actions.specs.declared.action.Answer.TheVariants as answers
use Rattle.actions.specs.Behaviour.{shape_of, has_shape}
use Rattle.actions.specs.Behaviour as shapes
use Rattle.c_types.specs.declared.integers.IntegerType.{IntegerType}
use Rattle.core_tree.specs.Typed.{is_within}
use Rattle.c_values.specs.Variables.{block_of, put_bytes}
use Rattle.goto_prog.specs.declared.code.Operation.{Operation}
use Rattle.goto_prog.specs.declared.code.Operation.TheVariants as operations
use Rattle.goto_prog.specs.Meaning.{Memory, register, with_blocks, bytes_in, calculated, action_of, answered_with, bytes_of}
use Rattle.goto_prog.specs.Running.{is_exchange}
use Rattle.goto_prog.specs.Fitting.{has_bytes, is_block, is_pointer, operation_fits}
use Rattle.goto_prog.proofs.Registers.{both}
use Rattle.goto_prog.proofs.Blocks.{bytes_few, sizes_put, sizes_put_bytes, sizes_copied, sizes_taken, sizes_within, sizes_cleared, zeros_of}
use Rattle.actions.specs.Pointer.{offset_of}

-- the blocks have these sizes
abbrev pub Sized : List ℕ → Memory → Type 0
Sized blocks m = map length m.blocks ≡ blocks

pub sized_block : (blocks : List ℕ) (m : Memory) (b : ℕ) → Sized blocks m → length (block_of m.blocks b) ≡ slice_index blocks b
sized_block blocks m b same = sym (get_or-map length m.blocks b []) ∙ ap (λ (xs : List ℕ). slice_index xs b) same

last : (a b : Bool) → (a && b) ≡ true → b ≡ true
last a b h = (both a b h).1

same_number : (m n : ℕ) → (m == n) ≡ true → m ≡ n
same_number m n h = grind (arith, nat_tests)

cleared_size : (blocks : List ℕ) (m : Memory) (b size : ℕ) → Sized blocks m → is_block blocks b size ≡ true → Sized blocks (calculated (operations.Clear b size) m)
cleared_size blocks m b size same is =
    (λ k. map length (slice_set m.blocks b (sym (zeros_of blocks m.blocks b size [] same is) k))) ∙ sizes_cleared blocks m.blocks b [] same

-- an operation leaves them
pub sized_calculated : (registers : List IntegerType) (blocks : List ℕ) (behind : ℕ) (o : Operation) (m : Memory) → operation_fits registers blocks behind o ≡ true → Sized blocks m → Sized blocks (calculated o m)
sized_calculated registers blocks behind (operations.Constant r bits) m fits same = same
sized_calculated registers blocks behind (operations.Copy r a) m fits same = same
sized_calculated registers blocks behind (operations.Load r t b offset) m fits same = same
sized_calculated registers blocks behind (operations.Store b offset count a) m fits same = sizes_put blocks m.blocks b offset count (register m a) [] same (last (has_bytes registers a count) (is_within blocks b offset count) fits) (bytes_few registers a count (both (has_bytes registers a count) (is_within blocks b offset count) fits).0)
sized_calculated registers blocks behind (operations.Clear b size) m fits same = cleared_size blocks m b size same fits
sized_calculated registers blocks behind (operations.CopyBytes into to from offset count) m fits same = (let parts = both (is_within blocks into to count) (is_within blocks from offset count) fits in sizes_copied blocks m.blocks into to from offset count [] [] same parts.0 parts.1)
sized_calculated registers blocks behind (operations.Convert r t u a) m fits same = same
sized_calculated registers blocks behind (operations.Sign r op t a) m fits same = same
sized_calculated registers blocks behind (operations.Arithmetic r op t u a b) m fits same = same
sized_calculated registers blocks behind (operations.Compare r op t a b) m fits same = same
sized_calculated registers blocks behind (operations.IsZero r a) m fits same = same
sized_calculated registers blocks behind (operations.Skip n) m fits same = same
sized_calculated registers blocks behind (operations.SkipIfZero a n) m fits same = same
sized_calculated registers blocks behind (operations.Check c) m fits same = same
sized_calculated registers blocks behind (operations.Assert a) m fits same = same
sized_calculated registers blocks behind (operations.Assume a) m fits same = same
sized_calculated registers blocks behind (operations.Draw r bits) m fits same = same
sized_calculated registers blocks behind (operations.ReadObject b to k offset count) m fits same = same
sized_calculated registers blocks behind (operations.WriteObject k offset b from count) m fits same = same
sized_calculated registers blocks behind operations.Exit m fits same = same
sized_calculated registers blocks behind (operations.Fail class) m fits same = same
sized_calculated registers blocks behind (operations.Use a) m fits same = same
sized_calculated registers blocks behind (operations.Call g first count into r) m fits same = same
sized_calculated registers blocks behind (operations.Return u) m fits same = same
sized_calculated registers blocks behind (operations.Move r p i t k size class) m fits same = same
sized_calculated registers blocks behind (operations.Offset r p count) m fits same = same
sized_calculated registers blocks behind (operations.Same p q) m fits same = same
sized_calculated registers blocks behind (operations.Distance r p q k) m fits same = same
sized_calculated registers blocks behind (operations.Relate r op p q) m fits same = same
sized_calculated registers blocks behind (operations.Take b to from p count whole) m fits same = sizes_taken blocks m.blocks b to (offset_of (register m p)) count (block_of m.blocks from) [] same (both (is_pointer registers p) (is_within blocks b to count) (both (is_pointer registers p && is_within blocks b to count) (is_block blocks from whole) fits).0).1
sized_calculated registers blocks behind (operations.Put b p from to count whole) m fits same = sizes_within blocks m.blocks b (offset_of (register m p)) (bytes_of m.blocks from to count) [] same
sized_calculated registers blocks behind (operations.Read b to p count) m fits same = same
sized_calculated registers blocks behind (operations.Write p b from count first) m fits same = same
sized_calculated registers blocks behind (operations.Look r p subscript) m fits same = same
sized_calculated registers blocks behind (operations.Fill b r) m fits same = same
sized_calculated registers blocks behind (operations.Alloc r b size readonly heap) m fits same = same
sized_calculated registers blocks behind (operations.Die p) m fits same = same
sized_calculated registers blocks behind (operations.Free p) m fits same = same
sized_calculated registers blocks behind (operations.MayFail r) m fits same = same
sized_calculated registers blocks behind (operations.Limit a b) m fits same = same

-- as many bytes as a read asks for
answered_size : (n : ℕ) (a : Answer) → has_shape (shapes.bytes n) a ≡ true → length (bytes_in a) ≡ n
answered_size n (answers.Bytes bs) shape = same_number (length bs) n (both (length bs == n) (are_bytes bs) shape).0
answered_size n _ shape = absurd (false≢true shape)

read_sized : (blocks : List ℕ) (m : Memory) (b to count : ℕ) (a : Answer) → is_within blocks b to count ≡ true → has_shape (shapes.bytes count) a ≡ true → Sized blocks m → Sized blocks (with_blocks m (put_bytes m.blocks b to (bytes_in a)))
read_sized blocks m b to count a there shape same =
    sizes_put_bytes blocks m.blocks b to (bytes_in a) [] same (ap (is_within blocks b to) (answered_size count a shape) ∙ there)

-- so does an action
pub sized_answered : (registers : List IntegerType) (blocks : List ℕ) (behind : ℕ) (o : Operation) (m : Memory) (a : Answer) → is_exchange o ≡ true → operation_fits registers blocks behind o ≡ true → has_shape (shape_of (action_of o m)) a ≡ true
    → Sized blocks m → Sized blocks (answered_with o m a)
sized_answered registers blocks behind (operations.Draw r bits) m a h fits shape same = same
sized_answered registers blocks behind (operations.ReadObject b to k offset count) m a h fits shape same = read_sized blocks m b to count a fits shape same
sized_answered registers blocks behind (operations.WriteObject k offset b from count) m a h fits shape same = same
sized_answered registers blocks behind (operations.Read b to p count) m a h fits shape same = read_sized blocks m b to count a (last (is_pointer registers p) (is_within blocks b to count) fits) shape same
sized_answered registers blocks behind (operations.Write p b from count first) m a h fits shape same = same
sized_answered registers blocks behind (operations.Look r p subscript) m a h fits shape same = same
sized_answered registers blocks behind (operations.Alloc r b size readonly heap) m a h fits shape same = same
sized_answered registers blocks behind (operations.Die p) m a h fits shape same = same
sized_answered registers blocks behind (operations.Free p) m a h fits shape same = same
sized_answered registers blocks behind _ m a h fits shape same = absurd (false≢true h)
