-- Registers and their types, and which code fits them.
use Rattle.std.proofs.Common.{◌≡◌, ℕ, ◌+◌, ◌*◌, ◌<◌, ◌≤◌, ◌^◌, Bool, true, false, ◌&&◌, ◌||◌, nat_lt, nat_le, List, [], ◌∷◌, ◌++◌, length, refl, sym, ap, subst, ◌∙◌, arith, append_assoc, length-append}
use Rattle.std.specs.Prelude.{◌==◌, ℤ, slice_index, slice_index_or}
use Rattle.std.proofs.Math.Seq.{get_or-append_seam}
use Rattle.std.proofs.lemmas.Bool.{false≢true}
use Rattle.std.proofs.lemmas.Bool.Decides.{nat_tests}
use Rattle.c_types.specs.declared.integers.IntegerType.{IntegerType}
use Rattle.c_types.specs.declared.integers.IntegerType.TheVariants as types
use Rattle.c_types.specs.declared.types.ValueType.{ValueType}
use Rattle.c_types.specs.declared.types.ValueType.TheVariants.{Void, Integer}
use Rattle.c_types.specs.Integers.{width, bytes, number_of, same_integer, same_type}
use Rattle.core_tree.specs.declared.operators.ArithmeticOperator.{ArithmeticOperator}
use Rattle.core_tree.specs.declared.operators.Comparison.{Comparison}
use Rattle.core_tree.specs.declared.operators.SignOperator.{SignOperator}
use Rattle.core_tree.specs.Typed.{is_shift, is_within, fills}
use Rattle.core_tree.specs.Operations.{drawn_width}
use Rattle.c_values.specs.Numbers.{same_width, are_operands_of}
use Rattle.c_meaning.specs.Meaning.{integer_of}
use Rattle.goto_prog.specs.declared.code.Instruction.{Instruction}
use Rattle.goto_prog.specs.declared.code.Operation.TheVariants as operations
use Rattle.goto_prog.specs.Fitting.{is_there, is_register, has_bytes, is_block, operation_fits, code_fits}
use Rattle.words.specs.declared.check.Class.{Class}

pub both : (a b : Bool) → a ≡ true → b ≡ true → (a && b) ≡ true
both a b first second = λ i. first i && second i

pub left_of : (a b : Bool) → (a && b) ≡ true → a ≡ true
left_of true b h = refl
left_of false b h = h

pub right_of : (a b : Bool) → (a && b) ≡ true → b ≡ true
right_of true b h = h
right_of false b h = absurd (false≢true h)

-- ---- types that are one

all_types : List IntegerType
all_types = types.Bool ∷ types.Char ∷ types.SignedChar ∷ types.UnsignedChar ∷ types.Short ∷ types.UnsignedShort ∷ types.Int ∷ types.UnsignedInt ∷ types.Long ∷ types.UnsignedLong ∷ types.LongLong ∷ types.UnsignedLongLong ∷ []

at_number : (t : IntegerType) → slice_index_or all_types (number_of t) types.Int ≡ t
unfolding all_types
at_number types.Bool = refl
at_number _ = refl

from_same : (a b : ℕ) → (a == b) ≡ true → a ≡ b
from_same a b h = grind (arith, nat_tests)

to_same : (a b : ℕ) → a ≡ b → (a == b) ≡ true
to_same a b h = grind (arith, nat_tests)

pub same_integers : (t u : IntegerType) → same_integer t u ≡ true → t ≡ u
same_integers t u h = sym (at_number t) ∙ ap (λ n. slice_index_or all_types n types.Int) (from_same (number_of t) (number_of u) h) ∙ at_number u

pub same_types : (t u : ValueType) → same_type t u ≡ true → integer_of t ≡ integer_of u
same_types Void Void h = refl
same_types Void (Integer u) h = absurd (false≢true h)
same_types (Integer t) Void h = absurd (false≢true h)
same_types (Integer t) (Integer u) h = same_integers t u h

pub same_itself : (t : IntegerType) → same_integer t t ≡ true
same_itself t = to_same (number_of t) (number_of t) refl

either : (a b : Bool) → b ≡ true → (a || b) ≡ true
either true b h = refl
either false b h = h

pub own_operands : (op : ArithmeticOperator) (t : IntegerType) → are_operands_of op t t ≡ true
own_operands op t = either (is_shift op) (same_width t t) (to_same (width t) (width t) refl)

-- ---- registers

pub record Register (registers : List IntegerType) (r : ℕ) (t : IntegerType) : Type 0 where
  pub there : r < length registers
  pub is : slice_index_or registers r types.Int ≡ t

-- registers from n on have these types
abbrev pub Has : List IntegerType → ℕ → List IntegerType → Type 0
Has registers n [] = Unit {0}
Has registers n (t ∷ ts) = Register registers n t × Has registers (n + 1) ts

pub register_at : (registers : List IntegerType) (r s : ℕ) (t : IntegerType) → r ≡ s → Register registers r t → Register registers s t
register_at registers r s t same h = subst (λ (n : ℕ). Register registers n t) same h

pub register_of : (registers : List IntegerType) (r : ℕ) (t u : IntegerType) → t ≡ u → Register registers r t → Register registers r u
register_of registers r t u same h = subst (λ (v : IntegerType). Register registers r v) same h

pub has_at : (registers : List IntegerType) (n m : ℕ) (ts : List IntegerType) → n ≡ m → Has registers n ts → Has registers m ts
has_at registers n m ts same h = subst (λ (k : ℕ). Has registers k ts) same h

pub has_left : (registers : List IntegerType) (n : ℕ) (ts us : List IntegerType) → Has registers n (ts ++ us) → Has registers n ts
has_left registers n [] us h = tt
has_left registers n (t ∷ ts) us h = (h.0, has_left registers (n + 1) ts us h.1)

pub has_right : (registers : List IntegerType) (n : ℕ) (ts us : List IntegerType) → Has registers n (ts ++ us) → Has registers (n + length ts) us
has_right registers n [] us h = has_at registers n (n + 0) us (omega arith) h
has_right registers n (t ∷ ts) us h =
    let same : n + 1 + length ts ≡ n + length (t ∷ ts) = omega arith in
    has_at registers (n + 1 + length ts) (n + length (t ∷ ts)) us same (has_right registers (n + 1) ts us h.1)

has_behind : (before ts : List IntegerType) → Has (before ++ ts) (length before) ts
has_behind before [] = tt
has_behind before (t ∷ ts) =
    let more = before ++ t ∷ [] in
    let long : length more ≡ length before + 1 = length-append before (t ∷ []) in
    let all : length (before ++ t ∷ ts) ≡ length before + length (t ∷ ts) = length-append before (t ∷ ts) in
    let first : Register (before ++ t ∷ ts) (length before) t = record { there = omega (arith, all); is = get_or-append_seam before t ts types.Int } in
    (first, has_at (before ++ t ∷ ts) (length more) (length before + 1) ts long (subst (λ (rs : List IntegerType). Has rs (length more) ts) (append_assoc before (t ∷ []) ts) (has_behind more ts)))

pub has_itself : (ts : List IntegerType) → Has ts 0 ts
has_itself ts = has_behind [] ts

-- ---- tests

pub less_true : (a b : ℕ) → a < b → nat_lt a b ≡ true
less_true a b h = grind (arith, nat_tests)

pub at_most_true : (a b : ℕ) → a ≤ b → nat_le a b ≡ true
at_most_true a b h = grind (arith, nat_tests)

-- ---- bytes

some_bytes : (t : IntegerType) → nat_le 1 (bytes t) ≡ true
some_bytes types.Bool = refl
some_bytes _ = refl

own_bytes : (t : IntegerType) → nat_le (8 * bytes t) (width t) ≡ true
own_bytes types.Bool = refl
own_bytes _ = refl

-- ---- code

module _ (registers : List IntegerType) (blocks : List ℕ) where
  -- code fits with this many instructions behind it
  abbrev pub Fit : ℕ → List Instruction → Type 0
  Fit behind [] = Unit {0}
  Fit behind (i ∷ code) = (operation_fits registers blocks (length code + behind) i.operation ≡ true) × Fit behind code

  pub fit-append : (behind : ℕ) (xs ys : List Instruction) → Fit (length ys + behind) xs → Fit behind ys → Fit behind (xs ++ ys)
  fit-append behind [] ys f g = g
  fit-append behind (i ∷ xs) ys f g =
      let same : length xs + (length ys + behind) ≡ length (xs ++ ys) + behind = omega (arith, length-append xs ys) in
      (subst (λ (n : ℕ). operation_fits registers blocks n i.operation ≡ true) same f.0, fit-append behind xs ys f.1 g)

  pub fit_all : (xs : List Instruction) → Fit 0 xs → code_fits registers blocks xs ≡ true
  fit_all [] f = refl
  fit_all (i ∷ xs) f =
      let same : length xs + 0 ≡ length xs = omega arith in
      both _ _ (subst (λ (n : ℕ). operation_fits registers blocks n i.operation ≡ true) same f.0) (fit_all xs f.1)

  -- ---- operations

  pub there_is : (r : ℕ) (t : IntegerType) → Register registers r t → is_there registers r ≡ true
  there_is r t h = less_true r (length registers) h.there

  pub register_is : (r : ℕ) (t : IntegerType) → Register registers r t → is_register registers r t ≡ true
  register_is r t h = both _ _ (there_is r t h) (ap (λ u. same_integer u t) h.is ∙ same_itself t)

  pub constant_fits : (r bits : ℕ) (t : IntegerType) → Register registers r t → nat_lt bits (2 ^ width t) ≡ true → operation_fits registers blocks 0 (operations.Constant r bits) ≡ true
  constant_fits r bits t h small = both _ _ (there_is r t h) (ap (λ u. nat_lt bits (2 ^ width u)) h.is ∙ small)

  pub copy_fits : (r a : ℕ) (t : IntegerType) → Register registers r t → Register registers a t → operation_fits registers blocks 0 (operations.Copy r a) ≡ true
  copy_fits r a t h g = both _ _ (there_is a t g) (ap (λ u. is_register registers r u) g.is ∙ register_is r t h)

  pub load_fits : (r b offset : ℕ) (t : IntegerType) → Register registers r t → is_within blocks b offset (bytes t) ≡ true → operation_fits registers blocks 0 (operations.Load r t b offset) ≡ true
  load_fits r b offset t h within = both _ _ (register_is r t h) within

  bytes_there : (a count : ℕ) (t : IntegerType) → Register registers a t → nat_le 1 count ≡ true → nat_le (8 * count) (width t) ≡ true → has_bytes registers a count ≡ true
  bytes_there a count t h some few = both _ _ (both _ _ (there_is a t h) some) (ap (λ u. nat_le (8 * count) (width u)) h.is ∙ few)

  pub store_fits : (a b offset : ℕ) (t : IntegerType) → Register registers a t → is_within blocks b offset (bytes t) ≡ true → operation_fits registers blocks 0 (operations.Store b offset (bytes t) a) ≡ true
  store_fits a b offset t h within = both _ _ (bytes_there a (bytes t) t h (some_bytes t) (own_bytes t)) within

  pub word_fits : (a b offset count : ℕ) → Register registers a types.UnsignedLong → 1 ≤ count → count ≤ 8 → is_within blocks b offset count ≡ true → operation_fits registers blocks 0 (operations.Store b offset count a) ≡ true
  word_fits a b offset count h some few within =
      both _ _ (bytes_there a count types.UnsignedLong h (at_most_true 1 count some) (at_most_true (8 * count) 64 (omega (arith, few)))) within

  pub within_is : (b offset count : ℕ) → nat_lt b (length blocks) ≡ true → offset + count ≤ slice_index blocks b → is_within blocks b offset count ≡ true
  within_is b offset count there room = both _ _ there (at_most_true (offset + count) (slice_index blocks b) room)

  pub clear_fits : (b : ℕ) → nat_lt b (length blocks) ≡ true → operation_fits registers blocks 0 (operations.Clear b (slice_index blocks b)) ≡ true
  clear_fits b there = both _ _ there (to_same (slice_index blocks b) (slice_index blocks b) refl)

  pub copy_bytes_fits : (into to from offset count : ℕ) → is_within blocks into to count ≡ true → is_within blocks from offset count ≡ true → operation_fits registers blocks 0 (operations.CopyBytes into to from offset count) ≡ true
  copy_bytes_fits into to from offset count there within = both _ _ there within

  -- a value that fills a block
  pub filled_there : (b : ℕ) (t : ValueType) → fills blocks b t ≡ true → nat_lt b (length blocks) ≡ true
  filled_there b Void h = absurd (false≢true h)
  filled_there b (Integer t) h = left_of (nat_lt b (length blocks)) (bytes t == slice_index blocks b) h

  pub filled_within : (b : ℕ) (t : ValueType) → fills blocks b t ≡ true → is_within blocks b 0 (bytes (integer_of t)) ≡ true
  filled_within b Void h = absurd (false≢true h)
  filled_within b (Integer t) h =
      let same = from_same (bytes t) (slice_index blocks b) (right_of (nat_lt b (length blocks)) (bytes t == slice_index blocks b) h) in
      within_is b 0 (bytes t) (filled_there b (Integer t) h) (omega (arith, same))

  pub convert_fits : (r a : ℕ) (from to : IntegerType) → Register registers r to → Register registers a from → operation_fits registers blocks 0 (operations.Convert r from to a) ≡ true
  convert_fits r a from to h g = both _ _ (register_is r to h) (register_is a from g)

  pub sign_fits : (r a : ℕ) (op : SignOperator) (t : IntegerType) → Register registers r t → Register registers a t → operation_fits registers blocks 0 (operations.Sign r op t a) ≡ true
  sign_fits r a op t h g = both _ _ (register_is r t h) (register_is a t g)

  pub arithmetic_fits : (r a b : ℕ) (op : ArithmeticOperator) (t u : IntegerType) → are_operands_of op t u ≡ true → Register registers r t → Register registers a t → Register registers b u
      → operation_fits registers blocks 0 (operations.Arithmetic r op t u a b) ≡ true
  arithmetic_fits r a b op t u operands h x y = both _ _ (both _ _ (both _ _ operands (register_is r t h)) (register_is a t x)) (register_is b u y)

  pub compare_fits : (r a b : ℕ) (op : Comparison) (t : IntegerType) → Register registers r types.Int → Register registers a t → Register registers b t
      → operation_fits registers blocks 0 (operations.Compare r op t a b) ≡ true
  compare_fits r a b op t h x y = both _ _ (both _ _ (register_is r types.Int h) (register_is a t x)) (register_is b t y)

  pub is_zero_fits : (r a : ℕ) (t : IntegerType) → Register registers r types.Int → Register registers a t → operation_fits registers blocks 0 (operations.IsZero r a) ≡ true
  is_zero_fits r a t h x = both _ _ (register_is r types.Int h) (there_is a t x)

  pub skip_fits : (k n : ℕ) → n ≤ k → operation_fits registers blocks k (operations.Skip n) ≡ true
  skip_fits k n h = at_most_true n k h

  pub skip_if_fits : (k a n : ℕ) (t : IntegerType) → Register registers a t → n ≤ k → operation_fits registers blocks k (operations.SkipIfZero a n) ≡ true
  skip_if_fits k a n t x h = both _ _ (there_is a t x) (at_most_true n k h)

  pub draw_fits : (r bits : ℕ) (t : IntegerType) → Register registers r t → nat_le 1 bits ≡ true → nat_le bits (width t) ≡ true → operation_fits registers blocks 0 (operations.Draw r bits) ≡ true
  draw_fits r bits t h some few = both _ _ (both _ _ (there_is r t h) some) (ap (λ u. nat_le bits (width u)) h.is ∙ few)

  -- ---- pointers, sizes and objects

  pub pointer_constant_fits : (r bits : ℕ) → Register registers r types.UnsignedLong → bits < 2 ^ 64 → operation_fits registers blocks 0 (operations.Constant r bits) ≡ true
  pointer_constant_fits r bits h small = constant_fits r bits types.UnsignedLong h (less_true bits (2 ^ 64) small)

  block_is : (b : ℕ) → nat_lt b (length blocks) ≡ true → is_block blocks b (slice_index blocks b) ≡ true
  block_is b there = both _ _ there (to_same (slice_index blocks b) (slice_index blocks b) refl)

  pub move_fits : (r p i size : ℕ) (t : IntegerType) (stride : ℤ) (class : Class) → Register registers r types.UnsignedLong → Register registers p types.UnsignedLong → Register registers i t → Register registers size types.UnsignedLong
      → operation_fits registers blocks 0 (operations.Move r p i t stride size class) ≡ true
  move_fits r p i size t stride class h hp hi hs = both _ _ (register_is r types.UnsignedLong h) (both _ _ (both _ _ (register_is p types.UnsignedLong hp) (register_is i t hi)) (register_is size types.UnsignedLong hs))

  pub offset_fits : (r p count : ℕ) → Register registers r types.UnsignedLong → Register registers p types.UnsignedLong → operation_fits registers blocks 0 (operations.Offset r p count) ≡ true
  offset_fits r p count h hp = both _ _ (register_is r types.UnsignedLong h) (register_is p types.UnsignedLong hp)

  pub same_fits : (p q : ℕ) → Register registers p types.UnsignedLong → Register registers q types.UnsignedLong → operation_fits registers blocks 0 (operations.Same p q) ≡ true
  same_fits p q hp hq = both _ _ (register_is p types.UnsignedLong hp) (register_is q types.UnsignedLong hq)

  pub distance_fits : (r p q size : ℕ) → Register registers r types.Long → Register registers p types.UnsignedLong → Register registers q types.UnsignedLong → 1 ≤ size → operation_fits registers blocks 0 (operations.Distance r p q size) ≡ true
  distance_fits r p q size h hp hq some = both _ _ (both _ _ (both _ _ (register_is r types.Long h) (register_is p types.UnsignedLong hp)) (register_is q types.UnsignedLong hq)) (at_most_true 1 size some)

  pub relate_fits : (r p q : ℕ) (op : Comparison) → Register registers r types.Int → Register registers p types.UnsignedLong → Register registers q types.UnsignedLong → operation_fits registers blocks 0 (operations.Relate r op p q) ≡ true
  relate_fits r p q op h hp hq = both _ _ (both _ _ (register_is r types.Int h) (register_is p types.UnsignedLong hp)) (register_is q types.UnsignedLong hq)

  pub take_fits : (b to from p count : ℕ) → Register registers p types.UnsignedLong → is_within blocks b to count ≡ true → nat_lt from (length blocks) ≡ true → operation_fits registers blocks 0 (operations.Take b to from p count (slice_index blocks from)) ≡ true
  take_fits b to from p count hp within there = both _ _ (both _ _ (register_is p types.UnsignedLong hp) within) (block_is from there)

  pub put_fits : (b p from to count : ℕ) → Register registers p types.UnsignedLong → is_within blocks from to count ≡ true → nat_lt b (length blocks) ≡ true → operation_fits registers blocks 0 (operations.Put b p from to count (slice_index blocks b)) ≡ true
  put_fits b p from to count hp within there = both _ _ (both _ _ (register_is p types.UnsignedLong hp) within) (block_is b there)

  pub read_fits : (b to p count : ℕ) → Register registers p types.UnsignedLong → is_within blocks b to count ≡ true → operation_fits registers blocks 0 (operations.Read b to p count) ≡ true
  read_fits b to p count hp within = both _ _ (register_is p types.UnsignedLong hp) within

  pub write_fits : (p b from count : ℕ) (first : Bool) → Register registers p types.UnsignedLong → is_within blocks b from count ≡ true → operation_fits registers blocks 0 (operations.Write p b from count first) ≡ true
  write_fits p b from count first hp within = both _ _ (register_is p types.UnsignedLong hp) within

  pub look_fits : (r p : ℕ) (subscript : Bool) → Register registers r types.UnsignedLong → Register registers p types.UnsignedLong → operation_fits registers blocks 0 (operations.Look r p subscript) ≡ true
  look_fits r p subscript h hp = both _ _ (register_is r types.UnsignedLong h) (register_is p types.UnsignedLong hp)

  pub fill_fits : (b r : ℕ) → nat_lt b (length blocks) ≡ true → Register registers r types.UnsignedLong → operation_fits registers blocks 0 (operations.Fill b r) ≡ true
  fill_fits b r there h = both _ _ there (register_is r types.UnsignedLong h)

  pub alloc_fits : (r b size : ℕ) (readonly heap : Bool) → Register registers r types.UnsignedLong → nat_lt b (length blocks) ≡ true → Register registers size types.UnsignedLong → operation_fits registers blocks 0 (operations.Alloc r b size readonly heap) ≡ true
  alloc_fits r b size readonly heap h there hs = both _ _ (both _ _ (register_is r types.UnsignedLong h) there) (register_is size types.UnsignedLong hs)

  pub die_fits : (p : ℕ) → Register registers p types.UnsignedLong → operation_fits registers blocks 0 (operations.Die p) ≡ true
  die_fits p h = register_is p types.UnsignedLong h

  pub free_fits : (p : ℕ) → Register registers p types.UnsignedLong → operation_fits registers blocks 0 (operations.Free p) ≡ true
  free_fits p h = register_is p types.UnsignedLong h

  pub may_fail_fits : (r : ℕ) → Register registers r types.Int → operation_fits registers blocks 0 (operations.MayFail r) ≡ true
  may_fail_fits r h = register_is r types.Int h

  pub limit_fits : (a b : ℕ) → Register registers a types.UnsignedLong → Register registers b types.UnsignedLong → operation_fits registers blocks 0 (operations.Limit a b) ≡ true
  limit_fits a b ha hb = both _ _ (register_is a types.UnsignedLong ha) (register_is b types.UnsignedLong hb)

-- ---- widths

pub one_fits : (t : IntegerType) → nat_lt 1 (2 ^ width t) ≡ true
one_fits types.Bool = refl
one_fits _ = refl

pub zero_fits : (t : IntegerType) → nat_lt 0 (2 ^ width t) ≡ true
zero_fits types.Bool = refl
zero_fits _ = refl

pub some_drawn : (t : IntegerType) → nat_le 1 (drawn_width t) ≡ true
some_drawn types.Bool = refl
some_drawn _ = refl

pub few_drawn : (t : IntegerType) → nat_le (drawn_width t) (width t) ≡ true
few_drawn types.Bool = refl
few_drawn _ = refl
