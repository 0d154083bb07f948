-- Words of slots, and slots that meet.
use Rattle.std.proofs.Common.{◌≡◌, ℕ, suc, ◌+◌, ◌<◌, ◌≤◌, Bool, true, false, ◌||◌, ◌&&◌, nat_lt, List, [], ◌∷◌, length, map, Option, take, get_or, Some, None, inl, inr, refl, sym, ap, subst, ◌∙◌, arith}
use Rattle.std.specs.Prelude.{not, ◌==◌, if◌then◌else◌, slice_index, slice_index_or, replicate}
use Rattle.std.proofs.lemmas.List.{get_or_default, length-replicate}
use Rattle.std.proofs.lemmas.Bool.{cases_lt}
use Rattle.std.proofs.lemmas.Bool.Decides.{nat_tests}
use Rattle.c_types.specs.declared.integers.IntegerType.{IntegerType}
use Rattle.c_types.specs.declared.integers.IntegerType.TheVariants as types
use Rattle.c_types.specs.Integers.{width as type_width, same_integer}
use Rattle.goto_prog.proofs.Registers.{both, test_below}
use Rattle.goto_prog.proofs.Registers.{same_widths as same_widths_of}
use Rattle.word_dag.specs.declared.nodes.Id.{Id}
use Rattle.word_dag.specs.declared.nodes.Node.{Node}
use Rattle.word_dag.specs.declared.nodes.Node.TheVariants.{Constant}
use Rattle.word_dag.specs.Meaning.{value, holds, bit_value}
use Rattle.word_dag.specs.Growth.{Extends, Makes}
use Rattle.word_dag.proofs.Grown.{extends_more, within_stays}
use Rattle.value_nodes.specs.Values.{IsWord, IsValue, IsTest}
use Rattle.cell_trees.specs.Trees.{Arena, span, IsRoot, looked, Keeps}
use Rattle.cell_trees.proofs.Kept.{keeps_itself}
use Rattle.goto_prog.specs.Meaning.{Memory, register}
use Rattle.goto_prog.specs.declared.code.Operation.{Operation}
use Rattle.goto_prog.specs.declared.code.Operation.TheVariants as operations
use Rattle.goto_prog.specs.Fitting.{is_there, is_register, operation_fits}
use Rattle.guarded_ssa.specs.inner.Results.{into_of, result_of}
use Rattle.goto_prog.specs.CodeThread.{Listing, first_memory}
use Rattle.guarded_ssa.specs.declared.slots.Slot.{Slot}
use Rattle.guarded_ssa.specs.inner.Places.{either, kept}
use Rattle.guarded_ssa.specs.inner.Reads.{IsRead, Agree, Alike}
use Rattle.guarded_ssa.specs.inner.Registers.{ZerosIn, TreeIn, Merged, is_needed, word_or_0, words_from, bytes_from, zero_of}
use Rattle.guarded_ssa.proofs.CellWords.{all_words, words_first, words_behind, words_same}
use Rattle.guarded_ssa.proofs.Meeting.{zero_is, none_some}
use Rattle.guarded_ssa.proofs.Blocks.{stored_zeros, stored_length, no_block, no_bytes, block_words, block_ends}
use Rattle.guarded_ssa.proofs.Numbering.{cells_length, register_type, all_owners, register_owner, byte_owner}
use Rattle.guarded_ssa.proofs.Stays.{slot_stays, held_stays, guarded_stays, cell_stays}
use Rattle.guarded_ssa.specs.inner.Held.{total, cells, owners, SlotIn, stored, held, guarded}

pub holds_bit : (b : Bool) → holds (bit_value b) ≡ b
holds_bit true = refl
holds_bit false = refl

-- ---- one slot

kept_by : (g : Bool) (m : Memory) (test : Memory → Bool) (b : Bool) → b ≡ test m → (if b then (if g then Some m else None) else None) ≡ kept test (if g then Some m else None)
kept_by true m test b e = λ i. if e i then Some m else None
kept_by false m test true e = refl
kept_by false m test false e = refl

under : (g h : Bool) (m : Memory) → (if (g && h) then Some m else None) ≡ (if h then (if g then Some m else None) else None)
under true true m = refl
under true false m = refl
under false true m = refl
under false false m = refl

-- the same cells
same_held : (v : ℕ → ℕ) (d : List Node) (trees : Arena) (code : Listing) (s t : Slot) → t.root ≡ s.root → held v d trees code t ≡ held v d trees code s
same_held v d trees code s t p = λ i. record {
  registers = words_from (value v d) (looked trees (p i)) 0 code.registers;
  blocks = stored code.blocks (bytes_from (value v d) (looked trees (p i)) (length code.registers) (total code.blocks));
}

module _ (d e : List Node) (trees : Arena) (code : Listing) (s t : Slot) (x : Extends d e) (h : SlotIn d trees code s) (root : t.root ≡ s.root) where
  pub narrowed_in : (f : (ℕ → ℕ) → Bool) → IsTest e t.guard f → t.zeros ≡ s.zeros → SlotIn e trees code t
  narrowed_in f made z =
      let k = slot_stays d e x trees trees (keeps_itself trees) code s h in
      record {
        guard = record { there = made.there; width_is = made.width_is };
        zeros = subst (ZerosIn e) (sym z) k.zeros;
        tree = subst (TreeIn e trees (cells code)) (sym root) k.tree;
      }

  pub narrowed_guarded : (test : Id) → IsTest e t.guard (λ v. holds (value v d s.guard) && holds (value v d test)) → (v : ℕ → ℕ) → guarded v e trees code t ≡ (if holds (value v d test) then guarded v d trees code s else None)
  narrowed_guarded test made v =
      let g = holds (value v d s.guard) in
      let k = holds (value v d test) in
      let a : holds (value v e t.guard) ≡ (g && k) = ap holds (made.value_is v) ∙ holds_bit (g && k) in
      let b = same_held v e trees code s t root ∙ held_stays d e x trees trees (keeps_itself trees) v code s h in
      let same : guarded v e trees code t ≡ (if (g && k) then Some (held v d trees code s) else None) = (λ i. if a i then Some (b i) else None) in
      same ∙ under g k (held v d trees code s)

-- the memory where a test of it holds too
kept_guarded : (v : ℕ → ℕ) (d : List Node) (trees : Arena) (code : Listing) (s : Slot) (test : Memory → Bool) (b : Bool) → b ≡ test (held v d trees code s) → (if b then guarded v d trees code s else None) ≡ kept test (guarded v d trees code s)
kept_guarded v d trees code s test b e = kept_by (holds (value v d s.guard)) (held v d trees code s) test b e

zero_off : (bits : ℕ) → (bits == 0) ≡ true → holds bits ≡ false
zero_off bits h = grind (arith, nat_tests)

-- a slot with a guard that is never true
pub never_guarded : (v : ℕ → ℕ) (d : List Node) (trees : Arena) (code : Listing) (s : Slot) (bits : ℕ) → value v d s.guard ≡ bits → (bits == 0) ≡ true → guarded v d trees code s ≡ None
never_guarded v d trees code s bits is zero =
    let off : holds (value v d s.guard) ≡ false = ap holds is ∙ zero_off bits zero in
    λ i. if off i then Some (held v d trees code s) else None

-- ---- at the start

no_words : (f : Id → ℕ) (g : ℕ → Option Id) (k : ℕ) (ts : List IntegerType) → ((c : ℕ) → g c ≡ None) → words_from f g k ts ≡ map (λ t. 0) ts
no_words f g k [] none = refl
no_words f g k (t ∷ ts) none = let a = ap (word_or_0 f) (none k) in let b = no_words f g (suc k) ts none in λ i. a i ∷ b i

module _ (d e f : List Node) (trees : Arena) (code : Listing) (s : Slot) (y : Extends e f) (made : Makes d e (Constant 1 1) s.guard) (zeros : ZerosIn f s.zeros) (none : (c : ℕ) → looked trees s.root c ≡ None) where
  pub started_in : length (cells code) ≤ span trees.depth → IsRoot trees s.root → SlotIn f trees code s
  started_in room root = record {
    guard = record { there = within_stays e f s.guard y made.there; width_is = y.width_stays s.guard made.there ∙ made.width_is };
    zeros = zeros;
    tree = record { room = room; root = root; live = λ c i is. absurd (none_some i (sym (none c) ∙ is)) };
  }

  pub started_guarded : (v : ℕ → ℕ) → guarded v f trees code s ≡ Some (first_memory code)
  started_guarded v =
      let n = total code.blocks in
      let a = y.value_stays v s.guard made.there ∙ made.value_is v in
      let b = no_words (value v f) (looked trees s.root) 0 code.registers none in
      let bytes = no_bytes (value v f) (looked trees s.root) (length code.registers) n (λ k lt. none (length code.registers + k)) in
      let c = ap (stored code.blocks) bytes ∙ stored_zeros code.blocks n refl in
      λ i. if holds (a i) then Some (record { registers = b i; blocks = c i }) else None

-- where a test of a register holds
pub zero_holds : (v : ℕ → ℕ) (d e f : List Node) (trees : Arena) (code : Listing) (s : Slot) (operand : ℕ) (node test : Id) → Extends e f → IsTest e test (λ v. value v d node == 0) → value v d node ≡ register (held v d trees code s) operand
    → holds (value v f test) ≡ (register (held v d trees code s) operand == 0)
zero_holds v d e f trees code s operand node test x made is = ap holds (x.value_stays v test made.there ∙ made.value_is v) ∙ holds_bit (value v d node == 0) ∙ ap (λ n. n == 0) is

pub other_holds : (v : ℕ → ℕ) (d e f : List Node) (test other : Id) (b : Bool) → Extends e f → holds (value v d test) ≡ b → IsTest e other (λ v. not (holds (value v d test))) → holds (value v f other) ≡ not b
other_holds v d e f test other b x is made = ap holds (x.value_stays v other made.there ∙ made.value_is v) ∙ holds_bit (not (holds (value v d test))) ∙ ap not is

pub side_guarded : (v : ℕ → ℕ) (d e f g : List Node) (trees : Arena) (code : Listing) (s t : Slot) (test : Id) (keeps : Memory → Bool) → Extends d e → Extends f g → SlotIn d trees code s → SlotIn f trees code t
    → holds (value v e test) ≡ keeps (held v d trees code s) → guarded v f trees code t ≡ (if holds (value v e test) then guarded v e trees code s else None) → guarded v g trees code t ≡ kept keeps (guarded v d trees code s)
side_guarded v d e f g trees code s t test keeps x y h k is so =
    let same = keeps_itself trees in
    let a : guarded v e trees code s ≡ guarded v d trees code s = guarded_stays d e x trees trees same v code s h in
    let b : Bool = holds (value v e test) in
    let chosen : (if b then guarded v e trees code s else None) ≡ (if b then guarded v d trees code s else None) = ap (λ w. if b then w else None) a in
    guarded_stays f g y trees trees same v code t k ∙ so ∙ chosen ∙ kept_guarded v d trees code s keeps b is

-- ---- slots that meet, as the code from a place on reads them

keeps_read : (until : List ℕ) (place r : ℕ) → place < slice_index until r → nat_lt place (slice_index until r) ≡ true
keeps_read until place r lt = grind (arith, nat_tests)

is_in : (c n : ℕ) → c < n → nat_lt c n ≡ true
is_in c n lt = grind (arith, nat_tests)

module _ (code : Listing) (until owner : List ℕ) (place : ℕ) (size : length until ≡ length code.registers + length code.blocks) (owner_is : owner ≡ owners code) where
  -- a cell of what is read
  needed_cell : (c k : ℕ) → c < length (cells code) → slice_index (owners code) c ≡ k → k < length until → IsRead until place (Some k) → is_needed until owner place c ≡ true
  needed_cell c k there is lt read =
      let a : nat_lt c (length owner) ≡ true = is_in c (length owner) (omega (arith, there, all_owners code, ap length owner_is)) in
      let b : nat_lt place (slice_index until (slice_index owner c)) ≡ true = ap (λ n. nat_lt place (slice_index until n)) (ap (λ (xs : List ℕ). slice_index xs c) owner_is ∙ is) ∙ keeps_read until place k (read lt) in
      λ i. a i && b i

  module _ (v : ℕ → ℕ) (d e : List Node) (trees trees' : Arena) (s t : Slot) (same : (c : ℕ) → is_needed until owner place c ≡ true → word_or_0 (value v e) (looked trees' t.root c) ≡ word_or_0 (value v d) (looked trees s.root c)) where
    met_agree : Agree (length code.registers) until place (held v e trees' code t) (held v d trees code s)
    met_agree =
        let f = value v d in
        let f' = value v e in
        let g = looked trees s.root in
        let g' = looked trees' t.root in
        let first = length code.registers in
        record {
          size = all_words f' g' 0 code.registers ∙ sym (all_words f g 0 code.registers);
          needed = λ r read.
              elim (cases_lt r first) [
                | inl lt ↦ words_first f' g' r code.registers lt ∙ same r (needed_cell r r (omega (arith, lt, cells_length code)) (register_owner code r lt) (omega (arith, lt, size)) read) ∙ sym (words_first f g r code.registers lt)
                | inr le ↦ words_behind f' g' 0 r code.registers le ∙ sym (words_behind f g 0 r code.registers le)
              ];
          count = stored_length code.blocks (bytes_from f' g' first (total code.blocks)) ∙ sym (stored_length code.blocks (bytes_from f g first (total code.blocks)));
          blocks = λ b read.
              elim (cases_lt b (length code.blocks)) [
                | inl lt ↦ (let start = first + total (take b code.blocks) in
                    let n = slice_index code.blocks b in
                    let end = block_ends code.blocks b lt in
                    block_words f' g' first b code.blocks lt
                    ∙ words_same f f' g g' start (replicate n types.Char)
                    (λ c from below. (let high : c < start + n = omega (arith, below, length-replicate n types.Char) in
                    same c (needed_cell c (first + b) (omega (arith, high, end, cells_length code)) (byte_owner code b c lt from high) (omega (arith, lt, size)) read)))
                    ∙ sym (block_words f g first b code.blocks lt))
                | inr le ↦ no_block code.blocks (bytes_from f' g' first (total code.blocks)) b le ∙ sym (no_block code.blocks (bytes_from f g first (total code.blocks)) b le)
              ];
        }

alike_ways : (registers : ℕ) (until : List ℕ) (place : ℕ) (h1 h2 : Bool) (n a b : Memory) → (h1 ≡ true → Agree registers until place n a) → (h1 ≡ false → Agree registers until place n b)
    → Alike registers until place (if h1 || h2 then Some n else None) (either (if h1 then Some a else None) (if h2 then Some b else None))
alike_ways registers until place true h2 n a b one two = one refl
alike_ways registers until place false true n a b one two = two refl
alike_ways registers until place false false n a b one two = tt

chosen_first : (b : Bool) (x y : ℕ) → b ≡ true → (if b then x else y) ≡ x
chosen_first b x y h = λ i. if h i then x else y

chosen_second : (b : Bool) (x y : ℕ) → b ≡ false → (if b then x else y) ≡ y
chosen_second b x y h = λ i. if h i then x else y

-- the graph grows for the guard, and then with the trees for the cells
module _ (d d1 e : List Node) (trees trees' : Arena) (code : Listing) (first second s : Slot) (ts : List IntegerType) (until owner : List ℕ) (place : ℕ)
    (x : Extends d d1) (y : Extends d1 e) (k : Keeps trees trees') (size : length until ≡ length code.registers + length code.blocks) (owner_is : owner ≡ owners code) (one : SlotIn d trees code first) (two : SlotIn d trees code second)
    (guard : IsTest d1 s.guard (λ v. holds (value v d first.guard) || holds (value v d second.guard))) (zeros : s.zeros ≡ first.zeros) (ts_is : ts ≡ cells code)
    (made : Merged d1 e trees trees' ts until owner place first.guard first.root second.root s.root) where
  pub merged_in : SlotIn e trees' code s
  merged_in = record {
    guard = record { there = within_stays d1 e s.guard y guard.there; width_is = y.width_stays s.guard guard.there ∙ guard.width_is };
    zeros = subst (ZerosIn e) (sym zeros) (slot_stays d e (extends_more d d1 e x y) trees trees' k code first one).zeros;
    tree = subst (λ us. TreeIn e trees' us s.root) ts_is made.tree;
  }

  words : (v : ℕ → ℕ) (c : ℕ) → is_needed until owner place c ≡ true
      → word_or_0 (value v e) (looked trees' s.root c) ≡ (if holds (value v d first.guard) then word_or_0 (value v d) (looked trees first.root c) else word_or_0 (value v d) (looked trees second.root c))
  words v c needed =
      let same = keeps_itself trees in
      let t = x.value_stays v first.guard one.guard.there in
      let p = cell_stays d d1 x trees trees same v (cells code) first.root c one.tree in
      let q = cell_stays d d1 x trees trees same v (cells code) second.root c two.tree in
      made.words v c needed ∙ (λ i. if holds (t i) then p i else q i)

  pub merged_alike : (v : ℕ → ℕ) → Alike (length code.registers) until place (guarded v e trees' code s) (either (guarded v d trees code first) (guarded v d trees code second))
  merged_alike v =
      let h1 = holds (value v d first.guard) in
      let h2 = holds (value v d second.guard) in
      let m = held v e trees' code s in
      let ways = either (guarded v d trees code first) (guarded v d trees code second) in
      let g : holds (value v e s.guard) ≡ (h1 || h2) = ap holds (y.value_stays v s.guard guard.there ∙ guard.value_is v) ∙ holds_bit (h1 || h2) in
      subst (λ b. Alike (length code.registers) until place (if b then Some m else None) ways) (sym g)
      (alike_ways (length code.registers) until place h1 h2 m (held v d trees code first) (held v d trees code second)
      (λ on. met_agree code until owner place size owner_is v d e trees trees' first s (λ c needed. words v c needed ∙ chosen_first h1 _ _ on))
      (λ off. met_agree code until owner place size owner_is v d e trees trees' second s (λ c needed. words v c needed ∙ chosen_second h1 _ _ off)))

-- a register that is set, and one that isn't
module _ (d : List Node) (trees : Arena) (code : Listing) (s : Slot) (r : ℕ) (h : SlotIn d trees code s) (there : is_there code.registers r ≡ true) where
  abbrev TheWord : Id → Type 0
  TheWord id = IsValue d id (type_width (slice_index_or code.registers r types.Int)) (λ v. register (held v d trees code s) r)

  held_word : (v : ℕ → ℕ) → register (held v d trees code s) r ≡ word_or_0 (value v d) (looked trees s.root r)
  held_word v = words_first (value v d) (looked trees s.root) r code.registers (test_below r (length code.registers) there)

  pub register_set : (id : Id) → looked trees s.root r ≡ Some id → TheWord id
  register_set id is =
      let word = h.tree.live r id is in
      record { there = word.there; width_is = word.width_is ∙ ap type_width (register_type code r (test_below r (length code.registers) there)); value_is = λ v. sym (held_word v ∙ ap (word_or_0 (value v d)) is) }

  pub register_unset : (ts : List IntegerType) (id : Id) → ts ≡ code.registers → id ≡ zero_of s.zeros (get_or ts r types.Bool) → looked trees s.root r ≡ None → TheWord id
  register_unset ts id same at is =
      let lt = test_below r (length code.registers) there in
      let t_is : get_or ts r types.Bool ≡ slice_index_or code.registers r types.Int = ap (λ us. get_or us r types.Bool) same ∙ get_or_default code.registers r types.Bool types.Int lt in
      let t = slice_index_or code.registers r types.Int in
      let word = zero_is d s.zeros t h.zeros in
      subst TheWord (sym (at ∙ ap (zero_of s.zeros) t_is)) (record { there = word.there; width_is = word.width_is; value_is = λ v. word.value_is v ∙ sym (held_word v ∙ ap (word_or_0 (value v d)) is) })

-- a register among the cells
pub cell_there : (d : List Node) (trees : Arena) (code : Listing) (s : Slot) (r : ℕ) → SlotIn d trees code s → is_there code.registers r ≡ true → r < span trees.depth
cell_there d trees code s r h there = omega (arith, test_below r (length code.registers) there, cells_length code, h.tree.room)

pub cell_word : (d : List Node) (code : Listing) (r : ℕ) (id : Id) → is_there code.registers r ≡ true → IsWord d id (type_width (slice_index_or code.registers r types.Int)) → IsWord d id (type_width (slice_index_or (cells code) r types.Int))
cell_word d code r id there word = record {
  there = word.there;
  width_is = word.width_is ∙ sym (ap type_width (register_type code r (test_below r (length code.registers) there)));
}

pub is_typed : (ts : List IntegerType) (r : ℕ) (t : IntegerType) → is_register ts r t ≡ true → (r < length ts) × (same_integer (slice_index_or ts r types.Int) t ≡ true)
is_typed ts r t h =
    let parts = both (nat_lt r (length ts)) (same_integer (slice_index_or ts r types.Int) t) h in (test_below r (length ts) parts.0, parts.1)

pub number_word : (d : List Node) (ts : List IntegerType) (r : ℕ) (t : IntegerType) (id : Id) → is_register ts r t ≡ true → IsWord d id (type_width (slice_index_or ts r types.Int)) → IsWord d id (type_width t)
number_word d ts r t id h word = record { there = word.there; width_is = word.width_is ∙ same_widths_of (slice_index_or ts r types.Int) t (is_typed ts r t h).1 }

pub result_word : (d : List Node) (ts : List IntegerType) (r : ℕ) (t : IntegerType) (i : Id) (f g : (ℕ → ℕ) → ℕ) → is_register ts r t ≡ true → IsValue d i (type_width t) f → ((v : ℕ → ℕ) → f v ≡ g v) → IsValue d i (type_width (slice_index_or ts r types.Int)) g
result_word d ts r t i f g h made same = record {
  there = made.there;
  width_is = made.width_is ∙ sym (same_widths_of (slice_index_or ts r types.Int) t (is_typed ts r t h).1);
  value_is = λ v. made.value_is v ∙ same v;
}

pub copied_word : (d : List Node) (trees : Arena) (code : Listing) (s : Slot) (o : Operation) (r a : ℕ) (i : Id) → o ≡ operations.Copy r a → operation_fits code.registers code.blocks 0 o ≡ true → IsWord d i (type_width (slice_index_or code.registers a types.Int))
    → ((v : ℕ → ℕ) → value v d i ≡ register (held v d trees code s) a) → IsValue d i (type_width (slice_index_or code.registers (into_of o) types.Int)) (λ v. result_of o (held v d trees code s))
copied_word d trees code s o r a i is fits word same =
    let rs = code.registers in
    let t = slice_index_or rs a types.Int in
    let fits' : operation_fits rs code.blocks 0 (operations.Copy r a) ≡ true = subst (λ p. operation_fits rs code.blocks 0 p ≡ true) is fits in
    let typed = is_typed rs r t (both (is_there rs a) (is_register rs r t) fits').1 in
    subst (λ p. IsValue d i (type_width (slice_index_or rs (into_of p) types.Int)) (λ v. result_of p (held v d trees code s))) (sym is) (record {
      there = word.there;
      width_is = word.width_is ∙ sym (same_widths_of (slice_index_or rs r types.Int) t typed.1);
      value_is = same;
    })
