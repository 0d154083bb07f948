-- A slot with bytes of a block put in the place of others.
use Rattle.std.proofs.Common.{◌≡◌, ℕ, zero, suc, ◌+◌, ◌-◌, ◌<◌, ◌≤◌, true, List, [], ◌∷◌, ◌++◌, length, map, take, drop, Option, Some, None, inl, inr, refl, sym, ap, subst, ◌∙◌, arith}
use Rattle.std.specs.Prelude.{if◌then◌else◌, slice_get, slice_index}
use Rattle.std.specs.Int.{w64, to_le_bytes, byte_worth, sum_through, from_le_bytes}
use Rattle.std.proofs.lemmas.Bool.{cases_lt}
use Rattle.std.proofs.lemmas.List.{length-map, length-append, length-replicate, length-take-le, get_or-take, append-nil}
use Rattle.std.proofs.lemmas.List.Elements.{All-nil, All-cons, All-head, All-tail}
use Rattle.c_types.specs.declared.integers.IntegerType.{IntegerType}
use Rattle.c_types.specs.declared.integers.IntegerType.TheVariants as types
use Rattle.c_types.specs.Integers.{width as type_width, bytes}
use Rattle.core_tree.specs.Typed.{is_within}
use Rattle.core_tree.specs.Operations.{read_bits}
use Rattle.c_values.specs.Variables.{Variables, storage, zeros, low_bytes, block_of, put_bytes, number_at, read_variable}
use Rattle.word_dag.specs.declared.nodes.Id.{Id}
use Rattle.word_dag.specs.declared.nodes.Node.{Node}
use Rattle.word_dag.specs.Meaning.{value, holds}
use Rattle.word_dag.specs.Growth.{Extends}
use Rattle.value_nodes.specs.Values.{IsWord, AreBytes}
use Rattle.value_nodes.specs.Bytes.{AreBytesOf}
use Rattle.goto_prog.specs.declared.code.Operation.TheVariants as operations
use Rattle.goto_prog.specs.Meaning.{Memory, register, with_blocks, bytes_of, calculated}
use Rattle.goto_prog.specs.Fitting.{is_block, has_bytes}
use Rattle.cell_trees.specs.Trees.{Arena, span, IsRoot, looked, Keeps, Replaced}
use Rattle.goto_prog.specs.CodeThread.{Listing}
use Rattle.goto_prog.proofs.Blocks.{bytes_few}
use Rattle.guarded_ssa.specs.declared.slots.Slot.{Slot}
use Rattle.guarded_ssa.specs.inner.Places.{updated}
use Rattle.guarded_ssa.specs.inner.Held.{total, cells, SlotIn, held, stored, guarded}
use Rattle.guarded_ssa.specs.inner.Registers.{ZerosIn, bytes_from, id_or, ids_from}
use Rattle.cell_trees.proofs.Kept.{keeps_itself}
use Rattle.guarded_ssa.proofs.Stays.{guarded_stays}
use Rattle.guarded_ssa.proofs.Meeting.{same_some}
use Rattle.guarded_ssa.proofs.Numbering.{cells_length, byte_type}
use Rattle.guarded_ssa.proofs.Blocks.{lies, is_whole, block_ends, block_length, byte_words, stored_put, put_zeros, words_alike, put_words, some_words, ids_words}
use Rattle.guarded_ssa.proofs.Passing.{updated_by}

-- bytes of a block, among the cells
pub bytes_there : (code : Listing) (b offset start count : ℕ) → is_within code.blocks b offset count ≡ true → start ≡ length code.registers + total (take b code.blocks) → start + offset + count ≤ length (cells code)
bytes_there code b offset start count there start_is =
    let parts = lies code.blocks b offset count there in
    omega (arith, parts.1, start_is, block_ends code.blocks b parts.0, cells_length code)

pub bytes_in_tree : (d : List Node) (trees : Arena) (code : Listing) (s : Slot) (b offset start count : ℕ) → SlotIn d trees code s → is_within code.blocks b offset count ≡ true → start ≡ length code.registers + total (take b code.blocks) → start + offset + count ≤ span trees.depth
bytes_in_tree d trees code s b offset start count h there start_is = omega (arith, bytes_there code b offset start count there start_is, h.tree.room)

byte_at : (d : List Node) (ids : List Id) (k : ℕ) (i : Id) → AreBytes d ids → slice_get ids k ≡ Some i → IsWord d i 8
byte_at d [] k i all is = absurd (cc)
byte_at d (j ∷ ids) zero i all is = subst (λ n. IsWord d n 8) (same_some j i is) (All-head (λ n. IsWord d n 8) j ids all)
byte_at d (j ∷ ids) (suc k) i all is = byte_at d ids k i (All-tail (λ n. IsWord d n 8) j ids all) is

module _ (d : List Node) (trees trees' : Arena) (code : Listing) (s t : Slot) (b offset start count : ℕ) (ids : List Id) (there : is_within code.blocks b offset count ≡ true) (few : length ids ≤ count)
    (start_is : start ≡ length code.registers + total (take b code.blocks)) (k : Keeps trees trees') (made : Replaced (looked trees s.root) (start + offset) count ids (looked trees' t.root)) (g : t.guard ≡ s.guard) where
  abbrev o : ℕ
  o = total (take b code.blocks) + offset

  abbrev first : ℕ
  first = length code.registers

  at : start + offset ≡ first + o
  at = omega (arith, start_is)

  own : Replaced (looked trees s.root) (first + o) count ids (looked trees' t.root)
  own = subst (λ n. Replaced (looked trees s.root) n count ids (looked trees' t.root)) at made

  pub replaced_in : SlotIn d trees code s → AreBytes d ids → IsRoot trees' t.root → t.zeros ≡ s.zeros → SlotIn d trees' code t
  replaced_in h all root z = record {
    guard = subst (λ i. IsWord d i 1) (sym g) h.guard;
    zeros = subst (ZerosIn d) (sym z) h.zeros;
    tree = record {
      room = subst (λ n. length (cells code) ≤ span n) (sym k.depth) h.tree.room;
      root = root;
      live = λ c i is.
          elim (cases_lt c (first + o)) [
            | inl low ↦ h.tree.live c i (sym (own.front c low) ∙ is)
            | inr from ↦ elim (cases_lt c (first + o + count)) [
              | inl below ↦ (let j = c - (first + o) in
                  let c_is : c ≡ first + o + j = omega (arith, from) in
                  let found : slice_get ids j ≡ Some i = sym (own.here j (omega (arith, from, below))) ∙ sym (ap (looked trees' t.root) c_is) ∙ is in
                  let word = byte_at d ids j i all found in
                  let high = bytes_there code b offset start count there start_is in
                  subst (λ u. IsWord d i (type_width u)) (sym (byte_type code c (omega (arith, from)) (omega (arith, below, high, at, cells_length code)))) word)
              | inr high ↦ h.tree.live c i (sym (own.behind c high) ∙ is)
            ]
          ];
    };
  }

  pub replaced_guarded : (v : ℕ → ℕ) → guarded v d trees' code t ≡ updated (λ m. with_blocks m (put_bytes m.blocks b offset (map (value v d) ids ++ zeros (count - length ids)))) (guarded v d trees code s)
  replaced_guarded v =
      let f = value v d in
      let n = total code.blocks in
      let W = map f ids ++ zeros (count - length ids) in
      let old = bytes_from f (looked trees s.root) first n in
      let parts = lies code.blocks b offset count there in
      let long : length W ≡ count = omega (arith, few, length-append (map f ids) (zeros (count - length ids)), length-map ids f, length-replicate {A = ℕ} (count - length ids) 0) in
      let fits : o + count ≤ n = omega (arith, parts.1, block_ends code.blocks b parts.0) in
      let a = words_alike f (looked trees s.root) (looked trees' t.root) 0 code.registers (λ c le lt. own.front c (omega (arith, lt))) in
      let bytes = put_words f (looked trees s.root) (looked trees' t.root) first o n count ids fits few own.front own.here own.behind in
      let c = ap (stored code.blocks) bytes ∙ stored_put code.blocks old W b offset parts.0 (omega (arith, parts.1, long)) (omega (arith, byte_words f (looked trees s.root) first n)) in
      let m = held v d trees code s in
      let new : Memory = with_blocks m (put_bytes m.blocks b offset W) in
      let same : guarded v d trees' code t ≡ (if holds (f s.guard) then Some new else None) = (λ i. if holds (f (g i)) then Some (record { registers = a i; blocks = c i }) else None) in
      same ∙ updated_by (holds (f s.guard)) m new (λ k. with_blocks k (put_bytes k.blocks b offset W)) refl

-- as many bytes as nodes
pub written_guarded : (v : ℕ → ℕ) (d : List Node) (trees trees' : Arena) (code : Listing) (s t : Slot) (b offset n : ℕ) (ids : List Id) → n ≡ length ids
    → guarded v d trees' code t ≡ updated (λ m. with_blocks m (put_bytes m.blocks b offset (map (value v d) ids ++ zeros (n - length ids)))) (guarded v d trees code s)
    → guarded v d trees' code t ≡ updated (λ m. with_blocks m (put_bytes m.blocks b offset (map (value v d) ids))) (guarded v d trees code s)
written_guarded v d trees trees' code s t b offset n ids same so =
    let none : n - length ids ≡ 0 = omega (arith, same) in
    so ∙ ap (λ (ys : List ℕ). updated (λ m. with_blocks m (put_bytes m.blocks b offset ys)) (guarded v d trees code s)) (ap (λ k. map (value v d) ids ++ zeros k) none ∙ append-nil (map (value v d) ids))

-- what an update does to the one memory of a slot
pub same_update : (v : ℕ → ℕ) (d : List Node) (trees : Arena) (code : Listing) (s : Slot) (f g : Memory → Memory) → f (held v d trees code s) ≡ g (held v d trees code s) → updated f (guarded v d trees code s) ≡ updated g (guarded v d trees code s)
same_update v d trees code s f g e =
    let m = held v d trees code s in
    let b = holds (value v d s.guard) in
    sym (updated_by b m (f m) f refl) ∙ updated_by b m (f m) g e

pub store_guarded : (v : ℕ → ℕ) (d e : List Node) (trees trees' : Arena) (code : Listing) (s t : Slot) (b offset count operand : ℕ) (id : Id) (ids nodes : List Id) → Extends d e → SlotIn d trees code s → value v d id ≡ register (held v d trees code s) operand → AreBytesOf e ids (λ u. low_bytes count (value u d id)) → nodes ≡ ids
    → guarded v e trees' code t ≡ updated (λ m. with_blocks m (put_bytes m.blocks b offset (map (value v e) nodes))) (guarded v e trees code s) → guarded v e trees' code t ≡ updated (calculated (operations.Store b offset count operand)) (guarded v d trees code s)
store_guarded v d e trees trees' code s t b offset count operand id ids nodes x h is made nodes_are so =
    let bytes = ap (map (value v e)) nodes_are ∙ made.values_are v ∙ ap (low_bytes count) is in
    so ∙ (let w = guarded_stays d e x trees trees (keeps_itself trees) v code s h in λ i. updated (λ m. with_blocks m (put_bytes m.blocks b offset (bytes i))) (w i))
    ∙ same_update v d trees code s (λ m. with_blocks m (put_bytes m.blocks b offset (low_bytes count (register (held v d trees code s) operand)))) (calculated (operations.Store b offset count operand)) refl

pub clear_guarded : (v : ℕ → ℕ) (d : List Node) (trees trees' : Arena) (code : Listing) (s t : Slot) (b size n : ℕ) (ids : List Id) → is_block code.blocks b size ≡ true → n ≡ size → ids ≡ []
    → guarded v d trees' code t ≡ updated (λ m. with_blocks m (put_bytes m.blocks b 0 (map (value v d) ids ++ zeros (n - length ids)))) (guarded v d trees code s) → guarded v d trees' code t ≡ updated (calculated (operations.Clear b size)) (guarded v d trees code s)
clear_guarded v d trees trees' code s t b size n ids there n_is none so =
    let f = value v d in
    let parts = is_whole code.blocks b size there in
    let total_bytes = total code.blocks in
    let old = bytes_from f (looked trees s.root) (length code.registers) total_bytes in
    let long : length (block_of (stored code.blocks old) b) ≡ size = block_length code.blocks old b parts.0 (omega (arith, byte_words f (looked trees s.root) (length code.registers) total_bytes)) ∙ sym parts.1 in
    let left : n - length ids ≡ n = omega (arith, ap length none) in
    let nodes : map f ids ++ zeros (n - length ids) ≡ zeros n = (λ i. map f (none i) ++ zeros (left i)) in
    let m = held v d trees code s in
    so ∙ same_update v d trees code s (λ k. with_blocks k (put_bytes k.blocks b 0 (map f ids ++ zeros (n - length ids)))) (calculated (operations.Clear b size))
    (ap (λ ys. with_blocks m (put_bytes m.blocks b 0 ys)) nodes ∙ ap (with_blocks m) (put_zeros m.blocks b n size n_is long))

-- as many nodes as a write has bytes
byte_count : (d : List Node) (ids : List Id) (f : (ℕ → ℕ) → ℕ) (count : ℕ) → count ≤ 8 → AreBytesOf d ids (λ v. low_bytes count (f v)) → length ids ≡ count
byte_count d ids f count le made = sym (length-map ids (value (λ x. 0) d)) ∙ ap length (made.values_are (λ x. 0)) ∙ length-take-le count (to_le_bytes w64 (f (λ x. 0))) le

pub store_fits : (d : List Node) (rs : List IntegerType) (sizes : List ℕ) (r b offset count : ℕ) (ids nodes : List Id) (f : (ℕ → ℕ) → ℕ) → has_bytes rs r count ≡ true → AreBytesOf d ids (λ v. low_bytes count (f v)) → nodes ≡ ids
    → is_within sizes b offset count ≡ true → is_within sizes b offset (length nodes) ≡ true
store_fits d rs sizes r b offset count ids nodes f enough made is there =
    let size = ap length is ∙ byte_count d ids f count (bytes_few rs r count enough) made in
    subst (λ n. is_within sizes b offset n ≡ true) (sym size) there

-- ---- the nodes of some bytes of a block

ids_length : (g : ℕ → Option Id) (other : Id) (r n : ℕ) → length (ids_from g other r n) ≡ n
ids_length g other r zero = refl
ids_length g other r (suc n) = ap suc (ids_length g other (suc r) n)

module _ (d : List Node) (trees : Arena) (code : Listing) (s : Slot) (b offset start count : ℕ) (ids : List Id) (h : SlotIn d trees code s) (there : is_within code.blocks b offset count ≡ true)
    (start_is : start ≡ length code.registers + total (take b code.blocks)) (is : ids ≡ ids_from (looked trees s.root) s.zeros.byte (start + offset) count) where
  byte_or : (c : ℕ) (x : Option Id) → looked trees s.root c ≡ x → length code.registers ≤ c → c < length code.registers + total code.blocks → IsWord d (id_or s.zeros.byte x) 8
  byte_or c None e low high = record { there = h.zeros.byte.there; width_is = h.zeros.byte.width_is }
  byte_or c (Some i) e low high = subst (λ t. IsWord d i (type_width t)) (byte_type code c low high) (h.tree.live c i e)

  bytes_all : (c n : ℕ) → length code.registers ≤ c → c + n ≤ length code.registers + total code.blocks → AreBytes d (ids_from (looked trees s.root) s.zeros.byte c n)
  bytes_all c zero low high = All-nil (λ i. IsWord d i 8)
  bytes_all c (suc n) low high =
      All-cons (λ i. IsWord d i 8) (id_or s.zeros.byte (looked trees s.root c)) (ids_from (looked trees s.root) s.zeros.byte (suc c) n) (byte_or c (looked trees s.root c) refl low (omega (arith, high)))
      (bytes_all (suc c) n (omega (arith, low)) (omega (arith, high)))

  pub some_made : AreBytesOf d ids (λ v. bytes_of (held v d trees code s).blocks b offset count)
  some_made = record {
    words =
        let fits = bytes_there code b offset start count there start_is in
        subst (AreBytes d) (sym is) (bytes_all (start + offset) count (omega (arith, start_is)) (omega (arith, fits, cells_length code)));
    values_are = λ v.
        let f = value v d in
        ap (map f) is ∙ ids_words f (looked trees s.root) s.zeros.byte (start + offset) count (h.zeros.byte.value_is v)
        ∙ sym (some_words f (looked trees s.root) (length code.registers) b offset count (start + offset) code.blocks there (ap (λ k. k + offset) start_is));
  }

  pub some_size : length ids ≡ count
  some_size = ap length is ∙ ids_length (looked trees s.root) s.zeros.byte (start + offset) count

-- a number is that of its own bytes

sum_same : (f g : ℕ → ℕ) (k : ℕ) → ((i : ℕ) → i ≤ k → f i ≡ g i) → sum_through f k ≡ sum_through g k
sum_same f g zero h = h 0 (omega arith)
sum_same f g (suc k) h = let a = sum_same f g k (λ i le. h i (omega (arith, le))) in let b = h (suc k) (omega arith) in λ i. a i + b i

through : (k n : ℕ) (xs : List ℕ) → k < n → sum_through (λ i. byte_worth i (slice_index (take n xs) i)) k ≡ sum_through (λ i. byte_worth i (slice_index xs i)) k
through k n xs lt = sum_same (λ i. byte_worth i (slice_index (take n xs) i)) (λ i. byte_worth i (slice_index xs i)) k (λ i le. ap (byte_worth i) (get_or-take n xs i 0 (omega (arith, le, lt))))

own_bytes : (t : IntegerType) (xs : List ℕ) → from_le_bytes (storage t) (take (bytes t) xs) ≡ from_le_bytes (storage t) xs
own_bytes types.Bool xs = through 0 1 xs (omega arith)
own_bytes types.Char xs = through 0 1 xs (omega arith)
own_bytes types.SignedChar xs = through 0 1 xs (omega arith)
own_bytes types.UnsignedChar xs = through 0 1 xs (omega arith)
own_bytes types.Short xs = through 1 2 xs (omega arith)
own_bytes types.UnsignedShort xs = through 1 2 xs (omega arith)
own_bytes types.Int xs = through 3 4 xs (omega arith)
own_bytes types.UnsignedInt xs = through 3 4 xs (omega arith)
own_bytes types.Long xs = through 7 8 xs (omega arith)
own_bytes types.UnsignedLong xs = through 7 8 xs (omega arith)
own_bytes types.LongLong xs = through 7 8 xs (omega arith)
own_bytes types.UnsignedLongLong xs = through 7 8 xs (omega arith)

pub load_same : (t : IntegerType) (blocks : Variables) (b offset n : ℕ) (xs : List ℕ) → n ≡ bytes t → xs ≡ bytes_of blocks b offset n → number_at t 0 xs ≡ read_variable blocks b offset t
load_same t blocks b offset n xs n_is is = ap (number_at t 0) (is ∙ ap (bytes_of blocks b offset) n_is) ∙ ap (read_bits t) (own_bytes t (drop offset (block_of blocks b)))

pub within_by_size : (sizes : List ℕ) (b offset count size : ℕ) → is_within sizes b offset count ≡ true → size ≡ count → is_within sizes b offset size ≡ true
within_by_size sizes b offset count size there same = subst (λ n. is_within sizes b offset n ≡ true) (sym same) there

pub copy_guarded : (v : ℕ → ℕ) (d : List Node) (trees trees' : Arena) (code : Listing) (s t : Slot) (into to from offset count : ℕ) (ids nodes : List Id) → nodes ≡ ids → map (value v d) ids ≡ bytes_of (held v d trees code s).blocks from offset count
    → guarded v d trees' code t ≡ updated (λ m. with_blocks m (put_bytes m.blocks into to (map (value v d) nodes))) (guarded v d trees code s) → guarded v d trees' code t ≡ updated (calculated (operations.CopyBytes into to from offset count)) (guarded v d trees code s)
copy_guarded v d trees trees' code s t into to from offset count ids nodes nodes_are values so =
    let f = value v d in
    let m = held v d trees code s in
    let bytes : map f nodes ≡ bytes_of m.blocks from offset count = ap (map f) nodes_are ∙ values in
    so ∙ same_update v d trees code s (λ k. with_blocks k (put_bytes k.blocks into to (map f nodes))) (calculated (operations.CopyBytes into to from offset count)) (ap (λ (bs : List ℕ). with_blocks m (put_bytes m.blocks into to bs)) bytes)
