-- Slots with bytes of a block put at an offset that is a node, and with bytes drawn.
use Rattle.std.proofs.Common.{◌≡◌, ℕ, ◌+◌, ◌≤◌, true, List, ◌++◌, length, map, take, drop, refl, sym, ap, ◌∙◌, arith, nat_lt}
use Rattle.std.specs.Prelude.{◌==◌, ◌&&◌, nat_le, slice_index, slice_set}
use Rattle.std.proofs.lemmas.Bool.Decides.{nat_tests}
use Rattle.std.proofs.lemmas.List.{append-nil, drop_all, length-map}
use Rattle.actions.specs.Pointer.{offset_of}
use Rattle.core_tree.specs.Typed.{is_within}
use Rattle.c_values.specs.Variables.{block_of, put_at, put_bytes}
use Rattle.word_dag.specs.declared.nodes.Id.{Id}
use Rattle.word_dag.specs.declared.nodes.Node.{Node}
use Rattle.word_dag.specs.Growth.{Extends}
use Rattle.word_dag.specs.Meaning.{value}
use Rattle.value_nodes.specs.Values.{IsValue}
use Rattle.value_nodes.specs.Bytes.{AreBytesOf}
use Rattle.cell_trees.specs.Trees.{Arena}
use Rattle.cell_trees.proofs.Kept.{keeps_itself}
use Rattle.goto_prog.specs.declared.code.Operation.TheVariants as operations
use Rattle.goto_prog.specs.CodeThread.{Listing}
use Rattle.goto_prog.specs.Fitting.{is_block}
use Rattle.goto_prog.specs.Meaning.{Memory, register, with_blocks, bytes_of, taken_at, put_within, calculated}
use Rattle.goto_prog.proofs.Blocks.{within_size}
use Rattle.goto_prog.proofs.Registers.{both}
use Rattle.guarded_ssa.specs.declared.slots.Slot.{Slot}
use Rattle.event_forms.specs.Runs.{bytes_of_words}
use Rattle.guarded_ssa.specs.inner.Places.{updated}
use Rattle.guarded_ssa.specs.inner.Held.{SlotIn, held, guarded}
use Rattle.guarded_ssa.specs.inner.Results.{filled_first}
use Rattle.guarded_ssa.proofs.Stays.{guarded_stays, held_stays}
use Rattle.guarded_ssa.proofs.Blocks.{is_whole}
use Rattle.guarded_ssa.proofs.Writing.{same_update}
use Rattle.guarded_ssa.proofs.Filling.{held_block, take_whole}

-- a whole block
pub all_within : (sizes : List ℕ) (b size : ℕ) → is_block sizes b size ≡ true → is_within sizes b 0 size ≡ true
all_within sizes b size there =
    let here = (both (nat_lt b (length sizes)) (size == slice_index sizes b) there).0 in
    let fits = at_end (0 + size) (slice_index sizes b) (omega (arith, (is_whole sizes b size there).1)) in
    λ i. here i && fits i
  where
    at_end : (m n : ℕ) → m ≤ n → nat_le m n ≡ true
    at_end m n h = grind (arith, nat_tests)

module _ (v : ℕ → ℕ) (d f : List Node) (trees trees' : Arena) (code : Listing) (s t : Slot) (x : Extends d f) (h : SlotIn d trees code s) where
  -- a slot with these bytes has the memory that an operation makes of them
  pub changed_guarded : (b at : ℕ) (nodes : List Id) (bytes : List ℕ) (g : Memory → Memory) → map (value v f) nodes ≡ bytes → with_blocks (held v d trees code s) (put_bytes (held v d trees code s).blocks b at bytes) ≡ g (held v d trees code s)
      → guarded v f trees' code t ≡ updated (λ m. with_blocks m (put_bytes m.blocks b at (map (value v f) nodes))) (guarded v f trees code s) → guarded v f trees' code t ≡ updated g (guarded v d trees code s)
  changed_guarded b at nodes bytes g values same so =
      so ∙ (let w = guarded_stays d f x trees trees (keeps_itself trees) v code s h in λ i. updated (λ m. with_blocks m (put_bytes m.blocks b at (values i))) (w i))
      ∙ same_update v d trees code s (λ m. with_blocks m (put_bytes m.blocks b at bytes)) g same

module _ (v : ℕ → ℕ) (d e : List Node) (trees : Arena) (code : Listing) (s : Slot) (x : Extends d e) (h : SlotIn d trees code s) where
  -- the bytes of blocks stay
  pub bytes_held : (b at count : ℕ) → bytes_of (held v e trees code s).blocks b at count ≡ bytes_of (held v d trees code s).blocks b at count
  bytes_held b at count = ap (λ (m : Memory). bytes_of m.blocks b at count) (held_stays d e x trees trees (keeps_itself trees) v code s h)

  pub block_held : (b size : ℕ) → is_block code.blocks b size ≡ true → bytes_of (held v e trees code s).blocks b 0 size ≡ block_of (held v d trees code s).blocks b
  block_held b size there =
      let parts = is_whole code.blocks b size there in
      bytes_held b 0 size ∙ take_whole size (block_of (held v d trees code s).blocks b) (omega (arith, held_block v d trees code s b parts.0, parts.1))

put_whole : (new old : List ℕ) → length new ≡ length old → put_at 0 new old ≡ new
put_whole new old same = ap (λ ys. new ++ ys) (drop_all (0 + length new) old (omega (arith, same))) ∙ append-nil new

module _ (v : ℕ → ℕ) (d e f : List Node) (trees trees' : Arena) (code : Listing) (s t : Slot) (x : Extends d e) (y : Extends e f) (z : Extends d f) (h : SlotIn d trees code s) (p at : Id) (offset : ℕ) (p_is : value v d p ≡ register (held v d trees code s) offset)
    (at_is : IsValue e at 32 (λ u. offset_of (value u d p))) where
  offset_is : value v e at ≡ offset_of (register (held v d trees code s) offset)
  offset_is = at_is.value_is v ∙ ap offset_of p_is

  -- bytes of a block from an offset on
  pub take_guarded : (into to from whole count : ℕ) (block block_now new nodes : List Id) → is_block code.blocks from whole ≡ true → AreBytesOf e block (λ u. bytes_of (held u e trees code s).blocks from 0 whole) → block_now ≡ block
      → AreBytesOf f new (λ u. taken_at count (value u e at) (map (value u e) block_now)) → nodes ≡ new
      → guarded v f trees' code t ≡ updated (λ m. with_blocks m (put_bytes m.blocks into to (map (value v f) nodes))) (guarded v f trees code s)
      → guarded v f trees' code t ≡ updated (calculated (operations.Take into to from offset count whole)) (guarded v d trees code s)
  take_guarded into to from whole count block block_now new nodes there block_is now made nodes_are so =
      let bytes : map (value v e) block_now ≡ block_of (held v d trees code s).blocks from = ap (map (value v e)) now ∙ block_is.values_are v ∙ block_held v d e trees code s x h from whole there in
      let values = ap (map (value v f)) nodes_are ∙ made.values_are v ∙ (λ i. taken_at count (offset_is i) (bytes i)) in
      changed_guarded v d f trees trees' code s t z h into to nodes (taken_at count (offset_of (register (held v d trees code s) offset)) (block_of (held v d trees code s).blocks from)) (calculated (operations.Take into to from offset count whole)) values refl so

  -- bytes put at an offset of a block
  pub put_guarded_within : (b from to whole count : ℕ) (block block_now bytes bytes_now new nodes : List Id) → is_block code.blocks b whole ≡ true → AreBytesOf e block (λ u. bytes_of (held u e trees code s).blocks b 0 whole) → block_now ≡ block
      → AreBytesOf e bytes (λ u. bytes_of (held u e trees code s).blocks from to count) → bytes_now ≡ bytes
      → AreBytesOf f new (λ u. put_within (value u e at) (map (value u e) bytes_now) (map (value u e) block_now)) → nodes ≡ new
      → guarded v f trees' code t ≡ updated (λ m. with_blocks m (put_bytes m.blocks b 0 (map (value v f) nodes))) (guarded v f trees code s)
      → guarded v f trees' code t ≡ updated (calculated (operations.Put b offset from to count whole)) (guarded v d trees code s)
  put_guarded_within b from to whole count block block_now bytes bytes_now new nodes there block_is now bytes_are bytes_now_are made nodes_are so =
      let m = held v d trees code s in
      let old : map (value v e) block_now ≡ block_of m.blocks b = ap (map (value v e)) now ∙ block_is.values_are v ∙ block_held v d e trees code s x h b whole there in
      let some : map (value v e) bytes_now ≡ bytes_of m.blocks from to count = ap (map (value v e)) bytes_now_are ∙ bytes_are.values_are v ∙ bytes_held v d e trees code s x h from to count in
      let all = put_within (offset_of (register m offset)) (bytes_of m.blocks from to count) (block_of m.blocks b) in
      let values : map (value v f) nodes ≡ all = ap (map (value v f)) nodes_are ∙ made.values_are v ∙ (λ i. put_within (offset_is i) (some i) (old i)) in
      let same : with_blocks m (put_bytes m.blocks b 0 all) ≡ calculated (operations.Put b offset from to count whole) m =
      ap (λ (ys : List ℕ). with_blocks m (slice_set m.blocks b ys)) (put_whole all (block_of m.blocks b) (within_size (offset_of (register m offset)) (bytes_of m.blocks from to count) (block_of m.blocks b))) in
      changed_guarded v d f trees trees' code s t z h b 0 nodes all (calculated (operations.Put b offset from to count whole)) values same so

-- drawn bytes in front of those that were there
pub drawn_guarded : (v : ℕ → ℕ) (d e f : List Node) (trees trees' : Arena) (code : Listing) (s t : Slot) → Extends d e → Extends d f → SlotIn d trees code s → (b most : ℕ) (count : Id) (words new new_now old old_now bytes nodes : List Id) → value v e count ≡ value v d count
    → length new ≡ most → AreBytesOf e new (λ u. bytes_of_words most (map (value u d) words)) → new_now ≡ new → AreBytesOf e old (λ u. bytes_of (held u e trees code s).blocks b 0 most) → old_now ≡ old
    → AreBytesOf f bytes (λ u. take (value u e count) (map (value u e) new_now) ++ drop (value u e count) (map (value u e) old_now)) → nodes ≡ bytes
    → guarded v f trees' code t ≡ updated (λ m. with_blocks m (put_bytes m.blocks b 0 (map (value v f) nodes))) (guarded v f trees code s)
    → guarded v f trees' code t ≡ updated (filled_first b (value v d count) (bytes_of_words most (map (value v d) words))) (guarded v d trees code s)
drawn_guarded v d e f trees trees' code s t x z h b most count words new new_now old old_now bytes nodes count_is long new_is new_now_is old_is old_now_is made nodes_are so =
    let m = held v d trees code s in
    let n = value v d count in
    let drawn = bytes_of_words most (map (value v d) words) in
    let first : map (value v e) new_now ≡ drawn = ap (map (value v e)) new_now_is ∙ new_is.values_are v in
    let size : most ≡ length drawn = sym long ∙ sym (length-map new (value v e)) ∙ ap length (new_is.values_are v) in
    let behind : map (value v e) old_now ≡ take (length drawn) (block_of m.blocks b) =
    ap (map (value v e)) old_now_is ∙ old_is.values_are v ∙ bytes_held v d e trees code s x h b 0 most ∙ ap (λ k. take k (block_of m.blocks b)) size in
    let values = ap (map (value v f)) nodes_are ∙ made.values_are v ∙ (λ i. take (count_is i) (first i) ++ drop (count_is i) (behind i)) in
    changed_guarded v d f trees trees' code s t z h b 0 nodes (take n drawn ++ drop n (take (length drawn) (block_of m.blocks b))) (filled_first b n drawn) values refl so
