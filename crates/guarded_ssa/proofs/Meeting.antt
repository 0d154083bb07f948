-- Cells of two trees that meet.
use Rattle.std.proofs.Common.{◌≡◌, ℕ, suc, ◌+◌, ◌<◌, ◌≤◌, Bool, true, false, true≢false, List, ◌∷◌, length, drop, get_or, Option, Some, None, inl, inr, refl, sym, ap, subst, ◌∙◌, arith}
use Rattle.std.specs.Prelude.{◌==◌, if◌then◌else◌, slice_index_or}
use Rattle.std.proofs.lemmas.Bool.{cases_Bool}
use Rattle.std.proofs.lemmas.List.{get_or_default}
use Rattle.std.proofs.Math.Seq.{drop-cons}
use Rattle.std.proofs.Math.ListN.{drop_of_length-le}
use Rattle.c_types.specs.declared.integers.IntegerType.{IntegerType}
use Rattle.c_types.specs.declared.integers.IntegerType.TheVariants as types
use Rattle.c_types.specs.Integers.{width as type_width}
use Rattle.word_dag.specs.declared.nodes.Id.{Id}
use Rattle.word_dag.specs.declared.nodes.Node.{Node}
use Rattle.word_dag.specs.Meaning.{value, holds}
use Rattle.word_dag.specs.Growth.{Within, Extends}
use Rattle.word_dag.proofs.Grown.{extends_itself, extends_more}
use Rattle.value_nodes.specs.Values.{IsWord, IsValue}
use Rattle.cell_trees.specs.declared.arena.Root.{Root}
use Rattle.cell_trees.specs.Trees.{Arena, span, IsRoot, looked, Keeps, among}
use Rattle.cell_trees.proofs.Kept.{keeps_itself, keeps_more}
use Rattle.guarded_ssa.specs.declared.registers.Zeros.{Zeros}
use Rattle.guarded_ssa.specs.inner.Registers.{ZerosIn, TreeIn, Merged, is_needed, word_or_0, zero_of}
use Rattle.guarded_ssa.proofs.CellWords.{if_true, if_false, is_same, are_same}
use Rattle.event_forms.proofs.Stays.{word_stays}
use Rattle.guarded_ssa.proofs.Stays.{cell_stays}

pub zero_is : (d : List Node) (z : Zeros) (t : IntegerType) → ZerosIn d z → IsValue d (zero_of z t) (type_width t) (λ v. 0)
zero_is d z types.Bool h = h.byte
zero_is d z types.Char h = h.byte
zero_is d z types.SignedChar h = h.byte
zero_is d z types.UnsignedChar h = h.byte
zero_is d z types.Short h = h.short
zero_is d z types.UnsignedShort h = h.short
zero_is d z types.Int h = h.int
zero_is d z types.UnsignedInt h = h.int
zero_is d z types.Long h = h.long
zero_is d z types.UnsignedLong h = h.long
zero_is d z types.LongLong h = h.long
zero_is d z types.UnsignedLongLong h = h.long

id_or : Id → Option Id → Id
id_or i None = i
id_or i (Some j) = j

pub same_some : (i j : Id) → Some i ≡ Some j → i ≡ j
unfolding id_or
same_some i j e = ap (id_or i) e

pub none_some : (i : Id) → None ≡ Some i → ⊥
none_some i e = cc

-- ---- the node of a cell that is set, and of one that isn't

module _ (d : List Node) (trees : Arena) (ts : List IntegerType) (root : Root) (c : ℕ) where
  abbrev pub TheNode : Id → Type 0
  TheNode id = IsValue d id (type_width (slice_index_or ts c types.Int)) (λ v. word_or_0 (value v d) (looked trees root c))

  pub set_node : (id : Id) → TreeIn d trees ts root → looked trees root c ≡ Some id → TheNode id
  set_node id h is =
      let word = h.live c id is in
      record { there = word.there; width_is = word.width_is; value_is = λ v. sym (ap (word_or_0 (value v d)) is) }

  pub unset_node : (z : Zeros) (id : Id) → ZerosIn d z → c < length ts → id ≡ zero_of z (get_or ts c types.Bool) → looked trees root c ≡ None → TheNode id
  unset_node z id zeros lt id_is is =
      let t = slice_index_or ts c types.Int in
      let t_is : get_or ts c types.Bool ≡ t = get_or_default ts c types.Bool types.Int lt in
      let word = zero_is d z t zeros in
      subst TheNode (sym (id_is ∙ ap (zero_of z) t_is)) (record { there = word.there; width_is = word.width_is; value_is = λ v. word.value_is v ∙ sym (ap (word_or_0 (value v d)) is) })

-- ---- one cell is set

module _ (d e : List Node) (trees trees' : Arena) (ts : List IntegerType) (root new : Root) (cell : ℕ) (id : Id) (x : Extends d e) (k : Keeps trees trees')
    (set : (c : ℕ) → looked trees' new c ≡ (if cell == c then Some id else looked trees root c)) where
  set_here : (c : ℕ) → (cell == c) ≡ true → looked trees' new c ≡ Some id
  set_here c on = set c ∙ if_true (cell == c) (Some id) (looked trees root c) on

  set_other : (c : ℕ) → (cell == c) ≡ false → looked trees' new c ≡ looked trees root c
  set_other c off = set c ∙ if_false (cell == c) (Some id) (looked trees root c) off

  pub set_tree : TreeIn d trees ts root → IsRoot trees' new → IsWord e id (type_width (slice_index_or ts cell types.Int)) → TreeIn e trees' ts new
  set_tree h there word = record {
    room = subst (λ n. length ts ≤ span n) (sym k.depth) h.room;
    root = there;
    live = λ c i is.
        elim (cases_Bool (cell == c)) [
          | inl on ↦ subst (λ n. IsWord e i (type_width (slice_index_or ts n types.Int))) (are_same cell c on)
              (subst (λ j. IsWord e j (type_width (slice_index_or ts cell types.Int))) (same_some id i (sym (set_here c on) ∙ is)) word)
          | inr off ↦ word_stays d e x i (type_width (slice_index_or ts c types.Int)) (h.live c i (sym (set_other c off) ∙ is))
        ];
  }

  pub set_apart : (c : ℕ) → (cell ≡ c → ⊥) → looked trees' new c ≡ looked trees root c
  set_apart c other =
      elim (cases_Bool (cell == c)) [
        | inl on ↦ absurd (other (are_same cell c on))
        | inr off ↦ set_other c off
      ]

  -- the choice of two nodes
  pub set_choice : (test one other : Id) (p q : (ℕ → ℕ) → ℕ) (w : ℕ) → IsValue e id w (λ v. if holds (value v d test) then value v d one else value v d other) → ((v : ℕ → ℕ) → value v d one ≡ p v) → ((v : ℕ → ℕ) → value v d other ≡ q v)
      → (v : ℕ → ℕ) → word_or_0 (value v e) (looked trees' new cell) ≡ (if holds (value v d test) then p v else q v)
  set_choice test one other p q w made one_is other_is v =
      let a = one_is v in
      let b = other_is v in
      ap (word_or_0 (value v e)) (set_here cell (is_same cell cell refl)) ∙ made.value_is v ∙ (λ i. if holds (value v d test) then a i else b i)

-- ---- one cell is dropped

module _ (d : List Node) (trees trees' : Arena) (ts : List IntegerType) (root new : Root) (cell : ℕ) (k : Keeps trees trees') (set : (c : ℕ) → looked trees' new c ≡ (if cell == c then None else looked trees root c)) where
  dropped_other : (c : ℕ) → (cell == c) ≡ false → looked trees' new c ≡ looked trees root c
  dropped_other c off = set c ∙ if_false (cell == c) None (looked trees root c) off

  pub dropped_tree : TreeIn d trees ts root → IsRoot trees' new → TreeIn d trees' ts new
  dropped_tree h there = record {
    room = subst (λ n. length ts ≤ span n) (sym k.depth) h.room;
    root = there;
    live = λ c i is.
        elim (cases_Bool (cell == c)) [
          | inl on ↦ absurd (none_some i (sym (set c ∙ if_true (cell == c) None (looked trees root c) on) ∙ is))
          | inr off ↦ h.live c i (sym (dropped_other c off) ∙ is)
        ];
  }

  pub dropped_apart : (c : ℕ) → (cell ≡ c → ⊥) → looked trees' new c ≡ looked trees root c
  dropped_apart c other =
      elim (cases_Bool (cell == c)) [
        | inl on ↦ absurd (other (are_same cell c on))
        | inr off ↦ dropped_other c off
      ]

-- ---- all cells that differ

-- those that are gone through are the choice of both sides, and the others of them are left
pub record Joining (d e : List Node) (trees trees' : Arena) (ts : List IntegerType) (until owner : List ℕ) (place : ℕ) (test : Id) (first second new : Root) (rest : List ℕ) : Type 0 where
  pub extends : Extends d e
  pub keeps : Keeps trees trees'
  pub tree : TreeIn e trees' ts new
  pub done : (v : ℕ → ℕ) (c : ℕ) → is_needed until owner place c ≡ true → among rest c ≡ false
      → word_or_0 (value v e) (looked trees' new c) ≡ (if holds (value v d test) then word_or_0 (value v d) (looked trees first c) else word_or_0 (value v d) (looked trees second c))

either_same : (b : Bool) (x : ℕ) → x ≡ (if b then x else x)
either_same true x = refl
either_same false x = refl

module _ (d : List Node) (trees : Arena) (ts : List IntegerType) (until owner : List ℕ) (place : ℕ) (test : Id) (first second : Root) where
  joining_none : (cells : List ℕ) → TreeIn d trees ts first → ((c : ℕ) → among cells c ≡ false → looked trees first c ≡ looked trees second c) → Joining d d trees trees ts until owner place test first second first cells
  joining_none cells tree same = record {
    extends = extends_itself d;
    keeps = keeps_itself trees;
    tree = tree;
    done = λ v c needed apart.
        let h = holds (value v d test) in
        let p = word_or_0 (value v d) (looked trees first c) in
        either_same h p ∙ ap (λ (n : ℕ). if h then p else n) (ap (word_or_0 (value v d)) (same c apart));
  }

  -- the other side
  joining_other : (cells : List ℕ) → TreeIn d trees ts second → ((c : ℕ) → among cells c ≡ false → looked trees first c ≡ looked trees second c) → Joining d d trees trees ts until owner place test first second second cells
  joining_other cells tree same = record {
    extends = extends_itself d;
    keeps = keeps_itself trees;
    tree = tree;
    done = λ v c needed apart.
        let h = holds (value v d test) in
        let q = word_or_0 (value v d) (looked trees second c) in
        either_same h q ∙ ap (λ (n : ℕ). if h then n else q) (sym (ap (word_or_0 (value v d)) (same c apart)));
  }

  pub joining_either : (straight : Bool) (root : Root) (cells : List ℕ) → root ≡ (if straight then second else first) → TreeIn d trees ts first → TreeIn d trees ts second → ((c : ℕ) → among cells c ≡ false → looked trees first c ≡ looked trees second c)
      → Joining d d trees trees ts until owner place test first second root cells
  joining_either true root cells is one two same = subst (λ r. Joining d d trees trees ts until owner place test first second r cells) (sym is) (joining_other cells two same)
  joining_either false root cells is one two same = subst (λ r. Joining d d trees trees ts until owner place test first second r cells) (sym is) (joining_none cells one same)

  module _ (one : TreeIn d trees ts first) (two : TreeIn d trees ts second) (there : Within d test) where
    pub joining_more : (e f : List Node) (trees' trees'' : Arena) (root new : Root) (cell : ℕ) (rest : List ℕ) → Joining d e trees trees' ts until owner place test first second root (cell ∷ rest) → Extends e f → Keeps trees' trees'' → TreeIn f trees'' ts new
        → (is_needed until owner place cell ≡ true → (v : ℕ → ℕ) → word_or_0 (value v f) (looked trees'' new cell) ≡ (if holds (value v e test) then word_or_0 (value v e) (looked trees' first cell) else word_or_0 (value v e) (looked trees' second cell)))
        → ((c : ℕ) → (cell ≡ c → ⊥) → looked trees'' new c ≡ looked trees' root c) → Joining d f trees trees'' ts until owner place test first second new rest
    joining_more e f trees' trees'' root new cell rest so x k tree chosen others = record {
      extends = extends_more d e f so.extends x;
      keeps = keeps_more trees trees' trees'' so.keeps k;
      tree = tree;
      done = λ v c needed apart.
          elim (cases_Bool (cell == c)) [
            | inl on ↦ (let same : cell ≡ c = are_same cell c on in
                let t = so.extends.value_stays v test there in
                let a = cell_stays d e so.extends trees trees' so.keeps v ts first cell one in
                let b = cell_stays d e so.extends trees trees' so.keeps v ts second cell two in
                subst (λ n. word_or_0 (value v f) (looked trees'' new n) ≡ (if holds (value v d test) then word_or_0 (value v d) (looked trees first n) else word_or_0 (value v d) (looked trees second n))) same
                (chosen (ap (is_needed until owner place) same ∙ needed) v ∙ (λ i. if holds (t i) then a i else b i)))
            | inr off ↦ (let other : cell ≡ c → ⊥ = λ e'. true≢false (sym (is_same cell c e') ∙ off) in
                ap (word_or_0 (value v f)) (others c other) ∙ root_stays v c
                ∙ so.done v c needed (if_false (cell == c) true (among rest c) off ∙ apart))
          ];
    }
      where
        root_stays : (v : ℕ → ℕ) (c : ℕ) → word_or_0 (value v f) (looked trees' root c) ≡ word_or_0 (value v e) (looked trees' root c)
        root_stays v c = cell_stays e f x trees' trees' (keeps_itself trees') v ts root c so.tree

    -- as the loop names them
    pub joining_next : (e f : List Node) (trees' trees'' : Arena) (root new : Root) (cell z k : ℕ) (cells : List ℕ) → k < length cells → cell ≡ get_or cells k z → Joining d e trees trees' ts until owner place test first second root (drop k cells) → Extends e f → Keeps trees' trees'' → TreeIn f trees'' ts new
        → (is_needed until owner place cell ≡ true → (v : ℕ → ℕ) → word_or_0 (value v f) (looked trees'' new cell) ≡ (if holds (value v e test) then word_or_0 (value v e) (looked trees' first cell) else word_or_0 (value v e) (looked trees' second cell)))
        → ((c : ℕ) → (cell ≡ c → ⊥) → looked trees'' new c ≡ looked trees' root c) → Joining d f trees trees'' ts until owner place test first second new (drop (k + 1) cells)
    joining_next e f trees' trees'' root new cell z k cells lt is so x y tree chosen others =
        let next : suc k ≡ k + 1 = omega arith in
        let front : drop k cells ≡ cell ∷ drop (k + 1) cells = drop-cons cells k z lt ∙ (λ i. sym is i ∷ drop (next i) cells) in
        joining_more e f trees' trees'' root new cell (drop (k + 1) cells) (subst (Joining d e trees trees' ts until owner place test first second root) front so) x y tree chosen others

  pub joined_all : (e : List Node) (trees' : Arena) (root : Root) (k : ℕ) (cells : List ℕ) → length cells ≤ k → Joining d e trees trees' ts until owner place test first second root (drop k cells) → Merged d e trees trees' ts until owner place test first second root
  joined_all e trees' root k cells le so = record {
    tree = so.tree;
    words = λ v c needed. so.done v c needed (ap (λ xs. among xs c) (drop_of_length-le cells le));
  }
