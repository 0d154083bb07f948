-- What a valuation sees stays in a graph and in trees that have grown.
use Rattle.std.proofs.Common.{◌≡◌, ℕ, ◌≤◌, List, [], ◌∷◌, length, Option, Some, None, refl, sym, ap, subst, ◌∙◌}
use Rattle.std.specs.Prelude.{slice_index_or, replicate, if◌then◌else◌}
use Rattle.std.specs.List.{All}
use Rattle.std.proofs.lemmas.List.Elements.{All-head, All-tail, All-weaker}
use Rattle.c_types.specs.declared.integers.IntegerType.{IntegerType}
use Rattle.c_types.specs.declared.integers.IntegerType.TheVariants as types
use Rattle.c_types.specs.Integers.{width as type_width}
use Rattle.word_dag.specs.declared.nodes.Id.{Id}
use Rattle.word_dag.specs.declared.nodes.Node.{Node}
use Rattle.word_dag.specs.Meaning.{value, holds}
use Rattle.word_dag.specs.Growth.{Within, Extends}
use Rattle.word_dag.proofs.Grown.{within_stays}
use Rattle.value_nodes.specs.Values.{IsValue}
use Rattle.cell_trees.specs.declared.arena.Root.{Root}
use Rattle.cell_trees.specs.Trees.{Arena, span, looked, Keeps}
use Rattle.cell_trees.proofs.Kept.{keeps_itself, root_stays, looked_stays}
use Rattle.goto_prog.specs.CodeThread.{Listing}
use Rattle.guarded_ssa.specs.declared.registers.Zeros.{Zeros}
use Rattle.guarded_ssa.specs.declared.slots.Slot.{Slot}
use Rattle.guarded_ssa.specs.declared.pass.Pass.{Pass}
use Rattle.event_forms.specs.Forms.{FormIn}
use Rattle.event_forms.proofs.Stays.{word_stays, form_stays}
use Rattle.guarded_ssa.specs.inner.Registers.{ZerosIn, TreeIn, word_or_0, words_from}
use Rattle.guarded_ssa.proofs.CellWords.{words_same}
use Rattle.guarded_ssa.specs.inner.Held.{SlotIn, PendingIn, PassIn, cells, total, stored, held, guarded, arrival, arrivals}

module _ (d e : List Node) (x : Extends d e) where
  pub zeros_stay : (z : Zeros) → ZerosIn d z → ZerosIn e z
  zeros_stay z h = record { byte = zero_stays z.byte 8 h.byte; short = zero_stays z.short 16 h.short; int = zero_stays z.int 32 h.int; long = zero_stays z.long 64 h.long }
    where
      zero_stays : (i : Id) (w : ℕ) → IsValue d i w (λ v. 0) → IsValue e i w (λ v. 0)
      zero_stays i w h = record { there = within_stays d e i x h.there; width_is = x.width_stays i h.there ∙ h.width_is; value_is = λ v. x.value_stays v i h.there ∙ h.value_is v }

  word_or_0_stays : (v : ℕ → ℕ) (o : Option Id) → ((i : Id) → o ≡ Some i → Within d i) → word_or_0 (value v e) o ≡ word_or_0 (value v d) o
  word_or_0_stays v None h = refl
  word_or_0_stays v (Some i) h = x.value_stays v i (h i refl)

  -- ---- cells

  module _ (trees trees' : Arena) (k : Keeps trees trees') where
    pub tree_stays : (ts : List IntegerType) (r : Root) → TreeIn d trees ts r → TreeIn e trees' ts r
    tree_stays ts r h = record {
      room = subst (λ n. length ts ≤ span n) (sym k.depth) h.room;
      root = root_stays trees trees' r k h.root;
      live = λ c i is. word_stays d e x i (type_width (slice_index_or ts c types.Int)) (h.live c i (sym (looked_stays trees trees' r c k h.root) ∙ is));
    }

    pub cell_stays : (v : ℕ → ℕ) (ts : List IntegerType) (r : Root) (c : ℕ) → TreeIn d trees ts r → word_or_0 (value v e) (looked trees' r c) ≡ word_or_0 (value v d) (looked trees r c)
    cell_stays v ts r c h = ap (word_or_0 (value v e)) (looked_stays trees trees' r c k h.root) ∙ word_or_0_stays v (looked trees r c) (λ i is. (h.live c i is).there)

    pub words_of_stay : (v : ℕ → ℕ) (ts us : List IntegerType) (n : ℕ) (r : Root) → TreeIn d trees ts r → words_from (value v e) (looked trees' r) n us ≡ words_from (value v d) (looked trees r) n us
    words_of_stay v ts us n r h = words_same (value v d) (value v e) (looked trees r) (looked trees' r) n us (λ c le lt. cell_stays v ts r c h)

    pub slot_stays : (code : Listing) (s : Slot) → SlotIn d trees code s → SlotIn e trees' code s
    slot_stays code s h = record {
      guard = word_stays d e x s.guard 1 h.guard;
      zeros = zeros_stay s.zeros h.zeros;
      tree = tree_stays (cells code) s.root h.tree;
    }

    pub held_stays : (v : ℕ → ℕ) (code : Listing) (s : Slot) → SlotIn d trees code s → held v e trees' code s ≡ held v d trees code s
    held_stays v code s h =
        let q = words_of_stay v (cells code) code.registers 0 s.root h.tree in
        let r = words_of_stay v (cells code) (replicate (total code.blocks) types.Char) (length code.registers) s.root h.tree in
        λ i. record { registers = q i; blocks = stored code.blocks (r i) }

    pub guarded_stays : (v : ℕ → ℕ) (code : Listing) (s : Slot) → SlotIn d trees code s → guarded v e trees' code s ≡ guarded v d trees code s
    guarded_stays v code s h =
        let p = x.value_stays v s.guard h.guard.there in
        let q = held_stays v code s h in
        λ i. if holds (p i) then Some (q i) else None

    pending_stays : (code : Listing) (s : Option Slot) → PendingIn d trees code s → PendingIn e trees' code s
    pending_stays code None h = tt
    pending_stays code (Some s) h = slot_stays code s h

    arrival_stays : (v : ℕ → ℕ) (code : Listing) (s : Option Slot) → PendingIn d trees code s → arrival v e trees' code s ≡ arrival v d trees code s
    arrival_stays v code None h = refl
    arrival_stays v code (Some s) h = guarded_stays v code s h

    pub arrivals_stay : (v : ℕ → ℕ) (code : Listing) (pending : List (Option Slot)) → All (PendingIn d trees code) pending → arrivals v e trees' code pending ≡ arrivals v d trees code pending
    arrivals_stay v code [] h = refl
    arrivals_stay v code (s ∷ pending) h =
        let p = arrival_stays v code s (All-head (PendingIn d trees code) s pending h) in
        let q = arrivals_stay v code pending (All-tail (PendingIn d trees code) s pending h) in
        λ i. p i ∷ q i

    pub all_pending_stay : (code : Listing) (pending : List (Option Slot)) → All (PendingIn d trees code) pending → All (PendingIn e trees' code) pending
    all_pending_stay code pending h = All-weaker (PendingIn d trees code) (PendingIn e trees' code) (λ s k. pending_stays code s k) pending h

  -- the same where the trees are the same
  pub slot_grows : (trees : Arena) (code : Listing) (s : Slot) → SlotIn d trees code s → SlotIn e trees code s
  slot_grows trees code s h = slot_stays trees trees (keeps_itself trees) code s h

  -- the events and the memories of a pass
  pub pass_moves : (code : Listing) (p q : Pass) → Keeps p.trees q.trees → q.events.items ≡ p.events.items → q.pending.items ≡ p.pending.items → PassIn d code p → PassIn e code q
  pass_moves code p q k events pending h = record {
    events = subst (FormIn e) (sym events) (form_stays d e x p.events.items h.events);
    pending = subst (All (PendingIn e q.trees code)) (sym pending) (all_pending_stay p.trees q.trees k code p.pending.items h.pending);
  }

  pub pass_stays : (code : Listing) (p : Pass) → PassIn d code p → PassIn e code p
  pass_stays code p h = pass_moves code p p (keeps_itself p.trees) refl refl h
