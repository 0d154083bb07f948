-- What operations reached with a slot tell, and where they lead.
use Rattle.std.proofs.Common.{◌≡◌, ℕ, suc, ◌+◌, ◌^◌, ◌<◌, ◌≤◌, nat_lt, Bool, true, false, List, [], ◌∷◌, ◌++◌, length, map, take, Option, Some, None, is_some, refl, sym, ap, subst, ◌∙◌, arith, append_assoc}
use Rattle.std.specs.Prelude.{not, min, nat_le, ◌&&◌, ◌==◌, if◌then◌else◌, slice_index, slice_index_or}
use Rattle.std.specs.List.{All}
use Rattle.std.proofs.lemmas.List.Elements.{All-push, All-weaker}
use Rattle.words.specs.declared.check.Class.{Class}
use Rattle.words.specs.declared.check.Class.TheVariants as classes
use Rattle.words.specs.BitVector.{word}
use Rattle.words.specs.Operators.{low_bits}
use Rattle.actions.specs.declared.action.Action.TheVariants as actions
use Rattle.actions.specs.declared.action.Answer.TheVariants as answers
use Rattle.actions.specs.declared.action.Next.TheVariants.{Blocked, Broken}
use Rattle.c_types.specs.declared.integers.IntegerType.{IntegerType}
use Rattle.c_types.specs.declared.integers.IntegerType.TheVariants as types
use Rattle.c_types.specs.Integers.{width as type_width, bytes, is_signed, same_integer}
use Rattle.core_tree.specs.declared.operators.ArithmeticOperator.{ArithmeticOperator}
use Rattle.core_tree.specs.declared.operators.ArithmeticOperator.TheVariants as arithmetics
use Rattle.core_tree.specs.Typed.{is_within}
use Rattle.core_tree.specs.Operations.{unless, arithmetic_check}
use Rattle.word_dag.specs.declared.nodes.Id.{Id}
use Rattle.word_dag.specs.declared.nodes.Node.{Node}
use Rattle.word_dag.specs.Meaning.{value, holds}
use Rattle.word_dag.specs.Growth.{Within, Extends, Makes}
use Rattle.word_dag.proofs.Grown.{extends_itself, extends_more, within_stays, map_stays}
use Rattle.value_nodes.specs.Bytes.{AreBytesOf}
use Rattle.event_forms.specs.Runs.{bytes_of_words}
use Rattle.guarded_ssa.specs.inner.Answers.{words_by, answer_at}
use Rattle.value_nodes.specs.Values.{IsWord, IsValue, IsTest, AreBytes}
use Rattle.goto_prog.specs.declared.code.Condition.{Condition}
use Rattle.goto_prog.specs.declared.code.Condition.TheVariants as checks
use Rattle.goto_prog.specs.declared.code.Operation.{Operation}
use Rattle.goto_prog.specs.declared.code.Operation.TheVariants as operations
use Rattle.goto_prog.specs.Meaning.{Memory, register, with_register, with_blocks, bytes_of, first_count, check_class, calculated, action_of}
use Rattle.goto_prog.specs.Fitting.{is_there, is_register, is_pointer, is_wide, is_ranged, check_fits, operation_fits}
use Rattle.c_values.specs.Numbers.{are_operands_of}
use Rattle.c_values.specs.Variables.{pointer_to, word_count, block_of, put_bytes}
use Rattle.c_values.specs.MadeObjects.{made_of}
use Rattle.actions.specs.Pointer.{object_of}
use Rattle.actions.specs.declared.action.Action.{Action}
use Rattle.cell_trees.specs.Trees.{Arena, IsRoot, looked, Keeps}
use Rattle.cell_trees.proofs.Kept.{keeps_itself}
use Rattle.goto_prog.specs.CodeThread.{Listing}
use Rattle.goto_prog.specs.Running.{is_calculation, is_exchange}
use Rattle.goto_prog.specs.UnrolledCode.{is_flat}
use Rattle.goto_prog.specs.Static.{is_static}
use Rattle.event_forms.specs.declared.forms.Event.{Event}
use Rattle.event_forms.specs.declared.forms.EventKind.TheVariants.{Draw, Fill, Read, Write, Look, Alloc, Die, Free, Exit, Check, Assume}
use Rattle.event_forms.specs.declared.forms.EventKind.{EventKind}
use Rattle.guarded_ssa.specs.declared.slots.Slot.{Slot}
use Rattle.guarded_ssa.specs.declared.pass.Pass.{Pass}
use Rattle.event_forms.specs.Arrivals.{Seen, asked, stopped}
use Rattle.guarded_ssa.specs.inner.Places.{Arrivals, arrived, updated, kept, on, breaks, drawn, drawn_into, exchanged, answered_by, behind, tells, leaves}
use Rattle.event_forms.specs.Forms.{AreWords, IsBit, KindIn, EventIn, FormIn, IsFixed, IsStaticKind, AreStatic, draws_seen, kind_seen, event_seen, seen}
use Rattle.guarded_ssa.specs.inner.Reads.{AllAlike}
use Rattle.guarded_ssa.specs.inner.Held.{SlotIn, PendingIn, PassIn, Arrives, Tells, Passes, total, cells, held, stored, guarded, arrivals}
use Rattle.guarded_ssa.specs.inner.Registers.{ZerosIn, word_or_0, bytes_from}
use Rattle.guarded_ssa.proofs.CellWords.{registers_set, if_true, if_false, is_below}
use Rattle.guarded_ssa.proofs.Blocks.{bytes_alike, stored_length}
use Rattle.guarded_ssa.specs.inner.Results.{sets_register, into_of, result_of, class_of, filled_first}
use Rattle.guarded_ssa.proofs.Needs.{all_alike_itself, all_alike_more, arrived_alike, alike_itself}
use Rattle.event_forms.proofs.Stays.{seen_stays, all_static_stay}
use Rattle.guarded_ssa.proofs.Stays.{slot_stays, guarded_stays, arrivals_stay}
use Rattle.guarded_ssa.proofs.Filling.{draws_are, words_fill, held_block, take_least, take_whole}
use Rattle.std.proofs.lemmas.Bool.{false≢true}
use Rattle.goto_prog.proofs.Registers.{both, test_below}
use Rattle.word_dag.specs.declared.nodes.Node.TheVariants.{Variable, ZeroExtend}
use Rattle.guarded_ssa.proofs.Arriving.{arrived_none}
use Rattle.guarded_ssa.proofs.Meeting.{set_tree}
use Rattle.guarded_ssa.proofs.Merging.{holds_bit, cell_word}

-- ---- a slot with a register set

pub updated_by : (b : Bool) (m n : Memory) (f : Memory → Memory) → n ≡ f m → (if b then Some n else None) ≡ updated f (if b then Some m else None)
updated_by true m n f e = ap Some e
updated_by false m n f e = refl

set_word : (f : Id → ℕ) (b : Bool) (id : Id) (x : Option Id) → word_or_0 f (if b then Some id else x) ≡ (if b then f id else word_or_0 f x)
set_word f true id x = refl
set_word f false id x = refl

module _ (d : List Node) (trees trees' : Arena) (code : Listing) (s t : Slot) (r : ℕ) (id : Id) (there : is_there code.registers r ≡ true) (g : t.guard ≡ s.guard) (set : (c : ℕ) → looked trees' t.root c ≡ (if r == c then Some id else looked trees s.root c)) where
  pub put_in : Keeps trees trees' → SlotIn d trees code s → IsRoot trees' t.root → IsWord d id (type_width (slice_index_or code.registers r types.Int)) → t.zeros ≡ s.zeros → SlotIn d trees' code t
  put_in k h root word z = record {
    guard = subst (λ i. IsWord d i 1) (sym g) h.guard;
    zeros = subst (ZerosIn d) (sym z) h.zeros;
    tree = set_tree d d trees trees' (cells code) s.root t.root r id (extends_itself d) k set h.tree root (cell_word d code r id there word);
  }

  pub put_guarded : (v : ℕ → ℕ) → guarded v d trees' code t ≡ updated (λ m. with_register m r (value v d id)) (guarded v d trees code s)
  put_guarded v =
      let f = value v d in
      let at : 0 + r ≡ r = omega arith in
      let a = registers_set f (looked trees s.root) (looked trees' t.root) 0 r (value v d id) code.registers
      (λ c. ap (word_or_0 f) (set c) ∙ set_word f (r == c) id (looked trees s.root c) ∙ ap (λ (n : ℕ). if n == c then f id else word_or_0 f (looked trees s.root c)) (sym at)) in
      let b = bytes_alike f (looked trees s.root) (looked trees' t.root) (length code.registers) (total code.blocks)
      (λ c le lt. set c ∙ if_false (r == c) (Some id) (looked trees s.root c) (is_below r c (omega (arith, le, test_below r (length code.registers) there)))) in
      let same : guarded v d trees' code t ≡ (if holds (value v d s.guard) then Some (with_register (held v d trees code s) r (value v d id)) else None) =
      (λ i. if holds (value v d (g i)) then Some (record { registers = a i; blocks = stored code.blocks (b i) }) else None) in
      same ∙ updated_by (holds (value v d s.guard)) (held v d trees code s) (with_register (held v d trees code s) r (value v d id)) (λ m. with_register m r (value v d id)) refl

result_is : (o : Operation) (m : Memory) → sets_register o ≡ true → calculated o m ≡ with_register m (into_of o) (result_of o m)
result_is (operations.Constant r bits) m h = refl
result_is (operations.Copy r a) m h = refl
result_is (operations.Load r t b offset) m h = refl
result_is (operations.Convert r from to a) m h = refl
result_is (operations.Sign r op t a) m h = refl
result_is (operations.Arithmetic r op t u a b) m h = refl
result_is (operations.Compare r op t a b) m h = refl
result_is (operations.IsZero r a) m h = refl
result_is (operations.Move r p i t k size class) m h = refl
result_is (operations.Offset r p count) m h = refl
result_is (operations.Distance r p q k) m h = refl
result_is (operations.Relate r op p q) m h = refl
result_is _ m h = absurd (false≢true h)

register_there : (rs : List IntegerType) (r : ℕ) (t : IntegerType) → is_register rs r t ≡ true → is_there rs r ≡ true
register_there rs r t h = (both (is_there rs r) (same_integer (slice_index_or rs r types.Int) t) h).0

pub into_there : (rs : List IntegerType) (bs : List ℕ) (o : Operation) → sets_register o ≡ true → operation_fits rs bs 0 o ≡ true → is_there rs (into_of o) ≡ true
into_there rs bs (operations.Constant r bits) h fits = (both (is_there rs r) (nat_lt bits (2 ^ type_width (slice_index_or rs r types.Int))) fits).0
into_there rs bs (operations.Copy r a) h fits = register_there rs r (slice_index_or rs a types.Int) (both (is_there rs a) (is_register rs r (slice_index_or rs a types.Int)) fits).1
into_there rs bs (operations.Load r t b offset) h fits = register_there rs r t (both (is_register rs r t) (is_within bs b offset (bytes t)) fits).0
into_there rs bs (operations.Convert r from to a) h fits = register_there rs r to (both (is_register rs r to) (is_register rs a from) fits).0
into_there rs bs (operations.Sign r op t a) h fits = register_there rs r t (both (is_register rs r t) (is_register rs a t) fits).0
into_there rs bs (operations.Arithmetic r op t u a b) h fits =
    let one = both (are_operands_of op t u && is_register rs r t && is_register rs a t) (is_register rs b u) fits in
    let two = both (are_operands_of op t u && is_register rs r t) (is_register rs a t) one.0 in
    let three = both (are_operands_of op t u) (is_register rs r t) two.0 in
    register_there rs r t three.1
into_there rs bs (operations.Compare r op t a b) h fits =
    let one = both (is_register rs r types.Int && is_register rs a t) (is_register rs b t) fits in
    register_there rs r types.Int (both (is_register rs r types.Int) (is_register rs a t) one.0).0
into_there rs bs (operations.IsZero r a) h fits = register_there rs r types.Int (both (is_register rs r types.Int) (is_there rs a) fits).0
into_there rs bs (operations.Move r p i t k size class) h fits = register_there rs r types.UnsignedLong (both (is_pointer rs r) (is_pointer rs p && is_register rs i t && is_pointer rs size) fits).0
into_there rs bs (operations.Offset r p count) h fits = register_there rs r types.UnsignedLong (both (is_pointer rs r) (is_pointer rs p) fits).0
into_there rs bs (operations.Distance r p q k) h fits =
    let one = both (is_register rs r types.Long && is_pointer rs p && is_pointer rs q) (nat_le 1 k) fits in
    let two = both (is_register rs r types.Long && is_pointer rs p) (is_pointer rs q) one.0 in
    register_there rs r types.Long (both (is_register rs r types.Long) (is_pointer rs p) two.0).0
into_there rs bs (operations.Relate r op p q) h fits =
    let one = both (is_register rs r types.Int && is_pointer rs p) (is_pointer rs q) fits in
    register_there rs r types.Int (both (is_register rs r types.Int) (is_pointer rs p) one.0).0
into_there rs bs _ h fits = absurd (false≢true h)

pub assigned_guarded : (v : ℕ → ℕ) (d e : List Node) (trees trees' : Arena) (code : Listing) (s t : Slot) (o : Operation) (r : ℕ) (id : Id) → Extends d e → SlotIn d trees code s → sets_register o ≡ true → r ≡ into_of o → value v e id ≡ result_of o (held v d trees code s)
    → guarded v e trees' code t ≡ updated (λ m. with_register m r (value v e id)) (guarded v e trees code s) → guarded v e trees' code t ≡ updated (calculated o) (guarded v d trees code s)
assigned_guarded v d e trees trees' code s t o r id x h sets is value_is so =
    let m = held v d trees code s in
    let b = holds (value v d s.guard) in
    let a : updated (λ k. with_register k r (value v e id)) (guarded v e trees code s) ≡ updated (λ k. with_register k (into_of o) (result_of o m)) (guarded v d trees code s) =
    (let w = guarded_stays d e x trees trees (keeps_itself trees) v code s h in λ i. updated (λ k. with_register k (is i) (value_is i)) (w i)) in
    so ∙ a ∙ sym (updated_by b m (with_register m (into_of o) (result_of o m)) (λ k. with_register k (into_of o) (result_of o m)) refl)
    ∙ updated_by b m (with_register m (into_of o) (result_of o m)) (calculated o) (sym (result_is o m sets))

-- ---- passing without an event

leads_on : (o : Operation) → is_calculation o ≡ true → (v : ℕ → ℕ) (variable : ℕ) (w : Option Memory) (ws : Arrivals) → leaves v variable o w ws ≡ arrived 0 (updated (calculated o) w) ws
leads_on (operations.Constant r bits) h v variable w ws = refl
leads_on (operations.Copy r a) h v variable w ws = refl
leads_on (operations.Load r t b offset) h v variable w ws = refl
leads_on (operations.Store b offset count a) h v variable w ws = refl
leads_on (operations.Clear b size) h v variable w ws = refl
leads_on (operations.CopyBytes into to from offset count) h v variable w ws = refl
leads_on (operations.Convert r from to a) h v variable w ws = refl
leads_on (operations.Sign r op t a) h v variable w ws = refl
leads_on (operations.Arithmetic r op t u a b) h v variable w ws = refl
leads_on (operations.Compare r op t a b) h v variable w ws = refl
leads_on (operations.IsZero r a) h v variable w ws = refl
leads_on (operations.Use a) h v variable w ws = refl
leads_on (operations.Move r p i t k size class) h v variable w ws = refl
leads_on (operations.Offset r p count) h v variable w ws = refl
leads_on (operations.Same p q) h v variable w ws = refl
leads_on (operations.Distance r p q k) h v variable w ws = refl
leads_on (operations.Relate r op p q) h v variable w ws = refl
leads_on (operations.Take b to from p count whole) h v variable w ws = refl
leads_on (operations.Put b p from to count whole) h v variable w ws = refl
leads_on _ h v variable w ws = absurd (false≢true h)

silent : (o : Operation) → is_calculation o ≡ true → (v : ℕ → ℕ) (variable line f : ℕ) (m : Memory) → tells v variable line f o m ≡ []
silent (operations.Constant r bits) h v variable line f m = refl
silent (operations.Copy r a) h v variable line f m = refl
silent (operations.Load r t b offset) h v variable line f m = refl
silent (operations.Store b offset count a) h v variable line f m = refl
silent (operations.Clear b size) h v variable line f m = refl
silent (operations.CopyBytes into to from offset count) h v variable line f m = refl
silent (operations.Convert r from to a) h v variable line f m = refl
silent (operations.Sign r op t a) h v variable line f m = refl
silent (operations.Arithmetic r op t u a b) h v variable line f m = refl
silent (operations.Compare r op t a b) h v variable line f m = refl
silent (operations.IsZero r a) h v variable line f m = refl
silent (operations.Use a) h v variable line f m = refl
silent (operations.Move r p i t k size class) h v variable line f m = refl
silent (operations.Offset r p count) h v variable line f m = refl
silent (operations.Same p q) h v variable line f m = refl
silent (operations.Distance r p q k) h v variable line f m = refl
silent (operations.Relate r op p q) h v variable line f m = refl
silent (operations.Take b to from p count whole) h v variable line f m = refl
silent (operations.Put b p from to count whole) h v variable line f m = refl
silent _ h v variable line f m = absurd (false≢true h)

nothing_on : (w : Option Memory) (tell : Memory → List Seen) → ((m : Memory) → tell m ≡ []) → on w tell ≡ []
nothing_on None tell h = refl
nothing_on (Some m) tell h = h m

pub append_nil : (xs : List Seen) → xs ++ [] ≡ xs
append_nil [] = refl
append_nil (x ∷ xs) = ap (λ ys. x ∷ ys) (append_nil xs)

-- the trees grow from those of p to those of p1
module _ (until : List ℕ) (code : Listing) (place variable line f : ℕ) (o : Operation) (d d1 e : List Node) (s s1 : Slot) (p p1 q : Pass) (x : Extends d d1) (within : PassIn d code p)
    (grows : Keeps p.trees p1.trees) (events : p1.events.items ≡ p.events.items) (pending : p1.pending.items ≡ p.pending.items) where
  abbrev Leads : ℕ → Type 0
  Leads n = (v : ℕ → ℕ) (ws : Arrivals) → leaves v variable o (guarded v d p.trees code s) ws ≡ arrived n (guarded v d1 p1.trees code s1) ws

  same_arrivals : (v : ℕ → ℕ) → arrivals v d1 p1.trees code p1.pending.items ≡ arrivals v d p.trees code p.pending.items
  same_arrivals v = ap (arrivals v d1 p1.trees code) pending ∙ arrivals_stay d d1 x p.trees p1.trees grows v code p.pending.items within.pending

  same_leads : (v : ℕ → ℕ) (n : ℕ) → Leads n → arrived n (guarded v d1 p1.trees code s1) (arrivals v d1 p1.trees code p1.pending.items) ≡ leaves v variable o (guarded v d p.trees code s) (arrivals v d p.trees code p.pending.items)
  same_leads v n leads = ap (arrived n (guarded v d1 p1.trees code s1)) (same_arrivals v) ∙ sym (leads v (arrivals v d p.trees code p.pending.items))

  pub passes_by_slot : (n : ℕ) → Extends d1 e → ((v : ℕ → ℕ) (m : Memory) → tells v variable line f o m ≡ []) → Leads n → Arrives until code place n s1 d1 e p1 q → Passes until code place variable line f o s d e p q
  passes_by_slot n y none leads arrives = record {
    within = arrives.within;
    size = arrives.size ∙ ap length pending;
    static = λ static all. subst (AreStatic e) (sym (arrives.told ∙ events)) (all_static_stay d e (extends_more d d1 e x y) p.events.items all);
    told = λ v. ap (seen v e) (arrives.told ∙ events) ∙ seen_stays d e (extends_more d d1 e x y) v p.events.items within.events ∙ sym (append_nil (seen v d p.events.items))
        ∙ ap (λ ys. seen v d p.events.items ++ ys) (sym (nothing_on (guarded v d p.trees code s) (tells v variable line f o) (none v)));
    leads = λ v. subst (AllAlike (length code.registers) until (suc place) (arrivals v e q.trees code q.pending.items)) (same_leads v n leads) (arrives.leads v);
  }

  pub passes_by_event : (event : Event) → (is_static o ≡ true → IsStaticKind d1 event.kind) → ((v : ℕ → ℕ) → event_seen v d1 event ≡ on (guarded v d p.trees code s) (tells v variable line f o)) → Leads 0 → Tells until code place event s1 d1 e p1 q → Passes until code place variable line f o s d e p q
  passes_by_event event fixed same leads tells_it = record {
    within = tells_it.within;
    size = tells_it.size ∙ ap length pending;
    static = λ static all. tells_it.static (fixed static) (subst (AreStatic d1) (sym events) (all_static_stay d d1 x p.events.items all));
    told = λ v. let a = ap (seen v d1) events ∙ seen_stays d d1 x v p.events.items within.events in let b = same v in tells_it.told v ∙ (λ i. a i ++ b i);
    leads = λ v. subst (AllAlike (length code.registers) until (suc place) (arrivals v e q.trees code q.pending.items)) (same_leads v 0 leads) (tells_it.leads v);
  }

-- a slot goes on behind an operation that sets a register or a block
pub passes_calculated : (until : List ℕ) (code : Listing) (place variable line f : ℕ) (o : Operation) (d d1 e : List Node) (s s1 : Slot) (p p1 q : Pass) → Extends d d1 → PassIn d code p → Keeps p.trees p1.trees → p1.events.items ≡ p.events.items → p1.pending.items ≡ p.pending.items → Extends d1 e → is_calculation o ≡ true
    → ((v : ℕ → ℕ) → guarded v d1 p1.trees code s1 ≡ updated (calculated o) (guarded v d p.trees code s)) → Arrives until code place 0 s1 d1 e p1 q → Passes until code place variable line f o s d e p q
passes_calculated until code place variable line f o d d1 e s s1 p p1 q x within grows events pending y calculation same arrives =
    passes_by_slot until code place variable line f o d d1 e s s1 p p1 q x within grows events pending 0 y (λ v m. silent o calculation v variable line f m)
    (λ v ws. leads_on o calculation v variable (guarded v d p.trees code s) ws ∙ ap (λ w. arrived 0 w ws) (sym (same v))) arrives

pub passes_skip : (until : List ℕ) (code : Listing) (place variable line f n : ℕ) (d e : List Node) (s : Slot) (p q : Pass) → PassIn d code p → Extends d e → Arrives until code place n s d e p q → Passes until code place variable line f (operations.Skip n) s d e p q
passes_skip until code place variable line f n d e s p q within y arrives =
    passes_by_slot until code place variable line f (operations.Skip n) d d e s s p p q (extends_itself d) within (keeps_itself p.trees) refl refl n y (λ v m. refl) (λ v ws. refl) arrives

-- one slot goes on where a jump's test is decided
leads_zero : (a n : ℕ) (g : Bool) (m : Memory) (ws : Arrivals) → (register m a == 0) ≡ true
    → arrived n (kept (λ m. register m a == 0) (if g then Some m else None)) (arrived 0 (kept (λ m. not (register m a == 0)) (if g then Some m else None)) ws) ≡ arrived n (if g then Some m else None) ws
leads_zero a n true m ws is = (λ i. arrived n (if is i then Some m else None) (arrived 0 (if not (is i) then Some m else None) ws)) ∙ ap (arrived n (Some m)) (arrived_none 0 ws)
leads_zero a n false m ws is = ap (arrived n None) (arrived_none 0 ws)

leads_other : (a n : ℕ) (g : Bool) (m : Memory) (ws : Arrivals) → (register m a == 0) ≡ false
    → arrived n (kept (λ m. register m a == 0) (if g then Some m else None)) (arrived 0 (kept (λ m. not (register m a == 0)) (if g then Some m else None)) ws) ≡ arrived 0 (if g then Some m else None) ws
leads_other a n true m ws is = (λ i. arrived n (if is i then Some m else None) (arrived 0 (if not (is i) then Some m else None) ws)) ∙ arrived_none n (arrived 0 (Some m) ws)
leads_other a n false m ws is = arrived_none n (arrived 0 None ws)

passes_zero : (until : List ℕ) (code : Listing) (place variable line f a n : ℕ) (taken : Bool) (d e : List Node) (s : Slot) (p q : Pass) → PassIn d code p → Extends d e → ((v : ℕ → ℕ) → (register (held v d p.trees code s) a == 0) ≡ taken) → taken ≡ true → Arrives until code place n s d e p q
    → Passes until code place variable line f (operations.SkipIfZero a n) s d e p q
passes_zero until code place variable line f a n taken d e s p q within y decided is arrives =
    passes_by_slot until code place variable line f (operations.SkipIfZero a n) d d e s s p p q (extends_itself d) within (keeps_itself p.trees) refl refl n y (λ v m. refl) (λ v ws. leads_zero a n (holds (value v d s.guard)) (held v d p.trees code s) ws (decided v ∙ is)) arrives

passes_other : (until : List ℕ) (code : Listing) (place variable line f a n : ℕ) (taken : Bool) (d e : List Node) (s : Slot) (p q : Pass) → PassIn d code p → Extends d e → ((v : ℕ → ℕ) → (register (held v d p.trees code s) a == 0) ≡ taken) → taken ≡ false → Arrives until code place 0 s d e p q
    → Passes until code place variable line f (operations.SkipIfZero a n) s d e p q
passes_other until code place variable line f a n taken d e s p q within y decided is arrives =
    passes_by_slot until code place variable line f (operations.SkipIfZero a n) d d e s s p p q (extends_itself d) within (keeps_itself p.trees) refl refl 0 y (λ v m. refl) (λ v ws. leads_other a n (holds (value v d s.guard)) (held v d p.trees code s) ws (decided v ∙ is)) arrives

pub passes_decided : (until : List ℕ) (code : Listing) (place variable line f a count n : ℕ) (taken : Bool) (d e : List Node) (s : Slot) (p q : Pass) → PassIn d code p → Extends d e → ((v : ℕ → ℕ) → (register (held v d p.trees code s) a == 0) ≡ taken) → n ≡ (if taken then count else 0)
    → Arrives until code place n s d e p q → Passes until code place variable line f (operations.SkipIfZero a count) s d e p q
passes_decided until code place variable line f a count n true d e s p q within y decided is arrives = passes_zero until code place variable line f a count true d e s p q within y decided refl (subst (λ k. Arrives until code place k s d e p q) is arrives)
passes_decided until code place variable line f a count n false d e s p q within y decided is arrives = passes_other until code place variable line f a count false d e s p q within y decided refl (subst (λ k. Arrives until code place k s d e p q) is arrives)

-- two slots go on
pub passes_branch : (until : List ℕ) (code : Listing) (place variable line f a n : ℕ) (d d1 d2 e : List Node) (s first second : Slot) (p p1 q : Pass) → Extends d d1 → Extends d1 d2 → Extends d2 e → PassIn d code p → SlotIn d1 p.trees code first
    → ((v : ℕ → ℕ) → guarded v d1 p.trees code first ≡ kept (λ m. register m a == 0) (guarded v d p.trees code s)) → ((v : ℕ → ℕ) → guarded v d1 p.trees code second ≡ kept (λ m. not (register m a == 0)) (guarded v d p.trees code s))
    → Arrives until code place 0 second d1 d2 p p1 → Arrives until code place n first d2 e p1 q → Passes until code place variable line f (operations.SkipIfZero a n) s d e p q
passes_branch until code place variable line f a n d d1 d2 e s first second p p1 q x y z within slot zero_is other_is one two = record {
  within = two.within;
  size = two.size ∙ one.size;
  static = λ static all. subst (AreStatic e) (sym (two.told ∙ one.told)) (all_static_stay d e (extends_more d d2 e (extends_more d d1 d2 x y) z) p.events.items all);
  told = λ v. ap (seen v e) (two.told ∙ one.told) ∙ seen_stays d e (extends_more d d2 e (extends_more d d1 d2 x y) z) v p.events.items within.events ∙ sym (append_nil (seen v d p.events.items))
      ∙ ap (λ ys. seen v d p.events.items ++ ys) (sym (nothing_on (guarded v d p.trees code s) (tells v variable line f (operations.SkipIfZero a n)) (λ m. refl)));
  leads = λ v.
      let w0 = kept (λ m. register m a == 0) (guarded v d p.trees code s) in
      let w1 = kept (λ m. not (register m a == 0)) (guarded v d p.trees code s) in
      let ws = arrivals v d p.trees code p.pending.items in
      let g : guarded v d2 p1.trees code first ≡ w0 = guarded_stays d1 d2 y p.trees p1.trees one.keeps v code first slot ∙ zero_is v in
      let h : AllAlike (length code.registers) until (suc place) (arrivals v d2 p1.trees code p1.pending.items) (arrived 0 w1 ws) =
      subst (AllAlike (length code.registers) until (suc place) (arrivals v d2 p1.trees code p1.pending.items)) (let a' = other_is v in let b' = arrivals_stay d d1 x p.trees p.trees (keeps_itself p.trees) v code p.pending.items within.pending in λ i. arrived 0 (a' i) (b' i)) (one.leads v) in
      let k : AllAlike (length code.registers) until (suc place) (arrivals v e q.trees code q.pending.items) (arrived n w0 (arrivals v d2 p1.trees code p1.pending.items)) =
      subst (λ w. AllAlike (length code.registers) until (suc place) (arrivals v e q.trees code q.pending.items) (arrived n w (arrivals v d2 p1.trees code p1.pending.items))) g (two.leads v) in
      all_alike_more (length code.registers) until (suc place) (arrivals v e q.trees code q.pending.items) (arrived n w0 (arrivals v d2 p1.trees code p1.pending.items)) (arrived n w0 (arrived 0 w1 ws)) k
      (arrived_alike (length code.registers) until (suc place) n w0 w0 (arrivals v d2 p1.trees code p1.pending.items) (arrived 0 w1 ws) (alike_itself (length code.registers) until (suc place) w0) h);
}

-- ---- events

seen_push : (v : ℕ → ℕ) (d : List Node) (es : List Event) (event : Event) → seen v d (es ++ event ∷ []) ≡ seen v d es ++ event_seen v d event
seen_push v d [] event = append_nil (event_seen v d event)
seen_push v d (e ∷ es) event = ap (λ ys. event_seen v d e ++ ys) (seen_push v d es event) ∙ sym (append_assoc (event_seen v d e) (seen v d es) (event_seen v d event))

-- an event is told
pub told_in : (d : List Node) (code : Listing) (p q : Pass) (event : Event) → PassIn d code p → EventIn d event → q.events.items ≡ p.events.items ++ event ∷ [] → q.pending.items ≡ p.pending.items → q.trees ≡ p.trees → PassIn d code q
told_in d code p q event within there events pending trees = record {
  events = subst (FormIn d) (sym events) (All-push (EventIn d) p.events.items event within.events there);
  pending = let kept = subst (λ w. All (PendingIn d w code) p.pending.items) (sym trees) within.pending in subst (All (PendingIn d q.trees code)) (sym pending) kept;
}

pub tells_one : (until : List ℕ) (code : Listing) (place : ℕ) (event : Event) (s : Slot) (d e : List Node) (p p1 q : Pass) → Extends d e → PassIn d code p1 → p1.events.items ≡ p.events.items ++ event ∷ [] → p1.pending.items ≡ p.pending.items → p1.trees ≡ p.trees
    → Arrives until code place 0 s d e p1 q → Tells until code place event s d e p q
tells_one until code place event s d e p p1 q x within events pending trees arrives = record {
  within = arrives.within;
  size = arrives.size ∙ ap length pending;
  static = λ kind all. subst (AreStatic e) (sym arrives.told) (all_static_stay d e x p1.events.items (subst (AreStatic d) (sym events) (All-push (λ (ev : Event). IsStaticKind d ev.kind) p.events.items event all kind)));
  told = λ v. ap (seen v e) arrives.told ∙ seen_stays d e x v p1.events.items within.events ∙ ap (seen v d) events ∙ seen_push v d p.events.items event;
  leads = λ v. subst (AllAlike (length code.registers) until (suc place) (arrivals v e q.trees code q.pending.items)) (λ i. arrived 0 (guarded v d (trees i) code s) (arrivals v d (trees i) code (pending i))) (arrives.leads v);
}

on_by : (b : Bool) (m : Memory) (tell : Memory → List Seen) (ks : List Seen) → ks ≡ tell m → (if b then ks else []) ≡ on (if b then Some m else None) tell
on_by true m tell ks e = e
on_by false m tell ks e = refl

-- an event under the slot's guard
pub event_by : (v : ℕ → ℕ) (d d1 : List Node) (trees : Arena) (code : Listing) (s : Slot) (event : Event) (tell : Memory → List Seen) → Extends d d1 → SlotIn d trees code s → event.guard ≡ s.guard
    → kind_seen v d1 event.line event.function event.kind ≡ tell (held v d trees code s) → event_seen v d1 event ≡ on (guarded v d trees code s) tell
event_by v d d1 trees code s event tell x h g k =
    let a = ap (value v d1) g ∙ x.value_stays v s.guard h.guard.there in
    ap (λ n. if holds n then kind_seen v d1 event.line event.function event.kind else []) a ∙ on_by (holds (value v d s.guard)) (held v d trees code s) tell (kind_seen v d1 event.line event.function event.kind) k

same_arrival : (w : Option Memory) → updated (λ m. m) w ≡ w
same_arrival None = refl
same_arrival (Some m) = refl

-- ---- checks

unless_class : (b : Bool) (c : Class) → unless b c ≡ (if is_some (unless b c) then Some c else None)
unless_class true c = refl
unless_class false c = refl

quotient_class : (z b : Bool) (c k : Class) → (if z then None else (if z then Some k else unless b c)) ≡ (if is_some (if z then None else (if z then Some k else unless b c)) then Some c else None)
quotient_class true b c k = refl
quotient_class false b c k = unless_class b c

range_class : (op : ArithmeticOperator) (t : IntegerType) (x y : ℕ) → is_ranged op ≡ true → arithmetic_check op t t x y ≡ (if is_some (arithmetic_check op t t x y) then Some classes.Overflow else None)
range_class arithmetics.Multiply t x y h = unless_class _ classes.Overflow
range_class arithmetics.Add t x y h = unless_class _ classes.Overflow
range_class arithmetics.Subtract t x y h = unless_class _ classes.Overflow
range_class _ t x y h = absurd (false≢true h)

second_of_and : (a b : Bool) → (a && b) ≡ true → b ≡ true
second_of_and true b h = h
second_of_and false b h = absurd (false≢true h)

first_of_and : (a b : Bool) → (a && b) ≡ true → a ≡ true
first_of_and true b h = refl
first_of_and false b h = h

range_fits : (registers : List IntegerType) (op : ArithmeticOperator) (t : IntegerType) (a b : ℕ) → check_fits registers (checks.Range op t a b) ≡ true → is_ranged op ≡ true
range_fits registers op t a b h =
    let pairs = first_of_and (is_signed t && is_ranged op && is_register registers a t) (is_wide registers b t) h in
    second_of_and (is_signed t) (is_ranged op) (first_of_and (is_signed t && is_ranged op) (is_register registers a t) pairs)

one_class : (registers : List IntegerType) (c : Condition) (m : Memory) → check_fits registers c ≡ true → check_class c m ≡ (if is_some (check_class c m) then Some (class_of c) else None)
one_class registers (checks.Divisor b) m h = unless_class _ classes.Division
one_class registers (checks.Quotient t a b) m h = quotient_class (register m b == 0) _ classes.Overflow classes.Division
one_class registers (checks.Range op t a b) m h = range_class op t (register m a) (register m b) (range_fits registers op t a b h)
one_class registers (checks.Negation t a) m h = unless_class _ classes.Overflow
one_class registers (checks.Count t u count) m h = unless_class _ classes.Shift
one_class registers (checks.LeftShift t u a count) m h = unless_class _ classes.Shift
one_class registers (checks.Returned a) m h = unless_class _ classes.Return
one_class registers (checks.Within p i t n size class) m h = unless_class _ class
one_class registers (checks.SameObject p q) m h = unless_class _ classes.Pointer
one_class registers (checks.Inside p count whole) m h = unless_class _ classes.Bounds
one_class registers (checks.AtMost a b most) m h = unless_class _ classes.MallocLimit

breaks_by : (c : Option Class) (k : Class) (b : Bool) (line f : ℕ) → c ≡ (if is_some c then Some k else None) → b ≡ is_some c → (if b then stopped (Broken k line f) ∷ [] else []) ≡ breaks c line f
breaks_by None k b line f e h = if_false b (stopped (Broken k line f) ∷ []) [] h
breaks_by (Some c) k b line f e h = let same : c ≡ k = cc in if_true b (stopped (Broken k line f) ∷ []) [] h ∙ ap (λ x. stopped (Broken x line f) ∷ []) (sym same)

test_holds : (v : ℕ → ℕ) (d : List Node) (i : Id) (f : (ℕ → ℕ) → Bool) → IsTest d i f → holds (value v d i) ≡ f v
test_holds v d i f made = ap holds (made.value_is v) ∙ holds_bit (f v)

module _ (until : List ℕ) (code : Listing) (place variable line f : ℕ) (d d1 e : List Node) (s : Slot) (p q : Pass) (x : Extends d d1) (within : PassIn d code p) (slot : SlotIn d p.trees code s) where
  goes_same : (v : ℕ → ℕ) (ws : Arrivals) → arrived 0 (updated (λ m. m) (guarded v d p.trees code s)) ws ≡ arrived 0 (guarded v d1 p.trees code s) ws
  goes_same v ws = ap (λ w. arrived 0 w ws) (same_arrival (guarded v d p.trees code s) ∙ sym (guarded_stays d d1 x p.trees p.trees (keeps_itself p.trees) v code s slot))

  pub passes_checked : (c : Condition) (failing : Id) (class : Class) → IsTest d1 failing (λ v. is_some (check_class c (held v d p.trees code s))) → check_fits code.registers c ≡ true → class ≡ class_of c
      → Tells until code place (record { guard = s.guard; line = line; function = f; kind = Check class failing }) s d1 e p q → Passes until code place variable line f (operations.Check c) s d e p q
  passes_checked c failing class made fits is tells_it =
      passes_by_event until code place variable line f (operations.Check c) d d1 e s s p p q x within (keeps_itself p.trees) refl refl (record { guard = s.guard; line = line; function = f; kind = Check class failing }) (λ static. tt)
      (λ v. let m = held v d p.trees code s in
      event_by v d d1 p.trees code s (record { guard = s.guard; line = line; function = f; kind = Check class failing }) (tells v variable line f (operations.Check c)) x slot refl
      (ap (λ k. if holds (value v d1 failing) then stopped (Broken k line f) ∷ [] else []) is ∙ breaks_by (check_class c m) (class_of c) (holds (value v d1 failing)) line f (one_class code.registers c m fits) (test_holds v d1 failing _ made)))
      goes_same tells_it

  zero_is : (v : ℕ → ℕ) (a : ℕ) (node failing : Id) → IsTest d1 failing (λ v. value v d node == 0) → value v d node ≡ register (held v d p.trees code s) a → holds (value v d1 failing) ≡ (register (held v d p.trees code s) a == 0)
  zero_is v a node failing made is = test_holds v d1 failing _ made ∙ ap (λ n. n == 0) is

  pub passes_asserted : (a : ℕ) (node failing : Id) → IsTest d1 failing (λ v. value v d node == 0) → ((v : ℕ → ℕ) → value v d node ≡ register (held v d p.trees code s) a)
      → Tells until code place (record { guard = s.guard; line = line; function = f; kind = Check classes.Assertion failing }) s d1 e p q → Passes until code place variable line f (operations.Assert a) s d e p q
  passes_asserted a node failing made is tells_it =
      passes_by_event until code place variable line f (operations.Assert a) d d1 e s s p p q x within (keeps_itself p.trees) refl refl (record { guard = s.guard; line = line; function = f; kind = Check classes.Assertion failing }) (λ static. tt)
      (λ v. event_by v d d1 p.trees code s (record { guard = s.guard; line = line; function = f; kind = Check classes.Assertion failing }) (tells v variable line f (operations.Assert a)) x slot refl
      (ap (λ b. if b then stopped (Broken classes.Assertion line f) ∷ [] else []) (zero_is v a node failing made (is v))))
      goes_same tells_it

  pub passes_assumed : (a : ℕ) (node failing : Id) → IsTest d1 failing (λ v. value v d node == 0) → ((v : ℕ → ℕ) → value v d node ≡ register (held v d p.trees code s) a)
      → Tells until code place (record { guard = s.guard; line = line; function = f; kind = Assume failing }) s d1 e p q → Passes until code place variable line f (operations.Assume a) s d e p q
  passes_assumed a node failing made is tells_it =
      passes_by_event until code place variable line f (operations.Assume a) d d1 e s s p p q x within (keeps_itself p.trees) refl refl (record { guard = s.guard; line = line; function = f; kind = Assume failing }) (λ static. tt)
      (λ v. event_by v d d1 p.trees code s (record { guard = s.guard; line = line; function = f; kind = Assume failing }) (tells v variable line f (operations.Assume a)) x slot refl
      (ap (λ b. if b then stopped Blocked ∷ [] else []) (zero_is v a node failing made (is v))))
      goes_same tells_it

bit_of_word : (d : List Node) (i : Id) → IsWord d i 1 → IsBit d i
bit_of_word d i h = record { there = h.there; width_is = h.width_is }

pub failing_in : (d d1 : List Node) (trees : Arena) (code : Listing) (s : Slot) (failing : Id) (line f : ℕ) (class : Class) (t : (ℕ → ℕ) → Bool) → Extends d d1 → SlotIn d trees code s → IsTest d1 failing t → EventIn d1 (record { guard = s.guard; line = line; function = f; kind = Check class failing })
failing_in d d1 trees code s failing line f class t x h made = record { guard = bit_of_word d1 s.guard (slot_stays d d1 x trees trees (keeps_itself trees) code s h).guard; kind = record { there = made.there; width_is = made.width_is } }

pub assumed_in : (d d1 : List Node) (trees : Arena) (code : Listing) (s : Slot) (failing : Id) (line f : ℕ) (t : (ℕ → ℕ) → Bool) → Extends d d1 → SlotIn d trees code s → IsTest d1 failing t → EventIn d1 (record { guard = s.guard; line = line; function = f; kind = Assume failing })
assumed_in d d1 trees code s failing line f t x h made = record { guard = bit_of_word d1 s.guard (slot_stays d d1 x trees trees (keeps_itself trees) code s h).guard; kind = record { there = made.there; width_is = made.width_is } }

-- ---- ends

-- a slot's guard as a test under itself
twice : (b : Bool) (m : Memory) (told : List Seen) → (if b then (if b then told else []) else []) ≡ on (if b then Some m else None) (λ k. told)
twice true m told = refl
twice false m told = refl

pub failed_in : (d : List Node) (trees : Arena) (code : Listing) (s : Slot) (line f : ℕ) (class : Class) → SlotIn d trees code s → EventIn d (record { guard = s.guard; line = line; function = f; kind = Check class s.guard })
failed_in d trees code s line f class h = record { guard = bit_of_word d s.guard h.guard; kind = bit_of_word d s.guard h.guard }

pub stopped_in : (d : List Node) (trees : Arena) (code : Listing) (s : Slot) (line f : ℕ) → SlotIn d trees code s → EventIn d (record { guard = s.guard; line = line; function = f; kind = Assume s.guard })
stopped_in d trees code s line f h = record { guard = bit_of_word d s.guard h.guard; kind = bit_of_word d s.guard h.guard }

module _ (until : List ℕ) (code : Listing) (place variable line f : ℕ) (d e : List Node) (s : Slot) (p q : Pass) (within : PassIn d code p) (slot : SlotIn d p.trees code s) where
  stays_same : (v : ℕ → ℕ) (ws : Arrivals) → arrived 0 (updated (λ m. m) (guarded v d p.trees code s)) ws ≡ arrived 0 (guarded v d p.trees code s) ws
  stays_same v ws = ap (λ w. arrived 0 w ws) (same_arrival (guarded v d p.trees code s))

  pub passes_failed : (class : Class) → Tells until code place (record { guard = s.guard; line = line; function = f; kind = Check class s.guard }) s d e p q → Passes until code place variable line f (operations.Fail class) s d e p q
  passes_failed class tells_it =
      passes_by_event until code place variable line f (operations.Fail class) d d e s s p p q (extends_itself d) within (keeps_itself p.trees) refl refl (record { guard = s.guard; line = line; function = f; kind = Check class s.guard }) (λ static. tt)
      (λ v. twice (holds (value v d s.guard)) (held v d p.trees code s) (stopped (Broken class line f) ∷ [])) stays_same tells_it

  -- unrolled code doesn't have them
  stops_here : (o : Operation) → ((v : ℕ → ℕ) (m : Memory) → tells v variable line f o m ≡ stopped Blocked ∷ []) → ((v : ℕ → ℕ) (w : Option Memory) (ws : Arrivals) → leaves v variable o w ws ≡ arrived 0 (updated (λ m. m) w) ws)
      → Tells until code place (record { guard = s.guard; line = line; function = f; kind = Assume s.guard }) s d e p q → Passes until code place variable line f o s d e p q
  stops_here o told leads tells_it =
      passes_by_event until code place variable line f o d d e s s p p q (extends_itself d) within (keeps_itself p.trees) refl refl (record { guard = s.guard; line = line; function = f; kind = Assume s.guard }) (λ static. tt)
      (λ v. twice (holds (value v d s.guard)) (held v d p.trees code s) (stopped Blocked ∷ []) ∙ told_by (holds (value v d s.guard)) (held v d p.trees code s) (tells v variable line f o) (told v))
      (λ v ws. leads v (guarded v d p.trees code s) ws ∙ stays_same v ws) tells_it
    where
      told_by : (b : Bool) (m : Memory) (tell : Memory → List Seen) → ((m : Memory) → tell m ≡ stopped Blocked ∷ []) → on (if b then Some m else None) (λ k. stopped Blocked ∷ []) ≡ on (if b then Some m else None) tell
      told_by true m tell h = sym (h m)
      told_by false m tell h = refl

  pub passes_stopped : (o : Operation) → is_flat o ≡ false → Tells until code place (record { guard = s.guard; line = line; function = f; kind = Assume s.guard }) s d e p q → Passes until code place variable line f o s d e p q
  passes_stopped (operations.Call g first count into r) flat tells_it = stops_here (operations.Call g first count into r) (λ v m. refl) (λ v w ws. refl) tells_it
  passes_stopped (operations.Return x) flat tells_it = stops_here (operations.Return x) (λ v m. refl) (λ v w ws. refl) tells_it
  passes_stopped (operations.MayFail r) flat tells_it = stops_here (operations.MayFail r) (λ v m. refl) (λ v w ws. refl) tells_it
  passes_stopped (operations.Limit a b) flat tells_it = stops_here (operations.Limit a b) (λ v m. refl) (λ v w ws. refl) tells_it
  passes_stopped _ flat tells_it = absurd (false≢true (sym flat))

-- ---- an operation that makes one action

tells_exchange : (o : Operation) → is_exchange o ≡ true → (v : ℕ → ℕ) (x line f : ℕ) (m : Memory) → exchanged v x line f o m ≡ tells v x line f o m
tells_exchange (operations.Draw r bits) h v x line f m = refl
tells_exchange (operations.ReadObject b to k offset count) h v x line f m = refl
tells_exchange (operations.WriteObject k offset b from count) h v x line f m = refl
tells_exchange (operations.Read b to p count) h v x line f m = refl
tells_exchange (operations.Write p b from count first) h v x line f m = refl
tells_exchange (operations.Look r p subscript) h v x line f m = refl
tells_exchange (operations.Alloc r b size readonly heap) h v x line f m = refl
tells_exchange (operations.Die p) h v x line f m = refl
tells_exchange (operations.Free p) h v x line f m = refl
tells_exchange _ h v x line f m = absurd (false≢true h)

leads_exchange : (o : Operation) → is_exchange o ≡ true → (v : ℕ → ℕ) (x : ℕ) (w : Option Memory) (ws : Arrivals) → leaves v x o w ws ≡ arrived 0 (updated (answered_by v x o) w) ws
leads_exchange (operations.Draw r bits) h v x w ws = refl
leads_exchange (operations.ReadObject b to k offset count) h v x w ws = refl
leads_exchange (operations.WriteObject k offset b from count) h v x w ws = refl
leads_exchange (operations.Read b to p count) h v x w ws = refl
leads_exchange (operations.Write p b from count first) h v x w ws = refl
leads_exchange (operations.Look r p subscript) h v x w ws = refl
leads_exchange (operations.Alloc r b size readonly heap) h v x w ws = refl
leads_exchange (operations.Die p) h v x w ws = refl
leads_exchange (operations.Free p) h v x w ws = refl
leads_exchange _ h v x w ws = absurd (false≢true h)

-- its event tells the action and the answer, and the slot goes on with the answer
pub passes_exchange : (until : List ℕ) (code : Listing) (place variable line f : ℕ) (o : Operation) (d d1 e : List Node) (s next : Slot) (p p1 q : Pass) (kind : EventKind) → is_exchange o ≡ true → Extends d d1 → PassIn d code p → Keeps p.trees p1.trees → p1.events.items ≡ p.events.items → p1.pending.items ≡ p.pending.items
    → SlotIn d p.trees code s → (is_static o ≡ true → IsStaticKind d1 kind) → ((v : ℕ → ℕ) → kind_seen v d1 line f kind ≡ exchanged v variable line f o (held v d p.trees code s))
    → ((v : ℕ → ℕ) → guarded v d1 p1.trees code next ≡ updated (answered_by v variable o) (guarded v d p.trees code s))
    → Tells until code place (record { guard = s.guard; line = line; function = f; kind = kind }) next d1 e p1 q → Passes until code place variable line f o s d e p q
passes_exchange until code place variable line f o d d1 e s next p p1 q kind h x within grows events pending slot fixed same moved tells_it =
    let event : Event = record { guard = s.guard; line = line; function = f; kind = kind } in
    passes_by_event until code place variable line f o d d1 e s next p p1 q x within grows events pending event fixed
    (λ v. event_by v d d1 p.trees code s event (tells v variable line f o) x slot refl (same v ∙ tells_exchange o h v variable line f (held v d p.trees code s)))
    (λ v ws. leads_exchange o h v variable (guarded v d p.trees code s) ws ∙ ap (λ w. arrived 0 w ws) (sym (moved v)))
    tells_it

-- a slot that stays as it is
unmoved : (o : Operation) (v : ℕ → ℕ) (x : ℕ) (d d1 : List Node) (trees : Arena) (code : Listing) (s : Slot) → Extends d d1 → SlotIn d trees code s → ((m : Memory) → answered_by v x o m ≡ m) → guarded v d1 trees code s ≡ updated (answered_by v x o) (guarded v d trees code s)
unmoved o v x d d1 trees code s y slot same = guarded_stays d d1 y trees trees (keeps_itself trees) v code s slot ∙ by (guarded v d trees code s)
  where
    by : (w : Option Memory) → w ≡ updated (answered_by v x o) w
    by None = refl
    by (Some m) = ap Some (sym (same m))

-- one whose register is set to the answer
moved_to : (v : ℕ → ℕ) (d d1 : List Node) (trees trees' : Arena) (code : Listing) (s next : Slot) (r n : ℕ) (result : Id) → Extends d d1 → SlotIn d trees code s → value v d1 result ≡ n → guarded v d1 trees' code next ≡ updated (λ m. with_register m r (value v d1 result)) (guarded v d1 trees code s)
    → guarded v d1 trees' code next ≡ updated (λ m. with_register m r n) (guarded v d trees code s)
moved_to v d d1 trees trees' code s next r n result x slot is same =
    let g = guarded_stays d d1 x trees trees (keeps_itself trees) v code s slot in same ∙ (λ i. updated (λ m. with_register m r (is i)) (g i))

-- one with bytes in a block
put_to : (v : ℕ → ℕ) (d d1 : List Node) (trees trees' : Arena) (code : Listing) (s next : Slot) (b to : ℕ) (bytes : List Id) (new : List ℕ) → Extends d d1 → SlotIn d trees code s → map (value v d1) bytes ≡ new
    → guarded v d1 trees' code next ≡ updated (λ m. with_blocks m (put_bytes m.blocks b to (map (value v d1) bytes))) (guarded v d1 trees code s) → guarded v d1 trees' code next ≡ updated (λ m. with_blocks m (put_bytes m.blocks b to new)) (guarded v d trees code s)
put_to v d d1 trees trees' code s next b to bytes new x slot is same =
    let g = guarded_stays d d1 x trees trees (keeps_itself trees) v code s slot in same ∙ (λ i. updated (λ m. with_blocks m (put_bytes m.blocks b to (is i))) (g i))

-- an event under the slot's guard
pub event_in : (d d1 : List Node) (trees : Arena) (code : Listing) (s : Slot) (line f : ℕ) (kind : EventKind) → Extends d d1 → SlotIn d trees code s → KindIn d1 kind → EventIn d1 (record { guard = s.guard; line = line; function = f; kind = kind })
event_in d d1 trees code s line f kind x h in_ = record { guard = bit_of_word d1 s.guard (slot_stays d d1 x trees trees (keeps_itself trees) code s h).guard; kind = in_ }

-- ---- draws, looks and objects

pub drawn_word : (d d1 d2 : List Node) (answer : Id) (variable bits : ℕ) → Extends d1 d2 → Makes d d1 (Variable variable bits) answer → IsWord d2 answer bits
drawn_word d d1 d2 answer variable bits y made = record { there = within_stays d1 d2 answer y made.there; width_is = y.width_stays answer made.there ∙ made.width_is }

pub passes_draw : (until : List ℕ) (code : Listing) (place variable line f r bits w : ℕ) (d d1 d2 e : List Node) (s next : Slot) (answer result : Id) (p p1 q : Pass) → Extends d d1 → Extends d1 d2 → PassIn d code p → Keeps p.trees p1.trees → p1.events.items ≡ p.events.items → p1.pending.items ≡ p.pending.items → SlotIn d p.trees code s
    → Makes d d1 (Variable variable bits) answer → Makes d1 d2 (ZeroExtend answer w) result → ((v : ℕ → ℕ) → guarded v d2 p1.trees code next ≡ updated (λ m. with_register m r (value v d2 result)) (guarded v d2 p.trees code s))
    → Tells until code place (record { guard = s.guard; line = line; function = f; kind = Draw bits answer }) next d2 e p1 q → Passes until code place variable line f (operations.Draw r bits) s d e p q
passes_draw until code place variable line f r bits w d d1 d2 e s next answer result p p1 q x y within grows events pending slot made wide guarded_is tells_it =
    let z = extends_more d d1 d2 x y in
    passes_exchange until code place variable line f (operations.Draw r bits) d d2 e s next p p1 q (Draw bits answer) refl z within grows events pending slot (λ static. tt)
    (λ v. ap (λ n. asked (actions.Draw bits) line f (answers.Word (word bits n)) ∷ []) (y.value_stays v answer made.there ∙ made.value_is v))
    (λ v. moved_to v d d2 p.trees p1.trees code s next r (low_bits bits (v variable)) result z slot (wide.value_is v ∙ made.value_is v) (guarded_is v))
    tells_it

pub passes_look : (until : List ℕ) (code : Listing) (place variable line f r a : ℕ) (subscript : Bool) (d d1 d2 e : List Node) (s next : Slot) (pointer answer result : Id) (p p1 q : Pass) → Extends d d1 → Extends d1 d2 → PassIn d code p → Keeps p.trees p1.trees → p1.events.items ≡ p.events.items → p1.pending.items ≡ p.pending.items
    → SlotIn d p.trees code s → IsWord d pointer 64 → ((v : ℕ → ℕ) → value v d pointer ≡ register (held v d p.trees code s) a) → Makes d d1 (Variable variable 32) answer → Makes d1 d2 (ZeroExtend answer 64) result
    → ((v : ℕ → ℕ) → guarded v d2 p1.trees code next ≡ updated (λ m. with_register m r (value v d2 result)) (guarded v d2 p.trees code s))
    → Tells until code place (record { guard = s.guard; line = line; function = f; kind = Look pointer subscript answer }) next d2 e p1 q → Passes until code place variable line f (operations.Look r a subscript) s d e p q
passes_look until code place variable line f r a subscript d d1 d2 e s next pointer answer result p p1 q x y within grows events pending slot word is made wide guarded_is tells_it =
    let z = extends_more d d1 d2 x y in
    passes_exchange until code place variable line f (operations.Look r a subscript) d d2 e s next p p1 q (Look pointer subscript answer) refl z within grows events pending slot (λ static. absurd (false≢true static))
    (λ v. let one = z.value_stays v pointer word.there ∙ is v in let two = y.value_stays v answer made.there ∙ made.value_is v in λ i. asked (actions.Look (one i) subscript) line f (answers.Size (two i)) ∷ [])
    (λ v. moved_to v d d2 p.trees p1.trees code s next r (low_bits 32 (v variable)) result z slot (wide.value_is v ∙ made.value_is v) (guarded_is v))
    tells_it

-- the first bytes of a block, of which so many are looked at
first_taken : (k n m : ℕ) (block : List ℕ) → min k n ≡ min k m → length block ≤ m → take k (take n block) ≡ take k block
first_taken k n m block same few = take_least k n block ∙ ap (λ i. take i block) same ∙ sym (take_least k m block) ∙ ap (take k) (take_whole m block few)

pub passes_alloc : (until : List ℕ) (code : Listing) (place variable line f r b a : ℕ) (readonly heap : Bool) (d d1 d2 e : List Node) (s next : Slot) (size answer result : Id) (bytes : List Id) (most : ℕ) (p p1 q : Pass) → Extends d d1 → Extends d1 d2 → PassIn d code p → Keeps p.trees p1.trees → p1.events.items ≡ p.events.items
    → p1.pending.items ≡ p.pending.items → SlotIn d p.trees code s → IsWord d size 64 → ((v : ℕ → ℕ) → value v d size ≡ register (held v d p.trees code s) a) → AreBytes d bytes → ((v : ℕ → ℕ) → map (value v d) bytes ≡ bytes_of (held v d p.trees code s).blocks b 0 most)
    → ((v : ℕ → ℕ) → min (value v d size) most ≡ min (value v d size) (length (block_of (held v d p.trees code s).blocks b))) → Makes d d1 (Variable variable 32) answer → IsValue d2 result 64 (λ v. pointer_to (value v d1 answer) 0)
    → ((v : ℕ → ℕ) → guarded v d2 p1.trees code next ≡ updated (λ m. with_register m r (value v d2 result)) (guarded v d2 p.trees code s))
    → Tells until code place (record { guard = s.guard; line = line; function = f; kind = Alloc size bytes readonly heap answer }) next d2 e p1 q → Passes until code place variable line f (operations.Alloc r b a readonly heap) s d e p q
passes_alloc until code place variable line f r b a readonly heap d d1 d2 e s next size answer result bytes most p p1 q x y within grows events pending slot word is all made few drawn wide guarded_is tells_it =
    let z = extends_more d d1 d2 x y in
    passes_exchange until code place variable line f (operations.Alloc r b a readonly heap) d d2 e s next p p1 q (Alloc size bytes readonly heap answer) refl z within grows events pending slot (λ static. absurd (false≢true static))
    (λ v.
    let m = held v d p.trees code s in
    let block = block_of m.blocks b in
    let whole : length block ≤ length block = omega arith in
    let one = z.value_stays v size word.there in
    let two = map_stays v d d2 bytes z (All-weaker (λ (i : Id). IsWord d i 8) (Within d) (λ i w. w.there) bytes all) ∙ made v in
    let three : take (value v d2 size) (map (value v d2) bytes) ≡ take (register m a) block = (λ i. take (one i) (two i)) ∙ first_taken (value v d size) most (length block) block (few v) whole ∙ ap (λ n. take n block) (is v) in
    let four = y.value_stays v answer drawn.there ∙ drawn.value_is v in
    λ i. asked (actions.Alloc (made_of readonly heap (three i))) line f (answers.Number (four i)) ∷ [])
    (λ v. moved_to v d d2 p.trees p1.trees code s next r (pointer_to (low_bits 32 (v variable)) 0) result z slot (wide.value_is v ∙ ap (λ n. pointer_to n 0) (drawn.value_is v)) (guarded_is v))
    tells_it

-- ---- the end of an object's lifetime

module _ (until : List ℕ) (code : Listing) (place variable line f a : ℕ) (d e : List Node) (s : Slot) (pointer : Id) (p q : Pass) (within : PassIn d code p) (slot : SlotIn d p.trees code s) (is : (v : ℕ → ℕ) → value v d pointer ≡ register (held v d p.trees code s) a) where
  pub passes_die : Tells until code place (record { guard = s.guard; line = line; function = f; kind = Die pointer }) s d e p q → Passes until code place variable line f (operations.Die a) s d e p q
  passes_die tells_it =
      passes_exchange until code place variable line f (operations.Die a) d d e s s p p q (Die pointer) refl (extends_itself d) within (keeps_itself p.trees) refl refl slot (λ static. absurd (false≢true static))
      (λ v. ap (λ n. asked (actions.Die (object_of n)) line f answers.Done ∷ []) (is v)) (λ v. unmoved (operations.Die a) v variable d d p.trees code s (extends_itself d) slot (λ m. refl)) tells_it

  pub passes_free : Tells until code place (record { guard = s.guard; line = line; function = f; kind = Free pointer }) s d e p q → Passes until code place variable line f (operations.Free a) s d e p q
  passes_free tells_it =
      passes_exchange until code place variable line f (operations.Free a) d d e s s p p q (Free pointer) refl (extends_itself d) within (keeps_itself p.trees) refl refl slot (λ static. absurd (false≢true static))
      (λ v. ap (λ n. asked (actions.Free n) line f answers.Done ∷ []) (is v)) (λ v. unmoved (operations.Free a) v variable d d p.trees code s (extends_itself d) slot (λ m. refl)) tells_it

-- ---- exits

pub exit_in : (d : List Node) (trees : Arena) (code : Listing) (s : Slot) (line f : ℕ) → SlotIn d trees code s → EventIn d (record { guard = s.guard; line = line; function = f; kind = Exit })
exit_in d trees code s line f h = record { guard = bit_of_word d s.guard h.guard; kind = tt }

pub passes_exit : (until : List ℕ) (code : Listing) (place variable line f : ℕ) (d : List Node) (s : Slot) (p q : Pass) → PassIn d code p → SlotIn d p.trees code s
    → q.events.items ≡ p.events.items ++ record { guard = s.guard; line = line; function = f; kind = Exit } ∷ [] → q.pending.items ≡ p.pending.items → q.trees ≡ p.trees → Passes until code place variable line f operations.Exit s d d p q
passes_exit until code place variable line f d s p q within slot events pending trees =
    let event : Event = record { guard = s.guard; line = line; function = f; kind = Exit } in
    record {
      within = told_in d code p q event within (exit_in d p.trees code s line f slot) events pending trees;
      size = ap length pending;
      static = λ static all. subst (AreStatic d) (sym events) (All-push (λ (ev : Event). IsStaticKind d ev.kind) p.events.items event all tt);
      told = λ v. ap (seen v d) events ∙ seen_push v d p.events.items event
          ∙ ap (λ ys. seen v d p.events.items ++ ys) (event_by v d d p.trees code s event (tells v variable line f operations.Exit) (extends_itself d) slot refl refl);
      leads = λ v. subst (AllAlike (length code.registers) until (suc place) (arrivals v d q.trees code q.pending.items)) (λ i. arrivals v d (trees i) code (pending i)) (all_alike_itself (length code.registers) until (suc place) (arrivals v d q.trees code q.pending.items));
    }

-- ---- accesses

-- a read into a block, by the object's number or by a pointer
pub passes_read : (until : List ℕ) (code : Listing) (place variable line f b to count : ℕ) (o : Operation) (d d1 d2 e : List Node) (s next : Slot) (pointer : Id) (answer bytes : List Id) (p p1 q : Pass) → is_exchange o ≡ true → Extends d d1 → Extends d1 d2 → PassIn d code p → Keeps p.trees p1.trees → p1.events.items ≡ p.events.items
    → p1.pending.items ≡ p.pending.items → SlotIn d p.trees code s → (is_static o ≡ true → IsFixed d2 pointer) → Within d1 pointer → ((v : ℕ → ℕ) → action_of o (held v d p.trees code s) ≡ actions.Read (value v d1 pointer) count)
    → ((v : ℕ → ℕ) (m : Memory) → answered_by v variable o m ≡ with_blocks m (put_bytes m.blocks b to (bytes_of_words count (words_by v (word_count count) variable count))))
    → ((v : ℕ → ℕ) → map (value v d2) answer ≡ words_by v (word_count count) variable count) → AreBytesOf d2 bytes (λ v. bytes_of_words count (words_by v (word_count count) variable count))
    → ((v : ℕ → ℕ) → guarded v d2 p1.trees code next ≡ updated (λ m. with_blocks m (put_bytes m.blocks b to (map (value v d2) bytes))) (guarded v d2 p.trees code s))
    → Tells until code place (record { guard = s.guard; line = line; function = f; kind = Read pointer count answer }) next d2 e p1 q → Passes until code place variable line f o s d e p q
passes_read until code place variable line f b to count o d d1 d2 e s next pointer answer bytes p p1 q h x y within grows events pending slot fixed there is goes made wide guarded_is tells_it =
    let z = extends_more d d1 d2 x y in
    passes_exchange until code place variable line f o d d2 e s next p p1 q (Read pointer count answer) h z within grows events pending slot fixed
    (λ v.
    let one = y.value_stays v pointer there in
    (λ i. asked (actions.Read (one i) count) line f (answers.Bytes (bytes_of_words count (made v i))) ∷ []) ∙ ap (λ (a : Action). asked a line f (answer_at v variable a) ∷ []) (sym (is v)))
    (λ v. put_to v d d2 p.trees p1.trees code s next b to bytes (bytes_of_words count (words_by v (word_count count) variable count)) z slot (wide.values_are v) (guarded_is v) ∙ by v (guarded v d p.trees code s))
    tells_it
  where
    by : (v : ℕ → ℕ) (w : Option Memory) → updated (λ m. with_blocks m (put_bytes m.blocks b to (bytes_of_words count (words_by v (word_count count) variable count)))) w ≡ updated (answered_by v variable o) w
    by v None = refl
    by v (Some m) = ap Some (sym (goes v m))

-- a write of bytes of a block, by the object's number or by a pointer
pub passes_write : (until : List ℕ) (code : Listing) (place variable line f b from count : ℕ) (first : Bool) (o : Operation) (d d1 e : List Node) (s : Slot) (pointer : Id) (bytes : List Id) (p q : Pass) → is_exchange o ≡ true → Extends d d1 → PassIn d code p → SlotIn d p.trees code s → (is_static o ≡ true → IsStaticKind d1 (Write pointer bytes first))
    → ((v : ℕ → ℕ) → action_of o (held v d p.trees code s) ≡ actions.Write (value v d1 pointer) (bytes_of (held v d p.trees code s).blocks b from count) first) → ((v : ℕ → ℕ) → answer_at v variable (action_of o (held v d p.trees code s)) ≡ answers.Done) → ((v : ℕ → ℕ) (m : Memory) → answered_by v variable o m ≡ m)
    → ((v : ℕ → ℕ) → map (value v d1) bytes ≡ bytes_of (held v d p.trees code s).blocks b from count)
    → Tells until code place (record { guard = s.guard; line = line; function = f; kind = Write pointer bytes first }) s d1 e p q → Passes until code place variable line f o s d e p q
passes_write until code place variable line f b from count first o d d1 e s pointer bytes p q h x within slot fixed is done goes made tells_it =
    passes_exchange until code place variable line f o d d1 e s s p p q (Write pointer bytes first) h x within (keeps_itself p.trees) refl refl slot fixed
    (λ v. (λ i. asked (actions.Write (value v d1 pointer) (made v i) first) line f answers.Done ∷ []) ∙ (λ i. asked (sym (is v) i) line f (sym (done v) i) ∷ []))
    (λ v. unmoved o v variable d d1 p.trees code s x slot (goes v))
    tells_it

-- ---- draws of several words

pub same_bytes_of : (d : List Node) (ids own : List Id) (f : (ℕ → ℕ) → List ℕ) → ids ≡ own → AreBytesOf d own f → AreBytesOf d ids f
same_bytes_of d ids own f is made = subst (λ (xs : List Id). AreBytesOf d xs f) (sym is) made

pub passes_fill : (until : List ℕ) (code : Listing) (place variable line f b r most : ℕ) (d d1 e : List Node) (s next : Slot) (count : Id) (words : List Id) (p p1 q : Pass) → Extends d d1 → PassIn d code p → Keeps p.trees p1.trees → p1.events.items ≡ p.events.items → p1.pending.items ≡ p.pending.items → SlotIn d p.trees code s
    → IsWord d count 64 → ((v : ℕ → ℕ) → value v d count ≡ register (held v d p.trees code s) r) → most ≤ slice_index code.blocks b → b < length code.blocks → ((v : ℕ → ℕ) → min (value v d count) most ≡ min (value v d count) (slice_index code.blocks b))
    → ((v : ℕ → ℕ) → map (value v d1) words ≡ words_by v (word_count most) variable most)
    → ((v : ℕ → ℕ) → guarded v d1 p1.trees code next ≡ updated (filled_first b (value v d1 count) (bytes_of_words most (map (value v d1) words))) (guarded v d1 p.trees code s))
    → Tells until code place (record { guard = s.guard; line = line; function = f; kind = Fill count most words }) next d1 e p1 q → Passes until code place variable line f (operations.Fill b r) s d e p q
passes_fill until code place variable line f b r most d d1 e s next count words p p1 q x within grows events pending slot word is few there same made guarded_is tells_it =
    let event : Event = record { guard = s.guard; line = line; function = f; kind = Fill count most words } in
    passes_by_event until code place variable line f (operations.Fill b r) d d1 e s next p p1 q x within grows events pending event (λ static. absurd (false≢true static))
    (λ v.
    let m = held v d p.trees code s in
    let n = value v d count in
    event_by v d d1 p.trees code s event (tells v variable line f (operations.Fill b r)) x slot refl
    ((λ i. let size = min (x.value_stays v count word.there i) most in draws_seen line f (word_count size) size 0 (made v i))
    ∙ draws_are v line f most (min n most) variable (omega arith)
    ∙ ap (λ size. drawn v line f (word_count size) size 0 variable) (same v ∙ counted v)))
    (λ v ws. ap (λ w. arrived 0 w ws) (sym (guarded_is v ∙ (λ i. updated (filled_first b (x.value_stays v count word.there i) (bytes_of_words most (made v i))) (guarded_stays d d1 x p.trees p.trees (keeps_itself p.trees) v code s slot i)) ∙ filled v)))
    tells_it
  where
    counted : (v : ℕ → ℕ) → min (value v d count) (slice_index code.blocks b) ≡ first_count (held v d p.trees code s) b r
    counted v = let a = is v in let c = held_block v d p.trees code s b there in λ i. min (a i) (sym c i)

    filled : (v : ℕ → ℕ) → updated (filled_first b (value v d count) (bytes_of_words most (words_by v (word_count most) variable most))) (guarded v d p.trees code s) ≡ updated (behind v variable (operations.Fill b r)) (guarded v d p.trees code s)
    filled v = by (holds (value v d s.guard))
      where
        m : Memory
        m = held v d p.trees code s

        by : (g : Bool) → updated (filled_first b (value v d count) (bytes_of_words most (words_by v (word_count most) variable most))) (if g then Some m else None) ≡ updated (behind v variable (operations.Fill b r)) (if g then Some m else None)
        by true = ap Some (words_fill v b most (value v d count) variable m (omega (arith, there, stored_length code.blocks (bytes_from (value v d) (looked p.trees s.root) (length code.registers) (total code.blocks)))) (omega (arith, few, held_block v d p.trees code s b there)) ∙ ap (λ size. drawn_into v b (word_count size) size 0 variable m) (same v ∙ counted v))
        by false = refl

-- the words are made before the block is filled
pub passes_filled : (until : List ℕ) (code : Listing) (place variable line f b r most size : ℕ) (d d1 d2 e : List Node) (s next : Slot) (count : Id) (words own given : List Id) (p p1 q : Pass) → Extends d d1 → Extends d1 d2 → PassIn d code p → Keeps p.trees p1.trees → p1.events.items ≡ p.events.items → p1.pending.items ≡ p.pending.items → SlotIn d p.trees code s
    → IsWord d count 64 → ((v : ℕ → ℕ) → value v d count ≡ register (held v d p.trees code s) r) → size ≡ slice_index code.blocks b → most ≤ size → b < length code.blocks → ((v : ℕ → ℕ) → min (value v d count) most ≡ min (value v d count) size)
    → words ≡ own → given ≡ own → AreWords d1 most own → ((v : ℕ → ℕ) → map (value v d1) own ≡ words_by v (word_count most) variable most)
    → ((v : ℕ → ℕ) → guarded v d2 p1.trees code next ≡ updated (filled_first b (value v d1 count) (bytes_of_words most (map (value v d1) given))) (guarded v d1 p.trees code s))
    → Tells until code place (record { guard = s.guard; line = line; function = f; kind = Fill count most words }) next d2 e p1 q → Passes until code place variable line f (operations.Fill b r) s d e p q
passes_filled until code place variable line f b r most size d d1 d2 e s next count words own given p p1 q x y within grows events pending slot word is size_is few there same words_are given_are own_in made guarded_is tells_it =
    passes_fill until code place variable line f b r most d d2 e s next count words p p1 q (extends_more d d1 d2 x y) within grows events pending slot word is (subst (λ n. most ≤ n) size_is few) there (λ v. same v ∙ ap (min (value v d count)) size_is)
    (λ v. words_stay v ∙ made v)
    (λ v. guarded_is v
    ∙ (let n = y.value_stays v count (within_stays d d1 count x word.there) in
    let ws : map (value v d1) given ≡ map (value v d2) words = ap (map (value v d1)) given_are ∙ sym (words_stay v) in
    let g = guarded_stays d1 d2 y p.trees p.trees (keeps_itself p.trees) v code s (slot_stays d d1 x p.trees p.trees (keeps_itself p.trees) code s slot) in
    λ i. updated (filled_first b (sym n i) (bytes_of_words most (ws i))) (sym g i)))
    tells_it
  where
    words_stay : (v : ℕ → ℕ) → map (value v d2) words ≡ map (value v d1) own
    words_stay v = ap (map (value v d2)) words_are ∙ map_stays v d1 d2 own y own_in.there
