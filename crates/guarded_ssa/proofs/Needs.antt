-- Memories that agree in what later instructions read tell the same.
use Rattle.std.proofs.Common.{◌≡◌, ℕ, zero, suc, ◌+◌, ◌*◌, Bool, true, false, List, [], ◌∷◌, ◌++◌, length, take, drop, Option, Some, None, refl, sym, ap, subst, ◌∙◌, arith}
use Rattle.std.specs.Prelude.{not, nat_le, min, ◌==◌, if◌then◌else◌, slice_index, slice_set}
use Rattle.words.specs.declared.check.Class.TheVariants as classes
use Rattle.actions.specs.declared.action.Action.TheVariants as actions
use Rattle.actions.specs.declared.action.Next.TheVariants.{Blocked, Broken}
use Rattle.core_tree.specs.Operations.{number, truth_bits, converted, unless, division_check, arithmetic_check, sign_check, count_check, left_shift_check, arithmetic_value, sign_value, compared}
use Rattle.core_tree.specs.declared.operators.SignOperator.TheVariants as signs
use Rattle.c_values.specs.Variables.{Variables, pointer_to, low_bytes, zeros, block_of, put_at, put_bytes, number_at, word_count, drawn_count}
use Rattle.c_values.specs.Pointers.{pointer_at, further, in_range, offset_by, elements_between}
use Rattle.c_values.specs.MadeObjects.{made_of}
use Rattle.c_types.specs.declared.integers.IntegerType.TheVariants.{UnsignedLong}
use Rattle.actions.specs.Pointer.{object_of, offset_of}
use Rattle.actions.specs.declared.action.Action.{Action}
use Rattle.actions.specs.declared.action.Answer.{Answer}
use Rattle.goto_prog.specs.declared.code.Condition.{Condition}
use Rattle.goto_prog.specs.declared.code.Condition.TheVariants as checks
use Rattle.goto_prog.specs.declared.code.Operation.{Operation}
use Rattle.goto_prog.specs.declared.code.Operation.TheVariants as operations
use Rattle.goto_prog.specs.declared.code.Instruction.{Instruction}
use Rattle.goto_prog.specs.Running.{is_exchange}
use Rattle.std.proofs.lemmas.Bool.{false≢true}
use Rattle.goto_prog.specs.Meaning.{Memory, register, with_register, with_blocks, bytes_of, taken_at, put_within, first_count, word_of, bytes_in, size_in, number_in, check_class, calculated, action_of, answered_with, return_check}
use Rattle.guarded_ssa.specs.inner.Answers.{answer_at, variables_of}
use Rattle.event_forms.specs.Arrivals.{asked, stopped}
use Rattle.guarded_ssa.specs.inner.Places.{Arrivals, either, arrived, updated, kept, on, breaks, drawn, drawn_into, exchanged, behind, tells, leaves, first_arrival, later_arrivals, told}
use Rattle.guarded_ssa.specs.inner.Reads.{IsRead, AreRead, Covers, Agree, Alike, AllAlike}

module _ (registers : ℕ) (until : List ℕ) where
  -- ---- agreement

  agree_itself : (place : ℕ) (m : Memory) → Agree registers until place m m
  agree_itself place m = record { size = refl; needed = λ r h. refl; count = refl; blocks = λ b h. refl }

  pub alike_itself : (place : ℕ) (w : Option Memory) → Alike registers until place w w
  alike_itself place None = tt
  alike_itself place (Some m) = agree_itself place m

  pub all_alike_itself : (place : ℕ) (ws : Arrivals) → AllAlike registers until place ws ws
  all_alike_itself place [] = tt
  all_alike_itself place (w ∷ ws) = (alike_itself place w, all_alike_itself (suc place) ws)

  alike_more : (place : ℕ) (w x y : Option Memory) → Alike registers until place w x → Alike registers until place x y → Alike registers until place w y
  alike_more place None None None h k = tt
  alike_more place None None (Some y) h k = absurd k
  alike_more place None (Some x) y h k = absurd h
  alike_more place (Some w) None y h k = absurd h
  alike_more place (Some w) (Some x) None h k = absurd k
  alike_more place (Some w) (Some x) (Some y) h k = record { size = h.size ∙ k.size; needed = λ r n. h.needed r n ∙ k.needed r n; count = h.count ∙ k.count; blocks = λ b n. h.blocks b n ∙ k.blocks b n }

  pub all_alike_more : (place : ℕ) (ws xs ys : Arrivals) → AllAlike registers until place ws xs → AllAlike registers until place xs ys → AllAlike registers until place ws ys
  all_alike_more place [] [] [] h k = tt
  all_alike_more place [] [] (y ∷ ys) h k = absurd k
  all_alike_more place [] (x ∷ xs) ys h k = absurd h
  all_alike_more place (w ∷ ws) [] ys h k = absurd h
  all_alike_more place (w ∷ ws) (x ∷ xs) [] h k = absurd k
  all_alike_more place (w ∷ ws) (x ∷ xs) (y ∷ ys) h k = (alike_more place w x y h.0 k.0, all_alike_more (suc place) ws xs ys h.1 k.1)

  read_later : (place r : ℕ) → IsRead until (suc place) (Some r) → IsRead until place (Some r)
  read_later place r h l = omega (arith, h l)

  agree_later : (place : ℕ) (m n : Memory) → Agree registers until place m n → Agree registers until (suc place) m n
  agree_later place m n h = record { size = h.size; needed = λ r l. h.needed r (read_later place r l); count = h.count; blocks = λ b l. h.blocks b (read_later place (registers + b) l) }

  alike_later : (place : ℕ) (w x : Option Memory) → Alike registers until place w x → Alike registers until (suc place) w x
  alike_later place None None h = tt
  alike_later place None (Some n) h = absurd h
  alike_later place (Some m) None h = absurd h
  alike_later place (Some m) (Some n) h = agree_later place m n h

  -- ---- what arrives

  pub either_alike : (place : ℕ) (w x y z : Option Memory) → Alike registers until place w x → Alike registers until place y z → Alike registers until place (either w y) (either x z)
  either_alike place None None y z h k = k
  either_alike place None (Some n) y z h k = absurd h
  either_alike place (Some m) None y z h k = absurd h
  either_alike place (Some m) (Some n) y z h k = h

  pub arrived_alike : (place n : ℕ) (w x : Option Memory) (ws xs : Arrivals) → Alike registers until place w x → AllAlike registers until place ws xs → AllAlike registers until place (arrived n w ws) (arrived n x xs)
  arrived_alike place n w x [] [] h k = tt
  arrived_alike place n w x [] (y ∷ xs) h k = absurd k
  arrived_alike place n w x (y ∷ ws) [] h k = absurd k
  arrived_alike place zero w x (y ∷ ws) (z ∷ xs) h k = (either_alike place w x y z h k.0, k.1)
  arrived_alike place (suc n) w x (y ∷ ws) (z ∷ xs) h k = (k.0, arrived_alike (suc place) n w x ws xs (alike_later place w x h) k.1)

  -- ---- one operation

  set_same : (xs ys : List ℕ) (r x y k : ℕ) → length xs ≡ length ys → x ≡ y → slice_index xs k ≡ slice_index ys k → slice_index (slice_set xs r x) k ≡ slice_index (slice_set ys r y) k
  set_same [] [] r x y k l e h = refl
  set_same [] (b ∷ ys) r x y k l e h = absurd (omega (arith, l))
  set_same (a ∷ xs) [] r x y k l e h = absurd (omega (arith, l))
  set_same (a ∷ xs) (b ∷ ys) zero x y zero l e h = e
  set_same (a ∷ xs) (b ∷ ys) zero x y (suc k) l e h = h
  set_same (a ∷ xs) (b ∷ ys) (suc r) x y zero l e h = h
  set_same (a ∷ xs) (b ∷ ys) (suc r) x y (suc k) l e h = set_same xs ys r x y k (omega (arith, l)) e h

  set_length : {X : Type 0} (xs : List X) (r : ℕ) (x : X) → length (slice_set xs r x) ≡ length xs
  set_length [] r x = refl
  set_length (a ∷ xs) zero x = refl
  set_length (a ∷ xs) (suc r) x = ap suc (set_length xs r x)

  -- a block that is written
  block_same : (xs ys : Variables) (r : ℕ) (x y : List ℕ) (k : ℕ) → length xs ≡ length ys → (r ≡ k → x ≡ y) → block_of xs k ≡ block_of ys k → block_of (slice_set xs r x) k ≡ block_of (slice_set ys r y) k
  block_same [] [] r x y k l e h = refl
  block_same [] (b ∷ ys) r x y k l e h = absurd (omega (arith, l))
  block_same (a ∷ xs) [] r x y k l e h = absurd (omega (arith, l))
  block_same (a ∷ xs) (b ∷ ys) zero x y zero l e h = e refl
  block_same (a ∷ xs) (b ∷ ys) zero x y (suc k) l e h = h
  block_same (a ∷ xs) (b ∷ ys) (suc r) x y zero l e h = h
  block_same (a ∷ xs) (b ∷ ys) (suc r) x y (suc k) l e h = block_same xs ys r x y k (omega (arith, l)) (λ p. e (ap suc p)) h

  module _ (place : ℕ) (m n : Memory) (agree : Agree registers until place m n) where
    agree_set : (r x y : ℕ) → x ≡ y → Agree registers until (suc place) (with_register m r x) (with_register n r y)
    agree_set r x y e = record {
      size = set_length m.registers r x ∙ agree.size ∙ sym (set_length n.registers r y);
      needed = λ k l. set_same m.registers n.registers r x y k agree.size e (agree.needed k (read_later place k l));
      count = agree.count;
      blocks = λ b l. agree.blocks b (read_later place (registers + b) l);
    }

    -- a block that is written alike where it was alike before
    agree_block : (b : ℕ) (f g : List ℕ → List ℕ) → ((bs : List ℕ) → f bs ≡ g bs) → Agree registers until (suc place) (with_blocks m (slice_set m.blocks b (f (block_of m.blocks b)))) (with_blocks n (slice_set n.blocks b (g (block_of n.blocks b))))
    agree_block b f g e = record {
      size = agree.size;
      needed = λ k l. agree.needed k (read_later place k l);
      count = set_length m.blocks b (f (block_of m.blocks b)) ∙ agree.count ∙ sym (set_length n.blocks b (g (block_of n.blocks b)));
      blocks = λ k l.
          let same : block_of m.blocks k ≡ block_of n.blocks k = agree.blocks k (read_later place (registers + k) l) in
          block_same m.blocks n.blocks b (f (block_of m.blocks b)) (g (block_of n.blocks b)) k agree.count
          (λ p. e (block_of m.blocks b) ∙ ap g (ap (block_of m.blocks) p ∙ same ∙ ap (block_of n.blocks) (sym p))) same;
    }

    same_check : (c : Condition) → AreRead registers until place (operations.Check c) → check_class c m ≡ check_class c n
    same_check (checks.Divisor b) read = ap (λ x. unless (not (x == 0)) classes.Division) (agree.needed b read.0)
    same_check (checks.Quotient t a b) read =
        let p = agree.needed a read.0 in let q = agree.needed b read.1 in λ i. if q i == 0 then None else division_check t (p i) (q i)
    same_check (checks.Range op t a b) read = let p = agree.needed a read.0 in let q = agree.needed b read.1 in λ i. arithmetic_check op t t (p i) (q i)
    same_check (checks.Negation t a) read = ap (sign_check signs.Minus t) (agree.needed a read.0)
    same_check (checks.Count t u count) read = ap (count_check t u) (agree.needed count read.0)
    same_check (checks.LeftShift t u a count) read = let p = agree.needed a read.0 in let q = agree.needed count read.1 in λ i. left_shift_check t u (p i) (q i)
    same_check (checks.Returned a) read = ap return_check (agree.needed a read.0)
    same_check (checks.Within p i t k size class) read =
        let a = agree.needed p read.0 in let b = agree.needed i read.1 in let c = agree.needed size read.2 in
        λ z. unless (in_range (offset_by (offset_of (a z)) (number t (b z)) k) (c z)) class
    same_check (checks.SameObject p q) read = let a = agree.needed p read.0 in let b = agree.needed q read.1 in λ i. unless (object_of (a i) == object_of (b i)) classes.Pointer
    same_check (checks.Inside p count whole) read = ap (λ x. unless (nat_le (offset_of x + count) whole) classes.Bounds) (agree.needed p read.0)
    same_check (checks.AtMost a b most) read = let p = agree.needed a read.0 in let q = agree.needed b read.1 in λ i. unless (nat_le (p i * q i) most) classes.MallocLimit

    agree_calculated : (o : Operation) → AreRead registers until place o → Agree registers until (suc place) (calculated o m) (calculated o n)
    agree_calculated (operations.Constant r bits) read = agree_set r bits bits refl
    agree_calculated (operations.Copy r a) read = agree_set r _ _ (agree.needed a read.0)
    agree_calculated (operations.Load r t b offset) read = agree_set r _ _ (ap (number_at t offset) (agree.blocks b read.3))
    agree_calculated (operations.Store b offset count a) read =
        let p = agree.needed a read.0 in agree_block b (put_at offset (low_bytes count (register m a))) (put_at offset (low_bytes count (register n a))) (λ bs i. put_at offset (low_bytes count (p i)) bs)
    agree_calculated (operations.Clear b size) read = agree_block b (λ bs. zeros size) (λ bs. zeros size) (λ bs. refl)
    agree_calculated (operations.CopyBytes into to from offset count) read =
        let p = agree.blocks from read.3 in
        agree_block into (put_at to (bytes_of m.blocks from offset count)) (put_at to (bytes_of n.blocks from offset count)) (λ bs i. put_at to (take count (drop offset (p i))) bs)
    agree_calculated (operations.Convert r from to a) read = agree_set r _ _ (ap (converted from to) (agree.needed a read.0))
    agree_calculated (operations.Sign r op t a) read = agree_set r _ _ (ap (sign_value op t) (agree.needed a read.0))
    agree_calculated (operations.Arithmetic r op t u a b) read =
        let p = agree.needed a read.0 in let q = agree.needed b read.1 in agree_set r _ _ (λ i. arithmetic_value op t (p i) (q i))
    agree_calculated (operations.Compare r op t a b) read =
        let p = agree.needed a read.0 in let q = agree.needed b read.1 in agree_set r _ _ (λ i. truth_bits (compared op t (p i) (q i)))
    agree_calculated (operations.IsZero r a) read = agree_set r _ _ (ap (λ x. truth_bits (x == 0)) (agree.needed a read.0))
    agree_calculated (operations.Move r p i t k size class) read =
        let a = agree.needed p read.0 in let b = agree.needed i read.1 in agree_set r _ _ (λ z. pointer_at (a z) (offset_by (offset_of (a z)) (number t (b z)) k))
    agree_calculated (operations.Offset r p count) read = agree_set r _ _ (ap (λ x. further x count) (agree.needed p read.0))
    agree_calculated (operations.Distance r p q k) read = let a = agree.needed p read.0 in let b = agree.needed q read.1 in agree_set r _ _ (λ i. elements_between (a i) (b i) k)
    agree_calculated (operations.Relate r op p q) read =
        let a = agree.needed p read.0 in let b = agree.needed q read.1 in agree_set r _ _ (λ i. truth_bits (compared op UnsignedLong (offset_of (a i)) (offset_of (b i))))
    agree_calculated (operations.Take b to from p count whole) read =
        let a = agree.needed p read.0 in let block = agree.blocks from read.3 in
        agree_block b (put_at to (taken_at count (offset_of (register m p)) (block_of m.blocks from))) (put_at to (taken_at count (offset_of (register n p)) (block_of n.blocks from))) (λ bs i. put_at to (taken_at count (offset_of (a i)) (block i)) bs)
    agree_calculated (operations.Put b p from to count whole) read =
        let a = agree.needed p read.0 in let block = agree.blocks from read.3 in
        agree_block b (put_within (offset_of (register m p)) (bytes_of m.blocks from to count)) (put_within (offset_of (register n p)) (bytes_of n.blocks from to count)) (λ bs i. put_within (offset_of (a i)) (take count (drop to (block i))) bs)
    agree_calculated (operations.Use a) read = agree_later place m n agree
    agree_calculated (operations.Same p q) read = agree_later place m n agree
    agree_calculated (operations.Skip k) read = agree_later place m n agree
    agree_calculated (operations.SkipIfZero a k) read = agree_later place m n agree
    agree_calculated (operations.Check c) read = agree_later place m n agree
    agree_calculated (operations.Assert a) read = agree_later place m n agree
    agree_calculated (operations.Assume a) read = agree_later place m n agree
    agree_calculated (operations.Draw r bits) read = agree_later place m n agree
    agree_calculated (operations.ReadObject b to k offset count) read = agree_later place m n agree
    agree_calculated (operations.WriteObject k offset b from count) read = agree_later place m n agree
    agree_calculated operations.Exit read = agree_later place m n agree
    agree_calculated (operations.Fail class) read = agree_later place m n agree
    agree_calculated (operations.Call g first count into r) read = agree_later place m n agree
    agree_calculated (operations.Return u) read = agree_later place m n agree
    agree_calculated (operations.Read b to p count) read = agree_later place m n agree
    agree_calculated (operations.Write p b from count first) read = agree_later place m n agree
    agree_calculated (operations.Look r p subscript) read = agree_later place m n agree
    agree_calculated (operations.Fill b r) read = agree_later place m n agree
    agree_calculated (operations.Alloc r b size readonly heap) read = agree_later place m n agree
    agree_calculated (operations.Die p) read = agree_later place m n agree
    agree_calculated (operations.Free p) read = agree_later place m n agree
    agree_calculated (operations.MayFail r) read = agree_later place m n agree
    agree_calculated (operations.Limit a b) read = agree_later place m n agree

    -- the action that is asked for, and the memory behind an answer
    same_action : (o : Operation) → is_exchange o ≡ true → AreRead registers until place o → action_of o m ≡ action_of o n
    same_action (operations.Draw r bits) h read = refl
    same_action (operations.ReadObject b to k offset count) h read = refl
    same_action (operations.WriteObject k offset b from count) h read = ap (λ (bs : List ℕ). actions.Write (pointer_to k offset) (take count (drop from bs)) false) (agree.blocks b read.3)
    same_action (operations.Read b to p count) h read = ap (λ x. actions.Read x count) (agree.needed p read.0)
    same_action (operations.Write p b from count first) h read = let a = agree.needed p read.0 in let bs = agree.blocks b read.3 in λ i. actions.Write (a i) (take count (drop from (bs i))) first
    same_action (operations.Look r p subscript) h read = ap (λ x. actions.Look x subscript) (agree.needed p read.0)
    same_action (operations.Alloc r b size readonly heap) h read = let a = agree.needed size read.0 in let bs = agree.blocks b read.3 in λ i. actions.Alloc (made_of readonly heap (take (a i) (bs i)))
    same_action (operations.Die p) h read = ap (λ x. actions.Die (object_of x)) (agree.needed p read.0)
    same_action (operations.Free p) h read = ap actions.Free (agree.needed p read.0)
    same_action _ h read = absurd (false≢true h)

    agree_answered : (o : Operation) (a b : Answer) → is_exchange o ≡ true → a ≡ b → Agree registers until (suc place) (answered_with o m a) (answered_with o n b)
    agree_answered (operations.Draw r bits) a b h e = agree_set r _ _ (ap word_of e)
    agree_answered (operations.ReadObject c to k offset count) a b h e = agree_block c (put_at to (bytes_in a)) (put_at to (bytes_in b)) (λ bs i. put_at to (bytes_in (e i)) bs)
    agree_answered (operations.WriteObject k offset c from count) a b h e = agree_later place m n agree
    agree_answered (operations.Read c to p count) a b h e = agree_block c (put_at to (bytes_in a)) (put_at to (bytes_in b)) (λ bs i. put_at to (bytes_in (e i)) bs)
    agree_answered (operations.Write p c from count first) a b h e = agree_later place m n agree
    agree_answered (operations.Look r p subscript) a b h e = agree_set r _ _ (ap size_in e)
    agree_answered (operations.Alloc r c size readonly heap) a b h e = agree_set r _ _ (ap (λ x. pointer_to (number_in x) 0) e)
    agree_answered (operations.Die p) a b h e = agree_later place m n agree
    agree_answered (operations.Free p) a b h e = agree_later place m n agree
    agree_answered _ a b h e = absurd (false≢true h)

    -- how many bytes are drawn
    same_count : (b r : ℕ) → AreRead registers until place (operations.Fill b r) → first_count m b r ≡ first_count n b r
    same_count b r read = let a = agree.needed r read.0 in let bs = agree.blocks b read.3 in λ i. min (a i) (length (bs i))

    module _ (v : ℕ → ℕ) (x line f : ℕ) where
      same_exchange : (o : Operation) → is_exchange o ≡ true → AreRead registers until place o → exchanged v x line f o m ≡ exchanged v x line f o n
      same_exchange o h read = ap (λ (a : Action). asked a line f (answer_at v x a) ∷ []) (same_action o h read)

      same_told : (o : Operation) → AreRead registers until place o → tells v x line f o m ≡ tells v x line f o n
      same_told (operations.Constant r bits) read = refl
      same_told (operations.Copy r a) read = refl
      same_told (operations.Load r t b offset) read = refl
      same_told (operations.Store b offset count a) read = refl
      same_told (operations.Clear b size) read = refl
      same_told (operations.CopyBytes into to from offset count) read = refl
      same_told (operations.Convert r t u a) read = refl
      same_told (operations.Sign r op t a) read = refl
      same_told (operations.Arithmetic r op t u a b) read = refl
      same_told (operations.Compare r op t a b) read = refl
      same_told (operations.IsZero r a) read = refl
      same_told (operations.Skip k) read = refl
      same_told (operations.SkipIfZero a k) read = refl
      same_told (operations.Check c) read = ap (λ y. breaks y line f) (same_check c read)
      same_told (operations.Assert a) read = ap (λ y. if y == 0 then stopped (Broken classes.Assertion line f) ∷ [] else []) (agree.needed a read.0)
      same_told (operations.Assume a) read = ap (λ y. if y == 0 then stopped Blocked ∷ [] else []) (agree.needed a read.0)
      same_told (operations.Draw r bits) read = same_exchange (operations.Draw r bits) refl read
      same_told (operations.ReadObject b to k offset count) read = same_exchange (operations.ReadObject b to k offset count) refl read
      same_told (operations.WriteObject k offset b from count) read = same_exchange (operations.WriteObject k offset b from count) refl read
      same_told operations.Exit read = refl
      same_told (operations.Fail class) read = refl
      same_told (operations.Use a) read = refl
      same_told (operations.Call g first count into r) read = refl
      same_told (operations.Return u) read = refl
      same_told (operations.Move r p i t k size class) read = refl
      same_told (operations.Offset r p count) read = refl
      same_told (operations.Same p q) read = refl
      same_told (operations.Distance r p q k) read = refl
      same_told (operations.Relate r op p q) read = refl
      same_told (operations.Take b to from p count whole) read = refl
      same_told (operations.Put b p from to count whole) read = refl
      same_told (operations.Read b to p count) read = same_exchange (operations.Read b to p count) refl read
      same_told (operations.Write p b from count first) read = same_exchange (operations.Write p b from count first) refl read
      same_told (operations.Look r p subscript) read = same_exchange (operations.Look r p subscript) refl read
      same_told (operations.Fill b r) read = ap (λ size. drawn v line f (word_count size) size 0 x) (same_count b r read)
      same_told (operations.Alloc r b size readonly heap) read = same_exchange (operations.Alloc r b size readonly heap) refl read
      same_told (operations.Die p) read = same_exchange (operations.Die p) refl read
      same_told (operations.Free p) read = same_exchange (operations.Free p) refl read
      same_told (operations.MayFail r) read = refl
      same_told (operations.Limit a b) read = refl

  alike_updated : (place : ℕ) (w x : Option Memory) (f : Memory → Memory) → ((m n : Memory) → Agree registers until place m n → Agree registers until (suc place) (f m) (f n)) → Alike registers until place w x → Alike registers until (suc place) (updated f w) (updated f x)
  alike_updated place None None f same h = tt
  alike_updated place None (Some n) f same h = absurd h
  alike_updated place (Some m) None f same h = absurd h
  alike_updated place (Some m) (Some n) f same h = same m n h

  kept_by : (place : ℕ) (b c : Bool) (m n : Memory) → b ≡ c → Agree registers until (suc place) m n → Alike registers until (suc place) (if b then Some m else None) (if c then Some n else None)
  kept_by place true true m n e h = h
  kept_by place true false m n e h = absurd (cc)
  kept_by place false true m n e h = absurd (cc)
  kept_by place false false m n e h = tt

  alike_kept : (place : ℕ) (w x : Option Memory) (test : Memory → Bool) → ((m n : Memory) → Agree registers until place m n → test m ≡ test n) → Alike registers until place w x → Alike registers until (suc place) (kept test w) (kept test x)
  alike_kept place None None test same h = tt
  alike_kept place None (Some n) test same h = absurd h
  alike_kept place (Some m) None test same h = absurd h
  alike_kept place (Some m) (Some n) test same h = kept_by place (test m) (test n) m n (same m n h) (agree_later place m n h)

  -- a block that is written alike, where the memories are alike
  agree_put : (place : ℕ) (m n : Memory) → Agree registers until place m n → (b offset : ℕ) (new : List ℕ) → Agree registers until place (with_blocks m (put_bytes m.blocks b offset new)) (with_blocks n (put_bytes n.blocks b offset new))
  agree_put place m n h b offset new = record {
    size = h.size;
    needed = h.needed;
    count = set_length m.blocks b (put_at offset new (block_of m.blocks b)) ∙ h.count ∙ sym (set_length n.blocks b (put_at offset new (block_of n.blocks b)));
    blocks = λ k l.
        let same : block_of m.blocks k ≡ block_of n.blocks k = h.blocks k l in
        block_same m.blocks n.blocks b (put_at offset new (block_of m.blocks b)) (put_at offset new (block_of n.blocks b)) k h.count
        (λ p. ap (put_at offset new) (ap (block_of m.blocks) p ∙ same ∙ ap (block_of n.blocks) (sym p))) same;
  }

  -- words drawn into a block leave memories alike
  agree_drawn : (v : ℕ → ℕ) (place b words size offset y : ℕ) (m n : Memory) → Agree registers until place m n → Agree registers until place (drawn_into v b words size offset y m) (drawn_into v b words size offset y n)
  agree_drawn v place b zero size offset y m n h = h
  agree_drawn v place b (suc k) size offset y m n h =
      let new = low_bytes (drawn_count size offset) (word_of (answer_at v y (actions.Draw (8 * drawn_count size offset)))) in
      agree_drawn v place b k size (offset + 8) (suc y) (with_blocks m (put_bytes m.blocks b offset new)) (with_blocks n (put_bytes n.blocks b offset new)) (agree_put place m n h b offset new)

  -- as many words as there are bytes
  agree_filled : (v : ℕ → ℕ) (place b r y : ℕ) (m n : Memory) → Agree registers until place m n → AreRead registers until place (operations.Fill b r)
      → Agree registers until (suc place) (behind v y (operations.Fill b r) m) (behind v y (operations.Fill b r) n)
  agree_filled v place b r y m n h read =
      let size = first_count n b r in
      agree_later place _ _ (subst (λ k. Agree registers until place (drawn_into v b (word_count k) k 0 y m) (drawn_into v b (word_count size) size 0 y n)) (sym (same_count place m n h b r read)) (agree_drawn v place b (word_count size) size 0 y m n h))

  -- the memories behind an operation
  agree_behind : (v : ℕ → ℕ) (place y : ℕ) (o : Operation) (m n : Memory) → Agree registers until place m n → AreRead registers until place o → Agree registers until (suc place) (behind v y o m) (behind v y o n)
  agree_behind v place y (operations.Constant r bits) m n h read = agree_calculated place m n h (operations.Constant r bits) read
  agree_behind v place y (operations.Copy r a) m n h read = agree_calculated place m n h (operations.Copy r a) read
  agree_behind v place y (operations.Load r t b offset) m n h read = agree_calculated place m n h (operations.Load r t b offset) read
  agree_behind v place y (operations.Store b offset count a) m n h read = agree_calculated place m n h (operations.Store b offset count a) read
  agree_behind v place y (operations.Clear b size) m n h read = agree_calculated place m n h (operations.Clear b size) read
  agree_behind v place y (operations.CopyBytes into to from offset count) m n h read = agree_calculated place m n h (operations.CopyBytes into to from offset count) read
  agree_behind v place y (operations.Convert r t u a) m n h read = agree_calculated place m n h (operations.Convert r t u a) read
  agree_behind v place y (operations.Sign r op t a) m n h read = agree_calculated place m n h (operations.Sign r op t a) read
  agree_behind v place y (operations.Arithmetic r op t u a b) m n h read = agree_calculated place m n h (operations.Arithmetic r op t u a b) read
  agree_behind v place y (operations.Compare r op t a b) m n h read = agree_calculated place m n h (operations.Compare r op t a b) read
  agree_behind v place y (operations.IsZero r a) m n h read = agree_calculated place m n h (operations.IsZero r a) read
  agree_behind v place y (operations.Skip k) m n h read = agree_calculated place m n h (operations.Skip k) read
  agree_behind v place y (operations.SkipIfZero a k) m n h read = agree_calculated place m n h (operations.SkipIfZero a k) read
  agree_behind v place y (operations.Check c) m n h read = agree_calculated place m n h (operations.Check c) read
  agree_behind v place y (operations.Assert a) m n h read = agree_calculated place m n h (operations.Assert a) read
  agree_behind v place y (operations.Assume a) m n h read = agree_calculated place m n h (operations.Assume a) read
  agree_behind v place y (operations.Draw r bits) m n h read = agree_answered place m n h (operations.Draw r bits) _ _ refl (ap (answer_at v y) (same_action place m n h (operations.Draw r bits) refl read))
  agree_behind v place y (operations.ReadObject b to k offset count) m n h read = agree_answered place m n h (operations.ReadObject b to k offset count) _ _ refl (ap (answer_at v y) (same_action place m n h (operations.ReadObject b to k offset count) refl read))
  agree_behind v place y (operations.WriteObject k offset b from count) m n h read = agree_calculated place m n h (operations.WriteObject k offset b from count) read
  agree_behind v place y operations.Exit m n h read = agree_calculated place m n h operations.Exit read
  agree_behind v place y (operations.Fail class) m n h read = agree_calculated place m n h (operations.Fail class) read
  agree_behind v place y (operations.Use a) m n h read = agree_calculated place m n h (operations.Use a) read
  agree_behind v place y (operations.Call g first count into r) m n h read = agree_calculated place m n h (operations.Call g first count into r) read
  agree_behind v place y (operations.Return u) m n h read = agree_calculated place m n h (operations.Return u) read
  agree_behind v place y (operations.Move r p i t k size class) m n h read = agree_calculated place m n h (operations.Move r p i t k size class) read
  agree_behind v place y (operations.Offset r p count) m n h read = agree_calculated place m n h (operations.Offset r p count) read
  agree_behind v place y (operations.Same p q) m n h read = agree_calculated place m n h (operations.Same p q) read
  agree_behind v place y (operations.Distance r p q k) m n h read = agree_calculated place m n h (operations.Distance r p q k) read
  agree_behind v place y (operations.Relate r op p q) m n h read = agree_calculated place m n h (operations.Relate r op p q) read
  agree_behind v place y (operations.Take b to from p count whole) m n h read = agree_calculated place m n h (operations.Take b to from p count whole) read
  agree_behind v place y (operations.Put b p from to count whole) m n h read = agree_calculated place m n h (operations.Put b p from to count whole) read
  agree_behind v place y (operations.Read b to p count) m n h read = agree_answered place m n h (operations.Read b to p count) _ _ refl (ap (answer_at v y) (same_action place m n h (operations.Read b to p count) refl read))
  agree_behind v place y (operations.Write p b from count first) m n h read = agree_calculated place m n h (operations.Write p b from count first) read
  agree_behind v place y (operations.Look r p subscript) m n h read = agree_answered place m n h (operations.Look r p subscript) _ _ refl (ap (answer_at v y) (same_action place m n h (operations.Look r p subscript) refl read))
  agree_behind v place y (operations.Fill b r) m n h read = agree_filled v place b r y m n h read
  agree_behind v place y (operations.Alloc r b size readonly heap) m n h read = agree_answered place m n h (operations.Alloc r b size readonly heap) _ _ refl (ap (answer_at v y) (same_action place m n h (operations.Alloc r b size readonly heap) refl read))
  agree_behind v place y (operations.Die p) m n h read = agree_calculated place m n h (operations.Die p) read
  agree_behind v place y (operations.Free p) m n h read = agree_calculated place m n h (operations.Free p) read
  agree_behind v place y (operations.MayFail r) m n h read = agree_calculated place m n h (operations.MayFail r) read
  agree_behind v place y (operations.Limit a b) m n h read = agree_calculated place m n h (operations.Limit a b) read

  module _ (v : ℕ → ℕ) (place y : ℕ) (w x : Option Memory) (ws xs : Arrivals) (h : Alike registers until place w x) (k : AllAlike registers until (suc place) ws xs) where
    goes_on : (o : Operation) → AreRead registers until place o → AllAlike registers until (suc place) (arrived 0 (updated (behind v y o) w) ws) (arrived 0 (updated (behind v y o) x) xs)
    goes_on o read = arrived_alike (suc place) 0 _ _ ws xs (alike_updated place w x (behind v y o) (λ m n agree. agree_behind v place y o m n agree read) h) k

    leaves_alike : (o : Operation) → AreRead registers until place o → AllAlike registers until (suc place) (leaves v y o w ws) (leaves v y o x xs)
    leaves_alike (operations.Skip n) read = arrived_alike (suc place) n w x ws xs (alike_later place w x h) k
    leaves_alike (operations.SkipIfZero a n) read =
        let same : (m m' : Memory) → Agree registers until place m m' → register m a ≡ register m' a = λ m m' agree. agree.needed a read.0 in
        arrived_alike (suc place) n (kept (λ m. register m a == 0) w) (kept (λ m. register m a == 0) x) _ _ (alike_kept place w x (λ m. register m a == 0) (λ m m' agree. ap (λ z. z == 0) (same m m' agree)) h)
        (arrived_alike (suc place) 0 (kept (λ m. not (register m a == 0)) w) (kept (λ m. not (register m a == 0)) x) ws xs (alike_kept place w x (λ m. not (register m a == 0)) (λ m m' agree. ap (λ z. not (z == 0)) (same m m' agree)) h) k)
    leaves_alike operations.Exit read = k
    leaves_alike (operations.Constant r bits) read = goes_on (operations.Constant r bits) read
    leaves_alike (operations.Copy r a) read = goes_on (operations.Copy r a) read
    leaves_alike (operations.Load r t b offset) read = goes_on (operations.Load r t b offset) read
    leaves_alike (operations.Store b offset count a) read = goes_on (operations.Store b offset count a) read
    leaves_alike (operations.Clear b size) read = goes_on (operations.Clear b size) read
    leaves_alike (operations.CopyBytes into to from offset count) read = goes_on (operations.CopyBytes into to from offset count) read
    leaves_alike (operations.Convert r t u a) read = goes_on (operations.Convert r t u a) read
    leaves_alike (operations.Sign r op t a) read = goes_on (operations.Sign r op t a) read
    leaves_alike (operations.Arithmetic r op t u a b) read = goes_on (operations.Arithmetic r op t u a b) read
    leaves_alike (operations.Compare r op t a b) read = goes_on (operations.Compare r op t a b) read
    leaves_alike (operations.IsZero r a) read = goes_on (operations.IsZero r a) read
    leaves_alike (operations.Check c) read = goes_on (operations.Check c) read
    leaves_alike (operations.Assert a) read = goes_on (operations.Assert a) read
    leaves_alike (operations.Assume a) read = goes_on (operations.Assume a) read
    leaves_alike (operations.Draw r bits) read = goes_on (operations.Draw r bits) read
    leaves_alike (operations.ReadObject b to j offset count) read = goes_on (operations.ReadObject b to j offset count) read
    leaves_alike (operations.WriteObject j offset b from count) read = goes_on (operations.WriteObject j offset b from count) read
    leaves_alike (operations.Fail class) read = goes_on (operations.Fail class) read
    leaves_alike (operations.Use a) read = goes_on (operations.Use a) read
    leaves_alike (operations.Call g first count into r) read = goes_on (operations.Call g first count into r) read
    leaves_alike (operations.Return u) read = goes_on (operations.Return u) read
    leaves_alike (operations.Move r p i t j size class) read = goes_on (operations.Move r p i t j size class) read
    leaves_alike (operations.Offset r p count) read = goes_on (operations.Offset r p count) read
    leaves_alike (operations.Same p q) read = goes_on (operations.Same p q) read
    leaves_alike (operations.Distance r p q j) read = goes_on (operations.Distance r p q j) read
    leaves_alike (operations.Relate r op p q) read = goes_on (operations.Relate r op p q) read
    leaves_alike (operations.Take b to from p count whole) read = goes_on (operations.Take b to from p count whole) read
    leaves_alike (operations.Put b p from to count whole) read = goes_on (operations.Put b p from to count whole) read
    leaves_alike (operations.Read b to p count) read = goes_on (operations.Read b to p count) read
    leaves_alike (operations.Write p b from count first) read = goes_on (operations.Write p b from count first) read
    leaves_alike (operations.Look r p subscript) read = goes_on (operations.Look r p subscript) read
    leaves_alike (operations.Fill b r) read = goes_on (operations.Fill b r) read
    leaves_alike (operations.Alloc r b size readonly heap) read = goes_on (operations.Alloc r b size readonly heap) read
    leaves_alike (operations.Die p) read = goes_on (operations.Die p) read
    leaves_alike (operations.Free p) read = goes_on (operations.Free p) read
    leaves_alike (operations.MayFail r) read = goes_on (operations.MayFail r) read
    leaves_alike (operations.Limit a b) read = goes_on (operations.Limit a b) read

  -- ---- code

  module _ (v : ℕ → ℕ) (blocks : List ℕ) where
    same_on : (place y line f : ℕ) (o : Operation) (w x : Option Memory) → AreRead registers until place o → Alike registers until place w x → on w (tells v y line f o) ≡ on x (tells v y line f o)
    same_on place y line f o None None read h = refl
    same_on place y line f o None (Some n) read h = absurd h
    same_on place y line f o (Some m) None read h = absurd h
    same_on place y line f o (Some m) (Some n) read h = same_told place m n h v y line f o read

    first_alike : (place : ℕ) (ws xs : Arrivals) → AllAlike registers until place ws xs → Alike registers until place (first_arrival v ws) (first_arrival v xs)
    first_alike place [] [] h = tt
    first_alike place [] (x ∷ xs) h = absurd h
    first_alike place (w ∷ ws) [] h = absurd h
    first_alike place (w ∷ ws) (x ∷ xs) h = h.0

    later_alike : (place : ℕ) (ws xs : Arrivals) → AllAlike registers until place ws xs → AllAlike registers until (suc place) (later_arrivals v ws) (later_arrivals v xs)
    later_alike place [] [] h = tt
    later_alike place [] (x ∷ xs) h = absurd h
    later_alike place (w ∷ ws) [] h = absurd h
    later_alike place (w ∷ ws) (x ∷ xs) h = h.1

    pub told_alike : (place y : ℕ) (code : List Instruction) (ws xs : Arrivals) → Covers registers until place code → AllAlike registers until place ws xs → told v blocks y code ws ≡ told v blocks y code xs
    told_alike place y [] ws xs covers h = refl
    told_alike place y (i ∷ code) ws xs covers h =
        let p = same_on place y i.line i.function i.operation (first_arrival v ws) (first_arrival v xs) covers.0 (first_alike place ws xs h) in
        let q = told_alike (suc place) (y + variables_of blocks i.operation) code (leaves v y i.operation (first_arrival v ws) (later_arrivals v ws)) (leaves v y i.operation (first_arrival v xs) (later_arrivals v xs)) covers.1
        (leaves_alike v place y (first_arrival v ws) (first_arrival v xs) (later_arrivals v ws) (later_arrivals v xs) (first_alike place ws xs h) (later_alike place ws xs h) i.operation covers.0) in
        λ k. p k ++ q k

    -- the same, one instruction on
    pub told_step : (place y : ℕ) (i : Instruction) (code : List Instruction) (w : Option Memory) (ws xs : Arrivals) → Covers registers until (suc place) code → AllAlike registers until (suc place) xs (leaves v y i.operation w ws)
        → on w (tells v y i.line i.function i.operation) ++ told v blocks (y + variables_of blocks i.operation) code xs ≡ told v blocks y (i ∷ code) (w ∷ ws)
    told_step place y i code w ws xs covers h =
        ap (λ ys. on w (tells v y i.line i.function i.operation) ++ ys) (told_alike (suc place) (y + variables_of blocks i.operation) code xs (leaves v y i.operation w ws) covers h)
