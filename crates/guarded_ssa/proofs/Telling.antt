-- What one pass tells under each valuation are the runs of the code, and no others.
use Rattle.std.proofs.Common.{◌≡◌, ℕ, zero, suc, ◌+◌, ◌-◌, ◌*◌, ◌≤◌, Bool, true, false, List, [], ◌∷◌, ◌++◌, length, Option, Some, None, refl, sym, ap, subst, ◌∙◌, arith, nat_lt}
use Rattle.std.specs.Prelude.{not, nat_le, ◌&&◌, ◌==◌, if◌then◌else◌, slice_index}
use Rattle.std.proofs.lemmas.Bool.Decides.{nat_tests}
use Rattle.words.specs.declared.check.Class.{Class}
use Rattle.words.specs.declared.check.Class.TheVariants as classes
use Rattle.actions.specs.Behaviour.{Behaviour, word_64}
use Rattle.actions.specs.declared.action.Action.TheVariants as actions
use Rattle.actions.specs.declared.action.Answer.{Answer}
use Rattle.actions.specs.declared.action.Next.{Next}
use Rattle.actions.specs.declared.action.Next.TheVariants.{Ended, Blocked, Broken}
use Rattle.c_types.specs.declared.integers.IntegerType.{IntegerType}
use Rattle.core_tree.specs.Typed.{is_within}
use Rattle.c_values.specs.Variables.{put_bytes, low_bytes, word_count, drawn_count}
use Rattle.goto_prog.specs.declared.code.Operation.{Operation}
use Rattle.goto_prog.specs.declared.code.Operation.TheVariants as operations
use Rattle.goto_prog.specs.declared.code.Instruction.{Instruction}
use Rattle.goto_prog.specs.Fitting.{operation_fits, code_fits, is_pointer}
use Rattle.goto_prog.specs.Running.{is_exchange}
use Rattle.goto_prog.specs.Threads.{behaving, ask, final}
use Rattle.goto_prog.specs.Meaning.{Memory, register, with_blocks, word_of, first_count, check_class, calculated, action_of, answered_with, or_else, at, fills, operates, places}
use Rattle.goto_prog.proofs.Registers.{both}
use Rattle.goto_prog.proofs.Blocks.{sizes_put}
use Rattle.event_forms.specs.Runs.{Run, stops, asks}
use Rattle.guarded_ssa.specs.inner.Answers.{answer_at, answer_size, variables_of}
use Rattle.event_forms.specs.Arrivals.{stopped, read}
use Rattle.guarded_ssa.specs.inner.Places.{Arrivals, arrived, breaks, drawn, drawn_into, tells, leaves, told}
use Rattle.guarded_ssa.proofs.Valuations.{IsEnd, Runs, Fits, fits_lower, fits_same, fits_end, fits_ask}
use Rattle.guarded_ssa.proofs.Sizes.{Sized, sized_block, sized_calculated, sized_answered}

abbrev pub end : Run
end = stops (Ended (word_64 0))

-- no place is reached
abbrev pub Nowhere : Arrivals → Type 0
Nowhere [] = Unit {0}
Nowhere (None ∷ ws) = Nowhere ws
Nowhere (Some m ∷ ws) = ⊥

-- ---- what isn't reached changes nothing

arrived_none : (n : ℕ) (ws : Arrivals) → arrived n None ws ≡ ws
arrived_none n [] = refl
arrived_none zero (w ∷ ws) = refl
arrived_none (suc n) (w ∷ ws) = ap (λ xs. w ∷ xs) (arrived_none n ws)

pub leaves_none : (v : ℕ → ℕ) (x : ℕ) (o : Operation) (ws : Arrivals) → leaves v x o None ws ≡ ws
leaves_none v x (operations.Constant r bits) ws = arrived_none 0 ws
leaves_none v x (operations.Copy r a) ws = arrived_none 0 ws
leaves_none v x (operations.Load r t b offset) ws = arrived_none 0 ws
leaves_none v x (operations.Store b offset count a) ws = arrived_none 0 ws
leaves_none v x (operations.Clear b size) ws = arrived_none 0 ws
leaves_none v x (operations.CopyBytes into to from offset count) ws = arrived_none 0 ws
leaves_none v x (operations.Convert r t u a) ws = arrived_none 0 ws
leaves_none v x (operations.Sign r op t a) ws = arrived_none 0 ws
leaves_none v x (operations.Arithmetic r op t u a b) ws = arrived_none 0 ws
leaves_none v x (operations.Compare r op t a b) ws = arrived_none 0 ws
leaves_none v x (operations.IsZero r a) ws = arrived_none 0 ws
leaves_none v x (operations.Skip n) ws = arrived_none n ws
leaves_none v x (operations.SkipIfZero a n) ws = arrived_none n (arrived 0 None ws) ∙ arrived_none 0 ws
leaves_none v x (operations.Check c) ws = arrived_none 0 ws
leaves_none v x (operations.Assert a) ws = arrived_none 0 ws
leaves_none v x (operations.Assume a) ws = arrived_none 0 ws
leaves_none v x (operations.Draw r bits) ws = arrived_none 0 ws
leaves_none v x (operations.ReadObject b to k offset count) ws = arrived_none 0 ws
leaves_none v x (operations.WriteObject k offset b from count) ws = arrived_none 0 ws
leaves_none v x operations.Exit ws = refl
leaves_none v x (operations.Fail class) ws = arrived_none 0 ws
leaves_none v x (operations.Use a) ws = arrived_none 0 ws
leaves_none v x (operations.Call g first count into r) ws = arrived_none 0 ws
leaves_none v x (operations.Return u) ws = arrived_none 0 ws
leaves_none v x (operations.Move r p i t k size class) ws = arrived_none 0 ws
leaves_none v x (operations.Offset r p count) ws = arrived_none 0 ws
leaves_none v x (operations.Same p q) ws = arrived_none 0 ws
leaves_none v x (operations.Distance r p q k) ws = arrived_none 0 ws
leaves_none v x (operations.Relate r op p q) ws = arrived_none 0 ws
leaves_none v x (operations.Take b to from p count whole) ws = arrived_none 0 ws
leaves_none v x (operations.Put b p from to count whole) ws = arrived_none 0 ws
leaves_none v x (operations.Read b to p count) ws = arrived_none 0 ws
leaves_none v x (operations.Write p b from count first) ws = arrived_none 0 ws
leaves_none v x (operations.Look r p subscript) ws = arrived_none 0 ws
leaves_none v x (operations.Fill b r) ws = arrived_none 0 ws
leaves_none v x (operations.Alloc r b size readonly heap) ws = arrived_none 0 ws
leaves_none v x (operations.Die p) ws = arrived_none 0 ws
leaves_none v x (operations.Free p) ws = arrived_none 0 ws
leaves_none v x (operations.MayFail r) ws = arrived_none 0 ws
leaves_none v x (operations.Limit a b) ws = arrived_none 0 ws

-- ---- one step from a place that is reached

below : (m n : ℕ) → m ≤ n → nat_le m n ≡ true
below m n h = grind (arith, nat_tests)

in_block : (blocks : List ℕ) (b offset count : ℕ) → nat_lt b (length blocks) ≡ true → offset + count ≤ slice_index blocks b → is_within blocks b offset count ≡ true
in_block blocks b offset count there fits = λ k. there k && below (offset + count) (slice_index blocks b) fits k

module _ (registers : List IntegerType) (blocks : List ℕ) where
  -- the runs that are told from the place behind n others on are those of the code
  abbrev TellsFrom : (x place : ℕ) → List Instruction → Type 0
  TellsFrom x place code = (n : ℕ) (m : Memory) (ws : Arrivals) → Sized blocks m → Nowhere ws → length code ≤ length ws
      → Fits x (λ v. read (told v blocks x code (arrived n (Some m) ws)) end) (at behaving (places behaving false place code) n m)

  module _ (x place : ℕ) (code : List Instruction) (tell : TellsFrom x place code) (ws : Arrivals) (none : Nowhere ws) (room : length code ≤ length ws) where
    abbrev Told : (n : ℕ) → Memory → Runs
    Told n m = λ v. read (told v blocks x code (arrived n (Some m) ws)) end

    abbrev ps : List (Memory → Behaviour)
    ps = places behaving false place code

    goes : (n : ℕ) (m : Memory) → Sized blocks m → Fits x (Told n m) (at behaving ps n m)
    goes n m same = tell n m ws same none room

    jumps : (b : Bool) (n : ℕ) (m : Memory) → Sized blocks m
        → Fits x (λ v. read (told v blocks x code (arrived n (if b then Some m else None) (arrived 0 (if not b then Some m else None) ws))) end) (if b then at behaving ps n m else at behaving ps 0 m)
    jumps true n m same = fits_same x (Told n m) _ _ (λ v. ap (λ xs. read (told v blocks x code (arrived n (Some m) xs)) end) (arrived_none 0 ws)) (goes n m same)
    jumps false n m same = fits_same x (Told 0 m) _ _ (λ v. ap (λ xs. read (told v blocks x code xs) end) (arrived_none n (arrived 0 (Some m) ws))) (goes 0 m same)

    breaks_or : (c : Option Class) (line f : ℕ) (m : Memory) → Sized blocks m → Fits x (λ v. read (breaks c line f ++ told v blocks x code (arrived 0 (Some m) ws)) end) (or_else behaving c line f (at behaving ps 0 m))
    breaks_or None line f m same = goes 0 m same
    breaks_or (Some c) line f m same = fits_end x (Broken c line f) tt

    ends_or : (b : Bool) (next : Next) (m : Memory) → IsEnd next → Sized blocks m
        → Fits x (λ v. read ((if b then stopped next ∷ [] else []) ++ told v blocks x code (arrived 0 (Some m) ws)) end) (if b then final next else at behaving ps 0 m)
    ends_or true next m ends same = fits_end x next ends
    ends_or false next m ends same = goes 0 m same

    -- words are drawn into a block: of so many at most as many as there are variables in front of x
    draws : (at_place line f b size words offset y : ℕ) (m : Memory) → y + words ≤ x → offset + 8 * words ≤ size + 7 → size ≤ slice_index blocks b → nat_lt b (length blocks) ≡ true → Sized blocks m
        → Fits y (λ v. read (drawn v line f words size offset y ++ told v blocks x code (arrived 0 (Some (drawn_into v b words size offset y m)) ws)) end) (fills behaving words at_place line f b size offset ps m)
    draws at_place line f b size zero offset y m few fits within there same = fits_lower y x _ _ (omega (arith, few)) (goes 0 m same)
    draws at_place line f b size (suc k) offset y m few fits within there same =
        let count = drawn_count size offset in
        let next : Answer → Memory = λ a. with_blocks m (put_bytes m.blocks b offset (low_bytes count (word_of a))) in
        fits_ask y (actions.Draw (8 * count)) line f
        (λ a v. read (drawn v line f k size (offset + 8) (suc y) ++ told v blocks x code (arrived 0 (Some (drawn_into v b k size (offset + 8) (suc y) (next a))) ws)) end)
        (λ a. fills behaving k at_place line f b size (offset + 8) ps (next a))
        (λ a shape.
        let at : y + 1 ≡ suc y = omega arith in
        let kept : Sized blocks (next a) = sizes_put blocks m.blocks b offset count (word_of a) [] same (in_block blocks b offset count there (omega (arith, fits, within))) (omega arith) in
        subst (λ z. Fits z (λ v. read (drawn v line f k size (offset + 8) (suc y) ++ told v blocks x code (arrived 0 (Some (drawn_into v b k size (offset + 8) (suc y) (next a))) ws)) end) (fills behaving k at_place line f b size (offset + 8) ps (next a))) (sym at)
        (draws at_place line f b size k (offset + 8) (suc y) (next a) (omega (arith, few)) (omega (arith, fits)) within there kept))

  -- one instruction whose variables are those from y on, and the code behind it
  module _ (y place : ℕ) (o : Operation) (fits : (behind : ℕ) × (operation_fits registers blocks behind o ≡ true)) (code : List Instruction) (tell : TellsFrom (y + variables_of blocks o) (suc place) code) (ws : Arrivals) (none : Nowhere ws) (room : length code ≤ length ws) (line f : ℕ) where
    abbrev x : ℕ
    x = y + variables_of blocks o

    abbrev rest : List (Memory → Behaviour)
    rest = places behaving false (suc place) code

    -- it goes on with a memory
    goes_on : (m : Memory) → Sized blocks m → Fits y (λ v. read (told v blocks x code (arrived 0 (Some m) ws)) end) (at behaving rest 0 m)
    goes_on m same = fits_lower y x _ _ (omega arith) (goes x (suc place) code tell ws none room 0 m same)

    calculates : (m : Memory) → Sized blocks m → Fits y (λ v. read (told v blocks x code (arrived 0 (Some (calculated o m)) ws)) end) (at behaving rest 0 (calculated o m))
    calculates m same = goes_on (calculated o m) (sized_calculated registers blocks fits.0 o m fits.1 same)

    -- an action, and what comes behind its answer
    asks_one : (m : Memory) → is_exchange o ≡ true → answer_size (action_of o m) ≡ variables_of blocks o → Sized blocks m
        → Fits y (λ v. asks (action_of o m) line f (answer_at v y (action_of o m)) (read (told v blocks x code (arrived 0 (Some (answered_with o m (answer_at v y (action_of o m)))) ws)) end))
        (ask (action_of o m) line f (λ a. at behaving rest 0 (answered_with o m a)))
    asks_one m h size same =
        fits_ask y (action_of o m) line f (λ a v. read (told v blocks x code (arrived 0 (Some (answered_with o m a)) ws)) end) (λ a. at behaving rest 0 (answered_with o m a))
        (λ a shape. subst (λ n. Fits (y + n) (λ v. read (told v blocks x code (arrived 0 (Some (answered_with o m a)) ws)) end) (at behaving rest 0 (answered_with o m a))) (sym size)
        (goes x (suc place) code tell ws none room 0 (answered_with o m a) (sized_answered registers blocks fits.0 o m a h fits.1 shape same)))

  step : (y place : ℕ) (o : Operation) (fits : (behind : ℕ) × (operation_fits registers blocks behind o ≡ true)) (code : List Instruction) → TellsFrom (y + variables_of blocks o) (suc place) code → (m : Memory) (ws : Arrivals) → Sized blocks m → Nowhere ws → length code ≤ length ws → (line f : ℕ)
      → Fits y (λ v. read (tells v y line f o m ++ told v blocks (y + variables_of blocks o) code (leaves v y o (Some m) ws)) end) (operates behaving false place line f o (places behaving false (suc place) code) m)
  step y place (operations.Constant r bits) fits code tell m ws same none room line f = calculates y place (operations.Constant r bits) fits code tell ws none room line f m same
  step y place (operations.Copy r a) fits code tell m ws same none room line f = calculates y place (operations.Copy r a) fits code tell ws none room line f m same
  step y place (operations.Load r t b offset) fits code tell m ws same none room line f = calculates y place (operations.Load r t b offset) fits code tell ws none room line f m same
  step y place (operations.Store b offset count a) fits code tell m ws same none room line f = calculates y place (operations.Store b offset count a) fits code tell ws none room line f m same
  step y place (operations.Clear b size) fits code tell m ws same none room line f = calculates y place (operations.Clear b size) fits code tell ws none room line f m same
  step y place (operations.CopyBytes into to from offset count) fits code tell m ws same none room line f = calculates y place (operations.CopyBytes into to from offset count) fits code tell ws none room line f m same
  step y place (operations.Convert r t u a) fits code tell m ws same none room line f = calculates y place (operations.Convert r t u a) fits code tell ws none room line f m same
  step y place (operations.Sign r op t a) fits code tell m ws same none room line f = calculates y place (operations.Sign r op t a) fits code tell ws none room line f m same
  step y place (operations.Arithmetic r op t u a b) fits code tell m ws same none room line f = calculates y place (operations.Arithmetic r op t u a b) fits code tell ws none room line f m same
  step y place (operations.Compare r op t a b) fits code tell m ws same none room line f = calculates y place (operations.Compare r op t a b) fits code tell ws none room line f m same
  step y place (operations.IsZero r a) fits code tell m ws same none room line f = calculates y place (operations.IsZero r a) fits code tell ws none room line f m same
  step y place (operations.Skip n) fits code tell m ws same none room line f = fits_lower y (y + 0) _ _ (omega arith) (goes (y + 0) (suc place) code tell ws none room n m same)
  step y place (operations.SkipIfZero a n) fits code tell m ws same none room line f = fits_lower y (y + 0) _ _ (omega arith) (jumps (y + 0) (suc place) code tell ws none room (register m a == 0) n m same)
  step y place (operations.Check c) fits code tell m ws same none room line f = fits_lower y (y + 0) _ _ (omega arith) (breaks_or (y + 0) (suc place) code tell ws none room (check_class c m) line f m same)
  step y place (operations.Assert a) fits code tell m ws same none room line f = fits_lower y (y + 0) _ _ (omega arith) (ends_or (y + 0) (suc place) code tell ws none room (register m a == 0) (Broken classes.Assertion line f) m tt same)
  step y place (operations.Assume a) fits code tell m ws same none room line f = fits_lower y (y + 0) _ _ (omega arith) (ends_or (y + 0) (suc place) code tell ws none room (register m a == 0) Blocked m tt same)
  step y place (operations.Draw r bits) fits code tell m ws same none room line f = asks_one y place (operations.Draw r bits) fits code tell ws none room line f m refl refl same
  step y place (operations.ReadObject b to k offset count) fits code tell m ws same none room line f = asks_one y place (operations.ReadObject b to k offset count) fits code tell ws none room line f m refl refl same
  step y place (operations.WriteObject k offset b from count) fits code tell m ws same none room line f = asks_one y place (operations.WriteObject k offset b from count) fits code tell ws none room line f m refl refl same
  step y place operations.Exit fits code tell m ws same none room line f = fits_ask y actions.Exit line f (λ a v. stops (Ended (word_64 0))) (λ a. final (Ended (word_64 0))) (λ a shape. fits_end (y + 0) (Ended (word_64 0)) tt)
  step y place (operations.Fail class) fits code tell m ws same none room line f = fits_end y (Broken class line f) tt
  step y place (operations.Use a) fits code tell m ws same none room line f = calculates y place (operations.Use a) fits code tell ws none room line f m same
  step y place (operations.Call g first count into r) fits code tell m ws same none room line f = fits_end y Blocked tt
  step y place (operations.Return u) fits code tell m ws same none room line f = fits_end y Blocked tt
  step y place (operations.Move r p i t k size class) fits code tell m ws same none room line f = calculates y place (operations.Move r p i t k size class) fits code tell ws none room line f m same
  step y place (operations.Offset r p count) fits code tell m ws same none room line f = calculates y place (operations.Offset r p count) fits code tell ws none room line f m same
  step y place (operations.Same p q) fits code tell m ws same none room line f = calculates y place (operations.Same p q) fits code tell ws none room line f m same
  step y place (operations.Distance r p q k) fits code tell m ws same none room line f = calculates y place (operations.Distance r p q k) fits code tell ws none room line f m same
  step y place (operations.Relate r op p q) fits code tell m ws same none room line f = calculates y place (operations.Relate r op p q) fits code tell ws none room line f m same
  step y place (operations.Take b to from p count whole) fits code tell m ws same none room line f = calculates y place (operations.Take b to from p count whole) fits code tell ws none room line f m same
  step y place (operations.Put b p from to count whole) fits code tell m ws same none room line f = calculates y place (operations.Put b p from to count whole) fits code tell ws none room line f m same
  step y place (operations.Read b to p count) fits code tell m ws same none room line f = asks_one y place (operations.Read b to p count) fits code tell ws none room line f m refl refl same
  step y place (operations.Write p b from count first) fits code tell m ws same none room line f = asks_one y place (operations.Write p b from count first) fits code tell ws none room line f m refl refl same
  step y place (operations.Look r p subscript) fits code tell m ws same none room line f = asks_one y place (operations.Look r p subscript) fits code tell ws none room line f m refl refl same
  step y place (operations.Fill b r) fits code tell m ws same none room line f =
      let size = first_count m b r in
      let there = (both (nat_lt b (length blocks)) (is_pointer registers r) fits.1).0 in
      let words : word_count size - 0 ≡ word_count size = omega arith in
      subst (λ n. Fits y (λ v. read (drawn v line f (word_count size) size 0 y ++ told v blocks (y + word_count (slice_index blocks b)) code (arrived 0 (Some (drawn_into v b (word_count size) size 0 y m)) ws)) end) (fills behaving n place line f b size (8 * 0) (places behaving false (suc place) code) m)) (sym words)
      (draws (y + word_count (slice_index blocks b)) (suc place) code tell ws none room place line f b size (word_count size) 0 y m (omega (arith, sized_block blocks m b same)) (omega arith) (omega (arith, sized_block blocks m b same)) there same)
  step y place (operations.Alloc r b size readonly heap) fits code tell m ws same none room line f = asks_one y place (operations.Alloc r b size readonly heap) fits code tell ws none room line f m refl refl same
  step y place (operations.Die p) fits code tell m ws same none room line f = asks_one y place (operations.Die p) fits code tell ws none room line f m refl refl same
  step y place (operations.Free p) fits code tell m ws same none room line f = asks_one y place (operations.Free p) fits code tell ws none room line f m refl refl same
  step y place (operations.MayFail r) fits code tell m ws same none room line f = fits_end y Blocked tt
  step y place (operations.Limit a b) fits code tell m ws same none room line f = fits_end y Blocked tt

  -- ---- all of it

  pub tells_all : (x place : ℕ) (code : List Instruction) → code_fits registers blocks code ≡ true → TellsFrom x place code
  tells_all x place [] fits n m ws same none room = fits_end x (Ended (word_64 0)) tt
  tells_all x place (i ∷ code) fits n m [] same none room = absurd (omega (arith, room))
  tells_all x place (i ∷ code) fits n m (Some u ∷ ws) same none room = absurd none
  tells_all x place (i ∷ code) fits zero m (None ∷ ws) same none room =
      let parts = both (operation_fits registers blocks (length code) i.operation) (code_fits registers blocks code) fits in
      step x place i.operation (length code, parts.0) code (tells_all (x + variables_of blocks i.operation) (suc place) code parts.1) m ws same none (omega (arith, room)) i.line i.function
  tells_all x place (i ∷ code) fits (suc n) m (None ∷ ws) same none room =
      let parts = both (operation_fits registers blocks (length code) i.operation) (code_fits registers blocks code) fits in
      let y = x + variables_of blocks i.operation in
      fits_lower x y _ _ (omega arith)
      (fits_same y (λ v. read (told v blocks y code (arrived n (Some m) ws)) end) _ _ (λ v. ap (λ xs. read (told v blocks y code xs) end) (leaves_none v x i.operation (arrived n (Some m) ws)))
      (tells_all y (suc place) code parts.1 n m ws same none (omega (arith, room))))
