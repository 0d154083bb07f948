-- From a place of code to the next.
use Rattle.std.proofs.Common.{◌≡◌, ℕ, zero, suc, ◌+◌, ◌-◌, ◌*◌, ◌<◌, ◌≤◌, ◌^◌, nat_lt, Bool, true, false, ◌&&◌, List, [], ◌∷◌, length, drop, Option, Some, None, refl, sym, ap, ◌∙◌, subst, arith, inl, inr}
use Rattle.std.specs.Prelude.{MatchOption, nat_le, slice_get, slice_index_or, if◌then◌else◌, ◌==◌}
use Rattle.std.proofs.lemmas.Bool.{false≢true}
use Rattle.std.proofs.lemmas.Bool.Decides.{nat_tests}
use Rattle.std.proofs.lemmas.List.{drop-drop, drop_more, drop_all, length-drop}
use Rattle.std.proofs.lemmas.Option.{slice_get_within, slice_get_cases, get_or_from_slice_get, none-some}
use Rattle.words.specs.declared.check.Class.TheVariants as classes
use Rattle.actions.specs.declared.action.Action.TheVariants as actions
use Rattle.goto_prog.specs.declared.code.Condition.{Condition}
use Rattle.c_types.specs.declared.integers.IntegerType.{IntegerType}
use Rattle.c_types.specs.declared.integers.IntegerType.TheVariants as types
use Rattle.c_types.specs.Integers.{width}
use Rattle.actions.specs.declared.action.Answer.{Answer}
use Rattle.actions.specs.declared.action.Next.{Next}
use Rattle.actions.specs.declared.action.Next.TheVariants.{Act, Ended, Broken, Blocked}
use Rattle.words.specs.declared.check.Class.{Class}
use Rattle.actions.specs.declared.action.Action.{Action}
use Rattle.actions.specs.declared.action.Answer.TheVariants as answers
use Rattle.actions.specs.Behaviour.{Behaviour, word_64, accepts, has_shape, shape_of, after, answered}
use Rattle.words.proofs.Powers.{pow_grows}
use Rattle.goto_prog.specs.declared.code.Instruction.{Instruction}
use Rattle.goto_prog.specs.declared.code.Operation.{Operation}
use Rattle.goto_prog.specs.declared.code.Operation.TheVariants as operations
use Rattle.c_values.specs.Variables.{low_bytes, put_bytes, word_count, drawn_count}
use Rattle.goto_prog.specs.Meaning.{Memory, word_of, register, with_blocks, first_count, action_of, answered_with, own_class, calculated, check_class, at, or_else, fills, fills_on, operates, operates_on, places}
use Rattle.goto_prog.specs.Threads.{behaving, final, ask}
use Rattle.goto_prog.specs.CodeThread.{Listing, runs, code_program}
use Rattle.goto_prog.specs.Fitting.{is_there, is_pointer, check_fits, operation_fits, code_fits}
use Rattle.goto_prog.specs.Running.{Running, Flowing, thread_of, flow_thread, goes_on_from, goes_on_with, is_calculation, is_exchange, is_fill, asks_bounds, acts, acts_on, is_act, GoesOn, GoesOnWith, Stops, Steps}
use Rattle.goto_prog.proofs.Registers.{both, test_below}
use Rattle.goto_prog.proofs.Exchanges.{exchanges, on_none, on_other, exchange_single, exchange_acts, exchange_fits, word_taken, nothing_left, word_left, words_behind}

-- the number of a place makes no difference to behaviours
fills-free : (k p line f b size offset : ℕ) (ps : List (Memory → Behaviour)) (m : Memory) → fills behaving k p line f b size offset ps m ≡ fills behaving k 0 line f b size offset ps m
fills-free zero p line f b size offset ps m = refl
fills-free (suc k) p line f b size offset ps m =
    let count = drawn_count size offset in
    λ j. ask (actions.Draw (8 * count)) line f (λ a. fills-free k p line f b size (offset + 8) ps (with_blocks m (put_bytes m.blocks b offset (low_bytes count (word_of a)))) j)

pub free : (strict : Bool) (p line f : ℕ) (o : Operation) (ps : List (Memory → Behaviour)) (m : Memory) → operates behaving strict p line f o ps m ≡ operates behaving strict 0 line f o ps m
free strict x line f (operations.Constant r bits) ps m = refl
free strict x line f (operations.Copy r a) ps m = refl
free strict x line f (operations.Load r t b offset) ps m = refl
free strict x line f (operations.Store b offset count a) ps m = refl
free strict x line f (operations.Clear b size) ps m = refl
free strict x line f (operations.CopyBytes into to from offset count) ps m = refl
free strict x line f (operations.Convert r from to a) ps m = refl
free strict x line f (operations.Sign r op t a) ps m = refl
free strict x line f (operations.Arithmetic r op t u a b) ps m = refl
free strict x line f (operations.Compare r op t a b) ps m = refl
free strict x line f (operations.IsZero r a) ps m = refl
free strict x line f (operations.Skip n) ps m = refl
free strict x line f (operations.SkipIfZero a n) ps m = refl
free strict x line f (operations.Check c) ps m = refl
free strict x line f (operations.Assert a) ps m = refl
free strict x line f (operations.Assume a) ps m = refl
free strict x line f (operations.Draw r bits) ps m = refl
free strict x line f (operations.ReadObject b to k offset count) ps m = refl
free strict x line f (operations.WriteObject k offset b from count) ps m = refl
free strict x line f operations.Exit ps m = refl
free strict x line f (operations.Fail class) ps m = refl
free strict x line f (operations.Use a) ps m = refl
free strict x line f (operations.Call g first count into r) ps m = refl
free strict x line f (operations.Return v) ps m = refl
free strict x line f (operations.Move r p i t n size class) ps m = refl
free strict x line f (operations.Offset r p count) ps m = refl
free strict x line f (operations.Same p q) ps m = refl
free strict x line f (operations.Distance r p q n) ps m = refl
free strict x line f (operations.Relate r op p q) ps m = refl
free strict x line f (operations.Take b to from p count whole) ps m = refl
free strict x line f (operations.Put b p from to count whole) ps m = refl
free strict x line f (operations.Read b to p count) ps m = refl
free strict x line f (operations.Write p b from count first) ps m = refl
free strict x line f (operations.Look r p subscript) ps m = refl
free strict x line f (operations.Fill b r) ps m = let size = first_count m b r in fills-free (word_count size - 0) x line f b size (8 * 0) ps m
free strict x line f (operations.Alloc r b size readonly heap) ps m = refl
free strict x line f (operations.Die p) ps m = refl
free strict x line f (operations.Free p) ps m = refl
free strict x line f (operations.MayFail r) ps m = refl
free strict x line f (operations.Limit a b) ps m = refl

pub places-free : (strict : Bool) (p q : ℕ) (xs : List Instruction) → places behaving strict p xs ≡ places behaving strict q xs
places-free strict p q [] = refl
places-free strict p q (i ∷ xs) =
    let rest = places-free strict (suc p) (suc q) xs in
    (λ k. (λ m. (free strict p i.line i.function i.operation (places behaving strict (suc p) xs) m ∙ sym (free strict q i.line i.function i.operation (places behaving strict (suc p) xs) m)) k) ∷ places behaving strict (suc p) xs)
    ∙ (λ k. operates behaving strict q i.line i.function i.operation (rest k) ∷ rest k)

pub at-drop : (strict : Bool) (p n : ℕ) (xs : List Instruction) (m : Memory) → at behaving (places behaving strict p xs) n m ≡ at behaving (places behaving strict 0 (drop n xs)) 0 m
at-drop strict p zero xs m = ap (λ ps. at behaving ps 0 m) (places-free strict p 0 xs)
at-drop strict p (suc n) [] m = refl
at-drop strict p (suc n) (i ∷ xs) m = at-drop strict (suc p) n xs m

-- ---- the place of an instruction, and those behind it

abbrev pub behind : Bool → Listing → ℕ → List (Memory → Behaviour)
behind strict code place = places behaving strict 1 (drop (place + 1) code.instructions)

numbered : (strict : Bool) (code : Listing) (place : ℕ) (m : Memory) → runs strict code place m ≡ at behaving (places behaving strict 0 (drop place code.instructions)) 0 m
numbered strict code place m = ap (λ ps. at behaving ps 0 m) (places-free strict place 0 (drop place code.instructions))

at_place : (strict : Bool) (code : Listing) (place : ℕ) (i : Instruction) (m : Memory) → slice_get code.instructions place ≡ Some i
    → runs strict code place m ≡ operates behaving strict 0 i.line i.function i.operation (behind strict code place) m
at_place strict code place i m found =
    let xs = code.instructions in
    let within = slice_get_within xs place i found in
    let front : drop place xs ≡ i ∷ drop (place + 1) xs = drop_more xs place i within ∙ ap (λ x. x ∷ drop (place + 1) xs) (get_or_from_slice_get xs place i i found) in
    numbered strict code place m ∙ ap (λ ys. at behaving (places behaving strict 0 ys) 0 m) front

go_on : (strict : Bool) (code : Listing) (place n : ℕ) (m : Memory) → at behaving (behind strict code place) n m ≡ runs strict code (place + 1 + n) m
go_on strict code place n m =
    at-drop strict 1 n (drop (place + 1) code.instructions) m
    ∙ ap (λ ys. at behaving (places behaving strict 0 ys) 0 m) (drop-drop n (place + 1) code.instructions)
    ∙ sym (numbered strict code (place + 1 + n) m)

drop-past : {A : Type 0} (xs : List A) (n : ℕ) → slice_get xs n ≡ None → drop n xs ≡ []
drop-past xs n none =
    elim (slice_get_cases xs n).1 [
      | inl has ↦ absurd (none-some has.0 (sym none ∙ has.2))
      | inr past ↦ drop_all n xs past.0
    ]

-- ---- what the code keeps

fits_drop : (rs : List IntegerType) (bs : List ℕ) (n : ℕ) (xs : List Instruction) → code_fits rs bs xs ≡ true → code_fits rs bs (drop n xs) ≡ true
fits_drop rs bs zero xs h = h
fits_drop rs bs (suc n) [] h = h
fits_drop rs bs (suc n) (i ∷ xs) h = fits_drop rs bs n xs (both (operation_fits rs bs (length xs) i.operation) (code_fits rs bs xs) h).1

pub fits_at : (rs : List IntegerType) (bs : List ℕ) (xs : List Instruction) (place : ℕ) (i : Instruction) → code_fits rs bs xs ≡ true → slice_get xs place ≡ Some i
    → operation_fits rs bs (length (drop (place + 1) xs)) i.operation ≡ true
fits_at rs bs xs place i h found =
    let within = slice_get_within xs place i found in
    let front : drop place xs ≡ i ∷ drop (place + 1) xs = drop_more xs place i within ∙ ap (λ x. x ∷ drop (place + 1) xs) (get_or_from_slice_get xs place i i found) in
    let kept = subst (λ ys. code_fits rs bs ys ≡ true) front (fits_drop rs bs place xs h) in
    (both (operation_fits rs bs (length (drop (place + 1) xs)) i.operation) (code_fits rs bs (drop (place + 1) xs)) kept).0

pub calculation_fits : (rs : List IntegerType) (bs : List ℕ) (n : ℕ) (o : Operation) → is_calculation o ≡ true → operation_fits rs bs n o ≡ true → operation_fits rs bs 0 o ≡ true
calculation_fits rs bs later (operations.Constant r bits) h fits = fits
calculation_fits rs bs later (operations.Copy r a) h fits = fits
calculation_fits rs bs later (operations.Load r t b offset) h fits = fits
calculation_fits rs bs later (operations.Store b offset count a) h fits = fits
calculation_fits rs bs later (operations.Clear b size) h fits = fits
calculation_fits rs bs later (operations.CopyBytes into to from offset count) h fits = fits
calculation_fits rs bs later (operations.Convert r from to a) h fits = fits
calculation_fits rs bs later (operations.Sign r op t a) h fits = fits
calculation_fits rs bs later (operations.Arithmetic r op t u a b) h fits = fits
calculation_fits rs bs later (operations.Compare r op t a b) h fits = fits
calculation_fits rs bs later (operations.IsZero r a) h fits = fits
calculation_fits rs bs later (operations.Skip n) h fits = absurd (false≢true h)
calculation_fits rs bs later (operations.SkipIfZero a n) h fits = absurd (false≢true h)
calculation_fits rs bs later (operations.Check c) h fits = fits
calculation_fits rs bs later (operations.Assert a) h fits = fits
calculation_fits rs bs later (operations.Assume a) h fits = fits
calculation_fits rs bs later (operations.Draw r bits) h fits = fits
calculation_fits rs bs later (operations.ReadObject b to k offset count) h fits = fits
calculation_fits rs bs later (operations.WriteObject k offset b from count) h fits = fits
calculation_fits rs bs later operations.Exit h fits = fits
calculation_fits rs bs later (operations.Fail class) h fits = fits
calculation_fits rs bs later (operations.Use a) h fits = fits
calculation_fits rs bs later (operations.Call g first count into r) h fits = fits
calculation_fits rs bs later (operations.Return v) h fits = fits
calculation_fits rs bs later (operations.Move r p i t n size class) h fits = fits
calculation_fits rs bs later (operations.Offset r p count) h fits = fits
calculation_fits rs bs later (operations.Same p q) h fits = fits
calculation_fits rs bs later (operations.Distance r p q n) h fits = fits
calculation_fits rs bs later (operations.Relate r op p q) h fits = fits
calculation_fits rs bs later (operations.Take b to from p count whole) h fits = fits
calculation_fits rs bs later (operations.Put b p from to count whole) h fits = fits
calculation_fits rs bs later (operations.Read b to p count) h fits = fits
calculation_fits rs bs later (operations.Write p b from count first) h fits = fits
calculation_fits rs bs later (operations.Look r p subscript) h fits = fits
calculation_fits rs bs later (operations.Fill b r) h fits = fits
calculation_fits rs bs later (operations.Alloc r b size readonly heap) h fits = fits
calculation_fits rs bs later (operations.Die p) h fits = fits
calculation_fits rs bs later (operations.Free p) h fits = fits
calculation_fits rs bs later (operations.MayFail r) h fits = fits
calculation_fits rs bs later (operations.Limit a b) h fits = fits

-- ---- steps

pub holds_below : (m n : ℕ) → m < n → nat_lt m n ≡ true
holds_below m n h = grind (arith, nat_tests)

pub none_go_on : (words : ℕ) (r : Running) → slice_get r.code.instructions r.place ≡ None → GoesOnWith words r r None
none_go_on zero r none = (refl, refl, refl, refl)
none_go_on (suc k) r none = (sym (ap (goes_on_from (suc k) r) none), refl, refl, refl)

module _ (r : Running) (i : Instruction) (found : slice_get r.code.instructions r.place ≡ Some i) where
  abbrev Here : Behaviour → Type 0
  Here b = operates behaving r.strict 0 i.line i.function i.operation (behind r.strict r.code r.place) r.memory ≡ b

  room : (n : ℕ) → n ≤ length (drop (r.place + 1) r.code.instructions) → r.place + 1 + n ≤ length r.code.instructions
  room n within = omega (arith, within, length-drop (r.place + 1) r.code.instructions, slice_get_within r.code.instructions r.place i found)

  goes : (n : ℕ) (m : Memory) → Here (at behaving (behind r.strict r.code r.place) n m) → n ≤ length (drop (r.place + 1) r.code.instructions)
      → GoesOn r (record r { place = r.place + 1 + n; memory = m })
  goes n m here within = record {
    same = λ k. record {
      behaves = sym (at_place r.strict r.code r.place i r.memory found ∙ here ∙ go_on r.strict r.code r.place n m) k;
      program = code_program r.strict r.functions;
    };
    code = refl;
    later = omega arith;
    within = room n within;
  }

  stops : (next : Next) → is_act next ≡ false → Here (final next) → Stops r r next
  stops next none here = record {
    unchanged = refl;
    next_is = sym (λ k. (at_place r.strict r.code r.place i r.memory found ∙ here) k []);
    acting = λ act. absurd (false≢true (sym none ∙ act));
  }

  abbrev Is : Operation → Type 0
  Is o = i.operation ≡ o

  abbrev operated : Operation → Behaviour
  operated o = operates behaving r.strict 0 i.line i.function o (behind r.strict r.code r.place) r.memory

  -- ---- calculations

  none_either : (b : Bool) → (let nothing : Option Class = None in nothing ≡ (if b then nothing else nothing))
  none_either true = refl
  none_either false = refl

  abbrev strict_class : Operation → Option Class
  strict_class o = if r.strict then own_class o r.memory else None

  plain : (b : Behaviour) → b ≡ or_else behaving (if r.strict then None else None) i.line i.function b
  plain b = ap (λ c. or_else behaving c i.line i.function b) (none_either r.strict)

  calculates : (o : Operation) → is_calculation o ≡ true → operated o ≡ or_else behaving (strict_class o) i.line i.function (at behaving (behind r.strict r.code r.place) 0 (calculated o r.memory))
  calculates (operations.Constant z bits) h = plain _
  calculates (operations.Copy z a) h = plain _
  calculates (operations.Load z t b offset) h = plain _
  calculates (operations.Store b offset count a) h = plain _
  calculates (operations.Clear b size) h = plain _
  calculates (operations.CopyBytes into to from offset count) h = plain _
  calculates (operations.Convert z from to a) h = plain _
  calculates (operations.Sign z op t a) h = refl
  calculates (operations.Arithmetic z op t u a b) h = refl
  calculates (operations.Compare z op t a b) h = plain _
  calculates (operations.IsZero z a) h = plain _
  calculates (operations.Skip n) h = absurd (false≢true h)
  calculates (operations.SkipIfZero a n) h = absurd (false≢true h)
  calculates (operations.Check c) h = absurd (false≢true h)
  calculates (operations.Assert a) h = absurd (false≢true h)
  calculates (operations.Assume a) h = absurd (false≢true h)
  calculates (operations.Draw q bits) h = absurd (false≢true h)
  calculates (operations.ReadObject b to k offset count) h = absurd (false≢true h)
  calculates (operations.WriteObject k offset b from count) h = absurd (false≢true h)
  calculates operations.Exit h = absurd (false≢true h)
  calculates (operations.Fail class) h = absurd (false≢true h)
  calculates (operations.Use a) h = refl
  calculates (operations.Call g first count into z) h = absurd (false≢true h)
  calculates (operations.Return v) h = absurd (false≢true h)
  calculates (operations.Move q p k t n size class) h = refl
  calculates (operations.Offset z p count) h = plain _
  calculates (operations.Same p q) h = refl
  calculates (operations.Distance z p q n) h = plain _
  calculates (operations.Relate z op p q) h = plain _
  calculates (operations.Take b to from p count whole) h = refl
  calculates (operations.Put b p from to count whole) h = refl
  calculates (operations.Read b to p count) h = absurd (false≢true h)
  calculates (operations.Write p b from count first) h = absurd (false≢true h)
  calculates (operations.Look z p subscript) h = absurd (false≢true h)
  calculates (operations.Fill b z) h = absurd (false≢true h)
  calculates (operations.Alloc z b size readonly heap) h = absurd (false≢true h)
  calculates (operations.Die p) h = absurd (false≢true h)
  calculates (operations.Free p) h = absurd (false≢true h)
  calculates (operations.MayFail z) h = absurd (false≢true h)
  calculates (operations.Limit a b) h = absurd (false≢true h)

  pub goes_calculated : is_calculation i.operation ≡ true → strict_class i.operation ≡ None → GoesOn r (record r { place = r.place + 1 + 0; memory = calculated i.operation r.memory })
  goes_calculated h none = goes 0 (calculated i.operation r.memory) (calculates i.operation h ∙ ap (λ c. or_else behaving c i.line i.function (at behaving (behind r.strict r.code r.place) 0 (calculated i.operation r.memory))) none) (omega arith)

  pub stops_calculated : (class : Class) → is_calculation i.operation ≡ true → strict_class i.operation ≡ Some class → Stops r r (Broken class i.line i.function)
  stops_calculated class h some = stops (Broken class i.line i.function) refl (calculates i.operation h ∙ ap (λ c. or_else behaving c i.line i.function (at behaving (behind r.strict r.code r.place) 0 (calculated i.operation r.memory))) some)

  -- ---- the others

  pub goes_skip : (n : ℕ) → Is (operations.Skip n) → n ≤ length (drop (r.place + 1) r.code.instructions) → GoesOn r (record r { place = r.place + 1 + n })
  goes_skip n is within = goes n r.memory (ap operated is) within

  zero_test : (b : Bool) (x y : Behaviour) → b ≡ true → (if b then x else y) ≡ x
  zero_test b x y h = λ k. if h k then x else y

  other_test : (b : Bool) (x y : Behaviour) → b ≡ false → (if b then x else y) ≡ y
  other_test b x y h = λ k. if h k then x else y

  pub goes_zero : (a n : ℕ) → Is (operations.SkipIfZero a n) → (register r.memory a == 0) ≡ true → n ≤ length (drop (r.place + 1) r.code.instructions) → GoesOn r (record r { place = r.place + 1 + n })
  goes_zero a n is h within = goes n r.memory (ap operated is ∙ zero_test (register r.memory a == 0) _ _ h) within

  pub goes_other : (a n : ℕ) → Is (operations.SkipIfZero a n) → (register r.memory a == 0) ≡ false → GoesOn r (record r { place = r.place + 1 + 0 })
  goes_other a n is h = goes 0 r.memory (ap operated is ∙ other_test (register r.memory a == 0) _ _ h) (omega arith)

  pub goes_check : (c : Condition) → Is (operations.Check c) → check_class c r.memory ≡ None → GoesOn r (record r { place = r.place + 1 + 0 })
  goes_check c is none = goes 0 r.memory (ap operated is ∙ ap (λ x. or_else behaving x i.line i.function (at behaving (behind r.strict r.code r.place) 0 r.memory)) none) (omega arith)

  pub stops_check : (c : Condition) (class : Class) → Is (operations.Check c) → check_class c r.memory ≡ Some class → Stops r r (Broken class i.line i.function)
  stops_check c class is some =
      stops (Broken class i.line i.function) refl (ap operated is ∙ ap (λ x. or_else behaving x i.line i.function (at behaving (behind r.strict r.code r.place) 0 r.memory)) some)

  pub goes_assert : (a : ℕ) → Is (operations.Assert a) → (register r.memory a == 0) ≡ false → GoesOn r (record r { place = r.place + 1 + 0 })
  goes_assert a is h = goes 0 r.memory (ap operated is ∙ other_test (register r.memory a == 0) _ _ h) (omega arith)

  pub stops_assert : (a : ℕ) → Is (operations.Assert a) → (register r.memory a == 0) ≡ true → Stops r r (Broken classes.Assertion i.line i.function)
  stops_assert a is h = stops (Broken classes.Assertion i.line i.function) refl (ap operated is ∙ zero_test (register r.memory a == 0) _ _ h)

  pub goes_assume : (a : ℕ) → Is (operations.Assume a) → (register r.memory a == 0) ≡ false → GoesOn r (record r { place = r.place + 1 + 0 })
  goes_assume a is h = goes 0 r.memory (ap operated is ∙ other_test (register r.memory a == 0) _ _ h) (omega arith)

  pub stops_assume : (a : ℕ) → Is (operations.Assume a) → (register r.memory a == 0) ≡ true → Stops r r Blocked
  stops_assume a is h = stops Blocked refl (ap operated is ∙ zero_test (register r.memory a == 0) _ _ h)

  pub stops_fail : (class : Class) → Is (operations.Fail class) → Stops r r (Broken class i.line i.function)
  stops_fail class is = stops (Broken class i.line i.function) refl (ap operated is)

  pub stops_call : (g first count into q : ℕ) → Is (operations.Call g first count into q) → Stops r r Blocked
  stops_call g first count into q is = stops Blocked refl (ap operated is)

  pub stops_return : (v : Option ℕ) → Is (operations.Return v) → Stops r r Blocked
  stops_return v is = stops Blocked refl (ap operated is)

  pub stops_exchange : is_exchange i.operation ≡ true → Stops r r (Act (action_of i.operation r.memory) i.line i.function)
  stops_exchange h = record {
    unchanged = refl;
    next_is = sym (λ k. (at_place r.strict r.code r.place i r.memory found ∙ exchanges behaving r.strict 0 i.line i.function (behind r.strict r.code r.place) r.memory i.operation h) k []);
    acting = λ act. ap (λ x. acts 0 x r.memory) found ∙ exchange_acts 0 i.operation r.memory h;
  }

  unbounded : (o : Operation) → asks_bounds o ≡ true → operated o ≡ final Blocked
  unbounded (operations.Constant z bits) h = absurd (false≢true h)
  unbounded (operations.Copy z a) h = absurd (false≢true h)
  unbounded (operations.Load z t b offset) h = absurd (false≢true h)
  unbounded (operations.Store b offset count a) h = absurd (false≢true h)
  unbounded (operations.Clear b size) h = absurd (false≢true h)
  unbounded (operations.CopyBytes into to from offset count) h = absurd (false≢true h)
  unbounded (operations.Convert z from to a) h = absurd (false≢true h)
  unbounded (operations.Sign z op t a) h = absurd (false≢true h)
  unbounded (operations.Arithmetic z op t u a b) h = absurd (false≢true h)
  unbounded (operations.Compare z op t a b) h = absurd (false≢true h)
  unbounded (operations.IsZero z a) h = absurd (false≢true h)
  unbounded (operations.Skip n) h = absurd (false≢true h)
  unbounded (operations.SkipIfZero a n) h = absurd (false≢true h)
  unbounded (operations.Check c) h = absurd (false≢true h)
  unbounded (operations.Assert a) h = absurd (false≢true h)
  unbounded (operations.Assume a) h = absurd (false≢true h)
  unbounded (operations.Draw z bits) h = absurd (false≢true h)
  unbounded (operations.ReadObject b to k offset count) h = absurd (false≢true h)
  unbounded (operations.WriteObject k offset b from count) h = absurd (false≢true h)
  unbounded operations.Exit h = absurd (false≢true h)
  unbounded (operations.Fail class) h = absurd (false≢true h)
  unbounded (operations.Use a) h = absurd (false≢true h)
  unbounded (operations.Call g first count into z) h = absurd (false≢true h)
  unbounded (operations.Return v) h = absurd (false≢true h)
  unbounded (operations.Move z p w t n size class) h = absurd (false≢true h)
  unbounded (operations.Offset z p count) h = absurd (false≢true h)
  unbounded (operations.Same p q) h = absurd (false≢true h)
  unbounded (operations.Distance z p q n) h = absurd (false≢true h)
  unbounded (operations.Relate z op p q) h = absurd (false≢true h)
  unbounded (operations.Take b to from p count whole) h = absurd (false≢true h)
  unbounded (operations.Put b p from to count whole) h = absurd (false≢true h)
  unbounded (operations.Read b to p count) h = absurd (false≢true h)
  unbounded (operations.Write p b from count first) h = absurd (false≢true h)
  unbounded (operations.Look z p subscript) h = absurd (false≢true h)
  unbounded (operations.Fill b z) h = absurd (false≢true h)
  unbounded (operations.Alloc z b size readonly heap) h = absurd (false≢true h)
  unbounded (operations.Die p) h = absurd (false≢true h)
  unbounded (operations.Free p) h = absurd (false≢true h)
  unbounded (operations.MayFail z) h = refl
  unbounded (operations.Limit a b) h = refl

  pub stops_unbounded : asks_bounds i.operation ≡ true → Stops r r Blocked
  stops_unbounded h = stops Blocked refl (unbounded i.operation h)

  -- ---- words

  -- what is done where some have been drawn
  pub with_words : (words : ℕ) → goes_on_with words r ≡ operates_on behaving words r.strict 0 i.line i.function i.operation (behind r.strict r.code r.place) r.memory
  with_words zero = at_place r.strict r.code r.place i r.memory found ∙ on_none behaving r.strict 0 i.line i.function (behind r.strict r.code r.place) r.memory i.operation
  with_words (suc k) = ap (goes_on_from (suc k) r) found

  module _ (b q : ℕ) (is : Is (operations.Fill b q)) (words : ℕ) where
    pub with_fill : goes_on_with words r ≡ fills_on behaving words 0 i.line i.function b q (behind r.strict r.code r.place) r.memory
    with_fill = with_words words ∙ ap (λ o. operates_on behaving words r.strict 0 i.line i.function o (behind r.strict r.code r.place) r.memory) is

    abbrev size : ℕ
    size = first_count r.memory b q

    abbrev drawing : Next
    drawing = Act (actions.Draw (8 * drawn_count size (8 * words))) i.line i.function

    fill_is_next : words < word_count size → drawing ≡ goes_on_with words r []
    fill_is_next more = sym (λ k. (with_fill ∙ word_left behaving 0 i.line i.function b q (behind r.strict r.code r.place) r.memory words more) k [])

    fill_acts : words < word_count size → acts words (slice_get r.code.instructions r.place) r.memory ≡ true
    fill_acts more = ap (λ x. acts words x r.memory) found ∙ ap (λ o. acts_on words o r.memory) is ∙ holds_below words (word_count size) more

    pub fill_goes_on : word_count size ≤ words → GoesOnWith words r (record r { place = r.place + 1 + 0 }) None
    fill_goes_on past = (
      sym (with_fill ∙ nothing_left behaving 0 i.line i.function b q (behind r.strict r.code r.place) r.memory words past ∙ go_on r.strict r.code r.place 0 r.memory),
      refl,
      refl,
      refl,
    )

    pub fill_draws_on : words < word_count size → GoesOnWith words r r (Some drawing)
    fill_draws_on more = (refl, fill_is_next more, λ act. fill_acts more)

    pub fill_more : acts words (slice_get r.code.instructions r.place) r.memory ≡ true → words < word_count size
    fill_more act = test_below words (word_count size) (sym (ap (λ x. acts words x r.memory) found ∙ ap (λ o. acts_on words o r.memory) is) ∙ act)

  pub begin_goes : (b q : ℕ) → Is (operations.Fill b q) → word_count (first_count r.memory b q) ≤ 0 → GoesOn r (record r { place = r.place + 1 + 0 })
  begin_goes b q is past = goes 0 r.memory (ap operated is ∙ nothing_left behaving 0 i.line i.function b q (behind r.strict r.code r.place) r.memory 0 past) (omega arith)

  pub begin_stops : (b q : ℕ) → Is (operations.Fill b q) → 0 < word_count (first_count r.memory b q) → Stops r r (Act (actions.Draw (8 * drawn_count (first_count r.memory b q) (8 * 0))) i.line i.function)
  begin_stops b q is more = record { unchanged = refl; next_is = fill_is_next b q is 0 more; acting = λ act. fill_acts b q is 0 more }

  -- the next word, or what comes behind
  abbrev pub Fills : (b q words : ℕ) (new : Running) → Option Next → Type 0
  Fills b q words new result =
      MatchOption result ((word_count (first_count r.memory b q) ≤ words) × (new ≡ record r { place = r.place + 1 + 0 }))
      (λ n. (words < word_count (first_count r.memory b q)) × (n ≡ Act (actions.Draw (8 * drawn_count (first_count r.memory b q) (8 * words))) i.line i.function) × (new ≡ r))

  pub fill_begins : (b q : ℕ) → Is (operations.Fill b q) → (new : Running) (result : Option Next) → Fills b q 0 new result → Steps r new result
  fill_begins b q is new None h = subst (λ (x : Running). GoesOn r x) (sym h.1) (begin_goes b q is h.0)
  fill_begins b q is new (Some n) h =
      subst (λ (x : Running). Stops r x n) (sym h.2) (subst (λ (k : Next). Stops r r k) (sym h.1) (begin_stops b q is h.0))

  pub fill_goes_with : (b q words : ℕ) → Is (operations.Fill b q) → (new : Running) (result : Option Next) → Fills b q words new result → GoesOnWith words r new result
  fill_goes_with b q words is new None h = subst (λ (x : Running). GoesOnWith words r x None) (sym h.1) (fill_goes_on b q is words h.0)
  fill_goes_with b q words is new (Some n) h =
      subst (λ (x : Running). GoesOnWith words r x (Some n)) (sym h.2) (subst (λ (k : Next). GoesOnWith words r r (Some k)) (sym h.1) (fill_draws_on b q is words h.0))

  pub others_go_on : (words : ℕ) → is_fill i.operation ≡ false → GoesOnWith words r r None
  others_go_on words h = (
    at_place r.strict r.code r.place i r.memory found ∙ sym (on_other behaving r.strict 0 i.line i.function (behind r.strict r.code r.place) r.memory words i.operation h) ∙ sym (with_words words),
    refl,
    refl,
    refl,
  )

  pub stops_exit : Is operations.Exit → Stops r r (Act actions.Exit i.line i.function)
  stops_exit is = record {
    unchanged = refl;
    next_is = sym (λ k. (at_place r.strict r.code r.place i r.memory found ∙ ap operated is) k []);
    acting = λ act. ap (λ x. acts 0 x r.memory) found ∙ ap (λ o. acts_on 0 o r.memory) is;
  }

-- ---- what an instruction's operation asks of the code

pub fits_here : (r : Running) (i : Instruction) → slice_get r.code.instructions r.place ≡ Some i → code_fits r.code.registers r.code.blocks r.code.instructions ≡ true → is_calculation i.operation ≡ true
    → operation_fits r.code.registers r.code.blocks 0 i.operation ≡ true
fits_here r i found code h =
    calculation_fits r.code.registers r.code.blocks (length (drop (r.place + 1) r.code.instructions)) i.operation h
    (fits_at r.code.registers r.code.blocks r.code.instructions r.place i code found)

pub room_here : (r : Running) (i : Instruction) → slice_get r.code.instructions r.place ≡ Some i → r.place + 1 + 0 ≤ length r.code.instructions
room_here r i found = let within = slice_get_within r.code.instructions r.place i found in omega (arith, within)

pub check_here : (r : Running) (i : Instruction) (c : Condition) → slice_get r.code.instructions r.place ≡ Some i → code_fits r.code.registers r.code.blocks r.code.instructions ≡ true → i.operation ≡ operations.Check c → check_fits r.code.registers c ≡ true
check_here r i c found code is =
    let n = length (drop (r.place + 1) r.code.instructions) in
    subst (λ o. operation_fits r.code.registers r.code.blocks n o ≡ true) is (fits_at r.code.registers r.code.blocks r.code.instructions r.place i code found)

pub assert_here : (r : Running) (i : Instruction) (a : ℕ) → slice_get r.code.instructions r.place ≡ Some i → code_fits r.code.registers r.code.blocks r.code.instructions ≡ true → i.operation ≡ operations.Assert a → is_there r.code.registers a ≡ true
assert_here r i a found code is =
    let n = length (drop (r.place + 1) r.code.instructions) in
    subst (λ o. operation_fits r.code.registers r.code.blocks n o ≡ true) is (fits_at r.code.registers r.code.blocks r.code.instructions r.place i code found)

pub assume_here : (r : Running) (i : Instruction) (a : ℕ) → slice_get r.code.instructions r.place ≡ Some i → code_fits r.code.registers r.code.blocks r.code.instructions ≡ true → i.operation ≡ operations.Assume a → is_there r.code.registers a ≡ true
assume_here r i a found code is =
    let n = length (drop (r.place + 1) r.code.instructions) in
    subst (λ o. operation_fits r.code.registers r.code.blocks n o ≡ true) is (fits_at r.code.registers r.code.blocks r.code.instructions r.place i code found)

test_within : (m n : ℕ) → nat_le m n ≡ true → m ≤ n
test_within m n h = grind (arith, nat_tests)

pub skip_here : (r : Running) (i : Instruction) (n : ℕ) → slice_get r.code.instructions r.place ≡ Some i → code_fits r.code.registers r.code.blocks r.code.instructions ≡ true → i.operation ≡ operations.Skip n → n ≤ length (drop (r.place + 1) r.code.instructions)
skip_here r i n found code is =
    let k = length (drop (r.place + 1) r.code.instructions) in
    test_within n k (subst (λ o. operation_fits r.code.registers r.code.blocks k o ≡ true) is (fits_at r.code.registers r.code.blocks r.code.instructions r.place i code found))

zero_parts : (r : Running) (i : Instruction) (a n : ℕ) → slice_get r.code.instructions r.place ≡ Some i → code_fits r.code.registers r.code.blocks r.code.instructions ≡ true → i.operation ≡ operations.SkipIfZero a n
    → (is_there r.code.registers a ≡ true) × (n ≤ length (drop (r.place + 1) r.code.instructions))
zero_parts r i a n found code is =
    let k = length (drop (r.place + 1) r.code.instructions) in
    let parts = both (is_there r.code.registers a) (nat_le n k) (subst (λ o. operation_fits r.code.registers r.code.blocks k o ≡ true) is (fits_at r.code.registers r.code.blocks r.code.instructions r.place i code found)) in
    (parts.0, test_within n k parts.1)

pub zero_there : (r : Running) (i : Instruction) (a n : ℕ) → slice_get r.code.instructions r.place ≡ Some i → code_fits r.code.registers r.code.blocks r.code.instructions ≡ true → i.operation ≡ operations.SkipIfZero a n → is_there r.code.registers a ≡ true
zero_there r i a n found code is = (zero_parts r i a n found code is).0

pub zero_here : (r : Running) (i : Instruction) (a n : ℕ) → slice_get r.code.instructions r.place ≡ Some i → code_fits r.code.registers r.code.blocks r.code.instructions ≡ true → i.operation ≡ operations.SkipIfZero a n → n ≤ length (drop (r.place + 1) r.code.instructions)
zero_here r i a n found code is = (zero_parts r i a n found code is).1

pub room_for : (r : Running) (i : Instruction) (n : ℕ) → slice_get r.code.instructions r.place ≡ Some i → n ≤ length (drop (r.place + 1) r.code.instructions) → r.place + 1 + n ≤ length r.code.instructions
room_for r i n found within = omega (arith, within, length-drop (r.place + 1) r.code.instructions, slice_get_within r.code.instructions r.place i found)

pub stops_behind : (r : Running) → slice_get r.code.instructions r.place ≡ None → Stops r r (Ended (word_64 0))
stops_behind r none = record {
  unchanged = refl;
  next_is = sym (λ k. (numbered r.strict r.code r.place r.memory ∙ ap (λ ys. at behaving (places behaving r.strict 0 ys) 0 r.memory) (drop-past r.code.instructions r.place none)) k []);
  acting = λ act. absurd (false≢true act);
}

-- what the operation of an instruction asks of the code
fits_as : (r : Running) (i : Instruction) (o : Operation) → slice_get r.code.instructions r.place ≡ Some i → code_fits r.code.registers r.code.blocks r.code.instructions ≡ true → i.operation ≡ o
    → operation_fits r.code.registers r.code.blocks (length (drop (r.place + 1) r.code.instructions)) o ≡ true
fits_as r i o found code is =
    let n = length (drop (r.place + 1) r.code.instructions) in
    subst (λ p. operation_fits r.code.registers r.code.blocks n p ≡ true) is (fits_at r.code.registers r.code.blocks r.code.instructions r.place i code found)

pub exchange_here : (r : Running) (i : Instruction) → slice_get r.code.instructions r.place ≡ Some i → code_fits r.code.registers r.code.blocks r.code.instructions ≡ true → is_exchange i.operation ≡ true
    → operation_fits r.code.registers r.code.blocks 0 i.operation ≡ true
exchange_here r i found code h =
    exchange_fits r.code.registers r.code.blocks (length (drop (r.place + 1) r.code.instructions)) i.operation h
    (fits_at r.code.registers r.code.blocks r.code.instructions r.place i code found)

pub fill_here : (r : Running) (i : Instruction) (b q : ℕ) → slice_get r.code.instructions r.place ≡ Some i → code_fits r.code.registers r.code.blocks r.code.instructions ≡ true → i.operation ≡ operations.Fill b q
    → nat_lt b (length r.code.blocks) ≡ true
fill_here r i b q found code is = (both (nat_lt b (length r.code.blocks)) (is_pointer r.code.registers q) (fits_as r i (operations.Fill b q) found code is)).0

pub fill_count_here : (r : Running) (i : Instruction) (b q : ℕ) → slice_get r.code.instructions r.place ≡ Some i → code_fits r.code.registers r.code.blocks r.code.instructions ≡ true → i.operation ≡ operations.Fill b q
    → is_pointer r.code.registers q ≡ true
fill_count_here r i b q found code is = (both (nat_lt b (length r.code.blocks)) (is_pointer r.code.registers q) (fits_as r i (operations.Fill b q) found code is)).1

-- ---- answers

taken : (action : Action) (line f : ℕ) (follows : Answer → Behaviour) (a : Answer) (b : Bool) → has_shape (shape_of action) a ≡ b → b ≡ true → (λ answers. ask action line f follows (a ∷ answers)) ≡ follows a
taken action line f follows a b same holds = λ k answers. if (same ∙ holds) k then follows a answers else Blocked

module _ (r : Running) (i : Instruction) (found : slice_get r.code.instructions r.place ≡ Some i) (a : Answer) (words : ℕ) (fits : accepts (goes_on_with words r []) a ≡ true) where
  abbrev now : Flowing
  now = record { runner = r; words = words }

  abbrev follows : Answer → Behaviour
  follows x = at behaving (behind r.strict r.code r.place) 0 (answered_with i.operation r.memory x)

  with_exchange : is_exchange i.operation ≡ true → goes_on_with words r ≡ ask (action_of i.operation r.memory) i.line i.function follows
  with_exchange h =
      with_words r i found words
      ∙ on_other behaving r.strict 0 i.line i.function (behind r.strict r.code r.place) r.memory words i.operation (exchange_single i.operation h)
      ∙ exchanges behaving r.strict 0 i.line i.function (behind r.strict r.code r.place) r.memory i.operation h

  pub shape_of_exchange : is_exchange i.operation ≡ true → has_shape (shape_of (action_of i.operation r.memory)) a ≡ true
  shape_of_exchange h = subst (λ (b : Behaviour). accepts (b []) a ≡ true) (with_exchange h) fits

  pub takes_exchange : is_exchange i.operation ≡ true → flow_thread (record { runner = record r { place = r.place + 1 + 0; memory = answered_with i.operation r.memory a }; words = 0 }) ≡ answered (flow_thread now) a
  takes_exchange h =
      let later : runs r.strict r.code (r.place + 1 + 0) (answered_with i.operation r.memory a) ≡ after (goes_on_with words r) a =
      sym (go_on r.strict r.code r.place 0 (answered_with i.operation r.memory a))
      ∙ sym (taken (action_of i.operation r.memory) i.line i.function follows a true (shape_of_exchange h) refl)
      ∙ ap (λ (b : Behaviour). after b a) (sym (with_exchange h)) in
      λ k. record { behaves = later k; program = code_program r.strict r.functions }

  with_exit : i.operation ≡ operations.Exit → goes_on_with words r ≡ ask actions.Exit i.line i.function (λ x. final (Ended (word_64 0)))
  with_exit is = with_words r i found words ∙ ap (λ o. operates_on behaving words r.strict 0 i.line i.function o (behind r.strict r.code r.place) r.memory) is

  pub takes_exit : i.operation ≡ operations.Exit → flow_thread (record { runner = record r { place = length r.code.instructions }; words = 0 }) ≡ answered (flow_thread now) a
  takes_exit is =
      let xs = r.code.instructions in
      let shape : has_shape (shape_of actions.Exit) a ≡ true = subst (λ (b : Behaviour). accepts (b []) a ≡ true) (with_exit is) fits in
      let later : runs r.strict r.code (length xs) r.memory ≡ after (goes_on_with words r) a =
      numbered r.strict r.code (length xs) r.memory
      ∙ ap (λ ys. at behaving (places behaving r.strict 0 ys) 0 r.memory) (drop_all (length xs) xs (omega arith))
      ∙ sym (taken actions.Exit i.line i.function (λ x. final (Ended (word_64 0))) a true shape refl)
      ∙ ap (λ (b : Behaviour). after b a) (sym (with_exit is)) in
      λ k. record { behaves = later k; program = code_program r.strict r.functions }

  pub takes_word : (b q : ℕ) → i.operation ≡ operations.Fill b q → words < word_count (first_count r.memory b q)
      → (let m = word_taken r.memory b (first_count r.memory b q) words a in first_count m b q ≡ first_count r.memory b q
      → flow_thread (record { runner = record r { memory = m }; words = words + 1 }) ≡ answered (flow_thread now) a)
  takes_word b q is more same =
      let size = first_count r.memory b q in
      let m = word_taken r.memory b size words a in
      let ps = behind r.strict r.code r.place in
      let onward = λ (x : Answer). fills behaving (word_count size - (words + 1)) 0 i.line i.function b size (8 * words + 8) ps (word_taken r.memory b size words x) in
      let whole = with_fill r i found b q is words ∙ word_left behaving 0 i.line i.function b q ps r.memory words more in
      let shape : has_shape (shape_of (actions.Draw (8 * drawn_count size (8 * words)))) a ≡ true = subst (λ (b : Behaviour). accepts (b []) a ≡ true) whole fits in
      let later : goes_on_with (words + 1) (record r { memory = m }) ≡ after (goes_on_with words r) a =
      with_fill (record r { memory = m }) i found b q is (words + 1)
      ∙ sym (words_behind behaving 0 i.line i.function b q ps r.memory words m same)
      ∙ sym (taken (actions.Draw (8 * drawn_count size (8 * words))) i.line i.function onward a true shape refl)
      ∙ ap (λ (b : Behaviour). after b a) (sym whole) in
      λ k. record { behaves = later k; program = code_program r.strict r.functions }

-- only an action takes an answer
pub act_accepts : (next : Next) (a : Answer) → accepts next a ≡ true → is_act next ≡ true
act_accepts (Act action line f) a h = refl
act_accepts (Ended v) a h = absurd (false≢true h)
act_accepts Blocked a h = absurd (false≢true h)
act_accepts (Broken class line f) a h = absurd (false≢true h)

-- ---- steps of a flow

pub flow_goes : (words : ℕ) (old new : Running) (result : Option Next) → GoesOnWith words old new result → result ≡ None → flow_thread (record { runner = new; words = 0 }) ≡ flow_thread (record { runner = old; words = words })
flow_goes words old new None h none = λ k. record { behaves = h.0 k; program = code_program (h.2 k) (h.3 k) }
flow_goes words old new (Some n) h none = absurd (none-some n (sym none))

with_next : (words : ℕ) (old new : Running) (result : Option Next) (n : Next) → GoesOnWith words old new result → result ≡ Some n → GoesOnWith words old new (Some n)
with_next words old new result n h some = subst (λ (r : Option Next). GoesOnWith words old new r) some h

pub flow_stays : (words : ℕ) (old new : Running) (result : Option Next) (n : Next) → GoesOnWith words old new result → result ≡ Some n → flow_thread (record { runner = new; words = words }) ≡ flow_thread (record { runner = old; words = words })
flow_stays words old new result n h some = ap (λ (r : Running). flow_thread (record { runner = r; words = words })) (with_next words old new result n h some).0

pub flow_next : (words : ℕ) (old new : Running) (result : Option Next) (n : Next) → GoesOnWith words old new result → result ≡ Some n → n ≡ goes_on_with words old []
flow_next words old new result n h some = (with_next words old new result n h some).1

pub flow_acts : (words : ℕ) (old new : Running) (result : Option Next) (n : Next) → GoesOnWith words old new result → result ≡ Some n → is_act n ≡ true → acts words (slice_get new.code.instructions new.place) new.memory ≡ true
flow_acts words old new result n h some act =
    let g = with_next words old new result n h some in
    subst (λ (r : Running). acts words (slice_get r.code.instructions r.place) r.memory ≡ true) (sym g.0) (g.2 act)
