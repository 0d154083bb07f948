-- From a place of a function to the next.
use Rattle.std.proofs.Common.{◌≡◌, ℕ, zero, suc, ◌+◌, ◌*◌, ◌<◌, ◌≤◌, ◌^◌, nat_lt, Bool, true, false, ◌&&◌, List, [], ◌∷◌, length, Option, Some, None, refl, sym, ap, ◌∙◌, subst, arith}
use Rattle.std.specs.Prelude.{MatchOption, nat_le, slice_index_or, if◌then◌else◌, ◌==◌}
use Rattle.std.proofs.lemmas.Bool.{false≢true}
use Rattle.std.proofs.lemmas.Option.{none-some}
use Rattle.words.specs.declared.check.Class.{Class}
use Rattle.words.specs.declared.check.Class.TheVariants as classes
use Rattle.c_types.specs.declared.integers.IntegerType.TheVariants as types
use Rattle.c_types.specs.Integers.{width}
use Rattle.c_values.specs.Variables.{word_count, drawn_count}
use Rattle.actions.specs.declared.action.Action.{Action}
use Rattle.actions.specs.declared.action.Action.TheVariants as actions
use Rattle.actions.specs.declared.action.Answer.{Answer}
use Rattle.actions.specs.declared.action.Next.{Next}
use Rattle.actions.specs.declared.action.Next.TheVariants.{Act, Ended, Broken, Blocked}
use Rattle.actions.specs.Behaviour.{Behaviour, accepts, has_shape, shape_of, after}
use Rattle.goto_prog.specs.declared.code.Condition.{Condition}
use Rattle.goto_prog.specs.declared.code.Instruction.{Instruction}
use Rattle.goto_prog.specs.declared.code.Operation.{Operation}
use Rattle.goto_prog.specs.declared.code.Operation.TheVariants as operations
use Rattle.goto_prog.specs.Meaning.{Memory, Given, register, first_count, action_of, arguments_of, received, given_by, own_class, calculated, check_class, at, or_else, fills_on, operates, operates_on}
use Rattle.goto_prog.specs.Threads.{Calls, acting, behaving, final, ask}
use Rattle.goto_prog.specs.Fitting.{is_there, is_register, check_fits, operation_fits, is_some_block}
use Rattle.goto_prog.specs.Running.{is_calculation, is_exchange, is_fill, asks_bounds, acts, acts_on, is_act}
use Rattle.goto_prog.specs.Structured.{Bounded}
use Rattle.goto_prog.specs.Walking.{Cursor, next_place, landed, place_total, places_from, does_from, place_weight, step_weight, Activation, does, does_on, does_by_instruction, next_instruction, GoesOn, GoesOnWith, Stops, StopsOn, StepsOn, CallsFunction, HandsOver}
use Rattle.goto_prog.proofs.Registers.{both, test_below}
use Rattle.goto_prog.proofs.Exchanges.{exchanges, on_none, on_other, exchange_acts, nothing_left, word_left}
use Rattle.goto_prog.proofs.Stepping.{holds_below}
use Rattle.goto_prog.proofs.Places.{at_instruction, landing, falls_landed, weight_here, place_some}

pub none_go_on : (b : Bounded) (a : Activation) (words : ℕ) → next_instruction b a.place.nodes ≡ None → GoesOnWith b words a a
none_go_on b a zero none = record { same = λ calls hands. refl; falls = λ w. omega arith }
none_go_on b a (suc k) none = record { same = λ calls hands. sym (ap (does_by_instruction b calls hands (suc k) a) none); falls = λ w. omega arith }

module _ (b : Bounded) (a : Activation) (i : Instruction) (found : next_instruction b a.place.nodes ≡ Some i) where
  abbrev behind : Calls → (Given → Behaviour) → List (Memory → Behaviour)
  behind calls hands = places_from b (acting calls hands) (next_place a.place)

  abbrev operated : Calls → (Given → Behaviour) → Operation → Behaviour
  operated calls hands o = operates (acting calls hands) b.strict 0 i.line i.function o (behind calls hands) a.working.memory

  abbrev Here : (Calls → (Given → Behaviour) → Behaviour) → Type 0
  Here f = (calls : Calls) (hands : Given → Behaviour) → operated calls hands i.operation ≡ f calls hands

  does_here : (calls : Calls) (hands : Given → Behaviour) → does b calls hands a ≡ operated calls hands i.operation
  does_here calls hands = at_instruction b (acting calls hands) a.place i a.working.memory found

  goes : (n : ℕ) (m : Memory) → Here (λ calls hands. at (acting calls hands) (behind calls hands) n m) → n ≤ place_total (next_place a.place)
      → GoesOn b a (record { place = landed n (next_place a.place); working = record a.working { memory = m } })
  goes n m here within = record {
    same = λ calls hands. sym (does_here calls hands ∙ here calls hands ∙ landing b (acting calls hands) n (next_place a.place) m within);
    falls = λ w. falls_landed b w n a.place i found;
  }

  stops : (next : Next) → is_act next ≡ false → Here (λ calls hands. final next) → Stops b a a next
  stops next none here = record {
    unchanged = refl;
    next_is = λ calls hands. sym (λ k. (does_here calls hands ∙ here calls hands) k []);
    acting = λ act. absurd (false≢true (sym none ∙ act));
  }

  abbrev Is : Operation → Type 0
  Is o = i.operation ≡ o

  is_operated : (o : Operation) → Is o → (calls : Calls) (hands : Given → Behaviour) → operated calls hands i.operation ≡ operated calls hands o
  is_operated o is calls hands = ap (operated calls hands) is

  -- ---- calculations

  abbrev strict_class : Operation → Option Class
  strict_class o = if b.strict then own_class o a.working.memory else None

  none_either : (s : Bool) → (let nothing : Option Class = None in nothing ≡ (if s then nothing else nothing))
  none_either true = refl
  none_either false = refl

  abbrev calculating : Operation → Type 0
  calculating o = (calls : Calls) (hands : Given → Behaviour) → operated calls hands o ≡ or_else (acting calls hands) (strict_class o) i.line i.function (at (acting calls hands) (behind calls hands) 0 (calculated o a.working.memory))

  plain : (calls : Calls) (hands : Given → Behaviour) (x : Behaviour) → x ≡ or_else (acting calls hands) (if b.strict then None else None) i.line i.function x
  plain calls hands x = ap (λ c. or_else (acting calls hands) c i.line i.function x) (none_either b.strict)

  calculates : (o : Operation) → is_calculation o ≡ true → calculating o
  calculates (operations.Constant q bits) h calls hands = plain calls hands _
  calculates (operations.Copy q x) h calls hands = plain calls hands _
  calculates (operations.Load q t k offset) h calls hands = plain calls hands _
  calculates (operations.Store k offset count x) h calls hands = plain calls hands _
  calculates (operations.Clear k size) h calls hands = plain calls hands _
  calculates (operations.CopyBytes into to from offset count) h calls hands = plain calls hands _
  calculates (operations.Convert q from to x) h calls hands = plain calls hands _
  calculates (operations.Sign q op t x) h calls hands = refl
  calculates (operations.Arithmetic q op t u x k) h calls hands = refl
  calculates (operations.Compare q op t x k) h calls hands = plain calls hands _
  calculates (operations.IsZero q x) h calls hands = plain calls hands _
  calculates (operations.Skip n) h calls hands = absurd (false≢true h)
  calculates (operations.SkipIfZero x n) h calls hands = absurd (false≢true h)
  calculates (operations.Check c) h calls hands = absurd (false≢true h)
  calculates (operations.Assert x) h calls hands = absurd (false≢true h)
  calculates (operations.Assume x) h calls hands = absurd (false≢true h)
  calculates (operations.Draw q bits) h calls hands = absurd (false≢true h)
  calculates (operations.ReadObject k to object offset count) h calls hands = absurd (false≢true h)
  calculates (operations.WriteObject object offset k from count) h calls hands = absurd (false≢true h)
  calculates operations.Exit h calls hands = absurd (false≢true h)
  calculates (operations.Fail class) h calls hands = absurd (false≢true h)
  calculates (operations.Use x) h calls hands = refl
  calculates (operations.Call g first count into q) h calls hands = absurd (false≢true h)
  calculates (operations.Return v) h calls hands = absurd (false≢true h)
  calculates (operations.Move q p w t n size class) h calls hands = refl
  calculates (operations.Offset q p count) h calls hands = plain calls hands _
  calculates (operations.Same p q) h calls hands = refl
  calculates (operations.Distance z p q n) h calls hands = plain calls hands _
  calculates (operations.Relate z op p q) h calls hands = plain calls hands _
  calculates (operations.Take k to from p count whole) h calls hands = refl
  calculates (operations.Put k p from to count whole) h calls hands = refl
  calculates (operations.Read k to p count) h calls hands = absurd (false≢true h)
  calculates (operations.Write p k from count first) h calls hands = absurd (false≢true h)
  calculates (operations.Look q p subscript) h calls hands = absurd (false≢true h)
  calculates (operations.Fill k q) h calls hands = absurd (false≢true h)
  calculates (operations.Alloc q k size readonly heap) h calls hands = absurd (false≢true h)
  calculates (operations.Die p) h calls hands = absurd (false≢true h)
  calculates (operations.Free p) h calls hands = absurd (false≢true h)
  calculates (operations.MayFail q) h calls hands = absurd (false≢true h)
  calculates (operations.Limit x k) h calls hands = absurd (false≢true h)

  pub goes_calculated : is_calculation i.operation ≡ true → strict_class i.operation ≡ None → GoesOn b a (record { place = landed 0 (next_place a.place); working = record a.working { memory = calculated i.operation a.working.memory } })
  goes_calculated h none =
      goes 0 (calculated i.operation a.working.memory)
      (λ calls hands. calculates i.operation h calls hands ∙ ap (λ c. or_else (acting calls hands) c i.line i.function (at (acting calls hands) (behind calls hands) 0 (calculated i.operation a.working.memory))) none)
      (omega arith)

  pub stops_calculated : (class : Class) → is_calculation i.operation ≡ true → strict_class i.operation ≡ Some class → Stops b a a (Broken class i.line i.function)
  stops_calculated class h some =
      stops (Broken class i.line i.function) refl
      (λ calls hands. calculates i.operation h calls hands ∙ ap (λ c. or_else (acting calls hands) c i.line i.function (at (acting calls hands) (behind calls hands) 0 (calculated i.operation a.working.memory))) some)

  -- ---- the others

  pub goes_skip : (n : ℕ) → Is (operations.Skip n) → n ≤ place_total (next_place a.place) → GoesOn b a (record a { place = landed n (next_place a.place) })
  goes_skip n is within = goes n a.working.memory (is_operated (operations.Skip n) is) within

  zero_test : (s : Bool) (x y : Behaviour) → s ≡ true → (if s then x else y) ≡ x
  zero_test s x y h = λ k. if h k then x else y

  other_test : (s : Bool) (x y : Behaviour) → s ≡ false → (if s then x else y) ≡ y
  other_test s x y h = λ k. if h k then x else y

  pub goes_zero : (x n : ℕ) → Is (operations.SkipIfZero x n) → (register a.working.memory x == 0) ≡ true → n ≤ place_total (next_place a.place) → GoesOn b a (record a { place = landed n (next_place a.place) })
  goes_zero x n is h within =
      goes n a.working.memory (λ calls hands. is_operated (operations.SkipIfZero x n) is calls hands ∙ zero_test (register a.working.memory x == 0) _ _ h) within

  pub goes_other : (x n : ℕ) → Is (operations.SkipIfZero x n) → (register a.working.memory x == 0) ≡ false → GoesOn b a (record a { place = landed 0 (next_place a.place) })
  goes_other x n is h =
      goes 0 a.working.memory (λ calls hands. is_operated (operations.SkipIfZero x n) is calls hands ∙ other_test (register a.working.memory x == 0) _ _ h) (omega arith)

  pub goes_check : (c : Condition) → Is (operations.Check c) → check_class c a.working.memory ≡ None → GoesOn b a (record a { place = landed 0 (next_place a.place) })
  goes_check c is none =
      goes 0 a.working.memory (λ calls hands. is_operated (operations.Check c) is calls hands ∙ ap (λ x. or_else (acting calls hands) x i.line i.function (at (acting calls hands) (behind calls hands) 0 a.working.memory)) none) (omega arith)

  pub stops_check : (c : Condition) (class : Class) → Is (operations.Check c) → check_class c a.working.memory ≡ Some class → Stops b a a (Broken class i.line i.function)
  stops_check c class is some =
      stops (Broken class i.line i.function) refl
      (λ calls hands. is_operated (operations.Check c) is calls hands ∙ ap (λ x. or_else (acting calls hands) x i.line i.function (at (acting calls hands) (behind calls hands) 0 a.working.memory)) some)

  pub goes_assert : (x : ℕ) → Is (operations.Assert x) → (register a.working.memory x == 0) ≡ false → GoesOn b a (record a { place = landed 0 (next_place a.place) })
  goes_assert x is h = goes 0 a.working.memory (λ calls hands. is_operated (operations.Assert x) is calls hands ∙ other_test (register a.working.memory x == 0) _ _ h) (omega arith)

  pub stops_assert : (x : ℕ) → Is (operations.Assert x) → (register a.working.memory x == 0) ≡ true → Stops b a a (Broken classes.Assertion i.line i.function)
  stops_assert x is h = stops (Broken classes.Assertion i.line i.function) refl (λ calls hands. is_operated (operations.Assert x) is calls hands ∙ zero_test (register a.working.memory x == 0) _ _ h)

  pub goes_assume : (x : ℕ) → Is (operations.Assume x) → (register a.working.memory x == 0) ≡ false → GoesOn b a (record a { place = landed 0 (next_place a.place) })
  goes_assume x is h = goes 0 a.working.memory (λ calls hands. is_operated (operations.Assume x) is calls hands ∙ other_test (register a.working.memory x == 0) _ _ h) (omega arith)

  pub stops_assume : (x : ℕ) → Is (operations.Assume x) → (register a.working.memory x == 0) ≡ true → Stops b a a Blocked
  stops_assume x is h = stops Blocked refl (λ calls hands. is_operated (operations.Assume x) is calls hands ∙ zero_test (register a.working.memory x == 0) _ _ h)

  pub stops_fail : (class : Class) → Is (operations.Fail class) → Stops b a a (Broken class i.line i.function)
  stops_fail class is = stops (Broken class i.line i.function) refl (is_operated (operations.Fail class) is)

  acting_now : (words : ℕ) (o : Operation) → Is o → acts_on words o a.working.memory ≡ true → acts words (next_instruction b a.place.nodes) a.working.memory ≡ true
  acting_now words o is action = ap (λ x. acts words x a.working.memory) found ∙ ap (λ p. acts_on words p a.working.memory) is ∙ action

  pub stops_exchange : is_exchange i.operation ≡ true → Stops b a a (Act (action_of i.operation a.working.memory) i.line i.function)
  stops_exchange h = record {
    unchanged = refl;
    next_is = λ calls hands. sym (λ k. (does_here calls hands ∙ exchanges (acting calls hands) b.strict 0 i.line i.function (behind calls hands) a.working.memory i.operation h) k []);
    acting = λ act. acting_now 0 i.operation refl (exchange_acts 0 i.operation a.working.memory h);
  }

  unbounded : (o : Operation) → asks_bounds o ≡ true → (calls : Calls) (hands : Given → Behaviour) → operated calls hands o ≡ final Blocked
  unbounded (operations.Constant r bits) h calls hands = absurd (false≢true h)
  unbounded (operations.Copy r x) h calls hands = absurd (false≢true h)
  unbounded (operations.Load r t k offset) h calls hands = absurd (false≢true h)
  unbounded (operations.Store k offset count x) h calls hands = absurd (false≢true h)
  unbounded (operations.Clear k size) h calls hands = absurd (false≢true h)
  unbounded (operations.CopyBytes into to from offset count) h calls hands = absurd (false≢true h)
  unbounded (operations.Convert r from to x) h calls hands = absurd (false≢true h)
  unbounded (operations.Sign r op t x) h calls hands = absurd (false≢true h)
  unbounded (operations.Arithmetic r op t u x k) h calls hands = absurd (false≢true h)
  unbounded (operations.Compare r op t x k) h calls hands = absurd (false≢true h)
  unbounded (operations.IsZero r x) h calls hands = absurd (false≢true h)
  unbounded (operations.Skip n) h calls hands = absurd (false≢true h)
  unbounded (operations.SkipIfZero x n) h calls hands = absurd (false≢true h)
  unbounded (operations.Check c) h calls hands = absurd (false≢true h)
  unbounded (operations.Assert x) h calls hands = absurd (false≢true h)
  unbounded (operations.Assume x) h calls hands = absurd (false≢true h)
  unbounded (operations.Draw r bits) h calls hands = absurd (false≢true h)
  unbounded (operations.ReadObject k to object offset count) h calls hands = absurd (false≢true h)
  unbounded (operations.WriteObject object offset k from count) h calls hands = absurd (false≢true h)
  unbounded operations.Exit h calls hands = absurd (false≢true h)
  unbounded (operations.Fail class) h calls hands = absurd (false≢true h)
  unbounded (operations.Use x) h calls hands = absurd (false≢true h)
  unbounded (operations.Call g first count into r) h calls hands = absurd (false≢true h)
  unbounded (operations.Return v) h calls hands = absurd (false≢true h)
  unbounded (operations.Move r p w t n size class) h calls hands = absurd (false≢true h)
  unbounded (operations.Offset r p count) h calls hands = absurd (false≢true h)
  unbounded (operations.Same p q) h calls hands = absurd (false≢true h)
  unbounded (operations.Distance r p q n) h calls hands = absurd (false≢true h)
  unbounded (operations.Relate r op p q) h calls hands = absurd (false≢true h)
  unbounded (operations.Take k to from p count whole) h calls hands = absurd (false≢true h)
  unbounded (operations.Put k p from to count whole) h calls hands = absurd (false≢true h)
  unbounded (operations.Read k to p count) h calls hands = absurd (false≢true h)
  unbounded (operations.Write p k from count first) h calls hands = absurd (false≢true h)
  unbounded (operations.Look r p subscript) h calls hands = absurd (false≢true h)
  unbounded (operations.Fill k r) h calls hands = absurd (false≢true h)
  unbounded (operations.Alloc r k size readonly heap) h calls hands = absurd (false≢true h)
  unbounded (operations.Die p) h calls hands = absurd (false≢true h)
  unbounded (operations.Free p) h calls hands = absurd (false≢true h)
  unbounded (operations.MayFail r) h calls hands = refl
  unbounded (operations.Limit x k) h calls hands = refl

  pub stops_unbounded : asks_bounds i.operation ≡ true → Stops b a a Blocked
  stops_unbounded h = stops Blocked refl (unbounded i.operation h)

  -- ---- words

  -- what is done where some have been drawn
  pub with_words : (words : ℕ) (calls : Calls) (hands : Given → Behaviour) → does_on b calls hands words a ≡ operates_on (acting calls hands) words b.strict 0 i.line i.function i.operation (behind calls hands) a.working.memory
  with_words zero calls hands = does_here calls hands ∙ on_none (acting calls hands) b.strict 0 i.line i.function (behind calls hands) a.working.memory i.operation
  with_words (suc k) calls hands = ap (does_by_instruction b calls hands (suc k) a) found

  module _ (k q : ℕ) (is : Is (operations.Fill k q)) (words : ℕ) where
    pub with_fill : (calls : Calls) (hands : Given → Behaviour) → does_on b calls hands words a ≡ fills_on (acting calls hands) words 0 i.line i.function k q (behind calls hands) a.working.memory
    with_fill calls hands = with_words words calls hands ∙ ap (λ o. operates_on (acting calls hands) words b.strict 0 i.line i.function o (behind calls hands) a.working.memory) is

    abbrev size : ℕ
    size = first_count a.working.memory k q

    abbrev drawing : Next
    drawing = Act (actions.Draw (8 * drawn_count size (8 * words))) i.line i.function

    fill_is_next : words < word_count size → (calls : Calls) (hands : Given → Behaviour) → drawing ≡ does_on b calls hands words a []
    fill_is_next more calls hands = sym (λ j. (with_fill calls hands ∙ word_left (acting calls hands) 0 i.line i.function k q (behind calls hands) a.working.memory words more) j [])

    fill_acts : words < word_count size → acts words (next_instruction b a.place.nodes) a.working.memory ≡ true
    fill_acts more = acting_now words (operations.Fill k q) is (holds_below words (word_count size) more)

    pub fill_more : acts words (next_instruction b a.place.nodes) a.working.memory ≡ true → words < word_count size
    fill_more act = test_below words (word_count size) (sym (ap (λ x. acts words x a.working.memory) found ∙ ap (λ o. acts_on words o a.working.memory) is) ∙ act)

    fill_lands : word_count size ≤ words → (calls : Calls) (hands : Given → Behaviour) → does_on b calls hands words a ≡ does b calls hands (record a { place = landed 0 (next_place a.place) })
    fill_lands past calls hands =
        with_fill calls hands
        ∙ nothing_left (acting calls hands) 0 i.line i.function k q (behind calls hands) a.working.memory words past
        ∙ landing b (acting calls hands) 0 (next_place a.place) a.working.memory (omega arith)

    pub fill_goes_on : word_count size ≤ words → GoesOnWith b words a (record a { place = landed 0 (next_place a.place) })
    fill_goes_on past = record {
      same = λ calls hands. sym (fill_lands past calls hands);
      falls = λ w. omega (arith, falls_landed b w 0 a.place i found);
    }

    pub fill_draws_on : words < word_count size → StopsOn b words a drawing
    fill_draws_on more = record { next_is = fill_is_next more; acting = λ act. fill_acts more }

  pub begin_goes : (k q : ℕ) → Is (operations.Fill k q) → word_count (first_count a.working.memory k q) ≤ 0 → GoesOn b a (record a { place = landed 0 (next_place a.place) })
  begin_goes k q is past = record {
    same = λ calls hands. sym (fill_lands k q is 0 past calls hands);
    falls = λ w. falls_landed b w 0 a.place i found;
  }

  pub begin_stops : (k q : ℕ) → Is (operations.Fill k q) → 0 < word_count (first_count a.working.memory k q) → Stops b a a (Act (actions.Draw (8 * drawn_count (first_count a.working.memory k q) (8 * 0))) i.line i.function)
  begin_stops k q is more = record { unchanged = refl; next_is = fill_is_next k q is 0 more; acting = λ act. fill_acts k q is 0 more }

  -- the next word, or what comes behind
  abbrev pub Fills : (k q words : ℕ) (new : Activation) → Option Next → Type 0
  Fills k q words new result =
      MatchOption result ((word_count (first_count a.working.memory k q) ≤ words) × (new ≡ record a { place = landed 0 (next_place a.place) }))
      (λ n. (words < word_count (first_count a.working.memory k q)) × (n ≡ Act (actions.Draw (8 * drawn_count (first_count a.working.memory k q) (8 * words))) i.line i.function) × (new ≡ a))

  pub fill_goes : (k q : ℕ) → Is (operations.Fill k q) → (new : Activation) (result : Option Next) → Fills k q 0 new result → result ≡ None → GoesOn b a new
  fill_goes k q is new None h none = subst (λ (x : Activation). GoesOn b a x) (sym h.1) (begin_goes k q is h.0)
  fill_goes k q is new (Some n) h none = absurd (none-some n (sym none))

  pub fill_stops : (k q : ℕ) → Is (operations.Fill k q) → (new : Activation) (result : Option Next) (n : Next) → Fills k q 0 new result → result ≡ Some n → Stops b a new n
  fill_stops k q is new result n h some =
      let g = subst (λ (r : Option Next). Fills k q 0 new r) some h in
      subst (λ (x : Activation). Stops b a x n) (sym g.2) (subst (λ (m : Next). Stops b a a m) (sym g.1) (begin_stops k q is g.0))

  pub fill_goes_with : (k q words : ℕ) → Is (operations.Fill k q) → (new : Activation) (result : Option Next) → Fills k q words new result → StepsOn b words a new result
  fill_goes_with k q words is new None h = subst (λ (x : Activation). GoesOnWith b words a x) (sym h.1) (fill_goes_on k q is words h.0)
  fill_goes_with k q words is new (Some n) h = (h.2, subst (λ (m : Next). StopsOn b words a m) (sym h.1) (fill_draws_on k q is words h.0))

  pub others_go_on : (words : ℕ) → is_fill i.operation ≡ false → GoesOnWith b words a a
  others_go_on words h = record {
    same = λ calls hands. does_here calls hands ∙ sym (on_other (acting calls hands) b.strict 0 i.line i.function (behind calls hands) a.working.memory words i.operation h) ∙ sym (with_words words calls hands);
    falls = λ w. omega arith;
  }

  pub stops_exit : Is operations.Exit → Stops b a a (Act actions.Exit i.line i.function)
  stops_exit is = record {
    unchanged = refl;
    next_is = λ calls hands. sym (λ j. (does_here calls hands ∙ is_operated operations.Exit is calls hands) j []);
    acting = λ act. acting_now 0 operations.Exit is refl;
  }

  pub calls_here : (f first count into q : ℕ) → Is (operations.Call f first count into q) → operation_fits a.working.types a.working.sizes (place_total (next_place a.place)) i.operation ≡ true
      → CallsFunction b a i f first count into q
  calls_here f first count into q is fits =
      let parts = both (nat_le (first + count) (length a.working.sizes) && nat_lt into (length a.working.sizes)) (is_register a.working.types q types.Int)
      (subst (λ (o : Operation). operation_fits a.working.types a.working.sizes (place_total (next_place a.place)) o ≡ true) is fits) in
      record {
        into_there = (both (nat_le (first + count) (length a.working.sizes)) (nat_lt into (length a.working.sizes)) parts.0).1;
        arguments_there = (both (nat_le (first + count) (length a.working.sizes)) (nat_lt into (length a.working.sizes)) parts.0).0;
        returned_there = parts.1;
        same = λ calls hands. does_here calls hands ∙ is_operated (operations.Call f first count into q) is calls hands;
        falls = λ w. omega (arith, weight_here b w a.place i found ∙ ap (λ o. step_weight b w o (place_weight b w (next_place a.place))) is);
      }

  pub hands_here : (v : Option ℕ) → Is (operations.Return v) → HandsOver b a (given_by a.working.memory v)
  hands_here v is = record {
    same = λ calls hands. does_here calls hands ∙ is_operated (operations.Return v) is calls hands;
    falls = λ w. place_some b w a.place;
  }
