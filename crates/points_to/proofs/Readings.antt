-- The two readings of code agree: where what a thread does says that an action is next, and it makes an object, the place that is told has an Alloc.
use Rattle.std.proofs.Common.{◌≡◌, ℕ, zero, suc, ◌+◌, ◌-◌, ◌*◌, Bool, true, false, List, [], ◌∷◌, Option, Some, None, refl, ◌∙◌, ap}
use Rattle.std.specs.Prelude.{◌==◌, slice_get, if◌then◌else◌}
use Rattle.words.specs.declared.check.Class.{Class}
use Rattle.words.specs.declared.check.Class.TheVariants.{Assertion}
use Rattle.core_tree.specs.Operations.{arithmetic_check, sign_check}
use Rattle.c_values.specs.Variables.{pointer_to, low_bytes, put_bytes, word_count, drawn_count}
use Rattle.c_values.specs.MadeObjects.{made_of}
use Rattle.actions.specs.declared.action.Action.{Action}
use Rattle.actions.specs.declared.action.Action.TheVariants.{Read, Write, Look, Draw, Alloc, Die, Free, Exit}
use Rattle.actions.specs.declared.action.Answer.{Answer}
use Rattle.actions.specs.declared.action.Next.{Next}
use Rattle.actions.specs.declared.action.Next.TheVariants.{Act, Ended, Blocked, Broken}
use Rattle.actions.specs.Pointer.{object_of}
use Rattle.actions.specs.Behaviour.{Behaviour, shape_of, has_shape, word_64}
use Rattle.goto_prog.specs.declared.code.Instruction.{Instruction}
use Rattle.goto_prog.specs.declared.code.Operation.{Operation}
use Rattle.goto_prog.specs.declared.code.Operation.TheVariants as operations
use Rattle.goto_prog.specs.Meaning.{Memory, at, or_else, check_class, return_check, range_check, same_check, inside_check, first_count, first_bytes, fills, operates, places_before, does, register, with_register, with_blocks, bytes_of, word_of, bytes_in, size_in, number_in}
use Rattle.goto_prog.specs.Threads.{behaving, ask, final}
use Rattle.goto_prog.specs.Fine.{IsEnd}
use Rattle.goto_prog.specs.Allocations.{own_allocations}
use Rattle.points_to.specs.Sets.{next_place, placing}

-- what follows answers, as places
abbrev pub Places : Type 0
Places = List Answer → Option ℕ

-- how many objects an instruction makes
abbrev pub made_at : Option Instruction → ℕ
made_at None = 0
made_at (Some i) = own_allocations i.operation

-- each instruction of a part of code stands at its place of the whole
abbrev pub StandsAt : List Instruction → ℕ → List Instruction → Type 0
StandsAt all place [] = Unit {0}
StandsAt all place (i ∷ code) = (slice_get all place ≡ Some i) × StandsAt all (suc place) code

stands_behind : (x : Instruction) (all : List Instruction) (place : ℕ) (code : List Instruction) → StandsAt all place code → StandsAt (x ∷ all) (suc place) code
stands_behind x all place [] stands = tt
stands_behind x all place (i ∷ code) stands = (stands.0, stands_behind x all (suc place) code stands.1)

stands : (code : List Instruction) → StandsAt code 0 code
stands [] = tt
stands (i ∷ code) = (refl, stands_behind i code 0 code (stands code))

module _ (all : List Instruction) where
  -- the place has an instruction that makes an object
  abbrev pub IsMade : Option ℕ → Type 0
  IsMade place = (c : ℕ) × (place ≡ Some c) × (made_at (slice_get all c) ≡ 1)

  -- an action of code, at a place
  abbrev pub IsAt : Action → Option ℕ → Type 0
  IsAt (Read p n) place = Unit {0}
  IsAt (Write p new first) place = Unit {0}
  IsAt (Look p subscript) place = Unit {0}
  IsAt (Draw bits) place = Unit {0}
  IsAt (Alloc o) place = IsMade place
  IsAt (Die k) place = Unit {0}
  IsAt (Free p) place = Unit {0}
  IsAt Exit place = Unit {0}
  IsAt _ place = ⊥

  abbrev pub NextIsAt : Next → Option ℕ → Type 0
  NextIsAt (Act action line f) place = IsAt action place
  NextIsAt (Ended v) place = Unit {0}
  NextIsAt Blocked place = Unit {0}
  NextIsAt (Broken class line f) place = Unit {0}

  abbrev pub Agree : Behaviour → Places → Type 0
  Agree b q = (given : List Answer) → NextIsAt (b given) (q given)

  end_at : (n : Next) (place : Option ℕ) → IsEnd n → NextIsAt n place
  end_at (Act action line f) place ends = absurd ends
  end_at (Ended v) place ends = tt
  end_at Blocked place ends = tt
  end_at (Broken class line f) place ends = tt

  final_at : (n : Next) (q : Places) → IsEnd n → Agree (final n) q
  final_at n q ends [] = end_at n (q []) ends
  final_at n q ends (a ∷ given) = tt

  shaped : (b : Bool) (x : Next) (place : Option ℕ) → NextIsAt x place → NextIsAt (if b then x else Blocked) place
  shaped true x place h = h
  shaped false x place h = tt

  ask_at : (action : Action) (line f place : ℕ) (follows : Answer → Behaviour) (places : Answer → Places) → IsAt action (Some place) → ((a : Answer) → Agree (follows a) (places a)) → Agree (ask action line f follows) (next_place place places)
  ask_at action line f place follows places is later [] = is
  ask_at action line f place follows places is later (a ∷ given) = shaped (has_shape (shape_of action) a) (follows a given) (places a given) (later a given)

  choice_at : (b : Bool) (x y : Behaviour) (q r : Places) → Agree x q → Agree y r → Agree (if b then x else y) (if b then q else r)
  choice_at true x y q r first second = first
  choice_at false x y q r first second = second

  -- each of these places does what it is told of
  abbrev pub AllAgree : List (Memory → Behaviour) → List (Memory → Places) → Type 0
  AllAgree [] [] = Unit {0}
  AllAgree (p ∷ ps) (q ∷ qs) = ((m : Memory) → Agree (p m) (q m)) × AllAgree ps qs
  AllAgree _ _ = ⊥

  pub at_at : (ps : List (Memory → Behaviour)) (qs : List (Memory → Places)) (n : ℕ) (m : Memory) → AllAgree ps qs → Agree (at behaving ps n m) (at placing qs n m)
  at_at [] [] n m h = final_at (Ended (word_64 0)) (λ given. None) tt
  at_at [] (q ∷ qs) n m h = absurd h
  at_at (p ∷ ps) [] n m h = absurd h
  at_at (p ∷ ps) (q ∷ qs) zero m h = h.0 m
  at_at (p ∷ ps) (q ∷ qs) (suc n) m h = at_at ps qs n m h.1

  check_at : (c : Option Class) (line f : ℕ) (next : Behaviour) (q : Places) → Agree next q → Agree (or_else behaving c line f next) (or_else placing c line f q)
  check_at None line f next q h = h
  check_at (Some class) line f next q h = final_at (Broken class line f) (λ given. None) tt

  module _ (ps : List (Memory → Behaviour)) (qs : List (Memory → Places)) (h : AllAgree ps qs) where
    fills_at : (words place line f b size offset : ℕ) (m : Memory) → Agree (fills behaving words place line f b size offset ps m) (fills placing words place line f b size offset qs m)
    fills_at zero place line f b size offset m = at_at ps qs 0 m h
    fills_at (suc k) place line f b size offset m =
        let count = drawn_count size offset in
        let now = λ (a : Answer). with_blocks m (put_bytes m.blocks b offset (low_bytes count (word_of a))) in
        ask_at (Draw (8 * count)) line f place (λ a. fills behaving k place line f b size (offset + 8) ps (now a)) (λ a. fills placing k place line f b size (offset + 8) qs (now a)) tt (λ a. fills_at k place line f b size (offset + 8) (now a))

    module _ (strict : Bool) (place line f : ℕ) (m : Memory) where
      -- the next place, with a memory
      goes : (now : Memory) → Agree (at behaving ps 0 now) (at placing qs 0 now)
      goes now = at_at ps qs 0 now h

      -- or what is undefined
      tests : (c : Option Class) (now : Memory) → Agree (or_else behaving c line f (at behaving ps 0 now)) (or_else placing c line f (at placing qs 0 now))
      tests c now = check_at c line f (at behaving ps 0 now) (at placing qs 0 now) (goes now)

      asks : (action : Action) (now : Answer → Memory) → IsAt action (Some place) → Agree (ask action line f (λ a. at behaving ps 0 (now a))) (next_place place (λ a. at placing qs 0 (now a)))
      asks action now is = ask_at action line f place (λ a. at behaving ps 0 (now a)) (λ a. at placing qs 0 (now a)) is (λ a. goes (now a))

      pub operation_at : (o : Operation) → (own_allocations o ≡ 1 → IsMade (Some place)) → Agree (operates behaving strict place line f o ps m) (operates placing strict place line f o qs m)
      operation_at (operations.Constant r bits) made = goes _
      operation_at (operations.Copy r a) made = goes _
      operation_at (operations.Load r t b offset) made = goes _
      operation_at (operations.Store b offset count a) made = goes _
      operation_at (operations.Clear b size) made = goes _
      operation_at (operations.CopyBytes into to from offset count) made = goes _
      operation_at (operations.Convert r from to a) made = goes _
      operation_at (operations.Sign r op t a) made = tests (if strict then sign_check op t (register m a) else None) _
      operation_at (operations.Arithmetic r op t u a b) made = tests (if strict then arithmetic_check op t u (register m a) (register m b) else None) _
      operation_at (operations.Compare r op t a b) made = goes _
      operation_at (operations.IsZero r a) made = goes _
      operation_at (operations.Skip n) made = at_at ps qs n m h
      operation_at (operations.SkipIfZero a n) made = choice_at (register m a == 0) _ _ _ _ (at_at ps qs n m h) (goes m)
      operation_at (operations.Check c) made = tests (check_class c m) m
      operation_at (operations.Assert a) made = choice_at (register m a == 0) _ _ _ _ (final_at (Broken Assertion line f) (λ given. None) tt) (goes m)
      operation_at (operations.Assume a) made = choice_at (register m a == 0) _ _ _ _ (final_at Blocked (λ given. None) tt) (goes m)
      operation_at (operations.Draw r bits) made = asks (Draw bits) (λ a. with_register m r (word_of a)) tt
      operation_at (operations.ReadObject b to k offset count) made = asks (Read (pointer_to k offset) count) (λ a. with_blocks m (put_bytes m.blocks b to (bytes_in a))) tt
      operation_at (operations.WriteObject k offset b from count) made = asks (Write (pointer_to k offset) (bytes_of m.blocks b from count) false) (λ a. m) tt
      operation_at operations.Exit made = ask_at Exit line f place (λ a. final (Ended (word_64 0))) (λ a given. None) tt (λ a. final_at (Ended (word_64 0)) (λ given. None) tt)
      operation_at (operations.Fail class) made = final_at (Broken class line f) (λ given. None) tt
      operation_at (operations.Use a) made = tests (if strict then return_check (register m a) else None) m
      operation_at (operations.Call g first count into r) made = final_at Blocked (λ given. None) tt
      operation_at (operations.Return v) made = final_at Blocked (λ given. None) tt
      operation_at (operations.Move r p i t n size class) made = tests (if strict then range_check m p i t n size class else None) _
      operation_at (operations.Offset r p count) made = goes _
      operation_at (operations.Same p q) made = tests (if strict then same_check m p q else None) m
      operation_at (operations.Distance r p q n) made = goes _
      operation_at (operations.Relate r op p q) made = goes _
      operation_at (operations.Take b to from p count whole) made = tests (if strict then inside_check m p count whole else None) _
      operation_at (operations.Put b p from to count whole) made = tests (if strict then inside_check m p count whole else None) _
      operation_at (operations.Read b to p count) made = asks (Read (register m p) count) (λ a. with_blocks m (put_bytes m.blocks b to (bytes_in a))) tt
      operation_at (operations.Write p b from count first) made = asks (Write (register m p) (bytes_of m.blocks b from count) first) (λ a. m) tt
      operation_at (operations.Look r p subscript) made = asks (Look (register m p) subscript) (λ a. with_register m r (size_in a)) tt
      operation_at (operations.Fill b r) made = let size = first_count m b r in fills_at (word_count size - 0) place line f b size (8 * 0) m
      operation_at (operations.Alloc r b size readonly heap) made = asks (Alloc (made_of readonly heap (first_bytes m b size))) (λ a. with_register m r (pointer_to (number_in a) 0)) (made refl)
      operation_at (operations.Die p) made = asks (Die (object_of (register m p))) (λ a. m) tt
      operation_at (operations.Free p) made = asks (Free (register m p)) (λ a. m) tt
      operation_at (operations.MayFail r) made = final_at Blocked (λ given. None) tt
      operation_at (operations.Limit a b) made = final_at Blocked (λ given. None) tt

  places_at : (strict : Bool) (place : ℕ) (code : List Instruction) → StandsAt all place code → AllAgree (places_before behaving strict place code []) (places_before placing strict place code [])
  places_at strict place [] stands = tt
  places_at strict place (i ∷ code) stands =
      let rest = places_at strict (suc place) code stands.1 in
      ((λ m. operation_at (places_before behaving strict (suc place) code []) (places_before placing strict (suc place) code []) rest strict place i.line i.function m i.operation (λ one. (place, refl, ap made_at stands.0 ∙ one))), rest)

pub readings_agree : (strict : Bool) (code : List Instruction) (m : Memory) → Agree code (does behaving strict 0 code m) (does placing strict 0 code m)
readings_agree strict code m = at_at code (places_before behaving strict 0 code []) (places_before placing strict 0 code []) 0 m (places_at code strict 0 code (stands code))
