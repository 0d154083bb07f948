-- A local run of flat code creates no thread, and makes at most as many objects as the code has Allocs.
use Rattle.std.proofs.Common.{◌≡◌, ℕ, zero, suc, ◌+◌, ◌-◌, ◌*◌, ◌≤◌, Bool, true, false, List, [], ◌∷◌, length, drop, Option, Some, None, refl, sym, ◌∙◌, arith}
use Rattle.std.specs.Prelude.{◌==◌, nat_lt, if◌then◌else◌}
use Rattle.std.proofs.lemmas.Bool.{false≢true}
use Rattle.std.proofs.lemmas.Bool.Decides.{nat_tests}
use Rattle.words.specs.declared.check.Class.{Class}
use Rattle.words.specs.declared.check.Class.TheVariants.{Assertion}
use Rattle.core_tree.specs.Operations.{arithmetic_check, sign_check}
use Rattle.core_tree.specs.Ranges.{Limits}
use Rattle.core_tree.specs.Trees.{TypedFile}
use Rattle.c_values.specs.Variables.{pointer_to, low_bytes, put_bytes, word_count, drawn_count}
use Rattle.c_values.specs.MadeObjects.{made_of}
use Rattle.actions.specs.declared.action.Action.{Action}
use Rattle.actions.specs.declared.action.Action.TheVariants.{Read, Write, Look, Draw, Alloc, Die, Free, Exit}
use Rattle.actions.specs.declared.action.Answer.{Answer}
use Rattle.actions.specs.declared.action.Next.{Next}
use Rattle.actions.specs.declared.action.Next.TheVariants.{Act, Ended, Blocked, Broken}
use Rattle.actions.specs.Behaviour.{Behaviour, shape_of, has_shape, after, word_64}
use Rattle.actions.specs.Pointer.{object_of}
use Rattle.actions.specs.StoredObject.{StoredObject}
use Rattle.goto_prog.specs.declared.code.Instruction.{Instruction}
use Rattle.goto_prog.specs.declared.code.Operation.{Operation}
use Rattle.goto_prog.specs.declared.code.Operation.TheVariants as operations
use Rattle.goto_prog.specs.Meaning.{Memory, at, or_else, check_class, return_check, range_check, same_check, inside_check, first_count, first_bytes, fills, operates, places_before, does, register, with_register, with_blocks, bytes_of, word_of, bytes_in, size_in, number_in}
use Rattle.goto_prog.specs.Threads.{ask, final, behaving}
use Rattle.goto_prog.specs.Allocations.{own_allocations, code_allocations, allocations}
use Rattle.goto_prog.specs.CodeThread.{first_memory}
use Rattle.goto_prog.specs.GotoThreads.{GotoFile}
use Rattle.goto_prog.specs.Flat.{Flat, plain_thread, main_code}
use Rattle.goto_prog.specs.Fine.{IsEnd}
use Rattle.core_tree.specs.declared.refusal.Limit.TheVariants as limits
use Rattle.goto_unwind.specs.Places.{places, objects}
use Rattle.goto_unwind.specs.Counts.{Quantity, first_passed, passed, object_bytes}
use Rattle.goto_unwind.specs.LocalRuns.{creates, allocates, count_on, MakesFew}

-- whatever the answers are, no more actions of the kind than so many
abbrev AtMost : (Next → Bool) → ℕ → Behaviour → Type 0
AtMost kind k behaves = (answers : List Answer) → count_on kind behaves answers ≤ k

-- of the actions of flat code only an Alloc may be of the kind, and then counts so much
record Counted (kind : Next → Bool) (weight : ℕ) : Type 0 where
  allocs : (x : StoredObject) (line f : ℕ) → (if kind (Act (Alloc x) line f) then 1 else 0) ≤ weight
  reads : (p n line f : ℕ) → kind (Act (Read p n) line f) ≡ false
  writes : (p : ℕ) (bytes : List ℕ) (first : Bool) (line f : ℕ) → kind (Act (Write p bytes first) line f) ≡ false
  looks : (p : ℕ) (subscript : Bool) (line f : ℕ) → kind (Act (Look p subscript) line f) ≡ false
  draws : (bits line f : ℕ) → kind (Act (Draw bits) line f) ≡ false
  dies : (k line f : ℕ) → kind (Act (Die k) line f) ≡ false
  frees : (p line f : ℕ) → kind (Act (Free p) line f) ≡ false
  exits : (line f : ℕ) → kind (Act Exit line f) ≡ false
  ends : (n : Next) → IsEnd n → kind n ≡ false

-- an operation of the kind is an Alloc
abbrev own : ℕ → Operation → ℕ
own weight o = weight * own_allocations o

module _ (kind : Next → Bool) (weight : ℕ) (counted : Counted kind weight) where
  counted_none : (b : Bool) (n k : ℕ) → b ≡ false → n ≤ k → (if b then 1 else 0) + n ≤ k
  counted_none true n k none h = let none' : ⊥ = cc in absurd none'
  counted_none false n k none h = omega (arith, h)

  none_first : (b : Bool) (k : ℕ) → b ≡ false → (if b then 1 else 0) ≤ k
  none_first true k none = let none' : ⊥ = cc in absurd none'
  none_first false k none = omega arith

  -- nothing comes, whatever the answers are
  still_none : (k : ℕ) → AtMost kind k (λ later. Blocked)
  still_none k [] = none_first (kind Blocked) k (counted.ends Blocked tt)
  still_none k (a ∷ answers) = counted_none (kind Blocked) _ k (counted.ends Blocked tt) (still_none k answers)

  final_none : (k : ℕ) (n : Next) → IsEnd n → AtMost kind k (final n)
  final_none k n ends [] = none_first (kind n) k (counted.ends n ends)
  final_none k n ends (a ∷ answers) = counted_none (kind n) _ k (counted.ends n ends) (still_none k answers)

  by_shape : (k : ℕ) (b : Bool) (x : Behaviour) → AtMost kind k x → AtMost kind k (λ later. if b then x later else Blocked)
  by_shape k true x h = h
  by_shape k false x h = still_none k

  ask_none : (k : ℕ) (action : Action) (line f : ℕ) (follows : Answer → Behaviour) → kind (Act action line f) ≡ false → ((a : Answer) → AtMost kind k (follows a)) → AtMost kind k (ask action line f follows)
  ask_none k action line f follows here later [] = none_first (kind (Act action line f)) k here
  ask_none k action line f follows here later (a ∷ answers) = counted_none (kind (Act action line f)) _ k here (by_shape k (has_shape (shape_of action) a) (follows a) (later a) answers)

  ask_one : (k : ℕ) (action : Action) (line f : ℕ) (follows : Answer → Behaviour) → (if kind (Act action line f) then 1 else 0) ≤ weight → ((a : Answer) → AtMost kind k (follows a)) → AtMost kind (weight * 1 + k) (ask action line f follows)
  ask_one k action line f follows here later [] = omega (arith, here)
  ask_one k action line f follows here later (a ∷ answers) =
      let more : count_on kind (λ rest. if has_shape (shape_of action) a then follows a rest else Blocked) answers ≤ k = by_shape k (has_shape (shape_of action) a) (follows a) (later a) answers in
      together (if kind (Act action line f) then 1 else 0) _ here more
    where
      together : (x y : ℕ) → x ≤ weight → y ≤ k → x + y ≤ weight * 1 + k
      together x y one other = omega (arith, one, other)

  abbrev AllAtMost : ℕ → List (Memory → Behaviour) → Type 0
  AllAtMost k [] = Unit {0}
  AllAtMost k (p ∷ ps) = ((m : Memory) → AtMost kind k (p m)) × AllAtMost k ps

  raised : (k l : ℕ) → k ≤ l → (ps : List (Memory → Behaviour)) → AllAtMost k ps → AllAtMost l ps
  raised k l less [] all = tt
  raised k l less (p ∷ ps) all = ((λ m answers. let few = all.0 m answers in omega (arith, few, less)), raised k l less ps all.1)

  at_most : (k : ℕ) (ps : List (Memory → Behaviour)) (n : ℕ) (m : Memory) → AllAtMost k ps → AtMost kind k (at behaving ps n m)
  at_most k [] n m all = final_none k (Ended (word_64 0)) tt
  at_most k (p ∷ ps) zero m all = all.0 m
  at_most k (p ∷ ps) (suc n) m all = at_most k ps n m all.1

  choice_at_most : (k : ℕ) (b : Bool) (x y : Behaviour) → AtMost kind k x → AtMost kind k y → AtMost kind k (if b then x else y)
  choice_at_most k true x y first second = first
  choice_at_most k false x y first second = second

  check_at_most : (k : ℕ) (c : Option Class) (line f : ℕ) (next : Behaviour) → AtMost kind k next → AtMost kind k (or_else behaving c line f next)
  check_at_most k None line f next h = h
  check_at_most k (Some class) line f next h = final_none k (Broken class line f) tt

  fills_at_most : (k words place line f b size offset : ℕ) (ps : List (Memory → Behaviour)) (m : Memory) → AllAtMost k ps → AtMost kind k (fills behaving words place line f b size offset ps m)
  fills_at_most k zero place line f b size offset ps m all = at_most k ps 0 m all
  fills_at_most k (suc words) place line f b size offset ps m all =
      let count = drawn_count size offset in
      let next : Answer → Memory = λ a. with_blocks m (put_bytes m.blocks b offset (low_bytes count (word_of a))) in
      ask_none k (Draw (8 * count)) line f (λ a. fills behaving words place line f b size (offset + 8) ps (next a)) (counted.draws (8 * count) line f)
      (λ a. fills_at_most k words place line f b size (offset + 8) ps (next a) all)

  module _ (strict : Bool) (place line f k : ℕ) (ps : List (Memory → Behaviour)) (m : Memory) (all : AllAtMost (weight * 0 + k) ps) where
    abbrev by_itself : Option Class → Option Class
    by_itself c = if strict then c else None

    abbrev few : ℕ
    few = weight * 0 + k

    goes : (n : ℕ) (m' : Memory) → AtMost kind few (at behaving ps n m')
    goes n m' = at_most few ps n m' all

    checked : (c : Option Class) (m' : Memory) → AtMost kind few (or_else behaving (by_itself c) line f (at behaving ps 0 m'))
    checked c m' = check_at_most few (by_itself c) line f _ (goes 0 m')

    asked : (action : Action) (next : Answer → Memory) → kind (Act action line f) ≡ false → AtMost kind few (ask action line f (λ a. at behaving ps 0 (next a)))
    asked action next none = ask_none few action line f (λ a. at behaving ps 0 (next a)) none (λ a. goes 0 (next a))

    operation_at_most : (o : Operation) → AtMost kind (own weight o + k) (operates behaving strict place line f o ps m)
    operation_at_most (operations.Constant r bits) = goes 0 _
    operation_at_most (operations.Copy r a) = goes 0 _
    operation_at_most (operations.Load r t b offset) = goes 0 _
    operation_at_most (operations.Store b offset count a) = goes 0 _
    operation_at_most (operations.Clear b size) = goes 0 _
    operation_at_most (operations.CopyBytes into to from offset count) = goes 0 _
    operation_at_most (operations.Convert r from to a) = goes 0 _
    operation_at_most (operations.Sign r op t a) = checked (sign_check op t (register m a)) _
    operation_at_most (operations.Arithmetic r op t u a b) = checked (arithmetic_check op t u (register m a) (register m b)) _
    operation_at_most (operations.Compare r op t a b) = goes 0 _
    operation_at_most (operations.IsZero r a) = goes 0 _
    operation_at_most (operations.Skip n) = goes n m
    operation_at_most (operations.SkipIfZero a n) = choice_at_most few (register m a == 0) _ _ (goes n m) (goes 0 m)
    operation_at_most (operations.Check c) = check_at_most few (check_class c m) line f _ (goes 0 m)
    operation_at_most (operations.Assert a) = choice_at_most few (register m a == 0) _ _ (final_none few (Broken Assertion line f) tt) (goes 0 m)
    operation_at_most (operations.Assume a) = choice_at_most few (register m a == 0) _ _ (final_none few Blocked tt) (goes 0 m)
    operation_at_most (operations.Draw r bits) = asked (Draw bits) (λ a. with_register m r (word_of a)) (counted.draws bits line f)
    operation_at_most (operations.ReadObject b to k' offset count) =
        asked (Read (pointer_to k' offset) count) (λ a. with_blocks m (put_bytes m.blocks b to (bytes_in a))) (counted.reads (pointer_to k' offset) count line f)
    operation_at_most (operations.WriteObject k' offset b from count) =
        asked (Write (pointer_to k' offset) (bytes_of m.blocks b from count) false) (λ a. m) (counted.writes (pointer_to k' offset) (bytes_of m.blocks b from count) false line f)
    operation_at_most operations.Exit = ask_none few Exit line f (λ a. final (Ended (word_64 0))) (counted.exits line f) (λ a. final_none few (Ended (word_64 0)) tt)
    operation_at_most (operations.Fail class) = final_none few (Broken class line f) tt
    operation_at_most (operations.Use a) = checked (return_check (register m a)) m
    operation_at_most (operations.Call g first count into r) = final_none few Blocked tt
    operation_at_most (operations.Return v) = final_none few Blocked tt
    operation_at_most (operations.Move r p i t n size class) = checked (range_check m p i t n size class) _
    operation_at_most (operations.Offset r p count) = goes 0 _
    operation_at_most (operations.Same p q) = checked (same_check m p q) m
    operation_at_most (operations.Distance r p q n) = goes 0 _
    operation_at_most (operations.Relate r op p q) = goes 0 _
    operation_at_most (operations.Take b to from p count whole) = checked (inside_check m p count whole) _
    operation_at_most (operations.Put b p from to count whole) = checked (inside_check m p count whole) _
    operation_at_most (operations.Read b to p count) = asked (Read (register m p) count) (λ a. with_blocks m (put_bytes m.blocks b to (bytes_in a))) (counted.reads (register m p) count line f)
    operation_at_most (operations.Write p b from count first) =
        asked (Write (register m p) (bytes_of m.blocks b from count) first) (λ a. m) (counted.writes (register m p) (bytes_of m.blocks b from count) first line f)
    operation_at_most (operations.Look r p subscript) = asked (Look (register m p) subscript) (λ a. with_register m r (size_in a)) (counted.looks (register m p) subscript line f)
    operation_at_most (operations.Fill b r) =
        let size = first_count m b r in fills_at_most few (word_count size - 0) place line f b size (8 * 0) ps m all
    operation_at_most (operations.Alloc r b size readonly heap) =
        let x = made_of readonly heap (first_bytes m b size) in
        let all' : AllAtMost k ps = raised few k (omega arith) ps all in
        ask_one k (Alloc x) line f (λ a. at behaving ps 0 (with_register m r (pointer_to (number_in a) 0))) (counted.allocs x line f) (λ a. at_most k ps 0 _ all')
    operation_at_most (operations.Die p) = asked (Die (object_of (register m p))) (λ a. m) (counted.dies (object_of (register m p)) line f)
    operation_at_most (operations.Free p) = asked (Free (register m p)) (λ a. m) (counted.frees (register m p) line f)
    operation_at_most (operations.MayFail r) = final_none few Blocked tt
    operation_at_most (operations.Limit a b) = final_none few Blocked tt

  abbrev bound : List Instruction → ℕ
  bound [] = 0
  bound (i ∷ code) = own weight i.operation + bound code

  places_at_most : (strict : Bool) (place : ℕ) (code : List Instruction) → AllAtMost (bound code) (places_before behaving strict place code [])
  places_at_most strict place [] = tt
  places_at_most strict place (i ∷ code) =
      let rest = places_at_most strict (suc place) code in
      let ps = places_before behaving strict (suc place) code [] in (
        (λ m. operation_at_most strict place i.line i.function (bound code) ps m (raised (bound code) (weight * 0 + bound code) (omega arith) ps rest) i.operation),
        raised (bound code) (bound (i ∷ code)) (omega arith) ps rest,
      )

  does_at_most : (strict : Bool) (place : ℕ) (code : List Instruction) (m : Memory) → AtMost kind (bound code) (does behaving strict place code m)
  does_at_most strict place code m = at_most (bound code) (places_before behaving strict place code []) 0 m (places_at_most strict place code)

no_creation : Counted creates 0
no_creation = record {
  allocs = λ x line f. omega arith;
  reads = λ p n line f. refl;
  writes = λ p bytes first line f. refl;
  looks = λ p subscript line f. refl;
  draws = λ bits line f. refl;
  dies = λ k line f. refl;
  frees = λ p line f. refl;
  exits = λ line f. refl;
  ends = ended;
}
  where
    ended : (n : Next) → IsEnd n → creates n ≡ false
    ended (Act action line f) ends = absurd ends
    ended (Ended v) ends = refl
    ended Blocked ends = refl
    ended (Broken class line f) ends = refl

own_allocation : Counted allocates 1
own_allocation = record {
  allocs = λ x line f. omega arith;
  reads = λ p n line f. refl;
  writes = λ p bytes first line f. refl;
  looks = λ p subscript line f. refl;
  draws = λ bits line f. refl;
  dies = λ k line f. refl;
  frees = λ p line f. refl;
  exits = λ line f. refl;
  ends = ended;
}
  where
    ended : (n : Next) → IsEnd n → allocates n ≡ false
    ended (Act action line f) ends = absurd ends
    ended (Ended v) ends = refl
    ended Blocked ends = refl
    ended (Broken class line f) ends = refl

creations_none : (code : List Instruction) → bound creates 0 no_creation code ≡ 0
creations_none [] = refl
creations_none (i ∷ code) = omega (arith, creations_none code)

allocations_are : (code : List Instruction) → bound allocates 1 own_allocation code ≡ code_allocations code
allocations_are [] = refl
allocations_are (i ∷ code) = omega (arith, allocations_are code)

-- thread 0 of flat code
pub makes_own : (g : Flat) (answers : List Answer) → count_on allocates (plain_thread g).behaves answers ≤ code_allocations (main_code g).instructions
makes_own g answers =
    let code = main_code g in
    let few = does_at_most allocates 1 own_allocation false 0 (drop 0 code.instructions) (first_memory code) answers in
    let are = allocations_are (drop 0 code.instructions) in
    omega (arith, few, are)

-- with no more objects than may be, where no other thread is started
pub makes_few : (g : Flat) → length g.store + code_allocations (main_code g).instructions ≤ 8192 → ((f : ℕ) → (plain_thread g).program.can_start f ≡ false) → MakesFew (length g.store) (plain_thread g)
makes_few g most none =
    let code = main_code g in
    record {
      creations = λ answers.
          let few = does_at_most creates 0 no_creation false 0 (drop 0 code.instructions) (first_memory code) answers in
          let are = creations_none (drop 0 code.instructions) in
          omega (arith, few, are);
      allocations = λ answers. let few = makes_own g answers in omega (arith, few, most);
      created = λ f v answers startable. absurd (false≢true (sym (none f) ∙ startable));
    }

none_passed : (q : Quantity) (qs : List Quantity) → first_passed (q ∷ qs) ≡ None → (nat_lt q.most q.count ≡ false) × (first_passed qs ≡ None)
none_passed q qs none = by (nat_lt q.most q.count) refl none where
  by : (b : Bool) → nat_lt q.most q.count ≡ b → (if b then Some q.limit else first_passed qs) ≡ None → (nat_lt q.most q.count ≡ false) × (first_passed qs ≡ None)
  by true e h = let none : ⊥ = cc in absurd none
  by false e h = (e, h)

fourth_within : (p t a o b : Quantity) → first_passed (p ∷ t ∷ a ∷ o ∷ b ∷ []) ≡ None → nat_lt o.most o.count ≡ false
fourth_within p t a o b none =
    let behind_first = (none_passed p (t ∷ a ∷ o ∷ b ∷ []) none).1 in
    let behind_second = (none_passed t (a ∷ o ∷ b ∷ []) behind_first).1 in
    (none_passed o (b ∷ []) (none_passed a (o ∷ b ∷ []) behind_second).1).0

-- no more objects than a file, where that passes no limit
pub few_objects : (file : TypedFile) (bounds : Limits) (n : ℕ) → n ≤ length file.objects + length file.literals + objects file.functions bounds → passed file bounds ≡ None → n ≤ 8192
few_objects file bounds n few none =
    let q : Quantity = record { limit = limits.Places; most = 2000000; count = places file.functions bounds } in
    let t : Quantity = record { limit = limits.Threads; most = 64; count = 0 } in
    let a : Quantity = record { limit = limits.Actions; most = 4096; count = 0 } in
    let o : Quantity = record { limit = limits.Objects; most = 8192; count = length file.objects + length file.literals + objects file.functions bounds } in
    let b : Quantity = record { limit = limits.ObjectBytes; most = 65536; count = object_bytes file } in
    let fits = most (length file.objects + length file.literals + objects file.functions bounds) (fourth_within q t a o b none) in
    omega (arith, few, fits)
  where
    most : (n : ℕ) → nat_lt 8192 n ≡ false → n ≤ 8192
    most n h = grind (arith, nat_tests)
