-- What code does is what a thread may do, if what its calls do and what becomes of what it hands over are.
use Rattle.std.specs.Prelude.{◌≡◌, ℕ, zero, suc, ◌+◌, ◌-◌, ◌*◌, Bool, true, false, ◌==◌, List, [], ◌∷◌, ◌++◌, Option, Some, None, if◌then◌else◌}
use Rattle.std.proofs.Common.{refl, sym, true≢false}
use Rattle.words.specs.declared.check.Class.{Class}
use Rattle.words.specs.declared.check.Class.TheVariants.{Assertion}
use Rattle.core_tree.specs.Operations.{arithmetic_check, sign_check}
use Rattle.c_values.specs.Variables.{pointer_to, low_bytes, put_bytes, word_count, drawn_count}
use Rattle.c_values.specs.MadeObjects.{made_of}
use Rattle.c_values.proofs.MadeObjects.{made_can_be}
use Rattle.actions.specs.StoredObject.{CanBeMade}
use Rattle.actions.specs.declared.action.Action.{Action}
use Rattle.actions.specs.declared.action.Action.TheVariants.{Read, Write, Look, Draw, Alloc, Die, Free, End, Exit}
use Rattle.actions.specs.declared.action.Answer.{Answer}
use Rattle.actions.specs.declared.action.Next.{Next}
use Rattle.actions.specs.declared.action.Next.TheVariants.{Act, Ended, Blocked, Broken}
use Rattle.actions.specs.Pointer.{object_of}
use Rattle.actions.specs.Behaviour.{Behaviour, Program, shape_of, has_shape, accepts, CanStart, MakesProper, EndsAfter, IsProper, IsBehaviour, word_64}
use Rattle.goto_prog.specs.declared.code.Instruction.{Instruction}
use Rattle.goto_prog.specs.declared.code.Operation.{Operation}
use Rattle.goto_prog.specs.declared.code.Operation.TheVariants as operations
use Rattle.goto_prog.specs.Meaning.{Memory, Given, Reading, at, or_else, check_class, return_check, range_check, same_check, inside_check, arguments_of, received, given_by, first_count, first_bytes, fills, operates, operates_on, places_before, register, with_register, with_blocks, bytes_of, word_of, bytes_in, size_in, number_in}
use Rattle.goto_prog.specs.Threads.{Calls, acting, ask, final}

-- the next isn't an action
abbrev pub IsEnd : Next → Type 0
IsEnd (Act action line f) = ⊥
IsEnd (Ended v) = Unit {0}
IsEnd Blocked = Unit {0}
IsEnd (Broken class line f) = Unit {0}

-- an action of code, and what follows its answers
abbrev pub IsStep : Action → (Answer → Behaviour) → Type 0
IsStep (Read p n) follows = Unit {0}
IsStep (Write p new first) follows = Unit {0}
IsStep (Look p subscript) follows = Unit {0}
IsStep (Draw bits) follows = Unit {0}
IsStep (Alloc o) follows = CanBeMade o
IsStep (Die k) follows = Unit {0}
IsStep (Free p) follows = Unit {0}
IsStep (End v) follows = (a : Answer) → follows a ≡ final (Ended (word_64 v))
IsStep Exit follows = (a : Answer) → follows a ≡ final (Ended (word_64 0))
IsStep _ follows = ⊥

module _ (program : Program) where
  final_creates : (n : Next) → IsEnd n → (answers : List Answer) → CanStart program (final n answers)
  final_creates (Act action line f) ends answers = absurd ends
  final_creates (Ended v) ends [] = tt
  final_creates (Ended v) ends (a ∷ answers) = tt
  final_creates Blocked ends [] = tt
  final_creates Blocked ends (a ∷ answers) = tt
  final_creates (Broken class line f) ends [] = tt
  final_creates (Broken class line f) ends (a ∷ answers) = tt

  final_makes : (n : Next) → IsEnd n → (answers : List Answer) → MakesProper (final n answers)
  final_makes (Act action line f) ends answers = absurd ends
  final_makes (Ended v) ends [] = tt
  final_makes (Ended v) ends (a ∷ answers) = tt
  final_makes Blocked ends [] = tt
  final_makes Blocked ends (a ∷ answers) = tt
  final_makes (Broken class line f) ends [] = tt
  final_makes (Broken class line f) ends (a ∷ answers) = tt

  final_proper : (n : Next) → IsProper (final n)
  final_proper n [] a later h = refl
  final_proper n (x ∷ before) a later h = refl

  final_ends : (n : Next) → IsEnd n → (answers : List Answer) (a : Answer) → EndsAfter (final n answers) a (final n (answers ++ a ∷ []))
  final_ends (Act action line f) ends answers a = absurd ends
  final_ends (Ended v) ends [] a = tt
  final_ends (Ended v) ends (x ∷ answers) a = tt
  final_ends Blocked ends [] a = tt
  final_ends Blocked ends (x ∷ answers) a = tt
  final_ends (Broken class line f) ends [] a = tt
  final_ends (Broken class line f) ends (x ∷ answers) a = tt

  pub final_behaves : (n : Next) → IsEnd n → IsBehaviour program (final n)
  final_behaves n ends = record { proper = final_proper n; creates = final_creates n ends; makes = final_makes n ends; ends = final_ends n ends }

  refused : (b : Bool) (x : Next) → b ≡ false → (if b then x else Blocked) ≡ Blocked
  refused b x h = λ i. if h i then x else Blocked

  proper_by : (b : Bool) (x y : Next) (a : Answer) → (accepts x a ≡ false → y ≡ Blocked) → accepts (if b then x else Blocked) a ≡ false → (if b then y else Blocked) ≡ Blocked
  proper_by true x y a rest h = rest h
  proper_by false x y a rest h = refl

  creates_by : (b : Bool) (x : Next) → CanStart program x → CanStart program (if b then x else Blocked)
  creates_by true x h = h
  creates_by false x h = tt

  makes_by : (b : Bool) (x : Next) → MakesProper x → MakesProper (if b then x else Blocked)
  makes_by true x h = h
  makes_by false x h = tt

  ends_by : (b : Bool) (x y : Next) (a : Answer) → EndsAfter x a y → EndsAfter (if b then x else Blocked) a (if b then y else Blocked)
  ends_by true x y a h = h
  ends_by false x y a h = tt

  action_creates : (action : Action) (line f : ℕ) (follows : Answer → Behaviour) → IsStep action follows → CanStart program (Act action line f)
  action_creates (Read p n) line f follows step = tt
  action_creates (Write p new first) line f follows step = tt
  action_creates (Look p subscript) line f follows step = tt
  action_creates (Draw bits) line f follows step = tt
  action_creates (Alloc o) line f follows step = tt
  action_creates (Die k) line f follows step = tt
  action_creates (Free p) line f follows step = tt
  action_creates (End v) line f follows step = tt
  action_creates Exit line f follows step = tt
  action_creates _ line f follows step = absurd step

  action_makes : (action : Action) (line f : ℕ) (follows : Answer → Behaviour) → IsStep action follows → MakesProper (Act action line f)
  action_makes (Read p n) line f follows step = tt
  action_makes (Write p new first) line f follows step = tt
  action_makes (Look p subscript) line f follows step = tt
  action_makes (Draw bits) line f follows step = tt
  action_makes (Alloc o) line f follows step = step
  action_makes (Die k) line f follows step = tt
  action_makes (Free p) line f follows step = tt
  action_makes (End v) line f follows step = tt
  action_makes Exit line f follows step = tt
  action_makes _ line f follows step = absurd step

  end_reached : (v : ℕ) (b : Bool) (x : Next) → x ≡ Ended (word_64 v) → b ≡ true → (if b then x else Blocked) ≡ Ended (word_64 v)
  end_reached v true x same h = same
  end_reached v false x same h = absurd (true≢false (sym h))

  action_ends : (action : Action) (line f : ℕ) (follows : Answer → Behaviour) → IsStep action follows → (a : Answer)
      → EndsAfter (Act action line f) a (if has_shape (shape_of action) a then follows a [] else Blocked)
  action_ends (Read p n) line f follows step a = tt
  action_ends (Write p new first) line f follows step a = tt
  action_ends (Look p subscript) line f follows step a = tt
  action_ends (Draw bits) line f follows step a = tt
  action_ends (Alloc o) line f follows step a = tt
  action_ends (Die k) line f follows step a = tt
  action_ends (Free p) line f follows step a = tt
  action_ends (End v) line f follows step a = λ ok. end_reached v (has_shape (shape_of (End v)) a) (follows a []) (λ i. step a i []) ok
  action_ends Exit line f follows step a = λ ok. end_reached 0 (has_shape (shape_of Exit) a) (follows a []) (λ i. step a i []) ok
  action_ends _ line f follows step a = absurd step

  module _ (action : Action) (line f : ℕ) (follows : Answer → Behaviour) (step : IsStep action follows) (fine : (a : Answer) → IsBehaviour program (follows a)) where
    ask_proper : IsProper (ask action line f follows)
    ask_proper [] a later h = refused (has_shape (shape_of action) a) (follows a later) h
    ask_proper (x ∷ before) a later h = proper_by (has_shape (shape_of action) x) (follows x before) (follows x (before ++ a ∷ later)) a ((fine x).proper before a later) h

    ask_creates : (answers : List Answer) → CanStart program (ask action line f follows answers)
    ask_creates [] = action_creates action line f follows step
    ask_creates (x ∷ answers) = creates_by (has_shape (shape_of action) x) (follows x answers) ((fine x).creates answers)

    ask_makes : (answers : List Answer) → MakesProper (ask action line f follows answers)
    ask_makes [] = action_makes action line f follows step
    ask_makes (x ∷ answers) = makes_by (has_shape (shape_of action) x) (follows x answers) ((fine x).makes answers)

    ask_ends : (answers : List Answer) (a : Answer) → EndsAfter (ask action line f follows answers) a (ask action line f follows (answers ++ a ∷ []))
    ask_ends [] a = action_ends action line f follows step a
    ask_ends (x ∷ answers) a = ends_by (has_shape (shape_of action) x) (follows x answers) (follows x (answers ++ a ∷ [])) a ((fine x).ends answers a)

    pub ask_behaves : IsBehaviour program (ask action line f follows)
    ask_behaves = record { proper = ask_proper; creates = ask_creates; makes = ask_makes; ends = ask_ends }

  -- what follows calls is what they do
  abbrev pub AreFineCalls : Calls → Type 0
  AreFineCalls calls = (caller f line : ℕ) (arguments : List (List ℕ)) (follows : Given → Behaviour) → ((given : Given) → IsBehaviour program (follows given)) → IsBehaviour program (calls caller f line arguments follows)

  -- each of these places does what a thread may do
  abbrev pub AreFine : List (Memory → Behaviour) → Type 0
  AreFine [] = Unit {0}
  AreFine (p ∷ ps) = ((m : Memory) → IsBehaviour program (p m)) × AreFine ps

  pub choice_fine : (b : Bool) (x y : Behaviour) → IsBehaviour program x → IsBehaviour program y → IsBehaviour program (if b then x else y)
  choice_fine true x y first second = first
  choice_fine false x y first second = second

  module _ (calls : Calls) (hands : Given → Behaviour) (fine_calls : AreFineCalls calls) (fine_hands : (given : Given) → IsBehaviour program (hands given)) where
    abbrev here : Reading Behaviour
    here = acting calls hands

    pub at_fine : (ps : List (Memory → Behaviour)) (n : ℕ) (m : Memory) → AreFine ps → IsBehaviour program (at here ps n m)
    at_fine [] n m fine = final_behaves (Ended (word_64 0)) tt
    at_fine (p ∷ ps) zero m fine = fine.0 m
    at_fine (p ∷ ps) (suc n) m fine = at_fine ps n m fine.1

    check_fine : (c : Option Class) (line f : ℕ) (next : Behaviour) → IsBehaviour program next → IsBehaviour program (or_else here c line f next)
    check_fine None line f next fine = fine
    check_fine (Some class) line f next fine = final_behaves (Broken class line f) tt

    strict_fine : (strict : Bool) (c : Option Class) (line f : ℕ) (next : Behaviour) → IsBehaviour program next → IsBehaviour program (or_else here (if strict then c else None) line f next)
    strict_fine strict c line f next fine = check_fine (if strict then c else None) line f next fine

    pub fills_fine : (words place line f b size offset : ℕ) (ps : List (Memory → Behaviour)) (m : Memory) → AreFine ps → IsBehaviour program (fills here words place line f b size offset ps m)
    fills_fine zero place line f b size offset ps m fine = at_fine ps 0 m fine
    fills_fine (suc k) place line f b size offset ps m fine =
        let count = drawn_count size offset in
        let now = λ (a : Answer). with_blocks m (put_bytes m.blocks b offset (low_bytes count (word_of a))) in
        ask_behaves (Draw (8 * count)) line f (λ a. fills here k place line f b size (offset + 8) ps (now a)) tt (λ a. fills_fine k place line f b size (offset + 8) ps (now a) fine)

    pub operation_fine : (strict : Bool) (place line f : ℕ) (o : Operation) (ps : List (Memory → Behaviour)) (m : Memory) → AreFine ps → IsBehaviour program (operates here strict place line f o ps m)
    operation_fine strict place line f (operations.Constant r bits) ps m fine = at_fine ps 0 _ fine
    operation_fine strict place line f (operations.Copy r a) ps m fine = at_fine ps 0 _ fine
    operation_fine strict place line f (operations.Load r t b offset) ps m fine = at_fine ps 0 _ fine
    operation_fine strict place line f (operations.Store b offset count a) ps m fine = at_fine ps 0 _ fine
    operation_fine strict place line f (operations.Clear b size) ps m fine = at_fine ps 0 _ fine
    operation_fine strict place line f (operations.CopyBytes into to from offset count) ps m fine = at_fine ps 0 _ fine
    operation_fine strict place line f (operations.Convert r from to a) ps m fine = at_fine ps 0 _ fine
    operation_fine strict place line f (operations.Sign r op t a) ps m fine = strict_fine strict (sign_check op t (register m a)) line f _ (at_fine ps 0 _ fine)
    operation_fine strict place line f (operations.Arithmetic r op t u a b) ps m fine = strict_fine strict (arithmetic_check op t u (register m a) (register m b)) line f _ (at_fine ps 0 _ fine)
    operation_fine strict place line f (operations.Compare r op t a b) ps m fine = at_fine ps 0 _ fine
    operation_fine strict place line f (operations.IsZero r a) ps m fine = at_fine ps 0 _ fine
    operation_fine strict place line f (operations.Skip n) ps m fine = at_fine ps n m fine
    operation_fine strict place line f (operations.SkipIfZero a n) ps m fine = choice_fine (register m a == 0) _ _ (at_fine ps n m fine) (at_fine ps 0 m fine)
    operation_fine strict place line f (operations.Check c) ps m fine = check_fine (check_class c m) line f _ (at_fine ps 0 m fine)
    operation_fine strict place line f (operations.Assert a) ps m fine = choice_fine (register m a == 0) _ _ (final_behaves (Broken Assertion line f) tt) (at_fine ps 0 m fine)
    operation_fine strict place line f (operations.Assume a) ps m fine = choice_fine (register m a == 0) _ _ (final_behaves Blocked tt) (at_fine ps 0 m fine)
    operation_fine strict place line f (operations.Draw r bits) ps m fine =
        ask_behaves (Draw bits) line f (λ a. at here ps 0 (with_register m r (word_of a))) tt (λ a. at_fine ps 0 (with_register m r (word_of a)) fine)
    operation_fine strict place line f (operations.ReadObject b to k offset count) ps m fine =
        ask_behaves (Read (pointer_to k offset) count) line f (λ a. at here ps 0 (with_blocks m (put_bytes m.blocks b to (bytes_in a)))) tt
        (λ a. at_fine ps 0 (with_blocks m (put_bytes m.blocks b to (bytes_in a))) fine)
    operation_fine strict place line f (operations.WriteObject k offset b from count) ps m fine =
        ask_behaves (Write (pointer_to k offset) (bytes_of m.blocks b from count) false) line f (λ a. at here ps 0 m) tt (λ a. at_fine ps 0 m fine)
    operation_fine strict place line f operations.Exit ps m fine =
        ask_behaves Exit line f (λ a. final (Ended (word_64 0))) (λ a. refl) (λ a. final_behaves (Ended (word_64 0)) tt)
    operation_fine strict place line f (operations.Fail class) ps m fine = final_behaves (Broken class line f) tt
    operation_fine strict place line f (operations.Use a) ps m fine = strict_fine strict (return_check (register m a)) line f _ (at_fine ps 0 m fine)
    operation_fine strict place line f (operations.Call g first count into r) ps m fine =
        fine_calls f g line (arguments_of m.blocks first count) (λ given. at here ps 0 (received m into r given)) (λ given. at_fine ps 0 (received m into r given) fine)
    operation_fine strict place line f (operations.Return v) ps m fine = fine_hands (given_by m v)
    operation_fine strict place line f (operations.Move r p i t n size class) ps m fine = strict_fine strict (range_check m p i t n size class) line f _ (at_fine ps 0 _ fine)
    operation_fine strict place line f (operations.Offset r p count) ps m fine = at_fine ps 0 _ fine
    operation_fine strict place line f (operations.Same p q) ps m fine = strict_fine strict (same_check m p q) line f _ (at_fine ps 0 m fine)
    operation_fine strict place line f (operations.Distance r p q n) ps m fine = at_fine ps 0 _ fine
    operation_fine strict place line f (operations.Relate r op p q) ps m fine = at_fine ps 0 _ fine
    operation_fine strict place line f (operations.Take b to from p count whole) ps m fine = strict_fine strict (inside_check m p count whole) line f _ (at_fine ps 0 _ fine)
    operation_fine strict place line f (operations.Put b p from to count whole) ps m fine = strict_fine strict (inside_check m p count whole) line f _ (at_fine ps 0 _ fine)
    operation_fine strict place line f (operations.Read b to p count) ps m fine =
        ask_behaves (Read (register m p) count) line f (λ a. at here ps 0 (with_blocks m (put_bytes m.blocks b to (bytes_in a)))) tt (λ a. at_fine ps 0 (with_blocks m (put_bytes m.blocks b to (bytes_in a))) fine)
    operation_fine strict place line f (operations.Write p b from count first) ps m fine =
        ask_behaves (Write (register m p) (bytes_of m.blocks b from count) first) line f (λ a. at here ps 0 m) tt (λ a. at_fine ps 0 m fine)
    operation_fine strict place line f (operations.Look r p subscript) ps m fine =
        ask_behaves (Look (register m p) subscript) line f (λ a. at here ps 0 (with_register m r (size_in a))) tt (λ a. at_fine ps 0 (with_register m r (size_in a)) fine)
    operation_fine strict place line f (operations.Fill b r) ps m fine =
        let size = first_count m b r in fills_fine (word_count size - 0) place line f b size (8 * 0) ps m fine
    operation_fine strict place line f (operations.Alloc r b size readonly heap) ps m fine =
        ask_behaves (Alloc (made_of readonly heap (first_bytes m b size))) line f (λ a. at here ps 0 (with_register m r (pointer_to (number_in a) 0))) (made_can_be readonly heap (first_bytes m b size))
        (λ a. at_fine ps 0 (with_register m r (pointer_to (number_in a) 0)) fine)
    operation_fine strict place line f (operations.Die p) ps m fine = ask_behaves (Die (object_of (register m p))) line f (λ a. at here ps 0 m) tt (λ a. at_fine ps 0 m fine)
    operation_fine strict place line f (operations.Free p) ps m fine = ask_behaves (Free (register m p)) line f (λ a. at here ps 0 m) tt (λ a. at_fine ps 0 m fine)
    operation_fine strict place line f (operations.MayFail r) ps m fine = final_behaves Blocked tt
    operation_fine strict place line f (operations.Limit a b) ps m fine = final_behaves Blocked tt

    pub rest_fine : (words : ℕ) (strict : Bool) (place line f : ℕ) (o : Operation) (ps : List (Memory → Behaviour)) (m : Memory) → AreFine ps → IsBehaviour program (operates_on here words strict place line f o ps m)
    rest_fine words strict place line f (operations.Constant r bits) ps m fine = operation_fine strict place line f (operations.Constant r bits) ps m fine
    rest_fine words strict place line f (operations.Copy r a) ps m fine = operation_fine strict place line f (operations.Copy r a) ps m fine
    rest_fine words strict place line f (operations.Load r t b offset) ps m fine = operation_fine strict place line f (operations.Load r t b offset) ps m fine
    rest_fine words strict place line f (operations.Store b offset count a) ps m fine = operation_fine strict place line f (operations.Store b offset count a) ps m fine
    rest_fine words strict place line f (operations.Clear b size) ps m fine = operation_fine strict place line f (operations.Clear b size) ps m fine
    rest_fine words strict place line f (operations.CopyBytes into to from offset count) ps m fine = operation_fine strict place line f (operations.CopyBytes into to from offset count) ps m fine
    rest_fine words strict place line f (operations.Convert r from to a) ps m fine = operation_fine strict place line f (operations.Convert r from to a) ps m fine
    rest_fine words strict place line f (operations.Sign r op t a) ps m fine = operation_fine strict place line f (operations.Sign r op t a) ps m fine
    rest_fine words strict place line f (operations.Arithmetic r op t u a b) ps m fine = operation_fine strict place line f (operations.Arithmetic r op t u a b) ps m fine
    rest_fine words strict place line f (operations.Compare r op t a b) ps m fine = operation_fine strict place line f (operations.Compare r op t a b) ps m fine
    rest_fine words strict place line f (operations.IsZero r a) ps m fine = operation_fine strict place line f (operations.IsZero r a) ps m fine
    rest_fine words strict place line f (operations.Skip n) ps m fine = operation_fine strict place line f (operations.Skip n) ps m fine
    rest_fine words strict place line f (operations.SkipIfZero a n) ps m fine = operation_fine strict place line f (operations.SkipIfZero a n) ps m fine
    rest_fine words strict place line f (operations.Check c) ps m fine = operation_fine strict place line f (operations.Check c) ps m fine
    rest_fine words strict place line f (operations.Assert a) ps m fine = operation_fine strict place line f (operations.Assert a) ps m fine
    rest_fine words strict place line f (operations.Assume a) ps m fine = operation_fine strict place line f (operations.Assume a) ps m fine
    rest_fine words strict place line f (operations.Draw r bits) ps m fine = operation_fine strict place line f (operations.Draw r bits) ps m fine
    rest_fine words strict place line f (operations.ReadObject b to k offset count) ps m fine = operation_fine strict place line f (operations.ReadObject b to k offset count) ps m fine
    rest_fine words strict place line f (operations.WriteObject k offset b from count) ps m fine = operation_fine strict place line f (operations.WriteObject k offset b from count) ps m fine
    rest_fine words strict place line f operations.Exit ps m fine = operation_fine strict place line f operations.Exit ps m fine
    rest_fine words strict place line f (operations.Fail class) ps m fine = operation_fine strict place line f (operations.Fail class) ps m fine
    rest_fine words strict place line f (operations.Use a) ps m fine = operation_fine strict place line f (operations.Use a) ps m fine
    rest_fine words strict place line f (operations.Call g first count into r) ps m fine = operation_fine strict place line f (operations.Call g first count into r) ps m fine
    rest_fine words strict place line f (operations.Return v) ps m fine = operation_fine strict place line f (operations.Return v) ps m fine
    rest_fine words strict place line f (operations.Move r p i t n size class) ps m fine = operation_fine strict place line f (operations.Move r p i t n size class) ps m fine
    rest_fine words strict place line f (operations.Offset r p count) ps m fine = operation_fine strict place line f (operations.Offset r p count) ps m fine
    rest_fine words strict place line f (operations.Same p q) ps m fine = operation_fine strict place line f (operations.Same p q) ps m fine
    rest_fine words strict place line f (operations.Distance r p q n) ps m fine = operation_fine strict place line f (operations.Distance r p q n) ps m fine
    rest_fine words strict place line f (operations.Relate r op p q) ps m fine = operation_fine strict place line f (operations.Relate r op p q) ps m fine
    rest_fine words strict place line f (operations.Take b to from p count whole) ps m fine = operation_fine strict place line f (operations.Take b to from p count whole) ps m fine
    rest_fine words strict place line f (operations.Put b p from to count whole) ps m fine = operation_fine strict place line f (operations.Put b p from to count whole) ps m fine
    rest_fine words strict place line f (operations.Read b to p count) ps m fine = operation_fine strict place line f (operations.Read b to p count) ps m fine
    rest_fine words strict place line f (operations.Write p b from count first) ps m fine = operation_fine strict place line f (operations.Write p b from count first) ps m fine
    rest_fine words strict place line f (operations.Look r p subscript) ps m fine = operation_fine strict place line f (operations.Look r p subscript) ps m fine
    rest_fine words strict place line f (operations.Fill b r) ps m fine =
        let size = first_count m b r in fills_fine (word_count size - words) place line f b size (8 * words) ps m fine
    rest_fine words strict place line f (operations.Alloc r b size readonly heap) ps m fine = operation_fine strict place line f (operations.Alloc r b size readonly heap) ps m fine
    rest_fine words strict place line f (operations.Die p) ps m fine = operation_fine strict place line f (operations.Die p) ps m fine
    rest_fine words strict place line f (operations.Free p) ps m fine = operation_fine strict place line f (operations.Free p) ps m fine
    rest_fine words strict place line f (operations.MayFail r) ps m fine = operation_fine strict place line f (operations.MayFail r) ps m fine
    rest_fine words strict place line f (operations.Limit a b) ps m fine = operation_fine strict place line f (operations.Limit a b) ps m fine

    pub places_fine : (strict : Bool) (place : ℕ) (code : List Instruction) (later : List (Memory → Behaviour)) → AreFine later → AreFine (places_before here strict place code later)
    places_fine strict place [] later fine = fine
    places_fine strict place (i ∷ code) later fine =
        let rest = places_fine strict (suc place) code later fine in ((λ m. operation_fine strict place i.line i.function i.operation (places_before here strict (suc place) code later) m rest), rest)
