-- A step that puts a node in front leaves fewer steps.
use Rattle.std.proofs.Common.{◌≡◌, ℕ, zero, suc, ◌+◌, ◌*◌, ◌-◌, ◌<◌, Bool, true, false, List, [], ◌∷◌, Option, Some, None, refl, sym, ap, ◌∙◌, subst, arith}
use Rattle.std.specs.Prelude.{◌==◌, slice_get, slice_index, slice_set, if◌then◌else◌}
use Rattle.std.proofs.lemmas.Bool.Decides.{nat_tests}
use Rattle.words.specs.declared.check.Class.TheVariants.{Recursion}
use Rattle.goto_prog.specs.declared.code.Operation.{Operation}
use Rattle.goto_prog.specs.declared.code.Operation.TheVariants as operations
use Rattle.goto_prog.specs.declared.code.Instruction.{Instruction}
use Rattle.goto_prog.specs.Nodes.{Nodes, done, plain, repeats, Routine, nodes_of}
use Rattle.goto_prog.specs.Structured.{Bounded, tests, round_count, opened}
use Rattle.goto_prog.specs.Walks.{total}
use Rattle.goto_prog.proofs.WalkerSteps.{set_back, sum_opened}
use Rattle.goto_prog.specs.declared.nodes.Kind.{Kind}
use Rattle.goto_prog.specs.declared.nodes.Kind.TheVariants as kinds
use Rattle.goto_unwind.specs.declared.level.Turn.{Turn}
use Rattle.goto_unwind.specs.declared.level.Turn.TheVariants as turns
use Rattle.goto_unwind.specs.Unrolled.{at, passed_code}
use Rattle.goto_prog.specs.Kinds.{with_kind}
use Rattle.goto_unwind.specs.Unroller.{Level, Making, bounded, placed, taken, with_level, own_marks, front_of, opens, calls_by, calls, does, loops, puts, closes, followed, nodes_weight, turn_weight, routine_weight, call_weight, calls_weight, left_after, levels_weight, weight}

module _ (b : Bounded) (w : ℕ → ℕ) where
  followed_weight : (ns more : Nodes) → nodes_weight b w (followed ns more) ≡ nodes_weight b w ns + nodes_weight b w more
  followed_weight done more = by_none (nodes_weight b w more)
    where
      by_none : (n : ℕ) → n ≡ 0 + n
      by_none n = omega arith
  followed_weight (plain i ns) more = omega (arith, followed_weight ns more)
  followed_weight (repeats line f n rotated body ns) more =
      by_parts (2 + round_count rotated (tests b f n) * (1 + nodes_weight b w body)) (nodes_weight b w ns) (nodes_weight b w more) (nodes_weight b w (followed ns more)) (followed_weight ns more)
    where
      by_parts : (a x y z : ℕ) → z ≡ x + y → a + z ≡ a + x + y
      by_parts a x y z is = omega (arith, is)

module _ (m : Making) (l : Level) (rest : Nodes) where
  abbrev b : Bounded
  b = bounded m

  abbrev w : ℕ → ℕ
  w = calls_weight b m.left

  -- what the level and those around it take, but for the nodes that are ahead
  abbrev others : ℕ
  others = turn_weight b w l.turn l.nodes + levels_weight b (left_after l.turn m.left) m.levels

  abbrev ahead : Nodes → Making
  ahead ns = with_level (record l { ahead = ns }) m

  taken_weight : levels_weight b m.left (taken l rest ∷ m.levels) ≡ 1 + (nodes_weight b w rest + others)
  taken_weight = by_parts (nodes_weight b w rest) (turn_weight b w l.turn l.nodes) (levels_weight b (left_after l.turn m.left) m.levels)
    where
      by_parts : (x y z : ℕ) → 1 + (x + y) + z ≡ 1 + (x + (y + z))
      by_parts x y z = omega arith

  ahead_weight : (node : Nodes) → weight (ahead (followed rest node)) ≡ 1 + (nodes_weight b w rest + nodes_weight b w node + others)
  ahead_weight node = by_parts (nodes_weight b w (followed rest node)) (nodes_weight b w rest) (nodes_weight b w node) (turn_weight b w l.turn l.nodes) (levels_weight b (left_after l.turn m.left) m.levels) (followed_weight b w rest node)
    where
      by_parts : (f x n y z : ℕ) → f ≡ x + n → 1 + (f + y) + z ≡ 1 + (x + n + (y + z))
      by_parts f x n y z is = omega (arith, is)

  -- a step that leaves the level with the rest, and so much more
  lighter : (node : Nodes) (more now : ℕ) → now ≡ more + levels_weight b m.left (taken l rest ∷ m.levels) → more < nodes_weight b w node → now < weight (ahead (followed rest node))
  lighter node more now is less = by_parts more (levels_weight b m.left (taken l rest ∷ m.levels)) (nodes_weight b w rest) others (nodes_weight b w node) now (weight (ahead (followed rest node))) is less taken_weight (ahead_weight node)
    where
      by_parts : (k t r o n x y : ℕ) → x ≡ k + t → k < n → t ≡ 1 + (r + o) → y ≡ 1 + (r + n + o) → x < y
      by_parts k t r o n x y one two three four = omega (arith, one, two, three, four)

  none_more : (t : ℕ) → t ≡ 0 + t
  none_more t = omega arith

  -- ---- loops

  loops_lighter : (line f n : ℕ) (rotated : Bool) (body : Nodes) → weight (loops l rest line f (round_count rotated (tests b f n)) body m) < weight (ahead (followed rest (repeats line f n rotated body done)))
  loops_lighter line f n rotated body =
      let rounds = round_count rotated (tests b f n) * (1 + nodes_weight b w body) in
      lighter (repeats line f n rotated body done) (1 + (0 + rounds)) (weight (loops l rest line f (round_count rotated (tests b f n)) body m)) refl (by_parts rounds)
    where
      by_parts : (r : ℕ) → 1 + (0 + r) < 2 + r + 0
      by_parts r = omega arith

  -- ---- calls

  module _ (line f g first count into r : ℕ) where
    abbrev call : Nodes
    call = plain (at line f (operations.Call g first count into r)) done

    placed_lighter : (front : List Instruction) (o : Operation) → 0 < nodes_weight b w (plain (at line f o) done) → weight (placed front (with_level (taken l rest) m)) < weight (ahead (followed rest (plain (at line f o) done)))
    placed_lighter front o some = lighter (plain (at line f o) done) 0 (weight (placed front (with_level (taken l rest) m))) (none_more (levels_weight b m.left (taken l rest ∷ m.levels))) some

    some_weight : 0 < 1 + w g + 0
    some_weight = by_parts (w g)
      where
        by_parts : (x : ℕ) → 0 < 1 + x + 0
        by_parts x = omega arith

    other : (t : Bool) (x y : ℕ) → t ≡ false → (if t then x else y) ≡ y
    other t x y h = λ j. if h j then x else y

    more_left : (n : ℕ) → (n == 0) ≡ false → 0 < n
    more_left n more = grind (arith, nat_tests)

    opens_lighter : (p : Routine) → (slice_index m.left g == 0) ≡ false → slice_get m.functions g ≡ Some p → weight (opens l rest line f g first count into r p m) < weight (ahead (followed rest call))
    opens_lighter p more found =
        let inside = calls_weight b (opened m.left g) in
        let body = 1 + (nodes_weight b inside p.nodes + 0) in
        let weighs : w g ≡ 1 + nodes_weight b inside p.nodes =
        other (slice_index m.left g == 0) 0 (routine_weight b (call_weight b (total m.left) (opened m.left g)) (slice_get m.functions g)) more
        ∙ ap (λ k. routine_weight b (call_weight b k (opened m.left g)) (slice_get m.functions g)) (sum_opened m.left g (more_left (slice_index m.left g) more))
        ∙ ap (routine_weight b inside) found in
        lighter call body (weight (opens l rest line f g first count into r p m))
        (ap (λ left. body + levels_weight b left (taken l rest ∷ m.levels)) (set_back m.left g (slice_index m.left g - 1)))
        (by_parts (nodes_weight b inside p.nodes) (w g) weighs)
      where
        by_parts : (x y : ℕ) → y ≡ 1 + x → 1 + (x + 0) < 1 + y + 0
        by_parts x y is = omega (arith, is)

    calls_by_lighter : (o : Option Routine) → (slice_index m.left g == 0) ≡ false → slice_get m.functions g ≡ o → weight (calls_by o l rest line f g first count into r m) < weight (ahead (followed rest call))
    calls_by_lighter None more found = placed_lighter (at line f (operations.Assume 0) ∷ []) (operations.Call g first count into r) some_weight
    calls_by_lighter (Some p) more found = opens_lighter p more found

    calls_if_lighter : (t : Bool) → (slice_index m.left g == 0) ≡ t
        → weight (if t then placed (passed_code m.limits.assertions Recursion line f ∷ []) (with_level (taken l rest) m) else calls_by (slice_get m.functions g) l rest line f g first count into r m) < weight (ahead (followed rest call))
    calls_if_lighter true none = placed_lighter (passed_code m.limits.assertions Recursion line f ∷ []) (operations.Call g first count into r) some_weight
    calls_if_lighter false more = calls_by_lighter (slice_get m.functions g) more refl

    calls_lighter : weight (calls l rest line f g first count into r m) < weight (ahead (followed rest call))
    calls_lighter = calls_if_lighter (slice_index m.left g == 0) refl

  -- ---- all operations

  one : 0 < 1 + 0
  one = omega arith

  by_front : (line f : ℕ) (o : Operation) → 0 < nodes_weight b w (plain (at line f o) done)
      → weight (placed (front_of m.limits l.site line f o (own_marks l m.marks) m.code) (with_level (taken l rest) m)) < weight (ahead (followed rest (plain (at line f o) done)))
  by_front line f o some = placed_lighter line f 0 0 0 0 0 (front_of m.limits l.site line f o (own_marks l m.marks) m.code) o some

  does_lighter : (line f : ℕ) (o : Operation) → weight (does l rest line f o m) < weight (ahead (followed rest (plain (at line f o) done)))
  does_lighter line f (operations.Constant into bits) = by_front line f (operations.Constant into bits) one
  does_lighter line f (operations.Copy into a) = by_front line f (operations.Copy into a) one
  does_lighter line f (operations.Load into t block offset) = by_front line f (operations.Load into t block offset) one
  does_lighter line f (operations.Store block offset count a) = by_front line f (operations.Store block offset count a) one
  does_lighter line f (operations.Clear block size) = by_front line f (operations.Clear block size) one
  does_lighter line f (operations.CopyBytes into to from offset count) = by_front line f (operations.CopyBytes into to from offset count) one
  does_lighter line f (operations.Convert into from to a) = by_front line f (operations.Convert into from to a) one
  does_lighter line f (operations.Sign into op t a) = by_front line f (operations.Sign into op t a) one
  does_lighter line f (operations.Arithmetic into op t u x y) = by_front line f (operations.Arithmetic into op t u x y) one
  does_lighter line f (operations.Compare into op t x y) = by_front line f (operations.Compare into op t x y) one
  does_lighter line f (operations.IsZero into a) = by_front line f (operations.IsZero into a) one
  does_lighter line f (operations.Skip n) = by_front line f (operations.Skip n) one
  does_lighter line f (operations.SkipIfZero a n) = by_front line f (operations.SkipIfZero a n) one
  does_lighter line f (operations.Check c) = by_front line f (operations.Check c) one
  does_lighter line f (operations.Assert a) = by_front line f (operations.Assert a) one
  does_lighter line f (operations.Assume a) = by_front line f (operations.Assume a) one
  does_lighter line f (operations.Draw into bits) = by_front line f (operations.Draw into bits) one
  does_lighter line f (operations.ReadObject block to k offset count) = by_front line f (operations.ReadObject block to k offset count) one
  does_lighter line f (operations.WriteObject k offset block from count) = by_front line f (operations.WriteObject k offset block from count) one
  does_lighter line f operations.Exit = by_front line f operations.Exit one
  does_lighter line f (operations.Fail class) = by_front line f (operations.Fail class) one
  does_lighter line f (operations.Use a) = by_front line f (operations.Use a) one
  does_lighter line f (operations.Move into p i t n size class) = by_front line f (operations.Move into p i t n size class) one
  does_lighter line f (operations.Offset into p count) = by_front line f (operations.Offset into p count) one
  does_lighter line f (operations.Same p q) = by_front line f (operations.Same p q) one
  does_lighter line f (operations.Distance into p q n) = by_front line f (operations.Distance into p q n) one
  does_lighter line f (operations.Relate into op p q) = by_front line f (operations.Relate into op p q) one
  does_lighter line f (operations.Take block to p q count whole) = by_front line f (operations.Take block to p q count whole) one
  does_lighter line f (operations.Put block p from to count whole) = by_front line f (operations.Put block p from to count whole) one
  does_lighter line f (operations.Read block to p count) = by_front line f (operations.Read block to p count) one
  does_lighter line f (operations.Write p block from count first) = by_front line f (operations.Write p block from count first) one
  does_lighter line f (operations.Look into p subscript) = by_front line f (operations.Look into p subscript) one
  does_lighter line f (operations.Fill block count) = by_front line f (operations.Fill block count) one
  does_lighter line f (operations.Alloc into block size readonly heap) = by_front line f (operations.Alloc into block size readonly heap) one
  does_lighter line f (operations.Die p) = by_front line f (operations.Die p) one
  does_lighter line f (operations.Free p) = by_front line f (operations.Free p) one
  does_lighter line f (operations.MayFail into) = by_front line f (operations.MayFail into) one
  does_lighter line f (operations.Limit x y) = by_front line f (operations.Limit x y) one
  does_lighter line f (operations.Call g first count into r) = calls_lighter line f g first count into r
  does_lighter line f (operations.Return v) = by_front line f (operations.Return v) one

  kind_lighter : (k : Kind) → weight (puts k l rest m) < weight (ahead (followed rest (with_kind k done)))
  kind_lighter (kinds.Plain i) = does_lighter i.line i.function i.operation
  kind_lighter (kinds.Loop line f n rotated body) = loops_lighter line f n rotated (nodes_of body.now)

pub put_lighter : (m new : Making) (l : Level) (rest : Nodes) (k : Kind) → l.ahead ≡ followed rest (with_kind k done) → new ≡ puts k l rest m → weight new < weight (with_level l m)
put_lighter m new l rest k is same =
    subst (λ x. weight x < weight (with_level l m)) (sym same) (subst (λ ns. weight (puts k l rest m) < weight (with_level (record l { ahead = ns }) m)) (sym is) (kind_lighter m l rest k))

-- ---- the end of a level

turn_lighter : (m : Making) (l : Level) (t : Turn) → weight (closes t l m) < weight (with_level (record l { ahead = done; turn = t }) m)
turn_lighter m l (turns.Rounds zero) = by_parts (nodes_weight (bounded m) (calls_weight (bounded m) m.left) l.nodes) (weight m)
  where
    by_parts : (x z : ℕ) → z < 1 + (0 + 0 * (1 + x)) + z
    by_parts x z = omega arith
turn_lighter m l (turns.Rounds (suc n)) = by_parts n (nodes_weight (bounded m) (calls_weight (bounded m) m.left) l.nodes) (weight m)
  where
    by_parts : (k x z : ℕ) → 1 + (x + k * (1 + x)) + z < 1 + (0 + suc k * (1 + x)) + z
    by_parts k x z = omega arith
turn_lighter m l (turns.Body line f from count g k) = by_parts (levels_weight (bounded m) (slice_set m.left g k) m.levels)
  where
    by_parts : (z : ℕ) → z < 1 + (0 + 0) + z
    by_parts z = omega arith

pub close_lighter : (m new : Making) (l : Level) → l.ahead ≡ done → new ≡ closes l.turn l m → weight new < weight (with_level l m)
close_lighter m new l is same =
    subst (λ x. weight x < weight (with_level l m)) (sym same) (subst (λ ns. weight (closes l.turn l m) < weight (with_level (record l { ahead = ns }) m)) (sym is) (turn_lighter m l l.turn))
