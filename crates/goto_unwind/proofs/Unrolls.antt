-- A step that puts a node in front keeps the code that it all comes to.
use Rattle.std.proofs.Common.{◌≡◌, ℕ, zero, suc, ◌+◌, ◌-◌, ◌<◌, Bool, true, false, List, [], ◌∷◌, ◌++◌, take, drop, length, Option, Some, None, refl, sym, ap, ◌∙◌, arith, append_assoc}
use Rattle.std.specs.Prelude.{◌==◌, slice_get, slice_index, if◌then◌else◌}
use Rattle.std.proofs.lemmas.Bool.Decides.{nat_tests}
use Rattle.words.specs.declared.check.Class.TheVariants.{Unwind, Recursion}
use Rattle.goto_prog.specs.declared.code.Operation.{Operation}
use Rattle.goto_prog.specs.declared.code.Operation.TheVariants as operations
use Rattle.goto_prog.specs.declared.code.Instruction.{Instruction}
use Rattle.goto_prog.specs.declared.nodes.Node.{Node}
use Rattle.goto_prog.specs.declared.nodes.Node as nodes
use Rattle.goto_prog.specs.Nodes.{Nodes, done, plain, repeats, Routine, nodes_of, view_nodes, with_node}
use Rattle.goto_prog.specs.Structured.{Bounded, tests, round_count, opened}
use Rattle.goto_prog.specs.Walks.{total}
use Rattle.goto_prog.proofs.WalkerSteps.{set_back, sum_opened}
use Rattle.goto_prog.specs.declared.nodes.Kind.{Kind}
use Rattle.goto_prog.specs.declared.nodes.Kind.TheVariants as kinds
use Rattle.goto_unwind.specs.declared.level.Turn.{Turn}
use Rattle.goto_unwind.specs.declared.level.Turn.TheVariants as turns
use Rattle.goto_unwind.specs.Unrolled.{Space, Site, Piece, Inline, piece, at, jump, passed_code, hand_code, round_codes, instruction_code, nodes_code, inlined, inline_at}
use Rattle.goto_prog.specs.Kinds.{with_kind}
use Rattle.goto_unwind.specs.Unroller.{Level, Making, bounded, placed, taken, with_level, own_marks, front_of, function_level, opens, calls_by, calls, does, loops, puts, closes, followed, inline_of, more_rounds, Ended, level_code, turn_ends, finish, outcome}

-- ---- nodes behind others

module _ (b : Bounded) (inline : Inline) (site : Site) where
  nodes_followed : (ns more : Nodes) (later : List ℕ) (rest : List Instruction) (space : Space)
      → nodes_code b inline site (followed ns more) later rest space ≡ (let behind = nodes_code b inline site more later rest space in nodes_code b inline site ns behind.marks behind.code behind.space)
  nodes_followed done more later rest space = refl
  nodes_followed (plain i ns) more later rest space =
      ap (λ (x : Piece). let now = instruction_code b inline site i x.marks x.code x.space in piece now.code (length now.code ∷ x.marks) now.space) (nodes_followed ns more later rest space)
  nodes_followed (repeats line f l rotated body ns) more later rest space =
      ap (λ (x : Piece).
      let now = round_codes b inline line f (λ again code between. nodes_code b inline site body (again ∷ x.marks) code between) (round_count rotated (tests b f l)) x.code x.space in
      piece now.code (length now.code ∷ x.marks) now.space) (nodes_followed ns more later rest space)

pub nodes_last : (ns : List Node) (n : Node) → nodes_of (ns ++ n ∷ []) ≡ followed (nodes_of ns) (with_node n done)
nodes_last [] n = refl
nodes_last (nodes.Plain i ∷ ns) n = ap (plain i) (nodes_last ns n)
nodes_last (nodes.Loop' line f k rotated shape body ∷ ns) n = ap (repeats line f k rotated (view_nodes body)) (nodes_last ns n)

pub last_is : (ns rest : List Node) (n : Node) (k : Kind) → ns ≡ rest ++ n ∷ [] → ((later : Nodes) → with_node n later ≡ with_kind k later) → nodes_of ns ≡ followed (nodes_of rest) (with_kind k done)
last_is ns rest n k whole same = ap nodes_of whole ∙ nodes_last rest n ∙ ap (followed (nodes_of rest)) (same done)

-- ---- marks

drop_one : (k : ℕ) (x : ℕ) (marks : List ℕ) → drop (k + 1) (x ∷ marks) ≡ drop k marks
drop_one k x marks = ap (λ n. drop n (x ∷ marks)) (by_one k)
  where
    by_one : (n : ℕ) → n + 1 ≡ suc n
    by_one n = omega arith

take_one : (k o x : ℕ) (marks : List ℕ) → take (k + 1 + o) (x ∷ marks) ≡ x ∷ take (k + o) marks
take_one k o x marks = ap (λ n. take n (x ∷ marks)) (by_one k o)
  where
    by_one : (n m : ℕ) → n + 1 + m ≡ suc (n + m)
    by_one n m = omega arith

take_first : (k x : ℕ) (marks : List ℕ) → take (1 + k) (x ∷ marks) ≡ x ∷ take k marks
take_first k x marks = ap (λ n. take n (x ∷ marks)) (by_one k)
  where
    by_one : (n : ℕ) → 1 + n ≡ suc n
    by_one n = omega arith

-- ---- a node in front

module _ (m : Making) (l : Level) (rest : Nodes) where
  abbrev b : Bounded
  b = bounded m

  abbrev inl : Inline
  inl = inline_of b m.left

  abbrev own : List ℕ
  own = own_marks l m.marks

  abbrev after : List ℕ → Piece → Ended
  after marks now = let e = turn_ends b l.turn m.left l.site l.nodes l.arguments (take l.outer marks) now in finish b e.left m.levels (length e.code ∷ marks) e.code e.space

  abbrev with_ahead : Nodes → Level
  with_ahead ns = record l { ahead = ns }

  placing : (node : Nodes) (now : Piece) → nodes_code b inl l.site node own m.code m.space ≡ piece now.code (length now.code ∷ own) now.space
      → finish b m.left (taken l rest ∷ m.levels) (length now.code ∷ m.marks) now.code now.space ≡ finish b m.left (with_ahead (followed rest node) ∷ m.levels) m.marks m.code m.space
  placing node now same =
      ap (λ marks. after marks (nodes_code b inl l.site rest (take (l.marked + 1 + l.outer) (length now.code ∷ m.marks)) now.code now.space)) (drop_one l.marked (length now.code) m.marks)
      ∙ ap (λ marks. after (drop l.marked m.marks) (nodes_code b inl l.site rest marks now.code now.space)) (take_one l.marked l.outer (length now.code) m.marks)
      ∙ sym (ap (λ (x : Piece). after (drop l.marked m.marks) (nodes_code b inl l.site rest x.marks x.code x.space)) same)
      ∙ sym (ap (after (drop l.marked m.marks)) (nodes_followed b inl l.site rest node own m.code m.space))

  placed_same : (i : Instruction) (front : List Instruction) → instruction_code b inl l.site i own m.code m.space ≡ piece (front ++ m.code) [] m.space
      → outcome (placed front (with_level (taken l rest) m)) ≡ outcome (with_level (with_ahead (followed rest (plain i done))) m)
  placed_same i front same =
      placing (plain i done) (piece (front ++ m.code) [] m.space) (ap (λ (x : Piece). piece x.code (length x.code ∷ own) x.space) same)

  -- ---- loops

  module _ (line f : ℕ) (body : Nodes) where
    abbrev round : ℕ → List Instruction → Space → Piece
    round again code space = nodes_code b inl l.site body (again ∷ own) code space

    rounds_same : (n k : ℕ) → (let before = round_codes b inl line f round k m.code m.space in more_rounds round n before.code before.space)
        ≡ (let all = round_codes b inl line f round (n + k) m.code m.space in piece all.code [] all.space)
    rounds_same zero k = ap (λ j. let all = round_codes b inl line f round j m.code m.space in piece all.code [] all.space) (by_none k)
      where
        by_none : (j : ℕ) → j ≡ 0 + j
        by_none j = omega arith
    rounds_same (suc n) k = rounds_same n (suc k) ∙ ap (λ j. let all = round_codes b inl line f round j m.code m.space in piece all.code [] all.space) (by_one n k)
      where
        by_one : (i j : ℕ) → i + suc j ≡ suc i + j
        by_one i j = omega arith

    all_rounds : (n : ℕ) → more_rounds round n (passed_code m.limits.assertions Unwind line f ∷ m.code) m.space ≡ (let all = round_codes b inl line f round n m.code m.space in piece all.code [] all.space)
    all_rounds n = rounds_same n 0 ∙ ap (λ j. let all = round_codes b inl line f round j m.code m.space in piece all.code [] all.space) (by_none n)
      where
        by_none : (i : ℕ) → i + 0 ≡ i
        by_none i = omega arith

    loops_same : (n : ℕ) (rotated : Bool) → outcome (loops l rest line f (round_count rotated (tests b f n)) body m) ≡ outcome (with_level (with_ahead (followed rest (repeats line f n rotated body done))) m)
    loops_same n rotated =
        let k = round_count rotated (tests b f n) in
        let all = round_codes b inl line f round k m.code m.space in
        ap (λ (x : Piece). finish b m.left (taken l rest ∷ m.levels) (length x.code ∷ m.marks) x.code x.space) (all_rounds k)
        ∙ placing (repeats line f n rotated body done) (piece all.code [] all.space) refl

  -- ---- calls

  module _ (line f g first count into r : ℕ) where
    abbrev call : Instruction
    call = at line f (operations.Call g first count into r)

    chosen : {A : Type 0} (t : Bool) (x y : A) → t ≡ true → (if t then x else y) ≡ x
    chosen t x y h = λ j. if h j then x else y

    other : {A : Type 0} (t : Bool) (x y : A) → t ≡ false → (if t then x else y) ≡ y
    other t x y h = λ j. if h j then x else y

    abbrev inside : Inline
    inside = inline_at b (total m.left) (opened m.left g)

    abbrev passing : Piece
    passing = piece (passed_code m.limits.assertions Recursion line f ∷ m.code) [] m.space

    passed_same : (slice_index m.left g == 0) ≡ true → outcome (placed (passed_code m.limits.assertions Recursion line f ∷ []) (with_level (taken l rest) m)) ≡ outcome (with_level (with_ahead (followed rest (plain call done))) m)
    passed_same none = placed_same call (passed_code m.limits.assertions Recursion line f ∷ []) (chosen (slice_index m.left g == 0) passing (inlined b inside (slice_get m.functions g) l.site line f g first count into r m.code m.space) none)

    more_left : (n : ℕ) → (n == 0) ≡ false → 0 < n
    more_left n more = grind (arith, nat_tests)

    opens_same : (p : Routine) → (slice_index m.left g == 0) ≡ false → (inlined_is : instruction_code b inl l.site call own m.code m.space ≡ inlined b inside (Some p) l.site line f g first count into r m.code m.space)
        → outcome (opens l rest line f g first count into r p m) ≡ outcome (with_level (with_ahead (followed rest (plain call done))) m)
    opens_same p more is =
        let inner = function_level l line f g first count into r p m in
        let now = inlined b (inline_of b (opened m.left g)) (Some p) l.site line f g first count into r m.code m.space in
        let fuel : inside ≡ inline_of b (opened m.left g) = ap (λ k. inline_at b k (opened m.left g)) (sum_opened m.left g (more_left (slice_index m.left g) more)) in
        ap (λ left. finish b left (taken l rest ∷ m.levels) (length now.code ∷ m.marks) now.code now.space) (set_back m.left g (slice_index m.left g - 1))
        ∙ placing (plain call done) now (ap (λ (x : Piece). piece x.code (length x.code ∷ own) x.space) (is ∙ ap (λ (x : Inline). inlined b x (Some p) l.site line f g first count into r m.code m.space) fuel))

    calls_by_same : (o : Option Routine) → (slice_index m.left g == 0) ≡ false → instruction_code b inl l.site call own m.code m.space ≡ inlined b inside o l.site line f g first count into r m.code m.space
        → outcome (calls_by o l rest line f g first count into r m) ≡ outcome (with_level (with_ahead (followed rest (plain call done))) m)
    calls_by_same None more is = placed_same call (at line f (operations.Assume 0) ∷ []) is
    calls_by_same (Some p) more is = opens_same p more is

    calls_if_same : (t : Bool) → (slice_index m.left g == 0) ≡ t
        → outcome (if t then placed (passed_code m.limits.assertions Recursion line f ∷ []) (with_level (taken l rest) m) else calls_by (slice_get m.functions g) l rest line f g first count into r m)
        ≡ outcome (with_level (with_ahead (followed rest (plain call done))) m)
    calls_if_same true none = passed_same none
    calls_if_same false more = calls_by_same (slice_get m.functions g) more (other (slice_index m.left g == 0) passing (inlined b inside (slice_get m.functions g) l.site line f g first count into r m.code m.space) more)

    calls_same : outcome (calls l rest line f g first count into r m) ≡ outcome (with_level (with_ahead (followed rest (plain call done))) m)
    calls_same = calls_if_same (slice_index m.left g == 0) refl

  -- ---- all operations

  by_front : (line f : ℕ) (o : Operation) → instruction_code b inl l.site (at line f o) own m.code m.space ≡ piece (front_of m.limits l.site line f o own m.code ++ m.code) [] m.space
      → outcome (placed (front_of m.limits l.site line f o own m.code) (with_level (taken l rest) m)) ≡ outcome (with_level (with_ahead (followed rest (plain (at line f o) done))) m)
  by_front line f o same = placed_same (at line f o) (front_of m.limits l.site line f o own m.code) same

  does_same : (line f : ℕ) (o : Operation) → outcome (does l rest line f o m) ≡ outcome (with_level (with_ahead (followed rest (plain (at line f o) done))) m)
  does_same line f (operations.Constant into bits) = by_front line f (operations.Constant into bits) refl
  does_same line f (operations.Copy into a) = by_front line f (operations.Copy into a) refl
  does_same line f (operations.Load into t block offset) = by_front line f (operations.Load into t block offset) refl
  does_same line f (operations.Store block offset count a) = by_front line f (operations.Store block offset count a) refl
  does_same line f (operations.Clear block size) = by_front line f (operations.Clear block size) refl
  does_same line f (operations.CopyBytes into to from offset count) = by_front line f (operations.CopyBytes into to from offset count) refl
  does_same line f (operations.Convert into from to a) = by_front line f (operations.Convert into from to a) refl
  does_same line f (operations.Sign into op t a) = by_front line f (operations.Sign into op t a) refl
  does_same line f (operations.Arithmetic into op t u x y) = by_front line f (operations.Arithmetic into op t u x y) refl
  does_same line f (operations.Compare into op t x y) = by_front line f (operations.Compare into op t x y) refl
  does_same line f (operations.IsZero into a) = by_front line f (operations.IsZero into a) refl
  does_same line f (operations.Skip n) = by_front line f (operations.Skip n) refl
  does_same line f (operations.SkipIfZero a n) = by_front line f (operations.SkipIfZero a n) refl
  does_same line f (operations.Check c) = by_front line f (operations.Check c) refl
  does_same line f (operations.Assert a) = by_front line f (operations.Assert a) refl
  does_same line f (operations.Assume a) = by_front line f (operations.Assume a) refl
  does_same line f (operations.Draw into bits) = by_front line f (operations.Draw into bits) refl
  does_same line f (operations.ReadObject block to k offset count) = by_front line f (operations.ReadObject block to k offset count) refl
  does_same line f (operations.WriteObject k offset block from count) = by_front line f (operations.WriteObject k offset block from count) refl
  does_same line f operations.Exit = by_front line f operations.Exit refl
  does_same line f (operations.Fail class) = by_front line f (operations.Fail class) refl
  does_same line f (operations.Use a) = by_front line f (operations.Use a) refl
  does_same line f (operations.Move into p i t n size class) = by_front line f (operations.Move into p i t n size class) refl
  does_same line f (operations.Offset into p count) = by_front line f (operations.Offset into p count) refl
  does_same line f (operations.Same p q) = by_front line f (operations.Same p q) refl
  does_same line f (operations.Distance into p q n) = by_front line f (operations.Distance into p q n) refl
  does_same line f (operations.Relate into op p q) = by_front line f (operations.Relate into op p q) refl
  does_same line f (operations.Take block to p q count whole) = by_front line f (operations.Take block to p q count whole) refl
  does_same line f (operations.Put block p from to count whole) = by_front line f (operations.Put block p from to count whole) refl
  does_same line f (operations.Read block to p count) = by_front line f (operations.Read block to p count) refl
  does_same line f (operations.Write p block from count first) = by_front line f (operations.Write p block from count first) refl
  does_same line f (operations.Look into p subscript) = by_front line f (operations.Look into p subscript) refl
  does_same line f (operations.Fill block count) = by_front line f (operations.Fill block count) refl
  does_same line f (operations.Alloc into block size readonly heap) = by_front line f (operations.Alloc into block size readonly heap) refl
  does_same line f (operations.Die p) = by_front line f (operations.Die p) refl
  does_same line f (operations.Free p) = by_front line f (operations.Free p) refl
  does_same line f (operations.MayFail into) = by_front line f (operations.MayFail into) refl
  does_same line f (operations.Limit x y) = by_front line f (operations.Limit x y) refl
  does_same line f (operations.Call g first count into r) = calls_same line f g first count into r
  does_same line f (operations.Return v) =
      let skip = at line f (operations.Skip (jump m.code l.site.back)) in
      placed_same (at line f (operations.Return v)) (hand_code l.site line f v ++ skip ∷ []) (ap (λ code. piece code [] m.space) (sym (append_assoc (hand_code l.site line f v) (skip ∷ []) m.code)))

  kind_same : (k : Kind) → outcome (puts k l rest m) ≡ outcome (with_level (with_ahead (followed rest (with_kind k done))) m)
  kind_same (kinds.Plain i) = does_same i.line i.function i.operation
  kind_same (kinds.Loop line f n rotated body) = loops_same line f (nodes_of body.now) n rotated

pub put_same : (m new : Making) (l : Level) (rest : Nodes) (k : Kind) → l.ahead ≡ followed rest (with_kind k done) → new ≡ puts k l rest m → outcome new ≡ outcome (with_level l m)
put_same m new l rest k is same = ap outcome same ∙ kind_same m l rest k ∙ sym (ap (λ ns. outcome (with_level (record l { ahead = ns }) m)) is)

-- ---- the end of a level

module _ (m : Making) (l : Level) where
  abbrev closed : Turn → Level
  closed t = record l { ahead = done; turn = t }

  turn_same : (t : Turn) → outcome (closes t l m) ≡ outcome (with_level (closed t) m)
  turn_same (turns.Rounds zero) = refl
  turn_same (turns.Rounds (suc n)) =
      let b = bounded m in
      let marks = drop l.marked m.marks in
      let round = λ (again : ℕ) (code : List Instruction) (space : Space). level_code b m.left l.site l.nodes (again ∷ take l.outer marks) code space in
      ap (λ later.
      let now = level_code b m.left l.site l.nodes later m.code m.space in
      let all = more_rounds round n now.code now.space in
      finish b m.left m.levels (length all.code ∷ marks) all.code all.space) (take_first l.outer (length m.code) marks)
  turn_same (turns.Body line f from count g k) = refl

pub close_same : (m new : Making) (l : Level) → l.ahead ≡ done → new ≡ closes l.turn l m → outcome new ≡ outcome (with_level l m)
close_same m new l is same = ap outcome same ∙ turn_same m l l.turn ∙ sym (ap (λ ns. outcome (with_level (record l { ahead = ns }) m)) is)
