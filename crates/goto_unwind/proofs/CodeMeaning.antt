-- The unrolled code of a function does what its nodes do, if what stands for its calls does what the calls do.
use Rattle.std.proofs.Common.{◌≡◌, ℕ, zero, suc, ◌+◌, ◌<◌, ◌≤◌, Bool, true, false, take, drop, List, [], ◌∷◌, ◌++◌, length, Option, Some, None, refl, sym, ap, ◌∙◌, arith}
use Rattle.std.specs.Prelude.{◌-◌, ◌*◌, ◌==◌, min, nat_lt, nat_le, slice_index, if◌then◌else◌}
use Rattle.std.proofs.lemmas.Bool.{false≢true}
use Rattle.std.proofs.lemmas.Bool.Decides.{nat_tests}
use Rattle.words.specs.declared.check.Class.{Class}
use Rattle.words.specs.declared.check.Class.TheVariants as classes
use Rattle.words.specs.declared.check.Class.TheVariants.{Unwind}
use Rattle.c_types.specs.declared.integers.IntegerType.{IntegerType}
use Rattle.core_tree.specs.Ranges.{Limits}
use Rattle.std.specs.Int.{to_le_bytes, w64}
use Rattle.c_values.specs.Variables.{pointer_to, low_bytes, put_bytes, word_count, drawn_count}
use Rattle.c_values.specs.MadeObjects.{made_of}
use Rattle.goto_prog.specs.declared.code.Condition.TheVariants as checks
use Rattle.actions.specs.declared.action.Action.{Action}
use Rattle.actions.specs.declared.action.Action.TheVariants.{Read, Write, Look, Draw, Alloc, Die, Free}
use Rattle.actions.specs.Pointer.{object_of}
use Rattle.actions.specs.declared.action.Answer.{Answer}
use Rattle.actions.specs.declared.action.Answer.TheVariants as answers
use Rattle.actions.specs.declared.action.Next.{Next}
use Rattle.actions.specs.declared.action.Next.TheVariants.{Blocked, Broken}
use Rattle.actions.specs.Behaviour.{Behaviour, shape_of, has_shape}
use Rattle.goto_prog.specs.declared.code.Operation.{Operation}
use Rattle.goto_prog.specs.declared.code.Operation.TheVariants as operations
use Rattle.goto_prog.specs.declared.code.Instruction.{Instruction}
use Rattle.goto_prog.specs.Fitting.{operation_fits, is_some_block}
use Rattle.goto_prog.specs.Meaning.{Memory, Given, Reading, register, with_register, with_blocks, bytes_of, calculated, check_class, return_check, operates, or_else, first_count, first_bytes, fills, word_of, bytes_in, size_in, number_in, arguments_of, received, given_by}
use Rattle.goto_prog.specs.Meaning as flat_meaning
use Rattle.goto_prog.specs.Threads.{Calls, acting, behaving, final, ask}
use Rattle.goto_prog.specs.Nodes.{Nodes, done, plain, repeats, node_count, nodes_fit, Routine}
use Rattle.goto_prog.specs.Structured.{Bounded, resolved, tests, round_count, rounds, passed, nodes_before}
use Rattle.goto_unwind.specs.Unrolled.{Space, Site, Piece, at, jump, renumbered, passed_code, hand_code, Inline, round_codes, instruction_code, nodes_code}
use Rattle.goto_unwind.proofs.Frames.{left_of, right_of, test_less, test_most, Shows, Elsewhere, sets_register, puts, short, block_size, calculates, checks_same, on, begin, from_end, InFront, from_end_front, from_end_begin, front_length, then_front, Below, Good, Grows, good_before, good_does}
use Rattle.goto_unwind.proofs.Growth.{Extends, then_space, register_room, block_room, Within, within_less, Grown, InlineGrows, operation_grows, rounds_grow, nodes_grow}

pub grows : (s t : Space) → Extends s t → (all : List ℕ) (types : List IntegerType) (sizes : List ℕ) (r0 b0 : ℕ) (Holds : Memory → Type 0) → Grows all types sizes r0 b0 Holds s t
grows s t e all types sizes r0 b0 Holds = record { registers = register_room s t e; blocks = block_room s t e }

-- ---- actions and checks

ask_at : (action : Action) (line f : ℕ) (x y : Answer → Behaviour) → ((a : Answer) → has_shape (shape_of action) a ≡ true → x a ≡ y a) → (given : List Answer) → ask action line f x given ≡ ask action line f y given
ask_at action line f x y same [] = refl
ask_at action line f x y same (a ∷ given) = by_shape (has_shape (shape_of action) a) (x a given) (y a given) (λ h. ap (λ (b : Behaviour). b given) (same a h))
  where
    by_shape : (b : Bool) (x y : Next) → (b ≡ true → x ≡ y) → (if b then x else Blocked) ≡ (if b then y else Blocked)
    by_shape true x y h = h refl
    by_shape false x y h = refl

pub same_ask : (action : Action) (line f : ℕ) (x y : Answer → Behaviour) → ((a : Answer) → has_shape (shape_of action) a ≡ true → x a ≡ y a) → ask action line f x ≡ ask action line f y
same_ask action line f x y same = λ i given. ask_at action line f x y same given i

read_size : (p n : ℕ) (a : Answer) → has_shape (shape_of (Read p n)) a ≡ true → length (bytes_in a) ≡ n
read_size p n (answers.Bytes bs) h = equal (length bs) n (left_of (length bs == n) _ h)
  where
    equal : (a b : ℕ) → (a == b) ≡ true → a ≡ b
    equal a b h = grind (arith, nat_tests)
read_size p n answers.Done h = absurd (false≢true h)
read_size p n (answers.Size s) h = absurd (false≢true h)
read_size p n (answers.Word w) h = absurd (false≢true h)
read_size p n (answers.Number k) h = absurd (false≢true h)
read_size p n (answers.Value v) h = absurd (false≢true h)

-- passing a bound
pub passing : (assertions : Bool) (class : Class) (line f : ℕ) (code : List Instruction) (m : Memory) → register m 0 ≡ 0 → begin (passed_code assertions class line f ∷ code) m ≡ passed assertions class line f
passing true class line f code m zero_there = refl
passing false class line f code m zero_there = λ i. if zero_there i == 0 then final Blocked else flat_meaning.at behaving (on code) 0 m

-- ---- an activation: its site, what holds of the memory elsewhere, and over what code and space its own begins

module _ (all : List ℕ) (site : Site) (Holds : Memory → Type 0) (kept : (m m' : Memory) → Below site.register site.block m m' → Holds m → Holds m') (some : 1 ≤ site.register)
    (calls : Calls) (hand : Given → Behaviour) (inline : Inline) (functions : List Routine) (limits : Limits) where
  abbrev b : Bounded
  b = record { strict = false; functions = functions; limits = limits }

  abbrev o : Reading Behaviour
  o = acting calls hand

  abbrev types : List IntegerType
  types = site.routine.registers

  abbrev sizes : List ℕ
  sizes = site.routine.blocks

  abbrev G : Space → Memory → Memory → Type 0
  G s m sm = Good all types sizes site.register site.block Holds s m sm

  earlier : (s t : Space) (m sm : Memory) → Extends s t → G t m sm → G s m sm
  earlier s t m sm e good = good_before all types sizes site.register site.block Holds s t m sm (grows s t e all types sizes site.register site.block Holds) good

  does : (s : Space) (m m' sm sm' : Memory) → G s m sm → Shows types sizes site.register site.block m' sm' × Elsewhere types sizes site.register site.block m m' → G s m' sm'
  does s m m' sm sm' good did = good_does all types sizes site.register site.block Holds kept some s m m' sm sm' good did

  -- the place behind which so many lie does this
  abbrev pub Leads : List Instruction → Space → ℕ → (Memory → Behaviour) → Type 0
  Leads code s w p = (w ≤ length code) × ((m sm : Memory) → G s m sm → from_end code w m ≡ p sm)

  abbrev pub LeadAll : List Instruction → Space → List ℕ → List (Memory → Behaviour) → Type 0
  LeadAll code s [] [] = Unit {0}
  LeadAll code s [] (p ∷ ps) = ⊥
  LeadAll code s (w ∷ ws) [] = ⊥
  LeadAll code s (w ∷ ws) (p ∷ ps) = Leads code s w p × LeadAll code s ws ps

  pub lead_more : (code more : List Instruction) (s t : Space) → InFront more code → Extends s t → (ws : List ℕ) (ps : List (Memory → Behaviour)) → LeadAll code s ws ps → LeadAll more t ws ps
  lead_more code more s t front e [] [] leads = tt
  lead_more code more s t front e [] (p ∷ ps) leads = absurd leads
  lead_more code more s t front e (w ∷ ws) [] leads = absurd leads
  lead_more code more s t front e (w ∷ ws) (p ∷ ps) leads =
      let within = leads.0.0 in (
        (omega (arith, within, front_length more code front), λ m sm good. from_end_front more code w m front within ∙ leads.0.1 m sm (earlier s t m sm e good)),
        lead_more code more s t front e ws ps leads.1,
      )

  pub jumps : (code : List Instruction) (s : Space) (ws : List ℕ) (ps : List (Memory → Behaviour)) (n : ℕ) (m sm : Memory) → LeadAll code s ws ps → n < length ps → G s m sm
      → from_end code (slice_index ws n) m ≡ flat_meaning.at o ps n sm
  jumps code s [] [] n m sm leads less good = absurd (omega (arith, less))
  jumps code s [] (p ∷ ps) n m sm leads less good = absurd leads
  jumps code s (w ∷ ws) [] n m sm leads less good = absurd leads
  jumps code s (w ∷ ws) (p ∷ ps) zero m sm leads less good = leads.0.1 m sm good
  jumps code s (w ∷ ws) (p ∷ ps) (suc n) m sm leads less good = jumps code s ws ps n m sm leads.1 (omega (arith, less)) good

  -- the first mark is the place in front of all code
  abbrev pub FirstIs : List Instruction → List ℕ → Type 0
  FirstIs code ws = slice_index ws 0 ≡ length code

  pub goes : (code : List Instruction) (s : Space) (ws : List ℕ) (ps : List (Memory → Behaviour)) (m sm : Memory) → LeadAll code s ws ps → FirstIs code ws → 1 ≤ length ps → G s m sm
      → begin code m ≡ flat_meaning.at o ps 0 sm
  goes code s ws ps m sm leads first some_place good =
      sym (from_end_begin code m) ∙ (λ i. from_end code (sym first i) m) ∙ jumps code s ws ps 0 m sm leads (omega (arith, some_place)) good

  -- where the function hands over in front of this code
  abbrev pub Hands : List Instruction → Space → Type 0
  Hands rest0 s0 =
      (line f : ℕ) (v : Option ℕ) (code : List Instruction) → InFront code rest0 → is_some_block sizes v ≡ true → (m sm : Memory) → G s0 m sm
      → begin (hand_code site line f v ++ at line f (operations.Skip (jump code site.back)) ∷ code) m ≡ hand (given_by sm v)

  -- what stands for a call does what the call does
  abbrev pub Inlines : Space → Type 0
  Inlines s0 =
      (line f g first count into r : ℕ) (code : List Instruction) (s : Space) (sm : Memory) (follows : Given → Behaviour)
      → first + count ≤ length sizes → into < length sizes → r < length types → Extends s0 s
      → Within all (inline site line f g first count into r code s).space
      → ((given : Given) (m : Memory) → G s m (received sm into r given) → begin code m ≡ follows given)
      → (m : Memory) → G (inline site line f g first count into r code s).space m sm
      → begin (inline site line f g first count into r code s).code m ≡ calls f g line (arguments_of sm.blocks first count) follows

  or_else_same : (x y : Option Class) (line f : ℕ) (n n' : Behaviour) → x ≡ y → n ≡ n' → or_else behaving x line f n ≡ or_else o y line f n'
  or_else_same x y line f n n' same next = (λ i. or_else behaving (same i) line f (next i)) ∙ one y
    where
      one : (z : Option Class) → or_else behaving z line f n' ≡ or_else o z line f n'
      one None = refl
      one (Some c) = refl

  -- ---- an instruction

  module _ (rest0 : List Instruction) (s0 : Space) (hands : Hands rest0 s0) (inlines : Inlines s0) where
    module _ (code : List Instruction) (s : Space) (ws : List ℕ) (ps : List (Memory → Behaviour)) (behind : ℕ) (leads : LeadAll code s ws ps) (first : FirstIs code ws) (count_is : length ps ≡ behind + 1)
        (front : InFront code rest0) (from : Extends s0 s) (line f : ℕ) where
      go : (m sm : Memory) → G s m sm → begin code m ≡ flat_meaning.at o ps 0 sm
      go m sm good = goes code s ws ps m sm leads first (omega (arith, count_is)) good

      jumped : (n : ℕ) (m sm : Memory) → nat_le n behind ≡ true → G s m sm → flat_meaning.at behaving (on code) (jump code (slice_index ws n)) m ≡ flat_meaning.at o ps n sm
      jumped n m sm fits good = let most = test_most n behind fits in jumps code s ws ps n m sm leads (omega (arith, most, count_is)) good

      calc : (op : Operation) → operation_fits types sizes behind op ≡ true → (m sm : Memory) → G s m sm
          → begin code (calculated (renumbered site.register site.block op) m) ≡ flat_meaning.at o ps 0 (calculated op sm)
      calc op fits m sm good = go _ _ (does s m _ sm _ good (calculates types sizes site.register site.block behind op fits m sm good.shows))

      operand_same : (a : ℕ) → nat_lt a (length types) ≡ true → (m sm : Memory) → G s m sm → register m (site.register + a) ≡ register sm a
      operand_same a fits m sm good = good.shows.registers a (test_less a (length types) fits)

      abbrev Meant : Operation → Memory → Memory → Type 0
      Meant op m sm = begin (instruction_code b inline site (at line f op) ws code s).code m ≡ operates o false 0 line f (resolved limits op) ps sm

      sets : (r x : ℕ) (m sm : Memory) → r < length types → G s m sm → begin code (with_register m (site.register + r) x) ≡ flat_meaning.at o ps 0 (with_register sm r x)
      sets r x m sm there good = go _ _ (does s m _ sm _ good (sets_register types sizes site.register site.block r x m sm there good.shows))

      -- an allocation may fail, or it doesn't
      fails_does : (may_fail : Bool) (r : ℕ) (m sm : Memory) → r < length types → G s m sm
          → operates behaving false 0 line f (renumbered site.register site.block (if may_fail then operations.Draw r 1 else operations.Constant r 0)) (on code) m
          ≡ operates o false 0 line f (if may_fail then operations.Draw r 1 else operations.Constant r 0) ps sm
      fails_does true r m sm there good = same_ask (Draw 1) line f _ _ (λ a h. sets r (word_of a) m sm there good)
      fails_does false r m sm there good = sets r 0 m sm there good

      -- words that are drawn into a block
      fills_does : (words size offset v : ℕ) (m sm : Memory) → v < length sizes → size ≤ slice_index sizes v → offset + 8 * words ≤ size + 7 → G s m sm
          → fills behaving words 0 line f (site.block + v) size offset (on code) m ≡ fills o words 0 line f v size offset ps sm
      fills_does zero size offset v m sm there most within good = go m sm good
      fills_does (suc k) size offset v m sm there most within good =
          let count = drawn_count size offset in
          same_ask (Draw (8 * count)) line f _ _ (λ a h.
          let new = low_bytes count (word_of a) in
          let room : offset + length new ≤ slice_index sizes v = omega (arith, most, within, short types sizes site.register site.block count (to_le_bytes w64 (word_of a))) in
          fills_does k size (offset + 8) v _ _ there most (omega (arith, within)) (does s m _ sm _ good (puts types sizes site.register site.block v offset new new m sm there room good.shows refl)))

      pub instruction_does : (op : Operation) → operation_fits types sizes behind op ≡ true → Within all (instruction_code b inline site (at line f op) ws code s).space
          → (m sm : Memory) → G (instruction_code b inline site (at line f op) ws code s).space m sm → Meant op m sm
      instruction_does (operations.Constant r bits) fits inside m sm good = calc (operations.Constant r bits) fits m sm good
      instruction_does (operations.Copy r a) fits inside m sm good = calc (operations.Copy r a) fits m sm good
      instruction_does (operations.Load r t v offset) fits inside m sm good = calc (operations.Load r t v offset) fits m sm good
      instruction_does (operations.Store v offset count a) fits inside m sm good = calc (operations.Store v offset count a) fits m sm good
      instruction_does (operations.Clear v size) fits inside m sm good = calc (operations.Clear v size) fits m sm good
      instruction_does (operations.CopyBytes into to source offset count) fits inside m sm good = calc (operations.CopyBytes into to source offset count) fits m sm good
      instruction_does (operations.Convert r t u a) fits inside m sm good = calc (operations.Convert r t u a) fits m sm good
      instruction_does (operations.Sign r op t a) fits inside m sm good = calc (operations.Sign r op t a) fits m sm good
      instruction_does (operations.Arithmetic r op t u x y) fits inside m sm good = calc (operations.Arithmetic r op t u x y) fits m sm good
      instruction_does (operations.Compare r op t x y) fits inside m sm good = calc (operations.Compare r op t x y) fits m sm good
      instruction_does (operations.IsZero r a) fits inside m sm good = calc (operations.IsZero r a) fits m sm good
      instruction_does (operations.Skip n) fits inside m sm good = jumped n m sm fits good
      instruction_does (operations.SkipIfZero a n) fits inside m sm good =
          let same = operand_same a (left_of _ _ fits) m sm good in
          let far = jumped n m sm (right_of _ _ fits) good in
          λ i. if same i == 0 then far i else go m sm good i
      instruction_does (operations.Check c) fits inside m sm good =
          or_else_same _ _ line f _ _ (checks_same types sizes site.register site.block c fits m sm good.shows) (go m sm good)
      instruction_does (operations.Assert a) fits inside m sm good =
          let same = operand_same a fits m sm good in
          λ i. if same i == 0 then final (Broken classes.Assertion line f) else go m sm good i
      instruction_does (operations.Assume a) fits inside m sm good =
          let same = operand_same a fits m sm good in
          λ i. if same i == 0 then final Blocked else go m sm good i
      instruction_does (operations.Draw r bits) fits inside m sm good =
          let there = test_less r (length types) (left_of _ _ (left_of _ _ fits)) in
          same_ask (Draw bits) line f _ _ (λ a h. go _ _ (does s m _ sm _ good (sets_register types sizes site.register site.block r (word_of a) m sm there good.shows)))
      instruction_does (operations.ReadObject v to k offset count) fits inside m sm good =
          let there = test_less v (length sizes) (left_of _ _ fits) in
          let room = test_most (to + count) (slice_index sizes v) (right_of _ _ fits) in
          same_ask (Read (pointer_to k offset) count) line f _ _ (λ a h.
          let size = read_size (pointer_to k offset) count a h in
          go _ _ (does s m _ sm _ good (puts types sizes site.register site.block v to (bytes_in a) (bytes_in a) m sm there (omega (arith, room, size)) good.shows refl)))
      instruction_does (operations.WriteObject k offset v source count) fits inside m sm good =
          let there = test_less v (length sizes) (left_of _ _ fits) in
          let same = ap (λ bs. take count (drop source bs)) (good.shows.blocks v there) in
          λ i. ask (Write (pointer_to k offset) (same i) false) line f (λ a. go m sm good i)
      instruction_does operations.Exit fits inside m sm good = refl
      instruction_does (operations.Fail class) fits inside m sm good = refl
      instruction_does (operations.Use a) fits inside m sm good = go m sm good
      instruction_does (operations.Move r p j t n size class) fits inside m sm good = calc (operations.Move r p j t n size class) fits m sm good
      instruction_does (operations.Offset r p count) fits inside m sm good = calc (operations.Offset r p count) fits m sm good
      instruction_does (operations.Same p q) fits inside m sm good = go m sm good
      instruction_does (operations.Distance r p q n) fits inside m sm good = calc (operations.Distance r p q n) fits m sm good
      instruction_does (operations.Relate r op p q) fits inside m sm good = calc (operations.Relate r op p q) fits m sm good
      instruction_does (operations.Take v to source p count whole) fits inside m sm good = calc (operations.Take v to source p count whole) fits m sm good
      instruction_does (operations.Put v p source to count whole) fits inside m sm good = calc (operations.Put v p source to count whole) fits m sm good
      instruction_does (operations.Read v to p count) fits inside m sm good =
          let same = operand_same p (left_of _ _ (left_of _ _ fits)) m sm good in
          let there = test_less v (length sizes) (left_of _ _ (right_of _ _ fits)) in
          let room = test_most (to + count) (slice_index sizes v) (right_of _ _ (right_of _ _ fits)) in
          (λ i. ask (Read (same i) count) line f (λ a. begin code (with_blocks m (put_bytes m.blocks (site.block + v) to (bytes_in a)))))
          ∙ same_ask (Read (register sm p) count) line f _ _ (λ a h.
          let size = read_size (register sm p) count a h in
          go _ _ (does s m _ sm _ good (puts types sizes site.register site.block v to (bytes_in a) (bytes_in a) m sm there (omega (arith, room, size)) good.shows refl)))
      instruction_does (operations.Write p v source count first) fits inside m sm good =
          let at = operand_same p (left_of _ _ (left_of _ _ fits)) m sm good in
          let there = test_less v (length sizes) (left_of _ _ (right_of _ _ fits)) in
          let same = ap (λ bs. take count (drop source bs)) (good.shows.blocks v there) in
          λ i. ask (Write (at i) (same i) first) line f (λ a. go m sm good i)
      instruction_does (operations.Look r p subscript) fits inside m sm good =
          let same = operand_same p (left_of _ _ (right_of _ _ fits)) m sm good in
          let there = test_less r (length types) (left_of _ _ (left_of _ _ fits)) in
          (λ i. ask (Look (same i) subscript) line f (λ a. begin code (with_register m (site.register + r) (size_in a))))
          ∙ same_ask (Look (register sm p) subscript) line f _ _ (λ a h. sets r (size_in a) m sm there good)
      instruction_does (operations.Fill v q) fits inside m sm good =
          let there = test_less v (length sizes) (left_of _ _ fits) in
          let same = operand_same q (left_of _ _ (right_of _ _ fits)) m sm good in
          let size : first_count m (site.block + v) (site.register + q) ≡ first_count sm v q = λ i. min (same i) (length (good.shows.blocks v there i)) in
          let most : first_count sm v q ≤ slice_index sizes v = omega (arith, block_size types sizes site.register site.block sm v good.shows.extents) in
          (λ i. fills behaving (word_count (size i) - 0) 0 line f (site.block + v) (size i) (8 * 0) (on code) m)
          ∙ fills_does (word_count (first_count sm v q) - 0) (first_count sm v q) (8 * 0) v m sm there most (omega arith) good
      instruction_does (operations.Alloc r v size readonly heap) fits inside m sm good =
          let there = test_less r (length types) (left_of _ _ (left_of _ _ (left_of _ _ fits))) in
          let source = test_less v (length sizes) (right_of _ _ (left_of _ _ fits)) in
          let same = operand_same size (left_of _ _ (right_of _ _ fits)) m sm good in
          (λ i. ask (Alloc (made_of readonly heap (take (same i) (good.shows.blocks v source i)))) line f (λ a. begin code (with_register m (site.register + r) (pointer_to (number_in a) 0))))
          ∙ same_ask (Alloc (made_of readonly heap (first_bytes sm v size))) line f _ _ (λ a h. sets r (pointer_to (number_in a) 0) m sm there good)
      instruction_does (operations.Die p) fits inside m sm good =
          let same = operand_same p (left_of _ _ fits) m sm good in
          λ i. ask (Die (object_of (same i))) line f (λ a. go m sm good i)
      instruction_does (operations.Free p) fits inside m sm good =
          let same = operand_same p (left_of _ _ fits) m sm good in
          λ i. ask (Free (same i)) line f (λ a. go m sm good i)
      instruction_does (operations.MayFail r) fits inside m sm good = fails_does limits.malloc_may_fail r m sm (test_less r (length types) (left_of _ _ fits)) good
      instruction_does (operations.Limit x y) fits inside m sm good =
          or_else_same _ _ line f _ _ (checks_same types sizes site.register site.block (checks.AtMost x y limits.malloc_limit) fits m sm good.shows) (go m sm good)
      instruction_does (operations.Call g first_ count into r) fits inside m sm good =
          inlines line f g first_ count into r code s sm (λ given. flat_meaning.at o ps 0 (received sm into r given))
          (test_most (first_ + count) (length sizes) (left_of _ _ (left_of _ _ fits))) (test_less into (length sizes) (right_of _ _ (left_of _ _ fits))) (test_less r (length types) (left_of _ _ (right_of _ _ fits)))
          from inside (λ given m' good'. go m' (received sm into r given) good') m good
      instruction_does (operations.Return v) fits inside m sm good = hands line f v code front fits m sm (earlier s0 s m sm from good)

    -- ---- nodes

    abbrev Led : Piece → List (Memory → Behaviour) → Type 0
    Led c ps = LeadAll c.code c.space c.marks ps × FirstIs c.code c.marks

    abbrev NodesLead : Nodes → Type 0
    NodesLead nodes =
        (later : List ℕ) (code : List Instruction) (s : Space) (laters : List (Memory → Behaviour)) (behind : ℕ)
        → nodes_fit types sizes behind nodes ≡ true → length laters ≡ behind + 1 → LeadAll code s later laters → FirstIs code later → InFront code rest0 → Extends s0 s
        → Within all (nodes_code b inline site nodes later code s).space → Led (nodes_code b inline site nodes later code s) (nodes_before b o nodes laters)

    pub places_count : (nodes : Nodes) (laters : List (Memory → Behaviour)) → length (nodes_before b o nodes laters) ≡ node_count nodes + length laters
    places_count done laters = omega arith
    places_count (plain i more) laters = omega (arith, places_count more laters)
    places_count (repeats line f l rotated body more) laters = omega (arith, places_count more laters)

    module _ (inline_grows : InlineGrows inline) where
      -- rounds of a loop over nodes that do what they mean, in front of places that do
      rounds_lead : (line f : ℕ) (body : Nodes) → NodesLead body → (marks : List ℕ) (code : List Instruction) (s : Space) (ps : List (Memory → Behaviour)) (behind : ℕ)
          → nodes_fit types sizes (behind + 1) body ≡ true → length ps ≡ behind + 1 → LeadAll code s marks ps → InFront code rest0 → Extends s0 s → (k : ℕ)
          → Within all (round_codes b inline line f (λ again rest between. nodes_code b inline site body (again ∷ marks) rest between) k code s).space
          → (m sm : Memory) → G (round_codes b inline line f (λ again rest between. nodes_code b inline site body (again ∷ marks) rest between) k code s).space m sm
          → begin (round_codes b inline line f (λ again rest between. nodes_code b inline site body (again ∷ marks) rest between) k code s).code m
          ≡ rounds limits.assertions line f (λ again. flat_meaning.at o (nodes_before b o body (again ∷ ps)) 0) k sm
      rounds_lead line f body leads marks code s ps behind fits count_is lead front from zero inside m sm good = passing limits.assertions Unwind line f code m good.zero_there
      rounds_lead line f body leads marks code s ps behind fits count_is lead front from (suc k) inside m sm good =
          let round : ℕ → List Instruction → Space → Piece = λ again rest between. nodes_code b inline site body (again ∷ marks) rest between in
          let more = round_codes b inline line f round k code s in
          let c = round (length more.code) more.code more.space in
          let grown : Grown code s more = rounds_grow b inline inline_grows line f round (λ again rest between. nodes_grow b inline inline_grows site body (again ∷ marks) rest between) k code s in
          let last : Grown more.code more.space c = nodes_grow b inline inline_grows site body (length more.code ∷ marks) more.code more.space in
          let again : Memory → Behaviour = rounds limits.assertions line f (λ next. flat_meaning.at o (nodes_before b o body (next ∷ ps)) 0) k in
          let inner : Within all more.space = within_less all more.space c.space last.extends inside in
          let whole : LeadAll more.code more.space (length more.code ∷ marks) (again ∷ ps) = (
            (omega arith, λ m' sm' good'. from_end_begin more.code m' ∙ rounds_lead line f body leads marks code s ps behind fits count_is lead front from k inner m' sm' good'),
            lead_more code more.code s more.space grown.front grown.extends marks ps lead,
          ) in
          let some_more : length (again ∷ ps) ≡ behind + 1 + 1 = omega (arith, count_is) in
          let led = leads (length more.code ∷ marks) more.code more.space (again ∷ ps) (behind + 1) fits some_more whole refl (then_front more.code code rest0 grown.front front) (then_space s0 s more.space from grown.extends) inside in
          goes c.code c.space c.marks (nodes_before b o body (again ∷ ps)) m sm led.0 led.1 (omega (arith, places_count body (again ∷ ps), some_more)) good

      pub nodes_lead : (nodes : Nodes) → NodesLead nodes
      nodes_lead done later code s laters behind fits count_is leads first front from inside = (leads, first)
      nodes_lead (plain i more) later code s laters behind fits count_is leads first front from inside =
          let rest = nodes_code b inline site more later code s in
          let now = instruction_code b inline site i rest.marks rest.code rest.space in
          let ps = nodes_before b o more laters in
          let grown : Grown code s rest = nodes_grow b inline inline_grows site more later code s in
          let last : Grown rest.code rest.space now = operation_grows b inline inline_grows site i.line i.function i.operation rest.marks rest.code rest.space in
          let led : Led rest ps =
          nodes_lead more later code s laters behind (right_of _ _ fits) count_is leads first front from (within_less all rest.space now.space last.extends inside) in
          let places : length ps ≡ node_count more + behind + 1 = omega (arith, places_count more laters, count_is) in (
            (
              (
                omega arith,
                λ m sm good. from_end_begin now.code m
                    ∙ instruction_does rest.code rest.space rest.marks ps (node_count more + behind) led.0 led.1 places (then_front rest.code code rest0 grown.front front) (then_space s0 s rest.space from grown.extends)
                    i.line i.function i.operation (left_of _ _ fits) inside m sm good,
              ),
              lead_more rest.code now.code rest.space now.space last.front last.extends rest.marks ps led.0,
            ),
            refl,
          )
      nodes_lead (repeats line f l rotated body more) later code s laters behind fits count_is leads first front from inside =
          let rest = nodes_code b inline site more later code s in
          let k = round_count rotated (tests b f l) in
          let round : ℕ → List Instruction → Space → Piece = λ again next between. nodes_code b inline site body (again ∷ rest.marks) next between in
          let now = round_codes b inline line f round k rest.code rest.space in
          let ps = nodes_before b o more laters in
          let grown : Grown code s rest = nodes_grow b inline inline_grows site more later code s in
          let last : Grown rest.code rest.space now =
          rounds_grow b inline inline_grows line f round (λ again next between. nodes_grow b inline inline_grows site body (again ∷ rest.marks) next between) k rest.code rest.space in
          let led : Led rest ps =
          nodes_lead more later code s laters behind (right_of _ _ fits) count_is leads first front from (within_less all rest.space now.space last.extends inside) in
          let places : length ps ≡ node_count more + behind + 1 = omega (arith, places_count more laters, count_is) in (
            (
              (
                omega arith,
                λ m sm good. from_end_begin now.code m
                    ∙ rounds_lead line f body (nodes_lead body) rest.marks rest.code rest.space ps (node_count more + behind) (left_of _ _ fits) places led.0
                    (then_front rest.code code rest0 grown.front front) (then_space s0 s rest.space from grown.extends) k inside m sm good,
              ),
              lead_more rest.code now.code rest.space now.space last.front last.extends rest.marks ps led.0,
            ),
            refl,
          )
