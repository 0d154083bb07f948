-- Places of code of functions: what is done from them, what fits, and how many steps are left.
use Rattle.std.proofs.Common.{◌≡◌, ℕ, zero, suc, ◌+◌, ◌-◌, ◌<◌, ◌≤◌, ◌^◌, nat_lt, Bool, true, false, ◌&&◌, List, [], ◌∷◌, length, Option, Some, None, refl, sym, ap, ◌∙◌, subst, arith}
use Rattle.std.specs.Prelude.{nat_le, option_map, slice_index_or, if◌then◌else◌}
use Rattle.std.proofs.lemmas.Bool.{false≢true}
use Rattle.std.proofs.lemmas.Option.{none-some}
use Rattle.c_types.specs.declared.integers.IntegerType.{IntegerType}
use Rattle.c_types.specs.declared.integers.IntegerType.TheVariants as types
use Rattle.c_types.specs.Integers.{width, same_integer}
use Rattle.core_tree.specs.Ranges.{Limits}
use Rattle.actions.specs.Behaviour.{Behaviour}
use Rattle.goto_prog.specs.declared.code.Instruction.{Instruction}
use Rattle.goto_prog.specs.declared.code.Operation.{Operation}
use Rattle.goto_prog.specs.declared.code.Operation.TheVariants as operations
use Rattle.goto_prog.specs.declared.nodes.Node.{Node}
use Rattle.goto_prog.specs.declared.nodes.Node as nodes
use Rattle.goto_prog.specs.Meaning.{Memory, Reading, at, operates}
use Rattle.goto_prog.specs.Fitting.{is_there, is_register, operation_fits}
use Rattle.goto_prog.specs.Nodes.{Nodes, done, plain, repeats, nodes_of, view_nodes, node_count, nodes_fit}
use Rattle.goto_prog.specs.Structured.{Bounded, resolved, resolved_in, rounds, round_count, tests, nodes_before}
use Rattle.goto_prog.specs.Walking.{LoopLevel, Cursor, place_behind, next_place, landed, nodes_behind, next_round, round_of, into_loop, place_count, place_total, levels_fit, place_fits, levels_behind, places_from, does_from, step_weight, first_of, round_weight, nodes_weights, levels_weights, place_weight, instruction_at, next_instruction}
use Rattle.goto_prog.proofs.Registers.{both, same_widths}

-- ---- going on

one_more : (count i : ℕ) → i < count → count - i ≡ suc (count - (i + 1))
one_more count i lt = omega (arith, lt)

pub landed_more : (count i : ℕ) (p q : Cursor) → i < count → landed (count - i) p ≡ q → landed (count - (i + 1)) (next_place p) ≡ q
landed_more count i p q lt same = sym (ap (λ n. landed n p) (one_more count i lt)) ∙ same

-- ---- the instruction that is next

or_this : Instruction → Option Instruction → Instruction
or_this i None = i
or_this i (Some j) = j

some_same : (i j : Instruction) → Some i ≡ Some j → i ≡ j
unfolding or_this
some_same i j h = ap (or_this i) h

-- it as the bounds have it
pub resolved_here : (b : Bounded) (ns : List Node) (i : Instruction) → instruction_at ns ≡ Some i → next_instruction b ns ≡ Some (resolved_in b i)
resolved_here b ns i found = ap (option_map (resolved_in b)) found

module _ (b : Bounded) (o : Reading Behaviour) where
  at_front : (ns : List Node) (ls : List LoopLevel) (i : Instruction) (m : Memory) → next_instruction b ns ≡ Some i
      → at o (nodes_before b o (nodes_of ns) (levels_behind b o ls)) 0 m ≡ operates o b.strict 0 i.line i.function i.operation (places_from b o (place_behind ns ls)) m
  at_front [] ls i m h = absurd (none-some i h)
  at_front (nodes.Plain j ∷ rest) ls i m h = ap (λ k. operates o b.strict 0 k.line k.function k.operation (nodes_before b o (nodes_of rest) (levels_behind b o ls)) m) (some_same (resolved_in b j) i h)
  at_front (nodes.Loop' line f n rotated shape body ∷ rest) ls i m h = absurd (none-some i h)

  pub at_instruction : (p : Cursor) (i : Instruction) (m : Memory) → next_instruction b p.nodes ≡ Some i
      → does_from b o p m ≡ operates o b.strict 0 i.line i.function i.operation (places_from b o (next_place p)) m
  at_instruction p i m h = at_front p.nodes p.levels i m h

  at_next : (ns : List Node) (ls : List LoopLevel) (n : ℕ) (m : Memory) → suc n ≤ node_count (nodes_of ns) + place_count ls
      → at o (nodes_before b o (nodes_of ns) (levels_behind b o ls)) (suc n) m ≡ at o (places_from b o (place_behind ns ls)) n m
  at_next [] [] n m within = absurd (omega (arith, within))
  at_next [] (l ∷ ls) n m within = refl
  at_next (nodes.Plain j ∷ rest) ls n m within = refl
  at_next (nodes.Loop' line f k rotated shape body ∷ rest) ls n m within = refl

  fewer : (ns : List Node) (ls : List LoopLevel) (n : ℕ) → suc n ≤ node_count (nodes_of ns) + place_count ls → n ≤ place_total (place_behind ns ls)
  fewer [] [] n within = absurd (omega (arith, within))
  fewer [] (l ∷ ls) n within = omega (arith, within)
  fewer (nodes.Plain j ∷ rest) ls n within = omega (arith, within)
  fewer (nodes.Loop' line f k rotated shape body ∷ rest) ls n within = omega (arith, within)

  pub landing : (n : ℕ) (p : Cursor) (m : Memory) → n ≤ place_total p → at o (places_from b o p) n m ≡ does_from b o (landed n p) m
  landing zero p m within = refl
  landing (suc n) p m within = at_next p.nodes p.levels n m within ∙ landing n (next_place p) m (fewer p.nodes p.levels n within)

-- ---- what fits

module _ (ts : List IntegerType) (ss : List ℕ) where
  abbrev Fits : List Node → List LoopLevel → Type 0
  Fits ns ls = (nodes_fit ts ss (place_count ls) (nodes_of ns) && levels_fit ts ss ls) ≡ true

  both_true : (a b : Bool) → a ≡ true → b ≡ true → (a && b) ≡ true
  both_true a b first second = λ k. first k && second k

  pub fits_behind : (ns : List Node) (ls : List LoopLevel) → Fits ns ls → place_fits ts ss (place_behind ns ls) ≡ true
  fits_behind [] [] h = h
  fits_behind [] (l ∷ ls) h =
      let parts = both (nodes_fit ts ss (place_count (l ∷ ls)) (nodes_of l.body) && nodes_fit ts ss (place_count ls) (nodes_of l.behind)) (levels_fit ts ss ls) h in
      both_true _ _ (both (nodes_fit ts ss (place_count (l ∷ ls)) (nodes_of l.body)) (nodes_fit ts ss (place_count ls) (nodes_of l.behind)) parts.0).1 parts.1
  fits_behind (nodes.Plain j ∷ rest) ls h =
      let parts = both (nodes_fit ts ss (place_count ls) (nodes_of (nodes.Plain j ∷ rest))) (levels_fit ts ss ls) h in
      both_true _ _ (both (operation_fits ts ss (node_count (nodes_of rest) + place_count ls) j.operation) (nodes_fit ts ss (place_count ls) (nodes_of rest)) parts.0).1 parts.1
  fits_behind (nodes.Loop' line f k rotated shape body ∷ rest) ls h =
      let parts = both (nodes_fit ts ss (place_count ls) (nodes_of (nodes.Loop' line f k rotated shape body ∷ rest))) (levels_fit ts ss ls) h in
      both_true _ _ (both (nodes_fit ts ss (node_count (nodes_of rest) + place_count ls + 1) (view_nodes body)) (nodes_fit ts ss (place_count ls) (nodes_of rest)) parts.0).1 parts.1

  pub fits_next : (p : Cursor) → place_fits ts ss p ≡ true → place_fits ts ss (next_place p) ≡ true
  fits_next p h = fits_behind p.nodes p.levels h

  pub fits_landed : (n : ℕ) (p : Cursor) → place_fits ts ss p ≡ true → place_fits ts ss (landed n p) ≡ true
  fits_landed zero p h = h
  fits_landed (suc n) p h = fits_landed n (next_place p) (fits_next p h)

  int_width : (r : ℕ) → is_register ts r types.Int ≡ true → (is_there ts r ≡ true) × (width (slice_index_or ts r types.Int) ≡ 32)
  int_width r h = let t = both (nat_lt r (length ts)) (same_integer (slice_index_or ts r types.Int) types.Int) h in (t.0, same_widths (slice_index_or ts r types.Int) types.Int t.1)

  pub may_fail_fits : (k : ℕ) (may_fail : Bool) (r : ℕ) → is_register ts r types.Int ≡ true → operation_fits ts ss k (if may_fail then operations.Draw r 1 else operations.Constant r 0) ≡ true
  may_fail_fits k true r h = let t = int_width r h in both_true (is_there ts r && nat_le 1 1) _ (both_true _ _ t.0 refl) (ap (λ n. nat_le 1 n) t.1)
  may_fail_fits k false r h = let t = int_width r h in both_true _ _ t.0 (ap (λ n. nat_lt 0 (2 ^ n)) t.1)

  pub resolved_fits : (k : ℕ) (limits : Limits) (o : Operation) → operation_fits ts ss k o ≡ true → operation_fits ts ss k (resolved limits o) ≡ true
  resolved_fits k limits (operations.Constant r bits) fits = fits
  resolved_fits k limits (operations.Copy r a) fits = fits
  resolved_fits k limits (operations.Load r t b offset) fits = fits
  resolved_fits k limits (operations.Store b offset count a) fits = fits
  resolved_fits k limits (operations.Clear b size) fits = fits
  resolved_fits k limits (operations.CopyBytes into to from offset count) fits = fits
  resolved_fits k limits (operations.Convert r from to a) fits = fits
  resolved_fits k limits (operations.Sign r op t a) fits = fits
  resolved_fits k limits (operations.Arithmetic r op t u a b) fits = fits
  resolved_fits k limits (operations.Compare r op t a b) fits = fits
  resolved_fits k limits (operations.IsZero r a) fits = fits
  resolved_fits k limits (operations.Skip n) fits = fits
  resolved_fits k limits (operations.SkipIfZero a n) fits = fits
  resolved_fits k limits (operations.Check c) fits = fits
  resolved_fits k limits (operations.Assert a) fits = fits
  resolved_fits k limits (operations.Assume a) fits = fits
  resolved_fits k limits (operations.Draw r bits) fits = fits
  resolved_fits k limits (operations.ReadObject b to z offset count) fits = fits
  resolved_fits k limits (operations.WriteObject z offset b from count) fits = fits
  resolved_fits k limits operations.Exit fits = fits
  resolved_fits k limits (operations.Fail class) fits = fits
  resolved_fits k limits (operations.Use a) fits = fits
  resolved_fits k limits (operations.Call g first count into r) fits = fits
  resolved_fits k limits (operations.Return v) fits = fits
  resolved_fits k limits (operations.Move r p i t n size class) fits = fits
  resolved_fits k limits (operations.Offset r p count) fits = fits
  resolved_fits k limits (operations.Same p q) fits = fits
  resolved_fits k limits (operations.Distance r p q n) fits = fits
  resolved_fits k limits (operations.Relate r op p q) fits = fits
  resolved_fits k limits (operations.Take b to from p count whole) fits = fits
  resolved_fits k limits (operations.Put b p from to count whole) fits = fits
  resolved_fits k limits (operations.Read b to p count) fits = fits
  resolved_fits k limits (operations.Write p b from count first) fits = fits
  resolved_fits k limits (operations.Look r p subscript) fits = fits
  resolved_fits k limits (operations.Fill b r) fits = fits
  resolved_fits k limits (operations.Alloc r b size readonly heap) fits = fits
  resolved_fits k limits (operations.Die p) fits = fits
  resolved_fits k limits (operations.Free p) fits = fits
  resolved_fits k limits (operations.MayFail r) fits = may_fail_fits k limits.malloc_may_fail r fits
  resolved_fits k limits (operations.Limit a b) fits = fits

  fits_front : (b : Bounded) (ns : List Node) (ls : List LoopLevel) (i : Instruction) → Fits ns ls → next_instruction b ns ≡ Some i → operation_fits ts ss (place_total (place_behind ns ls)) i.operation ≡ true
  fits_front b [] ls i h found = absurd (none-some i found)
  fits_front b (nodes.Plain j ∷ rest) ls i h found =
      let parts = both (nodes_fit ts ss (place_count ls) (nodes_of (nodes.Plain j ∷ rest))) (levels_fit ts ss ls) h in
      let k = node_count (nodes_of rest) + place_count ls in
      subst (λ (i : Instruction). operation_fits ts ss k i.operation ≡ true) (some_same (resolved_in b j) i found)
      (resolved_fits k b.limits j.operation (both (operation_fits ts ss k j.operation) (nodes_fit ts ss (place_count ls) (nodes_of rest)) parts.0).0)
  fits_front b (nodes.Loop' line f k rotated shape body ∷ rest) ls i h found = absurd (none-some i found)

  pub fits_here : (b : Bounded) (p : Cursor) (i : Instruction) → place_fits ts ss p ≡ true → next_instruction b p.nodes ≡ Some i → operation_fits ts ss (place_total (next_place p)) i.operation ≡ true
  fits_here b p i h found = fits_front b p.nodes p.levels i h found

  fits_round : (p : Cursor) (ls : List LoopLevel) → p.levels ≡ ls → place_fits ts ss p ≡ true → place_fits ts ss (round_of p ls) ≡ true
  fits_round p [] same h = h
  fits_round p (l ∷ ls) same h =
      let levels = (both (nodes_fit ts ss (place_count p.levels) (nodes_of p.nodes)) (levels_fit ts ss p.levels) h).1 in
      let here = subst (λ (xs : List LoopLevel). levels_fit ts ss xs ≡ true) same levels in
      let parts = both (nodes_fit ts ss (place_count (l ∷ ls)) (nodes_of l.body) && nodes_fit ts ss (place_count ls) (nodes_of l.behind)) (levels_fit ts ss ls) here in
      both_true _ _ (both (nodes_fit ts ss (place_count (l ∷ ls)) (nodes_of l.body)) (nodes_fit ts ss (place_count ls) (nodes_of l.behind)) parts.0).0 here

  pub fits_next_round : (p : Cursor) → place_fits ts ss p ≡ true → place_fits ts ss (next_round p) ≡ true
  fits_next_round p h = fits_round p p.levels refl h

-- ---- how many steps are left

module _ (b : Bounded) (w : ℕ → ℕ) where
  pub heavier : (o : Operation) (later : ℕ) → later < step_weight b w o later
  heavier (operations.Call f first count into r) later = omega arith
  heavier _ later = omega arith

  rounds_more : (round : ℕ → ℕ) → ((x : ℕ) → x ≤ round x) → (behind n : ℕ) → behind < round_weight b w round behind n
  rounds_more round grows behind zero = omega arith
  rounds_more round grows behind (suc n) = omega (arith, rounds_more round grows behind n, grows (round_weight b w round behind n))

  over : (ns : Nodes) (later : List ℕ) → first_of b w later ≤ first_of b w (nodes_weights b w ns later)
  over done later = omega arith
  over (plain i rest) later = omega (arith, over rest later, heavier (resolved b.limits i.operation) (first_of b w (nodes_weights b w rest later)))
  over (repeats line f n rotated body rest) later =
      let behind = nodes_weights b w rest later in
      let more = rounds_more (λ again. first_of b w (nodes_weights b w body (again ∷ behind))) (λ x. over body (x ∷ behind)) (first_of b w behind) (round_count rotated (tests b f n)) in
      omega (arith, over rest later, more)

  lighter : (ns : List Node) (ls : List LoopLevel) → place_weight b w (place_behind ns ls) ≤ first_of b w (nodes_weights b w (nodes_of ns) (levels_weights b w ls))
  lighter [] [] = omega arith
  lighter [] (l ∷ ls) =
      let behind = nodes_weights b w (nodes_of l.behind) (levels_weights b w ls) in
      let more = rounds_more (λ again. first_of b w (nodes_weights b w (nodes_of l.body) (again ∷ behind))) (λ x. over (nodes_of l.body) (x ∷ behind)) (first_of b w behind) l.left in
      omega (arith, more)
  lighter (nodes.Plain j ∷ rest) ls = omega (arith, heavier (resolved b.limits j.operation) (first_of b w (nodes_weights b w (nodes_of rest) (levels_weights b w ls))))
  lighter (nodes.Loop' line f n rotated shape body ∷ rest) ls =
      let behind = nodes_weights b w (nodes_of rest) (levels_weights b w ls) in
      let more = rounds_more (λ again. first_of b w (nodes_weights b w (view_nodes body) (again ∷ behind))) (λ x. over (view_nodes body) (x ∷ behind)) (first_of b w behind) (round_count rotated (tests b f n)) in
      omega (arith, more)

  pub landed_lighter : (n : ℕ) (p : Cursor) → place_weight b w (landed n p) ≤ place_weight b w p
  landed_lighter zero p = omega arith
  landed_lighter (suc n) p = omega (arith, landed_lighter n (next_place p), lighter p.nodes p.levels)

  weight_front : (ns : List Node) (ls : List LoopLevel) (i : Instruction) → next_instruction b ns ≡ Some i
      → first_of b w (nodes_weights b w (nodes_of ns) (levels_weights b w ls)) ≡ step_weight b w i.operation (place_weight b w (place_behind ns ls))
  weight_front [] ls i h = absurd (none-some i h)
  weight_front (nodes.Plain j ∷ rest) ls i h = ap (λ (k : Instruction). step_weight b w k.operation (first_of b w (nodes_weights b w (nodes_of rest) (levels_weights b w ls)))) (some_same (resolved_in b j) i h)
  weight_front (nodes.Loop' line f n rotated shape body ∷ rest) ls i h = absurd (none-some i h)

  pub weight_here : (p : Cursor) (i : Instruction) → next_instruction b p.nodes ≡ Some i → place_weight b w p ≡ step_weight b w i.operation (place_weight b w (next_place p))
  weight_here p i h = weight_front p.nodes p.levels i h

  pub falls_landed : (n : ℕ) (p : Cursor) (i : Instruction) → next_instruction b p.nodes ≡ Some i → place_weight b w (landed n (next_place p)) < place_weight b w p
  falls_landed n p i h = omega (arith, weight_here p i h, landed_lighter n (next_place p), heavier i.operation (place_weight b w (next_place p)))

  some_weight : (ls : List LoopLevel) → 0 < first_of b w (levels_weights b w ls)
  some_weight [] = omega arith
  some_weight (l ∷ ls) =
      let behind = nodes_weights b w (nodes_of l.behind) (levels_weights b w ls) in
      let more = rounds_more (λ again. first_of b w (nodes_weights b w (nodes_of l.body) (again ∷ behind))) (λ x. over (nodes_of l.body) (x ∷ behind)) (first_of b w behind) l.left in
      omega (arith, more)

  pub place_some : (p : Cursor) → 0 < place_weight b w p
  place_some p = omega (arith, some_weight p.levels, over (nodes_of p.nodes) (levels_weights b w p.levels))
