-- Unrolled code has as many Allocs as are counted.
use Rattle.std.proofs.Common.{◌≡◌, ℕ, zero, suc, ◌+◌, ◌-◌, ◌*◌, ◌<◌, ◌≤◌, Bool, true, false, List, [], ◌∷◌, ◌++◌, drop, length, Option, Some, None, refl, sym, ap, ◌∙◌, arith}
use Rattle.std.specs.Prelude.{◌==◌, slice_get, slice_index, if◌then◌else◌}
use Rattle.words.specs.declared.check.Class.{Class}
use Rattle.words.specs.declared.check.Class.TheVariants.{Unwind, Recursion}
use Rattle.core_tree.specs.Ranges.{Limits}
use Rattle.goto_prog.specs.declared.code.Operation.{Operation}
use Rattle.goto_prog.specs.declared.code.Operation.TheVariants as operations
use Rattle.goto_prog.specs.declared.code.Instruction.{Instruction}
use Rattle.goto_prog.specs.Allocations.{own_allocations, code_allocations, operation_allocations, nodes_allocations, routine_allocations, call_allocations, allocations}
use Rattle.goto_prog.specs.CodeThread.{Listing}
use Rattle.goto_prog.specs.Flat as flat
use Rattle.goto_prog.specs.GotoThreads.{GotoFile, bounded_file}
use Rattle.goto_prog.specs.Nodes.{Nodes, done, plain, repeats, Routine, view_procedures}
use Rattle.goto_prog.specs.Structured.{Bounded, tests, round_count, opened, first_left, first_fuel}
use Rattle.goto_unwind.specs.Unrolled.{Space, Handing, first_space, with_frame, Site, Piece, piece, at, renumbered, passed_code, hand_code, argument_code, Inline, round_codes, instruction_code, nodes_code, body_code, inlined, inline_at}
use Rattle.goto_unwind.specs.Program.{first_site, first_piece, first_listing, unrolled}
use Rattle.goto_unwind.proofs.SameCode.{equal_none, at_replicate, found_less, main_there}

-- ---- code that makes no object

in_front : (code behind : List Instruction) → code_allocations (code ++ behind) ≡ code_allocations code + code_allocations behind
in_front [] behind = omega arith
in_front (i ∷ code) behind = let rest = in_front code behind in omega (arith, rest)

passed_none : (assertions : Bool) (class : Class) (line f : ℕ) (rest : List Instruction) → code_allocations (passed_code assertions class line f ∷ rest) ≡ code_allocations rest
passed_none true class line f rest = omega arith
passed_none false class line f rest = omega arith

hand_none : (site : Site) (line f : ℕ) (value : Option ℕ) → code_allocations (hand_code site line f value) ≡ 0
hand_none site line f value = by_hands site.hands value
  where
    by_hands : (hands : Option Handing) (value : Option ℕ) → code_allocations (hand_code (record site { hands = hands }) line f value) ≡ 0
    by_hands None value = refl
    by_hands (Some h) None = refl
    by_hands (Some h) (Some v) = refl

arguments_none : (line f : ℕ) (callers : List ℕ) (from count : ℕ) (sizes : List ℕ) (into : ℕ) → code_allocations (argument_code line f callers from count sizes into) ≡ 0
arguments_none line f callers from zero sizes into = refl
arguments_none line f callers from (suc count) [] into = refl
arguments_none line f [] from (suc count) (size ∷ sizes) into = refl
arguments_none line f (c ∷ callers) from (suc count) (size ∷ sizes) into = let rest = arguments_none line f callers (from + 1) count sizes (into + 1) in omega (arith, rest)

may_fail_none : (fails : Bool) (r b into : ℕ) → own_allocations (renumbered r b (if fails then operations.Draw into 1 else operations.Constant into 0)) ≡ 0
may_fail_none true r b into = refl
may_fail_none false r b into = refl

-- ---- nodes

-- what stands for calls makes as many objects as this says
abbrev Makes : Inline → (ℕ → ℕ) → Type 0
Makes inline calls = (caller : Site) (line f g first count into r : ℕ) (rest : List Instruction) (space : Space) → code_allocations (inline caller line f g first count into r rest space).code ≡ calls g + code_allocations rest

module _ (b : Bounded) (inline : Inline) (calls : ℕ → ℕ) (makes : Makes inline calls) where
  operation_makes : (site : Site) (line f : ℕ) (o : Operation) (marks : List ℕ) (code : List Instruction) (space : Space)
      → code_allocations (instruction_code b inline site (at line f o) marks code space).code ≡ operation_allocations calls o + code_allocations code
  operation_makes site line f (operations.Call g first count into r) marks code space = makes site line f g first count into r code space
  operation_makes site line f (operations.Return v) marks code space =
      let end = at line f (operations.Skip (length code - site.back)) ∷ code in
      let all = in_front (hand_code site line f v) end in
      let none = hand_none site line f v in
      omega (arith, all, none)
  operation_makes site line f (operations.MayFail into) marks code space = ap (λ n. n + code_allocations code) (may_fail_none b.limits.malloc_may_fail site.register site.block into)
  operation_makes site line f _ marks code space = refl

  rounds_make : (line f n : ℕ) (round : (again : ℕ) → List Instruction → Space → Piece) → ((again : ℕ) (code : List Instruction) (space : Space) → code_allocations (round again code space).code ≡ n + code_allocations code)
      → (k : ℕ) (code : List Instruction) (space : Space) → code_allocations (round_codes b inline line f round k code space).code ≡ k * n + code_allocations code
  rounds_make line f n round makes zero code space = let none = passed_none b.limits.assertions Unwind line f code in omega (arith, none)
  rounds_make line f n round makes (suc k) code space =
      let more = round_codes b inline line f round k code space in
      let rest = rounds_make line f n round makes k code space in
      let one = makes (length more.code) more.code more.space in
      omega (arith, one, rest)

  nodes_make : (site : Site) (nodes : Nodes) (later : List ℕ) (code : List Instruction) (space : Space) → code_allocations (nodes_code b inline site nodes later code space).code ≡ nodes_allocations b calls nodes + code_allocations code
  nodes_make site done later code space = omega arith
  nodes_make site (plain i more) later code space =
      let behind = nodes_code b inline site more later code space in
      let rest = nodes_make site more later code space in
      let one = operation_makes site i.line i.function i.operation behind.marks behind.code behind.space in
      one ∙ by_parts (operation_allocations calls i.operation) (nodes_allocations b calls more) (code_allocations code) (code_allocations behind.code) rest
    where
      by_parts : (x y z w : ℕ) → w ≡ y + z → x + w ≡ x + y + z
      by_parts x y z w e = omega (arith, e)
  nodes_make site (repeats line f l rotated body more) later code space =
      let behind = nodes_code b inline site more later code space in
      let round : ℕ → List Instruction → Space → Piece = λ again rest between. nodes_code b inline site body (again ∷ behind.marks) rest between in
      let count = round_count rotated (tests b f l) in
      let rest = nodes_make site more later code space in
      let all = rounds_make line f (nodes_allocations b calls body) round (λ again rest between. nodes_make site body (again ∷ behind.marks) rest between) count behind.code behind.space in
      all ∙ by_parts (count * nodes_allocations b calls body) (nodes_allocations b calls more) (code_allocations code) (code_allocations behind.code) rest
    where
      by_parts : (x y z w : ℕ) → w ≡ y + z → x + w ≡ x + y + z
      by_parts x y z w e = omega (arith, e)

  body_makes : (site : Site) (code : List Instruction) (space : Space) → code_allocations (body_code b inline site code space).code ≡ nodes_allocations b calls site.routine.nodes + code_allocations code
  body_makes site code space =
      let ending = hand_code site site.routine.line 0 None in
      let end = ending ++ code in
      let all = nodes_make site site.routine.nodes (length end ∷ []) end space in
      let front = in_front ending code in
      let none = hand_none site site.routine.line 0 None in
      all ∙ by_parts (nodes_allocations b calls site.routine.nodes) (code_allocations end) (code_allocations code) (code_allocations ending) front none
    where
      by_parts : (x y z w : ℕ) → y ≡ w + z → w ≡ 0 → x + y ≡ x + z
      by_parts x y z w e none = omega (arith, e, none)

-- ---- calls

module _ (b : Bounded) where
  inlined_makes : (inline : Inline) (calls : ℕ → ℕ) → Makes inline calls → (p : Option Routine) (caller : Site) (line f g first count into r : ℕ) (rest : List Instruction) (space : Space)
      → code_allocations (inlined b inline p caller line f g first count into r rest space).code ≡ routine_allocations b calls p + code_allocations rest
  inlined_makes inline calls makes None caller line f g first count into r rest space = refl
  inlined_makes inline calls makes (Some p) caller line f g first count into r rest space =
      let site : Site = record {
        routine = p;
        register = length space.registers;
        block = length space.blocks;
        hands = Some (record { block = caller.block + into; size = slice_index caller.routine.blocks into; register = caller.register + r });
        back = length rest;
      } in
      let body = body_code b inline site rest (with_frame space p) in
      let arguments = argument_code line f (drop first caller.routine.blocks) (caller.block + first) count p.blocks site.block in
      let front = in_front arguments body.code in
      let none = arguments_none line f (drop first caller.routine.blocks) (caller.block + first) count p.blocks site.block in
      front ∙ by_parts (code_allocations arguments) (code_allocations body.code) none ∙ body_makes b inline calls makes site rest (with_frame space p)
    where
      by_parts : (x y : ℕ) → x ≡ 0 → x + y ≡ y
      by_parts x y none = omega (arith, none)

  by_test : (z : Bool) (c d : Piece) (n : ℕ) (rest : List Instruction) → code_allocations c.code ≡ code_allocations rest → code_allocations d.code ≡ n + code_allocations rest → code_allocations (if z then c else d).code ≡ (if z then 0 else n) + code_allocations rest
  by_test true c d n rest g h = omega (arith, g)
  by_test false c d n rest g h = h

  inline_makes : (fuel : ℕ) (left : List ℕ) → Makes (inline_at b fuel left) (call_allocations b fuel left)
  inline_makes zero left caller line f g first count into r rest space = let none = passed_none b.limits.assertions Recursion line f rest in omega (arith, none)
  inline_makes (suc fuel) left caller line f g first count into r rest space =
      by_test (slice_index left g == 0) _ _ (routine_allocations b (call_allocations b fuel (opened left g)) (slice_get b.functions g)) rest (passed_none b.limits.assertions Recursion line f rest)
      (inlined_makes (inline_at b fuel (opened left g)) (call_allocations b fuel (opened left g)) (inline_makes fuel (opened left g)) (slice_get b.functions g) caller line f g first count into r rest space)

-- ---- the program

first_makes : (b : Bounded) (number : ℕ) (p : Routine) → slice_get b.functions number ≡ Some p → 1 ≤ b.limits.unwind → number < length b.functions
    → code_allocations (first_piece b number p).code ≡ call_allocations b (first_fuel b) (first_left b) number
first_makes b number p found some less =
    let n : ℕ = length b.functions * b.limits.unwind in
    let fuel : first_fuel b - 1 ≡ n = omega arith in
    let more : first_fuel b ≡ suc n = omega arith in
    let left : slice_index (first_left b) number ≡ b.limits.unwind = at_replicate (length b.functions) number b.limits.unwind less in
    let goes_on : (slice_index (first_left b) number == 0) ≡ false = (λ i. left i == 0) ∙ equal_none b.limits.unwind some in
    let calls : ℕ → ℕ → ℕ = λ k. call_allocations b k (opened (first_left b) number) in
    body_makes b (inline_at b (first_fuel b - 1) (opened (first_left b) number)) (calls (first_fuel b - 1)) (inline_makes b (first_fuel b - 1) (opened (first_left b) number)) (first_site p) (at p.line number operations.Exit ∷ []) (with_frame first_space p)
    ∙ nothing_behind (nodes_allocations b (calls (first_fuel b - 1)) p.nodes)
    ∙ (λ i. routine_allocations b (calls (fuel i)) (sym found i))
    ∙ (λ i. if sym goes_on i then 0 else routine_allocations b (calls n) (slice_get b.functions number))
    ∙ (λ i. call_allocations b (sym more i) (first_left b) number)
  where
    nothing_behind : (x : ℕ) → x + (0 + 0) ≡ x
    nothing_behind x = omega arith

-- the unrolled code of a program
pub unrolled_makes : (g : GotoFile) (limits : Limits) → 1 ≤ limits.unwind → g.main < length g.functions → code_allocations (flat.main_code (unrolled g limits)).instructions ≡ allocations g limits
unrolled_makes g limits some less =
    let there = main_there g less in
    let main = found_less (view_procedures g.functions) g.main there in
    (λ i. code_allocations (flat.main_code (record { functions = first_of (main.1 i) ∷ []; main = 0; store = g.store })).instructions)
    ∙ first_makes (bounded_file false g limits) g.main main.0 main.1 some there
  where
    first_of : Option Routine → Listing
    first_of p = first_listing (bounded_file false g limits) g.main p
