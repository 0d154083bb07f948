-- Unrolled code has no operations on pointers where the code of functions has none.
use Rattle.std.proofs.Common.{◌≡◌, ℕ, zero, suc, ◌+◌, ◌-◌, Bool, true, false, List, [], ◌∷◌, ◌++◌, drop, length, Option, Some, None, refl, sym, ap, subst, ◌∙◌}
use Rattle.std.specs.Prelude.{◌&&◌, ◌==◌, slice_get, slice_index, if◌then◌else◌}
use Rattle.std.proofs.lemmas.Bool.{false≢true}
use Rattle.words.specs.declared.check.Class.{Class}
use Rattle.words.specs.declared.check.Class.TheVariants.{Unwind, Recursion}
use Rattle.core_tree.specs.Ranges.{Limits}
use Rattle.goto_prog.specs.declared.code.Condition.{Condition}
use Rattle.goto_prog.specs.declared.code.Condition.TheVariants as checks
use Rattle.goto_prog.specs.declared.code.Operation.{Operation}
use Rattle.goto_prog.specs.declared.code.Operation.TheVariants as operations
use Rattle.goto_prog.specs.declared.code.Instruction.{Instruction}
use Rattle.goto_prog.specs.CodeThread.{Listing}
use Rattle.goto_prog.specs.Flat as flat
use Rattle.goto_prog.specs.GotoThreads.{GotoFile, bounded_file}
use Rattle.goto_prog.specs.Nodes.{Nodes, done, plain, repeats, Routine, view_procedures}
use Rattle.goto_prog.specs.Static.{is_static_check, is_static, is_static_code, are_static_nodes, are_static}
use Rattle.goto_prog.specs.Structured.{Bounded, resolved, tests, round_count, opened, first_left, first_fuel}
use Rattle.goto_prog.proofs.Registers.{both}
use Rattle.goto_unwind.specs.Unrolled.{Space, Handing, first_space, with_frame, Site, Piece, piece, at, jump, renumbered_check, renumbered, passed_code, hand_code, argument_code, Inline, round_codes, instruction_code, nodes_code, body_code, inlined, inline_at}
use Rattle.goto_unwind.specs.Program.{first_site, first_listing, unrolled}

both_true : {a b : Bool} → a ≡ true → b ≡ true → (a && b) ≡ true
both_true one other = λ i. one i && other i

-- ---- instructions

in_front : (code rest : List Instruction) → is_static_code code ≡ true → is_static_code rest ≡ true → is_static_code (code ++ rest) ≡ true
in_front [] rest h k = k
in_front (i ∷ code) rest h k =
    let own = both (is_static i.operation) (is_static_code code) h in both_true {a = is_static i.operation} {b = is_static_code (code ++ rest)} own.0 (in_front code rest own.1 k)

check_static : (r : ℕ) (c : Condition) → is_static_check (renumbered_check r c) ≡ is_static_check c
check_static r (checks.Divisor b) = refl
check_static r (checks.Quotient t a b) = refl
check_static r (checks.Range op t a b) = refl
check_static r (checks.Negation t a) = refl
check_static r (checks.Count t u a) = refl
check_static r (checks.LeftShift t u a b) = refl
check_static r (checks.Returned a) = refl
check_static r (checks.Within p i t n size class) = refl
check_static r (checks.SameObject p q) = refl
check_static r (checks.Inside p count whole) = refl
check_static r (checks.AtMost a b most) = refl

renumbered_static : (limits : Limits) (r b : ℕ) (o : Operation) → is_static o ≡ true → is_static (renumbered r b (resolved limits o)) ≡ true
renumbered_static limits r b (operations.Check c) static = check_static r c ∙ static
renumbered_static limits r b (operations.MayFail into) static = absurd (false≢true static)
renumbered_static limits r b (operations.Limit x y) static = absurd (false≢true static)
renumbered_static limits r b _ static = static

passed_static : (assertions : Bool) (class : Class) (line f : ℕ) (rest : List Instruction) → is_static_code rest ≡ true → is_static_code (passed_code assertions class line f ∷ rest) ≡ true
passed_static true class line f rest h = h
passed_static false class line f rest h = h

hand_static : (site : Site) (line f : ℕ) (value : Option ℕ) → is_static_code (hand_code site line f value) ≡ true
hand_static site line f value = by_hands site.hands value
  where
    by_hands : (hands : Option Handing) (value : Option ℕ) → is_static_code (hand_code (record site { hands = hands }) line f value) ≡ true
    by_hands None value = refl
    by_hands (Some h) None = refl
    by_hands (Some h) (Some v) = refl

arguments_static : (line f : ℕ) (callers : List ℕ) (from count : ℕ) (sizes : List ℕ) (into : ℕ) → is_static_code (argument_code line f callers from count sizes into) ≡ true
arguments_static line f callers from zero sizes into = refl
arguments_static line f callers from (suc count) [] into = refl
arguments_static line f [] from (suc count) (size ∷ sizes) into = refl
arguments_static line f (c ∷ callers) from (suc count) (size ∷ sizes) into = arguments_static line f callers (from + 1) count sizes (into + 1)

-- ---- nodes

abbrev Keeps : Inline → Type 0
Keeps inline = (caller : Site) (line f g first count into r : ℕ) (rest : List Instruction) (space : Space) → is_static_code rest ≡ true → is_static_code (inline caller line f g first count into r rest space).code ≡ true

module _ (b : Bounded) (inline : Inline) (keeps : Keeps inline) where
  operation_keeps : (site : Site) (line f : ℕ) (o : Operation) (marks : List ℕ) (code : List Instruction) (space : Space) → is_static o ≡ true → is_static_code code ≡ true → is_static_code (instruction_code b inline site (at line f o) marks code space).code ≡ true
  operation_keeps site line f (operations.Skip n) marks code space static h = h
  operation_keeps site line f (operations.SkipIfZero a n) marks code space static h = h
  operation_keeps site line f (operations.Call g first count into r) marks code space static h = keeps site line f g first count into r code space h
  operation_keeps site line f (operations.Return v) marks code space static h = in_front (hand_code site line f v) (at line f (operations.Skip (jump code site.back)) ∷ code) (hand_static site line f v) h
  operation_keeps site line f (operations.Check c) marks code space static h =
      both_true {a = is_static_check (renumbered_check site.register c)} {b = is_static_code code} (check_static site.register c ∙ static) h
  operation_keeps site line f (operations.MayFail into) marks code space static h = absurd (false≢true static)
  operation_keeps site line f (operations.Limit x y) marks code space static h = absurd (false≢true static)
  operation_keeps site line f _ marks code space static h = λ k. static k && h k

  rounds_keep : (line f : ℕ) (round : (again : ℕ) → List Instruction → Space → Piece) → ((again : ℕ) (code : List Instruction) (space : Space) → is_static_code code ≡ true → is_static_code (round again code space).code ≡ true)
      → (k : ℕ) (code : List Instruction) (space : Space) → is_static_code code ≡ true → is_static_code (round_codes b inline line f round k code space).code ≡ true
  rounds_keep line f round keeps zero code space h = passed_static b.limits.assertions Unwind line f code h
  rounds_keep line f round keeps (suc k) code space h =
      let more = round_codes b inline line f round k code space in keeps (length more.code) more.code more.space (rounds_keep line f round keeps k code space h)

  nodes_keep : (site : Site) (nodes : Nodes) (later : List ℕ) (code : List Instruction) (space : Space) → are_static_nodes nodes ≡ true → is_static_code code ≡ true → is_static_code (nodes_code b inline site nodes later code space).code ≡ true
  nodes_keep site done later code space static h = h
  nodes_keep site (plain i more) later code space static h =
      let own = both (is_static i.operation) (are_static_nodes more) static in
      let behind = nodes_code b inline site more later code space in
      operation_keeps site i.line i.function i.operation behind.marks behind.code behind.space own.0 (nodes_keep site more later code space own.1 h)
  nodes_keep site (repeats line f l rotated body more) later code space static h =
      let own = both (are_static_nodes body) (are_static_nodes more) static in
      let behind = nodes_code b inline site more later code space in
      let round : ℕ → List Instruction → Space → Piece = λ again rest between. nodes_code b inline site body (again ∷ behind.marks) rest between in
      rounds_keep line f round (λ again rest between kept. nodes_keep site body (again ∷ behind.marks) rest between own.0 kept) (round_count rotated (tests b f l)) behind.code behind.space (nodes_keep site more later code space own.1 h)

  body_keeps : (site : Site) (code : List Instruction) (space : Space) → are_static_nodes site.routine.nodes ≡ true → is_static_code code ≡ true → is_static_code (body_code b inline site code space).code ≡ true
  body_keeps site code space static h =
      let ending = hand_code site site.routine.line 0 None in
      nodes_keep site site.routine.nodes (length (ending ++ code) ∷ []) (ending ++ code) space static (in_front ending code (hand_static site site.routine.line 0 None) h)

-- ---- calls

abbrev IsStatic : Option Routine → Type 0
IsStatic None = Unit {0}
IsStatic (Some p) = are_static_nodes p.nodes ≡ true

static_at : (functions : List Routine) (g : ℕ) → are_static functions ≡ true → IsStatic (slice_get functions g)
static_at [] g h = tt
static_at (p ∷ functions) zero h = (both (are_static_nodes p.nodes) (are_static functions) h).0
static_at (p ∷ functions) (suc g) h = static_at functions g (both (are_static_nodes p.nodes) (are_static functions) h).1

module _ (b : Bounded) (static : are_static b.functions ≡ true) where
  inlined_keeps : (inline : Inline) → Keeps inline → (p : Option Routine) → IsStatic p → Keeps (inlined b inline p)
  inlined_keeps inline keeps None own caller line f g first count into r rest space h = h
  inlined_keeps inline keeps (Some p) own caller line f g first count into r rest space h =
      let site : Site = record {
        routine = p;
        register = length space.registers;
        block = length space.blocks;
        hands = Some (record { block = caller.block + into; size = slice_index caller.routine.blocks into; register = caller.register + r });
        back = length rest;
      } in
      in_front (argument_code line f (drop first caller.routine.blocks) (caller.block + first) count p.blocks site.block) _ (arguments_static line f (drop first caller.routine.blocks) (caller.block + first) count p.blocks site.block)
      (body_keeps b inline keeps site rest (with_frame space p) own h)

  by_test : (z : Bool) (c d : Piece) → is_static_code c.code ≡ true → is_static_code d.code ≡ true → is_static_code (if z then c else d).code ≡ true
  by_test true c d g h = g
  by_test false c d g h = h

  inline_keeps : (fuel : ℕ) (left : List ℕ) → Keeps (inline_at b fuel left)
  inline_keeps zero left caller line f g first count into r rest space h = passed_static b.limits.assertions Recursion line f rest h
  inline_keeps (suc fuel) left caller line f g first count into r rest space h =
      by_test (slice_index left g == 0) _ _ (passed_static b.limits.assertions Recursion line f rest h)
      (inlined_keeps (inline_at b fuel (opened left g)) (inline_keeps fuel (opened left g)) (slice_get b.functions g) (static_at b.functions g static) caller line f g first count into r rest space h)

  first_keeps : (number : ℕ) (p : Option Routine) → IsStatic p → is_static_code (first_listing b number p).instructions ≡ true
  first_keeps number None own = refl
  first_keeps number (Some p) own =
      body_keeps b (inline_at b (first_fuel b - 1) (opened (first_left b) number)) (inline_keeps (first_fuel b - 1) (opened (first_left b) number)) (first_site p) (at p.line number operations.Exit ∷ []) (with_frame first_space p) own refl

-- the unrolled code of a program
pub unrolled_static : (g : GotoFile) (limits : Limits) → are_static (view_procedures g.functions) ≡ true → is_static_code (flat.main_code (unrolled g limits)).instructions ≡ true
unrolled_static g limits static = first_keeps (bounded_file false g limits) static g.main (slice_get (view_procedures g.functions) g.main) (static_at (view_procedures g.functions) g.main static)
