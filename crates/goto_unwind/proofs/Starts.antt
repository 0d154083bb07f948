-- From the start to the end of unrolling.
use Rattle.std.proofs.Common.{◌≡◌, ℕ, zero, suc, ◌+◌, ◌*◌, ◌-◌, ◌<◌, true, false, List, [], ◌∷◌, length, Option, Some, None, refl, sym, ap, ◌∙◌, subst, arith}
use Rattle.std.specs.Prelude.{replicate, slice_get, slice_index, slice_set}
use Rattle.std.proofs.lemmas.Option.{slice_get_within, none-some}
use Rattle.core_tree.specs.Ranges.{Limits}
use Rattle.goto_prog.specs.declared.code.Operation.TheVariants as operations
use Rattle.goto_prog.specs.declared.code.Instruction.{Instruction}
use Rattle.std.specs.List.{list_all}
use Rattle.goto_prog.specs.UnrolledCode.{is_flat}
use Rattle.goto_prog.specs.Nodes.{Routine, view_procedure, view_procedures, routine_fits, routines_fit}
use Rattle.goto_prog.specs.Fitting.{code_fits}
use Rattle.goto_prog.specs.declared.nodes.Procedure.{Procedure}
use Rattle.goto_prog.proofs.Registers.{both}
use Rattle.goto_unwind.proofs.Fits.{piece_fits, piece_flat}
use Rattle.goto_prog.specs.Structured.{Bounded, opened, first_left, first_fuel}
use Rattle.goto_prog.specs.Walks.{total}
use Rattle.goto_prog.proofs.WalkerSteps.{sum_opened}
use Rattle.goto_unwind.specs.Unrolled.{Space, at, first_space, with_frame, inline_at, body_code}
use Rattle.goto_unwind.specs.Program.{first_site, first_piece, first_listing}
use Rattle.goto_unwind.specs.Unroller.{Level, Making, with_level, starting, Ended, ended, finish, outcome, weight}

-- ---- a level taken off

module _ (old new next : Making) (l : Level) (one : old.levels ≡ l ∷ new.levels) (others : new ≡ record old { levels = new.levels }) where
  whole : with_level l new ≡ old
  whole = ap (with_level l) others ∙ ap (λ ls. record old { levels = ls }) (sym one)

  pub popped_same : outcome next ≡ outcome (with_level l new) → outcome next ≡ outcome old
  popped_same same = same ∙ ap outcome whole

  pub popped_lighter : weight next < weight (with_level l new) → weight next < weight old
  popped_lighter less = subst (λ m. weight next < weight m) whole less

-- ---- counts of activations

total_same : (n k : ℕ) → total (replicate n k) ≡ n * k
total_same zero k = omega arith
total_same (suc n) k = omega (arith, total_same n k)

index_same : (n k f : ℕ) → f < n → slice_index (replicate n k) f ≡ k
index_same zero k f lt = absurd (omega (arith, lt))
index_same (suc n) k zero lt = refl
index_same (suc n) k (suc f) lt = index_same n k f (omega (arith, lt))

-- ---- functions by their numbers

or_routine : Routine → Option Routine → Routine
or_routine q None = q
or_routine q (Some p) = p

same_routine : (q p : Routine) → Some q ≡ Some p → q ≡ p
unfolding or_routine
same_routine q p h = ap (or_routine q) h

pub one_fits : (ps : List Routine) (n : ℕ) (p : Routine) → routines_fit ps ≡ true → slice_get ps n ≡ Some p → routine_fits p ≡ true
one_fits [] zero p fits found = absurd (none-some p found)
one_fits [] (suc n) p fits found = absurd (none-some p found)
one_fits (q ∷ ps) zero p fits found = subst (λ r. routine_fits r ≡ true) (same_routine q p found) (both (routine_fits q) (routines_fit ps) fits).0
one_fits (q ∷ ps) (suc n) p fits found = one_fits ps n p (both (routine_fits q) (routines_fit ps) fits).1 found

pub some_there : (ps : List Procedure) (n : ℕ) → n < length ps → None ≡ slice_get (view_procedures ps) n → ⊥
some_there [] n within none = omega (arith, within)
some_there (q ∷ ps) zero within none = none-some (view_procedure q) none
some_there (q ∷ ps) (suc n) within none = some_there ps n (omega (arith, within)) none

-- ---- the code of the function that thread 0 calls

module _ (functions : List Routine) (limits : Limits) (number : ℕ) (p : Routine) (positive : 0 < limits.unwind) (found : slice_get functions number ≡ Some p) where
  abbrev pub b : Bounded
  b = record { strict = false; functions = functions; limits = limits }

  within : number < length functions
  within = slice_get_within functions number p found

  abbrev left : List ℕ
  left = opened (first_left b) number

  left_is : slice_set (replicate (length functions) limits.unwind) number (limits.unwind - 1) ≡ left
  left_is = ap (λ n. slice_set (replicate (length functions) limits.unwind) number (n - 1)) (sym (index_same (length functions) limits.unwind number within))

  fuel_is : suc (total left) ≡ first_fuel b - 1
  fuel_is =
      let some : 0 < slice_index (first_left b) number = subst (λ k. 0 < k) (sym (index_same (length functions) limits.unwind number within)) positive in
      by_parts (length functions * limits.unwind) (total (first_left b)) (total left) (total_same (length functions) limits.unwind) (sum_opened (first_left b) number some)
    where
      by_parts : (n t s : ℕ) → t ≡ n → t ≡ suc s → suc s ≡ n + 1 - 1
      by_parts n t s one two = omega (arith, one, two)

  abbrev exit : List Instruction
  exit = at p.line number operations.Exit ∷ []

  abbrev now : List ℕ → ℕ → Ended
  now l fuel = let c = body_code b (inline_at b fuel l) (first_site p) exit (with_frame first_space p) in ended l c.code c.space

  starting_outcome : outcome (starting functions limits number p) ≡ ended left (first_piece b number p).code (first_piece b number p).space
  starting_outcome = ap (λ l. now l (suc (total l))) left_is ∙ ap (λ k. now left k) fuel_is

  -- where all levels are done, the code is all
  module _ (start m : Making) (starts : start ≡ starting functions limits number p) (same : outcome m ≡ outcome start) (none : m.levels ≡ []) where
    all : ended m.left m.code m.space ≡ ended left (first_piece b number p).code (first_piece b number p).space
    all = sym (ap (λ ls. finish (record { strict = false; functions = m.functions; limits = m.limits }) m.left ls m.marks m.code m.space) none) ∙ same ∙ ap outcome starts ∙ starting_outcome

    pub code_is : m.code ≡ (first_piece b number p).code
    code_is = ap (λ (e : Ended). e.code) all

    pub space_is : m.space ≡ (first_piece b number p).space
    space_is = ap (λ (e : Ended). e.space) all

    pub all_fits : routines_fit functions ≡ true → code_fits m.space.registers m.space.blocks m.code ≡ true
    all_fits fit =
        subst (λ (s : Space). code_fits s.registers s.blocks m.code ≡ true) (sym space_is)
        (subst (λ code. code_fits (first_piece b number p).space.registers (first_piece b number p).space.blocks code ≡ true) (sym code_is) (piece_fits b number p fit (one_fits functions number p fit found)))

    pub all_flat : routines_fit functions ≡ true → list_all (λ (i : Instruction). is_flat i.operation) m.code ≡ true
    all_flat fit =
        subst (λ code. list_all (λ (i : Instruction). is_flat i.operation) code ≡ true) (sym code_is) (piece_flat b number p fit (one_fits functions number p fit found))

    pub listing_is : record { registers = m.space.registers; blocks = m.space.blocks; instructions = m.code; startable = false } ≡ first_listing b number (slice_get functions number)
    listing_is = (λ i. record { registers = (space_is i).registers; blocks = (space_is i).blocks; instructions = code_is i; startable = false }) ∙ ap (first_listing b number) (sym found)
