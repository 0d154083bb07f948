-- A trace of a program is the failure that is told.
use Rattle.std.proofs.Common.{◌≡◌, ℕ, suc, zero, ◌<◌, ◌≤◌, ◌^◌, true, List, [], ◌∷◌, ◌++◌, length, Option, Some, None, option_map, sym, refl, ap, ◌∙◌, subst, All, arith}
use Rattle.std.specs.Prelude.{slice_get}
use Rattle.core_tree.specs.declared.functions.Function.{Function}
use Rattle.core_tree.specs.declared.functions.Name.{Name}
use Rattle.core_tree.specs.Trees.{Procedure, TypedFile, view_functions}
use Rattle.core_tree.specs.Ranges.{Limits}
use Rattle.c_profile.specs.Rules.{first_breach}
use Rattle.cbmc_top.proofs.Congruent.{SameWords, replays_same}
use Rattle.interleave.specs.Replay.{Replays}
use Rattle.interleave.specs.declared.inputs.Trace.{Trace}
use Rattle.report.specs.Identifiers.{is_identifier}
use Rattle.cbmc_top.specs.Spelled.{IsTypedOf}
use Rattle.run_search.specs.Executions.{bounded_world}
use Rattle.report.specs.Report.{IsDrawn, IsRow, AreRising, AreMaximal}
use Rattle.report.specs.Failing.{turns_of, drew, rows_in, failure_of}
use Rattle.cbmc_top.specs.Answers.{name_in, IsFailure}
use Rattle.cbmc_top.specs.Verdicts.{IsBroken}
use Rattle.cbmc_top.proofs.Named.{broken_there}
use Rattle.cbmc_top.proofs.FunctionNames.{functions_named}
use Rattle.cbmc_top.proofs.TokenNames.{IsIdentifier, file_named}

-- ---- names

some_is : {A : Type 0} {x y : A} → Some x ≡ Some y → x ≡ y
some_is e = cc

at_place : (fs : List Procedure) (k : ℕ) (name : List ℕ) → option_map (λ (f : Procedure). f.name) (slice_get fs k) ≡ Some name → (f : Procedure) × (slice_get fs k ≡ Some f) × (f.name ≡ name)
at_place fs k name h = by_found (slice_get fs k) refl h
  where
    by_found : (o : Option Procedure) → slice_get fs k ≡ o → option_map (λ (f : Procedure). f.name) o ≡ Some name → (f : Procedure) × (slice_get fs k ≡ Some f) × (f.name ≡ name)
    by_found None e h = absurd (cc)
    by_found (Some f) e h = (f, e, some_is h)

-- The name of the function that a broken check stands in.
pub named : (bytes : List ℕ) (core : TypedFile) (limits : Limits) (t : Trace) → IsTypedOf bytes core → first_breach core ≡ None → IsBroken limits core t → (name : List ℕ) × (name_in core t.check.function ≡ Some name) × (is_identifier name ≡ true)
named bytes core limits t p admitted r =
    let x = broken_there core limits t.inputs t.schedule t.check admitted r in
    let f = at_place core.functions t.check.function x.0 x.1 in
    let word = functions_named IsIdentifier p.tree core p.typed (file_named bytes p.tree p.spelling) t.check.function f.0 f.1 in
    (x.0, x.1, ap is_identifier (sym f.2) ∙ word)

pub name_found : (functions : List Function) (number : ℕ) (o : Option Name) → o ≡ option_map (λ (f : Function). f.name) (slice_get functions number)
    → option_map (λ (f : Procedure). f.name) (slice_get (view_functions functions) number) ≡ option_map (λ (n : Name). n.bytes.items) o
name_found [] number o e = rw e refl
name_found (f ∷ functions) zero o e = rw e refl
name_found (f ∷ functions) (suc n) o e = name_found functions n o e

-- ---- the failure

-- the run has turns
has_rows : (schedule front : List ℕ) (last : ℕ) (rows : List (ℕ × ℕ)) → schedule ≡ front ++ last ∷ [] → turns_of rows ≡ schedule → 0 < length rows
has_rows schedule front last [] whole turns = absurd (none front last (turns ∙ whole))
  where
    none : (front : List ℕ) (last : ℕ) → [] ≡ front ++ last ∷ [] → ⊥
    none [] last e = cc
    none (t ∷ front) last e = cc
has_rows schedule front last (r ∷ rows) whole turns = omega arith

pub is_failure : (limits : Limits) (core : TypedFile) (t : Trace) (name : List ℕ) → IsBroken limits core t
    → name_in core t.check.function ≡ Some name → is_identifier name ≡ true → SameWords (drew t.inputs) t.inputs → All IsDrawn (drew t.inputs) → AreRising (drew t.inputs)
    → turns_of (rows_in t.schedule) ≡ t.schedule → All IsRow (rows_in t.schedule) → AreMaximal (rows_in t.schedule) → 1 ≤ t.check.line → t.check.line < 2 ^ 32 → t.check.thread < 2 ^ 32
    → IsFailure limits core (failure_of t name)
is_failure limits core t name broken found word same drawn rising turns each maximal positive line thread = record {
  check = t.check;
  replays = subst (λ schedule. Replays (bounded_world limits core) (drew t.inputs) schedule t.check) (sym turns)
      (replays_same (bounded_world limits core) t.inputs (drew t.inputs) t.schedule t.check (λ k. sym (same k)) broken);
  class = refl;
  line = refl;
  function = found;
  thread = refl;
  told = record {
    first = positive;
    ranges = record {
      line = line;
      function = word;
      thread = thread;
      drawn = drawn;
      rising = rising;
      rows = each;
      some = has_rows t.schedule broken.front broken.last (rows_in t.schedule) broken.whole turns;
      maximal = maximal;
    };
  };
}

pub same_identifier : (core : TypedFile) (number : ℕ) (name : List ℕ) → (x : List ℕ) × (name_in core number ≡ Some x) × (is_identifier x ≡ true) → name_in core number ≡ Some name → is_identifier name ≡ true
same_identifier core number name x e = ap is_identifier (some_is (sym e ∙ x.1)) ∙ x.2
