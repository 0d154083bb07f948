-- What a file counts is what its functions' linear sums come to.
use Rattle.std.proofs.Common.{◌≡◌, ℕ, zero, suc, ◌+◌, ◌*◌, Bool, true, false, List, [], ◌∷◌, length, map, Option, Some, None, refl, sym, ap, ◌∙◌, arith}
use Rattle.std.specs.Prelude.{min, ◌==◌, replicate, slice_get, slice_index, option_map, if◌then◌else◌}
use Rattle.std.proofs.lemmas.Option.{slice_get-map}
use Rattle.std.proofs.lemmas.List.{length-map}
use Rattle.core_tree.specs.Ranges.{Limits}
use Rattle.core_tree.specs.Trees.{Statement, Procedure}
use Rattle.goto_prog.specs.Structured.{tests_in, opened}
use Rattle.goto_prog.specs.Walks.{total}
use Rattle.goto_unwind.specs.declared.linear_count.Called.{Called}
use Rattle.goto_unwind.specs.Places.{Weights, name_of, tests, body_count, function_count, call_count, main_number, file_count}
use Rattle.goto_unwind.specs.Linear.{cut, Linear, nothing, body_linear, function_linear, calls_value, value, or_nothing, linear_of, linear_sum, added}
use Rattle.goto_unwind.proofs.TreeSums.{followed, parameters_adds, statement_adds, cut_front, cut_both, cut_factor}

total_same : (n k : ℕ) → total (replicate n k) ≡ n * k
total_same zero k = omega arith
total_same (suc n) k = omega (arith, total_same n k)

-- calls that add the same
calls_same : (calls more : ℕ → ℕ) → ((g : ℕ) → cut (calls g) ≡ cut (more g)) → (cs : List Called) → cut (calls_value calls cs) ≡ cut (calls_value more cs)
calls_same calls more same [] = refl
calls_same calls more same (c ∷ cs) = cut_both (c.times * calls c.callee) (c.times * more c.callee) (calls_value calls cs) (calls_value more cs) (cut_factor c.times (calls c.callee) (more c.callee) (same c.callee)) (calls_same calls more same cs)

value_same : (calls more : ℕ → ℕ) → ((g : ℕ) → cut (calls g) ≡ cut (more g)) → (s : Linear) → cut (value calls s) ≡ cut (value more s)
value_same calls more same s = cut_front s.own (calls_value calls s.calls) (calls_value more s.calls) (calls_same calls more same s.calls)

body_same : (w : Weights) (tests calls : ℕ → ℕ) (f : Procedure) (b : Option Statement) → cut (body_count w tests calls f b) ≡ cut (value calls (body_linear w tests f b))
body_same w tests calls f None = refl
body_same w tests calls f (Some a) =
    by_parts _ _ ((followed w calls (parameters_adds w calls f.parameters f.variables (nothing w)) (statement_adds w calls tests f.variables 1 a _)).adds refl)
  where
    by_parts : (p v : ℕ) → cut v ≡ cut (0 + 0 + 1 * p) → cut p ≡ cut v
    by_parts p v is = omega (arith, is)

chosen_same : (b : Bool) (x y : ℕ) → cut x ≡ cut y → cut (if b then 0 else x) ≡ cut (if b then 0 else y)
chosen_same true x y same = refl
chosen_same false x y same = same

module _ (w : Weights) (functions : List Procedure) (bounds : Limits) where
  abbrev table : List Linear
  table = map (function_linear w bounds) functions

  function_same : (calls : ℕ → ℕ) (o : Option Procedure) → cut (function_count w (tests_in bounds.set bounds.unwind (name_of o)) calls o) ≡ cut (value calls (or_nothing (option_map (function_linear w bounds) o)))
  function_same calls None = refl
  function_same calls (Some f) = body_same w (tests_in bounds.set bounds.unwind f.name) calls f f.body

  call_same : (fuel : ℕ) (left : List ℕ) (f : ℕ) → cut (call_count w functions bounds fuel left f) ≡ cut (linear_sum table fuel left f)
  call_same zero left f = refl
  call_same (suc fuel) left f =
      let calls = call_count w functions bounds fuel (opened left f) in
      let more = linear_sum table fuel (opened left f) in
      chosen_same (slice_index left f == 0) _ _
      (function_same calls (slice_get functions f)
      ∙ ap (λ o. cut (value calls (or_nothing o))) (sym (slice_get-map (function_linear w bounds) functions f))
      ∙ value_same calls more (call_same fuel (opened left f)) (linear_of table f))

  one_more : (n : ℕ) → n + 1 ≡ suc n
  one_more n = omega arith

  -- the file's count
  pub whole_same : cut (file_count w functions bounds) ≡ cut (added table (replicate (length table) bounds.unwind) (main_number functions))
  whole_same =
      let left = replicate (length functions) bounds.unwind in
      call_same (length functions * bounds.unwind + 1) left (main_number functions)
      ∙ ap (λ k. cut (linear_sum table k left (main_number functions))) (one_more (length functions * bounds.unwind) ∙ ap suc (sym (total_same (length functions) bounds.unwind)))
      ∙ ap (λ n. cut (added table (replicate n bounds.unwind) (main_number functions))) (sym (length-map functions (function_linear w bounds)))

pub file_same : (w : Weights) (functions : List Procedure) (bounds : Limits) (t : List Linear) (u m : ℕ) → t ≡ map (function_linear w bounds) functions → u ≡ bounds.unwind → m ≡ main_number functions
    → cut (added t (replicate (length t) u) m) ≡ min (file_count w functions bounds) 2000001
file_same w functions bounds t u m one two three =
    ap (λ (x : List Linear). cut (added x (replicate (length x) u) m)) one
    ∙ ap (λ k. cut (added (table w functions bounds) (replicate (length (table w functions bounds)) k) m)) two
    ∙ ap (λ k. cut (added (table w functions bounds) (replicate (length (table w functions bounds)) bounds.unwind) k)) three
    ∙ sym (whole_same w functions bounds)
