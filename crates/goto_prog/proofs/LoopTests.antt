-- How many times a test may be evaluated, by one loop of a set more.
use Rattle.std.proofs.Common.{◌≡◌, ℕ, ◌+◌, ◌<◌, ◌≤◌, Bool, true, false, ◌&&◌, List, ◌∷◌, drop, length, get_or, sym, ap, ◌∙◌}
use Rattle.std.specs.Prelude.{◌==◌, if◌then◌else◌}
use Rattle.std.specs.Str.{bytes_eq}
use Rattle.std.proofs.lemmas.List.{drop_more, drop_all}
use Rattle.core_tree.specs.declared.bounds.LoopBound.{LoopBound}
use Rattle.core_tree.specs.Ranges.{LoopLimit, loop_limit, loop_limits}
use Rattle.goto_prog.specs.Structured.{tests_in}

module _ (set : List LoopBound) (n : ℕ) (b : LoopBound) (others : ℕ) (f : List ℕ) (k : ℕ) (within : n < length set) (found : b ≡ get_or set n b) where
  front : tests_in (loop_limits (drop n set)) others f k ≡ tests_in (loop_limit b ∷ loop_limits (drop (n + 1) set)) others f k
  front =
      ap (λ xs. tests_in (loop_limits xs) others f k) (drop_more set n b within)
      ∙ ap (λ (x : LoopBound). tests_in (loop_limit x ∷ loop_limits (drop (n + 1) set)) others f k) (sym found)

  chosen : (t : Bool) (x y : ℕ) → t ≡ true → (if t then x else y) ≡ x
  chosen t x y h = λ j. if h j then x else y

  other : (t : Bool) (x y : ℕ) → t ≡ false → (if t then x else y) ≡ y
  other t x y h = λ j. if h j then x else y

  pub tests_here : bytes_eq b.function.bytes.items f ≡ true → (b.number == k) ≡ true → tests_in (loop_limits (drop n set)) others f k ≡ b.unwind
  tests_here named numbered =
      front ∙ chosen (bytes_eq b.function.bytes.items f && b.number == k) b.unwind (tests_in (loop_limits (drop (n + 1) set)) others f k) (λ j. named j && numbered j)

  pub tests_unnamed : bytes_eq b.function.bytes.items f ≡ false → tests_in (loop_limits (drop n set)) others f k ≡ tests_in (loop_limits (drop (n + 1) set)) others f k
  tests_unnamed named =
      front ∙ other (bytes_eq b.function.bytes.items f && b.number == k) b.unwind (tests_in (loop_limits (drop (n + 1) set)) others f k) (λ j. named j && b.number == k)

  both_false : (s t : Bool) → t ≡ false → (s && t) ≡ false
  both_false true t h = h
  both_false false t h = λ j. false

  pub tests_unnumbered : (b.number == k) ≡ false → tests_in (loop_limits (drop n set)) others f k ≡ tests_in (loop_limits (drop (n + 1) set)) others f k
  tests_unnumbered numbered =
      front ∙ other (bytes_eq b.function.bytes.items f && b.number == k) b.unwind (tests_in (loop_limits (drop (n + 1) set)) others f k) (both_false (bytes_eq b.function.bytes.items f) (b.number == k) numbered)

pub no_tests : (set : List LoopBound) (n others : ℕ) (f : List ℕ) (k : ℕ) → length set ≤ n → tests_in (loop_limits (drop n set)) others f k ≡ others
no_tests set n others f k past = ap (λ xs. tests_in (loop_limits xs) others f k) (drop_all n set past)
