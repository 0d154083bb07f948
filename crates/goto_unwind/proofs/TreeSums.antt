-- What a tree counts is what its linear sum comes to.
use Rattle.std.proofs.Common.{◌≡◌, ℕ, Bool, true, false, cond, zero, suc, ◌+◌, ◌*◌, ◌-◌, ◌≤◌, inl, inr, List, [], ◌∷◌, ◌++◌, Option, Some, None, refl, sym, ap, ◌∙◌, arith}
use Rattle.std.specs.Prelude.{◌==◌}
use Rattle.std.proofs.lemmas.Bool.Decides.{nat_tests}
use Rattle.std.proofs.Math.Nat.{mul_comm}
use Rattle.std.proofs.lemmas.Bool.{cases_lt}
use Rattle.core_tree.specs.Trees.{call, function_name, give, Arguments, no_argument, number_argument, structure_argument, returns_structure, returns_nothing, for_loop, do_loop, switch, breaks, continues, jumps, stray, label, case_at, default_at, Place, variable_at, object_at, literal_at, pointed, arrow, member, element, subscript, Expression, constant, read, convert, sign, is_zero, arithmetic, compare, logical, choice, assign, update, step, comma, assertion, assumption, draw, part, discard, discard_structure, size_of_value, size_of_structure, address, sum, distance, relation, pointer_update, pointer_step, allocate, allocate_zeroed, release, exit, abort, Structure, copy, choose, put, follow, section, list, string, Parts, no_part, number_part, structure_part, Statement, block, if_then, if_else, evaluate, returns, Items, done, declares, initializes, initializes_structure, does}
use Rattle.goto_unwind.specs.declared.linear_count.Called.{Called}
use Rattle.core_tree.specs.declared.functions.Variable.{Variable}
use Rattle.core_tree.specs.declared.functions.PassedType.{PassedType}
use Rattle.goto_unwind.specs.Places.{Weights, optional, home_count, home_at, parameters_count, place_count, expression_count, structure_count, parts_count, argument_count, statement_count, items_count}
use Rattle.goto_unwind.specs.Linear.{cut, Linear, counted, made, home_made, parameters_made, called, place_linear, expression_linear, structure_linear, parts_linear, arguments_linear, optional_linear, statement_linear, items_linear, calls_value, value}

-- ---- sums and products that are cut

pub cut_front : (s a b : ℕ) → cut a ≡ cut b → cut (s + a) ≡ cut (s + b)
cut_front s a b same = omega (arith, same)

pub cut_back : (a b q : ℕ) → cut a ≡ cut b → cut (a + q) ≡ cut (b + q)
cut_back a b q same = omega (arith, same)

pub cut_both : (a b c d : ℕ) → cut a ≡ cut b → cut c ≡ cut d → cut (a + c) ≡ cut (b + d)
cut_both a b c d one other = omega (arith, one, other)

large : (m x : ℕ) → 2000001 ≤ m → 2000001 ≤ m * suc x
large m x more = omega (arith, more)

small_factor : (m k x : ℕ) → k ≡ m → cut (k * x) ≡ cut (m * x)
small_factor m k x same = ap (λ i. cut (i * x)) same

large_factor : (m k x : ℕ) → 2000001 ≤ m → 2000001 ≤ k → cut (k * suc x) ≡ cut (m * suc x)
large_factor m k x more most = omega (arith, large m x more, large k x most)

-- a factor may be cut
pub cut_times : (m x : ℕ) → cut (cut m * x) ≡ cut (m * x)
cut_times m zero = omega arith
cut_times m (suc x) = elim (cases_lt m 2000001) [ inl few ↦ small_factor m (cut m) (suc x) (omega (arith, few)) | inr more ↦ large_factor m (cut m) x more (omega (arith, more)) ]

pub cut_factor : (t x y : ℕ) → cut x ≡ cut y → cut (t * x) ≡ cut (t * y)
cut_factor t x y same =
    ap cut (mul_comm t x) ∙ sym (cut_times x t) ∙ ap (λ k. cut (k * t)) same ∙ cut_times y t ∙ ap cut (mul_comm y t)

-- ---- trees

-- so many times so much more, of which each is cut
cut_sum : (p m v : ℕ) → cut (cut (p + cut m) + v) ≡ cut (p + v + m)
cut_sum p m v = omega arith

more_of : (p k x y v : ℕ) → y ≡ x → cut (cut (p + cut (k * y)) + v) ≡ cut (p + v + k * x)
more_of p k x y v h = cut_sum p (k * y) v ∙ ap (λ z. cut (p + v + k * z)) h

module _ (w : Weights) (calls : ℕ → ℕ) where
  calls_more : (cs : List Called) (c : Called) → calls_value calls (cs ++ c ∷ []) ≡ calls_value calls cs + c.times * calls c.callee
  calls_more [] c = omega arith
  calls_more (b ∷ cs) c = omega (arith, calls_more cs c)

  -- from one sum of what is counted to another, which has so many times so much more
  pub record Adds (n x : ℕ) (s t : Linear) : Type 0 where
    pub same : s.weights ≡ w → t.weights ≡ w
    pub adds : s.weights ≡ w → cut (value calls t) ≡ cut (value calls s + n * x)

  one : (n : ℕ) (s : Linear) → Adds n w.node s (counted n s)
  one n s = record { same = λ h. h; adds = λ h. more_of s.own n w.node s.weights.node (calls_value calls s.calls) (ap (λ (u : Weights). u.node) h) }

  object : (n : ℕ) (s : Linear) → Adds n w.object s (made n s)
  object n s = record { same = λ h. h; adds = λ h. more_of s.own n w.object s.weights.object (calls_value calls s.calls) (ap (λ (u : Weights). u.object) h) }

  nothing_more : (n : ℕ) (s : Linear) → Adds n 0 s s
  nothing_more n s = record { same = λ h. h; adds = λ h. by_parts (value calls s) n }
    where
      by_parts : (v k : ℕ) → cut v ≡ cut (v + k * 0)
      by_parts v k = omega arith

  home_adds : (n : ℕ) (home : Option ℕ) (s : Linear) → Adds n (home_count w home) s (home_made n home s)
  home_adds n None s = nothing_more n s
  home_adds n (Some h) s = object n s

  missing : (n : ℕ) (s : Linear) → Adds n 0 s (counted 0 s)
  missing n s = record { same = λ h. h; adds = λ h. by_parts s.own n s.weights.node (calls_value calls s.calls) }
    where
      by_parts : (p k y v : ℕ) → cut (cut (p + cut (0 * y)) + v) ≡ cut (p + v + k * 0)
      by_parts p k y v = omega arith

  pub followed : {n x y : ℕ} {s t u : Linear} → Adds n x s t → Adds n y t u → Adds n (x + y) s u
  followed {n} {x} {y} {s} {t} {u} first second =
      record { same = λ h. second.same (first.same h); adds = λ h. by_parts (value calls s) (value calls t) (value calls u) n x y (first.adds h) (second.adds (first.same h)) }
    where
      by_parts : (a b c k i j : ℕ) → cut b ≡ cut (a + k * i) → cut c ≡ cut (b + k * j) → cut c ≡ cut (a + k * (i + j))
      by_parts a b c k i j one two = omega (arith, one, two)

  pub parameters_adds : (ps : List PassedType) (vs : List Variable) (s : Linear) → Adds 1 (parameters_count w ps vs) s (parameters_made 1 ps vs s)
  parameters_adds [] vs s = nothing_more 1 s
  parameters_adds (p ∷ ps) [] s = nothing_more 1 s
  parameters_adds (p ∷ ps) (v ∷ vs) s = followed (home_adds 1 v.home s) (parameters_adds ps vs _)

  called_adds : (n f : ℕ) (s : Linear) → Adds n (calls f) s (called f n s)
  called_adds n f s = by (n == 0) refl
    where
      by_parts : (p v k x w : ℕ) → w ≡ v + k * x → cut (p + w) ≡ cut (p + v + k * x)
      by_parts p v k x w is = omega (arith, is)

      is_zero : (k : ℕ) → (k == 0) ≡ true → k ≡ 0
      is_zero k h = grind (arith, nat_tests)

      no_times : (p v x : ℕ) → cut (p + v) ≡ cut (p + v + 0 * x)
      no_times p v x = omega arith

      none : (p v k x : ℕ) → k ≡ 0 → cut (p + v) ≡ cut (p + v + k * x)
      none p v k x h = no_times p v x ∙ ap (λ (j : ℕ). cut (p + v + j * x)) (sym h)

      more : Linear
      more = record { weights = s.weights; own = s.own; calls = s.calls ++ record { callee = f; times = n } ∷ [] }

      by : (z : Bool) → (n == 0) ≡ z → Adds n (calls f) s (cond z s more)
      by true h = record { same = λ e. e; adds = λ e. none s.own (calls_value calls s.calls) n (calls f) (is_zero n h) }
      by false h = record { same = λ e. e; adds = λ e. by_parts s.own (calls_value calls s.calls) n (calls f) (calls_value calls more.calls) (calls_more s.calls (record { callee = f; times = n })) }

  -- so many times more
  times : {n x : ℕ} {s t : Linear} (k : ℕ) → Adds (cut (n * k)) x s t → Adds n (k * x) s t
  times {n} {x} {s} {t} k more = record { same = more.same; adds = λ h. more.adds h ∙ cut_front (value calls s) (cut (n * k) * x) (n * k * x) (cut_times (n * k) x) ∙ by_parts (value calls s) n k x }
    where
      by_parts : (v m i j : ℕ) → cut (v + m * i * j) ≡ cut (v + m * (i * j))
      by_parts v m i j = omega arith

  module _ (tests : ℕ → ℕ) where
    mutual
      pub place_adds : (n : ℕ) (x : Place) (s : Linear) → Adds n (place_count w tests calls x) s (place_linear n x s)
      place_adds n (variable_at line v offset) s = one n s
      place_adds n (object_at line k offset) s = one n s
      place_adds n (literal_at line k) s = one n s
      place_adds n (pointed line e) s = followed (one n s) (expression_adds n e _)
      place_adds n (arrow line e offset) s = followed (one n s) (expression_adds n e _)
      place_adds n (member line x offset) s = followed (one n s) (place_adds n x _)
      place_adds n (element line x e size whole swapped) s = followed (one n s) (followed (place_adds n x _) (expression_adds n e _))
      place_adds n (subscript line a e size swapped) s = followed (one n s) (followed (expression_adds n a _) (expression_adds n e _))

      pub expression_adds : (n : ℕ) (e : Expression) (s : Linear) → Adds n (expression_count w tests calls e) s (expression_linear n e s)
      expression_adds n (constant line t bits) s = one n s
      expression_adds n (read t x) s = followed (one n s) (place_adds n x _)
      expression_adds n (convert to e) s = followed (one n s) (expression_adds n e _)
      expression_adds n (sign line op e) s = followed (one n s) (expression_adds n e _)
      expression_adds n (is_zero line e) s = followed (one n s) (expression_adds n e _)
      expression_adds n (arithmetic line op a b) s = followed (one n s) (followed (expression_adds n a _) (expression_adds n b _))
      expression_adds n (compare line op a b) s = followed (one n s) (followed (expression_adds n a _) (expression_adds n b _))
      expression_adds n (logical line op a b) s = followed (one n s) (followed (expression_adds n a _) (expression_adds n b _))
      expression_adds n (choice line test a b) s = followed (one n s) (followed (expression_adds n test _) (followed (expression_adds n a _) (expression_adds n b _)))
      expression_adds n (assign line t x e) s = followed (one n s) (followed (place_adds n x _) (expression_adds n e _))
      expression_adds n (update line t x op u e) s = followed (one n s) (followed (place_adds n x _) (expression_adds n e _))
      expression_adds n (step line t x op before) s = followed (one n s) (place_adds n x _)
      expression_adds n (comma line a b) s = followed (one n s) (followed (expression_adds n a _) (expression_adds n b _))
      expression_adds n (assertion line e) s = followed (one n s) (expression_adds n e _)
      expression_adds n (assumption line e) s = followed (one n s) (expression_adds n e _)
      expression_adds n (draw line t) s = one n s
      expression_adds n (part line t offset a) s = followed (one n s) (structure_adds n a _)
      expression_adds n (discard line e) s = followed (one n s) (expression_adds n e _)
      expression_adds n (discard_structure a) s = structure_adds n a s
      expression_adds n (call line f used t args) s = followed (one n s) (followed (arguments_adds n args _) (called_adds n f _))
      expression_adds n (function_name line) s = one n s
      expression_adds n (size_of_value line bits e) s = one n s
      expression_adds n (size_of_structure line bits a) s = one n s
      expression_adds n (address line x) s = followed (one n s) (place_adds n x _)
      expression_adds n (sum line a e i swapped) s = followed (one n s) (followed (expression_adds n a _) (expression_adds n e _))
      expression_adds n (distance line a b i) s = followed (one n s) (followed (expression_adds n a _) (expression_adds n b _))
      expression_adds n (relation line op a b) s = followed (one n s) (followed (expression_adds n a _) (expression_adds n b _))
      expression_adds n (pointer_update line x i e) s = followed (one n s) (followed (place_adds n x _) (expression_adds n e _))
      expression_adds n (pointer_step line x i before) s = followed (one n s) (place_adds n x _)
      expression_adds n (allocate line e) s = followed (one n s) (followed (object n _) (expression_adds n e _))
      expression_adds n (allocate_zeroed line a b) s = followed (one n s) (followed (object n _) (followed (expression_adds n a _) (expression_adds n b _)))
      expression_adds n (release line e) s = followed (one n s) (expression_adds n e _)
      expression_adds n (exit line e) s = followed (one n s) (expression_adds n e _)
      expression_adds n (abort line) s = one n s

      pub structure_adds : (n : ℕ) (a : Structure) (s : Linear) → Adds n (structure_count w tests calls a) s (structure_linear n a s)
      structure_adds n (copy x size) s = followed (one n s) (place_adds n x _)
      structure_adds n (choose line test a b) s = followed (one n s) (followed (expression_adds n test _) (followed (structure_adds n a _) (structure_adds n b _)))
      structure_adds n (put line x a) s = followed (one n s) (followed (place_adds n x _) (structure_adds n a _))
      structure_adds n (follow line e a) s = followed (one n s) (followed (expression_adds n e _) (structure_adds n a _))
      structure_adds n (section line offset size a) s = followed (one n s) (structure_adds n a _)
      structure_adds n (list line size ps) s = parts_adds n ps s
      structure_adds n (string line size text) s = one n s
      structure_adds n (give line f used size args) s = followed (one n s) (followed (arguments_adds n args _) (called_adds n f _))

      pub parts_adds : (n : ℕ) (ps : Parts) (s : Linear) → Adds n (parts_count w tests calls ps) s (parts_linear n ps s)
      parts_adds n no_part s = nothing_more n s
      parts_adds n (number_part offset e rest) s = followed (expression_adds n e s) (parts_adds n rest _)
      parts_adds n (structure_part offset a rest) s = followed (structure_adds n a s) (parts_adds n rest _)

      pub arguments_adds : (n : ℕ) (args : Arguments) (s : Linear) → Adds n (argument_count w tests calls args) s (arguments_linear n args s)
      arguments_adds n no_argument s = nothing_more n s
      arguments_adds n (number_argument e rest) s = followed (expression_adds n e s) (arguments_adds n rest _)
      arguments_adds n (structure_argument a rest) s = followed (structure_adds n a s) (arguments_adds n rest _)

    first_adds : (n : ℕ) (e : Option Expression) (s : Linear) → Adds n (optional (expression_count w tests calls) 0 e) s (optional_linear n 0 e s)
    first_adds n None s = missing n s
    first_adds n (Some e) s = expression_adds n e s

    test_adds : (n : ℕ) (e : Option Expression) (s : Linear) → Adds n (optional (expression_count w tests calls) w.node e) s (optional_linear n n e s)
    test_adds n None s = one n s
    test_adds n (Some e) s = expression_adds n e s

    module _ (variables : List Variable) where
      mutual
        pub statement_adds : (n : ℕ) (a : Statement) (s : Linear) → Adds n (statement_count w tests calls variables a) s (statement_linear tests variables n a s)
        statement_adds n (block items) s = followed (one n s) (items_adds n items _)
        statement_adds n (if_then line test a) s = followed (one n s) (followed (expression_adds n test _) (statement_adds n a _))
        statement_adds n (if_else line test a b) s = followed (one n s) (followed (expression_adds n test _) (followed (statement_adds n a _) (statement_adds n b _)))
        statement_adds n (evaluate e) s = followed (one n s) (expression_adds n e _)
        statement_adds n (returns line e) s = followed (one n s) (expression_adds n e _)
        statement_adds n (returns_structure line a) s = followed (one n s) (structure_adds n a _)
        statement_adds n (returns_nothing line) s = one n s
        statement_adds n (for_loop line l first test last a) s =
            followed (one n s) (followed (first_adds n first _) (followed (times (tests l) (test_adds _ test _)) (times (tests l - 1) (followed (statement_adds _ a _) (first_adds _ last _)))))
        statement_adds n (do_loop line l a test) s = followed (one n s) (followed (times (tests l) (statement_adds _ a _)) (times (tests l) (expression_adds _ test _)))
        statement_adds n (switch line e items) s = followed (one n s) (followed (expression_adds n e _) (items_adds n items _))
        statement_adds n (breaks line) s = one n s
        statement_adds n (continues line) s = one n s
        statement_adds n (jumps line k) s = one n s
        statement_adds n (stray line a) s = followed (one n s) (statement_adds n a _)

        pub items_adds : (n : ℕ) (is : Items) (s : Linear) → Adds n (items_count w tests calls variables is) s (items_linear tests variables n is s)
        items_adds n done s = nothing_more n s
        items_adds n (declares line v rest) s = followed (followed (one n s) (home_adds n (home_at variables v) _)) (items_adds n rest _)
        items_adds n (initializes line v drawn e rest) s = followed (followed (one n s) (followed (home_adds n (home_at variables v) _) (expression_adds n e _))) (items_adds n rest _)
        items_adds n (initializes_structure line v drawn a rest) s = followed (followed (one n s) (followed (home_adds n (home_at variables v) _) (structure_adds n a _))) (items_adds n rest _)
        items_adds n (does a rest) s = followed (statement_adds n a s) (items_adds n rest _)
        items_adds n (label k rest) s = followed (one n s) (items_adds n rest _)
        items_adds n (case_at line t bits rest) s = followed (one n s) (items_adds n rest _)
        items_adds n (default_at line rest) s = followed (one n s) (items_adds n rest _)
