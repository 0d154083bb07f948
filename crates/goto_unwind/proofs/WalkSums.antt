-- A step of a walk through calls keeps what it comes to, and brings it nearer.
use Rattle.std.proofs.Common.{◌≡◌, ℕ, zero, suc, ◌+◌, ◌*◌, ◌-◌, ◌<◌, ◌≤◌, Bool, true, false, List, [], ◌∷◌, drop, length, Option, Some, None, refl, sym, ap, ◌∙◌, subst, arith}
use Rattle.std.specs.Prelude.{◌==◌, ◌||◌, nat_lt, replicate, slice_get, slice_index, slice_set, if◌then◌else◌}
use Rattle.std.proofs.lemmas.Bool.Decides.{nat_tests}
use Rattle.std.proofs.lemmas.Option.{none-some}
use Rattle.goto_prog.specs.Structured.{opened}
use Rattle.goto_prog.proofs.WalkerSteps.{set_back, sum_opened}
use Rattle.goto_unwind.specs.declared.linear_count.Called.{Called}
use Rattle.goto_unwind.specs.declared.walk.Visit.{Visit}
use Rattle.goto_unwind.specs.Linear.{cut, Linear, calls_value, value, linear_of, linear_sum, added, pending, calls_steps, linear_steps, steps_added, pending_steps, Walking, outcome, steps_left, opens, arrives, starting, walked_by, walked}
use Rattle.goto_unwind.proofs.TreeSums.{cut_times, cut_front, cut_back}

abbrev or_value : {A : Type 0} → A → Option A → A
or_value x None = x
or_value x (Some y) = y

some_value : {A : Type 0} (x y : A) → Some x ≡ Some y → x ≡ y
some_value x y same = ap (or_value x) same

drop_none : {A : Type 0} (xs : List A) (n : ℕ) → slice_get xs n ≡ None → drop n xs ≡ []
drop_none [] zero none = refl
drop_none [] (suc n) none = refl
drop_none (x ∷ xs) zero none = absurd (none-some x (sym none))
drop_none (x ∷ xs) (suc n) none = drop_none xs n none

drop_some : {A : Type 0} (xs : List A) (n : ℕ) (x : A) → slice_get xs n ≡ Some x → drop n xs ≡ x ∷ drop (suc n) xs
drop_some [] zero x found = absurd (none-some x found)
drop_some [] (suc n) x found = absurd (none-some x found)
drop_some (y ∷ xs) zero x found = ap (λ z. z ∷ xs) (some_value y x found)
drop_some (y ∷ xs) (suc n) x found = drop_some xs n x found

some_test : (b : Bool) {A : Type 0} (x y : A) → b ≡ false → (if b then x else y) ≡ y
some_test b x y h = λ j. if h j then x else y

none_test : (b : Bool) {A : Type 0} (x y : A) → b ≡ true → (if b then x else y) ≡ x
none_test b x y h = λ j. if h j then x else y

more_left : (n : ℕ) → (n == 0) ≡ false → 0 < n
more_left n more = grind (arith, nat_tests)

no_more : (n : ℕ) → (n == 0) ≡ true → n ≡ 0
no_more n none = grind (arith, nat_tests)

module _ (table : List Linear) where
  added_none : (left : List ℕ) (f : ℕ) → (slice_index left f == 0) ≡ true → added table left f ≡ 0
  added_none left f none = none_test (slice_index left f == 0) 0 _ none

  added_some : (left : List ℕ) (f : ℕ) → (slice_index left f == 0) ≡ false → added table left f ≡ value (added table (opened left f)) (linear_of table f)
  added_some left f more =
      some_test (slice_index left f == 0) 0 _ more
      ∙ ap (λ k. value (linear_sum table k (opened left f)) (linear_of table f)) (sum_opened left f (more_left (slice_index left f) more))

  steps_none : (left : List ℕ) (f : ℕ) → (slice_index left f == 0) ≡ true → steps_added table left f ≡ 0
  steps_none left f none = none_test (slice_index left f == 0) 0 _ none

  steps_some : (left : List ℕ) (f : ℕ) → (slice_index left f == 0) ≡ false → steps_added table left f ≡ 1 + calls_steps table (steps_added table (opened left f)) (linear_of table f).calls
  steps_some left f more =
      some_test (slice_index left f == 0) 0 _ more
      ∙ ap (λ k. 1 + calls_steps table (linear_steps table k (opened left f)) (linear_of table f).calls) (sum_opened left f (more_left (slice_index left f) more))

-- ---- an activation that counts so many times

without_call : (c k q : ℕ) → cut (c + q) ≡ cut (c + (k * 0 + q))
without_call c k q = omega arith

without_times : (c a q : ℕ) → cut (c + q) ≡ cut (c + (0 * a + q))
without_times c a q = omega arith

suc_is : (k : ℕ) → suc k ≡ k + 1
suc_is k = omega arith

module _ (w : Walking) (f n : ℕ) where
  abbrev A : ℕ
  A = added w.table w.left f

  abbrev Q : ℕ
  Q = pending w.table w.left w.visits

  abbrev V : ℕ
  V = calls_value (added w.table (opened w.left f)) (linear_of w.table f).calls

  set_again : slice_set (opened w.left f) f (slice_index w.left f) ≡ w.left
  set_again = set_back w.left f (slice_index w.left f - 1)

  opens_outcome : (slice_index w.left f == 0) ≡ false → outcome (opens f n w) ≡ cut (w.counted + (n * A + Q))
  opens_outcome more =
      ap (λ l. cut (cut (w.counted + cut (n * (linear_of w.table f).own)) + (n * V + pending w.table l w.visits))) set_again
      ∙ by_parts w.counted n (linear_of w.table f).own V Q
      ∙ ap (λ a. cut (w.counted + (n * a + Q))) (sym (added_some w.table w.left f more))
    where
      by_parts : (c k p v q : ℕ) → cut (cut (c + cut (k * p)) + (k * v + q)) ≡ cut (c + (k * (p + v) + q))
      by_parts c k p v q = omega arith

  arrives_by : (none zero : Bool) → (slice_index w.left f == 0) ≡ none → (n == 0) ≡ zero → outcome (if none || zero then w else opens f n w) ≡ cut (w.counted + (n * A + Q))
  arrives_by true z none is = by_parts w.counted n A Q (added_none w.table w.left f none)
    where
      by_parts : (c k a q : ℕ) → a ≡ 0 → cut (c + q) ≡ cut (c + (k * a + q))
      by_parts c k a q none = without_call c k q ∙ ap (λ x. cut (c + (k * x + q))) (sym none)
  arrives_by false true more is = by_parts w.counted n A Q (no_more n is)
    where
      by_parts : (c k a q : ℕ) → k ≡ 0 → cut (c + q) ≡ cut (c + (k * a + q))
      by_parts c k a q none = without_times c a q ∙ ap (λ x. cut (c + (x * a + q))) (sym none)
  arrives_by false false more is = opens_outcome more

  arrives_outcome : outcome (arrives f n w) ≡ cut (w.counted + (n * A + Q))
  arrives_outcome = arrives_by (slice_index w.left f == 0) (n == 0) refl refl

  abbrev S : ℕ
  S = steps_added w.table w.left f

  opens_steps : (slice_index w.left f == 0) ≡ false → steps_left (opens f n w) ≡ S + steps_left w
  opens_steps more =
      ap (λ l. 1 + calls_steps w.table (steps_added w.table (opened w.left f)) (linear_of w.table f).calls + pending_steps w.table l w.visits) set_again
      ∙ ap (λ a. a + steps_left w) (sym (steps_some w.table w.left f more))

  steps_by : (none zero : Bool) → (slice_index w.left f == 0) ≡ none → steps_left (if none || zero then w else opens f n w) ≤ S + steps_left w
  steps_by true z none = omega arith
  steps_by false true more = omega arith
  steps_by false false more = omega (arith, opens_steps more)

  arrives_steps : steps_left (arrives f n w) ≤ S + steps_left w
  arrives_steps = steps_by (slice_index w.left f == 0) (n == 0) refl

-- ---- a step

abbrev with_visit : Visit → Walking → Walking
with_visit v w = record w { visits = v ∷ w.visits }

module _ (v : Visit) (w : Walking) where
  abbrev calls : List Called
  calls = (linear_of w.table v.function).calls

  abbrev R : ℕ
  R = pending w.table (slice_set w.left v.function v.left) w.visits

  walked_by_outcome : (o : Option Called) → slice_get calls v.next ≡ o → outcome (walked_by v o w) ≡ outcome (with_visit v w)
  walked_by_outcome None none = by_parts w.counted v.times R ∙ ap (λ cs. cut (w.counted + (v.times * calls_value (added w.table w.left) cs + R))) (sym (drop_none calls v.next none))
    where
      by_parts : (c k q : ℕ) → cut (c + q) ≡ cut (c + (k * 0 + q))
      by_parts c k q = omega arith
  walked_by_outcome (Some c) found =
      let next = with_visit (record v { next = v.next + 1 }) w in
      let a = added w.table w.left c.callee in
      let rest = calls_value (added w.table w.left) (drop (v.next + 1) calls) in
      arrives_outcome next c.callee (cut (v.times * c.times))
      ∙ cut_front w.counted (cut (v.times * c.times) * a + (v.times * rest + R)) (v.times * c.times * a + (v.times * rest + R)) (cut_back (cut (v.times * c.times) * a) (v.times * c.times * a) (v.times * rest + R) (cut_times (v.times * c.times) a))
      ∙ by_parts w.counted v.times c.times a rest R
      ∙ ap (λ cs. cut (w.counted + (v.times * calls_value (added w.table w.left) cs + R))) (sym (found_next c found))
    where
      by_parts : (n t u a r q : ℕ) → cut (n + (t * u * a + (t * r + q))) ≡ cut (n + (t * (u * a + r) + q))
      by_parts n t u a r q = omega arith

      found_next : (c : Called) → slice_get calls v.next ≡ Some c → drop v.next calls ≡ c ∷ drop (v.next + 1) calls
      found_next c found = drop_some calls v.next c found ∙ ap (λ k. c ∷ drop k calls) (suc_is v.next)

  pub walked_outcome : outcome (walked v w) ≡ outcome (with_visit v w)
  walked_outcome = walked_by_outcome (slice_get calls v.next) refl

  abbrev rest_steps : List Called → ℕ
  rest_steps cs = calls_steps w.table (steps_added w.table w.left) cs

  abbrev T : ℕ
  T = pending_steps w.table (slice_set w.left v.function v.left) w.visits

  walked_by_steps : (o : Option Called) → slice_get calls v.next ≡ o → steps_left (walked_by v o w) < steps_left (with_visit v w)
  walked_by_steps None none = omega arith
  walked_by_steps (Some c) found =
      let next = with_visit (record v { next = v.next + 1 }) w in
      let arrived = arrives_steps next c.callee (cut (v.times * c.times)) in
      let front : rest_steps (drop v.next calls) ≡ 1 + steps_added w.table w.left c.callee + rest_steps (drop (v.next + 1) calls) =
      ap rest_steps (drop_some calls v.next c found ∙ ap (λ k. c ∷ drop k calls) (suc_is v.next)) in
      omega (arith, arrived, front)

  pub walked_steps : steps_left (walked v w) < steps_left (with_visit v w)
  walked_steps = walked_by_steps (slice_get calls v.next) refl

-- the same, where the activation was taken off
module _ (old new next : Walking) (v : Visit) (one : old.visits ≡ v ∷ new.visits) (others : new ≡ record old { visits = new.visits }) (step : next ≡ walked v new) where
  whole : with_visit v new ≡ old
  whole = ap (with_visit v) others ∙ ap (λ vs. record old { visits = vs }) (sym one)

  pub popped_outcome : outcome next ≡ outcome old
  popped_outcome = ap outcome step ∙ walked_outcome v new ∙ ap outcome whole

  pub popped_steps : steps_left next < steps_left old
  popped_steps = subst (λ w. steps_left w < steps_left old) (sym step) (subst (λ w. steps_left (walked v new) < steps_left w) whole (walked_steps v new))

-- ---- the start and the end

pub first_outcome : (table : List Linear) (k f : ℕ) → outcome (arrives f 1 (starting table k)) ≡ cut (added table (replicate (length table) k) f)
first_outcome table k f = arrives_outcome (starting table k) f 1 ∙ by_parts (added table (replicate (length table) k) f)
  where
    by_parts : (a : ℕ) → cut (0 + (1 * a + 0)) ≡ cut a
    by_parts a = omega arith

pub all_counted : (w : Walking) → nat_lt 2000000 w.counted ≡ true → cut w.counted ≡ outcome w
all_counted w over = by_parts w.counted (pending w.table w.left w.visits) (less w.counted over)
  where
    less : (c : ℕ) → nat_lt 2000000 c ≡ true → 2000000 < c
    less c over = grind (arith, nat_tests)

    by_parts : (c p : ℕ) → 2000000 < c → cut c ≡ cut (c + p)
    by_parts c p more = omega (arith, more)

pub none_open : (w : Walking) → w.visits ≡ [] → cut w.counted ≡ outcome w
none_open w none = by_parts w.counted ∙ ap (λ vs. cut (w.counted + pending w.table w.left vs)) (sym none)
  where
    by_parts : (c : ℕ) → cut c ≡ cut (c + 0)
    by_parts c = omega arith
