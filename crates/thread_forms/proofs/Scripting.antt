-- A script hands over values of their kinds, and makes at most as many objects as it has steps.
use Rattle.std.proofs.Common.{◌≡◌, ◌≤◌, ◌+◌, ◌-◌, ◌^◌, ℕ, zero, suc, Bool, true, false, ◌&&◌, cond, List, [], ◌∷◌, length, drop, Option, Some, None, IfSome, slice_get, nat_lt, nat_eq, refl, sym, ap, subst, ◌∙◌, arith, true≢false}
use Rattle.std.specs.Prelude.{◌%◌}
use Rattle.std.specs.List.{list_all}
use Rattle.std.specs.Ordering.{nat_cmp}
use Rattle.std.specs.BTreeMap.{is_at}
use Rattle.std.proofs.lemmas.Bool.{ltb-true, lt-ltb}
use Rattle.std.proofs.lemmas.Option.{slice_get_within}
use Rattle.words.specs.declared.check.Class.TheVariants.{Assertion}
use Rattle.words.specs.BitVector.{BitVector}
use Rattle.actions.specs.declared.action.Action.TheVariants as action
use Rattle.actions.specs.declared.action.Answer.{Answer}
use Rattle.actions.specs.declared.action.Next.{Next}
use Rattle.actions.specs.declared.action.Next.TheVariants.{Act, Ended, Blocked, Broken}
use Rattle.actions.specs.Behaviour.{Behaviour, after, accepts}
use Rattle.actions.specs.ByStates.{behaviour_of}
use Rattle.actions.specs.StoredObject.{StoredObject, stored}
use Rattle.interleave.specs.declared.script.Step.{Step}
use Rattle.interleave.specs.declared.script.Step.TheVariants as step
use Rattle.interleave.specs.Script.{State, start_at, program_of, next_at_step, next_by, next_in, stepped}
use Rattle.weave.specs.Family.{creations_of}
use Rattle.thread_forms.specs.Bounds.{IsTyped, HandsOver, objects_of, objects_along, HasDepth}
use Rattle.thread_forms.specs.ScriptBounds.{ends_small, creates_none, forks_once, is_small_script, ScriptsAreBounded, SharedIsTyped}
use Rattle.thread_forms.proofs.Values.{front, back, both_true}

all_at : (p : Step → Bool) (xs : List Step) (i : ℕ) (s : Step) → list_all p xs ≡ true → slice_get xs i ≡ Some s → p s ≡ true
all_at p [] i s h e = absurd (cc e)
all_at p (x ∷ xs) zero s h e = let same : x ≡ s = cc e in ap p (sym same) ∙ front (p x) (list_all p xs) h
all_at p (x ∷ xs) (suc i) s h e = all_at p xs i s (back (p x) (list_all p xs) h) e

all_behind : (p : Step → Bool) (g : ℕ) (xs : List Step) (i : ℕ) (s : Step) → list_all p (drop g xs) ≡ true → g ≤ i → slice_get xs i ≡ Some s → p s ≡ true
all_behind p zero xs i s h l e = all_at p xs i s h e
all_behind p (suc g) [] i s h l e = absurd (cc e)
all_behind p (suc g) (x ∷ xs) zero s h l e = absurd (omega (arith, l))
all_behind p (suc g) (x ∷ xs) (suc i) s h l e = all_behind p g xs i s h (omega (arith, l)) e

-- ---- one step

create_hands : (b : Bool) (f : ℕ) → HandsOver (cond b (Act (action.Create f 0) 1 0) Blocked)
create_hands true f = tt
create_hands false f = tt

assert_hands : (b : Bool) → HandsOver (cond b (Act (action.Free 0) 1 0) (Broken Assertion 1 0))
assert_hands true = tt
assert_hands false = tt

step_hands : (many register : ℕ) (s : Step) → ends_small s ≡ true → HandsOver (next_at_step many register s)
step_hands many register (step.Write p) e = both_true (nat_lt ((register + 1) % 256) 256) true (lt-ltb ((register + 1) % 256) 256 (omega arith)) refl
step_hands many register step.Alloc e = (omega arith, refl)
step_hands many register (step.End v) e = ltb-true v (2 ^ 64) e
step_hands many register (step.Create f) e = create_hands (nat_lt f many) f
step_hands many register (step.Assert n) e = assert_hands (nat_eq register n)
step_hands many register _ e = tt

assert_none : (b : Bool) → creations_of (cond b (Act (action.Free 0) 1 0) (Broken Assertion 1 0)) ≡ 0
assert_none true = refl
assert_none false = refl

step_creates : (many register : ℕ) (s : Step) → creates_none s ≡ true → creations_of (next_at_step many register s) ≡ 0
step_creates many register (step.Create f) e = absurd (true≢false (sym e))
step_creates many register (step.Assert n) e = assert_none (nat_eq register n)
step_creates many register _ e = refl

create_one : (b : Bool) (f : ℕ) → objects_of (cond b (Act (action.Create f 0) 1 0) Blocked) ≤ 1
create_one true f = omega arith
create_one false f = omega arith

assert_one : (b : Bool) → objects_of (cond b (Act (action.Free 0) 1 0) (Broken Assertion 1 0)) ≤ 1
assert_one true = omega arith
assert_one false = omega arith

one_at : (many register : ℕ) (s : Step) → objects_of (next_at_step many register s) ≤ 1
one_at many register (step.Create f) = create_one (nat_lt f many) f
one_at many register (step.Assert n) = assert_one (nat_eq register n)
one_at many register _ = omega arith

one_by : (many register : ℕ) (ended : Option ℕ) (s : Step) → objects_of (next_by many register ended (Some s)) ≤ 1
one_by many register (Some v) s = omega arith
one_by many register None s = one_at many register s

none_by : (many register : ℕ) (ended : Option ℕ) → objects_of (next_by many register ended None) ≡ 0
none_by many register (Some v) = refl
none_by many register None = refl

blocked_along : (answers : List Answer) → objects_along (λ (l : List Answer). Blocked) answers ≡ 0
blocked_along [] = refl
blocked_along (a ∷ answers) = omega (arith, blocked_along answers)

module _ (steps : List Step) where
  abbrev runs_from : State → Behaviour
  runs_from s = behaviour_of (next_in steps) (stepped steps) s

  -- ---- what holds of each step from f on holds of what is next in a thread that starts there

  module _ (P : Next → Type 0) (blocked : P Blocked) (ended : (w : BitVector) → P (Ended w)) (f : ℕ) (each : (i register : ℕ) (s : Step) → f ≤ i → slice_get steps i ≡ Some s → P (next_at_step (length steps) register s)) where
    next_has : (i register : ℕ) (end : Option ℕ) (o : Option Step) → f ≤ i → slice_get steps i ≡ o → P (next_by (length steps) register end o)
    next_has i register (Some v) o l e = ended (Rattle.actions.specs.Behaviour.word_64 v)
    next_has i register None None l e = blocked
    next_has i register None (Some s) l e = each i register s l e

    choice : (b : Bool) (n : Next) → P n → P (cond b n Blocked)
    choice true n h = h
    choice false n h = blocked

    all_from : (answers : List Answer) (s : State) → f ≤ s.at → P (runs_from s answers)
    all_from [] s l = next_has s.at s.register s.ended (slice_get steps s.at) l refl
    all_from (a ∷ answers) s l = choice (accepts (next_in steps s) a) (runs_from (stepped steps s a) answers) (all_from answers (stepped steps s a) (omega (arith, l)))

  -- ---- objects

  object_at_step : (s : State) (o : Option Step) → slice_get steps s.at ≡ o → (objects_of (next_in steps s) ≤ length steps - s.at) × (objects_of (next_in steps s) ≤ 1)
  object_at_step s None e =
      let none : objects_of (next_in steps s) ≡ 0 = ap (λ (o : Option Step). objects_of (next_by (length steps) s.register s.ended o)) e ∙ none_by (length steps) s.register s.ended in
      (omega (arith, none), omega (arith, none))
  object_at_step s (Some x) e =
      let same : objects_of (next_in steps s) ≡ objects_of (next_by (length steps) s.register s.ended (Some x)) = ap (λ (o : Option Step). objects_of (next_by (length steps) s.register s.ended o)) e in
      (omega (arith, same, one_by (length steps) s.register s.ended x, slice_get_within steps s.at x e), omega (arith, same, one_by (length steps) s.register s.ended x))

  along_by : (s : State) (a : Answer) (answers : List Answer) (b : Bool) → accepts (next_in steps s) a ≡ b → objects_along (runs_from (stepped steps s a)) answers ≤ length steps - (s.at + 1)
      → objects_along (after (runs_from s) a) answers ≤ length steps - (s.at + 1)
  along_by s a answers true e h = subst (λ (f : Behaviour). objects_along f answers ≤ length steps - (s.at + 1)) (λ i l. cond (sym e i) (runs_from (stepped steps s a) l) Blocked) h
  along_by s a answers false e h =
      subst (λ (f : Behaviour). objects_along f answers ≤ length steps - (s.at + 1)) (λ i l. cond (sym e i) (runs_from (stepped steps s a) l) Blocked) (omega (arith, blocked_along answers))

  few_from : (answers : List Answer) (s : State) → objects_along (runs_from s) answers ≤ length steps - s.at
  few_from [] s = (object_at_step s (slice_get steps s.at) refl).0
  few_from (a ∷ answers) s =
      let here = object_at_step s (slice_get steps s.at) refl in
      omega (arith, here.0, here.1, along_by s a answers (accepts (next_in steps s) a) refl (few_from answers (stepped steps s a)))

  module _ (small : is_small_script steps ≡ true) where
    abbrev is_small : Step → Bool
    is_small s = ends_small s && forks_once steps s

    hands_from : (f : ℕ) (answers : List Answer) → HandsOver (runs_from (start_at f) answers)
    hands_from f answers = all_from HandsOver tt (λ w. tt) 0 (λ i register s l e. step_hands (length steps) register s (front (ends_small s) (forks_once steps s) (all_at is_small steps i s small e))) answers (start_at f) (omega arith)

    none_from : (f : ℕ) → list_all creates_none (drop f steps) ≡ true → (answers : List Answer) → creations_of (runs_from (start_at f) answers) ≡ 0
    none_from f h answers = all_from (λ n. creations_of n ≡ 0) refl (λ w. refl) f (λ i register s l e. step_creates (length steps) register s (all_behind creates_none f steps i s h l e)) answers (start_at f) (omega arith)

    -- what a Create starts creates no thread
    abbrev Forks : Next → Type 0
    Forks n = (f v line function : ℕ) → n ≡ Act (action.Create f v) line function → list_all creates_none (drop f steps) ≡ true

    create_forks : (b : Bool) (g : ℕ) → list_all creates_none (drop g steps) ≡ true → Forks (cond b (Act (action.Create g 0) 1 0) Blocked)
    create_forks true g h = λ f v line function e. let same : g ≡ f = cc e in subst (λ (k : ℕ). list_all creates_none (drop k steps) ≡ true) same h
    create_forks false g h = λ f v line function e. absurd (cc e)

    assert_forks : (b : Bool) → Forks (cond b (Act (action.Free 0) 1 0) (Broken Assertion 1 0))
    assert_forks true = λ f v line function e. absurd (cc e)
    assert_forks false = λ f v line function e. absurd (cc e)

    step_forks : (register : ℕ) (s : Step) → forks_once steps s ≡ true → Forks (next_at_step (length steps) register s)
    step_forks register (step.Create f) h = create_forks (nat_lt f (length steps)) f h
    step_forks register (step.Assert n) h = assert_forks (nat_eq register n)
    step_forks register _ h = λ f v line function e. absurd (cc e)

    main_forks : (answers : List Answer) → Forks (runs_from (start_at 0) answers)
    main_forks answers = all_from Forks (λ f v line function e. absurd (cc e)) (λ w f v line function e. absurd (cc e)) 0 (λ i register s l e. step_forks register s (back (ends_small s) (forks_once steps s) (all_at is_small steps i s small e))) answers (start_at 0) (omega arith)

    has_depth : HasDepth (program_of steps) 2 (runs_from (start_at 0))
    has_depth = λ answers f v line function e more g u place within k.
        absurd (omega (arith, none_from f (main_forks answers f v line function e) more, ap creations_of k))

pub scripts_are_bounded : ScriptsAreBounded
scripts_are_bounded = λ steps objects small few typed. record {
  store = typed;
  hands = hands_from steps small 0;
  hand = λ f v can below answers. hands_from steps small f answers;
  depth = has_depth steps small;
  few = λ answers. omega (arith, few, few_from steps answers (start_at 0));
  fewer = λ f v can below answers. omega (arith, few, few_from steps answers (start_at f));
}

abbrev one : StoredObject
one = stored 8 (record { offset = 0; size = 1 } ∷ record { offset = 4; size = 4 } ∷ []) true false false (0 ∷ 0 ∷ 0 ∷ 0 ∷ 0 ∷ 0 ∷ 0 ∷ 0 ∷ [])

here_or_none : (b : Bool) → IfSome (cond b (Some one) None) IsTyped
here_or_none true = (omega arith, refl)
here_or_none false = tt

pub shared_is_typed : SharedIsTyped
shared_is_typed = λ k. here_or_none (is_at (nat_cmp k) 1)
