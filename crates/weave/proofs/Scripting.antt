-- A script makes at most as many threads as it has steps, and whole objects.
use Rattle.std.proofs.Common.{◌≡◌, ◌<◌, ◌≤◌, ◌+◌, ◌-◌, ℕ, Bool, true, false, cond, List, [], ◌∷◌, length, Option, Some, None, slice_get, nat_lt, nat_eq, refl, sym, ap, subst, arith}
use Rattle.std.proofs.lemmas.Option.{slice_get_within}
use Rattle.actions.specs.declared.action.Answer.{Answer}
use Rattle.actions.specs.declared.action.Next.{Next}
use Rattle.actions.specs.declared.action.Next.TheVariants.{Act, Blocked, Broken}
use Rattle.actions.specs.Behaviour.{Behaviour, after, accepts}
use Rattle.actions.specs.ByStates.{behaviour_of}
use Rattle.interleave.specs.declared.script.Step.{Step}
use Rattle.interleave.specs.declared.script.Step.TheVariants.{Assert, Alloc, Create}
use Rattle.interleave.specs.Script.{State, start_at, next_at_step, next_by, next_in, stepped, is_thread}
use Rattle.weave.specs.Family.{creations_of, creations_along, IsWhole, MakesWhole, IsModest}
use Rattle.std.specs.Prelude.{IfSome}
use Rattle.std.specs.Ordering.{nat_cmp}
use Rattle.std.specs.BTreeMap.{is_at}
use Rattle.actions.specs.StoredObject.{StoredObject, stored}
use Rattle.weave.specs.Scripts.{ScriptsAreFamilies, SharedIsWhole}

-- one step makes at most one thread, and a whole object
create_by : (b : Bool) (f : ℕ) → creations_of (cond b (Act (Rattle.actions.specs.declared.action.Action.TheVariants.Create f 0) 1 0) Blocked) ≤ 1
create_by true f = omega arith
create_by false f = omega arith

assert_by : (b : Bool) → creations_of (cond b (Act (Rattle.actions.specs.declared.action.Action.TheVariants.Free 0) 1 0) (Broken Rattle.words.specs.declared.check.Class.TheVariants.Assertion 1 0)) ≤ 1
assert_by true = omega arith
assert_by false = omega arith

one_at : (many register : ℕ) (step : Step) → creations_of (next_at_step many register step) ≤ 1
one_at many register (Create f) = create_by (nat_lt f many) f
one_at many register (Assert n) = assert_by (nat_eq register n)
one_at many register _ = omega arith

one_by : (many register : ℕ) (ended : Option ℕ) (step : Step) → creations_of (next_by many register ended (Some step)) ≤ 1
one_by many register (Some v) step = omega arith
one_by many register None step = one_at many register step

-- past its end a script makes none
none_by : (many register : ℕ) (ended : Option ℕ) → creations_of (next_by many register ended None) ≡ 0
none_by many register (Some v) = refl
none_by many register None = refl

blocked_along : (answers : List Answer) → creations_along (λ (l : List Answer). Blocked) answers ≡ 0
blocked_along [] = refl
blocked_along (a ∷ answers) = omega (arith, blocked_along answers)

module _ (steps : List Step) where
  create_whole : (b : Bool) (f : ℕ) → MakesWhole (cond b (Act (Rattle.actions.specs.declared.action.Action.TheVariants.Create f 0) 1 0) Blocked)
  create_whole true f = tt
  create_whole false f = tt

  assert_whole : (b : Bool) → MakesWhole (cond b (Act (Rattle.actions.specs.declared.action.Action.TheVariants.Free 0) 1 0) (Broken Rattle.words.specs.declared.check.Class.TheVariants.Assertion 1 0))
  assert_whole true = tt
  assert_whole false = tt

  whole_at : (register : ℕ) (step : Step) → MakesWhole (next_at_step (length steps) register step)
  whole_at register Alloc = refl
  whole_at register (Create f) = create_whole (nat_lt f (length steps)) f
  whole_at register (Assert n) = assert_whole (nat_eq register n)
  whole_at register _ = tt

  whole_next : (b : Bool) (n : Next) → MakesWhole n → MakesWhole (cond b n Blocked)
  whole_next true n h = h
  whole_next false n h = tt

  abbrev runs_from : State → Behaviour
  runs_from s = behaviour_of (next_in steps) (stepped steps) s

  at_step : (s : State) (o : Option Step) → slice_get steps s.at ≡ o → creations_of (next_in steps s) ≤ length steps - s.at
  at_step s None e = omega (arith, ap (λ (o : Option Step). creations_of (next_by (length steps) s.register s.ended o)) e, none_by (length steps) s.register s.ended)
  at_step s (Some step) e =
      omega (arith, ap (λ (o : Option Step). creations_of (next_by (length steps) s.register s.ended o)) e, one_by (length steps) s.register s.ended step, slice_get_within steps s.at step e)

  at_most_one : (s : State) (o : Option Step) → slice_get steps s.at ≡ o → creations_of (next_in steps s) ≤ 1
  at_most_one s None e = omega (arith, ap (λ (o : Option Step). creations_of (next_by (length steps) s.register s.ended o)) e, none_by (length steps) s.register s.ended)
  at_most_one s (Some step) e = omega (arith, ap (λ (o : Option Step). creations_of (next_by (length steps) s.register s.ended o)) e, one_by (length steps) s.register s.ended step)

  along_by : (s : State) (a : Answer) (answers : List Answer) (b : Bool) → accepts (next_in steps s) a ≡ b → creations_along (runs_from (stepped steps s a)) answers ≤ length steps - (s.at + 1)
      → creations_along (after (runs_from s) a) answers ≤ length steps - (s.at + 1)
  along_by s a answers true e h =
      subst (λ (f : Behaviour). creations_along f answers ≤ length steps - (s.at + 1)) (λ i l. cond (sym e i) (runs_from (stepped steps s a) l) Blocked) h
  along_by s a answers false e h =
      subst (λ (f : Behaviour). creations_along f answers ≤ length steps - (s.at + 1)) (λ i l. cond (sym e i) (runs_from (stepped steps s a) l) Blocked) (omega (arith, blocked_along answers))

  few_from : (answers : List Answer) (s : State) → creations_along (runs_from s) answers ≤ length steps - s.at
  few_from [] s = at_step s (slice_get steps s.at) refl
  few_from (a ∷ answers) s =
      omega (arith, at_step s (slice_get steps s.at) refl, at_most_one s (slice_get steps s.at) refl, along_by s a answers (accepts (next_in steps s) a) refl (few_from answers (stepped steps s a)))

  whole_by : (ended : Option ℕ) (register : ℕ) (o : Option Step) → MakesWhole (next_by (length steps) register ended o)
  whole_by (Some v) register o = tt
  whole_by None register None = tt
  whole_by None register (Some step) = whole_at register step

  whole_from : (answers : List Answer) (s : State) → MakesWhole (runs_from s answers)
  whole_from [] s = whole_by s.ended s.register (slice_get steps s.at)
  whole_from (a ∷ answers) s = whole_next (accepts (next_in steps s) a) (runs_from (stepped steps s a) answers) (whole_from answers (stepped steps s a))

  modest : (f : ℕ) → length steps < 256 → IsModest (runs_from (start_at f))
  modest f h = record { few = λ answers. omega (arith, few_from answers (start_at f)); whole = λ answers. whole_from answers (start_at f) }

pub scripts_are_families : ScriptsAreFamilies
scripts_are_families = λ steps h. record { is_thread = is_thread steps (start_at 0); itself = modest steps 0 h; others = λ f v can below. modest steps f h }

abbrev one : StoredObject
one = stored 8 (record { offset = 0; size = 1 } ∷ record { offset = 4; size = 4 } ∷ []) true false false (0 ∷ 0 ∷ 0 ∷ 0 ∷ 0 ∷ 0 ∷ 0 ∷ 0 ∷ [])

absent : (k : ℕ) (b : Bool) → is_at (nat_cmp k) 1 ≡ b → IfSome (cond b (Some one) None) IsWhole
absent k true e = refl
absent k false e = tt

pub shared_is_whole : SharedIsWhole
shared_is_whole = λ k. absent k (is_at (nat_cmp k) 1) refl
