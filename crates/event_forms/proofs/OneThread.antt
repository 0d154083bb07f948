-- What a goal over a form of one thread says of the runs of the file, where its value is whether the run of the valuation agrees with the store and breaks a check.
use Rattle.std.proofs.Common.{◌≡◌, ◌<◌, ◌+◌, ◌^◌, ℕ, Bool, true, false, ◌&&◌, List, length, Some, refl, sym, ◌∙◌, ap}
use Rattle.words.specs.declared.check.Check.{Check}
use Rattle.word_dag.specs.declared.nodes.Node.{Node}
use Rattle.word_dag.specs.Meaning.{value, bit_value}
use Rattle.word_dag.specs.Fitting.{is_ordered}
use Rattle.actions.specs.Objects.{Objects}
use Rattle.actions.specs.Behaviour.{Thread}
use Rattle.interleave.specs.declared.turn.Outcome.TheVariants.{Broken}
use Rattle.interleave.specs.Inputs.{InputLists}
use Rattle.interleave.specs.World.{World, first_world, no_counts}
use Rattle.interleave.specs.Run.{run}
use Rattle.event_forms.specs.declared.formula.Formula.{Formula}
use Rattle.event_forms.specs.Forms.{run_read, FormIn, IsForm}
use Rattle.event_forms.specs.Accesses.{AreFirst, checked, agrees}
use Rattle.event_forms.specs.Turns.{breaks, broken_check}
use Rattle.event_forms.specs.Happenings.{happened, check_in}
use Rattle.event_forms.specs.Goals.{Happens, IsGoal}
use Rattle.event_forms.specs.Formulas.{run_of, told_by, IsFormula}
use Rattle.event_forms.proofs.Stores.{left_true, right_true, IsStore, first_is_store}
use Rattle.event_forms.proofs.QuietRuns.{OnlyQuiet, quiet_ends, read_quiet, form_quiet}
use Rattle.event_forms.proofs.Breaking.{Found, told_check, found, begins_break, told_agrees}
use Rattle.event_forms.proofs.Replaying.{whole, run_happens}

one_true : (b : Bool) → bit_value b ≡ 1 → b ≡ true
one_true true h = refl
one_true false h = cc

module _ (d : List Node) (f : Formula) (t : Thread) (ordered : is_ordered d ≡ true) (there : FormIn d f.form.events) (first : AreFirst f.form.store) (room : length f.form.store + length f.form.events < 2 ^ 32)
    (is : (v : ℕ → ℕ) → value v d f.goal ≡ bit_value (agrees f.form.store (run_of v d f.form) && breaks (run_of v d f.form))) (form : IsForm t.behaves d f.form.events) where
  abbrev objects : Objects
  objects = f.form.store

  abbrev world : World
  world = first_world t objects

  store : IsStore objects
  store = first_is_store objects first

  only : (v : ℕ → ℕ) → OnlyQuiet (run_read v d f.form.events)
  only v = (read_quiet v d ordered f.form.events there).only

  makes_true : (v : ℕ → ℕ) → agrees objects (run_of v d f.form) ≡ true → breaks (run_of v d f.form) ≡ true → value v d f.goal ≡ 1
  makes_true v agreed broken = is v ∙ (λ k. bit_value (agreed k && broken k))

  replayed : (v : ℕ → ℕ) → value v d f.goal ≡ 1 → (check : Check) × Happens world (told_by d f.form v) check
  replayed v h =
      let r = run_read v d f.form.events in
      let both = one_true (agrees objects (run_of v d f.form) && breaks (run_of v d f.form)) (sym (is v) ∙ h) in (
        broken_check (checked objects r),
        run_happens t objects r store (only v) (whole r t.behaves (form.gives v)) (left_true (agrees objects (checked objects r)) (breaks (checked objects r)) both) (right_true (agrees objects (checked objects r)) (breaks (checked objects r)) both),
      )

  breaking : (inputs : InputLists) (schedule : List ℕ) (check : Check) → (run world inputs schedule).0 ≡ Broken check → Found objects t.behaves check (happened world inputs schedule)
  breaking inputs schedule check ends =
      found t.program inputs check schedule objects t.behaves (record no_counts { objects = length objects }) (record { store = store; quiets = form_quiet objects t.behaves d f.form.events ordered there room form; made = refl }) ends

  given : (inputs : InputLists) (schedule : List ℕ) (check : Check) → (run world inputs schedule).0 ≡ Broken check
      → (v : ℕ → ℕ) × (value v d f.goal ≡ 1) × (told_by d f.form v ≡ happened world inputs schedule) × (check_in (told_by d f.form v) ≡ Some check)
  given inputs schedule check ends =
      let F = breaking inputs schedule check ends in
      let h = form.has F.exchanges F.next F.local in
      let v = h.0 in
      let b = begins_break (run_read v d f.form.events) objects F.exchanges F.next check (quiet_ends (run_read v d f.form.events) (only v)) h.1 F.ends in
      (v, makes_true v b.agreed b.broken, b.told_is ∙ sym F.told_is, ap check_in b.told_is ∙ told_check F.exchanges check)

  exactly : (v : ℕ → ℕ) (inputs : InputLists) (schedule : List ℕ) (check : Check) → (run world inputs schedule).0 ≡ Broken check → told_by d f.form v ≡ happened world inputs schedule → value v d f.goal ≡ 1
  exactly v inputs schedule check ends same =
      let F = breaking inputs schedule check ends in
      let a = told_agrees (run_read v d f.form.events) objects F.exchanges F.next check F.ends (same ∙ F.told_is) in
      makes_true v a.agreed a.broken

  pub is_goal : IsGoal world d f.goal (told_by d f.form)
  is_goal = record { replays = replayed; given = given }

  pub is_formula : IsFormula world d f
  is_formula = record { store = refl; is = is; exact = exactly }
