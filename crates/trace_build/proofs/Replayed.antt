-- The run that a valuation gives, where the goal is true.
use Rattle.std.proofs.Common.{◌≡◌, ℕ, true, List, Some, sym, ◌∙◌, ap, subst}
use Rattle.words.specs.declared.check.Check.{Check}
use Rattle.word_dag.specs.declared.nodes.Id.{Id}
use Rattle.word_dag.specs.declared.nodes.Node.{Node}
use Rattle.word_dag.specs.Meaning.{value}
use Rattle.interleave.specs.Inputs.{InputLists}
use Rattle.interleave.specs.World.{World}
use Rattle.interleave.specs.Replay.{Replays}
use Rattle.event_forms.specs.Forms.{Form}
use Rattle.event_forms.specs.Happenings.{schedule_in}
use Rattle.event_forms.specs.Goals.{IsGoal}
use Rattle.event_forms.specs.Turns.{breaks, drawn_words, inputs_for, broken_check, happenings}
use Rattle.event_forms.specs.Formulas.{run_of, told_by, inputs_of, schedule_of, check_of}
use Rattle.trace_build.specs.Walking.{IsEnd}
use Rattle.event_forms.proofs.Told.{turns_told, check_told, breaks_told, are_drawn}

one_check : (first second : Check) → Some first ≡ Some second → first ≡ second
one_check first second same = cc

module _ (w : World) (d : List Node) (goal : Id) (f : Form) (is : IsGoal w d goal (told_by d f)) (v : ℕ → ℕ) (holds : value v d goal ≡ 1) where
  -- it breaks a check
  pub goal_breaks : breaks (run_of v d f) ≡ true
  goal_breaks = let g = is.replays v holds in breaks_told (run_of v d f) g.0 g.1.check_is

  -- and replays
  pub goal_replays : Replays w (inputs_of v d f) (schedule_of v d f) (check_of v d f)
  goal_replays =
      let g = is.replays v holds in
      let r = run_of v d f in
      let broken = goal_breaks in
      let same : g.0 ≡ broken_check r = one_check g.0 (broken_check r) (sym g.1.check_is ∙ check_told r broken) in
      subst (λ (ts : List ℕ). Replays w (inputs_for (drawn_words r)) ts (broken_check r)) (turns_told r broken)
      (subst (λ (c : Check). Replays w (inputs_for (drawn_words r)) (schedule_in (happenings r)) c) same (g.1.replays (inputs_for (drawn_words r)) (are_drawn r)))

  -- so does what is collected of it
  pub collected_replays : (inputs : InputLists) (words schedule steps : List ℕ) (check : Check) → inputs ≡ inputs_for words → schedule ≡ steps → IsEnd (run_of v d f) words steps check → Replays w inputs schedule check
  collected_replays inputs words schedule steps check inputs_are schedule_is end =
      subst (λ (i : InputLists). Replays w i schedule check) (sym (inputs_are ∙ ap inputs_for end.words_are))
      (subst (λ (s : List ℕ). Replays w (inputs_of v d f) s check) (sym (schedule_is ∙ end.turns_are))
      (subst (λ (c : Check). Replays w (inputs_of v d f) (schedule_of v d f) c) (sym end.check_is) goal_replays))
