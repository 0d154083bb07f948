-- From the goal of a program's runs to the runs.
use Rattle.std.proofs.Common.{◌≡◌, ℕ, List, refl}
use Rattle.word_dag.specs.declared.nodes.Id.{Id}
use Rattle.word_dag.specs.declared.nodes.Node.{Node}
use Rattle.word_dag.specs.Meaning.{value}
use Rattle.interleave.specs.declared.turn.Outcome.{Outcome}
use Rattle.interleave.specs.declared.turn.Outcome.TheVariants.{Fine, Broken}
use Rattle.interleave.specs.Inputs.{InputLists}
use Rattle.interleave.specs.World.{World}
use Rattle.interleave.specs.Run.{run}
use Rattle.interleave.specs.Replay.{IsSafe}
use Rattle.event_forms.specs.Happenings.{Happening}
use Rattle.event_forms.specs.Goals.{IsGoal}

module _ (w : World) (d : List Node) (goal : Id) (told : (ℕ → ℕ) → List Happening) (is : IsGoal w d goal told) (none : (v : ℕ → ℕ) → value v d goal ≡ 1 → ⊥) where
  fine_or_broken : (inputs : InputLists) (schedule : List ℕ) (o : Outcome) → (run w inputs schedule).0 ≡ o → o ≡ Fine
  fine_or_broken inputs schedule Fine e = refl
  fine_or_broken inputs schedule (Broken check) e = let x = is.given inputs schedule check e in absurd (none x.0 x.1)

  -- Where no values make the goal true no run breaks a check.
  pub safe_without : IsSafe w
  safe_without inputs schedule = fine_or_broken inputs schedule (run w inputs schedule).0 refl
