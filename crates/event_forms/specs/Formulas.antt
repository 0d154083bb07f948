-- What the formula of one thread says of the runs of a file.
use Rattle.std.specs.Prelude.{◌≡◌, ℕ, ◌&&◌, List}
use Rattle.words.specs.declared.check.Check.{Check}
use Rattle.word_dag.specs.declared.nodes.Node.{Node}
use Rattle.word_dag.specs.Meaning.{width, value, bit_value}
use Rattle.word_dag.specs.Growth.{Within}
use Rattle.event_forms.specs.Runs.{Run}
use Rattle.event_forms.specs.Forms.{Form, run_read, FormIn}
use Rattle.interleave.specs.declared.turn.Outcome.TheVariants.{Broken}
use Rattle.interleave.specs.Inputs.{InputLists}
use Rattle.interleave.specs.World.{World}
use Rattle.interleave.specs.Run.{run}
use Rattle.event_forms.specs.declared.formula.Formula.{Formula}
use Rattle.event_forms.specs.Accesses.{checked, agrees}
use Rattle.event_forms.specs.Turns.{breaks, drawn_words, inputs_for, turns, broken_check, happenings}
use Rattle.event_forms.specs.Happenings.{Happening, happened}

-- the run that a valuation means, from the form's store on
abbrev pub run_of : (ℕ → ℕ) → List Node → Form → Run
run_of v d f = checked f.store (run_read v d f.events)

-- its inputs, its turns and the check that it breaks
abbrev pub inputs_of : (ℕ → ℕ) → List Node → Form → InputLists
inputs_of v d f = inputs_for (drawn_words (run_of v d f))

abbrev pub schedule_of : (ℕ → ℕ) → List Node → Form → List ℕ
schedule_of v d f = turns (run_of v d f)

abbrev pub check_of : (ℕ → ℕ) → List Node → Form → Check
check_of v d f = broken_check (run_of v d f)

-- what happens in it
abbrev pub told_by : List Node → Form → (ℕ → ℕ) → List Happening
told_by d f v = happenings (run_of v d f)

-- The formula is one of the runs from w, a state with one thread, whose first store is its own. A valuation makes the goal true exactly where each read of the run that it gives gives what the store holds there, and the run breaks a check (is). So it is true where what happens in that run is what happens in a run from w that breaks a check (exact); that it is true only there, and that each run from w that breaks a check is given by such a valuation, is what `IsGoal` says.
pub record IsFormula (w : World) (d : List Node) (f : Formula) : Type 0 where
  pub store : f.form.store ≡ w.common.memory.objects
  pub is : (v : ℕ → ℕ) → value v d f.goal ≡ bit_value (agrees f.form.store (run_of v d f.form) && breaks (run_of v d f.form))
  pub exact : (v : ℕ → ℕ) (inputs : InputLists) (schedule : List ℕ) (check : Check) → (run w inputs schedule).0 ≡ Broken check → told_by d f.form v ≡ happened w inputs schedule → value v d f.goal ≡ 1

-- its nodes are nodes of the graph, and the goal is a truth value
pub record FormulaIn (d : List Node) (f : Formula) : Type 0 where
  pub there : Within d f.goal
  pub width_is : width d f.goal ≡ 1
  pub form : FormIn d f.form.events
