-- The clauses of a program's runs, and what the log of a search says of them.
use Rattle.std.specs.Prelude.{ℕ, ◌≤◌, List}
use Rattle.sat_form.specs.Satisfaction.{Literal, Form}
use Rattle.sat_form.specs.Refutation.{IsRefutation}
use Rattle.sat_form.specs.Budget.{IsSpent}
use Rattle.word_dag.specs.declared.nodes.Node.{Node}
use Rattle.core_tree.specs.Trees.{TypedFile}
use Rattle.core_tree.specs.Ranges.{Limits}
use Rattle.event_forms.specs.Forms.{IsForm}
use Rattle.c_meaning.specs.Source.{source_thread}
use Rattle.event_forms.specs.declared.formula.Formula.{Formula}
use Rattle.event_forms.specs.Goals.{IsGoal}
use Rattle.event_forms.specs.Formulas.{told_by, IsFormula, FormulaIn}
use Rattle.bit_blast.specs.Steps.{IsBlasted}
use Rattle.cdcl_core.specs.Answers.{EndsAllowed, unit_count}
use Rattle.run_search.specs.Executions.{bounded_world}
use Rattle.run_search.specs.declared.used.Used.{Used}

-- The form is that of the program: there are nodes of a word graph and a formula over them, whose goal is one of the program's
-- runs within the bounds. Where it is true a valuation gives a run that breaks a check, and each run that breaks a check is given
-- by a valuation for which it is true (runs). The formula's store is the one at the program's start (of_runs), and its events are a
-- form of the program's thread, so that each valuation tells a run and each run is told (told); the goal is true of each valuation
-- whose run breaks a check (of_runs). And the form has a step of clauses for each of the nodes under the formula's goal, the goal's
-- own clause, and no other. Which nodes and which clauses these are is no promise: they mean the program's runs and the nodes, in
-- whatever way.
pub record IsFormOf (limits : Limits) (core : TypedFile) (form : Form) : Type 0 where
  pub nodes : List Node
  pub formula : Formula
  pub within : FormulaIn nodes formula
  pub runs : IsGoal (bounded_world limits core) nodes formula.goal (told_by nodes formula.form)
  pub of_runs : IsFormula (bounded_world limits core) nodes formula
  pub told : IsForm (source_thread core limits).behaves nodes formula.form.events
  pub variables : List (List Literal)
  pub blasted : IsBlasted nodes formula.goal.index variables form

-- the log refutes the program's clauses, with at most n units, and adds nothing else but the empty clause at its end
pub record IsRefuted (limits : Limits) (n : ℕ) (core : TypedFile) (used : Used) : Type 0 where
  pub form : IsFormOf limits core used.form
  pub refutes : IsRefutation used.form.clauses used.log
  pub few : unit_count used.log ≤ n
  pub units : EndsAllowed used.form.clauses used.log

-- the log is one of the program's clauses that has spent n units
pub record IsUsedUp (limits : Limits) (n : ℕ) (core : TypedFile) (used : Used) : Type 0 where
  pub form : IsFormOf limits core used.form
  pub spent : IsSpent used.form.clauses used.log n
