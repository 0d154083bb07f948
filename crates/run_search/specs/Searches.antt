-- What a search came to.
use Rattle.std.specs.Prelude.{◌≡◌, ℕ, ◌≤◌, List}
use Rattle.sat_form.specs.Satisfaction.{Literal, Form}
use Rattle.sat_form.specs.Refutation.{IsRefutation}
use Rattle.sat_form.specs.Budget.{IsSpent}
use Rattle.word_dag.specs.declared.nodes.Id.{Id}
use Rattle.word_dag.specs.declared.nodes.Node.{Node}
use Rattle.word_dag.specs.Meaning.{value, valuation_of}
use Rattle.bit_blast.specs.Steps.{IsBlasted}
use Rattle.cdcl_core.specs.Answers.{EndsAllowed, unit_count}
use Rattle.core_tree.specs.Trees.{TypedFile}
use Rattle.core_tree.specs.Ranges.{Limits}
use Rattle.interleave.specs.Replay.{Replays}
use Rattle.run_search.specs.Executions.{bounded_world, IsVerified}
use Rattle.run_search.specs.Clauses.{IsRefuted, IsUsedUp}
use Rattle.run_search.specs.declared.searching.Solved.{Solved}
use Rattle.run_search.specs.declared.searching.Solved.TheVariants as solutions
use Rattle.run_search.specs.declared.searching.Searched.{Searched}
use Rattle.run_search.specs.declared.searching.Searched.TheVariants as searches

-- the form is that of the goal
abbrev pub HasForm : List Node → Id → Form → Type 0
HasForm nodes goal form = (variables : List (List Literal)) × IsBlasted nodes goal.index variables form

-- what a search for values that make a goal true came to: such values; a refutation of the goal's clauses, and then there
-- are none; or a log that has spent the budget
abbrev pub IsSolved : List Node → Id → ℕ → Solved → Type 0
IsSolved nodes goal budget (solutions.Values v) = value (valuation_of v) nodes goal ≡ 1
IsSolved nodes goal budget (solutions.Refuted used) =
    ((v : ℕ → ℕ) → value v nodes goal ≡ 1 → ⊥) × HasForm nodes goal used.form × IsRefutation used.form.clauses used.log
    × (unit_count used.log ≤ budget) × EndsAllowed used.form.clauses used.log
IsSolved nodes goal budget (solutions.Budget used) = HasForm nodes goal used.form × IsSpent used.form.clauses used.log budget

-- what a search of a program's runs found: none that breaks a check, with the refutation of its clauses; a run that breaks
-- one; or a log that has spent the budget
abbrev pub IsSearched : Limits → ℕ → TypedFile → Searched → Type 0
IsSearched limits budget core (searches.Refuted used) = IsVerified limits core × IsRefuted limits budget core used
IsSearched limits budget core (searches.Broken t) = Replays (bounded_world limits core) t.inputs t.schedule t.check
IsSearched limits budget core (searches.Budget used) = IsUsedUp limits budget core used
