-- The tables of small schedules: the run of each is told by a valuation of its script's forms.
use Rattle.std.specs.Prelude.{List, [], ◌∷◌}
use Rattle.weave.specs.Tables.{Row, main_of, shared}
use Rattle.thread_forms.specs.Forms.{AreForms}
use Rattle.thread_forms.specs.EachRun.{IsTold}
use Rattle.thread_forms.specs.ScriptForms.{script_forms}

pub record IsToldRow (r : Row) : Type 0 where
  pub forms : AreForms (main_of r.steps) (script_forms r.steps)
  pub told : IsTold (main_of r.steps) shared [] r.schedule (script_forms r.steps)

abbrev pub AreToldRows : List Row → Type 0
AreToldRows [] = Unit {0}
AreToldRows (r ∷ rs) = IsToldRow r × AreToldRows rs
