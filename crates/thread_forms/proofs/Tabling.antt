-- The tables of small schedules as valuations.
use Rattle.std.proofs.Common.{◌≡◌, ◌<◌, true, [], length, refl, arith}
use Rattle.weave.specs.Tables.{Row, main_of, shared, lost_update, lock_waits, section, open_section, exit, join, nobody, table}
use Rattle.weave.proofs.Scripting.{scripts_are_families, shared_is_whole}
use Rattle.thread_forms.specs.ScriptBounds.{is_small_script}
use Rattle.thread_forms.specs.ScriptForms.{is_forking, script_forms}
use Rattle.thread_forms.specs.ToldTables.{IsToldRow, AreToldRows}
use Rattle.thread_forms.proofs.Scripting.{scripts_are_bounded, shared_is_typed}
use Rattle.thread_forms.proofs.Telling.{runs_are_told}
use Rattle.thread_forms.proofs.Forking.{scripts_have_forms}

told_row : (r : Row) → is_forking r.steps ≡ true → is_small_script r.steps ≡ true → length r.steps < 256 → IsToldRow r
told_row r fork small short =
    let forms = scripts_have_forms r.steps fork in
    record {
      forms = forms;
      told = runs_are_told (main_of r.steps) shared [] r.schedule (script_forms r.steps) (scripts_are_families r.steps short) shared_is_whole (scripts_are_bounded r.steps shared small (omega (arith, short)) shared_is_typed) forms;
    }

pub told_rows : AreToldRows table
told_rows = (
  told_row lost_update refl refl (omega arith),
  (
    told_row lock_waits refl refl (omega arith),
    (
      told_row section refl refl (omega arith),
      (
        told_row open_section refl refl (omega arith),
        (
          told_row exit refl refl (omega arith),
          (
            told_row join refl refl (omega arith),
            (
              told_row nobody refl refl (omega arith),
              tt,
            ),
          ),
        ),
      ),
    ),
  ),
)
