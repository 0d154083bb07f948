use Rattle.std.proofs.Common.{◌≡◌, drop}
use Rattle.lowered_code.specs.Lowering.{have_homes}
use Rattle.code_draft.proofs.draft.have_homes.Given as goal

abbrev pub invariant-loop-variable : goal.invariant-loop-variable
invariant-loop-variable l = have_homes (drop l.variable-index l.variables) ≡ have_homes l.variables
