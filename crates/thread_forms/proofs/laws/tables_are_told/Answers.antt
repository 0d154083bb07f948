use Rattle.thread_forms.proofs.Tabling.{told_rows}
use Rattle.thread_forms.proofs.Valuing.{are_valued}
use Rattle.thread_forms.proofs.laws.tables_are_told.Goals as goal

pub returns-clause-told : goal.returns-clause-told
returns-clause-told c = told_rows

pub returns-clause-evaluated : goal.returns-clause-evaluated
returns-clause-evaluated c = are_valued
