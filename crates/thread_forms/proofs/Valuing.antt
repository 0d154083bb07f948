-- The tables of small schedules, evaluated.
use Rattle.std.proofs.Common.{refl}
use Rattle.thread_forms.specs.ValuedTables.{AreValued, valued_table}

pub are_valued : AreValued valued_table
are_valued = ((refl, (refl, (refl, tt))), ((refl, (refl, tt)), ((refl, (refl, tt)), ((refl, (refl, (refl, tt))), tt))))
