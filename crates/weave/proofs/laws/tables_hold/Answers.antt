use Rattle.std.proofs.Common.{refl}
use Rattle.weave.proofs.laws.tables_hold.Goals as goal

pub returns : goal.returns
returns c = ((refl, refl, refl), ((refl, refl, refl), ((refl, refl, refl), ((refl, refl, refl), ((refl, refl, refl), ((refl, refl, refl), ((refl, refl, refl), tt)))))))
