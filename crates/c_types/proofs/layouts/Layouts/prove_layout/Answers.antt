use Rattle.std.proofs.Common.{subst}
use Rattle.c_types.specs.Types.{Records}
use Rattle.c_types.specs.Layouts.{IsBuilt}
use Rattle.c_types.proofs.Records.{stands}
use Rattle.c_types.proofs.layouts.Layouts.prove_layout.Goals as goal

pub returns : goal.returns
returns c = λ r is. (stands c.args.self.now.done c.args.place r (subst (λ (t : Records). IsBuilt t.done) c.self.view_is c.self.invariant.1) is).1.layout
