use Rattle.std.proofs.Common.{ap, ◌∙◌}
use Rattle.c_scope.specs.Places.{Entries, place_at}
use Rattle.c_scope.proofs.Entries.{place_after}
use Rattle.c_scope.proofs.places.put.Goals as goal

pub returns-in-Some-clause-new : goal.returns-in-Some-clause-new
returns-in-Some-clause-new c = λ n. ap (λ (es : Entries). place_at es n) c.in_ok-old.ensures.entries ∙ place_after c.args.map.now.entries c.args.name c.args.place n

pub returns-in-None-clause-new : goal.returns-in-None-clause-new
returns-in-None-clause-new c = λ n. ap (λ (es : Entries). place_at es n) c.in_ok-old.ensures.entries ∙ place_after c.args.map.now.entries c.args.name c.args.place n
