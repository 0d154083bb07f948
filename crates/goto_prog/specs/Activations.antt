-- What a step of an activation does.
use Rattle.std.specs.Prelude.{◌≡◌}
use Rattle.goto_prog.specs.declared.activation.Stepped.{Stepped}
use Rattle.goto_prog.specs.declared.activation.Stepped.TheVariants as stepped
use Rattle.goto_prog.specs.Structured.{Bounded}
use Rattle.goto_prog.specs.Walking as walking
use Rattle.goto_prog.specs.Walking.{Activation}

abbrev pub Steps : Bounded → Activation → Activation → Stepped → Type 0
Steps b old new stepped.GoesOn = walking.GoesOn b old new
Steps b old new (stepped.Stops next) = walking.Stops b old new next
Steps b old new (stepped.Calls p) = (new ≡ old) × walking.CallsFunction b old p.instruction p.callee p.first p.count p.into p.returned
Steps b old new (stepped.HandsOver given) = (new ≡ old) × walking.HandsOver b old given
