use Rattle.std.proofs.Common.{◌≡◌, ◌++◌, take}
use Rattle.std.specs.List.{flat_map}
use Rattle.report.specs.Properties.{told_of, property_line}
use Rattle.report.proofs.properties.push_properties.Given as goal

abbrev pub invariant-loop-property : goal.invariant-loop-property
invariant-loop-property l = l.text ≡ l.fn.text ++ flat_map (λ p. property_line (told_of p)) (take l.property-index l.properties)
