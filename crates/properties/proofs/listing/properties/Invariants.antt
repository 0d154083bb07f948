use Rattle.std.proofs.Common.{◌≡◌, [], map, fold, take}
use Rattle.report.specs.Properties.{told_of}
use Rattle.properties.specs.Properties.{with_external}
use Rattle.properties.proofs.listing.properties.Given as goal

abbrev pub invariant-loop-external : goal.invariant-loop-external
invariant-loop-external l = map told_of l.properties.items ≡ fold with_external [] (take l.external-index l.file.externals.items)
