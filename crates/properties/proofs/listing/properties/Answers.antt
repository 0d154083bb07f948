use Rattle.std.proofs.Common.{◌≤◌, [], List, length, subst}
use Rattle.c_tree.specs.declared.statement.External.{External}
use Rattle.properties.specs.Properties.{with_external}
use Rattle.properties.proofs.Behind.{externals_in_turn, at_end}
use Rattle.properties.proofs.listing.properties.Goals as goal

pub returns : goal.returns
returns c =
    let externals = c.args.file.now.externals.items in
    let past = subst (λ (xs : List External). length xs ≤ c.loop-external.external-index) c.deref-external-items.ensures.value c.loop-external-test.false in
    at_end with_external [] _ _ externals c.loop-external.external-index past c.loop-external.invariant (externals_in_turn externals)
