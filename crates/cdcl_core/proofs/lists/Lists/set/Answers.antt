use Rattle.std.proofs.Common.{List, set, refl}
use Rattle.std.specs.Vec.{with_item}
use Rattle.cdcl_core.specs.declared.lists.Watch.{Watch}
use Rattle.cdcl_core.proofs.Listing.{seen_written}
use Rattle.cdcl_core.proofs.lists.Lists.set.Goals as goal

pub returns : goal.returns
returns c =
    seen_written c.self.inside.lists.items c.args.self.now c.index.result _ (with_item c.index_mut.result.now c.args.at c.args.watch) c.index_mut.result.now
    (λ (x : List Watch). set x c.args.at c.args.watch) c.self.view_is c.index.ensures c.requires.index c.index_mut.ensures.value refl
