use Rattle.std.proofs.Common.{List}
use Rattle.std.specs.List.{swap_remove}
use Rattle.cdcl_core.specs.declared.lists.Watch.{Watch}
use Rattle.cdcl_core.proofs.Listing.{seen_written}
use Rattle.cdcl_core.proofs.lists.Lists.remove.Goals as goal

pub returns : goal.returns
returns c =
    seen_written c.self.inside.lists.items c.args.self.now c.index.result _ c.swap_remove.new.self c.index_mut.result.now (λ (x : List Watch). swap_remove x c.args.at c.swap_remove.result)
    c.self.view_is c.index.ensures c.requires.index c.index_mut.ensures.value c.swap_remove.ensures.items
