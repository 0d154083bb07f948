use Rattle.std.proofs.Common.{List, [], ◌∷◌, ◌++◌}
use Rattle.cdcl_core.specs.declared.lists.Watch.{Watch}
use Rattle.cdcl_core.proofs.Listing.{seen_written}
use Rattle.cdcl_core.proofs.lists.Lists.push.Goals as goal

pub returns : goal.returns
returns c =
    seen_written c.self.inside.lists.items c.args.self.now c.index.result _ c.push.new.self c.index_mut.result.now (λ (x : List Watch). x ++ c.args.watch ∷ [])
    c.self.view_is c.index.ensures c.requires c.index_mut.ensures.value c.in_ok-push.ensures.items
