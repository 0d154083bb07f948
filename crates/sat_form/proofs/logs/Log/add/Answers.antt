use Rattle.std.proofs.Common.{arith}
use Rattle.std.specs.Ordering.{nat_cmp}
use Rattle.std.specs.BTreeMap as tree
use Rattle.sat_form.proofs.Indexes.{additions-added, deletions-added}
use Rattle.sat_form.proofs.logs.Log.add.Goals as goal

pub invariant_of-self-in-Ok : goal.invariant_of-self-in-Ok
invariant_of-self-in-Ok c = record {
  additions = additions-added c.self.inside.entries.items _ c.self.inside.additions.items _ c.len.result c.args.clause c.args.hints c.self.invariant.additions
      (omega (arith, c.self.inside.entries.ok.0)) c.in_ok-push.ensures.items c.in-Ok.ensures.items;
  deletions = deletions-added c.self.inside.entries.items _ (λ n. tree.get nat_cmp c.self.inside.deletions n) c.args.clause c.args.hints c.self.invariant.deletions c.in-Ok.ensures.items;
}
