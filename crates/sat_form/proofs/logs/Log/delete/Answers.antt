use Rattle.std.proofs.Common.{sym, ◌∙◌, arith}
use Rattle.std.specs.Ordering.{nat_cmp}
use Rattle.std.specs.BTreeMap as tree
use Rattle.sat_form.proofs.Indexes.{additions-deleted, deletions-again, deletions-deleted, none_from_test, is_at-other}
use Rattle.sat_form.proofs.logs.Log.delete.Goals as goal

pub invariant_of-self-then-contains_key : goal.invariant_of-self-then-contains_key
invariant_of-self-then-contains_key c = record {
  additions = additions-deleted c.self.inside.entries.items _ c.self.inside.additions.items c.args.number c.self.invariant.additions c.in_ok-push.ensures.items;
  deletions = deletions-again c.self.inside.entries.items _ (λ n. tree.get nat_cmp c.self.inside.deletions n) c.args.number c.self.invariant.deletions
      (sym c.contains_key.ensures ∙ c.if-contains_key.true) c.in_ok-push.ensures.items;
}

pub invariant_of-self-in-Ok : goal.invariant_of-self-in-Ok
invariant_of-self-in-Ok c = record {
  additions = additions-deleted c.self.inside.entries.items _ c.self.inside.additions.items c.args.number c.self.invariant.additions c.in_ok-push.ensures.items;
  deletions = deletions-deleted c.self.inside.entries.items _ (λ n. tree.get nat_cmp c.self.inside.deletions n) (λ n. tree.get nat_cmp c.insert.new.self n) c.args.number c.len-place.result
      c.self.invariant.deletions (none_from_test _ (sym c.contains_key.ensures ∙ c.if-contains_key.false))
      (omega (arith, c.self.inside.entries.ok.0)) c.in-Ok.ensures.updates.1
      (λ n apart. c.in-Ok.ensures.updates.2 n (is_at-other n c.args.number apart)) c.in_ok-push.ensures.items;
}
