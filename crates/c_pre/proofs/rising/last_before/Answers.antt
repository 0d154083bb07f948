use Rattle.std.proofs.Common.{ℕ, Option, subst}
use Rattle.std.specs.Prelude.{MatchOption}
use Rattle.c_pre.specs.Known.{link_of, IsBehind}
use Rattle.c_pre.proofs.Trees.{behind_more, behind_within}
use Rattle.c_pre.proofs.rising.last_before.Goals as goal

pub next_before-requires-clause-node : goal.next_before-requires-clause-node
next_before-requires-clause-node c = (behind_within c.args.nodes.now c.args.node c.loop.at c.requires.forest c.requires.node c.loop.invariant.behind).0

pub loop-preserved : goal.loop-preserved
loop-preserved c =
    let nodes = c.args.nodes.now in
    let found = subst (λ (o : Option ℕ). MatchOption o (IsBehind nodes c.args.entry (link_of nodes c.loop.at).parent) (λ i. IsBehind nodes c.loop.at i × (IsBehind nodes c.args.entry i → ⊥))) c.in-Some.is c.in_ok-next_before.ensures.found in
    record {
      behind = behind_more nodes c.args.node c.loop.at c.in-Some.next c.requires.forest c.requires.node c.loop.invariant.behind found.0;
      outside = found.1;
    }
