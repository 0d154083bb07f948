use Rattle.std.proofs.Common.{◌≡◌, ℕ, List, drop}
use Rattle.std.specs.Prelude.{reverse}
use Rattle.goto_prog.specs.Nodes.{nodes_of}
use Rattle.goto_checks.specs.Inserted.{widths, sums, inserted}
use Rattle.goto_checks.proofs.inserting.+inserting.Given as goal

abbrev pub invariant-insert_nodes-loop-place : goal.invariant-insert_nodes-loop-place
invariant-insert_nodes-loop-place l =
    (ws : List ℕ) → l.fn.totals ≡ sums ws
    → (nodes_of (reverse l.made.items) ≡ inserted (nodes_of (drop l.place l.nodes)) ws) × (l.totals ≡ sums (widths (nodes_of (drop l.place l.nodes)) ws))
