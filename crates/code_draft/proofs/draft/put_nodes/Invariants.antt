use Rattle.std.proofs.Common.{◌≡◌, drop}
use Rattle.std.specs.Prelude.{reverse}
use Rattle.goto_prog.specs.Nodes.{nodes_of}
use Rattle.lowered_code.specs.Lowering.{plains}
use Rattle.code_draft.proofs.draft.put_nodes.Given as goal

abbrev pub invariant-loop-place : goal.invariant-loop-place
invariant-loop-place l = nodes_of (reverse l.made.items) ≡ plains (drop l.place l.code) (nodes_of (reverse l.initial.made.items))
