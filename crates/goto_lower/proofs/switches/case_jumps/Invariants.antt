use Rattle.std.proofs.Common.{◌≡◌, ℕ, ◌+◌, ◌-◌, ◌*◌, take, length}
use Rattle.std.specs.Prelude.{reverse}
use Rattle.goto_prog.specs.Nodes.{nodes_of}
use Rattle.goto_lower.specs.Statements.{jumps_to}
use Rattle.goto_lower.proofs.switches.case_jumps.Given as goal

abbrev pub invariant-loop-case : goal.invariant-loop-case
invariant-loop-case l =
    (first : ℕ) → l.end ≡ first + 5 * length l.places
    → (l.into ≡ first + 5 * (length l.places - l.case-index)) × (nodes_of (reverse l.made.items) ≡ jumps_to l.draft.frame l.base l.value l.into (reverse (take l.case-index l.places)) (nodes_of (reverse l.initial.made.items)))
