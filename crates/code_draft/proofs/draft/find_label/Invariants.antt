use Rattle.std.proofs.Common.{◌≡◌, take}
use Rattle.std.specs.Prelude.{reverse}
use Rattle.code_draft.specs.Drafts.{place_of}
use Rattle.code_draft.proofs.draft.find_label.Given as goal

abbrev pub invariant-loop-k : goal.invariant-loop-k
invariant-loop-k l = place_of (reverse (take l.k l.known)) l.label ≡ place_of (reverse l.known) l.label
