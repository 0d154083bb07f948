use Rattle.std.proofs.Common.{◌≡◌, [], take}
use Rattle.std.specs.Prelude.{reverse}
use Rattle.code_draft.specs.Drafts.{added, deaths_to}
use Rattle.code_draft.proofs.draft.Draft.leave_to.Given as goal

abbrev pub invariant-loop-k : goal.invariant-loop-k
invariant-loop-k l = added l.self (deaths_to l.self.frame (reverse (take l.k (reverse l.self.marks))) l.label l.register) [] ≡ added l.initial.self (deaths_to l.initial.self.frame l.initial.self.marks l.label l.register) []
