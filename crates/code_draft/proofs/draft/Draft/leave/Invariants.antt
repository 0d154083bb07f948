use Rattle.std.proofs.Common.{◌≡◌, [], take}
use Rattle.std.specs.Prelude.{reverse}
use Rattle.code_draft.specs.Drafts.{added, deaths_of}
use Rattle.code_draft.proofs.draft.Draft.leave.Given as goal

abbrev pub invariant-loop-k : goal.invariant-loop-k
invariant-loop-k l = added l.self (deaths_of l.self.frame (reverse (take l.k (reverse l.self.marks))) l.left l.register) [] ≡ added l.initial.self (deaths_of l.initial.self.frame l.initial.self.marks l.count l.register) []
