use Rattle.std.proofs.Common.{◌≡◌, drop}
use Rattle.code_draft.specs.Drafts.{after_text}
use Rattle.code_draft.proofs.draft.Draft.text.Given as goal

abbrev pub invariant-loop-byte : goal.invariant-loop-byte
invariant-loop-byte l = after_text l.self l.line (drop l.byte-index l.bytes) l.register l.into l.offset ≡ after_text l.initial.self l.line l.bytes l.register l.into l.at
