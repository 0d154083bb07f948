use Rattle.code_draft.proofs.DraftingStructures.{text_whole}
use Rattle.code_draft.proofs.draft.Draft.text.Goals as goal

pub returns : goal.returns
returns c = text_whole c.loop-byte.self _ c.args.line c.args.bytes.now c.loop-byte.byte-index c.args.register c.args.into c.loop-byte.offset c.loop-byte-test.false c.loop-byte.invariant
