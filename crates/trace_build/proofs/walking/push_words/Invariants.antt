use Rattle.std.proofs.Common.{◌≡◌, ◌++◌, take}
use Rattle.trace_build.proofs.walking.push_words.Given as goal

abbrev pub invariant-loop-word : goal.invariant-loop-word
invariant-loop-word l = l.into.items ≡ l.fn.into.items ++ take l.word-index l.words
