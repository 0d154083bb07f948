-- The words that a list of events draws are inputs.
use Rattle.std.specs.Prelude.{List}
use Rattle.interleave.specs.Inputs.{InputLists}
use Rattle.weave.specs.Candidate.{Candidate}
use Rattle.weave.specs.Order.{AreDrawn}

abbrev pub WordsAreInputs : Type 0 → Type 0
WordsAreInputs Id = (c : Candidate Id) (es : List Id) → (inputs : InputLists) × AreDrawn c inputs es
