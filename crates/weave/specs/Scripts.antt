-- Scripts meet what is asked of threads.
use Rattle.std.specs.Prelude.{◌<◌, List, length}
use Rattle.interleave.specs.declared.script.Step.{Step}
use Rattle.interleave.specs.Script.{thread_of, start_at}
use Rattle.weave.specs.Family.{IsFamily, AreWhole}
use Rattle.weave.specs.Tables.{shared}

abbrev pub ScriptsAreFamilies : Type 0
ScriptsAreFamilies = (steps : List Step) → length steps < 256 → IsFamily (thread_of steps (start_at 0))

abbrev pub SharedIsWhole : Type 0
SharedIsWhole = AreWhole shared
