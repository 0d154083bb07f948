-- What is told of the bytes that a command is about.
use Rattle.std.specs.Prelude.{◌≡◌, ℕ, List, Option}
use Rattle.options.specs.Command.{Asked}
use Rattle.run_search.specs.Answers.{Answer}
use Rattle.run_search.specs.declared.used.Used.{Used}
use Rattle.cbmc_top.specs.Command.{purpose_of}
use Rattle.cbmc_top.specs.Answers.{Decides, status_of, text_of, spent_of}
use Rattle.cbmc_top.specs.Verdicts.{answer_of}
use Rattle.cbmc_top.specs.declared.finding.Finding.{Finding}

-- the status and the text of an answer that decides these bytes, and what was searched for it
pub record IsReported (asked : Asked) (bytes : List ℕ) (status : ℕ) (text : List ℕ) (spent : Option Used) : Type 0 where
  pub finding : Finding
  pub decides : Decides (purpose_of asked) bytes (answer_of finding)
  pub status_is : status ≡ status_of (answer_of finding)
  pub text_is : text ≡ text_of asked (answer_of finding)
  pub spent_is : spent ≡ spent_of (answer_of finding)
