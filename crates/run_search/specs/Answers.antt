-- What the checker may answer.
use Rattle.core_tree.specs.Ranges.{Cause}
use Rattle.core_tree.specs.declared.refusal.Limit.{Limit}
use Rattle.std.specs.Prelude.{List}
use Rattle.report.specs.Report.{Failure}
use Rattle.report.specs.Properties.{Told}
use Rattle.run_search.specs.declared.used.Used.{Used}

pub data Answer : Type 0 where
  usage : Answer
  read_fault : Answer
  limited : Limit → Answer
  refused : Cause → Answer
  successful : Used → Answer
  failed : Failure → Answer
  used_up : Used → Answer
  listed : List Told → Answer
