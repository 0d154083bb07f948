-- What the findings and verdicts of the code say.
use Rattle.std.specs.Prelude.{◌≡◌, ℕ, List, map}
use Rattle.core_tree.specs.Trees.{TypedFile}
use Rattle.core_tree.specs.Ranges.{Limits}
use Rattle.interleave.specs.Replay.{Replays}
use Rattle.interleave.specs.declared.inputs.Trace.{Trace}
use Rattle.cbmc_top.specs.Programs.{IsFileOf}
use Rattle.run_search.specs.Executions.{bounded_world, IsVerified}
use Rattle.run_search.specs.Clauses.{IsRefuted, IsUsedUp}
use Rattle.run_search.specs.Answers.{Answer, limited, refused, successful, failed, used_up, listed}
use Rattle.report.specs.Properties.{told_of}
use Rattle.cbmc_top.specs.Command.{checking}
use Rattle.cbmc_top.specs.Answers.{Decides}
use Rattle.run_search.specs.declared.stop.Stop.{Stop}
use Rattle.run_search.specs.declared.stop.Stop.TheVariants as stops
use Rattle.report.specs.Failing.{failure_of}
use Rattle.cbmc_top.specs.declared.finding.Finding.{Finding}
use Rattle.cbmc_top.specs.declared.finding.Finding.TheVariants as findings
use Rattle.cbmc_top.specs.declared.verdict.Verdict.{Verdict}
use Rattle.cbmc_top.specs.declared.verdict.Verdict.TheVariants as verdicts

abbrev pub answer_of : Finding → Answer
answer_of (findings.Successful used) = successful used
answer_of (findings.Failed f) = failed (failure_of f.trace f.function.bytes.items)
answer_of (findings.Refused r) = refused r
answer_of (findings.Limited limit) = limited limit
answer_of (findings.Budget used) = used_up used
answer_of (findings.Listed ps) = listed (map told_of ps.items)

-- the finding is the stop
abbrev pub IsStop : Stop → Finding → Type 0
IsStop (stops.Refused r) f = f ≡ findings.Refused r
IsStop (stops.Limited l) f = f ≡ findings.Limited l
IsStop stops.Memory f = ⊥

-- the run of a trace breaks its check
abbrev pub IsBroken : Limits → TypedFile → Trace → Type 0
IsBroken limits core t = Replays (bounded_world limits core) t.inputs t.schedule t.check

-- the run of a trace that was found breaks its check
abbrev pub IsTraced : Limits → List ℕ → Finding → Type 0
IsTraced limits file (findings.Successful used) = Unit {0}
IsTraced limits file (findings.Failed f) = (core : TypedFile) × IsFileOf file core × IsBroken limits core f.trace
IsTraced limits file (findings.Refused r) = Unit {0}
IsTraced limits file (findings.Limited limit) = Unit {0}
IsTraced limits file (findings.Budget used) = Unit {0}
IsTraced limits file (findings.Listed ps) = Unit {0}

-- what is told of the trace, with the name of a function, decides the file
abbrev pub IsFailure : Limits → ℕ → List ℕ → Trace → Type 0
IsFailure limits budget file t = (function : List ℕ) × Decides (checking limits budget) file (failed (failure_of t function))

-- what is said of a file: an answer that decides it, and what that says of its program
abbrev pub IsVerdict : Limits → ℕ → List ℕ → Verdict → Type 0
IsVerdict limits budget file (verdicts.Successful used) =
    Decides (checking limits budget) file (successful used)
    × ((core : TypedFile) × IsFileOf file core × IsVerified limits core × IsRefuted limits budget core used)
IsVerdict limits budget file (verdicts.Failed t) =
    IsFailure limits budget file t × ((core : TypedFile) × IsFileOf file core × IsBroken limits core t)
IsVerdict limits budget file (verdicts.Refused r) = Decides (checking limits budget) file (refused r)
IsVerdict limits budget file (verdicts.Limited limit) = Decides (checking limits budget) file (limited limit)
IsVerdict limits budget file (verdicts.Budget used) =
    Decides (checking limits budget) file (used_up used) × ((core : TypedFile) × IsFileOf file core × IsUsedUp limits budget core used)
