use Rattle.std.proofs.Common.{None, subst}
use Rattle.core_tree.specs.Trees.{view_core}
use Rattle.run_search.specs.Answers.{successful, failed, used_up}
use Rattle.report.specs.Failing.{failure_of}
use Rattle.run_search.specs.Searches.{IsSearched}
use Rattle.cbmc_top.proofs.Plain.{elaborated_plain}
use Rattle.run_search.specs.Stops.{IsPassed}
use Rattle.cbmc_top.specs.Command.{checking}
use Rattle.cbmc_top.specs.Answers.{Decides}
use Rattle.cbmc_top.proofs.Results.{err_on}
use Rattle.cbmc_top.proofs.Stages.{accepted_decides, accepted_passed, stop_map}
use Rattle.cbmc_top.proofs.finding.checked.Goals as goal

pub search-requires-clause-plain : goal.search-requires-clause-plain
search-requires-clause-plain c = let t = c.in_ok-program.ensures.typed in elaborated_plain t.tree (view_core c.in_ok-program.program) t.typed

pub returns-in-Refuted-clause-found : goal.returns-in-Refuted-clause-found
returns-in-Refuted-clause-found c =
    let core = view_core c.in_ok-program.program in
    let found = subst (IsSearched c.args.bounds.now c.args.budget core) c.in-Refuted.is c.in_ok-searched.ensures.found in
    accepted_decides c.args.bounds.now c.args.budget c.args.file.now core None (successful c.in-Refuted.used) c.in_ok-program.ensures.found c.in_ok-searched.ensures.counts
    found

pub returns-in-Broken-clause-found : goal.returns-in-Broken-clause-found
returns-in-Broken-clause-found c =
    accepted_decides c.args.bounds.now c.args.budget c.args.file.now (view_core c.in_ok-program.program) None (failed (failure_of c.in_ok-failing-in-Broken.failing.trace c.in_ok-failing-in-Broken.failing.function.bytes.items)) c.in_ok-program.ensures.found c.in_ok-searched.ensures.counts
    c.in_ok-failing-in-Broken.ensures.failure

pub returns-clause-found : goal.returns-clause-found
returns-clause-found c =
    let core = view_core c.in_ok-program.program in
    let found = subst (IsSearched c.args.bounds.now c.args.budget core) c.in-Budget.is c.in_ok-searched.ensures.found in
    accepted_decides c.args.bounds.now c.args.budget c.args.file.now core None (used_up c.in-Budget.used) c.in_ok-program.ensures.found c.in_ok-searched.ensures.counts found

pub returns-in_err-searched-clause-stop : goal.returns-in_err-searched-clause-stop
returns-in_err-searched-clause-stop c =
    let core = view_core c.in_ok-program.program in
    let limits = c.args.bounds.now in
    err_on c.from_residual-in_err-searched.result c.in_err-searched.field-0.0 _ c.from_residual-in_err-searched.ensures.1
    (stop_map c.in_err-searched.field-0.0 (IsPassed limits core) (Decides (checking limits c.args.budget) c.args.file.now) (λ a x. accepted_passed limits c.args.budget c.args.file.now core a c.in_ok-program.ensures.found x)
    c.in_err-searched.ensures.stop)
