use Rattle.std.proofs.Common.{subst}
use Rattle.run_search.specs.Answers.{successful, used_up}
use Rattle.cbmc_top.specs.Command.{checking}
use Rattle.cbmc_top.specs.Answers.{Decides}
use Rattle.cbmc_top.specs.declared.finding.Finding.{Finding}
use Rattle.cbmc_top.specs.Verdicts.{answer_of, IsTraced}
use Rattle.cbmc_top.proofs.Stages.{told}
use Rattle.cbmc_top.proofs.verdict.check_bytes.Goals as goal

pub returns-in-Successful : goal.returns-in-Successful
returns-in-Successful c =
    let limits = c.args.options.now.bounds in
    let budget = c.args.options.now.budget in
    let file = c.args.file.now in
    let found = subst (λ (f : Finding). Decides (checking limits budget) file (answer_of f)) c.in-Successful.is c.in_ok-used.ensures.found in
    let t = told limits budget file (successful c.in-Successful.used) tt found in
    (found, (t.core, t.program, t.after.0, t.after.1))

pub returns-in-Failed : goal.returns-in-Failed
returns-in-Failed c =
    let limits = c.args.options.now.bounds in
    let budget = c.args.options.now.budget in
    let file = c.args.file.now in
    let found = subst (λ (f : Finding). Decides (checking limits budget) file (answer_of f)) c.in-Failed.is c.in_ok-used.ensures.found in
    let traced = subst (λ (f : Finding). IsTraced limits file f) c.in-Failed.is c.in_ok-used.ensures.traced in
    ((c.in-Failed.failing.function.bytes.items, found), traced)

pub returns-in-Budget : goal.returns-in-Budget
returns-in-Budget c =
    let limits = c.args.options.now.bounds in
    let budget = c.args.options.now.budget in
    let file = c.args.file.now in
    let found = subst (λ (f : Finding). Decides (checking limits budget) file (answer_of f)) c.in-Budget.is c.in_ok-used.ensures.found in
    let t = told limits budget file (used_up c.in-Budget.used) tt found in
    (found, (t.core, t.program, t.after))
