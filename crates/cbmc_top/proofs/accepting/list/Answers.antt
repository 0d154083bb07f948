use Rattle.std.proofs.Common.{◌≡◌, None, Ok, map, sym, ap, subst}
use Rattle.c_tree.specs.Statements.{view_file}
use Rattle.core_tree.specs.Trees.{view_core}
use Rattle.report.specs.Properties.{told_of}
use Rattle.run_search.specs.Answers.{listed}
use Rattle.cbmc_top.specs.Command.{listing}
use Rattle.cbmc_top.specs.Answers.{Decides}
use Rattle.cbmc_top.specs.Stops.{IsRefused}
use Rattle.cbmc_top.proofs.Results.{err_on}
use Rattle.cbmc_top.proofs.Stages.{stop_map, refused_decides, accepted_after}
use Rattle.cbmc_top.proofs.accepting.list.Goals as goal

pub returns-in_err-_program-clause-stop : goal.returns-in_err-_program-clause-stop
returns-in_err-_program-clause-stop c =
    let file = c.args.file.now in
    let tree = view_file c.in_ok-tree.tree in
    err_on c.from_residual-in_err-_program.result c.in_err-_program.field-0.0 _ c.from_residual-in_err-_program.ensures.1
    (stop_map c.in_err-_program.field-0.0 (IsRefused tree) (Decides listing file) (λ a x. refused_decides listing file tree a c.in_ok-tree.ensures.short c.in_ok-tree.ensures.found x) c.in_err-_program.ensures.stop)

pub returns-clause-found : goal.returns-clause-found
returns-clause-found c =
    let file = c.args.file.now in
    let tree = view_file c.in_ok-tree.tree in
    let core = view_core c.in_ok-_program._program in
    accepted_after listing file core _ (record {
      short = c.in_ok-tree.ensures.short;
      program = record { tree = tree; is_tree = c.in_ok-tree.ensures.found; typed = c.in_ok-_program.ensures.typed; in_profile = c.in_ok-_program.ensures.in_profile };
    }) (ap listed c.in_ok-properties.ensures)
