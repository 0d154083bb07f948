use Rattle.std.proofs.Common.{◌≡◌, None, Ok, IfOk, sym, subst}
use Rattle.c_tree.specs.Statements.{view_file}
use Rattle.core_tree.specs.Trees.{view_core}
use Rattle.cbmc_top.specs.Programs.{IsAccepted}
use Rattle.cbmc_top.specs.Spelled.{IsTypedOf}
use Rattle.cbmc_top.specs.Answers.{Decides}
use Rattle.cbmc_top.specs.Stops.{IsRefused}
use Rattle.cbmc_top.proofs.Results.{ok_map, ok_both, err_map}
use Rattle.cbmc_top.proofs.Stages.{stop_map, refused_decides}
use Rattle.cbmc_top.proofs.accepting.accept.Goals as goal

pub returns-clause-found : goal.returns-clause-found
returns-clause-found c =
    let tree = view_file c.in_ok-tree.tree in
    ok_map c.admitted.result _ _ (ok_both c.admitted.result _ _ c.admitted.ensures.typed c.admitted.ensures.in_profile) (λ f x. record {
      short = c.in_ok-tree.ensures.short;
      program = record { tree = tree; is_tree = c.in_ok-tree.ensures.found; typed = x.0; in_profile = x.1 };
    })

pub returns-clause-typed : goal.returns-clause-typed
returns-clause-typed c =
    let tree = view_file c.in_ok-tree.tree in
    ok_map c.admitted.result _ _ c.admitted.ensures.typed (λ f x. record { tree = tree; spelling = c.in_ok-tree.ensures.spelled; typed = x })

pub returns-clause-stop : goal.returns-clause-stop
returns-clause-stop c =
    let file = c.args.file.now in
    let tree = view_file c.in_ok-tree.tree in
    err_map c.admitted.result _ _ c.admitted.ensures.stop (λ s x. λ purpose.
    stop_map s (IsRefused tree) (Decides purpose file) (λ a y. refused_decides purpose file tree a c.in_ok-tree.ensures.short c.in_ok-tree.ensures.found y) x)
