use Rattle.std.proofs.Common.{◌≡◌, None, Ok, inl, inr, sym, ap, ◌∙◌, subst}
use Rattle.c_tree.specs.Statements.{view_file}
use Rattle.core_tree.specs.Trees.{view_core}
use Rattle.c_elab_decl.specs.Files.{elaborated}
use Rattle.c_profile.specs.Rules.{first_breach}
use Rattle.cbmc_top.specs.Stops.{HasNoTyping, IsOutside, IsRefused}
use Rattle.cbmc_top.proofs.Results.{ok_map, err_map, err_on}
use Rattle.cbmc_top.proofs.Stages.{stop_map}
use Rattle.cbmc_top.proofs.accepting.admitted.Goals as goal

pub returns-in_err-core-clause-stop : goal.returns-in_err-core-clause-stop
returns-in_err-core-clause-stop c =
    let tree = view_file c.args.tree.now in
    err_on c.from_residual.result c.in_err-core.field-0.0 _ c.from_residual.ensures.1
    (stop_map c.in_err-core.field-0.0 (HasNoTyping tree) (IsRefused tree) (λ a x. inl x) c.in_err-core.ensures.stop)

pub returns-clause-typed : goal.returns-clause-typed
returns-clause-typed c =
    let tree = view_file c.args.tree.now in
    ok_map c.in_profile.result _ _ c.in_profile.ensures.found (λ f x. c.in_ok-core.ensures.found ∙ ap (λ g. Ok (view_core g)) (sym x.0))

pub returns-clause-in_profile : goal.returns-clause-in_profile
returns-clause-in_profile c =
    ok_map c.in_profile.result _ _ c.in_profile.ensures.found (λ f x. ap (λ g. first_breach (view_core g)) x.0 ∙ x.1)

pub returns-clause-stop : goal.returns-clause-stop
returns-clause-stop c =
    let tree = view_file c.args.tree.now in
    let core = view_core c.in_ok-core.core in
    err_map c.in_profile.result _ _ c.in_profile.ensures.stop (λ s x. stop_map s (IsOutside core) (IsRefused tree) (λ a y. inr (core, c.in_ok-core.ensures.found, y)) x)
