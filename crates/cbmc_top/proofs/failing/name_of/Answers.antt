use Rattle.std.proofs.Common.{◌≡◌, Some, sym, ap, ◌∙◌}
use Rattle.core_tree.specs.Trees.{view_core}
use Rattle.cbmc_top.specs.Answers.{name_in}
use Rattle.cbmc_top.proofs.Results.{ok_map}
use Rattle.cbmc_top.proofs.Describing.{name_found}
use Rattle.cbmc_top.proofs.failing.name_of.Goals as goal

pub returns : goal.returns
returns c =
    let core = view_core c.args.core.now in
    let number = c.args.function in
    let found : name_in core number ≡ Some c.in-Some.name.now.bytes.items = name_found c.args.core.now.functions number (Some c.in-Some.name.now) c.in-Some.ensures in
    ok_map c.copied.result _ _ c.copied.ensures (λ n x. found ∙ ap Some (sym x))
