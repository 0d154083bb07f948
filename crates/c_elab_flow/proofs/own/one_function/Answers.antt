use Rattle.std.proofs.Common.{ap, sym, ◌∙◌}
use Rattle.std.specs.Prelude.{is_some}
use Rattle.c_tree.specs.Declarations.{FullSuffixes}
use Rattle.c_elab_flow.specs.Files.{one_function}
use Rattle.c_elab_flow.proofs.Declaring.{only_one, one_own, none_own, not_one}
use Rattle.c_elab_flow.proofs.own.one_function.Goals.{else-suffixes-eq1-via-then-suffixes-eq1+else-is_function, else-suffixes-eq1-via-else-suffixes-eq1}
use Rattle.c_elab_flow.proofs.own.one_function.Goals as goal

pub returns-then-is_function : goal.returns-then-is_function
returns-then-is_function c =
    let xs = c.args.suffixes.now in
    let one = c.if-suffixes-eq1.true in
    let x = c.index-suffixes-0-then-is_function in
    let y = c.index-suffixes-0 in
    let same = sym (only_one xs y.result one y.is) ∙ only_one xs x.result one x.is in
    one_own xs x.result one x.is (sym c.if-is_function.true ∙ c.is_function.ensures ∙ ap (λ (suffixes : FullSuffixes). is_some (one_function suffixes)) same)

pub returns-else-suffixes-eq1 : goal.returns-else-suffixes-eq1
returns-else-suffixes-eq1 c =
    elim c.else-suffixes-eq1.branch [
      | else-suffixes-eq1-via-then-suffixes-eq1+else-is_function w ↦
          none_own c.args.suffixes.now w.index-suffixes-0.result w.if-suffixes-eq1.true w.index-suffixes-0.is (sym w.if-is_function.false ∙ w.is_function.ensures)
      | else-suffixes-eq1-via-else-suffixes-eq1 w ↦ not_one c.args.suffixes.now w.if-suffixes-eq1.false
    ]
