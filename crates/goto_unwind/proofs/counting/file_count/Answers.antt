use Rattle.std.proofs.Common.{◌∙◌}
use Rattle.core_tree.specs.Trees.{view_functions}
use Rattle.goto_unwind.proofs.Adding.{number_same}
use Rattle.goto_unwind.proofs.CallSums.{file_same}
use Rattle.goto_unwind.proofs.counting.file_count.Goals as goal

pub returns : goal.returns
returns c =
    number_same c.whole.result _ _
    (file_same c.args.weights (view_functions c.args.functions.now) c.args.bounds.now c.deref.result.now c.unwind.result c.main_number.result (c.deref.ensures.value ∙ c.in_ok-table.ensures) c.unwind.ensures.is c.main_number.ensures)
    c.whole.ensures
