use Rattle.std.proofs.Common.{◌∙◌, sym, ap, subst, List, ℕ, map}
use Rattle.std.proofs.lemmas.Result.{IfOk-weaker, IfErr-weaker}
use Rattle.core_tree.specs.Ranges.{loop_limits}
use Rattle.options.specs.Cut.{AreEach}
use Rattle.options.proofs.Items.{cut_items, join_items}
use Rattle.options.proofs.loops.items.Goals as goal

pub returns-clause-items : goal.returns-clause-items
returns-clause-items c =
    let cut = ap (map (λ x. x.now)) c.deref.ensures.value ∙ c.in_ok-texts.ensures in
    IfOk-weaker c.bounds_of.result _ _
    (λ bounds each. join_items (loop_limits bounds.items) c.args.text.now (subst (λ (ts : List (List ℕ)). AreEach ts (loop_limits bounds.items)) cut each)) c.bounds_of.ensures.items

pub returns-clause-usage : goal.returns-clause-usage
returns-clause-usage c =
    let cut = ap (map (λ x. x.now)) c.deref.ensures.value ∙ c.in_ok-texts.ensures in
    IfErr-weaker c.bounds_of.result _ _
    (λ e none u ls items. none u ls (subst (λ (ts : List (List ℕ)). AreEach ts ls) (sym cut) (cut_items c.args.text.now ls items))) c.bounds_of.ensures.usage
