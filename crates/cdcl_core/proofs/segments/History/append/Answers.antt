use Rattle.std.proofs.Common.{◌≡◌, ◌+◌, List, [], ◌∷◌, ◌++◌, take, sym, ap, ◌∙◌, append_assoc}
use Rattle.std.proofs.lemmas.List.{take_more}
use Rattle.sat_form.specs.declared.logs.Entry.{Entry}
use Rattle.cdcl_core.specs.declared.segments.History.{History}
use Rattle.cdcl_core.specs.Histories.{number_by, renumbered}
use Rattle.cdcl_core.proofs.Histories.{renumbered-append}
use Rattle.cdcl_core.proofs.segments.History.append.Goals as goal

pub loop-entry-preserved : goal.loop-entry-preserved
loop-entry-preserved c =
    let h : History = c.args.self.now in
    let e : Entry = c.entry-item.result in
    let items : List Entry = c.entries-entry-items.result.now in
    let more : take (c.loop-entry.entry-index + 1) items ≡ take c.loop-entry.entry-index items ++ e ∷ [] =
    take_more items c.loop-entry.entry-index e c.loop-entry-test.true ∙ ap (λ (x : Entry). take c.loop-entry.entry-index items ++ x ∷ []) (sym c.entry-item.is) in
    c.in_ok-append_entry.ensures
    ∙ ap (λ (x : History). let y : History = record x { log = x.log ++ renumbered (number_by x.numbers.items x.next) (e ∷ []) } in y) c.loop-entry.invariant
    ∙ ap (λ (es : List Entry). let y : History = record h { log = es } in y)
    (append_assoc h.log (renumbered (number_by h.numbers.items h.next) (take c.loop-entry.entry-index items)) (renumbered (number_by h.numbers.items h.next) (e ∷ []))
    ∙ ap (λ (es : List Entry). h.log ++ es)
    (sym (renumbered-append (number_by h.numbers.items h.next) (take c.loop-entry.entry-index items) (e ∷ [])) ∙ ap (renumbered (number_by h.numbers.items h.next)) (sym more)))
