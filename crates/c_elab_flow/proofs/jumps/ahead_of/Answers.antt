use Rattle.std.proofs.Common.{◌≡◌, ◌∷◌, [], ◌++◌, ◌+◌, take, ap, sym, subst, ◌∙◌, arith}
use Rattle.std.proofs.lemmas.List.{take_more, length-take}
use Rattle.c_tree.specs.declared.statement.Item.{Item}
use Rattle.c_tree.specs.declared.statement.Stmt.{Stmt}
use Rattle.c_tree.specs.Statements.{items_of, view_statement}
use Rattle.c_elab_flow.specs.Lookahead.{Looks, Notes}
use Rattle.c_elab_flow.proofs.Jumping.{looks_does, looks_declares}
use Rattle.c_elab_flow.proofs.jumps.ahead_of.Goals as goal
use Rattle.c_elab_flow.proofs.jumps.ahead_of.Goals.{in-Declares, in-Does+in_ok-note_item-in-Does}

pub loop-item-preserved : goal.loop-item-preserved
loop-item-preserved c =
    let is = c.args.items.now in
    let i = c.loop-item.item-index in
    let a = c.loop-item.ahead in
    let x = c.item-item.result in
    let sw = c.args.switched in
    let all = items_of (take (i + 1) is) in
    let more : take (i + 1) is ≡ take i is ++ x ∷ [] = take_more is i x (omega arith) ∙ ap (λ (y : Item). take i is ++ y ∷ []) (sym c.item-item.is) in
    let long = length-take i is in
    record {
      number = ap (λ k. k + 1) c.loop-item.invariant.number;
      looks = elim c.match-item.branch [
        | in-Declares w ↦ subst (Looks sw all []) (sym w.ahead-is) (looks_declares sw (take i is) (take (i + 1) is) w.in-Declares.field-0 a (more ∙ ap (λ (y : Item). take i is ++ y ∷ []) w.in-Declares.is) c.loop-item.invariant.looks)
        | in-Does+in_ok-note_item-in-Does w ↦
            subst (Looks sw all []) (sym w.ahead-is)
            (looks_does sw (take i is) (take (i + 1) is) w.in-Does.statement a w.note_item.new.ahead c.loop-item.number (more ∙ ap (λ (y : Item). take i is ++ y ∷ []) w.in-Does.is)
            (let at = c.loop-item.invariant.number in omega (arith, at, long)) c.loop-item.invariant.looks
            (subst (λ (y : Stmt). Notes a sw (view_statement y) c.loop-item.number w.note_item.new.ahead) w.deref.ensures w.in_ok-note_item-in-Does.ensures))
      ];
    }
