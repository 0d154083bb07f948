use Rattle.code_draft.proofs.Drafting.{ok_both}
use Rattle.code_draft.proofs.DraftingPointers.{lowers_allocate}
use Rattle.code_draft.proofs.draft.Draft.allocate.Goals as goal

pub returns : goal.returns
returns c = λ old e h. ok_both _ _ _ _ c.grant_drawn.ensures.code c.grant_drawn.ensures.value (λ y n v.
    lowers_allocate old c.args.self.now c.ask.new.self _ e c.args.size y c.args.line c.in_ok-grant.grant.number c.in_ok-grant.grant.pointer
    h c.in_ok-grant.ensures.code (λ i. (c.in_ok-grant.ensures.registers i).number) (λ i. (c.in_ok-grant.ensures.registers i).pointer) n v)
