use Rattle.code_draft.proofs.Drafting.{ok_both}
use Rattle.code_draft.proofs.DraftingPointers.{lowers_allocate_zeroed}
use Rattle.code_draft.proofs.draft.Draft.allocate_zeroed.Goals as goal

pub returns : goal.returns
returns c = λ old mid a b h k. ok_both _ _ _ _ c.grant_zeroed.ensures.code c.grant_zeroed.ensures.value (λ z n v.
    lowers_allocate_zeroed old mid c.args.self.now c.ask.new.self _ a b c.args.count c.args.size z c.args.line c.in_ok-grant.grant.number c.in_ok-grant.grant.pointer
    h k c.in_ok-grant.ensures.code (λ i. (c.in_ok-grant.ensures.registers i).number) (λ i. (c.in_ok-grant.ensures.registers i).pointer) n v)
