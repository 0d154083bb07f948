use Rattle.std.proofs.Common.{◌≡◌, ℕ, length, replicate, ap, ◌∙◌, arith}
use Rattle.c_types.proofs.MemberLoops.{zeros_are}
use Rattle.c_types.proofs.extents.no_offsets.Goals as goal

pub returns : goal.returns
returns c = let all : c.loop-member._member-index ≡ length c.args.members.now = omega (arith, c.loop-member-test.false, c.loop-member.auto._member-index-end) in
    c.loop-member.invariant ∙ ap (λ (n : ℕ). replicate n 0) all ∙ zeros_are c.args.members.now
