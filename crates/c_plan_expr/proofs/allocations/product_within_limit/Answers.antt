use Rattle.std.proofs.Common.{◌≡◌, ℕ, ◌*◌, true, false, nat_le, subst}
use Rattle.std.specs.Prelude.{MatchOption}
use Rattle.c_plan_expr.proofs.allocations.product_within_limit.Goals as goal

pub returns : goal.returns
returns c =
    let size : ℕ = c.args.count * c.args.size in
    subst (λ limit. MatchOption c.product_at_most.result (nat_le size limit ≡ false) (λ n. (nat_le size limit ≡ true) × (n ≡ size))) c.malloc_limit.ensures.is c.product_at_most.ensures
