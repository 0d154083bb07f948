-- The cells of a plan, and what is needed of them.
use Rattle.std.proofs.Common.{◌≡◌, ℕ, ◌<◌, true, nat_lt, List, length, get_or, sym, ap, ◌∙◌, arith}
use Rattle.std.specs.Prelude.{◌&&◌, slice_index}
use Rattle.std.proofs.lemmas.Bool.Decides.{nat_tests}
use Rattle.std.proofs.lemmas.List.{get_or_default}
use Rattle.goto_prog.proofs.Registers.{both, test_below}
use Rattle.guarded_ssa.specs.declared.liveness.Plan.{Plan}
use Rattle.guarded_ssa.specs.inner.Held.{IsPlan, owners}
use Rattle.guarded_ssa.specs.inner.Registers.{is_needed}
use Rattle.guarded_ssa.proofs.Numbering.{all_owners, owner_there}

module _ (p : Plan) (plan : IsPlan p) where
  -- a cell is that of a register or a block of the plan
  pub owner_read : (c n : ℕ) → c < length p.owner.items → n ≡ get_or p.owner.items c n → n < length p.until.items
  owner_read c n lt is =
      let code = p.code.now in
      let there : c < length (owners code) = omega (arith, lt, ap length plan.owner) in
      let same : n ≡ slice_index (owners code) c = is ∙ get_or_default p.owner.items c n 0 lt ∙ ap (λ (xs : List ℕ). slice_index xs c) plan.owner in
      omega (arith, same, owner_there code c there, plan.until)

  pub needed_there : (place c : ℕ) → is_needed p.until.items p.owner.items place c ≡ true → c < length p.types.items
  needed_there place c h =
      let lt = test_below c (length p.owner.items) (both (nat_lt c (length p.owner.items)) (nat_lt place (slice_index p.until.items (slice_index p.owner.items c))) h).0 in
      omega (arith, lt, ap length plan.owner, ap length plan.types, all_owners p.code.now)

-- the test as the code makes it
pub needed_is : (until owner : List ℕ) (place c n m : ℕ) → c < length owner → n ≡ get_or owner c n → n < length until → m ≡ get_or until n m → nat_lt place m ≡ is_needed until owner place c
needed_is until owner place c n m lt n_is lt' m_is =
    let a : nat_lt c (length owner) ≡ true = is_in c (length owner) lt in
    let b : n ≡ slice_index owner c = n_is ∙ get_or_default owner c n 0 lt in
    let d : m ≡ slice_index until (slice_index owner c) = m_is ∙ get_or_default until n m 0 lt' ∙ ap (slice_index until) b in
    λ i. sym a i && nat_lt place (d i)
  where
    is_in : (c n : ℕ) → c < n → nat_lt c n ≡ true
    is_in c n lt = grind (arith, nat_tests)
