-- The threads of a world that a run reaches: each is of the family, and each but main has the number of one of its creator's Creates. So a new thread's number is new.
use Rattle.std.proofs.Common.{◌≡◌, ◌<◌, ◌≤◌, ◌+◌, ◌*◌, ℕ, List, [], Option, Some, None, ◌⊎◌, inl, inr, refl, sym, ap, subst, ◌∙◌, arith}
use Rattle.std.proofs.lemmas.Bool.{cases_eq}
use Rattle.actions.specs.declared.action.Answer.{Answer}
use Rattle.actions.specs.declared.action.Next.{Next}
use Rattle.actions.specs.declared.thread_state.ThreadState.TheVariants.{Running}
use Rattle.actions.specs.Behaviour.{Thread}
use Rattle.actions.specs.Memory.{thread_at, Change, starts}
use Rattle.actions.specs.Row.{Outcome, moves}
use Rattle.interleave.specs.World.{World, Member, member_at, with_told, child}
use Rattle.weave.specs.Step.{own_by, change_by, told_by}
use Rattle.weave.specs.Family.{creations_of, IsFamily, AreWhole}
use Rattle.weave.proofs.Changing.{Fits, whole_changed}
use Rattle.weave.proofs.Suiting.{fits_step}
use Rattle.weave.proofs.Touching.{IsCreating, creating}
use Rattle.weave.proofs.Turns.{comes_by, after_move}
use Rattle.weave.proofs.Members.{told_here, told_apart, child_here, child_apart, StartsNot, starts_or}
use Rattle.weave.proofs.Local.{IsGood, good_told, good_child, counted_creations}

module _ (t : Thread) where
  pub record IsBorn (w : World) (k : ℕ) : Type 0 where
    pub parent : ℕ
    pub member : Member
    pub there : member_at w.members parent ≡ Some member
    pub count : ℕ
    pub over : 0 < count
    pub within : count ≤ member.counts.creations
    pub number : k ≡ parent * 256 + count

  pub record IsPeopled (w : World) : Type 0 where
    pub good : (k : ℕ) (m : Member) → member_at w.members k ≡ Some m → IsGood t m
    pub born : (k : ℕ) (m : Member) → member_at w.members k ≡ Some m → (k ≡ 0) ⊎ IsBorn w k
    pub whole : AreWhole w.common.memory.objects

  same_member : (members : List (ℕ × Member)) (k : ℕ) (m n : Member) → member_at members k ≡ Some m → member_at members k ≡ Some n → m ≡ n
  same_member members k m n p q = let e : Some m ≡ Some n = sym p ∙ q in cc e

  module _ (family : IsFamily t) (w : World) (p : IsPeopled w) (k₀ : ℕ) (words : List ℕ) (m : Member) (there : member_at w.members k₀ ≡ Some m) (runs : thread_at w.common.memory.threads k₀ ≡ Some Running) (a : Answer) (change : Change) (moved : comes_by w k₀ words m (m.thread.behaves []) ≡ moves a change) where
    abbrev n₀ : Next
    n₀ = m.thread.behaves []

    abbrev m₁ : Member
    m₁ = told_by words m n₀ a

    abbrev after : World
    after = after_move w k₀ words m n₀ a change

    good_here : IsGood t m
    good_here = p.good k₀ m there

    create_of : (k f v : ℕ) → change ≡ starts k f v → IsCreating k₀ (own_by k₀ words m.counts n₀) n₀ k f v
    create_of k f v q = creating k₀ (own_by k₀ words m.counts n₀) w.common.memory n₀ a k f v (moved ∙ ap (moves a) q)

    number_is : (k f v : ℕ) → change ≡ starts k f v → (k ≡ k₀ * 256 + (m.counts.creations + 1)) × (creations_of n₀ ≡ 1)
    number_is k f v q =
        let r = create_of k f v q in
        (r.number ∙ ap (own_by k₀ words m.counts) r.create, ap creations_of r.create)

    unborn_by : (k f v : ℕ) → change ≡ starts k f v → (o : Option Member) → member_at w.members k ≡ o → o ≡ None
    unborn_by k f v q None e = refl
    unborn_by k f v q (Some x) e = absurd (by (p.born k x e))
      where
        number : (k ≡ k₀ * 256 + (m.counts.creations + 1)) × (creations_of n₀ ≡ 1)
        number = number_is k f v q

        again : IsBorn w k → ⊥
        again b =
            let few = (p.good b.parent b.member b.there).within [] in
            let same : b.parent ≡ k₀ = omega (arith, number.0, number.1, b.number, b.within, few, good_here.within []) in
            let one : b.member ≡ m = same_member w.members k₀ b.member m (ap (member_at w.members) (sym same) ∙ b.there) there in
            omega (arith, number.0, b.number, same, b.within, ap (λ (x : Member). x.counts.creations) one)

        by : (k ≡ 0) ⊎ IsBorn w k → ⊥
        by (inl z) = omega (arith, number.0, z)
        by (inr b) = again b

    pub unborn : (k f v : ℕ) → change ≡ starts k f v → member_at w.members k ≡ None
    unborn k f v q = unborn_by k f v q (member_at w.members k) refl

    pub not_started : (k : ℕ) (x : Member) → member_at w.members k ≡ Some x → StartsNot change k
    not_started k x e f v q = let none : Some x ≡ None = sym e ∙ unborn k f v q in absurd (cc none)

    -- ---- the threads after the move

    pub itself_after : member_at after.members k₀ ≡ Some m₁
    itself_after = child_apart m change (with_told w.members k₀ m₁) k₀ (not_started k₀ m there) ∙ told_here w.members k₀ m m₁ there

    pub other_after : (k : ℕ) → (k ≡ k₀ → ⊥) → StartsNot change k → member_at after.members k ≡ member_at w.members k
    other_after k n s = child_apart m change (with_told w.members k₀ m₁) k s ∙ told_apart w.members k₀ k m₁ n

    pub child_after : (k f v : ℕ) → change ≡ starts k f v → member_at after.members k ≡ Some (child m f v)
    child_after k f v q = child_here m change (with_told w.members k₀ m₁) k f v q

    record Grown (k : ℕ) (x : Member) : Type 0 where
      later : Member
      at_hand : member_at after.members k ≡ Some later
      more : x.counts.creations ≤ later.counts.creations

    grown : (k : ℕ) (x : Member) → member_at w.members k ≡ Some x → Grown k x
    grown k x e = by (cases_eq k k₀)
      where
        by : (k ≡ k₀) ⊎ (k ≡ k₀ → ⊥) → Grown k x
        by (inl q) =
            let one : x ≡ m = same_member w.members k₀ x m (ap (member_at w.members) (sym q) ∙ e) there in
            record { later = m₁; at_hand = ap (member_at after.members) q ∙ itself_after; more = omega (arith, ap (λ (y : Member). y.counts.creations) one, counted_creations words m.counts n₀) }
        by (inr n) = record { later = x; at_hand = other_after k n (not_started k x e) ∙ e; more = omega arith }

    good_after : (k : ℕ) (x : Member) → member_at after.members k ≡ Some x → IsGood t x
    good_after k x e = by (starts_or change k) (cases_eq k k₀)
      where
        by : ((f v : ℕ) × (change ≡ starts k f v)) ⊎ StartsNot change k → (k ≡ k₀) ⊎ (k ≡ k₀ → ⊥) → IsGood t x
        by (inl (f, v, q)) d =
            let r = create_of k f v q in
            subst (IsGood t) (same_member after.members k (child m f v) x (child_after k f v q) e) (good_child t family m m f v r.line r.function r.create good_here good_here.program)
        by (inr s) (inl q) = subst (IsGood t) (same_member after.members k₀ m₁ x itself_after (ap (member_at after.members) (sym q) ∙ e)) (good_told t words m n₀ a refl good_here)
        by (inr s) (inr n) = p.good k x (sym (other_after k n s) ∙ e)

    born_on : (k : ℕ) → IsBorn w k → IsBorn after k
    born_on k b =
        let g = grown b.parent b.member b.there in
        record { parent = b.parent; member = g.later; there = g.at_hand; count = b.count; over = b.over; within = omega (arith, b.within, g.more); number = b.number }

    born_after : (k : ℕ) (x : Member) → member_at after.members k ≡ Some x → (k ≡ 0) ⊎ IsBorn after k
    born_after k x e = by (starts_or change k) (cases_eq k k₀)
      where
        old : (y : Member) → member_at w.members k ≡ Some y → (k ≡ 0) ⊎ IsBorn after k
        old y d = on (p.born k y d)
          where
            on : (k ≡ 0) ⊎ IsBorn w k → (k ≡ 0) ⊎ IsBorn after k
            on (inl z) = inl z
            on (inr b) = inr (born_on k b)

        by : ((f v : ℕ) × (change ≡ starts k f v)) ⊎ StartsNot change k → (k ≡ k₀) ⊎ (k ≡ k₀ → ⊥) → (k ≡ 0) ⊎ IsBorn after k
        by (inl (f, v, q)) d =
            let number = number_is k f v q in
            inr (record { parent = k₀; member = m₁; there = itself_after; count = m.counts.creations + 1; over = omega arith; within = omega (arith, counted_creations words m.counts n₀, number.1); number = number.0 })
        by (inr s) (inl q) = old m (ap (member_at w.members) q ∙ there)
        by (inr s) (inr n) = old x (sym (other_after k n s) ∙ e)

    pub fits_here : Fits w.common.memory change
    fits_here = subst (λ (o : Outcome). Fits w.common.memory (change_by o)) moved (fits_step w.common.memory k₀ (own_by k₀ words m.counts n₀) n₀ p.whole (Running, runs) (good_here.whole []))

    pub peopled_after : IsPeopled after
    peopled_after = record { good = good_after; born = born_after; whole = whole_changed w.common.memory change fits_here p.whole }
