-- What holds of each thread of a candidate at its start, and is kept by its steps, holds at each of its events.
use Rattle.std.proofs.Common.{◌≡◌, ◌<◌, ◌+◌, ◌*◌, ◌^◌, ℕ, zero, suc, true, List, [], ◌∷◌, ◌⊎◌, inl, inr, refl, sym, ap, subst, ◌∙◌, arith}
use Rattle.actions.specs.declared.action.Action.TheVariants.{Create}
use Rattle.actions.specs.declared.action.Answer.{Answer}
use Rattle.actions.specs.declared.action.Next.{Next}
use Rattle.actions.specs.declared.action.Next.TheVariants.{Act}
use Rattle.actions.specs.Behaviour.{Thread, CanStart}
use Rattle.actions.specs.Objects.{Objects}
use Rattle.interleave.specs.World.{Member, child}
use Rattle.weave.specs.Step.{IsOwn, told_by}
use Rattle.weave.specs.Candidate.{Candidate, In, Executed, outcome_at}
use Rattle.weave.specs.Consistent.{main_member, IsRun, IsChild, IsConsistent}
use Rattle.weave.specs.Family.{IsFamily}
use Rattle.weave.proofs.Lists.{each_in}
use Rattle.weave.proofs.Touching.{creating}
use Rattle.weave.proofs.Local.{IsGood, good_main, good_told, good_child}
use Rattle.weave.proofs.Numbering.{moves_by, Continues, continues}

-- a property of threads with their numbers: of main, kept by a step, and of each thread that one with it creates
pub record IsKept (t : Thread) (objects : Objects) (Q : ℕ → Member → Type 0) : Type 0 where
  pub main : Q 0 (main_member t objects)
  pub told : (k : ℕ) (m : Member) (n : Next) (a : Answer) → m.thread.behaves [] ≡ n → Q k m → Q k (told_by [] m n a)
  pub child : (k : ℕ) (m : Member) (f v line function : ℕ) → IsGood t m → m.thread.behaves [] ≡ Act (Create f v) line function → t.program.can_start f ≡ true → v < 2 ^ 64 → Q k m
      → Q (k * 256 + (m.counts.creations + 1)) (child (main_member t objects) f v)

module _ {Id : Type 0} (c : Candidate Id) (t : Thread) (objects : Objects) (family : IsFamily t) (h : IsConsistent c t objects) (Q : ℕ → Member → Type 0) (kept : IsKept t objects Q) where
  -- the thread that makes the event, just before it
  pub record Stands (x : Id) : Type 0 where
    pub member : Member
    pub good : IsGood t member
    pub holds : Q (c.thread x) member
    pub asks : member.thread.behaves [] ≡ c.next x
    pub own : IsOwn (c.thread x) member.counts (c.own x) (c.next x)

  along : (k : ℕ) (xs : List Id) (m : Member) (x : Id) → c.thread x ≡ k → IsGood t m → Q k m → IsRun c m xs → In x xs → Stands x
  along k [] m x e g q r i = absurd i
  along k (y ∷ ys) m x e g q r (inl f) = record {
    member = m;
    good = g;
    holds = subst (λ (j : ℕ). Q j m) (sym e) q;
    asks = r.0 ∙ ap c.next (sym f);
    own = subst (λ (z : Id). IsOwn (c.thread z) m.counts (c.own z) (c.next z)) (sym f) r.1;
  }
  along k (y ∷ ys) m x e g q r (inr i) =
      let go : Continues c (outcome_at c y) (λ a. IsRun c (told_by [] m (c.next y) a) ys) = continues c (outcome_at c y) ys (λ a. IsRun c (told_by [] m (c.next y) a) ys) x r.2 i in
      along k ys (told_by [] m (c.next y) go.answer) x e (good_told t [] m (c.next y) go.answer r.0 g) (kept.told k m (c.next y) go.answer r.0 q) go.more i

  -- a thread at its start
  record Begins (k : ℕ) : Type 0 where
    member : Member
    good : IsGood t member
    holds : Q k member
    run : IsRun c member (c.runs k)

  child_by : (k : ℕ) (x : Id) → In x (c.runs (suc k)) → (IsChild c (main_member t objects) (suc k) → Begins (suc k)) → Begins (suc k)
  child_by k x i f = by (h.children k)
    where
      by : (c.runs (suc k) ≡ []) ⊎ IsChild c (main_member t objects) (suc k) → Begins (suc k)
      by (inl e) = absurd (subst (λ (l : List Id). In x l) e i)
      by (inr born) = f born

  can_start_by : (n : Next) (f v line function : ℕ) → n ≡ Act (Create f v) line function → CanStart t.program n → (t.program.can_start f ≡ true) × (v < 2 ^ 64)
  can_start_by n f v line function e k = subst (λ (x : Next). CanStart t.program x) e k

  begins_by : (n k : ℕ) (x : Id) → In x (c.runs k) → c.clock x < n → Begins k
  begins_by zero k x i l = absurd (omega arith)
  begins_by (suc n) zero x i l = record { member = main_member t objects; good = good_main t family objects; holds = kept.main; run = h.main }
  begins_by (suc n) (suc k) x i l = child_by k x i (λ born.
      let less : c.clock born.creator < c.clock x = each_in (λ y. c.clock born.creator < c.clock y) (c.runs (suc k)) x born.after i in
      let begun : Begins (c.thread born.creator) = begins_by n (c.thread born.creator) born.creator born.executed (omega arith) in
      let at : Stands born.creator = along (c.thread born.creator) (c.runs (c.thread born.creator)) begun.member born.creator refl begun.good begun.holds begun.run born.executed in
      let move = moves_by (outcome_at c born.creator) (suc k) born.function born.value born.creates in
      let create = creating (c.thread born.creator) (c.own born.creator) (c.view born.creator) (c.next born.creator) move.0 (suc k) born.function born.value move.1 in
      let next : at.member.thread.behaves [] ≡ Act (Create born.function born.value) create.line create.function = at.asks ∙ create.create in
      let can = can_start_by (at.member.thread.behaves []) born.function born.value create.line create.function next (at.good.behaviour.creates []) in
      let number : c.own born.creator ≡ c.thread born.creator * 256 + (at.member.counts.creations + 1) = subst (λ (z : Next). IsOwn (c.thread born.creator) at.member.counts (c.own born.creator) z) create.create at.own in
      let same : c.thread born.creator * 256 + (at.member.counts.creations + 1) ≡ suc k = sym (create.number ∙ number) in
      record {
        member = child (main_member t objects) born.function born.value;
        good = good_child t family at.member (main_member t objects) born.function born.value create.line create.function next at.good refl;
        holds = subst (λ (j : ℕ). Q j (child (main_member t objects) born.function born.value)) same
            (kept.child (c.thread born.creator) at.member born.function born.value create.line create.function at.good next can.0 can.1 at.holds);
        run = born.run;
      })

  pub stands : (x : Id) → Executed c x → Stands x
  stands x i =
      let begun : Begins (c.thread x) = begins_by (suc (c.clock x)) (c.thread x) x i (omega arith) in
      along (c.thread x) (c.runs (c.thread x)) begun.member x refl begun.good begun.holds begun.run i
