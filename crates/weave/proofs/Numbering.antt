-- In a consistent candidate each executed event is a step of a thread of the family, and no two Creates name one thread.
use Rattle.std.proofs.Common.{◌≡◌, ◌<◌, ◌+◌, ◌*◌, ℕ, zero, suc, List, [], ◌∷◌, ◌⊎◌, inl, inr, refl, sym, ap, subst, ◌∙◌, arith}
use Rattle.actions.specs.declared.action.Answer.{Answer}
use Rattle.actions.specs.declared.action.Next.{Next}
use Rattle.actions.specs.Behaviour.{Thread}
use Rattle.actions.specs.Memory.{Change, starts}
use Rattle.actions.specs.Objects.{Objects}
use Rattle.actions.specs.Row.{Outcome, breaks, waits, moves}
use Rattle.interleave.specs.World.{Member, child}
use Rattle.weave.specs.Step.{IsOwn, change_by, told_by}
use Rattle.weave.specs.Candidate.{Candidate, In, Executed, outcome_at, change_at}
use Rattle.weave.specs.Consistent.{main_member, GoesOn, IsRun, IsChild, IsConsistent}
use Rattle.weave.specs.Family.{creations_of, IsFamily}
use Rattle.weave.proofs.Lists.{each_in}
use Rattle.weave.proofs.Touching.{IsCreating, creating}
use Rattle.weave.proofs.Local.{IsGood, good_main, good_told, good_child, counted_creations}

-- an outcome with a change that starts a thread moves
pub moves_by : (o : Outcome) (k f v : ℕ) → change_by o ≡ starts k f v → (a : Answer) × (o ≡ moves a (starts k f v))
moves_by (breaks class) k f v e = absurd (cc e)
moves_by waits k f v e = absurd (cc e)
moves_by (moves a change) k f v e = (a, λ i. moves a (e i))

module _ {Id : Type 0} (c : Candidate Id) where
  pub record Continues (o : Outcome) (rest : Answer → Type 0) : Type 0 where
    pub answer : Answer
    pub change : Change
    pub moved : o ≡ moves answer change
    pub more : rest answer

  -- where an event is left, the one before it moved
  pub continues : (o : Outcome) (xs : List Id) (rest : Answer → Type 0) (x : Id) → GoesOn c o xs rest → In x xs → Continues o rest
  continues (breaks class) xs rest x h i = absurd (subst (λ (l : List Id). In x l) h i)
  continues waits xs rest x h i = absurd h
  continues (moves a change) xs rest x h i = record { answer = a; change = change; moved = refl; more = h }

  abbrev pub Creates : Id → ℕ → Type 0
  Creates x k = (f v : ℕ) × (change_at c x ≡ starts k f v)

  module _ (t : Thread) where
    -- a thread of the family stands at this event
    pub record StandsAt (x : Id) : Type 0 where
      pub member : Member
      pub good : IsGood t member
      pub asks : member.thread.behaves [] ≡ c.next x

    pub stands : (xs : List Id) (m : Member) (x : Id) → IsGood t m → IsRun c m xs → In x xs → StandsAt x
    stands [] m x g r i = absurd i
    stands (y ∷ ys) m x g r (inl e) = record { member = m; good = g; asks = r.0 ∙ ap c.next (sym e) }
    stands (y ∷ ys) m x g r (inr i) =
        let go : Continues (outcome_at c y) (λ a. IsRun c (told_by [] m (c.next y) a) ys) = continues (outcome_at c y) ys (λ a. IsRun c (told_by [] m (c.next y) a) ys) x r.2 i in
        stands ys (told_by [] m (c.next y) go.answer) x (good_told t [] m (c.next y) go.answer r.0 g) go.more i

    -- ---- the number of a created thread

    pub record IsNumbered (above : ℕ) (x : Id) (k : ℕ) : Type 0 where
      pub count : ℕ
      pub over : above < count
      pub below : count < 256
      pub number : k ≡ c.thread x * 256 + count

    numbered_here : (m : Member) (x : Id) (k f v : ℕ) → IsGood t m → m.thread.behaves [] ≡ c.next x → IsOwn (c.thread x) m.counts (c.own x) (c.next x)
        → change_at c x ≡ starts k f v → IsNumbered m.counts.creations x k × (creations_of (c.next x) ≡ 1)
    numbered_here m x k f v g e own h =
        let move = moves_by (outcome_at c x) k f v h in
        let create : IsCreating (c.thread x) (c.own x) (c.next x) k f v = creating (c.thread x) (c.own x) (c.view x) (c.next x) move.0 k f v move.1 in
        let same : c.own x ≡ c.thread x * 256 + (m.counts.creations + 1) = subst (λ (n : Next). IsOwn (c.thread x) m.counts (c.own x) n) create.create own in
        let one : creations_of (c.next x) ≡ 1 = ap creations_of create.create in
        (record { count = m.counts.creations + 1; over = omega arith; below = omega (arith, g.within [], ap creations_of e, one); number = create.number ∙ same }, one)

    more_creations : (m : Member) (n : Next) (a : Answer) → m.counts.creations < suc (told_by [] m n a).counts.creations
    more_creations m n a = omega (arith, counted_creations [] m.counts n)

    pub numbered : (xs : List Id) (m : Member) (x : Id) (k : ℕ) → IsGood t m → IsRun c m xs → In x xs → Creates x k → IsNumbered m.counts.creations x k
    numbered [] m x k g r i h = absurd i
    numbered (y ∷ ys) m x k g r (inl e) h = (numbered_here m x k h.0 h.1 g (r.0 ∙ ap c.next (sym e)) (subst (λ (z : Id). IsOwn (c.thread z) m.counts (c.own z) (c.next z)) (sym e) r.1) h.2).0
    numbered (y ∷ ys) m x k g r (inr i) h =
        let go : Continues (outcome_at c y) (λ a. IsRun c (told_by [] m (c.next y) a) ys) = continues (outcome_at c y) ys (λ a. IsRun c (told_by [] m (c.next y) a) ys) x r.2 i in
        let n : IsNumbered (told_by [] m (c.next y) go.answer).counts.creations x k = numbered ys (told_by [] m (c.next y) go.answer) x k (good_told t [] m (c.next y) go.answer r.0 g) go.more i h in
        record { count = n.count; over = omega (arith, n.over, more_creations m (c.next y) go.answer); below = n.below; number = n.number }

    -- the number of the first Create in a run
    first_number : (m : Member) (x : Id) (k f v : ℕ) → m.thread.behaves [] ≡ c.next x → IsOwn (c.thread x) m.counts (c.own x) (c.next x) → change_at c x ≡ starts k f v
        → (k ≡ c.thread x * 256 + (m.counts.creations + 1)) × (creations_of (c.next x) ≡ 1)
    first_number m x k f v e own h =
        let move = moves_by (outcome_at c x) k f v h in
        let create : IsCreating (c.thread x) (c.own x) (c.next x) k f v = creating (c.thread x) (c.own x) (c.view x) (c.next x) move.0 k f v move.1 in
        let same : c.own x ≡ c.thread x * 256 + (m.counts.creations + 1) = subst (λ (n : Next). IsOwn (c.thread x) m.counts (c.own x) n) create.create own in
        (create.number ∙ same, ap creations_of create.create)

    -- two Creates of one run have different numbers
    first_apart : (m : Member) (z x : Id) (zs : List Id) (k : ℕ) → IsGood t m → IsRun c m (z ∷ zs) → In x zs → c.thread z ≡ c.thread x → Creates z k → Creates x k → ⊥
    first_apart m z x zs k g r i same h j =
        let go : Continues (outcome_at c z) (λ a. IsRun c (told_by [] m (c.next z) a) zs) = continues (outcome_at c z) zs (λ a. IsRun c (told_by [] m (c.next z) a) zs) x r.2 i in
        let first = first_number m z k h.0 h.1 r.0 r.1 h.2 in
        let n : IsNumbered (told_by [] m (c.next z) go.answer).counts.creations x k = numbered zs (told_by [] m (c.next z) go.answer) x k (good_told t [] m (c.next z) go.answer r.0 g) go.more i j in
        omega (arith, first.0, first.1, n.number, n.over, counted_creations [] m.counts (c.next z))

    pub both : (zs : List Id) (m : Member) (x y : Id) (k : ℕ) → IsGood t m → IsRun c m zs → In x zs → In y zs → c.thread x ≡ c.thread y → Creates x k → Creates y k → x ≡ y
    both [] m x y k g r i j same h l = absurd i
    both (z ∷ zs) m x y k g r (inl e) (inl f) same h l = e ∙ sym f
    both (z ∷ zs) m x y k g r (inl e) (inr j) same h l = absurd (first_apart m z y zs k g r j (ap c.thread (sym e) ∙ same) (subst (λ (u : Id). Creates u k) e h) l)
    both (z ∷ zs) m x y k g r (inr i) (inl f) same h l = absurd (first_apart m z x zs k g r i (ap c.thread (sym f) ∙ sym same) (subst (λ (u : Id). Creates u k) f l) h)
    both (z ∷ zs) m x y k g r (inr i) (inr j) same h l =
        let go : Continues (outcome_at c z) (λ a. IsRun c (told_by [] m (c.next z) a) zs) = continues (outcome_at c z) zs (λ a. IsRun c (told_by [] m (c.next z) a) zs) x r.2 i in
        both zs (told_by [] m (c.next z) go.answer) x y k (good_told t [] m (c.next z) go.answer r.0 g) go.more i j same h l

    module _ (objects : Objects) (family : IsFamily t) (h : IsConsistent c t objects) where
      -- the run of a thread that has events, from its start
      pub record HasRun (k : ℕ) : Type 0 where
        pub member : Member
        pub good : IsGood t member
        pub run : IsRun c member (c.runs k)

      child_run : (k : ℕ) (x : Id) → In x (c.runs (suc k)) → (IsChild c (main_member t objects) (suc k) → HasRun (suc k)) → HasRun (suc k)
      child_run k x i f = by (h.children k)
        where
          by : (c.runs (suc k) ≡ []) ⊎ IsChild c (main_member t objects) (suc k) → HasRun (suc k)
          by (inl e) = absurd (subst (λ (l : List Id). In x l) e i)
          by (inr child) = f child

      run_by : (n : ℕ) (k : ℕ) (x : Id) → In x (c.runs k) → c.clock x < n → HasRun k
      run_by zero k x i l = absurd (omega arith)
      run_by (suc n) zero x i l = record { member = main_member t objects; good = good_main t family objects; run = h.main }
      run_by (suc n) (suc k) x i l = child_run k x i (λ born.
          let less : c.clock born.creator < c.clock x = each_in (λ y. c.clock born.creator < c.clock y) (c.runs (suc k)) x born.after i in
          let run : HasRun (c.thread born.creator) = run_by n (c.thread born.creator) born.creator born.executed (omega arith) in
          let at : StandsAt born.creator = stands (c.runs (c.thread born.creator)) run.member born.creator run.good run.run born.executed in
          let move = moves_by (outcome_at c born.creator) (suc k) born.function born.value born.creates in
          let create = creating (c.thread born.creator) (c.own born.creator) (c.view born.creator) (c.next born.creator) move.0 (suc k) born.function born.value move.1 in
          record {
            member = child (main_member t objects) born.function born.value;
            good = good_child t family at.member (main_member t objects) born.function born.value create.line create.function (at.asks ∙ create.create) at.good refl;
            run = born.run;
          })

      pub run_of : (x : Id) → Executed c x → HasRun (c.thread x)
      run_of x i = run_by (suc (c.clock x)) (c.thread x) x i (omega arith)

      pub number_of : (x : Id) (k : ℕ) → Executed c x → Creates x k → IsNumbered 0 x k
      number_of x k i j =
          let run = run_of x i in
          let n = numbered (c.runs (c.thread x)) run.member x k run.good run.run i j in
          record { count = n.count; over = omega (arith, n.over); below = n.below; number = n.number }

      pub one_creator : (x y : Id) (k : ℕ) → Executed c x → Executed c y → Creates x k → Creates y k → x ≡ y
      one_creator x y k i j l r =
          let a = number_of x k i l in
          let b = number_of y k j r in
          let same : c.thread x ≡ c.thread y = omega (arith, a.number, b.number, a.below, b.below) in
          let run = run_of x i in
          both (c.runs (c.thread x)) run.member x y k run.good run.run i (subst (λ (n : ℕ). In y (c.runs n)) (sym same) j) same l r
