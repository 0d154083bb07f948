-- The threads of a world after a move: the one that moved was told its answer, a new one is at its start, the others stay.
use Rattle.std.proofs.Common.{◌≡◌, ℕ, Bool, true, false, List, Some, ◌⊎◌, inl, inr, refl, sym, ap, ◌∙◌, nat_eq}
use Rattle.std.specs.Ordering.{nat_cmp}
use Rattle.std.specs.BTreeMap.{insert_entry}
use Rattle.std.proofs.lemmas.Bool.{eqb-true, eqb-false}
use Rattle.actions.specs.declared.thread_state.ThreadState.TheVariants.{Running, Ended}
use Rattle.actions.specs.Memory.{Memory, thread_at, Change, keeps, adds, kills, puts, starts, ends, changed}
use Rattle.actions.proofs.Changes.{lookup-set_apart, lookup-insert_apart}
use Rattle.interleave.specs.World.{Member, member_at, with_told, with_child, child}
use Rattle.weave.proofs.Entries.{lookup-set_here, lookup-insert_here}

pub told_here : (members : List (ℕ × Member)) (t : ℕ) (m n : Member) → member_at members t ≡ Some m → member_at (with_told members t n) t ≡ Some n
told_here members t m n h = lookup-set_here t members m n h

pub told_apart : (members : List (ℕ × Member)) (t k : ℕ) (n : Member) → (k ≡ t → ⊥) → member_at (with_told members t n) k ≡ member_at members k
told_apart members t k n a = lookup-set_apart k t a members n

pub child_here : (m : Member) (change : Change) (members : List (ℕ × Member)) (k f v : ℕ) → change ≡ starts k f v → member_at (with_child m change members) k ≡ Some (child m f v)
child_here m change members k f v e = ap (λ (c : Change). member_at (with_child m c members) k) e ∙ lookup-insert_here k members (child m f v)

-- whether a change starts thread k
abbrev pub StartsNot : Change → ℕ → Type 0
StartsNot change k = (f v : ℕ) → change ≡ starts k f v → ⊥

by_number : (n f v k : ℕ) (b : Bool) → nat_eq n k ≡ b → ((g u : ℕ) × (starts n f v ≡ starts k g u)) ⊎ StartsNot (starts n f v) k
by_number n f v k true e = let h : n ≡ k = eqb-true n k e in inl (f, v, λ i. starts (h i) f v)
by_number n f v k false e = inr (λ g u h. eqb-false n k e (number_of h))
  where
    number_of : {g u : ℕ} → starts n f v ≡ starts k g u → n ≡ k
    number_of h = cc h

pub starts_or : (change : Change) (k : ℕ) → ((f v : ℕ) × (change ≡ starts k f v)) ⊎ StartsNot change k
starts_or (starts n f v) k = by_number n f v k (nat_eq n k) refl
starts_or keeps k = inr (λ f v h. absurd (cc h))
starts_or (adds n o) k = inr (λ f v h. absurd (cc h))
starts_or (kills n) k = inr (λ f v h. absurd (cc h))
starts_or (puts p bytes) k = inr (λ f v h. absurd (cc h))
starts_or (ends n v) k = inr (λ f v h. absurd (cc h))

pub child_apart : (m : Member) (change : Change) (members : List (ℕ × Member)) (k : ℕ) → StartsNot change k → member_at (with_child m change members) k ≡ member_at members k
child_apart m (starts n f v) members k h = lookup-insert_apart k n (λ e. h f v (λ i. starts (sym e i) f v)) members (child m f v)
child_apart m keeps members k h = refl
child_apart m (adds n o) members k h = refl
child_apart m (kills n) members k h = refl
child_apart m (puts p bytes) members k h = refl
child_apart m (ends n v) members k h = refl

-- ---- the states of threads

pub started_runs : (m : Memory) (change : Change) (k f v : ℕ) → change ≡ starts k f v → thread_at (changed m change).threads k ≡ Some Running
started_runs m change k f v e = ap (λ (c : Change). thread_at (changed m c).threads k) e ∙ lookup-insert_here k m.threads Running

end_by : (m : Memory) (n v k : ℕ) (b : Bool) → nat_eq n k ≡ b → thread_at m.threads k ≡ Some Running
    → (thread_at (changed m (ends n v)).threads k ≡ Some Running) ⊎ ((u : ℕ) × (ends n v ≡ ends k u))
end_by m n v k true e h = let f : n ≡ k = eqb-true n k e in inr (v, λ i. ends (f i) v)
end_by m n v k false e h = inl (lookup-set_apart k n (λ f. eqb-false n k e (sym f)) m.threads (Ended v) ∙ h)

start_by : (m : Memory) (n k : ℕ) (b : Bool) → nat_eq n k ≡ b → thread_at m.threads k ≡ Some Running → thread_at (insert_entry nat_cmp m.threads n Running) k ≡ Some Running
start_by m n k true e h = ap (λ (j : ℕ). thread_at (insert_entry nat_cmp m.threads n Running) j) (sym (eqb-true n k e)) ∙ lookup-insert_here n m.threads Running
start_by m n k false e h = lookup-insert_apart k n (λ f. eqb-false n k e (sym f)) m.threads Running ∙ h

-- a thread that runs goes on to run, unless it is ended
pub runs_on : (m : Memory) (change : Change) (k : ℕ) → thread_at m.threads k ≡ Some Running → (thread_at (changed m change).threads k ≡ Some Running) ⊎ ((v : ℕ) × (change ≡ ends k v))
runs_on m (starts n f v) k h = inl (start_by m n k (nat_eq n k) refl h)
runs_on m (ends n v) k h = end_by m n v k (nat_eq n k) refl h
runs_on m keeps k h = inl h
runs_on m (adds n o) k h = inl h
runs_on m (kills n) k h = inl h
runs_on m (puts p bytes) k h = inl h
