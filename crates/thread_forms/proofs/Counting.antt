-- The numbers that bounded threads give to new threads and objects are below 2 ^ 32.
use Rattle.std.proofs.Common.{◌≡◌, ◌<◌, ◌≤◌, ◌+◌, ◌*◌, ◌^◌, ℕ, zero, suc, true, List, [], ◌∷◌, refl, ap, arith}
use Rattle.actions.specs.declared.action.Action.{Action}
use Rattle.actions.specs.declared.action.Action.TheVariants.{Draw, Alloc, Create}
use Rattle.actions.specs.declared.action.Answer.{Answer}
use Rattle.actions.specs.declared.action.Next.{Next}
use Rattle.actions.specs.declared.action.Next.TheVariants.{Act, Ended, Blocked, Broken}
use Rattle.actions.specs.Behaviour.{Behaviour, after, Program, Thread}
use Rattle.actions.specs.Objects.{Objects}
use Rattle.interleave.specs.declared.counts.Counts.{Counts}
use Rattle.interleave.specs.Own.{counted}
use Rattle.interleave.specs.World.{Member, child}
use Rattle.weave.specs.Step.{IsOwn, counted_by, told_by}
use Rattle.weave.specs.Consistent.{main_member}
use Rattle.weave.specs.Family.{creations_of}
use Rattle.weave.proofs.Local.{IsGood}
use Rattle.thread_forms.specs.Bounds.{objects_of, objects_along, HasDepth, IsBounded}
use Rattle.thread_forms.specs.EachRun.{CandidatesAreFit}
use Rattle.thread_forms.proofs.Standing.{IsKept, Stands, stands}
use Rattle.thread_forms.proofs.Shapes.{OwnIsSmall}
use Rattle.thread_forms.proofs.Fitting.{fits}

counted_action : (words : List ℕ) (counts : Counts) (line function : ℕ) (action : Action) → (counted words counts action).objects ≡ counts.objects + objects_of (Act action line function)
counted_action words counts line function (Create f v) = omega arith
counted_action words counts line function (Draw n) = omega arith
counted_action words counts line function (Alloc o) = refl
counted_action words counts line function _ = omega arith

counted_objects : (words : List ℕ) (counts : Counts) (n : Next) → (counted_by words counts n).objects ≡ counts.objects + objects_of n
counted_objects words counts (Act action line function) = counted_action words counts line function action
counted_objects words counts (Ended v) = omega arith
counted_objects words counts Blocked = omega arith
counted_objects words counts (Broken class line function) = omega arith

-- the number of a thread of this depth is below this
abbrev room : ℕ → ℕ
room zero = 65536
room (suc zero) = 256
room (suc (suc n)) = 1

roomy : (depth : ℕ) → room depth ≤ 65536
roomy zero = omega arith
roomy (suc zero) = omega arith
roomy (suc (suc n)) = omega arith

deep_after : (p : Program) (depth : ℕ) (b : Behaviour) (a : Answer) → HasDepth p depth b → HasDepth p depth (after b a)
deep_after p zero b a h = λ answers. h (a ∷ answers)
deep_after p (suc n) b a h = λ answers. h (a ∷ answers)

module _ (t : Thread) (objects : Objects) where
  record IsSmall (k : ℕ) (m : Member) : Type 0 where
    depth : ℕ
    at_most : depth ≤ 2
    has_depth : HasDepth t.program depth m.thread.behaves
    fits : k < room depth
    few : (answers : List Answer) → m.counts.objects + objects_along m.thread.behaves answers < 65536

  small_told : (k : ℕ) (m : Member) (n : Next) (a : Answer) → m.thread.behaves [] ≡ n → IsSmall k m → IsSmall k (told_by [] m n a)
  small_told k m n a e s = record {
    depth = s.depth;
    at_most = s.at_most;
    has_depth = deep_after t.program s.depth m.thread.behaves a s.has_depth;
    fits = s.fits;
    few = λ answers. omega (arith, s.few (a ∷ answers), counted_objects [] m.counts n, ap objects_of e);
  }

  -- what a thread of depth n + 1 creates
  created_by : (depth k count : ℕ) (b : Behaviour) (f v line function : ℕ) → depth ≤ 2 → HasDepth t.program depth b → k < room depth → count < 256 → b [] ≡ Act (Create f v) line function
      → (n : ℕ) × (n ≤ 2) × HasDepth t.program n (t.program.behaves f v) × (k * 256 + count < room n)
  created_by zero k count b f v line function l h r c e = absurd (omega (arith, h [], ap creations_of e))
  created_by (suc zero) k count b f v line function l h r c e = (0, omega arith, h [] f v line function e, omega (arith, r, c))
  created_by (suc (suc zero)) k count b f v line function l h r c e = (1, omega arith, h [] f v line function e, omega (arith, r, c))
  created_by (suc (suc (suc n))) k count b f v line function l h r c e = absurd (omega (arith, l))

  small_child : IsBounded t objects → (k : ℕ) (m : Member) (f v line function : ℕ) → IsGood t m → m.thread.behaves [] ≡ Act (Create f v) line function → t.program.can_start f ≡ true → v < 2 ^ 64 → IsSmall k m
      → IsSmall (k * 256 + (m.counts.creations + 1)) (child (main_member t objects) f v)
  small_child bounded k m f v line function g e can small s =
      let count : m.counts.creations + 1 < 256 = omega (arith, g.within [], ap creations_of e) in
      let r = created_by s.depth k (m.counts.creations + 1) m.thread.behaves f v line function s.at_most s.has_depth s.fits count e in
      record {
        depth = r.0;
        at_most = r.1;
        has_depth = r.2;
        fits = r.3;
        few = λ answers. omega (arith, bounded.fewer f v can small answers);
      }

  small : IsBounded t objects → IsKept t objects IsSmall
  small bounded = record {
    main = record { depth = 2; at_most = omega arith; has_depth = bounded.depth; fits = omega arith; few = bounded.few };
    told = small_told;
    child = small_child bounded;
  }

  small_own : (k own : ℕ) (m : Member) (n : Next) → m.thread.behaves [] ≡ n → IsOwn k m.counts own n → IsGood t m → IsSmall k m → OwnIsSmall n own
  small_own k own m (Act (Draw n) line function) e o g s = o
  small_own k own m (Act (Alloc x) line function) e o g s = omega (arith, o, s.few [], ap objects_of e, s.fits, roomy s.depth)
  small_own k own m (Act (Create f v) line function) e o g s = omega (arith, o, g.within [], ap creations_of e, s.fits, roomy s.depth)
  small_own k own m _ e o g s = tt

pub candidates_are_fit : (Id : Type 0) → CandidatesAreFit Id
candidates_are_fit Id = λ t objects d family whole bounded h x i a change e.
    let s : Stands d t objects family h (IsSmall t objects) (small t objects bounded) x = stands d t objects family h (IsSmall t objects) (small t objects bounded) x i in
    fits d t objects family whole bounded h x i (small_own t objects (d.thread x) (d.own x) s.member (d.next x) s.asks s.own s.good s.holds) a change e
