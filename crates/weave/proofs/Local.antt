-- What is true of each thread of a family, at each of its steps.
use Rattle.std.proofs.Common.{◌≡◌, ◌<◌, ◌+◌, ◌^◌, ℕ, true, List, [], ◌∷◌, refl, sym, ap, subst, arith}
use Rattle.actions.specs.declared.action.Action.{Action}
use Rattle.actions.specs.declared.action.Action.TheVariants.{Draw, Alloc, Create, End, Exit}
use Rattle.actions.specs.declared.action.Answer.{Answer}
use Rattle.actions.specs.declared.action.Answer.TheVariants as answer
use Rattle.actions.specs.declared.action.Next.{Next}
use Rattle.actions.specs.declared.action.Next.TheVariants.{Act, Ended, Blocked, Broken}
use Rattle.actions.specs.Behaviour.{Behaviour, after, Program, Thread, CanStart, EndsAfter, IsBehaviour, accepts, word_64}
use Rattle.actions.specs.Objects.{Objects}
use Rattle.interleave.specs.declared.counts.Counts.{Counts}
use Rattle.interleave.specs.Own.{counted}
use Rattle.interleave.specs.World.{Member, child}
use Rattle.weave.specs.Step.{counted_by, told_by}
use Rattle.weave.specs.Consistent.{main_member}
use Rattle.weave.specs.Family.{creations_of, creations_along, MakesWhole, IsModest, IsFamily}

behaviour_after : (p : Program) (b : Behaviour) (a : Answer) → IsBehaviour p b → IsBehaviour p (after b a)
behaviour_after p b a h = record {
  proper = λ before x later e. h.proper (a ∷ before) x later e;
  creates = λ answers. h.creates (a ∷ answers);
  makes = λ answers. h.makes (a ∷ answers);
  ends = λ answers x. h.ends (a ∷ answers) x;
}

counted_action : (words : List ℕ) (counts : Counts) (line function : ℕ) (action : Action) → (counted words counts action).creations ≡ counts.creations + creations_of (Act action line function)
counted_action words counts line function (Create f v) = refl
counted_action words counts line function (Draw n) = omega arith
counted_action words counts line function (Alloc o) = omega arith
counted_action words counts line function _ = omega arith

pub counted_creations : (words : List ℕ) (counts : Counts) (n : Next) → (counted_by words counts n).creations ≡ counts.creations + creations_of n
counted_creations words counts (Act action line function) = counted_action words counts line function action
counted_creations words counts (Ended v) = omega arith
counted_creations words counts Blocked = omega arith
counted_creations words counts (Broken class line function) = omega arith

module _ (t : Thread) where
  pub record IsGood (m : Member) : Type 0 where
    pub program : m.thread.program ≡ t.program
    pub behaviour : IsBehaviour t.program m.thread.behaves
    pub within : (answers : List Answer) → m.counts.creations + creations_along m.thread.behaves answers < 256
    pub whole : (answers : List Answer) → MakesWhole (m.thread.behaves answers)

  pub good_main : IsFamily t → (objects : Objects) → IsGood (main_member t objects)
  good_main f objects = record {
    program = refl;
    behaviour = f.is_thread.itself;
    within = λ answers. omega (arith, f.itself.few answers);
    whole = f.itself.whole;
  }

  pub good_told : (words : List ℕ) (m : Member) (n : Next) (a : Answer) → m.thread.behaves [] ≡ n → IsGood m → IsGood (told_by words m n a)
  good_told words m n a e g = record {
    program = g.program;
    behaviour = behaviour_after t.program m.thread.behaves a g.behaviour;
    within = λ answers. omega (arith, g.within (a ∷ answers), counted_creations words m.counts n, ap creations_of e);
    whole = λ answers. g.whole (a ∷ answers);
  }

  can_start_by : (n : Next) (f v line function : ℕ) → n ≡ Act (Create f v) line function → CanStart t.program n → (t.program.can_start f ≡ true) × (v < 2 ^ 64)
  can_start_by n f v line function e h = subst (λ (x : Next). CanStart t.program x) e h

  pub good_child : IsFamily t → (m main : Member) (f v line function : ℕ) → m.thread.behaves [] ≡ Act (Create f v) line function → IsGood m → main.thread.program ≡ t.program → IsGood (child main f v)
  good_child family m main f v line function e g same =
      let can : (t.program.can_start f ≡ true) × (v < 2 ^ 64) = can_start_by (m.thread.behaves []) f v line function e (g.behaviour.creates []) in
      let begins : t.program.behaves f v ≡ main.thread.program.behaves f v = ap (λ (p : Program). p.behaves f v) (sym same) in
      let modest : IsModest (t.program.behaves f v) = family.others f v can.0 can.1 in
      record {
        program = same;
        behaviour = subst (λ (b : Behaviour). IsBehaviour t.program b) begins (family.is_thread.others f v can.0 can.1);
        within = subst (λ (b : Behaviour). (answers : List Answer) → 0 + creations_along b answers < 256) begins (λ answers. omega (arith, modest.few answers));
        whole = subst (λ (b : Behaviour). (answers : List Answer) → MakesWhole (b answers)) begins modest.whole;
      }

  -- after its End or Exit a thread has ended
  pub ends_then : (m : Member) (v line function : ℕ) (a : Answer) → IsGood m → m.thread.behaves [] ≡ Act (End v) line function → a ≡ answer.Done → m.thread.behaves (a ∷ []) ≡ Ended (word_64 v)
  ends_then m v line function a g e d =
      (subst (λ (x : Next). EndsAfter x a (m.thread.behaves (a ∷ []))) e (g.behaviour.ends [] a)) (ap (λ (x : Answer). accepts (Act (End v) line function) x) d)

  pub exits_then : (m : Member) (line function : ℕ) (a : Answer) → IsGood m → m.thread.behaves [] ≡ Act Exit line function → a ≡ answer.Done → m.thread.behaves (a ∷ []) ≡ Ended (word_64 0)
  exits_then m line function a g e d =
      (subst (λ (x : Next). EndsAfter x a (m.thread.behaves (a ∷ []))) e (g.behaviour.ends [] a)) (ap (λ (x : Answer). accepts (Act Exit line function) x) d)
