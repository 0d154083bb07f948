-- A world whose threads keep their behaviours and get another program with the same behaviours goes the same way.
use Rattle.std.proofs.Common.{◌≡◌, ◌<◌, ◌^◌, ℕ, Bool, true, false, cond, List, [], ◌∷◌, length, Option, Some, None, refl, sym, ap, subst, ◌∙◌}
use Rattle.std.specs.Prelude.{option_map}
use Rattle.std.specs.Ordering.{nat_cmp, match_ordering}
use Rattle.std.specs.declared.cmp.Ordering.{Ordering}
use Rattle.std.specs.declared.cmp.Ordering.TheVariants.{Less, Equal, Greater}
use Rattle.std.specs.Map.{set_value}
use Rattle.std.specs.BTreeMap.{is_at, insert_entry}
use Rattle.actions.specs.declared.action.Action.{Action}
use Rattle.actions.specs.declared.action.Action.TheVariants.{Create}
use Rattle.actions.specs.declared.action.Answer.{Answer}
use Rattle.actions.specs.declared.action.Next.{Next}
use Rattle.actions.specs.declared.action.Next.TheVariants as next
use Rattle.actions.specs.Behaviour.{Behaviour, after, Program, Thread, CanStart, IsBehaviour, IsThread}
use Rattle.actions.specs.LocalRun.{SameThreads}
use Rattle.actions.specs.Memory.{Change, keeps, adds, kills, puts, starts, ends}
use Rattle.actions.specs.Objects.{Objects}
use Rattle.actions.specs.Row.{Outcome, breaks, waits, moves}
use Rattle.actions.proofs.LocalRuns.{same_behaviours}
use Rattle.interleave.specs.declared.turn.Turn.{Turn}
use Rattle.interleave.specs.declared.turn.Turn.TheVariants as turned
use Rattle.interleave.specs.declared.turn.Outcome.{Outcome as Ending}
use Rattle.interleave.specs.Inputs.{InputLists, words_of}
use Rattle.interleave.specs.Own.{own_part}
use Rattle.interleave.specs.World.{World, Common, Member, member_at, may_move, told, with_told, child, moved, first_world}
use Rattle.interleave.specs.Turn.{turn, with_member, with_next, settled, outcome}
use Rattle.interleave.specs.Run.{run, answers, unless_broken}
use Rattle.interleave.specs.Law.{Law}
use Rattle.interleave.proofs.Entries.{seen, seen-set_value, seen-insert_entry, lookup-seen}
use Rattle.interleave.proofs.Starts.{OnlyCreates, only_creates}

-- p and q: what can be started from both has the same behaviour, and is a behaviour of both
pub record AreAlike (p q : Program) : Type 0 where
  pub same : (f v : ℕ) → p.can_start f ≡ true → q.can_start f ≡ true → v < 2 ^ 64 → p.behaves f v ≡ q.behaves f v
  pub left : (f v : ℕ) → p.can_start f ≡ true → v < 2 ^ 64 → IsBehaviour p (p.behaves f v)
  pub right : (f v : ℕ) → q.can_start f ≡ true → v < 2 ^ 64 → IsBehaviour q (q.behaves f v)

behaviour_after : (p : Program) (b : Behaviour) (a : Answer) → IsBehaviour p b → IsBehaviour p (after b a)
behaviour_after p b a h = record {
  proper = λ before x later e. h.proper (a ∷ before) x later e;
  creates = λ answers. h.creates (a ∷ answers);
  makes = λ answers. h.makes (a ∷ answers);
  ends = λ answers x. h.ends (a ∷ answers) x;
}

module _ (p q : Program) (alike : AreAlike p q) where
  -- a thread of program p, that is also one of program q
  record IsGood (m : Member) : Type 0 where
    program : m.thread.program ≡ p
    left : IsBehaviour p m.thread.behaves
    right : IsBehaviour q m.thread.behaves

  abbrev AreGood : List (ℕ × Member) → Type 0
  AreGood [] = Unit {0}
  AreGood (e ∷ es) = IsGood e.1 × AreGood es

  -- the same thread, as one of program q
  abbrev moved_over : Member → Member
  moved_over m = record { thread = record { behaves = m.thread.behaves; program = q }; counts = m.counts }

  abbrev over : World → World
  over w = record { common = w.common; members = seen moved_over w.members }

  abbrev GoodOption : Option Member → Type 0
  GoodOption None = Unit {0}
  GoodOption (Some m) = IsGood m

  good_choice : (b : Bool) (m : Member) (o : Option Member) → IsGood m → GoodOption o → GoodOption (cond b (Some m) o)
  good_choice true m o g h = g
  good_choice false m o g h = h

  good_at : (es : List (ℕ × Member)) (t : ℕ) → AreGood es → GoodOption (member_at es t)
  good_at [] t h = tt
  good_at (e ∷ es) t h = good_choice (is_at (nat_cmp t) e.0) e.1 (member_at es t) h.0 (good_at es t h.1)

  good_cond : (b : Bool) (es fs : List (ℕ × Member)) → AreGood es → AreGood fs → AreGood (cond b es fs)
  good_cond true es fs g h = g
  good_cond false es fs g h = h

  good_set : (test : ℕ → Bool) (es : List (ℕ × Member)) (m : Member) → AreGood es → IsGood m → AreGood (set_value test es m)
  good_set test [] m h g = tt
  good_set test (e ∷ es) m h g = good_cond (test e.0) ((e.0, m) ∷ es) (e ∷ set_value test es m) (g, h.1) (h.0, good_set test es m h.1 g)

  good_order : (o : Ordering) (es fs gs : List (ℕ × Member)) → AreGood es → AreGood fs → AreGood gs → AreGood (match_ordering o es fs gs)
  good_order Less es fs gs a b c = a
  good_order Equal es fs gs a b c = b
  good_order Greater es fs gs a b c = c

  good_insert : (es : List (ℕ × Member)) (k : ℕ) (m : Member) → AreGood es → IsGood m → AreGood (insert_entry nat_cmp es k m)
  good_insert [] k m h g = (g, tt)
  good_insert (e ∷ es) k m h g =
      good_order (nat_cmp k e.0) ((k, m) ∷ e ∷ es) ((e.0, m) ∷ es) (e ∷ insert_entry nat_cmp es k m) (g, h) (g, h.1) (h.0, good_insert es k m h.1 g)

  good_told : (m : Member) (words : List ℕ) (action : Action) (a : Answer) → IsGood m → IsGood (told m words action a)
  good_told m words action a g = record { program = g.program; left = behaviour_after p m.thread.behaves a g.left; right = behaviour_after q m.thread.behaves a g.right }

  -- a Create is one of both programs
  creates_left : (m : Member) (f v line function : ℕ) → IsGood m → m.thread.behaves [] ≡ next.Act (Create f v) line function → (p.can_start f ≡ true) × (v < 2 ^ 64)
  creates_left m f v line function g e = subst (λ (n : Next). CanStart p n) e (g.left.creates [])

  creates_right : (m : Member) (f v line function : ℕ) → IsGood m → m.thread.behaves [] ≡ next.Act (Create f v) line function → (q.can_start f ≡ true) × (v < 2 ^ 64)
  creates_right m f v line function g e = subst (λ (n : Next). CanStart q n) e (g.right.creates [])

  module _ (m : Member) (f v line function : ℕ) (g : IsGood m) (e : m.thread.behaves [] ≡ next.Act (Create f v) line function) where
    same_child : m.thread.program.behaves f v ≡ q.behaves f v
    same_child =
        ap (λ (r : Program). r.behaves f v) g.program
        ∙ alike.same f v (creates_left m f v line function g e).0 (creates_right m f v line function g e).0 (creates_left m f v line function g e).1

    child_over : moved_over (child m f v) ≡ child (moved_over m) f v
    child_over = λ i. record { thread = record { behaves = same_child i; program = q }; counts = record { creations = 0; objects = 0; used = 0 } }

    good_child : IsGood (child m f v)
    good_child = record {
      program = g.program;
      left = subst (λ (r : Program). IsBehaviour p (r.behaves f v)) (sym g.program) (alike.left f v (creates_left m f v line function g e).0 (creates_left m f v line function g e).1);
      right = subst (λ (b : Behaviour). IsBehaviour q b) (sym same_child) (alike.right f v (creates_right m f v line function g e).0 (creates_right m f v line function g e).1);
    }

  -- what a turn gives in a world, and what it gives where the threads are moved over
  record Goes (r s : Turn × World) : Type 0 where
    same : s ≡ (r.0, over r.1)
    good : AreGood r.1.members

  module _ (w : World) (t : ℕ) (words : List ℕ) (good : AreGood w.members) where
    told_over : (m : Member) → with_told (seen moved_over w.members) t (moved_over m) ≡ seen moved_over (with_told w.members t m)
    told_over m = sym (seen-set_value moved_over (is_at (nat_cmp t)) w.members m)

    plain_over : (c : Common) (m : Member) → IsGood m → Goes (turned.Moved, record { common = c; members = with_told w.members t m }) (turned.Moved, record { common = c; members = with_told (seen moved_over w.members) t (moved_over m) })
    plain_over c m g = record {
      same = λ i. (turned.Moved, record { common = c; members = told_over m i });
      good = good_set (is_at (nat_cmp t)) w.members m good g;
    }

    module _ (m : Member) (line function : ℕ) (g : IsGood m) where
      child_by : (c : Common) (x : Member) (number f v : ℕ) (action : Action) → m.thread.behaves [] ≡ next.Act action line function → action ≡ Create f v → IsGood x
          → Goes (turned.Moved, record { common = c; members = insert_entry nat_cmp (with_told w.members t x) number (child m f v) })
          (turned.Moved, record { common = c; members = insert_entry nat_cmp (with_told (seen moved_over w.members) t (moved_over x)) number (child (moved_over m) f v) })
      child_by c x number f v action e create h =
          let n : m.thread.behaves [] ≡ next.Act (Create f v) line function = e ∙ ap (λ (a : Action). next.Act a line function) create in
          let members : insert_entry nat_cmp (with_told (seen moved_over w.members) t (moved_over x)) number (child (moved_over m) f v) ≡ seen moved_over (insert_entry nat_cmp (with_told w.members t x) number (child m f v)) =
          ap (λ (l : List (ℕ × Member)). insert_entry nat_cmp l number (child (moved_over m) f v)) (told_over x)
          ∙ ap (λ (y : Member). insert_entry nat_cmp (seen moved_over (with_told w.members t x)) number y) (sym (child_over m f v line function g n))
          ∙ sym (seen-insert_entry moved_over nat_cmp (with_told w.members t x) number (child m f v)) in
          record {
            same = λ i. (turned.Moved, record { common = c; members = members i });
            good = good_insert (with_told w.members t x) number (child m f v) (good_set (is_at (nat_cmp t)) w.members x good h) (good_child m f v line function g n);
          }

      moved_by : (action : Action) (a : Answer) (change : Change) → m.thread.behaves [] ≡ next.Act action line function → OnlyCreates action (moves a change)
          → Goes (settled w t words m action line function (moves a change)) (settled (over w) t words (moved_over m) action line function (moves a change))
      moved_by action a keeps e only = plain_over (moved w.common t action keeps) (told m words action a) (good_told m words action a g)
      moved_by action a (adds n o) e only = plain_over (moved w.common t action (adds n o)) (told m words action a) (good_told m words action a g)
      moved_by action a (kills n) e only = plain_over (moved w.common t action (kills n)) (told m words action a) (good_told m words action a g)
      moved_by action a (puts n bs) e only = plain_over (moved w.common t action (puts n bs)) (told m words action a) (good_told m words action a g)
      moved_by action a (ends n v) e only = plain_over (moved w.common t action (ends n v)) (told m words action a) (good_told m words action a g)
      moved_by action a (starts number f v) e only =
          child_by (moved w.common t action (starts number f v)) (told m words action a) number f v action e only (good_told m words action a g)

      settled_over : (action : Action) (o : Outcome) → m.thread.behaves [] ≡ next.Act action line function → OnlyCreates action o
          → Goes (settled w t words m action line function o) (settled (over w) t words (moved_over m) action line function o)
      settled_over action (breaks class) e only = record { same = refl; good = good }
      settled_over action waits e only = record { same = refl; good = good }
      settled_over action (moves a change) e only = moved_by action a change e only

    next_over : (m : Member) → IsGood m → (n : Next) → m.thread.behaves [] ≡ n → Goes (with_next w t words m n) (with_next (over w) t words (moved_over m) n)
    next_over m g (next.Act action line function) e =
        settled_over m line function g action (outcome w.common t words m.counts action) e (only_creates w.common.memory t (own_part t words m.counts action) action)
    next_over m g (next.Ended v) e = record { same = refl; good = good }
    next_over m g next.Blocked e = record { same = refl; good = good }
    next_over m g (next.Broken class line function) e = record { same = refl; good = good }

    member_over : (o : Option Member) → GoodOption o → Goes (with_member w t words o) (with_member (over w) t words (option_map moved_over o))
    member_over None h = record { same = refl; good = good }
    member_over (Some m) h = next_over m h (m.thread.behaves []) refl

    free_over : (b : Bool) → Goes (cond b (with_member w t words (member_at w.members t)) (turned.Nothing, w)) (cond b (with_member (over w) t words (member_at (seen moved_over w.members) t)) (turned.Nothing, over w))
    free_over true = subst (λ (o : Option Member). Goes (with_member w t words (member_at w.members t)) (with_member (over w) t words o)) (sym (lookup-seen moved_over (is_at (nat_cmp t)) w.members)) (member_over (member_at w.members t) (good_at w.members t good))
    free_over false = record { same = refl; good = good }

  turn_over : (w : World) (t : ℕ) (inputs : InputLists) → AreGood w.members → Goes (turn w t inputs) (turn (over w) t inputs)
  turn_over w t inputs good = free_over w t (words_of inputs t) good (may_move w.common t)

  -- the rest of a run after a turn
  rest_over : (x : Turn) (v : World) (inputs : InputLists) (schedule : List ℕ) → run (over v) inputs schedule ≡ ((run v inputs schedule).0, over (run v inputs schedule).1)
      → unless_broken x (over v) (λ n. run n inputs schedule) ≡ ((unless_broken x v (λ n. run n inputs schedule)).0, over (unless_broken x v (λ n. run n inputs schedule)).1)
  rest_over turned.Moved v inputs schedule h = h
  rest_over turned.Nothing v inputs schedule h = h
  rest_over (turned.Broken check) v inputs schedule h = refl

  run_over : (schedule : List ℕ) (w : World) (inputs : InputLists) → AreGood w.members → run (over w) inputs schedule ≡ ((run w inputs schedule).0, over (run w inputs schedule).1)
  run_over [] w inputs good = refl
  run_over (t ∷ schedule) w inputs good =
      let r : Goes (turn w t inputs) (turn (over w) t inputs) = turn_over w t inputs good in
      ap (λ (x : Turn × World). unless_broken x.0 x.1 (λ n. run n inputs schedule)) r.same
      ∙ rest_over (turn w t inputs).0 (turn w t inputs).1 inputs schedule (run_over schedule (turn w t inputs).1 inputs r.good)

  answers_over : (schedule : List ℕ) (w : World) (inputs : InputLists) → AreGood w.members → answers (over w) inputs schedule ≡ answers w inputs schedule
  answers_over [] w inputs good = refl
  answers_over (t ∷ schedule) w inputs good =
      let r : Goes (turn w t inputs) (turn (over w) t inputs) = turn_over w t inputs good in
      ap (λ (x : Turn × World). x.0 ∷ answers x.1 inputs schedule) r.same
      ∙ ap (λ l. (turn w t inputs).0 ∷ l) (answers_over schedule (turn w t inputs).1 inputs r.good)

  same_run : (w v : World) (inputs : InputLists) (schedule : List ℕ) → v ≡ over w → AreGood w.members
      → (answers w inputs schedule ≡ answers v inputs schedule) × ((run w inputs schedule).0 ≡ (run v inputs schedule).0) × ((run w inputs schedule).1.common ≡ (run v inputs schedule).1.common)
  same_run w v inputs schedule e good =
      let r = ap (λ (x : World). run x inputs schedule) e ∙ run_over schedule w inputs good in
      (sym (ap (λ (x : World). answers x inputs schedule) e ∙ answers_over schedule w inputs good), sym (ap (λ (x : Ending × World). x.0) r), sym (ap (λ (x : Ending × World). x.1.common) r))

alike_of : (t u : Thread) → IsThread t → IsThread u → SameThreads t u → AreAlike t.program u.program
alike_of t u a b same = record {
  same = λ f v h k lt. same_behaviours (t.program.behaves f v) (u.program.behaves f v) (a.others f v h lt).proper (b.others f v k lt).proper (same.others f v h k lt);
  left = a.others;
  right = b.others;
}

same_first : (t u : Thread) (objects : Objects) (p q : Program) (alike : AreAlike p q) → q ≡ u.program → t.behaves ≡ u.behaves → first_world u objects ≡ over p q alike (first_world t objects)
same_first t u objects p q alike e b = λ i. record {
  common = (first_world t objects).common;
  members = (0, record { thread = record { behaves = sym b i; program = sym e i }; counts = record { creations = 0; objects = length objects; used = 0 } }) ∷ [];
}

pub same_systems : Law
same_systems = λ t u a b same objects inputs schedule.
    let alike = alike_of t u a b same in
    let e : t.behaves ≡ u.behaves = same_behaviours t.behaves u.behaves a.itself.proper b.itself.proper same.runs in
    let good : IsGood t.program u.program alike (record { thread = t; counts = record { creations = 0; objects = length objects; used = 0 } }) =
    record { program = refl; left = a.itself; right = subst (λ (x : Behaviour). IsBehaviour u.program x) (sym e) b.itself } in
    let r = same_run t.program u.program alike (first_world t objects) (first_world u objects) inputs schedule (same_first t u objects t.program u.program alike refl e) (good, tt) in
    record { turns = r.0; ends = r.1; common = r.2 }
