-- The first event that is left is what the next turn makes, and the world after it agrees with the events that are then left.
use Rattle.std.proofs.Common.{◌≡◌, ◌<◌, ◌≤◌, ◌+◌, ℕ, Bool, true, false, cond, List, [], ◌∷◌, drop, length, Option, Some, None, ◌⊎◌, inl, inr, refl, sym, ap, subst, ◌∙◌, arith, option_map, IfSome}
use Rattle.std.proofs.lemmas.Bool.{cases_eq, eq-eqb, ne_eqb, cases_Bool, true≢false}
use Rattle.std.proofs.lemmas.Option.{unwrap_or-slice_get}
use Rattle.std.specs.Option.{unwrap_or}
use Rattle.actions.specs.declared.action.Action.TheVariants.{Draw, Alloc, Create}
use Rattle.actions.specs.declared.action.Answer.{Answer}
use Rattle.actions.specs.declared.action.Next.{Next}
use Rattle.actions.specs.declared.action.Next.TheVariants.{Act, Ended, Blocked, Broken}
use Rattle.actions.specs.declared.thread_state.ThreadState.TheVariants.{Running}
use Rattle.actions.specs.Behaviour.{Thread}
use Rattle.actions.specs.Objects.{Objects}
use Rattle.actions.specs.Memory.{Memory, thread_at, Change, starts, changed}
use Rattle.actions.specs.Row.{Outcome, waits, moves, outcome_in}
use Rattle.actions.specs.Table.{exits}
use Rattle.interleave.specs.declared.turn.Turn.{Turn}
use Rattle.interleave.specs.declared.turn.Turn.TheVariants as turned
use Rattle.interleave.specs.Inputs.{InputLists, words_of}
use Rattle.interleave.specs.World.{World, Member, member_at, may_move, no_counts, child, with_told}
use Rattle.interleave.specs.Turn.{turn}
use Rattle.interleave.specs.Replay.{used_by, used_of}
use Rattle.weave.specs.Place.{Place, Value, value_at, written}
use Rattle.weave.specs.Step.{own_by, row_by, turn_by, change_by, counted_by, told_by}
use Rattle.weave.specs.Candidate.{Candidate, In, Each, Executed, outcome_at, change_at, mode_at, ReadsAt, written_at, WritesAt, Before}
use Rattle.weave.specs.Consistent.{main_member, GoesOn, IsRun, Follows, Groups, IsConsistent, inside_after}
use Rattle.weave.specs.Order.{Sorted, cut, drawn, drawn_by, unless_breaks, IsTurn}
use Rattle.weave.specs.Family.{IsFamily, AreWhole, MakesWhole}
use Rattle.weave.proofs.Lists.{each_in, each_map, before_once, before_self, of, of_here, of_other, in_of}
use Rattle.weave.proofs.Bytes.{at_drop}
use Rattle.weave.proofs.Reading.{reads_alone}
use Rattle.weave.proofs.Changing.{Fits, or_old, value_changed, whole_changed}
use Rattle.weave.proofs.Suiting.{fits_step}
use Rattle.weave.proofs.Touching.{IsEnding, ending}
use Rattle.weave.proofs.Turns.{unworded, told_unworded, DrawsNext, same_row, comes_by, world_by, after_move, turn_is}
use Rattle.weave.proofs.Members.{told_here, told_apart, child_here, child_apart, StartsNot, starts_or, started_runs, runs_on}
use Rattle.weave.proofs.Local.{IsGood, good_told, good_child, ends_then, exits_then}
use Rattle.weave.proofs.Numbering.{Creates, one_creator}
use Rattle.weave.proofs.Sections.{is_inside, IsFree, IsNextSection, next_section, outside, may_by, IsExit, exit_by, ended_or}

module _ {Id : Type 0} (c : Candidate Id) where
  -- a thread that has ended makes no more events
  ended_stops : (xs : List Id) (m : Member) (v : Rattle.words.specs.BitVector.BitVector) → m.thread.behaves [] ≡ Ended v → IsRun c m xs → xs ≡ []
  ended_stops [] m v e r = refl
  ended_stops (x ∷ xs) m v e r =
      let waits_here : outcome_at c x ≡ waits = ap (λ (n : Next). outcome_in (c.view x) (row_by (c.thread x) (c.own x) n)) (sym r.0 ∙ e) in
      absurd (subst (λ (o : Outcome). GoesOn c o xs (λ a. IsRun c (told_by [] m (c.next x) a) xs)) waits_here r.2)

  -- where the value comes from that x reads at p, among the events es that are left
  pub data From (m : Memory) (es : List Id) (x : Id) (p : Place) : Type 0 where
    held : value_at m p ≡ value_at (c.view x) p → ((y : Id) → In y es → WritesAt c y p → (y ≡ x) ⊎ Before c x y) → From m es x p
    wrote : (s : Id) → In s es → Before c s x → written_at c s p ≡ Some (value_at (c.view x) p)
        → ((y : Id) → In y es → WritesAt c y p → (y ≡ s) ⊎ (Before c y s ⊎ ((y ≡ x) ⊎ Before c x y))) → From m es x p

  module _ (t : Thread) (objects : Objects) (inputs : InputLists) where
    -- a thread that is there, with its events that are left
    pub record Goes (w : World) (k : ℕ) (es : List Id) (m : Member) : Type 0 where
      pub good : IsGood t m
      pub run : IsRun c (unworded m) (of c k es)
      pub running : (thread_at w.common.memory.threads k ≡ Some Running) ⊎ (of c k es ≡ [])

    -- a thread whose Create is left
    pub record Awaits (k : ℕ) (es : List Id) : Type 0 where
      pub creator : Id
      pub function : ℕ
      pub value : ℕ
      pub listed : In creator es
      pub creates : change_at c creator ≡ starts k function value
      pub after : Each (λ y. c.clock creator < c.clock y) (of c k es)
      pub run : IsRun c (child (main_member t objects) function value) (of c k es)

    abbrev pub GoesOrAwaits : World → ℕ → List Id → Option Member → Type 0
    GoesOrAwaits w k es None = (of c k es ≡ []) ⊎ Awaits k es
    GoesOrAwaits w k es (Some m) = Goes w k es m

    -- thread k is in a section, and this was its last event
    pub record IsInside (k : ℕ) (es : List Id) : Type 0 where
      pub last : Id
      pub executed : Executed c last
      pub its : c.thread last ≡ k
      pub before : Each (Before c last) es
      pub follows : Follows c true last (of c k es)

    abbrev pub InSection : Option ℕ → List Id → Type 0
    InSection None es = Unit {0}
    InSection (Some k) es = IsInside k es

    pub record WordsLeft (w : World) (es : List Id) (k : ℕ) : Type 0 where
      pub within : used_by w k ≤ length (words_of inputs k)
      pub left : drop (used_by w k) (words_of inputs k) ≡ drawn c k (cut c es)

    -- a world, and the events that are left
    pub record Agrees (w : World) (es : List Id) : Type 0 where
      pub sorted : Sorted c es
      pub executed : (x : Id) → In x es → Executed c x
      pub goes : (k : ℕ) → GoesOrAwaits w k es (member_at w.members k)
      pub fresh : (x : Id) (k f v : ℕ) → In x es → change_at c x ≡ starts k f v → member_at w.members k ≡ None
      pub section : InSection w.common.section es
      pub groups : (k : ℕ) → Groups c (is_inside k w.common.section) (of c k es)
      pub goes_on : w.common.ended ≡ true → es ≡ []
      pub whole : AreWhole w.common.memory.objects
      pub sources : (x : Id) (p : Place) → In x es → ReadsAt c x p → From w.common.memory es x p
      pub words : (k : ℕ) → WordsLeft w es k

    module _ (family : IsFamily t) (consistent : IsConsistent c t objects) (w : World) (e : Id) (es : List Id) (h : Agrees w (e ∷ es)) where
      abbrev k₀ : ℕ
      k₀ = c.thread e

      not_again : (x : Id) → In x es → e ≡ x → ⊥
      not_again x i q = before_self c e x q (each_in (Before c e) es x h.sorted.0 i)

      first_of : of c k₀ (e ∷ es) ≡ e ∷ of c k₀ es
      first_of = of_here c k₀ e es refl

      -- its thread is there
      pub record Here : Type 0 where
        pub member : Member
        pub here : member_at w.members k₀ ≡ Some member
        pub good : IsGood t member
        pub run : IsRun c (unworded member) (e ∷ of c k₀ es)
        pub running : thread_at w.common.memory.threads k₀ ≡ Some Running

      not_awaited : Awaits k₀ (e ∷ es) → ⊥
      not_awaited a = by a.listed
        where
          less : c.clock a.creator < c.clock e
          less = each_in (λ y. c.clock a.creator < c.clock y) (of c k₀ (e ∷ es)) e a.after (subst (λ (l : List Id). In e l) (sym first_of) (inl refl))

          by : (a.creator ≡ e) ⊎ In a.creator es → ⊥
          by (inl q) = omega (arith, less, ap c.clock q)
          by (inr i) = later (each_in (Before c e) es a.creator h.sorted.0 i)
            where
              later : Before c e a.creator → ⊥
              later (inl l) = omega (arith, less)
              later (inr l) = omega (arith, less, l.0)

      running_by : (thread_at w.common.memory.threads k₀ ≡ Some Running) ⊎ (of c k₀ (e ∷ es) ≡ []) → thread_at w.common.memory.threads k₀ ≡ Some Running
      running_by (inl r) = r
      running_by (inr q) = let none : e ∷ of c k₀ es ≡ [] = sym first_of ∙ q in absurd (cc none)

      here_by : (o : Option Member) → member_at w.members k₀ ≡ o → GoesOrAwaits w k₀ (e ∷ es) o → Here
      here_by None q (inl r) = let none : e ∷ of c k₀ es ≡ [] = sym first_of ∙ r in absurd (cc none)
      here_by None q (inr a) = absurd (not_awaited a)
      here_by (Some m) q g = record { member = m; here = q; good = g.good; run = subst (λ (l : List Id). IsRun c (unworded m) l) first_of g.run; running = running_by g.running }

      pub there : Here
      there = here_by (member_at w.members k₀) refl (h.goes k₀)

      abbrev m₀ : Member
      m₀ = there.member

      -- nobody else is in a section
      free_in : (k : ℕ) (s : IsInside k (e ∷ es)) → (k ≡ k₀ → ⊥) → (ys : List Id) → of c k (e ∷ es) ≡ ys → Follows c true s.last ys → ⊥
      free_in k s a [] q f = squeezed s.before.0
        where
          early : c.clock e < c.clock s.last
          early = f e (h.executed e (inl refl)) (λ r. a (sym (r ∙ s.its)))

          squeezed : Before c s.last e → ⊥
          squeezed (inl l) = omega (arith, early)
          squeezed (inr l) = omega (arith, early, l.0)
      free_in k s a (y ∷ ys) q f = listed (in_of c k (e ∷ es) y (subst (λ (l : List Id). In y l) (sym q) (inl refl)))
        where
          between : Before c s.last e → Before c e y → c.thread y ≡ k → ⊥
          between l r g = a (omega (arith, l, r, g, f.0, s.its))

          listed : In y (e ∷ es) × (c.thread y ≡ k) → ⊥
          listed (inl r, g) = a (sym g ∙ ap c.thread r)
          listed (inr i, g) = between s.before.0 (each_in (Before c e) es y h.sorted.0 i) g

      free_by : (section : Option ℕ) → InSection section (e ∷ es) → IsFree k₀ section
      free_by None s = tt
      free_by (Some k) s = same (cases_eq k k₀)
        where
          same : (k ≡ k₀) ⊎ (k ≡ k₀ → ⊥) → k ≡ k₀
          same (inl r) = r
          same (inr a) = absurd (free_in k s a (of c k (e ∷ es)) refl s.follows)

      free : IsFree k₀ w.common.section
      free = free_by w.common.section h.section

      process_goes_on : w.common.ended ≡ false
      process_goes_on = by (cases_Bool w.common.ended)
        where
          by : (w.common.ended ≡ true) ⊎ (w.common.ended ≡ false) → w.common.ended ≡ false
          by (inl r) = let none : e ∷ es ≡ [] = h.goes_on r in absurd (cc none)
          by (inr r) = r

      may : may_move w.common k₀ ≡ true
      may = may_by w.common k₀ process_goes_on free there.running

      -- ---- what it reads is there

      read_by : (p : Place) → From w.common.memory (e ∷ es) e p → value_at (c.view e) p ≡ value_at w.common.memory p
      read_by p (held v f) = sym v
      read_by p (wrote s (inl q) b v f) = absurd (before_self c s e q b)
      read_by p (wrote s (inr i) b v f) = absurd (before_once c s e b (each_in (Before c e) es s h.sorted.0 i))

      same_memory : outcome_in w.common.memory (row_by k₀ (c.own e) (c.next e)) ≡ outcome_at c e
      same_memory = sym (reads_alone (row_by k₀ (c.own e) (c.next e)) (c.view e) w.common.memory (λ p r. read_by p (h.sources e p (inl refl) r)))

      -- ---- the word that it draws

      pub used_here : used_by w k₀ ≡ m₀.counts.used
      used_here = ap used_of there.here

      abbrev words₀ : List ℕ
      words₀ = words_of inputs k₀

      pub left_here : drop m₀.counts.used words₀ ≡ drawn_by (c.next e) (c.own e) (drawn c k₀ (unless_breaks (outcome_at c e) (cut c es)))
      left_here =
          ap (λ n. drop n words₀) (sym used_here) ∙ (h.words k₀).left
          ∙ ap (λ b. cond b (drawn_by (c.next e) (c.own e) (drawn c k₀ (unless_breaks (outcome_at c e) (cut c es)))) (drawn c k₀ (unless_breaks (outcome_at c e) (cut c es)))) (eq-eqb k₀ k₀ refl)

      draws_by : (n : Next) (rest : List ℕ) → drop m₀.counts.used words₀ ≡ drawn_by n (c.own e) rest → DrawsNext words₀ m₀.counts n (c.own e)
      draws_by (Act (Draw k) line function) rest q =
          sym (unwrap_or-slice_get words₀ m₀.counts.used 0) ∙ ap (λ o. unwrap_or o 0) (at_drop words₀ m₀.counts.used (c.own e) rest q).1
      draws_by (Act _ line function) rest q = tt
      draws_by (Ended v) rest q = tt
      draws_by Blocked rest q = tt
      draws_by (Broken class line function) rest q = tt

      draws : DrawsNext words₀ m₀.counts (c.next e) (c.own e)
      draws = draws_by (c.next e) (drawn c k₀ (unless_breaks (outcome_at c e) (cut c es))) left_here

      -- ---- the turn

      comes_here : comes_by w k₀ words₀ m₀ (c.next e) ≡ outcome_at c e
      comes_here = ap (outcome_in w.common.memory) (same_row k₀ words₀ m₀.counts (c.own e) (c.next e) there.run.1 draws) ∙ same_memory

      pub turn_here : turn w k₀ inputs ≡ (turn_by k₀ (c.next e) (outcome_at c e), world_by w k₀ words₀ m₀ (c.next e) (outcome_at c e))
      turn_here =
          turn_is w k₀ inputs m₀ (c.next e) may there.here there.run.0
          ∙ ap (λ (o : Outcome). (turn_by k₀ (c.next e) o, world_by w k₀ words₀ m₀ (c.next e) o)) comes_here

      pub is_turn : IsTurn c inputs w e
      is_turn = record {
        asks = ap (option_map (λ (m : Member). m.thread.behaves [])) there.here ∙ ap Some there.run.0;
        comes = subst (λ (o : Option Member). IfSome o (λ m. outcome_in w.common.memory (row_by k₀ (own_by k₀ words₀ m.counts (c.next e)) (c.next e)) ≡ outcome_at c e)) (sym there.here) comes_here;
        tells = ap (λ (r : Turn × World). r.0) turn_here;
      }

      -- ---- the world after it, where it moves
      module _ (a : Answer) (change : Change) (moved : outcome_at c e ≡ moves a change) where
        abbrev after : World
        after = after_move w k₀ words₀ m₀ (c.next e) a change

        abbrev m₁ : Member
        m₁ = told_by words₀ m₀ (c.next e) a

        pub turn_moves : turn w k₀ inputs ≡ (turned.Moved, after)
        turn_moves = turn_here ∙ ap (λ (o : Outcome). (turn_by k₀ (c.next e) o, world_by w k₀ words₀ m₀ (c.next e) o)) moved

        changes : change_at c e ≡ change
        changes = ap change_by moved

        run_on : IsRun c (unworded m₁) (of c k₀ es)
        run_on =
            subst (λ (m : Member). IsRun c m (of c k₀ es)) (told_unworded words₀ m₀ (c.next e) a)
            (subst (λ (o : Outcome). GoesOn c o (of c k₀ es) (λ x. IsRun c (told_by [] (unworded m₀) (c.next e) x) (of c k₀ es))) moved there.run.2)

        good_on : IsGood t m₁
        good_on = good_told t words₀ m₀ (c.next e) a there.run.0 there.good

        comes_moved : outcome_in w.common.memory (row_by k₀ (c.own e) (c.next e)) ≡ moves a change
        comes_moved = same_memory ∙ moved

        fits : Fits w.common.memory change
        fits =
            subst (λ (o : Outcome). Fits w.common.memory (change_by o)) comes_moved
            (fits_step w.common.memory k₀ (c.own e) (c.next e) h.whole (Running, there.running) (subst MakesWhole there.run.0 (there.good.whole [])))

        -- ---- sources

        value_after : (p : Place) → value_at after.common.memory p ≡ or_old (written change p) (value_at w.common.memory p)
        value_after p = value_changed w.common.memory change p fits

        writes_e : (p : Place) (v : Value) → written change p ≡ Some v → WritesAt c e p
        writes_e p v q = (v, ap (λ (d : Change). written d p) changes ∙ q)

        not_before : (x : Id) → In x es → Before c x e → ⊥
        not_before x i b = before_once c x e b (each_in (Before c e) es x h.sorted.0 i)

        held_on : (x : Id) (p : Place) → In x es → value_at w.common.memory p ≡ value_at (c.view x) p → ((y : Id) → In y (e ∷ es) → WritesAt c y p → (y ≡ x) ⊎ Before c x y)
            → (o : Option Value) → written change p ≡ o → From after.common.memory es x p
        held_on x p i v f None q = held (value_after p ∙ ap (λ o. or_old o (value_at w.common.memory p)) q ∙ v) (λ y j. f y (inr j))
        held_on x p i v f (Some u) q = absurd (by (f e (inl refl) (writes_e p u q)))
          where
            by : (e ≡ x) ⊎ Before c x e → ⊥
            by (inl r) = not_again x i r
            by (inr b) = not_before x i b

        from_on : (x : Id) (p : Place) → In x es → From w.common.memory (e ∷ es) x p → From after.common.memory es x p
        from_on x p i (held v f) = held_on x p i v f (written change p) refl
        from_on x p i (wrote s (inl q) b v f) =
            held (value_after p ∙ ap (λ o. or_old o (value_at w.common.memory p)) (ap (λ (d : Change). written d p) (sym changes) ∙ ap (λ (z : Id). written_at c z p) (sym q) ∙ v)) others
          where
            others : (y : Id) → In y es → WritesAt c y p → (y ≡ x) ⊎ Before c x y
            others y j wr = by (f y (inr j) wr)
              where
                by : (y ≡ s) ⊎ (Before c y s ⊎ ((y ≡ x) ⊎ Before c x y)) → (y ≡ x) ⊎ Before c x y
                by (inl r) = absurd (not_again y j (sym (r ∙ q)))
                by (inr (inl r)) = absurd (not_before y j (subst (λ (z : Id). Before c y z) q r))
                by (inr (inr r)) = r
        from_on x p i (wrote s (inr k) b v f) = wrote s k b v (λ y j. f y (inr j))

        -- ---- threads

        starts_e : (k f v : ℕ) → change ≡ starts k f v → Creates c e k
        starts_e k f v q = (f, v, changes ∙ q)

        unborn : (k f v : ℕ) → change ≡ starts k f v → member_at w.members k ≡ None
        unborn k f v q = h.fresh e k f v (inl refl) (changes ∙ q)

        not_itself : (k : ℕ) → member_at w.members k ≡ None → k ≡ k₀ → ⊥
        not_itself k n q = let none : Some m₀ ≡ None = sym there.here ∙ ap (member_at w.members) (sym q) ∙ n in absurd (cc none)

        others_of : (k : ℕ) → (k ≡ k₀ → ⊥) → of c k (e ∷ es) ≡ of c k es
        others_of k n = of_other c k e es (λ q. n (sym q))

        child_same : (f v : ℕ) → child (main_member t objects) f v ≡ unworded (child m₀ f v)
        child_same f v = λ i. record { thread = record { behaves = (sym there.good.program i).behaves f v; program = sym there.good.program i }; counts = no_counts }

        awaited_run : (k f v : ℕ) → change ≡ starts k f v → GoesOrAwaits w k (e ∷ es) None → of c k (e ∷ es) ≡ of c k es → IsRun c (unworded (child m₀ f v)) (of c k es)
        awaited_run k f v q (inl n) same = subst (λ (l : List Id). IsRun c (unworded (child m₀ f v)) l) (sym n ∙ same) tt
        awaited_run k f v q (inr w₁) same =
            subst (λ (m : Member). IsRun c m (of c k es)) (ap (λ (g : ℕ). child (main_member t objects) g w₁.value) function_is ∙ ap (child (main_member t objects) f) value_is ∙ child_same f v)
            (subst (λ (l : List Id). IsRun c (child (main_member t objects) w₁.function w₁.value) l) same w₁.run)
          where
            one : w₁.creator ≡ e
            one = one_creator c t objects family consistent w₁.creator e k (h.executed w₁.creator w₁.listed) (h.executed e (inl refl)) (w₁.function, w₁.value, w₁.creates) (starts_e k f v q)

            both : starts k w₁.function w₁.value ≡ starts k f v
            both = sym w₁.creates ∙ ap (change_at c) one ∙ changes ∙ q

            function_is : w₁.function ≡ f
            function_is = cc both

            value_is : w₁.value ≡ v
            value_is = cc both

        goes_child : (k f v : ℕ) → change ≡ starts k f v → GoesOrAwaits after k es (member_at after.members k)
        goes_child k f v q =
            subst (λ o. GoesOrAwaits after k es o) (sym (child_here m₀ change (with_told w.members k₀ m₁) k f v q))
            (record {
              good = born create_of;
              run = awaited_run k f v q (subst (λ o. GoesOrAwaits w k (e ∷ es) o) (unborn k f v q) (h.goes k)) (others_of k (not_itself k (unborn k f v q)));
              running = inl (started_runs w.common.memory change k f v q);
            })
          where
            create_of : Rattle.weave.proofs.Touching.IsCreating k₀ (c.own e) (c.next e) k f v
            create_of = Rattle.weave.proofs.Touching.creating k₀ (c.own e) w.common.memory (c.next e) a k f v (comes_moved ∙ ap (moves a) q)

            born : Rattle.weave.proofs.Touching.IsCreating k₀ (c.own e) (c.next e) k f v → IsGood t (child m₀ f v)
            born r = good_child t family m₀ m₀ f v r.line r.function (there.run.0 ∙ r.create) there.good there.good.program

        still_runs : (k : ℕ) → (k ≡ k₀ → ⊥) → thread_at w.common.memory.threads k ≡ Some Running → thread_at after.common.memory.threads k ≡ Some Running
        still_runs k n r = by (runs_on w.common.memory change k r)
          where
            by : (thread_at after.common.memory.threads k ≡ Some Running) ⊎ ((v : ℕ) × (change ≡ Rattle.actions.specs.Memory.ends k v)) → thread_at after.common.memory.threads k ≡ Some Running
            by (inl q) = q
            by (inr (v, q)) = absurd (n (ending k₀ (c.own e) w.common.memory (c.next e) a k v (comes_moved ∙ ap (moves a) q)).itself)

        goes_itself : Goes after k₀ es m₁
        goes_itself = record { good = good_on; run = run_on; running = by (runs_on w.common.memory change k₀ there.running) }
          where
            by : (thread_at after.common.memory.threads k₀ ≡ Some Running) ⊎ ((v : ℕ) × (change ≡ Rattle.actions.specs.Memory.ends k₀ v)) → (thread_at after.common.memory.threads k₀ ≡ Some Running) ⊎ (of c k₀ es ≡ [])
            by (inl q) = inl q
            by (inr (v, q)) = inr (stopped (ending k₀ (c.own e) w.common.memory (c.next e) a k₀ v (comes_moved ∙ ap (moves a) q)))
              where
                stopped : IsEnding k₀ (c.next e) a k₀ v → of c k₀ es ≡ []
                stopped r = ended_stops (of c k₀ es) (unworded m₁) _ (ends_then t m₀ v r.line r.function a there.good (there.run.0 ∙ r.end) r.done) run_on

        goes_other : (k : ℕ) → (k ≡ k₀ → ⊥) → StartsNot change k → (o : Option Member) → GoesOrAwaits w k (e ∷ es) o → GoesOrAwaits after k es o
        goes_other k n s None (inl q) = inl (sym (others_of k n) ∙ q)
        goes_other k n s None (inr w₁) = inr (by w₁.listed)
          where
            by : (w₁.creator ≡ e) ⊎ In w₁.creator es → Awaits k es
            by (inl q) = absurd (s w₁.function w₁.value (sym changes ∙ ap (change_at c) (sym q) ∙ w₁.creates))
            by (inr i) = record {
              creator = w₁.creator;
              function = w₁.function;
              value = w₁.value;
              listed = i;
              creates = w₁.creates;
              after = subst (λ (l : List Id). Each (λ y. c.clock w₁.creator < c.clock y) l) (others_of k n) w₁.after;
              run = subst (λ (l : List Id). IsRun c (child (main_member t objects) w₁.function w₁.value) l) (others_of k n) w₁.run;
            }
        goes_other k n s (Some m) g = record { good = g.good; run = subst (λ (l : List Id). IsRun c (unworded m) l) (others_of k n) g.run; running = by g.running }
          where
            by : (thread_at w.common.memory.threads k ≡ Some Running) ⊎ (of c k (e ∷ es) ≡ []) → (thread_at after.common.memory.threads k ≡ Some Running) ⊎ (of c k es ≡ [])
            by (inl r) = inl (still_runs k n r)
            by (inr q) = inr (sym (others_of k n) ∙ q)

        goes_old : (k : ℕ) → StartsNot change k → (k ≡ k₀) ⊎ (k ≡ k₀ → ⊥) → GoesOrAwaits after k es (member_at after.members k)
        goes_old k s (inl q) =
            subst (λ (j : ℕ). GoesOrAwaits after j es (member_at after.members j)) (sym q)
            (subst (λ o. GoesOrAwaits after k₀ es o) (sym (child_apart m₀ change (with_told w.members k₀ m₁) k₀ (subst (StartsNot change) q s) ∙ told_here w.members k₀ m₀ m₁ there.here)) goes_itself)
        goes_old k s (inr n) =
            subst (λ o. GoesOrAwaits after k es o) (sym (child_apart m₀ change (with_told w.members k₀ m₁) k s ∙ told_apart w.members k₀ k m₁ n)) (goes_other k n s (member_at w.members k) (h.goes k))

        goes_on_by : (k : ℕ) → ((f v : ℕ) × (change ≡ starts k f v)) ⊎ StartsNot change k → GoesOrAwaits after k es (member_at after.members k)
        goes_on_by k (inl (f, v, q)) = goes_child k f v q
        goes_on_by k (inr s) = goes_old k s (cases_eq k k₀)

        fresh_on : (x : Id) (k f v : ℕ) → In x es → change_at c x ≡ starts k f v → member_at after.members k ≡ None
        fresh_on x k f v i q =
            child_apart m₀ change (with_told w.members k₀ m₁) k never ∙ told_apart w.members k₀ k m₁ (not_itself k none) ∙ none
          where
            none : member_at w.members k ≡ None
            none = h.fresh x k f v (inr i) q

            never : StartsNot change k
            never g u r = not_again x i (one_creator c t objects family consistent e x k (h.executed e (inl refl)) (h.executed x (inr i)) (starts_e k g u r) (f, v, q))

        -- ---- sections and the end of the process

        abbrev inside₁ : Bool
        inside₁ = inside_after (mode_at c e) (is_inside k₀ w.common.section)

        section_on : IsNextSection k₀ inside₁ after.common.section
        section_on = next_section k₀ (mode_at c e) w.common.section free

        groups_first : Follows c inside₁ e (of c k₀ es) × Groups c inside₁ (of c k₀ es)
        groups_first = subst (λ (l : List Id). Groups c (is_inside k₀ w.common.section) l) first_of (h.groups k₀)

        groups_on : (k : ℕ) → (k ≡ k₀) ⊎ (k ≡ k₀ → ⊥) → Groups c (is_inside k after.common.section) (of c k es)
        groups_on k (inl q) = subst (λ (j : ℕ). Groups c (is_inside j after.common.section) (of c j es)) (sym q) (subst (λ (b : Bool). Groups c b (of c k₀ es)) (sym section_on.same) groups_first.1)
        groups_on k (inr n) =
            subst (λ (b : Bool). Groups c b (of c k es)) (sym (outside k₀ k (mode_at c e) w.common.section n free))
            (subst (λ (l : List Id). Groups c (is_inside k w.common.section) l) (others_of k n) (h.groups k))

        inside_by : (section : Option ℕ) → (section ≡ None) ⊎ (section ≡ Some k₀) → is_inside k₀ section ≡ inside₁ → InSection section es
        inside_by None o q = tt
        inside_by (Some k) o q =
            record { last = e; executed = h.executed e (inl refl); its = sym (its o); before = h.sorted.0; follows = subst (λ (j : ℕ). Follows c true e (of c j es)) (sym (its o)) (subst (λ (b : Bool). Follows c b e (of c k₀ es)) within groups_first.0) }
          where
            its : (Some k ≡ None) ⊎ (Some k ≡ Some k₀) → k ≡ k₀
            its (inl r) = absurd (cc r)
            its (inr r) = cc r

            within : inside₁ ≡ true
            within = sym q ∙ eq-eqb k k₀ (its o)

        -- nothing is left after an Exit
        after_exit : mode_at c e ≡ exits → (l : List Id) → l ≡ es → es ≡ []
        after_exit q [] r = sym r
        after_exit q (y ∷ l) r = absurd (by (cases_eq (c.thread y) k₀))
          where
            listed : In y es
            listed = subst (λ (x : List Id). In y x) r (inl refl)

            later : Before c e y → c.clock y < c.clock e → ⊥
            later (inl b) s = omega (arith, b, s)
            later (inr b) s = omega (arith, b.0, s)

            exit : IsExit (c.next e) a
            exit = exit_by w.common.memory k₀ (c.own e) (c.next e) a change q comes_moved

            none : of c k₀ es ≡ []
            none = ended_stops (of c k₀ es) (unworded m₁) _ (exits_then t m₀ exit.line exit.function a there.good (there.run.0 ∙ exit.exit) exit.done) run_on

            by : (c.thread y ≡ k₀) ⊎ (c.thread y ≡ k₀ → ⊥) → ⊥
            by (inl s) = subst (λ (x : List Id). In y x) none (Rattle.weave.proofs.Lists.of_in c k₀ es y s listed)
            by (inr n) = later (each_in (Before c e) es y h.sorted.0 listed) (consistent.exits e (h.executed e (inl refl)) q y (h.executed y (inr listed)) n)

        goes_on_after : after.common.ended ≡ true → es ≡ []
        goes_on_after q = after_exit (ended_or (mode_at c e) w.common.ended process_goes_on q) es refl

        -- ---- words

        pub cut_moved : cut c (e ∷ es) ≡ e ∷ cut c es
        cut_moved = ap (λ (o : Outcome). e ∷ unless_breaks o (cut c es)) moved

        counted_by_draw : (n : Next) (rest : List ℕ) → m₀.counts.used ≤ length words₀ → drop m₀.counts.used words₀ ≡ drawn_by n (c.own e) rest
            → ((counted_by words₀ m₀.counts n).used ≤ length words₀) × (drop (counted_by words₀ m₀.counts n).used words₀ ≡ rest)
        counted_by_draw (Act (Draw k) line function) rest l q =
            let d = at_drop words₀ m₀.counts.used (c.own e) rest q in
            let more : (counted_by words₀ m₀.counts (Act (Draw k) line function)).used ≡ m₀.counts.used + 1 = ap (λ b. cond b (m₀.counts.used + 1) m₀.counts.used) (Rattle.std.proofs.lemmas.Bool.lt-ltb m₀.counts.used (length words₀) d.0) in
            (omega (arith, d.0, more), ap (λ n. drop n words₀) more ∙ d.2)
        counted_by_draw (Act (Alloc o) line function) rest l q = (l, q)
        counted_by_draw (Act (Create f v) line function) rest l q = (l, q)
        counted_by_draw (Act _ line function) rest l q = (l, q)
        counted_by_draw (Ended v) rest l q = (l, q)
        counted_by_draw Blocked rest l q = (l, q)
        counted_by_draw (Broken class line function) rest l q = (l, q)

        words_itself : StartsNot change k₀ → WordsLeft after es k₀
        words_itself s =
            let used : used_by after k₀ ≡ m₁.counts.used = ap used_of (child_apart m₀ change (with_told w.members k₀ m₁) k₀ s ∙ told_here w.members k₀ m₀ m₁ there.here) in
            let rest : drop m₀.counts.used words₀ ≡ drawn_by (c.next e) (c.own e) (drawn c k₀ (cut c es)) =
            left_here ∙ ap (λ (o : Outcome). drawn_by (c.next e) (c.own e) (drawn c k₀ (unless_breaks o (cut c es)))) moved in
            let d = counted_by_draw (c.next e) (drawn c k₀ (cut c es)) (subst (λ n. n ≤ length words₀) used_here (h.words k₀).within) rest in
            record { within = subst (λ n. n ≤ length words₀) (sym used) d.0; left = ap (λ n. drop n words₀) used ∙ d.1 }

        words_same : (k : ℕ) → (k ≡ k₀ → ⊥) → used_by after k ≡ used_by w k → WordsLeft after es k
        words_same k n used =
            let others : drawn c k (cut c (e ∷ es)) ≡ drawn c k (cut c es) =
            ap (drawn c k) cut_moved ∙ ap (λ b. cond b (drawn_by (c.next e) (c.own e) (drawn c k (cut c es))) (drawn c k (cut c es))) (ne_eqb k₀ k (λ q. n (sym q))) in
            record {
              within = subst (λ u. u ≤ length (words_of inputs k)) (sym used) (h.words k).within;
              left = ap (λ u. drop u (words_of inputs k)) used ∙ (h.words k).left ∙ others;
            }

        words_old : (k : ℕ) → StartsNot change k → (k ≡ k₀) ⊎ (k ≡ k₀ → ⊥) → WordsLeft after es k
        words_old k s (inl q) = subst (WordsLeft after es) (sym q) (words_itself (subst (StartsNot change) q s))
        words_old k s (inr n) = words_same k n (ap used_of (child_apart m₀ change (with_told w.members k₀ m₁) k s ∙ told_apart w.members k₀ k m₁ n))

        words_on : (k : ℕ) → ((f v : ℕ) × (change ≡ starts k f v)) ⊎ StartsNot change k → WordsLeft after es k
        words_on k (inl (f, v, q)) =
            let none = unborn k f v q in
            words_same k (not_itself k none) (ap used_of (child_here m₀ change (with_told w.members k₀ m₁) k f v q) ∙ sym (ap used_of none))
        words_on k (inr s) = words_old k s (cases_eq k k₀)

        pub agrees_after : Agrees after es
        agrees_after = record {
          sorted = h.sorted.1;
          executed = λ x i. h.executed x (inr i);
          goes = λ k. goes_on_by k (starts_or change k);
          fresh = fresh_on;
          section = inside_by after.common.section section_on.own section_on.same;
          groups = λ k. groups_on k (cases_eq k k₀);
          goes_on = goes_on_after;
          whole = whole_changed w.common.memory change fits h.whole;
          sources = λ x p i r. from_on x p i (h.sources x p (inr i) r);
          words = λ k. words_on k (starts_or change k);
        }
