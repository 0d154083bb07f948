-- The candidate of a run: its events are the numbers of its turns.
use Rattle.std.proofs.Common.{◌≡◌, ◌<◌, ◌≤◌, ◌+◌, ◌-◌, ◌^◌, ℕ, zero, suc, Bool, true, false, cond, List, [], ◌∷◌, length, slice_index, Option, Some, None, option_map, ◌⊎◌, inl, inr, refl, sym, ap, subst, ◌∙◌, arith, nat_eq, IfSome}
use Rattle.std.proofs.lemmas.Bool.{cases_eq, eqb-true, eqb-false, eq-eqb, ne_eqb, true≢false, cases_order}
use Rattle.std.proofs.lemmas.Nat.{pow_pos, mod_below}
use Rattle.words.specs.Operators.{low_bits}
use Rattle.words.specs.declared.check.Class.{Class}
use Rattle.words.specs.declared.check.Check.{Check}
use Rattle.actions.specs.declared.action.Action.{Action}
use Rattle.actions.specs.declared.action.Action.TheVariants.{Draw, Alloc, Create}
use Rattle.actions.specs.declared.action.Answer.{Answer}
use Rattle.actions.specs.declared.action.Next.{Next}
use Rattle.actions.specs.declared.action.Next.TheVariants.{Act, Ended, Blocked, Broken}
use Rattle.actions.specs.Behaviour.{Thread}
use Rattle.actions.specs.Objects.{Objects}
use Rattle.actions.specs.Memory.{Change, starts}
use Rattle.actions.specs.Row.{Outcome, breaks, waits, moves, outcome_in}
use Rattle.actions.specs.Table.{Mode, exits}
use Rattle.interleave.specs.declared.counts.Counts.{Counts}
use Rattle.interleave.specs.declared.turn.Turn.{Turn}
use Rattle.interleave.specs.declared.turn.Turn.TheVariants as turned
use Rattle.interleave.specs.Inputs.{InputLists, words_of}
use Rattle.interleave.specs.Own.{own_part, next_word}
use Rattle.interleave.specs.World.{World, Member, member_at, no_counts, child, first_world, first_common, ended_after}
use Rattle.interleave.specs.Turn.{turn}
use Rattle.weave.specs.Place.{Place, Value, value_at, written}
use Rattle.weave.specs.Step.{own_by, row_by, mode_by, turn_by, check_by, change_by, told_by, IsOwn}
use Rattle.weave.specs.Candidate.{chosen, Candidate, In, Each, Executed, outcome_at, change_at, mode_at, written_at, WritesAt, Later, Before}
use Rattle.weave.specs.Consistent.{main_member, GoesOn, IsRun, IsChild, IsLast, Follows, Groups, IsSource, IsConsistent, inside_after}
use Rattle.weave.specs.Order.{Sorted, IsOrder, IsTurn, Plays, Breaks}
use Rattle.weave.specs.Family.{IsFamily, AreWhole}
use Rattle.weave.specs.RunCandidate as run
use Rattle.weave.specs.RunCandidate.{from, next_of, own_of, clock_by}
use Rattle.weave.proofs.Lists.{each_in, each_from, before_once, before_self, in_of, of_in}
use Rattle.weave.proofs.Entries.{lookup-insert_here}
use Rattle.weave.proofs.Changing.{or_old, value_changed}
use Rattle.weave.proofs.Turns.{comes_by, world_by, after_move, turn_is, Acts, acts, unused, unworded, told_unworded}
use Rattle.weave.proofs.Members.{StartsNot, starts_or}
use Rattle.weave.proofs.Local.{IsGood, good_main}
use Rattle.weave.proofs.Sections.{is_inside, IsFree, IsNextSection, next_section, outside, May, may_from}
use Rattle.weave.proofs.Peopled.{IsPeopled, unborn, not_started, itself_after, other_after, child_after, fits_here, peopled_after}
use Rattle.weave.proofs.Starting.{later_before}

pub in_from : (k n x : ℕ) → In x (from n k) → (n ≤ x) × (x < n + k)
in_from zero n x i = absurd i
in_from (suc k) n x (inl e) = (omega (arith, e), omega (arith, e))
in_from (suc k) n x (inr i) = let h = in_from k (suc n) x i in (omega (arith, h.0), omega (arith, h.1))

pub from_in : (k n x : ℕ) → n ≤ x → x < n + k → In x (from n k)
from_in zero n x h l = absurd (omega arith)
from_in (suc k) n x h l = by (cases_eq x n) (λ a. from_in k (suc n) x (omega arith) (omega arith))
  where
    by : (x ≡ n) ⊎ (x ≡ n → ⊥) → ((x ≡ n → ⊥) → In x (from (suc n) k)) → (x ≡ n) ⊎ In x (from (suc n) k)
    by (inl e) rest = inl e
    by (inr a) rest = inr (rest a)

pub length-from : (k n : ℕ) → length (from n k) ≡ k
length-from zero n = refl
length-from (suc k) n = ap suc (length-from k (suc n))

-- the own part of a step is one that it may have
low_below : (n word : ℕ) → low_bits n word < 2 ^ n
unfolding low_bits
low_below n word = mod_below word (2 ^ n) (pow_pos n)

own_action : (t : ℕ) (words : List ℕ) (counts : Counts) (line function : ℕ) (action : Action) → IsOwn t (unused counts) (own_part t words counts action) (Act action line function)
own_action t words counts line function (Draw n) = low_below n (next_word words counts.used)
own_action t words counts line function (Alloc o) = refl
own_action t words counts line function (Create f v) = refl
own_action t words counts line function _ = refl

own_fits : (t : ℕ) (words : List ℕ) (counts : Counts) (n : Next) → IsOwn t (unused counts) (own_by t words counts n) n
own_fits t words counts (Act action line function) = own_action t words counts line function action
own_fits t words counts (Ended v) = tt
own_fits t words counts Blocked = tt
own_fits t words counts (Broken class line function) = tt

module _ (t : Thread) (objects : Objects) (inputs : InputLists) (l : List ℕ) where
  abbrev many : ℕ
  many = length l

  abbrev ts : ℕ → ℕ
  ts n = slice_index l n

  abbrev worlds : ℕ → World
  worlds n = run.worlds t objects inputs l n

  abbrev clock_at : ℕ → ℕ
  clock_at n = run.clock_at t objects inputs l n

  abbrev words_at : ℕ → List ℕ
  words_at n = words_of inputs (ts n)

  abbrev candidate : Candidate ℕ
  candidate = run.candidate_of_run t objects inputs l

  module _ (family : IsFamily t) (whole : AreWhole objects) (acts_at : (n : ℕ) → n < many → (turn (worlds n) (ts n) inputs).0 ≡ turned.Nothing → ⊥) (moves_at : (n : ℕ) → suc n < many → (turn (worlds n) (ts n) inputs).0 ≡ turned.Moved) where
    abbrev c : Candidate ℕ
    c = candidate

    -- ---- one turn

    here : (n : ℕ) → n < many → Acts (worlds n) (ts n)
    here n b = acts (worlds n) (ts n) inputs (acts_at n b)

    may : (n : ℕ) → n < many → May (worlds n).common (ts n)
    may n b = may_from (worlds n).common (ts n) (here n b).may

    module _ (n : ℕ) (b : n < many) where
      abbrev m : Member
      m = (here n b).member

      next_is : c.next n ≡ m.thread.behaves []
      next_is = ap next_of (here n b).here

      own_is : c.own n ≡ own_by (ts n) (words_at n) m.counts (m.thread.behaves [])
      own_is = ap (own_of (ts n) (words_at n)) (here n b).here

      abbrev comes : Outcome
      comes = comes_by (worlds n) (ts n) (words_at n) m (m.thread.behaves [])

      outcome_is : outcome_at c n ≡ comes
      outcome_is = λ i. outcome_in (worlds n).common.memory (row_by (ts n) (own_is i) (next_is i))

      turn_at : turn (worlds n) (ts n) inputs ≡ (turn_by (ts n) (m.thread.behaves []) comes, world_by (worlds n) (ts n) (words_at n) m (m.thread.behaves []) comes)
      turn_at = turn_is (worlds n) (ts n) inputs m (m.thread.behaves []) (here n b).may (here n b).here refl

      data What : Type 0 where
        moved : (a : Answer) (change : Change) → comes ≡ moves a change → worlds (suc n) ≡ after_move (worlds n) (ts n) (words_at n) m (m.thread.behaves []) a change → What
        broke : (class : Class) → comes ≡ breaks class → worlds (suc n) ≡ worlds n → (suc n < many → ⊥) → What

      what_by : (o : Outcome) → comes ≡ o → What
      what_by (breaks class) e = broke class e (ap (λ (r : Turn × World). r.1) turn_at ∙ ap (world_by (worlds n) (ts n) (words_at n) m (m.thread.behaves [])) e) last
        where
          last : suc n < many → ⊥
          last s =
              let two : turned.Broken (check_by (ts n) class (m.thread.behaves [])) ≡ turned.Moved =
              sym (ap (λ (r : Turn × World). r.0) turn_at ∙ ap (turn_by (ts n) (m.thread.behaves [])) e) ∙ moves_at n s in
              absurd (cc two)
      what_by waits e = absurd (acts_at n b (ap (λ (r : Turn × World). r.0) turn_at ∙ ap (turn_by (ts n) (m.thread.behaves [])) e))
      what_by (moves a change) e = moved a change e (ap (λ (r : Turn × World). r.1) turn_at ∙ ap (world_by (worlds n) (ts n) (words_at n) m (m.thread.behaves [])) e)

      what : What
      what = what_by comes refl

    -- ---- the worlds' threads

    people_first : IsPeopled t (worlds 0)
    people_first = record {
      good = λ k x e. by k x e (cases_eq k 0);
      born = λ k x e. born k x e (cases_eq k 0);
      whole = whole;
    }
      where
        first : member_at (first_world t objects).members 0 ≡ Some (main_member t objects)
        first = lookup-insert_here 0 [] (main_member t objects)

        none : (k : ℕ) → (k ≡ 0 → ⊥) → member_at (first_world t objects).members k ≡ None
        none k a = Rattle.actions.proofs.Changes.lookup-insert_apart k 0 a [] (main_member t objects)

        by : (k : ℕ) (x : Member) → member_at (first_world t objects).members k ≡ Some x → (k ≡ 0) ⊎ (k ≡ 0 → ⊥) → IsGood t x
        by k x e (inl q) = let two : Some (main_member t objects) ≡ Some x = sym first ∙ ap (member_at (first_world t objects).members) (sym q) ∙ e in subst (IsGood t) (cc two) (good_main t family objects)
        by k x e (inr a) = let two : None ≡ Some x = sym (none k a) ∙ e in absurd (cc two)

        born : (k : ℕ) (x : Member) → member_at (first_world t objects).members k ≡ Some x → (k ≡ 0) ⊎ (k ≡ 0 → ⊥) → (k ≡ 0) ⊎ Rattle.weave.proofs.Peopled.IsBorn t (worlds 0) k
        born k x e (inl q) = inl q
        born k x e (inr a) = let two : None ≡ Some x = sym (none k a) ∙ e in absurd (cc two)

    people_next : (n : ℕ) (b : n < many) → IsPeopled t (worlds n) → What n b → IsPeopled t (worlds (suc n))
    people_next n b p (moved a change q e) =
        subst (IsPeopled t) (sym e) (peopled_after t family (worlds n) p (ts n) (words_at n) (m n b) (here n b).here (may n b).runs a change q)
    people_next n b p (broke class q e last) = subst (IsPeopled t) (sym e) p

    people : (n : ℕ) → n ≤ many → IsPeopled t (worlds n)
    people zero b = people_first
    people (suc n) b = people_next n (omega arith) (people n (omega arith)) (what n (omega arith))

    people_at : (n : ℕ) → n < many → IsPeopled t (worlds n)
    people_at n b = people n (omega arith)

    -- ---- a thread's turns from n on are its run

    none_left : (left n k : ℕ) → (suc n < many → ⊥) → suc n + left ≡ many → chosen ts k (from (suc n) left) ≡ []
    none_left zero n k last e = refl
    none_left (suc left) n k last e = absurd (last (omega arith))

    event_fits : (n : ℕ) (b : n < many) → IsOwn (ts n) (unused (m n b).counts) (c.own n) (c.next n)
    event_fits n b =
        subst (λ (x : Next). IsOwn (ts n) (unused (m n b).counts) (c.own n) x) (sym (next_is n b))
        (subst (λ (o : ℕ). IsOwn (ts n) (unused (m n b).counts) o ((m n b).thread.behaves [])) (sym (own_is n b)) (own_fits (ts n) (words_at n) (m n b).counts ((m n b).thread.behaves [])))

    abbrev GoesFrom : ℕ → ℕ → ℕ → Type 0
    GoesFrom n left k = (x : Member) → member_at (worlds n).members k ≡ Some x → IsRun c (unworded x) (chosen ts k (from n left))

    run_on : (left n k : ℕ) (b : n < many) → suc n + left ≡ many → ts n ≡ k → GoesFrom (suc n) left k → What n b
        → GoesOn c (outcome_at c n) (chosen ts k (from (suc n) left)) (λ a. IsRun c (told_by [] (unworded (m n b)) (c.next n) a) (chosen ts k (from (suc n) left)))
    run_on left n k b e q rest (moved a change o s) =
        subst (λ (x : Outcome). GoesOn c x (chosen ts k (from (suc n) left)) (λ y. IsRun c (told_by [] (unworded (m n b)) (c.next n) y) (chosen ts k (from (suc n) left)))) (sym (outcome_is n b ∙ o))
        (subst (λ (x : Next). IsRun c (told_by [] (unworded (m n b)) x a) (chosen ts k (from (suc n) left))) (sym (next_is n b))
        (subst (λ (x : Member). IsRun c x (chosen ts k (from (suc n) left))) (sym (told_unworded (words_at n) (m n b) ((m n b).thread.behaves []) a))
        (rest (told_by (words_at n) (m n b) ((m n b).thread.behaves []) a) there)))
      where
        there : member_at (worlds (suc n)).members k ≡ Some (told_by (words_at n) (m n b) ((m n b).thread.behaves []) a)
        there =
            ap (λ (w : World). member_at w.members k) s ∙ ap (member_at (after_move (worlds n) (ts n) (words_at n) (m n b) ((m n b).thread.behaves []) a change).members) (sym q)
            ∙ itself_after t family (worlds n) (people_at n b) (ts n) (words_at n) (m n b) (here n b).here (may n b).runs a change o
    run_on left n k b e q rest (broke class o s last) =
        subst (λ (x : Outcome). GoesOn c x (chosen ts k (from (suc n) left)) (λ y. IsRun c (told_by [] (unworded (m n b)) (c.next n) y) (chosen ts k (from (suc n) left)))) (sym (outcome_is n b ∙ o)) (none_left left n k last e)

    -- another thread than the one that moves
    other_on : (n k : ℕ) (b : n < many) (x : Member) → (ts n ≡ k → ⊥) → What n b → member_at (worlds n).members k ≡ Some x → member_at (worlds (suc n)).members k ≡ Some x
    other_on n k b x a (moved y change o s) e =
        ap (λ (w : World). member_at w.members k) s
        ∙ other_after t family (worlds n) (people_at n b) (ts n) (words_at n) (m n b) (here n b).here (may n b).runs y change o k (λ q. a (sym q))
        (not_started t family (worlds n) (people_at n b) (ts n) (words_at n) (m n b) (here n b).here (may n b).runs y change o k x e)
        ∙ e
    other_on n k b x a (broke class o s last) e = ap (λ (w : World). member_at w.members k) s ∙ e

    goes_by : (left n k : ℕ) (b : n < many) → suc n + left ≡ many → GoesFrom (suc n) left k → (x : Member) → member_at (worlds n).members k ≡ Some x
        → (d : Bool) → nat_eq (ts n) k ≡ d → IsRun c (unworded x) (cond d (n ∷ chosen ts k (from (suc n) left)) (chosen ts k (from (suc n) left)))
    goes_by left n k b e rest x h true d =
        let q : ts n ≡ k = eqb-true (ts n) k d in
        let one : Some (m n b) ≡ Some x = sym (here n b).here ∙ ap (member_at (worlds n).members) q ∙ h in
        let same : m n b ≡ x = cc one in
        subst (λ (y : Member). IsRun c (unworded y) (n ∷ chosen ts k (from (suc n) left))) same (sym (next_is n b), event_fits n b, run_on left n k b e q rest (what n b))
    goes_by left n k b e rest x h false d = rest x (other_on n k b x (eqb-false (ts n) k d) (what n b) h)

    goes_from : (left n k : ℕ) → n + left ≡ many → GoesFrom n left k
    goes_from zero n k e x h = tt
    goes_from (suc left) n k e x h = goes_by left n k (omega arith) (omega arith) (goes_from left (suc n) k (omega arith)) x h (nat_eq (ts n) k) refl

    -- ---- a thread that isn't there yet

    record Created (n left k : ℕ) : Type 0 where
      creator : ℕ
      function : ℕ
      value : ℕ
      early : creator < many
      creates : change_at c creator ≡ starts k function value
      apart : ts creator ≡ k → ⊥
      after : Each (λ y. creator < y) (chosen ts k (from n left))
      run : IsRun c (child (main_member t objects) function value) (chosen ts k (from n left))

    abbrev MayCome : ℕ → ℕ → ℕ → Type 0
    MayCome n left k = member_at (worlds n).members k ≡ None → (chosen ts k (from n left) ≡ []) ⊎ Created n left k

    skip : (left n k : ℕ) → (ts n ≡ k → ⊥) → chosen ts k (from n (suc left)) ≡ chosen ts k (from (suc n) left)
    skip left n k a = ap (λ d. cond d (n ∷ chosen ts k (from (suc n) left)) (chosen ts k (from (suc n) left))) (ne_eqb (ts n) k a)

    child_same : (x : Member) (f v : ℕ) → IsGood t x → unworded (child x f v) ≡ child (main_member t objects) f v
    child_same x f v g = λ i. record { thread = record { behaves = (g.program i).behaves f v; program = g.program i }; counts = no_counts }

    after_from : (left n k : ℕ) → Each (λ y. n < y) (chosen ts k (from (suc n) left))
    after_from left n k = each_from (chosen ts k (from (suc n) left)) (λ y i. listed y (in_of c k (from (suc n) left) y i).0)
      where
        listed : (y : ℕ) → In y (from (suc n) left) → n < y
        listed y i = omega (arith, (in_from left (suc n) y i).0)

    comes_by_what : (left n k : ℕ) (b : n < many) → suc n + left ≡ many → (ts n ≡ k → ⊥) → member_at (worlds n).members k ≡ None → MayCome (suc n) left k → What n b
        → (chosen ts k (from (suc n) left) ≡ []) ⊎ Created (suc n) left k
    comes_by_what left n k b e a none rest (broke class o s last) = inl (none_left left n k last e)
    comes_by_what left n k b e a none rest (moved y change o s) = by (starts_or change k)
      where
        by : ((f v : ℕ) × (change ≡ starts k f v)) ⊎ StartsNot change k → (chosen ts k (from (suc n) left) ≡ []) ⊎ Created (suc n) left k
        by (inr not) = rest (ap (λ (w : World). member_at w.members k) s ∙ other_after t family (worlds n) (people_at n b) (ts n) (words_at n) (m n b) (here n b).here (may n b).runs y change o k (λ q. a (sym q)) not ∙ none)
        by (inl (f, v, q)) = inr (record {
          creator = n;
          function = f;
          value = v;
          early = b;
          creates = ap change_by (outcome_is n b ∙ o) ∙ q;
          apart = a;
          after = after_from left n k;
          run = subst (λ (x : Member). IsRun c x (chosen ts k (from (suc n) left))) (child_same (m n b) f v ((people_at n b).good (ts n) (m n b) (here n b).here))
              (goes_from left (suc n) k e (child (m n b) f v) (ap (λ (w : World). member_at w.members k) s ∙ child_after t family (worlds n) (people_at n b) (ts n) (words_at n) (m n b) (here n b).here (may n b).runs y change o k f v q));
        })

    comes_from : (left n k : ℕ) → n + left ≡ many → MayCome n left k
    comes_from zero n k e none = inl refl
    comes_from (suc left) n k e none = back (comes_by_what left n k b (omega arith) apart none (comes_from left (suc n) k (omega arith)) (what n b))
      where
        b : n < many
        b = omega arith

        apart : ts n ≡ k → ⊥
        apart q = let two : Some (m n b) ≡ None = sym (here n b).here ∙ ap (member_at (worlds n).members) q ∙ none in absurd (cc two)

        back : (chosen ts k (from (suc n) left) ≡ []) ⊎ Created (suc n) left k → (chosen ts k (from n (suc left)) ≡ []) ⊎ Created n (suc left) k
        back (inl q) = inl (skip left n k apart ∙ q)
        back (inr r) = inr (record {
          creator = r.creator;
          function = r.function;
          value = r.value;
          early = r.early;
          creates = r.creates;
          apart = r.apart;
          after = subst (λ (x : List ℕ). Each (λ y. r.creator < y) x) (sym (skip left n k apart)) r.after;
          run = subst (λ (x : List ℕ). IsRun c (child (main_member t objects) r.function r.value) x) (sym (skip left n k apart)) r.run;
        })

    -- ---- clocks

    clock_le : (n : ℕ) → clock_at n ≤ n
    clock_le zero = omega arith
    clock_le (suc n) = by (worlds (suc n)).common.section (clock_le n)
      where
        by : (s : Option ℕ) → clock_at n ≤ n → clock_by s (suc n) (clock_at n) ≤ suc n
        by None h = omega arith
        by (Some k) h = omega arith

    clock_step : (n : ℕ) → clock_at n ≤ clock_at (suc n)
    clock_step n = by (worlds (suc n)).common.section
      where
        by : (s : Option ℕ) → clock_at n ≤ clock_by s (suc n) (clock_at n)
        by None = omega (arith, clock_le n)
        by (Some k) = omega arith

    clock_mono : (k n : ℕ) → clock_at n ≤ clock_at (n + k)
    clock_mono zero n = subst (λ (x : ℕ). clock_at n ≤ clock_at x) (let e : n ≡ n + 0 = omega arith in e) (omega arith)
    clock_mono (suc k) n = subst (λ (x : ℕ). clock_at n ≤ clock_at x) (let e : suc (n + k) ≡ n + suc k = omega arith in e) (omega (arith, clock_mono k n, clock_step (n + k)))

    clock_rises : (n y : ℕ) → n ≤ y → clock_at n ≤ clock_at y
    clock_rises n y h = subst (λ (x : ℕ). clock_at n ≤ clock_at x) (let e : n + (y - n) ≡ y = omega arith in e) (clock_mono (y - n) n)

    clock_new : (n : ℕ) → (worlds (suc n)).common.section ≡ None → clock_at (suc n) ≡ suc n
    clock_new n e = ap (λ s. clock_by s (suc n) (clock_at n)) e

    clock_same : (n k : ℕ) → (worlds (suc n)).common.section ≡ Some k → clock_at (suc n) ≡ clock_at n
    clock_same n k e = ap (λ s. clock_by s (suc n) (clock_at n)) e

    -- after a move the section is the mover's own, or none
    section_what : (n : ℕ) (b : n < many) → suc n < many → What n b → IsNextSection (ts n) (inside_after (mode_at c n) (is_inside (ts n) (worlds n).common.section)) (worlds (suc n)).common.section
    section_what n b l (broke class o s last) = absurd (last l)
    section_what n b l (moved a change o s) =
        subst (λ (w : World). IsNextSection (ts n) (inside_after (mode_at c n) (is_inside (ts n) (worlds n).common.section)) w.common.section) (sym s)
        (subst (λ (x : Next). IsNextSection (ts n) (inside_after (mode_at c n) (is_inside (ts n) (worlds n).common.section)) (Rattle.interleave.specs.World.section_after (mode_by x) (ts n) (worlds n).common.section)) (next_is n b)
        (next_section (ts n) (mode_at c n) (worlds n).common.section (may n b).free))

    section_next : (n : ℕ) → suc n < many → IsNextSection (ts n) (inside_after (mode_at c n) (is_inside (ts n) (worlds n).common.section)) (worlds (suc n)).common.section
    section_next n l = section_what n (omega arith) l (what n (omega arith))

    -- in a section the next turn is of the same thread
    stays : (n k : ℕ) → suc n < many → (worlds (suc n)).common.section ≡ Some k → (ts n ≡ k) × (ts (suc n) ≡ k)
    stays n k l e = (by (section_next n l).own, sym (subst (IsFree (ts (suc n))) e (may (suc n) l).free))
      where
        by : ((worlds (suc n)).common.section ≡ None) ⊎ ((worlds (suc n)).common.section ≡ Some (ts n)) → ts n ≡ k
        by (inl q) = let two : None ≡ Some k = sym q ∙ e in absurd (cc two)
        by (inr q) = let two : Some (ts n) ≡ Some k = sym q ∙ e in cc two

    -- of two turns the later one has a greater clock, or the same in one thread
    abbrev Rises : ℕ → ℕ → Type 0
    Rises x y = (clock_at x < clock_at y) ⊎ ((clock_at x ≡ clock_at y) × (ts x ≡ ts y))

    rises_by : (x n : ℕ) → x ≤ n → suc n < many → (x ≡ n) ⊎ Rises x n → (s : Option ℕ) → (worlds (suc n)).common.section ≡ s → Rises x (suc n)
    rises_by x n h l r None e = inl (omega (arith, clock_le x, clock_new n e))
    rises_by x n h l (inl q) (Some k) e = let st = stays n k l e in inr (ap clock_at q ∙ sym (clock_same n k e), ap ts q ∙ st.0 ∙ sym st.1)
    rises_by x n h l (inr (inl q)) (Some k) e = inl (omega (arith, q, clock_same n k e))
    rises_by x n h l (inr (inr q)) (Some k) e = let st = stays n k l e in inr (q.0 ∙ sym (clock_same n k e), q.1 ∙ st.0 ∙ sym st.1)

    rises : (y x : ℕ) → x < y → y < many → Rises x y
    rises zero x h l = absurd (omega arith)
    rises (suc n) x h l = rises_by x n (omega arith) l (by (cases_eq x n) (λ a. rises n x (omega arith) (omega arith))) (worlds (suc n)).common.section refl
      where
        by : (x ≡ n) ⊎ (x ≡ n → ⊥) → ((x ≡ n → ⊥) → Rises x n) → (x ≡ n) ⊎ Rises x n
        by (inl e) f = inl e
        by (inr a) f = inr (f a)

    later : (x y : ℕ) → x < y → y < many → Later c y x
    later x y h l = by (rises y x h l)
      where
        by : Rises x y → Later c y x
        by (inl q) = inl q
        by (inr q) = inr (q.0, q.1, h)

    later_apart : (x y : ℕ) → x < y → y < many → (ts x ≡ ts y → ⊥) → clock_at x < clock_at y
    later_apart x y h l a = by (rises y x h l)
      where
        by : Rises x y → clock_at x < clock_at y
        by (inl q) = q
        by (inr q) = absurd (a q.1)

    -- ---- events are the turns

    below : (y : ℕ) → Executed c y → y < many
    below y i = let h = in_from many 0 y (in_of c (ts y) (from 0 many) y i).0 in omega (arith, h.1)

    executed : (y : ℕ) → y < many → Executed c y
    executed y h = of_in c (ts y) (from 0 many) y refl (from_in many 0 y (omega arith) (omega arith))

    -- ---- groups

    section_is : (n : ℕ) (b : n < many) (a : Answer) (change : Change) → worlds (suc n) ≡ after_move (worlds n) (ts n) (words_at n) (m n b) ((m n b).thread.behaves []) a change
        → (worlds (suc n)).common.section ≡ Rattle.interleave.specs.World.section_after (mode_at c n) (ts n) (worlds n).common.section
    section_is n b a change s =
        ap (λ (w : World). w.common.section) s
        ∙ ap (λ (x : Next). Rattle.interleave.specs.World.section_after (mode_by x) (ts n) (worlds n).common.section) (sym (next_is n b))

    abbrev inside : ℕ → Bool
    inside n = inside_after (mode_at c n) (is_inside (ts n) (worlds n).common.section)

    -- the section where another turn follows
    section_none : (n : ℕ) → suc n < many → inside n ≡ false → (worlds (suc n)).common.section ≡ None
    section_none n l e = by (section_next n l).own
      where
        by : ((worlds (suc n)).common.section ≡ None) ⊎ ((worlds (suc n)).common.section ≡ Some (ts n)) → (worlds (suc n)).common.section ≡ None
        by (inl q) = q
        by (inr q) = absurd (true≢false (sym (ap (is_inside (ts n)) q ∙ eq-eqb (ts n) (ts n) refl) ∙ (section_next n l).same ∙ e))

    section_some : (n : ℕ) → suc n < many → inside n ≡ true → (worlds (suc n)).common.section ≡ Some (ts n)
    section_some n l e = by (section_next n l).own
      where
        by : ((worlds (suc n)).common.section ≡ None) ⊎ ((worlds (suc n)).common.section ≡ Some (ts n)) → (worlds (suc n)).common.section ≡ Some (ts n)
        by (inr q) = q
        by (inl q) = absurd (true≢false (sym e ∙ sym (section_next n l).same ∙ ap (is_inside (ts n)) q))

    abbrev rest_of : ℕ → ℕ → List ℕ
    rest_of n left = chosen ts (ts n) (from (suc n) left)

    in_rest : (n left y : ℕ) → suc n + left ≡ many → In y (rest_of n left) → (n < y) × (y < many)
    in_rest n left y e i = let h = in_from left (suc n) y (in_of c (ts n) (from (suc n) left) y i).0 in (omega (arith, h.0), omega (arith, h.1))

    first_is : (n left y : ℕ) (ys : List ℕ) → ts (suc n) ≡ ts n → rest_of n left ≡ y ∷ ys → y ≡ suc n
    first_is n zero y ys q e = absurd (cc e)
    first_is n (suc left) y ys q e =
        let r : suc n ∷ chosen ts (ts n) (from (suc (suc n)) left) ≡ y ∷ ys =
        sym (ap (λ d. cond d (suc n ∷ chosen ts (ts n) (from (suc (suc n)) left)) (chosen ts (ts n) (from (suc (suc n)) left))) (eq-eqb (ts (suc n)) (ts n) q)) ∙ e in
        cc (sym r)

    follows_by : (n left : ℕ) → n < many → suc n + left ≡ many → (d : Bool) → inside n ≡ d → (ys : List ℕ) → rest_of n left ≡ ys → Follows c d n ys
    follows_by n left b e false q [] r = tt
    follows_by n left b e false q (y ∷ ys) r =
        let i = in_rest n left y e (subst (λ (x : List ℕ). In y x) (sym r) (inl refl)) in
        let new : clock_at (suc n) ≡ suc n = clock_new n (section_none n (omega (arith, i.0, i.1)) q) in
        (omega (arith, new, clock_le n, clock_rises (suc n) y (omega (arith, i.0))), i.0)
    follows_by n left b e true q [] r = λ y x a. by y (below y x) a (cases_order y n)
      where
        next_too : (y : ℕ) → n < y → y < many → ⊥
        next_too y h k =
            let st = stays n (ts n) (omega arith) (section_some n (omega arith) q) in
            subst (λ (x : List ℕ). In (suc n) x) r (of_in c (ts n) (from (suc n) left) (suc n) st.1 (from_in left (suc n) (suc n) (omega arith) (omega arith)))

        by : (y : ℕ) → y < many → (ts y ≡ ts n → ⊥) → (y ≡ n) ⊎ ((y < n) ⊎ (n < y)) → clock_at y < clock_at n
        by y k a (inl p) = absurd (a (ap ts p))
        by y k a (inr (inl p)) = later_apart y n p b a
        by y k a (inr (inr p)) = absurd (next_too y p k)
    follows_by n left b e true q (y ∷ ys) r =
        let i = in_rest n left y e (subst (λ (x : List ℕ). In y x) (sym r) (inl refl)) in
        let some = section_some n (omega (arith, i.0, i.1)) q in
        let st = stays n (ts n) (omega (arith, i.0, i.1)) some in
        let one : y ≡ suc n = first_is n left y ys st.1 r in
        (ap clock_at one ∙ clock_same n (ts n) some, i.0)

    abbrev GroupsFrom : ℕ → ℕ → ℕ → Type 0
    GroupsFrom n left k = Groups c (is_inside k (worlds n).common.section) (chosen ts k (from n left))

    groups_rest : (n left : ℕ) (b : n < many) → suc n + left ≡ many → GroupsFrom (suc n) left (ts n) → What n b → Groups c (inside n) (rest_of n left)
    groups_rest n left b e g (broke class o s last) = subst (λ (x : List ℕ). Groups c (inside n) x) (sym (none_left left n (ts n) last e)) tt
    groups_rest n left b e g (moved a change o s) =
        subst (λ (d : Bool). Groups c d (rest_of n left)) (ap (is_inside (ts n)) (section_is n b a change s) ∙ (next_section (ts n) (mode_at c n) (worlds n).common.section (may n b).free).same) g

    groups_other : (n left k : ℕ) (b : n < many) → suc n + left ≡ many → (ts n ≡ k → ⊥) → GroupsFrom (suc n) left k → What n b → Groups c (is_inside k (worlds n).common.section) (chosen ts k (from (suc n) left))
    groups_other n left k b e x g (broke class o s last) = subst (λ (y : List ℕ). Groups c (is_inside k (worlds n).common.section) y) (sym (none_left left n k last e)) tt
    groups_other n left k b e x g (moved a change o s) =
        subst (λ (d : Bool). Groups c d (chosen ts k (from (suc n) left)))
        (ap (is_inside k) (section_is n b a change s) ∙ outside (ts n) k (mode_at c n) (worlds n).common.section (λ q. x (sym q)) (may n b).free) g

    groups_here : (n left : ℕ) (b : n < many) → suc n + left ≡ many → GroupsFrom (suc n) left (ts n) → Groups c (is_inside (ts n) (worlds n).common.section) (n ∷ rest_of n left)
    groups_here n left b e g = (follows_by n left b e (inside n) refl (rest_of n left) refl, groups_rest n left b e g (what n b))

    groups_by : (n left k : ℕ) (b : n < many) → suc n + left ≡ many → GroupsFrom (suc n) left k
        → (d : Bool) → nat_eq (ts n) k ≡ d → Groups c (is_inside k (worlds n).common.section) (cond d (n ∷ chosen ts k (from (suc n) left)) (chosen ts k (from (suc n) left)))
    groups_by n left k b e g true d =
        let q : ts n ≡ k = eqb-true (ts n) k d in
        subst (λ (j : ℕ). Groups c (is_inside j (worlds n).common.section) (n ∷ chosen ts j (from (suc n) left))) q (groups_here n left b e (subst (GroupsFrom (suc n) left) (sym q) g))
    groups_by n left k b e g false d = groups_other n left k b e (eqb-false (ts n) k d) g (what n b)

    groups_from : (left n k : ℕ) → n + left ≡ many → GroupsFrom n left k
    groups_from zero n k e = tt
    groups_from (suc left) n k e = groups_by n left k (omega arith) (omega arith) (groups_from left (suc n) k (omega arith)) (nat_eq (ts n) k) refl

    -- ---- sources

    data Latest (n : ℕ) (p : Place) : Type 0 where
      none : value_at (worlds 0).common.memory p ≡ value_at (worlds n).common.memory p → ((y : ℕ) → y < n → WritesAt c y p → ⊥) → Latest n p
      last : (s : ℕ) → s < n → written_at c s p ≡ Some (value_at (worlds n).common.memory p) → ((y : ℕ) → s < y → y < n → WritesAt c y p → ⊥) → Latest n p

    not_now : (n : ℕ) (p : Place) (y : ℕ) → (WritesAt c n p → ⊥) → (y < n → WritesAt c y p → ⊥) → y < suc n → WritesAt c y p → ⊥
    not_now n p y x f h w = by (cases_eq y n)
      where
        by : (y ≡ n) ⊎ (y ≡ n → ⊥) → ⊥
        by (inl q) = x (subst (λ (z : ℕ). WritesAt c z p) q w)
        by (inr a) = f (omega arith) w

    extend : (n : ℕ) (p : Place) → value_at (worlds n).common.memory p ≡ value_at (worlds (suc n)).common.memory p → (WritesAt c n p → ⊥) → Latest n p → Latest (suc n) p
    extend n p v x (none q f) = none (q ∙ v) (λ y h w. not_now n p y x (f y) h w)
    extend n p v x (last s l q f) = last s (omega arith) (q ∙ ap Some v) (λ y k h w. not_now n p y x (f y k) h w)

    latest_by : (n : ℕ) (b : n < many) (p : Place) (change : Change) → change_at c n ≡ change → value_at (worlds (suc n)).common.memory p ≡ or_old (written change p) (value_at (worlds n).common.memory p)
        → Latest n p → (o : Option Value) → written change p ≡ o → Latest (suc n) p
    latest_by n b p change q v h None e =
        extend n p (sym (v ∙ ap (λ o. or_old o (value_at (worlds n).common.memory p)) e)) (λ w. let two : Some w.0 ≡ None = sym w.1 ∙ ap (λ (d : Change). written d p) q ∙ e in absurd (cc two)) h
    latest_by n b p change q v h (Some u) e =
        last n (omega arith) (ap (λ (d : Change). written d p) q ∙ e ∙ ap Some (sym (v ∙ ap (λ o. or_old o (value_at (worlds n).common.memory p)) e))) (λ y k l w. absurd (omega arith))

    latest_next : (n : ℕ) (b : n < many) (p : Place) → Latest n p → What n b → Latest (suc n) p
    latest_next n b p h (moved a change o s) =
        latest_by n b p change (ap change_by (outcome_is n b ∙ o))
        (ap (λ (w : World). value_at w.common.memory p) s ∙ value_changed (worlds n).common.memory change p (fits_here t family (worlds n) (people_at n b) (ts n) (words_at n) (m n b) (here n b).here (may n b).runs a change o))
        h (written change p) refl
    latest_next n b p h (broke class o s x) =
        extend n p (sym (ap (λ (w : World). value_at w.common.memory p) s)) (λ w. let two : Some w.0 ≡ None = sym w.1 ∙ ap (λ (y : Outcome). written (change_by y) p) (outcome_is n b ∙ o) in absurd (cc two)) h

    latest : (n : ℕ) → n ≤ many → (p : Place) → Latest n p
    latest zero b p = none refl (λ y h w. absurd (omega arith))
    latest (suc n) b p = latest_next n (omega arith) p (latest n (omega arith) p) (what n (omega arith))

    source_of : (x : ℕ) → x < many → (p : Place) → Latest x p → (o : Option ℕ) × IsSource c objects x p o
    source_of x b p (none v f) = (None, (v, λ y i w. by y w (below y i) (cases_order y x)))
      where
        by : (y : ℕ) → WritesAt c y p → y < many → (y ≡ x) ⊎ ((y < x) ⊎ (x < y)) → (y ≡ x) ⊎ Later c y x
        by y w l (inl e) = inl e
        by y w l (inr (inl h)) = absurd (f y h w)
        by y w l (inr (inr h)) = inr (later x y h l)
    source_of x b p (last s h v f) = (Some s, (executed s (omega arith), later s x h b, v, λ y i w r. by y w r (below y i) (cases_order y x)))
      where
        early : (y : ℕ) → WritesAt c y p → Later c y s → y < x → (y ≡ s) ⊎ ((y < s) ⊎ (s < y)) → ⊥
        early y w r k (inl e) = before_self c s y (sym e) (later_before c y s r)
        early y w r k (inr (inl l)) = before_once c s y (later_before c y s r) (later_before c s y (later y s l (omega arith)))
        early y w r k (inr (inr l)) = f y l k w

        by : (y : ℕ) → WritesAt c y p → Later c y s → y < many → (y ≡ x) ⊎ ((y < x) ⊎ (x < y)) → (y ≡ x) ⊎ Later c y x
        by y w r l (inl e) = inl e
        by y w r l (inr (inl k)) = absurd (early y w r k (cases_order y s))
        by y w r l (inr (inr k)) = inr (later x y k l)

    -- ---- the end of the process

    ended_stays : (mode : Mode) (ended : Bool) → ended ≡ true → ended_after mode ended ≡ true
    ended_stays Mode.exits ended e = refl
    ended_stays Mode.plain ended e = e
    ended_stays Mode.opens ended e = e
    ended_stays Mode.closes ended e = e

    ended_next : (n : ℕ) (b : n < many) → What n b → (worlds n).common.ended ≡ true → (worlds (suc n)).common.ended ≡ true
    ended_next n b (moved a change o s) e = ap (λ (w : World). w.common.ended) s ∙ ended_stays (mode_by ((m n b).thread.behaves [])) (worlds n).common.ended e
    ended_next n b (broke class o s x) e = ap (λ (w : World). w.common.ended) s ∙ e

    ended_later : (k n : ℕ) → n + k ≤ many → (worlds n).common.ended ≡ true → (worlds (n + k)).common.ended ≡ true
    ended_later zero n h e = subst (λ (x : ℕ). (worlds x).common.ended ≡ true) (let q : n ≡ n + 0 = omega arith in q) e
    ended_later (suc k) n h e = subst (λ (x : ℕ). (worlds x).common.ended ≡ true) (let q : suc (n + k) ≡ n + suc k = omega arith in q) (ended_next (n + k) (omega arith) (what (n + k) (omega arith)) (ended_later k n (omega arith) e))

    ended_exit : (n : ℕ) (b : n < many) → mode_at c n ≡ exits → suc n < many → What n b → (worlds (suc n)).common.ended ≡ true
    ended_exit n b q l (broke class o s x) = absurd (x l)
    ended_exit n b q l (moved a change o s) =
        ap (λ (w : World). w.common.ended) s ∙ ap (λ (x : Next). ended_after (mode_by x) (worlds n).common.ended) (sym (next_is n b)) ∙ ap (λ (x : Mode). ended_after x (worlds n).common.ended) q

    exits_last : (x : ℕ) → x < many → mode_at c x ≡ exits → IsLast c x
    exits_last x b q = λ y i a. by y (below y i) a (cases_order y x)
      where
        over : (y : ℕ) → x < y → y < many → ⊥
        over y h l =
            let ended : (worlds (suc x)).common.ended ≡ true = ended_exit x b q (omega arith) (what x b) in
            let still : (worlds y).common.ended ≡ true = subst (λ (z : ℕ). (worlds z).common.ended ≡ true) (let e : suc x + (y - suc x) ≡ y = omega arith in e) (ended_later (y - suc x) (suc x) (omega arith) ended) in
            true≢false (sym still ∙ (may y l).goes_on)

        by : (y : ℕ) → y < many → (ts y ≡ ts x → ⊥) → (y ≡ x) ⊎ ((y < x) ⊎ (x < y)) → clock_at y < clock_at x
        by y l a (inl e) = absurd (a (ap ts e))
        by y l a (inr (inl h)) = later_apart y x h b a
        by y l a (inr (inr h)) = absurd (over y h l)

    -- ---- all together

    coherent_by : (x y : ℕ) → x < many → y < many → (ts x ≡ ts y → ⊥) → clock_at x ≡ clock_at y → (x ≡ y) ⊎ ((x < y) ⊎ (y < x)) → ⊥
    coherent_by x y b d a q (inl e) = a (ap ts e)
    coherent_by x y b d a q (inr (inl h)) = omega (arith, q, later_apart x y h d a)
    coherent_by x y b d a q (inr (inr h)) = omega (arith, q, later_apart y x h b (λ e. a (sym e)))

    child_by : (k : ℕ) → (chosen ts (suc k) (from 0 many) ≡ []) ⊎ Created 0 many (suc k) → (c.runs (suc k) ≡ []) ⊎ IsChild c (main_member t objects) (suc k)
    child_by k (inl e) = inl e
    child_by k (inr r) = inr (record {
      creator = r.creator;
      function = r.function;
      value = r.value;
      executed = executed r.creator r.early;
      creates = r.creates;
      after = each_from (c.runs (suc k)) (λ y i. clocks y i (in_of c (suc k) (from 0 many) y i));
      run = r.run;
    })
      where
        clocks : (y : ℕ) → In y (c.runs (suc k)) → In y (from 0 many) × (ts y ≡ suc k) → clock_at r.creator < clock_at y
        clocks y i h =
            let l = in_from many 0 y h.0 in
            later_apart r.creator y (each_in (λ z. r.creator < z) (c.runs (suc k)) y r.after i) (omega (arith, l.1)) (λ e. r.apart (e ∙ h.1))

    pub is_consistent : IsConsistent c t objects
    is_consistent = record {
      owned = λ k x i. (in_of c k (from 0 many) x i).1;
      main = goes_from many 0 0 (omega arith) (main_member t objects) (lookup-insert_here 0 [] (main_member t objects));
      children = λ k. child_by k (comes_from many 0 (suc k) (omega arith) (Rattle.actions.proofs.Changes.lookup-insert_apart (suc k) 0 (λ e. absurd (omega arith)) [] (main_member t objects)));
      groups = λ k. groups_from many 0 k (omega arith);
      sources = λ x p i r. source_of x (below x i) p (latest x (omega (arith, below x i)) p);
      coherent = λ x y p i j w v a q. coherent_by x y (below x i) (below y j) a q (cases_order x y);
      exits = λ x i q. exits_last x (below x i) q;
    }

    sorted_from : (left n : ℕ) → n + left ≡ many → Sorted c (from n left)
    sorted_from zero n e = tt
    sorted_from (suc left) n e = (each_from (from (suc n) left) (λ y i. by y (in_from left (suc n) y i)), sorted_from left (suc n) (omega arith))
      where
        by : (y : ℕ) → (suc n ≤ y) × (y < suc n + left) → Before c n y
        by y h = later_before c y n (later n y (omega (arith, h.0)) (omega (arith, h.1)))

    pub is_order : IsOrder c (from 0 many)
    is_order = record {
      sorted = sorted_from many 0 (omega arith);
      only = λ x i. let h = in_from many 0 x i in executed x (omega (arith, h.1));
      all = λ x i. from_in many 0 x (omega arith) (omega (arith, below x i));
    }

    same_outcome : (n : ℕ) (b : n < many) → outcome_in (worlds n).common.memory (row_by (ts n) (own_by (ts n) (words_at n) (m n b).counts (c.next n)) (c.next n)) ≡ outcome_at c n
    same_outcome n b =
        ap (λ (x : Next). outcome_in (worlds n).common.memory (row_by (ts n) (own_by (ts n) (words_at n) (m n b).counts x) x)) (next_is n b) ∙ sym (outcome_is n b)

    plays_from : (left n : ℕ) → n + left ≡ many → Plays c inputs (worlds n) (from n left)
    plays_from zero n e = tt
    plays_from (suc left) n e = (turn_here (omega arith), plays_from left (suc n) (omega arith))
      where
        turn_here : n < many → IsTurn c inputs (worlds n) n
        turn_here b = record {
          asks = ap (option_map (λ (x : Member). x.thread.behaves [])) (here n b).here ∙ ap Some (sym (next_is n b));
          comes = subst (λ (o : Option Member). IfSome o (λ x. outcome_in (worlds n).common.memory (row_by (ts n) (own_by (ts n) (words_at n) x.counts (c.next n)) (c.next n)) ≡ outcome_at c n)) (sym (here n b).here) (same_outcome n b);
          tells = ap (λ (r : Turn × World). r.0) (turn_at n b) ∙ (λ i. turn_by (ts n) (sym (next_is n b) i) (sym (outcome_is n b) i));
        }

    pub plays_all : Plays c inputs (first_world t objects) (from 0 many)
    plays_all = plays_from many 0 (omega arith)

    pub clocks_below : (x : ℕ) → In x (from 0 many) → clock_at x < length (from 0 many)
    clocks_below x i = let h = in_from many 0 x i in omega (arith, h.1, clock_le x, length-from many 0)

    broken_by : (n : ℕ) (b : n < many) (check : Check) → turn_by (ts n) ((m n b).thread.behaves []) (comes n b) ≡ turned.Broken check → What n b → Breaks c n check
    broken_by n b check q (moved a change o s) = let two : turned.Moved ≡ turned.Broken check = sym (ap (turn_by (ts n) ((m n b).thread.behaves [])) o) ∙ q in absurd (cc two)
    broken_by n b check q (broke class o s x) =
        let same : turned.Broken (check_by (ts n) class ((m n b).thread.behaves [])) ≡ turned.Broken check = sym (ap (turn_by (ts n) ((m n b).thread.behaves [])) o) ∙ q in
        let one : check_by (ts n) class ((m n b).thread.behaves []) ≡ check = cc same in
        (class, outcome_is n b ∙ o, ap (check_by (ts n) class) (next_is n b) ∙ one)

    pub broken_at : (n : ℕ) → n < many → (check : Check) → (turn (worlds n) (ts n) inputs).0 ≡ turned.Broken check → In n (from 0 many) × Breaks c n check
    broken_at n b check q = (from_in many 0 n (omega arith) (omega arith), broken_by n b check (sym (ap (λ (r : Turn × World). r.0) (turn_at n b)) ∙ q) (what n b))
