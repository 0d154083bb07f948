-- The run that a form gives under a valuation is a run of the file, where it agrees with the store and breaks a check.
use Rattle.std.proofs.Common.{◌≡◌, ◌<◌, ◌+◌, ◌*◌, ◌^◌, ℕ, zero, suc, true, List, [], ◌∷◌, ◌++◌, length, Option, Some, None, refl, sym, ◌∙◌, ap, subst, arith, true≢false, append_assoc, length-append, inl, inr}
use Rattle.std.specs.Prelude.{slice_index, slice_get, nat_lt, if◌then◌else◌}
use Rattle.std.proofs.lemmas.Bool.Decides.{nat_tests}
use Rattle.std.proofs.Math.Nat.{mod-eq_of_lt}
use Rattle.words.specs.BitVector.{BitVector, word}
use Rattle.words.specs.declared.check.Class.{Class}
use Rattle.words.specs.declared.check.Check.{Check}
use Rattle.words.specs.Operators.{low_bits}
use Rattle.actions.specs.Objects.{Objects}
use Rattle.actions.specs.Memory.{Change, changed}
use Rattle.actions.specs.Row.{Outcome, breaks, waits, moves}
use Rattle.actions.specs.Table.{mode_of, plain}
use Rattle.actions.specs.declared.action.Action.{Action}
use Rattle.actions.specs.declared.action.Action.TheVariants as actions
use Rattle.actions.specs.declared.action.Answer.{Answer}
use Rattle.actions.specs.declared.action.Answer.TheVariants as answers
use Rattle.actions.specs.declared.action.Next.{Next}
use Rattle.actions.specs.declared.action.Next.TheVariants.{Act, Broken}
use Rattle.actions.specs.Behaviour.{Behaviour, Program, Thread, after, accepts, has_shape, shape_of}
use Rattle.actions.specs.LocalRun.{Exchange, IsLocalRun}
use Rattle.interleave.specs.declared.counts.Counts.{Counts}
use Rattle.interleave.specs.declared.turn.Turn.{Turn}
use Rattle.interleave.specs.declared.turn.Turn.TheVariants as turned
use Rattle.interleave.specs.declared.turn.Outcome.TheVariants as ending
use Rattle.interleave.specs.Inputs.{InputLists, words_of}
use Rattle.interleave.specs.Own.{own_part, counted}
use Rattle.interleave.specs.World.{World, first_world, no_counts}
use Rattle.interleave.specs.Turn.{turn, check_of}
use Rattle.interleave.specs.Run.{run, unless_broken}
use Rattle.interleave.specs.Replay.{Replays, IsDrawnWhole, MovesTo, used_by}
use Rattle.event_forms.specs.Runs.{Run, stops, asks}
use Rattle.event_forms.specs.Forms.{Begins}
use Rattle.event_forms.specs.Accesses.{memory_of, own_by, outcome_of, class_in, has_answer, objects_behind, is_given, stored_by, unless, checked, agrees}
use Rattle.event_forms.specs.Happenings.{does, fails, words_given, happens, happened, AreDrawn}
use Rattle.event_forms.specs.Goals.{Happens}
use Rattle.event_forms.specs.Turns.{is_break, breaks as breaks_run, drawn_words, inputs_for, turns, broken_check, happenings}
use Rattle.event_forms.proofs.Told.{turns_told, check_told, words_told, others_draw, are_drawn}
use Rattle.event_forms.proofs.Stores.{left_true, right_true, IsStore}
use Rattle.event_forms.proofs.Quiet.{answer_same, IsQuietAction, quiet_mode, more, outcome_with, class_own, SameOwn, outcome_own, IsOfObjects, IsPossible, possible, IsNext, leaves}
use Rattle.event_forms.proofs.Alone.{alone, own_turn, own_happens, own, act_turn, act_happens, behind_it, moves_on, first_happens, not_below, not_zero}
use Rattle.event_forms.proofs.QuietRuns.{OnlyQuiet}
use Rattle.event_forms.proofs.Breaking.{made_counted}

-- ---- the run of a valuation is a whole local run

abbrev pub IsWhole : Behaviour → Run → Type 0
IsWhole b (stops end) = b [] ≡ end
IsWhole b (asks action line f a rest) = (b [] ≡ Act action line f) × (has_shape (shape_of action) a ≡ true) × IsWhole (after b a) rest

abbrev first_of : Run → Next
first_of (stops end) = end
first_of (asks action line f a rest) = Act action line f

begins_first : (r : Run) → Begins [] (first_of r) r
begins_first (stops end) = refl
begins_first (asks action line f a rest) = refl

pub whole : (r : Run) (b : Behaviour) → ((xs : List Exchange) (next : Next) → Begins xs next r → IsLocalRun b xs next) → IsWhole b r
whole (stops end) b locals = locals [] end refl
whole (asks action line f a rest) b locals =
    let x : Exchange = record { action = action; line = line; function = f; answer = a } in
    let is : b [] ≡ Act action line f = locals [] (Act action line f) refl in
    let first = locals (x ∷ []) (first_of rest) (refl, refl, refl, refl, begins_first rest) in
    (is, ap (λ (n : Next). accepts n a) (sym is) ∙ first.1, whole rest (after b a) (λ xs next begins. (locals (x ∷ xs) next (refl, refl, refl, refl, begins)).2))

-- ---- words

word_at : (front : List ℕ) (x : ℕ) (ys : List ℕ) → slice_index (front ++ x ∷ ys) (length front) ≡ x
word_at [] x ys = refl
word_at (w ∷ front) x ys = word_at front x ys

some_word_at : (front : List ℕ) (x : ℕ) (ys : List ℕ) → slice_get (front ++ x ∷ ys) (length front) ≡ Some x
some_word_at [] x ys = refl
some_word_at (w ∷ front) x ys = some_word_at front x ys

draw_small : (n : ℕ) (w : BitVector) → has_shape (shape_of (actions.Draw n)) (answers.Word w) ≡ true → w.bits < 2 ^ n
draw_small n w h = grind (arith, nat_tests)

low_same : (n x : ℕ) → x < 2 ^ n → low_bits n x ≡ x
unfolding low_bits
low_same n x h = mod-eq_of_lt h

used_more : (used : ℕ) (front words : List ℕ) (x : ℕ) (ys : List ℕ) → used ≡ length front → words ≡ front ++ x ∷ ys → (if nat_lt used (length words) then used + 1 else used) ≡ length (front ++ x ∷ [])
used_more used front words x ys same is = grind (arith, nat_tests, ap length is, length-append front (x ∷ ys), length-append front (x ∷ []))

append_nil : (xs : List ℕ) → xs ++ [] ≡ xs
append_nil [] = refl
append_nil (x ∷ xs) = ap (λ ys. x ∷ ys) (append_nil xs)

-- what an action takes of the words: the front grows, and where it draws there is a word, which is its answer
record Takes (words front rest : List ℕ) (counts : Counts) (objects : Objects) (next : Next) (action : Action) (a : Answer) : Type 0 where
  front' : List ℕ
  words_are : words ≡ front' ++ rest
  used_is : (counted words counts action).used ≡ length front'
  drawn : IsDrawnWhole (Some next) (slice_get words counts.used)
  same : SameOwn action (own_part 0 words counts action) (own_by objects a)

none_drawn : (next : Next) (action : Action) (line f : ℕ) (word : Option ℕ) → next ≡ Act action line f → IsDrawnWhole (Some (Act action line f)) word → IsDrawnWhole (Some next) word
none_drawn next action line f word is h = subst (λ (n : Next). IsDrawnWhole (Some n) word) (sym is) h

module _ (words front rest : List ℕ) (counts : Counts) (objects : Objects) (next : Next) (line f : ℕ) (made : counts.objects ≡ length objects) (used : counts.used ≡ length front) where
  takes : (action : Action) (a : Answer) → IsQuietAction action → next ≡ Act action line f → has_shape (shape_of action) a ≡ true → words ≡ front ++ words_given a rest → Takes words front rest counts objects next action a
  takes (actions.Draw n) (answers.Word w) quiet is shape are =
      let small = draw_small n w shape in
      record {
        front' = front ++ w.bits ∷ [];
        words_are = are ∙ sym (append_assoc front (w.bits ∷ []) rest);
        used_is = used_more counts.used front words w.bits rest used are;
        drawn = none_drawn next (actions.Draw n) line f (slice_get words counts.used) is
            (subst (λ (o : Option ℕ). IsDrawnWhole (Some (Act (actions.Draw n) line f)) o) (sym ((λ k. slice_get (are k) (used k)) ∙ some_word_at front w.bits rest)) small);
        same = ap (low_bits n) ((λ k. slice_index (are k) (used k)) ∙ word_at front w.bits rest) ∙ low_same n w.bits small;
      }
  takes (actions.Draw n) a quiet is shape are = absurd (true≢false (sym shape))
  takes (actions.Alloc o) (answers.Number k) quiet is shape are =
      record { front' = front; words_are = are; used_is = used; drawn = none_drawn next (actions.Alloc o) line f (slice_get words counts.used) is tt; same = let next_is : 0 * 65536 + (counts.objects + 1) ≡ suc (length objects) = omega (arith, made) in next_is }
  takes (actions.Alloc o) a quiet is shape are = absurd (true≢false (sym shape))
  takes (actions.Read p n) (answers.Bytes bs) quiet is shape are =
      record { front' = front; words_are = are; used_is = used; drawn = none_drawn next (actions.Read p n) line f (slice_get words counts.used) is tt; same = tt }
  takes (actions.Read p n) a quiet is shape are = absurd (true≢false (sym shape))
  takes (actions.Write p bytes first) answers.Done quiet is shape are =
      record { front' = front; words_are = are; used_is = used; drawn = none_drawn next (actions.Write p bytes first) line f (slice_get words counts.used) is tt; same = tt }
  takes (actions.Write p bytes first) a quiet is shape are = absurd (true≢false (sym shape))
  takes (actions.Look p subscript) (answers.Size n) quiet is shape are =
      record { front' = front; words_are = are; used_is = used; drawn = none_drawn next (actions.Look p subscript) line f (slice_get words counts.used) is tt; same = tt }
  takes (actions.Look p subscript) a quiet is shape are = absurd (true≢false (sym shape))
  takes (actions.Die k) answers.Done quiet is shape are =
      record { front' = front; words_are = are; used_is = used; drawn = none_drawn next (actions.Die k) line f (slice_get words counts.used) is tt; same = tt }
  takes (actions.Die k) a quiet is shape are = absurd (true≢false (sym shape))
  takes (actions.Free p) answers.Done quiet is shape are =
      record { front' = front; words_are = are; used_is = used; drawn = none_drawn next (actions.Free p) line f (slice_get words counts.used) is tt; same = tt }
  takes (actions.Free p) a quiet is shape are = absurd (true≢false (sym shape))
  takes actions.Exit answers.Done quiet is shape are =
      record { front' = front; words_are = are; used_is = used; drawn = none_drawn next actions.Exit line f (slice_get words counts.used) is tt; same = tt }
  takes actions.Exit a quiet is shape are = absurd (true≢false (sym shape))
  takes _ a quiet is shape are = absurd quiet

broken_is : (o : Outcome) (class : Class) → class_in o ≡ Some class → o ≡ breaks class
broken_is (breaks other) class is = let same : Some other ≡ Some class = is in cc
broken_is waits class is = absurd (let wrong : None ≡ Some class = is in cc)
broken_is (moves a change) class is = absurd (let wrong : None ≡ Some class = is in cc)

-- ---- and a run of the file that breaks its check in the last turn

-- a run of the file on these inputs, in which this happens
pub record Ran (inputs : InputLists) (w : World) (r : Run) : Type 0 where
  pub replays : Replays w inputs (turns r) (broken_check r)
  pub told_is : happened w inputs (turns r) ≡ happenings r

module _ (program : Program) (inputs : InputLists) (others : (t : ℕ) → words_of inputs (suc t) ≡ []) where
  abbrev words : List ℕ
  words = words_of inputs 0

  unused : (objects : Objects) (b : Behaviour) (counts : Counts) (t : ℕ) → used_by (alone objects program b counts) (suc t) ≡ 0
  unused objects b counts t = simp (not_below t, not_zero t)

  used_all : (objects : Objects) (b : Behaviour) (counts : Counts) → counts.used ≡ length words → (t : ℕ) → used_by (alone objects program b counts) t ≡ length (words_of inputs t)
  used_all objects b counts used zero = used
  used_all objects b counts used (suc t) = unused objects b counts t ∙ sym (ap length (others t))

  -- a turn that breaks the check
  replays_now : (objects : Objects) (b : Behaviour) (counts : Counts) (check : Check) → turn (alone objects program b counts) 0 inputs ≡ (turned.Broken check, alone objects program b counts) → counts.used ≡ length words
      → Replays (alone objects program b counts) inputs (0 ∷ []) check
  replays_now objects b counts check turn_is used =
      record {
        breaks = ap (λ (r : Turn × World). (unless_broken r.0 r.1 (λ next. (ending.Fine, next))).0) turn_is;
        front = [];
        last = 0;
        whole = refl;
        reached = alone objects program b counts;
        moves = refl;
        breaks_there = ap (λ (r : Turn × World). r.0) turn_is;
        drawn_all = used_all objects b counts used;
      }

  -- a turn in front of a run
  replays_behind : (w next : World) (schedule : List ℕ) (check : Check) → MovesTo inputs 0 w next → Replays next inputs schedule check → Replays w inputs (0 ∷ schedule) check
  replays_behind w next schedule check moved r =
      record {
        breaks = ap (λ (x : Turn × World). (unless_broken x.0 x.1 (λ after. run after inputs schedule)).0) moved.turn_is ∙ r.breaks;
        front = 0 ∷ r.front;
        last = r.last;
        whole = ap (λ ts. 0 ∷ ts) r.whole;
        reached = r.reached;
        moves = (next, moved, r.moves);
        breaks_there = r.breaks_there;
        drawn_all = r.drawn_all;
      }

  none_left : (counts : Counts) (front : List ℕ) → words ≡ front ++ [] → counts.used ≡ length front → counts.used ≡ length words
  none_left counts front are used = used ∙ sym (ap (λ (xs : List ℕ). length xs) (append_nil front)) ∙ sym (ap length are)

  -- a turn that breaks a check
  ran_now : (objects : Objects) (b : Behaviour) (counts : Counts) (class : Class) (line f : ℕ) → turn (alone objects program b counts) 0 inputs ≡ (turned.Broken (check_of class line f 0), alone objects program b counts)
      → happens (alone objects program b counts) 0 inputs ≡ Some (fails (check_of class line f 0)) → counts.used ≡ length words → Ran inputs (alone objects program b counts) (stops (Broken class line f))
  ran_now objects b counts class line f turn_is is used =
      let here = alone objects program b counts in
      record {
        replays = replays_now objects b counts (check_of class line f 0) turn_is used;
        told_is = first_happens here here inputs 0 [] (turned.Broken (check_of class line f 0)) (Some (fails (check_of class line f 0))) turn_is is;
      }

  ran_end : (objects : Objects) (b : Behaviour) (counts : Counts) (end : Next) → b [] ≡ end → is_break end ≡ true → counts.used ≡ length words → Ran inputs (alone objects program b counts) (stops end)
  ran_end objects b counts (Broken class line f) is broken used =
      ran_now objects b counts class line f (own_turn objects program b counts inputs (Broken class line f) is) (own_happens objects program b counts inputs (Broken class line f) is) used
  ran_end objects b counts _ is broken used = absurd (true≢false (sym broken))

  -- an action in front of a run
  ran_behind : (w next : World) (action : Action) (line f : ℕ) (a : Answer) (rest : Run) → MovesTo inputs 0 w next → happens w 0 inputs ≡ Some (does 0 action line f a) → Ran inputs next rest → Ran inputs w (asks action line f a rest)
  ran_behind w next action line f a rest moved is later =
      record {
        replays = replays_behind w next (turns rest) (broken_check rest) moved later.replays;
        told_is = first_happens w next inputs 0 (turns rest) turned.Moved (Some (does 0 action line f a)) moved.turn_is is ∙ ap (λ hs. does 0 action line f a ∷ hs) later.told_is;
      }

  -- the run that is left, whose words are behind those in front
  abbrev pub Left : Run → Objects → Behaviour → Counts → Type 0
  Left r objects b counts = (front : List ℕ) → counts.objects ≡ length objects → IsStore objects → words ≡ front ++ drawn_words r → counts.used ≡ length front → agrees objects r ≡ true → breaks_run r ≡ true → Ran inputs (alone objects program b counts) r

  module _ (objects : Objects) (b : Behaviour) (counts : Counts) (action : Action) (line f : ℕ) (a : Answer) (quiet : IsQuietAction action) (is : b [] ≡ Act action line f) (shape : has_shape (shape_of action) a ≡ true) where
    abbrev here : World
    here = alone objects program b counts

    abbrev ours : ℕ
    ours = own objects program b counts inputs action line f

    -- it moves with this answer, and the run goes on with what is left
    left_moved : mode_of action ≡ plain → (left : Run) (given : Answer) (change : Change) → outcome_of objects action a ≡ moves given change → IsOfObjects change → IsStore (objects_behind (moves given change) objects)
        → length (objects_behind (moves given change) objects) ≡ more action (length objects)
        → Left left (stored_by objects action a) (after b a) (counted words counts action) → Left (asks action line f a left) objects b counts
    left_moved mode left given change comes of store_behind long later front made store are used agreed broken =
        let told = is_given objects action a in
        let rest = agrees (stored_by objects action a) left in
        let answer_is : a ≡ given = answer_same a given (sym (ap (λ (o : Outcome). has_answer o a) comes) ∙ left_true told rest agreed) in
        let took = takes words front (drawn_words left) counts objects (b []) line f made used action a quiet is shape are in
        let ours_comes : outcome_with objects ours action ≡ moves a change = outcome_own objects action quiet ours (own_by objects a) took.same ∙ comes ∙ ap (λ (x : Answer). moves x change) (sym answer_is) in
        let stored : stored_by objects action a ≡ (changed (memory_of objects) change).objects = ap (λ (o : Outcome). objects_behind o objects) comes in
        let next = behind_it objects program b counts inputs action line f a change in
        let moved : MovesTo inputs 0 here next = record {
          turn_is = act_turn objects program b counts inputs action line f is (moves a change) ours_comes ∙ moves_on objects program b counts inputs action line f mode a change of;
          drawn = took.drawn;
        } in
        ran_behind here next action line f a left moved (act_happens objects program b counts inputs action line f is (moves a change) ours_comes)
        (subst (λ (os : Objects). Ran inputs (alone os program (after b a) (counted words counts action)) left) stored
        (later took.front' (made_counted words counts (length objects) action quiet made ∙ sym long ∙ sym (ap length stored)) (subst IsStore (sym stored) store_behind) took.words_are took.used_is (right_true told rest agreed) broken))

    -- by what comes of it
    left_by : mode_of action ≡ plain → (left : Run) (o : Outcome) → outcome_of objects action a ≡ o → IsPossible o → IsStore (objects_behind o objects) → length (objects_behind o objects) ≡ more action (length objects)
        → Left left (stored_by objects action a) (after b a) (counted words counts action) → Left (unless (class_in o) line f (asks action line f a left)) objects b counts
    left_by mode left (breaks class) comes may store_behind long later = λ front made store are used agreed broken.
        let ours_comes : outcome_with objects ours action ≡ breaks class = broken_is (outcome_with objects ours action) class (class_own objects action quiet ours (own_by objects a) ∙ ap class_in comes) in
        ran_now objects b counts class line f (act_turn objects program b counts inputs action line f is (breaks class) ours_comes) (act_happens objects program b counts inputs action line f is (breaks class) ours_comes) (none_left counts front are used)
    left_by mode left waits comes may store_behind long later = absurd may
    left_by mode left (moves given change) comes may store_behind long later = left_moved mode left given change comes may store_behind long later

  -- the number of what is made is the next one
  next_given : (objects : Objects) (action : Action) (a : Answer) → IsQuietAction action → has_shape (shape_of action) a ≡ true → IsNext objects action (own_by objects a)
  next_given objects (actions.Alloc o) (answers.Number k) quiet shape = refl
  next_given objects (actions.Alloc o) a quiet shape = absurd (true≢false (sym shape))
  next_given objects (actions.Read p n) a quiet shape = tt
  next_given objects (actions.Write p bytes first) a quiet shape = tt
  next_given objects (actions.Look p subscript) a quiet shape = tt
  next_given objects (actions.Draw n) a quiet shape = tt
  next_given objects (actions.Die k) a quiet shape = tt
  next_given objects (actions.Free p) a quiet shape = tt
  next_given objects actions.Exit a quiet shape = tt
  next_given objects _ a quiet shape = absurd quiet

  pub ran_from : (r : Run) (objects : Objects) (b : Behaviour) (counts : Counts) → OnlyQuiet r → IsWhole b r → Left (checked objects r) objects b counts
  ran_from (stops end) objects b counts only is front made store are used agreed broken = ran_end objects b counts end is broken (none_left counts front are used)
  ran_from (asks action line f a rest) objects b counts only is front made store are used agreed broken =
      let own_of = own_by objects a in
      let behind = leaves objects action only.0 store own_of (next_given objects action a only.0 is.1) in
      elim (quiet_mode action only.0) [
        | inl mode ↦ left_by objects b counts action line f a only.0 is.0 is.1 mode (checked (stored_by objects action a) rest) (outcome_of objects action a) refl (possible objects action only.0 own_of) behind.0 behind.1
            (ran_from rest (stored_by objects action a) (after b a) (counted words counts action) only.2 is.2) front made store are used agreed broken
        | inr exit ↦ absurd (true≢false (sym broken ∙ (λ i. breaks_run (checked objects (asks (exit i) line f a (only.1 exit i))))))
      ]

-- on any inputs that are the words that it draws
run_ran : (t : Thread) (objects : Objects) (r : Run) → IsStore objects → OnlyQuiet r → IsWhole t.behaves r → agrees objects (checked objects r) ≡ true → breaks_run (checked objects r) ≡ true
    → (own : InputLists) → AreDrawn own (happenings (checked objects r)) → Ran own (first_world t objects) (checked objects r)
run_ran t objects r store only is agreed broken own drawn =
    ran_from t.program own (λ n. drawn (suc n) ∙ others_draw (checked objects r) n) r objects t.behaves (record no_counts { objects = length objects }) only is [] refl store (drawn 0 ∙ words_told (checked objects r)) refl agreed broken

pub run_happens : (t : Thread) (objects : Objects) (r : Run) → IsStore objects → OnlyQuiet r → IsWhole t.behaves r → agrees objects (checked objects r) ≡ true → breaks_run (checked objects r) ≡ true
    → Happens (first_world t objects) (happenings (checked objects r)) (broken_check (checked objects r))
run_happens t objects r store only is agreed broken =
    let c = checked objects r in
    let w = first_world t objects in
    record {
      check_is = check_told c broken;
      inputs = inputs_for (drawn_words c);
      drawn = are_drawn c;
      replays = λ own drawn. subst (λ (ts : List ℕ). Replays w own ts (broken_check c)) (sym (turns_told c broken)) (run_ran t objects r store only is agreed broken own drawn).replays;
      same = λ own drawn. ap (happened w own) (turns_told c broken) ∙ (run_ran t objects r store only is agreed broken own drawn).told_is;
    }
