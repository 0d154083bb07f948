-- What an event adds to what is collected.
use Rattle.std.proofs.Common.{◌≡◌, ◌<◌, ◌≤◌, ◌+◌, ◌*◌, ◌-◌, ℕ, zero, suc, Bool, true, false, List, [], ◌∷◌, ◌++◌, length, get_or, map, take, drop, refl, sym, ◌∙◌, ap, subst, arith, true≢false, append_assoc, inl, inr}
use Rattle.std.specs.Prelude.{min, Option, Some, None, option_map, if◌then◌else◌}
use Rattle.std.proofs.Math.Seq.{drop-cons}
use Rattle.std.proofs.lemmas.Bool.{cases_lt}
use Rattle.std.proofs.lemmas.List.{length-map, drop_all, take_all}
use Rattle.words.specs.Operators.{low_bits}
use Rattle.words.specs.declared.check.Class.{Class}
use Rattle.words.specs.declared.check.Check.{Check}
use Rattle.word_dag.specs.declared.nodes.Id.{Id}
use Rattle.word_dag.specs.declared.nodes.Node.{Node}
use Rattle.word_dag.specs.Meaning.{value, holds}
use Rattle.actions.specs.Pointer.{object_of}
use Rattle.actions.specs.Objects.{Objects, with_new, with_dead, break_in, write_break, after_write, free_break, after_free}
use Rattle.actions.specs.declared.action.Action.{Action}
use Rattle.actions.specs.declared.action.Action.TheVariants as actions
use Rattle.actions.specs.declared.action.Answer.{Answer}
use Rattle.actions.specs.declared.action.Answer.TheVariants as answers
use Rattle.actions.specs.declared.action.Next.TheVariants.{Ended, Blocked, Broken}
use Rattle.actions.specs.Behaviour.{word_64}
use Rattle.c_values.specs.Variables.{word_count, drawn_count}
use Rattle.c_values.specs.MadeObjects.{made_of}
use Rattle.words.specs.BitVector.{word}
use Rattle.interleave.specs.Turn.{check_of}
use Rattle.event_forms.specs.declared.forms.Event.{Event}
use Rattle.event_forms.specs.declared.forms.EventKind.TheVariants as kinds
use Rattle.event_forms.specs.Runs.{Run, stops, asks, bytes_of_words}
use Rattle.event_forms.specs.Arrivals.{Seen, asked, stopped}
use Rattle.event_forms.specs.Forms.{Form, draws_seen, kind_seen, event_seen, seen}
use Rattle.event_forms.specs.Formulas.{run_of}
use Rattle.event_forms.specs.Accesses.{access_class, stored_by, unless, behind}
use Rattle.event_forms.specs.Happenings.{words_given}
use Rattle.event_forms.specs.Turns.{breaks, drawn_words, turns}
use Rattle.event_forms.proofs.Accesses.{read_class, read_stored, write_class, write_stored}
use Rattle.trace_build.proofs.Objects.{look_stored, die_stored, free_class, free_stored}
use Rattle.event_forms.proofs.Behind.{store_at, store_next}
use Rattle.trace_build.specs.declared.walking.Walk.{Walk}
use Rattle.trace_build.specs.Walking.{IsWalk, IsEnd, WalksOn, run_from, Steps, Accesses, cut_words, turns_for}

abbrev pub end : Run
end = stops (Ended (word_64 0))

append_nil : (xs : List ℕ) → xs ++ [] ≡ xs
append_nil [] = refl
append_nil (x ∷ xs) = ap (λ ys. x ∷ ys) (append_nil xs)

-- ---- nothing is told

pub steps_none : (told : List Seen) (w : Walk) → told ≡ [] → Steps told None w w
steps_none told w none = subst (λ (s : List Seen). Steps s None w w) (sym none) (record { store_is = refl; goes = λ whole more walk. walk })

-- ---- the end of the run

-- one at which no check is broken
pub steps_fine : (told : List Seen) (w n : Walk) → ((more : List Seen) → (whole : Run) → IsWalk whole (run_from w.store (told ++ more)) w.words.items w.turns.items → ⊥) → n.store ≡ behind w.store told → Steps told None w n
steps_fine told w n never stored = record { store_is = stored; goes = λ whole more walk. absurd (never more whole walk) }

pub steps_exit : (line f : ℕ) (w : Walk) → Steps (asked actions.Exit line f answers.Done ∷ stopped (Ended (word_64 0)) ∷ []) None w w
steps_exit line f w = record { store_is = refl; goes = λ whole more walk. absurd (true≢false (sym walk.breaks_later)) }

pub steps_assumed : (b : Bool) (w : Walk) → Steps (if b then stopped Blocked ∷ [] else []) None w w
steps_assumed true w = record { store_is = refl; goes = λ whole more walk. absurd (true≢false (sym walk.breaks_later)) }
steps_assumed false w = record { store_is = refl; goes = λ whole more walk. walk }

pub steps_broken : (told : List Seen) (found : Option Check) (w n : Walk) (class : Class) (line f : ℕ) → told ≡ stopped (Broken class line f) ∷ [] → found ≡ Some (check_of class line f 0) → n.store ≡ w.store → n.words.items ≡ w.words.items → n.turns.items ≡ w.turns.items ++ 0 ∷ [] → Steps told found w n
steps_broken told found w n class line f told_is found_is stored same_words same_turns =
    let goes : (whole : Run) (more : List Seen) → IsWalk whole (run_from w.store (stopped (Broken class line f) ∷ more)) w.words.items w.turns.items → IsEnd whole n.words.items n.turns.items (check_of class line f 0) =
    λ whole more walk. record { words_are = same_words ∙ sym (append_nil w.words.items) ∙ walk.words_are; turns_are = same_turns ∙ walk.turns_are; check_is = walk.check_is } in
    subst (λ (s : List Seen). Steps s found w n) (sym told_is) (subst (λ (c : Option Check). Steps (stopped (Broken class line f) ∷ []) c w n) (sym found_is) (record { store_is = stored; goes = goes }))

-- ---- an action

goes_on : (c : Option Class) (whole rest : Run) (action : Action) (line f : ℕ) (a : Answer) (words schedule words' schedule' : List ℕ) → ((drawn : List ℕ) → words_given a drawn ≡ drawn)
    → words' ≡ words → schedule' ≡ schedule ++ 0 ∷ [] → IsWalk whole (unless c line f (asks action line f a rest)) words schedule
    → WalksOn (option_map (λ class. check_of class line f 0) c) whole rest words' schedule'
goes_on None whole rest action line f a words schedule words' schedule' none same_words same_turns walk =
    record {
      breaks_later = walk.breaks_later;
      words_are = (λ i. same_words i ++ sym (none (drawn_words rest)) i) ∙ walk.words_are;
      turns_are = ap (λ (xs : List ℕ). xs ++ turns rest) same_turns ∙ append_assoc schedule (0 ∷ []) (turns rest) ∙ walk.turns_are;
      check_is = walk.check_is;
    }
goes_on (Some class) whole rest action line f a words schedule words' schedule' none same_words same_turns walk =
    record { words_are = same_words ∙ sym (append_nil words) ∙ walk.words_are; turns_are = same_turns ∙ walk.turns_are; check_is = walk.check_is }

pub steps_accessed : (told : List Seen) (class : Option Class) (found : Option Check) (w m n : Walk) (line f : ℕ) → Accesses line f told w.store m.store class → found ≡ option_map (λ c. check_of c line f 0) class → m.words.items ≡ w.words.items → m.turns.items ≡ w.turns.items
    → n.store ≡ m.store → n.words.items ≡ m.words.items → n.turns.items ≡ m.turns.items ++ 0 ∷ [] → Steps told found w n
steps_accessed [] class found w m n line f h found_is words_kept turns_kept stored same_words same_turns = absurd h
steps_accessed (stopped last ∷ told) class found w m n line f h found_is words_kept turns_kept stored same_words same_turns = absurd h
steps_accessed (asked action l g a ∷ (more ∷ told)) class found w m n line f h found_is words_kept turns_kept stored same_words same_turns = absurd h
steps_accessed (asked action l g a ∷ []) class found w m n line f h found_is words_kept turns_kept stored same_words same_turns =
    let all_turns : n.turns.items ≡ w.turns.items ++ 0 ∷ [] = same_turns ∙ ap (λ (xs : List ℕ). xs ++ 0 ∷ []) turns_kept in
    let stored_is : n.store ≡ stored_by w.store action a = stored ∙ h.3 in
    let is : found ≡ option_map (λ c. check_of c l g 0) (access_class w.store action a) = found_is ∙ (λ i. option_map (λ c. check_of c (sym h.0 i) (sym h.1 i) 0) (h.2 i)) in
    record {
      store_is = stored_is;
      goes = λ whole later walk.
          subst (λ (os : Objects). WalksOn found whole (run_from os later) n.words.items n.turns.items) (sym stored_is)
          (subst (λ (c : Option Check). WalksOn c whole (run_from (stored_by w.store action a) later) n.words.items n.turns.items) (sym is)
          (goes_on (access_class w.store action a) whole (run_from (stored_by w.store action a) later) action l g a w.words.items w.turns.items n.words.items n.turns.items h.4 (same_words ∙ words_kept) all_turns walk));
    }

-- ---- what each does

module _ (v : ℕ → ℕ) (d : List Node) (objects : Objects) (line f : ℕ) where
  pub accesses_read : (pointer : Id) (count : ℕ) (answer : List Id) (class : Option Class) → class ≡ break_in objects false (value v d pointer) count → Accesses line f (kind_seen v d line f (kinds.Read pointer count answer)) objects objects class
  accesses_read pointer count answer class is =
      let a = answers.Bytes (bytes_of_words count (map (value v d) answer)) in
      (refl, refl, is ∙ sym (read_class objects (value v d pointer) count a), sym (read_stored objects (value v d pointer) count a), λ words. refl)

  pub accesses_written : (pointer : Id) (bytes : List Id) (first : Bool) (new : Objects) (class : Option Class) → class ≡ write_break objects (value v d pointer) (map (value v d) bytes) first → new ≡ after_write objects (value v d pointer) (map (value v d) bytes) first
      → Accesses line f (kind_seen v d line f (kinds.Write pointer bytes first)) objects new class
  accesses_written pointer bytes first new class is behind_is =
      let p = value v d pointer in
      let xs = map (value v d) bytes in
      (refl, refl, is ∙ sym (write_class objects p xs first answers.Done), behind_is ∙ sym (write_stored objects p xs first answers.Done), λ words. refl)

  pub accesses_looked : (pointer : Id) (subscript : Bool) (answer : Id) (class : Option Class) → ((a : Answer) → class ≡ access_class objects (actions.Look (value v d pointer) subscript) a) → Accesses line f (kind_seen v d line f (kinds.Look pointer subscript answer)) objects objects class
  accesses_looked pointer subscript answer class is =
      let a = answers.Size (value v d answer) in
      (refl, refl, is a, sym (look_stored objects (value v d pointer) subscript a), λ words. refl)

  pub accesses_made : (size : Id) (bytes : List Id) (readonly heap : Bool) (answer : Id) (new : Objects) → new ≡ with_new objects (suc (length objects)) (made_of readonly heap (take (value v d size) (map (value v d) bytes)))
      → Accesses line f (kind_seen v d line f (kinds.Alloc size bytes readonly heap answer)) objects new None
  accesses_made size bytes readonly heap answer new is = (refl, refl, refl, is, λ words. refl)

  pub accesses_died : (pointer : Id) (new : Objects) → new ≡ with_dead objects (object_of (value v d pointer)) → Accesses line f (kind_seen v d line f (kinds.Die pointer)) objects new None
  accesses_died pointer new is = (refl, refl, refl, is ∙ sym (die_stored objects (object_of (value v d pointer)) answers.Done), λ words. refl)

  pub accesses_freed : (pointer : Id) (new : Objects) (class : Option Class) → class ≡ free_break objects (value v d pointer) → new ≡ after_free objects (value v d pointer) → Accesses line f (kind_seen v d line f (kinds.Free pointer)) objects new class
  accesses_freed pointer new class is behind_is =
      let p = value v d pointer in
      (refl, refl, is ∙ sym (free_class objects p answers.Done), behind_is ∙ sym (free_stored objects p answers.Done), λ words. refl)

-- the first bytes of an object
map_take : (g : Id → ℕ) (n : ℕ) (ids : List Id) → map g (take n ids) ≡ take n (map g ids)
map_take g zero ids = refl
map_take g (suc n) [] = refl
map_take g (suc n) (i ∷ ids) = ap (λ xs. g i ∷ xs) (map_take g n ids)

pub first_bytes : (g : Id → ℕ) (size count : ℕ) (ids : List Id) → count ≡ min size (length ids) → map g (take count ids) ≡ take size (map g ids)
first_bytes g size count ids is = map_take g count ids ∙ by
  where
    long : length (map g ids) ≡ length ids
    long = length-map ids g

    by : take count (map g ids) ≡ take size (map g ids)
    by = elim (cases_lt size (length ids)) [
      | inl below ↦ ap (λ k. take k (map g ids)) (let same : count ≡ size = omega (arith, is, below) in same)
      | inr above ↦ take_all count (map g ids) (omega (arith, is, above, long)) ∙ sym (take_all size (map g ids) (omega (arith, above, long)))
    ]

-- ---- draws

pub steps_drawn : (bits x line f : ℕ) (w n : Walk) → n.store ≡ w.store → n.words.items ≡ w.words.items ++ x ∷ [] → n.turns.items ≡ w.turns.items ++ 0 ∷ [] → Steps (asked (actions.Draw bits) line f (answers.Word (word bits x)) ∷ []) None w n
steps_drawn bits x line f w n stored same_words same_turns = record {
  store_is = stored;
  goes = λ whole more walk.
      let rest = run_from w.store more in
      subst (λ (os : Objects). IsWalk whole (run_from os more) n.words.items n.turns.items) (sym stored) (record {
        breaks_later = walk.breaks_later;
        words_are = ap (λ (xs : List ℕ). xs ++ drawn_words rest) same_words ∙ append_assoc w.words.items (x ∷ []) (drawn_words rest) ∙ walk.words_are;
        turns_are = ap (λ (xs : List ℕ). xs ++ turns rest) same_turns ∙ append_assoc w.turns.items (0 ∷ []) (turns rest) ∙ walk.turns_are;
        check_is = walk.check_is;
      });
}

-- what is left of a walk behind so many draws
draws_go : (line f k size offset : ℕ) (ws : List ℕ) (objects : Objects) (whole : Run) (more : List Seen) (words schedule : List ℕ) → IsWalk whole (run_from objects (draws_seen line f k size offset ws ++ more)) words schedule
    → IsWalk whole (run_from objects more) (words ++ cut_words k size offset ws) (schedule ++ turns_for (cut_words k size offset ws))
draws_go line f zero size offset ws objects whole more words schedule walk =
    record { breaks_later = walk.breaks_later; words_are = ap (λ (xs : List ℕ). xs ++ drawn_words (run_from objects more)) (append_nil words) ∙ walk.words_are; turns_are = ap (λ (xs : List ℕ). xs ++ turns (run_from objects more)) (append_nil schedule) ∙ walk.turns_are; check_is = walk.check_is }
draws_go line f (suc k) size offset [] objects whole more words schedule walk =
    record { breaks_later = walk.breaks_later; words_are = ap (λ (xs : List ℕ). xs ++ drawn_words (run_from objects more)) (append_nil words) ∙ walk.words_are; turns_are = ap (λ (xs : List ℕ). xs ++ turns (run_from objects more)) (append_nil schedule) ∙ walk.turns_are; check_is = walk.check_is }
draws_go line f (suc k) size offset (w ∷ ws) objects whole more words schedule walk =
    let x = low_bits (8 * drawn_count size offset) w in
    let later = cut_words k size (offset + 8) ws in
    let rest = run_from objects (draws_seen line f k size (offset + 8) ws ++ more) in
    let one : IsWalk whole rest (words ++ x ∷ []) (schedule ++ 0 ∷ []) = record {
      breaks_later = walk.breaks_later;
      words_are = append_assoc words (x ∷ []) (drawn_words rest) ∙ walk.words_are;
      turns_are = append_assoc schedule (0 ∷ []) (turns rest) ∙ walk.turns_are;
      check_is = walk.check_is;
    } in
    subst (λ (xs : List ℕ). IsWalk whole (run_from objects more) xs (schedule ++ (0 ∷ turns_for later))) (append_assoc words (x ∷ []) later)
    (subst (λ (xs : List ℕ). IsWalk whole (run_from objects more) ((words ++ x ∷ []) ++ later) xs) (append_assoc schedule (0 ∷ []) (turns_for later))
    (draws_go line f k size (offset + 8) ws objects whole more (words ++ x ∷ []) (schedule ++ 0 ∷ []) one))

draws_store : (line f k size offset : ℕ) (ws : List ℕ) (objects : Objects) → behind objects (draws_seen line f k size offset ws) ≡ objects
draws_store line f zero size offset ws objects = refl
draws_store line f (suc k) size offset [] objects = refl
draws_store line f (suc k) size offset (w ∷ ws) objects = draws_store line f k size (offset + 8) ws objects

pub steps_filled : (line f k size : ℕ) (ws : List ℕ) (w n : Walk) → n.store ≡ w.store → n.words.items ≡ w.words.items ++ cut_words k size 0 ws → n.turns.items ≡ w.turns.items ++ turns_for (cut_words k size 0 ws) → Steps (draws_seen line f k size 0 ws) None w n
steps_filled line f k size ws w n stored same_words same_turns = record {
  store_is = stored ∙ sym (draws_store line f k size 0 ws w.store);
  goes = λ whole more walk.
      subst (λ (os : Objects). IsWalk whole (run_from os more) n.words.items n.turns.items) (sym stored)
      (subst (λ (xs : List ℕ). IsWalk whole (run_from w.store more) xs n.turns.items) (sym same_words)
      (subst (λ (xs : List ℕ). IsWalk whole (run_from w.store more) (w.words.items ++ cut_words k size 0 ws) xs) (sym same_turns) (draws_go line f k size 0 ws w.store whole more w.words.items w.turns.items walk)));
}

pub steps_fill : (v : ℕ → ℕ) (d : List Node) (line f : ℕ) (count : Id) (most size : ℕ) (words own : List Id) (w n : Walk) → size ≡ min (value v d count) most → own ≡ words → n.store ≡ w.store → n.words.items ≡ w.words.items ++ cut_words (word_count size) size 0 (map (value v d) own)
    → n.turns.items ≡ w.turns.items ++ turns_for (cut_words (word_count size) size 0 (map (value v d) own)) → Steps (kind_seen v d line f (kinds.Fill count most words)) None w n
steps_fill v d line f count most size words own w n size_is own_is stored same_words same_turns =
    subst (λ (k : ℕ). Steps (draws_seen line f (word_count k) k 0 (map (value v d) words)) None w n) size_is
    (subst (λ (ids : List Id). Steps (draws_seen line f (word_count size) size 0 (map (value v d) ids)) None w n) own_is (steps_filled line f (word_count size) size (map (value v d) own) w n stored same_words same_turns))

-- ---- an event, by its guard

pub steps_silent : (v : ℕ → ℕ) (d : List Node) (e : Event) (w : Walk) → holds (value v d e.guard) ≡ false → Steps (event_seen v d e) None w w
steps_silent v d e w off = steps_none (event_seen v d e) w (ap (λ (b : Bool). if b then kind_seen v d e.line e.function e.kind else []) off)

pub steps_told : (v : ℕ → ℕ) (d : List Node) (e : Event) (found : Option Check) (w n : Walk) → holds (value v d e.guard) ≡ true → Steps (kind_seen v d e.line e.function e.kind) found w n → Steps (event_seen v d e) found w n
steps_told v d e found w n on steps = subst (λ (s : List Seen). Steps s found w n) (sym (ap (λ (b : Bool). if b then kind_seen v d e.line e.function e.kind else []) on)) steps

-- ---- the words of draws, one by one

none_cut : (k size offset : ℕ) (ws : List ℕ) → k ≡ 0 → cut_words k size offset ws ≡ []
none_cut zero size offset ws is = refl
none_cut (suc k) size offset ws is = absurd (let wrong : suc k ≡ 0 = is in omega (arith, wrong))

no_words : (k size offset : ℕ) (ws : List ℕ) → ws ≡ [] → cut_words k size offset ws ≡ []
no_words zero size offset ws is = refl
no_words (suc k) size offset [] is = refl
no_words (suc k) size offset (w ∷ ws) is = absurd (let wrong : w ∷ ws ≡ [] = is in cc)

pub cutting_more : (n size i x : ℕ) (ws words more : List ℕ) → i < n → i < length ws → x ≡ low_bits (8 * drawn_count size (8 * i)) (get_or ws i 0) → more ≡ words ++ x ∷ []
    → words ++ cut_words (n - i) size (8 * i) (drop i ws) ≡ cut_words n size 0 ws → more ++ cut_words (n - (i + 1)) size (8 * (i + 1)) (drop (i + 1) ws) ≡ cut_words n size 0 ws
cutting_more n size i x ws words more lt there is more_is so_far =
    let fewer : n - i ≡ suc (n - (i + 1)) = omega (arith, lt) in
    let next : 8 * (i + 1) ≡ 8 * i + 8 = omega arith in
    let one : i + 1 ≡ suc i = omega arith in
    let m = n - (i + 1) in
    let later = cut_words m size (8 * i + 8) (drop (suc i) ws) in
    (λ j. more_is j ++ cut_words m size (next j) (drop (one j) ws))
    ∙ append_assoc words (x ∷ []) later
    ∙ (λ j. words ++ (is j ∷ later))
    ∙ ap (λ (xs : List ℕ). words ++ cut_words (suc m) size (8 * i) xs) (sym (drop-cons ws i 0 there))
    ∙ ap (λ k. words ++ cut_words k size (8 * i) (drop i ws)) (sym fewer)
    ∙ so_far

pub cutting_done : (n size i : ℕ) (ws words : List ℕ) → min n (length ws) ≤ i → words ++ cut_words (n - i) size (8 * i) (drop i ws) ≡ cut_words n size 0 ws → words ≡ cut_words n size 0 ws
cutting_done n size i ws words done so_far = sym (append_nil words) ∙ ap (λ (xs : List ℕ). words ++ xs) (sym none) ∙ so_far
  where
    none : cut_words (n - i) size (8 * i) (drop i ws) ≡ []
    none = elim (cases_lt i n) [
      | inl below ↦ no_words (n - i) size (8 * i) (drop i ws) (drop_all i ws (omega (arith, done, below)))
      | inr above ↦ none_cut (n - i) size (8 * i) (drop i ws) (omega (arith, above))
    ]

-- ---- all events

-- the walk is at this event
pub record Walking (v : ℕ → ℕ) (d : List Node) (f : Form) (w : Walk) (i : ℕ) : Type 0 where
  pub store_is : w.store ≡ store_at f.store d f.events i v
  pub walk : IsWalk (run_of v d f) (run_from w.store (seen v d (drop i f.events))) w.words.items w.turns.items

module _ (v : ℕ → ℕ) (d : List Node) (f : Form) where
  pub walking_start : (w : Walk) → breaks (run_of v d f) ≡ true → w.store ≡ f.store → w.words.items ≡ [] → w.turns.items ≡ [] → Walking v d f w 0
  walking_start w broken store none no_turns =
      let at_start : IsWalk (run_of v d f) (run_of v d f) [] [] = record { breaks_later = broken; words_are = refl; turns_are = refl; check_is = refl } in
      record {
        store_is = store;
        walk = subst (λ (os : Objects). IsWalk (run_of v d f) (run_from os (seen v d f.events)) w.words.items w.turns.items) (sym store)
            (subst (λ (xs : List ℕ). IsWalk (run_of v d f) (run_of v d f) xs w.turns.items) (sym none) (subst (λ (xs : List ℕ). IsWalk (run_of v d f) (run_of v d f) [] xs) (sym no_turns) at_start));
      }

  module _ (w n : Walk) (i : ℕ) (ev : Event) (found : Option Check) (there : i < length f.events) (is : ev ≡ get_or f.events i ev) (at : Walking v d f w i) (steps : Steps (event_seen v d ev) found w n) where
    abbrev later : List Event
    later = drop (suc i) f.events

    first : drop i f.events ≡ ev ∷ later
    first = drop-cons f.events i ev there ∙ ap (λ (k : Event). k ∷ later) (sym is)

    gone : WalksOn found (run_of v d f) (run_from n.store (seen v d later)) n.words.items n.turns.items
    gone = steps.goes (run_of v d f) (seen v d later) (subst (λ (es : List Event). IsWalk (run_of v d f) (run_from w.store (seen v d es)) w.words.items w.turns.items) first at.walk)

    pub walking_next : None ≡ found → Walking v d f n (i + 1)
    walking_next none =
        let one : suc i ≡ i + 1 = omega arith in
        record {
          store_is = steps.store_is ∙ ap (λ (os : Objects). behind os (event_seen v d ev)) at.store_is ∙ sym (store_next f.store v d f.events i ev there is);
          walk = subst (λ (k : ℕ). IsWalk (run_of v d f) (run_from n.store (seen v d (drop k f.events))) n.words.items n.turns.items) one
              (subst (λ (c : Option Check). WalksOn c (run_of v d f) (run_from n.store (seen v d later)) n.words.items n.turns.items) (sym none) gone);
        }

    pub walking_ends : (check : Check) → Some check ≡ found → IsEnd (run_of v d f) n.words.items n.turns.items check
    walking_ends check some = subst (λ (c : Option Check). WalksOn c (run_of v d f) (run_from n.store (seen v d later)) n.words.items n.turns.items) (sym some) gone

  -- behind all events nothing is left
  pub walking_over : {P : Type 0} (w : Walk) (i : ℕ) → length f.events ≤ i → Walking v d f w i → P
  walking_over w i done at =
      let over = subst (λ (es : List Event). IsWalk (run_of v d f) (run_from w.store (seen v d es)) w.words.items w.turns.items) (drop_all i f.events done) at.walk in
      absurd (true≢false (sym over.breaks_later))
