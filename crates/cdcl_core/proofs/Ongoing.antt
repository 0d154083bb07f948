-- A search in segments: at its start, behind a segment, and at its end.
use Rattle.std.proofs.Common.{◌≡◌, ℕ, zero, suc, inl, inr, Some, drop, append_assoc, ◌+◌, ◌-◌, ◌<◌, ◌≤◌, Bool, true, false, List, [], ◌∷◌, ◌++◌, map, length, get_or, take, refl, sym, ap, ◌∙◌, subst, arith, append-nil}
use Rattle.std.specs.Prelude.{Result, Ok, Err, IfOk, Contains, slice_get, count_by, cond}
use Rattle.std.proofs.lemmas.Bool.{cases_lt, true≢false}
use Rattle.std.proofs.lemmas.Option.{slice_get_within, get_or_from_slice_get}
use Rattle.std.proofs.lemmas.List.Elements.{Contains-append_left, Contains-append_right}
use Rattle.std.proofs.lemmas.List.{length-append}
use Rattle.std.proofs.lemmas.List.Sums.{sum_by-append, count_by-le-length}
use Rattle.sat_form.specs.Satisfaction.{Literal, Form, AreWithin, Satisfies, assignment_of}
use Rattle.sat_form.specs.Propagation.{PropagatesTo, Follows}
use Rattle.sat_form.specs.Databases.{added_clauses, deleted_numbers, numbered_clauses, database, AreEntriesWithin}
use Rattle.sat_form.specs.Refutation.{IsRefutation}
use Rattle.sat_form.specs.Budget.{IsAllowed, AreAllowed, IsSpent}
use Rattle.sat_form.specs.declared.logs.Entry.{Entry}
use Rattle.sat_form.specs.declared.logs.Entry.TheVariants.{Added, Deleted}
use Rattle.sat_form.proofs.Databases.{Contains-head, added_clauses-append}
use Rattle.sat_form.proofs.Refutations.{numbered_clauses-deleted}
use Rattle.cdcl_core.specs.declared.segments.History.{History}
use Rattle.cdcl_core.specs.declared.search.Search.{Search}
use Rattle.cdcl_core.specs.declared.search.Answer.{Answer}
use Rattle.cdcl_core.specs.declared.search.Answer.TheVariants.{Sat, Unsat, Spent}
use Rattle.cdcl_core.specs.Answers.{has_literal, unit_count, EndsAllowed, IsAnswer, AddsOnly, IsReady}
use Rattle.cdcl_core.specs.Histories.{number_by, renumbered, AreLive}
use Rattle.cdcl_core.specs.Spare.{HaveUnmarked, IsImplied, AreSpare, AreOffBelow}
use Rattle.cdcl_core.specs.SegmentEnds.{IsRest, AreKept, IsHistory}
use Rattle.cdcl_core.specs.Stores.{unmarked}
use Rattle.cdcl_core.proofs.Storing.{at_place, unmarked_keep, unmarked_skip, unmarked_all}
use Rattle.cdcl_core.proofs.Logging.{length-added_clauses}
use Rattle.cdcl_core.proofs.Histories.{same_numbered, deleted_numbers-append, front_none, joined_last, added_renumbered, live_first, live_after, live_left, deletion_allowed, AreAllowed-added, joined_allowed, joined_spent, joined_refutation, satisfies_form, within_renumbered, within_append}

none_allowed : (form : List (List Literal)) → AreAllowed form []
none_allowed form before e after is = absurd (omega (arith, ap length is, length-append before (e ∷ after)))

-- no segment yet
pub history_new :
    (form : Form) (h : History) → h.log ≡ [] → h.first ≡ length form.clauses → h.next ≡ length form.clauses → length h.numbers.items ≡ length form.clauses →
    ((k : ℕ) → k < length h.numbers.items → get_or h.numbers.items k 0 ≡ k) → AreWithin form.variables form.clauses → IsHistory form form.clauses h
history_new form h log first next count reads within =
    let empty : History = record h { log = [] } in
    let same : record h { log = h.log } ≡ empty = ap (λ (es : List Entry). let x : History = record h { log = es } in x) log in
    subst (IsHistory form form.clauses) (sym same)
    (record {
      kept = record { live = live_first form.clauses h.numbers.items count reads; allowed = none_allowed form.clauses; within = tt; clauses_within = within };
      first = first;
      next = next ∙ sym (ap length (append-nil form.clauses));
    })

-- ---- deletions, one after the other

some_is : {X : Type 0} → (x y : X) → Some x ≡ Some y → x ≡ y
some_is x y e = cc

within_without : (n : ℕ) (xs : List (List Literal)) (c : List Literal) (ys : List (List Literal)) → AreWithin n (xs ++ c ∷ ys) → AreWithin n (xs ++ ys)
within_without n [] c ys all = all.1
within_without n (x ∷ xs) c ys all = (all.0, within_without n xs c ys all.1)

drop_at : {X : Type 0} → (xs : List X) (p : ℕ) (x : X) → slice_get xs p ≡ Some x → drop p xs ≡ x ∷ drop (p + 1) xs
drop_at [] p x at = absurd (cc)
drop_at (y ∷ xs) zero x at = let same : y ≡ x = cc in λ k. same k ∷ xs
drop_at (y ∷ xs) (suc p) x at = let more : suc (p + 1) ≡ suc p + 1 = omega arith in drop_at xs p x at ∙ ap (λ k. x ∷ drop k (y ∷ xs)) more

in_drop : {X : Type 0} → (xs : List X) (p k : ℕ) (x : X) → p ≤ k → slice_get xs k ≡ Some x → Contains (drop p xs) x
in_drop xs zero k x late at = (k, slice_get_within xs k x at, get_or_from_slice_get xs k x x at)
in_drop [] (suc p) k x late at = absurd (cc)
in_drop (y ∷ xs) (suc p) zero x late at = absurd (omega (arith, late))
in_drop (y ∷ xs) (suc p) (suc k) x late at = in_drop xs p k x (omega (arith, late)) at

drop_past : {X : Type 0} → (xs : List X) (p : ℕ) → length xs ≤ p → drop p xs ≡ []
drop_past [] zero past = refl
drop_past [] (suc p) past = refl
drop_past (x ∷ xs) zero past = absurd (omega (arith, past))
drop_past (x ∷ xs) (suc p) past = drop_past xs p (omega (arith, past))

-- numbers that rise are no smaller than their places
least_number : (numbers : List ℕ) → ((j k : ℕ) → j < k → k < length numbers → get_or numbers j 0 < get_or numbers k 0) → (k : ℕ) → k < length numbers → k ≤ get_or numbers k 0
least_number numbers rising zero within = omega arith
least_number numbers rising (suc k) within = omega (arith, least_number numbers rising k (omega (arith, within)), rising k (suc k) (omega arith) within)

-- what stands where the first of the clauses were told apart
pub record Forgets (form : Form) (clauses : List (List Literal)) (spare : List Bool) (numbers : List ℕ) (total : ℕ) (log : List Entry) (left : List (List Literal)) (kept_numbers : List ℕ) (place : ℕ) : Type 0 where
  pub are : AreKept form (left ++ drop place clauses) (kept_numbers ++ drop place numbers) log
  pub fits : length kept_numbers ≡ length left
  pub stays : (k : ℕ) (d : List Literal) → k < place → slice_get clauses k ≡ Some d → get_or spare k false ≡ false → Contains left d
  pub count : length (numbered_clauses form.clauses log) ≡ total

pub forgets_start : (form : Form) (clauses : List (List Literal)) (spare : List Bool) (numbers : List ℕ) (log : List Entry) → AreKept form clauses numbers log →
    Forgets form clauses spare numbers (length (numbered_clauses form.clauses log)) log [] [] 0
forgets_start form clauses spare numbers log are = record { are = are; fits = refl; stays = λ k d early. absurd (omega (arith, early)); count = refl }

module _ (form : Form) (clauses : List (List Literal)) (spare : List Bool) (numbers : List ℕ) (total : ℕ) (log : List Entry) (left : List (List Literal)) (kept_numbers : List ℕ) (place : ℕ) (c : List Literal) (n : ℕ) (so_far : Forgets form clauses spare numbers total log left kept_numbers place) (here : slice_get clauses place ≡ Some c) (named : slice_get numbers place ≡ Some n) where
  kept_here : AreKept form (left ++ c ∷ drop (place + 1) clauses) (kept_numbers ++ n ∷ drop (place + 1) numbers) log
  kept_here = subst (λ (cs : List (List Literal)). AreKept form (left ++ cs) (kept_numbers ++ n ∷ drop (place + 1) numbers) log) (drop_at clauses place c here)
      (subst (λ (ns : List ℕ). AreKept form (left ++ drop place clauses) (kept_numbers ++ ns) log) (drop_at numbers place n named) so_far.are)

  pub forgets_keep : get_or spare place false ≡ false → Forgets form clauses spare numbers total log (left ++ c ∷ []) (kept_numbers ++ n ∷ []) (place + 1)
  forgets_keep off =
      record {
        are = subst (λ (cs : List (List Literal)). AreKept form cs ((kept_numbers ++ n ∷ []) ++ drop (place + 1) numbers) log) (sym (append_assoc left (c ∷ []) (drop (place + 1) clauses)))
            (subst (λ (ns : List ℕ). AreKept form (left ++ c ∷ drop (place + 1) clauses) ns log) (sym (append_assoc kept_numbers (n ∷ []) (drop (place + 1) numbers))) kept_here);
        fits = omega (arith, so_far.fits, length-append kept_numbers (n ∷ []), length-append left (c ∷ []));
        stays = λ k d early found unmarked.
            elim (cases_lt k place) [
              | inl before ↦ Contains-append_left left (c ∷ []) d (so_far.stays k d before found unmarked)
              | inr late ↦
                  let at : k ≡ place = omega (arith, early, late) in
                  let same_clause : c ≡ d = some_is c d (sym here ∙ ap (slice_get clauses) (sym at) ∙ found) in
                  Contains-append_right left (c ∷ []) d (subst (Contains (c ∷ [])) same_clause (Contains-head c []))
            ];
        count = so_far.count;
      }

  -- the clauses that are left have each that isn't marked
  have_unmarked : get_or spare place false ≡ true → HaveUnmarked clauses spare (left ++ drop (place + 1) clauses)
  have_unmarked marked = λ k d found unmarked.
      elim (cases_lt k place) [
        | inl before ↦ Contains-append_left left (drop (place + 1) clauses) d (so_far.stays k d before found unmarked)
        | inr late ↦ elim (cases_lt place k) [
          | inl behind ↦ Contains-append_right left (drop (place + 1) clauses) d (in_drop clauses (place + 1) k d (omega (arith, behind)) found)
          | inr at ↦
              let same_place : k ≡ place = omega (arith, late, at) in
              absurd (true≢false (sym marked ∙ ap (λ i. get_or spare i false) (sym same_place) ∙ unmarked))
        ]
      ]

  pub forgets_delete : get_or spare place false ≡ true → length form.clauses ≤ n → AreSpare clauses spare → Forgets form clauses spare numbers total (log ++ Deleted n ∷ []) left kept_numbers (place + 1)
  forgets_delete marked later spare_are =
      let implied : IsImplied clauses spare c = spare_are place c here marked in
      let given : PropagatesTo (left ++ drop (place + 1) clauses) implied.literal = implied.given (left ++ drop (place + 1) clauses) (have_unmarked marked) in
      let allowed : IsAllowed form.clauses log (Deleted n) =
      deletion_allowed form.clauses log left c (drop (place + 1) clauses) kept_numbers n (drop (place + 1) numbers) kept_here.live so_far.fits later implied.literal implied.stands given in
      record {
        are = record {
          live = live_left form.clauses log left c (drop (place + 1) clauses) kept_numbers n (drop (place + 1) numbers) kept_here.live so_far.fits later;
          allowed = AreAllowed-added form.clauses log (Deleted n) so_far.are.allowed allowed;
          within = within_append form.variables log (Deleted n ∷ []) so_far.are.within (tt, tt);
          clauses_within = within_without form.variables left c (drop (place + 1) clauses) kept_here.clauses_within;
        };
        fits = so_far.fits;
        stays = λ k d early found unmarked.
            elim (cases_lt k place) [
              | inl before ↦ so_far.stays k d before found unmarked
              | inr late ↦
                  let at : k ≡ place = omega (arith, early, late) in
                  absurd (true≢false (sym marked ∙ ap (λ i. get_or spare i false) (sym at) ∙ unmarked))
            ];
        count = ap length (numbered_clauses-deleted form.clauses log n) ∙ so_far.count;
      }

pub forgets_same : (form : Form) (clauses : List (List Literal)) (spare : List Bool) (numbers : List ℕ) (total : ℕ) (log new : List Entry) (left now : List (List Literal)) (kept_numbers kept_now : List ℕ) (place : ℕ) →
    new ≡ log → now ≡ left → kept_now ≡ kept_numbers → Forgets form clauses spare numbers total log left kept_numbers place → Forgets form clauses spare numbers total new now kept_now place
forgets_same form clauses spare numbers total log new left now kept_numbers kept_now place a b d f =
    subst (λ (x : List Entry). Forgets form clauses spare numbers total x now kept_now place) (sym a)
    (subst (λ (x : List (List Literal)). Forgets form clauses spare numbers total log x kept_now place) (sym b)
    (subst (λ (x : List ℕ). Forgets form clauses spare numbers total log left x place) (sym d) f))

pub forgets_end : (form : Form) (clauses : List (List Literal)) (spare : List Bool) (numbers : List ℕ) (total : ℕ) (log : List Entry) (left : List (List Literal)) (kept_numbers : List ℕ) (place : ℕ) →
    Forgets form clauses spare numbers total log left kept_numbers place → length clauses ≤ place → length numbers ≤ place → AreKept form left kept_numbers log
forgets_end form clauses spare numbers total log left kept_numbers place so_far past numbers_past =
    let clauses_end : left ++ drop place clauses ≡ left = ap (λ (cs : List (List Literal)). left ++ cs) (drop_past clauses place past) ∙ append-nil left in
    let numbers_end : kept_numbers ++ drop place numbers ≡ kept_numbers = ap (λ (ns : List ℕ). kept_numbers ++ ns) (drop_past numbers place numbers_past) ∙ append-nil kept_numbers in
    subst (λ (cs : List (List Literal)). AreKept form cs kept_numbers log) clauses_end (subst (λ (ns : List ℕ). AreKept form (left ++ drop place clauses) ns log) numbers_end so_far.are)

-- .. where each that isn't marked is left
abbrev LeftAt : Form → List (List Literal) → List Bool → List ℕ → ℕ → List Entry → ℕ → Type 0
LeftAt form clauses spare numbers total log place =
    Forgets form clauses spare numbers total log (unmarked (take place spare) (take place clauses)) (unmarked (take place spare) (take place numbers)) place

-- the number of a clause that may be deleted isn't one of the form's
pub deleted_later : (form : Form) (clauses : List (List Literal)) (numbers : List ℕ) (log : List Entry) (spare : List Bool) (place n : ℕ) → AreKept form clauses numbers log → AreOffBelow (length form.clauses) spare →
    get_or spare place false ≡ true → slice_get numbers place ≡ Some n → length form.clauses ≤ n
deleted_later form clauses numbers log spare place n are off marked named =
    let within : place < length numbers = slice_get_within numbers place n named in
    let least : place ≤ get_or numbers place 0 = least_number numbers are.live.rising place within in
    elim (cases_lt place (length form.clauses)) [
      | inl early ↦ absurd (true≢false (sym marked ∙ off place early))
      | inr late ↦ omega (arith, least, late, get_or_from_slice_get numbers place n 0 named)
    ]

module _ (form : Form) (clauses : List (List Literal)) (spare : List Bool) (numbers : List ℕ) (total : ℕ) (log : List Entry) (place : ℕ) (so_far : LeftAt form clauses spare numbers total log place) (within : place < length numbers) (marks : length spare ≡ length numbers) (same : length numbers ≡ length clauses) where
  clause_here : (c : List Literal) × (slice_get clauses place ≡ Some c)
  clause_here = at_place clauses place (omega (arith, within, same))

  number_here : (n : ℕ) × (slice_get numbers place ≡ Some n)
  number_here = at_place numbers place within

  mark_here : place < length spare
  mark_here = omega (arith, within, marks)

  pub forgets_off : get_or spare place false ≡ false → LeftAt form clauses spare numbers total log (place + 1)
  forgets_off off =
      let one : place + 1 ≡ suc place = omega arith in
      forgets_same form clauses spare numbers total log log _ _ _ _ (place + 1) refl
      (ap (λ k. unmarked (take k spare) (take k clauses)) one ∙ unmarked_keep spare clauses place clause_here.0 mark_here clause_here.1 off)
      (ap (λ k. unmarked (take k spare) (take k numbers)) one ∙ unmarked_keep spare numbers place number_here.0 mark_here number_here.1 off)
      (forgets_keep form clauses spare numbers total log _ _ place clause_here.0 number_here.0 so_far clause_here.1 number_here.1 off)

  pub forgets_on : (first : List Entry) → AreKept form clauses numbers first → AreOffBelow (length form.clauses) spare → AreSpare clauses spare → get_or spare place false ≡ true →
      LeftAt form clauses spare numbers total (log ++ Deleted (get_or numbers place 0) ∷ []) (place + 1)
  forgets_on first are off spare_are on =
      let one : place + 1 ≡ suc place = omega arith in
      let named : get_or numbers place 0 ≡ number_here.0 = get_or_from_slice_get numbers place number_here.0 0 number_here.1 in
      forgets_same form clauses spare numbers total _ _ _ _ _ _ (place + 1) (ap (λ n. log ++ Deleted n ∷ []) named)
      (ap (λ k. unmarked (take k spare) (take k clauses)) one ∙ unmarked_skip spare clauses place on)
      (ap (λ k. unmarked (take k spare) (take k numbers)) one ∙ unmarked_skip spare numbers place on)
      (forgets_delete form clauses spare numbers total log _ _ place clause_here.0 number_here.0 so_far clause_here.1 number_here.1 on
      (deleted_later form clauses numbers first spare place number_here.0 are off on number_here.1) spare_are)

pub forgets_log : (form : Form) (clauses : List (List Literal)) (spare : List Bool) (numbers : List ℕ) (total : ℕ) (log new : List Entry) (place : ℕ) →
    new ≡ log → LeftAt form clauses spare numbers total log place → LeftAt form clauses spare numbers total new place
forgets_log form clauses spare numbers total log new place is f = subst (λ (x : List Entry). LeftAt form clauses spare numbers total x place) (sym is) f

pub forgets_all : (form : Form) (clauses : List (List Literal)) (spare : List Bool) (numbers : List ℕ) (total : ℕ) (log : List Entry) (place : ℕ) →
    LeftAt form clauses spare numbers total log place → length numbers ≡ length clauses → length spare ≡ length numbers → length numbers ≤ place → AreKept form (unmarked spare clauses) (unmarked spare numbers) log
forgets_all form clauses spare numbers total log place f same marks past =
    let ended = forgets_end form clauses spare numbers total log _ _ place f (omega (arith, past, same)) past in
    subst (λ (cs : List (List Literal)). AreKept form cs (unmarked spare numbers) log) (unmarked_all spare clauses place (omega (arith, past, marks)) (omega (arith, past, same)))
    (subst (λ (ns : List ℕ). AreKept form (unmarked (take place spare) (take place clauses)) ns log) (unmarked_all spare numbers place (omega (arith, past, marks)) past) ended)

-- what a segment leaves that ends here
pub rest_from : (form : Form) (first n : ℕ) (s : Search) (spare : List Bool) → 0 < length s.log → length s.log < n → length spare ≡ length s.clauses → AreSpare s.clauses spare → AreOffBelow first spare → IsReady form n s →
    IsRest form first n s.clauses spare s.log
rest_from form first n s spare some room count spare_are stay ready =
    let many : length (added_clauses s.log) ≡ length s.log = length-added_clauses s.log ready.logged.live in
    record {
      clauses_are = ready.logged.numbered;
      none = ready.logged.live;
      allowed = ready.logged.allowed;
      within = ready.logged.within;
      clauses_within = subst (λ k. AreWithin k s.clauses) ready.variables ready.kept.held.within;
      some = omega (arith, some, many);
      room = omega (arith, room, many);
      count = count;
      spare_are = spare_are;
      stay = stay;
    }

-- the history behind a segment whose log was added, and whose clauses have numbers
pub history_after : (form : Form) (before clauses : List (List Literal)) (spare : List Bool) (log : List Entry) (n count : ℕ) (old joined new : History) → IsHistory form before old →
    IsRest (record { variables = form.variables; clauses = before }) (length form.clauses) n clauses spare log → joined ≡ record old { log = old.log ++ renumbered (number_by old.numbers.items old.next) log } →
    count ≡ length clauses - length old.numbers.items → new ≡ record joined { numbers = new.numbers; next = joined.next + count } → length new.numbers.items ≡ length joined.numbers.items + count →
    ((k : ℕ) → k < length new.numbers.items → get_or new.numbers.items k 0 ≡ number_by joined.numbers.items joined.next k) →
    AreKept form clauses new.numbers.items new.log × (new.first ≡ length form.clauses) × (new.next ≡ length (numbered_clauses form.clauses new.log)) × (old.next < new.next) × (new.next < old.next + n)
history_after form before clauses spare log n count old joined new is rest joined_is count_is new_is many reads =
    let f : ℕ → ℕ = number_by old.numbers.items (length (numbered_clauses form.clauses old.log)) in
    let g : ℕ → ℕ = number_by old.numbers.items old.next in
    let named : f ≡ g = ap (number_by old.numbers.items) (sym is.next) in
    let log_is : new.log ≡ old.log ++ renumbered f log =
    ap (λ (x : History). x.log) new_is ∙ ap (λ (x : History). x.log) joined_is ∙ ap (λ (h : ℕ → ℕ). old.log ++ renumbered h log) (sym named) in
    let numbers_old : joined.numbers.items ≡ old.numbers.items = ap (λ (x : History). x.numbers.items) joined_is in
    let next_old : joined.next ≡ old.next = ap (λ (x : History). x.next) joined_is in
    let longer : length clauses ≡ length before + length (added_clauses log) = ap length rest.clauses_are ∙ length-append before (added_clauses log) in
    let total : length new.numbers.items ≡ length clauses = omega (arith, many, ap length numbers_old, is.kept.live.count, count_is, longer) in
    let reads_by : (k : ℕ) → k < length new.numbers.items → get_or new.numbers.items k 0 ≡ f k = λ k within.
    reads k within ∙ ap (λ (ns : List ℕ). number_by ns joined.next k) numbers_old ∙ ap (λ m. number_by old.numbers.items m k) next_old ∙ ap (λ (h : ℕ → ℕ). h k) (sym named) in
    let live_now : AreLive form.clauses (old.log ++ renumbered f log) (before ++ added_clauses log) new.numbers.items =
    live_after form.clauses old.log before old.numbers.items is.kept.live log rest.none new.numbers.items (total ∙ ap length rest.clauses_are) reads_by in
    let kept_now : AreKept form clauses new.numbers.items new.log =
    subst (AreKept form clauses new.numbers.items) (sym log_is)
    (record {
      live = subst (λ (cs : List (List Literal)). AreLive form.clauses (old.log ++ renumbered f log) cs new.numbers.items) (sym rest.clauses_are) live_now;
      allowed = joined_allowed form.clauses old.log before old.numbers.items is.kept.live log rest.none is.kept.allowed rest.allowed;
      within = within_append form.variables old.log (renumbered f log) is.kept.within (within_renumbered form.variables f log rest.within);
      clauses_within = rest.clauses_within;
    }) in
    let next_is : new.next ≡ old.next + count = ap (λ (x : History). x.next) new_is ∙ ap (λ m. m + count) next_old in
    let added : count ≡ length (added_clauses log) = omega (arith, count_is, is.kept.live.count, longer) in
    let all : length (numbered_clauses form.clauses new.log) ≡ length (numbered_clauses form.clauses old.log) + length (added_clauses log) =
    ap (λ (x : List Entry). length (numbered_clauses form.clauses x)) log_is
    ∙ ap length (same_numbered form.clauses f old.log log)
    ∙ length-append (numbered_clauses form.clauses old.log) (added_clauses log) in (
      kept_now,
      ap (λ (x : History). x.first) new_is ∙ ap (λ (x : History). x.first) joined_is ∙ is.first,
      next_is ∙ omega (arith, is.next, added, all),
      omega (arith, next_is, added, rest.some),
      omega (arith, next_is, added, rest.room),
    )

-- ---- answers

module _ (form : Form) (clauses : List (List Literal)) (h : History) (is : IsHistory form clauses h) where
  abbrev segment : Form
  segment = record { variables = form.variables; clauses = clauses }

  abbrev by : ℕ → ℕ
  by = number_by h.numbers.items h.next

  abbrev by_count : ℕ → ℕ
  by_count = number_by h.numbers.items (length (numbered_clauses form.clauses h.log))

  same_by : by_count ≡ by
  same_by = ap (number_by h.numbers.items) (sym is.next)

  added_count : length (added_clauses h.log) ≡ h.next - h.first
  added_count = omega (arith, is.next, is.first, length-append form.clauses (added_clauses h.log))

  pub answer_sat : (n m : ℕ) (answer : Answer) (model : List Bool) → answer ≡ Sat model → IsAnswer segment n answer → (length model ≡ form.variables) × Satisfies (assignment_of model) form.clauses
  answer_sat n m answer model same given =
      let here : IsAnswer segment n (Sat model) = subst (IsAnswer segment n) same given in
      (here.0, satisfies_form form.clauses h.log clauses h.numbers.items is.kept.live (assignment_of model) here.1)

  units_joined : (es : List Entry) → unit_count (h.log ++ renumbered by es) ≤ length (added_clauses h.log) + unit_count es
  units_joined es =
      let all : unit_count (h.log ++ renumbered by es) ≡ unit_count h.log + unit_count es =
      ap (count_by has_literal) (added_clauses-append h.log (renumbered by es) ∙ ap (λ cs. added_clauses h.log ++ cs) (added_renumbered by es))
      ∙ sum_by-append (λ x. cond (has_literal x) 1 0) (added_clauses h.log) (added_clauses es) in
      omega (arith, all, count_by-le-length has_literal (added_clauses h.log))

  pub answer_unsat : (n : ℕ) (answer : Answer) (es now : List Entry) → answer ≡ Unsat es → IsAnswer segment n answer → AddsOnly answer → now ≡ h.log ++ renumbered by es →
      IsRefutation form.clauses now × (unit_count now ≤ h.next - h.first + n) × AreEntriesWithin form.variables now × EndsAllowed form.clauses now
  answer_unsat n answer es now same given adds joined =
      let here : IsAnswer segment n (Unsat es) = subst (IsAnswer segment n) same given in
      let none : deleted_numbers es ≡ [] = subst AddsOnly same adds in
      let ends : EndsAllowed clauses es = here.3 in
      let split : deleted_numbers ends.front ++ [] ≡ [] =
      sym (deleted_numbers-append ends.front (Added [] ends.hints ∷ [])) ∙ ap deleted_numbers (sym ends.ends) ∙ none in
      let front_adds : deleted_numbers ends.front ≡ [] = front_none (deleted_numbers ends.front) [] split in
      let follows : Follows (database clauses ends.front) [] = here.0.derives ends.front (Added [] ends.hints) [] ends.ends in
      let last : h.log ++ renumbered by es ≡ (h.log ++ renumbered by ends.front) ++ Added [] (map by ends.hints) ∷ [] =
      subst (λ (f : ℕ → ℕ). h.log ++ renumbered f es ≡ (h.log ++ renumbered f ends.front) ++ Added [] (map f ends.hints) ∷ []) same_by
      (joined_last form.clauses h.log clauses h.numbers.items is.kept.live ends.front (Added [] ends.hints) es ends.ends) in
      let refuted : IsRefutation form.clauses (h.log ++ renumbered by es) =
      subst (λ (f : ℕ → ℕ). IsRefutation form.clauses (h.log ++ renumbered f es)) same_by
      (subst (λ (x : List Entry). IsRefutation form.clauses (h.log ++ renumbered by_count x)) (sym ends.ends)
      (joined_refutation form.clauses h.log clauses h.numbers.items is.kept.live ends.front ends.hints front_adds is.kept.allowed ends.allowed follows)) in
      let allowed : AreAllowed form.clauses (h.log ++ renumbered by ends.front) =
      subst (λ (f : ℕ → ℕ). AreAllowed form.clauses (h.log ++ renumbered f ends.front)) same_by (joined_allowed form.clauses h.log clauses h.numbers.items is.kept.live ends.front front_adds is.kept.allowed ends.allowed) in
      subst (λ (x : List Entry). IsRefutation form.clauses x × (unit_count x ≤ h.next - h.first + n) × AreEntriesWithin form.variables x × EndsAllowed form.clauses x) (sym joined) (
        refuted,
        omega (arith, units_joined es, here.1, added_count),
        within_append form.variables h.log (renumbered by es) is.kept.within (within_renumbered form.variables by es here.2),
        record { front = h.log ++ renumbered by ends.front; hints = map by ends.hints; ends = last; allowed = allowed },
      )

  pub answer_spent : (n : ℕ) (answer : Answer) (es now : List Entry) → answer ≡ Spent es → IsAnswer segment n answer → AddsOnly answer → now ≡ h.log ++ renumbered by es →
      IsSpent form.clauses now (h.next - h.first + n) × AreEntriesWithin form.variables now
  answer_spent n answer es now same given adds joined =
      let here : IsAnswer segment n (Spent es) = subst (IsAnswer segment n) same given in
      let none : deleted_numbers es ≡ [] = subst AddsOnly same adds in
      let spent : IsSpent form.clauses (h.log ++ renumbered by es) (length (added_clauses h.log) + n) =
      subst (λ (f : ℕ → ℕ). IsSpent form.clauses (h.log ++ renumbered f es) (length (added_clauses h.log) + n)) same_by (joined_spent form.clauses h.log clauses h.numbers.items is.kept.live n es none is.kept.allowed here.0) in
      subst (λ (x : List Entry). IsSpent form.clauses x (h.next - h.first + n) × AreEntriesWithin form.variables x) (sym joined) (
        subst (λ k. IsSpent form.clauses (h.log ++ renumbered by es) (k + n)) added_count spent,
        within_append form.variables h.log (renumbered by es) is.kept.within (within_renumbered form.variables by es here.1),
      )

pub ok_then : {X E : Type 0} → (r : Result X E) (P Q : X → Type 0) → ((x : X) → P x → Q x) → IfOk r P → IfOk r Q
ok_then (Ok x) P Q f h = f x h
ok_then (Err e) P Q f h = h

-- the clauses of the form come first
pub first_within : (form : Form) (clauses : List (List Literal)) (h : History) → IsHistory form clauses h → h.first ≤ h.next
first_within form clauses h is = omega (arith, is.first, is.next, length-append form.clauses (added_clauses h.log))
