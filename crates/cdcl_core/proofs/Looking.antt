-- What a look at the clause of a watch knows, and what it leaves.
use Rattle.std.proofs.Common.{◌≡◌, ◌≢◌, ℕ, ◌+◌, ◌<◌, ◌⊎◌, inl, inr, false, List, length, get_or, set, Some, sym, ap, ◌∙◌, subst}
use Rattle.std.specs.Prelude.{slice_get, IsSomeAnd, Contains}
use Rattle.std.specs.List.{swap_remove}
use Rattle.std.proofs.lemmas.Option.{slice_get_within, get_or_from_slice_get}
use Rattle.sat_form.specs.Satisfaction.{Literal, index_of}
use Rattle.sat_form.proofs.Propagation.{literal_cases}
use Rattle.cdcl_core.specs.declared.trail.Step.{Step}
use Rattle.cdcl_core.specs.declared.lists.Watch.{Watch}
use Rattle.cdcl_core.specs.declared.watches.Pair.{Pair}
use Rattle.cdcl_core.specs.declared.watches.Watches.{Watches}
use Rattle.cdcl_core.specs.Steps.{Course, known_truth, AreFresh}
use Rattle.cdcl_core.specs.Settled.{AreFalse}
use Rattle.cdcl_core.specs.Lists.{watches_of, pushed, removed}
use Rattle.cdcl_core.specs.Watched.{IsNotFalse, AreFalseBeside, Waits, IsListed, IsGood, AreListed, AreQuiet, IsHeld, IsFalsifiedAt, AreVisited}
use Rattle.cdcl_core.proofs.Places.{length-swap_remove}
use Rattle.cdcl_core.proofs.Listed.{IsMove, IsNewPair, AreListed-moved, watches_of-moved}
use Rattle.cdcl_core.proofs.Watching.{IsOther, AreQuiet-moved, AreVisited-moved, known_truth-falsified}

-- the clause of a watch on l, and its other watched literal
pub record IsSeen (cs : List (List Literal)) (pairs : List Pair) (lists : List (List Watch)) (l : Literal) (w : Watch) (other : Literal) : Type 0 where
  pub clause : List Literal
  pub found : slice_get cs w.number ≡ Some clause
  pub pair : Pair
  pub watched : slice_get pairs w.number ≡ Some pair
  pub stands : Contains clause other
  pub beside : other ≢ l
  pub one : (other ≡ pair.first) ⊎ (other ≡ pair.second)
  pub waits : Waits 0 (watches_of lists other) w.number

pub seen :
    (n : ℕ) (cs : List (List Literal)) (pairs : List Pair) (lists : List (List Watch)) (l : Literal) (at : ℕ) (w : Watch) (other : Literal) → AreListed n cs pairs lists →
    slice_get (watches_of lists l) at ≡ Some w →
    ((p : Pair) → slice_get pairs w.number ≡ Some p → p.first ≡ l → other ≡ p.second) →
    ((p : Pair) → slice_get pairs w.number ≡ Some p → p.first ≢ l → other ≡ p.first) → IsSeen cs pairs lists l w other
seen n cs pairs lists l at w other are stands second first =
    let good : IsGood cs pairs w = are.good l at w stands in
    let p : Pair = good.pair in
    let listed : IsListed lists w.number good.clause p = are.listed w.number good.clause p good.found good.watched good.apart in
    elim (literal_cases p.first l) [
      | inl same ↦
          let is : other ≡ p.second = second p good.watched same in
          record {
            clause = good.clause;
            found = good.found;
            pair = p;
            watched = good.watched;
            stands = subst (Contains good.clause) (sym is) listed.second;
            beside = λ e. good.apart (same ∙ sym e ∙ is);
            one = inr is;
            waits = subst (λ (x : Literal). Waits 0 (watches_of lists x) w.number) (sym is) listed.second_waits;
          }
      | inr differs ↦
          let is : other ≡ p.first = first p good.watched differs in
          record {
            clause = good.clause;
            found = good.found;
            pair = p;
            watched = good.watched;
            stands = subst (Contains good.clause) (sym is) listed.first;
            beside = λ e. differs (sym is ∙ e);
            one = inl is;
            waits = subst (λ (x : Literal). Waits 0 (watches_of lists x) w.number) (sym is) listed.first_waits;
          }
    ]

-- the clause that was read
pub read_clause : {X : Type 0} → (xs : List X) (k : ℕ) (x y : X) → slice_get xs k ≡ Some x → y ≡ get_or xs k y → y ≡ x
read_clause xs k x y found read = read ∙ get_or_from_slice_get xs k x y found

pub next_apart : (n place : ℕ) (steps : List Step) (l next : Literal) → AreFresh n steps → IsFalsifiedAt place steps l → IsNotFalse steps next → next ≢ l
next_apart n place steps l next fresh falsified open_ same = open_ (ap (known_truth steps) same ∙ known_truth-falsified n place steps l fresh falsified)

-- a clause whose literals are all false
pub conflict_at : (cs : List (List Literal)) (steps : List Step) (k : ℕ) (c : List Literal) (l : Literal) → slice_get cs k ≡ Some c → known_truth steps l ≡ Some false → AreFalseBeside steps c l → IsSomeAnd (slice_get cs k) (AreFalse steps)
conflict_at cs steps k c l found is others =
    let all : AreFalse steps c = λ m at. elim (literal_cases m l) [ inl same ↦ ap (known_truth steps) same ∙ is | inr other ↦ others m at other ] in
    subst (λ o. IsSomeAnd o (AreFalse steps)) (sym found) all

-- another literal of the clause is watched
pub record IsRewatched (old new : Watches) (l : Literal) (at : ℕ) (w : Watch) (q : Pair) (x : Watch) : Type 0 where
  pub pairs : new.pairs.items ≡ set old.pairs.items w.number q
  pub lists : new.lists ≡ removed (pushed old.lists q.second (record { number = w.number; blocker = q.first })) l at x

-- what is known where it is
pub record IsChoice (n : ℕ) (cs : List (List Literal)) (steps : List Step) (old : Watches) (place : ℕ) (l : Literal) (at : ℕ) (w : Watch) (q : Pair) : Type 0 where
  pub seen : IsSeen cs old.pairs.items old.lists l w q.first
  pub second : Contains seen.clause q.second
  pub apart : q.second ≢ q.first
  pub open_ : IsNotFalse steps q.second
  pub falsified : IsFalsifiedAt place steps l
  pub fresh : AreFresh n steps
  pub stands : slice_get (watches_of old.lists l) at ≡ Some w
  pub room : index_of l < length old.lists
  pub room_next : index_of q.second < length old.lists

move_of : (n : ℕ) (cs : List (List Literal)) (steps : List Step) (old new : Watches) (place : ℕ) (l : Literal) (at : ℕ) (w : Watch) (q : Pair) (x : Watch) →
    IsChoice n cs steps old place l at w q → IsRewatched old new l at w q x → IsMove old.lists l at w q.second (record { number = w.number; blocker = q.first }) x new.lists
move_of n cs steps old new place l at w q x choice moved =
    record {
      room = choice.room;
      room_next = choice.room_next;
      apart = next_apart n place steps l q.second choice.fresh choice.falsified choice.open_;
      stands = choice.stands;
      is = moved.lists;
    }

other_of : (n : ℕ) (cs : List (List Literal)) (steps : List Step) (old : Watches) (place : ℕ) (l : Literal) (at : ℕ) (w : Watch) (q : Pair) (choice : IsChoice n cs steps old place l at w q) →
    IsOther choice.seen.clause choice.seen.pair q
other_of n cs steps old place l at w q choice =
    record { first = choice.seen.stands; second = choice.second; apart = λ e. choice.apart (sym e); beside = choice.seen.one }

pub IsHeld-moved :
    (cs : List (List Literal)) (x : Course) (old new : Watches) (place : ℕ) (l : Literal) (at : ℕ) (w : Watch) (q : Pair) (d : Watch) →
    IsChoice x.variables cs x.steps old place l at w q → IsRewatched old new l at w q d → IsHeld cs x old → IsHeld cs x new
IsHeld-moved cs x old new place l at w q d choice moved held =
    let n : ℕ = x.variables in
    let other : IsOther choice.seen.clause choice.seen.pair q = other_of n cs x.steps old place l at w q choice in
    let is_new : IsNewPair cs old.lists l w.number choice.seen.clause q =
    record { found = choice.seen.found; first = other.first; second = other.second; apart = other.apart; beside = choice.seen.beside; waits = choice.seen.waits } in
    record {
      within = held.within;
      fresh = held.fresh;
      justified = held.justified;
      listed = subst (λ (ps : List Pair). AreListed n cs ps new.lists) (sym moved.pairs)
          (AreListed-moved n cs old.pairs.items old.lists l at w d choice.seen.clause q new.lists held.listed is_new (move_of n cs x.steps old new place l at w q d choice moved));
      quiet = subst (λ (ps : List Pair). AreQuiet cs ps x.steps) (sym moved.pairs)
          (AreQuiet-moved n cs old.pairs.items x.steps w.number choice.seen.clause choice.seen.pair q choice.fresh choice.seen.found choice.seen.watched other choice.open_ held.quiet);
    }

pub look-moved :
    (cs : List (List Literal)) (x : Course) (old new : Watches) (place : ℕ) (l : Literal) (at : ℕ) (w : Watch) (q : Pair) (d : Watch) →
    IsChoice x.variables cs x.steps old place l at w q → IsRewatched old new l at w q d → AreVisited place at cs x.steps old.pairs.items (watches_of old.lists l) →
    (length (watches_of new.lists l) + 1 ≡ length (watches_of old.lists l)) × AreVisited place at cs x.steps new.pairs.items (watches_of new.lists l)
look-moved cs x old new place l at w q d choice moved visited =
    let n : ℕ = x.variables in
    let left : watches_of new.lists l ≡ swap_remove (watches_of old.lists l) at d =
    watches_of-moved old.lists l at w q.second (record { number = w.number; blocker = q.first }) d new.lists (move_of n cs x.steps old new place l at w q d choice moved) in
    let after : AreVisited place at cs x.steps (set old.pairs.items w.number q) (swap_remove (watches_of old.lists l) at d) =
    AreVisited-moved n place at l cs x.steps old.pairs.items (watches_of old.lists l) w d choice.seen.clause choice.seen.pair q choice.fresh choice.falsified choice.stands choice.seen.found
    choice.seen.watched (other_of n cs x.steps old place l at w q choice) choice.seen.beside choice.open_ visited in (
      ap (λ (ws : List Watch). length ws + 1) left ∙ length-swap_remove (watches_of old.lists l) at d (slice_get_within (watches_of old.lists l) at w choice.stands),
      subst (λ (ps : List Pair). AreVisited place at cs x.steps ps (watches_of new.lists l)) (sym moved.pairs)
          (subst (λ (ws : List Watch). AreVisited place at cs x.steps (set old.pairs.items w.number q) ws) (sym left) after),
    )

-- the first literal of a clause that was read
pub first_stands :
    (cs : List (List Literal)) (k : ℕ) (d r ls : List Literal) (l : Literal) → slice_get cs k ≡ Some d → r ≡ get_or cs k r → ls ≡ r → slice_get ls 0 ≡ Some l → Contains d l
first_stands cs k d r ls l found read same first =
    let is : ls ≡ d = same ∙ read_clause cs k d r found read in
    let here : slice_get d 0 ≡ Some l = ap (λ x. slice_get x 0) (sym is) ∙ first in
    (0, slice_get_within d 0 l here, get_or_from_slice_get d 0 l l here)
