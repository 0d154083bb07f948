-- Another blocker of a watch.
use Rattle.std.proofs.Common.{◌≡◌, ◌≢◌, ℕ, ◌+◌, ◌<◌, ◌≤◌, inl, inr, List, length, set, Some, sym, ap, ◌∙◌, subst}
use Rattle.std.specs.Prelude.{slice_get, Contains}
use Rattle.std.proofs.lemmas.Bool.{cases_eq}
use Rattle.std.proofs.lemmas.List.{length-set}
use Rattle.std.proofs.lemmas.Option.{slice_get_within}
use Rattle.sat_form.specs.Satisfaction.{Literal, index_of}
use Rattle.sat_form.proofs.Propagation.{literal_cases}
use Rattle.cdcl_core.specs.declared.trail.Step.{Step}
use Rattle.cdcl_core.specs.declared.lists.Watch.{Watch}
use Rattle.cdcl_core.specs.declared.watches.Pair.{Pair}
use Rattle.cdcl_core.specs.declared.watches.Watches.{Watches}
use Rattle.cdcl_core.specs.Steps.{Course}
use Rattle.cdcl_core.specs.Lists.{watches_of, with_watches}
use Rattle.cdcl_core.specs.Watched.{HasTrue, Waits, IsListed, IsGood, AreListed, IsHeld, AreVisited}
use Rattle.cdcl_core.proofs.Places.{slice_get-one, slice_get-set_same, slice_get-set_other}
use Rattle.cdcl_core.proofs.Listed.{watches_of-same, watches_of-other}
use Rattle.cdcl_core.proofs.Watching.{AreVisited-kept}

-- a clause still waits where one of its watches has another blocker
Waits-set : (ws : List Watch) (at : ℕ) (w v : Watch) (f k : ℕ) → slice_get ws at ≡ Some w → v.number ≡ w.number → Waits f ws k → Waits f (set ws at v) k
Waits-set ws at w v f k stands same waits =
    elim (cases_eq waits.place at) [
      | inl here ↦
          let is : w ≡ waits.watch = slice_get-one ws at w waits.watch stands (ap (slice_get ws) (sym here) ∙ waits.is) in
          record {
            place = at;
            after = subst (λ i. f ≤ i) here waits.after;
            watch = v;
            is = slice_get-set_same ws at v (slice_get_within ws at w stands);
            of = same ∙ ap (λ (y : Watch). y.number) is ∙ waits.of;
          }
      | inr other ↦
          record {
            place = waits.place;
            after = waits.after;
            watch = waits.watch;
            is = slice_get-set_other ws at waits.place v other ∙ waits.is;
            of = waits.of;
          }
    ]

-- a watch on l has another blocker, which stands in its clause
pub record IsBlocked (cs : List (List Literal)) (lists : List (List Watch)) (l : Literal) (at : ℕ) (w v : Watch) (new : List (List Watch)) : Type 0 where
  pub room : index_of l < length lists
  pub stands : slice_get (watches_of lists l) at ≡ Some w
  pub same : v.number ≡ w.number
  pub clause : List Literal
  pub found : slice_get cs w.number ≡ Some clause
  pub blocks : Contains clause v.blocker
  pub is : new ≡ with_watches lists l (set (watches_of lists l) at v)

watches_of-blocked :
    (cs : List (List Literal)) (lists : List (List Watch)) (l : Literal) (at : ℕ) (w v : Watch) (new : List (List Watch)) → IsBlocked cs lists l at w v new →
    watches_of new l ≡ set (watches_of lists l) at v
watches_of-blocked cs lists l at w v new b =
    ap (λ (y : List (List Watch)). watches_of y l) b.is ∙ watches_of-same lists l (set (watches_of lists l) at v) b.room

watches_of-blocked_other :
    (cs : List (List Literal)) (lists : List (List Watch)) (l : Literal) (at : ℕ) (w v : Watch) (new : List (List Watch)) (m : Literal) → IsBlocked cs lists l at w v new →
    m ≢ l → watches_of new m ≡ watches_of lists m
watches_of-blocked_other cs lists l at w v new m b other =
    ap (λ (y : List (List Watch)). watches_of y m) b.is ∙ watches_of-other lists l m (set (watches_of lists l) at v) other

Waits-blocked :
    (cs : List (List Literal)) (lists : List (List Watch)) (l : Literal) (at : ℕ) (w v : Watch) (new : List (List Watch)) (m : Literal) (k : ℕ) → IsBlocked cs lists l at w v new →
    Waits 0 (watches_of lists m) k → Waits 0 (watches_of new m) k
Waits-blocked cs lists l at w v new m k b waits =
    elim (literal_cases m l) [
      | inl same ↦
          subst (λ (y : Literal). Waits 0 (watches_of new y) k) (sym same)
          (subst (λ (ws : List Watch). Waits 0 ws k) (sym (watches_of-blocked cs lists l at w v new b))
          (Waits-set (watches_of lists l) at w v 0 k b.stands b.same (subst (λ (y : Literal). Waits 0 (watches_of lists y) k) same waits)))
      | inr other ↦ subst (λ (ws : List Watch). Waits 0 ws k) (sym (watches_of-blocked_other cs lists l at w v new m b other)) waits
    ]

IsGood-blocked :
    (cs : List (List Literal)) (pairs : List Pair) (lists : List (List Watch)) (l : Literal) (at : ℕ) (w v : Watch) (new : List (List Watch)) → IsBlocked cs lists l at w v new →
    IsGood cs pairs w → IsGood cs pairs v
IsGood-blocked cs pairs lists l at w v new b good =
    record {
      clause = b.clause;
      found = ap (slice_get cs) b.same ∙ b.found;
      pair = good.pair;
      watched = ap (slice_get pairs) b.same ∙ good.watched;
      apart = good.apart;
      blocks = b.blocks;
    }

good_blocked :
    (n : ℕ) (cs : List (List Literal)) (pairs : List Pair) (lists : List (List Watch)) (l : Literal) (at : ℕ) (w v : Watch) (new : List (List Watch)) (m : Literal) (i : ℕ) (x : Watch) →
    AreListed n cs pairs lists → IsBlocked cs lists l at w v new → slice_get (watches_of new m) i ≡ Some x → IsGood cs pairs x
good_blocked n cs pairs lists l at w v new m i x are b found =
    elim (literal_cases m l) [
      | inl same ↦
          let here : slice_get (set (watches_of lists l) at v) i ≡ Some x =
          ap (λ (ws : List Watch). slice_get ws i) (sym (watches_of-blocked cs lists l at w v new b)) ∙ ap (λ (z : Literal). slice_get (watches_of new z) i) (sym same) ∙ found in
          elim (cases_eq i at) [
            | inl is ↦
                let first : slice_get (set (watches_of lists l) at v) at ≡ Some v =
                slice_get-set_same (watches_of lists l) at v (slice_get_within (watches_of lists l) at w b.stands) in
                subst (IsGood cs pairs) (slice_get-one (set (watches_of lists l) at v) at v x first (ap (slice_get (set (watches_of lists l) at v)) (sym is) ∙ here))
                (IsGood-blocked cs pairs lists l at w v new b (are.good l at w b.stands))
            | inr other ↦ are.good l i x (sym (slice_get-set_other (watches_of lists l) at i v other) ∙ here)
          ]
      | inr other ↦ are.good m i x (ap (λ (ws : List Watch). slice_get ws i) (sym (watches_of-blocked_other cs lists l at w v new m b other)) ∙ found)
    ]

AreListed-blocked :
    (n : ℕ) (cs : List (List Literal)) (pairs : List Pair) (lists : List (List Watch)) (l : Literal) (at : ℕ) (w v : Watch) (new : List (List Watch)) →
    IsBlocked cs lists l at w v new → AreListed n cs pairs lists → AreListed n cs pairs new
AreListed-blocked n cs pairs lists l at w v new b are =
    record {
      room = ap length b.is ∙ length-set lists (index_of l) (set (watches_of lists l) at v) ∙ are.room;
      count = are.count;
      listed = λ k c p clause pair apart.
          let old : IsListed lists k c p = are.listed k c p clause pair apart in
          record {
            first = old.first;
            second = old.second;
            first_waits = Waits-blocked cs lists l at w v new p.first k b old.first_waits;
            second_waits = Waits-blocked cs lists l at w v new p.second k b old.second_waits;
          };
      good = λ m i x found. good_blocked n cs pairs lists l at w v new m i x are b found;
    }

pub IsHeld-blocked :
    (cs : List (List Literal)) (x : Course) (old : Watches) (l : Literal) (at : ℕ) (w v : Watch) (new : List (List Watch)) →
    IsBlocked cs old.lists l at w v new → IsHeld cs x old → IsHeld cs x (record old { lists = new })
IsHeld-blocked cs x old l at w v new b held =
    record {
      within = held.within;
      fresh = held.fresh;
      justified = held.justified;
      listed = AreListed-blocked x.variables cs old.pairs.items old.lists l at w v new b held.listed;
      quiet = held.quiet;
    }

-- a look at a clause with a true literal, where the watch has another blocker
pub look-blocked :
    (place : ℕ) (cs : List (List Literal)) (steps : List Step) (pairs : List Pair) (lists : List (List Watch)) (l : Literal) (at : ℕ) (w v : Watch) (new : List (List Watch))
    (b : IsBlocked cs lists l at w v new) → HasTrue steps b.clause → AreVisited place at cs steps pairs (watches_of lists l) →
    (length (watches_of new l) ≡ length (watches_of lists l)) × AreVisited place (at + 1) cs steps pairs (watches_of new l)
look-blocked place cs steps pairs lists l at w v new b true_ visited =
    let ws : List Watch = watches_of lists l in
    let left : watches_of new l ≡ set ws at v = watches_of-blocked cs lists l at w v new b in
    let still : AreVisited place at cs steps pairs (set ws at v) =
    λ k d p clause pair.
    elim (visited k d p clause pair) [
      | inl watched ↦ inl watched
      | inr waiting ↦ inr (waiting.0, Waits-set ws at w v at k b.stands b.same waiting.1)
    ] in (
      ap length left ∙ length-set ws at v,
      subst (λ (x : List Watch). AreVisited place (at + 1) cs steps pairs x) (sym left)
          (AreVisited-kept place at cs steps pairs (set ws at v) v b.clause (slice_get-set_same ws at v (slice_get_within ws at w b.stands)) (ap (slice_get cs) b.same ∙ b.found) true_ still),
    )
