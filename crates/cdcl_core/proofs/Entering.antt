-- A clause more, of which the two watched literals are not false.
use Rattle.std.proofs.Common.{◌≡◌, ℕ, ◌<◌, inl, inr, List, [], ◌∷◌, ◌++◌, length, sym, subst}
use Rattle.std.specs.Prelude.{Contains}
use Rattle.sat_form.specs.Satisfaction.{Literal, IsWithin, index_of}
use Rattle.sat_form.proofs.Within.{AreWithin-push}
use Rattle.cdcl_core.specs.declared.trail.Step.{Step}
use Rattle.cdcl_core.specs.declared.watches.Pair.{Pair}
use Rattle.cdcl_core.specs.declared.watches.Watches.{Watches}
use Rattle.cdcl_core.specs.Steps.{Course, oldest, decision_places}
use Rattle.cdcl_core.specs.Lists.{IsEntered}
use Rattle.cdcl_core.specs.Watched.{AreOpen, IsWatched, AreWatched, AreListed, AreQuiet, IsHeld}
use Rattle.cdcl_core.proofs.Places.{slice_get-both_cases}
use Rattle.cdcl_core.proofs.Listed.{AreListed-entered, room-contains}
use Rattle.cdcl_core.proofs.Settling.{AreJustified-more, AreQuiet-more}

pub AreWatched-entered :
    (cs : List (List Literal)) (pairs : List Pair) (c : List Literal) (p : Pair) (steps : List Step) → length pairs ≡ length cs →
    AreOpen steps c p → AreWatched steps steps cs pairs → AreWatched steps steps (cs ++ c ∷ []) (pairs ++ p ∷ [])
AreWatched-entered cs pairs c p steps count open_ are = λ k d q clause pair.
    elim (slice_get-both_cases cs pairs c d p q k count clause pair) [
      | inl old ↦ are k d q old.0 old.1
      | inr new ↦ subst (λ x. IsWatched steps steps x q) (sym new.1) (subst (λ (x : Pair). IsWatched steps steps c x) (sym new.2) (inr open_))
    ]

pub IsHeld-entered :
    (cs : List (List Literal)) (x : Course) (w v : Watches) (c : List Literal) (p : Pair) → v.pairs.items ≡ w.pairs.items ++ p ∷ [] →
    IsEntered w.lists (length w.pairs.items) p.first p.second v.lists → IsWithin x.variables c → AreOpen x.steps c p →
    ((d : ℕ) → Contains (decision_places x.steps) d → AreOpen (oldest d x.steps) c p) → IsHeld cs x w → IsHeld (cs ++ c ∷ []) x v
IsHeld-entered cs x w v c p pairs entered within here open_ held =
    let below : (l : Literal) → Contains c l → index_of l < length w.lists = λ l at. room-contains x.variables (length w.lists) c l held.listed.room within at in
    record {
      within = AreWithin-push x.variables cs c held.within within;
      fresh = held.fresh;
      justified = AreJustified-more cs c x.steps held.justified;
      listed = subst (λ (ps : List Pair). AreListed x.variables (cs ++ c ∷ []) ps v.lists) (sym pairs)
          (AreListed-entered x.variables cs w.pairs.items w.lists v.lists c p held.listed (λ _. here.first) (λ _. here.second) (λ _. below p.first here.first) (λ _. below p.second here.second) entered);
      quiet = subst (λ (ps : List Pair). AreQuiet (cs ++ c ∷ []) ps x.steps) (sym pairs) (AreQuiet-more cs w.pairs.items c p x.steps held.listed.count held.quiet open_);
    }
