-- Runs are the consistent candidates, in both directions.
use Rattle.std.specs.Prelude.{◌≡◌, ◌<◌, ℕ, List, map, length}
use Rattle.words.specs.declared.check.Check.{Check}
use Rattle.actions.specs.Behaviour.{Thread}
use Rattle.actions.specs.Memory.{Memory, Location}
use Rattle.actions.specs.Objects.{Objects}
use Rattle.actions.specs.Row.{Row, Reads, outcome_in}
use Rattle.interleave.specs.declared.turn.Outcome.TheVariants as ending
use Rattle.interleave.specs.Inputs.{InputLists}
use Rattle.interleave.specs.World.{World, first_world}
use Rattle.interleave.specs.Run.{run}
use Rattle.interleave.specs.Replay.{Replays}
use Rattle.weave.specs.Place.{Place, value_at, ReadsPlace}
use Rattle.weave.specs.Candidate.{Candidate, In, Executed}
use Rattle.weave.specs.Consistent.{IsConsistent}
use Rattle.weave.specs.Order.{IsOrder, cut, AreDrawn, Plays, Breaks, acting}
use Rattle.weave.specs.RunCandidate.{from, candidate_of_run}
use Rattle.weave.specs.Family.{IsFamily, AreWhole}

-- two memories have the same wherever a row reads in the first
abbrev pub SameWhereRead : Row → Memory → Memory → Type 0
SameWhereRead row m n = (p : Place) → ReadsPlace m row p → value_at m p ≡ value_at n p

-- what comes of a row depends only on what it reads, and what it reads depends only on what it finds
abbrev pub ReadsAlone : Type 0
ReadsAlone = (row : Row) (m n : Memory) → SameWhereRead row m n → outcome_in m row ≡ outcome_in n row

abbrev pub ReadsByReads : Type 0
ReadsByReads = (row : Row) (m n : Memory) → SameWhereRead row m n → (l : Location) → Reads n row l → Reads m row l

-- ---- from a candidate to a run

-- the turns along the order, up to the first break, are the candidate's events, and the run replays
pub record ReplaysAlong {Id : Type 0} (c : Candidate Id) (w : World) (inputs : InputLists) (es : List Id) : Type 0 where
  pub plays : Plays c inputs w es
  pub last : Id
  pub listed : In last es
  pub check : Check
  pub breaks : Breaks c last check
  pub replays : Replays w inputs (map c.thread es) check

abbrev pub CandidateReplays : {Id : Type 0} → Candidate Id → Type 0
CandidateReplays {Id = Id} c =
    (t : Thread) (objects : Objects) (inputs : InputLists) (es : List Id) → IsFamily t → AreWhole objects → IsConsistent c t objects → IsOrder c es → AreDrawn c inputs (cut c es)
    → (x : Id) (check : Check) → Executed c x → Breaks c x check → ReplaysAlong c (first_world t objects) inputs (cut c es)

abbrev pub CandidatesReplay : Type 0 → Type 0
CandidatesReplay Id = (c : Candidate Id) → CandidateReplays c

-- ---- from a run to a candidate

-- a consistent candidate whose events in their order are the run's turns that move or break
pub record IsOfRun (c : Candidate ℕ) (order : List ℕ) (t : Thread) (objects : Objects) (inputs : InputLists) (schedule : List ℕ) : Type 0 where
  pub consistent : IsConsistent c t objects
  pub is_order : IsOrder c order
  pub turns : map c.thread order ≡ acting (first_world t objects) inputs schedule
  pub plays : Plays c inputs (first_world t objects) order
  pub clocks : (x : ℕ) → In x order → c.clock x < length order
  pub breaks : (check : Check) → (run (first_world t objects) inputs schedule).0 ≡ ending.Broken check → (x : ℕ) × In x order × Breaks c x check

abbrev pub RunsHaveCandidates : Type 0
RunsHaveCandidates =
    (t : Thread) (objects : Objects) (inputs : InputLists) (schedule : List ℕ) → IsFamily t → AreWhole objects
    → IsOfRun (candidate_of_run t objects inputs (acting (first_world t objects) inputs schedule)) (from 0 (length (acting (first_world t objects) inputs schedule))) t objects inputs schedule
