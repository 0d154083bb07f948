-- Runs on inputs that give each thread the same words.
use Rattle.std.proofs.Common.{◌≡◌, ℕ, List, [], ◌∷◌, length, sym, refl, ap, ◌∙◌, subst}
use Rattle.std.specs.Prelude.{slice_get}
use Rattle.words.specs.declared.check.Check.{Check}
use Rattle.interleave.specs.declared.turn.Turn.{Turn}
use Rattle.interleave.specs.Inputs.{InputLists, words_of}
use Rattle.interleave.specs.World.{World, member_at, may_move}
use Rattle.interleave.specs.Turn.{turn, with_member}
use Rattle.interleave.specs.View.{next_at}
use Rattle.interleave.specs.Run.{run, unless_broken}
use Rattle.interleave.specs.Replay.{Replays, Moves, MovesTo, IsDrawnWhole, used_by}
use Rattle.std.specs.Prelude.{if◌then◌else◌}
use Rattle.interleave.specs.declared.turn.Turn.TheVariants as turned
use Rattle.interleave.specs.declared.turn.Outcome.{Outcome}

abbrev pub SameWords : InputLists → InputLists → Type 0
SameWords a b = (t : ℕ) → words_of a t ≡ words_of b t

turn_same : (w : World) (t : ℕ) (a b : InputLists) → SameWords a b → turn w t a ≡ turn w t b
turn_same w t a b same = ap (λ (words : List ℕ). if may_move w.common t then with_member w t words (member_at w.members t) else (turned.Nothing, w)) (same t)

on_same : (a b : InputLists) (schedule : List ℕ) → ((w : World) → run w a schedule ≡ run w b schedule) → (r : Turn × World) → unless_broken r.0 r.1 (λ next. run next a schedule) ≡ unless_broken r.0 r.1 (λ next. run next b schedule)
on_same a b schedule rest (turned.Moved, w) = rest w
on_same a b schedule rest (turned.Nothing, w) = rest w
on_same a b schedule rest (turned.Broken check, w) = refl

run_same : (a b : InputLists) → SameWords a b → (schedule : List ℕ) (w : World) → run w a schedule ≡ run w b schedule
run_same a b same [] w = refl
run_same a b same (t ∷ schedule) w =
    on_same a b schedule (run_same a b same schedule) (turn w t a)
    ∙ ap (λ (r : Turn × World). unless_broken r.0 r.1 (λ next. run next b schedule)) (turn_same w t a b same)

moves_to_same : (a b : InputLists) → SameWords a b → (t : ℕ) (w next : World) → MovesTo a t w next → MovesTo b t w next
moves_to_same a b same t w next m = record {
  turn_is = sym (turn_same w t a b same) ∙ m.turn_is;
  drawn = subst (λ (words : List ℕ). IsDrawnWhole (next_at w.members t) (slice_get words (used_by w t))) (same t) m.drawn;
}

moves_same : (a b : InputLists) → SameWords a b → (schedule : List ℕ) (first last : World) → Moves a schedule first last → Moves b schedule first last
moves_same a b same [] first last m = m
moves_same a b same (t ∷ schedule) first last m = (m.0, moves_to_same a b same t first m.0 m.1, moves_same a b same schedule m.0 last m.2)

pub replays_same : (w : World) (a b : InputLists) (schedule : List ℕ) (check : Check) → SameWords a b → Replays w a schedule check → Replays w b schedule check
replays_same w a b schedule check same r = record {
  breaks = sym (ap (λ (x : Outcome × World). x.0) (run_same a b same schedule w)) ∙ r.breaks;
  front = r.front;
  last = r.last;
  whole = r.whole;
  reached = r.reached;
  moves = moves_same a b same r.front w r.reached r.moves;
  breaks_there = sym (ap (λ (x : Turn × World). x.0) (turn_same r.reached r.last a b same)) ∙ r.breaks_there;
  drawn_all = λ t. r.drawn_all t ∙ ap length (same t);
}
