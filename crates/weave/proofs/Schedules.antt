-- The turns of a schedule that move or break, by their numbers; and the law.
use Rattle.std.proofs.Common.{◌≡◌, ◌<◌, ◌+◌, ℕ, zero, suc, Bool, true, false, cond, List, [], ◌∷◌, map, length, slice_index, Option, Some, None, ◌⊎◌, inl, inr, refl, sym, ap, subst, ◌∙◌, arith}
use Rattle.words.specs.declared.check.Check.{Check}
use Rattle.actions.specs.Behaviour.{Thread}
use Rattle.actions.specs.Objects.{Objects}
use Rattle.actions.specs.declared.action.Next.{Next}
use Rattle.actions.specs.Row.{Outcome, breaks, waits, moves}
use Rattle.interleave.specs.declared.turn.Turn.{Turn}
use Rattle.interleave.specs.declared.turn.Turn.TheVariants as turned
use Rattle.interleave.specs.declared.turn.Outcome.TheVariants as ending
use Rattle.interleave.specs.Inputs.{InputLists, words_of}
use Rattle.interleave.specs.World.{World, Member, member_at, may_move, first_world}
use Rattle.interleave.specs.Turn.{turn, with_member}
use Rattle.interleave.specs.Run.{run, unless_broken}
use Rattle.weave.specs.Step.{turn_by}
use Rattle.weave.specs.Order.{acting, kept_by}
use Rattle.weave.specs.Laws.{RunsHaveCandidates}
use Rattle.weave.proofs.Turns.{next_by, comes_by, world_by}
use Rattle.weave.specs.RunCandidate.{from, worlds_from}
use Rattle.weave.proofs.Positions.{is_consistent, is_order, plays_all, clocks_below, broken_at}

-- a turn that does nothing changes nothing
outcome_same : (w : World) (t : ℕ) (words : List ℕ) (m : Member) (n : Next) (o : Outcome) → turn_by t n o ≡ turned.Nothing → world_by w t words m n o ≡ w
outcome_same w t words m n (breaks class) e = refl
outcome_same w t words m n waits e = refl
outcome_same w t words m n (moves a change) e = absurd (cc e)

member_same : (w : World) (t : ℕ) (words : List ℕ) (o : Option Member) → (with_member w t words o).0 ≡ turned.Nothing → (with_member w t words o).1 ≡ w
member_same w t words None e = refl
member_same w t words (Some m) e =
    let r = next_by w t words m (m.thread.behaves []) in
    ap (λ (x : Turn × World). x.1) r ∙ outcome_same w t words m (m.thread.behaves []) (comes_by w t words m (m.thread.behaves [])) (sym (ap (λ (x : Turn × World). x.0) r) ∙ e)

nothing_same : (w : World) (t : ℕ) (words : List ℕ) (b : Bool) → (cond b (with_member w t words (member_at w.members t)) (turned.Nothing, w)).0 ≡ turned.Nothing → (cond b (with_member w t words (member_at w.members t)) (turned.Nothing, w)).1 ≡ w
nothing_same w t words true e = member_same w t words (member_at w.members t) e
nothing_same w t words false e = refl

module _ (inputs : InputLists) where
  same_world : (w : World) (t : ℕ) → (turn w t inputs).0 ≡ turned.Nothing → (turn w t inputs).1 ≡ w
  same_world w t e = nothing_same w t (words_of inputs t) (may_move w.common t) e

  -- each turn moves, but for the last, which may break
  abbrev Chain : World → List ℕ → Type 0
  Chain w [] = Unit {0}
  Chain w (t ∷ ts) = (((turn w t inputs).0 ≡ turned.Moved) × Chain (turn w t inputs).1 ts) ⊎ ((check : Check) × ((turn w t inputs).0 ≡ turned.Broken check) × (ts ≡ []))

  chain_by : (w : World) (t : ℕ) (ts : List ℕ) (x : Turn) → (turn w t inputs).0 ≡ x → Chain (turn w t inputs).1 ts → Chain w (kept_by x t ts)
  chain_by w t ts turned.Moved e h = inl (e, h)
  chain_by w t ts turned.Nothing e h = subst (λ (v : World). Chain v ts) (same_world w t e) h
  chain_by w t ts (turned.Broken check) e h = inr (check, e, refl)

  chain : (ts : List ℕ) (w : World) → Chain w (acting w inputs ts)
  chain [] w = tt
  chain (t ∷ ts) w = chain_by w t (acting (turn w t inputs).1 inputs ts) (turn w t inputs).0 refl (chain ts (turn w t inputs).1)

  -- the last turn breaks this check
  abbrev Fails : Check → World → List ℕ → Type 0
  Fails check w [] = ⊥
  Fails check w (t ∷ ts) = ((turn w t inputs).0 ≡ turned.Broken check) ⊎ Fails check (turn w t inputs).1 ts

  fails_by : (check : Check) (w : World) (t : ℕ) (ts : List ℕ) (rest : List ℕ) (x : Turn) → (turn w t inputs).0 ≡ x
      → (unless_broken x (turn w t inputs).1 (λ v. run v inputs rest)).0 ≡ ending.Broken check
      → ((run (turn w t inputs).1 inputs rest).0 ≡ ending.Broken check → Fails check (turn w t inputs).1 ts) → Fails check w (kept_by x t ts)
  fails_by check w t ts rest turned.Moved e q h = inr (h q)
  fails_by check w t ts rest turned.Nothing e q h = subst (λ (v : World). Fails check v ts) (same_world w t e) (h q)
  fails_by check w t ts rest (turned.Broken other) e q h = let one : other ≡ check = cc q in inl (e ∙ ap turned.Broken one)

  fails : (check : Check) (ts : List ℕ) (w : World) → (run w inputs ts).0 ≡ ending.Broken check → Fails check w (acting w inputs ts)
  fails check [] w q = absurd (cc q)
  fails check (t ∷ ts) w q = fails_by check w t (acting (turn w t inputs).1 inputs ts) ts (turn w t inputs).0 refl q (fails check ts (turn w t inputs).1)

  module _ (t₀ : Thread) (objects : Objects) where
    abbrev world_at : List ℕ → World → ℕ → World
    world_at l w n = worlds_from t₀ objects inputs l w n

    shift : (n k : ℕ) (l : List ℕ) (w : World) → world_at (k ∷ l) w (suc n) ≡ world_at l (turn w k inputs).1 n
    shift zero k l w = refl
    shift (suc n) k l w = ap (λ (v : World). (turn v (slice_index l n) inputs).1) (shift n k l w)

    abbrev answer_at : List ℕ → World → ℕ → Turn
    answer_at l w n = (turn (world_at l w n) (slice_index l n) inputs).0

    shift_answer : (n k : ℕ) (l : List ℕ) (w : World) → answer_at (k ∷ l) w (suc n) ≡ answer_at l (turn w k inputs).1 n
    shift_answer n k l w = ap (λ (v : World). (turn v (slice_index l n) inputs).0) (shift n k l w)

    acts_at : (l : List ℕ) (w : World) → Chain w l → (n : ℕ) → n < length l → answer_at l w n ≡ turned.Nothing → ⊥
    acts_at [] w h n b e = absurd (omega arith)
    acts_at (k ∷ l) w (inl h) zero b e = let two : turned.Moved ≡ turned.Nothing = sym h.0 ∙ e in absurd (cc two)
    acts_at (k ∷ l) w (inr h) zero b e = let two : turned.Broken h.0 ≡ turned.Nothing = sym h.1 ∙ e in absurd (cc two)
    acts_at (k ∷ l) w (inl h) (suc n) b e = acts_at l (turn w k inputs).1 h.1 n (omega arith) (sym (shift_answer n k l w) ∙ e)
    acts_at (k ∷ l) w (inr h) (suc n) b e = let none : length l ≡ 0 = ap length h.2 in absurd (omega arith)

    moves_at : (l : List ℕ) (w : World) → Chain w l → (n : ℕ) → suc n < length l → answer_at l w n ≡ turned.Moved
    moves_at [] w h n b = absurd (omega arith)
    moves_at (k ∷ l) w (inl h) zero b = h.0
    moves_at (k ∷ l) w (inl h) (suc n) b = shift_answer n k l w ∙ moves_at l (turn w k inputs).1 h.1 n (omega arith)
    moves_at (k ∷ l) w (inr h) n b = let none : length l ≡ 0 = ap length h.2 in absurd (omega arith)

    fails_at : (check : Check) (l : List ℕ) (w : World) → Fails check w l → (n : ℕ) × (n < length l) × (answer_at l w n ≡ turned.Broken check)
    fails_at check [] w h = absurd h
    fails_at check (k ∷ l) w (inl h) = (zero, omega arith, h)
    fails_at check (k ∷ l) w (inr h) = let r = fails_at check l (turn w k inputs).1 h in (suc r.0, omega (arith, r.1), shift_answer r.0 k l w ∙ r.2)

-- a list is its items by their numbers
items : (f : ℕ → ℕ) (l : List ℕ) (n : ℕ) → ((i : ℕ) → f (n + i) ≡ slice_index l i) → map f (from n (length l)) ≡ l
items f [] n h = refl
items f (x ∷ l) n h =
    let first : f n ≡ x = ap f (let e : n ≡ n + 0 = omega arith in e) ∙ h zero in
    let rest : map f (from (suc n) (length l)) ≡ l = items f l (suc n) (λ i. ap f (let e : suc n + i ≡ n + suc i = omega arith in e) ∙ h (suc i)) in
    λ i. first i ∷ rest i

pub runs_have_candidates : RunsHaveCandidates
runs_have_candidates = λ t objects inputs schedule family whole.
    let w = first_world t objects in
    let l = acting w inputs schedule in
    let chained : Chain inputs w l = chain inputs schedule w in
    let acts = acts_at inputs t objects l w chained in
    let moves = moves_at inputs t objects l w chained in
    record {
      consistent = is_consistent t objects inputs l family whole acts moves;
      is_order = is_order t objects inputs l family whole acts moves;
      turns = items (λ n. slice_index l n) l 0 (λ i. ap (slice_index l) (let e : 0 + i ≡ i = omega arith in e));
      plays = plays_all t objects inputs l family whole acts moves;
      clocks = clocks_below t objects inputs l family whole acts moves;
      breaks = λ check q. let r = fails_at inputs t objects check l w (fails inputs check schedule w q) in let b = broken_at t objects inputs l family whole acts moves r.0 r.1 check r.2 in (r.0, b.0, b.1);
    }
