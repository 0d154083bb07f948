-- Turn by turn along the order, up to the first event that breaks.
use Rattle.std.proofs.Common.{◌≡◌, ◌≤◌, ℕ, Bool, true, false, cond, List, [], ◌∷◌, drop, map, length, length-drop, Option, Some, inl, inr, refl, sym, ap, subst, ◌∙◌, arith, nat_eq, slice_get}
use Rattle.words.specs.declared.check.Class.{Class}
use Rattle.words.specs.declared.check.Check.{Check}
use Rattle.actions.specs.declared.action.Action.TheVariants.{Draw, Alloc}
use Rattle.actions.specs.declared.action.Answer.{Answer}
use Rattle.actions.specs.declared.action.Next.{Next}
use Rattle.actions.specs.declared.action.Next.TheVariants.{Act, Ended, Blocked, Broken}
use Rattle.actions.specs.Behaviour.{Thread}
use Rattle.actions.specs.Objects.{Objects}
use Rattle.actions.specs.Memory.{Memory, Change}
use Rattle.actions.specs.Row.{Outcome, breaks, waits, moves, outcome_in}
use Rattle.interleave.specs.declared.turn.Turn.{Turn}
use Rattle.interleave.specs.declared.turn.Turn.TheVariants as turned
use Rattle.interleave.specs.Inputs.{InputLists, words_of}
use Rattle.interleave.specs.World.{World, first_world}
use Rattle.interleave.specs.Turn.{turn}
use Rattle.interleave.specs.Run.{run, unless_broken}
use Rattle.interleave.specs.Replay.{used_by, IsDrawnWhole}
use Rattle.weave.specs.Step.{row_by, check_by, turn_by, told_by, IsOwn}
use Rattle.weave.specs.Candidate.{Candidate, In, outcome_at}
use Rattle.weave.specs.Consistent.{GoesOn, IsRun, IsConsistent}
use Rattle.weave.specs.Order.{IsTurn, cut, drawn, drawn_by, unless_breaks, Breaks}
use Rattle.weave.specs.Family.{IsFamily}
use Rattle.weave.specs.Laws.{ReplaysAlong, CandidatesReplay}
use Rattle.weave.proofs.Lists.{of}
use Rattle.weave.proofs.Bytes.{at_drop}
use Rattle.weave.proofs.Turns.{unworded, unused, world_by}
use Rattle.weave.proofs.Replaying.{Agrees, there, used_here, left_here, is_turn, turn_here, turn_moves, agrees_after}
use Rattle.weave.proofs.Starting.{first_agrees}

-- a step that breaks draws no word
no_draw : (m : Memory) (t own : ℕ) (n : Next) (class : Class) (rest : List ℕ) → outcome_in m (row_by t own n) ≡ breaks class → drawn_by n own rest ≡ rest
no_draw m t own (Act (Draw k) line function) class rest e = absurd (cc e)
no_draw m t own (Act (Alloc o) line function) class rest e = refl
no_draw m t own (Act _ line function) class rest e = refl
no_draw m t own (Ended v) class rest e = refl
no_draw m t own Blocked class rest e = refl
no_draw m t own (Broken own_class line function) class rest e = refl

all_used : (u : ℕ) (ws : List ℕ) → u ≤ length ws → drop u ws ≡ [] → u ≡ length ws
all_used u ws l e = let n : length (drop u ws) ≡ 0 = ap length e in omega (arith, length-drop u ws)

drawn_whole : (n : Next) (t : ℕ) (counts : Rattle.interleave.specs.declared.counts.Counts.Counts) (own u : ℕ) (ws rest : List ℕ) → IsOwn t counts own n → drop u ws ≡ drawn_by n own rest → IsDrawnWhole (Some n) (slice_get ws u)
drawn_whole (Act (Draw k) line function) t counts own u ws rest h e = subst (λ (o : Option ℕ). IsDrawnWhole (Some (Act (Draw k) line function)) o) (sym (at_drop ws u own rest e).1) h
drawn_whole (Act (Alloc o) line function) t counts own u ws rest h e = tt
drawn_whole (Act _ line function) t counts own u ws rest h e = tt
drawn_whole (Ended v) t counts own u ws rest h e = tt
drawn_whole Blocked t counts own u ws rest h e = tt
drawn_whole (Broken class line function) t counts own u ws rest h e = tt

module _ {Id : Type 0} (c : Candidate Id) (t : Thread) (objects : Objects) (inputs : InputLists) (family : IsFamily t) (consistent : IsConsistent c t objects) where
  module _ (w : World) (e : Id) (es : List Id) (h : Agrees c t objects inputs w (e ∷ es)) where
    -- the event that breaks is the last turn
    ends_here : (class : Class) → outcome_at c e ≡ breaks class → ReplaysAlong c w inputs (e ∷ [])
    ends_here class q =
        let check : Check = check_by (c.thread e) class (c.next e) in
        let broken : turn w (c.thread e) inputs ≡ (turned.Broken check, w) =
        turn_here c t objects inputs family consistent w e es h ∙ ap (λ (o : Outcome). (turn_by (c.thread e) (c.next e) o, world_by w (c.thread e) (words_of inputs (c.thread e)) (there c t objects inputs family consistent w e es h).member (c.next e) o)) q in
        record {
          plays = (is_turn c t objects inputs family consistent w e es h, tt);
          last = e;
          listed = inl refl;
          check = check;
          breaks = (class, q, refl);
          replays = record {
            breaks = ap (λ (r : Turn × World). (unless_broken r.0 r.1 (λ n. run n inputs [])).0) broken;
            front = [];
            last = c.thread e;
            whole = refl;
            reached = w;
            moves = refl;
            breaks_there = ap (λ (r : Turn × World). r.0) broken;
            drawn_all = used_up;
          };
        }
      where
        nothing : (k : ℕ) (b : Bool) → cond b (drawn_by (c.next e) (c.own e) []) [] ≡ []
        nothing k true = no_draw (c.view e) (c.thread e) (c.own e) (c.next e) class [] q
        nothing k false = refl

        used_up : (k : ℕ) → used_by w k ≡ length (words_of inputs k)
        used_up k =
            all_used (used_by w k) (words_of inputs k) (h.words k).within
            ((h.words k).left ∙ ap (λ (o : Outcome). drawn c k (e ∷ unless_breaks o (cut c es))) q ∙ nothing k (nat_eq (c.thread e) k))

    -- or the run goes on
    goes_on : (a : Answer) (change : Change) → outcome_at c e ≡ moves a change
        → ((v : World) → Agrees c t objects inputs v es → ReplaysAlong c v inputs (cut c es)) → ReplaysAlong c w inputs (e ∷ cut c es)
    goes_on a change q rest =
        let step = turn_moves c t objects inputs family consistent w e es h a change q in
        let next = Rattle.weave.proofs.Turns.after_move w (c.thread e) (words_of inputs (c.thread e)) (there c t objects inputs family consistent w e es h).member (c.next e) a change in
        let r = rest next (agrees_after c t objects inputs family consistent w e es h a change q) in
        let on : ReplaysAlong c (turn w (c.thread e) inputs).1 inputs (cut c es) = subst (λ (v : World). ReplaysAlong c v inputs (cut c es)) (sym (ap (λ (x : Turn × World). x.1) step)) r in
        record {
          plays = (is_turn c t objects inputs family consistent w e es h, on.plays);
          last = r.last;
          listed = inr r.listed;
          check = r.check;
          breaks = r.breaks;
          replays = record {
            breaks = ap (λ (x : Turn × World). (unless_broken x.0 x.1 (λ n. run n inputs (map c.thread (cut c es)))).0) step ∙ r.replays.breaks;
            front = c.thread e ∷ r.replays.front;
            last = r.replays.last;
            whole = ap (λ (l : List ℕ). c.thread e ∷ l) r.replays.whole;
            reached = r.replays.reached;
            moves = (next, record { turn_is = step; drawn = drawn_here }, r.replays.moves);
            breaks_there = r.replays.breaks_there;
            drawn_all = r.replays.drawn_all;
          };
        }
      where
        mine : Rattle.interleave.specs.declared.counts.Counts.Counts
        mine = (there c t objects inputs family consistent w e es h).member.counts

        turn_at : IsTurn c inputs w e
        turn_at = is_turn c t objects inputs family consistent w e es h

        drawn_here : IsDrawnWhole (Rattle.interleave.specs.View.next_at w.members (c.thread e)) (slice_get (words_of inputs (c.thread e)) (used_by w (c.thread e)))
        drawn_here =
            subst (λ (n : Option Next). IsDrawnWhole n (slice_get (words_of inputs (c.thread e)) (used_by w (c.thread e)))) (sym turn_at.asks)
            (subst (λ (u : ℕ). IsDrawnWhole (Some (c.next e)) (slice_get (words_of inputs (c.thread e)) u)) (sym (used_here c t objects inputs family consistent w e es h))
            (drawn_whole (c.next e) (c.thread e) (unused mine) (c.own e) mine.used (words_of inputs (c.thread e)) (drawn c (c.thread e) (unless_breaks (outcome_at c e) (cut c es))) ((there c t objects inputs family consistent w e es h).run.1) (left_here c t objects inputs family consistent w e es h)))

    by_outcome : (o : Outcome) → outcome_at c e ≡ o → (x : Id) (check : Check) → In x (e ∷ es) → Breaks c x check
        → ((v : World) → In x es → Agrees c t objects inputs v es → ReplaysAlong c v inputs (cut c es)) → ReplaysAlong c w inputs (e ∷ unless_breaks o (cut c es))
    by_outcome (breaks class) q x check i b rest = ends_here class q
    by_outcome waits q x check i b rest =
        absurd (subst (λ (o : Outcome). GoesOn c o (of c (c.thread e) es) (λ a. IsRun c (told_by [] (unworded (there c t objects inputs family consistent w e es h).member) (c.next e) a) (of c (c.thread e) es))) q (there c t objects inputs family consistent w e es h).run.2)
    by_outcome (moves a change) q x check (inl r) b rest = let two : moves a change ≡ breaks b.0 = sym q ∙ ap (outcome_at c) (sym r) ∙ b.1 in absurd (cc two)
    by_outcome (moves a change) q x check (inr i) b rest = goes_on a change q (λ v g. rest v i g)

  along : (es : List Id) (w : World) → Agrees c t objects inputs w es → (x : Id) (check : Check) → In x es → Breaks c x check → ReplaysAlong c w inputs (cut c es)
  along [] w h x check i b = absurd i
  along (e ∷ es) w h x check i b = by_outcome w e es h (outcome_at c e) refl x check i b (λ v j g. along es v g x check j b)

pub candidates_replay : (Id : Type 0) → CandidatesReplay Id
candidates_replay Id = λ c t objects inputs es family whole consistent order drawn_words x check i b.
    along c t objects inputs family consistent es (first_world t objects) (first_agrees c t objects inputs es family whole consistent order drawn_words) x check (order.all x i) b
