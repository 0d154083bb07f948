-- Slots that arrive at places.
use Rattle.std.proofs.Common.{◌≡◌, ℕ, zero, suc, ◌+◌, ◌<◌, ◌≤◌, List, [], ◌∷◌, length, map, get_or, Option, Some, None, refl, sym, ap, subst, ◌∙◌, arith}
use Rattle.std.specs.Prelude.{slice_set, replicate}
use Rattle.std.specs.List.{All}
use Rattle.std.proofs.lemmas.List.{map-set, length-map, length-set}
use Rattle.std.proofs.lemmas.List.Elements.{All-set, All-cons, All-nil, All-replicate}
use Rattle.word_dag.specs.declared.nodes.Node.{Node}
use Rattle.word_dag.specs.Growth.{Extends}
use Rattle.goto_prog.specs.declared.code.Instruction.{Instruction}
use Rattle.goto_prog.specs.Meaning.{Memory}
use Rattle.cell_trees.specs.Trees.{Arena, Keeps}
use Rattle.cell_trees.proofs.Kept.{keeps_itself}
use Rattle.goto_prog.specs.CodeThread.{Listing}
use Rattle.guarded_ssa.specs.declared.slots.Slot.{Slot}
use Rattle.guarded_ssa.specs.declared.pass.Pass.{Pass}
use Rattle.guarded_ssa.specs.inner.Places.{Arrivals, either, arrived}
use Rattle.event_forms.specs.Forms.{FormIn, EventIn}
use Rattle.guarded_ssa.specs.inner.Reads.{Alike, AllAlike}
use Rattle.guarded_ssa.specs.inner.Held.{SlotIn, PendingIn, PassIn, Arrives, guarded, arrival, arrivals}
use Rattle.guarded_ssa.proofs.Needs.{all_alike_itself}
use Rattle.event_forms.proofs.Stays.{form_stays}
use Rattle.guarded_ssa.proofs.Stays.{all_pending_stay, arrivals_stay}

-- one of the arrivals is changed into one that is like what arrives
alike_set : (registers : ℕ) (until : List ℕ) (p q n : ℕ) (ws : Arrivals) (x y z : Option Memory) → q ≡ p + n → n < length ws → Alike registers until q x (either y (get_or ws n z)) → AllAlike registers until p (slice_set ws n x) (arrived n y ws)
alike_set registers until p q n [] x y z e lt h = absurd (omega (arith, lt))
alike_set registers until p q zero (w ∷ ws) x y z e lt h = (let f : q ≡ p = omega (arith, e) in subst (λ k. Alike registers until k x (either y w)) f h, all_alike_itself registers until (suc p) ws)
alike_set registers until p q (suc n) (w ∷ ws) x y z e lt h = (let same = all_alike_itself registers until p (w ∷ []) in same.0, alike_set registers until (suc p) q n ws x y z (omega (arith, e)) (omega (arith, lt)) h)

past : (n : ℕ) (y : Option Memory) (ws : Arrivals) → length ws ≤ n → arrived n y ws ≡ ws
past n y [] l = refl
past zero y (w ∷ ws) l = absurd (omega (arith, l))
past (suc n) y (w ∷ ws) l = ap (λ xs. w ∷ xs) (past n y ws (omega (arith, l)))

arrival_at : (v : ℕ → ℕ) (d : List Node) (trees : Arena) (code : Listing) (pending : List (Option Slot)) (n : ℕ) (z : Option Slot) → n < length pending → get_or (arrivals v d trees code pending) n None ≡ arrival v d trees code (get_or pending n z)
arrival_at v d trees code [] n z lt = absurd (omega (arith, lt))
arrival_at v d trees code (s ∷ pending) zero z lt = refl
arrival_at v d trees code (s ∷ pending) (suc n) z lt = arrival_at v d trees code pending n z (omega (arith, lt))

pub arrives_there : (until : List ℕ) (code : Listing) (place q n : ℕ) (s t : Slot) (there z : Option Slot) (d e : List Node) (old new : Pass) → Extends d e → Keeps old.trees new.trees → PassIn d code old → SlotIn e new.trees code t
    → n < length old.pending.items → q ≡ place + 1 + n → there ≡ get_or old.pending.items n z
    → ((v : ℕ → ℕ) → Alike (length code.registers) until q (guarded v e new.trees code t) (either (guarded v d old.trees code s) (arrival v d old.trees code there)))
    → new.events.items ≡ old.events.items → new.pending.items ≡ slice_set old.pending.items n (Some t) → Arrives until code place n s d e old new
arrives_there until code place q n s t there z d e old new x k within slot lt at is alike events pending =
    record {
      within = record {
        events = subst (FormIn e) (sym events) (form_stays d e x old.events.items within.events);
        pending = subst (All (PendingIn e new.trees code)) (sym pending) (All-set (PendingIn e new.trees code) old.pending.items n (Some t) slot (all_pending_stay d e x old.trees new.trees k code old.pending.items within.pending));
      };
      keeps = k;
      size = ap length pending ∙ length-set old.pending.items n (Some t);
      told = events;
      leads = λ v.
          let ws = arrivals v d old.trees code old.pending.items in
          let same : arrivals v e new.trees code new.pending.items ≡ slice_set ws n (guarded v e new.trees code t) =
          ap (map (arrival v e new.trees code)) pending ∙ map-set (arrival v e new.trees code) old.pending.items n (Some t)
          ∙ ap (λ xs. slice_set xs n (guarded v e new.trees code t)) (arrivals_stay d e x old.trees new.trees k v code old.pending.items within.pending) in
          let there_arrival : get_or ws n None ≡ arrival v d old.trees code there = arrival_at v d old.trees code old.pending.items n z lt ∙ ap (arrival v d old.trees code) (sym is) in
          let l : n < length ws = omega (arith, lt, length-map old.pending.items (arrival v d old.trees code)) in
          let h : Alike (length code.registers) until q (guarded v e new.trees code t) (either (guarded v d old.trees code s) (get_or ws n None)) =
          subst (λ w. Alike (length code.registers) until q (guarded v e new.trees code t) (either (guarded v d old.trees code s) w)) (sym there_arrival) (alike v) in
          subst (λ xs. AllAlike (length code.registers) until (suc place) xs (arrived n (guarded v d old.trees code s) ws)) (sym same)
          (alike_set (length code.registers) until (suc place) q n ws (guarded v e new.trees code t) (guarded v d old.trees code s) None (omega (arith, at)) l h);
    }

-- nothing changes
arrives_not : (until : List ℕ) (code : Listing) (place n : ℕ) (s : Slot) (d : List Node) (p : Pass) → PassIn d code p → ((v : ℕ → ℕ) → arrived n (guarded v d p.trees code s) (arrivals v d p.trees code p.pending.items) ≡ arrivals v d p.trees code p.pending.items) → Arrives until code place n s d d p p
arrives_not until code place n s d p within same = record {
  within = within;
  keeps = keeps_itself p.trees;
  size = refl;
  told = refl;
  leads = λ v.
      let ws = arrivals v d p.trees code p.pending.items in
      subst (AllAlike (length code.registers) until (suc place) ws) (sym (same v)) (all_alike_itself (length code.registers) until (suc place) ws);
}

-- no place is so far ahead
pub arrives_past : (until : List ℕ) (code : Listing) (place n : ℕ) (s : Slot) (d : List Node) (p : Pass) → PassIn d code p → length p.pending.items ≤ n → Arrives until code place n s d d p p
arrives_past until code place n s d p within le =
    arrives_not until code place n s d p within (λ v. past n (guarded v d p.trees code s) (arrivals v d p.trees code p.pending.items) (omega (arith, le, length-map p.pending.items (arrival v d p.trees code))))

-- the slot never arrives
pub arrived_none : (n : ℕ) (ws : Arrivals) → arrived n None ws ≡ ws
arrived_none n [] = refl
arrived_none zero (w ∷ ws) = refl
arrived_none (suc n) (w ∷ ws) = ap (λ xs. w ∷ xs) (arrived_none n ws)

pub arrives_never : (until : List ℕ) (code : Listing) (place n : ℕ) (s : Slot) (d : List Node) (p : Pass) → PassIn d code p → ((v : ℕ → ℕ) → guarded v d p.trees code s ≡ None) → Arrives until code place n s d d p p
arrives_never until code place n s d p within never =
    arrives_not until code place n s d p within (λ v. let ws = arrivals v d p.trees code p.pending.items in ap (λ w. arrived n w ws) (never v) ∙ arrived_none n ws)

-- ---- at the start

pub start_in : (d : List Node) (code : Listing) (p : Pass) (s : Slot) (n : ℕ) → SlotIn d p.trees code s → p.events.items ≡ [] → p.pending.items ≡ Some s ∷ replicate n None → PassIn d code p
start_in d code p s n slot none is = record {
  events = subst (FormIn d) (sym none) (All-nil (EventIn d));
  pending = subst (All (PendingIn d p.trees code)) (sym is) (All-cons (PendingIn d p.trees code) (Some s) (replicate n None) slot (All-replicate (PendingIn d p.trees code) n None tt));
}

no_arrivals : (v : ℕ → ℕ) (d : List Node) (trees : Arena) (code : Listing) (n : ℕ) → arrivals v d trees code (replicate n None) ≡ replicate n None
no_arrivals v d trees code zero = refl
no_arrivals v d trees code (suc n) = ap (λ ws. None ∷ ws) (no_arrivals v d trees code n)

pub followed_arrivals : (v : ℕ → ℕ) (d : List Node) (trees : Arena) (code : Listing) (s : Slot) (m : Memory) (is own : List Instruction) (pending : List (Option Slot)) → guarded v d trees code s ≡ Some m → is ≡ own → pending ≡ Some s ∷ replicate (length is) None
    → arrivals v d trees code pending ≡ Some m ∷ replicate (length own) None
followed_arrivals v d trees code s m is own pending first same e =
    let rest = no_arrivals v d trees code (length is) ∙ ap (λ (xs : List Instruction). replicate {A = Option Memory} (length xs) None) same in
    ap (arrivals v d trees code) e ∙ (λ k. first k ∷ rest k)
