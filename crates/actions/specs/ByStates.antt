-- The behaviour of a machine that goes from state to state, and why it is one that a thread may have.
use Rattle.std.specs.Prelude.{◌≡◌, Bool, true, false, List, [], ◌∷◌, ◌++◌, if◌then◌else◌, refl}
use Rattle.std.proofs.Common.{sym, ◌∙◌, true≢false}
use Rattle.actions.specs.declared.action.Action.TheVariants.{End, Exit}
use Rattle.actions.specs.declared.action.Answer.{Answer}
use Rattle.actions.specs.declared.action.Next.{Next}
use Rattle.actions.specs.declared.action.Next.TheVariants.{Act, Blocked}
use Rattle.actions.specs.Behaviour.{Behaviour, accepts, Program, CanStart, MakesProper, EndsAfter, IsProper, IsBehaviour}

ends_none : (n : Next) (a : Answer) → accepts n a ≡ false → EndsAfter n a Blocked
ends_none (Act (End v) line function) a e = λ ok. absurd (true≢false (sym ok ∙ e))
ends_none (Act Exit line function) a e = λ ok. absurd (true≢false (sym ok ∙ e))
ends_none _ a e = tt

ends_here : (n : Next) (a : Answer) (m : Next) (b : Bool) → accepts n a ≡ b → EndsAfter n a m → EndsAfter n a (if b then m else Blocked)
ends_here n a m true e h = h
ends_here n a m false e h = ends_none n a e

module _ {S : Type 0} (next : S → Next) (step : S → Answer → S) where
  -- what is next in a state after these answers; after one that can't come the machine is blocked
  abbrev pub behaviour_of : S → Behaviour
  behaviour_of s [] = next s
  behaviour_of s (a ∷ answers) = if accepts (next s) a then behaviour_of (step s a) answers else Blocked

  -- either side of a choice by whether an answer is accepted
  both_blocked : (b : Bool) (x y : Next) (a : Answer) → (accepts x a ≡ false → y ≡ Blocked) → accepts (if b then x else Blocked) a ≡ false → (if b then y else Blocked) ≡ Blocked
  both_blocked true x y a rest h = rest h
  both_blocked false x y a rest h = refl

  proper_by : (s : S) (before : List Answer) (a : Answer) (later : List Answer) → accepts (behaviour_of s before) a ≡ false → behaviour_of s (before ++ a ∷ later) ≡ Blocked
  proper_by s [] a later h = λ i. if h i then behaviour_of (step s a) later else Blocked
  proper_by s (x ∷ before) a later h =
      both_blocked (accepts (next s) x) (behaviour_of (step s x) before) (behaviour_of (step s x) (before ++ a ∷ later)) a (λ e. proper_by (step s x) before a later e) h

  pub proper_by_states : (s : S) → IsProper (behaviour_of s)
  proper_by_states s = λ before a later h. proper_by s before a later h

  -- the machine keeps something of its states, from which follows what is asked of what comes next
  module _
      (program : Program) (Holds : S → Type 0)
      (kept : (s : S) (a : Answer) → Holds s → accepts (next s) a ≡ true → Holds (step s a))
      (creates : (s : S) → Holds s → CanStart program (next s))
      (makes : (s : S) → Holds s → MakesProper (next s))
      (ends : (s : S) (a : Answer) → Holds s → EndsAfter (next s) a (next (step s a))) where
    creates_choice : (b : Bool) (x : Next) → (b ≡ true → CanStart program x) → CanStart program (if b then x else Blocked)
    creates_choice true x h = h refl
    creates_choice false x h = tt

    creates_by : (s : S) → Holds s → (answers : List Answer) → CanStart program (behaviour_of s answers)
    creates_by s h [] = creates s h
    creates_by s h (x ∷ answers) = creates_choice (accepts (next s) x) (behaviour_of (step s x) answers) (λ e. creates_by (step s x) (kept s x h e) answers)

    makes_choice : (b : Bool) (x : Next) → (b ≡ true → MakesProper x) → MakesProper (if b then x else Blocked)
    makes_choice true x h = h refl
    makes_choice false x h = tt

    makes_by : (s : S) → Holds s → (answers : List Answer) → MakesProper (behaviour_of s answers)
    makes_by s h [] = makes s h
    makes_by s h (x ∷ answers) = makes_choice (accepts (next s) x) (behaviour_of (step s x) answers) (λ e. makes_by (step s x) (kept s x h e) answers)

    ends_choice : (b : Bool) (x y : Next) (a : Answer) → (b ≡ true → EndsAfter x a y) → EndsAfter (if b then x else Blocked) a (if b then y else Blocked)
    ends_choice true x y a h = h refl
    ends_choice false x y a h = tt

    ends_by : (s : S) → Holds s → (answers : List Answer) (a : Answer) → EndsAfter (behaviour_of s answers) a (behaviour_of s (answers ++ a ∷ []))
    ends_by s h [] a = ends_here (next s) a (next (step s a)) (accepts (next s) a) refl (ends s a h)
    ends_by s h (x ∷ answers) a =
        ends_choice (accepts (next s) x) (behaviour_of (step s x) answers) (behaviour_of (step s x) (answers ++ a ∷ [])) a (λ e. ends_by (step s x) (kept s x h e) answers a)

    pub behaves_by_states : (s : S) → Holds s → IsBehaviour program (behaviour_of s)
    behaves_by_states s h = record { proper = proper_by_states s; creates = creates_by s h; makes = makes_by s h; ends = ends_by s h }
