-- Sections and the end of the process, at one move.
use Rattle.std.proofs.Common.{◌≡◌, ℕ, Bool, true, false, not, ◌&&◌, Option, Some, None, ◌⊎◌, inl, inr, refl, sym, ap, ◌∙◌, nat_eq, true≢false}
use Rattle.std.proofs.lemmas.Bool.{eq-eqb, ne_eqb}
use Rattle.actions.specs.declared.action.Action.{Action}
use Rattle.actions.specs.declared.action.Action.TheVariants.{SectionBegin, SectionEnd, Exit}
use Rattle.actions.specs.declared.action.Answer.{Answer}
use Rattle.actions.specs.declared.action.Answer.TheVariants as answer
use Rattle.actions.specs.declared.action.Next.{Next}
use Rattle.actions.specs.declared.action.Next.TheVariants.{Act, Ended, Blocked, Broken}
use Rattle.actions.specs.declared.thread_state.ThreadState.{ThreadState}
use Rattle.actions.specs.declared.thread_state.ThreadState.TheVariants as thread_state
use Rattle.actions.specs.Memory.{Memory, thread_at, Change}
use Rattle.actions.specs.Row.{moves, outcome_in}
use Rattle.actions.specs.Table.{Mode, plain, opens, closes, exits, mode_of}
use Rattle.interleave.specs.World.{Common, is_free_for, is_running, may_move, section_after, ended_after}
use Rattle.weave.specs.Step.{row_by, mode_by}
use Rattle.weave.specs.Consistent.{inside_after}

-- whether thread k is in the section
abbrev pub is_inside : ℕ → Option ℕ → Bool
is_inside k None = false
is_inside k (Some j) = nat_eq j k

-- no other thread than t is in the section
abbrev pub IsFree : ℕ → Option ℕ → Type 0
IsFree t None = Unit {0}
IsFree t (Some j) = j ≡ t

free_by : (t : ℕ) (section : Option ℕ) → IsFree t section → is_free_for t section ≡ true
free_by t None h = refl
free_by t (Some j) h = eq-eqb j t h

free_from : (t : ℕ) (section : Option ℕ) → is_free_for t section ≡ true → IsFree t section
free_from t None h = tt
free_from t (Some j) h = Rattle.std.proofs.lemmas.Bool.eqb-true j t h

-- the section after a move of t is t's own, or none, as its groups say
pub record IsNextSection (t : ℕ) (inside : Bool) (section : Option ℕ) : Type 0 where
  pub own : (section ≡ None) ⊎ (section ≡ Some t)
  pub same : is_inside t section ≡ inside

inside_some : (t : ℕ) → is_inside t (Some t) ≡ true
inside_some t = eq-eqb t t refl

pub next_section : (t : ℕ) (mode : Mode) (section : Option ℕ) → IsFree t section → IsNextSection t (inside_after mode (is_inside t section)) (section_after mode t section)
next_section t opens section h = record { own = inr refl; same = inside_some t }
next_section t closes section h = record { own = inl refl; same = refl }
next_section t plain None h = record { own = inl refl; same = refl }
next_section t plain (Some j) h = record { own = inr (ap Some h); same = refl }
next_section t exits None h = record { own = inl refl; same = refl }
next_section t exits (Some j) h = record { own = inr (ap Some h); same = refl }

outside_by : (t k : ℕ) → (k ≡ t → ⊥) → (section : Option ℕ) → IsFree t section → is_inside k section ≡ false
outside_by t k a None h = refl
outside_by t k a (Some j) h = ne_eqb j k (λ e. a (sym e ∙ h))

outside_own : (t k : ℕ) → (k ≡ t → ⊥) → (section : Option ℕ) → (section ≡ None) ⊎ (section ≡ Some t) → is_inside k section ≡ false
outside_own t k a section (inl e) = ap (is_inside k) e
outside_own t k a section (inr e) = ap (is_inside k) e ∙ ne_eqb t k (λ f. a (sym f))

-- no other thread is in the section, before or after
pub outside : (t k : ℕ) (mode : Mode) (section : Option ℕ) → (k ≡ t → ⊥) → IsFree t section → is_inside k (section_after mode t section) ≡ is_inside k section
outside t k mode section a h = outside_own t k a (section_after mode t section) (next_section t mode section h).own ∙ sym (outside_by t k a section h)

-- ---- who may move

runs_by : (o : Option ThreadState) → is_running o ≡ true → o ≡ Some thread_state.Running
runs_by None h = absurd (true≢false (sym h))
runs_by (Some thread_state.Running) h = refl
runs_by (Some (thread_state.Ended v)) h = absurd (true≢false (sym h))

pub may_by : (c : Common) (t : ℕ) → c.ended ≡ false → IsFree t c.section → thread_at c.memory.threads t ≡ Some thread_state.Running → may_move c t ≡ true
may_by c t e h r =
    ap (λ (b : Bool). not b && (is_free_for t c.section && is_running (thread_at c.memory.threads t))) e
    ∙ ap (λ (b : Bool). b && is_running (thread_at c.memory.threads t)) (free_by t c.section h) ∙ ap is_running r

pub record May (c : Common) (t : ℕ) : Type 0 where
  pub goes_on : c.ended ≡ false
  pub free : IsFree t c.section
  pub runs : thread_at c.memory.threads t ≡ Some thread_state.Running

may_ended : (c : Common) (t : ℕ) (b f r : Bool) → c.ended ≡ b → is_free_for t c.section ≡ f → is_running (thread_at c.memory.threads t) ≡ r → (not b && (f && r)) ≡ true → May c t
may_ended c t true f r e g h k = absurd (true≢false (sym k))
may_ended c t false true true e g h k = record { goes_on = e; free = free_from t c.section g; runs = runs_by (thread_at c.memory.threads t) h }
may_ended c t false true false e g h k = absurd (true≢false (sym k))
may_ended c t false false r e g h k = absurd (true≢false (sym k))

pub may_from : (c : Common) (t : ℕ) → may_move c t ≡ true → May c t
may_from c t h = may_ended c t c.ended (is_free_for t c.section) (is_running (thread_at c.memory.threads t)) refl refl refl h

-- ---- an Exit

exit_of : (action : Action) → mode_of action ≡ exits → action ≡ Exit
exit_of Exit e = refl
exit_of SectionBegin e = absurd (cc e)
exit_of SectionEnd e = absurd (cc e)
exit_of _ e = absurd (cc e)

pub record IsExit (n : Next) (a : Answer) : Type 0 where
  pub line : ℕ
  pub function : ℕ
  pub exit : n ≡ Act Exit line function
  pub done : a ≡ answer.Done

done_of : (m : Memory) (t own line function : ℕ) (n : Next) (a : Answer) (change : Change) → n ≡ Act Exit line function → outcome_in m (row_by t own n) ≡ moves a change → a ≡ answer.Done
done_of m t own line function n a change e h = cc (sym (ap (λ (x : Next). outcome_in m (row_by t own x)) e) ∙ h)

pub exit_by : (m : Memory) (t own : ℕ) (n : Next) (a : Answer) (change : Change) → mode_by n ≡ exits → outcome_in m (row_by t own n) ≡ moves a change → IsExit n a
exit_by m t own (Act action line function) a change e h =
    let f : Act action line function ≡ Act Exit line function = ap (λ (x : Action). Act x line function) (exit_of action e) in
    record { line = line; function = function; exit = f; done = done_of m t own line function (Act action line function) a change f h }
exit_by m t own (Ended w) a change e h = absurd (cc e)
exit_by m t own Blocked a change e h = absurd (cc e)
exit_by m t own (Broken class line function) a change e h = absurd (cc e)

-- the process has ended after a move only where that was an Exit
pub ended_or : (mode : Mode) (ended : Bool) → ended ≡ false → ended_after mode ended ≡ true → mode ≡ exits
ended_or plain ended e h = absurd (true≢false (sym h ∙ e))
ended_or opens ended e h = absurd (true≢false (sym h ∙ e))
ended_or closes ended e h = absurd (true≢false (sym h ∙ e))
ended_or exits ended e h = refl
