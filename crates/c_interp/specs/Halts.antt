-- Lemmas on a thread's state for the laws of its steps: what a plan says of what follows.
use Rattle.std.specs.Prelude.{◌≡◌, ◌<◌, ℕ, Bool, true, false, [], ◌∷◌, if◌then◌else◌}
use Rattle.std.proofs.Common.{refl, ap, sym, subst, ◌∙◌}
use Rattle.std.proofs.lemmas.Bool.{false≢true}
use Rattle.actions.specs.declared.action.Action.{Action}
use Rattle.actions.specs.declared.action.Action.TheVariants.{End, Exit}
use Rattle.actions.specs.declared.action.Answer.{Answer}
use Rattle.actions.specs.declared.action.Next.{Next}
use Rattle.actions.specs.declared.action.Next.TheVariants.{Act, Blocked}
use Rattle.actions.specs.Behaviour.{Behaviour, after, accepts, shape_of, has_shape}
use Rattle.c_tasks.specs.declared.task.Change.{Change}
use Rattle.c_tasks.specs.declared.task.Halt.{Halt}
use Rattle.c_tasks.specs.declared.task.Halt.TheVariants as halt
use Rattle.c_meaning.specs.Meaning.{Code, ask_in}
use Rattle.c_interp.specs.Work.{weight}
use Rattle.c_tasks.specs.Items.{State, state, running_of, behaves}
use Rattle.c_tasks.specs.Steps.{Move, silent, asks, breaks, blocks, ends, move}
use Rattle.c_interp.specs.inner.Adequate.{Meets, meets}
use Rattle.c_tasks.specs.Tasks.{behind, changed, action_of, IsAsked, IsHalt, next_by, Answers, Accepts}

module _ (code : Code) (first : Bool) (s : State) where
  met : (m : Move) → move code first true s ≡ m → Meets code first s m
  met m e = subst (Meets code first s) e (meets code first s)

  -- a silent step
  pub step_same : (t : State) → move code first true s ≡ silent t → behaves code first s ≡ behaves code first t
  step_same t e = (met (silent t) e).0

  pub step_falls : (t : State) → move code first true s ≡ silent t → weight code t < weight code s
  step_falls t e = (met (silent t) e).1

  -- what is next at an action or an end
  asked_next : (m : Move) (action : Action) (l : ℕ) → Meets code first s m → IsAsked m action l → Act action l s.active.function ≡ behaves code first s []
  asked_next (asks action line follows) asked l e d = (λ i. Act (sym d.0 i) (sym d.1 i) s.active.function) ∙ (λ i. sym e i [])
  asked_next (silent t) asked l e d = absurd d
  asked_next (breaks class line) asked l e d = absurd d
  asked_next blocks asked l e d = absurd d
  asked_next (ends v) asked l e d = absurd d

  pub halt_next : (p : Halt) → IsHalt (running_of code s.active) s.values s.structures s.variables (move code first true s) p → next_by (running_of code s.active) s.values s.structures s.variables p ≡ behaves code first s []
  halt_next (halt.Asks q l) h = asked_next (move code first true s) (action_of (running_of code s.active) s.values s.structures s.variables q) l (meets code first s) h
  halt_next (halt.Breaks class line) h = λ i. sym (met (breaks class line) h) i []
  halt_next halt.Blocks h = λ i. sym (met blocks h) i []
  halt_next (halt.Ends v) h = λ i. sym (met (ends v) h) i []

  -- what follows an answer
  if_true : (b : Bool) (x y : Next) → b ≡ true → (if b then x else y) ≡ x
  if_true true x y h = refl
  if_true false x y h = absurd (false≢true h)

  asked_after : (a : Answer) (m : Move) → Meets code first s m → accepts (behaves code first s []) a ≡ true → (t : State) → (line : ℕ) (follows : Answer → State) (action : _) → m ≡ asks action line follows → follows a ≡ t → behaves code first t ≡ after (behaves code first s) a
  asked_after a m e h t line follows action q f =
      let k : behaves code first s ≡ ask_in s.active.function action line (λ a. behaves code first (follows a)) = subst (Meets code first s) q e in
      let P : Behaviour → Type 0 = λ b. accepts (b []) a ≡ true in
      let shape : has_shape (shape_of action) a ≡ true = subst P k h in
      ap (behaves code first) (sym f) ∙ (λ i answers. sym (if_true (has_shape (shape_of action) a) (behaves code first (follows a) answers) Blocked shape) i) ∙ (λ i answers. sym k i (a ∷ answers))

  answered_by_change : (a : Answer) (c : Change) (asked : Action) (l : ℕ) (m : Move) → Meets code first s m → accepts (behaves code first s []) a ≡ true → IsAsked m asked l → Answers (behind s.items) s.active s.values s.structures s.variables m a c →
      behaves code first (changed c (behind s.items) s.active s.values s.structures s.variables) ≡ after (behaves code first s) a
  answered_by_change a c asked l (asks action line follows) e h d w =
      let k : behaves code first s ≡ ask_in s.active.function action line (λ a. behaves code first (follows a)) = e in
      asked_after a (asks action line follows) e h (changed c (behind s.items) s.active s.values s.structures s.variables) line follows action refl w
  answered_by_change a c asked l (silent t) e h d w = absurd d
  answered_by_change a c asked l (breaks class line) e h d w = absurd d
  answered_by_change a c asked l blocks e h d w = absurd d
  answered_by_change a c asked l (ends v) e h d w = absurd d

  pub change_after : (a : Answer) (c : Change) (asked : Action) (l : ℕ) → accepts (behaves code first s []) a ≡ true → IsAsked (move code first true s) asked l → Answers (behind s.items) s.active s.values s.structures s.variables (move code first true s) a c →
      behaves code first (changed c (behind s.items) s.active s.values s.structures s.variables) ≡ after (behaves code first s) a
  change_after a c asked l h d w = answered_by_change a c asked l (move code first true s) (meets code first s) h d w

  accepts_by : (a : Answer) (asked : Action) (l : ℕ) (m : Move) → Meets code first s m → accepts (behaves code first s []) a ≡ true → IsAsked m asked l → Accepts m a
  accepts_by a asked l (asks action line follows) e h d =
      let k : behaves code first s ≡ ask_in s.active.function action line (λ a. behaves code first (follows a)) = e in
      let P : Behaviour → Type 0 = λ b. accepts (b []) a ≡ true in
      subst P k h
  accepts_by a asked l (silent t) e h d = absurd d
  accepts_by a asked l (breaks class line) e h d = absurd d
  accepts_by a asked l blocks e h d = absurd d
  accepts_by a asked l (ends v) e h d = absurd d

  pub asked_accepts : (a : Answer) (asked : Action) (l : ℕ) → accepts (behaves code first s []) a ≡ true → IsAsked (move code first true s) asked l → Accepts (move code first true s) a
  asked_accepts a asked l h d = accepts_by a asked l (move code first true s) (meets code first s) h d

  -- an answer comes only to an action
  pub end_accepts : (a : Answer) (p : Halt) → IsHalt (running_of code s.active) s.values s.structures s.variables (move code first true s) p → accepts (next_by (running_of code s.active) s.values s.structures s.variables p) a ≡ false → accepts (behaves code first s []) a ≡ false
  end_accepts a p h k = ap (λ n. accepts n a) (sym (halt_next p h)) ∙ k
