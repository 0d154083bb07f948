-- What a thread is, by its state.
use Rattle.std.proofs.Common.{◌≡◌, ◌<◌, nat_lt, ℕ, true, List, [], refl, ap, sym, subst, ◌∙◌, arith}
use Rattle.std.proofs.lemmas.Bool.Decides.{nat_tests}
use Rattle.std.specs.Prelude.{Result, Ok, Err, IfOk, OnOk, OnErr}
use Rattle.core_tree.specs.Trees.{TypedFile, core_file, view_core}
use Rattle.actions.specs.Behaviour as actions
use Rattle.actions.specs.Behaviour.{Behaviour, accepts}
use Rattle.actions.specs.declared.action.Action.{Action}
use Rattle.actions.specs.declared.action.Answer.{Answer}
use Rattle.c_interp.specs.declared.thread.Thread.{Thread}
use Rattle.c_meaning.specs.Source.{code_of, source_program}
use Rattle.c_tasks.specs.Items.{State, behaves}
use Rattle.c_interp.specs.Work.{weight}
use Rattle.c_tasks.specs.Steps.{Move, silent, move}
use Rattle.c_tasks.specs.Tasks.{IsAsked}
use Rattle.c_interp.specs.Halts.{step_same, step_falls}
use Rattle.c_meaning.specs.Meaning.{Code}
use Rattle.c_interp.specs.View.{file_of, code_under, state_of, thread_of, next_move, SameProgram}

same_file : (t u : Thread) → SameProgram t u → file_of u ≡ file_of t
same_file t u p = λ i. view_core (core_file (p.0 i).now (p.1 i).now (p.2 i).now (p.6 i))

same_code : (t u : Thread) → SameProgram t u → code_under u ≡ code_under t
same_code t u p = λ i. code_of (same_file t u p i) (p.3 i).now

abbrev made : Behaviour → Thread → actions.Thread
made b t = record { behaves = b; program = source_program (file_of t) t.bounds.now t.startable }

same_made : (b : Behaviour) (t u : Thread) → SameProgram t u → made b u ≡ made b t
same_made b t u p = λ i. record { behaves = b; program = source_program (same_file t u p i) (p.3 i).now (p.4 i) }

-- what a state does in the program of a thread
abbrev doing : Thread → State → Behaviour
doing t s = behaves (code_under t) t.first s

same_doing : (t u : Thread) (s : State) → SameProgram t u → doing u s ≡ doing t s
same_doing t u s p = λ i. behaves (same_code t u p i) (p.5 i) s

-- a state that does what another does, of the same program
pub thread_same : (t u : Thread) (s : State) → SameProgram t u → state_of u ≡ s → doing t s ≡ doing t (state_of t) → thread_of u ≡ thread_of t
unfolding thread_of
thread_same t u s p e b =
    let q : doing u (state_of u) ≡ doing t (state_of t) = ap (doing u) e ∙ same_doing t u s p ∙ b in
    ap (λ b. made b u) q ∙ same_made (doing t (state_of t)) t u p

-- a state that does what follows an answer
pub thread_answered : (t u : Thread) (s : State) (a : Answer) → SameProgram t u → state_of u ≡ s → doing t s ≡ actions.after (doing t (state_of t)) a → thread_of u ≡ actions.answered (thread_of t) a
unfolding thread_of
thread_answered t u s a p e b =
    let q : doing u (state_of u) ≡ actions.after (doing t (state_of t)) a = ap (doing u) e ∙ same_doing t u s p ∙ b in
    ap (λ b. made b u) q ∙ same_made (actions.after (doing t (state_of t)) a) t u p

-- a silent step leaves less to be done
pub stepped_same : (t u : Thread) (s : State) → SameProgram t u → state_of u ≡ s → next_move t ≡ silent s → thread_of u ≡ thread_of t
stepped_same t u s p e m = thread_same t u s p e (sym (step_same (code_under t) t.first (state_of t) s m))

pub stepped_falls : (t u : Thread) (s : State) → SameProgram t u → state_of u ≡ s → next_move t ≡ silent s → weight (code_under u) (state_of u) < weight (code_under t) (state_of t)
stepped_falls t u s p e m =
    let now : weight (code_under u) (state_of u) ≡ weight (code_under t) s = λ i. weight (same_code t u p i) (e i) in
    let falls : weight (code_under t) s < weight (code_under t) (state_of t) = step_falls (code_under t) t.first (state_of t) s m in
    omega (arith, falls, now)

-- the same state of the same program
module _ (t u : Thread) (p : SameProgram t u) (e : state_of u ≡ state_of t) where
  pub state_same : thread_of u ≡ thread_of t
  state_same = thread_same t u (state_of t) p e refl

  pub asks_same : (q : Action) (line : ℕ) → IsAsked (next_move t) q line → IsAsked (next_move u) q line
  asks_same q line h =
      let same : next_move u ≡ next_move t = λ i. move (same_code t u p i) (p.5 i) true (e i) in
      let P : Move → Type 0 = λ m. IsAsked m q line in
      subst P (sym same) h

  pub accepts_same : (a : Answer) → accepts ((thread_of t).behaves []) a ≡ true → accepts ((thread_of u).behaves []) a ≡ true
  accepts_same a h = ap (λ (x : actions.Thread). accepts (x.behaves []) a) state_same ∙ h

-- what holds where a call has succeeded
pub on_ok : {T E : Type 0} (r : Result T E) (P Q : Type 0) → OnOk r P → (P → Q) → OnOk r Q
on_ok (Ok x) P Q h f = f h
on_ok (Err e) P Q h f = h

pub on_err : {T E : Type 0} (r : Result T E) (P Q : Type 0) → OnErr r P → (P → Q) → OnErr r Q
on_err (Ok x) P Q h f = h
on_err (Err e) P Q h f = f h

pub with_err : {T E : Type 0} (r : Result T E) (P : Type 0) → P → OnErr r P
with_err (Ok x) P h = tt
with_err (Err e) P h = h

-- what a test of two numbers says
pub less : (a b : ℕ) → nat_lt a b ≡ true → a < b
less a b h = grind (arith, nat_tests)

-- a value that a call gave, where it gave one
pub if_ok_same : {T E : Type 0} (r : Result T E) (x y : T) → IfOk r (λ z. z ≡ x) → x ≡ y → IfOk r (λ z. z ≡ y)
if_ok_same (Ok z) x y h e = h ∙ e
if_ok_same (Err e) x y h _ = h
