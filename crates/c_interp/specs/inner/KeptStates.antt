-- What a thread keeps of its states, by silent steps and by answers.
use Rattle.std.proofs.Common.{◌≡◌, ◌≤◌, ℕ, zero, suc, Bool, true, refl, subst}
use Rattle.core_tree.specs.Ranges.{Limits}
use Rattle.core_tree.specs.Trees.{TypedFile}
use Rattle.core_tree.specs.Typed.{are_typed, have_small}
use Rattle.actions.specs.declared.action.Answer.{Answer}
use Rattle.actions.specs.Behaviour.{accepts, MakesProper}
use Rattle.c_meaning.specs.Meaning.{Code}
use Rattle.c_meaning.specs.Source.{code_of}
use Rattle.c_tasks.specs.Items.{State}
use Rattle.c_tasks.specs.Steps.{Move, silent, asks, breaks, blocks, ends, move}
use Rattle.c_interp.specs.Work.{weight}
use Rattle.c_interp.specs.Small.{stepped_on, next_of, answered_by, settled, settle, next_small, answered_small}
use Rattle.c_interp.specs.Keeps.{IsKept}
use Rattle.c_interp.specs.inner.FitsKept.{KeepsFit, fit_of_next}
use Rattle.c_interp.specs.inner.SizesKept.{KeepsSizes, sizes_of_next}
use Rattle.c_interp.specs.inner.BytesKept.{KeepsBytes, bytes_of_next}

module _ (file : TypedFile) (limits : Limits) (few_bytes : limits.malloc_limit ≤ 4096) (first : Bool) (all_typed : are_typed file ≡ true) (all_small : have_small file.functions ≡ true) where
  abbrev code : Code
  code = code_of file limits

  -- what follows in a kept state
  module _ (s : State) (k : IsKept file s) (m : Move) (e : move code first true s ≡ m) where
    fit : KeepsFit file limits few_bytes first all_typed m
    fit = subst (KeepsFit file limits few_bytes first all_typed) e (fit_of_next file limits few_bytes first all_typed s k.1 k.0)

    sized : KeepsSizes file limits first all_typed m
    sized = subst (KeepsSizes file limits first all_typed) e (sizes_of_next file limits first all_typed s k.1 k.0)

    held : KeepsBytes file limits first all_small m
    held = subst (KeepsBytes file limits first all_small) e (bytes_of_next file limits first all_small s k.1 k.0 k.2)

  step_kept : (m : Move) (s : State) → IsKept file s → move code first true s ≡ m → (go : State → State) → ((t : State) → IsKept file t → IsKept file (go t)) → IsKept file (stepped_on m s go)
  step_kept (silent t) s k e go each = each t (fit s k (silent t) e, sized s k (silent t) e, held s k (silent t) e)
  step_kept (asks action line follows) s k e go each = k
  step_kept (breaks class line) s k e go each = k
  step_kept blocks s k e go each = k
  step_kept (ends v) s k e go each = k

  settled_kept : (n : ℕ) (s : State) → IsKept file s → IsKept file (settled code first true n s)
  settled_kept zero s k = k
  settled_kept (suc n) s k = step_kept (move code first true s) s k refl (settled code first true n) (settled_kept n)

  answer_kept : (m : Move) (s : State) → IsKept file s → move code first true s ≡ m → (a : Answer) → accepts (next_of s.active m) a ≡ true → IsKept file (answered_by m a s)
  answer_kept (asks action line follows) s k e a h =
      let m = asks action line follows in (fit s k m e a h, sized s k m e a, (held s k m e).1 a h)
  answer_kept (silent t) s k e a h = k
  answer_kept (breaks class line) s k e a h = k
  answer_kept blocks s k e a h = k
  answer_kept (ends v) s k e a h = k

  made : (m : Move) (s : State) → IsKept file s → move code first true s ≡ m → MakesProper (next_of s.active m)
  made (asks action line follows) s k e = (held s k (asks action line follows) e).0
  made (silent t) s k e = tt
  made (breaks class line) s k e = tt
  made blocks s k e = tt
  made (ends v) s k e = tt

  pub small_kept : (s : State) (a : Answer) → IsKept file s → accepts (next_small code first true (weight code) s) a ≡ true → IsKept file (answered_small code first true (weight code) s a)
  small_kept s a k h = let t = settle code first s in answer_kept (move code first true t) t (settled_kept (weight code s) s k) refl a h

  pub small_makes : (s : State) → IsKept file s → MakesProper (next_small code first true (weight code) s)
  small_makes s k = let t = settle code first s in made (move code first true t) t (settled_kept (weight code s) s k) refl
