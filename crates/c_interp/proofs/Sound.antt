-- Each step of a thread leaves a state that it can go on from.
use Rattle.std.proofs.Common.{◌≡◌, ◌≤◌, ◌^◌, Option, Some, None, ap, arith}
use Rattle.core_tree.specs.Trees.{Statement}
use Rattle.actions.specs.declared.action.Answer.{Answer}
use Rattle.c_tasks.specs.declared.task.Change.{Change}
use Rattle.c_interp.specs.declared.thread.Thread.{Thread}
use Rattle.c_tasks.specs.Items.{State}
use Rattle.c_tasks.specs.Steps.{silent}
use Rattle.c_tasks.specs.Fits.{Fits}
use Rattle.c_tasks.specs.Tasks.{items_in, values_in, structures_in, behind, activations, Accepts, Answers}
use Rattle.c_interp.specs.Keeps.{HoldsBytes}
use Rattle.c_interp.specs.View.{file_of, code_under, active_of, state_of, next_move, after_change, IsSound}
use Rattle.c_interp.specs.inner.FitsKept.{fits_kept, fits_answered}
use Rattle.c_interp.specs.inner.SizesKept.{sizes_kept}
use Rattle.c_interp.specs.inner.BytesKept.{bytes_kept, bytes_answered}
use Rattle.c_interp.proofs.CountsKept.{counts_kept, counts_answered}

abbrev statement_or : Statement → Option Statement → Statement
statement_or d None = d
statement_or d (Some s) = s

pub same_statement : (s t : Statement) → Some s ≡ Some t → s ≡ t
same_statement s t e = ap (statement_or s) e

pub sound_kept : (t : Thread) (s : State) → next_move t ≡ silent s → IsSound (file_of t) s
sound_kept t s e =
    let fewer = counts_kept (code_under t) t.first (state_of t) s e in
    let counted : activations s ≤ 2 ^ 42 = omega (arith, fewer, t.counted) in (
      fits_kept (file_of t) t.bounds.now t.small t.first t.all_typed (state_of t) s t.sized t.typed e,
      sizes_kept (file_of t) t.bounds.now t.first t.all_typed (state_of t) s t.sized t.typed e,
      counted,
      bytes_kept (file_of t) t.bounds.now t.first t.small_variables (state_of t) s t.sized t.typed t.held e,
    )

abbrev IsAnswer : Thread → Answer → Change → Type 0
IsAnswer t a c = Answers (behind (items_in t.tasks.items)) (active_of t) (values_in t.numbers.items) (structures_in t.structures.items) t.variables.items (next_move t) a c

pub answer_fits : (t : Thread) (a : Answer) (c : Change) → Accepts (next_move t) a → IsAnswer t a c → Fits (file_of t) (after_change t c)
answer_fits t a c h w = fits_answered (file_of t) t.bounds.now t.small t.first t.all_typed (state_of t) a c t.sized t.typed h w

pub answer_counted : (t : Thread) (a : Answer) (c : Change) → Accepts (next_move t) a → IsAnswer t a c → activations (after_change t c) ≤ 2 ^ 42
answer_counted t a c h w = let fewer = counts_answered (code_under t) t.first (state_of t) a c h w in omega (arith, fewer, t.counted)

pub answer_held : (t : Thread) (a : Answer) (c : Change) → Accepts (next_move t) a → IsAnswer t a c → HoldsBytes (after_change t c)
answer_held t a c h w = bytes_answered (file_of t) t.bounds.now t.first t.small_variables (state_of t) a c t.sized t.typed t.held h w
