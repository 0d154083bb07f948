-- The thread of the code as a state, and what it does.
use Rattle.std.specs.Prelude.{◌≡◌, ◌≤◌, ◌+◌, ◌^◌, true}
use Rattle.core_tree.specs.Trees.{TypedFile, core_file, view_core}
use Rattle.actions.specs.Behaviour as actions
use Rattle.c_interp.specs.declared.thread.Thread.{Thread}
use Rattle.c_tasks.specs.declared.task.Halt.{Halt}
use Rattle.c_tasks.specs.declared.task.Change.{Change}
use Rattle.c_tasks.specs.declared.task.Cut.{Cut}
use Rattle.c_tasks.specs.declared.task.Plan.{Plan}
use Rattle.c_meaning.specs.Meaning.{Code, Running}
use Rattle.c_meaning.specs.Source.{code_of}
use Rattle.c_tasks.specs.Steps.{Move, move, out_of}
use Rattle.c_tasks.specs.Fits.{Fits, IsSized, variables_at}
use Rattle.c_tasks.specs.Items.{Active, active, running_of, State, state}
use Rattle.c_tasks.specs.Tasks.{way_of, items_in, values_in, structures_in, behind, changed, activations, IsPlan, WritesWithin, IsHalt}
use Rattle.c_interp.specs.Keeps.{HoldsBytes}
use Rattle.c_interp.specs.SourceThread.{thread_in, is_thread}

abbrev pub file_of : Thread → TypedFile
file_of t = view_core (core_file t.functions.now t.objects.now t.literals.now t.pointers)

abbrev pub code_under : Thread → Code
code_under t = code_of (file_of t) t.bounds.now

abbrev pub active_of : Thread → Active
active_of t = active t.function t.left.items

abbrev pub running_under : Thread → Running
running_under t = running_of (code_under t) (active_of t)

abbrev pub state_of : Thread → State
state_of t = state (items_in t.tasks.items) (active_of t) (values_in t.numbers.items) (structures_in t.structures.items) t.variables.items

-- (a proof that goes into it says so: elsewhere what it is made of is too large to be compared)
unfoldable pub thread_of : Thread → actions.Thread
thread_of t = thread_in (file_of t) t.bounds.now t.startable t.first (state_of t)

pub thread_is : (t : Thread) → actions.IsThread (thread_of t)
unfolding thread_of
thread_is t = is_thread (file_of t) t.bounds.now t.small t.all_typed t.small_variables t.startable t.first (state_of t) (t.typed, t.sized, t.held)

-- both run the same file under the same bounds, and can start the same threads
abbrev pub SameProgram : Thread → Thread → Type 0
SameProgram t u = (u.functions ≡ t.functions) × (u.objects ≡ t.objects) × (u.literals ≡ t.literals) × (u.bounds ≡ t.bounds) × (u.startable ≡ t.startable) × (u.first ≡ t.first) × (u.pointers ≡ t.pointers)

abbrev pub next_move : Thread → Move
next_move t = move (code_under t) t.first true (state_of t)

-- this is what comes next, which is no silent step
abbrev pub Halts : Thread → Halt → Type 0
Halts t p = IsHalt (running_under t) (values_in t.numbers.items) (structures_in t.structures.items) t.variables.items (next_move t) p

-- this is planned
abbrev pub IsPlanned : Thread → Plan → Type 0
IsPlanned t p =
    IsPlan (file_of t) (running_under t) (items_in t.tasks.items) (active_of t) (values_in t.numbers.items) (structures_in t.structures.items) t.variables.items (next_move t) p
    × WritesWithin (variables_at (file_of t) t.function) (structures_in t.structures.items) p

-- the state after a change, and where a way out of statements leads
abbrev pub after_change : Thread → Change → State
after_change t c = changed c (behind (items_in t.tasks.items)) (active_of t) (values_in t.numbers.items) (structures_in t.structures.items) t.variables.items

abbrev pub after_cut : Thread → Cut → State
after_cut t c = out_of (way_of c) (items_in t.tasks.items) (active_of t) (values_in t.numbers.items) (structures_in t.structures.items) t.variables.items

-- what each state of a thread keeps to: its items can be done, its variables are there, not too many activations are open, and all that is held is bytes
abbrev pub IsSound : TypedFile → State → Type 0
IsSound file s = Fits file s × IsSized file s × (activations s ≤ 2 ^ 42) × HoldsBytes s
