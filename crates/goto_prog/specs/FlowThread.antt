-- A thread of flat code that may stand within an instruction of several words is one that a thread may be.
use Rattle.std.specs.Prelude.{ℕ, zero, suc, Bool, List, [], Option, Some, None, drop, slice_get, ◌+◌}
use Rattle.actions.specs.Behaviour.{Program, IsBehaviour, IsThread}
use Rattle.goto_prog.specs.declared.code.Instruction.{Instruction}
use Rattle.goto_prog.specs.Meaning.{Given, places}
use Rattle.goto_prog.specs.Threads.{behaving, final}
use Rattle.goto_prog.specs.Fine.{places_fine, rest_fine}
use Rattle.goto_prog.specs.CodeThread.{code_program, no_calls, nothing_over, is_thread as is_code_thread}
use Rattle.goto_prog.specs.Running.{Running, Flowing, thread_of, goes_on_from, goes_on_with, flow_thread}

from_fine : (words : ℕ) (r : Running) (i : Option Instruction) → IsBehaviour (code_program r.strict r.functions) (goes_on_from words r i)
from_fine words r None = (is_code_thread r.strict r.functions r.code r.place r.memory).itself
from_fine words r (Some i) =
    let program : Program = code_program r.strict r.functions in
    let code = drop (r.place + 1) r.code.instructions in
    rest_fine program _ _ (no_calls program) (nothing_over program) words r.strict 0 i.line i.function i.operation (places behaving r.strict 1 code) r.memory
    (places_fine program _ _ (no_calls program) (nothing_over program) r.strict 1 code [] tt)

with_fine : (words : ℕ) (r : Running) → IsBehaviour (code_program r.strict r.functions) (goes_on_with words r)
with_fine zero r = (is_code_thread r.strict r.functions r.code r.place r.memory).itself
with_fine (suc k) r = from_fine (suc k) r (slice_get r.code.instructions r.place)

pub is_thread : (f : Flowing) → IsThread (flow_thread f)
is_thread f = record {
  itself = with_fine f.words f.runner;
  others = (is_code_thread f.runner.strict f.runner.functions f.runner.code f.runner.place f.runner.memory).others;
}
