use Rattle.std.proofs.Common.{◌≡◌, ℕ, ◌+◌, ◌^◌, ◌≤◌, ◌∷◌, ◌++◌, length, drop, true, Some, None}
use Rattle.std.specs.Prelude.{replicate}
use Rattle.word_dag.specs.Growth.{Extends}
use Rattle.goto_prog.specs.CodeThread.{first_memory}
use Rattle.guarded_ssa.specs.inner.Places.{told}
use Rattle.goto_prog.specs.Static.{is_static_code}
use Rattle.event_forms.specs.Forms.{AreStatic, seen}
use Rattle.guarded_ssa.specs.inner.Held.{PassIn, arrivals}
use Rattle.guarded_ssa.proofs.forming.events_of.Given as goal

abbrev pub invariant-loop-place : goal.invariant-loop-place
invariant-loop-place l = record {
  extends : Extends l.fn.dag l.dag;
  few : l.variable ≤ 2 ^ 32;
  within : PassIn l.dag l.code l.pass;
  size : length l.pass.pending.items + l.place ≡ length l.code.instructions + 1;
  static : is_static_code l.code.instructions ≡ true → AreStatic l.dag l.pass.events.items;
  goes : (v : ℕ → ℕ) → seen v l.dag l.pass.events.items ++ told v l.code.blocks l.variable (drop l.place l.code.instructions) (arrivals v l.dag l.pass.trees l.code l.pass.pending.items)
      ≡ told v l.code.blocks 0 l.code.instructions (Some (first_memory l.code) ∷ replicate (length l.code.instructions) None);
}
