-- Threads that do the same, and start threads that do the same.
use Rattle.std.specs.Prelude.{◌≡◌, ◌<◌, ◌^◌, ℕ, true}
use Rattle.actions.specs.Behaviour.{Thread}

pub record DoSame (t u : Thread) : Type 0 where
  pub behaves : t.behaves ≡ u.behaves
  pub startable : (f : ℕ) → t.program.can_start f ≡ u.program.can_start f
  pub others : (f v : ℕ) → t.program.can_start f ≡ true → v < 2 ^ 64 → t.program.behaves f v ≡ u.program.behaves f v
