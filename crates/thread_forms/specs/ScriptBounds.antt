-- Scripts whose threads of threads create none are bounded threads.
use Rattle.std.specs.Prelude.{◌≡◌, ◌<◌, ◌+◌, ◌^◌, ◌&&◌, ℕ, Bool, true, false, nat_lt, List, length, drop, IfSome}
use Rattle.std.specs.List.{list_all}
use Rattle.actions.specs.Objects.{Objects, object_at}
use Rattle.interleave.specs.declared.script.Step.{Step}
use Rattle.interleave.specs.declared.script.Step.TheVariants.{Create, End}
use Rattle.interleave.specs.Script.{thread_of, start_at}
use Rattle.weave.specs.Tables.{shared}
use Rattle.thread_forms.specs.Bounds.{IsTyped, IsBounded}

abbrev pub ends_small : Step → Bool
ends_small (End v) = nat_lt v (2 ^ 64)
ends_small _ = true

abbrev pub creates_none : Step → Bool
creates_none (Create f) = false
creates_none _ = true

-- a thread that the step creates meets no Create
abbrev pub forks_once : List Step → Step → Bool
forks_once steps (Create f) = list_all creates_none (drop f steps)
forks_once steps _ = true

abbrev pub is_small_script : List Step → Bool
is_small_script steps = list_all (λ (s : Step). ends_small s && forks_once steps s) steps

abbrev pub ScriptsAreBounded : Type 0
ScriptsAreBounded =
    (steps : List Step) (objects : Objects) → is_small_script steps ≡ true → length objects + length steps < 65536 → ((k : ℕ) → IfSome (object_at objects k) IsTyped) → IsBounded (thread_of steps (start_at 0)) objects

abbrev pub SharedIsTyped : Type 0
SharedIsTyped = (k : ℕ) → IfSome (object_at shared k) IsTyped
