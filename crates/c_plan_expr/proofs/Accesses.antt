-- Accesses within a variable without an address, and where a pointer tells where a place is.
use Rattle.std.proofs.Common.{◌≡◌, ℕ, ◌+◌, Bool, true, false, nat_le, List, length, take, drop, refl, ap, ◌∙◌}
use Rattle.std.specs.Prelude.{Option, None, Some, if◌then◌else◌}
use Rattle.words.specs.declared.check.Class.TheVariants.{Bounds}
use Rattle.core_tree.specs.Trees.{Place}
use Rattle.core_tree.specs.Typed.{is_place, is_within}
use Rattle.actions.specs.declared.action.Action.TheVariants.{Read, Write}
use Rattle.actions.specs.Pointer.{offset_of}
use Rattle.c_values.specs.Variables.{Variables, block_of, put_bytes}
use Rattle.c_meaning.specs.Meaning.{Code, bytes_in, size_of, variable_of}
use Rattle.c_tasks.specs.declared.task.Look.{Look}
use Rattle.c_tasks.specs.Items.{Active, running_of, State}
use Rattle.c_tasks.specs.Fits.{sizes_for, variables_at}
use Rattle.c_tasks.specs.Steps.{silent, asks, breaks, move_bytes, move_put}
use Rattle.c_tasks.specs.Plans.{file_in, running_in}
use Rattle.c_tasks.proofs.Places.{bytes_within}

module _ (code : Code) (first : Bool) (r : Active) (vs : Variables) where
  pub asked_bytes : (o : Option ℕ) (at count line : ℕ) (next : List ℕ → State) → o ≡ None → move_bytes code first true o at count line r vs next ≡ asks (Read at count) line (λ a. next (bytes_in a))
  asked_bytes o at count line next e = ap (λ (o : Option ℕ). move_bytes code first true o at count line r vs next) e

  pub outside_bytes : (o : Option ℕ) (v at count line : ℕ) (next : List ℕ → State) → o ≡ Some v → nat_le (offset_of at + count) (size_of (running_of code r) v) ≡ false → move_bytes code first true o at count line r vs next ≡ breaks Bounds line
  outside_bytes o v at count line next e h =
      ap (λ (o : Option ℕ). move_bytes code first true o at count line r vs next) e
      ∙ ap (λ b. if b then silent (next (take count (drop (offset_of at) (block_of vs v)))) else breaks Bounds line) h

  pub inside_bytes : (o : Option ℕ) (v at count line : ℕ) (next : List ℕ → State) → o ≡ Some v → nat_le (offset_of at + count) (size_of (running_of code r) v) ≡ true →
      move_bytes code first true o at count line r vs next ≡ silent (next (take count (drop (offset_of at) (block_of vs v))))
  inside_bytes o v at count line next e h =
      ap (λ (o : Option ℕ). move_bytes code first true o at count line r vs next) e
      ∙ ap (λ b. if b then silent (next (take count (drop (offset_of at) (block_of vs v)))) else breaks Bounds line) h

  pub asked_put : (o : Option ℕ) (at : ℕ) (new : List ℕ) (line : ℕ) (next : Variables → State) → o ≡ None → move_put code first true o at new line r vs next ≡ asks (Write at new false) line (λ a. next vs)
  asked_put o at new line next e = ap (λ (o : Option ℕ). move_put code first true o at new line r vs next) e

  pub outside_put : (o : Option ℕ) (v at : ℕ) (new : List ℕ) (line : ℕ) (next : Variables → State) → o ≡ Some v → nat_le (offset_of at + length new) (size_of (running_of code r) v) ≡ false → move_put code first true o at new line r vs next ≡ breaks Bounds line
  outside_put o v at new line next e h =
      ap (λ (o : Option ℕ). move_put code first true o at new line r vs next) e
      ∙ ap (λ b. if b then silent (next (put_bytes vs v (offset_of at) new)) else breaks Bounds line) h

  pub inside_put : (o : Option ℕ) (v at : ℕ) (new : List ℕ) (line : ℕ) (next : Variables → State) → o ≡ Some v → nat_le (offset_of at + length new) (size_of (running_of code r) v) ≡ true →
      move_put code first true o at new line r vs next ≡ silent (next (put_bytes vs v (offset_of at) new))
  inside_put o v at new line next e h =
      ap (λ (o : Option ℕ). move_put code first true o at new line r vs next) e
      ∙ ap (λ b. if b then silent (next (put_bytes vs v (offset_of at) new)) else breaks Bounds line) h

-- what is written there lies in it
pub bytes_lie : (l : Look) (p : Place) (n v offset count : ℕ) → is_place (sizes_for (file_in l) l.function) n p ≡ true → variable_of (running_in l) p ≡ Some v → nat_le (offset + count) (size_of (running_in l) v) ≡ true →
    is_within (variables_at (file_in l) l.function) v offset count ≡ true
bytes_lie l p n v offset count h e w = bytes_within (sizes_for (file_in l) l.function) (running_in l) p n v offset count refl h e w
