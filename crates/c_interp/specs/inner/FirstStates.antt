-- The start of a thread is a state that it can go on from.
use Rattle.std.proofs.Common.{◌≡◌, ℕ, true, ◌&&◌, [], ◌∷◌, Option, Some, None, slice_get, refl, ap, sym, ◌∙◌}
use Rattle.std.specs.Prelude.{option_map}
use Rattle.std.proofs.lemmas.Option.{slice_get-map}
use Rattle.core_tree.specs.declared.functions.PassedType.{PassedType}
use Rattle.core_tree.specs.Trees.{Procedure, no_argument, TypedFile}
use Rattle.core_tree.specs.Typed.{Signature, signature, sizes_of_variables}
use Rattle.c_values.specs.Variables.{first_variables}
use Rattle.c_meaning.specs.Meaning as meaning
use Rattle.c_meaning.specs.Meaning.{variables_of}
use Rattle.c_tasks.specs.Items.{wants_end, gathers}
use Rattle.c_tasks.specs.Fits.{sizes_of, is_given, wanted_of, variables_at, fits}
use Rattle.c_tasks.proofs.Sizes.{first_sizes}

any_given : (line : ℕ) (gives : Option PassedType) → is_given (wants_end line) gives ≡ true
any_given line None = refl
any_given line (Some p) = refl

module _ (file : TypedFile) (f : ℕ) (p : Procedure) (k : slice_get file.functions f ≡ Some p) where
  pub start_fits : (line : ℕ) → fits file (gathers (wants_end line) f 0 no_argument ∷ []) f [] [] ≡ true
  start_fits line =
      let e = slice_get-map signature file.functions f ∙ ap (option_map signature) k in
      ap (λ (o : Option Signature). wanted_of (wants_end line) o && true && true && true) e ∙ ap (λ b. b && true && true && true) (any_given line p.gives)

  pub start_sized : sizes_of (first_variables (meaning.sizes_of p.variables)) ≡ variables_at file f
  start_sized = first_sizes (meaning.sizes_of p.variables) ∙ sym (ap (λ (o : Option Procedure). sizes_of_variables (variables_of o)) k)
