-- The sizes of variables and objects by their numbers.
use Rattle.std.proofs.Common.{◌≡◌, ℕ, refl, ap, ◌∙◌}
use Rattle.std.specs.Prelude.{slice_get, option_map, Option, Some, None}
use Rattle.std.proofs.lemmas.Option.{slice_get-map}
use Rattle.c_types.specs.Layouts.{size_of}
use Rattle.core_tree.specs.declared.functions.Variable.{Variable}
use Rattle.c_scope.specs.Scopes.{Named, Scoped, variable_of, variables_in, object_entry_size, sizes, all_sizes}

size_there : (s : Scoped) (o : Option Named) → option_map (λ (v : Variable). v.size) (option_map (variable_of s.records.done) o) ≡ option_map (λ (n : Named). size_of s.records.done n.type) o
size_there s None = refl
size_there s (Some n) = refl

pub variable_size : (s : Scoped) (k : ℕ) → slice_get (sizes s) k ≡ option_map (λ (n : Named). size_of s.records.done n.type) (slice_get s.variables k)
variable_size s k =
    slice_get-map (λ (v : Variable). v.size) (variables_in s) k
    ∙ ap (option_map (λ (v : Variable). v.size)) (slice_get-map (variable_of s.records.done) s.variables k)
    ∙ size_there s (slice_get s.variables k)

pub object_size : (s : Scoped) (k : ℕ) → slice_get (all_sizes s).objects k ≡ option_map (object_entry_size s.records.done) (slice_get s.objects k)
object_size s k = slice_get-map (object_entry_size s.records.done) s.objects k
