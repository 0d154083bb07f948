use Rattle.std.specs.Prelude.{ℕ, List, Option, option_map, find, string_bytes, min, length, take, drop, ◌≡◌, ◌-◌}
use Rattle.std.specs.Str.{bytes_eq}
use Rattle.outside.specs.declared.held_file.HeldFile.{HeldFile}

-- What a list of files holds under a name: the bytes of the first one with that name.
abbrev pub held_in : List HeldFile → List ℕ → Option (List ℕ)
held_in files name = option_map (λ file. file.bytes.items) (find (λ file. bytes_eq (string_bytes file.name) name) files)

-- A read of these bytes from `at` on gives all that the buffer has room for.
pub record ReadsAll (held : List ℕ) (at n : ℕ) (into : List ℕ) : Type 0 where
  pub count : n ≡ min (length into) (length held - at)
  pub bytes : take n into ≡ take n (drop at held)
