use Rattle.std.specs.Prelude.{ℕ, List, [], unwrap_or}
use Rattle.outside.specs.declared.sure.SureSource.{SureSource}
use Rattle.outside.specs.HeldFile.{held_in}

-- What the source holds under a name: the empty file where it wasn't given one.
abbrev pub surely_held : SureSource → List ℕ → List ℕ
surely_held source name = unwrap_or (held_in source.files.items name) []
