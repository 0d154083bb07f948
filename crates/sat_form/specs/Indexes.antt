-- How a log finds the clauses that it adds, and where it deletes one.
use Rattle.std.specs.Prelude.{◌≡◌, ℕ, ◌+◌, List, [], ◌∷◌}
use Rattle.std.specs.List.{position_from}
use Rattle.std.specs.Ordering.{nat_cmp}
use Rattle.std.specs.BTreeMap as tree
use Rattle.sat_form.specs.Databases.{is_deletion_of}
use Rattle.sat_form.specs.declared.logs.Entry.{Entry}
use Rattle.sat_form.specs.declared.logs.Entry.TheVariants.{Added, Deleted}
use Rattle.sat_form.specs.declared.logs.Log.TheInside.{Inside}

-- the places of the entries that add a clause, where the first entry is at place k
abbrev pub places_of_additions : ℕ → List Entry → List ℕ
places_of_additions k [] = []
places_of_additions k (Added clause hints ∷ entries) = k ∷ places_of_additions (k + 1) entries
places_of_additions k (Deleted number ∷ entries) = places_of_additions (k + 1) entries

-- the additions are at these places, and each deleted number is kept with the place of its first deletion
pub record IsIndexed (l : Inside) : Type 0 where
  pub additions : l.additions.items ≡ places_of_additions 0 l.entries.items
  pub deletions : (n : ℕ) → tree.get nat_cmp l.deletions n ≡ position_from (is_deletion_of n) 0 l.entries.items
