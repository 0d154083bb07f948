-- A search in segments: each is a search over the clauses that are left, with numbers of its own.
use Rattle.std.specs.Prelude.{◌≡◌, ℕ, ◌+◌, ◌-◌, ◌<◌, ◌≤◌, List, [], ◌∷◌, Some, map, length, nat_lt, if◌then◌else◌, Contains, slice_get, slice_index_or}
use Rattle.sat_form.specs.Satisfaction.{Literal}
use Rattle.sat_form.specs.Databases.{deleted_numbers, numbered_clauses, live_clause}
use Rattle.sat_form.specs.declared.logs.Entry.{Entry}
use Rattle.sat_form.specs.declared.logs.Entry.TheVariants.{Added, Deleted}

-- the number of a segment's clause, where its first clauses have these numbers and the next clause that is added has the number `next`
abbrev pub number_by : List ℕ → ℕ → ℕ → ℕ
number_by numbers next k = if nat_lt k (length numbers) then slice_index_or numbers k 0 else next + (k - length numbers)

-- the entries of a segment by these numbers
abbrev pub renumbered : (ℕ → ℕ) → List Entry → List Entry
renumbered f [] = []
renumbered f (Added c hints ∷ es) = Added c (map f hints) ∷ renumbered f es
renumbered f (Deleted n ∷ es) = Deleted (f n) ∷ renumbered f es

-- these are the clauses that are live behind the log, by these numbers, in their order; no clause of the form was deleted
pub record AreLive (form : List (List Literal)) (log : List Entry) (clauses : List (List Literal)) (numbers : List ℕ) : Type 0 where
  pub count : length numbers ≡ length clauses
  pub live : (k : ℕ) (c : List Literal) → slice_get clauses k ≡ Some c → live_clause form log (slice_index_or numbers k 0) ≡ Some c
  pub whole : (m : ℕ) (c : List Literal) → live_clause form log m ≡ Some c → (k : ℕ) × (slice_get clauses k ≡ Some c) × (slice_index_or numbers k 0 ≡ m)
  pub rising : (j k : ℕ) → j < k → k < length numbers → slice_index_or numbers j 0 < slice_index_or numbers k 0
  pub gone : (m : ℕ) → Contains (deleted_numbers log) m → (length form ≤ m) × (m < length (numbered_clauses form log))
