-- The clauses that a log adds to those of a form, their numbers, and which of them are live.
use Rattle.std.specs.Prelude.{ℕ, suc, Bool, false, List, [], ◌∷◌, ◌++◌, nat_eq, if◌then◌else◌, Option, None, slice_get}
use Rattle.std.specs.List.{list_any, AllByRecursion}
use Rattle.sat_form.specs.Satisfaction.{Literal, IsWithin}
use Rattle.sat_form.specs.declared.logs.Entry.{Entry}
use Rattle.sat_form.specs.declared.logs.Entry.TheVariants.{Added, Deleted}

-- the clauses that the entries add, in order
abbrev pub added_clauses : List Entry → List (List Literal)
added_clauses [] = []
added_clauses (Added clause hints ∷ entries) = clause ∷ added_clauses entries
added_clauses (Deleted number ∷ entries) = added_clauses entries

-- the numbers of the clauses that the entries delete, in order
abbrev pub deleted_numbers : List Entry → List ℕ
deleted_numbers [] = []
deleted_numbers (Added clause hints ∷ entries) = deleted_numbers entries
deleted_numbers (Deleted number ∷ entries) = number ∷ deleted_numbers entries

-- the clauses in the order of their numbers, from 0 on: the form's, and then those that the entries add
abbrev pub numbered_clauses : List (List Literal) → List Entry → List (List Literal)
numbered_clauses form entries = form ++ added_clauses entries

-- whether the number is among these
abbrev pub is_among : List ℕ → ℕ → Bool
is_among numbers n = list_any (λ m. nat_eq m n) numbers

-- the clauses without those of these numbers, where the first clause has the number n
abbrev pub clauses_without : List ℕ → ℕ → List (List Literal) → List (List Literal)
clauses_without gone n [] = []
clauses_without gone n (c ∷ cs) = if is_among gone n then clauses_without gone (suc n) cs else c ∷ clauses_without gone (suc n) cs

-- the database behind the entries: the form's clauses and the added ones, without those that were deleted
abbrev pub database : List (List Literal) → List Entry → List (List Literal)
database form entries = clauses_without (deleted_numbers entries) 0 (numbered_clauses form entries)

-- the clause of this number in the database behind the entries, where there is one
abbrev pub live_clause : List (List Literal) → List Entry → ℕ → Option (List Literal)
live_clause form entries n = if is_among (deleted_numbers entries) n then None else slice_get (numbered_clauses form entries) n

-- an entry deletes the clause of this number
abbrev pub is_deletion_of : ℕ → Entry → Bool
is_deletion_of n (Added clause hints) = false
is_deletion_of n (Deleted number) = nat_eq number n

-- the clause that the entry adds, if it adds one, has variables below n
abbrev pub IsEntryWithin : ℕ → Entry → Type 0
IsEntryWithin n (Added clause hints) = IsWithin n clause
IsEntryWithin n (Deleted number) = Unit {0}

-- the clauses that the entries add have variables below n
abbrev pub AreEntriesWithin : ℕ → List Entry → Type 0
AreEntriesWithin n entries = AllByRecursion (IsEntryWithin n) entries
