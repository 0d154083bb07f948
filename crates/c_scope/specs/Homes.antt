-- Which variables of a function have an address, and where that is kept (C11 6.5.3.2, 6.3.2.1p3). A variable has one where `&` is
-- of a place within it, or an array of it decays outside a subscript, also where that isn't evaluated, and before or behind a use.
use Rattle.std.specs.Prelude.{ℕ, suc, ◌+◌, ◌==◌, ◌++◌, Bool, true, false, List, [], ◌∷◌, length, nat_lt, Option, Some, None, if◌then◌else◌}
use Rattle.std.specs.List.{list_any}
use Rattle.core_tree.specs.declared.functions.Variable.{Variable}

-- ---- the numbers of the variables whose address is taken, rising

abbrev pub is_marked : List ℕ → ℕ → Bool
is_marked marks v = list_any (λ m. m == v) marks

abbrev pub with_mark : List ℕ → ℕ → List ℕ
with_mark [] v = v ∷ []
with_mark (m ∷ marks) v = if nat_lt v m then v ∷ m ∷ marks else (if v == m then m ∷ marks else m ∷ with_mark marks v)

-- those of a variable, if an operand lies within one
abbrev pub with_marked : List ℕ → Option ℕ → List ℕ
with_marked marks None = marks
with_marked marks (Some v) = with_mark marks v

-- those below a number: the others end with the parameters that they are of
abbrev pub marks_below : ℕ → List ℕ → List ℕ
marks_below n [] = []
marks_below n (m ∷ marks) = if nat_lt m n then m ∷ marks_below n marks else marks_below n marks

-- ---- variables with their addresses

-- a further variable, of 8 bytes
abbrev pub home : Variable
home = record { size = 8; readonly = false; home = None }

-- the variables from a number on, each of which that is marked has the next home
abbrev pub with_homes : List ℕ → (v next : ℕ) → List Variable → List Variable
with_homes marks v next [] = []
with_homes marks v next (x ∷ xs) = if is_marked marks v then record x { home = Some next } ∷ with_homes marks (suc v) (suc next) xs else x ∷ with_homes marks (suc v) next xs

-- how many of them are marked, each of which has a home behind all of them
abbrev pub homes_behind : List ℕ → ℕ → List Variable → List Variable
homes_behind marks v [] = []
homes_behind marks v (x ∷ xs) = if is_marked marks v then home ∷ homes_behind marks (suc v) xs else homes_behind marks (suc v) xs

-- the variables of a function as its typed tree has them, in which these addresses are taken
abbrev pub housed : List ℕ → List Variable → List Variable
housed marks xs = with_homes marks 0 (length xs) xs ++ homes_behind marks 0 xs
