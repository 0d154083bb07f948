-- Labels, and the jumps to them (C11 6.8.1, 6.8.6.1).
use Rattle.std.specs.Prelude.{◌≡◌, ℕ, suc, ◌||◌, ◌&&◌, ◌++◌, Bool, true, false, List, [], ◌∷◌, Option, Some, None, option_map, Vec, nat_eq, if◌then◌else◌}
use Rattle.std.specs.Map.{lookup}
use Rattle.std.specs.Cmp.Lexicographic.{pointwise}
use Rattle.std.specs.Global.{Global}
use Rattle.std.specs.List.{list_any}
use Rattle.std.specs.Str.{bytes_eq}
use Rattle.c_tree.specs.Statements.{Statement, block, if_then, if_else, evaluate, return_nothing, return_value, empty, while_loop, do_loop, for_loop, for_declared, switch_on, case_of, default_of, labelled, goto_label, break_off, continue_on, Items, done, declares, does}

-- the labels of a statement, in their order
abbrev mutual
  pub labels_in : Statement → List (List ℕ)
  labels_in (block line is) = labels_of is
  labels_in (if_then line test s) = labels_in s
  labels_in (if_else line test s u) = labels_in s ++ labels_in u
  labels_in (evaluate e) = []
  labels_in (return_nothing line) = []
  labels_in (return_value line e) = []
  labels_in (empty line) = []
  labels_in (while_loop line e s) = labels_in s
  labels_in (do_loop line s e) = labels_in s
  labels_in (for_loop line a b c s) = labels_in s
  labels_in (for_declared line parts ds b c s) = labels_in s
  labels_in (switch_on line e s) = labels_in s
  labels_in (case_of line e s) = labels_in s
  labels_in (default_of line s) = labels_in s
  labels_in (labelled line n s) = n ∷ labels_in s
  labels_in (goto_label line n) = []
  labels_in (break_off line) = []
  labels_in (continue_on line) = []

  pub labels_of : Items → List (List ℕ)
  labels_of done = []
  labels_of (declares parts ds rest) = labels_of rest
  labels_of (does s rest) = labels_in s ++ labels_of rest

-- the names that its jumps name
abbrev mutual
  pub jumps_in : Statement → List (List ℕ)
  jumps_in (block line is) = jumps_of is
  jumps_in (if_then line test s) = jumps_in s
  jumps_in (if_else line test s u) = jumps_in s ++ jumps_in u
  jumps_in (evaluate e) = []
  jumps_in (return_nothing line) = []
  jumps_in (return_value line e) = []
  jumps_in (empty line) = []
  jumps_in (while_loop line e s) = jumps_in s
  jumps_in (do_loop line s e) = jumps_in s
  jumps_in (for_loop line a b c s) = jumps_in s
  jumps_in (for_declared line parts ds b c s) = jumps_in s
  jumps_in (switch_on line e s) = jumps_in s
  jumps_in (case_of line e s) = jumps_in s
  jumps_in (default_of line s) = jumps_in s
  jumps_in (labelled line n s) = jumps_in s
  jumps_in (goto_label line n) = n ∷ []
  jumps_in (break_off line) = []
  jumps_in (continue_on line) = []

  pub jumps_of : Items → List (List ℕ)
  jumps_of done = []
  jumps_of (declares parts ds rest) = jumps_of rest
  jumps_of (does s rest) = jumps_in s ++ jumps_of rest

-- the number of the first label of a name
abbrev pub label_number : List (List ℕ) → List ℕ → Option ℕ
label_number [] name = None
label_number (n ∷ ns) name = if bytes_eq name n then Some 0 else option_map suc (label_number ns name)

-- what a map has for a name
abbrev pub first_label : List (Vec ℕ Global × ℕ) → List ℕ → Option ℕ
first_label entries name = lookup (λ k. pointwise nat_eq name k.items) entries

-- it has the number of the first label of each name
abbrev pub Knows : List (Vec ℕ Global × ℕ) → List (List ℕ) → Type 0
Knows entries names = (name : List ℕ) → first_label entries name ≡ label_number names name

-- ---- which jumps pass over a declaration (C11 6.8.6.1p3, 6.2.4p6)

-- the labels that stand before a statement of a list, and whether a case or a default is among them
abbrev pub labels_before : Statement → List (List ℕ)
labels_before (case_of line e s) = labels_before s
labels_before (default_of line s) = labels_before s
labels_before (labelled line n s) = n ∷ labels_before s
labels_before _ = []

abbrev pub has_case_before : Statement → Bool
has_case_before (case_of line e s) = true
has_case_before (default_of line s) = true
has_case_before (labelled line n s) = has_case_before s
has_case_before _ = false

-- those of a list
abbrev pub labels_ahead : Items → List (List ℕ)
labels_ahead done = []
labels_ahead (declares parts ds rest) = labels_ahead rest
labels_ahead (does s rest) = labels_before s ++ labels_ahead rest

abbrev pub has_case_ahead : Items → Bool
has_case_ahead done = false
has_case_ahead (declares parts ds rest) = has_case_ahead rest
has_case_ahead (does s rest) = has_case_before s || has_case_ahead rest

abbrev pub among : List (List ℕ) → List ℕ → Bool
among names name = list_any (λ n. bytes_eq name n) names

-- an earlier jump, or the switch whose list this is, leads behind the declaration that these items follow
abbrev pub is_passed : Bool → List (List ℕ) → Items → Bool
is_passed switched jumped rest = list_any (among jumped) (labels_ahead rest) || (switched && has_case_ahead rest)
