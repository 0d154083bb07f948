-- Which items of a list the jumps of earlier items lead to (C11 6.8.6.1p3).
use Rattle.std.specs.Prelude.{◌≡◌, ℕ, zero, suc, ◌||◌, ◌&&◌, ◌++◌, Bool, nat_lt, max, List, [], ◌∷◌, Option, Some, None, Vec, if◌then◌else◌}
use Rattle.std.specs.Global.{Global}
use Rattle.std.specs.List.{list_any}
use Rattle.c_tree.specs.Statements.{Statement, Items, done, declares, does}
use Rattle.c_elab_flow.specs.declared.jumps.Ahead.{Ahead}
use Rattle.c_elab_flow.specs.Jumps.{jumps_in, first_label, labels_before, has_case_before, labels_ahead, has_case_ahead, among, is_passed}

abbrev pub Places : Type 0
Places = List (Vec ℕ Global × ℕ)

abbrev pub place_by : Option ℕ → ℕ
place_by None = 0
place_by (Some n) = n

-- the number of the last item with a label, 0 where none has it
abbrev pub placed : Places → List ℕ → ℕ
placed places name = place_by (first_label places name)

-- how far jumps to these names lead
abbrev pub reached : Places → List (List ℕ) → ℕ → ℕ
reached places [] reach = reach
reached places (n ∷ ns) reach = reached places ns (max reach (placed places n))

abbrev pub with_jumps : Ahead → List (List ℕ) → Ahead
with_jumps a names = record a { reach = reached a.labels.entries names a.reach }

-- an item with this number, and the labels and cases before it, more
pub record Notes (old : Ahead) (switched : Bool) (s : Statement) (number : ℕ) (new : Ahead) : Type 0 where
  pub labels : (name : List ℕ) → placed new.labels.entries name ≡ (if among (labels_before s) name then number else placed old.labels.entries name)
  pub cases : new.cases ≡ (if switched && has_case_before s then number else old.cases)
  pub reach : new.reach ≡ old.reach

-- the items behind the one with a number
abbrev pub items_behind : ℕ → Items → Items
items_behind n done = done
items_behind zero (declares parts ds rest) = rest
items_behind zero (does s rest) = rest
items_behind (suc n) (declares parts ds rest) = items_behind n rest
items_behind (suc n) (does s rest) = items_behind n rest

-- what lies ahead of each item of a list, which is a switch's or isn't, whose earlier items jump to these names
pub record Looks (switched : Bool) (items : Items) (jumped : List (List ℕ)) (a : Ahead) : Type 0 where
  pub labels : (n : ℕ) (name : List ℕ) → nat_lt n (placed a.labels.entries name) ≡ among (labels_ahead (items_behind n items)) name
  pub cases : (n : ℕ) → nat_lt n a.cases ≡ (switched && has_case_ahead (items_behind n items))
  pub reach : (n : ℕ) → nat_lt n a.reach ≡ list_any (λ name. among jumped name) (labels_ahead (items_behind n items))

abbrev pub is_passed_at : Ahead → ℕ → Bool
is_passed_at a n = nat_lt n a.cases || nat_lt n a.reach

-- a jump leads behind the item with a number, which these follow
abbrev pub Passes : Ahead → Bool → ℕ → List (List ℕ) → Items → Type 0
Passes a switched n jumped rest = is_passed_at a n ≡ is_passed switched jumped rest

-- the names to which the first item jumps
abbrev pub first_jumps : Items → List (List ℕ)
first_jumps done = []
first_jumps (declares parts ds rest) = []
first_jumps (does s rest) = jumps_in s

-- and those to which the items before what stands behind it do
abbrev pub jumped_behind : List (List ℕ) → Items → List (List ℕ)
jumped_behind jumped done = jumped
jumped_behind jumped (declares parts ds rest) = jumped
jumped_behind jumped (does s rest) = jumped ++ jumps_in s
