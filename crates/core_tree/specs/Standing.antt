-- Where the statements of a typed file stand (C11 6.8.1p2, 6.8.6.2p1, 6.8.6.3p1).
use Rattle.std.specs.Prelude.{ℕ, nat_lt, Bool, true, false, ◌&&◌, List, Option, Some, None}
use Rattle.std.specs.List.{list_all}
use Rattle.core_tree.specs.Trees.{Statement, block, if_then, if_else, evaluate, returns, returns_structure, returns_nothing, for_loop, do_loop, switch, breaks, continues, jumps, stray, Items, done, declares, initializes, initializes_structure, does, label, case_at, default_at, Procedure, TypedFile}

-- what stands around a statement: how many labels its function has, and whether `break`, `continue` and a case have their statements
pub record Standing : Type 0 where
  pub labels : ℕ
  pub breaks : Bool
  pub continues : Bool
  pub cases : Bool

abbrev pub in_loop : Standing → Standing
in_loop p = record { labels = p.labels; breaks = true; continues = true; cases = p.cases }

abbrev pub in_switch : Standing → Standing
in_switch p = record { labels = p.labels; breaks = true; continues = p.continues; cases = true }

-- each `break` within stands in a loop or a switch, each `continue` in a loop, each `case` and `default` in a switch, and each label is one of the function
abbrev mutual
  pub stands : Standing → Statement → Bool
  stands p (block items) = are_standing p items
  stands p (if_then line test s) = stands p s
  stands p (if_else line test s t) = stands p s && stands p t
  stands p (evaluate e) = true
  stands p (returns line e) = true
  stands p (returns_structure line a) = true
  stands p (returns_nothing line) = true
  stands p (for_loop line n first test last s) = stands (in_loop p) s
  stands p (do_loop line n s test) = stands (in_loop p) s
  stands p (switch line e items) = are_standing (in_switch p) items
  stands p (breaks line) = p.breaks
  stands p (continues line) = p.continues
  stands p (jumps line n) = nat_lt n p.labels
  stands p (stray line s) = p.cases && stands p s

  pub are_standing : Standing → Items → Bool
  are_standing p done = true
  are_standing p (declares line v rest) = are_standing p rest
  are_standing p (initializes line v drawn e rest) = are_standing p rest
  are_standing p (initializes_structure line v drawn a rest) = are_standing p rest
  are_standing p (does s rest) = stands p s && are_standing p rest
  are_standing p (label n rest) = nat_lt n p.labels && are_standing p rest
  are_standing p (case_at line t bits rest) = p.cases && are_standing p rest
  are_standing p (default_at line rest) = p.cases && are_standing p rest

-- around the body of a function stands nothing but its labels
abbrev pub alone : ℕ → Standing
alone labels = record { labels = labels; breaks = false; continues = false; cases = false }

abbrev pub stands_body : (labels : ℕ) → Option Statement → Bool
stands_body labels None = true
stands_body labels (Some s) = stands (alone labels) s

abbrev pub stand : List Procedure → Bool
stand functions = list_all (λ (f : Procedure). stands_body f.labels f.body) functions

abbrev pub stands_file : TypedFile → Bool
stands_file file = stand file.functions
