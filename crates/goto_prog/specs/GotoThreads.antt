-- A program as code of functions, and its threads under the bounds of a command.
use Rattle.std.specs.Prelude.{ℕ, Bool, true, false, List}
use Rattle.core_tree.specs.Ranges.{Limits}
use Rattle.actions.specs.Objects.{Objects}
use Rattle.actions.specs.Behaviour.{Thread}
use Rattle.goto_prog.specs.declared.nodes.Procedure.{Procedure}
use Rattle.goto_prog.specs.Nodes.{view_procedures}
use Rattle.goto_prog.specs.Structured.{Bounded, function_thread}

-- the functions by their numbers, the one that thread 0 calls, and the store at the start
pub record GotoFile : Type 0 where
  pub functions : List Procedure
  pub main : ℕ
  pub store : Objects

abbrev pub bounded_file : Bool → GotoFile → Limits → Bounded
bounded_file strict g limits = record { strict = strict; functions = view_procedures g.functions; limits = limits }

-- thread 0 of a program as strict code, and as plain code
abbrev pub strict_thread : GotoFile → Limits → Thread
strict_thread g limits = function_thread (bounded_file true g limits) true g.main

abbrev pub plain_thread : GotoFile → Limits → Thread
plain_thread g limits = function_thread (bounded_file false g limits) true g.main
