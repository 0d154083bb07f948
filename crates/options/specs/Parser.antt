-- The command as `clap` is told it.
use Rattle.std.specs.Prelude.{ℕ, true, List, [], ◌∷◌, ◌++◌, Some, map, codes}
use Rattle.clap.specs.Walk.{Rule}
use Rattle.clap.specs.Simple.{App, new_rule, new_shape}
use Rattle.clap.specs.declared.builder.action.ArgAction.TheVariants.{Set, SetTrue}
use Rattle.options.specs.Table.{Kind, valued, flag, table}
use Rattle.options.specs.Words.{file_name}

abbrev pub option_rule : List ℕ × Kind → Rule
option_rule (name, valued) = record (new_rule name) { long = Some name; action = Some Set }
option_rule (name, flag) = record (new_rule name) { long = Some name; action = Some SetTrue }

-- FILE
abbrev pub word_rule : List ℕ → Rule
word_rule name = record (new_rule name) { action = Some Set }

-- the command without options
abbrev pub start : App
start = record {
  top = record (new_shape (codes "cbmc")) { disable_help_flag = true };
  subs = [];
}

-- the options of the table in its order, and FILE
abbrev pub command : App
command = record start { top = record start.top { rules = map option_rule table ++ word_rule file_name ∷ [] } }
