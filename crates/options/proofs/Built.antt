-- What `clap` makes of the command.
use Rattle.std.proofs.Common.{◌≡◌, ℕ, true, refl, List, [], ◌∷◌, ◌++◌, map, Option, Some, codes}
use Rattle.clap.specs.Walk.{Rule}
use Rattle.clap.specs.Simple.{Shape, new_rule, new_shape, built, is_simple}
use Rattle.clap.specs.Faults.{is_simple_and_free}
use Rattle.clap.specs.declared.builder.action.ArgAction.TheVariants.{Set, SetTrue}
use Rattle.clap.specs.declared.builder.range.ValueRange.{ValueRange}
use Rattle.clap.specs.declared.builder.value_parser.ValueParser.TheVariants as vp
use Rattle.options.specs.Table.{Kind, valued, flag, table}
use Rattle.options.specs.Words.{file_name}
use Rattle.options.specs.Parser.{command}

abbrev pub many : ℕ → Option ValueRange
many n = Some (record { start_inclusive = n; end_inclusive = n })

abbrev pub taken : List ℕ × Kind → Rule
taken (name, valued) = record (new_rule name) { long = Some name; action = Some Set; range = many 1; parser = Some vp.String }
taken (name, flag) = record (new_rule name) { long = Some name; action = Some SetTrue; range = many 0; parser = Some vp.Bool; defaults = codes "false" ∷ []; missing = codes "true" ∷ [] }

abbrev pub taken_file : Rule
taken_file = record (new_rule file_name) { index = Some 1; action = Some Set; range = many 1; parser = Some vp.String }

abbrev pub rules : List Rule
rules = map taken table ++ taken_file ∷ []

abbrev pub shape_over : List Rule → Shape
shape_over c = record (new_shape (codes "cbmc")) { rules = c; disable_help_flag = true; disable_help_subcommand = true; is_built = true }

pub built_is : built command ≡ record { top = shape_over rules; subs = [] }
built_is = refl

pub simple : is_simple command ≡ true
simple = refl

pub simple_and_free : is_simple_and_free command ≡ true
simple_and_free = refl
