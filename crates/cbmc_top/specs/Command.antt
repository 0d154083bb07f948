-- What a command asks for, and what it is about.
use Rattle.std.specs.Prelude.{◌≡◌, ◌≢◌, ℕ, List, length, Option, Some, None, option_map}
use Rattle.core_tree.specs.Ranges.{Limits}
use Rattle.options.specs.declared.options.Job.{Job}
use Rattle.options.specs.declared.options.Job.TheVariants.{Check, Properties}
use Rattle.options.specs.Command.{Asked}
use Rattle.generator.specs.Program.{generated_text}
use Rattle.report.specs.Report.{Head}
use Rattle.cbmc_top.specs.Calls.{WasRead}

-- what is done with a file in the profile: it is checked under bounds and a budget, or its loops and assertions are listed
pub data Purpose : Type 0 where
  checking : (limits : Limits) (budget : ℕ) → Purpose
  listing : Purpose

abbrev pub purpose_by : Limits → ℕ → Job → Purpose
purpose_by limits budget Check = checking limits budget
purpose_by limits budget Properties = listing

abbrev pub purpose_of : Asked → Purpose
purpose_of asked = purpose_by asked.limits asked.budget asked.job

-- the first lines of a verdict
abbrev pub head_asked : Asked → Head
head_asked asked = record {
  generated = option_map (λ n. (n, length (generated_text n))) asked.generate;
  name = asked.name;
  unwind = asked.limits.unwind;
  assertions = asked.limits.assertions;
}

abbrev pub read_where : Option ℕ → List ℕ → Option (List ℕ)
read_where None name = Some name
read_where (Some n) name = None

-- the FILE that is read; none where a generated text takes its place
abbrev pub file_read : Asked → Option (List ℕ)
file_read asked = read_where asked.generate asked.name

abbrev pub told_where : Option ℕ → Option (List ℕ) → Option (List ℕ)
told_where None held = held
told_where (Some n) held = Some (generated_text n)

-- the bytes that a command is about, where they are told: what is held under the name of FILE, or the generated text
abbrev pub bytes_told : Asked → (List ℕ → Option (List ℕ)) → Option (List ℕ)
bytes_told asked holds = told_where asked.generate (holds asked.name)

-- no file of this name is read
abbrev pub IsUnread : Asked → List ℕ → Type 0
IsUnread asked name = file_read asked ≢ Some name

abbrev pub given_where : Option ℕ → Option (List ℕ) → List ℕ → Type 0
given_where None held bytes = WasRead held bytes
given_where (Some n) held bytes = bytes ≡ generated_text n

-- the first bytes of FILE, up to one more than the limit, or the generated text
abbrev pub WasGiven : Asked → (List ℕ → Option (List ℕ)) → List ℕ → Type 0
WasGiven asked holds bytes = given_where asked.generate (holds asked.name) bytes
