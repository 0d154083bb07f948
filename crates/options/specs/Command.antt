-- Which words are a command, and what it asks for.
use Rattle.std.specs.Prelude.{◌≡◌, ℕ, Bool, true, false, not, ◌++◌, List, [], drop, string_bytes, Option, Some, None, codes}
use Rattle.std.specs.Fmt.{decimal}
use Rattle.core_tree.specs.Ranges.{Limits}
use Rattle.options.specs.declared.options.Job.{Job}
use Rattle.options.specs.declared.options.Job.TheVariants.{Check, Properties}
use Rattle.options.specs.declared.options.Options.{Options}
use Rattle.options.specs.Words.{Given, Reads, value_given, is_given, file_name}
use Rattle.options.specs.Values.{IsNumberIn, IsChosen, AreLimits, is_file}

-- what a command asks for
pub record Asked : Type 0 where
  -- the file's name as the texts print it
  pub name : List ℕ
  pub limits : Limits
  -- the greatest number of conflicts
  pub budget : ℕ
  pub job : Job
  -- how many threads the generated program has that takes the file's place, if one does
  pub generate : Option ℕ

abbrev pub asked_of : Options → Asked
asked_of o = record { name = string_bytes o.name; limits = o.bounds; budget = o.budget; job = o.task.job; generate = o.task.generate }

abbrev pub generated_name : ℕ → List ℕ
generated_name n = codes "generated-" ++ decimal n

-- Either a FILE or `--generate` is given: a FILE is read under its name, and the generated program of N threads has the name
-- `generated-N`, with N as its value is written.
abbrev pub IsTarget : Option (List ℕ) → Option (List ℕ) → (name : List ℕ) → (generate : Option ℕ) → Type 0
IsTarget (Some file) None name generate = (is_file file ≡ true) × (name ≡ file) × (generate ≡ None)
IsTarget None (Some text) name (Some n) = IsNumberIn 1 16 text n × (name ≡ generated_name n)
IsTarget _ _ name generate = ⊥

abbrev pub IsJob : Bool → Job → Type 0
IsJob false job = job ≡ Check
IsJob true job = job ≡ Properties

-- what is asked of the bounds; an option that isn't given has its default
pub record AsksLimits (all : List Given) (l : Limits) : Type 0 where
  pub unwind : IsChosen 8 1 1000 (value_given (codes "unwind") all) l.unwind
  pub set : AreLimits (value_given (codes "unwindset") all) l.set
  pub assertions : l.assertions ≡ not (is_given (codes "no-unwinding-assertions") all)
  pub malloc_limit : IsChosen 256 1 4096 (value_given (codes "malloc-limit") all) l.malloc_limit
  pub malloc_may_fail : l.malloc_may_fail ≡ is_given (codes "malloc-may-fail") all

-- what the options and the FILE that are given ask for
pub record Asks (all : List Given) (a : Asked) : Type 0 where
  pub limits : AsksLimits all a.limits
  pub budget : IsChosen 1000000 1 1000000000 (value_given (codes "budget") all) a.budget
  pub job : IsJob (is_given (codes "show-properties") all) a.job
  pub target : IsTarget (value_given file_name all) (value_given (codes "generate") all) a.name a.generate

-- The words, of which the first is the program's name, are a command that asks for this.
abbrev pub IsCommand : List (List ℕ) → Asked → Type 0
IsCommand words a = (all : List Given) × Reads [] (drop 1 words) all × Asks all a
