-- What the texts of options are that are given, and what `clap` tells of them.
use Rattle.std.specs.Prelude.{◌≡◌, ℕ, Bool, true, false, List, Some, option_map, codes}
use Rattle.clap.specs.Matches.{first_value, one_text}
use Rattle.clap.specs.declared.parser.matches.Found.{Found}
use Rattle.options.specs.Words.{Given, value_given, is_given, file_name}
use Rattle.options.specs.declared.texts.Texts.{Texts}

-- what a flag is told as
abbrev pub IsFlag : Found → List ℕ → Bool → Type 0
IsFlag f name b = (one_text f name ≡ Some (codes "true") → b ≡ true) × (one_text f name ≡ Some (codes "false") → b ≡ false)

-- the texts that clap found
pub record Tells (f : Found) (t : Texts) : Type 0 where
  pub unwind : option_map (λ s. s.now) t.unwind ≡ first_value f (codes "unwind")
  pub unwindset : option_map (λ s. s.now) t.unwindset ≡ first_value f (codes "unwindset")
  pub no_assertions : IsFlag f (codes "no-unwinding-assertions") t.no_assertions
  pub malloc_limit : option_map (λ s. s.now) t.malloc_limit ≡ first_value f (codes "malloc-limit")
  pub malloc_may_fail : IsFlag f (codes "malloc-may-fail") t.malloc_may_fail
  pub budget : option_map (λ s. s.now) t.budget ≡ first_value f (codes "budget")
  pub properties : IsFlag f (codes "show-properties") t.properties
  pub generate : option_map (λ s. s.now) t.generate ≡ first_value f (codes "generate")
  pub file : option_map (λ s. s.now) t.file ≡ first_value f file_name

-- the text of each option and of FILE, of what is given
pub record HasTexts (all : List Given) (t : Texts) : Type 0 where
  pub unwind : option_map (λ s. s.now) t.unwind ≡ value_given (codes "unwind") all
  pub unwindset : option_map (λ s. s.now) t.unwindset ≡ value_given (codes "unwindset") all
  pub no_assertions : t.no_assertions ≡ is_given (codes "no-unwinding-assertions") all
  pub malloc_limit : option_map (λ s. s.now) t.malloc_limit ≡ value_given (codes "malloc-limit") all
  pub malloc_may_fail : t.malloc_may_fail ≡ is_given (codes "malloc-may-fail") all
  pub budget : option_map (λ s. s.now) t.budget ≡ value_given (codes "budget") all
  pub properties : t.properties ≡ is_given (codes "show-properties") all
  pub generate : option_map (λ s. s.now) t.generate ≡ value_given (codes "generate") all
  pub file : option_map (λ s. s.now) t.file ≡ value_given file_name all
