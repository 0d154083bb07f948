-- What the code's reasons for not going on say.
use Rattle.std.specs.Prelude.{◌≡◌, ◌⊎◌, ℕ, List, Some, Ok, Err}
use Rattle.c_token.specs.declared.token.Token.{Token}
use Rattle.c_lexer.specs.declared.fault.LexError.{LexError}
use Rattle.c_lexer.specs.Cutting.{IsCutInto}
use Rattle.c_pre.specs.declared.error.PreError.{PreError}
use Rattle.c_pre.specs.Calls.{IsExpansion}
use Rattle.core_tree.specs.Trees.{TypedFile}
use Rattle.c_tree.specs.Statements.{Externals}
use Rattle.c_scope.specs.Faults.{Fault}
use Rattle.c_elab_decl.specs.Files.{elaborated}
use Rattle.c_profile.specs.Rules.{Breach, first_breach}
use Rattle.run_search.specs.Answers.{Answer, refused}
use Rattle.cbmc_top.specs.Answers.{refusal, typing_cause, lexing_answer, expansion_answer}
use Rattle.run_search.specs.declared.stop.Stop.{Stop}
use Rattle.run_search.specs.declared.stop.Stop.TheVariants as stops

-- the stop is a refusal or a limit, and not want of memory
abbrev pub IsKnown : Stop → Type 0
IsKnown (stops.Refused r) = Unit {0}
IsKnown (stops.Limited l) = Unit {0}
IsKnown stops.Memory = ⊥

-- the file has no cutting into tokens
abbrev pub IsUncut : List ℕ → Answer → Type 0
IsUncut file answer = (error : LexError) × IsCutInto file (Err error) × (lexing_answer error ≡ Some answer)

-- the directives can't be carried out, or there are too many tokens
abbrev pub IsUnexpanded : List ℕ → List Token → Answer → Type 0
IsUnexpanded bytes cutting answer = (error : PreError) × IsExpansion bytes cutting (Err error) × (expansion_answer error ≡ Some answer)

-- a rule of typing is broken
abbrev pub HasNoTyping : Externals → Answer → Type 0
HasNoTyping tree answer = (f : Fault) × (elaborated tree ≡ Err f) × (answer ≡ refused (typing_cause f))

-- a rule of the profile is broken
abbrev pub IsOutside : TypedFile → Answer → Type 0
IsOutside core answer = (b : Breach) × (first_breach core ≡ Some b) × (answer ≡ refusal 12 b.line (Some b.rule))

-- a rule of typing or of the profile is broken
abbrev pub IsRefused : Externals → Answer → Type 0
IsRefused tree answer = HasNoTyping tree answer ⊎ ((core : TypedFile) × (elaborated tree ≡ Ok core) × IsOutside core answer)
