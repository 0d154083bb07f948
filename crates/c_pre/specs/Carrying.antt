-- How the directives of a file are carried out, line by line (C11 6.10).
use Rattle.std.specs.Prelude.{◌≡◌, ◌<◌, ◌≤◌, ◌+◌, ◌⊎◌, ℕ, List, [], ◌∷◌, ◌++◌, Bool, true, false, not, ◌&&◌, Option, Some, None, Result, Ok, Err, is_some, length, if◌then◌else◌}
use Rattle.c_token.specs.declared.token.Token.{Token}
use Rattle.c_pre.specs.declared.conditional.Taking.{Taking}
use Rattle.c_pre.specs.declared.conditional.Taking.TheVariants as takings
use Rattle.c_pre.specs.declared.conditional.Part.{Part}
use Rattle.c_pre.specs.declared.directive.Directive.{Directive}
use Rattle.c_pre.specs.declared.directive.Directive.TheVariants as directives
use Rattle.c_pre.specs.declared.error.PreError.{PreError}
use Rattle.c_pre.specs.declared.error.PreError.TheVariants as errors
use Rattle.c_pre.specs.Lines.{directive_of, arguments, number_of}
use Rattle.c_pre.specs.Macros.{Macros, no_macros, defined, undefined, name_alone, IsReplacedBy}
use Rattle.c_pre.specs.Headers.{header_of, rows_of, all_defined}
use Rattle.c_pre.specs.declared.header.Header.{Header}
use Rattle.c_pre.specs.Conditionals.{has_end, is_hidden, other, skips}

-- what stays the same for all lines: the bytes that the tokens lie in, and the lines of the headers' macros
pub record Setting : Type 0 where
  pub bytes : List ℕ
  pub rows : List (List Token)

-- the macros, and the open conditionals, the innermost first
pub record State : Type 0 where
  pub macros : Macros
  pub parts : List Part

abbrev pub start : State
start = record { macros = no_macros; parts = [] }

-- what a line does: it is text, it leaves another state, or it stops all
pub data Effect : Type 0 where
  gives : Effect
  leaves : (next : State) → Effect
  stops : (error : PreError) → Effect

abbrev pub is_empty : List Token → Bool
is_empty [] = true
is_empty (t ∷ ts) = false

-- a directive that changes the macros, or isn't of its form
abbrev pub changes : State → ℕ → Option Macros → Effect
changes state line None = stops (errors.Directive line)
changes state line (Some macros) = leaves (record { macros = macros; parts = state.parts })

abbrev pub opens : State → Bool → ℕ → Taking → Effect
opens state ended line taking =
    if ended then leaves (record { macros = state.macros; parts = record { taking = taking; behind_else = false } ∷ state.parts })
    else stops (errors.Conditional line)

abbrev pub taking_of : Bool → Bool → Taking
taking_of true is_macro = if is_macro then takings.Read else takings.Passed
taking_of false is_macro = if is_macro then takings.Passed else takings.Read

-- `#ifdef`, where wanted, or `#ifndef`, behind which these lines stand; the name is malformed or it is there
abbrev pub tests : State → Bool → ℕ → Bool → Option (List ℕ) → Effect
tests state ended line wanted None = stops (errors.Directive line)
tests state ended line wanted (Some name) = opens state ended line (taking_of wanted (is_some (state.macros name)))

abbrev pub alternates : State → ℕ → List Token → List Part → Effect
alternates state line args [] = if is_empty args then stops (errors.Conditional line) else stops (errors.Directive line)
alternates state line args (part ∷ parts) =
    if not (is_empty args) && not (is_hidden part.taking) then stops (errors.Directive line)
    else (if part.behind_else then stops (errors.Conditional line)
    else leaves (record { macros = state.macros; parts = record { taking = other part.taking; behind_else = true } ∷ parts }))

abbrev pub closes : State → ℕ → List Token → List Part → Effect
closes state line args [] = if is_empty args then stops (errors.Conditional line) else stops (errors.Directive line)
closes state line args (part ∷ parts) =
    if not (is_empty args) && not (is_hidden part.taking) then stops (errors.Directive line)
    else leaves (record { macros = state.macros; parts = parts })

abbrev pub includes : Setting → State → ℕ → Option Header → Effect
includes setting state line None = stops (errors.Include line)
includes setting state line (Some header) = changes state line (all_defined setting.bytes (rows_of header setting.rows) state.macros)

-- What a line does, by its directive; ended says of a conditional's first line that the conditional ends.
abbrev pub effect : Setting → State → Bool → ℕ → List Token → Directive → Effect
effect setting state ended line args directives.Text = if skips state.parts then leaves state else gives
effect setting state ended line args directives.Nothing = leaves state
effect setting state ended line args directives.Define = if skips state.parts then leaves state else changes state line (defined setting.bytes args state.macros)
effect setting state ended line args directives.Undefine = if skips state.parts then leaves state else changes state line (undefined setting.bytes args state.macros)
effect setting state ended line args directives.Ifdef =
    if skips state.parts then opens state ended line takings.Hidden else tests state ended line true (name_alone setting.bytes args)
effect setting state ended line args directives.Ifndef =
    if skips state.parts then opens state ended line takings.Hidden else tests state ended line false (name_alone setting.bytes args)
effect setting state ended line args directives.Else = alternates state line args state.parts
effect setting state ended line args directives.Endif = closes state line args state.parts
effect setting state ended line args directives.Include = if skips state.parts then leaves state else includes setting state line (header_of setting.bytes args)
effect setting state ended line args directives.Other = stops (errors.Directive line)

abbrev pub effect_of : Setting → State → List Token → List (List Token) → Effect
effect_of setting state line behind = effect setting state (has_end setting.bytes behind) (number_of line) (arguments line) (directive_of setting.bytes line)

-- Behind so many tokens text gives what its tokens become, and the lines behind go on from the state that is left. The text
-- on which the 200,001st token stands stops all.
abbrev pub GoesOn : Setting → State → ℕ → List Token → Effect → (State → ℕ → List Token → Option PreError → Type 0) → List Token → Option PreError → Type 0
GoesOn setting state before line gives Behind given stop =
    (front : List Token) × IsReplacedBy setting.bytes state.macros [] None line front
    × (((200000 < before + length front) × (given ≡ front) × (stop ≡ Some errors.TooMany))
    ⊎ ((before + length front ≤ 200000) × ((more : List Token) × Behind state (before + length front) more stop × (given ≡ front ++ more))))
GoesOn setting state before line (leaves next) Behind given stop = Behind next before given stop
GoesOn setting state before line (stops error) Behind given stop = (given ≡ []) × (stop ≡ Some error)

-- From a state on, behind so many tokens, lines give these tokens, and then stop by an error or end.
abbrev pub Carries : Setting → List (List Token) → State → ℕ → List Token → Option PreError → Type 0
Carries setting [] state before given stop = (given ≡ []) × (stop ≡ None)
Carries setting (line ∷ lines) state before given stop =
    GoesOn setting state before line (effect_of setting state line lines) (λ next count more end. Carries setting lines next count more end) given stop

abbrev pub answer_of : List Token → Option PreError → Result (List Token) PreError
answer_of given None = Ok given
answer_of given (Some error) = Err error

-- Lines are expanded into tokens, or the error of the first line that has one.
pub record IsExpandedInto (setting : Setting) (lines : List (List Token)) (found : Result (List Token) PreError) : Type 0 where
  pub given : List Token
  pub stop : Option PreError
  pub carries : Carries setting lines start 0 given stop
  pub found_is : found ≡ answer_of given stop
