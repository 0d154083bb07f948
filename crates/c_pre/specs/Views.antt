-- What contracts see of the values of the code.
use Rattle.std.specs.Prelude.{◌≡◌, ◌<◌, ◌+◌, ℕ, List, [], ◌∷◌, ◌++◌, Bool, Option, None, map, reverse, length, Vec, nat_eq, option_map}
use Rattle.std.specs.Option.{option_and_then}
use Rattle.std.specs.Map.{lookup}
use Rattle.std.specs.Cmp.Lexicographic.{pointwise}
use Rattle.std.specs.Global.{Global}
use Rattle.c_token.specs.declared.token.Token.{Token}
use Rattle.c_pre.specs.declared.lines.Line.{Line}
use Rattle.c_pre.specs.declared.conditional.Part.{Part}
use Rattle.c_pre.specs.Macros.{Macros, IsReplacedBy}
use Rattle.c_pre.specs.Conditionals.{has_end}
use Rattle.c_pre.specs.declared.carrying.Place.{Place}
use Rattle.c_pre.specs.declared.carrying.Frame.{Frame}
use Rattle.c_pre.specs.declared.error.PreError.{PreError}
use Rattle.c_pre.specs.declared.error.PreError.TheVariants as errors
use Rattle.c_pre.specs.Carrying.{Setting, State, Effect, gives, leaves, stops}

abbrev pub tokens_of : Line → List Token
tokens_of line = line.tokens.now

-- for each line, whether a conditional that begins on it ends
abbrev pub end_flags : List ℕ → List (List Token) → List Bool
end_flags bytes [] = []
end_flags bytes (line ∷ lines) = has_end bytes lines ∷ end_flags bytes lines

abbrev pub Entries : Type 0
Entries = List (Vec ℕ Global × Option Line)

-- the macros in a map
abbrev pub macros_in : Entries → Macros
macros_in entries name = option_map tokens_of (option_and_then (λ body. body) (lookup (λ k. pointwise nat_eq name k.items) entries))

abbrev pub state_of : Entries → List Part → State
state_of entries parts = record { macros = macros_in entries; parts = reverse parts }

abbrev pub state_at : Place → State
state_at place = state_of place.macros.entries place.parts.items

abbrev pub setting_in : Frame → Setting
setting_in frame = record { bytes = frame.bytes.now; rows = map tokens_of frame.rows.now }

-- a line was carried out, and left this state and these tokens
abbrev pub IsDone : Setting → State → List Token → Effect → State → List Token → List Token → Type 0
IsDone setting state line gives next old new =
    (state ≡ next) × ((front : List Token) × IsReplacedBy setting.bytes state.macros [] None line front × (new ≡ old ++ front))
IsDone setting state line (leaves left) next old new = (left ≡ next) × (new ≡ old)
IsDone setting state line (stops error) next old new = ⊥

-- a line stopped all
abbrev pub IsStopped : Setting → State → List Token → Effect → PreError → List Token → Type 0
IsStopped setting state line gives error old =
    (error ≡ errors.TooMany) × ((front : List Token) × IsReplacedBy setting.bytes state.macros [] None line front × (200000 < length old + length front))
IsStopped setting state line (leaves left) error old = ⊥
IsStopped setting state line (stops why) error old = error ≡ why
