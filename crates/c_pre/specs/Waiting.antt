-- What the code of the replacing still has to look at, and what it becomes.
use Rattle.std.specs.Prelude.{◌≡◌, ◌<◌, ◌+◌, length, ℕ, List, [], ◌∷◌, ◌++◌, Option, map, reverse}
use Rattle.c_token.specs.declared.token.Token.{Token}
use Rattle.c_pre.specs.Macros.{Macros, IsReplacedBy}
use Rattle.c_pre.specs.Known.{Fates, AreTold, Opens, outer, names_at}
use Rattle.c_pre.specs.declared.known.Node.{Node}
use Rattle.c_pre.specs.declared.replacing.Rest.{Rest}
use Rattle.c_pre.specs.declared.replacing.Tokens.{Tokens}
use Rattle.c_pre.specs.declared.replacing.Tokens.TheVariants.{Text, Body}

-- tokens to be looked at, with the line of the macro's name if they are a macro's
abbrev pub Waiting : Type 0
Waiting = List Token × Option ℕ

abbrev pub list_of : Tokens → List Token
list_of (Text tokens) = tokens.now
list_of (Body tokens) = tokens.now

abbrev pub rest_of : Rest → Waiting
rest_of rest = (list_of rest.tokens, rest.line)

-- the innermost first
abbrev pub rests_of : List Rest → List Waiting
rests_of rests = map rest_of (reverse rests)

-- it is known what becomes of each of these tokens
abbrev pub RestsTold : List ℕ → Macros → Fates → List Waiting → Type 0
RestsTold bytes macros fates [] = Unit {0}
RestsTold bytes macros fates (r ∷ rs) = AreTold bytes macros fates r.0 × RestsTold bytes macros fates rs

-- The rests of bodies, each within the bodies behind it, become found. These roots have them.
abbrev pub Waits : List ℕ → Macros → List Node → List Waiting → Opens → List Token → Type 0
Waits bytes macros nodes [] opens found = found ≡ []
Waits bytes macros nodes (r ∷ rs) opens found =
    (front : List Token) × (more : List Token) × IsReplacedBy bytes macros (names_at nodes opens) r.1 r.0 front × Waits bytes macros nodes rs (outer opens) more × (found ≡ front ++ more)

-- Whatever the new rests become, the old ones become that with these tokens in front.
abbrev pub Leads : List ℕ → Macros → List Node → List Waiting → Opens → List Waiting → Opens → List Token → Type 0
Leads bytes macros nodes rests opens new_rests new_opens given =
    (found : List Token) → Waits bytes macros nodes new_rests new_opens found → Waits bytes macros nodes rests opens (given ++ found)

-- a token back in front of those that are looked at next, which have this line
abbrev pub put_back : Token → List Waiting → List Waiting
put_back t [] = []
put_back t (r ∷ rs) = (t ∷ r.0, r.1) ∷ rs

abbrev pub FirstLine : Option ℕ → List Waiting → Type 0
FirstLine line [] = ⊥
FirstLine line (r ∷ rs) = r.1 ≡ line

-- A step gave some tokens more, or would have given too many.
abbrev pub Goes : List ℕ → Macros → List Node → List Waiting → Opens → List Waiting → Opens → List Token → List Token → Type 0
Goes bytes macros nodes rests opens new_rests new_opens out new_out = (given : List Token) × (new_out ≡ out ++ given) × Leads bytes macros nodes rests opens new_rests new_opens given

abbrev pub Exceeds : List ℕ → Macros → List Node → List Waiting → Opens → List Waiting → Opens → List Token → Type 0
Exceeds bytes macros nodes rests opens new_rests new_opens out = (given : List Token) × (200000 < length out + length given) × Leads bytes macros nodes rests opens new_rests new_opens given
