-- Tokens that are given are spelled in the bytes, since those of the file and of the headers are.
use Rattle.std.proofs.Common.{◌≡◌, ◌+◌, ℕ, zero, suc, List, [], ◌∷◌, length, take, drop, Bool, true, false, not, ◌&&◌, cond, Option, Some, None, refl, sym, subst, inl, inr, arith}
use Rattle.std.specs.Prelude.{is_some}
use Rattle.std.specs.Option.{option_and_then}
use Rattle.std.specs.List.{list_any}
use Rattle.std.specs.Str.{bytes_eq}
use Rattle.std.proofs.lemmas.List.Elements.{All-nil, All-cons, All-append, All-drop}
use Rattle.c_token.specs.declared.token.Token.{Token}
use Rattle.c_token.specs.Spelling.{text_of}
use Rattle.c_lexer.specs.Kinds.{IsSpelled, AllSpelled}
use Rattle.c_pre.specs.declared.conditional.Taking.{Taking}
use Rattle.c_pre.specs.declared.conditional.Part.{Part}
use Rattle.c_pre.specs.declared.directive.Directive.{Directive}
use Rattle.c_pre.specs.declared.directive.Directive.TheVariants as directives
use Rattle.c_pre.specs.declared.error.PreError.{PreError}
use Rattle.c_pre.specs.declared.header.Header.{Header}
use Rattle.c_pre.specs.declared.header.Header.TheVariants as headers
use Rattle.c_pre.specs.Lines.{begins_line, put, lines, arguments, directive_of, number_of}
use Rattle.c_pre.specs.Macros.{Macros, no_macros, with_body, is_definable, has_parameters, same_spelling, redefined, defined, undefined, name_alone, body_for, placed, Replacing, done, stays, replaced, Becomes}
use Rattle.c_pre.specs.Headers.{rows_of, header_of, all_defined}
use Rattle.c_pre.specs.Conditionals.{has_end, is_hidden, skips}
use Rattle.c_pre.specs.Carrying.{Setting, State, start, Effect, gives, leaves, stops, is_empty, changes, opens, tests, taking_of, alternates, closes, includes, effect, effect_of, GoesOn, Carries}

-- the first element, and the others
pub first : (bytes : List ℕ) (t : Token) (ts : List Token) → AllSpelled bytes (t ∷ ts) → IsSpelled bytes t
first bytes t ts h = h 0 t (omega arith)

pub others : (bytes : List ℕ) (t : Token) (ts : List Token) → AllSpelled bytes (t ∷ ts) → AllSpelled bytes ts
others bytes t ts h = All-drop (IsSpelled bytes) 1 (t ∷ ts) h

-- each of the lines is spelled
abbrev pub Lines : List ℕ → List (List Token) → Type 0
Lines bytes [] = Unit {0}
Lines bytes (l ∷ ls) = AllSpelled bytes l × Lines bytes ls

put_spelled : (bytes : List ℕ) (t : Token) (b : Bool) (ls : List (List Token)) → IsSpelled bytes t → Lines bytes ls → Lines bytes (put t b ls)
put_spelled bytes t true ls s h = (All-cons (IsSpelled bytes) t [] s (All-nil (IsSpelled bytes)), h)
put_spelled bytes t false [] s h = (All-cons (IsSpelled bytes) t [] s (All-nil (IsSpelled bytes)), tt)
put_spelled bytes t false (l ∷ ls) s (h, k) = (All-cons (IsSpelled bytes) t l s h, k)

pub lines_spelled : (bytes : List ℕ) (ts : List Token) → AllSpelled bytes ts → Lines bytes (lines ts)
lines_spelled bytes [] h = tt
lines_spelled bytes (t ∷ ts) h = put_spelled bytes t (begins_line ts) (lines ts) (first bytes t ts h) (lines_spelled bytes ts (others bytes t ts h))

-- the body of each macro is spelled
abbrev Bodies : List ℕ → Macros → Type 0
Bodies bytes macros = (name : List ℕ) (body : List Token) → macros name ≡ Some body → AllSpelled bytes body

no_bodies : (bytes : List ℕ) → Bodies bytes no_macros
no_bodies bytes name body h = cc

abbrev Spelled_option : List ℕ → Option (List Token) → Type 0
Spelled_option bytes o = (body : List Token) → o ≡ Some body → AllSpelled bytes body

with_spelled : (bytes : List ℕ) (changed : List ℕ) (o : Option (List Token)) (macros : Macros) → Spelled_option bytes o → Bodies bytes macros → Bodies bytes (with_body changed o macros)
with_spelled bytes changed o macros h k name body e = by (bytes_eq name changed) e where
  by : (b : Bool) → cond b o (macros name) ≡ Some body → AllSpelled bytes body
  by true f = h body f
  by false f = k name body f

abbrev Spelled_macros : List ℕ → Option Macros → Type 0
Spelled_macros bytes o = (macros : Macros) → o ≡ Some macros → Bodies bytes macros

is_some_of : (bytes : List ℕ) (macros : Macros) → Bodies bytes macros → Spelled_macros bytes (Some macros)
is_some_of bytes macros h other e = let same : macros ≡ other = cc in subst (λ (m : Macros). Bodies bytes m) same h

is_none_of : (bytes : List ℕ) → Spelled_macros bytes None
is_none_of bytes other e = cc

if_spelled : (bytes : List ℕ) (b : Bool) (o : Option Macros) → Spelled_macros bytes o → Spelled_macros bytes (cond b o None)
if_spelled bytes true o h = h
if_spelled bytes false o h = is_none_of bytes

redefined_spelled : (bytes : List ℕ) (name : List ℕ) (body : List Token) (macros : Macros) (o : Option (List Token)) → AllSpelled bytes body → Bodies bytes macros → Spelled_macros bytes (redefined bytes name body macros o)
redefined_spelled bytes name body macros None s h =
    is_some_of bytes (with_body name (Some body) macros) (with_spelled bytes name (Some body) macros (λ other e. let same : body ≡ other = cc in subst (λ (b : List Token). AllSpelled bytes b) same s) h)
redefined_spelled bytes name body macros (Some old) s h = if_spelled bytes (same_spelling bytes old body) (Some macros) (is_some_of bytes macros h)

defined_spelled : (bytes : List ℕ) (args : List Token) (macros : Macros) → AllSpelled bytes args → Bodies bytes macros → Spelled_macros bytes (defined bytes args macros)
defined_spelled bytes [] macros s h = is_none_of bytes
defined_spelled bytes (t ∷ ts) macros s h =
    if_spelled bytes (is_definable bytes t && not (has_parameters bytes t ts)) (redefined bytes (text_of bytes t) ts macros (macros (text_of bytes t)))
    (redefined_spelled bytes (text_of bytes t) ts macros (macros (text_of bytes t)) (others bytes t ts s) h)

undefined_spelled : (bytes : List ℕ) (args : List Token) (macros : Macros) → Bodies bytes macros → Spelled_macros bytes (undefined bytes args macros)
undefined_spelled bytes [] macros h = is_none_of bytes
undefined_spelled bytes (t ∷ []) macros h =
    if_spelled bytes (is_definable bytes t) (Some (with_body (text_of bytes t) None macros))
    (is_some_of bytes (with_body (text_of bytes t) None macros) (with_spelled bytes (text_of bytes t) None macros (λ body e. cc) h))
undefined_spelled bytes (t ∷ u ∷ us) macros h = is_none_of bytes

all_defined_spelled : (bytes : List ℕ) (rows : List (List Token)) (macros : Macros) → Lines bytes rows → Bodies bytes macros → Spelled_macros bytes (all_defined bytes rows macros)
all_defined_spelled bytes [] macros s h = is_some_of bytes macros h
all_defined_spelled bytes (row ∷ rows) macros (s, r) h = by (defined bytes row macros) (defined_spelled bytes row macros s h) (λ next k. all_defined_spelled bytes rows next r k) where
  by : (o : Option Macros) → Spelled_macros bytes o → ((next : Macros) → Bodies bytes next → Spelled_macros bytes (all_defined bytes rows next)) →
      Spelled_macros bytes (option_and_then (λ (next : Macros). all_defined bytes rows next) o)
  by None k on = is_none_of bytes
  by (Some next) k on = on next (k next refl)

drop_lines : (bytes : List ℕ) (n : ℕ) (ls : List (List Token)) → Lines bytes ls → Lines bytes (drop n ls)
drop_lines bytes zero ls h = h
drop_lines bytes (suc n) [] h = tt
drop_lines bytes (suc n) (l ∷ ls) (h, k) = drop_lines bytes n ls k

take_lines : (bytes : List ℕ) (n : ℕ) (ls : List (List Token)) → Lines bytes ls → Lines bytes (take n ls)
take_lines bytes zero ls h = tt
take_lines bytes (suc n) [] h = tt
take_lines bytes (suc n) (l ∷ ls) (h, k) = (h, take_lines bytes n ls k)

rows_spelled : (bytes : List ℕ) (h : Header) (rows : List (List Token)) → Lines bytes rows → Lines bytes (rows_of h rows)
rows_spelled bytes headers.Assert rows s = tt
rows_spelled bytes headers.Pthread rows s = take_lines bytes 2 (drop 2 rows) (drop_lines bytes 2 rows s)
rows_spelled bytes headers.Stdlib rows s = take_lines bytes 3 (drop 0 rows) (drop_lines bytes 0 rows s)
rows_spelled bytes headers.Stddef rows s = take_lines bytes 1 (drop 2 rows) (drop_lines bytes 2 rows s)
rows_spelled bytes headers.Stdint rows s = tt
rows_spelled bytes headers.Stdbool rows s = take_lines bytes 3 (drop 4 rows) (drop_lines bytes 4 rows s)
rows_spelled bytes headers.Limits rows s = take_lines bytes 18 (drop 7 rows) (drop_lines bytes 7 rows s)
rows_spelled bytes headers.Stdio rows s = take_lines bytes 1 (drop 2 rows) (drop_lines bytes 2 rows s)

-- what an effect leaves is spelled
abbrev Spelled_effect : List ℕ → Effect → Type 0
Spelled_effect bytes e = (next : State) → e ≡ leaves next → Bodies bytes next.macros

leaves_spelled : (bytes : List ℕ) (macros : Macros) (parts : List Part) → Bodies bytes macros → Spelled_effect bytes (leaves (record { macros = macros; parts = parts }))
leaves_spelled bytes macros parts h next e =
    let now : State = record { macros = macros; parts = parts } in
    let same : now ≡ next = cc in subst (λ (s : State). Bodies bytes s.macros) same h

stops_spelled : (bytes : List ℕ) (error : PreError) → Spelled_effect bytes (stops error)
stops_spelled bytes error next e = cc

either_spelled : (bytes : List ℕ) (b : Bool) (e f : Effect) → Spelled_effect bytes e → Spelled_effect bytes f → Spelled_effect bytes (cond b e f)
either_spelled bytes true e f h k = h
either_spelled bytes false e f h k = k

changes_spelled : (bytes : List ℕ) (state : State) (line : ℕ) (o : Option Macros) → Spelled_macros bytes o → Spelled_effect bytes (changes state line o)
changes_spelled bytes state line None h = λ next e. cc
changes_spelled bytes state line (Some macros) h = leaves_spelled bytes macros state.parts (h macros refl)

stays_spelled : (bytes : List ℕ) (state : State) → Bodies bytes state.macros → Spelled_effect bytes (leaves state)
stays_spelled bytes state h next e = let same : state ≡ next = cc in subst (λ (s : State). Bodies bytes s.macros) same h

opens_spelled : (bytes : List ℕ) (state : State) (ended : Bool) (line : ℕ) (taking : Taking) → Bodies bytes state.macros → Spelled_effect bytes (opens state ended line taking)
opens_spelled bytes state true line taking h = leaves_spelled bytes state.macros (record { taking = taking; behind_else = false } ∷ state.parts) h
opens_spelled bytes state false line taking h = λ next e. cc

tests_spelled : (bytes : List ℕ) (state : State) (ended : Bool) (line : ℕ) (wanted : Bool) (o : Option (List ℕ)) → Bodies bytes state.macros → Spelled_effect bytes (tests state ended line wanted o)
tests_spelled bytes state ended line wanted None h = λ next e. cc
tests_spelled bytes state ended line wanted (Some name) h = opens_spelled bytes state ended line (taking_of wanted (is_some (state.macros name))) h

no_parts : (bytes : List ℕ) (b : Bool) (x y : PreError) → Spelled_effect bytes (cond b (stops x) (stops y))
no_parts bytes true x y next e = cc
no_parts bytes false x y next e = cc

alternates_spelled : (bytes : List ℕ) (state : State) (line : ℕ) (args : List Token) (parts : List Part) → Bodies bytes state.macros → Spelled_effect bytes (alternates state line args parts)
alternates_spelled bytes state line args [] h = no_parts bytes (is_empty args) _ _
alternates_spelled bytes state line args (p ∷ ps) h =
    either_spelled bytes (not (is_empty args) && not (is_hidden p.taking)) _ _ (stops_spelled bytes _)
    (either_spelled bytes p.behind_else _ _ (stops_spelled bytes _) (leaves_spelled bytes state.macros _ h))

closes_spelled : (bytes : List ℕ) (state : State) (line : ℕ) (args : List Token) (parts : List Part) → Bodies bytes state.macros → Spelled_effect bytes (closes state line args parts)
closes_spelled bytes state line args [] h = no_parts bytes (is_empty args) _ _
closes_spelled bytes state line args (p ∷ ps) h =
    either_spelled bytes (not (is_empty args) && not (is_hidden p.taking)) _ _ (stops_spelled bytes _) (leaves_spelled bytes state.macros ps h)

includes_spelled : (setting : Setting) (state : State) (line : ℕ) (o : Option Header) → Lines setting.bytes setting.rows → Bodies setting.bytes state.macros → Spelled_effect setting.bytes (includes setting state line o)
includes_spelled setting state line None r h = λ next e. cc
includes_spelled setting state line (Some header) r h =
    changes_spelled setting.bytes state line (all_defined setting.bytes (rows_of header setting.rows) state.macros)
    (all_defined_spelled setting.bytes (rows_of header setting.rows) state.macros (rows_spelled setting.bytes header setting.rows r) h)

effect_spelled : (setting : Setting) (state : State) (ended : Bool) (line : ℕ) (args : List Token) (d : Directive) → Lines setting.bytes setting.rows → AllSpelled setting.bytes args → Bodies setting.bytes state.macros →
    Spelled_effect setting.bytes (effect setting state ended line args d)
effect_spelled setting state ended line args directives.Text r s h = either_spelled setting.bytes (skips state.parts) (leaves state) gives (stays_spelled setting.bytes state h) (λ next e. cc)
effect_spelled setting state ended line args directives.Nothing r s h = stays_spelled setting.bytes state h
effect_spelled setting state ended line args directives.Define r s h =
    either_spelled setting.bytes (skips state.parts) (leaves state) (changes state line (defined setting.bytes args state.macros)) (stays_spelled setting.bytes state h)
    (changes_spelled setting.bytes state line (defined setting.bytes args state.macros) (defined_spelled setting.bytes args state.macros s h))
effect_spelled setting state ended line args directives.Undefine r s h =
    either_spelled setting.bytes (skips state.parts) (leaves state) (changes state line (undefined setting.bytes args state.macros)) (stays_spelled setting.bytes state h)
    (changes_spelled setting.bytes state line (undefined setting.bytes args state.macros) (undefined_spelled setting.bytes args state.macros h))
effect_spelled setting state ended line args directives.Ifdef r s h =
    either_spelled setting.bytes (skips state.parts) _ _ (opens_spelled setting.bytes state ended line _ h) (tests_spelled setting.bytes state ended line true (name_alone setting.bytes args) h)
effect_spelled setting state ended line args directives.Ifndef r s h =
    either_spelled setting.bytes (skips state.parts) _ _ (opens_spelled setting.bytes state ended line _ h) (tests_spelled setting.bytes state ended line false (name_alone setting.bytes args) h)
effect_spelled setting state ended line args directives.Else r s h = alternates_spelled setting.bytes state line args state.parts h
effect_spelled setting state ended line args directives.Endif r s h = closes_spelled setting.bytes state line args state.parts h
effect_spelled setting state ended line args directives.Include r s h =
    either_spelled setting.bytes (skips state.parts) (leaves state) (includes setting state line (header_of setting.bytes args)) (stays_spelled setting.bytes state h)
    (includes_spelled setting state line (header_of setting.bytes args) r h)
effect_spelled setting state ended line args directives.Other r s h = λ next e. cc

placed_spelled : (bytes : List ℕ) (line : Option ℕ) (t : Token) → IsSpelled bytes t → IsSpelled bytes (placed line t)
placed_spelled bytes None t s = s
placed_spelled bytes (Some line) t s = record { within = s.within; kind = s.kind }

body_cases : (macros : Macros) (within : List (List ℕ)) (name : List ℕ) (body : List Token) → body_for macros within name ≡ Some body → macros name ≡ Some body
body_cases macros within name body e = by (list_any (bytes_eq name) within) e where
  by : (b : Bool) → cond b None (macros name) ≡ Some body → macros name ≡ Some body
  by true f = cc
  by false f = f

becomes_spelled : (bytes : List ℕ) (macros : Macros) (within : List (List ℕ)) (line : Option ℕ) (how : Replacing) (ts found : List Token) → Bodies bytes macros → AllSpelled bytes ts →
    Becomes bytes macros within line how ts found → AllSpelled bytes found
becomes_spelled bytes macros within line done [] found h s b = subst (λ (xs : List Token). AllSpelled bytes xs) (sym b) (All-nil (IsSpelled bytes))
becomes_spelled bytes macros within line done (t ∷ ts) found h s b = absurd b
becomes_spelled bytes macros within line (stays p) [] found h s b = absurd b
becomes_spelled bytes macros within line (stays p) (t ∷ ts) found h s (n, (more, b, e)) =
    let rest = becomes_spelled bytes macros within line p ts more h (others bytes t ts s) b in
    subst (λ (xs : List Token). AllSpelled bytes xs) (sym e) (All-cons (IsSpelled bytes) (placed line t) more (placed_spelled bytes line t (first bytes t ts s)) rest)
becomes_spelled bytes macros within line (replaced i p) [] found h s b = absurd b
becomes_spelled bytes macros within line (replaced i p) (t ∷ ts) found h s (body, n, (front, more, x, y, e)) =
    let inner = becomes_spelled bytes macros (text_of bytes t ∷ within) (Some (placed line t).line) i body front h (h (text_of bytes t) body (body_cases macros within (text_of bytes t) body n)) x in
    let rest = becomes_spelled bytes macros within line p ts more h (others bytes t ts s) y in
    subst (λ (xs : List Token). AllSpelled bytes xs) (sym e) (All-append (IsSpelled bytes) front more inner rest)

abbrev Keeps : List ℕ → (State → ℕ → List Token → Option PreError → Type 0) → Type 0
Keeps bytes Behind = (next : State) (count : ℕ) (given : List Token) (stop : Option PreError) → Bodies bytes next.macros → Behind next count given stop → AllSpelled bytes given

goes_spelled : (setting : Setting) (state : State) (before : ℕ) (line : List Token) (e : Effect) (Behind : State → ℕ → List Token → Option PreError → Type 0) (given : List Token) (stop : Option PreError) →
    Spelled_effect setting.bytes e → AllSpelled setting.bytes line → Bodies setting.bytes state.macros → Keeps setting.bytes Behind → GoesOn setting state before line e Behind given stop → AllSpelled setting.bytes given
goes_spelled setting state before line gives Behind given stop f s h k (front, (how, b), inl (l, g, x)) =
    subst (λ (xs : List Token). AllSpelled setting.bytes xs) (sym g) (becomes_spelled setting.bytes state.macros [] None how line front h s b)
goes_spelled setting state before line gives Behind given stop f s h k (front, (how, b), inr (l, (more, x, g))) =
    subst (λ (xs : List Token). AllSpelled setting.bytes xs) (sym g)
    (All-append (IsSpelled setting.bytes) front more (becomes_spelled setting.bytes state.macros [] None how line front h s b) (k state (before + length front) more stop h x))
goes_spelled setting state before line (leaves next) Behind given stop f s h k x = k next before given stop (f next refl) x
goes_spelled setting state before line (stops error) Behind given stop f s h k (g, x) = subst (λ (xs : List Token). AllSpelled setting.bytes xs) (sym g) (All-nil (IsSpelled setting.bytes))

carries_spelled : (setting : Setting) (ls : List (List Token)) (state : State) (before : ℕ) (given : List Token) (stop : Option PreError) → Lines setting.bytes setting.rows → Lines setting.bytes ls → Bodies setting.bytes state.macros →
    Carries setting ls state before given stop → AllSpelled setting.bytes given
carries_spelled setting [] state before given stop r s h (g, x) = subst (λ (xs : List Token). AllSpelled setting.bytes xs) (sym g) (All-nil (IsSpelled setting.bytes))
carries_spelled setting (line ∷ ls) state before given stop r (s, k) h x =
    goes_spelled setting state before line (effect_of setting state line ls) (λ next count more end. Carries setting ls next count more end) given stop
    (effect_spelled setting state (has_end setting.bytes ls) (number_of line) (arguments line) (directive_of setting.bytes line) r (All-drop (IsSpelled setting.bytes) 2 line s) h)
    s h (λ next count more end bodies y. carries_spelled setting ls next count more end r k bodies y) x

pub given_spelled : (setting : Setting) (ls : List (List Token)) (given : List Token) (stop : Option PreError) → Lines setting.bytes setting.rows → Lines setting.bytes ls → Carries setting ls start 0 given stop → AllSpelled setting.bytes given
given_spelled setting ls given stop r s x = carries_spelled setting ls start 0 given stop r s (no_bodies setting.bytes) x
