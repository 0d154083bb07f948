-- Finitely many names are macros' at each place of a file, so each file is expanded into something.
use Rattle.std.proofs.Common.{◌≡◌, ◌+◌, ℕ, List, [], ◌∷◌, ◌++◌, length, Bool, true, false, not, ◌&&◌, ◌||◌, cond, Option, Some, None, Result, Ok, refl, subst, inl, inr, arith}
use Rattle.std.specs.Prelude.{is_some, nat_lt}
use Rattle.std.specs.Option.{option_and_then}
use Rattle.std.proofs.lemmas.Bool.{ltb-true, ltb-false}
use Rattle.std.specs.List.{list_any}
use Rattle.std.specs.Str.{bytes_eq}
use Rattle.c_token.specs.declared.token.Token.{Token}
use Rattle.c_token.specs.Spelling.{text_of}
use Rattle.c_lexer.specs.Cutting.{IsCutInto}
use Rattle.c_pre.specs.declared.conditional.Taking.{Taking}
use Rattle.c_pre.specs.declared.conditional.Part.{Part}
use Rattle.c_pre.specs.declared.directive.Directive.{Directive}
use Rattle.c_pre.specs.declared.directive.Directive.TheVariants as directives
use Rattle.c_pre.specs.declared.error.PreError.{PreError}
use Rattle.c_pre.specs.declared.error.PreError.TheVariants as errors
use Rattle.c_pre.specs.declared.header.Header.{Header}
use Rattle.c_pre.specs.Lines.{lines, arguments, directive_of, number_of}
use Rattle.c_pre.specs.Macros.{Macros, no_macros, with_body, is_definable, has_parameters, same_spelling, redefined, defined, undefined, name_alone, IsReplacedBy}
use Rattle.c_pre.specs.Headers.{text, rows_of, header_of, all_defined}
use Rattle.c_pre.specs.Conditionals.{has_end, is_hidden, skips}
use Rattle.c_pre.specs.Carrying.{Setting, State, start, Effect, gives, leaves, stops, is_empty, changes, opens, tests, taking_of, alternates, closes, includes, effect, effect_of, GoesOn, Carries, answer_of}
use Rattle.c_pre.specs.Calls.{setting_of, IsExpansion}
use Rattle.c_pre.proofs.Totals.{AreNames, replaced_somehow}

-- finitely many names are macros'
abbrev Finite : Macros → Type 0
Finite macros = (all : List (List ℕ)) × AreNames macros all

none_finite : Finite no_macros
none_finite = ([], λ name body e. cc)

with_finite : (changed : List ℕ) (o : Option (List Token)) (macros : Macros) → Finite macros → Finite (with_body changed o macros)
with_finite changed o macros (all, are) = (changed ∷ all, λ name body e. by name body (bytes_eq name changed) e) where
  by : (name : List ℕ) (body : List Token) (b : Bool) → cond b o (macros name) ≡ Some body → (b || list_any (bytes_eq name) all) ≡ true
  by name body true e = refl
  by name body false e = are name body e

abbrev Finite_option : Option Macros → Type 0
Finite_option o = (macros : Macros) → o ≡ Some macros → Finite macros

some_finite : (macros : Macros) → Finite macros → Finite_option (Some macros)
some_finite macros h other e = let same : macros ≡ other = cc in subst (λ (m : Macros). Finite m) same h

none_option : Finite_option None
none_option other e = cc

if_finite : (b : Bool) (o : Option Macros) → Finite_option o → Finite_option (cond b o None)
if_finite true o h = h
if_finite false o h = none_option

redefined_finite : (bytes : List ℕ) (name : List ℕ) (body : List Token) (macros : Macros) (o : Option (List Token)) → Finite macros → Finite_option (redefined bytes name body macros o)
redefined_finite bytes name body macros None h = some_finite (with_body name (Some body) macros) (with_finite name (Some body) macros h)
redefined_finite bytes name body macros (Some old) h = if_finite (same_spelling bytes old body) (Some macros) (some_finite macros h)

defined_finite : (bytes : List ℕ) (args : List Token) (macros : Macros) → Finite macros → Finite_option (defined bytes args macros)
defined_finite bytes [] macros h = none_option
defined_finite bytes (t ∷ ts) macros h =
    if_finite (is_definable bytes t && not (has_parameters bytes t ts)) (redefined bytes (text_of bytes t) ts macros (macros (text_of bytes t)))
    (redefined_finite bytes (text_of bytes t) ts macros (macros (text_of bytes t)) h)

undefined_finite : (bytes : List ℕ) (args : List Token) (macros : Macros) → Finite macros → Finite_option (undefined bytes args macros)
undefined_finite bytes [] macros h = none_option
undefined_finite bytes (t ∷ []) macros h =
    if_finite (is_definable bytes t) (Some (with_body (text_of bytes t) None macros)) (some_finite (with_body (text_of bytes t) None macros) (with_finite (text_of bytes t) None macros h))
undefined_finite bytes (t ∷ u ∷ us) macros h = none_option

all_defined_finite : (bytes : List ℕ) (rows : List (List Token)) (macros : Macros) → Finite macros → Finite_option (all_defined bytes rows macros)
all_defined_finite bytes [] macros h = some_finite macros h
all_defined_finite bytes (row ∷ rows) macros h = by (defined bytes row macros) (defined_finite bytes row macros h) (λ next k. all_defined_finite bytes rows next k) where
  by : (o : Option Macros) → Finite_option o → ((next : Macros) → Finite next → Finite_option (all_defined bytes rows next)) → Finite_option (option_and_then (λ (next : Macros). all_defined bytes rows next) o)
  by None k on = none_option
  by (Some next) k on = on next (k next refl)

-- so behind each line
abbrev Finite_effect : Effect → Type 0
Finite_effect e = (next : State) → e ≡ leaves next → Finite next.macros

leaves_finite : (macros : Macros) (parts : List Part) → Finite macros → Finite_effect (leaves (record { macros = macros; parts = parts }))
leaves_finite macros parts h next e =
    let now : State = record { macros = macros; parts = parts } in
    let same : now ≡ next = cc in subst (λ (s : State). Finite s.macros) same h

stops_finite : (error : PreError) → Finite_effect (stops error)
stops_finite error next e = cc

either_finite : (b : Bool) (e f : Effect) → Finite_effect e → Finite_effect f → Finite_effect (cond b e f)
either_finite true e f h k = h
either_finite false e f h k = k

changes_finite : (state : State) (line : ℕ) (o : Option Macros) → Finite_option o → Finite_effect (changes state line o)
changes_finite state line None h = λ next e. cc
changes_finite state line (Some macros) h = leaves_finite macros state.parts (h macros refl)

stays_finite : (state : State) → Finite state.macros → Finite_effect (leaves state)
stays_finite state h next e = let same : state ≡ next = cc in subst (λ (s : State). Finite s.macros) same h

opens_finite : (state : State) (ended : Bool) (line : ℕ) (taking : Taking) → Finite state.macros → Finite_effect (opens state ended line taking)
opens_finite state true line taking h = leaves_finite state.macros (record { taking = taking; behind_else = false } ∷ state.parts) h
opens_finite state false line taking h = λ next e. cc

tests_finite : (state : State) (ended : Bool) (line : ℕ) (wanted : Bool) (o : Option (List ℕ)) → Finite state.macros → Finite_effect (tests state ended line wanted o)
tests_finite state ended line wanted None h = λ next e. cc
tests_finite state ended line wanted (Some name) h = opens_finite state ended line (taking_of wanted (is_some (state.macros name))) h

no_parts : (b : Bool) (x y : PreError) → Finite_effect (cond b (stops x) (stops y))
no_parts true x y next e = cc
no_parts false x y next e = cc

alternates_finite : (state : State) (line : ℕ) (args : List Token) (parts : List Part) → Finite state.macros → Finite_effect (alternates state line args parts)
alternates_finite state line args [] h = no_parts (is_empty args) _ _
alternates_finite state line args (p ∷ ps) h =
    either_finite (not (is_empty args) && not (is_hidden p.taking)) _ _ (stops_finite _) (either_finite p.behind_else _ _ (stops_finite _) (leaves_finite state.macros _ h))

closes_finite : (state : State) (line : ℕ) (args : List Token) (parts : List Part) → Finite state.macros → Finite_effect (closes state line args parts)
closes_finite state line args [] h = no_parts (is_empty args) _ _
closes_finite state line args (p ∷ ps) h = either_finite (not (is_empty args) && not (is_hidden p.taking)) _ _ (stops_finite _) (leaves_finite state.macros ps h)

includes_finite : (setting : Setting) (state : State) (line : ℕ) (o : Option Header) → Finite state.macros → Finite_effect (includes setting state line o)
includes_finite setting state line None h = λ next e. cc
includes_finite setting state line (Some header) h =
    changes_finite state line (all_defined setting.bytes (rows_of header setting.rows) state.macros) (all_defined_finite setting.bytes (rows_of header setting.rows) state.macros h)

effect_finite : (setting : Setting) (state : State) (ended : Bool) (line : ℕ) (args : List Token) (d : Directive) → Finite state.macros → Finite_effect (effect setting state ended line args d)
effect_finite setting state ended line args directives.Text h = either_finite (skips state.parts) (leaves state) gives (stays_finite state h) (λ next e. cc)
effect_finite setting state ended line args directives.Nothing h = stays_finite state h
effect_finite setting state ended line args directives.Define h =
    either_finite (skips state.parts) (leaves state) (changes state line (defined setting.bytes args state.macros)) (stays_finite state h)
    (changes_finite state line (defined setting.bytes args state.macros) (defined_finite setting.bytes args state.macros h))
effect_finite setting state ended line args directives.Undefine h =
    either_finite (skips state.parts) (leaves state) (changes state line (undefined setting.bytes args state.macros)) (stays_finite state h)
    (changes_finite state line (undefined setting.bytes args state.macros) (undefined_finite setting.bytes args state.macros h))
effect_finite setting state ended line args directives.Ifdef h = either_finite (skips state.parts) _ _ (opens_finite state ended line _ h) (tests_finite state ended line true (name_alone setting.bytes args) h)
effect_finite setting state ended line args directives.Ifndef h = either_finite (skips state.parts) _ _ (opens_finite state ended line _ h) (tests_finite state ended line false (name_alone setting.bytes args) h)
effect_finite setting state ended line args directives.Else h = alternates_finite state line args state.parts h
effect_finite setting state ended line args directives.Endif h = closes_finite state line args state.parts h
effect_finite setting state ended line args directives.Include h =
    either_finite (skips state.parts) (leaves state) (includes setting state line (header_of setting.bytes args)) (stays_finite state h) (includes_finite setting state line (header_of setting.bytes args) h)
effect_finite setting state ended line args directives.Other h = λ next e. cc

-- what a line's effect gives, with what the lines behind it give
goes_somehow : (setting : Setting) (state : State) (before : ℕ) (line : List Token) (e : Effect) (Behind : State → ℕ → List Token → Option PreError → Type 0) → Finite state.macros → Finite_effect e →
    ((next : State) (count : ℕ) → Finite next.macros → (more : List Token) × (stop : Option PreError) × Behind next count more stop) → (given : List Token) × (stop : Option PreError) × GoesOn setting state before line e Behind given stop
goes_somehow setting state before line gives Behind (all, are) k on =
    let front = replaced_somehow setting.bytes state.macros all are [] None line in
    by front.0 front.1 (nat_lt 200000 (before + length front.0)) refl where
      by : (front : List Token) → IsReplacedBy setting.bytes state.macros [] None line front → (b : Bool) → nat_lt 200000 (before + length front) ≡ b →
          (given : List Token) × (stop : Option PreError) × GoesOn setting state before line gives Behind given stop
      by front r true l = (front, Some errors.TooMany, (front, r, inl (ltb-true 200000 (before + length front) l, refl, refl)))
      by front r false l = let more = on state (before + length front) (all, are) in (front ++ more.0, more.1, (front, r, inr (omega (arith, ltb-false 200000 (before + length front) l), (more.0, more.2, refl))))
goes_somehow setting state before line (leaves next) Behind h k on = on next before (k next refl)
goes_somehow setting state before line (stops error) Behind h k on = ([], Some error, (refl, refl))

carries_somehow : (setting : Setting) (ls : List (List Token)) (state : State) (before : ℕ) → Finite state.macros → (given : List Token) × (stop : Option PreError) × Carries setting ls state before given stop
carries_somehow setting [] state before h = ([], None, (refl, refl))
carries_somehow setting (line ∷ ls) state before h =
    goes_somehow setting state before line (effect_of setting state line ls) (λ next count more end. Carries setting ls next count more end) h
    (effect_finite setting state (has_end setting.bytes ls) (number_of line) (arguments line) (directive_of setting.bytes line) h) (λ next count k. carries_somehow setting ls next count k)

pub expanded_somehow : (bytes : List ℕ) (tokens own : List Token) → IsCutInto text (Ok own) → (found : Result (List Token) PreError) × IsExpansion bytes tokens found
expanded_somehow bytes tokens own cut =
    let all = carries_somehow (setting_of bytes own) (lines tokens) start 0 none_finite in
    (answer_of all.0 all.1, record { own = own; cut = cut; expanded = record { given = all.0; stop = all.1; carries = all.2; found_is = refl } })
