-- The lines of expanded tokens are those of the file's: a token of a macro's body has the line of the macro's name.
use Rattle.std.proofs.Common.{◌≡◌, ◌+◌, ℕ, List, [], ◌∷◌, ◌++◌, length, Bool, true, false, Option, Some, None, Ok, sym, subst, inl, inr}
use Rattle.c_token.specs.declared.token.Token.{Token}
use Rattle.c_token.specs.Spelling.{text_of}
use Rattle.c_pre.specs.declared.error.PreError.{PreError}
use Rattle.c_pre.specs.Lines.{begins_line, put, lines}
use Rattle.c_pre.specs.Macros.{Macros, placed, Replacing, done, stays, replaced, Becomes}
use Rattle.c_pre.specs.Carrying.{Setting, State, start, Effect, gives, leaves, stops, effect_of, GoesOn, Carries, answer_of}
use Rattle.c_pre.specs.Calls.{setting_of, IsExpansion}
use Rattle.told_lines.specs.TokenLines.{InTokens}

module _ (P : ℕ → Type 0) where
  pub joined_lined : (xs ys : List Token) → InTokens P xs → InTokens P ys → InTokens P (xs ++ ys)
  joined_lined [] ys h g = g
  joined_lined (x ∷ xs) ys h g = (h.0, joined_lined xs ys h.1 g)

  same_lined : (xs ys : List Token) → xs ≡ ys → InTokens P ys → InTokens P xs
  same_lined xs ys same h = subst (λ (ts : List Token). InTokens P ts) (sym same) h

  -- ---- the lines of a file

  abbrev InLines : List (List Token) → Type 0
  InLines [] = Unit {0}
  InLines (l ∷ ls) = InTokens P l × InLines ls

  put_lined : (t : Token) (b : Bool) (ls : List (List Token)) → P t.line → InLines ls → InLines (put t b ls)
  put_lined t true ls k h = ((k, tt), h)
  put_lined t false [] k h = ((k, tt), tt)
  put_lined t false (l ∷ ls) k h = ((k, h.0), h.1)

  lines_lined : (ts : List Token) → InTokens P ts → InLines (lines ts)
  lines_lined [] h = tt
  lines_lined (t ∷ ts) h = put_lined t (begins_line ts) (lines ts) h.0 (lines_lined ts h.1)

  -- ---- replacing

  -- the line of the outermost macro's name, where the tokens are a macro's, and else theirs
  abbrev Stand : Option ℕ → List Token → Type 0
  Stand None ts = InTokens P ts
  Stand (Some line) ts = P line

  first_stands : (line : Option ℕ) (t : Token) (ts : List Token) → Stand line (t ∷ ts) → P (placed line t).line
  first_stands None t ts h = h.0
  first_stands (Some line) t ts h = h

  others_stand : (line : Option ℕ) (t : Token) (ts : List Token) → Stand line (t ∷ ts) → Stand line ts
  others_stand None t ts h = h.1
  others_stand (Some line) t ts h = h

  becomes_lined : (bytes : List ℕ) (macros : Macros) (within : List (List ℕ)) (line : Option ℕ) (how : Replacing) (ts found : List Token) → Stand line ts → Becomes bytes macros within line how ts found → InTokens P found
  becomes_lined bytes macros within line done [] found h b = same_lined found [] b tt
  becomes_lined bytes macros within line done (t ∷ ts) found h b = absurd b
  becomes_lined bytes macros within line (stays p) [] found h b = absurd b
  becomes_lined bytes macros within line (stays p) (t ∷ ts) found h (n, (more, b, e)) =
      same_lined found (placed line t ∷ more) e (first_stands line t ts h, becomes_lined bytes macros within line p ts more (others_stand line t ts h) b)
  becomes_lined bytes macros within line (replaced i p) [] found h b = absurd b
  becomes_lined bytes macros within line (replaced i p) (t ∷ ts) found h (body, n, (front, more, x, y, e)) =
      let inner = becomes_lined bytes macros (text_of bytes t ∷ within) (Some (placed line t).line) i body front (first_stands line t ts h) x in
      let rest = becomes_lined bytes macros within line p ts more (others_stand line t ts h) y in
      same_lined found (front ++ more) e (joined_lined front more inner rest)

  -- ---- the expansion

  abbrev Keeps : (State → ℕ → List Token → Option PreError → Type 0) → Type 0
  Keeps Behind = (next : State) (count : ℕ) (given : List Token) (stop : Option PreError) → Behind next count given stop → InTokens P given

  goes_lined : (setting : Setting) (state : State) (before : ℕ) (line : List Token) (e : Effect) (Behind : State → ℕ → List Token → Option PreError → Type 0) (given : List Token) (stop : Option PreError) →
      InTokens P line → Keeps Behind → GoesOn setting state before line e Behind given stop → InTokens P given
  goes_lined setting state before line gives Behind given stop s k (front, (how, b), inl (l, g, x)) = same_lined given front g (becomes_lined setting.bytes state.macros [] None how line front s b)
  goes_lined setting state before line gives Behind given stop s k (front, (how, b), inr (l, (more, x, g))) =
      same_lined given (front ++ more) g (joined_lined front more (becomes_lined setting.bytes state.macros [] None how line front s b) (k state (before + length front) more stop x))
  goes_lined setting state before line (leaves next) Behind given stop s k x = k next before given stop x
  goes_lined setting state before line (stops error) Behind given stop s k (g, x) = same_lined given [] g tt

  carries_lined : (setting : Setting) (ls : List (List Token)) (state : State) (before : ℕ) (given : List Token) (stop : Option PreError) → InLines ls → Carries setting ls state before given stop → InTokens P given
  carries_lined setting [] state before given stop s (g, x) = same_lined given [] g tt
  carries_lined setting (line ∷ ls) state before given stop (s, k) x =
      goes_lined setting state before line (effect_of setting state line ls) (λ next count more end. Carries setting ls next count more end) given stop s (λ next count more end y. carries_lined setting ls next count more end k y) x

  answer_lined : (given found : List Token) (stop : Option PreError) → Ok found ≡ answer_of given stop → InTokens P given → InTokens P found
  answer_lined given found None e h = let same : given ≡ found = cc in subst (λ (ts : List Token). InTokens P ts) same h
  answer_lined given found (Some error) e h = absurd (cc)

  -- expanded tokens have lines of the tokens
  pub expansion_lined : (bytes : List ℕ) (tokens found : List Token) → IsExpansion bytes tokens (Ok found) → InTokens P tokens → InTokens P found
  expansion_lined bytes tokens found x h =
      let y = x.expanded in answer_lined y.given found y.stop y.found_is (carries_lined (setting_of bytes x.own) (lines tokens) start 0 y.given y.stop (lines_lined tokens h) y.carries)
