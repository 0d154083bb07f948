-- Lines are expanded in at most one way.
use Rattle.std.proofs.Common.{◌≡◌, ◌+◌, ℕ, List, [], ◌∷◌, ◌++◌, length, Option, Some, None, Result, Ok, sym, ap, subst, ◌∙◌, inl, inr, arith}
use Rattle.c_token.specs.declared.token.Token.{Token}
use Rattle.c_token.specs.Spelling.{text_of}
use Rattle.c_lexer.specs.Cutting.{bytes_of, lines_of, start as cut_start}
use Rattle.c_lexer.proofs.One.{cuts_once}
use Rattle.c_pre.specs.declared.error.PreError.{PreError}
use Rattle.c_pre.specs.Lines.{lines}
use Rattle.c_pre.specs.Headers.{text}
use Rattle.c_pre.specs.Macros.{Macros, placed, Replacing, done, stays, replaced, Becomes, IsReplacedBy}
use Rattle.c_pre.specs.Carrying.{Setting, State, start, Effect, gives, leaves, stops, effect_of, GoesOn, Carries, answer_of, IsExpandedInto}
use Rattle.c_pre.specs.Calls.{setting_of, IsExpansion}

pub becomes_once : (bytes : List ℕ) (macros : Macros) (within : List (List ℕ)) (line : Option ℕ) (how way : Replacing) (ts a b : List Token) →
    Becomes bytes macros within line how ts a → Becomes bytes macros within line way ts b → a ≡ b
becomes_once bytes macros within line done done [] a b h k = h ∙ sym k
becomes_once bytes macros within line done done (t ∷ ts) a b h k = absurd h
becomes_once bytes macros within line done (stays q) [] a b h k = absurd k
becomes_once bytes macros within line done (stays q) (t ∷ ts) a b h k = absurd h
becomes_once bytes macros within line done (replaced i q) [] a b h k = absurd k
becomes_once bytes macros within line done (replaced i q) (t ∷ ts) a b h k = absurd h
becomes_once bytes macros within line (stays p) way [] a b h k = absurd h
becomes_once bytes macros within line (stays p) done (t ∷ ts) a b h k = absurd k
becomes_once bytes macros within line (stays p) (stays q) (t ∷ ts) a b (n, (more, r, e)) (m, (next, s, f)) =
    e ∙ ap (λ (xs : List Token). placed line t ∷ xs) (becomes_once bytes macros within line p q ts more next r s) ∙ sym f
becomes_once bytes macros within line (stays p) (replaced i q) (t ∷ ts) a b (n, (more, r, e)) (body, m, k) = let both = sym n ∙ m in cc
becomes_once bytes macros within line (replaced i p) way [] a b h k = absurd h
becomes_once bytes macros within line (replaced i p) done (t ∷ ts) a b h k = absurd k
becomes_once bytes macros within line (replaced i p) (stays q) (t ∷ ts) a b (body, n, h) (m, (next, s, f)) = let both = sym n ∙ m in cc
becomes_once bytes macros within line (replaced i p) (replaced j q) (t ∷ ts) a b (body, n, (front, more, x, y, e)) (other, m, (head, next, u, v, f)) =
    let both = sym n ∙ m in
    let same : body ≡ other = cc in
    let w = subst (λ (xs : List Token). Becomes bytes macros (text_of bytes t ∷ within) (Some (placed line t).line) j xs head) (sym same) u in
    let fronts : front ≡ head = becomes_once bytes macros (text_of bytes t ∷ within) (Some (placed line t).line) i j body front head x w in
    let rests : more ≡ next = becomes_once bytes macros within line p q ts more next y v in
    e ∙ ap (λ (xs : List Token). xs ++ more) fronts ∙ ap (λ (xs : List Token). head ++ xs) rests ∙ sym f

replaced_once : (bytes : List ℕ) (macros : Macros) (line : Option ℕ) (ts a b : List Token) → IsReplacedBy bytes macros [] line ts a → IsReplacedBy bytes macros [] line ts b → a ≡ b
replaced_once bytes macros line ts a b (how, h) (way, k) = becomes_once bytes macros [] line how way ts a b h k

abbrev Once : (State → ℕ → List Token → Option PreError → Type 0) → Type 0
Once Behind = (next : State) (count : ℕ) (a b : List Token) (s t : Option PreError) → Behind next count a s → Behind next count b t → (a ≡ b) × (s ≡ t)

goes_once : (setting : Setting) (state : State) (before : ℕ) (line : List Token) (e : Effect) (Behind : State → ℕ → List Token → Option PreError → Type 0) → Once Behind →
    (a b : List Token) (s t : Option PreError) → GoesOn setting state before line e Behind a s → GoesOn setting state before line e Behind b t → (a ≡ b) × (s ≡ t)
goes_once setting state before line gives Behind once a b s t (front, r, inl (l, g, x)) (head, u, inl (m, h, y)) =
    (g ∙ replaced_once setting.bytes state.macros None line front head r u ∙ sym h, x ∙ sym y)
goes_once setting state before line gives Behind once a b s t (front, r, inl (l, g, x)) (head, u, inr (m, k)) =
    let same = ap (λ (xs : List Token). length xs) (replaced_once setting.bytes state.macros None line front head r u) in absurd (omega (arith, l, m, same))
goes_once setting state before line gives Behind once a b s t (front, r, inr (l, k)) (head, u, inl (m, h, y)) =
    let same = ap (λ (xs : List Token). length xs) (replaced_once setting.bytes state.macros None line front head r u) in absurd (omega (arith, l, m, same))
goes_once setting state before line gives Behind once a b s t (front, r, inr (l, (more, x, e))) (head, u, inr (m, (next, y, f))) =
    let same = replaced_once setting.bytes state.macros None line front head r u in
    let z = subst (λ (xs : List Token). Behind state (before + length xs) next t) (sym same) y in
    let both = once state (before + length front) more next s t x z in
    (e ∙ ap (λ (xs : List Token). xs ++ more) same ∙ ap (λ (xs : List Token). head ++ xs) both.0 ∙ sym f, both.1)
goes_once setting state before line (leaves left) Behind once a b s t h k = once left before a b s t h k
goes_once setting state before line (stops error) Behind once a b s t (g, x) (h, y) = (g ∙ sym h, x ∙ sym y)

carries_once : (setting : Setting) (ls : List (List Token)) (state : State) (before : ℕ) (a b : List Token) (s t : Option PreError) →
    Carries setting ls state before a s → Carries setting ls state before b t → (a ≡ b) × (s ≡ t)
carries_once setting [] state before a b s t (g, x) (h, y) = (g ∙ sym h, x ∙ sym y)
carries_once setting (line ∷ ls) state before a b s t h k =
    goes_once setting state before line (effect_of setting state line ls) (λ next count more end. Carries setting ls next count more end)
    (λ next count c d u v x y. carries_once setting ls next count c d u v x y) a b s t h k

expanded_once : (setting : Setting) (ls : List (List Token)) (a b : Result (List Token) PreError) → IsExpandedInto setting ls a → IsExpandedInto setting ls b → a ≡ b
expanded_once setting ls a b x y =
    let both = carries_once setting ls start 0 x.given y.given x.stop y.stop x.carries y.carries in
    x.found_is ∙ ap (λ (g : List Token). answer_of g x.stop) both.0 ∙ ap (λ (s : Option PreError). answer_of y.given s) both.1 ∙ sym y.found_is

pub expansion_once : (bytes : List ℕ) (tokens : List Token) (a b : Result (List Token) PreError) → IsExpansion bytes tokens a → IsExpansion bytes tokens b → a ≡ b
expansion_once bytes tokens a b x y =
    let cuts = cuts_once (bytes_of text) (lines_of text) cut_start (Ok x.own) (Ok y.own) x.cut y.cut in
    let same : x.own ≡ y.own = cc in
    let moved_over = subst (λ (own : List Token). IsExpandedInto (setting_of bytes own) (lines tokens) b) (sym same) y.expanded in
    expanded_once (setting_of bytes x.own) (lines tokens) a b x.expanded moved_over
