-- Where the lines of tokens are cut.
use Rattle.std.proofs.Common.{◌≡◌, ◌≤◌, ◌<◌, ◌+◌, ℕ, List, [], ◌∷◌, ◌++◌, length, take, drop, get_or, Bool, true, false, refl, sym, ap, ◌∙◌, arith}
use Rattle.std.proofs.lemmas.List.{append_assoc, drop_more, take_more, drop_all}
use Rattle.c_token.specs.declared.token.Token.{Token}
use Rattle.c_pre.specs.Lines.{begins_line, put, lines}

-- tokens in front of lines, the first of which they belong to unless a line begins behind them
abbrev pub glue : List Token → Bool → List (List Token) → List (List Token)
glue front true ls = front ∷ ls
glue front false [] = front ∷ []
glue front false (l ∷ ls) = (front ++ l) ∷ ls

abbrev pub glued : List Token → List Token → List (List Token)
glued front rest = glue front (begins_line rest) (lines rest)

put_glue : (t : Token) (b : Bool) (ls : List (List Token)) → put t b ls ≡ glue (t ∷ []) b ls
put_glue t true ls = refl
put_glue t false [] = refl
put_glue t false (l ∷ ls) = refl

pub glued_one : (t : Token) (ts : List Token) → lines (t ∷ ts) ≡ glued (t ∷ []) ts
glued_one t ts = put_glue t (begins_line ts) (lines ts)

glue_put : (front : List Token) (t : Token) (b : Bool) (ls : List (List Token)) → glue front false (put t b ls) ≡ glue (front ++ t ∷ []) b ls
glue_put front t true ls = refl
glue_put front t false [] = refl
glue_put front t false (l ∷ ls) = ap (λ (x : List Token). x ∷ ls) (sym (append_assoc front (t ∷ []) l))

glued_more : (front : List Token) (t : Token) (ts : List Token) → t.first ≡ false → glued front (t ∷ ts) ≡ glued (front ++ t ∷ []) ts
glued_more front t ts e = ap (λ (b : Bool). glue front b (lines (t ∷ ts))) e ∙ glue_put front t (begins_line ts) (lines ts)

pub glued_next : (ts : List Token) (n : ℕ) (d : Token) → n < length ts → (get_or ts n d).first ≡ false → glued (take n ts) (drop n ts) ≡ glued (take (n + 1) ts) (drop (n + 1) ts)
glued_next ts n d l e =
    ap (λ (xs : List Token). glued (take n ts) xs) (drop_more ts n d l)
    ∙ glued_more (take n ts) (get_or ts n d) (drop (n + 1) ts) e
    ∙ ap (λ (xs : List Token). glued xs (drop (n + 1) ts)) (sym (take_more ts n d l))

pub glued_first : (ts : List Token) (n : ℕ) (d : Token) → n < length ts → (get_or ts n d).first ≡ true → glued (take n ts) (drop n ts) ≡ take n ts ∷ lines (drop n ts)
glued_first ts n d l e =
    let starts : begins_line (drop n ts) ≡ true = ap begins_line (drop_more ts n d l) ∙ e in
    ap (λ (b : Bool). glue (take n ts) b (lines (drop n ts))) starts

pub glued_end : (ts : List Token) (n : ℕ) → length ts ≤ n → glued (take n ts) (drop n ts) ≡ take n ts ∷ lines (drop n ts)
glued_end ts n l =
    let none = drop_all n ts l in
    ap (λ (xs : List Token). glued (take n ts) xs) none ∙ ap (λ (xs : List Token). take n ts ∷ lines xs) (sym none)

pub glued_init : (ts : List Token) → 0 < length ts → lines ts ≡ glued (take 1 ts) (drop 1 ts)
glued_init [] l = absurd (omega (arith, l))
glued_init (t ∷ ts) l = glued_one t ts
