-- Tokens stay spelled where bytes are put around those that they lie in.
use Rattle.std.proofs.Common.{◌≡◌, ◌≤◌, ◌+◌, ℕ, List, ◌++◌, length, take, drop, refl, sym, ap, ◌∙◌, arith}
use Rattle.std.proofs.lemmas.List.{take-append-le, drop-append-le, drop-drop, drop_at, length-drop, length-append}
use Rattle.c_token.specs.declared.token.Token.{Token}
use Rattle.c_lexer.specs.Kinds.{kind_of, IsSpelled, AllSpelled}
use Rattle.c_token.specs.Spelling.{text_of}

-- the text of a token stays where bytes are put behind
pub text_stays : (bytes more : List ℕ) (token : Token) → token.start + token.length ≤ length bytes → text_of (bytes ++ more) token ≡ text_of bytes token
text_stays bytes more token l =
    ap (take token.length) (drop-append-le token.start bytes more (omega arith))
    ∙ take-append-le token.length (drop token.start bytes) more (omega (arith, length-drop token.start bytes))

pub spelled_stays : (bytes more : List ℕ) (token : Token) → IsSpelled bytes token → IsSpelled (bytes ++ more) token
spelled_stays bytes more token s = record {
  within = omega (arith, s.within, length-append bytes more);
  kind = ap kind_of (text_stays bytes more token s.within) ∙ s.kind;
}

-- tokens stay spelled where bytes are put behind
pub all_spelled_stays : (bytes more : List ℕ) (tokens : List Token) → AllSpelled bytes tokens → AllSpelled (bytes ++ more) tokens
all_spelled_stays bytes more tokens s = λ k d l. spelled_stays bytes more _ (s k d l)

-- a token with the same text further behind
abbrev pub moved : ℕ → Token → Token
moved by token = record token { start = by + token.start }

pub text_moves : (front bytes : List ℕ) (token : Token) → text_of (front ++ bytes) (moved (length front) token) ≡ text_of bytes token
text_moves front bytes token =
    ap (take token.length) (sym (drop-drop token.start (length front) (front ++ bytes)) ∙ ap (drop token.start) (drop_at front bytes (length front) refl))

pub spelled_moves : (front bytes : List ℕ) (token : Token) → IsSpelled bytes token → IsSpelled (front ++ bytes) (moved (length front) token)
spelled_moves front bytes token s = record {
  within = omega (arith, s.within, length-append front bytes);
  kind = ap kind_of (text_moves front bytes token) ∙ s.kind;
}
