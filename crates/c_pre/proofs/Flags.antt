-- Which conditionals end, line by line from the last one.
use Rattle.std.proofs.Common.{◌≡◌, ◌≤◌, ◌<◌, ◌+◌, ℕ, zero, suc, List, [], ◌∷◌, ◌++◌, length, drop, get_or, map, reverse, Bool, refl, sym, ap, ◌∙◌, arith}
use Rattle.std.proofs.lemmas.List.{reverse-append, drop_more, drop_all, drop-map, length-map}
use Rattle.c_token.specs.declared.token.Token.{Token}
use Rattle.c_pre.specs.Lines.{directive_of}
use Rattle.c_pre.specs.Conditionals.{ends, ends_with, has_end}
use Rattle.c_pre.specs.declared.lines.Line.{Line}
use Rattle.c_pre.specs.Views.{tokens_of, end_flags}

-- the lines from a place on
abbrev pub behind : ℕ → List Line → List (List Token)
behind at lines = map tokens_of (drop at lines)

pub behind_more : (lines : List Line) (at : ℕ) (d : Line) → at < length lines → behind at lines ≡ tokens_of (get_or lines at d) ∷ behind (at + 1) lines
behind_more lines at d l = ap (λ (ls : List Line). map tokens_of ls) (drop_more lines at d l)

pub flags_more : (bytes : List ℕ) (lines : List Line) (flags : List Bool) (at : ℕ) (d : Line) → at < length lines → reverse flags ≡ end_flags bytes (behind (at + 1) lines) →
    reverse (flags ++ has_end bytes (behind (at + 1) lines) ∷ []) ≡ end_flags bytes (behind at lines)
flags_more bytes lines flags at d l e =
    reverse-append flags (has_end bytes (behind (at + 1) lines) ∷ [])
    ∙ ap (λ (bs : List Bool). has_end bytes (behind (at + 1) lines) ∷ bs) e
    ∙ ap (λ (ls : List (List Token)). end_flags bytes ls) (sym (behind_more lines at d l))

pub ends_more : (bytes : List ℕ) (lines : List Line) (at : ℕ) (d : Line) → at < length lines →
    ends_with (directive_of bytes (tokens_of (get_or lines at d))) (ends bytes (behind (at + 1) lines)) ≡ ends bytes (behind at lines)
ends_more bytes lines at d l = ap (λ (ls : List (List Token)). ends bytes ls) (sym (behind_more lines at d l))

flag_at : (bytes : List ℕ) (ls : List (List Token)) (i : ℕ) (d : Bool) → i < length ls → get_or (end_flags bytes ls) i d ≡ has_end bytes (drop (suc i) ls)
flag_at bytes [] i d l = absurd (omega (arith, l))
flag_at bytes (x ∷ ls) zero d l = refl
flag_at bytes (x ∷ ls) (suc i) d l = flag_at bytes ls i d (omega (arith, l))

-- the flag of a line, of those that are seen as lists
pub flag_here : (bytes : List ℕ) (flags : List Bool) (lines : List Line) (i : ℕ) (d : Bool) → flags ≡ end_flags bytes (map tokens_of lines) → i < length lines →
    get_or flags i d ≡ has_end bytes (behind (i + 1) lines)
flag_here bytes flags lines i d e l =
    let next : suc i ≡ i + 1 = omega arith in
    ap (λ (bs : List Bool). get_or bs i d) e ∙ flag_at bytes (map tokens_of lines) i d (omega (arith, l, length-map lines tokens_of))
    ∙ ap (λ (n : ℕ). has_end bytes (drop n (map tokens_of lines))) next ∙ ap (λ (ls : List (List Token)). has_end bytes ls) (drop-map tokens_of (i + 1) lines)

length_ends : (bytes : List ℕ) (ls : List (List Token)) → length (end_flags bytes ls) ≡ length ls
length_ends bytes [] = refl
length_ends bytes (x ∷ ls) = let rest = length_ends bytes ls in omega (arith, rest)

pub length_flags : (bytes : List ℕ) (flags : List Bool) (lines : List Line) → flags ≡ end_flags bytes (map tokens_of lines) → length flags ≡ length lines
length_flags bytes flags lines e = ap (λ (bs : List Bool). length bs) e ∙ length_ends bytes (map tokens_of lines) ∙ length-map lines tokens_of

pub behind_end : (lines : List Line) (i : ℕ) → length lines ≤ i → behind i lines ≡ []
behind_end lines i l = ap (λ (ls : List Line). map tokens_of ls) (drop_all i lines l)
