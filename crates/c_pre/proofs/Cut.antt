-- The tokens of a cutting are spelled, and so are those that they are expanded into.
use Rattle.std.proofs.Common.{◌≡◌, ◌<◌, ◌≤◌, ◌+◌, ◌==◌, ◌&&◌, not, ℕ, List, [], ◌∷◌, ◌++◌, map, length, drop, Bool, true, false, cond, Option, Some, None, Result, Ok, Err, refl, sym, ap, subst, ◌∙◌, inl, inr, arith}
use Rattle.std.specs.List.{list_all}
use Rattle.std.proofs.lemmas.List.{length-drop}
use Rattle.std.proofs.lemmas.List.Elements.{All-nil, All-append}
use Rattle.c_token.specs.declared.token.Kind.{Kind}
use Rattle.c_token.specs.declared.token.Token.{Token}
use Rattle.c_lexer.specs.declared.fault.LexError.{LexError}
use Rattle.c_lexer.specs.declared.piece.Piece.{Piece}
use Rattle.c_lexer.specs.declared.piece.Piece.TheVariants as pieces
use Rattle.c_lexer.specs.declared.piece.Start.{Start}
use Rattle.c_lexer.specs.declared.piece.Start.TheVariants as starts
use Rattle.c_lexer.specs.declared.position.Position.{Position}
use Rattle.c_lexer.specs.Forms.{begins}
use Rattle.c_lexer.specs.Kinds.{IsSpelled, AllSpelled}
use Rattle.c_lexer.specs.Positions.{StandsAs, Stands, start_of}
use Rattle.c_lexer.specs.Cutting.{characters, bytes_of, lines_of, behind, tokens_of, in_front, Reads, IsCutInto, start}
use Rattle.c_lexer.proofs.Standing.{token_stands_fits}
use Rattle.c_lexer.proofs.Steps.{tokens_spelled}
use Rattle.c_pre.specs.declared.error.PreError.{PreError}
use Rattle.c_pre.specs.Headers.{text}
use Rattle.c_pre.specs.Carrying.{answer_of}
use Rattle.c_pre.specs.Calls.{IsExpansion}
use Rattle.c_pre.proofs.Whole.{out_spelled}

token_fits : (s : Start) (p : Bool) (bytes : List ℕ) (kind : Kind) (n : ℕ) → StandsAs s p bytes (Ok (pieces.Token kind n)) → (0 < n) × (n ≤ length bytes)
token_fits starts.End p bytes kind n h = absurd h
token_fits starts.LineComment p bytes kind n (m, l, e) = cc
token_fits starts.BlockComment p bytes kind n (inl (m, l, e)) = cc
token_fits starts.BlockComment p bytes kind n (inr (l, e)) = cc
token_fits starts.Newline p bytes kind n h = cc
token_fits starts.Space p bytes kind n h = cc
token_fits starts.Token p bytes kind n h = token_stands_fits p bytes (Ok (pieces.Token kind n)) h

piece_spelled : (bytes lines : List ℕ) (position : Position) (p : Piece) → Stands position.behind_prefix (drop position.at bytes) (Ok p) → AllSpelled bytes (tokens_of lines position p)
piece_spelled bytes lines position pieces.Newline h = All-nil (IsSpelled bytes)
piece_spelled bytes lines position pieces.Space h = All-nil (IsSpelled bytes)
piece_spelled bytes lines position (pieces.Comment n) h = All-nil (IsSpelled bytes)
piece_spelled bytes lines position (pieces.Token kind n) h =
    let fits = token_fits (start_of (drop position.at bytes)) position.behind_prefix (drop position.at bytes) kind n h in
    tokens_spelled bytes lines position (pieces.Token kind n) h (omega (arith, fits.0, fits.1, length-drop position.at bytes))

abbrev Spelled : List ℕ → Result (List Token) LexError → Type 0
Spelled bytes (Ok tokens) = AllSpelled bytes tokens
Spelled bytes (Err e) = Unit {0}

reads_spelled : (bytes lines : List ℕ) (ps : List Piece) (position : Position) (found : Result (List Token) LexError) → Reads bytes lines ps position found → Spelled bytes found
reads_spelled bytes lines [] position found (inl h) = subst (λ (r : Result (List Token) LexError). Spelled bytes r) (sym h.1) (All-nil (IsSpelled bytes))
reads_spelled bytes lines [] position found (inr h) = subst (λ (r : Result (List Token) LexError). Spelled bytes r) (sym h.2) tt
reads_spelled bytes lines (p ∷ ps) position found (s, (more, r, e)) =
    subst (λ (r : Result (List Token) LexError). Spelled bytes r) (sym e) (with_front more (reads_spelled bytes lines ps (behind bytes position p) more r)) where
      with_front : (more : Result (List Token) LexError) → Spelled bytes more → Spelled bytes (in_front (tokens_of lines position p) more)
      with_front (Ok more) all = All-append (IsSpelled bytes) (tokens_of lines position p) more (piece_spelled bytes lines position p s) all
      with_front (Err e) all = tt

pub cut_spelled : (file : List ℕ) (tokens : List Token) → IsCutInto file (Ok tokens) → AllSpelled (bytes_of file) tokens
cut_spelled file tokens cut = reads_spelled (bytes_of file) (lines_of file) cut.0 start (Ok tokens) cut.1

-- a text without backslashes has no splices
both : (x y : Bool) → (not x && y) ≡ true → (x ≡ false) × (y ≡ true)
both true y e = cc
both false y e = (refl, e)

kept : (x y : Bool) (a b : List (ℕ × ℕ)) → x ≡ false → cond (x && y) a b ≡ b
kept true y a b e = cc
kept false y a b e = refl

plain : (line : ℕ) (xs : List ℕ) → list_all (λ b. not (b == 92)) xs ≡ true → map (λ c. c.0) (characters false line xs) ≡ xs
plain line [] e = refl
plain line (b ∷ bs) e =
    let parts = both (b == 92) (list_all (λ b. not (b == 92)) bs) e in
    let next = cond (b == 10) (line + 1) line in
    ap (λ (cs : List (ℕ × ℕ)). map (λ c. c.0) cs) (kept (b == 92) (begins (λ c. c == 10) bs) (characters true next bs) ((b, line) ∷ characters false next bs) parts.0)
    ∙ ap (λ (ys : List ℕ). b ∷ ys) (plain next bs parts.1)

pub no_splices : bytes_of text ≡ text
unfolding bytes_of
no_splices = plain 1 text refl

given_is : (given : List Token) (stop : Option PreError) (found : List Token) → Ok found ≡ answer_of given stop → given ≡ found
given_is given None found e = cc
given_is given (Some error) found e = cc

-- the tokens that spelled tokens are expanded into are spelled
pub expansion_spelled : (bytes : List ℕ) (tokens found : List Token) → AllSpelled bytes tokens → IsExpansion bytes tokens (Ok found) → AllSpelled (bytes ++ text) found
expansion_spelled bytes tokens found s x =
    let e = x.expanded in
    let own = subst (λ (bs : List ℕ). AllSpelled bs x.own) no_splices (cut_spelled text x.own x.cut) in
    subst (λ (ts : List Token). AllSpelled (bytes ++ text) ts) (given_is e.given e.stop found e.found_is) (out_spelled bytes x.own tokens e.given e.stop own s e.carries)
