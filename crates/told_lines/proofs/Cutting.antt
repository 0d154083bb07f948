-- The lines of a file's tokens are at least 1.
use Rattle.std.proofs.Common.{◌≡◌, ℕ, zero, suc, ◌+◌, List, [], ◌∷◌, map, drop, Bool, true, false, Result, Ok, Err, refl, sym, subst, arith, inl, inr}
use Rattle.std.specs.Prelude.{◌==◌, ◌&&◌, slice_index, if◌then◌else◌}
use Rattle.c_token.specs.declared.token.Token.{Token}
use Rattle.c_lexer.specs.Forms.{begins}
use Rattle.c_lexer.specs.Positions.{Stands, start_of}
use Rattle.c_lexer.specs.Cutting.{characters, bytes_of, lines_of, behind, tokens_of, error_of, in_front, Reads, start, IsCutInto}
use Rattle.c_lexer.specs.declared.fault.LexError.{LexError}
use Rattle.c_lexer.specs.declared.piece.Piece.{Piece}
use Rattle.c_lexer.specs.declared.piece.Piece.TheVariants as pieces
use Rattle.c_lexer.specs.declared.position.Position.{Position}
use Rattle.told_lines.specs.TypedLines.{IsLine}
use Rattle.told_lines.specs.TokenLines.{InTokens}
use Rattle.told_lines.proofs.Results.{Each, either}
use Rattle.told_lines.proofs.Expansion.{joined_lined}

abbrev OnLine : ℕ × ℕ → Type 0
OnLine c = IsLine c.1

next_line : (line : ℕ) (b : Bool) → IsLine line → IsLine (if b then line + 1 else line)
next_line line true h = omega arith
next_line line false h = h

characters_lined : (skip : Bool) (line : ℕ) (bs : List ℕ) → IsLine line → Each OnLine (characters skip line bs)
characters_lined skip line [] h = tt
characters_lined true line (b ∷ bs) h = characters_lined false (if b == 10 then line + 1 else line) bs (next_line line (b == 10) h)
characters_lined false line (b ∷ bs) h =
    let next = next_line line (b == 10) h in
    either (Each OnLine) (b == 92 && begins (λ c. c == 10) bs) (characters true (if b == 10 then line + 1 else line) bs) ((b, line) ∷ characters false (if b == 10 then line + 1 else line) bs)
    (characters_lined true (if b == 10 then line + 1 else line) bs next) (h, characters_lined false (if b == 10 then line + 1 else line) bs next)

-- where a byte stands at a position, a line does
at_lined : (cs : List (ℕ × ℕ)) (k : ℕ) → (drop k (map (λ c. c.0) cs) ≡ [] → ⊥) → Each OnLine cs → IsLine (slice_index (map (λ c. c.1) cs) k)
at_lined [] zero some all = absurd (some refl)
at_lined [] (suc k) some all = absurd (some refl)
at_lined (c ∷ cs) zero some all = all.0
at_lined (c ∷ cs) (suc k) some all = at_lined cs k some all.1

no_end : (prefix : Bool) (p : Piece) → Stands prefix [] (Ok p) → ⊥
unfolding start_of
no_end prefix p h = h

not_ended : (prefix : Bool) (text : List ℕ) (p : Piece) → Stands prefix text (Ok p) → text ≡ [] → ⊥
not_ended prefix text p stands ended = no_end prefix p (subst (λ (xs : List ℕ). Stands prefix xs (Ok p)) ended stands)

piece_lined : (cs : List (ℕ × ℕ)) (position : Position) (p : Piece) → Stands position.behind_prefix (drop position.at (map (λ c. c.0) cs)) (Ok p) → Each OnLine cs → InTokens IsLine (tokens_of (map (λ c. c.1) cs) position p)
piece_lined cs position pieces.Newline stands all = tt
piece_lined cs position pieces.Space stands all = tt
piece_lined cs position (pieces.Comment n) stands all = tt
piece_lined cs position (pieces.Token kind n) stands all = (at_lined cs position.at (not_ended position.behind_prefix (drop position.at (map (λ c. c.0) cs)) (pieces.Token kind n) stands) all, tt)

abbrev InFound : Result (List Token) LexError → Type 0
InFound (Ok tokens) = InTokens IsLine tokens
InFound (Err e) = Unit {0}

in_front_lined : (tokens : List Token) (more : Result (List Token) LexError) → InTokens IsLine tokens → InFound more → InFound (in_front tokens more)
in_front_lined tokens (Ok more) h g = joined_lined IsLine tokens more h g
in_front_lined tokens (Err e) h g = tt

same_found : (found other : Result (List Token) LexError) → found ≡ other → InFound other → InFound found
same_found found other same h = subst InFound (sym same) h

reads_lined : (cs : List (ℕ × ℕ)) (ps : List Piece) (position : Position) (found : Result (List Token) LexError) → Each OnLine cs → Reads (map (λ c. c.0) cs) (map (λ c. c.1) cs) ps position found → InFound found
reads_lined cs [] position found all (inl (ended, is)) = same_found found (Ok []) is tt
reads_lined cs [] position found all (inr (fault, stands, is)) = same_found found (Err (error_of fault (slice_index (map (λ c. c.1) cs) position.at))) is tt
reads_lined cs (p ∷ ps) position found all (stands, (more, reads, is)) =
    same_found found (in_front (tokens_of (map (λ c. c.1) cs) position p) more) is
    (in_front_lined (tokens_of (map (λ c. c.1) cs) position p) more (piece_lined cs position p stands all) (reads_lined cs ps (behind (map (λ c. c.0) cs) position p) more all reads))

-- each token of a file that is cut has a line
pub cut_lined : (file : List ℕ) (tokens : List Token) → IsCutInto file (Ok tokens) → InTokens IsLine tokens
unfolding bytes_of lines_of
cut_lined file tokens (ps, reads) = reads_lined (characters false 1 file) ps start (Ok tokens) (characters_lined false 1 file (omega arith)) reads
