-- One step of the cutting, and the end of it.
use Rattle.std.proofs.Common.{◌≡◌, ◌≤◌, ◌+◌, ℕ, List, [], ◌∷◌, ◌++◌, length, take, drop, Bool, true, false, ◌&&◌, cond, Result, Ok, Err, refl, sym, ap, subst, inl, inr}
use Rattle.std.specs.Prelude.{slice_index}
use Rattle.std.proofs.lemmas.List.Elements.{All-nil, All-push}
use Rattle.std.proofs.lemmas.List.{append_assoc, append-nil}
use Rattle.c_token.specs.declared.token.Kind.{Kind}
use Rattle.c_token.specs.declared.token.Token.{Token}
use Rattle.c_lexer.specs.declared.fault.Fault.{Fault}
use Rattle.c_lexer.specs.declared.fault.Fault.TheVariants as faults
use Rattle.c_lexer.specs.declared.fault.LexError.{LexError}
use Rattle.c_lexer.specs.declared.piece.Piece.{Piece}
use Rattle.c_lexer.specs.declared.piece.Piece.TheVariants as pieces
use Rattle.c_lexer.specs.declared.piece.Start.{Start}
use Rattle.c_lexer.specs.declared.piece.Start.TheVariants as starts
use Rattle.c_lexer.specs.declared.position.Position.{Position}
use Rattle.c_lexer.specs.Bytes.{is_quote}
use Rattle.c_lexer.specs.Forms.{begins}
use Rattle.c_lexer.specs.Kinds.{kind_of, IsSpelled, AllSpelled}
use Rattle.c_lexer.specs.Positions.{start_of, token_or_fault, StandsAs, Stands, size_of}
use Rattle.c_lexer.specs.Cutting.{behind, tokens_of, error_of, in_front, Cuts, start}

-- Whatever the text gives from the position on, from the start it gives that with these tokens in front.
abbrev pub Completes : List ℕ → List ℕ → List Token → Position → Type 0
Completes bytes lines tokens position =
    (found : Result (List Token) LexError) → Cuts bytes lines position found → Cuts bytes lines start (in_front tokens found)

in_front_none : (found : Result (List Token) LexError) → in_front [] found ≡ found
in_front_none (Ok more) = refl
in_front_none (Err e) = refl

in_front_again : (ts us : List Token) (found : Result (List Token) LexError) → in_front ts (in_front us found) ≡ in_front (ts ++ us) found
in_front_again ts us (Ok more) = ap Ok (sym (append_assoc ts us more))
in_front_again ts us (Err e) = refl

pub completes_start : (bytes lines : List ℕ) → Completes bytes lines [] start
completes_start bytes lines found h = subst (λ f. Cuts bytes lines start f) (sym (in_front_none found)) h

pub completes_more : (bytes lines : List ℕ) (tokens : List Token) (position : Position) (p : Piece) →
    Stands position.behind_prefix (drop position.at bytes) (Ok p) → Completes bytes lines tokens position →
    Completes bytes lines (tokens ++ tokens_of lines position p) (behind bytes position p)
completes_more bytes lines tokens position p s h found (ps, r) =
    let step : Cuts bytes lines position (in_front (tokens_of lines position p) found) = (p ∷ ps, (s, (found, r, refl))) in
    subst (λ f. Cuts bytes lines start f) (in_front_again tokens (tokens_of lines position p) found) (h (in_front (tokens_of lines position p) found) step)

pub completes_end : (bytes lines : List ℕ) (tokens : List Token) (position : Position) → drop position.at bytes ≡ [] →
    Completes bytes lines tokens position → Cuts bytes lines start (Ok tokens)
completes_end bytes lines tokens position e h =
    subst (λ f. Cuts bytes lines start f) (ap Ok (append-nil tokens)) (h (Ok []) ([], inl (e, refl)))

pub completes_fault : (bytes lines : List ℕ) (tokens : List Token) (position : Position) (fault : Fault) →
    Stands position.behind_prefix (drop position.at bytes) (Err fault) → Completes bytes lines tokens position →
    Cuts bytes lines start (Err (error_of fault (slice_index lines position.at)))
completes_fault bytes lines tokens position fault s h =
    h (Err (error_of fault (slice_index lines position.at))) ([], inr (fault, s, refl))

-- a piece that stands and is a token is a token of its kind
choice_kind : (b : Bool) (k kind : Kind) (m n : ℕ) → Ok (pieces.Token kind n) ≡ cond b (Err faults.Foreign) (Ok (pieces.Token k m)) → (kind ≡ k) × (n ≡ m)
choice_kind true k kind m n e = cc
choice_kind false k kind m n e = (cc, cc)

found_kind : (p : Bool) (m n : ℕ) (front : List ℕ) (k : Result Kind Fault) (kind : Kind) → Ok (pieces.Token kind n) ≡ token_or_fault p m front k → (k ≡ Ok kind) × (n ≡ m)
found_kind p m n front (Err f) kind e = cc
found_kind p m n front (Ok k) kind e =
    let both = choice_kind (p && begins is_quote front) k kind m n e in
    (ap Ok (sym both.0), both.1)

stands_kind : (s : Start) (p : Bool) (text : List ℕ) (kind : Kind) (n : ℕ) → StandsAs s p text (Ok (pieces.Token kind n)) → kind_of (take n text) ≡ Ok kind
stands_kind starts.End p text kind n h = absurd h
stands_kind starts.LineComment p text kind n (m, l, e) = cc
stands_kind starts.BlockComment p text kind n (inl (m, l, e)) = cc
stands_kind starts.BlockComment p text kind n (inr (l, e)) = cc
stands_kind starts.Newline p text kind n h = cc
stands_kind starts.Space p text kind n h = cc
stands_kind starts.Token p text kind n (inl (m, l, e)) =
    let both = found_kind p m n (take m text) (kind_of (take m text)) kind e in
    rw both.1 both.0
stands_kind starts.Token p text kind n (inr (l, e)) = cc

pub tokens_spelled : (bytes lines : List ℕ) (position : Position) (p : Piece) → Stands position.behind_prefix (drop position.at bytes) (Ok p) →
    position.at + size_of p ≤ length bytes → AllSpelled bytes (tokens_of lines position p)
tokens_spelled bytes lines position pieces.Newline s l = All-nil (IsSpelled bytes)
tokens_spelled bytes lines position pieces.Space s l = All-nil (IsSpelled bytes)
tokens_spelled bytes lines position (pieces.Comment n) s l = All-nil (IsSpelled bytes)
tokens_spelled bytes lines position (pieces.Token kind n) s l =
    let token : Token = record { kind = kind; line = slice_index lines position.at; first = position.first; start = position.at; length = n } in
    let spelled : IsSpelled bytes token = record { within = l; kind = stands_kind (start_of (drop position.at bytes)) position.behind_prefix (drop position.at bytes) kind n s } in
    All-push (IsSpelled bytes) [] token (All-nil (IsSpelled bytes)) spelled

pub behind_at : (bytes : List ℕ) (position : Position) (p : Piece) → (behind bytes position p).at ≡ position.at + size_of p
behind_at bytes position pieces.Newline = refl
behind_at bytes position pieces.Space = refl
behind_at bytes position (pieces.Comment n) = refl
behind_at bytes position (pieces.Token kind n) = refl
