-- At most one thing stands at a position, and a text has at most one cutting.
use Rattle.std.proofs.Common.{◌≡◌, ℕ, List, [], ◌∷◌, take, drop, Bool, Result, Ok, Err, sym, ap, subst, ◌∙◌, inl, inr}
use Rattle.std.specs.Prelude.{slice_index}
use Rattle.std.proofs.lemmas.Bool.{both_ways, cases_order}
use Rattle.c_token.specs.declared.token.Token.{Token}
use Rattle.c_lexer.specs.declared.fault.Fault.{Fault}
use Rattle.c_lexer.specs.declared.fault.LexError.{LexError}
use Rattle.c_lexer.specs.declared.piece.Piece.{Piece}
use Rattle.c_lexer.specs.declared.piece.Piece.TheVariants as pieces
use Rattle.c_lexer.specs.declared.piece.Start.{Start}
use Rattle.c_lexer.specs.declared.piece.Start.TheVariants as starts
use Rattle.c_lexer.specs.declared.position.Position.{Position}
use Rattle.c_lexer.specs.Forms.{is_token, is_line_comment, is_block_comment, IsLongest, IsShortest, NonePasses}
use Rattle.c_lexer.specs.Kinds.{kind_of}
use Rattle.c_lexer.specs.Positions.{start_of, token_or_fault, StandsAs, Stands}
use Rattle.c_lexer.specs.Cutting.{behind, tokens_of, error_of, in_front, Reads, Cuts}

longest_once : (test : List ℕ → Bool) (text : List ℕ) (n m : ℕ) → IsLongest test text n → IsLongest test text m → n ≡ m
longest_once test text n m a b = elim (cases_order n m) [
  | inl e ↦ e
  | inr o ↦ elim o [
    | inl l ↦ absurd (both_ways (test (take m text)) (a.longest m l b.within) b.passes)
    | inr l ↦ absurd (both_ways (test (take n text)) (b.longest n l a.within) a.passes)
  ]
]

shortest_once : (test : List ℕ → Bool) (text : List ℕ) (n m : ℕ) → IsShortest test text n → IsShortest test text m → n ≡ m
shortest_once test text n m a b = elim (cases_order n m) [
  | inl e ↦ e
  | inr o ↦ elim o [
    | inl l ↦ absurd (both_ways (test (take n text)) (b.shortest n l) a.passes)
    | inr l ↦ absurd (both_ways (test (take m text)) (a.shortest m l) b.passes)
  ]
]

longest_some : (test : List ℕ → Bool) (text : List ℕ) (n : ℕ) → IsLongest test text n → NonePasses test text → ⊥
longest_some test text n a none = both_ways (test (take n text)) (none n a.within) a.passes

shortest_some : (test : List ℕ → Bool) (text : List ℕ) (n : ℕ) → IsShortest test text n → NonePasses test text → ⊥
shortest_some test text n a none = both_ways (test (take n text)) (none n a.within) a.passes

stands_as_once : (s : Start) (p : Bool) (text : List ℕ) (a b : Result Piece Fault) → StandsAs s p text a → StandsAs s p text b → a ≡ b
stands_as_once starts.End p text a b h k = absurd h
stands_as_once starts.LineComment p text a b (n, l, e) (m, j, f) =
    let same = longest_once is_line_comment text n m l j in
    e ∙ ap (λ n. Ok (pieces.Comment n)) same ∙ sym f
stands_as_once starts.BlockComment p text a b (inl (n, l, e)) (inl (m, j, f)) =
    let same = shortest_once is_block_comment text n m l j in
    e ∙ ap (λ n. Ok (pieces.Comment n)) same ∙ sym f
stands_as_once starts.BlockComment p text a b (inl (n, l, e)) (inr (j, f)) = absurd (shortest_some is_block_comment text n l j)
stands_as_once starts.BlockComment p text a b (inr (l, e)) (inl (m, j, f)) = absurd (shortest_some is_block_comment text m j l)
stands_as_once starts.BlockComment p text a b (inr (l, e)) (inr (j, f)) = e ∙ sym f
stands_as_once starts.Newline p text a b h k = h ∙ sym k
stands_as_once starts.Space p text a b h k = h ∙ sym k
stands_as_once starts.Token p text a b (inl (n, l, e)) (inl (m, j, f)) =
    let same = longest_once is_token text n m l j in
    e ∙ ap (λ n. token_or_fault p n (take n text) (kind_of (take n text))) same ∙ sym f
stands_as_once starts.Token p text a b (inl (n, l, e)) (inr (j, f)) = absurd (longest_some is_token text n l j)
stands_as_once starts.Token p text a b (inr (l, e)) (inl (m, j, f)) = absurd (longest_some is_token text m j l)
stands_as_once starts.Token p text a b (inr (l, e)) (inr (j, f)) = e ∙ sym f

-- at most one thing stands at the front of a text
pub stands_once : (p : Bool) (text : List ℕ) (a b : Result Piece Fault) → Stands p text a → Stands p text b → a ≡ b
stands_once p text a b h k = stands_as_once (start_of text) p text a b h k

stands_nowhere : (p : Bool) (text : List ℕ) (a : Result Piece Fault) → text ≡ [] → Stands p text a → ⊥
unfolding start_of
stands_nowhere p [] a e h = h
stands_nowhere p (b ∷ bs) a e h = cc

-- from a position on a text gives at most one thing
pub reads_once : (bytes lines : List ℕ) (ps qs : List Piece) (position : Position) (a b : Result (List Token) LexError) →
    Reads bytes lines ps position a → Reads bytes lines qs position b → a ≡ b
reads_once bytes lines [] [] position a b (inl (d, e)) (inl (c, f)) = e ∙ sym f
reads_once bytes lines [] [] position a b (inl (d, e)) (inr (g, s, f)) = absurd (stands_nowhere _ _ _ d s)
reads_once bytes lines [] [] position a b (inr (g, s, e)) (inl (c, f)) = absurd (stands_nowhere _ _ _ c s)
reads_once bytes lines [] [] position a b (inr (g, s, e)) (inr (h, t, f)) =
    let both = stands_once position.behind_prefix (drop position.at bytes) (Err g) (Err h) s t in
    let same : g ≡ h = cc in
    e ∙ ap (λ g. Err (error_of g (slice_index lines position.at))) same ∙ sym f
reads_once bytes lines [] (q ∷ qs) position a b (inl (d, e)) (t, (more, r, f)) = absurd (stands_nowhere _ _ _ d t)
reads_once bytes lines [] (q ∷ qs) position a b (inr (g, s, e)) (t, (more, r, f)) =
    let both = stands_once position.behind_prefix (drop position.at bytes) (Err g) (Ok q) s t in cc
reads_once bytes lines (p ∷ ps) [] position a b (s, (more, r, e)) (inl (d, f)) = absurd (stands_nowhere _ _ _ d s)
reads_once bytes lines (p ∷ ps) [] position a b (s, (more, r, e)) (inr (g, t, f)) =
    let both = stands_once position.behind_prefix (drop position.at bytes) (Ok p) (Err g) s t in cc
reads_once bytes lines (p ∷ ps) (q ∷ qs) position a b (s, (m, r, e)) (t, (n, u, f)) =
    let both = stands_once position.behind_prefix (drop position.at bytes) (Ok p) (Ok q) s t in
    let same : p ≡ q = cc in
    let v : Reads bytes lines qs (behind bytes position p) n = subst (λ q. Reads bytes lines qs (behind bytes position q) n) (sym same) u in
    let rest : m ≡ n = reads_once bytes lines ps qs (behind bytes position p) m n r v in
    e ∙ ap (λ k. in_front (tokens_of lines position k) m) same ∙ ap (in_front (tokens_of lines position q)) rest ∙ sym f

pub cuts_once : (bytes lines : List ℕ) (position : Position) (a b : Result (List Token) LexError) → Cuts bytes lines position a → Cuts bytes lines position b → a ≡ b
cuts_once bytes lines position a b (ps, r) (qs, s) = reads_once bytes lines ps qs position a b r s

-- the same of a text that is another's copy
pub copy_once : (bytes lines copy numbers : List ℕ) (position : Position) (a b : Result (List Token) LexError) → copy ≡ bytes → numbers ≡ lines →
    Cuts copy numbers position a → Cuts bytes lines position b → b ≡ a
copy_once bytes lines copy numbers position a b e f h k =
    let moved = subst (λ xs. Cuts xs numbers position a) e h in
    let again = subst (λ ns. Cuts bytes ns position a) f moved in
    cuts_once bytes lines position b a k again
