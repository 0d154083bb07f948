-- What stands at the front of a text, by the class of its first byte.
use Rattle.std.proofs.Common.{◌≡◌, ◌<◌, ◌≤◌, ℕ, List, [], ◌∷◌, length, take, get_or, Bool, true, false, ◌==◌, ◌&&◌, Result, Ok, Err, refl, sym, ap, subst, ◌∙◌, inl, inr, arith, zero, suc, cond}
use Rattle.std.proofs.lemmas.Bool.{and_parts, or_cases, or_left, and_from, and_left, eqb-true, both_ways}
use Rattle.c_lexer.specs.declared.class.Class.TheVariants.{Letter, Digit, Quote, Space, Other}
use Rattle.c_lexer.specs.declared.piece.Start.TheVariants as starts
use Rattle.c_token.specs.declared.token.Kind.{Kind}
use Rattle.c_lexer.specs.declared.fault.Fault.{Fault}
use Rattle.c_lexer.specs.Bytes.{class_of, space_class, is_letter, is_digit, is_quote}
use Rattle.c_lexer.specs.Forms.{begins, begins_number, is_word, is_number, is_literal, is_mark, is_token, closes, IsLongest, IsShortest}
use Rattle.c_lexer.specs.Kinds.{word_kind, number_kind, literal_kind, mark_kind, kind_of}
use Rattle.c_lexer.specs.Positions.{start_of, size_of, token_or_fault, TokenStands}
use Rattle.c_lexer.specs.declared.piece.Piece.{Piece}
use Rattle.c_lexer.specs.declared.piece.Piece.TheVariants as pieces
use Rattle.c_lexer.specs.declared.fault.Fault.TheVariants.{Foreign}
use Rattle.std.specs.Prelude.{IfOk}
use Rattle.c_lexer.proofs.Comments.{token_start}
use Rattle.c_lexer.proofs.Ends.{letter_token, quote_token, number_token, point_apart, point_class}
use Rattle.c_lexer.proofs.Classes.{is_Digit, no_mark}

pub token_nonempty : (text : List ℕ) → start_of text ≡ starts.Token → 0 < length text
unfolding start_of
token_nonempty [] h = cc
token_nonempty (b ∷ bs) h = omega arith

pub token_no_space : (text : List ℕ) → start_of text ≡ starts.Token → class_of (get_or text 0 0) ≡ Space → ⊥
token_no_space [] h e = absurd (omega (arith, token_nonempty [] h))
token_no_space (b ∷ bs) h e = both_ways (space_class (class_of b)) (token_start b bs h) (ap space_class e)

pub begins_letter : (text : List ℕ) → 0 < length text → class_of (get_or text 0 0) ≡ Letter → begins is_letter text ≡ true
begins_letter [] l e = absurd (omega arith)
begins_letter (b ∷ bs) l e = rw e refl

pub begins_quote : (text : List ℕ) → 0 < length text → class_of (get_or text 0 0) ≡ Quote → begins is_quote text ≡ true
begins_quote [] l e = absurd (omega arith)
begins_quote (b ∷ bs) l e = rw e refl

pub begins_digit : (text : List ℕ) → 0 < length text → class_of (get_or text 0 0) ≡ Digit → begins_number text ≡ true
begins_digit [] l e = absurd (omega arith)
begins_digit (b ∷ bs) l e =
    let digit : is_digit b ≡ true = rw e refl in
    or_left _ _ digit

-- the kind of a token by the class of its first byte
pub letter_kind : (text : List ℕ) → is_token text ≡ true → class_of (get_or text 0 0) ≡ Letter → kind_of text ≡ word_kind text
unfolding kind_of
letter_kind [] t e = cc
letter_kind (b ∷ bs) t e =
    let word : is_word (b ∷ bs) ≡ true = sym (letter_token b bs e) ∙ t in
    rw word refl

no_word : (b : ℕ) (bs : List ℕ) → begins_number (b ∷ bs) ≡ true → is_word (b ∷ bs) ≡ false
no_word b bs n = elim (or_cases (is_digit b) (b == 46 && begins is_digit bs) n) [
  | inl d ↦ let e : class_of b ≡ Digit = is_Digit (class_of b) d in rw e refl
  | inr p ↦
      let e : class_of b ≡ Other = ap class_of (eqb-true b 46 (and_parts (b == 46) (begins is_digit bs) p).0) ∙ point_class in
      rw e refl
]

two : (q : ℕ) (bs : List ℕ) → closes q false bs ≡ true → 2 ≤ suc (length bs)
two q [] h = cc
two q (c ∷ bs) h = omega arith

pub digit_kind : (text : List ℕ) → is_token text ≡ true → begins_number text ≡ true → kind_of text ≡ number_kind text
unfolding kind_of
digit_kind [] t n = cc
digit_kind (b ∷ bs) t n =
    let word : is_word (b ∷ bs) ≡ false = no_word b bs n in
    let number : is_number (b ∷ bs) ≡ true = and_from _ _ n (sym (number_token b bs n) ∙ t) in
    rw (word, number) refl

pub quote_kind : (text : List ℕ) → is_token text ≡ true → class_of (get_or text 0 0) ≡ Quote → (2 ≤ length text) × (kind_of text ≡ literal_kind text)
unfolding kind_of
quote_kind [] t e = cc
quote_kind (b ∷ bs) t e =
    let point = point_apart b (rw e refl) in
    let word : is_word (b ∷ bs) ≡ false = rw e refl in
    let number : is_number (b ∷ bs) ≡ false = rw (e, point) refl in
    let literal : is_literal (b ∷ bs) ≡ true = rw e (sym (quote_token b bs e) ∙ t) in
    (two b bs (sym (quote_token b bs e) ∙ t), rw (word, number, literal) refl)

pub other_kind : (text : List ℕ) → is_token text ≡ true → class_of (get_or text 0 0) ≡ Other → begins_number text ≡ false → kind_of text ≡ mark_kind text
unfolding kind_of
other_kind [] t e n = cc
other_kind (b ∷ bs) t e n =
    let word : is_word (b ∷ bs) ≡ false = rw e refl in
    let number : is_number (b ∷ bs) ≡ false = and_left _ _ n in
    let literal : is_literal (b ∷ bs) ≡ false = rw e refl in
    rw (word, number, literal) refl

-- no token begins with a space
pub space_no_token : (text : List ℕ) → is_token text ≡ true → class_of (get_or text 0 0) ≡ Space → ⊥
space_no_token [] t e = cc
space_no_token (b ∷ bs) t e =
    let point = point_apart b (rw e refl) in
    let word : is_word (b ∷ bs) ≡ false = rw e refl in
    let number : is_number (b ∷ bs) ≡ false = rw (e, point) refl in
    let literal : is_literal (b ∷ bs) ≡ false = rw e refl in
    let mark : is_mark (b ∷ bs) ≡ false = no_mark b bs (rw e refl) in
    both_ways (is_token (b ∷ bs)) (rw (word, number, literal, mark) refl) t

pub token_text_nonempty : (text : List ℕ) → is_token text ≡ true → 0 < length text
token_text_nonempty [] t = cc
token_text_nonempty (b ∷ bs) t = omega arith

pub longest_positive : (test : List ℕ → Bool) (text : List ℕ) (n : ℕ) → test [] ≡ false → IsLongest test text n → 0 < n
longest_positive test text zero e l = absurd (both_ways (test []) e l.passes)
longest_positive test text (suc n) e l = omega arith

pub shortest_positive : (test : List ℕ → Bool) (text : List ℕ) (n : ℕ) → test [] ≡ false → IsShortest test text n → 0 < n
shortest_positive test text zero e l = absurd (both_ways (test []) e l.passes)
shortest_positive test text (suc n) e l = omega arith

-- a piece that stands has at least one byte, and no more than the text
abbrev pub FitsIn : List ℕ → Result Piece Fault → Type 0
FitsIn text found = IfOk found (λ piece. (0 < size_of piece) × (size_of piece ≤ length text))

choice_fits : (b : Bool) (n : ℕ) (text : List ℕ) (k : Kind) → 0 < n → n ≤ length text → FitsIn text (cond b (Err Foreign) (Ok (pieces.Token k n)))
choice_fits true n text k l w = tt
choice_fits false n text k l w = (l, w)

token_fits : (p : Bool) (n : ℕ) (text front : List ℕ) (kind : Result Kind Fault) → 0 < n → n ≤ length text → FitsIn text (token_or_fault p n front kind)
token_fits p n text front (Err f) l w = tt
token_fits p n text front (Ok k) l w = choice_fits (p && begins is_quote front) n text k l w

pub token_stands_fits : (p : Bool) (text : List ℕ) (found : Result Piece Fault) → TokenStands p text found → FitsIn text found
token_stands_fits p text found (inl (n, l, e)) =
    let fits = token_fits p n text (take n text) (kind_of (take n text)) (longest_positive is_token text n refl l) l.within in
    subst (λ f. FitsIn text f) (sym e) fits
token_stands_fits p text found (inr (none, e)) = subst (λ f. FitsIn text f) (sym e) tt
