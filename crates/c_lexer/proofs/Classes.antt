-- What kind of byte each kind of token begins with: the kinds exclude one another.
use Rattle.std.proofs.Common.{◌≡◌, ◌≤◌, ℕ, List, [], ◌∷◌, length, drop, Bool, true, false, Option, Some, None, refl, sym, ap, subst, ◌∙◌, inl, inr, arith}
use Rattle.std.proofs.lemmas.Bool.{cases_Bool, false_from_ne_true, both_ways}
use Rattle.std.proofs.lemmas.Slice.Eq.{bytes_eq-Decides}
use Rattle.std.specs.List.{find}
use Rattle.std.specs.Prelude.{is_some}
use Rattle.std.specs.Str.{bytes_eq}
use Rattle.c_lexer.specs.declared.class.Class.{Class}
use Rattle.c_lexer.specs.declared.class.Class.TheVariants.{Letter, Digit, Quote, Space, Other}
use Rattle.c_token.specs.declared.token.Mark.{Mark}
use Rattle.c_token.specs.declared.token.Mark.TheVariants as marks
use Rattle.c_token.specs.declared.token.TheConstants.{MARKS}
use Rattle.c_lexer.specs.Bytes.{class_of, letter_class, digit_class, quote_class, is_digit}
use Rattle.c_token.specs.Spelling.{mark_text, mark_of}
use Rattle.c_lexer.specs.Forms.{begins, is_mark}

abbrev pub other_class : Class → Bool
other_class Letter = false
other_class Digit = false
other_class Quote = false
other_class Space = false
other_class Other = true

abbrev pub is_other : ℕ → Bool
is_other b = other_class (class_of b)

pub is_Letter : (c : Class) → letter_class c ≡ true → c ≡ Letter
is_Letter Letter h = refl
is_Letter Digit h = cc
is_Letter Quote h = cc
is_Letter Space h = cc
is_Letter Other h = cc

pub is_Quote : (c : Class) → quote_class c ≡ true → c ≡ Quote
is_Quote Letter h = cc
is_Quote Digit h = cc
is_Quote Quote h = refl
is_Quote Space h = cc
is_Quote Other h = cc

pub is_Digit : (c : Class) → digit_class c ≡ true → c ≡ Digit
is_Digit Letter h = cc
is_Digit Digit h = refl
is_Digit Quote h = cc
is_Digit Space h = cc
is_Digit Other h = cc

find_passes : {X : Type 0} (p : X → Bool) (xs : List X) (x : X) → find p xs ≡ Some x → p x ≡ true
find_passes p [] x h = cc
find_passes p (y ∷ ys) x h =
    elim (cases_Bool (p y)) [
      | inl e ↦ let k : Some y ≡ Some x = sym (rw e refl) ∙ h in subst (λ z. p z ≡ true) (let i : y ≡ x = cc in i) e
      | inr e ↦ find_passes p ys x (let k : find p ys ≡ Some x = rw e at h in k)
    ]

mark_is_other : (m : Mark) → begins is_other (mark_text m) ≡ true
unfolding class_of
mark_is_other marks.LeftBracket = refl
mark_is_other _ = refl

mark_is_short : (m : Mark) → length (mark_text m) ≤ 3
mark_is_short marks.LeftBracket = omega arith
mark_is_short _ = omega arith

mark_has_no_digit : (m : Mark) → begins is_digit (drop 1 (mark_text m)) ≡ false
unfolding class_of
mark_has_no_digit marks.LeftBracket = refl
mark_has_no_digit _ = refl

mark_spelled : (text : List ℕ) (m : Mark) → mark_of text ≡ Some m → mark_text m ≡ text
mark_spelled text m h = (bytes_eq-Decides (mark_text m) text).0 (find_passes (λ mark. bytes_eq (mark_text mark) text) MARKS m h)

some_of : {X : Type 0} (o : Option X) → is_some o ≡ true → (x : X) × (o ≡ Some x)
some_of None h = cc
some_of (Some x) h = (x, refl)

pub mark_begins : (text : List ℕ) → is_mark text ≡ true → (begins is_other text ≡ true) × (length text ≤ 3)
mark_begins text h =
    let found = some_of (mark_of text) h in
    let e : mark_text found.0 ≡ text = mark_spelled text found.0 found.1 in
    (subst (λ t. begins is_other t ≡ true) e (mark_is_other found.0), subst (λ t. length t ≤ 3) e (mark_is_short found.0))

pub no_mark : (b : ℕ) (bs : List ℕ) → is_other b ≡ false → is_mark (b ∷ bs) ≡ false
no_mark b bs h = false_from_ne_true (is_mark (b ∷ bs)) (λ e. both_ways (is_other b) h (mark_begins (b ∷ bs) e).0)

pub no_mark_with_digit : (b : ℕ) (bs : List ℕ) → begins is_digit bs ≡ true → is_mark (b ∷ bs) ≡ false
no_mark_with_digit b bs h = false_from_ne_true (is_mark (b ∷ bs)) (λ e.
    let found = some_of (mark_of (b ∷ bs)) e in
    let s : mark_text found.0 ≡ b ∷ bs = mark_spelled (b ∷ bs) found.0 found.1 in
    both_ways (begins is_digit bs) (sym (ap (λ t. begins is_digit (drop 1 t)) s) ∙ mark_has_no_digit found.0) h)
