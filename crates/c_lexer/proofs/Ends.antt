-- Where the longest words and numbers end.
use Rattle.std.proofs.Common.{◌≡◌, ◌<◌, ◌≤◌, ◌+◌, ◌-◌, ℕ, List, [], ◌∷◌, length, take, get_or, Bool, true, false, ◌==◌, ◌&&◌, ◌||◌, refl, sym, ap, subst, ◌∙◌, inl, inr, arith, zero, suc, add-one, sub-one}
use Rattle.std.proofs.lemmas.Bool.{and_parts, and_from, and_left, and_right, or_left, or_right, or_cases, ne_eqb, eqb-true, both_ways}
use Rattle.c_lexer.specs.declared.class.Class.TheVariants.{Letter, Digit, Quote, Other}
use Rattle.c_lexer.specs.Bytes.{class_of, digit_class, is_letter, is_digit, is_word_byte}
use Rattle.c_lexer.specs.Forms.{begins, is_word, is_number, is_literal, is_mark, is_token, begins_number, runs_on, in_word, in_number, closes, IsLongest}
use Rattle.c_lexer.proofs.Classes.{no_mark_with_digit, other_class, is_other, is_Letter, is_Digit, no_mark}
use Rattle.c_lexer.proofs.Runs.{run_more, run_ends}

first_only : (x : Bool) → (((x || false) || false) || false) ≡ x
first_only true = refl
first_only false = refl

second_only : (x : Bool) → (((false || x) || false) || false) ≡ x
second_only true = refl
second_only false = refl

third_only : (x : Bool) → (((false || false) || x) || false) ≡ x
third_only true = refl
third_only false = refl

pub point_class : class_of 46 ≡ Other
unfolding class_of
point_class = refl

pub point_apart : (b : ℕ) → is_other b ≡ false → (b == 46) ≡ false
point_apart b h = ne_eqb b 46 (λ e. both_ways (is_other b) h (subst (λ x. is_other x ≡ true) (sym e) (ap other_class point_class)))

-- a letter begins words alone
pub letter_token : (b : ℕ) (bs : List ℕ) → class_of b ≡ Letter → is_token (b ∷ bs) ≡ is_word (b ∷ bs)
letter_token b bs e =
    let point : (b == 46) ≡ false = point_apart b (rw e refl) in
    let number : is_number (b ∷ bs) ≡ false = rw (e, point) refl in
    let literal : is_literal (b ∷ bs) ≡ false = rw e refl in
    let mark : is_mark (b ∷ bs) ≡ false = no_mark b bs (rw e refl) in
    rw (number, literal, mark) (first_only (is_word (b ∷ bs)))

-- a quote begins literals alone
pub quote_token : (b : ℕ) (bs : List ℕ) → class_of b ≡ Quote → is_token (b ∷ bs) ≡ closes b false bs
quote_token b bs e =
    let point : (b == 46) ≡ false = point_apart b (rw e refl) in
    let word : is_word (b ∷ bs) ≡ false = rw e refl in
    let number : is_number (b ∷ bs) ≡ false = rw (e, point) refl in
    let literal : is_literal (b ∷ bs) ≡ closes b false bs = rw e refl in
    let mark : is_mark (b ∷ bs) ≡ false = no_mark b bs (rw e refl) in
    rw (word, number, literal, mark) (third_only (closes b false bs))

-- what begins no number, in the class of the marks, begins marks alone
pub other_token : (b : ℕ) (bs : List ℕ) → class_of b ≡ Other → begins_number (b ∷ bs) ≡ false → is_token (b ∷ bs) ≡ is_mark (b ∷ bs)
other_token b bs e n =
    let word : is_word (b ∷ bs) ≡ false = rw e refl in
    let number : is_number (b ∷ bs) ≡ false = and_left _ _ n in
    let literal : is_literal (b ∷ bs) ≡ false = rw e refl in
    rw (word, number, literal) refl

pub word_begins : (text : List ℕ) → begins is_letter text ≡ true → is_word (take 1 text) ≡ true
word_begins [] h = cc
word_begins (b ∷ bs) h = and_from _ _ h refl

pub word_more : (text : List ℕ) (n : ℕ) → 0 < n → n < length text → is_word (take n text) ≡ true → is_word_byte (get_or text n 0) ≡ true → is_word (take (n + 1) text) ≡ true
word_more [] n z l h e = absurd (omega arith)
word_more (b ∷ bs) zero z l h e = absurd (omega arith)
word_more (b ∷ bs) (suc n) z l h e =
    let p = and_parts (is_letter b) (runs_on in_word b (take n bs)) h in
    rw add-one (and_from _ _ p.0 (run_more in_word b bs n (omega arith) p.1 e))

word_past : (b : ℕ) (bs : List ℕ) (n m : ℕ) → class_of b ≡ Letter → n < length bs → suc n < m → is_word_byte (get_or bs n 0) ≡ false → is_token (take m (b ∷ bs)) ≡ false
word_past b bs n zero c l k e = absurd (omega arith)
word_past b bs n (suc m) c l k e =
    letter_token b (take m bs) c ∙ and_right (is_letter b) (runs_on in_word b (take m bs)) (run_ends in_word b bs n m l (omega arith) e)

pub word_ends : (text : List ℕ) (n : ℕ) → begins is_letter text ≡ true → 0 < n → n < length text → is_word (take n text) ≡ true → is_word_byte (get_or text n 0) ≡ false → IsLongest is_token text n
word_ends [] n s z l h e = absurd (omega arith)
word_ends (b ∷ bs) zero s z l h e = absurd (omega arith)
word_ends (b ∷ bs) (suc n) s z l h e =
    let c : class_of b ≡ Letter = is_Letter (class_of b) s in
    record {
      within = omega arith;
      passes = letter_token b (take n bs) c ∙ h;
      longest = λ m k w. word_past b bs n m c (omega arith) k e;
    }

-- a digit, or a point with a digit behind it, begins numbers alone
pub number_token : (b : ℕ) (bs : List ℕ) → begins_number (b ∷ bs) ≡ true → is_token (b ∷ bs) ≡ runs_on in_number b bs
number_token b bs h = elim (or_cases (is_digit b) (b == 46 && begins is_digit bs) h) [
  | inl d ↦
      let e : class_of b ≡ Digit = is_Digit (class_of b) d in
      let word : is_word (b ∷ bs) ≡ false = rw e refl in
      let number : is_number (b ∷ bs) ≡ runs_on in_number b bs = rw e refl in
      let literal : is_literal (b ∷ bs) ≡ false = rw e refl in
      let mark : is_mark (b ∷ bs) ≡ false = no_mark b bs (rw e refl) in
      rw (word, number, literal, mark) (second_only (runs_on in_number b bs))
  | inr p ↦
      let q = and_parts (b == 46) (begins is_digit bs) p in
      let e : class_of b ≡ Other = ap class_of (eqb-true b 46 q.0) ∙ point_class in
      let word : is_word (b ∷ bs) ≡ false = rw e refl in
      let number : is_number (b ∷ bs) ≡ runs_on in_number b bs = rw (e, q.0, q.1) refl in
      let literal : is_literal (b ∷ bs) ≡ false = rw e refl in
      let mark : is_mark (b ∷ bs) ≡ false = no_mark_with_digit b bs q.1 in
      rw (word, number, literal, mark) (second_only (runs_on in_number b bs))
]

pub begins_stays : (f : ℕ → Bool) (xs : List ℕ) (n m : ℕ) → n ≤ m → begins f (take n xs) ≡ true → begins f (take m xs) ≡ true
begins_stays f [] zero m l h = cc
begins_stays f [] (suc n) m l h = cc
begins_stays f (x ∷ xs) zero m l h = cc
begins_stays f (x ∷ xs) (suc n) zero l h = absurd (omega arith)
begins_stays f (x ∷ xs) (suc n) (suc m) l h = h

pub begins_number_stays : (text : List ℕ) (n m : ℕ) → n ≤ m → begins_number (take n text) ≡ true → begins_number (take m text) ≡ true
begins_number_stays [] zero m l h = cc
begins_number_stays [] (suc n) m l h = cc
begins_number_stays (b ∷ bs) zero m l h = cc
begins_number_stays (b ∷ bs) (suc n) zero l h = absurd (omega arith)
begins_number_stays (b ∷ bs) (suc n) (suc m) l h = elim (or_cases (is_digit b) (b == 46 && begins is_digit (take n bs)) h) [
  | inl d ↦ or_left _ _ d
  | inr p ↦
      let q = and_parts (b == 46) (begins is_digit (take n bs)) p in
      or_right _ _ (and_from _ _ q.0 (begins_stays is_digit bs n m (omega arith) q.1))
]

pub number_begins : (text : List ℕ) → begins_number text ≡ true → (get_or text 0 0 == 46) ≡ false → (1 ≤ length text) × (is_number (take 1 text) ≡ true)
number_begins [] h e = cc
number_begins (b ∷ bs) h e =
    elim (or_cases (is_digit b) (b == 46 && begins is_digit bs) h) [
      | inl d ↦ (omega arith, and_from _ _ (or_left _ _ d) refl)
      | inr p ↦ absurd (both_ways (b == 46) e (and_parts _ _ p).0)
    ]

pub number_begins_point : (text : List ℕ) → begins_number text ≡ true → (get_or text 0 0 == 46) ≡ true → (2 ≤ length text) × (is_number (take 2 text) ≡ true)
number_begins_point [] h e = cc
number_begins_point (b ∷ []) h e =
    elim (or_cases (is_digit b) (b == 46 && false) h) [
      | inl d ↦ absurd (both_ways (is_digit b) (ap is_digit (eqb-true b 46 e) ∙ ap digit_class point_class) d)
      | inr p ↦ absurd (both_ways false refl (and_parts _ _ p).1)
    ]
number_begins_point (b ∷ c ∷ bs) h e =
    elim (or_cases (is_digit b) (b == 46 && is_digit c) h) [
      | inl d ↦ absurd (both_ways (is_digit b) (ap is_digit (eqb-true b 46 e) ∙ ap digit_class point_class) d)
      | inr p ↦
          let two : 2 ≤ length (b ∷ c ∷ bs) = omega arith in
          let k : is_digit c ≡ true = (and_parts (b == 46) (is_digit c) p).1 in
          let w : in_number b c ≡ true = or_left _ _ (or_left _ _ (or_right _ _ k)) in
          (two, and_from _ _ h (and_from _ _ w refl))
    ]

pub number_more : (text : List ℕ) (n : ℕ) → 0 < n → n < length text → is_number (take n text) ≡ true → in_number (get_or text (n - 1) 0) (get_or text n 0) ≡ true → is_number (take (n + 1) text) ≡ true
number_more [] n z l h e = absurd (omega arith)
number_more (b ∷ bs) zero z l h e = absurd (omega arith)
number_more (b ∷ bs) (suc n) z l h e =
    let p = and_parts (begins_number (b ∷ take n bs)) (runs_on in_number b (take n bs)) h in
    let s : begins_number (take (suc (suc n)) (b ∷ bs)) ≡ true = begins_number_stays (b ∷ bs) (suc n) (suc (suc n)) (omega arith) p.0 in
    let k : in_number (get_or (b ∷ bs) n 0) (get_or bs n 0) ≡ true = rw sub-one at e in
    rw add-one (and_from _ _ s (run_more in_number b bs n (omega arith) p.1 k))

number_past : (b : ℕ) (bs : List ℕ) (n m : ℕ) → begins_number (b ∷ take n bs) ≡ true → n < length bs → suc n < m → in_number (get_or (b ∷ bs) n 0) (get_or bs n 0) ≡ false → is_token (take m (b ∷ bs)) ≡ false
number_past b bs n zero c l k e = absurd (omega arith)
number_past b bs n (suc m) c l k e =
    number_token b (take m bs) (begins_number_stays (b ∷ bs) (suc n) (suc m) (omega arith) c) ∙ run_ends in_number b bs n m l (omega arith) e

pub number_ends : (text : List ℕ) (n : ℕ) → 0 < n → n < length text → is_number (take n text) ≡ true → in_number (get_or text (n - 1) 0) (get_or text n 0) ≡ false → IsLongest is_token text n
number_ends [] n z l h e = absurd (omega arith)
number_ends (b ∷ bs) zero z l h e = absurd (omega arith)
number_ends (b ∷ bs) (suc n) z l h e =
    let p = and_parts (begins_number (b ∷ take n bs)) (runs_on in_number b (take n bs)) h in
    let k : in_number (get_or (b ∷ bs) n 0) (get_or bs n 0) ≡ false = rw sub-one at e in
    record {
      within = omega arith;
      passes = number_token b (take n bs) p.0 ∙ p.1;
      longest = λ m j w. number_past b bs n m p.0 (omega arith) j k;
    }
