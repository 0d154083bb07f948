-- Where literals end.
use Rattle.std.proofs.Common.{◌≡◌, ◌<◌, ◌≤◌, ◌+◌, ◌-◌, ℕ, List, [], ◌∷◌, length, take, drop, get_or, Bool, true, false, ◌==◌, ◌&&◌, not, refl, ap, subst, ◌∙◌, inl, inr, arith, zero, suc, sub-one, zero-add}
use Rattle.std.proofs.lemmas.Bool.{cases_lt}
use Rattle.std.proofs.lemmas.List.{drop_more, length-drop}
use Rattle.c_lexer.specs.declared.class.Class.TheVariants.{Quote}
use Rattle.c_lexer.specs.Bytes.{class_of, is_quote}
use Rattle.c_lexer.specs.Forms.{begins, is_token, closes, is_empty, IsLongest, NonePasses}
use Rattle.c_lexer.proofs.Classes.{is_Quote}
use Rattle.c_lexer.proofs.Ends.{quote_token}

-- behind the quote the first j bytes close nothing, and `escaped` says whether the last of them escapes the next
pub record Scanned (quote : ℕ) (bs : List ℕ) (j : ℕ) (escaped : Bool) : Type 0 where
  pub goes_on : (k : ℕ) → closes quote false (take (j + k) bs) ≡ closes quote escaped (take k (drop j bs))
  pub unclosed : (m : ℕ) → m ≤ j → closes quote false (take m bs) ≡ false

pub scan_start : (quote : ℕ) (bs : List ℕ) → Scanned quote bs 0 false
scan_start quote bs = record {
  goes_on = λ k. rw zero-add refl;
  unclosed = λ m l. let e : m ≡ 0 = omega arith in rw e refl;
}

-- what the byte at j makes of it
closes_at : (quote : ℕ) (bs : List ℕ) (j k : ℕ) (escaped : Bool) → j < length bs → Scanned quote bs j escaped →
    closes quote false (take (j + suc k) bs) ≡ closes quote escaped (get_or bs j 0 ∷ take k (drop (j + 1) bs))
closes_at quote bs j k escaped l s =
    s.goes_on (suc k) ∙ ap (λ xs. closes quote escaped (take (suc k) xs)) (drop_more bs j 0 l)

pub scan_more : (quote : ℕ) (bs : List ℕ) (j : ℕ) (escaped : Bool) → j < length bs →
    (get_or bs j 0 == 10) ≡ false → (not escaped && get_or bs j 0 == quote) ≡ false →
    Scanned quote bs j escaped → Scanned quote bs (j + 1) (not escaped && get_or bs j 0 == 92)
scan_more quote bs j escaped l newline other s =
    let step : (k : ℕ) → closes quote false (take (j + 1 + k) bs) ≡ closes quote (not escaped && get_or bs j 0 == 92) (take k (drop (j + 1) bs)) =
    λ k. let shift : j + 1 + k ≡ j + suc k = omega arith in
    rw shift (closes_at quote bs j k escaped l s ∙ rw (newline, other) refl) in
    record {
      goes_on = step;
      unclosed = λ m w. elim (cases_lt m (j + 1)) [
        | inl less ↦ s.unclosed m (omega arith)
        | inr more ↦
            let same : m ≡ j + 1 + 0 = omega arith in
            ap (λ n. closes quote false (take n bs)) same ∙ step 0
      ];
    }

-- at a newline nothing closes any more
pub scan_newline : (quote : ℕ) (bs : List ℕ) (j : ℕ) (escaped : Bool) → j < length bs →
    (get_or bs j 0 == 10) ≡ true → Scanned quote bs j escaped → (m : ℕ) → closes quote false (take m bs) ≡ false
scan_newline quote bs j escaped l newline s m =
    elim (cases_lt j m) [
      | inr less ↦ s.unclosed m less
      | inl more ↦
          let same : m ≡ j + suc (m - suc j) = omega arith in
          ap (λ n. closes quote false (take n bs)) same ∙ closes_at quote bs j (m - suc j) escaped l s ∙ rw newline refl
    ]

pub scan_closes : (quote : ℕ) (bs : List ℕ) (j : ℕ) (escaped : Bool) → j < length bs →
    (get_or bs j 0 == 10) ≡ false → (not escaped && get_or bs j 0 == quote) ≡ true → Scanned quote bs j escaped →
    closes quote false (take (j + 1) bs) ≡ true
scan_closes quote bs j escaped l newline closing s =
    closes_at quote bs j 0 escaped l s ∙ rw (newline, closing) refl

nonempty : (xs : List ℕ) (k : ℕ) → 0 < length xs → is_empty (take (suc k) xs) ≡ false
nonempty [] k l = absurd (omega arith)
nonempty (x ∷ xs) k l = refl

pub scan_past : (quote : ℕ) (bs : List ℕ) (j m : ℕ) (escaped : Bool) → j + 1 < m → m ≤ length bs →
    (get_or bs j 0 == 10) ≡ false → (not escaped && get_or bs j 0 == quote) ≡ true → Scanned quote bs j escaped →
    closes quote false (take m bs) ≡ false
scan_past quote bs j m escaped l w newline closing s =
    let k = m - suc (suc j) in
    let same : m ≡ j + suc (suc k) = omega arith in
    let more : is_empty (take (suc k) (drop (j + 1) bs)) ≡ false = nonempty (drop (j + 1) bs) k (omega (arith, length-drop (j + 1) bs)) in
    ap (λ n. closes quote false (take n bs)) same ∙ closes_at quote bs j (suc k) escaped (omega arith) s ∙ rw (newline, closing, more) refl

-- The same over the whole text, with the position `end` behind the bytes that were scanned.
abbrev pub ScannedTo : List ℕ → ℕ → Bool → Type 0
ScannedTo text end escaped = (1 ≤ end) × (end ≤ length text) × Scanned (get_or text 0 0) (drop 1 text) (end - 1) escaped

pub to_start : (text : List ℕ) → begins is_quote text ≡ true → ScannedTo text 1 false
to_start [] h = cc
to_start (b ∷ bs) h = (omega arith, omega arith, scan_start b bs)

pub to_more : (text : List ℕ) (end : ℕ) (escaped : Bool) → end < length text → (get_or text end 0 == 10) ≡ false →
    (not escaped && get_or text end 0 == get_or text 0 0) ≡ false → ScannedTo text end escaped →
    ScannedTo text (end + 1) (not escaped && get_or text end 0 == 92)
to_more text zero escaped l newline other s = absurd (omega (arith, s.0))
to_more [] (suc j) escaped l newline other s = absurd (omega arith)
to_more (b ∷ bs) (suc j) escaped l newline other s =
    let k : Scanned b bs j escaped = rw sub-one at s.2 in
    let next : j + 1 ≡ suc j + 1 - 1 = omega arith in
    (omega arith, omega arith, subst (λ n. Scanned b bs n (not escaped && get_or bs j 0 == 92)) next (scan_more b bs j escaped (omega arith) newline other k))

no_token_empty : is_token [] ≡ false
no_token_empty = refl

all_open : (b : ℕ) (bs : List ℕ) (m : ℕ) → class_of b ≡ Quote → ((k : ℕ) → k < m → m ≤ k + 1 → closes b false (take k bs) ≡ false) → is_token (take m (b ∷ bs)) ≡ false
all_open b bs zero c h = no_token_empty
all_open b bs (suc k) c h = quote_token b (take k bs) c ∙ h k (omega arith) (omega arith)

pub to_newline : (text : List ℕ) (end : ℕ) (escaped : Bool) → begins is_quote text ≡ true → end < length text → (get_or text end 0 == 10) ≡ true →
    ScannedTo text end escaped → NonePasses is_token text
to_newline text zero escaped q l newline s = absurd (omega (arith, s.0))
to_newline [] (suc j) escaped q l newline s = absurd (omega arith)
to_newline (b ∷ bs) (suc j) escaped q l newline s =
    let k : Scanned b bs j escaped = rw sub-one at s.2 in
    λ m w. all_open b bs m (is_Quote (class_of b) q) (λ n u v. scan_newline b bs j escaped (omega arith) newline k n)

pub to_end : (text : List ℕ) (end : ℕ) (escaped : Bool) → begins is_quote text ≡ true → length text ≤ end →
    ScannedTo text end escaped → NonePasses is_token text
to_end text zero escaped q l s = absurd (omega (arith, s.0))
to_end [] (suc j) escaped q l s = cc
to_end (b ∷ bs) (suc j) escaped q l s =
    let k : Scanned b bs j escaped = rw sub-one at s.2 in
    λ m w. all_open b bs m (is_Quote (class_of b) q) (λ n u v. k.unclosed n (omega arith))

pub to_close : (text : List ℕ) (end : ℕ) (escaped : Bool) → begins is_quote text ≡ true → end < length text → (get_or text end 0 == 10) ≡ false →
    (not escaped && get_or text end 0 == get_or text 0 0) ≡ true → ScannedTo text end escaped → IsLongest is_token text (end + 1)
to_close text zero escaped q l newline closing s = absurd (omega (arith, s.0))
to_close [] (suc j) escaped q l newline closing s = absurd (omega arith)
to_close (b ∷ bs) (suc j) escaped q l newline closing s =
    let k : Scanned b bs j escaped = rw sub-one at s.2 in
    let c : class_of b ≡ Quote = is_Quote (class_of b) q in
    let closed : is_token (take (suc j + 1) (b ∷ bs)) ≡ true =
    let e : suc j + 1 ≡ suc (j + 1) = omega arith in
    ap (λ n. is_token (take n (b ∷ bs))) e ∙ quote_token b (take (j + 1) bs) c ∙ scan_closes b bs j escaped (omega arith) newline closing k in
    record {
      within = omega arith;
      passes = closed;
      longest = λ m u w. all_open b bs m c (λ n x y. scan_past b bs j n escaped (omega arith) (omega arith) newline closing k);
    }
