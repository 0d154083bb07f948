-- Where the longest mark ends.
use Rattle.std.proofs.Common.{◌≡◌, ◌<◌, ◌≤◌, ℕ, List, [], ◌∷◌, length, take, get_or, true, false, ◌&&◌, nat_le, refl, sym, subst, ◌∙◌, inl, inr, arith, zero, suc}
use Rattle.std.proofs.lemmas.Bool.{cases_lt, and_parts, and_from, both_ways, false_from_ne_true, le-leb, leb-true}
use Rattle.std.proofs.lemmas.List.{length-take-le, take_all}
use Rattle.c_lexer.specs.declared.class.Class.TheVariants.{Other}
use Rattle.c_lexer.specs.Bytes.{class_of}
use Rattle.c_lexer.specs.Forms.{begins_number, is_token, is_mark, IsLongest, NonePasses}
use Rattle.c_lexer.proofs.Classes.{mark_begins}
use Rattle.c_lexer.proofs.Ends.{other_token, begins_number_stays}

-- what begins at the front can be a mark alone
pub record BeginsMark (text : List ℕ) : Type 0 where
  pub other : class_of (get_or text 0 0) ≡ Other
  pub no_number : begins_number text ≡ false

no_number_within : (text : List ℕ) (m : ℕ) → begins_number text ≡ false → m ≤ length text → begins_number (take m text) ≡ false
no_number_within text m h l =
    false_from_ne_true (begins_number (take m text)) (λ e.
    let all : take (length text) text ≡ text = take_all (length text) text (omega arith) in
    both_ways (begins_number text) h (subst (λ t. begins_number t ≡ true) all (begins_number_stays text m (length text) l e)))

mark_token : (text : List ℕ) (m : ℕ) → BeginsMark text → m ≤ length text → is_token (take m text) ≡ is_mark (take m text)
mark_token [] zero s l = refl
mark_token [] (suc m) s l = refl
mark_token (b ∷ bs) zero s l = refl
mark_token (b ∷ bs) (suc m) s l = other_token b (take m bs) s.other (no_number_within (b ∷ bs) (suc m) s.no_number l)

long_is_none : (text : List ℕ) (m : ℕ) → 3 < m → m ≤ length text → is_mark (take m text) ≡ false
long_is_none text m l w =
    false_from_ne_true (is_mark (take m text)) (λ e.
    let short = (mark_begins (take m text) e).1 in
    absurd (omega (arith, length-take-le m text w)))

empty_is_none : is_mark [] ≡ false
empty_is_none = refl

-- no mark of m bytes stands at the front
abbrev pub Fails : List ℕ → ℕ → Type 0
Fails text m = (nat_le m (length text) && is_mark (take m text)) ≡ false

fails_is_none : (text : List ℕ) (m : ℕ) → Fails text m → m ≤ length text → is_mark (take m text) ≡ false
fails_is_none text m f l =
    false_from_ne_true (is_mark (take m text)) (λ e. both_ways _ f (and_from _ _ (le-leb m (length text) l) e))

abbrev pub FailFrom : List ℕ → ℕ → Type 0
FailFrom text n = (m : ℕ) → n < m → m ≤ 3 → Fails text m

pub fail_from_3 : (text : List ℕ) → FailFrom text 3
fail_from_3 text m l w = absurd (omega arith)

pub fail_more : (text : List ℕ) (n : ℕ) → Fails text (suc n) → FailFrom text (suc n) → FailFrom text n
fail_more text n f all m l w =
    elim (cases_lt (suc n) m) [
      | inl less ↦ all m less w
      | inr more ↦
          let same : m ≡ suc n = omega arith in
          subst (λ k. Fails text k) (sym same) f
    ]

none_longer : (text : List ℕ) (n m : ℕ) → FailFrom text n → n < m → m ≤ length text → is_mark (take m text) ≡ false
none_longer text n m f l w =
    elim (cases_lt 3 m) [
      | inl long ↦ long_is_none text m long w
      | inr short ↦ fails_is_none text m (f m l short) w
    ]

pub mark_ends : (text : List ℕ) (n : ℕ) → BeginsMark text → (nat_le n (length text) && is_mark (take n text)) ≡ true → FailFrom text n → IsLongest is_token text n
mark_ends text n s h f =
    let p = and_parts (nat_le n (length text)) (is_mark (take n text)) h in
    let w : n ≤ length text = leb-true n (length text) p.0 in
    record {
      within = w;
      passes = mark_token text n s w ∙ p.1;
      longest = λ m l k. mark_token text m s k ∙ none_longer text n m f l k;
    }

pub mark_never : (text : List ℕ) → BeginsMark text → FailFrom text 0 → NonePasses is_token text
mark_never text s f zero l = refl
mark_never text s f (suc m) l = mark_token text (suc m) s l ∙ none_longer text 0 (suc m) f (omega arith) l
