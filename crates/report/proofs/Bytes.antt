-- Where a text is a run of bytes that pass a test, up to one that doesn't, the run and what follows it are determined.
use Rattle.std.proofs.Common.{◌≡◌, ℕ, ◌^◌, ◌<◌, Bool, true, false, List, [], ◌∷◌, ◌++◌, sym, refl, ap, ◌∙◌, subst}
use Rattle.std.proofs.lemmas.Bool.{false≢true}
use Rattle.std.proofs.lemmas.Fmt.{digits_decimal, decimal_injective}
use Rattle.std.proofs.lemmas.Str.Parse.{IsNumeralModel, numerals_by_value, tells_all_ascii_digits}
use Rattle.std.specs.Char.{is_ascii_digit}
use Rattle.std.specs.Fmt.{decimal}
use Rattle.std.specs.Str.{all_ascii_digits}
use Rattle.std.specs.Str.Parse.{digits_value}
use Rattle.report.specs.Runs.{passes}
use Rattle.report.proofs.Both.{and_both}

pub head_is : {x y : ℕ} {xs ys : List ℕ} → x ∷ xs ≡ y ∷ ys → x ≡ y
head_is e = cc

pub tail_is : {x y : ℕ} {xs ys : List ℕ} → x ∷ xs ≡ y ∷ ys → xs ≡ ys
tail_is e = cc

pub cons_is : (x y : ℕ) (xs ys : List ℕ) → x ≡ y → xs ≡ ys → x ∷ xs ≡ y ∷ ys
cons_is x y xs ys p q = cc

pub one_run : (p : ℕ → Bool) (xs ys : List ℕ) (c d : ℕ) (cs ds : List ℕ) → passes p xs ≡ true → passes p ys ≡ true → p c ≡ false → p d ≡ false → xs ++ c ∷ cs ≡ ys ++ d ∷ ds → (xs ≡ ys) × (c ∷ cs ≡ d ∷ ds)
one_run p [] [] c d cs ds px py pc pd e = (refl, e)
one_run p [] (y ∷ ys) c d cs ds px py pc pd e = absurd (false≢true (sym pc ∙ ap p (head_is e) ∙ (and_both (p y) (passes p ys) py).0))
one_run p (x ∷ xs) [] c d cs ds px py pc pd e = absurd (false≢true (sym pd ∙ ap p (sym (head_is e)) ∙ (and_both (p x) (passes p xs) px).0))
one_run p (x ∷ xs) (y ∷ ys) c d cs ds px py pc pd e =
    let more = one_run p xs ys c d cs ds (and_both (p x) (passes p xs) px).1 (and_both (p y) (passes p ys) py).1 pc pd (tail_is e) in
    (cons_is x y xs ys (head_is e) more.0, more.1)

-- ---- numbers

own : IsNumeralModel (λ ds. all_ascii_digits ds ≡ true) (digits_value 10)
own = numerals_by_value _ tells_all_ascii_digits

digits_pass : (ds : List ℕ) → all_ascii_digits ds ≡ true → passes is_ascii_digit ds ≡ true
digits_pass [] h = refl
digits_pass (d ∷ ds) h = let x = and_both (is_ascii_digit d) (all_ascii_digits ds) h in rw (x.0, digits_pass ds x.1) refl

pub decimal_passes : (n : ℕ) → n < 2 ^ 64 → passes is_ascii_digit (decimal n) ≡ true
decimal_passes n small = digits_pass (decimal n) (digits_decimal own n small)

-- a number in decimal in front of a byte that is no digit
pub one_number : (m n : ℕ) (c d : ℕ) (cs ds : List ℕ) → m < 2 ^ 64 → n < 2 ^ 64 → is_ascii_digit c ≡ false → is_ascii_digit d ≡ false → decimal m ++ c ∷ cs ≡ decimal n ++ d ∷ ds → (m ≡ n) × (c ∷ cs ≡ d ∷ ds)
one_number m n c d cs ds small fits pc pd e =
    let r = one_run is_ascii_digit (decimal m) (decimal n) c d cs ds (decimal_passes m small) (decimal_passes n fits) pc pd e in
    (decimal_injective m n small fits r.0, r.1)

-- ---- the last byte of a kind

passes_append : (p : ℕ → Bool) (xs ys : List ℕ) → passes p xs ≡ true → passes p ys ≡ true → passes p (xs ++ ys) ≡ true
passes_append p [] ys px py = py
passes_append p (x ∷ xs) ys px py = let a = and_both (p x) (passes p xs) px in rw (a.0, passes_append p xs ys a.1 py) refl

pub passes_all : (p : ℕ → Bool) (xs ys : List ℕ) → passes p xs ≡ true → passes p ys ≡ true → passes p (xs ++ ys) ≡ true
passes_all = passes_append

pub no_middle : (p : ℕ → Bool) (xs : List ℕ) (c : ℕ) (cs : List ℕ) → passes p (xs ++ c ∷ cs) ≡ true → p c ≡ false → ⊥
no_middle p [] c cs h pc = false≢true (sym pc ∙ (and_both (p c) (passes p cs) h).0)
no_middle p (x ∷ xs) c cs h pc = no_middle p xs c cs (and_both (p x) (passes p (xs ++ c ∷ cs)) h).1 pc

-- where what follows a byte has none of its kind, that byte is the last one
pub one_end : (p : ℕ → Bool) (xs ys : List ℕ) (c : ℕ) (cs ds : List ℕ) → p c ≡ false → passes p cs ≡ true → passes p ds ≡ true → xs ++ c ∷ cs ≡ ys ++ c ∷ ds → (xs ≡ ys) × (cs ≡ ds)
one_end p [] [] c cs ds pc pcs pds e = (refl, tail_is e)
one_end p [] (y ∷ ys) c cs ds pc pcs pds e = absurd (no_middle p ys c ds (subst (λ xs. passes p xs ≡ true) (tail_is e) pcs) pc)
one_end p (x ∷ xs) [] c cs ds pc pcs pds e = absurd (no_middle p xs c cs (subst (λ xs. passes p xs ≡ true) (sym (tail_is e)) pds) pc)
one_end p (x ∷ xs) (y ∷ ys) c cs ds pc pcs pds e =
    let more = one_end p xs ys c cs ds pc pcs pds (tail_is e) in
    (cons_is x y xs ys (head_is e) more.0, more.1)
