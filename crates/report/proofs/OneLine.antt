-- A line of a failure text has one reading, whatever follows it.
use Rattle.std.proofs.Common.{◌≡◌, ℕ, ◌^◌, ◌<◌, ◌≤◌, Bool, true, false, not, cond, eqb, List, [], ◌∷◌, ◌++◌, Option, Some, None, sym, refl, ap, ◌∙◌, arith, All}
use Rattle.std.proofs.lemmas.Bool.Decides.{nat_tests}
use Rattle.std.proofs.lemmas.List.{append_cancel_left, append_cancel_right}
use Rattle.std.proofs.lemmas.List.Elements.{All-head, All-tail}
use mathlib.Core.List.{append_assoc}
use Rattle.std.proofs.lemmas.Fmt.{decimal_injective}
use Rattle.std.specs.Prelude.{codes}
use Rattle.std.specs.Char.{is_ascii_digit}
use Rattle.std.specs.Fmt.{decimal}
use Rattle.std.specs.Str.{bytes_eq}
use Rattle.words.specs.declared.check.Class.{Class}
use Rattle.words.specs.declared.check.Class.TheVariants.{Assertion, Overflow, Division, Shift, Null, InvalidPointer, Lifetime, Bounds, Readonly, MixedSize, Pointer, Free, MallocLimit, Mutex, Join, Return, Unwind, Recursion}
use Rattle.report.specs.Identifiers.{is_letter, is_word_byte, all_word_bytes, is_identifier}
use Rattle.report.specs.FileNames.{is_name_byte, all_name_bytes}
use Rattle.report.specs.Report.{class_name, line_of, file_line, assertions_lines, check_line, spaced_words, inputs_line, spaced_rows, schedule_line, IsDrawn, IsRow}
use Rattle.report.specs.Lines.{Line, generated, file, off, violated, inputs, schedule, failed, line_text, IsLine}
use Rattle.report.specs.Runs.{passes}
use Rattle.report.proofs.Both.{and_both}
use Rattle.report.proofs.Bytes.{head_is, tail_is, cons_is, passes_all, one_run, one_number, one_end, decimal_passes}

some_is : {A : Type 0} {x y : A} → Some x ≡ Some y → x ≡ y
some_is e = cc

abbrev pub other_than : ℕ → ℕ → Bool
other_than d c = not (eqb c d)

-- ---- the words of one thread

-- what follows a word begins with a byte that is no digit
record NoDigit (text : List ℕ) : Type 0 where
  first : ℕ
  more : List ℕ
  whole : text ≡ first ∷ more
  other : is_ascii_digit first ≡ false

after_words : (ws z : List ℕ) → NoDigit (spaced_words ws ++ 10 ∷ z)
after_words [] z = record { first = 10; more = z; whole = refl; other = refl }
after_words (w ∷ ws) z = record { first = 32; more = (decimal w ++ spaced_words ws) ++ 10 ∷ z; whole = refl; other = refl }

-- a number in front of two such texts
number_then : (m n : ℕ) (x y : List ℕ) → m < 2 ^ 64 → n < 2 ^ 64 → NoDigit x → NoDigit y → decimal m ++ x ≡ decimal n ++ y → (m ≡ n) × (x ≡ y)
number_then m n x y small fits a b e =
    let r = one_number m n a.first b.first a.more b.more small fits a.other b.other (ap (λ t. decimal m ++ t) (sym a.whole) ∙ e ∙ ap (λ t. decimal n ++ t) b.whole) in
    (r.0, a.whole ∙ r.1 ∙ sym b.whole)

pub words_one : (ws vs y z : List ℕ) → All (λ w. w < 2 ^ 64) ws → All (λ w. w < 2 ^ 64) vs → spaced_words ws ++ 10 ∷ y ≡ spaced_words vs ++ 10 ∷ z → (ws ≡ vs) × (y ≡ z)
words_one [] [] y z sw sv e = (refl, tail_is e)
words_one [] (v ∷ vs) y z sw sv e = absurd (omega (arith, head_is e))
words_one (w ∷ ws) [] y z sw sv e = absurd (omega (arith, head_is e))
words_one (w ∷ ws) (v ∷ vs) y z sw sv e =
    let apart = sym (append_assoc (decimal w) (spaced_words ws) (10 ∷ y)) ∙ tail_is e ∙ append_assoc (decimal v) (spaced_words vs) (10 ∷ z) in
    let r = number_then w v _ _ (All-head (λ w. w < 2 ^ 64) w ws sw) (All-head (λ w. w < 2 ^ 64) v vs sv) (after_words ws y) (after_words vs z) apart in
    let more = words_one ws vs y z (All-tail (λ w. w < 2 ^ 64) w ws sw) (All-tail (λ w. w < 2 ^ 64) v vs sv) r.1 in
    (cons_is w v ws vs r.0 more.0, more.1)

-- ---- the rows of a schedule

after_rows : (rows : List (ℕ × ℕ)) (z : List ℕ) → NoDigit (spaced_rows rows ++ 10 ∷ z)
after_rows [] z = record { first = 10; more = z; whole = refl; other = refl }
after_rows (r ∷ rows) z = record { first = 32; more = ((decimal r.0 ++ (codes "x" ++ decimal r.1)) ++ spaced_rows rows) ++ 10 ∷ z; whole = refl; other = refl }

row_apart : (r : ℕ × ℕ) (rows : List (ℕ × ℕ)) (z : List ℕ) → spaced_rows (r ∷ rows) ++ 10 ∷ z ≡ 32 ∷ (decimal r.0 ++ (120 ∷ (decimal r.1 ++ (spaced_rows rows ++ 10 ∷ z))))
row_apart r rows z = simp append_assoc

pair_is : (a b : ℕ × ℕ) → a.0 ≡ b.0 → a.1 ≡ b.1 → a ≡ b
pair_is a b p q = λ i. (p i, q i)

rows_cons : (a b : ℕ × ℕ) (xs ys : List (ℕ × ℕ)) → a ≡ b → xs ≡ ys → a ∷ xs ≡ b ∷ ys
rows_cons a b xs ys p q = cc

pub rows_one : (rs ss : List (ℕ × ℕ)) (y z : List ℕ) → All IsRow rs → All IsRow ss → spaced_rows rs ++ 10 ∷ y ≡ spaced_rows ss ++ 10 ∷ z → (rs ≡ ss) × (y ≡ z)
rows_one [] [] y z ar bs e = (refl, tail_is e)
rows_one [] (s ∷ ss) y z ar bs e = absurd (omega (arith, head_is e))
rows_one (r ∷ rs) [] y z ar bs e = absurd (omega (arith, head_is e))
rows_one (r ∷ rs) (s ∷ ss) y z ar bs e =
    let hr = All-head IsRow r rs ar in
    let hs = All-head IsRow s ss bs in
    let small = hr.thread in
    let fits = hs.thread in
    let apart = tail_is (sym (row_apart r rs y) ∙ e ∙ row_apart s ss z) in
    let t = one_number r.0 s.0 120 120 _ _ (omega arith) (omega arith) refl refl apart in
    let n = number_then r.1 s.1 _ _ hr.turns hs.turns (after_rows rs y) (after_rows ss z) (tail_is t.1) in
    let more = rows_one rs ss y z (All-tail IsRow r rs ar) (All-tail IsRow s ss bs) n.1 in
    (rows_cons r s rs ss (pair_is r s t.0 n.0) more.0, more.1)

-- ---- the line of a thread's words

inputs_apart : (t : ℕ) (ws z : List ℕ) → inputs_line (t, ws) ++ z ≡ codes "inputs " ++ (decimal t ++ (58 ∷ (spaced_words ws ++ (10 ∷ z))))
inputs_apart t ws z = simp append_assoc

entry_line : (t u : ℕ) (ws vs : List ℕ) → t ≡ u → ws ≡ vs → inputs t ws ≡ inputs u vs
entry_line t u ws vs p q = cc

inputs_one : (t u : ℕ) (ws vs y z : List ℕ) → IsDrawn (t, ws) → IsDrawn (u, vs) → inputs_line (t, ws) ++ y ≡ inputs_line (u, vs) ++ z → (inputs t ws ≡ inputs u vs) × (y ≡ z)
inputs_one t u ws vs y z ht hu e =
    let small = ht.thread in
    let fits = hu.thread in
    let apart = append_cancel_left (codes "inputs ") _ _ (sym (inputs_apart t ws y) ∙ e ∙ inputs_apart u vs z) in
    let n = one_number t u 58 58 _ _ (omega arith) (omega arith) refl refl apart in
    let w = words_one ws vs y z ht.words hu.words (tail_is n.1) in
    (entry_line t u ws vs n.0 w.0, w.1)

-- ---- the line of the schedule

schedule_apart : (rows : List (ℕ × ℕ)) (z : List ℕ) → schedule_line rows ++ z ≡ codes "schedule" ++ (spaced_rows rows ++ (10 ∷ z))
schedule_apart rows z = simp append_assoc

rows_line : (rows more : List (ℕ × ℕ)) → rows ≡ more → schedule rows ≡ schedule more
rows_line rows more p = cc

schedule_one : (rows more : List (ℕ × ℕ)) (y z : List ℕ) → All IsRow rows → All IsRow more → schedule_line rows ++ y ≡ schedule_line more ++ z → (schedule rows ≡ schedule more) × (y ≡ z)
schedule_one rows more y z hr hm e =
    let r = rows_one rows more y z hr hm (append_cancel_left (codes "schedule") _ _ (sym (schedule_apart rows y) ∙ e ∙ schedule_apart more z)) in
    (rows_line rows more r.0, r.1)

-- ---- the line of the broken check

class_of : List ℕ → Option Class
class_of name = cond (bytes_eq name (codes "assertion")) (Some Assertion) (cond (bytes_eq name (codes "overflow")) (Some Overflow) (cond (bytes_eq name (codes "division")) (Some Division)
    (cond (bytes_eq name (codes "shift")) (Some Shift) (cond (bytes_eq name (codes "null")) (Some Null) (cond (bytes_eq name (codes "invalid-pointer")) (Some InvalidPointer)
    (cond (bytes_eq name (codes "lifetime")) (Some Lifetime) (cond (bytes_eq name (codes "bounds")) (Some Bounds) (cond (bytes_eq name (codes "readonly")) (Some Readonly)
    (cond (bytes_eq name (codes "mixed-size")) (Some MixedSize) (cond (bytes_eq name (codes "pointer")) (Some Pointer) (cond (bytes_eq name (codes "free")) (Some Free)
    (cond (bytes_eq name (codes "malloc-limit")) (Some MallocLimit) (cond (bytes_eq name (codes "mutex")) (Some Mutex) (cond (bytes_eq name (codes "join")) (Some Join)
    (cond (bytes_eq name (codes "return")) (Some Return) (cond (bytes_eq name (codes "unwind")) (Some Unwind) (cond (bytes_eq name (codes "recursion")) (Some Recursion) None)))))))))))))))))

class_again : (c : Class) → class_of (class_name c) ≡ Some c
unfolding class_of
class_again Assertion = refl
class_again Overflow = refl
class_again Division = refl
class_again Shift = refl
class_again Null = refl
class_again InvalidPointer = refl
class_again Lifetime = refl
class_again Bounds = refl
class_again Readonly = refl
class_again MixedSize = refl
class_again Pointer = refl
class_again Free = refl
class_again MallocLimit = refl
class_again Mutex = refl
class_again Join = refl
class_again Return = refl
class_again Unwind = refl
class_again Recursion = refl

one_class : (c d : Class) → class_name c ≡ class_name d → c ≡ d
one_class c d e = some_is (sym (class_again c) ∙ ap class_of e ∙ class_again d)

pub class_passes : (c : Class) → passes (other_than 32) (class_name c) ≡ true
class_passes Assertion = refl
class_passes Overflow = refl
class_passes Division = refl
class_passes Shift = refl
class_passes Null = refl
class_passes InvalidPointer = refl
class_passes Lifetime = refl
class_passes Bounds = refl
class_passes Readonly = refl
class_passes MixedSize = refl
class_passes Pointer = refl
class_passes Free = refl
class_passes MallocLimit = refl
class_passes Mutex = refl
class_passes Join = refl
class_passes Return = refl
class_passes Unwind = refl
class_passes Recursion = refl

word_byte_passes : (c : ℕ) → is_word_byte c ≡ true → other_than 32 c ≡ true
word_byte_passes c h = grind (arith, nat_tests)

letter_passes : (c : ℕ) → is_letter c ≡ true → other_than 32 c ≡ true
letter_passes c h = grind (arith, nat_tests)

words_pass : (cs : List ℕ) → all_word_bytes cs ≡ true → passes (other_than 32) cs ≡ true
words_pass [] h = refl
words_pass (c ∷ cs) h = let x = and_both (is_word_byte c) (all_word_bytes cs) h in rw (word_byte_passes c x.0, words_pass cs x.1) refl

pub identifier_passes : (cs : List ℕ) → is_identifier cs ≡ true → passes (other_than 32) cs ≡ true
identifier_passes [] h = refl
identifier_passes (c ∷ cs) h = let x = and_both (is_letter c) (all_word_bytes cs) h in rw (letter_passes c x.0, words_pass cs x.1) refl

-- what the line of a check tells
abbrev IsCheck : ℕ → List ℕ → ℕ → Type 0
IsCheck line function thread = (1 ≤ line) × (line < 2 ^ 32) × (is_identifier function ≡ true) × (thread < 2 ^ 32)

check_apart : (c : Class) (l : ℕ) (f : List ℕ) (t : ℕ) (z : List ℕ) → check_line c l f t ++ z ≡ codes "violated " ++ (class_name c ++ (32 ∷ (codes "line " ++ (decimal l ++ (32 ∷ (codes "function " ++ (f ++ (32 ∷ (codes "thread " ++ (decimal t ++ (10 ∷ z)))))))))))
check_apart c l f t z = simp append_assoc

same_check : (c d : Class) (l m : ℕ) (f g : List ℕ) (t u : ℕ) → c ≡ d → l ≡ m → f ≡ g → t ≡ u → violated c l f t ≡ violated d m g u
same_check c d l m f g t u p q r s = cc

check_one : (c d : Class) (l m : ℕ) (f g : List ℕ) (t u : ℕ) (y z : List ℕ) → IsCheck l f t → IsCheck m g u → check_line c l f t ++ y ≡ check_line d m g u ++ z → (violated c l f t ≡ violated d m g u) × (y ≡ z)
check_one c d l m f g t u y z il im e =
    let fl = il.1 in
    let gl = im.1 in
    let ft = il.3 in
    let gt = im.3 in
    let a = append_cancel_left (codes "violated ") _ _ (sym (check_apart c l f t y) ∙ e ∙ check_apart d m g u z) in
    let class = one_run (other_than 32) (class_name c) (class_name d) 32 32 _ _ (class_passes c) (class_passes d) refl refl a in
    let line = one_number l m 32 32 _ _ (omega arith) (omega arith) refl refl (append_cancel_left (codes "line ") _ _ (tail_is class.1)) in
    let function = one_run (other_than 32) f g 32 32 _ _ (identifier_passes f il.2) (identifier_passes g im.2) refl refl (append_cancel_left (codes "function ") _ _ (tail_is line.1)) in
    let thread = one_number t u 10 10 _ _ (omega arith) (omega arith) refl refl (append_cancel_left (codes "thread ") _ _ (tail_is function.1)) in
    (same_check c d l m f g t u (one_class c d class.0) line.0 function.0 thread.0, tail_is thread.1)

-- ---- the lines of the head

digit_passes : (c : ℕ) → is_ascii_digit c ≡ true → (other_than 32 c ≡ true) × (other_than 10 c ≡ true)
digit_passes c h = (grind (arith, nat_tests), grind (arith, nat_tests))

pub digits_other : (cs : List ℕ) → passes is_ascii_digit cs ≡ true → (passes (other_than 32) cs ≡ true) × (passes (other_than 10) cs ≡ true)
digits_other [] h = (refl, refl)
digits_other (c ∷ cs) h =
    let x = and_both (is_ascii_digit c) (passes is_ascii_digit cs) h in
    let a = digit_passes c x.0 in
    let b = digits_other cs x.1 in
    (rw (a.0, b.0) refl, rw (a.1, b.1) refl)

name_byte_passes : (c : ℕ) → is_name_byte c ≡ true → other_than 10 c ≡ true
name_byte_passes c h = grind (arith, nat_tests)

name_passes : (cs : List ℕ) → all_name_bytes cs ≡ true → passes (other_than 10) cs ≡ true
name_passes [] h = refl
name_passes (c ∷ cs) h = let x = and_both (is_name_byte c) (all_name_bytes cs) h in rw (name_byte_passes c x.0, name_passes cs x.1) refl

generated_apart : (n b : ℕ) (z : List ℕ) → line_text (generated n b) ++ z ≡ codes "generated " ++ (decimal n ++ (32 ∷ (codes "bytes " ++ (decimal b ++ (10 ∷ z)))))
generated_apart n b z = simp append_assoc

same_generated : (n m b c : ℕ) → n ≡ m → b ≡ c → generated n b ≡ generated m c
same_generated n m b c p q = cc

generated_one : (n m b c : ℕ) (y z : List ℕ) → IsLine (generated n b) → IsLine (generated m c) → line_text (generated n b) ++ y ≡ line_text (generated m c) ++ z → (generated n b ≡ generated m c) × (y ≡ z)
generated_one n m b c y z il im e =
    let fn = il.0 in
    let fm = im.0 in
    let fb = il.1 in
    let fc = im.1 in
    let a = append_cancel_left (codes "generated ") _ _ (sym (generated_apart n b y) ∙ e ∙ generated_apart m c z) in
    let threads = one_number n m 32 32 _ _ (omega arith) (omega arith) refl refl a in
    let bytes = one_number b c 10 10 _ _ (omega arith) (omega arith) refl refl (append_cancel_left (codes "bytes ") _ _ (tail_is threads.1)) in
    (same_generated n m b c threads.0 bytes.0, tail_is bytes.1)

-- what stands behind `file `, up to the newline
abbrev pub named_line : List ℕ → ℕ → List ℕ
named_line name unwind = (name ++ codes " unwind") ++ (32 ∷ decimal unwind)

pub named_line_passes : (name : List ℕ) (k : ℕ) → all_name_bytes name ≡ true → k ≤ 1000 → passes (other_than 10) (named_line name k) ≡ true
named_line_passes name k shown few =
    let digits = (digits_other (decimal k) (decimal_passes k (omega arith))).1 in
    passes_all (other_than 10) (name ++ codes " unwind") (32 ∷ decimal k) (passes_all (other_than 10) name (codes " unwind") (name_passes name shown) refl) digits

file_apart : (name : List ℕ) (k : ℕ) (z : List ℕ) → file_line name k ++ z ≡ codes "file " ++ (named_line name k ++ (10 ∷ z))
file_apart name k z = simp append_assoc

same_file : (a b : List ℕ) (k l : ℕ) → a ≡ b → k ≡ l → file a k ≡ file b l
same_file a b k l p q = cc

-- a name and an unwinding: what stands behind the last space is the unwinding
pub one_name : (a b : List ℕ) (k l : ℕ) → k ≤ 1000 → l ≤ 1000 → named_line a k ≡ named_line b l → (a ≡ b) × (k ≡ l)
one_name a b k l few small e =
    let last = one_end (other_than 32) (a ++ codes " unwind") (b ++ codes " unwind") 32 (decimal k) (decimal l) refl
    (digits_other (decimal k) (decimal_passes k (omega arith))).0 (digits_other (decimal l) (decimal_passes l (omega arith))).0 e in
    (append_cancel_right a b (codes " unwind") last.0, decimal_injective k l (omega arith) (omega arith) last.1)

file_one : (a b : List ℕ) (k l : ℕ) (y z : List ℕ) → IsLine (file a k) → IsLine (file b l) → file_line a k ++ y ≡ file_line b l ++ z → (file a k ≡ file b l) × (y ≡ z)
file_one a b k l y z ia ib e =
    let na = ia.0 in
    let nb = ib.0 in
    let few = ia.2 in
    let small = ib.2 in
    let apart = append_cancel_left (codes "file ") _ _ (sym (file_apart a k y) ∙ e ∙ file_apart b l z) in
    let line = one_run (other_than 10) (named_line a k) (named_line b l) 10 10 _ _ (named_line_passes a k na.shown few) (named_line_passes b l nb.shown small) refl refl apart in
    let one = one_name a b k l few small line.0 in
    (same_file a b k l one.0 one.1, tail_is line.1)

-- ---- a line of any kind

pub one_line : (l m : Line) (y z : List ℕ) → IsLine l → IsLine m → line_text l ++ y ≡ line_text m ++ z → (l ≡ m) × (y ≡ z)
one_line (generated n b) (generated m c) y z il im e = generated_one n m b c y z il im e
one_line (file a k) (file b l) y z il im e = file_one a b k l y z il im e
one_line off off y z il im e = (refl, append_cancel_left (assertions_lines false) _ _ e)
one_line (violated c l f t) (violated d m g u) y z il im e = check_one c d l m f g t u y z il im e
one_line (inputs t ws) (inputs u vs) y z il im e = inputs_one t u ws vs y z il im e
one_line (schedule rows) (schedule more) y z il im e = schedule_one rows more y z il.0 im.0 e
one_line failed failed y z il im e = (refl, append_cancel_left (line_of (codes "VERIFICATION FAILED")) _ _ e)
one_line l m y z il im e = absurd (omega (arith, head_is e))

-- ---- the shape of a line

-- a line without its newline
pub record Body (text : List ℕ) : Type 0 where
  pub body : List ℕ
  pub whole : text ≡ line_of body
  pub shown : passes (other_than 10) body ≡ true

words_other : (ws : List ℕ) → All (λ w. w < 2 ^ 64) ws → passes (other_than 10) (spaced_words ws) ≡ true
words_other [] a = refl
words_other (w ∷ ws) a =
    passes_all (other_than 10) (decimal w) (spaced_words ws) (digits_other (decimal w) (decimal_passes w (All-head (λ w. w < 2 ^ 64) w ws a))).1 (words_other ws (All-tail (λ w. w < 2 ^ 64) w ws a))

rows_other : (rows : List (ℕ × ℕ)) → All IsRow rows → passes (other_than 10) (spaced_rows rows) ≡ true
rows_other [] a = refl
rows_other (r ∷ rows) a =
    let h = All-head IsRow r rows a in
    let small = h.thread in
    passes_all (other_than 10) (decimal r.0 ++ (codes "x" ++ decimal r.1)) (spaced_rows rows)
    (passes_all (other_than 10) (decimal r.0) (codes "x" ++ decimal r.1) (digits_other (decimal r.0) (decimal_passes r.0 (omega arith))).1 (digits_other (decimal r.1) (decimal_passes r.1 h.turns)).1)
    (rows_other rows (All-tail IsRow r rows a))

class_other : (c : Class) → passes (other_than 10) (class_name c) ≡ true
class_other Assertion = refl
class_other Overflow = refl
class_other Division = refl
class_other Shift = refl
class_other Null = refl
class_other InvalidPointer = refl
class_other Lifetime = refl
class_other Bounds = refl
class_other Readonly = refl
class_other MixedSize = refl
class_other Pointer = refl
class_other Free = refl
class_other MallocLimit = refl
class_other Mutex = refl
class_other Join = refl
class_other Return = refl
class_other Unwind = refl
class_other Recursion = refl

word_byte_other : (c : ℕ) → is_word_byte c ≡ true → other_than 10 c ≡ true
word_byte_other c h = grind (arith, nat_tests)

letter_other : (c : ℕ) → is_letter c ≡ true → other_than 10 c ≡ true
letter_other c h = grind (arith, nat_tests)

word_bytes_other : (cs : List ℕ) → all_word_bytes cs ≡ true → passes (other_than 10) cs ≡ true
word_bytes_other [] h = refl
word_bytes_other (c ∷ cs) h = let x = and_both (is_word_byte c) (all_word_bytes cs) h in rw (word_byte_other c x.0, word_bytes_other cs x.1) refl

identifier_other : (cs : List ℕ) → is_identifier cs ≡ true → passes (other_than 10) cs ≡ true
identifier_other [] h = refl
identifier_other (c ∷ cs) h = let x = and_both (is_letter c) (all_word_bytes cs) h in rw (letter_other c x.0, word_bytes_other cs x.1) refl

-- four parts between which no newline stands
four_other : (a b c d : List ℕ) → passes (other_than 10) a ≡ true → passes (other_than 10) b ≡ true → passes (other_than 10) c ≡ true → passes (other_than 10) d ≡ true → passes (other_than 10) (a ++ (b ++ (c ++ d))) ≡ true
four_other a b c d p q r s = passes_all (other_than 10) a (b ++ (c ++ d)) p (passes_all (other_than 10) b (c ++ d) q (passes_all (other_than 10) c d r s))

pub decimal_other : (n : ℕ) → n < 2 ^ 64 → passes (other_than 10) (decimal n) ≡ true
decimal_other n small = (digits_other (decimal n) (decimal_passes n small)).1

check_body : List ℕ → ℕ → List ℕ → ℕ → List ℕ
check_body class line function thread = codes "violated " ++ (class ++ (codes " line " ++ (decimal line ++ (codes " function " ++ (function ++ (codes " thread " ++ decimal thread))))))

check_whole : (c : Class) (l : ℕ) (f : List ℕ) (t : ℕ) → check_line c l f t ≡ line_of (check_body (class_name c) l f t)
unfolding check_body
check_whole c l f t = simp append_assoc

check_shown : (class : List ℕ) (l : ℕ) (f : List ℕ) (t : ℕ) → passes (other_than 10) class ≡ true → l < 2 ^ 32 → passes (other_than 10) f ≡ true → t < 2 ^ 32 → passes (other_than 10) (check_body class l f t) ≡ true
unfolding check_body
check_shown class l f t pc fl pf ft =
    four_other class (codes " line ") (decimal l) (codes " function " ++ (f ++ (codes " thread " ++ decimal t))) pc refl (decimal_other l (omega arith))
    (four_other (codes " function ") f (codes " thread ") (decimal t) refl pf refl (decimal_other t (omega arith)))

pub body_of : (l : Line) → IsLine l → Body (line_text l)
unfolding check_body
body_of (generated n b) is =
    let fn = is.0 in
    let fb = is.1 in
    record { body = codes "generated " ++ (decimal n ++ (codes " bytes " ++ decimal b)); whole = simp append_assoc; shown = four_other (codes "generated ") (decimal n) (codes " bytes ") (decimal b) refl (decimal_other n (omega arith)) refl (decimal_other b (omega arith)) }
body_of (file name k) is =
    let n = is.0 in
    record { body = codes "file " ++ named_line name k; whole = simp append_assoc; shown = named_line_passes name k n.shown is.2 }
body_of off is = record { body = codes "unwinding assertions off"; whole = refl; shown = refl }
body_of (violated c l f t) is = record { body = check_body (class_name c) l f t; whole = check_whole c l f t; shown = check_shown (class_name c) l f t (class_other c) is.1 (identifier_other f is.2) is.3 }
body_of (inputs t ws) is =
    let small = is.thread in
    record { body = codes "inputs " ++ (decimal t ++ (58 ∷ spaced_words ws)); whole = simp append_assoc; shown = passes_all (other_than 10) (decimal t) (58 ∷ spaced_words ws) (decimal_other t (omega arith)) (words_other ws is.words) }
body_of (schedule rows) is = record { body = codes "schedule" ++ spaced_rows rows; whole = simp append_assoc; shown = rows_other rows is.0 }
body_of failed is = record { body = codes "VERIFICATION FAILED"; whole = refl; shown = refl }
