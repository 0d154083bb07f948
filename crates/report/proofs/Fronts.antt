-- The parts of a line, from the front on.
use Rattle.std.proofs.Common.{◌≡◌, ◌≢◌, ℕ, zero, suc, ◌+◌, ◌^◌, ◌<◌, Bool, true, false, not, List, [], ◌∷◌, ◌++◌, length, take, drop, get_or, map, add-one, sym, refl, ap, ◌∙◌, subst, arith, All}
use Rattle.std.proofs.lemmas.Bool.{false≢true}
use Rattle.std.proofs.lemmas.List.{append-nil, append_cancel_left}
use Rattle.std.proofs.lemmas.List.Elements.{All-head, All-tail}
use Rattle.std.proofs.lemmas.Grind.{flat_map-append}
use mathlib.Core.List.{append_assoc}
use Rattle.std.specs.Char.{is_ascii_digit}
use Rattle.std.specs.Fmt.{decimal}
use Rattle.report.specs.Report.{spaced_words, spaced_row, spaced_rows, IsRow, AreMaximal}
use Rattle.report.specs.Runs.{passes, fails}
use Rattle.report.specs.Failing.{row_of}
use Rattle.report.specs.declared.failing.Row.{Row}
use Rattle.report.proofs.Both.{and_both}
use Rattle.report.proofs.Bytes.{head_is, tail_is, one_run, one_number, no_middle}

not_true : (b : Bool) → not b ≡ true → b ≡ false
not_true true h = absurd (false≢true h)
not_true false h = refl

-- ---- a run

pub passes_next : (p : ℕ → Bool) (xs : List ℕ) (i : ℕ) → i < length xs → passes p (take i xs) ≡ true → p (get_or xs i 0) ≡ true → passes p (take (i + 1) xs) ≡ true
passes_next p [] i lt h x = absurd (omega arith)
passes_next p (c ∷ cs) zero lt h x = rw x refl
passes_next p (c ∷ cs) (suc k) lt h x = let a = and_both (p c) (passes p (take k cs)) h in rw (add-one, a.0) (rw add-one at (passes_next p cs k (omega arith) a.1 x))

pub fails_there : (p : ℕ → Bool) (xs : List ℕ) (i : ℕ) → i < length xs → p (get_or xs i 0) ≡ false → fails p (drop i xs) ≡ true
fails_there p [] i lt x = absurd (omega arith)
fails_there p (c ∷ cs) zero lt x = rw x refl
fails_there p (c ∷ cs) (suc k) lt x = fails_there p cs k (omega arith) x

-- ---- what follows is determined

pub not_passes : (p : ℕ → Bool) (xs : List ℕ) (c : ℕ) (cs t : List ℕ) → t ≡ xs ++ c ∷ cs → passes p t ≡ true → p c ≡ false → ⊥
not_passes p xs c cs t e h pc = no_middle p xs c cs (subst (λ (z : List ℕ). passes p z ≡ true) e h) pc

pub behind_one : (w x y t : List ℕ) → t ≡ w ++ x → t ≡ w ++ y → x ≡ y
behind_one w x y t p q = append_cancel_left w x y (sym p ∙ q)

pub run_one : (p : ℕ → Bool) (xs ys x y t : List ℕ) → passes p xs ≡ true → passes p ys ≡ true → fails p x ≡ true → fails p y ≡ true → t ≡ xs ++ x → t ≡ ys ++ y → (xs ≡ ys) × (x ≡ y)
run_one p xs ys [] y t px py fx fy e f = absurd (false≢true fx)
run_one p xs ys (c ∷ cs) [] t px py fx fy e f = absurd (false≢true fy)
run_one p xs ys (c ∷ cs) (d ∷ ds) t px py fx fy e f = one_run p xs ys c d cs ds px py (not_true (p c) fx) (not_true (p d) fy) (sym e ∙ f)

pub number_one : (m n : ℕ) (x y t : List ℕ) → m < 2 ^ 64 → n < 2 ^ 64 → fails is_ascii_digit x ≡ true → fails is_ascii_digit y ≡ true → t ≡ decimal m ++ x → t ≡ decimal n ++ y → (m ≡ n) × (x ≡ y)
number_one m n [] y t small fits fx fy e f = absurd (false≢true fx)
number_one m n (c ∷ cs) [] t small fits fx fy e f = absurd (false≢true fy)
number_one m n (c ∷ cs) (d ∷ ds) t small fits fx fy e f = one_number m n c d cs ds small fits (not_true (is_ascii_digit c) fx) (not_true (is_ascii_digit d) fy) (sym e ∙ f)

-- ---- words, each behind a space

fails_words : (ws rest : List ℕ) → fails is_ascii_digit rest ≡ true → fails is_ascii_digit (spaced_words ws ++ rest) ≡ true
fails_words [] rest h = h
fails_words (w ∷ ws) rest h = refl

abbrev pub AreSmall : List ℕ → Type 0
AreSmall ws = All (λ w. w < 2 ^ 64) ws

-- the words that are left
record WordsLeft (rest : List ℕ) : Type 0 where
  us : List ℕ
  small : AreSmall us
  whole : rest ≡ spaced_words us ++ 10 ∷ []

words_left : (ws vs rest : List ℕ) → AreSmall ws → AreSmall vs → (0 < length ws → fails is_ascii_digit rest ≡ true) → spaced_words ws ++ rest ≡ spaced_words vs ++ 10 ∷ [] → WordsLeft rest
words_left [] vs rest a b f e = record { us = vs; small = b; whole = e }
words_left (w ∷ ws) [] rest a b f e = absurd (omega (arith, head_is e))
words_left (w ∷ ws) (v ∷ vs) rest a b f e =
    let past : fails is_ascii_digit rest ≡ true = f (omega arith) in
    let apart = sym (append_assoc (decimal w) (spaced_words ws) rest) ∙ tail_is e ∙ append_assoc (decimal v) (spaced_words vs) (10 ∷ []) in
    let r = number_one w v (spaced_words ws ++ rest) (spaced_words vs ++ 10 ∷ []) (decimal w ++ (spaced_words ws ++ rest)) (All-head (λ w. w < 2 ^ 64) w ws a) (All-head (λ w. w < 2 ^ 64) v vs b) (fails_words ws rest past) (fails_words vs (10 ∷ []) refl) refl apart in
    words_left ws vs rest (All-tail (λ w. w < 2 ^ 64) w ws a) (All-tail (λ w. w < 2 ^ 64) v vs b) (λ _. past) r.1

pub words_none : (text ws rest : List ℕ) → AreSmall ws → (0 < length ws → fails is_ascii_digit rest ≡ true) → text ≡ spaced_words ws ++ rest → (rest ≡ 10 ∷ [] → ⊥)
    → ((word : ℕ) (more : List ℕ) → word < 2 ^ 64 → fails is_ascii_digit more ≡ true → rest ≡ 32 ∷ (decimal word ++ more) → ⊥) → (vs : List ℕ) → AreSmall vs → text ≡ spaced_words vs ++ 10 ∷ [] → ⊥
words_none text ws rest a f whole ne none vs b e = go (words_left ws vs rest a b f (sym whole ∙ e))
  where
    at : (us : List ℕ) → AreSmall us → rest ≡ spaced_words us ++ 10 ∷ [] → ⊥
    at [] s x = ne x
    at (u ∷ us) s x = none u (spaced_words us ++ 10 ∷ []) (All-head (λ w. w < 2 ^ 64) u us s) (fails_words us (10 ∷ []) refl) (x ∙ ap (λ (z : List ℕ). 32 ∷ z) (append_assoc (decimal u) (spaced_words us) (10 ∷ [])))

    go : WordsLeft rest → ⊥
    go l = at l.us l.small l.whole

pub words_next : (text ws rest more : List ℕ) (w : ℕ) → text ≡ spaced_words ws ++ rest → rest ≡ 32 ∷ (decimal w ++ more) → text ≡ spaced_words (ws ++ w ∷ []) ++ more
words_next text ws rest more w e f =
    e ∙ ap (λ (z : List ℕ). spaced_words ws ++ z) f ∙ regroup (spaced_words ws) (decimal w) more ∙ ap (λ (z : List ℕ). z ++ more) (sym (flat_map-append (λ v. 32 ∷ decimal v) ws (w ∷ [])))
  where
    regroup : (a b c : List ℕ) → a ++ 32 ∷ (b ++ c) ≡ (a ++ ((32 ∷ b) ++ [])) ++ c
    regroup a b c = simp (append_assoc, append-nil)

-- ---- rows, each behind a space

fails_rows : (rows : List (ℕ × ℕ)) (rest : List ℕ) → fails is_ascii_digit rest ≡ true → fails is_ascii_digit (spaced_rows rows ++ rest) ≡ true
fails_rows [] rest h = h
fails_rows (r ∷ rows) rest h = refl

row_whole : (r : ℕ × ℕ) (rows : List (ℕ × ℕ)) (rest : List ℕ) → spaced_rows (r ∷ rows) ++ rest ≡ 32 ∷ (decimal r.0 ++ (120 ∷ (decimal r.1 ++ (spaced_rows rows ++ rest))))
row_whole r rows rest = simp append_assoc

record RowsLeft (rest : List ℕ) : Type 0 where
  us : List (ℕ × ℕ)
  are : All IsRow us
  whole : rest ≡ spaced_rows us ++ 10 ∷ []

rows_left : (rs ss : List (ℕ × ℕ)) (rest : List ℕ) → All IsRow rs → All IsRow ss → (0 < length rs → fails is_ascii_digit rest ≡ true) → spaced_rows rs ++ rest ≡ spaced_rows ss ++ 10 ∷ [] → RowsLeft rest
rows_left [] ss rest a b f e = record { us = ss; are = b; whole = e }
rows_left (r ∷ rs) [] rest a b f e = absurd (omega (arith, head_is e))
rows_left (r ∷ rs) (s ∷ ss) rest a b f e =
    let past : fails is_ascii_digit rest ≡ true = f (omega arith) in
    let hr = All-head IsRow r rs a in
    let hs = All-head IsRow s ss b in
    let small = hr.thread in
    let fits = hs.thread in
    let apart = tail_is (sym (row_whole r rs rest) ∙ e ∙ row_whole s ss (10 ∷ [])) in
    let t = number_one r.0 s.0 (120 ∷ (decimal r.1 ++ (spaced_rows rs ++ rest))) (120 ∷ (decimal s.1 ++ (spaced_rows ss ++ 10 ∷ []))) _ (omega arith) (omega arith) refl refl refl apart in
    let n = number_one r.1 s.1 (spaced_rows rs ++ rest) (spaced_rows ss ++ 10 ∷ []) _ hr.turns hs.turns (fails_rows rs rest past) (fails_rows ss (10 ∷ []) refl) refl (tail_is t.1) in
    rows_left rs ss rest (All-tail IsRow r rs a) (All-tail IsRow s ss b) (λ _. past) n.1

pub rows_none : (text : List ℕ) (rs : List (ℕ × ℕ)) (rest : List ℕ) → All IsRow rs → (0 < length rs → fails is_ascii_digit rest ≡ true) → text ≡ spaced_rows rs ++ rest → (rest ≡ 10 ∷ [] → ⊥)
    → ((row : ℕ × ℕ) (more : List ℕ) → IsRow row → fails is_ascii_digit more ≡ true → rest ≡ 32 ∷ (decimal row.0 ++ (120 ∷ (decimal row.1 ++ more))) → ⊥) → (ss : List (ℕ × ℕ)) → All IsRow ss → text ≡ spaced_rows ss ++ 10 ∷ [] → ⊥
rows_none text rs rest a f whole ne none ss b e = go (rows_left rs ss rest a b f (sym whole ∙ e))
  where
    at : (us : List (ℕ × ℕ)) → All IsRow us → rest ≡ spaced_rows us ++ 10 ∷ [] → ⊥
    at [] s x = ne x
    at (u ∷ us) s x = none u (spaced_rows us ++ 10 ∷ []) (All-head IsRow u us s) (fails_rows us (10 ∷ []) refl) (x ∙ row_whole u us (10 ∷ []))

    go : RowsLeft rest → ⊥
    go l = at l.us l.are l.whole

pub rows_next : (text : List ℕ) (rs : List (ℕ × ℕ)) (rest more : List ℕ) (r : ℕ × ℕ) → text ≡ spaced_rows rs ++ rest → rest ≡ 32 ∷ (decimal r.0 ++ (120 ∷ (decimal r.1 ++ more))) → text ≡ spaced_rows (rs ++ r ∷ []) ++ more
rows_next text rs rest more r e f =
    e ∙ ap (λ (z : List ℕ). spaced_rows rs ++ z) f ∙ regroup (spaced_rows rs) (decimal r.0) (decimal r.1) more ∙ ap (λ (z : List ℕ). z ++ more) (sym (flat_map-append spaced_row rs (r ∷ [])))
  where
    regroup : (a b c d : List ℕ) → a ++ 32 ∷ (b ++ (120 ∷ (c ++ d))) ≡ (a ++ ((32 ∷ (b ++ (120 ∷ c))) ++ [])) ++ d
    regroup a b c d = simp (append_assoc, append-nil)

-- ---- neighbouring rows

pub maximal_by : (rows : List Row) (d : Row) → ((k : ℕ) → suc k < length rows → (get_or rows k d).thread ≢ (get_or rows (suc k) d).thread) → AreMaximal (map row_of rows)
maximal_by [] d h = tt
maximal_by (r ∷ []) d h = tt
maximal_by (r ∷ s ∷ rows) d h = (h zero (omega arith), maximal_by (s ∷ rows) d (λ k lt. h (suc k) (omega arith)))

pub maximal_at : (rows : List Row) (d : Row) (k : ℕ) → AreMaximal (map row_of rows) → suc k < length rows → (get_or rows k d).thread ≢ (get_or rows (suc k) d).thread
maximal_at [] d k a lt = absurd (omega arith)
maximal_at (r ∷ []) d k a lt = absurd (omega arith)
maximal_at (r ∷ s ∷ rows) d zero a lt = a.0
maximal_at (r ∷ s ∷ rows) d (suc k) a lt = maximal_at (s ∷ rows) d k a.1 (omega arith)
