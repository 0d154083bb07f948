-- Marks and levels, of which the code has the last first.
use Rattle.std.proofs.Common.{◌≡◌, ℕ, ◌-◌, ◌<◌, ◌≤◌, inl, inr, List, [], ◌∷◌, ◌++◌, take, drop, length, refl, sym, ap, ◌∙◌, arith}
use Rattle.std.specs.Prelude.{slice_index, reverse}
use Rattle.std.proofs.lemmas.Bool.{cases_lt}
use Rattle.std.proofs.lemmas.List.{reverse-append, length-reverse, length-drop, length-take, take-append-drop, get_or-take, get_or-reverse, get_or_past, drop_all}
use Rattle.std.proofs.Math.Seq.{drop-append_seam}
use Rattle.goto_unwind.specs.declared.level.Level as code
use Rattle.goto_unwind.specs.Unroller.{Level, level_of, levels_of}

pub levels_push : (ls : List code.Level) (l : code.Level) → levels_of (ls ++ l ∷ []) ≡ level_of l ∷ levels_of ls
levels_push [] l = refl
levels_push (k ∷ ls) l = ap (λ (xs : List Level). xs ++ level_of k ∷ []) (levels_push ls l)

pub mark_found : (marks : List ℕ) (own n : ℕ) → n < length marks → n < own → slice_index (take own (reverse marks)) n ≡ slice_index marks (length marks - 1 - n)
mark_found marks own n within few = get_or-take own (reverse marks) n 0 few ∙ get_or-reverse marks n 0 within

pub mark_beyond : (marks : List ℕ) (own n : ℕ) → length marks ≤ n → slice_index (take own (reverse marks)) n ≡ 0
mark_beyond marks own n past = get_or_past (take own (reverse marks)) n 0 (omega (arith, past, length-take own (reverse marks), length-reverse marks))

pub mark_missing : (marks : List ℕ) (own n : ℕ) → own ≤ n → slice_index (take own (reverse marks)) n ≡ 0
mark_missing marks own n past = get_or_past (take own (reverse marks)) n 0 (omega (arith, past, length-take own (reverse marks)))

-- the last ones dropped
few_dropped : (marks : List ℕ) (n k : ℕ) → n ≤ length marks → k ≡ length marks - n → reverse (take k marks) ≡ drop n (reverse marks)
few_dropped marks n k few is =
    let behind : length (reverse (drop k marks)) ≡ n = omega (arith, few, is, length-reverse (drop k marks), length-drop k marks) in
    sym (drop-append_seam (reverse (drop k marks)) (reverse (take k marks)))
    ∙ ap (λ (xs : List ℕ). drop (length (reverse (drop k marks))) xs) (sym (reverse-append (take k marks) (drop k marks)))
    ∙ ap (λ (xs : List ℕ). drop (length (reverse (drop k marks))) (reverse xs)) (take-append-drop k marks)
    ∙ ap (λ j. drop j (reverse marks)) behind

all_dropped : (marks : List ℕ) (n k : ℕ) → length marks ≤ n → k ≡ length marks - n → reverse (take k marks) ≡ drop n (reverse marks)
all_dropped marks n k many is =
    let none : k ≡ 0 = omega (arith, many, is) in
    ap (λ j. reverse (take j marks)) none ∙ sym (drop_all n (reverse marks) (omega (arith, many, length-reverse marks)))

pub last_dropped : (marks : List ℕ) (n k : ℕ) → k ≡ length marks - n → reverse (take k marks) ≡ drop n (reverse marks)
last_dropped marks n k is = elim (cases_lt n (length marks)) [ inl few ↦ few_dropped marks n k (omega (arith, few)) is | inr many ↦ all_dropped marks n k many is ]
