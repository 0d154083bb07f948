-- The first line of a text.
use Rattle.std.proofs.Common.{◌≡◌, ℕ, ◌+◌, true, not, List, [], ◌∷◌, ◌++◌, length, take, add-one, sym, refl, ap, ◌∙◌, subst, arith}
use Rattle.std.proofs.lemmas.Bool.{false≢true}
use Rattle.std.proofs.lemmas.Bool.Decides.{nat_tests}
use Rattle.report.specs.Report.{line_of}
use Rattle.report.specs.Reading.{has_no_newline}
use Rattle.report.specs.Runs.{passes, fails}
use Rattle.report.proofs.OneLine.{other_than}
use Rattle.report.proofs.Beginnings.{newline_other}

ten_is : (c : ℕ) → not (other_than 10 c) ≡ true → c ≡ 10
ten_is c h = grind (arith, nat_tests)

take_line : (line : List ℕ) (c : ℕ) (cs : List ℕ) → take (length line + 1) (line ++ c ∷ cs) ≡ line ++ c ∷ []
take_line [] c cs = refl
take_line (x ∷ xs) c cs = subst (λ (m : ℕ). take m ((x ∷ xs) ++ c ∷ cs) ≡ (x ∷ xs) ++ c ∷ []) (sym (add-one (length (x ∷ xs)))) (ap (λ (z : List ℕ). x ∷ z) (rw add-one at (take_line xs c cs)))

pub line_split : (text line rest front back : List ℕ) → text ≡ line ++ rest → passes (other_than 10) line ≡ true → fails (other_than 10) rest ≡ true → front ≡ take (length line + 1) text → text ≡ front ++ back
    → (x : List ℕ) × (has_no_newline x ≡ true) × (front ≡ line_of x) × (text ≡ line_of x ++ back)
line_split text line [] front back e px fx f w = absurd (false≢true fx)
line_split text line (c ∷ cs) front back e px fx f w =
    let same : front ≡ line_of line = f ∙ ap (λ (z : List ℕ). take (length line + 1) z) e ∙ take_line line c cs ∙ ap (λ (d : ℕ). line ++ d ∷ []) (ten_is c fx) in
    (line, newline_other line px, same, w ∙ ap (λ (z : List ℕ). z ++ back) same)
