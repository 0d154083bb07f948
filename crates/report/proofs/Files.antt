-- The line of the file, from its end on.
use Rattle.std.proofs.Common.{◌≡◌, ℕ, ◌≤◌, true, List, [], ◌∷◌, ◌++◌, sym, refl, ◌∙◌, arith}
use mathlib.Core.List.{append_assoc}
use Rattle.std.specs.Prelude.{codes}
use Rattle.std.specs.Fmt.{decimal}
use Rattle.report.specs.Report.{line_of, file_line}
use Rattle.report.specs.Runs.{passes}
use Rattle.report.proofs.Bytes.{decimal_passes, one_end, passes_all}
use Rattle.report.proofs.OneLine.{other_than, digits_other}
use Rattle.report.proofs.Fronts.{behind_one}

regroup : (name d : List ℕ) → name ++ (codes " unwind " ++ (d ++ 10 ∷ [])) ≡ (name ++ codes " unwind") ++ 32 ∷ (d ++ 10 ∷ [])
regroup name d = simp append_assoc

pub file_parts : (t rest front end name : List ℕ) (k : ℕ) → t ≡ codes "file " ++ rest → rest ≡ front ++ 32 ∷ end → passes (other_than 32) end ≡ true → k ≤ 1000 → t ≡ file_line name k
    → (front ≡ name ++ codes " unwind") × (end ≡ line_of (decimal k))
file_parts t rest front end name k p q plain few e =
    let after = behind_one (codes "file ") rest (name ++ (codes " unwind " ++ (decimal k ++ 10 ∷ []))) t p e in
    let digits = (digits_other (decimal k) (decimal_passes k (omega arith))).0 in
    one_end (other_than 32) front (name ++ codes " unwind") 32 end (decimal k ++ 10 ∷ []) refl plain (passes_all (other_than 32) (decimal k) (10 ∷ []) digits refl) (sym q ∙ after ∙ regroup name (decimal k))
