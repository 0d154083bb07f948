-- The rows of a schedule, turn after turn.
use Rattle.std.proofs.Common.{◌≡◌, ◌≢◌, ℕ, zero, suc, ◌+◌, List, [], ◌∷◌, ◌++◌, replicate, sym, ap, ◌∙◌, subst, arith, map, All}
use Rattle.std.proofs.lemmas.Grind.{flat_map-append}
use Rattle.std.proofs.lemmas.List.{append-nil, replicate-append-replicate}
use mathlib.Core.List.{append_assoc}
use Rattle.std.proofs.lemmas.List.{map-append}
use Rattle.std.proofs.lemmas.List.Elements.{All-append}
use Rattle.report.specs.declared.failing.Row.{Row}
use Rattle.report.specs.Failing.{row_of}
use Rattle.report.specs.Report.{IsRow, AreMaximal}
use Rattle.report.specs.Failing.{turns_of}

pub turns_append : (rows more : List (ℕ × ℕ)) → turns_of (rows ++ more) ≡ turns_of rows ++ turns_of more
turns_append rows more = flat_map-append (λ (row : ℕ × ℕ). replicate row.1 row.0) rows more

one_row : (t n : ℕ) → turns_of ((t, n) ∷ []) ≡ replicate n t
one_row t n = append-nil (replicate n t)

-- one more turn of the same thread
pub same_thread : (rows : List (ℕ × ℕ)) (t n : ℕ) → turns_of (rows ++ (t, n + 1) ∷ []) ≡ turns_of (rows ++ (t, n) ∷ []) ++ t ∷ []
same_thread rows t n =
    turns_append rows ((t, n + 1) ∷ [])
    ∙ ap (λ (x : List ℕ). turns_of rows ++ x) (one_row t (n + 1) ∙ sym (replicate-append-replicate n 1 t) ∙ ap (λ (x : List ℕ). x ++ t ∷ []) (sym (one_row t n)))
    ∙ sym (append_assoc (turns_of rows) (turns_of ((t, n) ∷ [])) (t ∷ []))
    ∙ ap (λ (x : List ℕ). x ++ t ∷ []) (sym (turns_append rows ((t, n) ∷ [])))

-- a turn of another thread
pub other_thread : (rows : List (ℕ × ℕ)) (u : ℕ) → turns_of (rows ++ (u, 1) ∷ []) ≡ turns_of rows ++ u ∷ []
other_thread rows u = turns_append rows ((u, 1) ∷ [])

pub maximal_longer : (rows : List (ℕ × ℕ)) (t n m : ℕ) → AreMaximal (rows ++ (t, n) ∷ []) → AreMaximal (rows ++ (t, m) ∷ [])
maximal_longer [] t n m a = tt
maximal_longer (r ∷ []) t n m a = (a.0, tt)
maximal_longer (r ∷ s ∷ rows) t n m a = (a.0, maximal_longer (s ∷ rows) t n m a.1)

pub maximal_more : (rows : List (ℕ × ℕ)) (t n u m : ℕ) → t ≢ u → AreMaximal (rows ++ (t, n) ∷ []) → AreMaximal ((rows ++ (t, n) ∷ []) ++ (u, m) ∷ [])
maximal_more [] t n u m apart a = (apart, tt)
maximal_more (r ∷ []) t n u m apart a = (a.0, (apart, tt))
maximal_more (r ∷ s ∷ rows) t n u m apart a = (a.0, maximal_more (s ∷ rows) t n u m apart a.1)

-- ---- the rows of the code

one_more : (rows : List Row) (last : Row) (now : List Row) → now ≡ rows ++ last ∷ [] → map row_of now ≡ map row_of rows ++ row_of last ∷ []
one_more rows last now e = ap (map row_of) e ∙ map-append row_of rows (last ∷ [])

one_all : (r : ℕ × ℕ) → IsRow r → All IsRow (r ∷ [])
one_all r h zero d lt = h
one_all r h (suc k) d lt = absurd (omega arith)

pub rows_more : (rows : List Row) (last : Row) (now : List Row) (t : ℕ) → now ≡ rows ++ last ∷ [] → IsRow (t, 1) → All IsRow (map row_of rows ++ row_of last ∷ []) → All IsRow (map row_of now ++ (t, 1) ∷ [])
rows_more rows last now t e h a = All-append IsRow (map row_of now) ((t, 1) ∷ []) (subst (λ rs. All IsRow rs) (sym (one_more rows last now e)) a) (one_all (t, 1) h)

pub maximal_rows : (rows : List Row) (last : Row) (now : List Row) (t : ℕ) → now ≡ rows ++ last ∷ [] → last.thread ≢ t → AreMaximal (map row_of rows ++ row_of last ∷ []) → AreMaximal (map row_of now ++ (t, 1) ∷ [])
maximal_rows rows last now t e apart a =
    subst (λ (rs : List (ℕ × ℕ)). AreMaximal (rs ++ (t, 1) ∷ [])) (sym (one_more rows last now e)) (maximal_more (map row_of rows) last.thread last.turns t 1 apart a)
