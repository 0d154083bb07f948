-- Parts of lists of literals within a form.
use Rattle.std.proofs.Common.{◌≡◌, ℕ, zero, suc, ◌+◌, ◌-◌, ◌<◌, ◌≤◌, List, [], ◌∷◌, ◌++◌, take, drop, replicate, length, get_or, sym, ap, ◌∙◌, arith}
use Rattle.std.proofs.lemmas.List.{take_more, take_all}
use Rattle.sat_form.specs.Satisfaction.{Literal, IsWithin}
use Rattle.sat_form.proofs.Within.{IsWithin-append}

pub IsWithin-take : (n k : ℕ) (ls : List Literal) → IsWithin n ls → IsWithin n (take k ls)
IsWithin-take n zero ls within = tt
IsWithin-take n (suc k) [] within = tt
IsWithin-take n (suc k) (l ∷ ls) within = (within.0, IsWithin-take n k ls within.1)

pub IsWithin-drop : (n k : ℕ) (ls : List Literal) → IsWithin n ls → IsWithin n (drop k ls)
IsWithin-drop n zero ls within = within
IsWithin-drop n (suc k) [] within = tt
IsWithin-drop n (suc k) (l ∷ ls) within = IsWithin-drop n k ls within.1

pub IsWithin-replicate : (m n : ℕ) (l : Literal) → l.variable < m → IsWithin m (replicate n l)
IsWithin-replicate m zero l within = tt
IsWithin-replicate m (suc n) l within = (within, IsWithin-replicate m n l within)

pub IsWithin-moved_up : (n d : ℕ) (fill : Literal) (ls : List Literal) → fill.variable < n → IsWithin n ls → IsWithin n (replicate d fill ++ take (length ls - d) ls)
IsWithin-moved_up n d fill ls one within = IsWithin-append n (replicate d fill) (take (length ls - d) ls) (IsWithin-replicate n d fill one) (IsWithin-take n (length ls - d) ls within)

pub IsWithin-moved_down : (n d : ℕ) (fill : Literal) (ls : List Literal) → fill.variable < n → IsWithin n ls → IsWithin n (drop d ls ++ replicate d fill)
IsWithin-moved_down n d fill ls one within = IsWithin-append n (drop d ls) (replicate d fill) (IsWithin-drop n d ls within) (IsWithin-replicate n d fill one)

-- a list as what stands before its last element, and that
pub last_of : (a : List Literal) (x : Literal) → 1 ≤ length a → x ≡ get_or a (length a - 1) x → take (length a - 1) a ++ x ∷ [] ≡ a
last_of a x some is =
    sym (take_more a (length a - 1) x (omega arith) ∙ ap (λ (l : Literal). take (length a - 1) a ++ l ∷ []) (sym is)) ∙ take_all (length a - 1 + 1) a (omega arith)
