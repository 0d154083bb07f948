-- Literals, clauses and forms whose variables are below a number.
use Rattle.std.proofs.Common.{ℕ, ◌<◌, ◌≤◌, List, [], ◌∷◌, ◌++◌, length, arith}
use Rattle.std.specs.Prelude.{slice_index_or}
use Rattle.std.proofs.lemmas.List.Elements.{All-from_recursion}
use Rattle.sat_form.specs.Satisfaction.{Literal, IsWithin, AreWithin}

pub IsWithin-weaker : (n m : ℕ) (ls : List Literal) → n ≤ m → IsWithin n ls → IsWithin m ls
IsWithin-weaker n m [] le within = tt
IsWithin-weaker n m (l ∷ ls) le within = (omega (arith, within.0), IsWithin-weaker n m ls le within.1)

pub AreWithin-weaker : (n m : ℕ) (cs : List (List Literal)) → n ≤ m → AreWithin n cs → AreWithin m cs
AreWithin-weaker n m [] le within = tt
AreWithin-weaker n m (c ∷ cs) le within = (IsWithin-weaker n m c le within.0, AreWithin-weaker n m cs le within.1)

pub IsWithin-append : (n : ℕ) (xs ys : List Literal) → IsWithin n xs → IsWithin n ys → IsWithin n (xs ++ ys)
IsWithin-append n [] ys first second = second
IsWithin-append n (x ∷ xs) ys first second = (first.0, IsWithin-append n xs ys first.1 second)

pub AreWithin-append : (n : ℕ) (xs ys : List (List Literal)) → AreWithin n xs → AreWithin n ys → AreWithin n (xs ++ ys)
AreWithin-append n [] ys first second = second
AreWithin-append n (x ∷ xs) ys first second = (first.0, AreWithin-append n xs ys first.1 second)

pub IsWithin-push : (n : ℕ) (ls : List Literal) (l : Literal) → IsWithin n ls → l.variable < n → IsWithin n (ls ++ l ∷ [])
IsWithin-push n ls l within last = IsWithin-append n ls (l ∷ []) within (last, tt)

pub AreWithin-push : (n : ℕ) (cs : List (List Literal)) (c : List Literal) → AreWithin n cs → IsWithin n c → AreWithin n (cs ++ c ∷ [])
AreWithin-push n cs c within last = AreWithin-append n cs (c ∷ []) within (last, tt)

-- by place
pub IsWithin-at : (n : ℕ) (ls : List Literal) (k : ℕ) (d : Literal) → IsWithin n ls → k < length ls → (slice_index_or ls k d).variable < n
IsWithin-at n ls k d within below = All-from_recursion (λ l. l.variable < n) ls within k d below

pub AreWithin-at : (n : ℕ) (cs : List (List Literal)) (k : ℕ) (d : List Literal) → AreWithin n cs → k < length cs → IsWithin n (slice_index_or cs k d)
AreWithin-at n cs k d within below = All-from_recursion (IsWithin n) cs within k d below
