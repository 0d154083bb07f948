-- What a map has after a name is given another place.
use Rattle.std.proofs.Common.{◌≡◌, Bool, true, false, List, [], ◌∷◌, ℕ, Option, Some, None, nat_eq, refl, sym, ap, subst, ◌∙◌}
use Rattle.std.specs.Prelude.{if◌then◌else◌, Vec}
use Rattle.std.specs.Option.{option_and_then}
use Rattle.std.specs.Map.{lookup}
use Rattle.std.specs.Str.{bytes_eq}
use Rattle.std.specs.Cmp.Lexicographic.{pointwise}
use Rattle.std.specs.Global.{Global}
use Rattle.std.proofs.lemmas.Slice.Eq.{bytes_eq-Decides}
use Rattle.std.proofs.lemmas.Bool.{false_from_ne_true, false≢true}
use Rattle.indexmap.specs.IndexMap.{insert_entry}
use Rattle.c_scope.specs.Places.{Entries, place_at}

abbrev joined : Option (Option ℕ) → Option ℕ
joined o = option_and_then (λ p. p) o

alone : (x : Bool) (v : Option ℕ) → joined (if x then Some v else None) ≡ (if x then v else None)
alone true v = refl
alone false v = refl

written : (x : Bool) (v w : Option ℕ) (rest : Option (Option ℕ)) → joined (if x then Some v else rest) ≡ (if x then v else joined (if x then Some w else rest))
written true v w rest = refl
written false v w rest = refl

passed : (x y : Bool) (v w : Option ℕ) (new old : Option (Option ℕ)) → (x ≡ true → y ≡ false) → joined new ≡ (if y then v else joined old) → joined (if x then Some w else new) ≡ (if y then v else joined (if x then Some w else old))
passed true y v w new old apart same = ap (λ (b : Bool). if b then v else w) (sym (apart refl))
passed false y v w new old apart same = same

pub same_name : (a b : List ℕ) → bytes_eq a b ≡ true → a ≡ b
same_name a b e = (bytes_eq-Decides a b).0 e

pub others_name : (n a b : List ℕ) → bytes_eq n b ≡ true → bytes_eq a b ≡ false → bytes_eq n a ≡ false
others_name n a b here apart =
    false_from_ne_true (bytes_eq n a) (λ same. false≢true (sym apart ∙ (bytes_eq-Decides a b).1 (sym (same_name n a same) ∙ same_name n b here)))

pub place_after : (es : Entries) (k : Vec ℕ Global) (v : Option ℕ) (n : List ℕ) →
    place_at (insert_entry (λ (x y : Vec ℕ Global). pointwise nat_eq x.items y.items) es k v) n ≡ (if bytes_eq n k.items then v else place_at es n)
place_after [] k v n = alone (bytes_eq n k.items) v
place_after (e ∷ es) k v n = either (place_after es k v n) (bytes_eq k.items e.0.items) refl where
  rest : Entries
  rest = insert_entry (λ (x y : Vec ℕ Global). pointwise nat_eq x.items y.items) es k v

  after : Entries → Type 0
  after xs = place_at xs n ≡ (if bytes_eq n k.items then v else place_at (e ∷ es) n)

  either : (place_at rest n ≡ (if bytes_eq n k.items then v else place_at es n)) → (b : Bool) → bytes_eq k.items e.0.items ≡ b → after (if b then (e.0, v) ∷ es else e ∷ rest)
  either before true same =
      subst (λ (ks : List ℕ). place_at ((e.0, v) ∷ es) n ≡ (if bytes_eq n ks then v else place_at (e ∷ es) n))
      (sym (same_name k.items e.0.items same)) (written (bytes_eq n e.0.items) v e.1 (lookup (λ (x : Vec ℕ Global). pointwise nat_eq n x.items) es))
  either before false apart =
      passed (bytes_eq n e.0.items) (bytes_eq n k.items) v e.1 (lookup (λ (x : Vec ℕ Global). pointwise nat_eq n x.items) rest) (lookup (λ (x : Vec ℕ Global). pointwise nat_eq n x.items) es)
      (λ here. others_name n k.items e.0.items here apart) before
