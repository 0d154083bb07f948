-- What lies within arrays, counted from the outermost.
use Rattle.std.proofs.Common.{◌≡◌, ◌≤◌, ◌*◌, ◌↔◌, ℕ, List, true, ap, sym, ◌∙◌, subst, arith}
use Rattle.std.proofs.lemmas.Bool.{and_parts, and_from, leb-true, le-leb}
use Rattle.c_types.specs.Types.{CType, array, Completed}
use Rattle.c_types.specs.Layouts.{is_sized, size_of, most_bytes, IsBuilt}
use Rattle.c_types.proofs.CellLists.{small_sized}

-- a whole type has so many elements of the inner one, and so many within one array at most
pub record Counted (done : List Completed) (whole inner : CType) (all most : ℕ) : Type 0 where
  pub sized : is_sized done whole ≡ true → is_sized done inner ≡ true
  pub fits : is_sized done whole ≡ true → most * size_of done inner ≤ most_bytes
  pub size : is_sized done whole ≡ true → size_of done whole ≡ all * size_of done inner
  pub back : is_sized done inner ≡ true → most * size_of done inner ≤ most_bytes → is_sized done whole ≡ true

pub counted_begins : (done : List Completed) (t : CType) → IsBuilt done → Counted done t t 1 1
counted_begins done t built = record {
  sized = λ is. is;
  fits = λ is. let small = small_sized done t built is in omega (arith, small);
  size = λ is. omega arith;
  back = λ is fits. is;
}

pub counted_more : (done : List Completed) (whole e : CType) (k all most all_now most_now : ℕ) → IsBuilt done → Counted done whole (array e k) all most
    → ((size : ℕ) → all * (k * size) ≤ most_bytes → all_now * size ≡ all * (k * size))
    → ((size : ℕ) → (most_now * size ≤ most_bytes) ↔ ((k * size ≤ most_bytes) × (most * (k * size) ≤ most_bytes)))
    → Counted done whole e all_now most_now
counted_more done whole e k all most all_now most_now built w same keeps =
    let parts = λ (is : is_sized done whole ≡ true). and_parts _ _ (w.sized is) in record {
      sized = λ is. (parts is).0;
      fits = λ is. (keeps (size_of done e)).1 (leb-true _ _ (parts is).1, w.fits is);
      size = λ is. let size = w.size is in let small = small_sized done whole built is in
          size ∙ sym (same (size_of done e) (subst (λ (n : ℕ). n ≤ most_bytes) size small));
      back = λ is fits. let both = (keeps (size_of done e)).0 fits in w.back (and_from _ _ is (le-leb _ _ both.0)) both.1;
    }

pub counted_size : (done : List Completed) (whole inner : CType) (all most size : ℕ) → IsBuilt done → Counted done whole inner all most → is_sized done inner ≡ true → size ≡ size_of done inner
    → most * size ≤ most_bytes → all * size ≤ most_bytes
counted_size done whole inner all most size built w sized is fits = let yes = w.back sized (subst (λ (s : ℕ). most * s ≤ most_bytes) is fits) in
    subst (λ (n : ℕ). n ≤ most_bytes) (w.size yes ∙ ap (λ (s : ℕ). all * s) (sym is)) (small_sized done whole built yes)
