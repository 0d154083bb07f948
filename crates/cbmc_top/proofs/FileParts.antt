-- A file that is read part by part.
use Rattle.std.proofs.Common.{◌≡◌, ℕ, ◌+◌, ◌-◌, ◌≤◌, ◌<◌, Bool, true, false, List, [], ◌++◌, length, take, drop, Option, Some, None, sym, refl, ap, ◌∙◌, subst, arith}
use Rattle.std.proofs.lemmas.List.{take_all, length-append, length-take-le, length-drop}
use Rattle.std.proofs.Math.Seq.{take-add}
use Rattle.std.proofs.lemmas.Bool.{false≢true}
use Rattle.outside.specs.Source.{IsPiece}
use Rattle.outside.specs.Count.{Rose}
use Rattle.cbmc_top.specs.Calls.{AreFirst, WasRead, HasReadMore}

whole : (b bytes : List ℕ) → length b ≤ length bytes → length bytes ≤ length b → length bytes ≤ 1048577 → bytes ≡ take (length bytes) b → bytes ≡ take 1048577 b
whole b bytes p q few e = e ∙ take_all (length bytes) b p ∙ sym (take_all 1048577 b (omega arith))

pub read_all : (held : Option (List ℕ)) (bytes into : List ℕ) (at n : ℕ) → IsPiece held at n into → n ≡ 0 → at ≡ length bytes → 0 < length into → AreFirst held bytes → WasRead held bytes
read_all None bytes into at n piece none here room first = record { few = first.few; told = tt }
read_all (Some b) bytes into at n piece none here room first =
    let end = piece.2 none room in
    record { few = first.few; told = whole b bytes (omega arith) first.told.0 first.few first.told.1 }

pub read_some : (held : Option (List ℕ)) (bytes into : List ℕ) (at n : ℕ) → IsPiece held at n into → at ≡ length bytes → n ≤ length into → length bytes + n ≤ 1048577 → AreFirst held bytes → AreFirst held (bytes ++ take n into)
read_some None bytes into at n piece here fits few first = record { few = rw (length-append bytes (take n into), length-take-le n into fits) few; told = tt }
read_some (Some b) bytes into at n piece here fits few first =
    let size : length (bytes ++ take n into) ≡ length bytes + n = rw (length-append bytes (take n into), length-take-le n into fits) refl in
    let from : take n into ≡ take n (drop (length bytes) b) = piece.0 ∙ ap (λ i. take n (drop i b)) here in
    let behind = piece.1 in
    let left : length (drop at b) ≡ length b - at = length-drop at b in
    let some = first.told.0 in
    let joined : bytes ++ take n into ≡ take (length bytes + n) b = ap (λ xs. xs ++ take n into) first.told.1 ∙ ap (λ xs. take (length bytes) b ++ xs) from ∙ sym (take-add (length bytes) n b) in
    record { few = rw size few; told = (rw size (omega arith), joined ∙ ap (λ i. take i b) (sym size)) }

pub rose_later : (first before now : ℕ) → first ≤ before → Rose before now → Rose first now
rose_later first before now le rose = omega (arith, rose)

pub was_read : (held : Option (List ℕ)) (bytes : List ℕ) → 1048577 ≤ length bytes → AreFirst held bytes → WasRead held bytes
was_read None bytes all first = record { few = first.few; told = tt }
was_read (Some b) bytes all first = let few = first.few in let same : length bytes ≡ 1048577 = omega arith in record { few = first.few; told = first.told.1 ∙ ap (λ i. take i b) same }

pub first_none : (held : Option (List ℕ)) → AreFirst held []
first_none None = record { few = omega arith; told = tt }
first_none (Some b) = record { few = omega arith; told = (omega arith, refl) }

pub read_to_end : (held later : Option (List ℕ)) (before now : List ℕ) (more : Bool) → more ≡ false → later ≡ held → HasReadMore later before now more → AreFirst held before → WasRead held now
read_to_end held later before now true e same h first = absurd (false≢true (sym e))
read_to_end held later before now false e same h first = subst (λ x. WasRead x now) same (h (subst (λ x. AreFirst x before) (sym same) first))
