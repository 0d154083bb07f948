-- The bytes that a literal's characters and escapes stand for, one element after another.
use Rattle.std.proofs.Common.{◌≡◌, ◌<◌, ◌-◌, ℕ, List, [], ◌∷◌, ◌++◌, length, drop, true, Option, Some, None, refl, sym, ap, ◌∙◌, arith, zero, suc}
use Rattle.std.specs.Prelude.{is_some, option_map}
use Rattle.std.proofs.lemmas.Bool.{both_ways}
use Rattle.std.proofs.lemmas.List.{append_assoc, append-nil}
use Rattle.c_lexer.specs.declared.literal.Element.{Element}
use Rattle.c_lexer.specs.Literals.{element_at, bytes_behind}

inside_is_skipped : (n : ℕ) (text : List ℕ) → bytes_behind n text ≡ bytes_behind 0 (drop n text)
inside_is_skipped zero [] = refl
inside_is_skipped (suc n) [] = refl
inside_is_skipped zero (b ∷ bs) = refl
inside_is_skipped (suc n) (b ∷ bs) = inside_is_skipped n bs

pub element_more : (text : List ℕ) (e : Element) → 0 < length text → 0 < e.length → element_at text ≡ Some e →
    bytes_behind 0 text ≡ option_map (λ rest. e.byte ∷ rest) (bytes_behind 0 (drop e.length text))
element_more [] e l p h = absurd (omega arith)
element_more (b ∷ bs) e l p h =
    let n : e.length ≡ suc (e.length - 1) = omega arith in
    let skip : bytes_behind (e.length - 1) bs ≡ bytes_behind 0 (drop e.length (b ∷ bs)) =
    inside_is_skipped (e.length - 1) bs ∙ ap (λ k. bytes_behind 0 (drop k (b ∷ bs))) (sym n) in
    rw h (ap (option_map (λ rest. e.byte ∷ rest)) skip)

pub element_none : (text : List ℕ) → 0 < length text → element_at text ≡ None → bytes_behind 0 text ≡ None
element_none [] l h = absurd (omega arith)
element_none (b ∷ bs) l h = rw h refl

some_of_map : {X Y : Type 0} (f : X → Y) (o : Option X) → is_some (option_map f o) ≡ is_some o
some_of_map f None = refl
some_of_map f (Some x) = refl

pub well_formed_more : (text : List ℕ) (e : Element) → 0 < length text → 0 < e.length → element_at text ≡ Some e →
    is_some (bytes_behind 0 (drop e.length text)) ≡ is_some (bytes_behind 0 text)
well_formed_more text e l p h =
    sym (ap is_some (element_more text e l p h) ∙ some_of_map (λ rest. e.byte ∷ rest) (bytes_behind 0 (drop e.length text)))

-- with the bytes of the elements before it in front
abbrev pub with_front : List ℕ → Option (List ℕ) → Option (List ℕ)
with_front front o = option_map (λ rest. front ++ rest) o

front_again : (front : List ℕ) (b : ℕ) (o : Option (List ℕ)) → with_front front (option_map (λ rest. b ∷ rest) o) ≡ with_front (front ++ b ∷ []) o
front_again front b None = refl
front_again front b (Some rest) = ap Some (sym (append_assoc front (b ∷ []) rest))

pub front_more : (front text : List ℕ) (e : Element) → 0 < length text → 0 < e.length → element_at text ≡ Some e →
    with_front (front ++ e.byte ∷ []) (bytes_behind 0 (drop e.length text)) ≡ with_front front (bytes_behind 0 text)
front_more front text e l p h =
    sym (ap (with_front front) (element_more text e l p h) ∙ front_again front e.byte (bytes_behind 0 (drop e.length text)))

pub front_start : (o : Option (List ℕ)) → with_front [] o ≡ o
front_start None = refl
front_start (Some rest) = refl

pub front_ends : (front rest : List ℕ) (o : Option (List ℕ)) → with_front front (bytes_behind 0 rest) ≡ o → is_some o ≡ true → element_at rest ≡ None → o ≡ Some front
front_ends front [] o e s h = sym e ∙ ap Some (append-nil front)
front_ends front (b ∷ bs) o e s h =
    let none : bytes_behind 0 (b ∷ bs) ≡ None = element_none (b ∷ bs) (omega arith) h in
    let n : o ≡ None = sym e ∙ ap (with_front front) none in
    absurd (both_ways (is_some o) (ap is_some n) s)
