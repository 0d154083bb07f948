-- A string has as many characters as it stands for bytes.
use Rattle.std.proofs.Common.{◌≡◌, ◌+◌, ◌-◌, ℕ, zero, suc, Bool, true, false, List, [], ◌∷◌, Option, Some, None, length, take, refl, sym, ap, ◌∙◌, arith}
use Rattle.std.specs.Prelude.{◌==◌, nat_lt, option_map, if◌then◌else◌}
use Rattle.std.specs.Option.{option_and_then}
use Rattle.c_lexer.specs.Forms.{is_empty}
use Rattle.c_lexer.specs.Constants.{digits, number}
use Rattle.c_lexer.specs.Literals.{simple_escape, escape_by, escape_at, element_at, bytes_behind, enclosed, string_bytes}
use Rattle.c_lexer.specs.declared.literal.Element.{Element}
use Rattle.c_elab_expr.specs.Strings.{escape_length, characters_behind, string_length}

by_tests : (p q : Bool) (x e : Element) → (if p then None else (if q then Some x else None)) ≡ Some e → e.length ≡ x.length
by_tests true q x e h = let none : ⊥ = cc in absurd none
by_tests false true x e h = let same : x ≡ e = cc in sym (ap (λ (y : Element). y.length) same)
by_tests false false x e h = let none : ⊥ = cc in absurd none

escape_by_is : (base : ℕ) (ds : List ℕ) (n : ℕ) (e : Element) → escape_by base ds n ≡ Some e → e.length ≡ n
unfolding escape_by
escape_by_is base ds n e h = by_tests (is_empty ds) (nat_lt (number base ds) 256) (record { byte = number base ds; length = n }) e h

simple_is : (o : Option ℕ) (e : Element) → option_map (λ byte. record { byte = byte; length = 2 }) o ≡ Some e → e.length ≡ 2
simple_is None e h = let none : ⊥ = cc in absurd none
simple_is (Some b) e h = let x : Element = record { byte = b; length = 2 } in let same : x ≡ e = cc in sym (ap (λ (y : Element). y.length) same)

escape_is : (b : ℕ) (bs : List ℕ) (e : Element) → escape_at (b ∷ bs) ≡ Some e → e.length ≡ 1 + escape_length (b ∷ bs)
unfolding escape_at
escape_is b bs e h = by_form (b == 120) (is_empty (digits 8 (take 3 (b ∷ bs)))) h where
  by_form : (x y : Bool) → (if x then escape_by 16 (digits 16 bs) (2 + length (digits 16 bs))
      else (if y then option_map (λ byte. record { byte = byte; length = 2 }) (simple_escape b) else escape_by 8 (digits 8 (take 3 (b ∷ bs))) (1 + length (digits 8 (take 3 (b ∷ bs)))))) ≡ Some e
      → e.length ≡ 1 + (if x then 1 + length (digits 16 bs) else (if y then 1 else length (digits 8 (take 3 (b ∷ bs)))))
  by_form true y h = omega (arith, escape_by_is 16 (digits 16 bs) (2 + length (digits 16 bs)) e h)
  by_form false true h = omega (arith, simple_is (simple_escape b) e h)
  by_form false false h = escape_by_is 8 (digits 8 (take 3 (b ∷ bs))) (1 + length (digits 8 (take 3 (b ∷ bs)))) e h

behind_is : (bs : List ℕ) (e : Element) → escape_at bs ≡ Some e → e.length ≡ 1 + escape_length bs
unfolding escape_at
behind_is [] e h = let none : ⊥ = cc in absurd none
behind_is (b ∷ bs) e h = escape_is b bs e h

element_is : (b : ℕ) (bs : List ℕ) (e : Element) → element_at (b ∷ bs) ≡ Some e → e.length ≡ suc (if b == 92 then escape_length bs else 0)
unfolding element_at
element_is b bs e h = by_start (b == 92) h where
  by_start : (x : Bool) → (if x then escape_at bs else Some (record { byte = b; length = 1 })) ≡ Some e → e.length ≡ suc (if x then escape_length bs else 0)
  by_start true h = omega (arith, behind_is bs e h)
  by_start false h = let x : Element = record { byte = b; length = 1 } in let same : x ≡ e = cc in sym (ap (λ (y : Element). y.length) same)

-- a byte in front of others
one_more : (byte n : ℕ) (o : Option (List ℕ)) (bytes : List ℕ) → ((rest : List ℕ) → o ≡ Some rest → n ≡ length rest) → option_map (λ rest. byte ∷ rest) o ≡ Some bytes → suc n ≡ length bytes
one_more byte n None bytes h e = let none : ⊥ = cc in absurd none
one_more byte n (Some rest) bytes h e = let same : byte ∷ rest ≡ bytes = cc in ap suc (h rest refl) ∙ ap (λ (xs : List ℕ). length xs) same

first_element : (o : Option Element) (n : ℕ) (bs bytes : List ℕ) → ((e : Element) → o ≡ Some e → e.length ≡ suc n) → ((rest : List ℕ) → bytes_behind n bs ≡ Some rest → characters_behind n bs ≡ length rest)
    → option_and_then (λ (e : Element). option_map (λ rest. e.byte ∷ rest) (bytes_behind (e.length - 1) bs)) o ≡ Some bytes → suc (characters_behind n bs) ≡ length bytes
first_element None n bs bytes long h e = let none : ⊥ = cc in absurd none
first_element (Some x) n bs bytes long h e =
    let inside : x.length - 1 ≡ n = omega (arith, long x refl) in
    one_more x.byte (characters_behind n bs) (bytes_behind (x.length - 1) bs) bytes (λ rest told. h rest (sym (ap (λ (k : ℕ). bytes_behind k bs) inside) ∙ told)) e

counted : (inside : ℕ) (text bytes : List ℕ) → bytes_behind inside text ≡ Some bytes → characters_behind inside text ≡ length bytes
counted inside [] bytes e = let same : [] ≡ bytes = cc in ap (λ (xs : List ℕ). length xs) same
counted (suc inside) (b ∷ bs) bytes e = counted inside bs bytes e
counted zero (b ∷ bs) bytes e =
    first_element (element_at (b ∷ bs)) (if b == 92 then escape_length bs else 0) bs bytes (element_is b bs) (counted (if b == 92 then escape_length bs else 0) bs) e

pub length_of_bytes : (text bytes : List ℕ) → string_bytes text ≡ Some bytes → string_length text ≡ length bytes
length_of_bytes text bytes e = counted 0 (enclosed text) bytes e
