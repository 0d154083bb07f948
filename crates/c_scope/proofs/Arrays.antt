-- The arrays of a declarator, the innermost first.
use Rattle.std.proofs.Common.{◌≡◌, ◌<◌, ◌≤◌, ◌+◌, ◌-◌, ℕ, zero, suc, Bool, true, false, nat_le, ◌&&◌, if◌then◌else◌, List, [], ◌∷◌, length, get_or, drop, Option, Some, None, Result, Ok, Err, IfErr, refl, ap, subst, ◌∙◌, arith}
use Rattle.std.proofs.lemmas.Bool.{and_left, and_right}
use Rattle.std.proofs.lemmas.List.{drop_more}
use Rattle.c_types.specs.Types.{CType, array, Completed}
use Rattle.c_types.specs.Layouts.{is_complete, is_sized, size_of, most_bytes}
use Rattle.c_scope.specs.declared.fault.Broken.{Broken}
use Rattle.c_scope.specs.declared.fault.Broken.TheVariants as broken
use Rattle.c_scope.specs.Faults.{◌>>=◌, required, Breaks}
use Rattle.c_scope.specs.Types.{sized_array, one_array, arrays_of, type_size}

-- a rule that an inner array breaks is broken
array_fails : (done : List Completed) (t : CType) (i : ℕ) (ns : List (Option ℕ)) (rule : ℕ) → arrays_of done t (drop i ns) ≡ Err rule → arrays_of done t ns ≡ Err rule
array_fails done t zero ns rule e = e
array_fails done t (suc i) [] rule e = e
array_fails done t (suc i) (n ∷ ns) rule e = ap (λ (r : Result CType ℕ). r >>= λ y. one_array done y n) (array_fails done t i ns rule e)

breaks_on : {Y Z : Type 0} (e : Broken) (r : Result Y ℕ) (s : Result Z ℕ) → ((rule : ℕ) → r ≡ Err rule → s ≡ Err rule) → Breaks e r → Breaks e s
breaks_on broken.Memory r s h g = tt
breaks_on (broken.Rule rule) r s h g = h rule g

pub array_breaks : (e : Broken) (done : List Completed) (t : CType) (ns : List (Option ℕ)) (left : ℕ) (d : Option ℕ) (element : CType) → 0 < left → left ≤ length ns
    → arrays_of done t (drop left ns) ≡ Ok element → Breaks e (one_array done element (get_or ns (left - 1) d)) → Breaks e (arrays_of done t ns)
array_breaks e done t ns left d element some within so_far bad =
    let i = left - 1 in
    let next : i + 1 ≡ left = omega (arith, some) in
    let n = get_or ns i d in
    let inner : arrays_of done t (drop (i + 1) ns) ≡ Ok element = ap (λ (k : ℕ). arrays_of done t (drop k ns)) next ∙ so_far in
    let here : arrays_of done t (drop i ns) ≡ one_array done element n =
    ap (arrays_of done t) (drop_more ns i d (omega (arith, some, within))) ∙ ap (λ (r : Result CType ℕ). r >>= λ y. one_array done y n) inner in
    breaks_on e (one_array done element n) (arrays_of done t ns) (λ rule told. array_fails done t i ns rule (here ∙ told)) bad

-- the rule that is broken, from one type's answer to another's
same_rule : (done : List Completed) (t : CType) (n : Option ℕ) (rule : ℕ) (told : Result ℕ ℕ) → IfErr told (λ x. one_array done t n ≡ Err x) → told ≡ Err rule → one_array done t n ≡ Err rule
same_rule done t n rule told h e = subst (λ (r : Result ℕ ℕ). IfErr r (λ x. one_array done t n ≡ Err x)) e h

-- an element that is incomplete or too large has no array, by the same rule
one_fails : (done : List Completed) (t : CType) (n : Option ℕ) (rule : ℕ) (whole sized : Bool) → is_complete done t ≡ whole → is_sized done t ≡ sized
    → (if whole then (if sized then Ok (size_of done t) else Err 4) else Err 3) ≡ Err rule → one_array done t n ≡ Err rule
one_fails done t n rule false sized c z e = same_rule done t n rule (Err 3) (ap (λ (b : Bool). if b then required 4 (sized_array done t n) else Err 3) c) e
one_fails done t None rule true false c z e = same_rule done t None rule (Err 4) (ap (λ (b : Bool). if b then required 4 (sized_array done t None) else Err 3) c) e
one_fails done t (Some k) rule true false c z e =
    let whole : one_array done t (Some k) ≡ required 4 (sized_array done t (Some k)) = ap (λ (b : Bool). if b then required 4 (sized_array done t (Some k)) else Err 3) c in
    let none : sized_array done t (Some k) ≡ None = ap (λ (b : Bool). if b then Some (array t k) else None) (and_right (nat_le 1 k && nat_le k most_bytes) _ (and_left (is_sized done t) _ z)) in
    same_rule done t (Some k) rule (Err 4) (whole ∙ ap (required 4) none) e
one_fails done t n rule true true c z e = absurd (subst (λ (r : Result ℕ ℕ). IfErr r (λ _. ⊥)) e tt)

-- what is wrong with the innermost element is told where there is an array of it
pub all_fail : (done : List Completed) (t : CType) (n : Option ℕ) (ns : List (Option ℕ)) (rule : ℕ) → type_size done t ≡ Err rule → arrays_of done t (n ∷ ns) ≡ Err rule
all_fail done t n [] rule e = one_fails done t n rule (is_complete done t) (is_sized done t) refl refl e
all_fail done t n (m ∷ ns) rule e = ap (λ (r : Result CType ℕ). r >>= λ y. one_array done y n) (all_fail done t m ns rule e)

pub all_break : (e : Broken) (done : List Completed) (t : CType) (ns : List (Option ℕ)) → 0 < length ns → Breaks e (type_size done t) → Breaks e (arrays_of done t ns)
all_break e done t [] some b = absurd (omega (arith, some))
all_break e done t (n ∷ ns) some b = breaks_on e (type_size done t) (arrays_of done t (n ∷ ns)) (λ rule told. all_fail done t n ns rule told) b
