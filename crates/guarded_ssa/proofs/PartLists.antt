-- Lists of bytes in parts: what is taken at an offset, what is put there, and the first bytes of one list in front of another.
use Rattle.std.proofs.Common.{◌≡◌, ℕ, zero, suc, ◌+◌, ◌-◌, ◌<◌, ◌≤◌, Bool, true, false, List, [], ◌∷◌, ◌++◌, length, take, drop, get_or, inl, inr, refl, sym, ap, ◌∙◌, arith, nat_lt}
use Rattle.std.specs.Prelude.{◌&&◌, min, nat_le, slice_index, if◌then◌else◌}
use Rattle.std.proofs.lemmas.Bool.{cases_lt}
use Rattle.std.proofs.lemmas.Bool.Decides.{nat_tests}
use Rattle.std.proofs.lemmas.List.{drop_all, take_all, drop-drop, length-append, length-replicate, length-take, length-take-le, length-drop, take-append-drop, get_or-take, get_or-drop}
use Rattle.c_values.specs.Variables.{zeros}
use Rattle.goto_prog.specs.Meaning.{taken_at, put_within}
use Rattle.byte_ops.specs.Bytes.{written_at, updated_from, updated}

-- ---- what is taken

more_zeros : (n m : ℕ) (xs : List ℕ) → n ≤ m → take n (xs ++ zeros m) ≡ take n (xs ++ zeros n)
more_zeros zero m xs h = refl
more_zeros (suc n) zero xs h = absurd (omega (arith, h))
more_zeros (suc n) (suc m) [] h = ap (λ ys. 0 ∷ ys) (more_zeros n m [] (omega (arith, h)))
more_zeros (suc n) (suc m) (x ∷ xs) h = ap (λ ys. x ∷ ys) (more_zeros n (suc m) xs (omega (arith, h)) ∙ sym (more_zeros n (suc n) xs (omega arith)))

drop_none : (n : ℕ) → drop n (let none : List ℕ = [] in none) ≡ []
drop_none zero = refl
drop_none (suc n) = refl

-- the first bytes, and those behind them
in_two : (a k n : ℕ) (xs : List ℕ) → n ≡ a + k → take n (xs ++ zeros n) ≡ take a (xs ++ zeros a) ++ take k (drop a xs ++ zeros k)
in_two zero k n xs is = (let same : n ≡ k = omega (arith, is) in ap (λ m. take m (xs ++ zeros m)) same)
in_two (suc a) k zero xs is = absurd (omega (arith, is))
in_two (suc a) k (suc n) [] is = ap (λ ys. 0 ∷ ys) (in_two a k n [] (omega (arith, is)) ∙ ap (λ ys. take a (zeros a) ++ take k (ys ++ zeros k)) (drop_none a))
in_two (suc a) k (suc n) (x ∷ xs) is =
    ap (λ ys. x ∷ ys) (more_zeros n (suc n) xs (omega arith) ∙ in_two a k n xs (omega (arith, is)) ∙ ap (λ ys. ys ++ take k (drop a xs ++ zeros k)) (sym (more_zeros a (suc a) xs (omega arith))))

pub drop_least : {X : Type 0} → (n : ℕ) (xs : List X) → drop (min n (length xs)) xs ≡ drop n xs
drop_least n xs = elim (cases_lt n (length xs)) [
  | inl less ↦ ap (λ k. drop k xs) (omega (arith, less))
  | inr all ↦ ap (λ k. drop k xs) (let whole : min n (length xs) ≡ length xs = omega (arith, all) in whole) ∙ drop_all (length xs) xs (omega arith) ∙ sym (drop_all n xs all)
]

pub take_least_length : {X : Type 0} → (n : ℕ) (xs : List X) → take (min n (length xs)) xs ≡ take n xs
take_least_length n xs = elim (cases_lt n (length xs)) [
  | inl less ↦ ap (λ k. take k xs) (omega (arith, less))
  | inr all ↦ ap (λ k. take k xs) (let whole : min n (length xs) ≡ length xs = omega (arith, all) in whole) ∙ take_all (length xs) xs (omega arith) ∙ sym (take_all n xs all)
]

pub cut_all : {X : Type 0} → (n : ℕ) (xs : List X) → take (length xs - n) (drop n xs) ≡ drop n xs
cut_all n xs = take_all (length xs - n) (drop n xs) (omega (arith, length-drop n xs))

pub taken_in_two : (a k offset : ℕ) (block : List ℕ) → taken_at (a + k) offset block ≡ taken_at a offset block ++ taken_at k offset (drop a block)
taken_in_two a k offset block =
    let same : drop a (drop offset block) ≡ drop offset (drop a block) = drop-drop a offset block ∙ ap (λ n. drop n block) (let turn : offset + a ≡ a + offset = omega arith in turn) ∙ sym (drop-drop offset a block) in
    in_two a k (a + k) (drop offset block) refl ∙ ap (λ ys. taken_at a offset block ++ take k (ys ++ zeros k)) same

pub taken_size : (n offset : ℕ) (block : List ℕ) → length (taken_at n offset block) ≡ n
taken_size n offset block = length-take-le n (drop offset block ++ zeros n) (omega (arith, length-append (drop offset block) (zeros n), length-replicate {A = ℕ} n 0))

-- ---- what is put

test_on : (m n : ℕ) → nat_lt (suc m) (suc n) ≡ nat_lt m n
test_on m n = grind (arith, nat_tests)

test_on_le : (m n : ℕ) → nat_le (suc m) (suc n) ≡ nat_le m n
test_on_le m n = grind (arith, nat_tests)

one_on : (offset place b : ℕ) (bytes : List ℕ) → written_at (suc offset) bytes (suc place) b ≡ written_at offset bytes place b
one_on offset place b bytes =
    let end : nat_lt (suc place) (suc offset + length bytes) ≡ nat_lt place (offset + length bytes) = ap (nat_lt (suc place)) (let same : suc offset + length bytes ≡ suc (offset + length bytes) = omega arith in same) ∙ test_on place (offset + length bytes) in
    let at : suc place - suc offset ≡ place - offset = omega arith in
    λ i. if test_on_le offset place i && end i then slice_index bytes (at i) else b

-- places and the offset move together
moved_on : (place offset : ℕ) (bytes block : List ℕ) → updated_from (suc place) (suc offset) bytes block ≡ updated_from place offset bytes block
moved_on place offset bytes [] = refl
moved_on place offset bytes (b ∷ block) = let here = one_on offset place b bytes in let rest = moved_on (suc place) offset bytes block in λ i. here i ∷ rest i

behind_one : (place x b : ℕ) (bytes : List ℕ) → written_at 0 (x ∷ bytes) (suc place) b ≡ written_at 0 bytes place b
behind_one place x b bytes =
    let from : nat_le 0 (suc place) ≡ nat_le 0 place = grind (arith, nat_tests) in
    let end : nat_lt (suc place) (0 + length (x ∷ bytes)) ≡ nat_lt place (0 + length bytes) = ap (nat_lt (suc place)) (let same : 0 + length (x ∷ bytes) ≡ suc (0 + length bytes) = omega arith in same) ∙ test_on place (0 + length bytes) in
    let at : suc place - 0 ≡ suc (place - 0) = omega arith in
    λ i. if from i && end i then slice_index (x ∷ bytes) (at i) else b

behind_first : (place x : ℕ) (bytes block : List ℕ) → updated_from (suc place) 0 (x ∷ bytes) block ≡ updated_from place 0 bytes block
behind_first place x bytes [] = refl
behind_first place x bytes (b ∷ block) = let here = behind_one place x b bytes in let rest = behind_first (suc place) x bytes block in λ i. here i ∷ rest i

none_there : (place b : ℕ) → written_at 0 [] place b ≡ b
none_there place b =
    let test : (nat_le 0 place && nat_lt place (0 + length (let none : List ℕ = [] in none))) ≡ false = grind (arith, nat_tests) in
    λ i. if test i then slice_index (let none : List ℕ = [] in none) (place - 0) else b

none_put : (place : ℕ) (block : List ℕ) → updated_from place 0 [] block ≡ block
none_put place [] = refl
none_put place (b ∷ block) = let here = none_there place b in let rest = none_put (suc place) block in λ i. here i ∷ rest i

whole_list : (xs : List ℕ) → take (length xs) xs ≡ xs
whole_list [] = refl
whole_list (x ∷ xs) = ap (λ ys. x ∷ ys) (whole_list xs)

whole_drop : (xs : List ℕ) → drop 0 xs ≡ xs
whole_drop [] = refl
whole_drop (x ∷ xs) = refl

first_there : (b x : ℕ) (new : List ℕ) → written_at 0 (b ∷ new) 0 x ≡ b
first_there b x new =
    let test : (nat_le 0 0 && nat_lt 0 (0 + length (b ∷ new))) ≡ true = grind (arith, nat_tests) in
    λ i. if test i then slice_index (b ∷ new) 0 else x

first_before : (offset x : ℕ) (new : List ℕ) → written_at (suc offset) new 0 x ≡ x
first_before offset x new =
    let test : (nat_le (suc offset) 0 && nat_lt 0 (suc offset + length new)) ≡ false = grind (arith, nat_tests) in
    λ i. if test i then slice_index new (0 - suc offset) else x

put_here : (new old : List ℕ) → put_within 0 new old ≡ take (length old) (new ++ drop (length new) old)
put_here new old = let same : 0 + length new ≡ length new = omega arith in ap (λ n. take (length old) (new ++ drop n old)) same

put_later : (offset x : ℕ) (new old : List ℕ) → put_within (suc offset) new (x ∷ old) ≡ x ∷ put_within offset new old
put_later offset x new old = let same : suc offset + length new ≡ suc (offset + length new) = omega arith in ap (λ n. x ∷ take (length old) (take offset old ++ (new ++ drop n (x ∷ old)))) same

here_is_updated : (new old : List ℕ) → take (length old) (new ++ drop (length new) old) ≡ updated 0 new old
here_is_updated new [] = refl
here_is_updated [] (x ∷ old) = ap (λ ys. x ∷ ys) (whole_list old) ∙ sym (none_put 0 (x ∷ old))
here_is_updated (b ∷ new) (x ∷ old) = let here = sym (first_there b x new) in let rest = here_is_updated new old ∙ sym (behind_first 0 b new old) in λ i. here i ∷ rest i

pub within_is_updated : (offset : ℕ) (new old : List ℕ) → put_within offset new old ≡ updated offset new old
within_is_updated offset new [] = refl
within_is_updated zero new (x ∷ old) = put_here new (x ∷ old) ∙ here_is_updated new (x ∷ old)
within_is_updated (suc offset) new (x ∷ old) =
    put_later offset x new old ∙ (let here = sym (first_before offset x new) in let rest = within_is_updated offset new old ∙ sym (moved_on 0 offset new old) in λ i. here i ∷ rest i)

-- ---- and put again

-- ---- and put again

byte_before : (offset : ℕ) (bytes : List ℕ) (place b : ℕ) → place < offset → written_at offset bytes place b ≡ b
byte_before offset bytes place b h = (λ i. if (here i && nat_lt place (offset + length bytes)) then slice_index bytes (place - offset) else b)
  where
    here : nat_le offset place ≡ false
    here = grind (arith, nat_tests)

byte_there : (offset : ℕ) (bytes : List ℕ) (place b k : ℕ) → place ≡ offset + k → k < length bytes → written_at offset bytes place b ≡ slice_index bytes k
byte_there offset bytes place b k is less = (λ i. if (from_there i && below i) then slice_index bytes (place - offset) else b) ∙ ap (slice_index bytes) (let m : place - offset ≡ k = omega (arith, is) in m)
  where
    from_there : nat_le offset place ≡ true
    from_there = grind (arith, nat_tests)

    below : nat_lt place (offset + length bytes) ≡ true
    below = grind (arith, nat_tests)

byte_behind : (offset : ℕ) (bytes : List ℕ) (place b : ℕ) → offset + length bytes ≤ place → written_at offset bytes place b ≡ b
byte_behind offset bytes place b h = (λ i. if (nat_le offset place && past i) then slice_index bytes (place - offset) else b) ∙ neither (nat_le offset place) (slice_index bytes (place - offset)) b
  where
    past : nat_lt place (offset + length bytes) ≡ false
    past = grind (arith, nat_tests)

    neither : (a : Bool) (x y : ℕ) → (if a && false then x else y) ≡ y
    neither true x y = refl
    neither false x y = refl

module _ (offset at size : ℕ) (new : List ℕ) (within : at + size ≤ length new) where
  first : List ℕ
  first = take at new

  next : List ℕ
  next = take size (drop at new)

  both : List ℕ
  both = take (at + size) new

  first_long : length first ≡ at
  unfolding first
  first_long = length-take-le at new (omega (arith, within))

  next_long : length next ≡ size
  unfolding next
  next_long = length-take-le size (drop at new) (omega (arith, within, length-drop at new))

  both_long : length both ≡ at + size
  unfolding both
  both_long = length-take-le (at + size) new within

  in_first : (k : ℕ) → k < at → slice_index first k ≡ slice_index both k
  unfolding first both
  in_first k less = get_or-take at new k 0 less ∙ sym (get_or-take (at + size) new k 0 (omega (arith, less)))

  in_next : (j : ℕ) → j < size → slice_index next j ≡ slice_index both (at + j)
  unfolding next both
  in_next j less = get_or-take size (drop at new) j 0 less ∙ get_or-drop at new j 0 ∙ sym (get_or-take (at + size) new (at + j) 0 (omega (arith, less)))

  -- a byte in front of the second part
  first_byte : (place b : ℕ) → place < at → written_at offset first place b ≡ written_at offset both place b
  first_byte place b less = elim (cases_lt place offset) [
    | inl before ↦ byte_before offset first place b before ∙ sym (byte_before offset both place b before)
    | inr from ↦ byte_there offset first place b (place - offset) (omega (arith, from)) (omega (arith, from, less, first_long)) ∙ in_first (place - offset) (omega (arith, less))
        ∙ sym (byte_there offset both place b (place - offset) (omega (arith, from)) (omega (arith, less, both_long)))
  ]

  -- any byte
  second_byte : (place q b : ℕ) → q ≡ at + place → written_at offset next place (written_at offset first q b) ≡ written_at offset both q b
  second_byte place q b is = elim (cases_lt q offset) [
    | inl before ↦ byte_before offset next place (written_at offset first q b) (omega (arith, is, before)) ∙ byte_before offset first q b before ∙ sym (byte_before offset both q b before)
    | inr from ↦ elim (cases_lt place offset) [
      | inl early ↦ byte_before offset next place (written_at offset first q b) early
          ∙ byte_there offset first q b (q - offset) (omega (arith, from)) (omega (arith, from, early, is, first_long)) ∙ in_first (q - offset) (omega (arith, from, early, is))
          ∙ sym (byte_there offset both q b (q - offset) (omega (arith, from)) (omega (arith, from, early, is, both_long)))
      | inr late ↦ elim (cases_lt (place - offset) size) [
        | inl there ↦ byte_there offset next place (written_at offset first q b) (place - offset) (omega (arith, late)) (omega (arith, there, next_long)) ∙ in_next (place - offset) there
            ∙ sym (byte_there offset both q b (at + (place - offset)) (omega (arith, late, is)) (omega (arith, there, both_long)))
        | inr past ↦ byte_behind offset next place (written_at offset first q b) (omega (arith, late, past, next_long)) ∙ byte_behind offset first q b (omega (arith, late, is, first_long))
            ∙ sym (byte_behind offset both q b (omega (arith, late, past, is, both_long)))
      ]
    ]
  ]

  first_same : (place : ℕ) (block : List ℕ) → place + length block ≤ at → updated_from place offset first block ≡ updated_from place offset both block
  first_same place [] h = refl
  first_same place (b ∷ block) h = let here = first_byte place b (omega (arith, h)) in let rest = first_same (suc place) block (omega (arith, h)) in λ i. here i ∷ rest i

  second_same : (place q : ℕ) (block : List ℕ) → q ≡ at + place → updated_from place offset next (updated_from q offset first block) ≡ updated_from q offset both block
  second_same place q [] is = refl
  second_same place q (b ∷ block) is = let here = second_byte place q b is in let rest = second_same (suc place) (suc q) block (omega (arith, is)) in λ i. here i ∷ rest i

drop_updated : (n place q offset : ℕ) (bytes block : List ℕ) → q ≡ place + n → drop n (updated_from place offset bytes block) ≡ updated_from q offset bytes (drop n block)
drop_updated zero place q offset bytes block is = (let same : place ≡ q = omega (arith, is) in ap (λ p. updated_from p offset bytes block) same)
drop_updated (suc n) place q offset bytes [] is = refl
drop_updated (suc n) place q offset bytes (b ∷ block) is = drop_updated n (suc place) q offset bytes block (omega (arith, is))

take_updated : (n place offset : ℕ) (bytes block : List ℕ) → take n (updated_from place offset bytes block) ≡ updated_from place offset bytes (take n block)
take_updated zero place offset bytes block = refl
take_updated (suc n) place offset bytes [] = refl
take_updated (suc n) place offset bytes (b ∷ block) = ap (λ ys. written_at offset bytes place b ∷ ys) (take_updated n (suc place) offset bytes block)

length_take : (n : ℕ) (xs : List ℕ) → length (take n xs) ≤ n
length_take n xs = omega (arith, length-take n xs)

nothing_put : (place offset : ℕ) (block : List ℕ) → updated_from place offset [] block ≡ block
nothing_put place offset [] = refl
nothing_put place offset (b ∷ block) = let here = no_byte place offset b in let rest = nothing_put (suc place) offset block in λ i. here i ∷ rest i
  where
    no_byte : (place offset b : ℕ) → written_at offset [] place b ≡ b
    no_byte place offset b = elim (cases_lt place offset) [ inl before ↦ byte_before offset [] place b before | inr from ↦ byte_behind offset [] place b (omega (arith, from)) ]

pub no_bytes_put : (offset : ℕ) (block : List ℕ) → updated offset [] block ≡ block
no_bytes_put offset block = nothing_put 0 offset block

pub put_in_two : (offset at size : ℕ) (new block : List ℕ) → at + size ≤ length new
    → take at (updated offset (take at new) block) ++ updated offset (take size (drop at new)) (drop at (updated offset (take at new) block)) ≡ updated offset (take (at + size) new) block
unfolding first next both
put_in_two offset at size new block within =
    let f = first offset at size new within in
    let w = both offset at size new within in
    let front : take at (updated offset f block) ≡ take at (updated offset w block) =
    take_updated at 0 offset f block ∙ first_same offset at size new within 0 (take at block) (omega (arith, length_take at block)) ∙ sym (take_updated at 0 offset w block) in
    let back : updated offset (next offset at size new within) (drop at (updated offset f block)) ≡ drop at (updated offset w block) =
    ap (updated offset (next offset at size new within)) (drop_updated at 0 at offset f block (omega arith)) ∙ second_same offset at size new within 0 at (drop at block) (omega arith) ∙ sym (drop_updated at 0 at offset w block (omega arith)) in
    (λ i. front i ++ back i) ∙ take-append-drop at (updated offset w block)

-- ---- the first of one list and the rest of another

no_test : (i : ℕ) → nat_lt i 0 ≡ false
no_test i = grind (arith, nat_tests)

pub first_or_rest : (n i : ℕ) (xs ys : List ℕ) → length xs ≡ length ys → i < length ys → get_or (take n xs ++ drop n ys) i 0 ≡ (if nat_lt i n then get_or xs i 0 else get_or ys i 0)
first_or_rest zero i xs ys same less = (λ k. if sym (no_test i) k then get_or xs i 0 else get_or ys i 0)
first_or_rest (suc n) i [] [] same less = absurd (omega (arith, less))
first_or_rest (suc n) i [] (y ∷ ys) same less = absurd (omega (arith, same))
first_or_rest (suc n) i (x ∷ xs) [] same less = absurd (omega (arith, less))
first_or_rest (suc n) zero (x ∷ xs) (y ∷ ys) same less = (let yes : true ≡ nat_lt 0 (suc n) = grind (arith, nat_tests) in λ k. if yes k then x else y)
first_or_rest (suc n) (suc i) (x ∷ xs) (y ∷ ys) same less = first_or_rest n i xs ys (omega (arith, same)) (omega (arith, less)) ∙ (λ k. if sym (test_on i n) k then get_or xs i 0 else get_or ys i 0)

pub first_rest_size : (n : ℕ) (xs ys : List ℕ) → length xs ≡ length ys → length (take n xs ++ drop n ys) ≡ length ys
first_rest_size n xs ys same = omega (arith, length-append (take n xs) (drop n ys), length-take n xs, length-drop n ys, same)
