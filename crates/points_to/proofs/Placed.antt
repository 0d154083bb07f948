-- The numbers of the objects of a store have object places: those of a first store, and those that Allocs gave.
use Rattle.std.proofs.Common.{◌≡◌, ◌<◌, ◌≤◌, ◌+◌, ◌-◌, ℕ, zero, suc, Bool, true, false, cond, List, [], ◌∷◌, ◌++◌, length, take, Option, Some, None, refl, sym, ◌∙◌, ap, subst, arith, append_assoc, inl, inr}
use Rattle.std.specs.Prelude.{◌⊎◌, ◌==◌, nat_le, slice_get, if◌then◌else◌}
use Rattle.std.proofs.lemmas.Bool.Decides.{nat_tests}
use Rattle.std.specs.Cmp.{ranked}
use Rattle.std.specs.Ordering.{nat_cmp, is_eq, match_ordering}
use Rattle.std.specs.declared.cmp.Ordering.{Ordering}
use Rattle.std.specs.declared.cmp.Ordering.TheVariants.{Less, Equal, Greater}
use Rattle.std.specs.BTreeMap.{is_at}
use Rattle.actions.specs.declared.action.Answer.{Answer}
use Rattle.actions.specs.declared.action.Answer.TheVariants as answers
use Rattle.actions.specs.StoredObject.{StoredObject}
use Rattle.actions.specs.Objects.{Objects, object_at, with_new, with_object, changed_to, changed_at}
use Rattle.goto_prog.specs.declared.code.Instruction.{Instruction}
use Rattle.goto_prog.specs.Allocations.{own_allocations, code_allocations}
use Rattle.goto_prog.specs.Flat.{Flat}
use Rattle.event_forms.specs.Accesses.{AreNumbered}
use Rattle.points_to.specs.Sets.{instructions_of, place_next, object_places, with_number, numbers_along, place_of_number, made_place, object_place}
use Rattle.points_to.proofs.Readings.{made_at, IsMade}

pub none_behind : {X : Type 0} (xs : List X) → xs ++ [] ≡ xs
none_behind [] = refl
none_behind (x ∷ xs) = ap (λ ys. x ∷ ys) (none_behind xs)

-- ---- what is true of the number of each object of a store

module _ (P : ℕ → Type 0) where
  abbrev pub Numbers : Objects → Type 0
  Numbers [] = Unit {0}
  Numbers (e ∷ objects) = P e.0 × Numbers objects

  set_by : (b : Bool) (e : ℕ × StoredObject) (objects rest : Objects) (o : StoredObject) → Numbers (e ∷ objects) → Numbers rest → Numbers (cond b ((e.0, o) ∷ objects) (e ∷ rest))
  set_by true e objects rest o h later = h
  set_by false e objects rest o h later = (h.0, later)

  set_numbers : (k : ℕ) (objects : Objects) (o : StoredObject) → Numbers objects → Numbers (with_object objects k o)
  set_numbers k [] o h = tt
  set_numbers k (e ∷ objects) o h = set_by (is_at (nat_cmp k) e.0) e objects (with_object objects k o) o h (set_numbers k objects o h.1)

  changed_by : (k : ℕ) (objects : Objects) (f : StoredObject → StoredObject) (found : Option StoredObject) → Numbers objects → Numbers (changed_to objects k f found)
  changed_by k objects f None h = h
  changed_by k objects f (Some o) h = set_numbers k objects (f o) h

  pub changed_numbers : (k : ℕ) (objects : Objects) (f : StoredObject → StoredObject) → Numbers objects → Numbers (changed_at objects k f)
  changed_numbers k objects f h = changed_by k objects f (object_at objects k) h

  new_by : (order : Ordering) (k : ℕ) (o : StoredObject) (e : ℕ × StoredObject) (objects rest : Objects) → P k → Numbers (e ∷ objects) → Numbers rest
      → Numbers (match_ordering order ((k, o) ∷ e ∷ objects) ((e.0, o) ∷ objects) (e ∷ rest))
  new_by Less k o e objects rest is h later = (is, h)
  new_by Equal k o e objects rest is h later = h
  new_by Greater k o e objects rest is h later = (h.0, later)

  pub new_numbers : (k : ℕ) (objects : Objects) (o : StoredObject) → P k → Numbers objects → Numbers (with_new objects k o)
  new_numbers k [] o is h = (is, tt)
  new_numbers k (e ∷ objects) o is h = new_by (nat_cmp k e.0) k o e objects (with_new objects k o) is h (new_numbers k objects o is h.1)

  same_number : (k n : ℕ) → is_at (nat_cmp k) n ≡ true → k ≡ n
  same_number k n h = by (nat_cmp k n) refl h
    where
      by : (order : Ordering) → order ≡ nat_cmp k n → is_eq order ≡ true → k ≡ n
      by Less e h = absurd (let wrong : false ≡ true = h in cc)
      by Equal e h = ranked k n Equal e
      by Greater e h = absurd (let wrong : false ≡ true = h in cc)

  found_by : (b : Bool) (k : ℕ) (e : ℕ × StoredObject) (found : Option StoredObject) (o : StoredObject) → is_at (nat_cmp k) e.0 ≡ b → P e.0 → (found ≡ Some o → P k) → cond b (Some e.1) found ≡ Some o → P k
  found_by true k e found o at is later h = subst P (sym (same_number k e.0 at)) is
  found_by false k e found o at is later h = later h

  pub number_of : (k : ℕ) (objects : Objects) (o : StoredObject) → Numbers objects → object_at objects k ≡ Some o → P k
  number_of k [] o all h = absurd (let wrong : None ≡ Some o = h in cc)
  number_of k (e ∷ objects) o all h = found_by (is_at (nat_cmp k) e.0) k e (object_at objects k) o refl all.0 (number_of k objects o all.1) h

pub numbers_map : (P Q : ℕ → Type 0) (objects : Objects) → ((k : ℕ) → P k → Q k) → Numbers P objects → Numbers Q objects
numbers_map P Q [] f h = tt
numbers_map P Q (e ∷ objects) f h = (f e.0 h.0, numbers_map P Q objects f h.1)

-- ---- numbers with the places that they were given at

kept_by : (b : Bool) (first old new : Option ℕ) (c : ℕ) → (old ≡ Some c → new ≡ Some c) → (if b then first else old) ≡ Some c → (if b then first else new) ≡ Some c
kept_by true first old new c later h = h
kept_by false first old new c later h = later h

pub number_kept : (k c : ℕ) (xs ys : List (ℕ × ℕ)) → place_of_number k xs ≡ Some c → place_of_number k (xs ++ ys) ≡ Some c
number_kept k c [] ys h = absurd (let wrong : None ≡ Some c = h in cc)
number_kept k c (x ∷ xs) ys h = kept_by (k == x.0) (Some x.1) (place_of_number k xs) (place_of_number k (xs ++ ys)) c (number_kept k c xs ys) h

number_itself : (n : ℕ) → (n == n) ≡ true
number_itself n = grind (arith, nat_tests)

last_by : (b : Bool) (first : ℕ) (later : Option ℕ) → (d : ℕ) × (later ≡ Some d) → (d : ℕ) × ((if b then Some first else later) ≡ Some d)
last_by true first later h = (first, refl)
last_by false first later h = h

-- a number that stands at the end has a place
pub number_last : (k c : ℕ) (xs : List (ℕ × ℕ)) → (d : ℕ) × (place_of_number k (xs ++ (k, c) ∷ []) ≡ Some d)
number_last k c [] = (c, ap (λ b. if b then Some c else None) (number_itself k))
number_last k c (x ∷ xs) = last_by (k == x.0) x.1 (place_of_number k (xs ++ (k, c) ∷ [])) (number_last k c xs)

module _ (u : Flat) where
  -- each of these places has an Alloc
  abbrev pub AreMade : List (ℕ × ℕ) → Type 0
  AreMade [] = Unit {0}
  AreMade (x ∷ xs) = (made_at (slice_get (instructions_of u) x.1) ≡ 1) × AreMade xs

  pub made_last : (k c : ℕ) (xs : List (ℕ × ℕ)) → made_at (slice_get (instructions_of u) c) ≡ 1 → AreMade xs → AreMade (xs ++ (k, c) ∷ [])
  made_last k c [] is h = (is, tt)
  made_last k c (x ∷ xs) is h = (h.0, made_last k c xs is h.1)

  made_by : (b : Bool) (first c : ℕ) (later : Option ℕ) → made_at (slice_get (instructions_of u) first) ≡ 1 → (later ≡ Some c → made_at (slice_get (instructions_of u) c) ≡ 1) → (if b then Some first else later) ≡ Some c
      → made_at (slice_get (instructions_of u) c) ≡ 1
  made_by true first c later is rest h = subst (λ (d : ℕ). made_at (slice_get (instructions_of u) d) ≡ 1) (let same : Some first ≡ Some c = h in cc) is
  made_by false first c later is rest h = rest h

  pub made_of_number : (k c : ℕ) (xs : List (ℕ × ℕ)) → AreMade xs → place_of_number k xs ≡ Some c → made_at (slice_get (instructions_of u) c) ≡ 1
  made_of_number k c [] all h = absurd (let wrong : None ≡ Some c = h in cc)
  made_of_number k c (x ∷ xs) all h = made_by (k == x.0) x.1 c (place_of_number k xs) all.0 (made_of_number k c xs all.1) h

  with_apart : (place : Option ℕ) (a : Answer) (later : List (ℕ × ℕ)) → with_number place a later ≡ with_number place a [] ++ later
  with_apart None answers.Done later = refl
  with_apart None (answers.Bytes bytes) later = refl
  with_apart None (answers.Size size) later = refl
  with_apart None (answers.Word w) later = refl
  with_apart None (answers.Number k) later = refl
  with_apart None (answers.Value v) later = refl
  with_apart (Some c) answers.Done later = refl
  with_apart (Some c) (answers.Bytes bytes) later = refl
  with_apart (Some c) (answers.Size size) later = refl
  with_apart (Some c) (answers.Word w) later = refl
  with_apart (Some c) (answers.Number k) later = refl
  with_apart (Some c) (answers.Value v) later = refl

  -- with one answer more
  pub numbers_more : (before given : List Answer) (a : Answer) → numbers_along u before (given ++ a ∷ []) ≡ numbers_along u before given ++ with_number (place_next u (before ++ given)) a []
  numbers_more before [] a = ap (λ (g : List Answer). with_number (place_next u g) a []) (sym (none_behind before))
  numbers_more before (x ∷ given) a =
      let front = with_number (place_next u before) x [] in
      let rest = numbers_along u (before ++ x ∷ []) given in
      let last = λ (g : List Answer). with_number (place_next u g) a [] in
      with_apart (place_next u before) x (numbers_along u (before ++ x ∷ []) (given ++ a ∷ []))
      ∙ ap (λ (ns : List (ℕ × ℕ)). front ++ ns) (numbers_more (before ++ x ∷ []) given a ∙ ap (λ (g : List Answer). rest ++ last g) (append_assoc before (x ∷ []) given))
      ∙ sym (append_assoc front rest (last (before ++ x ∷ given)))
      ∙ ap (λ (ns : List (ℕ × ℕ)). ns ++ last (before ++ x ∷ given)) (sym (with_apart (place_next u before) x rest))

  -- ---- after these answers

  -- a number of the first store, or one that was given
  abbrev pub IsPlaced : List Answer → ℕ → Type 0
  IsPlaced given k = ((1 ≤ k) × (k ≤ length u.store)) ⊎ ((c : ℕ) × (place_of_number k (numbers_along u [] given) ≡ Some c))

  pub record Good (given : List Answer) (objects : Objects) : Type 0 where
    pub numbers : Numbers (IsPlaced given) objects
    pub made : AreMade (numbers_along u [] given)

  -- ---- a place of the code that has an Alloc has an object place

  fewer : (c : ℕ) (code : List Instruction) → made_at (slice_get code c) ≡ 1 → code_allocations (take c code) < code_allocations code
  fewer zero [] h = absurd (let wrong : 0 ≡ 1 = h in cc)
  fewer (suc c) [] h = absurd (let wrong : 0 ≡ 1 = h in cc)
  fewer zero (i ∷ code) h = let one : own_allocations i.operation ≡ 1 = h in omega (arith, one)
  fewer (suc c) (i ∷ code) h = let later = fewer c code h in omega (arith, later)

  pub record HasPlace (given : List Answer) (k : ℕ) : Type 0 where
    pub place : ℕ
    pub is : object_place u given k ≡ Some place
    pub below : place < object_places u

  pub placed : (given : List Answer) (objects : Objects) (k : ℕ) → Good given objects → IsPlaced given k → HasPlace given k
  placed given objects k good is = by (nat_le k (length u.store)) refl is
    where
      code : List Instruction
      code = instructions_of u

      low : (n more : ℕ) → 1 ≤ k → k ≤ n → k - 1 < n + more
      low n more one most = omega (arith, one, most)

      some : (n less more : ℕ) → k ≤ n → less < more → k - 1 < n + more
      some n less more most h = omega (arith, most, h)

      high : (n less more : ℕ) → less < more → n + less < n + more
      high n less more h = omega (arith, h)

      at_most : (n : ℕ) → nat_le k n ≡ true → k ≤ n
      at_most n h = grind (arith, nat_tests)

      not_above : (n : ℕ) → nat_le k n ≡ false → k ≤ n → ⊥
      not_above n h le = grind (arith, nat_tests)

      by : (b : Bool) → nat_le k (length u.store) ≡ b → IsPlaced given k → HasPlace given k
      by true test (inl h) = record { place = k - 1; is = ap (λ b. if b then Some (k - 1) else made_place u (place_of_number k (numbers_along u [] given))) test; below = low (length u.store) (code_allocations code) h.0 h.1 }
      by true test (inr h) =
          let less = fewer h.0 code (made_of_number k h.0 (numbers_along u [] given) good.made h.1) in
          record { place = k - 1; is = ap (λ b. if b then Some (k - 1) else made_place u (place_of_number k (numbers_along u [] given))) test; below = some (length u.store) (code_allocations (take h.0 code)) (code_allocations code) (at_most (length u.store) test) less }
      by false test (inl h) = absurd (not_above (length u.store) test h.1)
      by false test (inr h) =
          let less = fewer h.0 code (made_of_number k h.0 (numbers_along u [] given) good.made h.1) in
          record {
            place = length u.store + code_allocations (take h.0 code);
            is = ap (λ b. if b then Some (k - 1) else made_place u (place_of_number k (numbers_along u [] given))) test ∙ ap (made_place u) h.1;
            below = high (length u.store) (code_allocations (take h.0 code)) (code_allocations code) less;
          }

  -- ---- one answer more

  -- it gives no number
  abbrev pub IsOther : Answer → Type 0
  IsOther answers.Done = Unit {0}
  IsOther (answers.Bytes bytes) = Unit {0}
  IsOther (answers.Size size) = Unit {0}
  IsOther (answers.Word w) = Unit {0}
  IsOther (answers.Number k) = ⊥
  IsOther (answers.Value v) = Unit {0}

  other_numbers : (place : Option ℕ) (a : Answer) → IsOther a → with_number place a [] ≡ []
  other_numbers None answers.Done is = refl
  other_numbers None (answers.Bytes bytes) is = refl
  other_numbers None (answers.Size size) is = refl
  other_numbers None (answers.Word w) is = refl
  other_numbers None (answers.Number k) is = refl
  other_numbers None (answers.Value v) is = refl
  other_numbers (Some c) answers.Done is = refl
  other_numbers (Some c) (answers.Bytes bytes) is = refl
  other_numbers (Some c) (answers.Size size) is = refl
  other_numbers (Some c) (answers.Word w) is = refl
  other_numbers (Some c) (answers.Number k) is = absurd is
  other_numbers (Some c) (answers.Value v) is = refl

  module _ (given : List Answer) (a : Answer) where
    abbrev old : List (ℕ × ℕ)
    old = numbers_along u [] given

    abbrev new : List (ℕ × ℕ)
    new = numbers_along u [] (given ++ a ∷ [])

    keeps_placed : (last : List (ℕ × ℕ)) → new ≡ old ++ last → (k : ℕ) → IsPlaced given k → IsPlaced (given ++ a ∷ []) k
    keeps_placed last is k (inl h) = inl h
    keeps_placed last is k (inr h) = inr (h.0, ap (place_of_number k) is ∙ number_kept k h.0 old last h.1)

    pub other_good : IsOther a → (objects : Objects) → Good given objects → Good (given ++ a ∷ []) objects
    other_good is objects good =
        let same : new ≡ old ++ [] = numbers_more [] given a ∙ ap (λ (ns : List (ℕ × ℕ)). old ++ ns) (other_numbers (place_next u given) a is) in
        record {
          numbers = numbers_map (IsPlaced given) (IsPlaced (given ++ a ∷ [])) objects (keeps_placed [] same) good.numbers;
          made = subst AreMade (sym (same ∙ none_behind old)) good.made;
        }

  -- an object is made
  pub new_good : (given : List Answer) (k : ℕ) (objects : Objects) (o : StoredObject) → IsMade (instructions_of u) (place_next u given) → Good given objects → Good (given ++ answers.Number k ∷ []) (with_new objects k o)
  new_good given k objects o at good =
      let numbers = numbers_along u [] given in
      let later = given ++ answers.Number k ∷ [] in
      let same : numbers_along u [] later ≡ numbers ++ (k, at.0) ∷ [] = numbers_more [] given (answers.Number k) ∙ ap (λ (place : Option ℕ). numbers ++ with_number place (answers.Number k) []) at.1 in
      let last = number_last k at.0 numbers in
      record {
        numbers = new_numbers (IsPlaced later) k objects o (inr (last.0, ap (place_of_number k) same ∙ last.1))
            (numbers_map (IsPlaced given) (IsPlaced later) objects (keeps_placed given (answers.Number k) ((k, at.0) ∷ []) same) good.numbers);
        made = subst AreMade (sym same) (made_last k at.0 numbers at.2 good.made);
      }

  pub changed_good : (given : List Answer) (k : ℕ) (objects : Objects) (f : StoredObject → StoredObject) → Good given objects → Good given (changed_at objects k f)
  changed_good given k objects f good = record { numbers = changed_numbers (IsPlaced given) k objects f good.numbers; made = good.made }

  -- ---- at the start

  numbered : (number : ℕ) (objects : Objects) → AreNumbered number objects → 1 ≤ number → number + length objects ≤ suc (length u.store) → Numbers (IsPlaced []) objects
  numbered number [] h one most = tt
  numbered number (e ∷ objects) h one most =
      let first = h.0 in
      (inl (omega (arith, first, one), omega (arith, first, most)), numbered (suc number) objects h.1 (omega arith) (omega (arith, most)))

  pub first_good : AreNumbered 1 u.store → Good [] u.store
  first_good h = record { numbers = numbered 1 u.store h (omega arith) (omega arith); made = tt }
