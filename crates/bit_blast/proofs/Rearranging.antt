-- Numbers of literals that are cut, joined and extended.
use Rattle.std.proofs.Common.{◌≡◌, ℕ, zero, suc, ◌+◌, ◌-◌, ◌*◌, ◌/◌, ◌%◌, ◌^◌, ◌<◌, ◌≤◌, nat_eq, Bool, true, false, not, ◌||◌, List, [], ◌∷◌, ◌++◌, length, get_or, take, drop, refl, sym, ap, ◌∙◌, subst, arith, inl, inr}
use Rattle.std.specs.Prelude.{if◌then◌else◌}
use Rattle.std.proofs.Math.ListN.{replicate}
use Rattle.std.proofs.lemmas.Bool.{cases_Bool}
use Rattle.std.proofs.lemmas.Bool.Decides.{nat_tests}
use Rattle.std.proofs.lemmas.List.{take-append-drop, take_more, take_all, length-take-le, length_push, length-append, length-replicate, length-drop}
use Rattle.std.proofs.lemmas.Nat.{pow-add, mod-mul-add, div-mul-add}
use Rattle.words.specs.Operators.{low_bits, logical_shift, sign_extension}
use Rattle.words.proofs.Widths.{sign_extension_low, sign_extension_high}
use Rattle.sat_form.specs.Satisfaction.{Literal, Form, literal_value, inverse_of, clause_value, Satisfies, IsWithin, AgreeBelow}
use Rattle.sat_form.specs.Numbers.{bit_value, value_of}
use Rattle.sat_form.proofs.Truth.{AgreeBelow-refl, Satisfies-push, literal_value-inverse_of}
use Rattle.sat_form.proofs.Within.{IsWithin-append, IsWithin-push, IsWithin-at}
use Rattle.sat_form.proofs.Numbering.{value_of-append, value_of-below}
use Rattle.word_dag.specs.Meaning.{joined}
use Rattle.gate_bits.specs.Growth.{known_clauses, known_part}
use Rattle.gate_arith.specs.Growth.{Grows}
use Rattle.gate_bits.specs.Truth.{IsTruth, IsNumber}
use Rattle.gate_arith.proofs.Knowing.{known-holds}

one_bit : (b : Bool) → bit_value b + 2 * 0 ≡ bit_value b
one_bit true = refl
one_bit false = refl

-- ---- one literal said once more

pub grows_state : (f g : Form) (one : Literal) → IsTruth (known_part f) one (λ _. true) → g ≡ record f { clauses = f.clauses ++ (one ∷ []) ∷ [] } → Grows f g
grows_state f g one has e =
    let clauses : g.clauses ≡ f.clauses ++ (one ∷ []) ∷ [] = ap (λ (h : Form). h.clauses) e in
    let variables : g.variables ≡ f.variables = ap (λ (h : Form). h.variables) e in
    let on : (x : ℕ → Bool) → Satisfies x (known_clauses f.clauses) → clause_value x (one ∷ []) ≡ true = λ x all. ap (λ (b : Bool). b || false) (has.is x all) in
    record {
      added = (one ∷ []) ∷ [];
      clauses = clauses;
      variables = omega (arith, variables);
      within = ((omega (arith, has.within, variables), tt), tt);
      extends = λ x all. (x, AgreeBelow-refl f.variables x, subst (Satisfies x) (sym clauses) (Satisfies-push x f.clauses (one ∷ []) all (on x (known-holds x f.clauses all))));
      freely = λ x all. (x, AgreeBelow-refl f.variables x, Satisfies-push x (known_clauses f.clauses) (one ∷ []) all (on x all));
      determined = λ x y agree first second. subst (λ (n : ℕ). AgreeBelow n x y) (sym variables) agree;
    }

-- ---- the bits of a number

-- the literals have the lowest i bits of the number, and the rest is above them
pub record NumberTo (bits i rest : ℕ) (one : Literal) (ls : List Literal) : Type 0 where
  pub count : length ls ≡ i
  pub within : (n : ℕ) → one.variable < n → IsWithin n ls
  pub is : (x : ℕ → Bool) → literal_value x one ≡ true → value_of ls x + 2 ^ i * rest ≡ bits

pub NumberTo-none : (bits : ℕ) (one : Literal) → NumberTo bits 0 bits one []
NumberTo-none bits one = record { count = refl; within = λ n l. tt; is = λ x h. omega arith }

known_value : (b : Bool) (one : Literal) (x : ℕ → Bool) → literal_value x one ≡ true → literal_value x (if b then one else inverse_of one) ≡ b
known_value true one x h = h
known_value false one x h = literal_value-inverse_of x one ∙ ap not h

known_variable : (b : Bool) (one : Literal) (n : ℕ) → one.variable < n → (if b then one else inverse_of one).variable < n
known_variable true one n h = h
known_variable false one n h = h

lowest : (m : ℕ) → bit_value (nat_eq (m % 2) 1) ≡ m % 2
lowest m = grind (arith, nat_tests)

number_step : (v p b rest bits q : ℕ) → v + p * rest ≡ bits → b ≡ rest % 2 → q ≡ 2 * p → (v + p * b) + q * (rest / 2) ≡ bits
number_step v p b rest bits q h e f =
    let d : b + 2 * (rest / 2) ≡ rest = omega arith in
    rw (f, ← h) (grind (arith, ap (λ (n : ℕ). p * n) d))

pub NumberTo-more : (bits i rest : ℕ) (one l : Literal) (ls new : List Literal) → NumberTo bits i rest one ls → l ≡ (if nat_eq (rest % 2) 1 then one else inverse_of one) → new ≡ ls ++ l ∷ [] → NumberTo bits (i + 1) (rest / 2) one new
NumberTo-more bits i rest one l ls new so e f =
    let b : Bool = nat_eq (rest % 2) 1 in
    let k : Literal = (if b then one else inverse_of one) in
    let g : new ≡ ls ++ k ∷ [] = f ∙ ap (λ (m : Literal). ls ++ m ∷ []) e in
    let q : 2 ^ (i + 1) ≡ 2 * 2 ^ i = omega (arith, pow-add 2 i 1) in
    record {
      count = ap (λ (ts : List Literal). length ts) g ∙ length_push ls k ∙ omega (arith, so.count);
      within = λ n h. subst (IsWithin n) (sym g) (IsWithin-push n ls k (so.within n h) (known_variable b one n h));
      is = λ x h.
          let v : value_of new x ≡ value_of ls x + 2 ^ i * (rest % 2) =
          ap (λ (ts : List Literal). value_of ts x) g ∙ value_of-append x ls (k ∷ [])
          ∙ (λ j. value_of ls x + 2 ^ so.count j * (bit_value (known_value b one x h j) + 2 * 0)) ∙ (λ j. value_of ls x + 2 ^ i * (one_bit b ∙ lowest rest) j) in
          ap (λ (m : ℕ). m + 2 ^ (i + 1) * (rest / 2)) v ∙ number_step (value_of ls x) (2 ^ i) (rest % 2) rest bits (2 ^ (i + 1)) (so.is x h) refl q;
    }

no_rest : (v p rest bits : ℕ) → v + p * rest ≡ bits → bits < p → v ≡ bits
no_rest v p zero bits h l = omega arith
no_rest v p (suc rest) bits h l = let e : p * suc rest ≡ p * rest + p = grind arith in absurd (omega (arith, e))

pub NumberTo-all : (bits width i rest : ℕ) (one : Literal) (ls r : List Literal) → NumberTo bits i rest one ls → width ≤ i → i ≤ width → bits < 2 ^ width → r ≡ ls → (form : Form) → IsTruth form one (λ _. true) → IsNumber form width r (λ _. bits)
NumberTo-all bits width i rest one ls r so l m below e form has =
    let q : i ≡ width = omega arith in
    record {
      count = ap (λ (ts : List Literal). length ts) e ∙ so.count ∙ q;
      within = subst (IsWithin form.variables) (sym e) (so.within form.variables has.within);
      is = λ x all. ap (λ (ts : List Literal). value_of ts x) e ∙ no_rest (value_of ls x) (2 ^ i) rest bits (so.is x (has.is x all)) (subst (λ (w : ℕ). bits < 2 ^ w) (sym q) below);
    }

-- ---- copies

pub value_of-falses : (x : ℕ → Bool) (n : ℕ) (l : Literal) → literal_value x l ≡ false → value_of (replicate n l) x ≡ 0
value_of-falses x zero l h = refl
value_of-falses x (suc n) l h = (λ k. bit_value (h k) + 2 * value_of-falses x n l h k)

pub value_of-trues : (x : ℕ → Bool) (n : ℕ) (l : Literal) → literal_value x l ≡ true → value_of (replicate n l) x + 1 ≡ 2 ^ n
value_of-trues x zero l h = omega arith
value_of-trues x (suc n) l h =
    (λ k. bit_value (h k) + 2 * value_of (replicate n l) x + 1) ∙ omega (arith, value_of-trues x n l h, pow-add 2 n 1)

IsWithin-replicate : (m n : ℕ) (l : Literal) → l.variable < m → IsWithin m (replicate n l)
IsWithin-replicate m zero l h = tt
IsWithin-replicate m (suc n) l h = (h, IsWithin-replicate m n l h)

pub padded_count : (a r : List Literal) (n width : ℕ) (l : Literal) → length a + n ≡ width → r ≡ a ++ replicate n l → length r ≡ width
padded_count a r n width l e f = ap (λ (ts : List Literal). length ts) f ∙ length-append a (replicate n l) ∙ omega (arith, length-replicate n l, e)

pub zeros_above : (form : Form) (a r : List Literal) (n width : ℕ) (one zero' : Literal) → IsWithin form.variables a → IsTruth form one (λ _. true) → zero' ≡ inverse_of one → length a + n ≡ width → r ≡ a ++ replicate n zero' → IsNumber form width r (λ x. value_of a x)
zeros_above form a r n width one z within has e f g = record {
  count = padded_count a r n width z f g;
  within = subst (IsWithin form.variables) (sym g) (IsWithin-append form.variables a (replicate n z) within (IsWithin-replicate form.variables n z (subst (λ (l : Literal). l.variable < form.variables) (sym e) has.within)));
  is = λ x all.
      let off : literal_value x z ≡ false = ap (literal_value x) e ∙ literal_value-inverse_of x one ∙ ap not (has.is x all) in
      ap (λ (ts : List Literal). value_of ts x) g ∙ value_of-append x a (replicate n z) ∙ (λ k. value_of a x + 2 ^ length a * value_of-falses x n z off k) ∙ omega arith;
}

-- ---- the sign

-- the literals up to the last, and the last
pub last_apart : (ls : List Literal) (top : Literal) → 1 ≤ length ls → top ≡ get_or ls (length ls - 1) top → ls ≡ take (length ls - 1) ls ++ top ∷ []
last_apart ls top l e =
    let q : length ls - 1 + 1 ≡ length ls = omega arith in
    sym (take_all (length ls) ls (omega arith)) ∙ (λ k. take (sym q k) ls) ∙ take_more ls (length ls - 1) top (omega arith) ∙ (λ k. take (length ls - 1) ls ++ sym e k ∷ [])

pub last_within : (n : ℕ) (ls : List Literal) (top : Literal) → 1 ≤ length ls → top ≡ get_or ls (length ls - 1) top → IsWithin n ls → top.variable < n
last_within n ls top l e within = subst (λ (t : Literal). t.variable < n) (sym e) (IsWithin-at n ls (length ls - 1) top within (omega arith))

sign_parts : (x : ℕ → Bool) (ls : List Literal) (top : Literal) → 1 ≤ length ls → top ≡ get_or ls (length ls - 1) top → (low : ℕ) × (low < 2 ^ (length ls - 1)) × (value_of ls x ≡ low + 2 ^ (length ls - 1) * bit_value (literal_value x top))
sign_parts x ls top l e =
    let low : List Literal = take (length ls - 1) ls in
    let n : length low ≡ length ls - 1 = length-take-le (length ls - 1) ls (omega arith) in (
      value_of low x,
      subst (λ (m : ℕ). value_of low x < 2 ^ m) n (value_of-below x low),
      ap (λ (ts : List Literal). value_of ts x) (last_apart ls top l e) ∙ value_of-append x low (top ∷ []) ∙ (λ k. value_of low x + 2 ^ n k * (bit_value (literal_value x top) + 2 * 0)) ∙ (λ k. value_of low x + 2 ^ (length ls - 1) * one_bit (literal_value x top) k),
    )

extend_high : (a p q m s : ℕ) → m + 1 ≡ q → s ≡ p * q → a + p * m ≡ a + (s - p)
extend_high a p q m s e f =
    let g : p * (m + 1) ≡ p * m + p = grind arith in
    omega (arith, f, ap (λ (n : ℕ). p * n) e, g)

sign_value : (x : ℕ → Bool) (a : List Literal) (n width : ℕ) (top : Literal) → 1 ≤ length a → top ≡ get_or a (length a - 1) top → length a + n ≡ width → value_of a x + 2 ^ length a * value_of (replicate n top) x ≡ sign_extension (length a) width (value_of a x)
sign_value x a n width top l e f =
    let parts = sign_parts x a top l e in
    let p : ℕ = 2 ^ (length a - 1) in
    let below : value_of a x < 2 ^ length a = value_of-below x a in
    elim (cases_Bool (literal_value x top)) [
      | inl on ↦
          let v : value_of a x ≡ parts.0 + p * 1 = parts.2 ∙ (λ k. parts.0 + p * bit_value (on k)) in
          let s : 2 ^ width ≡ 2 ^ length a * 2 ^ n = (λ k. 2 ^ (sym f k)) ∙ pow-add 2 (length a) n in
          extend_high (value_of a x) (2 ^ length a) (2 ^ n) (value_of (replicate n top) x) (2 ^ width) (value_of-trues x n top on) s
          ∙ sym (sign_extension_high (length a) width (value_of a x) (omega arith) (omega (arith, v)) below)
      | inr off ↦
          let v : value_of a x ≡ parts.0 + p * 0 = parts.2 ∙ (λ k. parts.0 + p * bit_value (off k)) in
          (λ k. value_of a x + 2 ^ length a * value_of-falses x n top off k) ∙ omega arith
          ∙ sym (sign_extension_low (length a) width (value_of a x) (omega arith) (omega (arith, v, parts.1)))
    ]

pub signs_above : (form : Form) (a r : List Literal) (n width : ℕ) (top : Literal) → IsWithin form.variables a → 1 ≤ length a → top ≡ get_or a (length a - 1) top → length a + n ≡ width → r ≡ a ++ replicate n top → IsNumber form width r (λ x. sign_extension (length a) width (value_of a x))
signs_above form a r n width top within l e f g = record {
  count = padded_count a r n width top f g;
  within = subst (IsWithin form.variables) (sym g) (IsWithin-append form.variables a (replicate n top) within (IsWithin-replicate form.variables n top (last_within form.variables a top l e within)));
  is = λ x all. ap (λ (ts : List Literal). value_of ts x) g ∙ value_of-append x a (replicate n top) ∙ sign_value x a n width top l e f;
}

-- ---- parts

IsWithin-take : (m n : ℕ) (ls : List Literal) → IsWithin m ls → IsWithin m (take n ls)
IsWithin-take m zero ls h = tt
IsWithin-take m (suc n) [] h = tt
IsWithin-take m (suc n) (l ∷ ls) h = (h.0, IsWithin-take m n ls h.1)

IsWithin-drop : (m n : ℕ) (ls : List Literal) → IsWithin m ls → IsWithin m (drop n ls)
IsWithin-drop m zero ls h = h
IsWithin-drop m (suc n) [] h = tt
IsWithin-drop m (suc n) (l ∷ ls) h = IsWithin-drop m n ls h.1

split_at : (x : ℕ → Bool) (n : ℕ) (ls : List Literal) → n ≤ length ls → value_of ls x ≡ value_of (drop n ls) x * 2 ^ n + value_of (take n ls) x
split_at x n ls l =
    let m : length (take n ls) ≡ n = length-take-le n ls l in
    ap (λ (ts : List Literal). value_of ts x) (sym (take-append-drop n ls)) ∙ value_of-append x (take n ls) (drop n ls) ∙ (λ k. value_of (take n ls) x + 2 ^ m k * value_of (drop n ls) x) ∙ grind arith

take_below : (x : ℕ → Bool) (n : ℕ) (ls : List Literal) → n ≤ length ls → value_of (take n ls) x < 2 ^ n
take_below x n ls l = subst (λ (m : ℕ). value_of (take n ls) x < 2 ^ m) (length-take-le n ls l) (value_of-below x (take n ls))

pub value_of-take : (x : ℕ → Bool) (n : ℕ) (ls : List Literal) → n ≤ length ls → value_of (take n ls) x ≡ value_of ls x % 2 ^ n
value_of-take x n ls l = sym (mod-mul-add (value_of (drop n ls) x) (2 ^ n) (value_of (take n ls) x) (take_below x n ls l)) ∙ sym (ap (λ (m : ℕ). m % 2 ^ n) (split_at x n ls l))

pub value_of-drop : (x : ℕ → Bool) (n : ℕ) (ls : List Literal) → n ≤ length ls → value_of (drop n ls) x ≡ value_of ls x / 2 ^ n
value_of-drop x n ls l = sym (div-mul-add (value_of (drop n ls) x) (2 ^ n) (value_of (take n ls) x) (take_below x n ls l)) ∙ sym (ap (λ (m : ℕ). m / 2 ^ n) (split_at x n ls l))

pub cut_is : (form : Form) (a r : List Literal) (low last width : ℕ) → IsWithin form.variables a → low + width ≤ length a → last ≡ low + width → r ≡ take (last - low) (drop low a) → IsNumber form width r (λ x. low_bits width (logical_shift (value_of a x) low))
unfolding low_bits logical_shift
cut_is form a r low last width within l e f =
    let q : last - low ≡ width = omega arith in
    let g : r ≡ take width (drop low a) = f ∙ (λ k. take (q k) (drop low a)) in
    let m : width ≤ length (drop low a) = omega (arith, length-drop low a) in
    record {
      count = ap (λ (ts : List Literal). length ts) g ∙ length-take-le width (drop low a) m;
      within = subst (IsWithin form.variables) (sym g) (IsWithin-take form.variables width (drop low a) (IsWithin-drop form.variables low a within));
      is = λ x all. ap (λ (ts : List Literal). value_of ts x) g ∙ value_of-take x width (drop low a) m ∙ (λ k. value_of-drop x low a (omega arith) k % 2 ^ width);
    }

pub join_is : (form : Form) (high low r : List Literal) → IsWithin form.variables high → IsWithin form.variables low → r ≡ low ++ high → IsNumber form (length high + length low) r (λ x. joined (length low) (value_of high x) (value_of low x))
join_is form high low r first second e = record {
  count = ap (λ (ts : List Literal). length ts) e ∙ length-append low high ∙ omega arith;
  within = subst (IsWithin form.variables) (sym e) (IsWithin-append form.variables low high second first);
  is = λ x all. ap (λ (ts : List Literal). value_of ts x) e ∙ value_of-append x low high ∙ grind arith;
}

pub appended_twice : (start once twice first second : List Literal) → start ≡ [] → once ≡ start ++ first → twice ≡ once ++ second → twice ≡ first ++ second
appended_twice start once twice first second e f g = g ∙ ap (λ (ts : List Literal). ts ++ second) (f ∙ ap (λ (ts : List Literal). ts ++ first) e)
