-- Literals of single bits that stand one behind the other, and a literal over them all.
use Rattle.std.proofs.Common.{◌≡◌, ℕ, ◌+◌, ◌<◌, ◌≤◌, Bool, true, ◌&&◌, ◌||◌, List, [], ◌∷◌, ◌++◌, length, get_or, map, inl, inr, refl, sym, ap, ◌∙◌, subst, arith}
use Rattle.std.specs.List.{list_all, list_any, AllByRecursion}
use Rattle.std.proofs.lemmas.List.{map-append, get_or_past}
use Rattle.std.proofs.lemmas.Bool.{cases_lt}
use Rattle.sat_form.specs.Satisfaction.{Literal, Form, literal_value, IsWithin, AreWithin}
use Rattle.sat_form.specs.Numbers.{bit_value, value_of}
use Rattle.sat_form.proofs.Within.{IsWithin-push, IsWithin-at}
use Rattle.word_dag.specs.declared.nodes.Quantifier.{Quantifier}
use Rattle.word_dag.specs.declared.nodes.Quantifier.TheVariants.{All, Any}
use Rattle.word_dag.specs.Meaning.{holds, places, at_places, quantified}
use Rattle.word_dag.proofs.Truth.{holds_bit}
use Rattle.word_dag.proofs.Places.{places_more, each_place, bits}
use Rattle.gate_bits.specs.Truth.{IsTruth, IsNumber}
use Rattle.bit_blast.specs.Numbers.{literals_at, numbers_of}
use Rattle.word_dag.specs.declared.nodes.Id.{Id}
use Rattle.word_dag.specs.declared.nodes.Node.{Node}
use Rattle.word_dag.specs.declared.nodes.Node.TheVariants.{Quantify}
use Rattle.word_dag.specs.Meaning.{node_width, node_value}
use Rattle.word_dag.specs.Fitting.{fits}
use Rattle.bit_blast.specs.Numbers.{counts_of, lifted}
use Rattle.bit_blast.proofs.Encoding.{literals_within, number_at, count_at, as_node}

-- the numbers of literals, each a bit
abbrev pub bits_of : List Literal → (ℕ → Bool) → List ℕ
bits_of literals x = map (λ l. bit_value (literal_value x l)) literals

-- ---- a literal over them all

all_bits : (x : ℕ → Bool) (ls : List Literal) → list_all (literal_value x) ls ≡ list_all holds (bits_of ls x)
all_bits x [] = refl
all_bits x (l ∷ ls) = λ k. sym (holds_bit (literal_value x l)) k && all_bits x ls k

any_bits : (x : ℕ → Bool) (ls : List Literal) → list_any (literal_value x) ls ≡ list_any holds (bits_of ls x)
any_bits x [] = refl
any_bits x (l ∷ ls) = λ k. sym (holds_bit (literal_value x l)) k || any_bits x ls k

one_number : (form : Form) (l : Literal) (r : List Literal) (truth : (ℕ → Bool) → Bool) (number : (ℕ → Bool) → ℕ) → IsTruth form l truth → r ≡ l ∷ [] → ((x : ℕ → Bool) → bit_value (truth x) ≡ number x) → IsNumber form 1 r number
one_number form l r truth number has is same = record {
  count = ap (λ (ls : List Literal). length ls) is;
  within = subst (IsWithin form.variables) (sym is) (has.within, tt);
  is = λ x all.
      let one : value_of (l ∷ []) x ≡ bit_value (literal_value x l) = omega arith in
      ap (λ (ls : List Literal). value_of ls x) is ∙ one ∙ ap bit_value (has.is x all) ∙ same x;
}

pub all_number : (form : Form) (q : Quantifier) (l : Literal) (ls r : List Literal) → q ≡ All → IsTruth form l (λ x. list_all (literal_value x) ls) → r ≡ l ∷ [] → IsNumber form 1 r (λ x. bit_value (quantified q (bits_of ls x)))
all_number form q l ls r which has is =
    one_number form l r (λ x. list_all (literal_value x) ls) (λ x. bit_value (quantified q (bits_of ls x))) has is (λ x. ap bit_value (all_bits x ls) ∙ (λ k. bit_value (quantified (sym which k) (bits_of ls x))))

pub any_number : (form : Form) (q : Quantifier) (l : Literal) (ls r : List Literal) → q ≡ Any → IsTruth form l (λ x. list_any (literal_value x) ls) → r ≡ l ∷ [] → IsNumber form 1 r (λ x. bit_value (quantified q (bits_of ls x)))
any_number form q l ls r which has is =
    one_number form l r (λ x. list_any (literal_value x) ls) (λ x. bit_value (quantified q (bits_of ls x))) has is (λ x. ap bit_value (any_bits x ls) ∙ (λ k. bit_value (quantified (sym which k) (bits_of ls x))))

-- ---- the literals of single bits

-- the literals so far
pub record Gathered (lists : List (List Literal)) (first at : ℕ) (literals : List Literal) : Type 0 where
  pub within : (n : ℕ) → AreWithin n lists → IsWithin n literals
  pub values : (x : ℕ → Bool) → bits_of literals x ≡ at_places (numbers_of lists x) (places first at)

pub gathered_none : (lists : List (List Literal)) (first : ℕ) (literals : List Literal) → literals ≡ [] → Gathered lists first 0 literals
gathered_none lists first literals is = subst (Gathered lists first 0) (sym is) (record { within = λ n h. tt; values = λ x. refl })

single : (x : ℕ → Bool) (ls : List Literal) (l : Literal) → length ls ≡ 1 → l ≡ get_or ls 0 l → bit_value (literal_value x l) ≡ value_of ls x
single x [] l one is = absurd (omega (arith, one))
single x (m ∷ []) l one is = ap (λ (k : Literal). bit_value (literal_value x k)) is ∙ omega arith
single x (m ∷ k ∷ ks) l one is = absurd (omega (arith, one))

pub gathered_more : (lists : List (List Literal)) (first at j : ℕ) (ls old new : List Literal) (l : Literal) → j ≡ first + at → ls ≡ literals_at lists j → length (literals_at lists (first + at)) ≡ 1 → l ≡ get_or ls 0 l → new ≡ old ++ l ∷ [] → Gathered lists first at old → Gathered lists first (at + 1) new
gathered_more lists first at j ls old new l place read one is pushed so =
    let here : ls ≡ literals_at lists (first + at) = read ∙ ap (literals_at lists) place in
    let short : length ls ≡ 1 = ap (λ (ms : List Literal). length ms) here ∙ one in
    subst (Gathered lists first (at + 1)) (sym pushed) (record {
      within = λ n h.
          let inside : IsWithin n ls = subst (IsWithin n) (sym here) (literals_within n lists (first + at) h) in
          IsWithin-push n old l (so.within n h) (subst (λ (m : Literal). m.variable < n) (sym is) (IsWithin-at n ls 0 l inside (omega (arith, short))));
      values = λ x.
          map-append (λ m. bit_value (literal_value x m)) old (l ∷ [])
          ∙ (λ k. so.values x k ++ (single x ls l short is ∙ ap (λ (ms : List Literal). value_of ms x) here ∙ sym (number_at lists x (first + at))) k ∷ [])
          ∙ sym (map-append (λ i. get_or (numbers_of lists x) i 0) (places first at) ((first + at) ∷ []))
          ∙ ap (at_places (numbers_of lists x)) (sym (places_more first at));
    })

-- widths of 1
pub ones_counted : (lists : List (List Literal)) (js : List ℕ) → AllByRecursion (λ j. get_or (map (λ (ls : List Literal). length ls) lists) j 0 ≡ 1) js → ((j : ℕ) → get_or (map (λ (ls : List Literal). length ls) lists) j 0 ≡ length (literals_at lists j)) → AllByRecursion (λ j. length (literals_at lists j) ≡ 1) js
ones_counted lists [] ones count = tt
ones_counted lists (j ∷ js) ones count = (sym (count j) ∙ ones.0, ones_counted lists js ones.1 count)

pub list_there : (lists : List (List Literal)) (first at count : ℕ) → at < count → AllByRecursion (λ j. length (literals_at lists j) ≡ 1) (places first count) → first + at < length lists
list_there lists first at count l ones = elim (cases_lt (first + at) (length lists)) [
  | inl inside ↦ inside
  | inr past ↦
      let none : literals_at lists (first + at) ≡ [] = get_or_past lists (first + at) [] past in
      absurd (omega (arith, each_place (λ j. length (literals_at lists j) ≡ 1) first count at l ones, ap (λ (ls : List Literal). length ls) none))
]

pub gathered_whole : (lists : List (List Literal)) (first at count : ℕ) (literals : List Literal) → count ≤ at → at ≤ count → Gathered lists first at literals → Gathered lists first count literals
gathered_whole lists first at count literals l m so = let e : at ≡ count = omega arith in subst (λ (n : ℕ). Gathered lists first n literals) e so

-- a number over literals that stand for the operands
pub quantified_number : (form : Form) (before variables : List (List Literal)) (n : Node) (q : Quantifier) (first : Id) (count : ℕ) (ls read r : List Literal) → n ≡ Quantify q first count → read ≡ ls → ((x : ℕ → Bool) → bits_of ls x ≡ at_places (numbers_of before x) (places first.index count))
    → IsNumber form 1 r (λ x. bit_value (quantified q (bits_of read x))) → IsNumber form (node_width (counts_of before) n) r (λ x. node_value (lifted variables x) (counts_of before) (numbers_of before x) n)
quantified_number form before variables n q first count ls read r which same values has =
    as_node form before variables r n (Quantify q first count) 1 (λ x. bit_value (quantified q (bits_of read x))) which has refl
    (λ x. (λ k. bit_value (quantified q (bits_of (same k) x))) ∙ (λ k. bit_value (quantified q (values x k))))

pub operands_ones : (before : List (List Literal)) (n : Node) (q : Quantifier) (first : Id) (count : ℕ) → n ≡ Quantify q first count → fits (counts_of before) n ≡ true → AllByRecursion (λ j. length (literals_at before j) ≡ 1) (places first.index count)
operands_ones before n q first count which fit =
    ones_counted before (places first.index count) (bits (counts_of before) first.index count (subst (λ (m : Node). fits (counts_of before) m ≡ true) which fit)).ones (λ j. count_at before j)

pub operands_within : (m : ℕ) (ls read : List Literal) → read ≡ ls → IsWithin m ls → IsWithin m read
operands_within m ls read same within = subst (IsWithin m) (sym same) within
