-- The step of one node.
use Rattle.std.proofs.Common.{◌≡◌, ℕ, zero, suc, ◌+◌, ◌<◌, ◌≤◌, ◌==◌, ◌&&◌, nat_lt, nat_le, Bool, true, false, List, [], ◌∷◌, ◌++◌, length, get_or, take, refl, sym, ◌∙◌, subst, arith}
use Rattle.std.specs.Bool.{MatchBool}
use Rattle.std.specs.List.{AllByRecursion}
use Rattle.std.proofs.lemmas.List.{length-take-le, length-map}
use Rattle.sat_form.specs.Satisfaction.{Literal, Form, AreWithin}
use Rattle.sat_form.proofs.Within.{AreWithin-weaker}
use Rattle.word_dag.specs.declared.nodes.Id.{Id}
use Rattle.word_dag.specs.declared.nodes.Node.{Node}
use Rattle.word_dag.specs.declared.nodes.Node.TheVariants.{Constant, Variable, Not, Negate, Binary, Shift, Compare, Fits, Choice, ZeroExtend, SignExtend, Cut, Join, Quantify}
use Rattle.word_dag.specs.Meaning.{places, node_width, node_value, widths}
use Rattle.word_dag.specs.Fitting.{are_alike, fits, is_ordered}
use Rattle.word_dag.proofs.Places.{ones_read}
use Rattle.word_dag.proofs.Folds.{length_widths, width-take}
use Rattle.word_dag.proofs.Order.{fits-at, width_is_final}
use Rattle.word_dag.proofs.Bounds.{width_is_range}
use Rattle.gate_bits.specs.Growth.{known_part}
use Rattle.gate_arith.specs.Growth.{Grows, added_to}
use Rattle.gate_bits.specs.Truth.{IsTruth, IsNumber}
use Rattle.gate_arith.proofs.Knowing.{IsTruth-known_later}
use Rattle.bit_blast.specs.Numbers.{literals_at, numbers_of, counts_of, lifted}
use Rattle.bit_blast.specs.Reach.{operands, node_at, AreMarks}
use Rattle.bit_blast.specs.Variables.{width_read, variable_width}
use Rattle.bit_blast.specs.Steps.{IsEncoded, IsSkipped, AreSteps}
use Rattle.bit_blast.proofs.Marked.{Marked, operands_earlier, each-both, each-all, each-weaker}
use Rattle.bit_blast.proofs.Reading.{SameAt, node_width-read, node_value-read}
use Rattle.bit_blast.proofs.Encoding.{count_at}
use Rattle.bit_blast.proofs.Laws.{Known, known, marked_operands}

-- ---- whether a node fits is read from its operands

alike_read : (ws us : List ℕ) (a b : Id) → length us ≡ length ws → get_or us a.index 0 ≡ get_or ws a.index 0 → get_or us b.index 0 ≡ get_or ws b.index 0 → are_alike us a b ≡ are_alike ws a b
alike_read ws us a b e p q = λ k. nat_lt a.index (e k) && nat_lt b.index (e k) && (p k == q k)

fits-read : (ws us : List ℕ) (n : Node) → length us ≡ length ws → SameAt ws us (operands n) → fits us n ≡ fits ws n
fits-read ws us (Constant bits w) e g = refl
fits-read ws us (Variable x w) e g = refl
fits-read ws us (Not a) e g = λ k. nat_lt a.index (e k)
fits-read ws us (Negate a) e g = λ k. nat_lt a.index (e k)
fits-read ws us (Binary o a b) e g = alike_read ws us a b e g.0 g.1.0
fits-read ws us (Shift s a count) e g = alike_read ws us a count e g.0 g.1.0
fits-read ws us (Compare c a b) e g = alike_read ws us a b e g.0 g.1.0
fits-read ws us (Fits t a b) e g = alike_read ws us a b e g.0 g.1.0
fits-read ws us (Choice c a b) e g = λ k. nat_lt c.index (e k) && (g.0 k == 1) && alike_read ws us a b e g.1.0 g.1.1.0 k
fits-read ws us (ZeroExtend a w) e g = λ k. nat_lt a.index (e k) && nat_le (g.0 k) w && nat_le w 64
fits-read ws us (SignExtend a w) e g = λ k. nat_lt a.index (e k) && nat_le (g.0 k) w && nat_le w 64
fits-read ws us (Cut a low w) e g = λ k. nat_lt a.index (e k) && nat_le 1 w && nat_le (low + w) (g.0 k)
fits-read ws us (Join high low) e g = λ k. nat_lt high.index (e k) && nat_lt low.index (e k) && nat_le (g.0 k + g.1.0 k) 64
fits-read ws us (Quantify q first count) e g = λ k. nat_le (first.index + count) (e k) && ones_read ws us (places first.index count) g k

-- ---- the variable of a node

read_width : (ns : List Node) (i k : ℕ) → i < length ns → width_read (node_at ns i) k ≤ variable_width ns k
read_width [] i k l = absurd (omega arith)
read_width (n ∷ ns) zero k l = omega arith
read_width (n ∷ ns) (suc i) k l = let h = read_width ns i k (omega arith) in omega (arith, h)

-- ---- the counts of the literals are the widths

counts_same : (ns : List Node) (goal : ℕ) (marks : List Bool) (variables : List (List Literal)) (first : Form) (k : ℕ) (form : Form) (literals : List (List Literal)) → is_ordered ns ≡ true → AreMarks ns goal marks → k < length ns → Marked marks k → Known ns marks variables first k form literals → SameAt (widths ns) (counts_of literals) (operands (node_at ns k))
counts_same ns goal marks variables first k form literals ordered are l m so =
    each-both (λ j. j < k) (Marked marks) (λ j. get_or (counts_of literals) j 0 ≡ get_or (widths ns) j 0) (λ j early on. count_at literals j ∙ so.wide j early on)
    (operands (node_at ns k)) (operands_earlier ns k ordered l) (marked_operands ns goal marks are k m)

-- ---- what the encoding of a node takes

pub record Ready (form : Form) (before variables : List (List Literal)) (n : Node) (one : Literal) : Type 0 where
  pub fitting : fits (counts_of before) n ≡ true
  pub positive : AllByRecursion (λ j. 1 ≤ length (literals_at before j)) (operands n)
  pub wide : (k : ℕ) → width_read n k ≤ length (literals_at variables k)
  pub before_within : AreWithin form.variables before
  pub variables_within : AreWithin form.variables variables
  pub one_is : IsTruth (known_part form) one (λ _. true)

pub ready : (ns : List Node) (goal : ℕ) (marks : List Bool) (variables : List (List Literal)) (first : Form) (k : ℕ) (form : Form) (literals : List (List Literal)) (one : Literal) → is_ordered ns ≡ true → AreMarks ns goal marks → k < length ns → Marked marks k → AreWithin first.variables variables → ((j : ℕ) → length (literals_at variables j) ≡ variable_width ns j) → IsTruth (known_part first) one (λ _. true) → AreSteps ns marks variables first k form literals → Ready form literals variables (node_at ns k) one
ready ns goal marks variables first k form literals one ordered are l m within wide has steps =
    let so : Known ns marks variables first k form literals = known ns goal marks variables first ordered are k form literals (omega arith) steps in
    let js : List ℕ = operands (node_at ns k) in
    let early : AllByRecursion (λ j. j < k) js = operands_earlier ns k ordered l in
    let same : SameAt (widths ns) (counts_of literals) js = counts_same ns goal marks variables first k form literals ordered are l m so in
    let front : AllByRecursion (λ j. get_or (widths ns) j 0 ≡ get_or (widths (take k ns)) j 0) js =
    each-weaker (λ j. j < k) (λ j. get_or (widths ns) j 0 ≡ get_or (widths (take k ns)) j 0) (λ j h. width-take ns k j h (omega arith)) js early in
    let both : SameAt (widths (take k ns)) (counts_of literals) js =
    each-both (λ j. get_or (counts_of literals) j 0 ≡ get_or (widths ns) j 0) (λ j. get_or (widths ns) j 0 ≡ get_or (widths (take k ns)) j 0) (λ j. get_or (counts_of literals) j 0 ≡ get_or (widths (take k ns)) j 0) (λ j p q. p ∙ q) js same front in
    let lengths : length (counts_of literals) ≡ length (widths (take k ns)) =
    length-map literals (λ ls. length ls) ∙ so.count ∙ sym (length_widths (take k ns) ∙ length-take-le k ns (omega arith)) in
    let id : ℕ → Id = λ j. record { index = j } in
    record {
      fitting = fits-read (widths (take k ns)) (counts_of literals) (node_at ns k) lengths both ∙ fits-at ns k (Constant 0 0) ordered l;
      positive = each-both (λ j. j < k) (λ j. get_or (counts_of literals) j 0 ≡ get_or (widths ns) j 0) (λ j. 1 ≤ length (literals_at literals j))
          (λ j h e. omega (arith, (width_is_range ns (id j) ordered (omega arith)).positive, sym (count_at literals j) ∙ e)) js early same;
      wide = λ j. omega (arith, read_width ns k j l, wide j);
      before_within = so.within;
      variables_within = AreWithin-weaker first.variables form.variables variables so.grows.variables within;
      one_is = IsTruth-known_later has so.grows;
    }

-- ---- one step more

pub encoded_more : (ns : List Node) (goal : ℕ) (marks : List Bool) (variables : List (List Literal)) (first : Form) (k : ℕ) (old form : Form) (before literals : List (List Literal)) (own : List Literal) → is_ordered ns ≡ true → AreMarks ns goal marks → k < length ns → Marked marks k → AreSteps ns marks variables first k old before → Grows old form → IsNumber (added_to old form) (node_width (counts_of before) (node_at ns k)) own (λ x. node_value (lifted variables x) (counts_of before) (numbers_of before x) (node_at ns k)) → literals ≡ before ++ own ∷ [] → AreSteps ns marks variables first (k + 1) form literals
encoded_more ns goal marks variables first k old form before literals own ordered are l m steps grows is e =
    let n : Node = node_at ns k in
    let P : Type 0 = IsEncoded (widths ns) variables before n old form own in
    let Q : Type 0 = IsSkipped old form own in
    let so : Known ns marks variables first k old before = known ns goal marks variables first ordered are k old before (omega arith) steps in
    let same : SameAt (widths ns) (counts_of before) (operands n) = counts_same ns goal marks variables first k old before ordered are l m so in
    let width : node_width (counts_of before) n ≡ node_width (widths ns) n = node_width-read (widths ns) (counts_of before) n same in
    let value : (x : ℕ → Bool) → node_value (lifted variables x) (counts_of before) (numbers_of before x) n ≡ node_value (lifted variables x) (widths ns) (numbers_of before x) n =
    λ x. node_value-read (lifted variables x) (widths ns) (numbers_of before x) (counts_of before) (numbers_of before x) n same
    (each-all (λ j. get_or (numbers_of before x) j 0 ≡ get_or (numbers_of before x) j 0) (λ j. refl) (operands n)) in
    let encoded : P = record {
      grows = grows;
      is = record { count = is.count ∙ width; within = is.within; is = λ x all. is.is x all ∙ value x };
    } in
    let q : suc k ≡ k + 1 = omega arith in
    let step : AreSteps ns marks variables first (suc k) form literals = record {
      old = old;
      before = before;
      own = own;
      earlier = steps;
      literals_are = e;
      step = subst (λ (b : Bool). MatchBool b P Q) (sym m) encoded;
    } in
    subst (λ (i : ℕ). AreSteps ns marks variables first i form literals) q step

pub encoded_short : (ns : List Node) (goal : ℕ) (marks : List Bool) (variables : List (List Literal)) (first : Form) (k : ℕ) (old form : Form) (before : List (List Literal)) (own : List Literal) → is_ordered ns ≡ true → AreMarks ns goal marks → k < length ns → Marked marks k → AreSteps ns marks variables first k old before → IsNumber (added_to old form) (node_width (counts_of before) (node_at ns k)) own (λ x. node_value (lifted variables x) (counts_of before) (numbers_of before x) (node_at ns k)) → length own ≤ 64
encoded_short ns goal marks variables first k old form before own ordered are l m steps is =
    let n : Node = node_at ns k in
    let so : Known ns marks variables first k old before = known ns goal marks variables first ordered are k old before (omega arith) steps in
    let same : SameAt (widths ns) (counts_of before) (operands n) = counts_same ns goal marks variables first k old before ordered are l m so in
    let width : length own ≡ get_or (widths ns) k 0 = is.count ∙ node_width-read (widths ns) (counts_of before) n same ∙ sym (width_is_final ns k (Constant 0 0) ordered l) in
    let id : Id = record { index = k } in
    omega (arith, width, (width_is_range ns id ordered l).at_most_64)

pub skipped_more : (ns : List Node) (marks : List Bool) (variables : List (List Literal)) (first : Form) (k : ℕ) (form : Form) (before literals : List (List Literal)) (own : List Literal) → get_or marks k false ≡ false → AreSteps ns marks variables first k form before → own ≡ [] → literals ≡ before ++ own ∷ [] → AreSteps ns marks variables first (k + 1) form literals
skipped_more ns marks variables first k form before literals own off steps none e =
    let P : Type 0 = IsEncoded (widths ns) variables before (node_at ns k) form form own in
    let Q : Type 0 = IsSkipped form form own in
    let q : suc k ≡ k + 1 = omega arith in
    let skip : Q = record { form = refl; literals = none } in
    let step : AreSteps ns marks variables first (suc k) form literals = record {
      old = form;
      before = before;
      own = own;
      earlier = steps;
      literals_are = e;
      step = subst (λ (b : Bool). MatchBool b P Q) (sym off) skip;
    } in
    subst (λ (i : ℕ). AreSteps ns marks variables first i form literals) q step
