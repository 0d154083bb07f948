-- The form of a graph's goal has a model for each valuation that makes the goal true, and for no other.
use Rattle.std.proofs.Common.{◌≡◌, ℕ, ◌+◌, ◌*◌, ◌%◌, ◌^◌, ◌<◌, ◌≤◌, Bool, true, false, ◌||◌, List, [], ◌∷◌, ◌++◌, length, get_or, drop, below_more, refl, sym, ap, ◌∙◌, subst, arith, inl, inr}
use Rattle.std.proofs.Math.Nat.{pow-le-pow_right}
use Rattle.std.proofs.lemmas.Bool.{cases_lt, false≢true, and_from}
use Rattle.std.proofs.lemmas.List.{get_or_past, get_or_push, get_or_append_left, length_push, length-drop, at_drop_more}
use Rattle.words.specs.Operators.{low_bits}
use Rattle.sat_form.specs.Satisfaction.{Literal, Form, literal_value, clause_value, Satisfies, IsWithin, AreWithin, AgreeBelow}
use Rattle.sat_form.specs.Numbers.{bit_value, value_of}
use Rattle.sat_form.proofs.Truth.{Satisfies-front, Satisfies-push, clause_value-last, AgreeBelow-sym}
use Rattle.sat_form.proofs.Within.{AreWithin-at}
use Rattle.sat_form.proofs.Numbering.{value_of-below, value_of-agree}
use Rattle.word_dag.specs.declared.nodes.Id.{Id}
use Rattle.word_dag.specs.declared.nodes.Node.{Node}
use Rattle.word_dag.specs.Meaning.{values, width, value, valuation_of}
use Rattle.word_dag.specs.Growth.{Within}
use Rattle.word_dag.specs.Fitting.{is_ordered}
use Rattle.bit_blast.specs.Numbers.{literals_at, lifted}
use Rattle.bit_blast.specs.Variables.{variable_width, IsBeginning, Spells}
use Rattle.bit_blast.specs.Reach.{AreMarks}
use Rattle.bit_blast.specs.Steps.{AreSteps, IsBlasted}
use Rattle.bit_blast.proofs.Encoding.{literals_within}
use Rattle.bit_blast.proofs.Consecutive.{AreConsecutive-within}
use Rattle.bit_blast.proofs.Reading.{values-low}
use Rattle.bit_blast.proofs.Spelling.{spell}
use Rattle.bit_blast.proofs.Laws.{Known, known}

-- ---- one literal

literal_of_one : (b : Bool) → bit_value b + 2 * 0 ≡ 1 → (b || false) ≡ true
literal_of_one true e = refl
literal_of_one false e = absurd (omega arith)

one_of_literal : (b : Bool) → (b || false) ≡ true → bit_value b + 2 * 0 ≡ 1
one_of_literal true h = refl
one_of_literal false h = absurd (false≢true h)

-- a clause of one literal is true where the number of the literal is 1
clause_of_one : (x : ℕ → Bool) (ls : List Literal) → length ls ≡ 1 → value_of ls x ≡ 1 → clause_value x ls ≡ true
clause_of_one x [] n e = absurd (omega arith)
clause_of_one x (l ∷ []) n e = literal_of_one (literal_value x l) e
clause_of_one x (l ∷ (m ∷ ls)) n e = absurd (omega arith)

one_of_clause : (x : ℕ → Bool) (ls : List Literal) → length ls ≡ 1 → clause_value x ls ≡ true → value_of ls x ≡ 1
one_of_clause x [] n h = absurd (omega arith)
one_of_clause x (l ∷ []) n h = one_of_literal (literal_value x l) h
one_of_clause x (l ∷ (m ∷ ls)) n h = absurd (omega arith)

-- ---- the beginning

lifted-agree : (n : ℕ) (variables : List (List Literal)) (x y : ℕ → Bool) → AreWithin n variables → AgreeBelow n x y → (k : ℕ) → lifted variables x k ≡ lifted variables y k
lifted-agree n variables x y within agree k = elim (cases_lt k (length variables)) [
  | inl l ↦ value_of-agree n x y (literals_at variables k) agree (AreWithin-at n variables k [] within l)
  | inr l ↦
      let none : literals_at variables k ≡ [] = get_or_past variables k [] l in
      ap (λ (ls : List Literal). value_of ls x) none ∙ ap (λ (ls : List Literal). value_of ls y) (sym none)
]

-- an assignment for each valuation
spelled : (ns : List Node) (variables : List (List Literal)) (first : Form) (v : ℕ → ℕ) → IsBeginning ns variables first → (x : ℕ → Bool) × Spells ns variables v x × Satisfies x first.clauses
unfolding low_bits
spelled ns variables first v begins =
    let s = spell 1 variables first.variables v (λ _. true) begins.own in (
      s.0,
      (λ k. s.2 k ∙ (λ i. v k % 2 ^ begins.wide k i)),
      subst (Satisfies s.0) (sym begins.clauses) (and_from _ _ (ap (λ (b : Bool). b || false) (sym (s.1 0 (omega arith)))) refl),
    )

-- ---- the three promises

last_known : (ns : List Node) (goal : ℕ) (variables : List (List Literal)) (cnf : Form) (b : IsBlasted ns goal variables cnf) → Known ns b.marks variables b.first (length ns) b.last b.literals
last_known ns goal variables cnf b = known ns goal b.marks variables b.first b.ordered b.marked (length ns) b.last b.literals (omega arith) b.steps

-- the goal leads to itself
goal_marked : (ns : List Node) (goal : ℕ) (variables : List (List Literal)) (cnf : Form) (b : IsBlasted ns goal variables cnf) → get_or b.marks goal false ≡ true
goal_marked ns goal variables cnf b = (b.marked.exactly goal).1 ([], refl)

goal_one : (ns : List Node) (goal : ℕ) (variables : List (List Literal)) (cnf : Form) (b : IsBlasted ns goal variables cnf) → length (literals_at b.literals goal) ≡ 1
goal_one ns goal variables cnf b = (last_known ns goal variables cnf b).wide goal b.there (goal_marked ns goal variables cnf b) ∙ b.bit

-- the valuation of each model makes the goal true
pub blasted_lifts : (ns : List Node) (goal : Id) (variables : List (List Literal)) (cnf : Form) → IsBlasted ns goal.index variables cnf → (x : ℕ → Bool) → Satisfies x cnf.clauses → value (lifted variables x) ns goal ≡ 1
blasted_lifts ns goal variables cnf b x all =
    let so = last_known ns goal.index variables cnf b in
    let whole : Satisfies x (b.last.clauses ++ literals_at b.literals goal.index ∷ []) = subst (λ (f : Form). Satisfies x f.clauses) b.ends all in
    let last : clause_value x (literals_at b.literals goal.index) ≡ true = clause_value-last x b.last.clauses (literals_at b.literals goal.index) whole in
    sym (so.mean x (Satisfies-front x b.last.clauses (literals_at b.literals goal.index ∷ []) whole) goal.index b.there (goal_marked ns goal.index variables cnf b))
    ∙ one_of_clause x (literals_at b.literals goal.index) (goal_one ns goal.index variables cnf b) last

-- the valuation that an assignment means is in the range of the variables' widths
pub blasted_range : (ns : List Node) (goal : ℕ) (variables : List (List Literal)) (cnf : Form) → IsBlasted ns goal variables cnf → (x : ℕ → Bool) (k : ℕ) → lifted variables x k < 2 ^ variable_width ns k
blasted_range ns goal variables cnf b x k = subst (λ (w : ℕ). lifted variables x k < 2 ^ w) (b.begins.wide k) (value_of-below x (literals_at variables k))

-- each valuation that makes the goal true is spelled by a model
pub blasted_extends : (ns : List Node) (goal : Id) (variables : List (List Literal)) (cnf : Form) → IsBlasted ns goal.index variables cnf → (v : ℕ → ℕ) → value v ns goal ≡ 1 → (x : ℕ → Bool) × Spells ns variables v x × Satisfies x cnf.clauses
blasted_extends ns goal variables cnf b v true_there =
    let so = last_known ns goal.index variables cnf b in
    let start = spelled ns variables b.first v b.begins in
    let model = so.grows.extends start.0 start.2 in
    let x : ℕ → Bool = model.0 in
    let spells : Spells ns variables v x =
    λ k. lifted-agree b.first.variables variables x start.0 (AreConsecutive-within 1 variables b.first.variables b.begins.own) (AgreeBelow-sym b.first.variables start.0 x model.1) k ∙ start.1 k in
    let same : values (lifted variables x) ns ≡ values v ns = values-low (lifted variables x) v ns spells in
    let mean : value_of (literals_at b.literals goal.index) x ≡ 1 =
    so.mean x model.2 goal.index b.there (goal_marked ns goal.index variables cnf b) ∙ ap (λ (vs : List ℕ). get_or vs goal.index 0) same ∙ true_there in
    let last : clause_value x (literals_at b.literals goal.index) ≡ true = clause_of_one x (literals_at b.literals goal.index) (goal_one ns goal.index variables cnf b) mean in
    (x, spells, subst (λ (f : Form). Satisfies x f.clauses) (sym b.ends) (Satisfies-push x b.last.clauses (literals_at b.literals goal.index) model.2 last))

-- ---- a form that is made

pub blasted_from : (ns d : List Node) (goal : Id) (marks seen : List Bool) (variables literals : List (List Literal)) (first form cnf : Form) (own : List Literal) → ns ≡ d → is_ordered d ≡ true → Within d goal → width d goal ≡ 1 → AreMarks d goal.index marks → seen ≡ marks → IsBeginning d variables first → AreSteps ns seen variables first (length ns) form literals → own ≡ literals_at literals goal.index → cnf ≡ record form { clauses = form.clauses ++ own ∷ [] } → IsBlasted d goal.index variables cnf
blasted_from ns d goal marks seen variables literals first form cnf own e ordered there bit are q begins steps f g = record {
  ordered = ordered;
  there = there;
  bit = bit;
  marks = marks;
  marked = are;
  first = first;
  begins = begins;
  last = form;
  literals = literals;
  steps = subst (λ (us : List Node). AreSteps us marks variables first (length us) form literals) e (subst (λ (bs : List Bool). AreSteps ns bs variables first (length ns) form literals) q steps);
  ends = g ∙ (λ k. record form { clauses = form.clauses ++ f k ∷ [] });
}

-- the goal's literals are within
pub goal_within : (ns d : List Node) (goal : ℕ) (marks seen : List Bool) (variables literals : List (List Literal)) (first form : Form) (own : List Literal) → ns ≡ d → is_ordered d ≡ true → AreMarks d goal marks → seen ≡ marks → AreSteps ns seen variables first (length ns) form literals → own ≡ literals_at literals goal → IsWithin form.variables own
goal_within ns d goal marks seen variables literals first form own e ordered are q steps f =
    let s = subst (λ (us : List Node). AreSteps us marks variables first (length us) form literals) e (subst (λ (bs : List Bool). AreSteps ns bs variables first (length ns) form literals) q steps) in
    let so : Known d marks variables first (length d) form literals = known d goal marks variables first ordered are (length d) form literals (omega arith) s in
    subst (IsWithin form.variables) (sym f) (literals_within form.variables literals goal so.within)

-- ---- the valuation that is read

-- the numbers of the first i variables
pub record LiftedTo (variables : List (List Literal)) (x : ℕ → Bool) (i : ℕ) (values : List ℕ) : Type 0 where
  pub count : length values ≡ i
  pub are : (k : ℕ) → k < i → get_or values k 0 ≡ lifted variables x k

pub LiftedTo-none : (variables : List (List Literal)) (x : ℕ → Bool) → LiftedTo variables x 0 []
LiftedTo-none variables x = record { count = refl; are = λ k l. absurd (omega arith) }

pub LiftedTo-more : (variables : List (List Literal)) (x : ℕ → Bool) (i n : ℕ) (values new : List ℕ) (ls : List Literal) → LiftedTo variables x i values → n ≡ value_of ls x → ls ≡ literals_at variables i → new ≡ values ++ n ∷ [] → LiftedTo variables x (i + 1) new
LiftedTo-more variables x i n values new ls so e f g =
    let P : ℕ → Type 0 = λ k. get_or new k 0 ≡ lifted variables x k in
    let here : P i = ap (λ (ms : List ℕ). get_or ms i 0) g ∙ get_or_push values n 0 i so.count ∙ e ∙ ap (λ (ts : List Literal). value_of ts x) f in
    record {
      count = ap (λ (ms : List ℕ). length ms) g ∙ length_push values n ∙ omega (arith, so.count);
      are = below_more P i (λ k l. ap (λ (ms : List ℕ). get_or ms k 0) g ∙ get_or_append_left values (n ∷ []) 0 k (omega (arith, so.count)) ∙ so.are k l) here;
    }

pub LiftedTo-all : (variables : List (List Literal)) (x : ℕ → Bool) (i : ℕ) (values r : List ℕ) → LiftedTo variables x i values → length variables ≤ i → i ≤ length variables → r ≡ values → (k : ℕ) → valuation_of r k ≡ lifted variables x k
LiftedTo-all variables x i values r so l m e k = elim (cases_lt k i) [
  | inl n ↦ ap (λ (ms : List ℕ). get_or ms k 0) e ∙ so.are k n
  | inr n ↦ ap (λ (ms : List ℕ). get_or ms k 0) e ∙ get_or_past values k 0 (omega (arith, so.count)) ∙ sym (ap (λ (ls : List Literal). value_of ls x) (get_or_past variables k [] (omega arith)))
]

pub lifted_true : (variables : List (List Literal)) (x : ℕ → Bool) (cnf : Form) (v : ℕ → ℕ) → ((k : ℕ) → v k ≡ lifted variables x k) → (ns : List Node) (goal : Id) → IsBlasted ns goal.index variables cnf → Satisfies x cnf.clauses → value v ns goal ≡ 1
lifted_true variables x cnf v e ns goal b all =
    let same : v ≡ lifted variables x = λ i k. e k i in
    ap (λ (u : ℕ → ℕ). value u ns goal) same ∙ blasted_lifts ns goal variables cnf b x all

pub lifted_range : (variables : List (List Literal)) (x : ℕ → Bool) (cnf : Form) (v : ℕ → ℕ) → ((k : ℕ) → v k ≡ lifted variables x k) → (ns : List Node) (goal : Id) → IsBlasted ns goal.index variables cnf → (k : ℕ) → v k < 2 ^ variable_width ns k
lifted_range variables x cnf v e ns goal b k = subst (λ (n : ℕ). n < 2 ^ variable_width ns k) (sym (e k)) (blasted_range ns goal.index variables cnf b x k)

-- ---- a number read from its highest bit down

pub number_next : (x : ℕ → Bool) (ls : List Literal) (i : ℕ) (l : Literal) → i < length ls → value_of (drop i ls) x ≡ bit_value (literal_value x (get_or ls i l)) + 2 * value_of (drop (i + 1) ls) x
number_next x ls i l h = at_drop_more (λ (ts : List Literal). value_of ts x) ls i l h

pub number_small : (x : ℕ → Bool) (ls : List Literal) (m : ℕ) → 1 ≤ m → length ls ≤ 64 → value_of (drop m ls) x < 2 ^ 63
number_small x ls m h l =
    let n : length (drop m ls) ≤ 63 = omega (arith, length-drop m ls) in
    let two : 0 < 2 = omega arith in
    let p : 2 ^ length (drop m ls) ≤ 2 ^ 63 = pow-le-pow_right two n in
    omega (arith, value_of-below x (drop m ls), p)
