-- What the steps of a graph's nodes come to.
use Rattle.std.proofs.Common.{◌≡◌, ℕ, zero, suc, ◌<◌, ◌≤◌, Bool, true, false, List, [], ◌∷◌, ◌++◌, length, get_or, refl, sym, ap, ◌∙◌, subst, arith, inl, inr}
use Rattle.std.specs.Bool.{MatchBool}
use Rattle.std.specs.List.{AllByRecursion}
use Rattle.std.proofs.lemmas.Bool.{cases_lt, cases_Bool, false≢true}
use Rattle.std.proofs.lemmas.List.{get_or_append_left, get_or_push, length_push, get_or-map}
use Rattle.sat_form.specs.Satisfaction.{Literal, Form, Satisfies, AreWithin}
use Rattle.sat_form.specs.Numbers.{value_of}
use Rattle.sat_form.proofs.Within.{AreWithin-weaker, AreWithin-push}
use Rattle.word_dag.specs.declared.nodes.Node.{Node}
use Rattle.word_dag.specs.declared.nodes.Node.TheVariants.{Constant}
use Rattle.word_dag.specs.Meaning.{node_value, widths, values}
use Rattle.word_dag.specs.Fitting.{is_ordered}
use Rattle.word_dag.proofs.Order.{width_is_final, value_is_final}
use Rattle.gate_arith.specs.Growth.{Grows}
use Rattle.bit_blast.specs.Numbers.{literals_at, numbers_of, lifted}
use Rattle.bit_blast.specs.Reach.{operands, node_at, IsUnder, AreMarks}
use Rattle.bit_blast.specs.Steps.{IsEncoded, IsSkipped, AreSteps}
use Rattle.gate_arith.proofs.Steps.{Grows-same, Grows-then, added_to-new, old-new}
use Rattle.bit_blast.proofs.Marked.{Marked, operands_earlier, under_more, each-weaker, each-both, each-all}
use Rattle.bit_blast.proofs.Reading.{SameAt, node_value-read}

-- ---- the marks

-- the operands of a marked node are marked
pub marked_operands : (ns : List Node) (goal : ℕ) (marks : List Bool) → AreMarks ns goal marks → (k : ℕ) → Marked marks k → AllByRecursion (Marked marks) (operands (node_at ns k))
marked_operands ns goal marks are k m =
    each-weaker (IsUnder ns goal) (Marked marks) (λ j u. (are.exactly j).1 u) (operands (node_at ns k)) (under_more ns goal k ((are.exactly k).0 m))

-- ---- the last step

encoded : (P Q : Type 0) (b : Bool) → b ≡ true → MatchBool b P Q → P
encoded P Q b e h = subst (λ (t : Bool). MatchBool t P Q) e h

skipped : (P Q : Type 0) (b : Bool) → b ≡ false → MatchBool b P Q → Q
skipped P Q b e h = subst (λ (t : Bool). MatchBool t P Q) e h

-- the list of an earlier node, and that of the last one
earlier_at : (literals before : List (List Literal)) (own : List Literal) (k j : ℕ) → literals ≡ before ++ own ∷ [] → length before ≡ k → j < k → literals_at literals j ≡ literals_at before j
earlier_at literals before own k j e n l = ap (λ (ts : List (List Literal)). literals_at ts j) e ∙ get_or_append_left before (own ∷ []) [] j (omega arith)

last_at : (literals before : List (List Literal)) (own : List Literal) (k : ℕ) → literals ≡ before ++ own ∷ [] → length before ≡ k → literals_at literals k ≡ own
last_at literals before own k e n = ap (λ (ts : List (List Literal)). literals_at ts k) e ∙ get_or_push before own [] k n

-- ---- all steps

-- what is known behind the steps of the first k nodes
pub record Known (ns : List Node) (marks : List Bool) (variables : List (List Literal)) (first : Form) (k : ℕ) (form : Form) (literals : List (List Literal)) : Type 0 where
  pub count : length literals ≡ k
  pub grows : Grows first form
  pub within : AreWithin form.variables literals
  pub wide : (j : ℕ) → j < k → Marked marks j → length (literals_at literals j) ≡ get_or (widths ns) j 0
  pub mean : (x : ℕ → Bool) → Satisfies x form.clauses → (j : ℕ) → j < k → Marked marks j → value_of (literals_at literals j) x ≡ get_or (values (lifted variables x) ns) j 0

-- the node's value by the literals of its operands
value_read : (ns : List Node) (marks : List Bool) (variables : List (List Literal)) (k : ℕ) (before : List (List Literal)) (x : ℕ → Bool) → is_ordered ns ≡ true → k < length ns → length before ≡ k → AllByRecursion (Marked marks) (operands (node_at ns k)) → ((j : ℕ) → j < k → Marked marks j → value_of (literals_at before j) x ≡ get_or (values (lifted variables x) ns) j 0) → node_value (lifted variables x) (widths ns) (numbers_of before x) (node_at ns k) ≡ get_or (values (lifted variables x) ns) k 0
value_read ns marks variables k before x ordered l count marked mean =
    let v : ℕ → ℕ = lifted variables x in
    let js : List ℕ = operands (node_at ns k) in
    let f : List Literal → ℕ = λ ls. value_of ls x in
    let same : (j : ℕ) → j < k → Marked marks j → get_or (numbers_of before x) j 0 ≡ get_or (values v ns) j 0 =
    λ j early m. get_or-map f before j [] 0 (omega arith) ∙ mean j early m in
    let read : SameAt (values v ns) (numbers_of before x) js =
    each-both (λ j. j < k) (Marked marks) (λ j. get_or (numbers_of before x) j 0 ≡ get_or (values v ns) j 0) same js (operands_earlier ns k ordered l) marked in
    let still : SameAt (widths ns) (widths ns) js = each-all (λ j. get_or (widths ns) j 0 ≡ get_or (widths ns) j 0) (λ j. refl) js in
    node_value-read v (widths ns) (values v ns) (widths ns) (numbers_of before x) (node_at ns k) still read
    ∙ sym (value_is_final v ns k (Constant 0 0) ordered l)

known_encoded : (ns : List Node) (marks : List Bool) (variables : List (List Literal)) (first : Form) (k : ℕ) (old form : Form) (before literals : List (List Literal)) (own : List Literal) → is_ordered ns ≡ true → k < length ns → AllByRecursion (Marked marks) (operands (node_at ns k)) → Known ns marks variables first k old before → literals ≡ before ++ own ∷ [] → IsEncoded (widths ns) variables before (node_at ns k) old form own → Known ns marks variables first (suc k) form literals
known_encoded ns marks variables first k old form before literals own ordered l marked so e step =
    let last : literals_at literals k ≡ own = last_at literals before own k e so.count in
    let width : length own ≡ get_or (widths ns) k 0 = step.is.count ∙ sym (width_is_final ns k (Constant 0 0) ordered l) in
    let value : (x : ℕ → Bool) → Satisfies x form.clauses → value_of own x ≡ get_or (values (lifted variables x) ns) k 0 =
    λ x all. step.is.is x (added_to-new step.grows x all) ∙ value_read ns marks variables k before x ordered l so.count marked (so.mean x (old-new step.grows x all)) in
    record {
      count = ap (λ (ts : List (List Literal)). length ts) e ∙ length_push before own ∙ omega (arith, so.count);
      grows = Grows-then so.grows step.grows;
      within = subst (AreWithin form.variables) (sym e) (AreWithin-push form.variables before own (AreWithin-weaker old.variables form.variables before step.grows.variables so.within) step.is.within);
      wide = λ j less m. elim (cases_lt j k) [
        | inl early ↦ ap (λ (ls : List Literal). length ls) (earlier_at literals before own k j e so.count early) ∙ so.wide j early m
        | inr late ↦ let q : j ≡ k = omega arith in (λ i. length (literals_at literals (q i))) ∙ ap (λ (ls : List Literal). length ls) last ∙ width ∙ (λ i. get_or (widths ns) (sym q i) 0)
      ];
      mean = λ x all j less m. elim (cases_lt j k) [
        | inl early ↦ ap (λ (ls : List Literal). value_of ls x) (earlier_at literals before own k j e so.count early) ∙ so.mean x (old-new step.grows x all) j early m
        | inr late ↦ let q : j ≡ k = omega arith in (λ i. value_of (literals_at literals (q i)) x) ∙ ap (λ (ls : List Literal). value_of ls x) last ∙ value x all ∙ (λ i. get_or (values (lifted variables x) ns) (sym q i) 0)
      ];
    }

known_skipped : (ns : List Node) (marks : List Bool) (variables : List (List Literal)) (first : Form) (k : ℕ) (old form : Form) (before literals : List (List Literal)) (own : List Literal) → get_or marks k false ≡ false → Known ns marks variables first k old before → literals ≡ before ++ own ∷ [] → IsSkipped old form own → Known ns marks variables first (suc k) form literals
known_skipped ns marks variables first k old form before literals own off so e step =
    let early : (j : ℕ) → j < suc k → Marked marks j → j < k =
    λ j less m. elim (cases_lt j k) [ inl l ↦ l | inr l ↦ let q : j ≡ k = omega arith in absurd (false≢true (sym off ∙ (λ i. get_or marks (sym q i) false) ∙ m)) ] in
    record {
      count = ap (λ (ts : List (List Literal)). length ts) e ∙ length_push before own ∙ omega (arith, so.count);
      grows = subst (Grows first) (sym step.form) so.grows;
      within = subst (AreWithin form.variables) (sym e) (subst (λ (ls : List Literal). AreWithin form.variables (before ++ ls ∷ [])) (sym step.literals)
          (AreWithin-push form.variables before [] (subst (λ (f : Form). AreWithin f.variables before) (sym step.form) so.within) tt));
      wide = λ j less m. ap (λ (ls : List Literal). length ls) (earlier_at literals before own k j e so.count (early j less m)) ∙ so.wide j (early j less m) m;
      mean = λ x all j less m.
          ap (λ (ls : List Literal). value_of ls x) (earlier_at literals before own k j e so.count (early j less m))
          ∙ so.mean x (subst (λ (f : Form). Satisfies x f.clauses) step.form all) j (early j less m) m;
    }

pub known : (ns : List Node) (goal : ℕ) (marks : List Bool) (variables : List (List Literal)) (first : Form) → is_ordered ns ≡ true → AreMarks ns goal marks → (k : ℕ) (form : Form) (literals : List (List Literal)) → k ≤ length ns → AreSteps ns marks variables first k form literals → Known ns marks variables first k form literals
known ns goal marks variables first ordered are zero form literals l h = record {
  count = ap (λ (ts : List (List Literal)). length ts) h.1;
  grows = Grows-same first form h.0;
  within = subst (AreWithin form.variables) (sym h.1) tt;
  wide = λ j m. absurd (omega arith);
  mean = λ x all j m. absurd (omega arith);
}
known ns goal marks variables first ordered are (suc k) form literals l h =
    let so : Known ns marks variables first k h.old h.before = known ns goal marks variables first ordered are k h.old h.before (omega arith) h.earlier in
    elim (cases_Bool (get_or marks k false)) [
      | inl on ↦ known_encoded ns marks variables first k h.old form h.before literals h.own ordered l (marked_operands ns goal marks are k on) so h.literals_are
          (encoded (IsEncoded (widths ns) variables h.before (node_at ns k) h.old form h.own) (IsSkipped h.old form h.own) (get_or marks k false) on h.step)
      | inr off ↦ known_skipped ns marks variables first k h.old form h.before literals h.own off so h.literals_are
          (skipped (IsEncoded (widths ns) variables h.before (node_at ns k) h.old form h.own) (IsSkipped h.old form h.own) (get_or marks k false) off h.step)
    ]
