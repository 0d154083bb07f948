-- A model of a goal's clauses is determined by the values that it gives the graph's variables.
use Rattle.std.proofs.Common.{◌≡◌, ℕ, zero, suc, ◌+◌, ◌*◌, ◌<◌, ◌≤◌, Bool, true, false, ◌&&◌, ◌||◌, List, [], ◌∷◌, ◌++◌, length, inl, inr, refl, sym, ap, ◌∙◌, subst, arith}
use Rattle.std.proofs.lemmas.Bool.{cases_lt}
use Rattle.sat_form.specs.Satisfaction.{Literal, Form, Satisfies, AgreeBelow}
use Rattle.sat_form.specs.Numbers.{bit_value, value_of}
use Rattle.sat_form.proofs.Truth.{Satisfies-front, Satisfies-back}
use Rattle.word_dag.specs.declared.nodes.Node.{Node}
use Rattle.bit_blast.specs.Numbers.{literals_at, lifted}
use Rattle.bit_blast.specs.Variables.{plain_literals, AreConsecutive}
use Rattle.bit_blast.specs.Steps.{IsBlasted}
use Rattle.bit_blast.proofs.Laws.{known}

split_bit : (a b : Bool) (m n : ℕ) → bit_value a + 2 * m ≡ bit_value b + 2 * n → (a ≡ b) × (m ≡ n)
split_bit true true m n same = (refl, omega (arith, same))
split_bit true false m n same = absurd (omega (arith, same))
split_bit false true m n same = absurd (omega (arith, same))
split_bit false false m n same = (refl, omega (arith, same))

bits_same : (x y : ℕ → Bool) (first n v : ℕ) → value_of (plain_literals first n) x ≡ value_of (plain_literals first n) y → first ≤ v → v < first + n → x v ≡ y v
bits_same x y first zero v same low high = absurd (omega (arith, low, high))
bits_same x y first (suc n) v same low high =
    let parts = split_bit (x first) (y first) (value_of (plain_literals (first + 1) n) x) (value_of (plain_literals (first + 1) n) y) same in
    elim (cases_lt first v) [
      | inl later ↦ bits_same x y (first + 1) n v parts.1 (omega (arith, later)) (omega (arith, high))
      | inr here ↦ let e : v ≡ first = omega (arith, here, low) in (λ k. x (e k)) ∙ parts.0 ∙ (λ k. y (sym e k))
    ]

consecutive_same : (x y : ℕ → Bool) (first : ℕ) (lists : List (List Literal)) (last v : ℕ) → AreConsecutive first lists last → ((k : ℕ) → lifted lists x k ≡ lifted lists y k) → first ≤ v → v < last → x v ≡ y v
consecutive_same x y first [] last v own same low high = absurd (omega (arith, own, low, high))
consecutive_same x y first (ls ∷ lists) last v own same low high =
    let here : value_of (plain_literals first (length ls)) x ≡ value_of (plain_literals first (length ls)) y =
    ap (λ (ms : List Literal). value_of ms x) (sym own.0) ∙ same 0 ∙ ap (λ (ms : List Literal). value_of ms y) own.0 in
    elim (cases_lt v (first + length ls)) [
      | inl early ↦ bits_same x y first (length ls) v here low early
      | inr late ↦ consecutive_same x y (first + length ls) lists last v own.1 (λ k. same (suc k)) late high
    ]

one_is : (b : Bool) → ((b || false) && true) ≡ true → b ≡ true
one_is true h = refl
one_is false h = h

pub blasted_determined : (nodes : List Node) (goal : ℕ) (variables : List (List Literal)) (cnf : Form) → IsBlasted nodes goal variables cnf → (x y : ℕ → Bool) → Satisfies x cnf.clauses → Satisfies y cnf.clauses → ((k : ℕ) → lifted variables x k ≡ lifted variables y k) → AgreeBelow cnf.variables x y
blasted_determined nodes goal variables cnf b x y one two same =
    let grows = (known nodes goal b.marks variables b.first b.ordered b.marked (length nodes) b.last b.literals (omega arith) b.steps).grows in
    let clauses : cnf.clauses ≡ b.last.clauses ++ literals_at b.literals goal ∷ [] = ap (λ (f : Form). f.clauses) b.ends in
    let steps : (z : ℕ → Bool) → Satisfies z cnf.clauses → Satisfies z (b.first.clauses ++ grows.added) =
    λ z all. subst (Satisfies z) grows.clauses (Satisfies-front z b.last.clauses (literals_at b.literals goal ∷ []) (subst (Satisfies z) clauses all)) in
    let begin : (z : ℕ → Bool) → Satisfies z cnf.clauses → z 0 ≡ true =
    λ z all. one_is (z 0) (subst (Satisfies z) b.begins.clauses (Satisfies-front z b.first.clauses grows.added (steps z all))) in
    let early : AgreeBelow b.first.variables x y =
    λ v below. elim (cases_lt v 1) [
      | inl none ↦ let e : v ≡ 0 = omega (arith, none) in (λ k. x (e k)) ∙ begin x one ∙ sym (begin y two) ∙ (λ k. y (sym e k))
      | inr some ↦ consecutive_same x y 1 variables b.first.variables v b.begins.own same some below
    ] in
    subst (λ (n : ℕ). AgreeBelow n x y) (sym (ap (λ (f : Form). f.variables) b.ends)) (grows.determined x y early (Satisfies-back x b.first.clauses grows.added (steps x one)) (Satisfies-back y b.first.clauses grows.added (steps y two)))
