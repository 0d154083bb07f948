-- What is read of lists of literals, and the number of a node by them.
use Rattle.std.proofs.Common.{◌≡◌, ℕ, zero, suc, Bool, List, [], ◌∷◌, length, get_or, sym, ap, ◌∙◌, arith}
use Rattle.std.proofs.Math.ListN.{get_or-map}
use Rattle.sat_form.specs.Satisfaction.{Literal, Form, IsWithin, AreWithin}
use Rattle.sat_form.specs.Numbers.{value_of}
use Rattle.words.specs.Operators.{low_bits, logical_shift}
use Rattle.word_dag.specs.declared.nodes.Node.{Node}
use Rattle.word_dag.specs.Meaning.{node_width, node_value}
use Rattle.gate_bits.specs.Truth.{IsNumber}
use Rattle.bit_blast.specs.Numbers.{literals_at, numbers_of, counts_of, lifted}

pub literals_within : (n : ℕ) (lists : List (List Literal)) (k : ℕ) → AreWithin n lists → IsWithin n (literals_at lists k)
literals_within n [] k h = tt
literals_within n (ls ∷ lists) zero h = h.0
literals_within n (ls ∷ lists) (suc k) h = literals_within n lists k h.1

pub count_at : (lists : List (List Literal)) (k : ℕ) → get_or (counts_of lists) k 0 ≡ length (literals_at lists k)
count_at lists k = get_or-map (λ (ls : List Literal). length ls) lists k []

pub number_at : (lists : List (List Literal)) (x : ℕ → Bool) (k : ℕ) → get_or (numbers_of lists x) k 0 ≡ value_of (literals_at lists k) x
number_at lists x k = get_or-map (λ (ls : List Literal). value_of ls x) lists k []

-- a number is that of the node
pub as_node : (form : Form) (before variables : List (List Literal)) (r : List Literal) (n m : Node) (w : ℕ) (f : (ℕ → Bool) → ℕ) → n ≡ m → IsNumber form w r f → w ≡ node_width (counts_of before) m → ((x : ℕ → Bool) → f x ≡ node_value (lifted variables x) (counts_of before) (numbers_of before x) m) → IsNumber form (node_width (counts_of before) n) r (λ x. node_value (lifted variables x) (counts_of before) (numbers_of before x) n)
as_node form before variables r n m w f e h p q = record {
  count = h.count ∙ p ∙ ap (node_width (counts_of before)) (sym e);
  within = h.within;
  is = λ x all. h.is x all ∙ q x ∙ ap (node_value (lifted variables x) (counts_of before) (numbers_of before x)) (sym e);
}

pub unmoved : (a : ℕ) → logical_shift a 0 ≡ a
unfolding logical_shift
unmoved a = omega arith

pub variable_bits : (variables : List (List Literal)) (ls : List Literal) (k w : ℕ) (x : ℕ → Bool) → ls ≡ literals_at variables k → low_bits w (logical_shift (value_of ls x) 0) ≡ low_bits w (lifted variables x k)
variable_bits variables ls k w x e = ap (low_bits w) (unmoved (value_of ls x)) ∙ ap (λ (ts : List Literal). low_bits w (value_of ts x)) e
