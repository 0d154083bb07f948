-- A node's width and value are read from its operands alone, and from the bits of a variable below its width.
use Rattle.std.proofs.Common.{◌≡◌, ℕ, ◌+◌, ◌≤◌, ◌==◌, cond, Bool, true, List, [], ◌∷◌, ◌++◌, get_or, refl, ap, ◌∙◌, subst, arith}
use Rattle.std.specs.List.{AllByRecursion}
use Rattle.std.proofs.lemmas.Bool.Decides.{nat_tests}
use Rattle.words.specs.Operators.{word_negation, word_complement, low_bits, logical_shift, sign_extension}
use Rattle.words.proofs.Powers.{mod-mod_narrower}
use Rattle.word_dag.specs.declared.nodes.Node.{Node}
use Rattle.word_dag.specs.declared.nodes.Node.TheVariants.{Constant, Variable, Not, Negate, Binary, Shift, Compare, Fits, Choice, ZeroExtend, SignExtend, Cut, Join, Quantify}
use Rattle.word_dag.proofs.Places.{at_same}
use Rattle.word_dag.specs.Meaning.{bit_value, holds, joined, places, quantified, binary_value, shift_value, comparison_value, fits_value, node_width, node_value, values_from, values}
use Rattle.bit_blast.specs.Reach.{operands}
use Rattle.bit_blast.specs.Variables.{width_read, variable_width}

-- the lists have the same numbers at these places
abbrev pub SameAt : List ℕ → List ℕ → List ℕ → Type 0
SameAt xs ys js = AllByRecursion (λ j. get_or ys j 0 ≡ get_or xs j 0) js

pub node_width-read : (ws us : List ℕ) (n : Node) → SameAt ws us (operands n) → node_width us n ≡ node_width ws n
node_width-read ws us (Constant bits w) g = refl
node_width-read ws us (Variable x w) g = refl
node_width-read ws us (Not a) g = g.0
node_width-read ws us (Negate a) g = g.0
node_width-read ws us (Binary o a b) g = g.0
node_width-read ws us (Shift s a count) g = g.0
node_width-read ws us (Compare c a b) g = refl
node_width-read ws us (Fits t a b) g = refl
node_width-read ws us (Choice c a b) g = g.1.0
node_width-read ws us (ZeroExtend a w) g = refl
node_width-read ws us (SignExtend a w) g = refl
node_width-read ws us (Cut a low w) g = refl
node_width-read ws us (Join high low) g = λ k. g.0 k + g.1.0 k
node_width-read ws us (Quantify q first count) g = refl

pub node_value-read : (v : ℕ → ℕ) (ws vs us xs : List ℕ) (n : Node) → SameAt ws us (operands n) → SameAt vs xs (operands n) → node_value v us xs n ≡ node_value v ws vs n
node_value-read v ws vs us xs (Constant bits w) g e = refl
node_value-read v ws vs us xs (Variable x w) g e = refl
node_value-read v ws vs us xs (Not a) g e = λ k. word_complement (g.0 k) (e.0 k)
node_value-read v ws vs us xs (Negate a) g e = λ k. word_negation (g.0 k) (e.0 k)
node_value-read v ws vs us xs (Binary o a b) g e = λ k. binary_value o (g.0 k) (e.0 k) (e.1.0 k)
node_value-read v ws vs us xs (Shift s a count) g e = λ k. shift_value s (g.0 k) (e.0 k) (e.1.0 k)
node_value-read v ws vs us xs (Compare c a b) g e = λ k. bit_value (comparison_value c (g.0 k) (e.0 k) (e.1.0 k))
node_value-read v ws vs us xs (Fits t a b) g e = λ k. bit_value (fits_value t (g.0 k) (e.0 k) (e.1.0 k))
node_value-read v ws vs us xs (Choice c a b) g e = λ k. cond (holds (e.0 k)) (e.1.0 k) (e.1.1.0 k)
node_value-read v ws vs us xs (ZeroExtend a w) g e = e.0
node_value-read v ws vs us xs (SignExtend a w) g e = λ k. sign_extension (g.0 k) w (e.0 k)
node_value-read v ws vs us xs (Cut a low w) g e = λ k. low_bits w (logical_shift (e.0 k) low)
node_value-read v ws vs us xs (Join high low) g e = λ k. joined (g.1.0 k) (e.0 k) (e.1.0 k)
node_value-read v ws vs us xs (Quantify q first count) g e = λ k. bit_value (quantified q (at_same vs xs (places first.index count) e k))

-- ---- the variables

pub low_bits-low_bits : (w u a : ℕ) → w ≤ u → low_bits w (low_bits u a) ≡ low_bits w a
unfolding low_bits
low_bits-low_bits w u a l = mod-mod_narrower a w u l

-- the numbers below 2 to the power of the widths decide the node's value
node_value-low : (u v : ℕ → ℕ) (widths : ℕ → ℕ) (ws vs : List ℕ) (n : Node) → ((k : ℕ) → u k ≡ low_bits (widths k) (v k)) → ((k : ℕ) → width_read n k ≤ widths k) → node_value u ws vs n ≡ node_value v ws vs n
node_value-low u v widths ws vs (Constant bits w) e l = refl
node_value-low u v widths ws vs (Variable x w) e l =
    let same : x == x ≡ true = grind (arith, nat_tests) in
    let m : w ≤ widths x = subst (λ (t : Bool). cond t w 0 ≤ widths x) same (l x) in
    ap (low_bits w) (e x) ∙ low_bits-low_bits w (widths x) (v x) m
node_value-low u v widths ws vs (Not a) e l = refl
node_value-low u v widths ws vs (Negate a) e l = refl
node_value-low u v widths ws vs (Binary o a b) e l = refl
node_value-low u v widths ws vs (Shift s a count) e l = refl
node_value-low u v widths ws vs (Compare c a b) e l = refl
node_value-low u v widths ws vs (Fits t a b) e l = refl
node_value-low u v widths ws vs (Choice c a b) e l = refl
node_value-low u v widths ws vs (ZeroExtend a w) e l = refl
node_value-low u v widths ws vs (SignExtend a w) e l = refl
node_value-low u v widths ws vs (Cut a low w) e l = refl
node_value-low u v widths ws vs (Join high low) e l = refl
node_value-low u v widths ws vs (Quantify q first count) e l = refl

values_from-low : (u v : ℕ → ℕ) (widths : ℕ → ℕ) (ws vs : List ℕ) (ns : List Node) → ((k : ℕ) → u k ≡ low_bits (widths k) (v k)) → ((k : ℕ) → variable_width ns k ≤ widths k) → values_from u ws vs ns ≡ values_from v ws vs ns
values_from-low u v widths ws vs [] e l = refl
values_from-low u v widths ws vs (n ∷ ns) e l =
    let here : node_value u ws vs n ≡ node_value v ws vs n = node_value-low u v widths ws vs n e (λ k. omega (arith, l k)) in
    ap (λ (a : ℕ). values_from u (ws ++ node_width ws n ∷ []) (vs ++ a ∷ []) ns) here
    ∙ values_from-low u v widths (ws ++ node_width ws n ∷ []) (vs ++ node_value v ws vs n ∷ []) ns e (λ k. omega (arith, l k))

-- two valuations that agree in the bits that the graph reads
pub values-low : (u v : ℕ → ℕ) (ns : List Node) → ((k : ℕ) → u k ≡ low_bits (variable_width ns k) (v k)) → values u ns ≡ values v ns
values-low u v ns e = values_from-low u v (λ k. variable_width ns k) [] [] ns e (λ k. omega arith)
