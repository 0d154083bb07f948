-- The widths of the variables, node by node.
use Rattle.std.proofs.Common.{◌≡◌, ℕ, zero, suc, ◌+◌, ◌<◌, ◌≤◌, ◌==◌, max, cond, true, List, [], ◌∷◌, ◌++◌, length, get_or, take, drop, refl, sym, ap, ◌∙◌, arith}
use Rattle.std.proofs.Math.ListN.{set, replicate}
use Rattle.std.proofs.lemmas.List.{get_or-set_same, get_or-set_other, take_all, at_drop_more, at_drop_all}
use Rattle.std.proofs.lemmas.Bool.{cases_eq}
use Rattle.std.proofs.lemmas.Bool.Decides.{nat_tests}
use Rattle.std.proofs.lemmas.Grind.{get_or_default_zero}
use Rattle.word_dag.specs.declared.nodes.Node.{Node}
use Rattle.word_dag.specs.declared.nodes.Node.TheVariants.{Constant, Variable, Not, Negate, Binary, Shift, Compare, Fits, Choice, ZeroExtend, SignExtend, Cut, Join, Quantify}
use Rattle.word_dag.specs.Meaning.{node_width}
use Rattle.word_dag.specs.Fitting.{fits, are_fitting, is_ordered}
use Rattle.word_dag.proofs.Operands.{both, width_range}
use Rattle.bit_blast.specs.Variables.{width_read, variable_width}

zeros : (n k : ℕ) → ◌≡◌ {A = ℕ} (get_or (replicate n 0) k 0) 0
zeros zero k = refl
zeros (suc n) zero = refl
zeros (suc n) (suc k) = zeros n k

-- zeros behind a list of numbers
pub get_or-zeros : (xs : List ℕ) (n k : ℕ) → get_or (xs ++ replicate n 0) k 0 ≡ get_or xs k 0
get_or-zeros [] n k = zeros n k
get_or-zeros (x ∷ xs) n zero = refl
get_or-zeros (x ∷ xs) n (suc k) = get_or-zeros xs n k

pub padded : (xs ys : List ℕ) (m n k : ℕ) → length xs ≤ m → ys ≡ take m xs ++ replicate n 0 → get_or ys k 0 ≡ get_or xs k 0
padded xs ys m n k l e =
    ap (λ (zs : List ℕ). get_or zs k 0) (e ∙ ap (λ (zs : List ℕ). zs ++ replicate n 0) (take_all m xs l)) ∙ get_or-zeros xs n k

pub widened : (xs ys : List ℕ) (i w x k : ℕ) → get_or ys k 0 ≡ get_or xs k 0 → i < length ys → x ≡ get_or ys i x → x < w → get_or (set ys i w) k 0 ≡ max (cond (i == k) w 0) (get_or xs k 0)
widened xs ys i w x k e l h g = grind (arith, nat_tests, get_or-set_same ys i w 0, get_or-set_other ys i k w 0, get_or_default_zero ys i x, cases_eq k i)

pub not_widened : (xs ys : List ℕ) (i w x k : ℕ) → get_or ys k 0 ≡ get_or xs k 0 → i < length ys → x ≡ get_or ys i x → w ≤ x → get_or ys k 0 ≡ max (cond (i == k) w 0) (get_or xs k 0)
not_widened xs ys i w x k e l h g = grind (arith, nat_tests, get_or_default_zero ys i x, cases_eq k i)

-- ---- node by node

width_at : (ns : List Node) (i k : ℕ) (d : Node) → i < length ns → variable_width (drop i ns) k ≡ max (width_read (get_or ns i d) k) (variable_width (drop (i + 1) ns) k)
width_at ns i k d l = at_drop_more (λ (ms : List Node). variable_width ms k) ns i d l

-- the widths so far, and those of the nodes from i on
pub record WidthsTo (ns : List Node) (i : ℕ) (widths : List ℕ) : Type 0 where
  pub whole : (k : ℕ) → max (get_or widths k 0) (variable_width (drop i ns) k) ≡ variable_width ns k

pub WidthsTo-none : (ns : List Node) → WidthsTo ns 0 []
WidthsTo-none ns = record { whole = λ k. omega arith }

pub WidthsTo-more : (ns : List Node) (i : ℕ) (old new : List ℕ) (n : Node) → WidthsTo ns i old → i < length ns → n ≡ get_or ns i n → ((k : ℕ) → get_or new k 0 ≡ max (width_read n k) (get_or old k 0)) → WidthsTo ns (i + 1) new
WidthsTo-more ns i old new n so l e h = record {
  whole = λ k.
      let a : variable_width (drop i ns) k ≡ max (width_read n k) (variable_width (drop (i + 1) ns) k) =
      width_at ns i k n l ∙ ap (λ (m : Node). max (width_read m k) (variable_width (drop (i + 1) ns) k)) (sym e) in
      omega (arith, a, h k, so.whole k);
}

pub WidthsTo-all : (ns : List Node) (i : ℕ) (widths : List ℕ) → WidthsTo ns i widths → length ns ≤ i → (k : ℕ) → get_or widths k 0 ≡ variable_width ns k
WidthsTo-all ns i widths so l k =
    let a : variable_width (drop i ns) k ≡ 0 = at_drop_all (λ (ms : List Node). variable_width ms k) ns i l in
    omega (arith, a, so.whole k)

-- ---- no variable is wider than 64

read_short : (ws : List ℕ) (n : Node) (k : ℕ) → fits ws n ≡ true → width_read n k ≤ 64
read_short ws (Variable x w) k h = let l : w ≤ 64 = (width_range w h).at_most_64 in grind (arith, nat_tests)
read_short ws (Constant bits w) k h = omega arith
read_short ws (Not a) k h = omega arith
read_short ws (Negate a) k h = omega arith
read_short ws (Binary o a b) k h = omega arith
read_short ws (Shift s a count) k h = omega arith
read_short ws (Compare c a b) k h = omega arith
read_short ws (Fits t a b) k h = omega arith
read_short ws (Choice c a b) k h = omega arith
read_short ws (ZeroExtend a w) k h = omega arith
read_short ws (SignExtend a w) k h = omega arith
read_short ws (Cut a low w) k h = omega arith
read_short ws (Join high low) k h = omega arith
read_short ws (Quantify q first count) k h = omega arith

width_short_from : (ws : List ℕ) (ns : List Node) (k : ℕ) → are_fitting ws ns ≡ true → variable_width ns k ≤ 64
width_short_from ws [] k h = omega arith
width_short_from ws (n ∷ ns) k h =
    let p = both (fits ws n) (are_fitting (ws ++ node_width ws n ∷ []) ns) h in
    omega (arith, read_short ws n k p.0, width_short_from (ws ++ node_width ws n ∷ []) ns k p.1)

pub width_short : (ns : List Node) (k : ℕ) → is_ordered ns ≡ true → variable_width ns k ≤ 64
width_short ns k h = width_short_from [] ns k h
