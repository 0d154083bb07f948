-- A node of a graph can be made in it, over operands that stand before it.
use Rattle.std.proofs.Common.{◌≡◌, ℕ, ◌+◌, ◌^◌, ◌<◌, ◌≤◌, true, List, [], ◌∷◌, length, get_or, take, sym, subst, ◌∙◌, arith, nat_lt}
use Rattle.std.proofs.lemmas.Bool.Decides.{Decides-ltb}
use Rattle.std.proofs.lemmas.List.{length-take-le}
use Rattle.word_dag.specs.declared.nodes.Id.{Id}
use Rattle.word_dag.specs.declared.nodes.Node.{Node}
use Rattle.word_dag.specs.declared.nodes.Node.TheVariants.{Constant, Variable, Not, Negate, Binary, Shift, Compare, Fits, Choice, ZeroExtend, SignExtend, Cut, Join, Quantify}
use Rattle.std.specs.List.{AllByRecursion}
use Rattle.word_dag.specs.declared.nodes.Quantifier.{Quantifier}
use Rattle.word_dag.specs.Meaning.{at, places, width, widths}
use Rattle.word_dag.specs.Fitting.{is_width, fits, is_ordered}
use Rattle.word_dag.specs.Growth.{Within, IsFitting}
use Rattle.word_dag.proofs.Folds.{length_widths, width-take}
use Rattle.word_dag.proofs.Operands.{both, there, alike, width_range, chosen, widened, part, joint}
use Rattle.word_dag.proofs.Order.{fits-at}
use Rattle.word_dag.proofs.Places.{places_below, bits}

-- its operands are below a place
abbrev pub IsBelow : ℕ → Node → Type 0
IsBelow n (Constant bits w) = Unit {0}
IsBelow n (Variable x w) = Unit {0}
IsBelow n (Not a) = a.index < n
IsBelow n (Negate a) = a.index < n
IsBelow n (Binary o a b) = (a.index < n) × (b.index < n)
IsBelow n (Shift s a count) = (a.index < n) × (count.index < n)
IsBelow n (Compare c a b) = (a.index < n) × (b.index < n)
IsBelow n (Fits t a b) = (a.index < n) × (b.index < n)
IsBelow n (Choice c a b) = (c.index < n) × (a.index < n) × (b.index < n)
IsBelow n (ZeroExtend a w) = a.index < n
IsBelow n (SignExtend a w) = a.index < n
IsBelow n (Cut a low w) = a.index < n
IsBelow n (Join high low) = (high.index < n) × (low.index < n)
IsBelow n (Quantify q first count) = AllByRecursion (λ j. j < n) (places first.index count)

module _ (d : List Node) (i : ℕ) (lt : i < length d) where
  abbrev before : List ℕ
  before = widths (take i d)

  long : length (widths (take i d)) ≡ i
  long = length_widths (take i d) ∙ length-take-le i d (omega (arith, lt))

  same : (a : Id) → a.index < length (widths (take i d)) → width d a ≡ at (widths (take i d)) a
  same a h = width-take d i a.index (omega (arith, h, long)) (omega (arith, lt))

  within : (a : Id) → a.index < length (widths (take i d)) → Within d a
  within a h = omega (arith, h, long, lt)

  below : (a : Id) → a.index < length (widths (take i d)) → a.index < i
  below a h = omega (arith, h, long)

  ones_same : (js : List ℕ) → AllByRecursion (λ j. j < length (widths (take i d))) js → AllByRecursion (λ j. get_or (widths (take i d)) j 0 ≡ 1) js → AllByRecursion (λ j. width d (record { index = j }) ≡ 1) js
  ones_same [] there ones = tt
  ones_same (j ∷ js) there ones = (same (record { index = j }) there.0 ∙ ones.0, ones_same js there.1 ones.1)

  fitting_before : (n : Node) → fits before n ≡ true → IsFitting d n
  fitting_before (Constant bits w) h =
      let p = both (is_width w) (nat_lt bits (2 ^ w)) h in
      let r = width_range w p.0 in
      (r.positive, r.at_most_64, (Decides-ltb bits (2 ^ w)).0 p.1)
  fitting_before (Variable x w) h = let r = width_range w h in (r.positive, r.at_most_64)
  fitting_before (Not a) h = within a (there before a h)
  fitting_before (Negate a) h = within a (there before a h)
  fitting_before (Binary o a b) h = let p = alike before a b h in (within a p.left, within b p.right, same a p.left ∙ p.same ∙ sym (same b p.right))
  fitting_before (Shift s a b) h = let p = alike before a b h in (within a p.left, within b p.right, same a p.left ∙ p.same ∙ sym (same b p.right))
  fitting_before (Compare c a b) h = let p = alike before a b h in (within a p.left, within b p.right, same a p.left ∙ p.same ∙ sym (same b p.right))
  fitting_before (Fits t a b) h = let p = alike before a b h in (within a p.left, within b p.right, same a p.left ∙ p.same ∙ sym (same b p.right))
  fitting_before (Choice c a b) h =
      let p = chosen before c a b h in
      (within c p.there, same c p.there ∙ p.bit, within a p.alike.left, within b p.alike.right, same a p.alike.left ∙ p.alike.same ∙ sym (same b p.alike.right))
  fitting_before (ZeroExtend a w) h = let p = widened before a w h in (within a p.there, omega (arith, same a p.there, p.not_narrower), p.at_most_64)
  fitting_before (SignExtend a w) h = let p = widened before a w h in (within a p.there, omega (arith, same a p.there, p.not_narrower), p.at_most_64)
  fitting_before (Cut a low w) h = let p = part before a low w h in (within a p.there, p.positive, omega (arith, same a p.there, p.within))
  fitting_before (Join high low) h =
      let p = joint before high low h in (within high p.left, within low p.right, omega (arith, same high p.left, same low p.right, p.at_most_64))
  fitting_before (Quantify q first count) h =
      let p = bits before first.index count h in (
        omega (arith, p.within, long, lt),
        ones_same (places first.index count) (places_below first.index count (length (widths (take i d))) p.within) p.ones,
      )

  below_before : (n : Node) → fits before n ≡ true → IsBelow i n
  below_before (Constant bits w) h = tt
  below_before (Variable x w) h = tt
  below_before (Not a) h = below a (there before a h)
  below_before (Negate a) h = below a (there before a h)
  below_before (Binary o a b) h = let p = alike before a b h in (below a p.left, below b p.right)
  below_before (Shift s a b) h = let p = alike before a b h in (below a p.left, below b p.right)
  below_before (Compare c a b) h = let p = alike before a b h in (below a p.left, below b p.right)
  below_before (Fits t a b) h = let p = alike before a b h in (below a p.left, below b p.right)
  below_before (Choice c a b) h = let p = chosen before c a b h in (below c p.there, below a p.alike.left, below b p.alike.right)
  below_before (ZeroExtend a w) h = below a (widened before a w h).there
  below_before (SignExtend a w) h = below a (widened before a w h).there
  below_before (Cut a low w) h = below a (part before a low w h).there
  below_before (Join high low) h = let p = joint before high low h in (below high p.left, below low p.right)
  below_before (Quantify q first count) h = let p = bits before first.index count h in places_below first.index count i (omega (arith, p.within, long))

  -- those of a list stand before the place
  list_before : (q : Quantifier) (first : Id) (count : ℕ) → fits before (Quantify q first count) ≡ true → first.index + count ≤ i
  list_before q first count h = omega (arith, (bits before first.index count h).within, long)

fits_there : (d : List Node) (i : ℕ) (n : Node) → is_ordered d ≡ true → i < length d → n ≡ get_or d i n → fits (widths (take i d)) n ≡ true
fits_there d i n ordered lt is = subst (λ (m : Node). fits (widths (take i d)) m ≡ true) (sym is) (fits-at d i n ordered lt)

pub fitting_at : (d : List Node) (i : ℕ) (n : Node) → is_ordered d ≡ true → i < length d → n ≡ get_or d i n → IsFitting d n
fitting_at d i n ordered lt is = fitting_before d i lt n (fits_there d i n ordered lt is)

pub list_at : (d : List Node) (i : ℕ) (n : Node) (q : Quantifier) (first : Id) (count : ℕ) → is_ordered d ≡ true → i < length d → n ≡ get_or d i n → n ≡ Quantify q first count → first.index + count ≤ i
list_at d i n q first count ordered lt is which = list_before d i lt q first count (subst (λ (m : Node). fits (widths (take i d)) m ≡ true) which (fits_there d i n ordered lt is))

pub below_at : (d : List Node) (i : ℕ) (n : Node) → is_ordered d ≡ true → i < length d → n ≡ get_or d i n → IsBelow i n
below_at d i n ordered lt is = below_before d i lt n (fits_there d i n ordered lt is)
