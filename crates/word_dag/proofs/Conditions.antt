-- The test of a node by the widths before it says the same as the condition on the graph.
use Rattle.std.proofs.Common.{◌≡◌, ℕ, ◌+◌, ◌^◌, ◌<◌, ◌≤◌, true, IsTrue, List, length, nat_lt, eq-eqb, arith}
use Rattle.std.specs.Cmp.Derive.{both_true}
use Rattle.std.proofs.lemmas.Bool.{le-leb, lt-ltb}
use Rattle.std.proofs.lemmas.Bool.Decides.{Decides-ltb}
use Rattle.word_dag.specs.declared.nodes.Id.{Id}
use Rattle.word_dag.specs.declared.nodes.Node.{Node}
use Rattle.word_dag.specs.declared.nodes.Node.TheVariants.{Constant, Variable, Not, Negate, Binary, Shift, Compare, Fits, Choice, ZeroExtend, SignExtend, Cut, Join, Quantify}
use Rattle.word_dag.specs.Meaning.{widths, width}
use Rattle.word_dag.specs.Fitting.{is_width, is_there, are_alike, fits}
use Rattle.word_dag.specs.Growth.{Within, IsFitting}
use Rattle.word_dag.proofs.Folds.{length_widths}
use Rattle.word_dag.proofs.Places.{bits, bits_from}
use Rattle.word_dag.proofs.Operands.{both, there, alike, width_range, chosen, widened, part, joint}

-- ---- from the condition

there_from : (d : List Node) (a : Id) → Within d a → is_there (widths d) a ≡ true
there_from d a h = lt-ltb a.index (length (widths d)) (omega (arith, length_widths d, h))

width_from : (w : ℕ) → 1 ≤ w → w ≤ 64 → is_width w ≡ true
width_from w h l = both_true (le-leb 1 w h) (le-leb w 64 l)

alike_from : (d : List Node) (a b : Id) → Within d a → Within d b → width d a ≡ width d b → are_alike (widths d) a b ≡ true
alike_from d a b h l e = both_true (both_true (there_from d a h) (there_from d b l)) (eq-eqb (width d a) (width d b) e)

pub fits_from : (d : List Node) (n : Node) → IsFitting d n → IsTrue (fits (widths d) n)
fits_from d (Constant bits w) h = both_true (width_from w h.0 h.1) (lt-ltb bits (2 ^ w) h.2)
fits_from d (Variable x w) h = width_from w h.0 h.1
fits_from d (Not a) h = there_from d a h
fits_from d (Negate a) h = there_from d a h
fits_from d (Binary o a b) h = alike_from d a b h.0 h.1 h.2
fits_from d (Shift s a count) h = alike_from d a count h.0 h.1 h.2
fits_from d (Compare c a b) h = alike_from d a b h.0 h.1 h.2
fits_from d (Fits t a b) h = alike_from d a b h.0 h.1 h.2
fits_from d (Choice c a b) h = both_true (both_true (there_from d c h.0) (eq-eqb (width d c) 1 h.1)) (alike_from d a b h.2 h.3 h.4)
fits_from d (ZeroExtend a w) h = both_true (both_true (there_from d a h.0) (le-leb (width d a) w h.1)) (le-leb w 64 h.2)
fits_from d (SignExtend a w) h = both_true (both_true (there_from d a h.0) (le-leb (width d a) w h.1)) (le-leb w 64 h.2)
fits_from d (Cut a low w) h = both_true (both_true (there_from d a h.0) (le-leb 1 w h.1)) (le-leb (low + w) (width d a) h.2)
fits_from d (Join high low) h = both_true (both_true (there_from d high h.0) (there_from d low h.1)) (le-leb (width d high + width d low) 64 h.2)
fits_from d (Quantify q first count) h = bits_from (widths d) first.index count (omega (arith, length_widths d, h.0)) h.1

-- ---- from the test

within_from : (d : List Node) (a : Id) → a.index < length (widths d) → Within d a
within_from d a h = omega (arith, length_widths d, h)

pub fitting_from : (d : List Node) (n : Node) → IsTrue (fits (widths d) n) → IsFitting d n
fitting_from d (Constant bits w) h =
    let p = both (is_width w) (nat_lt bits (2 ^ w)) h in
    let r = width_range w p.0 in
    (r.positive, r.at_most_64, (Decides-ltb bits (2 ^ w)).0 p.1)
fitting_from d (Variable x w) h = let r = width_range w h in (r.positive, r.at_most_64)
fitting_from d (Not a) h = within_from d a (there (widths d) a h)
fitting_from d (Negate a) h = within_from d a (there (widths d) a h)
fitting_from d (Binary o a b) h = let p = alike (widths d) a b h in (within_from d a p.left, within_from d b p.right, p.same)
fitting_from d (Shift s a count) h = let p = alike (widths d) a count h in (within_from d a p.left, within_from d count p.right, p.same)
fitting_from d (Compare c a b) h = let p = alike (widths d) a b h in (within_from d a p.left, within_from d b p.right, p.same)
fitting_from d (Fits t a b) h = let p = alike (widths d) a b h in (within_from d a p.left, within_from d b p.right, p.same)
fitting_from d (Choice c a b) h =
    let p = chosen (widths d) c a b h in
    (within_from d c p.there, p.bit, within_from d a p.alike.left, within_from d b p.alike.right, p.alike.same)
fitting_from d (ZeroExtend a w) h = let p = widened (widths d) a w h in (within_from d a p.there, p.not_narrower, p.at_most_64)
fitting_from d (SignExtend a w) h = let p = widened (widths d) a w h in (within_from d a p.there, p.not_narrower, p.at_most_64)
fitting_from d (Cut a low w) h = let p = part (widths d) a low w h in (within_from d a p.there, p.positive, p.within)
fitting_from d (Join high low) h = let p = joint (widths d) high low h in (within_from d high p.left, within_from d low p.right, p.at_most_64)
fitting_from d (Quantify q first count) h = let p = bits (widths d) first.index count h in (omega (arith, length_widths d, p.within), p.ones)
