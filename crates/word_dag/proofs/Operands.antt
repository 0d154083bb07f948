-- What the tests of `fits` tell, and that a node which fits is read from the nodes before it alone.
use Rattle.std.proofs.Common.{◌≡◌, ℕ, ◌+◌, ◌<◌, ◌≤◌, Bool, true, false, ◌&&◌, List, length, get_or, refl, cond, nat_le, ◌==◌}
use Rattle.std.proofs.lemmas.Bool.Decides.{Decides-ltb, Decides-eqb}
use Rattle.std.proofs.lemmas.Bool.{leb-true}
use Rattle.words.specs.Operators.{word_negation, word_complement, low_bits, logical_shift, sign_extension}
use Rattle.word_dag.specs.declared.nodes.Id.{Id}
use Rattle.word_dag.specs.declared.nodes.Node.{Node}
use Rattle.word_dag.specs.declared.nodes.Node.TheVariants.{Constant, Variable, Not, Negate, Binary, Shift, Compare, Fits, Choice, ZeroExtend, SignExtend, Cut, Join, Quantify}
use Rattle.word_dag.specs.Meaning.{at, bit_value, holds, joined, places, quantified, binary_value, shift_value, comparison_value, fits_value, node_width, node_value}
use Rattle.word_dag.specs.Fitting.{is_width, is_there, are_alike, fits}
use Rattle.word_dag.proofs.Places.{places_below, at_agree, bits}

-- ---- tests

pub both : (a b : Bool) → (a && b) ≡ true → (a ≡ true) × (b ≡ true)
both true b h = (refl, h)
both false b h = cc

pub there : (ws : List ℕ) (a : Id) → is_there ws a ≡ true → a.index < length ws
there ws a h = (Decides-ltb a.index (length ws)).0 h

pub record Alike (ws : List ℕ) (a b : Id) : Type 0 where
  pub left : a.index < length ws
  pub right : b.index < length ws
  pub same : at ws a ≡ at ws b

pub alike : (ws : List ℕ) (a b : Id) → are_alike ws a b ≡ true → Alike ws a b
alike ws a b h =
    let p = both (is_there ws a && is_there ws b) (at ws a == at ws b) h in
    let q = both (is_there ws a) (is_there ws b) p.0 in
    record { left = there ws a q.0; right = there ws b q.1; same = (Decides-eqb (at ws a) (at ws b)).0 p.1 }

pub record IsWidth (w : ℕ) : Type 0 where
  pub positive : 1 ≤ w
  pub at_most_64 : w ≤ 64

pub width_range : (w : ℕ) → is_width w ≡ true → IsWidth w
width_range w h =
    let p = both (nat_le 1 w) (nat_le w 64) h in
    record { positive = leb-true 1 w p.0; at_most_64 = leb-true w 64 p.1 }

pub record Chosen (ws : List ℕ) (c a b : Id) : Type 0 where
  pub there : c.index < length ws
  pub bit : at ws c ≡ 1
  pub alike : Alike ws a b

pub chosen : (ws : List ℕ) (c a b : Id) → fits ws (Choice c a b) ≡ true → Chosen ws c a b
chosen ws c a b h =
    let p = both (is_there ws c && (at ws c == 1)) (are_alike ws a b) h in
    let q = both (is_there ws c) (at ws c == 1) p.0 in
    record { there = there ws c q.0; bit = (Decides-eqb (at ws c) 1).0 q.1; alike = alike ws a b p.1 }

pub record Widened (ws : List ℕ) (a : Id) (w : ℕ) : Type 0 where
  pub there : a.index < length ws
  pub not_narrower : at ws a ≤ w
  pub at_most_64 : w ≤ 64

pub widened : (ws : List ℕ) (a : Id) (w : ℕ) → fits ws (ZeroExtend a w) ≡ true → Widened ws a w
widened ws a w h =
    let p = both (is_there ws a && nat_le (at ws a) w) (nat_le w 64) h in
    let q = both (is_there ws a) (nat_le (at ws a) w) p.0 in
    record { there = there ws a q.0; not_narrower = leb-true (at ws a) w q.1; at_most_64 = leb-true w 64 p.1 }

pub record Part (ws : List ℕ) (a : Id) (low w : ℕ) : Type 0 where
  pub there : a.index < length ws
  pub positive : 1 ≤ w
  pub within : low + w ≤ at ws a

pub part : (ws : List ℕ) (a : Id) (low w : ℕ) → fits ws (Cut a low w) ≡ true → Part ws a low w
part ws a low w h =
    let p = both (is_there ws a && nat_le 1 w) (nat_le (low + w) (at ws a)) h in
    let q = both (is_there ws a) (nat_le 1 w) p.0 in
    record { there = there ws a q.0; positive = leb-true 1 w q.1; within = leb-true (low + w) (at ws a) p.1 }

pub record Joint (ws : List ℕ) (high low : Id) : Type 0 where
  pub left : high.index < length ws
  pub right : low.index < length ws
  pub at_most_64 : at ws high + at ws low ≤ 64

pub joint : (ws : List ℕ) (high low : Id) → fits ws (Join high low) ≡ true → Joint ws high low
joint ws high low h =
    let p = both (is_there ws high && is_there ws low) (nat_le (at ws high + at ws low) 64) h in
    let q = both (is_there ws high) (is_there ws low) p.0 in
    record { left = there ws high q.0; right = there ws low q.1; at_most_64 = leb-true (at ws high + at ws low) 64 p.1 }

-- ---- what is read

-- the lists have the same numbers at the places below n
pub record Agree (n : ℕ) (xs ys : List ℕ) : Type 0 where
  pub same : (i : ℕ) → i < n → get_or ys i 0 ≡ get_or xs i 0

pub node_width-agree : (ws us : List ℕ) (n : Node) → Agree (length ws) ws us → fits ws n ≡ true → node_width us n ≡ node_width ws n
node_width-agree ws us (Constant bits w) g h = refl
node_width-agree ws us (Variable x w) g h = refl
node_width-agree ws us (Not a) g h = g.same a.index (there ws a h)
node_width-agree ws us (Negate a) g h = g.same a.index (there ws a h)
node_width-agree ws us (Binary o a b) g h = g.same a.index (alike ws a b h).left
node_width-agree ws us (Shift s a count) g h = g.same a.index (alike ws a count h).left
node_width-agree ws us (Compare c a b) g h = refl
node_width-agree ws us (Fits t a b) g h = refl
node_width-agree ws us (Choice c a b) g h = g.same a.index (chosen ws c a b h).alike.left
node_width-agree ws us (ZeroExtend a w) g h = refl
node_width-agree ws us (SignExtend a w) g h = refl
node_width-agree ws us (Cut a low w) g h = refl
node_width-agree ws us (Join high low) g h =
    let p = g.same high.index (joint ws high low h).left in
    let q = g.same low.index (joint ws high low h).right in
    λ k. p k + q k
node_width-agree ws us (Quantify q first count) g h = refl

pub node_value-agree : (v : ℕ → ℕ) (ws vs us xs : List ℕ) (n : Node) → Agree (length ws) ws us → Agree (length ws) vs xs → fits ws n ≡ true → node_value v us xs n ≡ node_value v ws vs n
node_value-agree v ws vs us xs (Constant bits w) g e h = refl
node_value-agree v ws vs us xs (Variable x w) g e h = refl
node_value-agree v ws vs us xs (Not a) g e h =
    let p = g.same a.index (there ws a h) in
    let q = e.same a.index (there ws a h) in
    λ k. word_complement (p k) (q k)
node_value-agree v ws vs us xs (Negate a) g e h =
    let p = g.same a.index (there ws a h) in
    let q = e.same a.index (there ws a h) in
    λ k. word_negation (p k) (q k)
node_value-agree v ws vs us xs (Binary o a b) g e h =
    let p = g.same a.index (alike ws a b h).left in
    let q = e.same a.index (alike ws a b h).left in
    let r = e.same b.index (alike ws a b h).right in
    λ k. binary_value o (p k) (q k) (r k)
node_value-agree v ws vs us xs (Shift s a count) g e h =
    let p = g.same a.index (alike ws a count h).left in
    let q = e.same a.index (alike ws a count h).left in
    let r = e.same count.index (alike ws a count h).right in
    λ k. shift_value s (p k) (q k) (r k)
node_value-agree v ws vs us xs (Compare c a b) g e h =
    let p = g.same a.index (alike ws a b h).left in
    let q = e.same a.index (alike ws a b h).left in
    let r = e.same b.index (alike ws a b h).right in
    λ k. bit_value (comparison_value c (p k) (q k) (r k))
node_value-agree v ws vs us xs (Fits t a b) g e h =
    let p = g.same a.index (alike ws a b h).left in
    let q = e.same a.index (alike ws a b h).left in
    let r = e.same b.index (alike ws a b h).right in
    λ k. bit_value (fits_value t (p k) (q k) (r k))
node_value-agree v ws vs us xs (Choice c a b) g e h =
    let p = e.same c.index (chosen ws c a b h).there in
    let q = e.same a.index (chosen ws c a b h).alike.left in
    let r = e.same b.index (chosen ws c a b h).alike.right in
    λ k. cond (holds (p k)) (q k) (r k)
node_value-agree v ws vs us xs (ZeroExtend a w) g e h = e.same a.index (widened ws a w h).there
node_value-agree v ws vs us xs (SignExtend a w) g e h =
    let p = g.same a.index (widened ws a w h).there in
    let q = e.same a.index (widened ws a w h).there in
    λ k. sign_extension (p k) w (q k)
node_value-agree v ws vs us xs (Cut a low w) g e h =
    let q = e.same a.index (part ws a low w h).there in
    λ k. low_bits w (logical_shift (q k) low)
node_value-agree v ws vs us xs (Join high low) g e h =
    let p = g.same low.index (joint ws high low h).right in
    let q = e.same high.index (joint ws high low h).left in
    let r = e.same low.index (joint ws high low h).right in
    λ k. joined (p k) (q k) (r k)
node_value-agree v ws vs us xs (Quantify q first count) g e h =
    let p = at_agree (length ws) vs xs (places first.index count) e.same (places_below first.index count (length ws) (bits ws first.index count h).within) in
    λ k. bit_value (quantified q (p k))
