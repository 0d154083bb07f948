-- Each value is below 2 to the power of its width, and each width is from 1 to 64.
use Rattle.std.proofs.Common.{◌≡◌, ℕ, zero, suc, ◌+◌, ◌*◌, ◌^◌, ◌<◌, ◌≤◌, Bool, true, false, cond, List, [], ◌∷◌, ◌++◌, length, get_or, take, refl, sym, subst, ◌∙◌, arith, below_more}
use Rattle.std.proofs.Math.Nat.{mul-le-mul_right}
use Rattle.std.proofs.Math.Seq.{take-suc}
use Rattle.std.proofs.lemmas.List.{take_all, get_or_append_left, get_or_push, length_push}
use Rattle.std.proofs.lemmas.Nat.{pow-add}
use Rattle.std.proofs.lemmas.Bool.Decides.{Decides-ltb}
use Rattle.words.proofs.Ranges.{below_wider, low_bits_below, word_sum_below, word_difference_below, word_product_below, word_negation_below, word_complement_below, left_shift_below, unsigned_quotient_below, unsigned_remainder_below, logical_shift_below, signed_quotient_below, signed_remainder_below, arithmetic_shift_below, sign_extension_below, bit_and_below, bit_or_below, bit_xor_below}
use Rattle.word_dag.specs.declared.nodes.Id.{Id}
use Rattle.word_dag.specs.declared.nodes.Node.{Node}
use Rattle.word_dag.specs.declared.nodes.Node.TheVariants.{Constant, Variable, Not, Negate, Binary, Shift, Compare, Fits, Choice, ZeroExtend, SignExtend, Cut, Join, Quantify}
use Rattle.word_dag.specs.declared.nodes.BinaryOperator.{BinaryOperator}
use Rattle.word_dag.specs.declared.nodes.BinaryOperator.TheVariants.{Add, Subtract, Multiply, UnsignedDivide, SignedDivide, UnsignedRemainder, SignedRemainder, And, Or, Xor}
use Rattle.word_dag.specs.declared.nodes.ShiftKind.{ShiftKind}
use Rattle.word_dag.specs.declared.nodes.ShiftKind.TheVariants.{Left, Logical, Arithmetic}
use Rattle.word_dag.specs.Meaning.{at, bit_value, holds, joined, places, at_places, quantified, binary_value, shift_value, comparison_value, fits_value, node_width, node_value, widths, values, width, value}
use Rattle.word_dag.specs.Fitting.{is_width, fits, is_ordered}
use Rattle.word_dag.specs.Growth.{Within}
use Rattle.word_dag.proofs.Folds.{length_widths, length-values, widths-push, values-push}
use Rattle.word_dag.proofs.Operands.{both, there, alike, IsWidth, width_range, chosen, widened, part, joint}
use Rattle.word_dag.proofs.Order.{fits-at}

-- ---- one operation

pub bit_below : (b : Bool) → bit_value b < 2 ^ 1
bit_below true = omega arith
bit_below false = omega arith

pub joined_below : (w u a b : ℕ) → a < 2 ^ w → b < 2 ^ u → joined u a b < 2 ^ (w + u)
joined_below w u a b h l =
    let p : suc a * 2 ^ u ≤ 2 ^ w * 2 ^ u = mul-le-mul_right (2 ^ u) h in
    omega (arith, p, pow-add 2 w u)

pub binary_below : (o : BinaryOperator) (w a b : ℕ) → a < 2 ^ w → b < 2 ^ w → binary_value o w a b < 2 ^ w
binary_below Add w a b h l = word_sum_below w a b
binary_below Subtract w a b h l = word_difference_below w a b
binary_below Multiply w a b h l = word_product_below w a b
binary_below UnsignedDivide w a b h l = unsigned_quotient_below w a b h
binary_below SignedDivide w a b h l = signed_quotient_below w a b
binary_below UnsignedRemainder w a b h l = unsigned_remainder_below w a b h
binary_below SignedRemainder w a b h l = signed_remainder_below w a b
binary_below And w a b h l = bit_and_below w a b h
binary_below Or w a b h l = bit_or_below w a b h l
binary_below Xor w a b h l = bit_xor_below w a b h l

pub shift_below : (s : ShiftKind) (w a count : ℕ) → a < 2 ^ w → shift_value s w a count < 2 ^ w
shift_below Left w a count h = left_shift_below w a count
shift_below Logical w a count h = logical_shift_below w a count h
shift_below Arithmetic w a count h = arithmetic_shift_below w a count

choice_below : (b : Bool) {m n k : ℕ} → m < k → n < k → cond b m n < k
choice_below true p q = p
choice_below false p q = q

-- ---- one node

-- the values vs are below 2 to the power of the widths ws
pub record AreBelow (ws vs : List ℕ) : Type 0 where
  pub below : (i : ℕ) → i < length ws → get_or vs i 0 < 2 ^ get_or ws i 0

pub node_below : (v : ℕ → ℕ) (ws vs : List ℕ) (n : Node) → AreBelow ws vs → fits ws n ≡ true → node_value v ws vs n < 2 ^ node_width ws n
node_below v ws vs (Constant bits w) g h = (Decides-ltb bits (2 ^ w)).0 (both (is_width w) _ h).1
node_below v ws vs (Variable x w) g h = low_bits_below w (v x)
node_below v ws vs (Not a) g h = word_complement_below (at ws a) (at vs a)
node_below v ws vs (Negate a) g h = word_negation_below (at ws a) (at vs a)
node_below v ws vs (Binary o a b) g h =
    let p = alike ws a b h in
    let r : at vs b < 2 ^ at ws a = subst (λ (w : ℕ). at vs b < 2 ^ w) (sym p.same) (g.below b.index p.right) in
    binary_below o (at ws a) (at vs a) (at vs b) (g.below a.index p.left) r
node_below v ws vs (Shift s a count) g h = shift_below s (at ws a) (at vs a) (at vs count) (g.below a.index (alike ws a count h).left)
node_below v ws vs (Compare c a b) g h = bit_below (comparison_value c (at ws a) (at vs a) (at vs b))
node_below v ws vs (Fits t a b) g h = bit_below (fits_value t (at ws a) (at vs a) (at vs b))
node_below v ws vs (Choice c a b) g h =
    let p = (chosen ws c a b h).alike in
    let r : at vs b < 2 ^ at ws a = subst (λ (w : ℕ). at vs b < 2 ^ w) (sym p.same) (g.below b.index p.right) in
    choice_below (holds (at vs c)) (g.below a.index p.left) r
node_below v ws vs (ZeroExtend a w) g h =
    let p = widened ws a w h in below_wider (at ws a) w (at vs a) p.not_narrower (g.below a.index p.there)
node_below v ws vs (SignExtend a w) g h = sign_extension_below (at ws a) w (at vs a)
node_below v ws vs (Cut a low w) g h = low_bits_below w _
node_below v ws vs (Join high low) g h =
    let p = joint ws high low h in
    joined_below (at ws high) (at ws low) (at vs high) (at vs low) (g.below high.index p.left) (g.below low.index p.right)
node_below v ws vs (Quantify q first count) g h = bit_below (quantified q (at_places vs (places first.index count)))

pub record AreWidths (ws : List ℕ) : Type 0 where
  pub each : (i : ℕ) → i < length ws → IsWidth (get_or ws i 0)

pub node_range : (ws : List ℕ) (n : Node) → AreWidths ws → fits ws n ≡ true → IsWidth (node_width ws n)
node_range ws (Constant bits w) g h = width_range w (both (is_width w) _ h).0
node_range ws (Variable x w) g h = width_range w h
node_range ws (Not a) g h = g.each a.index (there ws a h)
node_range ws (Negate a) g h = g.each a.index (there ws a h)
node_range ws (Binary o a b) g h = g.each a.index (alike ws a b h).left
node_range ws (Shift s a count) g h = g.each a.index (alike ws a count h).left
node_range ws (Compare c a b) g h = record { positive = omega arith; at_most_64 = omega arith }
node_range ws (Fits t a b) g h = record { positive = omega arith; at_most_64 = omega arith }
node_range ws (Choice c a b) g h = g.each a.index (chosen ws c a b h).alike.left
node_range ws (ZeroExtend a w) g h =
    let p = widened ws a w h in
    let q = g.each a.index p.there in
    record { positive = omega (arith, q.positive, p.not_narrower); at_most_64 = p.at_most_64 }
node_range ws (SignExtend a w) g h =
    let p = widened ws a w h in
    let q = g.each a.index p.there in
    record { positive = omega (arith, q.positive, p.not_narrower); at_most_64 = p.at_most_64 }
node_range ws (Cut a low w) g h =
    let p = part ws a low w h in
    let q = g.each a.index p.there in
    record { positive = p.positive; at_most_64 = omega (arith, q.at_most_64, p.within) }
node_range ws (Join high low) g h =
    let p = joint ws high low h in
    let q = g.each high.index p.left in
    record { positive = omega (arith, q.positive); at_most_64 = p.at_most_64 }
node_range ws (Quantify q first count) g h = record { positive = omega arith; at_most_64 = omega arith }

-- ---- all nodes

AreBelow-push : (ws vs : List ℕ) (w a : ℕ) → length vs ≡ length ws → AreBelow ws vs → a < 2 ^ w → AreBelow (ws ++ w ∷ []) (vs ++ a ∷ [])
AreBelow-push ws vs w a e g h =
    let P : ℕ → Type 0 = λ i. get_or (vs ++ a ∷ []) i 0 < 2 ^ get_or (ws ++ w ∷ []) i 0 in
    let old : (i : ℕ) → i < length ws → P i =
    λ i l. subst (λ (m : ℕ). m < 2 ^ get_or (ws ++ w ∷ []) i 0) (sym (get_or_append_left vs (a ∷ []) 0 i (omega arith)))
    (subst (λ (u : ℕ). get_or vs i 0 < 2 ^ u) (sym (get_or_append_left ws (w ∷ []) 0 i l)) (g.below i l)) in
    let new : P (length ws) =
    subst (λ (m : ℕ). m < 2 ^ get_or (ws ++ w ∷ []) (length ws) 0) (sym (get_or_push vs a 0 (length ws) e))
    (subst (λ (u : ℕ). a < 2 ^ u) (sym (get_or_push ws w 0 (length ws) refl)) h) in
    record { below = λ i l. below_more P (length ws) old new i (omega (arith, length_push ws w)) }

AreWidths-push : (ws : List ℕ) (w : ℕ) → AreWidths ws → IsWidth w → AreWidths (ws ++ w ∷ [])
AreWidths-push ws w g h =
    let P : ℕ → Type 0 = λ i. IsWidth (get_or (ws ++ w ∷ []) i 0) in
    let old : (i : ℕ) → i < length ws → P i = λ i l. subst IsWidth (sym (get_or_append_left ws (w ∷ []) 0 i l)) (g.each i l) in
    let new : P (length ws) = subst IsWidth (sym (get_or_push ws w 0 (length ws) refl)) h in
    record { each = λ i l. below_more P (length ws) old new i (omega (arith, length_push ws w)) }

-- the nodes before place k
pub below_before : (v : ℕ → ℕ) (ns : List Node) → is_ordered ns ≡ true → (k : ℕ) → k ≤ length ns → AreBelow (widths (take k ns)) (values v (take k ns))
below_before v ns h zero l = record { below = λ i m. absurd (omega arith) }
below_before v ns h (suc k) l =
    let d : Node = get_or ns k (Variable 0 0) in
    let here : AreBelow (widths (take k ns)) (values v (take k ns)) = below_before v ns h k (omega arith) in
    let lengths : length (values v (take k ns)) ≡ length (widths (take k ns)) = length-values v (take k ns) ∙ sym (length_widths (take k ns)) in
    let next = AreBelow-push (widths (take k ns)) (values v (take k ns)) (node_width (widths (take k ns)) d) (node_value v (widths (take k ns)) (values v (take k ns)) d) lengths here (node_below v (widths (take k ns)) (values v (take k ns)) d here (fits-at ns k (Variable 0 0) h (omega arith))) in
    subst (λ (xs : List Node). AreBelow (widths xs) (values v xs)) (sym (take-suc ns k (Variable 0 0) (omega arith)))
    (subst (λ (us : List ℕ). AreBelow us (values v (take k ns ++ d ∷ []))) (sym (widths-push (take k ns) d))
    (subst (λ (us : List ℕ). AreBelow (widths (take k ns) ++ node_width (widths (take k ns)) d ∷ []) us) (sym (values-push v (take k ns) d)) next))

pub range_before : (ns : List Node) → is_ordered ns ≡ true → (k : ℕ) → k ≤ length ns → AreWidths (widths (take k ns))
range_before ns h zero l = record { each = λ i m. absurd (omega arith) }
range_before ns h (suc k) l =
    let d : Node = get_or ns k (Variable 0 0) in
    let here : AreWidths (widths (take k ns)) = range_before ns h k (omega arith) in
    let next = AreWidths-push (widths (take k ns)) (node_width (widths (take k ns)) d) here (node_range (widths (take k ns)) d here (fits-at ns k (Variable 0 0) h (omega arith))) in
    subst (λ (xs : List Node). AreWidths (widths xs)) (sym (take-suc ns k (Variable 0 0) (omega arith)))
    (subst AreWidths (sym (widths-push (take k ns) d)) next)

-- a value is below 2 to the power of its width, whatever the variables are
pub value_below : (v : ℕ → ℕ) (ns : List Node) (i : Id) → is_ordered ns ≡ true → Within ns i → value v ns i < 2 ^ width ns i
value_below v ns i h l =
    let all = subst (λ (xs : List Node). AreBelow (widths xs) (values v xs)) (take_all (length ns) ns (omega arith)) (below_before v ns h (length ns) (omega arith)) in
    all.below i.index (omega (arith, length_widths ns))

pub width_is_range : (ns : List Node) (i : Id) → is_ordered ns ≡ true → Within ns i → IsWidth (width ns i)
width_is_range ns i h l =
    let all = subst (λ (xs : List Node). AreWidths (widths xs)) (take_all (length ns) ns (omega arith)) (range_before ns h (length ns) (omega arith)) in
    all.each i.index (omega (arith, length_widths ns))
