-- Each node of a graph fits behind those before it, and so is its operation on the final widths and values.
use Rattle.std.proofs.Common.{◌≡◌, ℕ, zero, suc, ◌<◌, ◌≤◌, true, ◌&&◌, List, [], ◌∷◌, ◌++◌, length, get_or, take, sym, ◌∙◌, arith}
use Rattle.std.proofs.lemmas.List.{length-take-le}
use Rattle.word_dag.specs.declared.nodes.Node.{Node}
use Rattle.word_dag.specs.Meaning.{node_width, node_value, widths_from, widths, values}
use Rattle.word_dag.specs.Fitting.{fits, are_fitting, is_ordered}
use Rattle.word_dag.proofs.Folds.{length_widths, width-take, value-take, width-at, value-at}
use Rattle.word_dag.proofs.Operands.{both, Agree, node_width-agree, node_value-agree}

fitting-at : (ws : List ℕ) (ns : List Node) (i : ℕ) (d : Node) → are_fitting ws ns ≡ true → i < length ns → fits (widths_from ws (take i ns)) (get_or ns i d) ≡ true
fitting-at ws [] i d h l = absurd (omega arith)
fitting-at ws (n ∷ ns) zero d h l = (both (fits ws n) (are_fitting (ws ++ node_width ws n ∷ []) ns) h).0
fitting-at ws (n ∷ ns) (suc i) d h l =
    fitting-at (ws ++ node_width ws n ∷ []) ns i d (both (fits ws n) (are_fitting (ws ++ node_width ws n ∷ []) ns) h).1 (omega arith)

fitting-push : (ws : List ℕ) (ns : List Node) (n : Node) → are_fitting ws ns ≡ true → fits (widths_from ws ns) n ≡ true → are_fitting ws (ns ++ n ∷ []) ≡ true
fitting-push ws [] n h f = λ k. f k && true
fitting-push ws (m ∷ ns) n h f =
    let p = both (fits ws m) (are_fitting (ws ++ node_width ws m ∷ []) ns) h in
    let q = fitting-push (ws ++ node_width ws m ∷ []) ns n p.1 f in
    λ k. p.0 k && q k

-- the node at a place fits behind those before it
pub fits-at : (ns : List Node) (i : ℕ) (d : Node) → is_ordered ns ≡ true → i < length ns → fits (widths (take i ns)) (get_or ns i d) ≡ true
fits-at ns i d h l = fitting-at [] ns i d h l

-- a node that fits behind a graph can be added to it
pub ordered-push : (ns : List Node) (n : Node) → is_ordered ns ≡ true → fits (widths ns) n ≡ true → is_ordered (ns ++ n ∷ []) ≡ true
ordered-push ns n h f = fitting-push [] ns n h f

widths_agree : (ns : List Node) (i : ℕ) → i ≤ length ns → Agree (length (widths (take i ns))) (widths (take i ns)) (widths ns)
widths_agree ns i l = record { same = λ j h. width-take ns i j (omega (arith, length_widths (take i ns), length-take-le i ns l)) l }

values_agree : (v : ℕ → ℕ) (ns : List Node) (i : ℕ) → i ≤ length ns → Agree (length (widths (take i ns))) (values v (take i ns)) (values v ns)
values_agree v ns i l = record { same = λ j h. value-take v ns i j (omega (arith, length_widths (take i ns), length-take-le i ns l)) l }

-- each width and each value is that of the node over the widths and values of all nodes
pub width_is_final : (ns : List Node) (i : ℕ) (d : Node) → is_ordered ns ≡ true → i < length ns → get_or (widths ns) i 0 ≡ node_width (widths ns) (get_or ns i d)
width_is_final ns i d h l =
    let s : i ≤ length ns = omega arith in
    width-at ns i d l ∙ sym (node_width-agree (widths (take i ns)) (widths ns) (get_or ns i d) (widths_agree ns i s) (fits-at ns i d h l))

pub value_is_final : (v : ℕ → ℕ) (ns : List Node) (i : ℕ) (d : Node) → is_ordered ns ≡ true → i < length ns → get_or (values v ns) i 0 ≡ node_value v (widths ns) (values v ns) (get_or ns i d)
value_is_final v ns i d h l =
    let s : i ≤ length ns = omega arith in
    value-at v ns i d l
    ∙ sym (node_value-agree v (widths (take i ns)) (values v (take i ns)) (widths ns) (values v ns) (get_or ns i d) (widths_agree ns i s) (values_agree v ns i s) (fits-at ns i d h l))
