-- The folds over the nodes: one more node, the nodes before a place, and each node from those before it.
use Rattle.std.proofs.Common.{◌≡◌, ℕ, ◌+◌, ◌<◌, ◌≤◌, List, [], ◌∷◌, ◌++◌, length, get_or, take, drop, refl, ap, sym, ◌∙◌, arith}
use Rattle.std.proofs.lemmas.List.{take-append-drop, take_more, get_or_append_left, get_or_push, length_push, length-take-le}
use Rattle.word_dag.specs.declared.nodes.Node.{Node}
use Rattle.word_dag.specs.Meaning.{node_width, node_value, widths_from, values_from, widths, values}

-- ---- one list of nodes after another

pub widths_from-append : (ws : List ℕ) (xs ys : List Node) → widths_from ws (xs ++ ys) ≡ widths_from (widths_from ws xs) ys
widths_from-append ws [] ys = refl
widths_from-append ws (x ∷ xs) ys = widths_from-append (ws ++ node_width ws x ∷ []) xs ys

pub values_from-append : (v : ℕ → ℕ) (ws vs : List ℕ) (xs ys : List Node) → values_from v ws vs (xs ++ ys) ≡ values_from v (widths_from ws xs) (values_from v ws vs xs) ys
values_from-append v ws vs [] ys = refl
values_from-append v ws vs (x ∷ xs) ys = values_from-append v (ws ++ node_width ws x ∷ []) (vs ++ node_value v ws vs x ∷ []) xs ys

pub widths-push : (ns : List Node) (n : Node) → widths (ns ++ n ∷ []) ≡ widths ns ++ node_width (widths ns) n ∷ []
widths-push ns n = widths_from-append [] ns (n ∷ [])

pub values-push : (v : ℕ → ℕ) (ns : List Node) (n : Node) → values v (ns ++ n ∷ []) ≡ values v ns ++ node_value v (widths ns) (values v ns) n ∷ []
values-push v ns n = values_from-append v [] [] ns (n ∷ [])

-- ---- as many as nodes

length-widths_from : (ws : List ℕ) (ns : List Node) → length (widths_from ws ns) ≡ length ws + length ns
length-widths_from ws [] = omega arith
length-widths_from ws (n ∷ ns) = length-widths_from (ws ++ node_width ws n ∷ []) ns ∙ omega (arith, length_push ws (node_width ws n))

length-values_from : (v : ℕ → ℕ) (ws vs : List ℕ) (ns : List Node) → length (values_from v ws vs ns) ≡ length vs + length ns
length-values_from v ws vs [] = omega arith
length-values_from v ws vs (n ∷ ns) = length-values_from v (ws ++ node_width ws n ∷ []) (vs ++ node_value v ws vs n ∷ []) ns ∙ omega (arith, length_push vs (node_value v ws vs n))

pub length_widths : (ns : List Node) → length (widths ns) ≡ length ns
length_widths ns = length-widths_from [] ns ∙ omega arith

pub length-values : (v : ℕ → ℕ) (ns : List Node) → length (values v ns) ≡ length ns
length-values v ns = length-values_from v [] [] ns ∙ omega arith

-- ---- what stands before stays

widths_from-front : (ws : List ℕ) (ns : List Node) (i : ℕ) → i < length ws → get_or (widths_from ws ns) i 0 ≡ get_or ws i 0
widths_from-front ws [] i h = refl
widths_from-front ws (n ∷ ns) i h =
    let l : i < length (ws ++ node_width ws n ∷ []) = omega (arith, length_push ws (node_width ws n)) in
    widths_from-front (ws ++ node_width ws n ∷ []) ns i l ∙ get_or_append_left ws (node_width ws n ∷ []) 0 i h

values_from-front : (v : ℕ → ℕ) (ws vs : List ℕ) (ns : List Node) (i : ℕ) → i < length vs → get_or (values_from v ws vs ns) i 0 ≡ get_or vs i 0
values_from-front v ws vs [] i h = refl
values_from-front v ws vs (n ∷ ns) i h =
    let l : i < length (vs ++ node_value v ws vs n ∷ []) = omega (arith, length_push vs (node_value v ws vs n)) in
    values_from-front v (ws ++ node_width ws n ∷ []) (vs ++ node_value v ws vs n ∷ []) ns i l
    ∙ get_or_append_left vs (node_value v ws vs n ∷ []) 0 i h

pub width-append : (xs ys : List Node) (i : ℕ) → i < length xs → get_or (widths (xs ++ ys)) i 0 ≡ get_or (widths xs) i 0
width-append xs ys i h =
    let l : i < length (widths xs) = omega (arith, length_widths xs) in
    ap (λ (ws : List ℕ). get_or ws i 0) (widths_from-append [] xs ys) ∙ widths_from-front (widths xs) ys i l

pub value-append : (v : ℕ → ℕ) (xs ys : List Node) (i : ℕ) → i < length xs → get_or (values v (xs ++ ys)) i 0 ≡ get_or (values v xs) i 0
value-append v xs ys i h =
    let l : i < length (values v xs) = omega (arith, length-values v xs) in
    ap (λ (vs : List ℕ). get_or vs i 0) (values_from-append v [] [] xs ys) ∙ values_from-front v (widths xs) (values v xs) ys i l

pub width-take : (ns : List Node) (k i : ℕ) → i < k → k ≤ length ns → get_or (widths ns) i 0 ≡ get_or (widths (take k ns)) i 0
width-take ns k i h l =
    ap (λ (xs : List Node). get_or (widths xs) i 0) (sym (take-append-drop k ns)) ∙ width-append (take k ns) (drop k ns) i (omega (arith, length-take-le k ns l))

pub value-take : (v : ℕ → ℕ) (ns : List Node) (k i : ℕ) → i < k → k ≤ length ns → get_or (values v ns) i 0 ≡ get_or (values v (take k ns)) i 0
value-take v ns k i h l =
    ap (λ (xs : List Node). get_or (values v xs) i 0) (sym (take-append-drop k ns)) ∙ value-append v (take k ns) (drop k ns) i (omega (arith, length-take-le k ns l))

-- ---- each node from those before it

pub width-at : (ns : List Node) (i : ℕ) (d : Node) → i < length ns → get_or (widths ns) i 0 ≡ node_width (widths (take i ns)) (get_or ns i d)
width-at ns i d h =
    width-take ns (i + 1) i (omega arith) (omega arith)
    ∙ ap (λ (xs : List Node). get_or (widths xs) i 0) (take_more ns i d h)
    ∙ ap (λ (ws : List ℕ). get_or ws i 0) (widths-push (take i ns) (get_or ns i d))
    ∙ get_or_push (widths (take i ns)) (node_width (widths (take i ns)) (get_or ns i d)) 0 i (length_widths (take i ns) ∙ length-take-le i ns (omega arith))

pub value-at : (v : ℕ → ℕ) (ns : List Node) (i : ℕ) (d : Node) → i < length ns → get_or (values v ns) i 0 ≡ node_value v (widths (take i ns)) (values v (take i ns)) (get_or ns i d)
value-at v ns i d h =
    value-take v ns (i + 1) i (omega arith) (omega arith)
    ∙ ap (λ (xs : List Node). get_or (values v xs) i 0) (take_more ns i d h)
    ∙ ap (λ (vs : List ℕ). get_or vs i 0) (values-push v (take i ns) (get_or ns i d))
    ∙ get_or_push (values v (take i ns)) (node_value v (widths (take i ns)) (values v (take i ns)) (get_or ns i d)) 0 i (length-values v (take i ns) ∙ length-take-le i ns (omega arith))
