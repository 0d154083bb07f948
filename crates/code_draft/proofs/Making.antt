-- Nodes that are made from their end, and labels, the latest of which comes first.
use Rattle.std.proofs.Common.{◌≡◌, ℕ, ◌+◌, ◌-◌, ◌<◌, List, [], ◌∷◌, ◌++◌, length, get_or, take, drop, refl, sym, ap, ◌∙◌, arith}
use Rattle.std.specs.Prelude.{reverse}
use Rattle.std.proofs.lemmas.List.{reverse-append, reverse-reverse, length-reverse, length-drop, take-append-drop, take_more}
use Rattle.std.proofs.Math.Seq.{drop-append_seam}
use Rattle.goto_prog.specs.declared.nodes.Node.{Node}
use Rattle.goto_prog.specs.declared.nodes.Node as nodes
use Rattle.code_draft.specs.declared.places.Mark.{Mark}
use Rattle.goto_prog.specs.Nodes.{with_node, nodes_of, node_count}

pub pushed : (ns : List Node) (n : Node) → nodes_of (reverse (ns ++ n ∷ [])) ≡ with_node n (nodes_of (reverse ns))
pushed ns n = ap nodes_of (reverse-append ns (n ∷ []))

pub node_length : (ns : List Node) → node_count (nodes_of ns) ≡ length ns
node_length [] = refl
node_length (nodes.Plain i ∷ ns) = omega (arith, node_length ns)
node_length (nodes.Loop' line f n rotated shape body ∷ ns) = omega (arith, node_length ns)

pub reversed_count : (ns : List Node) → node_count (nodes_of (reverse ns)) ≡ length ns
reversed_count ns = node_length (reverse ns) ∙ length-reverse ns

pub reversed_more : {A : Type 0} (xs : List A) (x : A) → reverse (xs ++ x ∷ []) ≡ x ∷ reverse xs
reversed_more xs x = reverse-append xs (x ∷ [])

pub reversed_first : {A : Type 0} (xs : List A) (k : ℕ) → reverse (take k xs) ≡ drop (length (reverse xs) - k) (reverse xs)
reversed_first xs k =
    let parts : take k xs ++ drop k xs ≡ xs = take-append-drop k xs in
    let whole : reverse (drop k xs) ++ reverse (take k xs) ≡ reverse xs = sym (reverse-append (take k xs) (drop k xs)) ∙ ap reverse parts in
    let long : length (reverse (drop k xs)) ≡ length (reverse xs) - k = length-reverse (drop k xs) ∙ length-drop k xs ∙ ap (λ n. n - k) (sym (length-reverse xs)) in
    sym (ap (λ n. drop n (reverse xs)) (sym long) ∙ ap (λ ys. drop (length (reverse (drop k xs))) ys) (sym whole) ∙ drop-append_seam (reverse (drop k xs)) (reverse (take k xs)))

-- ---- what is known last, among the first of these

pub one_mark : (ms : List Mark) (k : ℕ) (m : Mark) → k < length ms → m ≡ get_or ms k m → reverse (take (k + 1) ms) ≡ m ∷ reverse (take k ms)
one_mark ms k m lt is = ap reverse (take_more ms k m lt) ∙ reversed_more (take k ms) (get_or ms k m) ∙ (λ i. sym is i ∷ reverse (take k ms))

pub reversed_back : {A : Type 0} (xs : List A) → reverse (reverse xs) ≡ xs
reversed_back xs = reverse-reverse xs
