-- What the code of a graph rests on: its widths, its constants, and the node that it adds.
use Rattle.std.proofs.Common.{◌≡◌, ℕ, ◌+◌, ◌<◌, ◌≤◌, true, IsTrue, List, [], ◌∷◌, ◌++◌, length, get_or, map, take, sym, ap, subst, ◌∙◌, arith}
use Rattle.std.proofs.lemmas.List.{get_or_read, take_more, take_all, length-map, map-append, get_or-map}
use Rattle.words.specs.BitVector.{BitVector, word}
use Rattle.word_dag.specs.declared.nodes.Id.{Id}
use Rattle.word_dag.specs.declared.nodes.Node.{Node}
use Rattle.word_dag.specs.declared.nodes.Node.TheVariants.{Constant, Choice}
use Rattle.word_dag.specs.Meaning.{node_width, node_value, widths, values, width, value}
use Rattle.word_dag.specs.Fitting.{fits, is_ordered}
use Rattle.word_dag.specs.Growth.{Within, Makes}
use Rattle.word_dag.proofs.Folds.{length_widths, widths-push, values-push}
use Rattle.word_dag.proofs.Operands.{IsWidth, chosen}
use Rattle.word_dag.proofs.Order.{fits-at, ordered-push}
use Rattle.word_dag.proofs.Bounds.{width_is_range}
use Rattle.word_dag.proofs.Grown.{ConstantAt, constant_at, makes_first, makes_second}

-- ---- reading

-- the list ws keeps the widths of the nodes ns, which are d
pub width_read : (ws : List ℕ) (ns d : List Node) (i : Id) (r : ℕ) → ws ≡ widths ns → ns ≡ d → Within d i → r ≡ get_or ws i.index r → r ≡ width d i
width_read ws ns d i r w e l h =
    get_or_read ws i.index r (omega (arith, ap length w, length_widths ns, ap length e, l)) h 0
    ∙ ap (λ (us : List ℕ). get_or us i.index 0) w
    ∙ ap (λ (xs : List Node). width xs i) e

pub range_read : (ns d : List Node) (i : Id) (r : ℕ) → IsTrue (is_ordered ns) → ns ≡ d → Within d i → r ≡ width d i → IsWidth r
range_read ns d i r o e l h = subst IsWidth (sym h) (width_is_range d i (subst (λ (xs : List Node). IsTrue (is_ordered xs)) e o) l)

pub constant_read : (ns d : List Node) (i : Id) (bits w : ℕ) (n : Node) → IsTrue (is_ordered ns) → ns ≡ d → Within d i → n ≡ get_or ns i.index n → n ≡ Constant bits w → ConstantAt d i.index bits w
constant_read ns d i bits w n o e l r c =
    subst (λ (xs : List Node). ConstantAt xs i.index bits w) e (constant_at ns i.index bits w n o (omega (arith, ap length e, l)) r c)

pub chosen_first : (d : List Node) (n : Node) (c a b : Id) (m k : ℕ) → n ≡ Choice c a b → IsTrue (fits (widths d) n) → ((v : ℕ → ℕ) → value v d c ≡ m) → k ≡ m → 0 < k → Makes d d n a
chosen_first d n c a b m k e f h q p =
    let x = chosen (widths d) c a b (subst (λ (m : Node). fits (widths d) m ≡ true) e f) in
    subst (λ (m : Node). Makes d d m a) (sym e) (makes_first d c a b m (omega (arith, length_widths d, x.alike.left)) h (omega arith))

pub chosen_second : (d : List Node) (n : Node) (c a b : Id) (m k : ℕ) → n ≡ Choice c a b → IsTrue (fits (widths d) n) → ((v : ℕ → ℕ) → value v d c ≡ m) → k ≡ m → k ≤ 0 → Makes d d n b
chosen_second d n c a b m k e f h q p =
    let x = chosen (widths d) c a b (subst (λ (m : Node). fits (widths d) m ≡ true) e f) in
    subst (λ (m : Node). Makes d d m b) (sym e) (makes_second d c a b m (omega (arith, length_widths d, x.alike.right)) x.alike.same h (omega arith))

-- ---- adding

pub graph_put : (ns d ms : List Node) (n : Node) (ws us : List ℕ) (w : ℕ) → IsTrue (is_ordered ns) → ws ≡ widths ns → ns ≡ d → IsTrue (fits (widths d) n) → w ≡ node_width (widths d) n → us ≡ ws ++ w ∷ [] → ms ≡ ns ++ n ∷ [] → IsTrue (is_ordered ms) × (us ≡ widths ms)
graph_put ns d ms n ws us w o e v f g p q =
    let fit : IsTrue (fits (widths ns) n) = subst (λ (xs : List Node). IsTrue (fits (widths xs) n)) (sym v) f in
    let wide : w ≡ node_width (widths ns) n = g ∙ ap (λ (xs : List Node). node_width (widths xs) n) (sym v) in (
      subst (λ (xs : List Node). IsTrue (is_ordered xs)) (sym q) (ordered-push ns n o fit),
      p ∙ (λ k. e k ++ wide k ∷ []) ∙ sym (widths-push ns n) ∙ ap widths (sym q),
    )

-- ---- the words of the nodes

abbrev pub widths_of : List BitVector → List ℕ
widths_of xs = map (λ (w : BitVector). w.width) xs

abbrev pub bits_of : List BitVector → List ℕ
bits_of xs = map (λ (w : BitVector). w.bits) xs

-- the words xs, which the code reads as zs, are those of the nodes before place i
pub fits_next : (zs xs : List BitVector) (ns g : List Node) (i : ℕ) (d : Node) → zs ≡ xs → ns ≡ g → IsTrue (is_ordered g) → i < length ns → widths_of xs ≡ widths (take i ns) → IsTrue (fits (widths_of zs) (get_or ns i d))
fits_next zs xs ns g i d z n o l e =
    let ordered = subst (λ (ms : List Node). IsTrue (is_ordered ms)) (sym n) o in
    subst (λ (us : List ℕ). IsTrue (fits us (get_or ns i d))) (sym (ap widths_of z ∙ e)) (fits-at ns i d ordered l)

pub widths_next : (ys zs xs : List BitVector) (x : BitVector) (ns : List Node) (i : ℕ) (d : Node) → ys ≡ xs ++ x ∷ [] → zs ≡ xs → i < length ns → widths_of xs ≡ widths (take i ns) → x.width ≡ node_width (widths_of zs) (get_or ns i d) → widths_of ys ≡ widths (take (i + 1) ns)
widths_next ys zs xs x ns i d y z l e h =
    let q : x.width ≡ node_width (widths (take i ns)) (get_or ns i d) = h ∙ ap (λ (us : List ℕ). node_width us (get_or ns i d)) (ap widths_of z ∙ e) in
    ap widths_of y ∙ map-append (λ (w : BitVector). w.width) xs (x ∷ []) ∙ (λ k. e k ++ q k ∷ []) ∙ sym (widths-push (take i ns) (get_or ns i d)) ∙ ap widths (sym (take_more ns i d l))

pub bits_next : (v : ℕ → ℕ) (ys zs xs : List BitVector) (x : BitVector) (ns : List Node) (i : ℕ) (d : Node) → ys ≡ xs ++ x ∷ [] → zs ≡ xs → i < length ns → widths_of xs ≡ widths (take i ns) → bits_of xs ≡ values v (take i ns) → x.bits ≡ node_value v (widths_of zs) (bits_of zs) (get_or ns i d) → bits_of ys ≡ values v (take (i + 1) ns)
bits_next v ys zs xs x ns i d y z l e f h =
    let p = ap widths_of z ∙ e in
    let r = ap bits_of z ∙ f in
    let q : x.bits ≡ node_value v (widths (take i ns)) (values v (take i ns)) (get_or ns i d) = h ∙ (λ k. node_value v (p k) (r k) (get_or ns i d)) in
    ap bits_of y ∙ map-append (λ (w : BitVector). w.bits) xs (x ∷ []) ∙ (λ k. f k ++ q k ∷ []) ∙ sym (values-push v (take i ns) (get_or ns i d)) ∙ ap (values v) (sym (take_more ns i d l))

pub widths_whole : (xs : List BitVector) (ns d : List Node) (i : ℕ) → length ns ≤ i → ns ≡ d → widths_of xs ≡ widths (take i ns) → widths_of xs ≡ widths d
widths_whole xs ns d i l n e = e ∙ ap widths (take_all i ns l ∙ n)

pub bits_whole : (v : ℕ → ℕ) (xs : List BitVector) (ns d : List Node) (i : ℕ) → length ns ≤ i → ns ≡ d → bits_of xs ≡ values v (take i ns) → bits_of xs ≡ values v d
bits_whole v xs ns d i l n e = e ∙ ap (values v) (take_all i ns l ∙ n)

pub words_are_there : (xs : List BitVector) (d : List Node) → widths_of xs ≡ widths d → length xs ≡ length d
words_are_there xs d e = sym (length-map xs (λ (w : BitVector). w.width)) ∙ ap length e ∙ length_widths d

pub word_read : (v : ℕ → ℕ) (xs : List BitVector) (d : List Node) (i : Id) (r : BitVector) → widths_of xs ≡ widths d → bits_of xs ≡ values v d → Within d i → r ≡ get_or xs i.index r → r ≡ word (width d i) (value v d i)
word_read v xs d i r e f l h =
    let m : i.index < length xs = omega (arith, words_are_there xs d e, l) in
    let p : r.width ≡ width d i =
    ap (λ (w : BitVector). w.width) h ∙ sym (get_or-map (λ (w : BitVector). w.width) xs i.index r 0 m) ∙ ap (λ (us : List ℕ). get_or us i.index 0) e in
    let q : r.bits ≡ value v d i =
    ap (λ (w : BitVector). w.bits) h ∙ sym (get_or-map (λ (w : BitVector). w.bits) xs i.index r 0 m) ∙ ap (λ (us : List ℕ). get_or us i.index 0) f in
    λ k. word (p k) (q k)
