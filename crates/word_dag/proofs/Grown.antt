-- Graphs that grow: what stays, and what a made node means.
use Rattle.std.proofs.Common.{◌≡◌, ℕ, ◌+◌, ◌^◌, ◌<◌, ◌≤◌, Bool, true, false, cond, List, [], ◌∷◌, ◌++◌, length, get_or, map, take, inl, inr, refl, sym, ap, subst, ◌∙◌, arith, nat_lt}
use Rattle.std.specs.List.{All}
use Rattle.std.proofs.lemmas.List.{get_or_append_left, get_or_push, length_push}
use Rattle.std.proofs.lemmas.List.Elements.{All-head, All-tail, All-same, All-push}
use Rattle.std.proofs.lemmas.Bool.{lt-ltb}
use Rattle.std.proofs.lemmas.Bool.Decides.{Decides-ltb, nat_tests}
use Rattle.words.specs.BitVector.{BitVector}
use Rattle.word_dag.specs.declared.nodes.Id.{Id}
use Rattle.word_dag.specs.declared.nodes.Node.{Node}
use Rattle.word_dag.specs.declared.nodes.Node.TheVariants.{Constant, Choice}
use Rattle.word_dag.specs.Meaning.{holds, node_width, node_value, widths, values, width, value}
use Rattle.word_dag.specs.Fitting.{is_width, fits, is_ordered}
use Rattle.word_dag.specs.Growth.{Within, Extends, Makes, Grows, IsDecided}
use Rattle.word_dag.proofs.Folds.{length_widths, length-values, widths-push, values-push, width-append, value-append, width-at, value-at}
use Rattle.word_dag.proofs.Operands.{both, IsWidth, width_range}
use Rattle.word_dag.proofs.Order.{fits-at}

-- ---- what stays

pub extends_itself : (d : List Node) → Extends d d
extends_itself d = record { longer = omega arith; node_stays = λ i n l. refl; width_stays = λ i l. refl; value_stays = λ v i l. refl }

pub extends_more : (d e f : List Node) → Extends d e → Extends e f → Extends d f
extends_more d e f x y =
    record {
      longer = omega (arith, x.longer, y.longer);
      node_stays = λ i n l. y.node_stays i n (omega (arith, x.longer)) ∙ x.node_stays i n l;
      width_stays = λ i l. y.width_stays i (omega (arith, x.longer)) ∙ x.width_stays i l;
      value_stays = λ v i l. y.value_stays v i (omega (arith, x.longer)) ∙ x.value_stays v i l;
    }

pub extends_push : (d : List Node) (n : Node) → Extends d (d ++ n ∷ [])
extends_push d n =
    record {
      longer = omega (arith, length_push d n);
      node_stays = λ i m l. get_or_append_left d (n ∷ []) m i l;
      width_stays = λ i l. width-append d (n ∷ []) i.index l;
      value_stays = λ v i l. value-append v d (n ∷ []) i.index l;
    }

pub within_stays : (d e : List Node) (i : Id) → Extends d e → Within d i → Within e i
within_stays d e i x l = omega (arith, x.longer)

pub all_within_stays : (d e : List Node) (ids : List Id) → Extends d e → All (Within d) ids → All (Within e) ids
all_within_stays d e ids x all = λ k i l. omega (arith, x.longer, all k i l)

pub map_stays : (v : ℕ → ℕ) (d e : List Node) (ids : List Id) → Extends d e → All (Within d) ids → map (value v e) ids ≡ map (value v d) ids
map_stays v d e [] x all = refl
map_stays v d e (i ∷ ids) x all =
    let p = x.value_stays v i (All-head (Within d) i ids all) in
    let q = map_stays v d e ids x (All-tail (Within d) i ids all) in
    λ k. p k ∷ q k

pub map_widths_stay : (d e : List Node) (ids : List Id) → Extends d e → All (Within d) ids → map (width e) ids ≡ map (width d) ids
map_widths_stay d e [] x all = refl
map_widths_stay d e (i ∷ ids) x all =
    let p = x.width_stays i (All-head (Within d) i ids all) in
    let q = map_widths_stay d e ids x (All-tail (Within d) i ids all) in
    λ k. p k ∷ q k

-- what is made stays what it is
pub makes_stay : (d e f : List Node) (n : Node) (i : Id) → Makes d e n i → Extends e f → Makes d f n i
makes_stay d e f n i m x =
    record {
      there = within_stays e f i x m.there;
      width_is = x.width_stays i m.there ∙ m.width_is;
      value_is = λ v. x.value_stays v i m.there ∙ m.value_is v;
    }

-- what is true of each constant and of the made node stays true of each node
pub all_grows : (P : Node → Type 0) (d e : List Node) (n : Node) → Grows d e n → P n → ((bits w : ℕ) → P (Constant bits w)) → All P d → All P e
all_grows P d e n (inl h) p q all = All-same P e d h all
all_grows P d e n (inr (inl h)) p q all = All-same P e (d ++ n ∷ []) h (All-push P d n all p)
all_grows P d e n (inr (inr (bits, w, h))) p q all = All-same P e (d ++ Constant bits w ∷ []) h (All-push P d (Constant bits w) all (q bits w))

-- a graph grows by one node at most
pub grows_by_one : (d e : List Node) (n : Node) → Grows d e n → length e ≤ length d + 1
grows_by_one d e n (inl h) = omega (arith, ap length h)
grows_by_one d e n (inr (inl h)) = omega (arith, ap length h, length_push d n)
grows_by_one d e n (inr (inr (bits, w, h))) = omega (arith, ap length h, length_push d (Constant bits w))

-- ---- what is made

pub makes_push : (d : List Node) (n : Node) → Makes d (d ++ n ∷ []) n (record { index = length d })
makes_push d n =
    record {
      there = omega (arith, length_push d n);
      width_is = ap (λ (ws : List ℕ). get_or ws (length d) 0) (widths-push d n) ∙ get_or_push (widths d) (node_width (widths d) n) 0 (length d) (length_widths d);
      value_is = λ v. ap (λ (vs : List ℕ). get_or vs (length d) 0) (values-push v d n) ∙ get_or_push (values v d) (node_value v (widths d) (values v d) n) 0 (length d) (length-values v d);
    }

-- a node that constants decide is made by the constant
pub makes_constant : (d : List Node) (n : Node) (w : BitVector) → IsDecided d n w → Makes d (d ++ Constant w.bits w.width ∷ []) n (record { index = length d })
makes_constant d n w k =
    let m = makes_push d (Constant w.bits w.width) in
    record { there = m.there; width_is = m.width_is ∙ k.width_is; value_is = λ v. m.value_is v ∙ sym (k.bits_are v) }

first_chosen : (b : Bool) (m n : ℕ) → b ≡ true → m ≡ cond b m n
first_chosen true m n h = refl
first_chosen false m n h = cc

second_chosen : (b : Bool) (m n : ℕ) → b ≡ false → n ≡ cond b m n
second_chosen true m n h = cc
second_chosen false m n h = refl

-- a choice by a constant is the chosen operand
pub makes_first : (d : List Node) (c a b : Id) (n : ℕ) → Within d a → ((v : ℕ → ℕ) → value v d c ≡ n) → 0 < n → Makes d d (Choice c a b) a
makes_first d c a b n l h p = record { there = l; width_is = refl; value_is = λ v. first_chosen (holds (value v d c)) (value v d a) (value v d b) (rw (h v) (lt-ltb 0 n p)) }

pub makes_second : (d : List Node) (c a b : Id) (n : ℕ) → Within d b → width d a ≡ width d b → ((v : ℕ → ℕ) → value v d c ≡ n) → n ≤ 0 → Makes d d (Choice c a b) b
makes_second d c a b n l e h p = record { there = l; width_is = sym e; value_is = λ v. second_chosen (holds (value v d c)) (value v d a) (value v d b) (rw (h v) (grind (arith, nat_tests))) }

-- a node that is a constant
pub record ConstantAt (ns : List Node) (i bits w : ℕ) : Type 0 where
  pub width_range : IsWidth w
  pub within : bits < 2 ^ w
  pub width_is : get_or (widths ns) i 0 ≡ w
  pub value_is : (v : ℕ → ℕ) → get_or (values v ns) i 0 ≡ bits

pub constant_at : (ns : List Node) (i bits w : ℕ) (n : Node) → is_ordered ns ≡ true → i < length ns → n ≡ get_or ns i n → n ≡ Constant bits w → ConstantAt ns i bits w
constant_at ns i bits w n h l r e =
    let node : get_or ns i n ≡ Constant bits w = sym r ∙ e in
    let f : fits (widths (take i ns)) (Constant bits w) ≡ true = subst (λ (m : Node). fits (widths (take i ns)) m ≡ true) node (fits-at ns i n h l) in
    let p = both (is_width w) (nat_lt bits (2 ^ w)) f in
    record {
      width_range = width_range w p.0;
      within = (Decides-ltb bits (2 ^ w)).0 p.1;
      width_is = width-at ns i n l ∙ ap (node_width (widths (take i ns))) node;
      value_is = λ v. value-at v ns i n l ∙ ap (node_value v (widths (take i ns)) (values v (take i ns))) node;
    }
