-- Truth values that are copied one behind the other, and the node over the copies.
use Rattle.std.proofs.Common.{◌≡◌, ℕ, ◌+◌, ◌^◌, ◌<◌, ◌≤◌, true, List, [], ◌∷◌, ◌++◌, length, get_or, map, take, refl, sym, ap, subst, ◌∙◌, arith}
use Rattle.std.specs.Prelude.{All}
use Rattle.std.specs.List.{AllByRecursion}
use Rattle.std.proofs.lemmas.List.{take_more, take_all, map-append, length_push}
use Rattle.word_dag.specs.declared.nodes.Id.{Id}
use Rattle.word_dag.specs.declared.nodes.Node.{Node}
use Rattle.word_dag.specs.declared.nodes.Node.TheVariants.{Cut, Quantify}
use Rattle.word_dag.specs.declared.nodes.Quantifier.{Quantifier}
use Rattle.word_dag.specs.Meaning.{bit_value, places, at_places, quantified, widths, values, width, value}
use Rattle.word_dag.specs.Fitting.{fits, is_ordered}
use Rattle.word_dag.specs.Growth.{Within, Extends, Makes, MeansSame, IsTruthValue, IsCopied, Quantifies, IsFitting}
use Rattle.word_dag.proofs.Bounds.{value_below}
use Rattle.word_dag.proofs.Grown.{extends_itself, extends_more, extends_push}
use Rattle.word_dag.proofs.Shared.{made_behind, made_same, stands_last}
use Rattle.word_dag.proofs.Places.{places_below, places_more, at_agree, only_bit}

-- ---- one copy

pub copy_fits : (d : List Node) (i : Id) → IsTruthValue d i → IsFitting d (Cut i 0 1)
copy_fits d i bit = (bit.there, omega arith, omega (arith, bit.width_is))

-- m means what the cut means, and stands behind the nodes of d
pub copied_by : (d e : List Node) (i : Id) (m : Node) (j : Id) → is_ordered d ≡ true → is_ordered e ≡ true → IsTruthValue d i → MeansSame d (Cut i 0 1) m → fits (widths d) m ≡ true → e ≡ d ++ m ∷ [] → j ≡ record { index = length d } → IsCopied d e i
copied_by d e i m j ordered grown bit same fit more last =
    let extends : Extends d e = subst (Extends d) (sym more) (extends_push d m) in
    let made : Makes d e (Cut i 0 1) j = made_same d e (Cut i 0 1) m j same (made_behind d e m j extends grown fit (stands_last d e m j more last)) in
    record {
      count = ap length more ∙ length_push d m;
      width_is = ap (width e) (sym last) ∙ made.width_is;
      value_is = λ v.
          ap (value v e) (sym last) ∙ made.value_is v
          ∙ only_bit (value v d i) (subst (λ (w : ℕ). value v d i < 2 ^ w) bit.width_is (value_below v d i ordered bit.there));
    }

-- ---- copies of the first of some nodes

pub record Copies (d e : List Node) (ids : List Id) : Type 0 where
  pub extends : Extends d e
  pub count : length e ≡ length d + length ids
  pub bits : AllByRecursion (λ j. width e (record { index = j }) ≡ 1) (places (length d) (length ids))
  pub values : (v : ℕ → ℕ) → at_places (values v e) (places (length d) (length ids)) ≡ map (value v d) ids

pub copies_none : (d : List Node) → Copies d d []
copies_none d = record { extends = extends_itself d; count = omega arith; bits = tt; values = λ v. refl }

each_append : (P : ℕ → Type 0) (is js : List ℕ) → AllByRecursion P is → AllByRecursion P js → AllByRecursion P (is ++ js)
each_append P [] js first second = second
each_append P (i ∷ is) js first second = (first.0, each_append P is js first.1 second)

each_wider : (e f : List Node) (js : List ℕ) → Extends e f → AllByRecursion (λ j. j < length e) js → AllByRecursion (λ j. width e (record { index = j }) ≡ 1) js → AllByRecursion (λ j. width f (record { index = j }) ≡ 1) js
each_wider e f [] x below all = tt
each_wider e f (j ∷ js) x below all = (x.width_stays (record { index = j }) below.0 ∙ all.0, each_wider e f js x below.1 all.1)

pub copies_push : (d e f : List Node) (ids : List Id) (i : Id) → Copies d e ids → Within d i → Extends e f → IsCopied e f i → Copies d f (ids ++ i ∷ [])
copies_push d e f ids i so there x copied =
    let n : ℕ = length d in
    let m : ℕ = length ids in
    let whole : length (ids ++ i ∷ []) ≡ m + 1 = length_push ids i in
    let js : List ℕ = places n m in
    let place : length e ≡ n + m = so.count in
    let grown : places n (length (ids ++ i ∷ [])) ≡ js ++ (n + m) ∷ [] = (λ k. places n (whole k)) ∙ places_more n m in
    let below : AllByRecursion (λ j. j < length e) js = places_below n m (length e) (omega (arith, place)) in
    let last_wide : width f (record { index = n + m }) ≡ 1 = (λ k. width f (record { index = sym place k })) ∙ copied.width_is in
    record {
      extends = extends_more d e f so.extends x;
      count = omega (arith, copied.count, place, whole);
      bits = subst (λ (ks : List ℕ). AllByRecursion (λ j. width f (record { index = j }) ≡ 1) ks) (sym grown) (each_append (λ j. width f (record { index = j }) ≡ 1) js ((n + m) ∷ []) (each_wider e f js x below so.bits) (last_wide, tt));
      values = λ v.
          let last : get_or (values v f) (n + m) 0 ≡ value v d i = (λ k. value v f (record { index = sym place k })) ∙ copied.value_is v ∙ so.extends.value_stays v i there in
          (λ k. at_places (values v f) (grown k))
          ∙ map-append (λ j. get_or (values v f) j 0) js ((n + m) ∷ [])
          ∙ (λ k. (at_agree (length e) (values v e) (values v f) js (λ j l. x.value_stays v (record { index = j }) l) below ∙ so.values v) k ++ last k ∷ [])
          ∙ sym (map-append (value v d) ids (i ∷ []));
    }

pub copies_more : (d e f : List Node) (ids : List Id) (at : ℕ) (i : Id) → All (IsTruthValue d) ids → at < length ids → i ≡ get_or ids at i → Copies d e (take at ids) → Extends e f → IsCopied e f i → Copies d f (take (at + 1) ids)
copies_more d e f ids at i bits less is so x copied =
    let bit : IsTruthValue d i = subst (IsTruthValue d) (sym is) (bits at i less) in
    subst (Copies d f) (ap (λ (j : Id). take at ids ++ j ∷ []) is ∙ sym (take_more ids at i less)) (copies_push d e f (take at ids) i so bit.there x copied)

pub copies_bit : (d e : List Node) (ids : List Id) (at : ℕ) (i : Id) → All (IsTruthValue d) ids → at < length ids → i ≡ get_or ids at i → Copies d e (take at ids) → IsTruthValue e i
copies_bit d e ids at i bits less is so =
    let bit : IsTruthValue d i = subst (IsTruthValue d) (sym is) (bits at i less) in
    record { there = omega (arith, so.extends.longer, bit.there); width_is = so.extends.width_stays i bit.there ∙ bit.width_is }

-- ---- the node over the copies

pub copies_whole : (d e : List Node) (ids : List Id) (at : ℕ) → length ids ≤ at → Copies d e (take at ids) → Copies d e ids
copies_whole d e ids at l so = subst (Copies d e) (take_all at ids l) so

pub copies_fit : (d e : List Node) (q : Quantifier) (ids : List Id) (first : Id) (count : ℕ) → first ≡ record { index = length d } → count ≡ length ids → Copies d e ids → IsFitting e (Quantify q first count)
copies_fit d e q ids first count begin is so =
    subst (λ (f : Id). IsFitting e (Quantify q f count)) (sym begin) (subst (λ (n : ℕ). IsFitting e (Quantify q (record { index = length d }) n)) (sym is) (omega (arith, so.count), so.bits))

pub copies_made : (d e f : List Node) (q : Quantifier) (ids : List Id) (first i : Id) (count : ℕ) → first ≡ record { index = length d } → count ≡ length ids → Copies d e ids → Makes e f (Quantify q first count) i → Quantifies d f q ids i
copies_made d e f q ids first i count begin is so made = record {
  there = made.there;
  width_is = made.width_is;
  value_is = λ v. made.value_is v ∙ (λ k. bit_value (quantified q (at_places (values v e) (places (begin k).index (is k))))) ∙ (λ k. bit_value (quantified q (so.values v k)));
}
