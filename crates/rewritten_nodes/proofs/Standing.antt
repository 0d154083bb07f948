-- Nodes over those that stand for their operands, and what is known as the graph grows.
use Rattle.std.proofs.Common.{◌≡◌, ℕ, ◌+◌, ◌<◌, ◌≤◌, Bool, true, false, cond, List, [], ◌∷◌, ◌++◌, length, get_or, map, Option, Some, None, refl, sym, ap, subst, ◌∙◌, arith, below_more}
use Rattle.std.specs.Prelude.{All, ◌==◌, IfSome, if◌then◌else◌}
use Rattle.std.specs.List.{AllByRecursion}
use Rattle.std.proofs.lemmas.List.Elements.{All-from_recursion}
use Rattle.std.specs.Ordering.{nat_cmp}
use Rattle.std.specs.BTreeMap.{is_at}
use Rattle.std.specs.Cmp.{unsigned_tied}
use Rattle.std.proofs.lemmas.List.{get_or_append_left, get_or_push, get_or_default, length_push, map-append}
use Rattle.word_dag.proofs.Places.{places_more}
use Rattle.std.proofs.lemmas.Bool.Decides.{nat_tests}
use Rattle.words.specs.Operators.{word_negation, word_complement, low_bits, logical_shift, sign_extension}
use Rattle.word_dag.specs.declared.nodes.Id.{Id}
use Rattle.word_dag.specs.declared.nodes.Node.{Node}
use Rattle.word_dag.specs.declared.nodes.Node.TheVariants.{Constant, Variable, Not, Negate, Binary, Shift, Compare, Fits, Choice, ZeroExtend, SignExtend, Cut, Join, Quantify}
use Rattle.word_dag.specs.declared.nodes.Quantifier.{Quantifier}
use Rattle.word_dag.specs.Meaning.{bit_value, holds, joined, places, at_places, quantified, binary_value, shift_value, comparison_value, fits_value, node_width, node_value, widths, values, width, value}
use Rattle.word_dag.specs.Fitting.{is_ordered}
use Rattle.word_dag.specs.Growth.{Within, Extends, Makes, IsTruthValue, Quantifies, IsFitting}
use Rattle.word_dag.proofs.Grown.{extends_itself, extends_more}
use Rattle.word_dag.proofs.Order.{width_is_final, value_is_final}
use Rattle.rewritten_nodes.specs.declared.known.Known.{Known}
use Rattle.rewritten_nodes.specs.Images.{image, over, known_at, KnownIn, Agrees}
use Rattle.rewritten_nodes.proofs.Fitted.{IsBelow, fitting_at, below_at}

-- ---- a node over others

module _ (d : List Node) (ids : List Id) (there : (a : Id) → a.index < length ids → Within d (image ids a)) (wide : (a : Id) → a.index < length ids → width d (image ids a) ≡ width d a) where
  pub over_fits : (n : Node) → IsFitting d n → IsBelow (length ids) n → IsFitting d (over ids n)
  over_fits (Constant bits w) f b = f
  over_fits (Variable x w) f b = f
  over_fits (Not a) f b = there a b
  over_fits (Negate a) f b = there a b
  over_fits (Binary o a c) f b = (there a b.0, there c b.1, wide a b.0 ∙ f.2 ∙ sym (wide c b.1))
  over_fits (Shift s a c) f b = (there a b.0, there c b.1, wide a b.0 ∙ f.2 ∙ sym (wide c b.1))
  over_fits (Compare t a c) f b = (there a b.0, there c b.1, wide a b.0 ∙ f.2 ∙ sym (wide c b.1))
  over_fits (Fits t a c) f b = (there a b.0, there c b.1, wide a b.0 ∙ f.2 ∙ sym (wide c b.1))
  over_fits (Choice c x y) f b = (there c b.0, wide c b.0 ∙ f.1, there x b.1, there y b.2, wide x b.1 ∙ f.4 ∙ sym (wide y b.2))
  over_fits (ZeroExtend a w) f b = (there a b, omega (arith, wide a b, f.1), f.2)
  over_fits (SignExtend a w) f b = (there a b, omega (arith, wide a b, f.1), f.2)
  over_fits (Cut a low w) f b = (there a b, f.1, omega (arith, wide a b, f.2))
  over_fits (Join high low) f b = (there high b.0, there low b.1, omega (arith, wide high b.0, wide low b.1, f.2))
  over_fits (Quantify q first count) f b = f

  pub over_width : (n : Node) → IsBelow (length ids) n → node_width (widths d) (over ids n) ≡ node_width (widths d) n
  over_width (Constant bits w) b = refl
  over_width (Variable x w) b = refl
  over_width (Not a) b = wide a b
  over_width (Negate a) b = wide a b
  over_width (Binary o a c) b = wide a b.0
  over_width (Shift s a c) b = wide a b.0
  over_width (Compare t a c) b = refl
  over_width (Fits t a c) b = refl
  over_width (Choice c x y) b = wide x b.1
  over_width (ZeroExtend a w) b = refl
  over_width (SignExtend a w) b = refl
  over_width (Cut a low w) b = refl
  over_width (Join high low) b = let p = wide high b.0 in let q = wide low b.1 in λ k. p k + q k
  over_width (Quantify q first count) b = refl

  pub over_value : (v : ℕ → ℕ) → ((a : Id) → a.index < length ids → value v d (image ids a) ≡ value v d a) → (n : Node) → IsBelow (length ids) n
      → node_value v (widths d) (values v d) (over ids n) ≡ node_value v (widths d) (values v d) n
  over_value v same (Constant bits w) b = refl
  over_value v same (Variable x w) b = refl
  over_value v same (Not a) b = let p = wide a b in let q = same a b in λ k. word_complement (p k) (q k)
  over_value v same (Negate a) b = let p = wide a b in let q = same a b in λ k. word_negation (p k) (q k)
  over_value v same (Binary o a c) b = let p = wide a b.0 in let q = same a b.0 in let r = same c b.1 in λ k. binary_value o (p k) (q k) (r k)
  over_value v same (Shift s a c) b = let p = wide a b.0 in let q = same a b.0 in let r = same c b.1 in λ k. shift_value s (p k) (q k) (r k)
  over_value v same (Compare t a c) b = let p = wide a b.0 in let q = same a b.0 in let r = same c b.1 in λ k. bit_value (comparison_value t (p k) (q k) (r k))
  over_value v same (Fits t a c) b = let p = wide a b.0 in let q = same a b.0 in let r = same c b.1 in λ k. bit_value (fits_value t (p k) (q k) (r k))
  over_value v same (Choice c x y) b = let p = same c b.0 in let q = same x b.1 in let r = same y b.2 in λ k. cond (holds (p k)) (q k) (r k)
  over_value v same (ZeroExtend a w) b = same a b
  over_value v same (SignExtend a w) b = let p = wide a b in let q = same a b in λ k. sign_extension (p k) w (q k)
  over_value v same (Cut a low w) b = let q = same a b in λ k. low_bits w (logical_shift (q k) low)
  over_value v same (Join high low) b = let p = wide low b.1 in let q = same high b.0 in let r = same low b.1 in λ k. joined (p k) (q k) (r k)
  over_value v same (Quantify q first count) b = refl

  -- the nodes that stand for those of a list
  image_bits : (js : List ℕ) → AllByRecursion (λ j. j < length ids) js → AllByRecursion (λ j. width d (record { index = j }) ≡ 1) js → AllByRecursion (IsTruthValue d) (map (λ j. image ids (record { index = j })) js)
  image_bits [] b ones = tt
  image_bits (j ∷ js) b ones =
      (record { there = there (record { index = j }) b.0; width_is = wide (record { index = j }) b.0 ∙ ones.0 }, image_bits js b.1 ones.1)

  pub images_bits : (js : List ℕ) → AllByRecursion (λ j. j < length ids) js → AllByRecursion (λ j. width d (record { index = j }) ≡ 1) js → All (IsTruthValue d) (map (λ j. image ids (record { index = j })) js)
  images_bits js b ones = All-from_recursion (IsTruthValue d) (map (λ j. image ids (record { index = j })) js) (image_bits js b ones)

  pub images_values : (v : ℕ → ℕ) → ((a : Id) → a.index < length ids → value v d (image ids a) ≡ value v d a) → (js : List ℕ) → AllByRecursion (λ j. j < length ids) js → map (value v d) (map (λ j. image ids (record { index = j })) js) ≡ at_places (values v d) js
  images_values v same [] b = refl
  images_values v same (j ∷ js) b = let p = same (record { index = j }) b.0 in λ k. p k ∷ images_values v same js b.1 k

-- one of a list more
pub images_more : (ids read : List Id) (first at : ℕ) (old new : List Id) (other : Id) → read ≡ ids → old ≡ map (λ j. image ids (record { index = j })) (places first at) → other ≡ image read (record { index = first + at }) → new ≡ old ++ other ∷ [] → new ≡ map (λ j. image ids (record { index = j })) (places first (at + 1))
images_more ids read first at old new other same so is pushed =
    pushed
    ∙ (λ k. so k ++ (is ∙ ap (λ (rs : List Id). image rs (record { index = first + at })) same) k ∷ [])
    ∙ sym (map-append (λ j. image ids (record { index = j })) (places first at) ((first + at) ∷ []))
    ∙ ap (map (λ j. image ids (record { index = j }))) (sym (places_more first at))

-- ---- the node at the place that is next

module _ (d : List Node) (k : Known) (n : Node) (ordered : is_ordered d ≡ true) (within : KnownIn d k) (more : length k.ids.items < length d) (at : n ≡ get_or d (length k.ids.items) n) where
  abbrev place : Id
  place = record { index = length k.ids.items }

  below : IsBelow (length k.ids.items) n
  below = below_at d (length k.ids.items) n ordered more at

  width_here : node_width (widths d) n ≡ width d (record { index = length k.ids.items })
  width_here = ap (node_width (widths d)) at ∙ sym (width_is_final d (length k.ids.items) n ordered more)

  value_here : (v : ℕ → ℕ) → node_value v (widths d) (values v d) n ≡ value v d (record { index = length k.ids.items })
  value_here v = ap (node_value v (widths d) (values v d)) at ∙ sym (value_is_final v d (length k.ids.items) n ordered more)

  pub next_fits : (m : Node) → m ≡ over k.ids.items n → IsFitting d m
  next_fits m is = subst (IsFitting d) (sym is) (over_fits d k.ids.items within.there within.widths n (fitting_at d (length k.ids.items) n ordered more at) below)

  pub next_width : (e : List Node) (m : Node) (i : Id) → m ≡ over k.ids.items n → Makes d e m i → width e i ≡ width d (record { index = length k.ids.items })
  next_width e m i is made = made.width_is ∙ ap (node_width (widths d)) is ∙ over_width d k.ids.items within.there within.widths n below ∙ width_here

  pub next_value : (e : List Node) (m : Node) (i : Id) → m ≡ over k.ids.items n → Makes d e m i → (v : ℕ → ℕ) → Agrees v d k → value v e i ≡ value v d (record { index = length k.ids.items })
  next_value e m i is made v agrees =
      made.value_is v ∙ ap (node_value v (widths d) (values v d)) is ∙ over_value d k.ids.items within.there within.widths v agrees.images n below ∙ value_here v

  module _ (q : Quantifier) (first : Id) (count : ℕ) (images : List Id) (is : n ≡ Quantify q first count) (standing : images ≡ map (λ j. image k.ids.items (record { index = j })) (places first.index count)) where
    places_known : AllByRecursion (λ j. j < length k.ids.items) (places first.index count)
    places_known = subst (IsBelow (length k.ids.items)) is below

    ones : IsFitting d (Quantify q first count)
    ones = subst (IsFitting d) is (fitting_at d (length k.ids.items) n ordered more at)

    pub list_fits : All (IsTruthValue d) images
    list_fits = subst (All (IsTruthValue d)) (sym standing) (images_bits d k.ids.items within.there within.widths (places first.index count) places_known ones.1)

    pub list_short : first.index + count ≤ length d
    list_short = ones.0

    pub list_width : (e : List Node) (i : Id) → Quantifies d e q images i → width e i ≡ width d (record { index = length k.ids.items })
    list_width e i made = made.width_is ∙ ap (node_width (widths d)) (sym is) ∙ width_here

    pub list_value : (e : List Node) (i : Id) → Quantifies d e q images i → (v : ℕ → ℕ) → Agrees v d k → value v e i ≡ value v d (record { index = length k.ids.items })
    list_value e i made v agrees =
        made.value_is v
        ∙ (λ j. bit_value (quantified q (map (value v d) (standing j))))
        ∙ (λ j. bit_value (quantified q (images_values d k.ids.items within.there within.widths v agrees.images (places first.index count) places_known j)))
        ∙ ap (node_value v (widths d) (values v d)) (sym is)
        ∙ value_here v

  pub variable_width : (i : Id) (x w : ℕ) → n ≡ Variable x w → width d i ≡ w → width d i ≡ width d (record { index = length k.ids.items })
  variable_width i x w is wide = wide ∙ ap (node_width (widths d)) (sym is) ∙ width_here

  pub variable_value : (i : Id) (x w : ℕ) → n ≡ Variable x w → ((v : ℕ → ℕ) → Agrees v d k → value v d i ≡ low_bits w (v x)) → (v : ℕ → ℕ) → Agrees v d k → value v d i ≡ value v d (record { index = length k.ids.items })
  variable_value i x w is known v agrees = known v agrees ∙ ap (node_value v (widths d) (values v d)) (sym is) ∙ value_here v

-- ---- what is known

pub known_none : (d : List Node) (k : Known) → k.ids.items ≡ [] → ((x : ℕ) → known_at k x ≡ None) → KnownIn d k
known_none d k empty none = record {
  size = omega (arith, ap length empty);
  there = λ a l. absurd (omega (arith, l, ap length empty));
  widths = λ a l. absurd (omega (arith, l, ap length empty));
  nodes = λ x. subst (λ (o : Option Id). IfSome o (Within d)) (sym (none x)) tt;
}

pub agrees_none : (v : ℕ → ℕ) (d : List Node) (k : Known) → k.ids.items ≡ [] → ((x : ℕ) → known_at k x ≡ None) → Agrees v d k
agrees_none v d k empty none = record {
  images = λ a l. absurd (omega (arith, l, ap length empty));
  nodes = λ x. subst (λ (o : Option Id). IfSome o (λ i. value v d i ≡ low_bits (width d i) (v x))) (sym (none x)) tt;
}

cond_is : {X : Type 0} (b : Bool) (x y : X) → cond b x y ≡ (if b then x else y)
cond_is true x y = refl
cond_is false x y = refl

pub inserted : (k : ℕ) (i : Id) (now old : ℕ → Option Id) → ((q : ℕ) → now q ≡ cond (is_at (nat_cmp k) q) (Some i) (old q)) → (q : ℕ) → now q ≡ (if k == q then Some i else old q)
inserted k i now old is q = is q ∙ ap (λ b. cond b (Some i) (old q)) (unsigned_tied k q) ∙ cond_is (k == q) (Some i) (old q)

some_if : (b : Bool) (i : Id) (o : Option Id) (P : Id → Type 0) → (b ≡ true → P i) → IfSome o P → IfSome (if b then Some i else o) P
some_if true i o P first second = first refl
some_if false i o P first second = second

equal_is : (m n : ℕ) → (m == n) ≡ true → m ≡ n
equal_is m n h = grind (arith, nat_tests)

pub known_inserted : (d : List Node) (k n : Known) (variable : ℕ) (i : Id) → n.ids.items ≡ k.ids.items → ((x : ℕ) → known_at n x ≡ (if variable == x then Some i else known_at k x)) → Within d i → KnownIn d k → KnownIn d n
known_inserted d k n variable i same is there within =
    let P : List Id → Type 0 = λ ids. (length ids ≤ length d) × ((a : Id) → a.index < length ids → Within d (image ids a)) × ((a : Id) → a.index < length ids → width d (image ids a) ≡ width d a) in
    let all : P n.ids.items = subst P (sym same) (within.size, within.there, within.widths) in
    record {
      size = all.0;
      there = all.1;
      widths = all.2;
      nodes = λ x. subst (λ (o : Option Id). IfSome o (Within d)) (sym (is x)) (some_if (variable == x) i (known_at k x) (Within d) (λ h. there) (within.nodes x));
    }

pub agrees_inserted : (v : ℕ → ℕ) (d : List Node) (k n : Known) (variable : ℕ) (i : Id) → n.ids.items ≡ k.ids.items → ((x : ℕ) → known_at n x ≡ (if variable == x then Some i else known_at k x)) → value v d i ≡ low_bits (width d i) (v variable) → Agrees v d k → Agrees v d n
agrees_inserted v d k n variable i same is value_is agrees =
    record {
      images = subst (λ (ids : List Id). (a : Id) → a.index < length ids → value v d (image ids a) ≡ value v d a) (sym same) agrees.images;
      nodes = λ x.
          let P : Id → Type 0 = λ j. value v d j ≡ low_bits (width d j) (v x) in
          subst (λ (o : Option Id). IfSome o P) (sym (is x)) (some_if (variable == x) i (known_at k x) P (λ h. value_is ∙ ap (λ y. low_bits (width d i) (v y)) (equal_is variable x h)) (agrees.nodes x));
    }

-- the node of a known variable that has this width
pub known_value : (d : List Node) (k : Known) (x w : ℕ) (i : Id) → known_at k x ≡ Some i → width d i ≡ w → (v : ℕ → ℕ) → Agrees v d k → value v d i ≡ low_bits w (v x)
known_value d k x w i is wide v agrees =
    subst (λ (o : Option Id). IfSome o (λ j. value v d j ≡ low_bits (width d j) (v x))) is (agrees.nodes x) ∙ ap (λ n. low_bits n (v x)) wide

pub known_there : (d : List Node) (k : Known) (x : ℕ) (i : Id) → known_at k x ≡ Some i → KnownIn d k → Within d i
known_there d k x i is within = subst (λ (o : Option Id). IfSome o (Within d)) is (within.nodes x)

-- ---- one node after the other

pub record Growing (d e : List Node) (k m : Known) : Type 0 where
  pub extends : Extends d e
  pub within : KnownIn e m
  pub agrees : (v : ℕ → ℕ) → Agrees v d k → Agrees v e m

pub growing_none : (d : List Node) (k : Known) → KnownIn d k → Growing d d k k
growing_none d k within = record { extends = extends_itself d; within = within; agrees = λ v a. a }

some_stays : (e f : List Node) (o : Option Id) → Extends e f → IfSome o (Within e) → IfSome o (Within f)
some_stays e f None y within = tt
some_stays e f (Some i) y within = omega (arith, y.longer, within)

value_stays_known : (v : ℕ → ℕ) (e f : List Node) (x : ℕ) (o : Option Id) → Extends e f → IfSome o (Within e) → IfSome o (λ i. value v e i ≡ low_bits (width e i) (v x)) → IfSome o (λ i. value v f i ≡ low_bits (width f i) (v x))
value_stays_known v e f x None y within agrees = tt
value_stays_known v e f x (Some i) y within agrees = y.value_stays v i within ∙ agrees ∙ sym (ap (λ w. low_bits w (v x)) (y.width_stays i within))

pub known_stays : (d e : List Node) (k : Known) → Extends d e → KnownIn d k → KnownIn e k
known_stays d e k y within = record {
  size = omega (arith, within.size, y.longer);
  there = λ a l. omega (arith, within.there a l, y.longer);
  widths = λ a l. y.width_stays (image k.ids.items a) (within.there a l) ∙ within.widths a l ∙ sym (y.width_stays a (omega (arith, l, within.size)));
  nodes = λ x. some_stays d e (known_at k x) y (within.nodes x);
}

pub agrees_stays : (v : ℕ → ℕ) (d e : List Node) (k : Known) → Extends d e → KnownIn d k → Agrees v d k → Agrees v e k
agrees_stays v d e k y within agrees = record {
  images = λ a l. y.value_stays v (image k.ids.items a) (within.there a l) ∙ agrees.images a l ∙ sym (y.value_stays v a (omega (arith, l, within.size)));
  nodes = λ x. value_stays_known v d e x (known_at k x) y (within.nodes x) (agrees.nodes x);
}

module _ (e f : List Node) (m n : Known) (i : Id) (y : Extends e f) (within : KnownIn e m) (more : length m.ids.items < length e) (there : Within f i) (wide : width f i ≡ width e (record { index = length m.ids.items })) (pushed : n.ids.items ≡ m.ids.items ++ i ∷ [])
    (nodes_are : (x : ℕ) → known_at n x ≡ known_at m x) where
  abbrev ids : List Id
  ids = m.ids.items

  abbrev grown : List Id
  grown = m.ids.items ++ i ∷ []

  old_image : (a : Id) → a.index < length m.ids.items → image (m.ids.items ++ i ∷ []) a ≡ image m.ids.items a
  old_image a l = get_or_append_left m.ids.items (i ∷ []) a a.index l

  new_image : (a : Id) → a.index ≡ length m.ids.items → image (m.ids.items ++ i ∷ []) a ≡ i
  new_image a is = ap (λ j. get_or (m.ids.items ++ i ∷ []) j a) is ∙ get_or_push m.ids.items i a (length m.ids.items) refl

  at_length : (a : Id) → a.index ≡ length m.ids.items → a ≡ record { index = length m.ids.items }
  at_length a is = λ k. record { index = is k }

  -- what is so of the nodes before and of the new one is so of all
  each : (P : Id → Type 0) → ((a : Id) → a.index < length m.ids.items → P a) → ((a : Id) → a.index ≡ length m.ids.items → P a) → (a : Id) → a.index < length (m.ids.items ++ i ∷ []) → P a
  each P old new a l = below_more (λ j. P (record { index = j })) (length m.ids.items) (λ j h. old (record { index = j }) h) (new (record { index = length m.ids.items }) refl) a.index (omega (arith, l, length_push m.ids.items i))

  there_grown : (a : Id) → a.index < length (m.ids.items ++ i ∷ []) → Within f (image (m.ids.items ++ i ∷ []) a)
  there_grown = each (λ a. Within f (image (m.ids.items ++ i ∷ []) a))
      (λ a h. subst (Within f) (sym (old_image a h)) (omega (arith, within.there a h, y.longer)))
      (λ a h. subst (Within f) (sym (new_image a h)) there)

  widths_grown : (a : Id) → a.index < length (m.ids.items ++ i ∷ []) → width f (image (m.ids.items ++ i ∷ []) a) ≡ width f a
  widths_grown = each (λ a. width f (image (m.ids.items ++ i ∷ []) a) ≡ width f a)
      (λ a h. ap (width f) (old_image a h) ∙ y.width_stays (image m.ids.items a) (within.there a h) ∙ within.widths a h ∙ sym (y.width_stays a (omega (arith, h, more))))
      (λ a h. ap (width f) (new_image a h) ∙ wide ∙ ap (width e) (sym (at_length a h)) ∙ sym (y.width_stays a (omega (arith, h, more))))

  pub known_grown : KnownIn f n
  known_grown = record {
    size = omega (arith, ap length pushed, length_push m.ids.items i, more, y.longer);
    there = subst (λ (xs : List Id). (a : Id) → a.index < length xs → Within f (image xs a)) (sym pushed) there_grown;
    widths = subst (λ (xs : List Id). (a : Id) → a.index < length xs → width f (image xs a) ≡ width f a) (sym pushed) widths_grown;
    nodes = λ x. subst (λ (o : Option Id). IfSome o (Within f)) (sym (nodes_are x)) (some_stays e f (known_at m x) y (within.nodes x));
  }

  pub agrees_grown : (v : ℕ → ℕ) → (Agrees v e m → value v f i ≡ value v e (record { index = length m.ids.items })) → Agrees v e m → Agrees v f n
  agrees_grown v value_is agrees = record {
    images = subst (λ (xs : List Id). (a : Id) → a.index < length xs → value v f (image xs a) ≡ value v f a) (sym pushed)
        (each (λ a. value v f (image (m.ids.items ++ i ∷ []) a) ≡ value v f a)
        (λ a h. ap (value v f) (old_image a h) ∙ y.value_stays v (image m.ids.items a) (within.there a h) ∙ agrees.images a h ∙ sym (y.value_stays v a (omega (arith, h, more))))
        (λ a h. ap (value v f) (new_image a h) ∙ value_is agrees ∙ ap (value v e) (sym (at_length a h)) ∙ sym (y.value_stays v a (omega (arith, h, more)))));
    nodes = λ x. subst (λ (o : Option Id). IfSome o (λ j. value v f j ≡ low_bits (width f j) (v x))) (sym (nodes_are x)) (value_stays_known v e f x (known_at m x) y (within.nodes x) (agrees.nodes x));
  }

pub growing_more : (d e f : List Node) (k m n : Known) (i : Id) → Growing d e k m → Extends e f → length m.ids.items < length e → Within f i → width f i ≡ width e (record { index = length m.ids.items })
    → ((v : ℕ → ℕ) → Agrees v e m → value v f i ≡ value v e (record { index = length m.ids.items })) → n.ids.items ≡ m.ids.items ++ i ∷ [] → ((x : ℕ) → known_at n x ≡ known_at m x) → Growing d f k n
growing_more d e f k m n i g y more there wide value_is pushed nodes_are = record {
  extends = extends_more d e f g.extends y;
  within = known_grown e f m n i y g.within more there wide pushed nodes_are;
  agrees = λ v a. agrees_grown e f m n i y g.within more there wide pushed nodes_are v (value_is v) (g.agrees v a);
}

-- the node that stands for one that is reached
pub image_there : (e : List Node) (m : Known) (a i : Id) → KnownIn e m → a.index < length m.ids.items → i ≡ get_or m.ids.items a.index i → Within e i
image_there e m a i within reached is = subst (Within e) (get_or_default m.ids.items a.index a i reached ∙ sym is) (within.there a reached)
