-- Nodes that are there already, and nodes that say the same.
use Rattle.std.proofs.Common.{◌≡◌, ℕ, zero, suc, ◌^◌, ◌<◌, Bool, true, false, cond, bit_and, bit_or, List, get_or, refl, sym, ap, subst, ◌∙◌, arith}
use Rattle.word_dag.specs.declared.nodes.Id.{Id}
use Rattle.word_dag.specs.declared.nodes.Node.{Node}
use Rattle.word_dag.specs.declared.nodes.Node.TheVariants.{Constant, Binary, Choice}
use Rattle.word_dag.specs.declared.nodes.BinaryOperator.{BinaryOperator}
use Rattle.word_dag.specs.declared.nodes.BinaryOperator.TheVariants.{And, Or}
use Rattle.word_dag.specs.Meaning.{bit_value, holds, node_width, node_value, widths, values, width, value}
use Rattle.word_dag.specs.Fitting.{is_ordered}
use Rattle.word_dag.specs.Growth.{Within, Makes, IsFitting}
use Rattle.word_dag.proofs.Bounds.{value_below}
use Rattle.word_dag.proofs.Truth.{bit_holds}
use Rattle.word_dag.proofs.Grown.{constant_at}
use Rattle.word_dag.proofs.Order.{width_is_final, value_is_final}
use Rattle.rewritten_nodes.specs.Same.{IsTruth, AreConjuncts, IsSide, IsSame}
use Rattle.rewritten_nodes.proofs.Fitted.{fitting_at}

-- ---- truth values

pub truth_at : (d : List Node) (i : Id) (n : Node) (bits w : ℕ) (b : Bool) → is_ordered d ≡ true → Within d i → n ≡ get_or d i.index n → n ≡ Constant bits w → w ≡ 1 → b ≡ holds bits → IsTruth d i b
truth_at d i n bits w b ordered there at is one truth =
    let c = constant_at d i.index bits w n ordered there at is in
    let small : bits < 2 ^ 1 = subst (λ k. bits < 2 ^ k) one c.within in
    record { width_is = c.width_is ∙ one; value_is = λ v. c.value_is v ∙ sym (bit_holds bits small) ∙ ap bit_value (sym truth) }

one_and : (b : ℕ) → b < 2 ^ 1 → b ≡ bit_and 1 b
one_and zero h = refl
one_and (suc zero) h = refl
one_and (suc (suc b)) h = absurd (omega (arith, h))

and_one : (b : ℕ) → b < 2 ^ 1 → b ≡ bit_and b 1
and_one zero h = refl
and_one (suc zero) h = refl
and_one (suc (suc b)) h = absurd (omega (arith, h))

zero_and : (b : ℕ) → b < 2 ^ 1 → 0 ≡ bit_and 0 b
zero_and zero h = refl
zero_and (suc zero) h = refl
zero_and (suc (suc b)) h = absurd (omega (arith, h))

and_zero : (b : ℕ) → b < 2 ^ 1 → 0 ≡ bit_and b 0
and_zero zero h = refl
and_zero (suc zero) h = refl
and_zero (suc (suc b)) h = absurd (omega (arith, h))

one_or : (b : ℕ) → b < 2 ^ 1 → 1 ≡ bit_or 1 b
one_or zero h = refl
one_or (suc zero) h = refl
one_or (suc (suc b)) h = absurd (omega (arith, h))

or_one : (b : ℕ) → b < 2 ^ 1 → 1 ≡ bit_or b 1
or_one zero h = refl
or_one (suc zero) h = refl
or_one (suc (suc b)) h = absurd (omega (arith, h))

zero_or : (b : ℕ) → b < 2 ^ 1 → b ≡ bit_or 0 b
zero_or zero h = refl
zero_or (suc zero) h = refl
zero_or (suc (suc b)) h = absurd (omega (arith, h))

or_zero : (b : ℕ) → b < 2 ^ 1 → b ≡ bit_or b 0
or_zero zero h = refl
or_zero (suc zero) h = refl
or_zero (suc (suc b)) h = absurd (omega (arith, h))

module _ (d : List Node) (a b : Id) (t : Bool) where
  -- the value of a constant truth value
  as_true : (i : Id) → IsTruth d i t → t ≡ true → (v : ℕ → ℕ) → value v d i ≡ 1
  as_true i truth is v = truth.value_is v ∙ ap bit_value is

  as_false : (i : Id) → IsTruth d i t → t ≡ false → (v : ℕ → ℕ) → value v d i ≡ 0
  as_false i truth is v = truth.value_is v ∙ ap bit_value is

  small : (i : Id) → is_ordered d ≡ true → Within d i → width d i ≡ 1 → (v : ℕ → ℕ) → value v d i < 2 ^ 1
  small i ordered there wide v = subst (λ k. value v d i < 2 ^ k) wide (value_below v d i ordered there)

  pub and_true_first : is_ordered d ≡ true → IsFitting d (Binary And a b) → IsTruth d a t → t ≡ true → Makes d d (Binary And a b) b
  and_true_first ordered fits truth is =
      record {
        there = fits.1;
        width_is = sym fits.2;
        value_is = λ v. one_and (value v d b) (small b ordered fits.1 (sym fits.2 ∙ truth.width_is) v) ∙ ap (λ x. bit_and x (value v d b)) (sym (as_true a truth is v));
      }

  pub and_false_first : is_ordered d ≡ true → IsFitting d (Binary And a b) → IsTruth d a t → t ≡ false → Makes d d (Binary And a b) a
  and_false_first ordered fits truth is =
      record {
        there = fits.0;
        width_is = refl;
        value_is = λ v. as_false a truth is v ∙ zero_and (value v d b) (small b ordered fits.1 (sym fits.2 ∙ truth.width_is) v) ∙ ap (λ x. bit_and x (value v d b)) (sym (as_false a truth is v));
      }

  pub and_true_second : is_ordered d ≡ true → IsFitting d (Binary And a b) → IsTruth d b t → t ≡ true → Makes d d (Binary And a b) a
  and_true_second ordered fits truth is =
      record {
        there = fits.0;
        width_is = refl;
        value_is = λ v. and_one (value v d a) (small a ordered fits.0 (fits.2 ∙ truth.width_is) v) ∙ ap (λ x. bit_and (value v d a) x) (sym (as_true b truth is v));
      }

  pub and_false_second : is_ordered d ≡ true → IsFitting d (Binary And a b) → IsTruth d b t → t ≡ false → Makes d d (Binary And a b) b
  and_false_second ordered fits truth is =
      record {
        there = fits.1;
        width_is = sym fits.2;
        value_is = λ v. as_false b truth is v ∙ and_zero (value v d a) (small a ordered fits.0 (fits.2 ∙ truth.width_is) v) ∙ ap (λ x. bit_and (value v d a) x) (sym (as_false b truth is v));
      }

  pub or_true_first : is_ordered d ≡ true → IsFitting d (Binary Or a b) → IsTruth d a t → t ≡ true → Makes d d (Binary Or a b) a
  or_true_first ordered fits truth is =
      record {
        there = fits.0;
        width_is = refl;
        value_is = λ v. as_true a truth is v ∙ one_or (value v d b) (small b ordered fits.1 (sym fits.2 ∙ truth.width_is) v) ∙ ap (λ x. bit_or x (value v d b)) (sym (as_true a truth is v));
      }

  pub or_false_first : is_ordered d ≡ true → IsFitting d (Binary Or a b) → IsTruth d a t → t ≡ false → Makes d d (Binary Or a b) b
  or_false_first ordered fits truth is =
      record {
        there = fits.1;
        width_is = sym fits.2;
        value_is = λ v. zero_or (value v d b) (small b ordered fits.1 (sym fits.2 ∙ truth.width_is) v) ∙ ap (λ x. bit_or x (value v d b)) (sym (as_false a truth is v));
      }

  pub or_true_second : is_ordered d ≡ true → IsFitting d (Binary Or a b) → IsTruth d b t → t ≡ true → Makes d d (Binary Or a b) b
  or_true_second ordered fits truth is =
      record {
        there = fits.1;
        width_is = sym fits.2;
        value_is = λ v. as_true b truth is v ∙ or_one (value v d a) (small a ordered fits.0 (fits.2 ∙ truth.width_is) v) ∙ ap (λ x. bit_or (value v d a) x) (sym (as_true b truth is v));
      }

  pub or_false_second : is_ordered d ≡ true → IsFitting d (Binary Or a b) → IsTruth d b t → t ≡ false → Makes d d (Binary Or a b) a
  or_false_second ordered fits truth is =
      record {
        there = fits.0;
        width_is = refl;
        value_is = λ v. or_zero (value v d a) (small a ordered fits.0 (fits.2 ∙ truth.width_is) v) ∙ ap (λ x. bit_or (value v d a) x) (sym (as_false b truth is v));
      }

-- ---- nodes that say the same

pub made_as : (d : List Node) (n m : Node) (i : Id) → n ≡ m → Makes d d m i → Makes d d n i
made_as d n m i is made = subst (λ (k : Node). Makes d d k i) (sym is) made

pub makes_same : (d e : List Node) (n m : Node) (i : Id) → IsSame d n m → Makes d e m i → Makes d e n i
makes_same d e n m i same made = record { there = made.there; width_is = made.width_is ∙ same.width_is; value_is = λ v. made.value_is v ∙ same.value_is v }

either_way : (b : Bool) (x : ℕ) → x ≡ (cond b x x)
either_way true x = refl
either_way false x = refl

pub same_sides : (d : List Node) (n : Node) (c a b : Id) → n ≡ Choice c a b → IsFitting d n → a ≡ b → Makes d d n a
same_sides d n c a b is fits same =
    let f : IsFitting d (Choice c a b) = subst (IsFitting d) is fits in
    made_as d n (Choice c a b) a is (record {
      there = f.2;
      width_is = refl;
      value_is = λ v. either_way (holds (value v d c)) (value v d a) ∙ ap (λ (i : Id). cond (holds (value v d c)) (value v d a) (value v d i)) same;
    })

-- ---- sides of a choice

pub side_itself : (d : List Node) (c i : Id) (is : Bool) → Within d i → IsSide d c i is i
side_itself d c i is there = record { there = there; width_is = refl; value_is = λ v h. refl }

first_of : (b : Bool) (x y : ℕ) → b ≡ true → x ≡ cond b x y
first_of true x y h = refl
first_of false x y h = absurd (let wrong : false ≡ true = h in cc)

second_of : (b : Bool) (x y : ℕ) → b ≡ false → y ≡ cond b x y
second_of true x y h = absurd (let wrong : true ≡ false = h in cc)
second_of false x y h = refl

holds_both : (a b : ℕ) → a < 2 ^ 1 → b < 2 ^ 1 → holds (bit_and a b) ≡ true → (holds a ≡ true) × (holds b ≡ true)
holds_both zero zero h l t = absurd (let wrong : false ≡ true = t in cc)
holds_both zero (suc zero) h l t = absurd (let wrong : false ≡ true = t in cc)
holds_both (suc zero) zero h l t = absurd (let wrong : false ≡ true = t in cc)
holds_both (suc zero) (suc zero) h l t = (refl, refl)
holds_both (suc (suc a)) b h l t = absurd (omega (arith, h))
holds_both a (suc (suc b)) h l t = absurd (omega (arith, l))

pub conjuncts_at : (d : List Node) (i a b : Id) (n : Node) (o : BinaryOperator) → is_ordered d ≡ true → Within d i → width d i ≡ 1 → n ≡ get_or d i.index n → n ≡ Binary o a b → o ≡ And → AreConjuncts d i a b
conjuncts_at d i a b n o ordered there bit at binary is =
    let whole : n ≡ Binary And a b = binary ∙ ap (λ (q : BinaryOperator). Binary q a b) is in
    let f : IsFitting d (Binary And a b) = subst (IsFitting d) whole (fitting_at d i.index n ordered there at) in
    let wide : width d a ≡ 1 = sym (width_is_final d i.index n ordered there ∙ ap (node_width (widths d)) (sym at ∙ whole)) ∙ bit in
    let parts : (v : ℕ → ℕ) → holds (value v d i) ≡ true → (holds (value v d a) ≡ true) × (holds (value v d b) ≡ true) =
    λ v t. holds_both (value v d a) (value v d b) (subst (λ k. value v d a < 2 ^ k) wide (value_below v d a ordered f.0)) (subst (λ k. value v d b < 2 ^ k) (sym f.2 ∙ wide) (value_below v d b ordered f.1))
    (ap holds (sym (value_is_final v d i.index n ordered there ∙ ap (node_value v (widths d) (values v d)) (sym at ∙ whole))) ∙ t) in
    record { left_there = f.0; left_width = wide; left = λ v t. (parts v t).0; right = λ v t. (parts v t).1 }

false_of : (a b : Bool) → (a ≡ true → b ≡ true) → b ≡ false → a ≡ false
false_of true b to is = absurd (let wrong : true ≡ false = sym (to refl) ∙ is in cc)
false_of false b to is = refl

module _ (d : List Node) (c i other a b : Id) (n : Node) (is : Bool) (ordered : is_ordered d ≡ true) (there : Within d i) (at : n ≡ get_or d i.index n) (choice : n ≡ Choice other a b) where
  fitting : IsFitting d (Choice other a b)
  fitting = subst (IsFitting d) choice (fitting_at d i.index n ordered there at)

  pub other_there : Within d other
  other_there = fitting.0

  pub other_bit : width d other ≡ 1
  other_bit = fitting.1

  wide : width d i ≡ width d a
  wide = width_is_final d i.index n ordered there ∙ ap (node_width (widths d)) (sym at ∙ choice)

  choice_value : (v : ℕ → ℕ) → value v d i ≡ cond (holds (value v d other)) (value v d a) (value v d b)
  choice_value v = value_is_final v d i.index n ordered there ∙ ap (node_value v (widths d) (values v d)) (sym at ∙ choice)

  pub first_side : is ≡ true → ((v : ℕ → ℕ) → holds (value v d c) ≡ true → holds (value v d other) ≡ true) → IsSide d c i is a
  first_side true_is implied = record {
    there = fitting.2;
    width_is = sym wide;
    value_is = λ v h. first_of (holds (value v d other)) (value v d a) (value v d b) (implied v (h ∙ true_is)) ∙ sym (choice_value v);
  }

  pub second_side : is ≡ false → ((v : ℕ → ℕ) → holds (value v d other) ≡ true → holds (value v d c) ≡ true) → IsSide d c i is b
  second_side false_is implied = record {
    there = fitting.3;
    width_is = sym fitting.4 ∙ sym wide;
    value_is = λ v h. second_of (holds (value v d other)) (value v d a) (value v d b) (false_of (holds (value v d other)) (holds (value v d c)) (implied v) (h ∙ false_is)) ∙ sym (choice_value v);
  }

pub same_itself : (d : List Node) (n : Node) → IsFitting d n → IsSame d n n
same_itself d n fits = record { fits = fits; width_is = refl; value_is = λ v. refl }

by_side : (b : Bool) (p q r s : ℕ) → (b ≡ true → p ≡ r) → (b ≡ false → q ≡ s) → cond b p q ≡ cond b r s
by_side true p q r s f g = f refl
by_side false p q r s f g = g refl

pub same_choice : (d : List Node) (n : Node) (c a b x y : Id) → n ≡ Choice c a b → IsFitting d n → IsSide d c a true x → IsSide d c b false y → IsSame d n (Choice c x y)
same_choice d n c a b x y is fits first second =
    let f : IsFitting d (Choice c a b) = subst (IsFitting d) is fits in
    subst (λ (m : Node). IsSame d m (Choice c x y)) (sym is) (record {
      fits = (f.0, f.1, first.there, second.there, first.width_is ∙ f.4 ∙ sym second.width_is);
      width_is = first.width_is;
      value_is = λ v. by_side (holds (value v d c)) (value v d x) (value v d y) (value v d a) (value v d b) (first.value_is v) (second.value_is v);
    })
