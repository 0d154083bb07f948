-- Conversions as nodes.
use Rattle.std.proofs.Common.{◌≡◌, ◌≤◌, ℕ, Bool, true, false, List, refl, sym, ◌∙◌, ap, subst, arith}
use Rattle.std.specs.Prelude.{if◌then◌else◌}
use Rattle.words.specs.Operators.{low_bits, logical_shift, sign_extension}
use Rattle.word_dag.specs.declared.nodes.Id.{Id}
use Rattle.word_dag.specs.declared.nodes.Node.{Node}
use Rattle.word_dag.specs.declared.nodes.Node.TheVariants.{Cut, SignExtend, ZeroExtend}
use Rattle.word_dag.specs.Meaning.{value}
use Rattle.word_dag.specs.Fitting.{is_ordered}
use Rattle.word_dag.specs.Growth.{Makes}
use Rattle.c_types.specs.declared.integers.IntegerType.{IntegerType}
use Rattle.c_types.specs.declared.integers.IntegerType.TheVariants as types
use Rattle.c_types.specs.Integers.{width as type_width, is_signed, same_integer}
use Rattle.core_tree.specs.Operations.{converted, truth_bits, is_true}
use Rattle.c_values.proofs.Conversions.{wrapped_narrower, wrapped_signed, wrapped_wider}
use Rattle.value_nodes.specs.Values.{IsWord, IsValue}
use Rattle.value_nodes.proofs.Made.{value_made, word_below}

pub to_bool : (b : Bool) (x y : ℕ) → b ≡ true → x ≡ (if b then x else y)
to_bool true x y h = refl
to_bool false x y h = cc

pub to_other : (b : Bool) (x y : ℕ) → b ≡ false → y ≡ (if b then x else y)
to_other true x y h = cc
to_other false x y h = refl

pub unshifted : (a : ℕ) → logical_shift a 0 ≡ a
unfolding logical_shift
unshifted a = omega arith

pub bool_width : (t : IntegerType) → same_integer t types.Bool ≡ true → 8 ≡ type_width t
bool_width types.Bool h = refl
bool_width types.Char h = refl
bool_width types.SignedChar h = refl
bool_width types.UnsignedChar h = refl
bool_width types.Short h = cc
bool_width types.UnsignedShort h = cc
bool_width types.Int h = cc
bool_width types.UnsignedInt h = cc
bool_width types.Long h = cc
bool_width types.UnsignedLong h = cc
bool_width types.LongLong h = cc
bool_width types.UnsignedLongLong h = cc

pub made_bool : (d e : List Node) (a i : Id) (from to : IntegerType) → same_integer to types.Bool ≡ true → IsValue e i 8 (λ v. truth_bits (is_true (value v d a)))
    → IsValue e i (type_width to) (λ v. converted from to (value v d a))
made_bool d e a i from to is made =
    record { there = made.there; width_is = made.width_is ∙ bool_width to is; value_is = λ v. made.value_is v ∙ to_bool (same_integer to types.Bool) _ _ is }

pub made_narrower : (d e : List Node) (a i : Id) (from to : IntegerType) (w : ℕ) → w ≡ type_width to → is_ordered d ≡ true → same_integer to types.Bool ≡ false → IsWord d a (type_width from) → type_width to ≤ type_width from
    → Makes d e (Cut a 0 w) i → IsValue e i (type_width to) (λ v. converted from to (value v d a))
made_narrower d e a i from to w same ordered other word narrow m =
    value_made d e (Cut a 0 (type_width to)) i (type_width to) (λ v. converted from to (value v d a)) (subst (λ (k : ℕ). Makes d e (Cut a 0 k) i) same m) refl (λ v.
    ap (low_bits (type_width to)) (unshifted (value v d a))
    ∙ sym (wrapped_narrower from (type_width to) (value v d a) narrow (word_below v d a (type_width from) ordered word))
    ∙ to_other (same_integer to types.Bool) _ _ other)

pub made_signed : (d e : List Node) (a i : Id) (from to : IntegerType) (w : ℕ) → w ≡ type_width to → same_integer to types.Bool ≡ false → is_signed from ≡ true → IsWord d a (type_width from)
    → Makes d e (SignExtend a w) i → IsValue e i (type_width to) (λ v. converted from to (value v d a))
made_signed d e a i from to w same other signed word m =
    value_made d e (SignExtend a (type_width to)) i (type_width to) (λ v. converted from to (value v d a)) (subst (λ (k : ℕ). Makes d e (SignExtend a k) i) same m) refl (λ v.
    ap (λ (w : ℕ). sign_extension w (type_width to) (value v d a)) word.width_is
    ∙ sym (wrapped_signed from (type_width to) (value v d a) signed)
    ∙ to_other (same_integer to types.Bool) _ _ other)

pub made_wider : (d e : List Node) (a i : Id) (from to : IntegerType) (w : ℕ) → w ≡ type_width to → is_ordered d ≡ true → same_integer to types.Bool ≡ false → is_signed from ≡ false → type_width from ≤ type_width to → IsWord d a (type_width from)
    → Makes d e (ZeroExtend a w) i → IsValue e i (type_width to) (λ v. converted from to (value v d a))
made_wider d e a i from to w same ordered other unsigned wide word m =
    value_made d e (ZeroExtend a (type_width to)) i (type_width to) (λ v. converted from to (value v d a)) (subst (λ (k : ℕ). Makes d e (ZeroExtend a k) i) same m) refl (λ v.
    sym (wrapped_wider from (type_width to) (value v d a) unsigned wide (word_below v d a (type_width from) ordered word))
    ∙ to_other (same_integer to types.Bool) _ _ other)
