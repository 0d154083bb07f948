-- The arguments of a call, in the order of its parameters and behind them.
use Rattle.std.proofs.Common.{◌≡◌, ◌<◌, ◌+◌, ℕ, List, [], ◌∷◌, ◌++◌, length, get_or, drop, map, Result, Ok, Err, refl, ap, sym, ◌∙◌}
use Rattle.std.proofs.lemmas.List.{append_assoc, drop_more, map-append, reverse-append}
use Rattle.std.specs.Prelude.{Box}
use Rattle.std.specs.Global.{Global}
use Rattle.c_types.specs.Types.{views, view as type_view}
use Rattle.c_types.specs.declared.types.Ty.{Ty}
use Rattle.core_tree.specs.declared.expression.CoreArgument.{CoreArgument}
use Rattle.core_tree.specs.declared.expression.CoreArgument as codes
use Rattle.core_tree.specs.declared.expression.CoreExpr.{CoreExpr}
use Rattle.core_tree.specs.Trees.{Expression, discard_structure, Arguments, no_argument, boxed, view, view_structure, with_argument, arguments_of}
use Rattle.c_operators.specs.declared.typed_operands.TypedOperand.{TypedOperand}
use Rattle.c_scope.specs.Faults.{◌>>=◌}
use Rattle.c_operators.specs.Pointers.{Operand, OperandNode, view_typed, comma_by}
use Rattle.c_calls.specs.Calls.{turned, argument_in, arguments_in, behind, evaluated, EvaluatedBy}

-- the last in memory comes first
pub turned_last : (xs : List TypedOperand) (x : TypedOperand) → turned (xs ++ x ∷ []) ≡ view_typed x ∷ turned xs
turned_last xs x = ap (λ (ys : List TypedOperand). map view_typed ys) (reverse-append xs (x ∷ []))

-- ---- what an ellipsis takes

abbrev pub more_extra : List Expression → Result (List Expression) ℕ → Result (List Expression) ℕ
more_extra es r = r >>= λ fs. Ok (es ++ fs)

pub extra_one : (es : List Expression) (e : Expression) (r : Result (List Expression) ℕ) → more_extra es (r >>= λ fs. Ok (e ∷ fs)) ≡ more_extra (es ++ e ∷ []) r
extra_one es e (Ok fs) = ap Ok (sym (append_assoc es (e ∷ []) fs))
extra_one es e (Err rule) = refl

pub extra_none : (r : Result (List Expression) ℕ) → more_extra [] r ≡ r
extra_none (Ok fs) = refl
extra_none (Err rule) = refl

-- ---- those of the parameters

abbrev pub prefixed : List CoreArgument → Arguments → Arguments
prefixed [] rest = rest
prefixed (a ∷ as_) rest = with_argument a (prefixed as_ rest)

abbrev pub more_arguments : List CoreArgument → Result (Arguments × List Operand) ℕ → Result (Arguments × List Operand) ℕ
more_arguments as_ r = r >>= λ p. Ok (prefixed as_ p.0, p.1)

prefixed_last : (as_ : List CoreArgument) (a : CoreArgument) (rest : Arguments) → prefixed (as_ ++ a ∷ []) rest ≡ prefixed as_ (with_argument a rest)
prefixed_last [] a rest = refl
prefixed_last (b ∷ as_) a rest = ap (with_argument b) (prefixed_last as_ a rest)

pub prefixed_all : (as_ : List CoreArgument) → prefixed as_ (arguments_of []) ≡ arguments_of as_
prefixed_all [] = refl
prefixed_all (a ∷ as_) = ap (with_argument a) (prefixed_all as_)

pub argument_one : (as_ : List CoreArgument) (a : CoreArgument) (r : Result (Arguments × List Operand) ℕ)
    → more_arguments as_ (r >>= λ p. Ok (with_argument a p.0, p.1)) ≡ more_arguments (as_ ++ a ∷ []) r
argument_one as_ a (Ok p) = ap (λ (b : Arguments). Ok (b, p.1)) (sym (prefixed_last as_ a p.0))
argument_one as_ a (Err rule) = refl

pub arguments_none : (r : Result (Arguments × List Operand) ℕ) → more_arguments [] r ≡ r
arguments_none (Ok p) = refl
arguments_none (Err rule) = refl

pub argument_more : (ts : List Ty) (i : ℕ) (t : Ty) (x : Operand) (xs ys : List Operand) (a : CoreArgument) (before now : List CoreArgument) (all : Result (Arguments × List Operand) ℕ)
    → i < length ts → t ≡ get_or ts i t → xs ≡ x ∷ ys → argument_in (type_view t) x ≡ Ok (with_argument a) → now ≡ before ++ a ∷ []
    → more_arguments before (arguments_in (views (drop i ts)) xs) ≡ all → more_arguments now (arguments_in (views (drop (i + 1) ts)) ys) ≡ all
argument_more ts i t x xs ys a before now all h is first good more so_far =
    let rest_of = arguments_in (views (drop (i + 1) ts)) ys in
    let whole : arguments_in (views (drop i ts)) xs ≡ (rest_of >>= λ p. Ok (with_argument a p.0, p.1)) =
    ap (λ (us : List Ty). arguments_in (views us) xs) (drop_more ts i t h)
    ∙ sym (ap (λ (u : Ty). arguments_in (views (u ∷ drop (i + 1) ts)) xs) is)
    ∙ ap (λ (zs : List Operand). arguments_in (views (t ∷ drop (i + 1) ts)) zs) first
    ∙ ap (λ (r : Result (Arguments → Arguments) ℕ). r >>= λ f. rest_of >>= λ p. Ok (f p.0, p.1)) good in
    ap (λ (as_ : List CoreArgument). more_arguments as_ rest_of) more ∙ sym (argument_one before a rest_of) ∙ ap (more_arguments before) (sym whole) ∙ so_far

-- ---- what stands before a call

whole_is : (r : OperandNode) → (r >>= λ y. Ok y) ≡ r
whole_is (Ok y) = refl
whole_is (Err rule) = refl

associated : (r : OperandNode) (f g : Operand → OperandNode) → ((r >>= f) >>= g) ≡ (r >>= λ y. f y >>= g)
associated (Ok y) f g = refl
associated (Err rule) f g = refl

-- the last of them stands next to the operand
behind_last : (line : ℕ) (es : List Expression) (e : Expression) (x : Operand) → behind line (es ++ e ∷ []) x ≡ (comma_by line e x >>= λ y. behind line es y)
behind_last line [] e x = sym (whole_is (comma_by line e x))
behind_last line (d ∷ es) e x =
    ap (λ (r : OperandNode). r >>= λ y. comma_by line d y) (behind_last line es e x) ∙ associated (comma_by line e x) (behind line es) (comma_by line d)

last_first : (line : ℕ) (now : List (Box CoreExpr Global)) (b : Box CoreExpr Global) (x : Operand) → behind line (map boxed (now ++ b ∷ [])) x ≡ (comma_by line (boxed b) x >>= λ y. behind line (map boxed now) y)
last_first line now b x = ap (λ (es : List Expression). behind line es x) (map-append boxed now (b ∷ [])) ∙ behind_last line (map boxed now) (boxed b) x

pub behind_more : (line : ℕ) (before now : List (Box CoreExpr Global)) (b : Box CoreExpr Global) (x y : Operand) (all : OperandNode) → before ≡ now ++ b ∷ [] → comma_by line (boxed b) x ≡ Ok y
    → behind line (map boxed before) x ≡ all → behind line (map boxed now) y ≡ all
behind_more line before now b x y all is made so_far =
    sym (ap (λ (r : OperandNode). r >>= λ z. behind line (map boxed now) z) made) ∙ sym (last_first line now b x) ∙ sym (ap (λ (bs : List (Box CoreExpr Global)). behind line (map boxed bs) x) is) ∙ so_far

pub behind_fails : (line : ℕ) (before now : List (Box CoreExpr Global)) (b : Box CoreExpr Global) (x : Operand) (all : OperandNode) (rule : ℕ) → before ≡ now ++ b ∷ [] → comma_by line (boxed b) x ≡ Err rule
    → behind line (map boxed before) x ≡ all → all ≡ Err rule
behind_fails line before now b x all rule is fails so_far =
    sym so_far ∙ ap (λ (bs : List (Box CoreExpr Global)). behind line (map boxed bs) x) is ∙ last_first line now b x ∙ ap (λ (r : OperandNode). r >>= λ z. behind line (map boxed now) z) fails

-- ---- what evaluates arguments

last_evaluated : (as_ : List CoreArgument) (a : CoreArgument) (e : Expression) → EvaluatedBy a e → evaluated (arguments_of (as_ ++ a ∷ [])) ≡ evaluated (arguments_of as_) ++ e ∷ []
last_evaluated [] a e h = h no_argument
last_evaluated (codes.Number' p b ∷ as_) a e h = ap (λ (es : List Expression). view b ∷ es) (last_evaluated as_ a e h)
last_evaluated (codes.Structure' p b ∷ as_) a e h = ap (λ (es : List Expression). discard_structure (view_structure b) ∷ es) (last_evaluated as_ a e h)

last_argument : (line : ℕ) (now : List CoreArgument) (a : CoreArgument) (e : Expression) (x : Operand) → EvaluatedBy a e
    → behind line (evaluated (arguments_of (now ++ a ∷ []))) x ≡ (comma_by line e x >>= λ y. behind line (evaluated (arguments_of now)) y)
last_argument line now a e x h = ap (λ (es : List Expression). behind line es x) (last_evaluated now a e h) ∙ behind_last line (evaluated (arguments_of now)) e x

pub arguments_more : (line : ℕ) (before now : List CoreArgument) (a : CoreArgument) (e : Expression) (x y : Operand) (all : OperandNode) → before ≡ now ++ a ∷ [] → EvaluatedBy a e → comma_by line e x ≡ Ok y
    → behind line (evaluated (arguments_of before)) x ≡ all → behind line (evaluated (arguments_of now)) y ≡ all
arguments_more line before now a e x y all is by made so_far =
    sym (ap (λ (r : OperandNode). r >>= λ z. behind line (evaluated (arguments_of now)) z) made) ∙ sym (last_argument line now a e x by) ∙ sym (ap (λ (bs : List CoreArgument). behind line (evaluated (arguments_of bs)) x) is) ∙ so_far

pub arguments_fail : (line : ℕ) (before now : List CoreArgument) (a : CoreArgument) (e : Expression) (x : Operand) (all : OperandNode) (rule : ℕ) → before ≡ now ++ a ∷ [] → EvaluatedBy a e → comma_by line e x ≡ Err rule
    → behind line (evaluated (arguments_of before)) x ≡ all → all ≡ Err rule
arguments_fail line before now a e x all rule is by fails so_far =
    sym so_far ∙ ap (λ (bs : List CoreArgument). behind line (evaluated (arguments_of bs)) x) is ∙ last_argument line now a e x by ∙ ap (λ (r : OperandNode). r >>= λ z. behind line (evaluated (arguments_of now)) z) fails
