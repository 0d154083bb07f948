-- The arguments of a call, in the order of its parameters and behind them.
use Rattle.std.proofs.Common.{◌≡◌, ◌<◌, ◌+◌, ℕ, List, [], ◌∷◌, ◌++◌, length, get_or, drop, map, Result, Ok, Err, false, refl, ap, sym, ◌∙◌}
use Rattle.std.proofs.lemmas.List.{append_assoc, drop_more, reverse-append}
use Rattle.c_types.specs.Types.{Completed, views, view as type_view}
use Rattle.c_types.specs.declared.types.Ty.{Ty}
use Rattle.core_tree.specs.declared.expression.CoreArgument.{CoreArgument}
use Rattle.core_tree.specs.Trees.{Expression, Arguments, with_argument, arguments_of}
use Rattle.c_operands.specs.declared.operands.CoreOperand.{CoreOperand}
use Rattle.c_scope.specs.Faults.{◌>>=◌}
use Rattle.c_operands.specs.Operands.{Operand, value, view_operand, turned, comma_operand, argument_in, arguments_in, behind_extra}

-- the last in memory comes first
pub turned_last : (xs : List CoreOperand) (x : CoreOperand) → turned (xs ++ x ∷ []) ≡ view_operand x ∷ turned xs
turned_last xs x = ap (λ (ys : List CoreOperand). map view_operand ys) (reverse-append xs (x ∷ []))

-- ---- what an ellipsis takes

abbrev pub more_extra : List Expression → Result (List Expression) ℕ → Result (List Expression) ℕ
more_extra es r = r >>= λ fs. Ok (es ++ fs)

pub extra_one : (es : List Expression) (e : Expression) (r : Result (List Expression) ℕ) → more_extra es (r >>= λ fs. Ok (e ∷ fs)) ≡ more_extra (es ++ e ∷ []) r
extra_one es e (Ok fs) = ap Ok (sym (append_assoc es (e ∷ []) fs))
extra_one es e (Err rule) = refl

pub extra_none : (r : Result (List Expression) ℕ) → more_extra [] r ≡ r
extra_none (Ok fs) = refl
extra_none (Err rule) = refl

-- ---- those of the parameters

abbrev pub prefixed : List CoreArgument → Arguments → Arguments
prefixed [] rest = rest
prefixed (a ∷ as_) rest = with_argument a (prefixed as_ rest)

abbrev pub more_arguments : List CoreArgument → Result (Arguments × List Operand) ℕ → Result (Arguments × List Operand) ℕ
more_arguments as_ r = r >>= λ p. Ok (prefixed as_ p.0, p.1)

prefixed_last : (as_ : List CoreArgument) (a : CoreArgument) (rest : Arguments) → prefixed (as_ ++ a ∷ []) rest ≡ prefixed as_ (with_argument a rest)
prefixed_last [] a rest = refl
prefixed_last (b ∷ as_) a rest = ap (with_argument b) (prefixed_last as_ a rest)

pub prefixed_all : (as_ : List CoreArgument) → prefixed as_ (arguments_of []) ≡ arguments_of as_
prefixed_all [] = refl
prefixed_all (a ∷ as_) = ap (with_argument a) (prefixed_all as_)

pub argument_one : (as_ : List CoreArgument) (a : CoreArgument) (r : Result (Arguments × List Operand) ℕ)
    → more_arguments as_ (r >>= λ p. Ok (with_argument a p.0, p.1)) ≡ more_arguments (as_ ++ a ∷ []) r
argument_one as_ a (Ok p) = ap (λ (b : Arguments). Ok (b, p.1)) (sym (prefixed_last as_ a p.0))
argument_one as_ a (Err rule) = refl

pub arguments_none : (r : Result (Arguments × List Operand) ℕ) → more_arguments [] r ≡ r
arguments_none (Ok p) = refl
arguments_none (Err rule) = refl

pub argument_more : (done : List Completed) (ts : List Ty) (i : ℕ) (t : Ty) (x : Operand) (xs ys : List Operand) (a : CoreArgument) (before now : List CoreArgument) (all : Result (Arguments × List Operand) ℕ)
    → i < length ts → t ≡ get_or ts i t → xs ≡ x ∷ ys → argument_in done (type_view t) x ≡ Ok (with_argument a) → now ≡ before ++ a ∷ []
    → more_arguments before (arguments_in done (views (drop i ts)) xs) ≡ all → more_arguments now (arguments_in done (views (drop (i + 1) ts)) ys) ≡ all
argument_more done ts i t x xs ys a before now all h is first good more so_far =
    let behind = arguments_in done (views (drop (i + 1) ts)) ys in
    let whole : arguments_in done (views (drop i ts)) xs ≡ (behind >>= λ p. Ok (with_argument a p.0, p.1)) =
    ap (λ (us : List Ty). arguments_in done (views us) xs) (drop_more ts i t h)
    ∙ sym (ap (λ (u : Ty). arguments_in done (views (u ∷ drop (i + 1) ts)) xs) is)
    ∙ ap (λ (zs : List Operand). arguments_in done (views (t ∷ drop (i + 1) ts)) zs) first
    ∙ ap (λ (r : Result (Arguments → Arguments) ℕ). r >>= λ f. behind >>= λ p. Ok (f p.0, p.1)) good in
    ap (λ (as_ : List CoreArgument). more_arguments as_ behind) more ∙ sym (argument_one before a behind) ∙ ap (more_arguments before) (sym whole) ∙ so_far

-- ---- what stands before a call

pub behind_last : (done : List Completed) (line : ℕ) (es : List Expression) (e : Expression) (x : Operand)
    → behind_extra done line (es ++ e ∷ []) x ≡ behind_extra done line es (comma_operand done line (value e false) x)
behind_last done line [] e x = refl
behind_last done line (f ∷ es) e x = ap (comma_operand done line (value f false)) (behind_last done line es e x)
