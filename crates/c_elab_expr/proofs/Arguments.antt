-- The arguments of a call, typed one after the other.
use Rattle.std.proofs.Common.{Bool, true, ◌≡◌, ◌<◌, ◌+◌, ℕ, List, [], ◌∷◌, ◌++◌, length, get_or, drop, Option, Result, Ok, Err, refl, ap, sym, ◌∙◌}
use Rattle.std.proofs.lemmas.List.{append_assoc, drop_more}
use Rattle.c_tree.specs.declared.expr.Expr.{Expr}
use Rattle.c_tree.specs.Tree.{Tree, Trees, call}
use Rattle.c_tree.specs.Tree.{view as tree, views_of as trees}
use Rattle.c_operands.specs.Operands.{Operand}
use Rattle.c_scope.specs.declared.meaning.Meaning.{Meaning}
use Rattle.c_scope.specs.declared.fault.TypingError.{TypingError}
use Rattle.c_scope.specs.declared.fault.TypingError.TheVariants as errors
use Rattle.c_scope.specs.Scopes.{Scoped}
use Rattle.c_scope.specs.Faults.{◌>>=◌, Fault, fault, Fails}
use Rattle.c_elab_expr.specs.Typing.{callee, call_of, typed, typed_arguments, operand_in}

-- a fault of a part is one of the whole
pub fails_on : {Y Z : Type 0} (e : TypingError) (r : Result Y Fault) (s : Result Z Fault) → ((f : Fault) → r ≡ Err f → s ≡ Err f) → Fails e r → Fails e s
fails_on errors.Memory r s h g = tt
fails_on (errors.Typing line rule) r s h g = h (fault line rule) g

-- typed arguments with others before them
abbrev pub front : List Operand → Result (List Operand) Fault → Result (List Operand) Fault
front xs r = r >>= λ ys. Ok (xs ++ ys)

front_one : (xs : List Operand) (x : Operand) (r : Result (List Operand) Fault) → front xs (r >>= λ ys. Ok (x ∷ ys)) ≡ front (xs ++ x ∷ []) r
front_one xs x (Ok ys) = ap Ok (sym (append_assoc xs (x ∷ []) ys))
front_one xs x (Err f) = refl

next_argument : (scope : Scoped) (m : Bool) (es : List Expr) (i : ℕ) (e : Expr) (xs : List Operand) (all : Result (List Operand) Fault) → i < length es → e ≡ get_or es i e
    → front xs (typed_arguments scope m (trees (drop i es))) ≡ all → front xs (operand_in scope m true (tree e) >>= λ x. typed_arguments scope m (trees (drop (i + 1) es)) >>= λ ys. Ok (x ∷ ys)) ≡ all
next_argument scope m es i e xs all h is so_far =
    let step = drop_more es i e h in
    let here = ap (λ (x : Expr). front xs (operand_in scope m true (tree x) >>= λ y. typed_arguments scope m (trees (drop (i + 1) es)) >>= λ ys. Ok (y ∷ ys))) is in
    here ∙ sym (ap (λ (ys : List Expr). front xs (typed_arguments scope m (trees ys))) step) ∙ so_far

pub argument_fails : (scope : Scoped) (m : Bool) (es : List Expr) (i : ℕ) (e : Expr) (xs : List Operand) (all : Result (List Operand) Fault) (f : Fault) → i < length es → e ≡ get_or es i e
    → front xs (typed_arguments scope m (trees (drop i es))) ≡ all → operand_in scope m true (tree e) ≡ Err f → all ≡ Err f
argument_fails scope m es i e xs all f h is so_far bad =
    sym (next_argument scope m es i e xs all h is so_far)
    ∙ ap (λ (r : Result Operand Fault). front xs (r >>= λ x. typed_arguments scope m (trees (drop (i + 1) es)) >>= λ ys. Ok (x ∷ ys))) bad

pub argument_typed : (scope : Scoped) (m : Bool) (es : List Expr) (i : ℕ) (e : Expr) (xs : List Operand) (all : Result (List Operand) Fault) (x : Operand) → i < length es → e ≡ get_or es i e
    → front xs (typed_arguments scope m (trees (drop i es))) ≡ all → operand_in scope m true (tree e) ≡ Ok x → front (xs ++ x ∷ []) (typed_arguments scope m (trees (drop (i + 1) es))) ≡ all
argument_typed scope m es i e xs all x h is so_far good =
    sym (front_one xs x (typed_arguments scope m (trees (drop (i + 1) es))))
    ∙ sym (ap (λ (r : Result Operand Fault). front xs (r >>= λ x. typed_arguments scope m (trees (drop (i + 1) es)) >>= λ ys. Ok (x ∷ ys))) good)
    ∙ next_argument scope m es i e xs all h is so_far

-- a call whose callee is typed
pub call_typed : (scope : Scoped) (f : Tree) (args : Trees) (m w : Bool) (meaning : Option (ℕ × Meaning)) → callee scope f (operand_in scope m true f) ≡ Ok meaning
    → typed scope m w (call f args) ≡ call_of scope f w meaning (typed_arguments scope m args)
call_typed scope f args m w meaning e = ap (λ (r : Result (Option (ℕ × Meaning)) Fault). r >>= λ n. call_of scope f w n (typed_arguments scope m args)) e
