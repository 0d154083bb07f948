-- The parts of a type name, from left to right, and the lengths of suffixes.
use Rattle.std.proofs.Common.{◌≡◌, ◌<◌, ◌+◌, ◌++◌, ℕ, Bool, true, List, [], ◌∷◌, length, get_or, drop, map, Option, Some, None, Result, Ok, Err, refl, sym, ap, ◌∙◌, ◌≤◌, subst, arith}
use Rattle.std.proofs.lemmas.List.{drop_more, append_assoc}
use Rattle.c_tree.specs.declared.specifier.TypeSpecifier.{TypeSpecifier}
use Rattle.c_tree.specs.declared.expr.ArraySuffix.{ArraySuffix}
use Rattle.c_tree.specs.declared.expr.ArraySuffix as array_suffixes
use Rattle.c_tree.specs.Tree.{Suffixes, no_suffix, view_type_part, view_suffix, suffixes_of, first_line, Declared, behind_pointers}
use Rattle.c_tree.specs.Tree.{view as tree}
use Rattle.c_scope.specs.declared.fault.TypingError.TheVariants as errors
use Rattle.c_scope.specs.declared.fault.TypingError.{TypingError}
use Rattle.c_scope.specs.Scopes.{Scoped}
use Rattle.c_scope.specs.Faults.{◌>>=◌, Fault, Fails}
use Rattle.c_scope.specs.Types.{Said, with_part, with_parts}
use Rattle.c_elab_expr.specs.Typing.{Adds, bound, operand_in, suffix_lengths, behind, RefusesFirst, lengths}
use Rattle.c_elab_expr.proofs.Arguments.{fails_on}
use Rattle.c_tree.specs.declared.expr.PointerMark.{PointerMark}

-- ---- parts of a type name

pub part_more : (s : Scoped) (parts : List TypeSpecifier) (i : ℕ) (p : TypeSpecifier) (said now : Said) → i < length parts → p ≡ get_or parts i p → now ≡ with_part s said (view_type_part p)
    → with_parts s now (map view_type_part (drop (i + 1) parts)) ≡ with_parts s said (map view_type_part (drop i parts))
part_more s parts i p said now h is e =
    ap (λ (x : Said). with_parts s x (map view_type_part (drop (i + 1) parts))) e
    ∙ ap (λ (q : TypeSpecifier). with_parts s (with_part s said (view_type_part q)) (map view_type_part (drop (i + 1) parts))) is
    ∙ sym (ap (λ (ps : List TypeSpecifier). with_parts s said (map view_type_part ps)) (drop_more parts i p h))

-- ---- lengths of suffixes

behind_one : (before : List (Option ℕ)) (n : Option ℕ) (r : Result (List (Option ℕ)) Fault) → behind before (r >>= λ ns. Ok (n ∷ ns)) ≡ behind (before ++ n ∷ []) r
behind_one before n (Ok ns) = ap Ok (sym (append_assoc before (n ∷ []) ns))
behind_one before n (Err f) = refl

pub behind_none : (r : Result (List (Option ℕ)) Fault) → behind [] r ≡ r
behind_none (Ok ns) = refl
behind_none (Err f) = refl

-- the lengths of a suffix, and those behind it
by_bound : (r : Result ℕ Fault) (rest : Result (List (Option ℕ)) Fault) (before : List (Option ℕ))
    → behind before (r >>= λ n. rest >>= λ ns. Ok (Some n ∷ ns)) ≡ (behind before (r >>= λ n. Ok (Some n ∷ [])) >>= λ now. behind now rest)
by_bound (Ok n) rest before = behind_one before (Some n) rest
by_bound (Err f) rest before = refl

one_suffix : (s : Scoped) (m : Bool) (x : ArraySuffix) (rest : Suffixes) (before : List (Option ℕ))
    → behind before (suffix_lengths s m (view_suffix x rest)) ≡ (behind before (suffix_lengths s m (view_suffix x no_suffix)) >>= λ now. behind now (suffix_lengths s m rest))
one_suffix s m (array_suffixes.Bounded' line p e) rest before = by_bound (bound (first_line (tree e)) (operand_in s m true (tree e))) (suffix_lengths s m rest) before
one_suffix s m (array_suffixes.Open line) rest before = behind_one before None (suffix_lengths s m rest)

next_suffix : (s : Scoped) (m : Bool) (xs : List ArraySuffix) (i : ℕ) (x : ArraySuffix) (before : List (Option ℕ)) → i < length xs → x ≡ get_or xs i x
    → behind before (suffix_lengths s m (suffixes_of (drop i xs))) ≡ (behind before (suffix_lengths s m (view_suffix x no_suffix)) >>= λ now. behind now (suffix_lengths s m (suffixes_of (drop (i + 1) xs))))
next_suffix s m xs i x before h is =
    ap (λ (ys : List ArraySuffix). behind before (suffix_lengths s m (suffixes_of ys))) (drop_more xs i x h)
    ∙ ap (λ (y : ArraySuffix). behind before (suffix_lengths s m (view_suffix y (suffixes_of (drop (i + 1) xs))))) (sym is)
    ∙ one_suffix s m x (suffixes_of (drop (i + 1) xs)) before

-- one suffix more
pub suffix_more : (s : Scoped) (m : Bool) (xs : List ArraySuffix) (i : ℕ) (x : ArraySuffix) (before now : List (Option ℕ)) (all : Result (List (Option ℕ)) Fault) → i < length xs → x ≡ get_or xs i x
    → behind before (suffix_lengths s m (suffixes_of (drop i xs))) ≡ all → behind before (suffix_lengths s m (view_suffix x no_suffix)) ≡ Ok now
    → behind now (suffix_lengths s m (suffixes_of (drop (i + 1) xs))) ≡ all
suffix_more s m xs i x before now all h is so_far e =
    sym (ap (λ (r : Result (List (Option ℕ)) Fault). r >>= λ ns. behind ns (suffix_lengths s m (suffixes_of (drop (i + 1) xs)))) e)
    ∙ sym (next_suffix s m xs i x before h is) ∙ so_far

behind_fails : (before : List (Option ℕ)) (r : Result (List (Option ℕ)) Fault) (f : Fault) → r ≡ Err f → behind before r ≡ Err f
behind_fails before r f e = ap (behind before) e

fails_behind : (before : List (Option ℕ)) (r : Result (List (Option ℕ)) Fault) (f : Fault) → behind before r ≡ Err f → r ≡ Err f
fails_behind before (Ok ns) f e = let none : ⊥ = cc in absurd none
fails_behind before (Err g) f e = e

-- a fault of a suffix is one of the suffixes
pub suffix_fails : (s : Scoped) (m : Bool) (xs : List ArraySuffix) (i : ℕ) (x : ArraySuffix) (before start : List (Option ℕ)) (all : Result (List (Option ℕ)) Fault) (f : Fault) → i < length xs → x ≡ get_or xs i x
    → behind before (suffix_lengths s m (suffixes_of (drop i xs))) ≡ behind start all → suffix_lengths s m (view_suffix x no_suffix) ≡ Err f → all ≡ Err f
suffix_fails s m xs i x before start all f h is so_far e =
    fails_behind start all f
    (sym so_far ∙ next_suffix s m xs i x before h is
    ∙ ap (λ (r : Result (List (Option ℕ)) Fault). behind before r >>= λ ns. behind ns (suffix_lengths s m (suffixes_of (drop (i + 1) xs)))) e)

-- a declarator in parentheses, and the suffixes behind it
inside_more : (before middle now : List (Option ℕ)) (inner outer : Result (List (Option ℕ)) Fault) → behind before inner ≡ Ok middle → behind middle outer ≡ Ok now
    → behind before (inner >>= λ ms. outer >>= λ ns. Ok (ms ++ ns)) ≡ Ok now
inside_more before middle now (Ok ms) (Ok ns) e g =
    let first : before ++ ms ≡ middle = cc in
    ap Ok (sym (append_assoc before ms ns)) ∙ ap (λ (xs : List (Option ℕ)). behind xs (Ok ns)) first ∙ g
inside_more before middle now (Ok ms) (Err f) e g = let none : ⊥ = cc in absurd none
inside_more before middle now (Err f) outer e g = let none : ⊥ = cc in absurd none

inside_fails : (before middle : List (Option ℕ)) (inner outer : Result (List (Option ℕ)) Fault) (f : Fault) → behind before inner ≡ Ok middle → outer ≡ Err f
    → (inner >>= λ ms. outer >>= λ ns. Ok (ms ++ ns)) ≡ Err f
inside_fails before middle (Ok ms) outer f e g = ap (λ (r : Result (List (Option ℕ)) Fault). r >>= λ ns. Ok (ms ++ ns)) g
inside_fails before middle (Err h) outer f e g = let none : ⊥ = cc in absurd none

pub inside_adds : (r : Result (Unit {0}) TypingError) (before middle now : List (Option ℕ)) (inner outer : Result (List (Option ℕ)) Fault) → behind before inner ≡ Ok middle → Adds r middle now outer
    → Adds r before now (inner >>= λ ms. outer >>= λ ns. Ok (ms ++ ns))
inside_adds (Ok u) before middle now inner outer e g = inside_more before middle now inner outer e g
inside_adds (Err f) before middle now inner outer e g = fails_on f outer (inner >>= λ ms. outer >>= λ ns. Ok (ms ++ ns)) (λ h bad. inside_fails before middle inner outer h e bad) g

-- pointers before a declarator are refused
pub lengths_refused : (e : TypingError) (s : Scoped) (m : Bool) (ps : List PointerMark) (d : Declared) → RefusesFirst e ps → Fails e (lengths s m (behind_pointers ps d))
lengths_refused e s m [] d h = absurd h
lengths_refused e s m (p ∷ ps) d h = subst (λ (x : TypingError). Fails x (lengths s m (behind_pointers (p ∷ ps) d))) (sym h) refl

pub first_refused : (ps : List PointerMark) (p : PointerMark) → 1 ≤ length ps → RefusesFirst (errors.Typing (get_or ps 0 p).line 7) ps
first_refused [] p h = absurd (omega arith)
first_refused (q ∷ ps) p h = refl
