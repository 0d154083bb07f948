-- The clauses of each gate hold exactly where its output is its function of its inputs.
use Rattle.std.proofs.Common.{◌≡◌, ℕ, Bool, true, false, not, ◌&&◌, ◌||◌, List, [], ◌∷◌, refl, sym, ap, ◌∙◌}
use Rattle.std.specs.Prelude.{if◌then◌else◌}
use Rattle.std.specs.List.{list_all}
use Rattle.sat_form.specs.Satisfaction.{Literal, literal_value, clause_value, Satisfies}
use Rattle.sat_form.proofs.Truth.{literal_value-inverse_of}
use Rattle.gate_bits.specs.Truth.{most}
use Rattle.gate_bits.specs.Clauses.{and_clauses, each_clauses, all_clauses, choice_clauses, most_clauses}
use Rattle.gate_bits.proofs.Inverting.{any-inverses}

abbrev same : Bool → Bool → Bool
same x y = if x then y else not y

same-refl : (x : Bool) → same x x ≡ true
same-refl true = refl
same-refl false = refl

equal_from_same : (x y : Bool) → same x y ≡ true → x ≡ y
equal_from_same true true h = refl
equal_from_same true false h = sym h
equal_from_same false true h = h
equal_from_same false false h = refl

-- ---- over plain truths

and_table : (a b o : Bool) → ((a || (not o || false)) && ((b || (not o || false)) && ((not a || (not b || (o || false))) && true))) ≡ same o (a && b)
and_table true true true = refl
and_table true true false = refl
and_table true false true = refl
and_table true false false = refl
and_table false true true = refl
and_table false true false = refl
and_table false false true = refl
and_table false false false = refl

one_table : (o : Bool) → ((o || false) && true) ≡ o
one_table true = refl
one_table false = refl

none_table : (o : Bool) → true ≡ (not o || true)
none_table true = refl
none_table false = refl

each_table : (a o rest : Bool) → ((a || (not o || false)) && (not o || rest)) ≡ (not o || (a && rest))
each_table true true rest = refl
each_table true false rest = refl
each_table false true rest = refl
each_table false false rest = refl

all_table : (o rest : Bool) → ((o || not rest) && (not o || rest)) ≡ same o rest
all_table true true = refl
all_table true false = refl
all_table false true = refl
all_table false false = refl

choice_table : (t y n o : Bool) → ((not t || (not y || (o || false))) && ((not t || (y || (not o || false))) && ((t || (not n || (o || false))) && ((t || (n || (not o || false))) && true)))) ≡ same o (if t then y else n)
choice_table true true n true = refl
choice_table true true n false = refl
choice_table true false n true = refl
choice_table true false n false = refl
choice_table false y true true = refl
choice_table false y true false = refl
choice_table false y false true = refl
choice_table false y false false = refl

most_table : (a b c o : Bool) → ((not a || (not b || (o || false))) && ((not a || (not c || (o || false))) && ((not b || (not c || (o || false))) && ((a || (b || (not o || false))) && ((a || (c || (not o || false))) && ((b || (c || (not o || false))) && true)))))) ≡ same o (most a b c)
most_table true true true true = refl
most_table true true true false = refl
most_table true true false true = refl
most_table true true false false = refl
most_table true false true true = refl
most_table true false true false = refl
most_table true false false true = refl
most_table true false false false = refl
most_table false true true true = refl
most_table false true true false = refl
most_table false true false true = refl
most_table false true false false = refl
most_table false false true true = refl
most_table false false true false = refl
most_table false false false true = refl
most_table false false false false = refl

-- ---- over literals

and_means : (x : ℕ → Bool) (a b o : Literal) → list_all (clause_value x) (and_clauses a b o) ≡ same (literal_value x o) (literal_value x a && literal_value x b)
and_means x a b o =
    (λ k. (literal_value x a || (literal_value-inverse_of x o k || false)) && ((literal_value x b || (literal_value-inverse_of x o k || false)) && ((literal_value-inverse_of x a k || (literal_value-inverse_of x b k || (literal_value x o || false))) && true)))
    ∙ and_table (literal_value x a) (literal_value x b) (literal_value x o)

each_means : (x : ℕ → Bool) (ls : List Literal) (o : Literal) → list_all (clause_value x) (each_clauses ls o) ≡ (not (literal_value x o) || list_all (literal_value x) ls)
each_means x [] o = none_table (literal_value x o)
each_means x (l ∷ ls) o =
    (λ k. (literal_value x l || (literal_value-inverse_of x o k || false)) && each_means x ls o k)
    ∙ each_table (literal_value x l) (literal_value x o) (list_all (literal_value x) ls)

all_means : (x : ℕ → Bool) (ls : List Literal) (o : Literal) → list_all (clause_value x) (all_clauses ls o) ≡ same (literal_value x o) (list_all (literal_value x) ls)
all_means x ls o = (λ k. (literal_value x o || any-inverses x ls k) && each_means x ls o k) ∙ all_table (literal_value x o) (list_all (literal_value x) ls)

choice_means : (x : ℕ → Bool) (t y n o : Literal) → list_all (clause_value x) (choice_clauses t y n o) ≡ same (literal_value x o) (if literal_value x t then literal_value x y else literal_value x n)
choice_means x t y n o =
    (λ k. (literal_value-inverse_of x t k || (literal_value-inverse_of x y k || (literal_value x o || false))) && ((literal_value-inverse_of x t k || (literal_value x y || (literal_value-inverse_of x o k || false))) && ((literal_value x t || (literal_value-inverse_of x n k || (literal_value x o || false))) && ((literal_value x t || (literal_value x n || (literal_value-inverse_of x o k || false))) && true))))
    ∙ choice_table (literal_value x t) (literal_value x y) (literal_value x n) (literal_value x o)

most_means : (x : ℕ → Bool) (a b c o : Literal) → list_all (clause_value x) (most_clauses a b c o) ≡ same (literal_value x o) (most (literal_value x a) (literal_value x b) (literal_value x c))
most_means x a b c o =
    (λ k. (literal_value-inverse_of x a k || (literal_value-inverse_of x b k || (literal_value x o || false))) && ((literal_value-inverse_of x a k || (literal_value-inverse_of x c k || (literal_value x o || false))) && ((literal_value-inverse_of x b k || (literal_value-inverse_of x c k || (literal_value x o || false))) && ((literal_value x a || (literal_value x b || (literal_value-inverse_of x o k || false))) && ((literal_value x a || (literal_value x c || (literal_value-inverse_of x o k || false))) && ((literal_value x b || (literal_value x c || (literal_value-inverse_of x o k || false))) && true))))))
    ∙ most_table (literal_value x a) (literal_value x b) (literal_value x c) (literal_value x o)

pub and_forces : (x : ℕ → Bool) (a b o : Literal) → Satisfies x (and_clauses a b o) → literal_value x o ≡ (literal_value x a && literal_value x b)
and_forces x a b o all = equal_from_same _ _ (sym (and_means x a b o) ∙ all)

pub one_forces : (x : ℕ → Bool) (o : Literal) → Satisfies x ((o ∷ []) ∷ []) → literal_value x o ≡ true
one_forces x o all = sym (one_table (literal_value x o)) ∙ all

pub all_forces : (x : ℕ → Bool) (ls : List Literal) (o : Literal) → Satisfies x (all_clauses ls o) → literal_value x o ≡ list_all (literal_value x) ls
all_forces x ls o all = equal_from_same _ _ (sym (all_means x ls o) ∙ all)

pub choice_forces : (x : ℕ → Bool) (t y n o : Literal) → Satisfies x (choice_clauses t y n o) → literal_value x o ≡ (if literal_value x t then literal_value x y else literal_value x n)
choice_forces x t y n o all = equal_from_same _ _ (sym (choice_means x t y n o) ∙ all)

pub most_forces : (x : ℕ → Bool) (a b c o : Literal) → Satisfies x (most_clauses a b c o) → literal_value x o ≡ most (literal_value x a) (literal_value x b) (literal_value x c)
most_forces x a b c o all = equal_from_same _ _ (sym (most_means x a b c o) ∙ all)

pub and_holds : (x : ℕ → Bool) (a b o : Literal) → literal_value x o ≡ (literal_value x a && literal_value x b) → Satisfies x (and_clauses a b o)
and_holds x a b o is = and_means x a b o ∙ ap (λ v. same v (literal_value x a && literal_value x b)) is ∙ same-refl (literal_value x a && literal_value x b)

pub all_holds : (x : ℕ → Bool) (ls : List Literal) (o : Literal) → literal_value x o ≡ list_all (literal_value x) ls → Satisfies x (all_clauses ls o)
all_holds x ls o is = all_means x ls o ∙ ap (λ v. same v (list_all (literal_value x) ls)) is ∙ same-refl (list_all (literal_value x) ls)

pub choice_holds : (x : ℕ → Bool) (t y n o : Literal) → literal_value x o ≡ (if literal_value x t then literal_value x y else literal_value x n) → Satisfies x (choice_clauses t y n o)
choice_holds x t y n o is = choice_means x t y n o ∙ ap (λ v. same v (if literal_value x t then literal_value x y else literal_value x n)) is ∙ same-refl (if literal_value x t then literal_value x y else literal_value x n)

pub most_holds : (x : ℕ → Bool) (a b c o : Literal) → literal_value x o ≡ most (literal_value x a) (literal_value x b) (literal_value x c) → Satisfies x (most_clauses a b c o)
most_holds x a b c o is = most_means x a b c o ∙ ap (λ v. same v (most (literal_value x a) (literal_value x b) (literal_value x c))) is ∙ same-refl (most (literal_value x a) (literal_value x b) (literal_value x c))
