-- Each gate adds a variable and clauses: the form grows, and the variable is the gate's function.
use Rattle.std.proofs.Common.{◌≡◌, ℕ, ◌+◌, ◌<◌, Bool, true, false, ◌&&◌, ◌||◌, List, [], ◌∷◌, ◌++◌, map, take, get_or, length, refl, sym, ap, ◌∙◌, subst, arith, append_assoc}
use Rattle.std.specs.Prelude.{if◌then◌else◌}
use Rattle.std.specs.List.{list_all}
use Rattle.std.proofs.lemmas.List.{take_more}
use Rattle.sat_form.specs.Satisfaction.{Literal, Form, literal_value, inverse_of, Satisfies, IsWithin, AreWithin, AgreeBelow, with_value}
use Rattle.sat_form.proofs.Truth.{Satisfies-back, literal_value-agree, AgreeBelow-with_value, with_value-same}
use Rattle.sat_form.proofs.Within.{IsWithin-weaker}
use Rattle.gate_bits.specs.Growth.{GrowsFreely}
use Rattle.gate_bits.specs.Truth.{IsTruth, most}
use Rattle.gate_bits.specs.Clauses.{and_clauses, each_clauses, all_clauses, choice_clauses, most_clauses}
use Rattle.gate_bits.proofs.Growing.{GrowsFreely-new}
use Rattle.gate_bits.proofs.Inverting.{IsWithin-inverses}
use Rattle.gate_bits.proofs.Tables.{one_forces, and_forces, all_forces, choice_forces, most_forces, and_holds, all_holds, choice_holds, most_holds}

abbrev pub plain : ℕ → Literal
plain n = record { variable = n; negated = false }

-- what the literals below n keep, and what the new one gets
kept : (x : ℕ → Bool) (n : ℕ) (b : Bool) (l : Literal) → l.variable < n → literal_value (with_value x n b) l ≡ literal_value x l
kept x n b l within = sym (literal_value-agree n x (with_value x n b) l (AgreeBelow-with_value x n b) within)

given : (x : ℕ → Bool) (n : ℕ) (b : Bool) → literal_value (with_value x n b) (plain n) ≡ b
given x n b = with_value-same x n b

-- ---- any gate

-- the clauses of a gate, put together in a form e of their own, stand at the end of the form f
pub record Gate (f g : Form) (o : Literal) (rows : Literal → List (List Literal)) : Type 0 where
  pub out : o ≡ plain f.variables
  pub is : g ≡ record { variables = f.variables + 1; clauses = f.clauses ++ rows (plain f.variables) }

pub gate : (f b e g : Form) (o : Literal) (rows : Literal → List (List Literal)) (added : List (List Literal)) → b ≡ record { variables = f.variables + 1; clauses = [] } → o ≡ record { variable = f.variables; negated = false } → added ≡ rows o → e ≡ record b { clauses = b.clauses ++ added } → g ≡ record { variables = e.variables; clauses = f.clauses ++ e.clauses } → Gate f g o rows
gate f b e g o rows added begun out is all appended =
    let whole : e ≡ record { variables = f.variables + 1; clauses = rows (plain f.variables) } =
    all ∙ (λ k. record { variables = (begun k).variables; clauses = (begun k).clauses ++ (is ∙ ap rows out) k }) in
    record { out = out; is = appended ∙ (λ k. record { variables = (whole k).variables; clauses = f.clauses ++ (whole k).clauses }) }

gate_grows : (f g : Form) (o : Literal) (rows : Literal → List (List Literal)) (truth : (ℕ → Bool) → Bool) → AreWithin (f.variables + 1) (rows (plain f.variables)) → ((x : ℕ → Bool) → Satisfies (with_value x f.variables (truth x)) (rows (plain f.variables)))
    → ((x : ℕ → Bool) → Satisfies x (rows (plain f.variables)) → literal_value x (plain f.variables) ≡ truth x) → ((x y : ℕ → Bool) → AgreeBelow f.variables x y → truth x ≡ truth y) → Gate f g o rows → GrowsFreely f g
gate_grows f g o rows truth within holds forces same made = GrowsFreely-new f g (rows (plain f.variables)) truth within holds forces same made.is

gate_is : (f g : Form) (o : Literal) (rows : Literal → List (List Literal)) (truth : (ℕ → Bool) → Bool) → ((x : ℕ → Bool) → Satisfies x (rows (plain f.variables)) → literal_value x (plain f.variables) ≡ truth x) → Gate f g o rows → IsTruth g o truth
gate_is f g o rows truth forces made =
    let count : g.variables ≡ f.variables + 1 = ap (λ (d : Form). d.variables) made.is in
    let place : o.variable ≡ f.variables = ap (λ (l : Literal). l.variable) made.out in
    record {
      within = omega (arith, count, place);
      is = λ x satisfied. ap (literal_value x) made.out ∙ forces x (Satisfies-back x f.clauses (rows (plain f.variables)) (subst (Satisfies x) (ap (λ (d : Form). d.clauses) made.is) satisfied));
    }

-- ---- a literal that is true

abbrev pub true_rows : Literal → List (List Literal)
true_rows o = (o ∷ []) ∷ []

pub true_grows : (f g : Form) (o : Literal) → Gate f g o true_rows → GrowsFreely f g
true_grows f g o made =
    let below : f.variables < f.variables + 1 = omega arith in
    gate_grows f g o true_rows (λ x. true) ((below, tt), tt)
    (λ x. λ k. (given x f.variables true k || false) && true) (λ x all. one_forces x (plain f.variables) all) (λ x y agree. refl) made

pub true_is : (f g : Form) (o : Literal) → Gate f g o true_rows → IsTruth g o (λ x. true)
true_is f g o made = gate_is f g o true_rows (λ x. true) (λ x all. one_forces x (plain f.variables) all) made

-- ---- a conjunction

and_new : (x : ℕ → Bool) (n : ℕ) (a b : Literal) → a.variable < n → b.variable < n → Satisfies (with_value x n (literal_value x a && literal_value x b)) (and_clauses a b (plain n))
and_new x n a b p q =
    let v = literal_value x a && literal_value x b in
    and_holds (with_value x n v) a b (plain n) (given x n v ∙ sym (λ k. kept x n v a p k && kept x n v b q k))

pub and_within : (n : ℕ) (a b o : Literal) → a.variable < n → b.variable < n → o.variable < n → AreWithin n (and_clauses a b o)
and_within n a b o p q r = ((p, (r, tt)), ((q, (r, tt)), ((p, (q, (r, tt))), tt)))

pub and_grows : (f g : Form) (a b o : Literal) → a.variable < f.variables → b.variable < f.variables → Gate f g o (and_clauses a b) → GrowsFreely f g
and_grows f g a b o p q made =
    gate_grows f g o (and_clauses a b) (λ x. literal_value x a && literal_value x b)
    (and_within (f.variables + 1) a b (plain f.variables) (omega arith) (omega arith) (omega arith))
    (λ x. and_new x f.variables a b p q) (λ x all. and_forces x a b (plain f.variables) all)
    (λ x y agree. λ k. literal_value-agree f.variables x y a agree p k && literal_value-agree f.variables x y b agree q k) made

pub and_is : (f g : Form) (a b o : Literal) → Gate f g o (and_clauses a b) → IsTruth g o (λ x. literal_value x a && literal_value x b)
and_is f g a b o made = gate_is f g o (and_clauses a b) (λ x. literal_value x a && literal_value x b) (λ x all. and_forces x a b (plain f.variables) all) made

-- two lists of clauses, one added after the other
pub added_twice : (b d e : Form) (one two : List (List Literal)) → d ≡ record b { clauses = b.clauses ++ one } → e ≡ record d { clauses = d.clauses ++ two } → e ≡ record b { clauses = b.clauses ++ (one ++ two) }
added_twice b d e one two first second =
    second ∙ (λ k. record { variables = (first k).variables; clauses = (first k).clauses ++ two }) ∙ (λ k. record { variables = b.variables; clauses = append_assoc b.clauses one two k })

-- ---- a conjunction of a list

pub each_push : (ls : List Literal) (l o : Literal) → each_clauses (ls ++ l ∷ []) o ≡ each_clauses ls o ++ (l ∷ inverse_of o ∷ []) ∷ []
each_push [] l o = refl
each_push (m ∷ ls) l o = ap (λ (cs : List (List Literal)). (m ∷ inverse_of o ∷ []) ∷ cs) (each_push ls l o)

-- one clause more
pub each_more : (b d e : Form) (ls : List Literal) (i : ℕ) (l out : Literal) (o : Literal) → i < length ls → l ≡ get_or ls i l → out ≡ inverse_of o → d ≡ record b { clauses = b.clauses ++ each_clauses (take i ls) o } → e ≡ record d { clauses = d.clauses ++ (l ∷ out ∷ []) ∷ [] } → e ≡ record b { clauses = b.clauses ++ each_clauses (take (i + 1) ls) o }
each_more b d e ls i l out o below at is so_far added =
    let one : List (List Literal) = (l ∷ inverse_of o ∷ []) ∷ [] in
    let last : e ≡ record d { clauses = d.clauses ++ one } = added ∙ (λ k. record d { clauses = d.clauses ++ (l ∷ is k ∷ []) ∷ [] }) in
    let more : each_clauses (take i ls) o ++ one ≡ each_clauses (take (i + 1) ls) o =
    sym (each_push (take i ls) l o) ∙ ap (λ (m : Literal). each_clauses (take i ls ++ m ∷ []) o) at ∙ ap (λ (ms : List Literal). each_clauses ms o) (sym (take_more ls i l below)) in
    added_twice b d e (each_clauses (take i ls) o) one so_far last ∙ (λ k. record { variables = b.variables; clauses = b.clauses ++ more k })

each_within : (n : ℕ) (ls : List Literal) (o : Literal) → IsWithin n ls → o.variable < n → AreWithin n (each_clauses ls o)
each_within n [] o within below = tt
each_within n (l ∷ ls) o within below = ((within.0, (below, tt)), each_within n ls o within.1 below)

all_within : (n : ℕ) (ls : List Literal) (o : Literal) → IsWithin n ls → o.variable < n → AreWithin n (all_clauses ls o)
all_within n ls o within below = ((below, IsWithin-inverses n ls within), each_within n ls o within below)

all_agree : (n : ℕ) (x y : ℕ → Bool) (ls : List Literal) → AgreeBelow n x y → IsWithin n ls → list_all (literal_value x) ls ≡ list_all (literal_value y) ls
all_agree n x y [] agree within = refl
all_agree n x y (l ∷ ls) agree within = λ k. literal_value-agree n x y l agree within.0 k && all_agree n x y ls agree within.1 k

all_new : (x : ℕ → Bool) (n : ℕ) (ls : List Literal) → IsWithin n ls → Satisfies (with_value x n (list_all (literal_value x) ls)) (all_clauses ls (plain n))
all_new x n ls within =
    let v = list_all (literal_value x) ls in
    all_holds (with_value x n v) ls (plain n) (given x n v ∙ all_agree n x (with_value x n v) ls (AgreeBelow-with_value x n v) within)

pub all_grows : (f g : Form) (ls : List Literal) (o : Literal) → IsWithin f.variables ls → Gate f g o (all_clauses ls) → GrowsFreely f g
all_grows f g ls o within made =
    gate_grows f g o (all_clauses ls) (λ x. list_all (literal_value x) ls)
    (all_within (f.variables + 1) ls (plain f.variables) (IsWithin-weaker f.variables (f.variables + 1) ls (omega arith) within) (omega arith))
    (λ x. all_new x f.variables ls within) (λ x all. all_forces x ls (plain f.variables) all)
    (λ x y agree. all_agree f.variables x y ls agree within) made

pub all_is : (f g : Form) (ls : List Literal) (o : Literal) → Gate f g o (all_clauses ls) → IsTruth g o (λ x. list_all (literal_value x) ls)
all_is f g ls o made = gate_is f g o (all_clauses ls) (λ x. list_all (literal_value x) ls) (λ x all. all_forces x ls (plain f.variables) all) made

-- the literals are within the gate's form
pub literals_within : (f b e : Form) (long : List Literal) (ls : List Literal) → b ≡ record { variables = f.variables + 1; clauses = [] } → e ≡ record b { clauses = b.clauses ++ long ∷ [] } → IsWithin f.variables ls → IsWithin e.variables ls
literals_within f b e long ls begun all within =
    let count : e.variables ≡ f.variables + 1 = ap (λ (d : Form). d.variables) all ∙ ap (λ (d : Form). d.variables) begun in
    IsWithin-weaker f.variables e.variables ls (omega (arith, count)) within

-- the long clause is within the gate's form
pub long_within : (f b : Form) (ls inverse long : List Literal) (o : Literal) → b ≡ record { variables = f.variables + 1; clauses = [] } → o ≡ record { variable = f.variables; negated = false } → inverse ≡ map inverse_of ls → long ≡ o ∷ inverse → IsWithin f.variables ls → IsWithin b.variables long
long_within f b ls inverse long o begun out is whole within =
    let count : b.variables ≡ f.variables + 1 = ap (λ (d : Form). d.variables) begun in
    let place : o.variable ≡ f.variables = ap (λ (l : Literal). l.variable) out in
    let rest : IsWithin b.variables (map inverse_of ls) = IsWithin-inverses b.variables ls (IsWithin-weaker f.variables b.variables ls (omega (arith, count)) within) in
    subst (IsWithin b.variables) (sym (whole ∙ ap (λ (ms : List Literal). o ∷ ms) is)) (omega (arith, count, place), rest)

-- ---- a choice

choice_within : (n m : ℕ) (t y z o : Literal) → n < m → t.variable < n → y.variable < n → z.variable < n → o.variable < m → AreWithin m (choice_clauses t y z o)
choice_within n m t y z o more a b c d =
    let t' : t.variable < m = omega arith in
    let y' : y.variable < m = omega arith in
    let z' : z.variable < m = omega arith in
    ((t', (y', (d, tt))), ((t', (y', (d, tt))), ((t', (z', (d, tt))), ((t', (z', (d, tt))), tt))))

choice_new : (x : ℕ → Bool) (n : ℕ) (t y z : Literal) → t.variable < n → y.variable < n → z.variable < n → Satisfies (with_value x n (if literal_value x t then literal_value x y else literal_value x z)) (choice_clauses t y z (plain n))
choice_new x n t y z a b c =
    let v = if literal_value x t then literal_value x y else literal_value x z in
    choice_holds (with_value x n v) t y z (plain n) (given x n v ∙ sym (λ k. if kept x n v t a k then kept x n v y b k else kept x n v z c k))

pub choice_grows : (f g : Form) (t y z o : Literal) → t.variable < f.variables → y.variable < f.variables → z.variable < f.variables → Gate f g o (choice_clauses t y z) → GrowsFreely f g
choice_grows f g t y z o a b c made =
    gate_grows f g o (choice_clauses t y z) (λ x. if literal_value x t then literal_value x y else literal_value x z)
    (choice_within f.variables (f.variables + 1) t y z (plain f.variables) (omega arith) a b c (omega arith))
    (λ x. choice_new x f.variables t y z a b c) (λ x all. choice_forces x t y z (plain f.variables) all)
    (λ x y' agree. λ k. if literal_value-agree f.variables x y' t agree a k then literal_value-agree f.variables x y' y agree b k else literal_value-agree f.variables x y' z agree c k) made

pub choice_is : (f g : Form) (t y z o : Literal) → Gate f g o (choice_clauses t y z) → IsTruth g o (λ x. if literal_value x t then literal_value x y else literal_value x z)
choice_is f g t y z o made =
    gate_is f g o (choice_clauses t y z) (λ x. if literal_value x t then literal_value x y else literal_value x z) (λ x all. choice_forces x t y z (plain f.variables) all) made

-- ---- a majority

most_within : (n m : ℕ) (t y z o : Literal) → n < m → t.variable < n → y.variable < n → z.variable < n → o.variable < m → AreWithin m (most_clauses t y z o)
most_within n m t y z o more a b c d =
    let t' : t.variable < m = omega arith in
    let y' : y.variable < m = omega arith in
    let z' : z.variable < m = omega arith in
    ((t', (y', (d, tt))), ((t', (z', (d, tt))), ((y', (z', (d, tt))), ((t', (y', (d, tt))), ((t', (z', (d, tt))), ((y', (z', (d, tt))), tt))))))

most_new : (x : ℕ → Bool) (n : ℕ) (t y z : Literal) → t.variable < n → y.variable < n → z.variable < n → Satisfies (with_value x n (most (literal_value x t) (literal_value x y) (literal_value x z))) (most_clauses t y z (plain n))
most_new x n t y z a b c =
    let v = most (literal_value x t) (literal_value x y) (literal_value x z) in
    most_holds (with_value x n v) t y z (plain n) (given x n v ∙ sym (λ k. most (kept x n v t a k) (kept x n v y b k) (kept x n v z c k)))

pub most_grows : (f g : Form) (t y z o : Literal) → t.variable < f.variables → y.variable < f.variables → z.variable < f.variables → Gate f g o (most_clauses t y z) → GrowsFreely f g
most_grows f g t y z o a b c made =
    gate_grows f g o (most_clauses t y z) (λ x. most (literal_value x t) (literal_value x y) (literal_value x z))
    (most_within f.variables (f.variables + 1) t y z (plain f.variables) (omega arith) a b c (omega arith))
    (λ x. most_new x f.variables t y z a b c) (λ x all. most_forces x t y z (plain f.variables) all)
    (λ x y' agree. λ k. most (literal_value-agree f.variables x y' t agree a k) (literal_value-agree f.variables x y' y agree b k) (literal_value-agree f.variables x y' z agree c k)) made

pub most_is : (f g : Form) (t y z o : Literal) → Gate f g o (most_clauses t y z) → IsTruth g o (λ x. most (literal_value x t) (literal_value x y) (literal_value x z))
most_is f g t y z o made =
    gate_is f g o (most_clauses t y z) (λ x. most (literal_value x t) (literal_value x y) (literal_value x z)) (λ x all. most_forces x t y z (plain f.variables) all) made
