-- What a trail's marks tell of its steps.
use Rattle.std.proofs.Common.{◌≡◌, ℕ, ◌+◌, ◌<◌, ◌≤◌, Bool, true, false, not, List, length, get_or, Option, Some, None, refl, sym, ap, ◌∙◌, subst, arith}
use Rattle.std.specs.Bool.{beq}
use Rattle.std.proofs.lemmas.List.{get_or_default}
use Rattle.std.proofs.lemmas.Bool.{lt-ltb, le-ltb, not-false, true≢false}
use Rattle.std.specs.Prelude.{IsSome, is_some, option_map, if◌then◌else◌}
use Rattle.sat_form.specs.Satisfaction.{Literal}
use Rattle.cdcl_core.specs.declared.trail.Mark.{Mark}
use Rattle.cdcl_core.specs.declared.trail.Trail.TheInside.{Inside}
use Rattle.cdcl_core.specs.Steps.{Course, known_value, known_place, known_truth, oldest, AreFresh}
use Rattle.cdcl_core.specs.Marks.{course_of, mark_of, IsMarked}
use Rattle.cdcl_core.proofs.Courses.{known_value-mark_of, known_place-mark_of, known_value-oldest, value_before, place-below}

same_default : (xs : List (Option Mark)) (k : ℕ) (d e : Option Mark) → k < length xs → get_or xs k d ≡ get_or xs k e
same_default xs k d e within = get_or_default xs k d e within

-- a mark that was read
pub mark_of-read : (t : Inside) (x : Course) (v : ℕ) (m : Option Mark) → IsMarked t → course_of t ≡ x → v < x.variables → m ≡ get_or t.marks.items v m → m ≡ mark_of x.steps v
mark_of-read t x v m marked is within read =
    let inside : v < length t.marks.items = subst (λ n. v < n) (sym (ap (λ (y : Course). y.variables) is)) within in
    read ∙ same_default t.marks.items v m None inside ∙ marked.marks v inside ∙ ap (λ (y : Course). mark_of y.steps v) is

pub fresh-read : (t : Inside) (x : Course) → IsMarked t → course_of t ≡ x → AreFresh x.variables x.steps
fresh-read t x marked is = subst (λ (y : Course). AreFresh y.variables y.steps) is marked.fresh

-- .. and the value that it has
pub known_value-read : (x : Course) (v : ℕ) (m : Option Mark) → m ≡ mark_of x.steps v → known_value x.steps v ≡ option_map (λ (k : Mark). k.value) m
known_value-read x v m is = known_value-mark_of x.steps v ∙ ap (option_map (λ (k : Mark). k.value)) (sym is)

pub known_truth-read : (x : Course) (l : Literal) (k : ℕ) (m : Option Mark) → AreFresh x.variables x.steps → m ≡ mark_of x.steps l.variable → known_truth (oldest k x.steps) l ≡ option_map (λ b. if l.negated then not b else b) (value_before k m)
known_truth-read x l k m fresh is =
    ap (option_map (λ b. if l.negated then not b else b)) (known_value-oldest x.variables k x.steps l.variable fresh ∙ ap (value_before k) (sym is))

pub mark_of-at : (t : Inside) (x : Course) (v : ℕ) → IsMarked t → course_of t ≡ x → v < x.variables → get_or t.marks.items v None ≡ mark_of x.steps v
mark_of-at t x v marked is within =
    marked.marks v (subst (λ n. v < n) (sym (ap (λ (y : Course). y.variables) is)) within) ∙ ap (λ (y : Course). mark_of y.steps v) is

known_value-at : (t : Inside) (x : Course) (v : ℕ) → IsMarked t → course_of t ≡ x → v < x.variables → known_value x.steps v ≡ option_map (λ (k : Mark). k.value) (get_or t.marks.items v None)
known_value-at t x v marked is within = known_value-read x v (get_or t.marks.items v None) (mark_of-at t x v marked is within)

some_mapped : (m : Option Mark) → IsSome m → IsSome (option_map (λ (k : Mark). k.value) m)
some_mapped None some = some
some_mapped (Some m) some = refl

open_mapped : (m : Option Mark) (b : Bool) → not b ≡ is_some m → option_map (λ (k : Mark). k.value) m ≡ None → b ≡ true
open_mapped None b told none = not-false b told
open_mapped (Some m) b told none = cc

none_told : (m : Option Mark) (b : Bool) → not b ≡ is_some m → b ≡ true → option_map (λ (k : Mark). k.value) m ≡ None
none_told None b told is = refl
none_told (Some m) b told is = absurd (true≢false (sym told ∙ ap not is))

-- a variable that has no value, and one that has
pub known_value-open :
    (t : Inside) (x : Course) (v : ℕ) (m : Option Mark) (b : Bool) → IsMarked t → course_of t ≡ x → v < x.variables → m ≡ get_or t.marks.items v m → not b ≡ is_some m → b ≡ true → known_value x.steps v ≡ None
known_value-open t x v m b marked is within read told none =
    known_value-read x v m (mark_of-read t x v m marked is within read) ∙ none_told m b told none

pub is_none-read :
    (t : Inside) (x : Course) (v : ℕ) (m : Option Mark) (b : Bool) → IsMarked t → course_of t ≡ x → v < x.variables → m ≡ get_or t.marks.items v m → not b ≡ is_some m → known_value x.steps v ≡ None → b ≡ true
is_none-read t x v m b marked is within read told open_ =
    open_mapped m b told (sym (known_value-read x v m (mark_of-read t x v m marked is within read)) ∙ open_)

pub all_known :
    (t : Inside) (x : Course) (n : ℕ) → IsMarked t → course_of t ≡ x → length t.marks.items ≤ n →
    ((v : ℕ) → v < n → IsSome (get_or t.marks.items v None)) → (v : ℕ) → v < x.variables → IsSome (known_value x.steps v)
all_known t x n marked is all some v within =
    let inside : v < length t.marks.items = subst (λ k. v < k) (sym (ap (λ (y : Course). y.variables) is)) within in
    subst IsSome (sym (known_value-at t x v marked is within)) (some_mapped (get_or t.marks.items v None) (some v (omega (arith, inside, all))))

-- what the values of all marks tell
pub known_value-given :
    (t : Inside) (x : Course) (n : ℕ) (values : List Bool) → IsMarked t → course_of t ≡ x → length t.marks.items ≤ n →
    ((v : ℕ) (b : Bool) → v < n → option_map (λ (m : Mark). m.value) (get_or t.marks.items v None) ≡ Some b → get_or values v false ≡ b) →
    (v : ℕ) (b : Bool) → v < x.variables → known_value x.steps v ≡ Some b → get_or values v false ≡ b
known_value-given t x n values marked is all given v b within known =
    let inside : v < length t.marks.items = subst (λ k. v < k) (sym (ap (λ (y : Course). y.variables) is)) within in
    given v b (omega (arith, inside, all)) (sym (known_value-at t x v marked is within) ∙ known)

-- and of variables without one
pub known_value-missing :
    (t : Inside) (x : Course) (n : ℕ) (values : List Bool) → IsMarked t → course_of t ≡ x → length t.marks.items ≤ n →
    ((v : ℕ) → v < n → option_map (λ (m : Mark). m.value) (get_or t.marks.items v None) ≡ None → get_or values v false ≡ false) →
    (v : ℕ) → v < x.variables → known_value x.steps v ≡ None → get_or values v false ≡ false
known_value-missing t x n values marked is all rest v within unknown =
    let inside : v < length t.marks.items = subst (λ k. v < k) (sym (ap (λ (y : Course). y.variables) is)) within in
    rest v (omega (arith, inside, all)) (sym (known_value-at t x v marked is within) ∙ unknown)

same_truth : (value negated : Bool) → not (beq value negated) ≡ (if negated then not value else value)
same_truth true true = refl
same_truth true false = refl
same_truth false true = refl
same_truth false false = refl

-- what the oldest steps tell of a literal whose variable has a mark
pub known_truth-told :
    (t : Inside) (x : Course) (l : Literal) (v k : ℕ) (m o : Option Mark) → IsMarked t → course_of t ≡ x → l.variable < x.variables → v ≡ l.variable →
    m ≡ get_or t.marks.items v m → m ≡ o → known_truth (oldest k x.steps) l ≡ option_map (λ b. if l.negated then not b else b) (value_before k o)
known_truth-told t x l v k m o marked is within same read found =
    let here : m ≡ get_or t.marks.items l.variable m = read ∙ ap (λ w. get_or t.marks.items w m) same in
    known_truth-read x l k m (fresh-read t x marked is) (mark_of-read t x l.variable m marked is within here)
    ∙ ap (λ q. option_map (λ b. if l.negated then not b else b) (value_before k q)) found

pub known_value-told :
    (t : Inside) (x : Course) (v : ℕ) (m o : Option Mark) → IsMarked t → course_of t ≡ x → v < x.variables → m ≡ get_or t.marks.items v m → m ≡ o →
    known_value x.steps v ≡ option_map (λ (k : Mark). k.value) o
known_value-told t x v m o marked is within read found =
    known_value-read x v m (mark_of-read t x v m marked is within read) ∙ ap (option_map (λ (k : Mark). k.value)) found

pub known_place-told :
    (t : Inside) (x : Course) (v : ℕ) (m o : Option Mark) → IsMarked t → course_of t ≡ x → v < x.variables → m ≡ get_or t.marks.items v m → m ≡ o →
    known_place x.steps v ≡ option_map (λ (k : Mark). k.place) o
known_place-told t x v m o marked is within read found =
    known_place-mark_of x.steps v ∙ ap (option_map (λ (k : Mark). k.place)) (sym (mark_of-read t x v m marked is within read)) ∙ ap (option_map (λ (k : Mark). k.place)) found

-- the truth that a mark tells, of all steps
pub known_truth-now :
    (t : Inside) (x : Course) (l : Literal) (v : ℕ) (m o : Option Mark) → IsMarked t → course_of t ≡ x → l.variable < x.variables → v ≡ l.variable →
    m ≡ get_or t.marks.items v m → m ≡ o →
    option_map (λ b. if l.negated then not b else b) (option_map (λ (k : Mark). k.value) o) ≡ known_truth x.steps l
known_truth-now t x l v m o marked is within same read found =
    sym (ap (option_map (λ b. if l.negated then not b else b)) (known_value-told t x l.variable m o marked is within (read ∙ ap (λ w. get_or t.marks.items w m) same) found))

-- the truth that a value tells
pub known_truth-here :
    (t : Inside) (x : Course) (l : Literal) (v : ℕ) (m o : Option Bool) → IsMarked t → course_of t ≡ x → l.variable < x.variables → v ≡ l.variable →
    m ≡ get_or t.values.items v m → m ≡ o →
    option_map (λ b. if l.negated then not b else b) o ≡ known_truth x.steps l
known_truth-here t x l v m o marked is within same read found =
    let inside : l.variable < length t.marks.items = subst (λ n. l.variable < n) (sym (ap (λ (y : Course). y.variables) is)) within in
    let beside : l.variable < length t.values.items = subst (λ n. l.variable < n) (sym marked.count) inside in
    ap (option_map (λ b. if l.negated then not b else b))
    (sym found ∙ read ∙ ap (λ w. get_or t.values.items w m) same ∙ get_or_default t.values.items l.variable m None beside ∙ marked.values l.variable inside ∙ ap (λ (y : Course). known_value y.steps l.variable) is)

pub some_truth : (value n negated : Bool) → n ≡ negated → not (beq value n) ≡ (if negated then not value else value)
some_truth value n negated same = ap (λ b. not (beq value b)) same ∙ same_truth value negated

-- a mark's place is that of a step
pub place-marked : (t : Inside) (x : Course) (v : ℕ) (m : Option Mark) (k : Mark) → IsMarked t → course_of t ≡ x → v < x.variables → m ≡ get_or t.marks.items v m → m ≡ Some k → k.place < length x.steps
place-marked t x v m k marked is within read found =
    place-below x.steps v k (sym (mark_of-read t x v m marked is within read) ∙ found)

-- the steps up to a mark's place, and those before it
told_up_to : (g : Bool → Bool) (m : Mark) → option_map g (value_before (m.place + 1) (Some m)) ≡ option_map g (Some m.value)
told_up_to g m = ap (λ t. option_map g (if t then Some m.value else None)) (lt-ltb m.place (m.place + 1) (omega arith))

untold_before : (g : Bool → Bool) (m : Mark) (k : ℕ) → k < m.place + 1 → option_map g (value_before k (Some m)) ≡ None
untold_before g m k before = ap (λ t. option_map g (if t then Some m.value else None)) (le-ltb m.place k (omega arith))

pub height-told :
    (t : Inside) (x : Course) (l : Literal) (v : ℕ) (o : Option Mark) (m : Mark) → IsMarked t → course_of t ≡ x → l.variable < x.variables → v ≡ l.variable → o ≡ get_or t.marks.items v o → o ≡ Some m →
    known_truth (oldest (m.place + 1) x.steps) l ≡ known_truth x.steps l
height-told t x l v o m marked is within same read found =
    known_truth-told t x l v (m.place + 1) o (Some m) marked is within same read found
    ∙ told_up_to (λ b. if l.negated then not b else b) m
    ∙ known_truth-now t x l v o (Some m) marked is within same read found

pub height-before :
    (t : Inside) (x : Course) (l : Literal) (v k : ℕ) (o : Option Mark) (m : Mark) → IsMarked t → course_of t ≡ x → l.variable < x.variables → v ≡ l.variable → o ≡ get_or t.marks.items v o → o ≡ Some m →
    k < m.place + 1 → known_truth (oldest k x.steps) l ≡ None
height-before t x l v k o m marked is within same read found before =
    known_truth-told t x l v k o (Some m) marked is within same read found ∙ untold_before (λ b. if l.negated then not b else b) m k before
