-- What the arguments and the body of a call ask for is there.
use Rattle.std.proofs.Common.{◌≡◌, ◌≤◌, slice_index, nat_le, ℕ, ◌+◌, ◌/◌, zero, suc, Bool, true, false, ◌&&◌, ◌||◌, not, ◌==◌, nat_lt, List, [], ◌∷◌, ◌++◌, length, map, take, drop, Option, Some, None, slice_get, refl, sym, ap, subst, ◌∙◌, rules, arith}
use Rattle.std.specs.Prelude.{is_some, option_map}
use Rattle.std.specs.List.{list_all}
use Rattle.std.proofs.lemmas.Bool.{false≢true, true≢false}
use Rattle.std.proofs.lemmas.Bool.Decides.{nat_tests}
use Rattle.std.proofs.lemmas.Option.{slice_get-map}
use Rattle.c_types.specs.declared.integers.IntegerType.{IntegerType}
use Rattle.c_types.specs.declared.integers.IntegerType.TheVariants as types
use Rattle.c_types.specs.declared.types.ValueType.{ValueType}
use Rattle.c_types.specs.declared.types.ValueType.TheVariants.{Void, Integer}
use Rattle.c_types.specs.Integers.{width, bytes, number_of, same_integer}
use Rattle.core_tree.specs.declared.functions.PassedType.{PassedType}
use Rattle.core_tree.specs.declared.functions.PassedType.TheVariants as passed
use Rattle.core_tree.specs.Trees.{Procedure, Statement, TypedFile}
use Rattle.core_tree.specs.Typed.{Sizes, Signature, signature, sizes_in, sizes_with, same_passed, same_given, given_as, gives_this, passed_size, parameters_of, have_parameters, is_typed_statement, is_typed_body, is_typed_function, is_home, homes_of, sizes_of_variables, are_static, are_typed}
use Rattle.c_values.specs.Variables.{zeros, first_variables}
use Rattle.c_meaning.specs.Meaning.{integer_of, body_of, variables_of}
use Rattle.c_tasks.specs.Items.{blocks_on, Wanted, wants_number, wants_structure}
use Rattle.c_tasks.specs.Fits.{sizes_of, sizes_on, passed_sizes, same_sizes, is_given, wanted_of, signature_of, gives_of, gives_at, declared_at, variables_at, parameters_at, home_at, holds_address, sizes_for}
use Rattle.std.specs.Option.{option_and_then}
use Rattle.core_tree.specs.declared.functions.Variable.{Variable}
use Rattle.c_meaning.proofs.Holding.{left_of, right_of, both, to_le}
use Rattle.c_tasks.proofs.Sizes.{first_sizes}
use Rattle.c_tasks.proofs.Homes.{home_there}
use Rattle.std.proofs.lemmas.List.{length-map}
use Rattle.c_meaning.proofs.TypeWidths.{type_widths}

same_back : (a b : ℕ) → (a == b) ≡ true → (b == a) ≡ true
same_back a b h = grind (arith, nat_tests)

equal : (a b : ℕ) → (a == b) ≡ true → a ≡ b
equal a b h = grind (arith, nat_tests)

itself : (a : ℕ) → (a == a) ≡ true
itself a = grind (arith, nat_tests)

passed_back : (p q : PassedType) → same_passed p q ≡ true → same_passed q p ≡ true
passed_back (passed.Integer t) (passed.Integer u) h = same_back (number_of t) (number_of u) h
passed_back (passed.Integer t) (passed.Structure n) h = h
passed_back (passed.Structure m) (passed.Integer u) h = h
passed_back (passed.Structure m) (passed.Structure n) h = same_back m n h

-- ---- what a call is for is what the function gives

given_back : (gives : Option PassedType) (line : ℕ) (used : Bool) (t : ValueType) → same_given gives (given_as t) ≡ true → is_given (wants_number line used (integer_of t)) gives ≡ true
given_back None line used t h = refl
given_back (Some p) line used Void h = absurd (false≢true h)
given_back (Some p) line used (Integer t) h = passed_back p (passed.Integer t) h

pub number_wanted : (line : ℕ) (used : Bool) (t : ValueType) (o : Option Signature) → gives_this (given_as t) o ≡ true → wanted_of (wants_number line used (integer_of t)) o ≡ true
number_wanted line used t None h = absurd (false≢true h)
number_wanted line used t (Some s) h = given_back s.gives line used t h

structure_back : (gives : Option PassedType) (line size : ℕ) (used : Bool) → same_given gives (Some (passed.Structure size)) ≡ true → is_given (wants_structure line used size) gives ≡ true
structure_back None line size used h = refl
structure_back (Some p) line size used h = passed_back p (passed.Structure size) h

pub structure_wanted : (line size : ℕ) (used : Bool) (o : Option Signature) → gives_this (Some (passed.Structure size)) o ≡ true → wanted_of (wants_structure line used size) o ≡ true
structure_wanted line size used None h = absurd (false≢true h)
structure_wanted line size used (Some s) h = structure_back s.gives line size used h

-- ---- arguments

abbrev has_more : List PassedType → Bool
has_more [] = false
has_more (p ∷ ps) = true

abbrev first_or : PassedType → List PassedType → PassedType
first_or d [] = d
first_or d (p ∷ ps) = p

abbrev others : List PassedType → List PassedType
others [] = []
others (p ∷ ps) = ps

no_more : (p : PassedType) (ps : List PassedType) → [] ≡ p ∷ ps → ⊥
no_more p ps h = false≢true (ap has_more h)

pub taken_more : (ps qs : List PassedType) (count : ℕ) (p : PassedType) → drop count ps ≡ p ∷ qs → take (suc count) ps ≡ take count ps ++ p ∷ []
taken_more [] qs zero p h = absurd (no_more p qs h)
taken_more [] qs (suc n) p h = absurd (no_more p qs h)
taken_more (x ∷ ps) qs zero p h = ap (λ y. first_or p y ∷ []) h
taken_more (x ∷ ps) qs (suc n) p h = ap (λ ys. x ∷ ys) (taken_more ps qs n p h)

pub dropped_more : (ps qs : List PassedType) (count : ℕ) (p : PassedType) → drop count ps ≡ p ∷ qs → drop (suc count) ps ≡ qs
dropped_more [] qs zero p h = absurd (no_more p qs h)
dropped_more [] qs (suc n) p h = absurd (no_more p qs h)
dropped_more (x ∷ ps) qs zero p h = ap others h
dropped_more (x ∷ ps) qs (suc n) p h = dropped_more ps qs n p h

pub taken_all : (ps : List PassedType) (count : ℕ) → drop count ps ≡ [] → take count ps ≡ ps
taken_all [] zero h = refl
taken_all [] (suc n) h = refl
taken_all (x ∷ ps) zero h = absurd (no_more x ps (sym h))
taken_all (x ∷ ps) (suc n) h = ap (λ ys. x ∷ ys) (taken_all ps n h)

same_append : (xs ys : List ℕ) (a b : ℕ) → same_sizes xs ys ≡ true → (a == b) ≡ true → same_sizes (xs ++ a ∷ []) (ys ++ b ∷ []) ≡ true
same_append [] [] a b h k = both _ _ k refl
same_append [] (y ∷ ys) a b h k = absurd (false≢true h)
same_append (x ∷ xs) [] a b h k = absurd (false≢true h)
same_append (x ∷ xs) (y ∷ ys) a b h k = both _ _ (left_of _ _ h) (same_append xs ys a b (right_of _ _ h) k)

passed_append : (ps : List PassedType) (p : PassedType) → passed_sizes (ps ++ p ∷ []) ≡ passed_sizes ps ++ passed_size p ∷ []
passed_append [] p = refl
passed_append (x ∷ ps) p = ap (λ ys. passed_size x ∷ ys) (passed_append ps p)

pub same_itself : (zs : List ℕ) → same_sizes zs zs ≡ true
same_itself [] = refl
same_itself (z ∷ zs) = both _ _ (itself z) (same_itself zs)

pub same_lists : (xs ys : List ℕ) → same_sizes xs ys ≡ true → xs ≡ ys
same_lists [] [] h = refl
same_lists [] (y ∷ ys) h = absurd (false≢true h)
same_lists (x ∷ xs) [] h = absurd (false≢true h)
same_lists (x ∷ xs) (y ∷ ys) h = λ i. equal x y (left_of _ _ h) i ∷ same_lists xs ys (right_of _ _ h) i

-- with one more argument
pub argument_fits : (ps qs : List PassedType) (count : ℕ) (p : PassedType) (zs : List ℕ) (z : ℕ) → drop count ps ≡ p ∷ qs →
    same_sizes (sizes_on count zs) (passed_sizes (take count ps)) ≡ true → (z == passed_size p) ≡ true → same_sizes (sizes_on (suc count) (z ∷ zs)) (passed_sizes (take (suc count) ps)) ≡ true
argument_fits ps qs count p zs z h k e =
    ap (same_sizes (sizes_on count zs ++ z ∷ [])) (ap passed_sizes (taken_more ps qs count p h) ∙ passed_append (take count ps) p)
    ∙ same_append (sizes_on count zs) (passed_sizes (take count ps)) z (passed_size p) k e

bytes_by_width : (t : IntegerType) → bytes t ≡ (width t + 7) / 8
bytes_by_width types.Bool = refl
bytes_by_width _ = refl

pub number_passed : (p : PassedType) (t : ValueType) → same_given (Some p) (given_as t) ≡ true → (bytes (integer_of t) == passed_size p) ≡ true
number_passed p Void h = absurd (false≢true h)
number_passed (passed.Integer u) (Integer t) h =
    let w : width u ≡ width t = equal (width u) (width t) (type_widths (Integer u) (Integer t) h) in
    let e : bytes t ≡ bytes u = bytes_by_width t ∙ ap (λ n. (n + 7) / 8) (sym w) ∙ sym (bytes_by_width u) in
    ap (λ n. n == bytes u) e ∙ itself (bytes u)
number_passed (passed.Structure n) (Integer t) h = absurd (false≢true h)

pub structure_passed : (p : PassedType) (size : ℕ) → same_passed p (passed.Structure size) ≡ true → (size == passed_size p) ≡ true
structure_passed (passed.Integer t) size h = absurd (false≢true h)
structure_passed (passed.Structure n) size h = same_back n size h

-- ---- bodies

abbrev holds : (Procedure → Bool) → Option Procedure → Bool
holds P None = true
holds P (Some p) = P p

all_at : (P : Procedure → Bool) (fs : List Procedure) (f : ℕ) (p : Procedure) → list_all P fs ≡ true → slice_get fs f ≡ Some p → P p ≡ true
all_at P [] f p h e = absurd (false≢true (ap is_some e))
all_at P (x ∷ fs) zero p h e = ap (holds P) (sym e) ∙ left_of (P x) (list_all P fs) h
all_at P (x ∷ fs) (suc n) p h e = all_at P fs n p (right_of (P x) (list_all P fs) h) e

one_of : (a b : Bool) → (a || b) ≡ true → b ≡ false → a ≡ true
one_of true b h e = refl
one_of false b h e = absurd (true≢false (sym h ∙ e))

module _ (file : TypedFile) (all_typed : are_typed file ≡ true) (f : ℕ) where
  module _ (p : Procedure) (k : slice_get file.functions f ≡ Some p) where
    function_typed : is_typed_function file p ≡ true
    function_typed = all_at (is_typed_function file) file.functions f p (right_of (are_static file) (list_all (is_typed_function file) file.functions) all_typed) k

    abbrev parameters_listed : Bool
    parameters_listed = have_parameters (sizes_of_variables p.variables) p.parameters || not (is_some p.body)

    abbrev homes_listed : Bool
    homes_listed = list_all (is_home (sizes_in file p)) (homes_of p.variables)

    same_sizes_for : sizes_for file f ≡ sizes_in file p
    same_sizes_for =
        let s = slice_get-map signature file.functions f ∙ ap (option_map signature) k in
        λ i. sizes_with file (variables_of (k i)) (gives_of (s i))

    typed_at : (s : Statement) → p.body ≡ Some s → is_typed_statement (sizes_for file f) s ≡ true
    typed_at s e =
        ap (λ z. is_typed_statement z s) same_sizes_for
        ∙ ap (is_typed_body (sizes_in file p)) (sym e)
        ∙ right_of (parameters_listed && homes_listed) (is_typed_body (sizes_in file p) p.body) function_typed

    parameters_at_start : (s : Statement) → p.body ≡ Some s → have_parameters (variables_at file f) (parameters_at file f) ≡ true
    parameters_at_start s e =
        let first = left_of parameters_listed homes_listed (left_of (parameters_listed && homes_listed) (is_typed_body (sizes_in file p) p.body) function_typed) in
        let here : have_parameters (sizes_of_variables p.variables) p.parameters ≡ true = one_of (have_parameters (sizes_of_variables p.variables) p.parameters) (not (is_some p.body)) first (ap (λ o. not (is_some o)) e) in
        let same : parameters_at file f ≡ p.parameters = ap parameters_of (slice_get-map signature file.functions f ∙ ap (option_map signature) k) in
        ap (have_parameters (variables_at file f)) same ∙ ap (λ (o : Option Procedure). have_parameters (sizes_of_variables (variables_of o)) p.parameters) k ∙ here

    homes_at : list_all (is_home (sizes_in file p)) (homes_of p.variables) ≡ true
    homes_at = right_of parameters_listed homes_listed (left_of (parameters_listed && homes_listed) (is_typed_body (sizes_in file p) p.body) function_typed)

  no_body : (s : Statement) → ◌≡◌ {A = Option Statement} None (Some s) → ⊥
  no_body s e = false≢true (ap is_some e)

  pub body_typed : (o : Option Procedure) → slice_get file.functions f ≡ o → (s : Statement) → body_of o ≡ Some s → is_typed_statement (sizes_for file f) s ≡ true
  body_typed None k s e = absurd (no_body s e)
  body_typed (Some p) k s e = typed_at p k s e

  pub parameters_there : (o : Option Procedure) → slice_get file.functions f ≡ o → (s : Statement) → body_of o ≡ Some s → have_parameters (variables_at file f) (parameters_at file f) ≡ true
  parameters_there None k s e = absurd (no_body s e)
  parameters_there (Some p) k s e = parameters_at_start p k s e

  holds_it : (z : Sizes) (home : Option ℕ) → is_home z home ≡ true → holds_address z.variables home ≡ true
  holds_it z None h = refl
  holds_it z (Some x) h =
      let there = nat_lt x (length z.variables) in
      let e = equal (slice_index z.variables x) 8 (right_of (z.pointers && there) (slice_index z.variables x == 8) h) in
      both there (nat_le (0 + 8) (slice_index z.variables x)) (right_of z.pointers there (left_of (z.pointers && there) (slice_index z.variables x == 8) h)) (to_le (0 + 8) (slice_index z.variables x) (omega (arith, e)))

  homes_there : (o : Option Procedure) → slice_get file.functions f ≡ o → (v : ℕ) → holds_address (variables_at file f) (home_at file f v) ≡ true
  homes_there None k v = ap (λ (o : Option Procedure). holds_address (sizes_of_variables (variables_of o)) (option_and_then (λ (x : Variable). x.home) (slice_get (variables_of o) v))) k
  homes_there (Some p) k v =
      ap (λ (o : Option Procedure). holds_address (sizes_of_variables (variables_of o)) (option_and_then (λ (x : Variable). x.home) (slice_get (variables_of o) v))) k
      ∙ home_there (sizes_of_variables p.variables) (is_home (sizes_in file p)) (holds_it (sizes_in file p)) p.variables v (homes_at p k)

  -- the variable that holds an address is there
  pub home_typed : (v : ℕ) → holds_address (variables_at file f) (home_at file f v) ≡ true
  home_typed v = homes_there (slice_get file.functions f) refl v

-- ---- how many arguments there are

same_length : (ys zs : List ℕ) → same_sizes ys zs ≡ true → length ys ≡ length zs
same_length ys zs h = ap (λ (xs : List ℕ). length xs) (same_lists ys zs h)

taken_length : (count : ℕ) (ps : List PassedType) → length (take count ps) ≤ length ps
taken_length zero ps = omega arith
taken_length (suc n) [] = omega arith
taken_length (suc n) (p ∷ ps) = let h = taken_length n ps in omega (arith, h)

parameters_few : (vs : List ℕ) (ps : List PassedType) → have_parameters vs ps ≡ true → length ps ≤ length vs
parameters_few vs [] h = omega arith
parameters_few [] (p ∷ ps) h = absurd (false≢true h)
parameters_few (v ∷ vs) (p ∷ ps) h = let e = parameters_few vs ps (right_of (v == passed_size p) (have_parameters vs ps) h) in omega (arith, e)

-- ---- the variables of a function at its start

pub frame_sizes : (args : List (List ℕ)) (ps : List PassedType) (vs : List ℕ) → have_parameters vs ps ≡ true → same_sizes (sizes_of args) (passed_sizes ps) ≡ true → sizes_of (args ++ first_variables (drop (length args) vs)) ≡ vs
frame_sizes [] [] vs h k = first_sizes vs
frame_sizes [] (p ∷ ps) vs h k = absurd (false≢true k)
frame_sizes (a ∷ args) [] vs h k = absurd (false≢true k)
frame_sizes (a ∷ args) (p ∷ ps) [] h k = absurd (false≢true h)
frame_sizes (a ∷ args) (p ∷ ps) (v ∷ vs) h k =
    let e : length a ≡ v = equal (length a) (passed_size p) (left_of _ _ k) ∙ sym (equal v (passed_size p) (left_of _ _ h)) in
    λ i. e i ∷ frame_sizes args ps vs (right_of _ _ h) (right_of _ _ k) i

sizes_append : (bs : List (List ℕ)) (b : List ℕ) → sizes_of (bs ++ b ∷ []) ≡ sizes_of bs ++ length b ∷ []
sizes_append [] b = refl
sizes_append (x ∷ bs) b = ap (λ zs. length x ∷ zs) (sizes_append bs b)

pub blocks_sizes : (count : ℕ) (bs : List (List ℕ)) → sizes_of (blocks_on count bs) ≡ sizes_on count (sizes_of bs)
blocks_sizes zero bs = refl
blocks_sizes (suc n) [] = refl
blocks_sizes (suc n) (b ∷ bs) = sizes_append (blocks_on n bs) b ∙ ap (λ zs. zs ++ length b ∷ []) (blocks_sizes n bs)

-- no more arguments than variables
pub arguments_few : (file : TypedFile) (f count : ℕ) (bs : List (List ℕ)) → have_parameters (variables_at file f) (parameters_at file f) ≡ true → same_sizes (sizes_on count (sizes_of bs)) (passed_sizes (take count (parameters_at file f))) ≡ true →
    nat_le (0 + length (blocks_on count bs)) (length (declared_at file f)) ≡ true
arguments_few file f count bs h k =
    let ps = parameters_at file f in
    let args = blocks_on count bs in
    let a : length (sizes_of args) ≡ length args = length-map args (λ (block : List ℕ). length block) in
    let b : length (sizes_of args) ≡ length (passed_sizes (take count ps)) = ap (λ (xs : List ℕ). length xs) (blocks_sizes count bs) ∙ same_length (sizes_on count (sizes_of bs)) (passed_sizes (take count ps)) k in
    let c : length (passed_sizes (take count ps)) ≡ length (take count ps) = length-map (take count ps) passed_size in
    let d = taken_length count ps in
    let e = parameters_few (variables_at file f) ps h in
    let g : length (variables_at file f) ≡ length (declared_at file f) = length-map (declared_at file f) (λ (v : Variable). v.size) in
    to_le (0 + length args) (length (declared_at file f)) (omega (arith, a, b, c, d, e, g))
