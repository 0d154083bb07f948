-- What names mean stays there, and variables keep their sizes, where more is declared and completed.
use Rattle.std.proofs.Common.{◌≡◌, ◌≤◌, ◌==◌, ℕ, zero, suc, take, Bool, true, false, List, [], ◌∷◌, ◌++◌, length, Option, Some, None, Result, Ok, Err, refl, sym, ap, ap₂, ◌∙◌, arith}
use Rattle.std.specs.Prelude.{◌&&◌, nat_lt, nat_le, IfSome, if◌then◌else◌}
use Rattle.std.proofs.lemmas.List.{length-append, map-append}
use borrow.Author.Tests.{ltb-true, lt-ltb, leb-true, le-leb}
use Rattle.c_types.specs.declared.types.RecordKind.{RecordKind}
use Rattle.c_types.specs.Types.{CType, void, integer, aggregate, array, pointer, function, Completed}
use Rattle.c_types.specs.Layouts.{is_completed, is_complete, is_sized, size_of}
use Rattle.c_types.proofs.Records.{same_type}
use Rattle.core_tree.specs.declared.functions.Variable.{Variable as CoreVariable}
use Rattle.c_scope.specs.declared.meaning.Meaning.{Meaning}
use Rattle.c_scope.specs.declared.meaning.Meaning.TheVariants.{Variable, Object, Incomplete, Assert, Assume, Draw, BuiltIn, Function, Typedef, Enumerator, Record, Enumeration}
use Rattle.c_scope.specs.Scopes.{Named, ObjectEntry, Environment, is_called, meaning_in, is_there, are_there, are_complete, variable_by, variable_of, variables_of, sizes_of}
use Rattle.c_scope.specs.Types.{type_size}

pub both : (a b : Bool) → (a && b) ≡ true → (a ≡ true) × (b ≡ true)
both true b e = (refl, e)
both false b e = let none : ⊥ = cc in absurd none

pub and : (a b : Bool) → a ≡ true → b ≡ true → (a && b) ≡ true
and true b e f = f
and false b e f = e

-- what names mean stays there where more variables, typedefs and tags are declared
below : (n few many : ℕ) → few ≤ many → nat_lt n few ≡ true → nat_lt n many ≡ true
below n few many h e = let less = ltb-true n few e in lt-ltb n many (omega arith)

-- the number of an object
numbered : (k few many : ℕ) → few ≤ many → (nat_le 1 k && nat_le k few) ≡ true → (nat_le 1 k && nat_le k many) ≡ true
numbered k few many h e =
    let parts = both (nat_le 1 k) (nat_le k few) e in
    let within = leb-true k few parts.1 in
    and (nat_le 1 k) (nat_le k many) parts.0 (le-leb k many (omega (arith, within)))

there_wider : (variables more objects further types others records greater : ℕ) (m : Meaning) → variables ≤ more → objects ≤ further → types ≤ others → records ≤ greater
    → is_there variables objects types records m ≡ true → is_there more further others greater m ≡ true
there_wider variables more objects further types others records greater (Variable v) k l h g e = below v variables more k e
there_wider variables more objects further types others records greater (Object n) k l h g e = numbered n objects further l e
there_wider variables more objects further types others records greater Incomplete k l h g e = refl
there_wider variables more objects further types others records greater Assert k l h g e = refl
there_wider variables more objects further types others records greater Assume k l h g e = refl
there_wider variables more objects further types others records greater (Draw t) k l h g e = refl
there_wider variables more objects further types others records greater (BuiltIn b) k l h g e = refl
there_wider variables more objects further types others records greater (Function f) k l h g e = refl
there_wider variables more objects further types others records greater (Typedef n) k l h g e = below n types others h e
there_wider variables more objects further types others records greater (Enumerator bits) k l h g e = refl
there_wider variables more objects further types others records greater (Record p) k l h g e = below p records greater g e
there_wider variables more objects further types others records greater Enumeration k l h g e = refl

pub are_there_wider : (variables more objects further types others records greater : ℕ) (env : Environment) → variables ≤ more → objects ≤ further → types ≤ others → records ≤ greater
    → are_there variables objects types records env ≡ true → are_there more further others greater env ≡ true
are_there_wider variables more objects further types others records greater [] k l h g e = refl
are_there_wider variables more objects further types others records greater (b ∷ bs) k l h g e =
    let parts = both (is_there variables objects types records b.meaning) (are_there variables objects types records bs) e in
    and (is_there more further others greater b.meaning) (are_there more further others greater bs) (there_wider variables more objects further types others records greater b.meaning k l h g parts.0)
    (are_there_wider variables more objects further types others records greater bs k l h g parts.1)

-- what a name or a tag means is there
meant : (variables objects types records : ℕ) (x : Bool) (m : Meaning) (others : Option Meaning) → is_there variables objects types records m ≡ true
    → IfSome others (λ n. is_there variables objects types records n ≡ true) → IfSome (if x then Some m else others) (λ n. is_there variables objects types records n ≡ true)
meant variables objects types records true m others h g = h
meant variables objects types records false m others h g = g

pub meant_there : (variables objects types records : ℕ) (tags : Bool) (env : Environment) (name : List ℕ) → are_there variables objects types records env ≡ true
    → IfSome (meaning_in tags None env name) (λ m. is_there variables objects types records m ≡ true)
meant_there variables objects types records tags [] name e = tt
meant_there variables objects types records tags (b ∷ bs) name e =
    let parts = both (is_there variables objects types records b.meaning) (are_there variables objects types records bs) e in
    meant variables objects types records (is_called tags name b) b.meaning (meaning_in tags None bs name) parts.0 (meant_there variables objects types records tags bs name parts.1)

-- where one object, one typedef or one struct or union more is declared
pub one_object_more : (variables : ℕ) (objects others : List ObjectEntry) (o : ObjectEntry) (types records : ℕ) (env : Environment) → others ≡ objects ++ o ∷ []
    → are_there variables (length objects) types records env ≡ true → are_there variables (length others) types records env ≡ true
one_object_more variables objects others o types records env e h =
    let long = ap (λ (os : List ObjectEntry). length os) e ∙ length-append objects (o ∷ []) in
    are_there_wider variables variables (length objects) (length others) types types records records env (omega arith) (omega (arith, long)) (omega arith) (omega arith) h

pub one_type_more : (variables objects : ℕ) (types others : List Named) (t : Named) (records : ℕ) (env : Environment) → others ≡ types ++ t ∷ []
    → are_there variables objects (length types) records env ≡ true → 9 ≤ length types → (are_there variables objects (length others) records env ≡ true) × (9 ≤ length others)
one_type_more variables objects types others t records env e h few =
    let long = ap (λ (ts : List Named). length ts) e ∙ length-append types (t ∷ []) in
    (are_there_wider variables variables objects objects (length types) (length others) records records env (omega arith) (omega arith) (omega (arith, long)) (omega arith) h, omega (arith, long, few))

pub one_record_more : (variables objects types : ℕ) (records others : List RecordKind) (kind : RecordKind) (env : Environment) → others ≡ records ++ kind ∷ []
    → are_there variables objects types (length records) env ≡ true → are_there variables objects types (length others) env ≡ true
one_record_more variables objects types records others kind env e h =
    let long = ap (λ (ks : List RecordKind). length ks) e ∙ length-append records (kind ∷ []) in
    are_there_wider variables variables objects objects types types (length records) (length others) env (omega arith) (omega arith) (omega arith) (omega (arith, long)) h

-- ---- the function's variables

-- a type with that many bytes is complete
pub complete_sized : (done : List Completed) (t : CType) (n : ℕ) → type_size done t ≡ Ok n → (is_complete done t ≡ true) × (n ≡ size_of done t)
complete_sized done t n e = by (is_complete done t) (is_sized done t) e where
  size : Result ℕ ℕ
  size = Ok (size_of done t)

  by : (b c : Bool) → (if b then (if c then size else Err 4) else Err 3) ≡ Ok n → (b ≡ true) × (n ≡ size_of done t)
  by true true h = let same : size_of done t ≡ n = cc in (refl, sym same)
  by true false h = let none : ⊥ = cc in absurd none
  by false c h = let none : ⊥ = cc in absurd none

-- one more
pub complete_more : (done : List Completed) (variables : List Named) (n : Named) → are_complete done variables ≡ true → is_complete done n.type ≡ true → are_complete done (variables ++ n ∷ []) ≡ true
complete_more done [] n h e = and (is_complete done n.type) true e refl
complete_more done (m ∷ ms) n h e =
    let parts = both (is_complete done m.type) (are_complete done ms) h in
    and (is_complete done m.type) (are_complete done (ms ++ n ∷ [])) parts.0 (complete_more done ms n parts.1 e)

pub variables_more : (done : List Completed) (variables : List Named) (n : Named) → variables_of done (variables ++ n ∷ []) ≡ variables_of done variables ++ variable_of done n ∷ []
variables_more done variables n = map-append (variable_of done) variables (n ∷ [])

pub sizes_more : (done : List Completed) (variables : List Named) (n : Named) → sizes_of done (variables ++ n ∷ []) ≡ sizes_of done variables ++ size_of done n.type ∷ []
sizes_more done [] n = refl
sizes_more done (m ∷ ms) n = ap (λ (xs : List ℕ). size_of done m.type ∷ xs) (sizes_more done ms n)

-- a complete type stays complete and keeps its size where another struct or union is completed
pub complete_later : (done : List Completed) (c : Completed) (t : CType) → is_complete done t ≡ true → is_complete (c ∷ done) t ≡ true
complete_later done c void is = is
complete_later done c (integer t) is = is
complete_later done c (aggregate n) is = by (c.place == n) where
  by : (b : Bool) → (if b then true else is_completed done n) ≡ true
  by true = refl
  by false = is
complete_later done c (array e k) is = complete_later done c e is
complete_later done c (pointer t b) is = is
complete_later done c (function f) is = is

pub variables_later : (done : List Completed) (c : Completed) (variables : List Named) → is_completed done c.place ≡ false → are_complete done variables ≡ true
    → (are_complete (c ∷ done) variables ≡ true) × (variables_of (c ∷ done) variables ≡ variables_of done variables)
variables_later done c [] before h = (refl, refl)
variables_later done c (n ∷ ns) before h =
    let parts = both (is_complete done n.type) (are_complete done ns) h in
    let later = variables_later done c ns before parts.1 in
    let same = same_type done c n.type before parts.0 in
    (and (is_complete (c ∷ done) n.type) (are_complete (c ∷ done) ns) (complete_later done c n.type parts.0) later.0, ap₂ (λ (x : ℕ) (xs : List CoreVariable). variable_by x n.constant ∷ xs) same.size later.1)

-- the first variables
pub take_complete : (done : List Completed) (variables : List Named) (n : ℕ) → are_complete done variables ≡ true → are_complete done (take n variables) ≡ true
take_complete done variables zero h = refl
take_complete done [] (suc n) h = refl
take_complete done (v ∷ vs) (suc n) h =
    let parts = both (is_complete done v.type) (are_complete done vs) h in
    and (is_complete done v.type) (are_complete done (take n vs)) parts.0 (take_complete done vs n parts.1)

pub take_variables : (done : List Completed) (variables : List Named) (n : ℕ) → variables_of done (take n variables) ≡ take n (variables_of done variables)
take_variables done variables zero = refl
take_variables done [] (suc n) = refl
take_variables done (v ∷ vs) (suc n) = ap (λ (xs : List CoreVariable). variable_of done v ∷ xs) (take_variables done vs n)
