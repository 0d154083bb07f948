-- The types of functions, which later declarations keep where calls depend on them: what is complete stays as large.
use Rattle.std.proofs.Common.{◌≡◌, ◌≤◌, ◌*◌, ◌^◌, ℕ, zero, suc, Bool, true, false, List, [], ◌∷◌, ◌++◌, length, map, Option, Some, None, refl, ap, ap₂, sym, subst, ◌∙◌, arith}
use Rattle.std.specs.Prelude.{◌==◌, nat_lt, slice_get, slice_set, option_map, if◌then◌else◌}
use Rattle.std.specs.List.{list_all}
use Rattle.std.specs.Str.{bytes_eq}
use Rattle.std.proofs.lemmas.Bool.{eqb-true}
use Rattle.std.proofs.lemmas.Option.{same_Some}
use borrow.Author.Tests.{ltb-true}
use Rattle.c_types.specs.declared.integers.IntegerType.{IntegerType}
use Rattle.c_types.specs.declared.integers.IntegerType.TheVariants as types
use Rattle.c_types.specs.declared.types.ValueType.{ValueType}
use Rattle.c_types.specs.declared.types.ValueType.TheVariants.{Void, Integer}
use Rattle.c_types.specs.Types.{CType, Completed}
use Rattle.c_types.specs.Types as ctypes
use Rattle.c_types.specs.Layouts.{is_completed, is_complete, size_of}
use Rattle.c_types.specs.Layouts as layouts
use Rattle.c_types.proofs.Records.{same_type}
use Rattle.core_tree.specs.declared.functions.Variable.{Variable as CoreVariable}
use Rattle.core_tree.specs.declared.functions.PassedType.{PassedType}
use Rattle.core_tree.specs.declared.functions.PassedType.TheVariants as passed
use Rattle.core_tree.specs.Typed.{Sizes, Signature, same_given, given_as}
use Rattle.c_scope.specs.Scopes.{Named, Linked, FunctionType, Callable, FunctionTable, Flow, Cases, Scoped, are_complete, variable_by, variables_of, linked_to, passed_as, given_by, signature_of, all_sizes, with_callable}
use Rattle.c_scope.specs.Functions.{type_place, with_placed}
use Rattle.c_scope.proofs.Variables.{both, and, complete_later}

-- ---- what calls give

-- a structure value of fewer than 2 ^ 31 bytes, a number or nothing
abbrev pub is_small : Option PassedType → Bool
is_small None = true
is_small (Some (passed.Integer t)) = true
is_small (Some (passed.Structure n)) = nat_lt n (2 ^ 31)

pub small_as : (t : ValueType) → is_small (given_as t) ≡ true
small_as Void = refl
small_as (Integer t) = refl

-- a function takes the same, and gives the same wherever calls may be of it
pub record Kept (f g : Signature) : Type 0 where
  pub parameters : f.parameters ≡ g.parameters
  pub gives : (p : Option PassedType) → is_small p ≡ true → same_given f.gives p ≡ true → same_given g.gives p ≡ true

pub kept_refl : (f : Signature) → Kept f f
kept_refl f = record { parameters = refl; gives = λ p small h. h }

pub kept_trans : (f g h : Signature) → Kept f g → Kept g h → Kept f h
kept_trans f g h a b = record { parameters = a.parameters ∙ b.parameters; gives = λ p small e. b.gives p small (a.gives p small e) }

pub kept_same : (f g : Signature) → f ≡ g → Kept f g
kept_same f g e = subst (Kept f) e (kept_refl f)

-- the same functions and more
abbrev pub Signed : List Signature → List Signature → Type 0
Signed [] gs = Unit {0}
Signed (f ∷ fs) [] = ⊥
Signed (f ∷ fs) (g ∷ gs) = Kept f g × Signed fs gs

pub signed_refl : (fs : List Signature) → Signed fs fs
signed_refl [] = tt
signed_refl (f ∷ fs) = (kept_refl f, signed_refl fs)

pub signed_trans : (fs gs hs : List Signature) → Signed fs gs → Signed gs hs → Signed fs hs
signed_trans [] gs hs a b = tt
signed_trans (f ∷ fs) [] hs a b = absurd a
signed_trans (f ∷ fs) (g ∷ gs) [] a b = absurd b
signed_trans (f ∷ fs) (g ∷ gs) (h ∷ hs) a b = (kept_trans f g h a.0 b.0, signed_trans fs gs hs a.1 b.1)

pub signed_length : (fs gs : List Signature) → Signed fs gs → length fs ≤ length gs
signed_length [] gs a = omega arith
signed_length (f ∷ fs) [] a = absurd a
signed_length (f ∷ fs) (g ∷ gs) a = let rest = signed_length fs gs a.1 in omega (arith, rest)

pub signed_get : (fs gs : List Signature) → Signed fs gs → (k : ℕ) (f : Signature) → slice_get fs k ≡ Some f → (g : Signature) × (slice_get gs k ≡ Some g) × Kept f g
signed_get [] gs a k f e = let none : ⊥ = cc in absurd none
signed_get (x ∷ fs) [] a k f e = absurd a
signed_get (x ∷ fs) (y ∷ gs) a zero f e = (y, refl, subst (λ (z : Signature). Kept z y) (same_Some x f e) a.0)
signed_get (x ∷ fs) (y ∷ gs) a (suc k) f e = signed_get fs gs a.1 k f e

-- ---- types that stay as large

-- what is complete stays complete and as large
pub record Later (older newer : List Completed) : Type 0 where
  pub keeps : (t : CType) → is_complete older t ≡ true → (is_complete newer t ≡ true) × (size_of newer t ≡ size_of older t)

pub later_completed : (done : List Completed) (c : Completed) → is_completed done c.place ≡ false → Later done (c ∷ done)
later_completed done c before = record { keeps = λ t h. (complete_later done c t h, (same_type done c t before h).size) }

-- void, or a complete type
abbrev pub is_given : List Completed → CType → Bool
is_given done ctypes.void = true
is_given done (ctypes.integer t) = true
is_given done (ctypes.aggregate p) = is_complete done (ctypes.aggregate p)
is_given done (ctypes.array e n) = is_complete done (ctypes.array e n)
is_given done (ctypes.pointer t c) = true
is_given done (ctypes.function f) = false

pub given_kept : {older newer : List Completed} → Later older newer → (t : CType) → is_given older t ≡ true → is_given newer t ≡ true
given_kept later ctypes.void h = refl
given_kept later (ctypes.integer t) h = refl
given_kept later (ctypes.aggregate p) h = (later.keeps (ctypes.aggregate p) h).0
given_kept later (ctypes.array e n) h = (later.keeps (ctypes.array e n) h).0
given_kept later (ctypes.pointer t c) h = refl
given_kept later (ctypes.function f) h = h

pub passed_kept : {older newer : List Completed} → Later older newer → (t : CType) → is_complete older t ≡ true → passed_as newer t ≡ passed_as older t
passed_kept later ctypes.void h = refl
passed_kept later (ctypes.integer t) h = refl
passed_kept later (ctypes.aggregate p) h = ap passed.Structure (later.keeps (ctypes.aggregate p) h).1
passed_kept later (ctypes.array e n) h = ap passed.Structure (later.keeps (ctypes.array e n) h).1
passed_kept later (ctypes.pointer t c) h = refl
passed_kept later (ctypes.function f) h = refl

pub given_by_kept : {older newer : List Completed} → Later older newer → (t : CType) → is_given older t ≡ true → given_by newer t ≡ given_by older t
given_by_kept later ctypes.void h = refl
given_by_kept later (ctypes.integer t) h = refl
given_by_kept later (ctypes.aggregate p) h = ap (λ (n : ℕ). Some (passed.Structure n)) (later.keeps (ctypes.aggregate p) h).1
given_by_kept later (ctypes.array e n) h = ap (λ (n : ℕ). Some (passed.Structure n)) (later.keeps (ctypes.array e n) h).1
given_by_kept later (ctypes.pointer t c) h = refl
given_by_kept later (ctypes.function f) h = refl

pub complete_kept : {older newer : List Completed} → Later older newer → (ts : List CType) → layouts.are_complete older ts ≡ true → layouts.are_complete newer ts ≡ true
complete_kept later [] h = refl
complete_kept {older} {newer} later (t ∷ ts) h =
    let parts = both (is_complete older t) (layouts.are_complete older ts) h in and (is_complete newer t) (layouts.are_complete newer ts) (later.keeps t parts.0).0 (complete_kept later ts parts.1)

pub all_passed_kept : {older newer : List Completed} → Later older newer → (ts : List CType) → layouts.are_complete older ts ≡ true → map (passed_as newer) ts ≡ map (passed_as older) ts
all_passed_kept later [] h = refl
all_passed_kept {older} {newer} later (t ∷ ts) h =
    let parts = both (is_complete older t) (layouts.are_complete older ts) h in ap₂ (λ (p : PassedType) (ps : List PassedType). p ∷ ps) (passed_kept later t parts.0) (all_passed_kept later ts parts.1)

pub variables_kept : {older newer : List Completed} → Later older newer → (variables : List Named) → are_complete older variables ≡ true
    → (are_complete newer variables ≡ true) × (variables_of newer variables ≡ variables_of older variables)
variables_kept later [] h = (refl, refl)
variables_kept {older} {newer} later (n ∷ ns) h =
    let parts = both (is_complete older n.type) (are_complete older ns) h in
    let rest = variables_kept later ns parts.1 in
    let one = later.keeps n.type parts.0 in
    (and (is_complete newer n.type) (are_complete newer ns) one.0 rest.0, ap₂ (λ (x : ℕ) (xs : List CoreVariable). variable_by x n.constant ∷ xs) one.1 rest.1)

-- ---- functions as calls see them

-- Where what a function gives isn't complete so far, no call is of it: it gives more bytes than any call here.
abbrev pub closed_gives : Bool → CType → CType
closed_gives true t = t
closed_gives false t = ctypes.array (ctypes.integer types.UnsignedLong) (2 ^ 31)

abbrev pub closed_type : List Completed → FunctionType → FunctionType
closed_type done f = record f { gives = record f.gives { type = closed_gives (is_given done f.gives.type) f.gives.type } }

abbrev pub closed : List Completed → Callable → Callable
closed done c = record c { type = closed_type done c.type }

abbrev pub closed_scope : Scoped → Scoped
closed_scope s = record s { functions = record s.functions { all = map (closed s.records.done) s.functions.all } }

abbrev pub own_sizes : Scoped → Sizes
own_sizes s = all_sizes (closed_scope s)

abbrev pub signed_type : List Completed → FunctionType → Signature
signed_type done f = record { gives = given_by done (closed_gives (is_given done f.gives.type) f.gives.type); parameters = map (passed_as done) f.parameters }

abbrev pub all_signed : List Completed → List Callable → List Signature
all_signed done all = map (signature_of done) (map (closed done) all)

-- no call gives so many bytes
none_so_large : (p : Option PassedType) → is_small p ≡ true → same_given (Some (passed.Structure (2 ^ 31 * 8))) p ≡ true → ⊥
none_so_large None small h = let none : ⊥ = cc in none
none_so_large (Some (passed.Integer t)) small h = let none : ⊥ = cc in none
none_so_large (Some (passed.Structure n)) small h =
    let same : 2 ^ 31 * 8 ≡ n = eqb-true (2 ^ 31 * 8) n h in
    let below = ltb-true n (2 ^ 31) small in
    omega (arith, same, below)

pub type_later : {older newer : List Completed} → Later older newer → (f : FunctionType) → layouts.are_complete older f.parameters ≡ true → Kept (signed_type older f) (signed_type newer f)
type_later {older} {newer} later f h = record {
  parameters = sym (all_passed_kept later f.parameters h);
  gives = λ p small same. by (is_given older f.gives.type) (is_given newer f.gives.type) refl refl p small same;
} where
  by : (b c : Bool) → is_given older f.gives.type ≡ b → is_given newer f.gives.type ≡ c → (p : Option PassedType) → is_small p ≡ true
      → same_given (given_by older (closed_gives b f.gives.type)) p ≡ true → same_given (given_by newer (closed_gives c f.gives.type)) p ≡ true
  by true true e d p small same = ap (λ (o : Option PassedType). same_given o p) (given_by_kept later f.gives.type e) ∙ same
  by true false e d p small same = let is = given_kept later f.gives.type e in let none : ⊥ = cc in absurd none
  by false c e d p small same = absurd (none_so_large p small same)

-- what a function gives that isn't complete so far is less than any other, so that no call of it is lost
pub type_open : (done : List Completed) (f : FunctionType) → Kept (signed_type done f) (record { gives = given_by done f.gives.type; parameters = map (passed_as done) f.parameters })
type_open done f = record { parameters = refl; gives = λ p small same. by (is_given done f.gives.type) p small same } where
  by : (b : Bool) (p : Option PassedType) → is_small p ≡ true → same_given (given_by done (closed_gives b f.gives.type)) p ≡ true → same_given (given_by done f.gives.type) p ≡ true
  by true p small same = same
  by false p small same = absurd (none_so_large p small same)

abbrev pub have_complete : List Completed → List Callable → Bool
have_complete done all = list_all (λ (c : Callable). layouts.are_complete done c.type.parameters) all

abbrev pub are_complete_types : List Completed → List FunctionType → Bool
are_complete_types done fs = list_all (λ (f : FunctionType). layouts.are_complete done f.parameters) fs

pub signed_later : {older newer : List Completed} → Later older newer → (all : List Callable) → have_complete older all ≡ true → Signed (all_signed older all) (all_signed newer all)
signed_later later [] h = tt
signed_later {older} later (c ∷ all) h =
    let parts = both (layouts.are_complete older c.type.parameters) (have_complete older all) h in (type_later later c.type parts.0, signed_later later all parts.1)

pub signed_added : (done : List Completed) (all : List Callable) (c : Callable) → Signed (all_signed done all) (all_signed done (all ++ c ∷ []))
signed_added done [] c = tt
signed_added done (x ∷ all) c = (kept_refl (signed_type done x.type), signed_added done all c)

pub signed_changed : (done : List Completed) (all : List Callable) (k : ℕ) (c d : Callable) → slice_get all k ≡ Some c → d.type ≡ c.type → Signed (all_signed done all) (all_signed done (slice_set all k d))
signed_changed done [] k c d e same = tt
signed_changed done (x ∷ all) zero c d e same =
    let is : x.type ≡ d.type = ap (λ (y : Callable). y.type) (same_Some x c e) ∙ sym same in
    (kept_same (signed_type done x.type) (signed_type done d.type) (ap (signed_type done) is), signed_refl (all_signed done all))
signed_changed done (x ∷ all) (suc k) c d e same = (kept_refl (signed_type done x.type), signed_changed done all k c d e same)

-- ---- what stays of functions and of how far a function is typed

abbrev pub switched : Flow → Option IntegerType
switched f = option_map (λ (c : Cases). c.type) f.switch

pub record Goes (a b : FunctionTable) (f g : Flow) (older newer : List Completed) : Type 0 where
  pub named : (name : List ℕ) (k : ℕ) → linked_to a.named name ≡ Some k → linked_to b.named name ≡ Some k
  pub all : (k : ℕ) (c : Callable) → slice_get a.all k ≡ Some c → (d : Callable) × (slice_get b.all k ≡ Some d) × (d.type ≡ c.type)
  pub gives : g.gives ≡ f.gives
  pub switch : switched g ≡ switched f
  pub later : Later older newer

later_refl : (done : List Completed) → Later done done
later_refl done = record { keeps = λ t h. (h, refl) }

pub goes_refl : (a : FunctionTable) (f : Flow) (done : List Completed) → Goes a a f f done done
goes_refl a f done = record { named = λ name k e. e; all = λ k c e. (c, e, refl); gives = refl; switch = refl; later = later_refl done }

pub goes_later : (a : FunctionTable) (f : Flow) {older newer : List Completed} → Later older newer → Goes a a f f older newer
goes_later a f later = record { named = λ name k e. e; all = λ k c e. (c, e, refl); gives = refl; switch = refl; later = later }

pub goes_trans : {a b c : FunctionTable} {f g h : Flow} {older newer newest : List Completed} → Goes a b f g older newer → Goes b c g h newer newest → Goes a c f h older newest
goes_trans p q = record {
  named = λ name k e. q.named name k (p.named name k e);
  all = λ k c e. let x = p.all k c e in let y = q.all k x.0 x.1 in (y.0, y.1, y.2 ∙ x.2);
  gives = q.gives ∙ p.gives;
  switch = q.switch ∙ p.switch;
  later = record { keeps = λ t h. let x = p.later.keeps t h in let y = q.later.keeps t x.0 in (y.0, y.1 ∙ x.1) };
}

pub linked_first : (xs ys : List Linked) (name : List ℕ) (k : ℕ) → linked_to xs name ≡ Some k → linked_to (xs ++ ys) name ≡ Some k
linked_first [] ys name k e = let none : ⊥ = cc in absurd none
linked_first (x ∷ xs) ys name k e = by (λ h. linked_first xs ys name k h) (bytes_eq name x.name) e where
  by : (linked_to xs name ≡ Some k → linked_to (xs ++ ys) name ≡ Some k) → (b : Bool) → (if b then Some x.object else linked_to xs name) ≡ Some k → (if b then Some x.object else linked_to (xs ++ ys) name) ≡ Some k
  by rest true h = h
  by rest false h = rest h

pub get_first : {A : Type 0} (xs ys : List A) (k : ℕ) (x : A) → slice_get xs k ≡ Some x → slice_get (xs ++ ys) k ≡ Some x
get_first [] ys k x e = let none : ⊥ = cc in absurd none
get_first (y ∷ xs) ys zero x e = e
get_first (y ∷ xs) ys (suc k) x e = get_first xs ys k x e

pub goes_added : (a : FunctionTable) (name : List ℕ) (c : Callable) (f : Flow) (done : List Completed) → Goes a (with_callable a name c) f f done done
goes_added a name c f done = record {
  named = λ other k e. linked_first a.named _ other k e;
  all = λ k d e. (d, get_first a.all (c ∷ []) k d e, refl);
  gives = refl;
  switch = refl;
  later = later_refl done;
}

get_changed : (all : List Callable) (k : ℕ) (c d : Callable) → slice_get all k ≡ Some c → d.type ≡ c.type → (l : ℕ) (x : Callable) → slice_get all l ≡ Some x
    → (y : Callable) × (slice_get (slice_set all k d) l ≡ Some y) × (y.type ≡ x.type)
get_changed [] k c d e same l x is = let none : ⊥ = cc in absurd none
get_changed (z ∷ all) zero c d e same zero x is = (d, refl, same ∙ ap (λ (y : Callable). y.type) (sym (same_Some z c e) ∙ same_Some z x is))
get_changed (z ∷ all) zero c d e same (suc l) x is = (x, is, refl)
get_changed (z ∷ all) (suc k) c d e same zero x is = (x, is, refl)
get_changed (z ∷ all) (suc k) c d e same (suc l) x is = get_changed all k c d e same l x is

pub goes_changed : (a : FunctionTable) (k : ℕ) (c d : Callable) (f : Flow) (done : List Completed) → slice_get a.all k ≡ Some c → d.type ≡ c.type
    → Goes a (record a { all = slice_set a.all k d }) f f done done
goes_changed a k c d f done e same = record {
  named = λ other l is. is;
  all = λ l x is. get_changed a.all k c d e same l x is;
  gives = refl;
  switch = refl;
  later = later_refl done;
}

pub goes_typed : (a : FunctionTable) (t : FunctionType) (f : Flow) (done : List Completed) → Goes a (record a { types = with_placed a.types t }) f f done done
goes_typed a t f done = record { named = λ name k e. e; all = λ k c e. (c, e, refl); gives = refl; switch = refl; later = later_refl done }

-- ---- what holds of functions

-- parameters have complete types, and what the function that is typed gives is void or complete
pub record Called (done : List Completed) (a : FunctionTable) (f : Flow) : Type 0 where
  pub callables : have_complete done a.all ≡ true
  pub types : are_complete_types done a.types ≡ true
  pub gives : is_given done f.gives ≡ true

have_kept : {older newer : List Completed} → Later older newer → (all : List Callable) → have_complete older all ≡ true → have_complete newer all ≡ true
have_kept later [] h = refl
have_kept {older} {newer} later (c ∷ all) h =
    let parts = both (layouts.are_complete older c.type.parameters) (have_complete older all) h in
    and (layouts.are_complete newer c.type.parameters) (have_complete newer all) (complete_kept later c.type.parameters parts.0) (have_kept later all parts.1)

types_kept : {older newer : List Completed} → Later older newer → (fs : List FunctionType) → are_complete_types older fs ≡ true → are_complete_types newer fs ≡ true
types_kept later [] h = refl
types_kept {older} {newer} later (f ∷ fs) h =
    let parts = both (layouts.are_complete older f.parameters) (are_complete_types older fs) h in
    and (layouts.are_complete newer f.parameters) (are_complete_types newer fs) (complete_kept later f.parameters parts.0) (types_kept later fs parts.1)

pub called_later : {older newer : List Completed} {a : FunctionTable} {f : Flow} → Later older newer → Called older a f → Called newer a f
called_later {older} {newer} {a} {f} later h = record { callables = have_kept later a.all h.callables; types = types_kept later a.types h.types; gives = given_kept later f.gives h.gives }

have_more : (done : List Completed) (all : List Callable) (c : Callable) → have_complete done all ≡ true → layouts.are_complete done c.type.parameters ≡ true → have_complete done (all ++ c ∷ []) ≡ true
have_more done [] c h e = and (layouts.are_complete done c.type.parameters) true e refl
have_more done (x ∷ all) c h e =
    let parts = both (layouts.are_complete done x.type.parameters) (have_complete done all) h in
    and (layouts.are_complete done x.type.parameters) (have_complete done (all ++ c ∷ [])) parts.0 (have_more done all c parts.1 e)

types_more : (done : List Completed) (fs : List FunctionType) (f : FunctionType) → are_complete_types done fs ≡ true → layouts.are_complete done f.parameters ≡ true → are_complete_types done (fs ++ f ∷ []) ≡ true
types_more done [] f h e = and (layouts.are_complete done f.parameters) true e refl
types_more done (x ∷ fs) f h e =
    let parts = both (layouts.are_complete done x.parameters) (are_complete_types done fs) h in
    and (layouts.are_complete done x.parameters) (are_complete_types done (fs ++ f ∷ [])) parts.0 (types_more done fs f parts.1 e)

types_placed : (done : List Completed) (fs : List FunctionType) (f : FunctionType) → are_complete_types done fs ≡ true → layouts.are_complete done f.parameters ≡ true → are_complete_types done (with_placed fs f) ≡ true
types_placed done fs f h e = by (type_place fs f == length fs) where
  by : (b : Bool) → are_complete_types done (if b then fs ++ f ∷ [] else fs) ≡ true
  by true = types_more done fs f h e
  by false = h

have_changed : (done : List Completed) (all : List Callable) (k : ℕ) (c d : Callable) → slice_get all k ≡ Some c → d.type ≡ c.type → have_complete done all ≡ true → have_complete done (slice_set all k d) ≡ true
have_changed done [] k c d e same h = refl
have_changed done (x ∷ all) zero c d e same h =
    let parts = both (layouts.are_complete done x.type.parameters) (have_complete done all) h in
    let is : d.type ≡ x.type = same ∙ ap (λ (y : Callable). y.type) (sym (same_Some x c e)) in
    and (layouts.are_complete done d.type.parameters) (have_complete done all) (ap (λ (f : FunctionType). layouts.are_complete done f.parameters) is ∙ parts.0) parts.1
have_changed done (x ∷ all) (suc k) c d e same h =
    let parts = both (layouts.are_complete done x.type.parameters) (have_complete done all) h in
    and (layouts.are_complete done x.type.parameters) (have_complete done (slice_set all k d)) parts.0 (have_changed done all k c d e same parts.1)

pub called_added : (done : List Completed) (a : FunctionTable) (name : List ℕ) (c : Callable) (f : Flow) → Called done a f → layouts.are_complete done c.type.parameters ≡ true → Called done (with_callable a name c) f
called_added done a name c f h e = record { callables = have_more done a.all c h.callables e; types = h.types; gives = h.gives }

pub called_changed : (done : List Completed) (a : FunctionTable) (k : ℕ) (c d : Callable) (f : Flow) → slice_get a.all k ≡ Some c → d.type ≡ c.type → Called done a f
    → Called done (record a { all = slice_set a.all k d }) f
called_changed done a k c d f e same h = record { callables = have_changed done a.all k c d e same h.callables; types = h.types; gives = h.gives }

pub called_typed : (done : List Completed) (a : FunctionTable) (t : FunctionType) (f : Flow) → Called done a f → layouts.are_complete done t.parameters ≡ true → Called done (record a { types = with_placed a.types t }) f
called_typed done a t f h e = record { callables = h.callables; types = types_placed done a.types t h.types e; gives = h.gives }

-- the parameters of a function that is there
pub parameters_at : (done : List Completed) (all : List Callable) (k : ℕ) (c : Callable) → have_complete done all ≡ true → slice_get all k ≡ Some c → layouts.are_complete done c.type.parameters ≡ true
parameters_at done [] k c h e = let none : ⊥ = cc in absurd none
parameters_at done (x ∷ all) zero c h e =
    let parts = both (layouts.are_complete done x.type.parameters) (have_complete done all) h in
    ap (λ (y : Callable). layouts.are_complete done y.type.parameters) (sym (same_Some x c e)) ∙ parts.0
parameters_at done (x ∷ all) (suc k) c h e =
    let parts = both (layouts.are_complete done x.type.parameters) (have_complete done all) h in parameters_at done all k c parts.1 e

pub type_parameters_at : (done : List Completed) (fs : List FunctionType) (k : ℕ) (f : FunctionType) → are_complete_types done fs ≡ true → slice_get fs k ≡ Some f → layouts.are_complete done f.parameters ≡ true
type_parameters_at done [] k f h e = let none : ⊥ = cc in absurd none
type_parameters_at done (x ∷ fs) zero f h e =
    let parts = both (layouts.are_complete done x.parameters) (are_complete_types done fs) h in
    ap (λ (y : FunctionType). layouts.are_complete done y.parameters) (sym (same_Some x f e)) ∙ parts.0
type_parameters_at done (x ∷ fs) (suc k) f h e =
    let parts = both (layouts.are_complete done x.parameters) (are_complete_types done fs) h in type_parameters_at done fs k f parts.1 e
