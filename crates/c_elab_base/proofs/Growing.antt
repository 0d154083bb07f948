-- A scope that declarations go on from: more names, variables, typedefs, structs and unions, and what names mean is there.
use Rattle.std.proofs.Common.{◌≡◌, ◌≤◌, ◌<◌, ◌+◌, ◌-◌, ◌^◌, ◌==◌, ℕ, zero, suc, Bool, true, false, List, [], ◌∷◌, ◌++◌, length, map, take, drop, Option, Some, None, refl, ap, sym, subst, ◌∙◌, arith}
use Rattle.std.specs.Prelude.{◌&&◌, nat_lt, nat_le, slice_get, slice_index, slice_set, ◌||◌, not, if◌then◌else◌}
use Rattle.std.proofs.lemmas.List.{append_assoc, append-nil, drop_at, get_or_append_left, get_or_push, length-append, length-map, length-set, map-append}
use Rattle.std.proofs.lemmas.Option.{same_Some, slice_get_within}
use borrow.Author.Tests.{lt-ltb, ltb-true, le-leb, leb-true}
use Rattle.c_types.specs.declared.types.RecordKind.{RecordKind}
use Rattle.c_types.specs.Integers.{bytes}
use Rattle.c_types.specs.Types.{CType, Completed}
use Rattle.c_types.specs.Layouts.{is_completed, is_complete, is_sized, fits, size_of, with_completed, IsBuilt}
use Rattle.c_types.proofs.CellLists.{small_sized}
use Rattle.c_types.specs.Layouts as layouts
use Rattle.c_types.proofs.Records.{same_type}
use Rattle.core_tree.specs.Trees.{Place, variable_at, object_at as static_at, literal_at, pointed, arrow, member, element, subscript, Expression, constant, read, convert, sign, is_zero, arithmetic, compare, logical, choice, assign, update, step, comma, assertion, assumption, draw, part, discard, discard_structure, call, function_name, size_of_value, size_of_structure, address, sum, distance, relation, pointer_update, pointer_step, allocate, allocate_zeroed, release, exit, abort, Structure, copy, choose, put, follow, section, list, string, give, Parts, no_part, number_part, structure_part, Arguments, no_argument, number_argument, structure_argument}
use Rattle.core_tree.specs.declared.functions.Variable.{Variable as CoreVariable}
use Rattle.core_tree.specs.declared.functions.PassedType.{PassedType}
use Rattle.core_tree.specs.declared.functions.PassedType.TheVariants as passed
use Rattle.core_tree.specs.Typed.{sizes_of_variables, are_small, size_of as bytes_of, Sizes, Signature, is_within, is_in_object, is_place, is_typed, is_structure, are_parts, are_arguments, given_as, gives_this, parameters_of, is_integer}
use Rattle.c_scope.specs.declared.meaning.Meaning.{Meaning}
use Rattle.c_scope.specs.declared.meaning.Meaning.TheVariants.{Object, Typedef}
use Rattle.c_scope.specs.Members.{Members}
use Rattle.c_scope.specs.Scopes.{Environment, binding, Named, ObjectEntry, Linked, FunctionType, Callable, Scoped, with_callable, are_there, is_known, are_known, are_complete, variable_of, variables_of, variables_in, sizes, object_at, object_entry_size}
use Rattle.c_scope.proofs.Variables.{both, and, are_there_wider, complete_more, variables_more, sizes_more, complete_later, variables_later}
use Rattle.c_elab_base.specs.Declarators.{with_function_type, with_typedef, with_variable}
use Rattle.c_elab_base.specs.Specifiers.{ended}
use Rattle.c_elab_base.specs.Tags.{with_record}
use Rattle.c_elab_base.proofs.Signatures.{Signed, signed_refl, signed_trans, signed_get, signed_length, is_small, small_as, own_sizes, Goes, goes_refl, goes_trans, Called, goes_later, later_completed, called_later, given_by_kept, signed_later, signed_added, goes_added, goes_typed, called_added, called_typed, variables_kept}

-- ---- lists

abbrev pub Grows : List ℕ → List ℕ → Type 0
Grows xs ys = (more : List ℕ) × (ys ≡ xs ++ more)

pub grows_refl : (xs : List ℕ) → Grows xs xs
grows_refl xs = ([], sym (append-nil xs))

pub grows_trans : (xs ys zs : List ℕ) → Grows xs ys → Grows ys zs → Grows xs zs
grows_trans xs ys zs g h = (g.0 ++ h.0, h.1 ∙ ap (λ (l : List ℕ). l ++ h.0) g.1 ∙ append_assoc xs g.0 h.0)

-- at least as many numbers, none of which is less
abbrev pub Under : List ℕ → List ℕ → Type 0
Under [] ys = Unit {0}
Under (x ∷ xs) [] = ⊥
Under (x ∷ xs) (y ∷ ys) = (x ≤ y) × Under xs ys

pub under_refl : (xs : List ℕ) → Under xs xs
under_refl [] = tt
under_refl (x ∷ xs) = (omega arith, under_refl xs)

pub under_trans : (xs ys zs : List ℕ) → Under xs ys → Under ys zs → Under xs zs
under_trans [] ys zs g h = tt
under_trans (x ∷ xs) [] zs g h = absurd g
under_trans (x ∷ xs) (y ∷ ys) [] g h = absurd h
under_trans (x ∷ xs) (y ∷ ys) (z ∷ zs) g h = let a = g.0 in let b = h.0 in (omega (arith, a, b), under_trans xs ys zs g.1 h.1)

pub under_append : (xs ys : List ℕ) → Under xs (xs ++ ys)
under_append [] ys = tt
under_append (x ∷ xs) ys = (omega arith, under_append xs ys)

under_length : (xs ys : List ℕ) → Under xs ys → length xs ≤ length ys
under_length [] ys u = omega arith
under_length (x ∷ xs) [] u = absurd u
under_length (x ∷ xs) (y ∷ ys) u = let rest = under_length xs ys u.1 in omega (arith, rest)

under_at : (xs ys : List ℕ) (v : ℕ) → Under xs ys → v < length xs → slice_index xs v ≤ slice_index ys v
under_at [] ys v u h = let none : ⊥ = omega (arith, h) in absurd none
under_at (x ∷ xs) [] v u h = absurd u
under_at (x ∷ xs) (y ∷ ys) zero u h = u.0
under_at (x ∷ xs) (y ∷ ys) (suc v) u h = under_at xs ys v u.1 (omega (arith, h))

-- the sizes of the same variables and more, and of the same objects, larger ones and more, and the types of the same functions;
-- no form with a pointer stands among the first
pub record Wider (a b : Sizes) : Type 0 where
  pub no_pointers : a.pointers ≡ false
  pub variables : Grows a.variables b.variables
  pub objects : Under a.objects b.objects
  pub functions : Signed a.functions b.functions
  pub gives : b.gives ≡ a.gives

pub wider_refl : (a : Sizes) → a.pointers ≡ false → Wider a a
wider_refl a none = record { no_pointers = none; variables = grows_refl a.variables; objects = under_refl a.objects; functions = signed_refl a.functions; gives = refl }

pub wider_trans : (a b c : Sizes) → Wider a b → Wider b c → Wider a c
wider_trans a b c g h = record {
  no_pointers = g.no_pointers;
  variables = grows_trans a.variables b.variables c.variables g.variables h.variables;
  objects = under_trans a.objects b.objects c.objects g.objects h.objects;
  functions = signed_trans a.functions b.functions c.functions g.functions h.functions;
  gives = h.gives ∙ g.gives;
}

abbrev pub Inner : Environment → Environment → Type 0
Inner outer inner = (more : Environment) × (inner ≡ more ++ outer)

pub inner_refl : (a : Environment) → Inner a a
inner_refl a = ([], refl)

pub inner_trans : (a b c : Environment) → Inner a b → Inner b c → Inner a c
inner_trans a b c g h = (h.0 ++ g.0, h.1 ∙ ap (λ (l : Environment). h.0 ++ l) g.1 ∙ sym (append_assoc h.0 g.0 a))

-- what stands before others, and behind them
pub take_front : {A : Type 0} (xs ys : List A) → take (length xs) (xs ++ ys) ≡ xs
take_front [] ys = refl
take_front (x ∷ xs) ys = ap (λ zs. x ∷ zs) (take_front xs ys)

-- names that are left
pub kept : (outer inner : Environment) → Inner outer inner → drop (length inner - length outer) inner ≡ outer
kept outer inner g =
    let long = length-append g.0 outer in
    let count : length (g.0 ++ outer) - length outer ≡ length g.0 = omega (arith, long) in
    ap (λ (env : Environment). drop (length env - length outer) env) g.1 ∙ ap (λ (k : ℕ). drop k (g.0 ++ outer)) count ∙ drop_at g.0 outer (length g.0) refl

pub inner_length : (outer inner : Environment) → Inner outer inner → length outer ≤ length inner
inner_length outer inner g = let long = ap (λ (env : Environment). length env) g.1 ∙ length-append g.0 outer in omega (arith, long)

-- ---- trees among more variables and objects

within_more : (vs ws : List ℕ) (v offset count : ℕ) → Grows vs ws → is_within vs v offset count ≡ true → is_within ws v offset count ≡ true
within_more vs ws v offset count g h =
    let parts = both (nat_lt v (length vs)) (nat_le (offset + count) (slice_index vs v)) h in
    let below = ltb-true v (length vs) parts.0 in
    let long = ap (λ (l : List ℕ). length l) g.1 ∙ length-append vs g.0 in
    let same : slice_index ws v ≡ slice_index vs v = ap (λ (l : List ℕ). slice_index l v) g.1 ∙ get_or_append_left vs g.0 0 v below in
    and (nat_lt v (length ws)) (nat_le (offset + count) (slice_index ws v)) (lt-ltb v (length ws) (omega (arith, below, long))) (ap (λ (n : ℕ). nat_le (offset + count) n) same ∙ parts.1)

within_larger : (vs ws : List ℕ) (v offset count : ℕ) → Under vs ws → is_within vs v offset count ≡ true → is_within ws v offset count ≡ true
within_larger vs ws v offset count u h =
    let parts = both (nat_lt v (length vs)) (nat_le (offset + count) (slice_index vs v)) h in
    let below = ltb-true v (length vs) parts.0 in
    let long = under_length vs ws u in
    let room = leb-true (offset + count) (slice_index vs v) parts.1 in
    let more = under_at vs ws v u below in
    and (nat_lt v (length ws)) (nat_le (offset + count) (slice_index ws v)) (lt-ltb v (length ws) (omega (arith, below, long))) (le-leb (offset + count) (slice_index ws v) (omega (arith, room, more)))

two : (a b c : Bool) → (b ≡ true → c ≡ true) → (a && b) ≡ true → (a && c) ≡ true
two true b c h e = h e
two false b c h e = e

first_of : (a b : Bool) → (a && b) ≡ true → a ≡ true
first_of a b h = (both a b h).0

both_more : (a b c d : Bool) → (a ≡ true → c ≡ true) → (b ≡ true → d ≡ true) → (a && b) ≡ true → (c && d) ≡ true
both_more a b c d h g e = let parts = both a b e in and c d (h parts.0) (g parts.1)

module _ (few many : Sizes) (wide : Wider few many) where
  variable_more : (v offset count : ℕ) → is_within few.variables v offset count ≡ true → is_within many.variables v offset count ≡ true
  variable_more v offset count h = within_more few.variables many.variables v offset count wide.variables h

  object_more : (k offset count : ℕ) → is_in_object few.objects k offset count ≡ true → is_in_object many.objects k offset count ≡ true
  object_more k offset count h = two _ _ _ (within_larger few.objects many.objects (k - 1) offset count wide.objects) h

  call_more : (f : ℕ) (p : Option PassedType) (args : Arguments) (o : Option Signature) → is_small p ≡ true → ((ps : List PassedType) → are_arguments few ps args ≡ true → are_arguments many ps args ≡ true)
      → slice_get few.functions f ≡ o → gives_this p o ≡ true → are_arguments few (parameters_of o) args ≡ true
      → (gives_this p (slice_get many.functions f) ≡ true) × (are_arguments many (parameters_of (slice_get many.functions f)) args ≡ true)
  call_more f p args None small more e gives fit = let none : ⊥ = cc in absurd none
  call_more f p args (Some g) small more e gives fit =
      let there = signed_get few.functions many.functions wide.functions f g e in (
        ap (gives_this p) there.1 ∙ there.2.gives p small gives,
        ap (λ (o : Option Signature). are_arguments many (parameters_of o) args) there.1 ∙ ap (λ (ps : List PassedType). are_arguments many ps args) (sym there.2.parameters) ∙ more g.parameters fit,
      )

  -- what would need pointers doesn't stand there
  never : (b : Bool) → few.pointers ≡ true → b ≡ true
  never b h = let same : false ≡ true = sym wide.no_pointers ∙ h in let none : ⊥ = cc in absurd none

  place_more : (n : ℕ) (p : Place) → is_place few n p ≡ true → is_place many n p ≡ true
  place_more n (variable_at line v offset) h = variable_more v offset n h
  place_more n (static_at line k offset) h = object_more k offset n h
  place_more n (literal_at line k) h = never _ (first_of _ _ h)
  place_more n (pointed line e) h = never _ (first_of _ _ (first_of _ _ h))
  place_more n (arrow line e offset) h = never _ (first_of _ _ (first_of _ _ h))
  place_more n (member line p offset) h = never _ (first_of _ _ h)
  place_more n (element line p e size whole swapped) h = never _ (first_of _ _ (first_of _ _ (first_of _ _ (first_of _ _ (first_of _ _ (first_of _ _ h))))))
  place_more n (subscript line a e size swapped) h = never _ (first_of _ _ (first_of _ _ (first_of _ _ (first_of _ _ (first_of _ _ h)))))

  mutual
    pub typed_more : (x : Expression) → is_typed few x ≡ true → is_typed many x ≡ true
    typed_more (constant line t bits) h = h
    typed_more (read t p) h = place_more (bytes t) p h
    typed_more (convert to e) h = two _ _ _ (typed_more e) h
    typed_more (sign line op e) h = two _ _ _ (typed_more e) h
    typed_more (is_zero line e) h = two _ _ _ (typed_more e) h
    typed_more (arithmetic line op a b) h = both_more _ _ _ _ (two _ _ _ (typed_more a)) (typed_more b) h
    typed_more (compare line op a b) h = both_more _ _ _ _ (two _ _ _ (typed_more a)) (typed_more b) h
    typed_more (logical line op a b) h = both_more _ _ _ _ (two _ _ _ (typed_more a)) (typed_more b) h
    typed_more (choice line test a b) h = both_more _ _ _ _ (both_more _ _ _ _ (two _ _ _ (typed_more test)) (typed_more a)) (typed_more b) h
    typed_more (assign line t p e) h = both_more _ _ _ _ (both_more _ _ _ _ (place_more (bytes t) p) (λ g. g)) (typed_more e) h
    typed_more (update line t p op u e) h = both_more _ _ _ _ (both_more _ _ _ _ (place_more (bytes t) p) (λ g. g)) (typed_more e) h
    typed_more (step line t p op before) h = place_more (bytes t) p h
    typed_more (comma line a b) h = both_more _ _ _ _ (typed_more a) (typed_more b) h
    typed_more (assertion line e) h = two _ _ _ (typed_more e) h
    typed_more (assumption line e) h = two _ _ _ (typed_more e) h
    typed_more (draw line t) h = h
    typed_more (part line t offset a) h = two _ _ _ (structure_more a) h
    typed_more (discard line e) h = two _ _ _ (typed_more e) h
    typed_more (discard_structure a) h = structure_more a h
    typed_more (call line f used t args) h =
        let parts = both ((not used || is_integer t) && gives_this (given_as t) (slice_get few.functions f)) (are_arguments few (parameters_of (slice_get few.functions f)) args) h in
        let first = both (not used || is_integer t) (gives_this (given_as t) (slice_get few.functions f)) parts.0 in
        let more = call_more f (given_as t) args (slice_get few.functions f) (small_as t) (λ ps g. arguments_more args ps g) refl first.1 parts.1 in
        and _ _ (and _ _ first.0 more.0) more.1
    typed_more (function_name line) h = h
    typed_more (size_of_value line bits e) h = two _ _ _ (typed_more e) h
    typed_more (size_of_structure line bits a) h = two _ _ _ (structure_more a) h
    typed_more (address line p) h = never _ (first_of _ _ (first_of _ _ h))
    typed_more (sum line a e n swapped) h = never _ (first_of _ _ (first_of _ _ (first_of _ _ (first_of _ _ h))))
    typed_more (distance line a b n) h = never _ (first_of _ _ (first_of _ _ (first_of _ _ (first_of _ _ (first_of _ _ h)))))
    typed_more (relation line op a b) h = never _ (first_of _ _ (first_of _ _ (first_of _ _ (first_of _ _ (first_of _ _ h)))))
    typed_more (pointer_update line p n e) h = never _ (first_of _ _ (first_of _ _ (first_of _ _ h)))
    typed_more (pointer_step line p n before) h = never _ (first_of _ _ h)
    typed_more (allocate line e) h = never _ (first_of _ _ (first_of _ _ h))
    typed_more (allocate_zeroed line a b) h = never _ (first_of _ _ (first_of _ _ (first_of _ _ (first_of _ _ h))))
    typed_more (release line e) h = never _ (first_of _ _ (first_of _ _ h))
    typed_more (exit line e) h = never _ (first_of _ _ (first_of _ _ h))
    typed_more (abort line) h = never _ h

    pub structure_more : (a : Structure) → is_structure few a ≡ true → is_structure many a ≡ true
    structure_more (copy p size) h = place_more size p h
    structure_more (choose line test a b) h = both_more _ _ _ _ (both_more _ _ _ _ (two _ _ _ (typed_more test)) (structure_more a)) (structure_more b) h
    structure_more (put line p a) h = both_more _ _ _ _ (place_more (bytes_of a) p) (structure_more a) h
    structure_more (follow line e a) h = both_more _ _ _ _ (typed_more e) (structure_more a) h
    structure_more (section line offset size a) h = two _ _ _ (structure_more a) h
    structure_more (list line size ps) h = two _ _ _ (parts_more size ps) h
    structure_more (string line size text) h = h
    structure_more (give line f used size args) h =
        let parts = both (nat_lt size (2 ^ 31) && gives_this (Some (passed.Structure size)) (slice_get few.functions f)) (are_arguments few (parameters_of (slice_get few.functions f)) args) h in
        let first = both (nat_lt size (2 ^ 31)) (gives_this (Some (passed.Structure size)) (slice_get few.functions f)) parts.0 in
        let more = call_more f (Some (passed.Structure size)) args (slice_get few.functions f) first.0 (λ ps g. arguments_more args ps g) refl first.1 parts.1 in
        and _ _ (and _ _ first.0 more.0) more.1

    parts_more : (size : ℕ) (ps : Parts) → are_parts few size ps ≡ true → are_parts many size ps ≡ true
    parts_more size no_part h = h
    parts_more size (number_part offset e rest) h = both_more _ _ _ _ (two _ _ _ (typed_more e)) (parts_more size rest) h
    parts_more size (structure_part offset a rest) h = both_more _ _ _ _ (two _ _ _ (structure_more a)) (parts_more size rest) h

    arguments_more : (args : Arguments) (ps : List PassedType) → are_arguments few ps args ≡ true → are_arguments many ps args ≡ true
    arguments_more no_argument [] h = h
    arguments_more no_argument (p ∷ ps) h = h
    arguments_more (number_argument e rest) [] h = h
    arguments_more (number_argument e rest) (p ∷ ps) h = both_more _ _ _ _ (two _ _ _ (typed_more e)) (arguments_more rest ps) h
    arguments_more (structure_argument a rest) [] h = h
    arguments_more (structure_argument a rest) (p ∷ ps) h = both_more _ _ _ _ (two _ _ _ (structure_more a)) (arguments_more rest ps) h

pub typed_grows : (few many : Sizes) (x : Expression) → Wider few many → is_typed few x ≡ true → is_typed many x ≡ true
typed_grows few many x g h = typed_more few many g x h

pub structure_grows : (few many : Sizes) (a : Structure) → Wider few many → is_structure few a ≡ true → is_structure many a ≡ true
structure_grows few many a g h = structure_more few many g a h

-- ---- scopes

-- What names mean is there, and the types of the built-in names are; the variables have complete types of fewer than 2 ^ 31 bytes,
-- each struct and union was completed once, and the parameters of functions have complete types.
pub record There (s : Scoped) : Type 0 where
  pub known : are_known s ≡ true
  pub few : 9 ≤ length s.types
  pub complete : are_complete s.records.done s.variables ≡ true
  pub small : are_small (variables_in s) ≡ true
  pub built : IsBuilt s.records.done
  pub calls : Called s.records.done s.functions s.flow

-- a scope goes on from another, where this holds
pub record FollowsIf (H : Type 0) (s t : Scoped) : Type 0 where
  pub names : Inner s.bindings t.bindings
  pub variables : length s.variables ≤ length t.variables
  pub objects : length s.objects ≤ length t.objects
  pub sizes : H → Wider (own_sizes s) (own_sizes t)
  pub types : length s.types ≤ length t.types
  pub records : length s.records.declared ≤ length t.records.declared
  pub calls : Goes s.functions t.functions s.flow t.flow s.records.done t.records.done
  pub there : H → There t

abbrev pub Follows : Scoped → Scoped → Type 0
Follows s t = FollowsIf (There s) s t

pub follows_refl : (s : Scoped) → Follows s s
follows_refl s = record {
  names = inner_refl s.bindings;
  variables = omega arith;
  objects = omega arith;
  sizes = λ h. wider_refl (own_sizes s) refl;
  types = omega arith;
  records = omega arith;
  calls = goes_refl s.functions s.flow s.records.done;
  there = λ h. h;
}

pub follows_both : (H : Type 0) (s t u : Scoped) → FollowsIf H s t → FollowsIf H t u → FollowsIf H s u
follows_both H s t u f g = record {
  names = inner_trans s.bindings t.bindings u.bindings f.names g.names;
  variables = omega (arith, f.variables, g.variables);
  objects = omega (arith, f.objects, g.objects);
  sizes = λ h. wider_trans (own_sizes s) (own_sizes t) (own_sizes u) (f.sizes h) (g.sizes h);
  types = omega (arith, f.types, g.types);
  records = omega (arith, f.records, g.records);
  calls = goes_trans f.calls g.calls;
  there = λ h. g.there h;
}

pub follows_where : (H G : Type 0) (s t : Scoped) → (H → G) → FollowsIf G s t → FollowsIf H s t
follows_where H G s t h f = record {
  names = f.names;
  variables = f.variables;
  objects = f.objects;
  sizes = λ x. f.sizes (h x);
  types = f.types;
  records = f.records;
  calls = f.calls;
  there = λ x. f.there (h x);
}

pub follows_on : (H : Type 0) (s t u : Scoped) → FollowsIf H s t → Follows t u → FollowsIf H s u
follows_on H s t u f g = follows_both H s t u f (follows_where H (There t) t u f.there g)

pub follows_trans : (s t u : Scoped) → Follows s t → Follows t u → Follows s u
follows_trans s t u f g = follows_on (There s) s t u f g

-- and it has no more variables
pub record SettlesIf (H : Type 0) (s t : Scoped) : Type 0 where
  pub follows : FollowsIf H s t
  pub same : t.variables ≡ s.variables

abbrev pub Settles : Scoped → Scoped → Type 0
Settles s t = SettlesIf (There s) s t

pub settles_refl : (s : Scoped) → Settles s s
settles_refl s = record { follows = follows_refl s; same = refl }

pub settles_both : (H : Type 0) (s t u : Scoped) → SettlesIf H s t → SettlesIf H t u → SettlesIf H s u
settles_both H s t u f g = record { follows = follows_both H s t u f.follows g.follows; same = g.same ∙ f.same }

pub settles_where : (H G : Type 0) (s t : Scoped) → (H → G) → SettlesIf G s t → SettlesIf H s t
settles_where H G s t h f = record { follows = follows_where H G s t h f.follows; same = f.same }

pub settles_on : (H : Type 0) (s t u : Scoped) → SettlesIf H s t → Settles t u → SettlesIf H s u
settles_on H s t u f g = settles_both H s t u f (settles_where H (There t) t u f.follows.there g)

pub settles_trans : (s t u : Scoped) → Settles s t → Settles t u → Settles s u
settles_trans s t u f g = settles_on (There s) s t u f g

-- a scope with the same names behind others, with more of everything else
pub there_behind : (s t : Scoped) → Follows s t → There s → There (record t { bindings = s.bindings })
there_behind s t f h =
    let now = f.there h in
    record {
      known = are_there_wider (length s.variables) (length t.variables) (length s.objects) (length t.objects) (length s.types) (length t.types)
          (length s.records.declared) (length t.records.declared) s.bindings f.variables f.objects f.types f.records h.known;
      few = now.few;
      complete = now.complete;
      small = now.small;
      built = now.built;
      calls = now.calls;
    }

-- ---- what a declaration adds

pub binding_settles : (s : Scoped) (name : List ℕ) (m : Meaning) → is_known s m ≡ true → Settles s (record s { bindings = binding name m ∷ s.bindings })
binding_settles s name m h = record {
  follows = record {
    names = (binding name m ∷ [], refl);
    variables = omega arith;
    objects = omega arith;
    sizes = λ g. wider_refl (own_sizes s) refl;
    types = omega arith;
    records = omega arith;
    calls = goes_refl s.functions s.flow s.records.done;
    there = λ g. record { known = and (is_known s m) (are_known s) h g.known; few = g.few; complete = g.complete; small = g.small; built = g.built; calls = g.calls };
  };
  same = refl;
}

pub record_settles : (s : Scoped) (kind : RecordKind) → Settles s (with_record s kind)
record_settles s kind =
    let long = length-append s.records.declared (kind ∷ []) in
    record {
      follows = record {
        names = inner_refl s.bindings;
        variables = omega arith;
        objects = omega arith;
        sizes = λ g. wider_refl (own_sizes s) refl;
        types = omega arith;
        records = omega (arith, long);
        calls = goes_refl s.functions s.flow s.records.done;
        there = λ g. record {
          known = are_there_wider (length s.variables) (length s.variables) (length s.objects) (length s.objects) (length s.types) (length s.types)
              (length s.records.declared) (length (s.records.declared ++ kind ∷ [])) s.bindings (omega arith) (omega arith) (omega arith) (omega (arith, long)) g.known;
          few = g.few;
          complete = g.complete;
          small = g.small;
          built = g.built;
          calls = g.calls;
        };
      };
      same = refl;
    }

-- an object is no smaller where another struct or union is completed
object_entry_later : (done : List Completed) (c : Completed) (o : ObjectEntry) → is_completed done c.place ≡ false → object_entry_size done o ≤ object_entry_size (c ∷ done) o
object_entry_later done c o before = by o.unknown_length (is_complete done o.named.type) refl where
  size_if : List Completed → Bool → Bool → ℕ
  size_if done unknown complete = if unknown || not complete then 0 else size_of done o.named.type

  by : (u b : Bool) → is_complete done o.named.type ≡ b → size_if done u b ≤ size_if (c ∷ done) u (is_complete (c ∷ done) o.named.type)
  by true b e = omega arith
  by false false e = omega arith
  by false true e =
      let same = same_type done c o.named.type before e in
      let size = same.size in
      rw (complete_later done c o.named.type e) (omega (arith, size))

objects_later : (done : List Completed) (c : Completed) (objects : List ObjectEntry) → is_completed done c.place ≡ false
    → Under (map (object_entry_size done) objects) (map (object_entry_size (c ∷ done)) objects)
objects_later done c [] before = tt
objects_later done c (o ∷ objects) before = (object_entry_later done c o before, objects_later done c objects before)

-- one that wasn't complete is completed
pub completed_settles : (s : Scoped) (p : ℕ) (kind : RecordKind) (ts : List CType) (ms : List Members) → is_completed s.records.done p ≡ false → layouts.are_complete s.records.done ts ≡ true
    → fits s.records.done kind ts ≡ true → Settles s (record s { records = with_completed s.records p kind ts; members = ms })
completed_settles s p kind ts ms before complete fit = let later = later_completed s.records.done (record { place = p; kind = kind; members = ts }) before in record {
  follows = record {
    names = inner_refl s.bindings;
    variables = omega arith;
    objects = omega arith;
    sizes = λ g. record {
      no_pointers = refl;
      variables = ([], ap sizes_of_variables (variables_later s.records.done (record { place = p; kind = kind; members = ts }) s.variables before g.complete).1 ∙ sym (append-nil (sizes s)));
      objects = objects_later s.records.done (record { place = p; kind = kind; members = ts }) s.objects before;
      functions = signed_later later s.functions.all g.calls.callables;
      gives = given_by_kept later s.flow.gives g.calls.gives;
    };
    types = omega arith;
    records = omega arith;
    calls = goes_later s.functions s.flow later;
    there = λ g. record {
      known = g.known;
      few = g.few;
      complete = (variables_later s.records.done (record { place = p; kind = kind; members = ts }) s.variables before g.complete).0;
      small = ap are_small (variables_later s.records.done (record { place = p; kind = kind; members = ts }) s.variables before g.complete).1 ∙ g.small;
      built = (before, complete, fit, g.built);
      calls = called_later later g.calls;
    };
  };
  same = refl;
}

pub last : (n m : ℕ) → n + 1 ≡ m → nat_lt n m ≡ true
last n m h = lt-ltb n m (omega (arith, h))

pub typedef_settles : (s : Scoped) (name : List ℕ) (n : Named) → Settles s (with_typedef s name n)
typedef_settles s name n =
    let long = length-append s.types (n ∷ []) in
    record {
      follows = record {
        names = (binding name (Typedef (length s.types)) ∷ [], refl);
        variables = omega arith;
        objects = omega arith;
        sizes = λ g. wider_refl (own_sizes s) refl;
        types = omega (arith, long);
        records = omega arith;
        calls = goes_refl s.functions s.flow s.records.done;
        there = λ g. record {
          known = and (nat_lt (length s.types) (length (s.types ++ n ∷ []))) (are_there (length s.variables) (length s.objects) (length (s.types ++ n ∷ [])) (length s.records.declared) s.bindings)
              (last (length s.types) (length (s.types ++ n ∷ [])) (omega (arith, long)))
              (are_there_wider (length s.variables) (length s.variables) (length s.objects) (length s.objects) (length s.types) (length (s.types ++ n ∷ []))
              (length s.records.declared) (length s.records.declared) s.bindings (omega arith) (omega arith) (omega (arith, long)) (omega arith) g.known);
          few = omega (arith, long, g.few);
          complete = g.complete;
          small = g.small;
          built = g.built;
          calls = g.calls;
        };
      };
      same = refl;
    }

-- a new variable is the last, and as large as its type
pub new_variable : (s : Scoped) (name : List ℕ) (n : Named) (vs : List ℕ) → Grows (sizes (with_variable s name n)) vs
    → (nat_lt (length s.variables) (length vs) ≡ true) × (slice_index vs (length s.variables) ≡ size_of s.records.done n.type)
new_variable s name n vs g =
    let size = size_of s.records.done n.type in
    let all : vs ≡ (sizes s ++ size ∷ []) ++ g.0 = g.1 ∙ ap (λ (l : List ℕ). l ++ g.0) (sizes_more s.records.done s.variables n) in
    let count : length s.variables ≡ length (sizes s) = sym (length-map (variables_in s) (λ (v : CoreVariable). v.size) ∙ length-map s.variables (variable_of s.records.done)) in
    let one = length-append (sizes s) (size ∷ []) in
    let long = ap (λ (l : List ℕ). length l) all ∙ length-append (sizes s ++ size ∷ []) g.0 in (
      lt-ltb (length s.variables) (length vs) (omega (arith, count, one, long)),
      ap (λ (l : List ℕ). slice_index l (length s.variables)) all
          ∙ get_or_append_left (sizes s ++ size ∷ []) g.0 0 (length s.variables) (omega (arith, count, one))
          ∙ get_or_push (sizes s) size 0 (length s.variables) (sym count),
    )

small_more : (variables : List CoreVariable) (v : CoreVariable) → are_small variables ≡ true → nat_lt v.size (2 ^ 31) ≡ true → are_small (variables ++ v ∷ []) ≡ true
small_more [] v h e = and (nat_lt v.size (2 ^ 31)) true e refl
small_more (w ∷ ws) v h e = let parts = both (nat_lt w.size (2 ^ 31)) (are_small ws) h in and (nat_lt w.size (2 ^ 31)) (are_small (ws ++ v ∷ [])) parts.0 (small_more ws v parts.1 e)

pub variable_follows : (s : Scoped) (name : List ℕ) (n : Named) → is_complete s.records.done n.type ≡ true → is_sized s.records.done n.type ≡ true → Follows s (with_variable s name n)
variable_follows s name n complete sized =
    let long = length-append s.variables (n ∷ []) in
    record {
      names = (_ ∷ [], refl);
      variables = omega (arith, long);
      objects = omega arith;
      sizes = λ g. record { no_pointers = refl; variables = (size_of s.records.done n.type ∷ [], sizes_more s.records.done s.variables n); objects = under_refl (own_sizes s).objects; functions = signed_refl (own_sizes s).functions; gives = refl };
      types = omega arith;
      records = omega arith;
      calls = goes_refl s.functions s.flow s.records.done;
      there = λ g. record {
        known = and (nat_lt (length s.variables) (length (s.variables ++ n ∷ []))) (are_there (length (s.variables ++ n ∷ [])) (length s.objects) (length s.types) (length s.records.declared) s.bindings)
            (last (length s.variables) (length (s.variables ++ n ∷ [])) (omega (arith, long)))
            (are_there_wider (length s.variables) (length (s.variables ++ n ∷ [])) (length s.objects) (length s.objects) (length s.types) (length s.types)
            (length s.records.declared) (length s.records.declared) s.bindings (omega (arith, long)) (omega arith) (omega arith) (omega arith) g.known);
        few = g.few;
        complete = complete_more s.records.done s.variables n g.complete complete;
        small =
            let most = small_sized s.records.done n.type g.built sized in
            ap are_small (variables_more s.records.done s.variables n) ∙ small_more (variables_in s) (variable_of s.records.done n) g.small (lt-ltb (size_of s.records.done n.type) (2 ^ 31) (omega arith));
        built = g.built;
        calls = g.calls;
      };
    }

-- ---- objects that live as long as the program

-- one more
pub object_settles : (s : Scoped) (o : ObjectEntry) (linked : List Linked) → Settles s (record s { objects = s.objects ++ o ∷ []; linked = linked })
object_settles s o linked =
    let long = length-append s.objects (o ∷ []) in
    let size = object_entry_size s.records.done in
    record {
      follows = record {
        names = inner_refl s.bindings;
        variables = omega arith;
        objects = omega (arith, long);
        sizes = λ g. record {
          no_pointers = refl;
          variables = grows_refl (sizes s);
          objects = subst (Under (map size s.objects)) (sym (map-append size s.objects (o ∷ []))) (under_append (map size s.objects) (size o ∷ []));
          functions = signed_refl (own_sizes s).functions;
          gives = refl;
        };
        types = omega arith;
        records = omega arith;
        calls = goes_refl s.functions s.flow s.records.done;
        there = λ g. record {
          known = are_there_wider (length s.variables) (length s.variables) (length s.objects) (length (s.objects ++ o ∷ [])) (length s.types) (length s.types)
              (length s.records.declared) (length s.records.declared) s.bindings (omega arith) (omega (arith, long)) (omega arith) (omega arith) g.known;
          few = g.few;
          complete = g.complete;
          small = g.small;
          built = g.built;
          calls = g.calls;
        };
      };
      same = refl;
    }

set_under : (size : ObjectEntry → ℕ) (objects : List ObjectEntry) (i : ℕ) (o p : ObjectEntry) → slice_get objects i ≡ Some o → size o ≤ size p → Under (map size objects) (map size (slice_set objects i p))
set_under size [] i o p h le = tt
set_under size (q ∷ objects) zero o p h le = let same : q ≡ o = same_Some q o h in (rw same le, under_refl (map size objects))
set_under size (q ∷ objects) (suc i) o p h le = (omega arith, set_under size objects i o p h le)

pub object_set : (s : Scoped) (i : ℕ) (o p : ObjectEntry) → slice_get s.objects i ≡ Some o → object_entry_size s.records.done o ≤ object_entry_size s.records.done p
    → Settles s (record s { objects = slice_set s.objects i p })
object_set s i o p h le =
    let long = length-set s.objects i p in
    record {
      follows = record {
        names = inner_refl s.bindings;
        variables = omega arith;
        objects = omega (arith, long);
        sizes = λ g. record { no_pointers = refl; variables = grows_refl (sizes s); objects = set_under (object_entry_size s.records.done) s.objects i o p h le; functions = signed_refl (own_sizes s).functions; gives = refl };
        types = omega arith;
        records = omega arith;
        calls = goes_refl s.functions s.flow s.records.done;
        there = λ g. record {
          known = are_there_wider (length s.variables) (length s.variables) (length s.objects) (length (slice_set s.objects i p)) (length s.types) (length s.types)
              (length s.records.declared) (length s.records.declared) s.bindings (omega arith) (omega (arith, long)) (omega arith) (omega arith) g.known;
          few = g.few;
          complete = g.complete;
          small = g.small;
          built = g.built;
          calls = g.calls;
        };
      };
      same = refl;
    }

-- where an object is found
pub object_get : (s : Scoped) (k : ℕ) (o : ObjectEntry) → object_at s k ≡ Some o → slice_get s.objects (k - 1) ≡ Some o
object_get s k o h = by (k == 0) h where
  by : (b : Bool) → (if b then None else slice_get s.objects (k - 1)) ≡ Some o → slice_get s.objects (k - 1) ≡ Some o
  by true e = let none : ⊥ = cc in absurd none
  by false e = e

above_zero : (k : ℕ) → (k == 0) ≡ false → 1 ≤ k
above_zero zero h = let none : ⊥ = cc in absurd none
above_zero (suc k) h = omega arith

-- the number of an object that is there
pub object_known : (s : Scoped) (k : ℕ) (o : ObjectEntry) → object_at s k ≡ Some o → is_known s (Object k) ≡ true
object_known s k o h = by (k == 0) refl h where
  by : (b : Bool) → (k == 0) ≡ b → (if b then None else slice_get s.objects (k - 1)) ≡ Some o → is_known s (Object k) ≡ true
  by true is e = let none : ⊥ = cc in absurd none
  by false is e =
      let low = above_zero k is in
      let within = slice_get_within s.objects (k - 1) o e in
      and (nat_le 1 k) (nat_le k (length s.objects)) (le-leb 1 k low) (le-leb k (length s.objects) (omega (arith, low, within)))

-- the next object is there behind it
pub next_known : (s : Scoped) (o : ObjectEntry) → (nat_le 1 (length s.objects + 1) && nat_le (length s.objects + 1) (length (s.objects ++ o ∷ []))) ≡ true
next_known s o =
    let long = length-append s.objects (o ∷ []) in
    and _ _ (le-leb 1 (length s.objects + 1) (omega arith)) (le-leb (length s.objects + 1) (length (s.objects ++ o ∷ [])) (omega (arith, long)))

-- ---- functions

-- one more
pub function_settles : (H : Type 0) (s : Scoped) (name : List ℕ) (c : Callable) → (H → There s) → (H → layouts.are_complete s.records.done c.type.parameters ≡ true)
    → SettlesIf H s (record s { functions = with_callable s.functions name c })
function_settles H s name c there h = record {
  follows = record {
    names = inner_refl s.bindings;
    variables = omega arith;
    objects = omega arith;
    sizes = λ g. record {
      no_pointers = refl;
      variables = grows_refl (sizes s);
      objects = under_refl (own_sizes s).objects;
      functions = signed_added s.records.done s.functions.all c;
      gives = refl;
    };
    types = omega arith;
    records = omega arith;
    calls = goes_added s.functions name c s.flow s.records.done;
    there = λ x. let g = there x in record { known = g.known; few = g.few; complete = g.complete; small = g.small; built = g.built; calls = called_added s.records.done s.functions name c s.flow g.calls (h x) };
  };
  same = refl;
}

-- one function type more
pub function_type_settles : (H : Type 0) (s : Scoped) (f : FunctionType) → (H → There s) → (H → layouts.are_complete s.records.done f.parameters ≡ true) → SettlesIf H s (with_function_type s f)
function_type_settles H s f there h = record {
  follows = record {
    names = inner_refl s.bindings;
    variables = omega arith;
    objects = omega arith;
    sizes = λ g. wider_refl (own_sizes s) refl;
    types = omega arith;
    records = omega arith;
    calls = goes_typed s.functions f s.flow s.records.done;
    there = λ x. let g = there x in record { known = g.known; few = g.few; complete = g.complete; small = g.small; built = g.built; calls = called_typed s.records.done s.functions f s.flow g.calls (h x) };
  };
  same = refl;
}

-- ---- scopes that end

-- names and variables of parameters end with them
pub ended_settles : (s t : Scoped) → Follows s t → Settles s (ended s t)
ended_settles s t f = record {
  follows = record {
    names = inner_refl s.bindings;
    variables = omega arith;
    objects = f.objects;
    sizes = λ g. record {
      no_pointers = refl;
      variables = ([], ap sizes_of_variables (variables_kept f.calls.later s.variables g.complete).1 ∙ sym (append-nil (sizes s)));
      objects = (f.sizes g).objects;
      functions = (f.sizes g).functions;
      gives = (f.sizes g).gives;
    };
    types = f.types;
    records = f.records;
    calls = f.calls;
    there = λ g.
        let now = f.there g in
        record {
          known = are_there_wider (length s.variables) (length s.variables) (length s.objects) (length t.objects) (length s.types) (length t.types)
              (length s.records.declared) (length t.records.declared) s.bindings (omega arith) f.objects f.types f.records g.known;
          few = now.few;
          complete = (variables_kept f.calls.later s.variables g.complete).0;
          small = ap are_small (variables_kept f.calls.later s.variables g.complete).1 ∙ g.small;
          built = now.built;
          calls = now.calls;
        };
  };
  same = refl;
}
