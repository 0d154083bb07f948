-- What suffixes of declarators and parameters say, one behind the other.
use Rattle.std.proofs.Common.{◌≡◌, ◌<◌, ◌+◌, ℕ, Bool, true, false, List, [], ◌∷◌, ◌++◌, length, get_or, drop, None, Some, Result, Ok, Err, refl, ap, sym, subst, ◌∙◌, arith}
use Rattle.std.specs.Global.{Global}
use Rattle.std.specs.Prelude.{◌==◌, ◌&&◌, Vec, vec_len, is_some, nat_lt, if◌then◌else◌}
use Rattle.std.proofs.lemmas.List.{append_assoc, drop_more, map-append}
use Rattle.std.proofs.lemmas.Bool.{lt-ltb, le-ltb}
use Rattle.c_tree.specs.declared.expr.PointerMark.{PointerMark}
use Rattle.c_tree.specs.declared.declaration.FullDeclarator.{FullDeclarator}
use Rattle.c_tree.specs.declared.declaration.DeclaratorSuffix.{DeclaratorSuffix, Bounded, Open, Empty, Void, Parameters'}
use Rattle.c_tree.specs.declared.declaration.Parameter.{Parameter as ParameterTree}
use Rattle.c_tree.specs.Declarations.{Parts, members, no_member, parts_line, name_of, full_has_name, Full, full_behind, Fulls, full, FullSuffixes, full_end, Parameters, no_parameter, view_full, fulls_of, view_full_suffix, full_suffixes_of, view_parameters, view_parameter, parameters_of, parts_of}
use Rattle.c_tree.specs.Tree.{view}
use Rattle.c_scope.specs.Scopes.{Named, Scoped}
use Rattle.c_scope.specs.Faults.{◌>>=◌, Fault, on_line, Fails}
use Rattle.c_types.specs.Types.{CType, Completed}
use Rattle.c_scope.specs.Types.{specified_type, array_of, element_type, type_size}
use Rattle.c_elab_expr.specs.Typing.{RefusesFirst}
use Rattle.c_elab_expr.proofs.WellTyped.{Holds, bind, given, refused, on_same_line}
use Rattle.c_elab_base.specs.Declarators.{complete_type, sized_type}
use Rattle.c_elab_base.specs.declared.regions.Region.{Region}
use Rattle.c_elab_base.specs.Regions.{earlier}
use Rattle.c_elab_base.specs.Derivations.{Derived, counted, called, Derivation, lengths, callable, is_void, derivation, parameter_line, view_derived, view_deriveds}
use Rattle.c_elab_base.specs.Specifiers.{Fields, Parted, is_none, said_before, fields_behind, with_field, with_anonymous, Derivations, Passed, parted, named_parts, judged_parameter, plain_parameter, parameter_made, parameter_node, with_parameter, declared_parameter, are_several, ended, inner_region, with_member}
use Rattle.c_elab_type.specs.Specifiers.{typed_members, typed_parts, typed_fields, said_bound, typed_full, typed_suffixes, typed_parameters}
use Rattle.c_scope.specs.declared.fault.TypingError.{TypingError}
use Rattle.c_elab_base.specs.declared.derivations.Derived.{Derived as CodeDerived}
use Rattle.c_elab_type.specs.Steps.{suffixes_first, Derives}
use Rattle.c_elab_base.proofs.Lists.{more_than_none}
use Rattle.c_elab_base.proofs.Steps.{fails_on}

-- ---- lists of the tree from a place on

pub fulls_at : (ds : List FullDeclarator) (i : ℕ) (d : FullDeclarator) → i < length ds → d ≡ get_or ds i d → fulls_of (drop i ds) ≡ full (view_full d) (fulls_of (drop (i + 1) ds))
fulls_at ds i d h e = ap fulls_of (drop_more ds i d h) ∙ ap (λ (x : FullDeclarator). full (view_full x) (fulls_of (drop (i + 1) ds))) (sym e)

pub suffixes_at : (xs : List DeclaratorSuffix) (i : ℕ) (x : DeclaratorSuffix) → i < length xs → x ≡ get_or xs i x
    → full_suffixes_of (drop i xs) ≡ view_full_suffix x (full_suffixes_of (drop (i + 1) xs))
suffixes_at xs i x h e = ap full_suffixes_of (drop_more xs i x h) ∙ ap (λ (y : DeclaratorSuffix). view_full_suffix y (full_suffixes_of (drop (i + 1) xs))) (sym e)

-- ---- suffixes one behind the other

-- what was found
abbrev pub found : List Derived × Scoped → Derivations
found x = Ok x

same_pair : (x y : List Derived × Scoped) → found x ≡ found y → x ≡ y
same_pair x y e = cc

-- suffixes in front of those behind them
abbrev pub in_front_of : List Derived → Derivations → Derivations
in_front_of ds r = r >>= λ y. Ok (ds ++ y.0, y.1)

abbrev pub joined : Derivations → (Scoped → Derivations) → Derivations
joined r g = r >>= λ inner. in_front_of inner.0 (g inner.1)

front_assoc : (before ds mid now : List Derived) (t : Scoped) (q : Derivations) → before ++ ds ≡ mid → suffixes_first mid q ≡ Ok (now, t) → suffixes_first before (in_front_of ds q) ≡ Ok (now, t)
front_assoc before ds mid now t (Err f) list k = let none : ⊥ = cc in absurd none
front_assoc before ds mid now t (Ok y) list k = ap (λ (xs : List Derived). found (xs, y.1)) (sym (append_assoc before ds y.0) ∙ ap (λ (xs : List Derived). xs ++ y.0) list) ∙ k

pub both_suffixes : (before mid now : List Derived) (s t : Scoped) (r : Derivations) (g : Scoped → Derivations) → suffixes_first before r ≡ Ok (mid, s) → suffixes_first mid (g s) ≡ Ok (now, t)
    → suffixes_first before (joined r g) ≡ Ok (now, t)
both_suffixes before mid now s t (Err f) g e h = let none : ⊥ = cc in absurd none
both_suffixes before mid now s t (Ok x) g e h =
    let same = same_pair (before ++ x.0, x.1) (mid, s) e in
    let scope : x.1 ≡ s = ap (λ (p : List Derived × Scoped). p.1) same in
    let list : before ++ x.0 ≡ mid = ap (λ (p : List Derived × Scoped). p.0) same in
    front_assoc before x.0 mid now t (g x.1) list (ap (suffixes_first mid) (ap g scope) ∙ h)

-- a fault behind the first suffixes is one of the whole
pub second_fails : (before mid : List Derived) (s : Scoped) (r : Derivations) (g : Scoped → Derivations) (f : Fault) → suffixes_first before r ≡ Ok (mid, s) → g s ≡ Err f → joined r g ≡ Err f
second_fails before mid s (Err b) g f e h = let none : ⊥ = cc in absurd none
second_fails before mid s (Ok x) g f e h =
    let same = same_pair (before ++ x.0, x.1) (mid, s) e in
    let scope : x.1 ≡ s = ap (λ (p : List Derived × Scoped). p.1) same in
    ap (in_front_of x.0) (ap g scope ∙ h)

one_more : (d : Derived) (s t : Scoped) (ds : List Derived) (rest : FullSuffixes) → found (d ∷ [], s) ≡ found (ds, t) → in_front_of (d ∷ []) (typed_suffixes s rest) ≡ in_front_of ds (typed_suffixes t rest)
one_more d s t ds rest e = ap (λ (p : List Derived × Scoped). in_front_of p.0 (typed_suffixes p.1 rest)) (same_pair (d ∷ [], s) (ds, t) e)

pub one_suffix : (s t : Scoped) (x : DeclaratorSuffix) (ds : List Derived) (rest : FullSuffixes) → typed_suffixes s (view_full_suffix x full_end) ≡ Ok (ds, t)
    → typed_suffixes s (view_full_suffix x rest) ≡ in_front_of ds (typed_suffixes t rest)
one_suffix s t (Bounded line e) ds rest h = by (said_bound s (view e.value)) h where
  by : (r : Result ℕ Fault) → (r >>= λ n. found (counted (Some n) ∷ [], s)) ≡ found (ds, t) → (r >>= λ n. in_front_of (counted (Some n) ∷ []) (typed_suffixes s rest)) ≡ in_front_of ds (typed_suffixes t rest)
  by (Ok n) k = one_more (counted (Some n)) s t ds rest k
  by (Err f) k = let none : ⊥ = cc in absurd none
one_suffix s t (Open line) ds rest h = one_more (counted None) s t ds rest h
one_suffix s t (Empty line) ds rest h = one_more (called [] false) s t ds rest h
one_suffix s t (Void line) ds rest h = one_more (called [] false) s t ds rest h
one_suffix s t (Parameters' line shape ps variadic) ds rest h =
    by (typed_parameters (inner_region s) (are_several (view_parameters ps)) (record { parameters = []; scope = s }) (view_parameters ps)) h where
      by : (r : Result Passed Fault) → (r >>= λ p. found (called p.parameters variadic ∷ [], ended s p.scope)) ≡ found (ds, t)
          → (r >>= λ p. in_front_of (called p.parameters variadic ∷ []) (typed_suffixes (ended s p.scope) rest)) ≡ in_front_of ds (typed_suffixes t rest)
      by (Ok p) k = one_more (called p.parameters variadic) (ended s p.scope) t ds rest k
      by (Err f) k = let none : ⊥ = cc in absurd none

pub suffix_fails : (s : Scoped) (x : DeclaratorSuffix) (rest : FullSuffixes) (f : Fault) → typed_suffixes s (view_full_suffix x full_end) ≡ Err f → typed_suffixes s (view_full_suffix x rest) ≡ Err f
suffix_fails s (Bounded line e) rest f h = by (said_bound s (view e.value)) h where
  by : (r : Result ℕ Fault) → (r >>= λ n. found (counted (Some n) ∷ [], s)) ≡ Err f → (r >>= λ n. in_front_of (counted (Some n) ∷ []) (typed_suffixes s rest)) ≡ Err f
  by (Ok n) k = let none : ⊥ = cc in absurd none
  by (Err g) k = let same : g ≡ f = cc in ap Err same
suffix_fails s (Open line) rest f h = let none : ⊥ = cc in absurd none
suffix_fails s (Empty line) rest f h = let none : ⊥ = cc in absurd none
suffix_fails s (Void line) rest f h = let none : ⊥ = cc in absurd none
suffix_fails s (Parameters' line shape ps variadic) rest f h =
    by (typed_parameters (inner_region s) (are_several (view_parameters ps)) (record { parameters = []; scope = s }) (view_parameters ps)) h where
      by : (r : Result Passed Fault) → (r >>= λ p. found (called p.parameters variadic ∷ [], ended s p.scope)) ≡ Err f
          → (r >>= λ p. in_front_of (called p.parameters variadic ∷ []) (typed_suffixes (ended s p.scope) rest)) ≡ Err f
      by (Ok p) k = let none : ⊥ = cc in absurd none
      by (Err g) k = let same : g ≡ f = cc in ap Err same

-- with those found before
pub suffix_more : (before mid : List Derived) (d : Derived) (s t : Scoped) (x : DeclaratorSuffix) (rest : FullSuffixes) → typed_suffixes s (view_full_suffix x full_end) ≡ Ok (d ∷ [], t) → mid ≡ before ++ d ∷ []
    → suffixes_first before (typed_suffixes s (view_full_suffix x rest)) ≡ suffixes_first mid (typed_suffixes t rest)
suffix_more before mid d s t x rest e list = ap (suffixes_first before) (one_suffix s t x (d ∷ []) rest e) ∙ by (typed_suffixes t rest) where
  by : (r : Derivations) → suffixes_first before (in_front_of (d ∷ []) r) ≡ suffixes_first mid r
  by (Ok y) = ap (λ (ds : List Derived). Ok (ds, y.1)) (sym (append_assoc before (d ∷ []) y.0) ∙ ap (λ (ds : List Derived). ds ++ y.0) (sym list))
  by (Err f) = refl

pub first_fails : (before : List Derived) (r : Derivations) (f : Fault) → suffixes_first before r ≡ Err f → r ≡ Err f
first_fails before (Ok y) f e = let none : ⊥ = cc in absurd none
first_fails before (Err g) f e = let same : g ≡ f = cc in ap Err same

-- ---- pointers

-- pointers before a declarator are refused
pub full_refused : (e : TypingError) (s : Scoped) (ps : List PointerMark) (d : Full) → RefusesFirst e ps → Fails e (typed_full s (full_behind ps d))
full_refused e s [] d h = absurd h
full_refused e s (p ∷ ps) d h = subst (λ (x : TypingError). Fails x (typed_full s (full_behind (p ∷ ps) d))) (sym h) refl

pub no_pointers : (ps : List PointerMark) (d : Full) → ps ≡ [] → full_behind ps d ≡ d
no_pointers ps d e = ap (λ (qs : List PointerMark). full_behind qs d) e

-- ---- members

pub field_more : (r : Region) (base : Named) (f g : Fields) (d : Full) (rest : Fulls) (ds : List Derived) (t : Scoped) → typed_full f.scope d ≡ Ok (ds, t) → with_member base (record f { scope = t }) d ds ≡ Ok g
    → typed_fields r base f (full d rest) ≡ typed_fields r base g rest
field_more r base f g d rest ds t e h =
    ap (λ (q : Derivations). q >>= λ x. with_member base (record f { scope = x.1 }) d x.0 >>= λ k. typed_fields r base k rest) e ∙ ap (λ (q : Result Fields Fault). q >>= λ k. typed_fields r base k rest) h

pub field_fails : (r : Region) (base : Named) (f : Fields) (d : Full) (rest : Fulls) (ds : List Derived) (t : Scoped) (b : Fault) → typed_full f.scope d ≡ Ok (ds, t) → with_member base (record f { scope = t }) d ds ≡ Err b
    → typed_fields r base f (full d rest) ≡ Err b
field_fails r base f d rest ds t b e h =
    ap (λ (q : Derivations). q >>= λ x. with_member base (record f { scope = x.1 }) d x.0 >>= λ k. typed_fields r base k rest) e ∙ ap (λ (q : Result Fields Fault). q >>= λ k. typed_fields r base k rest) h

pub full_fails : (r : Region) (base : Named) (f : Fields) (d : Full) (rest : Fulls) (b : Fault) → typed_full f.scope d ≡ Err b → typed_fields r base f (full d rest) ≡ Err b
full_fails r base f d rest b e = ap (λ (q : Derivations). q >>= λ x. with_member base (record f { scope = x.1 }) d x.0 >>= λ k. typed_fields r base k rest) e

-- ---- a declaration of members

no_more : {A : Type 0} (r : Result A Fault) → (r >>= λ x. Ok x) ≡ r
no_more (Ok x) = refl
no_more (Err f) = refl

none_are : (ds : List FullDeclarator) → (length ds == 0) ≡ is_none (fulls_of ds)
none_are [] = refl
none_are (d ∷ ds) = more_than_none (length ds)

-- an anonymous struct or union among the members
pub with_it : (b : Bool) (n : Named) (f : Fields) → b ≡ true → with_anonymous b n f ≡ with_field f None n
with_it b n f e = ap (λ (a : Bool). with_anonymous a n f) e

pub without_it : (b : Bool) (n : Named) (f : Fields) → b ≡ false → with_anonymous b n f ≡ f
without_it b n f e = ap (λ (a : Bool). with_anonymous a n f) e

pub none_declared : (v : Vec FullDeclarator Global) → (vec_len v == 0) ≡ is_none (fulls_of v.items)
none_declared v = ap (λ (n : ℕ). n == 0) v.ok.0 ∙ none_are v.items

module _ (r : Region) (f : Fields) (parts : Parts) (ds : Fulls) where
  abbrev behind_base : Parted → Result Named Fault → Result Fields Fault
  behind_base p q = q >>= λ n. typed_fields r n (fields_behind f parts ds p n) ds >>= λ g. Ok g

  abbrev behind_said : Result Parted Fault → Result Fields Fault
  behind_said q = q >>= λ p. behind_base p (on_line (parts_line parts) (specified_type p.specified))

  pub line_parts_fail : (b : Fault) → typed_parts r (is_none ds) (said_before f) parts ≡ Err b → typed_members r f (members parts ds no_member) ≡ Err b
  line_parts_fail b e = ap behind_said e

  pub line_type_fails : (p : Parted) (b : Fault) → typed_parts r (is_none ds) (said_before f) parts ≡ Ok p → on_line (parts_line parts) (specified_type p.specified) ≡ Err b → typed_members r f (members parts ds no_member) ≡ Err b
  line_type_fails p b e h = ap behind_said e ∙ ap (behind_base p) h

  pub line_is : (p : Parted) (n : Named) → typed_parts r (is_none ds) (said_before f) parts ≡ Ok p → on_line (parts_line parts) (specified_type p.specified) ≡ Ok n
      → typed_members r f (members parts ds no_member) ≡ typed_fields r n (fields_behind f parts ds p n) ds
  line_is p n e h = ap behind_said e ∙ ap (behind_base p) h ∙ no_more (typed_fields r n (fields_behind f parts ds p n) ds)

-- ---- parameters

two_steps : {A B : Type 0} (a : Result A Fault) (f : A → Result B Fault) (g : B → Result B Fault) (q : B) → (a >>= λ x. f x >>= λ y. Ok y) ≡ Ok q → (a >>= λ x. f x >>= g) ≡ g q
two_steps (Err b) f g q e = let none : ⊥ = cc in absurd none
two_steps {A} {B} (Ok x) f g q e = by (f x) e where
  by : (r : Result B Fault) → (r >>= λ y. Ok y) ≡ Ok q → (r >>= g) ≡ g q
  by (Err b) k = let none : ⊥ = cc in absurd none
  by (Ok y) k = let same : y ≡ q = cc in ap g same

two_fail : {A B : Type 0} (a : Result A Fault) (f : A → Result B Fault) (g : B → Result B Fault) (b : Fault) → (a >>= λ x. f x >>= λ y. Ok y) ≡ Err b → (a >>= λ x. f x >>= g) ≡ Err b
two_fail (Err c) f g b e = let same : c ≡ b = cc in ap Err same
two_fail {A} {B} (Ok x) f g b e = by (f x) e where
  by : (r : Result B Fault) → (r >>= λ y. Ok y) ≡ Err b → (r >>= g) ≡ Err b
  by (Err c) k = let same : c ≡ b = cc in ap Err same
  by (Ok y) k = let none : ⊥ = cc in absurd none

pub parameters_at : (ps : List ParameterTree) (i : ℕ) (p : ParameterTree) → i < length ps → p ≡ get_or ps i p → parameters_of (drop i ps) ≡ view_parameter p (parameters_of (drop (i + 1) ps))
parameters_at ps i p h e = ap parameters_of (drop_more ps i p h) ∙ ap (λ (x : ParameterTree). view_parameter x (parameters_of (drop (i + 1) ps))) (sym e)

abbrev pub own_parts : Region → Passed → ParameterTree → Result (Named × Scoped) Fault
own_parts r p x = named_parts (parts_of x.specifiers.items) (typed_parts r false (parted [] p.scope) (parts_of x.specifiers.items))

abbrev own_parameter : Region → Bool → Passed → ParameterTree → Named × Scoped → Result Passed Fault
own_parameter r several p x y = judged_parameter r several p (parts_of x.specifiers.items) y.0 (view_full x.declarator) (typed_full y.1 (view_full x.declarator))

pub parameter_more : (r : Region) (several : Bool) (p q : Passed) (x : ParameterTree) (rest : Parameters) → typed_parameters r several p (view_parameter x no_parameter) ≡ Ok q
    → typed_parameters r several p (view_parameter x rest) ≡ typed_parameters r several q rest
parameter_more r several p q x rest e = two_steps (own_parts r p x) (own_parameter r several p x) (λ y. typed_parameters r several y rest) q e

pub parameter_fails : (r : Region) (several : Bool) (p : Passed) (x : ParameterTree) (rest : Parameters) (f : Fault) → typed_parameters r several p (view_parameter x no_parameter) ≡ Err f
    → typed_parameters r several p (view_parameter x rest) ≡ Err f
parameter_fails r several p x rest f e = two_fail (own_parts r p x) (own_parameter r several p x) (λ y. typed_parameters r several y rest) f e

-- the steps of one parameter
module _ (r : Region) (several : Bool) (p : Passed) (x : ParameterTree) where
  abbrev behind_parts : Result (Named × Scoped) Fault → Result Passed Fault
  behind_parts q = q >>= λ y. own_parameter r several p x y >>= λ z. Ok z

  abbrev behind_suffixes : Named → Derivations → Result Passed Fault
  behind_suffixes base q = judged_parameter r several p (parts_of x.specifiers.items) base (view_full x.declarator) q >>= λ z. Ok z

  pub base_fails : (f : Fault) → own_parts r p x ≡ Err f → typed_parameters r several p (view_parameter x no_parameter) ≡ Err f
  base_fails f e = ap behind_parts e

  pub suffixes_fail : (base : Named) (t : Scoped) (f : Fault) → own_parts r p x ≡ Ok (base, t) → typed_full t (view_full x.declarator) ≡ Err f
      → typed_parameters r several p (view_parameter x no_parameter) ≡ Err f
  suffixes_fail base t f e bad = ap behind_parts e ∙ ap (behind_suffixes base) bad

  module _ (base : Named) (t u : Scoped) (ds : List Derived) (e : own_parts r p x ≡ Ok (base, t)) (g : typed_full t (view_full x.declarator) ≡ Ok (ds, u)) where
    abbrev pub judged : Result CType Fault
    judged = on_line (parameter_line (parts_of x.specifiers.items) (view_full x.declarator)) (parameter_node (full_has_name (view_full x.declarator) && is_some (earlier r u (name_of (view_full x.declarator))))
        (parameter_made u.records.done several base.type (derivation u.functions u.records.done base ds)))

    abbrev pub made_of : CType → Passed
    made_of v = with_parameter p (name_of (view_full x.declarator)) (record { type = v; constant = base.constant })
        (declared_parameter (full_has_name (view_full x.declarator)) u (name_of (view_full x.declarator)) (record { type = v; constant = base.constant }))

    abbrev behind_type : Result CType Fault → Result Passed Fault
    behind_type q = (q >>= λ v. Ok (made_of v)) >>= λ z. Ok z

    pub type_fails : (f : Fault) → judged ≡ Err f → typed_parameters r several p (view_parameter x no_parameter) ≡ Err f
    type_fails f bad = ap behind_parts e ∙ ap (behind_suffixes base) g ∙ ap behind_type bad

    pub parameter_is : (v : CType) → judged ≡ Ok v → typed_parameters r several p (view_parameter x no_parameter) ≡ Ok (made_of v)
    parameter_is v good = ap behind_parts e ∙ ap (behind_suffixes base) g ∙ ap behind_type good

pub several_are : (ps : List ParameterTree) → are_several (parameters_of ps) ≡ nat_lt 1 (length ps)
several_are [] = sym (le-ltb 1 0 (omega arith))
several_are (p ∷ []) = sym (le-ltb 1 1 (omega arith))
several_are (p ∷ q ∷ ps) = sym (lt-ltb 1 (length (p ∷ q ∷ ps)) (omega arith))

-- ---- a parameter's type

abbrev Sized : List Completed → CType → Type 0
Sized done t = is_void t ≡ false → sized_type done t ≡ Ok t

sized_again : (done : List Completed) (t : CType) → Holds (Sized done) (sized_type done t)
sized_again done t = λ u e v. by u (type_size done t) refl e where
  by : (u : CType) (r : Result ℕ ℕ) → type_size done t ≡ r → (r >>= λ size. Ok t) ≡ Ok u → sized_type done u ≡ Ok u
  by u (Ok n) is e =
      let same : t ≡ u = cc in
      subst (λ (x : CType). sized_type done x ≡ Ok x) same (ap (λ (r : Result ℕ ℕ). r >>= λ size. Ok t) is)
  by u (Err rule) is e = let none : ⊥ = cc in absurd none

plain_sized : (done : List Completed) (several : Bool) (t : CType) → Holds (Sized done) (plain_parameter done several t)
plain_sized done several t = by (is_void t) several refl where
  by : (a b : Bool) → is_void t ≡ a → Holds {E = ℕ} (Sized done) (if a && b then Ok t else sized_type done t)
  by true true e = given (Sized done) t (λ v. let none : ⊥ = cc in absurd none)
  by true false e = sized_again done t
  by false b e = sized_again done t

made_sized : (done : List Completed) (several : Bool) (base : CType) (x : Derivation) → Holds (Sized done) (parameter_made done several base x)
made_sized done several base (lengths []) = plain_sized done several base
made_sized done several base (lengths (None ∷ ns)) =
    bind (λ (t : CType). Unit {0}) (Sized done) (element_type done base ns) _ (λ t e. tt) (λ t _. bind (λ (u : CType). Unit {0}) (Sized done) (complete_type done t) _ (λ u e. tt) (λ u _. refused (Sized done) 7))
made_sized done several base (lengths (Some n ∷ ns)) = bind (λ (t : CType). Unit {0}) (Sized done) (array_of done base (Some n ∷ ns)) _ (λ t e. tt) (λ t _. refused (Sized done) 7)
made_sized done several base (callable (Ok f)) = refused (Sized done) 7
made_sized done several base (callable (Err rule)) = refused (Sized done) rule

-- a parameter that isn't void is a variable
pub parameter_sized : (done : List Completed) (line : ℕ) (b several : Bool) (base : CType) (x : Derivation) (u : CType) → on_line line (parameter_node b (parameter_made done several base x)) ≡ Ok u
    → is_void u ≡ false → sized_type done u ≡ Ok u
parameter_sized done line b several base x = on_same_line (Sized done) line (parameter_node b (parameter_made done several base x)) (by b) where
  by : (c : Bool) → Holds (Sized done) (parameter_node c (parameter_made done several base x))
  by true = refused (Sized done) 2
  by false = made_sized done several base x

-- ---- what code finds

pub derives_both : (r : Result (Unit {0}) TypingError) (before mid now : List CodeDerived) (s t : Scoped) (first : Derivations) (g : Scoped → Derivations)
    → suffixes_first (view_deriveds before) first ≡ Ok (view_deriveds mid, s) → Derives r t mid now (g s) → Derives r t before now (joined first g)
derives_both (Ok u) before mid now s t first g e h = both_suffixes (view_deriveds before) (view_deriveds mid) (view_deriveds now) s t first g e h
derives_both (Err f) before mid now s t first g e h = fails_on f (g s) (joined first g) (λ b bad. second_fails (view_deriveds before) (view_deriveds mid) s first g b e bad) h

pub derives_as : (r : Result (Unit {0}) TypingError) (t : Scoped) (before now : List CodeDerived) (a b : Derivations) → a ≡ b → Derives r t before now a → Derives r t before now b
derives_as r t before now a b e h = subst (Derives r t before now) e h

-- a fault told is one of the whole
pub derives_fault : (r : Result (Unit {0}) TypingError) (e f : TypingError) (t : Scoped) (before now : List CodeDerived) (whole : Derivations) → r ≡ Err e → e ≡ f → Fails f whole → Derives r t before now whole
derives_fault r e f t before now whole p q h = subst (λ (x : Result (Unit {0}) TypingError). Derives x t before now whole) (sym (p ∙ ap Err q)) h

pub derives_one : (before mid : List CodeDerived) (d : CodeDerived) (s t : Scoped) (x : DeclaratorSuffix) (rest : FullSuffixes) → typed_suffixes s (view_full_suffix x full_end) ≡ Ok (view_derived d ∷ [], t) → mid ≡ before ++ d ∷ []
    → suffixes_first (view_deriveds before) (typed_suffixes s (view_full_suffix x rest)) ≡ suffixes_first (view_deriveds mid) (typed_suffixes t rest)
derives_one before mid d s t x rest e pushed =
    suffix_more (view_deriveds before) (view_deriveds mid) (view_derived d) s t x rest e (ap view_deriveds pushed ∙ map-append view_derived before (d ∷ []))
