-- The bindings of a scope, which stand in memory in the order of their declarations, and the places of names among them.
use Rattle.std.proofs.Common.{◌≡◌, ◌<◌, ◌≤◌, ◌+◌, ◌-◌, ℕ, zero, suc, Bool, true, false, List, [], ◌∷◌, ◌++◌, length, get_or, take, drop, map, reverse, Option, Some, None, refl, sym, ap, ◌∙◌, arith}
use Rattle.std.specs.Prelude.{if◌then◌else◌, nat_le, ◌||◌, ◌&&◌}
use Rattle.std.specs.Str.{bytes_eq}
use Rattle.std.proofs.lemmas.List.{reverse-append, length-map, length-reverse, get_or-reverse, drop_more, drop_all, drop-take, take-take, take-append-drop}
use Rattle.std.proofs.lemmas.Slice.Eq.{bytes_eq-Decides}
use borrow.Author.Tests.{lt-leb, le-leb}
use Rattle.c_scope.specs.declared.meaning.Meaning.{Meaning}
use Rattle.c_scope.specs.declared.scope.Bound.{Bound}
use Rattle.c_scope.specs.Scopes.{Binding, binding, Environment, meaning_in, in_space, is_tag, is_called, declares}
use Rattle.c_scope.specs.Places.{bindings_of, environment, place_in, hidden_of}

-- the latest declaration is the innermost
pub environment_push : (bs : List Bound) (b : Bound) → environment (bs ++ b ∷ []) ≡ binding b.name.items b.meaning ∷ environment bs
environment_push bs b = ap bindings_of (reverse-append bs (b ∷ []))

pub hidden_push : (bs : List Bound) (b : Bound) → hidden_of (bs ++ b ∷ []) ≡ b.hidden ∷ hidden_of bs
hidden_push bs b = ap (λ (xs : List Bound). map (λ x. x.hidden) xs) (reverse-append bs (b ∷ []))

pub length-environment : (bs : List Bound) → length (environment bs) ≡ length bs
length-environment bs = length-map (reverse bs) (λ (b : Bound). binding b.name.items b.meaning) ∙ length-reverse bs

-- a place is below the bindings
below_by : (x : Bool) (n p : ℕ) (rest : Option ℕ) → (rest ≡ Some p → p < n) → (if x then Some n else rest) ≡ Some p → p < n + 1
below_by true n p rest h e = let same : n ≡ p = cc in omega arith
below_by false n p rest h e = omega (arith, h e)

pub place_below : (tags : Bool) (env : Environment) (name : List ℕ) (p : ℕ) → place_in tags env name ≡ Some p → p < length env
place_below tags [] name p e = let none : ⊥ = cc in absurd none
place_below tags (b ∷ bs) name p e = omega (arith, below_by (is_called tags name b) (length bs) p (place_in tags bs name) (place_below tags bs name p) e)

-- where no binding has the name, it means what it means without them
unbound_by : (x : Bool) (n : ℕ) (rest : Option ℕ) (m : Meaning) (other : Option Meaning) (found : Option Meaning) → (rest ≡ None → found ≡ other) → (if x then Some n else rest) ≡ None → (if x then Some m else found) ≡ other
unbound_by true n rest m other found h e = cc
unbound_by false n rest m other found h e = h e

pub meaning_unbound : (tags : Bool) (env : Environment) (name : List ℕ) (other : Option Meaning) → place_in tags env name ≡ None → meaning_in tags other env name ≡ other
meaning_unbound tags [] name other e = refl
meaning_unbound tags (b ∷ bs) name other e = unbound_by (is_called tags name b) (length bs) (place_in tags bs name) b.meaning other (meaning_in tags other bs name) (meaning_unbound tags bs name other) e

-- the binding at the place of a name says what it means
at_place : (tags : Bool) (bs : List Bound) (name : List ℕ) (other : Option Meaning) (p : ℕ) (d : Bound) → place_in tags (bindings_of bs) name ≡ Some p → meaning_in tags other (bindings_of bs) name ≡ Some (get_or bs (length bs - 1 - p) d).meaning
at_place tags [] name other p d e = let none : ⊥ = cc in absurd none
at_place tags (b ∷ bs) name other p d e = by_name (is_called tags name (binding b.name.items b.meaning)) (at_place tags bs name other p d) e where
  by_name : (x : Bool) → (place_in tags (bindings_of bs) name ≡ Some p → meaning_in tags other (bindings_of bs) name ≡ Some (get_or bs (length bs - 1 - p) d).meaning)
      → (if x then Some (length (bindings_of bs)) else place_in tags (bindings_of bs) name) ≡ Some p
      → (if x then Some b.meaning else meaning_in tags other (bindings_of bs) name) ≡ Some (get_or (b ∷ bs) (suc (length bs) - 1 - p) d).meaning
  by_name true before e =
      let long = length-map bs (λ (x : Bound). binding x.name.items x.meaning) in
      let same : length (bindings_of bs) ≡ p = cc in
      let first : 0 ≡ suc (length bs) - 1 - p = omega arith in
      ap (λ (i : ℕ). Some (get_or (b ∷ bs) i d).meaning) first
  by_name false before e =
      let long = length-map bs (λ (x : Bound). binding x.name.items x.meaning) in
      let below = place_below tags (bindings_of bs) name p e in
      let next : suc (length bs - 1 - p) ≡ suc (length bs) - 1 - p = omega arith in
      before e ∙ ap (λ (i : ℕ). Some (get_or (b ∷ bs) i d).meaning) next

pub meaning_at : (tags : Bool) (bs : List Bound) (name : List ℕ) (other : Option Meaning) (p : ℕ) (d : Bound) → place_in tags (environment bs) name ≡ Some p → meaning_in tags other (environment bs) name ≡ Some (get_or bs p d).meaning
meaning_at tags bs name other p d e =
    let long = length-environment bs in
    let back = length-reverse bs in
    let below = place_below tags (environment bs) name p e in
    let index : length bs - 1 - (length (reverse bs) - 1 - p) ≡ p = omega arith in
    at_place tags (reverse bs) name other p d e
    ∙ ap (λ (b : Bound). Some b.meaning) (get_or-reverse bs (length (reverse bs) - 1 - p) d (omega arith))
    ∙ ap (λ (i : ℕ). Some (get_or bs i d).meaning) index

-- a name is among the bindings from a place on exactly where its innermost binding stands there
abbrev pub is_from : ℕ → Option ℕ → Bool
is_from outer None = false
is_from outer (Some p) = nat_le outer p

past : (outer : ℕ) (o : Option ℕ) → ((p : ℕ) → o ≡ Some p → p < outer) → is_from outer o ≡ false
past outer None h = refl
past outer (Some p) h = lt-leb outer p (h p refl)

none_from : (x : Bool) (n outer : ℕ) (rest : Option ℕ) → n < outer → ((p : ℕ) → rest ≡ Some p → p < n) → is_from outer (if x then Some n else rest) ≡ false
none_from true n outer rest h below = past outer (Some n) (λ p e. let same : n ≡ p = cc in omega arith)
none_from false n outer rest h below = past outer rest (λ p e. let less = below p e in omega arith)

some_from : (x : Bool) (n outer : ℕ) (rest : Option ℕ) (among : Bool) → outer ≤ n → among ≡ is_from outer rest → (x || among) ≡ is_from outer (if x then Some n else rest)
some_from true n outer rest among h e = sym (le-leb outer n h)
some_from false n outer rest among h e = e

pub declared_from : (tags : Bool) (env : Environment) (name : List ℕ) (outer : ℕ) → outer ≤ length env → declares tags (take (length env - outer) env) name ≡ is_from outer (place_in tags env name)
declared_from tags [] name outer h = let none : 0 - outer ≡ 0 = omega arith in ap (λ (k : ℕ). declares tags (take k []) name) none
declared_from tags (b ∷ bs) name outer h = counted (suc (length bs) - outer) refl (declared_from tags bs name outer) where
  counted : (k : ℕ) → k ≡ suc (length bs) - outer → (outer ≤ length bs → declares tags (take (length bs - outer) bs) name ≡ is_from outer (place_in tags bs name))
      → declares tags (take k (b ∷ bs)) name ≡ is_from outer (place_in tags (b ∷ bs) name)
  counted zero e before = sym (none_from (is_called tags name b) (length bs) outer (place_in tags bs name) (omega arith) (place_below tags bs name))
  counted (suc k) e before =
      let count : k ≡ length bs - outer = omega arith in
      let within : outer ≤ length bs = omega arith in
      some_from (is_called tags name b) (length bs) outer (place_in tags bs name) (declares tags (take k bs) name) within (ap (λ (i : ℕ). declares tags (take i bs) name) count ∙ before within)

-- ---- taking back the latest declaration, and one more

-- the places of names without the latest binding, which gives back the place that it hides
replaced : (x : Bool) (n : ℕ) (old new hidden now : Option ℕ) → now ≡ (if x then hidden else old) → old ≡ (if x then Some n else new) → (x ≡ true → hidden ≡ new) → now ≡ new
replaced true n old new hidden now e f h = e ∙ h refl
replaced false n old new hidden now e f h = e ∙ f

-- a binding's own name space, and the other one
own_space : (tag x : Bool) → (in_space tag tag && x) ≡ x
own_space true x = refl
own_space false x = refl

pub space_is : (tags tag x : Bool) → (in_space tags tag && x) ≡ true → (tags ≡ tag) × (x ≡ true)
space_is true true x e = (refl, e)
space_is true false x e = let none : ⊥ = cc in absurd none
space_is false true x e = let none : ⊥ = cc in absurd none
space_is false false x e = (refl, e)

pub forgotten : (tags : Bool) (env : Environment) (b : Binding) (hidden : Option ℕ) (name : List ℕ) (old now : Option ℕ) →
    hidden ≡ place_in (is_tag b.meaning) env b.name → old ≡ place_in tags (b ∷ env) name → now ≡ (if is_called tags name b then hidden else old) → now ≡ place_in tags env name
forgotten tags env b hidden name old now h e f =
    replaced (is_called tags name b) (length env) old (place_in tags env name) hidden now f e (λ same.
    let parts = space_is tags (is_tag b.meaning) (bytes_eq name b.name) same in
    h ∙ ap (λ (t : Bool). place_in t env b.name) (sym parts.0) ∙ ap (λ (n : List ℕ). place_in tags env n) (sym ((bytes_eq-Decides name b.name).0 parts.1)))

-- the name of the latest binding has a place
pub has_place : (env : Environment) (b : Binding) → place_in (is_tag b.meaning) (b ∷ env) b.name ≡ None → ⊥
has_place env b e =
    let here : is_called (is_tag b.meaning) b.name b ≡ true = own_space (is_tag b.meaning) (bytes_eq b.name b.name) ∙ (bytes_eq-Decides b.name b.name).1 refl in
    let first : place_in (is_tag b.meaning) (b ∷ env) b.name ≡ Some (length env) = ap (λ (x : Bool). if x then Some (length env) else place_in (is_tag b.meaning) env b.name) here in
    cc

pub declared : (tags : Bool) (env : Environment) (b : Binding) (name : List ℕ) (old now : Option ℕ) →
    old ≡ place_in tags env name → now ≡ (if is_called tags name b then Some (length env) else old) → now ≡ place_in tags (b ∷ env) name
declared tags env b name old now e f = f ∙ ap (λ (o : Option ℕ). if is_called tags name b then Some (length env) else o) e

-- the innermost binding is that of the last declaration
pub innermost_is : (bs : List Bound) (b : Bound) → 0 < length bs → b ≡ get_or bs (length bs - 1) b → take 1 (environment bs) ≡ binding b.name.items b.meaning ∷ []
innermost_is bs b some is =
    let i = length bs - 1 in
    let last : drop i bs ≡ get_or bs i b ∷ drop (i + 1) bs = drop_more bs i b (omega (arith, some)) in
    let none : drop (i + 1) bs ≡ [] = drop_all (i + 1) bs (omega (arith, some)) in
    let split : bs ≡ take i bs ++ b ∷ [] =
    sym (take-append-drop i bs) ∙ ap (λ (xs : List Bound). take i bs ++ xs) (last ∙ ap (λ (x : Bound). x ∷ drop (i + 1) bs) (sym is) ∙ ap (λ (xs : List Bound). b ∷ xs) none) in
    ap (λ (xs : List Bound). take 1 (environment xs)) split ∙ ap (λ (env : Environment). take 1 env) (environment_push (take i bs) b)

-- one binding more is taken from the front
pub take_further : (env : Environment) (k : ℕ) → take (k + 1) env ≡ take k env ++ take 1 (drop k env)
take_further env k =
    sym (take-append-drop k (take (k + 1) env))
    ∙ ap (λ (rest : Environment). rest ++ drop k (take (k + 1) env)) (take-take k (k + 1) env (omega arith))
    ∙ ap (λ (rest : Environment). take k env ++ rest) (drop-take k 1 env)
