-- What suffixes derive from behind the last on.
use Rattle.std.proofs.Common.{◌≡◌, ◌+◌, ◌*◌, ◌<◌, ℕ, zero, suc, Bool, true, false, List, [], ◌∷◌, length, get_or, drop, Result, Err, refl, ap, sym, subst, ◌∙◌, arith}
use Rattle.std.specs.Prelude.{◌==◌, ◌&&◌, if◌then◌else◌}
use Rattle.c_types.specs.declared.types.Ty.{Ty}
use Rattle.c_types.specs.Types.{CType, Completed, views}
use Rattle.c_types.specs.Types as ctypes
use Rattle.c_types.specs.Layouts.{layout_of, record_layout, is_completed, is_complete, size_of}
use Rattle.c_scope.specs.declared.fault.Broken.{Broken}
use Rattle.c_scope.specs.declared.fault.Broken.TheVariants as broken
use Rattle.c_scope.specs.Faults.{◌>>=◌, Breaks, GivesNode}
use Rattle.c_elab_base.specs.declared.derivations.Derived.{Derived as CodeDerived}
use Rattle.c_elab_base.specs.Derivations.{Shape, Derived, counted, called, array_shape, function_shape, derived, view_derived, view_deriveds}
use Rattle.c_elab_base.proofs.Steps.{list_at}

-- ---- faults

one_fails : (done : List Completed) (constant : Bool) (base : Shape) (d : Derived) (ds : List Derived) (rule : ℕ) → derived done constant base ds ≡ Err rule → derived done constant base (d ∷ ds) ≡ Err rule
one_fails done constant base (counted k) ds rule h = ap (λ (r : Result Shape ℕ). r >>= λ t. array_shape done k t) h
one_fails done constant base (called ps ellipsis) ds rule h = ap (λ (r : Result Shape ℕ). r >>= λ t. function_shape constant ps ellipsis t) h

-- a fault behind the first suffixes is one of the whole
pub derived_fails : (done : List Completed) (constant : Bool) (base : Shape) (n : ℕ) (ds : List CodeDerived) (rule : ℕ) → derived done constant base (view_deriveds (drop n ds)) ≡ Err rule
    → derived done constant base (view_deriveds ds) ≡ Err rule
derived_fails done constant base zero ds rule h = h
derived_fails done constant base (suc n) [] rule h = h
derived_fails done constant base (suc n) (d ∷ ds) rule h = one_fails done constant base (view_derived d) (view_deriveds ds) rule (derived_fails done constant base n ds rule h)

pub breaks_on : {Y Z : Type 0} (e : Broken) (r : Result Y ℕ) (s : Result Z ℕ) → ((rule : ℕ) → r ≡ Err rule → s ≡ Err rule) → Breaks e r → Breaks e s
breaks_on broken.Memory r s h g = tt
breaks_on (broken.Rule rule) r s h g = h rule g

pub node_err : {X Y : Type 0} (view : X → Y) (r : Result X Broken) (e f : Broken) (whole : Result Y ℕ) → r ≡ Err e → e ≡ f → Breaks f whole → GivesNode view r whole
node_err {X} view r e f whole p q h = subst (λ (x : Result X Broken). GivesNode view x whole) (sym (p ∙ ap Err q)) h

pub shape_fails : (done : List Completed) (constant : Bool) (base : Shape) (ds : List CodeDerived) (n : ℕ) (d : CodeDerived) (e : Broken) → n < length ds → d ≡ get_or ds n d
    → Breaks e (derived done constant base (view_derived d ∷ view_deriveds (drop (n + 1) ds))) → Breaks e (derived done constant base (view_deriveds ds))
shape_fails done constant base ds n d e h is bad =
    breaks_on e (derived done constant base (view_derived d ∷ view_deriveds (drop (n + 1) ds))) (derived done constant base (view_deriveds ds))
    (λ rule g. derived_fails done constant base n ds rule (ap (derived done constant base) (list_at view_derived ds n d h is) ∙ g)) bad

-- ---- sizes

none_completed : (done : List Completed) (p : ℕ) → is_completed done p ≡ false → (record_layout done p).size ≡ 0
none_completed [] p h = refl
none_completed (c ∷ done) p h = by (none_completed done p) (c.place == p) h where
  by : (is_completed done p ≡ false → (record_layout done p).size ≡ 0) → (b : Bool) → (if b then true else is_completed done p) ≡ false
      → (if b then layout_of (record_layout done) c.kind c.members else record_layout done p).size ≡ 0
  by rest true g = let none : ⊥ = cc in absurd none
  by rest false g = rest g

times_none : (k n : ℕ) → n ≡ 0 → k * n ≡ 0
times_none k n h = rw h (omega arith)

-- what is incomplete has no bytes
pub incomplete_size : (done : List Completed) (t : CType) → is_complete done t ≡ false → size_of done t ≡ 0
incomplete_size done ctypes.void h = refl
incomplete_size done (ctypes.integer t) h = let none : ⊥ = cc in absurd none
incomplete_size done (ctypes.aggregate p) h = none_completed done p h
incomplete_size done (ctypes.array e k) h = times_none k (size_of done e) (incomplete_size done e h)
incomplete_size done (ctypes.pointer t c) h = let none : ⊥ = cc in absurd none
incomplete_size done (ctypes.function f) h = refl
