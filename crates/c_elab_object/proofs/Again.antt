-- An object of which one more declarator says nothing new stays what it is.
use Rattle.std.proofs.Common.{◌≡◌, ◌-◌, ℕ, zero, suc, Bool, true, false, List, [], ◌∷◌, Option, Some, None, refl, ap, ap₂, sym, ◌∙◌}
use Rattle.std.specs.Prelude.{◌&&◌, ◌||◌, not, if◌then◌else◌, slice_get, slice_set}
use Rattle.c_types.specs.Types.{CType}
use Rattle.c_scope.specs.Scopes.{ObjectEntry, Scoped, object_at}
use Rattle.c_elab_object.specs.ObjectEntries.{changed_by, changed_object, declared_again}
use Rattle.c_elab_object.specs.Settled.{is_settled}
use Rattle.c_elab_base.proofs.Growing.{object_get}

-- an element written back
pub set_own : {X : Type 0} (all : List X) (k : ℕ) (x : X) → slice_get all k ≡ Some x → slice_set all k x ≡ all
set_own [] k x e = let none : ⊥ = cc in absurd none
set_own (y ∷ all) zero x e = cc
set_own (y ∷ all) (suc k) x e = ap (λ (ys : List _). y ∷ ys) (set_own all k x e)

-- nothing new is said
says_nothing : (u d defines : Bool) → (not u && (d || not defines)) ≡ true → (u ≡ false) × ((d || defines) ≡ d)
says_nothing true d defines h = let none : ⊥ = cc in absurd none
says_nothing false true defines h = (refl, refl)
says_nothing false false true h = let none : ⊥ = cc in absurd none
says_nothing false false false h = (refl, refl)

same : (o : ObjectEntry) (x : CType × Bool) (defines : Bool) → o.unknown_length ≡ false → (o.defined || defines) ≡ o.defined → declared_again o x defines ≡ o
same o x defines h e =
    ap₂ (λ (u : Bool) (d : Bool). record o { named = record o.named { type = if u then x.0 else o.named.type }; unknown_length = u && x.1; defined = d }) h e
    ∙ ap (λ (u : Bool). record o { unknown_length = u }) (sym h)

settled : (s : Scoped) (k : ℕ) (x : CType × Bool) (defines : Bool) (o : Option ObjectEntry) → object_at s k ≡ o → is_settled o defines ≡ true → s ≡ changed_object s k (λ o. declared_again o x defines)
settled s k x defines None h e =
    let f : ObjectEntry → ObjectEntry = λ o. declared_again o x defines in
    sym (ap (λ (p : Option ObjectEntry). record s { objects = changed_by s.objects k f p }) h)
settled s k x defines (Some o) h e =
    let says = says_nothing o.unknown_length o.defined defines e in
    let f : ObjectEntry → ObjectEntry = λ o. declared_again o x defines in
    sym (ap (λ (p : Option ObjectEntry). record s { objects = changed_by s.objects k f p }) h
    ∙ ap (λ (p : ObjectEntry). record s { objects = slice_set s.objects (k - 1) p }) (same o x defines says.0 says.1)
    ∙ ap (λ (all : List ObjectEntry). record s { objects = all }) (set_own s.objects (k - 1) o (object_get s k o h)))

pub object_again : (s : Scoped) (k : ℕ) (x : CType × Bool) (defines b : Bool) (o : Option ObjectEntry) → o ≡ object_at s k → b ≡ is_settled o defines → b ≡ true
    → s ≡ changed_object s k (λ o. declared_again o x defines)
object_again s k x defines b o h e t = settled s k x defines o (sym h) (sym e ∙ t)
