-- Entries of a map with each value seen through a function, and writes at a key that isn't there.
use Rattle.std.proofs.Common.{◌≡◌, Bool, true, false, cond, List, [], ◌∷◌, map, Option, Some, None, refl, sym, ap, ◌∙◌}
use Rattle.std.specs.Prelude.{option_map}
use Rattle.std.specs.Ordering.{match_ordering}
use Rattle.std.specs.declared.cmp.Ordering.{Ordering}
use Rattle.std.specs.declared.cmp.Ordering.TheVariants.{Less, Equal, Greater}
use Rattle.std.specs.Map.{lookup, set_value}
use Rattle.std.specs.BTreeMap.{insert_entry}
use Rattle.std.proofs.lemmas.Bool.{cond-false}
use Rattle.std.proofs.lemmas.Map.{NonePasses, none_passes_from_lookup}

module _ {K X : Type 0} (test : K → Bool) where
  none_set : (es : List (K × X)) (w : X) → NonePasses test es → set_value test es w ≡ es
  none_set [] w h = refl
  none_set (e ∷ es) w h = cond-false (test e.0) _ _ h.0 ∙ ap (λ l. e ∷ l) (none_set es w h.1)

  pub set_value_absent : (es : List (K × X)) (w : X) → lookup test es ≡ None → set_value test es w ≡ es
  set_value_absent es w h = none_set es w (none_passes_from_lookup test es h)

map_by : {X Y : Type 0} (f : X → Y) (b : Bool) (x : X) (o : Option X) → option_map f (cond b (Some x) o) ≡ cond b (Some (f x)) (option_map f o)
map_by f true x o = refl
map_by f false x o = refl

module _ {K X Y : Type 0} (f : X → Y) where
  abbrev pub seen : List (K × X) → List (K × Y)
  seen es = map (λ (e : K × X). (e.0, f e.1)) es

  set_by : (b : Bool) (e : K × X) (es rest : List (K × X)) (w : X) → seen (cond b ((e.0, w) ∷ es) (e ∷ rest)) ≡ cond b ((e.0, f w) ∷ seen es) ((e.0, f e.1) ∷ seen rest)
  set_by true e es rest w = refl
  set_by false e es rest w = refl

  pub seen-set_value : (test : K → Bool) (es : List (K × X)) (w : X) → seen (set_value test es w) ≡ set_value test (seen es) (f w)
  seen-set_value test [] w = refl
  seen-set_value test (e ∷ es) w =
      set_by (test e.0) e es (set_value test es w) w ∙ ap (λ l. cond (test e.0) ((e.0, f w) ∷ seen es) ((e.0, f e.1) ∷ l)) (seen-set_value test es w)

  insert_by : (o : Ordering) (k : K) (e : K × X) (es rest : List (K × X)) (w : X)
      → seen (match_ordering o ((k, w) ∷ e ∷ es) ((e.0, w) ∷ es) (e ∷ rest)) ≡ match_ordering o ((k, f w) ∷ (e.0, f e.1) ∷ seen es) ((e.0, f w) ∷ seen es) ((e.0, f e.1) ∷ seen rest)
  insert_by Less k e es rest w = refl
  insert_by Equal k e es rest w = refl
  insert_by Greater k e es rest w = refl

  pub seen-insert_entry : (cmp : K → K → Ordering) (es : List (K × X)) (k : K) (w : X) → seen (insert_entry cmp es k w) ≡ insert_entry cmp (seen es) k (f w)
  seen-insert_entry cmp [] k w = refl
  seen-insert_entry cmp (e ∷ es) k w =
      insert_by (cmp k e.0) k e es (insert_entry cmp es k w) w
      ∙ ap (λ l. match_ordering (cmp k e.0) ((k, f w) ∷ (e.0, f e.1) ∷ seen es) ((e.0, f w) ∷ seen es) ((e.0, f e.1) ∷ l)) (seen-insert_entry cmp es k w)

  pub lookup-seen : (test : K → Bool) (es : List (K × X)) → lookup test (seen es) ≡ option_map f (lookup test es)
  lookup-seen test [] = refl
  lookup-seen test (e ∷ es) = ap (λ o. cond (test e.0) (Some (f e.1)) o) (lookup-seen test es) ∙ sym (map_by f (test e.0) e.1 (lookup test es))
