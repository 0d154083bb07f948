-- What stands in the lists of watches after a write.
use Rattle.std.proofs.Common.{◌≡◌, ℕ, ◌<◌, List, [], Vec, Global, length, get_or, set, map, sym, ap, ◌∙◌, arith}
use Rattle.std.proofs.lemmas.List.{map-set, get_or-map, length-map}
use Rattle.cdcl_core.specs.declared.lists.Watch.{Watch}

abbrev pub items_of : Vec Watch Global → List Watch
items_of v = v.items

-- the lists that are seen where one was written
pub seen_written :
    (vs : List (Vec Watch Global)) (now : List (List Watch)) (i j : ℕ) (v old : Vec Watch Global) (h : List Watch → List Watch) →
    map items_of vs ≡ now → i ≡ j → j < length now → old ≡ get_or vs i old → v.items ≡ h old.items →
    map items_of (set vs i v) ≡ set now j (h (get_or now j []))
seen_written vs now i j v old h is here within read written =
    let inside : i < length vs = omega (arith, ap length is, length-map vs items_of) in
    let same : get_or now i [] ≡ old.items =
    ap (λ (x : List (List Watch)). get_or x i []) (sym is) ∙ get_or-map items_of vs i old [] inside ∙ ap items_of (sym read) in
    map-set items_of vs i v
    ∙ ap (λ (x : List (List Watch)). set x i v.items) is
    ∙ ap (set now i) (written ∙ ap h (sym same))
    ∙ ap (λ k. set now k (h (get_or now k []))) here
