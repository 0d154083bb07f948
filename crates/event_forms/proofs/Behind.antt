-- The store behind what events tell, one after the other.
use Rattle.std.proofs.Common.{◌≡◌, ◌<◌, ◌+◌, ℕ, List, [], ◌∷◌, ◌++◌, length, get_or, take, refl, sym, ◌∙◌, ap, append_assoc, append-nil}
use Rattle.std.proofs.lemmas.List.{take_more}
use Rattle.word_dag.specs.declared.nodes.Node.{Node}
use Rattle.actions.specs.Objects.{Objects}
use Rattle.event_forms.specs.declared.forms.Event.{Event}
use Rattle.event_forms.specs.Arrivals.{Seen, asked, stopped}
use Rattle.event_forms.specs.Forms.{event_seen, seen}
use Rattle.event_forms.specs.Accesses.{stored_by, behind}

pub behind_append : (objects : Objects) (xs ys : List Seen) → behind objects (xs ++ ys) ≡ behind (behind objects xs) ys
behind_append objects [] ys = refl
behind_append objects (asked action line f a ∷ xs) ys = behind_append (stored_by objects action a) xs ys
behind_append objects (stopped end ∷ xs) ys = behind_append objects xs ys

pub seen_append : (v : ℕ → ℕ) (d : List Node) (xs ys : List Event) → seen v d (xs ++ ys) ≡ seen v d xs ++ seen v d ys
seen_append v d [] ys = refl
seen_append v d (x ∷ xs) ys = ap (λ told. event_seen v d x ++ told) (seen_append v d xs ys) ∙ sym (append_assoc (event_seen v d x) (seen v d xs) (seen v d ys))

-- the store that is there where so many events were told
abbrev pub store_at : Objects → List Node → List Event → ℕ → (ℕ → ℕ) → Objects
store_at objects d es at v = behind objects (seen v d (take at es))

pub store_next : (objects : Objects) (v : ℕ → ℕ) (d : List Node) (es : List Event) (at : ℕ) (ev : Event) → at < length es → ev ≡ get_or es at ev → store_at objects d es (at + 1) v ≡ behind (store_at objects d es at v) (event_seen v d ev)
store_next objects v d es at ev lt is =
    let one : seen v d (ev ∷ []) ≡ event_seen v d ev = append-nil (event_seen v d ev) in
    (λ k. behind objects (seen v d (take_more es at ev lt k)))
    ∙ (λ k. behind objects (seen v d (take at es ++ sym is k ∷ [])))
    ∙ (λ k. behind objects (seen_append v d (take at es) (ev ∷ []) k))
    ∙ behind_append objects (seen v d (take at es)) (seen v d (ev ∷ []))
    ∙ (λ k. behind (store_at objects d es at v) (one k))
