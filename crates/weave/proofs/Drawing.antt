-- The words drawn, as inputs.
use Rattle.std.proofs.Common.{◌≡◌, ℕ, Bool, true, false, cond, List, [], ◌∷◌, Option, refl, sym, ap, ◌∙◌, nat_eq}
use Rattle.std.specs.Option.{unwrap_or}
use Rattle.std.specs.Ordering.{nat_cmp}
use Rattle.std.specs.BTreeMap.{insert_entry}
use Rattle.std.proofs.lemmas.Bool.{eqb-true, eqb-false}
use Rattle.actions.proofs.Changes.{lookup-insert_apart}
use Rattle.interleave.specs.Inputs.{InputLists, words_of}
use Rattle.weave.specs.Candidate.{Candidate}
use Rattle.weave.specs.Order.{drawn, drawn_by, AreDrawn}
use Rattle.weave.specs.Words.{WordsAreInputs}
use Rattle.weave.proofs.Entries.{lookup-insert_here}

module _ {Id : Type 0} (c : Candidate Id) where
  inputs_of : List Id → InputLists
  inputs_of [] = []
  inputs_of (x ∷ xs) = insert_entry nat_cmp (inputs_of xs) (c.thread x) (drawn_by (c.next x) (c.own x) (drawn c (c.thread x) xs))

  drawn_here : (x : Id) (xs : List Id) (k : ℕ) (b : Bool) → nat_eq (c.thread x) k ≡ b → words_of (inputs_of xs) k ≡ drawn c k xs
      → words_of (insert_entry nat_cmp (inputs_of xs) (c.thread x) (drawn_by (c.next x) (c.own x) (drawn c (c.thread x) xs))) k ≡ cond b (drawn_by (c.next x) (c.own x) (drawn c k xs)) (drawn c k xs)
  drawn_here x xs k true e h =
      let q : c.thread x ≡ k = eqb-true (c.thread x) k e in
      ap (λ (j : ℕ). words_of (insert_entry nat_cmp (inputs_of xs) (c.thread x) (drawn_by (c.next x) (c.own x) (drawn c (c.thread x) xs))) j) (sym q)
      ∙ ap (λ (o : Option (List ℕ)). unwrap_or o []) (lookup-insert_here (c.thread x) (inputs_of xs) (drawn_by (c.next x) (c.own x) (drawn c (c.thread x) xs)))
      ∙ ap (λ (j : ℕ). drawn_by (c.next x) (c.own x) (drawn c j xs)) q
  drawn_here x xs k false e h =
      ap (λ (o : Option (List ℕ)). unwrap_or o []) (lookup-insert_apart k (c.thread x) (λ q. eqb-false (c.thread x) k e (sym q)) (inputs_of xs) (drawn_by (c.next x) (c.own x) (drawn c (c.thread x) xs))) ∙ h

  are_drawn : (es : List Id) → AreDrawn c (inputs_of es) es
  unfolding inputs_of
  are_drawn [] k = refl
  are_drawn (x ∷ xs) k = drawn_here x xs k (nat_eq (c.thread x) k) refl (are_drawn xs k)

pub words_are_inputs : (Id : Type 0) → WordsAreInputs Id
words_are_inputs Id = λ c es. (inputs_of c es, are_drawn c es)
