-- Spots numbered in turn.
use Rattle.std.proofs.Common.{◌≡◌, ◌∙◌, ◌<◌, ◌+◌, ℕ, List, [], ◌∷◌, ◌++◌, take, length, get_or, refl, sym, ap, subst, append_assoc}
use Rattle.std.proofs.lemmas.List.{take_more}
use Rattle.properties.specs.declared.spots.Spot.{Spot}
use Rattle.report.specs.Properties.{Told}
use Rattle.properties.specs.Properties.{told, after, told_in}

-- how many loops stand before what follows
abbrev pub counted : ℕ → List Spot → ℕ
counted loops [] = loops
counted loops (s ∷ ss) = counted (after loops s) ss

counted_push : (loops : ℕ) (ss : List Spot) (s : Spot) → counted loops (ss ++ s ∷ []) ≡ after (counted loops ss) s
counted_push loops [] s = refl
counted_push loops (x ∷ ss) s = counted_push (after loops x) ss s

told_push : (name : List ℕ) (loops : ℕ) (ss : List Spot) (s : Spot) → told_in name loops (ss ++ s ∷ []) ≡ told_in name loops ss ++ told name (counted loops ss) s ∷ []
told_push name loops [] s = refl
told_push name loops (x ∷ ss) s = ap (λ (ts : List Told). told name loops x ∷ ts) (told_push name (after loops x) ss s)

pub record Listed (name : List ℕ) (old now : List Told) (loops : ℕ) (ss : List Spot) : Type 0 where
  pub listed : now ≡ old ++ told_in name 0 ss
  pub count : loops ≡ counted 0 ss

pub one_spot : (name : List ℕ) (old now next : List Told) (loops more : ℕ) (ss : List Spot) (i : ℕ) (d : Spot) → i < length ss → Listed name old now loops (take i ss)
    → next ≡ now ++ told name loops (get_or ss i d) ∷ [] → more ≡ after loops (get_or ss i d) → Listed name old next more (take (i + 1) ss)
one_spot name old now next loops more ss i d within was listed count =
    let s = get_or ss i d in
    let step : Listed name old next more (take i ss ++ s ∷ []) = record {
      listed = listed ∙ ap (λ (ts : List Told). ts ++ told name loops s ∷ []) was.listed ∙ append_assoc old (told_in name 0 (take i ss)) (told name loops s ∷ [])
          ∙ ap (λ (n : ℕ). old ++ (told_in name 0 (take i ss) ++ told name n s ∷ [])) was.count ∙ ap (λ (ts : List Told). old ++ ts) (sym (told_push name 0 (take i ss) s));
      count = count ∙ ap (λ (n : ℕ). after n s) was.count ∙ sym (counted_push 0 (take i ss) s);
    } in
    subst (λ (xs : List Spot). Listed name old next more xs) (sym (take_more ss i d within)) step
