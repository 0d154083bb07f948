-- Where a search goes back to, and what holds there.
use Rattle.std.proofs.Common.{◌≡◌, ◌≢◌, ℕ, ◌+◌, ◌<◌, ◌≤◌, inl, inr, false, List, [], ◌∷◌, ◌++◌, length, get_or, take, Some, None, refl, sym, ap, ◌∙◌, subst, arith}
use Rattle.std.specs.Prelude.{Contains}
use Rattle.std.proofs.lemmas.Bool.{cases_lt}
use Rattle.std.proofs.lemmas.List.{get_or_default, get_or-take, length-take-le, length-append}
use Rattle.std.proofs.Math.Seq.{get_or-append_seam}
use Rattle.sat_form.specs.Satisfaction.{Literal}
use Rattle.cdcl_core.specs.declared.trail.Step.{Step}
use Rattle.cdcl_core.specs.Steps.{known_truth, oldest, decision_places, AreFresh}
use Rattle.cdcl_core.specs.Learning.{IsLearned}
use Rattle.cdcl_core.specs.Watched.{AreFalseBeside, AreOpen}
use Rattle.cdcl_core.specs.Jumps.{IsNewest, IsFirstFrom}
use Rattle.cdcl_core.proofs.Watching.{known_truth-between, oldest-oldest}
use Rattle.cdcl_core.proofs.Settling.{at_most_last, places-cut}

-- one more literal of a clause: the steps that make it false, and those that make the others false
pub others_more :
    (n : ℕ) (steps : List Step) (items : List Literal) (i : ℕ) (item l : Literal) (kept height next : ℕ) → AreFresh n steps → kept ≤ next → height ≤ next →
    i < length items → item ≡ get_or items i item → (item ≢ l → known_truth (oldest height steps) item ≡ Some false) →
    ((k : ℕ) (m : Literal) → k < i → get_or items k m ≡ m → m ≢ l → known_truth (oldest kept steps) m ≡ Some false) →
    (k : ℕ) (m : Literal) → k < i + 1 → get_or items k m ≡ m → m ≢ l → known_truth (oldest next steps) m ≡ Some false
others_more n steps items i item l kept height next fresh first second within read here before k m less is other =
    elim (cases_lt k i) [
      | inl earlier ↦ known_truth-between n kept next steps m false fresh first (before k m earlier is other)
      | inr last ↦
          let place : k ≡ i = omega arith in
          let same : item ≡ m = read ∙ get_or_default items i item m within ∙ ap (λ j. get_or items j m) (sym place) ∙ is in
          subst (λ (x : Literal). known_truth (oldest next steps) x ≡ Some false) same
          (known_truth-between n height next steps item false fresh second (here (λ e. other (sym same ∙ e))))
    ]

-- what is known of the decision before which a search goes back
pub record IsJump (n : ℕ) (cs : List (List Literal)) (steps : List Step) (places : List ℕ) (c : List Literal) (l : Literal) (hints : List ℕ) (beside : Literal) (kept : ℕ) : Type 0 where
  pub fresh : AreFresh n steps
  pub places_are : places ≡ decision_places steps
  pub learned : IsLearned n cs steps c l hints
  pub newest : IsNewest steps c l beside kept

kept_most : (n : ℕ) (cs : List (List Literal)) (steps : List Step) (places : List ℕ) (c : List Literal) (l : Literal) (hints : List ℕ) (beside : Literal) (kept : ℕ) →
    (j : IsJump n cs steps places c l hints beside kept) → kept ≤ j.learned.newest
kept_most n cs steps places c l hints beside kept j =
    elim (cases_lt j.learned.newest kept) [
      | inl less ↦
          let other : beside ≢ l = j.newest.apart j.learned.newest less in
          absurd (j.newest.open_ j.learned.newest less (j.learned.others beside (j.newest.stands other) other))
      | inr most ↦ most
    ]

pub place_from : (n : ℕ) (cs : List (List Literal)) (steps : List Step) (places : List ℕ) (c : List Literal) (l : Literal) (hints : List ℕ) (beside : Literal) (kept : ℕ) →
    IsJump n cs steps places c l hints beside kept → (k : ℕ) × (k < length places) × (kept ≤ get_or places k 0)
place_from n cs steps places c l hints beside kept j =
    let front : List ℕ = j.learned.last.0 in
    let q : ℕ = j.learned.newest in
    let is : places ≡ front ++ q ∷ [] = j.places_are ∙ j.learned.last.1 in
    let here : get_or places (length front) 0 ≡ q = ap (λ ns. get_or ns (length front) 0) is ∙ get_or-append_seam front q [] 0 in (
      length front,
      omega (arith, ap length is, length-append front (q ∷ [])),
      omega (arith, here, kept_most n cs steps places c l hints beside kept j),
    )

pub place_stands : (n : ℕ) (cs : List (List Literal)) (steps : List Step) (places : List ℕ) (c : List Literal) (l : Literal) (hints : List ℕ) (beside : Literal) (kept index : ℕ) →
    IsJump n cs steps places c l hints beside kept → IsFirstFrom places kept index → Contains (decision_places steps) (get_or places index 0)
place_stands n cs steps places c l hints beside kept index j first =
    subst (λ ns. Contains ns (get_or places index 0)) j.places_are (index, first.within, get_or_default places index (get_or places index 0) 0 first.within)

open_before : (n k q : ℕ) (steps : List Step) (l : Literal) → AreFresh n steps → k ≤ q → known_truth (oldest q steps) l ≡ None → known_truth (oldest k steps) l ≡ None
open_before n k q steps l fresh less none =
    elim (known_truth (oldest k steps) l) as (λ o. known_truth (oldest k steps) l ≡ o → known_truth (oldest k steps) l ≡ None) [
      | None ↦ λ is. is
      | Some b ↦ λ is. let both : Some b ≡ None = sym (known_truth-between n k q steps l b fresh less is) ∙ none in cc
    ] refl

-- the literal has no value there
pub jump_open : (n : ℕ) (cs : List (List Literal)) (steps : List Step) (places : List ℕ) (c : List Literal) (l : Literal) (hints : List ℕ) (beside : Literal) (kept index : ℕ) →
    IsJump n cs steps places c l hints beside kept → IsFirstFrom places kept index → known_truth (oldest (get_or places index 0) steps) l ≡ None
jump_open n cs steps places c l hints beside kept index j first =
    open_before n (get_or places index 0) j.learned.newest steps l j.fresh
    (at_most_last steps j.learned.newest (get_or places index 0) j.learned.last (place_stands n cs steps places c l hints beside kept index j first)) j.learned.open_

-- each other one is false
pub jump_others : (n : ℕ) (cs : List (List Literal)) (steps : List Step) (places : List ℕ) (c : List Literal) (l : Literal) (hints : List ℕ) (beside : Literal) (kept index : ℕ) →
    IsJump n cs steps places c l hints beside kept → IsFirstFrom places kept index → AreFalseBeside (oldest (get_or places index 0) steps) c l
jump_others n cs steps places c l hints beside kept index j first = λ m at other.
    known_truth-between n kept (get_or places index 0) steps m false j.fresh first.from (j.newest.others m at other)

-- before each older decision the two watched literals are open
pub jump_quiet : (n : ℕ) (cs : List (List Literal)) (steps : List Step) (places : List ℕ) (c : List Literal) (l : Literal) (hints : List ℕ) (beside : Literal) (kept index start : ℕ) →
    IsJump n cs steps places c l hints beside kept → IsFirstFrom places kept index →
    (d : ℕ) → Contains (decision_places (oldest (get_or places index 0) steps)) d → AreOpen (oldest d (oldest (get_or places index 0) steps)) c (record { first = l; second = beside; start = start })
jump_quiet n cs steps places c l hints beside kept index start j first d at =
    let count : ℕ = get_or places index 0 in
    let inside : index < length (decision_places steps) = subst (λ ns. index < length ns) j.places_are first.within in
    let same : decision_places (oldest count steps) ≡ take index places =
    ap (λ ns. decision_places (oldest (get_or ns index 0) steps)) j.places_are ∙ places-cut steps index inside ∙ ap (take index) (sym j.places_are) in
    let front : Contains (take index places) d = subst (λ ns. Contains ns d) same at in
    let early : front.0 < index = omega (arith, front.1, length-take-le index places (omega (arith, first.within))) in
    let read : get_or places front.0 0 ≡ d =
    get_or_default places front.0 0 d (omega (arith, early, first.within)) ∙ sym (get_or-take index places front.0 d early) ∙ front.2 in
    let less : d < kept = omega (arith, first.before front.0 early, read) in
    let most : d ≤ j.learned.newest = omega (arith, less, kept_most n cs steps places c l hints beside kept j) in
    let other : beside ≢ l = j.newest.apart d less in
    let none : known_truth (oldest d steps) l ≡ None = open_before n d j.learned.newest steps l j.fresh most j.learned.open_ in
    subst (λ (x : List Step). AreOpen x c (record { first = l; second = beside; start = start })) (sym (oldest-oldest d count steps (omega (arith, less, first.from))))
    (record {
      apart = λ e. other (sym e);
      first = j.learned.stands;
      second = j.newest.stands other;
      first_open = λ is. let both : None ≡ Some false = sym none ∙ is in cc;
      second_open = j.newest.open_ d less;
    })
