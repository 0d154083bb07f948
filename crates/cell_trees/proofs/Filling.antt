-- Cells of a tree that are replaced, half by half.
use Rattle.std.proofs.Common.{◌≡◌, ℕ, zero, suc, ◌+◌, ◌-◌, ◌<◌, ◌≤◌, true, false, List, [], ◌∷◌, nat_lt, length, Option, Some, None, inl, inr, refl, sym, ap, subst, ◌∙◌, arith}
use Rattle.std.specs.Prelude.{◌==◌, if◌then◌else◌, slice_get}
use Rattle.std.proofs.lemmas.Bool.{cases_lt}
use Rattle.std.proofs.lemmas.Bool.Decides.{nat_tests}
use Rattle.std.proofs.lemmas.Option.{slice_get_past}
use Rattle.word_dag.specs.declared.nodes.Id.{Id}
use Rattle.cell_trees.specs.declared.arena.Halves.{Halves}
use Rattle.cell_trees.specs.declared.arena.Root.{Root}
use Rattle.cell_trees.specs.declared.arena.Root.TheVariants.{Empty}
use Rattle.cell_trees.specs.Trees.{Arena, span, halves, leaf, There, IsTree, looked_at, Keeps, Replaced}
use Rattle.cell_trees.specs.inner.Filling.{Filled}
use Rattle.cell_trees.proofs.Levels.{if_true, if_false, is_same, differs, none_behind, none_set, halves_there}
use Rattle.cell_trees.proofs.Kept.{keeps_more}

-- ---- a tree that isn't halved further

pub filled_leaf : (fs gs : List Halves) (n : ℕ) (r s : Root) (at from count size : ℕ) (ids : List Id) → n ≡ 0 → size ≡ span n → 0 < count → at + count ≤ size → leaf s ≡ slice_get ids from → Filled (looked_at fs n r) at from count ids (looked_at gs n s)
filled_leaf fs gs zero r s at from count size ids n_is size_is some within is =
    let size_one : size ≡ 1 = size_is in
    let one : at + count ≤ 1 = omega (arith, within, size_one) in
    record {
      front = λ c lt. absurd (omega (arith, lt, one, some));
      here = λ k lt.
          let first : from ≡ from + k = omega (arith, lt, one) in
          if_true (at + k == 0) (leaf s) None (is_same (at + k) 0 (omega (arith, lt, one, some))) ∙ is ∙ ap (slice_get ids) first;
      behind = λ c le.
          let other = differs c 0 (λ e. omega (arith, le, some, e)) in
          if_false (c == 0) (leaf s) None other ∙ sym (if_false (c == 0) (leaf r) None other);
    }
filled_leaf fs gs (suc k) r s at from count size ids n_is size_is some within is = absurd (omega (arith, n_is))

-- a tree of which no cell is left
pub filled_none : (fs gs : List Halves) (n : ℕ) (r : Root) (at from count size : ℕ) (ids : List Id) → size ≡ span n → count ≡ size → at + count ≤ size → length ids ≤ from → Filled (looked_at fs n r) at from count ids (looked_at gs n Empty)
filled_none fs gs n r at from count size ids size_is all within past = record {
  front = λ c lt. absurd (omega (arith, lt, all, within));
  here = λ k lt. none_set gs n (at + k) ∙ sym (slice_get_past ids (from + k) (omega (arith, past)));
  behind = λ c le. none_set gs n c ∙ sym (none_behind fs n r c (omega (arith, le, all, size_is)));
}

-- ---- two halves

module _ (half : ℕ) where
  abbrev both : (ℕ → Option Id) → (ℕ → Option Id) → ℕ → Option Id
  both f g c = if nat_lt c half then f c else g (c - half)

  is_less : (c : ℕ) → c < half → nat_lt c half ≡ true
  is_less c h = grind (arith, nat_tests)

  is_more : (c : ℕ) → half ≤ c → nat_lt c half ≡ false
  is_more c h = grind (arith, nat_tests)

  in_lower : (f g : ℕ → Option Id) (c : ℕ) → c < half → both f g c ≡ f c
  in_lower f g c lt = if_true (nat_lt c half) (f c) (g (c - half)) (is_less c lt)

  in_upper : (f g : ℕ → Option Id) (c : ℕ) → half ≤ c → both f g c ≡ g (c - half)
  in_upper f g c le = if_false (nat_lt c half) (f c) (g (c - half)) (is_more c le)

  -- a cell that is as it was in its half
  same_at : (f g f' g' : ℕ → Option Id) (c : ℕ) → (c < half → f' c ≡ f c) → (half ≤ c → g' (c - half) ≡ g (c - half)) → both f' g' c ≡ both f g c
  same_at f g f' g' c low high =
      elim (cases_lt c half) [
        | inl lt ↦ in_lower f' g' c lt ∙ low lt ∙ sym (in_lower f g c lt)
        | inr le ↦ in_upper f' g' c le ∙ high le ∙ sym (in_upper f g c le)
      ]

  module _ (f g f' g' : ℕ → Option Id) (at from count : ℕ) (ids : List Id) where
    in_the_lower : at + count ≤ half → Filled f at from count ids f' → ((c : ℕ) → g' c ≡ g c) → Filled (both f g) at from count ids (both f' g')
    in_the_lower within one other = record {
      front = λ c lt. same_at f g f' g' c (λ low. one.front c lt) (λ high. other (c - half));
      here = λ k lt. in_lower f' g' (at + k) (omega (arith, within, lt)) ∙ one.here k lt;
      behind = λ c le. same_at f g f' g' c (λ low. one.behind c le) (λ high. other (c - half));
    }

    in_the_upper : half ≤ at → Filled g (at - half) from count ids g' → ((c : ℕ) → f' c ≡ f c) → Filled (both f g) at from count ids (both f' g')
    in_the_upper behind two other = record {
      front = λ c lt. same_at f g f' g' c (λ low. other c) (λ high. two.front (c - half) (omega (arith, lt, high)));
      here = λ k lt.
          let at_is : at + k - half ≡ (at - half) + k = omega (arith, behind) in
          in_upper f' g' (at + k) (omega (arith, behind)) ∙ ap g' at_is ∙ two.here k lt;
      behind = λ c le. same_at f g f' g' c (λ low. other c) (λ high. two.behind (c - half) (omega (arith, le, behind)));
    }

    in_both : (front : ℕ) → front ≡ half - at → at < half → half < at + count → Filled f at from front ids f' → Filled g 0 (from + front) (count - front) ids g' → Filled (both f g) at from count ids (both f' g')
    in_both front front_is begins ends one two = record {
      front = λ c lt. same_at f g f' g' c (λ low. one.front c lt) (λ high. absurd (omega (arith, lt, high, begins)));
      here = λ k lt.
          elim (cases_lt k front) [
            | inl low ↦ in_lower f' g' (at + k) (omega (arith, low, front_is)) ∙ one.here k low
            | inr high ↦ (let at_is : at + k - half ≡ 0 + (k - front) = omega (arith, high, front_is, begins) in
                let place : from + front + (k - front) ≡ from + k = omega (arith, high) in
                in_upper f' g' (at + k) (omega (arith, high, front_is)) ∙ ap g' at_is ∙ two.here (k - front) (omega (arith, lt, high)) ∙ ap (slice_get ids) place)
          ];
      behind = λ c le. same_at f g f' g' c (λ low. absurd (omega (arith, le, low, ends))) (λ high. two.behind (c - half) (omega (arith, le, high, front_is, begins)));
    }

-- ---- trees of two halves

pub filled_same : (f g h : ℕ → Option Id) (at from count : ℕ) (ids : List Id) → ((c : ℕ) → h c ≡ g c) → Filled f at from count ids g → Filled f at from count ids h
filled_same f g h at from count ids same so = record {
  front = λ c lt. same c ∙ so.front c lt;
  here = λ k lt. same (at + k) ∙ so.here k lt;
  behind = λ c le. same c ∙ so.behind c le;
}

-- what was and what is, by other names
filled_moved : (f f' g g' : ℕ → Option Id) (at from count : ℕ) (ids : List Id) → ((c : ℕ) → f c ≡ f' c) → ((c : ℕ) → g' c ≡ g c) → Filled f at from count ids g → Filled f' at from count ids g'
filled_moved f f' g g' at from count ids was is so = record {
  front = λ c lt. is c ∙ so.front c lt ∙ was c;
  here = λ k lt. is (at + k) ∙ so.here k lt;
  behind = λ c le. is c ∙ so.behind c le ∙ was c;
}

module _ (t w : Arena) (n m half : ℕ) (root lower upper result : Root) (at from count : ℕ) (ids : List Id)
    (some : 0 < n) (m_is : m ≡ n - 1) (half_is : half ≡ span m) (there : There w.forks result) (is : halves w.forks result ≡ record { lower = lower; upper = upper }) where
  level : n ≡ suc m
  level = omega (arith, some, m_is)

  pub forked_tree : IsTree w.forks m lower → IsTree w.forks m upper → IsTree w.forks n result
  forked_tree l u = subst (λ k. IsTree w.forks k result) (sym level) (there, subst (λ (p : Halves). IsTree w.forks m p.lower) (sym is) l, subst (λ (p : Halves). IsTree w.forks m p.upper) (sym is) u)

  abbrev f : ℕ → Option Id
  f c = looked_at t.forks m (halves t.forks root).lower c

  abbrev g : ℕ → Option Id
  g c = looked_at t.forks m (halves t.forks root).upper c

  abbrev f' : ℕ → Option Id
  f' c = looked_at w.forks m lower c

  abbrev g' : ℕ → Option Id
  g' c = looked_at w.forks m upper c

  whole : (c : ℕ) → looked_at w.forks (suc m) result c ≡ both (span m) f' g' c
  whole c = ap (λ (p : Halves). if nat_lt c (span m) then looked_at w.forks m p.lower c else looked_at w.forks m p.upper (c - span m)) is

  by_halves : Filled (both (span m) f g) at from count ids (both (span m) f' g') → Filled (looked_at t.forks n root) at from count ids (looked_at w.forks n result)
  by_halves so = subst (λ k. Filled (looked_at t.forks k root) at from count ids (looked_at w.forks k result)) (sym level) (filled_same (both (span m) f g) (both (span m) f' g') (looked_at w.forks (suc m) result) at from count ids whole so)

  pub filled_lower : at + count ≤ half → Filled f at from count ids f' → ((c : ℕ) → g' c ≡ g c) → Filled (looked_at t.forks n root) at from count ids (looked_at w.forks n result)
  filled_lower within one other = by_halves (in_the_lower (span m) f g f' g' at from count ids (omega (arith, within, half_is)) one other)

  pub filled_upper : half ≤ at → Filled g (at - half) from count ids g' → ((c : ℕ) → f' c ≡ f c) → Filled (looked_at t.forks n root) at from count ids (looked_at w.forks n result)
  filled_upper behind two other = by_halves (in_the_upper (span m) f g f' g' at from count ids (omega (arith, behind, half_is)) (subst (λ h. Filled g (at - h) from count ids g') half_is two) other)

  pub filled_both : (front : ℕ) → front ≡ half - at → at < half → half < at + count → Filled f at from front ids f' → Filled g 0 (from + front) (count - front) ids g' → Filled (looked_at t.forks n root) at from count ids (looked_at w.forks n result)
  filled_both front front_is begins ends one two =
      by_halves (in_both (span m) f g f' g' at from count ids front (omega (arith, front_is, half_is)) (omega (arith, begins, half_is)) (omega (arith, ends, half_is)) one two)

-- ---- as the code changes one half, or both

abbrev Done : Arena → Arena → ℕ → Root → Root → ℕ → ℕ → ℕ → List Id → Type 0
Done t w n root result at from count ids = IsTree w.forks n result × Filled (looked_at t.forks n root) at from count ids (looked_at w.forks n result)

module _ (t w : Arena) (n half : ℕ) (root result : Root) (hs : Halves) (at from count : ℕ) (ids : List Id)
    (some : 0 < n) (half_is : half ≡ span (n - 1)) (tree : IsTree t.forks n root) (hs_is : hs ≡ halves t.forks root) (there : There w.forks result) where
  abbrev m : ℕ
  m = n - 1

  trees : IsTree t.forks m hs.lower × IsTree t.forks m hs.upper
  trees = subst (λ (p : Halves). IsTree t.forks m p.lower × IsTree t.forks m p.upper) (sym hs_is) (halves_there t.forks n root some tree)

  was_lower : (c : ℕ) → looked_at t.forks m hs.lower c ≡ looked_at t.forks m (halves t.forks root).lower c
  was_lower c = ap (λ (p : Halves). looked_at t.forks m p.lower c) hs_is

  was_upper : (c : ℕ) → looked_at t.forks m hs.upper c ≡ looked_at t.forks m (halves t.forks root).upper c
  was_upper c = ap (λ (p : Halves). looked_at t.forks m p.upper c) hs_is

  pub lower_done : (u : Arena) (lower : Root) → Keeps t u → Keeps u w → IsTree u.forks m lower → Filled (looked_at t.forks m hs.lower) at from count ids (looked_at u.forks m lower) → halves w.forks result ≡ record { lower = lower; upper = hs.upper } → at + count ≤ half
      → Done t w n root result at from count ids
  lower_done u lower x y l so is within =
      let k = keeps_more t u w x y in (
        forked_tree t w n m half root lower hs.upper result at from count ids some refl half_is there is (y.trees m lower l) (k.trees m hs.upper trees.1),
        filled_lower t w n m half root lower hs.upper result at from count ids some refl half_is there is within
            (filled_moved (looked_at t.forks m hs.lower) (looked_at t.forks m (halves t.forks root).lower) (looked_at u.forks m lower) (looked_at w.forks m lower) at from count ids was_lower (λ c. y.cells m lower c l) so)
            (λ c. k.cells m hs.upper c trees.1 ∙ was_upper c),
      )

  pub upper_done : (u : Arena) (upper : Root) → Keeps t u → Keeps u w → IsTree u.forks m upper → Filled (looked_at t.forks m hs.upper) (at - half) from count ids (looked_at u.forks m upper) → halves w.forks result ≡ record { lower = hs.lower; upper = upper } → half ≤ at
      → Done t w n root result at from count ids
  upper_done u upper x y up so is behind =
      let k = keeps_more t u w x y in (
        forked_tree t w n m half root hs.lower upper result at from count ids some refl half_is there is (k.trees m hs.lower trees.0) (y.trees m upper up),
        filled_upper t w n m half root hs.lower upper result at from count ids some refl half_is there is behind
            (filled_moved (looked_at t.forks m hs.upper) (looked_at t.forks m (halves t.forks root).upper) (looked_at u.forks m upper) (looked_at w.forks m upper) (at - half) from count ids was_upper (λ c. y.cells m upper c up) so)
            (λ c. k.cells m hs.lower c trees.0 ∙ was_lower c),
      )

  pub both_done : (u u' : Arena) (lower upper : Root) (front : ℕ) → Keeps t u → Keeps u u' → Keeps u' w → IsTree u.forks m lower → IsTree u'.forks m upper → front ≡ half - at → Filled (looked_at t.forks m hs.lower) at from front ids (looked_at u.forks m lower)
      → Filled (looked_at u.forks m hs.upper) 0 (from + front) (count - front) ids (looked_at u'.forks m upper) → halves w.forks result ≡ record { lower = lower; upper = upper } → at < half → half < at + count → Done t w n root result at from count ids
  both_done u u' lower upper front x y z l up front_is one two is begins ends =
      let k = keeps_more u u' w y z in (
        forked_tree t w n m half root lower upper result at from count ids some refl half_is there is (k.trees m lower l) (z.trees m upper up),
        filled_both t w n m half root lower upper result at from count ids some refl half_is there is front front_is begins ends
            (filled_moved (looked_at t.forks m hs.lower) (looked_at t.forks m (halves t.forks root).lower) (looked_at u.forks m lower) (looked_at w.forks m lower) at from front ids was_lower (λ c. k.cells m lower c l) one)
            (filled_moved (looked_at u.forks m hs.upper) (looked_at t.forks m (halves t.forks root).upper) (looked_at u'.forks m upper) (looked_at w.forks m upper) 0 (from + front) (count - front) ids (λ c. x.cells m hs.upper c trees.1 ∙ was_upper c) (λ c. z.cells m upper c up) two),
      )

pub upper_tree : (t u : Arena) (n : ℕ) (root : Root) (hs : Halves) → 0 < n → IsTree t.forks n root → hs ≡ halves t.forks root → Keeps t u → IsTree u.forks (n - 1) hs.upper
upper_tree t u n root hs some tree hs_is x = x.trees (n - 1) hs.upper (subst (λ (p : Halves). IsTree t.forks (n - 1) p.upper) (sym hs_is) (halves_there t.forks n root some tree).1)

-- ---- as callers see it

pub nothing_replaced : (f : ℕ → Option Id) (at count : ℕ) (ids : List Id) → count ≡ 0 → Replaced f at count ids f
nothing_replaced f at count ids none = record { front = λ c lt. refl; here = λ k lt. absurd (omega (arith, lt, none)); behind = λ c le. refl }

pub all_replaced : (f g : ℕ → Option Id) (at count : ℕ) (ids : List Id) → Filled f at 0 count ids g → Replaced f at count ids g
all_replaced f g at count ids so = record {
  front = so.front;
  here = λ k lt. (let same : 0 + k ≡ k = omega arith in so.here k lt ∙ ap (slice_get ids) same);
  behind = so.behind;
}

-- one cell
changed_cell : (f g : ℕ → Option Id) (cell : ℕ) (ids : List Id) (x : Option Id) → slice_get ids 0 ≡ x → Replaced f cell 1 ids g → (c : ℕ) → g c ≡ (if cell == c then x else f c)
changed_cell f g cell ids x is so c =
    elim (cases_lt c cell) [
      | inl front ↦ so.front c front ∙ sym (if_false (cell == c) x (f c) (differs cell c (λ e. omega (arith, e, front))))
      | inr le ↦ elim (cases_lt cell c) [
        | inl behind ↦ so.behind c (omega (arith, behind)) ∙ sym (if_false (cell == c) x (f c) (differs cell c (λ e. omega (arith, e, behind))))
        | inr le' ↦ (let same : c ≡ cell + 0 = omega (arith, le, le') in
            ap g same ∙ so.here 0 (omega arith) ∙ is ∙ sym (if_true (cell == c) x (f c) (is_same cell c (omega (arith, le, le')))))
      ]
    ]

pub one_replaced : (f g : ℕ → Option Id) (cell : ℕ) (id : Id) (ids : List Id) → ids ≡ id ∷ [] → Replaced f cell 1 ids g → (c : ℕ) → g c ≡ (if cell == c then Some id else f c)
one_replaced f g cell id ids is so = changed_cell f g cell ids (Some id) (ap (λ xs. slice_get xs 0) is) so

pub none_replaced : (f g : ℕ → Option Id) (cell : ℕ) (ids : List Id) → ids ≡ [] → Replaced f cell 1 ids g → (c : ℕ) → g c ≡ (if cell == c then None else f c)
none_replaced f g cell ids is so = changed_cell f g cell ids None (ap (λ xs. slice_get xs 0) is) so
