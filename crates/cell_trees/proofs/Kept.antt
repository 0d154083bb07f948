-- A list of trees that grows keeps its trees.
use Rattle.std.proofs.Common.{◌≡◌, ℕ, zero, suc, ◌-◌, ◌<◌, List, [], ◌∷◌, ◌++◌, nat_lt, refl, sym, ap, subst, ◌∙◌, arith, length}
use Rattle.std.specs.Prelude.{if◌then◌else◌}
use Rattle.std.proofs.lemmas.List.{get_or_append_left, length_push}
use Rattle.cell_trees.specs.declared.arena.Halves.{Halves}
use Rattle.cell_trees.specs.declared.arena.Root.{Root}
use Rattle.cell_trees.specs.declared.arena.Root.TheVariants.{Empty, Leaf, Fork}
use Rattle.cell_trees.specs.Trees.{Arena, span, none, halves, There, IsTree, IsRoot, looked_at, looked, Keeps}

module _ (fs : List Halves) (h : Halves) where
  abbrev more : List Halves
  more = fs ++ h ∷ []

  halves_stay : (r : Root) → There fs r → halves more r ≡ halves fs r
  halves_stay Empty there = refl
  halves_stay (Leaf place) there = refl
  halves_stay (Fork place) there = get_or_append_left fs (h ∷ []) none place there

  there_stays : (r : Root) → There fs r → There more r
  there_stays Empty there = tt
  there_stays (Leaf place) there = tt
  there_stays (Fork place) there = let here : place < length more = omega (arith, there, length_push fs h) in here

  tree_stays : (k : ℕ) (r : Root) → IsTree fs k r → IsTree more k r
  tree_stays zero r tree = tt
  tree_stays (suc k) r tree =
      let same = sym (halves_stay r tree.0) in
      (there_stays r tree.0, subst (λ (p : Halves). IsTree more k p.lower) same (tree_stays k (halves fs r).lower tree.1), subst (λ (p : Halves). IsTree more k p.upper) same (tree_stays k (halves fs r).upper tree.2))

  cells_stay : (k : ℕ) (r : Root) (c : ℕ) → IsTree fs k r → looked_at more k r c ≡ looked_at fs k r c
  cells_stay zero r c tree = refl
  cells_stay (suc k) r c tree =
      let same = halves_stay r tree.0 in
      let a = ap (λ (p : Halves). looked_at more k p.lower c) same ∙ cells_stay k (halves fs r).lower c tree.1 in
      let b = ap (λ (p : Halves). looked_at more k p.upper (c - span k)) same ∙ cells_stay k (halves fs r).upper (c - span k) tree.2 in
      λ i. if nat_lt c (span k) then a i else b i

pub keeps_itself : (t : Arena) → Keeps t t
keeps_itself t = record { depth = refl; trees = λ k r tree. tree; cells = λ k r c tree. refl }

pub keeps_more : (t u w : Arena) → Keeps t u → Keeps u w → Keeps t w
keeps_more t u w x y = record {
  depth = y.depth ∙ x.depth;
  trees = λ k r tree. y.trees k r (x.trees k r tree);
  cells = λ k r c tree. y.cells k r c (x.trees k r tree) ∙ x.cells k r c tree;
}

pub keeps_pushed : (t u : Arena) (h : Halves) → u.depth ≡ t.depth → u.forks ≡ t.forks ++ h ∷ [] → Keeps t u
keeps_pushed t u h depth is = record {
  depth = depth;
  trees = λ k r tree. subst (λ fs. IsTree fs k r) (sym is) (tree_stays t.forks h k r tree);
  cells = λ k r c tree. ap (λ fs. looked_at fs k r c) is ∙ cells_stay t.forks h k r c tree;
}

pub keeps_same : (t u : Arena) → u.depth ≡ t.depth → u.forks ≡ t.forks → Keeps t u
keeps_same t u depth is = record {
  depth = depth;
  trees = λ k r tree. subst (λ fs. IsTree fs k r) (sym is) tree;
  cells = λ k r c tree. ap (λ fs. looked_at fs k r c) is;
}

-- ---- as callers see it

pub root_stays : (t u : Arena) (r : Root) → Keeps t u → IsRoot t r → IsRoot u r
root_stays t u r x root = subst (λ k. IsTree u.forks k r) (sym x.depth) (x.trees t.depth r root)

pub looked_stays : (t u : Arena) (r : Root) (c : ℕ) → Keeps t u → IsRoot t r → looked u r c ≡ looked t r c
looked_stays t u r c x root = ap (λ k. looked_at u.forks k r c) x.depth ∙ x.cells t.depth r c root
