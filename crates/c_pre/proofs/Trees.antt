-- Nodes of trees, and those behind them.
use Rattle.std.proofs.Common.{◌≡◌, ◌<◌, ◌≤◌, ◌+◌, ℕ, zero, suc, List, refl, sym, ap, subst, ◌∙◌, length, arith}
use Rattle.c_pre.specs.declared.known.Node.{Node}
use Rattle.c_pre.specs.declared.known.Link.{Link}
use Rattle.c_pre.specs.Known.{link_of, depth_of, up, IsBehind, IsLinked, Forest}

abbrev pub root_of : List Node → ℕ → ℕ
root_of nodes i = (link_of nodes i).root

pub up_more : (nodes : List Node) (j k i : ℕ) → up nodes (j + k) i ≡ up nodes k (up nodes j i)
up_more nodes zero k i = let e : zero + k ≡ k = omega arith in ap (λ (n : ℕ). up nodes n i) e
up_more nodes (suc j) k i = let e : suc j + k ≡ suc (j + k) = omega arith in ap (λ (n : ℕ). up nodes n i) e ∙ up_more nodes j k (link_of nodes i).parent

linked_suc : (nodes : List Node) (i : ℕ) (link : Link) (n d : ℕ) → n ≡ suc d → IsLinked nodes i link n → (link.parent < length nodes) × (depth_of nodes link.parent ≡ d) × (link.root ≡ root_of nodes link.parent)
linked_suc nodes i link n d e h = subst (λ (m : ℕ). IsLinked nodes i link m) e h

linked_zero : (nodes : List Node) (i : ℕ) (link : Link) (n : ℕ) → n ≡ 0 → IsLinked nodes i link n → (link.parent ≡ i) × (link.root ≡ i)
linked_zero nodes i link n e h = subst (λ (m : ℕ). IsLinked nodes i link m) e h

-- the node behind one that isn't a root
pub above : (nodes : List Node) (i d : ℕ) → Forest nodes → i < length nodes → depth_of nodes i ≡ suc d →
    ((link_of nodes i).parent < length nodes) × (depth_of nodes (link_of nodes i).parent ≡ d) × (root_of nodes i ≡ root_of nodes (link_of nodes i).parent)
above nodes i d forest l e = linked_suc nodes i (link_of nodes i) (depth_of nodes i) d e (forest i l).0

pub root_itself : (nodes : List Node) (i : ℕ) → Forest nodes → i < length nodes → depth_of nodes i ≡ 0 → ((link_of nodes i).parent ≡ i) × (root_of nodes i ≡ i)
root_itself nodes i forest l e = linked_zero nodes i (link_of nodes i) (depth_of nodes i) e (forest i l).0

abbrev pub Climbed : List Node → ℕ → ℕ → Type 0
Climbed nodes k i = (up nodes k i < length nodes) × (depth_of nodes (up nodes k i) + k ≡ depth_of nodes i) × (root_of nodes (up nodes k i) ≡ root_of nodes i)

pub climbs : (nodes : List Node) (k i : ℕ) → Forest nodes → i < length nodes → k ≤ depth_of nodes i → Climbed nodes k i
climbs nodes zero i forest l few = (l, omega arith, refl)
climbs nodes (suc k) i forest l few = by (λ m less. climbs nodes k (link_of nodes i).parent forest m less) (depth_of nodes i) refl where
  by : ((link_of nodes i).parent < length nodes → k ≤ depth_of nodes (link_of nodes i).parent → Climbed nodes k (link_of nodes i).parent) → (d : ℕ) → depth_of nodes i ≡ d → Climbed nodes (suc k) i
  by on zero e = absurd (omega (arith, e, few))
  by on (suc d) e =
      let next = above nodes i d forest l e in
      let rest = on next.0 (omega (arith, e, few, next.1)) in
      (rest.0, omega (arith, rest.1, next.1, e), rest.2 ∙ sym next.2)

pub behind_self : (nodes : List Node) (i : ℕ) → IsBehind nodes i i
behind_self nodes i = (0, omega arith, refl)

pub behind_more : (nodes : List Node) (i j k : ℕ) → Forest nodes → i < length nodes → IsBehind nodes i j → IsBehind nodes j k → IsBehind nodes i k
behind_more nodes i j k forest l (a, few, e) (b, less, g) =
    let up_to = climbs nodes a i forest l few in
    let depth : depth_of nodes j ≡ depth_of nodes (up nodes a i) = ap (depth_of nodes) e in
    (a + b, omega (arith, up_to.1, depth, less), g ∙ ap (up nodes b) e ∙ sym (up_more nodes a b i))

pub behind_within : (nodes : List Node) (i j : ℕ) → Forest nodes → i < length nodes → IsBehind nodes i j → (j < length nodes) × (depth_of nodes j ≤ depth_of nodes i) × (root_of nodes j ≡ root_of nodes i)
behind_within nodes i j forest l (a, few, e) =
    let up_to = climbs nodes a i forest l few in
    let all : (up nodes a i < length nodes) × (depth_of nodes (up nodes a i) ≤ depth_of nodes i) × (root_of nodes (up nodes a i) ≡ root_of nodes i) = (up_to.0, omega (arith, up_to.1), up_to.2) in
    subst (λ (x : ℕ). (x < length nodes) × (depth_of nodes x ≤ depth_of nodes i) × (root_of nodes x ≡ root_of nodes i)) (sym e) all

pub behind_root : (nodes : List Node) (i : ℕ) → Forest nodes → i < length nodes → IsBehind nodes i (root_of nodes i)
behind_root nodes i forest l =
    let top = climbs nodes (depth_of nodes i) i forest l (omega arith) in
    let last : depth_of nodes (up nodes (depth_of nodes i) i) ≡ 0 = omega (arith, top.1) in
    (depth_of nodes i, omega arith, sym top.2 ∙ (root_itself nodes (up nodes (depth_of nodes i) i) forest top.0 last).1)

pub behind_parent : (nodes : List Node) (i : ℕ) → Forest nodes → i < length nodes → IsBehind nodes i (link_of nodes i).parent
behind_parent nodes i forest l = by (depth_of nodes i) refl where
  by : (d : ℕ) → depth_of nodes i ≡ d → IsBehind nodes i (link_of nodes i).parent
  by zero e = (0, omega arith, (root_itself nodes i forest l e).0)
  by (suc d) e = (1, omega (arith, e), refl)

-- behind a node there is one of each depth
pub one_behind : (nodes : List Node) (i x y : ℕ) → Forest nodes → i < length nodes → IsBehind nodes i x → IsBehind nodes i y → depth_of nodes x ≡ depth_of nodes y → x ≡ y
one_behind nodes i x y forest l (a, few, e) (b, less, g) same =
    let at = climbs nodes a i forest l few in
    let to = climbs nodes b i forest l less in
    let dx : depth_of nodes x ≡ depth_of nodes (up nodes a i) = ap (depth_of nodes) e in
    let dy : depth_of nodes y ≡ depth_of nodes (up nodes b i) = ap (depth_of nodes) g in
    let steps : a ≡ b = omega (arith, at.1, to.1, dx, dy, same) in
    e ∙ ap (λ (n : ℕ). up nodes n i) steps ∙ sym g

-- a node that isn't as deep as wanted
pub rises_to_parent : (nodes : List Node) (i depth : ℕ) → Forest nodes → i < length nodes → depth < depth_of nodes i → depth ≤ depth_of nodes (link_of nodes i).parent
rises_to_parent nodes i depth forest l less = by (depth_of nodes i) refl where
  by : (d : ℕ) → depth_of nodes i ≡ d → depth ≤ depth_of nodes (link_of nodes i).parent
  by zero e = absurd (omega (arith, e, less))
  by (suc d) e = let next = above nodes i d forest l e in omega (arith, e, less, next.1)

-- a node that is found at the depth of another one is that one, if it is behind
pub not_found : (nodes : List Node) (i found other : ℕ) → Forest nodes → i < length nodes → IsBehind nodes i found → depth_of nodes found ≤ depth_of nodes other →
    (depth_of nodes other ≤ depth_of nodes i → depth_of nodes other ≤ depth_of nodes found) → IsBehind nodes i other → found ≡ other
not_found nodes i found other forest l h low high k =
    let within = behind_within nodes i other forest l k in
    let up_to = high within.1 in
    one_behind nodes i found other forest l h k (omega (arith, low, up_to))

-- the same, by what the code names
pub jump_behind : (nodes : List Node) (i : ℕ) (link : Link) → Forest nodes → i < length nodes → link ≡ link_of nodes i → IsBehind nodes i link.jump
jump_behind nodes i link forest l e = subst (λ (x : Link). IsBehind nodes i x.jump) (sym e) (forest i l).1

pub parent_behind : (nodes : List Node) (i : ℕ) (link : Link) → Forest nodes → i < length nodes → link ≡ link_of nodes i → IsBehind nodes i link.parent
parent_behind nodes i link forest l e = subst (λ (x : Link). IsBehind nodes i x.parent) (sym e) (behind_parent nodes i forest l)

pub parent_high : (nodes : List Node) (i depth : ℕ) (link : Link) → Forest nodes → i < length nodes → link ≡ link_of nodes i → depth < depth_of nodes i → depth ≤ depth_of nodes link.parent
parent_high nodes i depth link forest l e deep = subst (λ (x : Link). depth ≤ depth_of nodes x.parent) (sym e) (rises_to_parent nodes i depth forest l deep)

pub jump_of_jump : (nodes : List Node) (i : ℕ) (link near : Link) → Forest nodes → i < length nodes → link ≡ link_of nodes i → near ≡ link_of nodes link.jump → IsBehind nodes i near.jump
jump_of_jump nodes i link near forest l e g =
    let first = jump_behind nodes i link forest l e in
    let within = behind_within nodes i link.jump forest l first in
    behind_more nodes i link.jump near.jump forest l first (jump_behind nodes link.jump near forest within.0 g)
