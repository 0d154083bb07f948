-- What is known stays so where more becomes known, and what is noted of a macro is so.
use Rattle.std.proofs.Common.{◌≡◌, ◌<◌, ◌≤◌, ◌+◌, ℕ, zero, suc, List, [], ◌∷◌, ◌++◌, length, Bool, true, false, ◌&&◌, cond, Option, Some, None, refl, sym, ap, subst, inl, inr, ◌⊎◌, ◌∙◌, arith}
use Rattle.std.specs.Prelude.{slice_get, is_some, nat_lt}
use Rattle.std.specs.List.{list_all}
use Rattle.std.specs.Str.{bytes_eq}
use Rattle.std.proofs.lemmas.List.{length-append, append-nil}
use Rattle.std.proofs.lemmas.Slice.Eq.{bytes_eq-Decides}
use Rattle.c_token.specs.declared.token.Token.{Token}
use Rattle.c_token.specs.Spelling.{text_of}
use Rattle.c_pre.specs.declared.known.Fate.{Fate}
use Rattle.c_pre.specs.declared.known.Fate.TheVariants.{Vanishes, Lasts}
use Rattle.c_pre.specs.declared.known.Node.{Node}
use Rattle.c_pre.specs.declared.known.Link.{Link}
use Rattle.c_pre.specs.Macros.{Macros}
use Rattle.c_pre.specs.Known.{Fates, with_fate, Findings, findings, link_in, tokens_in, name_in, link_of, depth_of, up, IsBehind, IsLinked, Forest, does_vanish, falls_below, is_below, is_met, Thins, IsParent, Follows, IsFate, IsKnown, Knows, Bounded, Covers, IsRootLink, IsInnerLink, IsLinkFor, Adds}
use Rattle.c_pre.proofs.Trees.{root_of, above}
use Rattle.c_pre.proofs.Keeping.{both}
use Rattle.c_pre.proofs.Marked.{get_front}

pub knows_bounded : (bytes : List ℕ) (macros : Macros) (f : Findings) → Knows bytes macros f → Bounded f
knows_bounded bytes macros f h name i is = (h.known name (Lasts i) is).3.0

pub none_of : (o : Option Fate) → is_some o ≡ false → o ≡ None
none_of None e = refl
none_of (Some fate) e = cc

get_seam : {X : Type 0} (xs : List X) (y : X) → slice_get (xs ++ y ∷ []) (length xs) ≡ Some y
get_seam [] y = refl
get_seam (x ∷ xs) y = get_seam xs y

abbrev Pushed : List Node → Node → List Node
Pushed nodes node = nodes ++ node ∷ []

pushed_length : (nodes : List Node) (node : Node) → length (Pushed nodes node) ≡ length nodes + 1
pushed_length nodes node = length-append nodes (node ∷ [])

link_front : (nodes : List Node) (node : Node) (i : ℕ) → i < length nodes → link_of (Pushed nodes node) i ≡ link_of nodes i
link_front nodes node i l = ap link_in (get_front nodes (node ∷ []) i l)

link_seam : (nodes : List Node) (node : Node) → link_of (Pushed nodes node) (length nodes) ≡ node.link
link_seam nodes node = ap link_in (get_seam nodes node)

up_front : (nodes : List Node) (node : Node) (k i : ℕ) → Forest nodes → i < length nodes → k ≤ depth_of nodes i → up (Pushed nodes node) k i ≡ up nodes k i
up_front nodes node zero i forest l few = refl
up_front nodes node (suc k) i forest l few = by (λ m less. up_front nodes node k (link_of nodes i).parent forest m less) (depth_of nodes i) refl where
  by : ((link_of nodes i).parent < length nodes → k ≤ depth_of nodes (link_of nodes i).parent → up (Pushed nodes node) k (link_of nodes i).parent ≡ up nodes k (link_of nodes i).parent) →
      (d : ℕ) → depth_of nodes i ≡ d → up (Pushed nodes node) (suc k) i ≡ up nodes (suc k) i
  by on zero e = absurd (omega (arith, e, few))
  by on (suc d) e =
      let next = above nodes i d forest l e in
      ap (λ (x : Link). up (Pushed nodes node) k x.parent) (link_front nodes node i l) ∙ on next.0 (omega (arith, e, few, next.1))

depth_front : (nodes : List Node) (node : Node) (i : ℕ) → i < length nodes → depth_of (Pushed nodes node) i ≡ depth_of nodes i
depth_front nodes node i l = ap (λ (x : Link). x.depth) (link_front nodes node i l)

behind_front : (nodes : List Node) (node : Node) (i j : ℕ) → Forest nodes → i < length nodes → IsBehind nodes i j → IsBehind (Pushed nodes node) i j
behind_front nodes node i j forest l (k, few, e) = (k, omega (arith, few, depth_front nodes node i l), e ∙ sym (up_front nodes node k i forest l few))

linked_front : (nodes : List Node) (node : Node) (i : ℕ) (link : Link) (d : ℕ) → IsLinked nodes i link d → IsLinked (Pushed nodes node) i link d
linked_front nodes node i link zero h = h
linked_front nodes node i link (suc d) (l, e, r) =
    (omega (arith, l, pushed_length nodes node), depth_front nodes node link.parent l ∙ e, r ∙ ap (λ (x : Link). x.root) (sym (link_front nodes node link.parent l)))

abbrev At : List Node → ℕ → Type 0
At nodes i = IsLinked nodes i (link_of nodes i) (depth_of nodes i) × IsBehind nodes i (link_of nodes i).jump

front_at : (nodes : List Node) (node : Node) (i : ℕ) → Forest nodes → i < length nodes → At (Pushed nodes node) i
front_at nodes node i forest l =
    let old = forest i l in
    let e = sym (link_front nodes node i l) in (
      subst (λ (x : Link). IsLinked (Pushed nodes node) i x x.depth) e (linked_front nodes node i (link_of nodes i) (depth_of nodes i) old.0),
      subst (λ (x : Link). IsBehind (Pushed nodes node) i x.jump) e (behind_front nodes node i (link_of nodes i).jump forest l old.1),
    )

abbrev Linked_next : List Node → Link → Type 0
Linked_next nodes link = IsRootLink nodes link ⊎ ((parent : ℕ) × (parent < length nodes) × IsInnerLink nodes parent link)

seam_linked : (nodes : List Node) (node : Node) → Forest nodes → Linked_next nodes node.link → IsLinked (Pushed nodes node) (length nodes) node.link node.link.depth
seam_linked nodes node forest (inl (d, p, j, r)) = subst (λ (n : ℕ). IsLinked (Pushed nodes node) (length nodes) node.link n) (sym d) (p, r)
seam_linked nodes node forest (inr (parent, l, (d, p, j, r))) =
    let here : (parent < length (Pushed nodes node)) × (depth_of (Pushed nodes node) parent ≡ depth_of nodes parent) × (node.link.root ≡ root_of (Pushed nodes node) parent) = (
      omega (arith, l, pushed_length nodes node),
      depth_front nodes node parent l,
      r ∙ ap (λ (x : Link). x.root) (sym (link_front nodes node parent l)),
    ) in
    let at_parent = subst (λ (x : ℕ). (x < length (Pushed nodes node)) × (depth_of (Pushed nodes node) x ≡ depth_of nodes parent) × (node.link.root ≡ root_of (Pushed nodes node) x)) (sym p) here in
    subst (λ (n : ℕ). IsLinked (Pushed nodes node) (length nodes) node.link n) (sym d) at_parent

seam_jump : (nodes : List Node) (node : Node) → Forest nodes → Linked_next nodes node.link → IsBehind (Pushed nodes node) (length nodes) node.link.jump
seam_jump nodes node forest (inl (d, p, j, r)) = (0, omega arith, j)
seam_jump nodes node forest (inr (parent, l, (d, p, (k, few, e), r))) =
    let depth : depth_of (Pushed nodes node) (length nodes) ≡ suc (depth_of nodes parent) = ap (λ (x : Link). x.depth) (link_seam nodes node) ∙ d in (
      suc k,
      omega (arith, few, depth),
      e ∙ sym (up_front nodes node k parent forest l few) ∙ ap (up (Pushed nodes node) k) (sym p) ∙ ap (λ (x : Link). up (Pushed nodes node) k x.parent) (sym (link_seam nodes node)),
    )

seam_at : (nodes : List Node) (node : Node) → Forest nodes → Linked_next nodes node.link → At (Pushed nodes node) (length nodes)
seam_at nodes node forest h = (
  subst (λ (x : Link). IsLinked (Pushed nodes node) (length nodes) x x.depth) (sym (link_seam nodes node)) (seam_linked nodes node forest h),
  subst (λ (x : Link). IsBehind (Pushed nodes node) (length nodes) x.jump) (sym (link_seam nodes node)) (seam_jump nodes node forest h),
)

pub last_or_before : (n i : ℕ) → i < n + 1 → (i < n) ⊎ (i ≡ n)
last_or_before n i l = by (nat_lt i n) refl where
  by : (b : Bool) → nat_lt i n ≡ b → (i < n) ⊎ (i ≡ n)
  by true e = let less : i < n = grind (arith, e) in inl less
  by false e = let same : i ≡ n = grind (arith, e, l) in inr same

forest_pushed : (nodes : List Node) (node : Node) → Forest nodes → Linked_next nodes node.link → Forest (Pushed nodes node)
forest_pushed nodes node forest h i l = by (last_or_before (length nodes) i (omega (arith, l, pushed_length nodes node))) where
  by : (i < length nodes) ⊎ (i ≡ length nodes) → At (Pushed nodes node) i
  by (inl less) = front_at nodes node i forest less
  by (inr e) = subst (λ (x : ℕ). At (Pushed nodes node) x) (sym e) (seam_at nodes node forest h)

-- more is known
pub record Grows (f f2 : Findings) : Type 0 where
  pub fates : (x : List ℕ) (fate : Fate) → f.fates x ≡ Some fate → f2.fates x ≡ Some fate
  pub nodes : (i : ℕ) → i < length f.nodes → (i < length f2.nodes) × (slice_get f2.nodes i ≡ slice_get f.nodes i)
  pub used : Covers f.used f2.used

vanish_grows : (a b : Option Fate) → ((fate : Fate) → a ≡ Some fate → b ≡ Some fate) → does_vanish a ≡ true → does_vanish b ≡ true
vanish_grows None b g h = cc
vanish_grows (Some fate) b g h = ap does_vanish (g fate refl) ∙ h

below_grows : (k : ℕ) (a b : Option Fate) → ((fate : Fate) → a ≡ Some fate → b ≡ Some fate) → falls_below k a ≡ true → falls_below k b ≡ true
below_grows k None b g h = cc
below_grows k (Some fate) b g h = ap (falls_below k) (g fate refl) ∙ h

-- one test for another
all_as : {X : Type 0} (p q : X → Bool) → ((x : X) → p x ≡ true → q x ≡ true) → (xs : List X) → list_all p xs ≡ true → list_all q xs ≡ true
all_as p q f [] h = refl
all_as p q f (x ∷ xs) h =
    let parts = both (p x) (list_all p xs) h in
    ap (λ (b : Bool). b && list_all q xs) (f x parts.0) ∙ all_as p q f xs parts.1

thins_grow : (bytes : List ℕ) (a b : Fates) → ((x : List ℕ) (fate : Fate) → a x ≡ Some fate → b x ≡ Some fate) → (tokens ts : List Token) → Thins bytes a tokens ts → Thins bytes b tokens ts
thins_grow bytes a b g tokens [] h = h
thins_grow bytes a b g tokens (t ∷ ts) (inl (behind, e, h)) = inl (behind, e, thins_grow bytes a b g behind ts h)
thins_grow bytes a b g tokens (t ∷ ts) (inr (v, h)) = inr (vanish_grows (a (text_of bytes t)) (b (text_of bytes t)) (g (text_of bytes t)) v, thins_grow bytes a b g tokens ts h)

follows_grow : (bytes : List ℕ) (a b : Fates) → ((x : List ℕ) (fate : Fate) → a x ≡ Some fate → b x ≡ Some fate) → (tokens : List Token) (link : Link) (d : ℕ) → Follows bytes a tokens link d → Follows bytes b tokens link d
follows_grow bytes a b g tokens link zero h = tt
follows_grow bytes a b g tokens link (suc d) (t, e, is) = (t, e, g (text_of bytes t) (Lasts link.parent) is)

abbrev At_node : List ℕ → Findings → List ℕ → List Token → Option Node → Type 0
At_node bytes f name body o =
    (name_in o ≡ name) × Thins bytes f.fates (tokens_in o) body × Follows bytes f.fates (tokens_in o) (link_in o) (link_in o).depth

node_grows : (bytes : List ℕ) (f f2 : Findings) → Grows f f2 → (name : List ℕ) (body : List Token) (o : Option Node) → At_node bytes f name body o → At_node bytes f2 name body o
node_grows bytes f f2 g name body o (n, thin, follows) =
    (n, thins_grow bytes f.fates f2.fates g.fates (tokens_in o) body thin, follows_grow bytes f.fates f2.fates g.fates (tokens_in o) (link_in o) (link_in o).depth follows)

fate_grows : (bytes : List ℕ) (f f2 : Findings) → Grows f f2 → (name : List ℕ) (body : List Token) (fate : Fate) → IsFate bytes f name body fate → IsFate bytes f2 name body fate
fate_grows bytes f f2 g name body (Vanishes k) h =
    all_as (is_below bytes f.fates k) (is_below bytes f2.fates k) (λ t. below_grows k (f.fates (text_of bytes t)) (f2.fates (text_of bytes t)) (g.fates (text_of bytes t))) body h
fate_grows bytes f f2 g name body (Lasts i) (l, n, thin, follows) =
    let at = g.nodes i l in
    let there = subst (λ (o : Option Node). At_node bytes f2 name body o) (sym at.1) (node_grows bytes f f2 g name body (slice_get f.nodes i) (n, thin, follows)) in
    (at.0, there.0, there.1, there.2)

pub known_grows : (bytes : List ℕ) (macros : Macros) (f f2 : Findings) → Grows f f2 → (name : List ℕ) (fate : Fate) → IsKnown bytes macros f name fate → IsKnown bytes macros f2 name fate
known_grows bytes macros f f2 g name fate (body, m, met, is) =
    (body, m, all_as (is_met bytes f.used) (is_met bytes f2.used) (λ t. g.used (text_of bytes t)) body met, fate_grows bytes f f2 g name body fate is)

-- more names are met
pub knows_marked : (bytes : List ℕ) (macros : Macros) (fates : Fates) (nodes : List Node) (used more : List ℕ → Bool) → Covers used more → Knows bytes macros (findings fates nodes used) → Knows bytes macros (findings fates nodes more)
knows_marked bytes macros fates nodes used more covers h = record {
  forest = h.forest;
  known = λ name fate is. known_grows bytes macros (findings fates nodes used) (findings fates nodes more) grown name fate (h.known name fate is);
} where
  grown : Grows (findings fates nodes used) (findings fates nodes more)
  grown = record { fates = λ x fate e. e; nodes = λ i l. (l, refl); used = covers }

same_name : (a b : List ℕ) → bytes_eq a b ≡ true → a ≡ b
same_name a b e = (bytes_eq-Decides a b).0 e

pub with_more : (name : List ℕ) (new : Option Fate) (fates : Fates) → fates name ≡ None → (x : List ℕ) (fate : Fate) → fates x ≡ Some fate → with_fate name new fates x ≡ Some fate
with_more name new fates none x fate is = by (bytes_eq x name) refl where
  by : (b : Bool) → bytes_eq x name ≡ b → cond b new (fates x) ≡ Some fate
  by true same = let no : fates x ≡ None = ap fates (same_name x name same) ∙ none in let two = sym no ∙ is in cc
  by false other = is

-- one more fate is known
with_known : (bytes : List ℕ) (macros : Macros) (f f2 : Findings) (name : List ℕ) (new : Fate) → Grows f f2 → f2.fates ≡ with_fate name (Some new) f.fates →
    ((x : List ℕ) (fate : Fate) → f.fates x ≡ Some fate → IsKnown bytes macros f x fate) → IsKnown bytes macros f2 name new →
    (x : List ℕ) (fate : Fate) → f2.fates x ≡ Some fate → IsKnown bytes macros f2 x fate
with_known bytes macros f f2 name new g e old own x fate is = by (bytes_eq x name) refl (sym (ap (λ (s : Fates). s x) e) ∙ is) where
  by : (b : Bool) → bytes_eq x name ≡ b → cond b (Some new) (f.fates x) ≡ Some fate → IsKnown bytes macros f2 x fate
  by true same k =
      let equal : new ≡ fate = cc in
      subst (λ (y : Fate). IsKnown bytes macros f2 x y) equal (subst (λ (y : List ℕ). IsKnown bytes macros f2 y new) (sym (same_name x name same)) own)
  by false other k = known_grows bytes macros f f2 g x fate (old x fate k)

pub knows_vanishing : (bytes : List ℕ) (macros : Macros) (fates fates2 : Fates) (nodes : List Node) (used : List ℕ → Bool) (name : List ℕ) (k : ℕ) (body : List Token) → Knows bytes macros (findings fates nodes used) →
    fates name ≡ None → macros name ≡ Some body → list_all (is_met bytes used) body ≡ true → list_all (is_below bytes fates k) body ≡ true → fates2 ≡ with_fate name (Some (Vanishes k)) fates → Knows bytes macros (findings fates2 nodes used)
knows_vanishing bytes macros fates fates2 nodes used name k body h none m met below e = record {
  forest = h.forest;
  known = with_known bytes macros f f2 name (Vanishes k) grown e h.known (body, m, met, fate_grows bytes f f2 grown name body (Vanishes k) below);
} where
  f : Findings
  f = findings fates nodes used

  f2 : Findings
  f2 = findings fates2 nodes used

  grown : Grows f f2
  grown = record {
    fates = λ x fate is. ap (λ (s : Fates). s x) e ∙ with_more name (Some (Vanishes k)) fates none x fate is;
    nodes = λ i l. (l, refl);
    used = λ x u. u;
  }

next_of : (bytes : List ℕ) (f : Findings) (tokens : List Token) (link : Link) → IsLinkFor bytes f tokens link → Linked_next f.nodes link
next_of bytes f tokens link (inl h) = inl h
next_of bytes f tokens link (inr (parent, l, is, h)) = inr (parent, l, h)

next_follows : (bytes : List ℕ) (f : Findings) (tokens : List Token) (link : Link) → IsLinkFor bytes f tokens link → Follows bytes f.fates tokens link link.depth
next_follows bytes f tokens link (inl (d, p, j, r)) = subst (λ (n : ℕ). Follows bytes f.fates tokens link n) (sym d) tt
next_follows bytes f tokens link (inr (parent, l, is, (d, p, j, r))) =
    subst (λ (n : ℕ). Follows bytes f.fates tokens link n) (sym d) (subst (λ (i : ℕ). IsParent bytes f.fates tokens i) (sym p) is)

pub knows_added : (bytes : List ℕ) (macros : Macros) (f f2 : Findings) (name : List ℕ) (body : List Token) → Knows bytes macros f → f.fates name ≡ None → macros name ≡ Some body → list_all (is_met bytes f.used) body ≡ true →
    Adds bytes f name body f2 → Knows bytes macros f2
knows_added bytes macros f f2 name body h none m met (node, at, n, thin, link, e, u) = record {
  forest = subst (λ (xs : List Node). Forest xs) (sym at) (forest_pushed f.nodes node h.forest (next_of bytes f node.tokens.items node.link link));
  known = with_known bytes macros f f2 name (Lasts (length f.nodes)) grown e h.known own;
} where
  front : (i : ℕ) → i < length f.nodes → (i < length f2.nodes) × (slice_get f2.nodes i ≡ slice_get f.nodes i)
  front i l =
      let long : length f2.nodes ≡ length f.nodes + 1 = ap (λ (xs : List Node). length xs) at ∙ pushed_length f.nodes node in
      (omega (arith, l, long), ap (λ (xs : List Node). slice_get xs i) at ∙ get_front f.nodes (node ∷ []) i l)

  grown : Grows f f2
  grown = record {
    fates = λ x fate is. ap (λ (s : Fates). s x) e ∙ with_more name (Some (Lasts (length f.nodes))) f.fates none x fate is;
    nodes = front;
    used = λ x is. ap (λ (s : List ℕ → Bool). s x) u ∙ is;
  }

  there : slice_get f2.nodes (length f.nodes) ≡ Some node
  there = ap (λ (xs : List Node). slice_get xs (length f.nodes)) at ∙ get_seam f.nodes node

  here : At_node bytes f name body (Some node)
  here = (n, thin, next_follows bytes f node.tokens.items node.link link)

  at_node : At_node bytes f2 name body (slice_get f2.nodes (length f.nodes))
  at_node = subst (λ (o : Option Node). At_node bytes f2 name body o) (sym there) (node_grows bytes f f2 grown name body (Some node) here)

  own : IsKnown bytes macros f2 name (Lasts (length f.nodes))
  own =
      let long : length f2.nodes ≡ length f.nodes + 1 = ap (λ (xs : List Node). length xs) at ∙ pushed_length f.nodes node in
      (body, m, all_as (is_met bytes f.used) (is_met bytes f2.used) (λ t. grown.used (text_of bytes t)) body met, (omega (arith, long), at_node.0, at_node.1, at_node.2))

-- what lasts of tokens, a token after the other
pub thins_done : (bytes : List ℕ) (fates : Fates) (all tokens rest : List Token) → ((tail : List Token) → Thins bytes fates tail rest → Thins bytes fates (all ++ tail) tokens) → rest ≡ [] → Thins bytes fates all tokens
thins_done bytes fates all tokens rest h none =
    subst (λ (xs : List Token). Thins bytes fates xs tokens) (append-nil all) (h [] (subst (λ (xs : List Token). Thins bytes fates [] xs) (sym none) refl))
