-- A macro becomes what its root's body becomes, or, where the root is being replaced, the first name behind it that is too.
use Rattle.std.proofs.Common.{◌≡◌, ◌<◌, ◌≤◌, ◌+◌, ℕ, zero, suc, List, [], ◌∷◌, length, Bool, true, false, ◌||◌, cond, Some, None, nat_eq, refl, sym, ap, subst, inl, inr, ◌⊎◌, ◌∙◌, arith}
use Rattle.std.specs.List.{list_any}
use Rattle.std.specs.Map.{lookup}
use Rattle.std.specs.Str.{bytes_eq}
use Rattle.std.proofs.lemmas.List.{append-nil}
use Rattle.std.proofs.lemmas.Slice.Eq.{bytes_eq-Decides}
use Rattle.c_token.specs.declared.token.Token.{Token}
use Rattle.c_token.specs.Spelling.{text_of}
use Rattle.c_pre.specs.declared.known.Fate.TheVariants.{Lasts}
use Rattle.c_pre.specs.declared.known.Node.{Node}
use Rattle.c_pre.specs.Macros.{Macros, body_for, placed, done, stays, replaced, IsReplacedBy}
use Rattle.c_pre.specs.Known.{Findings, link_of, tokens_at, name_at, depth_of, up, IsBehind, does_vanish, IsParent, Follows, Thins, Knows, Opens, pushed, names_at, AreOpen}
use Rattle.c_pre.proofs.Trees.{root_of, above, root_itself, climbs, behind_more, up_more}
use Rattle.c_pre.proofs.Vanishing.{same_name, for_none, Lasting, thin_replaced}

-- a node that its name has
abbrev pub Alive : Findings → ℕ → Type 0
Alive f i = f.fates (name_at f.nodes i) ≡ Some (Lasts i)

abbrev pub Owned : List ℕ → Macros → Findings → ℕ → Type 0
Owned bytes macros f i = (body : List Token) × (macros (name_at f.nodes i) ≡ Some body) × (i < length f.nodes) × Thins bytes f.fates (tokens_at f.nodes i) body
    × Follows bytes f.fates (tokens_at f.nodes i) (link_of f.nodes i) (depth_of f.nodes i)

pub owned : (bytes : List ℕ) (macros : Macros) (f : Findings) (i : ℕ) → Knows bytes macros f → Alive f i → Owned bytes macros f i
owned bytes macros f i h a = let own = h.known (name_at f.nodes i) (Lasts i) a in (own.0, own.1, own.3.0, own.3.2, own.3.3)

-- the only token of a node that isn't a root names the node behind it, which its name has
pub leads_to : (bytes : List ℕ) (macros : Macros) (f : Findings) (i d : ℕ) → Knows bytes macros f → Alive f i → depth_of f.nodes i ≡ suc d →
    (t : Token) × (tokens_at f.nodes i ≡ t ∷ []) × (text_of bytes t ≡ name_at f.nodes (link_of f.nodes i).parent) × Alive f (link_of f.nodes i).parent
leads_to bytes macros f i d h a e =
    let own = owned bytes macros f i h a in
    let parent = (link_of f.nodes i).parent in
    let is : IsParent bytes f.fates (tokens_at f.nodes i) parent = subst (λ (n : ℕ). Follows bytes f.fates (tokens_at f.nodes i) (link_of f.nodes i) n) e own.4 in
    let name = (h.known (text_of bytes is.0) (Lasts parent) is.2).3.1 in
    (is.0, is.1, sym name, ap f.fates name ∙ is.2)

pub alive_up : (bytes : List ℕ) (macros : Macros) (f : Findings) (k i : ℕ) → Knows bytes macros f → Alive f i → k ≤ depth_of f.nodes i → Alive f (up f.nodes k i)
alive_up bytes macros f zero i h a few = a
alive_up bytes macros f (suc k) i h a few = by (λ b less. alive_up bytes macros f k (link_of f.nodes i).parent h b less) (depth_of f.nodes i) refl where
  by : (Alive f (link_of f.nodes i).parent → k ≤ depth_of f.nodes (link_of f.nodes i).parent → Alive f (up f.nodes k (link_of f.nodes i).parent)) → (d : ℕ) → depth_of f.nodes i ≡ d → Alive f (up f.nodes (suc k) i)
  by on zero e = absurd (omega (arith, e, few))
  by on (suc d) e =
      let own = owned bytes macros f i h a in
      let next = above f.nodes i d h.forest own.2 e in
      on (leads_to bytes macros f i d h a e).3 (omega (arith, e, few, next.1))

pub alive_behind : (bytes : List ℕ) (macros : Macros) (f : Findings) (i j : ℕ) → Knows bytes macros f → Alive f i → IsBehind f.nodes i j → Alive f j
alive_behind bytes macros f i j h a (k, few, e) = subst (λ (x : ℕ). Alive f x) (sym e) (alive_up bytes macros f k i h a few)

-- nodes that have the same name are the same
pub one_node : (f : Findings) (i j : ℕ) → Alive f i → Alive f j → name_at f.nodes i ≡ name_at f.nodes j → i ≡ j
one_node f i j a b e = let same : Some (Lasts i) ≡ Some (Lasts j) = sym a ∙ ap f.fates e ∙ b in cc

-- no name from a node on is one of these
abbrev pub Outside : List Node → ℕ → ℕ → List (List ℕ) → Type 0
Outside nodes i n names = (k : ℕ) → k ≤ n → list_any (bytes_eq (name_at nodes (up nodes k i))) names ≡ false

not_any : (x n : List ℕ) (names : List (List ℕ)) → (x ≡ n → ⊥) → list_any (bytes_eq x) names ≡ false → (bytes_eq x n || list_any (bytes_eq x) names) ≡ false
not_any x n names apart out = by (bytes_eq x n) refl where
  by : (b : Bool) → bytes_eq x n ≡ b → (b || list_any (bytes_eq x) names) ≡ false
  by true e = absurd (apart (same_name x n e))
  by false e = out

-- nor one of these and the node's own, behind it
outside_behind : (bytes : List ℕ) (macros : Macros) (f : Findings) (i n : ℕ) (names : List (List ℕ)) → Knows bytes macros f → Alive f i → suc n ≤ depth_of f.nodes i → Outside f.nodes i (suc n) names →
    Outside f.nodes (link_of f.nodes i).parent n (name_at f.nodes i ∷ names)
outside_behind bytes macros f i n names h a few out k less =
    not_any (name_at f.nodes (up f.nodes (suc k) i)) (name_at f.nodes i) names
    (λ e.
    let own = owned bytes macros f i h a in
    let same = one_node f (up f.nodes (suc k) i) i (alive_up bytes macros f (suc k) i h a (omega (arith, few, less))) a e in
    let at = climbs f.nodes (suc k) i h.forest own.2 (omega (arith, few, less)) in
    let depth = ap (depth_of f.nodes) same in
    absurd (omega (arith, at.1, depth)))
    (out (suc k) (omega (arith, less)))

pub lasting_more : (f : Findings) (i : ℕ) (names : List (List ℕ)) → Alive f i → Lasting f names → Lasting f (name_at f.nodes i ∷ names)
lasting_more f i names a lasting x among = by (bytes_eq x (name_at f.nodes i)) refl among where
  by : (b : Bool) → bytes_eq x (name_at f.nodes i) ≡ b → (b || list_any (bytes_eq x) names) ≡ true → does_vanish (f.fates x) ≡ false
  by true same e = ap does_vanish (ap f.fates (same_name x (name_at f.nodes i) same) ∙ a)
  by false other e = lasting x e

-- What a name becomes whose body becomes that.
abbrev pub Enters : List ℕ → Macros → List (List ℕ) → List ℕ → ℕ → List Token → Type 0
Enters bytes macros names name line found = (body : List Token) × (body_for macros names name ≡ Some body) × IsReplacedBy bytes macros (name ∷ names) (Some line) body found

entered : (bytes : List ℕ) (macros : Macros) (f : Findings) (i line : ℕ) (names : List (List ℕ)) (found : List Token) → Knows bytes macros f → Alive f i → Lasting f names → list_any (bytes_eq (name_at f.nodes i)) names ≡ false →
    IsReplacedBy bytes macros (name_at f.nodes i ∷ names) (Some line) (tokens_at f.nodes i) found → Enters bytes macros names (name_at f.nodes i) line found
entered bytes macros f i line names found h a lasting out is =
    let own = owned bytes macros f i h a in (
      own.0,
      for_none macros names (name_at f.nodes i) own.0 out own.1,
      thin_replaced bytes macros f h (Some line) (name_at f.nodes i ∷ names) (lasting_more f i names a lasting) (tokens_at f.nodes i) own.0 found own.3 is,
    )

-- a single token that is replaced
one_replaced : (bytes : List ℕ) (macros : Macros) (names : List (List ℕ)) (line : ℕ) (name : List ℕ) (t : Token) (tokens found : List Token) → tokens ≡ t ∷ [] → text_of bytes t ≡ name → Enters bytes macros names name line found →
    IsReplacedBy bytes macros names (Some line) tokens found
one_replaced bytes macros names line name t tokens found e same enters =
    let at = subst (λ (n : List ℕ). Enters bytes macros names n line found) (sym same) enters in
    subst (λ (xs : List Token). IsReplacedBy bytes macros names (Some line) xs found) (sym e)
    (replaced at.2.0 done, (at.0, at.1, (found, [], at.2.1, refl, sym (append-nil found))))

-- a name whose root isn't being replaced becomes what lasts of the root's body becomes
pub chain_enters : (bytes : List ℕ) (macros : Macros) (f : Findings) → Knows bytes macros f → (d i : ℕ) → depth_of f.nodes i ≡ d → (line : ℕ) (names : List (List ℕ)) (found : List Token) → Alive f i → Lasting f names → Outside f.nodes i d names →
    IsReplacedBy bytes macros (pushed f.nodes d i names) (Some line) (tokens_at f.nodes (root_of f.nodes i)) found → Enters bytes macros names (name_at f.nodes i) line found
chain_enters bytes macros f h zero i e line names found a lasting out is =
    let own = owned bytes macros f i h a in
    let root = root_itself f.nodes i h.forest own.2 e in
    entered bytes macros f i line names found h a lasting (out 0 (omega arith))
    (subst (λ (r : ℕ). IsReplacedBy bytes macros (name_at f.nodes i ∷ names) (Some line) (tokens_at f.nodes r) found) root.1 is)
chain_enters bytes macros f h (suc d) i e line names found a lasting out is =
    let own = owned bytes macros f i h a in
    let next = above f.nodes i d h.forest own.2 e in
    let parent = (link_of f.nodes i).parent in
    let to = leads_to bytes macros f i d h a e in
    let inner = subst (λ (r : ℕ). IsReplacedBy bytes macros (pushed f.nodes d parent (name_at f.nodes i ∷ names)) (Some line) (tokens_at f.nodes r) found) next.2 is in
    let behind = outside_behind bytes macros f i d names h a (omega (arith, e)) out in
    let enters = chain_enters bytes macros f h d parent next.1 line (name_at f.nodes i ∷ names) found to.3 (lasting_more f i names a lasting) behind inner in
    entered bytes macros f i line names found h a lasting (out 0 (omega arith)) (one_replaced bytes macros (name_at f.nodes i ∷ names) line (name_at f.nodes parent) to.0 (tokens_at f.nodes i) found to.1 to.2 enters)

-- a single token that stays
one_stays : (bytes : List ℕ) (macros : Macros) (names : List (List ℕ)) (line : ℕ) (t : Token) (tokens : List Token) → tokens ≡ t ∷ [] → list_any (bytes_eq (text_of bytes t)) names ≡ true →
    IsReplacedBy bytes macros names (Some line) tokens (placed (Some line) t ∷ [])
one_stays bytes macros names line t tokens e among =
    subst (λ (xs : List Token). IsReplacedBy bytes macros names (Some line) xs (placed (Some line) t ∷ [])) (sym e)
    (stays done, (ap (λ (b : Bool). cond b None (macros (text_of bytes t))) among, ([], refl, refl)))

or_last : (a b : Bool) → b ≡ true → (a || b) ≡ true
or_last true b e = refl
or_last false b e = e

-- a name becomes the one behind the last that isn't being replaced
pub chain_stays : (bytes : List ℕ) (macros : Macros) (f : Findings) → Knows bytes macros f → (m i last : ℕ) (next : Token) (more : List Token) → last ≡ up f.nodes m i → suc m ≤ depth_of f.nodes i → tokens_at f.nodes last ≡ next ∷ more →
    (line : ℕ) (names : List (List ℕ)) → Alive f i → Lasting f names → Outside f.nodes i m names → list_any (bytes_eq (name_at f.nodes (link_of f.nodes last).parent)) names ≡ true →
    Enters bytes macros names (name_at f.nodes i) line (placed (Some line) next ∷ [])
chain_stays bytes macros f h zero i last next more e few at line names a lasting out among = by (depth_of f.nodes i) refl where
  by : (d : ℕ) → depth_of f.nodes i ≡ d → Enters bytes macros names (name_at f.nodes i) line (placed (Some line) next ∷ [])
  by zero g = absurd (omega (arith, g, few))
  by (suc d) g =
      let to = leads_to bytes macros f i d h a g in
      let two : next ∷ more ≡ to.0 ∷ [] = sym at ∙ ap (tokens_at f.nodes) e ∙ to.1 in
      let same : to.0 ≡ next = cc in
      let name : text_of bytes next ≡ name_at f.nodes (link_of f.nodes last).parent =
      ap (text_of bytes) (sym same) ∙ to.2 ∙ ap (λ (x : ℕ). name_at f.nodes (link_of f.nodes x).parent) (sym e) in
      let inside = ap (λ (n : List ℕ). list_any (bytes_eq n) names) name ∙ among in
      let only : tokens_at f.nodes i ≡ next ∷ [] = to.1 ∙ ap (λ (t : Token). t ∷ []) same in
      entered bytes macros f i line names (placed (Some line) next ∷ []) h a lasting (out 0 (omega arith))
      (one_stays bytes macros (name_at f.nodes i ∷ names) line next (tokens_at f.nodes i) only (or_last (bytes_eq (text_of bytes next) (name_at f.nodes i)) (list_any (bytes_eq (text_of bytes next)) names) inside))
chain_stays bytes macros f h (suc m) i last next more e few at line names a lasting out among =
    by (λ less b clear inside. chain_stays bytes macros f h m (link_of f.nodes i).parent last next more e less at line (name_at f.nodes i ∷ names) b (lasting_more f i names a lasting) clear inside) (depth_of f.nodes i) refl where
      by : (suc m ≤ depth_of f.nodes (link_of f.nodes i).parent → Alive f (link_of f.nodes i).parent → Outside f.nodes (link_of f.nodes i).parent m (name_at f.nodes i ∷ names) →
          list_any (bytes_eq (name_at f.nodes (link_of f.nodes last).parent)) (name_at f.nodes i ∷ names) ≡ true →
          Enters bytes macros (name_at f.nodes i ∷ names) (name_at f.nodes (link_of f.nodes i).parent) line (placed (Some line) next ∷ [])) →
          (d : ℕ) → depth_of f.nodes i ≡ d → Enters bytes macros names (name_at f.nodes i) line (placed (Some line) next ∷ [])
      by on zero g = absurd (omega (arith, g, few))
      by on (suc d) g =
          let own = owned bytes macros f i h a in
          let above_it = above f.nodes i d h.forest own.2 g in
          let parent = (link_of f.nodes i).parent in
          let to = leads_to bytes macros f i d h a g in
          let behind = outside_behind bytes macros f i m names h a (omega (arith, few)) out in
          let inside = or_last (bytes_eq (name_at f.nodes (link_of f.nodes last).parent) (name_at f.nodes i)) (list_any (bytes_eq (name_at f.nodes (link_of f.nodes last).parent)) names) among in
          let enters = on (omega (arith, few, g, above_it.1)) to.3 behind inside in
          entered bytes macros f i line names (placed (Some line) next ∷ []) h a lasting (out 0 (omega arith))
          (one_replaced bytes macros (name_at f.nodes i ∷ names) line (name_at f.nodes parent) to.0 (tokens_at f.nodes i) (placed (Some line) next ∷ []) to.1 to.2 enters)

-- the names from a node up, and others
pub pushed_any : (nodes : List Node) (d i : ℕ) (names : List (List ℕ)) (x : List ℕ) → list_any (bytes_eq x) (pushed nodes d i names) ≡ true →
    ((k : ℕ) × (k ≤ d) × (x ≡ name_at nodes (up nodes k i))) ⊎ (list_any (bytes_eq x) names ≡ true)
pushed_any nodes zero i names x h = by (bytes_eq x (name_at nodes i)) refl h where
  by : (b : Bool) → bytes_eq x (name_at nodes i) ≡ b → (b || list_any (bytes_eq x) names) ≡ true → ((k : ℕ) × (k ≤ 0) × (x ≡ name_at nodes (up nodes k i))) ⊎ (list_any (bytes_eq x) names ≡ true)
  by true same e = inl (0, omega arith, same_name x (name_at nodes i) same)
  by false other e = inr e
pushed_any nodes (suc d) i names x h = by (pushed_any nodes d (link_of nodes i).parent (name_at nodes i ∷ names) x h) where
  own : (b : Bool) → bytes_eq x (name_at nodes i) ≡ b → (b || list_any (bytes_eq x) names) ≡ true → ((k : ℕ) × (k ≤ suc d) × (x ≡ name_at nodes (up nodes k i))) ⊎ (list_any (bytes_eq x) names ≡ true)
  own true same e = inl (0, omega arith, same_name x (name_at nodes i) same)
  own false other e = inr e

  by : ((k : ℕ) × (k ≤ d) × (x ≡ name_at nodes (up nodes k (link_of nodes i).parent))) ⊎ (list_any (bytes_eq x) (name_at nodes i ∷ names) ≡ true) →
      ((k : ℕ) × (k ≤ suc d) × (x ≡ name_at nodes (up nodes k i))) ⊎ (list_any (bytes_eq x) names ≡ true)
  by (inl (k, few, e)) = inl (suc k, omega (arith, few), e)
  by (inr e) = own (bytes_eq x (name_at nodes i)) refl e

pub any_pushed : (nodes : List Node) (d i : ℕ) (names : List (List ℕ)) (x : List ℕ) → list_any (bytes_eq x) names ≡ true → list_any (bytes_eq x) (pushed nodes d i names) ≡ true
any_pushed nodes zero i names x h = or_last (bytes_eq x (name_at nodes i)) (list_any (bytes_eq x) names) h
any_pushed nodes (suc d) i names x h = any_pushed nodes d (link_of nodes i).parent (name_at nodes i ∷ names) x (or_last (bytes_eq x (name_at nodes i)) (list_any (bytes_eq x) names) h)

or_first : (a b : Bool) → a ≡ true → (a || b) ≡ true
or_first true b e = refl
or_first false b e = cc

pub up_pushed : (nodes : List Node) (d k i : ℕ) (names : List (List ℕ)) → k ≤ d → list_any (bytes_eq (name_at nodes (up nodes k i))) (pushed nodes d i names) ≡ true
up_pushed nodes zero zero i names few = or_first (bytes_eq (name_at nodes i) (name_at nodes i)) (list_any (bytes_eq (name_at nodes i)) names) ((bytes_eq-Decides (name_at nodes i) (name_at nodes i)).1 refl)
up_pushed nodes zero (suc k) i names few = absurd (omega (arith, few))
up_pushed nodes (suc d) zero i names few =
    any_pushed nodes d (link_of nodes i).parent (name_at nodes i ∷ names) (name_at nodes i)
    (or_first (bytes_eq (name_at nodes i) (name_at nodes i)) (list_any (bytes_eq (name_at nodes i)) names) ((bytes_eq-Decides (name_at nodes i) (name_at nodes i)).1 refl))
up_pushed nodes (suc d) (suc k) i names few = up_pushed nodes d k (link_of nodes i).parent (name_at nodes i ∷ names) (omega (arith, few))

-- A name that is being replaced is that of a node from an entry up to its root.
abbrev pub Among : Findings → Opens → List ℕ → Type 0
Among f opens x = (root : ℕ) × (entry : ℕ) × (node : ℕ) × (lookup (nat_eq root) opens ≡ Some entry) × IsBehind f.nodes entry node × (x ≡ name_at f.nodes node) × Alive f node × (root_of f.nodes node ≡ root)

lookup_other : (opens : Opens) (r root entry : ℕ) (o : ℕ × ℕ) → lookup (nat_eq o.0) opens ≡ None → lookup (nat_eq root) opens ≡ Some entry → lookup (nat_eq root) (o ∷ opens) ≡ Some entry
lookup_other opens r root entry o none is = by (nat_eq root o.0) refl where
  by : (b : Bool) → nat_eq root o.0 ≡ b → cond b (Some o.1) (lookup (nat_eq root) opens) ≡ Some entry
  by true e =
      let same : root ≡ o.0 = grind (arith, e) in
      let two : None ≡ Some entry = sym none ∙ ap (λ (x : ℕ). lookup (nat_eq x) opens) (sym same) ∙ is in cc
  by false e = is

nat_same : (n : ℕ) → nat_eq n n ≡ true
nat_same n = grind arith

pub among_open : (bytes : List ℕ) (macros : Macros) (f : Findings) → Knows bytes macros f → (opens : Opens) → AreOpen f opens → (x : List ℕ) → list_any (bytes_eq x) (names_at f.nodes opens) ≡ true → Among f opens x
among_open bytes macros f h [] open_here x among = cc
among_open bytes macros f h (o ∷ os) (a, r, none, rest) x among = by (λ e. among_open bytes macros f h os rest x e) (pushed_any f.nodes (depth_of f.nodes o.1) o.1 (names_at f.nodes os) x among) where
  by : (list_any (bytes_eq x) (names_at f.nodes os) ≡ true → Among f os x) →
      ((k : ℕ) × (k ≤ depth_of f.nodes o.1) × (x ≡ name_at f.nodes (up f.nodes k o.1))) ⊎ (list_any (bytes_eq x) (names_at f.nodes os) ≡ true) → Among f (o ∷ os) x
  by on (inl (k, few, e)) =
      let own = owned bytes macros f o.1 h a in
      let at = climbs f.nodes k o.1 h.forest own.2 few in
      (o.0, o.1, up f.nodes k o.1, ap (λ (b : Bool). cond b (Some o.1) (lookup (nat_eq o.0) os)) (nat_same o.0), (k, few, refl), e, alive_up bytes macros f k o.1 h a few, at.2 ∙ r)
  by on (inr e) =
      let old = on e in
      (old.0, old.1, old.2, lookup_other os 0 old.0 old.1 o none old.3, old.4, old.5, old.6, old.7)

pub open_lasting : (bytes : List ℕ) (macros : Macros) (f : Findings) → Knows bytes macros f → (opens : Opens) → AreOpen f opens → Lasting f (names_at f.nodes opens)
open_lasting bytes macros f h opens are x among =
    let at = among_open bytes macros f h opens are x among in ap does_vanish (ap f.fates at.5 ∙ at.6)

-- the entry of a root that is being replaced
pub entry_alive : (f : Findings) (opens : Opens) (root entry : ℕ) → AreOpen f opens → lookup (nat_eq root) opens ≡ Some entry → Alive f entry × (root_of f.nodes entry ≡ root)
entry_alive f [] root entry are is = cc
entry_alive f (o ∷ os) root entry (a, r, none, rest) is = by (λ k. entry_alive f os root entry rest k) (nat_eq root o.0) refl is where
  by : (lookup (nat_eq root) os ≡ Some entry → Alive f entry × (root_of f.nodes entry ≡ root)) →
      (b : Bool) → nat_eq root o.0 ≡ b → cond b (Some o.1) (lookup (nat_eq root) os) ≡ Some entry → Alive f entry × (root_of f.nodes entry ≡ root)
  by on true e k =
      let same : root ≡ o.0 = grind (arith, e) in
      let one : o.1 ≡ entry = cc in
      subst (λ (x : ℕ). Alive f x × (root_of f.nodes x ≡ root)) one (a, r ∙ sym same)
  by on false e k = on k

-- no name from a node up is being replaced, if its root isn't
pub outside_closed : (bytes : List ℕ) (macros : Macros) (f : Findings) → Knows bytes macros f → (opens : Opens) → AreOpen f opens → (i : ℕ) → Alive f i → lookup (nat_eq (root_of f.nodes i)) opens ≡ None →
    Outside f.nodes i (depth_of f.nodes i) (names_at f.nodes opens)
outside_closed bytes macros f h opens are i a none k few = by (list_any (bytes_eq (name_at f.nodes (up f.nodes k i))) (names_at f.nodes opens)) refl where
  by : (b : Bool) → list_any (bytes_eq (name_at f.nodes (up f.nodes k i))) (names_at f.nodes opens) ≡ b → b ≡ false
  by false e = refl
  by true e =
      let at = among_open bytes macros f h opens are (name_at f.nodes (up f.nodes k i)) e in
      let own = owned bytes macros f i h a in
      let climbed = climbs f.nodes k i h.forest own.2 few in
      let same = one_node f (up f.nodes k i) at.2 (alive_up bytes macros f k i h a few) at.6 at.5 in
      let root : at.0 ≡ root_of f.nodes i = sym at.7 ∙ ap (root_of f.nodes) (sym same) ∙ climbed.2 in
      let two : None ≡ Some at.1 = sym none ∙ ap (λ (x : ℕ). lookup (nat_eq x) opens) (sym root) ∙ at.3 in cc

rest_of : (m k : ℕ) → k ≤ m → (n : ℕ) × (m ≡ k + n)
rest_of m zero l = (m, omega arith)
rest_of zero (suc k) l = absurd (omega (arith, l))
rest_of (suc m) (suc k) l = let r = rest_of m k (omega (arith, l)) in (r.0, omega (arith, r.1))

-- none up to the last one before an entry is, if it is
pub outside_open : (bytes : List ℕ) (macros : Macros) (f : Findings) → Knows bytes macros f → (opens : Opens) → AreOpen f opens → (i entry m last : ℕ) → Alive f i → lookup (nat_eq (root_of f.nodes i)) opens ≡ Some entry →
    m ≤ depth_of f.nodes i → last ≡ up f.nodes m i → (IsBehind f.nodes entry last → ⊥) → Outside f.nodes i m (names_at f.nodes opens)
outside_open bytes macros f h opens are i entry m last a is few e none k less = by (list_any (bytes_eq (name_at f.nodes (up f.nodes k i))) (names_at f.nodes opens)) refl where
  by : (b : Bool) → list_any (bytes_eq (name_at f.nodes (up f.nodes k i))) (names_at f.nodes opens) ≡ b → b ≡ false
  by false g = refl
  by true g =
      let at = among_open bytes macros f h opens are (name_at f.nodes (up f.nodes k i)) g in
      let own = owned bytes macros f i h a in
      let climbed = climbs f.nodes k i h.forest own.2 (omega (arith, few, less)) in
      let same = one_node f (up f.nodes k i) at.2 (alive_up bytes macros f k i h a (omega (arith, few, less))) at.6 at.5 in
      let root : at.0 ≡ root_of f.nodes i = sym at.7 ∙ ap (root_of f.nodes) (sym same) ∙ climbed.2 in
      let two : Some entry ≡ Some at.1 = sym is ∙ ap (λ (x : ℕ). lookup (nat_eq x) opens) (sym root) ∙ at.3 in
      let one : at.1 ≡ entry = cc in
      let entry_is = entry_alive f opens (root_of f.nodes i) entry are is in
      let there = owned bytes macros f entry h entry_is.0 in
      let behind : IsBehind f.nodes entry (up f.nodes k i) = subst (λ (x : ℕ). IsBehind f.nodes entry x) (sym same) (subst (λ (x : ℕ). IsBehind f.nodes x at.2) one at.4) in
      let rest = rest_of m k less in
      let on : IsBehind f.nodes (up f.nodes k i) last = (
        rest.0,
        omega (arith, rest.1, climbed.1, few),
        e ∙ ap (λ (n : ℕ). up f.nodes n i) rest.1 ∙ up_more f.nodes k rest.0 i,
      ) in
      absurd (none (behind_more f.nodes entry (up f.nodes k i) last h.forest there.2 behind on))

-- a node from an entry up is being replaced
pub inside_open : (bytes : List ℕ) (macros : Macros) (f : Findings) → Knows bytes macros f → (opens : Opens) → AreOpen f opens → (root entry node : ℕ) → lookup (nat_eq root) opens ≡ Some entry → IsBehind f.nodes entry node →
    list_any (bytes_eq (name_at f.nodes node)) (names_at f.nodes opens) ≡ true
inside_open bytes macros f h [] are root entry node is behind = cc
inside_open bytes macros f h (o ∷ os) (a, r, none, rest) root entry node is behind = by (λ k. inside_open bytes macros f h os rest root entry node k behind) (nat_eq root o.0) refl is where
  by : (lookup (nat_eq root) os ≡ Some entry → list_any (bytes_eq (name_at f.nodes node)) (names_at f.nodes os) ≡ true) → (b : Bool) → nat_eq root o.0 ≡ b → cond b (Some o.1) (lookup (nat_eq root) os) ≡ Some entry → list_any (bytes_eq (name_at f.nodes node)) (names_at f.nodes (o ∷ os)) ≡ true
  by on true e k =
      let one : entry ≡ o.1 = cc in
      let at : IsBehind f.nodes o.1 node = subst (λ (x : ℕ). IsBehind f.nodes x node) one behind in
      ap (λ (x : ℕ). list_any (bytes_eq (name_at f.nodes x)) (names_at f.nodes (o ∷ os))) at.2 ∙ up_pushed f.nodes (depth_of f.nodes o.1) at.0 o.1 (names_at f.nodes os) at.1
  by on false e k = any_pushed f.nodes (depth_of f.nodes o.1) o.1 (names_at f.nodes os) (name_at f.nodes node) (on k)
