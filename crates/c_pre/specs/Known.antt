-- What the code knows of the macros of a file: which become nothing, and which lead to one other alone.
use Rattle.std.specs.Prelude.{◌≡◌, ◌<◌, ◌≤◌, ℕ, zero, suc, List, [], ◌∷◌, ◌++◌, Bool, true, false, ◌⊎◌, Option, Some, None, length, Vec, reverse, nat_eq, nat_lt, slice_get, option_map, if◌then◌else◌}
use Rattle.std.specs.Option.{option_and_then}
use Rattle.std.specs.List.{list_any, list_all}
use Rattle.std.specs.Str.{bytes_eq}
use Rattle.std.specs.Map.{lookup}
use Rattle.std.specs.Cmp.Lexicographic.{pointwise}
use Rattle.std.specs.Global.{Global}
use Rattle.c_token.specs.declared.token.Token.{Token}
use Rattle.c_token.specs.Spelling.{text_of}
use Rattle.c_pre.specs.Macros.{Macros, placed, with_body}
use Rattle.c_pre.specs.Views.{Entries, macros_in}
use Rattle.c_pre.specs.declared.carrying.Place.{Place}
use Rattle.c_pre.specs.declared.known.Known.{Known}
use Rattle.c_pre.specs.declared.known.Node.{Node}
use Rattle.c_pre.specs.declared.known.Link.{Link}
use Rattle.c_pre.specs.declared.known.Fate.{Fate}
use Rattle.c_pre.specs.declared.known.Fate.TheVariants.{Vanishes, Lasts}

-- what becomes of each name of which it is known
abbrev pub Fates : Type 0
Fates = List ℕ → Option Fate

abbrev pub FateEntries : Type 0
FateEntries = List (Vec ℕ Global × Option Fate)

abbrev pub fates_in : FateEntries → Fates
fates_in entries name = option_and_then (λ fate. fate) (lookup (λ k. pointwise nat_eq name k.items) entries)

abbrev pub with_fate : List ℕ → Option Fate → Fates → Fates
with_fate changed fate fates name = if bytes_eq name changed then fate else fates name

abbrev pub Keys : Type 0
Keys = List (Vec ℕ Global)

abbrev pub is_in : Keys → List ℕ → Bool
is_in keys name = list_any (λ k. pointwise nat_eq name k.items) keys

-- What becomes of names, the nodes of those that last, and the names in the bodies of macros.
pub record Findings : Type 0 where
  pub fates : Fates
  pub nodes : List Node
  pub used : List ℕ → Bool

abbrev pub findings : Fates → List Node → (List ℕ → Bool) → Findings
findings fates nodes used = record { fates = fates; nodes = nodes; used = used }

abbrev pub findings_of : Known → Findings
findings_of known = findings (fates_in known.fates.entries) known.nodes.items (is_in known.used.keys)

-- what is written at a node, if there is one
abbrev pub link_in : Option Node → Link
link_in None = record { depth = 0; parent = 0; jump = 0; root = 0 }
link_in (Some node) = node.link

abbrev pub tokens_in : Option Node → List Token
tokens_in None = []
tokens_in (Some node) = node.tokens.items

abbrev pub name_in : Option Node → List ℕ
name_in None = []
name_in (Some node) = node.name.items

abbrev pub link_of : List Node → ℕ → Link
link_of nodes i = link_in (slice_get nodes i)

abbrev pub tokens_at : List Node → ℕ → List Token
tokens_at nodes i = tokens_in (slice_get nodes i)

abbrev pub name_at : List Node → ℕ → List ℕ
name_at nodes i = name_in (slice_get nodes i)

abbrev pub depth_of : List Node → ℕ → ℕ
depth_of nodes i = (link_of nodes i).depth

-- the node so many links behind one
abbrev pub up : List Node → ℕ → ℕ → ℕ
up nodes zero i = i
up nodes (suc k) i = up nodes k (link_of nodes i).parent

-- one is another, or is behind it
abbrev pub IsBehind : List Node → ℕ → ℕ → Type 0
IsBehind nodes i j = (k : ℕ) × (k ≤ depth_of nodes i) × (j ≡ up nodes k i)

-- a root has no node behind it; another node's depth is one more than that of the node behind it, and both have the same root
abbrev pub IsLinked : List Node → ℕ → Link → ℕ → Type 0
IsLinked nodes i link zero = (link.parent ≡ i) × (link.root ≡ i)
IsLinked nodes i link (suc d) = (link.parent < length nodes) × (depth_of nodes link.parent ≡ d) × (link.root ≡ (link_of nodes link.parent).root)

-- the nodes are those of trees
abbrev pub Forest : List Node → Type 0
Forest nodes = (i : ℕ) → i < length nodes → IsLinked nodes i (link_of nodes i) (depth_of nodes i) × IsBehind nodes i (link_of nodes i).jump

-- this node, from one up, is the last that isn't behind an entry
pub record IsLastBefore (nodes : List Node) (node entry last : ℕ) : Type 0 where
  pub behind : IsBehind nodes node last
  pub outside : IsBehind nodes entry last → ⊥
  pub inside : IsBehind nodes entry (link_of nodes last).parent

abbrev pub Meets : List Node → ℕ → ℕ → Option ℕ → Type 0
Meets nodes node entry None = IsBehind nodes entry node
Meets nodes node entry (Some last) = IsLastBefore nodes node entry last

-- a name that vanishes; one of a lower rank
abbrev pub does_vanish : Option Fate → Bool
does_vanish None = false
does_vanish (Some (Vanishes j)) = true
does_vanish (Some (Lasts i)) = false

abbrev pub falls_below : ℕ → Option Fate → Bool
falls_below k None = false
falls_below k (Some (Vanishes j)) = nat_lt j k
falls_below k (Some (Lasts i)) = false

abbrev pub vanishes : List ℕ → Fates → Token → Bool
vanishes bytes fates t = does_vanish (fates (text_of bytes t))

abbrev pub is_below : List ℕ → Fates → ℕ → Token → Bool
is_below bytes fates k t = falls_below k (fates (text_of bytes t))

abbrev pub is_met : List ℕ → (List ℕ → Bool) → Token → Bool
is_met bytes used t = used (text_of bytes t)

-- These tokens are others, of which some names that vanish may be left out.
abbrev pub Thins : List ℕ → Fates → List Token → List Token → Type 0
Thins bytes fates tokens [] = tokens ≡ []
Thins bytes fates tokens (t ∷ ts) =
    ((behind : List Token) × (tokens ≡ t ∷ behind) × Thins bytes fates behind ts) ⊎ ((vanishes bytes fates t ≡ true) × Thins bytes fates tokens ts)

-- these tokens are a name of this node
abbrev pub IsParent : List ℕ → Fates → List Token → ℕ → Type 0
IsParent bytes fates tokens i = (t : Token) × (tokens ≡ t ∷ []) × (fates (text_of bytes t) ≡ Some (Lasts i))

-- a node that isn't a root has nothing but a name of the node behind it
abbrev pub Follows : List ℕ → Fates → List Token → Link → ℕ → Type 0
Follows bytes fates tokens link zero = Unit {0}
Follows bytes fates tokens link (suc d) = IsParent bytes fates tokens link.parent

-- What becomes of a macro with this body.
abbrev pub IsFate : List ℕ → Findings → List ℕ → List Token → Fate → Type 0
IsFate bytes f name body (Vanishes k) = list_all (is_below bytes f.fates k) body ≡ true
IsFate bytes f name body (Lasts i) =
    (i < length f.nodes) × (name_at f.nodes i ≡ name) × Thins bytes f.fates (tokens_at f.nodes i) body
    × Follows bytes f.fates (tokens_at f.nodes i) (link_of f.nodes i) (depth_of f.nodes i)

-- A name has this body, whose names were met in bodies, and becomes this.
abbrev pub IsKnown : List ℕ → Macros → Findings → List ℕ → Fate → Type 0
IsKnown bytes macros f name fate = (body : List Token) × (macros name ≡ Some body) × (list_all (is_met bytes f.used) body ≡ true) × IsFate bytes f name body fate

-- What is known is so.
pub record Knows (bytes : List ℕ) (macros : Macros) (f : Findings) : Type 0 where
  pub forest : Forest f.nodes
  pub known : (name : List ℕ) (fate : Fate) → f.fates name ≡ Some fate → IsKnown bytes macros f name fate

-- it is known what becomes of a name, if it is a macro's
abbrev pub IsTold : Macros → Fates → List ℕ → Type 0
IsTold macros fates name = fates name ≡ None → macros name ≡ None

-- it is known of each of these names
abbrev pub AreTold : List ℕ → Macros → Fates → List Token → Type 0
AreTold bytes macros fates [] = Unit {0}
AreTold bytes macros fates (t ∷ ts) = IsTold macros fates (text_of bytes t) × AreTold bytes macros fates ts

-- What is known is so, and something is known of each macro whose name was met.
pub record Suffices (bytes : List ℕ) (macros : Macros) (f : Findings) : Type 0 where
  pub knows : Knows bytes macros f
  pub told : (name : List ℕ) → f.used name ≡ true → IsTold macros f.fates name

-- the name at an index
abbrev pub name_in_place : Keys → ℕ → Option (List ℕ)
name_in_place keys i = option_map (λ k. k.items) (slice_get keys i)

-- The first so many names are told.
abbrev pub ToldBelow : Macros → Fates → Keys → ℕ → Type 0
ToldBelow macros fates keys n = (n ≤ length keys) × ((i : ℕ) (name : List ℕ) → i < n → name_in_place keys i ≡ Some name → IsTold macros fates name)

-- These names stand in front of those.
abbrev pub Precedes : Keys → Keys → Type 0
Precedes keys more = (length keys ≤ length more) × ((i : ℕ) → i < length keys → slice_get more i ≡ slice_get keys i)

-- what is known of names is known still
abbrev pub IsKept : Fates → Fates → Type 0
IsKept fates more = (name : List ℕ) (fate : Fate) → fates name ≡ Some fate → more name ≡ Some fate

-- More is known than before, and it is so.
pub record Learns (bytes : List ℕ) (macros : Macros) (old new : Known) : Type 0 where
  pub knows : Knows bytes macros (findings_of new)
  pub kept : IsKept (fates_in old.fates.entries) (fates_in new.fates.entries)
  pub met : Precedes old.used.keys new.used.keys

-- each node that a name has is there
abbrev pub Bounded : Findings → Type 0
Bounded f = (name : List ℕ) (i : ℕ) → f.fates name ≡ Some (Lasts i) → i < length f.nodes

-- Each of these names is one of those.
abbrev pub Covers : (List ℕ → Bool) → (List ℕ → Bool) → Type 0
Covers these those = (name : List ℕ) → these name ≡ true → those name ≡ true

-- What is known with some macros is so with others, of which something else is known.
abbrev pub Keeps : List ℕ → Entries → Findings → Entries → Findings → Type 0
Keeps bytes es f es2 f2 = Suffices bytes (macros_in es) f → Suffices bytes (macros_in es2) f2

-- What is known when a name has been given another body, or none.
abbrev pub Forgets : List ℕ → Findings → Findings → Type 0
Forgets name f f2 = (bytes : List ℕ) (es es2 : Entries) (body : Option (List Token)) → macros_in es2 ≡ with_body name body (macros_in es) → Keeps bytes es f es2 f2

-- What is known at a place of the file is so.
abbrev pub Recalls : List ℕ → Place → Type 0
Recalls bytes place = Suffices bytes (macros_in place.macros.entries) (findings_of place.known)

-- the link of a node that is the next one
abbrev pub IsRootLink : List Node → Link → Type 0
IsRootLink nodes link = (link.depth ≡ 0) × (link.parent ≡ length nodes) × (link.jump ≡ length nodes) × (link.root ≡ length nodes)

abbrev pub IsInnerLink : List Node → ℕ → Link → Type 0
IsInnerLink nodes parent link =
    (link.depth ≡ suc (depth_of nodes parent)) × (link.parent ≡ parent) × IsBehind nodes parent link.jump × (link.root ≡ (link_of nodes parent).root)

abbrev pub LinksTo : List Node → ℕ → Link → Type 0
LinksTo nodes parent link = IsRootLink nodes link ⊎ IsInnerLink nodes parent link

abbrev pub IsLinkFor : List ℕ → Findings → List Token → Link → Type 0
IsLinkFor bytes f tokens link = IsRootLink f.nodes link ⊎ ((parent : ℕ) × (parent < length f.nodes) × IsParent bytes f.fates tokens parent × IsInnerLink f.nodes parent link)

-- a node is added, which is a name's
abbrev pub Adds : List ℕ → Findings → List ℕ → List Token → Findings → Type 0
Adds bytes f name body f2 =
    (node : Node) × (f2.nodes ≡ f.nodes ++ node ∷ []) × (node.name.items ≡ name) × Thins bytes f.fates node.tokens.items body × IsLinkFor bytes f node.tokens.items node.link
    × (f2.fates ≡ with_fate name (Some (Lasts (length f.nodes))) f.fates) × (f2.used ≡ f.used)

-- The roots that are being replaced, the innermost first, each with the node at which it was entered.
abbrev pub Opens : Type 0
Opens = List (ℕ × ℕ)

abbrev pub opens_of : Opens → Opens
opens_of entries = reverse entries

-- all but the innermost
abbrev pub outer : Opens → Opens
outer [] = []
outer (o ∷ os) = os

-- each root is there once
abbrev pub Distinct : Opens → Type 0
Distinct [] = Unit {0}
Distinct (o ∷ os) = (lookup (nat_eq o.0) os ≡ None) × Distinct os

-- names, and within them those from a node up to its root
abbrev pub pushed : List Node → ℕ → ℕ → List (List ℕ) → List (List ℕ)
pushed nodes zero i names = name_at nodes i ∷ names
pushed nodes (suc d) i names = pushed nodes d (link_of nodes i).parent (name_at nodes i ∷ names)

-- the names that are being replaced, the innermost first
abbrev pub names_at : List Node → Opens → List (List ℕ)
names_at nodes [] = []
names_at nodes (o ∷ os) = pushed nodes (depth_of nodes o.1) o.1 (names_at nodes os)

-- each root is entered once, at a node of which it is the root
abbrev pub AreOpen : Findings → Opens → Type 0
AreOpen f [] = Unit {0}
AreOpen f (o ∷ os) =
    (f.fates (name_at f.nodes o.1) ≡ Some (Lasts o.1)) × ((link_of f.nodes o.1).root ≡ o.0) × (lookup (nat_eq o.0) os ≡ None) × AreOpen f os

-- what is given for a name of this node
abbrev pub Stays : List Node → ℕ → ℕ → Token → Token → Type 0
Stays nodes node entry t found =
    (IsBehind nodes entry node × (found ≡ t))
    ⊎ ((last : ℕ) × (next : Token) × (more : List Token) × IsLastBefore nodes node entry last × (tokens_at nodes last ≡ next ∷ more) × (found ≡ placed (Some t.line) next))
