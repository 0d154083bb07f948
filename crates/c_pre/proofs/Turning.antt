-- What is done with a token, as the code does it.
use Rattle.std.proofs.Common.{◌≡◌, ◌<◌, ◌+◌, ℕ, zero, suc, length, arith, List, [], ◌∷◌, ◌++◌, true, false, Option, Some, None, nat_eq, refl, sym, ap, subst, ◌∙◌}
use Rattle.std.specs.Prelude.{Bool, cond, slice_index_or}
use Rattle.std.specs.List.{list_any}
use Rattle.std.specs.Map.{lookup}
use Rattle.std.specs.Str.{bytes_eq}
use Rattle.std.proofs.lemmas.List.{append-nil}
use Rattle.c_token.specs.declared.token.Token.{Token}
use Rattle.c_token.specs.Spelling.{text_of}
use Rattle.c_pre.specs.declared.known.Node.{Node}
use Rattle.c_pre.specs.declared.known.Fate.{Fate}
use Rattle.c_pre.specs.declared.known.Fate.TheVariants.{Vanishes, Lasts}
use Rattle.c_pre.specs.declared.replacing.Rest.{Rest}
use Rattle.c_pre.specs.Macros.{Macros, body_for, placed}
use Rattle.c_pre.specs.Known.{Findings, tokens_at, depth_of, IsBehind, IsLastBefore, does_vanish, Knows, Opens, outer, names_at, AreOpen, Stays}
use Rattle.c_pre.specs.Waiting.{Waiting, list_of, rest_of, rests_of, put_back, FirstLine, Goes, Exceeds, Leads}
use Rattle.c_pre.proofs.Trees.{root_of, root_itself}
use Rattle.c_pre.proofs.Chains.{Alive, owned, leads_to, alive_behind, entry_alive}
use Rattle.c_pre.proofs.Leading.{leads_done, leads_stays, leads_vanishes, leads_root, leads_inside}

pub first_there : (ts : List Token) (d : Token) → (ts ≡ [] → ⊥) → (behind : List Token) × (ts ≡ slice_index_or ts 0 d ∷ behind)
first_there [] d some = absurd (some refl)
first_there (t ∷ ts) d some = (ts, refl)

-- the last node before an entry leads to the next one
pub last_leads : (bytes : List ℕ) (macros : Macros) (f : Findings) (name : List ℕ) (i entry last : ℕ) (o : Option Fate) → Knows bytes macros f → o ≡ f.fates name → o ≡ Some (Lasts i) → IsLastBefore f.nodes i entry last → tokens_at f.nodes last ≡ [] → ⊥
last_leads bytes macros f name i entry last o h g is before none = by (depth_of f.nodes last) refl where
  alive : Alive f last
  alive =
      let own = h.known name (Lasts i) (sym g ∙ is) in
      alive_behind bytes macros f i last h (ap f.fates own.3.1 ∙ sym g ∙ is) before.behind

  by : (d : ℕ) → depth_of f.nodes last ≡ d → ⊥
  by zero e =
      let own = owned bytes macros f last h alive in
      before.outside (subst (λ (x : ℕ). IsBehind f.nodes entry x) (root_itself f.nodes last h.forest own.2 e).0 before.inside)
  by (suc d) e = let leads = leads_to bytes macros f last d h alive e in let two = sym none ∙ leads.1 in cc

pub entry_within : (bytes : List ℕ) (macros : Macros) (f : Findings) (opens : Opens) (root entry : ℕ) (o : Option ℕ) → Knows bytes macros f → AreOpen f opens → o ≡ lookup (nat_eq root) opens → o ≡ Some entry → entry < length f.nodes
entry_within bytes macros f opens root entry o h are e is = (owned bytes macros f entry h (entry_alive f opens root entry are (sym e ∙ is)).0).2

pub turn_vanishes : (bytes : List ℕ) (macros : Macros) (f : Findings) (line : Option ℕ) (t : Token) (rests : List Waiting) (opens : Opens) (out : List Token) (o : Option Fate) (k : ℕ) → Knows bytes macros f → AreOpen f opens → FirstLine line rests →
    o ≡ f.fates (text_of bytes t) → o ≡ Some (Vanishes k) → Goes bytes macros f.nodes (put_back t rests) opens rests opens out out
turn_vanishes bytes macros f line t [] opens out o k h are first e is = absurd first
turn_vanishes bytes macros f line t (r ∷ rs) opens out o k h are first e is = ([], sym (append-nil out), leads_vanishes bytes macros f r.1 t r.0 rs opens h are (ap does_vanish (sym e ∙ is)))

none_for : (macros : Macros) (names : List (List ℕ)) (name : List ℕ) → macros name ≡ None → body_for macros names name ≡ None
none_for macros names name e = by (list_any (bytes_eq name) names) where
  by : (b : Bool) → cond b None (macros name) ≡ None
  by true = refl
  by false = e

stays_on : (bytes : List ℕ) (macros : Macros) (nodes : List Node) (line : Option ℕ) (t p : Token) (rests : List Waiting) (opens : Opens) → FirstLine line rests → macros (text_of bytes t) ≡ None → p ≡ placed line t →
    Leads bytes macros nodes (put_back t rests) opens rests opens (p ∷ [])
stays_on bytes macros nodes line t p [] opens first none e = absurd first
stays_on bytes macros nodes line t p (r ∷ rs) opens first none e =
    let lead = leads_stays bytes macros nodes r.1 t r.0 rs opens (none_for macros (names_at nodes opens) (text_of bytes t) none) in
    let same : placed r.1 t ≡ p = ap (λ (l : Option ℕ). placed l t) first ∙ sym e in
    subst (λ (x : Token). Leads bytes macros nodes (put_back t (r ∷ rs)) opens (r ∷ rs) opens (x ∷ [])) same lead

pub turn_stays : (bytes : List ℕ) (macros : Macros) (nodes : List Node) (line : Option ℕ) (t p : Token) (rests : List Waiting) (opens : Opens) (out out2 : List Token) → FirstLine line rests → macros (text_of bytes t) ≡ None → p ≡ placed line t →
    out2 ≡ out ++ p ∷ [] → Goes bytes macros nodes (put_back t rests) opens rests opens out out2
turn_stays bytes macros nodes line t p rests opens out out2 first none e g = (p ∷ [], g, stays_on bytes macros nodes line t p rests opens first none e)

pub turn_stays_many : (bytes : List ℕ) (macros : Macros) (nodes : List Node) (line : Option ℕ) (t p : Token) (rests : List Waiting) (opens : Opens) (out : List Token) → FirstLine line rests → macros (text_of bytes t) ≡ None → p ≡ placed line t →
    200000 < length out + 1 → Exceeds bytes macros nodes (put_back t rests) opens rests opens out
turn_stays_many bytes macros nodes line t p rests opens out first none e many = (p ∷ [], omega (arith, many), stays_on bytes macros nodes line t p rests opens first none e)

inside_on : (bytes : List ℕ) (macros : Macros) (f : Findings) (line : Option ℕ) (t p found : Token) (rests : List Waiting) (opens : Opens) (o : Option Fate) (i root : ℕ) (e : Option ℕ) (entry : ℕ) → Knows bytes macros f → AreOpen f opens → FirstLine line rests →
    o ≡ f.fates (text_of bytes t) → o ≡ Some (Lasts i) → root ≡ root_of f.nodes i → e ≡ lookup (nat_eq root) opens → e ≡ Some entry → p ≡ placed line t → Stays f.nodes i entry p found → Leads bytes macros f.nodes (put_back t rests) opens rests opens (found ∷ [])
inside_on bytes macros f line t p found [] opens o i root e entry h are first g is r k open_here same stays = absurd first
inside_on bytes macros f line t p found (x ∷ rs) opens o i root e entry h are first g is r k open_here same stays =
    let placed_so : p ≡ placed x.1 t = same ∙ ap (λ (l : Option ℕ). placed l t) (sym first) in
    leads_inside bytes macros f x.1 t found x.0 rs opens i entry h are (sym g ∙ is) (ap (λ (n : ℕ). lookup (nat_eq n) opens) (sym r) ∙ sym k ∙ open_here)
    (subst (λ (y : Token). Stays f.nodes i entry y found) placed_so stays)

pub turn_inside : (bytes : List ℕ) (macros : Macros) (f : Findings) (line : Option ℕ) (t p found : Token) (rests : List Waiting) (opens : Opens) (o : Option Fate) (i root : ℕ) (e : Option ℕ) (entry : ℕ) (out out2 : List Token) → Knows bytes macros f → AreOpen f opens → FirstLine line rests →
    o ≡ f.fates (text_of bytes t) → o ≡ Some (Lasts i) → root ≡ root_of f.nodes i → e ≡ lookup (nat_eq root) opens → e ≡ Some entry → p ≡ placed line t → Stays f.nodes i entry p found → out2 ≡ out ++ found ∷ [] →
    Goes bytes macros f.nodes (put_back t rests) opens rests opens out out2
turn_inside bytes macros f line t p found rests opens o i root e entry out out2 h are first g is r k open_here same stays put =
    (found ∷ [], put, inside_on bytes macros f line t p found rests opens o i root e entry h are first g is r k open_here same stays)

pub turn_inside_many : (bytes : List ℕ) (macros : Macros) (f : Findings) (line : Option ℕ) (t p found : Token) (rests : List Waiting) (opens : Opens) (o : Option Fate) (i root : ℕ) (e : Option ℕ) (entry : ℕ) (out : List Token) → Knows bytes macros f → AreOpen f opens → FirstLine line rests →
    o ≡ f.fates (text_of bytes t) → o ≡ Some (Lasts i) → root ≡ root_of f.nodes i → e ≡ lookup (nat_eq root) opens → e ≡ Some entry → p ≡ placed line t → Stays f.nodes i entry p found → 200000 < length out + 1 →
    Exceeds bytes macros f.nodes (put_back t rests) opens rests opens out
turn_inside_many bytes macros f line t p found rests opens o i root e entry out h are first g is r k open_here same stays many =
    (found ∷ [], omega (arith, many), inside_on bytes macros f line t p found rests opens o i root e entry h are first g is r k open_here same stays)

-- a root is opened
pub turn_opens : (bytes : List ℕ) (macros : Macros) (f : Findings) (line : Option ℕ) (t p : Token) (tokens : List Token) (rests new_rests : List Waiting) (opens new_opens : Opens) (o : Option Fate) (i root : ℕ) (e : Option ℕ) (out : List Token) → Knows bytes macros f → AreOpen f opens → FirstLine line rests →
    o ≡ f.fates (text_of bytes t) → o ≡ Some (Lasts i) → root ≡ root_of f.nodes i → e ≡ lookup (nat_eq root) opens → e ≡ None → p ≡ placed line t → tokens ≡ tokens_at f.nodes root → new_rests ≡ (tokens, Some p.line) ∷ rests → new_opens ≡ (root, i) ∷ opens →
    Goes bytes macros f.nodes (put_back t rests) opens new_rests new_opens out out
turn_opens bytes macros f line t p tokens [] new_rests opens new_opens o i root e out h are first g is r k closed same at put enters = absurd first
turn_opens bytes macros f line t p tokens (x ∷ rs) new_rests opens new_opens o i root e out h are first g is r k closed same at put enters = ([], sym (append-nil out), lead) where
  nodes : List Node
  nodes = f.nodes

  whole : Leads bytes macros nodes (put_back t (x ∷ rs)) opens ((tokens_at nodes (root_of nodes i), Some (placed x.1 t).line) ∷ (x ∷ rs)) ((root_of nodes i, i) ∷ opens) []
  whole = leads_root bytes macros f x.1 t x.0 rs opens i h are (sym g ∙ is) (ap (λ (n : ℕ). lookup (nat_eq n) opens) (sym r) ∙ sym k ∙ closed)

  with_root : Leads bytes macros nodes (put_back t (x ∷ rs)) opens ((tokens_at nodes root, Some (placed x.1 t).line) ∷ (x ∷ rs)) ((root, i) ∷ opens) []
  with_root = subst (λ (n : ℕ). Leads bytes macros nodes (put_back t (x ∷ rs)) opens ((tokens_at nodes n, Some (placed x.1 t).line) ∷ (x ∷ rs)) ((n, i) ∷ opens) []) (sym r) whole

  rests_are : new_rests ≡ (tokens_at nodes root, Some (placed x.1 t).line) ∷ (x ∷ rs)
  rests_are =
      put ∙ ap (λ (ts : List Token). (ts, Some p.line) ∷ (x ∷ rs)) at
      ∙ ap (λ (y : Token). (tokens_at nodes root, Some y.line) ∷ (x ∷ rs)) (same ∙ ap (λ (l : Option ℕ). placed l t) (sym first))

  lead : Leads bytes macros nodes (put_back t (x ∷ rs)) opens new_rests new_opens []
  lead =
      subst (λ (os : Opens). Leads bytes macros nodes (put_back t (x ∷ rs)) opens new_rests os []) (sym enters)
      (subst (λ (ws : List Waiting). Leads bytes macros nodes (put_back t (x ∷ rs)) opens ws ((root, i) ∷ opens) []) (sym rests_are) with_root)

pub step_done : (bytes : List ℕ) (macros : Macros) (nodes : List Node) (rest : Rest) (old : List Rest) (opens new_opens : Opens) (out : List Token) → list_of rest.tokens ≡ [] → new_opens ≡ outer opens →
    Goes bytes macros nodes (rest_of rest ∷ rests_of old) opens (rests_of old) new_opens out out
step_done bytes macros nodes rest old opens new_opens out none left = (
  [],
  sym (append-nil out),
  subst (λ (os : Opens). Leads bytes macros nodes (rest_of rest ∷ rests_of old) opens (rests_of old) os []) (sym left)
      (leads_done bytes macros nodes rest.line (list_of rest.tokens) (rests_of old) opens none),
)
