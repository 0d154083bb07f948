-- The steps of replacing a text.
use Rattle.std.proofs.Common.{◌≡◌, ◌<◌, ◌≤◌, ◌+◌, ℕ, zero, suc, length, arith, List, [], ◌∷◌, ◌++◌, Option, Some, None, nat_eq, refl, sym, ap, subst, inl, inr, ◌∙◌}
use Rattle.std.specs.Prelude.{Bool, true, cond}
use Rattle.std.specs.Str.{bytes_eq}
use Rattle.std.specs.List.{list_any}
use Rattle.std.specs.Map.{lookup}
use Rattle.std.proofs.lemmas.List.{append_assoc, append-nil, length-append}
use Rattle.c_token.specs.declared.token.Token.{Token}
use Rattle.c_token.specs.Spelling.{text_of}
use Rattle.c_pre.specs.declared.known.Node.{Node}
use Rattle.c_pre.specs.declared.known.Fate.TheVariants.{Lasts}
use Rattle.c_pre.specs.Macros.{Macros, body_for, placed, done, stays, replaced, Becomes, IsReplacedBy}
use Rattle.c_pre.specs.Known.{Findings, link_of, tokens_at, name_at, depth_of, IsBehind, does_vanish, Knows, Opens, outer, names_at, AreOpen, Stays}
use Rattle.c_pre.specs.declared.replacing.Rest.{Rest}
use Rattle.c_pre.specs.Waiting.{Waiting, rest_of, rests_of, Waits, Leads}
use Rattle.c_pre.proofs.Names.{rests_push}
use Rattle.c_pre.proofs.Trees.{root_of, climbs, behind_within, root_itself}
use Rattle.c_pre.proofs.Vanishing.{token_vanishes}
use Rattle.c_pre.proofs.Chains.{Alive, owned, Enters, chain_enters, chain_stays, open_lasting, entry_alive, outside_closed, outside_open, inside_open}

-- Whatever the rests become, the text becomes that with these tokens in front.
abbrev pub Wholes : List ℕ → Macros → List Node → List Token → List Waiting → Opens → List Token → Type 0
Wholes bytes macros nodes text rests opens given = (found : List Token) → Waits bytes macros nodes rests opens found → IsReplacedBy bytes macros [] None text (given ++ found)

pub leads_done : (bytes : List ℕ) (macros : Macros) (nodes : List Node) (line : Option ℕ) (ts : List Token) (rs : List Waiting) (opens : Opens) → ts ≡ [] →
    Leads bytes macros nodes ((ts, line) ∷ rs) opens rs (outer opens) []
leads_done bytes macros nodes line ts rs opens none found w =
    let ends : Becomes bytes macros (names_at nodes opens) line done ts [] = subst (λ (xs : List Token). Becomes bytes macros (names_at nodes opens) line done xs []) (sym none) refl in
    ([], found, (done, ends), w, refl)

-- a token that stays
pub leads_stays : (bytes : List ℕ) (macros : Macros) (nodes : List Node) (line : Option ℕ) (t : Token) (ts : List Token) (rs : List Waiting) (opens : Opens) →
    body_for macros (names_at nodes opens) (text_of bytes t) ≡ None → Leads bytes macros nodes ((t ∷ ts, line) ∷ rs) opens ((ts, line) ∷ rs) opens (placed line t ∷ [])
leads_stays bytes macros nodes line t ts rs opens h found (front, more, (how, b), w, e) =
    (placed line t ∷ front, more, (stays how, (h, (front, b, refl))), w, ap (λ (xs : List Token). placed line t ∷ xs) e)

-- a token that becomes these
pub leads_enters : (bytes : List ℕ) (macros : Macros) (nodes : List Node) (line : Option ℕ) (t : Token) (ts given : List Token) (rs : List Waiting) (opens : Opens) →
    Enters bytes macros (names_at nodes opens) (text_of bytes t) (placed line t).line given → Leads bytes macros nodes ((t ∷ ts, line) ∷ rs) opens ((ts, line) ∷ rs) opens given
leads_enters bytes macros nodes line t ts given rs opens (body, m, (inside, x)) found (front, more, (how, b), w, e) = (
  given ++ front,
  more,
  (replaced inside how, (body, m, (given, front, x, b, refl))),
  w,
  ap (λ (xs : List Token). given ++ xs) e ∙ sym (append_assoc given front more),
)

-- a token that becomes what a body of a root becomes
pub leads_opens : (bytes : List ℕ) (macros : Macros) (nodes : List Node) (line : Option ℕ) (t : Token) (ts body : List Token) (rs : List Waiting) (opens : Opens) (o : ℕ × ℕ) →
    ((found : List Token) → IsReplacedBy bytes macros (names_at nodes (o ∷ opens)) (Some (placed line t).line) body found → Enters bytes macros (names_at nodes opens) (text_of bytes t) (placed line t).line found) →
    Leads bytes macros nodes ((t ∷ ts, line) ∷ rs) opens ((body, Some (placed line t).line) ∷ ((ts, line) ∷ rs)) (o ∷ opens) []
leads_opens bytes macros nodes line t ts body rs opens o enters found (front, more, is, w, e) =
    let rest = leads_enters bytes macros nodes line t ts front rs opens (enters front is) more w in
    subst (λ (xs : List Token). Waits bytes macros nodes ((t ∷ ts, line) ∷ rs) opens xs) (sym e) rest

-- a token that vanishes
pub leads_vanishes : (bytes : List ℕ) (macros : Macros) (f : Findings) (line : Option ℕ) (t : Token) (ts : List Token) (rs : List Waiting) (opens : Opens) → Knows bytes macros f → AreOpen f opens →
    does_vanish (f.fates (text_of bytes t)) ≡ true → Leads bytes macros f.nodes ((t ∷ ts, line) ∷ rs) opens ((ts, line) ∷ rs) opens []
leads_vanishes bytes macros f line t ts rs opens h are v found (front, more, is, w, e) =
    (front, more, token_vanishes bytes macros f h line (names_at f.nodes opens) t ts front v (open_lasting bytes macros f h opens are) is, w, e)

-- the name of a node, as a token spells it
named : (bytes : List ℕ) (macros : Macros) (f : Findings) (name : List ℕ) (i : ℕ) → Knows bytes macros f → f.fates name ≡ Some (Lasts i) → (name_at f.nodes i ≡ name) × Alive f i
named bytes macros f name i h is = let e = (h.known name (Lasts i) is).3.1 in (e, ap f.fates e ∙ is)

-- a token whose root isn't being replaced
pub leads_root : (bytes : List ℕ) (macros : Macros) (f : Findings) (line : Option ℕ) (t : Token) (ts : List Token) (rs : List Waiting) (opens : Opens) (i : ℕ) → Knows bytes macros f → AreOpen f opens →
    f.fates (text_of bytes t) ≡ Some (Lasts i) → lookup (nat_eq (root_of f.nodes i)) opens ≡ None →
    Leads bytes macros f.nodes ((t ∷ ts, line) ∷ rs) opens ((tokens_at f.nodes (root_of f.nodes i), Some (placed line t).line) ∷ ((ts, line) ∷ rs)) ((root_of f.nodes i, i) ∷ opens) []
leads_root bytes macros f line t ts rs opens i h are is closed =
    let at = named bytes macros f (text_of bytes t) i h is in
    leads_opens bytes macros f.nodes line t ts (tokens_at f.nodes (root_of f.nodes i)) rs opens (root_of f.nodes i, i)
    (λ found inner.
    subst (λ (n : List ℕ). Enters bytes macros (names_at f.nodes opens) n (placed line t).line found) at.0
    (chain_enters bytes macros f h (depth_of f.nodes i) i refl (placed line t).line (names_at f.nodes opens) found at.1 (open_lasting bytes macros f h opens are) (outside_closed bytes macros f h opens are i at.1 closed) inner))

pub open_root : (bytes : List ℕ) (macros : Macros) (f : Findings) (name : List ℕ) (opens : Opens) (i : ℕ) → Knows bytes macros f → AreOpen f opens → f.fates name ≡ Some (Lasts i) → lookup (nat_eq (root_of f.nodes i)) opens ≡ None →
    AreOpen f ((root_of f.nodes i, i) ∷ opens)
open_root bytes macros f name opens i h are is closed = ((named bytes macros f name i h is).1, refl, closed, are)

any_none : (macros : Macros) (names : List (List ℕ)) (name : List ℕ) → list_any (bytes_eq name) names ≡ true → body_for macros names name ≡ None
any_none macros names name e = ap (λ (b : Bool). cond b None (macros name)) e

-- a token whose root is being replaced
pub leads_inside : (bytes : List ℕ) (macros : Macros) (f : Findings) (line : Option ℕ) (t found : Token) (ts : List Token) (rs : List Waiting) (opens : Opens) (i entry : ℕ) → Knows bytes macros f → AreOpen f opens →
    f.fates (text_of bytes t) ≡ Some (Lasts i) → lookup (nat_eq (root_of f.nodes i)) opens ≡ Some entry → Stays f.nodes i entry (placed line t) found →
    Leads bytes macros f.nodes ((t ∷ ts, line) ∷ rs) opens ((ts, line) ∷ rs) opens (found ∷ [])
leads_inside bytes macros f line t found ts rs opens i entry h are is open_here (inl (behind, same)) =
    let at = named bytes macros f (text_of bytes t) i h is in
    let inside = inside_open bytes macros f h opens are (root_of f.nodes i) entry i open_here behind in
    let here = ap (λ (n : List ℕ). list_any (bytes_eq n) (names_at f.nodes opens)) (sym at.0) ∙ inside in
    subst (λ (x : Token). Leads bytes macros f.nodes ((t ∷ ts, line) ∷ rs) opens ((ts, line) ∷ rs) opens (x ∷ [])) (sym same)
    (leads_stays bytes macros f.nodes line t ts rs opens (any_none macros (names_at f.nodes opens) (text_of bytes t) here))
leads_inside bytes macros f line t found ts rs opens i entry h are is open_here (inr (last, next, more, is_last, tokens, same)) =
    let at = named bytes macros f (text_of bytes t) i h is in
    let own = owned bytes macros f i h at.1 in
    let steps = is_last.behind in
    let climbed = climbs f.nodes steps.0 i h.forest own.2 steps.1 in
    let entry_is = entry_alive f opens (root_of f.nodes i) entry are open_here in
    let inside = inside_open bytes macros f h opens are (root_of f.nodes i) entry (link_of f.nodes last).parent open_here is_last.inside in
    let outside = outside_open bytes macros f h opens are i entry steps.0 last at.1 open_here steps.1 steps.2 is_last.outside in
    let deep = not_root last own.2 steps (λ e. is_last.outside (subst (λ (x : ℕ). IsBehind f.nodes entry x) e is_last.inside)) in
    let becomes = chain_stays bytes macros f h steps.0 i last next more steps.2 deep tokens (placed line t).line (names_at f.nodes opens) at.1 (open_lasting bytes macros f h opens are) outside inside in
    let named_so = subst (λ (n : List ℕ). Enters bytes macros (names_at f.nodes opens) n (placed line t).line (placed (Some (placed line t).line) next ∷ [])) at.0 becomes in
    subst (λ (x : Token). Leads bytes macros f.nodes ((t ∷ ts, line) ∷ rs) opens ((ts, line) ∷ rs) opens (x ∷ [])) (sym same)
    (leads_enters bytes macros f.nodes line t ts (placed (Some (placed line t).line) next ∷ []) rs opens named_so) where
      not_root : (x : ℕ) → i < length f.nodes → (b : IsBehind f.nodes i x) → ((link_of f.nodes x).parent ≡ x → ⊥) → suc b.0 ≤ depth_of f.nodes i
      not_root x l b apart = by (depth_of f.nodes x) refl where
        by : (d : ℕ) → depth_of f.nodes x ≡ d → suc b.0 ≤ depth_of f.nodes i
        by zero e =
            let within = behind_within f.nodes i x h.forest l b in
            absurd (apart (root_itself f.nodes x h.forest within.0 e).0)
        by (suc d) e =
            let up_to = climbs f.nodes b.0 i h.forest l b.1 in
            let same_depth = ap (depth_of f.nodes) b.2 in
            omega (arith, up_to.1, same_depth, e)

pub wholes_start : (bytes : List ℕ) (macros : Macros) (nodes : List Node) (text : List Token) → Wholes bytes macros nodes text ((text, None) ∷ []) [] []
wholes_start bytes macros nodes text found (front, more, r, w, e) =
    subst (λ (xs : List Token). IsReplacedBy bytes macros [] None text xs) (sym (e ∙ ap (λ (xs : List Token). front ++ xs) w ∙ append-nil front)) r

pub wholes_more : (bytes : List ℕ) (macros : Macros) (nodes : List Node) (text : List Token) (rests : List Waiting) (opens : Opens) (new_rests : List Waiting) (new_opens : Opens) (given next : List Token) →
    Wholes bytes macros nodes text rests opens given → Leads bytes macros nodes rests opens new_rests new_opens next → Wholes bytes macros nodes text new_rests new_opens (given ++ next)
wholes_more bytes macros nodes text rests opens new_rests new_opens given next h l found w =
    subst (λ (xs : List Token). IsReplacedBy bytes macros [] None text xs) (sym (append_assoc given next found)) (h (next ++ found) (l found w))

pub wholes_end : (bytes : List ℕ) (macros : Macros) (nodes : List Node) (text : List Token) (opens : Opens) (given : List Token) →
    Wholes bytes macros nodes text [] opens given → IsReplacedBy bytes macros [] None text given
wholes_end bytes macros nodes text opens given h = subst (λ (xs : List Token). IsReplacedBy bytes macros [] None text xs) (append-nil given) (h [] refl)

pub wholes_first : (bytes : List ℕ) (macros : Macros) (nodes : List Node) (text : List Token) (none : List Rest) (new : List Waiting) (opens : Opens) → none ≡ [] → opens ≡ [] → new ≡ (text, None) ∷ rests_of none →
    Wholes bytes macros nodes text new opens []
wholes_first bytes macros nodes text none new opens e n put =
    let rests : new ≡ (text, None) ∷ [] = put ∙ ap (λ (rs : List Rest). (text, None) ∷ rests_of rs) e in
    subst (λ (ws : List Waiting). Wholes bytes macros nodes text ws opens []) (sym rests)
    (subst (λ (os : Opens). Wholes bytes macros nodes text ((text, None) ∷ []) os []) (sym n) (wholes_start bytes macros nodes text))

no_rests : (rests : List Rest) → length rests ≡ 0 → rests ≡ []
no_rests [] e = refl
no_rests (r ∷ rs) e = absurd (omega (arith, e))

pub wholes_done : (bytes : List ℕ) (macros : Macros) (nodes : List Node) (text : List Token) (rests : List Rest) (opens : Opens) (given : List Token) → length rests ≡ 0 →
    Wholes bytes macros nodes text (rests_of rests) opens given → IsReplacedBy bytes macros [] None text given
wholes_done bytes macros nodes text rests opens given e h =
    wholes_end bytes macros nodes text opens given (subst (λ (rs : List Rest). Wholes bytes macros nodes text (rests_of rs) opens given) (no_rests rests e) h)

pub wholes_step : (bytes : List ℕ) (macros : Macros) (nodes : List Node) (text : List Token) (old popped : List Rest) (r : Rest) (opens : Opens) (new_rests : List Waiting) (new_opens : Opens) (given next : List Token) →
    old ≡ popped ++ r ∷ [] → Wholes bytes macros nodes text (rests_of old) opens given → Leads bytes macros nodes (rest_of r ∷ rests_of popped) opens new_rests new_opens next →
    Wholes bytes macros nodes text new_rests new_opens (given ++ next)
wholes_step bytes macros nodes text old popped r opens new_rests new_opens given next e h lead =
    let moved = subst (λ (ws : List Waiting). Wholes bytes macros nodes text ws opens given) (ap rests_of e ∙ rests_push popped r) h in
    wholes_more bytes macros nodes text (rest_of r ∷ rests_of popped) opens new_rests new_opens given next moved lead

pub out_more : (old out given next new : List Token) → out ≡ old ++ given → new ≡ out ++ next → new ≡ old ++ (given ++ next)
out_more old out given next new e f = f ∙ ap (λ (xs : List Token). xs ++ next) e ∙ append_assoc old given next

pub too_many : (old out given found next : List Token) → out ≡ old ++ given → 200000 < length out + length next → 200000 < length old + length ((given ++ next) ++ found)
too_many old out given found next e l =
    let count = ap (λ (xs : List Token). length xs) e in
    omega (arith, l, count, length-append old given, length-append (given ++ next) found, length-append given next)
