-- What is known of names is known still where more is learnt, and in the end something is known of each macro.
use Rattle.std.proofs.Common.{◌≡◌, ◌<◌, ◌≤◌, ◌+◌, ℕ, List, [], ◌∷◌, ◌++◌, length, Bool, true, cond, Option, Some, None, refl, sym, ap, subst, inl, inr, ◌⊎◌, ◌∙◌, arith}
use Rattle.std.specs.Prelude.{is_some}
use Rattle.std.specs.List.{list_all}
use Rattle.std.proofs.lemmas.Slice.Eq.{bytes_eq-Decides}
use Rattle.c_token.specs.declared.token.Token.{Token}
use Rattle.c_token.specs.Spelling.{text_of}
use Rattle.c_pre.specs.declared.known.Fate.{Fate}
use Rattle.c_pre.specs.declared.known.Fate.TheVariants.{Vanishes, Lasts}
use Rattle.c_pre.specs.declared.known.Known.{Known}
use Rattle.c_pre.specs.declared.known.Node.{Node}
use Rattle.c_pre.specs.declared.replacing.Rest.{Rest}
use Rattle.c_pre.specs.Macros.{Macros}
use Rattle.c_pre.specs.Known.{Fates, fates_in, with_fate, Keys, is_in, Findings, findings, findings_of, tokens_at, name_in_place, is_below, is_met, IsKnown, Knows, Adds, IsTold, AreTold, ToldBelow, Precedes, IsKept, Learns, Suffices}
use Rattle.c_pre.specs.Waiting.{Waiting, rest_of, rests_of, RestsTold}
use Rattle.c_pre.proofs.Trees.{root_of, behind_root}
use Rattle.c_pre.proofs.Keeping.{both, thins_met}
use Rattle.c_pre.proofs.Marked.{precedes_self, precedes_more, placed_in, in_place, place_within, place_kept, precedes_covers}
use Rattle.c_pre.proofs.Noted.{last_or_before, with_more, knows_marked, knows_vanishing, knows_added}
use Rattle.c_pre.proofs.Chains.{Alive, alive_behind}
use Rattle.c_pre.proofs.Names.{rests_push}

pub kept_self : (fates : Fates) → IsKept fates fates
kept_self fates name fate is = is

pub told_kept : (macros : Macros) (a b : Fates) (name : List ℕ) → IsKept a b → IsTold macros a name → IsTold macros b name
told_kept macros a b name k h none = by (a name) refl where
  by : (o : Option Fate) → a name ≡ o → macros name ≡ None
  by None e = h e
  by (Some fate) e = let two = sym (k name fate e) ∙ none in cc

pub tokens_kept : (bytes : List ℕ) (macros : Macros) (a b : Fates) → IsKept a b → (ts : List Token) → AreTold bytes macros a ts → AreTold bytes macros b ts
tokens_kept bytes macros a b k [] h = tt
tokens_kept bytes macros a b k (t ∷ ts) (h, hs) = (told_kept macros a b (text_of bytes t) k h, tokens_kept bytes macros a b k ts hs)

-- a name of which something is known, or that is no macro's
pub told_fate : (macros : Macros) (fates : Fates) (name : List ℕ) (o : Option Fate) → o ≡ fates name → is_some o ≡ true → IsTold macros fates name
told_fate macros fates name None e is none = cc
told_fate macros fates name (Some fate) e is none = let two : Some fate ≡ None = e ∙ none in cc

told_with : (macros : Macros) (fates fates2 : Fates) (name : List ℕ) (fate : Fate) → fates2 ≡ with_fate name (Some fate) fates → IsTold macros fates2 name
told_with macros fates fates2 name fate e none =
    let same = (bytes_eq-Decides name name).1 refl in
    let is : fates2 name ≡ Some fate = ap (λ (s : Fates). s name) e ∙ ap (λ (b : Bool). cond b (Some fate) (fates name)) same in
    let two : Some fate ≡ None = sym is ∙ none in
    cc

pub told_added : (bytes : List ℕ) (macros : Macros) (f f2 : Findings) (name : List ℕ) (body : List Token) → Adds bytes f name body f2 → IsTold macros f2.fates name
told_added bytes macros f f2 name body (node, at, n, thin, link, e, u) = told_with macros f.fates f2.fates name (Lasts (length f.nodes)) e

-- the names in front are told
pub below_kept : (macros : Macros) (a b : Fates) (keys more : Keys) (n : ℕ) → IsKept a b → Precedes keys more → ToldBelow macros a keys n → ToldBelow macros b more n
below_kept macros a b keys more n k before (few, h) = (
  omega (arith, few, before.0),
  λ i name less is. told_kept macros a b name k (h i name less (sym (place_kept keys more i before (omega (arith, less, few))) ∙ is)),
)

pub below_next : (macros : Macros) (a b : Fates) (keys more : Keys) (n : ℕ) (name : List ℕ) → IsKept a b → Precedes keys more → ToldBelow macros a keys n → name_in_place keys n ≡ Some name → IsTold macros b name → ToldBelow macros b more (n + 1)
below_next macros a b keys more n name k before h here told = (omega (arith, within, before.0), λ i x less is. by i x is (last_or_before n i less)) where
  within : n < length keys
  within = place_within keys n name here

  by : (i : ℕ) (x : List ℕ) → name_in_place more i ≡ Some x → (i < n) ⊎ (i ≡ n) → IsTold macros b x
  by i x is (inl less) = (below_kept macros a b keys more n k before h).1 i x less is
  by i x is (inr e) =
      let both_are : Some name ≡ Some x = sym here ∙ sym (place_kept keys more n before within) ∙ ap (name_in_place more) (sym e) ∙ is in
      let same : name ≡ x = cc in
      subst (λ (y : List ℕ). IsTold macros b y) same told

pub below_all : (macros : Macros) (fates : Fates) (keys : Keys) (n : ℕ) → length keys ≤ n → ToldBelow macros fates keys n → (name : List ℕ) → is_in keys name ≡ true → IsTold macros fates name
below_all macros fates keys n long h name is = let at = placed_in keys name is in h.1 at.0 name (omega (arith, at.1, long)) at.2

pub all_below : (macros : Macros) (fates : Fates) (keys : Keys) (n : ℕ) → n ≡ length keys → ((name : List ℕ) → is_in keys name ≡ true → IsTold macros fates name) → ToldBelow macros fates keys n
all_below macros fates keys n e h = (omega (arith, e), λ i name less is. h name (in_place keys i name is))

-- more is learnt
pub learns_self : (bytes : List ℕ) (macros : Macros) (known : Known) → Knows bytes macros (findings_of known) → Learns bytes macros known known
learns_self bytes macros known h = record { knows = h; kept = λ name fate is. is; met = precedes_self known.used.keys }

pub learns_more : (bytes : List ℕ) (macros : Macros) (a b c : Known) → Learns bytes macros a b → Learns bytes macros b c → Learns bytes macros a c
learns_more bytes macros a b c h k = record {
  knows = k.knows;
  kept = λ name fate is. k.kept name fate (h.kept name fate is);
  met = precedes_more a.used.keys b.used.keys c.used.keys h.met k.met;
}

-- one macro is noted, and the names in its body as met
marked : (bytes : List ℕ) (macros : Macros) (old : Known) (keys : Keys) → Knows bytes macros (findings_of old) → Precedes old.used.keys keys → Knows bytes macros (findings (fates_in old.fates.entries) old.nodes.items (is_in keys))
marked bytes macros old keys h before =
    knows_marked bytes macros (fates_in old.fates.entries) old.nodes.items (is_in old.used.keys) (is_in keys) (precedes_covers old.used.keys keys before) h

pub learns_added : (bytes : List ℕ) (macros : Macros) (old new : Known) (keys : Keys) (name : List ℕ) (body : List Token) → Knows bytes macros (findings_of old) → fates_in old.fates.entries name ≡ None → macros name ≡ Some body →
    Precedes old.used.keys keys → list_all (is_met bytes (is_in keys)) body ≡ true → Adds bytes (findings (fates_in old.fates.entries) old.nodes.items (is_in keys)) name body (findings_of new) → new.used.keys ≡ keys →
    Learns bytes macros old new
learns_added bytes macros old new keys name body h none m before met adds same = record {
  knows = knows_added bytes macros (findings (fates_in old.fates.entries) old.nodes.items (is_in keys)) (findings_of new) name body (marked bytes macros old keys h before) none m met adds;
  kept = kept adds;
  met = subst (λ (ks : Keys). Precedes old.used.keys ks) (sym same) before;
} where
  kept : Adds bytes (findings (fates_in old.fates.entries) old.nodes.items (is_in keys)) name body (findings_of new) → IsKept (fates_in old.fates.entries) (fates_in new.fates.entries)
  kept (node, at, n, thin, link, e, u) x fate is = ap (λ (s : Fates). s x) e ∙ with_more name (Some (Lasts (length old.nodes.items))) (fates_in old.fates.entries) none x fate is

pub learns_vanishing : (bytes : List ℕ) (macros : Macros) (old new : Known) (keys : Keys) (name : List ℕ) (k : ℕ) (body : List Token) → Knows bytes macros (findings_of old) → fates_in old.fates.entries name ≡ None → macros name ≡ Some body →
    Precedes old.used.keys keys → list_all (is_met bytes (is_in keys)) body ≡ true → list_all (is_below bytes (fates_in old.fates.entries) k) body ≡ true →
    fates_in new.fates.entries ≡ with_fate name (Some (Vanishes k)) (fates_in old.fates.entries) → new.nodes.items ≡ old.nodes.items → new.used.keys ≡ keys → Learns bytes macros old new
learns_vanishing bytes macros old new keys name k body h none m before met below e nodes same = record {
  knows = subst (λ (ks : Keys). Knows bytes macros (findings (fates_in new.fates.entries) new.nodes.items (is_in ks))) (sym same)
      (subst (λ (xs : List Node). Knows bytes macros (findings (fates_in new.fates.entries) xs (is_in keys))) (sym nodes)
      (knows_vanishing bytes macros (fates_in old.fates.entries) (fates_in new.fates.entries) old.nodes.items (is_in keys) name k body (marked bytes macros old keys h before) none m met below e));
  kept = λ x fate is. ap (λ (s : Fates). s x) e ∙ with_more name (Some (Vanishes k)) (fates_in old.fates.entries) none x fate is;
  met = subst (λ (ks : Keys). Precedes old.used.keys ks) (sym same) before;
}

pub suffices_learnt : (bytes : List ℕ) (macros : Macros) (old new : Known) (n : ℕ) → Learns bytes macros old new → length new.used.keys ≤ n → ToldBelow macros (fates_in new.fates.entries) new.used.keys n → Suffices bytes macros (findings_of new)
suffices_learnt bytes macros old new n h long below = record { knows = h.knows; told = below_all macros (fates_in new.fates.entries) new.used.keys n long below }

-- All tokens of a text are told once those of its rest are.
abbrev pub Tells : List ℕ → Macros → Fates → List Token → List Token → Type 0
Tells bytes macros fates text rest = (more : Fates) → IsKept fates more → AreTold bytes macros more rest → AreTold bytes macros more text

pub tells_next : (bytes : List ℕ) (macros : Macros) (a b : Fates) (text rest behind : List Token) (t : Token) → Tells bytes macros a text rest → IsKept a b → IsTold macros b (text_of bytes t) → rest ≡ t ∷ behind → Tells bytes macros b text behind
tells_next bytes macros a b text rest behind t h k told e more wider all =
    h more (λ name fate is. wider name fate (k name fate is))
    (subst (λ (ts : List Token). AreTold bytes macros more ts) (sym e) (told_kept macros b more (text_of bytes t) wider told, all))

pub tells_done : (bytes : List ℕ) (macros : Macros) (fates : Fates) (text rest : List Token) → Tells bytes macros fates text rest → rest ≡ [] → AreTold bytes macros fates text
tells_done bytes macros fates text rest h e = h fates (kept_self fates) (subst (λ (ts : List Token). AreTold bytes macros fates ts) (sym e) tt)

-- tokens whose names were met are told, so those of a root's body are
met_told : (bytes : List ℕ) (macros : Macros) (f : Findings) → Suffices bytes macros f → (ts : List Token) → list_all (is_met bytes f.used) ts ≡ true → AreTold bytes macros f.fates ts
met_told bytes macros f h [] met = tt
met_told bytes macros f h (t ∷ ts) met =
    let parts = both (is_met bytes f.used t) (list_all (is_met bytes f.used) ts) met in
    (h.told (text_of bytes t) parts.0, met_told bytes macros f h ts parts.1)

pub root_told : (bytes : List ℕ) (macros : Macros) (f : Findings) (name : List ℕ) (o : Option Fate) (i root : ℕ) (tokens : List Token) → Suffices bytes macros f → o ≡ f.fates name → o ≡ Some (Lasts i) → root ≡ root_of f.nodes i → tokens ≡ tokens_at f.nodes root →
    AreTold bytes macros f.fates tokens
root_told bytes macros f name o i root tokens h g is r at =
    subst (λ (ts : List Token). AreTold bytes macros f.fates ts) (sym (at ∙ ap (tokens_at f.nodes) r)) (by (h.knows.known name (Lasts i) (sym g ∙ is))) where
      by : IsKnown bytes macros f name (Lasts i) → AreTold bytes macros f.fates (tokens_at f.nodes (root_of f.nodes i))
      by (body, m, met, (l, n, thin, follows)) =
          let alive : Alive f i = ap f.fates n ∙ sym g ∙ is in
          there (h.knows.known _ _ (alive_behind bytes macros f i (root_of f.nodes i) h.knows alive (behind_root f.nodes i h.knows.forest l))) where
            there : {x : List ℕ} → IsKnown bytes macros f x (Lasts (root_of f.nodes i)) → AreTold bytes macros f.fates (tokens_at f.nodes (root_of f.nodes i))
            there (body, m, met, (l, n, thin, follows)) = met_told bytes macros f h (tokens_at f.nodes (root_of f.nodes i)) (thins_met bytes f.fates f.used (tokens_at f.nodes (root_of f.nodes i)) body thin met)

-- the rests that wait
pub rests_opened : (bytes : List ℕ) (macros : Macros) (fates : Fates) (tokens : List Token) (line : Option ℕ) (old new : List Waiting) → new ≡ (tokens, line) ∷ old → AreTold bytes macros fates tokens → RestsTold bytes macros fates old → RestsTold bytes macros fates new
rests_opened bytes macros fates tokens line old new e told h = subst (λ (ws : List Waiting). RestsTold bytes macros fates ws) (sym e) (told, h)

pub rests_popped : (bytes : List ℕ) (macros : Macros) (fates : Fates) (old popped : List Rest) (r : Rest) → old ≡ popped ++ r ∷ [] → RestsTold bytes macros fates (rests_of old) → RestsTold bytes macros fates (rest_of r ∷ rests_of popped)
rests_popped bytes macros fates old popped r e h = subst (λ (ws : List Waiting). RestsTold bytes macros fates ws) (ap rests_of e ∙ rests_push popped r) h

pub next_told : (bytes : List ℕ) (macros : Macros) (fates : Fates) (tokens behind : List Token) (t : Token) → tokens ≡ t ∷ behind → AreTold bytes macros fates tokens → IsTold macros fates (text_of bytes t) × AreTold bytes macros fates behind
next_told bytes macros fates tokens behind t e h = subst (λ (ts : List Token). AreTold bytes macros fates ts) e h
