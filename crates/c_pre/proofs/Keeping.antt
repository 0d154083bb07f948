-- What is known of macros stays so where others change.
use Rattle.std.proofs.Common.{◌≡◌, ℕ, zero, suc, List, [], ◌∷◌, Bool, true, false, ◌&&◌, cond, Option, Some, None, Result, Ok, Err, refl, sym, ap, subst, inl, inr, ◌∙◌, arith}
use Rattle.std.specs.Prelude.{OnOk}
use Rattle.std.specs.List.{list_all}
use Rattle.std.specs.Str.{bytes_eq}
use Rattle.std.proofs.lemmas.Slice.Eq.{bytes_eq-Decides}
use Rattle.c_token.specs.declared.token.Token.{Token}
use Rattle.c_token.specs.Spelling.{text_of}
use Rattle.c_pre.specs.declared.known.Fate.{Fate}
use Rattle.c_pre.specs.declared.known.Fate.TheVariants.{Vanishes, Lasts}
use Rattle.c_pre.specs.declared.known.Node.{Node}
use Rattle.c_pre.specs.declared.known.Link.{Link}
use Rattle.c_pre.specs.declared.known.Known.{Known}
use Rattle.c_pre.specs.Macros.{Macros, with_body}
use Rattle.c_pre.specs.Views.{Entries, macros_in}
use Rattle.c_pre.specs.Known.{Fates, FateEntries, fates_in, with_fate, Findings, findings, link_of, tokens_at, depth_of, Forest, does_vanish, falls_below, is_below, is_met, Thins, IsParent, Follows, IsFate, IsKnown, Knows, Keys, is_in, findings_of, IsTold, Suffices, Keeps, Forgets}

pub keeps_same : (bytes : List ℕ) (es es2 : Entries) (f f2 : Findings) → es2 ≡ es → f2 ≡ f → Keeps bytes es f es2 f2
keeps_same bytes es es2 f f2 e g h = subst (λ (x : Entries). Suffices bytes (macros_in x) f2) (sym e) (subst (λ (x : Findings). Suffices bytes (macros_in es) x) (sym g) h)

pub keeps_on : {T E : Type 0} (bytes : List ℕ) (es es2 : Entries) (f f2 : Findings) (r : Result T E) → OnOk r (es2 ≡ es) → OnOk r (f2 ≡ f) → OnOk r (Keeps bytes es f es2 f2)
keeps_on bytes es es2 f f2 (Ok x) e g = keeps_same bytes es es2 f f2 e g
keeps_on bytes es es2 f f2 (Err x) e g = tt

pub keeps_more : (bytes : List ℕ) (es es1 es2 : Entries) (f f1 f2 : Findings) → Keeps bytes es f es1 f1 → Keeps bytes es1 f1 es2 f2 → Keeps bytes es f es2 f2
keeps_more bytes es es1 es2 f f1 f2 h k r = k (h r)

same_name : (a b : List ℕ) → bytes_eq a b ≡ true → a ≡ b
same_name a b e = (bytes_eq-Decides a b).0 e

-- a name that isn't the changed one has its body still
others_stay : (es es2 : Entries) (name : List ℕ) (body : Option (List Token)) → macros_in es2 ≡ with_body name body (macros_in es) → (x : List ℕ) → bytes_eq x name ≡ false → macros_in es2 x ≡ macros_in es x
others_stay es es2 name body e x apart = ap (λ (m : List ℕ → Option (List Token)). m x) e ∙ ap (λ (b : Bool). cond b body (macros_in es x)) apart

-- where nothing is known
pub none_in : (entries : FateEntries) → entries ≡ [] → (x : List ℕ) → fates_in entries x ≡ None
none_in entries e x = ap (λ (es : FateEntries). fates_in es x) e

no_forest : (nodes : List Node) → nodes ≡ [] → Forest nodes
no_forest nodes e = subst (λ (xs : List Node). Forest xs) (sym e) (λ i l. absurd (omega (arith, l)))

pub knows_nothing : (bytes : List ℕ) (macros : Macros) (f : Findings) → ((x : List ℕ) → f.fates x ≡ None) → f.nodes ≡ [] → Knows bytes macros f
knows_nothing bytes macros f none e = record { forest = no_forest f.nodes e; known = λ name fate is. (let two = sym (none name) ∙ is in cc) }

none_met : (keys : Keys) → keys ≡ [] → (x : List ℕ) → is_in keys x ≡ false
none_met keys e x = ap (λ (ks : Keys). is_in ks x) e

pub suffices_nothing : (bytes : List ℕ) (macros : Macros) (known : Known) → known.fates.entries ≡ [] → known.nodes.items ≡ [] → known.used.keys ≡ [] → Suffices bytes macros (findings_of known)
suffices_nothing bytes macros known none nodes unmet = record {
  knows = knows_nothing bytes macros (findings_of known) (none_in known.fates.entries none) nodes;
  told = λ name is. (let two = sym (none_met known.used.keys unmet name) ∙ is in cc);
}

pub forgets_all : (name : List ℕ) (f : Findings) (known : Known) → known.fates.entries ≡ [] → known.nodes.items ≡ [] → known.used.keys ≡ [] → Forgets name f (findings_of known)
forgets_all name f known none nodes unmet bytes es es2 body is h = suffices_nothing bytes (macros_in es2) known none nodes unmet

pub both : (a b : Bool) → (a && b) ≡ true → (a ≡ true) × (b ≡ true)
both true b e = (refl, e)
both false b e = cc

-- fates that are the same for the names that were met
abbrev Alike : (List ℕ → Bool) → Fates → Fates → Type 0
Alike used a b = (x : List ℕ) → used x ≡ true → b x ≡ a x

below_alike : (bytes : List ℕ) (used : List ℕ → Bool) (a b : Fates) → Alike used a b → (k : ℕ) (ts : List Token) → list_all (is_met bytes used) ts ≡ true → list_all (is_below bytes a k) ts ≡ true → list_all (is_below bytes b k) ts ≡ true
below_alike bytes used a b same k [] met h = refl
below_alike bytes used a b same k (t ∷ ts) met h =
    let m = both (is_met bytes used t) (list_all (is_met bytes used) ts) met in
    let o = both (is_below bytes a k t) (list_all (is_below bytes a k) ts) h in
    ap (λ (x : Option Fate). falls_below k x && list_all (is_below bytes b k) ts) (same (text_of bytes t) m.0) ∙ ap (λ (x : Bool). x && list_all (is_below bytes b k) ts) o.0
    ∙ below_alike bytes used a b same k ts m.1 o.1

thins_alike : (bytes : List ℕ) (used : List ℕ → Bool) (a b : Fates) → Alike used a b → (tokens ts : List Token) → list_all (is_met bytes used) ts ≡ true → Thins bytes a tokens ts → Thins bytes b tokens ts
thins_alike bytes used a b same tokens [] met h = h
thins_alike bytes used a b same tokens (t ∷ ts) met (inl (behind, e, h)) =
    inl (behind, e, thins_alike bytes used a b same behind ts (both (is_met bytes used t) (list_all (is_met bytes used) ts) met).1 h)
thins_alike bytes used a b same tokens (t ∷ ts) met (inr (v, h)) =
    let m = both (is_met bytes used t) (list_all (is_met bytes used) ts) met in
    inr (ap does_vanish (same (text_of bytes t) m.0) ∙ v, thins_alike bytes used a b same tokens ts m.1 h)

-- what lasts of a body was met, if all of it was
pub thins_met : (bytes : List ℕ) (fates : Fates) (used : List ℕ → Bool) (tokens ts : List Token) → Thins bytes fates tokens ts → list_all (is_met bytes used) ts ≡ true → list_all (is_met bytes used) tokens ≡ true
thins_met bytes fates used tokens [] h met = ap (list_all (is_met bytes used)) h
thins_met bytes fates used tokens (t ∷ ts) (inl (behind, e, h)) met =
    let m = both (is_met bytes used t) (list_all (is_met bytes used) ts) met in
    ap (list_all (is_met bytes used)) e ∙ ap (λ (x : Bool). x && list_all (is_met bytes used) behind) m.0 ∙ thins_met bytes fates used behind ts h m.1
thins_met bytes fates used tokens (t ∷ ts) (inr (v, h)) met =
    thins_met bytes fates used tokens ts h (both (is_met bytes used t) (list_all (is_met bytes used) ts) met).1

parent_alike : (bytes : List ℕ) (used : List ℕ → Bool) (a b : Fates) → Alike used a b → (tokens : List Token) (i : ℕ) → list_all (is_met bytes used) tokens ≡ true → IsParent bytes a tokens i → IsParent bytes b tokens i
parent_alike bytes used a b same tokens i met (t, e, is) =
    let all : (is_met bytes used t && true) ≡ true = ap (list_all (is_met bytes used)) (sym e) ∙ met in
    (t, e, same (text_of bytes t) (both (is_met bytes used t) true all).0 ∙ is)

follows_alike : (bytes : List ℕ) (used : List ℕ → Bool) (a b : Fates) → Alike used a b → (tokens : List Token) (link : Link) (d : ℕ) → list_all (is_met bytes used) tokens ≡ true → Follows bytes a tokens link d → Follows bytes b tokens link d
follows_alike bytes used a b same tokens link zero met h = tt
follows_alike bytes used a b same tokens link (suc d) met h = parent_alike bytes used a b same tokens link.parent met h

fate_alike : (bytes : List ℕ) (used : List ℕ → Bool) (a b : Fates) (nodes : List Node) (name : List ℕ) (body : List Token) → Alike used a b → list_all (is_met bytes used) body ≡ true → (fate : Fate) →
    IsFate bytes (findings a nodes used) name body fate → IsFate bytes (findings b nodes used) name body fate
fate_alike bytes used a b nodes name body same met (Vanishes k) h = below_alike bytes used a b same k body met h
fate_alike bytes used a b nodes name body same met (Lasts i) (l, n, thin, follows) = (
  l,
  n,
  thins_alike bytes used a b same (tokens_at nodes i) body met thin,
  follows_alike bytes used a b same (tokens_at nodes i) (link_of nodes i) (depth_of nodes i) (thins_met bytes a used (tokens_at nodes i) body thin met) follows,
)

-- where nothing is known any more of a name that nothing rests on
pub forgets_name : (name : List ℕ) (fates : Fates) (nodes : List Node) (used : List ℕ → Bool) (f2 : Findings) → used name ≡ false → f2 ≡ findings (with_fate name None fates) nodes used → Forgets name (findings fates nodes used) f2
forgets_name name fates nodes used f2 unused g bytes es es2 body e = subst (λ (x : Findings). Keeps bytes es (findings fates nodes used) es2 x) (sym g) keeps where
  apart : (x : List ℕ) → used x ≡ true → bytes_eq x name ≡ false
  apart x u = by (bytes_eq x name) refl where
    by : (b : Bool) → bytes_eq x name ≡ b → b ≡ false
    by true same = let met : used name ≡ true = ap used (sym (same_name x name same)) ∙ u in let two = sym unused ∙ met in cc
    by false other = refl

  alike : Alike used fates (with_fate name None fates)
  alike x u = ap (λ (b : Bool). cond b None (fates x)) (apart x u)

  keeps : Keeps bytes es (findings fates nodes used) es2 (findings (with_fate name None fates) nodes used)
  keeps h = record { knows = record { forest = h.knows.forest; known = stays }; told = told } where
    told : (x : List ℕ) → used x ≡ true → IsTold (macros_in es2) (with_fate name None fates) x
    told x u none = others_stay es es2 name body e x (apart x u) ∙ h.told x u (sym (alike x u) ∙ none)

    stays : (x : List ℕ) (fate : Fate) → with_fate name None fates x ≡ Some fate → IsKnown bytes (macros_in es2) (findings (with_fate name None fates) nodes used) x fate
    stays x fate k = by (bytes_eq x name) refl k where
      by : (b : Bool) → bytes_eq x name ≡ b → cond b None (fates x) ≡ Some fate → IsKnown bytes (macros_in es2) (findings (with_fate name None fates) nodes used) x fate
      by true same k = cc
      by false apart k =
          let old = h.knows.known x fate k in
          (old.0, others_stay es es2 name body e x apart ∙ old.1, old.2, fate_alike bytes used fates (with_fate name None fates) nodes x old.0 alike old.2 fate old.3)

-- where a name loses a body that it doesn't have
pub keeps_undefined : (bytes : List ℕ) (es es2 : Entries) (f : Findings) (name : List ℕ) → macros_in es name ≡ None → macros_in es2 ≡ with_body name None (macros_in es) → Keeps bytes es f es2 f
keeps_undefined bytes es es2 f name none e h =
    record {
      knows = record { forest = h.knows.forest; known = λ x fate k. (let old = h.knows.known x fate k in (old.0, same x ∙ old.1, old.2, old.3)) };
      told = λ x u none. same x ∙ h.told x u none;
    } where
      same : (x : List ℕ) → macros_in es2 x ≡ macros_in es x
      same x = by (bytes_eq x name) refl where
        by : (b : Bool) → bytes_eq x name ≡ b → macros_in es2 x ≡ macros_in es x
        by true here =
            ap (λ (m : List ℕ → Option (List Token)). m x) e ∙ ap (λ (b : Bool). cond b None (macros_in es x)) here ∙ sym (ap (macros_in es) (same_name x name here) ∙ none)
        by false apart = others_stay es es2 name None e x apart
