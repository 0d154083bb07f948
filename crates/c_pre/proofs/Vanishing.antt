-- Names that vanish become nothing, so what is left out of a body does not matter.
use Rattle.std.proofs.Common.{◌≡◌, ◌<◌, ◌≤◌, ℕ, zero, suc, List, [], ◌∷◌, Bool, true, false, ◌||◌, cond, Option, Some, None, refl, sym, ap, subst, inl, inr, ◌∙◌, arith}
use Rattle.std.specs.List.{list_any, list_all}
use Rattle.std.specs.Str.{bytes_eq}
use Rattle.std.proofs.lemmas.Slice.Eq.{bytes_eq-Decides}
use Rattle.c_token.specs.declared.token.Token.{Token}
use Rattle.c_token.specs.Spelling.{text_of}
use Rattle.c_pre.specs.declared.known.Fate.{Fate}
use Rattle.c_pre.specs.declared.known.Fate.TheVariants.{Vanishes, Lasts}
use Rattle.c_pre.specs.Macros.{Macros, body_for, placed, Replacing, done, stays, replaced, Becomes, IsReplacedBy}
use Rattle.c_pre.specs.Known.{Findings, does_vanish, falls_below, vanishes, is_below, Thins, Knows}
use Rattle.c_pre.proofs.Keeping.{both}

pub same_name : (a b : List ℕ) → bytes_eq a b ≡ true → a ≡ b
same_name a b e = (bytes_eq-Decides a b).0 e

pub for_none : (macros : Macros) (names : List (List ℕ)) (name : List ℕ) (body : List Token) → list_any (bytes_eq name) names ≡ false → macros name ≡ Some body → body_for macros names name ≡ Some body
for_none macros names name body out m = ap (λ (b : Bool). cond b None (macros name)) out ∙ m

-- no name of a lower rank is being replaced
abbrev pub Over : Findings → ℕ → List (List ℕ) → Type 0
Over f k names = (x : List ℕ) (j : ℕ) → list_any (bytes_eq x) names ≡ true → f.fates x ≡ Some (Vanishes j) → k ≤ j

below_of : (k : ℕ) (o : Option Fate) → falls_below k o ≡ true → (j : ℕ) × (o ≡ Some (Vanishes j)) × (j < k)
below_of k None h = cc
below_of k (Some (Vanishes j)) h = (j, refl, grind (arith, h))
below_of k (Some (Lasts i)) h = cc

outside_over : (f : Findings) (k j : ℕ) (names : List (List ℕ)) (x : List ℕ) → Over f k names → f.fates x ≡ Some (Vanishes j) → j < k → list_any (bytes_eq x) names ≡ false
outside_over f k j names x over is less = by (list_any (bytes_eq x) names) refl where
  by : (b : Bool) → list_any (bytes_eq x) names ≡ b → b ≡ false
  by true e = absurd (omega (arith, over x j e is, less))
  by false e = refl

over_inside : (f : Findings) (k j : ℕ) (names : List (List ℕ)) (n : List ℕ) → Over f k names → f.fates n ≡ Some (Vanishes j) → j < k → Over f j (n ∷ names)
over_inside f k j names n over is less x i among at = by (bytes_eq x n) refl among where
  by : (b : Bool) → bytes_eq x n ≡ b → (b || list_any (bytes_eq x) names) ≡ true → j ≤ i
  by true same a =
      let one : Some (Vanishes i) ≡ Some (Vanishes j) = sym at ∙ ap f.fates (same_name x n same) ∙ is in
      let equal : i ≡ j = cc in omega (arith, equal)
  by false other a = omega (arith, over x i a at, less)

-- tokens of lower ranks become nothing
pub nothing_below : (bytes : List ℕ) (macros : Macros) (f : Findings) → Knows bytes macros f → (fuel k : ℕ) → k ≤ fuel → (line : Option ℕ) (names : List (List ℕ)) (ts : List Token) → list_all (is_below bytes f.fates k) ts ≡ true →
    Over f k names → IsReplacedBy bytes macros names line ts []
nothing_below bytes macros f h fuel k few line names [] all over = (done, refl)
nothing_below bytes macros f h zero k few line names (t ∷ ts) all over =
    let low = below_of k (f.fates (text_of bytes t)) (both (is_below bytes f.fates k t) (list_all (is_below bytes f.fates k) ts) all).0 in
    absurd (omega (arith, few, low.2))
nothing_below bytes macros f h (suc fuel) k few line names (t ∷ ts) all over =
    let parts = both (is_below bytes f.fates k t) (list_all (is_below bytes f.fates k) ts) all in
    let low = below_of k (f.fates (text_of bytes t)) parts.0 in
    let own = h.known (text_of bytes t) (Vanishes low.0) low.1 in
    let inside = nothing_below bytes macros f h fuel low.0 (omega (arith, few, low.2)) (Some (placed line t).line) (text_of bytes t ∷ names) own.0 own.3 (over_inside f k low.0 names (text_of bytes t) over low.1 low.2) in
    let behind = nothing_below bytes macros f h (suc fuel) k few line names ts parts.1 over in (
      replaced inside.0 behind.0,
      (
        own.0,
        for_none macros names (text_of bytes t) own.0 (outside_over f k low.0 names (text_of bytes t) over low.1 low.2) own.1,
        ([], [], inside.1, behind.1, refl),
      ),
    )

-- none of these names vanishes
abbrev pub Lasting : Findings → List (List ℕ) → Type 0
Lasting f names = (x : List ℕ) → list_any (bytes_eq x) names ≡ true → does_vanish (f.fates x) ≡ false

lasting_over : (f : Findings) (k : ℕ) (names : List (List ℕ)) → Lasting f names → Over f k names
lasting_over f k names lasting x j among is = let two = sym (lasting x among) ∙ ap does_vanish is in cc

vanish_of : (o : Option Fate) → does_vanish o ≡ true → (j : ℕ) × (o ≡ Some (Vanishes j))
vanish_of None h = cc
vanish_of (Some (Vanishes j)) h = (j, refl)
vanish_of (Some (Lasts i)) h = cc

-- a token that vanishes, with what is behind it
pub token_vanishes : (bytes : List ℕ) (macros : Macros) (f : Findings) → Knows bytes macros f → (line : Option ℕ) (names : List (List ℕ)) (t : Token) (ts found : List Token) → vanishes bytes f.fates t ≡ true → Lasting f names →
    IsReplacedBy bytes macros names line ts found → IsReplacedBy bytes macros names line (t ∷ ts) found
token_vanishes bytes macros f h line names t ts found v lasting (how, b) =
    let rank = vanish_of (f.fates (text_of bytes t)) v in
    let own = h.known (text_of bytes t) (Vanishes rank.0) rank.1 in
    let over = lasting_over f (suc rank.0) names lasting in
    let inside = nothing_below bytes macros f h rank.0 rank.0 (omega arith) (Some (placed line t).line) (text_of bytes t ∷ names) own.0 own.3 (over_inside f (suc rank.0) rank.0 names (text_of bytes t) over rank.1 (omega arith)) in (
      replaced inside.0 how,
      (own.0, for_none macros names (text_of bytes t) own.0 (outside_over f (suc rank.0) rank.0 names (text_of bytes t) over rank.1 (omega arith)) own.1, ([], found, inside.1, b, refl)),
    )

-- what is left out of tokens doesn't matter
pub thin_replaced : (bytes : List ℕ) (macros : Macros) (f : Findings) → Knows bytes macros f → (line : Option ℕ) (names : List (List ℕ)) → Lasting f names → (tokens ts found : List Token) → Thins bytes f.fates tokens ts →
    IsReplacedBy bytes macros names line tokens found → IsReplacedBy bytes macros names line ts found
thin_replaced bytes macros f h line names lasting tokens [] found thin is = subst (λ (xs : List Token). IsReplacedBy bytes macros names line xs found) thin is
thin_replaced bytes macros f h line names lasting tokens (t ∷ ts) found (inr (v, thin)) is =
    token_vanishes bytes macros f h line names t ts found v lasting (thin_replaced bytes macros f h line names lasting tokens ts found thin is)
thin_replaced bytes macros f h line names lasting tokens (t ∷ ts) found (inl (behind, e, thin)) is =
    let whole = subst (λ (xs : List Token). IsReplacedBy bytes macros names line xs found) e is in
    by (λ more is. thin_replaced bytes macros f h line names lasting behind ts more thin is) whole.0 whole.1 where
      by : ((more : List Token) → IsReplacedBy bytes macros names line behind more → IsReplacedBy bytes macros names line ts more) →
          (how : Replacing) → Becomes bytes macros names line how (t ∷ behind) found → IsReplacedBy bytes macros names line (t ∷ ts) found
      by on done b = absurd b
      by on (stays p) (n, (more, b, g)) =
          let rest = on more (p, b) in
          (stays rest.0, (n, (more, rest.1, g)))
      by on (replaced i p) (body, m, (front, more, x, b, g)) =
          let rest = on more (p, b) in
          (replaced i rest.0, (body, m, (front, more, x, rest.1, g)))
