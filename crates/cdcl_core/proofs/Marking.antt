-- Marks that are set and taken away, and where the marked steps lie.
use Rattle.std.proofs.Common.{◌≡◌, ◌≢◌, ℕ, suc, ◌+◌, ◌<◌, ◌≤◌, ◌⊎◌, inl, inr, min, max, Bool, true, false, List, [], ◌∷◌, ◌++◌, length, get_or, set, length-set, get_or-set_same, get_or-set_other, take, Some, Vec, Global, refl, sym, ap, ◌∙◌, subst, arith}
use Rattle.std.specs.Prelude.{Contains}
use Rattle.std.proofs.lemmas.Bool.{cases_eq, cases_lt, true≢false}
use Rattle.std.proofs.lemmas.List.{get_or_past, take_more}
use Rattle.std.proofs.lemmas.List.Elements.{Contains-append_left, Contains-append_right, Contains-append_cases, Contains-push}
use Rattle.sat_form.specs.Satisfaction.{Literal}
use Rattle.sat_form.proofs.Databases.{Contains-one, Contains-head}
use Rattle.cdcl_core.specs.declared.trail.Step.{Step}
use Rattle.cdcl_core.specs.declared.analysis.Analysis.{Analysis}
use Rattle.cdcl_core.specs.Steps.{known_place}
use Rattle.cdcl_core.specs.Learning.{AreTouched}
use Rattle.cdcl_core.specs.Cuts.{IsOn, IsOnAt, IsFrom, MarksClause, Reaches, IsReached, AreBetween}

-- one mark written
pub IsOn-written : (m : List Bool) (v w : ℕ) (b : Bool) → IsOn (set m v b) w → (w ≡ v) ⊎ IsOn m w
IsOn-written m v w b on =
    elim (cases_eq w v) [ inl same ↦ inl same | inr other ↦ inr (sym (get_or-set_other m v w b false other) ∙ on) ]

pub IsOn-other : (m : List Bool) (v w : ℕ) (b : Bool) → w ≢ v → IsOn m w → IsOn (set m v b) w
IsOn-other m v w b other on = get_or-set_other m v w b false other ∙ on

pub IsOn-set : (m : List Bool) (v : ℕ) → v < length m → IsOn (set m v true) v
IsOn-set m v within = get_or-set_same m v true false within

pub IsOn-kept : (m : List Bool) (v w : ℕ) → v < length m → IsOn m w → IsOn (set m v true) w
IsOn-kept m v w within on =
    elim (cases_eq w v) [
      | inl same ↦ subst (λ x. IsOn (set m v true) x) (sym same) (IsOn-set m v within)
      | inr other ↦ IsOn-other m v w true other on
    ]

pub IsOn-cleared : (m : List Bool) (v : ℕ) → IsOn (set m v false) v → ⊥
IsOn-cleared m v on =
    elim (cases_lt v (length m)) [
      | inl within ↦ true≢false (sym on ∙ get_or-set_same m v false false within)
      | inr past ↦ true≢false (sym on ∙ get_or_past (set m v false) v false (subst (λ n. n ≤ v) (sym (length-set m v false)) past))
    ]

pub IsOn-left : (m : List Bool) (v w : ℕ) → IsOn (set m v false) w → IsOn m w × (w ≢ v)
IsOn-left m v w on =
    elim (cases_eq w v) [
      | inl same ↦ absurd (IsOn-cleared m v (subst (λ x. IsOn (set m v false) x) same on))
      | inr other ↦ (sym (get_or-set_other m v w false false other) ∙ on, other)
    ]

pub IsOn-within : (m : List Bool) (v : ℕ) → IsOn m v → v < length m
IsOn-within m v on =
    elim (cases_lt v (length m)) [ inl within ↦ within | inr past ↦ absurd (true≢false (sym on ∙ get_or_past m v false past)) ]

-- the marks of a clause's literals, one after the other
pub MarksClause-none : (steps : List Step) (count : ℕ) (m : List Bool) → MarksClause steps [] count m m
MarksClause-none steps count m =
    record { size = refl; kept = λ v on. on; added = λ l place at. absurd (omega (arith, at.1)); only = λ v on. inl on }

IsFrom-more : (steps : List Step) (xs ys : List Literal) (count v : ℕ) → ((l : Literal) → Contains xs l → Contains ys l) → IsFrom steps xs count v → IsFrom steps ys count v
IsFrom-more steps xs ys count v more f =
    record { literal = f.literal; stands = more f.literal f.stands; same = f.same; place = f.place; found = f.found; before = f.before }

pub MarksClause-push :
    (steps : List Step) (xs : List Literal) (l : Literal) (count : ℕ) (a b c : List Bool) → MarksClause steps xs count a b → MarksClause steps (l ∷ []) count b c → MarksClause steps (xs ++ l ∷ []) count a c
MarksClause-push steps xs l count a b c first second =
    record {
      size = second.size ∙ first.size;
      kept = λ v on. second.kept v (first.kept v on);
      added = λ m place at found before. elim (Contains-append_cases xs (l ∷ []) m at) [
        | inl left ↦ second.kept m.variable (first.added m place left found before)
        | inr right ↦ second.added m place right found before
      ];
      only = λ v on. elim (second.only v on) [
        | inl was ↦ elim (first.only v was) [
          | inl before ↦ inl before
          | inr new ↦ inr (IsFrom-more steps xs (xs ++ l ∷ []) count v (λ m at. Contains-append_left xs (l ∷ []) m at) new)
        ]
        | inr new ↦ inr (IsFrom-more steps (l ∷ []) (xs ++ l ∷ []) count v (λ m at. Contains-append_right xs (l ∷ []) m at) new)
      ];
    }

pub MarksClause-more :
    (steps : List Step) (ls : List Literal) (i : ℕ) (l : Literal) (count : ℕ) (a b c : List Bool) →
    i < length ls → l ≡ get_or ls i l → MarksClause steps (take i ls) count a b → MarksClause steps (l ∷ []) count b c → MarksClause steps (take (i + 1) ls) count a c
MarksClause-more steps ls i l count a b c within is first second =
    subst (λ (xs : List Literal). MarksClause steps xs count a c) (sym (take_more ls i l within ∙ ap (λ (x : Literal). take i ls ++ x ∷ []) (sym is)))
    (MarksClause-push steps (take i ls) l count a b c first second)

-- a literal that asks for no mark
pub MarksClause-same :
    (steps : List Step) (l : Literal) (count : ℕ) (m : List Bool) →
    ((place : ℕ) → known_place steps l.variable ≡ Some place → place < count → IsOn m l.variable) → MarksClause steps (l ∷ []) count m m
MarksClause-same steps l count m on =
    record {
      size = refl;
      kept = λ v was. was;
      added = λ x place at found before. subst (λ (y : Literal). IsOn m y.variable) (Contains-one l x at)
          (on place (subst (λ (y : Literal). known_place steps y.variable ≡ Some place) (sym (Contains-one l x at)) found) before);
      only = λ v was. inl was;
    }

-- .. and one whose variable is marked
pub MarksClause-set :
    (steps : List Step) (l : Literal) (count place : ℕ) (m : List Bool) →
    l.variable < length m → known_place steps l.variable ≡ Some place → place < count → MarksClause steps (l ∷ []) count m (set m l.variable true)
MarksClause-set steps l count place m within found before =
    record {
      size = length-set m l.variable true;
      kept = λ v on. IsOn-kept m l.variable v within on;
      added = λ x _ at _ _. subst (λ (y : Literal). IsOn (set m l.variable true) y.variable) (Contains-one l x at) (IsOn-set m l.variable within);
      only = λ v on. elim (IsOn-written m l.variable v true on) [
        | inl same ↦ inr (record {
          literal = l;
          stands = Contains-head l [];
          same = sym same;
          place = place;
          found = subst (λ w. known_place steps w ≡ Some place) (sym same) found;
          before = before;
        })
        | inr was ↦ inl was
      ];
    }

pub AreTouched-set : (m : List Bool) (t : List ℕ) (v : ℕ) → AreTouched m t → AreTouched (set m v true) (t ++ v ∷ [])
AreTouched-set m t v touched = λ w on.
    elim (IsOn-written m v w true on) [
      | inl same ↦ subst (λ x. Contains (t ++ v ∷ []) x) (sym same) (Contains-push t v)
      | inr was ↦ Contains-append_left t (v ∷ []) w (touched w was)
    ]

pub Reaches-refl : (count : ℕ) (a b : Analysis) → b.first ≡ a.first → b.newest ≡ a.newest → b.high ≡ a.high → b.low ≡ a.low → b.top ≡ a.top → Reaches count a b
Reaches-refl count a b first newest high low top =
    record { first = first; newest = newest; high = high; low = omega (arith, low); kept = λ _. low; top = λ bound below _. omega (arith, top, below) }

pub Reaches-trans : (count : ℕ) (a b c : Analysis) → Reaches count a b → Reaches count b c → Reaches count a c
Reaches-trans count a b c x y =
    record {
      first = y.first ∙ x.first;
      newest = y.newest ∙ x.newest;
      high = y.high ∙ x.high;
      low = omega (arith, x.low, y.low);
      kept = λ early. y.kept (omega (arith, early, x.newest)) ∙ x.kept early;
      top = λ bound below more. y.top bound (x.top bound below more) more;
    }

-- how one place widens where marked steps lie
pub record Widens (place : ℕ) (a b : Analysis) : Type 0 where
  pub first : b.first ≡ a.first
  pub newest : b.newest ≡ a.newest
  pub high : b.high ≡ a.high
  pub late : a.newest ≤ place → (b.low ≡ min a.low place) × (b.bottom ≡ a.bottom) × (b.top ≡ a.top)
  pub early : place < a.newest → place < a.first → (b.low ≡ a.low) × (b.bottom ≡ min a.bottom place) × (b.top ≡ max a.top (place + 1))
  pub between : place < a.newest → a.first ≤ place → (b.low ≡ a.low) × (b.bottom ≡ a.bottom) × (b.top ≡ a.top)

pub Reaches-widened : (place count : ℕ) (a b : Analysis) → Widens place a b → place < count → Reaches count a b
Reaches-widened place count a b w before =
    elim (cases_lt place a.newest) [
      | inr late ↦
          record {
            first = w.first;
            newest = w.newest;
            high = w.high;
            low = omega (arith, (w.late late).0);
            kept = λ early. absurd (omega (arith, early, before, late));
            top = λ bound below _. omega (arith, (w.late late).2, below);
          }
      | inl earlier ↦ elim (cases_lt place a.first) [
        | inl early ↦
            record {
              first = w.first;
              newest = w.newest;
              high = w.high;
              low = omega (arith, (w.early earlier early).0);
              kept = λ _. (w.early earlier early).0;
              top = λ bound below more. omega (arith, (w.early earlier early).2, below, more);
            }
        | inr between ↦
            record {
              first = w.first;
              newest = w.newest;
              high = w.high;
              low = omega (arith, (w.between earlier between).0);
              kept = λ _. (w.between earlier between).0;
              top = λ bound below _. omega (arith, (w.between earlier between).2, below);
            }
      ]
    ]

-- the places of the marked steps, one more of them among them
abbrev places_late : List Step → Analysis → List Bool → Type 0
places_late steps b m = (v place : ℕ) → IsOnAt steps m v place → b.newest ≤ place → (b.low ≤ place) × (place < b.high)

abbrev places_early : List Step → Analysis → List Bool → Type 0
places_early steps b m = (v place : ℕ) → IsOnAt steps m v place → place < b.first → (b.bottom ≤ place) × (place < b.top)

same_place : (steps : List Step) (v w p q : ℕ) → w ≡ v → known_place steps v ≡ Some p → known_place steps w ≡ Some q → q ≡ p
same_place steps v w p q same here there =
    let both : Some q ≡ Some p = sym there ∙ ap (known_place steps) same ∙ here in cc

pub IsReached-widened :
    (steps : List Step) (a b : Analysis) (v place : ℕ) → IsReached steps a → Widens place a b → b.marked.items ≡ set a.marked.items v true → v < length a.marked.items →
    known_place steps v ≡ Some place → place < a.high → IsReached steps b
IsReached-widened steps a b v place r w is within found before =
    let decisions : AreBetween steps b.first b.newest = subst (λ n. AreBetween steps b.first n) (sym w.newest) (subst (λ n. AreBetween steps n a.newest) (sym w.first) r.decisions) in
    let marked : List Bool = set a.marked.items v true in
    let here : IsOnAt steps b.marked.items v place = (subst (λ (m : List Bool). IsOn m v) (sym is) (IsOn-set a.marked.items v within), found) in
    let old : (u q : ℕ) → IsOnAt steps b.marked.items u q → (q ≡ place) ⊎ IsOnAt steps a.marked.items u q =
    λ u q on. elim (IsOn-written a.marked.items v u true (subst (λ (m : List Bool). IsOn m u) is on.0)) [
      | inl same ↦ inl (same_place steps v u place q same found on.1)
      | inr was ↦ inr (was, on.1)
    ] in
    let kept : (u q : ℕ) → IsOnAt steps a.marked.items u q → IsOnAt steps b.marked.items u q =
    λ u q on. (subst (λ (m : List Bool). IsOn m u) (sym is) (IsOn-kept a.marked.items v u within on.0), on.1) in
    elim (cases_lt place a.newest) [
      | inr late ↦
          let facts : (b.low ≡ min a.low place) × (b.bottom ≡ a.bottom) × (b.top ≡ a.top) = w.late late in
          record {
            decisions = decisions;
            top = omega (arith, facts.2, w.first, r.top);
            first = omega (arith, w.first, w.newest, r.first);
            newest = omega (arith, w.newest, facts.0, r.newest, late);
            low = omega (arith, facts.0, w.high, r.low);
            high = omega (arith, w.high, r.high);
            late = λ u q on after. elim (old u q on) [
              | inl same ↦ (omega (arith, same, facts.0), omega (arith, same, before, w.high))
              | inr was ↦ let d : (a.low ≤ q) × (q < a.high) = r.late u q was (omega (arith, after, w.newest)) in (omega (arith, d.0, facts.0), omega (arith, d.1, w.high))
            ];
            early = λ u q on earlier. elim (old u q on) [
              | inl same ↦ absurd (omega (arith, same, late, earlier, w.first, r.first))
              | inr was ↦ let d : (a.bottom ≤ q) × (q < a.top) = r.early u q was (omega (arith, earlier, w.first)) in (omega (arith, d.0, facts.1), omega (arith, d.1, facts.2))
            ];
            stands = λ below. elim (cases_lt place a.low) [
              | inl lower ↦ (v, (here.0, found ∙ ap Some (let e : place ≡ b.low = omega (arith, facts.0, lower) in e)))
              | inr same ↦
                  let low_same : a.low ≡ b.low = omega (arith, facts.0, same) in
                  let s : (u : ℕ) × IsOnAt steps a.marked.items u a.low = r.stands (omega (arith, below, low_same)) in
                  (s.0, ((kept s.0 a.low s.1).0, s.1.1 ∙ ap Some low_same))
            ];
          }
      | inl earlier ↦ elim (cases_lt place a.first) [
        | inl early ↦
            let facts : (b.low ≡ a.low) × (b.bottom ≡ min a.bottom place) × (b.top ≡ max a.top (place + 1)) = w.early earlier early in
            record {
              decisions = decisions;
              top = omega (arith, facts.2, w.first, r.top, early);
              first = omega (arith, w.first, w.newest, r.first);
              newest = omega (arith, w.newest, facts.0, r.newest);
              low = omega (arith, facts.0, w.high, r.low);
              high = omega (arith, w.high, r.high);
              late = λ u q on after. elim (old u q on) [
                | inl same ↦ absurd (omega (arith, same, earlier, after, w.newest))
                | inr was ↦ let d : (a.low ≤ q) × (q < a.high) = r.late u q was (omega (arith, after, w.newest)) in (omega (arith, d.0, facts.0), omega (arith, d.1, w.high))
              ];
              early = λ u q on lower. elim (old u q on) [
                | inl same ↦ (omega (arith, same, facts.1), omega (arith, same, facts.2))
                | inr was ↦ let d : (a.bottom ≤ q) × (q < a.top) = r.early u q was (omega (arith, lower, w.first)) in (omega (arith, d.0, facts.1), omega (arith, d.1, facts.2))
              ];
              stands = λ below.
                  let low_same : a.low ≡ b.low = omega (arith, facts.0) in
                  let s : (u : ℕ) × IsOnAt steps a.marked.items u a.low = r.stands (omega (arith, below, low_same)) in
                  (s.0, ((kept s.0 a.low s.1).0, s.1.1 ∙ ap Some low_same));
            }
        | inr between ↦
            let facts : (b.low ≡ a.low) × (b.bottom ≡ a.bottom) × (b.top ≡ a.top) = w.between earlier between in
            record {
              decisions = decisions;
              top = omega (arith, facts.2, w.first, r.top);
              first = omega (arith, w.first, w.newest, r.first);
              newest = omega (arith, w.newest, facts.0, r.newest);
              low = omega (arith, facts.0, w.high, r.low);
              high = omega (arith, w.high, r.high);
              late = λ u q on after. elim (old u q on) [
                | inl same ↦ absurd (omega (arith, same, earlier, after, w.newest))
                | inr was ↦ let d : (a.low ≤ q) × (q < a.high) = r.late u q was (omega (arith, after, w.newest)) in (omega (arith, d.0, facts.0), omega (arith, d.1, w.high))
              ];
              early = λ u q on lower. elim (old u q on) [
                | inl same ↦ absurd (omega (arith, same, between, lower, w.first))
                | inr was ↦ let d : (a.bottom ≤ q) × (q < a.top) = r.early u q was (omega (arith, lower, w.first)) in (omega (arith, d.0, facts.1), omega (arith, d.1, facts.2))
              ];
              stands = λ below.
                  let low_same : a.low ≡ b.low = omega (arith, facts.0) in
                  let s : (u : ℕ) × IsOnAt steps a.marked.items u a.low = r.stands (omega (arith, below, low_same)) in
                  (s.0, ((kept s.0 a.low s.1).0, s.1.1 ∙ ap Some low_same));
            }
      ]
    ]

-- the same from what a call says of the whole analysis
pub widened :
    (place : ℕ) (a b : Analysis) (m : Vec Bool Global) (t : Vec ℕ Global) →
    (a.newest ≤ place → b ≡ record a { marked = m; touched = t; low = min a.low place }) →
    (place < a.newest → place < a.first → b ≡ record a { marked = m; touched = t; bottom = min a.bottom place; top = max a.top (place + 1) }) →
    (place < a.newest → a.first ≤ place → b ≡ record a { marked = m; touched = t }) →
    Widens place a b × (b.marked ≡ m)
widened place a b m t late early between =
    elim (cases_lt place a.newest) [
      | inr after ↦
          let e : b ≡ record a { marked = m; touched = t; low = min a.low place } = late after in (
            record {
              first = ap (λ (x : Analysis). x.first) e;
              newest = ap (λ (x : Analysis). x.newest) e;
              high = ap (λ (x : Analysis). x.high) e;
              late = λ _. (ap (λ (x : Analysis). x.low) e, ap (λ (x : Analysis). x.bottom) e, ap (λ (x : Analysis). x.top) e);
              early = λ before _. absurd (omega (arith, after, before));
              between = λ before _. absurd (omega (arith, after, before));
            },
            ap (λ (x : Analysis). x.marked) e,
          )
      | inl before ↦ elim (cases_lt place a.first) [
        | inl lower ↦
            let e : b ≡ record a { marked = m; touched = t; bottom = min a.bottom place; top = max a.top (place + 1) } = early before lower in (
              record {
                first = ap (λ (x : Analysis). x.first) e;
                newest = ap (λ (x : Analysis). x.newest) e;
                high = ap (λ (x : Analysis). x.high) e;
                late = λ after. absurd (omega (arith, after, before));
                early = λ _ _. (ap (λ (x : Analysis). x.low) e, ap (λ (x : Analysis). x.bottom) e, ap (λ (x : Analysis). x.top) e);
                between = λ _ higher. absurd (omega (arith, lower, higher));
              },
              ap (λ (x : Analysis). x.marked) e,
            )
        | inr higher ↦
            let e : b ≡ record a { marked = m; touched = t } = between before higher in (
              record {
                first = ap (λ (x : Analysis). x.first) e;
                newest = ap (λ (x : Analysis). x.newest) e;
                high = ap (λ (x : Analysis). x.high) e;
                late = λ after. absurd (omega (arith, after, before));
                early = λ _ lower. absurd (omega (arith, lower, higher));
                between = λ _ _. (ap (λ (x : Analysis). x.low) e, ap (λ (x : Analysis). x.bottom) e, ap (λ (x : Analysis). x.top) e);
              },
              ap (λ (x : Analysis). x.marked) e,
            )
      ]
    ]

-- no variable is marked yet
pub IsReached-none :
    (steps : List Step) (a : Analysis) (count : ℕ) → AreBetween steps a.first a.newest → ((v : ℕ) → IsOn a.marked.items v → ⊥) → a.first ≤ a.newest → a.newest ≤ count → count ≡ length steps →
    a.low ≡ count → a.high ≡ count → a.top ≡ 0 → IsReached steps a
IsReached-none steps a count decisions none order within all low high top =
    record {
      decisions = decisions;
      top = omega (arith, top);
      first = order;
      newest = omega (arith, within, low);
      low = omega (arith, low, high);
      high = omega (arith, high, all);
      late = λ v q on. absurd (none v on.0);
      early = λ v q on. absurd (none v on.0);
      stands = λ below. absurd (omega (arith, below, low, all));
    }

-- a mark other than the lowest of the newest level is taken away
pub IsReached-cleared :
    (steps : List Step) (a : Analysis) (m : Vec Bool Global) (v place : ℕ) → m.items ≡ set a.marked.items v false → known_place steps v ≡ Some place → place ≢ a.low →
    IsReached steps a → IsReached steps (record a { marked = m })
IsReached-cleared steps a m v place is found other r =
    let was : (u q : ℕ) → IsOnAt steps m.items u q → IsOnAt steps a.marked.items u q =
    λ u q on. ((IsOn-left a.marked.items v u (subst (λ (x : List Bool). IsOn x u) is on.0)).0, on.1) in
    record {
      decisions = r.decisions;
      top = r.top;
      first = r.first;
      newest = r.newest;
      low = r.low;
      high = r.high;
      late = λ u q on. r.late u q (was u q on);
      early = λ u q on. r.early u q (was u q on);
      stands = λ below.
          let s : (u : ℕ) × IsOnAt steps a.marked.items u a.low = r.stands below in
          let differs : s.0 ≢ v = λ same. other (same_place steps s.0 v a.low place (sym same) s.1.1 found) in
          (s.0, (subst (λ (x : List Bool). IsOn x s.0) (sym is) (IsOn-other a.marked.items v s.0 false differs s.1.0), s.1.1));
    }

-- the newest place where a mark may be, one down
pub IsReached-lower_high :
    (steps : List Step) (a : Analysis) (place : ℕ) → IsReached steps a → a.high ≤ suc place → a.low ≤ place → place ≤ a.high → ((v : ℕ) → IsOnAt steps a.marked.items v place → ⊥) → IsReached steps (record a { high = place })
IsReached-lower_high steps a place r most least below off =
    record {
      decisions = r.decisions;
      top = r.top;
      first = r.first;
      newest = r.newest;
      low = least;
      high = omega (arith, below, r.high);
      late = λ u q on after.
          let d : (a.low ≤ q) × (q < a.high) = r.late u q on after in
          elim (cases_eq q place) [
            | inl same ↦ absurd (off u (on.0, on.1 ∙ ap Some same))
            | inr other ↦ (d.0, omega (arith, d.1, most, other))
          ];
      early = r.early;
      stands = r.stands;
    }

pub IsReached-lower_top :
    (steps : List Step) (a : Analysis) (place : ℕ) → IsReached steps a → a.top ≤ suc place → place ≤ a.first → ((v : ℕ) → IsOnAt steps a.marked.items v place → ⊥) → IsReached steps (record a { top = place })
IsReached-lower_top steps a place r most below off =
    record {
      decisions = r.decisions;
      top = below;
      first = r.first;
      newest = r.newest;
      low = r.low;
      high = r.high;
      late = r.late;
      early = λ u q on before.
          let d : (a.bottom ≤ q) × (q < a.top) = r.early u q on before in
          elim (cases_eq q place) [
            | inl same ↦ absurd (off u (on.0, on.1 ∙ ap Some same))
            | inr other ↦ (d.0, omega (arith, d.1, most, other))
          ];
      stands = r.stands;
    }
