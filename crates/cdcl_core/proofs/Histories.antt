-- The log of a segment behind those before it.
use Rattle.std.proofs.Common.{◌≡◌, ◌≢◌, ℕ, zero, suc, ◌+◌, ◌-◌, ◌<◌, ◌≤◌, ◌⊎◌, inl, inr, Bool, true, false, List, [], ◌∷◌, ◌++◌, map, length, Some, None, get_or, refl, sym, ap, ◌∙◌, subst, arith, append_assoc, append-nil}
use Rattle.std.specs.Prelude.{Contains, slice_get, unwrap_or, IsSomeAnd, nat_lt, nat_eq, if◌then◌else◌, ◌||◌}
use Rattle.std.specs.List.{cons_option}
use Rattle.std.proofs.lemmas.Bool.{cases_lt, lt-ltb, le-ltb, and_from}
use Rattle.std.proofs.lemmas.List.{length-append}
use Rattle.std.proofs.lemmas.List.Elements.{Contains-append_cases, Contains-append_left, Contains-append_right}
use Rattle.std.proofs.lemmas.Option.{slice_get_within, slice_get-get_or, get_or_from_slice_get, unwrap_or-slice_get}
use Rattle.sat_form.specs.Satisfaction.{Literal, inverse_of, clause_value, Satisfies}
use Rattle.sat_form.specs.Refutation.{IsJustified, IsDerivation, IsRefutation}
use Rattle.sat_form.specs.Propagation.{IsClosed, HasFalsified, PropagatesTo, Conflicts, negation_of, Follows}
use Rattle.sat_form.specs.Databases.{added_clauses, deleted_numbers, numbered_clauses, is_among, clauses_without, database, live_clause, AreEntriesWithin}
use Rattle.sat_form.specs.Budget.{HasDistinctVariables, StandsIn, IsConflictBy, AreUsed, named_clauses, IsNews, IsUnit, IsGiven, IsAllowed, AreAllowed, EndsAdding, IsSpent}
use Rattle.sat_form.specs.declared.logs.Entry.{Entry}
use Rattle.sat_form.specs.declared.logs.Entry.TheVariants.{Added, Deleted}
use Rattle.sat_form.proofs.Refutations.{numbered_clauses-deleted}
use Rattle.sat_form.proofs.Propagation.{Satisfies-at}
use Rattle.sat_form.proofs.Chains.{IsDerivation-allowed}
use Rattle.sat_form.proofs.Databases.{Contains-one, Contains-head, Contains-tail, added_clauses-append, slice_get-front, slice_get-back, database-has, database-from}
use Rattle.cdcl_core.specs.Histories.{number_by, renumbered, AreLive}

-- ---- what entries add and delete

pub added_renumbered : (f : ℕ → ℕ) (es : List Entry) → added_clauses (renumbered f es) ≡ added_clauses es
added_renumbered f [] = refl
added_renumbered f (Added c hints ∷ es) = ap (λ cs. c ∷ cs) (added_renumbered f es)
added_renumbered f (Deleted n ∷ es) = added_renumbered f es

pub none_renumbered : (f : ℕ → ℕ) (es : List Entry) → deleted_numbers es ≡ [] → deleted_numbers (renumbered f es) ≡ []
none_renumbered f [] none = refl
none_renumbered f (Added c hints ∷ es) none = none_renumbered f es none
none_renumbered f (Deleted n ∷ es) none = cc

pub deleted_numbers-append : (es fs : List Entry) → deleted_numbers (es ++ fs) ≡ deleted_numbers es ++ deleted_numbers fs
deleted_numbers-append [] fs = refl
deleted_numbers-append (Added c hints ∷ es) fs = deleted_numbers-append es fs
deleted_numbers-append (Deleted n ∷ es) fs = ap (λ ns. n ∷ ns) (deleted_numbers-append es fs)

pub renumbered-append : (f : ℕ → ℕ) (es gs : List Entry) → renumbered f (es ++ gs) ≡ renumbered f es ++ renumbered f gs
renumbered-append f [] gs = refl
renumbered-append f (Added c hints ∷ es) gs = ap (λ rest. Added c (map f hints) ∷ rest) (renumbered-append f es gs)
renumbered-append f (Deleted n ∷ es) gs = ap (λ rest. Deleted (f n) ∷ rest) (renumbered-append f es gs)

same_gone : (f : ℕ → ℕ) (log es : List Entry) → deleted_numbers es ≡ [] → deleted_numbers (log ++ renumbered f es) ≡ deleted_numbers log
same_gone f log es none = deleted_numbers-append log (renumbered f es) ∙ ap (λ ns. deleted_numbers log ++ ns) (none_renumbered f es none) ∙ append-nil (deleted_numbers log)

pub same_numbered : (form : List (List Literal)) (f : ℕ → ℕ) (log es : List Entry) → numbered_clauses form (log ++ renumbered f es) ≡ numbered_clauses form log ++ added_clauses es
same_numbered form f log es =
    ap (λ cs. form ++ cs) (added_clauses-append log (renumbered f es) ∙ ap (λ cs. added_clauses log ++ cs) (added_renumbered f es))
    ∙ sym (append_assoc form (added_clauses log) (added_clauses es))

-- ---- numbers that aren't gone

not_among : (gone : List ℕ) (n : ℕ) → ((m : ℕ) → Contains gone m → m < n) → is_among gone n ≡ false
not_among [] n below = refl
not_among (m ∷ ms) n below =
    let here : m < n = below m (Contains-head m ms) in
    let apart : nat_eq m n ≡ false = grind (arith, here) in
    ap (λ b. b || is_among ms n) apart ∙ not_among ms n (λ k at. below k (Contains-tail m k ms at))

not_among_any : (gone : List ℕ) (n : ℕ) → ((m : ℕ) → Contains gone m → n < m) → is_among gone n ≡ false
not_among_any [] n above = refl
not_among_any (m ∷ ms) n above =
    let here : n < m = above m (Contains-head m ms) in
    let apart : nat_eq m n ≡ false = grind (arith, here) in
    ap (λ b. b || is_among ms n) apart ∙ not_among_any ms n (λ k at. above k (Contains-tail m k ms at))

clauses_without-append :
    (gone : List ℕ) (k : ℕ) (cs ds : List (List Literal)) → ((m : ℕ) → Contains gone m → m < k + length cs) → clauses_without gone k (cs ++ ds) ≡ clauses_without gone k cs ++ ds
clauses_without-append gone k [] [] below = refl
clauses_without-append gone k [] (d ∷ ds) below =
    let kept : is_among gone k ≡ false = not_among gone k (λ m at. omega (arith, below m at)) in
    ap (λ b. if b then clauses_without gone (suc k) ds else d ∷ clauses_without gone (suc k) ds) kept
    ∙ ap (λ rest. d ∷ rest) (clauses_without-append gone (suc k) [] ds (λ m at. omega (arith, below m at)))
clauses_without-append gone k (c ∷ cs) ds below =
    let rest : clauses_without gone (suc k) (cs ++ ds) ≡ clauses_without gone (suc k) cs ++ ds = clauses_without-append gone (suc k) cs ds (λ m at. omega (arith, below m at)) in
    elim (is_among gone k) as (λ b. (if b then clauses_without gone (suc k) (cs ++ ds) else c ∷ clauses_without gone (suc k) (cs ++ ds)) ≡ (if b then clauses_without gone (suc k) cs else c ∷ clauses_without gone (suc k) cs) ++ ds) [
      | true ↦ rest
      | false ↦ ap (λ x. c ∷ x) rest
    ]

none_without : (k : ℕ) (cs : List (List Literal)) → clauses_without [] k cs ≡ cs
none_without k [] = refl
none_without k (c ∷ cs) = ap (λ x. c ∷ x) (none_without (suc k) cs)

-- ---- units, by the database and the clauses that are named

pub record IsUnitOf (clauses named : List (List Literal)) (clause : List Literal) : Type 0 where
  pub given : List Literal
  pub conflict : IsConflictBy (map inverse_of clause) named given
  pub stands : (l : Literal) → Contains clause l → StandsIn named l
  pub used : AreUsed named given
  pub news : IsNews clauses clause
  pub not_true : (l : Literal) → Contains clause l → PropagatesTo clauses l → ⊥
  pub not_false : (l : Literal) → Contains clause l → PropagatesTo clauses (inverse_of l) → ⊥

pub unit_parts : (form : List (List Literal)) (log : List Entry) (c : List Literal) (hints : List ℕ) → IsUnit form log c hints → IsUnitOf (database form log) (named_clauses form log hints) c
unit_parts form log c hints u =
    record { given = u.given; conflict = u.conflict; stands = u.stands; used = u.used; news = u.news; not_true = u.not_true; not_false = u.not_false }

pub unit_from :
    (form : List (List Literal)) (log : List Entry) (c : List Literal) (hints : List ℕ) → c ≢ [] → HasDistinctVariables c → IsUnitOf (database form log) (named_clauses form log hints) c →
    IsUnit form log c hints
unit_from form log c hints some distinct u =
    record { some = some; distinct = distinct; given = u.given; conflict = u.conflict; stands = u.stands; used = u.used; news = u.news; not_true = u.not_true; not_false = u.not_false }

-- what fewer clauses propagate
closed_fewer : (cs ds : List (List Literal)) → ((c : List Literal) → Contains ds c → Contains cs c) → (set : Literal → Bool) → IsClosed cs set → IsClosed ds set
closed_fewer cs ds within set closed = λ c at. closed c (within c at)

pub propagates_fewer : (cs ds : List (List Literal)) (l : Literal) → ((c : List Literal) → Contains ds c → Contains cs c) → PropagatesTo ds l → PropagatesTo cs l
propagates_fewer cs ds l within given = λ set closed. given set (closed_fewer cs ds within set closed)

pub conflicts_fewer : (cs ds : List (List Literal)) → ((c : List Literal) → Contains ds c → Contains cs c) → Conflicts ds → Conflicts cs
conflicts_fewer cs ds within conflicts = λ set closed. let found : HasFalsified ds set = conflicts set (closed_fewer cs ds within set closed) in (found.0, within found.0 found.1, found.2)

within_beside : (cs ds es : List (List Literal)) → ((c : List Literal) → Contains ds c → Contains cs c) → (c : List Literal) → Contains (ds ++ es) c → Contains (cs ++ es) c
within_beside cs ds es within c at =
    elim (Contains-append_cases ds es c at) [ inl first ↦ Contains-append_left cs es c (within c first) | inr second ↦ Contains-append_right cs es c second ]

pub follows_fewer : (cs ds : List (List Literal)) (c : List Literal) → ((d : List Literal) → Contains ds d → Contains cs d) → Follows ds c → Follows cs c
follows_fewer cs ds c within follows = conflicts_fewer (cs ++ negation_of c) (ds ++ negation_of c) (within_beside cs ds (negation_of c) within) follows

unit_fewer : (cs ds named : List (List Literal)) (c : List Literal) → ((d : List Literal) → Contains ds d → Contains cs d) → IsUnitOf cs named c → IsUnitOf ds named c
unit_fewer cs ds named c within u =
    record {
      given = u.given;
      conflict = u.conflict;
      stands = u.stands;
      used = u.used;
      news = (
        u.news.0,
        u.news.1,
        u.news.2,
        u.news.3,
        λ given. u.news.4 (propagates_fewer (cs ++ negation_of (u.news.0 ++ u.news.2)) (ds ++ negation_of (u.news.0 ++ u.news.2)) u.news.1 (within_beside cs ds (negation_of (u.news.0 ++ u.news.2)) within) given),
        λ conflicts. u.news.5 (conflicts_fewer (cs ++ negation_of (u.news.0 ++ u.news.2)) (ds ++ negation_of (u.news.0 ++ u.news.2)) (within_beside cs ds (negation_of (u.news.0 ++ u.news.2)) within) conflicts),
      );
      not_true = λ l at given. u.not_true l at (propagates_fewer cs ds l within given);
      not_false = λ l at given. u.not_false l at (propagates_fewer cs ds (inverse_of l) within given);
    }

-- ---- places in joined lists

Contains-at : {X : Type 0} → (xs : List X) (k : ℕ) (x : X) → slice_get xs k ≡ Some x → Contains xs x
Contains-at xs k x at = (k, slice_get_within xs k x at, get_or_from_slice_get xs k x x at)

slice_get_middle : {X : Type 0} → (xs : List X) (x : X) (ys : List X) → slice_get (xs ++ x ∷ ys) (length xs) ≡ Some x
slice_get_middle [] x ys = refl
slice_get_middle (z ∷ xs) x ys = slice_get_middle xs x ys

get_or_middle : (xs : List ℕ) (x : ℕ) (ys : List ℕ) → get_or (xs ++ x ∷ ys) (length xs) 0 ≡ x
get_or_middle xs x ys = get_or_from_slice_get (xs ++ x ∷ ys) (length xs) x 0 (slice_get_middle xs x ys)

-- an entry of two lists joined is one of the first or one of the second
pub split_append :
    {X : Type 0} → (xs ys front : List X) (y : X) (back : List X) → xs ++ ys ≡ front ++ y ∷ back →
    ((rest : List X) × (xs ≡ front ++ y ∷ rest)) ⊎ ((between : List X) × (xs ++ between ≡ front) × (ys ≡ between ++ y ∷ back))
split_append [] ys front y back is = inr (front, refl, is)
split_append (x ∷ xs) ys [] y back is = let same : x ≡ y = cc in inl (xs, λ k. same k ∷ xs)
split_append (x ∷ xs) ys (z ∷ zs) y back is =
    let same : x ≡ z = cc in
    let rest : xs ++ ys ≡ zs ++ y ∷ back = cc in
    elim (split_append xs ys zs y back rest) [
      | inl old ↦ inl (old.0, λ k. same k ∷ old.1 k)
      | inr new ↦ inr (new.0, (λ k. same k ∷ new.1 k), new.2)
    ]

abbrev pub renumbered_one : (ℕ → ℕ) → Entry → Entry
renumbered_one f (Added c hints) = Added c (map f hints)
renumbered_one f (Deleted n) = Deleted (f n)

renumbered_cons : (f : ℕ → ℕ) (e : Entry) (es : List Entry) → renumbered f (e ∷ es) ≡ renumbered_one f e ∷ renumbered f es
renumbered_cons f (Added c hints) es = refl
renumbered_cons f (Deleted n) es = refl

-- an entry with other numbers comes from one
record RenumberedSplit (f : ℕ → ℕ) (es front : List Entry) (e : Entry) (back : List Entry) : Type 0 where
  before : List Entry
  entry : Entry
  after : List Entry
  is : es ≡ before ++ entry ∷ after
  ahead : front ≡ renumbered f before
  same : e ≡ renumbered_one f entry

split_renumbered : (f : ℕ → ℕ) (es front : List Entry) (e : Entry) (back : List Entry) → renumbered f es ≡ front ++ e ∷ back → RenumberedSplit f es front e back
split_renumbered f [] front e back is = absurd (omega (arith, ap length is, length-append front (e ∷ back)))
split_renumbered f (d ∷ es) [] e back is =
    let all : renumbered_one f d ∷ renumbered f es ≡ e ∷ back = sym (renumbered_cons f d es) ∙ is in
    let same : renumbered_one f d ≡ e = cc in
    record { before = []; entry = d; after = es; is = refl; ahead = refl; same = sym same }
split_renumbered f (d ∷ es) (z ∷ zs) e back is =
    let all : renumbered_one f d ∷ renumbered f es ≡ z ∷ (zs ++ e ∷ back) = sym (renumbered_cons f d es) ∙ is in
    let same : renumbered_one f d ≡ z = cc in
    let rest : renumbered f es ≡ zs ++ e ∷ back = cc in
    let one : RenumberedSplit f es zs e back = split_renumbered f es zs e back rest in
    record {
      before = d ∷ one.before;
      entry = one.entry;
      after = one.after;
      is = λ k. d ∷ one.is k;
      ahead = (λ k. sym same k ∷ one.ahead k) ∙ sym (renumbered_cons f d one.before);
      same = one.same;
    }

pub front_none : {X : Type 0} → (xs ys : List X) → xs ++ ys ≡ [] → xs ≡ []
front_none [] ys is = refl
front_none (x ∷ xs) ys is = cc

back_none : {X : Type 0} → (xs ys : List X) → xs ++ ys ≡ [] → ys ≡ []
back_none [] ys is = is
back_none (x ∷ xs) ys is = cc

entry_adds : (e : Entry) (es : List Entry) → deleted_numbers (e ∷ es) ≡ [] → deleted_numbers (e ∷ []) ≡ []
entry_adds (Added c hints) es none = refl
entry_adds (Deleted n) es none = cc

-- a number that is live is one of the log's
live_below : (form : List (List Literal)) (log : List Entry) (n : ℕ) (c : List Literal) → live_clause form log n ≡ Some c → n < length (numbered_clauses form log)
live_below form log n c is =
    elim (is_among (deleted_numbers log) n) as (λ b. (if b then None else slice_get (numbered_clauses form log) n) ≡ Some c → n < length (numbered_clauses form log)) [
      | true ↦ λ found. absurd (cc)
      | false ↦ λ found. slice_get_within (numbered_clauses form log) n c found
    ] is

-- ---- a segment's log behind the log

some_in : (cs : List (List Literal)) (k : ℕ) → k < length cs → (c : List Literal) × (slice_get cs k ≡ Some c)
some_in [] k within = absurd (omega arith)
some_in (c ∷ cs) zero within = (c, refl)
some_in (c ∷ cs) (suc k) within = some_in cs k (omega arith)

module _ (form : List (List Literal)) (log : List Entry) (clauses : List (List Literal)) (numbers : List ℕ) (are : AreLive form log clauses numbers) where
  abbrev number : ℕ → ℕ
  number = number_by numbers (length (numbered_clauses form log))

  segment_database : (es : List Entry) → deleted_numbers es ≡ [] → database clauses es ≡ clauses ++ added_clauses es
  segment_database es none = ap (λ gone. clauses_without gone 0 (numbered_clauses clauses es)) none ∙ none_without 0 (numbered_clauses clauses es)

  joined_database : (es : List Entry) → deleted_numbers es ≡ [] → database form (log ++ renumbered number es) ≡ database form log ++ added_clauses es
  joined_database es none =
      ap (λ gone. clauses_without gone 0 (numbered_clauses form (log ++ renumbered number es))) (same_gone number log es none)
      ∙ ap (clauses_without (deleted_numbers log) 0) (same_numbered form number log es)
      ∙ clauses_without-append (deleted_numbers log) 0 (numbered_clauses form log) (added_clauses es) (λ m at. omega (arith, (are.gone m at).1))

  -- what is live is among the segment's clauses
  pub live_among : (c : List Literal) → Contains (database form log) c → Contains clauses c
  live_among c at =
      let found : (n : ℕ) × (n < length (numbered_clauses form log)) × (live_clause form log n ≡ Some c) = database-from form log c at in
      let place : (k : ℕ) × (slice_get clauses k ≡ Some c) × (get_or numbers k 0 ≡ found.0) = are.whole found.0 c found.2 in
      Contains-at clauses place.0 c place.1

  pub among_live : (c : List Literal) → Contains clauses c → Contains (database form log) c
  among_live c at = database-has form log (get_or numbers at.0 0) c (are.live at.0 c (slice_get-get_or clauses at.0 c at.1 ∙ ap Some at.2))

  pub joined_within : (es : List Entry) → deleted_numbers es ≡ [] → (c : List Literal) → Contains (database form (log ++ renumbered number es)) c → Contains (database clauses es) c
  joined_within es none c at =
      subst (λ (x : List (List Literal)). Contains x c) (sym (segment_database es none))
      (elim (Contains-append_cases (database form log) (added_clauses es) c (subst (λ (x : List (List Literal)). Contains x c) (joined_database es none) at)) [
        | inl old ↦ Contains-append_left clauses (added_clauses es) c (live_among c old)
        | inr new ↦ Contains-append_right clauses (added_clauses es) c new
      ])

  pub joined_has : (es : List Entry) → deleted_numbers es ≡ [] → (c : List Literal) → Contains (database clauses es) c → Contains (database form (log ++ renumbered number es)) c
  joined_has es none c at =
      subst (λ (x : List (List Literal)). Contains x c) (sym (joined_database es none))
      (elim (Contains-append_cases clauses (added_clauses es) c (subst (λ (x : List (List Literal)). Contains x c) (segment_database es none) at)) [
        | inl old ↦ Contains-append_left (database form log) (added_clauses es) c (among_live c old)
        | inr new ↦ Contains-append_right (database form log) (added_clauses es) c new
      ])

  segment_live : (es : List Entry) → deleted_numbers es ≡ [] → (k : ℕ) → live_clause clauses es k ≡ slice_get (clauses ++ added_clauses es) k
  segment_live es none k = ap (λ gone. if is_among gone k then None else slice_get (clauses ++ added_clauses es) k) none

  -- a number that is live stays so, and has a clause
  live_kept : (n : ℕ) (c : List Literal) → live_clause form log n ≡ Some c → (es : List Entry) → deleted_numbers es ≡ [] → live_clause form (log ++ renumbered number es) n ≡ Some c
  live_kept n c is es none =
      ap (λ gone. if is_among gone n then None else slice_get (numbered_clauses form (log ++ renumbered number es)) n) (same_gone number log es none)
      ∙ ap (λ cs. if is_among (deleted_numbers log) n then None else slice_get cs n) (same_numbered form number log es)
      ∙ (elim (is_among (deleted_numbers log) n) as (λ b. (if b then None else slice_get (numbered_clauses form log) n) ≡ Some c → (if b then None else slice_get (numbered_clauses form log ++ added_clauses es) n) ≡ Some c) [
        | true ↦ λ found. absurd (cc)
        | false ↦ λ found. slice_get-front (numbered_clauses form log) (added_clauses es) n (slice_get_within (numbered_clauses form log) n c found) ∙ found
      ] is)

  first_live : (es : List Entry) → deleted_numbers es ≡ [] → (k : ℕ) → k < length clauses → live_clause form (log ++ renumbered number es) (number k) ≡ live_clause clauses es k
  first_live es none k within =
      let c = some_in clauses k within in
      let here : number k ≡ get_or numbers k 0 = ap (λ b. if b then get_or numbers k 0 else length (numbered_clauses form log) + (k - length numbers)) (lt-ltb k (length numbers) (omega (arith, are.count))) in
      let old : live_clause form log (get_or numbers k 0) ≡ Some c.0 = are.live k c.0 c.1 in
      ap (live_clause form (log ++ renumbered number es)) here
      ∙ live_kept (get_or numbers k 0) c.0 old es none
      ∙ sym (segment_live es none k ∙ slice_get-front clauses (added_clauses es) k within ∙ c.1)

  later_live : (es : List Entry) → deleted_numbers es ≡ [] → (k : ℕ) → length clauses ≤ k → live_clause form (log ++ renumbered number es) (number k) ≡ live_clause clauses es k
  later_live es none k past =
      let next : ℕ = length (numbered_clauses form log) in
      let here : number k ≡ next + (k - length clauses) =
      ap (λ b. if b then get_or numbers k 0 else next + (k - length numbers)) (le-ltb k (length numbers) (omega (arith, are.count))) ∙ ap (λ n. next + (k - n)) are.count in
      let free : is_among (deleted_numbers log) (next + (k - length clauses)) ≡ false = not_among (deleted_numbers log) (next + (k - length clauses)) (λ m at. omega (arith, (are.gone m at).1)) in
      ap (live_clause form (log ++ renumbered number es)) here
      ∙ ap (λ gone. if is_among gone (next + (k - length clauses)) then None else slice_get (numbered_clauses form (log ++ renumbered number es)) (next + (k - length clauses))) (same_gone number log es none)
      ∙ ap (λ b. if b then None else slice_get (numbered_clauses form (log ++ renumbered number es)) (next + (k - length clauses))) free
      ∙ ap (λ cs. slice_get cs (next + (k - length clauses))) (same_numbered form number log es)
      ∙ slice_get-back (numbered_clauses form log) (added_clauses es) (next + (k - length clauses)) (omega arith)
      ∙ ap (slice_get (added_clauses es)) (omega arith)
      ∙ sym (segment_live es none k ∙ slice_get-back clauses (added_clauses es) k past)

  pub joined_live : (es : List Entry) → deleted_numbers es ≡ [] → (k : ℕ) → live_clause form (log ++ renumbered number es) (number k) ≡ live_clause clauses es k
  joined_live es none k = elim (cases_lt k (length clauses)) [ inl within ↦ first_live es none k within | inr past ↦ later_live es none k past ]

  joined_named : (es : List Entry) → deleted_numbers es ≡ [] → (hints : List ℕ) → named_clauses form (log ++ renumbered number es) (map number hints) ≡ named_clauses clauses es hints
  joined_named es none [] = refl
  joined_named es none (h ∷ hs) = λ k. cons_option (joined_live es none h k) (joined_named es none hs k)

  -- a unit of the segment is one behind both logs
  pub joined_unit : (es : List Entry) → deleted_numbers es ≡ [] → (c : List Literal) (hints : List ℕ) → IsUnit clauses es c hints → IsUnit form (log ++ renumbered number es) c (map number hints)
  joined_unit es none c hints u =
      unit_from form (log ++ renumbered number es) c (map number hints) u.some u.distinct
      (unit_fewer (database clauses es) (database form (log ++ renumbered number es)) (named_clauses form (log ++ renumbered number es) (map number hints)) c (joined_within es none)
      (subst (λ (named : List (List Literal)). IsUnitOf (database clauses es) named c) (sym (joined_named es none hints)) (unit_parts clauses es c hints u)))

  joined_entry : (es : List Entry) → deleted_numbers es ≡ [] → (e : Entry) → deleted_numbers (e ∷ []) ≡ [] → IsAllowed clauses es e → IsAllowed form (log ++ renumbered number es) (renumbered_one number e)
  joined_entry es none (Added c hints) added unit = joined_unit es none c hints unit
  joined_entry es none (Deleted n) added allowed = cc

  -- a segment that only adds units keeps the log one that a budget allows
  pub joined_allowed : (es : List Entry) → deleted_numbers es ≡ [] → AreAllowed form log → AreAllowed clauses es → AreAllowed form (log ++ renumbered number es)
  joined_allowed es none first second = λ before e after is.
      elim (split_append log (renumbered number es) before e after is) [
        | inl old ↦ first before e old.0 old.1
        | inr new ↦
            let one : RenumberedSplit number es new.0 e after = split_renumbered number es new.0 e after new.2 in
            let parts : deleted_numbers one.before ++ deleted_numbers (one.entry ∷ one.after) ≡ [] =
            sym (deleted_numbers-append one.before (one.entry ∷ one.after)) ∙ ap deleted_numbers (sym one.is) ∙ none in
            let before_none : deleted_numbers one.before ≡ [] = front_none (deleted_numbers one.before) (deleted_numbers (one.entry ∷ one.after)) parts in
            let entry_none : deleted_numbers (one.entry ∷ []) ≡ [] =
            entry_adds one.entry one.after (back_none (deleted_numbers one.before) (deleted_numbers (one.entry ∷ one.after)) parts) in
            subst (λ (x : List Entry). IsAllowed form x e) new.1
            (subst (λ (x : List Entry). IsAllowed form (log ++ x) e) (sym one.ahead)
            (subst (IsAllowed form (log ++ renumbered number one.before)) (sym one.same)
            (joined_entry one.before before_none one.entry entry_none (second one.before one.entry one.after one.is))))
      ]

-- ---- what is live behind a segment

module _ (form : List (List Literal)) (log : List Entry) (clauses : List (List Literal)) (numbers : List ℕ) (are : AreLive form log clauses numbers) (es : List Entry) (none : deleted_numbers es ≡ []) where
  abbrev total : ℕ
  total = length (numbered_clauses form log)

  abbrev now : List Entry
  now = log ++ renumbered (number_by numbers total) es

  first_number : (k : ℕ) → k < length clauses → number_by numbers total k ≡ get_or numbers k 0
  first_number k within = ap (λ b. if b then get_or numbers k 0 else total + (k - length numbers)) (lt-ltb k (length numbers) (omega (arith, are.count)))

  later_number : (k : ℕ) → length clauses ≤ k → number_by numbers total k ≡ total + (k - length clauses)
  later_number k past = ap (λ b. if b then get_or numbers k 0 else total + (k - length numbers)) (le-ltb k (length numbers) (omega (arith, are.count))) ∙ ap (λ n. total + (k - n)) are.count

  first_below : (k : ℕ) → k < length clauses → get_or numbers k 0 < total
  first_below k within =
      let c = some_in clauses k within in
      live_below form log (get_or numbers k 0) c.0 (are.live k c.0 c.1)

  rising_numbers : (j k : ℕ) → j < k → number_by numbers total j < number_by numbers total k
  rising_numbers j k less =
      elim (cases_lt k (length clauses)) [
        | inl within ↦ subst (λ m. m < number_by numbers total k) (sym (first_number j (omega (arith, less, within)))) (subst (λ m. get_or numbers j 0 < m) (sym (first_number k within)) (are.rising j k less (omega (arith, within, are.count))))
        | inr past ↦ elim (cases_lt j (length clauses)) [
          | inl early ↦ omega (arith, first_number j early, later_number k past, first_below j early)
          | inr late ↦ omega (arith, later_number j late, later_number k past, less, late)
        ]
      ]

  live_before : (m : ℕ) (c : List Literal) → m < total → live_clause form now m ≡ Some c → live_clause form log m ≡ Some c
  live_before m c old is =
      let same : live_clause form now m ≡ (if is_among (deleted_numbers log) m then None else slice_get (numbered_clauses form log ++ added_clauses es) m) =
      ap (λ gone. if is_among gone m then None else slice_get (numbered_clauses form now) m) (same_gone (number_by numbers total) log es none)
      ∙ ap (λ cs. if is_among (deleted_numbers log) m then None else slice_get cs m) (same_numbered form (number_by numbers total) log es) in
      sym (same ∙ ap (λ o. if is_among (deleted_numbers log) m then None else o) (slice_get-front (numbered_clauses form log) (added_clauses es) m old)) ∙ is

  place_of : (m : ℕ) (c : List Literal) → live_clause form now m ≡ Some c → (k : ℕ) × (number_by numbers total k ≡ m)
  place_of m c is =
      elim (cases_lt m total) [
        | inl old ↦
            let before : live_clause form log m ≡ Some c = live_before m c old is in
            let place : (k : ℕ) × (slice_get clauses k ≡ Some c) × (get_or numbers k 0 ≡ m) = are.whole m c before in
            (place.0, first_number place.0 (slice_get_within clauses place.0 c place.1) ∙ place.2)
        | inr new ↦ (length clauses + (m - total), later_number (length clauses + (m - total)) (omega arith) ∙ omega (arith, new))
      ]

  -- the clauses that the segment leaves
  pub live_after : (later : List ℕ) → length later ≡ length (clauses ++ added_clauses es) → ((k : ℕ) → k < length later → get_or later k 0 ≡ number_by numbers total k) →
      AreLive form now (clauses ++ added_clauses es) later
  live_after later count reads =
      record {
        count = count;
        live = λ k c found.
            let within : k < length later = omega (arith, slice_get_within (clauses ++ added_clauses es) k c found, count) in
            ap (live_clause form now) (reads k within) ∙ joined_live form log clauses numbers are es none k ∙ segment_live form log clauses numbers are es none k ∙ found;
        whole = λ m c is.
            let place : (k : ℕ) × (number_by numbers total k ≡ m) = place_of m c is in
            let found : slice_get (clauses ++ added_clauses es) place.0 ≡ Some c =
            sym (ap (live_clause form now) (sym place.1) ∙ joined_live form log clauses numbers are es none place.0 ∙ segment_live form log clauses numbers are es none place.0) ∙ is in
            let within : place.0 < length later = omega (arith, slice_get_within (clauses ++ added_clauses es) place.0 c found, count) in
            (place.0, found, reads place.0 within ∙ place.1);
        rising = λ j k less within. subst (λ m. m < get_or later k 0) (sym (reads j (omega (arith, less, within)))) (subst (λ m. number_by numbers total j < m) (sym (reads k within)) (rising_numbers j k less));
        gone = λ m at.
            let old : Contains (deleted_numbers log) m = subst (λ (ns : List ℕ). Contains ns m) (same_gone (number_by numbers total) log es none) at in
            let longer : length (numbered_clauses form now) ≡ total + length (added_clauses es) = ap length (same_numbered form (number_by numbers total) log es) ∙ length-append (numbered_clauses form log) (added_clauses es) in
            ((are.gone m old).0, omega (arith, (are.gone m old).1, longer));
      }

-- at first they are the form's
pub live_first : (form : List (List Literal)) (numbers : List ℕ) → length numbers ≡ length form → ((k : ℕ) → k < length numbers → get_or numbers k 0 ≡ k) → AreLive form [] form numbers
live_first form numbers count reads =
    let same : numbered_clauses form [] ≡ form = append-nil form in
    record {
      count = count;
      live = λ k c found. ap (live_clause form []) (reads k (omega (arith, slice_get_within form k c found, count))) ∙ ap (λ cs. slice_get cs k) same ∙ found;
      whole = λ m c is.
          let found : slice_get form m ≡ Some c = sym (ap (λ cs. slice_get cs m) same) ∙ is in
          (m, found, reads m (omega (arith, slice_get_within form m c found, count)));
      rising = λ j k less within. subst (λ m. m < get_or numbers k 0) (sym (reads j (omega (arith, less, within)))) (subst (λ m. j < m) (sym (reads k within)) less);
      gone = λ m at. absurd (omega (arith, at.1));
    }

-- ---- one deletion

apart_numbers : (n m : ℕ) → n ≢ m → nat_eq n m ≡ false
apart_numbers n m apart = grind (arith, apart)

same_number : (n : ℕ) → nat_eq n n ≡ true
same_number n = grind (arith)

or_true : (b : Bool) → (b || true) ≡ true
or_true true = refl
or_true false = refl

is_among-more : (ns : List ℕ) (n m : ℕ) → m ≢ n → is_among (ns ++ n ∷ []) m ≡ is_among ns m
is_among-more [] n m apart = ap (λ b. b || false) (apart_numbers n m (λ e. apart (sym e)))
is_among-more (k ∷ ks) n m apart = ap (λ b. nat_eq k m || b) (is_among-more ks n m apart)

is_among-here : (ns : List ℕ) (n : ℕ) → is_among (ns ++ n ∷ []) n ≡ true
is_among-here [] n = ap (λ b. b || false) (same_number n)
is_among-here (k ∷ ks) n = ap (λ b. nat_eq k n || b) (is_among-here ks n) ∙ or_true (nat_eq k n)

module _ (form : List (List Literal)) (log : List Entry) (n : ℕ) where
  gone_more : deleted_numbers (log ++ Deleted n ∷ []) ≡ deleted_numbers log ++ n ∷ []
  gone_more = deleted_numbers-append log (Deleted n ∷ [])

  live_other : (m : ℕ) → m ≢ n → live_clause form (log ++ Deleted n ∷ []) m ≡ live_clause form log m
  live_other m apart =
      ap (λ gone. if is_among gone m then None else slice_get (numbered_clauses form (log ++ Deleted n ∷ [])) m) gone_more
      ∙ ap (λ b. if b then None else slice_get (numbered_clauses form (log ++ Deleted n ∷ [])) m) (is_among-more (deleted_numbers log) n m apart)
      ∙ ap (λ cs. if is_among (deleted_numbers log) m then None else slice_get cs m) (numbered_clauses-deleted form log n)

  live_here : live_clause form (log ++ Deleted n ∷ []) n ≡ None
  live_here =
      ap (λ gone. if is_among gone n then None else slice_get (numbered_clauses form (log ++ Deleted n ∷ [])) n) gone_more
      ∙ ap (λ b. if b then None else slice_get (numbered_clauses form (log ++ Deleted n ∷ [])) n) (is_among-here (deleted_numbers log) n)

-- the place, before the element at `at` went, of one that is left
abbrev pub place_before : ℕ → ℕ → ℕ
place_before at k = if nat_lt k at then k else suc k

slice_get-without : {X : Type 0} → (xs ys : List X) (x : X) (k : ℕ) → slice_get (xs ++ ys) k ≡ slice_get (xs ++ x ∷ ys) (place_before (length xs) k)
slice_get-without [] ys x k = ap (λ b. slice_get (x ∷ ys) (if b then k else suc k)) (sym (le-ltb k 0 (omega arith)))
slice_get-without (z ∷ xs) ys x zero = ap (λ b. slice_get (z ∷ (xs ++ x ∷ ys)) (if b then 0 else 1)) (sym (lt-ltb 0 (suc (length xs)) (omega arith)))
slice_get-without (z ∷ xs) ys x (suc k) =
    slice_get-without xs ys x k
    ∙ (elim (cases_lt k (length xs)) [
      | inl below ↦ ap (λ b. slice_get (xs ++ x ∷ ys) (if b then k else suc k)) (lt-ltb k (length xs) below) ∙ sym (ap (λ b. slice_get (z ∷ (xs ++ x ∷ ys)) (if b then suc k else suc (suc k))) (lt-ltb (suc k) (suc (length xs)) (omega (arith, below))))
      | inr past ↦ ap (λ b. slice_get (xs ++ x ∷ ys) (if b then k else suc k)) (le-ltb k (length xs) past) ∙ sym (ap (λ b. slice_get (z ∷ (xs ++ x ∷ ys)) (if b then suc k else suc (suc k))) (le-ltb (suc k) (suc (length xs)) (omega (arith, past))))
    ])

get_or-slices : (xs ys : List ℕ) (j k : ℕ) → slice_get xs j ≡ slice_get ys k → get_or xs j 0 ≡ get_or ys k 0
get_or-slices xs ys j k same = sym (unwrap_or-slice_get xs j 0) ∙ ap (λ o. unwrap_or o 0) same ∙ unwrap_or-slice_get ys k 0

left_behind : (p l : ℕ) → l ≤ p → p ≢ l → (k : ℕ) × (place_before l k ≡ p)
left_behind zero l past apart = absurd (apart (omega (arith, past)))
left_behind (suc p) l past apart =
    let above : l ≤ p = omega (arith, past, apart) in
    (p, ap (λ b. if b then p else suc p) (le-ltb p l above))

module _ (form : List (List Literal)) (log : List Entry) (front : List (List Literal)) (c : List Literal) (back : List (List Literal)) (fs : List ℕ) (n : ℕ) (bs : List ℕ) (are : AreLive form log (front ++ c ∷ back) (fs ++ n ∷ bs)) (fits : length fs ≡ length front) (later : length form ≤ n) where
  at_front : get_or (fs ++ n ∷ bs) (length front) 0 ≡ n
  at_front = ap (λ k. get_or (fs ++ n ∷ bs) k 0) (sym fits) ∙ get_or_middle fs n bs

  here_live : live_clause form log n ≡ Some c
  here_live = ap (live_clause form log) (sym at_front) ∙ are.live (length front) c (slice_get_middle front c back)

  shorter : length (fs ++ n ∷ bs) ≡ suc (length (fs ++ bs))
  shorter = omega (arith, length-append fs (n ∷ bs), length-append fs bs)

  read_number : (k : ℕ) → get_or (fs ++ bs) k 0 ≡ get_or (fs ++ n ∷ bs) (place_before (length front) k) 0
  read_number k = get_or-slices (fs ++ bs) (fs ++ n ∷ bs) k (place_before (length front) k) (slice_get-without fs bs n k ∙ ap (λ l. slice_get (fs ++ n ∷ bs) (place_before l k)) fits)

  place_apart : (k : ℕ) → k < length (fs ++ bs) → get_or (fs ++ bs) k 0 ≢ n
  place_apart k within =
      elim (cases_lt k (length front)) [
        | inl below ↦
            let place : place_before (length front) k ≡ k = ap (λ b. if b then k else suc k) (lt-ltb k (length front) below) in
            let less : get_or (fs ++ n ∷ bs) k 0 < get_or (fs ++ n ∷ bs) (length front) 0 = are.rising k (length front) below (omega (arith, shorter, length-append fs bs, fits)) in
            let same : get_or (fs ++ bs) k 0 ≡ get_or (fs ++ n ∷ bs) k 0 = read_number k ∙ ap (λ p. get_or (fs ++ n ∷ bs) p 0) place in
            λ e. omega (arith, less, at_front, same, e)
        | inr past ↦
            let place : place_before (length front) k ≡ suc k = ap (λ b. if b then k else suc k) (le-ltb k (length front) past) in
            let less : get_or (fs ++ n ∷ bs) (length front) 0 < get_or (fs ++ n ∷ bs) (suc k) 0 = are.rising (length front) (suc k) (omega (arith, past)) (omega (arith, shorter, within)) in
            let same : get_or (fs ++ bs) k 0 ≡ get_or (fs ++ n ∷ bs) (suc k) 0 = read_number k ∙ ap (λ p. get_or (fs ++ n ∷ bs) p 0) place in
            λ e. omega (arith, less, at_front, same, e)
      ]

  count_left : length (fs ++ bs) ≡ length (front ++ back)
  count_left = omega (arith, are.count, length-append fs (n ∷ bs), length-append fs bs, length-append front (c ∷ back), length-append front back)

  rising_place : (j k : ℕ) → j < k → place_before (length front) j < place_before (length front) k
  rising_place j k less =
      elim (cases_lt k (length front)) [
        | inl below ↦
            omega (arith, less, ap (λ b. if b then j else suc j) (lt-ltb j (length front) (omega (arith, less, below))), ap (λ b. if b then k else suc k) (lt-ltb k (length front) below))
        | inr past ↦ elim (cases_lt j (length front)) [
          | inl early ↦ omega (arith, less, ap (λ b. if b then j else suc j) (lt-ltb j (length front) early), ap (λ b. if b then k else suc k) (le-ltb k (length front) past))
          | inr late ↦ omega (arith, less, ap (λ b. if b then j else suc j) (le-ltb j (length front) late), ap (λ b. if b then k else suc k) (le-ltb k (length front) past))
        ]
      ]

  place_within : (k : ℕ) → k < length (fs ++ bs) → place_before (length front) k < length (fs ++ n ∷ bs)
  place_within k within =
      elim (cases_lt k (length front)) [
        | inl below ↦ omega (arith, within, shorter, ap (λ b. if b then k else suc k) (lt-ltb k (length front) below))
        | inr past ↦ omega (arith, within, shorter, ap (λ b. if b then k else suc k) (le-ltb k (length front) past))
      ]

  -- the place that is left of one before
  place_left : (p : ℕ) → p ≢ length front → (k : ℕ) × (place_before (length front) k ≡ p)
  place_left p apart =
      elim (cases_lt p (length front)) [
        | inl below ↦ (p, ap (λ b. if b then p else suc p) (lt-ltb p (length front) below))
        | inr past ↦ left_behind p (length front) past apart
      ]

  whole_from : (m : ℕ) (d : List Literal) (p k : ℕ) → place_before (length front) k ≡ p → slice_get (front ++ c ∷ back) p ≡ Some d → get_or (fs ++ n ∷ bs) p 0 ≡ m → (k : ℕ) × (slice_get (front ++ back) k ≡ Some d) × (get_or (fs ++ bs) k 0 ≡ m)
  whole_from m d p k at found named = (k, slice_get-without front back c k ∙ ap (slice_get (front ++ c ∷ back)) at ∙ found, read_number k ∙ ap (λ q. get_or (fs ++ n ∷ bs) q 0) at ∙ named)

  whole_left : (m : ℕ) (d : List Literal) → live_clause form (log ++ Deleted n ∷ []) m ≡ Some d → (k : ℕ) × (slice_get (front ++ back) k ≡ Some d) × (get_or (fs ++ bs) k 0 ≡ m)
  whole_left m d is =
      let apart : m ≢ n = λ e. let gone : live_clause form (log ++ Deleted n ∷ []) m ≡ None = ap (live_clause form (log ++ Deleted n ∷ [])) e ∙ live_here form log n in cc in
      let old : (p : ℕ) × (slice_get (front ++ c ∷ back) p ≡ Some d) × (get_or (fs ++ n ∷ bs) p 0 ≡ m) = are.whole m d (sym (live_other form log n m apart) ∙ is) in
      let other : old.0 ≢ length front = λ e. apart (sym old.2 ∙ ap (λ p. get_or (fs ++ n ∷ bs) p 0) e ∙ at_front) in
      let k : (k : ℕ) × (place_before (length front) k ≡ old.0) = place_left old.0 other in
      whole_from m d old.0 k.0 k.1 old.1 old.2

  pub live_left : AreLive form (log ++ Deleted n ∷ []) (front ++ back) (fs ++ bs)
  live_left =
      record {
        count = count_left;
        live = λ k d found.
            let within : k < length (fs ++ bs) = omega (arith, slice_get_within (front ++ back) k d found, count_left) in
            live_other form log n (get_or (fs ++ bs) k 0) (place_apart k within)
            ∙ ap (live_clause form log) (read_number k)
            ∙ are.live (place_before (length front) k) d (sym (slice_get-without front back c k) ∙ found);
        whole = whole_left;
        rising = λ j k less within.
            subst (λ m. m < get_or (fs ++ bs) k 0) (sym (read_number j)) (subst (λ m. get_or (fs ++ n ∷ bs) (place_before (length front) j) 0 < m) (sym (read_number k))
            (are.rising (place_before (length front) j) (place_before (length front) k) (rising_place j k less) (place_within k within)));
        gone = λ m at.
            let same : length (numbered_clauses form (log ++ Deleted n ∷ [])) ≡ length (numbered_clauses form log) = ap length (numbered_clauses-deleted form log n) in
            elim (Contains-append_cases (deleted_numbers log) (n ∷ []) m (subst (λ (ns : List ℕ). Contains ns m) (gone_more form log n) at)) [
              | inl old ↦ ((are.gone m old).0, omega (arith, (are.gone m old).1, same))
              | inr new ↦
                  let e : n ≡ m = Contains-one n m new in
                  (omega (arith, later, e), omega (arith, live_below form log n c here_live, same, e))
            ];
      }

  -- the deletion is one that a budget allows, where the clauses that are left give a literal of the clause
  pub deletion_allowed : (l : Literal) → Contains c l → PropagatesTo (front ++ back) l → IsAllowed form log (Deleted n)
  deletion_allowed l stands given =
      let after : List Entry = log ++ Deleted n ∷ [] in
      let gives : IsGiven (database form after) c = (l, stands, propagates_fewer (database form after) (front ++ back) l (among_live form after (front ++ back) (fs ++ bs) live_left) given) in
      (later, subst (λ o. IsSomeAnd o (IsGiven (database form after))) (sym here_live) gives)

-- ---- answers

all_from : (a : ℕ → Bool) (cs : List (List Literal)) → ((c : List Literal) → Contains cs c → clause_value a c ≡ true) → Satisfies a cs
all_from a [] each = refl
all_from a (c ∷ cs) each = and_from _ _ (each c (Contains-head c cs)) (all_from a cs (λ d at. each d (Contains-tail c d cs at)))

-- a log of which each entry may stand there, with one more
split_last :
    {X : Type 0} → (xs : List X) (x : X) (front : List X) (y : X) (back : List X) → xs ++ x ∷ [] ≡ front ++ y ∷ back →
    ((rest : List X) × (xs ≡ front ++ y ∷ rest)) ⊎ ((front ≡ xs) × (y ≡ x))
split_last [] x [] y back is = let same : x ≡ y = cc in inr (refl, sym same)
split_last [] x (z ∷ zs) y back is = absurd (omega (arith, ap length is, length-append zs (y ∷ back)))
split_last (w ∷ ws) x [] y back is = let same : w ≡ y = cc in inl (ws, λ k. same k ∷ ws)
split_last (w ∷ ws) x (z ∷ zs) y back is =
    let same : w ≡ z = cc in
    let rest : ws ++ x ∷ [] ≡ zs ++ y ∷ back = cc in
    elim (split_last ws x zs y back rest) [
      | inl old ↦ inl (old.0, λ k. same k ∷ old.1 k)
      | inr new ↦ inr ((λ k. (sym same) k ∷ new.0 k), new.1)
    ]

pub AreAllowed-added : (form : List (List Literal)) (log : List Entry) (e : Entry) → AreAllowed form log → IsAllowed form log e → AreAllowed form (log ++ e ∷ [])
AreAllowed-added form log e allowed here = λ before f after is.
    elim (split_last log e before f after is) [
      | inl old ↦ allowed before f old.0 old.1
      | inr new ↦ subst (λ (x : List Entry). IsAllowed form x f) (sym new.0) (subst (IsAllowed form log) (sym new.1) here)
    ]

pub IsDerivation-added : (form : List (List Literal)) (log : List Entry) (e : Entry) → IsDerivation form log → IsJustified form log e → IsDerivation form (log ++ e ∷ [])
IsDerivation-added form log e derives here = λ before f after is.
    elim (split_last log e before f after is) [
      | inl old ↦ derives before f old.0 old.1
      | inr new ↦ subst (λ (x : List Entry). IsJustified form x f) (sym new.0) (subst (IsJustified form log) (sym new.1) here)
    ]

pub within_renumbered : (n : ℕ) (f : ℕ → ℕ) (es : List Entry) → AreEntriesWithin n es → AreEntriesWithin n (renumbered f es)
within_renumbered n f [] all = tt
within_renumbered n f (Added c hints ∷ es) all = (all.0, within_renumbered n f es all.1)
within_renumbered n f (Deleted m ∷ es) all = (tt, within_renumbered n f es all.1)

pub within_append : (n : ℕ) (log es : List Entry) → AreEntriesWithin n log → AreEntriesWithin n es → AreEntriesWithin n (log ++ es)
within_append n [] es all rest = rest
within_append n (e ∷ log) es all rest = (all.0, within_append n log es all.1 rest)

module _ (form : List (List Literal)) (log : List Entry) (clauses : List (List Literal)) (numbers : List ℕ) (are : AreLive form log clauses numbers) where
  abbrev named_by : ℕ → ℕ
  named_by = number_by numbers (length (numbered_clauses form log))

  -- the form's clauses are all there
  form_within : (c : List Literal) → Contains form c → Contains clauses c
  form_within c at =
      let spared : is_among (deleted_numbers log) at.0 ≡ false = not_among_any (deleted_numbers log) at.0 (λ m gone. omega (arith, at.1, (are.gone m gone).0)) in
      let found : slice_get (numbered_clauses form log) at.0 ≡ Some c = slice_get-front form (added_clauses log) at.0 at.1 ∙ slice_get-get_or form at.0 c at.1 ∙ ap Some at.2 in
      let live : live_clause form log at.0 ≡ Some c = ap (λ b. if b then None else slice_get (numbered_clauses form log) at.0) spared ∙ found in
      let place : (k : ℕ) × (slice_get clauses k ≡ Some c) × (get_or numbers k 0 ≡ at.0) = are.whole at.0 c live in
      Contains-at clauses place.0 c place.1

  pub satisfies_form : (a : ℕ → Bool) → Satisfies a clauses → Satisfies a form
  satisfies_form a all = all_from a form (λ c at. Satisfies-at a clauses c all (form_within c at))

  pub joined_count : (es : List Entry) → length (added_clauses (log ++ renumbered named_by es)) ≡ length (added_clauses log) + length (added_clauses es)
  joined_count es =
      ap length (added_clauses-append log (renumbered named_by es) ∙ ap (λ cs. added_clauses log ++ cs) (added_renumbered named_by es)) ∙ length-append (added_clauses log) (added_clauses es)

  pub joined_last : (front : List Entry) (e : Entry) (es : List Entry) → es ≡ front ++ e ∷ [] → log ++ renumbered named_by es ≡ (log ++ renumbered named_by front) ++ renumbered_one named_by e ∷ []
  joined_last front e es is =
      ap (λ (x : List Entry). log ++ renumbered named_by x) is
      ∙ ap (λ (x : List Entry). log ++ x) (renumbered-append named_by front (e ∷ []) ∙ ap (λ (x : List Entry). renumbered named_by front ++ x) (renumbered_cons named_by e []))
      ∙ sym (append_assoc log (renumbered named_by front) (renumbered_one named_by e ∷ []))

  joined_end : (es : List Entry) → EndsAdding es → EndsAdding (log ++ renumbered named_by es)
  joined_end es ends =
      (log ++ renumbered named_by ends.0, ends.1, map named_by ends.2, joined_last ends.0 (Added ends.1 ends.2) es ends.3)

  -- the budget is spent
  pub joined_spent : (n : ℕ) (es : List Entry) → deleted_numbers es ≡ [] → AreAllowed form log → IsSpent clauses es n → IsSpent form (log ++ renumbered named_by es) (length (added_clauses log) + n)
  joined_spent n es none allowed spent =
      record {
        allowed = joined_allowed form log clauses numbers are es none allowed spent.allowed;
        count = joined_count es ∙ ap (λ m. length (added_clauses log) + m) spent.count;
        ends = joined_end es spent.ends;
        undecided = λ conflicts. spent.undecided (conflicts_fewer (database clauses es) (database form (log ++ renumbered named_by es)) (joined_within form log clauses numbers are es none) conflicts);
      }

  -- the clauses come to a conflict by themselves
  pub joined_refutation : (front : List Entry) (hints : List ℕ) → deleted_numbers front ≡ [] → AreAllowed form log → AreAllowed clauses front → Follows (database clauses front) [] →
      IsRefutation form (log ++ renumbered named_by (front ++ Added [] hints ∷ []))
  joined_refutation front hints none allowed rest follows =
      let all : AreAllowed form (log ++ renumbered named_by front) = joined_allowed form log clauses numbers are front none allowed rest in
      let here : Follows (database form (log ++ renumbered named_by front)) [] =
      follows_fewer (database form (log ++ renumbered named_by front)) (database clauses front) [] (joined_has form log clauses numbers are front none) follows in
      subst (IsRefutation form) (sym (joined_last front (Added [] hints) (front ++ Added [] hints ∷ []) refl))
      (record {
        derives = IsDerivation-added form (log ++ renumbered named_by front) (Added [] (map named_by hints)) (IsDerivation-allowed form (log ++ renumbered named_by front) all) here;
        ends = (log ++ renumbered named_by front, Added [] (map named_by hints), refl, refl);
      })
