-- No unit of a budget has the literals of an earlier one.
use Rattle.std.proofs.Common.{◌≡◌, ◌≢◌, ℕ, ◌+◌, ◌-◌, ◌<◌, ◌≤◌, ◌⊎◌, inl, inr, Bool, true, false, List, [], ◌∷◌, ◌++◌, length, refl, sym, ap, ◌∙◌, subst, arith, append_assoc, append-nil, ◌&&◌, ◌||◌}
use Rattle.std.specs.Prelude.{Option, Some, None, Contains, IsTrue, IsSomeAnd, nat_eq, slice_get, if◌then◌else◌}
use Rattle.std.proofs.lemmas.Bool.{cases_eq, true≢false, and_parts, and_from}
use Rattle.std.proofs.lemmas.List.Folds.{list_any-append}
use Rattle.std.proofs.Common.{ne_eqb}
use Rattle.std.proofs.Math.ListN.{length-append}
use Rattle.std.proofs.lemmas.Option.{slice_get_within}
use Rattle.std.proofs.lemmas.List.Elements.{Contains-append_left, Contains-append_right, Contains-append_cases}
use Rattle.sat_form.specs.Satisfaction.{Literal, inverse_of}
use Rattle.sat_form.specs.Propagation.{Gives, IsClosed, PropagatesTo, HasFalsified, Conflicts, negation_of}
use Rattle.sat_form.specs.Databases.{deleted_numbers, numbered_clauses, is_among, database, live_clause}
use Rattle.sat_form.specs.Budget.{IsUnit, IsNews, IsGiven, IsAllowed, AreAllowed, HaveSameLiterals}
use Rattle.sat_form.specs.declared.logs.Entry.{Entry}
use Rattle.sat_form.specs.declared.logs.Entry.TheVariants.{Added, Deleted}
use Rattle.sat_form.proofs.Databases.{Contains-head, Contains-tail, Contains-cons_cases, database-has, database-from, slice_get-front, slice_get-back}
use Rattle.sat_form.proofs.Propagation.{literal_cases, IsClosed-front, IsClosed-back, IsFalsified-more, closed-negation}
use Rattle.sat_form.proofs.Refutations.{numbered_clauses-added, numbered_clauses-deleted}

-- a search through a list
search_list :
    {X : Type 0} → (P : X → Type 0) → ((x : X) → P x ⊎ (P x → ⊥)) → (xs : List X) → ((x : X) × Contains xs x × P x) ⊎ ((x : X) → Contains xs x → P x → ⊥)
search_list P decide [] = inr (λ x at _. absurd (omega (arith, at.1)))
search_list P decide (y ∷ ys) =
    elim (decide y) [
      | inl here ↦ inl (y, Contains-head y ys, here)
      | inr not_here ↦ elim (search_list P decide ys) [
        | inl (x, at, p) ↦ inl (x, Contains-tail y x ys at, p)
        | inr none ↦ inr (λ x at p. elim (Contains-cons_cases y x ys at) [ inl same ↦ not_here (subst P (sym same) p) | inr there ↦ none x there p ])
      ]
    ]

-- whether a clause gives a literal that isn't in the set
decide_true : (b : Bool) → (b ≡ true) ⊎ (b ≡ false)
decide_true true = inl refl
decide_true false = inr refl

IsLeftOther : (Literal → Bool) → Literal → Literal → Type 0
IsLeftOther s m n = (n ≢ m) × (s (inverse_of n) ≡ false)

decide_left : (s : Literal → Bool) (m n : Literal) → IsLeftOther s m n ⊎ (IsLeftOther s m n → ⊥)
unfolding IsLeftOther
decide_left s m n =
    elim (literal_cases n m) [
      | inl same ↦ inr (λ left. left.0 same)
      | inr other ↦ elim (decide_true (s (inverse_of n))) [ inl in_ ↦ inr (λ left. true≢false (sym in_ ∙ left.1)) | inr out ↦ inl (other, out) ]
    ]

GivesNew : (Literal → Bool) → List Literal → Literal → Type 0
GivesNew s c m = ((n : Literal) → Contains c n → n ≢ m → IsTrue (s (inverse_of n))) × (s m ≡ false)

decide_new : (s : Literal → Bool) (c : List Literal) (m : Literal) → GivesNew s c m ⊎ (GivesNew s c m → ⊥)
unfolding GivesNew IsLeftOther
decide_new s c m =
    elim (decide_true (s m)) [
      | inl in_ ↦ inr (λ new. true≢false (sym in_ ∙ new.1))
      | inr out ↦ elim (search_list (IsLeftOther s m) (decide_left s m) c) [
        | inl (n, at, left) ↦ inr (λ new. true≢false (sym (new.0 n at left.0) ∙ left.1))
        | inr none ↦ inl (
          λ n at other. elim (decide_true (s (inverse_of n))) [ inl in_ ↦ in_ | inr gone ↦ absurd (none n at (other, gone)) ],
          out,
        )
      ]
    ]

GivesSome : (Literal → Bool) → List Literal → Type 0
GivesSome s c = (m : Literal) × Gives s c m × (s m ≡ false)

decide_some : (s : Literal → Bool) (c : List Literal) → GivesSome s c ⊎ (GivesSome s c → ⊥)
unfolding GivesSome GivesNew
decide_some s c =
    elim (search_list (GivesNew s c) (decide_new s c) c) [
      | inl (m, at, new) ↦ inl (m, record { stands = at; others = new.0 }, new.1)
      | inr none ↦ inr (λ (m, gives, out). none m gives.stands (gives.others, out))
    ]

-- a set is closed, or a clause gives a literal that it lacks
closed_or : (clauses : List (List Literal)) (s : Literal → Bool) → IsClosed clauses s ⊎ ((c : List Literal) × Contains clauses c × GivesSome s c)
unfolding GivesSome
closed_or clauses s =
    elim (search_list (GivesSome s) (decide_some s) clauses) [
      | inl found ↦ inr found
      | inr none ↦ inl (λ c at l gives. elim (decide_true (s l)) [ inl in_ ↦ in_ | inr out ↦ absurd (none c at (l, gives, out)) ])
    ]

-- where propagation gives l, a closed set that has l's inverse falsifies a clause
same_literal : Literal → Literal → Bool
same_literal l m = elim (literal_cases l m) [ inl same ↦ true | inr other ↦ false ]

without : (Literal → Bool) → Literal → Literal → Bool
without s l m = if same_literal l m then false else s m

without-same : (s : Literal → Bool) (l : Literal) → without s l l ≡ false
unfolding without same_literal
without-same s l =
    elim (literal_cases l l) as (λ d. (if (elim d [ inl same ↦ true | inr other ↦ false ]) then false else s l) ≡ false) [ inl same ↦ refl | inr other ↦ absurd (other refl) ]

without-other : (s : Literal → Bool) (l m : Literal) → l ≢ m → without s l m ≡ s m
unfolding without same_literal
without-other s l m apart =
    elim (literal_cases l m) as (λ d. (if (elim d [ inl same ↦ true | inr other ↦ false ]) then false else s m) ≡ s m) [ inl same ↦ absurd (apart same) | inr other ↦ refl ]

without-within : (s : Literal → Bool) (l m : Literal) → IsTrue (without s l m) → IsTrue (s m)
without-within s l m in_ =
    elim (literal_cases l m) [
      | inl same ↦ absurd (true≢false (sym in_ ∙ ap (without s l) (sym same) ∙ without-same s l))
      | inr other ↦ sym (without-other s l m other) ∙ in_
    ]

given-falsified : (clauses : List (List Literal)) (l : Literal) (t : Literal → Bool) → PropagatesTo clauses l → IsClosed clauses t → IsTrue (t (inverse_of l)) → HasFalsified clauses t
unfolding GivesSome
given-falsified clauses l t given closed inverse =
    elim (closed_or clauses (without t l)) [
      | inl smaller ↦ absurd (true≢false (sym (given (without t l) smaller) ∙ without-same t l))
      | inr (c, at, (m, gives, out)) ↦
          let in_ : IsTrue (t m) =
          closed c at m (record { stands = gives.stands; others = λ n there other. without-within t l (inverse_of n) (gives.others n there other) }) in
          let same : l ≡ m = elim (literal_cases l m) [ inl e ↦ e | inr apart ↦ absurd (true≢false (sym in_ ∙ sym (without-other t l m apart) ∙ out)) ] in (
            c,
            at,
            λ n there. elim (literal_cases n m) [
              | inl here ↦ subst (λ (x : Literal). IsTrue (t (inverse_of x))) (same ∙ sym here) inverse
              | inr other ↦ without-within t l (inverse_of n) (gives.others n there other)
            ],
          )
    ]

-- live numbers
deleted_numbers-append : (es fs : List Entry) → deleted_numbers (es ++ fs) ≡ deleted_numbers es ++ deleted_numbers fs
deleted_numbers-append [] fs = refl
deleted_numbers-append (Added c hs ∷ es) fs = deleted_numbers-append es fs
deleted_numbers-append (Deleted n ∷ es) fs = ap (λ ns. n ∷ ns) (deleted_numbers-append es fs)

record IsLiveAt (form : List (List Literal)) (es : List Entry) (n : ℕ) (x : List Literal) : Type 0 where
  kept : is_among (deleted_numbers es) n ≡ false
  at : slice_get (numbered_clauses form es) n ≡ Some x

live-parts : (form : List (List Literal)) (es : List Entry) (n : ℕ) (x : List Literal) → live_clause form es n ≡ Some x → IsLiveAt form es n x
live-parts form es n x is =
    elim (is_among (deleted_numbers es) n) as (λ b. is_among (deleted_numbers es) n ≡ b → (if b then None else slice_get (numbered_clauses form es) n) ≡ Some x → IsLiveAt form es n x) [
      | true ↦ λ _ none. absurd (cc)
      | false ↦ λ kept found. record { kept = kept; at = found }
    ] refl is

live-from : (form : List (List Literal)) (es : List Entry) (n : ℕ) (x : List Literal) → IsLiveAt form es n x → live_clause form es n ≡ Some x
live-from form es n x live = ap (λ b. if b then None else slice_get (numbered_clauses form es) n) live.kept ∙ live.at

live-added : (form : List (List Literal)) (es : List Entry) (n : ℕ) (x c : List Literal) (hs : List ℕ) → live_clause form es n ≡ Some x → live_clause form (es ++ Added c hs ∷ []) n ≡ Some x
live-added form es n x c hs is =
    let live : IsLiveAt form es n x = live-parts form es n x is in
    live-from form (es ++ Added c hs ∷ []) n x (record {
      kept = ap (λ ns. is_among ns n) (deleted_numbers-append es (Added c hs ∷ []) ∙ append-nil (deleted_numbers es)) ∙ live.kept;
      at = ap (λ cs. slice_get cs n) (numbered_clauses-added form es c hs)
          ∙ slice_get-front (numbered_clauses form es) (c ∷ []) n (slice_get_within (numbered_clauses form es) n x live.at) ∙ live.at;
    })

live-deleted : (form : List (List Literal)) (es : List Entry) (n k : ℕ) (x : List Literal) → live_clause form es n ≡ Some x → n ≢ k → live_clause form (es ++ Deleted k ∷ []) n ≡ Some x
live-deleted form es n k x is apart =
    let live : IsLiveAt form es n x = live-parts form es n x is in
    live-from form (es ++ Deleted k ∷ []) n x (record {
      kept = ap (λ ns. is_among ns n) (deleted_numbers-append es (Deleted k ∷ [])) ∙ list_any-append (λ m. nat_eq m n) (deleted_numbers es) (k ∷ [])
          ∙ (λ i. live.kept i || (ne_eqb k n (λ e. apart (sym e)) i || false));
      at = ap (λ cs. slice_get cs n) (numbered_clauses-deleted form es k) ∙ live.at;
    })

-- what one more entry leaves of the closed sets
Keeps : List (List Literal) → List (List Literal) → (Literal → Bool) → Type 0
Keeps before behind t = HasFalsified behind t ⊎ (IsClosed before t × (HasFalsified before t → HasFalsified behind t))

keeps-more : (before behind : List (List Literal)) (t : Literal → Bool) → ((x : List Literal) → Contains before x → Contains behind x) → IsClosed behind t → Keeps before behind t
unfolding Keeps
keeps-more before behind t more closed = inr (λ x at. closed x (more x at), λ conflict. (conflict.0, more conflict.0 conflict.1, conflict.2))

keeps-but_one :
    (before behind : List (List Literal)) (x : List Literal) (t : Literal → Bool) → ((y : List Literal) → Contains before y → (y ≡ x) ⊎ Contains behind y) → IsGiven behind x →
    IsClosed behind t → Keeps before behind t
unfolding Keeps
keeps-but_one before behind x t cases given closed =
    elim (decide_true (t (inverse_of given.0))) [
      | inl inverse ↦ inl (given-falsified behind given.0 t given.2 closed inverse)
      | inr none ↦ inr (
        λ y at m gives. elim (cases y at) [
          | inr there ↦ closed y there m gives
          | inl same ↦ elim (literal_cases given.0 m) [
            | inl here ↦ subst (λ (z : Literal). IsTrue (t z)) here (given.2 t closed)
            | inr other ↦ absurd (true≢false (sym (gives.others given.0 (subst (λ (z : List Literal). Contains z given.0) (sym same) given.1) other) ∙ none))
          ]
        ],
        λ conflict. elim (cases conflict.0 conflict.1) [
          | inr there ↦ (conflict.0, there, conflict.2)
          | inl same ↦ absurd (true≢false (sym (conflict.2 given.0 (subst (λ (z : List Literal). Contains z given.0) (sym same) given.1)) ∙ none))
        ],
      )
    ]

pub record IsSomeIs {X : Type 0} (o : Option X) (P : X → Type 0) : Type 0 where
  pub x : X
  pub is : o ≡ Some x
  pub holds : P x

pub some_and : {X : Type 0} → (o : Option X) (P : X → Type 0) → IsSomeAnd o P → IsSomeIs o P
some_and None P h = absurd h
some_and (Some x) P h = record { x = x; is = refl; holds = h }

some_same : {X : Type 0} → (x y : X) → Some x ≡ Some y → x ≡ y
some_same x y e = cc

keeps-entry :
    (form : List (List Literal)) (before : List Entry) (e : Entry) (t : Literal → Bool) → IsAllowed form before e → IsClosed (database form (before ++ e ∷ [])) t →
    Keeps (database form before) (database form (before ++ e ∷ [])) t
keeps-entry form before (Added c hs) t allowed closed =
    keeps-more (database form before) (database form (before ++ Added c hs ∷ [])) t
    (λ x at. let found = database-from form before x at in database-has form (before ++ Added c hs ∷ []) found.0 x (live-added form before found.0 x c hs found.2)) closed
keeps-entry form before (Deleted k) t allowed closed =
    let gone : IsSomeIs (live_clause form before k) (IsGiven (database form (before ++ Deleted k ∷ []))) = some_and (live_clause form before k) (IsGiven (database form (before ++ Deleted k ∷ []))) allowed.1 in
    keeps-but_one (database form before) (database form (before ++ Deleted k ∷ [])) gone.x t
    (λ y at. let found = database-from form before y at in
    elim (cases_eq found.0 k) [
      | inl same ↦ inl (some_same y gone.x (sym found.2 ∙ ap (live_clause form before) same ∙ gone.is))
      | inr other ↦ inr (database-has form (before ++ Deleted k ∷ []) found.0 y (live-deleted form before found.0 k y found.2 other))
    ])
    gone.holds closed

-- propagation gives the literal, or comes to a conflict
IsFixed : List (List Literal) → Literal → Type 0
IsFixed clauses l = (t : Literal → Bool) → IsClosed clauses t → HasFalsified clauses t ⊎ IsTrue (t l)

-- a clause that was added is live, or has a literal that is fixed
record IsFixedIn (clauses : List (List Literal)) (c : List Literal) : Type 0 where
  l : Literal
  stands : Contains c l
  fixed : IsFixed clauses l

IsKept : List (List Literal) → List Entry → ℕ → List Literal → Type 0
IsKept form es n c = (live_clause form es n ≡ Some c) ⊎ IsFixedIn (database form es) c

fixed-entry :
    (form : List (List Literal)) (before : List Entry) (e : Entry) (l : Literal) → IsAllowed form before e → IsFixed (database form before) l → IsFixed (database form (before ++ e ∷ [])) l
unfolding IsFixed Keeps
fixed-entry form before e l allowed fixed = λ t closed. elim (keeps-entry form before e t allowed closed) [
  | inl conflict ↦ inl conflict
  | inr kept ↦ elim (fixed t kept.0) [ inl conflict ↦ inl (kept.1 conflict) | inr in_ ↦ inr in_ ]
]

kept-entry : (form : List (List Literal)) (before : List Entry) (n : ℕ) (c : List Literal) (e : Entry) → IsAllowed form before e → IsKept form before n c → IsKept form (before ++ e ∷ []) n c
unfolding IsKept IsFixed
kept-entry form before n c (Added d gs) allowed kept =
    elim kept [
      | inl live ↦ inl (live-added form before n c d gs live)
      | inr given ↦ inr (record { l = given.l; stands = given.stands; fixed = fixed-entry form before (Added d gs) given.l allowed given.fixed })
    ]
kept-entry form before n c (Deleted k) allowed kept =
    elim kept [
      | inr given ↦ inr (record { l = given.l; stands = given.stands; fixed = fixed-entry form before (Deleted k) given.l allowed given.fixed })
      | inl live ↦ elim (cases_eq n k) [
        | inr other ↦ inl (live-deleted form before n k c live other)
        | inl same ↦
            let gone : IsSomeIs (live_clause form before k) (IsGiven (database form (before ++ Deleted k ∷ []))) = some_and (live_clause form before k) (IsGiven (database form (before ++ Deleted k ∷ []))) allowed.1 in
            let is : gone.x ≡ c = some_same gone.x c (sym gone.is ∙ ap (live_clause form before) (sym same) ∙ live) in
            inr (record {
              l = gone.holds.0;
              stands = subst (λ (z : List Literal). Contains z gone.holds.0) is gone.holds.1;
              fixed = λ t closed. inr (gone.holds.2 t closed);
            })
      ]
    ]

kept-entries :
    (form : List (List Literal)) (before rest : List Entry) (n : ℕ) (c : List Literal) → AreAllowed form (before ++ rest) → IsKept form before n c → IsKept form (before ++ rest) n c
kept-entries form before [] n c allowed kept = subst (λ (es : List Entry). IsKept form es n c) (sym (append-nil before)) kept
kept-entries form before (e ∷ es) n c allowed kept =
    let same : (before ++ e ∷ []) ++ es ≡ before ++ e ∷ es = append_assoc before (e ∷ []) es in
    subst (λ (xs : List Entry). IsKept form xs n c) same
    (kept-entries form (before ++ e ∷ []) es n c (subst (AreAllowed form) (sym same) allowed) (kept-entry form before n c e (allowed before e es refl) kept))

-- a unit and a clause of the same literals that is live, or has a fixed literal
Conflicts-more : (xs ys : List (List Literal)) → Conflicts xs → Conflicts (xs ++ ys)
Conflicts-more xs ys conflicts = λ t closed. let conflict = conflicts t (IsClosed-front xs ys t closed) in (conflict.0, Contains-append_left xs ys conflict.0 conflict.1, conflict.2)

both_sets : (Literal → Bool) → (Literal → Bool) → Literal → Bool
both_sets s t l = s l && t l

both-closed : (clauses : List (List Literal)) (s t : Literal → Bool) → IsClosed clauses s → IsClosed clauses t → IsClosed clauses (both_sets s t)
unfolding both_sets
both-closed clauses s t first second = λ c at l gives. and_from (s l) (t l)
    (first c at l (record { stands = gives.stands; others = λ m there other. (and_parts _ _ (gives.others m there other)).0 }))
    (second c at l (record { stands = gives.stands; others = λ m there other. (and_parts _ _ (gives.others m there other)).1 }))

fixed-given : (clauses : List (List Literal)) (l : Literal) → IsFixed clauses l → (Conflicts clauses → ⊥) → PropagatesTo clauses l
unfolding IsFixed both_sets
fixed-given clauses l fixed quiet = λ t closed. elim (decide_true (t l)) [
  | inl in_ ↦ in_
  | inr out ↦ absurd (quiet (λ s also. elim (fixed (both_sets s t) (both-closed clauses s t also closed)) [
    | inl conflict ↦ (conflict.0, conflict.1, IsFalsified-more (both_sets s t) s conflict.0 (λ m in_. (and_parts _ _ in_).0) conflict.2)
    | inr in_ ↦ absurd (true≢false (sym (and_parts (s l) (t l) in_).1 ∙ out))
  ]))
]

live-no_news : (clauses : List (List Literal)) (c d : List Literal) → HaveSameLiterals c d → Contains clauses c → IsNews clauses d → ⊥
live-no_news clauses c d same at news = news.4 (λ t closed.
    closed c (Contains-append_left clauses (negation_of (news.0 ++ news.2)) c at) news.1 (record {
      stands = (same news.1).1 (subst (λ (z : List Literal). Contains z news.1) (sym news.3) (Contains-append_right news.0 (news.1 ∷ news.2) news.1 (Contains-head news.1 news.2)));
      others = λ m there other. closed-negation (news.0 ++ news.2) t (IsClosed-back clauses (negation_of (news.0 ++ news.2)) t closed) m
          (rest_of news.0 news.2 news.1 m (subst (λ (z : List Literal). Contains z m) news.3 ((same m).0 there)) other);
    }))
  where
    rest_of : (front back : List Literal) (l m : Literal) → Contains (front ++ l ∷ back) m → m ≢ l → Contains (front ++ back) m
    rest_of front back l m at other = elim (Contains-append_cases front (l ∷ back) m at) [
      | inl first ↦ Contains-append_left front back m first
      | inr second ↦ elim (Contains-cons_cases l m back second) [ inl here ↦ absurd (other (sym here)) | inr there ↦ Contains-append_right front back m there ]
    ]

kept-no_unit : (form : List (List Literal)) (es : List Entry) (n : ℕ) (c d : List Literal) (gs : List ℕ) → HaveSameLiterals c d → IsKept form es n c → IsUnit form es d gs → ⊥
unfolding IsKept
kept-no_unit form es n c d gs same kept unit =
    elim kept [
      | inl live ↦ live-no_news (database form es) c d same (database-has form es n c live) unit.news
      | inr given ↦
          let news : IsNews (database form es) d = unit.news in
          unit.not_true given.l ((same given.l).0 given.stands)
          (fixed-given (database form es) given.l given.fixed (λ conflicts. news.5 (Conflicts-more (database form es) (negation_of (news.0 ++ news.2)) conflicts)))
    ]

-- no number past those that clauses have is deleted
IsBounded : List (List Literal) → List Entry → Type 0
IsBounded form es = (k : ℕ) → length (numbered_clauses form es) ≤ k → is_among (deleted_numbers es) k ≡ false

bounded-entry : (form : List (List Literal)) (before : List Entry) (e : Entry) → IsAllowed form before e → IsBounded form before → IsBounded form (before ++ e ∷ [])
unfolding IsBounded
bounded-entry form before (Added c hs) allowed bounded = λ k past.
    let longer : length (numbered_clauses form (before ++ Added c hs ∷ [])) ≡ length (numbered_clauses form before) + 1 =
    ap length (numbered_clauses-added form before c hs) ∙ length-append (numbered_clauses form before) (c ∷ []) in
    ap (λ ns. is_among ns k) (deleted_numbers-append before (Added c hs ∷ []) ∙ append-nil (deleted_numbers before)) ∙ bounded k (omega (arith, longer, past))
bounded-entry form before (Deleted j) allowed bounded = λ k past.
    let gone : IsSomeIs (live_clause form before j) (IsGiven (database form (before ++ Deleted j ∷ []))) = some_and (live_clause form before j) (IsGiven (database form (before ++ Deleted j ∷ []))) allowed.1 in
    let live : IsLiveAt form before j gone.x = live-parts form before j gone.x gone.is in
    let within : j < length (numbered_clauses form before) = slice_get_within (numbered_clauses form before) j gone.x live.at in
    let same : length (numbered_clauses form (before ++ Deleted j ∷ [])) ≡ length (numbered_clauses form before) = ap length (numbered_clauses-deleted form before j) in
    let out : is_among (deleted_numbers before) k ≡ false = bounded k (omega (arith, same, past)) in
    let apart : nat_eq j k ≡ false = ne_eqb j k (λ e. absurd (omega (arith, e, within, same, past))) in
    ap (λ ns. is_among ns k) (deleted_numbers-append before (Deleted j ∷ [])) ∙ list_any-append (λ m. nat_eq m k) (deleted_numbers before) (j ∷ []) ∙ (λ i. out i || (apart i || false))

bounded-entries : (form : List (List Literal)) (before rest : List Entry) → AreAllowed form (before ++ rest) → IsBounded form before → IsBounded form (before ++ rest)
bounded-entries form before [] allowed bounded = subst (IsBounded form) (sym (append-nil before)) bounded
bounded-entries form before (e ∷ es) allowed bounded =
    let same : (before ++ e ∷ []) ++ es ≡ before ++ e ∷ es = append_assoc before (e ∷ []) es in
    subst (IsBounded form) same
    (bounded-entries form (before ++ e ∷ []) es (subst (AreAllowed form) (sym same) allowed) (bounded-entry form before e (allowed before e es refl) bounded))

bounded-all : (form : List (List Literal)) (es : List Entry) → AreAllowed form es → IsBounded form es
unfolding IsBounded
bounded-all form es allowed = bounded-entries form [] es allowed (λ k past. refl)

AreAllowed-front : (form : List (List Literal)) (xs ys : List Entry) → AreAllowed form (xs ++ ys) → AreAllowed form xs
AreAllowed-front form xs ys allowed = λ before e after is. allowed before e (after ++ ys) (ap (λ zs. zs ++ ys) is ∙ append_assoc before (e ∷ after) ys)

kept-start : (form : List (List Literal)) (before : List Entry) (c : List Literal) (hs : List ℕ) → IsBounded form before → IsKept form (before ++ Added c hs ∷ []) (length (numbered_clauses form before)) c
unfolding IsKept IsBounded
kept-start form before c hs bounded =
    let n : ℕ = length (numbered_clauses form before) in
    let first : n - length (numbered_clauses form before) ≡ 0 = omega arith in
    inl (live-from form (before ++ Added c hs ∷ []) n c (record {
      kept = ap (λ ns. is_among ns n) (deleted_numbers-append before (Added c hs ∷ []) ∙ append-nil (deleted_numbers before)) ∙ bounded n (omega arith);
      at = ap (λ cs. slice_get cs n) (numbered_clauses-added form before c hs) ∙ slice_get-back (numbered_clauses form before) (c ∷ []) n (omega arith)
          ∙ ap (slice_get (c ∷ [])) first;
    }))

-- two units of one log have different literals
pub units-differ :
    (form : List (List Literal)) (log before : List Entry) (c : List Literal) (hs : List ℕ) (middle : List Entry) (d : List Literal) (gs : List ℕ) (after : List Entry) →
    AreAllowed form log → log ≡ before ++ Added c hs ∷ (middle ++ Added d gs ∷ after) → HaveSameLiterals c d → ⊥
units-differ form log before c hs middle d gs after allowed is same =
    let first : List Entry = before ++ Added c hs ∷ [] in
    let until : List Entry = first ++ middle in
    let split : log ≡ until ++ Added d gs ∷ after =
    is ∙ sym (append_assoc before (Added c hs ∷ []) (middle ++ Added d gs ∷ after)) ∙ sym (append_assoc first middle (Added d gs ∷ after)) in
    let allowed_until : AreAllowed form until = AreAllowed-front form until (Added d gs ∷ after) (subst (AreAllowed form) split allowed) in
    let bounded : IsBounded form before =
    bounded-all form before (AreAllowed-front form before (Added c hs ∷ (middle ++ Added d gs ∷ after)) (subst (AreAllowed form) is allowed)) in
    let kept : IsKept form until (length (numbered_clauses form before)) c =
    kept-entries form first middle (length (numbered_clauses form before)) c allowed_until (kept-start form before c hs bounded) in
    kept-no_unit form until (length (numbered_clauses form before)) c d gs same kept (allowed until (Added d gs) after split)
