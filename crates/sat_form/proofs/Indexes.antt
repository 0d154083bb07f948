-- Where a log finds the clauses that it adds, and the places of its deletions.
use Rattle.std.proofs.Common.{◌≡◌, ◌≢◌, ℕ, zero, suc, ◌+◌, ◌<◌, ◌≤◌, ◌⊎◌, inl, inr, eq-eqb, ne_eqb, Bool, true, false, List, [], ◌∷◌, ◌++◌, length, get_or, refl, sym, ap, ◌∙◌, subst, arith}
use Rattle.std.specs.Prelude.{Option, Some, None, IsSome, is_some, slice_get, nat_eq, cond}
use Rattle.std.specs.List.{position_from}
use Rattle.std.proofs.lemmas.Bool.{cases_eq}
use Rattle.std.proofs.lemmas.Option.{slice_get_past}
use Rattle.std.specs.Ordering.{nat_cmp, is_eq}
use Rattle.std.proofs.Common.{Less, Equal, Greater, nat_lt}
use Rattle.std.specs.BTreeMap as tree
use Rattle.sat_form.specs.Satisfaction.{Literal}
use Rattle.sat_form.specs.Databases.{added_clauses, is_deletion_of}
use Rattle.sat_form.specs.Indexes.{places_of_additions}
use Rattle.sat_form.specs.declared.logs.Entry.{Entry}
use Rattle.sat_form.specs.declared.logs.Entry.TheVariants.{Added, Deleted}

-- the clause that an entry adds
abbrev pub clause_in : Entry → Option (List Literal)
clause_in (Added clause hints) = Some clause
clause_in (Deleted number) = None

-- one more entry
pub places_of_additions-added : (k : ℕ) (es : List Entry) (c : List Literal) (hs : List ℕ) → places_of_additions k (es ++ Added c hs ∷ []) ≡ places_of_additions k es ++ (k + length es) ∷ []
places_of_additions-added k [] c hs = ap (λ n. n ∷ []) (omega arith)
places_of_additions-added k (Added d gs ∷ es) c hs =
    ap (λ ns. k ∷ ns) (places_of_additions-added (k + 1) es c hs ∙ ap (λ n. places_of_additions (k + 1) es ++ n ∷ []) (omega arith))
places_of_additions-added k (Deleted m ∷ es) c hs =
    places_of_additions-added (k + 1) es c hs ∙ ap (λ n. places_of_additions (k + 1) es ++ n ∷ []) (omega arith)

pub places_of_additions-deleted : (k : ℕ) (es : List Entry) (m : ℕ) → places_of_additions k (es ++ Deleted m ∷ []) ≡ places_of_additions k es
places_of_additions-deleted k [] m = refl
places_of_additions-deleted k (Added d gs ∷ es) m = ap (λ ns. k ∷ ns) (places_of_additions-deleted (k + 1) es m)
places_of_additions-deleted k (Deleted n ∷ es) m = places_of_additions-deleted (k + 1) es m

pub length-places_of_additions : (k : ℕ) (es : List Entry) → length (places_of_additions k es) ≡ length (added_clauses es)
length-places_of_additions k [] = refl
length-places_of_additions k (Added d gs ∷ es) = ap suc (length-places_of_additions (k + 1) es)
length-places_of_additions k (Deleted m ∷ es) = length-places_of_additions (k + 1) es

-- the entry at such a place adds the clause
pub record IsAdditionAt (k : ℕ) (es : List Entry) (j place : ℕ) : Type 0 where
  pub i : ℕ
  pub is : place ≡ k + i
  pub within : i < length es
  pub clause : (e : Entry) → slice_get (added_clauses es) j ≡ clause_in (get_or es i e)

later : (k : ℕ) (e : Entry) (es : List Entry) (j m place : ℕ) → slice_get (added_clauses (e ∷ es)) m ≡ slice_get (added_clauses es) j → IsAdditionAt (k + 1) es j place → IsAdditionAt k (e ∷ es) m place
later k e es j m place same at = record {
  i = suc at.i;
  is = omega (arith, at.is);
  within = omega (arith, at.within);
  clause = λ d. same ∙ at.clause d;
}

pub addition_at : (k : ℕ) (es : List Entry) (j d : ℕ) → j < length (places_of_additions k es) → IsAdditionAt k es j (get_or (places_of_additions k es) j d)
addition_at k [] j d within = absurd (omega arith)
addition_at k (Added c hs ∷ es) zero d within = record { i = 0; is = omega arith; within = omega arith; clause = λ e. refl }
addition_at k (Added c hs ∷ es) (suc j) d within = later k (Added c hs) es j (suc j) _ refl (addition_at (k + 1) es j d (omega arith))
addition_at k (Deleted m ∷ es) j d within = later k (Deleted m) es j j _ refl (addition_at (k + 1) es j d within)

-- the first deletion, with one more entry
pub position_from-other : (t : Entry → Bool) (k : ℕ) (es : List Entry) (e : Entry) → t e ≡ false → position_from t k (es ++ e ∷ []) ≡ position_from t k es
position_from-other t k [] e other = ap (λ b. cond b (Some k) None) other
position_from-other t k (x ∷ es) e other = ap (λ o. cond (t x) (Some k) o) (position_from-other t (k + 1) es e other)

pub position_from-found : (t : Entry → Bool) (k : ℕ) (es : List Entry) (e : Entry) → IsSome (position_from t k es) → position_from t k (es ++ e ∷ []) ≡ position_from t k es
position_from-found t k [] e some = absurd (cc)
position_from-found t k (x ∷ es) e some =
    elim (t x) as (λ b. IsSome (cond b (Some k) (position_from t (k + 1) es)) → cond b (Some k) (position_from t (k + 1) (es ++ e ∷ [])) ≡ cond b (Some k) (position_from t (k + 1) es)) [
      | true ↦ λ _. refl
      | false ↦ λ s. position_from-found t (k + 1) es e s
    ] some

pub position_from-new : (t : Entry → Bool) (k : ℕ) (es : List Entry) (e : Entry) → position_from t k es ≡ None → t e ≡ true → position_from t k (es ++ e ∷ []) ≡ Some (k + length es)
position_from-new t k [] e none same = ap (λ b. cond b (Some k) None) same ∙ ap Some (omega arith)
position_from-new t k (x ∷ es) e none same =
    elim (t x) as (λ b. cond b (Some k) (position_from t (k + 1) es) ≡ None → cond b (Some k) (position_from t (k + 1) (es ++ e ∷ [])) ≡ Some (k + length (x ∷ es))) [
      | true ↦ λ n. absurd (cc)
      | false ↦ λ n. position_from-new t (k + 1) es e n same ∙ ap Some (omega arith)
    ] none

-- what a log keeps, with one more clause
pub additions-added :
    (es fs : List Entry) (ps : List ℕ) (bs : List ℕ) (n : ℕ) (c : List Literal) (hs : List ℕ) → ps ≡ places_of_additions 0 es → n ≡ length es →
    bs ≡ ps ++ n ∷ [] → fs ≡ es ++ Added c hs ∷ [] → bs ≡ places_of_additions 0 fs
additions-added es fs ps bs n c hs was len now is =
    now ∙ ap (λ ns. ns ++ n ∷ []) was ∙ ap (λ m. places_of_additions 0 es ++ m ∷ []) (len ∙ omega arith)
    ∙ sym (places_of_additions-added 0 es c hs) ∙ ap (places_of_additions 0) (sym is)

pub deletions-added :
    (es fs : List Entry) (found : ℕ → Option ℕ) (c : List Literal) (hs : List ℕ) → ((n : ℕ) → found n ≡ position_from (is_deletion_of n) 0 es) →
    fs ≡ es ++ Added c hs ∷ [] → (n : ℕ) → found n ≡ position_from (is_deletion_of n) 0 fs
deletions-added es fs found c hs was is n =
    was n ∙ sym (position_from-other (is_deletion_of n) 0 es (Added c hs) refl) ∙ ap (position_from (is_deletion_of n) 0) (sym is)

-- .. and with one more deletion
pub additions-deleted : (es fs : List Entry) (ps : List ℕ) (m : ℕ) → ps ≡ places_of_additions 0 es → fs ≡ es ++ Deleted m ∷ [] → ps ≡ places_of_additions 0 fs
additions-deleted es fs ps m was is = was ∙ sym (places_of_additions-deleted 0 es m) ∙ ap (places_of_additions 0) (sym is)

pub deletions-again :
    (es fs : List Entry) (found : ℕ → Option ℕ) (m : ℕ) → ((n : ℕ) → found n ≡ position_from (is_deletion_of n) 0 es) → IsSome (found m) →
    fs ≡ es ++ Deleted m ∷ [] → (n : ℕ) → found n ≡ position_from (is_deletion_of n) 0 fs
deletions-again es fs found m was some is n =
    let same : (n ≡ m) ⊎ (n ≢ m) = cases_eq n m in
    elim same [
      | inl e ↦ was n ∙ sym (position_from-found (is_deletion_of n) 0 es (Deleted m) (subst IsSome (was n) (subst (λ k. IsSome (found k)) (sym e) some)))
          ∙ ap (position_from (is_deletion_of n) 0) (sym is)
      | inr apart ↦ was n ∙ sym (position_from-other (is_deletion_of n) 0 es (Deleted m) (ne_eqb m n (λ e. apart (sym e)))) ∙ ap (position_from (is_deletion_of n) 0) (sym is)
    ]

pub deletions-deleted :
    (es fs : List Entry) (found more : ℕ → Option ℕ) (m place : ℕ) → ((n : ℕ) → found n ≡ position_from (is_deletion_of n) 0 es) → found m ≡ None → place ≡ length es →
    more m ≡ Some place → ((n : ℕ) → n ≢ m → more n ≡ found n) →
    fs ≡ es ++ Deleted m ∷ [] → (n : ℕ) → more n ≡ position_from (is_deletion_of n) 0 fs
deletions-deleted es fs found more m place was none len here others is n =
    let same : (n ≡ m) ⊎ (n ≢ m) = cases_eq n m in
    elim same [
      | inl e ↦ ap more e ∙ here ∙ ap Some (len ∙ omega arith)
          ∙ sym (position_from-new (is_deletion_of n) 0 es (Deleted m) (sym (was n) ∙ ap found e ∙ none) (eq-eqb m n (sym e)))
          ∙ ap (position_from (is_deletion_of n) 0) (sym is)
      | inr apart ↦ others n apart ∙ was n ∙ sym (position_from-other (is_deletion_of n) 0 es (Deleted m) (ne_eqb m n (λ e. apart (sym e)))) ∙ ap (position_from (is_deletion_of n) 0) (sym is)
    ]

-- what a log reads at a place of additions
pub added_clauses-read :
    (es : List Entry) (ps : List ℕ) (j place : ℕ) (e : Entry) → ps ≡ places_of_additions 0 es → j < length ps → place ≡ get_or ps j place → e ≡ get_or es place e →
    clause_in e ≡ slice_get (added_clauses es) j
added_clauses-read es ps j place e was within at read =
    let addition : IsAdditionAt 0 es j (get_or (places_of_additions 0 es) j place) = addition_at 0 es j place (subst (λ (ns : List ℕ). j < length ns) was within) in
    let same : place ≡ addition.i = at ∙ ap (λ ns. get_or ns j place) was ∙ addition.is ∙ omega arith in
    ap clause_in (read ∙ ap (λ i. get_or es i e) same) ∙ sym (addition.clause e)

pub place-within : (es : List Entry) (ps : List ℕ) (j place : ℕ) → ps ≡ places_of_additions 0 es → j < length ps → place ≡ get_or ps j place → place < length es
place-within es ps j place was within at =
    let addition : IsAdditionAt 0 es j (get_or (places_of_additions 0 es) j place) = addition_at 0 es j place (subst (λ (ns : List ℕ). j < length ns) was within) in
    let same : place ≡ addition.i = at ∙ ap (λ ns. get_or ns j place) was ∙ addition.is ∙ omega arith in
    omega (arith, same, addition.within)

pub added_clauses-past : (es : List Entry) (ps : List ℕ) (j : ℕ) → ps ≡ places_of_additions 0 es → length ps ≤ j → slice_get (added_clauses es) j ≡ None
added_clauses-past es ps j was past =
    slice_get_past (added_clauses es) j (omega (arith, ap length was, length-places_of_additions 0 es))

pub none_from_test : {X : Type 0} → (o : Option X) → is_some o ≡ false → o ≡ None
none_from_test None is = refl
none_from_test (Some x) is = absurd (cc)

-- an order tells different numbers apart
pub is_at-other : (n m : ℕ) → n ≢ m → tree.is_at (nat_cmp m) n ≡ false
is_at-other n m apart =
    elim (nat_lt m n) as (λ b. is_eq (cond b Less (cond (nat_eq m n) Equal Greater)) ≡ false) [
      | true ↦ refl
      | false ↦ ap (λ b. is_eq (cond b Equal Greater)) (ne_eqb m n (λ e. apart (sym e)))
    ]
