-- Logs that have only units, and what they come to.
use Rattle.std.proofs.Common.{◌≡◌, ℕ, suc, ◌+◌, ◌<◌, ◌≤◌, List, [], ◌∷◌, ◌++◌, length, refl, sym, ap, ◌∙◌, subst, arith}
use Rattle.std.specs.Prelude.{count_by, cond}
use Rattle.std.proofs.lemmas.List.{length-append}
use Rattle.std.proofs.lemmas.List.Sums.{sum_by-append, count_by-le-length}
use Rattle.sat_form.specs.Satisfaction.{Literal, Form, IsWithin}
use Rattle.sat_form.specs.Propagation.{Conflicts, Follows}
use Rattle.sat_form.specs.Databases.{added_clauses, deleted_numbers, numbered_clauses, clauses_without, database, IsEntryWithin, AreEntriesWithin}
use Rattle.sat_form.specs.Refutation.{IsRefutation}
use Rattle.sat_form.specs.Budget.{IsUnit, EndsAdding, IsSpent}
use Rattle.sat_form.specs.declared.logs.Entry.{Entry}
use Rattle.sat_form.specs.declared.logs.Entry.TheVariants.{Added, Deleted}
use Rattle.sat_form.proofs.Databases.{added_clauses-append}
use Rattle.sat_form.proofs.Refutations.{numbered_clauses-added}
use Rattle.sat_form.proofs.Chains.{IsDerivation-allowed}
use Rattle.cdcl_core.proofs.Histories.{AreAllowed-added, IsDerivation-added}
use Rattle.cdcl_core.specs.Answers.{has_literal, unit_count, EndsAllowed, IsLogged}

all_added : (n : ℕ) (log : List Entry) (e : Entry) → AreEntriesWithin n log → IsEntryWithin n e → AreEntriesWithin n (log ++ e ∷ [])
all_added n [] e all here = (here, tt)
all_added n (f ∷ fs) e all here = (all.0, all_added n fs e all.1 here)

pub deleted_numbers-added : (log : List Entry) (c : List Literal) (hints : List ℕ) → deleted_numbers (log ++ Added c hints ∷ []) ≡ deleted_numbers log
deleted_numbers-added [] c hints = refl
deleted_numbers-added (Added d gs ∷ es) c hints = deleted_numbers-added es c hints
deleted_numbers-added (Deleted n ∷ es) c hints = ap (λ ns. n ∷ ns) (deleted_numbers-added es c hints)

pub length-added_clauses : (log : List Entry) → deleted_numbers log ≡ [] → length (added_clauses log) ≡ length log
length-added_clauses [] live = refl
length-added_clauses (Added c hints ∷ es) live = ap suc (length-added_clauses es live)
length-added_clauses (Deleted n ∷ es) live = cc

ends_adding : (log : List Entry) → deleted_numbers log ≡ [] → 1 ≤ length log → EndsAdding log
ends_adding [] live some = absurd (omega arith)
ends_adding (Deleted n ∷ es) live some = cc
ends_adding (Added c hints ∷ []) live some = ([], c, hints, refl)
ends_adding (Added c hints ∷ (e ∷ es)) live some =
    let rest : EndsAdding (e ∷ es) = ends_adding (e ∷ es) live (omega arith) in
    (Added c hints ∷ rest.0, rest.1, rest.2, ap (λ xs. Added c hints ∷ xs) rest.3)

none_gone : (k : ℕ) (cs : List (List Literal)) → clauses_without [] k cs ≡ cs
none_gone k [] = refl
none_gone k (c ∷ cs) = ap (λ x. c ∷ x) (none_gone (suc k) cs)

pub database-live : (form : List (List Literal)) (log : List Entry) → deleted_numbers log ≡ [] → database form log ≡ numbered_clauses form log
database-live form log live = ap (λ ns. clauses_without ns 0 (numbered_clauses form log)) live ∙ none_gone 0 (numbered_clauses form log)

length-one_more : {X : Type 0} → (xs : List X) (x : X) → length (xs ++ x ∷ []) ≡ length xs + 1
length-one_more xs x = length-append xs (x ∷ [])

-- one more unit
pub IsLogged-added :
    (form : Form) (n : ℕ) (cs : List (List Literal)) (log : List Entry) (c : List Literal) (hints : List ℕ) → IsLogged form n cs log →
    IsUnit form.clauses log c hints → IsWithin form.variables c → length log < n → IsLogged form n (cs ++ c ∷ []) (log ++ Added c hints ∷ [])
IsLogged-added form n cs log c hints logged unit within room =
    record {
      numbered = ap (λ x. x ++ c ∷ []) logged.numbered ∙ sym (numbered_clauses-added form.clauses log c hints);
      live = deleted_numbers-added log c hints ∙ logged.live;
      allowed = AreAllowed-added form.clauses log (Added c hints) logged.allowed unit;
      within = all_added form.variables log (Added c hints) logged.within within;
      count = omega (arith, length-one_more log (Added c hints));
    }

-- the budget is spent
pub IsSpent-from :
    (form : Form) (n : ℕ) (cs : List (List Literal)) (log : List Entry) → IsLogged form n cs log → n ≤ length log → 1 ≤ n → (Conflicts cs → ⊥) →
    IsSpent form.clauses log n × AreEntriesWithin form.variables log
IsSpent-from form n cs log logged full some undecided = (
  record {
    allowed = logged.allowed;
    count = omega (arith, length-added_clauses log logged.live, logged.count);
    ends = ends_adding log logged.live (omega arith);
    undecided = λ conflicts. undecided (subst Conflicts (database-live form.clauses log logged.live ∙ sym logged.numbered) conflicts);
  },
  logged.within,
)

-- the clauses come to a conflict by themselves
pub IsRefutation-from :
    (form : Form) (n : ℕ) (cs : List (List Literal)) (log : List Entry) (hints : List ℕ) → IsLogged form n cs log → Follows cs [] →
    IsRefutation form.clauses (log ++ Added [] hints ∷ []) × (unit_count (log ++ Added [] hints ∷ []) ≤ n) × AreEntriesWithin form.variables (log ++ Added [] hints ∷ [])
    × EndsAllowed form.clauses (log ++ Added [] hints ∷ [])
IsRefutation-from form n cs log hints logged follows =
    let here : Follows (database form.clauses log) [] = subst (λ x. Follows x []) (logged.numbered ∙ sym (database-live form.clauses log logged.live)) follows in
    let units : unit_count (log ++ Added [] hints ∷ []) ≡ unit_count log + 0 =
    ap (count_by has_literal) (added_clauses-append log (Added [] hints ∷ [])) ∙ sum_by-append (λ x. cond (has_literal x) 1 0) (added_clauses log) ([] ∷ []) in
    let fewer : unit_count log ≤ length (added_clauses log) = count_by-le-length has_literal (added_clauses log) in (
      record {
        derives = IsDerivation-added form.clauses log (Added [] hints) (IsDerivation-allowed form.clauses log logged.allowed) here;
        ends = (log, Added [] hints, refl, refl);
      },
      omega (arith, units, fewer, length-added_clauses log logged.live, logged.count),
      all_added form.variables log (Added [] hints) logged.within tt,
      record { front = log; hints = hints; ends = refl; allowed = logged.allowed },
    )
