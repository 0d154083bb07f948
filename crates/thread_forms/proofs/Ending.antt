-- Two threads that end, as forms, a valuation and marks that meet the conditions.
use Rattle.std.proofs.Common.{◌≡◌, ◌<◌, ℕ, zero, suc, true, inl, inr, refl, sym, subst, arith}
use Rattle.actions.specs.Table.{exits}
use Rattle.weave.specs.Place.{Place}
use Rattle.weave.specs.Candidate.{Candidate, In, outcome_at, mode_at, ReadsAt}
use Rattle.weave.proofs.Scripting.{scripts_are_families, shared_is_whole}
use Rattle.thread_forms.specs.Forms.{Valuation, Name, names, number}
use Rattle.thread_forms.specs.Valued.{told, executed, taken, candidate, IsTaken}
use Rattle.thread_forms.specs.Meets.{GoesPast, Answers, IsLastName, Orders, Meets}
use Rattle.weave.specs.Tables.{shared}
use Rattle.thread_forms.specs.Instance.{creating, creating_steps, create_event, after_event, end_event, creating_forms, ended_marks, AreTwoThreads}
use Rattle.thread_forms.proofs.Consistent.{consistent}
use Rattle.thread_forms.proofs.Counting.{candidates_are_fit}
use Rattle.thread_forms.proofs.Creating.{has_create}
use Rattle.thread_forms.proofs.Scripting.{scripts_are_bounded, shared_is_typed}

abbrev v : Valuation
v = λ x. 1

abbrev create : Name
create = record { form = 0; place = 0; event = create_event }

abbrev main_end : Name
main_end = record { form = 0; place = 1; event = after_event }

abbrev child_end : Name
child_end = record { form = 1; place = 0; event = end_event }

abbrev c : Candidate Name
c = candidate creating_forms v ended_marks

-- what holds of the three events holds of each
main_each : (P : Name → Type 0) → P create → P main_end → (x : Name) → In x (names creating_forms 0) → P x
main_each P a b x (inl q) = subst P (sym q) a
main_each P a b x (inr (inl q)) = subst P (sym q) b
main_each P a b x (inr (inr k)) = absurd k

child_each : (P : Name → Type 0) → P child_end → (x : Name) → In x (names creating_forms 1) → P x
child_each P a x (inl q) = subst P (sym q) a
child_each P a x (inr k) = absurd k

each_by : (P : Name → Type 0) → P create → P main_end → P child_end → (x : Name) (i : ℕ) → i < 2 → In x (names creating_forms i) → P x
each_by P a b d x zero l k = main_each P a b x k
each_by P a b d x (suc zero) l k = child_each P d x k
each_by P a b d x (suc (suc i)) l k = absurd (omega (arith, l))

each : (P : Name → Type 0) → P create → P main_end → P child_end → (x : Name) → x.form < 2 → In x (names creating_forms x.form) → P x
each P a b d x l k = each_by P a b d x x.form l k

pair : (P : Name → Name → Type 0) → P create create → P create main_end → P create child_end → P main_end create → P main_end main_end → P main_end child_end → P child_end create → P child_end main_end → P child_end child_end
    → (x y : Name) → IsTaken creating_forms v ended_marks x → IsTaken creating_forms v ended_marks y → P x y
pair P cc₀ cm ck mc mm mk kc km kk x y t u =
    each (λ (z : Name). P z y) (each (P create) cc₀ cm ck y u.form u.listed) (each (P main_end) mc mm mk y u.form u.listed) (each (P child_end) kc km kk y u.form u.listed) x t.form t.listed

orders : Orders creating_forms v ended_marks shared
orders = record {
  guarded = λ x b k e. each (λ (z : Name). z.event.guard v ≡ true) refl refl refl x b k;
  before = λ x y b k l less e g.
      each (λ (z : Name). (executed creating_forms v ended_marks z ≡ true) × GoesPast (told creating_forms v ended_marks z) (outcome_at c z)) (refl, tt) (refl, tt) (refl, tt) x b k;
  answers = λ x k. each (λ (z : Name). Answers (told creating_forms v ended_marks z) (outcome_at c z)) refl refl refl x k.form k.listed;
  numbers = numbers;
  created = λ i y e k. each (λ (z : Name). z.form ≡ suc i → (taken creating_forms v ended_marks create ≡ true) × (0 < ended_marks.clock z.form z.place)) (λ q. absurd (omega (arith, q))) (λ q. (refl, omega arith)) (λ q. (refl, omega arith)) y k.form k.listed e;
}
  where
    numbers : (i : ℕ) → i < 2 → Rattle.thread_forms.specs.Meets.Numbered creating_forms v ended_marks (number creating_forms v i) (Rattle.thread_forms.specs.Meets.first_counts shared i) (names creating_forms i)
    numbers zero l = (refl, (refl, tt))
    numbers (suc zero) l = (refl, tt)
    numbers (suc (suc i)) l = absurd (omega (arith, l))

no_read : (p : Place) (x : Name) → IsTaken creating_forms v ended_marks x → ReadsAt c x p → ⊥
no_read p x k = each (λ (z : Name). ReadsAt c z p → ⊥) (λ r. r.1) (λ r. r.1) (λ r. r.1) x k.form k.listed

abbrev Apart : Name → Name → Type 0
Apart x y = (number creating_forms v x.form ≡ number creating_forms v y.form → ⊥) → ended_marks.clock x.form x.place ≡ ended_marks.clock y.form y.place → ⊥

apart : (x y : Name) → IsTaken creating_forms v ended_marks x → IsTaken creating_forms v ended_marks y → Apart x y
apart x y t u =
    pair Apart (λ a e. a refl) (λ a e. a refl) (λ a e. omega (arith, e)) (λ a e. a refl) (λ a e. a refl) (λ a e. omega (arith, e)) (λ a e. omega (arith, e)) (λ a e. omega (arith, e)) (λ a e. a refl) x y t u

meets : Meets creating_forms v ended_marks shared
meets = record {
  orders = orders;
  groups = groups;
  sources = λ x p k r. absurd (no_read p x k r);
  coherent = λ x y p k l w u. apart x y k l;
  exits = λ x k e. each (λ (z : Name). mode_at c z ≡ exits → IsLastName creating_forms v ended_marks z) (λ q. absurd (cc q)) (λ q. absurd (cc q)) (λ q. absurd (cc q)) x k.form k.listed e;
}
  where
    groups : (i : ℕ) → i < 2 → Rattle.thread_forms.specs.Meets.NameGroups creating_forms v ended_marks Rattle.std.specs.Prelude.false (Rattle.thread_forms.specs.Valued.turns creating_forms v ended_marks i)
    groups zero l = ((omega arith, omega arith), (tt, tt))
    groups (suc zero) l = (tt, tt)
    groups (suc (suc i)) l = absurd (omega (arith, l))

pub are_two_threads : AreTwoThreads
are_two_threads =
    let family = scripts_are_families creating_steps (omega arith) in
    let bounded = scripts_are_bounded creating_steps shared refl (omega arith) shared_is_typed in
    record {
      family = family;
      whole = shared_is_whole;
      bounded = bounded;
      forms = has_create;
      meets = meets;
      fit = candidates_are_fit Name creating shared c family shared_is_whole bounded (consistent creating shared creating_forms v ended_marks family has_create meets);
    }
