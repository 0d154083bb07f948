-- A main that ends the process is a form, and its one event meets the conditions.
use Rattle.std.proofs.Common.{◌≡◌, ◌<◌, ℕ, zero, suc, true, List, [], ◌∷◌, inl, inr, refl, sym, ap, subst, ◌∙◌, arith, true≢false}
use Rattle.actions.specs.declared.action.Answer.{Answer}
use Rattle.actions.specs.declared.action.Answer.TheVariants as answer
use Rattle.actions.specs.declared.action.Next.{Next}
use Rattle.actions.specs.Behaviour.{after, accepts}
use Rattle.actions.specs.LocalRun.{Exchange, IsLocalRun}
use Rattle.actions.specs.Memory.{keeps}
use Rattle.actions.specs.Objects.{Objects}
use Rattle.actions.specs.Row.{moves}
use Rattle.actions.specs.declared.action.Action.TheVariants as action
use Rattle.actions.specs.declared.action.Next.TheVariants.{Act}
use Rattle.interleave.specs.declared.script.Step.TheVariants as step
use Rattle.weave.specs.Family.{IsFamily}
use Rattle.weave.proofs.Scripting.{scripts_are_families}
use Rattle.thread_forms.proofs.Consistent.{taken_of}
use Rattle.weave.specs.Place.{Place}
use Rattle.weave.specs.Candidate.{In, outcome_at, ReadsAt}
use Rattle.thread_forms.specs.Forms.{Valuation, Name, names, number, begins, Goes, AreForms, is_create, heard, ends_with, Begins, SameBelow, IsStopped}
use Rattle.thread_forms.specs.Valued.{told, candidate, IsTaken}
use Rattle.thread_forms.specs.Runs.{AreFit}
use Rattle.thread_forms.specs.Meets.{Answers, Orders, Meets}
use Rattle.thread_forms.specs.Instance.{exiting, exit_event, exit_forms, exit_marks, IsInstance}

-- the one event of a form
abbrev only : ℕ → Name
only i = record { form = i; place = 0; event = exit_event }

is_only : (x : Name) → In x (names exit_forms x.form) → x ≡ only x.form
is_only x (inl q) = q
is_only x (inr i) = absurd i

goes : (v : Valuation) (i : ℕ) → i < 1 → Goes v (begins exit_forms exiting v i) (exit_event ∷ [])
goes v zero b = (refl, tt)
goes v (suc i) b = absurd (omega arith)

ended : (run : List Exchange) (next : Next) → IsLocalRun (after exiting.behaves answer.Done) run next → ends_with run next
ended [] next e = subst IsStopped e tt
ended (x ∷ run) next e = absurd (cc e.0)

told_done : (a : Answer) → accepts (exiting.behaves []) a ≡ true → answer.Done ≡ a
told_done answer.Done e = refl
told_done (answer.Bytes bs) e = absurd (true≢false (sym e))
told_done (answer.Size n) e = absurd (true≢false (sym e))
told_done (answer.Word w) e = absurd (true≢false (sym e))
told_done (answer.Number n) e = absurd (true≢false (sym e))
told_done (answer.Value u) e = absurd (true≢false (sym e))

has : (v : Valuation) (i : ℕ) → i < 1 → (run : List Exchange) (next : Next) → IsLocalRun (begins exit_forms exiting v i) run next → (w : Valuation) × SameBelow 0 v w × Begins run next (heard w (exit_event ∷ []))
has v zero b [] next e = (v, λ x l. refl, e)
has v zero b (x ∷ run) next h =
    let d : answer.Done ≡ x.answer = told_done x.answer h.1 in
    (v, λ y l. refl, (h.0, d, ended run next (subst (λ (a : Answer). IsLocalRun (after exiting.behaves a) run next) (sym d) h.2)))
has v (suc i) b run next h = absurd (omega arith)

main_form : (x : Name) → x.form < 1 → x.form ≡ 0
main_form x b = omega arith

are_forms : AreForms exiting exit_forms
are_forms = record {
  some = omega arith;
  gives = goes;
  has = has;
  alone = λ i b v w s x k. (ap (λ (y : Name). y.event.guard v) (is_one i x k) ∙ sym (ap (λ (y : Name). y.event.guard w) (is_one i x k)), ap (λ (y : Name). y.event.told v) (is_one i x k) ∙ sym (ap (λ (y : Name). y.event.told w) (is_one i x k)));
  rises = λ i. omega arith;
  earlier = λ i. omega arith;
  placed = λ i b. absurd (none i b);
  creating = λ i b v. absurd (none i b);
  once = λ i j b d e. absurd (none i b);
  whole = λ v x b k e. absurd (true≢false (sym e ∙ ap (λ (y : Name). is_create (y.event.told v)) (is_only x k)));
}
  where
    is_one : (i : ℕ) (x : Name) → In x (names exit_forms i) → x ≡ only i
    is_one i x (inl q) = q
    is_one i x (inr j) = absurd j

    none : (i : ℕ) → suc i < 1 → ⊥
    none i b = omega arith

family : IsFamily exiting
family = scripts_are_families (step.Exit ∷ []) (omega arith)

module _ (v : Valuation) (objects : Objects) where
  no_read : (x : Name) (p : Place) → IsTaken exit_forms v exit_marks x → ReadsAt (candidate exit_forms v exit_marks) x p → ⊥
  no_read x p k r =
      let s : ReadsAt (candidate exit_forms v exit_marks) (only x.form) p = subst (λ (y : Name). ReadsAt (candidate exit_forms v exit_marks) y p) (is_only x k.listed) r in
      s.1

  same_number : (x y : Name) → IsTaken exit_forms v exit_marks x → IsTaken exit_forms v exit_marks y → number exit_forms v x.form ≡ number exit_forms v y.form
  same_number x y k l = ap (number exit_forms v) (main_form x k.form ∙ sym (main_form y l.form))

  orders : Orders exit_forms v exit_marks objects
  orders = record {
    guarded = λ x b i e. ap (λ (y : Name). y.event.guard v) (is_only x i);
    before = λ x y b i j l e g. absurd (late x y j l);
    answers = λ x k. subst (λ (y : Name). Answers (told exit_forms v exit_marks y) (outcome_at (candidate exit_forms v exit_marks) y)) (sym (is_only x k.listed)) refl;
    numbers = λ i b. (refl, tt);
    created = λ i y e k. absurd (first y i e k.form);
  }
    where
      late : (x y : Name) → In y (names exit_forms x.form) → x.place < y.place → ⊥
      late x y (inl q) l = omega (arith, ap (λ (z : Name). z.place) q, l)
      late x y (inr i) l = i

      first : (y : Name) (i : ℕ) → y.form ≡ suc i → y.form < 1 → ⊥
      first y i e b = omega arith

  meets : Meets exit_forms v exit_marks objects
  meets = record {
    orders = orders;
    groups = λ i b. (tt, tt);
    sources = λ x p k r. absurd (no_read x p k r);
    coherent = λ x y p k l w u a e. a (same_number x y k l);
    exits = λ x k e y l a. absurd (a (same_number y x l k));
  }

  fit : AreFit (candidate exit_forms v exit_marks)
  fit x i a change e =
      let k : IsTaken exit_forms v exit_marks x = taken_of exiting objects exit_forms v exit_marks family are_forms meets x i in
      let one : x ≡ only x.form = is_only x k.listed in
      let done : moves answer.Done keeps ≡ moves a change = sym (ap (outcome_at (candidate exit_forms v exit_marks)) one) ∙ e in
      ap (λ (y : Name). accepts ((candidate exit_forms v exit_marks).next y) a) one ∙ ap (λ (z : Answer). accepts (Act action.Exit 1 0) z) (sym (answer_of done))
    where
      answer_of : moves answer.Done keeps ≡ moves a change → answer.Done ≡ a
      answer_of q = cc q

pub is_instance : IsInstance
is_instance = (are_forms, λ v objects. (meets v objects, fit v objects))
