-- A main that breaks a check is a form, and a formula that is always true keeps its promise for it.
use Rattle.std.proofs.Common.{◌≡◌, ◌<◌, ℕ, zero, suc, List, [], ◌∷◌, inl, inr, refl, sym, ap, subst, ◌∙◌, arith, true≢false}
use Rattle.words.specs.declared.check.Class.TheVariants.{Assertion}
use Rattle.actions.specs.declared.action.Next.{Next}
use Rattle.actions.specs.LocalRun.{Exchange, IsLocalRun}
use Rattle.actions.specs.Objects.{Objects}
use Rattle.weave.specs.Place.{Place}
use Rattle.weave.specs.Candidate.{In, outcome_at, ReadsAt, Later}
use Rattle.thread_forms.specs.Forms.{Valuation, Name, names, number, begins, Goes, is_create, heard, Begins, SameBelow, AreForms}
use Rattle.thread_forms.specs.Valued.{Marks, told, taken, candidate, IsTaken}
use Rattle.thread_forms.specs.Meets.{Answers, Orders, Meets}
use Rattle.thread_forms.specs.Order.{HasBreak, SameTurns}
use Rattle.thread_forms.specs.Instance.{breaking, break_event, break_forms, all_marks, HasOrder}

abbrev only : ℕ → Name
only i = record { form = i; place = 0; event = break_event }

is_one : (i : ℕ) (x : Name) → In x (names break_forms i) → x ≡ only i
is_one i x (inl q) = q
is_one i x (inr j) = absurd j

is_main : (x : Name) → x.form < 1 → In x (names break_forms x.form) → x ≡ only 0
is_main x b i = is_one x.form x i ∙ ap only (main_form x b)
  where
    main_form : (x : Name) → x.form < 1 → x.form ≡ 0
    main_form x b = omega arith

none : (i : ℕ) → suc i < 1 → ⊥
none i b = omega arith

goes : (v : Valuation) (i : ℕ) → i < 1 → Goes v (begins break_forms breaking v i) (break_event ∷ [])
goes v zero b = refl
goes v (suc i) b = absurd (none i b)

has : (v : Valuation) (i : ℕ) → i < 1 → (run : List Exchange) (next : Next) → IsLocalRun (begins break_forms breaking v i) run next → (w : Valuation) × SameBelow 0 v w × Begins run next (heard w (break_event ∷ []))
has v zero b [] next e = (v, λ x l. refl, (e, tt))
has v zero b (x ∷ run) next h = absurd (cc h.0)
has v (suc i) b run next h = absurd (none i b)

are_forms : AreForms breaking break_forms
are_forms = record {
  some = omega arith;
  gives = goes;
  has = has;
  alone = λ i b v w s x k. (ap (λ (y : Name). y.event.guard v) (is_one i x k) ∙ sym (ap (λ (y : Name). y.event.guard w) (is_one i x k)), ap (λ (y : Name). y.event.told v) (is_one i x k) ∙ sym (ap (λ (y : Name). y.event.told w) (is_one i x k)));
  rises = λ i. omega arith;
  earlier = λ i. omega arith;
  placed = λ i b. absurd (none i b);
  creating = λ i b v. absurd (none i b);
  once = λ i j b d e. absurd (none i b);
  whole = λ v x b k e. absurd (true≢false (sym e ∙ ap (λ (y : Name). is_create (y.event.told v)) (is_one x.form x k)));
}

module _ (v : Valuation) (objects : Objects) where
  same_number : (x y : Name) → IsTaken break_forms v all_marks x → IsTaken break_forms v all_marks y → number break_forms v x.form ≡ number break_forms v y.form
  same_number x y k l = ap (λ (z : Name). number break_forms v z.form) (is_main x k.form k.listed ∙ sym (is_main y l.form l.listed))

  no_read : (x : Name) (p : Place) → IsTaken break_forms v all_marks x → ReadsAt (candidate break_forms v all_marks) x p → ⊥
  no_read x p k r =
      let s : ReadsAt (candidate break_forms v all_marks) (only 0) p = subst (λ (y : Name). ReadsAt (candidate break_forms v all_marks) y p) (is_main x k.form k.listed) r in
      s.1

  orders : Orders break_forms v all_marks objects
  orders = record {
    guarded = λ x b i e. ap (λ (y : Name). y.event.guard v) (is_one x.form x i);
    before = λ x y b i j l e g. absurd (late x y j l);
    answers = λ x k. subst (λ (y : Name). Answers (told break_forms v all_marks y) (outcome_at (candidate break_forms v all_marks) y)) (sym (is_main x k.form k.listed)) tt;
    numbers = λ i b. (tt, tt);
    created = λ i y e k. absurd (first y i e k.form);
  }
    where
      late : (x y : Name) → In y (names break_forms x.form) → x.place < y.place → ⊥
      late x y i l = omega (arith, ap (λ (z : Name). z.place) (is_one x.form y i), l)

      first : (y : Name) (i : ℕ) → y.form ≡ suc i → y.form < 1 → ⊥
      first y i e b = omega arith

  meets : Meets break_forms v all_marks objects
  meets = record {
    orders = orders;
    groups = λ i b. (tt, tt);
    sources = λ x p k r. absurd (no_read x p k r);
    coherent = λ x y p k l w u a e. a (same_number x y k l);
    exits = λ x k e y l a. absurd (a (same_number y x l k));
  }

  one_break : HasBreak break_forms v all_marks
  one_break = (only 0, record { form = omega arith; listed = inl refl; taken_there = refl }, Assertion, refl)

  module _ (m : Marks) (broken : HasBreak break_forms v m) where
    all_taken : (x : Name) → x.form < 1 → In x (names break_forms x.form) → taken break_forms v m x ≡ taken break_forms v all_marks x
    all_taken x b i =
        let k = broken.1 in
        ap (taken break_forms v m) (is_main x b i ∙ sym (is_main broken.0 k.form k.listed)) ∙ k.taken_there ∙ sym (ap (taken break_forms v all_marks) (is_main x b i))

    never_later : (x y : Name) → x ≡ y → Later (candidate break_forms v m) y x → ⊥
    never_later x y e (inl l) = omega (arith, ap (λ (z : Name). m.clock z.form z.place) e, l)
    never_later x y e (inr r) = omega (arith, ap (λ (z : Name). z.place) e, r.2)

    same_turns : SameTurns break_forms v m v all_marks
    same_turns = record {
      turns = all_taken;
      order = λ x y k l r. absurd (never_later x y (is_main x k.form k.listed ∙ sym (is_main y l.form l.listed)) r);
    }

pub has_order : HasOrder
has_order = (
  are_forms,
  λ objects. record {
    sound = λ v e. (meets v objects, one_break v objects);
    complete = λ v m k b. (v, λ x l. refl, refl, same_turns v objects m b);
  },
)
