use Rattle.std.proofs.Common.{◌≡◌, ℕ, ◌<◌, List, ◌∷◌, [], ap, ◌∙◌, subst, sym, length, set, get_or, length-set, reverse, None, Bool}
use Rattle.std.specs.Prelude.{Option}
use Rattle.std.proofs.lemmas.List.{reverse-append}
use Rattle.cdcl_core.specs.declared.trail.Step.{Step}
use Rattle.cdcl_core.specs.declared.trail.Mark.{Mark}
use Rattle.cdcl_core.specs.Steps.{known_value, AreFresh}
use Rattle.cdcl_core.specs.Marks.{mark_of}
use Rattle.cdcl_core.proofs.Courses.{marks-popped, values-popped}
use Rattle.cdcl_core.proofs.trail.Trail.pop.Goals as goal

pub invariant_of-self-2 : goal.invariant_of-self-2
invariant_of-self-2 c =
    let older : List Step = reverse c.pop.new.self.items in
    let marks : List (Option Mark) = c.self.inside.marks.items in
    let values : List (Option Bool) = c.self.inside.values.items in
    let newest : reverse c.self.inside.steps.items ≡ c.in_ok-step.step ∷ older =
    ap reverse c.in_ok-step.ensures.items ∙ reverse-append c.pop.new.self.items (c.in_ok-step.step ∷ []) in
    let fresh : AreFresh (length marks) (c.in_ok-step.step ∷ older) =
    subst (AreFresh (length marks)) newest c.self.invariant.fresh in
    let P : ℕ → Type 0 = λ w. (v : ℕ) → v < length (set marks w None) → get_or (set marks w None) v None ≡ mark_of older v in
    let Q : ℕ → Type 0 = λ w. (v : ℕ) → v < length marks → get_or (set values w None) v None ≡ known_value older v in
    let given : Q c.variable-variable.result =
    subst Q (sym c.variable-variable.ensures.is)
    (values-popped (length marks) values c.in_ok-step.step older c.self.invariant.count (λ v within. c.self.invariant.values v within ∙ ap (λ r. known_value r v) newest) fresh) in
    record {
      marks = subst P (sym c.variable-variable.ensures.is)
          (marks-popped marks c.in_ok-step.step older (λ v within. c.self.invariant.marks v within ∙ ap (λ r. mark_of r v) newest) fresh);
      count = length-set values c.variable-variable.result None ∙ c.self.invariant.count ∙ sym (length-set marks c.variable-variable.result None);
      values = λ v within. given v (subst (λ n. v < n) (length-set marks c.variable-variable.result None) within);
      fresh = subst (λ n. AreFresh n older) (sym (length-set marks c.variable-variable.result None)) fresh.2;
      limit = rw length-set c.self.invariant.limit;
    }
