use Rattle.std.proofs.Common.{◌≡◌, ◌≤◌, ℕ, ◌<◌, Bool, false, List, Option, Some, None, get_or, length, subst, ◌∙◌, ap}
use Rattle.std.specs.Prelude.{option_map}
use Rattle.cdcl_core.specs.declared.trail.Mark.{Mark}
use Rattle.cdcl_core.proofs.Reading.{known_value-given, known_value-missing}
use Rattle.cdcl_core.proofs.trail.Trail.assignment.Goals as goal

pub returns-clause-given : goal.returns-clause-given
returns-clause-given c =
    let same : c.deref-mark-items.result.now ≡ c.self.inside.marks.items = c.deref-mark-items.ensures.value in
    let values : List Bool = c.loop-mark.values.items in
    let Given : List (Option Mark) → Type 0 = λ marks. (v : ℕ) (b : Bool) → v < c.loop-mark.mark-index → option_map (λ (m : Mark). m.value) (get_or marks v None) ≡ Some b → get_or values v false ≡ b in
    let all : length c.self.inside.marks.items ≤ c.loop-mark.mark-index = subst (λ (x : List (Option Mark)). length x ≤ c.loop-mark.mark-index) same c.loop-mark-test.false in
    λ v b within known.
    ap (λ x. get_or x v false) c.from_values.ensures
    ∙ known_value-given c.self.inside c.args.self.now c.loop-mark.mark-index values c.self.invariant c.self.view_is all (subst Given same c.loop-mark.invariant.1) v b within known

pub returns-clause-open_ : goal.returns-clause-open_
returns-clause-open_ c =
    let same : c.deref-mark-items.result.now ≡ c.self.inside.marks.items = c.deref-mark-items.ensures.value in
    let values : List Bool = c.loop-mark.values.items in
    let Rest : List (Option Mark) → Type 0 = λ marks. (v : ℕ) → v < c.loop-mark.mark-index → option_map (λ (m : Mark). m.value) (get_or marks v None) ≡ None → get_or values v false ≡ false in
    let all : length c.self.inside.marks.items ≤ c.loop-mark.mark-index = subst (λ (x : List (Option Mark)). length x ≤ c.loop-mark.mark-index) same c.loop-mark-test.false in
    λ v within unknown.
    ap (λ x. get_or x v false) c.from_values.ensures
    ∙ known_value-missing c.self.inside c.args.self.now c.loop-mark.mark-index values c.self.invariant c.self.view_is all (subst Rest same c.loop-mark.invariant.2) v within unknown
