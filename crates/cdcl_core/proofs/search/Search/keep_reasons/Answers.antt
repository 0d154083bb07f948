use Rattle.std.specs.Prelude.{IsSome}
use Rattle.std.proofs.Common.{◌≡◌, ℕ, suc, ◌+◌, ◌<◌, length, Vec, Global, List, Bool, false, get_or, sym, ap, ◌∙◌, subst, arith, refl}
use Rattle.std.proofs.lemmas.Bool.{true≢false}
use Rattle.cdcl_core.specs.declared.trail.Step.{Step}
use Rattle.cdcl_core.specs.Steps.{oldest}
use Rattle.cdcl_core.specs.Spare.{AreReasonsOff}
use Rattle.cdcl_core.proofs.Courses.{oldest-all}
use Rattle.cdcl_core.proofs.Watching.{oldest-none}
use Rattle.cdcl_core.proofs.Sparing.{reasons_more}
use Rattle.cdcl_core.proofs.search.Search.keep_reasons.Goals as goal
use Rattle.cdcl_core.proofs.search.Search.keep_reasons.Goals.{in-Some, in_default}

pub loop-place-init : goal.loop-place-init
loop-place-init c =
    record {
      count = refl;
      reasons = subst (AreReasonsOff c.args.marks.now.items) (sym (oldest-none c.args.self.now.trail.steps)) tt;
      off = λ k is. is;
    }

pub loop-place-preserved : goal.loop-place-preserved
loop-place-preserved c =
    let steps : List Step = c.args.self.now.trail.steps in
    let place : ℕ = c.loop-place.place in
    let next : place + 1 ≡ suc place = omega arith in
    elim c.match-step_at.branch [
      | in-Some w ↦ record {
        count = ap (λ (v : Vec Bool Global). length v.items) w.marks-is ∙ w.take_mark.ensures.count ∙ c.loop-place.invariant.count;
        reasons = subst (λ (v : Vec Bool Global). AreReasonsOff v.items (oldest (place + 1) steps)) (sym w.marks-is)
            (subst (AreReasonsOff w.take_mark.new.marks.items) (sym (ap (λ k. oldest k steps) next ∙ w.in-Some.ensures.step))
            (w.take_mark.ensures.taken, reasons_more c.loop-place.marks.items w.take_mark.new.marks.items (oldest place steps) w.take_mark.ensures.off c.loop-place.invariant.reasons));
        off = λ k is. ap (λ (v : Vec Bool Global). get_or v.items k false) w.marks-is ∙ w.take_mark.ensures.off k (c.loop-place.invariant.off k is);
      }
      | in_default w ↦
          let less : place < length steps = omega (arith, c.loop-place-test.true, c.len-place-end.ensures.is) in
          absurd (true≢false (sym (subst IsSome w.in_default.is (c.step_at.ensures.found.1 less))))
    ]

pub returns-clause-reasons : goal.returns-clause-reasons
returns-clause-reasons c =
    subst (AreReasonsOff c.loop-place.marks.items) (oldest-all c.loop-place.place c.args.self.now.trail.steps (omega (arith, c.loop-place-test.false, c.len-place-end.ensures.is))) c.loop-place.invariant.reasons
