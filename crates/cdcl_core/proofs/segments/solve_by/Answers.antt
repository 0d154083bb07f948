use Rattle.std.proofs.Common.{◌≡◌, ◌≤◌, ◌<◌, ◌+◌, ◌-◌, ℕ, Bool, List, length, sym, ap, ◌∙◌, subst, arith}
use Rattle.sat_form.specs.Satisfaction.{Form, Literal}
use Rattle.cdcl_core.specs.declared.segments.History.{History}
use Rattle.cdcl_core.specs.declared.segments.Segment.TheVariants.{Answered, Paused}
use Rattle.cdcl_core.specs.Answers.{IsAnswer}
use Rattle.cdcl_core.specs.SegmentEnds.{IsSegment, IsRest, IsHistory}
use Rattle.cdcl_core.proofs.Ongoing.{ok_then, first_within}
use Rattle.cdcl_core.proofs.segments.solve_by.Goals as goal

pub loop-history-init : goal.loop-history-init
loop-history-init g c =
    let form : Form = c.args.cnf.now in
    let same : c.in_ok-copies.copies.items ≡ form.clauses = c.in_ok-copies.ensures ∙ c.clauses.ensures.is in
    let first : c.len-first.result ≡ length form.clauses = omega (arith, c.len-first.ensures, c.in_ok-copies.copies.ok.0, ap length same) in
    record {
      history = subst (λ (cs : List (List Literal)). IsHistory form cs c.in_ok-history.history) (sym (c.new-clauses.ensures ∙ same)) (c.in_ok-history.ensures.history form first c.clauses.ensures.within);
      room = omega (arith, c.in_ok-history.ensures.start, c.requires);
    }

pub returns-in-Answered : goal.returns-in-Answered
returns-in-Answered g c =
    let form : Form = c.args.cnf.now in
    let clauses : List (List Literal) = c.loop-history.clauses in
    let n : ℕ = c.args.budget - c.units.result in
    let told : IsSegment (record { variables = c.variables-variables.result; clauses = clauses }) c.len-first.result n (Answered c.in-Answered.answer) =
    subst (IsSegment (record { variables = c.variables-variables.result; clauses = clauses }) c.len-first.result n) c.in-Answered.is c.in_ok-answer.ensures in
    let here : IsAnswer (record { variables = form.variables; clauses = clauses }) n c.in-Answered.answer =
    subst (λ v. IsAnswer (record { variables = v; clauses = clauses }) n c.in-Answered.answer) c.variables-variables.ensures.is told.0 in
    let all : c.loop-history.history.next - c.loop-history.history.first + n ≡ c.args.budget = omega (arith, c.units.ensures, c.loop-history.invariant.room) in
    ok_then c.answer.result _ (IsAnswer form c.args.budget) (λ a h. subst (λ k. IsAnswer form k a) all (h form clauses n c.loop-history.invariant.history here told.1)) c.answer.ensures

pub loop-history-smaller : goal.loop-history-smaller
loop-history-smaller g c =
    let form : Form = c.args.cnf.now in
    let clauses : List (List Literal) = c.loop-history.clauses in
    let n : ℕ = c.args.budget - c.units.result in
    let old : History = c.loop-history.history in
    let same : c.in_ok-copies.copies.items ≡ form.clauses = c.in_ok-copies.ensures ∙ c.clauses.ensures.is in
    let first : c.len-first.result ≡ length form.clauses = omega (arith, c.len-first.ensures, c.in_ok-copies.copies.ok.0, ap length same) in
    let told : IsSegment (record { variables = c.variables-variables.result; clauses = clauses }) c.len-first.result n (Paused c.in-Paused.rest c.in-Paused.spare c.in-Paused.log) =
    subst (IsSegment (record { variables = c.variables-variables.result; clauses = clauses }) c.len-first.result n) c.in-Paused.is c.in_ok-answer.ensures in
    let rest : IsRest (record { variables = form.variables; clauses = clauses }) (length form.clauses) n c.in-Paused.rest c.in-Paused.spare.items c.in-Paused.log =
    subst (λ k. IsRest (record { variables = form.variables; clauses = clauses }) k n c.in-Paused.rest c.in-Paused.spare.items c.in-Paused.log) first
    (subst (λ v. IsRest (record { variables = v; clauses = clauses }) c.len-first.result n c.in-Paused.rest c.in-Paused.spare.items c.in-Paused.log) c.variables-variables.ensures.is told) in
    let given : IsRest (record { variables = form.variables; clauses = clauses }) (length form.clauses) n c.in-Paused.rest c.deref.result.now c.in-Paused.log =
    subst (λ (marks : List Bool). IsRest (record { variables = form.variables; clauses = clauses }) (length form.clauses) n c.in-Paused.rest marks c.in-Paused.log) (sym c.deref.ensures.value) rest in
    let new : History = c.take.new.self in
    let kept : IsHistory form c.take.new.clauses new × (old.next < new.next) × (new.next < old.next + n) =
    c.in_ok-take-in-Paused.ensures form clauses n c.loop-history.invariant.history given in
    let before : old.first ≤ old.next = first_within form clauses old c.loop-history.invariant.history in
    omega (arith, kept.1, kept.2, kept.0.first, c.loop-history.invariant.history.first, c.loop-history.invariant.room, c.units.ensures, before)

pub loop-history-preserved : goal.loop-history-preserved
loop-history-preserved g c =
    let form : Form = c.args.cnf.now in
    let clauses : List (List Literal) = c.loop-history.clauses in
    let n : ℕ = c.args.budget - c.units.result in
    let old : History = c.loop-history.history in
    let same : c.in_ok-copies.copies.items ≡ form.clauses = c.in_ok-copies.ensures ∙ c.clauses.ensures.is in
    let first : c.len-first.result ≡ length form.clauses = omega (arith, c.len-first.ensures, c.in_ok-copies.copies.ok.0, ap length same) in
    let told : IsSegment (record { variables = c.variables-variables.result; clauses = clauses }) c.len-first.result n (Paused c.in-Paused.rest c.in-Paused.spare c.in-Paused.log) =
    subst (IsSegment (record { variables = c.variables-variables.result; clauses = clauses }) c.len-first.result n) c.in-Paused.is c.in_ok-answer.ensures in
    let rest : IsRest (record { variables = form.variables; clauses = clauses }) (length form.clauses) n c.in-Paused.rest c.in-Paused.spare.items c.in-Paused.log =
    subst (λ k. IsRest (record { variables = form.variables; clauses = clauses }) k n c.in-Paused.rest c.in-Paused.spare.items c.in-Paused.log) first
    (subst (λ v. IsRest (record { variables = v; clauses = clauses }) c.len-first.result n c.in-Paused.rest c.in-Paused.spare.items c.in-Paused.log) c.variables-variables.ensures.is told) in
    let given : IsRest (record { variables = form.variables; clauses = clauses }) (length form.clauses) n c.in-Paused.rest c.deref.result.now c.in-Paused.log =
    subst (λ (marks : List Bool). IsRest (record { variables = form.variables; clauses = clauses }) (length form.clauses) n c.in-Paused.rest marks c.in-Paused.log) (sym c.deref.ensures.value) rest in
    let new : History = c.take.new.self in
    let kept : IsHistory form c.take.new.clauses new × (old.next < new.next) × (new.next < old.next + n) =
    c.in_ok-take-in-Paused.ensures form clauses n c.loop-history.invariant.history given in
    let before : old.first ≤ old.next = first_within form clauses old c.loop-history.invariant.history in
    record {
      history = kept.0;
      room = omega (arith, kept.1, kept.2, kept.0.first, c.loop-history.invariant.history.first, c.loop-history.invariant.room, c.units.ensures, before);
    }
