use Rattle.std.proofs.Common.{◌<◌, List, Vec, Global, Bool, Some, None, sym, subst, arith}
use Rattle.std.specs.Prelude.{IfSome}
use Rattle.sat_form.specs.Satisfaction.{Form, Literal}
use Rattle.sat_form.specs.declared.logs.Entry.{Entry}
use Rattle.cdcl_core.specs.declared.search.Search.{Search}
use Rattle.cdcl_core.specs.Answers.{IsReady, HasAdvanced, left}
use Rattle.cdcl_core.specs.SegmentEnds.{IsRest}
use Rattle.cdcl_core.proofs.Starting.{IsReady-begun}
use Rattle.cdcl_core.proofs.segments.run.Goals as goal

pub begin-requires-clause-held : goal.begin-requires-clause-held
begin-requires-clause-held g c = (c.in_ok-search.ensures.ready c.args.budget).kept.held

pub loop-search-init : goal.loop-search-init
loop-search-init g c = (
  IsReady-begun (record { variables = c.args.variables; clauses = c.args.clauses }) c.args.budget c.in_ok-search.search c.begin.new.self c.in_ok-conflict.ensures.same c.in_ok-conflict.ensures.held c.in_ok-conflict.ensures.on
      (c.in_ok-search.ensures.ready c.args.budget),
  c.in_ok-conflict.ensures.at,
)

pub returns-in-Some : goal.returns-in-Some
returns-in-Some g c =
    let form : Form = record { variables = c.args.variables; clauses = c.args.clauses } in
    let s : Search = c.pursue.new.self in
    let ready : IsReady form c.args.budget s = c.in_ok-conflict-2.ensures.ready form c.args.budget c.loop-search.invariant.0 in
    let told = subst (λ o. IfSome o (λ (spare : Vec Bool Global). (f : Form) → IsReady f c.args.budget s → IsRest f c.args.first c.args.budget s.clauses spare.items s.log)) c.in-Some.is c.in_ok-spare.ensures in
    subst (λ (v : List (List Literal)). IsRest form c.args.first c.args.budget v c.in-Some.spare.items c.take_parts-clauses.result.1) (sym c.take_parts-clauses.ensures.clauses)
    (subst (λ (es : List Entry). IsRest form c.args.first c.args.budget s.clauses c.in-Some.spare.items es) (sym c.take_parts-clauses.ensures.log) (told form ready))

pub returns-in-Some-2 : goal.returns-in-Some-2
returns-in-Some-2 g c =
    let form : Form = record { variables = c.args.variables; clauses = c.args.clauses } in
    let ready : IsReady form c.args.budget c.pursue.new.self = c.in_ok-conflict-2.ensures.ready form c.args.budget c.loop-search.invariant.0 in
    let advanced : HasAdvanced form c.args.budget c.pursue.new.self c.advance.new.self (Some c.in-Some-2.answer) =
    subst (HasAdvanced form c.args.budget c.pursue.new.self c.advance.new.self) c.in-Some-2.is (c.in_ok-answer.ensures form ready) in
    advanced

pub loop-search-smaller : goal.loop-search-smaller
loop-search-smaller g c =
    let form : Form = record { variables = c.args.variables; clauses = c.args.clauses } in
    let ready : IsReady form c.args.budget c.pursue.new.self = c.in_ok-conflict-2.ensures.ready form c.args.budget c.loop-search.invariant.0 in
    let advanced : HasAdvanced form c.args.budget c.pursue.new.self c.advance.new.self None =
    subst (HasAdvanced form c.args.budget c.pursue.new.self c.advance.new.self) c.in_default-2.is (c.in_ok-answer.ensures form ready) in
    let less : left c.args.budget c.advance.new.self < left c.args.budget c.pursue.new.self = advanced.2 in
    omega (arith, less, c.in_ok-conflict-2.ensures.left c.args.budget)

pub loop-search-preserved : goal.loop-search-preserved
loop-search-preserved g c =
    let form : Form = record { variables = c.args.variables; clauses = c.args.clauses } in
    let ready : IsReady form c.args.budget c.pursue.new.self = c.in_ok-conflict-2.ensures.ready form c.args.budget c.loop-search.invariant.0 in
    let advanced : HasAdvanced form c.args.budget c.pursue.new.self c.advance.new.self None =
    subst (HasAdvanced form c.args.budget c.pursue.new.self c.advance.new.self) c.in_default-2.is (c.in_ok-answer.ensures form ready) in
    (advanced.0, advanced.1)
