use Rattle.std.proofs.Common.{◌+◌, sym, ◌∙◌, subst}
use Rattle.sat_form.specs.Satisfaction.{Form}
use Rattle.bit_blast.specs.Steps.{AreSteps}
use Rattle.bit_blast.proofs.Stepping.{ready, encoded_more, encoded_short, skipped_more}
use Rattle.bit_blast.proofs.blasting.encode.Goals.{then-marks-place+in_ok-own+in_ok-push, else-marks-place+in_ok-push-2}
use Rattle.bit_blast.proofs.blasting.encode.Goals as goal

pub node_literals-requires : goal.node_literals-requires
node_literals-requires c =
    let r = ready c.args.nodes.now c.requires.marks.0 c.args.marks.now c.args.variables.now c.args.cnf.now c.loop-place.place c.loop-place.cnf c.loop-place.literals c.args.one c.requires.ordered c.requires.marks.1 c.loop-place-test.true c.if-marks-place.true c.requires.within c.requires.wide c.requires.one c.loop-place.invariant in
    record { fits = r.fitting; positive = r.positive; wide = r.wide; before = r.before_within; variables = r.variables_within; one = r.one_is }

pub push-requires : goal.push-requires
push-requires c =
    encoded_short c.args.nodes.now c.requires.marks.0 c.args.marks.now c.args.variables.now c.args.cnf.now c.loop-place.place c.loop-place.cnf c.node_literals.new.cnf c.loop-place.literals c.in_ok-own.own c.requires.ordered c.requires.marks.1 c.loop-place-test.true c.if-marks-place.true c.loop-place.invariant c.in_ok-own.ensures.is

pub loop-place-preserved : goal.loop-place-preserved
loop-place-preserved c = elim c.if-marks-place.branch [
  | then-marks-place+in_ok-own+in_ok-push w ↦
      subst (λ (f : Form). AreSteps c.args.nodes.now c.args.marks.now c.args.variables.now c.args.cnf.now (c.loop-place.place + 1) f c.if-marks-place.literals) (sym w.cnf-is)
      (encoded_more c.args.nodes.now c.requires.marks.0 c.args.marks.now c.args.variables.now c.args.cnf.now c.loop-place.place c.loop-place.cnf w.node_literals.new.cnf c.loop-place.literals c.if-marks-place.literals w.in_ok-own.own c.requires.ordered c.requires.marks.1 c.loop-place-test.true w.if-marks-place.true c.loop-place.invariant w.node_literals.ensures.grows w.in_ok-own.ensures.is (w.literals-is ∙ w.in_ok-push.ensures.ok))
  | else-marks-place+in_ok-push-2 w ↦
      subst (λ (f : Form). AreSteps c.args.nodes.now c.args.marks.now c.args.variables.now c.args.cnf.now (c.loop-place.place + 1) f c.if-marks-place.literals) (sym w.cnf-is)
      (skipped_more c.args.nodes.now c.args.marks.now c.args.variables.now c.args.cnf.now c.loop-place.place c.loop-place.cnf c.loop-place.literals c.if-marks-place.literals w.new-else-marks-place.result w.if-marks-place.false c.loop-place.invariant (w.new-else-marks-place.ensures ∙ w.new.ensures.items) (w.literals-is ∙ w.in_ok-push-2.ensures.ok))
]
