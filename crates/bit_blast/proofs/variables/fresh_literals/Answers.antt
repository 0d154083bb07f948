use Rattle.bit_blast.proofs.Consecutive.{fresh_more}
use Rattle.bit_blast.proofs.variables.fresh_literals.Goals as goal

pub loop-preserved : goal.loop-preserved
loop-preserved c =
    let m = fresh_more c.args.cnf.now c.loop.cnf c.fresh.new.self c.loop.counter c.loop.literals.items c.push.new.self.items c.in_ok-fresh.field-0 c.loop.invariant.literals_are c.loop.invariant.form_is c.in_ok-fresh.ensures.variable c.in_ok-push.ensures.items c.in_ok-fresh.ensures.ok in
    record { literals_are = m.0; form_is = m.1 }
