use Rattle.std.proofs.Common.{ℕ, ◌+◌, ◌<◌, Bool, List, length, ◌∙◌, arith}
use Rattle.sat_form.specs.Databases.{numbered_clauses}
use Rattle.cdcl_core.proofs.Ongoing.{forgets_start, forgets_on, forgets_off, forgets_log, forgets_all}
use Rattle.cdcl_core.proofs.segments.delete.Goals as goal
use Rattle.cdcl_core.proofs.segments.delete.Goals.{then-spare-place+in_ok-delete, else-spare-place}

pub loop-place-init : goal.loop-place-init
loop-place-init c = λ form clauses spare_are off are. forgets_start form clauses c.args.spare.now c.args.numbers.now c.args.log.now are

pub loop-place-preserved : goal.loop-place-preserved
loop-place-preserved c = λ form clauses spare_are off are.
    let numbers : List ℕ = c.args.numbers.now in
    let spare : List Bool = c.args.spare.now in
    let place : ℕ = c.loop-place.place in
    let total : ℕ = length (numbered_clauses form.clauses c.args.log.now) in
    let within : place < length numbers = omega (arith, c.loop-place-test.true) in
    elim c.if-spare-place.branch [
      | then-spare-place+in_ok-delete w ↦
          forgets_log form clauses spare numbers total _ _ (place + 1) (w.log-is ∙ w.in_ok-delete.ensures.ok)
          (forgets_on form clauses spare numbers total c.loop-place.log place (c.loop-place.invariant form clauses spare_are off are) within c.requires.count are.live.count c.args.log.now are off spare_are w.if-spare-place.true)
      | else-spare-place w ↦
          forgets_log form clauses spare numbers total _ _ (place + 1) w.log-is
          (forgets_off form clauses spare numbers total c.loop-place.log place (c.loop-place.invariant form clauses spare_are off are) within c.requires.count are.live.count w.if-spare-place.false)
    ]

pub returns : goal.returns
returns c = λ form clauses spare_are off are.
    let f = c.loop-place.invariant form clauses spare_are off are in (
      forgets_all form clauses c.args.spare.now c.args.numbers.now (length (numbered_clauses form.clauses c.args.log.now)) c.loop-place.log c.loop-place.place f are.live.count c.requires.count (omega (arith, c.loop-place-test.false)),
      f.count,
    )
