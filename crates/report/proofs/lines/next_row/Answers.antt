use Rattle.std.proofs.Common.{◌++◌, ◌∷◌, [], refl, arith}
use Rattle.std.specs.Fmt.{decimal}
use Rattle.report.proofs.Fronts.{behind_one, number_one}
use Rattle.report.proofs.lines.next_row.Goals as goal

pub returns-in_err-rest-2 : goal.returns-in_err-rest-2
returns-in_err-rest-2 c = rw c.from_residual-in_err-rest-2.ensures (λ row rest is f e.
    let p = c.in_ok-thread.ensures in
    let few = p.2 in
    let small = is.thread in
    let one = number_one c.in_ok-thread.thread row.0 c.in_ok-thread.rest.now (120 ∷ (decimal row.1 ++ rest)) c.in_ok-rest.rest.now (omega arith) (omega arith) p.0 refl p.1 (behind_one (32 ∷ []) _ _ c.args.text.now c.in_ok-rest.ensures e) in
    c.in_err-rest-2.ensures (decimal row.1 ++ rest) one.1)

pub returns-in_err-turns : goal.returns-in_err-turns
returns-in_err-turns c = rw c.from_residual-in_err-turns.ensures (λ row rest is f e.
    let p = c.in_ok-thread.ensures in
    let few = p.2 in
    let small = is.thread in
    let one = number_one c.in_ok-thread.thread row.0 c.in_ok-thread.rest.now (120 ∷ (decimal row.1 ++ rest)) c.in_ok-rest.rest.now (omega arith) (omega arith) p.0 refl p.1 (behind_one (32 ∷ []) _ _ c.args.text.now c.in_ok-rest.ensures e) in
    c.in_err-turns.ensures row.1 rest is.turns f (behind_one (120 ∷ []) _ _ c.in_ok-thread.rest.now c.in_ok-rest-2.ensures one.1))

pub returns-then-turns-eq0 : goal.returns-then-turns-eq0
returns-then-turns-eq0 c = λ row rest is f e.
    let p = c.in_ok-thread.ensures in
    let few = p.2 in
    let small = is.thread in
    let one = number_one c.in_ok-thread.thread row.0 c.in_ok-thread.rest.now (120 ∷ (decimal row.1 ++ rest)) c.in_ok-rest.rest.now (omega arith) (omega arith) p.0 refl p.1 (behind_one (32 ∷ []) _ _ c.args.text.now c.in_ok-rest.ensures e) in
    let q = c.in_ok-turns.ensures in
    let two = number_one c.in_ok-turns.turns row.1 c.in_ok-turns.rest.now rest c.in_ok-rest-2.rest.now q.2 is.turns q.0 f q.1 (behind_one (120 ∷ []) _ _ c.in_ok-thread.rest.now c.in_ok-rest-2.ensures one.1) in
    let same = two.0 in
    let some = is.some in
    let none = c.if-turns-eq0.true in
    omega (arith, same, some, none)
