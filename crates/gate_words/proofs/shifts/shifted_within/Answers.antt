use Rattle.std.proofs.Common.{◌≡◌, ◌-◌, List, [], ◌∷◌, ◌++◌, take, length, sym, subst}
use Rattle.std.proofs.lemmas.Result.{IfOk-weaker}
use Rattle.sat_form.specs.Satisfaction.{Literal}
use Rattle.sat_form.specs.Numbers.{value_of}
use Rattle.gate_words.specs.declared.shifts.Shift.{Shift}
use Rattle.gate_words.specs.declared.shifts.Shift.TheVariants.{Arithmetic}
use Rattle.gate_words.specs.Shifts.{IsShiftedDown, IsShifted}
use Rattle.gate_bits.proofs.Parts.{last_of}
use Rattle.gate_words.proofs.Shifting.{Shifted_logical, Shifted_arithmetic}
use Rattle.gate_words.proofs.shifts.shifted_within.Goals as goal

pub returns-in-Logical-clause-is : goal.returns-in-Logical-clause-is
returns-in-Logical-clause-is c =
    IfOk-weaker c.shifted_down.result (λ r. IsShiftedDown c.shifted_down.new.cnf c.args.a.now c.args.zero r.items (value_of c.args.count.now))
    (λ r. IsShifted c.shifted_down.new.cnf c.args.kind c.args.a.now c.args.count.now r.items)
    (λ r is. subst (λ (k : Shift). IsShifted c.shifted_down.new.cnf k c.args.a.now c.args.count.now r.items) (sym c.in-Logical.is)
    (Shifted_logical c.args.cnf.now c.shifted_down.new.cnf c.args.a.now c.args.count.now r.items c.args.zero c.requires.zero c.shifted_down.ensures.grows is))
    c.shifted_down.ensures.is

pub returns-in-Arithmetic-clause-is : goal.returns-in-Arithmetic-clause-is
returns-in-Arithmetic-clause-is c =
    let a : List Literal = c.args.a.now in
    let top : Literal = c.index-a-a.result in
    let low : List Literal = take (length a - 1) a in
    let whole : low ++ top ∷ [] ≡ a = last_of a top c.requires.positive c.index-a-a.is in
    IfOk-weaker c.shifted_down-in-Arithmetic.result (λ r. IsShiftedDown c.shifted_down-in-Arithmetic.new.cnf a top r.items (value_of c.args.count.now))
    (λ r. IsShifted c.shifted_down-in-Arithmetic.new.cnf c.args.kind a c.args.count.now r.items)
    (λ r is.
    let down = subst (λ (m : List Literal). IsShiftedDown c.shifted_down-in-Arithmetic.new.cnf m top r.items (value_of c.args.count.now)) (sym whole) is in
    let shifted = Shifted_arithmetic c.shifted_down-in-Arithmetic.new.cnf low c.args.count.now r.items top down in
    subst (λ (k : Shift). IsShifted c.shifted_down-in-Arithmetic.new.cnf k a c.args.count.now r.items) (sym c.in-Arithmetic.is)
    (subst (λ (m : List Literal). IsShifted c.shifted_down-in-Arithmetic.new.cnf Arithmetic m c.args.count.now r.items) whole shifted))
    c.shifted_down-in-Arithmetic.ensures.is
