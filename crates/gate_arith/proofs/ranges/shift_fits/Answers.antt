use Rattle.std.proofs.Common.{◌+◌, ◌-◌, ◌^◌, List, length, nat_lt, sym, ◌∙◌, subst}
use Rattle.std.proofs.lemmas.Result.{IfOk-weaker}
use Rattle.sat_form.specs.Satisfaction.{Literal, literal_value}
use Rattle.sat_form.specs.Numbers.{bit_value, value_of}
use Rattle.words.specs.Operators.{left_shift}
use Rattle.gate_bits.specs.Truth.{IsTruth, IsNumber}
use Rattle.gate_arith.proofs.Fitting.{Shift_fits}
use Rattle.gate_arith.proofs.ranges.shift_fits.Goals as goal

pub returns-clause-is : goal.returns-clause-is
returns-clause-is c =
    let a : List Literal = c.args.a.now in
    let count : List Literal = c.args.count.now in
    let wide : List Literal = c.deref.result.now in
    let moved : List Literal = c.deref-2.result.now in
    let is_moved = subst (λ (m : List Literal). IsNumber c.shifted_up.new.cnf (length wide) m (λ x. left_shift (length wide) (value_of wide x) (value_of count x))) (sym c.deref-2.ensures.value) c.in_ok-moved.ensures.is in
    IfOk-weaker c.is_below.result (λ l. IsTruth c.is_below.new.cnf l (λ x. nat_lt (value_of moved x) (2 ^ (length a - 1) + bit_value (literal_value x c.args.zero)))) _
    (λ l is. Shift_fits c.args.cnf.now c.shifted_up.new.cnf c.is_below.new.cnf a count wide moved c.args.zero l c.requires.positive c.requires.a (c.deref.ensures.value ∙ c.in_ok-wide.ensures) c.requires.zero c.in_ok-moved.ensures.grows is_moved c.is_below.ensures.grows is)
    c.is_below.ensures.is
