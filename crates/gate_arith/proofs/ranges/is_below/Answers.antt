use Rattle.std.proofs.Common.{◌≡◌, ◌-◌, ◌++◌, ◌∷◌, List, length, nat_lt, sym, ap, ◌∙◌, subst}
use Rattle.std.proofs.lemmas.Result.{IfOk-weaker}
use Rattle.sat_form.specs.Satisfaction.{Literal, IsWithin}
use Rattle.sat_form.specs.Numbers.{value_of}
use Rattle.gate_bits.specs.Truth.{IsTruth}
use Rattle.gate_arith.proofs.Fitting.{Below_is, IsWithin-limit}
use Rattle.gate_arith.proofs.ranges.is_below.Goals as goal

pub borrow-requires-clause-b : goal.borrow-requires-clause-b
borrow-requires-clause-b c =
    let n = c.args.cnf.now.variables in
    subst (λ (m : List Literal). IsWithin n m) (sym (c.deref-2.ensures.value ∙ c.in_ok-limit.ensures))
    (IsWithin-limit n c.args.power (length c.args.bits.now - c.args.power - 1) c.args.more c.args.zero c.requires.more c.requires.zero.within)

pub returns-clause-is : goal.returns-clause-is
returns-clause-is c =
    let bits : List Literal = c.args.bits.now in
    let doubled : List Literal = c.deref.result.now in
    let limit : List Literal = c.deref-2.result.now in
    let is_doubled : doubled ≡ c.args.zero ∷ bits = c.deref.ensures.value ∙ c.in_ok-extend_from_slice.ensures.items ∙ ap (λ (m : List Literal). m ++ bits) c.in_ok-doubled.ensures.items in
    IfOk-weaker c.borrow.result (λ l. IsTruth c.borrow.new.cnf l (λ v. nat_lt (value_of doubled v) (value_of limit v))) _
    (λ l is. Below_is c.args.cnf.now c.borrow.new.cnf bits doubled limit c.args.more c.args.zero l c.args.power (length bits - c.args.power - 1) is_doubled (c.deref-2.ensures.value ∙ c.in_ok-limit.ensures) c.requires.zero c.borrow.ensures.grows is)
    c.borrow.ensures.is
