use Rattle.std.proofs.Common.{◌≤◌, length, take, arith}
use Rattle.std.proofs.lemmas.List.{length-take-le}
use Rattle.words.specs.Operators.{unsigned_quotient, unsigned_remainder}
use Rattle.gate_bits.proofs.Growing.{IsTruth-kept}
use Rattle.gate_words.proofs.Dividing.{Trimmed_is}
use Rattle.gate_words.proofs.quotients.trimmed_division.Goals as goal

pub returns-clause-quotient : goal.returns-clause-quotient
returns-clause-quotient c =
    let a = c.args.a.now in
    let b = c.args.b.now in
    let w = c.low_width-width.result in
    let few : length (take w a) ≤ length a = omega (arith, length-take-le w a c.low_width-width.ensures.within, c.low_width-width.ensures.within) in
    Trimmed_is c.unsigned_division.new.cnf (length a) w (length (take w a)) a b (take w a) (take w b) c.in_ok-quotient.quotient.items c.in_ok-quotient-2.quotient.items c.args.zero unsigned_quotient
    (IsTruth-kept c.requires.zero c.in_ok-quotient.ensures.grows) few c.low_width-width.ensures.a c.low_width-width.ensures.b c.in_ok-quotient.ensures.quotient c.in_ok-quotient-2.ensures

pub returns-clause-remainder : goal.returns-clause-remainder
returns-clause-remainder c =
    let a = c.args.a.now in
    let b = c.args.b.now in
    let w = c.low_width-width.result in
    let few : length (take w a) ≤ length a = omega (arith, length-take-le w a c.low_width-width.ensures.within, c.low_width-width.ensures.within) in
    Trimmed_is c.unsigned_division.new.cnf (length a) w (length (take w a)) a b (take w a) (take w b) c.in_ok-quotient.rest.items c.in_ok-rest.rest.items c.args.zero unsigned_remainder
    (IsTruth-kept c.requires.zero c.in_ok-quotient.ensures.grows) few c.low_width-width.ensures.a c.low_width-width.ensures.b c.in_ok-quotient.ensures.remainder c.in_ok-rest.ensures
