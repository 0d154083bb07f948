use Rattle.std.proofs.Common.{List, subst}
use Rattle.sat_form.specs.Satisfaction.{Literal}
use Rattle.gate_bits.specs.Sums.{IsSum}
use Rattle.gate_words.proofs.Dividing.{Negated_is}
use Rattle.std.proofs.Common.{length}
use Rattle.gate_words.proofs.quotients.negated.Goals as goal

pub returns-clause-is : goal.returns-clause-is
returns-clause-is c =
    let flipped : List Literal = c.in_ok-flipped.flipped.items in
    let zeros : List Literal = c.in_ok-zeros.zeros.items in
    let negation : List Literal = c.in_ok-negation.negation.items in
    let added = subst (λ (m : List Literal). IsSum c.sum.new.cnf m zeros c.args.by negation c.in_ok-negation.field-0-1) c.deref.ensures.value
    (subst (λ (m : List Literal). IsSum c.sum.new.cnf c.deref.result.now m c.args.by negation c.in_ok-negation.field-0-1) c.deref-2.ensures.value c.in_ok-negation.ensures.is) in
    Negated_is c.args.cnf.now c.turned.new.cnf c.sum.new.cnf c.args.bits.now flipped zeros negation c.args.by c.args.zero c.in_ok-negation.field-0-1 (length c.args.bits.now) c.requires.zero c.in_ok-flipped.ensures.grows c.in_ok-flipped.ensures.is
    (c.in_ok-zeros.ensures.items_if_clones_equal (λ y h. h)) c.in_ok-negation.ensures.grows added
