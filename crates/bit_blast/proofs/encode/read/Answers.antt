use Rattle.std.proofs.Common.{ap, sym, ◌∙◌, length, subst}
use Rattle.sat_form.specs.Satisfaction.{Literal, IsWithin}
use Rattle.sat_form.specs.Numbers.{value_of}
use Rattle.std.specs.Prelude.{List}
use Rattle.bit_blast.proofs.Encoding.{literals_within, count_at, number_at}
use Rattle.bit_blast.proofs.encode.read.Goals as goal

pub returns-clause-count : goal.returns-clause-count
returns-clause-count c = ap (λ (ls : List Literal). length ls) c.get.ensures.is ∙ sym (count_at c.args.lists.now c.args.id.index)

pub returns-clause-number : goal.returns-clause-number
returns-clause-number c = λ x. ap (λ (ls : List Literal). value_of ls x) c.get.ensures.is ∙ sym (number_at c.args.lists.now x c.args.id.index)

pub returns-clause-within : goal.returns-clause-within
returns-clause-within c = subst (IsWithin c.args.cnf.now.variables) (sym c.get.ensures.is) (literals_within c.args.cnf.now.variables c.args.lists.now c.args.id.index c.requires.within)
