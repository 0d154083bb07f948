use Rattle.std.proofs.Common.{◌+◌, refl, sym, subst}
use Rattle.sat_form.specs.Satisfaction.{IsWithin}
use Rattle.words.specs.Operators.{word_complement, low_bits, logical_shift, sign_extension}
use Rattle.word_dag.specs.Meaning.{joined}
use Rattle.gate_arith.specs.Growth.{added_to}
use Rattle.bit_blast.proofs.Encoding.{literals_within, as_node, variable_bits}
use Rattle.bit_blast.proofs.Gathering.{operands_ones, operands_within}
use Rattle.bit_blast.proofs.encode.node_literals.Goals as goal

pub returns-in_ok-cut-in-Variable-clause-is : goal.returns-in_ok-cut-in-Variable-clause-is
returns-in_ok-cut-in-Variable-clause-is c =
    as_node _ _ _ _ _ _ _ _ c.in-Variable.is
    (c.in_ok-cut-in-Variable.ensures (added_to c.args.cnf.now c.args.cnf.now) (subst (IsWithin c.args.cnf.now.variables) (sym c.get.ensures.is) (literals_within c.args.cnf.now.variables c.args.variables.now c.in-Variable.variable c.requires.variables)))
    refl (λ x. variable_bits c.args.variables.now c.get.result.now c.in-Variable.variable c.in-Variable.width x c.get.ensures.is)

pub returns-in_ok-complement-in-Not-clause-is : goal.returns-in_ok-complement-in-Not-clause-is
returns-in_ok-complement-in-Not-clause-is c =
    as_node _ _ _ _ _ _ _ _ c.in-Not.is
    (c.in_ok-complement-in-Not.ensures (added_to c.args.cnf.now c.args.cnf.now) c.read.ensures.within)
    c.read.ensures.count (λ x k. word_complement (c.read.ensures.count k) (c.read.ensures.number x k))

pub returns-in_ok-sign_extended-in-SignExtend-clause-is : goal.returns-in_ok-sign_extended-in-SignExtend-clause-is
returns-in_ok-sign_extended-in-SignExtend-clause-is c =
    as_node _ _ _ _ _ _ _ _ c.in-SignExtend.is
    (c.in_ok-sign_extended-in-SignExtend.ensures (added_to c.args.cnf.now c.args.cnf.now) c.read-in-SignExtend.ensures.within)
    refl (λ x k. sign_extension (c.read-in-SignExtend.ensures.count k) c.in-SignExtend.width (c.read-in-SignExtend.ensures.number x k))

pub returns-in_ok-cut-in-Cut-clause-is : goal.returns-in_ok-cut-in-Cut-clause-is
returns-in_ok-cut-in-Cut-clause-is c =
    as_node _ _ _ _ _ _ _ _ c.in-Cut.is
    (c.in_ok-cut-in-Cut.ensures (added_to c.args.cnf.now c.args.cnf.now) c.read-in-Cut.ensures.within)
    refl (λ x k. low_bits c.in-Cut.width (logical_shift (c.read-in-Cut.ensures.number x k) c.in-Cut.low))

pub returns-in_ok-join-in-Join-clause-is : goal.returns-in_ok-join-in-Join-clause-is
returns-in_ok-join-in-Join-clause-is c =
    as_node _ _ _ _ _ _ _ _ c.in-Join.is
    (c.in_ok-join-in-Join.ensures (added_to c.args.cnf.now c.args.cnf.now) c.read-in-Join.ensures.within c.read-in-Join-2.ensures.within)
    (λ k. c.read-in-Join.ensures.count k + c.read-in-Join-2.ensures.count k)
    (λ x k. joined (c.read-in-Join-2.ensures.count k) (c.read-in-Join.ensures.number x k) (c.read-in-Join-2.ensures.number x k))

pub bits_from-requires : goal.bits_from-requires
bits_from-requires c = operands_ones c.args.before.now c.args.node c.in-Quantify.quantifier c.in-Quantify.first c.in-Quantify.count c.in-Quantify.is c.requires.fits

pub quantify-requires : goal.quantify-requires
quantify-requires c = operands_within c.args.cnf.now.variables _ c.deref.result.now c.deref.ensures.value (c.in_ok-literals-in-Quantify.ensures.within c.args.cnf.now.variables c.requires.before)
