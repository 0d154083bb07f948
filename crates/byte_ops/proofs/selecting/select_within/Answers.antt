use Rattle.std.proofs.Common.{refl}
use Rattle.byte_ops.proofs.Numbers.{within_tests, within_made}
use Rattle.byte_ops.proofs.selecting.select_within.Goals as goal

pub chosen_among-requires-clause-tests : goal.chosen_among-requires-clause-tests
chosen_among-requires-clause-tests c =
    within_tests c.args.dag.now c.first_number.new.dag c.args.offsets.now c.deref.result.now c.in_ok-word.rest.now c.first_number.ensures.extends c.requires.offsets c.deref.ensures.value (c.in_ok-word.ensures.tests c.args.dag.now c.args.offsets.now.offset)

pub returns-clause-made : goal.returns-clause-made
returns-clause-made c =
    within_made c.args.dag.now c.first_number.new.dag c.chosen_among.new.dag c.args.block.now c.args.offsets.now c.deref.result.now c.in_ok-word.rest.now c.in_ok-word.word c.in_ok-id.id _ c.args.n c.first_number.ensures.extends c.requires.block c.requires.offsets c.deref.ensures.value refl c.requires.size
    c.in_ok-word.ensures.made c.in_ok-id.ensures.made
