use Rattle.std.proofs.Common.{refl}
use Rattle.byte_ops.proofs.Writing.{chosen_values, chosen_long}
use Rattle.byte_ops.proofs.updating.chosen_bytes.Goals as goal

pub returns-clause-same : goal.returns-clause-same
returns-clause-same c = chosen_long c.args.dag.now c.bytes_of_word.new.dag c.in_ok-ids.ids.items c.args.bytes.now _ c.requires.few c.in_ok-ids.ensures.made

pub returns-clause-values : goal.returns-clause-values
returns-clause-values c =
    chosen_values c.args.dag.now c.word_of_bytes.new.dag c.word_of_bytes-2.new.dag c.chosen.new.dag c.args.test c.in_ok-word.word c.in_ok-other.other c.in_ok-both.both c.args.bytes.now c.args.others.now c.in_ok-ids.ids.items _ c.nodes.ensures.ordered c.word_of_bytes.ensures.extends c.word_of_bytes-2.ensures.extends
    c.requires.test c.requires.bytes c.requires.others refl c.requires.same c.requires.few c.in_ok-word.ensures.made c.in_ok-other.ensures.made c.bytes_of_word.new.dag c.chosen.ensures.extends c.in_ok-both.ensures.made c.in_ok-ids.ensures.made
