use Rattle.std.proofs.Common.{◌-◌, ◌++◌, List, length, take, drop, ap, arith, ◌∙◌}
use Rattle.std.proofs.lemmas.List.{take_all, length-drop}
use Rattle.word_dag.specs.declared.nodes.Id.{Id}
use Rattle.object_memory.proofs.Puts.{part_values}
use Rattle.object_memory.proofs.writing.put_part.Goals as goal

pub returns-clause-values : goal.returns-clause-values
returns-clause-values c =
    part_values c.args.dag.now c.update_within.new.dag c.args.block.now.items c.put_end.new.block.items c.in_ok-part.part.items _ c.args.bytes.now c.args.offset.now c.args.at c.update_within.ensures.extends c.requires.block c.requires.within
    (take_all (length c.deref.result.now - c.args.at) (drop c.args.at c.deref.result.now) (omega (arith, length-drop c.args.at c.deref.result.now)) ∙ ap (drop c.args.at) c.deref.ensures.value) c.in_ok-part.ensures.values
    (c.put_end.ensures ∙ ap (λ (ks : List Id). take c.args.at c.args.block.now.items ++ ks) c.deref-2.ensures.value)
