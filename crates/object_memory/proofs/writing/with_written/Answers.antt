use Rattle.std.proofs.Common.{refl, ap, length, ◌∙◌}
use Rattle.object_memory.proofs.Puts.{put_spot, block_within}
use Rattle.object_memory.proofs.writing.with_written.Goals as goal

pub returns-clause-within : goal.returns-clause-within
returns-clause-within c =
    block_within c.args.dag.now c.written_block.new.dag c.args.place.now (record c.args.place.now { bytes = c.in_ok-ids.ids }) (record { born = refl; number = refl; size = refl; live = refl; readonly = refl; heap = refl }) c.written_block.ensures.extends c.requires.place c.in_ok-ids.ensures.block (c.in_ok-ids.ensures.length ∙ ap length c.as_slice-block.ensures.value)

pub returns-clause-spot : goal.returns-clause-spot
returns-clause-spot c =
    put_spot c.args.dag.now c.written_block.new.dag c.args.place.now (record c.args.place.now { bytes = c.in_ok-ids.ids }) c.args.test c.args.offset c.args.bytes.now c.as_slice-block.result.now (record { born = refl; number = refl; size = refl; live = refl; readonly = refl; heap = refl }) c.written_block.ensures.extends c.requires.place c.as_slice-block.ensures.value c.in_ok-ids.ensures.put
    c.in_ok-ids.ensures.kept
