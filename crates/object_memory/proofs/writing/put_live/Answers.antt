use Rattle.object_memory.proofs.Puts.{live_set}
use Rattle.object_memory.proofs.writing.put_live.Goals as goal

pub returns : goal.returns
returns c = live_set c.args.places.now.items c.args.at c.index_mut.result.now c.args.live c.requires c.index_mut.ensures.value
