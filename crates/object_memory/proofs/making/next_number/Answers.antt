use Rattle.object_memory.proofs.Starts.{next_made}
use Rattle.object_memory.proofs.making.next_number.Goals as goal

pub returns-clause-value : goal.returns-clause-value
returns-clause-value c = λ v small. next_made c.args.dag.now c.make.new.self c.make-2.new.self c.args.count c.in_ok-one.one c.in_ok-id.id v c.make.ensures.extends c.requires c.in_ok-one.ensures.made c.in_ok-id.ensures.made small
