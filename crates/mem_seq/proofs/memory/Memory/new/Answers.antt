use Rattle.std.proofs.Common.{ap}
use Rattle.std.specs.Ordering.{nat_cmp}
use Rattle.std.specs.Map.{lookup}
use Rattle.std.specs.BTreeMap.{is_at}
use Rattle.mem_seq.proofs.Written.{stands_none}
use Rattle.mem_seq.proofs.memory.Memory.new.Goals as goal

pub returns-clause-start : goal.returns-clause-start
returns-clause-start c = λ v d. stands_none v d _ c.args.store.now (λ q. ap (lookup (is_at (nat_cmp q))) c.new.ensures.empty)
