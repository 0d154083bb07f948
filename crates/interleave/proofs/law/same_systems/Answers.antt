use Rattle.interleave.proofs.Alike as alike
use Rattle.interleave.proofs.law.same_systems.Goals as goal

pub returns : goal.returns
returns g c = alike.same_systems (g.M.Machine.thread c.args.m.now) (g.N.Machine.thread c.args.n.now) (g.met.M.Machine.valid c.args.m.now) (g.met.N.Machine.valid c.args.n.now) c.requires
