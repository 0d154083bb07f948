use Rattle.std.proofs.Common.{refl}
use Rattle.mem_seq.proofs.Chaining.{pushed_in, pushed}
use Rattle.mem_seq.proofs.chain.Chain.append.Goals as goal

pub returns-clause-within : goal.returns-clause-within
returns-clause-within c =
    pushed_in c.args.dag.now c.args.self.now (record c.args.self.now { parts = c.push.new.self }) c.args.id c.requires.within c.requires.id c.in_ok-push.ensures.items refl

pub returns-clause-truth : goal.returns-clause-truth
returns-clause-truth c =
    pushed c.args.dag.now c.args.self.now (record c.args.self.now { parts = c.push.new.self }) c.args.self.now.quantifier c.args.id refl refl c.in_ok-push.ensures.items refl
