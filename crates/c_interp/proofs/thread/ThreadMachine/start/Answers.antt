use Rattle.std.proofs.Common.{◌<◌, arith}
use Rattle.c_interp.specs.View.{thread_of}
use Rattle.c_interp.proofs.Threads.{less}
use Rattle.c_interp.proofs.thread.ThreadMachine.start.Goals as goal

pub at_function-requires-clause-there : goal.at_function-requires-clause-there
unfolding thread_of
at_function-requires-clause-there c =
    let s = c.args.self.now in
    let below : c.args.function < s.startable = less c.args.function s.startable c.requires.known in
    omega (arith, below, s.known)

pub returns : goal.returns
unfolding thread_of
returns c = c.at_function.ensures
