use Rattle.c_interp.specs.Halts.{halt_next}
use Rattle.c_interp.specs.View.{code_under, state_of, thread_of}
use Rattle.c_interp.proofs.Threads.{if_ok_same}
use Rattle.c_interp.proofs.thread.Thread.next.Goals as goal

pub returns : goal.returns
unfolding thread_of
returns c =
    let s = c.args.self.now in
    if_ok_same c.next_of.result _ _ c.next_of.ensures (halt_next (code_under s) s.first (state_of s) c.args.halt c.requires)
