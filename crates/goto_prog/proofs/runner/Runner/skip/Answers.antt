use Rattle.goto_prog.proofs.Stepping.{room_for, skip_here, goes_skip}
use Rattle.goto_prog.proofs.runner.Runner.skip.Goals as goal

pub pass-requires : goal.pass-requires
pass-requires c =
    let within = skip_here c.args.self.now c.args.i c.args.count c.requires.found c.requires.code c.requires.is in
    room_for c.args.self.now c.args.i c.args.count c.requires.found within

pub returns : goal.returns
returns c =
    let within = skip_here c.args.self.now c.args.i c.args.count c.requires.found c.requires.code c.requires.is in
    rw c.pass.ensures (goes_skip c.args.self.now c.args.i c.requires.found c.args.count c.requires.is within)
