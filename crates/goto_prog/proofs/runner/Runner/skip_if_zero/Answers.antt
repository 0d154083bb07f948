use Rattle.std.proofs.Common.{sym, ◌∙◌}
use Rattle.goto_prog.proofs.Stepping.{zero_there, zero_here, room_for, goes_zero, goes_other}
use Rattle.goto_prog.proofs.runner.Runner.skip_if_zero.Goals as goal

pub is_zero-requires : goal.is_zero-requires
is_zero-requires c = zero_there c.args.self.now c.args.i c.args.operand c.args.count c.requires.found c.requires.code c.requires.is

pub pass-requires : goal.pass-requires
pass-requires c =
    room_for c.args.self.now c.args.i c.args.count c.requires.found (zero_here c.args.self.now c.args.i c.args.operand c.args.count c.requires.found c.requires.code c.requires.is)

pub returns-then-is_zero : goal.returns-then-is_zero
returns-then-is_zero c =
    rw c.pass.ensures (goes_zero c.args.self.now c.args.i c.requires.found c.args.operand c.args.count c.requires.is (sym c.is_zero.ensures ∙ c.if-is_zero.true) (zero_here c.args.self.now c.args.i c.args.operand c.args.count c.requires.found c.requires.code c.requires.is))

pub returns : goal.returns
returns c = rw c.pass-2.ensures (goes_other c.args.self.now c.args.i c.requires.found c.args.operand c.args.count c.requires.is (sym c.is_zero.ensures ∙ c.if-is_zero.false))
