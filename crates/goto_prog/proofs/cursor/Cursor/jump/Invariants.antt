use Rattle.std.proofs.Common.{◌≡◌, ◌-◌}
use Rattle.goto_prog.specs.Walking.{landed}
use Rattle.goto_prog.proofs.cursor.Cursor.jump.Given as goal

abbrev pub invariant-loop : goal.invariant-loop
invariant-loop l = landed (l.count - l.counter) l.self ≡ landed l.fn.count l.fn.self
