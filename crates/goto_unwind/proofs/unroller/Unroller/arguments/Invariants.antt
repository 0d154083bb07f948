use Rattle.std.proofs.Common.{◌≡◌, ◌+◌, ◌-◌, ◌≤◌, ◌++◌, drop}
use Rattle.goto_unwind.specs.Unrolled.{argument_code}
use Rattle.goto_unwind.specs.Unroller.{making, level_of}
use Rattle.goto_unwind.proofs.unroller.Unroller.arguments.Given as goal

abbrev pub decreases-arguments : goal.decreases-arguments
decreases-arguments l = l.next

abbrev pub invariant-arguments : goal.invariant-arguments
invariant-arguments l =
    let level = level_of l.fn.level in
    record {
      few : l.next ≤ l.initial.next;
      same : making l.self ≡ record (making l.fn.self) {
        code = argument_code l.line l.function (drop l.next level.arguments) (l.from + l.next) (l.initial.next - l.next) (drop l.next level.site.routine.blocks) (level.site.block + l.next) ++ (making l.fn.self).code;
      };
    }
