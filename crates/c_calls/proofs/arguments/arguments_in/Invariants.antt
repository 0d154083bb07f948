use Rattle.std.proofs.Common.{◌≡◌, drop}
use Rattle.c_types.specs.Types.{views}
use Rattle.c_calls.specs.Calls.{turned, arguments_in}
use Rattle.c_calls.proofs.Passing.{more_arguments}
use Rattle.c_calls.proofs.arguments.arguments_in.Given as goal

abbrev pub invariant-loop-type_ : goal.invariant-loop-type_
invariant-loop-type_ l =
    more_arguments l.arguments.items (arguments_in (views (drop l.type_-index l.parameters)) (turned l.operands.items))
    ≡ arguments_in (views l.parameters) (turned l.initial.operands.items)
