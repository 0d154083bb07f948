use Rattle.std.proofs.Common.{◌≡◌, List, [], ◌∷◌, drop, Ok, ap, sym, ◌∙◌, arith}
use Rattle.std.proofs.lemmas.List.{drop_all}
use Rattle.c_types.specs.declared.types.Ty.{Ty}
use Rattle.c_types.specs.Types.{views}
use Rattle.core_tree.specs.Trees.{Arguments}
use Rattle.c_operators.specs.Pointers.{view_typed}
use Rattle.c_calls.specs.Calls.{turned, arguments_in}
use Rattle.c_calls.proofs.Passing.{turned_last, more_arguments, argument_more, prefixed_all}
use Rattle.c_calls.proofs.arguments.arguments_in.Goals as goal

pub loop-type_-preserved : goal.loop-type_-preserved
loop-type_-preserved c =
    let ts = c.args.parameters.now in
    let rest = c.pop.new.self.items in
    let x = c.in-Some.operand in
    let last : turned c.loop-type_.operands.items ≡ view_typed x ∷ turned rest = ap turned c.in-Some.ensures.items ∙ turned_last rest x in
    argument_more ts c.loop-type_.type_-index c.type_-item.result (view_typed x) (turned c.loop-type_.operands.items) (turned rest) c.in_ok-argument_in-in-Some.field-0
    c.loop-type_.arguments.items c.push.new.self.items (arguments_in (views ts) (turned c.args.operands.now.items)) (omega arith) c.type_-item.is last c.in_ok-argument_in-in-Some.ensures c.in_ok-push-in-Some.ensures.items c.loop-type_.invariant

pub returns : goal.returns
returns c =
    let before = c.loop-type_.arguments.items in
    let xs = turned c.loop-type_.operands.items in
    let none : drop c.loop-type_.type_-index c.args.parameters.now ≡ [] = drop_all c.loop-type_.type_-index c.args.parameters.now (omega arith) in
    sym c.loop-type_.invariant ∙ ap (λ (ts : List Ty). more_arguments before (arguments_in (views ts) xs)) none
    ∙ ap (λ (args : Arguments). Ok (args, xs)) (prefixed_all before)
