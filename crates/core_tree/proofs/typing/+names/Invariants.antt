use Rattle.std.proofs.Common.{◌≡◌, drop}
use Rattle.core_tree.specs.Trees.{parts_of, arguments_of}
use Rattle.core_tree.specs.Typed.{parts_name, arguments_name}
use Rattle.core_tree.proofs.typing.+names.Given as goal

-- the parts that are left decide
abbrev pub invariant-parts_name-loop-part : goal.invariant-parts_name-loop-part
invariant-parts_name-loop-part l = parts_name l.variable (parts_of (drop l.part-index l.parts)) ≡ parts_name l.variable (parts_of l.parts)

-- the arguments that are left decide
abbrev pub invariant-arguments_name-loop-argument : goal.invariant-arguments_name-loop-argument
invariant-arguments_name-loop-argument l = arguments_name l.variable (arguments_of (drop l.argument-index l.arguments)) ≡ arguments_name l.variable (arguments_of l.arguments)
