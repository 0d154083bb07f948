use Rattle.std.proofs.Common.{◌≡◌, take}
use Rattle.c_tree.specs.Declarations.{parts_of, have_typedef}
use Rattle.c_parse_parts.proofs.declared.have_typedef.Given as goal

abbrev pub invariant-loop-specifier : goal.invariant-loop-specifier
invariant-loop-specifier l = l.types ≡ have_typedef (parts_of (take l.specifier-index l.specifiers))
