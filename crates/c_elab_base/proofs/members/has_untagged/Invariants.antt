use Rattle.std.proofs.Common.{◌≡◌, drop}
use Rattle.c_tree.specs.Declarations.{parts_of}
use Rattle.c_elab_base.specs.Specifiers.{has_untagged}
use Rattle.c_elab_base.proofs.members.has_untagged.Given as goal

abbrev pub invariant-loop-specifier : goal.invariant-loop-specifier
invariant-loop-specifier l = has_untagged (parts_of (drop l.specifier-index l.specifiers)) ≡ has_untagged (parts_of l.specifiers)
