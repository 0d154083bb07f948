use Rattle.std.proofs.Common.{◌≡◌, [], drop}
use Rattle.core_tree.specs.Trees.{parts_of}
use Rattle.c_elab_type.specs.Initializers.{parts_bytes}
use Rattle.c_elab_type.proofs.constant_bytes.+initial_bytes.Given as goal

-- the parts that are left say the rest
abbrev pub invariant-parts_bytes-loop-part : goal.invariant-parts_bytes-loop-part
invariant-parts_bytes-loop-part l = parts_bytes (parts_of (drop l.part-index l.parts)) l.known.items ≡ parts_bytes (parts_of l.parts) []
