use Rattle.c_tree.specs.Declarations.{view_full, full_depth}
use Rattle.c_parse_parts.proofs.declared.+nearest.Given as goal

abbrev pub decreases-nearest : goal.decreases-nearest
decreases-nearest l = full_depth (view_full l.declarator.now)
