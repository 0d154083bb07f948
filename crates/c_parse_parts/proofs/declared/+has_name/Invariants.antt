use Rattle.c_tree.specs.Declarations.{view_full, full_depth}
use Rattle.c_parse_parts.proofs.declared.+has_name.Given as goal

abbrev pub decreases-has_name : goal.decreases-has_name
decreases-has_name l = full_depth (view_full l.declarator.now)
