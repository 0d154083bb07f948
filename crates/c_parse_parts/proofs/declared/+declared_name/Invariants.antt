use Rattle.c_tree.specs.Declarations.{view_full, full_depth}
use Rattle.c_parse_parts.proofs.declared.+declared_name.Given as goal

abbrev pub decreases-declared_name : goal.decreases-declared_name
decreases-declared_name l = full_depth (view_full l.declarator.now)
