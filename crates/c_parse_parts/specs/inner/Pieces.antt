-- A suffix and a parameter of a declarator, apart from what stands behind them.
use Rattle.c_tree.specs.declared.declaration.DeclaratorSuffix.{DeclaratorSuffix}
use Rattle.c_tree.specs.declared.declaration.DeclaratorSuffix as suffixes
use Rattle.c_tree.specs.declared.declaration.Parameter.{Parameter}
use Rattle.c_tree.specs.Tree.{view}
use Rattle.c_tree.specs.Declarations.{Parts, Full, parts_of, view_full, view_parameters}
use Rattle.c_parse_parts.specs.inner.Reading.{OneSuffix, one_bounded, one_open, one_empty, one_void, one_takes}

abbrev pub suffix_of : DeclaratorSuffix → OneSuffix
suffix_of (suffixes.Bounded line e) = one_bounded line (view e.value)
suffix_of (suffixes.Open line) = one_open line
suffix_of (suffixes.Empty line) = one_empty line
suffix_of (suffixes.Void line) = one_void line
suffix_of (suffixes.Parameters' line shape ps variadic) = one_takes line (view_parameters ps) variadic

abbrev pub parameter_of : Parameter → Parts × Full
parameter_of p = (parts_of p.specifiers.items, view_full p.declarator)
