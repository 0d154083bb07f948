-- What stands in a block, apart from what stands behind it.
use Rattle.c_tree.specs.declared.statement.Item.{Item}
use Rattle.c_tree.specs.declared.statement.Item as items
use Rattle.c_tree.specs.Declarations.{parts_of, declarators_of}
use Rattle.c_tree.specs.Statements.{view_statement}
use Rattle.c_parse_statements.specs.inner.Reading.{Piece, declaration, statement}

abbrev pub piece_of : Item → Piece
piece_of (items.Declares d) = declaration (parts_of d.value.specifiers.items) (declarators_of d.value.declarators.items)
piece_of (items.Does' p s) = statement (view_statement s)
