-- What a function found among tokens, and what reads in its frame.
use Rattle.std.specs.Prelude.{◌≡◌, ◌≤◌, ℕ, List, length, map, Option, Some}
use Rattle.c_token.specs.declared.token.Token.{Token}
use Rattle.c_tree.specs.Tree.{TypePart, Tree, Trees, Declared, Suffixes, view, views_of, view_type_part, view_declarator, suffixes_of}
use Rattle.c_tree.specs.Names.{Scope}
use Rattle.c_parse_expr.specs.declared.frames.Frame.{Frame}
use Rattle.c_parse_expr.specs.declared.nodes.Found.{Found}
use Rattle.c_parse_expr.specs.declared.nodes.Items.{Items}
use Rattle.c_parse_expr.specs.declared.nodes.FoundDeclarator.{FoundDeclarator}
use Rattle.c_parse_expr.specs.declared.nodes.FoundType.{FoundType}
use Rattle.c_parse_expr.specs.declared.nodes.FoundSuffix.{FoundSuffix}
use Rattle.c_parse_expr.specs.declared.nodes.FoundSuffixes.{FoundSuffixes}
use Rattle.c_parse_expr.specs.inner.Reading.{Reader, DeclaredReader, reader, declared_at, pair_of}

-- What was found tells its levels, which are at most so many, and the tokens behind it are no more than all.
pub record IsFound (told levels most : ℕ) (tokens rest : List Token) : Type 0 where
  pub height : told ≡ levels
  pub low : told ≤ most
  pub shorter : length rest ≤ length tokens

-- a tree, and the tokens behind it
abbrev pub tree_found : Found → Tree × List Token
tree_found x = (view x.tree.value, x.rest.now)

abbrev pub arguments_found : Items → Trees × List Token
arguments_found x = (views_of x.items.items, x.rest.now)

abbrev pub declarator_found : FoundDeclarator → Declared × List Token
declarator_found x = (view_declarator x.declarator, x.rest.now)

abbrev pub type_found : FoundType → (List TypePart × Declared) × List Token
type_found x = ((map view_type_part x.type_name.value.specifiers.items, view_declarator x.type_name.value.declarator), x.rest.now)

abbrev pub suffix_found : FoundSuffix → Option ((ℕ × Option Tree) × Unit {0} × List Token)
suffix_found x = Some (pair_of x.suffix, tt, x.rest.now)

abbrev pub suffixes_found : FoundSuffixes → Suffixes × List Token
suffixes_found x = (suffixes_of x.suffixes.items, x.rest.now)

-- reads a tree, with the bytes and the levels of a frame
abbrev pub trees_in : Frame → Scope → Reader
trees_in frame names = reader frame.bytes.now names frame.levels

-- reads a declarator
abbrev pub declarators_in : Frame → Scope → DeclaredReader
declarators_in frame names = declared_at frame.bytes.now names frame.levels
