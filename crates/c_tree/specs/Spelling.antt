-- Which tokens spell an expression, a type name and a declarator (C11 6.5, 6.7.6, 6.7.7).
use Rattle.std.specs.Prelude.{◌≡◌, ◌≤◌, ◌+◌, ℕ, List, [], ◌∷◌, ◌++◌, Bool, true, false, ◌||◌, Option, Some, option_map}
use Rattle.c_token.specs.declared.token.Token.{Token}
use Rattle.c_token.specs.declared.token.Kind.{Kind}
use Rattle.c_token.specs.declared.token.Kind.TheVariants as kinds
use Rattle.c_token.specs.declared.token.Keyword.{Keyword}
use Rattle.c_token.specs.declared.token.Keyword.TheVariants as keywords
use Rattle.c_token.specs.declared.token.Mark.{Mark}
use Rattle.c_token.specs.declared.token.Mark.TheVariants as marks
use Rattle.c_token.specs.Spelling.{text_of}
use Rattle.c_tree.specs.declared.expr.BinaryOp.{BinaryOp}
use Rattle.c_tree.specs.declared.specifier.Qualifier.{Qualifier}
use Rattle.c_tree.specs.Tree.{TypePart, qualified, word, tagged, typedef_name, Tree, Trees, Declared, Suffixes, constant, character, strings, name, parens, unary, address, dereference, cast, sizeof_expr, sizeof_type, step, member, arrow, subscript, binary, choice, assign, comma, call, none, more, unnamed, named, inside, pointing, no_suffix, bounded, unbounded}
use Rattle.c_tree.specs.Tables.{strength_of, binary_mark, assign_mark, unary_mark, operand_level, step_mark, level_of, qualifier_keyword, word_keyword, tag_keyword}
use Rattle.c_tree.specs.Names.{Scope, is_type}

-- one token
pub record Single (P : Token → Type 0) (xs : List Token) : Type 0 where
  pub token : Token
  pub is : P token
  pub whole : xs ≡ token ∷ []

-- a token, and the tokens behind it
pub record Behind (P : Token → Type 0) (B : List Token → Type 0) (xs : List Token) : Type 0 where
  pub token : Token
  pub rest : List Token
  pub is : P token
  pub behind : B rest
  pub whole : xs ≡ token ∷ rest

-- two runs of tokens, one after the other
pub record Then (A B : List Token → Type 0) (xs : List Token) : Type 0 where
  pub left : List Token
  pub right : List Token
  pub first : A left
  pub second : B right
  pub whole : xs ≡ left ++ right

-- no token
abbrev pub Nothing : List Token → Type 0
Nothing xs = xs ≡ []

-- a mark on any line
abbrev pub IsMark : Mark → Token → Type 0
IsMark mark token = token.kind ≡ kinds.Mark mark

-- a keyword on any line
abbrev pub IsKeyword : Keyword → Token → Type 0
IsKeyword keyword token = token.kind ≡ kinds.Keyword keyword

-- a token of a kind on a line
pub record On (at : ℕ) (is : Kind) (token : Token) : Type 0 where
  pub kind : token.kind ≡ is
  pub line : token.line ≡ at

-- an identifier on a line with a text
pub record Names (bytes : List ℕ) (at : ℕ) (spelled : List ℕ) (token : Token) : Type 0 where
  pub kind : token.kind ≡ kinds.Identifier
  pub line : token.line ≡ at
  pub text : text_of bytes token ≡ spelled

-- a token of a kind on any line with a text
pub record Reads (bytes : List ℕ) (is : Kind) (spelled : List ℕ) (token : Token) : Type 0 where
  pub kind : token.kind ≡ is
  pub text : text_of bytes token ≡ spelled

-- the mark of `=`, or of an operator with `=`, on a line
pub record Assigns (at : ℕ) (op : Option BinaryOp) (token : Token) : Type 0 where
  pub kind : option_map kinds.Mark (assign_mark op) ≡ Some token.kind
  pub line : token.line ≡ at

-- a string literal on a line with a text
pub record Quotes (bytes : List ℕ) (at : ℕ) (spelled : List ℕ) (token : Token) : Type 0 where
  pub kind : token.kind ≡ kinds.String
  pub line : token.line ≡ at
  pub text : text_of bytes token ≡ spelled

-- string literals on any lines
abbrev pub SpellsOtherStrings : List ℕ → List (List ℕ) → List Token → Type 0
SpellsOtherStrings bytes [] = Nothing
SpellsOtherStrings bytes (part ∷ parts) = Behind (Reads bytes kinds.String part) (SpellsOtherStrings bytes parts)

-- string literals, the first on a line
abbrev pub SpellsStrings : List ℕ → ℕ → List (List ℕ) → List Token → Type 0
SpellsStrings bytes line [] = λ xs. ⊥
SpellsStrings bytes line (part ∷ parts) = Behind (Quotes bytes line part) (SpellsOtherStrings bytes parts)

abbrev pub SpellsTypePart : List ℕ → TypePart → List Token → Type 0
SpellsTypePart bytes (qualified line q) = Single (On line (kinds.Keyword (qualifier_keyword q)))
SpellsTypePart bytes (word line w) = Single (On line (kinds.Keyword (word_keyword w)))
SpellsTypePart bytes (tagged line kind n) = Behind (On line (kinds.Keyword (tag_keyword kind))) (Single (Reads bytes kinds.Identifier n))
SpellsTypePart bytes (typedef_name line n) = Single (Names bytes line n)

abbrev pub SpellsTypeParts : List ℕ → List TypePart → List Token → Type 0
SpellsTypeParts bytes [] = Nothing
SpellsTypeParts bytes (part ∷ parts) = Then (SpellsTypePart bytes part) (SpellsTypeParts bytes parts)

-- qualifiers on any lines
abbrev pub SpellsQualifiers : List Qualifier → List Token → Type 0
SpellsQualifiers [] = Nothing
SpellsQualifiers (q ∷ qs) = Behind (IsKeyword (qualifier_keyword q)) (SpellsQualifiers qs)

-- The tokens spell the tree. A name's text lies in the bytes.
abbrev mutual
  pub Spells : List ℕ → Tree → List Token → Type 0
  Spells bytes (constant line c) = Single (On line (kinds.Constant c))
  Spells bytes (character line c) = Single (On line (kinds.Character c))
  Spells bytes (strings line parts) = SpellsStrings bytes line parts
  Spells bytes (name line n) = Single (Names bytes line n)
  Spells bytes (parens line e) = Behind (On line (kinds.Mark marks.LeftParenthesis)) (Then (Spells bytes e) (Single (IsMark marks.RightParenthesis)))
  Spells bytes (unary line op e) = Behind (On line (kinds.Mark (unary_mark op))) (Spells bytes e)
  Spells bytes (address line e) = Behind (On line (kinds.Mark marks.Ampersand)) (Spells bytes e)
  Spells bytes (dereference line e) = Behind (On line (kinds.Mark marks.Star)) (Spells bytes e)
  Spells bytes (cast line parts d e) =
      Behind (On line (kinds.Mark marks.LeftParenthesis))
      (Then (SpellsTypeParts bytes parts) (Then (SpellsDeclared bytes d) (Behind (IsMark marks.RightParenthesis) (Spells bytes e))))
  Spells bytes (sizeof_expr line e) = Behind (On line (kinds.Keyword keywords.Sizeof)) (Spells bytes e)
  Spells bytes (sizeof_type line parts d) =
      Behind (On line (kinds.Keyword keywords.Sizeof)) (Behind (IsMark marks.LeftParenthesis)
      (Then (SpellsTypeParts bytes parts) (Then (SpellsDeclared bytes d) (Single (IsMark marks.RightParenthesis)))))
  Spells bytes (step line op e) = Then (Spells bytes e) (Single (On line (kinds.Mark (step_mark op))))
  Spells bytes (member line e n) = Then (Spells bytes e) (Behind (On line (kinds.Mark marks.Dot)) (Single (Reads bytes kinds.Identifier n)))
  Spells bytes (arrow line e n) = Then (Spells bytes e) (Behind (On line (kinds.Mark marks.Arrow)) (Single (Reads bytes kinds.Identifier n)))
  Spells bytes (subscript line a b) =
      Then (Spells bytes a) (Behind (On line (kinds.Mark marks.LeftBracket)) (Then (Spells bytes b) (Single (IsMark marks.RightBracket))))
  Spells bytes (binary line op a b) = Then (Spells bytes a) (Behind (On line (kinds.Mark (binary_mark op))) (Spells bytes b))
  Spells bytes (choice line a b c) =
      Then (Spells bytes a) (Behind (On line (kinds.Mark marks.Question))
      (Then (Spells bytes b) (Behind (IsMark marks.Colon) (Spells bytes c))))
  Spells bytes (assign line op a b) = Then (Spells bytes a) (Behind (Assigns line op) (Spells bytes b))
  Spells bytes (comma line a b) = Then (Spells bytes a) (Behind (On line (kinds.Mark marks.Comma)) (Spells bytes b))
  Spells bytes (call f args) = Then (Spells bytes f) (Behind (IsMark marks.LeftParenthesis) (SpellsArguments bytes args))

  -- arguments with commas between them, and the parenthesis that closes them
  pub SpellsArguments : List ℕ → Trees → List Token → Type 0
  SpellsArguments bytes none = Single (IsMark marks.RightParenthesis)
  SpellsArguments bytes (more first rest) = Then (Spells bytes first) (SpellsRest bytes rest)

  -- the arguments behind the first
  pub SpellsRest : List ℕ → Trees → List Token → Type 0
  SpellsRest bytes none = Single (IsMark marks.RightParenthesis)
  SpellsRest bytes (more first rest) = Behind (IsMark marks.Comma) (Then (Spells bytes first) (SpellsRest bytes rest))

  pub SpellsDeclared : List ℕ → Declared → List Token → Type 0
  SpellsDeclared bytes (unnamed suffixes) = SpellsSuffixes bytes suffixes
  SpellsDeclared bytes (named line n suffixes) = Behind (Names bytes line n) (SpellsSuffixes bytes suffixes)
  SpellsDeclared bytes (inside line d suffixes) =
      Behind (On line (kinds.Mark marks.LeftParenthesis))
      (Then (SpellsDeclared bytes d) (Behind (IsMark marks.RightParenthesis) (SpellsSuffixes bytes suffixes)))
  SpellsDeclared bytes (pointing line qs d) = Behind (On line (kinds.Mark marks.Star)) (Then (SpellsQualifiers qs) (SpellsDeclared bytes d))

  pub SpellsSuffixes : List ℕ → Suffixes → List Token → Type 0
  SpellsSuffixes bytes no_suffix = Nothing
  SpellsSuffixes bytes (bounded line e rest) =
      Behind (On line (kinds.Mark marks.LeftBracket)) (Then (Spells bytes e) (Behind (IsMark marks.RightBracket) (SpellsSuffixes bytes rest)))
  SpellsSuffixes bytes (unbounded line rest) =
      Behind (On line (kinds.Mark marks.LeftBracket)) (Behind (IsMark marks.RightBracket) (SpellsSuffixes bytes rest))

-- A type is specified: by a word, a tag or the name of a typedef.
abbrev pub specifies_type : TypePart → Bool
specifies_type (qualified line q) = false
specifies_type (word line w) = true
specifies_type (tagged line kind n) = true
specifies_type (typedef_name line n) = true

-- A name among specifiers is that of a type, and no type is specified before it.
abbrev pub IsWellTypePart : Scope → Bool → TypePart → Type 0
IsWellTypePart names before (qualified line q) = Unit {0}
IsWellTypePart names before (word line w) = Unit {0}
IsWellTypePart names before (tagged line kind n) = Unit {0}
IsWellTypePart names before (typedef_name line n) = (before ≡ false) × (is_type names n ≡ true)

abbrev pub AreWellTypeParts : Scope → Bool → List TypePart → Type 0
AreWellTypeParts names before [] = Unit {0}
AreWellTypeParts names before (part ∷ parts) = IsWellTypePart names before part × AreWellTypeParts names (before || specifies_type part) parts

-- one specifier at least
abbrev pub AreSpecifiers : Scope → List TypePart → Type 0
AreSpecifiers names [] = ⊥
AreSpecifiers names (part ∷ parts) = AreWellTypeParts names false (part ∷ parts)

abbrev pub is_empty : Declared → Bool
is_empty (unnamed no_suffix) = true
is_empty (unnamed (bounded line e rest)) = false
is_empty (unnamed (unbounded line rest)) = false
is_empty (named line n suffixes) = false
is_empty (inside line d suffixes) = false
is_empty (pointing line qs d) = false

-- A declarator declares a name; an abstract one has none.
abbrev pub has_name : Declared → Bool
has_name (unnamed suffixes) = false
has_name (named line n suffixes) = true
has_name (inside line d suffixes) = has_name d
has_name (pointing line qs d) = has_name d

-- Each operand is of a level that its place permits (C11 6.5): binary operators group to the left, assignments and `?:` to
-- the right. Names in expressions aren't those of types. A declarator in parentheses isn't empty, and a bound is of the
-- level of `?:`. No file has forms over pointers so far.
abbrev mutual
  pub IsWell : Scope → Tree → Type 0
  IsWell names (constant line c) = Unit {0}
  IsWell names (character line c) = Unit {0}
  IsWell names (strings line parts) = Unit {0}
  IsWell names (name line n) = is_type names n ≡ false
  IsWell names (parens line e) = (1 ≤ level_of e) × IsWell names e
  IsWell names (unary line op e) = (operand_level op ≤ level_of e) × IsWell names e
  IsWell names (address line e) = ⊥
  IsWell names (dereference line e) = ⊥
  IsWell names (cast line parts d e) = AreSpecifiers names parts × (has_name d ≡ false) × IsWellDeclared names d × (14 ≤ level_of e) × IsWell names e
  IsWell names (sizeof_expr line e) = (15 ≤ level_of e) × IsWell names e
  IsWell names (sizeof_type line parts d) = AreSpecifiers names parts × (has_name d ≡ false) × IsWellDeclared names d
  IsWell names (step line op e) = (16 ≤ level_of e) × IsWell names e
  IsWell names (member line e n) = (16 ≤ level_of e) × IsWell names e
  IsWell names (arrow line e n) = ⊥
  IsWell names (subscript line a b) = ⊥
  IsWell names (binary line op a b) = (strength_of op ≤ level_of a) × (strength_of op + 1 ≤ level_of b) × IsWell names a × IsWell names b
  IsWell names (choice line a b c) = (4 ≤ level_of a) × (1 ≤ level_of b) × (3 ≤ level_of c) × IsWell names a × IsWell names b × IsWell names c
  IsWell names (assign line op a b) = (15 ≤ level_of a) × (2 ≤ level_of b) × IsWell names a × IsWell names b
  IsWell names (comma line a b) = (1 ≤ level_of a) × (2 ≤ level_of b) × IsWell names a × IsWell names b
  IsWell names (call f args) = (16 ≤ level_of f) × IsWell names f × AreWell names args

  pub AreWell : Scope → Trees → Type 0
  AreWell names none = Unit {0}
  AreWell names (more first rest) = (2 ≤ level_of first) × IsWell names first × AreWell names rest

  pub IsWellDeclared : Scope → Declared → Type 0
  IsWellDeclared names (unnamed suffixes) = AreWellSuffixes names suffixes
  IsWellDeclared names (named line n suffixes) = AreWellSuffixes names suffixes
  IsWellDeclared names (inside line d suffixes) = (is_empty d ≡ false) × IsWellDeclared names d × AreWellSuffixes names suffixes
  IsWellDeclared names (pointing line qs d) = ⊥

  pub AreWellSuffixes : Scope → Suffixes → Type 0
  AreWellSuffixes names no_suffix = Unit {0}
  AreWellSuffixes names (bounded line e rest) = (3 ≤ level_of e) × IsWell names e × AreWellSuffixes names rest
  AreWellSuffixes names (unbounded line rest) = AreWellSuffixes names rest
