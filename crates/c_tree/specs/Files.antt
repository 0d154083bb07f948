-- Which tokens spell declarations, statements and a file, and what is well formed (C11 6.7, 6.8, 6.9).
use Rattle.std.specs.Prelude.{◌≡◌, ◌≢◌, ◌≤◌, ℕ, List, [], ◌∷◌, Bool, true, false, ◌||◌, ◌&&◌, Option, Some, None}
use Rattle.std.specs.Prelude.{◌⊎◌}
use Rattle.c_token.specs.declared.token.Token.{Token}
use Rattle.c_token.specs.declared.token.Kind.TheVariants as kinds
use Rattle.c_token.specs.declared.token.Keyword.TheVariants as keywords
use Rattle.c_token.specs.declared.token.Mark.{Mark}
use Rattle.c_token.specs.declared.token.Mark.TheVariants as marks
use Rattle.c_tree.specs.declared.specifier.TypeWord.{TypeWord}
use Rattle.c_tree.specs.declared.specifier.TypeWord.TheVariants as type_words
use Rattle.c_tree.specs.Tree.{Tree, qualified, word, tagged, typedef_name}
use Rattle.c_tree.specs.Tables.{level_of, storage_keyword, function_keyword, record_keyword}
use Rattle.c_tree.specs.Names.{Scope, is_type, built_in_names}
use Rattle.c_tree.specs.Spelling.{Single, Behind, Then, Nothing, IsMark, IsKeyword, On, Names, Reads, SpellsTypePart, SpellsQualifiers, Spells, IsWellTypePart, IsWell}
use Rattle.c_tree.specs.Declarations.{Enumerated, Part, type_part, storage, function, structure, enumeration, Parts, no_part, part, Members, no_member, members, Full, full_unnamed, full_named, full_inside, full_pointing, Fulls, no_full, full, FullSuffixes, full_end, full_bounded, full_open, full_empty, full_void, full_parameters, Parameters, no_parameter, parameter, Initial, initial, braces, Initials, no_initial, initials, Declarators, none_declared, declarator, name_of, full_has_name, is_function, with_part, with_parts, with_named, with_function, with_body, with_declaration, have_typedef, specifies, specify}
use Rattle.c_tree.specs.Statements.{Statement, block, if_then, if_else, evaluate, return_nothing, return_value, empty, while_loop, do_loop, for_loop, for_declared, switch_on, case_of, default_of, labelled, goto_label, break_off, continue_on, Items, done, declares, does, Externals, no_more, declared, defines, file_depth}

-- a mark that closes a list, with a comma before it or not
abbrev pub Closes : Mark → List Token → Type 0
Closes mark xs = Single (IsMark mark) xs ⊎ Behind (IsMark marks.Comma) (Single (IsMark mark)) xs

-- no value, or `=` and an expression
abbrev pub SpellsValue : List ℕ → Option Tree → List Token → Type 0
SpellsValue bytes None = Nothing
SpellsValue bytes (Some e) = Behind (IsMark marks.Equal) (Spells bytes e)

abbrev pub SpellsEnumerator : List ℕ → Enumerated → List Token → Type 0
SpellsEnumerator bytes e = Behind (Names bytes e.line e.name) (SpellsValue bytes e.value)

-- the enumerators behind the first, and the brace that closes them
abbrev pub SpellsOtherEnumerators : List ℕ → List Enumerated → List Token → Type 0
SpellsOtherEnumerators bytes [] = Closes marks.RightBrace
SpellsOtherEnumerators bytes (e ∷ es) = Behind (IsMark marks.Comma) (Then (SpellsEnumerator bytes e) (SpellsOtherEnumerators bytes es))

-- enumerators with commas between them, and the brace that closes them (C11 6.7.2.2)
abbrev pub SpellsEnumerators : List ℕ → List Enumerated → List Token → Type 0
SpellsEnumerators bytes [] = λ xs. ⊥
SpellsEnumerators bytes (e ∷ es) = Then (SpellsEnumerator bytes e) (SpellsOtherEnumerators bytes es)

-- a tag, or nothing
abbrev pub SpellsTag : List ℕ → Option (List ℕ) → List Token → Type 0
SpellsTag bytes None = Nothing
SpellsTag bytes (Some n) = Single (Reads bytes kinds.Identifier n)

-- specifiers (C11 6.7) and declarators (C11 6.7.6)
abbrev mutual
  pub SpellsPart : List ℕ → Part → List Token → Type 0
  SpellsPart bytes (type_part p) = SpellsTypePart bytes p
  SpellsPart bytes (storage line class) = Single (On line (kinds.Keyword (storage_keyword class)))
  SpellsPart bytes (function line w) = Single (On line (kinds.Keyword (function_keyword w)))
  SpellsPart bytes (structure line kind tag ms) =
      Behind (On line (kinds.Keyword (record_keyword kind))) (Then (SpellsTag bytes tag)
      (Behind (IsMark marks.LeftBrace) (SpellsMemberDeclarations bytes ms)))
  SpellsPart bytes (enumeration line tag es) =
      Behind (On line (kinds.Keyword keywords.Enum)) (Then (SpellsTag bytes tag)
      (Behind (IsMark marks.LeftBrace) (SpellsEnumerators bytes es)))

  pub SpellsParts : List ℕ → Parts → List Token → Type 0
  SpellsParts bytes no_part = Nothing
  SpellsParts bytes (part first rest) = Then (SpellsPart bytes first) (SpellsParts bytes rest)

  -- declarations of members, and the brace that closes them
  pub SpellsMemberDeclarations : List ℕ → Members → List Token → Type 0
  SpellsMemberDeclarations bytes no_member = Single (IsMark marks.RightBrace)
  SpellsMemberDeclarations bytes (members parts ds rest) =
      Then (SpellsParts bytes parts) (Then (SpellsMembers bytes ds) (SpellsMemberDeclarations bytes rest))

  -- the declarators of members with commas between them, and the `;` (C11 6.7.2.1)
  pub SpellsMembers : List ℕ → Fulls → List Token → Type 0
  SpellsMembers bytes no_full = Single (IsMark marks.Semicolon)
  SpellsMembers bytes (full d ds) = Then (SpellsFull bytes d) (SpellsOtherMembers bytes ds)

  -- the declarators behind the first, with a comma before each, and the `;`
  pub SpellsOtherMembers : List ℕ → Fulls → List Token → Type 0
  SpellsOtherMembers bytes no_full = Single (IsMark marks.Semicolon)
  SpellsOtherMembers bytes (full d ds) = Behind (IsMark marks.Comma) (Then (SpellsFull bytes d) (SpellsOtherMembers bytes ds))

  pub SpellsFull : List ℕ → Full → List Token → Type 0
  SpellsFull bytes (full_unnamed suffixes) = SpellsFullSuffixes bytes suffixes
  SpellsFull bytes (full_named line n suffixes) = Behind (Names bytes line n) (SpellsFullSuffixes bytes suffixes)
  SpellsFull bytes (full_inside line d suffixes) =
      Behind (On line (kinds.Mark marks.LeftParenthesis))
      (Then (SpellsFull bytes d) (Behind (IsMark marks.RightParenthesis) (SpellsFullSuffixes bytes suffixes)))
  SpellsFull bytes (full_pointing line qs d) = Behind (On line (kinds.Mark marks.Star)) (Then (SpellsQualifiers qs) (SpellsFull bytes d))

  pub SpellsFullSuffixes : List ℕ → FullSuffixes → List Token → Type 0
  SpellsFullSuffixes bytes full_end = Nothing
  SpellsFullSuffixes bytes (full_bounded line e rest) =
      Behind (On line (kinds.Mark marks.LeftBracket)) (Then (Spells bytes e) (Behind (IsMark marks.RightBracket) (SpellsFullSuffixes bytes rest)))
  SpellsFullSuffixes bytes (full_open line rest) =
      Behind (On line (kinds.Mark marks.LeftBracket)) (Behind (IsMark marks.RightBracket) (SpellsFullSuffixes bytes rest))
  SpellsFullSuffixes bytes (full_empty line rest) =
      Behind (On line (kinds.Mark marks.LeftParenthesis)) (Behind (IsMark marks.RightParenthesis) (SpellsFullSuffixes bytes rest))
  SpellsFullSuffixes bytes (full_void line rest) =
      Behind (On line (kinds.Mark marks.LeftParenthesis)) (Behind (IsKeyword keywords.Void)
      (Behind (IsMark marks.RightParenthesis) (SpellsFullSuffixes bytes rest)))
  SpellsFullSuffixes bytes (full_parameters line ps variadic rest) =
      Behind (On line (kinds.Mark marks.LeftParenthesis)) (Then (SpellsParameters bytes ps variadic) (SpellsFullSuffixes bytes rest))

  -- parameters with commas between them, and the parenthesis that closes them
  pub SpellsParameters : List ℕ → Parameters → Bool → List Token → Type 0
  SpellsParameters bytes no_parameter variadic = λ xs. ⊥
  SpellsParameters bytes (parameter parts d rest) variadic =
      Then (SpellsParts bytes parts) (Then (SpellsFull bytes d) (SpellsOtherParameters bytes rest variadic))

  -- the parameters behind the first, and `...` behind the last
  pub SpellsOtherParameters : List ℕ → Parameters → Bool → List Token → Type 0
  SpellsOtherParameters bytes no_parameter false = Single (IsMark marks.RightParenthesis)
  SpellsOtherParameters bytes no_parameter true =
      Behind (IsMark marks.Comma) (Behind (IsMark marks.Ellipsis) (Single (IsMark marks.RightParenthesis)))
  SpellsOtherParameters bytes (parameter parts d rest) variadic =
      Behind (IsMark marks.Comma) (Then (SpellsParts bytes parts) (Then (SpellsFull bytes d) (SpellsOtherParameters bytes rest variadic)))

-- an initializer (C11 6.7.9)
abbrev mutual
  pub SpellsInitial : List ℕ → Initial → List Token → Type 0
  SpellsInitial bytes (initial e) = Spells bytes e
  SpellsInitial bytes (braces line items) = Behind (On line (kinds.Mark marks.LeftBrace)) (SpellsInitials bytes items)

  -- initializers with commas between them, and the brace that closes them
  pub SpellsInitials : List ℕ → Initials → List Token → Type 0
  SpellsInitials bytes no_initial = λ xs. ⊥
  SpellsInitials bytes (initials first rest) = Then (SpellsInitial bytes first) (SpellsOtherInitials bytes rest)

  -- the initializers behind the first
  pub SpellsOtherInitials : List ℕ → Initials → List Token → Type 0
  SpellsOtherInitials bytes no_initial = Closes marks.RightBrace
  SpellsOtherInitials bytes (initials first rest) = Behind (IsMark marks.Comma) (Then (SpellsInitial bytes first) (SpellsOtherInitials bytes rest))

-- no initializer, or `=` and one
abbrev pub SpellsInitializer : List ℕ → Option Initial → List Token → Type 0
SpellsInitializer bytes None = Nothing
SpellsInitializer bytes (Some i) = Behind (IsMark marks.Equal) (SpellsInitial bytes i)

-- the declarators behind the first, with a comma before each, and the `;`
abbrev pub SpellsOthers : List ℕ → Declarators → List Token → Type 0
SpellsOthers bytes none_declared = Single (IsMark marks.Semicolon)
SpellsOthers bytes (declarator d i rest) =
    Behind (IsMark marks.Comma) (Then (SpellsFull bytes d) (Then (SpellsInitializer bytes i) (SpellsOthers bytes rest)))

-- declarators with commas between them, and the `;` (C11 6.7)
abbrev pub SpellsDeclarators : List ℕ → Declarators → List Token → Type 0
SpellsDeclarators bytes none_declared = Single (IsMark marks.Semicolon)
SpellsDeclarators bytes (declarator d i rest) =
    Then (SpellsFull bytes d) (Then (SpellsInitializer bytes i) (SpellsOthers bytes rest))

abbrev pub SpellsDeclaration : List ℕ → Parts → Declarators → List Token → Type 0
SpellsDeclaration bytes parts ds = Then (SpellsParts bytes parts) (SpellsDeclarators bytes ds)

-- no expression, or one
abbrev pub SpellsMaybe : List ℕ → Option Tree → List Token → Type 0
SpellsMaybe bytes None = Nothing
SpellsMaybe bytes (Some e) = Spells bytes e

-- `test; last)` of a `for`, and what follows it
abbrev pub SpellsHeader : List ℕ → Option Tree → Option Tree → (List Token → Type 0) → List Token → Type 0
SpellsHeader bytes test last P =
    Then (SpellsMaybe bytes test) (Behind (IsMark marks.Semicolon) (Then (SpellsMaybe bytes last) (Behind (IsMark marks.RightParenthesis) P)))

-- `(test)` and what follows it
abbrev pub SpellsTest : List ℕ → Tree → (List Token → Type 0) → List Token → Type 0
SpellsTest bytes test P = Behind (IsMark marks.LeftParenthesis) (Then (Spells bytes test) (Behind (IsMark marks.RightParenthesis) P))

abbrev mutual
  pub SpellsStatement : List ℕ → Statement → List Token → Type 0
  SpellsStatement bytes (block line is) = Behind (On line (kinds.Mark marks.LeftBrace)) (SpellsItems bytes is)
  SpellsStatement bytes (if_then line test s) =
      Behind (On line (kinds.Keyword keywords.If)) (Behind (IsMark marks.LeftParenthesis) (Then (Spells bytes test)
      (Behind (IsMark marks.RightParenthesis) (SpellsStatement bytes s))))
  SpellsStatement bytes (if_else line test s u) =
      Behind (On line (kinds.Keyword keywords.If)) (Behind (IsMark marks.LeftParenthesis) (Then (Spells bytes test)
      (Behind (IsMark marks.RightParenthesis) (Then (SpellsStatement bytes s) (Behind (IsKeyword keywords.Else) (SpellsStatement bytes u))))))
  SpellsStatement bytes (evaluate e) = Then (Spells bytes e) (Single (IsMark marks.Semicolon))
  SpellsStatement bytes (return_nothing line) = Behind (On line (kinds.Keyword keywords.Return)) (Single (IsMark marks.Semicolon))
  SpellsStatement bytes (return_value line e) =
      Behind (On line (kinds.Keyword keywords.Return)) (Then (Spells bytes e) (Single (IsMark marks.Semicolon)))
  SpellsStatement bytes (empty line) = Single (On line (kinds.Mark marks.Semicolon))
  SpellsStatement bytes (while_loop line test s) = Behind (On line (kinds.Keyword keywords.While)) (SpellsTest bytes test (SpellsStatement bytes s))
  SpellsStatement bytes (do_loop line s test) =
      Behind (On line (kinds.Keyword keywords.Do)) (Then (SpellsStatement bytes s)
      (Behind (IsKeyword keywords.While) (SpellsTest bytes test (Single (IsMark marks.Semicolon)))))
  SpellsStatement bytes (for_loop line first test last s) =
      Behind (On line (kinds.Keyword keywords.For)) (Behind (IsMark marks.LeftParenthesis) (Then (SpellsMaybe bytes first)
      (Behind (IsMark marks.Semicolon) (SpellsHeader bytes test last (SpellsStatement bytes s)))))
  SpellsStatement bytes (for_declared line parts ds test last s) =
      Behind (On line (kinds.Keyword keywords.For)) (Behind (IsMark marks.LeftParenthesis) (Then (SpellsDeclaration bytes parts ds)
      (SpellsHeader bytes test last (SpellsStatement bytes s))))
  SpellsStatement bytes (switch_on line value s) = Behind (On line (kinds.Keyword keywords.Switch)) (SpellsTest bytes value (SpellsStatement bytes s))
  SpellsStatement bytes (case_of line value s) =
      Behind (On line (kinds.Keyword keywords.Case)) (Then (Spells bytes value) (Behind (IsMark marks.Colon) (SpellsStatement bytes s)))
  SpellsStatement bytes (default_of line s) = Behind (On line (kinds.Keyword keywords.Default)) (Behind (IsMark marks.Colon) (SpellsStatement bytes s))
  SpellsStatement bytes (labelled line n s) = Behind (Names bytes line n) (Behind (IsMark marks.Colon) (SpellsStatement bytes s))
  SpellsStatement bytes (goto_label line n) =
      Behind (On line (kinds.Keyword keywords.Goto)) (Behind (Reads bytes kinds.Identifier n) (Single (IsMark marks.Semicolon)))
  SpellsStatement bytes (break_off line) = Behind (On line (kinds.Keyword keywords.Break)) (Single (IsMark marks.Semicolon))
  SpellsStatement bytes (continue_on line) = Behind (On line (kinds.Keyword keywords.Continue)) (Single (IsMark marks.Semicolon))

  -- the items of a block, and the brace that closes it
  pub SpellsItems : List ℕ → Items → List Token → Type 0
  SpellsItems bytes done = Single (IsMark marks.RightBrace)
  SpellsItems bytes (declares parts ds rest) = Then (SpellsDeclaration bytes parts ds) (SpellsItems bytes rest)
  SpellsItems bytes (does s rest) = Then (SpellsStatement bytes s) (SpellsItems bytes rest)

-- specifiers, a declarator and the body
abbrev pub SpellsDefinition : List ℕ → Parts → Full → Statement → List Token → Type 0
SpellsDefinition bytes parts d body = Then (SpellsParts bytes parts) (Then (SpellsFull bytes d) (SpellsStatement bytes body))

abbrev pub SpellsFile : List ℕ → Externals → List Token → Type 0
SpellsFile bytes no_more = Nothing
SpellsFile bytes (declared parts ds rest) = Then (SpellsDeclaration bytes parts ds) (SpellsFile bytes rest)
SpellsFile bytes (defines parts d body rest) = Then (SpellsDefinition bytes parts d body) (SpellsFile bytes rest)

abbrev pub IsWellValue : Scope → Option Tree → Type 0
IsWellValue names None = Unit {0}
IsWellValue names (Some e) = (3 ≤ level_of e) × IsWell names e

-- Each enumerator is declared behind its own value.
abbrev pub AreWellEnumerators : Scope → List Enumerated → Type 0
AreWellEnumerators names [] = Unit {0}
AreWellEnumerators names (e ∷ es) = IsWellValue names e.value × AreWellEnumerators ((e.name, false) ∷ names) es

-- A name at the front of the first declarator isn't that of a type, where no type is specified before it: it would be a
-- specifier.
abbrev pub FrontIsNoType : Scope → Bool → Full → Type 0
FrontIsNoType names before (full_unnamed suffixes) = Unit {0}
FrontIsNoType names before (full_named line n suffixes) = before ≡ false → is_type names n ≡ false
FrontIsNoType names before (full_inside line d suffixes) = Unit {0}
FrontIsNoType names before (full_pointing line qs d) = Unit {0}

abbrev pub FrontIsNoTypeOfMembers : Scope → Bool → Fulls → Type 0
FrontIsNoTypeOfMembers names before no_full = Unit {0}
FrontIsNoTypeOfMembers names before (full d ds) = FrontIsNoType names before d

-- In the declarator of a parameter a typedef's name directly behind a parenthesis is a type: that of a parameter.
abbrev pub OpensNoType : Scope → Bool → Full → Type 0
OpensNoType names false d = Unit {0}
OpensNoType names true d = FrontIsNoType names false d

abbrev pub full_is_empty : Full → Bool
full_is_empty (full_unnamed full_end) = true
full_is_empty (full_unnamed (full_bounded line e rest)) = false
full_is_empty (full_unnamed (full_open line rest)) = false
full_is_empty (full_unnamed (full_empty line rest)) = false
full_is_empty (full_unnamed (full_void line rest)) = false
full_is_empty (full_unnamed (full_parameters line ps variadic rest)) = false
full_is_empty (full_named line n suffixes) = false
full_is_empty (full_inside line d suffixes) = false
full_is_empty (full_pointing line qs d) = false

abbrev pub is_void : TypeWord → Bool
is_void type_words.«Void» = true
is_void type_words.Char = false
is_void type_words.Short = false
is_void type_words.Int = false
is_void type_words.Long = false
is_void type_words.Signed = false
is_void type_words.Unsigned = false
is_void type_words.«Bool» = false

abbrev pub is_void_part : Part → Bool
is_void_part (type_part (qualified line q)) = false
is_void_part (type_part (word line w)) = is_void w
is_void_part (type_part (tagged line kind n)) = false
is_void_part (type_part (typedef_name line n)) = false
is_void_part (storage line class) = false
is_void_part (function line w) = false
is_void_part (structure line kind tag ms) = false
is_void_part (enumeration line tag es) = false

abbrev pub are_void : Parts → Bool
are_void no_part = false
are_void (part first no_part) = is_void_part first
are_void (part first (part second rest)) = false

-- one parameter, spelled `void`
abbrev pub is_void_alone : Parameters → Bool → Bool
is_void_alone no_parameter variadic = false
is_void_alone (parameter parts d no_parameter) false = are_void parts && full_is_empty d
is_void_alone (parameter parts d no_parameter) true = false
is_void_alone (parameter parts d (parameter others e rest)) variadic = false

-- members have no storage class and no function specifier
abbrev pub is_of_member : Part → Bool
is_of_member (type_part p) = true
is_of_member (storage line class) = false
is_of_member (function line w) = false
is_of_member (structure line kind tag ms) = true
is_of_member (enumeration line tag es) = true

abbrev pub are_of_member : Parts → Type 0
are_of_member no_part = Unit {0}
are_of_member (part first rest) = (is_of_member first ≡ true) × are_of_member rest

-- Specifiers from left to right: a typedef name stands only where no type is specified before it, and names that are
-- declared within one hold in those behind it. A declarator in parentheses isn't empty, and a bound is of the level of `?:`.
-- Names of parameters hold in the later parameters, to the parenthesis that closes them; `(void)` is no parameter.
abbrev mutual
  pub IsWellPart : Scope → Bool → Part → Type 0
  IsWellPart names before (type_part p) = IsWellTypePart names before p
  IsWellPart names before (storage line class) = Unit {0}
  IsWellPart names before (function line w) = Unit {0}
  IsWellPart names before (structure line kind tag ms) = (ms ≢ no_member) × AreWellMemberDeclarations names ms
  IsWellPart names before (enumeration line tag es) = AreWellEnumerators names es

  pub AreWellParts : Scope → Bool → Parts → Type 0
  AreWellParts names before no_part = Unit {0}
  AreWellParts names before (part first rest) = IsWellPart names before first × AreWellParts (with_part names first) (before || specifies first) rest

  pub AreWellMemberDeclarations : Scope → Members → Type 0
  AreWellMemberDeclarations names no_member = Unit {0}
  AreWellMemberDeclarations names (members parts ds rest) =
      (parts ≢ no_part) × are_of_member parts × AreWellParts names false parts
      × FrontIsNoTypeOfMembers (with_parts names parts) (specify parts) ds × AreWellMembers (with_parts names parts) ds
      × AreWellMemberDeclarations (with_parts names parts) rest

  pub AreWellMembers : Scope → Fulls → Type 0
  AreWellMembers names no_full = Unit {0}
  AreWellMembers names (full d ds) = (full_has_name d ≡ true) × IsWellFull names false d × AreWellMembers names ds

  -- a declarator of a parameter or of another thing
  pub IsWellFull : Scope → Bool → Full → Type 0
  IsWellFull names parameters (full_unnamed suffixes) = AreWellFullSuffixes names suffixes
  IsWellFull names parameters (full_named line n suffixes) = AreWellFullSuffixes names suffixes
  IsWellFull names parameters (full_inside line d suffixes) =
      (full_is_empty d ≡ false) × OpensNoType names parameters d × IsWellFull names parameters d × AreWellFullSuffixes names suffixes
  IsWellFull names parameters (full_pointing line qs d) = ⊥

  pub AreWellFullSuffixes : Scope → FullSuffixes → Type 0
  AreWellFullSuffixes names full_end = Unit {0}
  AreWellFullSuffixes names (full_bounded line e rest) = (3 ≤ level_of e) × IsWell names e × AreWellFullSuffixes names rest
  AreWellFullSuffixes names (full_open line rest) = AreWellFullSuffixes names rest
  AreWellFullSuffixes names (full_empty line rest) = AreWellFullSuffixes names rest
  AreWellFullSuffixes names (full_void line rest) = AreWellFullSuffixes names rest
  AreWellFullSuffixes names (full_parameters line ps variadic rest) =
      (is_void_alone ps variadic ≡ false) × AreWellParameters names ps × AreWellFullSuffixes names rest

  pub AreWellParameters : Scope → Parameters → Type 0
  AreWellParameters names no_parameter = Unit {0}
  AreWellParameters names (parameter parts d rest) =
      (parts ≢ no_part) × AreWellParts names false parts × FrontIsNoType (with_parts names parts) (specify parts) d
      × IsWellFull (with_parts names parts) true d × AreWellParameters (with_named (with_parts names parts) (have_typedef parts) d) rest

abbrev mutual
  pub IsWellInitial : Scope → Initial → Type 0
  IsWellInitial names (initial e) = (2 ≤ level_of e) × IsWell names e
  IsWellInitial names (braces line items) = AreWellInitials names items

  pub AreWellInitials : Scope → Initials → Type 0
  AreWellInitials names no_initial = Unit {0}
  AreWellInitials names (initials first rest) = IsWellInitial names first × AreWellInitials names rest

abbrev pub IsWellInitializer : Scope → Option Initial → Type 0
IsWellInitializer names None = Unit {0}
IsWellInitializer names (Some i) = IsWellInitial names i

-- Each name is declared behind its declarator and before its initializer.
abbrev pub AreWellDeclarators : Scope → Bool → Declarators → Type 0
AreWellDeclarators names types none_declared = Unit {0}
AreWellDeclarators names types (declarator d i rest) =
    (full_has_name d ≡ true) × IsWellFull names false d × IsWellInitializer ((name_of d, types) ∷ names) i
    × AreWellDeclarators ((name_of d, types) ∷ names) types rest

abbrev pub FrontIsNoTypeOfDeclarators : Scope → Bool → Declarators → Type 0
FrontIsNoTypeOfDeclarators names before none_declared = Unit {0}
FrontIsNoTypeOfDeclarators names before (declarator d i rest) = FrontIsNoType names before d

-- one specifier at least
abbrev pub IsWellDeclaration : Scope → Parts → Declarators → Type 0
IsWellDeclaration names parts ds =
    (parts ≢ no_part) × AreWellParts names false parts
    × FrontIsNoTypeOfDeclarators (with_parts names parts) (specify parts) ds
    × AreWellDeclarators (with_parts names parts) (have_typedef parts) ds

-- An `else` behind the statement would belong to an `if` in it (C11 6.8.4.1).
abbrev pub is_open : Statement → Bool
is_open (block line is) = false
is_open (if_then line test s) = true
is_open (if_else line test s u) = is_open u
is_open (evaluate e) = false
is_open (return_nothing line) = false
is_open (return_value line e) = false
is_open (empty line) = false
is_open (while_loop line e s) = is_open s
is_open (do_loop line s e) = false
is_open (for_loop line a b c s) = is_open s
is_open (for_declared line parts ds b c s) = is_open s
is_open (switch_on line e s) = is_open s
is_open (case_of line e s) = is_open s
is_open (default_of line s) = is_open s
is_open (labelled line n s) = is_open s
is_open (goto_label line n) = false
is_open (break_off line) = false
is_open (continue_on line) = false

abbrev pub IsWellMaybe : Scope → Option Tree → Type 0
IsWellMaybe names None = Unit {0}
IsWellMaybe names (Some e) = (1 ≤ level_of e) × IsWell names e

-- Each expression is of a level that its place permits, and an `else` belongs to the nearest `if` before it that has none.
-- A declaration's names hold in the items behind it, to the end of the block, or within its `for`.
abbrev mutual
  pub IsWellStatement : Scope → Statement → Type 0
  IsWellStatement names (block line is) = AreWellItems names is
  IsWellStatement names (if_then line test s) = (1 ≤ level_of test) × IsWell names test × IsWellStatement names s
  IsWellStatement names (if_else line test s u) = (1 ≤ level_of test) × IsWell names test × (is_open s ≡ false) × IsWellStatement names s × IsWellStatement names u
  IsWellStatement names (evaluate e) = (1 ≤ level_of e) × IsWell names e
  IsWellStatement names (return_nothing line) = Unit {0}
  IsWellStatement names (return_value line e) = (1 ≤ level_of e) × IsWell names e
  IsWellStatement names (empty line) = Unit {0}
  IsWellStatement names (while_loop line e s) = (1 ≤ level_of e) × IsWell names e × IsWellStatement names s
  IsWellStatement names (do_loop line s e) = IsWellStatement names s × (1 ≤ level_of e) × IsWell names e
  IsWellStatement names (for_loop line a b c s) = IsWellMaybe names a × IsWellMaybe names b × IsWellMaybe names c × IsWellStatement names s
  IsWellStatement names (for_declared line parts ds b c s) =
      IsWellDeclaration names parts ds × IsWellMaybe (with_declaration names parts ds) b × IsWellMaybe (with_declaration names parts ds) c
      × IsWellStatement (with_declaration names parts ds) s
  IsWellStatement names (switch_on line e s) = (1 ≤ level_of e) × IsWell names e × IsWellStatement names s
  IsWellStatement names (case_of line e s) = (3 ≤ level_of e) × IsWell names e × IsWellStatement names s
  IsWellStatement names (default_of line s) = IsWellStatement names s
  IsWellStatement names (labelled line n s) = IsWellStatement names s
  IsWellStatement names (goto_label line n) = Unit {0}
  IsWellStatement names (break_off line) = Unit {0}
  IsWellStatement names (continue_on line) = Unit {0}

  pub AreWellItems : Scope → Items → Type 0
  AreWellItems names done = Unit {0}
  AreWellItems names (declares parts ds rest) = IsWellDeclaration names parts ds × AreWellItems (with_declaration names parts ds) rest
  AreWellItems names (does s rest) = IsWellStatement names s × AreWellItems names rest

abbrev pub is_block : Statement → Bool
is_block (block line is) = true
is_block (if_then line test s) = false
is_block (if_else line test s u) = false
is_block (evaluate e) = false
is_block (return_nothing line) = false
is_block (return_value line e) = false
is_block (empty line) = false
is_block (while_loop line e s) = false
is_block (do_loop line s e) = false
is_block (for_loop line a b c s) = false
is_block (for_declared line parts ds b c s) = false
is_block (switch_on line e s) = false
is_block (case_of line e s) = false
is_block (default_of line s) = false
is_block (labelled line n s) = false
is_block (goto_label line n) = false
is_block (break_off line) = false
is_block (continue_on line) = false

-- A definition declares a function; its body is a block, where its name and those of its parameters are declared.
abbrev pub IsWellDefinition : Scope → Parts → Full → Statement → Type 0
IsWellDefinition names parts d body =
    (parts ≢ no_part) × AreWellParts names false parts × FrontIsNoType (with_parts names parts) (specify parts) d
    × (full_has_name d ≡ true) × (is_function d ≡ true) × IsWellFull (with_parts names parts) false d
    × (is_block body ≡ true) × IsWellStatement (with_body names parts d) body

abbrev pub AreWellExternals : Scope → Externals → Type 0
AreWellExternals names no_more = Unit {0}
AreWellExternals names (declared parts ds rest) = IsWellDeclaration names parts ds × AreWellExternals (with_declaration names parts ds) rest
AreWellExternals names (defines parts d body rest) = IsWellDefinition names parts d body × AreWellExternals (with_function names parts d) rest

-- The tree is the file's: its tokens spell it whole, something stands in it, and it has at most 400 levels.
pub record IsFile (bytes : List ℕ) (tokens : List Token) (tree : Externals) : Type 0 where
  pub spelled : SpellsFile bytes tree tokens
  pub some : tree ≢ no_more
  pub well : AreWellExternals built_in_names tree
  pub deep : file_depth tree ≤ 400
