-- The types that specifiers and declarators say (C11 6.7.2, 6.7.3, 6.7.6.2).
use Rattle.std.specs.Prelude.{ℕ, suc, ◌==◌, ◌++◌, Bool, true, false, ◌||◌, ◌&&◌, nat_le, nat_lt, List, [], ◌∷◌, length, Option, Some, None, is_none, option_map, slice_get, Result, Ok, Err, if◌then◌else◌}
use Rattle.c_tree.specs.declared.specifier.TypeWord.{TypeWord}
use Rattle.c_tree.specs.declared.specifier.TypeWord.TheVariants as words
use Rattle.c_tree.specs.declared.specifier.Qualifier.{Qualifier}
use Rattle.c_tree.specs.declared.specifier.Qualifier.TheVariants as qualifiers
use Rattle.c_tree.specs.declared.specifier.TagKind.{TagKind}
use Rattle.c_tree.specs.declared.specifier.TagKind.TheVariants as tag_kinds
use Rattle.c_tree.specs.declared.declaration.StorageClass.{StorageClass}
use Rattle.c_tree.specs.Tree.{TypePart, qualified, word, tagged, typedef_name, Declared, unnamed, named, inside, no_suffix, bounded, unbounded, pointing}
use Rattle.c_types.specs.declared.integers.IntegerType.TheVariants as types
use Rattle.c_types.specs.declared.types.ValueType.{ValueType}
use Rattle.c_types.specs.declared.types.ValueType.TheVariants.{Void, Integer}
use Rattle.c_types.specs.declared.types.RecordKind.{RecordKind}
use Rattle.c_types.specs.declared.types.RecordKind.TheVariants as record_kinds
use Rattle.c_types.specs.Types.{CType, Completed, Records}
use Rattle.c_types.specs.Types as ctypes
use Rattle.c_types.specs.Layouts.{is_complete, is_sized, size_of, most_bytes, kind_at}
use Rattle.c_scope.specs.declared.meaning.Meaning.{Meaning}
use Rattle.c_scope.specs.declared.meaning.Meaning.TheVariants.{Variable, Object, Incomplete, Assert, Assume, Draw, BuiltIn, Function, Typedef, Enumerator, Record, Enumeration}
use Rattle.c_scope.specs.declared.specifiers.Specified.{Specified}
use Rattle.c_scope.specs.Scopes.{Named, plain, Scoped, meaning_of, tag_of}
use Rattle.c_scope.specs.Faults.{◌>>=◌, required}

-- ---- the words of a type (C11 6.7.2p2)

abbrev pub word_number : TypeWord → ℕ
word_number words.Void = 0
word_number words.Char = 1
word_number words.Short = 2
word_number words.Int = 3
word_number words.Long = 4
word_number words.Signed = 5
word_number words.Unsigned = 6
word_number words.Bool = 7

abbrev pub count : TypeWord → List TypeWord → ℕ
count w [] = 0
count w (x ∷ xs) = if word_number w == word_number x then suc (count w xs) else count w xs

-- each word stands in both equally often
abbrev pub same_words : List TypeWord → List TypeWord → Bool
same_words a b =
    count words.Void a == count words.Void b
    && count words.Char a == count words.Char b
    && count words.Short a == count words.Short b
    && count words.Int a == count words.Int b
    && count words.Long a == count words.Long b
    && count words.Signed a == count words.Signed b
    && count words.Unsigned a == count words.Unsigned b
    && count words.Bool a == count words.Bool b

-- the types of void, of _Bool and of the words with `char` and `short`
abbrev pub short_words : List (List TypeWord × ValueType)
short_words =
    (words.Void ∷ [], Void)
    ∷ (words.Bool ∷ [], Integer types.Bool)
    ∷ (words.Char ∷ [], Integer types.Char)
    ∷ (words.Signed ∷ words.Char ∷ [], Integer types.SignedChar)
    ∷ (words.Unsigned ∷ words.Char ∷ [], Integer types.UnsignedChar)
    ∷ (words.Short ∷ [], Integer types.Short)
    ∷ (words.Signed ∷ words.Short ∷ [], Integer types.Short)
    ∷ (words.Short ∷ words.Int ∷ [], Integer types.Short)
    ∷ (words.Signed ∷ words.Short ∷ words.Int ∷ [], Integer types.Short)
    ∷ (words.Unsigned ∷ words.Short ∷ [], Integer types.UnsignedShort)
    ∷ (words.Unsigned ∷ words.Short ∷ words.Int ∷ [], Integer types.UnsignedShort)
    ∷ []

abbrev pub int_words : List (List TypeWord × ValueType)
int_words =
    (words.Int ∷ [], Integer types.Int)
    ∷ (words.Signed ∷ [], Integer types.Int)
    ∷ (words.Signed ∷ words.Int ∷ [], Integer types.Int)
    ∷ (words.Unsigned ∷ [], Integer types.UnsignedInt)
    ∷ (words.Unsigned ∷ words.Int ∷ [], Integer types.UnsignedInt)
    ∷ []

abbrev pub long_words : List (List TypeWord × ValueType)
long_words =
    (words.Long ∷ [], Integer types.Long)
    ∷ (words.Signed ∷ words.Long ∷ [], Integer types.Long)
    ∷ (words.Long ∷ words.Int ∷ [], Integer types.Long)
    ∷ (words.Signed ∷ words.Long ∷ words.Int ∷ [], Integer types.Long)
    ∷ (words.Unsigned ∷ words.Long ∷ [], Integer types.UnsignedLong)
    ∷ (words.Unsigned ∷ words.Long ∷ words.Int ∷ [], Integer types.UnsignedLong)
    ∷ (words.Long ∷ words.Long ∷ [], Integer types.LongLong)
    ∷ (words.Signed ∷ words.Long ∷ words.Long ∷ [], Integer types.LongLong)
    ∷ (words.Long ∷ words.Long ∷ words.Int ∷ [], Integer types.LongLong)
    ∷ (words.Signed ∷ words.Long ∷ words.Long ∷ words.Int ∷ [], Integer types.LongLong)
    ∷ (words.Unsigned ∷ words.Long ∷ words.Long ∷ [], Integer types.UnsignedLongLong)
    ∷ (words.Unsigned ∷ words.Long ∷ words.Long ∷ words.Int ∷ [], Integer types.UnsignedLongLong)
    ∷ []

-- the type of the row with the same words, in any order
abbrev pub type_in : List (List TypeWord × ValueType) → List TypeWord → Option ValueType
type_in [] ws = None
type_in (row ∷ rows) ws = if same_words row.0 ws then Some row.1 else type_in rows ws

unfoldable pub words_type : List TypeWord → Option ValueType
words_type ws = type_in (short_words ++ int_words ++ long_words) ws

-- ---- what specifiers say (C11 6.7)

-- words and the types that are named otherwise in their order, whether `const` is among them, storage words, and the lowest rule
-- that a tag or braces break
pub record Said : Type 0 where
  pub words : List TypeWord
  pub named : List CType
  pub constant : Bool
  pub storage : List StorageClass
  pub broken : Option ℕ

abbrev pub nothing_specified : Said
nothing_specified = record { words = []; named = []; constant = false; storage = []; broken = None }

abbrev pub view_specified : Specified → Said
view_specified s = record { words = s.words.items; named = ctypes.views s.named.items; constant = s.constant; storage = s.storage.items; broken = s.broken }

abbrev pub lower : ℕ → ℕ → ℕ
lower a b = if nat_lt a b then a else b

abbrev pub lowest : Option ℕ → ℕ → ℕ
lowest None rule = rule
lowest (Some other) rule = lower other rule

abbrev pub with_word : Said → TypeWord → Said
with_word s w = record s { words = s.words ++ w ∷ [] }

abbrev pub with_const : Said → Said
with_const s = record s { constant = true }

abbrev pub with_storage : Said → StorageClass → Said
with_storage s class = record s { storage = s.storage ++ class ∷ [] }

-- a type that is named by a tag, a typedef's name or braces, or the rule that is broken there, which names a type all the same
abbrev pub with_type : Said → Result Named ℕ → Said
with_type s (Ok n) = record s { named = s.named ++ n.type ∷ []; constant = s.constant || n.constant }
with_type s (Err rule) = record s { named = s.named ++ ctypes.void ∷ []; broken = Some (lowest s.broken rule) }

-- rule 1: what a typedef's name names
abbrev pub typedef_of : Scoped → Option Meaning → Result Named ℕ
typedef_of scope None = Err 1
typedef_of scope (Some (Variable v)) = Err 1
typedef_of scope (Some (Object k)) = Err 1
typedef_of scope (Some Incomplete) = Err 1
typedef_of scope (Some Assert) = Err 1
typedef_of scope (Some Assume) = Err 1
typedef_of scope (Some (Draw t)) = Err 1
typedef_of scope (Some (BuiltIn b)) = Err 1
typedef_of scope (Some (Function f)) = Err 1
typedef_of scope (Some (Typedef n)) = required 1 (slice_get scope.types n)
typedef_of scope (Some (Enumerator bits)) = Err 1
typedef_of scope (Some (Record p)) = Err 1
typedef_of scope (Some Enumeration) = Err 1

-- rule 18: the type of a tag that means this; an enumeration is an int
abbrev pub record_of : RecordKind → TagKind → ℕ → Result Named ℕ
record_of record_kinds.Struct tag_kinds.Struct p = Ok (plain (ctypes.aggregate p))
record_of record_kinds.Struct tag_kinds.Union p = Err 18
record_of record_kinds.Struct tag_kinds.Enum p = Err 18
record_of record_kinds.Union tag_kinds.Struct p = Err 18
record_of record_kinds.Union tag_kinds.Union p = Ok (plain (ctypes.aggregate p))
record_of record_kinds.Union tag_kinds.Enum p = Err 18

abbrev pub enumeration_of : TagKind → Result Named ℕ
enumeration_of tag_kinds.Struct = Err 18
enumeration_of tag_kinds.Union = Err 18
enumeration_of tag_kinds.Enum = Ok (plain (ctypes.integer types.Int))

abbrev pub tag_type : Scoped → TagKind → Meaning → Result Named ℕ
tag_type scope kind (Variable v) = Err 18
tag_type scope kind (Object k) = Err 18
tag_type scope kind Incomplete = Err 18
tag_type scope kind Assert = Err 18
tag_type scope kind Assume = Err 18
tag_type scope kind (Draw t) = Err 18
tag_type scope kind (BuiltIn b) = Err 18
tag_type scope kind (Function f) = Err 18
tag_type scope kind (Typedef n) = Err 18
tag_type scope kind (Enumerator bits) = Err 18
tag_type scope kind (Record p) = record_of (kind_at scope.records p) kind p
tag_type scope kind Enumeration = enumeration_of kind

-- a tag in a type name has to have a declaration in scope
abbrev pub tagged_type : Scoped → TagKind → List ℕ → Result Named ℕ
tagged_type scope kind name = required 1 (tag_of scope.bindings name) >>= λ m. tag_type scope kind m

-- only `const` among the qualifiers has an effect
abbrev pub with_qualifier : Said → Qualifier → Said
with_qualifier s qualifiers.Const = with_const s
with_qualifier s qualifiers.Volatile = s
with_qualifier s qualifiers.Restrict = s

abbrev pub with_part : Scoped → Said → TypePart → Said
with_part scope s (qualified line q) = with_qualifier s q
with_part scope s (word line w) = with_word s w
with_part scope s (tagged line kind name) = with_type s (tagged_type scope kind name)
with_part scope s (typedef_name line name) = with_type s (typedef_of scope (meaning_of scope.bindings name))

abbrev pub with_parts : Scoped → Said → List TypePart → Said
with_parts scope s [] = s
with_parts scope s (p ∷ ps) = with_parts scope (with_part scope s p) ps

abbrev pub value_type : ValueType → CType
value_type Void = ctypes.void
value_type (Integer t) = ctypes.integer t

-- one named type and no words, or the words of a type alone
abbrev pub type_specified : List CType → List TypeWord → Option CType
type_specified [] ws = option_map value_type (words_type ws)
type_specified (t ∷ []) [] = Some t
type_specified (t ∷ []) (w ∷ ws) = None
type_specified (t ∷ u ∷ ts) ws = None

-- and at most one storage word
abbrev pub stated_shape : Said → Option CType
stated_shape s = if nat_le (length s.storage) 1 then type_specified s.named s.words else None

abbrev pub said_by : Bool → Option ℕ → Option CType → Result Named ℕ
said_by constant broken None = Err (lowest broken 5)
said_by constant None (Some t) = Ok (record { type = t; constant = constant })
said_by constant (Some rule) (Some t) = Err rule

-- the type that specifiers say, or the lowest rule that they break
abbrev pub specified_type : Said → Result Named ℕ
specified_type s = said_by s.constant s.broken (stated_shape s)

-- the line of the first token
abbrev pub part_line : TypePart → ℕ
part_line (qualified line q) = line
part_line (word line w) = line
part_line (tagged line kind name) = line
part_line (typedef_name line name) = line

abbrev pub parts_line : List TypePart → ℕ
parts_line [] = 0
parts_line (p ∷ ps) = part_line p

-- ---- what declarators make of a type (C11 6.7.6.2)

-- the line of the first token of a declarator, of which an empty one has none
abbrev pub declared_line : Declared → ℕ
declared_line (unnamed no_suffix) = 0
declared_line (unnamed (bounded line e rest)) = line
declared_line (unnamed (unbounded line rest)) = line
declared_line (named line n suffixes) = line
declared_line (inside line d suffixes) = line
declared_line (pointing line qs d) = line

-- rule 4: an array has from 1 to 2,147,483,647 elements, and at most so many bytes
abbrev pub sized_array : List Completed → CType → Option ℕ → Option CType
sized_array done element None = None
sized_array done element (Some n) = if nat_le 1 n && nat_le n most_bytes && is_sized done (ctypes.array element n) then Some (ctypes.array element n) else None

-- rule 3: the element is complete
abbrev pub one_array : List Completed → CType → Option ℕ → Result CType ℕ
one_array done element n = if is_complete done element then required 4 (sized_array done element n) else Err 3

-- arrays of these lengths, the outermost first, each judged alone
abbrev pub arrays_of : List Completed → CType → List (Option ℕ) → Result CType ℕ
arrays_of done t [] = Ok t
arrays_of done t (n ∷ ns) = arrays_of done t ns >>= λ element. one_array done element n

-- whether `[]` is among lengths
abbrev pub has_open : List (Option ℕ) → Bool
has_open [] = false
has_open (n ∷ ns) = is_none n || has_open ns

-- whether it is among those behind the outermost
abbrev pub has_open_element : List (Option ℕ) → Bool
has_open_element [] = false
has_open_element (n ∷ ns) = has_open ns

-- the type with arrays of these lengths, the outermost first; rule 3: an array of no length is incomplete, so it is no element
abbrev pub array_of : List Completed → CType → List (Option ℕ) → Result CType ℕ
array_of done t ns = if has_open_element ns then Err 3 else arrays_of done t ns

-- the type with arrays of these lengths as an element's
abbrev pub element_type : List Completed → CType → List (Option ℕ) → Result CType ℕ
element_type done t ns = if has_open ns then Err 3 else arrays_of done t ns

-- the bytes of a complete type
abbrev pub type_size : List Completed → CType → Result ℕ ℕ
type_size done t = if is_complete done t then (if is_sized done t then Ok (size_of done t) else Err 4) else Err 3
