-- The names of a file's declarators are identifiers.
use Rattle.std.proofs.Common.{◌≡◌, ◌⊎◌, ℕ, zero, suc, ◌+◌, ◌<◌, ◌≤◌, Bool, true, false, ◌||◌, List, [], ◌∷◌, ◌++◌, length, take, drop, Option, Some, None, Result, Ok, Err, refl, sym, ap, subst, ◌∙◌, arith, inl, inr, All}
use Rattle.std.specs.Prelude.{◌==◌, ◌&&◌, nat_le, nat_lt, not, is_some, if◌then◌else◌, slice_index}
use Rattle.std.specs.Option.{option_map_or}
use Rattle.std.specs.Char.{is_ascii_digit, is_ascii_alphabetic}
use Rattle.std.proofs.lemmas.Bool.{false≢true}
use Rattle.std.proofs.lemmas.List.Elements.{All-head, All-drop}
use Rattle.std.proofs.lemmas.Bool.Decides.{nat_tests}
use Rattle.c_lexer.specs.declared.class.Class.{Class}
use Rattle.c_lexer.specs.declared.class.Class.TheVariants as classes
use Rattle.c_lexer.specs.Bytes as bytes_of_text
use Rattle.c_lexer.specs.Bytes.{class_of, letter_class, digit_class}
use Rattle.c_token.specs.Spelling.{keyword_of, mark_of}
use Rattle.c_lexer.specs.Constants.{constant_of}
use Rattle.c_lexer.specs.Literals.{string_bytes, character_byte}
use Rattle.c_lexer.specs.Forms.{begins, runs_on, in_word, is_word, is_number, is_literal}
use Rattle.c_lexer.specs.Kinds.{is_foreign, word_kind, number_kind, literal_kind, mark_kind, int_bits, kind_of, IsSpelled, AllSpelled}
use Rattle.c_token.specs.Spelling.{text_of}
use Rattle.c_token.specs.declared.token.Token.{Token}
use Rattle.c_token.specs.declared.token.Kind.{Kind}
use Rattle.c_token.specs.declared.token.Kind.TheVariants as kinds
use Rattle.c_lexer.specs.declared.fault.Fault.{Fault}
use Rattle.c_lexer.specs.declared.fault.Fault.TheVariants as faults
use Rattle.c_tree.specs.Names.{Scope, built_in_names}
use Rattle.c_tree.specs.Spelling.{Single, Behind, Then, Nothing, IsMark, Names}
use Rattle.c_tree.specs.Tree.{Tree}
use Rattle.c_tree.specs.Declarations.{Parts, Full, full_unnamed, full_named, full_inside, full_pointing, Initial, Declarators, none_declared, declarator, name_of, full_has_name, have_typedef, with_parts, with_body, with_function, with_declaration}
use Rattle.c_tree.specs.Statements.{Statement, block, if_then, if_else, evaluate, return_nothing, return_value, empty, while_loop, do_loop, for_loop, for_declared, switch_on, case_of, default_of, labelled, goto_label, break_off, continue_on, Items, done, declares, does, Externals, no_more, declared, defines}
use Rattle.c_tree.specs.Files.{SpellsFull, SpellsOthers, SpellsDeclarators, SpellsDeclaration, SpellsStatement, SpellsItems, SpellsFile, SpellsTest, SpellsHeader, IsWellStatement, AreWellItems, AreWellDeclarators, IsWellDeclaration, IsWellDefinition, AreWellExternals, IsFile}
use Rattle.report.specs.Identifiers.{is_letter, is_digit, is_word_byte, all_word_bytes, is_identifier}
use Rattle.cbmc_top.specs.Spelled.{HasSpelling}
use Rattle.cbmc_top.proofs.FunctionNames.{AreNamed, StatementNamed, ItemsNamed, FileNamed}

-- ---- identifiers

both_true : (a b : Bool) → a ≡ true → b ≡ true → (a && b) ≡ true
both_true a b h g = λ i. h i && g i

left_of : (a b : Bool) → (a && b) ≡ true → a ≡ true
left_of true b h = refl
left_of false b h = h

right_of : (a b : Bool) → (a && b) ≡ true → b ≡ true
right_of true b h = h
right_of false b h = absurd (false≢true h)

either_left : (a b : Bool) → a ≡ true → (a || b) ≡ true
either_left true b h = refl
either_left false b h = absurd (false≢true h)

either_right : (a b : Bool) → b ≡ true → (a || b) ≡ true
either_right true b h = refl
either_right false b h = h

one_of : (a b : Bool) → (a || b) ≡ true → (a ≡ true) ⊎ (b ≡ true)
one_of true b h = inl refl
one_of false b h = inr h

class_letter : (a d q s : Bool) → letter_class (if a then classes.Letter else (if d then classes.Digit else (if q then classes.Quote else (if s then classes.Space else classes.Other)))) ≡ true → a ≡ true
class_letter true d q s h = refl
class_letter false true q s h = absurd (false≢true h)
class_letter false false true s h = absurd (false≢true h)
class_letter false false false true h = absurd (false≢true h)
class_letter false false false false h = absurd (false≢true h)

class_digit : (a d q s : Bool) → digit_class (if a then classes.Letter else (if d then classes.Digit else (if q then classes.Quote else (if s then classes.Space else classes.Other)))) ≡ true → d ≡ true
class_digit true d q s h = absurd (false≢true h)
class_digit false true q s h = refl
class_digit false false true s h = absurd (false≢true h)
class_digit false false false true h = absurd (false≢true h)
class_digit false false false false h = absurd (false≢true h)

alphabetic : (b : ℕ) → (is_ascii_alphabetic b || b == 95) ≡ true → is_letter b ≡ true
alphabetic b h = grind (arith, nat_tests)

ascii_digit : (b : ℕ) → is_ascii_digit b ≡ true → is_digit b ≡ true
ascii_digit b h = grind (arith, nat_tests)

letter_is : (b : ℕ) → bytes_of_text.is_letter b ≡ true → is_letter b ≡ true
unfolding class_of
letter_is b h = alphabetic b (class_letter (is_ascii_alphabetic b || b == 95) (is_ascii_digit b) (b == 34 || b == 39) (b == 32 || (nat_le 9 b && nat_le b 13)) h)

digit_is : (b : ℕ) → bytes_of_text.is_digit b ≡ true → is_digit b ≡ true
unfolding class_of
digit_is b h = ascii_digit b (class_digit (is_ascii_alphabetic b || b == 95) (is_ascii_digit b) (b == 34 || b == 39) (b == 32 || (nat_le 9 b && nat_le b 13)) h)

word_byte_is : (b : ℕ) → bytes_of_text.is_word_byte b ≡ true → is_word_byte b ≡ true
word_byte_is b h = by_class (one_of (bytes_of_text.is_letter b) (bytes_of_text.is_digit b) h)
  where
    by_class : (bytes_of_text.is_letter b ≡ true) ⊎ (bytes_of_text.is_digit b ≡ true) → is_word_byte b ≡ true
    by_class (inl l) = either_left (is_letter b) (is_digit b) (letter_is b l)
    by_class (inr d) = either_right (is_letter b) (is_digit b) (digit_is b d)

word_bytes_are : (a : ℕ) (bs : List ℕ) → runs_on in_word a bs ≡ true → all_word_bytes bs ≡ true
word_bytes_are a [] h = refl
word_bytes_are a (b ∷ bs) h =
    both_true (is_word_byte b) (all_word_bytes bs) (word_byte_is b (left_of (bytes_of_text.is_word_byte b) (runs_on in_word b bs) h)) (word_bytes_are b bs (right_of (bytes_of_text.is_word_byte b) (runs_on in_word b bs) h))

word_is : (text : List ℕ) → is_word text ≡ true → is_identifier text ≡ true
word_is [] h = absurd (false≢true h)
word_is (b ∷ bs) h =
    both_true (is_letter b) (all_word_bytes bs) (letter_is b (left_of (bytes_of_text.is_letter b) (runs_on in_word b bs) h)) (word_bytes_are b bs (right_of (bytes_of_text.is_letter b) (runs_on in_word b bs) h))

-- ---- the text of an identifier

abbrev IsNoName : Result Kind Fault → Type 0
IsNoName r = r ≡ Ok kinds.Identifier → ⊥

number_no_name : (text : List ℕ) → IsNoName (number_kind text)
unfolding number_kind
number_no_name text = by_constant (constant_of text)
  where
    by_constant : (c : _) → option_map_or (λ c. Ok (kinds.Constant c)) c (Err faults.BadConstant) ≡ Ok kinds.Identifier → ⊥
    by_constant None h = cc
    by_constant (Some c) h = cc

literal_no_name : (text : List ℕ) → IsNoName (literal_kind text)
unfolding literal_kind
literal_no_name text = by_quote (begins (λ b. b == 34) text) (is_some (string_bytes text)) (character_byte text)
  where
    by_quote : (q s : Bool) (c : Option ℕ) → (if q then (if s then Ok kinds.String else Err faults.BadConstant) else option_map_or (λ byte. Ok (kinds.Character (int_bits byte))) c (Err faults.BadConstant)) ≡ Ok kinds.Identifier → ⊥
    by_quote true true c h = cc
    by_quote true false c h = cc
    by_quote false s None h = cc
    by_quote false s (Some byte) h = cc

mark_no_name : (text : List ℕ) → IsNoName (mark_kind text)
unfolding mark_kind
mark_no_name text = by_mark (mark_of text)
  where
    by_mark : (m : _) → option_map_or (λ m. Ok (kinds.Mark m)) m (Err faults.BadByte) ≡ Ok kinds.Identifier → ⊥
    by_mark None h = cc
    by_mark (Some m) h = cc

name_is_word : (text : List ℕ) → kind_of text ≡ Ok kinds.Identifier → is_word text ≡ true
unfolding kind_of
name_is_word text h = by_kind (is_word text) (is_number text) (is_literal text) h
  where
    by_kind : (w n l : Bool) → (if w then word_kind text else (if n then number_kind text else (if l then literal_kind text else mark_kind text))) ≡ Ok kinds.Identifier → w ≡ true
    by_kind true n l h = refl
    by_kind false true l h = absurd (number_no_name text h)
    by_kind false false true h = absurd (literal_no_name text h)
    by_kind false false false h = absurd (mark_no_name text h)

-- ---- tokens

abbrev IsNamed : List ℕ → Token → Type 0
IsNamed bytes token = token.kind ≡ kinds.Identifier → is_identifier (text_of bytes token) ≡ true

abbrev AllNamed : List ℕ → List Token → Type 0
AllNamed bytes [] = Unit {0}
AllNamed bytes (t ∷ ts) = IsNamed bytes t × AllNamed bytes ts

named_left : (bytes : List ℕ) (xs ys : List Token) → AllNamed bytes (xs ++ ys) → AllNamed bytes xs
named_left bytes [] ys all = tt
named_left bytes (x ∷ xs) ys all = (all.0, named_left bytes xs ys all.1)

named_right : (bytes : List ℕ) (xs ys : List Token) → AllNamed bytes (xs ++ ys) → AllNamed bytes ys
named_right bytes [] ys all = all
named_right bytes (x ∷ xs) ys all = named_right bytes xs ys all.1

named_both : (bytes : List ℕ) (xs ys : List Token) → AllNamed bytes xs → AllNamed bytes ys → AllNamed bytes (xs ++ ys)
named_both bytes [] ys first second = second
named_both bytes (x ∷ xs) ys first second = (first.0, named_both bytes xs ys first.1 second)

spelled_named : (bytes : List ℕ) (tokens : List Token) → AllSpelled bytes tokens → AllNamed bytes tokens
spelled_named bytes [] all = tt
spelled_named bytes (t ∷ ts) all =
    let here : IsSpelled bytes t = All-head (IsSpelled bytes) t ts all in
    ((λ is_name. word_is (text_of bytes t) (name_is_word (text_of bytes t) (here.kind ∙ ap (λ (k : Kind). Ok k) is_name))), spelled_named bytes ts (All-drop (IsSpelled bytes) 1 (t ∷ ts) all))

-- ---- trees

abbrev pub IsIdentifier : List ℕ → Type 0
IsIdentifier name = is_identifier name ≡ true

module _ (bytes : List ℕ) where
  abbrev All_ : List Token → Type 0
  All_ tokens = AllNamed bytes tokens

  whole_of : (xs ys : List Token) → xs ≡ ys → All_ xs → All_ ys
  whole_of xs ys same all = subst (λ (ts : List Token). All_ ts) same all

  full_named_so : (d : Full) (tokens : List Token) → full_has_name d ≡ true → SpellsFull bytes d tokens → All_ tokens → IsIdentifier (name_of d)
  full_named_so (full_unnamed suffixes) tokens has spelled all = absurd (false≢true has)
  full_named_so (full_named line n suffixes) tokens has spelled all =
      let first = whole_of tokens (spelled.token ∷ spelled.rest) spelled.whole all in
      subst IsIdentifier spelled.is.text (first.0 spelled.is.kind)
  full_named_so (full_inside line d suffixes) tokens has spelled all =
      let rest = (whole_of tokens (spelled.token ∷ spelled.rest) spelled.whole all).1 in
      let parts = spelled.behind in
      full_named_so d parts.left has parts.first (named_left bytes parts.left parts.right (whole_of spelled.rest (parts.left ++ parts.right) parts.whole rest))
  full_named_so (full_pointing line qs d) tokens has spelled all =
      let rest = (whole_of tokens (spelled.token ∷ spelled.rest) spelled.whole all).1 in
      let parts = spelled.behind in
      full_named_so d parts.right has parts.second (named_right bytes parts.left parts.right (whole_of spelled.rest (parts.left ++ parts.right) parts.whole rest))

  left : (A B : List Token → Type 0) (tokens : List Token) (t : Then A B tokens) → All_ tokens → All_ t.left
  left A B tokens t all = named_left bytes t.left t.right (whole_of tokens (t.left ++ t.right) t.whole all)

  right : (A B : List Token → Type 0) (tokens : List Token) (t : Then A B tokens) → All_ tokens → All_ t.right
  right A B tokens t all = named_right bytes t.left t.right (whole_of tokens (t.left ++ t.right) t.whole all)

  after : (P : Token → Type 0) (B : List Token → Type 0) (tokens : List Token) (b : Behind P B tokens) → All_ tokens → All_ b.rest
  after P B tokens b all = (whole_of tokens (b.token ∷ b.rest) b.whole all).1

  others_named : (names : Scope) (types : Bool) (ds : Declarators) (tokens : List Token) → SpellsOthers bytes ds tokens → AreWellDeclarators names types ds → All_ tokens → AreNamed IsIdentifier ds
  others_named names types none_declared tokens spelled well all = tt
  others_named names types (declarator d i rest) tokens spelled well all =
      let inner = after _ _ tokens spelled all in
      let one = spelled.behind in
      let two = one.second in
      (full_named_so d one.left well.0 one.first (left _ _ spelled.rest one inner), others_named _ types rest two.right two.second well.3 (right _ _ one.right two (right _ _ spelled.rest one inner)))

  declarators_named : (names : Scope) (types : Bool) (ds : Declarators) (tokens : List Token) → SpellsDeclarators bytes ds tokens → AreWellDeclarators names types ds → All_ tokens → AreNamed IsIdentifier ds
  declarators_named names types none_declared tokens spelled well all = tt
  declarators_named names types (declarator d i rest) tokens spelled well all =
      let two = spelled.second in
      (full_named_so d spelled.left well.0 spelled.first (left _ _ tokens spelled all), others_named _ types rest two.right two.second well.3 (right _ _ spelled.right two (right _ _ tokens spelled all)))

  declaration_named : (names : Scope) (parts : Parts) (ds : Declarators) (tokens : List Token) → SpellsDeclaration bytes parts ds tokens → IsWellDeclaration names parts ds → All_ tokens → AreNamed IsIdentifier ds
  declaration_named names parts ds tokens spelled well all = declarators_named (with_parts names parts) (have_typedef parts) ds spelled.right spelled.second well.3 (right _ _ tokens spelled all)

  mutual
    statement_named : (names : Scope) (s : Statement) (tokens : List Token) → SpellsStatement bytes s tokens → IsWellStatement names s → All_ tokens → StatementNamed IsIdentifier s
    statement_named names (block line is) tokens spelled well all = items_named names is spelled.rest spelled.behind well (after _ _ tokens spelled all)
    statement_named names (if_then line test s) tokens spelled well all =
        let a = after _ _ tokens spelled all in
        let b = after _ _ spelled.rest spelled.behind a in
        let t = spelled.behind.behind in
        let c = right _ _ spelled.behind.rest t b in
        statement_named names s t.second.rest t.second.behind well.2 (after _ _ t.right t.second c)
    statement_named names (if_else line test s u) tokens spelled well all =
        let a = after _ _ tokens spelled all in
        let b = after _ _ spelled.rest spelled.behind a in
        let t = spelled.behind.behind in
        let c = after _ _ t.right t.second (right _ _ spelled.behind.rest t b) in
        let w = t.second.behind in
        (statement_named names s w.left w.first well.3 (left _ _ t.second.rest w c), statement_named names u w.second.rest w.second.behind well.4 (after _ _ w.right w.second (right _ _ t.second.rest w c)))
    statement_named names (evaluate e) tokens spelled well all = tt
    statement_named names (return_nothing line) tokens spelled well all = tt
    statement_named names (return_value line e) tokens spelled well all = tt
    statement_named names (empty line) tokens spelled well all = tt
    statement_named names (while_loop line test s) tokens spelled well all =
        let t = spelled.behind.behind in
        statement_named names s t.second.rest t.second.behind well.2 (after _ _ t.right t.second (right _ _ spelled.behind.rest t (after _ _ spelled.rest spelled.behind (after _ _ tokens spelled all))))
    statement_named names (do_loop line s test) tokens spelled well all =
        let t = spelled.behind in statement_named names s t.left t.first well.0 (left _ _ spelled.rest t (after _ _ tokens spelled all))
    statement_named names (for_loop line first test last s) tokens spelled well all =
        let a = after _ _ spelled.rest spelled.behind (after _ _ tokens spelled all) in
        let t = spelled.behind.behind in
        let c = after _ _ t.right t.second (right _ _ spelled.behind.rest t a) in
        let h = t.second.behind in
        let e = after _ _ h.right h.second (right _ _ t.second.rest h c) in
        let u = h.second.behind in
        statement_named names s u.second.rest u.second.behind well.3 (after _ _ u.right u.second (right _ _ h.second.rest u e))
    statement_named names (for_declared line parts ds test last s) tokens spelled well all =
        let a = after _ _ spelled.rest spelled.behind (after _ _ tokens spelled all) in
        let t = spelled.behind.behind in
        let h = t.second in
        let d = right _ _ spelled.behind.rest t a in
        let e = after _ _ h.right h.second (right _ _ t.right h d) in
        let u = h.second.behind in
        (declaration_named names parts ds t.left t.first well.0 (left _ _ spelled.behind.rest t a), statement_named (with_declaration names parts ds) s u.second.rest u.second.behind well.3 (after _ _ u.right u.second (right _ _ h.second.rest u e)))
    statement_named names (switch_on line value s) tokens spelled well all =
        let t = spelled.behind.behind in
        statement_named names s t.second.rest t.second.behind well.2 (after _ _ t.right t.second (right _ _ spelled.behind.rest t (after _ _ spelled.rest spelled.behind (after _ _ tokens spelled all))))
    statement_named names (case_of line value s) tokens spelled well all =
        let t = spelled.behind in
        statement_named names s t.second.rest t.second.behind well.2 (after _ _ t.right t.second (right _ _ spelled.rest t (after _ _ tokens spelled all)))
    statement_named names (default_of line s) tokens spelled well all =
        statement_named names s spelled.behind.rest spelled.behind.behind well (after _ _ spelled.rest spelled.behind (after _ _ tokens spelled all))
    statement_named names (labelled line n s) tokens spelled well all =
        statement_named names s spelled.behind.rest spelled.behind.behind well (after _ _ spelled.rest spelled.behind (after _ _ tokens spelled all))
    statement_named names (goto_label line n) tokens spelled well all = tt
    statement_named names (break_off line) tokens spelled well all = tt
    statement_named names (continue_on line) tokens spelled well all = tt

    items_named : (names : Scope) (is : Items) (tokens : List Token) → SpellsItems bytes is tokens → AreWellItems names is → All_ tokens → ItemsNamed IsIdentifier is
    items_named names done tokens spelled well all = tt
    items_named names (declares parts ds rest) tokens spelled well all =
        (declaration_named names parts ds spelled.left spelled.first well.0 (left _ _ tokens spelled all), items_named (with_declaration names parts ds) rest spelled.right spelled.second well.1 (right _ _ tokens spelled all))
    items_named names (does s rest) tokens spelled well all =
        (statement_named names s spelled.left spelled.first well.0 (left _ _ tokens spelled all), items_named names rest spelled.right spelled.second well.1 (right _ _ tokens spelled all))

  externals_named : (names : Scope) (file : Externals) (tokens : List Token) → SpellsFile bytes file tokens → AreWellExternals names file → All_ tokens → FileNamed IsIdentifier file
  externals_named names no_more tokens spelled well all = tt
  externals_named names (declared parts ds rest) tokens spelled well all =
      (declaration_named names parts ds spelled.left spelled.first well.0 (left _ _ tokens spelled all), externals_named (with_declaration names parts ds) rest spelled.right spelled.second well.1 (right _ _ tokens spelled all))
  externals_named names (defines parts d body rest) tokens spelled well all =
      let one = spelled.first in
      let two = one.second in
      let inner = left _ _ tokens spelled all in
      let behind_parts = right _ _ spelled.left one inner in
      let w = well.0 in (
        full_named_so d two.left w.3 two.first (left _ _ one.right two behind_parts),
        statement_named (with_body names parts d) body two.right two.second w.7 (right _ _ one.right two behind_parts),
        externals_named (with_function names parts d) rest spelled.right spelled.second well.1 (right _ _ tokens spelled all),
      )

-- each declarator's name is an identifier
pub file_named : (bytes : List ℕ) (tree : Externals) → HasSpelling bytes tree → FileNamed IsIdentifier tree
file_named bytes tree h = externals_named bytes built_in_names tree h.tokens h.is_tree.spelled h.is_tree.well (spelled_named bytes h.tokens h.spelled)
