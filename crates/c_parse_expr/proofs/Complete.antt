-- What stands there is read.
use Rattle.std.proofs.Common.{◌≡◌, ◌≤◌, ◌+◌, ℕ, zero, suc, List, [], ◌∷◌, ◌++◌, length, Bool, true, false, cond, Option, Some, None, refl, ap, sym, ◌∙◌, arith}
use Rattle.std.proofs.Common.{length-append}
use Rattle.c_token.specs.declared.token.Token.{Token}
use Rattle.c_token.specs.declared.token.Kind.TheVariants as kinds
use Rattle.c_token.specs.declared.token.Constant.{Constant}
use Rattle.c_token.specs.declared.token.Mark.TheVariants as marks
use Rattle.c_token.specs.Spelling.{text_of}
use Rattle.c_tree.specs.declared.expr.BinaryOp.{BinaryOp}
use Rattle.c_tree.specs.declared.expr.UnaryOp.{UnaryOp}
use Rattle.c_tree.specs.declared.expr.StepOp.{StepOp}
use Rattle.c_tree.specs.Tree.{TypePart, Tree, Trees, Declared, Suffixes, constant, character, strings, name, parens, unary, address, dereference, cast, sizeof_expr, sizeof_type, step, member, arrow, subscript, binary, choice, assign, comma, call, none, more, unnamed, named, inside, pointing, no_suffix, bounded, unbounded, depth, depth_of}
use Rattle.c_tree.specs.Names.{Scope, is_type}
use Rattle.c_tree.specs.Tables.{strength_of, operand_level, level_of}
use Rattle.c_tree.specs.Spelling.{Spells, SpellsArguments, SpellsRest, IsWell, AreWell, has_name}
use Rattle.c_parse_expr.specs.declared.table.Lead.TheVariants as leads
use Rattle.c_parse_expr.specs.declared.table.Suffix.TheVariants as suffixes
use Rattle.c_parse_expr.specs.Tables.{suffix_of}
use Rattle.c_parse_expr.specs.inner.Many.{◌>>=◌}
use Rattle.c_parse_expr.specs.Reading.{goes_on}
use Rattle.c_parse_expr.specs.inner.Reading.{Read, Reader, DeclaredReader, behind, closed, rest_at, arguments_at, identifier_at, begins_type, type_behind, type_name_at, grouped, sized, sizeof_at, prefixed, suffixed, reader, declared_at}
use Rattle.c_parse_expr.specs.Standing.{goes_on_inside, suffix_at, Stands, DeclaredStands}
use Rattle.c_parse_expr.proofs.Marks.{behaves_so, close_is, some_is}
use Rattle.c_parse_expr.proofs.Steps.{behind_gives, first_false, second_false}
use Rattle.c_parse_expr.proofs.Within.{quiet, has_depth}
use Rattle.c_parse_expr.proofs.CompleteSteps.{Complete, seam, from_token, begins_again, finish, mark_is, inside_some, ends_some, before, goes_again, First, first_of, first_token, no_type_first, not_first, no_type_behind}
use Rattle.c_parse_expr.proofs.CompleteWords.{identifier_read, strings_read, specifiers_begin}
use Rattle.c_parse_expr.proofs.CompleteDeclared.{SuffixesAgain, DeclaredAgain, suffixes_none, suffixes_bounded, suffixes_unbounded, again_unnamed, again_named, again_inside, type_read}

again_name : (bytes : List ℕ) (names : Scope) (line : ℕ) (n : List ℕ) → Complete bytes names (name line n)
unfolding prefixed
again_name bytes names line text n k own rest s w d l i = (
  suc n,
  omega arith,
  ap (reader bytes names (suc n) k) (from_token own rest [] s.token s.whole)
      ∙ begins_again bytes names n k leads.Name s.token rest rest (name line text) s.is.kind l
      (ap (λ (b : Bool). cond {A = Read} b None (Some (name s.token.line (text_of bytes s.token), rest))) (ap (is_type names) s.is.text ∙ w)
      ∙ ap (λ (x : ℕ). Some (name x (text_of bytes s.token), rest)) s.is.line ∙ ap (λ (x : List ℕ). Some (name line x, rest)) s.is.text),
)

again_constant : (bytes : List ℕ) (names : Scope) (line : ℕ) (c : Constant) → Complete bytes names (constant line c)
unfolding prefixed
again_constant bytes names line c n k own rest s w d l i = (
  suc n,
  omega arith,
  ap (reader bytes names (suc n) k) (from_token own rest [] s.token s.whole)
      ∙ begins_again bytes names n k (leads.Constant c) s.token rest rest (constant line c) s.is.kind l (ap (λ (x : ℕ). Some (constant x c, rest)) s.is.line),
)

again_character : (bytes : List ℕ) (names : Scope) (line c : ℕ) → Complete bytes names (character line c)
unfolding prefixed
again_character bytes names line c n k own rest s w d l i = (
  suc n,
  omega arith,
  ap (reader bytes names (suc n) k) (from_token own rest [] s.token s.whole)
      ∙ begins_again bytes names n k (leads.Character c) s.token rest rest (character line c) s.is.kind l (ap (λ (x : ℕ). Some (character x c, rest)) s.is.line),
)

again_strings : (bytes : List ℕ) (names : Scope) (line : ℕ) (parts : List (List ℕ)) → Complete bytes names (strings line parts)
unfolding prefixed
again_strings bytes names line [] n k own rest s w d l i = absurd s
again_strings bytes names line (part ∷ parts) n k own rest s w d l i = (
  suc n,
  omega arith,
  ap (reader bytes names (suc n) k) (from_token own rest s.rest s.token s.whole)
      ∙ begins_again bytes names n k leads.Strings s.token (s.rest ++ rest) rest (strings line (part ∷ parts)) s.is.kind l
      (ap (λ (o : Option (List (List ℕ) × List Token)). o >>= λ x. Some (strings s.token.line x.0, x.1)) (strings_read bytes (text_of bytes s.token) parts s.rest rest s.behind i)
      ∙ ap (λ (x : ℕ). Some (strings x (text_of bytes s.token ∷ parts), rest)) s.is.line ∙ ap (λ (x : List ℕ). Some (strings line (x ∷ parts), rest)) s.is.text),
)

parens_read : (bytes : List ℕ) (names : Scope) (sub : Reader) (declared : DeclaredReader) (line : ℕ) (e : Tree) (ts rest : List Token) (t : Token) → begins_type bytes names ts ≡ false → sub 1 ts ≡ Some (e, t ∷ rest) → t.kind ≡ kinds.Mark marks.RightParenthesis → grouped bytes names sub declared line ts ≡ Some (parens line e, rest)
unfolding grouped
parens_read bytes names sub declared line e ts rest t untyped one is =
    ap (λ (b : Bool). cond {A = Read} b (type_name_at bytes names declared ts >>= λ x. sub 14 x.1 >>= λ e. Some (cast line x.0.0 x.0.1 e.0, e.1)) (sub 1 ts >>= λ a. behind marks.RightParenthesis a.1 >>= λ rest. Some (parens line a.0, rest))) untyped
    ∙ ap (λ (o : Read). o >>= λ a. behind marks.RightParenthesis a.1 >>= λ rest. Some (parens line a.0, rest)) one
    ∙ ap (λ (o : Option (List Token)). o >>= λ rest. Some (parens line e, rest)) (behind_gives marks.RightParenthesis t rest true (mark_is marks.RightParenthesis t.kind true marks.RightParenthesis is refl))

again_parens : (bytes : List ℕ) (names : Scope) (line : ℕ) (e : Tree) → Complete bytes names e → Complete bytes names (parens line e)
unfolding prefixed
again_parens bytes names line e again n k own rest s w d l i =
    let inner = s.behind in
    let close = inner.second in
    let one = before bytes names e again n 1 inner.left rest close.token inner.first w.1 (omega arith) w.0 (ap suffix_of close.is) in
    let where_ = seam s.rest inner.left inner.right rest inner.whole ∙ ap (λ (xs : List Token). inner.left ++ xs) (from_token inner.right rest [] close.token close.whole) in (
      suc n,
      (let h = has_depth e in omega arith),
      ap (reader bytes names (suc n) k) (from_token own rest s.rest s.token s.whole ∙ ap (λ (xs : List Token). s.token ∷ xs) where_)
          ∙ begins_again bytes names n k leads.Group s.token (inner.left ++ (close.token ∷ rest)) rest (parens line e) s.is.kind l
          (parens_read bytes names (reader bytes names n) (declared_at bytes names n) s.token.line e (inner.left ++ (close.token ∷ rest)) rest close.token
          (no_type_first bytes names e inner.left (close.token ∷ rest) inner.first w.1) one close.is
          ∙ ap (λ (x : ℕ). Some (parens x e, rest)) s.is.line),
    )

pub cast_read : (bytes : List ℕ) (names : Scope) (sub : Reader) (declared : DeclaredReader) (line : ℕ) (parts : List TypePart) (d : Declared) (e : Tree) (ts mid rest : List Token) → begins_type bytes names ts ≡ true → type_name_at bytes names declared ts ≡ Some ((parts, d), mid) → sub 14 mid ≡ Some (e, rest) → grouped bytes names sub declared line ts ≡ Some (cast line parts d e, rest)
unfolding grouped
cast_read bytes names sub declared line parts d e ts mid rest begun one two =
    ap (λ (b : Bool). cond {A = Read} b (type_name_at bytes names declared ts >>= λ x. sub 14 x.1 >>= λ e. Some (cast line x.0.0 x.0.1 e.0, e.1)) (sub 1 ts >>= λ a. behind marks.RightParenthesis a.1 >>= λ rest. Some (parens line a.0, rest))) begun
    ∙ ap (λ (o : Option ((List TypePart × Declared) × List Token)). o >>= λ x. sub 14 x.1 >>= λ e. Some (cast line x.0.0 x.0.1 e.0, e.1)) one
    ∙ ap (λ (o : Read). o >>= λ e. Some (cast line parts d e.0, e.1)) two

again_cast : (bytes : List ℕ) (names : Scope) (line : ℕ) (parts : List TypePart) (d : Declared) (e : Tree) → DeclaredAgain bytes names d → Complete bytes names e → Complete bytes names (cast line parts d e)
unfolding prefixed
again_cast bytes names line parts d e first second n k own rest s w h l i =
    let one = s.behind in
    let two = one.second in
    let close = two.second in
    let left = one.left in
    let middle = two.left in
    let where_ = seam s.rest left one.right rest one.whole ∙ ap (λ (xs : List Token). left ++ xs)
    (seam one.right middle two.right rest two.whole ∙ ap (λ (xs : List Token). middle ++ xs) (from_token two.right rest close.rest close.token close.whole)) in
    let ts = left ++ (middle ++ (close.token ∷ (close.rest ++ rest))) in (
      suc n,
      omega arith,
      ap (reader bytes names (suc n) k) (from_token own rest s.rest s.token s.whole ∙ ap (λ (xs : List Token). s.token ∷ xs) where_)
          ∙ begins_again bytes names n k leads.Group s.token ts rest (cast line parts d e) s.is.kind l
          (cast_read bytes names (reader bytes names n) (declared_at bytes names n) s.token.line parts d e ts (close.rest ++ rest) rest
          (specifiers_begin bytes names parts left (middle ++ (close.token ∷ (close.rest ++ rest))) one.first w.0)
          (type_read bytes names n parts d first left middle (close.rest ++ rest) close.token one.first two.first close.is w.0 w.1 w.2 (omega arith))
          (finish bytes names e second n 14 close.rest rest close.behind w.4 (omega arith) w.3
          (second_false (suffix_at rest) (goes_on 14 (level_of e)) (goes_on_inside e) i)
          (first_false (suffix_at rest) (goes_on 14 (level_of e)) (goes_on_inside e) i))
          ∙ ap (λ (x : ℕ). Some (cast x parts d e, rest)) s.is.line),
    )

sizeof_expr_read : (bytes : List ℕ) (names : Scope) (sub : Reader) (declared : DeclaredReader) (line : ℕ) (e : Tree) (ts rest : List Token) → type_behind bytes names (behind marks.LeftParenthesis ts) ≡ None → sub 15 ts ≡ Some (e, rest) → sizeof_at bytes names sub declared line ts ≡ Some (sizeof_expr line e, rest)
unfolding sizeof_at
sizeof_expr_read bytes names sub declared line e ts rest untyped one =
    ap (λ (o : Option (List Token)). sized bytes names sub declared line ts o) untyped ∙ ap (λ (o : Read). o >>= λ e. Some (sizeof_expr line e.0, e.1)) one

again_sizeof_expr : (bytes : List ℕ) (names : Scope) (line : ℕ) (e : Tree) → Complete bytes names e → Complete bytes names (sizeof_expr line e)
unfolding prefixed
again_sizeof_expr bytes names line e again n k own rest s w d l i =
    let one = finish bytes names e again n 15 s.rest rest s.behind w.1 (omega arith) w.0
    (second_false (suffix_at rest) (goes_on 15 (level_of e)) (goes_on_inside e) i)
    (first_false (suffix_at rest) (goes_on 15 (level_of e)) (goes_on_inside e) i) in (
      suc n,
      omega arith,
      ap (reader bytes names (suc n) k) (from_token own rest s.rest s.token s.whole)
          ∙ begins_again bytes names n k leads.Sizeof s.token (s.rest ++ rest) rest (sizeof_expr line e) s.is.kind l
          (sizeof_expr_read bytes names (reader bytes names n) (declared_at bytes names n) s.token.line e (s.rest ++ rest) rest (no_type_behind bytes names e s.rest rest s.behind w.1 w.0) one
          ∙ ap (λ (x : ℕ). Some (sizeof_expr x e, rest)) s.is.line),
    )

sizeof_type_read : (bytes : List ℕ) (names : Scope) (sub : Reader) (declared : DeclaredReader) (line : ℕ) (parts : List TypePart) (d : Declared) (t : Token) (ts rest : List Token) → t.kind ≡ kinds.Mark marks.LeftParenthesis → begins_type bytes names ts ≡ true → type_name_at bytes names declared ts ≡ Some ((parts, d), rest) → sizeof_at bytes names sub declared line (t ∷ ts) ≡ Some (sizeof_type line parts d, rest)
unfolding sizeof_at
sizeof_type_read bytes names sub declared line parts d t ts rest is begun one =
    ap (λ (o : Option (List Token)). sized bytes names sub declared line (t ∷ ts) (type_behind bytes names o)) (behind_gives marks.LeftParenthesis t ts true (mark_is marks.LeftParenthesis t.kind true marks.LeftParenthesis is refl))
    ∙ ap (λ (b : Bool). sized bytes names sub declared line (t ∷ ts) (cond {A = Option (List Token)} b (Some ts) None)) begun
    ∙ ap (λ (o : Option ((List TypePart × Declared) × List Token)). o >>= λ x. Some (sizeof_type line x.0.0 x.0.1, x.1)) one

again_sizeof_type : (bytes : List ℕ) (names : Scope) (line : ℕ) (parts : List TypePart) (d : Declared) → DeclaredAgain bytes names d → Complete bytes names (sizeof_type line parts d)
unfolding prefixed
again_sizeof_type bytes names line parts d first n k own rest s w h l i =
    let paren = s.behind in
    let one = paren.behind in
    let two = one.second in
    let close = two.second in
    let left = one.left in
    let middle = two.left in
    let where_ = from_token s.rest rest paren.rest paren.token paren.whole ∙ ap (λ (xs : List Token). paren.token ∷ xs)
    (seam paren.rest left one.right rest one.whole ∙ ap (λ (xs : List Token). left ++ xs)
    (seam one.right middle two.right rest two.whole ∙ ap (λ (xs : List Token). middle ++ xs) (from_token two.right rest [] close.token close.whole))) in
    let ts = left ++ (middle ++ (close.token ∷ rest)) in (
      suc n,
      omega arith,
      ap (reader bytes names (suc n) k) (from_token own rest s.rest s.token s.whole ∙ ap (λ (xs : List Token). s.token ∷ xs) where_)
          ∙ begins_again bytes names n k leads.Sizeof s.token (paren.token ∷ ts) rest (sizeof_type line parts d) s.is.kind l
          (sizeof_type_read bytes names (reader bytes names n) (declared_at bytes names n) s.token.line parts d paren.token ts rest paren.is
          (specifiers_begin bytes names parts left (middle ++ (close.token ∷ rest)) one.first w.0)
          (type_read bytes names n parts d first left middle rest close.token one.first two.first close.is w.0 w.1 w.2 (omega arith))
          ∙ ap (λ (x : ℕ). Some (sizeof_type x parts d, rest)) s.is.line),
    )

again_unary : (bytes : List ℕ) (names : Scope) (line : ℕ) (op : UnaryOp) (e : Tree) → Complete bytes names e → Complete bytes names (unary line op e)
unfolding prefixed
again_unary bytes names line op e again n k own rest s w d l i =
    let one = finish bytes names e again n (operand_level op) s.rest rest s.behind w.1 (omega arith) w.0
    (second_false (suffix_at rest) (goes_on (operand_level op) (level_of e)) (goes_on_inside e) i)
    (first_false (suffix_at rest) (goes_on (operand_level op) (level_of e)) (goes_on_inside e) i) in (
      suc n,
      omega arith,
      ap (reader bytes names (suc n) k) (from_token own rest s.rest s.token s.whole)
          ∙ begins_again bytes names n k (leads.Unary op) s.token (s.rest ++ rest) rest (unary line op e) s.is.kind l
          (ap (λ (o : Read). o >>= λ a. Some (unary s.token.line op a.0, a.1)) one
          ∙ ap (λ (x : ℕ). Some (unary x op e, rest)) s.is.line),
    )

again_binary : (bytes : List ℕ) (names : Scope) (line : ℕ) (op : BinaryOp) (a b : Tree) → Complete bytes names a → Complete bytes names b → Complete bytes names (binary line op a b)
unfolding suffixed
again_binary bytes names line op a b first second n k own rest s w d l i =
    let t = s.second in
    let one = finish bytes names b second n (strength_of op + 1) t.rest rest t.behind w.3 (omega arith) w.1
    (second_false (suffix_at rest) (goes_on (strength_of op + 1) (level_of b)) (goes_on_inside b) i)
    (first_false (suffix_at rest) (goes_on (strength_of op + 1) (level_of b)) (goes_on_inside b) i) in
    goes_again bytes names a (binary line op a b) first (suffixes.Operator op) n k line own s.left s.right t.rest rest t.token s.first w.2 s.whole t.whole
    (behaves_so t.token.kind (suffixes.Operator op) t.is.kind) t.is.line l w.0 (omega (arith, w.0)) (omega arith) (omega arith)
    (ap (λ (o : Read). o >>= λ b. Some (binary line op a b.0, b.1)) one)

again_assign : (bytes : List ℕ) (names : Scope) (line : ℕ) (op : Option BinaryOp) (a b : Tree) → Complete bytes names a → Complete bytes names b → Complete bytes names (assign line op a b)
unfolding suffixed
again_assign bytes names line op a b first second n k own rest s w d l i =
    let t = s.second in
    let one = finish bytes names b second n 2 t.rest rest t.behind w.3 (omega arith) w.1
    (second_false (suffix_at rest) (goes_on 2 (level_of b)) (goes_on_inside b) i)
    (first_false (suffix_at rest) (goes_on 2 (level_of b)) (goes_on_inside b) i) in
    goes_again bytes names a (assign line op a b) first (suffixes.Becomes op) n k line own s.left s.right t.rest rest t.token s.first w.2 s.whole t.whole
    (behaves_so t.token.kind (suffixes.Becomes op) t.is.kind) t.is.line l w.0 (omega (arith, w.0)) (omega arith) (omega arith)
    (ap (λ (o : Read). o >>= λ b. Some (assign line op a b.0, b.1)) one)

again_comma : (bytes : List ℕ) (names : Scope) (line : ℕ) (a b : Tree) → Complete bytes names a → Complete bytes names b → Complete bytes names (comma line a b)
unfolding suffixed
again_comma bytes names line a b first second n k own rest s w d l i =
    let t = s.second in
    let one = finish bytes names b second n 2 t.rest rest t.behind w.3 (omega arith) w.1
    (second_false (suffix_at rest) (goes_on 2 (level_of b)) (goes_on_inside b) i)
    (first_false (suffix_at rest) (goes_on 2 (level_of b)) (goes_on_inside b) i) in
    goes_again bytes names a (comma line a b) first suffixes.Then n k line own s.left s.right t.rest rest t.token s.first w.2 s.whole t.whole
    (behaves_so t.token.kind suffixes.Then t.is.kind) t.is.line l w.0 (omega (arith, w.0)) (omega arith) (omega arith)
    (ap (λ (o : Read). o >>= λ b. Some (comma line a b.0, b.1)) one)

again_step : (bytes : List ℕ) (names : Scope) (line : ℕ) (op : StepOp) (a : Tree) → Complete bytes names a → Complete bytes names (step line op a)
unfolding suffixed
again_step bytes names line op a first n k own rest s w d l i =
    let t = s.second in
    goes_again bytes names a (step line op a) first (suffixes.Step op) n k line own s.left s.right [] rest t.token s.first w.1 s.whole t.whole
    (behaves_so t.token.kind (suffixes.Step op) t.is.kind) t.is.line l w.0 (omega (arith, w.0)) (omega arith) (omega arith)
    (ap (λ (o : Read). o) refl)

again_member : (bytes : List ℕ) (names : Scope) (line : ℕ) (a : Tree) (text : List ℕ) → Complete bytes names a → Complete bytes names (member line a text)
unfolding suffixed
again_member bytes names line a text first n k own rest s w d l i =
    let t = s.second in
    let id = t.behind in
    goes_again bytes names a (member line a text) first suffixes.Member n k line own s.left s.right t.rest rest t.token s.first w.1 s.whole t.whole
    (behaves_so t.token.kind suffixes.Member t.is.kind) t.is.line l w.0 (omega (arith, w.0)) (omega arith) (omega arith)
    (ap (λ (o : Option (List ℕ × List Token)). o >>= λ x. Some (member line a x.0, x.1))
    (ap (identifier_at bytes) (from_token t.rest rest [] id.token id.whole) ∙ identifier_read bytes text id.token rest id.is.kind id.is.text))

again_choice : (bytes : List ℕ) (names : Scope) (line : ℕ) (a b c : Tree) → Complete bytes names a → Complete bytes names b → Complete bytes names c → Complete bytes names (choice line a b c)
unfolding suffixed
again_choice bytes names line a b c first second third n k own rest s w d l i =
    let t = s.second in
    let mid = t.behind in
    let colon = mid.second in
    let two = before bytes names b second n 1 mid.left (colon.rest ++ rest) colon.token mid.first w.4 (omega arith) w.1 (ap suffix_of colon.is) in
    let gives = behind_gives marks.Colon colon.token (colon.rest ++ rest) true (mark_is marks.Colon colon.token.kind true marks.Colon colon.is refl) in
    let three = finish bytes names c third n 3 colon.rest rest colon.behind w.5 (omega arith) w.2
    (second_false (suffix_at rest) (goes_on 3 (level_of c)) (goes_on_inside c) i)
    (first_false (suffix_at rest) (goes_on 3 (level_of c)) (goes_on_inside c) i) in
    let where_ = seam t.rest mid.left mid.right rest mid.whole ∙ ap (λ (xs : List Token). mid.left ++ xs) (from_token mid.right rest colon.rest colon.token colon.whole) in
    goes_again bytes names a (choice line a b c) first suffixes.Choice n k line own s.left s.right t.rest rest t.token s.first w.3 s.whole t.whole
    (behaves_so t.token.kind suffixes.Choice t.is.kind) t.is.line l w.0 (omega (arith, w.0)) (omega arith) (omega arith)
    (ap (λ (xs : List Token). reader bytes names n 1 xs >>= λ x. behind marks.Colon x.1 >>= λ r. reader bytes names n 3 r >>= λ y. Some (choice line a x.0 y.0, y.1)) where_
    ∙ ap (λ (o : Read). o >>= λ x. behind marks.Colon x.1 >>= λ r. reader bytes names n 3 r >>= λ y. Some (choice line a x.0 y.0, y.1)) two
    ∙ ap (λ (o : Option (List Token)). o >>= λ r. reader bytes names n 3 r >>= λ y. Some (choice line a b y.0, y.1)) gives
    ∙ ap (λ (o : Read). o >>= λ y. Some (choice line a b y.0, y.1)) three)

-- an argument in front of a comma
before_comma : (bytes : List ℕ) (names : Scope) (e : Tree) → Complete bytes names e → (n : ℕ) (own rest : List Token) (tok : Token) → Spells bytes e own → IsWell names e → depth e ≤ n → 2 ≤ level_of e → tok.kind ≡ kinds.Mark marks.Comma → reader bytes names n 2 (own ++ (tok ∷ rest)) ≡ Some (e, tok ∷ rest)
before_comma bytes names e again n own rest tok s w d l is =
    finish bytes names e again n 2 own (tok ∷ rest) s w d l
    (inside_some e tok rest suffixes.Then (ap suffix_of is) (quiet names e suffixes.Then (omega arith) w))
    (ends_some 2 e tok rest suffixes.Then (ap suffix_of is) refl)

-- the arguments that are left
abbrev pub RestAgain : List ℕ → Scope → Trees → Type 0
RestAgain bytes names args = (n m : ℕ) (own rest : List Token) → SpellsRest bytes args own → AreWell names args → depth_of args ≤ n → length own ≤ m → rest_at m (reader bytes names n) (own ++ rest) ≡ Some (args, rest)

-- an argument in front of those that are left
argument : (bytes : List ℕ) (names : Scope) (a : Tree) (aa : Trees) → Complete bytes names a → (n : ℕ) (own others rest : List Token) → Spells bytes a own → IsWell names a → depth a ≤ n → 2 ≤ level_of a → SpellsRest bytes aa others → reader bytes names n 2 (own ++ (others ++ rest)) ≡ Some (a, others ++ rest)
argument bytes names a none again n own others rest s w d l r =
    ap (λ (xs : List Token). reader bytes names n 2 (own ++ xs)) (from_token others rest [] r.token r.whole)
    ∙ before bytes names a again n 2 own rest r.token s w d l (ap suffix_of r.is)
    ∙ ap (λ (xs : List Token). Some (a, xs)) (sym (from_token others rest [] r.token r.whole))
argument bytes names a (more b bs) again n own others rest s w d l r =
    ap (λ (xs : List Token). reader bytes names n 2 (own ++ xs)) (from_token others rest r.rest r.token r.whole)
    ∙ before_comma bytes names a again n own (r.rest ++ rest) r.token s w d l r.is
    ∙ ap (λ (xs : List Token). Some (a, xs)) (sym (from_token others rest r.rest r.token r.whole))

rest_none : (bytes : List ℕ) (names : Scope) → RestAgain bytes names none
unfolding rest_at
rest_none bytes names n zero own rest s w d h = absurd (omega (arith, ap (λ (xs : List Token). length xs) s.whole))
rest_none bytes names n (suc m) own rest s w d h =
    ap (λ (xs : List Token). rest_at (suc m) (reader bytes names n) xs) (from_token own rest [] s.token s.whole)
    ∙ ap (λ (o : Option (List Token)). closed o (behind marks.Comma (s.token ∷ rest) >>= λ r. reader bytes names n 2 r >>= λ a. rest_at m (reader bytes names n) a.1 >>= λ b. Some (more a.0 b.0, b.1)))
    (behind_gives marks.RightParenthesis s.token rest true (mark_is marks.RightParenthesis s.token.kind true marks.RightParenthesis s.is refl))

rest_more : (bytes : List ℕ) (names : Scope) (a : Tree) (aa : Trees) → Complete bytes names a → RestAgain bytes names aa → RestAgain bytes names (more a aa)
unfolding rest_at
rest_more bytes names a aa again others n zero own rest s w d h = absurd (omega (arith, ap (λ (xs : List Token). length xs) s.whole))
rest_more bytes names a aa again others n (suc m) own rest s w d h =
    let two = s.behind in
    let long = ap (λ (xs : List Token). length xs) s.whole in
    let parts = ap (λ (xs : List Token). length xs) two.whole ∙ length-append two.left two.right in
    let where_ = from_token own rest s.rest s.token s.whole in
    ap (λ (xs : List Token). rest_at (suc m) (reader bytes names n) xs) where_
    ∙ ap (λ (o : Option (List Token)). closed o (behind marks.Comma (s.token ∷ (s.rest ++ rest)) >>= λ r. reader bytes names n 2 r >>= λ a. rest_at m (reader bytes names n) a.1 >>= λ b. Some (more a.0 b.0, b.1)))
    (behind_gives marks.RightParenthesis s.token (s.rest ++ rest) false (mark_is marks.RightParenthesis s.token.kind false marks.Comma s.is refl))
    ∙ ap (λ (o : Option (List Token)). o >>= λ r. reader bytes names n 2 r >>= λ a. rest_at m (reader bytes names n) a.1 >>= λ b. Some (more a.0 b.0, b.1))
    (behind_gives marks.Comma s.token (s.rest ++ rest) true (mark_is marks.Comma s.token.kind true marks.Comma s.is refl))
    ∙ ap (λ (o : Read). o >>= λ a. rest_at m (reader bytes names n) a.1 >>= λ b. Some (more a.0 b.0, b.1))
    (ap (reader bytes names n 2) (seam s.rest two.left two.right rest two.whole) ∙ argument bytes names a aa again n two.left two.right rest two.first w.1 (omega arith) w.0 two.second)
    ∙ ap (λ (o : Option (Trees × List Token)). o >>= λ b. Some (more a b.0, b.1))
    (others n m two.right rest two.second w.2 (omega arith) (omega (arith, long, parts)))

-- all the arguments
abbrev pub ArgumentsAgain : List ℕ → Scope → Trees → Type 0
ArgumentsAgain bytes names args = (n : ℕ) (own rest : List Token) → SpellsArguments bytes args own → AreWell names args → depth_of args ≤ n → arguments_at (reader bytes names n) (own ++ rest) ≡ Some (args, rest)

arguments_none : (bytes : List ℕ) (names : Scope) → ArgumentsAgain bytes names none
unfolding arguments_at
arguments_none bytes names n own rest s w d =
    ap (λ (xs : List Token). arguments_at (reader bytes names n) xs) (from_token own rest [] s.token s.whole)
    ∙ ap (λ (o : Option (List Token)). closed o (reader bytes names n 2 (s.token ∷ rest) >>= λ a. rest_at (length (s.token ∷ rest) + 1) (reader bytes names n) a.1 >>= λ b. Some (more a.0 b.0, b.1)))
    (behind_gives marks.RightParenthesis s.token rest true (mark_is marks.RightParenthesis s.token.kind true marks.RightParenthesis s.is refl))

open_first : (bytes : List ℕ) (names : Scope) (own rest : List Token) (sub : Reader) → First bytes names own → arguments_at sub (own ++ rest) ≡ (sub 2 (own ++ rest) >>= λ a. rest_at (length (own ++ rest) + 1) sub a.1 >>= λ b. Some (more a.0 b.0, b.1))
unfolding arguments_at
open_first bytes names own rest sub f =
    ap (λ (o : Option (List Token)). closed o (sub 2 (own ++ rest) >>= λ a. rest_at (length (own ++ rest) + 1) sub a.1 >>= λ b. Some (more a.0 b.0, b.1))) (not_first bytes names marks.RightParenthesis close_is refl own rest f)

arguments_more : (bytes : List ℕ) (names : Scope) (a : Tree) (aa : Trees) → Complete bytes names a → RestAgain bytes names aa → ArgumentsAgain bytes names (more a aa)
arguments_more bytes names a aa again others n own rest s w d =
    let long = ap (λ (xs : List Token). length xs) (seam own s.left s.right rest s.whole) ∙ length-append s.left (s.right ++ rest) in
    let parts = length-append s.right rest in
    open_first bytes names own rest (reader bytes names n) (first_of bytes names own s.left s.right s.whole (first_token bytes names a s.left s.first w.1))
    ∙ ap (λ (o : Read). o >>= λ a. rest_at (length (own ++ rest) + 1) (reader bytes names n) a.1 >>= λ b. Some (more a.0 b.0, b.1))
    (ap (reader bytes names n 2) (seam own s.left s.right rest s.whole) ∙ argument bytes names a aa again n s.left s.right rest s.first w.1 (omega arith) w.0 s.second)
    ∙ ap (λ (o : Option (Trees × List Token)). o >>= λ b. Some (more a b.0, b.1))
    (others n (length (own ++ rest) + 1) s.right rest s.second w.2 (omega arith) (omega (arith, long, parts)))

again_call : (bytes : List ℕ) (names : Scope) (f : Tree) (args : Trees) → Complete bytes names f → ArgumentsAgain bytes names args → Complete bytes names (call f args)
unfolding suffixed
again_call bytes names f args first others n k own rest s w d l i =
    let t = s.second in
    goes_again bytes names f (call f args) first suffixes.Arguments n k t.token.line own s.left s.right t.rest rest t.token s.first w.1 s.whole t.whole
    (behaves_so t.token.kind suffixes.Arguments t.is) refl l w.0 (omega (arith, w.0)) (omega arith) (omega arith)
    (ap (λ (o : Option (Trees × List Token)). o >>= λ b. Some (call f b.0, b.1)) (others n t.rest rest t.behind w.2 (omega arith)))

mutual
  pub again : (bytes : List ℕ) (names : Scope) (t : Tree) → Complete bytes names t
  again bytes names (constant line c) = again_constant bytes names line c
  again bytes names (character line c) = again_character bytes names line c
  again bytes names (strings line parts) = again_strings bytes names line parts
  again bytes names (name line n) = again_name bytes names line n
  again bytes names (parens line e) = again_parens bytes names line e (again bytes names e)
  again bytes names (unary line op e) = again_unary bytes names line op e (again bytes names e)
  again bytes names (address line e) = λ n k own rest s w h l i. absurd w
  again bytes names (dereference line e) = λ n k own rest s w h l i. absurd w
  again bytes names (cast line parts d e) = again_cast bytes names line parts d e (declared_again bytes names d) (again bytes names e)
  again bytes names (sizeof_expr line e) = again_sizeof_expr bytes names line e (again bytes names e)
  again bytes names (sizeof_type line parts d) = again_sizeof_type bytes names line parts d (declared_again bytes names d)
  again bytes names (step line op e) = again_step bytes names line op e (again bytes names e)
  again bytes names (member line e n) = again_member bytes names line e n (again bytes names e)
  again bytes names (arrow line e n) = λ n k own rest s w h l i. absurd w
  again bytes names (subscript line a b) = λ n k own rest s w h l i. absurd w
  again bytes names (binary line op a b) = again_binary bytes names line op a b (again bytes names a) (again bytes names b)
  again bytes names (choice line a b c) = again_choice bytes names line a b c (again bytes names a) (again bytes names b) (again bytes names c)
  again bytes names (assign line op a b) = again_assign bytes names line op a b (again bytes names a) (again bytes names b)
  again bytes names (comma line a b) = again_comma bytes names line a b (again bytes names a) (again bytes names b)
  again bytes names (call f args) = again_call bytes names f args (again bytes names f) (all_again bytes names args)

  all_again : (bytes : List ℕ) (names : Scope) (args : Trees) → ArgumentsAgain bytes names args
  all_again bytes names none = arguments_none bytes names
  all_again bytes names (more a aa) = arguments_more bytes names a aa (again bytes names a) (rest_again bytes names aa)

  rest_again : (bytes : List ℕ) (names : Scope) (args : Trees) → RestAgain bytes names args
  rest_again bytes names none = rest_none bytes names
  rest_again bytes names (more a aa) = rest_more bytes names a aa (again bytes names a) (rest_again bytes names aa)

  pub declared_again : (bytes : List ℕ) (names : Scope) (d : Declared) → DeclaredAgain bytes names d
  declared_again bytes names (unnamed ss) = again_unnamed bytes names ss (suffixes_again bytes names ss)
  declared_again bytes names (named line n ss) = again_named bytes names line n ss (suffixes_again bytes names ss)
  declared_again bytes names (inside line d ss) = again_inside bytes names line d ss (declared_again bytes names d) (suffixes_again bytes names ss)
  declared_again bytes names (pointing line qs d) = λ n own rest s w deep e. absurd w

  suffixes_again : (bytes : List ℕ) (names : Scope) (ss : Suffixes) → SuffixesAgain bytes names ss
  suffixes_again bytes names no_suffix = suffixes_none bytes names
  suffixes_again bytes names (bounded line e ss) = suffixes_bounded bytes names line e ss (again bytes names e) (suffixes_again bytes names ss)
  suffixes_again bytes names (unbounded line ss) = suffixes_unbounded bytes names line ss (suffixes_again bytes names ss)

-- what stands there is read
pub is_read : (bytes : List ℕ) (names : Scope) (n k : ℕ) (t : Tree) (tokens rest : List Token) → Stands bytes names n k t tokens rest → reader bytes names n k tokens ≡ Some (t, rest)
is_read bytes names n k t tokens rest s =
    ap (reader bytes names n k) s.front ∙ finish bytes names t (again bytes names t) n k s.own rest s.spelled s.well s.deep s.level s.inside s.ends

pub no_tree : (bytes : List ℕ) (names : Scope) (n k : ℕ) (tokens : List Token) → reader bytes names n k tokens ≡ None → (t : Tree) (rest : List Token) → Stands bytes names n k t tokens rest → ⊥
no_tree bytes names n k tokens e t rest s = let f = is_read bytes names n k t tokens rest s in cc

pub one_tree : (bytes : List ℕ) (names : Scope) (n k : ℕ) (t u : Tree) (tokens rest others : List Token) → Stands bytes names n k t tokens rest → Stands bytes names n k u tokens others → (t ≡ u) × (rest ≡ others)
one_tree bytes names n k t u tokens rest others s r =
    let e = is_read bytes names n k t tokens rest s in
    let f = is_read bytes names n k u tokens others r in
    let g = some_is (sym e ∙ f) in
    (ap (λ (x : Tree × List Token). x.0) g, ap (λ (x : Tree × List Token). x.1) g)

-- the same of a declarator
pub is_declared : (bytes : List ℕ) (names : Scope) (n : ℕ) (with_name : Bool) (d : Declared) (tokens rest : List Token) → DeclaredStands bytes names n with_name d tokens rest → declared_at bytes names n with_name tokens ≡ Some (d, rest)
is_declared bytes names n with_name d tokens rest s =
    ap (λ (b : Bool). declared_at bytes names n b tokens) (sym s.declarator_start) ∙ ap (declared_at bytes names n (has_name d)) s.front
    ∙ declared_again bytes names d n s.own rest s.spelled s.well s.deep s.ends

pub no_declared : (bytes : List ℕ) (names : Scope) (n : ℕ) (with_name : Bool) (tokens : List Token) → declared_at bytes names n with_name tokens ≡ None → (d : Declared) (rest : List Token) → DeclaredStands bytes names n with_name d tokens rest → ⊥
no_declared bytes names n with_name tokens e d rest s = let f = is_declared bytes names n with_name d tokens rest s in cc

pub one_declared : (bytes : List ℕ) (names : Scope) (n : ℕ) (with_name : Bool) (d e : Declared) (tokens rest others : List Token) → DeclaredStands bytes names n with_name d tokens rest → DeclaredStands bytes names n with_name e tokens others → (d ≡ e) × (rest ≡ others)
one_declared bytes names n with_name d e tokens rest others s r =
    let f = is_declared bytes names n with_name d tokens rest s in
    let g = is_declared bytes names n with_name e tokens others r in
    let h = some_is (sym f ∙ g) in
    (ap (λ (x : Declared × List Token). x.0) h, ap (λ (x : Declared × List Token). x.1) h)
